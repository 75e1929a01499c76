use Rattle.std.proofs.Common.{◌-◌, ℕ, List, ◌++◌, take, arith, ◌∙◌, ap, sym, refl}
use Rattle.iiif_http_front.proofs.BufferLemmas.{slice_range-with_items, slice_range-with_items_none, slice_range-copy_within}
use Rattle.iiif_http_front.proofs.BufferLemmas.{unread_length, OnErr-both}
use Rattle.iiif_http_front.proofs.unread.Unread.fill.Goals as goal

pub returns-in_err-count-clause-kept : goal.returns-in_err-count-clause-kept
returns-in_err-count-clause-kept g c =
    let unread = c.self.inside in
    let moved = slice_range-copy_within unread.bytes.items _ unread.start unread.end c.copy_within.ensures.items (omega arith) (omega arith)
    in
    let stays = slice_range-with_items_none c.copy_within.new.self c.deref_mut.result.now c.pull.new.buffer 0 (unread.end - unread.start) _
    c.deref_mut.ensures.value c.deref_mut.ensures.len refl (omega arith) (omega arith) (omega arith) in
    OnErr-both _ (stays ∙ moved ∙ c.self.view_is) c.in_err-count.ensures.bytes

pub returns-clause-came : goal.returns-clause-came
returns-clause-came g c =
    let unread = c.self.inside in
    let read = c.in_ok-count.ensures in
    let moved = slice_range-copy_within unread.bytes.items _ unread.start unread.end c.copy_within.ensures.items (omega arith) (omega arith)
    in
    let grown = slice_range-with_items c.copy_within.new.self c.deref_mut.result.now c.pull.new.buffer 0 (unread.end - unread.start) _
    c.in_ok-count.count
    c.deref_mut.ensures.value c.deref_mut.ensures.len refl (omega arith) (omega arith) (omega arith) read.bound.0 in (
      take c.in_ok-count.count c.pull.new.buffer,
      sym read.bound.1,
      grown ∙ ap (λ (t : List ℕ). t ++ take c.in_ok-count.count c.pull.new.buffer) (moved ∙ c.self.view_is),
      read.bytes.0,
      read.gave,
    )

pub returns-clause-end : goal.returns-clause-end
returns-clause-end g c =
    let unread = c.self.inside in
    let held = unread_length unread.bytes.items _ unread.start unread.end c.self.view_is (omega arith) (omega arith) in
    λ none. c.in_ok-count.ensures.bytes.1 none (omega (arith, held, c.requires))
