use Rattle.std.proofs.Common.{arith, sym, ◌∙◌}
use Rattle.iiif_http_front.proofs.LineLemmas.{too_many}
use Rattle.iiif_http_front.proofs.SearchLemmas.{call_begins, body_announced, call_said}
use Rattle.iiif_http_front.proofs.search.find_call.Goals as goal

pub returns-then-announce_body : goal.returns-then-announce_body
returns-then-announce_body c =
    let found = (rw c.in-Ok-Complete.field-0-is at c.in-Ok-Complete.ensures).complete in
    body_announced _ _ c.in-Ok-Complete.head found.0 found.1 (sym c.announce_body.ensures ∙ c.if-announce_body.true)

pub returns-in_default : goal.returns-in_default
returns-in_default c =
    let found = (rw c.in-Ok-Complete.field-0-is at c.in-Ok-Complete.ensures).complete in
    let within = (rw c.in-Ok-Complete.field-0-is at c.in-Ok-Complete.ensures).within in
    let bare = sym c.announce_body.ensures ∙ c.if-announce_body.false in (
      found.0,
      _,
      call_begins _ _ c.in-Ok-Complete.head found.0 found.1 (omega arith) (omega (arith, within.section.len_fits, c.requires))
          bare,
    )

pub returns-in_default-from_slice : goal.returns-in_default-from_slice
returns-in_default-from_slice c =
    let found = (rw c.in-Ok-Complete.field-0-is at c.in-Ok-Complete.ensures).complete in
    let within = (rw c.in-Ok-Complete.field-0-is at c.in-Ok-Complete.ensures).within in
    let bare = sym c.announce_body.ensures ∙ c.if-announce_body.false in (
      found.0,
      _,
      call_begins _ _ c.in-Ok-Complete.head found.0 found.1 (omega arith) (omega (arith, within.section.len_fits, c.requires))
          bare,
    )

pub returns-in-Ok-from_slice : goal.returns-in-Ok-from_slice
returns-in-Ok-from_slice c =
    let found = (rw c.in-Ok-Complete.field-0-is at c.in-Ok-Complete.ensures).complete in
    let within = (rw c.in-Ok-Complete.field-0-is at c.in-Ok-Complete.ensures).within in
    let bare = sym c.announce_body.ensures ∙ c.if-announce_body.false in (
      within.section.len_fits,
      (
        found.0,
        call_begins _ _ c.in-Ok-Complete.head found.0 found.1 (omega arith) (omega (arith, within.section.len_fits, c.requires)) bare,
        call_said _ _ c.in-Ok-Complete.head found.0 _ found.1 (c.in-Ok.ensures ∙ c.of.ensures)
            (c.in-Ok-from_slice.ensures.items ∙ c.of-in-Ok-Complete.ensures) c.close_connection-close.ensures,
      ),
    )

pub returns-in-Ok-Partial : goal.returns-in-Ok-Partial
returns-in-Ok-Partial c =
    let found = rw c.in-Ok-Partial.field-0-is at c.in-Ok-Partial.ensures.partial in
    too_many c.args.bytes.now c.whole_lines.result found c.whole_lines.ensures c.if-whole_lines-gt65.true
