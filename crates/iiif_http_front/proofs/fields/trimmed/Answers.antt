use Rattle.std.proofs.Common.{◌≡◌, ℕ, List, length, reverse, slice_range, sym, ap, ◌∙◌, arith}
use Rattle.std.proofs.lemmas.List.{reverse-reverse}
use Rattle.httparse.specs.Grammar.{skip_ows, trim_ows}
use Rattle.httparse.proofs.TrimLemmas.{skip_ows_yes, skip_ows_no, slice_first, slice_last, slice_empty}
use Rattle.iiif_http_front.proofs.fields.trimmed.Goals.{then-loop-start-test+else-is_space_or_tab, else-loop-start-test}
use Rattle.iiif_http_front.proofs.fields.trimmed.Goals.{then-loop-end-test+else-is_space_or_tab-2, else-loop-end-test}
use Rattle.iiif_http_front.proofs.fields.trimmed.Goals as goal

pub loop-end-init : goal.loop-end-init
unfolding trim_ows
loop-end-init c =
    let bytes = c.args.bytes.now in
    let here = slice_range bytes c.loop-start.start (length bytes) in
    let stays : skip_ows here ≡ here =
    elim c.loop-start-test.branch [
      | then-loop-start-test+else-is_space_or_tab w ↦
          let first = slice_first bytes _ _ w.loop-start-test.true (omega arith) in
          skip_ows_no first w.if-is_space_or_tab.ensures
      | else-loop-start-test w ↦
          let empty = slice_empty bytes c.loop-start.start (length bytes) (omega arith) (omega arith) in
          ap skip_ows empty ∙ sym empty
    ] in (
      omega arith,
      omega arith,
      ap (λ (t : List ℕ). reverse (skip_ows (reverse t))) (c.loop-start.invariant.2 ∙ stays),
    )

pub loop-end-preserved : goal.loop-end-preserved
loop-end-preserved c =
    let last = slice_last c.args.bytes.now _ _ c.loop-end-test.true (omega arith) in (
      omega arith,
      omega arith,
      c.loop-end.invariant.2
          ∙ ap reverse (skip_ows_yes last c.if-is_space_or_tab-2.ensures),
    )

pub returns : goal.returns
returns c =
    let bytes = c.args.bytes.now in
    elim c.loop-end-test.branch [
      | then-loop-end-test+else-is_space_or_tab-2 w ↦
          let last = slice_last bytes _ _ w.loop-end-test.true (omega arith) in
          sym (c.loop-end.invariant.2 ∙ ap reverse (skip_ows_no last w.if-is_space_or_tab-2.ensures) ∙ reverse-reverse _)
      | else-loop-end-test w ↦
          let empty = slice_empty bytes c.loop-start.start c.loop-end.end (omega arith) (omega arith) in
          let tail = c.loop-end.invariant.2 ∙ ap (λ (t : List ℕ). reverse (skip_ows (reverse t))) empty in
          empty ∙ sym tail
    ]
