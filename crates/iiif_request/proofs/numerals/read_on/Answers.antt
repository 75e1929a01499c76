use Rattle.std.proofs.Common.{arith, ◌∙◌, sym, ap, ℕ, drop, ◌+◌, ◌-◌, ◌*◌, get_or}
use Rattle.std.specs.Str.Parse.{digits_value_after}
use Rattle.std.proofs.lemmas.Str.Parse.{digit_at}
use Rattle.iiif_request.proofs.NumeralLemmas.{digits_value_after_le, digits_value_after_more}
use Rattle.iiif_request.proofs.numerals.read_on.Goals as goal

pub overflow_mul-value : goal.overflow_mul-value
overflow_mul-value c =
    let all = c.args.digits.now in
    let i = c.loop-digit.digit-index in
    let more = digits_value_after_more c.loop-digit.value all i c.requires.digits c.loop-digit-test.true in
    omega (
      arith,
      more,
      c.loop-digit.invariant,
      digits_value_after_le (c.loop-digit.value * 10 + (get_or all i 0 - 48)) (drop (i + 1) all),
      c.requires.fits,
    )

pub overflow_sub-digit : goal.overflow_sub-digit
overflow_sub-digit c = (digit_at _ _ c.requires.digits c.loop-digit-test.true).0

pub overflow_add-value : goal.overflow_add-value
overflow_add-value c =
    let all = c.args.digits.now in
    let i = c.loop-digit.digit-index in
    let more = digits_value_after_more c.loop-digit.value all i c.requires.digits c.loop-digit-test.true in
    omega (
      arith,
      more,
      c.loop-digit.invariant,
      digits_value_after_le (c.loop-digit.value * 10 + (get_or all i 0 - 48)) (drop (i + 1) all),
      c.requires.fits,
      c.from.ensures,
    )

pub loop-digit-preserved : goal.loop-digit-preserved
loop-digit-preserved c =
    let more = digits_value_after_more c.loop-digit.value _ c.loop-digit.digit-index c.requires.digits c.loop-digit-test.true in
    ap (λ (d : ℕ). digits_value_after 10 (c.loop-digit.value * 10 + d) (drop (c.loop-digit.digit-index + 1) c.args.digits.now))
    c.from.ensures ∙ sym more ∙ c.loop-digit.invariant
