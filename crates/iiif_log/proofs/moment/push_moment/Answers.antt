use Rattle.std.proofs.Common.{◌≡◌, ℕ, ◌/◌, ◌%◌, ◌*◌, ◌<◌, ◌^◌, ◌++◌, ◌∷◌, [], List, pos, ◌*ℤ◌, arith, append_assoc, string_bytes}
use Rattle.std.proofs.lemmas.Int.{ints}
use Rattle.std.proofs.lemmas.Result.{on_ok_weaker}
use Rattle.jiff_core.specs.DateTime.{civil_nanos}
use Rattle.jiff.specs.Names.{iso_datetime_text}
use Rattle.iiif_log.specs.Moments.{three_digits, IsMomentText}
use mir.Val.{to_z, of_z}
use mir.Syntax.{w128}
use Rattle.iiif_log.proofs.moment.push_moment.Goals as goal

-- seconds as nanoseconds, in a signed number of 128 bits
nanos_of : (s : ℕ) → s < 2 ^ 40 → to_z w128 (of_z w128 (to_z w128 s *ℤ pos 1_000_000_000)) ≡ pos (s * 1_000_000_000)
nanos_of s small = omega (arith, ints)

pub returns : goal.returns
returns c =
    let at : civil_nanos c.from_plain-second.result ≡ pos (c.args.moment.millis / 1000 * 1_000_000_000) =
    let short : c.args.moment.millis / 1000 < 2 ^ 40 = omega (arith, c.args.moment.within) in
    let nanos = nanos_of _ short in
    cc c.from_nanosecond_in_range.ensures in
    on_ok_weaker {Q = (x : List ℕ) × (string_bytes c.write.new.self ≡ string_bytes c.args.text.now ++ x) ×
    IsMomentText c.args.moment.millis x}
    _ (λ written. (
      iso_datetime_text c.from_plain-second.result ++ 46 ∷ three_digits (c.args.moment.millis % 1000) ++ 90 ∷ [],
      rw written (simp append_assoc),
      (c.from_plain-second.result, at, simp append_assoc),
    )) c.write.ensures.bytes
