-- Settings that aren't refused are within their bounds.
use Rattle.std.proofs.Common.{◌≡◌, arith, None}
use Rattle.std.proofs.lemmas.Bool.Decides.{nat_tests}
use Rattle.iiif_answers.specs.Settings.{Settings, IsLegal, refusal_of}

pub legal : (s : Settings) → refusal_of s ≡ None → IsLegal s
unfolding refusal_of
legal s none = record {
  base = grind (arith, nat_tests, none);
  edge = grind (arith, nat_tests, none);
  sides = grind (arith, nat_tests, none);
  band = grind (arith, nat_tests, none);
  workers = grind (arith, nat_tests, none);
}
