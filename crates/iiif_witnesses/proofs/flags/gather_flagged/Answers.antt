use Rattle.std.proofs.Common.{inl, inr}
use Rattle.std.proofs.lemmas.Result.{IfErr-weaker}
use Rattle.iiif_witnesses.specs.Flags.{is_bad}
use Rattle.iiif_witnesses.proofs.flags.gather_flagged.Goals as goal

pub returns : goal.returns
returns g c = record {
  first = IfErr-weaker c.gather.result _ _
      (λ f told some.
      elim told [
        | inl none ↦ absurd (some none)
        | inr first ↦ c.first_bad_is_told.ensures (is_bad c.args.flags.now) (λ k v good. good) (λ k e other ill. ill.0) c.args.keys.now
            c.args.items.now f some first
      ])
      c.gather.ensures.fault;
}
