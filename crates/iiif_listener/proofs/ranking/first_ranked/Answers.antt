use Rattle.std.proofs.Common.{ℕ, Option, subst, take, arith}
use Rattle.iiif_listener.specs.Places.{rank}
use Rattle.iiif_listener.proofs.RankingLemmas.{IsChosen, none_of}
use Rattle.iiif_listener.proofs.ranking.first_ranked.Goals as goal

pub returns-in-None-clause-none : goal.returns-in-None-clause-none
returns-in-None-clause-none c =
    none_of c.args.ranking c.args.seats.now c.loop-place.place (omega (arith, c.loop-place.auto.place-end))
    (subst (λ (found : Option (ℕ × ℕ)). IsChosen (rank c.args.ranking c.args.seats.now) (take c.loop-place.place c.args.seats.now) found)
    c.in-None.is c.loop-place.invariant)
