use Rattle.std.proofs.Common.{◌≡◌, ◌∷◌, [], rules}
use Rattle.sha2.specs.Sha256.{sha256}
use Rattle.iiif_witnesses.proofs.FlipLemmas.{six_told}
use Rattle.iiif_witnesses.proofs.checked.check_flipping.Goals as goal

pub returns-clause-told : goal.returns-clause-told
returns-clause-told c =
    let are : c.push-2.new.self.items ≡ sha256 (1 ∷ 2 ∷ 3 ∷ 4 ∷ []) ∷ sha256 (5 ∷ 6 ∷ []) ∷ [] = search rules in
    six_told _ _ (search rules) are

pub returns-clause-premise : goal.returns-clause-premise
returns-clause-premise c =
    let are : c.push-2.new.self.items ≡ sha256 (1 ∷ 2 ∷ 3 ∷ 4 ∷ []) ∷ sha256 (5 ∷ 6 ∷ []) ∷ [] = search rules in
    six_told _ _ (search rules) are
