use Rattle.std.proofs.Common.{◌≡◌, ℕ, ◌+◌, length, subst, arith}
use Rattle.iiif_fixity.specs.Reads.{IsFed}
use Rattle.iiif_fixity.proofs.comparing.feed_next.Goals as goal

pub returns-clause-fed : goal.returns-clause-fed
returns-clause-fed g c = λ fed.
    let all : length c.deref_mut.result.now ≡ c.args.count = omega (arith, c.deref_mut.ensures.len, c.in-Ok.ensures.len) in
    subst (λ (n : ℕ). IsFed (g.S.Source.keeps c.args.source.now) (g.S.Source.bytes c.args.source.now) (c.args.at + n)
    c.feed_piece.new.hasher) all (c.in_ok-feed_piece.ensures.fed fed)
