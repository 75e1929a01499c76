use Rattle.std.proofs.Common.{◌≡◌, inl, inr, ⊎_elim}
use Rattle.iiif_peer_groups.specs.Kinds.{sum_kind, system, tile_kind}
use Rattle.iiif_peer_groups.proofs.Replied.{replied}
use Rattle.iiif_peer_groups.proofs.peers.Peers.reply.Goals as goal

pub returns-then-ask-eq1-clause-allowed : goal.returns-then-ask-eq1-clause-allowed
returns-then-ask-eq1-clause-allowed g c =
    let node = system g.J.System.pictures g.J.System.edge g.J.System.gave g.J.System.stable g.J.System.honest in
    inl (
      c.if-ask-eq1.true,
      rw c.as_slice-key.ensures.value at (replied tile_kind node c.args.ask.now.version c.as_slice-key.result.now c.get_tile-outcome.result
          c.reply_of.result.0
          c.reply_of.result.1.items c.get_tile-outcome.ensures.value c.get_tile-outcome.ensures.fault c.reply_of.ensures),
    )

pub returns-clause-allowed : goal.returns-clause-allowed
returns-clause-allowed g c =
    let node = system g.J.System.pictures g.J.System.edge g.J.System.gave g.J.System.stable g.J.System.honest in
    let second : c.args.ask.now.group ≡ 2 = ⊎_elim (λ one. absurd (c.if-ask-eq1.false one)) (λ two. two) c.requires.group_known in
    inr (
      second,
      rw c.as_slice-key.ensures.value at (replied sum_kind node c.args.ask.now.version c.as_slice-key.result.now c.get_sums-outcome.result
          c.reply_of-2.result.0
          c.reply_of-2.result.1.items c.get_sums-outcome.ensures.value c.get_sums-outcome.ensures.fault c.reply_of-2.ensures),
    )
