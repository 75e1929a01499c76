use Rattle.std.proofs.Common.{inl}
use Rattle.std.proofs.lemmas.Result.{IfErr-weaker, IfOk-weaker}
use Rattle.iiif_delivery.specs.Delivery.{front_len}
use Rattle.iiif_delivery.proofs.TileLemmas.{image_for, tile_fails, tile_stopped}
use Rattle.iiif_delivery.proofs.delivery.send_lone.Goals as goal

pub returns-in-Some-clause-sent : goal.returns-in-Some-clause-sent
returns-in-Some-clause-sent g c =
    let s = c.args.sending.now in
    let j = s.job.now in
    let tm = g.A.Items.means c.args.context.now.tiles.now in
    let tf = g.A.Items.failed c.args.context.now.tiles.now in
    let sm = g.B.Items.means c.args.context.now.sums.now in
    let sf = g.B.Items.failed c.args.context.now.sums.now in
    let may = c.requires.sending in
    record {
      whole = IfOk-weaker c.in-Some.result _ _
          (λ d sent shows has source. (sent.0, image_for shows j tm sm sent.0 has source sent.1, sent.2, sent.3))
          c.in-Some.ensures.whole;
      held = c.in-Some.ensures.held;
      kept = IfOk-weaker c.in-Some.result _ _ (λ d kept. inl kept) c.in-Some.ensures.kept;
      buffered = c.in-Some.ensures.buffered;
      stopped = IfErr-weaker c.in-Some.result _ _
          (λ e stops.
          tile_stopped c.laws_of_bands.ensures g.W.Write.contents g.W.Outlet.fails j tm tf sm s.kind s.rows s.start.now c.args.out.now
          c.send_tile.new.out e may.job.quarters may.channels stops)
          c.in-Some.ensures.stopped;
      fault = IfErr-weaker c.in-Some.result _ _
          (λ e stops.
          tile_fails g.W.Write.contents g.W.Outlet.fails j tm tf sm sf s.kind s.rows (front_len s) s.start.now c.args.out.now
          c.send_tile.new.out e stops)
          c.in-Some.ensures.stopped;
    }
