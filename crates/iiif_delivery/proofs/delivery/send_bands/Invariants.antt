use Rattle.std.proofs.Common.{◌*◌, length, min}
use Rattle.std.specs.Prelude.{◌++◌}
use Rattle.iiif_tiff_write.specs.File.{head_of}
use Rattle.iiif_assemble.specs.Kept.{AreFew, AreKept}
use Rattle.iiif_delivery.specs.Delivery.{front_len, result_dim}
use Rattle.iiif_delivery.specs.Code.{HasBuffered, HasCounted, HasKept, HaveRows}
use Rattle.iiif_delivery.proofs.delivery.send_bands.Given as goal

-- the bands so far
abbrev pub invariant-loop-i : goal.invariant-loop-i
invariant-loop-i g l =
    let s = l.sending in
    let j = s.job.now in
    let y = min (l.i * s.rows) (result_dim j).h in
    record {
      rows : HaveRows j (g.A.Items.means l.context.tiles.now) (g.B.Items.means l.context.sums.now) s.kind s.start.now
          (g.W.Write.contents l.fn.out) (g.W.Write.contents l.out) l.text.items l.sent y;
      counted : HasCounted j s.kind (length (s.start.now ++ head_of s.kind (result_dim j))) s.rows l.text.items l.sent l.held y;
      buffered : HasBuffered j s.kind (front_len s) s.rows l.text.items l.buffered y;
      kept : AreKept (g.B.Items.means l.context.sums.now) l.kept.items;
      few : AreFew l.kept.items;
      most : HasKept j (g.B.Items.means l.context.sums.now) s.rows l.kept.items l.most_kept y;
    }
