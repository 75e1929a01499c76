use Rattle.std.proofs.Common.{refl, arith}
use Rattle.std.proofs.lemmas.List.{append-nil}
use Rattle.iiif_tiff_write.proofs.PackingLemmas.{packed_bytes_none, packed_bytes_push, packed_row_push}
use Rattle.iiif_tiff_write.proofs.rows.pack_row.Goals as goal

pub loop-j-init : goal.loop-j-init
loop-j-init c = record {
  bytes = rw (packed_bytes_none c.args.samples.now, append-nil) refl;
  len = omega arith;
  capacity = refl;
}

pub loop-j-preserved : goal.loop-j-preserved
loop-j-preserved c = record {
  bytes =
      packed_bytes_push c.args.out.now.items c.loop-j.out.items c.push_reserved.new.self.items c.args.samples.now c.loop-j.j
      c.whole_byte.result
      c.loop-j.invariant.bytes c.whole_byte.ensures c.push_reserved.ensures.items;
  len = omega arith;
  capacity = omega arith;
}

pub returns-then-whole-samples-clause-bytes : goal.returns-then-whole-samples-clause-bytes
returns-then-whole-samples-clause-bytes c =
    packed_row_push c.args.out.now.items c.loop-j.out.items c.push_reserved-then-whole-samples.new.self.items c.args.samples.now
    c.loop-j.j _
    c.last_byte.result
    c.loop-j.invariant.bytes c.last_byte.ensures c.push_reserved-then-whole-samples.ensures.items refl c.if-whole-samples.true (omega arith)
