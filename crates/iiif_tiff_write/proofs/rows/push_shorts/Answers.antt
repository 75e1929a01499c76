use Rattle.std.proofs.Common.{List, ℕ, [], ◌∷◌, ◌++◌, get_or, ap, ◌∙◌, arith}
use Rattle.iiif_tiff_write.proofs.PackingLemmas.{flat_map_push}
use Rattle.iiif_tiff_write.proofs.rows.push_shorts.Goals as goal

pub loop-sample-preserved : goal.loop-sample-preserved
loop-sample-preserved c =
    let pair = c.to_le_bytes-pair.result in
    let high = get_or pair 1 0 in
    record {
      bytes =
          flat_map_push c.args.out.now.items c.loop-sample.out.items c.push_reserved-in-loop-sample.new.self.items c.args.samples.now
          c.loop-sample.sample-index (get_or pair 0 0) high
          c.loop-sample-test.true c.loop-sample.invariant.bytes (ap (λ (s : List ℕ). get_or s 0 0) c.to_le_bytes-pair.ensures)
          (ap (λ (s : List ℕ). get_or s 1 0) c.to_le_bytes-pair.ensures)
          (c.push_reserved-in-loop-sample.ensures.items ∙ ap (λ (s : List ℕ). s ++ high ∷ []) c.push_reserved.ensures.items);
      len = omega arith;
      capacity = omega arith;
    }
