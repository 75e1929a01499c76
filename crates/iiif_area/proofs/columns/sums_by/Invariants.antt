use Rattle.std.proofs.Common.{◌≡◌, ℕ, ◌+◌, ◌*◌, ◌<◌, get_or, IfSome, vec_capacity, vec_len}
use Rattle.iiif_pixel.specs.Scaling.{area_sum}
use Rattle.iiif_area.specs.declared.columns.Span.{Span}
use Rattle.iiif_area.specs.Code.{tile_sample, IsWholeSpan}
use Rattle.iiif_area.proofs.GridLaws.{place_index, FilledTo}
use Rattle.iiif_area.proofs.columns.sums_by.Given as goal

abbrev pub invariant-loop-k : goal.invariant-loop-k
invariant-loop-k g l = record {
  capacity : vec_capacity l.sums ≡ l.rect.w * l.rect.h * l.channels;
  count : vec_len l.sums ≡ place_index l.rect.w l.channels l.i l.j l.k;
  filled : FilledTo l.rect.w l.channels (λ i j k.
      area_sum l.fn.share.region l.fn.share.size l.fn.share.part (tile_sample l.tile l.fn.share.corner l.fn.share.part k) (l.rect.x + i)
      (l.rect.y + j)) l.sums.items;
}

abbrev pub invariant-loop-i : goal.invariant-loop-i
invariant-loop-i g l = record {
  capacity : vec_capacity l.sums ≡ l.rect.w * l.rect.h * l.channels;
  count : vec_len l.sums ≡ place_index l.rect.w l.channels l.i l.j 0;
  filled : FilledTo l.rect.w l.channels (λ i j k.
      area_sum l.fn.share.region l.fn.share.size l.fn.share.part (tile_sample l.tile l.fn.share.corner l.fn.share.part k) (l.rect.x + i)
      (l.rect.y + j)) l.sums.items;
}

abbrev pub invariant-loop-j : goal.invariant-loop-j
invariant-loop-j g l = record {
  ready : g.C.ColumnSums.is_ready l.columns (l.held.w * l.tile.channels);
  whole : IfSome l.whole (λ n. (1 < n) × ((t : ℕ) (d : Span) → t < l.rect.w → IsWholeSpan l.c n t (get_or l.spans.items t d)));
  capacity : vec_capacity l.sums ≡ l.rect.w * l.rect.h * l.channels;
  count : vec_len l.sums ≡ place_index l.rect.w l.channels 0 l.j 0;
  filled : FilledTo l.rect.w l.channels (λ i j k.
      area_sum l.fn.share.region l.fn.share.size l.fn.share.part (tile_sample l.tile l.fn.share.corner l.fn.share.part k) (l.rect.x + i)
      (l.rect.y + j)) l.sums.items;
}
