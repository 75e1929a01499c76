-- The tiles and the blocks of a plan cover the region.
use Rattle.std.proofs.Common.{ℕ, ◌+◌, ◌*◌, ◌^◌, ◌<◌, ◌≤◌, List, refl, sym, subst, arith}
use Rattle.std.proofs.Math.Nat.{mul-le-mul, mul-le-mul_right}
use Rattle.std.proofs.lemmas.Nat.{pow_pos}
use Rattle.iiif_pixel.specs.Geometry.{sides_of, LiesIn}
use Rattle.iiif_pixel.specs.declared.geometry.Dim.{Dim}
use Rattle.iiif_pixel.specs.declared.geometry.Rect.{Rect}
use Rattle.iiif_area.specs.Places.{part_of, places_of, Meets}
use Rattle.iiif_keys.specs.Blocks.{square, clipped, tile_of, part_in, sum_val_len, IsEdge, SumFitsIn}
use Rattle.iiif_keys.specs.declared.keys.SumKey.{SumKey}
use Rattle.iiif_keys.proofs.Cuts.{clipped_part}
use Rattle.iiif_planner.specs.Plans.{StandsBefore, IsTileFor, IsBlockFor, TilesCover, BlocksCover}
use Rattle.iiif_planner.specs.Items.{each_square, squares_met, tile_at, block_at}
use Rattle.iiif_planner.proofs.Counts.{each_all, each_pair}
use Rattle.iiif_planner.specs.Levels.{met_at_most, sums_at_most}
use Rattle.iiif_planner.proofs.LevelLaws.{most_sums, places_met}
use Rattle.iiif_planner.proofs.Meeting.{last_met, square_meets, squares_cut}

-- a square clipped at the image's edges meets a region of the image where the square does
meets_clipped : (image : Dim) (r g : Rect) → LiesIn g image → Meets r g → Meets (clipped image r) g
meets_clipped image r g h m =
    let e = sym (clipped_part image r g h) in
    record { columns = subst (λ (p : Rect). 0 < p.w) e m.columns; rows = subst (λ (p : Rect). 0 < p.h) e m.rows }

pub tiles_cover : (name : List ℕ) (edge : ℕ) (image : Dim) (channels : ℕ) (g : Rect) → IsEdge edge → LiesIn g image → 0 < g.w → 0 < g.h →
    TilesCover name edge image channels g (each_square (tile_at name edge) (squares_met edge g))
tiles_cover name edge image channels g e h w b =
    record {
      tiles = each_all (tile_at name edge) (IsTileFor name edge image channels g) (squares_met edge g) (λ i j c d k l.
          let column = last_met edge (g.x + g.w) i e.some d in
          let row = last_met edge (g.y + g.h) j e.some l in
          let columns = h.columns in
          let rows = h.rows in
          record {
            named = refl;
            own_edge = refl;
            fits = record { edge = e; column = omega arith; row = omega arith };
            meets = meets_clipped image (square edge i j) g h (square_meets edge g i j e.some w b c d k l);
          });
      in_order = each_pair (tile_at name edge) (λ k l. StandsBefore k.tx k.ty l.tx l.ty) (squares_met edge g) (λ i j k l s. s);
      cut = squares_cut edge g (tile_at name edge) (λ k. part_of (tile_of image k) g) e.some
          (λ i j. clipped_part image (square edge i j) g h);
    }

block_fits : (image : Dim) (channels : ℕ) (k : SumKey) → IsEdge k.edge → k.level ≤ 20 → LiesIn k.rect image → (0 < k.size.w) ×
    (k.size.w ≤ k.rect.w) → (0 < k.size.h) × (k.size.h ≤ k.rect.h) →
    sums_at_most k.edge k.level (sides_of k.rect) k.size channels ≤ most_sums → Meets (square (2 ^ k.level * k.edge) k.bx k.by) k.rect →
    SumFitsIn image channels k
block_fits image channels k edge level rect columns rows most meets =
    let s = 2 ^ k.level * k.edge in
    let r = square s k.bx k.by in
    let g = k.rect in
    let part = part_of r g in
    let p = places_of (sides_of g) k.size part in
    let w : p.w ≤ met_at_most k.edge k.level g.w k.size.w = places_met s g.w k.size.w part.x part.w (omega arith) (omega arith) in
    let h : p.h ≤ met_at_most k.edge k.level g.h k.size.h = places_met s g.h k.size.h part.y part.h (omega arith) (omega arith) in
    let count : p.w * p.h * channels ≤ sums_at_most k.edge k.level (sides_of g) k.size channels =
    mul-le-mul_right channels (mul-le-mul w h) in
    let len : sum_val_len p channels ≤ 2 ^ 26 = omega arith in
    record {
      block = record { edge = edge; level = level; rect = rect; meets = meets_clipped image r g rect meets };
      columns = columns;
      rows = rows;
      value = subst (λ (q : Rect). sum_val_len (places_of (sides_of g) k.size q) channels ≤ 2 ^ 26) (sym (clipped_part image r g rect)) len;
    }

pub blocks_cover : (name : List ℕ) (edge : ℕ) (image : Dim) (channels : ℕ) (g : Rect) (size : Dim) (level : ℕ) → IsEdge edge → level ≤ 20 →
    LiesIn g image →
    (0 < size.w) × (size.w ≤ g.w) → (0 < size.h) × (size.h ≤ g.h) → sums_at_most edge level (sides_of g) size channels ≤ most_sums →
    BlocksCover name edge image channels g size level (each_square (block_at name edge g size level) (squares_met (2 ^ level * edge) g))
blocks_cover name edge image channels g size level e few h columns rows most =
    let s = 2 ^ level * edge in
    let power : 1 ≤ 2 ^ level = pow_pos level in
    let product : 1 * 1 ≤ s = mul-le-mul power e.some in
    let some : 0 < s = omega arith in
    let w : 0 < g.w = omega arith in
    let b : 0 < g.h = omega arith in
    let at = block_at name edge g size level in
    record {
      blocks = each_all at (IsBlockFor name edge image channels g size level) (squares_met s g) (λ i j c d k l.
          record {
            named = refl;
            own_edge = refl;
            of_region = refl;
            to_size = refl;
            at_level = refl;
            fits = block_fits image channels (at i j) e few h columns rows most (square_meets s g i j some w b c d k l);
          });
      in_order = each_pair at (λ k l. StandsBefore k.bx k.by l.bx l.by) (squares_met s g) (λ i j k l t. t);
      cut = squares_cut s g at (part_in image) some (λ i j. clipped_part image (square s i j) g h);
    }
