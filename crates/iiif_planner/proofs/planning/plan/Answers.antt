use Rattle.std.proofs.Common.{◌≡◌, ℕ, ◌*◌, ◌^◌, ◌<◌, ◌≤◌, true, false, List, sym, ap, subst, ◌∙◌, refl, arith}
use Rattle.std.specs.Prelude.{nat_eq, ◌&&◌}
use Rattle.std.proofs.lemmas.Bool.{eqb-true, false≢true, and_parts, eq-eqb}
use Rattle.iiif_keys.specs.declared.keys.SumKey.{SumKey}
use Rattle.iiif_keys.specs.declared.keys.TileKey.{TileKey}
use Rattle.iiif_keys.proofs.Shaped.{three_at_most}
use Rattle.iiif_pixel.specs.Geometry.{channels_of, sides_of}
use Rattle.iiif_pixel.specs.declared.geometry.Dim.{Dim}
use Rattle.iiif_planner.specs.Levels.{IsLevel}
use Rattle.iiif_planner.specs.Plans.{TilesCover, BlocksCover}
use Rattle.iiif_planner.proofs.Sides.{up_tested, down_tested}
use Rattle.iiif_planner.proofs.Covers.{tiles_cover, blocks_cover}
use Rattle.iiif_planner.specs.declared.squares.Squares.{Squares}
use Rattle.iiif_planner.specs.Items.{block_at, blocks_for, is_scaled_up, squares_met, tile_at}
use Rattle.iiif_planner.proofs.Lines.{squares_listed}
use Rattle.iiif_planner.proofs.Greatest.{level_greatest}
use Rattle.iiif_planner.proofs.LevelLaws.{level_limits}
use Rattle.iiif_planner.proofs.planning.plan.Goals as goal

-- sides that are tested equal are, and others are not
same_sides : (a b : Dim) → true ≡ (nat_eq a.w b.w && nat_eq a.h b.h) → a ≡ b
same_sides a b e =
    let t = and_parts (nat_eq a.w b.w) (nat_eq a.h b.h) (sym e) in
    let w = eqb-true a.w b.w t.0 in
    let h = eqb-true a.h b.h t.1 in
    ap (λ (n : ℕ). let d : Dim = record { w = n; h = a.h } in d) w ∙ ap (λ (n : ℕ). let d : Dim = record { w = b.w; h = n } in d) h

other_sides : (a b : Dim) → false ≡ (nat_eq a.w b.w && nat_eq a.h b.h) → a ≡ b → ⊥
other_sides a b e same =
    let w = eq-eqb a.w b.w (ap (λ (d : Dim). d.w) same) in
    let h = eq-eqb a.h b.h (ap (λ (d : Dim). d.h) same) in
    false≢true (e ∙ rw (w, h) refl)

pub returns-then-eq : goal.returns-then-eq
returns-then-eq c =
    let r = c.args.resolved.now.rect in
    let size = c.args.resolved.now.size in
    let n = channels_of c.args.kind in
    let same : true ≡ (nat_eq size.w r.w && nat_eq size.h r.h) =
    subst (λ (d : Dim). true ≡ (nat_eq size.w d.w && nat_eq size.h d.h)) c.dim-region.ensures c.if-eq.ensures in
    let cover = tiles_cover c.args.name.now c.args.edge c.args.image n r c.requires.edge c.requires.inside c.requires.columns.1
    c.requires.rows.1 in
    let met = c.met-met.ensures.squares ∙ ap (λ side. squares_met side r) c.from-tile.ensures in
    let left = ap (λ (s : Squares). s.left) met in
    let right = ap (λ (s : Squares). s.right) met in
    let top = ap (λ (s : Squares). s.top) met in
    let bottom = ap (λ (s : Squares). s.bottom) met in
    let keys = squares_listed (tile_at c.args.name.now c.args.edge) _ _ (squares_met c.args.edge r) c.in_ok-keys.ensures
    (omega (arith, left)) (omega (arith, right)) (omega (arith, top)) (omega (arith, bottom)) in
    record {
      plan = (
        same_sides size (sides_of r) same,
        subst (λ (ks : List TileKey). TilesCover c.args.name.now c.args.edge c.args.image n r ks) (sym keys) cover,
      );
      exact = (sym same, keys);
    }

pub returns-then-is_scaled_up : goal.returns-then-is_scaled_up
returns-then-is_scaled_up c =
    let r = c.args.resolved.now.rect in
    let n = channels_of c.args.kind in
    let cover = tiles_cover c.args.name.now c.args.edge c.args.image n r c.requires.edge c.requires.inside c.requires.columns.1
    c.requires.rows.1 in
    let up : is_scaled_up c.args.resolved.now ≡ true = sym c.is_scaled_up.ensures ∙ c.if-is_scaled_up.true in
    let met = c.met-met-then-is_scaled_up.ensures.squares ∙ ap (λ side. squares_met side r) c.from-tile.ensures in
    let left = ap (λ (s : Squares). s.left) met in
    let right = ap (λ (s : Squares). s.right) met in
    let top = ap (λ (s : Squares). s.top) met in
    let bottom = ap (λ (s : Squares). s.bottom) met in
    let keys = squares_listed (tile_at c.args.name.now c.args.edge) _ _ (squares_met c.args.edge r) c.in_ok-keys-2.ensures
    (omega (arith, left)) (omega (arith, right)) (omega (arith, top)) (omega (arith, bottom)) in
    record {
      plan = (
        up_tested c.args.resolved.now up,
        subst (λ (ks : List TileKey). TilesCover c.args.name.now c.args.edge c.args.image n r ks) (sym keys) cover,
      );
      exact = (up, keys);
    }

pub returns : goal.returns
returns c =
    let r = c.args.resolved.now.rect in
    let size = c.args.resolved.now.size in
    let n = channels_of c.args.kind in
    let up : is_scaled_up c.args.resolved.now ≡ false = sym c.is_scaled_up.ensures ∙ c.if-is_scaled_up.false in
    let down = down_tested c.args.resolved.now up in
    let columns : (0 < size.w) × (size.w ≤ r.w) = (c.requires.columns.0, down.0) in
    let rows : (0 < size.h) × (size.h ≤ r.h) = (c.requires.rows.0, down.1) in
    let other : false ≡ (nat_eq size.w r.w && nat_eq size.h r.h) =
    subst (λ (d : Dim). false ≡ (nat_eq size.w d.w && nat_eq size.h d.h)) c.dim-region.ensures c.if-eq.ensures in
    let level_of = subst (λ (d : Dim). IsLevel c.args.edge c.args.image d size c.channels.result c.args.room c.level-level.result)
    c.dim-region.ensures c.level-level.ensures.level in
    let level = subst (λ (m : ℕ). IsLevel c.args.edge c.args.image (sides_of r) size m c.args.room c.level-level.result) c.channels.ensures
    level_of in
    let most = level_limits c.args.edge c.args.image (sides_of r) size n c.args.room c.level-level.result c.requires.edge c.requires.room
    (three_at_most c.args.kind) columns rows level in
    let cover = blocks_cover c.args.name.now c.args.edge c.args.image n r size c.level-level.result c.requires.edge
    c.level-level.ensures.within c.requires.inside columns rows most in
    let met = c.met-met-2.ensures.squares ∙ ap (λ side. squares_met side r) c.side_of.ensures.side in
    let left = ap (λ (s : Squares). s.left) met in
    let right = ap (λ (s : Squares). s.right) met in
    let top = ap (λ (s : Squares). s.top) met in
    let bottom = ap (λ (s : Squares). s.bottom) met in
    let keys = squares_listed (block_at c.args.name.now c.args.edge r size c.level-level.result) _ _
    (squares_met (2 ^ c.level-level.result * c.args.edge) r) c.in_ok-keys-3.ensures
    (omega (arith, left)) (omega (arith, right)) (omega (arith, top)) (omega (arith, bottom)) in
    record {
      plan = (
        record { other = other_sides size (sides_of r) other; columns = down.0; rows = down.1 },
        c.level-level.result,
        level,
        subst (λ (ks : List SumKey). BlocksCover c.args.name.now c.args.edge c.args.image n r size c.level-level.result ks) (sym keys)
            cover,
      );
      exact = (
        sym other,
        up,
        keys
            ∙ ap (λ (l : ℕ). blocks_for c.args.name.now c.args.edge l c.args.resolved.now)
            ((level_greatest c.args.edge c.args.image (sides_of r) size n c.args.room c.level-level.result).0 level),
      );
    }
