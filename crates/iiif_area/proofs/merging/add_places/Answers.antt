use Rattle.std.proofs.Common.{◌≡◌, ℕ, ◌+◌, ◌-◌, ◌*◌, ◌≤◌, ◌^◌, min, length, get_or, take, drop, arith, ap, ◌∙◌, sym, refl, subst}
use Rattle.std.proofs.lemmas.List.{length-take, length-drop}
use borrow.Rule.Slice.PartMut.{put_mid}
use Rattle.iiif_pixel.specs.declared.geometry.Rect.{Rect}
use Rattle.iiif_area.specs.Places.{corner_of, part_of}
use Rattle.iiif_area.proofs.MergeLaws.{AddedTo, AddedTo-step, added_is, run_fits_in}
use Rattle.iiif_area.proofs.PlaceLaws.{part_fits}
use Rattle.iiif_area.proofs.merging.add_places.Goals as goal

pub overflow_mul-to-in-loop-j : goal.overflow_mul-to-in-loop-j
overflow_mul-to-in-loop-j c =
    let fits = part_fits c.args.theirs c.args.mine c.part_of-common.result c.corner_of-left.result c.part_of-common.ensures.part
    c.corner_of-left.ensures in
    let run = run_fits_in c.args.mine c.args.channels c.part_of-common.result.x c.part_of-common.result.y c.part_of-common.result.w
    c.loop-j.j (length c.args.sums.now) (omega arith) (fits.columns (omega arith)) (omega (arith, fits.rows (omega arith)))
    c.requires.mine (omega arith) (omega arith) in
    omega arith

pub overflow_mul-from-in-loop-j : goal.overflow_mul-from-in-loop-j
overflow_mul-from-in-loop-j c =
    let fits = part_fits c.args.theirs c.args.mine c.part_of-common.result c.corner_of-left.result c.part_of-common.ensures.part
    c.corner_of-left.ensures in
    let run = run_fits_in c.args.theirs c.args.channels c.corner_of-left.result.0 c.corner_of-left.result.1 c.part_of-common.result.w
    c.loop-j.j (length c.args.others.now) (omega arith) (fits.tile_columns (omega arith)) (omega (arith, fits.tile_rows (omega arith)))
    c.requires.theirs (omega arith) (omega arith) in
    omega arith

pub overflow_add-to-in-loop-j-2 : goal.overflow_add-to-in-loop-j-2
overflow_add-to-in-loop-j-2 c =
    let fits = part_fits c.args.theirs c.args.mine c.part_of-common.result c.corner_of-left.result c.part_of-common.ensures.part
    c.corner_of-left.ensures in
    let run = run_fits_in c.args.mine c.args.channels c.part_of-common.result.x c.part_of-common.result.y c.part_of-common.result.w
    c.loop-j.j (length c.args.sums.now) (omega arith) (fits.columns (omega arith)) (omega (arith, fits.rows (omega arith)))
    c.requires.mine (omega arith) (omega arith) in
    omega arith

pub offset_bounds-sums-to : goal.offset_bounds-sums-to
offset_bounds-sums-to c =
    let fits = part_fits c.args.theirs c.args.mine c.part_of-common.result c.corner_of-left.result c.part_of-common.ensures.part
    c.corner_of-left.ensures in
    let run = run_fits_in c.args.mine c.args.channels c.part_of-common.result.x c.part_of-common.result.y c.part_of-common.result.w
    c.loop-j.j (length c.args.sums.now) (omega arith) (fits.columns (omega arith)) (omega (arith, fits.rows (omega arith)))
    c.requires.mine (omega arith) (omega arith) in
    omega arith

pub slice_bounds-add_saturating-end : goal.slice_bounds-add_saturating-end
slice_bounds-add_saturating-end c =
    let fits = part_fits c.args.theirs c.args.mine c.part_of-common.result c.corner_of-left.result c.part_of-common.ensures.part
    c.corner_of-left.ensures in
    let run = run_fits_in c.args.mine c.args.channels c.part_of-common.result.x c.part_of-common.result.y c.part_of-common.result.w
    c.loop-j.j (length c.args.sums.now) (omega arith) (fits.columns (omega arith)) (omega (arith, fits.rows (omega arith)))
    c.requires.mine (omega arith) (omega arith) in
    omega (arith, c.loop-j.auto.sums)

pub overflow_add-from-in-loop-j-2 : goal.overflow_add-from-in-loop-j-2
overflow_add-from-in-loop-j-2 c =
    let fits = part_fits c.args.theirs c.args.mine c.part_of-common.result c.corner_of-left.result c.part_of-common.ensures.part
    c.corner_of-left.ensures in
    let run = run_fits_in c.args.theirs c.args.channels c.corner_of-left.result.0 c.corner_of-left.result.1 c.part_of-common.result.w
    c.loop-j.j (length c.args.others.now) (omega arith) (fits.tile_columns (omega arith)) (omega (arith, fits.tile_rows (omega arith)))
    c.requires.theirs (omega arith) (omega arith) in
    omega arith

pub offset_bounds-others-from : goal.offset_bounds-others-from
offset_bounds-others-from c =
    let fits = part_fits c.args.theirs c.args.mine c.part_of-common.result c.corner_of-left.result c.part_of-common.ensures.part
    c.corner_of-left.ensures in
    let run = run_fits_in c.args.theirs c.args.channels c.corner_of-left.result.0 c.corner_of-left.result.1 c.part_of-common.result.w
    c.loop-j.j (length c.args.others.now) (omega arith) (fits.tile_columns (omega arith)) (omega (arith, fits.tile_rows (omega arith)))
    c.requires.theirs (omega arith) (omega arith) in
    omega arith

pub slice_bounds-add_saturating-end-in-loop-j : goal.slice_bounds-add_saturating-end-in-loop-j
slice_bounds-add_saturating-end-in-loop-j c =
    let fits = part_fits c.args.theirs c.args.mine c.part_of-common.result c.corner_of-left.result c.part_of-common.ensures.part
    c.corner_of-left.ensures in
    let run = run_fits_in c.args.theirs c.args.channels c.corner_of-left.result.0 c.corner_of-left.result.1 c.part_of-common.result.w
    c.loop-j.j (length c.args.others.now) (omega arith) (fits.tile_columns (omega arith)) (omega (arith, fits.tile_rows (omega arith)))
    c.requires.theirs (omega arith) (omega arith) in
    omega arith

pub loop-j-preserved : goal.loop-j-preserved
loop-j-preserved c =
    let n = c.args.channels in
    let w = c.part_of-common.result.w in
    let to = (c.part_of-common.result.y + c.loop-j.j) * c.args.mine.w + c.part_of-common.result.x in
    let from = (c.corner_of-left.result.1 + c.loop-j.j) * c.args.theirs.w + c.corner_of-left.result.0 in
    let fits = part_fits c.args.theirs c.args.mine c.part_of-common.result c.corner_of-left.result c.part_of-common.ensures.part
    c.corner_of-left.ensures in
    let mine = run_fits_in c.args.mine c.args.channels c.part_of-common.result.x c.part_of-common.result.y c.part_of-common.result.w
    c.loop-j.j (length c.args.sums.now) (omega arith) (fits.columns (omega arith)) (omega (arith, fits.rows (omega arith)))
    c.requires.mine (omega arith) (omega arith) in
    let theirs = run_fits_in c.args.theirs c.args.channels c.corner_of-left.result.0 c.corner_of-left.result.1 c.part_of-common.result.w
    c.loop-j.j (length c.args.others.now) (omega arith) (fits.tile_columns (omega arith)) (omega (arith, fits.tile_rows (omega arith)))
    c.requires.theirs (omega arith) (omega arith) in
    let long : to * n + w * n - to * n ≡ w * n = omega arith in
    let long2 : from * n + w * n - from * n ≡ w * n = omega arith in
    let room : to * n + w * n ≤ length c.loop-j.sums = omega (arith, c.loop-j.auto.sums) in
    let kept : length c.add_saturating.new.sums ≡ length (take (to * n + w * n - to * n) (drop (to * n) c.loop-j.sums)) =
    c.add_saturating.auto.sums in
    let count : length c.add_saturating.new.sums ≡ w * n = kept ∙ (simp (length-take, length-drop) (omega arith)) in
    subst (λ u. AddedTo n c.args.mine c.args.theirs c.part_of-common.result c.corner_of-left.result.0 c.corner_of-left.result.1
    c.args.sums.now c.args.others.now
    (put_mid (to * n) u c.loop-j.sums c.add_saturating.new.sums) (c.loop-j.j + 1)) (sym long)
    (AddedTo-step n c.args.mine c.args.theirs c.part_of-common.result c.corner_of-left.result.0 c.corner_of-left.result.1 c.args.sums.now
    c.args.others.now c.loop-j.sums c.add_saturating.new.sums
    c.loop-j.j to from (fits.columns (omega arith)) refl refl room count
    (λ t l. c.add_saturating.ensures t (omega arith)
    ∙ ap (λ u. min (2 ^ 64 - 1) (get_or (take u (drop (to * n) c.loop-j.sums)) t 0 + get_or
    (take (from * n + w * n - from * n) (drop (from * n) c.args.others.now)) t 0)) long
    ∙ ap (λ u. min (2 ^ 64 - 1) (get_or (take (w * n) (drop (to * n) c.loop-j.sums)) t 0 + get_or
    (take u (drop (from * n) c.args.others.now)) t 0)) long2)
    c.loop-j.invariant)

pub returns-then-common-eq0 : goal.returns-then-common-eq0
returns-then-common-eq0 c =
    let n = c.args.channels in
    let common = part_of c.args.theirs c.args.mine in
    let e : c.part_of-common.result ≡ common = c.part_of-common.ensures.part in
    let none : common.w ≡ 0 = ap (λ (r : Rect). r.w) (sym e) ∙ c.if-common-eq0.true in
    added_is (record { rect = c.args.mine; channels = n; sums = c.args.sums.now })
    (record { rect = c.args.theirs; channels = n; sums = c.args.others.now }) c.args.sums.now
    c.requires.mine refl
    (record { both = λ i q k li _ _. absurd (omega arith); kept = λ i q k _ _ _. refl })

pub returns : goal.returns
returns c =
    let n = c.args.channels in
    let rows : c.loop-j.j ≡ c.part_of-common.result.h = omega arith in
    added_is (record { rect = c.args.mine; channels = n; sums = c.args.sums.now })
    (record { rect = c.args.theirs; channels = n; sums = c.args.others.now }) c.loop-j.sums
    (omega (arith, c.loop-j.auto.sums, c.requires.mine)) refl
    (subst (λ (p : Rect). AddedTo n c.args.mine c.args.theirs p (corner_of c.args.theirs c.args.mine).0
    (corner_of c.args.theirs c.args.mine).1 c.args.sums.now c.args.others.now c.loop-j.sums p.h) c.part_of-common.ensures.part
    (subst (λ (k : ℕ × ℕ). AddedTo n c.args.mine c.args.theirs c.part_of-common.result k.0 k.1 c.args.sums.now c.args.others.now
    c.loop-j.sums c.part_of-common.result.h) c.corner_of-left.ensures
    (subst (λ j. AddedTo n c.args.mine c.args.theirs c.part_of-common.result c.corner_of-left.result.0 c.corner_of-left.result.1
    c.args.sums.now c.args.others.now c.loop-j.sums j) rows c.loop-j.invariant)))
