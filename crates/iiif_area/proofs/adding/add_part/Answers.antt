use Rattle.std.proofs.Common.{◌≡◌, ℕ, ◌+◌, ◌-◌, ◌*◌, ◌≤◌, ◌^◌, min, length, get_or, take, drop, arith, ap, ◌∙◌, sym, refl, subst}
use Rattle.std.proofs.lemmas.List.{length-take, length-drop}
use borrow.Rule.Slice.PartMut.{put_mid}
use Rattle.iiif_pixel.specs.Scaling.{area_sum}
use Rattle.iiif_pixel.specs.declared.geometry.Rect.{Rect}
use Rattle.iiif_area.specs.Code.{share_sums, tile_sample}
use Rattle.iiif_area.specs.Grid.{grid_of}
use Rattle.iiif_area.specs.Places.{corner_of, part_of, places_of}
use Rattle.iiif_area.proofs.AddingLaws.{part_sums, run_added}
use Rattle.iiif_area.proofs.MergeLaws.{AddedTo, AddedTo-step, added_is, run_fits_in}
use Rattle.iiif_area.proofs.PlaceLaws.{part_fits}
use Rattle.iiif_pixel.proofs.Channels.{channels_some}
use Rattle.iiif_area.proofs.adding.add_part.Goals as goal

pub overflow_mul-to-in-loop-j : goal.overflow_mul-to-in-loop-j
overflow_mul-to-in-loop-j c =
    let fits = part_fits c.places_of-places.result c.args.mine c.part_of-common.result c.corner_of-left.result c.part_of-common.ensures.part
    c.corner_of-left.ensures in
    let ch : c.channels-channels.result ≡ c.args.tile.now.channels = c.channels-channels.ensures ∙ c.kind.ensures in
    let run = run_fits_in c.args.mine c.channels-channels.result c.part_of-common.result.x c.part_of-common.result.y
    c.part_of-common.result.w c.loop-j.j (length c.args.sums.now) (omega (arith, channels_some c.kind.result))
    (fits.columns (omega arith)) (omega (arith, fits.rows (omega arith)))
    (c.requires.mine ∙ ap (λ u. c.args.mine.w * c.args.mine.h * u) (sym ch)) (omega arith) (omega arith) in
    omega arith

pub overflow_add-to-in-loop-j-2 : goal.overflow_add-to-in-loop-j-2
overflow_add-to-in-loop-j-2 c =
    let fits = part_fits c.places_of-places.result c.args.mine c.part_of-common.result c.corner_of-left.result c.part_of-common.ensures.part
    c.corner_of-left.ensures in
    let ch : c.channels-channels.result ≡ c.args.tile.now.channels = c.channels-channels.ensures ∙ c.kind.ensures in
    let run = run_fits_in c.args.mine c.channels-channels.result c.part_of-common.result.x c.part_of-common.result.y
    c.part_of-common.result.w c.loop-j.j (length c.args.sums.now) (omega (arith, channels_some c.kind.result))
    (fits.columns (omega arith)) (omega (arith, fits.rows (omega arith)))
    (c.requires.mine ∙ ap (λ u. c.args.mine.w * c.args.mine.h * u) (sym ch)) (omega arith) (omega arith) in
    omega arith

pub offset_bounds-sums-to : goal.offset_bounds-sums-to
offset_bounds-sums-to c =
    let fits = part_fits c.places_of-places.result c.args.mine c.part_of-common.result c.corner_of-left.result c.part_of-common.ensures.part
    c.corner_of-left.ensures in
    let ch : c.channels-channels.result ≡ c.args.tile.now.channels = c.channels-channels.ensures ∙ c.kind.ensures in
    let run = run_fits_in c.args.mine c.channels-channels.result c.part_of-common.result.x c.part_of-common.result.y
    c.part_of-common.result.w c.loop-j.j (length c.args.sums.now) (omega (arith, channels_some c.kind.result))
    (fits.columns (omega arith)) (omega (arith, fits.rows (omega arith)))
    (c.requires.mine ∙ ap (λ u. c.args.mine.w * c.args.mine.h * u) (sym ch)) (omega arith) (omega arith) in
    omega arith

pub slice_bounds-add_rows-end : goal.slice_bounds-add_rows-end
slice_bounds-add_rows-end c =
    let fits = part_fits c.places_of-places.result c.args.mine c.part_of-common.result c.corner_of-left.result c.part_of-common.ensures.part
    c.corner_of-left.ensures in
    let ch : c.channels-channels.result ≡ c.args.tile.now.channels = c.channels-channels.ensures ∙ c.kind.ensures in
    let run = run_fits_in c.args.mine c.channels-channels.result c.part_of-common.result.x c.part_of-common.result.y
    c.part_of-common.result.w c.loop-j.j (length c.args.sums.now) (omega (arith, channels_some c.kind.result))
    (fits.columns (omega arith)) (omega (arith, fits.rows (omega arith)))
    (c.requires.mine ∙ ap (λ u. c.args.mine.w * c.args.mine.h * u) (sym ch)) (omega arith) (omega arith) in
    omega (arith, c.loop-j.auto.sums)

pub loop-j-preserved : goal.loop-j-preserved
loop-j-preserved c =
    let n = c.channels-channels.result in
    let w = c.part_of-common.result.w in
    let places = c.places_of-places.result in
    let left = c.corner_of-left.result.0 in
    let top = c.corner_of-left.result.1 in
    let to = (c.part_of-common.result.y + c.loop-j.j) * c.args.mine.w + c.part_of-common.result.x in
    let from = (top + c.loop-j.j) * places.w + left in
    let others = part_sums c.args.share.region c.args.share.size c.args.share.part c.args.tile.now c.args.share.corner n places in
    let fits = part_fits places c.args.mine c.part_of-common.result c.corner_of-left.result c.part_of-common.ensures.part
    c.corner_of-left.ensures in
    let ch : n ≡ c.args.tile.now.channels = c.channels-channels.ensures ∙ c.kind.ensures in
    let mine = run_fits_in c.args.mine n c.part_of-common.result.x c.part_of-common.result.y w c.loop-j.j (length c.args.sums.now)
    (omega (arith, channels_some c.kind.result))
    (fits.columns (omega arith)) (omega (arith, fits.rows (omega arith)))
    (c.requires.mine ∙ ap (λ u. c.args.mine.w * c.args.mine.h * u) (sym ch)) (omega arith) (omega arith) in
    let long : to * n + w * n - to * n ≡ w * n = omega arith in
    let room : to * n + w * n ≤ length c.loop-j.sums = omega (arith, c.loop-j.auto.sums) in
    let kept : length c.add_rows.new.sums ≡ length (take (to * n + w * n - to * n) (drop (to * n) c.loop-j.sums)) = c.add_rows.auto.sums in
    let count : length c.add_rows.new.sums ≡ w * n = kept ∙ (simp (length-take, length-drop) (omega arith)) in
    let added = run_added c.args.share.region c.args.share.size c.args.share.part places c.args.tile.now c.args.share.corner n
    c.args.tile.now.channels left top c.loop-j.j w from
    (take (to * n + w * n - to * n) (drop (to * n) c.loop-j.sums)) c.add_rows.new.sums
    (fits.tile_columns (omega arith)) (omega (arith, fits.tile_rows (omega arith))) refl ch c.add_rows.ensures in
    subst (λ u. AddedTo n c.args.mine places c.part_of-common.result left top c.args.sums.now others
    (put_mid (to * n) u c.loop-j.sums c.add_rows.new.sums) (c.loop-j.j + 1)) (sym long)
    (AddedTo-step n c.args.mine places c.part_of-common.result left top c.args.sums.now others c.loop-j.sums c.add_rows.new.sums
    c.loop-j.j to from (fits.columns (omega arith)) refl refl room count
    (λ t l. added t l ∙ ap (λ u. min (2 ^ 64 - 1)
    (get_or (take u (drop (to * n) c.loop-j.sums)) t 0 + get_or (take (w * n) (drop (from * n) others)) t 0)) long)
    c.loop-j.invariant)

pub returns-then-common-eq0 : goal.returns-then-common-eq0
unfolding share_sums
returns-then-common-eq0 c =
    let n = c.args.tile.now.channels in
    let h = grid_of (places_of c.args.share.region c.args.share.size c.args.share.part) n
    (λ i j k. area_sum c.args.share.region c.args.share.size c.args.share.part
    (tile_sample c.args.tile.now c.args.share.corner c.args.share.part k) i j) in
    let e : c.part_of-common.result ≡ part_of h.rect c.args.mine = c.part_of-common.ensures.part ∙
    ap (λ (r : Rect). part_of r c.args.mine) c.places_of-places.ensures.places in
    let none : (part_of h.rect c.args.mine).w ≡ 0 = ap (λ (r : Rect). r.w) (sym e) ∙ c.if-common-eq0.true in
    added_is (record { rect = c.args.mine; channels = n; sums = c.args.sums.now }) h c.args.sums.now
    c.requires.mine refl
    (record { both = λ i q k li _ _. absurd (omega arith); kept = λ i q k _ _ _. refl })

pub returns : goal.returns
unfolding share_sums
returns c =
    let p = c.args.tile.now in
    let mine = c.args.mine in
    let region = c.args.share.region in
    let size = c.args.share.size in
    let part = c.args.share.part in
    let corner = c.args.share.corner in
    let news = c.loop-j.sums in
    let olds = c.args.sums.now in
    let h = grid_of (places_of region size part) p.channels (λ i j k. area_sum region size part (tile_sample p corner part k) i j) in
    let ch : c.channels-channels.result ≡ p.channels = c.channels-channels.ensures ∙ c.kind.ensures in
    let rows : c.loop-j.j ≡ c.part_of-common.result.h = omega arith in
    let done = subst (λ j. AddedTo c.channels-channels.result mine c.places_of-places.result c.part_of-common.result
    c.corner_of-left.result.0 c.corner_of-left.result.1 olds
    (part_sums region size part p corner c.channels-channels.result c.places_of-places.result) news j) rows c.loop-j.invariant in
    let kind = subst (λ n. AddedTo n mine c.places_of-places.result c.part_of-common.result c.corner_of-left.result.0
    c.corner_of-left.result.1 olds
    (part_sums region size part p corner n c.places_of-places.result) news c.part_of-common.result.h) ch done in
    let at = subst (λ (k : ℕ × ℕ). AddedTo p.channels mine c.places_of-places.result c.part_of-common.result k.0 k.1 olds
    (part_sums region size part p corner p.channels c.places_of-places.result) news c.part_of-common.result.h) c.corner_of-left.ensures kind
    in
    let common = subst (λ (q : Rect). AddedTo p.channels mine c.places_of-places.result q (corner_of c.places_of-places.result mine).0
    (corner_of c.places_of-places.result mine).1 olds
    (part_sums region size part p corner p.channels c.places_of-places.result) news q.h) c.part_of-common.ensures.part at in
    let all = subst (λ (s : Rect). AddedTo p.channels mine s (part_of s mine) (corner_of s mine).0 (corner_of s mine).1 olds
    (part_sums region size part p corner p.channels s) news (part_of s mine).h) c.places_of-places.ensures.places common in
    added_is (record { rect = mine; channels = p.channels; sums = olds }) h news (omega (arith, c.loop-j.auto.sums, c.requires.mine)) refl
    all
