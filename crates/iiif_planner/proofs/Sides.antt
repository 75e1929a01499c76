-- What the test says of a result's sides.
use Rattle.std.proofs.Common.{◌≡◌, ◌<◌, ◌≤◌, Bool, true, false, inl, inr, refl, arith}
use Rattle.std.specs.Prelude.{nat_lt, ◌||◌}
use Rattle.std.proofs.lemmas.Bool.Decides.{nat_tests}
use Rattle.iiif_canonical.specs.declared.resolved.Resolved.{Resolved}
use Rattle.iiif_planner.specs.Items.{is_scaled_up}
use Rattle.iiif_planner.specs.Plans.{IsScaledUp}

up_by : (columns rows : Bool) (r : Resolved) → nat_lt r.rect.w r.size.w ≡ columns → nat_lt r.rect.h r.size.h ≡ rows →
    columns || rows ≡ true → IsScaledUp r
up_by true rows r c h up =
    let wider : r.rect.w < r.size.w = grind (arith, nat_tests) in
    inl wider
up_by false true r c h up =
    let higher : r.rect.h < r.size.h = grind (arith, nat_tests) in
    inr higher
up_by false false r c h up = cc

-- a result that is tested to be scaled up has a side above the region's
pub up_tested : (r : Resolved) → is_scaled_up r ≡ true → IsScaledUp r
up_tested r up = up_by _ _ r refl refl up

-- and one that isn't has none
pub down_tested : (r : Resolved) → is_scaled_up r ≡ false → (r.size.w ≤ r.rect.w) × (r.size.h ≤ r.rect.h)
down_tested r up =
    let columns : r.size.w ≤ r.rect.w = grind (arith, nat_tests) in
    let rows : r.size.h ≤ r.rect.h = grind (arith, nat_tests) in
    (columns, rows)
