-- How many samples are held.
use Rattle.std.proofs.Common.{◌≡◌, ℕ, zero, suc, ◌+◌, ◌*◌, ◌<◌, ◌≤◌, max, Bool, true, false, refl, sym, ap, subst, ◌∙◌, arith}
use Rattle.std.specs.Prelude.{if◌then◌else◌}
use Rattle.iiif_pixel.specs.Operations.{mirrored, turned_by, turn}
use Rattle.iiif_pixel.specs.Picture.{Picture, dim_of}
use Rattle.iiif_pixel.specs.declared.geometry.Dim.{Dim}
use Rattle.iiif_pixel.specs.declared.geometry.Turn.{Turn}
use Rattle.iiif_assemble.specs.Code.{count_of, IsWithin}
use Rattle.iiif_assemble.specs.Jobs.{IsHeldFor}

pub count_is : (p : Picture) (d : Dim) (n : ℕ) → dim_of p ≡ d → p.channels ≡ n → count_of p ≡ d.w * d.h * n
count_is p d n sides channels = ap (λ (e : Dim). e.w * e.h * p.channels) sides ∙ ap (λ m. d.w * d.h * m) channels

pub held_for : (d : Dim) (n count held : ℕ) → count ≡ d.w * d.h * n → IsWithin count held → IsHeldFor d n held
held_for d n count held is within =
    let w = subst (λ m. IsWithin m held) is within in
    record { own = w.0; twice = w.1 }

turned_count : (n : ℕ) (p : Picture) → n < 4 → count_of (turned_by n p) ≡ count_of p
turned_count zero p few = refl
turned_count (suc zero) p few = let e : p.height * p.width ≡ p.width * p.height = omega arith in ap (λ m. m * p.channels) e
turned_count (suc (suc zero)) p few = refl
turned_count (suc (suc (suc zero))) p few = let e : p.height * p.width ≡ p.width * p.height = omega arith in ap (λ m. m * p.channels) e
turned_count (suc (suc (suc (suc n)))) p few = absurd (omega (arith, few))

prepared_count : (n : ℕ) (m : Bool) (p : Picture) → n < 4 → count_of (turned_by n (if m then mirrored p else p)) ≡ count_of p
prepared_count n true p few = turned_count n (mirrored p) few
prepared_count n false p few = turned_count n p few

-- a picture and what it becomes, turned, held at once
pub held_turned : (t : Turn) (p r : Picture) (held old new most : ℕ) → t.quarters < 4 → r ≡ turn p t → old ≡ count_of p → new ≡ count_of r →
    most ≡ max held (old + new) →
    IsWithin (count_of p) held → IsWithin (count_of r) most
held_turned t p r held old new most few is of_old of_new are within =
    let n = count_of p in
    let same : count_of r ≡ n = ap count_of is ∙ prepared_count t.quarters t.mirror p few in
    let of : new ≡ n = of_new ∙ same in
    let a : n ≤ most = let l = within.0 in omega arith in
    let b : most ≤ 2 * n = let u = within.1 in omega arith in
    subst (λ m. IsWithin m most) (sym same) (a, b)
