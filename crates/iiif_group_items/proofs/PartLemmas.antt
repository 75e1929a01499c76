-- The quarters of a block as parts of it, and what is told of an outcome.
use Rattle.std.proofs.Common.{◌≡◌, ◌∙◌, ℕ, Bool, ◌<◌, List, All, Some, IsTrue, Result, Ok, Err, IfOk, IfErr, sym, subst, refl, arith}
use Rattle.iiif_source.specs.declared.ReadFault.{ReadFault}
use Rattle.iiif_pixel.specs.Geometry.{channels_of}
use Rattle.iiif_keys.specs.Laws.{IsBelow, PartsAreBelow, PartsFit}
use Rattle.iiif_keys.specs.Meaning.{sums_below}
use Rattle.iiif_keys.specs.Names.{Pictures}
use Rattle.iiif_keys.specs.Shapes.{shape_of}
use Rattle.iiif_keys.specs.declared.fault.Fault.{Fault}
use Rattle.iiif_keys.specs.declared.keys.Shape.{Shape}
use Rattle.iiif_keys.specs.declared.keys.SumKey.{SumKey}
use Rattle.iiif_outcome.specs.Outcomes.{is_given}
use Rattle.iiif_assemble.specs.Opening.{IsPart}
use Rattle.iiif_group_items.specs.Values.{SumIsNamed}

pub quarters_are_parts : PartsAreBelow → PartsFit → (shows : Pictures) (edge : ℕ) (gave : List ℕ → ReadFault → Bool) (k : SumKey) →
    0 < k.level → SumIsNamed shows edge k →
    All (IsPart (SumIsNamed shows edge) (λ (q : SumKey). q.level) (λ (q : SumKey) (f : Fault). IsTrue (is_given (gave q.name) f)) k)
    (sums_below k)
quarters_are_parts below fit shows edge gave k above names = λ i d within.
    let s : Shape = shape_of names.picture in
    let is : IsBelow k _ = below k above i d within in
    record {
      fits = record {
        picture = names.picture;
        known = subst (λ (n : List ℕ). shows n ≡ Some names.picture) (sym is.name) names.known;
        own_edge = is.edge ∙ names.own_edge;
        fits = fit s.dim (channels_of s.kind) k above names.fits i d within;
      };
      lower = omega (arith, is.level);
      fails = λ f given. subst (λ (n : List ℕ). IsTrue (is_given (gave n) f)) is.name given;
    }

-- what holds of each value, or fault, that an outcome may be holds of it
pub value_told : {V E : Type 0} (o : Result V E) (P : V → Type 0) → ((v : V) → o ≡ Ok v → P v) → IfOk o P
value_told (Ok v) P holds = holds v refl
value_told (Err f) P holds = tt

pub fault_told : {V E : Type 0} (o : Result V E) (P : E → Type 0) → ((f : E) → o ≡ Err f → P f) → IfErr o P
fault_told (Ok v) P holds = tt
fault_told (Err f) P holds = holds f refl
