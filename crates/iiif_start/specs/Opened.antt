-- Images as a start opens them, one after another.
use Rattle.std.specs.Prelude.{◌≡◌, ℕ, Bool, false, List, map}
use Rattle.std.specs.List.{AllZip}
use denote.Ref.{Bor}
use Rattle.iiif_tile_group.specs.Collection.{Item}
use Rattle.iiif_start.specs.Parts.{Parts}
use Rattle.iiif_start.specs.Stored.{IsItemOf}
use Rattle.iiif_start.specs.declared.holding.Holding.{Holding}
use Rattle.iiif_start.specs.declared.stored.Stored.{Stored}

-- These images were opened: those that are served stand in the catalogue in their order, and others are left out only where that is asked
-- for.
pub record AreOpened {R : Type 0} {d : _} (holds : List ℕ → List ℕ) (keeps : List ℕ → Type 0) (holding : Holding) (skip : Bool)
    (images : List (Bor (List ℕ) × Bor (List ℕ))) (catalogue : List (Item (Stored R d)))
    (served others : List (Bor (List ℕ) × Bor (List ℕ))) : Type 0 where
  pub names : map (λ i. i.name) catalogue ≡ map (λ i. i.0.now) served
  pub items : AllZip (IsItemOf holds keeps holding) served catalogue
  pub each : Parts images served others
  pub all : skip ≡ false → served ≡ images
