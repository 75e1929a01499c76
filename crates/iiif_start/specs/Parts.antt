-- Images of which some are left out.
use Rattle.std.specs.Prelude.{List, [], ◌∷◌, ◌++◌}

-- Each of the items is among the ones or among the others, and these stand in the order of the items.
pub data Parts {A : Type 0} : List A → List A → List A → Type 0 where
  none : Parts [] [] []
  left : (all ones others : List A) (x : A) → Parts all ones others → Parts (all ++ x ∷ []) (ones ++ x ∷ []) others
  right : (all ones others : List A) (x : A) → Parts all ones others → Parts (all ++ x ∷ []) ones (others ++ x ∷ [])
