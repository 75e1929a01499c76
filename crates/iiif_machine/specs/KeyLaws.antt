-- The laws of keys, plans and images.
use Rattle.std.specs.Prelude.{◌≡◌, ◌↔◌, ◌<◌, ℕ, List, [], true, Some, Ok, Err, All, map}
use Rattle.iiif_pixel.specs.Picture.{Picture, dim_of}
use Rattle.iiif_planner.specs.Items.{HasItems}
use Rattle.iiif_planner.specs.declared.plans.Plan.{Plan}
use Rattle.iiif_machine.specs.Scenes.{Scene, IsProper}
use Rattle.iiif_machine.specs.Keys.{Key, name_of, rank_of, key_eq, Fits, meaning, parts_of, derived}
use Rattle.iiif_machine.specs.Plans.{Request, Refusal, Resolved, resolved, items, keys_in}
use Rattle.iiif_machine.specs.Images.{image, assembled}

-- keys that compare as equal are one
abbrev pub KeysAreTold : Type 0
KeysAreTold = (a b : Key) → key_eq a b ≡ true ↔ a ≡ b

-- the parts of a key that names something name something
abbrev pub PartsFit : Type 0
PartsFit = (s : Scene) (k : Key) (parts : List Key) → parts_of k ≡ Some parts → Fits s k → All (Fits s) parts

-- they are of its image, and of lower ranks
abbrev pub PartsAreBelow : Type 0
PartsAreBelow = (k : Key) (parts : List Key) → parts_of k ≡ Some parts →
    All (λ part. (name_of part ≡ name_of k) × (rank_of part < rank_of k)) parts

-- and what their meanings make is its meaning
abbrev pub PartsMakeMeaning : Type 0
PartsMakeMeaning = (s : Scene) (k : Key) (parts : List Key) → IsProper s → parts_of k ≡ Some parts → Fits s k →
    derived s k (map (meaning s) parts) ≡ meaning s k

-- the picture has the name, and the request comes to this
pub record Accepts (s : Scene) (name : List ℕ) (p : Picture) (q : Request) (r : Resolved) : Type 0 where
  pub shown : s.shows name ≡ Some p
  pub solved : resolved s p q ≡ Ok r

-- The items are those of the plan that the planner makes, in its order.
abbrev pub PlansHaveItems : Type 0
PlansHaveItems = (s : Scene) (name : List ℕ) (p : Picture) (r : Resolved) (plan : Plan) →
    HasItems name s.edge (dim_of p) p.channels s.room r plan →
    items s name p r ≡ keys_in plan

-- no plan is empty
abbrev pub NoPlanIsEmpty : Type 0
NoPlanIsEmpty = (s : Scene) (name : List ℕ) (p : Picture) (q : Request) (r : Resolved) → IsProper s → Accepts s name p q r →
    ¬ (items s name p r ≡ [])

-- each item of a plan names something, of the image of this name
abbrev pub ItemsFit : Type 0
ItemsFit = (s : Scene) (name : List ℕ) (p : Picture) (q : Request) (r : Resolved) → IsProper s → Accepts s name p q r →
    All (λ k. Fits s k × (name_of k ≡ name)) (items s name p r)

-- and what their meanings make is the image
abbrev pub ItemsMakeImage : Type 0
ItemsMakeImage = (s : Scene) (name : List ℕ) (p : Picture) (q : Request) (r : Resolved) → IsProper s → Accepts s name p q r →
    image s p q ≡ Ok (assembled s p r (map (meaning s) (items s name p r)))

-- a request that is refused has no image
abbrev pub RefusedHasNoImage : Type 0
RefusedHasNoImage = (s : Scene) (name : List ℕ) (p : Picture) (q : Request) (e : Refusal) → IsProper s → s.shows name ≡ Some p →
    resolved s p q ≡ Err e →
    image s p q ≡ Err e
