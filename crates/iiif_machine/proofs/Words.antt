-- What the proofs speak of: the laws that they rest on, and what each event keeps.
use Rattle.std.specs.Prelude.{◌≡◌, ◌<◌, ◌⊎◌, ℕ, List, true, Some, Ok, Err, Bool, All, map}
use Rattle.iiif_machine.specs.Scenes.{Scene}
use Rattle.iiif_machine.specs.Keys.{name_of, rank_of, key_eq, Fits, meaning, parts_of, derived}
use Rattle.iiif_machine.specs.Plans.{resolved, items}
use Rattle.iiif_machine.specs.Images.{image, assembled}
use Rattle.iiif_machine.specs.Types.{Key, Value, Request, Refusal, Resolved, Picture}
use Rattle.iiif_machine.specs.Tables.{Class, Table, Outcome, Place, finds, leads, enter, again, land, evicted, emptied, Holds, IsOpen}
use Rattle.iiif_machine.specs.Worlds.{World}
use Rattle.iiif_machine.specs.Steps.{Event, step}
use Rattle.iiif_machine.specs.Sound.{Kept, Facts, IsHonestWorld, IsApart, cards, IsPlaced}
use Rattle.iiif_machine.specs.Promises.{AnswersStay, EndedStay, After}

-- the laws of keys, plans and images
pub record SubjectLaws (s : Scene) : Type 0 where
  pub same_key : (a b : Key) → key_eq a b ≡ true → a ≡ b
  pub parts_fit : (k : Key) (ks : List Key) → parts_of k ≡ Some ks → Fits s k → All (Fits s) ks
  pub parts_named : (k : Key) (ks : List Key) → parts_of k ≡ Some ks → All (λ q. name_of q ≡ name_of k) ks
  pub parts_below : (k : Key) (ks : List Key) → parts_of k ≡ Some ks → All (λ q. rank_of q < rank_of k) ks
  pub derived_is : (k : Key) (ks : List Key) → parts_of k ≡ Some ks → Fits s k → derived s k (map (meaning s) ks) ≡ meaning s k
  pub refused : (name : List ℕ) (p : Picture) (q : Request) (e : Refusal) → s.shows name ≡ Some p → resolved s p q ≡ Err e →
      image s p q ≡ Err e
  pub items_fit : (name : List ℕ) (p : Picture) (q : Request) (r : Resolved) → s.shows name ≡ Some p → resolved s p q ≡ Ok r →
      All (Fits s) (items s name p r)
  pub items_named : (name : List ℕ) (p : Picture) (q : Request) (r : Resolved) → s.shows name ≡ Some p → resolved s p q ≡ Ok r →
      All (λ k. name_of k ≡ name) (items s name p r)
  pub assembled_is : (name : List ℕ) (p : Picture) (q : Request) (r : Resolved) → s.shows name ≡ Some p → resolved s p q ≡ Ok r →
      image s p q ≡ Ok (assembled s p r (map (meaning s) (items s name p r)))

-- the laws of tables
pub record TableLaws : Type 0 where
  pub found : (t t' : Table) (k : Key) (c : Class) (v : Value) → enter t k c ≡ (finds v, t') → Holds t k v
  pub enter_holds : (t : Table) (k q : Key) (c : Class) (v : Value) → Holds (enter t k c).1 q v → Holds t q v
  pub again_found : (t t' : Table) (k : Key) (c : Class) (n : ℕ) (v : Value) → again t k c n ≡ (Some v, t') → Holds t k v
  pub again_holds : (t : Table) (k q : Key) (c : Class) (n : ℕ) (v : Value) → Holds (again t k c n).1 q v → Holds t q v
  pub land_holds : (t : Table) (k q : Key) (c : Class) (n : ℕ) (o : Outcome) (p : Place) (kept : Bool) (v : Value) →
      Holds (land t k c n o p kept) q v → Holds t q v ⊎ ((q ≡ k) × (o ≡ Ok v))
  pub evicted_holds : (t : Table) (ks : List Key) (q : Key) (v : Value) → Holds (evicted t ks) q v → Holds t q v
  pub emptied_holds : (t : Table) (q : Key) (v : Value) → ¬ (Holds (emptied t) q v)
  pub leads_new : (t t' : Table) (k : Key) (c : Class) (m n : ℕ) → enter t k c ≡ (leads n, t') → ¬ (IsOpen t k c m)
  pub leads_open : (t t' : Table) (k : Key) (c : Class) (n : ℕ) → enter t k c ≡ (leads n, t') → IsOpen t' k c n
  pub enter_open : (t : Table) (k q : Key) (c d : Class) (n : ℕ) → IsOpen t q d n → IsOpen (enter t k c).1 q d n
  pub again_open : (t : Table) (k q : Key) (c d : Class) (m n : ℕ) → IsOpen t q d n → IsOpen (again t k c m).1 q d n
  pub land_open : (t : Table) (k q : Key) (c d : Class) (m n : ℕ) (o : Outcome) (p : Place) (kept : Bool) → (k ≡ q → c ≡ d → ⊥) →
      IsOpen t q d n → IsOpen (land t k c m o p kept) q d n
  pub evicted_open : (t : Table) (ks : List Key) (q : Key) (d : Class) (n : ℕ) → IsOpen t q d n → IsOpen (evicted t ks) q d n

-- rows stay where they are, and only become more
pub record Later (a b : Facts) : Type 0 where
  pub callers : Kept a.callers b.callers
  pub leads : Kept a.leads b.leads
  pub asks : Kept a.asks b.asks
  pub given : Kept a.given b.given

-- the scene stays; a fault that was given is not taken back; an answer that was given is the same
pub record Goes (w v : World) : Type 0 where
  pub scene : v.scene ≡ w.scene
  pub given : Kept w.given v.given
  pub answers : AnswersStay w v

pub record Next (w v : World) : Type 0 where
  pub follows : Goes w v
  pub honest : IsHonestWorld v

abbrev pub StepsStayHonest : Type 0
StepsStayHonest = (w : World) (e : Event) → SubjectLaws w.scene → TableLaws → IsHonestWorld w → After (Next w) (step w e)

abbrev pub StepsStayApart : Type 0
StepsStayApart = (w : World) (e : Event) → SubjectLaws w.scene → TableLaws → IsApart w → After IsApart (step w e)

-- ended flights stay as they are, nodes keep their names and rings, and what is named is there
pub record Stays (w v : World) : Type 0 where
  pub ended : EndedStay w v
  pub cards : cards v ≡ cards w
  pub placed : IsPlaced v

abbrev pub StepsStayPlaced : Type 0
StepsStayPlaced = (w : World) (e : Event) → IsPlaced w → After (Stays w) (step w e)
