-- How a list of events that is replayed goes on by a line.
use Rattle.std.proofs.Common.{Bool, ◌≡◌, inl, inr, ◌++◌, ℕ, List, [], ◌∷◌, Some, refl, sym, ap, subst, ◌∙◌}
use Rattle.std.proofs.lemmas.Option.{none-some, same_Some}
use Rattle.iiif_machine.specs.Steps.{run}
use Rattle.iiif_machine.specs.Worlds.{World}
use Rattle.iiif_machine.specs.declared.events.Event.{Event}
use Rattle.iiif_world.specs.Code.{IsSoundWorld, world_of}
use Rattle.iiif_world.proofs.Right.{run_is_right}
use Rattle.iiif_world.proofs.Run.{runs_compose}
use Rattle.iiif_event_list.specs.Described.{first_by, first_of, plain_world}
use Rattle.iiif_event_list.specs.Spellings.{LineWords}
use Rattle.iiif_event_list.specs.declared.replaying.State.{State}
use Rattle.iiif_event_list.specs.declared.replaying.State.TheVariants.{Described, Begun, Lost}
use Rattle.iiif_event_list.specs.Replays.{Comes, HasBegun, HasHeadline, IsDescribed, IsNew, IsOutcome, LineComes, Sets, done_in}
use Rattle.iiif_event_list.specs.Replays.{first_in, world_in}
use Rattle.iiif_event_list.specs.Replays.{blank, comment, next, shown, set, happened}

-- The events that were done made of the first world, which is sound, the one that has begun; until one begins none was done.
abbrev pub IsGoingOn : World → List Event → State → Type 0
IsGoingOn first done (Described d) = (first ≡ first_of d) × (done ≡ [])
IsGoingOn first done (Begun w) = (run first done ≡ Some (world_of w)) × IsSoundWorld first
IsGoingOn first done Lost = Unit {0}

pub right_in : (s : State) (first : World) (done : List Event) → IsGoingOn first done s → HasHeadline first done s
right_in (Described d) first done h = tt
right_in (Begun w) first done h = (h.0, run_is_right first (world_of w) done h.1 h.0)
right_in Lost first done h = tt

pub new_goes_on : (s : State) → IsNew s → IsGoingOn plain_world [] s
new_goes_on (Described d) is = (sym (ap first_by is), refl)
new_goes_on (Begun w) is = absurd is
new_goes_on Lost is = absurd is

-- it goes on so from a state, by these events, in another
abbrev GoesOn : World → List Event → List Event → State → Type 0
GoesOn first done new t = IsGoingOn (first_in t first) (done_in t (done ++ new)) t

no_more : (es : List Event) → es ++ [] ≡ es
no_more [] = refl
no_more (e ∷ es) = ap (λ xs. e ∷ xs) (no_more es)

still : (s : State) (first : World) (done new : List Event) → IsGoingOn first done s → new ≡ [] → GoesOn first done new s
still (Described d) first done new going idle = (refl, refl)
still (Begun w) first done new going idle = (
  ap (λ (es : List Event). run first (done ++ es)) idle ∙ (ap (run first) (no_more done) ∙ going.0),
  going.1,
)
still Lost first done new going idle = tt

stays : (s t : State) (first : World) (done new : List Event) → IsGoingOn first done s → t ≡ s → new ≡ [] → GoesOn first done new t
stays s t first done new going same idle = subst (GoesOn first done new) (sym same) (still s first done new going idle)

begins_anew : (t : State) (first : World) (done new : List Event) → IsDescribed t → GoesOn first done new t
begins_anew (Described d) first done new is = (refl, refl)
begins_anew (Begun w) first done new is = absurd is
begins_anew Lost first done new is = absurd is

new_is_described : (t : State) → IsNew t → IsDescribed t
new_is_described (Described d) is = tt
new_is_described (Begun w) is = absurd is
new_is_described Lost is = absurd is

ran_on : (s t : State) (first : World) (done new : List Event) (v u : World) → IsGoingOn first done s → world_in s ≡ Some v →
    IsSoundWorld v → run v new ≡ Some u → world_in t ≡ Some u → GoesOn first done new t
ran_on s (Described d) first done new v u going at sound is there = (refl, refl)
ran_on s Lost first done new v u going at sound is there = tt
ran_on (Described d) (Begun w) first done new v u going at sound is there =
    let same : v ≡ first = sym (same_Some (first_of d) v at) ∙ sym going.0 in (
      ap (λ (es : List Event). run first (es ++ new)) going.1 ∙ (ap (λ (z : World). run z new) (sym same) ∙ (is ∙ sym there)),
      subst IsSoundWorld same sound,
    )
ran_on (Begun x) (Begun w) first done new v u going at sound is there = (
  runs_compose first (world_of x) (world_of w) done new going.0
      (ap (λ (z : World). run z new) (same_Some (world_of x) v at) ∙ (is ∙ sym there)),
  going.1,
)
ran_on Lost (Begun w) first done new v u going at sound is there = absurd (none-some v at)

ran_none : (v : World) (new : List Event) → new ≡ [] → run v new ≡ Some v
unfolding run
ran_none v new idle = ap (run v) idle

shown_on : (s t : State) (first : World) (done new : List Event) → IsGoingOn first done s → world_in t ≡ world_in s → HasBegun t →
    new ≡ [] → GoesOn first done new t
shown_on s (Described d) first done new going stands begun idle = absurd begun
shown_on s Lost first done new going stands begun idle = absurd begun
shown_on s (Begun w) first done new going stands begun idle =
    ran_on s (Begun w) first done new (world_of w) (world_of w) going (sym stands) begun (ran_none (world_of w) new idle) refl

ran_by : (number : ℕ) (line : List ℕ) (old new : World) (e : Event) (allowed : Bool) (done : List Event) (text : List ℕ) →
    IsOutcome number line old e allowed done new text → run old done ≡ Some new
ran_by number line old new e allowed done text (inl is) = is.2
ran_by number line old new e allowed done text (inr is) = ran_none old done is.1 ∙ ap (λ (w : World). Some w) (sym is.3)

sets_described : (ws : LineWords) (s t : State) → Sets ws s t → IsDescribed t
sets_described ws (Described d) (Described e) is = tt
sets_described ws (Described d) (Begun w) is = absurd is
sets_described ws (Described d) Lost is = absurd is
sets_described ws (Begun x) t is = absurd is
sets_described ws Lost t is = absurd is

goes_on_by : (number : ℕ) (line : List ℕ) (ws : LineWords) (s t : State) (first : World) (done : List Event) (allowed : Bool)
    (new : List Event) (text : List ℕ) → IsGoingOn first done s → Comes number line ws s allowed new t text → GoesOn first done new t
goes_on_by number line ws s t first done allowed new text going (blank none same fine idle nothing) =
    stays s t first done new going same idle
goes_on_by number line ws s t first done allowed new text going (comment is same fine idle nothing) =
    stays s t first done new going same idle
goes_on_by number line ws s t first done allowed new text going (next is fresh fine idle ended) =
    begins_anew t first done new (new_is_described t fresh)
goes_on_by number line ws s t first done allowed new text going (shown is fine idle) =
    shown_on s t first done new going is.stands is.begun idle
goes_on_by number line ws s t first done allowed new text going (set is fine idle) =
    begins_anew t first done new (sets_described ws s t is.sets)
goes_on_by number line ws s t first done allowed new text going (happened is) =
    ran_on s t first done new is.old is.new going is.begun is.sound
    (ran_by number line is.old is.new is.event allowed new text is.outcome) is.stands

pub line_goes_on : (number : ℕ) (line : List ℕ) (s t : State) (first : World) (done : List Event) (allowed : Bool) (new : List Event)
    (text : List ℕ) → IsGoingOn first done s → LineComes number line s allowed new t text →
    IsGoingOn (first_in t first) (done_in t (done ++ new)) t
line_goes_on number line s t first done allowed new text going comes =
    goes_on_by number line comes.0 s t first done allowed new text going comes.2
