use Rattle.std.proofs.Common.{◌≡◌, true, ℕ, List, [], codes, Result, Ok, Err, refl, string_bytes}
use Rattle.std.specs.Prelude.{IfOk, OnOk}
use Rattle.iiif_machine.specs.declared.events.Event.{Event}
use Rattle.iiif_event_list.specs.declared.fault.LineFault.{LineFault}
use Rattle.iiif_event_list.specs.declared.replaying.State.{State}
use Rattle.iiif_event_list.specs.declared.replaying.LineOutcome.{LineOutcome}
use Rattle.iiif_event_list.specs.Spellings.{LineWords}
use Rattle.iiif_event_list.specs.Replays.{Comes, HasBegun, IsAlone, IsNew, ended_text, next, shown, world_in}
use Rattle.iiif_event_list.proofs.replaying.Replay.come.Goals as goal

next_comes : (number : ℕ) (line : List ℕ) (ws : LineWords) (s t : State) (r : Result LineOutcome LineFault) →
    IsAlone ws (codes "world") → OnOk r (IsNew t) → IfOk r (λ o. (o.allowed ≡ true) × (string_bytes o.text ≡ ended_text s)) →
    IfOk r (λ o. (done : List Event) × Comes number line ws s o.allowed done t (string_bytes o.text))
next_comes number line ws s t (Ok o) is new ended = ([], next is new ended.0 refl ended.1)
next_comes number line ws s t (Err f) is new ended = tt

shown_comes : (number : ℕ) (line : List ℕ) (ws : LineWords) (s t : State) (r : Result LineOutcome LineFault) →
    IsAlone ws (codes "rows") → IfOk r (λ o. o.allowed ≡ true) → OnOk r (world_in t ≡ world_in s) → OnOk r (HasBegun t) →
    IfOk r (λ o. (done : List Event) × Comes number line ws s o.allowed done t (string_bytes o.text))
shown_comes number line ws s t (Ok o) is fine same begun = ([], shown (record { alone = is; stands = same; begun = begun }) fine refl)
shown_comes number line ws s t (Err f) is fine same begun = tt

pub returns-then-is_alone-clause-comes : goal.returns-then-is_alone-clause-comes
returns-then-is_alone-clause-comes c =
    next_comes c.args.number c.args.line.now c.args.words.now c.args.self.now.state c.next_world.new.self.state c.next_world.result
    (c.is_alone.ensures.yes c.if-is_alone.true) c.next_world.ensures.new c.next_world.ensures.ended

pub returns-then-is_alone-2-clause-comes : goal.returns-then-is_alone-2-clause-comes
returns-then-is_alone-2-clause-comes c =
    shown_comes c.args.number c.args.line.now c.args.words.now c.args.self.now.state c.show.new.self.state c.show.result
    (c.is_alone-2.ensures.yes c.if-is_alone-2.true) c.show.ensures.fine c.show.ensures.same c.show.ensures.begun
