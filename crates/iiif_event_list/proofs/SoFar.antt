-- How the replay of a reader goes on line by line.
use Rattle.std.proofs.Common.{Bool, false, ◌≡◌, inl, inr, ◌++◌, ◌<◌, append_assoc, ℕ, List, [], ◌∷◌, length, Option, Some, None, refl}
use Rattle.std.proofs.Common.{sym, ap, subst}
use Rattle.std.specs.Prelude.{IfSome, OnOk, Result, Ok, Err}
use Rattle.std.specs.Io.BufRead.{DropsThrough, first_line}
use Rattle.std.specs.Io.KnownBytes.{Appends, IsAtEnd}
use Rattle.std.proofs.KnownBytes.{Appends-trans}
use Rattle.iiif_machine.specs.Worlds.{World}
use Rattle.iiif_machine.specs.declared.events.Event.{Event}
use Rattle.iiif_event_list.specs.Described.{plain_world}
use Rattle.iiif_event_list.specs.declared.replaying.State.{State}
use Rattle.iiif_event_list.specs.declared.Mode.{Mode}
use Rattle.iiif_event_list.specs.declared.Mode.TheVariants.{Judging}
use Rattle.iiif_event_list.specs.declared.Stop.{Stop}
use Rattle.iiif_event_list.specs.declared.Stop.TheVariants.{Line, NotNow}
use Rattle.iiif_event_list.specs.Replays.{AreFirstLinesIn, AreLinesIn, GoesOn, IsBad, IsNew, LineComes, LinesCome, LinesStop, Replays}
use Rattle.iiif_event_list.specs.Replays.{Stops, StopsAt, done_in, ended_text, first_in, number_behind}
use Rattle.iiif_event_list.proofs.Going.{IsGoingOn, line_goes_on, new_goes_on, right_in}

-- What was written so far, and which events of the list that is replayed were done in which first world; and whatever lines may come
-- yet, what they come to ends the replay, and at whichever it stops, it stops.
pub record WrittenSoFar (mode : Mode) (input left : Option (List ℕ)) (n : ℕ) (s : State) (old new : Option (List ℕ)) : Type 0 where
  pub text : List ℕ
  pub written : Appends old new text
  pub first : World
  pub done : List Event
  pub going : IsGoingOn first done s
  pub more : (lines : List (List ℕ)) (rest : List ℕ) → AreLinesIn left lines → LinesCome mode n lines first done s rest →
      Replays mode input (text ++ rest)
  pub stops : (lines : List (List ℕ)) (stop : Stop) (rest : List ℕ) → AreFirstLinesIn left lines →
      LinesStop mode n lines first done s stop rest → Stops mode input stop (text ++ rest)

nothing_appended : (a : Option (List ℕ)) → Appends a a []
nothing_appended None = tt
nothing_appended (Some xs) = sym (append_nothing xs)
  where
    append_nothing : (ys : List ℕ) → ys ++ [] ≡ ys
    append_nothing [] = refl
    append_nothing (y ∷ ys) = ap (λ zs. y ∷ zs) (append_nothing ys)

pub begun : (mode : Mode) (input left : Option (List ℕ)) (s : State) (old : Option (List ℕ)) → left ≡ input → IsNew s →
    WrittenSoFar mode input left 0 s old old
begun mode input left s old same new = record {
  text = [];
  written = nothing_appended old;
  first = plain_world;
  done = [];
  going = new_goes_on s new;
  more = λ lines rest read come. record {
    lines = lines;
    read = subst (λ o. AreLinesIn o lines) same read;
    start = s;
    new = new;
    come =
        come;
  };
  stops = λ lines stop rest read stops. record {
    lines = lines;
    read = subst (λ o. AreFirstLinesIn o lines) same read;
    start = s;
    new = new;
    stops =
        stops;
  };
}

line_read : (old new : Option (List ℕ)) (line : List ℕ) (lines : List (List ℕ))
    → IfSome old (λ xs. (0 < length xs) × (line ≡ first_line xs)) → DropsThrough old new 10 → AreLinesIn new lines →
    AreLinesIn old (line ∷ lines)
line_read None new line lines is drops read = tt
line_read (Some xs) new line lines is drops read = (is.0, is.1, subst (λ o. AreLinesIn o lines) drops read)

first_line_read : (old new : Option (List ℕ)) (line : List ℕ) (lines : List (List ℕ))
    → IfSome old (λ xs. (0 < length xs) × (line ≡ first_line xs)) → DropsThrough old new 10 → AreFirstLinesIn new lines →
    AreFirstLinesIn old (line ∷ lines)
first_line_read None new line lines is drops read = tt
first_line_read (Some xs) new line lines is drops read = (is.0, is.1, subst (λ o. AreFirstLinesIn o lines) drops read)

none_read : (o : Option (List ℕ)) → AreFirstLinesIn o []
none_read None = tt
none_read (Some xs) = tt

-- a line that stops the replay, of which this was written
pub stopped : (mode : Mode) (input left next : Option (List ℕ)) (n m : ℕ) (s : State) (old mid new : Option (List ℕ)) (line bytes : List ℕ)
    (stop : Stop) (front : List ℕ) → WrittenSoFar mode input left n s old mid →
    IfSome left (λ xs. (0 < length xs) × (bytes ≡ first_line xs)) × DropsThrough left next 10 →
    line ≡ bytes → m ≡ number_behind n → StopsAt mode m line s stop front → Appends mid new front →
    (text : List ℕ) × Stops mode input stop text × Appends old new text
stopped mode input left next n m s old mid new line bytes stop front so_far is same behind stops written = (
  so_far.text ++ front,
  so_far.stops (bytes ∷ []) stop front (first_line_read left next bytes [] is.0 is.1 (none_read next))
      (inl (refl, subst (λ k. StopsAt mode k bytes s stop front) behind (subst (λ l. StopsAt mode m l s stop front) same stops))),
  Appends-trans old mid new so_far.text front so_far.written written,
)

-- a bad line, of which nothing was written
pub stopped_bad : (mode : Mode) (input left next : Option (List ℕ)) (n m k : ℕ) (s : State) (old mid new : Option (List ℕ))
    (line bytes : List ℕ) → WrittenSoFar mode input left n s old mid →
    IfSome left (λ xs. (0 < length xs) × (bytes ≡ first_line xs)) × DropsThrough left next 10 → line ≡ bytes → m ≡ number_behind n →
    (k ≡ m) × IsBad line s × (new ≡ mid) → (text : List ℕ) × Stops mode input (Line k) text × Appends old new text
stopped_bad mode input left next n m k s old mid new line bytes so_far is same behind bad =
    stopped mode input left next n m s old mid new line bytes (Line k) [] so_far is same behind (bad.0, bad.1, refl)
    (subst (λ o. Appends mid o []) (sym bad.2) (nothing_appended mid))

-- an event that isn't allowed, where the replay judges
pub stopped_at : (mode : Mode) (input left next : Option (List ℕ)) (n m k : ℕ) (s t : State) (old mid new : Option (List ℕ))
    (line bytes : List ℕ) → WrittenSoFar mode input left n s old mid →
    IfSome left (λ xs. (0 < length xs) × (bytes ≡ first_line xs)) × DropsThrough left next 10 → line ≡ bytes → m ≡ number_behind n →
    (k ≡ m) × (mode ≡ Judging) × (front : List ℕ) × (done : List Event) × LineComes m line s false done t front × Appends mid new front →
    (text : List ℕ) × Stops mode input (NotNow k) text × Appends old new text
stopped_at mode input left next n m k s t old mid new line bytes so_far is same behind told =
    stopped mode input left next n m s old mid new line bytes (NotNow k) told.2 so_far is same behind
    (told.0, told.1, t, told.3, told.4) told.5

pub went_on : (mode : Mode) (input left next : Option (List ℕ)) (n m : ℕ) (s t : State) (old mid new : Option (List ℕ))
    (line bytes front : List ℕ) (allowed : Bool) (events : List Event) → WrittenSoFar mode input left n s old mid →
    IfSome left (λ xs. (0 < length xs) × (bytes ≡ first_line xs)) × DropsThrough left next 10 →
    line ≡ bytes → m ≡ number_behind n → LineComes m line s allowed events t front → GoesOn mode allowed → Appends mid new front →
    WrittenSoFar mode input next m t old new
went_on mode input left next n m s t old mid new line bytes front allowed events so_far is same behind comes on written =
    let comes_so : LineComes m bytes s allowed events t front = subst (λ l. LineComes m l s allowed events t front) same comes in
    let comes_behind : LineComes (number_behind n) bytes s allowed events t front =
    subst (λ k. LineComes k bytes s allowed events t front) behind comes_so in
    let first : World = first_in t so_far.first in
    let done : List Event = done_in t (so_far.done ++ events) in
    let going : IsGoingOn first done t =
    line_goes_on m bytes s t so_far.first so_far.done allowed events front so_far.going comes_so in
    record {
      text = so_far.text ++ front;
      written = Appends-trans old mid new so_far.text front so_far.written written;
      first = first;
      done = done;
      going = going;
      more = λ lines rest read come. subst (Replays mode input) (sym (append_assoc so_far.text front rest))
          (so_far.more (bytes ∷ lines) (front ++ rest) (line_read left next bytes lines is.0 is.1 read) (
            t,
            allowed,
            events,
            front,
            rest,
            comes_behind,
            on,
            right_in t first done going,
            subst (λ k. LinesCome mode k lines first done t rest) behind come,
            refl,
          ));
      stops = λ lines stop rest read stops. subst (Stops mode input stop) (sym (append_assoc so_far.text front rest))
          (so_far.stops (bytes ∷ lines) stop (front ++ rest) (first_line_read left next bytes lines is.0 is.1 read) (inr (
            t,
            allowed,
            events,
            front,
            rest,
            comes_behind,
            on,
            right_in t first done going,
            subst (λ k. LinesStop mode k lines first done t stop rest) behind stops,
            refl,
          )));
    }

nothing_left : (left : Option (List ℕ)) → IsAtEnd left → AreLinesIn left []
nothing_left None at_end = tt
nothing_left (Some xs) at_end = at_end

pub finished : (mode : Mode) (input left : Option (List ℕ)) (n : ℕ) (s : State) (old mid new : Option (List ℕ))
    → WrittenSoFar mode input left n s old mid → IsAtEnd left → Appends mid new (ended_text s) → (text : List ℕ) ×
    Replays mode input text × Appends old new text
finished mode input left n s old mid new so_far at_end written = (
  so_far.text ++ ended_text s,
  so_far.more [] (ended_text s) (nothing_left left at_end) refl,
  Appends-trans old mid new so_far.text (ended_text s) so_far.written written,
)

pub on_ok_then : {A E P Q : Type 0} (r : Result A E) → (P → Q) → OnOk r P → OnOk r Q
on_ok_then (Ok x) f p = f p
on_ok_then (Err e) f p = tt

-- what a `?` handed on is what the call failed with
pub same_fault : {T E : Type 0} (r : Result T E) (f g : E) → (y : E) × (r ≡ Err y) × (y ≡ f) → r ≡ Err g → f ≡ g
same_fault r f g told is = cc
