-- What a node that holds all its images writes of an answer.
use Rattle.std.proofs.Common.{◌≡◌, ℕ, ◌⊎◌, inl, inr, Bool, true, false, List, [], Option, Result, Ok, Err, map, subst}
use Rattle.std.specs.Prelude.{IsErr}
use Rattle.std.specs.List.{AllZip}
use Rattle.std.specs.Io.KnownBytes.{Appends}
use denote.Ref.{Bor}
use Rattle.iiif_tile_group.specs.Collection.{Item}
use Rattle.iiif_answers.specs.Allowed.{Allowed}
use Rattle.iiif_answers.specs.Answers.{Replies}
use Rattle.iiif_answers.specs.Settings.{Settings}
use Rattle.iiif_answers.specs.declared.answer.Cut.{Cut}
use Rattle.iiif_answers.specs.declared.answer.Sent.{Sent}
use Rattle.iiif_answers.specs.declared.part.Part.TheVariants.{Body}
use Rattle.iiif_connections.specs.Held.{AllHeld}
use Rattle.iiif_connections.proofs.HeldLemmas.{held_allowed}
use Rattle.iiif_command_line.specs.declared.line.Options.{Options}
use Rattle.iiif_program.specs.Alone.{AnswersOpened, IsAnswerOfHeld, IsAnswerOfOpened, IsBody, IsCatalogueOf, IsCutBody}
use Rattle.iiif_program.specs.Lines.{holding_in, settings_in}
use Rattle.iiif_start.specs.Opened.{AreOpened}
use Rattle.iiif_start.specs.Parts.{Parts}
use Rattle.iiif_start.specs.Stored.{bytes_of, keeps_of, stored_gave, IsItemOf}
use Rattle.iiif_start.specs.declared.holding.Holding.{Holding}
use Rattle.iiif_start.specs.declared.stop.Stop.{Stop}
use Rattle.iiif_start.specs.declared.stored.Stored.{Stored}

module _ {R : Type 0} {d : _} (holds : List ℕ → List ℕ) (keeps : List ℕ → Type 0) (honest : Bool) (settings : Settings)
    (items : List (Item (Stored R d))) (target : List ℕ)
    (writer : Type 0) (old new : Option (List ℕ)) (held : AllHeld items) (is_honest : honest ≡ true) where
  -- a body that was sent whole
  pub whole : (sent : Sent)
      → (text : List ℕ) × Appends old new text ×
      Allowed settings Body stored_gave (Replies (bytes_of holds) (keeps_of keeps) honest settings items target) writer text (Ok sent)
      → (text : List ℕ) × Appends old new text × IsBody (bytes_of holds) settings items target writer text
  whole sent may = (
    may.0,
    may.1,
    (
      sent,
      held_allowed holds keeps honest settings items target Body writer may.0 (Ok sent) held is_honest
          may.2,
    ),
  )

  -- one that was cut off
  pub cut_off : (cut : Cut)
      → (text : List ℕ) × Appends old new text ×
      Allowed settings Body stored_gave (Replies (bytes_of holds) (keeps_of keeps) honest settings items target) writer text (Err cut)
      → (text : List ℕ) × Appends old new text × ((text ≡ []) ⊎ IsCutBody (bytes_of holds) settings items target writer text)
  cut_off cut may = (
    may.0,
    may.1,
    inr (
      cut,
      held_allowed holds keeps honest settings items target Body writer may.0 (Err cut) held
          is_honest may.2,
    ),
  )

  -- the same, of a target that is the one that is asked for
  pub whole_of : (asked : List ℕ) → asked ≡ target → (sent : Sent)
      → (text : List ℕ) × Appends old new text ×
      Allowed settings Body stored_gave (Replies (bytes_of holds) (keeps_of keeps) honest settings items asked) writer text (Ok sent)
      → (text : List ℕ) × Appends old new text × IsBody (bytes_of holds) settings items target writer text
  whole_of asked same sent may = whole sent (subst (λ (t : List ℕ). (text : List ℕ) × Appends old new text
      × Allowed settings Body stored_gave (Replies (bytes_of holds) (keeps_of keeps) honest settings items t) writer text (Ok sent)) same
      may)

  pub cut_off_of : (asked : List ℕ) → asked ≡ target → (cut : Cut)
      → (text : List ℕ) × Appends old new text ×
      Allowed settings Body stored_gave (Replies (bytes_of holds) (keeps_of keeps) honest settings items asked) writer text (Err cut)
      → (text : List ℕ) × Appends old new text × ((text ≡ []) ⊎ IsCutBody (bytes_of holds) settings items target writer text)
  cut_off_of asked same cut may = cut_off cut (subst (λ (t : List ℕ). (text : List ℕ) × Appends old new text
      × Allowed settings Body stored_gave (Replies (bytes_of holds) (keeps_of keeps) honest settings items t) writer text (Err cut)) same
      may)

-- what a node answers is what one of its settings and images does
pub of_made : {R : Type 0} {d : _} (bytes : Stored R d → List ℕ) (honest : Bool) (made settings : Settings)
    (has items : List (Item (Stored R d)))
    (target : List ℕ) (writer : Type 0) (old new : Option (List ℕ)) (result : Result (Unit {0}) Stop) → made ≡ settings → has ≡ items →
    (AllHeld has → honest ≡ true → (text : List ℕ) × Appends old new text × IsAnswerOfHeld bytes made has target writer text result) →
    AllHeld items → honest ≡ true → (text : List ℕ) × Appends old new text × IsAnswerOfHeld bytes settings items target writer text result
of_made {R} {d} bytes honest made settings has items target writer old new result same_settings same_items answered =
    subst (λ (s : Settings). AllHeld items → honest ≡ true → (text : List ℕ) × Appends old new text
    × IsAnswerOfHeld bytes s items target writer text result) same_settings
    (subst (λ (i : List (Item (Stored R d))). AllHeld i → honest ≡ true → (text : List ℕ) × Appends old new text
    × IsAnswerOfHeld bytes made i target writer text result) same_items answered)

-- images that were opened, and are those that were named, are a catalogue
pub catalogue_of : {R : Type 0} {d : _} (holds : List ℕ → List ℕ) (keeps : List ℕ → Type 0) (holding : Holding) (skip : Bool)
    (named images served others : List (Bor (List ℕ) × Bor (List ℕ))) (catalogue : List (Item (Stored R d))) → images ≡ named
    → map (λ i. i.name) catalogue ≡ map (λ i. i.0.now) served → AllZip (IsItemOf holds keeps holding) served catalogue
    → Parts images served others → (skip ≡ false → served ≡ images) → IsCatalogueOf holds keeps holding skip named catalogue
catalogue_of holds keeps holding skip named images served others catalogue same names items each all =
    let opened : AreOpened holds keeps holding skip images catalogue served others =
    record { names = names; items = items; each = each; all = all } in
    record {
      served = served;
      others = others;
      opened = subst (λ (i : List (Bor (List ℕ) × Bor (List ℕ))). AreOpened holds keeps holding skip i catalogue served others) same opened;
    }

-- an answer of a catalogue is one of the options that it was opened by
pub opened_answer : {R : Type 0} {d : _} (holds : List ℕ → List ℕ) (keeps : List ℕ → Type 0) (options : Options) (settings : Settings)
    (items : List (Item (Stored R d))) (target : List ℕ) (writer : Type 0) (old new : Option (List ℕ)) (result : Result (Unit {0}) Stop)
    → settings ≡ settings_in options
    → IsCatalogueOf holds keeps (holding_in options) options.skip_unfit options.images.items items
    → (AllHeld items → (text : List ℕ) × Appends old new text × IsAnswerOfHeld (bytes_of holds) settings items target writer text result)
    → AnswersOpened (bytes_of {R = R} {d = d} holds) holds keeps options target writer old new result
opened_answer {R} {d} holds keeps options settings items target writer old new result same opened answered =
    let answer : IsAnswerOfOpened (bytes_of {R = R} {d = d} holds) holds keeps options target writer old new result =
    record {
      items = items;
      opened = opened;
      answer = subst (λ (s : Settings). AllHeld items → (text : List ℕ) × Appends old new text
          × IsAnswerOfHeld (bytes_of holds) s items target writer text result) same answered;
    } in
    inr answer

-- an end before anything was written
pub never_begun : {R : Type 0} {d : _} (holds : List ℕ → List ℕ) (keeps : List ℕ → Type 0) (options : Options) (target : List ℕ)
    (writer : Type 0) (old new : Option (List ℕ)) (result : Result (Unit {0}) Stop) → IsErr result → new ≡ old
    → AnswersOpened (bytes_of {R = R} {d = d} holds) holds keeps options target writer old new result
never_begun holds keeps options target writer old new result failed same = inl (failed, same)
