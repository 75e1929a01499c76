-- What a node answers to one target that holds all its images in memory and asks no other. Nothing is assumed of it.
use Rattle.std.specs.Prelude.{◌≡◌, ℕ, ◌⊎◌, Bool, List, [], Option, Result, Ok, Err, IsErr}
use Rattle.std.specs.Io.KnownBytes.{Appends}
use denote.Ref.{Bor}
use Rattle.iiif_tile_group.specs.Collection.{Item}
use Rattle.iiif_answers.specs.Settings.{Settings}
use Rattle.iiif_answers.specs.declared.answer.Cut.{Cut}
use Rattle.iiif_answers.specs.declared.answer.Sent.{Sent}
use Rattle.iiif_answers.specs.declared.part.Part.TheVariants.{Body}
use Rattle.iiif_command_line.specs.declared.line.Options.{Options}
use Rattle.iiif_connections.specs.Held.{AllHeld, AllowedOfHeld}
use Rattle.iiif_program.specs.Lines.{holding_in, settings_in}
use Rattle.iiif_start.specs.Opened.{AreOpened}
use Rattle.iiif_start.specs.declared.holding.Holding.{Holding}
use Rattle.iiif_start.specs.declared.stop.Stop.{Stop}
use Rattle.iiif_start.specs.declared.stored.Stored.{Stored}

-- the text is the whole body of an answer to the target
abbrev pub IsBody : {S : Type 0} → (S → List ℕ) → Settings → List (Item S) → List ℕ → Type 0 → List ℕ → Type 0
IsBody bytes settings items target writer text = (sent : Sent) × AllowedOfHeld bytes settings items Body target writer text (Ok sent)

-- it is what of one was written before it was cut off
abbrev pub IsCutBody : {S : Type 0} → (S → List ℕ) → Settings → List (Item S) → List ℕ → Type 0 → List ℕ → Type 0
IsCutBody bytes settings items target writer text = (cut : Cut) × AllowedOfHeld bytes settings items Body target writer text (Err cut)

-- What is written of the answer to a target, with that result: all of a body; or what of one was written before it was cut off, if
-- anything was.
abbrev pub IsAnswerOfHeld : {S : Type 0} → (S → List ℕ) → Settings → List (Item S) → List ℕ → Type 0 → List ℕ → Result (Unit {0}) Stop →
    Type 0
IsAnswerOfHeld bytes settings items target writer text (Ok _) = IsBody bytes settings items target writer text
IsAnswerOfHeld bytes settings items target writer text (Err stop) = (text ≡ []) ⊎ IsCutBody bytes settings items target writer text

-- A catalogue is that of images as a start opened them; some may be left out, where that is asked for. Of an image that is held, a manifest
-- lists the digest of its bytes, where there is one.
pub record IsCatalogueOf {R : Type 0} {d : _} (holds : List ℕ → List ℕ) (keeps : List ℕ → Type 0) (holding : Holding) (skip : Bool)
    (images : List (Bor (List ℕ) × Bor (List ℕ))) (catalogue : List (Item (Stored R d))) : Type 0 where
  pub served : List (Bor (List ℕ) × Bor (List ℕ))
  pub others : List (Bor (List ℕ) × Bor (List ℕ))
  pub opened : AreOpened holds keeps holding skip images catalogue served others

-- The images of the options were opened, and where all of them are held, this is written of the answer to a target.
pub record IsAnswerOfOpened {R : Type 0} {d : _} (bytes : Stored R d → List ℕ) (holds : List ℕ → List ℕ) (keeps : List ℕ → Type 0)
    (options : Options) (target : List ℕ) (writer : Type 0) (old new : Option (List ℕ)) (result : Result (Unit {0}) Stop) : Type 0 where
  pub items : List (Item (Stored R d))
  pub opened : IsCatalogueOf holds keeps (holding_in options) options.skip_unfit options.images.items items
  pub answer : AllHeld items → (text : List ℕ) × Appends old new text
      × IsAnswerOfHeld bytes (settings_in options) items target writer text result

-- That, or the images weren't opened, and nothing is written.
abbrev pub AnswersOpened : {R : Type 0} {d : _} → (Stored R d → List ℕ) → (List ℕ → List ℕ) → (List ℕ → Type 0) → Options → List ℕ → Type 0
    → Option (List ℕ) → Option (List ℕ) → Result (Unit {0}) Stop → Type 0
AnswersOpened bytes holds keeps options target writer old new result =
    (IsErr result × (new ≡ old)) ⊎ IsAnswerOfOpened bytes holds keeps options target writer old new result
