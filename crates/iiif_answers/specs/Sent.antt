-- What one answer leaves in a writer.
use Rattle.std.specs.Prelude.{◌≡◌, ℕ, List, ◌++◌, length, Option, Result, Ok, Err}
use Rattle.std.specs.Io.KnownBytes.{Appends}
use Rattle.iiif_io.specs.Sending.{IsStrictPrefix}
use Rattle.iiif_answers.specs.declared.answer.Sent.{Sent}
use Rattle.iiif_answers.specs.declared.answer.Cut.{Cut}
use Rattle.iiif_answers.specs.declared.answer.Cause.TheVariants.{Writer}
use Rattle.iiif_answers.specs.declared.message.Message.{Message}

-- an answer as it is written: its status, and the head and the body that are sent
pub record Answer : Type 0 where
  pub status : ℕ
  pub head : List ℕ
  pub body : List ℕ

-- the one that was made
abbrev pub answer_of : Message → Answer
answer_of m = record { status = m.status; head = m.head.items; body = m.body.items }

abbrev pub text_of : Answer → List ℕ
text_of a = a.head ++ a.body

-- The text of an answer that is no image that was loaded was sent with that result: the whole answer, or a strict prefix before the writer
-- failed.
abbrev pub EndsWith : Type 0 → Answer → List ℕ → Result Sent Cut → Type 0
EndsWith writer a text (Ok sent) = (text ≡ text_of a) × (sent.status ≡ a.status) × (sent.bytes ≡ length text) × (sent.held ≡ 0)
EndsWith writer a text (Err cut) = (cut.sent ≡ length text) × (cut.cause ≡ Writer) × writer × IsStrictPrefix text (text_of a)

-- the writer has a text more than before, which was sent with that result
abbrev pub IsSent : {W : Type 0} → (W → Option (List ℕ)) → (W → W → Type 0) → W → W → Answer → Result Sent Cut → Type 0
IsSent {W} contents fails old new a result =
    (text : List ℕ) × Appends (contents old) (contents new) text × EndsWith ((before : W) × fails before new) a text result
