-- Laws of connections and of answers.
use Rattle.std.specs.Prelude.{◌≡◌, ℕ, ◌^◌, ◌<◌, Bool, List, Result, [], ◌∷◌, ◌++◌, All, length, map, codes, decimal}
use Rattle.httparse.specs.Grammar.{RequestHead, ResponseHead, ReadsResponse, status_code}
use Rattle.httparse.specs.Spans.{name_and_value}
use Rattle.iiif_http_front.specs.AnswerHeads.{head_text}
use Rattle.iiif_http_front.specs.Laws.{IsPlainField, close_fields}
use Rattle.iiif_http_front.specs.RequestHeads.{BeginsWithCall}
use Rattle.iiif_source.specs.declared.ReadFault.{ReadFault}
use Rattle.iiif_answers.specs.Allowed.{Allowed, IsFramed, IsFramedText}
use Rattle.iiif_tile_group.specs.Collection.{Item}
use Rattle.iiif_answers.specs.Calls.{RepliesToCall}
use Rattle.iiif_answers.specs.Responses.{Response}
use Rattle.iiif_answers.specs.declared.answer.Cut.{Cut}
use Rattle.iiif_answers.specs.declared.answer.Sent.{Sent}
use Rattle.iiif_answers.specs.declared.part.Part.{Part}
use Rattle.iiif_answers.specs.Settings.{Settings, IsLegal}
use Rattle.iiif_answers.specs.Streams.{IsConnection, terms}

-- Where what came of a connection begins with a call, something is written, unless the writer failed.
abbrev pub NoSilence : {S : Type 0} → (S → List ℕ) → (S → Type 0) → Bool → (S → ReadFault → Bool) → Type 0 → Type 0 → Type 0
NoSilence {S} bytes keeps honest gave reader writer =
    (settings : Settings) (items : List (Item S)) (input rest : List ℕ) (h : RequestHead) → BeginsWithCall input h rest
    → IsConnection (terms bytes keeps honest gave settings items reader writer) input [] → writer

-- What may be sent for a call is framed, whatever the sources' reads give.
abbrev pub AllowedIsFramed : {S : Type 0} → (S → List ℕ) → (S → Type 0) → Bool → (S → ReadFault → Bool) → Type 0 → Type 0
AllowedIsFramed {S} bytes keeps honest gave writer =
    (settings : Settings) (items : List (Item S)) (part : Part) (method target text : List ℕ) (result : Result Sent Cut)
    → Allowed settings part gave (RepliesToCall bytes keeps honest settings items method target) writer text result →
    IsFramedText S settings part text result

-- The fields of each answer are plain where the settings are legal.
abbrev pub FieldsArePlain : Type 0 → Type 0
FieldsArePlain S = (settings : Settings) (a : Response) → IsLegal settings → IsFramed S settings a → All IsPlainField a.fields

-- So the head of each answer is the head of a response in the standard's grammar, of its status, with its fields in their order
-- and then the length, and nothing stands behind it (RFC 9112, sections 2 to 5).
abbrev pub HeadsReadBack : Type 0 → Type 0
HeadsReadBack S =
    (settings : Settings) (a : Response) (close : Bool) → IsLegal settings → IsFramed S settings a → length a.body < 2 ^ 64
    → (h : ResponseHead) × ReadsResponse (head_text a.status a.fields (length a.body) close) h [] × (h.minor ≡ 1) ×
    (status_code h ≡ a.status)
    × (map name_and_value h.fields ≡ a.fields ++ (codes "Content-Length", decimal (length a.body)) ∷ close_fields close)
