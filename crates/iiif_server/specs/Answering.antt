-- What a node sends: for a call, for a target, and over a connection.
use Rattle.std.specs.Prelude.{◌≡◌, ℕ, Bool, false, List, Option, Result, IfSome, IsTrue}
use Rattle.iiif_io.specs.Devices.{Writes}
use Rattle.iiif_io.specs.Sending.{Sends}
use Rattle.iiif_http_front.specs.Methods.{method_text}
use Rattle.iiif_http_front.specs.declared.call.Call.{Call}
use Rattle.iiif_source.specs.declared.ReadFault.{ReadFault}
use Rattle.iiif_source.specs.declared.Source as source
use Rattle.iiif_answers.specs.Allowed.{Allowed, IsFramedText}
use Rattle.iiif_answers.specs.Answers.{Given, Replies, given}
use Rattle.iiif_answers.specs.Calls.{RepliesToCall, part_of}
use Rattle.iiif_answers.specs.Devices.{IsWholeOrWanting}
use Rattle.iiif_answers.specs.Responses.{is_loaded}
use Rattle.iiif_answers.specs.Streams.{IsCame, IsConnection, Terms, terms}
use Rattle.iiif_answers.specs.declared.answer.Sent.{Sent}
use Rattle.iiif_answers.specs.declared.answer.Cut as cut
use Rattle.iiif_answers.specs.declared.part.Part.{Part}
use Rattle.iiif_server.specs.Nodes.{Service}

-- One text is sent for a part of an answer, of which this holds with this result whatever the sources' reads give.
abbrev pub FramesPart : {S W : Type 0} → Service S → Part → Writes W → Result Sent cut.Cut → Type 0
FramesPart {S} node part w result = (text : List ℕ) × Sends w text × IsFramedText S node.settings part text result

-- the same for a call
abbrev pub FramesCall : {S W : Type 0} → Service S → Call → Writes W → Result Sent cut.Cut → Type 0
FramesCall {S} node call w result =
    (text : List ℕ) × Sends w text × IsFramedText S node.settings (part_of (method_text call.method) call.close) text result

-- the writer failed, and that left it as it is after the call
abbrev pub WriterFailed : {W : Type 0} → Writes W → Type 0
WriterFailed {W} w = (before : W) × w.fails before w.new

module _ {S R : Type 0} (sources : source.Ghosts S R) (honest : Bool) (node : Service S) where
  -- One text is sent for a call, and that is allowed with this result.
  abbrev pub SendsForCall : {W : Type 0} → Call → Writes W → Result Sent cut.Cut → Type 0
  SendsForCall call w result =
      (text : List ℕ) × Sends w text
      × Allowed node.settings (part_of (method_text call.method) call.close) sources.gave
      (RepliesToCall sources.bytes sources.keeps honest node.settings node.items (method_text call.method) call.target.items)
      (WriterFailed w) text result

  -- Where a call reaches an image, reads of images that it reaches gave no fault, and the writer didn't fail, the text is that of the
  -- whole image; or, for lack of memory, that is answered or the image is cut off. Nothing else takes its place.
  abbrev pub SendsWhole : {W : Type 0} → Call → Writes W → Result Sent cut.Cut → Type 0
  SendsWhole call w result =
      ((g : Given S) (f : ReadFault)
      → RepliesToCall sources.bytes sources.keeps honest node.settings node.items (method_text call.method) call.target.items (given g)
      → ¬ IsTrue (sources.gave g.item.source f))
      → ¬ WriterFailed w
      → (g : Given S)
      → RepliesToCall sources.bytes sources.keeps honest node.settings node.items (method_text call.method) call.target.items (given g)
      → (text : List ℕ) × Sends w text
      × IsWholeOrWanting node.settings (part_of (method_text call.method) call.close)
      (RepliesToCall sources.bytes sources.keeps honest node.settings node.items (method_text call.method) call.target.items) text result

  -- Where no image is loaded for a call, as for HEAD, the passes stay as they are.
  abbrev pub SparesForCall : {P : Type 0} → Call → List P → List P → Type 0
  SparesForCall call before after =
      ((g : Given S) → RepliesToCall sources.bytes sources.keeps honest node.settings node.items (method_text call.method)
      call.target.items (given g)
      → is_loaded (part_of (method_text call.method) call.close) ≡ false) → after ≡ before

  -- One text is sent for a part of the answer to a target, and that is allowed with this result.
  abbrev pub SendsForTarget : {W : Type 0} → Part → List ℕ → Writes W → Result Sent cut.Cut → Type 0
  SendsForTarget part target w result =
      (text : List ℕ) × Sends w text
      × Allowed node.settings part sources.gave (Replies sources.bytes sources.keeps honest node.settings node.items target)
      (WriterFailed w) text result

  -- Where no image is loaded for that part of it, the passes stay as they are.
  abbrev pub SparesForTarget : {P : Type 0} → Part → List ℕ → List P → List P → Type 0
  SparesForTarget part target before after =
      ((g : Given S) → Replies sources.bytes sources.keeps honest node.settings node.items target (given g) → is_loaded part ≡ false)
      → after ≡ before

  -- Where the answer to a target is no image, the passes stay as they are.
  abbrev pub SparesUnlessImage : {P : Type 0} → List ℕ → List P → List P → Type 0
  SparesUnlessImage target before after =
      ((g : Given S) → ¬ Replies sources.bytes sources.keeps honest node.settings node.items target (given g)) → after ≡ before

  module _ {I W : Type 0} (reader_fails : I → I → Type 0) (w : Writes W) where
    -- what a connection rests on
    abbrev pub terms_at : Terms
    terms_at =
        terms sources.bytes sources.keeps honest sources.gave node.settings node.items ((before after : I) × reader_fails before after)
        (WriterFailed w)

    -- The calls of a connection are answered in their order. Where the bytes that the reader has left are known, the output is that for
    -- what came of them: all, or a first part where the reader failed.
    abbrev pub ServesKnown : Option (List ℕ) → Type 0
    ServesKnown left =
        IfSome left (λ input. (output : List ℕ) × Sends w output
        × ((came : List ℕ) × IsCame ((before after : I) × reader_fails before after) input came × IsConnection terms_at came output))

    -- Where they are not, as at a socket, it is that for the bytes that came.
    abbrev pub ServesCame : Type 0
    ServesCame = (came : List ℕ) × (output : List ℕ) × Sends w output × IsConnection terms_at came output
