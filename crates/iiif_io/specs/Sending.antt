-- Texts that are sent in pieces.
--   IsStrictPrefix part text    part is the beginning of text, and not all of it
--   WasCut .. text sent         so many bytes of text were written, and then the writer failed
--   Sends w text                the call w wrote the text, all of it
--   IsCutOff w text sent        the call w wrote so many bytes of the text, and then the writer failed
--   IsFull room old new         a write failed because its buffer was full
--   TakesWhatFits room          a text that fits into a buffer isn't cut off
use Rattle.std.specs.Prelude.{◌≡◌, ℕ, ◌+◌, ◌<◌, ◌≤◌, List, length, take, Option, Some}
use Rattle.std.specs.Io.KnownBytes.{Appends}
use Rattle.iiif_io.specs.Devices.{Writes}

-- the beginning of a text, and not all of it
abbrev pub IsStrictPrefix : List ℕ → List ℕ → Type 0
IsStrictPrefix part text = (n : ℕ) × (n < length text) × (part ≡ take n text)

-- A strict prefix of the text, of that length, was written, and the writer failed at the next byte.
pub record WasCut {W : Type 0} (contents : W → Option (List ℕ)) (fails : W → W → Type 0) (old new : W) (text : List ℕ) (sent : ℕ) : Type 0
  where
    pub strict : sent < length text
    pub written : Appends (contents old) (contents new) (take sent text)
    -- the writer as the failing write began, with that prefix written
    pub before : W
    pub reached : Appends (contents old) (contents before) (take sent text)
    pub failed : fails before new

-- the text is written, all of it
abbrev pub Sends : {W : Type 0} → Writes W → List ℕ → Type 0
Sends w text = Appends (w.contents w.old) (w.contents w.new) text

-- the writer failed behind so many bytes of the text
abbrev pub IsCutOff : {W : Type 0} → Writes W → List ℕ → ℕ → Type 0
IsCutOff w text sent = WasCut w.contents w.fails w.old w.new text sent

-- a write into a buffer of that size failed, since it was full
abbrev pub IsFull : ℕ → List ℕ → List ℕ → Type 0
IsFull room old new = (length old ≡ room) × (new ≡ old)

-- a text that fits into the rest of a buffer is never cut off
abbrev pub TakesWhatFits : ℕ → Type 0
TakesWhatFits room =
    (old new text : List ℕ) (sent : ℕ) → length old + length text ≤ room → ¬ WasCut (λ bytes. Some bytes) (IsFull room) old new text sent
