-- What a server sends that has one image in memory and asks another server for parts of it. Nothing is assumed of either.
use Rattle.std.specs.Prelude.{◌≡◌, ℕ, true, false, List, Option, Result, Ok}
use Rattle.std.specs.Io.KnownBytes.{Appends}
use Rattle.iiif_source.specs.declared.ReadFault.{ReadFault}
use Rattle.iiif_tiff.specs.Tiff.{Shows}
use Rattle.iiif_canonical.specs.Images as images
use Rattle.iiif_http_front.specs.Methods.{method_text}
use Rattle.iiif_http_front.specs.declared.call.Call.{Call}
use Rattle.iiif_answers.specs.Allowed.{Allowed}
use Rattle.iiif_answers.specs.Answers.{Given, Reply, given}
use Rattle.iiif_answers.specs.Calls.{RepliesToCall, part_of}
use Rattle.iiif_answers.specs.Settings.{Settings, limits_of}
use Rattle.iiif_answers.specs.declared.answer.Cut as cut
use Rattle.iiif_answers.specs.declared.answer.Sent.{Sent}
use Rattle.iiif_witnesses.specs.Code.{Images, images_of}

-- What a call reaches where images are held in memory and other nodes are honest.
abbrev pub RepliesOfMemory : Settings → Images → List ℕ → List ℕ → Reply (List ℕ) → Type 0
RepliesOfMemory settings images method target =
    RepliesToCall (λ (source : List ℕ). source) (λ (source : List ℕ). Unit {0}) true settings images method target

-- One text is sent for a call, and that is allowed with this result: of an image that is reached nothing else than the image, or what is
-- said where memory runs out.
abbrev pub SendsOfMemory : {W : Type 0} → Settings → Images → Call → (W → Option (List ℕ)) → (W → W → Type 0) → W → W →
    Result Sent cut.Cut → Type 0
SendsOfMemory {W} settings images call contents fails old new result =
    (text : List ℕ) × Appends (contents old) (contents new) text
    × Allowed settings (part_of (method_text call.method) call.close) (λ (source : List ℕ) (fault : ReadFault). false)
    (RepliesOfMemory settings images (method_text call.method) call.target.items) ((before : W) × fails before new) text result

-- The image is the one that its request asks for, sample for sample, of the picture that the file shows.
pub record IsImageOf (file : List ℕ) (settings : Settings) (g : Given (List ℕ)) : Type 0 where
  pub picture : Shows file g.picture
  pub image : images.image g.picture g.request (limits_of settings) ≡ Ok g.image

-- So is each image that the call reaches, where the file is the only image, under this name.
abbrev pub GivesShown : Settings → List ℕ → List ℕ → Call → Type 0
GivesShown settings name file call = (g : Given (List ℕ)) →
    RepliesOfMemory settings (images_of name file) (method_text call.method) call.target.items (given g) → IsImageOf file settings g
