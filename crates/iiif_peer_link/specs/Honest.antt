-- Honest nodes: what they answer to the asks for a key is the key's meaning.
use Rattle.std.specs.Prelude.{◌≡◌, ℕ, ◌++◌, List, None, Option, Some}
use Rattle.iiif_keys.specs.Bytes.{IsSumVal, IsTileVal, sum_key_bytes, sum_val_bytes, tile_key_bytes, tile_val_bytes}
use Rattle.iiif_keys.specs.Meaning.{sum_meaning, tile_meaning}
use Rattle.iiif_keys.specs.Names.{Pictures}
use Rattle.iiif_keys.specs.Shapes.{HasPicture}
use Rattle.iiif_keys.specs.declared.keys.Shape.{Shape}
use Rattle.iiif_keys.specs.declared.keys.SumKey.{SumKey}
use Rattle.iiif_keys.specs.declared.keys.TileKey.{TileKey}
use Rattle.iiif_peer_versions.specs.Keys.{IsSpelled}
use Rattle.iiif_peer_wire.specs.Messages.{ask_text, reply_text}
use Rattle.iiif_peer_wire.specs.declared.version.Version.{Version}
use Rattle.iiif_peer_link.specs.Versions.{sums, tiles, wire_version}

-- What was written is known, what will be read is known, and a node answers the one by the other.
abbrev pub Carries : (List ℕ → List ℕ → Type 0) → Option (List ℕ) → Option (List ℕ) → Type 0
Carries answers written unread = (asked : List ℕ) × (reply : List ℕ) × (written ≡ Some asked) × (unread ≡ Some reply) × answers asked reply

-- The ask for a key in a group is answered by this value alone: an answer that begins with a reply for the key, of status 0 and with a
-- value, has this one. Other answers, as refusals and bytes that are no reply, are free.
abbrev pub TellsOf : {V : Type 0} → (List ℕ → List ℕ → Type 0) → (V → Type 0) → (V → List ℕ) → Version → ℕ → List ℕ → V → Type 0
TellsOf {V} answers is_value val_bytes version group key meant = (value : V) (rest : List ℕ) → is_value value →
    answers (ask_text version group key) (reply_text version key 0 (val_bytes value) ++ rest) → value ≡ meant

-- Each ask for a tile of an image whose bytes are stable, in the version of the image's depth and with a key that is spelled so, is
-- answered by the tile's meaning alone.
abbrev pub TellsTiles : (List ℕ → List ℕ → Type 0) → (List ℕ → List ℕ → Type 0) → (List ℕ → Type 0) → Pictures → Type 0
TellsTiles spelled answers stable pictures = (key : TileKey) (shape : Shape) (wire : List ℕ) → stable key.name
    → HasPicture pictures key.name shape → spelled (tile_key_bytes key) wire →
    TellsOf answers IsTileVal tile_val_bytes (wire_version shape.depth) tiles wire (tile_meaning pictures key)

-- the same of sums
abbrev pub TellsSums : (List ℕ → List ℕ → Type 0) → (List ℕ → List ℕ → Type 0) → (List ℕ → Type 0) → Pictures → Type 0
TellsSums spelled answers stable pictures = (key : SumKey) (shape : Shape) (wire : List ℕ) → stable key.name
    → HasPicture pictures key.name shape → spelled (sum_key_bytes key) wire →
    TellsOf answers IsSumVal sum_val_bytes (wire_version shape.depth) sums wire (sum_meaning pictures key)

-- nodes are honest: asks whose keys are spelled so, for tiles and sums of stable images, are answered by what these mean in these pictures
abbrev pub IsHonestTo : (List ℕ → List ℕ → Type 0) → (List ℕ → List ℕ → Type 0) → (List ℕ → Type 0) → Pictures → Type 0
IsHonestTo spelled answers stable pictures = TellsTiles spelled answers stable pictures × TellsSums spelled answers stable pictures

-- the same of asks whose keys are spelled as they are
abbrev pub IsHonest : (List ℕ → List ℕ → Type 0) → (List ℕ → Type 0) → Pictures → Type 0
IsHonest answers stable pictures = IsHonestTo (IsSpelled None) answers stable pictures
