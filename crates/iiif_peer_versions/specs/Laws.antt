-- What holds of every key that is spelled with a version.
use Rattle.std.specs.Prelude.{◌≡◌, ℕ, ◌<◌, ◌^◌, List, None, Option, Some}
use Rattle.iiif_peer_wire.specs.Exchanges.{Answering}
use Rattle.iiif_peer_wire.specs.declared.version.Version.{Version}
use Rattle.iiif_peer_versions.specs.Digits.{version_digits}
use Rattle.iiif_peer_versions.specs.Keys.{IsMarked, IsSpelled, IsWireOf, RepliesIn}
use Rattle.iiif_peer_versions.specs.declared.file_version.FileVersion.{FileVersion}

-- Two nodes to which the same bytes are a key, each by the versions that it knows, have the same key, and the same version of its image.
abbrev pub KeysStayApart : Type 0
KeysStayApart = (here there : List ℕ → Option (List ℕ)) (one other wire : List ℕ) → IsWireOf here one wire → IsWireOf there other wire →
    (one ≡ other) × ((name : List ℕ) × (digits : List ℕ) × IsMarked name digits one wire × (here name ≡ Some digits)
    × (there name ≡ Some digits))

-- equal digits tell of equal versions
abbrev pub VersionsStayApart : Type 0
VersionsStayApart = (one other : FileVersion) → one.len < 2 ^ 64 → other.len < 2 ^ 64 → one.changed < 2 ^ 64 → other.changed < 2 ^ 64 →
    version_digits one ≡ version_digits other → one ≡ other

-- A key that is spelled where no versions are known is the key, byte for byte.
abbrev pub PlainIsAsItIs : Type 0
PlainIsAsItIs = (key wire : List ℕ) → IsSpelled None key wire → wire ≡ key

-- What may be replied to it is what may be replied to the key.
abbrev pub PlainIsRepliedTo : Answering → Type 0
PlainIsRepliedTo answers = (version : Version) (group status : ℕ) (key value : List ℕ) →
    RepliesIn None answers version group key status value → answers version group key status value
