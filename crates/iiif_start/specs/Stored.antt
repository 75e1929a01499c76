-- The bytes of a source, and the faults that it may give.
use Rattle.std.specs.Prelude.{◌≡◌, ℕ, ◌<◌, ◌≤◌, Bool, true, false, ◌||◌, ◌==◌, List, length, bytes_eq, codes, IfSome, Option, None, Some, is_some}
use denote.Ref.{Bor}
use Rattle.sha2.specs.Sha256.{sha256}
use Rattle.iiif_fixity.specs.Bags.{digest_of}
use Rattle.iiif_fixity.specs.declared.bag.Bag.{Bag}
use Rattle.iiif_tile_group.specs.Collection.{Item}
use Rattle.iiif_source.specs.Cause.{failed, ended}
use Rattle.iiif_source.specs.Files.{fitted}
use Rattle.iiif_source.specs.declared.ReadFault.{ReadFault}
use Rattle.iiif_start.specs.declared.holding.Holding.{Holding}
use Rattle.iiif_start.specs.declared.stored.Stored.{Stored}
use Rattle.iiif_start.specs.declared.stored.Stored.TheVariants.{Memory, File}

-- whether they are held in memory
abbrev pub is_held : {R : Type 0} {d : _} → Stored R d → Bool
is_held (Memory source) = true
is_held (File source) = false

-- those in memory; of a file what its path holds, as many bytes as the file had when it was found
abbrev pub bytes_of : {R : Type 0} {d : _} → (List ℕ → List ℕ) → Stored R d → List ℕ
bytes_of holds (Memory source) = source
bytes_of holds (File source) = fitted source.len (holds source.path)

-- memory doesn't change; a file stays as it is where its path keeps what it holds
abbrev pub keeps_of : {R : Type 0} {d : _} → (List ℕ → Type 0) → Stored R d → Type 0
keeps_of keeps (Memory source) = Unit {0}
keeps_of keeps (File source) = keeps source.path

-- memory never fails
abbrev pub stored_gave : {R : Type 0} {d : _} → Stored R d → ReadFault → Bool
stored_gave (Memory source) f = false
stored_gave (File source) f = f.cause == failed || f.cause == ended

-- the path that names the built-in source
abbrev pub is_sample : List ℕ → Bool
is_sample path = bytes_eq path (codes ":sample")

-- These bytes have the digest that a bag lists of a path, where there is a bag.
abbrev pub AreListed : Option Bag → List ℕ → List ℕ → Type 0
AreListed bag path bytes = IfSome bag (λ b. digest_of b path ≡ Some (sha256 bytes))

-- whether a bag, where there is one, lists a digest of a path
abbrev pub is_named : Option Bag → List ℕ → Bool
is_named None path = true
is_named (Some bag) path = is_some (digest_of bag path)

-- The source of a path, where files are to be held so, if any. The files of paths hold these bytes, where they keep them. Bytes that are
-- held have the digest that is listed, whatever the files hold; of others a digest is listed.
pub record IsSourceOf {R : Type 0} {d : _} (holds : List ℕ → List ℕ) (keeps : List ℕ → Type 0) (holding : Holding) (path : List ℕ)
    (source : Stored R d) : Type 0 where
  pub same : is_sample path ≡ false → keeps path → bytes_of holds source ≡ holds path
  pub kept : is_sample path ≡ false → keeps path → keeps_of keeps source
  pub held : 0 < holding.bytes → length (bytes_of holds source) ≤ holding.bytes → is_held source ≡ true
  pub small : is_sample path ≡ false → is_held source ≡ true → (0 < holding.bytes) × (length (bytes_of holds source) ≤ holding.bytes)
  pub listed : is_sample path ≡ false → is_held source ≡ true → AreListed holding.bag path (bytes_of holds source)
  pub named : is_sample path ≡ false → is_named holding.bag path ≡ true

-- the item of an image's name and path
pub record IsItemOf {R : Type 0} {d : _} (holds : List ℕ → List ℕ) (keeps : List ℕ → Type 0) (holding : Holding)
    (image : Bor (List ℕ) × Bor (List ℕ)) (item : Item (Stored R d)) : Type 0 where
  pub name : item.name ≡ image.0.now
  pub source : IsSourceOf holds keeps holding image.1.now item.source
