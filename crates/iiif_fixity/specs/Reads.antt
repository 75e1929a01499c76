-- A file that is read from its front, and the digest of what was read.
--
--   IsFront           what was read of the first bytes of a file
--   IsFed             a hasher was fed with that
--   IsDigestOfReads   the digest of what was read of a whole file
use Rattle.std.specs.Prelude.{◌≡◌, ℕ, List, length, take}
use Rattle.sha2.specs.Hashers.{Holds256}
use Rattle.sha2.specs.Sha256.{sha256}
use Rattle.sha2.specs.declared.Sha256.{Sha256}

-- So many bytes were read of the front of a file, and are the file's where the device keeps it.
pub record IsFront (keeps : Type 0) (bytes : List ℕ) (count : ℕ) (found : List ℕ) : Type 0 where
  pub many : length found ≡ count
  pub right : keeps → found ≡ take count bytes

-- A hasher was fed with so many bytes that were read of the front of a file.
pub record IsFed (keeps : Type 0) (bytes : List ℕ) (count : ℕ) (hasher : Sha256) : Type 0 where
  pub found : List ℕ
  pub front : IsFront keeps bytes count found
  pub holds : Holds256 hasher found

-- The digest is that of what was read, as many bytes as the file has, and they are the file's where the device keeps it.
pub record IsDigestOfReads (keeps : Type 0) (bytes digest : List ℕ) : Type 0 where
  pub found : List ℕ
  pub many : length found ≡ length bytes
  pub right : keeps → found ≡ bytes
  pub same : digest ≡ sha256 found
