-- Causes of a failed read.
--
--   failed, ended, fuse, differs   the causes, by number
--   IsCauseOf                      the cause that an error of the system gives
--   is_of_file                     a fault that a file may have: failed or ended
--   gave_of                        a device's faults, by such a cause alone
use Rattle.std.specs.Prelude.{◌≡◌, ◌≢◌, ◌==◌, ◌&&◌, ◌||◌, ℕ, Bool}
use Rattle.std.specs.declared.io.ErrorKind.{ErrorKind}
use Rattle.std.specs.declared.io.ErrorKind.TheVariants.{UnexpectedEof}
use Rattle.iiif_source.specs.declared.ReadFault.{ReadFault}

-- the device refused the read
abbrev pub failed : ℕ
failed = 1

-- the source ended before the read did
abbrev pub ended : ℕ
ended = 2

-- a FuseSource failed as it was told
abbrev pub fuse : ℕ
fuse = 3

-- the bytes that were read don't have the digest that is listed
abbrev pub differs : ℕ
differs = 4

-- The cause of a failed read, by the kind of the system's error: the end of the file, or any other.
pub record IsCauseOf (kind : ErrorKind) (cause : ℕ) : Type 0 where
  pub at_end : kind ≡ UnexpectedEof → cause ≡ ended
  pub otherwise : kind ≢ UnexpectedEof → cause ≡ failed

-- a fault that a file may have
abbrev pub is_of_file : ReadFault → Bool
is_of_file f = f.cause == failed || f.cause == ended

-- a fault that the device gave and that a file may have
abbrev pub gave_of : (ReadFault → Bool) → ReadFault → Bool
gave_of had f = had f && is_of_file f
