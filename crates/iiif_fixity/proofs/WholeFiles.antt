-- A file that is read at once.
use Rattle.std.proofs.Common.{◌≡◌, ℕ, List, length, take, drop, ap, ◌∙◌, arith}
use Rattle.std.specs.Prelude.{◌≢◌}
use Rattle.std.proofs.lemmas.List.{take_all}
use Rattle.sha2.specs.Sha256.{sha256}

-- all bytes, read at once
pub all_read : (bytes buffer before : List ℕ) → buffer ≡ take (length before) (drop 0 bytes) → length before ≡ length bytes → buffer ≡ bytes
all_read bytes buffer before read all = read ∙ (ap (λ n. take n bytes) all ∙ take_all (length bytes) bytes (omega arith))

-- where the bytes that were read have another digest, the file has
pub all_differs : (bytes buffer before digest : List ℕ) → buffer ≡ take (length before) (drop 0 bytes) → length before ≡ length bytes →
    sha256 buffer ≢ digest → sha256 bytes ≢ digest
all_differs bytes buffer before digest read all other same = other (ap sha256 (all_read bytes buffer before read all) ∙ same)
