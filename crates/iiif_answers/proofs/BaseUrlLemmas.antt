-- Texts that aren't empty.
use Rattle.std.proofs.Common.{◌≡◌, ℕ, ◌<◌, Bool, List, length, ◌&&◌, nat_lt}
use Rattle.std.proofs.lemmas.Bool.{lt-ltb}
use Rattle.std.specs.List.{list_all}

-- a text that isn't empty, all of whose bytes pass
pub some_pass : (p : ℕ → Bool) (text : List ℕ) (b : Bool) → 0 < length text → b ≡ list_all p text
    → b ≡ nat_lt 0 (length text) && list_all p text
some_pass p text b some pass = rw (lt-ltb _ _ some) pass
