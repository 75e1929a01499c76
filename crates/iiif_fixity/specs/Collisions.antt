-- Collisions of SHA-256 (FIPS 180-4). By counting there are some, so none is promised away: where a law speaks of one, its two texts are at
-- hand.
use Rattle.std.specs.Prelude.{◌≡◌, ◌≢◌, ℕ, List}
use Rattle.sha2.specs.Sha256.{sha256}

-- Two texts that aren't the same have one digest.
abbrev pub Collide : List ℕ → List ℕ → Type 0
Collide one other = (one ≢ other) × (sha256 one ≡ sha256 other)
