-- How long replies are, by the key that is asked.
use Rattle.std.specs.Prelude.{ℕ, ◌+◌, ◌*◌, ◌≤◌, List, length}
use Rattle.iiif_pixel.specs.declared.geometry.Rect.{Rect}
use Rattle.iiif_peer_wire.specs.Messages.{key_limit, reply_text}
use Rattle.iiif_peer_wire.specs.declared.version.Version.{Version}

-- how many bytes of a reply are none of its value, at most: the magic, the length of a key and the longest key, the status, the length of
-- the value, and the digest
abbrev pub around : ℕ
around = 4 + 4 + key_limit + 1 + 4 + 32

-- how many bytes a tile takes, whose samples have so many bytes: two numbers of its sides, a byte for its channels and its depth, its
-- samples
abbrev pub tile_val_len : Rect → ℕ → ℕ → ℕ
tile_val_len at channels bytes = 9 + at.w * at.h * channels * bytes

-- each reply with that value is at most so long, in any version and for any key
abbrev pub HasRoom : ℕ → List ℕ → Type 0
HasRoom most value = (version : Version) (key : List ℕ) → length key ≤ key_limit → length (reply_text version key 0 value) ≤ most
