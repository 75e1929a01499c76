-- Caches that their entries can't fill.
--
--   tile_of edge                    the bytes of a whole gray tile of 8 bits
--   is_unfilled bytes entries edge  more bytes are allowed than so many of these tiles have, and more than by default
--   warning_of_room                 the line that warns of it
use Rattle.std.specs.Prelude.{ℕ, ◌*◌, ◌-◌, ◌^◌, Bool, ◌&&◌, List, [], codes, min, nat_lt, if◌then◌else◌}

-- a sample is a byte; such a tile is the smallest whole one
abbrev pub tile_of : ℕ → ℕ
tile_of edge = min (edge * edge) (2 ^ 64 - 1)

-- 67,108,864 bytes are the default: who left it as it is isn't warned
abbrev pub is_unfilled : ℕ → ℕ → ℕ → Bool
is_unfilled bytes entries edge = nat_lt 67108864 bytes && nat_lt (min (entries * tile_of edge) (2 ^ 64 - 1)) bytes

-- the line, where there is something to warn of
abbrev pub warning_of_room : ℕ → ℕ → ℕ → List ℕ
warning_of_room bytes entries edge =
    if is_unfilled bytes entries edge
    then codes "warning: --cache-bytes is more than --cache-entries gray tiles of --edge have: of such images the rest isn't used\n"
    else []
