-- What a server is told before it starts.
use Rattle.std.specs.Prelude.{◌≡◌, ℕ, ◌≤◌, Bool, ◌&&◌, not, true, List, nat_lt, nat_le, if◌then◌else◌, Option, None, Some, Result, Ok, Err}
use Rattle.std.specs.Prelude.{⊤}
use Rattle.iiif_answers.specs.BaseUrl.{is_base_url}
use Rattle.iiif_answers.specs.declared.config.ConfigFault.{ConfigFault}
use Rattle.iiif_canonical.specs.declared.resolved.Limits.{Limits}
use Rattle.iiif_answers.specs.declared.config.ConfigFault.TheVariants.{Base, Edge, Max, Band, Workers, NoMemory}

-- The base URL; the edge of a tile, in pixels; the greatest sides of a result, in pixels, and whether a side of it may be above
-- its region's; the rows of a band; the workers of a request.
pub record Settings : Type 0 where
  pub base : List ℕ
  pub edge : ℕ
  pub max_w : ℕ
  pub max_h : ℕ
  pub upscale : Bool
  pub band : ℕ
  pub workers : ℕ

abbrev pub settings_of : List ℕ → ℕ → Limits → ℕ → ℕ → Settings
settings_of base edge limits band workers = record {
  base = base;
  edge = edge;
  max_w = limits.max_w;
  max_h = limits.max_h;
  upscale = limits.upscale;
  band = band;
  workers = workers;
}

-- how large a result may be
abbrev pub limits_of : Settings → Limits
limits_of s = record { max_w = s.max_w; max_h = s.max_h; upscale = s.upscale }

-- the fault's number outside
abbrev pub number_of : ConfigFault → ℕ
number_of Base = 1
number_of Edge = 2
number_of Max = 3
number_of Band = 4
number_of Workers = 5
number_of NoMemory = 6

-- from 1 to a greatest number
abbrev pub is_within : ℕ → ℕ → Bool
is_within most n = nat_lt 0 n && nat_le n most

-- The first setting that isn't legal: an edge is at most 1,024 and at most each of the greatest sides.
unfoldable pub refusal_of : Settings → Option ConfigFault
refusal_of s =
    if not (is_base_url s.base) then Some Base else (
    if not (is_within 1024 s.edge && nat_le s.edge s.max_w && nat_le s.edge s.max_h) then Some Edge else (
    if not (is_within 16384 s.max_w && is_within 16384 s.max_h) then Some Max else (
    if not (is_within 16384 s.band) then Some Band else (
    if not (is_within 16 s.workers) then Some Workers else None))))

-- the bounds that hold of settings which aren't refused
pub record IsLegal (s : Settings) : Type 0 where
  pub base : is_base_url s.base ≡ true
  pub edge : (1 ≤ s.edge) × (s.edge ≤ 1024)
  pub sides : (1 ≤ s.max_w) × (s.max_w ≤ 16384) × (1 ≤ s.max_h) × (s.max_h ≤ 16384)
  pub band : (1 ≤ s.band) × (s.band ≤ 16384)
  pub workers : (1 ≤ s.workers) × (s.workers ≤ 16)

-- the greatest sides are within their bounds
pub record AreLegal (l : Limits) : Type 0 where
  pub width : (1 ≤ l.max_w) × (l.max_w ≤ 16384)
  pub height : (1 ≤ l.max_h) × (l.max_h ≤ 16384)

-- A configuration has the settings that it was made of, and comes where none of them is refused; a fault is the first refusal,
-- or lack of memory.
abbrev pub Configures : Settings → Result Settings ConfigFault → Type 0
Configures s (Ok c) = (c ≡ s) × (refusal_of s ≡ None)
Configures s (Err NoMemory) = ⊤
Configures s (Err fault) = refusal_of s ≡ Some fault
