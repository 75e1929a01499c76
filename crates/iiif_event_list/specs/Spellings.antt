-- Which event the words of a line are.
use denote.Ref.{Bor}
use Rattle.std.specs.Prelude.{◌≡◌, ◌+◌, ◌<◌, ◌^◌, ℕ, List, [], ◌∷◌, ◌++◌, true, codes, Some, drop, length, slice_get}
use Rattle.std.specs.Prelude.{if◌then◌else◌}
use Rattle.std.specs.List.{AllByRecursion}
use Rattle.std.specs.Prelude.{IsUtf8}
use Rattle.std.specs.Str.Parse.{IsNumeral, digits_value, without_leading_plus}
use Rattle.percent_encoding.specs.Percent.{percent_decode}
use Rattle.iiif_pixel.specs.declared.geometry.Dim.{Dim}
use Rattle.iiif_pixel.specs.declared.geometry.Rect.{Rect}
use Rattle.iiif_request.specs.Spells.{SpellsRequest}
use Rattle.iiif_keys.specs.Names.{is_name}
use Rattle.iiif_keys.specs.declared.keys.TileKey.{TileKey}
use Rattle.iiif_keys.specs.declared.keys.SumKey.{SumKey}
use Rattle.iiif_machine.specs.declared.keys.Key.{Key}
use Rattle.iiif_machine.specs.declared.keys.Key.TheVariants.{Tile, Sum}
use Rattle.iiif_machine.specs.Types.{Request}
use Rattle.iiif_machine.specs.declared.events.Event.{Event}
use Rattle.iiif_machine.specs.declared.events.Event.TheVariants.{Want, Enter, Again, AskPeer, Serve, Reply, Take, Lose, GoLocal, Load}
use Rattle.iiif_machine.specs.declared.events.Event.TheVariants.{SourceFault, Land, Evict, Stop}

-- the words of a line, as references to them
abbrev pub LineWords : Type 0
LineWords = List (Bor (List ℕ))

-- the word at a place is this one
abbrev pub WordAt : LineWords → ℕ → List ℕ → Type 0
WordAt ws i w = (x : Bor (List ℕ)) × (slice_get ws i ≡ Some x) × (x.now ≡ w)

-- a word is a number in decimal digits, perhaps behind a plus
abbrev pub IsNumber : List ℕ → ℕ → Type 0
IsNumber w n = IsNumeral 10 (without_leading_plus w) × (n ≡ digits_value 10 (without_leading_plus w))

-- the word at a place is a number
abbrev pub NumberAt : LineWords → ℕ → ℕ → Type 0
NumberAt ws i n = (w : List ℕ) × WordAt ws i w × IsNumeral 10 (without_leading_plus w) × (n ≡ digits_value 10 (without_leading_plus w))

-- a word is a name, percent-encoded, so that a name may have white space
abbrev pub Names : List ℕ → List ℕ → Type 0
Names w name = IsUtf8 (percent_decode w) × (percent_decode w ≡ name)

-- the word at a place is a name
abbrev pub NameAt : LineWords → ℕ → List ℕ → Type 0
NameAt ws i name = (w : List ℕ) × WordAt ws i w × IsUtf8 (percent_decode w) × (percent_decode w ≡ name)

-- the words are a name and a number
pub record IsNumbered (name : List ℕ) (ws : LineWords) (n : ℕ) : Type 0 where
  pub count : length ws ≡ 2
  pub word : WordAt ws 0 name
  pub number : NumberAt ws 1 n

-- the four words from a place on spell the request: region, size, rotation and quality
pub record IsRequestAt (ws : LineWords) (i : ℕ) (q : Request) : Type 0 where
  pub region : List ℕ
  pub size : List ℕ
  pub rotation : List ℕ
  pub quality : List ℕ
  pub regions : WordAt ws i region
  pub sizes : WordAt ws (i + 1) size
  pub rotations : WordAt ws (i + 2) rotation
  pub qualities : WordAt ws (i + 3) quality
  pub spells : SpellsRequest (record { region = region; size = size; rotation = rotation; quality = quality; format = codes "tif" }) q

-- the first words are `tile`, a name, an edge, a column and a row, and these are the key's
pub record IsTile (ws : LineWords) (k : TileKey) : Type 0 where
  pub word : WordAt ws 0 (codes "tile")
  pub name : NameAt ws 1 k.name
  pub edge : NumberAt ws 2 k.edge
  pub column : NumberAt ws 3 k.tx
  pub row : NumberAt ws 4 k.ty

-- the four words from a place on are the rectangle
pub record IsRectAt (ws : LineWords) (i : ℕ) (r : Rect) : Type 0 where
  pub column : NumberAt ws i r.x
  pub row : NumberAt ws (i + 1) r.y
  pub width : NumberAt ws (i + 2) r.w
  pub height : NumberAt ws (i + 3) r.h

-- the two words from a place on are the sides
pub record IsDimAt (ws : LineWords) (i : ℕ) (d : Dim) : Type 0 where
  pub width : NumberAt ws i d.w
  pub height : NumberAt ws (i + 1) d.h

-- the first words are `sum`, a name, an edge, a rectangle, the sides of its result, a level, a column and a row, and these are the key's
pub record IsSum (ws : LineWords) (k : SumKey) : Type 0 where
  pub word : WordAt ws 0 (codes "sum")
  pub name : NameAt ws 1 k.name
  pub edge : NumberAt ws 2 k.edge
  pub rect : IsRectAt ws 3 k.rect
  pub size : IsDimAt ws 7 k.size
  pub level : NumberAt ws 9 k.level
  pub column : NumberAt ws 10 k.bx
  pub row : NumberAt ws 11 k.by

-- the first words are the key
abbrev pub IsKey : LineWords → Key → Type 0
IsKey ws (Tile k) = IsTile ws k
IsKey ws (Sum k) = IsSum ws k

-- how many words a key has
abbrev pub count_of : Key → ℕ
count_of (Tile k) = 5
count_of (Sum k) = 12

-- the words are the keys, one behind the other
abbrev pub AreKeys : LineWords → List Key → Type 0
AreKeys ws [] = ws ≡ []
AreKeys ws (k ∷ ks) = IsKey ws k × AreKeys (drop (count_of k) ws) ks

-- keys get one more, which the first words are, as many as this
pub record AddsKey (ws : LineWords) (before after : List Key) (count : ℕ) : Type 0 where
  pub key : Key
  pub spelled : IsKey ws key
  pub counted : count ≡ count_of key
  pub added : after ≡ before ++ key ∷ []

-- the words are the event
abbrev pub IsEventOf : LineWords → Event → Type 0
IsEventOf ws (Want i name q) = (length ws ≡ 7) × WordAt ws 0 (codes "want") × NumberAt ws 1 i × NameAt ws 2 name × IsRequestAt ws 3 q
IsEventOf ws (Enter c) = IsNumbered (codes "enter") ws c
IsEventOf ws (Again f) = IsNumbered (codes "again") ws f
IsEventOf ws (AskPeer f) = IsNumbered (codes "ask_peer") ws f
IsEventOf ws (Serve a) = IsNumbered (codes "serve") ws a
IsEventOf ws (Reply c) = IsNumbered (codes "reply") ws c
IsEventOf ws (Take f r) = (length ws ≡ 3) × WordAt ws 0 (codes "take") × NumberAt ws 1 f × NumberAt ws 2 r
IsEventOf ws (Lose f) = IsNumbered (codes "lose") ws f
IsEventOf ws (GoLocal f) = IsNumbered (codes "go_local") ws f
IsEventOf ws (Load f) = IsNumbered (codes "load") ws f
IsEventOf ws (SourceFault f e) =
    (length ws ≡ 4) × WordAt ws 0 (codes "source_fault") × NumberAt ws 1 f × NumberAt ws 2 e.place × NumberAt ws 3 e.cause
IsEventOf ws (Land f kept) =
    (length ws ≡ 3) × WordAt ws 0 (codes "land") × NumberAt ws 1 f × WordAt ws 2 (if kept then codes "kept" else codes "dropped")
IsEventOf ws (Evict i keys) = WordAt ws 0 (codes "evict") × NumberAt ws 1 i × AreKeys (drop 2 ws) keys.items
IsEventOf ws (Stop i) = IsNumbered (codes "stop") ws i

-- Numbers that the code has have 8, 32 or 64 bits, and names 1 to 1,024 bytes: so each part of an event fits its type.
pub record FitsRect (r : Rect) : Type 0 where
  pub column : r.x < 2 ^ 32
  pub row : r.y < 2 ^ 32
  pub width : r.w < 2 ^ 32
  pub height : r.h < 2 ^ 32

pub record FitsDim (d : Dim) : Type 0 where
  pub width : d.w < 2 ^ 32
  pub height : d.h < 2 ^ 32

pub record FitsTile (k : TileKey) : Type 0 where
  pub name : is_name k.name ≡ true
  pub edge : k.edge < 2 ^ 32
  pub column : k.tx < 2 ^ 32
  pub row : k.ty < 2 ^ 32

pub record FitsSum (k : SumKey) : Type 0 where
  pub name : is_name k.name ≡ true
  pub edge : k.edge < 2 ^ 32
  pub rect : FitsRect k.rect
  pub size : FitsDim k.size
  pub level : k.level < 2 ^ 8
  pub column : k.bx < 2 ^ 32
  pub row : k.by < 2 ^ 32

abbrev pub FitsKey : Key → Type 0
FitsKey (Tile k) = FitsTile k
FitsKey (Sum k) = FitsSum k

abbrev pub Fits : Event → Type 0
Fits (Want i name q) = (i < 2 ^ 64) × (is_name name ≡ true)
Fits (Enter c) = c < 2 ^ 64
Fits (Again f) = f < 2 ^ 64
Fits (AskPeer f) = f < 2 ^ 64
Fits (Serve a) = a < 2 ^ 64
Fits (Reply c) = c < 2 ^ 64
Fits (Take f r) = (f < 2 ^ 64) × (r < 2 ^ 64)
Fits (Lose f) = f < 2 ^ 64
Fits (GoLocal f) = f < 2 ^ 64
Fits (Load f) = f < 2 ^ 64
Fits (SourceFault f e) = (f < 2 ^ 64) × (e.place < 2 ^ 64) × (e.cause < 2 ^ 8)
Fits (Land f kept) = f < 2 ^ 64
Fits (Evict i keys) = (i < 2 ^ 64) × AllByRecursion FitsKey keys.items
Fits (Stop i) = i < 2 ^ 64

-- the words are no event: none whose parts fit
abbrev pub AreNoEvent : LineWords → Type 0
AreNoEvent ws = (e : Event) → Fits e → ¬ (IsEventOf ws e)

-- the first word is that of a setting
pub data IsSetting (ws : LineWords) : Type 0 where
  edge : (is : WordAt ws 0 (codes "edge")) → IsSetting ws
  room : (is : WordAt ws 0 (codes "room")) → IsSetting ws
  faults : (is : WordAt ws 0 (codes "faults")) → IsSetting ws
  limits : (is : WordAt ws 0 (codes "limits")) → IsSetting ws
  picture : (is : WordAt ws 0 (codes "picture")) → IsSetting ws
  node : (is : WordAt ws 0 (codes "node")) → IsSetting ws
