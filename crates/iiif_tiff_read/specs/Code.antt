-- Words of private functions: what the reader's own types stand for, and what its steps read. The layout's model cites them too.
--   endian, code, entry_view   a byte order, a type and an entry in the standard's terms
--   Reads, AreTrue             fields that are those of their file
--   Tells, TellsWhere          how fields answer a check of their file
--   IsHeader, IsGrid, IsKnown  a header, a grid, and sides, format and grid that are those of the file
--   AreListed, IsPiece         lists of pieces, and a piece, that are those of the file
--   IsSound                    limits on sides and pieces, and an offset for each piece
--   piece, unit                a strip or tile; a sample of 8 bits or one, or a byte of a sample of 16
--   row_place, stored_at       where the row of a pixel begins in the file; the unit that is stored at a pixel
--   part, span, window         rows that lie together in the file; their bytes in a row; their samples in the rectangle
--   HoldsStored, HoldsShown    a rectangle's samples as they are stored, and as they are shown
use Rattle.std.specs.Prelude.{◌≡◌, ◌≢◌, ℕ, ◌+◌, ◌-◌, ◌*◌, ◌/◌, ◌%◌, ◌<◌, ◌≤◌, ◌^◌, ◌⊎◌, Bool, IsTrue, false, List, length, map}
use Rattle.std.specs.Prelude.{slice_index, Option, None, Result, ◌==◌, if◌then◌else◌}
use Rattle.std.specs.Int.{div_ceil}
use Rattle.std.specs.List.{range_with_len}
use Rattle.iiif_pixel.specs.Geometry.{channels_of, LiesIn}
use Rattle.iiif_pixel.specs.declared.geometry.Dim.{Dim}
use Rattle.iiif_pixel.specs.declared.geometry.Rect.{Rect}
use Rattle.iiif_source.specs.declared.ReadFault.{ReadFault}
use Rattle.iiif_tiff.specs.Tiff as tiff
use Rattle.iiif_tiff.specs.Tiff.{IsReadable, Little, Big, Refusal, Scheme, row_bytes, stored, shown}
use Rattle.iiif_tiff_read.specs.Layouts.{dim_of}
use Rattle.iiif_tiff_read.specs.Faults.{Answers}
use Rattle.iiif_tiff_read.specs.declared.byte_order.ByteOrder.{ByteOrder}
use Rattle.iiif_tiff_read.specs.declared.byte_order.ByteOrder.TheVariants as orders
use Rattle.iiif_tiff_read.specs.declared.field_type.FieldType.{FieldType}
use Rattle.iiif_tiff_read.specs.declared.field_type.FieldType.TheVariants as types
use Rattle.iiif_tiff_read.specs.declared.directory.Header.{Header}
use Rattle.iiif_tiff_read.specs.declared.entry.FieldEntry.{FieldEntry}
use Rattle.iiif_tiff_read.specs.declared.fields.Fields.{Fields}
use Rattle.iiif_tiff_read.specs.declared.grid.Grid.{Grid}
use Rattle.iiif_tiff_read.specs.declared.format.Format.{Format}
use Rattle.iiif_tiff_read.specs.declared.part.Part.{Part}
use Rattle.iiif_tiff_read.specs.declared.pieces.Piece.{Piece}
use Rattle.iiif_tiff_read.specs.declared.rows.Span.{Span}
use Rattle.iiif_tiff_read.specs.declared.rows.Window.{Window}
use Rattle.iiif_tiff_read.specs.declared.fault.OpenFault.{OpenFault}
use Rattle.iiif_tiff_read.specs.declared.fault.OpenFault.TheVariants as opens

-- Section 2: the byte order, in the standard's terms.
abbrev pub endian : ByteOrder → tiff.ByteOrder
endian orders.Little = Little
endian orders.Big = Big

-- Section 2, "IFD Entry": the number of a type, BYTE, SHORT or LONG.
abbrev pub code : FieldType → ℕ
code types.Byte = 1
code types.Short = 3
code types.Long = 4

-- Section 2: the entry, in the standard's terms.
abbrev pub entry_view : FieldEntry → tiff.Entry
entry_view e = record { tag = e.tag; kind = e.kind; count = e.count; inside = e.inside }

abbrev pub entry_views : List FieldEntry → List tiff.Entry
entry_views es = map entry_view es

-- the first n values of the field with a tag
unfoldable pub first_values : List ℕ → ℕ → ℕ → List ℕ
first_values bytes tag n = map (λ i. tiff.value_or bytes tag i 0) (range_with_len 0 n)

-- The header is that of the bytes: the byte order, and the offset of the first directory.
pub record IsHeader (bytes : List ℕ) (h : Header) : Type 0 where
  pub order_is : endian h.order ≡ tiff.order bytes
  pub directory_is : h.directory ≡ tiff.directory bytes

-- The byte order and the entries are those of the bytes.
pub record Reads (bytes : List ℕ) (o : ByteOrder) (es : List FieldEntry) : Type 0 where
  pub order_is : endian o ≡ tiff.order bytes
  pub entries_are : entry_views es ≡ tiff.entries bytes

-- The fields are those of their source's bytes.
abbrev pub AreTrue : {R S : Type 0} → (S → List ℕ) → Fields R S → Type 0
AreTrue bytes f = Reads (bytes f.source.now) f.order f.entries.items

-- Fields answer a check of their file: where it refuses nothing, by a value that is right; else by its refusal. Besides, the device may
-- fail, and memory may run out. Known is what is known of the file besides its fields.
abbrev pub TellsWhere : {R S X : Type 0} → (S → List ℕ) → (S → ReadFault → Bool) → Fields R S → (List ℕ → Type 0) →
    (List ℕ → Option Refusal) → (List ℕ → X → Type 0) → Result X OpenFault → Type 0
TellsWhere bytes gave f Known check Right result =
    Answers (AreTrue bytes f × Known (bytes f.source.now)) (gave f.source.now) (check (bytes f.source.now)) (Right (bytes f.source.now))
    result

-- Fields answer a check, and nothing more has to be known of the file.
abbrev pub Tells : {R S X : Type 0} → (S → List ℕ) → (S → ReadFault → Bool) → Fields R S → (List ℕ → Option Refusal) →
    (List ℕ → X → Type 0) → Result X OpenFault → Type 0
Tells bytes gave f check Right result =
    Answers (AreTrue bytes f) (gave f.source.now) (check (bytes f.source.now)) (Right (bytes f.source.now)) result

-- The sides are those of the bytes.
abbrev pub HasSides : List ℕ → Dim → Type 0
HasSides bytes d = (d.w ≡ tiff.width bytes) × (d.h ≡ tiff.height bytes)

-- The grid is that of the bytes.
pub record IsGrid (bytes : List ℕ) (g : Grid) : Type 0 where
  pub tiled : g.tiled ≡ tiff.is_tiled bytes
  pub width : g.width ≡ tiff.piece_width bytes
  pub height : g.height ≡ tiff.piece_height bytes
  pub across : g.across ≡ tiff.tiles_across bytes
  pub count : g.count ≡ tiff.pieces bytes

-- The sides, the format and the grid are those of the bytes.
pub record IsKnown (bytes : List ℕ) (d : Dim) (f : Format) (g : Grid) : Type 0 where
  pub width_is : d.w ≡ tiff.width bytes
  pub height_is : d.h ≡ tiff.height bytes
  pub channels_is : channels_of f.kind ≡ tiff.channels bytes
  pub bits_is : f.bits ≡ tiff.bits bytes
  pub order_is : endian f.order ≡ tiff.order bytes
  pub grid_is : IsGrid bytes g

-- The sides, the format and the grid are those of the bytes, and so are the lists of offsets and of byte counts of the pieces.
pub record AreListed (bytes : List ℕ) (d : Dim) (f : Format) (g : Grid) (offsets counts : List ℕ) : Type 0 where
  pub known : IsKnown bytes d f g
  pub offsets_are : offsets ≡ map (tiff.piece_offset bytes) (range_with_len 0 g.count)
  pub counts_are : counts ≡ map (tiff.piece_byte_count bytes) (range_with_len 0 g.count)

-- The piece is piece i of the bytes: its offset and byte count are as listed, and it needs so many bytes.
pub record IsPiece (bytes : List ℕ) (counts_tag : ℕ) (p : Piece) (i : ℕ) : Type 0 where
  pub tag_is : counts_tag ≡ tiff.counts_tag bytes
  pub offset_is : p.offset ≡ tiff.piece_offset bytes i
  pub count_is : p.count ≡ tiff.piece_byte_count bytes i
  pub needed_is : p.needed ≡ tiff.piece_bytes (tiff.scheme bytes) i

-- Sides, format, grid and offsets, in the standard's terms.
abbrev pub scheme_of : Dim → Format → Grid → List ℕ → Scheme
scheme_of d f g offsets = record {
  order = endian f.order;
  width = d.w;
  height = d.h;
  channels = channels_of f.kind;
  bits = f.bits;
  white_is_zero = f.white_is_zero;
  tiled = g.tiled;
  piece_width = g.width;
  piece_height = g.height;
  tiles_across = g.across;
  offsets = offsets;
}

-- An image in units is sound: its sides are within their limits, a unit has 8 bits or one, and there is an offset for each piece.
pub record IsSound (s : Scheme) : Type 0 where
  pub sides : IsReadable (dim_of s)
  pub bits : (s.bits ≤ 8) × (s.bits ≢ 8 → s.bits ≡ 1)
  pub piece_width : (0 < s.piece_width) × (s.piece_width ≤ 2 ^ 20)
  pub piece_height : (0 < s.piece_height) × (s.piece_height < 2 ^ 32)
  pub strip : s.tiled ≡ false → s.piece_width ≡ s.width
  pub across : s.tiles_across ≡ div_ceil s.width s.piece_width
  pub count : length s.offsets ≡ s.tiles_across * div_ceil s.height s.piece_height

-- A fault of reading bytes: the device's, or lack of memory.
abbrev pub IsDeviceFault : (ReadFault → Bool) → OpenFault → Type 0
IsDeviceFault gave (opens.Source f) = IsTrue (gave f)
IsDeviceFault gave opens.NoMemory = Unit {0}
IsDeviceFault gave opens.NotTiff = ⊥
IsDeviceFault gave opens.Truncated = ⊥
IsDeviceFault gave (opens.Missing tag) = ⊥
IsDeviceFault gave (opens.Unsupported tag) = ⊥
IsDeviceFault gave (opens.BadField tag) = ⊥
IsDeviceFault gave opens.TooLarge = ⊥

-- The fault is not lack of memory: a check that takes none never answers that.
abbrev pub IsNotMemory : OpenFault → Type 0
IsNotMemory opens.NotTiff = Unit {0}
IsNotMemory opens.Truncated = Unit {0}
IsNotMemory (opens.Missing tag) = Unit {0}
IsNotMemory (opens.Unsupported tag) = Unit {0}
IsNotMemory (opens.BadField tag) = Unit {0}
IsNotMemory opens.TooLarge = Unit {0}
IsNotMemory (opens.Source f) = Unit {0}
IsNotMemory opens.NoMemory = ⊥

-- The fault is lack of memory only where the checks name no refusal, where the premise holds: what they refuse is never answered so.
abbrev pub IsMemoryAfter : Type 0 → Option Refusal → OpenFault → Type 0
IsMemoryAfter premise check opens.NotTiff = Unit {0}
IsMemoryAfter premise check opens.Truncated = Unit {0}
IsMemoryAfter premise check (opens.Missing tag) = Unit {0}
IsMemoryAfter premise check (opens.Unsupported tag) = Unit {0}
IsMemoryAfter premise check (opens.BadField tag) = Unit {0}
IsMemoryAfter premise check opens.TooLarge = Unit {0}
IsMemoryAfter premise check (opens.Source f) = Unit {0}
IsMemoryAfter premise check opens.NoMemory = premise → check ≡ None

-- A sample of 16 bits takes two bytes: an image of them is read as one of twice as many samples of 8 bits, its units.
abbrev pub units_of : ℕ → ℕ
units_of bits = if bits == 16 then 2 else 1

abbrev pub unit_bits : ℕ → ℕ
unit_bits bits = if bits == 16 then 8 else bits

abbrev pub units : Scheme → Scheme
units s = record s { channels = s.channels * units_of s.bits; bits = unit_bits s.bits }

-- A unit has 8 bits or one.
abbrev pub AreBits : ℕ → Type 0
AreBits bits = (bits ≤ 16) × (unit_bits bits ≤ 8) × (unit_bits bits ≢ 8 → unit_bits bits ≡ 1)

-- the offset in the file at which the row of a pixel begins in its piece
unfoldable pub row_place : Scheme → ℕ → ℕ → ℕ
row_place s x y = slice_index s.offsets (y / s.piece_height * s.tiles_across + x / s.piece_width) + y % s.piece_height * row_bytes s

-- unit k that is stored at a pixel
unfoldable pub stored_at : List ℕ → Scheme → ℕ → ℕ → ℕ → ℕ
stored_at bytes s x y k = stored s.bits bytes (row_place s x y) (x % s.piece_width * s.channels + k)

-- The span is of the bytes that n samples of a row need, from the first-th on, and of no others.
pub record IsSpan (bits first n : ℕ) (span : Span) : Type 0 where
  pub whole : bits ≡ 8 → (span.start ≡ first) × (span.len ≡ n) × (span.skip ≡ 0)
  pub packed : bits ≡ 1 → (span.start ≡ first / 8) × (span.len ≡ div_ceil (first + n) 8 - first / 8) × (span.skip ≡ first % 8)

-- The window stands among n samples.
pub record FitsWindow (v : Window) (n : ℕ) : Type 0 where
  pub columns : v.left + v.columns ≤ v.width
  pub rows : (v.top + v.rows) * v.width ≤ n

-- In the first m rows of the window, sample i of row j is f j i.
abbrev pub HoldsRows : (ℕ → ℕ → ℕ) → Window → ℕ → List ℕ → Type 0
HoldsRows f v m samples = (j i : ℕ) → j < m → i < v.columns → slice_index samples ((v.top + j) * v.width + (v.left + i)) ≡ f j i

-- Samples that are not in the first m rows of the window are as they were.
abbrev pub KeepsRest : Window → ℕ → List ℕ → List ℕ → Type 0
KeepsRest v m old new = (j q : ℕ) → q < v.width → (j < v.top) ⊎ (v.top + m ≤ j) ⊎ (q < v.left) ⊎ (v.left + v.columns ≤ q)
    → slice_index new (j * v.width + q) ≡ slice_index old (j * v.width + q)

-- In the column of pixel (x, y) n rows from it on stand one after another in the file.
abbrev pub AreEven : Scheme → ℕ → ℕ → ℕ → Type 0
AreEven s x y n = (j : ℕ) → j < n → row_place s x (y + j) ≡ row_place s x y + j * row_bytes s

-- The rectangle lies in the image, the part in the rectangle, its columns in one piece of the image, and its rows stand one after another.
pub record IsPart (s : Scheme) (r : Rect) (p : Part) : Type 0 where
  pub inside : LiesIn r (dim_of s)
  pub columns : p.left + p.columns ≤ r.w
  pub rows : p.top + p.rows ≤ r.h
  pub columns_some : 0 < p.columns
  pub rows_some : 0 < p.rows
  pub piece_columns : (r.x + p.left) % s.piece_width + p.columns ≤ s.piece_width
  pub even : AreEven s (r.x + p.left) (r.y + p.top) p.rows

-- The window that a part fills in its rectangle, of c units a pixel.
abbrev pub window_of : ℕ → Rect → Part → Window
window_of c r p = record { width = r.w * c; left = p.left * c; top = p.top; columns = p.columns * c; rows = p.rows }

-- The part's rows are those that are stored.
abbrev pub HoldsPart : List ℕ → Scheme → Rect → Part → List ℕ → Type 0
HoldsPart bytes s r p samples =
    HoldsRows (λ j i. stored s.bits bytes (row_place s (r.x + p.left) (r.y + p.top) + j * row_bytes s)
    ((r.x + p.left) % s.piece_width * s.channels + i))
    (window_of s.channels r p) p.rows samples

-- Samples outside the part are as they were.
abbrev pub KeepsOthers : Scheme → Rect → Part → List ℕ → List ℕ → Type 0
KeepsOthers s r p old new = KeepsRest (window_of s.channels r p) p.rows old new

-- The rectangle's samples are those that are stored, and those that are shown.
abbrev pub HoldsStored : List ℕ → Scheme → Rect → List ℕ → Type 0
HoldsStored bytes s r samples = (x y k : ℕ) → x < r.w → y < r.h → k < s.channels →
    slice_index samples ((y * r.w + x) * s.channels + k) ≡ stored_at bytes s (r.x + x) (r.y + y) k

abbrev pub HoldsShown : List ℕ → Scheme → Rect → List ℕ → Type 0
HoldsShown bytes s r samples = (x y k : ℕ) → x < r.w → y < r.h → k < s.channels →
    slice_index samples ((y * r.w + x) * s.channels + k) ≡ shown bytes s (r.x + x) (r.y + y) k
