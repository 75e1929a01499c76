-- The numbers of a file, its first directory, and the values of its fields: TIFF 6.0, section 2. The definitions take any
-- bytes: a byte past the end reads as 0, and the checks of Refusals refuse such a file.
--
--   byte order   which byte of a number comes first: the low one in an II file, the high one in an MM file
--   number       of 1, 2 or 4 bytes: BYTE, SHORT, LONG
--   directory    "Image File Directory": the number of its entries, and then the entries
--   entry        "IFD Entry": tag, type, count, and the values or their offset
--   field        an entry and its values; found by its tag, and where there is none its default counts
use Rattle.std.specs.Prelude.{ℕ, ◌+◌, ◌*◌, Bool, ◌||◌, List, [], ◌∷◌, map, take, drop, slice_index, Option, nat_le, ◌==◌, if◌then◌else◌}
use Rattle.std.specs.Prelude.{find}
use Rattle.std.specs.Option.{option_map_or}
use Rattle.std.specs.List.{list_all, range_with_len}
use Rattle.std.specs.Int.{Width, w8, w16, w32, from_le_bytes, from_be_bytes}

-- Section 2, "Image File Header": the byte order of a file, little-endian (II) or big-endian (MM).
pub data ByteOrder : Type 0 where
  Little : ByteOrder
  Big : ByteOrder

-- Section 2, "Image File Header": the number of this width at an offset, its bytes in this order.
abbrev pub number : ByteOrder → Width → List ℕ → ℕ → ℕ
number Little w bytes at = from_le_bytes w (drop at bytes)
number Big w bytes at = from_be_bytes w (drop at bytes)

-- Section 2, "Image File Header": a file whose first byte is "M" is big-endian, any other little-endian.
abbrev pub order : List ℕ → ByteOrder
order bytes = if slice_index bytes 0 == 77 then Big else Little

-- Section 2, "Types": the SHORT at an offset of the file, in its byte order.
abbrev pub short : List ℕ → ℕ → ℕ
short bytes at = number (order bytes) w16 bytes at

-- Section 2, "Types": the LONG at an offset of the file, in its byte order.
abbrev pub long : List ℕ → ℕ → ℕ
long bytes at = number (order bytes) w32 bytes at

-- Section 2, "IFD Entry": the tag, the type, the count of values, and the four bytes that hold the values or their offset.
pub record Entry : Type 0 where
  pub tag : ℕ
  pub kind : ℕ
  pub count : ℕ
  pub inside : List ℕ

-- Section 2, "IFD Entry": the entry at an offset, of 12 bytes.
unfoldable pub entry : List ℕ → ℕ → Entry
entry bytes at = record {
  tag = short bytes at;
  kind = short bytes (at + 2);
  count = long bytes (at + 4);
  inside =
      take 4 (drop (at + 8) bytes);
}

-- Section 2, "Image File Header": bytes 4 to 7 are the offset of the first directory.
abbrev pub directory : List ℕ → ℕ
directory bytes = long bytes 4

-- Section 2, "Image File Directory": its first two bytes count the entries.
abbrev pub entry_count : List ℕ → ℕ
entry_count bytes = short bytes (directory bytes)

-- Section 2, "Image File Directory": the entries, one after another.
unfoldable pub entries : List ℕ → List Entry
entries bytes = map (λ i. entry bytes (directory bytes + 2 + 12 * i)) (range_with_len 0 (entry_count bytes))

-- Section 2, "Sort Order": the first entry with a tag. The standard wants ascending tags; nothing here depends on it.
unfoldable pub entry_of : List ℕ → ℕ → Option Entry
entry_of bytes tag = find (λ e. e.tag == tag) (entries bytes)

-- Section 2, "Types": an unsigned number is a BYTE (1), a SHORT (3) or a LONG (4).
abbrev pub is_unsigned : ℕ → Bool
is_unsigned kind = kind == 1 || kind == 3 || kind == 4

-- Section 2, "Types": how many bytes a value of a type takes.
abbrev pub size : ℕ → ℕ
size kind = if kind == 1 then 1 else (if kind == 3 then 2 else 4)

-- Section 2, "Types": how many bits a value of a type has.
abbrev pub width_of : ℕ → Width
width_of kind = if kind == 1 then w8 else (if kind == 3 then w16 else w32)

-- Section 2, "Value/Offset": values that fit into four bytes stand in the entry, left-justified.
abbrev pub is_inside : Entry → Bool
is_inside e = nat_le (e.count * size e.kind) 4

-- Section 2, "Value/Offset": the offset of values that don't fit.
abbrev pub offset : List ℕ → Entry → ℕ
offset bytes e = number (order bytes) w32 e.inside 0

-- Section 2, "Value/Offset": the bytes from the first value of an entry on.
abbrev pub value_bytes : List ℕ → Entry → List ℕ
value_bytes bytes e = if is_inside e then e.inside else drop (offset bytes e) bytes

-- Section 2, "IFD Entry": value i of an entry, counted from 0.
unfoldable pub value : List ℕ → Entry → ℕ → ℕ
value bytes e i = number (order bytes) (width_of e.kind) (value_bytes bytes e) (i * size e.kind)

-- Section 2, "IFD Entry": the first n values of an entry.
abbrev pub values : List ℕ → Entry → ℕ → List ℕ
values bytes e n = map (value bytes e) (range_with_len 0 n)

-- Section 8: value i of the field with a tag, or its default where the file has no such field.
unfoldable pub value_or : List ℕ → ℕ → ℕ → ℕ → ℕ
value_or bytes tag i default = option_map_or (λ e. value bytes e i) (entry_of bytes tag) default

-- Section 8: all values of the field with a tag, or its default where the file has no such field.
unfoldable pub values_or : List ℕ → ℕ → ℕ → List ℕ
values_or bytes tag default = option_map_or (λ e. values bytes e e.count) (entry_of bytes tag) (default ∷ [])

-- Section 8: whether each value of the field with a tag, or its default, is n.
abbrev pub all_are : List ℕ → ℕ → ℕ → ℕ → Bool
all_are bytes tag default n = list_all (λ v. v == n) (values_or bytes tag default)
