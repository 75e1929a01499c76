-- Caches and tables of the worked examples, over keys that are numbers and values that are numbers of bytes.
use Rattle.std.specs.Prelude.{ℕ, true, Option, None, Some, nat_eq}
use Rattle.iiif_tables.specs.Cache.{Cache, Kept, Side, empty_cache, main_side, put, touch}
use Rattle.iiif_tables.specs.Flights.{Table, again, empty_book, empty_table, enter, land}
use Rattle.iiif_tables.specs.declared.table.Book.{Book}
use Rattle.iiif_tables.specs.declared.table.Class.TheVariants.{Local, Wide}
use Rattle.iiif_tables.specs.declared.table.Place.{Place}
use Rattle.iiif_tables.specs.declared.table.Place.TheVariants.{Main, Nowhere}

-- an entry takes as many bytes as its value says
abbrev pub bytes_of : ℕ → ℕ → ℕ
bytes_of key value = value

-- what is kept for a key
abbrev pub kept : ℕ → ℕ → Kept ℕ
kept value ticket = record { value = value; ticket = ticket }

-- an entry of 28 bytes
abbrev pub entry : ℕ → ℕ × Kept ℕ
entry key = (key, kept 28 0)

-- an entry of so many bytes is put
abbrev pub put_of : ℕ → Side → ℕ → Cache ℕ ℕ → Cache ℕ ℕ
put_of bytes side key c = put bytes_of nat_eq side key (kept bytes 0) c

-- Room for 60 bytes and eight entries a list: keys 0 and 1 are put in main, 0 is used, and 2 is put in main.
abbrev pub used : Cache ℕ ℕ
used = put_of 28 main_side 2 (touch nat_eq 0 (put_of 28 main_side 1 (put_of 28 main_side 0 (empty_cache 60 8))))

-- the table after a call for key 0
abbrev pub entered : Table ℕ ℕ → Table ℕ ℕ
entered t = (enter nat_eq Local 0 t).1

-- the table after the flight of this ticket for key 0 has landed
abbrev pub landed : ℕ → Option ℕ → Place → Table ℕ ℕ → Table ℕ ℕ
landed ticket value place t = land nat_eq bytes_of true Local 0 ticket value place t

-- Two calls for key 0 at a table whose cache takes so many bytes; and then its flight lands with a value of 28.
abbrev pub shared : ℕ → Table ℕ ℕ
shared limit = entered (entered (empty_table limit 8))

abbrev pub loaded : ℕ → Table ℕ ℕ
loaded limit = landed 1 (Some 28) Main (shared limit)

-- the same with a fault
abbrev pub failed : Table ℕ ℕ
failed = landed 1 None Main (shared 60)

-- what is counted then
abbrev pub book_of_shared : Book
book_of_shared = record empty_book { gets = 2; joins = 1; leads = 1 }

abbrev pub book_of_loaded : Book
book_of_loaded = record book_of_shared { loads = 1; landed = 1 }

abbrev pub book_of_failed : Book
book_of_failed = record book_of_loaded { faults = 1 }

-- The leader of another class, whose flight opened before the value was kept, looks again and lands what it found.
abbrev pub found_again : Table ℕ ℕ
found_again =
    let kept_meanwhile = landed 1 (Some 28) Main (enter nat_eq Wide 0 (shared 60)).1 in
    land nat_eq bytes_of true Wide 0 2 (Some 28) Nowhere (again nat_eq Wide 0 2 kept_meanwhile).1
