-- The table of a cache and its flights: what entering, looking again and landing do to it.
use Rattle.std.specs.Prelude.{◌≡◌, ℕ, ◌+◌, ◌-◌, ◌*◌, ◌%◌, ◌≤◌, Bool, true, false, ◌==◌, Option, Some, None, if◌then◌else◌}
use Rattle.std.specs.Map.{update}
use Rattle.iiif_tables.specs.Cache.{Kept, Cache, main_side, hot_side, empty_cache, kept_for, touch, put}
use Rattle.iiif_tables.specs.declared.table.Book.{Book}
use Rattle.iiif_tables.specs.declared.table.Class.{Class}
use Rattle.iiif_tables.specs.declared.table.Class.TheVariants.{Wide, Local}
use Rattle.iiif_tables.specs.declared.table.Place.{Place}
use Rattle.iiif_tables.specs.declared.table.Place.TheVariants.{Nowhere, Main, Peer}

-- The number of a flight for a key of a rank: each flight waits only for flights of smaller numbers.
abbrev pub flight_number : ℕ → Class → ℕ
flight_number rank Wide = 2 * rank + 1
flight_number rank Local = 2 * rank

-- An open flight: its ticket, and whether its leader found the value by looking again.
pub record Flight : Type 0 where
  pub ticket : ℕ
  pub found : Bool

-- The cache; the flight that is open for each class and key, if there is one; how many are open; and the counts.
pub record Table (K V : Type 0) : Type 0 where
  pub cache : Cache K V
  pub flights : Class → K → Option Flight
  pub in_flight : ℕ
  pub book : Book

-- nothing was counted
abbrev pub empty_book : Book
empty_book = record { gets = 0; hits = 0; joins = 0; leads = 0; again_hits = 0; loads = 0; peer = 0; landed = 0; faults = 0 }

-- a table with these limits in which nothing is kept, open or counted
abbrev pub empty_table : {K V : Type 0} → ℕ → ℕ → Table K V
empty_table limit room = record { cache = empty_cache limit room; flights = λ class k. None; in_flight = 0; book = empty_book }

-- the classes are one
abbrev pub same_class : Class → Class → Bool
same_class Wide Wide = true
same_class Wide Local = false
same_class Local Wide = false
same_class Local Local = true

-- whether a flight is open and has this ticket
abbrev pub has_ticket : ℕ → Option Flight → Bool
has_ticket n None = false
has_ticket n (Some f) = f.ticket == n

-- whether a flight is open whose leader found the value
abbrev pub is_found : Option Flight → Bool
is_found None = false
is_found (Some f) = f.found

-- The state that a call meets as it enters: a kept value; an open flight, of this ticket; or neither, and then it leads a flight of this
-- ticket.
pub data Entered (V : Type 0) : Type 0 where
  hit : Kept V → Entered V
  joined : ℕ → Entered V
  led : ℕ → Entered V

-- a kept value comes first, then a flight that is open
abbrev pub met : {V : Type 0} → Option (Kept V) → Option Flight → ℕ → Entered V
met (Some e) flight next = hit e
met None (Some f) next = joined f.ticket
met None None next = led next

-- the flights, with this one, or none, for a class and a key
abbrev pub with_flight : {K : Type 0} → (K → K → Bool) → Class → K → Option Flight → (Class → K → Option Flight) → Class → K → Option Flight
with_flight eq class k flight flights c = if same_class class c then update eq (flights c) k flight else flights c

-- The counts after a flight has landed with this value, or with a fault (None). One whose leader found the value by looking again
-- counts as that alone, at whatever place, and never as a value of a peer; any other is a load, and a value of a peer is counted so.
abbrev pub counting : {V : Type 0} → Bool → Option V → Place → Book → Book
counting true value place b = record b { landed = b.landed + 1; again_hits = b.again_hits + 1 }
counting false None place b = record b { landed = b.landed + 1; loads = b.loads + 1; faults = b.faults + 1 }
counting false (Some v) Nowhere b = record b { landed = b.landed + 1; loads = b.loads + 1 }
counting false (Some v) Main b = record b { landed = b.landed + 1; loads = b.loads + 1 }
counting false (Some v) Peer b = record b { landed = b.landed + 1; loads = b.loads + 1; peer = b.peer + 1 }

module _ {K V : Type 0} (eq : K → K → Bool) where
  module _ (class : Class) (k : K) where
    -- The state that a call for the key in the class meets. A new flight has the ticket of `leads` with one added.
    abbrev pub meets : Table K V → Entered V
    meets t = met (kept_for eq k t.cache) (t.flights class k) (t.book.leads + 1)

    -- the table after a call that met this
    abbrev pub entering : Entered V → Table K V → Table K V
    entering (hit e) t = record t {
      cache = touch eq k t.cache;
      book = record t.book { gets = t.book.gets + 1; hits = t.book.hits + 1 };
    }
    entering (joined n) t = record t { book = record t.book { gets = t.book.gets + 1; joins = t.book.joins + 1 } }
    entering (led n) t = record t {
      flights = with_flight eq class k (Some (record { ticket = n; found = false })) t.flights;
      in_flight = t.in_flight + 1;
      book = record t.book { gets = t.book.gets + 1; leads = t.book.leads + 1 };
    }

    -- A call for the key in the class enters: what it meets, and the table after it.
    unfoldable pub enter : Table K V → Entered V × Table K V
    enter t = (meets t, entering (meets t) t)

    -- the value that the leader of the open flight with this ticket finds, where this is kept by now, and the table after it
    abbrev pub looking : ℕ → Option (Kept V) → Table K V → Option V × Table K V
    looking n None t = (None, t)
    looking n (Some e) t = (
      Some e.value,
      record t {
        cache = touch eq k t.cache;
        flights = with_flight eq class k (Some (record { ticket = n; found = true })) t.flights;
      },
    )

    -- The leader of the flight with this ticket looks again: the value, if one is kept by now, and the table after it, in which the
    -- flight is found. Where no such flight is open, it finds nothing.
    unfoldable pub again : ℕ → Table K V → Option V × Table K V
    again n t = if has_ticket n (t.flights class k) then looking n (kept_for eq k t.cache) t else (None, t)

  module _ (size : K → V → ℕ) where
    -- The cache after a value has landed. `peer` counts the values that came from a peer, this one too: each tenth of them goes to
    -- hot, and no other of them is kept. A value that was found by looking again is kept already: its leader lands it with `Nowhere`,
    -- which is for the caller to see to.
    abbrev pub storing : Place → ℕ → K → Kept V → Cache K V → Cache K V
    storing Nowhere peer k e c = c
    storing Main peer k e c = put size eq main_side k e c
    storing Peer peer k e c = if peer % 10 == 0 then put size eq hot_side k e c else c

    -- the cache after an outcome has landed: a fault isn't kept
    abbrev pub keeping : Place → ℕ → K → ℕ → Option V → Cache K V → Cache K V
    keeping place peer k n None c = c
    keeping place peer k n (Some v) c = storing place peer k (record { value = v; ticket = n }) c

    -- the table after the open flight of this class, key and ticket has landed, with these counts
    abbrev pub landing : Bool → Class → K → ℕ → Option V → Place → Book → Table K V → Table K V
    landing keep class k n value place book t = record {
      cache = if keep then keeping place book.peer k n value t.cache else t.cache;
      flights = with_flight eq class k None t.flights;
      in_flight = t.in_flight - 1;
      book = book;
    }

    -- The flight of this class, key and ticket lands with a value, or with a fault (None): it closes and is counted, and the value is
    -- kept by its place, but not where `keep` is false, as where memory runs out. Where no such flight is open, nothing changes.
    unfoldable pub land : Bool → Class → K → ℕ → Option V → Place → Table K V → Table K V
    land keep class k n value place t =
        if has_ticket n (t.flights class k)
        then landing keep class k n value place (counting (is_found (t.flights class k)) value place t.book) t
        else t

-- Laws of the counts where so many flights are open.
pub record IsBook (in_flight : ℕ) (b : Book) : Type 0 where
  pub gets : b.gets ≡ b.hits + b.joins + b.leads
  pub landed : b.landed ≡ b.again_hits + b.loads
  pub leads : b.leads ≡ b.landed + in_flight
  pub faults : b.faults ≤ b.loads
  pub peer : b.peer ≤ b.loads
