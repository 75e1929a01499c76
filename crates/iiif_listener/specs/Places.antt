-- The places of a listener: who is given one that comes, and who is turned away.
use Rattle.std.specs.Prelude.{◌≡◌, ◌⊎◌, ℕ, ◌<◌, ◌≤◌, ◌==◌, Bool, true, false, List, Option, Some, None, if◌then◌else◌, length, nat_lt}
use Rattle.std.specs.Prelude.{slice_index_or, slice_set}
use Rattle.std.specs.List.{filter}
use Rattle.iiif_listener.specs.Recent.{slow_rate, taken_late, unknown}
use Rattle.iiif_listener.specs.declared.ranking.Ranking.{Ranking}
use Rattle.iiif_listener.specs.declared.ranking.Ranking.TheVariants as rankings
use Rattle.iiif_listener.specs.declared.seat.Seat.{Seat}
use Rattle.iiif_listener.specs.declared.seat.SeatState.{SeatState}
use Rattle.iiif_listener.specs.declared.seat.SeatState.TheVariants.{Free, AtWork, Idle}
use Rattle.iiif_listener.specs.declared.table.Table.{Table}
use Rattle.iiif_listener.specs.declared.ticket.Ticket.{Ticket}

-- the most open connections of a listener
abbrev pub most : ℕ
most = 64

-- a place without a connection
abbrev pub nobody : Seat
nobody = record { number = 0; address = 0; standing = Free; recent = unknown }

-- the place of this number
abbrev pub at : List Seat → ℕ → Seat
at seats place = slice_index_or seats place nobody

abbrev pub is_free : SeatState → Bool
is_free Free = true
is_free AtWork = false
is_free (Idle since) = false

-- since which turn a connection waits for a request
abbrev pub idle_since : SeatState → Option ℕ
idle_since (Idle since) = Some since
idle_since Free = None
idle_since AtWork = None

-- a request of it is read or answered
abbrev pub is_at_work : SeatState → Bool
is_at_work AtWork = true
is_at_work Free = false
is_at_work (Idle since) = false

-- a connection has the place
abbrev pub is_taken : Seat → Bool
is_taken seat = if is_free seat.standing then false else true

-- one of this address has it
abbrev pub is_of : ℕ → Seat → Bool
is_of address seat = if is_free seat.standing then false else seat.address == address

-- how many are taken
abbrev pub taken : List Seat → ℕ
taken seats = length (filter is_taken seats)

-- how many of them by connections of this address
abbrev pub connections_of : ℕ → List Seat → ℕ
connections_of address seats = length (filter (is_of address) seats)

-- the places that an address may have where another one wants a place
abbrev pub crowd : ℕ
crowd = 16

-- the number of a connection in a ranking, of which the least is the first
abbrev pub rank : Ranking → List Seat → Seat → Option ℕ
rank rankings.Idle seats seat = idle_since seat.standing
rank (rankings.Slow now) seats seat = if is_at_work seat.standing then slow_rate seat.recent now else None
rank (rankings.Crowd address) seats seat =
    if is_at_work seat.standing then (
    if seat.address == address then None else (
    if nat_lt crowd (connections_of seat.address seats) then Some seat.number else None)) else None

-- the connection at a place has this number in a ranking
abbrev pub IsRanked : Ranking → List Seat → ℕ → ℕ → Type 0
IsRanked ranking seats place number = rank ranking seats (at seats place) ≡ Some number

-- it has one, and none has a lower one
abbrev pub IsFirst : Ranking → List Seat → ℕ → Type 0
IsFirst ranking seats place =
    (number : ℕ) × IsRanked ranking seats place number × ((other more : ℕ) → IsRanked ranking seats other more → number ≤ more)

-- none has one
abbrev pub NoneIsRanked : Ranking → List Seat → Type 0
NoneIsRanked ranking seats = (place number : ℕ) → IsRanked ranking seats place number → ⊥

-- of the one that was chosen so far and the one at a place with this number that which is ranked first
abbrev pub chosen : Option (ℕ × ℕ) → ℕ → Option ℕ → Option (ℕ × ℕ)
chosen found place None = found
chosen None place (Some number) = Some (place, number)
chosen (Some found) place (Some number) = if nat_lt number found.1 then Some (place, number) else Some found

-- as many as one address may have, where that is bounded: 0 stands for any number
abbrev pub IsCrowded : List Seat → ℕ → ℕ → Type 0
IsCrowded seats address bound = (0 < bound) × (bound ≤ connections_of address seats)

abbrev pub NoneIsFree : List Seat → Type 0
NoneIsFree seats = (place : ℕ) → place < most → is_free (at seats place).standing ≡ false

-- at this moment the connection there is ended for one that comes from an address: the one that waits longest for a request; where none
-- waits the slowest of those that are slow; and where none is the first that came of those whose address has a crowd of places, and is
-- another
abbrev pub IsOusted : List Seat → ℕ → ℕ → ℕ → Type 0
IsOusted seats address now place =
    IsFirst rankings.Idle seats place
    ⊎ (NoneIsRanked rankings.Idle seats × (IsFirst (rankings.Slow now) seats place
    ⊎ (NoneIsRanked (rankings.Slow now) seats × IsFirst (rankings.Crowd address) seats place)))

-- there is none of these
abbrev pub NoneIsOusted : List Seat → ℕ → ℕ → Type 0
NoneIsOusted seats address now =
    NoneIsRanked rankings.Idle seats × NoneIsRanked (rankings.Slow now) seats × NoneIsRanked (rankings.Crowd address) seats

-- who comes from an address is given this place at this moment: one that is free, or where none is that of the connection that is ended,
-- unless too many such still end
abbrev pub IsVacancy : Table → ℕ → ℕ → ℕ → Type 0
IsVacancy t address now place =
    (place < most)
    × ((is_free (at t.seats place).standing ≡ true) ⊎ (NoneIsFree t.seats × (t.leaving < most) × IsOusted t.seats address now place))

-- there is no such place
abbrev pub IsFull : Table → ℕ → ℕ → Type 0
IsFull t address now = NoneIsFree t.seats × ((most ≤ t.leaving) ⊎ NoneIsOusted t.seats address now)

-- the ticket's connection still has its place
abbrev pub keeps : List Seat → Ticket → Bool
keeps seats ticket = (at seats ticket.place).number == ticket.number

-- the places where it does something else from now on, if it still has its own
abbrev pub standing_so : List Seat → Ticket → SeatState → List Seat
standing_so seats ticket standing =
    if keeps seats ticket then slice_set seats ticket.place (record (at seats ticket.place) { standing = standing }) else seats

-- the places where it was sent so many bytes, by a write that ended then and took so many milliseconds, if it still has its own
abbrev pub taken_at : List Seat → Ticket → ℕ → ℕ → ℕ → List Seat
taken_at seats ticket now waited bytes =
    if keeps seats ticket then slice_set seats ticket.place
    (record (at seats ticket.place) { recent = taken_late (at seats ticket.place).recent now waited bytes }) else seats

-- the places where it has left
abbrev pub left_by : List Seat → Ticket → List Seat
left_by seats ticket = if keeps seats ticket then slice_set seats ticket.place nobody else seats
