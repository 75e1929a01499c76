-- What is written of events and of answers.
use Rattle.std.specs.Prelude.{ℕ, suc, ◌-◌, Bool, List, [], ◌∷◌, ◌++◌, ◌==◌, nat_lt, codes, decimal, Option, Some, None, if◌then◌else◌}
use Rattle.std.specs.Prelude.{length, option_map, slice_get, Result, Ok, Err}
use Rattle.std.specs.List.{flat_map}
use Rattle.std.specs.Str.{trim}
use Rattle.iiif_tables.specs.Cache.{Kept, kept_for}
use Rattle.iiif_records.specs.Lines.{step_line, ticket_words}
use Rattle.iiif_tables.specs.declared.table.Class.{Class}
use Rattle.iiif_tables.specs.declared.table.Class.TheVariants.{Local}
use Rattle.iiif_machine.specs.Keys.{key_bytes, key_eq}
use Rattle.iiif_machine.specs.Types.{Picture, Refusal, ReadFault}
use Rattle.iiif_machine.specs.declared.keys.Key.{Key}
use Rattle.iiif_machine.specs.declared.keys.Key.TheVariants as key
use Rattle.iiif_machine.specs.declared.keys.Value.{Value}
use Rattle.iiif_machine.specs.Rows.{Node}
use Rattle.iiif_machine.specs.declared.rows.Caller.{Caller}
use Rattle.iiif_machine.specs.declared.rows.Call.{Call}
use Rattle.iiif_machine.specs.declared.rows.CallState.{CallState}
use Rattle.iiif_machine.specs.declared.rows.CallState.TheVariants.{Fresh, Hit, In, Gone}
use Rattle.iiif_machine.specs.declared.rows.Flight.{Flight}
use Rattle.iiif_machine.specs.declared.rows.Stage.{Stage}
use Rattle.iiif_machine.specs.declared.rows.Stage.TheVariants as stage
use Rattle.iiif_machine.specs.declared.rows.Ask.{Ask}
use Rattle.iiif_machine.specs.declared.rows.Reply.{Reply as ReplyRow}
use Rattle.iiif_machine.specs.Worlds.{World, table_at}
use Rattle.iiif_machine.specs.declared.events.Event.{Event}
use Rattle.iiif_machine.specs.declared.events.Event.TheVariants.{Want, Enter, Again, AskPeer, Serve, Reply, Take, Lose, GoLocal, Load}
use Rattle.iiif_machine.specs.declared.events.Event.TheVariants.{SourceFault, Land, Evict, Stop}
use Rattle.iiif_machine.specs.declared.rows.Answer.{Answer}
use Rattle.iiif_machine.specs.declared.rows.Answer.TheVariants.{Refused, Image, Failed}
use Rattle.iiif_request.specs.declared.request.Refusal.TheVariants as refusal

-- a number behind a space
abbrev pub spaced : ℕ → List ℕ
spaced n = codes " " ++ decimal n

-- gray has one channel, RGB three
abbrev pub kind_word : ℕ → List ℕ
kind_word channels = if channels == 1 then codes "gray" else codes "rgb"

-- how many bits a sample has, by the greatest
abbrev pub bits_word : ℕ → List ℕ
bits_word top = if top == 255 then codes " 8" else codes " 16"

-- a picture, in the words of a setting
abbrev pub picture_text : Picture → List ℕ
picture_text p = kind_word p.channels ++ bits_word p.top ++ spaced p.width ++ spaced p.height ++ flat_map spaced p.samples

abbrev pub fault_text : ReadFault → List ℕ
fault_text f = codes "fault " ++ decimal f.place ++ spaced f.cause

abbrev pub refusal_word : Refusal → List ℕ
refusal_word refusal.Head = codes "Head"
refusal_word refusal.Method = codes "Method"
refusal_word refusal.Path = codes "Path"
refusal_word refusal.Identifier = codes "Identifier"
refusal_word refusal.Region = codes "Region"
refusal_word refusal.Size = codes "Size"
refusal_word refusal.Rotation = codes "Rotation"
refusal_word refusal.Quality = codes "Quality"
refusal_word refusal.Format = codes "Format"
refusal_word refusal.Empty = codes "Empty"
refusal_word refusal.Zero = codes "Zero"
refusal_word refusal.Larger = codes "Larger"
refusal_word refusal.Upscale = codes "Upscale"
refusal_word refusal.Limit = codes "Limit"

-- the ticket of what a node keeps for a key
abbrev pub ticket_at : Node → Key → Option ℕ
ticket_at n k = option_map (λ (e : Kept Value). e.ticket) (kept_for key_eq k (table_at n k).cache)

abbrev pub ticket_in : Option Node → Key → Option ℕ
ticket_in None k = None
ticket_in (Some n) k = ticket_at n k

abbrev pub ticket_kept : World → ℕ → Key → Option ℕ
ticket_kept v i k = ticket_in (slice_get v.nodes i) k

-- an answer: a refusal and its word, an image and its picture, or a fault
abbrev pub answer_text : Answer → List ℕ
answer_text (Refused r) = codes "refused " ++ refusal_word r
answer_text (Image p) = codes "image " ++ picture_text p
answer_text (Failed f) = fault_text f

-- a request that waits, or went with its node, has none
abbrev pub text_of : Option Answer → List ℕ
text_of None = codes "none"
text_of (Some a) = answer_text a

-- the line of the request of this number
abbrev pub answer_line : ℕ → Option Answer → List ℕ
answer_line n a = codes "request " ++ decimal n ++ codes ": " ++ text_of a ++ codes "\n"

-- a line for each request, from this number on
abbrev pub lines_from : ℕ → List (Option Answer) → List ℕ
lines_from n [] = []
lines_from n (a ∷ more) = answer_line n a ++ lines_from (suc n) more

-- what is written of the answers of a list
abbrev pub answers_text : List (Option Answer) → List ℕ
answers_text all = lines_from 0 all

-- the line of a step that a node of this number writes, behind the line of its event
abbrev pub note_text : ℕ → List ℕ → Class → Option ℕ → Key → List ℕ
note_text node step class ticket key = codes "\n> " ++ decimal node ++ codes " " ++ step_line step class ticket (key_bytes key)

abbrev pub flight_ticket : World → ℕ → Option ℕ
flight_ticket v f = option_map (λ (fl : Flight). fl.lead.ticket) (slice_get v.flights f)

abbrev pub meeting_word : Bool → List ℕ
meeting_word joins = if joins then codes "joins" else codes "leads"

-- what a call that entered met, where the list has as many flights from before: what is kept, by the ticket of the flight that landed with
-- it; or a flight, by its ticket and its number, which was open, or which the call leads
abbrev pub met_text : ℕ → World → Caller → CallState → List ℕ
met_text flights v who Fresh = []
met_text flights v who (Hit x) = codes ": hit" ++ ticket_words (ticket_kept v who.node who.key)
    ++ note_text who.node (codes "hit") who.class (ticket_kept v who.node who.key) who.key
met_text flights v who (In f) = codes ": " ++ meeting_word (nat_lt f flights) ++ ticket_words (flight_ticket v f) ++ spaced f
    ++ note_text who.node (meeting_word (nat_lt f flights)) who.class (flight_ticket v f) who.key
met_text flights v who Gone = []

abbrev pub entered_text : ℕ → World → Option Call → List ℕ
entered_text flights v None = []
entered_text flights v (Some call) = met_text flights v call.caller call.state

-- a step of the leader of a flight
abbrev pub lead_text : List ℕ → Option Flight → List ℕ
lead_text step None = []
lead_text step (Some fl) = note_text fl.lead.node step fl.lead.class (Some fl.lead.ticket) fl.lead.key

-- whether an owner that was asked answered with a value
abbrev pub taken_word : Stage → List ℕ
taken_word stage.New = codes "failed"
taken_word stage.Looked = codes "failed"
taken_word stage.Asking = codes "failed"
taken_word (stage.Fallback c) = codes "failed"
taken_word (stage.Parts cs) = codes "failed"
taken_word (stage.Ready o place) = codes "answered"
taken_word (stage.Ended o) = codes "failed"

abbrev pub taken_text : Option Flight → List ℕ
taken_text None = []
taken_text (Some fl) = lead_text (taken_word fl.stage) (Some fl)

-- a value, or a fault
abbrev pub ending_word : Result Value ReadFault → List ℕ
ending_word (Ok x) = codes "value"
ending_word (Err f) = codes "fault"

abbrev pub landing_word : Stage → List ℕ
landing_word stage.New = []
landing_word stage.Looked = []
landing_word stage.Asking = []
landing_word (stage.Fallback c) = []
landing_word (stage.Parts cs) = []
landing_word (stage.Ready o place) = []
landing_word (stage.Ended None) = []
landing_word (stage.Ended (Some o)) = ending_word o

-- whether the node of a flight that has landed keeps what it landed with: by its ticket
abbrev pub kept_word : ℕ → Option ℕ → List ℕ
kept_word ticket None = codes "dropped"
kept_word ticket (Some n) = if n == ticket then codes "kept" else codes "dropped"

abbrev pub landed_text : World → Option Flight → List ℕ
landed_text v None = []
landed_text v (Some fl) =
    let kept = kept_word fl.lead.ticket (ticket_kept v fl.lead.node fl.lead.key) in
    codes ": " ++ kept ++ lead_text (codes "lands " ++ landing_word fl.stage ++ codes " " ++ kept) (Some fl)

-- the step of a node that serves an ask
abbrev pub served_text : Option Ask → List ℕ
served_text None = []
served_text (Some ask) = note_text ask.node (codes "serves") Local None ask.key

-- the step of a node whose call for an ask knows this, with which it replies
abbrev pub replied_text : Option Call → Option ReplyRow → List ℕ
replied_text None reply = []
replied_text (Some call) None = []
replied_text (Some call) (Some reply) =
    note_text call.caller.node (codes "replies " ++ ending_word reply.outcome) Local None call.caller.key

-- the step of a read: a sum is read nowhere
abbrev pub read_text : ℕ → Key → List ℕ
read_text node (key.Tile t) = note_text node (codes "reads") Local None (key.Tile t)
read_text node (key.Sum s) = []

abbrev pub loaded_text : Option Flight → List ℕ
loaded_text None = []
loaded_text (Some fl) = read_text fl.lead.node fl.lead.key

-- the step of a read that failed
abbrev pub failed_text : ReadFault → Option Flight → List ℕ
failed_text e None = []
failed_text e (Some fl) = note_text fl.lead.node (codes "fails" ++ spaced e.place ++ spaced e.cause) Local None fl.lead.key

-- what is said, behind `done`, of an event that made this world of one with so many flights, and the step that a node writes of it
abbrev pub said_text : ℕ → Event → World → List ℕ
said_text flights (Want i name q) v = []
said_text flights (Enter c) v = entered_text flights v (slice_get v.calls c)
said_text flights (Again f) v = []
said_text flights (AskPeer f) v = lead_text (codes "asks") (slice_get v.flights f)
said_text flights (Serve a) v = served_text (slice_get v.asks a)
said_text flights (Reply c) v = replied_text (slice_get v.calls c) (slice_get v.replies (length v.replies - 1))
said_text flights (Take f r) v = taken_text (slice_get v.flights f)
said_text flights (Lose f) v = lead_text (codes "failed") (slice_get v.flights f)
said_text flights (GoLocal f) v = []
said_text flights (Load f) v = loaded_text (slice_get v.flights f)
said_text flights (SourceFault f e) v = failed_text e (slice_get v.flights f)
said_text flights (Land f kept) v = landed_text v (slice_get v.flights f)
said_text flights (Evict i keys) v = []
said_text flights (Stop i) v = codes "\n> " ++ decimal i ++ codes " stopped"

-- what is written of an event: its line's number, its words, and what it came to, perhaps with a node's line behind it
abbrev pub outcome_text : ℕ → List ℕ → List ℕ → List ℕ
outcome_text number line word = decimal number ++ codes " " ++ trim line ++ codes ": " ++ word ++ codes "\n"
