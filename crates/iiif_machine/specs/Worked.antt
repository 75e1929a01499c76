-- Worked lists of events: what they come to.
use Rattle.std.specs.Prelude.{◌≡◌, ◌+◌, ℕ, Ok, List, [], ◌∷◌, ◌++◌, Bool, true, false, Option, Some, None, map, slice_get, if◌then◌else◌}
use Rattle.std.specs.Str.{bytes_eq}
use Rattle.iiif_pixel.specs.declared.geometry.Quality.TheVariants.{Default}
use Rattle.iiif_request.specs.declared.request.Region.{Region}
use Rattle.iiif_request.specs.declared.request.Region.TheVariants.{Full, Pixels}
use Rattle.iiif_request.specs.declared.request.Form.{Form}
use Rattle.iiif_request.specs.declared.request.Form.TheVariants.{Max, Width, Both}
use Rattle.iiif_tables.specs.Flights as tables
use Rattle.iiif_tables.specs.declared.table.Book.{Book}
use Rattle.iiif_machine.specs.Scenes.{Scene}
use Rattle.iiif_machine.specs.Keys.{meaning}
use Rattle.iiif_machine.specs.declared.keys.Key.TheVariants as key
use Rattle.iiif_machine.specs.Types.{Key, Picture, Request, ReadFault}
use Rattle.iiif_machine.specs.Tables.{Wide, Table, Peer, enter, land}
use Rattle.iiif_machine.specs.Rows.{Node, Answer, Image, Failed}
use Rattle.iiif_machine.specs.Worlds.{World, ◌>>=◌, new_world, answers}
use Rattle.iiif_machine.specs.Steps.{Event, Want, Enter, Again, AskPeer, Serve, Take, Lose, GoLocal, Load, SourceFault, Land, Stop}
use Rattle.iiif_machine.specs.Steps.{node_without, step, run}
use Rattle.iiif_machine.specs.declared.events.Event.TheVariants as event

-- Pictures, requests and nodes

-- the names p and a
abbrev pub p_name : List ℕ
p_name = 112 ∷ []

abbrev pub a_name : List ℕ
a_name = 97 ∷ []

-- gray, one place, of sample 7
abbrev pub seven : Picture
seven = record { width = 1; height = 1; channels = 1; top = 255; samples = 7 ∷ [] }

-- gray, 4 by 4: 10 * x + 40 * y
abbrev pub ramp : Picture
ramp = record {
  width = 4;
  height = 4;
  channels = 1;
  top = 255;
  samples = 0 ∷ 10 ∷ 20 ∷ 30 ∷ 40 ∷ 50 ∷ 60 ∷ 70 ∷ 80 ∷ 90 ∷ 100 ∷ 110 ∷ 120 ∷ 130 ∷ 140 ∷ 150 ∷ [];
}

-- the same of 16 bits: 4,001 * x + 16,004 * y
abbrev pub deep_ramp : Picture
deep_ramp = record {
  width = 4;
  height = 4;
  channels = 1;
  top = 65535;
  samples = 0 ∷ 4001 ∷ 8002 ∷ 12003 ∷ 16004 ∷ 20005 ∷ 24006 ∷ 28007 ∷ 32008 ∷ 36009 ∷ 40010 ∷ 44011 ∷ 48012 ∷ 52013 ∷ 56014 ∷ 60015 ∷ [];
}

-- one picture, by its name, and the side of a tile
abbrev pub showing : List ℕ → Picture → ℕ → Scene
showing shown p edge = record {
  shows = λ name. if bytes_eq name shown then Some p else None;
  edge = edge;
  limits = record { max_w = 4096; max_h = 4096; upscale = false };
  room = 65536;
  faults_early = false;
}

-- a region at a size, turned clockwise by so many degrees
abbrev pub asking_for : Region → Form → ℕ → Request
asking_for region form degrees = record {
  region = region;
  size = record { up = false; form = form };
  rotation = record { mirror = false; degrees = record { digits = degrees; places = 0 } };
  quality = Default;
}

-- full/max/0/default
abbrev pub all : Request
all = asking_for Full Max 0

-- full/2,/0/default
abbrev pub halved : Request
halved = asking_for Full (Width 2) 0

-- 1,0,3,3/max/90/default
abbrev pub cut_out : Request
cut_out = asking_for (Pixels 1 0 3 3) Max 90

-- a node of version 2 by the number that is its name, whose ring has one name alone
abbrev pub node_on : ℕ → ℕ → Node
node_on name owner = record {
  name = name ∷ [];
  ring = (owner ∷ []) ∷ [];
  version = 2;
  tiles = tables.empty_table 1000 8;
  sums = tables.empty_table 1000 8;
}

-- one node, which owns all keys; and two, each of which owns all keys for the other
abbrev pub alone : List Node
alone = node_on 0 0 ∷ []

abbrev pub crossed : List Node
crossed = node_on 0 1 ∷ node_on 1 0 ∷ []

-- the answers after a list of events; none, where one of them isn't allowed
abbrev pub answers_in : Option World → Option (List (Option Answer))
answers_in None = None
answers_in (Some w) = Some (answers w)

abbrev pub answers_after : Scene → List Node → List Event → Option (List (Option Answer))
answers_after s nodes events = answers_in (run (new_world s nodes) events)

abbrev pub tiny : Scene
tiny = showing p_name seven 1

abbrev pub is_seven : Option Answer
is_seven = Some (Image seven)

-- A request waits until its calls know; a plan's item that was kept is found.

abbrev pub WaitsForItsCalls : Type 0
WaitsForItsCalls = answers_after tiny alone (Want 0 p_name all ∷ []) ≡ Some (None ∷ [])

abbrev pub loaded : Bool → List Event
loaded kept = Want 0 p_name all ∷ Enter 0 ∷ Again 0 ∷ Load 0 ∷ Land 0 kept ∷ Want 0 p_name all ∷ Enter 1 ∷ []

abbrev pub KeptIsFound : Type 0
KeptIsFound = answers_after tiny alone (loaded true) ≡ Some (is_seven ∷ is_seven ∷ [])

abbrev pub NotKeptIsNotFound : Type 0
NotKeptIsNotFound = answers_after tiny alone (loaded false) ≡ Some (is_seven ∷ None ∷ [])

-- What was answered stays so when the node stops.
abbrev pub AnswersStayAtAStop : Type 0
AnswersStayAtAStop = answers_after tiny alone (loaded true ++ Stop 0 ∷ []) ≡ Some (is_seven ∷ is_seven ∷ [])

-- The failing read: the fault is answered, and the call doesn't enter again.

abbrev pub fault_at : ℕ → ReadFault
fault_at place = record { place = place; cause = 3 }

abbrev pub failing_read : List Event
failing_read = Want 0 p_name all ∷ Enter 0 ∷ Again 0 ∷ SourceFault 0 (fault_at 8) ∷ Land 0 true ∷ []

abbrev pub FailingRead : Type 0
FailingRead = answers_after tiny alone failing_read ≡ Some (Some (Failed (fault_at 8)) ∷ [])

abbrev pub NotAgain : Type 0
NotAgain = answers_after tiny alone (failing_read ++ Enter 0 ∷ []) ≡ None

-- a fault isn't kept: the next call reads anew
abbrev pub FaultIsNotKept : Type 0
FaultIsNotKept = answers_after tiny alone (failing_read ++ Want 0 p_name all ∷ Enter 1 ∷ Again 1 ∷ Load 1 ∷ Land 1 true ∷ [])
    ≡ Some (Some (Failed (fault_at 8)) ∷ is_seven ∷ [])

-- Two requests for one tile at once: the second call joins the first one's flight, and has its outcome, a fault too.

abbrev pub two_at_once : List Event
two_at_once = Want 0 p_name all ∷ Want 0 p_name all ∷ Enter 0 ∷ Enter 1 ∷ Again 0 ∷ []

abbrev pub TwoShareAValue : Type 0
TwoShareAValue = answers_after tiny alone (two_at_once ++ Load 0 ∷ Land 0 true ∷ []) ≡ Some (is_seven ∷ is_seven ∷ [])

abbrev pub TwoShareAFault : Type 0
TwoShareAFault = answers_after tiny alone (two_at_once ++ SourceFault 0 (fault_at 8) ∷ Land 0 true ∷ [])
    ≡ Some (Some (Failed (fault_at 8)) ∷ Some (Failed (fault_at 8)) ∷ [])

-- the fault of their own flight, also where two others were given before
abbrev pub third_fault : List Event
third_fault = failing_read ++ Want 0 p_name all ∷ Enter 1 ∷ Again 1 ∷ SourceFault 1 (fault_at 9) ∷ Land 1 true
    ∷ Want 0 p_name all ∷ Want 0 p_name all ∷ Enter 2 ∷ Enter 3 ∷ Again 2 ∷ SourceFault 2 (fault_at 5) ∷ Land 2 true ∷ []

abbrev pub TwoShareAThirdFault : Type 0
TwoShareAThirdFault = answers_after tiny alone third_fault
    ≡ Some (Some (Failed (fault_at 8)) ∷ Some (Failed (fault_at 9)) ∷ Some (Failed (fault_at 5)) ∷ Some (Failed (fault_at 5)) ∷ [])

-- The crossed rings: each node asks the other, serves it by a local flight of its own, and takes its reply.

abbrev pub asked_and_served : List Event
asked_and_served = Want 0 p_name all ∷ Want 1 p_name all ∷ Enter 0 ∷ Enter 1 ∷ Again 0 ∷ Again 1 ∷ AskPeer 0 ∷ AskPeer 1
    ∷ Serve 0 ∷ Serve 1 ∷ Enter 2 ∷ Enter 3 ∷ Again 2 ∷ Again 3 ∷ Load 2 ∷ Load 3 ∷ Land 2 true ∷ Land 3 true
    ∷ event.Reply 2 ∷ event.Reply 3 ∷ Take 0 0 ∷ Take 1 1 ∷ []

abbrev pub landed : List Event
landed = asked_and_served ++ Land 0 true ∷ Land 1 true ∷ []

abbrev pub served_again : List Event
served_again = landed ++ Serve 0 ∷ Enter 4 ∷ event.Reply 4 ∷ []

abbrev pub NoneIsAnsweredYet : Type 0
NoneIsAnsweredYet = answers_after tiny crossed asked_and_served ≡ Some (None ∷ None ∷ [])

abbrev pub BothAreAnswered : Type 0
BothAreAnswered = answers_after tiny crossed landed ≡ Some (is_seven ∷ is_seven ∷ [])

-- the late repeat of the reply is allowed, and changes nothing
abbrev pub LateRepeatChangesNothing : Type 0
LateRepeatChangesNothing = (run (new_world tiny crossed) served_again >>= (λ w. step w (Take 0 2))) ≡ run (new_world tiny crossed)
    served_again

abbrev pub BothStayAnswered : Type 0
BothStayAnswered = answers_after tiny crossed (served_again ++ Take 0 2 ∷ []) ≡ Some (is_seven ∷ is_seven ∷ [])

-- Three nodes, each of which owns all keys for another one: the first asks the third, the second the first, the third the second.

abbrev pub three : List Node
three = node_on 0 2 ∷ node_on 1 0 ∷ node_on 2 1 ∷ []

abbrev pub three_asked : List Event
three_asked = Want 0 p_name all ∷ Want 1 p_name all ∷ Want 2 p_name all ∷ Enter 0 ∷ Enter 1 ∷ Enter 2 ∷ Again 0 ∷ Again 1 ∷ Again 2
    ∷ AskPeer 2 ∷ AskPeer 0 ∷ AskPeer 1 ∷ []

abbrev pub asked_nodes : Option World → List ℕ
asked_nodes None = []
asked_nodes (Some w) = map (λ q. q.node) w.asks

abbrev pub OwnersAreAsked : Type 0
OwnersAreAsked = asked_nodes (run (new_world tiny three) three_asked) ≡ 1 ∷ 2 ∷ 0 ∷ []

abbrev pub three_served : List Event
three_served = three_asked ++ Serve 0 ∷ Serve 1 ∷ Serve 2 ∷ Enter 3 ∷ Enter 4 ∷ Enter 5 ∷ Again 3 ∷ Again 4 ∷ Again 5 ∷ Load 3 ∷ Load 4
    ∷ Load 5 ∷ Land 3 true ∷ Land 4 true ∷ Land 5 true ∷ event.Reply 3 ∷ event.Reply 4 ∷ event.Reply 5 ∷ Take 2 0 ∷ Take 0 1 ∷ Take 1 2
    ∷ Land 0 true ∷ Land 1 true ∷ Land 2 true ∷ []

abbrev pub ThreeAreAnswered : Type 0
ThreeAreAnswered = answers_after tiny three three_served ≡ Some (is_seven ∷ is_seven ∷ is_seven ∷ [])

-- A lost ask: the flight goes on by a local call of its own.

abbrev pub lost_ask : List Event
lost_ask = Want 0 p_name all ∷ Enter 0 ∷ Again 0 ∷ AskPeer 0 ∷ Lose 0 ∷ GoLocal 0 ∷ Enter 1 ∷ Again 1 ∷ Load 1 ∷ Land 1 true ∷ Land 0 true ∷
    []

abbrev pub LostAskIsAnswered : Type 0
LostAskIsAnswered = answers_after tiny crossed lost_ask ≡ Some (is_seven ∷ [])

-- 16 bits at a node of version 1: it serves no ask of version 2, and the flight that asked goes on by a local call of its own.

-- gray, one place, of sample 700 of 16 bits
abbrev pub deep : Picture
deep = record { width = 1; height = 1; channels = 1; top = 65535; samples = 700 ∷ [] }

-- a node of version 2, and one of version 1, each of which owns all keys for the other
abbrev pub mixed : List Node
mixed = node_on 0 1 ∷ record (node_on 1 0) { version = 1 } ∷ []

abbrev pub asked : List Event
asked = Want 0 p_name all ∷ Enter 0 ∷ Again 0 ∷ AskPeer 0 ∷ []

abbrev pub DeepAskIsNotServed : Type 0
DeepAskIsNotServed = answers_after (showing p_name deep 1) mixed (asked ++ Serve 0 ∷ []) ≡ None

abbrev pub DeepAskIsAnswered : Type 0
DeepAskIsAnswered = answers_after (showing p_name deep 1) mixed
    (asked ++ Lose 0 ∷ GoLocal 0 ∷ Enter 1 ∷ Again 1 ∷ Load 1 ∷ Land 1 true ∷ Land 0 true ∷ [])
    ≡ Some (Some (Image deep) ∷ [])

-- it serves one of version 1
abbrev pub AskIsServed : Type 0
AskIsServed = answers_after tiny mixed (asked ++ Serve 0 ∷ []) ≡ Some (None ∷ [])

-- nor does a request for 16 bits come to it, as one for 8 does
abbrev pub DeepIsNotWanted : Type 0
DeepIsNotWanted = answers_after (showing p_name deep 1) mixed (Want 1 p_name all ∷ []) ≡ None

abbrev pub SevenIsWanted : Type 0
SevenIsWanted = answers_after tiny mixed (Want 1 p_name all ∷ []) ≡ Some (None ∷ [])

-- A fault in a reply isn't the asker's: it goes on by itself.

abbrev pub fault_replied : List Event
fault_replied = Want 0 p_name all ∷ Enter 0 ∷ Again 0 ∷ AskPeer 0 ∷ Serve 0 ∷ Enter 1 ∷ Again 1 ∷ SourceFault 1 (fault_at 8) ∷ Land 1 true
    ∷ event.Reply 1 ∷ Take 0 0 ∷ GoLocal 0 ∷ Enter 2 ∷ Again 2 ∷ Load 2 ∷ Land 2 true ∷ Land 0 true ∷ []

abbrev pub FaultOfAPeerIsNotAnswered : Type 0
FaultOfAPeerIsNotAnswered = answers_after tiny crossed fault_replied ≡ Some (is_seven ∷ [])

-- The stopped node: its request is gone; the reply to the flight that went is no one's, but may be taken by the next one.

abbrev pub replied_late : List Event
replied_late = Want 0 p_name all ∷ Enter 0 ∷ Again 0 ∷ AskPeer 0 ∷ Stop 0 ∷ Want 0 p_name all ∷ Enter 1 ∷ Again 1 ∷ AskPeer 1
    ∷ Serve 0 ∷ Enter 2 ∷ Again 2 ∷ Load 2 ∷ Land 2 true ∷ event.Reply 2 ∷ []

abbrev pub stopped_node : List Event
stopped_node = replied_late ++ Take 0 0 ∷ Take 1 0 ∷ Land 1 true ∷ []

-- the flight that went may be sent the reply, and nothing changes
abbrev pub ReplyToAStoppedFlightChangesNothing : Type 0
ReplyToAStoppedFlightChangesNothing = (run (new_world tiny crossed) replied_late >>= (λ w. step w (Take 0 0))) ≡ run
    (new_world tiny crossed) replied_late

abbrev pub StoppedNode : Type 0
StoppedNode = answers_after tiny crossed stopped_node ≡ Some (None ∷ is_seven ∷ [])

-- and its call doesn't enter, nor does a call that had found a value answer
abbrev pub StoppedCallsAreGone : Type 0
StoppedCallsAreGone = answers_after tiny alone (Want 0 p_name all ∷ Stop 0 ∷ Enter 0 ∷ []) ≡ None

-- A wide leader that looks again finds what a local flight has landed meanwhile. Its flight is counted as found, and not as a load.

abbrev pub found_again : List Event
found_again = Want 0 p_name all ∷ Want 1 p_name all ∷ Enter 0 ∷ Enter 1 ∷ Again 1 ∷ AskPeer 1 ∷ Serve 0 ∷ Enter 2 ∷ Again 2 ∷ Load 2 ∷ Land
    2 true
    ∷ Again 0 ∷ Land 0 true ∷ []

abbrev pub book_of : Option World → Option Book
book_of None = None
book_of (Some w) = do
  n ← slice_get w.nodes 0
  Some n.tiles.book

abbrev pub FoundAgainIsAnswered : Type 0
FoundAgainIsAnswered = answers_after tiny crossed found_again ≡ Some (is_seven ∷ None ∷ [])

abbrev pub FoundAgainIsCounted : Type 0
FoundAgainIsCounted = book_of (run (new_world tiny crossed) found_again)
    ≡ Some (record { gets = 2; hits = 0; joins = 0; leads = 2; again_hits = 1; loads = 1; peer = 0; landed = 2; faults = 0 })

-- A value of a peer is counted as one: of the two loads at each node of the crossed rings, one was the node's own.
abbrev pub PeerValueIsCounted : Type 0
PeerValueIsCounted = book_of (run (new_world tiny crossed) landed)
    ≡ Some (record { gets = 2; hits = 0; joins = 0; leads = 2; again_hits = 0; loads = 2; peer = 1; landed = 2; faults = 0 })

-- A sum of one level: its four parts, and their tiles.

abbrev pub graded : Scene
graded = showing a_name ramp 2

abbrev pub sums : List Event
sums = Want 0 a_name halved ∷ Enter 0 ∷ Again 0 ∷ Load 0 ∷ Enter 1 ∷ Enter 2 ∷ Enter 3 ∷ Enter 4 ∷ Again 1 ∷ Load 1 ∷ Enter 5 ∷ Again 2 ∷
    Load 2 ∷ Enter 6
    ∷ Again 3 ∷ Load 3 ∷ Enter 7 ∷ Again 4 ∷ Load 4 ∷ Enter 8 ∷ Again 5 ∷ Load 5 ∷ Land 5 true ∷ Load 1 ∷ Land 1 true ∷ Again 6 ∷ Load 6 ∷
    Land 6 true
    ∷ Load 2 ∷ Land 2 true ∷ Again 7 ∷ Load 7 ∷ Land 7 true ∷ Load 3 ∷ Land 3 true ∷ Again 8 ∷ Load 8 ∷ Land 8 true ∷ Load 4 ∷ Land 4 true
    ∷ Load 0 ∷ Land 0 true ∷ []

abbrev pub HalvedIs : Type 0
HalvedIs = answers_after graded alone sums
    ≡ Some (Some (Image (record { width = 2; height = 2; channels = 1; top = 255; samples = 25 ∷ 45 ∷ 105 ∷ 125 ∷ [] })) ∷ [])

-- The same of 16 bits: each average ends in a half, which goes up.

abbrev pub DeepHalvedIs : Type 0
DeepHalvedIs = answers_after (showing a_name deep_ramp 2) alone sums
    ≡ Some (Some (Image (record { width = 2; height = 2; channels = 1; top = 65535; samples = 10003 ∷ 18005 ∷ 42011 ∷ 50013 ∷ [] })) ∷ [])

-- A region of one tile, scaled up: each place of the result is the average of the places that it lies on.

-- 0,0,2,2/^3,3/0/default
abbrev pub enlarged : Request
enlarged = record (asking_for (Pixels 0 0 2 2) (Both 3 3) 0) { size = record { up = true; form = Both 3 3 } }

abbrev pub larger : Scene
larger = record graded { limits = record { max_w = 4096; max_h = 4096; upscale = true } }

abbrev pub one_tile : List Event
one_tile = Want 0 a_name enlarged ∷ Enter 0 ∷ Again 0 ∷ Load 0 ∷ Land 0 true ∷ []

abbrev pub EnlargedIs : Type 0
EnlargedIs = answers_after larger alone one_tile
    ≡ Some (Some (Image (record {
      width = 3;
      height = 3;
      channels = 1;
      top = 255;
      samples =
          0 ∷ 5 ∷ 10 ∷ 20 ∷ 25 ∷ 30 ∷ 40 ∷ 45 ∷ 50 ∷ [];
    })) ∷ [])

-- Four tiles, put together and turned.

abbrev pub four_calls : List Event
four_calls = Want 0 a_name cut_out ∷ Enter 0 ∷ Enter 1 ∷ Enter 2 ∷ Enter 3 ∷ []

abbrev pub tiles : List Event
tiles = four_calls ++ Again 0 ∷ Load 0 ∷ Land 0 true ∷ Again 1 ∷ Load 1 ∷ Land 1 true ∷ Again 2 ∷ Load 2 ∷ Land 2 true ∷ Again 3 ∷ Load 3 ∷
    Land 3 true ∷ []

abbrev pub CutOutIs : Type 0
CutOutIs = answers_after graded alone tiles
    ≡ Some (Some (Image (record {
      width = 3;
      height = 3;
      channels = 1;
      top = 255;
      samples =
          90 ∷ 50 ∷ 10 ∷ 100 ∷ 60 ∷ 20 ∷ 110 ∷ 70 ∷ 30 ∷ [];
    })) ∷ [])

-- A reply of another key comes to a flight that asks: it goes on alone, and the image is the same.

abbrev pub reply_of_another_key : List Event
reply_of_another_key = four_calls ++ Again 0 ∷ Again 1 ∷ AskPeer 0 ∷ AskPeer 1 ∷ Serve 1 ∷ Enter 4 ∷ Again 4 ∷ Load 4 ∷ Land 4 true ∷
    event.Reply 4
    ∷ Take 0 0 ∷ Take 1 0 ∷ Land 1 true ∷ GoLocal 0 ∷ Enter 5 ∷ Again 5 ∷ Load 5 ∷ Land 5 true ∷ Land 0 true
    ∷ Again 2 ∷ AskPeer 2 ∷ Lose 2 ∷ GoLocal 2 ∷ Enter 6 ∷ Again 6 ∷ Load 6 ∷ Land 6 true ∷ Land 2 true
    ∷ Again 3 ∷ AskPeer 3 ∷ Lose 3 ∷ GoLocal 3 ∷ Enter 7 ∷ Again 7 ∷ Load 7 ∷ Land 7 true ∷ Land 3 true ∷ []

abbrev pub ReplyOfAnotherKeyIsNotTaken : Type 0
ReplyOfAnotherKeyIsNotTaken = answers_after graded crossed reply_of_another_key ≡ answers_after graded alone tiles

-- Two reads fail, the later item's before the earlier one's: the fault of the earlier item is answered.

abbrev pub two_faults : List Event
two_faults = four_calls ++ Again 0 ∷ Load 0 ∷ Land 0 true ∷ Again 3 ∷ SourceFault 3 (fault_at 5) ∷ Land 3 true ∷ Again 1 ∷ SourceFault 1
    (fault_at 8) ∷ Land 1 true
    ∷ Again 2 ∷ Load 2 ∷ Land 2 true ∷ []

abbrev pub FirstFaultIsAnswered : Type 0
FirstFaultIsAnswered = answers_after graded alone two_faults ≡ Some (Some (Failed (fault_at 8)) ∷ [])

-- Where faults are early, one counts as soon as it is certain.

abbrev pub early : Scene → Scene
early s = record s { faults_early = true }

-- gray, 3 by 1: three tiles of one place each
abbrev pub row : Picture
row = record { width = 3; height = 1; channels = 1; top = 255; samples = 7 ∷ 8 ∷ 9 ∷ [] }

abbrev pub three_tiles : Scene
three_tiles = showing p_name row 1

abbrev pub three_calls : List Event
three_calls = Want 0 p_name all ∷ Enter 0 ∷ Enter 1 ∷ Enter 2 ∷ Again 0 ∷ Again 1 ∷ Again 2 ∷ []

-- The first of three items is read, the second fails, and nothing comes of the third.
abbrev pub third_is_silent : List Event
third_is_silent = three_calls ++ Load 0 ∷ Land 0 true ∷ SourceFault 1 (fault_at 8) ∷ Land 1 true ∷ []

abbrev pub EarlyFaultIsAnswered : Type 0
EarlyFaultIsAnswered = answers_after (early three_tiles) alone third_is_silent ≡ Some (Some (Failed (fault_at 8)) ∷ [])

abbrev pub LateFaultWaits : Type 0
LateFaultWaits = answers_after three_tiles alone third_is_silent ≡ Some (None ∷ [])

-- The second fails before the first is read: it isn't certain yet that its fault is the first one.
abbrev pub first_is_silent : List Event
first_is_silent = three_calls ++ SourceFault 1 (fault_at 8) ∷ Land 1 true ∷ []

abbrev pub UncertainFaultWaits : Type 0
UncertainFaultWaits = answers_after (early three_tiles) alone first_is_silent ≡ Some (None ∷ [])

-- Then the first fails, too, and its fault is answered: the third is still silent.
abbrev pub FirstFaultIsCertain : Type 0
FirstFaultIsCertain = answers_after (early three_tiles) alone (first_is_silent ++ SourceFault 0 (fault_at 5) ∷ Land 0 true ∷ [])
    ≡ Some (Some (Failed (fault_at 5)) ∷ [])

-- What was answered so stays when the third comes to something.
abbrev pub EarlyAnswerStays : Type 0
EarlyAnswerStays = answers_after (early three_tiles) alone (third_is_silent ++ SourceFault 2 (fault_at 5) ∷ Land 2 true ∷ [])
    ≡ Some (Some (Failed (fault_at 8)) ∷ [])

-- Of a sum's four parts the first is made, the second fails, and nothing comes of the others.
abbrev pub parts_are_silent : List Event
parts_are_silent = Want 0 a_name halved ∷ Enter 0 ∷ Again 0 ∷ Load 0 ∷ Enter 1 ∷ Enter 2 ∷ Enter 3 ∷ Enter 4 ∷ Again 1 ∷ Load 1 ∷ Enter 5 ∷
    Again 2 ∷ Load 2 ∷ Enter 6 ∷ Again 5 ∷ Load 5 ∷ Land 5 true ∷ Load 1 ∷ Land 1 true ∷ Again 6 ∷ SourceFault 6 (fault_at 8)
    ∷ Land 6 true ∷ Load 2 ∷ Land 2 true ∷ []

abbrev pub EarlyPartsFail : Type 0
EarlyPartsFail = answers_after (early graded) alone (parts_are_silent ++ Load 0 ∷ Land 0 true ∷ [])
    ≡ Some (Some (Failed (fault_at 8)) ∷ [])

abbrev pub LatePartsWait : Type 0
LatePartsWait = answers_after graded alone (parts_are_silent ++ Load 0 ∷ []) ≡ None

-- Where all come to something, it is the same: an image, or the first fault.
abbrev pub EarlyHalvedIs : Type 0
EarlyHalvedIs = answers_after (early graded) alone sums ≡ answers_after graded alone sums

abbrev pub EarlyFirstFaultIsAnswered : Type 0
EarlyFirstFaultIsAnswered = answers_after (early graded) alone two_faults ≡ answers_after graded alone two_faults

-- Ten values of a peer land at a node's table: the tenth is kept, in hot, and none before it. An eviction takes what hot keeps, of
-- tiles and of sums.

abbrev pub seven_key : Key
seven_key = key.Tile (record { name = p_name; edge = 1; tx = 0; ty = 0 })

-- a flight for the key is led, and lands with a peer's value
abbrev pub with_peer_value : Table → Table
with_peer_value t = land (enter t seven_key Wide).1 seven_key Wide (t.book.leads + 1) (Ok (meaning tiny seven_key)) Peer true

abbrev pub nine_times : (Table → Table) → Table → Table
nine_times f t = f (f (f (f (f (f (f (f (f t))))))))

abbrev pub of_nine : Table
of_nine = nine_times with_peer_value (tables.empty_table 1000 8)

abbrev pub of_ten : Table
of_ten = with_peer_value of_nine

abbrev pub NineAreNotKept : Type 0
NineAreNotKept = of_nine.cache ≡ (tables.empty_table 1000 8).cache

abbrev pub in_hot : Table
in_hot = record (tables.empty_table 1000 8) {
  cache =
      record (tables.empty_table 1000 8).cache { hot = (seven_key, record { value = meaning tiny seven_key; ticket = 10 }) ∷ [] };
}

abbrev pub TenthIsKept : Type 0
TenthIsKept = of_ten.cache ≡ in_hot.cache

-- An eviction of another key leaves it in hot.
abbrev pub EvictionLeavesOthers : Type 0
EvictionLeavesOthers =
    (node_without (record (node_on 0 0) { tiles = in_hot })
    (key.Tile (record { name = p_name; edge = 1; tx = 1; ty = 0 }) ∷ [])).tiles.cache
    ≡ in_hot.cache

abbrev pub after_eviction : Node
after_eviction = node_without (record (node_on 0 0) { tiles = in_hot; sums = in_hot }) (seven_key ∷ [])

abbrev pub EvictedFromBoth : Type 0
EvictedFromBoth = (after_eviction.tiles.cache.hot ≡ []) × (after_eviction.sums.cache.hot ≡ [])
