-- Words of private functions.
use Rattle.std.specs.Prelude.{◌≡◌, ℕ, ◌⊎◌, ◌++◌, ◌==◌, ◌||◌, Bool, true, false, not, List, Option, Result, Some, Ok, Err, IfSome}
use Rattle.iiif_io.specs.Devices.{Reads, Writes}
use Rattle.iiif_io.specs.Sending.{Sends}
use Rattle.httparse.specs.Grammar.{RequestHead}
use Rattle.iiif_http_front.specs.Reading.{Reading, input_of}
use Rattle.iiif_http_front.specs.RequestHeads.{BeginsWithCall}
use Rattle.iiif_http_front.specs.Methods.{method_text}
use Rattle.iiif_http_front.specs.declared.call.Call.{Call}
use Rattle.iiif_source.specs.declared.ReadFault.{ReadFault}
use Rattle.iiif_source.specs.declared.Source as source
use Rattle.iiif_pixel.specs.Picture.{Picture, dim_of}
use Rattle.iiif_pixel.specs.TurnPlaces.{turned_dim}
use Rattle.iiif_canonical.specs.Images.{resolved_image}
use Rattle.iiif_request.specs.declared.request.Request.{Request}
use Rattle.iiif_request.specs.declared.request.Refusal.TheVariants as refusal
use Rattle.iiif_keys.specs.Names.{named, IsSource, Pictures}
use Rattle.iiif_keys.specs.Shapes.{HasPicture}
use Rattle.iiif_keys.specs.declared.system.System as system
use Rattle.iiif_tile_group.specs.Collection.{Item, item_named}
use Rattle.iiif_tile_group.specs.Named.{gave_of, picture_in, pictures_of}
use Rattle.iiif_assemble.specs.Jobs.{IsJob}
use Rattle.iiif_assemble.specs.declared.job.Job.{Job}
use Rattle.iiif_answers.specs.Allowed.{Allowed}
use Rattle.iiif_answers.specs.Answers.{Reply, given, IsSentFor}
use Rattle.iiif_answers.specs.Calls.{RepliesToCall, part_of}
use Rattle.iiif_answers.specs.Outcomes.{given_of}
use Rattle.iiif_answers.specs.Responses.{Response, image_response, refusal_response, want_of_memory, written}
use Rattle.iiif_answers.specs.Settings.{Settings}
use Rattle.iiif_answers.specs.declared.accepted.Accepted.{Accepted}
use Rattle.iiif_answers.specs.declared.answer.Sent.{Sent}
use Rattle.iiif_answers.specs.declared.answer.Cut as cut
use Rattle.iiif_answers.specs.declared.part.Part.{Part}
use Rattle.iiif_answers.specs.Streams.{Terms, Stream, IsCame, IsClosing, call_limit, closes_after}
use Rattle.iiif_server.specs.Answering.{WriterFailed, terms_at}
use Rattle.iiif_server.specs.Nodes.{Service}

-- the answer to no call, or that to lack of memory, was sent before a connection closes
abbrev pub CloseFor : Type 0 → Response → List ℕ → Type 0
CloseFor writer r text = IsClosing writer r text ⊎ IsClosing writer want_of_memory text

-- The call of that method and target was sent a whole answer, after which another may follow where it doesn't close the
-- connection; or its answer was cut off, and none follows.
abbrev pub IsAnswered : {S : Type 0} → (S → List ℕ) → (S → Type 0) → Bool → (S → ReadFault → Bool) → Settings → List (Item S) → Type 0 →
    List ℕ → List ℕ → Bool → List ℕ
    → Bool → Type 0
IsAnswered bytes keeps honest gave s items writer method target close text more =
    (((sent : Sent) × Allowed s (part_of method close) gave (RepliesToCall bytes keeps honest s items method target) writer text (Ok sent))
    × (more ≡ not close))
    ⊎ (((c : cut.Cut) × Allowed s (part_of method close) gave (RepliesToCall bytes keeps honest s items method target) writer text (Err c))
    × (more ≡ false))

-- a call was answered after which the connection goes on with what is left
abbrev pub GoesOn : Terms → ℕ → List ℕ → Option (List ℕ) → List ℕ → Type 0
GoesOn t n input left text = (h : RequestHead) × (rest : List ℕ) × BeginsWithCall input h rest × (closes_after n h ≡ false) ×
    t.whole h false text
    × (left ≡ Some rest)

-- so it was; or the connection has ended, with what came of the input
abbrev pub Served : Terms → ℕ → List ℕ → Option (List ℕ) → List ℕ → Bool → Type 0
Served t n input left text true = GoesOn t n input left text
Served t n input left text false = (came : List ℕ) × IsCame t.reader input came × Stream t n came text

-- A job for what a request of an item comes to, on a node where names have these pictures, these faults of their sources, these that
-- are stable, and tiles this edge.
pub record IsJobFor {S : Type 0} (shows : Pictures) (gave : List ℕ → ReadFault → Bool) (stable : List ℕ → Type 0) (edge : ℕ)
    (bytes : S → List ℕ) (source_gave : S → ReadFault → Bool)
    (keeps : S → Type 0) (item : Item S) (a : Accepted) (j : Job) : Type 0 where
  pub job : IsJob j
  pub resolved : j.resolved ≡ a.resolved
  pub has_edge : j.edge ≡ edge
  pub known : HasPicture shows j.name j.shape
  pub source : IsSource (named shows j.name)
  pub picture : named shows j.name ≡ picture_in bytes item
  pub gave_is : (f : ReadFault) → gave j.name f ≡ source_gave item.source f
  pub kept : keeps item.source → stable j.name

-- What is reached where an item's image is sent for a request: an image for it, and nothing else.
abbrev pub ReachesImageOf : {S : Type 0} → Type 0 → Item S → Request → Accepted → Picture → Reply S → Type 0
ReachesImageOf kept item q a p r = (image : Picture) × IsSentFor kept (resolved_image p a.resolved) image ×
    (r ≡ given (given_of item q a p image))

-- a text was sent that is allowed with this result
abbrev pub SendsAllowed : {S W : Type 0} → Settings → Part → (S → ReadFault → Bool) → (Reply S → Type 0) → Writes W →
    Result Sent cut.Cut → Type 0
SendsAllowed s part gave reaches w result = (text : List ℕ) × Sends w text × Allowed s part gave reaches (WriterFailed w) text result

-- the head of the answer with an image of these sides, whatever its samples
abbrev pub IsHeadFor : Settings → Part → List ℕ → Accepted → List ℕ → Type 0
IsHeadFor s part name a head =
    (image : Picture) → dim_of image ≡ turned_dim a.resolved.turn a.resolved.size
    → head ≡ (written part (image_response s.base name a.canonical image a.kind)).head

-- the names of a node's images stand for what these show
pub record HasImages {S R J : Type 0} (names : system.Ghosts J) (sources : source.Ghosts S R) (node : Service S) (images : List (Item S)) :
    Type 0 where
  pub items : images ≡ node.items
  pub edge : node.settings.edge ≡ names.edge
  pub kept : (name : List ℕ) (item : Item S) → item_named node.items name ≡ Some item → sources.keeps item.source → names.stable name
  pub pictures : (name : List ℕ) → names.pictures name ≡ pictures_of sources.bytes images name
  pub gave : (name : List ℕ) (f : ReadFault) → names.gave name f ≡ gave_of sources.gave images name f
  pub stable : (name : List ℕ) (item : Item S) → item_named images name ≡ Some item → names.stable name → ∥ sources.keeps item.source ∥₁

-- an answer to no call, or a first part of it, was sent before a connection closes
abbrev pub Closes : {W : Type 0} → Writes W → Response → Type 0
Closes w r = (text : List ℕ) × Sends w text × IsClosing (WriterFailed w) r text

-- so was that to a head that is none, or that to lack of memory
abbrev pub ClosesForHead : {W : Type 0} → Writes W → Type 0
ClosesForHead w = (text : List ℕ) × Sends w text × CloseFor (WriterFailed w) (refusal_response refusal.Head) text

-- the n-th call of a connection, which closes it where it is the last that is answered
pub record IsNthCall (call : Call) (n : ℕ) (nth : Call) : Type 0 where
  pub method : nth.method ≡ call.method
  pub target : nth.target.items ≡ call.target.items
  pub close : nth.close ≡ (call.close || n == call_limit)

-- a text was sent by which a call is answered, and another may follow or none
abbrev pub EndsCall : {S R W : Type 0} → source.Ghosts S R → Bool → Service S → Call → Writes W → Bool → Type 0
EndsCall sources honest node call w more =
    (text : List ℕ) × Sends w text
    × IsAnswered sources.bytes sources.keeps honest sources.gave node.settings node.items (WriterFailed w)
    (method_text call.method) call.target.items call.close text more

-- The next call of a connection was answered, which is its n-th, or what ended it: of the bytes that its reader has left, where they are
-- known, and of those that came.
pub record ServesNext {S R I W : Type 0} (sources : source.Ghosts S R) (honest : Bool) (node : Service S) (n : ℕ)
    (r : Reads I (Reading I)) (w : Writes W) (more : Bool) : Type 0 where
  pub serves : IfSome (input_of r.remaining r.old) (λ input. (text : List ℕ) × Sends w text
      × Served (terms_at sources honest node r.fails w) n input (input_of r.remaining r.new) text more)
  pub came : (came : List ℕ) × (text : List ℕ) × Sends w text
      × Served (terms_at sources honest node r.fails w) n (r.old.unread ++ came) (Some r.new.unread) text more
