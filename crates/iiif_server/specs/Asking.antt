-- What is asked of an image, and what it comes to: words of private functions.
use Rattle.std.specs.Prelude.{◌≡◌, Bool, List, Result, Some, IsTrue}
use Rattle.iiif_io.specs.Devices.{Writes}
use Rattle.iiif_source.specs.declared.Source as source
use Rattle.iiif_pixel.specs.Picture.{Picture}
use Rattle.iiif_tiff_write.specs.OutKind.{out_kind_of}
use Rattle.iiif_request.specs.declared.request.Request.{Request}
use Rattle.iiif_keys.specs.declared.system.System as system
use Rattle.iiif_tile_group.specs.Collection.{item_named}
use Rattle.iiif_tile_group.specs.Items.{item_of}
use Rattle.iiif_tile_group.specs.declared.entry.ImageEntry.{ImageEntry}
use Rattle.iiif_assemble.specs.declared.job.Job.{Job}
use Rattle.iiif_answers.specs.Answers.{IsPictureOf}
use Rattle.iiif_answers.specs.Kinds.{depth_of, kind_of}
use Rattle.iiif_answers.specs.Outcomes.{IsReady}
use Rattle.iiif_answers.specs.declared.accepted.Accepted.{Accepted}
use Rattle.iiif_answers.specs.declared.answer.Sent.{Sent}
use Rattle.iiif_answers.specs.declared.answer.Cut as cut
use Rattle.iiif_server.specs.Code.{IsHeadFor, IsJobFor, ReachesImageOf, SendsAllowed}
use Rattle.iiif_server.specs.Nodes.{Service}
use Rattle.iiif_server.specs.declared.asking.Asked.{Asked}
use Rattle.iiif_server.specs.declared.asking.Planned.{Planned}

-- an entry is found among the node's images
abbrev pub IsFound : {R S : Type 0} {d : _} → Service S → ImageEntry R S d → Type 0
IsFound node entry = item_named node.items entry.name ≡ Some (item_of entry)

-- the image of which something is asked is one of the node's, and that was accepted
abbrev pub WasFound : {R S : Type 0} {d : _} → Service S → Asked R S d → Type 0
WasFound node asked = IsFound node asked.entry.now

abbrev pub WasAccepted : {R S : Type 0} {d : _} → Asked R S d → Type 0
WasAccepted asked = IsReady asked.entry.now.layout asked.accepted.now

-- a job for what a request of an entry comes to
abbrev pub IsJobOn : {S R J : Type 0} {d : _} → system.Ghosts J → source.Ghosts S R → ImageEntry R S d → Accepted → Job → Type 0
IsJobOn names sources entry a j =
    IsJobFor names.pictures names.gave names.stable names.edge sources.bytes sources.gave sources.keeps (item_of entry) a j

-- the job that is planned for what is asked, and the head
abbrev pub PlansJob : {S R J : Type 0} {d : _} → system.Ghosts J → source.Ghosts S R → Asked R S d → Planned → Type 0
PlansJob names sources asked planned = IsJobOn names sources asked.entry.now asked.accepted.now planned.job.now

abbrev pub PlansHead : {R S : Type 0} {d : _} → Service S → Asked R S d → Planned → Type 0
PlansHead node asked planned = IsHeadFor node.settings asked.part asked.entry.now.name asked.accepted.now planned.head.now

-- For what is asked of an image, which has a picture of the kind that was accepted, a text was sent that is allowed with this result.
abbrev pub SendsFor : {S R W : Type 0} {d : _} → source.Ghosts S R → Bool → Service S → Asked R S d → Writes W → Result Sent cut.Cut → Type 0
SendsFor sources honest node asked w result =
    (q : Request) (p : Picture) → IsPictureOf sources.bytes sources.keeps (item_of asked.entry.now) p
    → asked.accepted.now.kind ≡ out_kind_of (kind_of p) (depth_of p) q.quality
    → SendsAllowed node.settings asked.part sources.gave
    (ReachesImageOf (sources.keeps asked.entry.now.source × IsTrue honest) (item_of asked.entry.now) q asked.accepted.now p) w result
