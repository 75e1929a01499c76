-- Jobs of items, and the faults of their loads.
use Rattle.std.proofs.Common.{◌≡◌, ℕ, ◌⊎◌, Bool, List, All, Some, Result, Ok, Err, sym, ap, subst, ◌∙◌, inl, inr}
use Rattle.std.specs.Prelude.{unwrap_or, IfOk, IsTrue}
use Rattle.iiif_source.specs.declared.ReadFault.{ReadFault}
use Rattle.iiif_keys.specs.declared.fault.Fault.{Fault}
use Rattle.iiif_keys.specs.declared.fault.Fault.TheVariants as fault
use Rattle.iiif_keys.specs.declared.keys.SumKey.{SumKey}
use Rattle.iiif_keys.specs.declared.keys.TileKey.{TileKey}
use Rattle.iiif_keys.specs.declared.values.SumVal.{SumVal}
use Rattle.iiif_keys.specs.declared.values.TileVal.{TileVal}
use Rattle.iiif_outcome.specs.Outcomes.{is_given}
use Rattle.iiif_tile_group.specs.Collection.{Item, item_named}
use Rattle.iiif_pixel.specs.declared.geometry.Dim.{Dim}
use Rattle.iiif_canonical.specs.declared.resolved.Resolved.{Resolved}
use Rattle.iiif_planner.specs.Plans.{IsPlan}
use Rattle.iiif_planner.specs.declared.plans.Plan.{Plan}
use Rattle.iiif_planner.specs.declared.plans.Plan.TheVariants.{Copy, Grow, Sum}
use Rattle.iiif_pixel.specs.Geometry.{channels_of, top_of}
use Rattle.iiif_tiff.specs.Tiff.{white_of}
use Rattle.iiif_keys.specs.Names.{no_picture, IsSource, Pictures}
use Rattle.iiif_keys.specs.Shapes.{shape_of}
use Rattle.iiif_keys.specs.declared.keys.Shape.{Shape}
use Rattle.iiif_keys.proofs.Shaped.{depth_with_top, kind_with_channels}
use Rattle.iiif_tile_group.specs.Named.{gave_of, picture_in, pictures_of}
use Rattle.iiif_tile_group.proofs.NamedLemmas.{image_there, has_picture, named_source}
use Rattle.iiif_assemble.specs.Jobs.{IsJob}
use Rattle.iiif_assemble.specs.declared.job.Job.{Job}
use Rattle.iiif_server.specs.Code.{IsJobFor}
use Rattle.iiif_answers.specs.declared.accepted.Accepted.{Accepted}
use Rattle.iiif_assemble.specs.Faults.{IsBandFault}
use Rattle.iiif_assemble.specs.Gathering.{IsItemFault}

-- ---- Faults

-- a fault of an item is one that its name's source gave
item_given : {K V : Type 0} (name_of : K → List ℕ) (gave : List ℕ → ReadFault → Bool) (name : List ℕ) (means : K → V → Type 0)
    (keys : List K) (items : List ℕ) (f : Fault) →
    All (λ k. name_of k ≡ name) keys → IsItemFault means (λ k g. IsTrue (is_given (gave (name_of k)) g)) keys items f →
    (f ≡ fault.NoMemory) ⊎ IsTrue (is_given (gave name) f)
item_given name_of gave name means keys items f each (inl none) = inl none
item_given {K} name_of gave name means keys items f each (inr first) =
    let at = first.fault_of in
    let here : name_of at.0 ≡ name = subst (λ (k : K). name_of k ≡ name) at.2 (each first.item at.0 at.1) in
    inr (subst (λ (n : List ℕ). IsTrue (is_given (gave n) f)) here at.3)

-- and so is a band's
pub band_given : (gave : List ℕ → ReadFault → Bool) (name : List ℕ) (edge : ℕ) (image : Dim) (channels room : ℕ) (r : Resolved)
    (plan : Plan)
    (tile_means : TileKey → TileVal → Type 0) (sum_means : SumKey → SumVal → Type 0) (items : List ℕ) (f : Fault) →
    IsPlan name edge image channels room r plan →
    IsBandFault tile_means (λ k g. IsTrue (is_given (gave k.name) g)) sum_means (λ k g. IsTrue (is_given (gave k.name) g)) plan items f →
    (f ≡ fault.NoMemory) ⊎ IsTrue (is_given (gave name) f)
band_given gave name edge image channels room r (Copy keys) tile_means sum_means items f is_plan of_band =
    item_given (λ k. k.name) gave name tile_means keys.items items f (λ i d l. (is_plan.1.tiles i d l).named) of_band
band_given gave name edge image channels room r (Grow keys) tile_means sum_means items f is_plan of_band =
    item_given (λ k. k.name) gave name tile_means keys.items items f (λ i d l. (is_plan.1.tiles i d l).named) of_band
band_given gave name edge image channels room r (Sum keys) tile_means sum_means items f is_plan of_band =
    item_given (λ k. k.name) gave name sum_means keys.items items f (λ i d l. (is_plan.3.blocks i d l).named) of_band

-- ---- Jobs

-- the channels of an item's picture are those of its layout, and so is its depth
pub item_channels : {S : Type 0} (bytes : S → List ℕ) (item : Item S) (s : Shape) → IsSource (picture_in bytes item) →
    shape_of (picture_in bytes item) ≡ s →
    channels_of s.kind ≡ item.layout.channels
unfolding picture_in
item_channels bytes item s source e =
    sym (ap (λ (t : Shape). channels_of t.kind) e) ∙ kind_with_channels (picture_in bytes item).channels source.whole.channels

pub item_top : {S : Type 0} (bytes : S → List ℕ) (item : Item S) (s : Shape) → IsSource (picture_in bytes item) →
    shape_of (picture_in bytes item) ≡ s →
    top_of s.depth ≡ white_of item.layout.bits
unfolding picture_in
item_top bytes item s source e = sym (ap (λ (t : Shape). top_of t.depth) e) ∙ depth_with_top (picture_in bytes item).top source.whole.top

-- a job of a request of an item that is found
pub job_for : {S E : Type 0} (shows : Pictures) (gave : List ℕ → ReadFault → Bool) (stable : List ℕ → Type 0) (edge : ℕ)
    (bytes : S → List ℕ) (source_gave : S → ReadFault → Bool)
    (keeps : S → Type 0) (items : List (Item S)) (item : Item S) (a : Accepted) (own : ℕ) (r : Result Job E) →
    ((name : List ℕ) → shows name ≡ pictures_of bytes items name) →
    ((name : List ℕ) (f : ReadFault) → gave name f ≡ gave_of source_gave items name f) →
    ((name : List ℕ) (i : Item S) → item_named items name ≡ Some i → stable name → ∥ keeps i.source ∥₁) →
    item_named items item.name ≡ Some item →
    (keeps item.source → stable item.name) → own ≡ edge → IsSource (picture_in bytes item) → IfOk r IsJob →
    IfOk r (λ j. j.name ≡ item.name) → IfOk r (λ j. j.edge ≡ own) →
    IfOk r (λ j. j.resolved ≡ a.resolved) → IfOk r (λ j. shape_of (picture_in bytes item) ≡ j.shape) →
    IfOk r (IsJobFor shows gave stable edge bytes source_gave keeps item a)
job_for shows gave stable edge bytes source_gave keeps items item a own (Err e) pictures gives kept found keep is source job name has
    resolved shape = job
job_for shows gave stable edge bytes source_gave keeps items item a own (Ok j) pictures gives kept found keep is source job name has
    resolved shape =
    let there = image_there shows gave stable bytes source_gave keeps items item.name item (pictures item.name) (gives item.name)
    (kept item.name) source found in
    let known : shows j.name ≡ Some (picture_in bytes item) = ap shows name ∙ there.picture in
    record {
      job = job;
      resolved = resolved;
      has_edge = has ∙ is;
      known = has_picture shows j.name (picture_in bytes item) j.shape known shape;
      source = named_source shows j.name (picture_in bytes item) known source;
      picture = ap (λ o. unwrap_or o no_picture) known;
      gave_is = λ f. ap (λ n. gave n f) name ∙ there.gave_is f;
      kept = λ k. subst stable (sym name) (keep k);
    }
