-- What keys and requests of sound worlds come to.
use Rattle.std.proofs.Common.{◌≡◌, ℕ, ◌≤◌, ◌*◌, List, map, Option, Some, None, Result, Ok, Err, refl, sym, ap, subst, ◌∙◌, arith}
use Rattle.std.specs.Prelude.{slice_get}
use Rattle.std.proofs.lemmas.Option.{none-some, same_Some}
use Rattle.std.proofs.lemmas.Nat.{mul-le}
use Rattle.iiif_pixel.specs.Geometry.{channels_of, sides_of}
use Rattle.iiif_pixel.specs.Picture.{Picture, dim_of}
use Rattle.iiif_pixel.specs.declared.geometry.Dim.{Dim}
use Rattle.iiif_pixel.specs.declared.geometry.Kind.{Kind}
use Rattle.iiif_area.specs.Places.{IsScalable}
use Rattle.iiif_canonical.specs.Resolution.{IsResolved}
use Rattle.iiif_canonical.specs.Images as images
use Rattle.iiif_canonical.specs.declared.resolved.Limits.{Limits}
use Rattle.iiif_canonical.proofs.ResolutionLemmas.{resolved_of_ok}
use Rattle.iiif_keys.specs.Names.{IsSource}
use Rattle.iiif_keys.specs.Shapes.{kind_with}
use Rattle.iiif_keys.specs.Blocks.{HasParts, TileFitsIn, SumFitsIn}
use Rattle.iiif_keys.proofs.PartLaws.{fitting_has_parts}
use Rattle.iiif_keys.specs.declared.keys.TileKey.{TileKey}
use Rattle.iiif_keys.specs.declared.keys.SumKey.{SumKey}
use Rattle.iiif_keys.proofs.Shaped.{kind_with_its_channels}
use Rattle.iiif_machine.specs.Scenes.{Scene, IsProper}
use Rattle.iiif_machine.specs.Keys.{Fits, name_of, meaning}
use Rattle.iiif_machine.specs.Plans.{kind_of, resolved, items}
use Rattle.iiif_machine.specs.Images.{image, assembled}
use Rattle.iiif_machine.specs.declared.keys.Key.TheVariants as key
use Rattle.iiif_machine.proofs.Plans.{kind_is, image_from_resolved}
use Rattle.iiif_machine.proofs.Lists.{each_of_all}
use Rattle.iiif_machine.specs.Types.{Request, Resolved, ReadFault}
use Rattle.iiif_machine.specs.declared.keys.Key.{Key}
use Rattle.iiif_machine.specs.declared.keys.Value.{Value}
use Rattle.iiif_machine.specs.Tables.{Outcome}
use Rattle.iiif_machine.specs.declared.rows.RequestRow.{RequestRow}
use Rattle.iiif_machine.specs.declared.rows.Answer.TheVariants.{Image}
use Rattle.iiif_machine.specs.declared.rows.Progress.TheVariants.{Waiting}
use Rattle.iiif_machine.specs.Worlds.{World, decided, collected, answer_from}
use Rattle.iiif_machine.specs.Sound.{Each, IsHonestWorld, ProgressIsHonest, facts, AreOf}
use Rattle.iiif_machine.proofs.Learning.{gathered, AreGathered}
use Rattle.iiif_machine.proofs.Subjects.{subject_laws}
use Rattle.iiif_machine.proofs.Promised.{ok_same}
use Rattle.iiif_machine.specs.Heard.{heard_all, heard_from}
use Rattle.iiif_machine.specs.declared.hearing.Heard.{Heard}
use Rattle.iiif_machine.specs.declared.hearing.Heard.TheVariants as code
use Rattle.iiif_world.specs.Settling.{answer_at, answer_due, answer_with}

pub kind_same : (k : Kind) (p : Picture) → channels_of k ≡ p.channels → k ≡ kind_of p
kind_same k p e = sym (kind_with_its_channels k) ∙ ap kind_with e

-- what a key that fits is, of the picture of its name
pub tile_fits : (s : Scene) (k : TileKey) (p : Picture) → s.shows k.name ≡ Some p → Fits s (key.Tile k) → TileFitsIn (dim_of p) p.channels k
unfolding Fits
tile_fits s k p shown fits =
    let same : fits.picture ≡ p = same_Some fits.picture p (sym fits.known ∙ shown) in
    let f : TileFitsIn (dim_of p) (channels_of (kind_of p)) k =
    subst (λ (x : Picture). TileFitsIn (dim_of x) (channels_of (kind_of x)) k) same fits.fits in
    record { edge = f.edge; column = f.column; row = f.row }

pub tile_known : (s : Scene) (k : TileKey) → s.shows k.name ≡ None → Fits s (key.Tile k) → ⊥
unfolding Fits
tile_known s k none fits = none-some fits.picture (sym none ∙ fits.known)

pub sum_fits : (s : Scene) (k : SumKey) (p : Picture) → IsProper s → s.shows k.name ≡ Some p → Fits s (key.Sum k) →
    SumFitsIn (dim_of p) p.channels k
unfolding Fits
sum_fits s k p proper shown fits =
    let same : fits.picture ≡ p = same_Some fits.picture p (sym fits.known ∙ shown) in
    let f : SumFitsIn (dim_of p) (channels_of (kind_of p)) k =
    subst (λ (x : Picture). SumFitsIn (dim_of x) (channels_of (kind_of x)) k) same fits.fits in
    subst (λ n. SumFitsIn (dim_of p) n k) (sym (kind_is p (proper.sources k.name p shown).whole)) f

pub sum_known : (s : Scene) (k : SumKey) → s.shows k.name ≡ None → Fits s (key.Sum k) → ⊥
unfolding Fits
sum_known s k none fits = none-some fits.picture (sym none ∙ fits.known)

-- and has parts
pub has_parts : (s : Scene) (k : SumKey) → IsProper s → Fits s (key.Sum k) → HasParts k
unfolding Fits
has_parts s k proper fits =
    let source = proper.sources k.name fits.picture fits.known in
    let f : SumFitsIn (dim_of fits.picture) (channels_of (kind_of fits.picture)) k = fits.fits in
    fitting_has_parts (dim_of fits.picture) k (omega (arith, source.readable.width_most)) (omega (arith, source.readable.height_most))
    f.block

-- what a request comes to
pub resolves : (s : Scene) (p : Picture) (q : Request) (r : Resolved) → resolved s p q ≡ Ok r → IsResolved (dim_of p) (kind_of p) s.limits r
unfolding resolved
resolves s p q r h = resolved_of_ok q (dim_of p) (kind_of p) s.limits r h

pub scalable : (d : Dim) (k : Kind) (l : Limits) (r : Resolved) → IsResolved d k l r → d.w * d.h ≤ 4294967296 →
    IsScalable (sides_of r.rect) r.size
scalable d k l r is area =
    let inside = is.inside in
    let w : r.rect.w ≤ d.w = omega (arith, inside.columns) in
    let h : r.rect.h ≤ d.h = omega (arith, inside.rows) in
    record {
      columns = omega (arith, is.not_empty.0);
      rows = omega (arith, is.not_empty.1);
      area = omega (arith, mul-le r.rect.w r.rect.h d.w d.h w h, area);
      result_columns = omega (arith, is.not_zero.0);
      result_rows = omega (arith, is.not_zero.1);
    }

-- a request that waits, of a name with this picture
pub record IsReady (w : World) (q : RequestRow) (r : Resolved) (cs : List ℕ) (p : Picture) : Type 0 where
  pub source : IsSource p
  pub solved : IsResolved (dim_of p) (kind_of p) w.scene.limits r
  pub made : (os : List Outcome) (vs : List Value) → decided w cs ≡ Some os → collected os ≡ Ok vs →
      assembled w.scene p r vs ≡ images.resolved_image p r

pub values_are : (w : World) (node : ℕ) (name : List ℕ) (ks : List Key) (r : Result (List Value) ReadFault) (vs : List Value) → r ≡ Ok vs →
    AreGathered w.scene w.given node name ks r → vs ≡ map (meaning w.scene) ks
values_are w node name ks r vs is h = subst (AreGathered w.scene w.given node name ks) is h

pub is_ready : (w : World) (i : ℕ) (q : RequestRow) (r : Resolved) (cs : List ℕ) (p : Picture) → IsProper w.scene → IsHonestWorld w →
    slice_get w.requests i ≡ Some q →
    q.progress ≡ Waiting r cs → w.scene.shows q.info.name ≡ Some p → IsReady w q r cs p
is_ready w i q r cs p proper honest at waits shown =
    let s = w.scene in
    let h : ProgressIsHonest s (facts w) q.info (Waiting r cs) =
    subst (ProgressIsHonest s (facts w) q.info) waits (honest.requests i q at) in
    let same : h.0 ≡ p = same_Some h.0 p (sym h.1 ∙ shown) in
    let solved : resolved s p q.info.request ≡ Ok r = subst (λ (x : Picture). resolved s x q.info.request ≡ Ok r) same h.2 in
    let are : AreOf (facts w).callers q.info.node cs (items s q.info.name p r) =
    subst (λ (x : Picture). AreOf (facts w).callers q.info.node cs (items s q.info.name x r)) same h.3 in
    let laws = subject_laws s proper in
    let source = proper.sources q.info.name p shown in
    let ks = items s q.info.name p r in
    let named : Each (λ k. name_of k ≡ q.info.name) ks = each_of_all _ ks (laws.items_named q.info.name p q.info.request r shown solved) in
    record {
      source = source;
      solved = resolves s p q.info.request r solved;
      made = λ os vs known all.
          let g = gathered w q.info.node q.info.name cs ks os honest are named known in
          ap (assembled s p r) (values_are w q.info.node q.info.name ks (collected os) vs all g)
          ∙ ok_same (image s p q.info.request) _ _ (laws.assembled_is q.info.name p q.info.request r shown solved)
          (image_from_resolved s p q.info.request (kind_is p source.whole) ∙ ap (images.image_from p) solved);
    }

-- what was heard of several calls
from_value : (x : Result (List Value) ReadFault) → heard_from x ≡ code.Value → (vs : List Value) × (x ≡ Ok vs)
from_value (Ok vs) h = (vs, refl)
from_value (Err f) h = absurd cc

pub heard_value : (x : Option (List Outcome)) → heard_all x ≡ code.Value → (os : List Outcome) × (vs : List Value) × (x ≡ Some os) ×
    (collected os ≡ Ok vs)
heard_value None h = absurd cc
heard_value (Some os) h = let v = from_value (collected os) h in (os, v.0, refl, v.1)

from_fault : (x : Result (List Value) ReadFault) (f : ReadFault) → heard_from x ≡ code.Fault f → x ≡ Err f
from_fault (Ok vs) f h = absurd cc
from_fault (Err g) f h = cc

pub heard_fault : (x : Option (List Outcome)) (f : ReadFault) → heard_all x ≡ code.Fault f → (os : List Outcome) × (x ≡ Some os) ×
    (collected os ≡ Err f)
heard_fault None f h = absurd cc
heard_fault (Some os) f h = (os, refl, from_fault (collected os) f h)

none_from : (x : Result (List Value) ReadFault) → heard_from x ≡ code.Nothing → ⊥
none_from (Ok vs) h = cc
none_from (Err f) h = cc

pub heard_nothing : (x : Option (List Outcome)) → heard_all x ≡ code.Nothing → x ≡ None
heard_nothing None h = refl
heard_nothing (Some os) h = absurd (none_from (collected os) h)

-- the answer that is due
due_by : (w : World) (q : RequestRow) (r : Resolved) (cs : List ℕ) (p : Picture) (x : Option (List Outcome)) → q.progress ≡ Waiting r cs →
    w.scene.shows q.info.name ≡ Some p →
    decided w cs ≡ x → answer_due w q ≡ answer_with w r (Some p) x
due_by w q r cs p x waits shown known =
    ap (answer_at w q.info) waits ∙ ap (λ (y : Option Picture). answer_with w r y (decided w cs)) shown ∙
    ap (answer_with w r (Some p)) known

pub due_value : (w : World) (q : RequestRow) (r : Resolved) (cs : List ℕ) (p : Picture) (h : Heard) → IsReady w q r cs p →
    q.progress ≡ Waiting r cs →
    w.scene.shows q.info.name ≡ Some p → h ≡ heard_all (decided w cs) → h ≡ code.Value →
    answer_due w q ≡ Some (Image (images.resolved_image p r))
due_value w q r cs p h ready waits shown is value =
    let v = heard_value (decided w cs) (sym is ∙ value) in
    due_by w q r cs p (Some v.0) waits shown v.2 ∙ ap (λ (x : Result (List Value) ReadFault). Some (answer_from w.scene p r x)) v.3
    ∙ ap (λ (x : Picture). Some (Image x)) (ready.made v.0 v.1 v.2 v.3)
