-- What a load comes to, from what a flight does next.
use Rattle.std.proofs.Common.{◌≡◌, ℕ, List, ◌++◌, map, length, Option, Some, None, Result, Ok, Err, sym, ap, ◌∙◌}
use Rattle.std.specs.Prelude.{slice_get}
use Rattle.std.proofs.lemmas.Option.{same_Some}
use Rattle.iiif_machine.specs.Keys.{meaning, parts_of, derived, name_of}
use Rattle.iiif_machine.specs.Scenes.{IsProper}
use Rattle.iiif_machine.specs.declared.keys.Key.TheVariants as key
use Rattle.iiif_machine.proofs.Lists.{each_of_all}
use Rattle.iiif_machine.specs.Types.{ReadFault}
use Rattle.iiif_machine.specs.declared.keys.Key.{Key}
use Rattle.iiif_machine.specs.declared.keys.Value.{Value}
use Rattle.iiif_machine.specs.Tables.{Main}
use Rattle.iiif_machine.specs.Rows.{Node}
use Rattle.iiif_machine.specs.Sound.{IsHonestWorld}
use Rattle.iiif_machine.specs.Steps.{after_begin, step}
use Rattle.iiif_machine.specs.Worlds.{World, decided, collected, outcome_from, call_for, fresh, numbers, with_stage}
use Rattle.iiif_machine.specs.declared.events.Event.TheVariants.{Load}
use Rattle.iiif_machine.specs.declared.rows.Call.{Call}
use Rattle.iiif_machine.specs.declared.rows.Lead.{Lead}
use Rattle.iiif_machine.specs.declared.rows.Flight.{Flight}
use Rattle.iiif_keys.specs.declared.keys.SumKey.{SumKey}
use Rattle.iiif_tables.specs.declared.table.Class.TheVariants.{Local}
use Rattle.iiif_machine.specs.declared.rows.Purpose.TheVariants.{ForPart}
use Rattle.iiif_machine.specs.declared.rows.Stage.{Stage}
use Rattle.iiif_machine.specs.declared.rows.Stage.TheVariants.{Looked, Parts, Ready}
use Rattle.iiif_machine.proofs.Learning.{gathered}
use Rattle.iiif_machine.proofs.Subjects.{subject_laws}
use Rattle.iiif_machine.specs.Heard.{heard_all}
use Rattle.iiif_world.specs.Loads.{IsLocalAt}
use Rattle.iiif_machine.specs.declared.hearing.Heard.TheVariants as code
use Rattle.iiif_world.proofs.Meant.{heard_value, heard_fault, heard_nothing, values_are}
use Rattle.iiif_world.proofs.Stepped.{begin_is, merge_is, merge_none}

-- a tile is read
pub read_done : (w v : World) (f : ℕ) (x : Value) (a : IsLocalAt w f Looked) → parts_of a.lead.key ≡ None → x ≡ meaning w.scene a.lead.key →
    v ≡ with_stage w f a.lead (Ready (Ok x) Main) → step w (Load f) ≡ Some v
read_done w v f x a none is hv =
    begin_is w f a.lead a.node a.own a.flight a.there
    ∙ ap (λ (ks : Option (List Key)). Some (after_begin w f a.lead a.node ks)) none
    ∙ ap (λ (z : World). Some z) (sym (hv ∙ ap (λ (y : Value). with_stage w f a.lead (Ready (Ok y) Main)) is))

-- the parts of a sum are asked
pub split_done : (w m v : World) (f : ℕ) (ks : List Key) (cs : List Call) (ns : List ℕ) (a : IsLocalAt w f Looked) →
    parts_of a.lead.key ≡ Some ks →
    cs ≡ map fresh (map (call_for a.lead.node a.node (ForPart f)) ks) → ns ≡ numbers (length w.calls) ks →
    m ≡ record w { calls = w.calls ++ cs } →
    v ≡ with_stage m f a.lead (Parts ns) → step w (Load f) ≡ Some v
split_done w m v f ks cs ns a some hc hn hm hv =
    begin_is w f a.lead a.node a.own a.flight a.there
    ∙ ap (λ (x : Option (List Key)). Some (after_begin w f a.lead a.node x)) some
    ∙ ap (λ (z : World). Some z)
    (sym (hv ∙ ap (λ (z : World). with_stage z f a.lead (Parts ns)) hm
    ∙ ap (λ (x : List Call). with_stage (record w { calls = w.calls ++ x }) f a.lead (Parts ns)) hc
    ∙ ap (λ (x : List ℕ). with_stage (record w { calls = w.calls ++ map fresh (map (call_for a.lead.node a.node (ForPart f)) ks) }) f a.lead
    (Parts x)) hn))

pub merge_done : (w v : World) (f : ℕ) (x : Value) (cs : List ℕ) (a : IsLocalAt w f (Parts cs)) → IsProper w.scene → IsHonestWorld w →
    code.Value ≡ heard_all (decided w cs) → x ≡ meaning w.scene a.lead.key → v ≡ with_stage w f a.lead (Ready (Ok x) Main) →
    step w (Load f) ≡ Some v
merge_done w v f x cs a proper honest heard is hv =
    let s = w.scene in
    let l = a.lead in
    let k = heard_value (decided w cs) (sym heard) in
    let row = honest.flights f _ a.flight in
    let parts = row.stage in
    let laws = subject_laws s proper in
    let named = each_of_all _ parts.0 (laws.parts_named l.key parts.0 parts.1) in
    let g = gathered w l.node (name_of l.key) cs parts.0 k.0 honest parts.2 named k.2 in
    let values = values_are w l.node (name_of l.key) parts.0 (collected k.0) k.1 k.3 g in
    let made : derived s l.key k.1 ≡ meaning s l.key = ap (derived s l.key) values ∙ laws.derived_is l.key parts.0 parts.1 row.fits in
    merge_is w f l a.node cs k.0 a.own a.flight a.there k.2
    ∙ ap (λ (r : Result (List Value) ReadFault). Some (with_stage w f l (Ready (outcome_from s l.key r) Main))) k.3
    ∙ ap (λ (y : Value). Some (with_stage w f l (Ready (Ok y) Main))) (made ∙ sym is)
    ∙ ap (λ (z : World). Some z) (sym hv)

-- or have a fault
pub fail_done : (w v : World) (f : ℕ) (e : ReadFault) (cs : List ℕ) (a : IsLocalAt w f (Parts cs)) →
    code.Fault e ≡ heard_all (decided w cs) →
    v ≡ with_stage w f a.lead (Ready (Err e) Main) → step w (Load f) ≡ Some v
fail_done w v f e cs a heard hv =
    let k = heard_fault (decided w cs) e (sym heard) in
    merge_is w f a.lead a.node cs k.0 a.own a.flight a.there k.1
    ∙ ap (λ (r : Result (List Value) ReadFault). Some (with_stage w f a.lead (Ready (outcome_from w.scene a.lead.key r) Main))) k.2
    ∙ ap (λ (z : World). Some z) (sym hv)

pub wait_done : (w : World) (f : ℕ) (cs : List ℕ) (a : IsLocalAt w f (Parts cs)) → code.Nothing ≡ heard_all (decided w cs) →
    step w (Load f) ≡ None
wait_done w f cs a heard = merge_none w f a.lead a.node cs a.own a.flight a.there (heard_nothing (decided w cs) (sym heard))

-- a local flight, of the row that stands there
abbrev pub local_at : (w : World) (f : ℕ) (x : Flight) (n : Node) (s : Stage) → slice_get w.flights f ≡ Some x →
    slice_get w.nodes x.lead.node ≡ Some n → x.lead.class ≡ Local →
    x.stage ≡ s → IsLocalAt w f s
local_at w f x n s at there own is = record {
  lead = x.lead;
  node = n;
  flight = at ∙ ap (λ (z : Stage). Some (record { lead = x.lead; stage = z })) is;
  there = there;
  own = own;
}

-- the calls and numbers of the parts
pub calls_done : (w : World) (f : ℕ) (x : Flight) (n : Node) (k : SumKey) (ks : List Key) (cs : List Call) (ns : List ℕ)
    (a : IsLocalAt w f Looked) →
    x ≡ record { lead = a.lead; stage = Looked } → x.lead.key ≡ key.Sum k → slice_get w.nodes x.lead.node ≡ Some n →
    parts_of (key.Sum k) ≡ Some ks →
    cs ≡ map fresh (map (call_for x.lead.node n (ForPart f)) ks) → ns ≡ numbers (length w.calls) ks →
    (keys : List Key) × (parts_of a.lead.key ≡ Some keys) × (cs ≡ map fresh (map (call_for a.lead.node a.node (ForPart f)) keys)) ×
    (ns ≡ numbers (length w.calls) keys)
calls_done w f x n k ks cs ns a is sum there parts hc hn =
    let same : x.lead ≡ a.lead = ap (λ (z : Flight). z.lead) is in
    let place : slice_get w.nodes a.lead.node ≡ Some n = ap (λ (l : Lead). slice_get w.nodes l.node) (sym same) ∙ there in
    let node : n ≡ a.node = same_Some n a.node (sym place ∙ a.there) in (
      ks,
      ap (λ (l : Lead). parts_of l.key) (sym same) ∙ ap parts_of sum ∙ parts,
      hc ∙ ap (λ (l : Lead). map fresh (map (call_for l.node n (ForPart f)) ks)) same ∙
          ap (λ (m : Node). map fresh (map (call_for a.lead.node m (ForPart f)) ks)) node,
      hn,
    )
