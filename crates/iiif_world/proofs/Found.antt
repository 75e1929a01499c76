-- What a call finds.
use Rattle.std.proofs.Common.{◌≡◌, ℕ, List, Some, ap, ◌∙◌}
use Rattle.std.specs.Prelude.{slice_get}
use Rattle.iiif_tables.specs.Cache.{Kept, kept_for}
use Rattle.iiif_tables.specs.Flights as tables
use Rattle.iiif_machine.specs.Keys.{key_eq, meaning}
use Rattle.iiif_machine.specs.declared.keys.Value.{Value}
use Rattle.iiif_machine.specs.Tables.{met, enter}
use Rattle.iiif_machine.specs.Rows.{Node}
use Rattle.iiif_machine.specs.Worlds.{World, table_at, with_state, with_stage}
use Rattle.iiif_machine.specs.Sound.{IsHonestWorld}
use Rattle.iiif_machine.specs.declared.rows.Caller.{Caller}
use Rattle.iiif_machine.specs.declared.rows.Call.{Call}
use Rattle.iiif_machine.specs.declared.rows.CallState.{CallState}
use Rattle.iiif_machine.specs.declared.rows.Flight.{Flight}
use Rattle.iiif_machine.specs.declared.rows.Stage.{Stage}
use Rattle.iiif_machine.specs.declared.rows.CallState.TheVariants.{Fresh, Hit}
use Rattle.iiif_machine.specs.declared.rows.Lead.{Lead}
use Rattle.iiif_machine.specs.declared.rows.Stage.TheVariants.{Ready, Ended}
use Rattle.iiif_machine.specs.Tables.{Outcome, Place}
use Rattle.iiif_machine.proofs.Nodes.{table_honest}
use Rattle.iiif_machine.proofs.Opened.{table_laws}
use Rattle.iiif_machine.proofs.Changes.{state_set, stage_set}
use Rattle.iiif_world.proofs.Changed.{set_same, set_twice}
use Rattle.iiif_world.proofs.Stepped.{entering, meets_kept}

pub found_meaning : (w : World) (who : Caller) (n : Node) (e : Kept Value) → IsHonestWorld w → slice_get w.nodes who.node ≡ Some n →
    kept_for key_eq who.key (table_at n who.key).cache ≡ Some e → e.value ≡ meaning w.scene who.key
unfolding enter
found_meaning w who n e h there kept =
    table_honest w.scene n who.key (h.nodes who.node n there) who.key e.value
    (table_laws.found (table_at n who.key) (entering n who).1 who.key who.class e.value
    (ap (λ (r : tables.Entered Value). (met r, (entering n who).1)) (meets_kept n who e kept)))

-- the world in which the call has found it
pub found_honest : (w : World) (c : ℕ) (who : Caller) (n : Node) (e : Kept Value) → IsHonestWorld w →
    slice_get w.calls c ≡ Some (record { caller = who; state = Fresh }) →
    slice_get w.nodes who.node ≡ Some n → kept_for key_eq who.key (table_at n who.key).cache ≡ Some e →
    IsHonestWorld (with_state w c who (Hit e.value))
found_honest w c who n e h at there kept = state_set w c who Fresh (Hit e.value) at h (found_meaning w who n e h there kept)

-- and that in which a flight that is ready has ended
pub ended_honest : (w : World) (f : ℕ) (l : Lead) (o : Outcome) (p : Place) → IsHonestWorld w →
    slice_get w.flights f ≡ Some (record { lead = l; stage = Ready o p }) →
    IsHonestWorld (with_stage w f l (Ended (Some o)))
ended_honest w f l o p h at = stage_set w f l (Ready o p) (Ended (Some o)) at h (h.flights f _ at).stage

-- a state, or a stage, that is put back
pub state_back : (w : World) (c : ℕ) (who : Caller) (s t : CallState) → slice_get w.calls c ≡ Some (record { caller = who; state = s }) →
    with_state (with_state w c who t) c who s ≡ w
state_back w c who s t at =
    ap (λ (cs : List Call). record w { calls = cs })
    (set_twice w.calls c (record { caller = who; state = t }) (record { caller = who; state = s }) ∙
    set_same w.calls c (record { caller = who; state = s }) at)

pub stage_back : (w : World) (f : ℕ) (l : Lead) (s t : Stage) → slice_get w.flights f ≡ Some (record { lead = l; stage = s }) →
    with_stage (with_stage w f l t) f l s ≡ w
stage_back w f l s t at =
    ap (λ (fs : List Flight). record w { flights = fs })
    (set_twice w.flights f (record { lead = l; stage = t }) (record { lead = l; stage = s }) ∙
    set_same w.flights f (record { lead = l; stage = s }) at)
