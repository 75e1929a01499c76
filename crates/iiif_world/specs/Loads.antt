-- What a local flight does next.
use Rattle.std.specs.Prelude.{◌≡◌, ℕ, List, None, Some, slice_get}
use Rattle.iiif_machine.specs.Keys.{parts_of}
use Rattle.iiif_machine.specs.declared.keys.Key.TheVariants as key
use Rattle.iiif_keys.specs.declared.keys.SumKey.{SumKey}
use Rattle.iiif_tables.specs.declared.table.Class.TheVariants.{Local}
use Rattle.iiif_machine.specs.Rows.{Node}
use Rattle.iiif_machine.specs.Steps.{step}
use Rattle.iiif_machine.specs.Worlds.{World, decided}
use Rattle.iiif_machine.specs.declared.events.Event.TheVariants.{Load}
use Rattle.iiif_machine.specs.declared.rows.Lead.{Lead}
use Rattle.iiif_machine.specs.declared.rows.Stage.{Stage}
use Rattle.iiif_machine.specs.declared.rows.Stage.TheVariants.{Looked, Parts}
use Rattle.iiif_machine.specs.Heard.{heard_all}
use Rattle.iiif_world.specs.declared.loading.Loading.{Loading}
use Rattle.iiif_world.specs.declared.loading.Loading.TheVariants as loading

-- a local flight has this lead, whose node is this one, and is at this stage
pub record IsLocalAt (w : World) (f : ℕ) (s : Stage) : Type 0 where
  pub lead : Lead
  pub node : Node
  pub flight : slice_get w.flights f ≡ Some (record { lead = lead; stage = s })
  pub there : slice_get w.nodes lead.node ≡ Some node
  pub own : lead.class ≡ Local

abbrev pub IsLoading : World → ℕ → Loading → Type 0
IsLoading w f loading.Refused = step w (Load f) ≡ None
IsLoading w f loading.Read = (a : IsLocalAt w f Looked) × (parts_of a.lead.key ≡ None)
IsLoading w f loading.Split = (a : IsLocalAt w f Looked) × (k : SumKey) × (a.lead.key ≡ key.Sum k)
IsLoading w f (loading.Merge heard) = (cs : List ℕ) × IsLocalAt w f (Parts cs) × (heard ≡ heard_all (decided w cs))
