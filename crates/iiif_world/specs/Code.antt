-- How the lists of the code are a scene and a world.
use Rattle.std.specs.Prelude.{ℕ, Bool, List, [], ◌∷◌, Some, None, map, if◌then◌else◌}
use Rattle.std.specs.Str.{bytes_eq}
use Rattle.iiif_keys.specs.Names.{Pictures}
use Rattle.iiif_canonical.specs.declared.resolved.Limits.{Limits}
use Rattle.iiif_machine.specs.Scenes.{Scene, IsProper}
use Rattle.iiif_machine.specs.Worlds.{World}
use Rattle.iiif_machine.specs.Sound.{IsSound}
use Rattle.iiif_machine.specs.Nodes.{node_of}
use Rattle.iiif_world.specs.declared.contents.Item.{Item}
use Rattle.iiif_world.specs.declared.contents.Contents.{Contents}

-- the item has the name
abbrev pub has_name : List ℕ → Item → Bool
has_name name i = bytes_eq i.name name

-- the picture of the first item with the name
abbrev pub shown_in : List Item → Pictures
shown_in [] name = None
shown_in (i ∷ is) name = if bytes_eq i.name name then Some i.picture else shown_in is name

abbrev pub scene_of : List Item → ℕ → Limits → ℕ → Bool → Scene
scene_of items edge limits room early =
    record { shows = shown_in items; edge = edge; limits = limits; room = room; faults_early = early }

-- the world that the code's lists are
abbrev pub world_of : Contents → World
world_of w = record {
  scene = scene_of w.catalogue.items w.edge w.limits w.room w.faults_early;
  nodes = map node_of w.nodes.items;
  given = w.given.items;
  requests = w.requests.items;
  calls = w.calls.items;
  flights = w.flights.items;
  asks = w.asks.items;
  replies = w.replies.items;
}

-- its pictures and numbers are proper, and it is sound: so is each world that a new one came to
pub record IsSoundWorld (w : World) : Type 0 where
  pub proper : IsProper w.scene
  pub sound : IsSound w
