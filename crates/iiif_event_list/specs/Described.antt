-- Worlds that are described.
use Rattle.std.specs.Prelude.{[], false, map}
use Rattle.iiif_keys.specs.Blocks.{IsEdge}
use Rattle.iiif_machine.specs.Sound.{Each}
use Rattle.iiif_canonical.specs.declared.resolved.Limits.{Limits}
use Rattle.iiif_machine.specs.Worlds.{World, new_world}
use Rattle.iiif_world.specs.Code.{scene_of}
use Rattle.iiif_world.specs.Starting.{AreSources, HasNodeName, IsRoom, NamesNodes, node_for}
use Rattle.iiif_event_list.specs.declared.describing.Description.{Description}
use Rattle.iiif_event_list.specs.Settings.{Settings, settings_of}

-- the world of which lines say this, in which nothing has happened
abbrev pub first_by : Settings → World
first_by s = new_world (scene_of s.items s.edge s.limits s.room s.faults_early) (map node_for s.setups)

-- the world that was described, in which nothing has happened
abbrev pub first_of : Description → World
first_of d = first_by (settings_of d)

-- A world can begin so: the edge and the room are such, each picture is one of a source, each name on a ring is a node's, and no node's
-- name is too long.
pub record CanBegin (d : Description) : Type 0 where
  pub edge : IsEdge d.edge
  pub room : IsRoom d.room
  pub pictures : AreSources d.items.items
  pub rings : Each (NamesNodes d.setups.items) d.setups.items
  pub names : Each HasNodeName d.setups.items

-- images of at most 4096 by 4096 that aren't scaled up
abbrev pub plain_limits : Limits
plain_limits = record { max_w = 4096; max_h = 4096; upscale = false }

-- where no line says anything: tiles of 256 places a side, a room of 65,536 sums for a plan, and faults that aren't early
abbrev pub plain_settings : Settings
plain_settings = record { edge = 256; limits = plain_limits; room = 65536; faults_early = false; items = []; setups = [] }

abbrev pub plain_world : World
plain_world = first_by plain_settings
