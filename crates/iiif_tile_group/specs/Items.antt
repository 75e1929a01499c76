-- The image that a catalogue's entry is.
use Rattle.iiif_tile_group.specs.Collection.{Item}
use Rattle.iiif_tile_group.specs.declared.entry.ImageEntry.{ImageEntry}

abbrev pub item_of : {R S : Type 0} {d : _} → ImageEntry R S d → Item S
item_of e = record { name = e.name; source = e.source; layout = e.layout }
