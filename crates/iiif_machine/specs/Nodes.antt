-- How the lists of the code are a table and a node.
use Rattle.std.specs.Prelude.{length}
use Rattle.iiif_tables.specs.Flights as tables
use Rattle.iiif_machine.specs.declared.keys.Value.{Value}
use Rattle.iiif_machine.specs.Tables.{Table}
use Rattle.iiif_machine.specs.Rows.{Node}
use Rattle.iiif_machine.specs.declared.table.PlainTable.{PlainTable}
use Rattle.iiif_machine.specs.declared.node.Node as code_node
use Rattle.iiif_machine.specs.declared.table.Entered.{Entered}
use Rattle.iiif_machine.specs.declared.table.Entered.TheVariants as code_entered
use Rattle.iiif_machine.specs.Entries.{cache_of, kept_of}
use Rattle.iiif_machine.specs.Open.{flight_in}

abbrev pub table_of : PlainTable → Table
table_of t = record { cache = cache_of t.cache; flights = flight_in t.flights.items; in_flight = length t.flights.items; book = t.book }

abbrev pub entered_of : Entered → tables.Entered Value
entered_of (code_entered.Hit f) = tables.hit (kept_of f)
entered_of (code_entered.Joined n) = tables.joined n
entered_of (code_entered.Led n) = tables.led n

abbrev pub node_of : code_node.Node → Node
node_of n = record { name = n.name; ring = n.ring; version = n.version; tiles = table_of n.tiles; sums = table_of n.sums }
