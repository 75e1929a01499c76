use Rattle.std.proofs.Common.{ap}
use Rattle.iiif_keys.specs.Names.{Pictures}
use Rattle.iiif_witnesses.proofs.served.make_server.Goals as goal

pub new-requires-clause-names : goal.new-requires-clause-names
new-requires-clause-names g c =
    let local = c.requires.local in
    record {
      pictures = λ name. ap (λ (p : Pictures). p name) local.pictures;
      gave = local.gave;
      stable = λ name item found stable. ∣ tt ∣₁;
      kept = λ name item found kept. local.stable name;
      edge = local.edge;
    }

pub new-requires-clause-tiles : goal.new-requires-clause-tiles
new-requires-clause-tiles g c =
    let tiles = c.requires.local.tiles in
    c.in_ok-tiles.ensures g.J.System.tiles_name g.J.System.tiles_parts tiles.0 tiles.1 tiles.2

pub new-requires-clause-sums : goal.new-requires-clause-sums
new-requires-clause-sums g c =
    let sums = c.requires.local.sums in
    c.in_ok-sums.ensures g.J.System.sums_name g.J.System.sums_parts sums.0 sums.1 sums.2
