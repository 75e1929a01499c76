use Rattle.iiif_server.proofs.node.Node+R+S+J+NoLink+T.alone_by.Goals as goal

pub new-requires-clause-tiles : goal.new-requires-clause-tiles
new-requires-clause-tiles g c =
    c.in_ok-tiles.ensures.tiles g.J.System.tiles_name g.J.System.tiles_parts c.requires.tiles.0 c.requires.tiles.1 c.requires.tiles.2

pub new-requires-clause-sums : goal.new-requires-clause-sums
new-requires-clause-sums g c =
    c.in_ok-tiles.ensures.sums g.J.System.sums_name g.J.System.sums_parts c.requires.sums.0 c.requires.sums.1 c.requires.sums.2
