use Rattle.iiif_tile_group.specs.Items.{item_of}
use Rattle.iiif_answers.proofs.OutcomeLemmas.{item_picture}
use Rattle.iiif_answers.proofs.outcome.sides.Goals as goal

pub returns : goal.returns
returns g c =
    let found = item_picture g.S.Source.bytes g.S.Source.keeps (item_of c.args.entry.now) c.dim.result
    (record {
      one = c.shows_one_picture.ensures;
      small = c.len-len.ensures.bytes;
      accepted = c.args.entry.now.accepted;
      same =
          c.args.entry.now.shown;
    })
    c.dim.ensures.width c.dim.ensures.height in
    (found.0, found.1, found.2)
