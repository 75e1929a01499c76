use Rattle.iiif_tile_group.specs.Items.{item_of}
use Rattle.iiif_answers.proofs.OutcomeLemmas.{picture_same}
use Rattle.iiif_answers.proofs.images.picture_is_shown.Goals as goal

pub returns : goal.returns
returns g c p kept is =
    picture_same g.S.Source.bytes g.S.Source.keeps (item_of c.args.entry.now)
    (record {
      one = c.shows_one_picture.ensures;
      small = c.len-len.ensures.bytes;
      accepted = c.args.entry.now.accepted;
      same =
          c.args.entry.now.shown;
    }) p kept is
