use Rattle.std.proofs.Common.{◌∙◌, ap}
use Rattle.iiif_image_list.specs.Lists.{has_name}
use Rattle.iiif_image_list.proofs.ListLemmas.{named_there}
use Rattle.iiif_image_list.proofs.list.ImageList.has.Goals as goal

pub returns : goal.returns
returns c = c.contains_key.ensures ∙ (named_there c.self.inside.files.entries c.args.name.now ∙
    ap (λ images. has_name images c.args.name.now) c.self.view_is)
