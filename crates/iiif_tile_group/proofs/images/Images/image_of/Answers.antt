use Rattle.std.proofs.Common.{rules, ◌≡◌, ◌∙◌, ℕ, List, Some, sym, subst}
use Rattle.iiif_tile_group.specs.Collection.{item_named}
use Rattle.iiif_tile_group.specs.Items.{item_of}
use Rattle.iiif_tile_group.specs.Named.{picture_in}
use Rattle.iiif_tile_group.proofs.NamedLemmas.{has_picture, image_there, named_source}
use Rattle.iiif_tile_group.proofs.images.Images.image_of.Goals as goal

pub returns : goal.returns
returns g c =
    let item = item_of c.in-Some.entry.now in
    let name = g.K.CacheKey.name_of c.args.key.now in
    let items = c.args.self.now.catalogue in
    let shows = g.J.System.pictures in
    let p = picture_in g.S.Source.bytes item in
    let found = subst (λ (n : List ℕ). item_named items n ≡ Some item) (c.as_str.ensures.text ∙ c.name.ensures.value)
    (sym c.in-Some.ensures) in
    let there = image_there shows g.J.System.gave g.J.System.stable g.S.Source.bytes g.S.Source.gave g.S.Source.keeps items name item
    (c.args.self.now.pictures name) (c.args.self.now.gave name) (c.args.self.now.stable name) c.shape-shape.ensures.source found in
    record {
      image = record { picture = there.picture; source = there.source; gave_is = there.gave_is; kept = there.kept };
      shape = c.shape-shape.ensures.shape;
      known = has_picture shows name p c.shape-shape.result there.picture c.shape-shape.ensures.shape;
      source = named_source shows name p there.picture there.source;
      fits = search rules;
      names = search rules;
      refused = tt;
    }
