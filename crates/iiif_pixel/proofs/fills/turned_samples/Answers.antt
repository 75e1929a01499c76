use Rattle.iiif_pixel.specs.RasterPicture.{raster_picture}
use Rattle.iiif_pixel.specs.declared.geometry.Depth.TheVariants.{Eight, Sixteen}
use Rattle.iiif_pixel.proofs.TurnLemmas.{turned_from_places}
use Rattle.iiif_pixel.proofs.fills.turned_samples.Goals as goal
use Rattle.iiif_pixel.proofs.fills.turned_samples.Goals.{in-Eight+in_ok-turned_items-in-Eight, in-Sixteen+in_ok-turned_items-in-Sixteen}

pub returns-clause-values : goal.returns-clause-values
returns-clause-values c = elim c.match-samples.branch [
  | in-Eight+in_ok-turned_items-in-Eight w ↦
      let p = raster_picture c.args.dim c.args.kind Eight w.in-Eight.items.items in
      let count = rw w.in-Eight.is at c.requires.count in
      let told = rw w.deref.ensures.value at w.in_ok-turned_items-in-Eight.ensures in
      rw (w.result-is, w.in-Eight.is) (turned_from_places p c.args.by.mirror c.args.by.quarters w.in_ok-turned_items-in-Eight.field-0.items
      c.requires.quarters count told.len (told.places 0))
  | in-Sixteen+in_ok-turned_items-in-Sixteen w ↦
      let p = raster_picture c.args.dim c.args.kind Sixteen w.in-Sixteen.items.items in
      let count = rw w.in-Sixteen.is at c.requires.count in
      let told = rw w.deref-in-Sixteen.ensures.value at w.in_ok-turned_items-in-Sixteen.ensures in
      rw (w.result-is, w.in-Sixteen.is) (turned_from_places p c.args.by.mirror c.args.by.quarters
      w.in_ok-turned_items-in-Sixteen.field-0.items c.requires.quarters count told.len (told.places 0))
]
