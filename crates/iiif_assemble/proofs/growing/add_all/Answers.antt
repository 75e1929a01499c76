use Rattle.std.proofs.Common.{◌≡◌, ◌∙◌, ℕ, ap, get_or, sym, arith}
use Rattle.std.specs.Arc.{arc_value}
use Rattle.std.proofs.lemmas.List.{get_or_default}
use Rattle.iiif_pixel.specs.Operations.{crop}
use Rattle.iiif_area.specs.Grid.{Grid, merged}
use Rattle.iiif_keys.specs.Blocks.{tile_of}
use Rattle.iiif_keys.specs.Meaning.{TileHasShape}
use Rattle.iiif_keys.specs.declared.keys.TileKey.{TileKey}
use Rattle.iiif_keys.proofs.Merging.{merged_all, merged_more}
use Rattle.iiif_assemble.specs.Code.{tile_adds, tile_in}
use Rattle.iiif_assemble.proofs.ZipLemmas.{value_at, values_len}
use Rattle.iiif_assemble.proofs.growing.add_all.Goals as goal

pub bounds-values-n : goal.bounds-values-n
bounds-values-n c =
    let same = values_len arc_value (λ k v. TileHasShape c.args.shape.now k v) c.args.keys.now c.args.items.now c.args.values.now
    c.requires.shaped in
    omega (arith, same, c.loop-n-test.true)

pub add-requires-clause-shaped : goal.add-requires-clause-shaped
add-requires-clause-shaped c =
    value_at arc_value (λ k v. TileHasShape c.args.shape.now k v) c.args.keys.now c.args.items.now c.args.values.now c.loop-n.n
    c.index-keys-items.result c.index-values-n.result c.requires.shaped c.loop-n-test.true (sym c.index-keys-items.is)
    (sym c.index-values-n.is)

pub loop-n-preserved : goal.loop-n-preserved
loop-n-preserved c =
    let image = c.args.shape.now.dim in
    let region = c.args.resolved.now.rect in
    let size = c.args.resolved.now.size in
    let keys = c.args.keys.now in
    let items = c.args.items.now in
    let n = c.loop-n.n in
    let k = c.index-keys-items.result in
    let i = get_or items n 0 in
    record {
      rect = c.add.ensures.rect ∙ c.loop-n.invariant.rect;
      channels = c.add.ensures.channels ∙ c.loop-n.invariant.channels;
      sums = λ p x meant.
          let adds : ℕ → Grid = λ j. tile_adds p image region size (get_or keys j x) in
          let is : k ≡ get_or keys i x = c.index-keys-items.is ∙ get_or_default keys i k x (c.requires.within n 0 c.loop-n-test.true) in
          let of_value = value_at arc_value (λ q v. tile_in v ≡ crop p (tile_of image q)) keys items c.args.values.now n k
          c.index-values-n.result meant c.loop-n-test.true
          (sym c.index-keys-items.is) (sym c.index-values-n.is) in
          let made = c.add.ensures.sums p of_value ∙ ap (λ (q : TileKey). merged c.loop-n.total (tile_adds p image region size q)) is in
          merged_more adds items n i c.args.total.now c.loop-n.total c.add.new.total c.loop-n-test.true
          (get_or_default items n i 0 c.loop-n-test.true) (c.loop-n.invariant.sums p x meant) made;
    }

pub returns-clause-sums : goal.returns-clause-sums
returns-clause-sums c p x meant =
    merged_all (λ i. tile_adds p c.args.shape.now.dim c.args.resolved.now.rect c.args.resolved.now.size (get_or c.args.keys.now i x))
    c.args.items.now c.loop-n.n
    c.args.total.now c.loop-n.total (omega arith)
    (c.loop-n.invariant.sums p x meant)
