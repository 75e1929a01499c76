use Rattle.std.proofs.Common.{◌≡◌, ◌∙◌, ℕ, List, get_or, map, take, sym, subst, arith}
use Rattle.std.specs.Arc.{arc_value}
use Rattle.std.proofs.lemmas.List.{get_or_default, take_more, take_all}
use Rattle.iiif_pixel.specs.Picture.{sample_at}
use Rattle.iiif_pixel.specs.Operations.{crop}
use Rattle.iiif_pixel.specs.declared.geometry.Rect.{Rect}
use Rattle.iiif_area.specs.Places.{part_of}
use Rattle.iiif_keys.specs.Blocks.{tile_of}
use Rattle.iiif_keys.specs.Meaning.{TileHasShape}
use Rattle.iiif_keys.specs.declared.keys.TileKey.{TileKey}
use Rattle.iiif_assemble.specs.Code.{tile_in, Copies, HasCopied}
use Rattle.iiif_assemble.proofs.PasteLemmas.{tiles_more}
use Rattle.iiif_assemble.proofs.ZipLemmas.{value_at, values_len}
use Rattle.iiif_assemble.proofs.pasting.put_all.Goals as goal

pub bounds-values-n : goal.bounds-values-n
bounds-values-n c =
    let same = values_len arc_value (λ k v. TileHasShape c.args.shape.now k v) c.args.keys.now c.args.items.now c.args.values.now
    c.requires.shaped in
    omega (arith, same, c.loop-n-test.true)

pub put_tile-requires-clause-shaped : goal.put_tile-requires-clause-shaped
put_tile-requires-clause-shaped c =
    value_at arc_value (λ k v. TileHasShape c.args.shape.now k v) c.args.keys.now c.args.items.now c.args.values.now c.loop-n.n
    c.index-keys-items.result c.index-values-n.result c.requires.shaped c.loop-n-test.true (sym c.index-keys-items.is)
    (sym c.index-values-n.is)

pub loop-n-preserved : goal.loop-n-preserved
loop-n-preserved c =
    let image = c.args.shape.now.dim in
    let rect = c.args.rect in
    let keys = c.args.keys.now in
    let items = c.args.items.now in
    let n = c.loop-n.n in
    let k = c.index-keys-items.result in
    let i = get_or items n 0 in
    record {
      sides = c.put_tile.ensures.sides ∙ c.loop-n.invariant.sides;
      channels = c.put_tile.ensures.channels ∙ c.loop-n.invariant.channels;
      top = c.put_tile.ensures.top ∙ c.loop-n.invariant.top;
      copied = λ p x same meant.
          let part : ℕ → Rect = λ j. part_of (tile_of image (get_or keys j x)) rect in
          let is : k ≡ get_or keys i x = c.index-keys-items.is ∙ get_or_default keys i k x (c.requires.within n 0 c.loop-n-test.true) in
          let of_value = value_at arc_value (λ q v. tile_in v ≡ crop p (tile_of image q)) keys items c.args.values.now n k
          c.index-values-n.result meant c.loop-n-test.true
          (sym c.index-keys-items.is) (sym c.index-values-n.is) in
          let made = subst (λ (q : TileKey). Copies (part_of (tile_of image q) rect) (λ u v h. sample_at (crop p rect) u v h)
          c.loop-n.picture c.put_tile.new.picture) is
          (c.put_tile.ensures.copies p same of_value) in
          subst (λ (js : List ℕ). HasCopied (crop p rect) (map part js) c.put_tile.new.picture)
          (sym (take_more items n 0 c.loop-n-test.true))
          (tiles_more (crop p rect) c.loop-n.picture c.put_tile.new.picture part (take n items) i (c.loop-n.invariant.copied p x same meant)
          made);
    }

pub returns-clause-copies : goal.returns-clause-copies
returns-clause-copies c p x same meant =
    let part : ℕ → Rect = λ j. part_of (tile_of c.args.shape.now.dim (get_or c.args.keys.now j x)) c.args.rect in
    subst (λ (js : List ℕ). HasCopied (crop p c.args.rect) (map part js) c.loop-n.picture)
    (take_all c.loop-n.n c.args.items.now (omega arith)) (c.loop-n.invariant.copied p x same meant)
