-- Pieces of an image, checked one after the other.
use Rattle.std.proofs.Common.{◌≡◌, ℕ, suc, ◌+◌, ◌*◌, ◌-◌, ◌<◌, ◌≤◌, Bool, List, map, get_or, leb, Option, Some, None, refl, sym, ap, ◌∙◌}
use Rattle.std.proofs.Common.{arith}
use Rattle.std.specs.Int.{div_ceil}
use Rattle.std.specs.List.{range_with_len}
use Rattle.std.specs.Prelude.{min, if◌then◌else◌}
use Rattle.std.proofs.lemmas.List.FromFn.{get_or-map-range_with_len}
use Rattle.iiif_tiff.specs.Tiff.{Refusal, first, ◌<|>◌}
use Rattle.iiif_pixel.specs.Geometry.{channels_of}
use Rattle.iiif_tiff.specs.Tiff as tiff
use Rattle.iiif_pixel.specs.declared.geometry.Dim.{Dim}
use Rattle.iiif_source.specs.declared.ReadFault.{ReadFault}
use Rattle.iiif_tiff_read.specs.declared.format.Format.{Format}
use Rattle.iiif_tiff_read.specs.declared.grid.Grid.{Grid}
use Rattle.iiif_tiff_read.specs.declared.fault.OpenFault.{OpenFault}
use Rattle.iiif_tiff_read.specs.declared.fault.OpenFault.TheVariants as faults
use Rattle.iiif_tiff_read.specs.Code.{AreListed, IsKnown, IsPiece, first_values}
use Rattle.iiif_tiff_read.specs.Faults.{IsOpenFault}
use Rattle.iiif_tiff_read.specs.Code.{scheme_of}

-- Where check i passes, the checks from i on come to what those behind it come to.
pub first_next : (p : ℕ → Option Refusal) (n i : ℕ) (total : Option Refusal) → i < n → p i ≡ None →
    first (map p (range_with_len i (n - i))) ≡ total → first (map p (range_with_len (i + 1) (n - (i + 1)))) ≡ total
unfolding first
first_next p n i total lt passes left =
    let k : n - i ≡ suc (n - (i + 1)) = omega arith in
    let one : first (map p (range_with_len i (n - i))) ≡ first (map p (range_with_len (i + 1) (n - (i + 1)))) = rw (k, passes) refl in
    sym one ∙ left

-- Where check i refuses, so do the checks from i on.
pub first_fails : (p : ℕ → Option Refusal) (n i : ℕ) (total : Option Refusal) (r : Refusal) → i < n →
    first (map p (range_with_len i (n - i))) ≡ total → p i ≡ Some r → total ≡ Some r
unfolding first
first_fails p n i total r lt left fails =
    let k : n - i ≡ suc (n - (i + 1)) = omega arith in
    let one : first (map p (range_with_len i (n - i))) ≡ Some r = rw (k, fails) refl in
    sym left ∙ one

-- Where no check is left, nothing is refused.
pub first_none : (p : ℕ → Option Refusal) (n i : ℕ) (total : Option Refusal) → n ≤ i → first (map p (range_with_len i (n - i))) ≡ total →
    total ≡ None
unfolding first
first_none p n i total le left =
    let k : n - i ≡ 0 = omega arith in
    let one : first (map p (range_with_len i (n - i))) ≡ None = rw k refl in
    sym left ∙ one

-- A fault of one check is a fault of all of them.
pub fault_of : (e : OpenFault) (P Q : Type 0) (gave : ReadFault → Bool) (a b : Option Refusal) → (P → Q) →
    (P → (r : Refusal) → a ≡ Some r → b ≡ Some r) → IsOpenFault Q gave a e → IsOpenFault P gave b e
fault_of faults.NotTiff P Q gave a b pq ab f = λ p. ab p _ (f (pq p))
fault_of faults.Truncated P Q gave a b pq ab f = λ p. ab p _ (f (pq p))
fault_of (faults.Missing t) P Q gave a b pq ab f = λ p. ab p _ (f (pq p))
fault_of (faults.Unsupported t) P Q gave a b pq ab f = λ p. ab p _ (f (pq p))
fault_of (faults.BadField t) P Q gave a b pq ab f = λ p. ab p _ (f (pq p))
fault_of faults.TooLarge P Q gave a b pq ab f = λ p. ab p _ (f (pq p))
fault_of (faults.Source s) P Q gave a b pq ab f = f
fault_of faults.NoMemory P Q gave a b pq ab f = tt

-- The bytes that were counted for a piece are those that it needs in the file.
pub needed_is : (bytes : List ℕ) (d : Dim) (f : Format) (g : Grid) (i row n : ℕ) → IsKnown bytes d f g →
    row ≡ div_ceil (g.width * channels_of f.kind * f.bits) 8
    → n ≡ (if g.tiled then g.height else min g.height (d.h - i * g.height)) * row → n ≡ tiff.piece_bytes (tiff.scheme bytes) i
unfolding tiff.piece_bytes
needed_is bytes d f g i row n known row-is n-is =
    n-is ∙ rw (row-is, known.height_is, known.channels_is, known.bits_is, known.grid_is.tiled, known.grid_is.width, known.grid_is.height)
    refl

-- Number i of a list that is given by its places is the one given for i.
pub number_is : (f : ℕ → ℕ) (xs : List ℕ) (n i : ℕ) → xs ≡ map f (range_with_len 0 n) → i < n → get_or xs i 0 ≡ f i
number_is f xs n i xs-is lt = rw xs-is (get_or-map-range_with_len f 0 n i i 0 lt (omega arith))

-- The tag of the pieces' byte counts is that of the file.
pub tag_known : (bytes : List ℕ) (d : Dim) (f : Format) (g : Grid) (tag : ℕ) → IsKnown bytes d f g →
    tag ≡ (if g.tiled then tiff.TileByteCounts else tiff.StripByteCounts) → tag ≡ tiff.counts_tag bytes
tag_known bytes d f g tag known tag-is = tag-is ∙ rw known.grid_is.tiled refl

-- A piece of the lists is that of the file.
pub piece_known : (bytes : List ℕ) (d : Dim) (f : Format) (g : Grid) (tag : ℕ) (offsets counts : List ℕ) (i row n : ℕ) → i < g.count →
    tag ≡ (if g.tiled then tiff.TileByteCounts else tiff.StripByteCounts) → row ≡ div_ceil (g.width * channels_of f.kind * f.bits) 8
    → n ≡ (if g.tiled then g.height else min g.height (d.h - i * g.height)) * row
    → AreListed bytes d f g offsets counts →
    IsPiece bytes tag (record { offset = get_or offsets i 0; count = get_or counts i 0; needed = n }) i
piece_known bytes d f g tag offsets counts i row n lt tag-is row-is n-is p = record {
  tag_is = tag_known bytes d f g tag p.known tag-is;
  offset_is = number_is (tiff.piece_offset bytes) offsets g.count i p.offsets_are lt;
  count_is = number_is (tiff.piece_byte_count bytes) counts g.count i p.counts_are lt;
  needed_is = needed_is bytes d f g i row n p.known row-is n-is;
}

-- The two lists of pieces in the terms of the file alone.
pub record Lists (bytes : List ℕ) (g : Grid) (counts_tag : ℕ) (offsets counts : List ℕ) : Type 0 where
  pub offsets_there : tiff.needed bytes (tiff.offsets_tag bytes) (leb (tiff.pieces bytes)) ≡ None
  pub counts_there : tiff.needed bytes (tiff.counts_tag bytes) (leb (tiff.pieces bytes)) ≡ None
  pub count_is : g.count ≡ tiff.pieces bytes
  pub tag_is : counts_tag ≡ tiff.counts_tag bytes
  pub offsets_are : offsets ≡ map (tiff.piece_offset bytes) (range_with_len 0 g.count)
  pub counts_are : counts ≡ map (tiff.piece_byte_count bytes) (range_with_len 0 g.count)

-- Lists that were read under the tags of the grid are those of the file.
pub lists_are : (bytes : List ℕ) (d : Dim) (f : Format) (g : Grid) (ot ct : ℕ) (offsets counts : List ℕ) → IsKnown bytes d f g
    → ot ≡ (if g.tiled then tiff.TileOffsets else tiff.StripOffsets) → ct ≡ (if g.tiled then tiff.TileByteCounts else tiff.StripByteCounts)
    → (tiff.needed bytes ot (leb g.count) ≡ None) × (offsets ≡ first_values bytes ot g.count)
    → (tiff.needed bytes ct (leb g.count) ≡ None) × (counts ≡ first_values bytes ct g.count) → Lists bytes g ct offsets counts
unfolding first_values
lists_are bytes d f g ot ct offsets counts known ot-is ct-is os cs =
    let o : ot ≡ tiff.offsets_tag bytes = ot-is ∙ rw known.grid_is.tiled refl in
    let c : ct ≡ tiff.counts_tag bytes = tag_known bytes d f g ct known ct-is in
    let n : g.count ≡ tiff.pieces bytes = known.grid_is.count in
    let a : offsets ≡ map (tiff.piece_offset bytes) (range_with_len 0 g.count) = os.1 ∙ ap (λ (t : ℕ). first_values bytes t g.count) o in
    record {
      offsets_there = rw (← o, ← n) os.0;
      counts_there = rw (← c, ← n) cs.0;
      count_is = n;
      tag_is = c;
      offsets_are = a;
      counts_are = cs.1 ∙ ap (λ (t : ℕ). first_values bytes t g.count) c;
    }

-- The bytes that were counted for a piece are those that it needs in the layout.
pub needed_here : (d : Dim) (f : Format) (g : Grid) (offsets : List ℕ) (i row n : ℕ) →
    row ≡ div_ceil (g.width * channels_of f.kind * f.bits) 8
    → n ≡ (if g.tiled then g.height else min g.height (d.h - i * g.height)) * row → tiff.piece_bytes (scheme_of d f g offsets) i ≡ n
unfolding tiff.piece_bytes
needed_here d f g offsets i row n row-is n-is = sym (n-is ∙ rw row-is refl)
