use Rattle.std.proofs.Common.{◌≡◌, ◌+◌, ◌-◌, ◌≤◌, ◌<◌, ◌*◌, ℕ, length, take, drop, ◌∙◌, ap, arith}
use Rattle.std.proofs.lemmas.Nat.{row_fits}
use Rattle.std.specs.Prelude.{slice_index}
use Rattle.iiif_tiff.specs.Tiff.{stored}
use Rattle.iiif_tiff_read.proofs.Runs.{length-mid}
use Rattle.iiif_tiff_read.proofs.Windows.{row_held, row_rest}
use Rattle.iiif_tiff_read.proofs.rows.put_rows.Goals as goal

pub put_row-requires-clause-room : goal.put_row-requires-clause-room
put_row-requires-clause-room c =
    let start = (c.args.window.top + c.loop-j.j) * c.args.window.width + c.args.window.left in
    let m = start + c.args.window.columns - start in
    let next : (c.args.window.top + c.loop-j.j) * c.args.window.width + c.args.window.width ≤ (c.args.window.top + c.args.window.rows) *
    c.args.window.width = row_fits (c.args.window.top + c.loop-j.j) c.args.window.width (c.args.window.top + c.args.window.rows)
    c.args.window.width (omega arith) (omega arith) in
    let len : length c.loop-j.samples ≡ length c.args.samples.now = search arith in
    let row : length (take m (drop start c.loop-j.samples)) ≡ c.args.window.columns =
    length-mid start m c.args.window.columns c.loop-j.samples (omega arith)
    (omega (arith, len, next, c.requires.fits.rows, c.requires.fits.columns)) in
    let from = c.loop-j.j * c.args.span.len in
    let k = from + c.args.span.len - from in
    let read : length (take k (drop from c.args.bytes.now)) ≡ c.args.span.len =
    length-mid from k c.args.span.len c.args.bytes.now (omega arith)
    (omega (
      arith,
      c.requires.bytes,
      row_fits c.loop-j.j c.args.span.len c.args.window.rows c.args.span.len c.loop-j-test.true
          (omega arith),
    )) in
    rw (row, read) c.requires.room

pub put_row-requires-clause-whole : goal.put_row-requires-clause-whole
put_row-requires-clause-whole c = λ eight.
    let start = (c.args.window.top + c.loop-j.j) * c.args.window.width + c.args.window.left in
    let m = start + c.args.window.columns - start in
    let next : (c.args.window.top + c.loop-j.j) * c.args.window.width + c.args.window.width ≤ (c.args.window.top + c.args.window.rows) *
    c.args.window.width = row_fits (c.args.window.top + c.loop-j.j) c.args.window.width (c.args.window.top + c.args.window.rows)
    c.args.window.width (omega arith) (omega arith) in
    let len : length c.loop-j.samples ≡ length c.args.samples.now = search arith in
    let row : length (take m (drop start c.loop-j.samples)) ≡ c.args.window.columns =
    length-mid start m c.args.window.columns c.loop-j.samples (omega arith)
    (omega (arith, len, next, c.requires.fits.rows, c.requires.fits.columns)) in
    let from = c.loop-j.j * c.args.span.len in
    let k = from + c.args.span.len - from in
    let read : length (take k (drop from c.args.bytes.now)) ≡ c.args.span.len =
    length-mid from k c.args.span.len c.args.bytes.now (omega arith)
    (omega (
      arith,
      c.requires.bytes,
      row_fits c.loop-j.j c.args.span.len c.args.window.rows c.args.span.len c.loop-j-test.true
          (omega arith),
    )) in
    rw (row, read) (c.requires.whole eight)

pub loop-j-preserved : goal.loop-j-preserved
loop-j-preserved c =
    let start = (c.args.window.top + c.loop-j.j) * c.args.window.width + c.args.window.left in
    let m = start + c.args.window.columns - start in
    let m-is : start + c.args.window.columns - start ≡ c.args.window.columns = omega arith in
    let next : (c.args.window.top + c.loop-j.j) * c.args.window.width + c.args.window.width ≤ (c.args.window.top + c.args.window.rows) *
    c.args.window.width = row_fits (c.args.window.top + c.loop-j.j) c.args.window.width (c.args.window.top + c.args.window.rows)
    c.args.window.width (omega arith) (omega arith) in
    let len : length c.loop-j.samples ≡ length c.args.samples.now = search arith in
    let old : length (take (start + c.args.window.columns - start) (drop start c.loop-j.samples)) ≡ c.args.window.columns =
    length-mid start m c.args.window.columns c.loop-j.samples m-is
    (omega (arith, len, next, c.requires.fits.rows, c.requires.fits.columns)) in
    let size : length c.put_row.new.samples ≡ c.args.window.columns = c.put_row.ensures.length ∙ old in
    let f : ℕ → ℕ → ℕ = λ j i. stored c.args.bits (take c.args.span.len (drop (j * c.args.span.len) c.args.bytes.now)) 0
    (c.args.span.skip + i) in
    let from = c.loop-j.j * c.args.span.len in
    let taken : from + c.args.span.len - from ≡ c.args.span.len = omega arith in
    let is : (i : ℕ) → i < c.args.window.columns → slice_index c.put_row.new.samples i ≡ f c.loop-j.j i
    = λ i lt. c.put_row.ensures.samples i (omega (arith, old)) ∙
    ap (λ (n : ℕ). stored c.args.bits (take n (drop from c.args.bytes.now)) 0 (c.args.span.skip + i)) taken in (
      row_held f c.args.window (length c.args.samples.now) c.loop-j.j m c.loop-j.samples c.put_row.new.samples c.requires.fits len
          c.loop-j-test.true size is c.loop-j.invariant.0,
      row_rest c.args.window (length c.args.samples.now) c.loop-j.j m c.args.samples.now c.loop-j.samples c.put_row.new.samples
          c.requires.fits len c.loop-j-test.true size m-is c.loop-j.invariant.1,
    )
