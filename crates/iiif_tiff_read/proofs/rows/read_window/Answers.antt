use Rattle.std.proofs.Common.{◌≡◌, ◌+◌, ◌-◌, ◌≤◌, ◌*◌, length, refl, ◌∙◌, arith}
use Rattle.iiif_tiff_read.proofs.Runs.{length-mid}
use Rattle.iiif_tiff_read.proofs.Spans.{runs_in, span_in_row, whole_rows, whole_rest, window_read}
use Rattle.iiif_tiff_read.proofs.rows.read_window.Goals as goal

pub read_runs-requires-clause-runs : goal.read_runs-requires-clause-runs
read_runs-requires-clause-runs g c =
    runs_in c.args.rows.at c.args.rows.stride c.args.window.rows _ c.span_of-span.result c.requires.small.0 c.requires.small.1
    c.requires.rows
    (span_in_row c.args.rows.bits c.args.rows.first c.args.window.columns c.args.rows.stride c.span_of-span.result c.requires.bits
    c.span_of-span.ensures c.requires.in_row) c.requires.in_file

pub read_runs-requires-clause-length : goal.read_runs-requires-clause-length
read_runs-requires-clause-length g c =
    let v = c.args.window in
    let m-is : v.top * v.width + v.rows * v.width - v.top * v.width ≡ v.rows * v.width = omega arith in
    let total : v.top * v.width + v.rows * v.width ≤ length c.args.samples.now = omega (arith, c.requires.fits.rows) in
    rw ((c.span_of-span.ensures.whole c.if-rows-eq8.true).1, c.if-window.true)
    (length-mid (v.top * v.width) _ (v.rows * v.width) c.args.samples.now m-is total)

pub read_runs_at-requires : goal.read_runs_at-requires
read_runs_at-requires g c = record {
  runs = runs_in c.args.rows.at c.args.rows.stride c.args.window.rows _ c.span_of-span.result c.requires.small.0 c.requires.small.1
      c.requires.rows
      (span_in_row c.args.rows.bits c.args.rows.first c.args.window.columns c.args.rows.stride c.span_of-span.result c.requires.bits
      c.span_of-span.ensures c.requires.in_row) c.requires.in_file;
}

pub returns-then-window-clause-held : goal.returns-then-window-clause-held
returns-then-window-clause-held g c = λ keeps.
    let v = c.args.window in
    let m-is : v.top * v.width + v.rows * v.width - v.top * v.width ≡ v.rows * v.width = omega arith in
    let total : v.top * v.width + v.rows * v.width ≤ length c.args.samples.now = omega (arith, c.requires.fits.rows) in
    let size : length c.read_runs.new.buffer ≡ v.rows * v.width = c.read_runs.ensures.length ∙
    length-mid (v.top * v.width) _ (v.rows * v.width) c.args.samples.now m-is total in
    whole_rows c.args.rows.bits c.args.rows.first c.args.rows.at c.args.rows.stride _ (length c.args.samples.now) c.span_of-span.result v
    (g.S.Source.bytes c.args.source.now) c.args.samples.now c.read_runs.new.buffer
    c.if-rows-eq8.true c.span_of-span.ensures c.requires.fits refl c.if-window.true size (c.in_ok-read_runs.ensures.runs_there keeps)

pub returns-then-window-clause-rest : goal.returns-then-window-clause-rest
returns-then-window-clause-rest g c =
    let v = c.args.window in
    let m-is : v.top * v.width + v.rows * v.width - v.top * v.width ≡ v.rows * v.width = omega arith in
    let total : v.top * v.width + v.rows * v.width ≤ length c.args.samples.now = omega (arith, c.requires.fits.rows) in
    let size : length c.read_runs.new.buffer ≡ v.rows * v.width = c.read_runs.ensures.length ∙
    length-mid (v.top * v.width) _ (v.rows * v.width) c.args.samples.now m-is total in
    whole_rest _ (length c.args.samples.now) v c.args.samples.now c.read_runs.new.buffer c.requires.fits refl c.if-window.true size m-is

pub returns-clause-held : goal.returns-clause-held
returns-clause-held g c = λ keeps.
    window_read c.args.rows.bits c.args.rows.first c.args.rows.at c.args.rows.stride c.span_of-span.result c.args.window
    (g.S.Source.bytes c.args.source.now) c.deref.result.now c.put_rows.new.samples c.requires.bits c.span_of-span.ensures
    (λ j b lt below. rw c.deref.ensures.value (c.in_ok-read.ensures.bytes keeps j b lt below)) c.put_rows.ensures.held
