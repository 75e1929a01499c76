use Rattle.std.proofs.Common.{◌≡◌, ℕ, ◌+◌, ◌-◌, ◌*◌, ◌<◌, ◌≤◌, min, List, length, sym, ap, subst, ◌∙◌, arith, inl, inr, ⊎_elim}
use Rattle.std.proofs.Common.{length-append, rules}
use Rattle.std.specs.Prelude.{◌++◌}
use Rattle.std.specs.Int.{div_ceil}
use Rattle.std.specs.Io.KnownBytes.{Appends}
use Rattle.iiif_io.specs.Sending.{WasCut}
use Rattle.iiif_pixel.specs.declared.geometry.Dim.{Dim}
use Rattle.iiif_pixel.specs.declared.geometry.Rect.{Rect}
use Rattle.iiif_pixel.proofs.Parts.{same_dim}
use Rattle.iiif_planner.proofs.Meeting.{last_met}
use Rattle.iiif_planner.specs.Bands.{band_rect}
use Rattle.iiif_tiff_write.specs.File.{file, head_of, strip}
use Rattle.iiif_delivery.specs.Delivery.{band_from, front_len, result_dim, Stops}
use Rattle.iiif_delivery.specs.declared.delivery.Stopped.{Stopped}
use Rattle.iiif_delivery.specs.Code.{IsBandFor, StopsFor}
use Rattle.iiif_delivery.proofs.StepLemmas.{first_rows, none_sent, band_fails, band_stopped, gone_stopped, writer_stopped}
use Rattle.iiif_delivery.proofs.StepLemmas.{more_rows, flushed_rows, all_sent}
use Rattle.iiif_delivery.proofs.StepLemmas.{counted_first, counted_more, counted_flushed}
use Rattle.iiif_delivery.proofs.StepLemmas.{buffered_done, buffered_first, buffered_more}
use Rattle.iiif_delivery.proofs.KeptLemmas.{kept_done, kept_first, kept_more}
use Rattle.iiif_delivery.proofs.StepLemmas.{bands_end, result_some, more_len, sent_within, counted_done}
use Rattle.iiif_delivery.proofs.delivery.send_bands.Goals as goal
use Rattle.iiif_delivery.proofs.delivery.send_bands.Goals.{then-len-ge-PIECE+in-Ok-flush, else-len-ge-PIECE}

pub returns-in_default-clause-stopped : goal.returns-in_default-clause-stopped
returns-in_default-clause-stopped g c =
    let s = c.args.sending.now in
    let j = s.job.now in
    none_sent c.laws_of_bands.ensures j (g.A.Items.means c.args.context.now.tiles.now) (g.B.Items.means c.args.context.now.sums.now) s.kind
    s.start.now c.requires.sending.job.quarters
    c.requires.sending.channels (g.W.Write.contents c.args.out.now)

pub loop-i-init : goal.loop-i-init
loop-i-init g c =
    let s = c.args.sending.now in let j = s.job.now in let d = result_dim j in
    let front = same_dim c.turned-dim.result d c.turned-dim.ensures.width c.turned-dim.ensures.height in
    let is = c.in-Ok.ensures ∙ ap (λ (e : Dim). s.start.now ++ head_of s.kind e) front in
    let none : min (0 * s.rows) d.h ≡ 0 = omega arith in
    record {
      rows = first_rows c.laws_of_bands.ensures j (g.A.Items.means c.args.context.now.tiles.now)
          (g.B.Items.means c.args.context.now.sums.now) s.kind s.start.now c.requires.sending.job.quarters
          c.requires.sending.channels (g.W.Write.contents c.args.out.now) c.in-Ok.text.items (min (0 * s.rows) d.h) is none;
      counted = counted_first j s.kind (length (s.start.now ++ head_of s.kind d)) s.rows (min (0 * s.rows) d.h)
          c.in-Ok.text.items (ap length is) none;
      buffered = buffered_first j s.kind (front_len s) s.rows (min (0 * s.rows) d.h) c.in-Ok.text.items (ap length is) none;
      kept = search rules;
      few = search rules;
      most = kept_first j (g.B.Items.means c.args.context.now.sums.now) s.rows (min (0 * s.rows) d.h) c.new-kept.result.items
          none (search rules);
    }

pub returns-in-Err-Faulted-clause-stopped : goal.returns-in-Err-Faulted-clause-stopped
returns-in-Err-Faulted-clause-stopped g c =
    let s = c.args.sending.now in let j = s.job.now in let d = result_dim j in
    let tm = g.A.Items.means c.args.context.now.tiles.now in let sm = g.B.Items.means c.args.context.now.sums.now in
    let i = c.loop-i.i in let y = min (i * s.rows) d.h in
    let within : i < div_ceil d.h s.rows = subst (λ (n : ℕ). i < n) c.band_count-i-end.ensures c.loop-i-test.true in
    let above = last_met s.rows d.h i c.requires.sending.rows within in
    let some = (result_some j c.requires.sending.job.scalable.result_columns c.requires.sending.job.scalable.result_rows).0 in
    let at = subst (λ (t : List ℕ). StopsFor g.W.Write.contents g.W.Outlet.fails c.loop-i.out c.stop.new.out t c.loop-i.sent
    c.loop-i.held c.in-Err-Faulted.fault c.stop.result) c.in-Err-Faulted.ensures.none (rw c.in-Err-Faulted.field-0-is at c.stop.ensures) in
    λ shows has source.
    band_stopped c.laws_of_bands.ensures j tm sm s.kind s.start.now c.requires.sending.job.quarters c.requires.sending.channels
    g.W.Write.contents g.W.Outlet.fails c.args.out.now c.loop-i.out c.stop.new.out c.loop-i.text.items c.loop-i.sent
    c.loop-i.held s.rows y c.in-Err-Faulted.fault c.stop.result (omega (arith, above)) some c.loop-i.invariant.counted at
    shows has source (c.loop-i.invariant.rows shows has source)

pub returns-in-Err-Faulted-clause-fault : goal.returns-in-Err-Faulted-clause-fault
returns-in-Err-Faulted-clause-fault g c =
    let s = c.args.sending.now in let j = s.job.now in let d = result_dim j in let front = length (s.start.now ++ head_of s.kind d) in
    let i = c.loop-i.i in let y = min (i * s.rows) d.h in
    let within : i < div_ceil d.h s.rows = subst (λ (n : ℕ). i < n) c.band_count-i-end.ensures c.loop-i-test.true in
    let above = last_met s.rows d.h i c.requires.sending.rows within in
    let some = (result_some j c.requires.sending.job.scalable.result_columns c.requires.sending.job.scalable.result_rows).0 in
    let row : i * s.rows ≡ y = omega (arith, above) in
    let here : band_rect d s.rows i ≡ band_from d s.rows y = ap (band_from d s.rows) row in
    let tm = g.A.Items.means c.args.context.now.tiles.now in let tf = g.A.Items.failed c.args.context.now.tiles.now in
    let sm = g.B.Items.means c.args.context.now.sums.now in let sf = g.B.Items.failed c.args.context.now.sums.now in
    let told = subst (λ (t : List ℕ). StopsFor g.W.Write.contents g.W.Outlet.fails c.loop-i.out c.stop.new.out t c.loop-i.sent
    c.loop-i.held c.in-Err-Faulted.fault c.stop.result) c.in-Err-Faulted.ensures.none (rw c.in-Err-Faulted.field-0-is at c.stop.ensures) in
    band_fails g.W.Write.contents g.W.Outlet.fails j tm tf sm sf s.kind c.loop-i.out c.stop.new.out c.loop-i.text.items front
    c.loop-i.sent c.loop-i.held s.rows y c.in-Err-Faulted.fault c.stop.result some c.loop-i.invariant.counted told
    (⊎_elim (λ e. inl e) (λ f. inr (f.0, f.1 ∙ here, f.2, f.3)) (rw c.in-Err-Faulted.field-0-is at c.in-Err-Faulted.ensures.why))

pub returns-in-Err-Disconnected-clause-stopped : goal.returns-in-Err-Disconnected-clause-stopped
returns-in-Err-Disconnected-clause-stopped g c =
    let s = c.args.sending.now in let j = s.job.now in let d = result_dim j in
    let i = c.loop-i.i in let y = min (i * s.rows) d.h in
    let within : i < div_ceil d.h s.rows = subst (λ (n : ℕ). i < n) c.band_count-i-end.ensures c.loop-i-test.true in
    let above = last_met s.rows d.h i c.requires.sending.rows within in
    let some = (result_some j c.requires.sending.job.scalable.result_columns c.requires.sending.job.scalable.result_rows).0 in
    let gone = rw c.in-Err-Disconnected.field-0-is at c.in-Err-Disconnected.ensures.why in
    λ shows has source.
    gone_stopped c.laws_of_bands.ensures j (g.A.Items.means c.args.context.now.tiles.now) (g.B.Items.means c.args.context.now.sums.now)
    s.kind s.start.now c.requires.sending.job.quarters c.requires.sending.channels g.W.Write.contents g.W.Outlet.fails c.args.out.now
    c.loop-i.out c.loop-i.text.items c.loop-i.sent c.loop-i.held s.rows y
    (omega (arith, above)) some c.loop-i.invariant.counted gone shows has source
    (c.loop-i.invariant.rows shows has source)

pub stop-requires : goal.stop-requires
stop-requires g c =
    let s = c.args.sending.now in let j = s.job.now in let d = result_dim j in
    let y = min (c.loop-i.i * s.rows) d.h in let small = c.in-Ok.text.small in let long = c.in-Ok.text.ok in
    let first : length c.in-Ok.text.items ≡ length s.start.now + length (head_of s.kind c.turned-dim.result) =
    ap length c.in-Ok.ensures ∙ length-append s.start.now (head_of s.kind c.turned-dim.result) in
    let within = sent_within j s.kind s.start.now s.rows c.loop-i.text.items c.loop-i.sent c.loop-i.held y
    c.loop-i.invariant.counted (omega arith) in
    omega (arith, within, ap length c.in-Err-Faulted.ensures.none, small, long.0, long.1, first, c.requires.sending.len)

pub flush-requires : goal.flush-requires
flush-requires g c =
    let s = c.args.sending.now in let j = s.job.now in let d = result_dim j in let tm = g.A.Items.means c.args.context.now.tiles.now in
    let sm = g.B.Items.means c.args.context.now.sums.now in let front = length (s.start.now ++ head_of s.kind d) in
    let i = c.loop-i.i in let y = min (i * s.rows) d.h in
    let within : i < div_ceil d.h s.rows = subst (λ (n : ℕ). i < n) c.band_count-i-end.ensures c.loop-i-test.true in
    let above = last_met s.rows d.h i c.requires.sending.rows within in
    let n = min s.rows (d.h - i * s.rows) in let y2 = min ((i + 1) * s.rows) d.h in
    let row : i * s.rows ≡ y = omega (arith, above) in let sum : (i + 1) * s.rows ≡ i * s.rows + s.rows = omega arith in
    let next : y2 ≡ y + n = omega (arith, above, sum) in
    let is : band_rect d s.rows i ≡ record { x = 0; y = y; w = d.w; h = n } =
    ap (λ (k : ℕ). let r : Rect = record { x = 0; y = k; w = d.w; h = n } in r) row in
    let made = c.in-Ok-make_band.ensures.rows in
    let is_band = subst (λ (r : Rect). IsBandFor j tm sm r made.0) is made.1 in
    let len = more_len j tm sm s.kind y n made.0 is_band in
    let counted = counted_more j s.kind front s.rows c.loop-i.text.items (strip s.kind made.0)
    c.make_band.new.text.items c.loop-i.sent c.loop-i.held
    c.in-Ok-make_band.counts.held y n y2 c.max-held.result c.loop-i.invariant.counted len c.in-Ok-make_band.ensures.held
    (omega (arith, above))
    (omega (arith, above, c.requires.sending.rows)) (λ (zero : y ≡ 0). omega (arith, zero, row))
    (omega (arith, c.max-held.ensures)) next made.2 in
    let small = c.in-Ok.text.small in
    let long = c.in-Ok.text.ok in
    let first : length c.in-Ok.text.items ≡ length s.start.now + length (head_of s.kind c.turned-dim.result) =
    ap length c.in-Ok.ensures ∙ length-append s.start.now (head_of s.kind c.turned-dim.result) in
    let all = sent_within j s.kind s.start.now s.rows c.make_band.new.text.items c.loop-i.sent c.max-held.result y2
    counted (omega arith) in
    omega (arith, all, small, long.0, long.1, first, c.requires.sending.len)

pub returns-in-Err-flush-clause-stopped : goal.returns-in-Err-flush-clause-stopped
returns-in-Err-flush-clause-stopped g c =
    let s = c.args.sending.now in let j = s.job.now in let d = result_dim j in let tm = g.A.Items.means c.args.context.now.tiles.now in
    let sm = g.B.Items.means c.args.context.now.sums.now in let front = length (s.start.now ++ head_of s.kind d) in
    let i = c.loop-i.i in let y = min (i * s.rows) d.h in
    let within : i < div_ceil d.h s.rows = subst (λ (n : ℕ). i < n) c.band_count-i-end.ensures c.loop-i-test.true in
    let above = last_met s.rows d.h i c.requires.sending.rows within in
    let n = min s.rows (d.h - i * s.rows) in let y2 = min ((i + 1) * s.rows) d.h in
    let row : i * s.rows ≡ y = omega (arith, above) in let sum : (i + 1) * s.rows ≡ i * s.rows + s.rows = omega arith in
    let next : y2 ≡ y + n = omega (arith, above, sum) in
    let is : band_rect d s.rows i ≡ record { x = 0; y = y; w = d.w; h = n } =
    ap (λ (k : ℕ). let r : Rect = record { x = 0; y = k; w = d.w; h = n } in r) row in
    let made = c.in-Ok-make_band.ensures.rows in
    let is_band = subst (λ (r : Rect). IsBandFor j tm sm r made.0) is made.1 in
    let cut = c.in-Err-flush.ensures.cut in
    λ shows has source.
    let w = writer_stopped c.laws_of_bands.ensures j tm sm s.kind s.start.now c.requires.sending.job.quarters c.requires.sending.channels
    g.W.Write.contents g.W.Outlet.fails c.args.out.now c.loop-i.out c.flush.new.out c.make_band.new.text.items
    c.loop-i.sent y2 cut.0 (omega arith) cut.2 shows has source
    (more_rows c.laws_of_bands.ensures j tm sm s.kind s.start.now c.requires.sending.job.quarters c.requires.sending.channels
    (g.W.Write.contents c.args.out.now) (g.W.Write.contents c.loop-i.out) c.loop-i.text.items c.make_band.new.text.items
    c.loop-i.sent y n y2 made.0
    (omega (arith, above)) is_band made.2 next shows has source (c.loop-i.invariant.rows shows has source)) in (
      w.0,
      w.1,
      subst (λ (e : Stopped). Stops g.W.Write.contents g.W.Outlet.fails c.args.out.now c.flush.new.out front
          (s.start.now ++ file w.0 s.kind) e) (sym cut.1) w.2,
    )

pub loop-i-preserved : goal.loop-i-preserved
loop-i-preserved g c =
    let s = c.args.sending.now in let j = s.job.now in let d = result_dim j in let tm = g.A.Items.means c.args.context.now.tiles.now in
    let sm = g.B.Items.means c.args.context.now.sums.now in let front = length (s.start.now ++ head_of s.kind d) in
    let i = c.loop-i.i in let y = min (i * s.rows) d.h in
    let within : i < div_ceil d.h s.rows = subst (λ (n : ℕ). i < n) c.band_count-i-end.ensures c.loop-i-test.true in
    let above = last_met s.rows d.h i c.requires.sending.rows within in
    let n = min s.rows (d.h - i * s.rows) in let y2 = min ((i + 1) * s.rows) d.h in
    let row : i * s.rows ≡ y = omega (arith, above) in let sum : (i + 1) * s.rows ≡ i * s.rows + s.rows = omega arith in
    let next : y2 ≡ y + n = omega (arith, above, sum) in
    let is : band_rect d s.rows i ≡ record { x = 0; y = y; w = d.w; h = n } =
    ap (λ (k : ℕ). let r : Rect = record { x = 0; y = k; w = d.w; h = n } in r) row in
    let made = c.in-Ok-make_band.ensures.rows in
    let after = c.make_band.new.text.items in
    let is_band = subst (λ (r : Rect). IsBandFor j tm sm r made.0) is made.1 in
    let len = more_len j tm sm s.kind y n made.0 is_band in
    let counted = counted_more j s.kind front s.rows c.loop-i.text.items (strip s.kind made.0) after c.loop-i.sent c.loop-i.held
    c.in-Ok-make_band.counts.held y n y2 c.max-held.result c.loop-i.invariant.counted len c.in-Ok-make_band.ensures.held
    (omega (arith, above))
    (omega (arith, above, c.requires.sending.rows)) (λ (zero : y ≡ 0). omega (arith, zero, row))
    (omega (arith, c.max-held.ensures)) next made.2 in
    let buffered = λ (left : List ℕ) (short : length left ≤ 65536 + front). buffered_more j s.kind front s.rows c.loop-i.text.items
    (strip s.kind made.0) after left c.loop-i.sent c.loop-i.held y n y2 c.loop-i.buffered c.max-buffered.result
    c.loop-i.invariant.counted c.loop-i.invariant.buffered len (omega (arith, above)) made.2
    (omega (arith, c.max-buffered.ensures)) short in
    let most = kept_more j sm s.rows i c.loop-i.kept.items c.make_band.new.kept.items c.loop-i.most_kept c.in-Ok-make_band.counts.kept
    c.max-most_kept.result y y2 c.loop-i.invariant.most c.in-Ok-make_band.ensures.own c.make_band.ensures.kept c.make_band.ensures.few
    c.in-Ok-make_band.ensures.count c.max-most_kept.ensures (λ (zero : y ≡ 0). omega (arith, zero, row))
    (omega (arith, next, above, c.requires.sending.rows)) in
    elim c.if-len-ge-PIECE.branch [
      | then-len-ge-PIECE+in-Ok-flush w ↦
          let none = ap (λ v. v.items) w.text-is ∙ w.in-Ok-flush.ensures.none in
          let count = w.sent-is ∙ w.in-Ok-flush.ensures.count in
          let written = subst (λ o. Appends (g.W.Write.contents c.loop-i.out) (g.W.Write.contents o) after)
          (sym w.out-is) w.in-Ok-flush.ensures.whole in
          let empty : length c.if-len-ge-PIECE.text.items ≡ 0 = ap length none in
          record {
            rows = λ shows has source.
                flushed_rows c.laws_of_bands.ensures j tm sm s.kind s.start.now c.requires.sending.job.quarters c.requires.sending.channels
                (g.W.Write.contents c.args.out.now) (g.W.Write.contents c.loop-i.out) (g.W.Write.contents c.if-len-ge-PIECE.out)
                after c.if-len-ge-PIECE.text.items c.loop-i.sent c.if-len-ge-PIECE.sent y2 written none count shows
                (more_rows c.laws_of_bands.ensures j tm sm s.kind s.start.now c.requires.sending.job.quarters c.requires.sending.channels
                (g.W.Write.contents c.args.out.now) (g.W.Write.contents c.loop-i.out) c.loop-i.text.items
                after c.loop-i.sent y n y2 made.0
                (omega (arith, above)) is_band made.2 next shows has source (c.loop-i.invariant.rows shows has source));
            counted = counted_flushed j s.kind front s.rows after c.if-len-ge-PIECE.text.items
                c.loop-i.sent c.max-held.result y2 c.if-len-ge-PIECE.sent counted
                (omega (arith, next, above, c.requires.sending.rows)) count none;
            buffered = buffered c.if-len-ge-PIECE.text.items (omega (arith, empty));
            kept = c.make_band.ensures.kept;
            few = c.make_band.ensures.few;
            most = most;
          }
      | else-len-ge-PIECE w ↦
          rw (w.out-is, w.text-is, w.sent-is) (record {
            rows = λ shows has source. (more_rows c.laws_of_bands.ensures j tm sm s.kind s.start.now c.requires.sending.job.quarters
                c.requires.sending.channels (g.W.Write.contents c.args.out.now) (g.W.Write.contents c.loop-i.out) c.loop-i.text.items
                after c.loop-i.sent y n y2 made.0
                (omega (arith, above)) is_band made.2 next shows has source (c.loop-i.invariant.rows shows has source));
            counted = counted;
            buffered = buffered after (omega (arith, w.if-len-ge-PIECE.false));
            kept = c.make_band.ensures.kept;
            few = c.make_band.ensures.few;
            most = most;
          })
    ]

pub flush-requires-2 : goal.flush-requires-2
flush-requires-2 g c =
    let s = c.args.sending.now in let j = s.job.now in let d = result_dim j in
    let y = min (c.loop-i.i * s.rows) d.h in let small = c.in-Ok.text.small in let long = c.in-Ok.text.ok in
    let first : length c.in-Ok.text.items ≡ length s.start.now + length (head_of s.kind c.turned-dim.result) =
    ap length c.in-Ok.ensures ∙ length-append s.start.now (head_of s.kind c.turned-dim.result) in
    let within = sent_within j s.kind s.start.now s.rows c.loop-i.text.items c.loop-i.sent c.loop-i.held y
    c.loop-i.invariant.counted (omega arith) in
    omega (arith, within, small, long.0, long.1, first, c.requires.sending.len)

pub returns-in-Ok-flush-2-clause-whole : goal.returns-in-Ok-flush-2-clause-whole
returns-in-Ok-flush-2-clause-whole g c =
    let s = c.args.sending.now in let j = s.job.now in let d = result_dim j in let tm = g.A.Items.means c.args.context.now.tiles.now in
    let sm = g.B.Items.means c.args.context.now.sums.now in let i = c.loop-i.i in
    let y = min (i * s.rows) d.h in
    let past : div_ceil d.h s.rows ≤ i = omega (arith, c.loop-i-test.false, c.band_count-i-end.ensures) in
    let end = bands_end d.h s.rows i c.requires.sending.rows past in
    λ shows has source.
    all_sent c.laws_of_bands.ensures j tm sm s.kind s.start.now c.requires.sending.job.quarters c.requires.sending.channels
    (g.W.Write.contents c.args.out.now) (g.W.Write.contents c.flush-2.new.out) c.flush-2.new.text.items c.in-Ok-flush-2.bytes y end
    c.in-Ok-flush-2.ensures.none shows
    (flushed_rows c.laws_of_bands.ensures j tm sm s.kind s.start.now c.requires.sending.job.quarters c.requires.sending.channels
    (g.W.Write.contents c.args.out.now) (g.W.Write.contents c.loop-i.out) (g.W.Write.contents c.flush-2.new.out)
    c.loop-i.text.items c.flush-2.new.text.items
    c.loop-i.sent c.in-Ok-flush-2.bytes y c.in-Ok-flush-2.ensures.whole c.in-Ok-flush-2.ensures.none c.in-Ok-flush-2.ensures.count shows
    (c.loop-i.invariant.rows shows has source))

pub returns-in-Ok-flush-2-clause-held : goal.returns-in-Ok-flush-2-clause-held
returns-in-Ok-flush-2-clause-held g c =
    let s = c.args.sending.now in let j = s.job.now in let d = result_dim j in let front = length (s.start.now ++ head_of s.kind d) in
    let i = c.loop-i.i in let y = min (i * s.rows) d.h in
    let past : div_ceil d.h s.rows ≤ i = omega (arith, c.loop-i-test.false, c.band_count-i-end.ensures) in
    let end = bands_end d.h s.rows i c.requires.sending.rows past in
    counted_done j s.kind front s.rows c.loop-i.text.items c.loop-i.sent c.loop-i.held y
    (result_some j c.requires.sending.job.scalable.result_columns c.requires.sending.job.scalable.result_rows).1
    end c.loop-i.invariant.counted

pub returns-in-Ok-flush-2-clause-buffered : goal.returns-in-Ok-flush-2-clause-buffered
returns-in-Ok-flush-2-clause-buffered g c =
    let s = c.args.sending.now in let j = s.job.now in let d = result_dim j in
    let i = c.loop-i.i in let y = min (i * s.rows) d.h in
    let past : div_ceil d.h s.rows ≤ i = omega (arith, c.loop-i-test.false, c.band_count-i-end.ensures) in
    let end = bands_end d.h s.rows i c.requires.sending.rows past in
    buffered_done s
    (record { bytes = c.in-Ok-flush-2.bytes; held = c.loop-i.held; kept = c.loop-i.most_kept; buffered = c.loop-i.buffered })
    c.loop-i.text.items y
    (result_some j c.requires.sending.job.scalable.result_columns c.requires.sending.job.scalable.result_rows).1
    end c.loop-i.invariant.buffered

pub returns-in-Ok-flush-2-clause-kept : goal.returns-in-Ok-flush-2-clause-kept
returns-in-Ok-flush-2-clause-kept g c =
    let s = c.args.sending.now in let j = s.job.now in let d = result_dim j in
    let i = c.loop-i.i in let y = min (i * s.rows) d.h in
    let past : div_ceil d.h s.rows ≤ i = omega (arith, c.loop-i-test.false, c.band_count-i-end.ensures) in
    let end = bands_end d.h s.rows i c.requires.sending.rows past in
    let kept = kept_done j (g.B.Items.means c.args.context.now.sums.now) s.rows c.loop-i.kept.items c.loop-i.most_kept y
    (result_some j c.requires.sending.job.scalable.result_columns c.requires.sending.job.scalable.result_rows).1
    end c.loop-i.invariant.most in
    inr (c.requires.bands, kept)

pub returns-clause-stopped : goal.returns-clause-stopped
returns-clause-stopped g c =
    let s = c.args.sending.now in let j = s.job.now in let d = result_dim j in let tm = g.A.Items.means c.args.context.now.tiles.now in
    let sm = g.B.Items.means c.args.context.now.sums.now in let front = length (s.start.now ++ head_of s.kind d) in
    let y = min (c.loop-i.i * s.rows) d.h in let cut = c.in-Err-flush-2.ensures.cut in
    λ shows has source.
    let w = writer_stopped c.laws_of_bands.ensures j tm sm s.kind s.start.now c.requires.sending.job.quarters c.requires.sending.channels
    g.W.Write.contents g.W.Outlet.fails c.args.out.now c.loop-i.out c.flush-2.new.out c.loop-i.text.items c.loop-i.sent y cut.0
    (omega arith) cut.2 shows has source
    (c.loop-i.invariant.rows shows has source) in (
      w.0,
      w.1,
      subst (λ (e : Stopped). Stops g.W.Write.contents g.W.Outlet.fails c.args.out.now c.flush-2.new.out front
          (s.start.now ++ file w.0 s.kind) e) (sym cut.1) w.2,
    )

pub returns-in-Err-clause-stopped : goal.returns-in-Err-clause-stopped
returns-in-Err-clause-stopped g c =
    let s = c.args.sending.now in let j = s.job.now in let d = result_dim j in let tm = g.A.Items.means c.args.context.now.tiles.now in
    let sm = g.B.Items.means c.args.context.now.sums.now in
    let i = c.loop-i.i in let y = min (i * s.rows) d.h in
    let within : i < div_ceil d.h s.rows = subst (λ (n : ℕ). i < n) c.band_count-i-end.ensures c.loop-i-test.true in
    let above = last_met s.rows d.h i c.requires.sending.rows within in
    let cut = subst (λ (t : List ℕ). WasCut g.W.Write.contents g.W.Outlet.fails c.loop-i.out c.loop-i.out t c.in-Err.more)
    c.deref.ensures.value c.in-Err.ensures.cut in
    λ shows has source.
    writer_stopped c.laws_of_bands.ensures j tm sm s.kind s.start.now c.requires.sending.job.quarters c.requires.sending.channels
    g.W.Write.contents g.W.Outlet.fails c.args.out.now c.loop-i.out c.loop-i.out c.loop-i.text.items c.loop-i.sent y
    c.in-Err.more (omega (arith, above)) cut shows has source (c.loop-i.invariant.rows shows has source)
