use Rattle.std.proofs.Common.{◌≡◌, ℕ, List, string_bytes}
use Rattle.std.proofs.lemmas.Result.{err_from_is_err_and}
use Rattle.std.specs.Io.Iter.{lines_known_bytes}
use Rattle.std.specs.Io.KnownBytes.{Appends}
use Rattle.iiif_event_list.specs.declared.Stop.TheVariants.{Line, NotNow}
use Rattle.iiif_event_list.specs.Replays.{Replays, ended_text}
use Rattle.iiif_event_list.proofs.SoFar.{went_on, stopped_at, stopped_bad, finished, on_ok_then, same_fault}
use Rattle.iiif_event_list.proofs.list.replay.Goals as goal

pub loop-line-preserved : goal.loop-line-preserved
loop-line-preserved g c =
    let known = lines_known_bytes g.R.Read.remaining in
    let contents = g.W.Write.contents in
    let came = c.in_ok-put_line.ensures.come in
    went_on c.args.mode (g.R.Read.remaining c.args.reader) (known c.loop-line.line-iterator) (known c.next.new.self) c.loop-line.number
    c.saturating_add-number.result
    c.loop-line.replay.state c.put_line.new.replay.state (contents c.args.out.now) (contents c.loop-line.out) (contents c.put_line.new.out)
    c.as_str.result.now (string_bytes c.in-Ok.line) came.0 came.1 came.2 c.loop-line.invariant (rw c.in-Ok.is at c.in-Some.ensures.steps.1)
    c.as_str.ensures.value c.saturating_add-number.ensures came.3 came.4 came.5

pub returns-clause-come : goal.returns-clause-come
returns-clause-come g c =
    let input = g.R.Read.remaining c.args.reader in
    let left = lines_known_bytes g.R.Read.remaining c.loop-line.line-iterator in
    let old = g.W.Write.contents c.args.out.now in
    let mid = g.W.Write.contents c.loop-line.out in
    let new = g.W.Write.contents c.put_end.new.out in
    on_ok_then {P = Appends mid new (ended_text c.loop-line.replay.state)} {Q = (text : List ℕ) × Replays c.args.mode input text ×
    Appends old new text}
    c.put_end.result
    (finished c.args.mode input left c.loop-line.number c.loop-line.replay.state old mid new c.loop-line.invariant
    c.in-None.ensures.steps.1)
    c.put_end.ensures.end

pub returns-in_err-put_line-clause-bad : goal.returns-in_err-put_line-clause-bad
returns-in_err-put_line-clause-bad g c = λ n is.
    let known = lines_known_bytes g.R.Read.remaining in
    let contents = g.W.Write.contents in
    let same : c.in_err-put_line.field-0.0 ≡ Line n = same_fault c.from_residual.result c.in_err-put_line.field-0.0 (Line n)
    (err_from_is_err_and c.from_residual.result c.from_residual.ensures.1) is in
    stopped_bad c.args.mode (g.R.Read.remaining c.args.reader) (known c.loop-line.line-iterator) (known c.next.new.self) c.loop-line.number
    c.saturating_add-number.result n c.loop-line.replay.state (contents c.args.out.now) (contents c.loop-line.out)
    (contents c.put_line.new.out) c.as_str.result.now
    (string_bytes c.in-Ok.line) c.loop-line.invariant (rw c.in-Ok.is at c.in-Some.ensures.steps.1) c.as_str.ensures.value
    c.saturating_add-number.ensures (c.in_err-put_line.ensures.bad n (cc same))

pub returns-in_err-put_line-clause-refused : goal.returns-in_err-put_line-clause-refused
returns-in_err-put_line-clause-refused g c = λ n is.
    let known = lines_known_bytes g.R.Read.remaining in
    let contents = g.W.Write.contents in
    let same : c.in_err-put_line.field-0.0 ≡ NotNow n = same_fault c.from_residual.result c.in_err-put_line.field-0.0 (NotNow n)
    (err_from_is_err_and c.from_residual.result c.from_residual.ensures.1) is in
    stopped_at c.args.mode (g.R.Read.remaining c.args.reader) (known c.loop-line.line-iterator) (known c.next.new.self) c.loop-line.number
    c.saturating_add-number.result n c.loop-line.replay.state c.put_line.new.replay.state (contents c.args.out.now)
    (contents c.loop-line.out) (contents c.put_line.new.out) c.as_str.result.now
    (string_bytes c.in-Ok.line) c.loop-line.invariant (rw c.in-Ok.is at c.in-Some.ensures.steps.1) c.as_str.ensures.value
    c.saturating_add-number.ensures (c.in_err-put_line.ensures.refused n (cc same))
