use Rattle.std.proofs.Common.{◌≡◌, ℕ, List, None, Some, OnOk}
use Rattle.std.proofs.lemmas.Result.{on_ok_weaker}
use Rattle.std.specs.Io.KnownBytes.{Appends}
use Rattle.iiif_http_front.specs.Reading.{Answers, input_of}
use Rattle.iiif_metrics.specs.Serving.{IsExchange}
use Rattle.iiif_metrics.proofs.ServeLemmas.{of_all_input}
use Rattle.iiif_metrics.proofs.serve.serve_metrics.Goals as goal

pub returns-clause-known : goal.returns-clause-known
returns-clause-known g c =
    let none : c.in_ok-heads.heads.fault ≡ None = rw c.in_ok-heads.ensures in
    of_all_input g.I.Read.remaining c.in_ok-heads.heads c.args.reader c.in_ok-heads.ensures
    (λ input. Answers input (input_of g.I.Read.remaining c.read_head-read.new.self) c.read_head-read.result)
    (λ input. OnOk c.reply.result ((output : List ℕ) ×
    Appends (g.W.Write.contents c.args.out.now) (g.W.Write.contents c.reply.new.out) output
    × IsExchange ((b : g.row.W.Denot) × g.W.Outlet.fails b c.reply.new.out) input output))
    (c.read_head-read.ensures.answers none)
    (λ input answers. on_ok_weaker {Q = (output : List ℕ) ×
    Appends (g.W.Write.contents c.args.out.now) (g.W.Write.contents c.reply.new.out) output
    × IsExchange ((b : g.row.W.Denot) × g.W.Outlet.fails b c.reply.new.out) input output}
    _ (λ r. (r.0, r.1, (input_of g.I.Read.remaining c.read_head-read.new.self, c.read_head-read.result, answers, r.2))) c.reply.ensures)

pub returns-clause-came : goal.returns-clause-came
returns-clause-came g c =
    let none : c.in_ok-heads.heads.fault ≡ None = rw c.in_ok-heads.ensures in
    let came = c.read_head-read.ensures.came none in
    let answers : Answers came.0 (Some c.read_head-read.new.self.unread) c.read_head-read.result = rw c.in_ok-heads.ensures at came.1 in
    on_ok_weaker {Q = (came : List ℕ) × (output : List ℕ) ×
    Appends (g.W.Write.contents c.args.out.now) (g.W.Write.contents c.reply.new.out) output
    × IsExchange ((b : g.row.W.Denot) × g.W.Outlet.fails b c.reply.new.out) came output}
    _ (λ r. (came.0, r.0, r.1, (Some c.read_head-read.new.self.unread, c.read_head-read.result, answers, r.2))) c.reply.ensures
