use Rattle.std.proofs.Common.{◌∙◌, ap}
use Rattle.std.specs.Prelude.{IsTrue}
use Rattle.iiif_tile_group.specs.Items.{item_of}
use Rattle.iiif_server.specs.Code.{ReachesImageOf}
use Rattle.iiif_server.specs.Nodes.{Service}
use Rattle.iiif_answers.proofs.AllowedLemmas.{memory_allowed}
use Rattle.iiif_server.proofs.node.Node.send_loaded.Goals as goal

pub returns-in_default : goal.returns-in_default
returns-in_default g c q p is kind =
    memory_allowed c.args.self.now.settings c.args.asked.now.part g.S.Source.gave
    (ReachesImageOf (g.S.Source.keeps c.args.asked.now.entry.now.source × IsTrue g.J.System.honest) (item_of c.args.asked.now.entry.now) q
    c.args.asked.now.accepted.now p) g.W.Write.contents g.W.Outlet.fails
    c.args.out.now c.send_message.new.out c.send_message.result c.send_message.ensures.memory

pub returns-in_default-job : goal.returns-in_default-job
returns-in_default-job g c q p is kind =
    memory_allowed c.args.self.now.settings c.args.asked.now.part g.S.Source.gave
    (ReachesImageOf (g.S.Source.keeps c.args.asked.now.entry.now.source × IsTrue g.J.System.honest) (item_of c.args.asked.now.entry.now) q
    c.args.asked.now.accepted.now p) g.W.Write.contents g.W.Outlet.fails
    c.args.out.now c.send_message-in_default-job.new.out c.send_message-in_default-job.result c.send_message-in_default-job.ensures.memory

pub send_job-requires-clause-head : goal.send_job-requires-clause-head
send_job-requires-clause-head g c κs within image sides =
    let base = c.base.ensures ∙ ap (λ (n : Service g.row.S.Denot). n.settings.base) c.self.view_is in
    c.deref.ensures.value ∙ (rw (base, c.as_str.ensures.text) at c.in-Ok.ensures) image sides
