use Rattle.std.proofs.Common.{◌∙◌, ap, sym, ⊎_elim}
use Rattle.std.specs.Prelude.{IsTrue}
use Rattle.std.proofs.lemmas.Bool.{false≢true}
use Rattle.iiif_tile_group.specs.Items.{item_of}
use Rattle.iiif_server.specs.Nodes.{Service}
use Rattle.iiif_answers.specs.Responses.{is_loaded}
use Rattle.iiif_server.proofs.SendingLemmas.{head_allowed}
use Rattle.iiif_server.proofs.node.Node.send_accepted.Goals as goal

pub returns-in-Head-clause-allowed : goal.returns-in-Head-clause-allowed
returns-in-Head-clause-allowed g c q p is kind =
    let made = rw (ap (λ (n : Service g.row.S.Denot). n.settings.base) c.self.view_is) at c.head_message-message.ensures in
    head_allowed c.args.self.now.settings c.args.asked.now.part c.in-Head.close g.S.Source.gave
    (g.S.Source.keeps c.args.asked.now.entry.now.source × IsTrue g.J.System.honest) (item_of c.args.asked.now.entry.now)
    q c.args.asked.now.accepted.now p g.W.Write.contents g.W.Outlet.fails c.args.out.now c.send_message.new.out
    c.head_message-message.result c.send_message.result c.in-Head.is
    c.requires.ready.quarters kind made c.send_message.ensures.made c.send_message.ensures.memory

pub returns-in-Body-clause-unasked : goal.returns-in-Body-clause-unasked
returns-in-Body-clause-unasked g c none = ⊎_elim (λ is. absurd (false≢true (sym none ∙ ap is_loaded is)))
    (λ whole. absurd (false≢true (sym none ∙ ap is_loaded whole.1))) c.in-Body.is
