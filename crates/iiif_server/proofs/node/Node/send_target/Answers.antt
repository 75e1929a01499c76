use Rattle.std.proofs.Common.{ap, sym, subst, refl}
use Rattle.std.specs.Prelude.{IsTrue}
use Rattle.iiif_canonical.specs.Images.{resolved_image}
use Rattle.iiif_tile_group.specs.Items.{item_of}
use Rattle.iiif_answers.specs.Answers.{Replies}
use Rattle.iiif_server.specs.Code.{ReachesImageOf}
use Rattle.iiif_answers.specs.Outcomes.{given_of}
use Rattle.iiif_answers.proofs.AllowedLemmas.{message_allowed, sent_more}
use Rattle.iiif_server.specs.Nodes.{Service}
use Rattle.iiif_server.proofs.node.Node.send_target.Goals as goal

pub returns-in-Image-clause-allowed : goal.returns-in-Image-clause-allowed
returns-in-Image-clause-allowed g c =
    let came = c.in-Image.ensures.comes g.J.System.honest in
    let item = item_of c.in-Image.entry.now in
    let settings = ap (λ (n : Service g.row.S.Denot). n.settings) c.self.view_is in
    let reaches = Replies g.S.Source.bytes g.S.Source.keeps g.J.System.honest c.args.self.now.settings c.args.self.now.items
    c.args.target.now in
    sent_more c.args.self.now.settings c.args.part g.S.Source.gave
    (ReachesImageOf (g.S.Source.keeps c.in-Image.entry.now.source × IsTrue g.J.System.honest) item came.0 c.in-Image.accepted came.1)
    reaches (λ r reached. subst reaches (sym reached.2) (rw (settings, c.images.ensures.items) at (came.4 reached.0 reached.1))) _ _ _ _
    (c.send_accepted.ensures.allowed came.0 came.1 came.2 came.3)

pub returns-in-Image-clause-unasked : goal.returns-in-Image-clause-unasked
returns-in-Image-clause-unasked g c none =
    let came = c.in-Image.ensures.comes g.J.System.honest in
    let settings = ap (λ (n : Service g.row.S.Denot). n.settings) c.self.view_is in
    let asked = resolved_image came.1 c.in-Image.accepted.resolved in
    c.send_accepted.ensures.unasked
    (none (given_of (item_of c.in-Image.entry.now) came.0 c.in-Image.accepted came.1 asked)
    (rw (settings, c.images.ensures.items) at (came.4 asked (record { sides = refl; same = λ k. refl }))))

pub returns-in_default-clause-allowed : goal.returns-in_default-clause-allowed
returns-in_default-clause-allowed g c =
    let settings = ap (λ (n : Service g.row.S.Denot). n.settings) c.self.view_is in
    message_allowed c.args.self.now.settings c.args.part g.S.Source.gave
    (Replies g.S.Source.bytes g.S.Source.keeps g.J.System.honest c.args.self.now.settings c.args.self.now.items c.args.target.now)
    g.W.Write.contents g.W.Outlet.fails c.args.out.now
    c.send_message.new.out c.message_of-message.result c.send_message.result
    (rw (settings, c.images.ensures.items)
    at (c.message_of-message.ensures g.J.System.honest c.images.result.now c.args.target.now
    (c.outcome_of.ensures.comes g.J.System.honest)))
    c.send_message.ensures.made c.send_message.ensures.memory
