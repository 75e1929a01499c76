use Rattle.iiif_answers.specs.declared.part.Part.TheVariants.{Body}
use Rattle.iiif_answers.proofs.AllowedLemmas.{body_framed}
use Rattle.iiif_server.proofs.node.Node.body_one.Goals as goal

pub returns-clause-framed : goal.returns-clause-framed
returns-clause-framed g c =
    body_framed g.S.Source.bytes g.S.Source.keeps g.J.System.honest c.args.self.now.settings c.args.self.now.items Body g.S.Source.gave
    c.args.target.now
    ((b : g.row.W.Denot) × g.W.Outlet.fails b c.answer.new.out) (g.W.Write.contents c.args.out.now) (g.W.Write.contents c.answer.new.out)
    c.answer.result c.answer.ensures.allowed

pub returns-clause-unasked : goal.returns-clause-unasked
returns-clause-unasked g c none = c.answer.ensures.unasked (λ q reached. absurd (none q reached))
