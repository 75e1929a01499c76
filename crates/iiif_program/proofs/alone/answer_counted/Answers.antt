use Rattle.iiif_start.specs.Stored.{bytes_of}
use Rattle.iiif_program.proofs.AloneLemmas.{of_made}
use Rattle.iiif_program.proofs.alone.answer_counted.Goals as goal

pub returns : goal.returns
returns g c = record {
  held = λ held.
      of_made (bytes_of g.R.Opens.holds) g.J.System.honest c.in-Ok.node.settings c.args.alone.config c.in-Ok.node.items
      c.args.alone.catalogue
      c.args.asked.now.target.now ((b : g.row.O.Denot) × g.O.Outlet.fails b c.answer_one.new.out) (g.O.Write.contents c.args.out.now)
      (g.O.Write.contents c.answer_one.new.out) c.answer_one.result c.in-Ok.ensures.settings c.in-Ok.ensures.items c.answer_one.ensures.held
      held
      c.requires.honest;
}
