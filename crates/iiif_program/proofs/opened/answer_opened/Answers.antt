use Rattle.iiif_program.proofs.AloneLemmas.{opened_answer}
use Rattle.iiif_program.proofs.opened.answer_opened.Goals as goal

pub returns : goal.returns
returns g c =
    record {
      opened = opened_answer g.R.Opens.holds g.R.Opens.keeps c.args.options.now c.in_ok-made.made.config c.in_ok-made.made.catalogue
          c.args.one.now.target.now ((x : g.row.O.Denot) × g.O.Outlet.fails x c.answer_alone.new.out) (g.O.Write.contents c.args.out.now)
          (g.O.Write.contents c.answer_alone.new.out) c.answer_alone.result c.in_ok-made.ensures.config c.in_ok-made.ensures.catalogue
          c.answer_alone.ensures.held;
    }
