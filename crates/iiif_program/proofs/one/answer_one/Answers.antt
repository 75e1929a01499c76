use Rattle.std.proofs.Common.{[], inl, refl}
use Rattle.std.proofs.KnownBytes.{Appends-nil}
use Rattle.iiif_program.proofs.AloneLemmas.{cut_off_of, whole_of}
use Rattle.iiif_program.proofs.one.answer_one.Goals as goal

pub returns-in_default : goal.returns-in_default
returns-in_default g c = record { held = λ held is_honest. ([], Appends-nil (g.O.Write.contents c.args.out.now), inl refl) }

pub returns-in-Ok : goal.returns-in-Ok
returns-in-Ok g c = record {
  held = λ held is_honest.
      whole_of g.R.Opens.holds g.R.Opens.keeps g.J.System.honest c.args.node.now.settings c.args.node.now.items c.args.target.now
      ((b : g.row.O.Denot) × g.O.Outlet.fails b c.body_one-sent.new.out) (g.O.Write.contents c.args.out.now)
      (g.O.Write.contents c.body_one-sent.new.out) held is_honest
      c.as_bytes.result.now c.as_bytes.ensures.value _ c.in-Ok.ensures.allowed;
}

pub returns-in-Err : goal.returns-in-Err
returns-in-Err g c = record {
  held = λ held is_honest.
      cut_off_of g.R.Opens.holds g.R.Opens.keeps g.J.System.honest c.args.node.now.settings c.args.node.now.items c.args.target.now
      ((b : g.row.O.Denot) × g.O.Outlet.fails b c.body_one-sent.new.out) (g.O.Write.contents c.args.out.now)
      (g.O.Write.contents c.body_one-sent.new.out) held is_honest
      c.as_bytes.result.now c.as_bytes.ensures.value c.in-Err.cut c.in-Err.ensures.allowed;
}
