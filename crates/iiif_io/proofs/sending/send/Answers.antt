use Rattle.std.proofs.Common.{List, ℕ, ◌++◌, take, sym, subst, ap, ◌∙◌, arith}
use Rattle.std.proofs.KnownBytes.{Appends-trans}
use Rattle.std.specs.Io.KnownBytes.{Appends}
use Rattle.std.proofs.Math.Seq.{take-add}
use Rattle.iiif_io.proofs.sending.send.Goals as goal

pub loop-at-preserved : goal.loop-at-preserved
loop-at-preserved g c =
    let rest = c.split_at.ensures.back in
    let all : List ℕ = c.args.text.now in
    let joined = take-add c.loop-at.at c.in-Ok.n all ∙ ap (λ (t : List ℕ). take c.loop-at.at all ++ take c.in-Ok.n t) (sym rest) in (
      omega (arith, c.in-Ok.ensures.bound, c.split_at.ensures.back_len),
      subst (Appends (g.W.Write.contents c.args.out.now) (g.W.Write.contents c.put.new.self)) (sym joined)
          (Appends-trans _ _ _ _ _ c.loop-at.invariant.1 c.in-Ok.ensures.bytes),
    )
