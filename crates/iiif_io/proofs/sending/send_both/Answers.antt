use Rattle.std.proofs.Common.{◌≡◌, ◌+◌, ◌-◌, List, ℕ, length, ◌++◌, take, drop, sym, subst, ap, ◌∙◌, arith}
use Rattle.std.proofs.KnownBytes.{Appends-trans}
use Rattle.std.proofs.Math.ListN.{length-append}
use Rattle.std.proofs.Math.Seq.{drop-append-add, take-add}
use Rattle.std.proofs.lemmas.List.{drop-append-le, take-append-drop}
use Rattle.std.specs.Io.KnownBytes.{Appends}
use Rattle.iiif_io.proofs.sending.send_both.Goals as goal

pub loop-taken-preserved : goal.loop-taken-preserved
loop-taken-preserved g c =
    let head : List ℕ = c.args.first.now in
    let body : List ℕ = c.args.second.now in
    let all : List ℕ = head ++ body in
    let taken = c.loop-taken.taken in
    let rest = c.split_at.ensures.back in
    let left = drop-append-le taken head body (omega (arith, c.loop-taken-test.true)) ∙ ap (λ (t : List ℕ). t ++ body) (sym rest) in
    let joined = take-add taken c.in-Ok.n all ∙ ap (λ (t : List ℕ). take taken all ++ take c.in-Ok.n t) left in (
      omega (
        arith,
        c.in-Ok.ensures.bound,
        c.split_at.ensures.back_len,
        c.loop-taken-test.true,
        length-append head body,
        length-append c.split_at.result.1.now body,
      ),
      subst (Appends (g.W.Write.contents c.args.out.now) (g.W.Write.contents c.put_both.new.self)) (sym joined)
          (Appends-trans _ _ _ _ _ c.loop-taken.invariant.1 c.in-Ok.ensures.bytes),
    )

pub returns-in-Ok-send-clause-whole : goal.returns-in-Ok-send-clause-whole
returns-in-Ok-send-clause-whole g c =
    let head : List ℕ = c.args.first.now in
    let body : List ℕ = c.args.second.now in
    let all : List ℕ = head ++ body in
    let taken = c.loop-taken.taken in
    let behind : taken ≡ length head + (taken - length head) = omega (arith, c.loop-taken-test.false) in
    let left = ap (λ (n : ℕ). drop n all) behind ∙ drop-append-add head body (taken - length head) ∙ sym c.split_at-2.ensures.back in
    let joined = ap (λ (t : List ℕ). take taken all ++ t) (sym left) ∙ take-append-drop taken all in
    subst (Appends (g.W.Write.contents c.args.out.now) (g.W.Write.contents c.send.new.out)) joined
    (Appends-trans _ _ _ _ _ c.loop-taken.invariant.1 c.in-Ok-send.ensures.whole)

pub returns-in-Err-clause-cut : goal.returns-in-Err-clause-cut
returns-in-Err-clause-cut g c =
    let head : List ℕ = c.args.first.now in
    let body : List ℕ = c.args.second.now in
    let all : List ℕ = head ++ body in
    let taken = c.loop-taken.taken in
    let cut = c.in-Err.ensures.cut in
    let behind : taken ≡ length head + (taken - length head) = omega (arith, c.loop-taken-test.false) in
    let left = ap (λ (n : ℕ). drop n all) behind ∙ drop-append-add head body (taken - length head) ∙ sym c.split_at-2.ensures.back in
    let joined = take-add taken c.in-Err.sent all ∙ ap (λ (t : List ℕ). take taken all ++ take c.in-Err.sent t) left in
    record {
      strict = omega (
        arith,
        cut.strict,
        c.split_at-2.ensures.back_len,
        c.loop-taken-test.false,
        c.loop-taken.invariant.0,
        length-append head body,
      );
      written = subst (Appends (g.W.Write.contents c.args.out.now) (g.W.Write.contents c.send.new.out)) (sym joined)
          (Appends-trans _ _ _ _ _ c.loop-taken.invariant.1 cut.written);
      before = cut.before;
      reached = subst (Appends (g.W.Write.contents c.args.out.now) (g.W.Write.contents cut.before)) (sym joined)
          (Appends-trans _ _ _ _ _ c.loop-taken.invariant.1 cut.reached);
      failed = cut.failed;
    }
