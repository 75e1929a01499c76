use Rattle.std.proofs.Common.{◌+◌, ap, sym, subst, ◌∙◌, length}
use Rattle.std.proofs.lemmas.Iterator.Consumers.{YieldsList-turn, YieldsList-end}
use Rattle.std.proofs.lemmas.Iterator.Splits.{YieldsList-from_lines}
use Rattle.std.proofs.lemmas.List.{length_push}
use Rattle.std.specs.Str.Lines.{lines}
use Rattle.iiif_fixity.proofs.Listing.{Front, front_more, front_ends, front_each, front_taken}
use Rattle.iiif_fixity.proofs.manifest.Manifest.parse_lines.Goals as goal

pub loop-words-preserved : goal.loop-words-preserved
loop-words-preserved c =
    let t = YieldsList-turn (YieldsList-from_lines c.args.text.now cc) c.loop-words.yielded _ c.loop-words.yielded_by _ _ c.in-Some.words
    c.in-Some.is c.next.ensures.steps in
    let n = length_push c.loop-words.yielded c.in-Some.words in
    let front = front_more c.loop-words.manifest c.add_line.new.self (lines c.args.text.now) (length c.loop-words.yielded)
    c.in-Some.words.now
    c.loop-words.invariant.0 t.0 t.1 c.in-Ok.ensures.ok c.in-Ok.ensures.takes in (
      subst (λ k. Front (lines c.args.text.now) k c.add_line.new.self) (sym n) front,
      ap (λ k. k + 1) c.loop-words.invariant.1 ∙ sym n,
    )

pub returns-in-Err-clause-ends : goal.returns-in-Err-clause-ends
returns-in-Err-clause-ends c =
    let t = YieldsList-turn (YieldsList-from_lines c.args.text.now cc) c.loop-words.yielded _ c.loop-words.yielded_by _ _ c.in-Some.words
    c.in-Some.is c.next.ensures.steps in
    front_ends c.loop-words.manifest (lines c.args.text.now) (length c.loop-words.yielded)
    (c.loop-words.line + 1) c.in-Some.words.now c.in-Err.fault
    c.loop-words.invariant.0 t.0 t.1 c.in-Err.ensures.takes (ap (λ k. k + 1) c.loop-words.invariant.1)

pub returns-clause-each : goal.returns-clause-each
returns-clause-each c =
    let t = YieldsList-end (YieldsList-from_lines c.args.text.now cc) c.loop-words.yielded _ c.loop-words.yielded_by _ _ c.in-None.is
    c.next.ensures.steps in
    front_each c.loop-words.manifest (lines c.args.text.now) (length c.loop-words.yielded) c.loop-words.invariant.0 t.1

pub returns-clause-taken : goal.returns-clause-taken
returns-clause-taken c =
    let t = YieldsList-end (YieldsList-from_lines c.args.text.now cc) c.loop-words.yielded _ c.loop-words.yielded_by _ _ c.in-None.is
    c.next.ensures.steps in
    front_taken c.loop-words.manifest (lines c.args.text.now) (length c.loop-words.yielded) c.loop-words.invariant.0 t.1
