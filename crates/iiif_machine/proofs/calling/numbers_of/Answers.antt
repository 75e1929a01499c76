use Rattle.std.proofs.Common.{◌-◌, ◌≡◌, length, ap, ◌∙◌, arith}
use Rattle.iiif_machine.proofs.Numbered.{numbered, numbered_keys, numbers_step}
use Rattle.iiif_machine.proofs.calling.numbers_of.Goals as goal

pub loop-number-preserved : goal.loop-number-preserved
loop-number-preserved c =
    numbers_step c.loop-number.numbers.items c.push.new.self.items c.args.first c.loop-number.number c.loop-number.invariant (omega arith)
    c.in_ok-push.ensures.items

pub returns : goal.returns
returns c = λ keys len.
    let n : c.loop-number.number - c.args.first ≡ length keys = omega (arith, len, c.in-Some.ensures) in
    c.loop-number.invariant ∙ ap (numbered c.args.first) n ∙ numbered_keys c.args.first keys
