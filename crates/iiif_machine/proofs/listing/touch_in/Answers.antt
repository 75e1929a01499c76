use Rattle.std.proofs.Common.{position, sym, ap, ◌∙◌}
use Rattle.iiif_machine.specs.Keys.{key_eq}
use Rattle.iiif_machine.specs.declared.listing.Entry.{Entry}
use Rattle.iiif_machine.proofs.Placing.{touched_some, touched_none}
use Rattle.iiif_machine.proofs.listing.touch_in.Goals as goal

pub returns-in-Some-clause-was : goal.returns-in-Some-clause-was
returns-in-Some-clause-was c =
    let k = c.args.key.now in
    (touched_some k c.args.list.now.items c.move_to_front.new.list.items c.in-Some.place
    (sym (c.in-Some.ensures ∙ ap (position (λ (e : Entry). key_eq k e.key)) c.deref.ensures.value)) c.move_to_front.ensures).0

pub returns-in-Some-clause-rows : goal.returns-in-Some-clause-rows
returns-in-Some-clause-rows c =
    let k = c.args.key.now in
    (touched_some k c.args.list.now.items c.move_to_front.new.list.items c.in-Some.place
    (sym (c.in-Some.ensures ∙ ap (position (λ (e : Entry). key_eq k e.key)) c.deref.ensures.value)) c.move_to_front.ensures).1

pub returns-in-None-clause-was : goal.returns-in-None-clause-was
returns-in-None-clause-was c =
    let k = c.args.key.now in
    (touched_none k c.args.list.now.items (sym (c.in-None.ensures ∙ ap (position (λ (e : Entry). key_eq k e.key)) c.deref.ensures.value))).0

pub returns-in-None-clause-rows : goal.returns-in-None-clause-rows
returns-in-None-clause-rows c =
    let k = c.args.key.now in
    (touched_none k c.args.list.now.items (sym (c.in-None.ensures ∙ ap (position (λ (e : Entry). key_eq k e.key)) c.deref.ensures.value))).1
