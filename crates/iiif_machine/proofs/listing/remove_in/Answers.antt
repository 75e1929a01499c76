use Rattle.std.proofs.Common.{position, sym, ap, ◌∙◌}
use Rattle.iiif_machine.specs.Keys.{key_eq}
use Rattle.iiif_machine.specs.declared.listing.Entry.{Entry}
use Rattle.iiif_machine.specs.Entries.{rows}
use Rattle.iiif_machine.proofs.Placing.{removed_some, removed_none}
use Rattle.iiif_machine.proofs.listing.remove_in.Goals as goal

pub returns-in-Some : goal.returns-in-Some
returns-in-Some c =
    let k = c.args.key.now in
    ap rows c.remove-gone.ensures.items
    ∙ removed_some k c.args.list.now.items c.in-Some.place
    (sym (c.in-Some.ensures ∙ ap (position (λ (e : Entry). key_eq k e.key)) c.deref.ensures.value))

pub returns-in-None : goal.returns-in-None
returns-in-None c =
    let k = c.args.key.now in
    removed_none k c.args.list.now.items (sym (c.in-None.ensures ∙ ap (position (λ (e : Entry). key_eq k e.key)) c.deref.ensures.value))
