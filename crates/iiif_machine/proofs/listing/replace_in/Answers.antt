use Rattle.std.proofs.Common.{position, refl, sym, ap, ◌∙◌}
use Rattle.iiif_machine.specs.Keys.{key_eq}
use Rattle.iiif_machine.specs.declared.listing.Entry.{Entry}
use Rattle.iiif_machine.proofs.Placing.{replaced_some, replaced_none}
use Rattle.iiif_machine.proofs.listing.replace_in.Goals as goal

pub returns-in-Some : goal.returns-in-Some
returns-in-Some c =
    let k = c.args.entry.key in
    replaced_some c.args.entry c.args.list.now.items c.renew.new.list.items c.in-Some.place
    (sym (c.in-Some.ensures ∙ ap (position (λ (e : Entry). key_eq k e.key)) c.deref.ensures.value)) c.renew.ensures

pub returns-in-None : goal.returns-in-None
returns-in-None c =
    let k = c.args.entry.key in (
      refl,
      refl,
      replaced_none c.args.entry c.args.list.now.items
          (sym (c.in-None.ensures ∙ ap (position (λ (e : Entry). key_eq k e.key)) c.deref.ensures.value)),
    )
