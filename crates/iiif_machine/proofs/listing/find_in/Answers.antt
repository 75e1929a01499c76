use Rattle.std.proofs.Common.{ℕ, position, sym, ap, ◌∙◌, Option, Some}
use Rattle.iiif_tables.specs.Cache.{Kept}
use Rattle.iiif_machine.specs.declared.keys.Value.{Value}
use Rattle.iiif_machine.specs.Keys.{key_eq}
use Rattle.iiif_machine.specs.declared.listing.Entry.{Entry}
use Rattle.iiif_machine.proofs.Placing.{looked_some, looked_none}
use Rattle.iiif_machine.proofs.listing.find_in.Goals as goal

abbrev held : ℕ → Value → Option (Kept Value)
held n v = Some (record { value = v; ticket = n })

pub returns-in_ok-value-in-Some : goal.returns-in_ok-value-in-Some
returns-in_ok-value-in-Some c =
    let k = c.args.key.now in
    let e = c.index-entry.result.now in
    ap (held e.ticket) c.in_ok-value-in-Some.ensures
    ∙ looked_some k c.args.list.now.items c.in-Some.place e e
    (sym (c.in-Some.ensures ∙ ap (position (λ (x : Entry). key_eq k x.key)) c.deref.ensures.value)) c.index-entry.ensures

pub returns-in-None : goal.returns-in-None
returns-in-None c =
    let k = c.args.key.now in
    looked_none k c.args.list.now.items (sym (c.in-None.ensures ∙ ap (position (λ (x : Entry). key_eq k x.key)) c.deref.ensures.value))
