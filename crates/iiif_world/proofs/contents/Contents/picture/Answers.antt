use Rattle.std.proofs.Common.{position, sym, ap, ◌∙◌}
use Rattle.iiif_world.proofs.Shown.{shown_found, shown_missing}
use Rattle.iiif_world.specs.Code.{has_name}
use Rattle.iiif_world.proofs.contents.Contents.picture.Goals as goal

pub returns-in-Some : goal.returns-in-Some
returns-in-Some c =
    let name = c.args.name.now in
    let is = c.args.self.now.catalogue.items in
    let e = c.index.result.now in
    shown_found name is c.in-Some.place e e (sym (c.in-Some.ensures ∙ ap (position (has_name name)) c.deref.ensures.value)) c.index.ensures

pub returns-in-None : goal.returns-in-None
returns-in-None c =
    shown_missing c.args.name.now c.args.self.now.catalogue.items
    (sym (c.in-None.ensures ∙ ap (position (has_name c.args.name.now)) c.deref.ensures.value))
