use Rattle.std.proofs.Common.{◌≡◌, ◌∙◌, ap, sym, None, bytes_eq, refl}
use Rattle.std.specs.Map.{lookup}
use Rattle.indexmap.proofs.CallerLemmas.{insert_entry-new}
use Rattle.iiif_image_list.specs.Lists.{has_name, shown}
use Rattle.iiif_image_list.proofs.ListLemmas.{named_there, not_there, shown_more, one_more}
use Rattle.iiif_image_list.proofs.list.ImageList.add_named.Goals as goal
use Rattle.iiif_image_list.proofs.list.ImageList.add_named.Goals.{in-Ok, in-Err}

pub returns-clause-ok : goal.returns-clause-ok
returns-clause-ok c =
    let es = c.self.inside.files.entries in
    let none : lookup (λ k. bytes_eq c.args.name.now k.now) es ≡ None =
    not_there _ _ (named_there es c.args.name.now ∙ ap (λ images. has_name images c.args.name.now) c.self.view_is)
    (sym c.has.ensures ∙ c.if-has.false) in
    elim c.match-insert.branch [
      | in-Ok w ↦ rw w.result-is (
          ap shown (w.in-Ok.ensures.entries ∙ insert_entry-new _ c.self.inside.files c.args.name c.args.file none)
          ∙ (shown_more es (c.args.name, c.args.file) ∙ one_more c.self.view_is refl))
      | in-Err w ↦ rw w.result-is tt
    ]
