use Rattle.std.proofs.Common.{◌≡◌, ◌∙◌, ap, sym, None, bytes_eq, refl}
use Rattle.std.specs.Map.{lookup}
use Rattle.indexmap.proofs.CallerLemmas.{insert_entry-new}
use Rattle.iiif_fixity.specs.Manifests.{has_name, shown}
use Rattle.iiif_fixity.proofs.Listing.{has_lookup, not_there, shown_more, one_more}
use Rattle.iiif_fixity.proofs.manifest.Manifest.add.Goals as goal
use Rattle.iiif_fixity.proofs.manifest.Manifest.add.Goals.{in-Ok, in-Err}

pub returns-clause-ok : goal.returns-clause-ok
returns-clause-ok c =
    let es = c.self.inside.digests.entries in
    let none : lookup (λ k. bytes_eq c.args.name.now k.now) es ≡ None =
    not_there _ _ (has_lookup es c.args.name.now ∙ ap (λ entries. has_name entries c.args.name.now) c.self.view_is)
    (sym c.has.ensures ∙ c.if-has.false) in
    elim c.match-insert.branch [
      | in-Ok w ↦ rw w.result-is (
          ap shown (w.in-Ok.ensures.entries ∙ insert_entry-new _ c.self.inside.digests c.args.name c.args.digest none)
          ∙ (shown_more es (c.args.name, c.args.digest) ∙ one_more c.self.view_is refl))
      | in-Err w ↦ rw w.result-is tt
    ]
