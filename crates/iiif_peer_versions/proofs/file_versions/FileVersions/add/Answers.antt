use Rattle.std.proofs.Common.{◌∙◌, ap, bytes_eq, string_bytes, Some}
use Rattle.std.proofs.lemmas.Map.Text.{btree_map_updates_text}
use Rattle.std.specs.Map.{update}
use Rattle.iiif_peer_versions.specs.Told.{told}
use Rattle.iiif_peer_versions.proofs.file_versions.FileVersions.add.Goals as goal

pub returns : goal.returns
returns c other =
    let digits = Some c.digits.result in
    btree_map_updates_text (string_bytes c.in_ok-name.name) c.args.self.now.digits c.insert.new.self digits c.in_ok-insert.ensures.updates
    other
    ∙ (ap (λ n. update bytes_eq (told c.args.self.now) n digits other) c.in_ok-name.ensures.ok
    ∙ ap (λ d. update bytes_eq (told c.args.self.now) c.args.name.now (Some d) other) c.digits.ensures)
