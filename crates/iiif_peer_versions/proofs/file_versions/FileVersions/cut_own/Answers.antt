use Rattle.std.proofs.Common.{◌∙◌, ◌++◌, ◌<◌, [], ap, sym, subst, length}
use Rattle.std.specs.Prelude.{unwrap_or}
use Rattle.iiif_keys.specs.Bytes.{name_bytes}
use Rattle.iiif_peer_versions.specs.Told.{told}
use Rattle.iiif_peer_versions.proofs.KeyLemmas.{only_key}
use Rattle.iiif_peer_versions.proofs.file_versions.FileVersions.cut_own.Goals as goal

pub returns-in_default-clause-none : goal.returns-in_default-clause-none
returns-in_default-clause-none c key is =
    let split = c.in_ok-name.ensures.whole in
    let only = only_key (told c.args.self.now) c.args.wire.now c.in_ok-name.name.now c.in_ok-name.digits.now c.in_ok-text.rest.now
    (subst (λ t. length t < 65536) split c.in_ok-text.ensures.within) c.in_ok-name.ensures.size
    (c.in_ok-text.ensures.whole ∙ ap (λ t. name_bytes t ++ c.in_ok-text.rest.now) split) key is in
    c.in_default.ensures.none c.in_ok-name.digits.now only.named only.short only.known

pub returns-clause-none : goal.returns-clause-none
returns-clause-none c key is =
    let split = c.in_ok-name.ensures.whole in
    let only = only_key (told c.args.self.now) c.args.wire.now c.in_ok-name.name.now c.in_ok-name.digits.now c.in_ok-text.rest.now
    (subst (λ t. length t < 65536) split c.in_ok-text.ensures.within) c.in_ok-name.ensures.size
    (c.in_ok-text.ensures.whole ∙ ap (λ t. name_bytes t ++ c.in_ok-text.rest.now) split) key is in
    c.is_same.ensures.other c.if-is_same.false (ap (λ o. unwrap_or o []) (sym c.in-Some.ensures.told ∙ only.known))
