use Rattle.std.proofs.Common.{◌≡◌, ap, subst, sym, true, ◌∙◌}
use Rattle.iiif_keys.specs.Names.{is_name}
use Rattle.iiif_keys.proofs.Names.{name_is_true}
use Rattle.iiif_keys.proofs.name.Name.from_bytes.Goals as goal

pub new-requires : goal.new-requires
new-requires c = subst (λ text. is_name text ≡ true) (sym (ap (λ v. v.items) c.in-Ok.ensures.ok ∙ c.in_ok-from_slice.ensures.items))
    (name_is_true c.args.bytes.now c.requires)
