use Rattle.std.proofs.Common.{◌∙◌, ℕ, ap, arith, drop, take}
use Rattle.iiif_keys.proofs.Numbers.{short_below}
use Rattle.iiif_keys.specs.Reading.{name_len}
use Rattle.iiif_peer_versions.proofs.KeyLemmas.{name_cut}
use Rattle.iiif_peer_versions.proofs.cutting.cut_name.Goals as goal

pub returns-clause-whole : goal.returns-clause-whole
returns-clause-whole c =
    let bytes = c.args.bytes.now in
    let len = c.len_of-len.ensures in
    let behind = c.split_at.ensures.back in
    name_cut bytes c.split_at-2.result.0.now c.split_at-2.result.1.now (λ i. omega (arith, c.type_inv.bytes i))
    (omega (arith, c.if-bytes-lt2.false, c.if-behind-len.false, len, c.split_at.ensures.back_len))
    (c.split_at-2.ensures.front ∙ (ap (λ (n : ℕ). take n c.split_at.result.1.now) len ∙ ap (λ t. take (name_len bytes) t) behind))
    (c.split_at-2.ensures.back ∙ (ap (λ (n : ℕ). drop n c.split_at.result.1.now) len ∙ ap (λ t. drop (name_len bytes) t) behind))

pub returns-clause-within : goal.returns-clause-within
returns-clause-within c =
    omega (
      arith,
      c.split_at-2.ensures.front_len,
      c.len_of-len.ensures,
      short_below c.args.bytes.now 0 (λ i. omega (arith, c.type_inv.bytes i)),
    )
