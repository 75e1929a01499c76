use Rattle.std.proofs.Common.{rules, ◌<◌, ◌^◌}
use Rattle.iiif_peer_link.proofs.values.ask_value_over.Goals as goal

pub ask_spelled_over-requires : goal.ask_spelled_over-requires
ask_spelled_over-requires g c =
    let columns : c.args.shape.now.dim.w < 2 ^ 32 = search rules in
    let rows : c.args.shape.now.dim.h < 2 ^ 32 = search rules in
    let is_key = c.laws.ensures.keys c.args.shape.now c.args.key.now columns rows c.name-name.ensures.name c.requires.fits in
    record {
      group_known = c.requires.group;
      key_within =
          rw (c.as_slice.ensures.value, c.in-Ok.ensures) (c.laws.ensures.key_len c.args.key.now is_key);
    }
