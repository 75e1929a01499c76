use Rattle.std.proofs.Common.{◌≡◌, ◌++◌, string_bytes, take}
use Rattle.std.specs.List.{flat_map}
use Rattle.iiif_event_list.specs.Texts.{spaced}
use Rattle.iiif_event_list.proofs.values.put_bytes.Given as goal

abbrev pub invariant-loop-sample : goal.invariant-loop-sample
invariant-loop-sample l = string_bytes l.text ≡ string_bytes l.initial.text ++ flat_map spaced (take l.sample-index l.samples)
