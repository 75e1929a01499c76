use Rattle.std.proofs.Common.{◌≡◌, ◌++◌, map, take}
use Rattle.std.specs.Prelude.{string_bytes}
use Rattle.std.specs.List.{flat_map}
use Rattle.iiif_http_front.specs.AnswerHeads.{status_line, field_line, name_and_value}
use Rattle.iiif_http_front.specs.Statuses.{code_of}
use Rattle.iiif_http_front.proofs.answer_head.head_bytes.Given as goal

abbrev pub invariant-loop-field : goal.invariant-loop-field
invariant-loop-field l = string_bytes l.text ≡
    status_line (code_of l.fn.status) ++ flat_map field_line (map name_and_value (take l.field-index l.fields))
