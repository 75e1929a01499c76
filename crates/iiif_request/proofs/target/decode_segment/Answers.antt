use Rattle.std.proofs.Common.{◌≡◌, ◌∙◌, true, rules}
use Rattle.iiif_request.specs.Code.{has_whole_escapes}
use Rattle.iiif_request.proofs.EscapeLemmas.{text_of_some, text_of_none}
use Rattle.iiif_request.proofs.target.decode_segment.Goals as goal

pub returns : goal.returns
returns c =
    let whole : has_whole_escapes c.args.raw.now ≡ true = search rules in
    text_of_some c.args.raw.now _ _ whole c.percent_decode.ensures.bytes c.in-Ok.ensures.ok_only_if_utf8
    (c.in-Ok-into_owned.ensures.ok ∙ c.in-Ok.ensures.value)

pub returns-in-Err-Utf8 : goal.returns-in-Err-Utf8
returns-in-Err-Utf8 c =
    let whole : has_whole_escapes c.args.raw.now ≡ true = search rules in
    text_of_none c.args.raw.now _ whole c.percent_decode.ensures.bytes (λ valid. cc (c.in-Err-Utf8.ensures.utf8 valid))
