use Rattle.std.proofs.Common.{◌+◌, string_bytes}
use Rattle.std.proofs.lemmas.Result.{err_from_is_err_and}
use Rattle.iiif_event_list.specs.Code.{HasRequest, HasWord}
use Rattle.iiif_event_list.proofs.Bad.{bad_on, not_requested}
use Rattle.iiif_event_list.proofs.reading.request.Goals as goal

pub returns-in_err-text-3-clause-bad : goal.returns-in_err-text-3-clause-bad
returns-in_err-text-3-clause-bad c =
    let ws = c.args.words.now in
    bad_on (HasWord ws (c.args.at + 2)) (HasRequest ws c.args.at) c.from_residual-in_err-text-3.result c.in_err-text-3.field-0.0
    (λ h. (h.1.rotation, h.1.rotations)) c.in_err-text-3.ensures.bad
    (err_from_is_err_and c.from_residual-in_err-text-3.result c.from_residual-in_err-text-3.ensures.1)

pub returns-in_err-text-4-clause-bad : goal.returns-in_err-text-4-clause-bad
returns-in_err-text-4-clause-bad c =
    let ws = c.args.words.now in
    bad_on (HasWord ws (c.args.at + 3)) (HasRequest ws c.args.at) c.from_residual-in_err-text-4.result c.in_err-text-4.field-0.0
    (λ h. (h.1.quality, h.1.qualities)) c.in_err-text-4.ensures.bad
    (err_from_is_err_and c.from_residual-in_err-text-4.result c.from_residual-in_err-text-4.ensures.1)

pub returns-in_default-clause-bad : goal.returns-in_default-clause-bad
returns-in_default-clause-bad c =
    not_requested c.args.words.now c.args.at (record {
      region = string_bytes c.in_ok-text.field-0;
      size = string_bytes c.in_ok-text-2.field-0;
      rotation = string_bytes c.in_ok-text-3.field-0;
      quality = string_bytes c.in_ok-text-4.field-0;
      format = string_bytes c.in_ok-from_str.field-0;
    }) c.parse.result c.in_ok-text.ensures.read c.in_ok-text-2.ensures.read c.in_ok-text-3.ensures.read c.in_ok-text-4.ensures.read
    c.in_ok-from_str.ensures.ok c.in_default.not-Ok c.parse.ensures.says
