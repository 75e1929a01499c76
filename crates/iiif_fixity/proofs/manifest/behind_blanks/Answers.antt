use Rattle.std.proofs.Common.{◌<◌, length, ap, sym, ◌∙◌, rules}
use Rattle.iiif_fixity.specs.Manifests.{behind_blanks}
use Rattle.iiif_fixity.proofs.Lines.{behind_more, behind_done}
use Rattle.iiif_fixity.proofs.manifest.behind_blanks.Goals as goal

pub loop-rest-preserved : goal.loop-rest-preserved
loop-rest-preserved c =
    let some : 0 < length c.loop-rest.rest.now = search rules in
    ap behind_blanks c.behind_first-rest.ensures.first ∙
    (behind_more c.loop-rest.rest.now (sym c.begins_blank.ensures.blank ∙ c.loop-rest-test.true) some ∙ c.loop-rest.invariant)

pub returns : goal.returns
returns c = behind_done c.loop-rest.rest.now (sym c.begins_blank.ensures.blank ∙ c.loop-rest-test.false) ∙ c.loop-rest.invariant
