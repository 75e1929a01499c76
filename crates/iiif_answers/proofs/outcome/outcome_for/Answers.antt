use Rattle.std.proofs.Common.{◌∙◌, sym, ap, refl}
use Rattle.iiif_request.specs.Targets.{resource_of}
use Rattle.iiif_tile_group.specs.Collection.{item_named}
use Rattle.iiif_tile_group.specs.Items.{item_of}
use Rattle.iiif_answers.specs.Answers.{no_item}
use Rattle.iiif_answers.specs.BaseUrl.{path_of}
use Rattle.iiif_answers.proofs.NameLemmas.{found_by_name}
use Rattle.iiif_answers.proofs.ReplyLemmas.{asks_for, base_replies, information_replies, words_refused, words_accepted}
use Rattle.iiif_answers.proofs.outcome.outcome_for.Goals as goal

pub returns-in_default-clause-comes : goal.returns-in_default-clause-comes
returns-in_default-clause-comes g c honest target asks =
    no_item (resource_of c.args.resource.now) asks
    (ap (item_named c.args.images.now) (sym c.identifier.ensures) ∙ sym c.in_default.ensures)

pub returns-in-Base-clause-comes : goal.returns-in-Base-clause-comes
returns-in-Base-clause-comes g c honest target asks =
    base_replies g.S.Source.bytes g.S.Source.keeps honest c.args.config.now c.args.images.now target c.in-Base.field-0
    (item_of c.in-Some.entry.now)
    (asks_for c.args.config.now c.args.images.now target (path_of c.args.config.now.base) c.identifier.result.now c.args.resource.now _
    (item_of c.in-Some.entry.now) refl asks c.in-Base.is c.identifier.ensures c.in-Some.ensures)

pub returns-in-Info-clause-comes : goal.returns-in-Info-clause-comes
returns-in-Info-clause-comes g c honest target asks =
    information_replies g.S.Source.bytes g.S.Source.keeps honest c.args.config.now c.args.images.now target c.in-Info.field-0
    (item_of c.in-Some.entry.now) c.sides.result
    (asks_for c.args.config.now c.args.images.now target (path_of c.args.config.now.base) c.identifier.result.now c.args.resource.now _
    (item_of c.in-Some.entry.now) refl asks c.in-Info.is c.identifier.ensures c.in-Some.ensures) c.sides.ensures

pub returns-in-Ok-clause-comes : goal.returns-in-Ok-clause-comes
returns-in-Ok-clause-comes g c honest target asks =
    words_accepted g.S.Source.bytes g.S.Source.keeps honest c.args.config.now c.args.images.now target c.in-Image.field-0 c.in-Image.words
    (item_of c.in-Some.entry.now) c.limits.result c.in-Ok.accepted c.accept.result
    (asks_for c.args.config.now c.args.images.now target (path_of c.args.config.now.base) c.identifier.result.now c.args.resource.now _
    (item_of c.in-Some.entry.now) refl asks c.in-Image.is c.identifier.ensures c.in-Some.ensures) c.limits.ensures.all c.in-Ok.is
    c.accept.ensures.accepts

pub returns-in-Ok-clause-found : goal.returns-in-Ok-clause-found
returns-in-Ok-clause-found g c =
    found_by_name c.args.images.now c.identifier.result.now (item_of c.in-Some.entry.now) (sym c.in-Some.ensures)

pub returns-in-Err-clause-comes : goal.returns-in-Err-clause-comes
returns-in-Err-clause-comes g c honest target asks =
    words_refused g.S.Source.bytes g.S.Source.keeps honest c.args.config.now c.args.images.now target c.in-Image.field-0 c.in-Image.words
    (item_of c.in-Some.entry.now) c.limits.result c.in-Err.refusal c.accept.result
    (asks_for c.args.config.now c.args.images.now target (path_of c.args.config.now.base) c.identifier.result.now c.args.resource.now _
    (item_of c.in-Some.entry.now) refl asks c.in-Image.is c.identifier.ensures c.in-Some.ensures) c.limits.ensures.all c.in-Err.is
    c.accept.ensures.accepts
