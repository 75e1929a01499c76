use Rattle.std.proofs.Common.{subst, refl}
use Rattle.iiif_tile_group.specs.Items.{item_of}
use Rattle.iiif_answers.specs.Allowed.{own}
use Rattle.iiif_answers.specs.Answers.{Replies, refused, redirect, described}
use Rattle.iiif_answers.specs.Outcomes.{ComesTo}
use Rattle.iiif_answers.proofs.MessageLemmas.{may_be_given}
use Rattle.iiif_answers.proofs.message.message_of.Goals as goal

pub returns-in-Refused : goal.returns-in-Refused
returns-in-Refused g c honest items target comes =
    let reaches = Replies g.S.Source.bytes g.S.Source.keeps honest c.args.config.now items target in
    let came : reaches (refused c.in-Refused.refusal) =
    subst (ComesTo g.S.Source.bytes g.S.Source.keeps honest reaches) c.in-Refused.is comes in
    may_be_given c.args.config.now c.args.part g.S.Source.gave reaches c.refusal_message.result _
    (own (refused c.in-Refused.refusal) came, refl) c.refusal_message.ensures

pub returns-in-Redirect : goal.returns-in-Redirect
returns-in-Redirect g c honest items target comes =
    let reaches = Replies g.S.Source.bytes g.S.Source.keeps honest c.args.config.now items target in
    let item = item_of c.in-Redirect.entry.now in
    let came : reaches (redirect item) = subst (ComesTo g.S.Source.bytes g.S.Source.keeps honest reaches) c.in-Redirect.is comes in
    may_be_given c.args.config.now c.args.part g.S.Source.gave reaches c.redirect_message.result _ (own (redirect item) came, refl)
    (rw (c.base.ensures, c.as_str.ensures.text) at c.redirect_message.ensures)

pub returns-in-Information : goal.returns-in-Information
returns-in-Information g c honest items target comes =
    let reaches = Replies g.S.Source.bytes g.S.Source.keeps honest c.args.config.now items target in
    let item = item_of c.in-Information.entry.now in
    let came : reaches (described item c.in-Information.dim) =
    subst (ComesTo g.S.Source.bytes g.S.Source.keeps honest reaches) c.in-Information.is comes in
    may_be_given c.args.config.now c.args.part g.S.Source.gave reaches c.information_message.result _
    (own (described item c.in-Information.dim) came, refl)
    (rw c.as_str-in-Information.ensures.text at c.information_message.ensures)
