use Rattle.std.proofs.Common.{◌≡◌, ◌∙◌, List, [], All, Global, ap, map, subst, sym}
use Rattle.std.specs.Arc.{arc_value}
use Rattle.std.specs.declared.sync.Arc.{Arc}
use Rattle.std.proofs.lemmas.List.Elements.{All-head}
use Rattle.std.proofs.lemmas.Result.{IfOk-weaker}
use Rattle.iiif_pixel.specs.Geometry.{channels_of, sides_of, top_of}
use Rattle.iiif_pixel.specs.Picture.{Picture}
use Rattle.iiif_area.specs.Grid.{finished}
use Rattle.iiif_keys.specs.declared.values.SumVal.{SumVal}
use Rattle.iiif_assemble.specs.Code.{sums_in, total_of}
use Rattle.iiif_assemble.proofs.LoneLemmas.{finished-alone}
use Rattle.iiif_assemble.proofs.merging.made_of.Goals as goal

pub returns-in-Some-clause-image : goal.returns-in-Some-clause-image
returns-in-Some-clause-image g c =
    let n = channels_of c.args.job.now.shape.kind in
    let region = sides_of c.args.job.now.resolved.now.rect in
    let top = top_of c.args.job.now.shape.depth in
    let v = c.in-Some.value.now in
    let P : Arc SumVal Global → Type 0 = λ a. (sums_in (arc_value a)).channels ≡ n in
    let channels = All-head P v [] (subst (All P) c.in-Some.ensures.only c.requires.channels) in
    IfOk-weaker c.made_of_one.result _ _ (λ m made.
    made ∙ finished-alone c.args.from n (sums_in (arc_value v)) region top c.in-Some.ensures.grid channels c.in-Some.ensures.inside
    ∙ ap (λ (vs : List (Arc SumVal Global)). finished (total_of c.args.from n (map arc_value vs)) region top c.args.from)
    (sym c.in-Some.ensures.only)) c.made_of_one.ensures.image

pub returns-in-Some-clause-channels : goal.returns-in-Some-clause-channels
returns-in-Some-clause-channels g c =
    let n = channels_of c.args.job.now.shape.kind in
    let v = c.in-Some.value.now in
    let P : Arc SumVal Global → Type 0 = λ a. (sums_in (arc_value a)).channels ≡ n in
    let channels = All-head P v [] (subst (All P) c.in-Some.ensures.only c.requires.channels) in
    IfOk-weaker c.made_of_one.result _ _ (λ m made. ap (λ (p : Picture). p.channels) made ∙ channels) c.made_of_one.ensures.image
