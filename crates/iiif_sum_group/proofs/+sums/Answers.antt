use Rattle.std.proofs.Common.{arith, rules, ◌≡◌, ◌∙◌, ◌+◌, ◌*◌, ◌<◌, ◌≤◌, ℕ, List, length, refl, sym, subst, get_or, Global, IsTrue}
use Rattle.std.proofs.lemmas.List.{take_all}
use Rattle.std.proofs.lemmas.List.Elements.{All-get_or}
use Rattle.std.proofs.lemmas.Result.{err_from_is_err_and, IfOk-at_ok}
use Rattle.std.specs.Arc.{arc_value}
use Rattle.std.specs.declared.sync.Arc.{Arc}
use Rattle.std.specs.Prelude.{◌^◌}
use Rattle.iiif_pixel.specs.Geometry.{channels_of}
use Rattle.iiif_keys.specs.Laws.{IsBelow}
use Rattle.iiif_keys.specs.Meaning.{sum_is_shaped, sum_meaning, sums_below}
use Rattle.iiif_keys.specs.Shapes.{HasPicture}
use Rattle.iiif_keys.specs.declared.keys.SumKey.{SumKey}
use Rattle.iiif_keys.specs.declared.values.SumVal.{SumVal}
use Rattle.iiif_outcome.specs.Outcomes.{is_given}
use Rattle.iiif_sum_group.specs.Values.{AreValuesOf, MayBeAsked}
use Rattle.iiif_sum_group.specs.Below.{blocks_below}
use Rattle.iiif_sum_group.proofs.CountLemmas.{below_of_parts, one_more_asked, one_part_more, parts_of_quarters}
use Rattle.iiif_sum_group.proofs.SumLemmas.{fault_passed_on, one_value_more}
use Rattle.iiif_sum_group.proofs.+sums.Goals as goal

pub below::Below::ask_parts-loop-part-preserved : goal.below::Below::ask_parts-loop-part-preserved
below::Below::ask_parts-loop-part-preserved g t c =
    let shows = g.J.System.pictures in
    let s = c.args.shape.now in
    let keys = c.args.keys.now in
    let i = c.loop-part.part-index in
    let k = c.part-item.result in
    let v = c.in_ok-value.value in
    let before = c.loop-part.invariant in
    let asked = c.in_ok-receipt.ensures in
    let item : get_or keys i k ≡ k = sym c.part-item.is in
    let below : IsBelow c.args.key.now k = subst (IsBelow c.args.key.now) item
    (All-get_or (IsBelow c.args.key.now) keys i k c.loop-part-test.true c.requires.may.below) in
    let known : HasPicture shows k.name s = subst (λ (m : List ℕ). HasPicture shows m s) (sym below.name) c.requires.may.known in
    record {
      values = one_value_more shows s (g.J.System.stable c.args.key.now.name × IsTrue g.J.System.honest) keys i k v c.loop-part.values.items
          c.keep.new.values.items c.loop-part-test.true item
          (λ trusted. c.in_ok-value.ensures.meant (subst (λ (m : List ℕ). g.J.System.stable m) (sym below.name) trusted.0) trusted.1 v refl)
          ((c.laws.ensures.shapes shows s k (arc_value v) known).0 (c.in_ok-value.ensures.shaped v refl)) before.values
          c.in_ok-keep.ensures.ok;
      tile = omega (arith, before.tile, asked.counted.0);
      sum = omega (arith, before.sum, asked.risen);
      most_sum = one_part_more (λ l. 2 * (1 + blocks_below l)) c.args.key.now.level k.level _ _ _ i below.level before.most_sum
          asked.below.sums;
      most_tile = one_part_more (λ l. 2 * 4 ^ l) c.args.key.now.level k.level _ _ _ i below.level before.most_tile asked.below.tiles;
      tile_parts = asked.parts.0 ∙ before.tile_parts;
      sum_parts = asked.parts.1 ∙ before.sum_parts;
    }

pub below::Below::ask_parts-returns-in_err-value-clause-given : goal.below::Below::ask_parts-returns-in_err-value-clause-given
below::Below::ask_parts-returns-in_err-value-clause-given g t c =
    let keys = c.args.keys.now in
    let i = c.loop-part.part-index in
    let k = c.part-item.result in
    let f = c.in_err-value.field-0.0 in
    let below : IsBelow c.args.key.now k = subst (IsBelow c.args.key.now) (sym c.part-item.is)
    (All-get_or (IsBelow c.args.key.now) keys i k c.loop-part-test.true c.requires.may.below) in
    fault_passed_on (λ x. IsTrue (is_given (g.J.System.gave c.args.key.now.name) x)) c.from_residual-in_err-value.result f
    (subst (λ (m : List ℕ). IsTrue (is_given (g.J.System.gave m) f)) below.name (c.in_err-value.ensures.given f refl))
    (err_from_is_err_and c.from_residual-in_err-value.result c.from_residual-in_err-value.ensures.1)

pub below::Below::ask_parts-returns-clause-values : goal.below::Below::ask_parts-returns-clause-values
below::Below::ask_parts-returns-clause-values g t c =
    let past : length c.args.keys.now ≤ c.loop-part.part-index = omega arith in
    subst (λ (ks : List SumKey). AreValuesOf g.J.System.pictures c.args.shape.now
    (g.J.System.stable c.args.key.now.name × IsTrue g.J.System.honest) ks c.loop-part.values.items)
    (take_all c.loop-part.part-index c.args.keys.now past) c.loop-part.invariant.values

pub below::Below::ask_parts-returns-clause-asked : goal.below::Below::ask_parts-returns-clause-asked
below::Below::ask_parts-returns-clause-asked g t c =
    let past : length c.args.keys.now ≤ c.loop-part.part-index = omega arith in
    omega (arith, past, c.loop-part.invariant.sum)

pub below::Below::ask_parts-returns-in_err-receipt-clause-below : goal.below::Below::ask_parts-returns-in_err-receipt-clause-below
below::Below::ask_parts-returns-in_err-receipt-clause-below g t c =
    let keys = c.args.keys.now in
    let i = c.loop-part.part-index in
    let k = c.part-item.result in
    let below : IsBelow c.args.key.now k = subst (IsBelow c.args.key.now) (sym c.part-item.is)
    (All-get_or (IsBelow c.args.key.now) keys i k c.loop-part-test.true c.requires.may.below) in
    one_more_asked c.args.key.now k _ _ _ i (length keys) below.level c.loop-part-test.true c.loop-part.invariant.most_sum
    c.loop-part.invariant.most_tile c.ask_part.ensures.below

pub below::Below::ask_parts-returns-in_err-value-clause-below : goal.below::Below::ask_parts-returns-in_err-value-clause-below
below::Below::ask_parts-returns-in_err-value-clause-below g t c =
    let keys = c.args.keys.now in
    let i = c.loop-part.part-index in
    let k = c.part-item.result in
    let below : IsBelow c.args.key.now k = subst (IsBelow c.args.key.now) (sym c.part-item.is)
    (All-get_or (IsBelow c.args.key.now) keys i k c.loop-part-test.true c.requires.may.below) in
    one_more_asked c.args.key.now k _ _ _ i (length keys) below.level c.loop-part-test.true c.loop-part.invariant.most_sum
    c.loop-part.invariant.most_tile c.ask_part.ensures.below

pub below::Below::ask_parts-returns-in_err-keep-clause-below : goal.below::Below::ask_parts-returns-in_err-keep-clause-below
below::Below::ask_parts-returns-in_err-keep-clause-below g t c =
    let keys = c.args.keys.now in
    let i = c.loop-part.part-index in
    let k = c.part-item.result in
    let below : IsBelow c.args.key.now k = subst (IsBelow c.args.key.now) (sym c.part-item.is)
    (All-get_or (IsBelow c.args.key.now) keys i k c.loop-part-test.true c.requires.may.below) in
    one_more_asked c.args.key.now k _ _ _ i (length keys) below.level c.loop-part-test.true c.loop-part.invariant.most_sum
    c.loop-part.invariant.most_tile c.ask_part.ensures.below

pub below::Below::make_of_parts-returns-in-Ok-combine_parts-clause-made :
    goal.below::Below::make_of_parts-returns-in-Ok-combine_parts-clause-made
below::Below::make_of_parts-returns-in-Ok-combine_parts-clause-made g t c =
    let key = c.args.key.now in
    let quarters = c.args.quarters.now in
    record {
      meant = λ stable honest x e. IfOk-at_ok (λ (v : Arc SumVal Global). arc_value v ≡ sum_meaning g.J.System.pictures key) e
          (c.combine_parts.ensures.meant stable honest c.in-Ok-combine_parts.value c.in-Ok-combine_parts.is);
      shaped = λ x e. IfOk-at_ok (λ (v : Arc SumVal Global). IsTrue (sum_is_shaped g.J.System.pictures key (arc_value v))) e
          (c.combine_parts.ensures.shaped c.in-Ok-combine_parts.value c.in-Ok-combine_parts.is);
      given = search rules;
      below = below_of_parts key quarters _ _ c.requires.quarters.level c.requires.quarters.quarters_are c.ask_parts.ensures.below;
      asked = λ v e. parts_of_quarters key quarters _ _ c.requires.quarters.level c.requires.quarters.quarters_are c.in-Ok.ensures.asked;
      counted = search rules;
      parts = search rules;
    }

pub below::Below::make_of_parts-returns-in-Err-combine_parts-clause-made :
    goal.below::Below::make_of_parts-returns-in-Err-combine_parts-clause-made
below::Below::make_of_parts-returns-in-Err-combine_parts-clause-made g t c =
    let key = c.args.key.now in
    let quarters = c.args.quarters.now in
    record {
      meant = search rules;
      shaped = search rules;
      given = search rules;
      below = below_of_parts key quarters _ _ c.requires.quarters.level c.requires.quarters.quarters_are c.ask_parts.ensures.below;
      asked = search rules;
      counted = search rules;
      parts = search rules;
    }

pub below::Below::make_of_parts-returns-in-Err-clause-made : goal.below::Below::make_of_parts-returns-in-Err-clause-made
below::Below::make_of_parts-returns-in-Err-clause-made g t c =
    let key = c.args.key.now in
    let quarters = c.args.quarters.now in
    record {
      meant = search rules;
      shaped = search rules;
      given = search rules;
      below = below_of_parts key quarters _ _ c.requires.quarters.level c.requires.quarters.quarters_are c.ask_parts.ensures.below;
      asked = search rules;
      counted = search rules;
      parts = search rules;
    }

-- Nothing is left to prove of the clause `late`: an edit writes here what would be, of a body that makes the total first;
-- and no arithmetic proves it, as no part was asked by then.

pub below::Below::make_of_parts-ask_parts-requires : goal.below::Below::make_of_parts-ask_parts-requires
below::Below::make_of_parts-ask_parts-requires g t c κs within =
    let shows = g.J.System.pictures in
    let s = c.args.shape.now in
    let key = c.args.key.now in
    let exact = c.parts_are_exact.ensures in
    let all : MayBeAsked shows s key (sums_below key) = record {
      known = c.requires.quarters.known;
      source = c.requires.quarters.source;
      below = exact.below key c.requires.quarters.level;
      fits = exact.fit s.dim (channels_of s.kind) key c.requires.quarters.level c.requires.quarters.fits;
    } in
    let may : MayBeAsked shows s key c.args.quarters.now = subst (MayBeAsked shows s key) (sym c.requires.quarters.quarters_are) all in
    let falls : 5 * key.level < t = omega (arith, c.decreases) in
    (falls, (within.0, (within.1.0, (within.1.1.0, (within.1.1.1.0, (within.1.1.1.1, (c.requires.level, may)))))))

pub below::Below::make_of_parts-combine_parts-requires : goal.below::Below::make_of_parts-combine_parts-requires
below::Below::make_of_parts-combine_parts-requires g t c =
    let key = c.args.key.now in
    record {
      known = c.requires.quarters.known;
      source = c.requires.quarters.source;
      fits = c.requires.quarters.fits;
      level = c.requires.quarters.level;
      values_are = subst (λ (ks : List SumKey). AreValuesOf g.J.System.pictures c.args.shape.now
          (g.J.System.stable key.name × IsTrue g.J.System.honest) ks c.in-Ok.values.items) c.requires.quarters.quarters_are
          c.in-Ok.ensures.values;
    }
