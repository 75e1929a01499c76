use Rattle.std.proofs.Common.{arith, ◌-◌, ◌≤◌, All, length, sym, subst}
use Rattle.std.proofs.lemmas.List.{take_all}
use Rattle.std.proofs.lemmas.Result.{err_from_is_err_and, IfErr-weaker, IfOk-weaker}
use Rattle.iiif_assemble.specs.Opening.{AreValuesOf, IsPart, IsPartsFault}
use Rattle.iiif_assemble.proofs.PartLemmas.{back_failed, both_values, failed_first, fault_of_key, one_value_more, told}
use Rattle.iiif_assemble.proofs.parts.+parts.Goals as goal

pub ask_in_turn-loop-part-preserved : goal.ask_in_turn-loop-part-preserved
ask_in_turn-loop-part-preserved g t c =
    one_value_more (g.G.Items.means c.args.pool.now.group.now) c.args.parts.now c.loop-part.part-index c.part-item.result
    c.in_ok-value.value c.loop-part.values.items c.keep.new.values.items c.loop-part-test.true (sym c.part-item.is)
    c.in_ok-value.ensures.value c.loop-part.invariant c.in_ok-keep.ensures.ok

pub ask_in_turn-returns-clause-values : goal.ask_in_turn-returns-clause-values
ask_in_turn-returns-clause-values g t c =
    let past : length c.args.parts.now ≤ c.loop-part.part-index = omega arith in
    subst (λ ks. AreValuesOf (g.G.Items.means c.args.pool.now.group.now) ks c.loop-part.values.items)
    (take_all c.loop-part.part-index c.args.parts.now past) c.loop-part.invariant

pub share-returns-in_default-clause-values : goal.share-returns-in_default-clause-values
share-returns-in_default-clause-values g t c =
    IfOk-weaker c.concat.result _ _
    (λ v e. both_values (g.G.Items.means c.args.pool.now.group.now) 1 c.args.parts.now c.split_at.result.0.now c.split_at.result.1.now
    c.in_ok-first.first.items c.in_ok-rest.rest.items v.items
    c.split_at.ensures.front c.split_at.ensures.back c.in_ok-first.ensures.values c.in_ok-rest.ensures.values e)
    c.concat.ensures.ok

pub share-returns-in-Ok-rest-clause-values : goal.share-returns-in-Ok-rest-clause-values
share-returns-in-Ok-rest-clause-values g t c =
    let a = rw c.in-Ok.is at c.join-rest.ensures.second.0 in
    let b = rw c.in-Ok-rest.is at c.join-rest.ensures.first.0 in
    IfOk-weaker c.concat-in-Ok-rest.result _ _
    (λ v e. both_values (g.G.Items.means c.args.pool.now.group.now) (length c.args.parts.now - 1) c.args.parts.now
    c.split_at-2.result.0.now c.split_at-2.result.1.now c.in-Ok.first.items c.in-Ok-rest.rest.items v.items
    c.split_at-2.ensures.front c.split_at-2.ensures.back a b e)
    c.concat-in-Ok-rest.ensures.ok

pub ask_in_turn-returns-in_err-value-clause-fault : goal.ask_in_turn-returns-in_err-value-clause-fault
ask_in_turn-returns-in_err-value-clause-fault g t c =
    let means = g.G.Items.means c.args.pool.now.group.now in
    let failed = g.G.Items.failed c.args.pool.now.group.now in
    told (IsPartsFault means failed c.args.parts.now) c.from_residual.result c.in_err-value.field-0.0
    (failed_first means failed c.args.parts.now c.loop-part.part-index c.part-item.result c.loop-part.values.items _ c.loop-part-test.true
    (sym c.part-item.is) c.loop-part.invariant c.in_err-value.ensures.fault)
    (err_from_is_err_and c.from_residual.result c.from_residual.ensures.1)

pub share-returns-in_err-rest-clause-fault : goal.share-returns-in_err-rest-clause-fault
share-returns-in_err-rest-clause-fault g t c =
    let means = g.G.Items.means c.args.pool.now.group.now in
    let failed = g.G.Items.failed c.args.pool.now.group.now in
    told (IsPartsFault means failed c.args.parts.now) c.from_residual-in_err-rest.result c.in_err-rest.field-0.0
    (back_failed means failed 1 c.args.parts.now c.split_at.result.0.now c.split_at.result.1.now c.in_ok-first.first.items _
    c.split_at.ensures.front c.split_at.ensures.back c.in_ok-first.ensures.values c.in_err-rest.ensures.fault)
    (err_from_is_err_and c.from_residual-in_err-rest.result c.from_residual-in_err-rest.ensures.1)

pub share-returns-in-Err-rest-clause-fault : goal.share-returns-in-Err-rest-clause-fault
share-returns-in-Err-rest-clause-fault g t c =
    let a = rw c.in-Ok.is at c.join-rest.ensures.second.0 in
    let b = rw c.in-Err-rest.is at c.join-rest.ensures.first.1 in
    back_failed (g.G.Items.means c.args.pool.now.group.now) (g.G.Items.failed c.args.pool.now.group.now) (length c.args.parts.now - 1)
    c.args.parts.now c.split_at-2.result.0.now c.split_at-2.result.1.now c.in-Ok.first.items c.in-Err-rest.later c.split_at-2.ensures.front
    c.split_at-2.ensures.back a b

pub ask-close-requires-clause-fault : goal.ask-close-requires-clause-fault
ask-close-requires-clause-fault g t c =
    let group = c.args.pool.now.group.now in
    let part = IsPart (g.G.Items.fits group) (g.G.Items.rank group) (g.G.Items.failed group) c.args.key.now in
    let opened = rw c.in-Ok-Parts.field-0-is at c.in-Ok-Parts.ensures.opened in
    let all : All part c.deref.result.now = subst (All part) (sym c.deref.ensures.value) opened.1 in
    IfErr-weaker c.share-values.result _ _
    (λ f h. fault_of_key (g.G.Items.fits group) (g.G.Items.means group) (g.G.Items.rank group) (g.G.Items.failed group) c.args.key.now
    c.deref.result.now f all h)
    c.share-values.ensures.fault
