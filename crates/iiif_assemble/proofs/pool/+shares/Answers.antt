use Rattle.std.proofs.Common.{◌≡◌, ℕ, drop, map, refl, subst, take, vec_len}
use Rattle.std.specs.Arc.{arc_value}
use Rattle.std.proofs.lemmas.Result.{IfOk-weaker}
use Rattle.iiif_assemble.specs.Gathering.{AreValues}
use Rattle.iiif_assemble.proofs.ZipLemmas.{runs_joined, second_failed}
use Rattle.iiif_assemble.proofs.pool.+shares.Goals as goal

pub share_out-returns-in-Ok-clause-values : goal.share_out-returns-in-Ok-clause-values
share_out-returns-in-Ok-clause-values g t c =
    let means = g.G.Items.means c.args.pool.now.group.now in
    let keys = c.args.keys.now in
    let items = c.args.items.now in
    let values = c.in_ok-values.field-0.values in
    let left = c.split_at.result.1.now in
    let back : left ≡ drop (vec_len values) items = subst (λ (n : ℕ). left ≡ drop n items) c.len.ensures c.split_at.ensures.back in
    let had : AreValues means keys (take (vec_len values) items) (map arc_value values.items) =
    c.in_ok-values.ensures.values in
    IfOk-weaker c.concat.result _ _
    (λ v e. runs_joined arc_value means keys items (take (vec_len values) items) left (vec_len values) values.items c.in-Ok.rest.items
    v.items refl back had c.in-Ok.ensures.values e)
    c.concat.ensures.ok

pub share_out-returns-in-Err-clause-fault : goal.share_out-returns-in-Err-clause-fault
share_out-returns-in-Err-clause-fault g t c =
    let means = g.G.Items.means c.args.pool.now.group.now in
    let keys = c.args.keys.now in
    let items = c.args.items.now in
    let values = c.in_ok-values.field-0.values in
    let left = c.split_at.result.1.now in
    let back : left ≡ drop (vec_len values) items = subst (λ (n : ℕ). left ≡ drop n items) c.len.ensures c.split_at.ensures.back in
    let had : AreValues means keys (take (vec_len values) items) (map arc_value values.items) =
    c.in_ok-values.ensures.values in
    second_failed means (g.G.Items.failed c.args.pool.now.group.now) keys items (take (vec_len values) items) left (vec_len values)
    (map arc_value values.items) c.in-Err.fault refl back had c.in-Err.ensures.fault

pub split-returns-in-Ok-rest-clause-values : goal.split-returns-in-Ok-rest-clause-values
split-returns-in-Ok-rest-clause-values g t c =
    let a = rw c.in-Ok.is at c.join-rest.ensures.second.0 in
    let b = rw c.in-Ok-rest.is at c.join-rest.ensures.first.0 in
    IfOk-weaker c.concat.result _ _
    (λ v e. runs_joined arc_value (g.G.Items.means c.args.pool.now.group.now) c.args.keys.now c.args.items.now c.split_at.result.0.now
    c.split_at.result.1.now _
    c.in-Ok.first.items c.in-Ok-rest.rest.items v.items c.split_at.ensures.front c.split_at.ensures.back a b e)
    c.concat.ensures.ok

pub split-returns-in-Err-rest-clause-fault : goal.split-returns-in-Err-rest-clause-fault
split-returns-in-Err-rest-clause-fault g t c =
    let a = rw c.in-Ok.is at c.join-rest.ensures.second.0 in
    let b = rw c.in-Err-rest.is at c.join-rest.ensures.first.1 in
    second_failed (g.G.Items.means c.args.pool.now.group.now) (g.G.Items.failed c.args.pool.now.group.now) c.args.keys.now c.args.items.now
    c.split_at.result.0.now c.split_at.result.1.now _
    (map arc_value c.in-Ok.first.items) c.in-Err-rest.later c.split_at.ensures.front c.split_at.ensures.back a b
