use Rattle.std.proofs.Common.{◌≡◌, suc, ◌+◌, ◌-◌, arith, sym, ap, ◌∙◌}
use Rattle.iiif_tables.specs.Cache.{evict_at_most}
use Rattle.iiif_tables.proofs.CacheLaws.{evict_none, evict_one}
use Rattle.iiif_machine.specs.Keys.{entry_size}
use Rattle.iiif_machine.specs.Entries.{cache_of}
use Rattle.iiif_machine.proofs.Placing.{evict_zero}
use Rattle.iiif_machine.proofs.caching.PlainCache.shrink.Goals as goal

pub returns-then-is_within : goal.returns-then-is_within
returns-then-is_within c = sym (evict_none entry_size _ (cache_of c.loop.self) c.if-is_within.ensures) ∙ c.loop.invariant

pub loop-preserved : goal.loop-preserved
loop-preserved c =
    let count = c.len.result + c.len-2.result in
    let now = cache_of c.loop.self in
    let n = count - (c.loop.counter + 1) in
    let one : suc n ≡ count - c.loop.counter = omega (arith, c.loop-test.true) in
    ap (evict_at_most entry_size n) c.evict.ensures
    ∙ sym (evict_one entry_size n now c.if-is_within.ensures)
    ∙ ap (λ m. evict_at_most entry_size m now) one
    ∙ c.loop.invariant

pub returns : goal.returns
returns c =
    let now = cache_of c.loop.self in
    let none : 0 ≡ c.len.result + c.len-2.result - c.loop.counter = omega (arith, c.loop-test.false) in
    sym (evict_zero now) ∙ ap (λ m. evict_at_most entry_size m now) none ∙ c.loop.invariant
