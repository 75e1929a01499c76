use Rattle.std.proofs.Common.{ap, sym, ◌∙◌, ◌<◌, ◌≤◌, arith}
use Rattle.iiif_tables.specs.Cache.{shrink}
use Rattle.iiif_machine.specs.Keys.{entry_size}
use Rattle.iiif_machine.specs.Entries.{cache_of, entry_of, side}
use Rattle.iiif_machine.proofs.Placing.{put_big, put_fits}
use Rattle.iiif_machine.proofs.caching.PlainCache.put.Goals as goal

pub returns-then-size-self-clause-ok : goal.returns-then-size-self-clause-ok
returns-then-size-self-clause-ok c =
    let e = c.args.entry in
    let big : c.args.self.now.limit < entry_size e.key e.value = omega (arith, c.size.ensures, c.if-size-self.true) in
    sym (put_big (side c.args.hot) e.key (entry_of e).1 (cache_of c.args.self.now) big)

pub returns-clause-ok : goal.returns-clause-ok
returns-clause-ok c =
    let e = c.args.entry in
    let small : entry_size e.key e.value ≤ c.args.self.now.limit = omega (arith, c.size.ensures, c.if-size-self.false) in
    c.shrink.ensures ∙ ap (shrink entry_size) c.in_ok-place.ensures.ok
    ∙ sym (put_fits (side c.args.hot) e.key (entry_of e).1 (cache_of c.args.self.now) small)
