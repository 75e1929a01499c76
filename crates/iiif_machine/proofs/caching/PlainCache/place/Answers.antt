use Rattle.std.proofs.Common.{ap, sym, ◌∙◌}
use Rattle.std.proofs.lemmas.Result.{on_ok_weaker}
use Rattle.iiif_tables.specs.Cache.{placed}
use Rattle.iiif_machine.specs.Keys.{key_eq}
use Rattle.iiif_machine.specs.Entries.{cache_of, entry_of, side}
use Rattle.iiif_machine.proofs.Placing.{in_main, in_hot, new_main, new_hot}
use Rattle.iiif_machine.proofs.caching.PlainCache.place.Goals as goal

pub returns-in-None-clause-ok : goal.returns-in-None-clause-ok
returns-in-None-clause-ok c =
    let old = c.args.self.now in
    in_main (side c.args.hot) c.args.entry old.main.items c.replace_in.new.list.items old.hot.items old.limit old.room c.in-None.ensures

pub returns-in-None-replace_in-clause-ok : goal.returns-in-None-replace_in-clause-ok
returns-in-None-replace_in-clause-ok c =
    let old = c.args.self.now in
    in_hot (side c.args.hot) c.in-Some.new c.args.entry old.main.items c.replace_in.new.list.items old.hot.items
    c.replace_in-in-Some.new.list.items old.limit old.room
    c.in-Some.ensures c.in-None-replace_in.ensures

pub returns-then-hot-clause-ok : goal.returns-then-hot-clause-ok
returns-then-hot-clause-ok c =
    let old = c.args.self.now in
    on_ok_weaker c.add_in.result
    (λ h. new_hot c.in-Some-replace_in.new c.in-Some.new c.args.entry old.main.items c.replace_in.new.list.items c.add_in.new.list.items
    old.hot.items c.replace_in-in-Some.new.list.items old.limit old.room
    c.in-Some.ensures c.in-Some-replace_in.ensures h
    ∙ ap (λ b. placed key_eq c.args.entry.key (side b) (entry_of c.args.entry).1 (cache_of old)) (sym c.if-hot.true))
    c.add_in.ensures.ok

pub returns-else-hot-clause-ok : goal.returns-else-hot-clause-ok
returns-else-hot-clause-ok c =
    let old = c.args.self.now in
    on_ok_weaker c.add_in-else-hot.result
    (λ h. new_main c.in-Some-replace_in.new c.in-Some.new c.args.entry old.main.items c.replace_in.new.list.items
    c.add_in-else-hot.new.list.items old.hot.items c.replace_in-in-Some.new.list.items old.limit old.room
    c.in-Some.ensures c.in-Some-replace_in.ensures h
    ∙ ap (λ b. placed key_eq c.args.entry.key (side b) (entry_of c.args.entry).1 (cache_of old)) (sym c.if-hot.false))
    c.add_in-else-hot.ensures.ok
