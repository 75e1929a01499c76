use Rattle.std.proofs.Common.{arith, subst, sym, ap, ◌∙◌, refl, option_map, true, false}
use Rattle.std.specs.Map.{lookup}
use Rattle.iiif_tables.proofs.CacheLaws.{touch_main, touch_hot, same_cache}
use Rattle.iiif_tables.proofs.Caches.{Single, touched_single, lookup-to_front}
use Rattle.iiif_outcome.specs.Views.{kept_of}
use Rattle.iiif_byte_cache.specs.View.{cache_of, lists_of}
use Rattle.iiif_byte_cache.proofs.RowLemmas.{lent, first_of_two, second_of_two, lookup-turned, promoted-absent}
use Rattle.iiif_byte_cache.proofs.cache.ByteCache.get.Goals as goal

pub invariant_of-self : goal.invariant_of-self
invariant_of-self g c =
    let now = c.args.self.now in
    let eq = g.K.PartialEq.eq in
    let old = cache_of now in
    record {
      within = omega (arith, c.touch.ensures.same.0, now.within);
      small = now.small;
      single = subst (λ l. Single eq (record old { main = l })) (sym c.touch.ensures.rows)
          (touched_single eq c.args.key.now old now.single true);
      room = now.room ∙ sym c.touch.ensures.same.1;
    }

pub invariant_of-self-else-touch : goal.invariant_of-self-else-touch
invariant_of-self-else-touch g c =
    let now = c.args.self.now in
    let eq = g.K.PartialEq.eq in
    let old = cache_of now in
    let main = subst (λ l. Single eq (record old { main = l })) (sym c.touch.ensures.rows)
    (touched_single eq c.args.key.now old now.single true) in
    let front = touched_single eq c.args.key.now (lists_of c.touch.new.self now.lists.hot now.limit) main false in
    record {
      within = omega (arith, c.touch.ensures.same.0, c.touch-there.ensures.same.0, now.within);
      small = now.small;
      single = subst (λ l. Single eq (record (lists_of c.touch.new.self now.lists.hot now.limit) { hot = l }))
          (sym c.touch-there.ensures.rows) front;
      room = c.touch-there.ensures.same.1 ∙ now.room ∙ sym c.touch.ensures.same.1;
    }

pub returns-then-touch : goal.returns-then-touch
returns-then-touch g c =
    let eq = g.K.PartialEq.eq in
    let key = c.args.key.now in
    let old = cache_of c.args.self.now in
    let there = sym c.touch.ensures.there ∙ c.if-touch.true in (
      (refl, λ n. tt, same_cache _ _ _ _ _ _ _ c.touch.ensures.rows refl c.touch.ensures.same.1 ∙ sym (touch_main eq key old there)),
      record {
        touched = tt;
        value = lent kept_of c.peek.result
            ∙ ap (option_map kept_of) c.peek.ensures
            ∙ sym (lookup-turned kept_of (eq key) c.touch.new.self.list.entries)
            ∙ ap (lookup (eq key)) c.touch.ensures.rows
            ∙ lookup-to_front eq g.met.K.Eq.laws key key old.main
            ∙ first_of_two (lookup (eq key) old.main) (lookup (eq key) old.hot) there;
      },
    )

pub returns-else-touch : goal.returns-else-touch
returns-else-touch g c =
    let eq = g.K.PartialEq.eq in
    let key = c.args.key.now in
    let old = cache_of c.args.self.now in
    let absent = sym c.touch.ensures.there ∙ c.if-touch.false in
    let main = c.touch.ensures.rows ∙ promoted-absent (eq key) old.main absent in (
      (refl, λ n. tt, same_cache _ _ _ _ _ _ _ main c.touch-there.ensures.rows c.touch.ensures.same.1 ∙ sym (touch_hot eq key old absent)),
      record {
        touched = tt;
        value = lent kept_of c.peek-else-touch.result
            ∙ ap (option_map kept_of) c.peek-else-touch.ensures
            ∙ sym (lookup-turned kept_of (eq key) c.touch-there.new.self.list.entries)
            ∙ ap (lookup (eq key)) c.touch-there.ensures.rows
            ∙ lookup-to_front eq g.met.K.Eq.laws key key old.hot
            ∙ second_of_two (lookup (eq key) old.main) (lookup (eq key) old.hot) absent;
      },
    )
