use Rattle.std.proofs.Common.{arith, subst, sym, ◌∙◌, refl, true, false}
use Rattle.iiif_tables.proofs.CacheLaws.{touch_main, touch_hot, same_cache}
use Rattle.iiif_tables.proofs.Caches.{Single, touched_single}
use Rattle.iiif_byte_cache.specs.View.{cache_of, lists_of}
use Rattle.iiif_byte_cache.proofs.RowLemmas.{promoted-absent}
use Rattle.iiif_byte_cache.proofs.cache.ByteCache.touch.Goals as goal

pub invariant_of-self : goal.invariant_of-self
invariant_of-self g c =
    let now = c.args.self.now in
    let eq = g.K.PartialEq.eq in
    let old = cache_of now in
    record {
      within = omega (arith, c.touch.ensures.same.0, now.within);
      small = now.small;
      single = subst (λ l. Single eq (record old { main = l })) (sym c.touch.ensures.rows)
          (touched_single eq c.args.key.now old now.single true);
      room = now.room ∙ sym c.touch.ensures.same.1;
    }

pub invariant_of-self-2 : goal.invariant_of-self-2
invariant_of-self-2 g c =
    let now = c.args.self.now in
    let eq = g.K.PartialEq.eq in
    let old = cache_of now in
    let main = subst (λ l. Single eq (record old { main = l })) (sym c.touch.ensures.rows)
    (touched_single eq c.args.key.now old now.single true) in
    let front = touched_single eq c.args.key.now (lists_of c.touch.new.self now.lists.hot now.limit) main false in
    record {
      within = omega (arith, c.touch.ensures.same.0, c.touch-there.ensures.same.0, now.within);
      small = now.small;
      single = subst (λ l. Single eq (record (lists_of c.touch.new.self now.lists.hot now.limit) { hot = l }))
          (sym c.touch-there.ensures.rows) front;
      room = c.touch-there.ensures.same.1 ∙ now.room ∙ sym c.touch.ensures.same.1;
    }

pub returns-then-touch : goal.returns-then-touch
returns-then-touch g c =
    let old = cache_of c.args.self.now in
    same_cache _ _ _ _ _ _ _ c.touch.ensures.rows refl c.touch.ensures.same.1
    ∙ sym (touch_main g.K.PartialEq.eq c.args.key.now old (sym c.touch.ensures.there ∙ c.if-touch.true))

pub returns : goal.returns
returns g c =
    let old = cache_of c.args.self.now in
    let absent = sym c.touch.ensures.there ∙ c.if-touch.false in
    same_cache _ _ _ _ _ _ _ (c.touch.ensures.rows ∙ promoted-absent (g.K.PartialEq.eq c.args.key.now) old.main absent)
    c.touch-there.ensures.rows c.touch.ensures.same.1
    ∙ sym (touch_hot g.K.PartialEq.eq c.args.key.now old absent)
