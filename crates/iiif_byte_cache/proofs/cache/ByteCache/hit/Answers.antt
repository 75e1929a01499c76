use Rattle.std.proofs.Common.{arith, sym, ◌∙◌, subst}
use Rattle.iiif_tables.proofs.Caches.{Single}
use Rattle.iiif_byte_cache.specs.View.{cache_of, lists_of}
use Rattle.iiif_byte_cache.proofs.cache.ByteCache.hit.Goals as goal

pub invariant_of-self : goal.invariant_of-self
invariant_of-self g c =
    let now = c.args.self.now in
    let old = cache_of now in
    record {
      within = omega (arith, c.hit.ensures.same.0, now.within);
      small = now.small;
      single = subst (λ l. Single g.K.PartialEq.eq (record old { main = l })) (sym c.hit.ensures.rows) now.single;
      room = now.room ∙ sym c.hit.ensures.same.1;
    }

pub invariant_of-self-in-Some-1 : goal.invariant_of-self-in-Some-1
invariant_of-self-in-Some-1 g c =
    let now = c.args.self.now in
    let old = cache_of now in
    record {
      within = omega (arith, c.hit.ensures.same.0, now.within);
      small = now.small;
      single = subst (λ l. Single g.K.PartialEq.eq (record old { main = l })) (sym c.hit.ensures.rows) now.single;
      room = now.room ∙ sym c.hit.ensures.same.1;
    }

pub invariant_of-self-2 : goal.invariant_of-self-2
invariant_of-self-2 g c =
    let now = c.args.self.now in
    let old = cache_of now in
    let main = subst (λ l. Single g.K.PartialEq.eq (record old { main = l })) (sym c.hit.ensures.rows) now.single in
    record {
      within = omega (arith, c.hit.ensures.same.0, c.hit-2.ensures.same.0, now.within);
      small = now.small;
      single = subst (λ l. Single g.K.PartialEq.eq (record (lists_of c.hit.new.self now.lists.hot now.limit) { hot = l }))
          (sym c.hit-2.ensures.rows) main;
      room = c.hit-2.ensures.same.1 ∙ now.room ∙ sym c.hit.ensures.same.1;
    }
