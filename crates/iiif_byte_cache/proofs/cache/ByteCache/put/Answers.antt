use Rattle.std.proofs.Common.{subst, ◌≡◌, arith, sym, ap, ◌∙◌, false}
use Rattle.std.proofs.lemmas.Bool.{le-ltb}
use Rattle.iiif_tables.specs.Cache.{shrink, is_too_big}
use Rattle.iiif_tables.proofs.CacheLaws.{put_small}
use Rattle.iiif_tables.proofs.Caches.{Single, single_placed, single_evict_at_most}
use Rattle.iiif_outcome.specs.Views.{kept_of, entry_size}
use Rattle.iiif_byte_cache.specs.View.{cache_of, lists_of}
use Rattle.iiif_byte_cache.specs.View.{side}
use Rattle.iiif_byte_cache.proofs.cache.ByteCache.put.Goals as goal

pub returns-after-left : goal.returns-after-left
returns-after-left g c =
    let size = (entry_size g.K.CacheKey.key_bytes g.K.CacheKey.val_bytes) in
    let old = cache_of c.args.self.now in
    let entry = kept_of c.args.entry in
    let small : is_too_big size c.args.key entry.value old ≡ false =
    le-ltb old.limit (size c.args.key entry.value) (omega (arith, c.if-size-self.false, c.size-size.ensures)) in
    record {
      ok = c.shrink.ensures.lists
          ∙ ap (shrink size) (c.in-Ok.ensures.ok c.args.self.now.limit)
          ∙ sym (put_small size g.K.PartialEq.eq (side c.args.hot) c.args.key entry old small);
      fits = small;
      err = tt;
      back = tt;
    }

pub returns-in-Err : goal.returns-in-Err
returns-in-Err g c =
    let size = (entry_size g.K.CacheKey.key_bytes g.K.CacheKey.val_bytes) in
    let old = cache_of c.args.self.now in
    let entry = kept_of c.args.entry in
    let small : is_too_big size c.args.key entry.value old ≡ false =
    le-ltb old.limit (size c.args.key entry.value) (omega (arith, c.if-size-self.false, c.size-size.ensures)) in
    record {
      ok = tt;
      fits = tt;
      err = c.in-Err.ensures.err c.args.self.now.limit;
      back = (
        ap (λ p. p.0) c.in-Err.ensures.back,
        ap (λ p. p.1) c.in-Err.ensures.back,
        small,
        c.in-Err.ensures.absent c.args.self.now.limit,
      );
    }

pub invariant_of-self : goal.invariant_of-self
invariant_of-self g c =
    let now = c.args.self.now in
    let eq = g.K.PartialEq.eq in
    let old = cache_of now in
    let entry = kept_of c.args.entry in
    let next = lists_of c.place.new.self.main c.place.new.self.hot now.limit in
    let put : Single eq next = subst (Single eq) (sym (c.in-Ok.ensures.ok now.limit))
    (single_placed eq g.met.K.Eq.laws c.args.key (side c.args.hot) entry old now.single) in
    record {
      within = c.shrink.ensures.within;
      small = now.small;
      single = subst (Single eq) (sym c.shrink.ensures.lists)
          (single_evict_at_most eq (entry_size g.K.CacheKey.key_bytes g.K.CacheKey.val_bytes) _ next put);
      room = c.shrink.ensures.room.1 ∙ c.place.ensures.kept_room.1 ∙ now.room ∙ sym c.place.ensures.kept_room.0 ∙
          sym c.shrink.ensures.room.0;
    }

pub invariant_of-self-in-Err-1 : goal.invariant_of-self-in-Err-1
invariant_of-self-in-Err-1 g c =
    let now = c.args.self.now in
    record {
      within = omega (arith, c.in-Err.ensures.err_bytes.0, c.in-Err.ensures.err_bytes.1, now.within);
      small = now.small;
      single = subst (Single g.K.PartialEq.eq) (sym (c.in-Err.ensures.err now.limit)) now.single;
      room = c.place.ensures.kept_room.1 ∙ now.room ∙ sym c.place.ensures.kept_room.0;
    }
