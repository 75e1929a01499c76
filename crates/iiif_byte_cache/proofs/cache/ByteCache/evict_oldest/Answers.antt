use Rattle.std.proofs.Common.{arith, sym, ◌∙◌, subst}
use Rattle.iiif_tables.proofs.Caches.{Single, single_evict}
use Rattle.iiif_tables.proofs.CacheLaws.{victim_none}
use Rattle.iiif_outcome.specs.Views.{entry_size}
use Rattle.iiif_byte_cache.proofs.Placing.{if_none, none_of}
use Rattle.iiif_byte_cache.specs.View.{cache_of}
use Rattle.iiif_byte_cache.proofs.cache.ByteCache.evict_oldest.Goals as goal

pub invariant_of-self : goal.invariant_of-self
invariant_of-self g c =
    let now = c.args.self.now in
    let eq = g.K.PartialEq.eq in
    let old = cache_of now in
    record {
      within = omega (arith, c.evict_oldest.ensures.bytes, now.within);
      small = now.small;
      single = subst (Single eq) (sym (c.evict_oldest.ensures.rest now.limit))
          (single_evict eq (entry_size g.K.CacheKey.key_bytes g.K.CacheKey.val_bytes) old now.single);
      room = c.evict_oldest.ensures.room.1 ∙ now.room ∙ sym c.evict_oldest.ensures.room.0;
    }

pub returns : goal.returns
returns g c =
    let limit = c.args.self.now.limit in
    let old = cache_of c.args.self.now in
    record {
      victim = c.evict_oldest.ensures.victim limit;
      rest = c.evict_oldest.ensures.rest limit;
      none = if_none c.evict_oldest.result (λ h. victim_none (entry_size g.K.CacheKey.key_bytes g.K.CacheKey.val_bytes)
          (λ k v. omega (arith, g.met.K.CacheKey.spelled k)) old
          (sym (c.evict_oldest.ensures.victim limit) ∙ none_of _ c.evict_oldest.result h));
    }
