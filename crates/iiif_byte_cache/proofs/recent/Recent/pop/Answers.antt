use Rattle.std.proofs.Common.{sym, ◌∙◌, ap, arith, option_map, ◌≡◌, true, rules}
use Rattle.iiif_outcome.specs.Views.{kept_of, is_of, entry_size}
use Rattle.iiif_byte_cache.proofs.Fitting.{all-less}
use Rattle.iiif_byte_cache.proofs.Sums.{bytes_popped, oldest-rows, but_oldest-rows}
use Rattle.iiif_byte_cache.proofs.recent.Recent.pop.Goals as goal

pub overflow_sub-self : goal.overflow_sub-self
overflow_sub-self g c =
    omega (
      arith,
      c.args.self.now.sum,
      c.size.ensures,
      bytes_popped kept_of (entry_size g.K.CacheKey.key_bytes g.K.CacheKey.val_bytes) c.args.self.now.list.entries _
          (sym c.in_ok-key.ensures.value),
    )

pub invariant_of-self-2 : goal.invariant_of-self-2
invariant_of-self-2 g c = record {
  sum = rw c.pop_lru.ensures.entries (omega (
    arith,
    c.args.self.now.sum,
    c.size.ensures,
    bytes_popped kept_of (entry_size g.K.CacheKey.key_bytes g.K.CacheKey.val_bytes) c.args.self.now.list.entries _
        (sym c.in_ok-key.ensures.value),
  ));
  of_key = rw c.pop_lru.ensures.entries (all-less (λ e. is_of g.K.PartialEq.eq e.0 e.1 ≡ true) c.args.self.now.list.entries
      c.args.self.now.of_key);
}

pub returns : goal.returns
returns g c = record {
  oldest = ap (option_map (λ e. (e.0, kept_of e.1))) c.in_ok-key.ensures.value ∙
      sym (oldest-rows kept_of (entry_size g.K.CacheKey.key_bytes g.K.CacheKey.val_bytes) c.args.self.now.list.entries);
  rows = rw c.pop_lru.ensures.entries
      (sym (but_oldest-rows kept_of (entry_size g.K.CacheKey.key_bytes g.K.CacheKey.val_bytes) c.args.self.now.list.entries));
  bytes = omega arith;
  room = search rules;
}
