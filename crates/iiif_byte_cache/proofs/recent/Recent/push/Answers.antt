use Rattle.std.proofs.Common.{Some, None, ◌≡◌, ◌∙◌, arith, true, refl, rules}
use Rattle.iiif_outcome.specs.declared.entry.Entry.{Entry}
use Rattle.iiif_outcome.specs.Views.{kept_of, is_of, entry_size}
use Rattle.iiif_byte_cache.proofs.Fitting.{all-put}
use Rattle.iiif_byte_cache.proofs.Sums.{bytes-rows, sum_handed, sum_kept_all, rows_pushed, weight}
use Rattle.iiif_byte_cache.proofs.RowLemmas.{is_some-turned}
use Rattle.iiif_byte_cache.proofs.Placing.{not_there}
use Rattle.lru.specs.LruCache.{put_entries, displaced}
use Rattle.iiif_byte_cache.proofs.recent.Recent.push.Goals as goal

pub overflow_sub-self : goal.overflow_sub-self
overflow_sub-self g c =
    let list = c.args.self.now.list in
    let w = weight kept_of (entry_size g.K.CacheKey.key_bytes g.K.CacheKey.val_bytes) in
    let at : displaced g.K.PartialEq.eq list c.args.key c.args.entry ≡ Some (c.in-Ok-Some.old_key, c.in-Ok-Some.old) =
    (let a = c.in-Ok-Some.ensures.old in let b = c.in-Ok-Some.field-0-is in cc) in
    let sum = sum_handed w g.K.PartialEq.eq g.met.K.CacheKey.identical list c.args.key c.args.entry c.len-valid.ensures.valid.2
    c.len-valid.ensures.valid.1 _ at in
    omega (
      arith,
      sum,
      c.args.self.now.sum,
      c.size.ensures,
      c.requires.size,
      bytes-rows kept_of (entry_size g.K.CacheKey.key_bytes g.K.CacheKey.val_bytes) list.entries,
    )

pub invariant_of-self : goal.invariant_of-self
invariant_of-self g c =
    let list = c.args.self.now.list in
    let w = weight kept_of (entry_size g.K.CacheKey.key_bytes g.K.CacheKey.val_bytes) in
    let left = put_entries g.K.PartialEq.eq list c.args.key c.args.entry in
    let at : displaced g.K.PartialEq.eq list c.args.key c.args.entry ≡ Some (c.in-Ok-Some.old_key, c.in-Ok-Some.old) =
    (let a = c.in-Ok-Some.ensures.old in let b = c.in-Ok-Some.field-0-is in cc) in
    let sum = sum_handed w g.K.PartialEq.eq g.met.K.CacheKey.identical list c.args.key c.args.entry c.len-valid.ensures.valid.2
    c.len-valid.ensures.valid.1 _ at in
    let P : g.row.K.Denot × Entry g.row.K.Denot g.row.J.Denot g.row.L.Denot g.row.K-Value.Denot g.K.CacheKey g.K.PartialEq g.K.Hash
    g.J.System → Type 0 =
    λ e. is_of g.K.PartialEq.eq e.0 e.1 ≡ true in
    record {
      sum = rw c.in-Ok-Some.ensures.entries (omega (
        arith,
        sum,
        c.args.self.now.sum,
        c.size.ensures,
        c.requires.size,
        bytes-rows kept_of (entry_size g.K.CacheKey.key_bytes g.K.CacheKey.val_bytes) list.entries,
        bytes-rows kept_of (entry_size g.K.CacheKey.key_bytes g.K.CacheKey.val_bytes) left,
      ));
      of_key = rw c.in-Ok-Some.ensures.entries
          (all-put P g.K.PartialEq.eq g.met.K.CacheKey.identical list c.args.key c.args.entry c.requires.of_key c.args.self.now.of_key);
    }

pub invariant_of-self-in-Ok-None : goal.invariant_of-self-in-Ok-None
invariant_of-self-in-Ok-None g c =
    let list = c.args.self.now.list in
    let w = weight kept_of (entry_size g.K.CacheKey.key_bytes g.K.CacheKey.val_bytes) in
    let left = put_entries g.K.PartialEq.eq list c.args.key c.args.entry in
    let at : displaced g.K.PartialEq.eq list c.args.key c.args.entry ≡ None =
    (let a = c.in-Ok-None.ensures.old in let b = c.in-Ok-None.field-0-is in cc) in
    let sum = sum_kept_all w g.K.PartialEq.eq g.met.K.CacheKey.identical list c.args.key c.args.entry c.len-valid.ensures.valid.2 at in
    let P : g.row.K.Denot × Entry g.row.K.Denot g.row.J.Denot g.row.L.Denot g.row.K-Value.Denot g.K.CacheKey g.K.PartialEq g.K.Hash
    g.J.System → Type 0 =
    λ e. is_of g.K.PartialEq.eq e.0 e.1 ≡ true in
    record {
      sum = rw c.in-Ok-None.ensures.entries (omega (
        arith,
        sum,
        c.args.self.now.sum,
        c.requires.size,
        bytes-rows kept_of (entry_size g.K.CacheKey.key_bytes g.K.CacheKey.val_bytes) list.entries,
        bytes-rows kept_of (entry_size g.K.CacheKey.key_bytes g.K.CacheKey.val_bytes) left,
      ));
      of_key = rw c.in-Ok-None.ensures.entries
          (all-put P g.K.PartialEq.eq g.met.K.CacheKey.identical list c.args.key c.args.entry c.requires.of_key c.args.self.now.of_key);
    }

pub returns-in-Ok-Some : goal.returns-in-Ok-Some
returns-in-Ok-Some g c = record {
  ok = rw c.in-Ok-Some.ensures.entries (rows_pushed kept_of (entry_size g.K.CacheKey.key_bytes g.K.CacheKey.val_bytes) g.K.PartialEq.eq
      g.met.K.CacheKey.identical c.args.self.now.list c.args.key c.args.entry);
  bytes = omega arith;
  err = tt;
  same = tt;
  room = search rules;
  back = tt;
  absent = tt;
}

pub returns-in-Ok-None : goal.returns-in-Ok-None
returns-in-Ok-None g c = record {
  ok = rw c.in-Ok-None.ensures.entries (rows_pushed kept_of (entry_size g.K.CacheKey.key_bytes g.K.CacheKey.val_bytes) g.K.PartialEq.eq
      g.met.K.CacheKey.identical c.args.self.now.list c.args.key c.args.entry);
  bytes = omega arith;
  err = tt;
  same = tt;
  room = search rules;
  back = tt;
  absent = tt;
}

pub returns-in-Err : goal.returns-in-Err
returns-in-Err g c = record {
  ok = tt;
  bytes = tt;
  err = search rules;
  same = refl;
  room = search rules;
  back = search rules;
  absent = is_some-turned kept_of (g.K.PartialEq.eq c.args.key) c.args.self.now.list.entries ∙ not_there _ c.in-Err.ensures.succeeds;
}
