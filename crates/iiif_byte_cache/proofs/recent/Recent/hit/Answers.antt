use Rattle.std.proofs.Common.{sym, ap, ◌∙◌, Some, is_some, option_map, ◌≡◌, true, rules, Result, Ok, Err, OnErr}
use Rattle.iiif_tables.specs.Cache.{bytes_of}
use Rattle.iiif_outcome.specs.declared.entry.Entry.{Entry}
use Rattle.iiif_outcome.specs.Views.{kept_of, is_of, is_known_for, entry_size}
use Rattle.iiif_byte_cache.proofs.Fitting.{all-set, all-lookup}
use Rattle.iiif_byte_cache.proofs.RowLemmas.{is_some-turned, lookup-turned, set_value-turned}
use Rattle.iiif_byte_cache.proofs.recent.Recent.hit.Goals as goal

on_err_always : {T E P : Type 0} (r : Result T E) → P → OnErr r P
on_err_always (Ok x) p = tt
on_err_always (Err e) p = p

pub invariant_of-self : goal.invariant_of-self
invariant_of-self g c =
    let P : g.row.K.Denot × Entry g.row.K.Denot g.row.J.Denot g.row.L.Denot g.row.K-Value.Denot g.K.CacheKey g.K.PartialEq g.K.Hash
    g.J.System → Type 0 =
    λ e. is_of g.K.PartialEq.eq e.0 e.1 ≡ true in
    record {
      sum = c.args.self.now.sum ∙ ap (bytes_of (entry_size g.K.CacheKey.key_bytes g.K.CacheKey.val_bytes))
          (sym (set_value-turned kept_of (g.K.PartialEq.eq c.args.key.now) c.args.self.now.list.entries _ _ (sym c.in-Some.ensures.value)
          (sym c.share.ensures.same)));
      of_key = all-set P (g.K.PartialEq.eq c.args.key.now) c.args.self.now.list.entries _ _ (sym c.in-Some.ensures.value)
          (λ k h. ap (is_known_for g.K.PartialEq.eq k) c.share.ensures.same_known ∙ h) c.args.self.now.of_key;
    }

pub returns-in_err-share-in-Some : goal.returns-in_err-share-in-Some
returns-in_err-share-in-Some g c = record {
  told = search rules;
  of_key = search rules;
  refused = on_err_always c.from_residual.result (is_some-turned kept_of (g.K.PartialEq.eq c.args.key.now) c.args.self.now.list.entries ∙
      ap is_some (sym c.in-Some.ensures.value));
  rows = set_value-turned kept_of (g.K.PartialEq.eq c.args.key.now) c.args.self.now.list.entries _ _ (sym c.in-Some.ensures.value)
      (sym c.share.ensures.same);
  same = search rules;
}

pub returns-in_ok-share-in-Some : goal.returns-in_ok-share-in-Some
returns-in_ok-share-in-Some g c =
    let P : g.row.K.Denot × Entry g.row.K.Denot g.row.J.Denot g.row.L.Denot g.row.K-Value.Denot g.K.CacheKey g.K.PartialEq g.K.Hash
    g.J.System → Type 0 =
    λ e. is_of g.K.PartialEq.eq e.0 e.1 ≡ true in
    record {
      told = ap Some c.in_ok-share-in-Some.ensures.shared ∙ ap (option_map kept_of) c.in-Some.ensures.value ∙
          sym (lookup-turned kept_of (g.K.PartialEq.eq c.args.key.now) c.args.self.now.list.entries);
      of_key = ap (is_known_for g.K.PartialEq.eq c.args.key.now) c.in_ok-share-in-Some.ensures.shared_known ∙
          (all-lookup P g.K.PartialEq.eq g.met.K.CacheKey.identical c.args.key.now c.args.self.now.list.entries _
          (sym c.in-Some.ensures.value) c.args.self.now.of_key);
      refused = tt;
      rows = set_value-turned kept_of (g.K.PartialEq.eq c.args.key.now) c.args.self.now.list.entries _ _ (sym c.in-Some.ensures.value)
          (sym c.share.ensures.same);
      same = search rules;
    }

pub returns-in-None : goal.returns-in-None
returns-in-None g c = record {
  told = ap (option_map kept_of) c.in-None.ensures.value ∙
      sym (lookup-turned kept_of (g.K.PartialEq.eq c.args.key.now) c.args.self.now.list.entries);
  of_key = tt;
  refused = tt;
  rows = search rules;
  same = search rules;
}
