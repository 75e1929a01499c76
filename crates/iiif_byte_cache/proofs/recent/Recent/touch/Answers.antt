use Rattle.std.proofs.Common.{sym, ◌∙◌, ◌≡◌, true, rules}
use Rattle.iiif_outcome.specs.declared.entry.Entry.{Entry}
use Rattle.iiif_outcome.specs.Views.{kept_of, is_of, entry_size}
use Rattle.iiif_byte_cache.proofs.Fitting.{all-promoted}
use Rattle.iiif_byte_cache.proofs.RowLemmas.{is_some-turned, promoted-turned}
use Rattle.iiif_byte_cache.proofs.Sums.{bytes_promoted}
use Rattle.iiif_byte_cache.proofs.recent.Recent.touch.Goals as goal

pub invariant_of-self : goal.invariant_of-self
invariant_of-self g c =
    let test = g.K.PartialEq.eq c.args.key.now in
    let P : g.row.K.Denot × Entry g.row.K.Denot g.row.J.Denot g.row.L.Denot g.row.K-Value.Denot g.K.CacheKey g.K.PartialEq g.K.Hash
    g.J.System → Type 0 =
    λ e. is_of g.K.PartialEq.eq e.0 e.1 ≡ true in
    record {
      sum = c.args.self.now.sum ∙ sym (rw c.promote.ensures.entries
          (bytes_promoted kept_of (entry_size g.K.CacheKey.key_bytes g.K.CacheKey.val_bytes) test c.args.self.now.list.entries));
      of_key = rw c.promote.ensures.entries (all-promoted P test c.args.self.now.list.entries c.args.self.now.of_key);
    }

pub returns : goal.returns
returns g c =
    let test = g.K.PartialEq.eq c.args.key.now in
    record {
      there = c.promote.ensures.value ∙ sym (is_some-turned kept_of test c.args.self.now.list.entries);
      rows = rw c.promote.ensures.entries (sym (promoted-turned kept_of test c.args.self.now.list.entries));
      same = search rules;
    }
