use Rattle.std.proofs.Common.{refl, sym, ap, ◌∙◌, List, length}
use Rattle.iiif_tables.specs.Cache.{bytes_of}
use Rattle.iiif_tables.proofs.CacheLaws.{same_cache, large, not_large, evict_hot, evict_main}
use Rattle.iiif_machine.specs.Keys.{entry_size}
use Rattle.iiif_machine.specs.declared.listing.Entry.{Entry}
use Rattle.iiif_machine.specs.Entries.{cache_of, rows}
use Rattle.iiif_machine.proofs.Placing.{popped}
use Rattle.iiif_machine.proofs.caching.PlainCache.evict.Goals as goal

pub returns-then-bytes : goal.returns-then-bytes
returns-then-bytes c =
    let old = c.args.self.now in
    same_cache _ _ _ _ _ _ _ refl (popped old.hot.items c.pop-gone.new.self.items _
    (sym (sym (ap (length {A = Entry}) c.deref.ensures.value) ∙ c.deref.ensures.len)) c.pop-gone.ensures.rest) refl
    ∙ sym (evict_hot entry_size (cache_of old) (large entry_size (cache_of old) c.bytes-2.result c.bytes.result
    (c.bytes-2.ensures.sum ∙ ap (λ (es : List Entry). bytes_of entry_size (rows es)) c.deref-2.ensures.value)
    (c.bytes.ensures.sum ∙ ap (λ (es : List Entry). bytes_of entry_size (rows es)) c.deref.ensures.value) c.if-bytes.true))

pub returns-else-bytes : goal.returns-else-bytes
returns-else-bytes c =
    let old = c.args.self.now in
    same_cache _ _ _ _ _ _ _ (popped old.main.items c.pop-gone-else-bytes.new.self.items _
    (sym (sym (ap (length {A = Entry}) c.deref-2.ensures.value) ∙ c.deref-2.ensures.len)) c.pop-gone-else-bytes.ensures.rest) refl refl
    ∙ sym (evict_main entry_size (cache_of old) (not_large entry_size (cache_of old) c.bytes-2.result c.bytes.result
    (c.bytes-2.ensures.sum ∙ ap (λ (es : List Entry). bytes_of entry_size (rows es)) c.deref-2.ensures.value)
    (c.bytes.ensures.sum ∙ ap (λ (es : List Entry). bytes_of entry_size (rows es)) c.deref.ensures.value) c.if-bytes.false))
