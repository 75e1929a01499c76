use Rattle.std.proofs.Common.{refl, sym, ap, ◌∙◌}
use Rattle.iiif_tables.proofs.CacheLaws.{same_cache, touch_main, touch_hot}
use Rattle.iiif_machine.specs.Keys.{key_eq}
use Rattle.iiif_machine.specs.Entries.{cache_of, rows}
use Rattle.iiif_machine.proofs.caching.PlainCache.touch.Goals as goal

pub returns-then-touch_in : goal.returns-then-touch_in
returns-then-touch_in c =
    same_cache _ _ _ _ _ _ _ c.touch_in.ensures.rows refl refl
    ∙ sym (touch_main key_eq c.args.key.now (cache_of c.args.self.now) (sym c.touch_in.ensures.was ∙ c.if-touch_in.true))

pub returns : goal.returns
returns c =
    same_cache _ _ _ _ _ _ _ (ap rows (c.touch_in.ensures.absent c.if-touch_in.false)) c.touch_in-2.ensures.rows refl
    ∙ sym (touch_hot key_eq c.args.key.now (cache_of c.args.self.now) (sym c.touch_in.ensures.was ∙ c.if-touch_in.false))
