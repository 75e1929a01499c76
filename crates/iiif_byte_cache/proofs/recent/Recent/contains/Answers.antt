use Rattle.std.proofs.Common.{sym, ◌∙◌}
use Rattle.iiif_outcome.specs.Views.{kept_of}
use Rattle.iiif_byte_cache.proofs.RowLemmas.{is_some-turned}
use Rattle.iiif_byte_cache.proofs.recent.Recent.contains.Goals as goal

pub returns : goal.returns
returns g c = c.contains.ensures ∙ sym (is_some-turned kept_of (g.K.PartialEq.eq c.args.key.now) c.args.self.now.list.entries)
