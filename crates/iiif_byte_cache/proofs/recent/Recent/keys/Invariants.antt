use Rattle.std.proofs.Common.{◌≡◌, ◌++◌, map}
use Rattle.iiif_byte_cache.proofs.recent.Recent.keys.Given as goal

-- the keys so far, and those that are still to come, are all
abbrev pub invariant-loop-key : goal.invariant-loop-key
invariant-loop-key g l = l.keys.items ++ map (λ e. e.0) l.key-iterator ≡ map (λ e. e.0) l.fn.self.list.entries
