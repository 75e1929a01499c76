-- What is said of events that were done.
use Rattle.std.proofs.Common.{◌≡◌, ℕ, Option, Some, None, ap, sym, slice_get, ◌∙◌}
use Rattle.iiif_machine.specs.declared.keys.Key.{Key}
use Rattle.iiif_machine.proofs.Lists.{get_map}
use Rattle.iiif_machine.specs.declared.node.Node.{Node}
use Rattle.iiif_machine.specs.Nodes.{node_of}
use Rattle.iiif_world.specs.declared.contents.Contents.{Contents}
use Rattle.iiif_world.specs.Code.{world_of}
use Rattle.iiif_world.proofs.Changed.{missing_map}
use Rattle.iiif_event_list.specs.Texts.{ticket_at, ticket_in, ticket_kept}

pub there : (w : Contents) (i : ℕ) (n : Node) (k : Key) (t : Option ℕ) → slice_get w.nodes.items i ≡ Some n →
    t ≡ ticket_at (node_of n) k → t ≡ ticket_kept (world_of w) i k
there w i n k t at is = is ∙ sym (ap (λ o. ticket_in o k) (get_map node_of w.nodes.items i n at))

pub missing : (w : Contents) (i : ℕ) (k : Key) → slice_get w.nodes.items i ≡ None → None ≡ ticket_kept (world_of w) i k
missing w i k none = sym (ap (λ o. ticket_in o k) (missing_map node_of w.nodes.items i none))
