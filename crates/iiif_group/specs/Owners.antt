-- Owners of keys among the nodes of a cluster.
--
--   cluster_in   the cluster of these nodes
--   OwnsKey      this node owns a key; IsOthers, another one does
--   IsPeer       the node that owns a key, if it isn't this one
--   GivesNothing, OwnerGivesNothing   a node's reply, or that of the owner, has no value of the key's shape
use Rattle.std.specs.Prelude.{◌≡◌, ◌≢◌, ℕ, Bool, List, IfNone, IfOk, IfSome, IsFalse, IsSomeAnd, Option, Result, Some, slice_get}
use Rattle.iiif_ring.specs.Owner.{IsOwner}
use Rattle.iiif_group.specs.declared.asked.Nodes.{Nodes}
use Rattle.iiif_group.specs.declared.asked.Peer.{Peer}
use Rattle.iiif_group.specs.declared.group.Cluster.{Cluster}
use Rattle.iiif_group.specs.declared.link.LinkFault.{LinkFault}

module _ {N : Type 0} where
  -- The cluster of these nodes.
  abbrev pub cluster_in : Nodes N → Cluster N
  cluster_in nodes = nodes.cluster

  -- This node owns the key with these bytes.
  abbrev pub OwnsKey : Cluster N → List ℕ → Type 0
  OwnsKey cluster key = IsSomeAnd cluster.own (λ i. IsSomeAnd (slice_get cluster.ring i) (IsOwner cluster.ring key))

  -- A node at another place of the ring owns it.
  abbrev pub IsOthers : Cluster N → List ℕ → Type 0
  IsOthers cluster key = (i : ℕ) × (cluster.own ≢ Some i) × IsSomeAnd (slice_get cluster.ring i) (IsOwner cluster.ring key)

  -- The node that owns a key; none where this node owns it.
  pub record IsPeer (nodes : Nodes N) (key : List ℕ) (peer : Option (Peer N)) : Type 0 where
    -- Without one this node owns the key.
    pub own : IfNone peer (OwnsKey nodes.cluster key)
    -- One is asked for this key.
    pub asked : IfSome peer (λ p. p.key.now ≡ key)
    -- Its link is that of another place, whose node owns the key.
    pub link : IfSome peer (λ p. (i : ℕ) × (nodes.cluster.own ≢ Some i) ×
        IsSomeAnd (slice_get nodes.cluster.ring i) (IsOwner nodes.cluster.ring key) ×
        (slice_get nodes.cluster.links.items i ≡ Some p.link.now))

module _ {K N V : Type 0} (replied : N → K → Result V LinkFault → Type 0) (shaped : V → Bool) (key : K) where
  -- The node behind this link was asked for the key, and its reply is a fault, or a value of another shape.
  abbrev pub GivesNothing : N → Type 0
  GivesNothing link = (reply : Result V LinkFault) × replied link key reply × IfOk reply (λ v. IsFalse (shaped v))

  -- So it is of a node at another place of the ring, which owns the key with these bytes.
  abbrev pub OwnerGivesNothing : Cluster N → List ℕ → Type 0
  OwnerGivesNothing cluster bytes = (i : ℕ) × (cluster.own ≢ Some i) × IsSomeAnd (slice_get cluster.ring i) (IsOwner cluster.ring bytes)
      × IsSomeAnd (slice_get cluster.links.items i) GivesNothing
