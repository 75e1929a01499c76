-- What a node may reply to another one, in other words of the same node.
use Rattle.std.proofs.Common.{◌≡◌, inl, inr, ℕ, Bool, List, Option, Some, None, refl, sym, subst}
use Rattle.iiif_source.specs.declared.ReadFault.{ReadFault}
use Rattle.iiif_keys.specs.Names.{Pictures}
use Rattle.iiif_keys.specs.declared.fault.Fault.{Fault}
use Rattle.iiif_keys.specs.declared.fault.Fault.TheVariants.{Source, NoMemory, UnknownName, BadKey}
use Rattle.iiif_tile_group.specs.Collection.{Item, item_named}
use Rattle.iiif_peer_groups.specs.Kinds.{Kind, system, sum_kind, tile_kind}
use Rattle.iiif_peer_groups.specs.Replying.{HasFault, HasValue, IsReplyTo, MayReply}
use Rattle.iiif_peer_wire.specs.declared.version.Version.{Version}
use Rattle.iiif_tile_group.specs.Named.{stable_by, stable_of}

module _ (pictures : Pictures) (edge : ℕ) (gave : List ℕ → ReadFault → Bool) (stable fewer : List ℕ → Type 0) (honest : Bool)
    (less : (name : List ℕ) → fewer name → stable name) (version : Version)
    (bytes : List ℕ) where
  module _ {K V : Type 0} (kind : Kind K V) where
    fewer_value : (value : List ℕ) → HasValue kind (system pictures edge gave stable honest) version bytes value →
        HasValue kind (system pictures edge gave fewer honest) version bytes value
    fewer_value value has = record {
      key = has.key;
      spelled = has.spelled;
      names = has.names;
      found = has.found;
      sent = has.sent;
      shaped = has.shaped;
      meant = λ keeps honest. has.meant (less (kind.name_of has.key) keeps) honest;
    }

    fewer_fault : (f : Fault) → HasFault kind (system pictures edge gave stable honest) version bytes f →
        HasFault kind (system pictures edge gave fewer honest) version bytes f
    fewer_fault (Source f) has = has
    fewer_fault NoMemory has = has
    fewer_fault UnknownName has = has
    fewer_fault BadKey has = has

    fewer_reply : (status : ℕ) (value : List ℕ) → IsReplyTo kind (system pictures edge gave stable honest) version bytes status value →
        IsReplyTo kind (system pictures edge gave fewer honest) version bytes status value
    fewer_reply status value (inl has) = inl (has.0, fewer_value value has.1)
    fewer_reply status value (inr has) = inr (has.0, has.1, has.2, fewer_fault has.0 has.3)

  -- fewer names are stable
  fewer_stable : (group status : ℕ) (value : List ℕ) → MayReply (system pictures edge gave stable honest) version group bytes status value →
      MayReply (system pictures edge gave fewer honest) version group bytes status value
  fewer_stable group status value (inl tiles) = inl (tiles.0, fewer_reply tile_kind status value tiles.1)
  fewer_stable group status value (inr sums) = inr (sums.0, fewer_reply sum_kind status value sums.1)

-- the names whose sources keep their bytes are stable
pub kept_stable : {S : Type 0} (keeps : S → Type 0) (stable : List ℕ → Type 0) (items : List (Item S))
    → ((name : List ℕ) (item : Item S) → item_named items name ≡ Some item → keeps item.source → stable name) → (name : List ℕ) →
    stable_of keeps items name → stable name
kept_stable {S} keeps stable items kept name keep = by_item (item_named items name) (kept name) keep
  where
    by_item : (found : Option (Item S)) → ((item : Item S) → found ≡ Some item → keeps item.source → stable name) → stable_by keeps found →
        stable name
    by_item None each keep = absurd keep
    by_item (Some item) each keep = each item refl keep

-- the same pictures, edge and faults, and fewer names that are stable
pub same_node : (pictures shown : Pictures) (edge told : ℕ) (gave given : List ℕ → ReadFault → Bool) (stable fewer : List ℕ → Type 0)
    (honest : Bool)
    (version : Version) (group : ℕ) (bytes : List ℕ) (status : ℕ) (value : List ℕ)
    → ((name : List ℕ) → pictures name ≡ shown name) → told ≡ edge → ((name : List ℕ) (f : ReadFault) → gave name f ≡ given name f) →
    ((name : List ℕ) → fewer name → stable name)
    → MayReply (system pictures edge gave stable honest) version group bytes status value →
    MayReply (system shown told given fewer honest) version group bytes status value
same_node pictures shown edge told gave given stable fewer honest version group bytes status value pictures_same edge_same gave_same less
    may =
    let pictures_are : pictures ≡ shown = λ i name. pictures_same name i in
    let gave_are : gave ≡ given = λ i name f. gave_same name f i in
    let one : MayReply (system shown edge gave stable honest) version group bytes status value =
    subst (λ (p : Pictures). MayReply (system p edge gave stable honest) version group bytes status value) pictures_are may in
    let two : MayReply (system shown told gave stable honest) version group bytes status value =
    subst (λ (e : ℕ). MayReply (system shown e gave stable honest) version group bytes status value) (sym edge_same) one in
    let three : MayReply (system shown told given stable honest) version group bytes status value =
    subst (λ (g : List ℕ → ReadFault → Bool). MayReply (system shown told g stable honest) version group bytes status value) gave_are two in
    fewer_stable shown told given stable fewer honest less version bytes group status value three
