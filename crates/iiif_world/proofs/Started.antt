-- Worlds that begin are sound.
use Rattle.std.proofs.Common.{◌≡◌, ℕ, suc, ◌<◌, ◌≤◌, List, [], ◌∷◌, map, length, Bool, true, false, if◌then◌else◌, Option, Some, refl}
use Rattle.std.proofs.Common.{subst}
use Rattle.std.specs.Prelude.{slice_get}
use Rattle.std.specs.Str.{bytes_eq}
use Rattle.std.proofs.lemmas.Option.{none-some, same_Some}
use Rattle.iiif_canonical.specs.declared.resolved.Limits.{Limits}
use Rattle.iiif_keys.specs.Names.{IsSource}
use Rattle.iiif_keys.specs.Blocks.{IsEdge}
use Rattle.iiif_machine.specs.Scenes.{IsProper}
use Rattle.iiif_machine.proofs.Lists.{get_map}
use Rattle.iiif_machine.specs.Types.{Picture}
use Rattle.iiif_machine.specs.Rows.{Node}
use Rattle.iiif_machine.specs.Promises.{IsNew}
use Rattle.iiif_machine.specs.Sound.{Each, Card, card_of, NamesNodes}
use Rattle.iiif_machine.specs.Steps.{run}
use Rattle.iiif_machine.specs.Worlds.{new_world}
use Rattle.iiif_machine.proofs.Lists.{each_map, each_as}
use Rattle.iiif_machine.proofs.Promised.{each_run}
use Rattle.iiif_world.specs.declared.starting.Setup.{Setup}
use Rattle.iiif_world.specs.declared.contents.Item.{Item}
use Rattle.iiif_world.specs.Code.{IsSoundWorld, scene_of, shown_in}
use Rattle.iiif_world.specs.Starting.{IsNamed, node_for}

shown_by : (b : Bool) (i : Item) (rest : Option Picture) (p : Picture) → IsSource i.picture → (rest ≡ Some p → IsSource p) →
    (if b then Some i.picture else rest) ≡ Some p → IsSource p
shown_by true i rest p is f h = subst IsSource (same_Some i.picture p h) is
shown_by false i rest p is f h = f h

pub shown_source : (items : List Item) (name : List ℕ) (p : Picture) → Each (λ i. IsSource i.picture) items → shown_in items name ≡ Some p →
    IsSource p
shown_source [] name p each h = absurd (none-some p h)
shown_source (i ∷ items) name p each h =
    shown_by (bytes_eq i.name name) i (shown_in items name) p (each 0 i refl) (shown_source items name p (λ j x at. each (suc j) x at)) h

abbrev RingNames : List Setup → Setup → Type 0
RingNames setups s = (0 < length s.ring) × Each (IsNamed setups) s.ring

abbrev card_for : Setup → Card
card_for s = card_of (node_for s)

module _ (setups : List Setup) where
  is_named : (name : List ℕ) → IsNamed setups name → (i : ℕ) × (m : Card) × (slice_get (map card_of (map node_for setups)) i ≡ Some m) ×
      (m.name ≡ name)
  is_named name h = (h.0, card_for h.1, get_map card_of (map node_for setups) h.0 (node_for h.1) (get_map node_for setups h.0 h.1 h.2), h.3)

  names_nodes : (s : Setup) → RingNames setups s → NamesNodes (map card_of (map node_for setups)) (card_for s)
  names_nodes s h = (h.0, each_as (IsNamed setups) _ s.ring is_named h.1)

  is_new : (s : Setup) → IsNew (node_for s)
  is_new s = ((s.limit, s.room, refl), (s.limit, s.room, refl))

  pub starts_sound : (items : List Item) (edge : ℕ) (limits : Limits) (room : ℕ) (early : Bool) → Each (λ i. IsSource i.picture) items →
      IsEdge edge → room ≤ 65536 →
      Each (RingNames setups) setups → IsSoundWorld (new_world (scene_of items edge limits room early) (map node_for setups))
  unfolding run
  starts_sound items edge limits room early sources is_edge small named =
      let s = scene_of items edge limits room early in
      let proper : IsProper s = record { sources = λ name p h. shown_source items name p sources h; edge = is_edge; room = small } in
      let nodes = map node_for setups in
      let cards = map card_of nodes in
      let all_new : Each IsNew nodes = each_map (RingNames setups) IsNew node_for setups (λ x h. is_new x) named in
      let first : Each (λ (n : Node). NamesNodes cards (card_of n)) nodes =
      each_map (RingNames setups) (λ (n : Node). NamesNodes cards (card_of n)) node_for setups names_nodes named in
      let all_named : Each (NamesNodes cards) cards =
      each_map (λ (n : Node). NamesNodes cards (card_of n)) (NamesNodes cards) card_of nodes (λ n h. h) first in
      record { proper = proper; sound = each_run s nodes [] proper all_new all_named }
