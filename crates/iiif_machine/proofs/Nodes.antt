-- The tables of a node.
use Rattle.std.proofs.Common.{◌≡◌, ℕ, Bool, true, false, List, Ok, sym, ap, subst, ◌∙◌, ⊎_elim, if◌then◌else◌}
use Rattle.iiif_machine.specs.Scenes.{Scene}
use Rattle.iiif_machine.specs.Keys.{is_tile, meaning}
use Rattle.iiif_machine.specs.Types.{Key, Value}
use Rattle.iiif_machine.specs.Tables.{Class, Table, Outcome, Place, Entered, enter, again, land, emptied, Holds}
use Rattle.iiif_machine.proofs.Words.{TableLaws}
use Rattle.iiif_machine.specs.Rows.{Node}
use Rattle.iiif_machine.specs.Worlds.{table_at, put_table}
use Rattle.iiif_machine.specs.Steps.{node_without}
use Rattle.iiif_machine.specs.Sound.{TableIsHonest, NodeIsHonest, IsHonest}

put_by : (s : Scene) (n : Node) (t : Table) (b : Bool) → NodeIsHonest s n → TableIsHonest s t →
    NodeIsHonest s (if b then record n { tiles = t } else record n { sums = t })
put_by s n t true h is = record { tiles = is; sums = h.sums }
put_by s n t false h is = record { tiles = h.tiles; sums = is }

pub put_honest : (s : Scene) (n : Node) (k : Key) (t : Table) → NodeIsHonest s n → TableIsHonest s t → NodeIsHonest s (put_table n k t)
put_honest s n k t h is = put_by s n t (is_tile k) h is

at_by : (s : Scene) (n : Node) (b : Bool) → NodeIsHonest s n → TableIsHonest s (if b then n.tiles else n.sums)
at_by s n true h = h.tiles
at_by s n false h = h.sums

pub table_honest : (s : Scene) (n : Node) (k : Key) → NodeIsHonest s n → TableIsHonest s (table_at n k)
table_honest s n k h = at_by s n (is_tile k) h

pub enter_honest : TableLaws → (s : Scene) (t u : Table) (k : Key) (c : Class) (x : Entered) → enter t k c ≡ (x, u) → TableIsHonest s t →
    TableIsHonest s u
enter_honest laws s t u k c x e h q v has = h q v
    (laws.enter_holds t k q c v (subst (λ (p : Table). Holds p q v) (sym (ap (λ (p : Entered × Table). p.1) e)) has))

pub again_honest : TableLaws → (s : Scene) (t : Table) (k : Key) (c : Class) (n : ℕ) → TableIsHonest s t → TableIsHonest s (again t k c n).1
again_honest laws s t k c n h q v has = h q v (laws.again_holds t k q c n v has)

pub land_honest : TableLaws → (s : Scene) (t : Table) (k : Key) (c : Class) (n : ℕ) (o : Outcome) (p : Place) (kept : Bool) →
    ((v : Value) → o ≡ Ok v → v ≡ meaning s k) → TableIsHonest s t → TableIsHonest s (land t k c n o p kept)
land_honest laws s t k c n o p kept is h q v has =
    ⊎_elim
    (λ (before : Holds t q v). h q v before)
    (λ (now : (q ≡ k) × (o ≡ Ok v)). is v now.1 ∙ ap (meaning s) (sym now.0))
    (laws.land_holds t k q c n o p kept v has)

pub lost_honest : TableLaws → (s : Scene) (n : Node) (ks : List Key) → NodeIsHonest s n → NodeIsHonest s (node_without n ks)
lost_honest laws s n ks h = record {
  tiles = λ q v has. h.tiles q v (laws.evicted_holds n.tiles ks q v has);
  sums = λ q v has. h.sums q v (laws.evicted_holds n.sums ks q v has);
}

pub emptied_honest : TableLaws → (s : Scene) (n : Node) → NodeIsHonest s (record n { tiles = emptied n.tiles; sums = emptied n.sums })
emptied_honest laws s n = record {
  tiles = λ q v has. absurd (laws.emptied_holds n.tiles q v has);
  sums = λ q v has. absurd (laws.emptied_holds n.sums q v has);
}

value_by : (s : Scene) (given : _) (node : ℕ) (k : Key) (o : Outcome) (v : Value) → o ≡ Ok v → IsHonest s given node k o → v ≡ meaning s k
value_by s given node k o v e h = subst (IsHonest s given node k) e h

pub value_honest : (s : Scene) (given : _) (node : ℕ) (k : Key) (o : Outcome) → IsHonest s given node k o → (v : Value) → o ≡ Ok v →
    v ≡ meaning s k
value_honest s given node k o h v e = value_by s given node k o v e h
