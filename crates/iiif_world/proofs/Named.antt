-- The nodes of the code by their names.
use Rattle.std.proofs.Common.{◌≡◌, ℕ, ◌+◌, suc, Bool, cond, List, [], ◌∷◌, map, length, refl, sym, ap, ◌∙◌, Some, None, Option}
use Rattle.std.specs.Prelude.{position, nat_lt, not}
use Rattle.std.specs.List.{position_or_len}
use Rattle.std.specs.Str.{bytes_eq}
use Rattle.iiif_machine.specs.Rows as rows
use Rattle.iiif_machine.specs.declared.node.Node.{Node}
use Rattle.iiif_machine.specs.Nodes.{node_of}

length_map : (ns : List Node) → length (map node_of ns) ≡ length ns
length_map [] = refl
length_map (n ∷ ns) = ap suc (length_map ns)

abbrev named : List ℕ → rows.Node → Bool
named name m = bytes_eq m.name name

abbrev code_named : List ℕ → Node → Bool
code_named name m = bytes_eq m.name name

same_place : (ns : List Node) (name : List ℕ) → position_or_len (named name) (map node_of ns) ≡ position_or_len (code_named name) ns
same_place [] name = refl
same_place (n ∷ ns) name = ap (λ m. cond (not (bytes_eq n.name name)) (1 + m) 0) (same_place ns name)

pub place_of_named : (ns : List Node) (name : List ℕ) →
    position (λ (m : rows.Node). bytes_eq m.name name) (map node_of ns) ≡ position (λ (m : Node). bytes_eq m.name name) ns
place_of_named ns name =
    ap (λ n. cond (nat_lt n (length (map node_of ns))) (Some n) None) (same_place ns name)
    ∙ ap (λ l. cond (nat_lt (position_or_len (code_named name) ns) l) (Some (position_or_len (code_named name) ns)) None) (length_map ns)

pub placed_by : (ns ms : List Node) (name word : List ℕ) (o : Option ℕ) → word ≡ name → ms ≡ ns →
    position (λ (m : Node). bytes_eq m.name word) ms ≡ o →
    position (λ (m : rows.Node). bytes_eq m.name name) (map node_of ns) ≡ o
placed_by ns ms name word o same all is =
    place_of_named ns name ∙ ap (λ (x : List ℕ). position (λ (m : Node). bytes_eq m.name x) ns) (sym same)
    ∙ ap (λ (xs : List Node). position (λ (m : Node). bytes_eq m.name word) xs) (sym all) ∙ is
