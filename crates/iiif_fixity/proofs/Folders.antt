-- The folder of a path.
use Rattle.std.proofs.Common.{◌≡◌, ℕ, ◌+◌, ◌-◌, ◌<◌, ◌≤◌, List, length, take, drop, sym, ◌∙◌, arith}
use Rattle.std.specs.Prelude.{◌≢◌, slice_index}
use Rattle.std.proofs.lemmas.List.{take-append-drop, get_or-take, get_or-drop, length-take, length-drop}
use Rattle.iiif_fixity.specs.Bags.{IsFolderOf}

pub folder_is : (path : List ℕ) (n : ℕ) → n ≤ length path → ((i : ℕ) → n ≤ i → i < length path → slice_index path i ≢ 47) →
    (0 < n → slice_index path (n - 1) ≡ 47) → IsFolderOf path (take n path)
folder_is path n within name slash = record {
  file = drop n path;
  whole = sym (take-append-drop n path);
  name = λ i below is. name (n + i) (omega arith) (omega (arith, below, length-drop n path)) (sym (get_or-drop n path i 0) ∙ is);
  slash = λ some.
      let long : length (take n path) ≡ n = omega (arith, length-take n path, within) in
      rw long (get_or-take n path (n - 1) 0 (omega (arith, some, long)) ∙ slash (omega (arith, some, long)));
}
