-- Lemmas on bytes that are cut or filled to a length.
use Rattle.std.proofs.Common.{◌≡◌, ℕ, ◌+◌, ◌*◌, ◌-◌, ◌<◌, ◌≤◌, List, length, get_or, take, replicate, ap, ◌∙◌, sym, inl, inr, arith}
use Rattle.std.proofs.lemmas.Bool.{cases_lt}
use Rattle.std.proofs.lemmas.Nat.{mul-le}
use Rattle.std.proofs.lemmas.List.{get_or-take, get_or_past, get_or_append_left, get_or-append-add, get_or-replicate, length-take}
use Rattle.iiif_source.specs.declared.Runs.{Runs}
use Rattle.iiif_source.specs.Files.{fitted}
use Rattle.iiif_source.specs.Runs.{AreIn, HoldsRuns}

-- behind the end of what is held stand zeros
beyond : (n p : ℕ) (held : List ℕ) → p < n → length held ≤ p → get_or (fitted n held) p 0 ≡ 0
beyond n p held below past =
    let cut : length (take n held) ≡ length held = omega (arith, length-take n held, past, below) in
    let rest : p ≡ length (take n held) + (p - length held) = omega (arith, cut, past) in
    ap (λ (k : ℕ). get_or (fitted n held) k 0) rest ∙ get_or-append-add (take n held) (replicate (n - length held) 0) (p - length held) 0
    ∙ get_or-replicate (n - length held) (p - length held) 0 0 (omega (arith, below, past))

-- below the length each byte is what is held
pub fitted_at : (n p : ℕ) (held : List ℕ) → p < n → get_or (fitted n held) p 0 ≡ get_or held p 0
fitted_at n p held below = elim (cases_lt p (length held)) [
  | inl within ↦ get_or_append_left (take n held) (replicate (n - length held) 0) 0 p (omega (arith, length-take n held, below, within)) ∙
      get_or-take n held p 0 below
  | inr past ↦ beyond n p held below past ∙ sym (get_or_past held p 0 past)
]

-- runs within the length
at_run : (n j i : ℕ) (runs : Runs) → AreIn n runs → j < runs.count → i < runs.len → runs.at + j * runs.stride + i < n
at_run n j i runs inside below within =
    let far : j * runs.stride ≤ (runs.count - 1) * runs.stride =
    mul-le j runs.stride (runs.count - 1) runs.stride (omega (arith, below)) (omega arith) in
    omega (arith, far, within, inside.within)

-- runs of bytes cut or filled to a length are runs of the bytes
pub runs_of_held : (n : ℕ) (held buffer : List ℕ) (runs : Runs) → AreIn n runs → HoldsRuns (fitted n held) runs runs.count buffer →
    HoldsRuns held runs runs.count buffer
runs_of_held n held buffer runs inside there j i below within =
    there j i below within ∙ fitted_at n (runs.at + j * runs.stride + i) held (at_run n j i runs inside below within)

-- runs of bytes are runs of them cut or filled to a length
pub runs_of_fitted : (n : ℕ) (held buffer : List ℕ) (runs : Runs) → AreIn n runs → HoldsRuns held runs runs.count buffer →
    HoldsRuns (fitted n held) runs runs.count buffer
runs_of_fitted n held buffer runs inside there j i below within =
    there j i below within ∙ sym (fitted_at n (runs.at + j * runs.stride + i) held (at_run n j i runs inside below within))
