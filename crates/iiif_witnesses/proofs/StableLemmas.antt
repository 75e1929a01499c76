-- What holds of a value where a name is stable, though nothing says by which proof: a value is equal in one way.
use Rattle.std.proofs.Common.{◌≡◌, Result, Ok, Err}
use Rattle.std.specs.Prelude.{IfOk}
use Rattle.std.proofs.Math.Logic.{∥∥₁_elim}
use Rattle.std.proofs.Props.{props}
use Rattle.iiif_keys.specs.declared.values.SumVal.{SumVal}
use Rattle.iiif_keys.specs.declared.values.TileVal.{TileVal}

tile_val_prop : (v w : TileVal) → IsProp (v ≡ w)
tile_val_prop v w = hlevel props

pub tile_where_stable : {E : Type 0} (stable : Type 0) (r : Result TileVal E) (m : TileVal) → ∥ stable ∥₁ → (stable → IfOk r (λ v. v ≡ m)) →
    IfOk r (λ v. v ≡ m)
tile_where_stable stable (Ok v) m is f = ∥∥₁_elim is (tile_val_prop v m) f
tile_where_stable stable (Err e) m is f = tt

sum_val_prop : (v w : SumVal) → IsProp (v ≡ w)
sum_val_prop v w = hlevel props

pub sum_where_stable : {E : Type 0} (stable : Type 0) (r : Result SumVal E) (m : SumVal) → ∥ stable ∥₁ → (stable → IfOk r (λ v. v ≡ m)) →
    IfOk r (λ v. v ≡ m)
sum_where_stable stable (Ok v) m is f = ∥∥₁_elim is (sum_val_prop v m) f
sum_where_stable stable (Err e) m is f = tt
