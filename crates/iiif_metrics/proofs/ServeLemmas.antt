-- A connection that has just begun.
use Rattle.std.proofs.Common.{◌≡◌, ℕ, List, [], Option, Some, None, subst}
use Rattle.std.specs.Prelude.{IfSome}
use Rattle.std.specs.Io.KnownBytes.{prepend_known}
use Rattle.iiif_http_front.specs.Reading.{Reading, input_of}

-- where nothing was read before, what holds of all input holds of what the reader has left
of_the_rest : (known : Option (List ℕ)) (P Q : List ℕ → Type 0) → IfSome (prepend_known [] known) P →
    ((input : List ℕ) → P input → Q input) → IfSome known Q
of_the_rest None P Q h f = h
of_the_rest (Some input) P Q h f = f input h

pub of_all_input : {R : Type 0} (remaining : R → Option (List ℕ)) (heads : Reading R) (reader : R) →
    heads ≡ record { unread = []; reader = reader; fault = None }
    → (P Q : List ℕ → Type 0) → IfSome (input_of remaining heads) P → ((input : List ℕ) → P input → Q input) → IfSome (remaining reader) Q
of_all_input {R} remaining heads reader is P Q h f =
    of_the_rest (remaining reader) P Q (subst (λ (x : Reading R). IfSome (input_of remaining x) P) is h) f
