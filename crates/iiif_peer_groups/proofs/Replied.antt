-- A reply, from what was found or from why nothing was.
use Rattle.std.proofs.Common.{◌≡◌, ◌⊎◌, inl, inr, ℕ, List, [], Result, Ok, Err, Vec, Global, sym, subst}
use Rattle.std.specs.Prelude.{IfErr, IfOk, MatchResult}
use Rattle.iiif_keys.specs.Faults.{fault_number}
use Rattle.iiif_keys.specs.declared.fault.Fault.{Fault}
use Rattle.iiif_peer_groups.specs.Kinds.{Kind, System}
use Rattle.iiif_peer_groups.specs.Replying.{HasFault, HasValue, IsReplyTo}
use Rattle.iiif_peer_wire.specs.declared.version.Version.{Version}

pub replied : {K V : Type 0} (kind : Kind K V) (node : System) (version : Version) (bytes : List ℕ)
    (outcome : Result (Vec ℕ Global) Fault) (status : ℕ) (value : List ℕ)
    → IfOk outcome (λ v. HasValue kind node version bytes v.items) → IfErr outcome (HasFault kind node version bytes)
    → MatchResult outcome (λ v. (status ≡ 0) × (value ≡ v.items)) (λ f. (status ≡ fault_number f) × (value ≡ []))
    → IsReplyTo kind node version bytes status value
replied kind node version bytes (Ok v) status value has none is = inl (is.0, subst (λ x. HasValue kind node version bytes x) (sym is.1) has)
replied kind node version bytes (Err f) status value none has is = inr (f, is.0, is.1, has)
