-- A text that was cut, as a part of a longer one.
use Rattle.std.proofs.Common.{◌≡◌, ℕ, ◌+◌, ◌≤◌, List, [], ◌∷◌, ◌++◌, length, get_or, take, Option, sym, ap, ◌∙◌, subst, length-append}
use Rattle.std.proofs.Common.{arith}
use Rattle.std.proofs.lemmas.List.{take-append-le}
use Rattle.std.proofs.Math.Seq.{take-append-add}
use Rattle.std.specs.Io.KnownBytes.{Appends}
use Rattle.std.proofs.KnownBytes.{Appends-trans}
use Rattle.std.specs.Int.{w32, to_be_bytes}
use Rattle.iiif_io.specs.Sending.{WasCut}
use Rattle.iiif_peer_wire.specs.declared.fault.WireFault.{WireFault}
use Rattle.iiif_peer_wire.specs.Faults.{IsCut}
use Rattle.iiif_peer_wire.specs.declared.version.Version.{Version}
use Rattle.iiif_peer_wire.specs.Messages.{digit_of, ask_text, field, reply_magic}

module _ {W : Type 0} (contents : W → Option (List ℕ)) (fails : W → W → Type 0) where
  -- cut in the first of two texts
  cut_before : (old new : W) (first second : List ℕ) (sent : ℕ) → WasCut contents fails old new first sent →
      WasCut contents fails old new (first ++ second) sent
  cut_before old new first second sent cut =
      let within : sent ≤ length first = omega (arith, cut.strict) in
      record {
        strict = omega (arith, cut.strict, length-append first second);
        written = subst (Appends (contents old) (contents new)) (sym (take-append-le sent first second within)) cut.written;
        before = cut.before;
        reached = subst (Appends (contents old) (contents cut.before)) (sym (take-append-le sent first second within)) cut.reached;
        failed = cut.failed;
      }

  -- cut in the second of two texts
  cut_behind : (old mid new : W) (first second : List ℕ) (sent : ℕ) → Appends (contents old) (contents mid) first →
      WasCut contents fails mid new second sent
      → WasCut contents fails old new (first ++ second) (length first + sent)
  cut_behind old mid new first second sent whole cut = record {
    strict = omega (arith, cut.strict, length-append first second);
    written = subst (Appends (contents old) (contents new)) (sym (take-append-add first second sent))
        (Appends-trans (contents old) (contents mid) (contents new) first (take sent second) whole cut.written);
    before = cut.before;
    reached = subst (Appends (contents old) (contents cut.before)) (sym (take-append-add first second sent))
        (Appends-trans (contents old) (contents mid) (contents cut.before) first (take sent second) whole cut.reached);
    failed = cut.failed;
  }

  pub cut_first : (old new : W) (first second : List ℕ) (fault : WireFault) → IsCut contents fails old new first fault →
      IsCut contents fails old new (first ++ second) fault
  cut_first old new first second fault cut = (cut.0, (cut.1.0, cut_before old new first second cut.1.0 cut.1.1))

  pub cut_second : (old mid new : W) (first second : List ℕ) (fault : WireFault) → Appends (contents old) (contents mid) first →
      IsCut contents fails mid new second fault
      → IsCut contents fails old new (first ++ second) fault
  cut_second old mid new first second fault whole cut =
      (cut.0, (length first + cut.1.0, cut_behind old mid new first second cut.1.0 whole cut.1.1))

-- the bytes that a message begins with

pub ask_head : (version : Version) (size key : List ℕ) (digit group : ℕ) → digit ≡ digit_of version → size ≡ to_be_bytes w32 (length key)
    → (73 ∷ 71 ∷ 65 ∷ digit ∷ group ∷ get_or size 0 0 ∷ get_or size 1 0 ∷ get_or size 2 0 ∷ get_or size 3 0 ∷ []) ++ key ≡ ask_text version
    group key
unfolding ask_text
ask_head version size key digit group d e =
    ap (λ n. (73 ∷ 71 ∷ 65 ∷ n ∷ group ∷ get_or size 0 0 ∷ get_or size 1 0 ∷ get_or size 2 0 ∷ get_or size 3 0 ∷ []) ++ key) d
    ∙ ap (λ s. (73 ∷ 71 ∷ 65 ∷ digit_of version ∷ group ∷ get_or s 0 0 ∷ get_or s 1 0 ∷ get_or s 2 0 ∷ get_or s 3 0 ∷ []) ++ key) e

pub reply_head : (version : Version) (size key : List ℕ) (digit : ℕ) → digit ≡ digit_of version → size ≡ to_be_bytes w32 (length key)
    → (73 ∷ 71 ∷ 82 ∷ digit ∷ get_or size 0 0 ∷ get_or size 1 0 ∷ get_or size 2 0 ∷ get_or size 3 0 ∷ []) ++ key ≡ reply_magic version ++
    field key
reply_head version size key digit d e =
    ap (λ n. (73 ∷ 71 ∷ 82 ∷ n ∷ get_or size 0 0 ∷ get_or size 1 0 ∷ get_or size 2 0 ∷ get_or size 3 0 ∷ []) ++ key) d
    ∙ ap (λ s. (73 ∷ 71 ∷ 82 ∷ digit_of version ∷ get_or s 0 0 ∷ get_or s 1 0 ∷ get_or s 2 0 ∷ get_or s 3 0 ∷ []) ++ key) e

pub value_head : (size value : List ℕ) (status : ℕ) → size ≡ to_be_bytes w32 (length value)
    → (status ∷ get_or size 0 0 ∷ get_or size 1 0 ∷ get_or size 2 0 ∷ get_or size 3 0 ∷ []) ++ value ≡ status ∷ field value
value_head size value status e = ap (λ s. (status ∷ get_or s 0 0 ∷ get_or s 1 0 ∷ get_or s 2 0 ∷ get_or s 3 0 ∷ []) ++ value) e
