-- What several calls know.
use Rattle.std.proofs.Common.{◌≡◌, ℕ, List, ◌∷◌, Bool, true, false, Option, Some, None, Result, Ok, Err, refl, sym, ap, ◌∙◌, if◌then◌else◌}
use Rattle.iiif_machine.specs.Types.{ReadFault}
use Rattle.iiif_machine.specs.declared.keys.Value.{Value}
use Rattle.iiif_machine.specs.Tables.{Outcome}
use Rattle.iiif_machine.specs.Worlds.{World, ◌>>=◌, learned, all_learned, or_more, learned_to_fault, decided, collected, or_fault}
use Rattle.iiif_machine.specs.Heard.{heard, heard_all, heard_first, heard_from}
use Rattle.iiif_machine.specs.declared.hearing.Heard.{Heard}
use Rattle.iiif_machine.specs.declared.hearing.Heard.TheVariants as code

more : (o : Outcome) (r : Result (List Value) ReadFault) → heard_from (or_fault o r) ≡ heard_first false (heard (Some o)) (heard_from r)
more (Ok v) (Ok vs) = refl
more (Ok v) (Err f) = refl
more (Err f) (Ok vs) = refl
more (Err f) (Err g) = refl

with_rest : (o : Option Outcome) (os : Option (List Outcome)) →
    heard_all (o >>= (λ (x : Outcome). os >>= (λ (xs : List Outcome). Some (x ∷ xs)))) ≡ heard_first false (heard o) (heard_all os)
with_rest None None = refl
with_rest None (Some os) = refl
with_rest (Some (Ok v)) None = refl
with_rest (Some (Err f)) None = refl
with_rest (Some o) (Some os) = more o (collected os)

early_fault : (f : ReadFault) (h : Heard) → code.Fault f ≡ heard_first true (code.Fault f) h
early_fault f code.Nothing = refl
early_fault f code.Value = refl
early_fault f (code.Fault g) = refl

early_value : (v : Value) (r : Result (List Value) ReadFault) → heard_from (or_fault (Ok v) r) ≡ heard_from r
early_value v (Ok vs) = refl
early_value v (Err f) = refl

with_early : (o : Option Outcome) (os : Option (List Outcome)) →
    heard_all (o >>= (λ (x : Outcome). or_more x os)) ≡ heard_first true (heard o) (heard_all os)
with_early None os = refl
with_early (Some (Err f)) os = early_fault f (heard_all os)
with_early (Some (Ok v)) None = refl
with_early (Some (Ok v)) (Some os) = early_value v (collected os)

pub heard_more : (w : World) (c : ℕ) (cs : List ℕ) →
    heard_all (decided w (c ∷ cs)) ≡ heard_first w.scene.faults_early (heard (learned w c)) (heard_all (decided w cs))
heard_more w c cs = by w.scene.faults_early
  where
    by : (b : Bool) → heard_all (if b then learned_to_fault w (c ∷ cs) else all_learned w (c ∷ cs))
        ≡ heard_first b (heard (learned w c)) (heard_all (if b then learned_to_fault w cs else all_learned w cs))
    by true = with_early (learned w c) (learned_to_fault w cs)
    by false = with_rest (learned w c) (all_learned w cs)

pub heard_assoc : (early : Bool) (a b c : Heard) →
    heard_first early a (heard_first early b c) ≡ heard_first early (heard_first early a b) c
heard_assoc early code.Nothing b c = refl
heard_assoc early code.Value b c = refl
heard_assoc true (code.Fault f) code.Nothing c = early_fault f c
heard_assoc false (code.Fault f) code.Nothing c = refl
heard_assoc early (code.Fault f) code.Value c = refl
heard_assoc true (code.Fault f) (code.Fault g) code.Nothing = refl
heard_assoc false (code.Fault f) (code.Fault g) code.Nothing = refl
heard_assoc early (code.Fault f) (code.Fault g) code.Value = refl
heard_assoc early (code.Fault f) (code.Fault g) (code.Fault h) = refl

-- one call more
pub one_more : (w : World) (all : Heard) (a h : Heard) (c : ℕ) (cs ds : List ℕ) →
    all ≡ heard_first w.scene.faults_early a (heard_all (decided w ds)) → ds ≡ c ∷ cs → h ≡ heard (learned w c) →
    all ≡ heard_first w.scene.faults_early (heard_first w.scene.faults_early a h) (heard_all (decided w cs))
one_more w all a h c cs ds is list knows =
    let early = w.scene.faults_early in
    is ∙ ap (λ (xs : List ℕ). heard_first early a (heard_all (decided w xs))) list ∙ ap (heard_first early a) (heard_more w c cs)
    ∙ heard_assoc early a (heard (learned w c)) (heard_all (decided w cs)) ∙
    ap (λ (x : Heard). heard_first early (heard_first early a x) (heard_all (decided w cs))) (sym knows)
