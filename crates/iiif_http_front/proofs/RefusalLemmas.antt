-- `refused` and `at_once`: whole lines that are refused are answered with the read that ends them.
use Rattle.std.proofs.Common.{◌≡◌, ℕ, ◌<◌, inl, inr, List, [], ◌++◌, length, drop, sym, ap, ◌∙◌, subst, arith, refl}
use Rattle.std.proofs.Common.{append_assoc, false, Ok, Err}
use Rattle.std.specs.Prelude.{◌==◌}
use Rattle.std.specs.List.{list_any}
use Rattle.std.proofs.Math.ListN.{length-append}
use Rattle.httparse.specs.Grammar.{RequestHead, HasNoRequest, MayBecomeRequest}
use Rattle.iiif_http_front.specs.RequestHeads.{BeginsWithCall}
use Rattle.iiif_http_front.specs.declared.call.Call.{Call}
use Rattle.iiif_http_front.specs.declared.head_fault.HeadFault.{HeadFault}
use Rattle.iiif_http_front.specs.declared.head_fault.HeadFault.TheVariants.{Bad, TooLong, Cut, Io, NoMemory}
use Rattle.iiif_http_front.specs.declared.search.Found.TheVariants.{Whole, Partial}
use Rattle.iiif_http_front.specs.Reading.{whole_lines, HasFewFields, IsBad, no_head}
use Rattle.iiif_http_front.specs.Reading.{many_fields, many_lines, has_body, IsRefused, HasNoRefusal}
use Rattle.iiif_http_front.specs.Code.{Finds, IsOpen}
use Rattle.iiif_http_front.proofs.AnswerLemmas.{bad-append}
use Rattle.iiif_http_front.proofs.InputLemmas.{not_bad}
use Rattle.iiif_http_front.proofs.LineLemmas.{feeds, order, front_of, last_feeds}
use Rattle.iiif_http_front.proofs.LineLemmas.{no_feeds, feeds-append, target_lines, lines_grow, exceeding_lines}

-- bytes that may become a head, with few lines, and none whole, aren't refused
not_open : (bytes : List ℕ) → HasNoRequest bytes → MayBecomeRequest bytes → HasFewFields bytes → 0 < whole_lines bytes → IsBad bytes → ⊥
not_open bytes none (inr target) few begun bad = omega (arith, target_lines bytes target, begun)
not_open bytes none (inl may) few begun (no_head never) = never may.0 may.1 [] may.2
not_open bytes none (inl may) few begun (many_fields over all) =
    omega (arith, few, ap whole_lines over.2, lines_grow over.0 over.1, exceeding_lines over.0 over.3 over.4, over.5)
not_open bytes none (inl may) few begun (many_lines front rest is unwhole many) =
    many (omega (arith, few, ap whole_lines is, lines_grow front rest))
not_open bytes none (inl may) few begun (has_body h rest reads announced) = none h rest reads

all_bad : (bytes : List ℕ) → IsRefused bytes → IsBad bytes
all_bad bytes bad = subst IsBad (sym bad.all) (bad-append bad.lines bad.rest bad.bad)

pub partial_stays : (bytes : List ℕ) → Finds bytes (Ok Partial) → HasNoRefusal bytes
unfolding HasNoRefusal
partial_stays bytes found bad =
    let begun : 0 < whole_lines bytes = omega (arith, bad.begun, ap whole_lines bad.all, lines_grow bad.lines bad.rest) in
    not_open bytes found.0 found.1 found.2 begun (all_bad bytes bad)

call_stays : (bytes : List ℕ) (h : RequestHead) (rest : List ℕ) → BeginsWithCall bytes h rest → ¬ (IsRefused bytes)
call_stays bytes h rest call bad = not_bad bytes h rest call.reads call.fields call.bare (all_bad bytes bad)

fault_bad : (bytes : List ℕ) (fault : HeadFault) → Finds bytes (Err fault) → IsRefused bytes → fault ≡ Bad
fault_bad bytes Bad found bad = refl
fault_bad bytes NoMemory found bad = absurd (call_stays bytes found.0 found.1 found.2 bad)
fault_bad bytes Io found bad = absurd found
fault_bad bytes TooLong found bad = absurd found
fault_bad bytes Cut found bad = absurd found

pub refused-append : (bytes more : List ℕ) → IsRefused bytes → IsRefused (bytes ++ more)
refused-append bytes more bad = record {
  lines = bad.lines;
  rest = bad.rest ++ more;
  all = ap (λ (t : List ℕ). t ++ more) bad.all ∙ append_assoc bad.lines bad.rest more;
  ended = bad.ended;
  begun = bad.begun;
  bad = bad.bad;
}

-- no line is refused that hasn't ended
pub stays_further : (bytes more : List ℕ) → HasNoRefusal bytes → list_any (λ b. b == 10) more ≡ false → HasNoRefusal (bytes ++ more)
unfolding HasNoRefusal
stays_further bytes more stays without bad =
    (elim (order (length bytes) (length bad.lines)) as (λ _. ⊥) [
      | inr within ↦ stays (record {
        lines = bad.lines;
        rest = drop (length bad.lines) bytes;
        all = sym (front_of bad.lines bad.rest bytes more (sym bad.all) within);
        ended = bad.ended;
        begun = bad.begun;
        bad = bad.bad;
      })
      | inl over ↦
          let left : List ℕ = drop (length bytes) bad.lines in
          let is : bytes ++ left ≡ bad.lines = front_of bytes more bad.lines bad.rest bad.all (omega (arith, over)) in
          let some : 0 < length left = omega (arith, ap length is, length-append bytes left, over) in
          let feed : 0 < feeds left = last_feeds bytes left bad.ended.0 (is ∙ bad.ended.1) some in
          absurd (omega (
            arith,
            feed,
            ap feeds bad.all,
            feeds-append bytes more,
            feeds-append bad.lines bad.rest,
            ap feeds is,
            feeds-append bytes left,
            no_feeds more without,
          ))
    ])

-- a search that finds a call, or nothing yet, finds no line that is refused
pub none_refused : (shown bytes old came : List ℕ) → shown ≡ bytes → bytes ≡ old ++ came → Finds shown (Ok Partial) → ¬ (IsRefused old)
unfolding HasNoRefusal
none_refused shown bytes old came same is found bad =
    partial_stays shown found (subst IsRefused (sym (same ∙ is)) (refused-append old came bad))

pub call_refused : (shown bytes old came : List ℕ) (call : Call) (n : ℕ) → shown ≡ bytes → bytes ≡ old ++ came →
    Finds shown (Ok (Whole call n)) → ¬ (IsRefused old)
call_refused shown bytes old came call n same is found bad =
    call_stays shown found.1.0 (drop n shown) found.1.1 (subst IsRefused (sym (same ∙ is)) (refused-append old came bad))

pub fault_refused : (shown bytes old came : List ℕ) (fault : HeadFault) → shown ≡ bytes → bytes ≡ old ++ came → Finds shown (Err fault) →
    IsRefused old → fault ≡ Bad
fault_refused shown bytes old came fault same is found bad =
    fault_bad shown fault found (subst IsRefused (sym (same ∙ is)) (refused-append old came bad))

-- the search found nothing yet, in bytes that are shown as a slice
pub stays_open : (shown bytes : List ℕ) → shown ≡ bytes → Finds shown (Ok Partial) → length bytes < 8192 → IsOpen bytes
stays_open shown bytes same found short =
    let here = subst (λ (t : List ℕ). Finds t (Ok Partial)) same found in
    record { not_whole = here.0; not_refused = partial_stays bytes here; short = short }
