-- What a read behind the unread bytes leaves of the buffer.
use Rattle.std.proofs.Common.{◌≡◌, ℕ, ◌+◌, ◌-◌, ◌≤◌, List, ◌++◌, length, take, drop, slice_range, sym, ap, ◌∙◌, arith, drop-drop}
use Rattle.std.proofs.Common.{append-nil, vec_len, Vec, Global, Result, Ok, Err}
use Rattle.std.proofs.lemmas.List.{drop-take, take-append-le, drop-append-le, length-take-le, length-take, length-drop, with_items_is}
use Rattle.std.proofs.Math.ListN.{length-append}
use Rattle.std.specs.Vec.{with_items}
use Rattle.std.proofs.lemmas.Slice.{between_is, between_from_start}
use Rattle.std.specs.List.{copy_within}
use Rattle.httparse.proofs.RunLemmas.{length-slice_range}
use Rattle.std.specs.Result.{OnErr}
use Rattle.std.proofs.Math.Seq.{take-append-add, take-append_seam}
use borrow.Rule.Slice.PartMut.{put_mid, post_of}

pub drop-slice_range : (xs : List ℕ) (start end n : ℕ) → n ≤ end - start →
    slice_range xs (start + n) end ≡ drop n (slice_range xs start end)
drop-slice_range xs start end n within =
    let whole : n + (end - (start + n)) ≡ end - start = omega arith in
    ap (take (end - (start + n))) (sym (drop-drop n start xs))
    ∙ sym (drop-take n (end - (start + n)) (drop start xs))
    ∙ ap (λ k. drop n (take k (drop start xs))) whole

-- the bytes before the place of the read stay, and behind them stand those that came
pub slice_range-put_mid : (xs new : List ℕ) (start end room n : ℕ) → start ≤ end → end ≤ length xs → n ≤ length new
    → slice_range (put_mid end room xs new) start (end + n) ≡ slice_range xs start end ++ take n new
slice_range-put_mid xs new start end room n ordered within few =
    let front : List ℕ = take end xs in
    let tail : List ℕ = post_of end room xs in
    let long : length front ≡ end = length-take-le end xs within in
    let taken : take (end + n) (front ++ (new ++ tail)) ≡ front ++ take n new =
    ap (λ k. take (k + n) (front ++ (new ++ tail))) (sym long) ∙ take-append-add front (new ++ tail) n ∙
    ap (λ (t : List ℕ). front ++ t) (take-append-le n new tail few) in
    between_is (front ++ (new ++ tail)) start (end + n)
    ∙ ap (drop start) taken
    ∙ drop-append-le start front (take n new) (omega (arith, long))
    ∙ ap (λ (t : List ℕ). t ++ take n new) (sym (between_is xs start end))

length-put_mid : (xs new : List ℕ) (end room : ℕ) → end ≤ length xs → room ≡ length xs - end → length new ≡ room →
    length (put_mid end room xs new) ≡ length xs
length-put_mid xs new end room within all same =
    let front : List ℕ = take end xs in
    let tail : List ℕ = post_of end room xs in
    omega (
      arith,
      length-append front (new ++ tail),
      length-append new tail,
      length-take end xs,
      length-drop room (drop end xs),
      length-drop end xs,
    )

-- the same of a vector that was written through its slice
pub slice_range-with_items : (bytes : Vec ℕ Global) (xs new : List ℕ) (start end room n : ℕ) → xs ≡ bytes.items →
    length xs ≡ vec_len bytes → room ≡ length xs - end → length new ≡ room
    → start ≤ end → end ≤ length xs → n ≤ length new
    → slice_range (with_items bytes (put_mid end room xs new)).items start (end + n) ≡ slice_range bytes.items start end ++ take n new
slice_range-with_items bytes xs new start end room n same long all fits ordered within few =
    let kept = length-put_mid xs new end room within all fits in
    ap (λ (t : List ℕ). slice_range t start (end + n)) (with_items_is bytes (put_mid end room xs new) (kept ∙ long))
    ∙ slice_range-put_mid xs new start end room n ordered within few
    ∙ ap (λ (t : List ℕ). slice_range t start end ++ take n new) same

-- no byte came
pub slice_range-with_items_none : (bytes : Vec ℕ Global) (xs new : List ℕ) (start end room : ℕ) → xs ≡ bytes.items →
    length xs ≡ vec_len bytes → room ≡ length xs - end → length new ≡ room
    → start ≤ end → end ≤ length xs
    → slice_range (with_items bytes (put_mid end room xs new)).items start end ≡ slice_range bytes.items start end
slice_range-with_items_none bytes xs new start end room same long all fits ordered within =
    let stays : end + 0 ≡ end = omega arith in
    ap (slice_range (with_items bytes (put_mid end room xs new)).items start) (sym stays)
    ∙ slice_range-with_items bytes xs new start end room 0 same long all fits ordered within (omega arith)
    ∙ append-nil (slice_range bytes.items start end)

-- the bytes were moved to the front
pub slice_range-copy_within : (xs moved : List ℕ) (start end : ℕ) → moved ≡ copy_within xs start end 0 → start ≤ end → end ≤ length xs →
    slice_range moved 0 (end - start) ≡ slice_range xs start end
slice_range-copy_within xs moved start end is ordered within =
    let front : List ℕ = take (end - start) (drop start xs) in
    let rest : List ℕ = drop (0 + (end - start)) xs in
    let long : length front ≡ end - start = omega (arith, length-take (end - start) (drop start xs), length-drop start xs) in
    ap (λ (t : List ℕ). slice_range t 0 (end - start)) is
    ∙ between_from_start (front ++ rest) (end - start)
    ∙ ap (λ k. take k (front ++ rest)) (sym long)
    ∙ take-append_seam front rest

-- how many bytes are unread
pub unread_length : (xs held : List ℕ) (start end : ℕ) → slice_range xs start end ≡ held → start ≤ end → end ≤ length xs →
    end - start ≡ length held
unread_length xs held start end is ordered within = sym (length-slice_range xs start end ordered within) ∙ ap length is

pub OnErr-both : {X E P Q : Type 0} (r : Result X E) → P → Q → OnErr r (P × Q)
OnErr-both (Ok _) p q = tt
OnErr-both (Err _) p q = (p, q)
