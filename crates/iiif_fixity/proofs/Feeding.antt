-- A hasher that is fed with a file, step by step.
use Rattle.std.proofs.Common.{◌≡◌, ℕ, ◌+◌, ◌≤◌, Bool, List, ◌++◌, length, take, drop, ap, ◌∙◌, sym, subst, arith}
use Rattle.std.specs.Prelude.{◌≢◌}
use Rattle.std.proofs.lemmas.List.{length-append, take_all}
use Rattle.std.proofs.Math.Seq.{take-add}
use Rattle.iiif_source.specs.declared.ReadFault.{ReadFault}
use Rattle.iiif_fixity.specs.Faults.{IsHoldFault, IsReadingFault}
use Rattle.iiif_fixity.specs.declared.holding.HoldFault.{HoldFault}
use Rattle.iiif_fixity.specs.declared.holding.HoldFault.TheVariants.{Read, Differs, NoMemory}
use Rattle.sha2.specs.Hashers.{Holds256}
use Rattle.sha2.specs.Sha256.{sha256}
use Rattle.sha2.specs.declared.Sha256.{Sha256}
use Rattle.iiif_fixity.specs.Reads.{IsDigestOfReads, IsFed, IsFront}

-- one more step
pub fed_more : (keeps : Type 0) (bytes : List ℕ) (at : ℕ) (before piece : List ℕ) (old new : Sha256)
    → ((m : List ℕ) → Holds256 old m → Holds256 new (m ++ piece)) → length piece ≡ length before
    → (keeps → piece ≡ take (length before) (drop at bytes)) → IsFed keeps bytes at old → IsFed keeps bytes (at + length before) new
fed_more keeps bytes at before piece old new updates long right fed = record {
  found = fed.found ++ piece;
  front = record {
    many = omega (arith, length-append fed.found piece, fed.front.many, long);
    right = λ kept. ap (λ (xs : List ℕ). xs ++ piece) (fed.front.right kept)
        ∙ (ap (λ (xs : List ℕ). take at bytes ++ xs) (right kept) ∙ sym (take-add at (length before) bytes));
  };
  holds = updates fed.found fed.holds;
}

-- the digest, behind the last step
pub fed_all : (keeps : Type 0) (bytes digest : List ℕ) (count : ℕ) (hasher : Sha256)
    → ((m : List ℕ) → Holds256 hasher m → digest ≡ sha256 m) → count ≡ length bytes → IsFed keeps bytes count hasher
    → IsDigestOfReads keeps bytes digest
fed_all keeps bytes digest count hasher ends all fed = record {
  found = fed.found;
  many = omega (arith, fed.front.many, all);
  right = λ kept. fed.front.right kept ∙ (ap (λ (n : ℕ). take n bytes) all ∙ take_all (length bytes) bytes (omega arith));
  same = ends fed.found fed.holds;
}

-- where what was read has another digest, the file has
pub other_differs : (keeps : Type 0) (bytes read digest : List ℕ) → IsDigestOfReads keeps bytes read → read ≢ digest → keeps
    → sha256 bytes ≢ digest
other_differs keeps bytes read digest is other kept same = other (is.same ∙ (ap sha256 (is.right kept) ∙ same))

-- a fault of reads is one of what compares them
pub reading_fault : (gave : ReadFault → Bool) (fault : HoldFault) → IsReadingFault gave fault → IsHoldFault gave fault
reading_fault gave (Read fault) is = is
reading_fault gave Differs is = absurd is
reading_fault gave NoMemory is = tt

-- and no difference
pub never_differs : (gave : ReadFault → Bool) (fault : HoldFault) → IsReadingFault gave fault → fault ≢ Differs
never_differs gave fault is same = subst (IsReadingFault gave) same is
