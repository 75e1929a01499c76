-- What was taken and refused in one part, said of the whole.
use Rattle.std.proofs.Common.{◌≡◌, ◌≢◌, ℕ, ◌<◌, ◌≤◌, List, [], ◌++◌, length, take, Option, Some, None, Result, Ok, Err, IfErr, IsErrAnd}
use Rattle.std.proofs.Common.{refl, sym, ap, ◌∙◌, subst, append_assoc, append-nil, length-append, length-take, arith}
use Rattle.std.specs.Io.KnownBytes.{Consumes, IsAtEnd}
use Rattle.std.proofs.KnownBytes.{Consumes-nil, Consumes-trans}
use Rattle.iiif_peer_wire.specs.declared.fault.WireFault.{WireFault}
use Rattle.iiif_peer_wire.specs.declared.fault.WireFault.TheVariants.{Magic, Short, Long, Key, Digest, Status, Io, NoMemory}
use Rattle.iiif_peer_wire.specs.Code.{Refuses, Unread}
use Rattle.iiif_peer_wire.specs.Faults.{IsRefusal}
use Rattle.iiif_peer_wire.specs.Reading.{IsInput, bytes_at}
use Rattle.iiif_peer_wire.proofs.Parts.{bytes_at-short}

pub length-take-at_most : (n : ℕ) (xs : List ℕ) → length (take n xs) ≤ n
length-take-at_most n xs = omega (arith, length-take n xs)

-- at the exit of a `?`, the fault of the call
pub exit_fault : {T : Type 0} (r : Result T WireFault) (P : WireFault → Type 0) (fault : WireFault) → IsErrAnd r (λ e. e ≡ fault) →
    P fault → IfErr r P
exit_fault (Ok x) P fault is h = tt
exit_fault (Err e) P fault is h = subst P (sym is) h

pub if_err_weaker : {T : Type 0} {P Q : WireFault → Type 0} (r : Result T WireFault) → ((e : WireFault) → P e → Q e) → IfErr r P → IfErr r Q
if_err_weaker (Ok x) f h = tt
if_err_weaker (Err e) f h = f e h

-- what is refused behind a text that was taken
behind : {A B : Type 0} (old mid new : Option (List ℕ)) (f : List ℕ → Result A WireFault) (g : List ℕ → Result B WireFault) (text : List ℕ)
    (fault : WireFault)
    → Consumes old mid text → ((rest : List ℕ) → g rest ≡ Err fault → f (text ++ rest) ≡ Err fault) → Refuses mid new g fault →
    Refuses old new f fault
behind old mid new f g text fault took passes r = record {
  read = text ++ r.read;
  took = Consumes-trans old mid new text r.read took r.took;
  ended = r.ended;
  refused = λ rest none. ap f (append_assoc text r.read rest) ∙ passes (r.read ++ rest) (r.refused rest none);
}

-- what is refused at once
at_once : {A : Type 0} (old new : Option (List ℕ)) (f : List ℕ → Result A WireFault) (text : List ℕ) (fault : WireFault)
    → Consumes old new text → fault ≢ Short → ((rest : List ℕ) → f (text ++ rest) ≡ Err fault) → Refuses old new f fault
at_once old new f text fault took not_short refused = record {
  read = text;
  took = took;
  ended = λ short. absurd (not_short short);
  refused = λ rest _. refused rest;
}

-- where the input ended inside
cut_short : {A : Type 0} (old new : Option (List ℕ)) (f : List ℕ → Result A WireFault) (read : List ℕ)
    → Consumes old new read → IsAtEnd new → f read ≡ Err Short → Refuses old new f Short
cut_short old new f read took end refused = record {
  read = read;
  took = took;
  ended = λ _. end;
  refused = λ rest none. ap f (ap (λ l. read ++ l) (none refl) ∙ append-nil read) ∙ refused;
}

module _ {I : Type 0} (left : I → Option (List ℕ)) (fails : I → I → Type 0) where
  pub unread_behind : {A B : Type 0} (old mid new : I) (f : List ℕ → Result A WireFault) (g : List ℕ → Result B WireFault) (text : List ℕ)
      (fault : WireFault)
      → Consumes (left old) (left mid) text → ((rest : List ℕ) → g rest ≡ Err fault → f (text ++ rest) ≡ Err fault)
      → Unread left fails mid new g fault → Unread left fails old new f fault
  unread_behind old mid new f g text Magic took passes r = behind (left old) (left mid) (left new) f g text Magic took passes r
  unread_behind old mid new f g text Short took passes r = behind (left old) (left mid) (left new) f g text Short took passes r
  unread_behind old mid new f g text Long took passes r = behind (left old) (left mid) (left new) f g text Long took passes r
  unread_behind old mid new f g text Key took passes r = behind (left old) (left mid) (left new) f g text Key took passes r
  unread_behind old mid new f g text Digest took passes r = behind (left old) (left mid) (left new) f g text Digest took passes r
  unread_behind old mid new f g text Status took passes r = behind (left old) (left mid) (left new) f g text Status took passes r
  unread_behind old mid new f g text Io took passes r = r
  unread_behind old mid new f g text NoMemory took passes r = tt

  -- what is refused in the first part
  pub unread_first : {A B : Type 0} (old new : I) (f : List ℕ → Result A WireFault) (g : List ℕ → Result B WireFault) (fault : WireFault)
      → ((rest : List ℕ) → g rest ≡ Err fault → f rest ≡ Err fault) → Unread left fails old new g fault → Unread left fails old new f fault
  unread_first old new f g fault passes r = unread_behind old old new f g [] fault (Consumes-nil (left old)) passes r

  -- a read that failed
  pub unread_failed : {A : Type 0} (old new : I) (f : List ℕ → Result A WireFault) (fault : WireFault) → fault ≡ Io → (before : I) →
      fails before new → Unread left fails old new f fault
  unread_failed {A} old new f fault is before failed = let P : WireFault → Type 0 = λ x. Unread left fails old new f x in
      subst P (sym is) (before, failed)

  pub unread_magic : {A : Type 0} (old new : I) (f : List ℕ → Result A WireFault) (text : List ℕ) → Consumes (left old) (left new) text
      → ((rest : List ℕ) → f (text ++ rest) ≡ Err Magic) → Unread left fails old new f Magic
  unread_magic old new f text took refused = at_once (left old) (left new) f text Magic took (λ e. cc) refused

  pub unread_long : {A : Type 0} (old new : I) (f : List ℕ → Result A WireFault) (text : List ℕ) → Consumes (left old) (left new) text
      → ((rest : List ℕ) → f (text ++ rest) ≡ Err Long) → Unread left fails old new f Long
  unread_long old new f text took refused = at_once (left old) (left new) f text Long took (λ e. cc) refused

  pub unread_key : {A : Type 0} (old new : I) (f : List ℕ → Result A WireFault) (text : List ℕ) → Consumes (left old) (left new) text
      → ((rest : List ℕ) → f (text ++ rest) ≡ Err Key) → Unread left fails old new f Key
  unread_key old new f text took refused = at_once (left old) (left new) f text Key took (λ e. cc) refused

  pub unread_digest : {A : Type 0} (old new : I) (f : List ℕ → Result A WireFault) (text : List ℕ) → Consumes (left old) (left new) text
      → ((rest : List ℕ) → f (text ++ rest) ≡ Err Digest) → Unread left fails old new f Digest
  unread_digest old new f text took refused = at_once (left old) (left new) f text Digest took (λ e. cc) refused

  pub unread_status : {A : Type 0} (old new : I) (f : List ℕ → Result A WireFault) (text : List ℕ) → Consumes (left old) (left new) text
      → ((rest : List ℕ) → f (text ++ rest) ≡ Err Status) → Unread left fails old new f Status
  unread_status old new f text took refused = at_once (left old) (left new) f text Status took (λ e. cc) refused

  pub unread_short : {A : Type 0} (old new : I) (f : List ℕ → Result A WireFault) (read : List ℕ) → Consumes (left old) (left new) read →
      IsAtEnd (left new)
      → f read ≡ Err Short → Unread left fails old new f Short
  unread_short old new f read took end refused = cut_short (left old) (left new) f read took end refused

  -- the input that is refused
  input_of : {A : Type 0} (old new : Option (List ℕ)) (f : List ℕ → Result A WireFault) (fault : WireFault) → Refuses old new f fault
      → (input : List ℕ) × IsInput old input × (f input ≡ Err fault)
  input_of None new f fault r = (r.read ++ [], tt, r.refused [] (λ _. refl))
  input_of (Some xs) None f fault r = absurd r.took
  input_of (Some xs) (Some ys) f fault r = (xs, refl, ap f r.took ∙ r.refused ys (λ short. r.ended short))

  pub refused_input : {A : Type 0} (old new : I) (f : List ℕ → Result A WireFault) (fault : WireFault) → Unread left fails old new f fault →
      IsRefusal fault
      → (input : List ℕ) × IsInput (left old) input × (f input ≡ Err fault)
  refused_input old new f Magic r is = input_of (left old) (left new) f Magic r
  refused_input old new f Short r is = input_of (left old) (left new) f Short r
  refused_input old new f Long r is = input_of (left old) (left new) f Long r
  refused_input old new f Key r is = input_of (left old) (left new) f Key r
  refused_input old new f Digest r is = input_of (left old) (left new) f Digest r
  refused_input old new f Status r is = input_of (left old) (left new) f Status r
  refused_input old new f Io r is = absurd is
  refused_input old new f NoMemory r is = absurd is

  -- a pull that gave nothing, where more was wanted
  pub pulled_short : (old mid new : I) (count : ℕ) (bytes buffer : List ℕ) (n : ℕ) → Consumes (left old) (left mid) bytes
      → Consumes (left mid) (left new) (take n buffer) × (n ≡ 0 → 0 < length buffer → IsAtEnd (left new)) → n ≡ 0 → 0 < length buffer →
      length bytes < count
      → Unread left fails old new (bytes_at count) Short
  pulled_short old mid new count bytes buffer n took pulled none room less =
      unread_short old new (bytes_at count) (bytes ++ take n buffer)
      (Consumes-trans (left old) (left mid) (left new) bytes (take n buffer) took pulled.0) (pulled.1 none room)
      (bytes_at-short count (bytes ++ take n buffer)
      (omega (arith, length-append bytes (take n buffer), length-take-at_most n buffer, none, less)))
