-- What is spelled is read: from what reading answers and refuses.
use Rattle.std.proofs.Common.{◌≡◌, ℕ, List, [], ◌++◌, Option, Some, None, Result, Ok, Err, IfOk, IfErr, IfNone, IfSome, IsNone, IsSomeAnd}
use Rattle.std.proofs.Common.{MatchResult, unwrap_or, refl, sym, ap, ◌∙◌, subst}
use Rattle.std.specs.Io.KnownBytes.{Consumes, IsAtEnd}
use Rattle.iiif_peer_wire.specs.declared.fault.WireFault.{WireFault}
use Rattle.iiif_peer_wire.specs.declared.fault.WireFault.TheVariants.{Io}
use Rattle.iiif_peer_wire.specs.declared.version.Version.{Version}
use Rattle.iiif_peer_wire.specs.declared.version.Version.TheVariants.{One}
use Rattle.iiif_peer_wire.specs.Code.{Unread}
use Rattle.iiif_peer_wire.specs.Faults.{IsRefusal}
use Rattle.iiif_peer_wire.specs.Messages.{IsAsk, IsReply, ask_text, reply_text}
use Rattle.iiif_peer_wire.specs.Reading.{IsInput, ask_at, reply_at}
use Rattle.iiif_peer_wire.proofs.Taken.{refused_input}
use Rattle.iiif_peer_wire.proofs.Whole.{ask_at-text, ask_at-nil, reply_at-text}

consumed_known : (xs : List ℕ) (new : Option (List ℕ)) (text : List ℕ) → Consumes (Some xs) new text → (rest : List ℕ) × (new ≡ Some rest) ×
    (xs ≡ text ++ rest)
consumed_known xs None text h = absurd h
consumed_known xs (Some rest) text h = (rest, refl, h)

-- what was consumed of known bytes
consumed : (old new : Option (List ℕ)) (xs text : List ℕ) → old ≡ Some xs → Consumes old new text → (rest : List ℕ) × (new ≡ Some rest) ×
    (xs ≡ text ++ rest)
consumed old new xs text e h = consumed_known xs new text (subst (λ o. Consumes o new text) e h)

input_is : (old : Option (List ℕ)) (xs input : List ℕ) → old ≡ Some xs → IsInput old input → input ≡ xs
input_is old xs input e h = let P : Option (List ℕ) → Type 0 = λ o. IsInput o input in subst P e h

abbrev answer_in : {A : Type 0} → A → Result (A × List ℕ) WireFault → A
answer_in d (Ok x) = x.0
answer_in d (Err e) = d

abbrev rest_in : {A : Type 0} → Result (A × List ℕ) WireFault → List ℕ
rest_in (Ok x) = x.1
rest_in (Err e) = []

abbrev read_some : Version × (ℕ × List ℕ) → List ℕ → Result (Option (Version × (ℕ × List ℕ)) × List ℕ) WireFault
read_some ask rest = Ok (Some ask, rest)

abbrev read_none : Result (Option (Version × (ℕ × List ℕ)) × List ℕ) WireFault
read_none = Ok (None, [])

some_is_none : (ask : Version × (ℕ × List ℕ)) (rest : List ℕ) → read_some ask rest ≡ read_none → ⊥
some_is_none ask rest e = let both : Some ask ≡ None = ap (answer_in None) e in cc

module _ {I : Type 0} (left : I → Option (List ℕ)) (fails : I → I → Type 0) (old new : I) where
  pub io_failed : {A B : Type 0} (r : Result A WireFault) (f : List ℕ → Result B WireFault) → IfErr r (Unread left fails old new f) →
      r ≡ Err Io → (before : I) × fails before new
  io_failed r f h e = let P : Result _ WireFault → Type 0 = λ x. IfErr x (Unread left fails old new f) in subst P e h

  pub refusals : {A B : Type 0} (r : Result A WireFault) (f : List ℕ → Result B WireFault) → IfErr r (Unread left fails old new f)
      → IfErr r (λ fault. IsRefusal fault → (input : List ℕ) × IsInput (left old) input × (f input ≡ Err fault))
  refusals (Ok x) f h = tt
  refusals (Err fault) f h = λ is. refused_input left fails old new f fault h is

  never_refused : {B : Type 0} (f : List ℕ → Result B WireFault) (xs : List ℕ) (answer : B) (fault : WireFault) → left old ≡ Some xs →
      f xs ≡ Ok answer → Unread left fails old new f fault
      → IsRefusal fault → ⊥
  never_refused f xs answer fault known e h is =
      let r = refused_input left fails old new f fault h is in
      let never : Err fault ≡ Ok answer = sym r.2 ∙ ap f (input_is (left old) xs r.0 known r.1) ∙ e in cc

  module _ {X : Type 0} (version_of : X → Version) (group_of : X → ℕ) (key_of : X → List ℕ) where
    ask_given : (x : X) (version : Version) (group : ℕ) (key rest : List ℕ) → IsAsk group key →
        left old ≡ Some (ask_text version group key ++ rest) → IsAsk (group_of x) (key_of x)
        → Consumes (left old) (left new) (ask_text (version_of x) (group_of x) (key_of x)) →
        ((version_of x ≡ version) × (group_of x ≡ group) × (key_of x ≡ key)) × (left new ≡ Some rest)
    ask_given x version group key rest is known found took =
        let t = consumed (left old) (left new) (ask_text version group key ++ rest) (ask_text (version_of x) (group_of x) (key_of x)) known
        took in
        let one = sym (ask_at-text (version_of x) (group_of x) (key_of x) t.0 found) ∙ sym (ap ask_at t.2) ∙
        ask_at-text version group key rest is in
        let parts : Result (Option (Version × (ℕ × List ℕ)) × List ℕ) WireFault → Version × (ℕ × List ℕ) = λ r.
        unwrap_or (answer_in None r) (One, (0, [])) in
        let behind : t.0 ≡ rest = ap rest_in one in
        ((ap (λ r. (parts r).0) one, ap (λ r. (parts r).1.0) one, ap (λ r. (parts r).1.1) one), t.1 ∙ ap (λ (l : List ℕ). Some l) behind)

    -- an ask's text is read as that ask
    pub ask_only : (r : Result (Option X) WireFault) → IfOk r (λ a. IfNone a (Consumes (left old) (left new) [] × IsAtEnd (left new))) →
        IfOk r (λ a. IfSome a (λ x. IsAsk (group_of x) (key_of x)))
        → IfOk r (λ a. IfSome a (λ x. Consumes (left old) (left new) (ask_text (version_of x) (group_of x) (key_of x)))) →
        IfErr r (Unread left fails old new ask_at)
        → (version : Version) (group : ℕ) (key rest : List ℕ) → IsAsk group key → left old ≡ Some (ask_text version group key ++ rest)
        → MatchResult r (λ a. IsSomeAnd a (λ x. (version_of x ≡ version) × (group_of x ≡ group) × (key_of x ≡ key)) ×
        (left new ≡ Some rest)) (λ fault. IsRefusal fault → ⊥)
    ask_only (Ok None) none known whole unread version group key rest is left_is =
        let t = consumed (left old) (left new) (ask_text version group key ++ rest) [] left_is none.0 in
        let nothing : t.0 ≡ [] = let P : Option (List ℕ) → Type 0 = λ o. IsAtEnd o in subst P t.1 none.1 in
        let one = sym (ask_at-text version group key rest is) ∙ ap ask_at (t.2 ∙ nothing) ∙ ask_at-nil in
        absurd (some_is_none (version, (group, key)) rest one)
    ask_only (Ok (Some x)) none known whole unread version group key rest is left_is =
        ask_given x version group key rest is left_is known whole
    ask_only (Err fault) none known whole unread version group key rest is left_is =
        never_refused ask_at (ask_text version group key ++ rest) (Some (version, (group, key)), rest) fault left_is
        (ask_at-text version group key rest is) unread

    -- at a clean end there is no ask
    pub ask_none : (r : Result (Option X) WireFault) → IfOk r (λ a. IfSome a (λ x. IsAsk (group_of x) (key_of x)))
        → IfOk r (λ a. IfSome a (λ x. Consumes (left old) (left new) (ask_text (version_of x) (group_of x) (key_of x)))) →
        IfErr r (Unread left fails old new ask_at)
        → left old ≡ Some [] → MatchResult r (λ a. IsNone a) (λ fault. IsRefusal fault → ⊥)
    ask_none (Ok None) known whole unread left_is = refl
    ask_none (Ok (Some x)) known whole unread left_is =
        let t = consumed (left old) (left new) [] (ask_text (version_of x) (group_of x) (key_of x)) left_is whole in
        let one = sym (ask_at-text (version_of x) (group_of x) (key_of x) t.0 known) ∙ sym (ap ask_at t.2) ∙ ask_at-nil in
        absurd (some_is_none (version_of x, (group_of x, key_of x)) t.0 one)
    ask_none (Err fault) known whole unread left_is = never_refused ask_at [] (None, []) fault left_is ask_at-nil unread

  module _ {X : Type 0} (status_of : X → ℕ) (value_of : X → List ℕ) (version : Version) (asked : List ℕ) where
    -- a reply's text is read as that reply
    pub reply_only : (r : Result X WireFault) → IfOk r (λ x. IsReply asked (status_of x) (value_of x)) →
        IfOk r (λ x. Consumes (left old) (left new) (reply_text version asked (status_of x) (value_of x)))
        → IfErr r (Unread left fails old new (reply_at version asked))
        → (status : ℕ) (value rest : List ℕ) → IsReply asked status value → left old ≡ Some (reply_text version asked status value ++ rest)
        → MatchResult r (λ x. (status_of x ≡ status) × (value_of x ≡ value) × (left new ≡ Some rest)) (λ fault. IsRefusal fault → ⊥)
    reply_only (Ok x) known whole unread status value rest is left_is =
        let t = consumed (left old) (left new) (reply_text version asked status value ++ rest)
        (reply_text version asked (status_of x) (value_of x)) left_is whole in
        let one = sym (reply_at-text version asked (status_of x) (value_of x) t.0 known) ∙ sym (ap (reply_at version asked) t.2) ∙
        reply_at-text version asked status value rest is in
        let parts : Result ((ℕ × List ℕ) × List ℕ) WireFault → ℕ × List ℕ = λ r. answer_in (0, []) r in
        let behind : t.0 ≡ rest = ap rest_in one in
        (ap (λ r. (parts r).0) one, ap (λ r. (parts r).1) one, t.1 ∙ ap (λ (l : List ℕ). Some l) behind)
    reply_only (Err fault) known whole unread status value rest is left_is =
        never_refused (reply_at version asked) (reply_text version asked status value ++ rest) ((status, value), rest) fault left_is
        (reply_at-text version asked status value rest is) unread
