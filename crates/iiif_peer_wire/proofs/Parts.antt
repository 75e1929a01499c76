-- What reading a part of a message gives.
use Rattle.std.proofs.Common.{◌≡◌, ◌≢◌, ℕ, ◌<◌, ◌≤◌, ◌^◌, ◌==◌, ◌||◌, Bool, true, false, List, [], ◌∷◌, ◌++◌, length, Some, None}
use Rattle.std.proofs.Common.{if◌then◌else◌, Result, Ok, Err, nat_le, zero, suc, inl, inr, ⊎_elim, refl, sym, ap, ◌∙◌, append_assoc, arith}
use Rattle.std.proofs.Common.{take_at, drop_at, length-append}
use Rattle.std.proofs.lemmas.Bool.{lt-ltb, le-ltb, le-leb, lt-leb, eq-eqb, ne_eqb, or_left, or_right, or_from}
use Rattle.std.proofs.lemmas.Nat.{from_be_bytes-to_be_bytes_4}
use Rattle.std.specs.Int.{w32, to_be_bytes, from_be_bytes}
use Rattle.std.specs.Str.{bytes_eq}
use Rattle.std.specs.Cmp.Lexicographic.{bytes_decides}
use Rattle.std.proofs.lemmas.Option.{same_Some, none-some}
use Rattle.sha2.specs.Sha256.{sha256}
use Rattle.sha2.proofs.Facts256.{length-sha256}
use Rattle.iiif_peer_wire.specs.declared.fault.WireFault.{WireFault}
use Rattle.iiif_peer_wire.specs.declared.fault.WireFault.TheVariants.{Magic, Short, Long, Key, Digest, Status}
use Rattle.iiif_peer_wire.specs.declared.version.Version.{Version}
use Rattle.iiif_peer_wire.specs.declared.version.Version.TheVariants.{One, Two}
use Rattle.iiif_peer_wire.specs.Messages.{ask_magic, field, IsGroup}
use Rattle.iiif_peer_wire.specs.Reading.{◌>>=◌, checked, ask_fields_at, ask_magic_at, ask_version_of, versioned, bytes_at, byte_at}
use Rattle.iiif_peer_wire.specs.Reading.{length_at, magic_at, key_at, value_at, digest_at}

pub bytes_at-short : (count : ℕ) (input : List ℕ) → length input < count → bytes_at count input ≡ Err Short
unfolding bytes_at
bytes_at-short count input h = rw (lt-ltb (length input) count h) refl

pub bytes_at-whole : (count : ℕ) (bytes rest : List ℕ) → length bytes ≡ count → bytes_at count (bytes ++ rest) ≡ Ok (bytes, rest)
unfolding bytes_at
bytes_at-whole count bytes rest e =
    let enough : count ≤ length (bytes ++ rest) = omega (arith, length-append bytes rest, e) in
    rw (le-ltb (length (bytes ++ rest)) count enough, take_at bytes rest count e, drop_at bytes rest count e) refl

pub bound_err : {A B : Type 0} (r : Result A WireFault) (f : A → Result B WireFault) (fault : WireFault) → r ≡ Err fault →
    (r >>= f) ≡ Err fault
bound_err r f fault e = ap (λ x. x >>= f) e

pub bound_ok : {A B : Type 0} (r : Result A WireFault) (f : A → Result B WireFault) (x : A) → r ≡ Ok x → (r >>= f) ≡ f x
bound_ok r f x e = ap (λ y. y >>= f) e

pub checked-true : {A : Type 0} (b : Bool) (fault : WireFault) (x : A) → b ≡ true → checked b fault x ≡ Ok x
checked-true b fault x e = ap (λ t. checked t fault x) e

pub checked-false : {A : Type 0} (b : Bool) (fault : WireFault) (x : A) → b ≡ false → checked b fault x ≡ Err fault
checked-false b fault x e = ap (λ t. checked t fault x) e

-- a length

length_at-number : (limit n : ℕ) (rest : List ℕ) → n < 2 ^ 32 →
    length_at limit (to_be_bytes w32 n ++ rest) ≡ checked (nat_le n limit) Long (n, rest)
unfolding length_at
length_at-number limit n rest small =
    bound_ok (bytes_at 4 (to_be_bytes w32 n ++ rest))
    (λ bytes. checked (nat_le (from_be_bytes w32 bytes.0) limit) Long (from_be_bytes w32 bytes.0, bytes.1)) (to_be_bytes w32 n, rest)
    (bytes_at-whole 4 (to_be_bytes w32 n) rest refl)
    ∙ ap (λ m. checked (nat_le m limit) Long (m, rest)) (from_be_bytes-to_be_bytes_4 n small)

pub length_at-within : (limit n : ℕ) (rest : List ℕ) → n < 2 ^ 32 → n ≤ limit → length_at limit (to_be_bytes w32 n ++ rest) ≡ Ok (n, rest)
length_at-within limit n rest small h = length_at-number limit n rest small ∙
    checked-true (nat_le n limit) Long (n, rest) (le-leb n limit h)

pub length_at-above : (limit n : ℕ) (rest : List ℕ) → n < 2 ^ 32 → limit < n → length_at limit (to_be_bytes w32 n ++ rest) ≡ Err Long
length_at-above limit n rest small h = length_at-number limit n rest small ∙
    checked-false (nat_le n limit) Long (n, rest) (lt-leb n limit h)

pub length_at-refused : (limit : ℕ) (input : List ℕ) (fault : WireFault) → bytes_at 4 input ≡ Err fault → length_at limit input ≡ Err fault
unfolding length_at
length_at-refused limit input fault e = bound_err (bytes_at 4 input) _ fault e

-- a magic

magic_at-bytes : (magic bytes rest : List ℕ) → length bytes ≡ 4 → magic_at magic (bytes ++ rest) ≡ checked (bytes_eq bytes magic) Magic rest
unfolding magic_at
magic_at-bytes magic bytes rest e = bound_ok (bytes_at 4 (bytes ++ rest)) (λ found. checked (bytes_eq found.0 magic) Magic found.1)
    (bytes, rest) (bytes_at-whole 4 bytes rest e)

pub magic_at-same : (magic rest : List ℕ) → length magic ≡ 4 → magic_at magic (magic ++ rest) ≡ Ok rest
magic_at-same magic rest e = magic_at-bytes magic magic rest e ∙
    checked-true (bytes_eq magic magic) Magic rest ((bytes_decides magic magic).1 refl)

pub magic_at-other : (magic bytes rest : List ℕ) → length bytes ≡ 4 → bytes_eq bytes magic ≡ false →
    magic_at magic (bytes ++ rest) ≡ Err Magic
magic_at-other magic bytes rest e apart = magic_at-bytes magic bytes rest e ∙ checked-false (bytes_eq bytes magic) Magic rest apart

pub magic_at-refused : (magic input : List ℕ) (fault : WireFault) → bytes_at 4 input ≡ Err fault → magic_at magic input ≡ Err fault
unfolding magic_at
magic_at-refused magic input fault e = bound_err (bytes_at 4 input) _ fault e

-- the magic of an ask

version_named : (version : Version) → ask_version_of (ask_magic version) ≡ Some version
version_named One = refl
version_named Two = refl

-- the bytes that name a version are its magic
pub version_spelled : (bytes : List ℕ) (version : Version) → ask_version_of bytes ≡ Some version → bytes ≡ ask_magic version
version_spelled bytes version e = by_tests (bytes_eq bytes (ask_magic One)) (bytes_eq bytes (ask_magic Two)) refl refl e
  where
    by_tests : (s t : Bool) → bytes_eq bytes (ask_magic One) ≡ s → bytes_eq bytes (ask_magic Two) ≡ t
        → (if s then Some One else (if t then Some Two else None)) ≡ Some version → bytes ≡ ask_magic version
    by_tests true t p q found = (bytes_decides bytes (ask_magic One)).0 p ∙ ap ask_magic (same_Some One version found)
    by_tests false true p q found = (bytes_decides bytes (ask_magic Two)).0 q ∙ ap ask_magic (same_Some Two version found)
    by_tests false false p q found = absurd (none-some version found)

ask_magic_at-bytes : (bytes rest : List ℕ) → length bytes ≡ 4 → ask_magic_at (bytes ++ rest) ≡ versioned (ask_version_of bytes) rest
unfolding ask_magic_at
ask_magic_at-bytes bytes rest e = bound_ok (bytes_at 4 (bytes ++ rest)) (λ found. versioned (ask_version_of found.0) found.1) (bytes, rest)
    (bytes_at-whole 4 bytes rest e)

pub ask_magic_at-same : (version : Version) (rest : List ℕ) → ask_magic_at (ask_magic version ++ rest) ≡ Ok (version, rest)
ask_magic_at-same version rest = ask_magic_at-bytes (ask_magic version) rest refl ∙ ap (λ v. versioned v rest) (version_named version)

pub ask_magic_at-other : (bytes rest : List ℕ) → length bytes ≡ 4 → ask_version_of bytes ≡ None → ask_magic_at (bytes ++ rest) ≡ Err Magic
ask_magic_at-other bytes rest e none = ask_magic_at-bytes bytes rest e ∙ ap (λ v. versioned v rest) none

pub ask_magic_at-refused : (input : List ℕ) (fault : WireFault) → bytes_at 4 input ≡ Err fault → ask_magic_at input ≡ Err fault
unfolding ask_magic_at
ask_magic_at-refused input fault e = bound_err (bytes_at 4 input) _ fault e

-- a digest

digest_at-bytes : (message bytes rest : List ℕ) → length bytes ≡ 32 →
    digest_at message (bytes ++ rest) ≡ checked (bytes_eq bytes (sha256 message)) Digest rest
unfolding digest_at
digest_at-bytes message bytes rest e =
    bound_ok (bytes_at 32 (bytes ++ rest)) (λ found. checked (bytes_eq found.0 (sha256 message)) Digest found.1) (bytes, rest)
    (bytes_at-whole 32 bytes rest e)

pub digest_at-same : (message rest : List ℕ) → digest_at message (sha256 message ++ rest) ≡ Ok rest
digest_at-same message rest = digest_at-bytes message (sha256 message) rest (length-sha256 message)
    ∙ checked-true (bytes_eq (sha256 message) (sha256 message)) Digest rest ((bytes_decides (sha256 message) (sha256 message)).1 refl)

pub digest_at-other : (message bytes rest : List ℕ) → length bytes ≡ 32 → bytes_eq bytes (sha256 message) ≡ false →
    digest_at message (bytes ++ rest) ≡ Err Digest
digest_at-other message bytes rest e apart = digest_at-bytes message bytes rest e ∙
    checked-false (bytes_eq bytes (sha256 message)) Digest rest apart

pub digest_at-refused : (message input : List ℕ) (fault : WireFault) → bytes_at 32 input ≡ Err fault → digest_at message input ≡ Err fault
unfolding digest_at
digest_at-refused message input fault e = bound_err (bytes_at 32 input) _ fault e

-- one byte

ok_not_err : {A : Type 0} (x : A) (r : Result A WireFault) (fault : WireFault) → r ≡ Ok x → r ≡ Err fault → ⊥
ok_not_err x r fault p q = cc

pub byte_at-refused : (input : List ℕ) (fault : WireFault) → bytes_at 1 input ≡ Err fault → byte_at input ≡ Err fault
byte_at-refused [] fault e = let both : Err Short ≡ Err fault = sym (bytes_at-short 1 [] (omega arith)) ∙ e in let same : Short ≡ fault = cc
    in ap (λ (f : WireFault). Err f) same
byte_at-refused (b ∷ rest) fault e = absurd (ok_not_err (b ∷ [], rest) (bytes_at 1 (b ∷ rest)) fault (bytes_at-whole 1 (b ∷ []) rest refl)
    e)

-- a key

key_at-sized : (asked : List ℕ) (n : ℕ) (rest : List ℕ) → n < 2 ^ 32 → n ≤ 4096
    → key_at asked (to_be_bytes w32 n ++ rest) ≡ (bytes_at n rest >>= λ key. checked (bytes_eq key.0 asked) Key key.1)
unfolding key_at
key_at-sized asked n rest small h = bound_ok (length_at 4096 (to_be_bytes w32 n ++ rest))
    (λ size. bytes_at size.0 size.1 >>= λ key. checked (bytes_eq key.0 asked) Key key.1) (n, rest)
    (length_at-within 4096 n rest small h)

key_at-bytes : (asked key rest : List ℕ) → length key ≤ 4096 → key_at asked (field key ++ rest) ≡ checked (bytes_eq key asked) Key rest
key_at-bytes asked key rest h =
    let small : length key < 2 ^ 32 = omega (arith, h) in
    ap (key_at asked) (append_assoc (to_be_bytes w32 (length key)) key rest)
    ∙ key_at-sized asked (length key) (key ++ rest) small h
    ∙ bound_ok (bytes_at (length key) (key ++ rest)) (λ found. checked (bytes_eq found.0 asked) Key found.1) (key, rest)
    (bytes_at-whole (length key) key rest refl)

pub key_at-same : (asked rest : List ℕ) → length asked ≤ 4096 → key_at asked (field asked ++ rest) ≡ Ok rest
key_at-same asked rest h = key_at-bytes asked asked rest h ∙
    checked-true (bytes_eq asked asked) Key rest ((bytes_decides asked asked).1 refl)

pub key_at-other : (asked key rest : List ℕ) → length key ≤ 4096 → bytes_eq key asked ≡ false → key_at asked (field key ++ rest) ≡ Err Key
key_at-other asked key rest h apart = key_at-bytes asked key rest h ∙ checked-false (bytes_eq key asked) Key rest apart

pub key_at-no_size : (asked input : List ℕ) (fault : WireFault) → length_at 4096 input ≡ Err fault → key_at asked input ≡ Err fault
unfolding key_at
key_at-no_size asked input fault e = bound_err (length_at 4096 input) _ fault e

pub key_at-no_key : (asked : List ℕ) (n : ℕ) (rest : List ℕ) (fault : WireFault) → n ≤ 4096 → bytes_at n rest ≡ Err fault →
    key_at asked (to_be_bytes w32 n ++ rest) ≡ Err fault
key_at-no_key asked n rest fault h e = key_at-sized asked n rest (omega (arith, h)) h ∙ bound_err (bytes_at n rest) _ fault e

-- a status and a value

value_at-known : (status : ℕ) (rest : List ℕ) → status ≤ 4
    → value_at (status ∷ rest) ≡ (length_at 67108864 rest >>= λ size. checked (status == 0 || size.0 == 0) Status size.1 >>= λ behind.
    bytes_at size.0 behind >>= λ value. Ok ((status, value.0), value.1))
unfolding value_at
value_at-known status rest h = bound_ok (checked (nat_le status 4) Status rest)
    (λ behind. length_at 67108864 behind >>= λ size. checked (status == 0 || size.0 == 0) Status size.1 >>= λ behind.
    bytes_at size.0 behind >>= λ value. Ok ((status, value.0), value.1)) rest
    (checked-true (nat_le status 4) Status rest (le-leb status 4 h))

value_at-sized : (status n : ℕ) (rest : List ℕ) → status ≤ 4 → n ≤ 67108864
    → value_at ((status ∷ to_be_bytes w32 n) ++ rest) ≡
    (checked (status == 0 || n == 0) Status rest >>= λ behind. bytes_at n behind >>= λ value. Ok ((status, value.0), value.1))
value_at-sized status n rest known h = value_at-known status (to_be_bytes w32 n ++ rest) known
    ∙ bound_ok (length_at 67108864 (to_be_bytes w32 n ++ rest))
    (λ size. checked (status == 0 || size.0 == 0) Status size.1 >>= λ behind. bytes_at size.0 behind >>= λ value.
    Ok ((status, value.0), value.1)) (n, rest)
    (length_at-within 67108864 n rest (omega (arith, h)) h)

no_value : (status n : ℕ) → (0 < status → n ≡ 0) → (status == 0 || n == 0) ≡ true
no_value zero n h = refl
no_value (suc s) n h = or_right (suc s == 0) (n == 0) (eq-eqb n 0 (h (omega arith)))

value_at-fits : (status n : ℕ) (rest : List ℕ) → status ≤ 4 → n ≤ 67108864 → (0 < status → n ≡ 0)
    → value_at ((status ∷ to_be_bytes w32 n) ++ rest) ≡ (bytes_at n rest >>= λ value. Ok ((status, value.0), value.1))
value_at-fits status n rest known h none = value_at-sized status n rest known h
    ∙ bound_ok (checked (status == 0 || n == 0) Status rest) (λ behind. bytes_at n behind >>= λ value. Ok ((status, value.0), value.1)) rest
    (checked-true (status == 0 || n == 0) Status rest (no_value status n none))

pub value_at-whole : (status : ℕ) (value rest : List ℕ) → status ≤ 4 → length value ≤ 67108864 → (0 < status → value ≡ [])
    → value_at ((status ∷ field value) ++ rest) ≡ Ok ((status, value), rest)
value_at-whole status value rest known h none =
    ap (λ l. value_at (status ∷ l)) (append_assoc (to_be_bytes w32 (length value)) value rest)
    ∙ value_at-fits status (length value) (value ++ rest) known h (λ fault. ap length (none fault))
    ∙ bound_ok (bytes_at (length value) (value ++ rest)) (λ found. Ok ((status, found.0), found.1)) (value, rest)
    (bytes_at-whole (length value) value rest refl)

pub value_at-no_status : (input : List ℕ) (fault : WireFault) → byte_at input ≡ Err fault → value_at input ≡ Err fault
unfolding value_at
value_at-no_status input fault e = bound_err (byte_at input) _ fault e

pub value_at-unknown : (status : ℕ) (rest : List ℕ) → 4 < status → value_at (status ∷ rest) ≡ Err Status
unfolding value_at
value_at-unknown status rest h = bound_err (checked (nat_le status 4) Status rest) _ Status
    (checked-false (nat_le status 4) Status rest (lt-leb status 4 h))

pub value_at-no_size : (status : ℕ) (rest : List ℕ) (fault : WireFault) → status ≤ 4 → length_at 67108864 rest ≡ Err fault →
    value_at (status ∷ rest) ≡ Err fault
value_at-no_size status rest fault known e = value_at-known status rest known ∙ bound_err (length_at 67108864 rest) _ fault e

pub value_at-fault_with_value : (status n : ℕ) (rest : List ℕ) → status ≤ 4 → n ≤ 67108864 → status ≢ 0 → n ≢ 0 →
    value_at ((status ∷ to_be_bytes w32 n) ++ rest) ≡ Err Status
value_at-fault_with_value status n rest known h some more = value_at-sized status n rest known h
    ∙ bound_err (checked (status == 0 || n == 0) Status rest) _ Status
    (checked-false (status == 0 || n == 0) Status rest (or_from (status == 0) (n == 0) (ne_eqb status 0 some) (ne_eqb n 0 more)))

pub value_at-no_value : (status n : ℕ) (rest : List ℕ) (fault : WireFault) → status ≤ 4 → n ≤ 67108864 → (0 < status → n ≡ 0) →
    bytes_at n rest ≡ Err fault
    → value_at ((status ∷ to_be_bytes w32 n) ++ rest) ≡ Err fault
value_at-no_value status n rest fault known h none e = value_at-fits status n rest known h none ∙ bound_err (bytes_at n rest) _ fault e

-- a group and a key

group_yes : (group : ℕ) → IsGroup group → (group == 1 || group == 2) ≡ true
group_yes group h = ⊎_elim (λ e. or_left (group == 1) (group == 2) (eq-eqb group 1 e))
    (λ e. or_right (group == 1) (group == 2) (eq-eqb group 2 e)) h

group_no : (group : ℕ) → (IsGroup group → ⊥) → (group == 1 || group == 2) ≡ false
group_no group h = or_from (group == 1) (group == 2) (ne_eqb group 1 (λ e. h (inl e))) (ne_eqb group 2 (λ e. h (inr e)))

ask_fields_at-known : (group : ℕ) (rest : List ℕ) → IsGroup group
    → ask_fields_at (group ∷ rest) ≡ (length_at 4096 rest >>= λ size. bytes_at size.0 size.1 >>= λ key. Ok ((group, key.0), key.1))
unfolding ask_fields_at
ask_fields_at-known group rest h = bound_ok (checked (group == 1 || group == 2) Magic rest)
    (λ behind. length_at 4096 behind >>= λ size. bytes_at size.0 size.1 >>= λ key. Ok ((group, key.0), key.1)) rest
    (checked-true (group == 1 || group == 2) Magic rest (group_yes group h))

ask_fields_at-sized : (group n : ℕ) (rest : List ℕ) → IsGroup group → n ≤ 4096
    → ask_fields_at ((group ∷ to_be_bytes w32 n) ++ rest) ≡ (bytes_at n rest >>= λ key. Ok ((group, key.0), key.1))
ask_fields_at-sized group n rest known h = ask_fields_at-known group (to_be_bytes w32 n ++ rest) known
    ∙ bound_ok (length_at 4096 (to_be_bytes w32 n ++ rest)) (λ size. bytes_at size.0 size.1 >>= λ key. Ok ((group, key.0), key.1)) (n, rest)
    (length_at-within 4096 n rest (omega (arith, h)) h)

pub ask_fields_at-whole : (group : ℕ) (key rest : List ℕ) → IsGroup group → length key ≤ 4096 →
    ask_fields_at ((group ∷ field key) ++ rest) ≡ Ok ((group, key), rest)
ask_fields_at-whole group key rest known h =
    ap (λ l. ask_fields_at (group ∷ l)) (append_assoc (to_be_bytes w32 (length key)) key rest)
    ∙ ask_fields_at-sized group (length key) (key ++ rest) known h
    ∙ bound_ok (bytes_at (length key) (key ++ rest)) (λ found. Ok ((group, found.0), found.1)) (key, rest)
    (bytes_at-whole (length key) key rest refl)

pub ask_fields_at-no_group : (input : List ℕ) (fault : WireFault) → byte_at input ≡ Err fault → ask_fields_at input ≡ Err fault
unfolding ask_fields_at
ask_fields_at-no_group input fault e = bound_err (byte_at input) _ fault e

pub ask_fields_at-unknown : (group : ℕ) (rest : List ℕ) → (IsGroup group → ⊥) → ask_fields_at (group ∷ rest) ≡ Err Magic
unfolding ask_fields_at
ask_fields_at-unknown group rest h = bound_err (checked (group == 1 || group == 2) Magic rest) _ Magic
    (checked-false (group == 1 || group == 2) Magic rest (group_no group h))

pub ask_fields_at-no_size : (group : ℕ) (rest : List ℕ) (fault : WireFault) → IsGroup group → length_at 4096 rest ≡ Err fault →
    ask_fields_at (group ∷ rest) ≡ Err fault
ask_fields_at-no_size group rest fault known e = ask_fields_at-known group rest known ∙ bound_err (length_at 4096 rest) _ fault e

pub ask_fields_at-no_key : (group n : ℕ) (rest : List ℕ) (fault : WireFault) → IsGroup group → n ≤ 4096 → bytes_at n rest ≡ Err fault →
    ask_fields_at ((group ∷ to_be_bytes w32 n) ++ rest) ≡ Err fault
ask_fields_at-no_key group n rest fault known h e = ask_fields_at-sized group n rest known h ∙ bound_err (bytes_at n rest) _ fault e
