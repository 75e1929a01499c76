-- Keys with versions of files in them.
use Rattle.std.proofs.Common.{◌≡◌, ℕ, ◌+◌, ◌<◌, ◌≤◌, List, ◌++◌, length, Option, Some, refl, sym, ap, ◌∙◌, subst}
use Rattle.std.proofs.Common.{arith}
use Rattle.std.specs.Int.{w16, to_be_bytes}
use Rattle.std.proofs.lemmas.List.{length-append}
use Rattle.std.proofs.lemmas.Nat.{from_be_bytes-to_be_bytes_2}
use Rattle.iiif_keys.proofs.Numbers.{name_stands, IsBytes}
use Rattle.iiif_keys.specs.Bytes.{name_bytes}
use Rattle.iiif_keys.specs.Names.{IsName}
use Rattle.iiif_keys.specs.Reading.{behind_name, name_at, name_len}
use Rattle.iiif_peer_versions.proofs.DigitLemmas.{cut_alike}
use Rattle.iiif_peer_versions.specs.Digits.{name_limit}
use Rattle.iiif_peer_versions.specs.Keys.{IsMarked, IsWireOf}

-- the length that stands in front of a name is the name's
pub len_told : (name rest : List ℕ) → length name < 65536 → name_len (name_bytes name ++ rest) ≡ length name
len_told name rest short = from_be_bytes-to_be_bytes_2 (length name) (omega (arith, short))

-- bytes that begin with a name, as it is cut off
pub name_cut : (bytes name rest : List ℕ) → IsBytes bytes → 2 + name_len bytes ≤ length bytes → name ≡ name_at bytes
    → rest ≡ behind_name bytes → bytes ≡ name_bytes name ++ rest
name_cut bytes name rest are within is behind =
    name_stands bytes are within ∙ sym (ap (λ n. name_bytes n ++ rest) is ∙ ap (λ r. name_bytes (name_at bytes) ++ r) behind)

-- bytes that begin with a name are long enough
pub name_fits : (bytes name rest : List ℕ) → length name < 65536 → bytes ≡ name_bytes name ++ rest →
    (2 ≤ length bytes) × (2 + name_len bytes ≤ length bytes)
name_fits bytes name rest short is =
    let len : name_len bytes ≡ length name = ap name_len is ∙ len_told name rest short in
    let whole : length bytes ≡ length (name_bytes name ++ rest) = ap length is in
    let parts = length-append (name_bytes name) rest in
    let front = length-append (to_be_bytes w16 (length name)) name in
    (omega (arith, whole, parts, front), omega (arith, len, whole, parts, front))

-- bytes begin with one name alone
pub same_name : (one rest other behind : List ℕ) → length one < 65536 → length other < 65536
    → name_bytes one ++ rest ≡ name_bytes other ++ behind → (one ≡ other) × (rest ≡ behind)
same_name one rest other behind short few e =
    let len : length one ≡ length other = sym (len_told one rest short) ∙ (ap name_len e ∙ len_told other behind few) in
    let front = length-append (to_be_bytes w16 (length one)) one in
    let begin = length-append (to_be_bytes w16 (length other)) other in
    let names = cut_alike (name_bytes one) rest (name_bytes other) behind (omega (arith, len, front, begin)) e in
    ((cut_alike (to_be_bytes w16 (length one)) one (to_be_bytes w16 (length other)) other refl names.0).1, names.1)

-- the only key of bytes in which a name and digits stand in front
pub record IsOnly (told : List ℕ → Option (List ℕ)) (name digits rest key : List ℕ) : Type 0 where
  pub named : IsName name
  pub short : length name ≤ name_limit
  pub known : told name ≡ Some digits
  pub of_key : key ≡ name_bytes name ++ rest

pub only_key : (told : List ℕ → Option (List ℕ)) (wire name digits rest : List ℕ) → length (name ++ digits) < 65536 → length digits ≡ 32
    → wire ≡ name_bytes (name ++ digits) ++ rest → (key : List ℕ) → IsWireOf told key wire → IsOnly told name digits rest key
only_key told wire name digits rest short size is key (other, marks, known, m) =
    let long = length-append other marks in
    let both = same_name (name ++ digits) rest (other ++ marks) m.rest short (omega (arith, long, m.short, m.size)) (sym is ∙ m.of_wire) in
    let lens = ap length both.0 in
    let front = length-append name digits in
    let parts = cut_alike name digits other marks (omega (arith, lens, front, long, size, m.size)) both.0 in
    record {
      named = subst IsName (sym parts.0) m.named;
      short = subst (λ n. length n ≤ name_limit) (sym parts.0) m.short;
      known = ap told parts.0 ∙ (known ∙ ap Some (sym parts.1));
      of_key = m.of_key ∙ (ap (λ n. name_bytes n ++ m.rest) (sym parts.0) ∙ ap (λ r. name_bytes name ++ r) (sym both.1));
    }

-- what stands in front of bytes that are a key has room for the digits
pub has_digits : (told : List ℕ → Option (List ℕ)) (wire text rest : List ℕ) → length text < 65536 → wire ≡ name_bytes text ++ rest
    → (key : List ℕ) → IsWireOf told key wire → 32 ≤ length text
has_digits told wire text rest short is key (other, marks, known, m) =
    let long = length-append other marks in
    let both = same_name text rest (other ++ marks) m.rest short (omega (arith, long, m.short, m.size)) (sym is ∙ m.of_wire) in
    let lens = ap length both.0 in
    omega (arith, lens, long, m.size)

-- two nodes to which bytes are a key
pub same_key : (here there : List ℕ → Option (List ℕ)) (one other wire : List ℕ) → IsWireOf here one wire → IsWireOf there other wire →
    (one ≡ other) × ((name : List ℕ) × (digits : List ℕ) × IsMarked name digits one wire × (here name ≡ Some digits)
    × (there name ≡ Some digits))
same_key here there one other wire (name, digits, known, m) is =
    let long = length-append name digits in
    let only = only_key there wire name digits m.rest (omega (arith, long, m.short, m.size)) m.size m.of_wire other is in
    (m.of_key ∙ sym only.of_key, (name, digits, m, known, only.known))
