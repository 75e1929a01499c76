-- What reading a whole message gives.
use Rattle.std.proofs.Common.{◌≡◌, ◌≢◌, ℕ, ◌<◌, ◌≤◌, false, List, [], ◌∷◌, ◌++◌, length, Some, None, Result, Ok, Err, refl, ap, ◌∙◌}
use Rattle.std.proofs.Common.{append_assoc, length-append, arith}
use Rattle.std.specs.Str.{bytes_eq}
use Rattle.sha2.specs.Sha256.{sha256}
use Rattle.iiif_peer_wire.specs.declared.fault.WireFault.{WireFault}
use Rattle.iiif_peer_wire.specs.declared.fault.WireFault.TheVariants.{Magic, Short}
use Rattle.iiif_peer_wire.specs.declared.version.Version.{Version}
use Rattle.iiif_peer_wire.specs.Messages.{ask_magic, reply_magic, field, IsAsk, IsReply, ask_text, reply_text}
use Rattle.iiif_peer_wire.specs.declared.version.Version.TheVariants.{One, Two}
use Rattle.iiif_peer_wire.specs.Reading.{RefusesOtherVersions, ◌>>=◌, ask_at, ask_fields_at, ask_magic_at, ask_version_of, digest_at}
use Rattle.iiif_peer_wire.specs.Reading.{key_at, magic_at, reply_at, value_at}
use Rattle.iiif_peer_wire.proofs.Parts.{bound_err, bound_ok, bytes_at-short, magic_at-same, magic_at-other, ask_magic_at-same}
use Rattle.iiif_peer_wire.proofs.Parts.{ask_magic_at-other, ask_magic_at-refused, key_at-same, value_at-whole, digest_at-same}
use Rattle.iiif_peer_wire.proofs.Parts.{ask_fields_at-whole}

-- asks

pub ask_at-begun : (version : Version) (rest : List ℕ) →
    ask_at (ask_magic version ++ rest) ≡ (ask_fields_at rest >>= λ ask. Ok (Some (version, ask.0), ask.1))
unfolding ask_at
ask_at-begun version rest =
    bound_ok (ask_magic_at (ask_magic version ++ rest)) (λ fields. ask_fields_at fields.1 >>= λ ask. Ok (Some (fields.0, ask.0), ask.1))
    (version, rest) (ask_magic_at-same version rest)

ask_at-no_magic : (input : List ℕ) (fault : WireFault) → 0 < length input → ask_magic_at input ≡ Err fault → ask_at input ≡ Err fault
unfolding ask_at
ask_at-no_magic [] fault h e = absurd (omega (arith, h))
ask_at-no_magic (first ∷ more) fault h e = bound_err (ask_magic_at (first ∷ more)) _ fault e

pub ask_at-cut : (input : List ℕ) → 0 < length input → length input < 4 → ask_at input ≡ Err Short
ask_at-cut input some less = ask_at-no_magic input Short some (ask_magic_at-refused input Short (bytes_at-short 4 input less))

pub ask_at-other : (bytes rest : List ℕ) → length bytes ≡ 4 → ask_version_of bytes ≡ None → ask_at (bytes ++ rest) ≡ Err Magic
ask_at-other bytes rest e none = ask_at-no_magic (bytes ++ rest) Magic (omega (arith, length-append bytes rest, e))
    (ask_magic_at-other bytes rest e none)

pub ask_at-no_fields : (version : Version) (rest : List ℕ) (fault : WireFault) → ask_fields_at rest ≡ Err fault →
    ask_at (ask_magic version ++ rest) ≡ Err fault
ask_at-no_fields version rest fault e = ask_at-begun version rest ∙ bound_err (ask_fields_at rest) _ fault e

-- an ask's text is read as that ask
pub ask_at-text : (version : Version) (group : ℕ) (key rest : List ℕ) → IsAsk group key →
    ask_at (ask_text version group key ++ rest) ≡ Ok (Some (version, (group, key)), rest)
unfolding ask_text
ask_at-text version group key rest is =
    ask_at-begun version ((group ∷ field key) ++ rest)
    ∙ bound_ok (ask_fields_at ((group ∷ field key) ++ rest)) (λ ask. Ok (Some (version, ask.0), ask.1)) ((group, key), rest)
    (ask_fields_at-whole group key rest is.group_known is.key_within)

pub ask_at-nil : ask_at [] ≡ Ok (None, [])
unfolding ask_at
ask_at-nil = refl

-- replies

abbrev behind_value : List ℕ → ((ℕ × List ℕ) × List ℕ) → Result ((ℕ × List ℕ) × List ℕ) WireFault
behind_value asked value = digest_at (asked ++ value.0.1) value.1 >>= λ rest. Ok (value.0, rest)

abbrev behind_key : List ℕ → List ℕ → Result ((ℕ × List ℕ) × List ℕ) WireFault
behind_key asked fields = value_at fields >>= behind_value asked

abbrev behind_magic : List ℕ → List ℕ → Result ((ℕ × List ℕ) × List ℕ) WireFault
behind_magic asked named = key_at asked named >>= behind_key asked

reply_at-named : (version : Version) (asked rest : List ℕ) →
    reply_at version asked ((reply_magic version) ++ rest) ≡ behind_magic asked rest
unfolding reply_at
reply_at-named version asked rest = bound_ok (magic_at (reply_magic version) ((reply_magic version) ++ rest)) (behind_magic asked) rest
    (magic_at-same (reply_magic version) rest refl)

reply_at-keyed : (version : Version) (asked rest : List ℕ) → length asked ≤ 4096 →
    reply_at version asked (((reply_magic version) ++ field asked) ++ rest) ≡ behind_key asked rest
reply_at-keyed version asked rest h = ap (reply_at version asked) (append_assoc (reply_magic version) (field asked) rest)
    ∙ reply_at-named version asked (field asked ++ rest)
    ∙ bound_ok (key_at asked (field asked ++ rest)) (behind_key asked) rest (key_at-same asked rest h)

reply_at-valued : (version : Version) (asked : List ℕ) (status : ℕ) (value rest : List ℕ) → IsReply asked status value
    → reply_at version asked ((((reply_magic version) ++ field asked) ++ (status ∷ field value)) ++ rest) ≡ behind_value asked
    ((status, value), rest)
reply_at-valued version asked status value rest is =
    ap (reply_at version asked) (append_assoc ((reply_magic version) ++ field asked) (status ∷ field value) rest)
    ∙ reply_at-keyed version asked ((status ∷ field value) ++ rest) is.key_within
    ∙ bound_ok (value_at ((status ∷ field value) ++ rest)) (behind_value asked) ((status, value), rest)
    (value_at-whole status value rest is.status_known is.value_within is.no_value)

pub reply_at-no_magic : (version : Version) (asked input : List ℕ) (fault : WireFault) → magic_at (reply_magic version) input ≡ Err fault →
    reply_at version asked input ≡ Err fault
unfolding reply_at
reply_at-no_magic version asked input fault e = bound_err (magic_at (reply_magic version) input) _ fault e

pub reply_at-no_key : (version : Version) (asked rest : List ℕ) (fault : WireFault) → key_at asked rest ≡ Err fault →
    reply_at version asked ((reply_magic version) ++ rest) ≡ Err fault
reply_at-no_key version asked rest fault e = reply_at-named version asked rest ∙ bound_err (key_at asked rest) (behind_key asked) fault e

pub reply_at-no_value : (version : Version) (asked rest : List ℕ) (fault : WireFault) → length asked ≤ 4096 → value_at rest ≡ Err fault →
    reply_at version asked (((reply_magic version) ++ field asked) ++ rest) ≡ Err fault
reply_at-no_value version asked rest fault h e = reply_at-keyed version asked rest h ∙
    bound_err (value_at rest) (behind_value asked) fault e

pub reply_at-no_digest : (version : Version) (asked : List ℕ) (status : ℕ) (value rest : List ℕ) (fault : WireFault) →
    IsReply asked status value → digest_at (asked ++ value) rest ≡ Err fault
    → reply_at version asked ((((reply_magic version) ++ field asked) ++ (status ∷ field value)) ++ rest) ≡ Err fault
reply_at-no_digest version asked status value rest fault is e = reply_at-valued version asked status value rest is ∙
    bound_err (digest_at (asked ++ value) rest) (λ behind. Ok ((status, value), behind)) fault e

parts : (a b c d : List ℕ) → ((a ++ b) ++ c) ++ d ≡ a ++ (b ++ (c ++ d))
parts a b c d = simp append_assoc

regrouped : (a b c d e : List ℕ) → (a ++ (b ++ (c ++ d))) ++ e ≡ ((a ++ b) ++ c) ++ (d ++ e)
regrouped a b c d e = simp append_assoc

-- a reply's text is read as that reply
pub reply_at-text : (version : Version) (asked : List ℕ) (status : ℕ) (value rest : List ℕ) → IsReply asked status value →
    reply_at version asked (reply_text version asked status value ++ rest) ≡ Ok ((status, value), rest)
unfolding reply_text
reply_at-text version asked status value rest is =
    let digest = sha256 (asked ++ value) in
    ap (reply_at version asked) (regrouped (reply_magic version) (field asked) (status ∷ field value) digest rest)
    ∙ reply_at-valued version asked status value (digest ++ rest) is
    ∙ bound_ok (digest_at (asked ++ value) (digest ++ rest)) (λ behind. Ok ((status, value), behind)) rest
    (digest_at-same (asked ++ value) rest)

pub reply_text-parts : (version : Version) (asked : List ℕ) (status : ℕ) (value : List ℕ)
    → (((reply_magic version) ++ field asked) ++ (status ∷ field value)) ++ sha256 (asked ++ value) ≡ reply_text version asked status value
unfolding reply_text
reply_text-parts version asked status value = parts (reply_magic version) (field asked) (status ∷ field value) (sha256 (asked ++ value))

pub ask_text-parts : (version : Version) (group : ℕ) (key : List ℕ) → ask_magic version ++ (group ∷ field key) ≡ ask_text version group key
unfolding ask_text
ask_text-parts version group key = refl

-- the magics of two versions differ
told_apart : (version other : Version) → other ≢ version → bytes_eq (reply_magic other) (reply_magic version) ≡ false
told_apart One One differs = absurd (differs refl)
told_apart One Two differs = refl
told_apart Two One differs = refl
told_apart Two Two differs = absurd (differs refl)

pub other_refused : RefusesOtherVersions
unfolding reply_text
other_refused version other asked key value rest status differs =
    let behind : List ℕ = field key ++ status ∷ (field value ++ sha256 (key ++ value)) in
    ap (reply_at version asked) (append_assoc (reply_magic other) behind rest)
    ∙ reply_at-no_magic version asked (reply_magic other ++ (behind ++ rest)) Magic
    (magic_at-other (reply_magic version) (reply_magic other) (behind ++ rest) refl (told_apart version other differs))
