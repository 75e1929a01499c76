-- A connection of another node, from what its asks were answered.
use Rattle.std.proofs.Common.{◌≡◌, ℕ, ◌+◌, ◌<◌, Bool, true, false, List, [], ◌++◌, Option, Some, None, Err, sym, subst, refl, ap, ◌∙◌}
use Rattle.std.proofs.Common.{append_assoc}
use Rattle.std.specs.Prelude.{take}
use Rattle.std.specs.Io.KnownBytes.{Appends, Consumes, IsAtEnd}
use Rattle.std.proofs.KnownBytes.{Appends-nil, Appends-trans}
use Rattle.iiif_peer_wire.specs.Faults.{IsRefusal, IsCut, LeftAt}
use Rattle.iiif_peer_wire.specs.Messages.{ask_text, reply_text, IsAsk, IsFrontOfAsk}
use Rattle.iiif_peer_wire.specs.Reading.{ask_at, IsInput, IsUnfinishedAsk}
use Rattle.iiif_peer_wire.specs.declared.fault.WireFault.{WireFault}
use Rattle.iiif_peer_wire.specs.declared.fault.WireFault.TheVariants as fault
use Rattle.iiif_peer_wire.specs.declared.version.Version.{Version}
use Rattle.iiif_peer_wire.specs.Serving.{Answered, Served}
use Rattle.iiif_peer_wire.specs.Exchanges.{Answering, MayReply, Exchange, IsExchange, ask_limit, goes_on, limit, cut_off, ended, refused}
use Rattle.iiif_peer_wire.specs.Exchanges.{reader_failed, no_memory}

-- what a reader had, where so much of it was read and that is left
consumed : (before after : Option (List ℕ)) (front later : List ℕ) → Consumes before after front → IsInput after later →
    IsInput before (front ++ later)
consumed None after front later took is = tt
consumed (Some xs) None front later took is = absurd took
consumed (Some xs) (Some ys) front later took is = ap (λ (l : List ℕ). front ++ l) is ∙ sym took

-- some input that may be left
left_of : (known : Option (List ℕ)) → (input : List ℕ) × IsInput known input
left_of None = ([], tt)
left_of (Some xs) = (xs, refl)

at_end : (before after : Option (List ℕ)) → Consumes before after [] → IsAtEnd after → IsInput before []
at_end None after took is = tt
at_end (Some xs) None took is = absurd took
at_end (Some xs) (Some ys) took is = sym (took ∙ is)

module _ (a : Answering) (r w : Type 0) where
  -- no ask is left
  pub none_left : (n : ℕ) (before after written : Option (List ℕ)) → Consumes before after [] → IsAtEnd after
      → (text : List ℕ) × Appends written written text × Served a r w n before after text false
  none_left n before after written took is = ([], Appends-nil written, ([], at_end before after took is, ended n))

  ends_unread : (n : ℕ) (before after written : Option (List ℕ)) →
      ((input : List ℕ) × IsInput before input × Exchange a r w (IsInput after) n input [])
      → (text : List ℕ) × Appends written written text × Served a r w n before after text false
  ends_unread n before after written has = ([], Appends-nil written, has)

  refuses : (n : ℕ) (before after : Option (List ℕ)) (f : WireFault) → IsRefusal f →
      ((input : List ℕ) × IsInput before input × (ask_at input ≡ Err f))
      → (input : List ℕ) × IsInput before input × Exchange a r w (IsInput after) n input []
  refuses n before after f is at = (at.0, at.1, refused n at.0 f is at.2)

  -- an ask was not read
  not_read : (n : ℕ) (before after : Option (List ℕ)) (f : WireFault)
      → (IsRefusal f → (input : List ℕ) × IsInput before input × (ask_at input ≡ Err f))
      → (f ≡ fault.Io → r)
      → (f ≡ fault.Io → (text : List ℕ) × IsUnfinishedAsk text × Consumes before after text)
      → (f ≡ fault.NoMemory → (text : List ℕ) × IsFrontOfAsk text × Consumes before after text)
      → (input : List ℕ) × IsInput before input × Exchange a r w (IsInput after) n input []
  not_read n before after fault.Magic at io begun memory = refuses n before after fault.Magic tt (at tt)
  not_read n before after fault.Short at io begun memory = refuses n before after fault.Short tt (at tt)
  not_read n before after fault.Long at io begun memory = refuses n before after fault.Long tt (at tt)
  not_read n before after fault.Key at io begun memory = refuses n before after fault.Key tt (at tt)
  not_read n before after fault.Digest at io begun memory = refuses n before after fault.Digest tt (at tt)
  not_read n before after fault.Status at io begun memory = refuses n before after fault.Status tt (at tt)
  not_read n before after fault.Io at io begun memory =
      let front = begun refl in
      let rest = left_of after in
      (front.0 ++ rest.0, consumed before after front.0 rest.0 front.2 rest.1, reader_failed n front.0 rest.0 (io refl) front.1 rest.1)
  not_read n before after fault.NoMemory at io begun memory =
      let front = memory refl in
      let rest = left_of after in
      (front.0 ++ rest.0, consumed before after front.0 rest.0 front.2 rest.1, no_memory n front.0 rest.0 front.1 rest.1)

  pub ends_at_fault : (n : ℕ) (before after written : Option (List ℕ)) (f : WireFault)
      → (IsRefusal f → (input : List ℕ) × IsInput before input × (ask_at input ≡ Err f))
      → (f ≡ fault.Io → r)
      → (f ≡ fault.Io → (text : List ℕ) × IsUnfinishedAsk text × Consumes before after text)
      → (f ≡ fault.NoMemory → (text : List ℕ) × IsFrontOfAsk text × Consumes before after text)
      → (text : List ℕ) × Appends written written text × Served a r w n before after text false
  ends_at_fault n before after written f at io begun memory =
      ends_unread n before after written (not_read n before after f at io begun memory)

  -- a reply was sent whole
  pub sent_whole : (version : Version) (n group status : ℕ) (key value : List ℕ) (before after old new : Option (List ℕ)) (more : Bool)
      → IsAsk group key → MayReply a version group key status value → Consumes before after (ask_text version group key)
      → Appends old new (reply_text version key status value) → (more ≡ true → n < ask_limit) → (more ≡ false → n ≡ ask_limit)
      → (text : List ℕ) × Appends old new text × Served a r w n before after text more
  sent_whole version n group status key value before after old new true ask may took wrote few last =
      let whole : Answered a n before after (reply_text version key status value) = record {
        version = version;
        group = group;
        status = status;
        key = key;
        value = value;
        ask = ask;
        may = may;
        few = few refl;
        took = took;
        wrote = refl;
      } in
      (reply_text version key status value, wrote, whole)
  sent_whole version n group status key value before after old new false ask may took wrote few last =
      let rest = left_of after in (
        reply_text version key status value,
        wrote,
        (
          ask_text version group key ++ rest.0,
          consumed before after (ask_text version group key) rest.0 took rest.1,
          limit version n group status key value rest.0 ask may (last refl) rest.1,
        ),
      )

-- a reply was cut off
pub sent_partly : {W : Type 0} (a : Answering) (r : Type 0) (version : Version) (n group status : ℕ) (key value : List ℕ)
    (before after : Option (List ℕ))
    (contents : W → Option (List ℕ)) (fails : W → W → Type 0) (old new : W) (f : WireFault)
    → IsAsk group key → MayReply a version group key status value → Consumes before after (ask_text version group key)
    → IsCut contents fails old new (reply_text version key status value) f
    → (text : List ℕ) × Appends (contents old) (contents new) text × Served a r (LeftAt fails new) n before after text false
sent_partly a r version n group status key value before after contents fails old new f ask may took cut =
    let rest = left_of after in
    let was = cut.1.1 in (
      take cut.1.0 (reply_text version key status value),
      was.written,
      (
        ask_text version group key ++ rest.0,
        consumed before after (ask_text version group key) rest.0 took rest.1,
        cut_off version n group status key value rest.0 (take cut.1.0 (reply_text version key status value)) ask may
            (was.before, was.failed) (cut.1.0, was.strict, refl) rest.1,
      ),
    )

-- ---- A connection from its first ask on

-- What came and was written so far, before the n-th ask: whatever may be written for what is left makes it a connection's output,
-- in whatever states the devices are left.
abbrev pub CameSo : {I W : Type 0} → Answering → (I → Type 0) → (W → Type 0) → (I → Option (List ℕ)) → ℕ → Option (List ℕ) →
    Option (List ℕ) → Option (List ℕ) → Option (List ℕ) → Type 0
CameSo {I} {W} a r w remaining n start left old new = (came : List ℕ) × (front : List ℕ) × Appends old new front
    × ((i : I) (o : W) (later more : List ℕ) → IsInput left later → Exchange a (r i) (w o) (IsInput (remaining i)) n later more
    → IsInput start (came ++ later) × Exchange a (r i) (w o) (IsInput (remaining i)) 1 (came ++ later) (front ++ more))

regrouped : (a : Answering) (r w : Type 0) (l : List ℕ → Type 0) (start : Option (List ℕ)) (came next later front text more : List ℕ)
    → IsInput start (came ++ (next ++ later)) × Exchange a r w l 1 (came ++ (next ++ later)) (front ++ (text ++ more))
    → IsInput start ((came ++ next) ++ later) × Exchange a r w l 1 ((came ++ next) ++ later) ((front ++ text) ++ more)
regrouped a r w l start came next later front text more both =
    let first = subst (λ (o : List ℕ). Exchange a r w l 1 (came ++ (next ++ later)) o) (sym (append_assoc front text more)) both.1 in (
      subst (λ (i : List ℕ). IsInput start i) (sym (append_assoc came next later)) both.0,
      subst (λ (i : List ℕ). Exchange a r w l 1 i ((front ++ text) ++ more)) (sym (append_assoc came next later)) first,
    )

module _ {I W : Type 0} (a : Answering) (r : I → Type 0) (w : W → Type 0) (remaining : I → Option (List ℕ)) where
  pub begins_so : (start written : Option (List ℕ)) → CameSo a r w remaining 1 start start written written
  begins_so start written = ([], [], Appends-nil written, λ i o later more is exchange. (is, exchange))

  pub goes_further : (i : I) (o : W) (n : ℕ) (start left after old mid new : Option (List ℕ)) (more : Bool) → more ≡ true →
      CameSo a r w remaining n start left old mid
      → ((text : List ℕ) × Appends mid new text × Served a (r i) (w o) n left after text more) →
      CameSo a r w remaining (n + 1) start after old new
  goes_further i o n start left after old mid new more is_more on sent =
      let served : Answered a n left after sent.0 = subst (λ (b : Bool). Served a (r i) (w o) n left after sent.0 b) is_more sent.2 in
      let asked = ask_text served.version served.group served.key in
      let replied = reply_text served.version served.key served.status served.value in (
        on.0 ++ asked,
        on.1 ++ replied,
        Appends-trans old mid new on.1 replied on.2 (subst (λ (x : List ℕ). Appends mid new x) served.wrote sent.1),
        λ i' o' later more' is exchange.
            regrouped a (r i') (w o') (IsInput (remaining i')) start on.0 asked later on.1 replied more'
            (on.3 i' o' (asked ++ later) (replied ++ more') (consumed left after asked later served.took is)
            (goes_on served.version n served.group served.status served.key served.value later more' served.ask served.may served.few
            exchange)),
      )

  pub ends_so : (i : I) (o : W) (n : ℕ) (start left old mid new : Option (List ℕ)) (more : Bool) → more ≡ false →
      CameSo a r w remaining n start left old mid
      → ((text : List ℕ) × Appends mid new text × Served a (r i) (w o) n left (remaining i) text more)
      → (came : List ℕ) × (output : List ℕ) × IsInput start came × Appends old new output ×
      IsExchange a (r i) (w o) (IsInput (remaining i)) came output
  ends_so i o n start left old mid new more is_last on sent =
      let served : Served a (r i) (w o) n left (remaining i) sent.0 false =
      subst (λ (b : Bool). Served a (r i) (w o) n left (remaining i) sent.0 b) is_last sent.2 in
      let both = on.3 i o served.0 sent.0 served.1 served.2 in
      (on.0 ++ served.0, on.1 ++ sent.0, both.0, Appends-trans old mid new on.1 sent.0 on.2 sent.1, both.1)
