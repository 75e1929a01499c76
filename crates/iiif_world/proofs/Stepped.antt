-- What an event comes to, from the rows that it reads.
use Rattle.std.proofs.Common.{◌≡◌, ℕ, List, Bool, map, length, Option, Some, None, refl, sym, ap, ◌∙◌}
use Rattle.std.specs.Prelude.{slice_get, slice_set, position}
use Rattle.std.specs.Str.{bytes_eq}
use Rattle.iiif_tables.specs.Cache.{Kept, kept_for}
use Rattle.iiif_tables.specs.Flights as tables
use Rattle.iiif_machine.specs.Keys.{key_eq, parts_of}
use Rattle.iiif_machine.specs.Plans.{resolved}
use Rattle.iiif_machine.specs.Types.{Request, Picture}
use Rattle.iiif_machine.specs.declared.keys.Key.{Key}
use Rattle.iiif_machine.specs.declared.keys.Value.{Value}
use Rattle.iiif_machine.specs.Tables.{emptied, Class, Wide, Local, Outcome, Place, Main, Table, met, enter, again, land}
use Rattle.iiif_machine.specs.Rows.{Node}
use Rattle.iiif_machine.specs.declared.rows.Caller.{Caller}
use Rattle.iiif_machine.specs.declared.rows.Call.{Call}
use Rattle.iiif_machine.specs.declared.rows.Lead.{Lead}
use Rattle.iiif_machine.specs.declared.rows.Stage.{Stage}
use Rattle.iiif_machine.specs.declared.rows.Flight.{Flight}
use Rattle.iiif_machine.specs.declared.rows.RequestRow.{RequestRow}
use Rattle.iiif_machine.specs.declared.rows.CallState.TheVariants.{Fresh, Hit, In}
use Rattle.iiif_machine.specs.declared.rows.Stage.TheVariants.{New, Looked, Asking, Fallback, Parts, Ready, Ended}
use Rattle.iiif_machine.specs.Worlds.{World, ◌>>=◌, version_shown, version_at, speaker, table_at, put_table, with_node, with_stage}
use Rattle.iiif_machine.specs.Worlds.{with_state, with_flight, with_ask, owner_of, settled, decided, collected, outcome_from}
use Rattle.iiif_machine.specs.Steps.{is_open_for, lead_of, after_want, after_look, after_begin, after_stop, flight_stopped, call_stopped}
use Rattle.iiif_machine.specs.Steps.{request_stopped, after_ask_peer, after_load, after_meeting, node_without, stage_found, step}
use Rattle.iiif_machine.specs.declared.events.Event.TheVariants.{Want, Enter, Again, AskPeer, Load, Land, Stop}
use Rattle.iiif_machine.proofs.Opening.{enter_met}

pub bind_by : {A B : Type 0} (x : Option A) (f : A → Option B) (a : A) {y : Option B} → x ≡ Some a → f a ≡ y → (x >>= f) ≡ y
bind_by x f a h e = ap (λ (o : Option _). o >>= f) h ∙ e

pub bind_none : {A B : Type 0} (x : Option A) (f : A → Option B) → x ≡ None → (x >>= f) ≡ None
bind_none x f h = ap (λ (o : Option _). o >>= f) h

pub again_is : (w : World) (f : ℕ) (l : Lead) (n : Node) → slice_get w.flights f ≡ Some (record { lead = l; stage = New }) →
    slice_get w.nodes l.node ≡ Some n →
    step w (Again f) ≡ Some (after_look w f l n (again (table_at n l.key) l.key l.class l.ticket))
unfolding step
again_is w f l n at there = bind_by (slice_get w.flights f) _ (record { lead = l; stage = New }) at
    (bind_by (slice_get w.nodes l.node) _ n there refl)

-- a flight's node that isn't there
pub again_lost : (w : World) (f : ℕ) (l : Lead) → slice_get w.flights f ≡ Some (record { lead = l; stage = New }) →
    slice_get w.nodes l.node ≡ None → step w (Again f) ≡ None
unfolding step
again_lost w f l at gone = bind_by (slice_get w.flights f) _ (record { lead = l; stage = New }) at
    (bind_none (slice_get w.nodes l.node) _ gone)

pub ask_lost : (w : World) (f : ℕ) (l : Lead) → slice_get w.flights f ≡ Some (record { lead = l; stage = Looked }) →
    slice_get w.nodes l.node ≡ None → step w (AskPeer f) ≡ None
unfolding step
ask_lost w f l at gone = bind_by (slice_get w.flights f) _ (record { lead = l; stage = Looked }) at
    (bind_none (slice_get w.nodes l.node) _ gone)

pub land_lost : (w : World) (f : ℕ) (l : Lead) (o : Outcome) (p : Place) (kept : Bool) →
    slice_get w.flights f ≡ Some (record { lead = l; stage = Ready o p }) →
    slice_get w.nodes l.node ≡ None → step w (Land f kept) ≡ None
unfolding step
land_lost w f l o p kept at gone = bind_by (slice_get w.flights f) _ (record { lead = l; stage = Ready o p }) at
    (bind_none (slice_get w.nodes l.node) _ gone)

pub enter_lost : (w : World) (c : ℕ) (who : Caller) → slice_get w.calls c ≡ Some (record { caller = who; state = Fresh }) →
    slice_get w.nodes who.node ≡ None → step w (Enter c) ≡ None
unfolding step
enter_lost w c who at gone = bind_by (slice_get w.calls c) _ (record { caller = who; state = Fresh }) at
    (bind_none (slice_get w.nodes who.node) _ gone)

pub ask_is : (w : World) (f o : ℕ) (l : Lead) (n : Node) → l.class ≡ Wide →
    slice_get w.flights f ≡ Some (record { lead = l; stage = Looked }) →
    slice_get w.nodes l.node ≡ Some n → position (λ m. bytes_eq m.name (owner_of n l.key)) w.nodes ≡ Some o →
    step w (AskPeer f) ≡ Some (with_ask (with_stage w f l Asking)
    (record { node = o; key = l.key; flight = f; version = version_at w.scene l.key }))
unfolding step
ask_is w f o l n wide at there owns =
    bind_by (slice_get w.flights f) _ (record { lead = l; stage = Looked }) at (bind_by (slice_get w.nodes l.node) _ n there
    (ap (λ (c : Class). after_ask_peer w f l n c Looked) wide
    ∙ bind_by (position (λ m. bytes_eq m.name (owner_of n l.key)) w.nodes)
    (λ o. Some (with_ask (with_stage w f l Asking) (record { node = o; key = l.key; flight = f; version = version_at w.scene l.key })))
    o owns refl))

pub ask_none : (w : World) (f : ℕ) (l : Lead) (n : Node) → l.class ≡ Wide →
    slice_get w.flights f ≡ Some (record { lead = l; stage = Looked }) →
    slice_get w.nodes l.node ≡ Some n → position (λ m. bytes_eq m.name (owner_of n l.key)) w.nodes ≡ None → step w (AskPeer f) ≡ None
unfolding step
ask_none w f l n wide at there owns =
    bind_by (slice_get w.flights f) _ (record { lead = l; stage = Looked }) at (bind_by (slice_get w.nodes l.node) _ n there
    (ap (λ (c : Class). after_ask_peer w f l n c Looked) wide
    ∙ bind_none (position (λ m. bytes_eq m.name (owner_of n l.key)) w.nodes)
    (λ o. Some (with_ask (with_stage w f l Asking) (record { node = o; key = l.key; flight = f; version = version_at w.scene l.key })))
    owns))

pub begin_is : (w : World) (f : ℕ) (l : Lead) (n : Node) → l.class ≡ Local →
    slice_get w.flights f ≡ Some (record { lead = l; stage = Looked }) →
    slice_get w.nodes l.node ≡ Some n → step w (Load f) ≡ Some (after_begin w f l n (parts_of l.key))
unfolding step
begin_is w f l n own at there =
    bind_by (slice_get w.flights f) _ (record { lead = l; stage = Looked }) at (bind_by (slice_get w.nodes l.node) _ n there
    (ap (λ (c : Class). after_load w f l n c Looked) own))

pub merge_is : (w : World) (f : ℕ) (l : Lead) (n : Node) (cs : List ℕ) (os : List Outcome) → l.class ≡ Local →
    slice_get w.flights f ≡ Some (record { lead = l; stage = Parts cs }) →
    slice_get w.nodes l.node ≡ Some n → decided w cs ≡ Some os →
    step w (Load f) ≡ Some (with_stage w f l (Ready (outcome_from w.scene l.key (collected os)) Main))
unfolding step
merge_is w f l n cs os own at there known =
    bind_by (slice_get w.flights f) _ (record { lead = l; stage = Parts cs }) at (bind_by (slice_get w.nodes l.node) _ n there
    (ap (λ (c : Class). after_load w f l n c (Parts cs)) own
    ∙ bind_by (decided w cs) (λ os. Some (with_stage w f l (Ready (outcome_from w.scene l.key (collected os)) Main))) os known refl))

pub merge_none : (w : World) (f : ℕ) (l : Lead) (n : Node) (cs : List ℕ) → l.class ≡ Local →
    slice_get w.flights f ≡ Some (record { lead = l; stage = Parts cs }) →
    slice_get w.nodes l.node ≡ Some n → decided w cs ≡ None → step w (Load f) ≡ None
unfolding step
merge_none w f l n cs own at there known =
    bind_by (slice_get w.flights f) _ (record { lead = l; stage = Parts cs }) at (bind_by (slice_get w.nodes l.node) _ n there
    (ap (λ (c : Class). after_load w f l n c (Parts cs)) own
    ∙ bind_none (decided w cs) (λ os. Some (with_stage w f l (Ready (outcome_from w.scene l.key (collected os)) Main))) known))

pub land_is : (w : World) (f : ℕ) (l : Lead) (n : Node) (o : Outcome) (p : Place) (kept : Bool) →
    slice_get w.flights f ≡ Some (record { lead = l; stage = Ready o p }) →
    slice_get w.nodes l.node ≡ Some n → step w (Land f kept)
    ≡ Some (settled (with_stage (with_node w l.node (put_table n l.key (land (table_at n l.key) l.key l.class l.ticket o p kept))) f l
    (Ended (Some o))))
unfolding step
land_is w f l n o p kept at there = bind_by (slice_get w.flights f) _ (record { lead = l; stage = Ready o p }) at
    (bind_by (slice_get w.nodes l.node) _ n there refl)

-- a landing, from what the code does one after another
pub land_done : (w m v : World) (f : ℕ) (l : Lead) (n : Node) (o : Outcome) (p : Place) (kept : Bool) →
    slice_get w.flights f ≡ Some (record { lead = l; stage = Ready o p }) →
    slice_get w.nodes l.node ≡ Some n → m ≡ with_stage w f l (Ended (Some o)) →
    v ≡ settled (with_node m l.node (put_table n l.key (land (table_at n l.key) l.key l.class l.ticket o p kept))) →
    step w (Land f kept) ≡ Some v
land_done w m v f l n o p kept at there hm hv =
    land_is w f l n o p kept at there
    ∙ ap (λ (x : World). Some x) (sym (hv ∙ ap
    (λ (z : World). settled (with_node z l.node (put_table n l.key (land (table_at n l.key) l.key l.class l.ticket o p kept)))) hm))

abbrev pub entering : Node → Caller → tables.Entered Value × Table
entering n who = tables.enter key_eq who.class who.key (table_at n who.key)

pub enter_is : (w : World) (c : ℕ) (who : Caller) (n : Node) (r : tables.Entered Value) →
    slice_get w.calls c ≡ Some (record { caller = who; state = Fresh }) →
    slice_get w.nodes who.node ≡ Some n → (entering n who).0 ≡ r → step w (Enter c) ≡ after_meeting w c who n (met r, (entering n who).1)
unfolding step enter
enter_is w c who n r at there is =
    bind_by (slice_get w.calls c) _ (record { caller = who; state = Fresh }) at (bind_by (slice_get w.nodes who.node) _ n there
    (ap (λ (x : tables.Entered Value). after_meeting w c who n (met x, (entering n who).1)) is))

-- what a call meets for whose key a value is kept
pub meets_kept : (n : Node) (who : Caller) (e : Kept Value) → kept_for key_eq who.key (table_at n who.key).cache ≡ Some e →
    (entering n who).0 ≡ tables.hit e
meets_kept n who e h =
    let t = table_at n who.key in
    ap (λ (r : tables.Entered Value × Table). r.0) (enter_met who.class who.key t (Some e) (t.flights who.class who.key) h refl)

pub find_done : (w m v : World) (c : ℕ) (who : Caller) (n : Node) (e : Kept Value) →
    slice_get w.calls c ≡ Some (record { caller = who; state = Fresh }) →
    slice_get w.nodes who.node ≡ Some n → kept_for key_eq who.key (table_at n who.key).cache ≡ Some e →
    m ≡ with_state w c who (Hit e.value) →
    v ≡ settled (with_node m who.node (put_table n who.key (entering n who).1)) → step w (Enter c) ≡ Some v
find_done w m v c who n e at there kept hm hv =
    enter_is w c who n (tables.hit e) at there (meets_kept n who e kept)
    ∙ ap (λ (x : World). Some x) (sym (hv ∙ ap (λ (z : World). settled (with_node z who.node (put_table n who.key (entering n who).1))) hm))

pub lead_by : (w m v : World) (c t : ℕ) (who : Caller) (n : Node) (l : Lead) →
    slice_get w.calls c ≡ Some (record { caller = who; state = Fresh }) →
    slice_get w.nodes who.node ≡ Some n → (entering n who).0 ≡ tables.led t →
    m ≡ with_node w who.node (put_table n who.key (entering n who).1) → l ≡ lead_of who t →
    v ≡ with_state (with_flight m l) c who (In (length m.flights)) → step w (Enter c) ≡ Some v
lead_by w m v c t who n l at there is hm hl hv =
    let o = put_table n who.key (entering n who).1 in
    enter_is w c who n (tables.led t) at there is
    ∙ ap (λ (x : World). Some x) (sym (hv ∙ ap (λ (z : World). with_state (with_flight z l) c who (In (length z.flights))) hm
    ∙ ap (λ (y : Lead). with_state (with_flight (with_node w who.node o) y) c who (In (length w.flights))) hl))

pub join_by : (w m v : World) (c t f : ℕ) (who : Caller) (n : Node) → slice_get w.calls c ≡ Some (record { caller = who; state = Fresh }) →
    slice_get w.nodes who.node ≡ Some n → (entering n who).0 ≡ tables.joined t → position (is_open_for who) w.flights ≡ Some f →
    m ≡ with_node w who.node (put_table n who.key (entering n who).1) → v ≡ with_state m c who (In f) → step w (Enter c) ≡ Some v
join_by w m v c t f who n at there is first hm hv =
    enter_is w c who n (tables.joined t) at there is
    ∙ bind_by (position (is_open_for who) w.flights)
    (λ f. Some (with_state (with_node w who.node (put_table n who.key (entering n who).1)) c who (In f))) f first
    (ap (λ (x : World). Some x) (sym (hv ∙ ap (λ (z : World). with_state z c who (In f)) hm)))

pub join_none : (w : World) (c m : ℕ) (who : Caller) (n : Node) → slice_get w.calls c ≡ Some (record { caller = who; state = Fresh }) →
    slice_get w.nodes who.node ≡ Some n → (entering n who).0 ≡ tables.joined m → position (is_open_for who) w.flights ≡ None →
    step w (Enter c) ≡ None
join_none w c m who n at there is none =
    enter_is w c who n (tables.joined m) at there is
    ∙ bind_none (position (is_open_for who) w.flights)
    (λ f. Some (with_state (with_node w who.node (put_table n who.key (entering n who).1)) c who (In f))) none

pub want_is : (w : World) (i : ℕ) (name : List ℕ) (q : Request) (n : Node) (p : Picture) → slice_get w.nodes i ≡ Some n →
    w.scene.shows name ≡ Some p →
    speaker n (version_shown p) ≡ Some n → step w (Want i name q) ≡ Some
    (after_want w n p (record { node = i; name = name; request = q }) (resolved w.scene p q))
unfolding step
want_is w i name q n p there shown speaks =
    bind_by (slice_get w.nodes i) _ n there (bind_by (w.scene.shows name) _ p shown (bind_by (speaker n (version_shown p)) _ n speaks refl))

-- a node that doesn't speak the picture's version
pub want_mute : (w : World) (i : ℕ) (name : List ℕ) (q : Request) (n : Node) (p : Picture) (x : ℕ) → slice_get w.nodes i ≡ Some n →
    w.scene.shows name ≡ Some p →
    x ≡ version_shown p → speaker n x ≡ None → step w (Want i name q) ≡ None
unfolding step
want_mute w i name q n p x there shown is mute =
    bind_by (slice_get w.nodes i) _ n there (bind_by (w.scene.shows name) _ p shown
    (bind_none (speaker n (version_shown p)) _ (ap (λ (y : ℕ). speaker n y) (sym is) ∙ mute)))

pub want_lost : (w : World) (i : ℕ) (name : List ℕ) (q : Request) (n : Node) → slice_get w.nodes i ≡ Some n → w.scene.shows name ≡ None →
    step w (Want i name q) ≡ None
unfolding step
want_lost w i name q n there shown = bind_by (slice_get w.nodes i) _ n there (bind_none (w.scene.shows name) _ shown)

pub stop_is : (w : World) (i : ℕ) (n : Node) → slice_get w.nodes i ≡ Some n → step w (Stop i) ≡ Some (after_stop w i n)
unfolding step
stop_is w i n there = bind_by (slice_get w.nodes i) _ n there refl

pub again_done : (w m v : World) (f : ℕ) (l : Lead) (n : Node) (s : Stage) →
    slice_get w.flights f ≡ Some (record { lead = l; stage = New }) →
    slice_get w.nodes l.node ≡ Some n → m ≡ with_node w l.node (put_table n l.key (again (table_at n l.key) l.key l.class l.ticket).1) →
    s ≡ stage_found (again (table_at n l.key) l.key l.class l.ticket).0 → v ≡ with_stage m f l s → step w (Again f) ≡ Some v
again_done w m v f l n s at there hm hs hv =
    let o = put_table n l.key (again (table_at n l.key) l.key l.class l.ticket).1 in
    again_is w f l n at there
    ∙ ap (λ (x : World). Some x) (sym (hv ∙ ap (λ (z : World). with_stage z f l s) hm ∙
    ap (λ (x : Stage). with_stage (with_node w l.node o) f l x) hs))

pub ask_done : (w m v : World) (f o x : ℕ) (l : Lead) (n : Node) (k : Key) → l.class ≡ Wide →
    slice_get w.flights f ≡ Some (record { lead = l; stage = Looked }) →
    slice_get w.nodes l.node ≡ Some n → position (λ m. bytes_eq m.name (owner_of n l.key)) w.nodes ≡ Some o → k ≡ l.key →
    x ≡ version_at w.scene l.key →
    m ≡ with_ask w (record { node = o; key = k; flight = f; version = x }) → v ≡ with_stage m f l Asking → step w (AskPeer f) ≡ Some v
ask_done w m v f o x l n k wide at there owns hk hx hm hv =
    ask_is w f o l n wide at there owns
    ∙ ap (λ (x : World). Some x) (sym (hv ∙ ap (λ (z : World). with_stage z f l Asking) hm
    ∙ ap (λ (y : Key). with_ask (with_stage w f l Asking) (record { node = o; key = y; flight = f; version = x })) hk
    ∙ ap (λ (y : ℕ). with_ask (with_stage w f l Asking) (record { node = o; key = l.key; flight = f; version = y })) hx))

pub evict_done : (w v : World) (i : ℕ) (ks : List Key) (n m : Node) (ms : List Node) → slice_get w.nodes i ≡ Some n →
    ms ≡ slice_set w.nodes i m → m ≡ node_without n ks →
    v ≡ record w { nodes = ms } → (slice_get w.nodes i >>= (λ (x : Node). Some (with_node w i (node_without x ks)))) ≡ Some v
evict_done w v i ks n m ms there hms hm hv =
    bind_by (slice_get w.nodes i) (λ (x : Node). Some (with_node w i (node_without x ks))) n there
    (ap (λ (x : World). Some x) (sym (hv ∙ ap (λ (ns : List Node). record w { nodes = ns })
    (hms ∙ ap (λ (x : Node). slice_set w.nodes i x) hm))))

pub stop_done : (w v : World) (i : ℕ) (n m : Node) (ms : List Node) (fs : List Flight) (cs : List Call) (qs : List RequestRow) →
    slice_get w.nodes i ≡ Some n →
    ms ≡ slice_set w.nodes i m → m ≡ record n { tiles = emptied n.tiles; sums = emptied n.sums } → fs ≡ map (flight_stopped i) w.flights →
    cs ≡ map (call_stopped i) w.calls → qs ≡ map (request_stopped i) w.requests →
    v ≡ record w { nodes = ms; flights = fs; calls = cs; requests = qs } → step w (Stop i) ≡ Some v
stop_done w v i n m ms fs cs qs there hms hm hf hc hq hv =
    let all : ms ≡ slice_set w.nodes i (record n { tiles = emptied n.tiles; sums = emptied n.sums }) = hms ∙
    ap (λ (x : Node). slice_set w.nodes i x) hm in
    let made : v ≡ after_stop w i n = hv
    ∙ ap (λ (x : List Node). record w { nodes = x; flights = fs; calls = cs; requests = qs }) all
    ∙ ap (λ (x : List Flight). record (with_node w i (record n { tiles = emptied n.tiles; sums = emptied n.sums }))
    { flights = x; calls = cs; requests = qs }) hf
    ∙ ap (λ (x : List Call). record (with_node w i (record n { tiles = emptied n.tiles; sums = emptied n.sums }))
    { flights = map (flight_stopped i) w.flights; calls = x; requests = qs }) hc
    ∙ ap (λ (x : List RequestRow). record (with_node w i (record n { tiles = emptied n.tiles; sums = emptied n.sums }))
    { flights = map (flight_stopped i) w.flights; calls = map (call_stopped i) w.calls; requests = x }) hq in
    stop_is w i n there ∙ ap (λ (x : World). Some x) (sym made)

pub want_none : (w : World) (i : ℕ) (name : List ℕ) (q : Request) → slice_get w.nodes i ≡ None → step w (Want i name q) ≡ None
unfolding step
want_none w i name q gone = bind_none (slice_get w.nodes i) _ gone

-- a load that isn't of a flight that has looked, or has parts
pub load_none : (w : World) (f : ℕ) (l : Lead) (n : Node) (s : Stage) → l.class ≡ Local →
    slice_get w.flights f ≡ Some (record { lead = l; stage = s }) →
    slice_get w.nodes l.node ≡ Some n → after_load w f l n Local s ≡ None → step w (Load f) ≡ None
unfolding step
load_none w f l n s own at there none =
    bind_by (slice_get w.flights f) _ (record { lead = l; stage = s }) at (bind_by (slice_get w.nodes l.node) _ n there
    (ap (λ (c : Class). after_load w f l n c s) own ∙ none))

pub no_load : (w : World) (f : ℕ) (l : Lead) (n : Node) (s : Stage) → (s ≡ Looked → ⊥) → ((cs : List ℕ) → s ≡ Parts cs → ⊥) →
    after_load w f l n Local s ≡ None
no_load w f l n Looked a b = absurd (a refl)
no_load w f l n (Parts cs) a b = absurd (b cs refl)
no_load w f l n New a b = refl
no_load w f l n Asking a b = refl
no_load w f l n (Fallback c) a b = refl
no_load w f l n (Ready o p) a b = refl
no_load w f l n (Ended o) a b = refl
