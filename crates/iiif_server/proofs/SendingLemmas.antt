-- Images that are sent band by band, as answers.
use Rattle.std.proofs.Common.{◌≡◌, ℕ, ◌<◌, ◌≤◌, ◌⊎◌, Bool, true, List, [], ◌++◌, length, take, Option, Result, Ok, Err, refl, sym, ap}
use Rattle.std.proofs.Common.{subst, ◌∙◌, arith, inl, inr}
use Rattle.std.specs.Prelude.{IfOk, IfErr, IsTrue}
use Rattle.std.specs.Io.KnownBytes.{Appends}
use Rattle.std.proofs.KnownBytes.{Appends-trans}
use Rattle.std.proofs.lemmas.List.{length-take-le}
use Rattle.std.proofs.lemmas.Bool.{false≢true}
use Rattle.std.proofs.lemmas.Result.{IfOk-weaker}
use Rattle.iiif_io.specs.Sending.{WasCut, IsStrictPrefix}
use Rattle.iiif_source.specs.declared.ReadFault.{ReadFault}
use Rattle.iiif_pixel.specs.Geometry.{channels_of, top_of}
use Rattle.iiif_pixel.specs.Picture.{Picture, dim_of}
use Rattle.iiif_pixel.specs.TurnPlaces.{turned_dim}
use Rattle.iiif_pixel.specs.declared.geometry.Dim.{Dim}
use Rattle.iiif_tiff_write.specs.File.{file, head_of}
use Rattle.iiif_tiff_write.proofs.Lengths.{length-head_of}
use Rattle.iiif_tiff.specs.Tiff.{white_of}
use Rattle.iiif_tiff_write.specs.OutKind.{out_depth, out_kind_of, samples_per_pixel}
use Rattle.iiif_tiff_write.specs.declared.kind.OutKind.{OutKind}
use Rattle.iiif_tiff_write.specs.declared.kind.OutKind.TheVariants.{Gray, Rgb, Bitonal, Gray16, Rgb16}
use Rattle.iiif_request.specs.declared.request.Request.{Request}
use Rattle.iiif_canonical.specs.Images.{resolved_image}
use Rattle.iiif_canonical.specs.declared.resolved.Resolved.{Resolved}
use Rattle.iiif_keys.specs.Names.{named, IsSource, Pictures}
use Rattle.iiif_keys.specs.Shapes.{shape_of}
use Rattle.iiif_keys.specs.declared.fault.Fault.{Fault}
use Rattle.iiif_keys.specs.declared.fault.Fault.TheVariants as fault
use Rattle.iiif_keys.specs.declared.keys.SumKey.{SumKey}
use Rattle.iiif_keys.specs.declared.keys.TileKey.{TileKey}
use Rattle.iiif_keys.specs.declared.values.SumVal.{SumVal}
use Rattle.iiif_keys.specs.declared.values.TileVal.{TileVal}
use Rattle.iiif_outcome.specs.Outcomes.{is_given}
use Rattle.iiif_tile_group.specs.Collection.{Item}
use Rattle.iiif_tile_group.specs.Named.{picture_in}
use Rattle.iiif_assemble.specs.Jobs.{channels_in, top_in, IsShown}
use Rattle.iiif_assemble.specs.declared.job.Job.{Job}
use Rattle.iiif_assemble.proofs.ImageLemmas.{resolved_sides}
use Rattle.iiif_delivery.specs.Delivery.{result_dim, FailsFor, IsHeldInBands, IsImageFor}
use Rattle.iiif_delivery.specs.declared.delivery.Stopped.TheVariants as stopped
use Rattle.iiif_answers.specs.Allowed.{own, source_failed, Allowed, HoldsFor, MayFail}
use Rattle.iiif_answers.specs.Answers.{given, IsPictureOf, IsSentFor}
use Rattle.iiif_server.specs.Code.{IsJobFor, ReachesImageOf}
use Rattle.iiif_answers.specs.declared.message.Message.{Message}
use Rattle.iiif_answers.specs.Kinds.{depth_of, kind_of}
use Rattle.iiif_answers.specs.Outcomes.{given_of, IsReady}
use Rattle.iiif_answers.specs.Responses.{body_in, image_response, is_loaded, response_of, source_fault, want_of_memory, written}
use Rattle.iiif_answers.specs.Sent.{answer_of, text_of, IsSent}
use Rattle.iiif_answers.specs.Settings.{Settings}
use Rattle.iiif_answers.specs.declared.accepted.Accepted.{Accepted}
use Rattle.iiif_answers.specs.declared.answer.Sent.{Sent}
use Rattle.iiif_answers.specs.declared.answer.Cut.{Cut}
use Rattle.iiif_answers.specs.declared.answer.Cause.TheVariants.{Writer, Load}
use Rattle.iiif_answers.specs.declared.part.Part.{Part}
use Rattle.iiif_answers.specs.declared.part.Part.TheVariants.{Body, Whole, Head}
use Rattle.iiif_answers.proofs.AllowedLemmas.{allowed, memory_allowed, told_allowed}
use Rattle.iiif_server.proofs.JobLemmas.{band_given, item_channels, item_top}

-- ---- Faults

-- what a load may fail by
may_fail : {S : Type 0} (gave : S → ReadFault → Bool) (source : S) (given_by : ReadFault → Bool) (f : Fault) →
    ((r : ReadFault) → given_by r ≡ gave source r) →
    (f ≡ fault.NoMemory) ⊎ IsTrue (is_given given_by f) → MayFail gave source f
may_fail gave source given_by (fault.Source r) same (inl none) = absurd cc
may_fail gave source given_by (fault.Source r) same (inr was) = subst (λ (b : Bool). IsTrue b) (same r) was
may_fail gave source given_by fault.NoMemory same either = tt
may_fail gave source given_by fault.UnknownName same (inl none) = absurd cc
may_fail gave source given_by fault.UnknownName same (inr was) = absurd (false≢true was)
may_fail gave source given_by fault.BadKey same (inl none) = absurd cc
may_fail gave source given_by fault.BadKey same (inr was) = absurd (false≢true was)

-- and does, of a node's job
pub fails : {S : Type 0} (shows : Pictures) (gives : List ℕ → ReadFault → Bool) (stable : List ℕ → Type 0) (edge : ℕ) (bytes : S → List ℕ)
    (gave : S → ReadFault → Bool)
    (keeps : S → Type 0) (item : Item S) (a : Accepted) (j : Job) (tile_means : TileKey → TileVal → Type 0)
    (sum_means : SumKey → SumVal → Type 0) (kind : OutKind) (rows front n : ℕ)
    (f : Fault) → IsJobFor shows gives stable edge bytes gave keeps item a j →
    FailsFor j tile_means (λ k r. IsTrue (is_given (gives k.name) r)) sum_means (λ k r. IsTrue (is_given (gives k.name) r)) kind rows front
    (stopped.Load n f) → MayFail gave item.source f
fails shows gives stable edge bytes gave keeps item a j tile_means sum_means kind rows front n f of failed = elim failed.2 [
  | inl none ↦ may_fail gave item.source (gives j.name) f of.gave_is (inl none)
  | inr band ↦
      may_fail gave item.source (gives j.name) f of.gave_is
      (band_given gives j.name j.edge j.shape.dim (channels_of j.shape.kind) of.job.room j.resolved j.plan tile_means sum_means
      band.0.items.items f of.job.is_plan band.3)
]

-- ---- Images

-- an image for a node's job is one for the request
pub sent_for : {S : Type 0} (shows : Pictures) (gives : List ℕ → ReadFault → Bool) (stable : List ℕ → Type 0) (edge : ℕ)
    (bytes : S → List ℕ) (gave : S → ReadFault → Bool)
    (keeps : S → Type 0) (honest : Bool) (item : Item S) (a : Accepted) (j : Job) (tile_means : TileKey → TileVal → Type 0)
    (sum_means : SumKey → SumVal → Type 0) (p image : Picture) →
    IsJobFor shows gives stable edge bytes gave keeps item a j →
    (IsSource (named shows j.name) → stable j.name → IsTrue honest → IsShown shows j tile_means sum_means) →
    (keeps item.source → picture_in bytes item ≡ p) → IsImageFor shows j tile_means sum_means image →
    IsSentFor (keeps item.source × IsTrue honest) (resolved_image p a.resolved) image
sent_for shows gives stable edge bytes gave keeps honest item a j tile_means sum_means p image of shown same is_for =
    let few = subst (λ (r : Resolved). r.turn.quarters < 4) of.resolved of.job.quarters in
    record {
      sides = is_for.sides ∙ ap (λ (r : Resolved). turned_dim r.turn r.size) of.resolved ∙ sym (resolved_sides p a.resolved few);
      same = λ k.
          is_for.same (shown of.source (of.kept k.0) k.1) ∙ ap (λ (r : Resolved). resolved_image (named shows j.name) r) of.resolved
          ∙ ap (λ (u : Picture). resolved_image u a.resolved) (of.picture ∙ same k.0);
    }

-- a job has the channels and the depth that its file's kind asks for
pub job_channels : {S : Type 0} (shows : Pictures) (gives : List ℕ → ReadFault → Bool) (stable : List ℕ → Type 0) (edge : ℕ)
    (bytes : S → List ℕ) (gave : S → ReadFault → Bool)
    (keeps : S → Type 0) (item : Item S) (a : Accepted) (j : Job) → IsJobFor shows gives stable edge bytes gave keeps item a j →
    channels_of j.shape.kind ≡ item.layout.channels
job_channels shows gives stable edge bytes gave keeps item a j of =
    item_channels bytes item j.shape (subst IsSource of.picture of.source) (ap shape_of (sym of.picture) ∙ of.known.shape)

job_top : {S : Type 0} (shows : Pictures) (gives : List ℕ → ReadFault → Bool) (stable : List ℕ → Type 0) (edge : ℕ) (bytes : S → List ℕ)
    (gave : S → ReadFault → Bool)
    (keeps : S → Type 0) (item : Item S) (a : Accepted) (j : Job) → IsJobFor shows gives stable edge bytes gave keeps item a j →
    top_of j.shape.depth ≡ white_of item.layout.bits
job_top shows gives stable edge bytes gave keeps item a j of =
    item_top bytes item j.shape (subst IsSource of.picture of.source) (ap shape_of (sym of.picture) ∙ of.known.shape)

pub fits_channels : {S : Type 0} (shows : Pictures) (gives : List ℕ → ReadFault → Bool) (stable : List ℕ → Type 0) (edge : ℕ)
    (bytes : S → List ℕ) (gave : S → ReadFault → Bool)
    (keeps : S → Type 0) (item : Item S) (a : Accepted) (j : Job) → IsJobFor shows gives stable edge bytes gave keeps item a j →
    IsReady item.layout a →
    channels_in j.resolved.quality (channels_of j.shape.kind) ≡ samples_per_pixel a.kind
fits_channels shows gives stable edge bytes gave keeps item a j of ready =
    ap (λ (r : Resolved). channels_in r.quality (channels_of j.shape.kind)) of.resolved
    ∙ ap (channels_in a.resolved.quality) (job_channels shows gives stable edge bytes gave keeps item a j of) ∙ ready.channels

pub fits_depth : {S : Type 0} (shows : Pictures) (gives : List ℕ → ReadFault → Bool) (stable : List ℕ → Type 0) (edge : ℕ)
    (bytes : S → List ℕ) (gave : S → ReadFault → Bool)
    (keeps : S → Type 0) (item : Item S) (a : Accepted) (j : Job) → IsJobFor shows gives stable edge bytes gave keeps item a j →
    IsReady item.layout a →
    top_in j.resolved.quality (top_of j.shape.depth) ≡ top_of (out_depth a.kind)
fits_depth shows gives stable edge bytes gave keeps item a j of ready =
    ap (λ (r : Resolved). top_in r.quality (top_of j.shape.depth)) of.resolved
    ∙ ap (top_in a.resolved.quality) (job_top shows gives stable edge bytes gave keeps item a j of) ∙ ready.top

-- what is held of a job's image is held of the image that is sent
pub held_for : {S : Type 0} (shows : Pictures) (gives : List ℕ → ReadFault → Bool) (stable : List ℕ → Type 0) (edge : ℕ)
    (bytes : S → List ℕ) (gave : S → ReadFault → Bool)
    (keeps : S → Type 0) (item : Item S) (a : Accepted) (j : Job) (p image : Picture) (rows band held : ℕ) →
    IsJobFor shows gives stable edge bytes gave keeps item a j →
    IsPictureOf bytes keeps item p → dim_of image ≡ result_dim j → rows ≡ band →
    IsHeldInBands (result_dim j) rows (channels_of j.shape.kind) held →
    IsHeldInBands (dim_of image) band p.channels held
held_for shows gives stable edge bytes gave keeps item a j p image rows band held of is sides same is_held =
    let channels = job_channels shows gives stable edge bytes gave keeps item a j of ∙ sym is.channels in
    subst (λ (d : Dim). IsHeldInBands d band p.channels held) (sym sides)
    (subst (λ (n : ℕ). IsHeldInBands (result_dim j) n p.channels held) same
    (subst (λ (n : ℕ). IsHeldInBands (result_dim j) rows n held) channels is_held))

loaded_body : (part : Part) (b : List ℕ) → is_loaded part ≡ true → body_in part b ≡ b
loaded_body Body b loaded = refl
loaded_body (Whole close) b loaded = refl
loaded_body (Head close) b loaded = absurd cc

loaded_held : {S : Type 0} (s : Settings) (part : Part) (item : Item S) (q : Request) (a : Accepted) (p image : Picture) (held : ℕ) →
    is_loaded part ≡ true →
    IsHeldInBands (dim_of image) s.band p.channels held → HoldsFor s part (given (given_of item q a p image)) held
loaded_held s Body item q a p image held loaded is = is
loaded_held s (Whole close) item q a p image held loaded is = is
loaded_held s (Head close) item q a p image held loaded is = absurd cc

-- what stands before a file's rows is not empty
pub file_head_some : (k : OutKind) (d : Dim) → 0 < length (head_of k d)
file_head_some Gray d = omega (arith, length-head_of Gray d)
file_head_some Rgb d = omega (arith, length-head_of Rgb d)
file_head_some Bitonal d = omega (arith, length-head_of Bitonal d)
file_head_some Gray16 d = omega (arith, length-head_of Gray16 d)
file_head_some Rgb16 d = omega (arith, length-head_of Rgb16 d)

-- ---- Answers

module _ {S W : Type 0} (s : Settings) (part : Part) (gave : S → ReadFault → Bool) (kept : Type 0) (item : Item S) (q : Request)
    (a : Accepted) (p : Picture) (head : List ℕ)
    (contents : W → Option (List ℕ)) (fails : W → W → Type 0) (loaded : is_loaded part ≡ true) (few : a.resolved.turn.quarters < 4)
    (kind_is : a.kind ≡ out_kind_of (kind_of p) (depth_of p) q.quality)
    (head_is : (image : Picture) → dim_of image ≡ turned_dim a.resolved.turn a.resolved.size →
    head ≡ (written part (image_response s.base item.name a.canonical image a.kind)).head) where
  head_of_answer : (image : Picture) → IsSentFor kept (resolved_image p a.resolved) image →
      head ≡ (written part (response_of s (given (given_of item q a p image)))).head
  head_of_answer image sent =
      head_is image (sent.sides ∙ resolved_sides p a.resolved few)
      ∙ ap (λ (k : OutKind). (written part (image_response s.base item.name a.canonical image k)).head) kind_is

  text_is : (image : Picture) → IsSentFor kept (resolved_image p a.resolved) image →
      head ++ file image a.kind ≡ text_of (written part (response_of s (given (given_of item q a p image))))
  text_is image sent =
      let k = out_kind_of (kind_of p) (depth_of p) q.quality in
      let front = (written part (response_of s (given (given_of item q a p image)))).head in
      ap (λ (h : List ℕ). h ++ file image a.kind) (head_of_answer image sent)
      ∙ ap (λ (b : List ℕ). front ++ b) (ap (file image) kind_is ∙ sym (loaded_body part (file image k) loaded))

  -- it was sent whole
  pub whole_allowed : (image : Picture) (old new : W) (bytes held : ℕ) → IsSentFor kept (resolved_image p a.resolved) image →
      Appends (contents old) (contents new) (head ++ file image a.kind) →
      bytes ≡ length (head ++ file image a.kind) → IsHeldInBands (dim_of image) s.band p.channels held →
      (text : List ℕ) × Appends (contents old) (contents new) text
      × Allowed s part gave (ReachesImageOf kept item q a p) ((before : W) × fails before new) text
      (Ok (record { status = 200; bytes = bytes; held = held }))
  whole_allowed image old new bytes held sent appended count is_held =
      let g = given_of item q a p image in (
        head ++ file image a.kind,
        appended,
        (
          response_of s (given g),
          own (given g) (image, sent, refl),
          text_is image sent,
          refl,
          count,
          loaded_held s part item q a p image held loaded is_held,
        ),
      )

  prefix_is : (image : Picture) (n : ℕ) → IsSentFor kept (resolved_image p a.resolved) image → n < length (head ++ file image a.kind) →
      IsStrictPrefix (take n (head ++ file image a.kind)) (text_of (written part (response_of s (given (given_of item q a p image)))))
  prefix_is image n sent within =
      let same = text_is image sent in
      (n, subst (λ (t : List ℕ). n < length t) same within, ap (take n) same)

  -- the writer failed
  pub writer_allowed : (image : Picture) (old new : W) (n : ℕ) → IsSentFor kept (resolved_image p a.resolved) image →
      WasCut contents fails old new (head ++ file image a.kind) n →
      (text : List ℕ) × Appends (contents old) (contents new) text
      × Allowed s part gave (ReachesImageOf kept item q a p) ((before : W) × fails before new) text
      (Err (record { sent = n; cause = Writer }))
  writer_allowed image old new n sent cut =
      let g = given_of item q a p image in
      let full = head ++ file image a.kind in
      let strict = cut.strict in (
        take n full,
        cut.written,
        (
          sym (length-take-le n full (omega (arith, strict))),
          (
            (cut.before, cut.failed),
            (response_of s (given g), own (given g) (image, sent, refl), prefix_is image n sent cut.strict),
          ),
        ),
      )

  -- a later band failed
  pub load_allowed : (image : Picture) (old new : W) (n front : ℕ) (f : Fault) → IsSentFor kept (resolved_image p a.resolved) image →
      n < length (head ++ file image a.kind) →
      Appends (contents old) (contents new) (take n (head ++ file image a.kind)) → 0 < n → length head < front → (n ≡ 0) ⊎ (front ≤ n) →
      MayFail gave item.source f →
      (text : List ℕ) × Appends (contents old) (contents new) text
      × Allowed s part gave (ReachesImageOf kept item q a p) ((before : W) × fails before new) text
      (Err (record { sent = n; cause = Load f }))
  load_allowed image old new n front f sent within appended some longer (inl none) failed = absurd (omega (arith, some, none))
  load_allowed image old new n front f sent within appended some longer (inr past) failed =
      let g = given_of item q a p image in
      let full = head ++ file image a.kind in
      let count : length (take n full) ≡ n = length-take-le n full (omega (arith, within)) in
      let same = ap length (head_of_answer image sent) in (
        take n full,
        appended,
        (
          sym count,
          (
            g,
            (image, sent, refl),
            failed,
            record { prefix = prefix_is image n sent within; past = omega (arith, same, longer, past, count) },
          ),
        ),
      )

  -- nothing was sent of it
  pub none_allowed : (old mid new : W) (f : Fault) (result : Result Sent Cut) → Appends (contents old) (contents mid) [] →
      MayFail gave item.source f →
      (((r : ReadFault) × (f ≡ fault.Source r) × IsSent contents fails mid new (written part source_fault) result) ⊎
      IsSent contents fails mid new (written part want_of_memory) result) →
      (text : List ℕ) × Appends (contents old) (contents new) text ×
      Allowed s part gave (ReachesImageOf kept item q a p) ((before : W) × fails before new) text result
  none_allowed old mid new f result nothing failed (inl source) =
      let asked = resolved_image p a.resolved in
      let g = given_of item q a p asked in
      let sent = source.2 in
      let was : IsTrue (gave item.source source.0) = subst (MayFail gave item.source) source.1 failed in (
        sent.0,
        Appends-trans _ _ _ _ _ nothing sent.1,
        allowed s part gave (ReachesImageOf kept item q a p) fails new sent.0 (written part source_fault) result sent.2
            (source_fault, (source_failed g source.0 (asked, record { sides = refl; same = λ k. refl }, refl) loaded was, refl), refl),
      )
  none_allowed old mid new f result nothing failed (inr memory) =
      let sent = memory_allowed s part gave (ReachesImageOf kept item q a p) contents fails mid new result memory in
      (sent.0, Appends-trans _ _ _ _ _ nothing sent.1, sent.2)

-- a head alone was sent
pub head_allowed : {S W E : Type 0} (s : Settings) (part : Part) (close : Bool) (gave : S → ReadFault → Bool) (kept : Type 0)
    (item : Item S) (q : Request) (a : Accepted) (p : Picture)
    (contents : W → Option (List ℕ)) (fails : W → W → Type 0) (old new : W) (m : Result Message E) (result : Result Sent Cut) →
    part ≡ Head close → a.resolved.turn.quarters < 4 →
    a.kind ≡ out_kind_of (kind_of p) (depth_of p) q.quality →
    IfOk m (λ x. (image : Picture) → dim_of image ≡ turned_dim a.resolved.turn a.resolved.size →
    answer_of x ≡ written (Head close) (image_response s.base item.name a.canonical image a.kind)) →
    IfOk m (λ x. IsSent contents fails old new (answer_of x) result) →
    IfErr m (λ _. IsSent contents fails old new (written part want_of_memory) result) →
    (text : List ℕ) × Appends (contents old) (contents new) text ×
    Allowed s part gave (ReachesImageOf kept item q a p) ((before : W) × fails before new) text result
head_allowed s part close gave kept item q a p contents fails old new m result is few kind_is made sent memory =
    let asked = resolved_image p a.resolved in
    let g = given_of item q a p asked in
    told_allowed s part gave (ReachesImageOf kept item q a p) contents fails old new m result (response_of s (given g))
    (own (given g) (asked, record { sides = refl; same = λ k. refl }, refl), subst (λ (x : Part). HoldsFor s x (given g) 0) (sym is) refl)
    (IfOk-weaker m _ _
    (λ x f. f asked (resolved_sides p a.resolved few) ∙
    ap (λ (k : OutKind). written (Head close) (image_response s.base item.name a.canonical asked k)) kind_is
    ∙ ap (λ (y : Part). written y (response_of s (given g))) (sym is)) made) sent memory
