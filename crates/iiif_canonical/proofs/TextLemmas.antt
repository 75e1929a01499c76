-- Text and URI of a request: the text spells it, and the URI leads to it.
use Rattle.std.proofs.Common.{◌≡◌, ◌≢◌, ℕ, inl, inr, List, [], ◌∷◌, ◌++◌, refl, sym, ap, subst, ◌∙◌, arith, append_assoc}
use Rattle.std.specs.Prelude.{codes, All, IsUtf8, true, not, ◌==◌}
use Rattle.std.specs.List.{join_with_byte, list_all}
use Rattle.std.proofs.lemmas.Bool.Decides.{nat_tests}
use Rattle.std.proofs.lemmas.List.{append-nil}
use Rattle.std.proofs.lemmas.List.Elements.{All-nil, All-cons, All-append}
use Rattle.percent_encoding.proofs.PercentLemmas.{IsByte}
use Rattle.iiif_pixel.specs.declared.geometry.Quality.{Quality}
use Rattle.iiif_pixel.specs.declared.geometry.Quality.TheVariants.{Default, Color, Gray, Bitonal}
use Rattle.iiif_request.specs.Spells.{mark}
use Rattle.iiif_request.specs.Targets.{Lacks, IsSegmentOf, IsCut, image, AsksFor}
use Rattle.iiif_request.specs.declared.request.Request.{Request}
use Rattle.iiif_canonical.specs.Escapes.{escaped}
use Rattle.iiif_canonical.specs.Texts.{region_text, form_text, size_text, rotation_text, quality_text, text_of, image_uri_of, uri_of}
use Rattle.iiif_canonical.specs.Texts.{CanBeSpelled, IsTextOf, LeadsTo}
use Rattle.iiif_canonical.proofs.EscapeLemmas.{escaped_lacks_slash, escaped_lacks_query, escaped_decodes}
use Rattle.iiif_canonical.proofs.PlainTexts.{all_from, region_plain, form_plain, rotation_plain, last_plain, plain_lacks, plain_segment}
use Rattle.iiif_canonical.proofs.PlainTexts.{size_segment, size_lacks}
use Rattle.iiif_canonical.proofs.SpellingLemmas.{IsSpellable, spellable, words_of, spelled}

-- the last segment, and what it stands for
abbrev last_text : Quality → List ℕ
last_text q = quality_text q ++ codes ".tif"

last_segment : (q : Quality) → IsSegmentOf (last_text q) (quality_text q ++ codes "." ++ codes "tif")
last_segment q =
    subst (λ (t : List ℕ). IsSegmentOf (last_text q) t) (sym (append_assoc (quality_text q) (codes ".") (codes "tif")))
    (plain_segment (last_text q) (last_plain q))

text_joined : (q : Request) → text_of q ≡ region_text q.region ++ codes "/" ++ size_text q.size ++ codes "/" ++ rotation_text q.rotation ++
    codes "/" ++ last_text q.quality
unfolding text_of
text_joined q =
    append_assoc (region_text q.region ++ codes "/" ++ size_text q.size ++ codes "/" ++ rotation_text q.rotation ++ codes "/")
    (quality_text q.quality) (codes ".tif")

text_of_is_text : (q : Request) → IsSpellable q → IsTextOf q (text_of q)
text_of_is_text q is =
    let region = region_plain q.region is.small.region in
    let form = form_plain q.size.form is.small.size in
    let rotation = rotation_plain q.rotation is.small.degrees in
    let last = last_plain q.quality in
    record {
      region = region_text q.region;
      size = size_text q.size;
      rotation = rotation_text q.rotation;
      last = last_text q.quality;
      words = words_of q;
      joined = text_joined q;
      parted = (
        plain_lacks 47 (inr (inl refl)) (region_text q.region) region,
        size_lacks 47 (inl refl) q.size.up (form_text q.size.form) form,
        plain_lacks 47 (inr (inl refl)) (rotation_text q.rotation) rotation,
        plain_lacks 47 (inr (inl refl)) (last_text q.quality) last,
      );
      region_decoded = plain_segment (region_text q.region) region;
      size_decoded = size_segment q.size.up (form_text q.size.form) form;
      rotation_decoded = plain_segment (rotation_text q.rotation) rotation;
      last_decoded = last_segment q.quality;
      spells = spelled q is;
    }

-- A request's text spells the request.
pub text_of_spells : (q : Request) (text : List ℕ) → CanBeSpelled q → text ≡ text_of q → IsTextOf q text
text_of_spells q text can is = subst (λ (t : List ℕ). IsTextOf q t) (sym is) (text_of_is_text q (spellable q can))

-- no `.` stands in a quality
no_point : (text : List ℕ) → list_all (λ b. not (b == 46)) text ≡ true → Lacks 46 text
no_point text all = all_from (λ b. b ≢ 46) (λ b. not (b == 46)) (λ b other. λ same. grind (arith, nat_tests)) text all

quality_lacks : (q : Quality) → Lacks 46 (quality_text q)
quality_lacks Default = no_point (codes "default") refl
quality_lacks Color = no_point (codes "color") refl
quality_lacks Gray = no_point (codes "gray") refl
quality_lacks Bitonal = no_point (codes "bitonal") refl

segments_of : List ℕ → Request → List (List ℕ)
segments_of id q = escaped id ∷ region_text q.region ∷ size_text q.size ∷ rotation_text q.rotation ∷ last_text q.quality ∷ []

path_of : List ℕ → List ℕ → Request → List ℕ
path_of prefix id q = prefix ++ codes "/" ++ join_with_byte 47 (segments_of id q)

-- a byte that neither piece has, with a `/` between
between : (a b : List ℕ) → Lacks 63 a → Lacks 63 b → Lacks 63 (a ++ (47 ∷ b))
between a b la lb =
    All-append (λ x. x ≢ 63) a (47 ∷ b) la (All-cons (λ x. x ≢ 63) 47 b (λ same. absurd (omega arith)) lb)

path_lacks : (prefix id : List ℕ) (q : Request) → IsSpellable q → Lacks 63 prefix → Lacks 63 (path_of prefix id q)
unfolding path_of segments_of
path_lacks prefix id q is prefix_lacks =
    let region = plain_lacks 63 (inr (inr refl)) (region_text q.region) (region_plain q.region is.small.region) in
    let size = size_lacks 63 (inr refl) q.size.up (form_text q.size.form) (form_plain q.size.form is.small.size) in
    let rotation = plain_lacks 63 (inr (inr refl)) (rotation_text q.rotation) (rotation_plain q.rotation is.small.degrees) in
    let last = plain_lacks 63 (inr (inr refl)) (last_text q.quality) (last_plain q.quality) in
    let turned = between (rotation_text q.rotation) (last_text q.quality) rotation last in
    let sized = between (size_text q.size) (rotation_text q.rotation ++ (47 ∷ last_text q.quality)) size turned in
    let cropped = between (region_text q.region) (size_text q.size ++ (47 ∷ (rotation_text q.rotation ++ (47 ∷ last_text q.quality))))
    region sized in
    let named = between (escaped id) (region_text q.region ++
    (47 ∷ (size_text q.size ++ (47 ∷ (rotation_text q.rotation ++ (47 ∷ last_text q.quality)))))) (escaped_lacks_query id) cropped in
    let slash : prefix ++ codes "/" ++ join_with_byte 47 (segments_of id q) ≡ prefix ++ (47 ∷ join_with_byte 47 (segments_of id q)) =
    append_assoc prefix (codes "/") (join_with_byte 47 (segments_of id q)) in
    subst (Lacks 63) (sym slash) (between prefix (join_with_byte 47 (segments_of id q)) prefix_lacks named)

segments_part : (id : List ℕ) (q : Request) → IsSpellable q → All (Lacks 47) (segments_of id q)
unfolding segments_of
segments_part id q is =
    All-cons (Lacks 47) (escaped id) (region_text q.region ∷ size_text q.size ∷ rotation_text q.rotation ∷ last_text q.quality ∷ [])
    (escaped_lacks_slash id)
    (All-cons (Lacks 47) (region_text q.region) (size_text q.size ∷ rotation_text q.rotation ∷ last_text q.quality ∷ [])
    (plain_lacks 47 (inr (inl refl)) (region_text q.region) (region_plain q.region is.small.region))
    (All-cons (Lacks 47) (size_text q.size) (rotation_text q.rotation ∷ last_text q.quality ∷ [])
    (size_lacks 47 (inl refl) q.size.up (form_text q.size.form) (form_plain q.size.form is.small.size))
    (All-cons (Lacks 47) (rotation_text q.rotation) (last_text q.quality ∷ [])
    (plain_lacks 47 (inr (inl refl)) (rotation_text q.rotation) (rotation_plain q.rotation is.small.degrees))
    (All-cons (Lacks 47) (last_text q.quality) [] (plain_lacks 47 (inr (inl refl)) (last_text q.quality) (last_plain q.quality))
    (All-nil (Lacks 47))))))

-- a base is an origin and a prefix: the URI is the origin and the path
regrouped : (o p e r s t l : List ℕ)
    → o ++ p ++ codes "/" ++ e ++ codes "/" ++ (r ++ codes "/" ++ s ++ codes "/" ++ t ++ codes "/" ++ l)
    ≡ o ++ (p ++ codes "/" ++ (e ++ (47 ∷ (r ++ (47 ∷ (s ++ (47 ∷ (t ++ (47 ∷ l)))))))))
regrouped o p e r s t l = simp append_assoc

leads : (base id : List ℕ) (q : Request) → IsSpellable q → All IsByte id → IsUtf8 id → id ≢ [] → LeadsTo base id q (uri_of base id q)
unfolding uri_of image_uri_of path_of segments_of
leads base id q is bytes utf8 some origin prefix parts no_query =
    let path = path_of prefix id q in
    let cut : IsCut prefix path (segments_of id q) = record {
      path = path;
      query = [];
      whole = sym (append-nil path);
      path_ends = path_lacks prefix id q is no_query;
      query_begins = inl refl;
      joined = refl;
      some = omega arith;
      parted = segments_part id q is;
    } in
    let asks : AsksFor prefix path (image id (words_of q)) = record {
      raw = segments_of id q;
      segments = id ∷ region_text q.region ∷ (mark q.size.up (codes "^") ++ form_text q.size.form) ∷ rotation_text q.rotation ∷
          (quality_text q.quality ++ codes "." ++ codes "tif") ∷ [];
      cut = cut;
      decoded = (
        (escaped_decodes id bytes, utf8),
        (
          plain_segment (region_text q.region) (region_plain q.region is.small.region),
          (
            size_segment q.size.up (form_text q.size.form) (form_plain q.size.form is.small.size),
            (
              plain_segment (rotation_text q.rotation) (rotation_plain q.rotation is.small.degrees),
              (last_segment q.quality, tt),
            ),
          ),
        ),
      );
      asked = (quality_text q.quality ++ codes "." ++ codes "tif", (quality_lacks q.quality, inl refl), refl, some);
    } in
    let whole : uri_of base id q ≡ origin ++ path =
    ap (λ (b : List ℕ). b ++ codes "/" ++ escaped id ++ codes "/" ++ text_of q) parts
    ∙ ap (λ (t : List ℕ). origin ++ prefix ++ codes "/" ++ escaped id ++ codes "/" ++ t) (text_joined q)
    ∙ regrouped origin prefix (escaped id) (region_text q.region) (size_text q.size) (rotation_text q.rotation) (last_text q.quality) in
    (path, whole, (words_of q, asks, spelled q is))

-- A request's URI leads to its image.
pub uri_of_leads : (base id : List ℕ) (q : Request) (uri : List ℕ) → CanBeSpelled q → All IsByte id → IsUtf8 id → id ≢ [] →
    uri ≡ uri_of base id q → LeadsTo base id q uri
uri_of_leads base id q uri can bytes utf8 some is =
    subst (λ (t : List ℕ). LeadsTo base id q t) (sym is) (leads base id q (spellable q can) bytes utf8 some)
