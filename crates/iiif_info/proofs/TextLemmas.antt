-- The text of the information, whose value has no floats.
use Rattle.std.proofs.Common.{◌≡◌, ℕ, false, List, [], ◌∷◌, map, refl, ap, ◌∙◌, Result, Ok, Err, IfOk}
use Rattle.serde_json.specs.Data.{Data, string}
use Rattle.serde_json.specs.View.{items_of}
use Rattle.serde_json.specs.Written.{items_have_float, has_float, compact_text}
use Rattle.iiif_pixel.specs.declared.geometry.Dim.{Dim}
use Rattle.iiif_pixel.proofs.Parts.{same_dim}
use Rattle.iiif_canonical.specs.declared.resolved.Limits.{Limits}
use Rattle.iiif_canonical.specs.Texts.{image_uri_of}
use Rattle.iiif_info.specs.Information.{scale_factors, tiles, integer, information, info_text}
use Rattle.std.specs.Prelude.{max, codes, if◌then◌else◌}

-- Integers are no floats.
integers_have_no_float : (ns : List ℕ) → items_have_float (items_of (map integer ns)) ≡ false
integers_have_no_float [] = refl
integers_have_no_float (n ∷ ns) = integers_have_no_float ns

-- Strings are no floats.
strings_have_no_float : (words : List (List ℕ)) → items_have_float (items_of (map string words)) ≡ false
strings_have_no_float [] = refl
strings_have_no_float (w ∷ words) = strings_have_no_float words

-- The information has no floats.
information_has_no_float : (id : List ℕ) (d : Dim) (l : Limits) (edge : ℕ) → has_float (information id d l edge) ≡ false
unfolding information tiles
information_has_no_float id d l edge =
    let extra = if l.upscale then codes "sizeUpscaling" ∷ [] else [] in
    rw (strings_have_no_float extra, integers_have_no_float (scale_factors edge (max d.w d.h))) refl

-- The value is of the sides and of the edge of tiles by their numbers alone.
pub information_same : (value : Data) (uri : List ℕ) (d e : Dim) (l : Limits) (m n : ℕ)
    → value ≡ information uri d l m → d.w ≡ e.w → d.h ≡ e.h → m ≡ n → value ≡ information uri e l n
information_same value uri d e l m n is w h edge =
    is ∙ ap (λ (s : Dim). information uri s l m) (same_dim d e w h) ∙ ap (λ (k : ℕ). information uri e l k) edge

-- The text that is written of the information's value is the text of the information.
pub text_written : {X E : Type 0} (bytes : X → List ℕ) (written : Result X E) (value : Data) (shown uri base id : List ℕ) (d : Dim)
    (l : Limits) (edge : ℕ)
    → value ≡ information shown d l edge → shown ≡ uri → uri ≡ image_uri_of base id
    → IfOk written (λ s. has_float value ≡ false → bytes s ≡ compact_text value)
    → IfOk written (λ s. bytes s ≡ info_text base id d l edge)
unfolding info_text
text_written bytes (Ok s) value shown uri base id d l edge is same named text =
    let all : value ≡ information (image_uri_of base id) d l edge = is ∙ ap (λ (t : List ℕ). information t d l edge) (same ∙ named) in
    text (ap has_float all ∙ information_has_no_float (image_uri_of base id) d l edge) ∙ ap compact_text all
text_written bytes (Err _) value shown uri base id d l edge is same named text = tt
