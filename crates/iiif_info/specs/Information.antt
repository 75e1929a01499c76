-- The information about an image, as JSON (IIIF Image API 3.0, section 5). Sections are those of this standard.
--
--   info_text base id d l edge      the text of the information
--   information uri d l edge        the information as a JSON value
--   features l                      the features that a server with limits l has
--   tiles edge side                 the description of the tiles, for the longer side of an image
--   scale_factors edge side         the scale factors at which there are tiles
--   last_level edge side            the exponent of the last scale factor
--   integer, integers, strings      JSON values: a number, and arrays
use Rattle.std.specs.Prelude.{ℕ, ◌+◌, ◌*◌, ◌^◌, max, List, [], ◌∷◌, codes, map, nat_le, if◌then◌else◌}
use Rattle.std.specs.List.{position_or_len, range_with_len}
use Rattle.serde_json.specs.Data.{Data, number, unsigned, string, array, object, no_items, item, no_members, member}
use Rattle.serde_json.specs.View.{items_of}
use Rattle.serde_json.specs.Written.{compact_text}
use Rattle.iiif_pixel.specs.declared.geometry.Dim.{Dim}
use Rattle.iiif_canonical.specs.declared.resolved.Limits.{Limits}
use Rattle.iiif_canonical.specs.Texts.{image_uri_of}

-- Section 5.4: the least k at which one tile, scaled by 2 ^ k, covers the side. It is at most the side.
unfoldable pub last_level : ℕ → ℕ → ℕ
last_level edge side = position_or_len (λ k. nat_le side (edge * 2 ^ k)) (range_with_len 0 side)

-- Section 5.4, scaleFactors: the powers of two from 2 ^ 0 to that of the last level.
unfoldable pub scale_factors : ℕ → ℕ → List ℕ
scale_factors edge side = map (λ k. 2 ^ k) (range_with_len 0 (last_level edge side + 1))

-- a number without a fraction
abbrev pub integer : ℕ → Data
integer n = number (unsigned n)

-- an array of them
abbrev pub integers : List ℕ → Data
integers ns = array (items_of (map integer ns))

-- an array of strings
abbrev pub strings : List (List ℕ) → Data
strings words = array (items_of (map string words))

-- Section 5.4, tiles: squares of one edge, at all scale factors.
unfoldable pub tiles : ℕ → ℕ → Data
tiles edge side = array (item (object (
    member (codes "height") (integer edge) (
    member (codes "scaleFactors") (integers (scale_factors edge side)) (
    member (codes "width") (integer edge) no_members)))) no_items)

-- Section 5.7, extraFeatures: those beyond level 0. The last one stands only where a size with `^` may be above its region's.
abbrev pub features : Limits → List (List ℕ)
features l =
    codes "baseUriRedirect" ∷ codes "canonicalLinkHeader" ∷ codes "cors" ∷ codes "mirroring" ∷ codes "regionByPct"
    ∷ codes "regionByPx" ∷ codes "regionSquare" ∷ codes "rotationBy90s" ∷ codes "sizeByConfinedWh" ∷ codes "sizeByH"
    ∷ codes "sizeByPct" ∷ codes "sizeByW" ∷ codes "sizeByWh" ∷ (if l.upscale then codes "sizeUpscaling" ∷ [] else [])

-- Sections 5.2 to 5.7: the members, in the order of their keys, of an image with this URI and these sides in pixels, where
-- results are limited by l and tiles have this edge.
unfoldable pub information : List ℕ → Dim → Limits → ℕ → Data
information uri d l edge = object (
    member (codes "@context") (string (codes "http://iiif.io/api/image/3/context.json")) (
    member (codes "extraFeatures") (strings (features l)) (
    member (codes "extraFormats") (strings (codes "tif" ∷ [])) (
    member (codes "extraQualities") (strings (codes "bitonal" ∷ codes "color" ∷ codes "gray" ∷ [])) (
    member (codes "height") (integer d.h) (
    member (codes "id") (string uri) (
    member (codes "maxHeight") (integer l.max_h) (
    member (codes "maxWidth") (integer l.max_w) (
    member (codes "preferredFormats") (strings (codes "tif" ∷ [])) (
    member (codes "profile") (string (codes "level0")) (
    member (codes "protocol") (string (codes "http://iiif.io/api/image")) (
    member (codes "tiles") (tiles edge (max d.w d.h)) (
    member (codes "type") (string (codes "ImageService3")) (
    member (codes "width") (integer d.w) no_members))))))))))))))

-- Section 5.1: the text of the information about the image of that name, without white space between its tokens.
unfoldable pub info_text : List ℕ → List ℕ → Dim → Limits → ℕ → List ℕ
info_text base id d l edge = compact_text (information (image_uri_of base id) d l edge)
