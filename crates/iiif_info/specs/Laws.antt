-- Laws of the information, which are the contracts of the functions of the module `laws`.
--
--   LastLevelIsLeast                where the scale factors end
--   SampleText, LargerSampleText    the text of an example
use Rattle.std.specs.Prelude.{◌≡◌, ℕ, ◌++◌, ◌*◌, ◌^◌, ◌<◌, ◌≤◌, true, false, codes}
use Rattle.iiif_info.specs.Information.{last_level, info_text}

-- one tile covers the side at the last level's scale, and at no scale before it
abbrev pub LastLevelIsLeast : Type 0
LastLevelIsLeast =
    (edge side : ℕ) → 0 < edge
    → (side ≤ edge * 2 ^ last_level edge side) × ((k : ℕ) → k < last_level edge side → edge * 2 ^ k < side)

-- the text of an image of 4 by 4 pixels with tiles of 2 by 2, where no result is larger than its region
abbrev pub SampleText : Type 0
SampleText =
    info_text (codes "http://localhost/iiif") (codes "a") (record { w = 4; h = 4 }) (record { max_w = 4096; max_h = 4096; upscale = false })
    2
    ≡ codes "{\"@context\":\"http://iiif.io/api/image/3/context.json\",\"extraFeatures\":[\"baseUriRedirect\","
    ++ codes "\"canonicalLinkHeader\",\"cors\",\"mirroring\",\"regionByPct\",\"regionByPx\",\"regionSquare\",\"rotationBy90s\","
    ++ codes "\"sizeByConfinedWh\",\"sizeByH\",\"sizeByPct\",\"sizeByW\",\"sizeByWh\"],\"extraFormats\":[\"tif\"],"
    ++ codes "\"extraQualities\":[\"bitonal\",\"color\",\"gray\"],\"height\":4,\"id\":\"http://localhost/iiif/a\","
    ++ codes "\"maxHeight\":4096,\"maxWidth\":4096,\"preferredFormats\":[\"tif\"],\"profile\":\"level0\","
    ++ codes "\"protocol\":\"http://iiif.io/api/image\",\"tiles\":[{\"height\":2,\"scaleFactors\":[1,2],\"width\":2}],"
    ++ codes "\"type\":\"ImageService3\",\"width\":4}"

-- the text of the same image where results may be larger than their regions
abbrev pub LargerSampleText : Type 0
LargerSampleText =
    info_text (codes "http://localhost/iiif") (codes "a") (record { w = 4; h = 4 }) (record { max_w = 4096; max_h = 4096; upscale = true })
    2
    ≡ codes "{\"@context\":\"http://iiif.io/api/image/3/context.json\",\"extraFeatures\":[\"baseUriRedirect\","
    ++ codes "\"canonicalLinkHeader\",\"cors\",\"mirroring\",\"regionByPct\",\"regionByPx\",\"regionSquare\",\"rotationBy90s\","
    ++ codes "\"sizeByConfinedWh\",\"sizeByH\",\"sizeByPct\",\"sizeByW\",\"sizeByWh\",\"sizeUpscaling\"],"
    ++ codes "\"extraFormats\":[\"tif\"],\"extraQualities\":[\"bitonal\",\"color\",\"gray\"],\"height\":4,"
    ++ codes "\"id\":\"http://localhost/iiif/a\",\"maxHeight\":4096,\"maxWidth\":4096,\"preferredFormats\":[\"tif\"],"
    ++ codes "\"profile\":\"level0\",\"protocol\":\"http://iiif.io/api/image\",\"tiles\":[{\"height\":2,\"scaleFactors\":[1,2],"
    ++ codes "\"width\":2}],\"type\":\"ImageService3\",\"width\":4}"
