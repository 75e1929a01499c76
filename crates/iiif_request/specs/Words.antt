-- Words of an image request as texts (IIIF Image API 3.0, section 2.1).
--
-- `texts words`: the five words as lists of bytes, which the definitions speak of.
use Rattle.std.specs.Prelude.{string_bytes}
use Rattle.iiif_request.specs.declared.target.Words.{Words}
use Rattle.iiif_request.specs.Spells.{Texts}

-- section 2.1: region, size, rotation, quality and format, each as its bytes
abbrev pub texts : Words → Texts
texts w = record {
  region = string_bytes w.region;
  size = string_bytes w.size;
  rotation = string_bytes w.rotation;
  quality = string_bytes w.quality;
  format = string_bytes w.format;
}
