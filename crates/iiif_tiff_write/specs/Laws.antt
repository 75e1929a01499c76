-- Laws of written files, which are the contracts of the functions of the module `laws`.
--
--   StripOfNoRows, StripOfMoreRows, StripOfAllRows, StripOfBands      a strip is made of the strips of bands
--   ResultsFit, LengthsFit                                            how long a file can be
--   ResolutionsStand                                                  where the resolutions stand
--   FileIsAccepted, FileShowsPicture, BitsShowBitonal                 what a reader makes of a file
use Rattle.std.specs.Prelude.{◌≡◌, ℕ, ◌+◌, ◌<◌, ◌≤◌, ◌^◌, List, [], ◌++◌, None, sum, take, drop}
use Rattle.std.specs.List.{flat_map}
use Rattle.iiif_pixel.specs.declared.geometry.Dim.{Dim}
use Rattle.iiif_pixel.specs.Picture.{Picture, dim_of}
use Rattle.iiif_pixel.specs.Operations.{bitonal}
use Rattle.iiif_tiff.specs.Tiff.{IsReadable, refusal_of, Shows}
use Rattle.iiif_tiff_write.specs.OutKind.{samples_per_pixel}
use Rattle.iiif_tiff_write.specs.File.{file, file_len, rational, strip}
use Rattle.iiif_tiff_write.specs.Reading.{Holds}
use Rattle.iiif_tiff_write.specs.Bands.{band, bands}
use Rattle.iiif_tiff_write.specs.declared.kind.OutKind.{OutKind}
use Rattle.iiif_tiff_write.specs.declared.kind.OutKind.TheVariants.{Bitonal}

-- ---- Bands

-- the strip of a band without rows is empty
abbrev pub StripOfNoRows : Type 0
StripOfNoRows = (p : Picture) (kind : OutKind) (y : ℕ) → strip kind (band p y 0) ≡ []

-- the strip of m + n rows is that of the first m rows, and then that of the n rows below them
abbrev pub StripOfMoreRows : Type 0
StripOfMoreRows =
    (p : Picture) (kind : OutKind) (y m n : ℕ) → p.channels ≡ samples_per_pixel kind →
    strip kind (band p y (m + n)) ≡ strip kind (band p y m) ++ strip kind (band p (y + m) n)

-- the strip of the band of all rows is the strip of the picture
abbrev pub StripOfAllRows : Type 0
StripOfAllRows = (p : Picture) (kind : OutKind) → p.channels ≡ samples_per_pixel kind → strip kind (band p 0 p.height) ≡ strip kind p

-- the strips of bands that cover a picture, one after another, are its strip
abbrev pub StripOfBands : Type 0
StripOfBands =
    (p : Picture) (kind : OutKind) (heights : List ℕ) → p.channels ≡ samples_per_pixel kind → sum heights ≡ p.height →
    flat_map (strip kind) (bands p 0 heights) ≡ strip kind p

-- ---- Lengths

-- the file of a picture of at most 16,384 by 16,384 pixels is shorter than 2^32 bytes
abbrev pub ResultsFit : Type 0
ResultsFit = (kind : OutKind) (dim : Dim) → dim.w ≤ 16384 → dim.h ≤ 16384 → file_len kind dim < 2 ^ 32

-- the length of the file of a picture of at most 1,000,000 by 1,000,000 pixels fits 64 bits
abbrev pub LengthsFit : Type 0
LengthsFit = (kind : OutKind) (dim : Dim) → dim.w ≤ 1000000 → dim.h ≤ 1000000 → file_len kind dim < 2 ^ 64

-- ---- Values outside of the directory

-- TIFF 6.0, section 8, XResolution and YResolution: the rational 1/1 stands at the offset of each entry
abbrev pub ResolutionsStand : Type 0
ResolutionsStand =
    (p : Picture) (kind : OutKind) → (take 8 (drop 158 (file p kind)) ≡ rational 1 1) × (take 8 (drop 166 (file p kind)) ≡ rational 1 1)

-- ---- Reading back

-- no check of a reader refuses a file that is shorter than 2^32 bytes
abbrev pub FileIsAccepted : Type 0
FileIsAccepted =
    (p : Picture) (kind : OutKind) → IsReadable (dim_of p) → file_len kind (dim_of p) < 2 ^ 32 → refusal_of (file p kind) ≡ None

-- a file shows the picture that it was written from, where its kind holds that picture
abbrev pub FileShowsPicture : Type 0
FileShowsPicture =
    (p : Picture) (kind : OutKind) → IsReadable (dim_of p) → file_len kind (dim_of p) < 2 ^ 32 → Holds kind p → Shows (file p kind) p

-- a file of bits of any gray picture shows that picture in black and white
abbrev pub BitsShowBitonal : Type 0
BitsShowBitonal =
    (p : Picture) → IsReadable (dim_of p) → file_len Bitonal (dim_of p) < 2 ^ 32 → p.channels ≡ 1 → Shows (file p Bitonal) (bitonal p)
