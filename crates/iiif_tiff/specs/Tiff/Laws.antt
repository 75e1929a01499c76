-- Laws of the definitions, each the contract of a function of this crate, and four files that were read by hand.
--
--   accepted   no check refuses the file
--   inverted   shown with WhiteIsZero in place of BlackIsZero
--   sample     a file of a few pixels, byte by byte, with the samples that it shows
use Rattle.std.specs.Prelude.{◌≡◌, ℕ, ◌-◌, List, [], ◌∷◌, None, true, false}
use Rattle.iiif_pixel.specs.Picture.{samples_of}
use Rattle.iiif_tiff.specs.Tiff.Limits.{IsReadable}
use Rattle.iiif_tiff.specs.Tiff.Image.{Scheme, scheme, white_of, width, height}
use Rattle.iiif_tiff.specs.Tiff.ShownPicture.{shown}
use Rattle.iiif_tiff.specs.Tiff.Refusals.{refusal_of}

-- Section 8, ImageWidth and ImageLength: a file that no check refuses has sides within the limits.
abbrev pub AcceptedIsReadable : Type 0
AcceptedIsReadable = (bytes : List ℕ) → refusal_of bytes ≡ None → IsReadable (record { w = width bytes; h = height bytes })

-- Section 8, PhotometricInterpretation: with WhiteIsZero, samples show the picture of BlackIsZero, counted down from white.
abbrev pub ShowsInverted : Type 0
ShowsInverted =
    (bytes : List ℕ) (s : Scheme) (x y k : ℕ) →
    shown bytes (record s { white_is_zero = true }) x y k ≡ white_of s.bits - shown bytes (record s { white_is_zero = false }) x y k

-- A little-endian file: 4 by 4 gray samples of 8 bits in one strip, BlackIsZero, and the directory behind them.
unfoldable pub gray_sample : List ℕ
gray_sample =
    73 ∷ 73 ∷ 42 ∷ 0 ∷ 24 ∷ 0 ∷ 0 ∷ 0
    ∷ 0 ∷ 10 ∷ 20 ∷ 30 ∷ 40 ∷ 50 ∷ 60 ∷ 70 ∷ 80 ∷ 90 ∷ 100 ∷ 110 ∷ 120 ∷ 130 ∷ 140 ∷ 150
    ∷ 9 ∷ 0
    ∷ 0 ∷ 1 ∷ 3 ∷ 0 ∷ 1 ∷ 0 ∷ 0 ∷ 0 ∷ 4 ∷ 0 ∷ 0 ∷ 0
    ∷ 1 ∷ 1 ∷ 3 ∷ 0 ∷ 1 ∷ 0 ∷ 0 ∷ 0 ∷ 4 ∷ 0 ∷ 0 ∷ 0
    ∷ 2 ∷ 1 ∷ 3 ∷ 0 ∷ 1 ∷ 0 ∷ 0 ∷ 0 ∷ 8 ∷ 0 ∷ 0 ∷ 0
    ∷ 3 ∷ 1 ∷ 3 ∷ 0 ∷ 1 ∷ 0 ∷ 0 ∷ 0 ∷ 1 ∷ 0 ∷ 0 ∷ 0
    ∷ 6 ∷ 1 ∷ 3 ∷ 0 ∷ 1 ∷ 0 ∷ 0 ∷ 0 ∷ 1 ∷ 0 ∷ 0 ∷ 0
    ∷ 17 ∷ 1 ∷ 4 ∷ 0 ∷ 1 ∷ 0 ∷ 0 ∷ 0 ∷ 8 ∷ 0 ∷ 0 ∷ 0
    ∷ 21 ∷ 1 ∷ 3 ∷ 0 ∷ 1 ∷ 0 ∷ 0 ∷ 0 ∷ 1 ∷ 0 ∷ 0 ∷ 0
    ∷ 22 ∷ 1 ∷ 3 ∷ 0 ∷ 1 ∷ 0 ∷ 0 ∷ 0 ∷ 4 ∷ 0 ∷ 0 ∷ 0
    ∷ 23 ∷ 1 ∷ 4 ∷ 0 ∷ 1 ∷ 0 ∷ 0 ∷ 0 ∷ 16 ∷ 0 ∷ 0 ∷ 0
    ∷ 0 ∷ 0 ∷ 0 ∷ 0
    ∷ []

-- A big-endian file: 10 by 2 bits in one strip, WhiteIsZero, the rows 1011000101 and 0000000011 padded to two bytes each,
-- and the directory behind them.
unfoldable pub bilevel_sample : List ℕ
bilevel_sample =
    77 ∷ 77 ∷ 0 ∷ 42 ∷ 0 ∷ 0 ∷ 0 ∷ 12
    ∷ 177 ∷ 64 ∷ 0 ∷ 192
    ∷ 0 ∷ 5
    ∷ 1 ∷ 0 ∷ 0 ∷ 3 ∷ 0 ∷ 0 ∷ 0 ∷ 1 ∷ 0 ∷ 10 ∷ 0 ∷ 0
    ∷ 1 ∷ 1 ∷ 0 ∷ 3 ∷ 0 ∷ 0 ∷ 0 ∷ 1 ∷ 0 ∷ 2 ∷ 0 ∷ 0
    ∷ 1 ∷ 6 ∷ 0 ∷ 3 ∷ 0 ∷ 0 ∷ 0 ∷ 1 ∷ 0 ∷ 0 ∷ 0 ∷ 0
    ∷ 1 ∷ 17 ∷ 0 ∷ 4 ∷ 0 ∷ 0 ∷ 0 ∷ 1 ∷ 0 ∷ 0 ∷ 0 ∷ 8
    ∷ 1 ∷ 23 ∷ 0 ∷ 4 ∷ 0 ∷ 0 ∷ 0 ∷ 1 ∷ 0 ∷ 0 ∷ 0 ∷ 4
    ∷ 0 ∷ 0 ∷ 0 ∷ 0
    ∷ []

-- A little-endian file: 2 by 1 gray samples of 16 bits, 515 and 65534, BlackIsZero.
unfoldable pub low_first_sample : List ℕ
low_first_sample =
    73 ∷ 73 ∷ 42 ∷ 0 ∷ 12 ∷ 0 ∷ 0 ∷ 0
    ∷ 3 ∷ 2 ∷ 254 ∷ 255
    ∷ 6 ∷ 0
    ∷ 0 ∷ 1 ∷ 3 ∷ 0 ∷ 1 ∷ 0 ∷ 0 ∷ 0 ∷ 2 ∷ 0 ∷ 0 ∷ 0
    ∷ 1 ∷ 1 ∷ 3 ∷ 0 ∷ 1 ∷ 0 ∷ 0 ∷ 0 ∷ 1 ∷ 0 ∷ 0 ∷ 0
    ∷ 2 ∷ 1 ∷ 3 ∷ 0 ∷ 1 ∷ 0 ∷ 0 ∷ 0 ∷ 16 ∷ 0 ∷ 0 ∷ 0
    ∷ 6 ∷ 1 ∷ 3 ∷ 0 ∷ 1 ∷ 0 ∷ 0 ∷ 0 ∷ 1 ∷ 0 ∷ 0 ∷ 0
    ∷ 17 ∷ 1 ∷ 4 ∷ 0 ∷ 1 ∷ 0 ∷ 0 ∷ 0 ∷ 8 ∷ 0 ∷ 0 ∷ 0
    ∷ 23 ∷ 1 ∷ 4 ∷ 0 ∷ 1 ∷ 0 ∷ 0 ∷ 0 ∷ 4 ∷ 0 ∷ 0 ∷ 0
    ∷ 0 ∷ 0 ∷ 0 ∷ 0
    ∷ []

-- A big-endian file of the samples of `low_first_sample`, WhiteIsZero.
unfoldable pub high_first_sample : List ℕ
high_first_sample =
    77 ∷ 77 ∷ 0 ∷ 42 ∷ 0 ∷ 0 ∷ 0 ∷ 12
    ∷ 2 ∷ 3 ∷ 255 ∷ 254
    ∷ 0 ∷ 6
    ∷ 1 ∷ 0 ∷ 0 ∷ 3 ∷ 0 ∷ 0 ∷ 0 ∷ 1 ∷ 0 ∷ 2 ∷ 0 ∷ 0
    ∷ 1 ∷ 1 ∷ 0 ∷ 3 ∷ 0 ∷ 0 ∷ 0 ∷ 1 ∷ 0 ∷ 1 ∷ 0 ∷ 0
    ∷ 1 ∷ 2 ∷ 0 ∷ 3 ∷ 0 ∷ 0 ∷ 0 ∷ 1 ∷ 0 ∷ 16 ∷ 0 ∷ 0
    ∷ 1 ∷ 6 ∷ 0 ∷ 3 ∷ 0 ∷ 0 ∷ 0 ∷ 1 ∷ 0 ∷ 0 ∷ 0 ∷ 0
    ∷ 1 ∷ 17 ∷ 0 ∷ 4 ∷ 0 ∷ 0 ∷ 0 ∷ 1 ∷ 0 ∷ 0 ∷ 0 ∷ 8
    ∷ 1 ∷ 23 ∷ 0 ∷ 4 ∷ 0 ∷ 0 ∷ 0 ∷ 1 ∷ 0 ∷ 0 ∷ 0 ∷ 4
    ∷ 0 ∷ 0 ∷ 0 ∷ 0
    ∷ []

-- The file is accepted, and shows these sides and these samples, row by row from the top.
abbrev pub ShowsSamples : List ℕ → ℕ → ℕ → List ℕ → Type 0
ShowsSamples bytes w h samples =
    (refusal_of bytes ≡ None) × (width bytes ≡ w) × (height bytes ≡ h) × (samples_of w h 1 (shown bytes (scheme bytes)) ≡ samples)

-- Each of the four files shows the samples that a person read in it.
abbrev pub SampleIsShown : Type 0
SampleIsShown =
    ShowsSamples gray_sample 4 4 (0 ∷ 10 ∷ 20 ∷ 30 ∷ 40 ∷ 50 ∷ 60 ∷ 70 ∷ 80 ∷ 90 ∷ 100 ∷ 110 ∷ 120 ∷ 130 ∷ 140 ∷ 150 ∷ [])
    × ShowsSamples bilevel_sample 10 2
    (0 ∷ 255 ∷ 0 ∷ 0 ∷ 255 ∷ 255 ∷ 255 ∷ 0 ∷ 255 ∷ 0 ∷ 255 ∷ 255 ∷ 255 ∷ 255 ∷ 255 ∷ 255 ∷ 255 ∷ 255 ∷ 0 ∷ 0 ∷ [])
    × ShowsSamples low_first_sample 2 1 (515 ∷ 65534 ∷ [])
    × ShowsSamples high_first_sample 2 1 (65020 ∷ 1 ∷ [])
