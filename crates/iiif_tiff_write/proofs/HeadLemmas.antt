-- The head as the code writes it: one piece after another.
use Rattle.std.proofs.Common.{◌≡◌, List, ℕ, [], ◌++◌, refl}
use Rattle.std.specs.Int.{w16, w32, to_le_bytes}
use Rattle.iiif_pixel.specs.declared.geometry.Dim.{Dim}
use Rattle.iiif_tiff_write.specs.OutKind.{samples_per_pixel}
use Rattle.iiif_tiff.specs.Tiff.{ImageWidth, ImageLength, Compression, PhotometricInterpretation, StripOffsets, SamplesPerPixel}
use Rattle.iiif_tiff.specs.Tiff.{RowsPerStrip, StripByteCounts, XResolution, YResolution, ResolutionUnit}
use Rattle.iiif_tiff_write.specs.File.{head_of, header, outside, entry_bytes, long_field, short_field, rational_field_at, bits_per_sample}
use Rattle.iiif_tiff_write.specs.File.{photometric, strip_offset, strip_len}
use Rattle.iiif_tiff_write.specs.declared.kind.OutKind.{OutKind}
use Rattle.iiif_tiff_write.specs.declared.kind.OutKind.TheVariants.{Gray, Rgb, Bitonal, Gray16, Rgb16}

-- the pieces, in the order in which they are appended
abbrev pub pieces : OutKind → Dim → List ℕ
pieces k d =
    []
    ++ header
    ++ to_le_bytes w16 12
    ++ entry_bytes (long_field ImageWidth d.w)
    ++ entry_bytes (long_field ImageLength d.h)
    ++ entry_bytes (bits_per_sample k)
    ++ entry_bytes (short_field Compression 1)
    ++ entry_bytes (short_field PhotometricInterpretation (photometric k))
    ++ entry_bytes (long_field StripOffsets (strip_offset k))
    ++ entry_bytes (short_field SamplesPerPixel (samples_per_pixel k))
    ++ entry_bytes (long_field RowsPerStrip d.h)
    ++ entry_bytes (long_field StripByteCounts (strip_len k d))
    ++ entry_bytes (rational_field_at XResolution 158)
    ++ entry_bytes (rational_field_at YResolution 166)
    ++ entry_bytes (short_field ResolutionUnit 1)
    ++ to_le_bytes w32 0
    ++ outside k

-- The pieces, one after another, are the head.
pub pieces_are : (k : OutKind) (d : Dim) → pieces k d ≡ head_of k d
unfolding head_of
pieces_are Gray d = refl
pieces_are Rgb d = refl
pieces_are Bitonal d = refl
pieces_are Gray16 d = refl
pieces_are Rgb16 d = refl
