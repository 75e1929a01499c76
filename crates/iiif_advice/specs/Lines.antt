-- Lines of text that say what is wrong with a file, and what to do.
use Rattle.std.specs.Prelude.{ℕ, Bool, ◌&&◌, List, codes, nat_eq, nat_lt, if◌then◌else◌}
use Rattle.iiif_tiff.specs.Tiff.Tags.{BitsPerSample, Compression, PhotometricInterpretation, FillOrder, Orientation, SamplesPerPixel}
use Rattle.iiif_tiff.specs.Tiff.Tags.{PlanarConfiguration, ExtraSamples, SampleFormat}
use Rattle.iiif_tiff_read.specs.declared.fault.OpenFault.{OpenFault}
use Rattle.iiif_tiff_read.specs.declared.fault.OpenFault.TheVariants as opens

-- visible ASCII, or a space
abbrev pub is_line_byte : ℕ → Bool
is_line_byte b = nat_lt 31 b && nat_lt b 127

-- the field of this tag by its name and number, where its value is one that isn't read (TIFF 6.0, sections 8, 18 and 19)
abbrev pub field_of : ℕ → List ℕ
field_of tag =
    if nat_eq tag BitsPerSample then codes "BitsPerSample (258): " else (
    if nat_eq tag Compression then codes "Compression (259): " else (
    if nat_eq tag PhotometricInterpretation then codes "PhotometricInterpretation (262): " else (
    if nat_eq tag FillOrder then codes "FillOrder (266): " else (
    if nat_eq tag Orientation then codes "Orientation (274): " else (
    if nat_eq tag SamplesPerPixel then codes "SamplesPerPixel (277): " else (
    if nat_eq tag PlanarConfiguration then codes "PlanarConfiguration (284): " else (
    if nat_eq tag ExtraSamples then codes "ExtraSamples (338): " else (
    if nat_eq tag SampleFormat then codes "SampleFormat (339): " else
    codes "a field has a value that isn't read: "))))))))

-- what is wrong with the file, in the words that the line begins with
abbrev pub cause_of : OpenFault → List ℕ
cause_of opens.NotTiff = codes "it is no TIFF file "
cause_of opens.Truncated = codes "it ends too early: "
cause_of (opens.Missing tag) =
    if nat_eq tag PhotometricInterpretation then codes "PhotometricInterpretation (262): " else
    codes "it lacks a field that it needs: "
cause_of (opens.Unsupported tag) = field_of tag
cause_of (opens.BadField tag) = codes "a field is wrong, or the file is sparse: "
cause_of opens.TooLarge = codes "it is too large, or has too many tiles: "
cause_of (opens.Source f) = codes "a read failed: "
cause_of opens.NoMemory = codes "memory was refused: "
