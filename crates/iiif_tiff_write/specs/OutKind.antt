-- Kinds of files, and the kind that a request's quality asks for.
--
--   kind_of source depth            the kind that stores samples of this kind and depth unchanged
--   out_kind_of source depth q      the kind for such a picture in quality q
--   samples_per_pixel kind          the samples of a pixel
--   out_depth kind                  the depth of the pictures that a file is written from
use Rattle.std.specs.Prelude.{ℕ}
use Rattle.iiif_pixel.specs.declared.geometry.Depth.{Depth}
use Rattle.iiif_pixel.specs.declared.geometry.Depth.TheVariants.{Eight, Sixteen}
use Rattle.iiif_pixel.specs.declared.geometry.Kind.{Kind}
use Rattle.iiif_pixel.specs.declared.geometry.Kind.TheVariants as source
use Rattle.iiif_pixel.specs.declared.geometry.Quality.{Quality}
use Rattle.iiif_pixel.specs.declared.geometry.Quality.TheVariants as quality
use Rattle.iiif_tiff_write.specs.declared.kind.OutKind.{OutKind}
use Rattle.iiif_tiff_write.specs.declared.kind.OutKind.TheVariants.{Gray, Rgb, Bitonal, Gray16, Rgb16}

-- TIFF 6.0, sections 4, 6 and 8: a file stores gray as gray and RGB as RGB, in as many bits as the picture has.
abbrev pub kind_of : Kind → Depth → OutKind
kind_of source.Gray Eight = Gray
kind_of source.Rgb Eight = Rgb
kind_of source.Gray Sixteen = Gray16
kind_of source.Rgb Sixteen = Rgb16

-- IIIF Image API 3.0, 4.4: `default` and `color` keep the colour of the source, `gray` is grayscale, `bitonal` is black and
-- white. All but `bitonal` keep the depth.
abbrev pub out_kind_of : Kind → Depth → Quality → OutKind
out_kind_of k d quality.Default = kind_of k d
out_kind_of k d quality.Color = kind_of k d
out_kind_of k d quality.Gray = kind_of source.Gray d
out_kind_of k d quality.Bitonal = Bitonal

-- TIFF 6.0, sections 4 and 6, SamplesPerPixel: one in grayscale and bilevel files, three in RGB files.
abbrev pub samples_per_pixel : OutKind → ℕ
samples_per_pixel Gray = 1
samples_per_pixel Rgb = 3
samples_per_pixel Bitonal = 1
samples_per_pixel Gray16 = 1
samples_per_pixel Rgb16 = 3

-- TIFF 6.0, section 8, BitsPerSample: the depth of the picture. A bilevel file is written from black and white in 8 bits.
abbrev pub out_depth : OutKind → Depth
out_depth Gray = Eight
out_depth Rgb = Eight
out_depth Bitonal = Eight
out_depth Gray16 = Sixteen
out_depth Rgb16 = Sixteen
