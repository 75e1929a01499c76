-- A file that no check refuses shows the picture that is made of its samples, place by place: so that the picture can be computed.
use Rattle.std.proofs.Common.{◌≡◌, ℕ, ◌≤◌, true, List, [], ◌∷◌, All, None, refl}
use Rattle.std.specs.Prelude.{nat_le}
use Rattle.std.specs.List.{list_all}
use Rattle.std.proofs.lemmas.Bool.{and_parts, leb-true}
use Rattle.std.proofs.lemmas.List.Elements.{All-nil, All-cons}
use Rattle.iiif_pixel.specs.Picture.{Picture, picture_of}
use Rattle.iiif_pixel.proofs.SampleLists.{sample_at-picture_of}
use Rattle.iiif_pixel.proofs.Whole.{whole_picture_of}
use Rattle.iiif_tiff.specs.Tiff.{Shows, bits, channels, height, refusal_of, scheme, shown, white_of, width}
use Rattle.iiif_tiff.proofs.OnePicture.{shown-le, white_is}
use Rattle.iiif_tiff.proofs.Passing.{channels_pass}

-- bytes that are tested are below 256
all_bytes : (bytes : List ℕ) → list_all (λ b. nat_le b 255) bytes ≡ true → All (λ b. b ≤ 255) bytes
all_bytes [] tested = All-nil (λ b. b ≤ 255)
all_bytes (b ∷ bytes) tested =
    let parts = and_parts (nat_le b 255) (list_all (λ b. nat_le b 255) bytes) tested in
    All-cons (λ b. b ≤ 255) b bytes (leb-true b 255 parts.0) (all_bytes bytes parts.1)

-- the picture of the samples that stand in a file
abbrev pub picture_in : List ℕ → Picture
picture_in bytes = picture_of (width bytes) (height bytes) (channels bytes) (white_of (bits bytes)) (shown bytes (scheme bytes))

pub shows_picture_in : (bytes : List ℕ) → list_all (λ b. nat_le b 255) bytes ≡ true → refusal_of bytes ≡ None →
    Shows bytes (picture_in bytes)
shows_picture_in bytes tested passes =
    let f = shown bytes (scheme bytes) in
    record {
      width_is = refl;
      height_is = refl;
      channels_is = refl;
      top_is = refl;
      whole = whole_picture_of (width bytes) (height bytes) (channels bytes) (white_of (bits bytes)) f (channels_pass bytes passes)
          (white_is (bits bytes)) (λ x y k lx ly lk. shown-le bytes (scheme bytes) x y k (all_bytes bytes tested));
      places = λ x y k lx ly lk.
          sample_at-picture_of (width bytes) (height bytes) (channels bytes) (white_of (bits bytes)) f x y k lx ly lk;
    }
