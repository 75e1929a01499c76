-- Lemmas on the shown samples: none is above white, and a file that no check refuses shows exactly one picture.
use Rattle.std.proofs.Common.{◌≡◌, ℕ, ◌+◌, ◌*◌, ◌-◌, ◌/◌, ◌%◌, ◌≤◌, ◌^◌, Bool, true, false, List, All, None, length, drop, ◌⊎◌, refl, sym}
use Rattle.std.proofs.Common.{◌∙◌, inl, inr, ◌==◌, if◌then◌else◌, arith}
use Rattle.std.specs.Prelude.{slice_index}
use Rattle.std.specs.Int.{w16}
use Rattle.std.proofs.lemmas.Nat.{mod_below}
use Rattle.std.proofs.lemmas.Bool.{cases_lt}
use Rattle.std.proofs.lemmas.List.{get_or_past, get_or-drop}
use Rattle.std.proofs.lemmas.List.Elements.{All-get_or}
use Rattle.iiif_pixel.specs.Picture.{picture_of}
use Rattle.iiif_pixel.proofs.SampleLists.{sample_at-picture_of, same_pictures}
use Rattle.iiif_pixel.proofs.Whole.{whole_picture_of}
use Rattle.iiif_tiff.specs.Tiff.{ByteOrder, Little, Big, Scheme, scheme, number, width, height, channels, bits, white_of, stored}
use Rattle.iiif_tiff.specs.Tiff.{stored_sample, sample_of, shown, ShowsOnePicture, refusal_of}
use Rattle.iiif_tiff.proofs.Passing.{channels_pass}

-- A byte, or the 0 past the end, is at most 255.
byte_at : (bytes : List ℕ) → All (λ b. b ≤ 255) bytes → (i : ℕ) → slice_index bytes i ≤ 255
byte_at bytes all i = elim (cases_lt i (length bytes)) [
  | inl inside ↦ All-get_or (λ b. b ≤ 255) bytes i 0 inside all
  | inr past ↦ rw (get_or_past bytes i 0 past) (omega arith)
]

-- A byte behind an offset is at most 255.
byte_behind : (bytes : List ℕ) (at i : ℕ) → All (λ b. b ≤ 255) bytes → slice_index (drop at bytes) i ≤ 255
byte_behind bytes at i all = rw (get_or-drop at bytes i 0) (byte_at bytes all (at + i))

-- A stored sample of 1 or 8 bits is at most 255.
pub stored-le : (bits : ℕ) (bytes : List ℕ) (row n : ℕ) → All (λ b. b ≤ 255) bytes → stored bits bytes row n ≤ 255
stored-le bits bytes row n all = elim (bits == 8) as
    (λ b. (if b then slice_index bytes (row + n) else 255 * (slice_index bytes (row + n / 8) / 2 ^ (7 - n % 8) % 2)) ≤ 255) [
      | true ↦ byte_at bytes all (row + n)
      | false ↦ omega (arith, mod_below (slice_index bytes (row + n / 8) / 2 ^ (7 - n % 8)) 2 (omega arith))
    ]

-- A number of 16 bits is at most 65,535.
number-le : (o : ByteOrder) (bytes : List ℕ) (at : ℕ) → All (λ b. b ≤ 255) bytes → number o w16 bytes at ≤ 65535
number-le Little bytes at all = omega (arith, byte_behind bytes at 0 all, byte_behind bytes at 1 all)
number-le Big bytes at all = omega (arith, byte_behind bytes at 0 all, byte_behind bytes at 1 all)

-- A stored sample is at most the white of its bits.
stored_sample-le : (o : ByteOrder) (bits : ℕ) (bytes : List ℕ) (row n : ℕ) → All (λ b. b ≤ 255) bytes →
    stored_sample o bits bytes row n ≤ white_of bits
stored_sample-le o bits bytes row n all = elim (bits == 16) as
    (λ b. (if b then number o w16 bytes (row + 2 * n) else stored bits bytes row n) ≤ (if b then 65535 else 255)) [
      | true ↦ number-le o bytes (row + 2 * n) all
      | false ↦ stored-le bits bytes row n all
    ]

-- A choice of two numbers is one of them.
one_of : (b : Bool) (m n : ℕ) → ((if b then m else n) ≡ n) ⊎ ((if b then m else n) ≡ m)
one_of true m n = inr refl
one_of false m n = inl refl

-- White is 255 or 65,535.
pub white_is : (bits : ℕ) → (white_of bits ≡ 255) ⊎ (white_of bits ≡ 65535)
white_is bits = one_of (bits == 16) 65535 255

-- A sample that is shown is at most white where the stored one is.
sample_of-le : (white_is_zero : Bool) (white v : ℕ) → v ≤ white → sample_of white_is_zero white v ≤ white
sample_of-le true white v le = omega arith
sample_of-le false white v le = le

-- A shown sample is at most white, whatever the bytes are.
pub shown-le : (bytes : List ℕ) (s : Scheme) (x y k : ℕ) → All (λ b. b ≤ 255) bytes → shown bytes s x y k ≤ white_of s.bits
unfolding shown
shown-le bytes s x y k all = sample_of-le s.white_is_zero (white_of s.bits) _ (stored_sample-le s.order s.bits bytes _ _ all)

-- A file that no check refuses shows one picture and no other.
pub one_picture : (bytes : List ℕ) → All (λ b. b ≤ 255) bytes → refusal_of bytes ≡ None → ShowsOnePicture bytes
one_picture bytes all passes =
    let f = shown bytes (scheme bytes) in
    let w = width bytes in
    let h = height bytes in
    let c = channels bytes in
    let t = white_of (bits bytes) in
    let whole = whole_picture_of w h c t f (channels_pass bytes passes) (white_is (bits bytes))
    (λ x y k lx ly lk. shown-le bytes (scheme bytes) x y k all) in (
      picture_of w h c t f,
      record {
        width_is = refl;
        height_is = refl;
        channels_is = refl;
        top_is = refl;
        whole = whole;
        places = λ x y k lx ly lk. sample_at-picture_of w h c t f x y k lx ly lk;
      },
      λ q shows. same_pictures q (picture_of w h c t f) shows.whole whole shows.width_is shows.height_is shows.channels_is shows.top_is
          (λ x y k lx ly lk. shows.places x y k lx ly lk ∙
          sym (sample_at-picture_of w h c t f x y k (rw (← shows.width_is) lx) (rw (← shows.height_is) ly)
          (rw (← shows.channels_is) lk))),
    )
