-- A server of the worked examples, whose one image is named `a`: the file of the ramp.
use Rattle.std.specs.Prelude.{ℕ, false, true, List, [], ◌∷◌, codes}
use Rattle.iiif_pixel.specs.declared.geometry.Quality.TheVariants.{Default}
use Rattle.iiif_request.specs.declared.request.Form.TheVariants.{Both, Width}
use Rattle.iiif_request.specs.declared.request.Region.TheVariants.{Full}
use Rattle.iiif_tiff.specs.Tiff.{gray_sample, scheme}
use Rattle.iiif_tile_group.specs.Collection.{Item}
use Rattle.iiif_answers.specs.Answers.{Given, Replies, Reply}
use Rattle.iiif_examples.specs.Pictures.{gray_8, ramp}
use Rattle.iiif_examples.specs.Requests.{request_of}
use Rattle.iiif_examples.specs.Settings.{base, serving}

-- the image: its name, its source, which is the bytes of its file, and what these say of it
abbrev pub ramp_item : Item (List ℕ)
ramp_item = record { name = codes "a"; source = gray_sample; layout = scheme gray_sample }

-- what is replied to a target, where sources keep their bytes and other nodes are honest
abbrev pub IsReplied : List ℕ → Reply (List ℕ) → Type 0
IsReplied target reply = Replies (λ s. s) (λ s. Unit {0}) true (serving base 2 4096) (ramp_item ∷ []) target reply

-- the ramp at half its sides and turned by a quarter, which is asked for as `full/2,/90`
abbrev pub half_turned : Given (List ℕ)
half_turned = record {
  item = ramp_item;
  request = request_of Full false (Width 2) false 90 Default;
  canonical = request_of Full false (Both 2 2) false 90 Default;
  picture = ramp;
  asked = gray_8 2 2 (105 ∷ 25 ∷ 125 ∷ 45 ∷ []);
  image = gray_8 2 2 (105 ∷ 25 ∷ 125 ∷ 45 ∷ []);
}
