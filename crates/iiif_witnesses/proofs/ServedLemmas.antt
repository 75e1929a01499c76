-- The image that a call reaches on a server whose only image is a file in memory.
use Rattle.std.proofs.Common.{◌≡◌, ℕ, Bool, true, false, List, Option, Some, None, Result, Ok, refl, sym, ap, subst, ◌∙◌}
use Rattle.std.proofs.lemmas.Option.{same_Some}
use Rattle.std.specs.Io.KnownBytes.{Appends}
use Rattle.std.specs.Prelude.{bytes_eq, if◌then◌else◌}
use Rattle.iiif_source.specs.declared.ReadFault.{ReadFault}
use Rattle.iiif_tiff.specs.Tiff.{Shows, scheme}
use Rattle.iiif_tile_group.specs.Collection.{Item}
use Rattle.iiif_http_front.specs.Methods.{method_text}
use Rattle.iiif_http_front.specs.declared.call.Call.{Call}
use Rattle.iiif_answers.specs.Allowed.{Allowed}
use Rattle.iiif_answers.specs.Answers.{Given, Reply, Replies, given, refused, redirect, described, no_path, no_item, of_base}
use Rattle.iiif_answers.specs.Answers.{of_information, no_request, no_image, of_image}
use Rattle.iiif_answers.specs.Calls.{RepliesToCall, no_method, of_target, part_of}
use Rattle.iiif_answers.specs.Settings.{Settings}
use Rattle.iiif_answers.specs.declared.answer.Cut as cut
use Rattle.iiif_answers.specs.declared.answer.Sent.{Sent}
use Rattle.iiif_witnesses.specs.Code.{Images, images_of}
use Rattle.iiif_witnesses.specs.Served.{GivesShown, IsImageOf, SendsOfMemory}

-- the image that is given, or another one where none is
abbrev given_in : Given (List ℕ) → Reply (List ℕ) → Given (List ℕ)
given_in other (given g) = g
given_in other (refused e) = other
given_in other (redirect item) = other
given_in other (described item d) = other

-- the source of an image that is found among one
found_source : (item found : Item (List ℕ)) (b : Bool) → (if b then Some item else None) ≡ Some found → item.source ≡ found.source
found_source item found true e = ap (λ (i : Item (List ℕ)). i.source) (same_Some item found e)
found_source item found false e = cc

module _ (settings : Settings) (name file : List ℕ) where
  only : Item (List ℕ)
  only = record { name = name; source = file; layout = scheme file }

  is_shown : (target : List ℕ) (r : Reply (List ℕ)) (g : Given (List ℕ)) → r ≡ given g
      → Replies (λ (source : List ℕ). source) (λ (source : List ℕ). Unit {0}) true settings (images_of name file) target r
      → IsImageOf file settings g
  unfolding only
  is_shown target _ g e (no_path none) = cc
  is_shown target _ g e (no_item s asks missing) = cc
  is_shown target _ g e (of_base id item asks found) = cc
  is_shown target _ g e (of_information id item p asks found is) = cc
  is_shown target _ g e (no_request id w item refusal asks found says) = cc
  is_shown target _ g e (no_image id w item p q refusal asks found is says refuses) = cc
  is_shown target _ g e (of_image id w h asks found is) =
      let source : file ≡ h.item.source = found_source only h.item (bytes_eq name id) found in
      subst (λ (x : Given (List ℕ)). IsImageOf file settings x) (ap (given_in h) e) (record {
        picture = subst (λ (bytes : List ℕ). Shows bytes h.picture) (sym source) (is.is_picture.shows tt);
        image = is.is_image ∙ ap (λ p. Ok p) (sym (is.sent.same (tt, refl)));
      })

  by_call : (method target : List ℕ) (r : Reply (List ℕ)) (g : Given (List ℕ)) → r ≡ given g
      → RepliesToCall (λ (source : List ℕ). source) (λ (source : List ℕ). Unit {0}) true settings (images_of name file) method target r
      → IsImageOf file settings g
  by_call method target _ g e (no_method other) = cc
  by_call method target _ g e (of_target r answered reached) = is_shown target r g e reached

  pub gives_shown : (call : Call) → GivesShown settings name file call
  gives_shown call g reached = by_call (method_text call.method) call.target.items (given g) g refl reached

-- a text is sent for a call by a server that has these settings and images, and asks nodes that are honest or not
abbrev SendsBy : {W : Type 0} → Call → (W → Option (List ℕ)) → (W → W → Type 0) → W → W → Result Sent cut.Cut → Bool → Settings → Images →
    Type 0
SendsBy {W} call contents fails old new result honest settings images =
    (text : List ℕ) × Appends (contents old) (contents new) text
    × Allowed settings (part_of (method_text call.method) call.close) (λ (source : List ℕ) (fault : ReadFault). false)
    (RepliesToCall (λ (source : List ℕ). source) (λ (source : List ℕ). Unit {0}) honest settings images (method_text call.method)
    call.target.items) ((before : W) × fails before new) text result

-- a server that was made with these settings and images, and asks honest nodes, sends what one of them does
pub of_made : {W : Type 0} (honest : Bool) (made settings : Settings) (has images : Images) (call : Call) (contents : W → Option (List ℕ))
    (fails : W → W → Type 0) (old new : W) (result : Result Sent cut.Cut) → made ≡ settings → has ≡ images → honest ≡ true →
    SendsBy call contents fails old new result honest made has → SendsOfMemory settings images call contents fails old new result
of_made honest made settings has images call contents fails old new result same_settings same_images is_honest sends =
    subst (λ (s : Settings). SendsBy call contents fails old new result true s images) same_settings
    (subst (λ (i : Images). SendsBy call contents fails old new result true made i) same_images
    (subst (λ (h : Bool). SendsBy call contents fails old new result h made has) is_honest sends))
