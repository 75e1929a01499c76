-- The laws of keys, plans and images, as the machine's proofs rest on them.
use Rattle.iiif_machine.specs.Scenes.{Scene, IsProper}
use Rattle.iiif_machine.proofs.KeyParts.{same_key, parts_fit_too, parts_below, parts_make_meaning}
use Rattle.iiif_machine.proofs.Assembling.{items_fit, items_make_image, refused_has_no_image}
use Rattle.iiif_machine.proofs.Words.{SubjectLaws}

pub subject_laws : (s : Scene) → IsProper s → SubjectLaws s
subject_laws s proper = record {
  same_key = same_key;
  parts_fit = parts_fit_too s;
  parts_named = λ k ks e i d within. (parts_below k ks e i d within).0;
  parts_below = λ k ks e i d within. (parts_below k ks e i d within).1;
  derived_is = λ k ks e h. parts_make_meaning s k ks proper e h;
  refused = λ name p q e shown h. refused_has_no_image s name p q e proper shown h;
  items_fit = λ name p q r shown h i d within. (items_fit s name p q r proper (record { shown = shown; solved = h }) i d within).0;
  items_named = λ name p q r shown h i d within. (items_fit s name p q r proper (record { shown = shown; solved = h }) i d within).1;
  assembled_is = λ name p q r shown h. items_make_image s name p q r proper (record { shown = shown; solved = h });
}
