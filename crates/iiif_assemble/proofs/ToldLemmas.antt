-- The first of the items whose keys can't be had.
use Rattle.std.proofs.Common.{◌≡◌, false}
use Rattle.std.proofs.lemmas.List.Elements.{All-weaker}
use Rattle.iiif_keys.specs.declared.fault.Fault.{Fault}
use Rattle.iiif_assemble.specs.FirstFault.{FirstBadIsTold}
use Rattle.iiif_assemble.specs.Gathering.{HasItem}

pub first_bad_is_told : {K V : Type 0} (means : K → V → Type 0) (failed : K → Fault → Type 0) → FirstBadIsTold means failed
first_bad_is_told {K} {V} means failed bad good ill keys items fault some h = record {
  before = h.before;
  item = h.item;
  after = h.after;
  are = h.are;
  good = All-weaker (HasItem keys (λ k. (v : V) × means k v)) (HasItem keys (λ k. bad k ≡ false))
      (λ i x. (x.0, x.1, x.2, good x.0 x.3.0 x.3.1)) h.before h.gave;
  fault_of = (h.fault_of.0, h.fault_of.1, h.fault_of.2, (ill h.fault_of.0 fault some h.fault_of.3, h.fault_of.3));
}
