use Rattle.std.proofs.Common.{inr}
use Rattle.iiif_group_items.proofs.PartLemmas.{fault_told, value_told}
use Rattle.iiif_group_items.proofs.items.GroupItemsItemsSumKeySumValPasses.close.Goals as goal

pub returns-in-Ok-clause-value : goal.returns-in-Ok-clause-value
returns-in-Ok-clause-value g c =
    value_told c.take_outcome.result _ (λ v e. record {
      has_shape = c.take_outcome.ensures.shaped v e;
      meant = λ stable honest. c.take_outcome.ensures.meant stable honest v e;
    })

pub returns-in-Ok-clause-fault : goal.returns-in-Ok-clause-fault
returns-in-Ok-clause-fault g c = fault_told c.take_outcome.result _ (λ f e. inr (c.take_outcome.ensures.given f e))
