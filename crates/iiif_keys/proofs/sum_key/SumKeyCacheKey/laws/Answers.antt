use Rattle.iiif_keys.proofs.Derived.{derived_is}
use Rattle.iiif_keys.proofs.Meant.{sum_meant, fitting_sum_key, sum_key_small, sum_val_small}
use Rattle.iiif_keys.proofs.Shaped.{sum_shaped}
use Rattle.iiif_keys.proofs.sum_key.SumKeyCacheKey.laws.Goals as goal

pub returns-clause-meant : goal.returns-clause-meant
returns-clause-meant c = sum_meant

pub returns-clause-keys : goal.returns-clause-keys
returns-clause-keys c = fitting_sum_key

pub returns-clause-key_len : goal.returns-clause-key_len
returns-clause-key_len c = sum_key_small

pub returns-clause-val_len : goal.returns-clause-val_len
returns-clause-val_len c = sum_val_small

pub returns-clause-derived : goal.returns-clause-derived
returns-clause-derived c = derived_is

pub returns-clause-shapes : goal.returns-clause-shapes
returns-clause-shapes c = sum_shaped
