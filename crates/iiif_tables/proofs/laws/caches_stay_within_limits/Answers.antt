use Rattle.iiif_tables.proofs.Caches.{cache_empty, stays_put, stays_touch, stays_without, stays_evict}
use Rattle.iiif_tables.proofs.TableLaws.{enter_stays, again_stays, land_stays}
use Rattle.iiif_tables.proofs.laws.caches_stay_within_limits.Goals as goal

pub returns-clause-empty : goal.returns-clause-empty
returns-clause-empty g c = cache_empty g.K.PartialEq.eq g.met.K.Eq.laws

pub returns-clause-put : goal.returns-clause-put
returns-clause-put g c = stays_put g.K.PartialEq.eq g.met.K.Eq.laws

pub returns-clause-touch : goal.returns-clause-touch
returns-clause-touch g c = stays_touch g.K.PartialEq.eq g.met.K.Eq.laws

pub returns-clause-without : goal.returns-clause-without
returns-clause-without g c = stays_without g.K.PartialEq.eq g.met.K.Eq.laws

pub returns-clause-evict : goal.returns-clause-evict
returns-clause-evict g c = stays_evict g.K.PartialEq.eq g.met.K.Eq.laws

pub returns-clause-enter : goal.returns-clause-enter
returns-clause-enter g c = enter_stays g.K.PartialEq.eq g.met.K.Eq.laws

pub returns-clause-again : goal.returns-clause-again
returns-clause-again g c = again_stays g.K.PartialEq.eq g.met.K.Eq.laws

pub returns-clause-land : goal.returns-clause-land
returns-clause-land g c = land_stays g.K.PartialEq.eq g.met.K.Eq.laws
