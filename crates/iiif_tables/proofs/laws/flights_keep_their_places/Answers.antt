use Rattle.iiif_tables.proofs.TableLaws.{enter_opens, again_marks, land_closes}
use Rattle.iiif_tables.proofs.laws.flights_keep_their_places.Goals as goal

pub returns-clause-enter : goal.returns-clause-enter
returns-clause-enter g c = enter_opens g.K.PartialEq.eq g.met.K.Eq.laws

pub returns-clause-again : goal.returns-clause-again
returns-clause-again g c = again_marks g.K.PartialEq.eq g.met.K.Eq.laws

pub returns-clause-land : goal.returns-clause-land
returns-clause-land g c = land_closes g.K.PartialEq.eq g.met.K.Eq.laws
