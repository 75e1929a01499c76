use Rattle.iiif_tables.proofs.TableLaws.{enter_tickets, enter_new_ticket, enter_no_open_ticket, enter_leads, enter_differ, again_tickets}
use Rattle.iiif_tables.proofs.TableLaws.{again_differ, land_tickets, land_leads, land_differ}
use Rattle.iiif_tables.proofs.laws.tickets_are_never_given_again.Goals as goal

pub returns-clause-empty : goal.returns-clause-empty
returns-clause-empty g c = λ limit room at q f is. cc

pub returns-clause-enter : goal.returns-clause-enter
returns-clause-enter g c = enter_tickets g.K.PartialEq.eq

pub returns-clause-new : goal.returns-clause-new
returns-clause-new g c = enter_new_ticket g.K.PartialEq.eq

pub returns-clause-again : goal.returns-clause-again
returns-clause-again g c = again_tickets g.K.PartialEq.eq

pub returns-clause-land : goal.returns-clause-land
returns-clause-land g c = land_tickets g.K.PartialEq.eq

pub returns-clause-unused : goal.returns-clause-unused
returns-clause-unused g c = enter_no_open_ticket g.K.PartialEq.eq

pub returns-clause-enter_leads : goal.returns-clause-enter_leads
returns-clause-enter_leads g c = enter_leads g.K.PartialEq.eq

pub returns-clause-land_leads : goal.returns-clause-land_leads
returns-clause-land_leads g c = land_leads g.K.PartialEq.eq

pub returns-clause-empty_differ : goal.returns-clause-empty_differ
returns-clause-empty_differ g c = λ limit room c d p q f h isf ish same. cc

pub returns-clause-enter_differ : goal.returns-clause-enter_differ
returns-clause-enter_differ g c = enter_differ g.K.PartialEq.eq g.met.K.Eq.laws

pub returns-clause-again_differ : goal.returns-clause-again_differ
returns-clause-again_differ g c = again_differ g.K.PartialEq.eq g.met.K.Eq.laws

pub returns-clause-land_differ : goal.returns-clause-land_differ
returns-clause-land_differ g c = land_differ g.K.PartialEq.eq g.met.K.Eq.laws
