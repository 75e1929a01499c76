use Rattle.iiif_tables.proofs.FlightLaws.{book_entered, book_again, book_landed}
use Rattle.iiif_tables.proofs.TableLaws.{empty_is_book}
use Rattle.iiif_tables.proofs.laws.counts_add_up.Goals as goal

pub returns-clause-empty : goal.returns-clause-empty
returns-clause-empty g c = empty_is_book

pub returns-clause-enter : goal.returns-clause-enter
returns-clause-enter g c = book_entered g.K.PartialEq.eq

pub returns-clause-again : goal.returns-clause-again
returns-clause-again g c = book_again g.K.PartialEq.eq

pub returns-clause-land : goal.returns-clause-land
returns-clause-land g c = λ size. book_landed g.K.PartialEq.eq size
