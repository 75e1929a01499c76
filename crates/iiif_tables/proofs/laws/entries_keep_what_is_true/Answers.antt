use Rattle.std.specs.Prelude.{IsTrue}
use Rattle.iiif_tables.proofs.Keeping.{each_evict, each_kept_for, each_put, each_touch, each_without}
use Rattle.iiif_tables.proofs.FlightLaws.{each_again, each_entered, each_landed}
use Rattle.iiif_tables.proofs.laws.entries_keep_what_is_true.Goals as goal

pub returns-clause-put : goal.returns-clause-put
returns-clause-put g c = λ test size side k e cache p h. each_put (λ x. IsTrue (test x)) size g.K.PartialEq.eq side k e cache p h

pub returns-clause-touch : goal.returns-clause-touch
returns-clause-touch g c = λ test. each_touch (λ x. IsTrue (test x)) g.K.PartialEq.eq

pub returns-clause-without : goal.returns-clause-without
returns-clause-without g c = λ test. each_without (λ x. IsTrue (test x)) g.K.PartialEq.eq

pub returns-clause-evict : goal.returns-clause-evict
returns-clause-evict g c = λ test size. each_evict (λ x. IsTrue (test x)) size

pub returns-clause-enter : goal.returns-clause-enter
returns-clause-enter g c = λ test class k t h. each_entered g.K.PartialEq.eq class k (λ x. IsTrue (test x)) t h

pub returns-clause-again : goal.returns-clause-again
returns-clause-again g c = λ test class k n t h. each_again g.K.PartialEq.eq class k (λ x. IsTrue (test x)) n t h

pub returns-clause-land : goal.returns-clause-land
returns-clause-land g c = λ test size keep class k n value place t p h.
    each_landed g.K.PartialEq.eq size (λ x. IsTrue (test x)) keep class k n value place t p h

pub returns-clause-found : goal.returns-clause-found
returns-clause-found g c = λ test k cache h e is. each_kept_for (λ x. IsTrue (test x)) g.K.PartialEq.eq k cache h e is
