use Rattle.iiif_canonical.proofs.texts.+push_last_digits.Given as goal

abbrev pub decreases-push_last_digits : goal.decreases-push_last_digits
decreases-push_last_digits l = l.n
