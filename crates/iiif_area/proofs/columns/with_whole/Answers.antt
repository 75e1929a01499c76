use Rattle.iiif_area.proofs.columns.with_whole.Goals as goal

pub with_whole_of-requires-clause-fits : goal.with_whole_of-requires-clause-fits
with_whole_of-requires-clause-fits g c = rw c.in-2.is at c.requires.fits

pub with_whole_of-requires-in-4-clause-fits : goal.with_whole_of-requires-in-4-clause-fits
with_whole_of-requires-in-4-clause-fits g c = rw c.in-4.is at c.requires.fits

pub with_whole_of-requires-in-8-clause-fits : goal.with_whole_of-requires-in-8-clause-fits
with_whole_of-requires-in-8-clause-fits g c = rw c.in-8.is at c.requires.fits
