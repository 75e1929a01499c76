use Rattle.iiif_sum_group.proofs.groups.Groups.complete.Goals as goal

pub returns-clause-known : goal.returns-clause-known
returns-clause-known g c = rw c.requires.key at c.complete.ensures.known
