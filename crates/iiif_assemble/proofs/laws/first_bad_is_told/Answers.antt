use Rattle.iiif_assemble.proofs.ToldLemmas as lemma
use Rattle.iiif_assemble.proofs.laws.first_bad_is_told.Goals as goal

pub returns : goal.returns
returns g c = lemma.first_bad_is_told (g.G.Items.means c.args._group.now) (g.G.Items.failed c.args._group.now)
