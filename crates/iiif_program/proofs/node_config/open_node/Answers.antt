use Rattle.std.proofs.Common.{map}
use Rattle.iiif_program.specs.Lines.{holding_in}
use Rattle.iiif_program.proofs.AloneLemmas.{catalogue_of}
use Rattle.iiif_program.proofs.node_config.open_node.Goals as goal

pub returns-clause-catalogue : goal.returns-clause-catalogue
returns-clause-catalogue g c =
    let opened = c.in_ok-opened.ensures in
    catalogue_of g.R.Opens.holds g.R.Opens.keeps (holding_in c.args.options.now) c.args.options.now.skip_unfit
    c.args.options.now.images.items c.deref.result.now c.in_ok-opened.opened.served.items
    (map (λ u. u.0) c.in_ok-opened.opened.unfit.items) c.in_ok-opened.opened.catalogue c.deref.ensures.value opened.names opened.items
    opened.each opened.all
