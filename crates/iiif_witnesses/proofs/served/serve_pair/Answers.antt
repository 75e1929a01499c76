use Rattle.iiif_witnesses.proofs.ServedLemmas.{of_made}
use Rattle.iiif_witnesses.proofs.served.serve_pair.Goals as goal

pub returns-clause-sends : goal.returns-clause-sends
returns-clause-sends g c =
    of_made g.J.System.honest c.in_ok-node.node.settings c.args.configs.0 c.in_ok-node.node.items c.args.pair.asked c.args.call.now
    g.W.Write.contents g.W.Outlet.fails c.args.out.now c.serve_one-outcome.new.out c.serve_one-outcome.result c.in_ok-node.ensures.settings
    c.in_ok-node.ensures.items c.requires.asked.honest c.serve_one-outcome.ensures.allowed
