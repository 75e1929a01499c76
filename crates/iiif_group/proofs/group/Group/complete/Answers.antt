use Rattle.std.proofs.Common.{rules, subst, sym}
use Rattle.iiif_group.specs.Beginning.{open_key, KnowsOf}
use Rattle.iiif_singleflight.specs.Handles.{IsOf}
use Rattle.iiif_group.proofs.Knowing.{knows_of_key}
use Rattle.iiif_group.proofs.group.Group.complete.Goals as goal

pub returns-in-Some : goal.returns-in-Some
returns-in-Some g c =
    let key = open_key c.args.load in
    let wide : IsOf key c.finish_asked-wide.result.receipt = subst (λ (k : _). IsOf k c.finish_asked-wide.result.receipt)
    (c.args.load.one_key c.in-Some.asked c.in-Some.is) c.finish_asked-wide.ensures.key in
    record {
      known = subst (λ (r : _). KnowsOf key r) (sym c.join.ensures.receipt) (knows_of_key key c.finish_asked-wide.result.receipt wide);
      flight = search rules;
      exact = search rules;
      wanting = search rules;
      fault = search rules;
      loaded = search rules;
      local = search rules;
      refused = search rules;
    }
