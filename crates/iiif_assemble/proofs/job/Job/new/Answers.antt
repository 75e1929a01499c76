use Rattle.iiif_assemble.proofs.job.Job.new.Goals as goal

pub returns-clause-job : goal.returns-clause-job
returns-clause-job c = record {
  room = c.args.room;
  is_plan = c.in_ok-plan.ensures.plan;
  inside = c.requires.inside;
  scalable = c.requires.scalable;
  quarters = c.requires.quarters;
}
