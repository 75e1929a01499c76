use Rattle.std.proofs.Common.{arith}
use Rattle.std.proofs.lemmas.Result.{IfOk-weaker}
use Rattle.iiif_assemble.proofs.JobLemmas.{band_of}
use Rattle.iiif_pixel.specs.Geometry.{channels_of}
use Rattle.iiif_assemble.proofs.job.Job.band.Goals as goal

pub band_at-requires-clause-plan : goal.band_at-requires-clause-plan
band_at-requires-clause-plan c = record {
  name = c.args.self.now.name;
  edge = c.args.self.now.edge;
  image = c.args.self.now.shape.dim;
  channels = channels_of c.args.self.now.shape.kind;
  room = c.requires.job.room;
  inside = c.requires.job.inside;
  small = (omega arith, omega arith);
  is_plan = c.requires.job.is_plan;
}

pub returns-clause-band : goal.returns-clause-band
returns-clause-band c =
    let j = c.args.self.now in
    IfOk-weaker c.band_at.result _ _ (λ b is. band_of j c.args.rows c.args.i b c.requires.rows c.requires.index is) c.band_at.ensures.band
