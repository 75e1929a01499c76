use Rattle.std.proofs.Common.{arith}
use Rattle.iiif_pixel.specs.Geometry.{channels_of}
use Rattle.iiif_assemble.proofs.job.ImageRef.full_band.Goals as goal

pub band_in-requires-clause-plan : goal.band_in-requires-clause-plan
band_in-requires-clause-plan c = record {
  name = c.args.self.now.name.now;
  edge = c.args.self.now.edge;
  image = c.args.self.now.shape.dim;
  channels = channels_of c.args.self.now.shape.kind;
  room = c.requires.room;
  inside = c.requires.inside;
  small = (omega arith, omega arith);
  is_plan = c.requires.is_plan;
}
