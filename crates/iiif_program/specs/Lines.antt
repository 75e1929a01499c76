-- What the options of a line say.
use Rattle.iiif_answers.specs.Settings.{Settings}
use Rattle.iiif_command_line.specs.declared.line.Options.{Options}
use Rattle.iiif_start.specs.declared.holding.Holding.{Holding}

-- the settings of a server: both of the greatest sides are one number
abbrev pub settings_in : Options → Settings
settings_in o = record {
  base = o.base.now;
  edge = o.edge;
  max_w = o.max;
  max_h = o.max;
  upscale = o.upscale;
  band = o.band;
  workers = o.workers;
}

-- which files are held in memory, and by which manifest
abbrev pub holding_in : Options → Holding
holding_in o = record { bytes = o.hold; bag = o.bag }
