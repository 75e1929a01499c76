-- Whether the services of a node go on, as who asks for its health is told.
use Rattle.std.specs.Prelude.{ℕ, Bool, true, false, ◌&&◌, List, [], ◌++◌, codes}
use Rattle.iiif_metrics.specs.declared.health.Service.{Service}
use Rattle.iiif_metrics.specs.declared.health.Service.TheVariants.{Unwanted, Starts, GoesOn, Gone}
use Rattle.iiif_metrics.specs.declared.health.Services.{Services}

-- nothing is missing of it
abbrev pub goes_on : Service → Bool
goes_on Unwanted = true
goes_on Starts = false
goes_on GoesOn = true
goes_on Gone = false

-- each that the node was started with goes on
abbrev pub all_go_on : Services → Bool
all_go_on s = goes_on s.viewers && goes_on s.peers && goes_on s.statistics && goes_on s.log

-- the line of a service of this name
abbrev pub service_line : List ℕ → Service → List ℕ
service_line name Unwanted = []
service_line name Starts = name ++ codes " starting\n"
service_line name GoesOn = name ++ codes " ok\n"
service_line name Gone = name ++ codes " gone\n"

-- a line for each that the node was started with
abbrev pub health_text : Services → List ℕ
health_text s =
    service_line (codes "viewers") s.viewers
    ++ service_line (codes "peers") s.peers
    ++ service_line (codes "statistics") s.statistics
    ++ service_line (codes "log") s.log
