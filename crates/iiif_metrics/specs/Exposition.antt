-- The text format of Prometheus, version 0.0.4: families of samples, each with a line of help, a line that says its type, and a line
-- for each sample.
use Rattle.std.specs.Prelude.{ℕ, List, [], ◌∷◌, ◌++◌, codes, decimal, map, slice_index}
use Rattle.std.specs.List.{flat_map}
use Rattle.iiif_metrics.specs.declared.metrics.CacheMetrics.{CacheMetrics}
use Rattle.iiif_metrics.specs.declared.metrics.HeldMetrics.{HeldMetrics}
use Rattle.iiif_metrics.specs.declared.metrics.ImageMetrics.{ImageMetrics}
use Rattle.iiif_metrics.specs.declared.metrics.Metrics.{Metrics}
use Rattle.iiif_metrics.specs.declared.text.MetricKind.{MetricKind}
use Rattle.iiif_metrics.specs.declared.text.MetricKind.TheVariants.{Counter, Gauge, Histogram}
use Rattle.iiif_metrics.specs.declared.text.Row.{Row}
use Rattle.iiif_metrics.specs.declared.text.Sample.{Sample}

-- a family of samples: each has labels, which may be none, and a value
pub record Family : Type 0 where
  pub name : List ℕ
  pub help : List ℕ
  pub kind : MetricKind
  pub samples : List (List ℕ × ℕ)

-- the type of a family
abbrev pub kind_word : MetricKind → List ℕ
kind_word Counter = codes "counter"
kind_word Gauge = codes "gauge"
kind_word Histogram = codes "histogram"

-- the line of help of a family of this name
unfoldable pub help_line : List ℕ → List ℕ → List ℕ
help_line name help = codes "# HELP " ++ name ++ codes " " ++ help ++ codes "\n"

-- the line of type of a family of this name
unfoldable pub type_line : List ℕ → MetricKind → List ℕ
type_line name kind = codes "# TYPE " ++ name ++ codes " " ++ kind_word kind ++ codes "\n"

-- the line of a sample of this name
unfoldable pub sample_line : List ℕ → List ℕ × ℕ → List ℕ
sample_line name s = name ++ s.0 ++ codes " " ++ decimal s.1 ++ codes "\n"

-- the lines of a family
abbrev pub family_text : Family → List ℕ
family_text f = help_line f.name f.help ++ type_line f.name f.kind ++ flat_map (sample_line f.name) f.samples

-- a family of one sample without labels
abbrev pub single : List ℕ → List ℕ → MetricKind → ℕ → Family
single name help kind value = record { name = name; help = help; kind = kind; samples = ([], value) ∷ [] }

-- what a cache and its flights counted, and what is kept, under names with this front
abbrev pub cache_families : List ℕ → CacheMetrics → List Family
cache_families front c =
    single (front ++ codes "gets_total") (codes "Calls that asked for a value.") Counter c.book.gets
    ∷ single (front ++ codes "hits_total") (codes "Calls that met a kept value.") Counter c.book.hits
    ∷ single (front ++ codes "joins_total") (codes "Calls that joined a load in flight.") Counter c.book.joins
    ∷ single (front ++ codes "leads_total") (codes "Calls that began a load.") Counter c.book.leads
    ∷ single (front ++ codes "again_hits_total") (codes "Loads whose leader found the value kept by then.") Counter c.book.again_hits
    ∷ single (front ++ codes "loads_total") (codes "Loads that were made.") Counter c.book.loads
    ∷ single (front ++ codes "peer_total") (codes "Loads whose value came from another node.") Counter c.book.peer
    ∷ single (front ++ codes "landed_total") (codes "Loads that ended.") Counter c.book.landed
    ∷ single (front ++ codes "faults_total") (codes "Loads that ended with a fault.") Counter c.book.faults
    ∷ single (front ++ codes "bytes") (codes "Bytes of kept values and their keys.") Gauge c.bytes
    ∷ single (front ++ codes "entries") (codes "Kept values.") Gauge c.entries
    ∷ []

-- the images that the start named, under names with this front
abbrev pub image_families : List ℕ → ImageMetrics → List Family
image_families front i =
    single (front ++ codes "images") (codes "Images that are served.") Gauge i.served
    ∷ single (front ++ codes "images_unfit") (codes "Images that can't be served, and are left out.") Gauge i.unfit
    ∷ single (front ++ codes "images_other_versions_total")
    (codes "Other nodes' asks for another version of an image, once a node and an image.") Counter i.other_versions
    ∷ single (front ++ codes "read_failures_total") (codes "Reads of images' files that failed.") Counter i.read_failures
    ∷ []

-- the images whose files are held in memory, under names with this front
abbrev pub held_families : List ℕ → HeldMetrics → List Family
held_families front h =
    single (front ++ codes "bytes") (codes "Bytes of the images' files that are held in memory.") Gauge h.bytes
    ∷ single (front ++ codes "images") (codes "Images whose files are held in memory.") Gauge h.images
    ∷ []

-- what was counted at each listener
abbrev pub listener_samples : List ℕ → List (List ℕ × ℕ)
listener_samples counts =
    (codes "{listener=\"viewers\"}", slice_index counts 0)
    ∷ (codes "{listener=\"peers\"}", slice_index counts 1)
    ∷ (codes "{listener=\"statistics\"}", slice_index counts 2)
    ∷ []

-- the connections that are open
abbrev pub open_family : List ℕ → Family
open_family counts = record {
  name = codes "iiif_connections_open";
  help = codes "Connections that are open.";
  kind = Gauge;
  samples =
      listener_samples counts;
}

-- those that were closed unanswered
abbrev pub refused_family : List ℕ → Family
refused_family counts =
    record {
      name = codes "iiif_connections_refused_total";
      help = codes "Connections that were closed unanswered.";
      kind =
          Counter;
      samples = listener_samples counts;
    }

-- those whose place another one was given
abbrev pub ousted_family : List ℕ → Family
ousted_family counts =
    record {
      name = codes "iiif_connections_ousted_total";
      help = codes "Connections that were closed for another one.";
      kind =
          Counter;
      samples = listener_samples counts;
    }

-- what was counted of answers, whatever their status, what was kept beside one of them, what was lost of the log, and when the server was
-- started, under names with this front
abbrev pub server_families : List ℕ → Metrics → List Family
server_families front m =
    single (front ++ codes "answer_bytes_total") (codes "Bytes of answers and their heads.") Counter m.counts.bytes
    ∷ single (front ++ codes "answer_kept_most")
    (codes "Samples and sums of shared values that were kept beside one answer, at most.") Gauge m.kept
    ∷ single (front ++ codes "log_lines_lost_total") (codes "Lines of the log that were lost.") Counter m.lost_lines
    ∷ single (front ++ codes "start_time_seconds") (codes "When the server was started, in seconds since 1970.") Gauge m.started
    ∷ []

-- the answers that were cut off, by cause
abbrev pub cut_samples : List ℕ → List (List ℕ × ℕ)
cut_samples cut =
    (codes "{cause=\"viewer\"}", slice_index cut 0)
    ∷ (codes "{cause=\"slow\"}", slice_index cut 1)
    ∷ (codes "{cause=\"rate\"}", slice_index cut 2)
    ∷ (codes "{cause=\"source\"}", slice_index cut 3)
    ∷ (codes "{cause=\"memory\"}", slice_index cut 4)
    ∷ (codes "{cause=\"ousted\"}", slice_index cut 5)
    ∷ []

abbrev pub cut_family : List ℕ → Family
cut_family cut = record {
  name = codes "iiif_answers_cut_total";
  help = codes "Answers that were cut off.";
  kind = Counter;
  samples =
      cut_samples cut;
}

-- the answers that were sent whole, by status
abbrev pub status_samples : List ℕ → List (List ℕ × ℕ)
status_samples whole =
    (codes "{status=\"200\"}", slice_index whole 0)
    ∷ (codes "{status=\"303\"}", slice_index whole 1)
    ∷ (codes "{status=\"400\"}", slice_index whole 2)
    ∷ (codes "{status=\"404\"}", slice_index whole 3)
    ∷ (codes "{status=\"405\"}", slice_index whole 4)
    ∷ (codes "{status=\"500\"}", slice_index whole 5)
    ∷ (codes "{status=\"501\"}", slice_index whole 6)
    ∷ (codes "{status=\"other\"}", slice_index whole 7)
    ∷ []

abbrev pub answer_family : List ℕ → Family
answer_family whole = record {
  name = codes "iiif_answers_total";
  help = codes "Answers that were sent whole.";
  kind = Counter;
  samples =
      status_samples whole;
}

-- the lines of some families
abbrev pub families_text : List Family → List ℕ
families_text fs = flat_map family_text fs

-- a row as a family, under a name with this front
abbrev pub row_family : List ℕ → Row → Family
row_family front r = single (front ++ r.name.now) r.help.now r.kind r.value

-- labels and a value
abbrev pub sample_view : Sample → List ℕ × ℕ
sample_view s = (s.labels.now, s.value)

-- samples as a family
abbrev pub family_of : List ℕ → List ℕ → MetricKind → List Sample → Family
family_of name help kind samples = record { name = name; help = help; kind = kind; samples = map sample_view samples }
