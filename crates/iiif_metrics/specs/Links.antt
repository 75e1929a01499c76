-- What is told of the links to other nodes, in the text format of Prometheus, version 0.0.4.
use Rattle.std.specs.Prelude.{ℕ, ◌==◌, List, [], ◌∷◌, ◌++◌, codes, decimal, map, slice_index, string_bytes, if◌then◌else◌}
use Rattle.std.specs.List.{flat_map}
use Rattle.iiif_breaker.specs.declared.breaker.State.{State}
use Rattle.iiif_breaker.specs.declared.breaker.State.TheVariants.{Closed, Open, HalfOpen}
use Rattle.iiif_breaker.specs.declared.counts.Asks.{Asks}
use Rattle.iiif_breaker.specs.declared.durations.Durations.{Durations}
use Rattle.iiif_metrics.specs.Exposition.{help_line, sample_line, type_line}
use Rattle.iiif_metrics.specs.declared.metrics.LinkMetrics.{LinkMetrics}
use Rattle.iiif_metrics.specs.declared.text.MetricKind.{MetricKind}
use Rattle.iiif_metrics.specs.declared.text.MetricKind.TheVariants.{Counter, Gauge, Histogram}

-- a byte of a label's value: the backslash, quotes and the line feed stand behind a backslash, the last as n
abbrev pub label_byte : ℕ → List ℕ
label_byte b =
    if b == 92 then 92 ∷ 92 ∷ [] else (
    if b == 34 then 92 ∷ 34 ∷ [] else (
    if b == 10 then 92 ∷ 110 ∷ [] else b ∷ []))

abbrev pub label_text : List ℕ → List ℕ
label_text value = flat_map label_byte value

-- the labels of a sample of a node of this name: the name, and what stands behind it
abbrev pub link_labels : List ℕ → List ℕ → List ℕ
link_labels peer back = codes "{peer=\"" ++ label_text peer ++ back

abbrev pub link_sample : List ℕ → List ℕ × ℕ → List ℕ × ℕ
link_sample peer s = (link_labels peer s.0, s.1)

-- how a node's asks ended: with a value, with a refusal, with a fault, too late; and those that weren't made
abbrev pub ask_samples : Asks → List (List ℕ × ℕ)
ask_samples a =
    (codes "\",outcome=\"answered\"}", a.answered)
    ∷ (codes "\",outcome=\"refused\"}", a.refused)
    ∷ (codes "\",outcome=\"failed\"}", a.failed)
    ∷ (codes "\",outcome=\"late\"}", a.timed_out)
    ∷ (codes "\",outcome=\"left_alone\"}", a.skipped)
    ∷ []

abbrev pub asks_of_link : LinkMetrics → List ℕ
asks_of_link l = flat_map (sample_line (codes "iiif_peer_asks_total")) (map (link_sample (string_bytes l.name)) (ask_samples l.asks))

-- 0 where a node is asked, 1 where one ask tries it, 2 where it is left alone
abbrev pub state_number : State → ℕ
state_number (Closed faults) = 0
state_number (HalfOpen since wait) = 1
state_number (Open until wait) = 2

-- so of a link, and 3 where the node is the one that asks
abbrev pub link_number : LinkMetrics → ℕ
link_number l = if l.is_itself then 3 else state_number l.state

abbrev pub state_of_link : LinkMetrics → List ℕ
state_of_link l = sample_line (codes "iiif_peer_state") (link_sample (string_bytes l.name) (codes "\"}", link_number l))

-- how many images there are for which a node refused asks
abbrev pub refusals_of_link : LinkMetrics → List ℕ
refusals_of_link l =
    sample_line (codes "iiif_peer_refused_images_total") (link_sample (string_bytes l.name) (codes "\"}", l.refused_images))

-- the lines of help and of type of a family
abbrev pub head_lines : List ℕ → List ℕ → MetricKind → List ℕ
head_lines name help kind = help_line name help ++ type_line name kind

-- what is told of each link
abbrev pub links_text : List LinkMetrics → List ℕ
links_text links =
    head_lines (codes "iiif_peer_asks_total") (codes "Asks of another node by how they ended, and those that weren't made.") Counter
    ++ flat_map asks_of_link links
    ++ head_lines (codes "iiif_peer_state")
    (codes "0 where another node is asked, 1 where one ask tries it, 2 where it is left alone, 3 where it is this node.") Gauge
    ++ flat_map state_of_link links
    ++ head_lines (codes "iiif_peer_refused_images_total") (codes "Images for which another node refused asks.") Counter
    ++ flat_map refusals_of_link links

-- how many asks took at most so many seconds
abbrev pub bucket_samples : List ℕ → ℕ → List (List ℕ × ℕ)
bucket_samples within all =
    (codes "{le=\"0.001\"}", slice_index within 0)
    ∷ (codes "{le=\"0.005\"}", slice_index within 1)
    ∷ (codes "{le=\"0.01\"}", slice_index within 2)
    ∷ (codes "{le=\"0.05\"}", slice_index within 3)
    ∷ (codes "{le=\"0.1\"}", slice_index within 4)
    ∷ (codes "{le=\"0.5\"}", slice_index within 5)
    ∷ (codes "{le=\"1\"}", slice_index within 6)
    ∷ (codes "{le=\"10\"}", slice_index within 7)
    ∷ (codes "{le=\"+Inf\"}", all)
    ∷ []

-- the line of the sum of the times, in seconds, where they are so many microseconds
unfoldable pub sum_line : ℕ → List ℕ
sum_line micros = codes "iiif_peer_ask_seconds_sum " ++ decimal micros ++ codes "e-6\n"

-- how long all asks took: a histogram, with the sum of all times
abbrev pub seconds_text : Durations → List ℕ
seconds_text d =
    head_lines (codes "iiif_peer_ask_seconds") (codes "How long asks of other nodes took.") Histogram
    ++ flat_map (sample_line (codes "iiif_peer_ask_seconds_bucket")) (bucket_samples d.within d.all)
    ++ sum_line d.micros
    ++ sample_line (codes "iiif_peer_ask_seconds_count") ([], d.all)
