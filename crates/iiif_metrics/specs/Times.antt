-- How long answers took, by kind, in the text format of Prometheus, version 0.0.4.
use Rattle.std.specs.Prelude.{ℕ, List, [], ◌∷◌, ◌++◌, codes, decimal, slice_index}
use Rattle.std.specs.List.{flat_map}
use Rattle.iiif_breaker.specs.Durations.{lasted, no_time}
use Rattle.iiif_breaker.specs.declared.durations.Durations.{Durations}
use Rattle.iiif_metrics.specs.Links.{head_lines}
use Rattle.iiif_metrics.specs.declared.text.MetricKind.TheVariants.{Histogram}
use Rattle.iiif_metrics.specs.declared.times.AnswerKind.{AnswerKind}
use Rattle.iiif_metrics.specs.declared.times.AnswerKind.TheVariants.{Image, Info, Other}
use Rattle.iiif_metrics.specs.declared.times.AnswerTimes.{AnswerTimes}
use Rattle.iiif_metrics.specs.declared.times.Bucket.{Bucket}

-- of no answer
abbrev pub no_times : AnswerTimes
no_times = record { image = no_time; info = no_time; other = no_time }

-- one more answer of a kind took so many microseconds
abbrev pub with_time : AnswerKind → ℕ → AnswerTimes → AnswerTimes
with_time Image micros t = record t { image = lasted t.image micros }
with_time Info micros t = record t { info = lasted t.info micros }
with_time Other micros t = record t { other = lasted t.other micros }

-- a limit in seconds, and how many took at most so long
abbrev pub bucket_view : Bucket → List ℕ × ℕ
bucket_view b = (b.most.now, b.count)

abbrev pub buckets_of : Durations → List (List ℕ × ℕ)
buckets_of d =
    (codes "0.001", slice_index d.within 0)
    ∷ (codes "0.005", slice_index d.within 1)
    ∷ (codes "0.01", slice_index d.within 2)
    ∷ (codes "0.05", slice_index d.within 3)
    ∷ (codes "0.1", slice_index d.within 4)
    ∷ (codes "0.5", slice_index d.within 5)
    ∷ (codes "1", slice_index d.within 6)
    ∷ (codes "10", slice_index d.within 7)
    ∷ (codes "+Inf", d.all)
    ∷ []

-- the line of a bucket of a kind
unfoldable pub bucket_line : List ℕ → List ℕ × ℕ → List ℕ
bucket_line kind b =
    codes "iiif_answer_seconds_bucket{kind=\"" ++ kind ++ codes "\",le=\"" ++ b.0 ++ codes "\"} " ++ decimal b.1 ++ codes "\n"

-- the line of the sum of a kind's times, in seconds, where they are so many microseconds
unfoldable pub sum_line : List ℕ → ℕ → List ℕ
sum_line kind micros = codes "iiif_answer_seconds_sum{kind=\"" ++ kind ++ codes "\"} " ++ decimal micros ++ codes "e-6\n"

-- the line of the number of a kind's answers
unfoldable pub count_line : List ℕ → ℕ → List ℕ
count_line kind count = codes "iiif_answer_seconds_count{kind=\"" ++ kind ++ codes "\"} " ++ decimal count ++ codes "\n"

-- how long the answers of a kind took: a histogram, with the sum of all times
abbrev pub kind_text : List ℕ → Durations → List ℕ
kind_text kind d = flat_map (bucket_line kind) (buckets_of d) ++ sum_line kind d.micros ++ count_line kind d.all

-- the same of each kind
unfoldable pub times_text : AnswerTimes → List ℕ
times_text t =
    head_lines (codes "iiif_answer_seconds") (codes "How long whole answers took, from their head to their last byte.") Histogram
    ++ kind_text (codes "image") t.image
    ++ kind_text (codes "info") t.info
    ++ kind_text (codes "other") t.other
