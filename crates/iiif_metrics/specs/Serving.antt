-- What is answered to who asks for the counters (RFC 9110, sections 9 and 15).
use Rattle.std.specs.Prelude.{◌≡◌, ◌⊎◌, ℕ, ◌<◌, true, List, [], ◌∷◌, ◌++◌, bytes_eq, codes, length, take, if◌then◌else◌, Option, Some}
use Rattle.std.specs.Prelude.{None, Result, Ok, Err}
use Rattle.iiif_http_front.specs.AnswerHeads.{head_text}
use Rattle.iiif_http_front.specs.Reading.{Answers}
use Rattle.iiif_http_front.specs.Methods.{method_text}
use Rattle.iiif_http_front.specs.declared.call.Call.{Call}
use Rattle.iiif_http_front.specs.declared.head_fault.HeadFault.{HeadFault}
use Rattle.iiif_http_front.specs.declared.head_fault.HeadFault.TheVariants.{Bad, TooLong, Cut, Io, NoMemory}
use Rattle.iiif_metrics.specs.Page.{text_of}
use Rattle.iiif_metrics.specs.Health.{all_go_on, health_text}
use Rattle.iiif_metrics.specs.declared.health.Services.{Services}
use Rattle.iiif_metrics.specs.declared.metrics.PeerMetrics.{PeerMetrics}
use Rattle.iiif_metrics.specs.declared.metrics.Metrics.{Metrics}
use Rattle.iiif_metrics.specs.declared.metrics.Telling.{Telling}

-- the media type of a body
abbrev pub content_type : List ℕ → List ℕ × List ℕ
content_type media = (codes "Content-Type", media)

-- an answer without a body, which closes the connection
abbrev pub refusal_text : ℕ → List (List ℕ × List ℕ) → List ℕ
refusal_text status more = head_text status (content_type (codes "text/plain") ∷ more) 0 true

-- the answer that tells these counters
abbrev pub metrics_answer : Metrics → PeerMetrics → List ℕ
metrics_answer m p = head_text 200 (content_type (codes "text/plain; version=0.0.4") ∷ []) (length (text_of m p)) true ++ text_of m p

-- 200 where each service goes on that the node was started with, 503 where one is gone
abbrev pub health_status : Services → ℕ
health_status s = if all_go_on s then 200 else 503

-- the answer that tells of the services
abbrev pub health_answer : Services → List ℕ
health_answer s = head_text (health_status s) (content_type (codes "text/plain") ∷ []) (length (health_text s)) true ++ health_text s

-- to GET of /metrics the counters, to GET of /health the services, to GET of another target 404, to another method 405 and which is
-- answered
abbrev pub answer_text : List ℕ → List ℕ → Telling → List ℕ
answer_text method target t =
    if bytes_eq method (codes "GET")
    then (if bytes_eq target (codes "/metrics")
    then metrics_answer t.metrics t.peers
    else (if bytes_eq target (codes "/health")
    then health_answer t.services
    else refusal_text 404 []))
    else refusal_text 405 ((codes "Allow", codes "GET") ∷ [])

-- the answer to what is no head
abbrev pub bad_text : List ℕ
bad_text = refusal_text 400 []

-- a text is sent, or a strict prefix of it before the writer failed
abbrev pub Sends : Type 0 → List ℕ → List ℕ → Type 0
Sends writer text output = (output ≡ text) ⊎ (writer × ((n : ℕ) × (n < length text) × (output ≡ take n text)))

-- what is sent for what was read: for a call the answer at some counters and some services
abbrev pub Replies : Type 0 → Result (Option Call) HeadFault → List ℕ → Type 0
Replies writer (Ok (Some call)) output = (t : Telling) × Sends writer (answer_text (method_text call.method) call.target.items t) output
Replies writer (Ok None) output = output ≡ []
Replies writer (Err Bad) output = Sends writer bad_text output
Replies writer (Err TooLong) output = Sends writer bad_text output
Replies writer (Err Cut) output = output ≡ []
Replies writer (Err Io) output = output ≡ []
Replies writer (Err NoMemory) output = ⊥

-- a connection: what is read at the front of an input is answered
abbrev pub IsExchange : Type 0 → List ℕ → List ℕ → Type 0
IsExchange writer input output =
    (left : Option (List ℕ)) × (read : Result (Option Call) HeadFault) × Answers input left read × Replies writer read output
