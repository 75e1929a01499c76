-- Statuses of answers (RFC 9110, section 15).
--   code_of s          the status's number
--   reason_phrase n    the registered phrase of such a number
--   IsStatusCode n     n is a number of three digits
use Rattle.std.specs.Prelude.{ℕ, ◌<◌, ◌≤◌, ◌==◌, if◌then◌else◌, List, [], codes}
use Rattle.iiif_http_front.specs.declared.status.Status.{Status}
use Rattle.iiif_http_front.specs.declared.status.Status.TheVariants as status

-- the status's number (RFC 9110, sections 15.3 to 15.6)
abbrev pub code_of : Status → ℕ
code_of status.Ok = 200
code_of status.SeeOther = 303
code_of status.BadRequest = 400
code_of status.NotFound = 404
code_of status.MethodNotAllowed = 405
code_of status.InternalServerError = 500
code_of status.NotImplemented = 501
code_of status.ServiceUnavailable = 503

-- the phrase that stands behind the number in a status line, empty where the server has no such status (RFC 9112, section 4)
abbrev pub reason_phrase : ℕ → List ℕ
reason_phrase n =
    if n == 200 then codes "OK" else (
    if n == 303 then codes "See Other" else (
    if n == 400 then codes "Bad Request" else (
    if n == 404 then codes "Not Found" else (
    if n == 405 then codes "Method Not Allowed" else (
    if n == 500 then codes "Internal Server Error" else (
    if n == 501 then codes "Not Implemented" else (
    if n == 503 then codes "Service Unavailable" else [])))))))

-- a number of three digits (RFC 9110, section 15)
abbrev pub IsStatusCode : ℕ → Type 0
IsStatusCode n = (100 ≤ n) × (n < 1000)
