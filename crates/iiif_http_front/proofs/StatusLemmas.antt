-- Statuses: the numbers and phrases are those of the crate `http`.
use Rattle.std.proofs.Common.{◌≡◌, refl, Some, arith}
use Rattle.http.specs.StatusCode.{reason_phrase as http_phrase}
use Rattle.iiif_http_front.specs.Statuses.{code_of, reason_phrase, IsStatusCode}
use Rattle.iiif_http_front.specs.declared.status.Status.{Status}
use Rattle.iiif_http_front.specs.declared.status.Status.TheVariants as status

-- a status has the phrase that `http` gives to its number
pub same_phrase : (s : Status) → http_phrase (code_of s) ≡ Some (reason_phrase (code_of s))
same_phrase status.Ok = refl
same_phrase status.SeeOther = refl
same_phrase status.BadRequest = refl
same_phrase status.NotFound = refl
same_phrase status.MethodNotAllowed = refl
same_phrase status.InternalServerError = refl
same_phrase status.NotImplemented = refl
same_phrase status.ServiceUnavailable = refl

-- a status's number has three digits
pub has_three_digits : (s : Status) → IsStatusCode (code_of s)
has_three_digits status.Ok = (omega arith, omega arith)
has_three_digits status.SeeOther = (omega arith, omega arith)
has_three_digits status.BadRequest = (omega arith, omega arith)
has_three_digits status.NotFound = (omega arith, omega arith)
has_three_digits status.MethodNotAllowed = (omega arith, omega arith)
has_three_digits status.InternalServerError = (omega arith, omega arith)
has_three_digits status.NotImplemented = (omega arith, omega arith)
has_three_digits status.ServiceUnavailable = (omega arith, omega arith)
