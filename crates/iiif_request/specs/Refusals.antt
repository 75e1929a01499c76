-- Refusals as they are answered, and faults of targets by number.
--
-- `status_of`: the status of a refusal's answer. `line_of`: the one line of its body. `fault_number`: the number of a fault.
use Rattle.std.specs.Prelude.{ℕ, List, codes}
use Rattle.iiif_request.specs.declared.request.Refusal.{Refusal}
use Rattle.iiif_request.specs.declared.target.SplitFault.{SplitFault}
use Rattle.iiif_request.specs.declared.target.SplitFault.TheVariants as fault
use Rattle.iiif_request.specs.declared.request.Refusal.TheVariants.{Head, Method, Path, Identifier, Region, Size, Rotation, Quality}
use Rattle.iiif_request.specs.declared.request.Refusal.TheVariants.{Format, Empty, Zero, Larger, Upscale, Limit}

-- RFC 9110, sections 15.5.1, 15.5.5, 15.5.6 and 15.6.2: 400 Bad Request, 404 Not Found, 405 Method Not Allowed, 501 Not Implemented;
-- IIIF Image API 3.0, section 7
abbrev pub status_of : Refusal → ℕ
status_of Head = 400
status_of Method = 405
status_of Path = 400
status_of Identifier = 404
status_of Region = 400
status_of Size = 400
status_of Rotation = 400
status_of Quality = 400
status_of Format = 400
status_of Empty = 400
status_of Zero = 400
status_of Larger = 400
status_of Upscale = 501
status_of Limit = 400

-- IIIF Image API 3.0, section 7: the body tells the error, by the number and the name of the check that failed
abbrev pub line_of : Refusal → List ℕ
line_of Head = codes "Q1 head"
line_of Method = codes "Q2 method"
line_of Path = codes "Q3 path"
line_of Identifier = codes "Q4 identifier"
line_of Region = codes "Q5 region"
line_of Size = codes "Q6 size"
line_of Rotation = codes "Q7 rotation"
line_of Quality = codes "Q8 quality"
line_of Format = codes "Q9 format"
line_of Empty = codes "Q10 empty"
line_of Zero = codes "Q11 zero"
line_of Larger = codes "Q12 larger"
line_of Upscale = codes "Q13 upscale"
line_of Limit = codes "Q14 limit"

-- IIIF Image API 3.0, section 2: a target that asks for nothing is fault 1; want of memory is fault 2
abbrev pub fault_number : SplitFault → ℕ
fault_number fault.Path = 1
fault_number fault.NoMemory = 2
