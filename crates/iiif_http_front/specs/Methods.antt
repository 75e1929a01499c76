-- Methods of requests (RFC 9110, section 9).
--   method_text m    the method's name, as the request line spells it
use Rattle.std.specs.Prelude.{ℕ, List, codes}
use Rattle.iiif_http_front.specs.declared.method.Method.{Method}
use Rattle.iiif_http_front.specs.declared.method.Method.TheVariants.{Get, Head, Other}

-- the name, which is compared with case (RFC 9110, section 9.1)
abbrev pub method_text : Method → List ℕ
method_text Get = codes "GET"
method_text Head = codes "HEAD"
method_text (Other m) = m.name.items
