-- What an answer says, and the part of it that is written.
use Rattle.std.specs.Prelude.{ℕ, Bool, true, false, List, [], ◌∷◌, ◌++◌, codes, length}
use Rattle.iiif_http_front.specs.AnswerHeads.{head_text}
use Rattle.iiif_info.specs.Information.{info_text}
use Rattle.iiif_pixel.specs.Picture.{Picture}
use Rattle.iiif_pixel.specs.declared.geometry.Dim.{Dim}
use Rattle.iiif_tiff_write.specs.File.{file}
use Rattle.iiif_tiff_write.specs.OutKind.{out_kind_of}
use Rattle.iiif_tiff_write.specs.declared.kind.OutKind.{OutKind}
use Rattle.iiif_request.specs.Refusals.{status_of, line_of}
use Rattle.iiif_request.specs.declared.request.Request.{Request}
use Rattle.iiif_request.specs.declared.request.Refusal.{Refusal}
use Rattle.iiif_request.specs.declared.request.Refusal.TheVariants.{Method}
use Rattle.iiif_canonical.specs.Texts.{image_uri_of, uri_of}
use Rattle.iiif_answers.specs.Answers.{Reply, refused, redirect, described, given}
use Rattle.iiif_answers.specs.Kinds.{kind_of, depth_of}
use Rattle.iiif_answers.specs.Sent.{Answer}
use Rattle.iiif_answers.specs.Settings.{Settings, limits_of}
use Rattle.iiif_answers.specs.declared.part.Part.{Part}
use Rattle.iiif_answers.specs.declared.part.Part.TheVariants.{Body, Whole, Head}

-- a status, the names and values of fields, and a body (RFC 9110, section 6)
pub record Response : Type 0 where
  pub status : ℕ
  pub fields : List (List ℕ × List ℕ)
  pub body : List ℕ

-- the media type of the body (RFC 9110, section 8.3)
abbrev pub content_type : List ℕ → List ℕ × List ℕ
content_type media = (codes "Content-Type", media)

-- pages of every origin may read the answer (IIIF Image API 3.0, section 7.1; Fetch, section 3.3.3)
abbrev pub any_origin : List ℕ × List ℕ
any_origin = (codes "Access-Control-Allow-Origin", codes "*")

-- the methods that are answered, where another was asked for (RFC 9110, section 10.2.1)
abbrev pub allowed_methods : Refusal → List (List ℕ × List ℕ)
allowed_methods Method = (codes "Allow", codes "GET, HEAD") ∷ []
allowed_methods _ = []

-- the URI of an item's information (IIIF Image API 3.0, section 2.2)
abbrev pub information_uri : List ℕ → List ℕ → List ℕ
information_uri base name = image_uri_of base name ++ codes "/info.json"

-- the value of the field that gives the canonical URI (IIIF Image API 3.0, section 7.2; RFC 8288, section 3)
abbrev pub canonical_link : List ℕ → List ℕ
canonical_link uri = codes "<" ++ uri ++ codes ">;rel=\"canonical\""

-- a line and a line feed
abbrev pub line : List ℕ → List ℕ
line text = text ++ 10 ∷ []

-- a line of text about what kept the server from another answer
abbrev pub line_response : ℕ → List (List ℕ × List ℕ) → List ℕ → Response
line_response status more text = record {
  status = status;
  fields = content_type (codes "text/plain") ∷ any_origin ∷ more;
  body = line text;
}

abbrev pub refusal_response : Refusal → Response
refusal_response e = line_response (status_of e) (allowed_methods e) (line_of e)

-- IIIF Image API 3.0, section 2.2; RFC 9110, sections 10.2.2 and 15.4.4
abbrev pub redirect_response : List ℕ → List ℕ → Response
redirect_response base name = record {
  status = 303;
  fields = any_origin ∷ (codes "Location", information_uri base name) ∷ [];
  body = [];
}

-- the media type of JSON-LD in the profile of the API (IIIF Image API 3.0, section 5.1)
abbrev pub json_ld : List ℕ
json_ld = codes "application/ld+json;profile=\"http://iiif.io/api/image/3/context.json\""

-- IIIF Image API 3.0, section 5
abbrev pub information_response : Settings → List ℕ → Dim → Response
information_response s name d = record {
  status = 200;
  fields = content_type json_ld ∷ any_origin ∷ [];
  body = info_text s.base name d (limits_of s) s.edge;
}

-- IIIF Image API 3.0, sections 4 and 7.2
abbrev pub image_response : List ℕ → List ℕ → Request → Picture → OutKind → Response
image_response base name canonical image kind = record {
  status = 200;
  fields = content_type (codes "image/tiff") ∷ any_origin ∷ (codes "Link", canonical_link (uri_of base name canonical)) ∷ [];
  body = file image kind;
}

abbrev pub response_of : {S : Type 0} → Settings → Reply S → Response
response_of s (refused e) = refusal_response e
response_of s (redirect item) = redirect_response s.base item.name
response_of s (described item d) = information_response s item.name d
response_of s (given g) = image_response s.base g.item.name g.canonical g.image
    (out_kind_of (kind_of g.picture) (depth_of g.picture) g.request.quality)

-- the answers where a read of the image's source failed, and where memory ran out
abbrev pub source_fault : Response
source_fault = line_response 500 [] (codes "L1 source")

abbrev pub want_of_memory : Response
want_of_memory = line_response 500 [] (codes "L2 memory")

-- the head that is written with a part of an answer whose body has this length
abbrev pub head_in : Part → ℕ → List (List ℕ × List ℕ) → ℕ → List ℕ
head_in Body status fields len = []
head_in (Whole close) status fields len = head_text status fields len close
head_in (Head close) status fields len = head_text status fields len close

-- the body that is written: a head alone still says the length of the body that it leaves out (RFC 9110, section 9.3.2)
abbrev pub body_in : Part → List ℕ → List ℕ
body_in Body body = body
body_in (Whole close) body = body
body_in (Head close) body = []

-- that part of an answer, as it is written
abbrev pub written : Part → Response → Answer
written part r = record {
  status = r.status;
  head = head_in part r.status r.fields (length r.body);
  body = body_in part r.body;
}

-- an image is loaded where its body is sent
abbrev pub is_loaded : Part → Bool
is_loaded Body = true
is_loaded (Whole close) = true
is_loaded (Head close) = false
