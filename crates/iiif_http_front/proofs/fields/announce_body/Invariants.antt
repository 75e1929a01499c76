use Rattle.std.proofs.Common.{◌≡◌, map, drop}
use Rattle.std.specs.List.{list_any}
use Rattle.httparse.specs.Spans.{header_bytes}
use Rattle.iiif_http_front.specs.RequestHeads.{is_body_field}
use Rattle.iiif_http_front.proofs.fields.announce_body.Given as goal

abbrev pub invariant-loop-header : goal.invariant-loop-header
invariant-loop-header l =
    list_any is_body_field (map (header_bytes l.bytes) l.headers)
    ≡ list_any is_body_field (map (header_bytes l.bytes) (drop l.header-index l.headers))
