-- What the parser's spans say of a call.
use Rattle.std.proofs.Common.{◌≡◌, ℕ, ◌≤◌, List, length, take, drop, map, sym, ap, ◌∙◌, arith, true, false}
use Rattle.std.specs.Prelude.{◌==◌, ◌||◌}
use Rattle.std.specs.List.{list_any}
use Rattle.std.proofs.lemmas.List.{length-take, length-map}
use Rattle.httparse.specs.Grammar.{RequestHead}
use Rattle.httparse.specs.Spans.{span_bytes, header_bytes, name_and_value, IsRequestAt}
use Rattle.httparse.specs.declared.spans.HeaderSpan.{HeaderSpan}
use Rattle.httparse.specs.declared.spans.RequestSpans.{RequestSpans}
use Rattle.iiif_http_front.specs.Methods.{method_text}
use Rattle.iiif_http_front.specs.RequestHeads.{BeginsWithCall, announces_body, closes, is_body_field, is_close_field}
use Rattle.iiif_http_front.specs.Reading.{IsCallOf, IsBad, has_body}
use Rattle.iiif_http_front.specs.declared.call.Call.{Call}

pub call_begins : (bytes : List ℕ) (headers : List HeaderSpan) (r : RequestSpans) (h : RequestHead) → IsRequestAt bytes headers r h
    → length headers ≤ 64 → r.len ≤ 8192 → list_any is_body_field (map (header_bytes bytes) (take r.headers headers)) ≡ false
    → BeginsWithCall bytes h (drop r.len bytes)
unfolding announces_body
call_begins bytes headers r h at room short bare =
    let same : length (map (header_bytes bytes) (take r.headers headers)) ≡ length (map name_and_value h.fields) = ap length at.fields in
    record {
      reads = at.reads;
      bytes = omega (arith, at.len);
      fields = omega (
        arith,
        same,
        length-map (take r.headers headers) (header_bytes bytes),
        length-map h.fields name_and_value,
        length-take r.headers headers,
      );
      bare = sym (ap (list_any is_body_field) at.fields) ∙ bare;
    }

pub body_announced : (bytes : List ℕ) (headers : List HeaderSpan) (r : RequestSpans) (h : RequestHead) → IsRequestAt bytes headers r h
    → list_any is_body_field (map (header_bytes bytes) (take r.headers headers)) ≡ true → IsBad bytes
unfolding announces_body
body_announced bytes headers r h at announced =
    has_body h (drop r.len bytes) at.reads (sym (ap (list_any is_body_field) at.fields) ∙ announced)

pub call_said : (bytes : List ℕ) (headers : List HeaderSpan) (r : RequestSpans) (h : RequestHead) (call : Call) →
    IsRequestAt bytes headers r h
    → method_text call.method ≡ span_bytes bytes r.method → call.target.items ≡ span_bytes bytes r.path
    → call.close ≡ (r.version == 0 || list_any is_close_field (map (header_bytes bytes) (take r.headers headers)))
    → IsCallOf call h
unfolding closes
call_said bytes headers r h call at method target close = record {
  method = method ∙ at.method;
  target = target ∙ at.path;
  close = close ∙ ap (λ n. n == 0 || list_any is_close_field (map (header_bytes bytes) (take r.headers headers))) at.version
      ∙ ap (λ t. h.minor == 0 || list_any is_close_field t) at.fields;
}
