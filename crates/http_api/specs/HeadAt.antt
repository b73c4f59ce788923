-- A head by where its parts stand in bytes.
use Rattle.std.specs.Prelude.{ℕ, List, map, take}
use Rattle.httparse.specs.Spans.{header_bytes, span_bytes}
use Rattle.httparse.specs.declared.spans.HeaderSpan.{HeaderSpan}
use Rattle.httparse.specs.declared.spans.RequestSpans.{RequestSpans}
use Rattle.http_api.specs.HeadValue.{HeadValue}

-- the parts of a head, of whose fields so many places are taken
abbrev pub head_at : List ℕ → RequestSpans → List HeaderSpan → HeadValue
head_at bytes parts fields = record {
  method = span_bytes bytes parts.method;
  target = span_bytes bytes parts.path;
  minor = parts.version;
  fields = map (header_bytes bytes) (take parts.headers fields);
}
