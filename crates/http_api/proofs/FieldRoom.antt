-- How many fields a head of so many bytes may have.
use Rattle.std.proofs.Common.{◌≡◌, ℕ, ◌+◌, ◌*◌, ◌<◌, ◌≤◌, List, [], ◌∷◌, ◌++◌, length, flat_map, All, ap, ◌∙◌, arith, length-append, append-nil}
use Rattle.std.proofs.lemmas.List.Elements.{All-head, All-tail}
use Rattle.std.proofs.lemmas.List.Concat.{flat_map-cons}
use Rattle.httparse.specs.Grammar.{LineEnd, crlf, lf, print_end, print_blank, print_version, Field, print_field, IsField, RequestHead, IsRequestHead, print_request, ReadsRequest}

end-size : (end : LineEnd) → 1 ≤ length (print_end end)
end-size crlf = omega arith
end-size lf = omega arith

line-size : (name raw end : List ℕ) (byte : ℕ) → 0 < length name → 1 ≤ length end → 3 ≤ length (name ++ byte ∷ raw ++ end)
line-size name raw end byte some ended = simp length-append (omega arith)

-- a field has a name, a colon and a line end
field-size : (field : Field) → IsField field → 3 ≤ length (print_field field)
field-size field is = line-size field.name field.raw (print_end field.end) 58 is.name.0 (end-size field.end)

fields-size : (fields : List Field) → All IsField fields → 3 * length fields ≤ length (flat_map print_field fields)
fields-size [] all = omega arith
fields-size (field ∷ fields) all =
    let first = field-size field (All-head IsField field fields all) in
    let more = fields-size fields (All-tail IsField field fields all) in
    let whole : length (flat_map print_field (field ∷ fields)) ≡ length (print_field field) + length (flat_map print_field fields) =
    ap (length {A = ℕ}) (flat_map-cons print_field field fields) ∙ length-append (print_field field) (flat_map print_field fields) in
    omega arith

part-size : (a b c d e f g : List ℕ) → length f ≤ length (a ++ b ++ 32 ∷ c ++ 32 ∷ d ++ e ++ (f ++ g))
part-size a b c d e f g = simp length-append (omega arith)

pub head-size : (head : RequestHead) → IsRequestHead head → 3 * length head.fields ≤ length (print_request head)
unfolding print_request
head-size head is =
    let fields = fields-size head.fields is.fields in
    let part : length (flat_map print_field head.fields) ≤ length (print_request head) = part-size (print_blank head.blank) head.method head.target (print_version head.minor) (print_end head.line_end) (flat_map print_field head.fields) (print_end head.last) in
    omega arith

-- so do the bytes that it was read from
pub read-size : (bytes : List ℕ) (head : RequestHead) → ReadsRequest bytes head [] → (length bytes ≡ length (print_request head)) × (3 * length head.fields ≤ length bytes)
read-size bytes head reads =
    let whole : length bytes ≡ length (print_request head) = ap (length {A = ℕ}) (reads.1 ∙ append-nil (print_request head)) in
    let size = head-size head reads.0 in
    (whole, omega arith)
