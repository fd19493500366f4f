-- The text is that of the value, and states the certificate.
use Rattle.std.proofs.Common.{◌≡◌, string_bytes, rules}
use Rattle.certificate_writing.specs.Writing.{IsTextOf}
use Rattle.certificate_writing.proofs.Entries.{text_of}
use Rattle.certificate_writing.proofs.Stated.{text_states}
use Rattle.certificate_writing.proofs.write.to_json.Goals as goal

pub returns : goal.returns
returns c =
    let v = c.in_ok-value.ensures.value in
    let same : c.in_ok-from_slice.field-0 ≡ string_bytes c.in_ok-text.text = search rules in
    let text : IsTextOf c.args.c.now c.in_ok-from_slice.field-0 = text_of c.args.c.now _ v.0 c.in_ok-from_slice.field-0
    (string_bytes c.in_ok-text.text) v.1 v.2 same c.in_ok-text.ensures.text c.in_ok-text.ensures.reads_back in
    record { text = text; states = text_states c.args.c.now c.in_ok-from_slice.field-0 c.in_ok-text.text same c.in_ok-value.ensures.bytes text }
