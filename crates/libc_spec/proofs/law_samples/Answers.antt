use Rattle.std.proofs.Common.{refl}
use Rattle.libc_spec.proofs.law_samples.Goals as goal

pub returns : goal.returns
returns c = record {
  length = refl;
  length_items = refl;
  no_zero = refl;
  null_text = refl;
  below = refl;
  below_items = refl;
  found = refl;
  not_found = refl;
  on_itself = refl;
  to_const = refl;
  overlapping = refl;
  filled = refl;
  next_byte = refl;
  byte_printed = refl;
  line_printed = refl;
  status = refl;
  too_large = refl;
  no_row = refl;
  no_heap = refl;
}
