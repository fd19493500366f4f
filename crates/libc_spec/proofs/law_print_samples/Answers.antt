use Rattle.std.proofs.Common.{refl}
use Rattle.libc_spec.proofs.law_print_samples.Goals as goal

pub returns : goal.returns
returns c = record {
  row_0 = refl;
  row_1 = refl;
  row_2 = refl;
  row_3 = refl;
  row_4 = refl;
  row_5 = refl;
  row_6 = refl;
  row_7 = refl;
  row_8 = refl;
  row_9 = refl;
  row_10 = refl;
  row_11 = refl;
  row_12 = refl;
  row_13 = refl;
  row_14 = refl;
  row_15 = refl;
  row_16 = refl;
  row_17 = refl;
  row_18 = refl;
  row_19 = refl;
  row_20 = refl;
  row_21 = refl;
  row_22 = refl;
  row_23 = refl;
  row_24 = refl;
  row_25 = refl;
  row_26 = refl;
  row_27 = refl;
  row_28 = refl;
  row_29 = refl;
  refusal_0 = refl;
  refusal_1 = refl;
  refusal_2 = refl;
  refusal_3 = refl;
  refusal_4 = refl;
  refusal_5 = refl;
  items_0 = refl;
  items_1 = refl;
  items_2 = refl;
  stream_0 = refl;
  stream_1 = refl;
  stream_2 = refl;
  stream_3 = refl;
  stream_4 = refl;
}
