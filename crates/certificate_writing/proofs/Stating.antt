-- The value of a certificate that keeps the form states the certificate.
use Rattle.std.proofs.Common.{
  ◌≡◌,
  ℕ,
  zero,
  suc,
  ◌-◌,
  ◌^◌,
  ◌<◌,
  ◌≤◌,
  ◌/◌,
  ◌%◌,
  Bool,
  true,
  false,
  cond,
  ◌&&◌,
  nat_lt,
  nat_le,
  List,
  [],
  ◌∷◌,
  ◌++◌,
  length,
  map,
  get_or,
  Option,
  Some,
  None,
  option_map,
  All,
  Contains,
  slice_get,
  refl,
  sym,
  ap,
  subst,
  ◌∙◌,
  arith,
  append_assoc,
  append-nil,
  length-append,
}
use Rattle.std.specs.Prelude.{slice_index}
use Rattle.std.specs.List.{list_all}
use Rattle.std.proofs.lemmas.Bool.Decides.{nat_tests}
use Rattle.std.proofs.lemmas.List.Elements.{All-head, All-tail}
use Rattle.std.proofs.lemmas.Option.{slice_get-get_or}
use Rattle.std.proofs.Math.Seq.{get_or-append_seam}
use Rattle.std.proofs.lemmas.List.{get_or_append_left}
use Rattle.hex.specs.Hex.{IsBytes, encode_lower, encode_with, lower_digits, decode_of}
use Rattle.hex.proofs.HexLemmas.{decode_of-encode_lower}
use Rattle.serde_json.specs.Data.{Data, string}
use Rattle.ub_base.specs.Frames.{IsFrameList}
use Rattle.ub_base.specs.Frames as frames
use Rattle.ub_base.specs.declared.clause.Kind.{Kind}
use Rattle.ub_base.specs.declared.clause.Kind.TheVariants.{Val, Eff, Body}
use Rattle.ub_base.specs.declared.clause.Cause.{Cause}
use Rattle.ub_base.specs.declared.clause.Cause.TheVariants.{Output, Created, Depth, Conversion, Directive}
use Rattle.ub_base.specs.declared.names.Event.{Event}
use Rattle.ub_base.specs.declared.names.Frame.{Frame}
use Rattle.certificate.specs.declared.cert.Segment.{Segment}
use Rattle.certificate.specs.declared.cert.Segment.TheVariants.{Canonical, Pick}
use Rattle.certificate.specs.Form.{IsFrameRow, HasFrames, IsSegment, IsEventOf, total_picks}
use Rattle.certificate_writing.specs.Words.{kind_text, cause_text}
use Rattle.certificate_text.specs.Reading.{
  ◌>>=◌,
  kept,
  kind_named,
  cause_named,
  number_in,
  small_in,
  frame_in,
  list_in,
  kind_in,
  frame_row_of,
  can_follow,
  more_frames,
  number_or_pick,
  segment_in,
  segments_in,
  event_in,
  two_events,
  is_lower_digit,
  decoded,
}
use Rattle.certificate_writing.specs.Writing.{whole, list, frame_entry, event_entry, segment_entry}
use Rattle.certificate_text.proofs.Steps.{list_of-items_of}
use Rattle.certificate_text.proofs.FrameSteps.{follows}

-- ---- steps that give something

pub below : (n m : ℕ) → n < m → nat_lt n m ≡ true
below n m lt = grind (arith, nat_tests, lt)

pub up_to : (n m : ℕ) → n ≤ m → nat_le n m ≡ true
up_to n m le = grind (arith, nat_tests, le)

pub kept_back : {A : Type 0} (test : A → Bool) (x : A) → test x ≡ true → kept test x ≡ Some x
kept_back test x passes = ap (λ b. cond b (Some x) None) passes

pub then_back : {A B : Type 0} (o : Option A) (x : A) (f : A → Option B) (y : B) → o ≡ Some x → f x ≡ Some y → (o >>= f) ≡ Some y
then_back o x f y is next = ap (λ p. p >>= f) is ∙ next

pub number_back : (n : ℕ) → n < 2 ^ 63 → number_in (whole n) ≡ Some n
number_back n lt = kept_back (λ m. nat_lt m (2 ^ 63)) n (below n (2 ^ 63) lt)

pub small_back : (n : ℕ) → n < 2 ^ 32 → small_in (whole n) ≡ Some n
small_back n lt = kept_back (λ m. nat_lt m (2 ^ 32)) n (below n (2 ^ 32) lt)

pub list_back : (ds : List Data) → list_in (list ds) ≡ Some ds
list_back ds = ap Some (list_of-items_of ds)

pub frame_back : (count : ℕ) (f : Frame) → count < 2 ^ 31 → f.0 ≤ count → frame_in count (whole f.0) ≡ Some f
frame_back count f few there =
    then_back (small_in (whole f.0)) f.0 _ f (small_back f.0 (omega arith))
    (then_back (kept (λ n. nat_le n count) f.0) f.0 _ f (kept_back (λ n. nat_le n count) f.0 (up_to f.0 count there)) refl)

kind_back : (kind : Kind) → kind_named (kind_text kind) ≡ Some kind
kind_back Val = refl
kind_back Eff = refl
kind_back Body = refl

pub cause_back : (cause : Cause) → cause_named (cause_text cause) ≡ Some cause
cause_back Output = refl
cause_back Created = refl
cause_back Depth = refl
cause_back Conversion = refl
cause_back Directive = refl

-- ---- frames

frame_row_back : (row : frames.Row) → row.0.0 < 2 ^ 32 → IsFrameRow row → frame_row_of (frame_entry row) ≡ Some row
frame_row_back row parent has =
    then_back (small_in (whole row.0.0)) row.0.0 _ row (small_back row.0.0 parent)
    (then_back (number_in (whole row.1)) row.1 _ row (number_back row.1 has.turn)
    (then_back (small_in (whole row.2)) row.2 _ row (small_back row.2 has.node) refl))

here : (before rows : List frames.Row) (row : frames.Row) → slice_get (before ++ row ∷ rows) (length before) ≡ Some row
here before rows row =
    let within : length before < length (before ++ row ∷ rows) = omega (arith, length-append before (row ∷ rows)) in
    slice_get-get_or (before ++ row ∷ rows) (length before) row within ∙ ap Some (get_or-append_seam before row rows row)

earlier_there : (before rows : List frames.Row) (row : frames.Row) (i : ℕ) → i < length before → row ≡ get_or before i row
    → slice_get (before ++ rows) i ≡ Some row
earlier_there before rows row i lt is =
    let within : i < length (before ++ rows) = omega (arith, length-append before rows) in
    slice_get-get_or (before ++ rows) i row within ∙ ap Some (get_or_append_left before rows row i lt ∙ sym is)

not_again : (before rows : List frames.Row) (row : frames.Row) → IsFrameList (before ++ row ∷ rows) → Contains before row → ⊥
not_again before rows row sound found =
    let again = sound.distinct found.0 (length before) row (earlier_there before (row ∷ rows) row found.0 found.1 (sym found.2)) (here before rows row) in
    absurd (omega (arith, again, found.1))

pub frames_back : (before rows : List frames.Row) → HasFrames (before ++ rows) → All IsFrameRow rows
    → more_frames before (map frame_entry rows) ≡ Some (before ++ rows)
frames_back before [] has numbers = ap Some (sym (append-nil before))
frames_back before (row ∷ rows) has numbers =
    let few = has.few in
    let all = length-append before (row ∷ rows) in
    let parent : row.0.0 ≤ length before = has.sound.earlier (length before) row (here before rows row) in
    let room : length before < 2 ^ 31 - 1 = omega (arith, few, all) in
    let this = frame_row_back row (omega (arith, parent, room)) (All-head IsFrameRow row rows numbers) in
    let passes = follows before row parent room (not_again before rows row has.sound) in
    let rest = frames_back (before ++ row ∷ []) rows (subst HasFrames (sym (append_assoc before (row ∷ []) rows)) has) (All-tail IsFrameRow row rows numbers)
    in
    then_back (frame_row_of (frame_entry row)) row _ (before ++ row ∷ rows) this
    (then_back (kept (can_follow before) row) row _ (before ++ row ∷ rows) (kept_back (can_follow before) row passes)
    (rest ∙ ap Some (append_assoc before (row ∷ []) rows)))

-- ---- the order

pub segment_back : (segment : Segment) → IsSegment segment → total_picks (segment ∷ []) ≤ 100000000 → segment_in (segment_entry segment) ≡ Some segment
segment_back (Canonical count) some few =
    ap (λ o. number_or_pick o None) (number_back count (omega arith)) ∙ ap (option_map Canonical) (kept_back (nat_lt 0) count (below 0 count some))
segment_back (Pick node kind) small few =
    then_back (small_in (whole node)) node _ (Pick node kind) (small_back node small)
    (then_back (kind_in (string (kind_text kind))) kind _ (Pick node kind) (kind_back kind) refl)

pub segments_back : (order : List Segment) → All IsSegment order → total_picks order ≤ 100000000 → segments_in (map segment_entry order) ≡ Some order
segments_back [] all few = refl
segments_back (segment ∷ order) all few =
    then_back (segment_in (segment_entry segment)) segment _ (segment ∷ order)
    (segment_back segment (All-head IsSegment segment order all) (omega arith))
    (then_back (segments_in (map segment_entry order)) order _ (segment ∷ order)
    (segments_back order (All-tail IsSegment segment order all) (omega arith)) refl)

-- ---- events and pairs

pub event_back : (count : ℕ) (event : Event) → count < 2 ^ 31 → IsEventOf count event → event_in count (event_entry event) ≡ Some event
event_back count event few is =
    then_back (frame_in count (whole event.frame.0)) event.frame _ event (frame_back count event.frame few is.frame)
    (then_back (number_in (whole event.turn)) event.turn _ event (number_back event.turn is.turn)
    (then_back (small_in (whole event.node)) event.node _ event (small_back event.node is.node)
    (then_back (kind_in (string (kind_text event.kind))) event.kind _ event (kind_back event.kind) refl)))

pub pair_back : (count : ℕ) (event against : Event) → count < 2 ^ 31 → IsEventOf count event → IsEventOf count against
    → two_events count (event_entry event ∷ event_entry against ∷ []) ≡ Some (event, against)
pair_back count event against few first second =
    then_back (event_in count (event_entry event)) event _ (event, against) (event_back count event few first)
    (then_back (event_in count (event_entry against)) against _ (event, against) (event_back count against few second) refl)

-- ---- the output

and_parts : (a b : Bool) → (a && b) ≡ true → (a ≡ true) × (b ≡ true)
and_parts true true h = (refl, refl)
and_parts true false h = absurd (cc)
and_parts false b h = absurd (cc)

at_place : (test : ℕ → Bool) (xs : List ℕ) (i : ℕ) → list_all test xs ≡ true → i < length xs → test (slice_index xs i) ≡ true
at_place test [] i all lt = absurd (omega arith)
at_place test (x ∷ xs) zero all lt = (and_parts (test x) (list_all test xs) all).0
at_place test (x ∷ xs) (suc i) all lt = at_place test xs i (and_parts (test x) (list_all test xs) all).1 (omega arith)

digit_is_lower : (n : ℕ) → n < 16 → is_lower_digit (slice_index lower_digits n) ≡ true
digit_is_lower n lt = at_place is_lower_digit lower_digits n refl lt

both_true : (a b c : Bool) → a ≡ true → b ≡ true → c ≡ true → (a && (b && c)) ≡ true
both_true a b c p q r = rw (p, q, r) refl

digits_lower : (bytes : List ℕ) → IsBytes bytes → list_all is_lower_digit (encode_lower bytes) ≡ true
unfolding encode_with
digits_lower [] is = refl
digits_lower (b ∷ bytes) is =
    let fits : b < 256 = is 0 in
    let high : b / 16 < 16 = omega arith in
    let low : b % 16 < 16 = omega arith in
    both_true _ _ _ (digit_is_lower (b / 16) high) (digit_is_lower (b % 16) low) (digits_lower bytes (λ k. is (suc k)))

pub output_back : (bytes : List ℕ) → IsBytes bytes → (kept (list_all is_lower_digit) (encode_lower bytes) >>= λ digits. decoded (decode_of digits)) ≡ Some
    bytes
output_back bytes is =
    then_back (kept (list_all is_lower_digit) (encode_lower bytes)) (encode_lower bytes) _ bytes
    (kept_back (list_all is_lower_digit) (encode_lower bytes) (digits_lower bytes is))
    (ap decoded (decode_of-encode_lower bytes is))
