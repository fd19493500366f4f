-- A certificate that a value states keeps the form of the value's version.
use Rattle.std.proofs.Common.{
  ◌≡◌,
  ℕ,
  zero,
  suc,
  ◌+◌,
  ◌-◌,
  ◌*◌,
  ◌^◌,
  ◌<◌,
  ◌≤◌,
  ◌⊎◌,
  inl,
  inr,
  Bool,
  true,
  false,
  not,
  ◌&&◌,
  cond,
  nat_lt,
  nat_le,
  List,
  [],
  ◌∷◌,
  ◌++◌,
  length,
  Option,
  Some,
  None,
  Result,
  Ok,
  Err,
  All,
  refl,
  subst,
  arith,
  length-append,
  codes,
}
use Rattle.std.specs.List.{list_any}
use Rattle.std.specs.Str.{bytes_eq}
use Rattle.std.proofs.lemmas.Bool.Decides.{nat_tests}
use Rattle.std.proofs.lemmas.List.Elements.{All-nil, All-cons, All-append, All-push}
use Rattle.serde_json.specs.Data.{Data}
use Rattle.serde_json.specs.Find.{get, as_str}
use Rattle.ub_base.specs.Frames.{IsFrameList}
use Rattle.ub_base.specs.Frames as frames
use Rattle.ub_base.proofs.FrameLemmas.{absent-list_any, IsFrameList-push}
use Rattle.ub_base.specs.declared.names.Event.{Event}
use Rattle.ub_base.specs.declared.names.Frame.{Frame}
use Rattle.ub_base.specs.declared.names.ObjName.{ObjName}
use Rattle.ub_base.specs.declared.names.ObjName.TheVariants.{Static, Lit, Argv, Arg, Auto, Heap}
use Rattle.addr_map.specs.declared.map.Row.{Row}
use Rattle.certificate.specs.declared.cert.Cert.{Cert}
use Rattle.certificate.specs.declared.cert.Claim.{Claim}
use Rattle.certificate.specs.declared.cert.Claim.TheVariants as claim
use Rattle.certificate.specs.declared.cert.Field.{Field}
use Rattle.certificate.specs.declared.cert.Segment.{Segment}
use Rattle.certificate.specs.declared.cert.Segment.TheVariants.{Canonical, Pick}
use Rattle.certificate_text.specs.declared.row.Stride.{Stride}
use Rattle.certificate_text.specs.declared.row.Run.{Run}
use Rattle.certificate_text.specs.declared.words.Verdict.{Verdict}
use Rattle.certificate_text.specs.declared.words.Verdict.TheVariants.{Clean, Undefined, OrderDependent, OutOfSteps, Outside}
use Rattle.certificate.specs.declared.cert.Version.{Version}
use Rattle.certificate.specs.declared.cert.Version.TheVariants.{One, Two}
use Rattle.certificate.specs.Form.{
  IsFrameRow,
  HasFrames,
  IsNameOf,
  IsRowOf,
  HasFewRows,
  IsSegment,
  IsOneNumber,
  SuitsClaim,
  IsEventOf,
  IsPairOf,
  IsClaimOf,
  HasForm,
  total_picks,
  most_picks,
}
use Rattle.certificate_text.specs.Reading.{
  ◌>>=◌,
  kept,
  whole_in,
  number_in,
  small_in,
  frame_in,
  list_in,
  kind_in,
  frame_row_in,
  frame_row_of,
  can_follow,
  same_row,
  more_frames,
  counted_in,
  framed_in,
  argv_in,
  placed,
  row_in,
  row_of,
  moved_name,
  row_at,
  run_rows,
  run_words,
  run_in,
  rows_of,
  row_or_run,
  entry_in,
  rows_in,
  has_few_rows,
  map_in,
  pick_in,
  number_or_pick,
  segment_in,
  segments_in,
  short_segments,
  is_one_number,
  suits,
  order_in,
  output_in,
  status_in,
  clause_in,
  cause_in,
  limit_in,
  event_parts,
  event_in,
  two_events,
  pair_or_none,
  need,
  claim_in,
  list_at,
  version_in,
  verdict_in,
  is_root,
  with_claim,
  parts_in,
  cert_in,
}
use Rattle.certificate_text.proofs.Steps.{then_some, map_some, kept_some, kept_below, kept_up_to}

number_bound : (d : Data) (n : ℕ) → number_in d ≡ Some n → n < 2 ^ 63
number_bound d n h = let t = then_some (kept (λ m. nat_lt m (2 ^ 63))) (whole_in d) n h in kept_below t.0 n (2 ^ 63) t.2

small_bound : (d : Data) (n : ℕ) → small_in d ≡ Some n → n < 2 ^ 32
small_bound d n h = let t = then_some (kept (λ m. nat_lt m (2 ^ 32))) (whole_in d) n h in kept_below t.0 n (2 ^ 32) t.2

frame_there : (count : ℕ) (d : Data) (f : Frame) → frame_in count d ≡ Some f → f.0 ≤ count
frame_there count d f h =
    let t = then_some _ (small_in d) f h in
    let k = then_some _ (kept (λ n. nat_le n count) t.0) f t.2 in
    let below = kept_up_to t.0 k.0 count k.1 in
    let same : f.0 ≡ k.0 = cc in
    omega (arith, below, same)

-- ---- frames

frame_row_numbers : (ds : List Data) (row : frames.Row) → frame_row_in ds ≡ Some row → IsFrameRow row
frame_row_numbers [] row h = absurd (cc)
frame_row_numbers (a ∷ []) row h = absurd (cc)
frame_row_numbers (a ∷ b ∷ []) row h = absurd (cc)
frame_row_numbers (a ∷ b ∷ c ∷ []) row h =
    let p = then_some _ (small_in a) row h in
    let t = then_some _ (number_in b) row p.2 in
    let n = then_some _ (small_in c) row t.2 in
    let turn_is : row.1 ≡ t.0 = cc in
    let node_is : row.2 ≡ n.0 = cc in
    record { turn = rw turn_is (number_bound b t.0 t.1); node = rw node_is (small_bound c n.0 n.1) }
frame_row_numbers (a ∷ b ∷ c ∷ d ∷ ds) row h = absurd (cc)

and_true : (a b c : Bool) → ((a && b) && c) ≡ true → (a ≡ true) × (b ≡ true) × (c ≡ true)
and_true true true true h = (refl, refl, refl)
and_true true true false h = absurd (cc)
and_true true false c h = absurd (cc)
and_true false b c h = absurd (cc)

not_true : (b : Bool) → not b ≡ true → b ≡ false
not_true true h = absurd (cc)
not_true false h = refl

frames_push : (before : List frames.Row) (row : frames.Row) → HasFrames before → IsFrameRow row → can_follow before row ≡ true → HasFrames (before ++ row ∷ [])
frames_push before row has numbers follows =
    let parts = and_true (nat_le row.0.0 (length before)) (nat_lt (length before) (2 ^ 31 - 1)) (not (list_any (same_row row) before)) follows in
    let parent : row.0.0 ≤ length before = grind (arith, nat_tests, parts.0) in
    let few : length before < 2 ^ 31 - 1 = grind (arith, nat_tests, parts.1) in
    let new = not_true (list_any (same_row row) before) parts.2 in
    record {
      few = omega (arith, few, length-append before (row ∷ []));
      sound = IsFrameList-push before row has.sound parent (absent-list_any row before new) (omega (arith, few));
      numbers = All-push IsFrameRow before row has.numbers numbers;
    }

frames_form : (before : List frames.Row) (ds : List Data) (rows : List frames.Row) → HasFrames before → more_frames before ds ≡ Some rows → HasFrames rows
frames_form before [] rows has h = let same : before ≡ rows = cc in subst HasFrames same has
frames_form before (d ∷ ds) rows has h =
    let r = then_some _ (frame_row_of d) rows h in
    let parts = then_some _ (list_in d) r.0 r.1 in
    let k = then_some _ (kept (can_follow before) r.0) rows r.2 in
    let passed = kept_some (can_follow before) r.0 k.0 k.1 in
    let numbers = frame_row_numbers parts.0 r.0 parts.2 in
    let next = frames_push before r.0 has numbers passed.0 in
    frames_form (before ++ k.0 ∷ []) ds rows (subst (λ row. HasFrames (before ++ row ∷ [])) passed.1 next) k.2

no_frames : HasFrames []
no_frames =
    record {
      few = omega arith;
      sound = record { few = omega arith; earlier = λ i row h. absurd (cc); distinct = λ i j row h g. absurd (cc) };
      numbers = All-nil IsFrameRow;
    }

-- ---- rows

placed_bounds : (name : ObjName) (b s a : Data) (row : Row) (count : ℕ) → IsNameOf count name → placed name b s a ≡ Some row → IsRowOf count row
placed_bounds name b s a row count named h =
    let t = then_some _ (number_in b) row h in
    let u = then_some _ (number_in s) row t.2 in
    let v = then_some _ (number_in a) row u.2 in
    let name_is : name ≡ row.name = cc in
    let base_is : row.base ≡ t.0 = cc in
    let size_is : row.size ≡ u.0 = cc in
    let align_is : row.align ≡ v.0 = cc in
    record {
      name = subst (IsNameOf count) name_is named;
      base = rw base_is (number_bound b t.0 t.1);
      size = rw size_is (number_bound s u.0 u.1);
      align = rw align_is (number_bound a v.0 v.1);
    }

counted_by : (a b c : Bool) (k count : ℕ) (name : ObjName) → k < 2 ^ 32 →
    cond a (Some (Static k)) (cond b (Some (Lit k)) (cond c (Some (Arg k)) None)) ≡ Some name → IsNameOf count name
counted_by true b c k count name small h = let same : Static k ≡ name = cc in subst (IsNameOf count) same small
counted_by false true c k count name small h = let same : Lit k ≡ name = cc in subst (IsNameOf count) same small
counted_by false false true k count name small h = let same : Arg k ≡ name = cc in subst (IsNameOf count) same small
counted_by false false false k count name small h = absurd (cc)

framed_by : (a b : Bool) (f : Frame) (t k count : ℕ) (name : ObjName) → f.0 ≤ count → t < 2 ^ 63 → k < 2 ^ 32
    → cond a (Some (Auto f t k)) (cond b (Some (Heap f t k)) None) ≡ Some name → IsNameOf count name
framed_by true b f t k count name there turn small h = let same : Auto f t k ≡ name = cc in subst (IsNameOf count) same (there, turn, small)
framed_by false true f t k count name there turn small h = let same : Heap f t k ≡ name = cc in subst (IsNameOf count) same (there, turn, small)
framed_by false false f t k count name there turn small h = absurd (cc)

argv_by : (b : Bool) (count : ℕ) (name : ObjName) → cond b (Some Argv) None ≡ Some name → IsNameOf count name
argv_by true count name h = let same : Argv ≡ name = cc in subst (IsNameOf count) same tt
argv_by false count name h = absurd (cc)

argv_named : (word : Data) (count : ℕ) (name : ObjName) → argv_in word ≡ Some name → IsNameOf count name
argv_named word count name h = let t = then_some _ (as_str word) name h in argv_by (bytes_eq t.0 (codes "argv")) count name t.2

counted_named : (word k : Data) (count : ℕ) (name : ObjName) → counted_in word k ≡ Some name → IsNameOf count name
counted_named word k count name h =
    let t = then_some _ (as_str word) name h in
    let n = then_some _ (small_in k) name t.2 in
    counted_by (bytes_eq t.0 (codes "static")) (bytes_eq t.0 (codes "lit")) (bytes_eq t.0 (codes "arg")) n.0 count name (small_bound k n.0 n.1) n.2

framed_named : (count : ℕ) (word at turn last : Data) (name : ObjName) → framed_in count word at turn last ≡ Some name → IsNameOf count name
framed_named count word at turn last name h =
    let f = then_some _ (frame_in count at) name h in
    let w = then_some _ (as_str word) name f.2 in
    let t = then_some _ (number_in turn) name w.2 in
    let k = then_some _ (small_in last) name t.2 in
    framed_by (bytes_eq w.0 (codes "auto")) (bytes_eq w.0 (codes "heap")) f.0 t.0 k.0 count name
    (frame_there count at f.0 f.1) (number_bound turn t.0 t.1) (small_bound last k.0 k.1) k.2

row_form : (count : ℕ) (ds : List Data) (row : Row) → row_in count ds ≡ Some row → IsRowOf count row
row_form count [] row h = absurd (cc)
row_form count (a ∷ []) row h = absurd (cc)
row_form count (a ∷ b ∷ []) row h = absurd (cc)
row_form count (a ∷ b ∷ c ∷ []) row h = absurd (cc)
row_form count (a ∷ b ∷ c ∷ d ∷ []) row h =
    let t = then_some _ (argv_in a) row h in placed_bounds t.0 b c d row count (argv_named a count t.0 t.1) t.2
row_form count (a ∷ b ∷ c ∷ d ∷ e ∷ []) row h =
    let t = then_some _ (counted_in a b) row h in placed_bounds t.0 c d e row count (counted_named a b count t.0 t.1) t.2
row_form count (a ∷ b ∷ c ∷ d ∷ e ∷ f ∷ []) row h = absurd (cc)
row_form count (a ∷ b ∷ c ∷ d ∷ e ∷ f ∷ g ∷ []) row h =
    let t = then_some _ (framed_in count a b c d) row h in placed_bounds t.0 e f g row count (framed_named count a b c d t.0 t.1) t.2
row_form count (a ∷ b ∷ c ∷ d ∷ e ∷ f ∷ g ∷ i ∷ ds) row h = absurd (cc)

moved_form : (name : ObjName) (by count : ℕ) (moved : ObjName) → IsNameOf count name → moved_name name by ≡ Some moved → IsNameOf count moved
moved_form (Static k) by count moved named h =
    let t = map_some Static (kept (λ n. nat_lt n (2 ^ 32)) (k + by)) moved h in subst (IsNameOf count) t.2 (kept_below (k + by) t.0 (2 ^ 32) t.1)
moved_form (Lit k) by count moved named h =
    let t = map_some Lit (kept (λ n. nat_lt n (2 ^ 32)) (k + by)) moved h in subst (IsNameOf count) t.2 (kept_below (k + by) t.0 (2 ^ 32) t.1)
moved_form Argv by count moved named h = absurd (cc)
moved_form (Arg k) by count moved named h =
    let t = map_some Arg (kept (λ n. nat_lt n (2 ^ 32)) (k + by)) moved h in subst (IsNameOf count) t.2 (kept_below (k + by) t.0 (2 ^ 32) t.1)
moved_form (Auto f turn k) by count moved named h =
    let t = map_some (λ u. Auto f u k) (kept (λ n. nat_lt n (2 ^ 63)) (turn + by)) moved h in
    subst (IsNameOf count) t.2 (named.0, kept_below (turn + by) t.0 (2 ^ 63) t.1, named.2)
moved_form (Heap f turn k) by count moved named h =
    let t = map_some (λ u. Heap f u k) (kept (λ n. nat_lt n (2 ^ 63)) (turn + by)) moved h in
    subst (IsNameOf count) t.2 (named.0, kept_below (turn + by) t.0 (2 ^ 63) t.1, named.2)

row_at_form : (first : Row) (stride : Stride) (at count : ℕ) (row : Row) → IsRowOf count first → row_at first stride at ≡ Some row → IsRowOf count row
row_at_form first stride at count row has h =
    let b = then_some _ (kept (λ n. nat_lt n (2 ^ 63)) (first.base + at * stride.step)) row h in
    let m = then_some _ (moved_name first.name (at * stride.raise)) row b.2 in
    let name_is : m.0 ≡ row.name = cc in
    let base_is : row.base ≡ b.0 = cc in
    let size_is : row.size ≡ first.size = cc in
    let align_is : row.align ≡ first.align = cc in
    record {
      name = subst (IsNameOf count) name_is (moved_form first.name (at * stride.raise) count m.0 has.name m.1);
      base = rw base_is (kept_below (first.base + at * stride.step) b.0 (2 ^ 63) b.1);
      size = rw size_is has.size;
      align = rw align_is has.align;
    }

run_form : (first : Row) (stride : Stride) (at n count : ℕ) (rows : List Row) → IsRowOf count first → run_rows first stride at n ≡ Some rows →
    All (IsRowOf count) rows
run_form first stride at zero count rows has h = let same : [] ≡ rows = cc in subst (All (IsRowOf count)) same (All-nil (IsRowOf count))
run_form first stride at (suc n) count rows has h =
    let r = then_some _ (row_at first stride at) rows h in
    let m = then_some _ (run_rows first stride (at + 1) n) rows r.2 in
    let same : r.0 ∷ m.0 ≡ rows = cc in
    subst (All (IsRowOf count)) same
    (All-cons (IsRowOf count) r.0 m.0 (row_at_form first stride at count r.0 has r.1) (run_form first stride (at + 1) n count m.0 has m.1))

words_by : (b : Bool) (made words : Run) (count : ℕ) → IsRowOf count made.first → cond b None (Some made) ≡ Some words → IsRowOf count words.first
words_by true made words count has h = absurd (cc)
words_by false made words count has h = let same : made ≡ words = cc in subst (λ w. IsRowOf count w.first) same has

words_form : (count : ℕ) (n s r f : Data) (words : Run) → run_words count n s r f ≡ Some words → IsRowOf count words.first
words_form count n s r f words h =
    let a = then_some _ (number_in n) words h in
    let b = then_some _ (number_in s) words a.2 in
    let c = then_some _ (number_in r) words b.2 in
    let d = then_some _ (row_of count f) words c.2 in
    let parts = then_some (row_in count) (list_in f) d.0 d.1 in
    words_by _ _ words count (row_form count parts.0 d.0 parts.2) d.2

run_by : (b : Bool) (count : ℕ) (n s r f : Data) (words : Run) → cond b (run_words count n s r f) None ≡ Some words → IsRowOf count words.first
run_by true count n s r f words h = words_form count n s r f words h
run_by false count n s r f words h = absurd (cc)

run_in_form : (count : ℕ) (ds : List Data) (words : Run) → run_in count ds ≡ Some words → IsRowOf count words.first
run_in_form count [] words h = absurd (cc)
run_in_form count (a ∷ []) words h = absurd (cc)
run_in_form count (a ∷ b ∷ []) words h = absurd (cc)
run_in_form count (a ∷ b ∷ c ∷ []) words h = absurd (cc)
run_in_form count (a ∷ b ∷ c ∷ d ∷ []) words h = absurd (cc)
run_in_form count (a ∷ b ∷ c ∷ d ∷ e ∷ []) words h =
    let t = then_some _ (as_str a) words h in run_by (bytes_eq t.0 (codes "run")) count b c d e words t.2
run_in_form count (a ∷ b ∷ c ∷ d ∷ e ∷ f ∷ ds) words h = absurd (cc)

entry_by : (version : Version) (count : ℕ) (one : Option Row) (run : Option Run) (rows : List Row)
    → ((row : Row) → one ≡ Some row → IsRowOf count row) → ((words : Run) → run ≡ Some words → IsRowOf count words.first)
    → row_or_run version one run ≡ Some rows → All (IsRowOf count) rows
entry_by version count (Some row) run rows has first h =
    let same : row ∷ [] ≡ rows = cc in
    subst (All (IsRowOf count)) same (All-cons (IsRowOf count) row [] (has row refl) (All-nil (IsRowOf count)))
entry_by One count None run rows has first h = absurd (cc)
entry_by Two count None run rows has first h =
    let t = then_some rows_of run rows h in run_form t.0.first t.0.stride 0 t.0.count count rows (first t.0 t.1) t.2

rows_form : (version : Version) (count : ℕ) (ds : List Data) (rows : List Row) → rows_in version count ds ≡ Some rows → All (IsRowOf count) rows
rows_form version count [] rows h = let same : [] ≡ rows = cc in subst (All (IsRowOf count)) same (All-nil (IsRowOf count))
rows_form version count (d ∷ ds) rows h =
    let e = then_some _ (entry_in version count d) rows h in
    let m = then_some _ (rows_in version count ds) rows e.2 in
    let parts = then_some _ (list_in d) e.0 e.1 in
    let entry = entry_by version count (row_in count parts.0) (run_in count parts.0) e.0 (row_form count parts.0) (run_in_form count parts.0) parts.2 in
    let same : e.0 ++ m.0 ≡ rows = cc in
    subst (All (IsRowOf count)) same (All-append (IsRowOf count) e.0 m.0 entry (rows_form version count ds m.0 m.1))

few_form : (version : Version) (rows : List Row) → has_few_rows version rows ≡ true → HasFewRows version rows
few_form One rows h = tt
few_form Two rows h = grind (arith, nat_tests, h)

record MapForm (version : Version) (count : ℕ) (rows : List Row) : Type 0 where
  all : All (IsRowOf count) rows
  few : HasFewRows version rows

map_form : (version : Version) (count : ℕ) (ds : List Data) (rows : List Row) → map_in version count ds ≡ Some rows → MapForm version count rows
map_form version count ds rows h =
    let t = then_some (kept (has_few_rows version)) (rows_in version count ds) rows h in
    let k = kept_some (has_few_rows version) t.0 rows t.2 in
    subst (MapForm version count) k.1 (record { all = rows_form version count ds t.0 t.1; few = few_form version t.0 k.0 })

-- ---- the order

segment_by : (number : Option ℕ) (pick : Option Segment) (segment : Segment) → ((found : Segment) → pick ≡ Some found → IsSegment found)
    → number_or_pick number pick ≡ Some segment → IsSegment segment
segment_by None pick segment has h = has segment h
segment_by (Some count) pick segment has h =
    let t = map_some Canonical (kept (nat_lt 0) count) segment h in
    let k = kept_some (nat_lt 0) count t.0 t.1 in
    let positive : 0 < t.0 = grind (arith, nat_tests, k.0, k.1) in
    subst IsSegment t.2 positive

pick_form : (ds : List Data) (segment : Segment) → pick_in ds ≡ Some segment → IsSegment segment
pick_form [] segment h = absurd (cc)
pick_form (a ∷ []) segment h = absurd (cc)
pick_form (a ∷ b ∷ []) segment h =
    let n = then_some _ (small_in a) segment h in
    let k = then_some _ (kind_in b) segment n.2 in
    let same : Pick n.0 k.0 ≡ segment = cc in
    subst IsSegment same (small_bound a n.0 n.1)
pick_form (a ∷ b ∷ c ∷ ds) segment h = absurd (cc)

segment_form : (d : Data) (segment : Segment) → segment_in d ≡ Some segment → IsSegment segment
segment_form d segment h =
    segment_by (number_in d) (list_in d >>= pick_in) segment (λ found is. let t = then_some pick_in (list_in d) found is in pick_form t.0 found t.2) h

segments_form : (ds : List Data) (order : List Segment) → segments_in ds ≡ Some order → All IsSegment order
segments_form [] order h = let same : [] ≡ order = cc in subst (All IsSegment) same (All-nil IsSegment)
segments_form (d ∷ ds) order h =
    let s = then_some _ (segment_in d) order h in
    let m = then_some _ (segments_in ds) order s.2 in
    let same : s.0 ∷ m.0 ≡ order = cc in
    subst (All IsSegment) same (All-cons IsSegment s.0 m.0 (segment_form d s.0 s.1) (segments_form ds m.0 m.1))

record OrderForm (version : Version) (verdict : Verdict) (order : List Segment) : Type 0 where
  all : All IsSegment order
  short : total_picks order ≤ most_picks version
  fits : suits verdict order ≡ true

order_form : (version : Version) (verdict : Verdict) (ds : List Data) (order : List Segment) → order_in version verdict ds ≡ Some order →
    OrderForm version verdict order
order_form version verdict ds order h =
    let s = then_some (kept (suits verdict)) (short_segments (most_picks version) ds) order h in
    let t = then_some (kept (λ o. nat_le (total_picks o) (most_picks version))) (segments_in ds) s.0 s.1 in
    let k = kept_some (λ o. nat_le (total_picks o) (most_picks version)) t.0 s.0 t.2 in
    let short : total_picks t.0 ≤ most_picks version = grind (arith, nat_tests, k.0) in
    let fits = kept_some (suits verdict) s.0 order s.2 in
    let all : All IsSegment s.0 = subst (All IsSegment) k.1 (segments_form ds t.0 t.1) in
    let few : total_picks s.0 ≤ most_picks version = subst (λ o. total_picks o ≤ most_picks version) k.1 short in
    subst (OrderForm version verdict) fits.1 (record { all = all; short = few; fits = fits.0 })

-- ---- the claim

event_parts_form : (count : ℕ) (ds : List Data) (event : Event) → event_parts count ds ≡ Some event → IsEventOf count event
event_parts_form count [] event h = absurd (cc)
event_parts_form count (a ∷ []) event h = absurd (cc)
event_parts_form count (a ∷ b ∷ []) event h = absurd (cc)
event_parts_form count (a ∷ b ∷ c ∷ []) event h = absurd (cc)
event_parts_form count (a ∷ b ∷ c ∷ d ∷ []) event h =
    let f = then_some _ (frame_in count a) event h in
    let t = then_some _ (number_in b) event f.2 in
    let n = then_some _ (small_in c) event t.2 in
    let k = then_some _ (kind_in d) event n.2 in
    let frame_is : event.frame ≡ f.0 = cc in
    let turn_is : event.turn ≡ t.0 = cc in
    let node_is : event.node ≡ n.0 = cc in
    record {
      frame = rw frame_is (frame_there count a f.0 f.1);
      turn = rw turn_is (number_bound b t.0 t.1);
      node = rw node_is (small_bound c n.0 n.1);
    }
event_parts_form count (a ∷ b ∷ c ∷ d ∷ e ∷ ds) event h = absurd (cc)

event_form : (count : ℕ) (d : Data) (event : Event) → event_in count d ≡ Some event → IsEventOf count event
event_form count d event h = let t = then_some (event_parts count) (list_in d) event h in event_parts_form count t.0 event t.2

two_form : (count : ℕ) (ds : List Data) (pair : Event × Event) → two_events count ds ≡ Some pair → IsEventOf count pair.0 × IsEventOf count pair.1
two_form count [] pair h = absurd (cc)
two_form count (a ∷ []) pair h = absurd (cc)
two_form count (a ∷ b ∷ []) pair h =
    let e = then_some _ (event_in count a) pair h in
    let f = then_some _ (event_in count b) pair e.2 in
    let first : e.0 ≡ pair.0 = cc in
    let second : f.0 ≡ pair.1 = cc in
    (subst (IsEventOf count) first (event_form count a e.0 e.1), subst (IsEventOf count) second (event_form count b f.0 f.1))
two_form count (a ∷ b ∷ c ∷ ds) pair h = absurd (cc)

pair_form : (count : ℕ) (ds : List Data) (pair : Option (Event × Event)) → pair_or_none count ds ≡ Some pair → IsPairOf count pair
pair_form count [] pair h = let same : None ≡ pair = cc in subst (IsPairOf count) same tt
pair_form count (d ∷ ds) pair h =
    let t = map_some Some (two_events count (d ∷ ds)) pair h in subst (IsPairOf count) t.2 (two_form count (d ∷ ds) t.0 t.1)

need_ok : {A B : Type 0} (wrong : Field) (o : Option A) (rest : A → Result B Field) (y : B) → need wrong o rest ≡ Ok y → (x : A) × (o ≡ Some x) ×
    (rest x ≡ Ok y)
need_ok wrong None rest y h = absurd (cc)
need_ok wrong (Some x) rest y h = (x, refl, h)

one_number : (order : List Segment) → is_one_number order ≡ true → IsOneNumber order
one_number [] h = absurd (cc)
one_number (Canonical count ∷ []) h = tt
one_number (Canonical count ∷ s ∷ ss) h = absurd (cc)
one_number (Pick node kind ∷ ss) h = absurd (cc)

none_or_one : (order : List Segment) → suits Outside order ≡ true → (order ≡ []) ⊎ IsOneNumber order
none_or_one [] h = inl refl
none_or_one (s ∷ ss) h = inr (one_number (s ∷ ss) h)

-- the claim's parts, and that the order suits it
record ClaimForm (count : ℕ) (order : List Segment) (made : Claim) : Type 0 where
  parts : IsClaimOf count made
  fits : SuitsClaim made order

claim_form : (verdict : Verdict) (count : ℕ) (d : Data) (order : List Segment) (made : Claim) → suits verdict order ≡ true → claim_in verdict count d ≡ Ok made
    → ClaimForm count order made
claim_form Clean count d order made fits h =
    let o = need_ok _ (output_in d) _ made h in
    let s = need_ok _ (status_in d) _ made o.2 in
    let f = then_some _ (get (codes "status") d) s.0 s.1 in
    let n = then_some _ (whole_in f.0) s.0 f.2 in
    let same : claim.Clean s.0 o.0 ≡ made = cc in
    subst (ClaimForm count order) same (record { parts = kept_below n.0 s.0 256 n.2; fits = one_number order fits })
claim_form Undefined count d order made fits h =
    let c = need_ok _ (clause_in d) _ made h in
    let p = need_ok _ (list_at (codes "pair") d >>= pair_or_none count) _ made c.2 in
    let t = then_some (pair_or_none count) (list_at (codes "pair") d) p.0 p.1 in
    let same : claim.Undefined c.0 p.0 ≡ made = cc in
    subst (ClaimForm count order) same (record { parts = pair_form count t.0 p.0 t.2; fits = tt })
claim_form OrderDependent count d order made fits h =
    let p = need_ok _ (list_at (codes "pair") d >>= two_events count) _ made h in
    let t = then_some (two_events count) (list_at (codes "pair") d) p.0 p.1 in
    let same : claim.OrderDependent p.0.0 p.0.1 ≡ made = cc in
    subst (ClaimForm count order) same (record { parts = two_form count t.0 p.0 t.2; fits = one_number order fits })
claim_form OutOfSteps count d order made fits h =
    let same : claim.OutOfSteps ≡ made = cc in
    subst (ClaimForm count order) same (record { parts = tt; fits = one_number order fits })
claim_form Outside count d order made fits h =
    let c = need_ok _ (cause_in d) _ made h in
    let n = need_ok _ (limit_in d) _ made c.2 in
    let t = then_some number_in (get (codes "number") d) n.0 n.1 in
    let same : claim.Outside c.0 n.0 ≡ made = cc in
    subst (ClaimForm count order) same (record { parts = number_bound t.0 n.0 t.2; fits = none_or_one order fits })

-- ---- the whole

joined : (rows : List frames.Row) (map : List Row) (order : List Segment) (made : Result Claim Field) (c : Cert) → with_claim rows map order made ≡ Ok c
    → (done : Claim) × (made ≡ Ok done) × (◌≡◌ {A = Cert} (record { frames = rows; map = map; order = order; claim = done }) c)
joined rows map order (Ok done) c h = (done, refl, cc)
joined rows map order (Err wrong) c h = absurd (cc)

parts_form : (version : Version) (verdict : Verdict) (d : Data) (c : Cert) → parts_in version verdict d ≡ Ok c → HasForm version c
parts_form version verdict d c h =
    let f = need_ok _ (list_at (codes "frames") d >>= more_frames []) _ c h in
    let m = need_ok _ (list_at (codes "map") d >>= map_in version (length f.0)) _ c f.2 in
    let o = need_ok _ (list_at (codes "order") d >>= order_in version verdict) _ c m.2 in
    let fs = then_some (more_frames []) (list_at (codes "frames") d) f.0 f.1 in
    let ms = then_some (map_in version (length f.0)) (list_at (codes "map") d) m.0 m.1 in
    let os = then_some (order_in version verdict) (list_at (codes "order") d) o.0 o.1 in
    let frames_are = frames_form [] fs.0 f.0 no_frames fs.2 in
    let map_is = map_form version (length f.0) ms.0 m.0 ms.2 in
    let order_is = order_form version verdict os.0 o.0 os.2 in
    let j = joined f.0 m.0 o.0 (claim_in verdict (length f.0) d) c o.2 in
    let claim_is = claim_form verdict (length f.0) d o.0 j.0 order_is.fits j.1 in
    subst (HasForm version) j.2 (record {
      frames = frames_are;
      map = map_is.all;
      few = map_is.few;
      segments = order_is.all;
      picks = order_is.short;
      order = claim_is.fits;
      claim = claim_is.parts;
    })

-- a value that states a certificate has a version, and the certificate keeps its form
pub cert_form : (d : Data) (c : Cert) → cert_in d ≡ Ok c → (version : Version) × (version_in d ≡ Some version) × HasForm version c
cert_form d c h =
    let r = need_ok _ (cond (is_root (verdict_in d) d) (Some d) None) _ c h in
    let v = need_ok _ (version_in d) _ c r.2 in
    let w = need_ok _ (verdict_in d) _ c v.2 in
    (v.0, v.1, parts_form v.0 w.0 d c w.2)
