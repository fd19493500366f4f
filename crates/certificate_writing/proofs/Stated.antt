-- The map of a certificate, and the whole, as what its value states.
use Rattle.std.proofs.Common.{
  ◌≡◌,
  ◌⊎◌,
  ℕ,
  zero,
  suc,
  ◌+◌,
  ◌*◌,
  ◌^◌,
  ◌<◌,
  ◌≤◌,
  Bool,
  true,
  false,
  cond,
  ◌||◌,
  ◌==◌,
  nat_lt,
  nat_le,
  List,
  [],
  ◌∷◌,
  ◌++◌,
  length,
  map,
  take,
  get_or,
  Option,
  Some,
  None,
  option_map,
  Result,
  Ok,
  All,
  refl,
  sym,
  ap,
  subst,
  ◌∙◌,
  arith,
  inl,
  inr,
  length-append,
  codes,
  String,
  string_bytes,
}
use Rattle.std.proofs.lemmas.Bool.Decides.{nat_tests}
use Rattle.std.proofs.lemmas.List.{take-append-drop, get_or-take}
use Rattle.std.proofs.lemmas.List.Elements.{All-head, All-tail}
use Rattle.std.proofs.lemmas.Str.{IsUtf8-string_bytes}
use Rattle.std.specs.Prelude.{IsUtf8}
use Rattle.serde_json.specs.Data.{Data, string, object}
use Rattle.serde_json.proofs.OnLiterals.{serde_json_on_literals}
use Rattle.ub_base.specs.Frames as frames
use Rattle.ub_base.specs.declared.names.ObjName.{ObjName}
use Rattle.ub_base.specs.declared.names.ObjName.TheVariants.{Static, Lit, Argv, Arg, Auto, Heap}
use Rattle.addr_map.specs.declared.map.Row.{Row}
use Rattle.certificate.specs.declared.cert.Cert.{Cert}
use Rattle.certificate.specs.declared.cert.Claim.{Claim}
use Rattle.certificate.specs.declared.cert.Claim.TheVariants as claim
use Rattle.certificate.specs.declared.cert.Field.{Field}
use Rattle.certificate.specs.declared.cert.Field.TheVariants as field
use Rattle.certificate.specs.declared.cert.Segment.{Segment}
use Rattle.certificate.specs.declared.cert.Segment.TheVariants.{Canonical, Pick}
use Rattle.certificate_text.specs.declared.row.Run.{Run}
use Rattle.certificate_text.specs.declared.words.Verdict.{Verdict}
use Rattle.certificate_text.specs.declared.words.Verdict.TheVariants.{Clean, Undefined, OrderDependent, OutOfSteps, Outside}
use Rattle.certificate.specs.declared.cert.Version.TheVariants.{Two}
use Rattle.certificate.specs.Form.{HasBytes, HasForm, IsNameOf, IsRowOf, IsSegment, IsOneNumber, SuitsClaim, IsClaimOf, total_picks}
use Rattle.certificate_text.specs.Reading.{
  ◌>>=◌,
  kept,
  number_in,
  small_in,
  frame_in,
  list_in,
  counted_in,
  framed_in,
  placed,
  row_in,
  row_of,
  row_at,
  run_words,
  run_in,
  rows_of,
  row_or_run,
  entry_in,
  rows_in,
  has_few_rows,
  map_in,
  segments_in,
  short_segments,
  suits,
  order_in,
  more_frames,
  two_events,
  need,
  claim_in,
  with_claim,
  parts_in,
  cert_in,
  version_in,
  States,
}
use Rattle.certificate_writing.specs.Writing.{
  BeginsWith,
  IsAlone,
  IsRun,
  IsTextOf,
  Packs,
  event_entry,
  frame_entry,
  list,
  members,
  moving,
  row_entry,
  run_entry,
  segment_entry,
  value_of,
  whole,
}
use Rattle.certificate_text.proofs.Clauses.{clause_named-clause_text}
use Rattle.certificate_writing.proofs.Runs.{first_at, moved_moving, row_parts, run_item, stands_within}
use Rattle.certificate_text.proofs.Steps.{kept_below, kept_some}
use Rattle.certificate_writing.proofs.Stating.{
  below,
  cause_back,
  frame_back,
  frames_back,
  kept_back,
  list_back,
  number_back,
  output_back,
  pair_back,
  segments_back,
  small_back,
  then_back,
  up_to,
}

-- ---- rows

placed_back : (name : ObjName) (base size align : ℕ) → base < 2 ^ 63 → size < 2 ^ 63 → align < 2 ^ 63
    → placed name (whole base) (whole size) (whole align) ≡ Some (record { name = name; base = base; size = size; align = align })
placed_back name base size align b s a =
    then_back (number_in (whole base)) base _ _ (number_back base b)
    (then_back (number_in (whole size)) size _ _ (number_back size s)
    (then_back (number_in (whole align)) align _ _ (number_back align a) refl))

named_back : (count : ℕ) (name : ObjName) (base size align : ℕ) → count < 2 ^ 31 → IsNameOf count name → base < 2 ^ 63 → size < 2 ^ 63 → align < 2 ^ 63
    → row_of count (row_entry (record { name = name; base = base; size = size; align = align })) ≡ Some
    (record { name = name; base = base; size = size; align = align })
named_back count (Static k) base size align few named b s a =
    then_back (counted_in (string (codes "static")) (whole k)) (Static k) _ _
    (then_back (small_in (whole k)) k _ (Static k) (small_back k named) refl) (placed_back (Static k) base size align b s a)
named_back count (Lit k) base size align few named b s a =
    then_back (counted_in (string (codes "lit")) (whole k)) (Lit k) _ _
    (then_back (small_in (whole k)) k _ (Lit k) (small_back k named) refl) (placed_back (Lit k) base size align b s a)
named_back count Argv base size align few named b s a = placed_back Argv base size align b s a
named_back count (Arg k) base size align few named b s a =
    then_back (counted_in (string (codes "arg")) (whole k)) (Arg k) _ _
    (then_back (small_in (whole k)) k _ (Arg k) (small_back k named) refl) (placed_back (Arg k) base size align b s a)
named_back count (Auto frame turn k) base size align few named b s a =
    then_back (framed_in count (string (codes "auto")) (whole frame.0) (whole turn) (whole k)) (Auto frame turn k) _ _
    (then_back (frame_in count (whole frame.0)) frame _ (Auto frame turn k) (frame_back count frame few named.0)
    (then_back (number_in (whole turn)) turn _ (Auto frame turn k) (number_back turn named.1)
    (then_back (small_in (whole k)) k _ (Auto frame turn k) (small_back k named.2) refl)))
    (placed_back (Auto frame turn k) base size align b s a)
named_back count (Heap frame turn node) base size align few named b s a =
    then_back (framed_in count (string (codes "heap")) (whole frame.0) (whole turn) (whole node)) (Heap frame turn node) _ _
    (then_back (frame_in count (whole frame.0)) frame _ (Heap frame turn node) (frame_back count frame few named.0)
    (then_back (number_in (whole turn)) turn _ (Heap frame turn node) (number_back turn named.1)
    (then_back (small_in (whole node)) node _ (Heap frame turn node) (small_back node named.2) refl)))
    (placed_back (Heap frame turn node) base size align b s a)

row_back : (count : ℕ) (row : Row) → count < 2 ^ 31 → IsRowOf count row → row_of count (row_entry row) ≡ Some row
row_back count row few is = named_back count row.name row.base row.size row.align few is.name is.base is.size is.align

-- the value of a row is a list, whose items are those of the row
row_parts_back : (count : ℕ) (parts : Option (List Data)) (row : Row) (run : List Data → Option Run) → (parts >>= λ ds. row_in count ds) ≡ Some row
    → (parts >>= λ ds. row_or_run Two (row_in count ds) (run ds)) ≡ Some (row ∷ [])
row_parts_back count None row run is = absurd (cc)
row_parts_back count (Some ds) row run is = ap (λ o. row_or_run Two o (run ds)) is

alone_back : (count : ℕ) (row : Row) → count < 2 ^ 31 → IsRowOf count row → entry_in Two count (row_entry row) ≡ Some (row ∷ [])
alone_back count row few is = row_parts_back count (list_in (row_entry row)) row (run_in count) (row_back count row few is)

-- ---- runs

never : {A B : Type 0} (o : Option A) → (o >>= λ (x : A). let none : Option B = None in none) ≡ None
never None = refl
never (Some x) = refl

-- the numbers of a run keep their bounds
pub record HasNumbers (count : ℕ) (run : Run) : Type 0 where
  pub rows : run.count < 2 ^ 63
  pub two : 2 ≤ run.count
  pub step : run.stride.step < 2 ^ 63
  pub apart : 0 < run.stride.step
  pub raise : run.stride.raise < 2 ^ 63
  pub first : IsRowOf count run.first

not_below : (n m : ℕ) → m ≤ n → nat_lt n m ≡ false
not_below n m le = grind (arith, nat_tests, le)

not_zero : (n : ℕ) → 0 < n → (n == 0) ≡ false
not_zero n lt = grind (arith, nat_tests, lt)

passes_run : (a b : Bool) (run : Run) → a ≡ false → b ≡ false → cond (a || b) None (Some run) ≡ Some run
passes_run a b run p q = rw (p, q) refl

words_back : (count : ℕ) (run : Run) → count < 2 ^ 31 → HasNumbers count run
    → run_words count (whole run.count) (whole run.stride.step) (whole run.stride.raise) (row_entry run.first) ≡ Some run
words_back count run few has =
    then_back (number_in (whole run.count)) run.count _ run (number_back run.count has.rows)
    (then_back (number_in (whole run.stride.step)) run.stride.step _ run (number_back run.stride.step has.step)
    (then_back (number_in (whole run.stride.raise)) run.stride.raise _ run (number_back run.stride.raise has.raise)
    (then_back (row_of count (row_entry run.first)) run.first _ run (row_back count run.first few has.first)
    (passes_run (nat_lt run.count 2) (run.stride.step == 0) run (not_below run.count 2 has.two) (not_zero run.stride.step has.apart)))))

run_back : (count : ℕ) (run : Run) → count < 2 ^ 31 → HasNumbers count run → entry_in Two count (run_entry run) ≡ rows_of run
run_back count run few has =
    ap (λ o. row_or_run Two (o >>= λ name. placed name (whole run.stride.step) (whole run.stride.raise) (row_entry run.first))
    (run_words count (whole run.count) (whole run.stride.step) (whole run.stride.raise) (row_entry run.first))) (never (small_in (whole run.count)))
    ∙ ap (λ o. row_or_run Two None o) (words_back count run few has)

-- ---- the map

named_number : (count : ℕ) (name : ObjName) → IsNameOf count name → moving name < 2 ^ 63
named_number count (Static k) is = omega (arith, is)
named_number count (Lit k) is = omega (arith, is)
named_number count Argv is = omega arith
named_number count (Arg k) is = omega (arith, is)
named_number count (Auto frame turn k) is = is.1
named_number count (Heap frame turn node) is = is.1

at_place : (P : Row → Type 0) (rows : List Row) (i : ℕ) (d : Row) → All P rows → i < length rows → P (get_or rows i d)
at_place P [] i d all lt = absurd (omega arith)
at_place P (row ∷ rows) zero d all lt = All-head P row rows all
at_place P (row ∷ rows) (suc i) d all lt = at_place P rows i d (All-tail P row rows all) (omega arith)

-- the row of a run that stands among rows
run_place : (rows : List Row) (run : Run) (i : ℕ) → BeginsWith rows run → i < run.count → row_at run.first run.stride i ≡ Some (get_or rows i run.first)
run_place rows run i begins lt =
    run_item run.first run.stride 0 run.count i i (take run.count rows) run.first begins.stands lt (omega arith) ∙ ap Some
    (get_or-take run.count rows i run.first lt)

run_numbers : (count : ℕ) (rows : List Row) (run : Run) → BeginsWith rows run → 3 ≤ run.count → All (IsRowOf count) rows → length rows ≤ 4194304 →
    HasNumbers count run
run_numbers count rows run begins three all few =
    let within = stands_within run.first run.stride rows run.count begins.stands in
    let zeroth = run_place rows run 0 begins (omega arith) in
    let first_is : run.first ≡ get_or rows 0 run.first = first_at run.first run.stride (get_or rows 0 run.first) zeroth in
    let next = run_place rows run 1 begins (omega arith) in
    let second : Row = get_or rows 1 run.first in
    let parts = row_parts run.first run.stride 1 second next in
    let base = kept_below (run.first.base + 1 * run.stride.step) second.base (2 ^ 63) parts.0 in
    let sum = (kept_some (λ n. nat_lt n (2 ^ 63)) (run.first.base + 1 * run.stride.step) second.base parts.0).1 in
    let moved = moved_moving run.first.name (1 * run.stride.raise) second.name parts.1 in
    let named = named_number count second.name (at_place (IsRowOf count) rows 1 run.first all (omega (arith, within))).name in
    record {
      rows = omega (arith, within, few, three);
      two = omega (arith, three);
      step = omega (arith, base, sum);
      apart = begins.apart;
      raise = omega (arith, moved, named);
      first = subst (IsRowOf count) (sym first_is) (at_place (IsRowOf count) rows 0 run.first all (omega (arith, within)));
    }

-- what an entry stands for, and the rows behind it
entry_back : (count : ℕ) (rows rest : List Row) (entry : Data) → count < 2 ^ 31 → IsAlone rows rest entry ⊎ IsRun rows rest entry → All (IsRowOf count) rows
    → length rows ≤ 4194304 → (more : List Row) × (entry_in Two count entry ≡ Some more) × (more ++ rest ≡ rows)
entry_back count rows rest entry few (inl alone) all short =
    let first = All-head (IsRowOf count) alone.first rest (subst (All (IsRowOf count)) alone.here all) in
    (alone.first ∷ [], ap (entry_in Two count) alone.written ∙ alone_back count alone.first few first, sym alone.here)
entry_back count rows rest entry few (inr run) all short =
    let has = run_numbers count rows run.run run.longest.begins run.three all short in (
      take run.run.count rows,
      ap (entry_in Two count) run.written ∙ run_back count run.run few has ∙ run.longest.begins.stands,
      ap (λ later. take run.run.count rows ++ later) run.behind ∙ take-append-drop run.run.count rows,
    )

all_behind : {A : Type 0} (P : A → Type 0) (xs ys : List A) → All P (xs ++ ys) → All P ys
all_behind P [] ys all = all
all_behind P (x ∷ xs) ys all = all_behind P xs ys (All-tail P x (xs ++ ys) all)

rows_back : (count : ℕ) (rows : List Row) (entries : List Data) → count < 2 ^ 31 → Packs rows entries → All (IsRowOf count) rows → length rows ≤ 4194304
    → rows_in Two count entries ≡ Some rows
rows_back count rows [] few packs all short = ap Some (sym packs)
rows_back count rows (entry ∷ entries) few packs all short =
    let rest = packs.0 in
    let e = entry_back count rows rest entry few packs.1 all short in
    let later : length rest ≤ 4194304 = omega (arith, length-append e.0 rest, ap length e.2, short) in
    let behind = rows_back count rest entries few packs.2 (all_behind (IsRowOf count) e.0 rest (subst (All (IsRowOf count)) (sym e.2) all)) later in
    then_back (entry_in Two count entry) e.0 _ rows e.1
    (then_back (rows_in Two count entries) rest _ rows behind (ap Some e.2))

map_back : (count : ℕ) (rows : List Row) (entries : List Data) → count < 2 ^ 31 → Packs rows entries → All (IsRowOf count) rows → length rows ≤ 4194304
    → (list_in (list entries) >>= map_in Two count) ≡ Some rows
map_back count rows entries few packs all short =
    then_back (list_in (list entries)) entries (map_in Two count) rows (list_back entries)
    (then_back (rows_in Two count entries) rows (kept (has_few_rows Two)) rows (rows_back count rows entries few packs all short)
    (kept_back (has_few_rows Two) rows (up_to (length rows) 4194304 short)))

-- ---- the order

abbrev verdict_of : Claim → Verdict
verdict_of (claim.Clean s output) = Clean
verdict_of (claim.Undefined clause pair) = Undefined
verdict_of (claim.OrderDependent event against) = OrderDependent
verdict_of claim.OutOfSteps = OutOfSteps
verdict_of (claim.Outside cause limit) = Outside

one_number : (verdict : Verdict) (order : List Segment) → IsOneNumber order → suits verdict order ≡ true
one_number verdict [] is = absurd is
one_number Clean (Canonical n ∷ []) is = refl
one_number Undefined (Canonical n ∷ []) is = refl
one_number OrderDependent (Canonical n ∷ []) is = refl
one_number OutOfSteps (Canonical n ∷ []) is = refl
one_number Outside (Canonical n ∷ []) is = refl
one_number verdict (Canonical n ∷ segment ∷ more) is = absurd is
one_number verdict (Pick node kind ∷ more) is = absurd is

suits_back : (cl : Claim) (order : List Segment) → SuitsClaim cl order → suits (verdict_of cl) order ≡ true
suits_back (claim.Clean s output) order is = one_number Clean order is
suits_back (claim.Undefined clause pair) order is = refl
suits_back (claim.OrderDependent event against) order is = one_number OrderDependent order is
suits_back claim.OutOfSteps order is = one_number OutOfSteps order is
suits_back (claim.Outside cause limit) order (inl none) = ap (suits Outside) none
suits_back (claim.Outside cause limit) order (inr one) = one_number Outside order one

order_back : (cl : Claim) (order : List Segment) → All IsSegment order → total_picks order ≤ 100000000 → SuitsClaim cl order
    → (list_in (list (map segment_entry order)) >>= order_in Two (verdict_of cl)) ≡ Some order
order_back cl order all few is =
    then_back (list_in (list (map segment_entry order))) (map segment_entry order) (order_in Two (verdict_of cl)) order (list_back (map segment_entry order))
    (then_back (short_segments 100000000 (map segment_entry order)) order (kept (suits (verdict_of cl))) order
    (then_back (segments_in (map segment_entry order)) order (kept (λ o. nat_le (total_picks o) 100000000)) order (segments_back order all few)
    (kept_back (λ o. nat_le (total_picks o) 100000000) order (up_to (total_picks order) 100000000 few)))
    (kept_back (suits (verdict_of cl)) order (suits_back cl order is)))

-- ---- the claim

claim_back : (cl : Claim) (count : ℕ) (fs ms os : Data) → count < 2 ^ 31 → IsClaimOf count cl → HasBytes cl
    → claim_in (verdict_of cl) count (object (members cl fs ms os)) ≡ Ok cl
unfolding serde_json_on_literals
claim_back (claim.Clean s output) count fs ms os few is bytes =
    ap (λ o. need field.Output o (λ out. need field.Status (kept (λ n. nat_lt n 256) s) (λ n. Ok (claim.Clean n out)))) (output_back output bytes)
    ∙ ap (λ o. need field.Status o (λ n. Ok (claim.Clean n output))) (kept_back (λ n. nat_lt n 256) s (below s 256 is))
claim_back (claim.Undefined clause None) count fs ms os few is bytes =
    ap (λ o. need field.Clause o (λ c. Ok (claim.Undefined c None))) (clause_named-clause_text clause)
claim_back (claim.Undefined clause (Some pair)) count fs ms os few is bytes =
    ap (λ o. need field.Clause o (λ c. need field.Pair (option_map Some (two_events count (event_entry pair.0 ∷ event_entry pair.1 ∷ [])))
    (λ p. Ok (claim.Undefined c p))))
    (clause_named-clause_text clause)
    ∙ ap (λ o. need field.Pair (option_map Some o) (λ p. Ok (claim.Undefined clause p))) (pair_back count pair.0 pair.1 few is.0 is.1)
claim_back (claim.OrderDependent event against) count fs ms os few is bytes =
    ap (λ o. need field.Pair o (λ p. Ok (claim.OrderDependent p.0 p.1))) (pair_back count event against few is.0 is.1)
claim_back claim.OutOfSteps count fs ms os few is bytes = refl
claim_back (claim.Outside cause limit) count fs ms os few is bytes =
    ap (λ o. need field.Cause o (λ c. need field.Number (number_in (whole limit)) (λ n. Ok (claim.Outside c n)))) (cause_back cause)
    ∙ ap (λ o. need field.Number o (λ n. Ok (claim.Outside cause n))) (number_back limit is)

-- ---- the whole

parts_back : (fs : Option (List frames.Row)) (ms : List frames.Row → Option (List Row)) (os : Option (List Segment))
    (ks : List frames.Row → Result Claim Field)
    (rows : List frames.Row) (map : List Row) (order : List Segment) (cl : Claim) → fs ≡ Some rows → ms rows ≡ Some map → os ≡ Some order → ks rows ≡ Ok cl
    → need field.Frames fs (λ r. need field.Map (ms r) (λ m. need field.Order os (λ o. with_claim r m o (ks r)))) ≡ Ok
    (record { frames = rows; map = map; order = order; claim = cl })
parts_back fs ms os ks rows map order cl f m o k =
    ap (λ p. need field.Frames p (λ r. need field.Map (ms r) (λ m. need field.Order os (λ o. with_claim r m o (ks r))))) f
    ∙ ap (λ p. need field.Map p (λ m. need field.Order os (λ o. with_claim rows m o (ks rows)))) m
    ∙ ap (λ p. need field.Order p (λ o. with_claim rows map o (ks rows))) o
    ∙ ap (with_claim rows map order) k

whole_back : (cl : Claim) (fs ms os : Data) (stated : Result Cert Field) → parts_in Two (verdict_of cl) (object (members cl fs ms os)) ≡ stated
    → cert_in (object (members cl fs ms os)) ≡ stated
unfolding serde_json_on_literals
whole_back (claim.Clean s output) fs ms os stated is = is
whole_back (claim.Undefined clause pair) fs ms os stated is = is
whole_back (claim.OrderDependent event against) fs ms os stated is = is
whole_back claim.OutOfSteps fs ms os stated is = is
whole_back (claim.Outside cause limit) fs ms os stated is = is

inside_back : (cl : Claim) (fs ms os : Data) (rows : List frames.Row) (map : List Row) (order : List Segment) → (list_in fs >>= more_frames []) ≡ Some rows
    → (list_in ms >>= map_in Two (length rows)) ≡ Some map → (list_in os >>= order_in Two (verdict_of cl)) ≡ Some order
    → claim_in (verdict_of cl) (length rows) (object (members cl fs ms os)) ≡ Ok cl
    → parts_in Two (verdict_of cl) (object (members cl fs ms os)) ≡ Ok (record { frames = rows; map = map; order = order; claim = cl })
unfolding serde_json_on_literals
inside_back (claim.Clean s output) fs ms os rows map order f m o k =
    parts_back (list_in fs >>= more_frames []) (λ r. list_in ms >>= map_in Two (length r)) (list_in os >>= order_in Two Clean)
    (λ r. claim_in Clean (length r) (object (members (claim.Clean s output) fs ms os))) rows map order (claim.Clean s output) f m o k
inside_back (claim.Undefined clause pair) fs ms os rows map order f m o k =
    parts_back (list_in fs >>= more_frames []) (λ r. list_in ms >>= map_in Two (length r)) (list_in os >>= order_in Two Undefined)
    (λ r. claim_in Undefined (length r) (object (members (claim.Undefined clause pair) fs ms os))) rows map order (claim.Undefined clause pair) f m o k
inside_back (claim.OrderDependent event against) fs ms os rows map order f m o k =
    parts_back (list_in fs >>= more_frames []) (λ r. list_in ms >>= map_in Two (length r)) (list_in os >>= order_in Two OrderDependent)
    (λ r. claim_in OrderDependent (length r) (object (members (claim.OrderDependent event against) fs ms os))) rows map order
    (claim.OrderDependent event against) f m o k
inside_back claim.OutOfSteps fs ms os rows map order f m o k =
    parts_back (list_in fs >>= more_frames []) (λ r. list_in ms >>= map_in Two (length r)) (list_in os >>= order_in Two OutOfSteps)
    (λ r. claim_in OutOfSteps (length r) (object (members claim.OutOfSteps fs ms os))) rows map order claim.OutOfSteps f m o k
inside_back (claim.Outside cause limit) fs ms os rows map order f m o k =
    parts_back (list_in fs >>= more_frames []) (λ r. list_in ms >>= map_in Two (length r)) (list_in os >>= order_in Two Outside)
    (λ r. claim_in Outside (length r) (object (members (claim.Outside cause limit) fs ms os))) rows map order (claim.Outside cause limit) f m o k

value_back : (c : Cert) (entries : List Data) → HasForm Two c → HasBytes c.claim → Packs c.map entries → cert_in (value_of c entries) ≡ Ok c
value_back c entries has bytes packs =
    let fs = list (map frame_entry c.frames) in
    let ms = list entries in
    let os = list (map segment_entry c.order) in
    let few : length c.frames < 2 ^ 31 = has.frames.few in
    let f = then_back (list_in fs) (map frame_entry c.frames) (more_frames []) c.frames (list_back (map frame_entry c.frames))
    (frames_back [] c.frames has.frames has.frames.numbers) in
    whole_back c.claim fs ms os (Ok c)
    (inside_back c.claim fs ms os c.frames c.map c.order f (map_back (length c.frames) c.map entries few packs has.map has.few)
    (order_back c.claim c.order has.segments has.picks has.order) (claim_back c.claim (length c.frames) fs ms os few has.claim bytes))

versioned : (cl : Claim) (fs ms os : Data) → version_in (object (members cl fs ms os)) ≡ Some Two
unfolding serde_json_on_literals
versioned (claim.Clean s output) fs ms os = refl
versioned (claim.Undefined clause pair) fs ms os = refl
versioned (claim.OrderDependent event against) fs ms os = refl
versioned claim.OutOfSteps fs ms os = refl
versioned (claim.Outside cause limit) fs ms os = refl

-- a text that is that of a certificate in the form states the certificate
pub text_states : {Z : Type 0} (c : Cert) (text : List ℕ) (s : String Z) → text ≡ string_bytes s → HasBytes c.claim → IsTextOf c text → HasForm Two c →
    States text c
text_states c text s is bytes written has =
    record {
      value = value_of c written.entries;
      version = Two;
      json = record { utf8 = subst IsUtf8 (sym is) (IsUtf8-string_bytes s); value = written.reads };
      numbered = versioned c.claim (list (map frame_entry c.frames)) (list written.entries) (list (map segment_entry c.order));
      stated = value_back c written.entries has bytes written.packs;
      form = has;
    }
