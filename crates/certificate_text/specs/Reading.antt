-- What certificate the value of a JSON text states, or which member of it is wrong (own).
use Rattle.std.specs.Prelude.{
  ◌≡◌,
  ℕ,
  zero,
  suc,
  ◌+◌,
  ◌-◌,
  ◌*◌,
  ◌^◌,
  Bool,
  true,
  false,
  not,
  ◌&&◌,
  ◌||◌,
  ◌==◌,
  nat_lt,
  nat_le,
  if◌then◌else◌,
  List,
  [],
  ◌∷◌,
  ◌++◌,
  length,
  find,
  Option,
  Some,
  None,
  option_map,
  option_and_then,
  unwrap_or,
  Result,
  Ok,
  Err,
  codes,
  IsUtf8,
  ⊤,
  ◌⊎◌,
}
use Rattle.std.specs.List.{list_any, list_all}
use Rattle.std.specs.Str.{bytes_eq}
use Rattle.hex.specs.Hex.{decode_of}
use Rattle.hex.specs.declared.error.FromHexError.{FromHexError}
use Rattle.serde_json.specs.Data.{Data, Items, no_items, item, Members, no_members, member}
use Rattle.serde_json.specs.Find.{get, as_number, as_u64, as_str, as_array, as_object}
use Rattle.serde_json.specs.Read.{read}
use Rattle.ub_base.specs.Clause.{clause_text}
use Rattle.ub_base.specs.Frames as frames
use Rattle.ub_base.specs.declared.clause.Clause.{Clause}
use Rattle.ub_base.specs.declared.clause.Clause.TheVariants.{
  DeadObject,
  TrapRepresentation,
  PointerAlignment,
  StoreToLiteral,
  Unsequenced,
  Exceptional,
  IncompatibleCall,
  InvalidPointer,
  DivideByZero,
  Unrepresentable,
  OutOfBounds,
  PointerDifference,
  ShiftCount,
  LeftShift,
  PointerComparison,
  OverlappingAssignment,
  EffectiveType,
  StoreToConst,
  MissingValue,
  LibraryArgument,
  TooFewArguments,
  Conversion as BadConversion,
  Free,
  Realloc,
  MemcpyOverlap,
  StrcpyOverlap,
  Indeterminate,
}
use Rattle.ub_base.specs.declared.clause.Kind.{Kind}
use Rattle.ub_base.specs.declared.clause.Kind.TheVariants.{Val, Eff, Body}
use Rattle.ub_base.specs.declared.clause.Cause.{Cause}
use Rattle.ub_base.specs.declared.clause.Cause.TheVariants.{Output, Created, Depth, Conversion, Directive}
use Rattle.ub_base.specs.declared.names.Event.{Event}
use Rattle.ub_base.specs.declared.names.Frame.{Frame}
use Rattle.ub_base.specs.declared.names.ObjName.{ObjName}
use Rattle.ub_base.specs.declared.names.ObjName.TheVariants.{Static, Lit, Argv, Arg, Auto, Heap}
use Rattle.addr_map.specs.declared.map.Row.{Row}
use Rattle.certificate.specs.declared.cert.Cert.{Cert}
use Rattle.certificate.specs.declared.cert.CertFault.{CertFault}
use Rattle.certificate.specs.declared.cert.CertFault.TheVariants.{NotJson, BadShape, NoMemory}
use Rattle.certificate.specs.declared.cert.Claim.{Claim}
use Rattle.certificate.specs.declared.cert.Claim.TheVariants as claim
use Rattle.certificate.specs.declared.cert.Field.{Field}
use Rattle.certificate.specs.declared.cert.Field.TheVariants as field
use Rattle.certificate.specs.declared.cert.Segment.{Segment}
use Rattle.certificate.specs.declared.cert.Segment.TheVariants.{Canonical, Pick}
use Rattle.certificate_text.specs.declared.row.Run.{Run}
use Rattle.certificate_text.specs.declared.row.Stride.{Stride}
use Rattle.certificate_text.specs.declared.words.Verdict.{Verdict}
use Rattle.certificate_text.specs.declared.words.Verdict.TheVariants.{Clean, Undefined, OrderDependent, OutOfSteps, Outside}
use Rattle.certificate.specs.declared.cert.Version.{Version}
use Rattle.certificate.specs.declared.cert.Version.TheVariants.{One, Two}
use Rattle.certificate.specs.Form.{HasForm, total_picks, most_picks}

-- one step after another, as far as each gives something
infixl 10 ◌>>=◌
abbrev pub ◌>>=◌ : {A B : Type 0} → Option A → (A → Option B) → Option B
o >>= f = option_and_then f o

-- what passes the test
abbrev pub kept : {A : Type 0} → (A → Bool) → A → Option A
kept test x = if test x then Some x else None

-- ---- words

abbrev pub kind_named : List ℕ → Option Kind
kind_named text =
    if bytes_eq text (codes "val") then Some Val
    else if bytes_eq text (codes "eff") then Some Eff
    else if bytes_eq text (codes "body") then Some Body
    else None

abbrev pub verdict_named : List ℕ → Option Verdict
verdict_named text =
    if bytes_eq text (codes "clean") then Some Clean
    else if bytes_eq text (codes "undefined") then Some Undefined
    else if bytes_eq text (codes "order-dependent") then Some OrderDependent
    else if bytes_eq text (codes "out-of-steps") then Some OutOfSteps
    else if bytes_eq text (codes "outside") then Some Outside
    else None

abbrev pub cause_named : List ℕ → Option Cause
cause_named text =
    if bytes_eq text (codes "output") then Some Output
    else if bytes_eq text (codes "created") then Some Created
    else if bytes_eq text (codes "depth") then Some Depth
    else if bytes_eq text (codes "conversion") then Some Conversion
    else if bytes_eq text (codes "directive") then Some Directive
    else None

-- every clause
abbrev pub all_clauses : List Clause
all_clauses =
    DeadObject ∷ TrapRepresentation ∷ PointerAlignment ∷ StoreToLiteral ∷ Unsequenced ∷ Exceptional ∷ IncompatibleCall ∷ InvalidPointer ∷ DivideByZero ∷
    Unrepresentable ∷ OutOfBounds ∷ PointerDifference ∷ ShiftCount ∷ LeftShift ∷ PointerComparison ∷ OverlappingAssignment ∷ EffectiveType ∷ StoreToConst ∷
    MissingValue ∷ LibraryArgument ∷ TooFewArguments ∷ BadConversion ∷ Free ∷ Realloc ∷ MemcpyOverlap ∷ StrcpyOverlap ∷ Indeterminate ∷ []

-- the clause that has this text
unfoldable pub clause_named : List ℕ → Option Clause
clause_named text = find (λ clause. bytes_eq (clause_text clause) text) all_clauses

-- ---- values

-- a whole number that isn't negative, below 2^64
abbrev pub whole_in : Data → Option ℕ
whole_in d = option_and_then as_u64 (as_number d)

-- a number of a certificate
abbrev pub number_in : Data → Option ℕ
number_in d = whole_in d >>= kept (λ n. nat_lt n (2 ^ 63))

-- a number k, or a node's
abbrev pub small_in : Data → Option ℕ
small_in d = whole_in d >>= kept (λ n. nat_lt n (2 ^ 32))

abbrev pub kind_in : Data → Option Kind
kind_in d = as_str d >>= kind_named

abbrev pub list_of : Items → List Data
list_of no_items = []
list_of (item d ds) = d ∷ list_of ds

abbrev pub list_in : Data → Option (List Data)
list_in d = option_map list_of (as_array d)

-- the items of the list that is the member of this name
abbrev pub list_at : List ℕ → Data → Option (List Data)
list_at name d = get name d >>= list_in

-- a frame that is there, where there are so many beside `main`
abbrev pub frame_in : ℕ → Data → Option Frame
frame_in count d = do
  number ← small_in d
  known ← kept (λ n. nat_le n count) number
  Some (record { 0 = known })

-- ---- frames

-- a frame's parent, turn and node
abbrev pub frame_row_in : List Data → Option frames.Row
frame_row_in (parent ∷ turn ∷ node ∷ []) = do
  p ← small_in parent
  t ← number_in turn
  n ← small_in node
  Some (record { 0 = p }, t, n)
frame_row_in _ = None

abbrev pub frame_row_of : Data → Option frames.Row
frame_row_of d = list_in d >>= frame_row_in

abbrev pub same_row : frames.Row → frames.Row → Bool
same_row a b = ((a.0.0 == b.0.0) && (a.1 == b.1)) && (a.2 == b.2)

-- the frame can stand after these: it is started from one that is there, isn't there itself, and isn't one too many
abbrev pub can_follow : List frames.Row → frames.Row → Bool
can_follow before row = nat_le row.0.0 (length before) && nat_lt (length before) (2 ^ 31 - 1) && not (list_any (same_row row) before)

abbrev pub more_frames : List frames.Row → List Data → Option (List frames.Row)
more_frames before [] = Some before
more_frames before (d ∷ ds) = do
  row ← frame_row_of d
  next ← kept (can_follow before) row
  more_frames (before ++ next ∷ []) ds

-- ---- the map

abbrev pub counted_name : List ℕ → ℕ → Option ObjName
counted_name word k =
    if bytes_eq word (codes "static") then Some (Static k)
    else if bytes_eq word (codes "lit") then Some (Lit k)
    else if bytes_eq word (codes "arg") then Some (Arg k)
    else None

abbrev pub framed_name : List ℕ → Frame → ℕ → ℕ → Option ObjName
framed_name word frame turn last =
    if bytes_eq word (codes "auto") then Some (Auto frame turn last)
    else if bytes_eq word (codes "heap") then Some (Heap frame turn last)
    else None

abbrev pub placed : ObjName → Data → Data → Data → Option Row
placed name base size align = do
  b ← number_in base
  s ← number_in size
  a ← number_in align
  Some (record { name = name; base = b; size = s; align = a })

-- the name of a static object, a literal or an argument
abbrev pub counted_in : Data → Data → Option ObjName
counted_in word k = do
  text ← as_str word
  n ← small_in k
  counted_name text n

-- the name of an object of a block or of the heap
abbrev pub framed_in : ℕ → Data → Data → Data → Data → Option ObjName
framed_in count word at turn last = do
  frame ← frame_in count at
  text ← as_str word
  t ← number_in turn
  k ← small_in last
  framed_name text frame t k

abbrev pub argv_in : Data → Option ObjName
argv_in word = do
  text ← as_str word
  if bytes_eq text (codes "argv") then Some Argv else None

-- a row alone, where there are so many frames beside `main`
abbrev pub row_in : ℕ → List Data → Option Row
row_in count (word ∷ base ∷ size ∷ align ∷ []) = do
  name ← argv_in word
  placed name base size align
row_in count (word ∷ k ∷ base ∷ size ∷ align ∷ []) = do
  name ← counted_in word k
  placed name base size align
row_in count (word ∷ at ∷ turn ∷ last ∷ base ∷ size ∷ align ∷ []) = do
  name ← framed_in count word at turn last
  placed name base size align
row_in count _ = None

-- the row of an entry
abbrev pub row_of : ℕ → Data → Option Row
row_of count d = list_in d >>= row_in count

-- a name with its moving number raised
abbrev pub moved_name : ObjName → ℕ → Option ObjName
moved_name (Static k) by = option_map Static (kept (λ n. nat_lt n (2 ^ 32)) (k + by))
moved_name (Lit k) by = option_map Lit (kept (λ n. nat_lt n (2 ^ 32)) (k + by))
moved_name Argv by = None
moved_name (Arg k) by = option_map Arg (kept (λ n. nat_lt n (2 ^ 32)) (k + by))
moved_name (Auto frame turn k) by = option_map (λ t. Auto frame t k) (kept (λ n. nat_lt n (2 ^ 63)) (turn + by))
moved_name (Heap frame turn node) by = option_map (λ t. Heap frame t node) (kept (λ n. nat_lt n (2 ^ 63)) (turn + by))

-- the row of this number in a run that begins with a row
abbrev pub row_at : Row → Stride → ℕ → Option Row
row_at first stride at = do
  base ← kept (λ n. nat_lt n (2 ^ 63)) (first.base + at * stride.step)
  name ← moved_name first.name (at * stride.raise)
  Some (record { name = name; base = base; size = first.size; align = first.align })

-- so many rows of a run, from the row of this number on
abbrev pub run_rows : Row → Stride → ℕ → ℕ → Option (List Row)
run_rows first stride at zero = Some []
run_rows first stride at (suc count) = do
  row ← row_at first stride at
  rows ← run_rows first stride (at + 1) count
  Some (row ∷ rows)

-- the words of a run: at least two rows, whose bases differ
abbrev pub run_words : ℕ → Data → Data → Data → Data → Option Run
run_words count rows step raise first = do
  n ← number_in rows
  s ← number_in step
  r ← number_in raise
  row ← row_of count first
  if nat_lt n 2 || s == 0 then None else Some (record { count = n; stride = record { step = s; raise = r }; first = row })

abbrev pub run_in : ℕ → List Data → Option Run
run_in count (word ∷ rows ∷ step ∷ raise ∷ first ∷ []) = do
  text ← as_str word
  if bytes_eq text (codes "run") then run_words count rows step raise first else None
run_in count _ = None

-- the rows for which a run stands
abbrev pub rows_of : Run → Option (List Row)
rows_of run = run_rows run.first run.stride 0 run.count

-- what an entry of the map stands for: a row, or in version 2 the rows of a run
abbrev pub row_or_run : Version → Option Row → Option Run → Option (List Row)
row_or_run version (Some row) run = Some (row ∷ [])
row_or_run One None run = None
row_or_run Two None run = run >>= rows_of

abbrev pub entry_in : Version → ℕ → Data → Option (List Row)
entry_in version count d = do
  parts ← list_in d
  row_or_run version (row_in count parts) (run_in count parts)

-- what the entries stand for, one after the other
abbrev pub rows_in : Version → ℕ → List Data → Option (List Row)
rows_in version count [] = Some []
rows_in version count (d ∷ ds) = do
  rows ← entry_in version count d
  more ← rows_in version count ds
  Some (rows ++ more)

abbrev pub has_few_rows : Version → List Row → Bool
has_few_rows One rows = true
has_few_rows Two rows = nat_le (length rows) 4194304

abbrev pub map_in : Version → ℕ → List Data → Option (List Row)
map_in version count ds = rows_in version count ds >>= kept (has_few_rows version)

-- rows with these added, unless there are none to add
abbrev pub Adds : List Row → List Row → Option (List Row) → Type 0
Adds old new more = (rows : List Row) × (more ≡ Some rows) × (new ≡ old ++ rows)

-- there are no rows to add, or they would be too many
abbrev pub IsTooMuch : Version → List Row → Option (List Row) → Type 0
IsTooMuch version old None = ⊤
IsTooMuch version old (Some rows) = has_few_rows version (old ++ rows) ≡ false

-- ---- the order

abbrev pub pick_in : List Data → Option Segment
pick_in (node ∷ kind ∷ []) = do
  n ← small_in node
  k ← kind_in kind
  Some (Pick n k)
pick_in _ = None

-- a number is a stretch of the canonical order, and a list one event
abbrev pub number_or_pick : Option ℕ → Option Segment → Option Segment
number_or_pick (Some count) pick = option_map Canonical (kept (nat_lt 0) count)
number_or_pick None pick = pick

abbrev pub segment_in : Data → Option Segment
segment_in d = number_or_pick (number_in d) (list_in d >>= pick_in)

abbrev pub segments_in : List Data → Option (List Segment)
segments_in [] = Some []
segments_in (d ∷ ds) = do
  segment ← segment_in d
  more ← segments_in ds
  Some (segment ∷ more)

abbrev pub is_one_number : List Segment → Bool
is_one_number (Canonical count ∷ []) = true
is_one_number _ = false

-- the orders that a verdict allows
abbrev pub suits : Verdict → List Segment → Bool
suits Clean order = is_one_number order
suits Undefined order = true
suits OrderDependent order = is_one_number order
suits OutOfSteps order = is_one_number order
suits Outside [] = true
suits Outside (segment ∷ more) = is_one_number (segment ∷ more)

-- the stretches, of at most so many picks together
abbrev pub short_segments : ℕ → List Data → Option (List Segment)
short_segments most ds = segments_in ds >>= kept (λ order. nat_le (total_picks order) most)

abbrev pub order_in : Version → Verdict → List Data → Option (List Segment)
order_in version verdict ds = short_segments (most_picks version) ds >>= kept (suits verdict)

-- ---- the claim

abbrev pub is_lower_digit : ℕ → Bool
is_lower_digit b = (nat_le 48 b && nat_le b 57) || (nat_le 97 b && nat_le b 102)

abbrev pub decoded : Result (List ℕ) FromHexError → Option (List ℕ)
decoded (Ok bytes) = Some bytes
decoded (Err e) = None

-- the digits of the output
abbrev pub digits_in : Data → Option (List ℕ)
digits_in d = do
  found ← get (codes "output") d
  text ← as_str found
  kept (list_all is_lower_digit) text

abbrev pub output_in : Data → Option (List ℕ)
output_in d = digits_in d >>= λ digits. decoded (decode_of digits)

abbrev pub status_in : Data → Option ℕ
status_in d = do
  found ← get (codes "status") d
  number ← whole_in found
  kept (λ n. nat_lt n 256) number

abbrev pub cause_in : Data → Option Cause
cause_in d = do
  found ← get (codes "cause") d
  text ← as_str found
  cause_named text

abbrev pub limit_in : Data → Option ℕ
limit_in d = get (codes "number") d >>= number_in

abbrev pub clause_in : Data → Option Clause
clause_in d = do
  found ← get (codes "clause") d
  text ← as_str found
  clause_named text

abbrev pub event_parts : ℕ → List Data → Option Event
event_parts count (frame ∷ turn ∷ node ∷ kind ∷ []) = do
  f ← frame_in count frame
  t ← number_in turn
  n ← small_in node
  k ← kind_in kind
  Some (record { frame = f; turn = t; node = n; kind = k })
event_parts count _ = None

abbrev pub event_in : ℕ → Data → Option Event
event_in count d = list_in d >>= event_parts count

abbrev pub two_events : ℕ → List Data → Option (Event × Event)
two_events count (first ∷ second ∷ []) = do
  event ← event_in count first
  against ← event_in count second
  Some (event, against)
two_events count _ = None

-- no pair, or two events
abbrev pub pair_or_none : ℕ → List Data → Option (Option (Event × Event))
pair_or_none count [] = Some None
pair_or_none count (d ∷ ds) = option_map Some (two_events count (d ∷ ds))

-- the part, or the member that is wrong
abbrev pub need : {A B : Type 0} → Field → Option A → (A → Result B Field) → Result B Field
need field None rest = Err field
need field (Some part) rest = rest part

-- what a call may answer where a value states this part or has this wrong member: just that, or that memory ran out
abbrev pub Answers : {A : Type 0} → Result A Field → Result A CertFault → Type 0
Answers stated (Ok part) = stated ≡ Ok part
Answers stated (Err NotJson) = ⊥
Answers stated (Err (BadShape wrong)) = stated ≡ Err wrong
Answers stated (Err NoMemory) = ⊤

abbrev pub claim_in : Verdict → ℕ → Data → Result Claim Field
claim_in Clean count d = need field.Output (output_in d) (λ output. need field.Status (status_in d) (λ status. Ok (claim.Clean status output)))
claim_in Undefined count d =
    need field.Clause (clause_in d) (λ clause. need field.Pair (list_at (codes "pair") d >>= pair_or_none count) (λ pair. Ok (claim.Undefined clause pair)))
claim_in OrderDependent count d = need field.Pair (list_at (codes "pair") d >>= two_events count) (λ pair. Ok (claim.OrderDependent pair.0 pair.1))
claim_in OutOfSteps count d = Ok claim.OutOfSteps
claim_in Outside count d = need field.Cause (cause_in d) (λ cause. need field.Number (limit_in d) (λ number. Ok (claim.Outside cause number)))

-- ---- the whole

abbrev pub version_numbered : ℕ → Option Version
version_numbered n = if n == 1 then Some One else if n == 2 then Some Two else None

abbrev pub version_in : Data → Option Version
version_in d = do
  found ← get (codes "version") d
  number ← whole_in found
  version_numbered number

abbrev pub verdict_in : Data → Option Verdict
verdict_in d = do
  found ← get (codes "verdict") d
  text ← as_str found
  verdict_named text

-- the members of every certificate, and those of one verdict
abbrev pub is_common : List ℕ → Bool
is_common name =
    bytes_eq name (codes "version") || bytes_eq name (codes "verdict") || bytes_eq name (codes "frames") || bytes_eq name (codes "map")
    || bytes_eq name (codes "order")

abbrev pub is_of_clean : List ℕ → Bool
is_of_clean name = bytes_eq name (codes "output") || bytes_eq name (codes "status")

abbrev pub is_of_undefined : List ℕ → Bool
is_of_undefined name = bytes_eq name (codes "clause") || bytes_eq name (codes "pair")

abbrev pub is_of_outside : List ℕ → Bool
is_of_outside name = bytes_eq name (codes "cause") || bytes_eq name (codes "number")

-- the further members of a verdict, or where there is none those of any
abbrev pub is_further : Option Verdict → List ℕ → Bool
is_further (Some Clean) name = is_of_clean name
is_further (Some Undefined) name = is_of_undefined name
is_further (Some OrderDependent) name = bytes_eq name (codes "pair")
is_further (Some OutOfSteps) name = false
is_further (Some Outside) name = is_of_outside name
is_further None name = is_of_clean name || is_of_undefined name || is_of_outside name

abbrev pub is_member : Option Verdict → List ℕ → Bool
is_member verdict name = is_common name || is_further verdict name

abbrev pub all_names : (List ℕ → Bool) → Members → Bool
all_names test no_members = true
all_names test (member name d more) = test name && all_names test more

-- an object with no member that its verdict doesn't have
abbrev pub is_root : Option Verdict → Data → Bool
is_root verdict d = unwrap_or (option_map (all_names (is_member verdict)) (as_object d)) false

abbrev pub with_claim : List frames.Row → List Row → List Segment → Result Claim Field → Result Cert Field
with_claim rows map order (Ok made) = Ok (record { frames = rows; map = map; order = order; claim = made })
with_claim rows map order (Err wrong) = Err wrong

-- the certificate of a value of this version and verdict, or the first member that is wrong from the frames on
abbrev pub parts_in : Version → Verdict → Data → Result Cert Field
parts_in version verdict d =
    need field.Frames (list_at (codes "frames") d >>= more_frames []) (λ rows.
    need field.Map (list_at (codes "map") d >>= map_in version (length rows)) (λ map.
    need field.Order (list_at (codes "order") d >>= order_in version verdict) (λ order.
    with_claim rows map order (claim_in verdict (length rows) d))))

-- the certificate of a value, or the first member that is wrong
abbrev pub cert_in : Data → Result Cert Field
cert_in d =
    need field.Root (if is_root (verdict_in d) d then Some d else None) (λ root.
    need field.Version (version_in d) (λ version.
    need field.Verdict (verdict_in d) (λ verdict. parts_in version verdict d)))

-- ---- the text

-- the value of a text
pub record IsJsonOf (text : List ℕ) (d : Data) : Type 0 where
  pub utf8 : IsUtf8 text
  pub value : read text ≡ Some d

-- a text that is no JSON
abbrev pub IsNoJson : List ℕ → Type 0
IsNoJson text = (IsUtf8 text → ⊥) ⊎ (read text ≡ None)

-- the text states the certificate, which keeps the form of the text's version
pub record States (text : List ℕ) (c : Cert) : Type 0 where
  pub value : Data
  pub version : Version
  pub json : IsJsonOf text value
  pub numbered : version_in value ≡ Some version
  pub stated : cert_in value ≡ Ok c
  pub form : HasForm version c

-- why a text states no certificate: it is no JSON, or this is its first wrong member
abbrev pub IsRefused : List ℕ → CertFault → Type 0
IsRefused text NotJson = IsNoJson text
IsRefused text (BadShape wrong) = (d : Data) × IsJsonOf text d × (cert_in d ≡ Err wrong)
IsRefused text NoMemory = ⊤
