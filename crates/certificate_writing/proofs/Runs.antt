-- Runs of rows: which rows they stand for, and that rows begin with one longest run.
use Rattle.std.proofs.Common.{
  ◌≡◌,
  ◌⊎◌,
  ℕ,
  zero,
  suc,
  ◌+◌,
  ◌*◌,
  ◌<◌,
  ◌≤◌,
  ◌^◌,
  Bool,
  true,
  false,
  cond,
  List,
  [],
  ◌∷◌,
  ◌++◌,
  length,
  take,
  get_or,
  Option,
  Some,
  None,
  option_map,
  refl,
  sym,
  ap,
  subst,
  ◌∙◌,
  arith,
  inl,
  inr,
}
use Rattle.std.specs.Prelude.{nat_lt}
use Rattle.std.proofs.lemmas.List.{length-take, get_or-take}
use Rattle.std.proofs.Math.Seq.{take-suc}
use Rattle.ub_base.specs.declared.names.ObjName.{ObjName}
use Rattle.ub_base.specs.declared.names.ObjName.TheVariants.{Static, Lit, Argv, Arg, Auto, Heap}
use Rattle.addr_map.specs.declared.map.Row.{Row}
use Rattle.certificate_text.specs.declared.row.Run.{Run}
use Rattle.certificate_text.specs.declared.row.Stride.{Stride}
use Rattle.certificate_text.specs.Reading.{◌>>=◌, kept, moved_name, row_at, run_rows}
use Rattle.certificate_writing.specs.Writing.{moving, BeginsWith, IsLongest}
use Rattle.certificate_text.proofs.RowSteps.{length-run_rows}

-- the two parts of a run
pub both : (found : Option Row) (more : Option (List Row)) (rows : List Row) → (found >>= λ row. more >>= λ rest. Some (row ∷ rest)) ≡ Some rows
    → (row : Row) × (rest : List Row) × (found ≡ Some row) × (more ≡ Some rest) × (rows ≡ row ∷ rest)
both None more rows is = absurd (cc)
both (Some row) None rows is = absurd (cc)
both (Some row) (Some rest) rows is = (row, rest, refl, refl, cc)

joined : (found : Option Row) (more : Option (List Row)) (first : Row) (rest : List Row) (row : Row) → found ≡ Some first → more ≡ Some (rest ++ row ∷ [])
    → (found >>= λ r. more >>= λ rs. Some (r ∷ rs)) ≡ Some ((first ∷ rest) ++ row ∷ [])
joined found more first rest row here there = rw (here, there) refl

-- a run, and the row behind it
pub run_grown : (first : Row) (stride : Stride) (at n i : ℕ) (rows : List Row) (row : Row) → run_rows first stride at n ≡ Some rows → i ≡ at + n
    → row_at first stride i ≡ Some row → run_rows first stride at (suc n) ≡ Some (rows ++ row ∷ [])
run_grown first stride at zero i rows row is place next =
    let none : [] ≡ rows = cc in
    let here : row_at first stride at ≡ Some row = subst (λ j. row_at first stride j ≡ Some row) (omega arith) next in
    rw (← none, here) refl
run_grown first stride at (suc n) i rows row is place next =
    let h = both (row_at first stride at) (run_rows first stride (at + 1) n) rows is in
    let more = run_grown first stride (at + 1) n i h.1 row h.3 (omega arith) next in
    joined (row_at first stride at) (run_rows first stride (at + 1) (suc n)) h.0 h.1 row h.2 more ∙ ap (λ rs. Some (rs ++ row ∷ [])) (sym h.4)

-- a row of a run
pub run_item : (first : Row) (stride : Stride) (at n k i : ℕ) (rows : List Row) (d : Row) → run_rows first stride at n ≡ Some rows → k < n → i ≡ at + k
    → row_at first stride i ≡ Some (get_or rows k d)
run_item first stride at zero k i rows d is lt place = absurd (omega arith)
run_item first stride at (suc n) zero i rows d is lt place =
    let h = both (row_at first stride at) (run_rows first stride (at + 1) n) rows is in
    rw h.4 (subst (λ j. row_at first stride j ≡ Some h.0) (omega arith) h.2)
run_item first stride at (suc n) (suc k) i rows d is lt place =
    let h = both (row_at first stride at) (run_rows first stride (at + 1) n) rows is in
    rw h.4 (run_item first stride (at + 1) n k i h.1 d h.3 (omega arith) (omega arith))

-- rows that a run stands for as far as they reach
pub stands_more : (first : Row) (stride : Stride) (rows : List Row) (at n : ℕ) (d : Row) → run_rows first stride 0 at ≡ Some (take at rows) → at < length rows
    → row_at first stride at ≡ Some (get_or rows at d) → suc at ≡ n → run_rows first stride 0 n ≡ Some (take n rows)
stands_more first stride rows at n d so_far lt next is =
    subst (λ m. run_rows first stride 0 m ≡ Some (take m rows)) is
    (run_grown first stride 0 at at (take at rows) (get_or rows at d) so_far (omega arith) next ∙ ap Some (sym (take-suc rows at d lt)))

pub stands_within : (first : Row) (stride : Stride) (rows : List Row) (n : ℕ) → run_rows first stride 0 n ≡ Some (take n rows) → n ≤ length rows
stands_within first stride rows n is = let a = length-run_rows first stride 0 n (take n rows) is in let b = length-take n rows in omega arith

less_or_not : (a b : ℕ) → (a < b) ⊎ (b ≤ a)
less_or_not zero zero = inr (omega arith)
less_or_not zero (suc b) = inl (omega arith)
less_or_not (suc a) zero = inr (omega arith)
less_or_not (suc a) (suc b) = more (less_or_not a b) where
  more : (a < b) ⊎ (b ≤ a) → (suc a < suc b) ⊎ (suc b ≤ suc a)
  more (inl lt) = inl (omega arith)
  more (inr le) = inr (omega arith)

until_by : (first : Row) (stride : Stride) (rows : List Row) (at : ℕ) (d : Row) (n : ℕ) → (row_at first stride at ≡ Some (get_or rows at d) → ⊥)
    → run_rows first stride 0 n ≡ Some (take n rows) → (at < n) ⊎ (n ≤ at) → n ≤ at
until_by first stride rows at d n other is (inr le) = le
until_by first stride rows at d n other is (inl lt) =
    absurd (other (run_item first stride 0 n at at (take n rows) d is lt (omega arith) ∙ ap Some (get_or-take n rows at d lt)))

-- a run stops where a row isn't the next one of it
pub stands_until : (first : Row) (stride : Stride) (rows : List Row) (at : ℕ) (d : Row) (n : ℕ) → (row_at first stride at ≡ Some (get_or rows at d) → ⊥)
    → run_rows first stride 0 n ≡ Some (take n rows) → n ≤ at
stands_until first stride rows at d n other is = until_by first stride rows at d n other is (less_or_not at n)

-- ---- rows of a run

kept_by : {A : Type 0} (b : Bool) (x y : A) → cond b (Some x) None ≡ Some y → y ≡ x
kept_by true x y is = cc
kept_by false x y is = absurd (cc)

map_kept : (f : ℕ → ObjName) (b : Bool) (n : ℕ) (o : ObjName) → option_map f (cond b (Some n) None) ≡ Some o → o ≡ f n
map_kept f true n o is = cc
map_kept f false n o is = absurd (cc)

pub moved_moving : (name : ObjName) (by : ℕ) (moved : ObjName) → moved_name name by ≡ Some moved → moving moved ≡ moving name + by
moved_moving (Static k) by moved is = ap moving (map_kept Static (nat_lt (k + by) (2 ^ 32)) (k + by) moved is)
moved_moving (Lit k) by moved is = ap moving (map_kept Lit (nat_lt (k + by) (2 ^ 32)) (k + by) moved is)
moved_moving Argv by moved is = absurd (cc)
moved_moving (Arg k) by moved is = ap moving (map_kept Arg (nat_lt (k + by) (2 ^ 32)) (k + by) moved is)
moved_moving (Auto frame turn k) by moved is = ap moving (map_kept (λ t. Auto frame t k) (nat_lt (turn + by) (2 ^ 63)) (turn + by) moved is)
moved_moving (Heap frame turn k) by moved is = ap moving (map_kept (λ t. Heap frame t k) (nat_lt (turn + by) (2 ^ 63)) (turn + by) moved is)

moved_none : (name : ObjName) (by : ℕ) (moved : ObjName) → by ≡ 0 → moved_name name by ≡ Some moved → moved ≡ name
moved_none (Static k) by moved none is = map_kept Static (nat_lt (k + by) (2 ^ 32)) (k + by) moved is ∙ ap Static (omega arith)
moved_none (Lit k) by moved none is = map_kept Lit (nat_lt (k + by) (2 ^ 32)) (k + by) moved is ∙ ap Lit (omega arith)
moved_none Argv by moved none is = absurd (cc)
moved_none (Arg k) by moved none is = map_kept Arg (nat_lt (k + by) (2 ^ 32)) (k + by) moved is ∙ ap Arg (omega arith)
moved_none (Auto frame turn k) by moved none is =
    map_kept (λ t. Auto frame t k) (nat_lt (turn + by) (2 ^ 63)) (turn + by) moved is ∙ ap (λ t. Auto frame t k) (omega arith)
moved_none (Heap frame turn k) by moved none is =
    map_kept (λ t. Heap frame t k) (nat_lt (turn + by) (2 ^ 63)) (turn + by) moved is ∙ ap (λ t. Heap frame t k) (omega arith)

parts_by : (base : Option ℕ) (name : Option ObjName) (size align : ℕ) (row : Row)
    → (base >>= λ b. name >>= λ n. Some (record { name = n; base = b; size = size; align = align })) ≡ Some row
    → (base ≡ Some row.base) × (name ≡ Some row.name) × (size ≡ row.size) × (align ≡ row.align)
parts_by None name size align row is = absurd (cc)
parts_by (Some b) None size align row is = absurd (cc)
parts_by (Some b) (Some n) size align row is =
    let same : record { name = n; base = b; size = size; align = align } ≡ row = cc in
    (ap (λ (r : Row). Some r.base) same, ap (λ (r : Row). Some r.name) same, ap (λ (r : Row). r.size) same, ap (λ (r : Row). r.align) same)

pub row_parts : (first : Row) (stride : Stride) (at : ℕ) (row : Row) → row_at first stride at ≡ Some row
    → (kept (λ n. nat_lt n (2 ^ 63)) (first.base + at * stride.step) ≡ Some row.base) × (moved_name first.name (at * stride.raise) ≡ Some row.name)
    × (first.size ≡ row.size) × (first.align ≡ row.align)
row_parts first stride at row is =
    parts_by (kept (λ n. nat_lt n (2 ^ 63)) (first.base + at * stride.step)) (moved_name first.name (at * stride.raise)) first.size first.align row is

same_row : (a b : Row) → a.name ≡ b.name → a.base ≡ b.base → a.size ≡ b.size → a.align ≡ b.align → a ≡ b
same_row a b name base size align =
    ap (λ n. record { name = n; base = a.base; size = a.size; align = a.align }) name
    ∙ ap (λ n. record { name = b.name; base = n; size = a.size; align = a.align }) base
    ∙ ap (λ n. record { name = b.name; base = b.base; size = n; align = a.align }) size
    ∙ ap (λ n. record { name = b.name; base = b.base; size = b.size; align = n }) align

-- a run begins with its first row
pub first_at : (first : Row) (stride : Stride) (row : Row) → row_at first stride 0 ≡ Some row → first ≡ row
first_at first stride row is =
    let h = row_parts first stride 0 row is in
    let base = kept_by (nat_lt (first.base + 0 * stride.step) (2 ^ 63)) (first.base + 0 * stride.step) row.base h.0 in
    same_row first row (sym (moved_none first.name (0 * stride.raise) row.name (omega arith) h.1)) (omega (arith, base)) h.2 h.3

-- ---- the longest run

starts : (rows : List Row) (first : Row) (run : Run) → first ≡ get_or rows 0 first → BeginsWith rows run → 0 < run.count → run.first ≡ first
starts rows first run is begins some =
    first_at run.first run.stride first
    (run_item run.first run.stride 0 run.count 0 0 (take run.count rows) first begins.stands some (omega arith) ∙ ap Some
    (get_or-take run.count rows 0 first some ∙ sym is))

goes_on : (rows : List Row) (second : Row) (run : Run) → second ≡ get_or rows 1 second → BeginsWith rows run → 1 < run.count
    → row_at run.first run.stride 1 ≡ Some second
goes_on rows second run is begins more =
    run_item run.first run.stride 0 run.count 1 1 (take run.count rows) second begins.stands more (omega arith)
    ∙ ap Some (get_or-take run.count rows 1 second more ∙ sym is)

by_stride : (rows : List Row) (first second : Row) (limit : ℕ) (made : Option Stride) (other : Run) → first ≡ get_or rows 0 first →
    second ≡ get_or rows 1 second
    → ((stride : Stride) → 0 < stride.step → row_at first stride 1 ≡ Some second → made ≡ Some stride)
    → ((stride : Stride) → made ≡ Some stride → (n : ℕ) → run_rows first stride 0 n ≡ Some (take n rows) → n ≤ limit)
    → BeginsWith rows other → (1 < other.count) ⊎ (other.count ≤ 1) → 1 ≤ limit → other.count ≤ limit
by_stride rows first second limit made other one two only longest begins (inr few) some = omega arith
by_stride rows first second limit made other one two only longest begins (inl many) some =
    let same = starts rows first other one begins (omega arith) in
    let stride = only other.stride begins.apart (subst (λ (r : Row). row_at r other.stride 1 ≡ Some second) same (goes_on rows second other two begins many))
    in
    longest other.stride stride other.count (subst (λ (r : Row). run_rows r other.stride 0 other.count ≡ Some (take other.count rows)) same begins.stands)

-- The first two rows determine the stride of a run with which rows begin, so none is longer than the one of that stride.
pub none_longer : (rows : List Row) (first second : Row) (limit : ℕ) (made : Option Stride) (other : Run) → first ≡ get_or rows 0 first
    → second ≡ get_or rows 1 second → ((stride : Stride) → 0 < stride.step → row_at first stride 1 ≡ Some second → made ≡ Some stride)
    → ((stride : Stride) → made ≡ Some stride → (n : ℕ) → run_rows first stride 0 n ≡ Some (take n rows) → n ≤ limit)
    → 1 ≤ limit → BeginsWith rows other → other.count ≤ limit
none_longer rows first second limit made other one two only longest some begins =
    by_stride rows first second limit made other one two only longest begins (less_or_not 1 other.count) some

pub few_rows : (rows : List Row) (other : Run) → length rows < 3 → BeginsWith rows other → other.count < 3
few_rows rows other few begins = let within = stands_within other.first other.stride rows other.count begins.stands in omega arith

-- an element that is there is the same whatever stands for a missing one
pub there : (rows : List Row) (i : ℕ) (d e : Row) → i < length rows → get_or rows i d ≡ get_or rows i e
there [] i d e lt = absurd (omega arith)
there (row ∷ rows) zero d e lt = refl
there (row ∷ rows) (suc i) d e lt = there rows i d e (omega arith)

pub longest : (rows : List Row) (run : Run) → BeginsWith rows run → ((other : Run) → BeginsWith rows other → other.count ≤ run.count) → IsLongest rows run
longest rows run begins most = record { begins = begins; longest = most }

pub no_stride : (made : Option Stride) (stride : Stride) → made ≡ None → made ≡ Some stride → ⊥
no_stride made stride none is = cc

pub one_stride : (made : Option Stride) (own stride : Stride) → made ≡ Some own → made ≡ Some stride → own ≡ stride
one_stride made own stride a b = cc

-- what bounds the runs of one stride bounds those of every stride that was made
pub bound_by : (rows : List Row) (first : Row) (limit : ℕ) (made : Option Stride) (own : Stride) → made ≡ Some own
    → ((n : ℕ) → run_rows first own 0 n ≡ Some (take n rows) → n ≤ limit)
    → (stride : Stride) → made ≡ Some stride → (n : ℕ) → run_rows first stride 0 n ≡ Some (take n rows) → n ≤ limit
bound_by rows first limit made own is most stride other =
    subst (λ s. (n : ℕ) → run_rows first s 0 n ≡ Some (take n rows) → n ≤ limit) (one_stride made own stride is other) most
