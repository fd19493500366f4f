-- Marks of frames: which stay, which are added.
use Rattle.std.proofs.Common.{
  ◌≡◌,
  ◌⊎◌,
  inl,
  inr,
  ◌∙◌,
  ℕ,
  zero,
  suc,
  ◌+◌,
  ◌-◌,
  ◌<◌,
  ◌≤◌,
  List,
  [],
  ◌∷◌,
  ◌++◌,
  Bool,
  cond,
  true,
  false,
  length,
  drop,
  set,
  get_or,
  replicate,
  slice_get,
  Option,
  Some,
  None,
  refl,
  ap,
  sym,
  subst,
  arith,
}
use Rattle.std.proofs.lemmas.List.{at_drop_all, at_drop_more, get_or-set_same, get_or-set_other, length-set}
use Rattle.std.proofs.lemmas.Option.{slice_get_within}
use Rattle.std.specs.List.{AllByRecursion}
use Rattle.ub_base.specs.Frames.{IsFrameList}
use Rattle.ub_base.specs.Frames as frames
use Rattle.addr_map.specs.declared.map.Row.{Row}
use Rattle.certificate_making.specs.Marking.{is_marked, kept_marks, mark_all, mark_starter, mark_starters, name_frames, row_frames}

pub mark_all-append : (marks : List Bool) (xs ys : List ℕ) → mark_all marks (xs ++ ys) ≡ mark_all (mark_all marks xs) ys
mark_all-append marks [] ys = refl
mark_all-append marks (x ∷ xs) ys = mark_all-append (set marks x true) xs ys

-- the place n of a loop that goes down from m
pub starters_next : (rows : List frames.Row) (m : ℕ) (marks : List Bool) → 0 < m
    → mark_starters rows m marks ≡ mark_starters rows (m - 1) (mark_starter (slice_get rows (m - 1)) m marks)
starters_next rows zero marks some = absurd (omega arith)
starters_next rows (suc n) marks some =
    let e : n ≡ suc n - 1 = omega arith in
    ap (λ k. mark_starters rows k (mark_starter (slice_get rows k) (suc n) marks)) e

-- the marks on one place further down
pub starters_on : (rows : List frames.Row) (n m below : ℕ) (marks now all : List Bool) → m ≡ n - below → below < n
    → now ≡ mark_starter (slice_get rows (m - 1)) m marks → mark_starters rows (n - below) marks ≡ all → mark_starters rows (n - (below + 1)) now ≡ all
starters_on rows n m below marks now all place less is before =
    let e : n - (below + 1) ≡ m - 1 = omega arith in
    let some : 0 < m = omega arith in
    ap (λ k. mark_starters rows k now) e
    ∙ (ap (mark_starters rows (m - 1)) is
    ∙ (sym (starters_next rows m marks some)
    ∙ (ap (λ k. mark_starters rows k marks) place ∙ before)))

-- and one row further on
pub rows_on : (rows : List Row) (i : ℕ) (d : Row) (marks now all : List Bool) → i < length rows → now ≡ mark_all marks (name_frames (get_or rows i d).name)
    → mark_all marks (row_frames (drop i rows)) ≡ all → mark_all now (row_frames (drop (i + 1) rows)) ≡ all
rows_on rows i d marks now all less is before =
    let e : mark_all marks (row_frames (drop i rows)) ≡ mark_all marks (row_frames (get_or rows i d ∷ drop (i + 1) rows)) =
    at_drop_more (λ rs. mark_all marks (row_frames rs)) rows i d less in
    ap (λ ms. mark_all ms (row_frames (drop (i + 1) rows))) is
    ∙ (sym (mark_all-append marks (name_frames (get_or rows i d).name) (row_frames (drop (i + 1) rows))) ∙ (sym e ∙ before))

pub rows_end : (rows : List Row) (i : ℕ) (marks all : List Bool) → length rows ≤ i → mark_all marks (row_frames (drop i rows)) ≡ all → marks ≡ all
rows_end rows i marks all past before =
    let e : mark_all marks (row_frames (drop i rows)) ≡ marks = at_drop_all (λ rs. mark_all marks (row_frames rs)) rows i past in
    sym e ∙ before

pub set_past : (marks : List Bool) (f : ℕ) → length marks ≤ f → marks ≡ set marks f true
set_past [] f past = refl
set_past (b ∷ marks) zero past = absurd (omega arith)
set_past (b ∷ marks) (suc f) past = ap (λ ms. b ∷ ms) (set_past marks f (omega arith))

-- ---- one mark

pub set_grows : (marks : List Bool) (f i : ℕ) → is_marked marks i ≡ true → is_marked (set marks f true) i ≡ true
set_grows [] f i h = h
set_grows (b ∷ marks) zero zero h = refl
set_grows (b ∷ marks) zero (suc i) h = h
set_grows (b ∷ marks) (suc f) zero h = h
set_grows (b ∷ marks) (suc f) (suc i) h = set_grows marks f i h

set_here : (marks : List Bool) (f : ℕ) → f < length marks → is_marked (set marks f true) f ≡ true
set_here marks f within = get_or-set_same marks f true false within

next : {A : Type 0} (i f : ℕ) → (A ⊎ (i ≡ f)) → A ⊎ (suc i ≡ suc f)
next i f (inl a) = inl a
next i f (inr e) = inr (ap suc e)

set_only : (marks : List Bool) (f i : ℕ) → is_marked (set marks f true) i ≡ true → (is_marked marks i ≡ true) ⊎ (i ≡ f)
set_only [] f i h = inl h
set_only (b ∷ marks) zero zero h = inr refl
set_only (b ∷ marks) zero (suc i) h = inl h
set_only (b ∷ marks) (suc f) zero h = inl h
set_only (b ∷ marks) (suc f) (suc i) h = next i f (set_only marks f i h)

-- ---- marks of named frames

length_mark_all : (marks : List Bool) (fs : List ℕ) → length (mark_all marks fs) ≡ length marks
length_mark_all marks [] = refl
length_mark_all marks (f ∷ fs) = length_mark_all (set marks f true) fs ∙ length-set marks f true

mark_all_grows : (marks : List Bool) (fs : List ℕ) (i : ℕ) → is_marked marks i ≡ true → is_marked (mark_all marks fs) i ≡ true
mark_all_grows marks [] i h = h
mark_all_grows marks (f ∷ fs) i h = mark_all_grows (set marks f true) fs i (set_grows marks f i h)

mark_all_all : (marks : List Bool) (fs : List ℕ) (n : ℕ) → n < length marks → AllByRecursion (λ f. f ≤ n) fs
    → AllByRecursion (λ f. is_marked (mark_all marks fs) f ≡ true) fs
mark_all_all marks [] n long within = tt
mark_all_all marks (f ∷ fs) n long within =
    let h = within.0 in
    let longer : n < length (set marks f true) = omega (arith, length-set marks f true, long) in
    (mark_all_grows (set marks f true) fs f (set_here marks f (omega arith)), mark_all_all (set marks f true) fs n longer within.1)

-- what holds of marked frames, and of the named ones, holds of those that are marked then
mark_all_only : (P : ℕ → Type 0) (marks : List Bool) (fs : List ℕ) → ((i : ℕ) → is_marked marks i ≡ true → P i) → AllByRecursion P fs
    → (i : ℕ) → is_marked (mark_all marks fs) i ≡ true → P i
mark_all_only P marks [] before named i h = before i h
mark_all_only P marks (f ∷ fs) before named i h =
    mark_all_only P (set marks f true) fs (λ j m. by j (set_only marks f j m)) named.1 i h
  where
    by : (j : ℕ) → ((is_marked marks j ≡ true) ⊎ (j ≡ f)) → P j
    by j (inl m) = before j m
    by j (inr e) = subst P (sym e) named.0

none_marked : (n i : ℕ) → is_marked (replicate n false) i ≡ true → ⊥
none_marked zero i h = cc
none_marked (suc n) zero h = cc
none_marked (suc n) (suc i) h = none_marked n i h

length_unmarked : (n : ℕ) → length (replicate n false) ≡ n
length_unmarked zero = refl
length_unmarked (suc n) = ap suc (length_unmarked n)

-- ---- marks of those that started marked ones

marked_by : (b : Bool) (marks : List Bool) (f i : ℕ) → is_marked marks i ≡ true → is_marked (cond b (set marks f true) marks) i ≡ true
marked_by true marks f i h = set_grows marks f i h
marked_by false marks f i h = h

starter_grows : (r : Option frames.Row) (f : ℕ) (marks : List Bool) (i : ℕ) → is_marked marks i ≡ true → is_marked (mark_starter r f marks) i ≡ true
starter_grows None f marks i h = h
starter_grows (Some row) f marks i h = marked_by (is_marked marks f) marks row.0.0 i h

starters_grow : (rows : List frames.Row) (n : ℕ) (marks : List Bool) (i : ℕ) → is_marked marks i ≡ true → is_marked (mark_starters rows n marks) i ≡ true
starters_grow rows zero marks i h = h
starters_grow rows (suc n) marks i h =
    starters_grow rows n (mark_starter (slice_get rows n) (suc n) marks) i (starter_grows (slice_get rows n) (suc n) marks i h)

length_by : (b : Bool) (marks : List Bool) (f : ℕ) → length (cond b (set marks f true) marks) ≡ length marks
length_by true marks f = length-set marks f true
length_by false marks f = refl

length_starter : (r : Option frames.Row) (f : ℕ) (marks : List Bool) → length (mark_starter r f marks) ≡ length marks
length_starter None f marks = refl
length_starter (Some row) f marks = length_by (is_marked marks f) marks row.0.0

-- those that started the marked ones from the row n on are marked
abbrev pub IsClosed : List frames.Row → ℕ → List Bool → Type 0
IsClosed rows n marks =
    (j : ℕ) (row : frames.Row) → n ≤ j → slice_get rows j ≡ Some row → is_marked marks (suc j) ≡ true → is_marked marks row.0.0 ≡ true

some_same : {A : Type 0} (a b : A) → Some a ≡ Some b → a ≡ b
some_same a b e = cc

other_mark : (marks : List Bool) (f i : ℕ) → (i ≡ f → ⊥) → is_marked (set marks f true) i ≡ true → is_marked marks i ≡ true
other_mark marks f i other h = sym (get_or-set_other marks f i true false other) ∙ h

up : (n j : ℕ) → ((j ≤ n) ⊎ (suc n ≤ j)) → (suc j ≤ suc n) ⊎ (suc (suc n) ≤ suc j)
up n j (inl l) = inl (omega arith)
up n j (inr l) = inr (omega arith)

cases : (n j : ℕ) → (j ≤ n) ⊎ (suc n ≤ j)
cases zero zero = inl (omega arith)
cases zero (suc j) = inr (omega arith)
cases (suc n) zero = inl (omega arith)
cases (suc n) (suc j) = up n j (cases n j)

differ : false ≡ true → ⊥
differ e = cc

-- the frame at n is marked: so is then the one that started it
closed_marked : (rows : List frames.Row) → IsFrameList rows → (n : ℕ) (r : frames.Row) (marks : List Bool) → length rows < length marks
    → slice_get rows n ≡ Some r → IsClosed rows (suc n) marks → (j : ℕ) (row : frames.Row) → n ≤ j → slice_get rows j ≡ Some row
    → is_marked (set marks r.0.0 true) (suc j) ≡ true → ((j ≤ n) ⊎ (suc n ≤ j)) → is_marked (set marks r.0.0 true) row.0.0 ≡ true
closed_marked rows h n r marks long at closed j row from there marked (inl le) =
    let e : j ≡ n = omega arith in
    let within : n < length rows = slice_get_within rows n r at in
    let low : r.0.0 ≤ n = h.earlier n r at in
    let same : r ≡ row = some_same r row (sym at ∙ (ap (slice_get rows) (sym e) ∙ there)) in
    subst (λ (x : frames.Row). is_marked (set marks r.0.0 true) x.0.0 ≡ true) same (set_here marks r.0.0 (omega arith))
closed_marked rows h n r marks long at closed j row from there marked (inr more) =
    let low : r.0.0 ≤ n = h.earlier n r at in
    set_grows marks r.0.0 row.0.0 (closed j row more there (other_mark marks r.0.0 (suc j) (λ e. omega arith) marked))

-- it isn't marked
closed_unmarked : (rows : List frames.Row) (n : ℕ) (marks : List Bool) → is_marked marks (suc n) ≡ false → IsClosed rows (suc n) marks
    → (j : ℕ) (row : frames.Row) → n ≤ j → slice_get rows j ≡ Some row → is_marked marks (suc j) ≡ true → ((j ≤ n) ⊎ (suc n ≤ j))
    → is_marked marks row.0.0 ≡ true
closed_unmarked rows n marks is closed j row from there marked (inl le) =
    let e : n ≡ j = omega arith in
    absurd (differ (sym is ∙ (ap (λ k. is_marked marks (suc k)) e ∙ marked)))
closed_unmarked rows n marks is closed j row from there marked (inr more) = closed j row more there marked

close_by : (b : Bool) (rows : List frames.Row) → IsFrameList rows → (n : ℕ) (r : frames.Row) (marks : List Bool) → length rows < length marks
    → slice_get rows n ≡ Some r → is_marked marks (suc n) ≡ b → IsClosed rows (suc n) marks → IsClosed rows n (cond b (set marks r.0.0 true) marks)
close_by true rows h n r marks long at is closed = λ j row from there marked.
    closed_marked rows h n r marks long at closed j row from there marked (cases n j)
close_by false rows h n r marks long at is closed = λ j row from there marked.
    closed_unmarked rows n marks is closed j row from there marked (cases n j)

-- there is no frame behind the end
close_none : (rows : List frames.Row) (n : ℕ) (marks : List Bool) → slice_get rows n ≡ None → IsClosed rows (suc n) marks → IsClosed rows n marks
close_none rows n marks none closed = λ j row from there marked. by j row there marked (cases n j) from
  where
    clash : (row : frames.Row) → None ≡ Some row → ⊥
    clash row e = cc

    by : (j : ℕ) (row : frames.Row) → slice_get rows j ≡ Some row → is_marked marks (suc j) ≡ true → ((j ≤ n) ⊎ (suc n ≤ j)) → n ≤ j
        → is_marked marks row.0.0 ≡ true
    by j row there marked (inl le) from = let e : n ≡ j = omega arith in absurd (clash row (sym none ∙ (ap (slice_get rows) e ∙ there)))
    by j row there marked (inr more) from = closed j row more there marked

close_one : (o : Option frames.Row) (rows : List frames.Row) → IsFrameList rows → (n : ℕ) (marks : List Bool) → length rows < length marks
    → slice_get rows n ≡ o → IsClosed rows (suc n) marks → IsClosed rows n (mark_starter o (suc n) marks)
close_one None rows h n marks long at closed = close_none rows n marks at closed
close_one (Some r) rows h n marks long at closed = close_by (is_marked marks (suc n)) rows h n r marks long at refl closed

pub starters_close : (rows : List frames.Row) → IsFrameList rows → (n : ℕ) (marks : List Bool) → length rows < length marks → IsClosed rows n marks
    → IsClosed rows 0 (mark_starters rows n marks)
starters_close rows h zero marks long closed = closed
starters_close rows h (suc n) marks long closed =
    let longer : length rows < length (mark_starter (slice_get rows n) (suc n) marks) = omega (arith, length_starter (slice_get rows n) (suc n) marks, long) in
    starters_close rows h n (mark_starter (slice_get rows n) (suc n) marks) longer (close_one (slice_get rows n) rows h n marks long refl closed)

end_closed : (rows : List frames.Row) (marks : List Bool) → IsClosed rows (length rows) marks
end_closed rows marks = λ j row from there marked. let within : j < length rows = slice_get_within rows j row there in absurd (omega arith)

-- what holds of marked frames, and with a frame of the one that started it, holds of those that are marked then
only_by : (b : Bool) (P : ℕ → Type 0) (n : ℕ) (r : frames.Row) (marks : List Bool) → is_marked marks (suc n) ≡ b → (P (suc n) → P r.0.0)
    → ((i : ℕ) → is_marked marks i ≡ true → P i) → (i : ℕ) → is_marked (cond b (set marks r.0.0 true) marks) i ≡ true → P i
only_by true P n r marks is up before i h = by (set_only marks r.0.0 i h)
  where
    by : ((is_marked marks i ≡ true) ⊎ (i ≡ r.0.0)) → P i
    by (inl m) = before i m
    by (inr e) = subst P (sym e) (up (before (suc n) is))
only_by false P n r marks is up before i h = before i h

only_one : (o : Option frames.Row) (P : ℕ → Type 0) (rows : List frames.Row) (n : ℕ) (marks : List Bool) → slice_get rows n ≡ o
    → ((j : ℕ) (row : frames.Row) → slice_get rows j ≡ Some row → P (suc j) → P row.0.0)
    → ((i : ℕ) → is_marked marks i ≡ true → P i) → (i : ℕ) → is_marked (mark_starter o (suc n) marks) i ≡ true → P i
only_one None P rows n marks at up before i h = before i h
only_one (Some r) P rows n marks at up before i h = only_by (is_marked marks (suc n)) P n r marks refl (up n r at) before i h

starters_only : (P : ℕ → Type 0) (rows : List frames.Row) → ((j : ℕ) (row : frames.Row) → slice_get rows j ≡ Some row → P (suc j) → P row.0.0)
    → (n : ℕ) (marks : List Bool) → ((i : ℕ) → is_marked marks i ≡ true → P i) → (i : ℕ) → is_marked (mark_starters rows n marks) i ≡ true → P i
starters_only P rows up zero marks before i h = before i h
starters_only P rows up (suc n) marks before i h =
    starters_only P rows up n (mark_starter (slice_get rows n) (suc n) marks) (only_one (slice_get rows n) P rows n marks refl up before) i h

-- ---- all marks

-- the named frames are marked
pub named_marked : (rows : List frames.Row) (fs : List ℕ) → AllByRecursion (λ f. f ≤ length rows) fs
    → AllByRecursion (λ f. is_marked (kept_marks rows fs) f ≡ true) fs
named_marked rows fs within =
    let blank = replicate (length rows + 1) false in
    let long : length rows < length blank = omega (arith, length_unmarked (length rows + 1)) in
    up fs (mark_all_all blank fs (length rows) long within)
  where
    up : (gs : List ℕ) → AllByRecursion (λ f. is_marked (mark_all (replicate (length rows + 1) false) fs) f ≡ true) gs
        → AllByRecursion (λ f. is_marked (kept_marks rows fs) f ≡ true) gs
    up [] h = tt
    up (g ∷ gs) h = (starters_grow rows (length rows) (mark_all (replicate (length rows + 1) false) fs) g h.0, up gs h.1)

-- and so is each that started a marked one
pub all_closed : (rows : List frames.Row) → IsFrameList rows → (fs : List ℕ) → IsClosed rows 0 (kept_marks rows fs)
all_closed rows h fs =
    let blank = replicate (length rows + 1) false in
    let long : length rows < length (mark_all blank fs) = omega (arith, length_mark_all blank fs, length_unmarked (length rows + 1)) in
    starters_close rows h (length rows) (mark_all blank fs) long (end_closed rows (mark_all blank fs))

-- and no others
pub marked_only : (P : ℕ → Type 0) (rows : List frames.Row) (fs : List ℕ) → AllByRecursion P fs
    → ((j : ℕ) (row : frames.Row) → slice_get rows j ≡ Some row → P (suc j) → P row.0.0) → (i : ℕ) → is_marked (kept_marks rows fs) i ≡ true → P i
marked_only P rows fs named up i h =
    let blank = replicate (length rows + 1) false in
    starters_only P rows up (length rows) (mark_all blank fs)
    (mark_all_only P blank fs (λ (j : ℕ) (m : is_marked blank j ≡ true). absurd (none_marked (length rows + 1) j m)) named) i h
