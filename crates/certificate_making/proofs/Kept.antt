-- What is kept: the paths of the named frames, and no frame that isn't needed.
use Rattle.std.proofs.Common.{
  ◌≡◌,
  ◌∙◌,
  ℕ,
  zero,
  suc,
  ◌-◌,
  ◌<◌,
  ◌≤◌,
  List,
  [],
  ◌∷◌,
  map,
  Bool,
  true,
  length,
  get_or,
  slice_get,
  Contains,
  Some,
  refl,
  ap,
  sym,
  subst,
  arith,
}
use Rattle.std.specs.List.{AllByRecursion}
use Rattle.std.proofs.lemmas.Option.{slice_get_within}
use Rattle.ub_base.specs.Frames.{IsFrameList, path_of}
use Rattle.ub_base.specs.Frames as frames
use Rattle.ub_base.proofs.Paths.{path_of-row}
use Rattle.certificate_making.specs.Making.{Needed, is_named, started}
use Rattle.certificate_making.specs.Marking.{is_marked, kept_marks}
use Rattle.certificate_making.specs.Numbering.{IsNumbered, moved}
use Rattle.certificate_making.proofs.Marks.{IsClosed, all_closed, marked_only, named_marked}

pub slice_get_some : {A : Type 0} (xs : List A) (i : ℕ) → i < length xs → (x : A) × (slice_get xs i ≡ Some x)
slice_get_some [] i h = absurd (omega arith)
slice_get_some (x ∷ xs) zero h = (x, refl)
slice_get_some (x ∷ xs) (suc i) h = slice_get_some xs i (omega arith)

-- ---- paths

-- a marked frame has its path under its new number
path_kept : (rows : List frames.Row) → IsFrameList rows → (marks : List Bool) (kept : List frames.Row) → IsFrameList kept → (numbers : List ℕ)
    → IsNumbered rows marks (length rows) kept numbers → IsClosed rows 0 marks → (n f : ℕ) → f ≤ n → f ≤ length rows → is_marked marks f ≡ true
    → path_of kept (get_or numbers f 0) ≡ path_of rows f
path_kept rows h marks kept k numbers is closed n zero a b marked = ap (path_of kept) is.main
path_kept rows h marks kept k numbers is closed zero (suc i) a b marked = absurd (omega arith)
path_kept rows h marks kept k numbers is closed (suc n) (suc i) a b marked =
    let found = slice_get_some rows i (omega arith) in
    let row = found.0 in
    let low : row.0.0 ≤ i = h.earlier i row found.1 in
    let there = is.there i row (omega arith) marked found.1 in
    let place : i ≡ suc i - 1 = omega arith in
    let at : slice_get rows (suc i - 1) ≡ Some row = subst (λ j. slice_get rows j ≡ Some row) place found.1 in
    path_of-row kept k (get_or numbers (suc i) 0) (moved numbers row) there.0 there.1
    ∙ (ap (λ path. (row.1, row.2) ∷ path)
    (path_kept rows h marks kept k numbers is closed n row.0.0 (omega arith) (omega arith) (closed i row (omega arith) found.1 marked))
    ∙ sym (path_of-row rows h (suc i) row (omega arith) at))

paths_kept : (rows : List frames.Row) → IsFrameList rows → (marks : List Bool) (kept : List frames.Row) → IsFrameList kept → (numbers : List ℕ)
    → IsNumbered rows marks (length rows) kept numbers → IsClosed rows 0 marks → (fs : List ℕ) → AllByRecursion (λ f. f ≤ length rows) fs
    → AllByRecursion (λ f. is_marked marks f ≡ true) fs → map (path_of kept) (map (λ f. get_or numbers f 0) fs) ≡ map (path_of rows) fs
paths_kept rows h marks kept k numbers is closed [] within marked = refl
paths_kept rows h marks kept k numbers is closed (f ∷ fs) within marked =
    ap (λ p. p ∷ map (path_of kept) (map (λ g. get_or numbers g 0) fs))
    (path_kept rows h marks kept k numbers is closed f f (omega arith) within.0 marked.0)
    ∙ ap (λ ps. path_of rows f ∷ ps) (paths_kept rows h marks kept k numbers is closed fs within.1 marked.1)

-- the named frames keep their paths
pub named_paths : (rows : List frames.Row) → IsFrameList rows → (fs : List ℕ) → AllByRecursion (λ f. f ≤ length rows) fs
    → (kept : List frames.Row) → IsFrameList kept → (numbers : List ℕ) → IsNumbered rows (kept_marks rows fs) (length rows) kept numbers
    → map (path_of kept) (map (λ f. get_or numbers f 0) fs) ≡ map (path_of rows) fs
named_paths rows h fs within kept k numbers is =
    paths_kept rows h (kept_marks rows fs) kept k numbers is (all_closed rows h fs) fs within (named_marked rows fs within)

-- ---- needed frames

-- the marked ones are needed
all_named : (rows : List frames.Row) (all fs : List ℕ) → ((f : ℕ) → Contains fs f → Contains all f) → AllByRecursion (Needed rows all) fs
all_named rows all [] sub = tt
all_named rows all (f ∷ fs) sub =
    (is_named f (sub f (0, omega arith, refl)), all_named rows all fs (λ (g : ℕ) (c : Contains fs g). sub g (suc c.0, omega (arith, c.1), c.2)))

marked_needed : (rows : List frames.Row) (fs : List ℕ) (i : ℕ) → is_marked (kept_marks rows fs) i ≡ true → Needed rows fs i
marked_needed rows fs i h =
    marked_only (Needed rows fs) rows fs (all_named rows fs fs (λ f c. c)) (λ j row at n. started j row at n) i h

at_place : (fs : List ℕ) (g : ℕ → ℕ) (f k : ℕ) → k < length fs → get_or fs k f ≡ f → Contains (map g fs) (g f)
at_place [] g f k less is = absurd (omega arith)
at_place (x ∷ fs) g f zero less is = (0, omega arith, ap g is)
at_place (x ∷ fs) g f (suc k) less is = let r = at_place fs g f k (omega arith) is in (suc r.0, omega (arith, r.1), r.2)

contained : (fs : List ℕ) (g : ℕ → ℕ) (f : ℕ) → Contains fs f → Contains (map g fs) (g f)
contained fs g f c = at_place fs g f c.0 c.1 c.2

holds_at : (P : ℕ → Type 0) (fs : List ℕ) → AllByRecursion P fs → (f k : ℕ) → k < length fs → get_or fs k f ≡ f → P f
holds_at P [] h f k less is = absurd (omega arith)
holds_at P (x ∷ fs) h f zero less is = subst P is h.0
holds_at P (x ∷ fs) h f (suc k) less is = holds_at P fs h.1 f k (omega arith) is

needed_marked : (rows : List frames.Row) → IsFrameList rows → (fs : List ℕ) → AllByRecursion (λ f. f ≤ length rows) fs → (f : ℕ) → Needed rows fs f
    → is_marked (kept_marks rows fs) f ≡ true
needed_marked rows h fs within _ (is_named f c) = holds_at (λ g. is_marked (kept_marks rows fs) g ≡ true) fs (named_marked rows fs within) f c.0 c.1 c.2
needed_marked rows h fs within _ (started i row at n) = all_closed rows h fs i row (omega arith) at (needed_marked rows h fs within (suc i) n)

-- a needed frame is needed under its new number
still_needed : (rows : List frames.Row) → IsFrameList rows → (fs : List ℕ) → AllByRecursion (λ f. f ≤ length rows) fs → (kept : List frames.Row)
    (numbers : List ℕ) → IsNumbered rows (kept_marks rows fs) (length rows) kept numbers → (f : ℕ) → Needed rows fs f
    → Needed kept (map (λ g. get_or numbers g 0) fs) (get_or numbers f 0)
still_needed rows h fs within kept numbers is _ (is_named f c) = is_named (get_or numbers f 0) (contained fs (λ g. get_or numbers g 0) f c)
still_needed rows h fs within kept numbers is _ (started i row at n) =
    let less : i < length rows = slice_get_within rows i row at in
    let there = is.there i row less (needed_marked rows h fs within (suc i) n) at in
    let place : get_or numbers (suc i) 0 ≡ suc (get_or numbers (suc i) 0 - 1) = omega (arith, there.0) in
    started (get_or numbers (suc i) 0 - 1) (moved numbers row) there.1
    (subst (Needed kept (map (λ g. get_or numbers g 0) fs)) place (still_needed rows h fs within kept numbers is (suc i) n))

-- each kept frame is needed
pub kept_needed : (rows : List frames.Row) → IsFrameList rows → (fs : List ℕ) → AllByRecursion (λ f. f ≤ length rows) fs → (kept : List frames.Row)
    (numbers : List ℕ) → IsNumbered rows (kept_marks rows fs) (length rows) kept numbers → (i : ℕ) → i < length kept
    → Needed kept (map (λ g. get_or numbers g 0) fs) (suc i)
kept_needed rows h fs within kept numbers is i less =
    let o = is.only i less in
    subst (Needed kept (map (λ g. get_or numbers g 0) fs)) o.is
    (still_needed rows h fs within kept numbers is (suc o.at) (marked_needed rows fs (suc o.at) o.marked))
