-- Frames that no path of a list of frames leads to, and lists of frames that are the same.
use Rattle.std.proofs.Common.{
  ◌≡◌,
  ◌<◌,
  ◌≤◌,
  ◌+◌,
  ◌-◌,
  ℕ,
  zero,
  suc,
  List,
  [],
  ◌∷◌,
  ◌++◌,
  length,
  get_or,
  take,
  drop,
  Option,
  Some,
  None,
  refl,
  sym,
  ap,
  subst,
  ◌∙◌,
  arith,
}
use Rattle.std.specs.Prelude.{slice_get, Contains}
use Rattle.std.proofs.lemmas.Option.{slice_get_within, get_or_from_slice_get}
use Rattle.ub_base.specs.Frames.{Row, Path, IsFrameList, path_of}
use Rattle.ub_base.proofs.Paths.{path_of-row}
use Rattle.c_names.proofs.Once.{frame_once}

get_some : {X : Type 0} (xs : List X) (i : ℕ) → i < length xs → (x : X) × (slice_get xs i ≡ Some x)
get_some [] i h = absurd (omega arith)
get_some (x ∷ xs) zero h = (x, refl)
get_some (x ∷ xs) (suc i) h = get_some xs i (omega arith)

row_path : (rows : List Row) → IsFrameList rows → (i : ℕ) (row : Row) → slice_get rows i ≡ Some row →
    path_of rows (suc i) ≡ (row.1, row.2) ∷ path_of rows row.0.0
row_path rows h i row e = path_of-row rows h (suc i) row (omega arith) (ap (slice_get rows) (pred i) ∙ e)
  where
    pred : (n : ℕ) → suc n - 1 ≡ n
    pred n = omega arith

path_parts : (s t : ℕ × ℕ) (p q : Path) → s ∷ p ≡ t ∷ q → (s ≡ t) × (p ≡ q)
path_parts s t p q e = ((cc), (cc))

-- a row that starts a frame with this step, where the path of its own frame is the rest
record Starts (rows : List Row) (step : ℕ × ℕ) (rest : Path) : Type 0 where
  pub at : ℕ
  pub row : Row
  pub found : slice_get rows at ≡ Some row
  pub step_is : (row.1, row.2) ≡ step
  pub rest_is : path_of rows row.0.0 ≡ rest

-- each step on the way to a frame was started
starts_on_way : (rows : List Row) → IsFrameList rows → (over : Path) (g : ℕ) (step : ℕ × ℕ) (rest : Path) → g ≤ length rows
    → path_of rows g ≡ over ++ step ∷ rest → Starts rows step rest
starts_on_way rows h [] zero step rest b e = absurd (cc)
starts_on_way rows h [] (suc i) step rest b e =
    let r = get_some rows i (omega arith) in
    let parts = path_parts _ _ _ _ (sym (row_path rows h i r.0 r.1) ∙ e) in
    record { at = i; row = r.0; found = r.1; step_is = parts.0; rest_is = parts.1 }
starts_on_way rows h (s ∷ over) zero step rest b e = absurd (cc)
starts_on_way rows h (s ∷ over) (suc i) step rest b e =
    let r = get_some rows i (omega arith) in
    let parts = path_parts _ _ _ _ (sym (row_path rows h i r.0 r.1) ∙ e) in
    starts_on_way rows h over r.0.0.0 step rest (omega (arith, h.earlier i r.0 r.1)) parts.1

contains_at : {X : Type 0} (xs : List X) (x : X) (i : ℕ) → slice_get xs i ≡ Some x → Contains xs x
contains_at xs x i e = (i, slice_get_within xs i x e, get_or_from_slice_get xs i x x e)

-- no path leads over a step that no row starts
pub none_over : (rows : List Row) → IsFrameList rows → (f : ℕ) (step : ℕ × ℕ) (over rest : Path) → f ≤ length rows → path_of rows f ≡ rest
    → (Contains rows (record { 0 = f }, step.0, step.1) → ⊥) → (g : ℕ) → g ≤ length rows → path_of rows g ≡ over ++ step ∷ rest → ⊥
none_over rows h f step over rest b is absent g c e =
    let w = starts_on_way rows h over g step rest c e in
    let earlier = h.earlier w.at w.row w.found in
    let within = slice_get_within rows w.at w.row w.found in
    let frames : w.row.0.0 ≡ f = frame_once rows h w.row.0.0 w.row.0.0 f (omega arith) (omega (arith, earlier, within)) b (w.rest_is ∙ sym is) in
    let same : w.row ≡ (record { 0 = f }, step.0, step.1) = λ i. (record { 0 = frames i }, (w.step_is i).0, (w.step_is i).1) in
    absent (contains_at rows _ w.at (w.found ∙ ap Some same))

-- a list falls into what stands before an element, that element and the rest
split_at : (xs : Path) (i k : ℕ) (d : ℕ × ℕ) → k ≡ length xs - 1 - i → i < length xs → xs ≡ take k xs ++ get_or xs k d ∷ drop (length xs - i) xs
split_at xs i k d e h =
    let m : k < length xs = omega (arith, e, h) in
    let n : length xs - i ≡ suc k = omega (arith, e, h) in
    subst (λ z. xs ≡ take k xs ++ get_or xs k d ∷ drop z xs) (sym n) (split xs k d m)
  where
    split : (ys : Path) (j : ℕ) (d : ℕ × ℕ) → j < length ys → ys ≡ take j ys ++ get_or ys j d ∷ drop (suc j) ys
    split [] j d a = absurd (omega arith)
    split (y ∷ ys) zero d a = refl
    split (y ∷ ys) (suc j) d a = ap (λ zs. y ∷ zs) (split ys j d (omega arith))

-- the step at the front of what is left
pub none_from : (rows : List Row) → IsFrameList rows → (f : ℕ) (steps : Path) (i k : ℕ) (step : ℕ × ℕ) → f ≤ length rows
    → path_of rows f ≡ drop (length steps - i) steps → k ≡ length steps - 1 - i → i < length steps → step ≡ get_or steps k step
    → (Contains rows (record { 0 = f }, step.0, step.1) → ⊥) → (g : ℕ) → g ≤ length rows → path_of rows g ≡ steps → ⊥
none_from rows h f steps i k step b is e l at absent g c p =
    none_over rows h f step (take k steps) (drop (length steps - i) steps) b is absent g c
    (p ∙ split_at steps i k step e l ∙ ap (λ s. take k steps ++ s ∷ drop (length steps - i) steps) (sym at))

-- the next step is taken
pub one_more : (rows : List Row) → IsFrameList rows → (f g : ℕ) (steps : Path) (i k : ℕ) (step : ℕ × ℕ) → 0 < g
    → slice_get rows (g - 1) ≡ Some (record { 0 = f }, step.0, step.1)
    → path_of rows f ≡ drop (length steps - i) steps → k ≡ length steps - 1 - i → i < length steps → step ≡ get_or steps k step
    → path_of rows g ≡ drop (length steps - (i + 1)) steps
one_more rows h f g steps i k step a found is e l at =
    path_of-row rows h g _ a found ∙ ap (λ p. step ∷ p) is ∙ ap (λ s. s ∷ drop (length steps - i) steps) at
    ∙ subst (λ z. get_or steps k step ∷ drop (length steps - i) steps ≡ drop z steps) (fits _ _ _ e l)
    (subst (λ z. get_or steps k step ∷ drop z steps ≡ drop k steps) (sym (next _ _ _ e l)) (split steps k step (omega (arith, e, l))))
  where
    fits : (n i k : ℕ) → k ≡ n - 1 - i → i < n → k ≡ n - (i + 1)
    fits n i k e l = omega (arith, e, l)

    next : (n i k : ℕ) → k ≡ n - 1 - i → i < n → n - i ≡ suc k
    next n i k e l = omega (arith, e, l)

    split : (ys : Path) (j : ℕ) (d : ℕ × ℕ) → j < length ys → get_or ys j d ∷ drop (suc j) ys ≡ drop j ys
    split [] j d a = absurd (omega arith)
    split (y ∷ ys) zero d a = refl
    split (y ∷ ys) (suc j) d a = split ys j d (omega arith)

-- lists of as many elements, each the same
pub same_lists : {X : Type 0} (xs ys : List X) → length ys ≡ length xs → ((k : ℕ) → k < length xs → slice_get xs k ≡ slice_get ys k) → xs ≡ ys
same_lists [] [] n e = refl
same_lists [] (y ∷ ys) n e = absurd (omega (arith, n))
same_lists (x ∷ xs) [] n e = absurd (omega (arith, n))
same_lists (x ∷ xs) (y ∷ ys) n e =
    let head : x ≡ y = some_once x y (e 0 (omega arith)) in
    let tail : xs ≡ ys = same_lists xs ys (omega (arith, n)) (λ k l. e (suc k) (omega (arith, l))) in
    λ i. head i ∷ tail i
  where
    some_once : {Y : Type 0} (a b : Y) → Some a ≡ Some b → a ≡ b
    some_once a b s = cc
