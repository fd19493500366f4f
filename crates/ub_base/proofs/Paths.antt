-- Paths of frames: their steps, and that further rows leave them.
use Rattle.std.proofs.Common.{◌≡◌, ◌<◌, ◌≤◌, ◌-◌, ℕ, zero, suc, List, [], ◌∷◌, ◌++◌, length, slice_get, Option, None, Some, refl, ap, ◌∙◌, arith}
use Rattle.ub_base.specs.Frames.{Row, IsFrameList, with_step, path_within, path_of}

-- more steps than the frame's number change nothing
pub path_within-enough : (rows : List Row) → IsFrameList rows → (n m f : ℕ) → f ≤ n → f ≤ m → path_within n rows f ≡ path_within m rows f
path_within-enough rows h zero zero f a b = refl
path_within-enough rows h zero (suc m) zero a b = refl
path_within-enough rows h zero (suc m) (suc i) a b = absurd (omega arith)
path_within-enough rows h (suc n) zero zero a b = refl
path_within-enough rows h (suc n) zero (suc i) a b = absurd (omega arith)
path_within-enough rows h (suc n) (suc m) zero a b = refl
path_within-enough rows h (suc n) (suc m) (suc i) a b = by (slice_get rows i) refl (λ p le. path_within-enough rows h n m p (omega arith) (omega arith))
  where
    by : (r : Option Row) → slice_get rows i ≡ r → ((p : ℕ) → p ≤ i → path_within n rows p ≡ path_within m rows p)
        → with_step r (path_within n rows) ≡ with_step r (path_within m rows)
    by None e rest = refl
    by (Some row) e rest = ap (λ path. (row.1, row.2) ∷ path) (rest row.0.0 (h.earlier i row e))

-- the path of a frame that isn't `main`
pub path_of-row : (rows : List Row) → IsFrameList rows → (f : ℕ) (row : Row) → 0 < f → slice_get rows (f - 1) ≡ Some row
    → path_of rows f ≡ (row.1, row.2) ∷ path_of rows row.0.0
path_of-row rows h zero row a e = absurd (omega arith)
path_of-row rows h (suc i) row a e =
    let at : slice_get rows i ≡ Some row = ap (slice_get rows) (pred i) ∙ e in
    ap (λ r. with_step r (path_within i rows)) at
    ∙ ap (λ path. (row.1, row.2) ∷ path) (path_within-enough rows h i row.0.0 row.0.0 (h.earlier i row at) (omega arith))
  where
    pred : (n : ℕ) → n ≡ suc n - 1
    pred n = omega arith

slice_get-append : {X : Type 0} (xs ys : List X) (i : ℕ) → i < length xs → slice_get (xs ++ ys) i ≡ slice_get xs i
slice_get-append [] ys i h = absurd (omega arith)
slice_get-append (x ∷ xs) ys zero h = refl
slice_get-append (x ∷ xs) ys (suc i) h = slice_get-append xs ys i (omega arith)

within-append : (rows more : List Row) → IsFrameList rows → (n f : ℕ) → f ≤ length rows → path_within n (rows ++ more) f ≡ path_within n rows f
within-append rows more h zero f a = refl
within-append rows more h (suc n) zero a = refl
within-append rows more h (suc n) (suc i) a =
    ap (λ r. with_step r (path_within n (rows ++ more))) (slice_get-append rows more i (omega arith))
    ∙ by (slice_get rows i) refl (λ p le. within-append rows more h n p (omega arith))
  where
    by : (r : Option Row) → slice_get rows i ≡ r → ((p : ℕ) → p ≤ i → path_within n (rows ++ more) p ≡ path_within n rows p)
        → with_step r (path_within n (rows ++ more)) ≡ with_step r (path_within n rows)
    by None e rest = refl
    by (Some row) e rest = ap (λ path. (row.1, row.2) ∷ path) (rest row.0.0 (h.earlier i row e))

-- further rows leave the path of a frame that was there
pub path_of-append : (rows more : List Row) → IsFrameList rows → (f : ℕ) → f ≤ length rows → path_of (rows ++ more) f ≡ path_of rows f
path_of-append rows more h f a = within-append rows more h f f a
