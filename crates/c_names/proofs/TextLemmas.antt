-- Texts of frames, step by step.
use Rattle.std.proofs.Common.{
  zero,
  slice_get,
  Some,
  None,
  ◌≡◌,
  ◌<◌,
  ◌+◌,
  ◌-◌,
  ℕ,
  suc,
  List,
  [],
  ◌∷◌,
  ◌++◌,
  length,
  get_or,
  drop,
  refl,
  sym,
  ◌∙◌,
  ap,
  append_assoc,
  arith,
  drop-cons,
}
use Rattle.ub_base.specs.Frames.{Path, Row, IsFrameList, row_of, with_step, path_within, path_of}
use Rattle.ub_base.proofs.Paths.{path_of-row}
use Rattle.c_names.specs.Texts.{frame_text, step_text}

-- one more step of a path that is written from its end
pub frame_text-step : (start out : List ℕ) (path : Path) (i : ℕ) (d : ℕ × ℕ) → i < length path
    → out ≡ start ++ frame_text (drop (length path - i) path)
    → out ++ step_text (get_or path (length path - 1 - i) d) ≡ start ++ frame_text (drop (length path - (i + 1)) path)
frame_text-step start out path i d h e =
    let k : ℕ = length path - 1 - i in
    let here : length path - (i + 1) ≡ length path - 1 - i = omega arith in
    let next : length path - i ≡ suc (length path - 1 - i) = omega arith in
    let more : drop (length path - 1 - i) path ≡ get_or path (length path - 1 - i) d ∷ drop (suc (length path - 1 - i)) path =
    drop-cons path (length path - 1 - i) d (omega arith) in
    ap (λ o. o ++ step_text (get_or path (length path - 1 - i) d)) e
    ∙ append_assoc start _ _
    ∙ ap (λ n. start ++ (frame_text (drop n path) ++ step_text (get_or path (length path - 1 - i) d))) next
    ∙ ap (λ rest. start ++ frame_text rest) (sym more)
    ∙ ap (λ n. start ++ frame_text (drop n path)) (sym here)

-- the path of a frame that has a row
pub path_of-row_of : (rows : List Row) → IsFrameList rows → (f : ℕ) (row : Row) → row_of rows f ≡ Some row
    → path_of rows f ≡ (row.1, row.2) ∷ path_of rows row.0.0
path_of-row_of rows h zero row e = absurd (cc)
path_of-row_of rows h (suc i) row e = path_of-row rows h (suc i) row (omega arith) (ap (slice_get rows) (pred i) ∙ e)
  where
    pred : (n : ℕ) → suc n - 1 ≡ n
    pred n = omega arith

pub path_of-no_row : (rows : List Row) (f : ℕ) → row_of rows f ≡ None → path_of rows f ≡ []
path_of-no_row rows zero e = refl
path_of-no_row rows (suc i) e = ap (λ r. with_step r (path_within i rows)) e
