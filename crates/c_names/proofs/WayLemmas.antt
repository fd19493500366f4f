-- Frames started on the way to one.
use Rattle.std.proofs.Common.{
  ◌≡◌,
  ◌≤◌,
  ◌<◌,
  ◌^◌,
  ◌+◌,
  ◌-◌,
  ℕ,
  zero,
  suc,
  List,
  [],
  ◌∷◌,
  ◌++◌,
  length,
  get_or,
  take,
  reverse,
  slice_get,
  Contains,
  Some,
  None,
  refl,
  sym,
  ◌∙◌,
  ap,
  subst,
  arith,
  append_assoc,
  append-nil,
  length-append,
  inl,
  inr,
}
use Rattle.std.proofs.lemmas.List.{reverse-append, take_more, take_all}
use Rattle.std.proofs.lemmas.Bool.{cases_lt}
use Rattle.ub_base.specs.declared.names.Frame.{Frame}
use Rattle.ub_base.specs.Frames.{Path, Row, IsFrameList, path_of}
use Rattle.ub_base.proofs.Paths.{path_of-row, path_of-append}
use Rattle.ub_base.proofs.FrameLemmas.{IsFrameList-push}
use Rattle.c_names.specs.Ways.{Extends, LeadsOver, Reaches, IsNext}

pub Reaches-start : (rows : List Row) (f : ℕ) → f ≡ 0 → Reaches rows rows f
Reaches-start rows f e = record {
  kept = ([], sym (append-nil rows));
  there = omega arith;
  needed = λ g a b. absurd (omega arith);
}

pub path-start : (rows : List Row) (f : ℕ) → f ≡ 0 → path_of rows f ≡ []
path-start rows f e = ap (path_of rows) e

path_of-kept : (old new : List Row) (f : ℕ) → IsFrameList old → Extends old new → f ≤ length old → path_of new f ≡ path_of old f
path_of-kept old new f h kept le = ap (λ rows. path_of rows f) kept.1 ∙ path_of-append old kept.0 h f le

pub Extends-trans : (old mid new : List Row) → Extends old mid → Extends mid new → Extends old new
Extends-trans old mid new h k = (h.0 ++ k.0, k.1 ∙ ap (λ rows. rows ++ k.0) h.1 ∙ append_assoc old h.0 k.0)

pub Extends-same : (old mid new : List Row) → Extends old mid → new ≡ mid → Extends old new
Extends-same old mid new h e = (h.0, e ∙ h.1)

pub Reaches-next : (old mid new : List Row) (f g : ℕ) (step : ℕ × ℕ) → IsFrameList mid → Reaches old mid f → IsNext mid new f step g → Reaches old new g
Reaches-next old mid new f g step h r n = record {
  kept = Extends-trans old mid new r.kept n.kept;
  there = n.there;
  needed = λ e a b. elim (cases_lt (length mid) e) [
    | inl late ↦ ([], ap (path_of new) (sym (n.own e late b)))
    | inr early ↦ (let over = r.needed e a early in
        (step ∷ over.0, n.path ∙ ap (λ p. step ∷ p) (over.1 ∙ ap (λ p. over.0 ++ p) (sym (path_of-kept mid new e h n.kept early)))))
  ];
}

pub path-next : (mid new : List Row) (f g : ℕ) (step : ℕ × ℕ) (steps : Path) (i : ℕ) (d : ℕ × ℕ) → path_of mid f ≡ reverse (take i steps) →
    IsNext mid new f step g → i < length steps → step ≡ get_or steps i d
    → path_of new g ≡ reverse (take (i + 1) steps)
path-next mid new f g step steps i d e n h is =
    n.path ∙ ap (λ p. step ∷ p) e
    ∙ sym (reverse-append (take i steps) (step ∷ []))
    ∙ ap (λ s. reverse (take i steps ++ s ∷ [])) is
    ∙ ap reverse (sym (take_more steps i d h))

pub path-end : (steps path : Path) (i : ℕ) → path ≡ reverse (take i steps) → length steps ≤ i → path ≡ reverse steps
path-end steps path i e h = e ∙ ap reverse (take_all i steps h)

pub IsNext-found : (rows : List Row) (frame found : Frame) (step : ℕ × ℕ) → IsFrameList rows → (0 < found.0) × (found.0 ≤ length rows) ×
    (slice_get rows (found.0 - 1) ≡ Some (frame, step.0, step.1)) → IsNext rows rows frame.0 step found.0
IsNext-found rows frame found step h at = record {
  rows = h;
  kept = ([], sym (append-nil rows));
  there = at.1;
  few = omega arith;
  path = path_of-row rows h found.0 (frame, step.0, step.1) at.0 at.2;
  own = λ f a b. absurd (omega arith);
}

last : (rows : List Row) (row : Row) (i : ℕ) → i ≡ length rows → slice_get (rows ++ row ∷ []) i ≡ Some row
last [] row zero e = refl
last [] row (suc i) e = absurd (omega arith)
last (x ∷ rows) row zero e = absurd (omega arith)
last (x ∷ rows) row (suc i) e = last rows row i (omega arith)

pub IsNext-started : (old new : List Row) (frame : Frame) (step : ℕ × ℕ) (f : ℕ) → IsFrameList old → frame.0 ≤ length old →
    (Contains old (frame, step.0, step.1) → ⊥) → length old < 2 ^ 32 - 1 → f ≡ length old + 1 → new ≡ old ++ (frame, step.0, step.1) ∷ []
    → IsNext old new frame.0 step f
IsNext-started old new frame step f h there absent few at is =
    let row : Row = (frame, step.0, step.1) in
    let rows : IsFrameList new = subst IsFrameList (sym is) (IsFrameList-push old (frame, step.0, step.1) h there absent few) in
    let count : length new ≡ length old + 1 = omega (arith, ap (length {A = Row}) is, length-append old ((frame, step.0, step.1) ∷ [])) in
    let here : slice_get new (f - 1) ≡ Some (frame, step.0, step.1) =
    ap (λ l. slice_get l (f - 1)) is ∙ last old (frame, step.0, step.1) (f - 1) (omega arith) in
    record {
      rows = rows;
      kept = ((frame, step.0, step.1) ∷ [], is);
      there = omega arith;
      few = omega arith;
      path = path_of-row new rows f (frame, step.0, step.1) (omega arith) here ∙ ap (λ p. (step.0, step.1) ∷ p)
          (path_of-kept old new frame.0 h ((frame, step.0, step.1) ∷ [], is) there);
      own = λ e a b. omega arith;
    }
