-- The order of paths, step by step from the newest on.
use Rattle.std.proofs.Common.{
  ◌≡◌,
  ◌≤◌,
  ◌<◌,
  ◌+◌,
  ◌-◌,
  ℕ,
  zero,
  suc,
  Bool,
  true,
  false,
  List,
  [],
  ◌∷◌,
  ◌++◌,
  length,
  reverse,
  drop,
  refl,
  sym,
  ◌∙◌,
  ap,
  subst,
  arith,
  Some,
  None,
}
use mathlib.Core.List.{reverse-cons}
use Rattle.std.proofs.lemmas.List.{length-reverse}
use Rattle.std.specs.declared.cmp.Ordering.{Ordering}
use Rattle.std.specs.declared.cmp.Ordering.TheVariants.{Less, Equal, Greater}
use Rattle.std.specs.Ordering.{nat_cmp, ordering_then}
use Rattle.std.proofs.lemmas.Bool.Decides.{nat_tests}
use Rattle.ub_base.specs.declared.clause.Kind.{Kind}
use Rattle.ub_base.specs.declared.clause.Kind.TheVariants.{Val, Eff, Body}
use Rattle.ub_base.specs.declared.names.ObjName.{ObjName}
use Rattle.ub_base.specs.declared.names.ObjName.TheVariants.{Static, Lit, Argv, Arg, Auto, Heap}
use Rattle.ub_base.specs.Frames.{Path, Row}
use Rattle.ub_base.specs.NameOrders.{kind_cmp}
use Rattle.c_names.specs.Orders.{step_cmp, steps_cmp, path_cmp, frame_cmp, kind_rank, object_rank, place_frame, place_turn, place_number, object_cmp}

pub then_assoc : (o p q : Ordering) → ordering_then (ordering_then o p) q ≡ ordering_then o (ordering_then p q)
then_assoc Less p q = refl
then_assoc Equal p q = refl
then_assoc Greater p q = refl

nat_cmp-refl : (n : ℕ) → nat_cmp n n ≡ Equal
nat_cmp-refl n = grind (arith, nat_tests)

step_cmp-refl : (s : ℕ × ℕ) → step_cmp s s ≡ Equal
step_cmp-refl s = ap (λ o. ordering_then o (nat_cmp s.1 s.1)) (nat_cmp-refl s.0) ∙ nat_cmp-refl s.1

steps_cmp-refl : (p : Path) → steps_cmp p p ≡ Equal
steps_cmp-refl [] = refl
steps_cmp-refl (s ∷ p) = ap (λ o. ordering_then o (steps_cmp p p)) (step_cmp-refl s) ∙ steps_cmp-refl p

pub path_cmp-refl : (p : Path) → path_cmp p p ≡ Equal
path_cmp-refl p = steps_cmp-refl (reverse p)

then_equal : (o : Ordering) → ordering_then o Equal ≡ o
then_equal Less = refl
then_equal Equal = refl
then_equal Greater = refl

-- of two lists of one length, one more step on each decides last
steps_cmp-push : (p q : Path) (s t : ℕ × ℕ) → length p ≡ length q → steps_cmp (p ++ s ∷ []) (q ++ t ∷ []) ≡ ordering_then (steps_cmp p q) (step_cmp s t)
steps_cmp-push [] [] s t e = then_equal (step_cmp s t)
steps_cmp-push [] (b ∷ q) s t e = absurd (omega arith)
steps_cmp-push (a ∷ p) [] s t e = absurd (omega arith)
steps_cmp-push (a ∷ p) (b ∷ q) s t e =
    ap (λ o. ordering_then (step_cmp a b) o) (steps_cmp-push p q s t (omega arith)) ∙ sym (then_assoc (step_cmp a b) (steps_cmp p q) (step_cmp s t))

-- a list that goes on comes after one of the length of its front, where the fronts tie
steps_cmp-longer : (p q more : Path) → length p ≡ length q → 0 < length more → steps_cmp p (q ++ more) ≡ ordering_then (steps_cmp p q) Less
steps_cmp-longer [] [] [] e h = absurd (omega arith)
steps_cmp-longer [] [] (s ∷ more) e h = refl
steps_cmp-longer [] (b ∷ q) more e h = absurd (omega arith)
steps_cmp-longer (a ∷ p) [] more e h = absurd (omega arith)
steps_cmp-longer (a ∷ p) (b ∷ q) more e h =
    ap (λ o. ordering_then (step_cmp a b) o) (steps_cmp-longer p q more (omega arith) h) ∙ sym (then_assoc (step_cmp a b) (steps_cmp p q) Less)

steps_cmp-shorter : (p q more : Path) → length p ≡ length q → 0 < length more → steps_cmp (p ++ more) q ≡ ordering_then (steps_cmp p q) Greater
steps_cmp-shorter [] [] [] e h = absurd (omega arith)
steps_cmp-shorter [] [] (s ∷ more) e h = refl
steps_cmp-shorter [] (b ∷ q) more e h = absurd (omega arith)
steps_cmp-shorter (a ∷ p) [] more e h = absurd (omega arith)
steps_cmp-shorter (a ∷ p) (b ∷ q) more e h =
    ap (λ o. ordering_then (step_cmp a b) o) (steps_cmp-shorter p q more (omega arith) h) ∙ sym (then_assoc (step_cmp a b) (steps_cmp p q) Greater)

lengths : (p q : Path) → length p ≡ length q → length (reverse p) ≡ length (reverse q)
lengths p q e = length-reverse p ∙ e ∙ sym (length-reverse q)

-- paths have the newest step first, so it decides last
pub path_cmp-cons : (p q : Path) (s t : ℕ × ℕ) → length p ≡ length q → path_cmp (s ∷ p) (t ∷ q) ≡ ordering_then (path_cmp p q) (step_cmp s t)
path_cmp-cons p q s t e =
    (λ i. steps_cmp (reverse-cons s p i) (reverse-cons t q i)) ∙ steps_cmp-push (reverse p) (reverse q) s t (lengths p q e)

-- the front of the reversed path is what stays when the newest steps are dropped
reverse-drop : (n : ℕ) (p : Path) → n ≤ length p → (more : Path) × (reverse p ≡ reverse (drop n p) ++ more) × (length more ≡ n)
reverse-drop zero p h = ([], append_nil' (reverse p), refl)
  where
    append_nil' : (l : Path) → l ≡ l ++ []
    append_nil' [] = refl
    append_nil' (x ∷ l) = ap (λ r. x ∷ r) (append_nil' l)
reverse-drop (suc n) [] h = absurd (omega arith)
reverse-drop (suc n) (s ∷ p) h =
    let r = reverse-drop n p (omega arith) in
    (r.0 ++ s ∷ [], reverse-cons s p ∙ ap (λ l. l ++ s ∷ []) r.1 ∙ assoc (reverse (drop n p)) r.0 (s ∷ []), pushed r.0 s ∙ ap suc r.2)
  where
    assoc : (a b c : Path) → (a ++ b) ++ c ≡ a ++ (b ++ c)
    assoc [] b c = refl
    assoc (x ∷ a) b c = ap (λ r. x ∷ r) (assoc a b c)

    pushed : (a : Path) (x : ℕ × ℕ) → length (a ++ x ∷ []) ≡ suc (length a)
    pushed [] x = refl
    pushed (y ∷ a) x = ap suc (pushed a x)

length-drop' : (n : ℕ) (p : Path) → n ≤ length p → length (drop n p) + n ≡ length p
length-drop' zero p h = omega arith
length-drop' (suc n) [] h = absurd (omega arith)
length-drop' (suc n) (s ∷ p) h = omega (arith, length-drop' n p (omega arith))

-- a longer path: its newest steps count only where the rest ties
pub path_cmp-longer : (p q : Path) → length p < length q → path_cmp p q ≡ ordering_then (path_cmp p (drop (length q - length p) q)) Less
path_cmp-longer p q h =
    let n : ℕ = length q - length p in
    let r = reverse-drop (length q - length p) q (omega arith) in
    let rest : length p ≡ length (drop (length q - length p) q) = omega (arith, length-drop' (length q - length p) q (omega arith)) in
    ap (λ l. steps_cmp (reverse p) l) r.1
    ∙ steps_cmp-longer (reverse p) (reverse (drop (length q - length p) q)) r.0 (lengths p (drop (length q - length p) q) rest) (omega (arith, r.2))

pub path_cmp-shorter : (p q : Path) → length q < length p → path_cmp p q ≡ ordering_then (path_cmp (drop (length p - length q) p) q) Greater
path_cmp-shorter p q h =
    let r = reverse-drop (length p - length q) p (omega arith) in
    let rest : length (drop (length p - length q) p) ≡ length q = omega (arith, length-drop' (length p - length q) p (omega arith)) in
    ap (λ l. steps_cmp l (reverse q)) r.1
    ∙ steps_cmp-shorter (reverse (drop (length p - length q) p)) (reverse q) r.0 (lengths (drop (length p - length q) p) q rest) (omega (arith, r.2))

-- one turn of the loop that walks two paths of one length
pub turn_of : (a b p q : Path) (s t : ℕ × ℕ) (order whole : Ordering) → a ≡ s ∷ p → b ≡ t ∷ q → length a ≡ length b →
    ordering_then (path_cmp a b) order ≡ whole
    → ordering_then (path_cmp p q) (ordering_then (ordering_then (nat_cmp s.0 t.0) (nat_cmp s.1 t.1)) order) ≡ whole
turn_of a b p q s t order whole ea eb e h =
    let same : length p ≡ length q = omega (arith, ap (length {A = ℕ × ℕ}) ea, ap (length {A = ℕ × ℕ}) eb) in
    sym (then_assoc (path_cmp p q) (step_cmp s t) order)
    ∙ ap (λ o. ordering_then o order) (sym (path_cmp-cons p q s t same) ∙ (λ i. path_cmp (sym ea i) (sym eb i)))
    ∙ h

pub turn_length : (a b p q : Path) (s t : ℕ × ℕ) → a ≡ s ∷ p → b ≡ t ∷ q → length a ≡ length b → length p ≡ length q
turn_length a b p q s t ea eb e = omega (arith, ap (length {A = ℕ × ℕ}) ea, ap (length {A = ℕ × ℕ}) eb)

-- where the walk ends the paths are one
pub end_of_same : (a b : Path) (order whole : Ordering) → a ≡ b → ordering_then (path_cmp a b) order ≡ whole → order ≡ whole
end_of_same a b order whole e h = ap (λ o. ordering_then o order) (sym (path_cmp-refl a) ∙ ap (path_cmp a) e) ∙ h

-- paths of one length that both end, or of which one does
pub both_end_first : (a b : Path) → a ≡ [] → length a ≡ length b → a ≡ b
both_end_first [] [] e l = refl
both_end_first [] (t ∷ b) e l = absurd (omega arith)
both_end_first (s ∷ a) b e l = absurd (cc)

pub both_end_second : (a b : Path) → b ≡ [] → length a ≡ length b → a ≡ b
both_end_second [] [] e l = refl
both_end_second (s ∷ a) [] e l = absurd (omega arith)
both_end_second a (t ∷ b) e l = absurd (cc)

-- a path counted step by step
pub depth_step : (count n : ℕ) (p q : Path) (s : ℕ × ℕ) → p ≡ s ∷ q → count + length p ≡ n → (count + 1) + length q ≡ n
depth_step count n p q s e h = omega (arith, ap (length {A = ℕ × ℕ}) e)

pub depth_end : (count n : ℕ) (p : Path) → p ≡ [] → count + length p ≡ n → count ≡ n
depth_end count n p e h = omega (arith, ap (length {A = ℕ × ℕ}) e)

-- steps dropped one by one
pub drop_cons : (p q : Path) (s : ℕ × ℕ) → p ≡ s ∷ q → q ≡ drop 1 p
drop_cons p q s e = ap (drop 1) (sym e)

pub drop_none : (p : Path) → p ≡ [] → p ≡ drop 1 p
drop_none p e = e ∙ ap (drop 1) (sym e)

drop_empty : (n : ℕ) (p : Path) → p ≡ [] → drop n p ≡ []
drop_empty zero p e = e
drop_empty (suc n) [] e = refl
drop_empty (suc n) (s ∷ p) e = absurd (cc)

one_less : (n : ℕ) → suc n - 1 ≡ n
one_less n = omega arith

drop_twice : (n : ℕ) (p : Path) → 0 < n → drop (n - 1) (drop 1 p) ≡ drop n p
drop_twice zero p h = absurd (omega arith)
drop_twice (suc n) [] h = drop_empty (suc n - 1) [] refl
drop_twice (suc n) (s ∷ p) h = ap (λ m. drop m p) (one_less n)

pub drop_step : (n : ℕ) (p q whole : Path) → 0 < n → q ≡ drop 1 p → drop n p ≡ whole → drop (n - 1) q ≡ whole
drop_step n p q whole h e is = ap (drop (n - 1)) e ∙ drop_twice n p h ∙ is

pub drop_end : (n : ℕ) (p whole : Path) → n ≤ 0 → drop n p ≡ whole → p ≡ whole
drop_end zero p whole h is = is
drop_end (suc n) p whole h is = absurd (omega arith)

pub longer_from : (p q r : Path) (n : ℕ) (o : Ordering) → o ≡ path_cmp p r → r ≡ drop n q → n ≡ length q - length p → length p < length q →
    ordering_then o Less ≡ path_cmp p q
longer_from p q r n o is e m h =
    ap (λ x. ordering_then x Less) (is ∙ ap (path_cmp p) (e ∙ ap (λ k. drop k q) m)) ∙ sym (path_cmp-longer p q h)

pub shorter_from : (p q r : Path) (n : ℕ) (o : Ordering) → o ≡ path_cmp r q → r ≡ drop n p → n ≡ length p - length q → length q < length p →
    ordering_then o Greater ≡ path_cmp p q
shorter_from p q r n o is e m h =
    ap (λ x. ordering_then x Greater) (is ∙ ap (λ x. path_cmp x q) (e ∙ ap (λ k. drop k p) m)) ∙ sym (path_cmp-shorter p q h)

pub less_of : (m n x y : ℕ) → m ≡ x → n ≡ y → m < n → x < y
less_of m n x y a b h = omega arith

-- the kinds by their ranks
pub kinds_by_rank : (j k : Kind) → kind_cmp j k ≡ nat_cmp (kind_rank j) (kind_rank k)
kinds_by_rank Val Val = refl
kinds_by_rank Eff Eff = refl
kinds_by_rank Body Body = refl
kinds_by_rank _ _ = refl

pub four_then : (f t n k l : Ordering) → k ≡ l → ordering_then (ordering_then (ordering_then f t) n) k ≡ ordering_then f (ordering_then t (ordering_then n l))
four_then f t n k l e =
    then_assoc (ordering_then f t) n k ∙ then_assoc f t (ordering_then n k) ∙ ap (λ x. ordering_then f (ordering_then t (ordering_then n x))) e

-- objects by rank and place
pub objects_by_place : (rows : List Row) (o p : ObjName)
    → ordering_then (nat_cmp (object_rank o) (object_rank p))
    (ordering_then (frame_cmp rows (place_frame o) (place_frame p))
    (ordering_then (nat_cmp (place_turn o) (place_turn p)) (nat_cmp (place_number o) (place_number p))))
    ≡ object_cmp rows o p
objects_by_place rows (Static k) (Static l) = refl
objects_by_place rows (Lit k) (Lit l) = refl
objects_by_place rows Argv Argv = refl
objects_by_place rows (Arg k) (Arg l) = refl
objects_by_place rows (Auto f t k) (Auto g u l) = refl
objects_by_place rows (Heap f t k) (Heap g u l) = refl
objects_by_place rows _ _ = refl

pub objects_from : (rows : List Row) (o p : ObjName) (f g t u m n : ℕ) → f ≡ place_frame o → g ≡ place_frame p → t ≡ place_turn o → u ≡ place_turn p →
    m ≡ place_number o → n ≡ place_number p
    → ordering_then (ordering_then (ordering_then (nat_cmp (object_rank o) (object_rank p)) (frame_cmp rows f g)) (nat_cmp t u))
    (nat_cmp m n) ≡ object_cmp rows o p
objects_from rows o p f g t u m n a b c d x y =
    four_then (nat_cmp (object_rank o) (object_rank p)) (frame_cmp rows f g) (nat_cmp t u) (nat_cmp m n) (nat_cmp m n) refl
    ∙ (λ i. ordering_then (nat_cmp (object_rank o) (object_rank p))
    (ordering_then (frame_cmp rows (a i) (b i)) (ordering_then (nat_cmp (c i) (d i)) (nat_cmp (x i) (y i)))))
    ∙ objects_by_place rows o p
