-- The numbers of paths in a list of frames.
use Rattle.std.proofs.Common.{
  ◌≡◌,
  ◌≤◌,
  ◌<◌,
  ◌+◌,
  ℕ,
  zero,
  suc,
  List,
  [],
  ◌∷◌,
  ◌++◌,
  length,
  Option,
  Some,
  None,
  refl,
  sym,
  ap,
  ap₂,
  ◌∙◌,
  subst,
  arith,
}
use Rattle.std.specs.Prelude.{slice_get, option_map}
use Rattle.ub_base.specs.declared.names.Frame.{Frame}
use Rattle.ub_base.specs.Frames.{Row, Path, IsFrameList, path_of, path_within, row_of, with_step}
use Rattle.c_model.specs.Numbering.{frame_number}
use Rattle.c_model.specs.World.{NumbersFrames}
use Rattle.frame_numbers.proofs.Places.{IsPlace, place_is, place_stays, place_of_row}
use Rattle.frame_numbers.specs.Numbers.{
  place_in,
  started_in,
  number_in,
  number_else,
  number_by,
  NumbersStay,
  StartedIsNumbered,
  NumbersAreWithin,
  ListNumbersFrames,
  PathIsNumbered,
}

some_is : {A : Type 0} {x y : A} → Some x ≡ Some y → x ≡ y
some_is e = cc

-- a frame that is listed and isn't `main`: the number of the frame in which it was started, and its row
record IsStarted (rows : List Row) (s : ℕ × ℕ) (f : Path) (n : ℕ) : Type 0 where
  pub frame : ℕ
  pub number : number_in rows f ≡ Some frame
  pub row : ℕ
  pub place : place_in rows frame s.0 s.1 ≡ Some row
  pub is : suc row ≡ n

is_started : (rows : List Row) (s : ℕ × ℕ) (f : Path) (n : ℕ) → number_in rows (s ∷ f) ≡ Some n → IsStarted rows s f n
is_started rows s f n e = go (number_in rows f) refl e
  where
    with_place : (frame : ℕ) → number_in rows f ≡ Some frame → (o : Option ℕ) → place_in rows frame s.0 s.1 ≡ o → option_map suc o ≡ Some n →
        IsStarted rows s f n
    with_place frame p None q r = absurd (cc)
    with_place frame p (Some i) q r = record { frame = frame; number = p; row = i; place = q; is = some_is r }

    go : (o : Option ℕ) → number_in rows f ≡ o → started_in rows s o ≡ Some n → IsStarted rows s f n
    go None p q = absurd (cc)
    go (Some frame) p q = with_place frame p (place_in rows frame s.0 s.1) refl q

number_of_started : (rows : List Row) (s : ℕ × ℕ) (f : Path) (frame i : ℕ) → number_in rows f ≡ Some frame → place_in rows frame s.0 s.1 ≡ Some i →
    number_in rows (s ∷ f) ≡ Some (suc i)
number_of_started rows s f frame i p q = ap (started_in rows s) p ∙ ap (λ o. option_map suc o) q

pub numbers_stay : NumbersStay
numbers_stay rows more [] n e = e
numbers_stay rows more (s ∷ f) n e =
    let k = is_started rows s f n e in
    number_of_started (rows ++ more) s f k.frame k.row (numbers_stay rows more f k.frame k.number) (place_stays rows more k.frame s.0 s.1 k.row k.place)
    ∙ ap Some k.is

abbrev numbered_frame : ℕ → Frame
numbered_frame n = record { 0 = n }

pub started_is : StartedIsNumbered
started_is rows i r f all at e =
    let found = place_of_row rows i r at in
    let place = place_is rows r.0.0 r.1 r.2 found.0 found.1 in
    let frame : place.row.0 ≡ r.0 = ap numbered_frame place.frame in
    let same : place.row ≡ r = λ i. (frame i, place.turn i, place.node i) in
    let is : found.0 ≡ i = all.distinct found.0 i r (place.at ∙ ap Some same) at in
    number_of_started rows (r.1, r.2) f r.0.0 found.0 e found.1 ∙ ap (λ n. Some (suc n)) is

pub numbers_within : NumbersAreWithin
numbers_within rows [] n e = let z : 0 ≡ n = some_is e in omega (arith, z)
numbers_within rows (s ∷ f) n e =
    let k = is_started rows s f n e in
    let w = (place_is rows k.frame s.0 s.1 k.row k.place).within in
    let is = k.is in
    omega (arith, w, is)

same_path : (rows : List Row) (f g : Path) (n : ℕ) → number_in rows f ≡ Some n → number_in rows g ≡ Some n → f ≡ g
same_path rows [] [] n p q = refl
same_path rows [] (r ∷ g) n p q = let z : 0 ≡ n = some_is p in let k = (is_started rows r g n q).is in absurd (omega (arith, z, k))
same_path rows (s ∷ f) [] n p q = let z : 0 ≡ n = some_is q in let k = (is_started rows s f n p).is in absurd (omega (arith, z, k))
same_path rows (s ∷ f) (r ∷ g) n p q =
    let a = is_started rows s f n p in
    let b = is_started rows r g n q in
    let x = place_is rows a.frame s.0 s.1 a.row a.place in
    let y = place_is rows b.frame r.0 r.1 b.row b.place in
    let rows_is : a.row ≡ b.row = let u = a.is in let v = b.is in omega (arith, u, v) in
    let one : x.row ≡ y.row = some_is (sym x.at ∙ ap (λ i. slice_get rows i) rows_is ∙ y.at) in
    let frame_is : a.frame ≡ b.frame = sym x.frame ∙ ap (λ (r : Row). r.0.0) one ∙ y.frame in
    let turn_is : s.0 ≡ r.0 = sym x.turn ∙ ap (λ (r : Row). r.1) one ∙ y.turn in
    let node_is : s.1 ≡ r.1 = sym x.node ∙ ap (λ (r : Row). r.2) one ∙ y.node in
    ap₂ (λ p q. p ∷ q) (ap₂ (λ x y. (x, y)) turn_is node_is) (same_path rows f g a.frame a.number (b.number ∙ ap Some (sym frame_is)))

pub list_numbers : NumbersFrames frame_number → ListNumbersFrames
list_numbers others rows = record { main = refl; distinct = λ f g e. go f g (number_in rows f) (number_in rows g) refl refl e }
  where
    go : (f g : Path) (a b : Option ℕ) → number_in rows f ≡ a → number_in rows g ≡ b → number_else rows f a ≡ number_else rows g b → f ≡ g
    go f g None None p q e = others.distinct f g (omega (arith, e))
    go f g None (Some n) p q e = let w = numbers_within rows g n q in absurd (omega (arith, w, e))
    go f g (Some n) None p q e = let w = numbers_within rows f n p in absurd (omega (arith, w, e))
    go f g (Some n) (Some m) p q e = same_path rows f g n p (q ∙ ap Some (sym e))

-- a place below the length has a row
row_there : (rows : List Row) (i : ℕ) → i < length rows → (r : Row) × (slice_get rows i ≡ Some r)
row_there [] i l = absurd (omega (arith, l))
row_there (r ∷ rs) zero l = (r, refl)
row_there (r ∷ rs) (suc i) l = row_there rs i (omega (arith, l))

path_numbered : (rows : List Row) → IsFrameList rows → (k n : ℕ) → n ≤ k → n ≤ length rows → number_in rows (path_within k rows n) ≡ Some n
path_numbered rows all zero zero l w = refl
path_numbered rows all zero (suc n) l w = absurd (omega (arith, l))
path_numbered rows all (suc k) zero l w = refl
path_numbered rows all (suc k) (suc i) l w =
    let there = row_there rows i (omega (arith, w)) in
    let earlier = all.earlier i there.0 there.1 in
    ap (λ o. number_in rows (with_step o (path_within k rows))) there.1
    ∙ started_is rows i there.0 (path_within k rows there.0.0.0) all there.1
    (path_numbered rows all k there.0.0.0 (omega (arith, earlier, l)) (omega (arith, earlier, w)))

pub path_is : PathIsNumbered
path_is rows n all w = path_numbered rows all n n (omega arith) w
