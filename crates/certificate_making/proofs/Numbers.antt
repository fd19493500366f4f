-- Frames are numbered one after the other.
use Rattle.std.proofs.Common.{
  ◌≡◌,
  ◌⊎◌,
  inl,
  inr,
  ◌∙◌,
  ℕ,
  zero,
  suc,
  ◌+◌,
  ◌-◌,
  ◌<◌,
  ◌≤◌,
  min,
  List,
  [],
  ◌∷◌,
  ◌++◌,
  Bool,
  true,
  false,
  length,
  get_or,
  slice_get,
  Some,
  refl,
  ap,
  sym,
  subst,
  arith,
  length-append,
}
use Rattle.std.proofs.lemmas.Option.{slice_get_within}
use Rattle.ub_base.specs.Frames.{IsFrameList}
use Rattle.ub_base.specs.Frames as frames
use Rattle.certificate_making.specs.Marking.{is_marked}
use Rattle.certificate_making.specs.Numbering.{IsKept, IsNumbered, IsOfMarked, IsStarted, frame_at, moved, number}

pub slice_get-append : {X : Type 0} (xs ys : List X) (i : ℕ) (x : X) → slice_get xs i ≡ Some x → slice_get (xs ++ ys) i ≡ Some x
slice_get-append [] ys i x h = absurd (cc)
slice_get-append (y ∷ xs) ys zero x h = h
slice_get-append (y ∷ xs) ys (suc i) x h = slice_get-append xs ys i x h

slice_get-last : {X : Type 0} (xs : List X) (x : X) → slice_get (xs ++ x ∷ []) (length xs) ≡ Some x
slice_get-last [] x = refl
slice_get-last (y ∷ xs) x = slice_get-last xs x

number_same : (ns : List ℕ) (n i : ℕ) → i < length ns → get_or (ns ++ n ∷ []) i 0 ≡ get_or ns i 0
number_same [] n i h = absurd (omega arith)
number_same (m ∷ ns) n zero h = refl
number_same (m ∷ ns) n (suc i) h = number_same ns n i (omega arith)

number_last : (ns : List ℕ) (n : ℕ) → get_or (ns ++ n ∷ []) (length ns) 0 ≡ n
number_last [] n = refl
number_last (m ∷ ns) n = number_last ns n

number_within : (ns : List ℕ) (n most i : ℕ) → ((k : ℕ) → get_or ns k 0 ≤ most) → n ≤ most → get_or (ns ++ n ∷ []) i 0 ≤ most
number_within [] n most zero all le = le
number_within [] n most (suc i) all le = omega arith
number_within (m ∷ ns) n most zero all le = all 0
number_within (m ∷ ns) n most (suc i) all le = number_within ns n most i (λ k. all (suc k)) le

-- what one more row gives, whatever it is
pub record Step (rows : List frames.Row) (marks : List Bool) (count : ℕ) (kept now : List frames.Row) (numbers : List ℕ) (f : ℕ) : Type 0 where
  pub more : length now ≤ length kept + 1
  pub grown : length kept ≤ length now
  pub within : f ≤ length now
  pub stays : (i : ℕ) (row : frames.Row) → slice_get kept i ≡ Some row → slice_get now i ≡ Some row
  pub there : (row : frames.Row) → is_marked marks (suc count) ≡ true → slice_get rows count ≡ Some row
      → (0 < f) × (slice_get now (f - 1) ≡ Some (moved numbers row))
  pub new : (i : ℕ) → length kept ≤ i → i < length now → (is_marked marks (suc count) ≡ true) × (f ≡ suc i)

le_trans : (a b c : ℕ) → a ≤ b → b ≤ c → a ≤ c
le_trans a b c h k = omega arith

raise : (n j : ℕ) → ((j < n) ⊎ (n ≤ j)) → (suc j < suc n) ⊎ (suc n ≤ suc j)
raise n j (inl h) = inl (omega arith)
raise n j (inr h) = inr (omega arith)

lower : (n j : ℕ) → (j < n) ⊎ (n ≤ j)
lower zero j = inr (omega arith)
lower (suc n) zero = inl (omega arith)
lower (suc n) (suc j) = raise n j (lower n j)

-- a parent's number stays
moved_same : (numbers : List ℕ) (f : ℕ) (row : frames.Row) → row.0.0 < length numbers → moved (numbers ++ f ∷ []) row ≡ moved numbers row
moved_same numbers f row h = ap (λ n. (frame_at n, row.1, row.2)) (number_same numbers f row.0.0 h)

there_now : (rows : List frames.Row) → IsFrameList rows → (marks : List Bool) (count : ℕ) (kept now : List frames.Row) (numbers : List ℕ) (f : ℕ)
    → IsNumbered rows marks count kept numbers → Step rows marks count kept now numbers f
    → (i : ℕ) (row : frames.Row) → i < suc count → is_marked marks (suc i) ≡ true → slice_get rows i ≡ Some row → ((i < count) ⊎ (count ≤ i))
    → (0 < get_or (numbers ++ f ∷ []) (suc i) 0) × (slice_get now (get_or (numbers ++ f ∷ []) (suc i) 0 - 1) ≡ Some (moved (numbers ++ f ∷ []) row))
there_now rows h marks count kept now numbers f is step i row less marked at (inl before) =
    let len = is.size in
    let low : row.0.0 ≤ i = h.earlier i row at in
    let was = is.there i row before marked at in
    let same : get_or (numbers ++ f ∷ []) (suc i) 0 ≡ get_or numbers (suc i) 0 = number_same numbers f (suc i) (omega arith) in
    let moves : moved (numbers ++ f ∷ []) row ≡ moved numbers row = moved_same numbers f row (omega arith) in (
      subst (λ n. 0 < n) (sym same) was.0,
      subst (λ n. slice_get now (n - 1) ≡ Some (moved (numbers ++ f ∷ []) row)) (sym same)
          (step.stays (get_or numbers (suc i) 0 - 1) (moved numbers row) was.1 ∙ ap Some (sym moves)),
    )
there_now rows h marks count kept now numbers f is step i row less marked at (inr here) =
    let len = is.size in
    let e : count ≡ i = omega arith in
    let low : row.0.0 ≤ i = h.earlier i row at in
    let got = step.there row (subst (λ k. is_marked marks (suc k) ≡ true) (sym e) marked) (subst (λ k. slice_get rows k ≡ Some row) (sym e) at) in
    let place : length numbers ≡ suc i = omega arith in
    let same : get_or (numbers ++ f ∷ []) (suc i) 0 ≡ f = subst (λ k. get_or (numbers ++ f ∷ []) k 0 ≡ f) place (number_last numbers f) in
    let moves : moved (numbers ++ f ∷ []) row ≡ moved numbers row = moved_same numbers f row (omega arith) in (
      subst (λ n. 0 < n) (sym same) got.0,
      subst (λ n. slice_get now (n - 1) ≡ Some (moved (numbers ++ f ∷ []) row)) (sym same) (got.1 ∙ ap Some (sym moves)),
    )

only_now : (rows : List frames.Row) (marks : List Bool) (count : ℕ) (kept now : List frames.Row) (numbers : List ℕ) (f : ℕ)
    → IsNumbered rows marks count kept numbers → Step rows marks count kept now numbers f → (i : ℕ) → i < length now → ((i < length kept) ⊎ (length kept ≤ i))
    → IsOfMarked marks (suc count) (numbers ++ f ∷ []) i
only_now rows marks count kept now numbers f is step i within (inl old) =
    let o = is.only i old in
    let less = o.within in
    let len = is.size in
    record { at = o.at; within = omega arith; marked = o.marked; is = number_same numbers f (suc o.at) (omega arith) ∙ o.is }
only_now rows marks count kept now numbers f is step i within (inr new) =
    let n = step.new i new within in
    record {
      at = count;
      within = omega arith;
      marked = n.0;
      is = subst (λ k. get_or (numbers ++ f ∷ []) k 0 ≡ f) is.size (number_last numbers f) ∙ n.1;
    }

pub one_more : (rows : List frames.Row) → IsFrameList rows → (marks : List Bool) (count : ℕ) (kept now : List frames.Row) (numbers : List ℕ) (f : ℕ)
    → IsNumbered rows marks count kept numbers → Step rows marks count kept now numbers f → IsNumbered rows marks (count + 1) now (numbers ++ f ∷ [])
one_more rows h marks count kept now numbers f is step =
    let more : suc count ≡ count + 1 = omega arith in
    let len = is.size in
    let few = is.few in
    let grown = step.grown in
    let grows = step.more in
    subst (λ n. IsNumbered rows marks n now (numbers ++ f ∷ [])) more (record {
      size = omega (arith, length-append numbers (f ∷ []));
      few = omega arith;
      main = number_same numbers f 0 (omega arith) ∙ is.main;
      within = λ i. number_within numbers f (length now) i (λ k. le_trans (get_or numbers k 0) (length kept) (length now) (is.within k) grown) step.within;
      there = λ i row less marked at. there_now rows h marks count kept now numbers f is step i row less marked at (lower count i);
      only = λ i within. only_now rows marks count kept now numbers f is step i within (lower (length kept) i);
    })

-- ---- the three ways to a step

bad_mark : false ≡ true → ⊥
bad_mark e = cc

some_row : (a b : frames.Row) → Some a ≡ Some b → a ≡ b
some_row a b e = cc

unmarked : (rows : List frames.Row) (marks : List Bool) (count : ℕ) (kept : List frames.Row) (numbers : List ℕ)
    → is_marked marks (suc count) ≡ false → Step rows marks count kept kept numbers 0
unmarked rows marks count kept numbers is = record {
  more = omega arith;
  grown = omega arith;
  within = omega arith;
  stays = λ i row at. at;
  there = λ row marked at. absurd (bad_mark (sym is ∙ marked));
  new = λ i past within. absurd (omega arith);
}

found : (rows : List frames.Row) (marks : List Bool) (count : ℕ) (kept : List frames.Row) (numbers : List ℕ) (row : frames.Row) (f : ℕ)
    → slice_get rows count ≡ Some row → 0 < f → slice_get kept (f - 1) ≡ Some (moved numbers row) → Step rows marks count kept kept numbers f
found rows marks count kept numbers row f at some is =
    let within : f - 1 < length kept = slice_get_within kept (f - 1) (moved numbers row) is in
    record {
      more = omega arith;
      grown = omega arith;
      within = omega arith;
      stays = λ i r a. a;
      there = λ r marked a. (some, is ∙ ap (λ x. Some (moved numbers x)) (some_row row r (sym at ∙ a)));
      new = λ i past less. absurd (omega arith);
    }

added : (rows : List frames.Row) (marks : List Bool) (count : ℕ) (kept : List frames.Row) (numbers : List ℕ) (row : frames.Row)
    → slice_get rows count ≡ Some row → is_marked marks (suc count) ≡ true
    → Step rows marks count kept (kept ++ moved numbers row ∷ []) numbers (length kept + 1)
added rows marks count kept numbers row at marked =
    let long : length (kept ++ moved numbers row ∷ []) ≡ length kept + 1 = length-append kept (moved numbers row ∷ []) in
    let place : length kept ≡ length kept + 1 - 1 = omega arith in
    record {
      more = omega arith;
      grown = omega arith;
      within = omega arith;
      stays = λ i r a. slice_get-append kept (moved numbers row ∷ []) i r a;
      there = λ r m a. (
        omega arith,
        subst (λ k. slice_get (kept ++ moved numbers row ∷ []) k ≡ Some (moved numbers r)) place
            (slice_get-last kept (moved numbers row) ∙ ap (λ x. Some (moved numbers x)) (some_row row r (sym at ∙ a))),
      );
      new = λ i past less. (marked, omega arith);
    }

by_start : (rows : List frames.Row) (marks : List Bool) (count : ℕ) (kept now : List frames.Row) (numbers : List ℕ) (row : frames.Row) (f : ℕ)
    → slice_get rows count ≡ Some row → is_marked marks (suc count) ≡ true → IsStarted kept now (moved numbers row) f →
    Step rows marks count kept now numbers f
by_start rows marks count kept now numbers row f at marked (inl is) =
    subst (λ n. Step rows marks count kept n numbers f) (sym is.0) (found rows marks count kept numbers row f at is.1 is.2)
by_start rows marks count kept now numbers row f at marked (inr is) =
    subst (λ n. Step rows marks count kept n numbers f) (sym is.0)
    (subst (λ n. Step rows marks count kept (kept ++ moved numbers row ∷ []) numbers n) (sym is.1) (added rows marks count kept numbers row at marked))

by_mark : (b : Bool) (rows : List frames.Row) (marks : List Bool) (count : ℕ) (kept now : List frames.Row) (numbers : List ℕ) (row : frames.Row) (f : ℕ)
    → slice_get rows count ≡ Some row → is_marked marks (suc count) ≡ b → IsKept b kept now (moved numbers row) f → Step rows marks count kept now numbers f
by_mark true rows marks count kept now numbers row f at marked is = by_start rows marks count kept now numbers row f at marked is
by_mark false rows marks count kept now numbers row f at marked is =
    subst (λ n. Step rows marks count kept n numbers f) (sym is.0)
    (subst (λ n. Step rows marks count kept kept numbers n) (sym is.1) (unmarked rows marks count kept numbers marked))

min_left : (a b : ℕ) → a ≤ b → min a b ≡ a
min_left a b h = omega arith

-- the loop's step
pub numbers_more : (rows : List frames.Row) → IsFrameList rows → (marks : List Bool) (count : ℕ) (kept now : List frames.Row) (numbers : List ℕ)
    (row : frames.Row) (f : ℕ) → slice_get rows count ≡ Some row → IsNumbered rows marks count kept numbers
    → IsKept (is_marked marks (suc count)) kept now (frame_at (number numbers (length kept) row.0.0), row.1, row.2) f
    → IsNumbered rows marks (count + 1) now (numbers ++ f ∷ [])
numbers_more rows h marks count kept now numbers row f at is keeps =
    let e : number numbers (length kept) row.0.0 ≡ get_or numbers row.0.0 0 = min_left (get_or numbers row.0.0 0) (length kept) (is.within row.0.0) in
    let k : IsKept (is_marked marks (suc count)) kept now (moved numbers row) f =
    subst (λ n. IsKept (is_marked marks (suc count)) kept now (frame_at n, row.1, row.2) f) e keeps in
    one_more rows h marks count kept now numbers f is (by_mark (is_marked marks (suc count)) rows marks count kept now numbers row f at refl k)
