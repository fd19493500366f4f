-- Where a row stands in a list of frames.
use Rattle.std.proofs.Common.{
  ◌≡◌,
  ◌≤◌,
  ◌<◌,
  ◌+◌,
  ℕ,
  zero,
  suc,
  Bool,
  true,
  false,
  ◌&&◌,
  List,
  [],
  ◌∷◌,
  ◌++◌,
  length,
  Option,
  Some,
  None,
  refl,
  sym,
  ap,
  ◌∙◌,
  subst,
  arith,
}
use Rattle.std.specs.Prelude.{slice_get, option_map, if◌then◌else◌}
use Rattle.std.proofs.lemmas.Bool.Decides.{nat_tests}
use Rattle.ub_base.specs.Frames.{Row}
use Rattle.frame_numbers.specs.Numbers.{is_row, place_in}

pub own_row : (r : Row) → is_row r r.0.0 r.1 r.2 ≡ true
own_row r = grind (arith, nat_tests)

pub row_is : (r : Row) (a t k : ℕ) → is_row r a t k ≡ true → (r.0.0 ≡ a) × (r.1 ≡ t) × (r.2 ≡ k)
row_is r a t k h = (grind (arith, nat_tests, h), grind (arith, nat_tests, h), grind (arith, nat_tests, h))

pub record IsPlace (rows : List Row) (a t k i : ℕ) : Type 0 where
  pub row : Row
  pub at : slice_get rows i ≡ Some row
  pub frame : row.0.0 ≡ a
  pub turn : row.1 ≡ t
  pub node : row.2 ≡ k
  pub within : i < length rows

some_is : {A : Type 0} {x y : A} → Some x ≡ Some y → x ≡ y
some_is e = cc

pub place_is : (rows : List Row) (a t k i : ℕ) → place_in rows a t k ≡ Some i → IsPlace rows a t k i
place_is [] a t k i e = absurd (cc)
place_is (r ∷ rs) a t k i e = go (place_is rs a t k) (is_row r a t k) refl e
  where
    later : ((j : ℕ) → place_in rs a t k ≡ Some j → IsPlace rs a t k j) → (o : Option ℕ) → place_in rs a t k ≡ o → option_map suc o ≡ Some i →
        IsPlace (r ∷ rs) a t k i
    later below None p q = absurd (cc)
    later below (Some j) p q =
        let tail = below j p in
        let is : suc j ≡ i = some_is q in
        subst (λ n. IsPlace (r ∷ rs) a t k n) is (record {
          row = tail.row;
          at = tail.at;
          frame = tail.frame;
          turn = tail.turn;
          node = tail.node;
          within = let w = tail.within in omega (arith, w);
        })

    go : ((j : ℕ) → place_in rs a t k ≡ Some j → IsPlace rs a t k j) → (b : Bool) → is_row r a t k ≡ b →
        (if b then Some 0 else option_map suc (place_in rs a t k)) ≡ Some i → IsPlace (r ∷ rs) a t k i
    go below true p q =
        let is = row_is r a t k p in
        subst (λ n. IsPlace (r ∷ rs) a t k n) (some_is q)
        (record { row = r; at = refl; frame = is.0; turn = is.1; node = is.2; within = omega arith })
    go below false p q = later below (place_in rs a t k) refl q

pub place_stays : (rows more : List Row) (a t k i : ℕ) → place_in rows a t k ≡ Some i → place_in (rows ++ more) a t k ≡ Some i
place_stays [] more a t k i e = absurd (cc)
place_stays (r ∷ rs) more a t k i e = go (place_stays rs more a t k) (is_row r a t k) refl e
  where
    later : ((j : ℕ) → place_in rs a t k ≡ Some j → place_in (rs ++ more) a t k ≡ Some j) → (o : Option ℕ) → place_in rs a t k ≡ o → option_map suc o ≡ Some i →
        option_map suc (place_in (rs ++ more) a t k) ≡ Some i
    later below None p q = absurd (cc)
    later below (Some j) p q = ap (λ o. option_map suc o) (below j p) ∙ q

    go : ((j : ℕ) → place_in rs a t k ≡ Some j → place_in (rs ++ more) a t k ≡ Some j) → (b : Bool) → is_row r a t k ≡ b →
        (if b then Some 0 else option_map suc (place_in rs a t k)) ≡ Some i →
        (if is_row r a t k then Some 0 else option_map suc (place_in (rs ++ more) a t k)) ≡ Some i
    go below true p q = ap (λ (b : Bool). if b then Some 0 else option_map suc (place_in (rs ++ more) a t k)) p ∙ q
    go below false p q = ap (λ (b : Bool). if b then Some 0 else option_map suc (place_in (rs ++ more) a t k)) p ∙ later below (place_in rs a t k) refl q

-- some place has a row that stands in the list
pub place_of_row : (rows : List Row) (i : ℕ) (r : Row) → slice_get rows i ≡ Some r → (j : ℕ) × (place_in rows r.0.0 r.1 r.2 ≡ Some j)
place_of_row [] i r e = absurd (cc)
place_of_row (x ∷ xs) zero r e = (
  0,
  ap (λ (y : Row). place_in (x ∷ xs) y.0.0 y.1 y.2) (sym (some_is e))
      ∙ ap (λ (b : Bool). if b then Some 0 else option_map suc (place_in xs x.0.0 x.1 x.2)) (own_row x),
)
place_of_row (x ∷ xs) (suc i) r e = go (place_of_row xs i r e) (is_row x r.0.0 r.1 r.2) refl
  where
    go : (j : ℕ) × (place_in xs r.0.0 r.1 r.2 ≡ Some j) → (b : Bool) → is_row x r.0.0 r.1 r.2 ≡ b → (j : ℕ) × (place_in (x ∷ xs) r.0.0 r.1 r.2 ≡ Some j)
    go tail true p = (0, ap (λ (b : Bool). if b then Some 0 else option_map suc (place_in xs r.0.0 r.1 r.2)) p)
    go tail false p = (suc tail.0, ap (λ (b : Bool). if b then Some 0 else option_map suc (place_in xs r.0.0 r.1 r.2)) p ∙ ap (λ o. option_map suc o) tail.1)
