-- Rows that are taken in the order of their bases.
use Rattle.std.proofs.Common.{
  ◌≡◌,
  ◌∙◌,
  ℕ,
  ◌+◌,
  ◌<◌,
  ◌≤◌,
  ◌^◌,
  List,
  [],
  ◌∷◌,
  ◌++◌,
  true,
  false,
  Option,
  Some,
  None,
  refl,
  ap,
  sym,
  subst,
  le-leb,
  arith,
  append_assoc,
  append-nil,
}
use Rattle.std.specs.Prelude.{nat_le}
use Rattle.std.proofs.lemmas.Bool.{lt-leb}
use Rattle.addr_map.specs.Rows.{first_row}
use Rattle.addr_map.specs.declared.map.Row.{Row}
use Rattle.certificate_making.specs.Making.{Rises}

-- each row begins before n
abbrev pub Below : ℕ → List Row → Type 0
Below n [] = Unit {0}
Below n (row ∷ rows) = (row.base < n) × Below n rows

-- after so many turns the rows are those that begin before `from`
pub record Passed (turn from : ℕ) (rows all : List Row) : Type 0 where
  pub rest : List Row
  pub whole : rows ++ rest ≡ all
  pub below : Below from rows
  pub rises : Rises from rest
  pub turns : turn ≤ from
  pub bound : from ≤ 2 ^ 47

below_more : (m n : ℕ) (rows : List Row) → m ≤ n → Below m rows → Below n rows
below_more m n [] le below = tt
below_more m n (row ∷ rows) le below = (let b = below.0 in omega arith, below_more m n rows le below.1)

below_end : (n : ℕ) (rows : List Row) (row : Row) → Below n rows → row.base < n → Below n (rows ++ row ∷ [])
below_end n [] row below less = (less, tt)
below_end n (r ∷ rows) row below less = (below.0, below_end n rows row below.1 less)

abbrev pub first_is : (rest : List Row) → Option Row
first_is [] = None
first_is (row ∷ rest) = Some row

skipped : (from : ℕ) (row : Row) (rows : List Row) (o : Option Row) → row.base < from → first_row (λ r. nat_le from r.base) rows ≡ o
    → first_row (λ r. nat_le from r.base) (row ∷ rows) ≡ o
skipped from row rows o less is = let off : nat_le from row.base ≡ false = lt-leb _ _ less in rw off is

taken : (from : ℕ) (row : Row) (rows : List Row) → from ≤ row.base → first_row (λ r. nat_le from r.base) (row ∷ rows) ≡ Some row
taken from row rows le = let on : nat_le from row.base ≡ true = le-leb _ _ le in rw on refl

-- the first row that doesn't begin before `from` is the first of the rest
next_is : (from : ℕ) (rows rest : List Row) → Below from rows → Rises from rest → first_row (λ r. nat_le from r.base) (rows ++ rest) ≡ first_is rest
next_is from [] [] below rises = refl
next_is from [] (row ∷ rest) below rises = taken from row rest rises.0
next_is from (row ∷ rows) rest below rises = skipped from row (rows ++ rest) (first_is rest) below.0 (next_is from rows rest below.1 rises)

pub begins : (rows : List Row) → Rises 0 rows → Passed 0 0 [] rows
begins rows rises = record { rest = rows; whole = refl; below = tt; rises = rises; turns = omega arith; bound = omega arith }

none_left : (rest : List Row) → first_is rest ≡ None → rest ≡ []
none_left [] none = refl
none_left (row ∷ rest) none = absurd (cc)

no_rest : (rows rest all : List Row) → rows ++ rest ≡ all → rest ≡ [] → rows ≡ all
no_rest rows rest all whole none = sym (append-nil rows) ∙ (ap (λ r. rows ++ r) (sym none) ∙ whole)

-- where no row is next, all are taken
pub ends : (turn from : ℕ) (rows all : List Row) → Passed turn from rows all → first_row (λ r. nat_le from r.base) all ≡ None → rows ≡ all
ends turn from rows all p none =
    no_rest rows p.rest all p.whole (none_left p.rest
    (sym (subst (λ a. first_row (λ r. nat_le from r.base) a ≡ first_is p.rest) p.whole (next_is from rows p.rest p.below p.rises)) ∙ none))

-- and as many turns as there are never pass
pub never : (turn from : ℕ) (rows all : List Row) → Passed turn from rows all → 2 ^ 48 ≤ turn → ⊥
never turn from rows all p many = let turns = p.turns in let bound = p.bound in absurd (omega arith)

some_same : (a b : Row) → Some a ≡ Some b → a ≡ b
some_same a b e = cc

steps : (turn from : ℕ) (rows rest all : List Row) (row : Row) → rows ++ rest ≡ all → Below from rows → Rises from rest → turn ≤ from → from ≤ 2 ^ 47
    → first_is rest ≡ Some row → Passed (turn + 1) (row.base + 1) (rows ++ row ∷ []) all
steps turn from rows [] all row whole below rises turns bound is = absurd (cc)
steps turn from rows (r ∷ rest) all row whole below rises turns bound is =
    let same : r ≡ row = some_same r row is in
    let le = rises.0 in
    let less = rises.1 in
    subst (λ x. Passed (turn + 1) (x.base + 1) (rows ++ x ∷ []) all) same (record {
      rest = rest;
      whole = append_assoc rows (r ∷ []) rest ∙ whole;
      below = below_end (r.base + 1) rows r (below_more from (r.base + 1) rows (omega arith) below) (omega arith);
      rises = rises.2;
      turns = omega arith;
      bound = omega arith;
    })

-- the next row is the first of the rest
pub passes : (turn from : ℕ) (rows all : List Row) (row : Row) → Passed turn from rows all → first_row (λ r. nat_le from r.base) all ≡ Some row
    → Passed (turn + 1) (row.base + 1) (rows ++ row ∷ []) all
passes turn from rows all row p is =
    steps turn from rows p.rest all row p.whole p.below p.rises p.turns p.bound
    (sym (subst (λ a. first_row (λ r. nat_le from r.base) a ≡ first_is p.rest) p.whole (next_is from rows p.rest p.below p.rises)) ∙ is)

-- its base is far from the end of the numbers
pub next_within : (turn from : ℕ) (rows all : List Row) (row : Row) → Passed turn from rows all → first_row (λ r. nat_le from r.base) all ≡ Some row
    → row.base < 2 ^ 47
next_within turn from rows all row p is = let after = (passes turn from rows all row p is).bound in omega arith
