-- How long a generated text is.
use Rattle.std.proofs.Common.{
  ◌≡◌,
  ℕ,
  zero,
  suc,
  add-one,
  ◌+◌,
  ◌*◌,
  ◌%◌,
  ◌<◌,
  ◌≤◌,
  ◌^◌,
  List,
  ◌++◌,
  length,
  codes,
  decimal,
  sym,
  subst,
  ap,
  ◌∙◌,
  append_assoc,
  arith,
  length-append,
}
use Rattle.std.proofs.lemmas.Nat.{mod_below}
use Rattle.std.proofs.lemmas.Fmt.{length-decimal-le}
use Rattle.audit_generator.specs.Text.{element, with_constant, exclusive_or, greater, difference, statement, drawn, line_after, draw_before, lines, text}

short : (n : ℕ) → n < 1000 → length (decimal n) ≤ 3
short n below = length-decimal-le 3 n (omega arith) below (omega arith)

constant_size : (operator : List ℕ) (i j k : ℕ) → length operator ≤ 1 → i < 1000 → j < 1000 → k < 1000 → length (with_constant operator i j k) ≤ 20
constant_size operator i j k one a b c =
    let d = short i a in let e = short j b in let f = short k c in
    simp length-append (omega arith)

or_size : (i j : ℕ) → i < 1000 → j < 1000 → length (exclusive_or i j) ≤ 20
or_size i j a b =
    let d = short i a in let e = short j b in
    simp length-append (omega arith)

if_size : (i j : ℕ) → i < 1000 → j < 1000 → length (greater i j ++ difference i j) ≤ 40
if_size i j a b =
    let d = short i a in let e = short j b in
    simp length-append (omega arith)

statement_size : (t i j k : ℕ) → i < 1000 → j < 1000 → k < 1000 → length (statement t i j k) ≤ 40
statement_size zero i j k a b c = let s = constant_size (codes "+") i j k (omega arith) a b c in omega arith
statement_size (suc zero) i j k a b c = let s = constant_size (codes "*") i j k (omega arith) a b c in omega arith
statement_size (suc (suc zero)) i j k a b c = let s = or_size i j a b in omega arith
statement_size (suc (suc (suc t))) i j k a b c = if_size i j a b

below : (n m : ℕ) → 0 < m → m ≤ 1000 → n % m < 1000
below n m some most = let b = mod_below n m some in omega arith

line_size : (x : ℕ) → length (line_after x) ≤ 40
line_size x =
    let t = drawn x in let i = drawn t in let j = drawn i in let k = drawn j in
    statement_size (t % 4) (i % 8) (j % 8) (k % 1000) (below i 8 (omega arith) (omega arith)) (below j 8 (omega arith) (omega arith))
    (below k 1000 (omega arith) (omega arith))

lines_size : (seed n : ℕ) → length (lines seed n) ≤ 40 * n
lines_size seed zero = omega arith
lines_size seed (suc n) =
    let few = lines_size seed n in let one = line_size (draw_before seed n) in
    simp length-append (omega arith)

pub text_size : (seed count : ℕ) → count ≤ 20000 → length (text seed count) ≤ 2 ^ 20
text_size seed count few = let some = lines_size seed count in simp length-append (omega arith)

-- one more line
pub next_lines : (seed n x : ℕ) (out new head : List ℕ) → out ≡ head ++ lines seed n → x ≡ draw_before seed n → new ≡ out ++ line_after x
    → new ≡ head ++ lines seed (n + 1)
next_lines seed n x out new head before at grown = rw (add-one, ← append_assoc, ← before, ← at) grown

-- the draw before the next line
pub next_draw : (seed n x last : ℕ) → x ≡ draw_before seed n → last ≡ drawn (drawn (drawn (drawn x))) → last ≡ draw_before seed (n + 1)
next_draw seed n x last at is = rw (add-one, ← at) is

-- a text that is whole keeps the limit
pub whole_size : (seed n count : ℕ) (out new head tail : List ℕ) → n ≡ count → out ≡ head ++ lines seed n → new ≡ out ++ tail
    → head ++ lines seed count ++ tail ≡ text seed count → count ≤ 20000 → length new ≤ 2 ^ 20
whole_size seed n count out new head tail same before grown whole few =
    let is : new ≡ text seed count = grown ∙ (ap (λ o. o ++ tail) before ∙ (ap (λ m. head ++ lines seed m ++ tail) same ∙ whole)) in
    let P : List ℕ → Type 0 = λ t. length t ≤ 2 ^ 20 in
    subst P (sym is) (text_size seed count few)
