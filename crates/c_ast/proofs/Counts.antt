-- The counts of a list of tokens, from any token on.
use Rattle.std.proofs.Common.{
  ◌≡◌,
  ℕ,
  zero,
  suc,
  ◌+◌,
  ◌*◌,
  ◌≤◌,
  ◌<◌,
  max,
  Bool,
  true,
  false,
  if◌then◌else◌,
  List,
  [],
  ◌∷◌,
  length,
  drop,
  slice_get,
  Option,
  Some,
  None,
  sum_by,
  refl,
  arith,
}
use Rattle.std.proofs.lemmas.Grind.{common_steps}
use Rattle.std.proofs.lemmas.List.Sums.{sum_by-cons}
use Rattle.std.specs.Option.{option_map}
use Rattle.c_lex.specs.declared.token.Token.{Token}
use Rattle.c_lex.specs.declared.token.TokenKind.{TokenKind}
use Rattle.c_lex.specs.declared.token.TokenKind.TheVariants.{Keyword, StringLit, Punct}
use Rattle.c_lex.specs.declared.token.Word.TheVariants as w
use Rattle.c_lex.specs.declared.token.Mark.TheVariants as m
use Rattle.c_ast.specs.declared.nesting.Level.{Level}
use Rattle.c_ast.specs.Nest.{Levels, total_of, step, first_kind, greatest, with_top, counted, opened, closed, closed_in, fresh, goes_on, nest_of}

abbrev pub kind_of : Token → TokenKind
kind_of t = t.kind

pub first_kind_is : (ts : List Token) → first_kind ts ≡ option_map kind_of (slice_get ts 0)
first_kind_is [] = refl
first_kind_is (t ∷ ts) = refl

-- the greatest value is that of the first token, or that of the rest
pub advance : (list : List Token) (at : ℕ) (n : Levels) (kind : TokenKind) → option_map kind_of (slice_get list at) ≡ Some kind
    → greatest n (drop at list) ≡ max (total_of n) (greatest (step (option_map kind_of (slice_get list (at + 1))) kind n) (drop (at + 1) list))
unfolding greatest
advance [] at n kind is = absurd (cc)
advance (t ∷ ts) zero n kind is = grind (arith, common_steps, is, first_kind_is ts)
advance (t ∷ ts) (suc at) n kind is =
    let e : suc at + 1 ≡ suc (at + 1) = omega arith in rw e (advance ts at n kind is)

pub at_end : (list : List Token) (at : ℕ) (n : Levels) → length list ≤ at → greatest n (drop at list) ≡ total_of n
unfolding greatest
at_end [] at n h = grind (arith, common_steps)
at_end (t ∷ ts) zero n h = absurd (omega (arith, h))
at_end (t ∷ ts) (suc at) n h = at_end ts at n (omega (arith, h))

pub at_least : (n : Levels) (list : List Token) → total_of n ≤ greatest n list
unfolding greatest
at_least n [] = omega arith
at_least n (t ∷ ts) = omega arith

pub never : (list : List Token) (at : ℕ) → at < length list → option_map kind_of (slice_get list at) ≡ None → ⊥
never [] at h e = omega (arith, h)
never (t ∷ ts) zero h e = cc
never (t ∷ ts) (suc at) h e = never ts at (omega (arith, h)) e

pub closed_grows : (top : Level) (below : List Level) → total_of (closed_in top below) ≤ top.count + sum_by (λ l. l.count) below + 4 * length below + 1
closed_grows top [] = omega arith
closed_grows top (l ∷ ls) =
    let e : total_of (closed_in top (l ∷ ls)) ≡ l.count + 1 + sum_by (λ l. l.count) ls + 4 * length ls = refl in
    let n : length (l ∷ ls) ≡ suc (length ls) = refl in
    omega (arith, e, n, sum_by-cons (λ l. l.count) l ls)

pub opened_grows : (n : Levels) → total_of (opened n) ≤ total_of n + 4
opened_grows n =
    let e : total_of (opened n) ≡ 0 + sum_by (λ l. l.count) (n.top ∷ n.below) + 4 * suc (length n.below) = refl in
    omega (arith, e, sum_by-cons (λ l. l.count) n.top n.below)

pub either_grows : (b : Bool) (n : Levels) → total_of (with_top (if b then n.top else fresh) n) ≤ total_of n
either_grows true n = omega arith
either_grows false n = omega arith

pub counted_grows : (kind : TokenKind) (l : Level) → (counted kind l).count ≡ l.count + 1
counted_grows (Keyword w.If) l = refl
counted_grows (Keyword w.Do) l = refl
counted_grows (Punct m.Question) l = refl
counted_grows kind l = refl

pub step_grows : (next : Option TokenKind) (kind : TokenKind) (n : Levels) → total_of (step next kind n) ≤ total_of n + 4
step_grows next (Punct m.OpenParen) n = opened_grows n
step_grows next (Punct m.OpenBracket) n = opened_grows n
step_grows next (Punct m.OpenBrace) n = opened_grows n
step_grows next (Punct m.CloseParen) n = omega (arith, closed_grows n.top n.below)
step_grows next (Punct m.CloseBracket) n = omega (arith, closed_grows n.top n.below)
step_grows next (Punct m.CloseBrace) n = omega (arith, either_grows (goes_on next (closed n).top) (closed n), closed_grows n.top n.below)
step_grows next (Punct m.Semicolon) n = omega (arith, either_grows (goes_on next n.top) n)
step_grows next (Punct m.Comma) n = omega (arith, either_grows n.top.chooses n)
step_grows next StringLit n = omega arith
step_grows next kind n = omega (arith, counted_grows kind n.top)

-- one more token
pub larger : (list : List Token) (at g g2 : ℕ) (n n2 : Levels)
    → nest_of list ≡ max g (greatest n (drop at list)) → total_of n ≤ g → g ≤ 4 * at → total_of n2 ≤ total_of n + 4
    → greatest n (drop at list) ≡ max (total_of n) (greatest n2 (drop (at + 1) list)) → g2 ≡ max g (total_of n2)
    → record { exact : nest_of list ≡ max g2 (greatest n2 (drop (at + 1) list)); within : total_of n2 ≤ g2; small : g2 ≤ 4 * (at + 1) }
larger list at g g2 n n2 exact within small grows same is =
    let least : total_of n2 ≤ greatest n2 (drop (at + 1) list) = at_least n2 (drop (at + 1) list) in
    record {
      exact = omega (arith, exact, within, same, is, least);
      within = omega (arith, is);
      small = omega (arith, is, within, small, grows);
    }

pub last : (list : List Token) (at g : ℕ) (n : Levels) → nest_of list ≡ max g (greatest n (drop at list)) → total_of n ≤ g → length list ≤ at
    → g ≡ nest_of list
last list at g n exact within done = omega (arith, exact, within, at_end list at n done)
