-- The spans of tokens rise and lie in the text.
use Rattle.std.proofs.Common.{◌≡◌, ℕ, zero, suc, ◌+◌, ◌<◌, ◌≤◌, List, [], ◌∷◌, ◌++◌, length, Some, None, subst, arith}
use Rattle.std.specs.Prelude.{slice_get}
use Rattle.c_lex.specs.TokenText.{SpansRise}
use Rattle.c_lex.specs.declared.token.Token.{Token}

pub room : (at end : ℕ) (ts : List Token) → SpansRise at end ts → at + length ts ≤ end
room at end [] rise = omega arith
room at end (t ∷ ts) rise = let below = room t.end end ts rise.2 in let more = rise.1 in let from = rise.0 in omega arith

pub span_of : (at end : ℕ) (ts : List Token) (k : ℕ) (t : Token) → SpansRise at end ts → slice_get ts k ≡ Some t → (t.start < t.end) × (t.end ≤ end)
span_of at end [] k t rise is = let e = is in absurd (cc)
span_of at end (u ∷ us) zero t rise is =
    let same : u ≡ t = (let e = is in cc) in
    let long = room u.end end us rise.2 in subst (λ v. (v.start < v.end) × (v.end ≤ end)) same (rise.1, omega arith)
span_of at end (u ∷ us) (suc k) t rise is = span_of u.end end us k t rise.2 is

pub wider : (at end further : ℕ) (ts : List Token) → SpansRise at end ts → end ≤ further → SpansRise at further ts
wider at end further [] rise more = omega arith
wider at end further (t ∷ ts) rise more = (rise.0, rise.1, wider t.end end further ts rise.2 more)

pub one_more_span : (at end : ℕ) (ts : List Token) (t : Token) → SpansRise at end ts → end ≤ t.start → t.start < t.end → SpansRise at t.end (ts ++ t ∷ [])
one_more_span at end [] t rise from more = (omega arith, more, omega arith)
one_more_span at end (u ∷ us) t rise from more = (rise.0, rise.1, one_more_span u.end end us t rise.2 from more)
