-- Types of one identifier, one by one.
use Rattle.std.proofs.Common.{◌≡◌, ℕ, suc, ◌+◌, ◌<◌, Bool, true, false, List, ◌∷◌, length, map, drop, get_or, sym, ap, ◌∙◌, add-one, drop-cons}
use Rattle.std.specs.Prelude.{◌&&◌, ◌||◌}
use Rattle.c_types.specs.Types.{Qualified, qualified_of}
use Rattle.c_types.specs.Same.{same_qualified}
use Rattle.c_types.specs.declared.ty.Qual.{Qual}
use Rattle.typing_env.specs.Names.{alike, all_alike, is_among}

pub and_true : (a b : Bool) → a ≡ true → (a && b) ≡ b
and_true a b e = ap (λ x. x && b) e

pub and_false : (a b : Bool) → a ≡ false → (a && b) ≡ false
and_false a b e = ap (λ x. x && b) e

or_true : (a b : Bool) → a ≡ true → (a || b) ≡ true
or_true a b e = ap (λ x. x || b) e

or_false : (a b : Bool) → a ≡ false → (a || b) ≡ b
or_false a b e = ap (λ x. x || b) e

-- the types from a place on are the one there and those behind it
front : (ts : List Qual) (i : ℕ) (t : Qual) → i < length ts → t ≡ get_or ts i t
    → map qualified_of (drop i ts) ≡ qualified_of t ∷ map qualified_of (drop (i + 1) ts)
front ts i t less is =
    ap (map qualified_of) (drop-cons ts i t less)
    ∙ ap (λ x. qualified_of x ∷ map qualified_of (drop (suc i) ts)) (sym is)
    ∙ ap (λ n. qualified_of t ∷ map qualified_of (drop n ts)) (sym (add-one i))

pub alike_next : (q : Qualified) (ts : List Qual) (i : ℕ) (t : Qual) → i < length ts → t ≡ get_or ts i t → alike (qualified_of t) q ≡ true
    → all_alike q (map qualified_of (drop (i + 1) ts)) ≡ all_alike q (map qualified_of (drop i ts))
alike_next q ts i t less is e =
    sym (and_true (alike (qualified_of t) q) (all_alike q (map qualified_of (drop (i + 1) ts))) e) ∙ ap (all_alike q) (sym (front ts i t less is))

pub alike_not : (q : Qualified) (ts : List Qual) (i : ℕ) (t : Qual) → i < length ts → t ≡ get_or ts i t → alike (qualified_of t) q ≡ false
    → false ≡ all_alike q (map qualified_of (drop i ts))
alike_not q ts i t less is e =
    sym (and_false (alike (qualified_of t) q) (all_alike q (map qualified_of (drop (i + 1) ts))) e) ∙ ap (all_alike q) (sym (front ts i t less is))

pub among_next : (q : Qualified) (ts : List Qual) (i : ℕ) (t : Qual) → i < length ts → t ≡ get_or ts i t → same_qualified (qualified_of t) q ≡ false
    → is_among q (map qualified_of (drop (i + 1) ts)) ≡ is_among q (map qualified_of (drop i ts))
among_next q ts i t less is e =
    sym (or_false (same_qualified (qualified_of t) q) (is_among q (map qualified_of (drop (i + 1) ts))) e)
    ∙ ap (is_among q) (sym (front ts i t less is))

pub among_here : (q : Qualified) (ts : List Qual) (i : ℕ) (t : Qual) → i < length ts → t ≡ get_or ts i t → same_qualified (qualified_of t) q ≡ true
    → true ≡ is_among q (map qualified_of (drop i ts))
among_here q ts i t less is e =
    sym (or_true (same_qualified (qualified_of t) q) (is_among q (map qualified_of (drop (i + 1) ts))) e)
    ∙ ap (is_among q) (sym (front ts i t less is))
