-- Entries of what is laid out, part by part.
use Rattle.std.proofs.Common.{◌≡◌, ℕ, zero, suc, refl, sym, ◌∙◌, ap, List, [], ◌∷◌, ◌++◌, append_assoc, map, drop, length, ◌<◌, ◌+◌, ◌⊎◌, inl, inr}
use Rattle.std.specs.Prelude.{Result, Ok, Err, OnOk}
use Rattle.std.proofs.lemmas.List.{drop_more, map-append, length-map, length-append, set_at}
use Rattle.std.proofs.Math.ListN.{get_or, set}
use Rattle.core_ir.specs.declared.term.Core.{Core}
use Rattle.core_ir.specs.declared.term.Core.TheFolds.{the_lemmas}
use Rattle.core_ir.specs.declared.term.Core as cores
use Rattle.core_ir.specs.Term.{term_of, terms_from}
use Rattle.run_layout.specs.declared.steps.Listed.{Listed}
use Rattle.run_layout.specs.Listings.{Entry, operand, entry_of, entries_of, continuation, flat, all_flat}

-- what follows from a clause of what may fail
pub on_ok : {A E : Type 0} (r : Result A E) (P Q : Type 0) → (P → Q) → OnOk r P → OnOk r Q
on_ok (Ok x) P Q f h = f h
on_ok (Err e) P Q f h = tt

-- the second part may fail
pub two_parts : {A E : Type 0} (r : Result A E) (a b whole xs ys zs : List Entry) → whole ≡ a ++ b → ys ≡ xs ++ a →
    OnOk r (zs ≡ ys ++ b) → OnOk r (zs ≡ xs ++ whole)
two_parts (Ok x) a b whole xs ys zs e p q = q ∙ ap (λ w. w ++ b) p ∙ append_assoc xs a b ∙ ap (λ w. xs ++ w) (sym e)
two_parts (Err x) a b whole xs ys zs e p q = tt

-- one more part of those that are left
pub part_more : (a b left xs ys whole : List Entry) → left ≡ a ++ b → ys ≡ xs ++ a → xs ++ left ≡ whole → ys ++ b ≡ whole
part_more a b left xs ys whole e p q = ap (λ w. w ++ b) p ∙ append_assoc xs a b ∙ ap (λ w. xs ++ w) (sym e) ∙ q

-- a choice: the test, and both continuations, of which the last may fail
pub choice_parts : {A E : Type 0} (r : Result A E) (t a b whole x0 x1 x2 x3 : List Entry) → whole ≡ t ++ (a ++ b) →
    x1 ≡ x0 ++ t → x2 ≡ x1 ++ a → OnOk r (x3 ≡ x2 ++ b) → OnOk r (x3 ≡ x0 ++ whole)
choice_parts r t a b whole x0 x1 x2 x3 e p q s =
    two_parts r t (a ++ b) whole x0 x1 x3 e p (two_parts r a b (a ++ b) x1 x2 x3 refl q s)

-- the parts of a term
pub pair_flat : (n : ℕ) (core first second : Core) → (core ≡ cores.Weak first second) ⊎ (core ≡ cores.Strong first second)
    → flat n (term_of core) ≡ flat n (term_of first) ++ flat n (term_of second)
pair_flat n core first second (inl e) = rw e (search the_lemmas)
pair_flat n core first second (inr e) = rw e (search the_lemmas)

pub choice_flat : (n : ℕ) (core : Core) (k : ℕ) (test first second : Core) → core ≡ cores.Choose k test first second
    → flat n (term_of core) ≡ flat n (term_of test) ++ (continuation k 1 (flat n (term_of first)) ++ continuation k 2 (flat n (term_of second)))
choice_flat n core k test first second e = rw e (search the_lemmas)

pub parts_left : (n : ℕ) (xs : List Core) (i : ℕ) (x : Core) → i < length xs → x ≡ get_or xs i x
    → all_flat n (terms_from (map term_of (drop i xs))) ≡ flat n (term_of x) ++ all_flat n (terms_from (map term_of (drop (i + 1) xs)))
parts_left n xs i x h e =
    ap (λ ys. all_flat n (terms_from (map term_of ys))) (drop_more xs i x h)
    ∙ ap (λ y. flat n (term_of y) ++ all_flat n (terms_from (map term_of (drop (i + 1) xs)))) (sym e)

-- entries that end with those of a part are some entries of the code, and those of the part
pub split : (xs ys : List Listed) (part : List Entry) → entries_of ys ≡ entries_of xs ++ part → length ys ≡ length xs + length part
split xs ys part e =
    sym (length-map ys entry_of) ∙ ap length e ∙ length-append (entries_of xs) part ∙ ap (λ z. z + length part) (length-map xs entry_of)

map_set : (xs : List Listed) (i : ℕ) (x : Listed) → entries_of (set xs i x) ≡ set (entries_of xs) i (entry_of x)
map_set [] i x = refl
map_set (y ∷ xs) zero x = refl
map_set (y ∷ xs) (suc i) x = ap (λ z. entry_of y ∷ z) (map_set xs i x)

-- a continuation, whose first entry is written once its count is known
pub continued_by : (xs ys : List Listed) (first last : Listed) (node index : ℕ) (part : List Entry) → entries_of ys ≡ entries_of (xs ++ first ∷ []) ++ part
    → entry_of last ≡ operand node index (length part) → entries_of (set ys (length xs) last) ≡ entries_of xs ++ continuation node index part
continued_by xs ys first last node index part e l =
    map_set ys (length xs) last
    ∙ ap (λ z. set z (length xs) (entry_of last))
    (e ∙ ap (λ z. z ++ part) (map-append entry_of xs (first ∷ [])) ∙ append_assoc (entries_of xs) (entry_of first ∷ []) part)
    ∙ set_at (entries_of xs) (entry_of first) part (entry_of last) (length xs) (length-map xs entry_of)
    ∙ ap (λ z. entries_of xs ++ z ∷ part) l
