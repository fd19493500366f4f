-- What lists of roots gain.
use Rattle.std.proofs.Common.{◌≡◌, ℕ, ◌≤◌, Bor, List, [], ◌∷◌, ◌++◌, map, flat_map, length, drop, refl, sym, ap, ◌∙◌, append_assoc, append-nil}
use Rattle.std.proofs.lemmas.List.{map-append, drop_all}
use Rattle.c_typed.specs.declared.tree.Typed.{Typed}
use Rattle.c_typed.specs.declared.program.Function.{Function}
use Rattle.c_typed.specs.Tree.{tree_of}
use Rattle.elaborate.specs.Expressions.{function_trees}
use Rattle.elaborate.specs.Roots.{tree_at, trees_at}

-- these trees come to those that were there
abbrev pub Grown : List (Bor Typed) → List (Bor Typed) → List Typed → Type 0
Grown old new ts = map (λ tree. tree.now) new ≡ map (λ tree. tree.now) old ++ ts

pub grown_more : (a b c : List (Bor Typed)) (ts us : List Typed) → Grown a b ts → Grown b c us → Grown a c (ts ++ us)
grown_more a b c ts us h g = g ∙ (ap (λ z. z ++ us) h ∙ append_assoc (map (λ tree. tree.now) a) ts us)

pub grown_one : (a b : List (Bor Typed)) (root : Bor Typed) → b ≡ a ++ root ∷ [] → Grown a b (root.now ∷ [])
grown_one a b root e = ap (map (λ tree. tree.now)) e ∙ map-append (λ tree. tree.now) a (root ∷ [])

-- the trees at roots are those of the roots
as_trees : (roots : List (Bor Typed)) → trees_at roots ≡ map tree_of (map (λ tree. tree.now) roots)
as_trees [] = refl
as_trees (root ∷ roots) = ap (λ ts. tree_at root ∷ ts) (as_trees roots)

-- where no function is left
pub all_listed : (roots : List (Bor Typed)) (functions : List Function) (i : ℕ) (all : List Typed) → length functions ≤ i →
    map (λ tree. tree.now) roots ++ flat_map function_trees (drop i functions) ≡ all → trees_at roots ≡ map tree_of all
all_listed roots functions i all end e =
    as_trees roots
    ∙ ap (map tree_of) (sym (append-nil (map (λ tree. tree.now) roots))
    ∙ (sym (ap (λ z. map (λ tree. tree.now) roots ++ flat_map function_trees z) (drop_all i functions end)) ∙ e))
