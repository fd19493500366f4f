-- In which order full expressions get their numbers.
use Rattle.std.proofs.Common.{rules, ◌≡◌, ℕ, zero, suc, List, [], ◌∷◌, ◌++◌, map, Some, slice_get, flat_map, refl, sym, ap, subst, ◌∙◌, append_assoc}
use Rattle.c_typed.specs.declared.tree.Typed.{Typed}
use Rattle.c_typed.specs.declared.statement.Block.{Block}
use Rattle.c_typed.specs.declared.statement.Entry.{Entry}
use Rattle.c_typed.specs.declared.statement.Body.TheFolds as typed
use Rattle.elaborate.specs.Expressions.{block_trees, entry_trees}
use Rattle.run_statements.specs.declared.numbers.Numbers.{Numbers}
use Rattle.run_statements.specs.Bodies.{Grows}

-- these trees got the next numbers
abbrev pub Ordered : Numbers → Numbers → List Typed → Type 0
Ordered old new ts = map (λ t. t.now) new.roots.items ≡ map (λ t. t.now) old.roots.items ++ ts

pub grows_same : (a b : Numbers) → b ≡ a → Grows a b
grows_same a b e = subst (Grows a) (sym e) (λ n x at. at, λ n x at. at)

-- the next of these was numbered
pub grown_next : {A : Type 0} → (f : A → List Typed) (a b c : Numbers) (x : A) (rest : List A) (all : List Typed) (items : List A) → items ≡ x ∷ rest
    → map (λ t. t.now) b.roots.items ++ flat_map f items ≡ map (λ t. t.now) a.roots.items ++ all → Ordered b c (f x)
    → map (λ t. t.now) c.roots.items ++ flat_map f rest ≡ map (λ t. t.now) a.roots.items ++ all
grown_next f a b c x rest all items is h k = ap (λ z. z ++ flat_map f rest) k
    ∙ (append_assoc (map (λ t. t.now) b.roots.items) (f x) (flat_map f rest)
    ∙ (ap (λ z. map (λ t. t.now) b.roots.items ++ flat_map f z) (sym is) ∙ h))

pub slice_get-front : {A : Type 0} (xs ys : List A) (n : ℕ) (x : A) → slice_get xs n ≡ Some x → slice_get (xs ++ ys) n ≡ Some x
slice_get-front [] ys zero x h = absurd (cc)
slice_get-front [] ys (suc n) x h = absurd (cc)
slice_get-front (y ∷ xs) ys zero x h = h
slice_get-front (y ∷ xs) ys (suc n) x h = slice_get-front xs ys n x h

flat_entries : (es : List Entry) → flat_map (λ ts. ts) (map entry_trees es) ≡ flat_map entry_trees es
flat_entries [] = refl
flat_entries (e ∷ es) = ap (λ z. entry_trees e ++ z) (flat_entries es)

of_entries : (b : Block) → block_trees b ≡ flat_map (λ ts. ts) (map entry_trees b.entries)
of_entries b = search (rules, typed.the_lemmas)

-- before the entries of a block
pub start_entries : (old : List Typed) (b : Block) (items : List Entry) → items ≡ b.entries
    → old ++ flat_map entry_trees items ≡ old ++ block_trees b
start_entries old b items is = ap (λ z. old ++ z) (ap (flat_map entry_trees) is ∙ (sym (flat_entries b.entries) ∙ sym (of_entries b)))
