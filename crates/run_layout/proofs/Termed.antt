-- The listings of full expressions are those of their terms.
use Rattle.std.proofs.Common.{arith, ◌≡◌, ◌≤◌, ◌-◌, inl, inr, ℕ, zero, suc, List, [], ◌∷◌, ◌++◌, map, length, take, drop, Some, slice_get}
use Rattle.std.proofs.Common.{refl, sym, ap, subst, ◌∙◌, length-append}
use Rattle.std.specs.Prelude.{IsTrue}
use Rattle.std.specs.List.{All}
use Rattle.std.proofs.lemmas.List.{take_all, drop_all, take-append-le, drop-append-le, length-drop}
use Rattle.std.proofs.lemmas.List.Elements.{All-nil, All-cons, All-head, All-tail}
use Rattle.c_typed.specs.declared.program.Program.{Program}
use Rattle.c_typed.specs.Tree.{Tree, tree_of, size}
use Rattle.core_ir.specs.declared.term.Core.{Core}
use Rattle.core_ir.specs.Term.{Term, term_of, terms_from}
use Rattle.elaborate.specs.Expressions.{program_trees}
use Rattle.elaborate.specs.Formed.{is_formed, EachCounts, EachFormed}
use Rattle.elaborate.specs.Terms.{term_for}
use Rattle.run_layout.specs.declared.steps.Expression.{Expression}
use Rattle.run_layout.specs.declared.steps.Listed.{Listed}
use Rattle.run_layout.specs.declared.tables.Tables.{Tables}
use Rattle.run_layout.specs.Listings.{entries_of, flat}
use Rattle.run_layout.specs.Named.{IsExpressionOf}
use Rattle.run_layout.specs.OfTrees.{listing_in, HasListing, flat_of, OfTerms, AreTermsOf}
use Rattle.run_layout.specs.Roots.{roots_in}
use Rattle.run_layout.proofs.Grown.{in_both, at_all}

-- what was there stays as more is added
same_part : (entries more : List Listed) (first end : ℕ) → first ≤ end → end ≤ length entries
    → take (end - first) (drop first (entries ++ more)) ≡ take (end - first) (drop first entries)
same_part entries more first end f e =
    ap (take (end - first)) (drop-append-le first entries more (omega (arith, f, e)))
    ∙ take-append-le (end - first) (drop first entries) more (omega (arith, length-drop first entries, f, e))

last_part : (entries more : List Listed) (end : ℕ) → end ≡ length (entries ++ more)
    → take (end - length entries) (drop (length entries) (entries ++ more)) ≡ more
last_part entries more end e =
    ap (take (end - length entries)) (drop-append-le (length entries) entries more (omega arith)
    ∙ ap (λ z. z ++ more) (drop_all (length entries) entries (omega arith)))
    ∙ take_all (end - length entries) more (omega (arith, e, length-append entries more))

-- the one full expression that comes last
only_one : (e x : Expression) (j : ℕ) → slice_get (e ∷ []) j ≡ Some x → (x ≡ e) × (j ≡ 0)
only_one e x zero h = let same : x ≡ e = cc in (same, refl)
only_one e x (suc zero) h = absurd (cc)
only_one e x (suc (suc j)) h = absurd (cc)

pub one_termed : (tables : Tables) (terms : List Core) (entries longer more : List Listed) (es fs : List Expression) (e : Expression)
    → longer ≡ entries ++ more → fs ≡ es ++ e ∷ [] → e.first ≡ length entries → e.end ≡ length longer → All (IsExpressionOf tables entries) es
    → entries_of more ≡ flat_of (size (tree_of e.root.now)) (slice_get terms (length es)) → OfTerms terms entries es → OfTerms terms longer fs
one_termed tables terms entries longer more es fs e l p f t within given old =
    subst (λ z. OfTerms terms longer z) (sym p) (subst (λ z. OfTerms terms z (es ++ e ∷ [])) (sym l)
    (λ n x h. elim (in_both es (e ∷ []) n x h) [
      | inl k ↦
          let w = at_all (IsExpressionOf tables entries) es n x within k in
          ap entries_of (same_part entries more x.first x.end w.0 w.1) ∙ old n x k
      | inr k ↦
          let same = only_one e x k.0 k.1 in
          ap (λ z. entries_of (listing_in (entries ++ more) z)) same.0
          ∙ (ap (λ m. entries_of (take (e.end - m) (drop m (entries ++ more)))) f
          ∙ (ap entries_of (last_part entries more e.end (t ∙ ap length l))
          ∙ (given
          ∙ (ap (λ m. flat_of (size (tree_of e.root.now)) (slice_get terms m)) (omega (arith, k.2, same.1))
          ∙ ap (λ z. flat_of (size (tree_of z.root.now)) (slice_get terms n)) (sym same.0)))))
    ]))

-- where there is none yet
pub none_termed : (terms : List Core) (entries : List Listed) (es : List Expression) → es ≡ [] → OfTerms terms entries es
none_termed terms entries es e = subst (OfTerms terms entries) (sym e) (λ n x h. absurd (nothing n x h))
  where
    nothing : (n : ℕ) (x : Expression) → slice_get [] n ≡ Some x → ⊥
    nothing zero x h = absurd (cc)
    nothing (suc n) x h = absurd (cc)

each_counts : (tables : Tables) (entries : List Listed) (es : List Expression) → All (IsExpressionOf tables entries) es → EachCounts (map tree_of (roots_in es))
each_counts tables entries [] h = tt
each_counts tables entries (e ∷ es) h =
    ((All-head (IsExpressionOf tables entries) e es h).3, each_counts tables entries es (All-tail (IsExpressionOf tables entries) e es h))

terms_same : (xs ys : List Term) → terms_from xs ≡ terms_from ys → xs ≡ ys
terms_same [] [] h = refl
terms_same [] (y ∷ ys) h = absurd (cc)
terms_same (x ∷ xs) [] h = absurd (cc)
terms_same (x ∷ xs) (y ∷ ys) h =
    let first : x ≡ y = cc in
    let rest : terms_from xs ≡ terms_from ys = cc in
    ap (λ z. z ∷ xs) first ∙ ap (λ zs. y ∷ zs) (terms_same xs ys rest)

each_lists : (entries : List Listed) (terms : List Core) (es : List Expression) (ts : List Tree)
    → map tree_of (roots_in es) ≡ ts
    → map term_of terms ≡ map (term_for 0) ts → EachFormed ts → OfTerms terms entries es → All (HasListing entries) es
each_lists entries terms [] ts a b f h = All-nil (HasListing entries)
each_lists entries terms (e ∷ es) [] a b f h = absurd (cc)
each_lists entries [] (e ∷ es) (t ∷ ts) a b f h = absurd (cc)
each_lists entries (c ∷ cs) (e ∷ es) (t ∷ ts) a b f h =
    let tree : tree_of e.root.now ≡ t = cc in
    let trees : map tree_of (roots_in es) ≡ ts = cc in
    let term : term_of c ≡ term_for 0 t = cc in
    let rest : map term_of cs ≡ map (term_for 0) ts = cc in
    All-cons (HasListing entries) e es (record {
      laid = h 0 e refl ∙ ap (flat (size (tree_of e.root.now))) (term ∙ ap (term_for 0) (sym tree));
      formed = subst (λ z. IsTrue (is_formed z)) (sym tree) f.0;
    }) (each_lists entries cs es ts trees rest f.1 (λ n x k. h (suc n) x k))

-- where the terms are those of the trees, the listings are
pub lists_trees : (p : Program) (terms : List Core) (tables : Tables) (entries : List Listed) (es : List Expression) → OfTerms terms entries es
    → All (IsExpressionOf tables entries) es → map tree_of (roots_in es) ≡ program_trees p → AreTermsOf p terms → EachFormed (program_trees p)
    → All (HasListing entries) es
lists_trees p terms tables entries es of within trees given formed =
    each_lists entries terms es (program_trees p) trees
    (terms_same (map term_of terms) (map (term_for 0) (program_trees p)) (given (subst EachCounts trees (each_counts tables entries es within)))) formed of
