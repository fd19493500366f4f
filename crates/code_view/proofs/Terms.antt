-- What is laid out of the term of a tree lists events that its nodes have.
use Rattle.std.proofs.Common.{◌≡◌, ◌+◌, ◌⊎◌, inl, inr, ℕ, suc, Bool, true, false, if◌then◌else◌, nat_lt, List, [], ◌∷◌, ◌++◌, length, refl}
use Rattle.std.specs.List.{All}
use Rattle.std.proofs.lemmas.List.Elements.{All-nil, All-cons, All-head, All-tail, All-append}
use Rattle.ub_base.specs.declared.clause.Kind.{Kind}
use Rattle.ub_base.specs.declared.clause.Kind.TheVariants.{Val, Eff, Body}
use Rattle.c_typed.specs.declared.class.Class.{Class}
use Rattle.c_typed.specs.declared.class.Class.TheVariants.{Object, Constant, Plain, Store, Update, Choice, Comma, Call, Isolated}
use Rattle.c_typed.specs.declared.tree.Place.{Place}
use Rattle.c_typed.specs.Order.{place}
use Rattle.c_typed.specs.Tree.{Tree, Trees, node, none, more, size, kinds_of}
use Rattle.core_ir.specs.Term.{Term, act, unseq, invoke, terms_from}
use Rattle.elaborate.specs.Terms.{head_of, rest_of, choice_of, comma_of, node_term, term_for, terms_for}
use Rattle.code_view.specs.Events.{IsOneOf}
use Rattle.run_layout.specs.Listings.{Entry, event, operand, continuation, flat, all_flat}

-- the event is one of a node, in the tree whose root has the number k
abbrev mutual
  pub HasEventIn : ℕ → Tree → Place → Type 0
  HasEventIn k (node class ts) u = ((u.node ≡ k) × IsOneOf u.kind (kinds_of class)) ⊎ HasEventAmong (suc k) ts u

  pub HasEventAmong : ℕ → Trees → Place → Type 0
  HasEventAmong m none u = ⊥
  HasEventAmong m (more t ts) u = HasEventIn m t u ⊎ HasEventAmong (m + size t) ts u

module _ (count : ℕ) (Q : Place → Type 0) where
  abbrev pub Good : Entry → Type 0
  Good (event p) = Q p
  Good (operand number index skipped) = Unit {0}

  abbrev Fine : Term → Type 0
  Fine t = All Good (flat count t)

  one_good : (b : Bool) (p : Place) → Q p → All Good (if b then event p ∷ [] else [])
  one_good true p q = All-cons Good (event p) [] q (All-nil Good)
  one_good false p q = All-nil Good

  own : (k : ℕ) (kind : Kind) → Q (place k kind) → Fine (act k kind)
  own k kind q = one_good (nat_lt k count) (place k kind) q

  started : (k : ℕ) → Q (place k Body) → Fine (invoke k)
  started k q = one_good (nat_lt k count) (place k Body) q

  both : (a b : List Entry) → All Good a → All Good b → All Good (a ++ b)
  both a b h k = All-append Good a b h k

  together : (ts : List Term) → All Fine ts → Fine (unseq (terms_from ts))
  together [] h = All-nil Good
  together (t ∷ ts) h = both (flat count t) (all_flat count (terms_from ts)) (All-head Fine t ts h) (together ts (All-tail Fine t ts h))

  first : (k : ℕ) (ts : List Term) → All Fine ts → Fine (head_of k ts)
  first k [] h = All-nil Good
  first k (t ∷ ts) h = All-head Fine t ts h

  rest : (ts : List Term) → All Fine ts → All Fine (rest_of ts)
  rest [] h = h
  rest (t ∷ ts) h = All-tail Fine t ts h

  went : (k index : ℕ) (es : List Entry) → All Good es → All Good (continuation k index es)
  went k index es h = All-cons Good (operand k index (length es)) es tt h

  chosen : (k : ℕ) (ts : List Term) → All Fine ts → Fine (choice_of k ts)
  chosen k ts h =
      let test = flat count (head_of k ts) in
      let yes = flat count (head_of k (rest_of ts)) in
      let no = flat count (head_of k (rest_of (rest_of ts))) in
      both test (continuation k 1 yes ++ continuation k 2 no) (first k ts h)
      (both (continuation k 1 yes) (continuation k 2 no) (went k 1 yes (first k (rest_of ts) (rest ts h)))
      (went k 2 no (first k (rest_of (rest_of ts)) (rest (rest_of ts) (rest ts h)))))

  in_turn : (k : ℕ) (ts : List Term) → Q (place k Val) → All Fine ts → Fine (comma_of k ts)
  in_turn k [] q h = own k Val q
  in_turn k (t ∷ []) q h = both (flat count t) (flat count (act k Val)) (All-head Fine t [] h) (own k Val q)
  in_turn k (t ∷ u ∷ ts) q h =
      both (flat count t) (flat count (comma_of k (u ∷ ts))) (All-head Fine t (u ∷ ts) h) (in_turn k (u ∷ ts) q (All-tail Fine t (u ∷ ts) h))

  over : (k : ℕ) (class : Class) (ts : List Term) → ((kind : Kind) → IsOneOf kind (kinds_of class) → Q (place k kind)) → All Fine ts
      → Fine (node_term k class ts)
  over k Object ts q h = All-nil Good
  over k Constant ts q h = All-nil Good
  over k Plain ts q h = both (all_flat count (terms_from ts)) (flat count (act k Val)) (together ts h) (own k Val (q Val (inl refl)))
  over k Store ts q h =
      both (all_flat count (terms_from ts)) (flat count (act k Val) ++ (flat count (act k Eff) ++ [])) (together ts h)
      (both (flat count (act k Val)) (flat count (act k Eff) ++ []) (own k Val (q Val (inl refl)))
      (both (flat count (act k Eff)) [] (own k Eff (q Eff (inr (inl refl)))) (All-nil Good)))
  over k Update ts q h =
      both (all_flat count (terms_from ts)) (flat count (act k Val) ++ flat count (act k Eff)) (together ts h)
      (both (flat count (act k Val)) (flat count (act k Eff)) (own k Val (q Val (inl refl))) (own k Eff (q Eff (inr (inl refl)))))
  over k Choice ts q h = both (flat count (choice_of k ts)) (flat count (act k Val)) (chosen k ts h) (own k Val (q Val (inl refl)))
  over k Comma ts q h = in_turn k ts (q Val (inl refl)) h
  over k Call ts q h =
      both (all_flat count (terms_from ts) ++ flat count (invoke k)) (flat count (act k Val))
      (both (all_flat count (terms_from ts)) (flat count (invoke k)) (together ts h) (started k (q Body (inl refl)))) (own k Val (q Val (inr (inl refl))))
  over k Isolated ts q h = both (flat count (invoke k)) (flat count (act k Val)) (started k (q Body (inl refl))) (own k Val (q Val (inr (inl refl))))

  mutual
    pub tree_good : (t : Tree) (k : ℕ) → ((u : Place) → HasEventIn k t u → Q u) → Fine (term_for k t)
    tree_good (node class ts) k q = over k class (terms_for (suc k) ts) (λ kind is. q (place k kind) (inl (refl, is)))
        (trees_good ts (suc k) (λ u h. q u (inr h)))

    trees_good : (ts : Trees) (m : ℕ) → ((u : Place) → HasEventAmong m ts u → Q u) → All Fine (terms_for m ts)
    trees_good none m q = All-nil Fine
    trees_good (more t ts) m q =
        All-cons Fine (term_for m t) (terms_for (m + size t) ts) (tree_good t m (λ u h. q u (inl h))) (trees_good ts (m + size t) (λ u h. q u (inr h)))
