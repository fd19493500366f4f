-- The listing of a full expression's events: each stands there once, is due, and those of a node stand together.
use Rattle.std.proofs.Common.{◌≡◌, ◌⊎◌, inl, inr, ⊎_elim, ℕ, zero, suc, ◌≤◌, ◌<◌, ◌+◌, ◌-◌, nat_lt, ◌==◌, Bool, true, false, List, [], ◌∷◌, ◌++◌, length, refl}
use Rattle.std.proofs.Common.{sym, ap}
use Rattle.std.proofs.Common.{◌∙◌, arith, subst, Option, Some, None, if◌then◌else◌}
use Rattle.std.specs.Prelude.{slice_get}
use Rattle.std.proofs.lemmas.Option.{slice_get_within, same_Some}
use Rattle.ub_base.proofs.Tests.{if_true, if_false, less_test, not_less_test, number_other, number_equal, and_both}
use Rattle.ub_base.specs.declared.clause.Kind.{Kind}
use Rattle.ub_base.specs.declared.clause.Kind.TheVariants.{Val, Eff, Body}
use Rattle.c_typed.specs.declared.tree.Place.{Place}
use Rattle.c_typed.specs.declared.class.Class.{Class}
use Rattle.c_typed.specs.declared.class.Class.TheVariants as class
use Rattle.c_typed.specs.Tree.{Tree, Trees, node, none, more, size, sizes, kinds_of}
use Rattle.c_typed.specs.Order.{Taken, place, goes, events, operand_events, own_events}
use Rattle.c_typed.specs.Decide.{due_in, due_among, has_kind}
use Rattle.evaluation_log.proofs.KeptLemmas.{before_or_past}
use Rattle.evaluation_log.proofs.WholeLemmas.{get_left, get_right}
use Rattle.run_evaluations.specs.Listing.{IsBeginning, IsListedNext, EndsWith, ListingsTell}
use Rattle.run_evaluations.specs.Told.{Evaluation, Opened}
use Rattle.run_evaluations.proofs.PartLemmas.{by_test}

-- a place of two lists, one behind the other
data Part (xs ys : List Place) (i : ℕ) (u : Place) : Type 0 where
  left : slice_get xs i ≡ Some u → i < length xs → Part xs ys i u
  right : length xs ≤ i → slice_get ys (i - length xs) ≡ Some u → Part xs ys i u

part : (xs ys : List Place) (i : ℕ) (u : Place) → slice_get (xs ++ ys) i ≡ Some u → Part xs ys i u
part xs ys i u h = ⊎_elim
    (λ less. left (sym (get_left xs ys i less) ∙ h) less)
    (λ past. right past (sym (get_right xs ys (i - length xs)) ∙ (ap (slice_get (xs ++ ys)) (omega (arith, past)) ∙ h)))
    (before_or_past i (length xs))

-- ---- a node's own events
own_node : (k : ℕ) (c : Class) (i : ℕ) (u : Place) → slice_get (own_events k c) i ≡ Some u →
    (u.node ≡ k) × (has_kind (kinds_of c) u.kind ≡ true) × (i < 2)
own_node k class.Object i u h = absurd (cc)
own_node k class.Constant i u h = absurd (cc)
own_node k class.Plain zero u h = let e = same_Some _ u h in
    (sym (ap (λ (z : Place). z.node) e), (λ t. has_kind (kinds_of class.Plain) (sym e t).kind), omega arith)
own_node k class.Plain (suc i) u h = absurd (cc)
own_node k class.Store zero u h = let e = same_Some _ u h in
    (sym (ap (λ (z : Place). z.node) e), (λ t. has_kind (kinds_of class.Store) (sym e t).kind), omega arith)
own_node k class.Store (suc zero) u h = let e = same_Some _ u h in
    (sym (ap (λ (z : Place). z.node) e), (λ t. has_kind (kinds_of class.Store) (sym e t).kind), omega arith)
own_node k class.Store (suc (suc i)) u h = absurd (cc)
own_node k class.Update zero u h = let e = same_Some _ u h in
    (sym (ap (λ (z : Place). z.node) e), (λ t. has_kind (kinds_of class.Update) (sym e t).kind), omega arith)
own_node k class.Update (suc zero) u h = let e = same_Some _ u h in
    (sym (ap (λ (z : Place). z.node) e), (λ t. has_kind (kinds_of class.Update) (sym e t).kind), omega arith)
own_node k class.Update (suc (suc i)) u h = absurd (cc)
own_node k class.Choice zero u h = let e = same_Some _ u h in
    (sym (ap (λ (z : Place). z.node) e), (λ t. has_kind (kinds_of class.Choice) (sym e t).kind), omega arith)
own_node k class.Choice (suc i) u h = absurd (cc)
own_node k class.Comma zero u h = let e = same_Some _ u h in
    (sym (ap (λ (z : Place). z.node) e), (λ t. has_kind (kinds_of class.Comma) (sym e t).kind), omega arith)
own_node k class.Comma (suc i) u h = absurd (cc)
own_node k class.Call zero u h = let e = same_Some _ u h in
    (sym (ap (λ (z : Place). z.node) e), (λ t. has_kind (kinds_of class.Call) (sym e t).kind), omega arith)
own_node k class.Call (suc zero) u h = let e = same_Some _ u h in
    (sym (ap (λ (z : Place). z.node) e), (λ t. has_kind (kinds_of class.Call) (sym e t).kind), omega arith)
own_node k class.Call (suc (suc i)) u h = absurd (cc)
own_node k class.Isolated zero u h = let e = same_Some _ u h in
    (sym (ap (λ (z : Place). z.node) e), (λ t. has_kind (kinds_of class.Isolated) (sym e t).kind), omega arith)
own_node k class.Isolated (suc zero) u h = let e = same_Some _ u h in
    (sym (ap (λ (z : Place). z.node) e), (λ t. has_kind (kinds_of class.Isolated) (sym e t).kind), omega arith)
own_node k class.Isolated (suc (suc i)) u h = absurd (cc)

-- two of them are of two kinds
two_kinds : (a b : Kind) (k : ℕ) (u : Place) (xs : List Place) (i j : ℕ) → (a ≡ b → ⊥) → i < 2 → j < 2 →
    slice_get (place k a ∷ place k b ∷ xs) i ≡ Some u → slice_get (place k a ∷ place k b ∷ xs) j ≡ Some u → i ≡ j
two_kinds a b k u xs zero zero other l m h g = refl
two_kinds a b k u xs zero (suc zero) other l m h g =
    absurd (other (ap (λ (z : Place). z.kind) (same_Some (place k a) u h ∙ sym (same_Some (place k b) u g))))
two_kinds a b k u xs zero (suc (suc j)) other l m h g = absurd (omega (arith, m))
two_kinds a b k u xs (suc zero) zero other l m h g =
    absurd (other (ap (λ (z : Place). z.kind) (same_Some (place k a) u g ∙ sym (same_Some (place k b) u h))))
two_kinds a b k u xs (suc zero) (suc zero) other l m h g = refl
two_kinds a b k u xs (suc zero) (suc (suc j)) other l m h g = absurd (omega (arith, m))
two_kinds a b k u xs (suc (suc i)) j other l m h g = absurd (omega (arith, l))

one_kind : (a : Kind) (k : ℕ) (u : Place) (i j : ℕ) → slice_get (place k a ∷ []) i ≡ Some u → slice_get (place k a ∷ []) j ≡ Some u → i ≡ j
one_kind a k u zero zero h g = refl
one_kind a k u zero (suc j) h g = absurd (cc)
one_kind a k u (suc i) j h g = absurd (cc)

own_once : (k : ℕ) (c : Class) (i j : ℕ) (u : Place) → slice_get (own_events k c) i ≡ Some u → slice_get (own_events k c) j ≡ Some u → i ≡ j
own_once k class.Object i j u h g = absurd (cc)
own_once k class.Constant i j u h g = absurd (cc)
own_once k class.Plain i j u h g = one_kind Val k u i j h g
own_once k class.Store i j u h g = two_kinds Val Eff k u [] i j (λ e. absurd (cc)) (own_node k class.Store i u h).2 (own_node k class.Store j u g).2 h g
own_once k class.Update i j u h g = two_kinds Val Eff k u [] i j (λ e. absurd (cc)) (own_node k class.Update i u h).2 (own_node k class.Update j u g).2 h g
own_once k class.Choice i j u h g = one_kind Val k u i j h g
own_once k class.Comma i j u h g = one_kind Val k u i j h g
own_once k class.Call i j u h g = two_kinds Body Val k u [] i j (λ e. absurd (cc)) (own_node k class.Call i u h).2 (own_node k class.Call j u g).2 h g
own_once k class.Isolated i j u h g =
    two_kinds Body Val k u [] i j (λ e. absurd (cc)) (own_node k class.Isolated i u h).2 (own_node k class.Isolated j u g).2 h g

-- ---- those of a tree
module _ (taken : Taken) where
  abbrev listed : Class → Option ℕ → ℕ → ℕ → Tree → List Place
  listed c choice i m t = if goes c choice i then events taken m t else []

  going : (c : Class) (choice : Option ℕ) (i m : ℕ) (t : Tree) (p : ℕ) (u : Place) → slice_get (listed c choice i m t) p ≡ Some u →
      (goes c choice i ≡ true) × (slice_get (events taken m t) p ≡ Some u)
  going c choice i m t p u h = by_test (goes c choice i)
      (λ e. (e, ap (λ xs. slice_get xs p) (sym (if_true _ _ _ e)) ∙ h))
      (λ e. absurd (let z : None ≡ Some u = ap (λ xs. slice_get xs p) (sym (if_false _ _ _ e)) ∙ h in cc))

  mutual
    tree_range : (k : ℕ) (t : Tree) (i : ℕ) (u : Place) → slice_get (events taken k t) i ≡ Some u → (k ≤ u.node) × (u.node < k + size t)
    tree_range k (node c ts) i u h =
        elim (part (operand_events taken c (taken k) 0 (suc k) ts) (own_events k c) i u h) [
          | left g less ↦ let r = trees_range c (taken k) 0 (suc k) ts i u g in let x = r.0 in let y = r.1 in (omega (arith, x), omega (arith, y))
          | right past g ↦ let r = (own_node k c _ u g).0 in (omega (arith, r), omega (arith, r))
        ]

    trees_range : (c : Class) (choice : Option ℕ) (i m : ℕ) (ts : Trees) (p : ℕ) (u : Place) →
        slice_get (operand_events taken c choice i m ts) p ≡ Some u → (m ≤ u.node) × (u.node < m + sizes ts)
    trees_range c choice i m none p u h = absurd (cc)
    trees_range c choice i m (more t ts) p u h =
        elim (part (listed c choice i m t) (operand_events taken c choice (suc i) (m + size t) ts) p u h) [
          | left g less ↦ let r = tree_range m t p u (going c choice i m t p u g).1 in let x = r.0 in let y = r.1 in (x, omega (arith, y))
          | right past g ↦ let r = trees_range c choice (suc i) (m + size t) ts _ u g in let x = r.0 in let y = r.1 in (omega (arith, x), omega (arith, y))
        ]

  mutual
    tree_due : (k : ℕ) (t : Tree) (i : ℕ) (u : Place) → slice_get (events taken k t) i ≡ Some u → due_in taken k t u ≡ true
    tree_due k (node c ts) i u h =
        elim (part (operand_events taken c (taken k) 0 (suc k) ts) (own_events k c) i u h) [
          | left g less ↦ let r = (trees_range c (taken k) 0 (suc k) ts i u g).0 in
              if_false _ _ _ (number_other u.node k (λ e. omega (arith, e, r))) ∙ trees_due c (taken k) 0 (suc k) ts i u g
          | right past g ↦ let r = own_node k c _ u g in if_true _ _ _ (number_equal u.node k r.0) ∙ r.1
        ]

    trees_due : (c : Class) (choice : Option ℕ) (i m : ℕ) (ts : Trees) (p : ℕ) (u : Place) →
        slice_get (operand_events taken c choice i m ts) p ≡ Some u → due_among taken c choice i m ts u ≡ true
    trees_due c choice i m none p u h = absurd (cc)
    trees_due c choice i m (more t ts) p u h =
        elim (part (listed c choice i m t) (operand_events taken c choice (suc i) (m + size t) ts) p u h) [
          | left g less ↦ let w = going c choice i m t p u g in let r = (tree_range m t p u w.1).1 in
              if_true _ _ _ (less_test u.node (m + size t) r) ∙ and_both _ _ w.0 (tree_due m t p u w.1)
          | right past g ↦ let r = (trees_range c choice (suc i) (m + size t) ts _ u g).0 in
              if_false _ _ _ (not_less_test u.node (m + size t) r) ∙ trees_due c choice (suc i) (m + size t) ts _ u g
        ]

  -- two places of one node stand side by side, and two of one event are one
  abbrev Near : List Place → Type 0
  Near xs = (i j : ℕ) (u v : Place) → slice_get xs i ≡ Some u → slice_get xs j ≡ Some v → u.node ≡ v.node → (i ≤ suc j) × (u ≡ v → i ≡ j)

  mutual
    tree_near : (k : ℕ) (t : Tree) → Near (events taken k t)
    tree_near k (node c ts) i j u v h g same =
        elim (part (operand_events taken c (taken k) 0 (suc k) ts) (own_events k c) i u h) [
          | left a less ↦ elim (part (operand_events taken c (taken k) 0 (suc k) ts) (own_events k c) j v g) [
            | left b lesser ↦ trees_near c (taken k) 0 (suc k) ts i j u v a b same
            | right past b ↦ absurd (let x = (trees_range c (taken k) 0 (suc k) ts i u a).0 in let y = (own_node k c _ v b).0 in omega (arith, x, y, same))
          ]
          | right past a ↦ elim (part (operand_events taken c (taken k) 0 (suc k) ts) (own_events k c) j v g) [
            | left b lesser ↦ absurd (let x = (trees_range c (taken k) 0 (suc k) ts j v b).0 in let y = (own_node k c _ u a).0 in omega (arith, x, y, same))
            | right behind b ↦ own_near past behind a b
          ]
        ]
      where
        own_near : length (operand_events taken c (taken k) 0 (suc k) ts) ≤ i → length (operand_events taken c (taken k) 0 (suc k) ts) ≤ j →
            slice_get (own_events k c) (i - length (operand_events taken c (taken k) 0 (suc k) ts)) ≡ Some u →
            slice_get (own_events k c) (j - length (operand_events taken c (taken k) 0 (suc k) ts)) ≡ Some v → (i ≤ suc j) × (u ≡ v → i ≡ j)
        own_near past behind a b =
            let x = (own_node k c _ u a).2 in
            let y = (own_node k c _ v b).2 in (
              omega (arith, x, y, past, behind),
              λ e. let z = own_once k c _ _ v (a ∙ ap Some e) b in omega (arith, z, past, behind),
            )

    trees_near : (c : Class) (choice : Option ℕ) (i m : ℕ) (ts : Trees) → Near (operand_events taken c choice i m ts)
    trees_near c choice i m none p q u v h g same = absurd (cc)
    trees_near c choice i m (more t ts) p q u v h g same =
        elim (part (listed c choice i m t) (operand_events taken c choice (suc i) (m + size t) ts) p u h) [
          | left a less ↦ elim (part (listed c choice i m t) (operand_events taken c choice (suc i) (m + size t) ts) q v g) [
            | left b lesser ↦ tree_near m t p q u v (going c choice i m t p u a).1 (going c choice i m t q v b).1 same
            | right past b ↦ absurd (
                let x = (tree_range m t p u (going c choice i m t p u a).1).1 in
                let y = (trees_range c choice (suc i) (m + size t) ts _ v b).0 in omega (arith, x, y, same))
          ]
          | right past a ↦ elim (part (listed c choice i m t) (operand_events taken c choice (suc i) (m + size t) ts) q v g) [
            | left b lesser ↦ absurd (
                let x = (tree_range m t q v (going c choice i m t q v b).1).1 in
                let y = (trees_range c choice (suc i) (m + size t) ts _ u a).0 in omega (arith, x, y, same))
            | right behind b ↦ behind_near past behind (trees_near c choice (suc i) (m + size t) ts _ _ u v a b same)
          ]
        ]
      where
        behind_near : length (listed c choice i m t) ≤ p → length (listed c choice i m t) ≤ q →
            (p - length (listed c choice i m t) ≤ suc (q - length (listed c choice i m t))) ×
            (u ≡ v → p - length (listed c choice i m t) ≡ q - length (listed c choice i m t)) → (p ≤ suc q) × (u ≡ v → p ≡ q)
        behind_near past behind r =
            let x = r.0 in (
              omega (arith, x, past, behind),
              λ e. let z = r.1 e in omega (arith, z, past, behind),
            )

pub listings_tell : ListingsTell
listings_tell t begins = (
  λ i j d e at_i at_j same.
      (tree_near t.scope.taken 0 t.scope.tree i j d.place e.place (begins i d at_i) (begins j e at_j) (ap (λ (z : Place). z.node) same)).1 same,
  λ u next. tree_due t.scope.taken 0 t.scope.tree (length t.done) u next,
  λ n ends i e at here.
      let r = (tree_near t.scope.taken 0 t.scope.tree (length t.done - 1) i ends.0.place e.place (begins (length t.done - 1) ends.0 ends.1) (begins i e at)
      (ends.2 ∙ sym here)).0 in
      let w = slice_get_within t.done i e at in
      omega (arith, r, w),
)
