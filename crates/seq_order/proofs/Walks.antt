-- A walk over a node's events: operand by operand, and then the node's own.
use Rattle.std.proofs.Common.{
  ◌≡◌,
  ℕ,
  zero,
  suc,
  ◌+◌,
  ◌-◌,
  ◌^◌,
  ◌<◌,
  ◌≤◌,
  min,
  Bool,
  true,
  false,
  not,
  ◌&&◌,
  ◌||◌,
  if◌then◌else◌,
  List,
  [],
  ◌∷◌,
  ◌++◌,
  length,
  drop,
  get_or,
  Option,
  Some,
  None,
  Result,
  Ok,
  Err,
  is_ok,
  refl,
  sym,
  ap,
  subst,
  ◌∙◌,
  true≢false,
  arith,
}
use Rattle.c_typed.specs.declared.tree.Place.{Place}
use Rattle.c_typed.specs.declared.tree.Typed.{Typed}
use Rattle.c_typed.specs.declared.class.Class.{Class}
use Rattle.c_typed.specs.Tree.{Tree, node, Trees, none, more, tree_of, trees_of, size, sizes, class_of, operands}
use Rattle.c_typed.specs.Order.{Taken, goes, own_events, events, operand_events}
use Rattle.c_typed.specs.Decide.{is_before, earlier_done, first_place}
use Rattle.seq_order.specs.Walks.{walked, events_if, hinders, is_free}

abbrev pub or_else : Option Place → Option Place → Option Place
or_else None o = o
or_else (Some u) o = Some u

pub first_append : (test : Place → Bool) (us vs : List Place) → first_place test (us ++ vs) ≡ or_else (first_place test us) (first_place test vs)
first_append test [] vs = refl
first_append test (u ∷ us) vs = step (test u) (first_append test us vs)
  where
    step : (b : Bool) → first_place test (us ++ vs) ≡ or_else (first_place test us) (first_place test vs)
        → (if b then Some u else first_place test (us ++ vs)) ≡ or_else (if b then Some u else first_place test us) (first_place test vs)
    step true e = refl
    step false e = e

-- the listing from an operand on: its numbers, and what is found there is what is found at all
pub record Walking (test : Place → Bool) (taken : Taken) (k : ℕ) (tree : Tree) (i number : ℕ) (ts : Trees) : Type 0 where
  pub room : number + sizes ts ≡ k + size tree
  pub rest : first_place test (operand_events taken (class_of tree) (taken k) i number ts) ≡ first_place test
      (operand_events taken (class_of tree) (taken k) 0 (suc k) (operands tree))

pub dropped : (cs : List Typed) (i : ℕ) (x : Typed) → i < length cs → x ≡ get_or cs i x → trees_of (drop i cs) ≡ more (tree_of x) (trees_of (drop (suc i) cs))
dropped [] i x h e = absurd (omega (arith, h))
dropped (c ∷ cs) zero x h e = ap (λ z. more (tree_of z) (trees_of cs)) (sym e)
dropped (c ∷ cs) (suc i) x h e = dropped cs i x (omega (arith, h)) e

pub dropped_all : (cs : List Typed) (i : ℕ) → length cs ≤ i → trees_of (drop i cs) ≡ none
dropped_all [] zero h = refl
dropped_all [] (suc i) h = refl
dropped_all (c ∷ cs) zero h = absurd (omega (arith, h))
dropped_all (c ∷ cs) (suc i) h = dropped_all cs i (omega (arith, h))

pub past : (k n number : ℕ) → k + n < 2 ^ 32 → number ≡ min (k + min n (2 ^ 32 - 1)) (2 ^ 32 - 1) → number ≡ k + n
past k n number h e = omega (arith, h, e)

module _ (test : Place → Bool) (taken : Taken) (k : ℕ) where
  pub begin : (tree : Tree) (number : ℕ) (ts : Trees) → k + size tree < 2 ^ 32 → number ≡ min (k + 1) (2 ^ 32 - 1) → ts ≡ operands tree →
      Walking test taken k tree 0 number ts
  begin (node class us) number ts h e q =
      let n : number ≡ suc k = omega (arith, h, e) in
      let s = ap sizes q in
      record {
        room = omega (arith, n, s);
        rest = ap (λ z. first_place test (operand_events taken class (taken k) 0 z ts)) n ∙ ap
            (λ z. first_place test (operand_events taken class (taken k) 0 (suc k) z)) q;
      }

  step_none : (number c next : ℕ) (o : Option Place) → Ok next ≡ walked (number + c) o → (next ≡ number + c) × (o ≡ None)
  step_none number c next None h = (cc, refl)
  step_none number c next (Some u) h = absurd (cc)

  step_some : (n m : ℕ) (u : Place) (o : Option Place) → Err u ≡ walked n o → o ≡ Some u
  step_some n m u None h = absurd (cc)
  step_some n m u (Some v) h = cc

  pub advance : (tree t : Tree) (i number next : ℕ) (ts : Trees) → Walking test taken k tree i number (more t ts)
      → Ok next ≡ walked (number + size t) (first_place test (events_if (goes (class_of tree) (taken k) i) taken number t))
      → Walking test taken k tree (suc i) next ts
  advance tree t i number next ts w h =
      let s = step_none number (size t) next (first_place test (events_if (goes (class_of tree) (taken k) i) taken number t)) h in
      let n : next ≡ number + size t = s.0 in
      let r = w.room in
      record {
        room = omega (arith, n, r);
        rest =
            ap (λ z. first_place test (operand_events taken (class_of tree) (taken k) (suc i) z ts)) n
            ∙ (sym (first_append test (events_if (goes (class_of tree) (taken k) i) taken number t)
            (operand_events taken (class_of tree) (taken k) (suc i) (number + size t) ts)
            ∙ ap (λ z. or_else z (first_place test (operand_events taken (class_of tree) (taken k) (suc i) (number + size t) ts))) s.1)
            ∙ w.rest);
      }

  whole : (tree : Tree) → first_place test
      (events taken k tree) ≡ or_else (first_place test (operand_events taken (class_of tree) (taken k) 0 (suc k) (operands tree)))
      (first_place test (own_events k (class_of tree)))
  whole (node class ts) = first_append test (operand_events taken class (taken k) 0 (suc k) ts) (own_events k class)

  pub halt : (tree t : Tree) (i number : ℕ) (u : Place) (ts : Trees) → Walking test taken k tree i number (more t ts)
      → Err u ≡ walked (number + size t) (first_place test (events_if (goes (class_of tree) (taken k) i) taken number t))
      → Err u ≡ walked (k + size tree) (first_place test (events taken k tree))
  halt tree t i number u ts w h =
      let s = step_some (number + size t) 0 u (first_place test (events_if (goes (class_of tree) (taken k) i) taken number t)) h in
      let rest = operand_events taken (class_of tree) (taken k) (suc i) (number + size t) ts in
      let f : first_place test (operand_events taken (class_of tree) (taken k) 0 (suc k) (operands tree)) ≡ Some u =
      sym w.rest ∙ (first_append test (events_if (goes (class_of tree) (taken k) i) taken number t) rest ∙ ap (λ z. or_else z (first_place test rest)) s) in
      sym (ap (walked (k + size tree)) (whole tree ∙ ap (λ z. or_else z (first_place test (own_events k (class_of tree)))) f))

  all_past : (tree : Tree) (i number : ℕ) (ts : Trees) → ts ≡ none → Walking test taken k tree i number ts →
      first_place test (events taken k tree) ≡ first_place test (own_events k (class_of tree))
  all_past tree i number ts e w =
      whole tree ∙ ap (λ z. or_else z (first_place test (own_events k (class_of tree))))
      (sym w.rest ∙ ap (λ z. first_place test (operand_events taken (class_of tree) (taken k) i number z)) e)

  pub finish_some : (tree : Tree) (i number : ℕ) (u : Place) (ts : Trees) → ts ≡ none → Walking test taken k tree i number ts →
      Some u ≡ first_place test (own_events k (class_of tree))
      → Err u ≡ walked (k + size tree) (first_place test (events taken k tree))
  finish_some tree i number u ts e w h = sym (ap (walked (k + size tree)) (all_past tree i number ts e w ∙ sym h))

  pub finish_none : (tree : Tree) (i number : ℕ) (ts : Trees) → ts ≡ none → Walking test taken k tree i number ts →
      None ≡ first_place test (own_events k (class_of tree))
      → Ok number ≡ walked (k + size tree) (first_place test (events taken k tree))
  finish_none tree i number ts e w h =
      let r = w.room in
      let s = ap sizes e in
      let n : number ≡ k + size tree = omega (arith, r, s) in
      ap (λ z. Ok z) n ∙ sym (ap (walked (k + size tree)) (all_past tree i number ts e w ∙ sym h))

  -- where the tree is evaluated
  pub if_evaluated : (evaluated : Bool) (tree : Tree) (r : Result ℕ Place) → evaluated ≡ true →
      r ≡ walked (k + size tree) (first_place test (events taken k tree))
      → r ≡ walked (k + size tree) (first_place test (events_if evaluated taken k tree))
  if_evaluated true tree r e h = h
  if_evaluated false tree r e h = absurd (true≢false (sym e))

  pub not_evaluated : (evaluated : Bool) (tree : Tree) (number : ℕ) → evaluated ≡ false → number ≡ k + size tree
      → Ok number ≡ walked (k + size tree) (first_place test (events_if evaluated taken k tree))
  not_evaluated false tree number e h = ap (λ z. Ok z) h
  not_evaluated true tree number e h = absurd (true≢false e)

  module _ (tree : Tree) (xs : List Typed) (i number : ℕ) (class : Class) (room : k + size tree < 2 ^ 32)
      (w : Walking test taken k tree i number (trees_of (drop i xs))) (same : class ≡ class_of tree) where
    module _ (x : Typed) (choice : Option ℕ) (chosen : choice ≡ taken k) (within : i < length xs) (is : x ≡ get_or xs i x) (r : Result ℕ Place) (g : Bool)
        (goes_on : g ≡ goes class choice i)
        (found : number + size (tree_of x) < 2 ^ 32 → r ≡ walked (number + size (tree_of x)) (first_place test (events_if g taken number (tree_of x)))) where
      at : Walking test taken k tree i number (more (tree_of x) (trees_of (drop (suc i) xs)))
      at = subst (λ z. Walking test taken k tree i number z) (dropped xs i x within is) w

      result : r ≡ walked (number + size (tree_of x)) (first_place test (events_if (goes (class_of tree) (taken k) i) taken number (tree_of x)))
      result =
          let q = at.room in
          found (omega (arith, q, room))
          ∙ ap (λ z. walked (number + size (tree_of x)) (first_place test (events_if z taken number (tree_of x))))
          (goes_on ∙ (ap (λ z. goes z choice i) same ∙ ap (λ z. goes (class_of tree) z i) chosen))

      pub advance_at : (next : ℕ) → r ≡ Ok next → Walking test taken k tree (i + 1) next (trees_of (drop (i + 1) xs))
      advance_at next e =
          subst (λ z. Walking test taken k tree z next (trees_of (drop z xs))) (omega arith)
          (advance tree (tree_of x) i number next (trees_of (drop (suc i) xs)) at (sym e ∙ result))

      pub halt_at : (evaluated : Bool) (u : Place) → evaluated ≡ true → r ≡ Err u →
          Err u ≡ walked (k + size tree) (first_place test (events_if evaluated taken k tree))
      halt_at evaluated u f e = if_evaluated evaluated tree (Err u) f (halt tree (tree_of x) i number u (trees_of (drop (suc i) xs)) at (sym e ∙ result))

    pub finish_some_at : (evaluated : Bool) (u : Place) → evaluated ≡ true → length xs ≤ i → Some u ≡ first_place test (own_events k class) →
        Err u ≡ walked (k + size tree) (first_place test (events_if evaluated taken k tree))
    finish_some_at evaluated u g h e =
        if_evaluated evaluated tree (Err u) g (finish_some tree i number u (trees_of (drop i xs)) (dropped_all xs i h) w
        (e ∙ ap (λ z. first_place test (own_events k z)) same))

    pub finish_none_at : (evaluated : Bool) → evaluated ≡ true → length xs ≤ i → None ≡ first_place test (own_events k class) →
        Ok number ≡ walked (k + size tree) (first_place test (events_if evaluated taken k tree))
    finish_none_at evaluated g h e =
        if_evaluated evaluated tree (Ok number) g
        (finish_none tree i number (trees_of (drop i xs)) (dropped_all xs i h) w (e ∙ ap (λ z. first_place test (own_events k z)) same))

-- no event hinders u exactly where each that comes before it is done
pub unhindered : (root : Tree) (taken : Taken) (done : Place → Bool) (u : Place) (n : ℕ) (vs : List Place) →
    is_ok (walked n (first_place (hinders root taken done u) vs)) ≡ earlier_done root taken done u vs
unhindered root taken done u n [] = refl
unhindered root taken done u n (v ∷ vs) = step (done v) (is_before taken 0 root v u) (unhindered root taken done u n vs)
  where
    step : (d b : Bool) → is_ok (walked n (first_place (hinders root taken done u) vs)) ≡ earlier_done root taken done u vs
        → is_ok (walked n (if not d && b then Some v else first_place (hinders root taken done u) vs)) ≡ ((d || not b) && earlier_done root taken done u vs)
    step true b e = e
    step false true e = refl
    step false false e = e

pub free_where : (root : Tree) (taken : Taken) (done : Place → Bool) (u : Place) (n : ℕ) (b : Bool) (r : Result ℕ Place) → done u ≡ false → b ≡ is_ok r
    → r ≡ walked n (first_place (hinders root taken done u) (events taken 0 root)) → b ≡ is_free root taken done u
free_where root taken done u n b r d e h =
    e ∙ (ap is_ok h ∙ (unhindered root taken done u n (events taken 0 root) ∙ ap (λ z. not z && earlier_done root taken done u (events taken 0 root)) (sym d)))
