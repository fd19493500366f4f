-- What is complete once an event of the canonical listing is done.
use Rattle.std.proofs.Common.{
  ◌≡◌,
  ℕ,
  suc,
  Bool,
  true,
  false,
  not,
  ◌||◌,
  ◌&&◌,
  if◌then◌else◌,
  List,
  [],
  ◌∷◌,
  ◌++◌,
  append_assoc,
  Option,
  Some,
  None,
  refl,
  sym,
  ap,
  ◌∙◌,
  true≢false,
}
use Rattle.std.specs.List.{list_all}
use Rattle.c_typed.specs.declared.tree.Place.{Place}
use Rattle.c_typed.specs.Tree.{Tree}
use Rattle.c_typed.specs.Order.{Taken, events, has, same_place}
use Rattle.elaborate.specs.Formed.{is_formed}
use Rattle.elaborate.proofs.Ranges.{or_a, or_b, has_itself, has_left}
use Rattle.c_model.specs.Completions.{Completed, Incomplete, Own_node, Operands_of, parent_in, end_of, has_operands}
use Rattle.c_model.specs.Moments.{holds, complete}
use Rattle.c_model.proofs.Listed.{listed_once}
use Rattle.completion_laws.specs.Completed.{comes_next, with_above, CompletesByNext}
use Rattle.completion_laws.proofs.Lists.{outside, and_both}
use Rattle.completion_laws.proofs.Ahead.{node_ahead, by_test}
use Rattle.completion_laws.proofs.Above.{node_above}

-- ---- of the listing all but what is ahead is done
not_true : (b : Bool) → (b ≡ true → ⊥) → b ≡ false
not_true true f = absurd (f refl)
not_true false f = refl

done_part : (done test : Place → Bool) (us : List Place) → ((w : Place) → has us w ≡ true → done w ≡ true) → list_all (λ w. done w || test w) us ≡ true
done_part done test [] f = refl
done_part done test (u ∷ us) f =
    and_both _ _ (or_a _ _ (f u (has_itself u us))) (done_part done test us (λ w h. f w (or_b (same_place w u) _ h)))

all_both : (test : Place → Bool) (us vs : List Place) → list_all test us ≡ true → list_all test (us ++ vs) ≡ list_all test vs
all_both test [] vs h = refl
all_both test (u ∷ us) vs h = by_test (test u)
    (λ e. ap (λ z. z && list_all test (us ++ vs)) e ∙ all_both test us vs (sym (ap (λ z. z && list_all test us) e) ∙ h))
    (λ e. absurd (true≢false (sym h ∙ ap (λ z. z && list_all test us) e)))

or_of : (a b : Bool) → a ≡ false → (a || b) ≡ b
or_of false b h = refl
or_of true b h = absurd (true≢false h)

-- what is ahead isn't
ahead_part : (root : Tree) (taken : Taken) (done : List Place) (test : Place → Bool) (us vs : List Place) → events taken 0 root ≡ us ++ vs
    → ((w : Place) → has done w ≡ true → has us w ≡ true) → list_all (λ w. has done w || test w) vs ≡ list_all test vs
ahead_part root taken done test us [] h f = refl
ahead_part root taken done test us (v ∷ vs) h f =
    let left : has done v ≡ false = not_true (has done v) (λ d. true≢false (sym (f v d) ∙ listed_once root taken us vs v h)) in
    ap (λ z. z && list_all (λ w. has done w || test w) vs) (or_of (has done v) (test v) left)
    ∙ ap (λ z. test v && z) (ahead_part root taken done test (us ++ v ∷ []) vs (h ∙ sym (append_assoc us (v ∷ []) vs)) (λ w d. has_left us (v ∷ []) w (f w d)))

module _ (root : Tree) (taken : Taken) (passed ahead : List Place) (u : Place) (listed : events taken 0 root ≡ passed ++ u ∷ ahead) where
  listed_so : events taken 0 root ≡ (passed ++ u ∷ []) ++ ahead
  listed_so = listed ∙ sym (append_assoc passed (u ∷ []) ahead)

  pub complete_ahead : (from to : ℕ) → complete (events taken 0 root) (has (passed ++ u ∷ [])) from to ≡ outside from to ahead
  complete_ahead from to =
      ap (λ z. list_all (λ w. has (passed ++ u ∷ []) w || not (holds from to w.node)) z) listed_so
      ∙ (all_both (λ w. has (passed ++ u ∷ []) w || not (holds from to w.node)) (passed ++ u ∷ []) ahead
      (done_part (has (passed ++ u ∷ [])) (λ w. not (holds from to w.node)) (passed ++ u ∷ []) (λ w h. h))
      ∙ ahead_part root taken (passed ++ u ∷ []) (λ w. not (holds from to w.node)) (passed ++ u ∷ []) ahead listed_so (λ w h. h))

-- ---- all together
if_same : {A : Type 0} (b c : Bool) (p q : A) → b ≡ c → (if b then p else q) ≡ (if c then p else q)
if_same b c p q h = ap (λ z. if z then p else q) h

pub if_not : {A : Type 0} (b : Bool) (p q : A) → (if not b then p else q) ≡ (if b then q else p)
if_not true p q = refl
if_not false p q = refl

abbrev above_of : Tree → Taken → (Place → Bool) → Option ℕ → Completed
above_of root taken held None = Own_node
above_of root taken held (Some p) = if has_operands root taken held p then Operands_of p else Own_node

above_same : (root : Tree) (taken : Taken) (passed ahead : List Place) (u : Place) → is_formed root ≡ true → events taken 0 root ≡ passed ++ u ∷ ahead
    → (o : Option ℕ) → parent_in 0 root u.node ≡ o → above_of root taken (has (passed ++ u ∷ [])) o ≡ with_above o ahead
above_same root taken passed ahead u formed h None is = refl
above_same root taken passed ahead u formed h (Some p) is =
    if_same _ _ (Operands_of p) Own_node
    (complete_ahead root taken passed ahead u h (suc p) (end_of root p) ∙ node_above taken root 0 passed ahead u p formed h is)

pub completes_by_next : CompletesByNext
completes_by_next root taken passed ahead u formed h =
    if_same _ _ _ Incomplete (complete_ahead root taken passed ahead u h u.node (end_of root u.node) ∙ node_ahead taken root 0 passed ahead u h)
    ∙ (if_not (comes_next u.node ahead) _ Incomplete
    ∙ ap (λ z. if comes_next u.node ahead then Incomplete else z) (by_parent (parent_in 0 root u.node) refl))
  where
    by_parent : (o : Option ℕ) → parent_in 0 root u.node ≡ o → above_of root taken (has (passed ++ u ∷ [])) o ≡ with_above o ahead
    by_parent o is = above_same root taken passed ahead u formed h o is
