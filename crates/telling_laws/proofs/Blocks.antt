-- The events of the nodes of one tree stand together in the listing.
use Rattle.std.proofs.Common.{◌≡◌, inl, inr, ⊎_elim, ℕ, suc, ◌+◌, ◌<◌, ◌≤◌, nat_lt, nat_le, ◌==◌, Bool, true, false, not, if◌then◌else◌}
use Rattle.std.proofs.Common.{List, [], ◌∷◌, ◌++◌, append_assoc, append-nil, Option, Some, refl, sym, ap, subst, ◌∙◌, true≢false, arith}
use Rattle.std.proofs.lemmas.Bool.Decides.{nat_tests}
use Rattle.std.proofs.lemmas.Option.{same_Some}
use Rattle.c_typed.specs.declared.tree.Place.{Place}
use Rattle.c_typed.specs.declared.class.Class.{Class}
use Rattle.c_typed.specs.Tree.{Tree, Trees, node, none, more, size, kinds_of}
use Rattle.c_typed.specs.Order.{Taken, goes, events, operand_events, own_events, has, same_place}
use Rattle.c_model.specs.Moments.{holds}
use Rattle.elaborate.proofs.Ranges.{has_cases, has_left, own_node, events_in, operands_in, eq_of, or_cases, if_has}
use Rattle.elaborate.proofs.Listed.{and_l, and_r}
use Rattle.completion_laws.proofs.Lists.{left, right, split, has_at, has_behind, out_of, within, outside, AreOutside}
use Rattle.completion_laws.proofs.Ahead.{by_test, if_true, if_false, operand}
use Rattle.run_evaluations.specs.Scopes.{part_in, part_among}
use Rattle.run_evaluations.proofs.PartLemmas.{not_less_is, part_range, among_range}

pub holds_is : (from to n : ℕ) → holds from to n ≡ true → (from ≤ n) × (n < to)
holds_is from to n h =
    let a = and_l (nat_le from n) _ h in
    let b = and_r (nat_le from n) _ h in
    (grind (arith, nat_tests, a), grind (arith, nat_tests, b))

-- between events of other nodes stand those of the nodes from one number up to another, of the tree of the node l
pub record Block (l from to : ℕ) (xs : List Place) : Type 0 where
  pub before : List Place
  pub inside : List Place
  pub behind : List Place
  pub all : xs ≡ before ++ (inside ++ behind)
  pub before_out : AreOutside l to before
  pub inside_in : (w : Place) → has inside w ≡ true → holds from to w.node ≡ true
  pub behind_out : AreOutside from to behind

-- ---- in a larger list
block_left : (l from to : ℕ) (xs ys : List Place) → Block l from to xs → AreOutside from to ys → Block l from to (xs ++ ys)
block_left l from to xs ys b out = record {
  before = b.before;
  inside = b.inside;
  behind = b.behind ++ ys;
  all = ap (λ z. z ++ ys) b.all ∙ (append_assoc b.before (b.inside ++ b.behind) ys ∙ ap (λ z. b.before ++ z) (append_assoc b.inside b.behind ys));
  before_out = b.before_out;
  inside_in = b.inside_in;
  behind_out = λ w h. ⊎_elim (b.behind_out w) (out w) (has_cases b.behind ys w h);
}

block_right : (l from to : ℕ) (xs ys : List Place) → AreOutside l to xs → Block l from to ys → Block l from to (xs ++ ys)
block_right l from to xs ys out b = record {
  before = xs ++ b.before;
  inside = b.inside;
  behind = b.behind;
  all = ap (λ z. xs ++ z) b.all ∙ sym (append_assoc xs b.before (b.inside ++ b.behind));
  before_out = λ w h. ⊎_elim (out w) (b.before_out w) (has_cases xs b.before w h);
  inside_in = b.inside_in;
  behind_out = b.behind_out;
}

block_none : (l from to : ℕ) → Block l from to []
block_none l from to = record {
  before = [];
  inside = [];
  behind = [];
  all = refl;
  before_out = λ w h. absurd (true≢false (sym h));
  inside_in = λ w h. absurd (true≢false (sym h));
  behind_out = λ w h. absurd (true≢false (sym h));
}

-- ---- in the listing of a tree
module _ (taken : Taken) (l from to : ℕ) (x : Tree) (low : l ≤ from) (high : to ≤ l + size x) (base : Block l from to (events taken l x)) where
  mutual
    pub block_tree : (t : Tree) (k : ℕ) → part_in k t l ≡ Some x → Block l from to (events taken k t)
    block_tree (node c ts) k h = by_test (l == k)
        (λ e. let q = same_Some (node c ts) x (sym (if_true _ _ _ e) ∙ h) in
        subst (λ z. Block l from to (events taken z (node c ts))) (eq_of l k e) (subst (λ z. Block l from to (events taken l z)) (sym q) base))
        (λ e. let g : part_among (suc k) ts l ≡ Some x = sym (if_false _ _ _ e) ∙ h in
        let r = (among_range (suc k) ts l x g).low in
        block_left l from to (operand_events taken c (taken k) 0 (suc k) ts) (own_events k c) (block_among c (taken k) ts 0 (suc k) g)
        (λ w own. let n = own_node (kinds_of c) k w own in out_of from to w.node (inl (omega (arith, n, r, low)))))

    block_among : (c : Class) (choice : Option ℕ) (ts : Trees) (i m : ℕ) → part_among m ts l ≡ Some x → Block l from to (operand_events taken c choice i m ts)
    block_among c choice none i m h = absurd (cc)
    block_among c choice (more t ts) i m h = by_test (nat_lt l (m + size t))
        (λ e. let g : part_in m t l ≡ Some x = sym (if_true _ _ _ e) ∙ h in
        let r = (part_range m t l x g).high in
        block_left l from to (operand taken c choice i m t) (operand_events taken c choice (suc i) (m + size t) ts)
        (if_going (goes c choice i) (events taken m t) (block_tree t m g))
        (λ w later. let n = (operands_in taken c choice ts (suc i) (m + size t) w later).0 in out_of from to w.node (inr (omega (arith, n, r, high)))))
        (λ e. let past = not_less_is l (m + size t) e in
        block_right l from to (operand taken c choice i m t) (operand_events taken c choice (suc i) (m + size t) ts)
        (λ w here. let n = (events_in taken t m w (if_has (goes c choice i) _ w here)).1 in out_of l to w.node (inl (omega (arith, n, past))))
        (block_among c choice ts (suc i) (m + size t) (sym (if_false _ _ _ e) ∙ h)))
      where
        if_going : (b : Bool) (us : List Place) → Block l from to us → Block l from to (if b then us else [])
        if_going true us z = z
        if_going false us z = block_none l from to

-- all of a node's tree, and all of its operands
pub tree_block : (taken : Taken) (root : Tree) (l : ℕ) (x : Tree) → part_in 0 root l ≡ Some x → Block l l (l + size x) (events taken 0 root)
tree_block taken root l x there = block_tree taken l l (l + size x) x (omega arith) (omega arith)
    (record {
      before = [];
      inside = events taken l x;
      behind = [];
      all = sym (append-nil (events taken l x));
      before_out = λ w h. absurd (true≢false (sym h));
      inside_in = λ w h. let r = events_in taken x l w h in within l (l + size x) w.node r.0 r.1;
      behind_out = λ w h. absurd (true≢false (sym h));
    }) root 0 there

pub operands_block : (taken : Taken) (root : Tree) (l : ℕ) (x : Tree) → part_in 0 root l ≡ Some x → Block l (suc l) (l + size x) (events taken 0 root)
operands_block taken root l x there = block_tree taken l (suc l) (l + size x) x (omega arith) (omega arith) (of_node x) root 0 there
  where
    of_node : (t : Tree) → Block l (suc l) (l + size t) (events taken l t)
    of_node (node c ts) = record {
      before = [];
      inside = operand_events taken c (taken l) 0 (suc l) ts;
      behind = own_events l c;
      all = refl;
      before_out = λ w h. absurd (true≢false (sym h));
      inside_in = λ w h. let r = operands_in taken c (taken l) ts 0 (suc l) w h in
          let a = r.0 in
          let b = r.1 in
          within (suc l) (l + size (node c ts)) w.node a (omega (arith, b));
      behind_out = λ w h. let n = own_node (kinds_of c) l w h in out_of (suc l) (l + size (node c ts)) w.node (inl (omega (arith, n)));
    }

-- ---- what follows from it
module _ (l from to : ℕ) (xs : List Place) (b : Block l from to xs) (low : l ≤ from) where
  narrower : (n : ℕ) → holds l to n ≡ false → holds from to n ≡ false
  narrower n h = by_test (holds from to n)
      (λ e. let r = holds_is from to n e in let a = r.0 in absurd (true≢false (sym (within l to n (omega (arith, a, low)) r.1) ∙ h)))
      (λ e. e)

  -- behind one of these events and another one none of them comes
  pub none_behind : (us vs : List Place) (x z : Place) → xs ≡ us ++ z ∷ vs → has us x ≡ true → holds from to x.node ≡ true →
      holds from to z.node ≡ false → AreOutside from to vs
  none_behind us vs x z listed done in_it out = elim (split b.before (b.inside ++ b.behind) us vs z (sym b.all ∙ listed)) [
    | left rest a c ↦ absurd (true≢false (sym in_it ∙ narrower x.node (b.before_out x (ap (λ q. has q x) a ∙ has_left us (z ∷ rest) x done))))
    | right first a c ↦ (elim (split b.inside b.behind first vs z c) [
      | left rest d e ↦ absurd (true≢false (sym (b.inside_in z (ap (λ q. has q z) d ∙ has_at first rest z)) ∙ out))
      | right second d e ↦ (λ w h. b.behind_out w (ap (λ q. has q w) e ∙ has_behind second z vs w h))
    ])
  ]

  -- nor is one of the node itself before one of its operands'
  pub none_before : (us vs : List Place) (x z : Place) → xs ≡ us ++ z ∷ vs → has us x ≡ true → holds l to x.node ≡ true →
      holds from to x.node ≡ false → holds from to z.node ≡ true → ⊥
  none_before us vs x z listed done in_tree own in_it = elim (split b.before (b.inside ++ b.behind) us vs z (sym b.all ∙ listed)) [
    | left rest a c ↦ true≢false (sym in_it ∙ narrower z.node (b.before_out z (ap (λ q. has q z) a ∙ has_at us rest z)))
    | right first a c ↦ (elim (split b.inside b.behind first vs z c) [
      | left rest d e ↦ ⊎_elim
          (λ h. true≢false (sym in_tree ∙ b.before_out x h))
          (λ h. true≢false (sym (b.inside_in x (ap (λ q. has q x) d ∙ has_left first (z ∷ rest) x h)) ∙ own))
          (has_cases b.before first x (ap (λ q. has q x) (sym a) ∙ done))
      | right second d e ↦ true≢false (sym in_it ∙ b.behind_out z (ap (λ q. has q z) e ∙ has_at second vs z))
    ])
  ]

-- each of a list that stands outside does
pub outside_each : (from to : ℕ) (us : List Place) → outside from to us ≡ true → AreOutside from to us
outside_each from to [] h w g = absurd (true≢false (sym g))
outside_each from to (u ∷ us) h w g =
    ⊎_elim
    (λ e. subst (λ z. holds from to z ≡ false) (sym (eq_of w.node u.node (and_l (w.node == u.node) _ e)))
    (not_not (holds from to u.node) (and_l (not (holds from to u.node)) _ h)))
    (outside_each from to us (and_r (not (holds from to u.node)) _ h) w)
    (or_cases (same_place w u) (has us w) g)
  where
    not_not : (b : Bool) → not b ≡ true → b ≡ false
    not_not true q = absurd (true≢false (sym q))
    not_not false q = refl
