-- The definitions at the root of a tree and at the operand that holds a node.
use Rattle.std.proofs.Common.{◌≡◌, ℕ, suc, ◌+◌, ◌-◌, ◌^◌, ◌<◌, min, false, not, ◌&&◌, ◌||◌, ◌==◌, nat_lt, Option, Some, None, sym, ap, ◌∙◌, arith}
use Rattle.ub_base.proofs.Tests.{number_equal, number_other, if_true, if_false}
use Rattle.ub_base.specs.declared.clause.Kind.{Kind}
use Rattle.ub_base.specs.declared.clause.Kind.TheVariants.{Val}
use Rattle.c_typed.specs.declared.tree.Place.{Place}
use Rattle.c_typed.specs.Tree.{Tree, node, Trees, size, sizes, class_of, operands, is_quiet, kinds_of}
use Rattle.c_typed.specs.Order.{Taken, goes, across, is_body, is_val, own_rule}
use Rattle.c_typed.specs.Decide.{has_kind, due_in, lifts, is_before, rises, to_val}
use Rattle.seq_order.specs.declared.spot.Spot.{Spot}
use Rattle.seq_order.specs.Spots.{spot_among}
use Rattle.seq_order.proofs.Located.{
  nth,
  count,
  plain_among,
  plain,
  walk_of,
  walk_room,
  walk_due,
  lost_due,
  walk_rise,
  lost_rise,
  lost_left,
  lost_right,
  walk_same,
  walk_apart,
}

abbrev Spotted : ℕ → Trees → ℕ → Option Spot
Spotted k ts n = spot_among 0 (min (k + 1) (2 ^ 32 - 1)) ts n

start : (k : ℕ) (ts : Trees) (n : ℕ) → k + suc (sizes ts) < 2 ^ 32 → Spotted k ts n ≡ plain_among 0 (suc k) ts n
start k ts n h =
    let e : min (k + 1) (2 ^ 32 - 1) ≡ suc k = omega (arith, h) in
    ap (λ z. spot_among 0 z ts n) e ∙ plain ts 0 (suc k) n (omega (arith, h))

module _ (k : ℕ) where
  pub below_room : (tree x : Tree) (n : ℕ) (a : Spot) → k + size tree < 2 ^ 32 → Spotted k (operands tree) n ≡ Some a → nth (operands tree) a.index ≡ Some x →
      a.number + size x < 2 ^ 32
  below_room (node class ts) x n a h s e =
      let w = walk_of ts 0 (suc k) n a.index a x (sym (start k ts n h) ∙ s) (omega arith) e in
      let r = walk_room n a x 0 (suc k) ts w in
      omega (arith, r, h)

  module _ (taken : Taken) where
    pub own_due : (tree : Tree) (u : Place) → u.node ≡ k → due_in taken k tree u ≡ has_kind (kinds_of (class_of tree)) u.kind
    own_due (node class ts) u e = if_true _ _ _ (number_equal u.node k e)

    pub below_due : (tree x : Tree) (u : Place) (a : Spot) → k + size tree < 2 ^ 32 → (u.node ≡ k → ⊥) → Spotted k (operands tree) u.node ≡ Some a →
        nth (operands tree) a.index ≡ Some x
        → due_in taken k tree u ≡ (goes (class_of tree) (taken k) a.index && due_in taken a.number x u)
    below_due (node class ts) x u a h ne s e =
        if_false _ _ _ (number_other u.node k ne) ∙ walk_due taken class (taken k) u a x 0 (suc k) ts
        (walk_of ts 0 (suc k) u.node a.index a x (sym (start k ts u.node h) ∙ s) (omega arith) e)

    pub no_due : (tree : Tree) (u : Place) → k + size tree < 2 ^ 32 → (u.node ≡ k → ⊥) → Spotted k (operands tree) u.node ≡ None →
        due_in taken k tree u ≡ false
    no_due (node class ts) u h ne s = if_false _ _ _ (number_other u.node k ne) ∙ lost_due taken class (taken k) u ts 0 (suc k) (sym (start k ts u.node h) ∙ s)

    pub below_rise : (tree x : Tree) (u : Place) (kind : Kind) (a : Spot) → k + size tree < 2 ^ 32 → Spotted k (operands tree) u.node ≡ Some a →
        nth (operands tree) a.index ≡ Some x
        → rises taken (class_of tree) (taken k) 0 (suc k) (operands tree) u kind
        ≡ (lifts (class_of tree) (taken k) a.index (suc a.index == 0 + count (operands tree)) kind ||
        (not (is_body kind) && (not (is_quiet x) && to_val taken a.number x u)))
    below_rise (node class ts) x u kind a h s e =
        walk_rise taken class (taken k) u kind a x 0 (suc k) ts (walk_of ts 0 (suc k) u.node a.index a x (sym (start k ts u.node h) ∙ s) (omega arith) e)

    pub no_rise : (tree : Tree) (u : Place) (kind : Kind) → k + size tree < 2 ^ 32 → Spotted k (operands tree) u.node ≡ None →
        rises taken (class_of tree) (taken k) 0 (suc k) (operands tree) u kind ≡ false
    no_rise (node class ts) u kind h s = lost_rise taken class (taken k) u kind ts 0 (suc k) (sym (start k ts u.node h) ∙ s)

    pub own_val : (tree : Tree) (u : Place) → u.node ≡ k → to_val taken k tree u ≡ (is_val u.kind || own_rule (class_of tree) u.kind Val)
    own_val (node class ts) u e = if_true _ _ _ (number_equal u.node k e)

    pub below_val : (tree : Tree) (u : Place) → (u.node ≡ k → ⊥) → to_val taken k tree u ≡ rises taken (class_of tree) (taken k) 0 (suc k)
        (operands tree) u Val
    below_val (node class ts) u ne = if_false _ _ _ (number_other u.node k ne)

    pub own_before : (tree : Tree) (u v : Place) → u.node ≡ k → is_before taken k tree u v ≡ ((v.node == k) && own_rule (class_of tree) u.kind v.kind)
    own_before (node class ts) u v e = if_true _ _ _ (number_equal u.node k e)

    pub up_before : (tree : Tree) (u v : Place) → (u.node ≡ k → ⊥) → v.node ≡ k →
        is_before taken k tree u v ≡ rises taken (class_of tree) (taken k) 0 (suc k) (operands tree) u v.kind
    up_before (node class ts) u v ne e = if_false _ _ _ (number_other u.node k ne) ∙ if_true _ _ _ (number_equal v.node k e)

    pub no_before_left : (tree : Tree) (u v : Place) → k + size tree < 2 ^ 32 → (u.node ≡ k → ⊥) →
        (v.node ≡ k → ⊥) → Spotted k (operands tree) u.node ≡ None → is_before taken k tree u v ≡ false
    no_before_left (node class ts) u v h ne nf s =
        if_false _ _ _ (number_other u.node k ne) ∙
        (if_false _ _ _ (number_other v.node k nf) ∙ lost_left taken class (taken k) u v ts 0 (suc k) (sym (start k ts u.node h) ∙ s))

    pub no_before_right : (tree : Tree) (u v : Place) → k + size tree < 2 ^ 32 → (u.node ≡ k → ⊥) →
        (v.node ≡ k → ⊥) → Spotted k (operands tree) v.node ≡ None → is_before taken k tree u v ≡ false
    no_before_right (node class ts) u v h ne nf s =
        if_false _ _ _ (number_other u.node k ne) ∙
        (if_false _ _ _ (number_other v.node k nf) ∙ lost_right taken class (taken k) u v ts 0 (suc k) (sym (start k ts v.node h) ∙ s))

    pub same_before : (tree x : Tree) (u v : Place) (a b : Spot) → k + size tree < 2 ^ 32 → (u.node ≡ k → ⊥) →
        (v.node ≡ k → ⊥) → Spotted k (operands tree) u.node ≡ Some a → Spotted k (operands tree) v.node ≡ Some b
        → a.index ≡ b.index → nth (operands tree) a.index ≡ Some x → is_before taken k tree u v ≡ is_before taken a.number x u v
    same_before (node class ts) x u v a b h ne nf s p q e =
        if_false _ _ _ (number_other u.node k ne) ∙ (if_false _ _ _ (number_other v.node k nf)
        ∙ walk_same taken class (taken k) u v a b x 0 (suc k) ts
        (walk_of ts 0 (suc k) u.node a.index a x (sym (start k ts u.node h) ∙ s) (omega arith) e)
        (walk_of ts 0 (suc k) v.node b.index b x (sym (start k ts v.node h) ∙ p) (omega arith) (ap (nth ts) (sym q) ∙ e)) q)

    pub apart_before : (tree : Tree) (u v : Place) (a b : Spot) → k + size tree < 2 ^ 32 → (u.node ≡ k → ⊥) →
        (v.node ≡ k → ⊥) → Spotted k (operands tree) u.node ≡ Some a → Spotted k (operands tree) v.node ≡ Some b
        → (a.index ≡ b.index → ⊥) → is_before taken k tree u v ≡ (nat_lt a.index b.index && across (class_of tree) (taken k) a.index b.index)
    apart_before (node class ts) u v a b h ne nf s p q =
        if_false _ _ _ (number_other u.node k ne) ∙ (if_false _ _ _ (number_other v.node k nf)
        ∙ walk_apart taken class (taken k) u v a b ts 0 (suc k) (sym (start k ts u.node h) ∙ s) (sym (start k ts v.node h) ∙ p) q)
