-- The definitions at the root of a tree and at the operand that holds a node.
use Rattle.std.proofs.Common.{◌≡◌, ℕ, suc, ◌+◌, true, false, not, ◌&&◌, ◌||◌, ◌==◌, nat_lt, Option, ◌∙◌}
use Rattle.ub_base.proofs.Tests.{if_true, if_false}
use Rattle.ub_base.specs.declared.clause.Kind.{Kind}
use Rattle.ub_base.specs.declared.clause.Kind.TheVariants.{Val}
use Rattle.c_typed.specs.declared.tree.Place.{Place}
use Rattle.c_typed.specs.declared.class.Class.{Class}
use Rattle.c_typed.specs.Tree.{Tree, node, Trees, more, size, is_quiet, kinds_of}
use Rattle.c_typed.specs.Order.{Taken, goes, across, is_body, is_val, is_last, own_rule}
use Rattle.c_typed.specs.Decide.{has_kind, due_in, due_among, lifts, crosses, is_before, rises, to_val, between}
use Rattle.quiet_trees.specs.Loads.{Loads, LoadsList, is_load, below, first, rest}
use Rattle.quiet_trees.specs.Acts.{act_by, act_in, act_among}

pub act_own : (class : Class) (ts : Trees) (f : Loads) (k : ℕ) (u : Place) → (u.node == k) ≡ true →
    act_in k (node class ts) f u ≡ act_by class (is_load f) u.kind
act_own class ts f k u e = if_true _ _ _ e

pub act_below : (class : Class) (ts : Trees) (f : Loads) (k : ℕ) (u : Place) → (u.node == k) ≡ false →
    act_in k (node class ts) f u ≡ act_among (suc k) ts (below f) u
act_below class ts f k u e = if_false _ _ _ e

pub act_first : (t : Tree) (ts : Trees) (fs : LoadsList) (m : ℕ) (u : Place) → nat_lt u.node (m + size t) ≡ true →
    act_among m (more t ts) fs u ≡ act_in m t (first fs) u
act_first t ts fs m u e = if_true _ _ _ e

pub act_later : (t : Tree) (ts : Trees) (fs : LoadsList) (m : ℕ) (u : Place) → nat_lt u.node (m + size t) ≡ false →
    act_among m (more t ts) fs u ≡ act_among (m + size t) ts (rest fs) u
act_later t ts fs m u e = if_false _ _ _ e

module _ (taken : Taken) where
  pub due_own : (class : Class) (ts : Trees) (k : ℕ) (u : Place) → (u.node == k) ≡ true →
      due_in taken k (node class ts) u ≡ has_kind (kinds_of class) u.kind
  due_own class ts k u e = if_true _ _ _ e

  pub due_below : (class : Class) (ts : Trees) (k : ℕ) (u : Place) → (u.node == k) ≡ false →
      due_in taken k (node class ts) u ≡ due_among taken class (taken k) 0 (suc k) ts u
  due_below class ts k u e = if_false _ _ _ e

  pub val_own : (class : Class) (ts : Trees) (k : ℕ) (u : Place) → (u.node == k) ≡ true →
      to_val taken k (node class ts) u ≡ (is_val u.kind || own_rule class u.kind Val)
  val_own class ts k u e = if_true _ _ _ e

  pub val_below : (class : Class) (ts : Trees) (k : ℕ) (u : Place) → (u.node == k) ≡ false →
      to_val taken k (node class ts) u ≡ rises taken class (taken k) 0 (suc k) ts u Val
  val_below class ts k u e = if_false _ _ _ e

  pub before_own : (class : Class) (ts : Trees) (k : ℕ) (u v : Place) → (u.node == k) ≡ true →
      is_before taken k (node class ts) u v ≡ ((v.node == k) && own_rule class u.kind v.kind)
  before_own class ts k u v e = if_true _ _ _ e

  pub before_up : (class : Class) (ts : Trees) (k : ℕ) (u v : Place) → (u.node == k) ≡ false → (v.node == k) ≡ true →
      is_before taken k (node class ts) u v ≡ rises taken class (taken k) 0 (suc k) ts u v.kind
  before_up class ts k u v e f = if_false _ _ _ e ∙ if_true _ _ _ f

  pub before_below : (class : Class) (ts : Trees) (k : ℕ) (u v : Place) → (u.node == k) ≡ false → (v.node == k) ≡ false →
      is_before taken k (node class ts) u v ≡ between taken class (taken k) 0 (suc k) ts u v
  before_below class ts k u v e f = if_false _ _ _ e ∙ if_false _ _ _ f

  module _ (class : Class) (choice : Option ℕ) (i m : ℕ) (t : Tree) (ts : Trees) where
    pub due_first : (u : Place) → nat_lt u.node (m + size t) ≡ true →
        due_among taken class choice i m (more t ts) u ≡ (goes class choice i && due_in taken m t u)
    due_first u e = if_true _ _ _ e

    pub due_later : (u : Place) → nat_lt u.node (m + size t) ≡ false →
        due_among taken class choice i m (more t ts) u ≡ due_among taken class choice (suc i) (m + size t) ts u
    due_later u e = if_false _ _ _ e

    pub rise_first : (u : Place) (kind : Kind) → nat_lt u.node (m + size t) ≡ true → rises taken class choice i m (more t ts) u kind ≡
        (lifts class choice i (is_last ts) kind || (not (is_body kind) && (not (is_quiet t) && to_val taken m t u)))
    rise_first u kind e = if_true _ _ _ e

    pub rise_later : (u : Place) (kind : Kind) → nat_lt u.node (m + size t) ≡ false →
        rises taken class choice i m (more t ts) u kind ≡ rises taken class choice (suc i) (m + size t) ts u kind
    rise_later u kind e = if_false _ _ _ e

    pub cross_first : (j b : ℕ) → nat_lt b (m + size t) ≡ true → crosses class choice j i m (more t ts) b ≡ across class choice j i
    cross_first j b e = if_true _ _ _ e

    pub cross_later : (j b : ℕ) → nat_lt b (m + size t) ≡ false →
        crosses class choice j i m (more t ts) b ≡ crosses class choice j (suc i) (m + size t) ts b
    cross_later j b e = if_false _ _ _ e

    pub both_first : (u v : Place) → nat_lt u.node (m + size t) ≡ true → nat_lt v.node (m + size t) ≡ true →
        between taken class choice i m (more t ts) u v ≡ is_before taken m t u v
    both_first u v e f = if_true _ _ _ e ∙ if_true _ _ _ f

    pub one_first : (u v : Place) → nat_lt u.node (m + size t) ≡ true → nat_lt v.node (m + size t) ≡ false →
        between taken class choice i m (more t ts) u v ≡ crosses class choice i (suc i) (m + size t) ts v.node
    one_first u v e f = if_true _ _ _ e ∙ if_false _ _ _ f

    pub both_later : (u v : Place) → nat_lt u.node (m + size t) ≡ false → nat_lt v.node (m + size t) ≡ false →
        between taken class choice i m (more t ts) u v ≡ between taken class choice (suc i) (m + size t) ts u v
    both_later u v e f = if_false _ _ _ e ∙ if_false _ _ _ f
