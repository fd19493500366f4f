-- The events of a full expression, which of them are sequenced before which, and which may come next.
use Rattle.std.specs.Prelude.{
  ◌≡◌,
  ℕ,
  zero,
  suc,
  ◌+◌,
  Bool,
  true,
  false,
  not,
  ◌&&◌,
  ◌||◌,
  ◌==◌,
  nat_lt,
  List,
  [],
  ◌∷◌,
  ◌++◌,
  map,
  Option,
  Some,
  None,
  is_some,
  if◌then◌else◌,
  IsTrue,
}
use Rattle.ub_base.specs.declared.clause.Kind.{Kind}
use Rattle.ub_base.specs.declared.clause.Kind.TheVariants.{Val, Eff, Body}
use Rattle.ub_base.specs.Names.{same_kind}
use Rattle.c_typed.specs.declared.tree.Place.{Place}
use Rattle.c_typed.specs.declared.class.Class.{Class}
use Rattle.c_typed.specs.declared.class.Class.TheVariants.{Object, Constant, Plain, Store, Update, Choice, Comma, Call, Isolated}
use Rattle.c_typed.specs.Tree.{Tree, node, Trees, none, more, size, class_of, is_quiet, kinds_of}

abbrev pub place : ℕ → Kind → Place
place n kind = record { node = n; kind = kind }

abbrev pub same_place : Place → Place → Bool
same_place u v = (u.node == v.node) && same_kind u.kind v.kind

-- which operand each And, Or and Cond evaluates next, where its first has its value and one follows (6.5.13 to 6.5.15)
abbrev pub Taken : Type 0
Taken = ℕ → Option ℕ

abbrev pub is_choice : Class → Bool
is_choice Choice = true
is_choice _ = false

abbrev pub is_number : Option ℕ → ℕ → Bool
is_number None i = false
is_number (Some j) i = j == i

-- operand i of the node is evaluated, where the node chose this operand
abbrev pub goes : Class → Option ℕ → ℕ → Bool
goes class choice i = not (is_choice class) || ((i == 0) || is_number choice i)

abbrev pub own_events : ℕ → Class → List Place
own_events k class = map (place k) (kinds_of class)

abbrev mutual
  -- the due events of the tree whose root has the number k, in post-order
  pub events : Taken → ℕ → Tree → List Place
  events taken k (node class ts) = operand_events taken class (taken k) 0 (suc k) ts ++ own_events k class

  -- those of a node's operands from operand i on, the first of which has the number k
  pub operand_events : Taken → Class → Option ℕ → ℕ → ℕ → Trees → List Place
  operand_events taken class choice i k none = []
  operand_events taken class choice i k (more t ts) =
      (if goes class choice i then events taken k t else []) ++ operand_events taken class choice (suc i) (k + size t) ts

abbrev pub has : List Place → Place → Bool
has [] u = false
has (v ∷ vs) u = same_place u v || has vs u

abbrev pub is_due : Tree → Taken → Place → Bool
is_due root taken u = has (events taken 0 root) u

abbrev pub is_val : Kind → Bool
is_val Val = true
is_val _ = false

abbrev pub is_body : Kind → Bool
is_body Body = true
is_body _ = false

-- all of operand i comes before all of operand j (6.5.13p4, 6.5.14p4, 6.5.15p4, 6.5.17p2)
abbrev pub across : Class → Option ℕ → ℕ → ℕ → Bool
across Comma choice i j = nat_lt i j
across Choice choice i j = (i == 0) && is_number choice j
across _ choice i j = false

-- all of operand i, which may be the last, comes before the event of this kind of its node: as above, and before a body
-- all of a call's designator and arguments (6.5.2.2p10)
abbrev pub upward : Class → Option ℕ → ℕ → Bool → Kind → Bool
upward Comma choice i last Val = not last
upward Choice choice i last Val = (i == 0) && is_some choice
upward Call choice i last Body = true
upward _ choice i last kind = false

abbrev pub is_last : Trees → Bool
is_last none = true
is_last (more t ts) = false

-- between two events of one node: the value of an update before its effect (6.5.2.4p2, 6.5.16.2p3), a body before the value
abbrev pub own_rule : Class → Kind → Kind → Bool
own_rule Update Val Eff = true
own_rule class Body Val = true
own_rule _ _ _ = false

-- v is in an operand from operand j on, which all of operand i comes before
abbrev pub in_later : Taken → Class → Option ℕ → ℕ → ℕ → ℕ → Trees → Place → Bool
in_later taken class choice i j k none v = false
in_later taken class choice i j k (more t ts) v =
    (across class choice i j && has (events taken k t) v) || in_later taken class choice i (suc j) (k + size t) ts v

abbrev mutual
  -- u comes before v by one of the rules, in the tree whose root has the number k; the value of an operand comes before
  -- the value and the effect of its node (6.5p1)
  pub comes : Taken → ℕ → Tree → Place → Place → Bool
  comes taken k (node class ts) u v =
      ((u.node == k) && ((v.node == k) && own_rule class u.kind v.kind)) || operand_rules taken class (taken k) k 0 (suc k) ts u v

  -- the rules from operand i on, the first of which has the number m
  pub operand_rules : Taken → Class → Option ℕ → ℕ → ℕ → ℕ → Trees → Place → Place → Bool
  operand_rules taken class choice k i m none u v = false
  operand_rules taken class choice k i m (more t ts) u v =
      (goes class choice i
      && (((u.node == m) && (is_val u.kind && (not (is_quiet t) && ((v.node == k) && not (is_body v.kind)))))
      || ((has (events taken m t) u && (((v.node == k) && upward class choice i (is_last ts) v.kind) ||
      in_later taken class choice i (suc i) (m + size t) ts v))
      || comes taken m t u v)))
      || operand_rules taken class choice k (suc i) (m + size t) ts u v

-- sequenced before: the transitive closure of the rules, over due events (5.1.2.3p3)
pub data Before (root : Tree) (taken : Taken) : Place → Place → Type 0 where
  rule : (u v : Place) → IsTrue (is_due root taken u) → IsTrue (is_due root taken v) → IsTrue (comes taken 0 root u v) → Before root taken u v
  chain : (u v w : Place) → Before root taken u v → Before root taken v w → Before root taken u w

-- neither is sequenced before the other (5.1.2.3p3)
pub record IsApart (root : Tree) (taken : Taken) (u v : Place) : Type 0 where
  pub not_before : Before root taken u v → ⊥
  pub not_after : Before root taken v u → ⊥

-- what comes before u is done, and u isn't
pub record IsReady (root : Tree) (taken : Taken) (done : Place → Bool) (u : Place) : Type 0 where
  pub due : IsTrue (is_due root taken u)
  pub left : done u ≡ false
  pub earlier : (v : Place) → Before root taken v u → IsTrue (done v)

-- some update stands between its value and its effect, in this part of the tree
abbrev mutual
  pub update_is_open : Taken → (Place → Bool) → ℕ → Tree → Bool
  update_is_open taken done k (node class ts) =
      (own_rule class Val Eff && (done (place k Val) && not (done (place k Eff)))) || operand_is_open taken done class (taken k) 0 (suc k) ts

  pub operand_is_open : Taken → (Place → Bool) → Class → Option ℕ → ℕ → ℕ → Trees → Bool
  operand_is_open taken done class choice i m none = false
  operand_is_open taken done class choice i m (more t ts) =
      (goes class choice i && update_is_open taken done m t) || operand_is_open taken done class choice (suc i) (m + size t) ts

-- ready, and no body between the halves of an update, which is one evaluation with respect to a call (6.5.2.4p2, 6.5.16.2p3)
pub record IsPermitted (root : Tree) (taken : Taken) (done : Place → Bool) (u : Place) : Type 0 where
  pub ready : IsReady root taken done u
  pub no_split : (is_body u.kind && update_is_open taken done 0 root) ≡ false
