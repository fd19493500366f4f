-- What an event of a full expression may do to memory, by its kind and the class of its node (own).
use Rattle.std.specs.Prelude.{ℕ, suc, ◌+◌, Bool, true, false, ◌==◌, nat_lt, if◌then◌else◌}
use Rattle.ub_base.specs.declared.clause.Kind.{Kind}
use Rattle.ub_base.specs.declared.clause.Kind.TheVariants.{Val, Eff, Body}
use Rattle.c_typed.specs.declared.tree.Place.{Place}
use Rattle.c_typed.specs.declared.class.Class.{Class}
use Rattle.c_typed.specs.declared.class.Class.TheVariants.{Plain, Store, Update, Call, Isolated}
use Rattle.c_typed.specs.Tree.{Tree, node, Trees, none, more, size}
use Rattle.quiet_trees.specs.Loads.{Loads, LoadsList, is_load, below, first, rest}

pub data Act : Type 0 where
  Nothing : Act
  Reads : Act
  Writes : Act
  All : Act

-- The value of a plain node reads where that is a load; that of an update does, and its effect stores, as that of an assignment and of a list. A body
-- does whatever there is (6.5.2.2, 6.7.9p23). The other values are made of values alone.
abbrev pub act_by : Class → (load : Bool) → Kind → Act
act_by Plain true Val = Reads
act_by Update load Val = Reads
act_by Update load Eff = Writes
act_by Store load Eff = Writes
act_by Call load Body = All
act_by Isolated load Body = All
act_by _ load _ = Nothing

abbrev mutual
  -- of an event of the tree whose root has the number k
  pub act_in : ℕ → Tree → Loads → Place → Act
  act_in k (node class ts) f u = if u.node == k then act_by class (is_load f) u.kind else act_among (suc k) ts (below f) u

  -- of one in these trees, the first of which has the number m
  pub act_among : ℕ → Trees → LoadsList → Place → Act
  act_among m none fs u = Nothing
  act_among m (more t ts) fs u = if nat_lt u.node (m + size t) then act_in m t (first fs) u else act_among (m + size t) ts (rest fs) u

-- Whether two events may conflict that do so: accesses of which one writes, and a body with each event, since the run may end in it.
abbrev pub may_clash : Act → Act → Bool
may_clash All b = true
may_clash Nothing All = true
may_clash Reads All = true
may_clash Writes All = true
may_clash Reads Writes = true
may_clash Writes Reads = true
may_clash Writes Writes = true
may_clash _ _ = false
