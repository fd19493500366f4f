-- What is said of a tree's events, so that it tells whether two may conflict (own).
use Rattle.std.specs.Prelude.{Bool, true, false, not, ◌&&◌, ◌||◌}
use Rattle.c_typed.specs.declared.class.Class.{Class}
use Rattle.c_typed.specs.declared.class.Class.TheVariants.{Object, Constant, Plain, Store, Update, Choice, Comma, Call, Isolated}
use Rattle.c_typed.specs.Tree.{Tree, node, Trees, none, more, is_quiet_class}
use Rattle.quiet_trees.specs.Loads.{Loads, LoadsList, is_load, below, first, rest}
use Rattle.quiet_trees.specs.declared.summary.Summary.{Summary}

abbrev pub nothing : Summary
nothing = record { some = false; touches = false; writes = false; body = false; loose = false; clash = false }

abbrev pub meet : Summary → Summary → Bool
meet a b = (a.body && b.some) || ((a.some && b.body) || ((a.writes && b.touches) || (a.touches && b.writes)))

-- no rule of the node sequences its operands
abbrev pub is_open : Class → Bool
is_open Choice = false
is_open Comma = false
is_open _ = true

abbrev pub reads_by : Class → (load : Bool) → Bool
reads_by Plain load = load
reads_by Update load = true
reads_by _ load = false

abbrev pub writes_by : Class → Bool
writes_by Store = true
writes_by Update = true
writes_by _ = false

abbrev pub body_by : Class → Bool
body_by Call = true
body_by Isolated = true
body_by _ = false

-- a write comes before the node's value in no order
abbrev pub loose_by : Class → Bool → Bool
loose_by Store below = true
loose_by Update below = true
loose_by Call below = false
loose_by _ below = below

-- an event of the node itself may conflict with one of its operands
abbrev pub own_clash : Class → (load : Bool) → Summary → Bool
own_clash Object load a = a.some
own_clash Constant load a = a.some
own_clash Isolated load a = a.some
own_clash Plain load a = load && a.loose
own_clash Store load a = a.loose
own_clash Update load a = a.loose
own_clash _ load a = false

-- the operands of a node up to one of them, with that one
abbrev pub joined : Class → Summary → Summary → Summary
joined class a b = record {
  some = a.some || b.some;
  touches = a.touches || b.touches;
  writes = a.writes || b.writes;
  body = a.body || b.body;
  loose = a.loose || b.loose;
  clash = a.clash || (b.clash || (is_open class && meet a b));
}

-- a node over its operands
abbrev pub topped : Class → (load : Bool) → Summary → Summary
topped class load a = record {
  some = a.some || not (is_quiet_class class);
  touches = a.touches || (reads_by class load || writes_by class);
  writes = a.writes || writes_by class;
  body = a.body || body_by class;
  loose = loose_by class a.loose;
  clash = a.clash || own_clash class load a;
}

abbrev mutual
  pub summary_of : Tree → Loads → Summary
  summary_of (node class ts) f = topped class (is_load f) (summaries_of class nothing ts (below f))

  -- the operands up to one of them, with those behind it
  pub summaries_of : Class → Summary → Trees → LoadsList → Summary
  summaries_of class a none fs = a
  summaries_of class a (more t ts) fs = summaries_of class (joined class a (summary_of t (first fs))) ts (rest fs)
