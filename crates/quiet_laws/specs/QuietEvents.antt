-- The items of the events of full expressions by their kinds (own).
use Rattle.std.specs.Prelude.{◌≡◌, ℕ, Bool, true, false, ◌&&◌, List, Some, slice_get}
use Rattle.ub_base.specs.declared.names.Item.{Item}
use Rattle.addr_map.specs.declared.map.Row.{Row}
use Rattle.addr_map.specs.Conflict.{items_conflict, stands_at}
use Rattle.c_typed.specs.declared.tree.Place.{Place}
use Rattle.c_typed.specs.Order.{is_body, same_place}
use Rattle.c_typed.specs.Decide.{due_in, is_before}
use Rattle.mem_spec.specs.Store.{Store}
use Rattle.mem_spec.specs.Script.{item_of, Answer, Script, Finish, Do, Done, run}
use Rattle.c_model.specs.World.{World}
use Rattle.c_model.specs.Values.{Value}
use Rattle.c_model.specs.Program.{Head, Load, Expr, expr, Exprs, none, more, tree_of}
use Rattle.c_model.specs.Steps.{Scene, Begun, at_node, taken_by, event_act}
use Rattle.quiet_trees.specs.Loads.{Loads, LoadsList, loads, nil, cons}
use Rattle.quiet_trees.specs.Acts.{act_in}
use Rattle.quiet_trees.specs.Items.{is_noted, suits}
use Rattle.quiet_trees.specs.Quiet.{IsQuiet}

abbrev pub head_loads : Head → Bool
head_loads (Load how) = true
head_loads _ = false

abbrev mutual
  -- which nodes of an expression are loads
  pub expr_loads : Expr → Loads
  expr_loads (expr h ty line es) = loads (head_loads h) (exprs_loads es)

  pub exprs_loads : Exprs → LoadsList
  exprs_loads none = nil
  exprs_loads (more e es) = cons (expr_loads e) (exprs_loads es)

-- each touch of the script has such an item, and the script doesn't end the run
abbrev pub Suits : {V : Type 0} → (Item → Bool) → Script V → Type 0
Suits p (Do t k) = (p (item_of t) ≡ true) × ((a : Answer t) → Suits p (k a))
Suits p (Finish n) = ⊥
Suits p _ = Unit {0}

-- a due event but a body has the items of its kind
abbrev pub EventsSuit : Type 0
EventsSuit =
    (world : World) (f : Scene) (e : Begun) (u : Place) → due_in (taken_by world f e) 0 (tree_of e.root) u ≡ true → is_body u.kind ≡ false →
    Suits (suits (act_in 0 (tree_of e.root) (expr_loads e.root) u)) (event_act world f e u (at_node 0 e.root u.node))

-- no item of the one conflicts with one of the other, unless both are noted
abbrev pub AreApart : List Row → List Item → List Item → Type 0
AreApart rows is js = (p q : ℕ) (i j : Item) → slice_get is p ≡ Some i → slice_get js q ≡ Some j → (is_noted i && is_noted j) ≡ false →
    items_conflict (stands_at rows) i j ≡ false

-- two due events of a quiet expression of which neither is sequenced before the other, whatever the stores that they find
abbrev pub QuietEvents : Type 0
QuietEvents =
    (world : World) (f : Scene) (e : Begun) (u v : Place) → IsQuiet (tree_of e.root) (expr_loads e.root) →
    due_in (taken_by world f e) 0 (tree_of e.root) u ≡ true → due_in (taken_by world f e) 0 (tree_of e.root) v ≡ true → same_place u v ≡ false →
    is_before (taken_by world f e) 0 (tree_of e.root) u v ≡ false → is_before (taken_by world f e) 0 (tree_of e.root) v u ≡ false →
    (is_body u.kind ≡ false) × (is_body v.kind ≡ false) × ((s t : Store) (x y : Value) (is js : List Item) (s1 t1 : Store) →
    run world.rows (event_act world f e u (at_node 0 e.root u.node)) s ≡ Done x is s1 →
    run world.rows (event_act world f e v (at_node 0 e.root v.node)) t ≡ Done y js t1 → AreApart world.rows is js)
