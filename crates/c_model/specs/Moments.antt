-- When a conflicting pair of evaluations shows (own).
use Rattle.std.specs.Prelude.{
  ℕ,
  zero,
  suc,
  ◌+◌,
  Bool,
  true,
  false,
  not,
  ◌&&◌,
  ◌||◌,
  ◌==◌,
  nat_lt,
  nat_le,
  List,
  [],
  ◌∷◌,
  ◌++◌,
  Option,
  Some,
  None,
  if◌then◌else◌,
}
use Rattle.std.specs.List.{list_all}
use Rattle.ub_base.specs.declared.clause.Kind.TheVariants.{Val, Eff, Body}
use Rattle.ub_base.specs.declared.names.Item.{Item}
use Rattle.ub_base.specs.declared.names.Item.TheVariants.{Any}
use Rattle.ub_base.specs.Frames.{Path}
use Rattle.c_typed.specs.declared.tree.Place.{Place}
use Rattle.c_typed.specs.Tree.{Tree, node, Trees, none, more, size}
use Rattle.c_typed.specs.Order.{Taken, place, same_place, events}
use Rattle.c_model.specs.Program.{Expr, tree_of}
use Rattle.c_model.specs.Steps.{line_of}
use Rattle.c_model.specs.Runs.{Entry}
use Rattle.c_model.specs.Findings.{same_path, items_of}

abbrev pub holds : ℕ → ℕ → ℕ → Bool
holds from to n = nat_le from n && nat_lt n to

abbrev mutual
  -- the least node whose tree holds both nodes: its number, and the number after its last node
  pub least : ℕ → Tree → ℕ → ℕ → ℕ × ℕ
  least k (node class ts) a b = least_in (suc k) ts a b (k, k + size (node class ts))

  -- that of the operand that holds both, or the node itself where none does
  pub least_in : ℕ → Trees → ℕ → ℕ → ℕ × ℕ → ℕ × ℕ
  least_in m none a b here = here
  least_in m (more t ts) a b here =
      if holds m (m + size t) a && holds m (m + size t) b then least m t a b else least_in (m + size t) ts a b here

-- the due events of the nodes from one number up to another are done
abbrev pub complete : List Place → (Place → Bool) → ℕ → ℕ → Bool
complete due done from to = list_all (λ u. done u || not (holds from to u.node)) due

abbrev pub complete_for : List Place → (Place → Bool) → ℕ × ℕ → Place → Place → Bool
complete_for due done n u v =
    if (u.node == n.0) || (v.node == n.0) then complete due done n.0 n.1 else complete due done (suc n.0) n.1

-- A pair shows once the operands of the least node that holds both are complete, or where one is of that node itself, once the node is
-- complete. What completes them is the pick after which this first holds.
abbrev pub has_shown : Tree → Taken → (Place → Bool) → Place → Place → Bool
has_shown tree taken done u v = complete_for (events taken 0 tree) done (least 0 tree u.node v.node) u v

-- an open full expression at a pick: the lines of its nodes, the items that each event has, and which pairs show, if they conflict
pub record Open : Type 0 where
  pub path : Path
  pub turn : ℕ
  pub tree : Tree
  pub line : ℕ → ℕ
  pub taken : Taken
  pub items : Place → List Item
  pub shows : Place → Place → Bool

abbrev pub is_of : Path → ℕ → Place → Entry → Bool
is_of path turn u e = same_path e.path path && ((e.turn == turn) && is_at e.place)
  where
    is_at : Option Place → Bool
    is_at None = false
    is_at (Some v) = same_place u v

-- the items of an event by now, none where it wasn't picked
abbrev pub items_by : List Entry → List Entry → Path → ℕ → Place → List Item
items_by trace [] path turn u = []
items_by trace (e ∷ es) path turn u = if is_of path turn u e then items_of trace e u else items_by trace es path turn u

-- on the way: what is complete has shown
abbrev pub on_the_way : List Entry → Path → ℕ → Expr → Taken → (Place → Bool) → Open
on_the_way trace path turn root taken done = record {
  path = path;
  turn = turn;
  tree = tree_of root;
  line = line_of root;
  taken = taken;
  items = items_by trace trace path turn;
  shows = has_shown (tree_of root) taken done;
}

-- where the run ends inside the expression: each pair shows, and each due event, done or pending, has the item `any`
abbrev pub as_it_ends : List Entry → Path → ℕ → Expr → Taken → Open
as_it_ends trace path turn root taken = record {
  path = path;
  turn = turn;
  tree = tree_of root;
  line = line_of root;
  taken = taken;
  items = λ u. items_by trace trace path turn u ++ (Any ∷ []);
  shows = λ u v. true;
}

-- the places of so many nodes in their order: by node, then `val`, `eff`, `body`
abbrev pub places_from : ℕ → ℕ → List Place
places_from k zero = []
places_from k (suc n) = place k Val ∷ place k Eff ∷ place k Body ∷ places_from (suc k) n
