-- The nodes of a full expression with small constants, and the values of their operands.
use Rattle.std.proofs.Common.{arith, ◌≡◌, ◌+◌, ℕ, zero, suc, ◌==◌, Bool, true, false, if◌then◌else◌, List, [], ◌∷◌, Option, Some, None, refl}
use Rattle.std.specs.Prelude.{nat_lt}
use Rattle.std.specs.List.{All}
use Rattle.std.proofs.lemmas.List.Elements.{All-nil, All-cons, All-head, All-tail, All-weaker}
use Rattle.ub_base.specs.declared.clause.Kind.{Kind}
use Rattle.ub_base.specs.declared.clause.Kind.TheVariants.{Val}
use Rattle.ub_base.specs.declared.names.Event.{Event}
use Rattle.ub_base.specs.declared.names.ObjName.{ObjName}
use Rattle.c_types.specs.Types.{CType, void, int, enumeration, pointer, array, struct, union, function}
use Rattle.c_typed.specs.declared.tree.Conversion.TheVariants as conversion
use Rattle.c_typed.specs.declared.tree.Place.{Place}
use Rattle.c_typed.specs.Order.{is_body, place}
use Rattle.c_typed.specs.Tree.{size, is_quiet}
use Rattle.ub_base.specs.declared.names.ObjName.TheVariants as object
use Rattle.c_model.specs.Nodes.{act_of}
use Rattle.c_model.specs.Program as model
use Rattle.c_model.specs.Program.{Expr, expr, Exprs, none, more, Head, tree_of}
use Rattle.c_model.specs.Steps.{Scene, at_node, at_node_among, first_quiet, moved_place, name_of, null_of, operand_values, pointer_to, quiet_value, target}
use Rattle.c_model.specs.Steps.{values_of}
use Rattle.c_model.specs.Values.{Value, Int, Ptr, Fun, Whole, Missing, Nothing, integer_of, later_values, or_nothing, value_at}
use Rattle.c_model.specs.World.{World}
use Rattle.value_facts.specs.Constants.{AreSmallExprs, IsSmallExpr, IsSmallHead}
use Rattle.value_facts.specs.Held.{IsScalar, SmallHasLists}
use Rattle.value_facts.specs.Small.{EndInTime, FillsSmall, IsSmall, NodeFillsSmall}
use Rattle.value_facts.proofs.Calls.{base_few}
use Rattle.value_facts.proofs.Numbers.{conv_small}
use Rattle.value_facts.proofs.Scripts.{GivesSo}

-- ---- nodes
abbrev pub SmallIf : Option Expr → Type 0
SmallIf None = Unit {0}
SmallIf (Some e) = IsSmallExpr e

mutual
  pub node_small : (k : ℕ) (e : Expr) (m : ℕ) → IsSmallExpr e → SmallIf (at_node k e m)
  node_small k (expr h ty line es) m small = go (k == m) (among_small (suc k) es m small.1)
    where
      go : (b : Bool) → SmallIf (at_node_among (suc k) es m) → SmallIf (if b then Some (expr h ty line es) else at_node_among (suc k) es m)
      go true rest = small
      go false rest = rest

  among_small : (k : ℕ) (es : Exprs) (m : ℕ) → AreSmallExprs es → SmallIf (at_node_among k es m)
  among_small k none m small = tt
  among_small k (more e es) m small =
      go (nat_lt m (k + size (tree_of e))) (node_small k e m small.0) (among_small (k + size (tree_of e)) es m small.1)
    where
      go : (b : Bool) → SmallIf (at_node k e m) → SmallIf (at_node_among (k + size (tree_of e)) es m)
          → SmallIf (if b then at_node k e m else at_node_among (k + size (tree_of e)) es m)
      go true first rest = first
      go false first rest = rest

pub head_fills : (h : Head) → IsSmallHead h → FillsSmall h
head_fills (model.Listed slot fillings) s = s
head_fills _ s = tt

pub small_has_lists : SmallHasLists
small_has_lists root small n = go (at_node 0 root n) (node_small 0 root n small)
  where
    go : (o : Option Expr) → SmallIf o → NodeFillsSmall o
    go None s = tt
    go (Some (expr h ty line es)) s = head_fills h s.0

-- ---- values
null_small : (ty : CType) → IsSmall (null_of ty)
null_small (function r ps v) = tt
null_small void = omega arith
null_small (int kind) = omega arith
null_small (enumeration tag) = omega arith
null_small (pointer c t) = omega arith
null_small (array c t count) = omega arith
null_small (struct tag) = omega arith
null_small (union tag) = omega arith

moved_small : (world : World) (offset : ℕ) (v : Value) → IsSmall v → IsSmall (moved_place world offset v)
moved_small world offset (Ptr a p) h = omega arith
moved_small world offset (Int z) h = h
moved_small world offset (Fun a) h = h
moved_small world offset (Whole bs source) h = h
moved_small world offset Missing h = h
moved_small world offset Nothing h = h

-- What holds of values along a run: they are small, it holds of all small ones but structures and unions, and events that aren't bodies keep it.
pub record IsKept (world : World) (V : Value → Type 0) : Type 0 where
  pub small : (v : Value) → V v → IsSmall v
  pub plain : (v : Value) → IsSmall v → IsScalar v → V v
  pub acts : (who : Event) (h : Head) (ty : CType) (kind : Kind) (vs : List Value) (own : Value) → is_body kind ≡ false → FillsSmall h
      → ((i : ℕ) → V (value_at vs i)) → V own → GivesSo V (act_of world.rows who h ty kind vs own)

pub all_small : (V : Value → Type 0) → ((v : Value) → V v → IsSmall v) → (vs : List Value) → All V vs → All IsSmall vs
all_small V f vs h = All-weaker V IsSmall f vs h

pub later_kept : (V : Value → Type 0) (vs : List Value) → All V vs → All V (later_values vs)
later_kept V [] h = h
later_kept V (v ∷ vs) h = All-tail V v vs h

module _ (world : World) (ends : EndInTime world.rows) (f : Scene) where
  mutual
    pub quiet_small : (e : Expr) → IsSmallExpr e → IsSmall (quiet_value world f e)
    quiet_small (expr (model.Number z) ty line es) s = s.0
    quiet_small (expr model.Null ty line es) s = null_small (target ty)
    quiet_small (expr (model.Obj slot) ty line es) s = base_few world.rows ends (name_of world f slot)
    quiet_small (expr (model.Str k) ty line es) s = base_few world.rows ends (object.Lit k)
    quiet_small (expr (model.Member offset) ty line es) s = moved_small world offset (first_quiet world f es) (first_small es s.1)
    quiet_small (expr (model.Conv (conversion.Integer k)) ty line es) s = conv_small k (integer_of (first_quiet world f es))
    quiet_small _ s = tt

    first_small : (es : Exprs) → AreSmallExprs es → IsSmall (first_quiet world f es)
    first_small none s = tt
    first_small (more e es) s = quiet_small e s.0

  moved_plain : (offset : ℕ) (v : Value) → IsScalar v → IsScalar (moved_place world offset v)
  moved_plain offset (Ptr a p) h = tt
  moved_plain offset (Int z) h = h
  moved_plain offset (Fun a) h = h
  moved_plain offset (Whole bs source) h = h
  moved_plain offset Missing h = h
  moved_plain offset Nothing h = h

  null_plain : (ty : CType) → IsScalar (null_of ty)
  null_plain (function r ps v) = tt
  null_plain void = tt
  null_plain (int kind) = tt
  null_plain (enumeration tag) = tt
  null_plain (pointer c t) = tt
  null_plain (array c t count) = tt
  null_plain (struct tag) = tt
  null_plain (union tag) = tt

  mutual
    quiet_plain : (e : Expr) → IsScalar (quiet_value world f e)
    quiet_plain (expr model.Null ty line es) = null_plain (target ty)
    quiet_plain (expr (model.Member offset) ty line es) = moved_plain offset (first_quiet world f es) (first_plain es)
    quiet_plain (expr (model.Conv (conversion.Integer k)) ty line es) = tt
    quiet_plain _ = tt

    first_plain : (es : Exprs) → IsScalar (first_quiet world f es)
    first_plain none = tt
    first_plain (more e es) = quiet_plain e

module _ (world : World) (ends : EndInTime world.rows) (V : Value → Type 0) (kept : IsKept world V) where
  pub nothing_kept : V Nothing
  nothing_kept = kept.plain Nothing tt tt

  pub quiet_kept : (f : Scene) (e : Expr) → IsSmallExpr e → V (quiet_value world f e)
  quiet_kept f e s = kept.plain (quiet_value world f e) (quiet_small world ends f e s) (quiet_plain world ends f e)

  pub pointer_kept : (x : ObjName) → V (pointer_to world x)
  pointer_kept x = kept.plain (pointer_to world x) (base_few world.rows ends x) tt

  pub all_at : (vs : List Value) (i : ℕ) → All V vs → V (value_at vs i)
  all_at [] i h = nothing_kept
  all_at (v ∷ vs) zero h = All-head V v vs h
  all_at (v ∷ vs) (suc i) h = all_at vs i (All-tail V v vs h)

  pub given_kept : (given : Place → Option Value) → ((u : Place) (v : Value) → given u ≡ Some v → V v) → (u : Place) → V (or_nothing (given u))
  given_kept given small u = go (given u) refl
    where
      go : (o : Option Value) → given u ≡ o → V (or_nothing o)
      go None e = nothing_kept
      go (Some v) e = small u v e

  module _ (f : Scene) (given : Place → Option Value) (small : (u : Place) (v : Value) → given u ≡ Some v → V v) where
    pub values_kept : (k : ℕ) (es : Exprs) → AreSmallExprs es → All V (values_of world f given k es)
    values_kept k none s = All-nil V
    values_kept k (more e es) s =
        All-cons V _ (values_of world f given (k + size (tree_of e)) es) (go (is_quiet (tree_of e))) (values_kept (k + size (tree_of e)) es s.1)
      where
        go : (b : Bool) → V (if b then quiet_value world f e else or_nothing (given (place k Val)))
        go true = quiet_kept f e s.0
        go false = given_kept given small (place k Val)

    -- those of the operands of a node
    pub operand_kept : (k : ℕ) (h : Head) (es : Exprs) → AreSmallExprs es → (i : ℕ) → V (value_at (operand_values world f given k h es) i)
    operand_kept k (model.Listed slot fillings) es s zero = pointer_kept (name_of world f slot)
    operand_kept k (model.Listed slot fillings) es s (suc i) = nothing_kept
    operand_kept k h es s i = all_at (values_of world f given k es) i (values_kept k es s)
