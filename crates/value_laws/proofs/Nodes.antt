-- Nodes of an expression by their numbers, and the values of their operands.
use Rattle.std.proofs.Common.{◌≡◌, ℕ, zero, suc, ◌+◌, ◌≤◌, Bool, true, false, ◌==◌, nat_lt, if◌then◌else◌, Option, Some, None}
use Rattle.std.proofs.Common.{refl, sym, ap, ◌∙◌, subst, arith}
use Rattle.std.proofs.lemmas.Bool.Decides.{nat_tests}
use Rattle.ub_base.specs.declared.clause.Kind.TheVariants.{Val}
use Rattle.c_types.specs.Types.{CType, void, int, enumeration, pointer, array, struct, union, function}
use Rattle.c_typed.specs.declared.tree.Conversion.TheVariants as conversion
use Rattle.c_typed.specs.declared.tree.Place.{Place}
use Rattle.c_typed.specs.Tree.{size, sizes, is_quiet}
use Rattle.c_typed.specs.Order.{place}
use Rattle.c_model.specs.Program.{Head, Number, Null, Obj, Func, Str, Load, Conv, Un, Bin, PtrAdd, PtrDiff, Rel, Eq, Member, Part, Assign, Update, And, Or}
use Rattle.c_model.specs.Program.{Cond, Comma, Call, Listed, Isolated, Expr, expr, Exprs, none, more, tree_of, trees_of}
use Rattle.c_model.specs.Values.{Value, Int, Ptr, Fun, Whole, Missing, Nothing, or_nothing, value_at}
use Rattle.c_model.specs.World.{World}
use Rattle.c_model.specs.Nodes.{last_value}
use Rattle.c_model.specs.Steps.{Scene, at_node, at_node_among, quiet_value, first_quiet, values_of, moved_place, null_of, target}
use Rattle.c_model.proofs.Ranks.{size_pos, eq_of, eq_eq, if_true, if_false, lt_lt, ge_lt}
use Rattle.value_laws.specs.Sizes.{Sizes, HasSize, IsPlain, type_of, size_at, last_size, ExprFits, ExprsFit}
use Rattle.value_laws.proofs.Acts.{plain_size}

-- the node stands in the range of the tree, with its own
abbrev pub StandsIn : ℕ → ℕ → ℕ → Expr → Type 0
StandsIn k count n g = (k ≤ n) × (n + size (tree_of g) ≤ k + count)

mutual
  stands : (e : Expr) (k n : ℕ) (g : Expr) → at_node k e n ≡ Some g → StandsIn k (size (tree_of e)) n g
  stands (expr h ty line es) k n g q = go (k == n) refl q (stands_among es (suc k) n g)
    where
      go : (b : Bool) → (k == n) ≡ b → (if b then Some (expr h ty line es) else at_node_among (suc k) es n) ≡ Some g
          → (at_node_among (suc k) es n ≡ Some g → StandsIn (suc k) (sizes (trees_of es)) n g) → StandsIn k (size (tree_of (expr h ty line es))) n g
      go true e q again =
          let r : expr h ty line es ≡ g = cc in
          let s : size (tree_of (expr h ty line es)) ≡ size (tree_of g) = ap (λ z. size (tree_of z)) r in
          let kn = eq_of k n e in
          (omega (arith, kn), omega (arith, kn, s))
      go false e q again = (let r = again q in let a = r.0 in let b = r.1 in (omega (arith, a), omega (arith, b)))

  stands_among : (es : Exprs) (k n : ℕ) (g : Expr) → at_node_among k es n ≡ Some g → StandsIn k (sizes (trees_of es)) n g
  stands_among none k n g q = absurd (cc)
  stands_among (more e es) k n g q = go (nat_lt n (k + size (tree_of e))) q (stands e k n g) (stands_among es (k + size (tree_of e)) n g)
    where
      go : (b : Bool) → (if b then at_node k e n else at_node_among (k + size (tree_of e)) es n) ≡ Some g
          → (at_node k e n ≡ Some g → StandsIn k (size (tree_of e)) n g)
          → (at_node_among (k + size (tree_of e)) es n ≡ Some g → StandsIn (k + size (tree_of e)) (sizes (trees_of es)) n g)
          → StandsIn k (sizes (trees_of (more e es))) n g
      go true q here there = (let r = here q in let a = r.0 in let b = r.1 in (a, omega (arith, b)))
      go false q here there = (let r = there q in let a = r.0 in let b = r.1 in (omega (arith, a), omega (arith, b)))

-- a node of an operand is one of the list, and so on
first_there : (e : Expr) (es : Exprs) (k n : ℕ) (g : Expr) → at_node k e n ≡ Some g → at_node_among k (more e es) n ≡ Some g
first_there e es k n g q =
    let r = (stands e k n g q).1 in
    let s = size_pos (tree_of g) in
    if_true (nat_lt n (k + size (tree_of e))) _ _ (lt_lt n (k + size (tree_of e)) (omega (arith, r, s))) ∙ q

later_there : (e : Expr) (es : Exprs) (k n : ℕ) (g : Expr) → at_node_among (k + size (tree_of e)) es n ≡ Some g → at_node_among k (more e es) n ≡ Some g
later_there e es k n g q =
    let r = (stands_among es (k + size (tree_of e)) n g q).0 in
    if_false (nat_lt n (k + size (tree_of e))) _ _ (ge_lt n (k + size (tree_of e)) r) ∙ q

operands_there : (h : Head) (ty : CType) (line : ℕ) (es : Exprs) (k n : ℕ) (g : Expr) → at_node_among (suc k) es n ≡ Some g
    → at_node k (expr h ty line es) n ≡ Some g
operands_there h ty line es k n g q =
    let r = (stands_among es (suc k) n g q).0 in
    if_false (k == n) _ _ (grind (arith, nat_tests, r)) ∙ q

pub itself_there : (e : Expr) (k : ℕ) → at_node k e k ≡ Some e
itself_there (expr h ty line es) k = if_true (k == k) _ _ (eq_eq k k refl)

-- a node of a node's operands is one of the whole
module _ (h : Head) (ty : CType) (line : ℕ) (es : Exprs) (n m : ℕ) (g : Expr) (there : at_node_among (suc n) es m ≡ Some g) where
  mutual
    pub inside : (e : Expr) (k : ℕ) → at_node k e n ≡ Some (expr h ty line es) → at_node k e m ≡ Some g
    inside (expr i t l ds) k q = go (k == n) refl q (inside_among ds (suc k))
      where
        go : (b : Bool) → (k == n) ≡ b → (if b then Some (expr i t l ds) else at_node_among (suc k) ds n) ≡ Some (expr h ty line es)
            → (at_node_among (suc k) ds n ≡ Some (expr h ty line es) → at_node_among (suc k) ds m ≡ Some g)
            → at_node k (expr i t l ds) m ≡ Some g
        go true e q again =
            let r : expr h ty line es ≡ expr i t l ds = cc in
            subst (λ z. at_node k z m ≡ Some g) r
            (operands_there h ty line es k m g (subst (λ z. at_node_among (suc z) es m ≡ Some g) (sym (eq_of k n e)) there))
        go false e q again = operands_there i t l ds k m g (again q)

    inside_among : (ds : Exprs) (k : ℕ) → at_node_among k ds n ≡ Some (expr h ty line es) → at_node_among k ds m ≡ Some g
    inside_among none k q = absurd (cc)
    inside_among (more d ds) k q = go (nat_lt n (k + size (tree_of d))) q (inside d k) (inside_among ds (k + size (tree_of d)))
      where
        go : (b : Bool) → (if b then at_node k d n else at_node_among (k + size (tree_of d)) ds n) ≡ Some (expr h ty line es)
            → (at_node k d n ≡ Some (expr h ty line es) → at_node k d m ≡ Some g)
            → (at_node_among (k + size (tree_of d)) ds n ≡ Some (expr h ty line es) → at_node_among (k + size (tree_of d)) ds m ≡ Some g)
            → at_node_among k (more d ds) m ≡ Some g
        go true q here later = first_there d ds k m g (here q)
        go false q here later = later_there d ds k m g (later q)

-- each node of an expression that fits does
module _ (sizes_of : Sizes) where
  mutual
    pub node_fits : (e : Expr) (k n : ℕ) (g : Expr) → ExprFits sizes_of e → at_node k e n ≡ Some g → ExprFits sizes_of g
    node_fits (expr h ty line es) k n g f q = go (k == n) q (nodes_fit es (suc k) n g f.1.1)
      where
        go : (b : Bool) → (if b then Some (expr h ty line es) else at_node_among (suc k) es n) ≡ Some g
            → (at_node_among (suc k) es n ≡ Some g → ExprFits sizes_of g) → ExprFits sizes_of g
        go true q again = (let r : expr h ty line es ≡ g = cc in subst (ExprFits sizes_of) r f)
        go false q again = again q

    nodes_fit : (es : Exprs) (k n : ℕ) (g : Expr) → ExprsFit sizes_of es → at_node_among k es n ≡ Some g → ExprFits sizes_of g
    nodes_fit none k n g f q = absurd (cc)
    nodes_fit (more e es) k n g f q = go (nat_lt n (k + size (tree_of e))) q (node_fits e k n g f.0) (nodes_fit es (k + size (tree_of e)) n g f.1)
      where
        go : (b : Bool) → (if b then at_node k e n else at_node_among (k + size (tree_of e)) es n) ≡ Some g
            → (at_node k e n ≡ Some g → ExprFits sizes_of g) → (at_node_among (k + size (tree_of e)) es n ≡ Some g → ExprFits sizes_of g) → ExprFits sizes_of g
        go true q here later = here q
        go false q here later = later q

null_plain : (ty : CType) → IsPlain (null_of ty)
null_plain (function result params variadic) = tt
null_plain void = tt
null_plain (int k) = tt
null_plain (enumeration tag) = tt
null_plain (pointer c t) = tt
null_plain (array c t n) = tt
null_plain (struct tag) = tt
null_plain (union tag) = tt

module _ (world : World) (f : Scene) where
  moved_plain : (offset : ℕ) (v : Value) → IsPlain v → IsPlain (moved_place world offset v)
  moved_plain offset (Ptr a p) h = tt
  moved_plain offset (Int z) h = tt
  moved_plain offset (Fun a) h = tt
  moved_plain offset (Whole bs source) h = absurd h
  moved_plain offset Missing h = tt
  moved_plain offset Nothing h = tt

  mutual
    -- a quiet node gives no structure or union
    pub quiet_plain : (e : Expr) → IsPlain (quiet_value world f e)
    quiet_plain (expr (Number z) ty line es) = tt
    quiet_plain (expr Null ty line es) = null_plain (target ty)
    quiet_plain (expr (Obj s) ty line es) = tt
    quiet_plain (expr (Func n) ty line es) = tt
    quiet_plain (expr (Str k) ty line es) = tt
    quiet_plain (expr (Member offset) ty line es) = moved_plain offset (first_quiet world f es) (first_plain es)
    quiet_plain (expr (Conv (conversion.Integer k)) ty line es) = tt
    quiet_plain (expr (Conv (conversion.Address k)) ty line es) = tt
    quiet_plain (expr (Conv conversion.NotNull) ty line es) = tt
    quiet_plain (expr (Conv conversion.Lookup) ty line es) = tt
    quiet_plain (expr (Conv (conversion.Pointer align)) ty line es) = tt
    quiet_plain (expr (Conv conversion.Function) ty line es) = tt
    quiet_plain (expr (Load how) ty line es) = tt
    quiet_plain (expr (Un op) ty line es) = tt
    quiet_plain (expr (Bin op k) ty line es) = tt
    quiet_plain (expr (PtrAdd n subtract) ty line es) = tt
    quiet_plain (expr (PtrDiff n) ty line es) = tt
    quiet_plain (expr (Rel op p) ty line es) = tt
    quiet_plain (expr (Eq op) ty line es) = tt
    quiet_plain (expr (Part o how) ty line es) = tt
    quiet_plain (expr (Assign first how) ty line es) = tt
    quiet_plain (expr (Update c old) ty line es) = tt
    quiet_plain (expr And ty line es) = tt
    quiet_plain (expr Or ty line es) = tt
    quiet_plain (expr Cond ty line es) = tt
    quiet_plain (expr Comma ty line es) = tt
    quiet_plain (expr (Call d) ty line es) = tt
    quiet_plain (expr (Listed slot cs) ty line es) = tt
    quiet_plain (expr (Isolated e) ty line es) = tt

    first_plain : (es : Exprs) → IsPlain (first_quiet world f es)
    first_plain none = tt
    first_plain (more e es) = quiet_plain e

  module _ (sizes_of : Sizes) (given : Place → Option Value) where
    pub perhaps_size : (o : Option ℕ) (given_value : Option Value) → ((v : Value) → given_value ≡ Some v → HasSize o v) → HasSize o (or_nothing given_value)
    perhaps_size o None h = plain_size o Nothing tt
    perhaps_size o (Some v) h = h v refl

    -- what a node counts as for its parent
    pub value_size : (e : Expr) (k : ℕ) → ((v : Value) → given (place k Val) ≡ Some v → HasSize (sizes_of (type_of e)) v)
        → HasSize (sizes_of (type_of e)) (if is_quiet (tree_of e) then quiet_value world f e else or_nothing (given (place k Val)))
    value_size e k h = go (is_quiet (tree_of e))
      where
        go : (b : Bool) → HasSize (sizes_of (type_of e)) (if b then quiet_value world f e else or_nothing (given (place k Val)))
        go true = plain_size (sizes_of (type_of e)) (quiet_value world f e) (quiet_plain e)
        go false = perhaps_size (sizes_of (type_of e)) (given (place k Val)) h

    -- the values of operands that stand from this number on
    abbrev pub OperandsFit : ℕ → Exprs → Type 0
    OperandsFit k es = (m : ℕ) (e : Expr) (v : Value) → at_node_among k es m ≡ Some e → given (place m Val) ≡ Some v → HasSize (sizes_of (type_of e)) v

    pub here_fits : (e : Expr) (es : Exprs) (k : ℕ) → OperandsFit k (more e es) → (v : Value) → given (place k Val) ≡ Some v → HasSize (sizes_of (type_of e)) v
    here_fits e es k h v q = h k e v (first_there e es k k e (itself_there e k)) q

    pub later_fit : (e : Expr) (es : Exprs) (k : ℕ) → OperandsFit k (more e es) → OperandsFit (k + size (tree_of e)) es
    later_fit e es k h = λ m g v q. h m g v (later_there e es k m g q)

    pub operand_sizes : (es : Exprs) (k : ℕ) → OperandsFit k es → (i : ℕ) → HasSize (size_at sizes_of es i) (value_at (values_of world f given k es) i)
    operand_sizes none k h i = tt
    operand_sizes (more e es) k h zero = value_size e k (here_fits e es k h)
    operand_sizes (more e es) k h (suc i) = operand_sizes es (k + size (tree_of e)) (later_fit e es k h) i

    pub last_fits : (es : Exprs) (k : ℕ) → OperandsFit k es → HasSize (last_size sizes_of es) (last_value (values_of world f given k es))
    last_fits none k h = tt
    last_fits (more e none) k h = value_size e k (here_fits e none k h)
    last_fits (more e (more g es)) k h = last_fits (more g es) (k + size (tree_of e)) (later_fit e (more g es) k h)
