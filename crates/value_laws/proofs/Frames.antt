-- What each open frame keeps: its full expression and what is left to do fit, and so do the values that were given.
use Rattle.std.proofs.Common.{◌≡◌, ℕ, zero, suc, ◌+◌, Bool, true, false, ◌||◌, ◌==◌, if◌then◌else◌, List, [], ◌∷◌, Option, Some, None, is_some}
use Rattle.std.proofs.Common.{refl, sym, ap, ◌∙◌, subst, arith}
use Rattle.std.specs.Prelude.{slice_get}
use Rattle.ub_base.specs.declared.clause.Kind.{Kind}
use Rattle.ub_base.specs.declared.clause.Kind.TheVariants.{Val}
use Rattle.ub_base.specs.declared.clause.Clause.TheVariants.{InvalidPointer, IncompatibleCall}
use Rattle.ub_base.specs.declared.names.Event.{Event}
use Rattle.c_types.specs.declared.library.LibFunc.{LibFunc}
use Rattle.c_types.specs.Types.{CType, void, int, enumeration, pointer, array, struct, union, function}
use Rattle.c_typed.specs.declared.tree.Place.{Place}
use Rattle.c_typed.specs.Order.{place}
use Rattle.c_model.specs.Program.{Head, Listed, Call, Expr, expr, Exprs, Stmt, Function}
use Rattle.c_model.specs.Values.{Value, Int, Missing, Nothing, value_at, later_values, or_nothing, truth, integer_of}
use Rattle.c_model.specs.World.{World}
use Rattle.c_model.specs.Nodes.{act_of, last_value}
use Rattle.c_model.specs.Steps.{Scene, Local, Begun, at_node, name_of, pointer_to, call_act, call_through, call_by}
use Rattle.c_model.specs.Steps.{library_act, argument_types, operand_values, values_of, first_type, target, function_type, function_of}
use Rattle.c_model.specs.Steps.{called_by, body_of}
use Rattle.value_laws.specs.Sizes.{result_size, FunctionFits, Sizes, HasSize, Keeps, type_of, size_at, last_size, ExprFits, StatementFits, Gives, IsPlain}
use Rattle.value_laws.specs.Sizes.{ProgramFits}
use Rattle.value_laws.specs.Wholes.{ValuesFit}
use Rattle.value_laws.proofs.Scripts.{gives_map, need}
use Rattle.value_laws.proofs.Acts.{plain_size, act_gives}
use Rattle.value_laws.proofs.Work.{UseFits, TodoFits}
use Rattle.value_laws.proofs.Nodes.{inside, node_fits, perhaps_size, operand_sizes, last_fits}

pub keeps_itself : (o : Option ℕ) → Keeps o o
keeps_itself None = tt
keeps_itself (Some n) = refl

pub keeps_on : (a b c : Option ℕ) → Keeps a b → Keeps b c → Keeps a c
keeps_on a b None f g = tt
keeps_on a b (Some n) f g = subst (Keeps a) g f

-- a function that was found has its number
found_there : (fs : List Function) (n a : ℕ) (c : ℕ × Function) → function_of fs n a ≡ Some c → (i : ℕ) × ((c.0 ≡ n + i) × (slice_get fs i ≡ Some c.1))
found_there [] n a c h = absurd (cc)
found_there (g ∷ gs) n a c h = go (Rattle.c_model.specs.Values.function_address n == a) h (found_there gs (suc n) a c)
  where
    go : (b : Bool) → (if b then Some (n, g) else function_of gs (suc n) a) ≡ Some c
        → (function_of gs (suc n) a ≡ Some c → (i : ℕ) × ((c.0 ≡ suc n + i) × (slice_get gs i ≡ Some c.1)))
        → (i : ℕ) × ((c.0 ≡ n + i) × (slice_get (g ∷ gs) i ≡ Some c.1))
    go true h again = (let k : (n, g) ≡ c = cc in (0, (sym (ap (λ z. z.0) k) ∙ omega arith, ap (λ z. Some z.1) k)))
    go false h again = (let r = again h in let e = r.1.0 in (suc r.0, (omega (arith, e), r.1.1)))

pub function_there : (fs : List Function) (a : ℕ) (c : ℕ × Function) → function_of fs 0 a ≡ Some c → slice_get fs c.0 ≡ Some c.1
function_there fs a c h =
    let r = found_there fs 0 a c h in
    let e = r.1.0 in
    subst (λ z. slice_get fs z ≡ Some c.1) (let k : r.0 ≡ c.0 = omega (arith, e) in k) r.1.1

pub body_there : (world : World) (n : ℕ) (fun : Function) → slice_get world.program.functions n ≡ Some fun → body_of world (Some n) ≡ fun.body
body_there world n fun e = rw e

module _ (size : Sizes) (world : World) where
  pub record BegunFits (result : Option ℕ) (b : Begun) : Type 0 where
    pub root : ExprFits size b.root
    pub what : UseFits size result (size (type_of b.root)) b.what
    pub values : ValuesFit size b

  -- a frame whose result has this size
  pub record FrameFits (result : Option ℕ) (f : Local) : Type 0 where
    pub todo : TodoFits size result f.todo
    pub begun : (b : Begun) → f.begun ≡ Some b → BegunFits result b
    pub gives : (v : Value) → f.result ≡ Some v → HasSize result v
    pub body : (s : Stmt) → body_of world f.function ≡ Some s → StatementFits size result s

  -- the frames below, from that of a body that gives this size
  pub record WaitsFor (above result : Option ℕ) (h : Local × Place) : Type 0 where
    pub frame : FrameFits result h.0
    pub takes : (b : Begun) → h.0.begun ≡ Some b → (e : Expr) → at_node 0 b.root h.1.node ≡ Some e → Keeps above (size (type_of e))

  pub data HeldFit : Option ℕ → List (Local × Place) → Type 0 where
    lowest : (above : Option ℕ) → HeldFit above []
    waits : (above result : Option ℕ) (h : Local × Place) (hs : List (Local × Place)) → WaitsFor above result h → HeldFit result hs → HeldFit above (h ∷ hs)

  pub some_is : (b c : Begun) → Some b ≡ Some c → b ≡ c
  some_is b c h = cc

  none_some : (o : Option Begun) (b : Begun) → o ≡ None → o ≡ Some b → ⊥
  none_some o b e h = cc

  -- the values of a node's operands
  module _ (f : Scene) (b : Begun) (values : ValuesFit size b) (n : ℕ) (h : Head) (ty : CType) (line : ℕ) (es : Exprs)
      (q : at_node 0 b.root n ≡ Some (expr h ty line es)) where
    pub operands : (i : ℕ) → HasSize (size_at size es i) (value_at (values_of world f b.given (suc n) es) i)
    operands = operand_sizes world f size b.given es (suc n) (λ m e v there g. values (place m Val) e v (inside h ty line es n m e there b.root 0 q) g)

    last_operand : HasSize (last_size size es) (last_value (values_of world f b.given (suc n) es))
    last_operand = last_fits world f size b.given es (suc n) (λ m e v there g. values (place m Val) e v (inside h ty line es n m e there b.root 0 q) g)

    pub own_value : (k : Kind) → HasSize (size ty) (or_nothing (b.given (place n k)))
    own_value k = perhaps_size world f size b.given (size ty) (b.given (place n k)) (λ v g. values (place n k) (expr h ty line es) v q g)

  -- the operands of an act; a list has its object
  list_operands : (x : Value) → IsPlain x → (es : Exprs) (i : ℕ) → HasSize (size_at size es i) (value_at (x ∷ []) i)
  list_operands x p es zero = plain_size (size_at size es 0) x p
  list_operands x p es (suc i) = plain_size (size_at size es (suc i)) Nothing tt

  module _ (f : Scene) (b : Begun) (fits : ExprFits size b.root) (values : ValuesFit size b) where
    pub act_fits : (who : Event) (n : ℕ) (h : Head) (ty object : CType) (line : ℕ) (es : Exprs) (k : Kind) (own : Value)
        → at_node 0 b.root n ≡ Some (expr h ty line es) → HasSize (size ty) own
        → Gives world.rows (HasSize (size ty)) (act_of world.rows who h object k (operand_values world f b.given (suc n) h es) own)
    act_fits who n (Listed slot cs) ty object line es k own q o =
        act_gives world.rows size es (pointer_to world (name_of world f slot) ∷ []) (list_operands (pointer_to world (name_of world f slot)) tt es)
        (plain_size (last_size size es) (pointer_to world (name_of world f slot)) tt) who (Listed slot cs) ty object k own tt o
    act_fits who n h ty object line es k own q o =
        act_gives world.rows size es (values_of world f b.given (suc n) es) (operands f b values n h ty line es q) (last_operand f b values n h ty line es q)
        who h ty object k own (node_fits size b.root 0 n (expr h ty line es) fits q).0 o

  abbrev pub IsFunction : CType → Type 0
  IsFunction (function result params variadic) = Unit {0}
  IsFunction ty = ⊥

  -- the function that a call leads to agrees with the function type that the call goes by
  abbrev pub Linked : Head → Exprs → List Value → Type 0
  Linked (Call discarded) es vs =
      (c : ℕ × Function) → called_by world vs ≡ Some c
      → IsFunction (target (first_type es)) × (world.agree c.1.ty (target (first_type es)) ≡ true)
  Linked h es vs = Unit {0}

  function_is : (t u : CType) → function_type t ≡ Some u → t ≡ u
  function_is (function result params variadic) u h = cc
  function_is void u h = absurd (cc)
  function_is (int k) u h = absurd (cc)
  function_is (enumeration tag) u h = absurd (cc)
  function_is (pointer c t) u h = absurd (cc)
  function_is (array c t n) u h = absurd (cc)
  function_is (struct tag) u h = absurd (cc)
  function_is (union tag) u h = absurd (cc)

  is_function : (t u : CType) → function_type t ≡ Some u → IsFunction t
  is_function (function result params variadic) u h = tt
  is_function void u h = absurd (cc)
  is_function (int k) u h = absurd (cc)
  is_function (enumeration tag) u h = absurd (cc)
  is_function (pointer c t) u h = absurd (cc)
  is_function (array c t n) u h = absurd (cc)
  is_function (struct tag) u h = absurd (cc)
  is_function (union tag) u h = absurd (cc)

  pub agreed : (number : ℕ) (fun : Function) → FunctionFits size world number fun → (t : CType) → IsFunction t → world.agree fun.ty t ≡ true
      → Keeps (result_size size fun.ty) (result_size size t)
  agreed number fun f (function result params variadic) i h = f.agrees result params variadic h
  agreed number fun f void i h = absurd i
  agreed number fun f (int k) i h = absurd i
  agreed number fun f (enumeration tag) i h = absurd i
  agreed number fun f (pointer c t) i h = absurd i
  agreed number fun f (array c t n) i h = absurd i
  agreed number fun f (struct tag) i h = absurd i
  agreed number fun f (union tag) i h = absurd i

  module _ (ok : ProgramFits size world) where
    abbrev IsCalled : Head → Exprs → List Value → Value → Type 0
    IsCalled h es vs v = IsPlain v × Linked h es vs

    library_fits : (who : Event) (ts : List CType) (vs : List Value) (o : Option LibFunc) → Gives world.rows IsPlain (library_act world who ts vs o)
    library_fits who ts vs None = tt
    library_fits who ts vs (Some g) = ok.library g who ts vs

    by_fits : (d : Bool) (es : Exprs) (all : List Value) (who : Event) (ty : CType) → target (first_type es) ≡ ty → IsFunction (target (first_type es)) →
        (ts : List CType)
        (vs : List Value) → (o : Option (ℕ × Function)) → called_by world all ≡ o → Gives world.rows (IsCalled (Call d) es all) (call_by world who ty ts vs o)
    by_fits d es all who ty e i ts vs None q = tt
    by_fits d es all who ty e i ts vs (Some c) q =
        need world.rows (IsCalled (Call d) es all) (is_some c.1.body || is_some c.1.library) InvalidPointer _
        (λ h. need world.rows (IsCalled (Call d) es all) (world.agree c.1.ty ty) IncompatibleCall (library_act world who ts vs c.1.library)
        (λ g. gives_map world.rows IsPlain (IsCalled (Call d) es all) (library_act world who ts vs c.1.library) (λ v p. (p, link g))
        (library_fits who ts vs c.1.library)))
      where
        link : world.agree c.1.ty ty ≡ true → (d : ℕ × Function) → called_by world all ≡ Some d
            → IsFunction (target (first_type es)) × (world.agree d.1.ty (target (first_type es)) ≡ true)
        link g d r =
            let same : c ≡ d = cc in
            (i, subst (λ z. world.agree z.1.ty (target (first_type es)) ≡ true) same (subst (λ z. world.agree c.1.ty z ≡ true) (sym e) g))

    through_fits : (d : Bool) (es : Exprs) (all : List Value) (who : Event) (o : Option CType) → function_type (target (first_type es)) ≡ o → (ts : List CType)
        → Gives world.rows (IsCalled (Call d) es all) (call_through world who o ts all)
    through_fits d es all who None e ts = tt
    through_fits d es all who (Some ty) e ts =
        by_fits d es all who ty (function_is (target (first_type es)) ty e) (is_function (target (first_type es)) ty e) ts (later_values all)
        (called_by world all) refl

    pub call_fits : (who : Event) (h : Head) (es : Exprs) (vs : List Value) → Gives world.rows (IsCalled h es vs) (call_act world who h es vs)
    call_fits who (Call d) es vs = through_fits d es vs who (function_type (target (first_type es))) refl (argument_types es)
    call_fits who h es vs = (tt, tt)
