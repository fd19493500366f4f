-- What the parts of a small typed program are seen as.
use Rattle.std.proofs.Common.{refl, sym, ap, ap₂, ◌∙◌, ◌≡◌, ℕ, ℤ, Bool, true, false, List, [], ◌∷◌, ◌++◌, map, Option, Some, None, pos, rules}
use Rattle.c_types.specs.declared.kind.IntKind.TheVariants as kind
use Rattle.c_types.specs.declared.kind.BinOp.TheVariants as op
use Rattle.c_types.specs.declared.tags.Tag.{Tag}
use Rattle.c_types.specs.declared.ty.Ty.{Ty}
use Rattle.c_types.specs.declared.ty.Ty.TheFolds as types
use Rattle.c_types.specs.declared.ty.Qual.{Qual}
use Rattle.c_types.specs.declared.ty.FuncTy.{FuncTy}
use Rattle.c_types.specs.Types.{CType, int, pointer, type_of, qualified_of, signature_of, Signature}
use Rattle.c_typed.specs.declared.tree.Access.{Access}
use Rattle.c_typed.specs.declared.tree.Access.TheVariants as access
use Rattle.c_typed.specs.declared.tree.Change.TheVariants as change
use Rattle.c_typed.specs.declared.tree.EqOp.TheVariants as equality
use Rattle.c_typed.specs.declared.tree.RelOp.{RelOp}
use Rattle.c_typed.specs.declared.tree.Slot.{Slot}
use Rattle.c_typed.specs.declared.tree.Node.{Node, fold-Node, fold-roll-Node, map-Node, roll-Node}
use Rattle.c_typed.specs.declared.tree.Node.TheOpen as shape
use Rattle.c_typed.specs.declared.tree.Node.TheOpen.{Node-F}
use Rattle.c_typed.specs.declared.tree.Node.TheVariants as node
use Rattle.c_typed.specs.declared.tree.Typed.{Typed, fold-roll-Typed}
use Rattle.c_typed.specs.declared.statement.Body.{Body}
use Rattle.c_typed.specs.declared.statement.Body.TheFolds as folds
use Rattle.c_typed.specs.declared.statement.Body.TheVariants as body
use Rattle.c_typed.specs.declared.statement.Entry.{Entry}
use Rattle.c_typed.specs.declared.statement.Entry.TheVariants as entry
use Rattle.c_typed.specs.declared.program.Function.{Function}
use Rattle.c_typed.specs.declared.program.Static.{Static}
use Rattle.c_model.specs.Program as model
use Rattle.c_model.specs.Program.{Head, Expr, expr, Exprs, none, more, Decl, Standing, Stmt}
use Rattle.c_model.specs.Examples as seen
use Rattle.program_view.specs.Trees.{node_head, typed_expr, expr_of, exprs_of}
use Rattle.program_view.specs.Objects.{decl_of, statics_from, literals_from, given_to_main}
use Rattle.program_view.specs.Statements.{in_turn, as_block, stmt_of, inner_of, entry_of, definition}
use Rattle.program_view.specs.View.{function_of, type_by, is_void, has_parameters, model_of}
use Rattle.program_view.specs.Build as build
use Rattle.program_view.specs.Build.{int_ty, plain, pointer_ty, tree, number, object, get, load, assign, increment, compared, is_equal}
use Rattle.program_view.specs.Build.{value, only_if, returning, says, block, program_of}
use Rattle.program_view.proofs.Equations.{stmt-simple, stmt-block, stmt-if_only, stmt-switch, stmt-while, stmt-return, stmt-label, stmt-case, stmt-default}
use Rattle.program_view.proofs.Equations.{entry-statement, entry-initializer, definition-block}

-- types

pub int_is : type_of int_ty ≡ int kind.Int
int_is = search (rules, types.the_lemmas)

pub plain_is : (t : Ty) → qualified_of (plain t) ≡ record { constant = false; ty = type_of t }
plain_is t = search (rules, types.the_lemmas)

pub pointer_is : (t : Ty) → type_of (pointer_ty t) ≡ pointer false (type_of t)
pointer_is t = search (rules, types.the_lemmas)

-- expressions

abbrev head_of : Node → CType → Head
head_of = fold-Node (CType → Head) Expr node_head typed_expr

abbrev head_in : Node-F Node Typed → CType → Head
head_in d = node_head (map-Node Node Typed (CType → Head) Expr head_of expr_of d)

pub tree_is : (n : Node) (d : Node-F Node Typed) (t : Ty) (ts : List Typed) (ty : CType) (es : Exprs) → roll-Node d ≡ n → type_of t ≡ ty
    → exprs_of ts ≡ es → expr_of (tree n t ts) ≡ expr (head_in d ty) ty 1 es
tree_is n d t ts ty es e h k =
    fold-roll-Typed (CType → Head) Expr node_head typed_expr (record { node = n; ty = t; line = 1; children = ts })
    ∙ (ap (λ y. expr (head_of n y) y 1 (exprs_of ts)) h
    ∙ (ap (λ z. expr (head_of z ty) ty 1 (exprs_of ts)) (sym e)
    ∙ (ap (λ (g : CType → Head). expr (g ty) ty 1 (exprs_of ts)) (fold-roll-Node (CType → Head) Expr node_head typed_expr d)
    ∙ ap (λ z. expr (head_in d ty) ty 1 z) k)))

pub number_is : (n : ℕ) → expr_of (number n) ≡ seen.number n
number_is n = tree_is (node.Const (pos n)) (shape.Const (pos n)) int_ty [] (int kind.Int) none (node.rolls-Const (pos n)) int_is refl

pub object_is : (s : Slot) (t : Ty) (ty : CType) → type_of t ≡ ty → expr_of (object s t) ≡ expr (model.Obj s) (pointer false ty) 1 none
object_is s t ty h = tree_is (node.Obj s) (shape.Obj s) (pointer_ty t) [] (pointer false ty) none (node.rolls-Obj s) (pointer_is t ∙ ap (pointer false) h) refl

pub one : (a : Typed) (e : Expr) → expr_of a ≡ e → exprs_of (a ∷ []) ≡ more e none
one a e h = ap (λ z. more z none) h

pub two : (a b : Typed) (e f : Expr) → expr_of a ≡ e → expr_of b ≡ f → exprs_of (a ∷ b ∷ []) ≡ more e (more f none)
two a b e f h k = ap₂ (λ y z. more y (more z none)) h k

pub get_is : (how : Access) (t : Ty) (p : Typed) (ty : CType) (e : Expr) → type_of t ≡ ty → expr_of p ≡ e
    → expr_of (get how t p) ≡ expr (model.Load how) ty 1 (more e none)
get_is how t p ty e h k = tree_is (node.Load how) (shape.Load how) t (p ∷ []) ty (more e none) (node.rolls-Load how) h (one p e k)

pub load_is : (p : Typed) (e : Expr) → expr_of p ≡ e → expr_of (load p) ≡ seen.load e
load_is p e h = get_is (access.Integer kind.Int) int_ty p (int kind.Int) e int_is h

pub assign_is : (first : Bool) (p v : Typed) (a b : Expr) → expr_of p ≡ a → expr_of v ≡ b → expr_of (assign first p v) ≡ seen.assign first a b
assign_is first p v a b h k =
    tree_is (node.Assign first (access.Integer kind.Int)) (shape.Assign first (access.Integer kind.Int)) int_ty (p ∷ v ∷ []) (int kind.Int)
    (more a (more b none)) (node.rolls-Assign first (access.Integer kind.Int)) int_is (two p v a b h k)

pub increment_is : (p : Typed) (e : Expr) → expr_of p ≡ e → expr_of (increment p) ≡ seen.increment e
increment_is p e h =
    let c = change.Integer op.Add kind.Int kind.Int in
    tree_is (node.Update c true) (shape.Update c true) int_ty (p ∷ []) (int kind.Int) (more e none) (node.rolls-Update c true) int_is (one p e h)

pub compared_is : (how : RelOp) (a b : Typed) (e f : Expr) → expr_of a ≡ e → expr_of b ≡ f
    → expr_of (compared how a b) ≡ seen.two (model.Rel how false) e f
compared_is how a b e f h k =
    tree_is (node.Rel how false) (shape.Rel how false) int_ty (a ∷ b ∷ []) (int kind.Int) (more e (more f none)) (node.rolls-Rel how false) int_is
    (two a b e f h k)

pub equal_is : (a b : Typed) (e f : Expr) → expr_of a ≡ e → expr_of b ≡ f → expr_of (is_equal a b) ≡ seen.is_equal e f
equal_is a b e f h k =
    tree_is (node.Eq equality.Equal) (shape.Eq equality.Equal) int_ty (a ∷ b ∷ []) (int kind.Int) (more e (more f none)) (node.rolls-Eq equality.Equal)
    int_is (two a b e f h k)

-- statements

pub cons : {A : Type 0} (x y : A) (xs ys : List A) → x ≡ y → xs ≡ ys → x ∷ xs ≡ y ∷ ys
cons x y xs ys h k = ap₂ (λ z zs. z ∷ zs) h k

abbrev pub decls : List Tag → List Qual → List Decl
decls tags qs = map (λ q. decl_of tags (qualified_of q)) qs

inner_is : (tags : List Tag) (n : ℕ) (qs : List Qual) (es : List Entry)
    → inner_of tags (block n qs es) ≡ record { number = n; decls = decls tags qs; statements = map (entry_of tags) es }
inner_is tags n qs es = search (rules, folds.the_lemmas)

module _ (tags : List Tag) where
  pub block_is : (n : ℕ) (qs : List Qual) (es : List Entry) (ds : List Decl) (ss : List Stmt) → decls tags qs ≡ ds → map (entry_of tags) es ≡ ss
      → stmt_of tags (body.Block (block n qs es)) ≡ model.Block n ds (in_turn ss)
  block_is n qs es ds ss h k =
      stmt-block tags (block n qs es) ∙ (ap as_block (inner_is tags n qs es) ∙ ap₂ (λ a b. model.Block n a (in_turn b)) h k)

  pub value_is : (t : Typed) (e : Expr) → expr_of t ≡ e → stmt_of tags (value t) ≡ model.Value e
  value_is t e h = stmt-simple tags (Some t) ∙ ap model.Value h

  pub returning_is : (t : Typed) (e : Expr) → expr_of t ≡ e → stmt_of tags (returning t) ≡ model.Return e
  returning_is t e h = stmt-return tags (Some t) ∙ ap model.Return h

  pub only_if_is : (t : Typed) (x : Body) (e : Expr) (s : Stmt) → expr_of t ≡ e → stmt_of tags x ≡ s → stmt_of tags (only_if t x) ≡ model.If_only e s
  only_if_is t x e s h k = stmt-if_only tags t x ∙ ap₂ model.If_only h k

  pub while_is : (t : Typed) (x : Body) (e : Expr) (s : Stmt) → expr_of t ≡ e → stmt_of tags x ≡ s → stmt_of tags (body.While t x) ≡ model.While e s
  while_is t x e s h k = stmt-while tags t x ∙ ap₂ (λ a b. model.While a b) h k

  pub switch_is : (t : Typed) (x : Body) (e : Expr) (s : Stmt) → expr_of t ≡ e → stmt_of tags x ≡ s → stmt_of tags (body.Switch t x) ≡ model.Switch e s
  switch_is t x e s h k = stmt-switch tags t x ∙ ap₂ model.Switch h k

  pub case_is : (z : ℤ) (x : Body) (s : Stmt) → stmt_of tags x ≡ s → stmt_of tags (body.Case z x) ≡ model.Case z s
  case_is z x s h = stmt-case tags z x ∙ ap (model.Case z) h

  pub default_is : (x : Body) (s : Stmt) → stmt_of tags x ≡ s → stmt_of tags (body.Default x) ≡ model.Default s
  default_is x s h = stmt-default tags x ∙ ap model.Default h

  pub label_is : (k : ℕ) (x : Body) (s : Stmt) → stmt_of tags x ≡ s → stmt_of tags (body.Label k x) ≡ model.Label k s
  label_is k x s h = stmt-label tags k x ∙ ap (model.Label k) h

  pub says_is : (x : Body) (s : Stmt) → stmt_of tags x ≡ s → entry_of tags (says x) ≡ s
  says_is x s h = entry-statement tags x ∙ h

  pub initializer_is : (t : Typed) (e : Expr) → expr_of t ≡ e → entry_of tags (entry.Initializer t) ≡ model.Value e
  initializer_is t e h = entry-initializer tags t ∙ ap model.Value h

  pub function_is : (t : FuncTy) (qs : List Qual) (es : List Entry) (f : Signature) (ds : List Decl) (ss : List Stmt)
      → signature_of t ≡ f → decls tags qs ≡ ds → map (entry_of tags) es ≡ ss
      → function_of tags (build.defined t qs es)
      ≡ record { ty = type_by f; void = is_void f.result; library = None; body = Some (model.Block 0 ds (in_turn ss)) }
  function_is t qs es f ds ss g h k =
      let made : CType → Bool → Option Stmt → model.Function = λ ty v b. record { ty = ty; void = v; library = None; body = b } in
      let b : Option Stmt = definition tags (Some (body.Block (block 0 qs es))) in
      ap (λ (s : Signature). made (type_by s) (is_void s.result) b) g
      ∙ ap (made (type_by f) (is_void f.result)) (definition-block tags (block 0 qs es) ∙ (ap (λ z. Some (as_block z)) (inner_is tags 0 qs es)
      ∙ ap₂ (λ a c. Some (model.Block 0 a (in_turn c))) h k))

  -- a program whose first function is `main`
  pub program_is : (t : FuncTy) (qs : List Qual) (es : List Entry) (fs : List Function) (ss : List Static) (ls arguments : List (List ℕ)) (f : Signature)
      (gs : List model.Function) (os : List Standing) → signature_of t ≡ f → map (function_of tags) (build.defined t qs es ∷ fs) ≡ gs
      → statics_from tags 0 ss ≡ os
      → model_of (program_of tags (build.defined t qs es ∷ fs) ss ls) arguments
      ≡ seen.program_of gs (os ++ (literals_from 0 ls ++ given_to_main (has_parameters f.params) arguments))
  program_is t qs es fs ss ls arguments f gs os h k l =
      let rest : Bool → List Standing = λ b. literals_from 0 ls ++ given_to_main b arguments in
      ap₂ (λ a b. seen.program_of a (b ++ rest (has_parameters (signature_of t).params))) k l
      ∙ ap (λ (s : Signature). seen.program_of gs (os ++ rest (has_parameters s.params))) h
