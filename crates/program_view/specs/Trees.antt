-- A typed tree as the model sees it.
use Rattle.std.specs.Prelude.{ℕ, ◌==◌, Bool, true, false, ◌&&◌, List, [], ◌∷◌, map, if◌then◌else◌, ℤ, unsigned_abs}
use Rattle.ub_base.specs.declared.names.ObjName.TheVariants as object
use Rattle.c_types.specs.Types.{CType, pointer, type_of}
use Rattle.c_typed.specs.declared.tree.Target.{Target}
use Rattle.c_typed.specs.declared.tree.Target.TheVariants as target
use Rattle.c_typed.specs.declared.tree.Node.TheOpen as shape
use Rattle.c_typed.specs.declared.tree.Node.TheOpen.{Node-F, Typed-F}
use Rattle.c_typed.specs.declared.tree.Typed.{Typed, fold-Typed}
use Rattle.c_typed.specs.declared.program.Content.{Content}
use Rattle.c_typed.specs.declared.program.Content.TheVariants as content
use Rattle.c_typed.specs.declared.program.Constant.{Constant}
use Rattle.c_model.specs.Program as model
use Rattle.c_model.specs.Program.{Filling, Head, Expr, expr, Exprs, none, more}

-- an address constant (6.6p9)
abbrev pub address_of : Target → ℕ → model.Content
address_of (target.Static n) offset = model.Object_at (object.Static n) offset
address_of (target.Literal n) offset = model.Object_at (object.Lit n) offset
address_of (target.Function n) offset = model.Function_at n

abbrev pub content_of : Content → model.Content
content_of (content.Zeros n) = model.Zeros n
content_of (content.Bytes bytes) = model.Bytes bytes
content_of (content.Address names offset) = address_of names offset

abbrev pub filling_of : Constant → Filling
filling_of c = record { offset = c.at; content = content_of c.content }

abbrev pub is_pointer : CType → Bool
is_pointer (pointer constant ty) = true
is_pointer ty = false

-- an integer, or a null pointer where the type is a pointer type and the number 0 (6.3.2.3p3)
abbrev pub constant_head : ℤ → CType → Head
constant_head z ty = if is_pointer ty && (unsigned_abs z == 0) then model.Null else model.Number z

abbrev pub node_head : Node-F (CType → Head) Expr → CType → Head
node_head (shape.Const z) ty = constant_head z ty
node_head (shape.Obj slot) ty = model.Obj slot
node_head (shape.Func k) ty = model.Func k
node_head (shape.Str k) ty = model.Str k
node_head (shape.Load access) ty = model.Load access
node_head (shape.Conv c) ty = model.Conv c
node_head (shape.Un op) ty = model.Un op
node_head (shape.Bin op kind) ty = model.Bin op kind
node_head (shape.PtrAdd size subtract) ty = model.PtrAdd size subtract
node_head (shape.PtrDiff size) ty = model.PtrDiff size
node_head (shape.Rel op pointers) ty = model.Rel op pointers
node_head (shape.Eq op) ty = model.Eq op
node_head (shape.Member offset) ty = model.Member offset
node_head (shape.Part offset access) ty = model.Part offset access
node_head (shape.Assign initializing access) ty = model.Assign initializing access
node_head (shape.Update change old) ty = model.Update change old
node_head shape.And ty = model.And
node_head shape.Or ty = model.Or
node_head shape.Cond ty = model.Cond
node_head shape.Comma ty = model.Comma
node_head (shape.Call discarded) ty = model.Call discarded
node_head (shape.List slot bytes) ty = model.Listed slot (map filling_of bytes)
node_head (shape.Isolated tree) ty = model.Isolated tree

abbrev pub exprs_from : List Expr → Exprs
exprs_from [] = none
exprs_from (e ∷ es) = more e (exprs_from es)

abbrev pub typed_expr : Typed-F (CType → Head) Expr → Expr
typed_expr t = expr (t.node (type_of t.ty)) (type_of t.ty) t.line (exprs_from t.children)

-- the model's expression of a typed tree
abbrev pub expr_of : Typed → Expr
expr_of = fold-Typed (CType → Head) Expr node_head typed_expr

abbrev pub exprs_of : List Typed → Exprs
exprs_of ts = exprs_from (map expr_of ts)
