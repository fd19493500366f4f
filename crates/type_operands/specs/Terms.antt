-- Typed trees as contracts see them, and what a call answers that makes one or says that a constraint forbids it.
use Rattle.std.specs.Prelude.{◌≡◌, ℕ, ℤ, Bool, if◌then◌else◌, List, [], ◌∷◌, map, Option, Some, None, Result, Ok, Err}
use Rattle.c_types.specs.Types.{CType, type_of}
use Rattle.c_typed.specs.declared.tree.Node.{Node, fold-Node}
use Rattle.c_typed.specs.declared.tree.Typed.{Typed, fold-Typed}
use Rattle.c_typed.specs.declared.tree.Node.TheOpen as shape
use Rattle.c_typed.specs.declared.tree.Node.TheOpen.{Node-F, Typed-F}
use Rattle.c_typed.specs.Sites.{Head, head_of}
use Rattle.type_operands.specs.declared.operand.Form.{Form}
use Rattle.type_operands.specs.declared.operand.Form.TheVariants as form
use Rattle.type_operands.specs.declared.operand.Operand.{Operand}
use Rattle.type_reasons.specs.declared.refused.Refused.{Refused}
use Rattle.type_reasons.specs.declared.refused.Refused.TheVariants as refused

mutual
  -- a node: what it is, the tree of its own that it holds where it is a listed initializer, its type, its line, its operands
  pub data Term : Type 0 where
    term : (head : Head) → (own : Terms) → (ty : CType) → (line : ℕ) → (operands : Terms) → Term

  pub data Terms : Type 0 where
    none : Terms
    more : Term → Terms → Terms

abbrev pub terms_from : List Term → Terms
terms_from [] = none
terms_from (t ∷ ts) = more t (terms_from ts)

pub record Seen : Type 0 where
  pub head : Head
  pub own : Terms

abbrev pub own_tree : Node-F Seen Term → Terms
own_tree (shape.Isolated t) = more t none
own_tree _ = none

abbrev pub node_step : Node-F Seen Term → Seen
node_step n = record { head = head_of n; own = own_tree n }

abbrev pub tree_step : Typed-F Seen Term → Term
tree_step t = term t.node.head t.node.own (type_of t.ty) t.line (terms_from t.children)

abbrev pub term_of : Typed → Term
term_of = fold-Typed Seen Term node_step tree_step

abbrev pub terms_of : List Typed → Terms
terms_of ts = terms_from (map term_of ts)

-- a tree before others, where both are found
abbrev pub before : Option Term → Option Terms → Option Terms
before (Some t) (Some ts) = Some (more t ts)
before _ _ = None

-- a node as it is built
abbrev pub seen_node : Node → Seen
seen_node = fold-Node Seen Term node_step tree_step

abbrev pub made : Node → CType → ℕ → List Term → Term
made node ty line operands = let n = seen_node node in term n.head n.own ty line (terms_from operands)

abbrev pub type_at : Term → CType
type_at (term head own ty line operands) = ty

abbrev pub line_at : Term → ℕ
line_at (term head own ty line operands) = line

abbrev pub retyped : CType → Term → Term
retyped ty (term head own was line operands) = term head own ty line operands

-- a node over no operand, over one, which gives its line, over two, and over three
abbrev pub leaf : Head → CType → ℕ → Term
leaf head ty line = term head none ty line none

abbrev pub over : Head → CType → Term → Term
over head ty a = term head none ty (line_at a) (more a none)

abbrev pub unary : Head → CType → ℕ → Term → Term
unary head ty line a = term head none ty line (more a none)

abbrev pub binary : Head → CType → ℕ → Term → Term → Term
binary head ty line a b = term head none ty line (more a (more b none))

abbrev pub ternary : Head → CType → ℕ → Term → Term → Term → Term
ternary head ty line a b c = term head none ty line (more a (more b (more c none)))

abbrev pub constant : ℤ → CType → ℕ → Term
constant number ty line = leaf (shape.Const number) ty line

-- an operand: its tree, what it is before its use decides on a conversion (6.3.2.1), and the line of its first token, which a load
-- of it has
pub record Expression : Type 0 where
  pub tree : Term
  pub form : Form
  pub line : ℕ

abbrev pub expression_of : Operand → Expression
expression_of o = record { tree = term_of o.tree; form = o.form; line = o.line }

abbrev pub as_value : Term → Expression
as_value t = record { tree = t; form = form.Value; line = line_at t }

abbrev pub as_place : Bool → Term → Expression
as_place register t = record { tree = t; form = form.Place register; line = line_at t }

infixl 10 ◌>>=◌
abbrev pub ◌>>=◌ : {A B : Type 0} → Option A → (A → Option B) → Option B
(Some x) >>= f = f x
None >>= f = None

abbrev pub map_option : {A B : Type 0} → (A → B) → Option A → Option B
map_option f None = None
map_option f (Some x) = Some (f x)

-- what a constraint asks for
abbrev pub unless_refused : {A : Type 0} → Bool → A → Option A
unless_refused allowed x = if allowed then Some x else None

-- What a call answers, seen by the view: what is found, or that a constraint forbids it, for whatever reason; want of memory says nothing.
abbrev pub Fails : {Y : Type 0} → Refused → Option Y → Type 0
Fails refused.NoMemory found = Unit {0}
Fails (refused.Constraint reason) found = found ≡ None

abbrev pub Gives : {X Y : Type 0} → (X → Y) → Result X Refused → Option Y → Type 0
Gives view (Ok x) found = found ≡ Some (view x)
Gives view (Err e) found = Fails e found
