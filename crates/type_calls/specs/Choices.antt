-- Conditional expressions and commas (6.5.15, 6.5.17).
use Rattle.std.specs.Prelude.{ℕ, Bool, true, false, ◌||◌, if◌then◌else◌, List, [], ◌∷◌, Option, Some, None}
use Rattle.c_types.specs.declared.ty.Ty.{Ty}
use Rattle.c_types.specs.Types.{CType, void, int, pointer, struct, union, Qualified, composite, type_of}
use Rattle.c_typed.specs.declared.tree.Typed.{Typed}
use Rattle.c_typed.specs.declared.tree.Node.TheOpen as shape
use Rattle.c_types.specs.Same.{compatible}
use Rattle.type_operands.specs.Layouts.{Layouts}
use Rattle.type_operands.specs.Terms.{Term, Terms, term, none, more, term_of, type_at, before, ternary, Expression, as_value, ◌>>=◌, unless_refused}
use Rattle.type_operands.specs.Conversions.{target_of, is_void, may_meet, value, balanced, converted, discarded, is_void_expression}
use Rattle.type_conversions.specs.Casts.{truth}
use Rattle.type_conversions.specs.Pairs.{matched}

-- 1. `test ? a : b`.

-- what a pointer to one of both points to: `void` where one does, otherwise the composite type, with the qualifiers of both
-- (6.5.15p6)
abbrev pub joint_type : CType → CType → CType
joint_type a b = if is_void a || is_void b then void else composite a b

abbrev pub joint_target : Qualified → Qualified → Option Qualified
joint_target a b =
    unless_refused (may_meet a.ty b.ty) (record { constant = a.constant || b.constant; ty = joint_type a.ty b.ty })

abbrev pub pointer_to : Qualified → CType
pointer_to target = pointer target.constant target.ty

abbrev pub joint_pointer : CType → CType → Option CType
joint_pointer a b = do
  s ← target_of a
  t ← target_of b
  target ← joint_target s t
  Some (pointer_to target)

abbrev pub choice : CType → ℕ → Term → Term → Term → Expression
choice ty line test first second = as_value (ternary shape.Cond ty line test first second)

unfoldable pub chosen_pointer : Layouts → Term → Term → Term → ℕ → Option Expression
chosen_pointer tags test first second line = do
  ty ← joint_pointer (type_at first) (type_at second)
  x ← converted tags ty first
  y ← converted tags ty second
  Some (choice ty line test x y)

unfoldable pub chosen_integer : Term → Term → Term → ℕ → Option Expression
chosen_integer test first second line = balanced first second >>= λ p. Some (choice (int p.kind) line test p.left p.right)

abbrev pub chosen_whole : Term → Term → Term → ℕ → Option Expression
chosen_whole test first second line = unless_refused (compatible (type_at first) (type_at second)) (choice (type_at first) line test first second)

-- two integers in their common type, one structure or union type, or two pointers (6.5.15p3, 6.5.15p5)
abbrev pub chosen_by : CType → CType → Layouts → Term → Term → Term → ℕ → Option Expression
chosen_by (pointer c a) (pointer d b) tags test first second line = chosen_pointer tags test first second line
chosen_by (struct m) (struct n) tags test first second line = chosen_whole test first second line
chosen_by (union m) (union n) tags test first second line = chosen_whole test first second line
chosen_by a b tags test first second line = chosen_integer test first second line

abbrev pub chosen_value : Layouts → Term → Term → Term → ℕ → Option Expression
chosen_value tags test first second line = chosen_by (type_at first) (type_at second) tags test first second line

unfoldable pub chosen_values : Layouts → Term → Expression → Expression → ℕ → Option Expression
chosen_values tags test first second line = do
  x ← value tags first
  y ← value tags second
  chosen_value tags test (matched first.form x second.form y).0 (matched first.form x second.form y).1 line

abbrev pub chosen_as : Bool → Bool → Layouts → Term → Expression → Expression → ℕ → Option Expression
chosen_as true true tags test first second line = Some (choice void line test first.tree second.tree)
chosen_as false false tags test first second line = chosen_values tags test first second line
chosen_as _ _ tags test first second line = None

-- both have a value, or both are void expressions (6.5.15p2, 6.5.15p3)
unfoldable pub chosen : Layouts → Expression → Expression → Expression → ℕ → Option Expression
chosen tags test first second line =
    truth tags test >>= λ t. chosen_as (is_void_expression first) (is_void_expression second) tags t first second line

-- 2. `a, b, ..`.

-- the last operand, and the type of the value of all
pub record Last : Type 0 where
  pub term : Term
  pub ty : CType

abbrev pub last_of : Typed × Ty → Last
last_of p = record { term = term_of p.0; ty = type_of p.1 }

-- its value, or a void expression (6.5.17p2)
unfoldable pub last : Layouts → Expression → Option Last
last tags e =
    if is_void_expression e then Some (record { term = e.tree; ty = void })
    else (value tags e >>= λ t. Some (record { term = t; ty = type_at t }))

-- each operand but the last is evaluated as a void expression (6.5.17p2)
pub record Sequence : Type 0 where
  pub operands : Terms
  pub ty : CType

abbrev pub alone : Last → Sequence
alone l = record { operands = more l.term none; ty = l.ty }

abbrev pub after : Option Term → Option Sequence → Option Sequence
after (Some t) (Some s) = Some (record { operands = more t s.operands; ty = s.ty })
after _ _ = None

abbrev pub in_sequence : Layouts → List Expression → Option Sequence
in_sequence tags [] = None
in_sequence tags (e ∷ []) = last tags e >>= λ l. Some (alone l)
in_sequence tags (e ∷ es) = after (discarded tags e) (in_sequence tags es)

abbrev pub comma : CType → ℕ → Terms → Expression
comma ty line operands = as_value (term shape.Comma none ty line operands)

-- the value of the last one (6.5.17p2)
abbrev pub sequenced : Layouts → List Expression → ℕ → Option Expression
sequenced tags es line = in_sequence tags es >>= λ s. Some (comma s.ty line s.operands)

-- those without values
abbrev pub without_values : Layouts → List Expression → Option Terms
without_values tags [] = Some none
without_values tags (e ∷ es) = before (discarded tags e) (without_values tags es)
