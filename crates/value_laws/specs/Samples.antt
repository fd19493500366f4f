-- A program that keeps the sizes of its types: it passes, returns and assigns a structure.
use Rattle.std.specs.Prelude.{ℕ, false, List, [], ◌∷◌, Some, None}
use Rattle.addr_map.specs.declared.map.Row.{Row}
use Rattle.c_types.specs.Types.{CType, struct, pointer, function}
use Rattle.c_types.specs.Types as types
use Rattle.c_types.specs.Same.{compatible}
use Rattle.c_typed.specs.declared.tree.Access.{Access}
use Rattle.c_typed.specs.declared.tree.Access.TheVariants as access
use Rattle.c_typed.specs.declared.tree.Slot.TheVariants as slot
use Rattle.c_model.specs.Program.{Obj, Func, Load, Assign, Call, Expr, expr, none, more, Decl, Value, Block, Return, Function, Program}
use Rattle.c_model.specs.World.{World}
use Rattle.c_model.specs.Examples.{number, statements, defined, program_of, world_of}
use Rattle.value_laws.specs.Sizes.{Sizes, ProgramFits}
use Rattle.value_laws.specs.Parameters.{ProgramTakes}

-- struct pair { int a, b; };
abbrev pub pair_type : CType
pair_type = struct 0

abbrev pub pair_access : Access
pair_access = access.Whole 8 4

abbrev pub pair_decl : Decl
pair_decl = record { size = 8; align = 4; constant = false; form = None; access = pair_access; ty = pair_type }

abbrev pub pair_sizes : Sizes
pair_sizes (struct tag) = Some 8
pair_sizes ty = None

abbrev pub pair_local : ℕ → Expr
pair_local k = expr (Obj (slot.Auto 0 k)) (pointer false pair_type) 1 none

abbrev pub load_pair : Expr → Expr
load_pair place = expr (Load pair_access) pair_type 1 (more place none)

-- struct pair same(struct pair p){return p;}
abbrev pub same_type : CType
same_type = function pair_type (types.more false pair_type types.none) false

abbrev pub same_function : Function
same_function = record {
  ty = same_type;
  void = false;
  library = None;
  body = Some
      (Block 0 (pair_decl ∷ []) (statements (Return (load_pair (pair_local 0)) ∷ [])));
}

abbrev pub call_same : Expr → Expr
call_same e = expr (Call false) pair_type 1 (more (expr (Func 1) (pointer false same_type) 1 none) (more e none))

-- int main(void){struct pair p;struct pair q;q=same(p);return 0;}
abbrev pub main_function : Function
main_function =
    defined (pair_decl ∷ pair_decl ∷ [])
    (Value (expr (Assign false pair_access) pair_type 1 (more (pair_local 1) (more (call_same (load_pair (pair_local 0))) none))) ∷ Return (number 0) ∷ [])

abbrev pub pair_program : Program
pair_program = program_of (main_function ∷ same_function ∷ []) []

-- under any rows, with the library, and function types that agree where they are compatible
abbrev pub pair_world : List Row → World
pair_world rows = record (world_of pair_program rows) { agree = compatible }

pub record PairsFit : Type 0 where
  pub fits : (rows : List Row) → ProgramFits pair_sizes (pair_world rows)
  pub takes : (rows : List Row) → ProgramTakes pair_sizes (pair_world rows) []
