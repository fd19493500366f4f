-- Small programs, and what the definitions give for them.
use Rattle.std.specs.Prelude.{◌≡◌, ℕ, zero, suc, ◌+◌, Bool, true, false, List, [], ◌∷◌, ◌++◌, length, Option, Some, None, pos}
use Rattle.ub_base.specs.declared.names.ObjName.{ObjName}
use Rattle.ub_base.specs.declared.names.ObjName.TheVariants.{Static, Auto, Heap, Lit}
use Rattle.ub_base.specs.declared.names.Item.{Item}
use Rattle.c_types.specs.declared.kind.IntKind.TheVariants as kind
use Rattle.c_types.specs.declared.kind.BinOp.TheVariants as op
use Rattle.c_types.specs.declared.library.LibFunc.{LibFunc}
use Rattle.c_types.specs.declared.library.LibFunc.TheVariants as lib
use Rattle.c_types.specs.Types as types
use Rattle.c_types.specs.Types.{CType}
use Rattle.c_types.specs.Shapes.{leaf, repeat}
use Rattle.c_typed.specs.declared.tree.Slot.TheVariants as slot
use Rattle.c_typed.specs.declared.tree.Access.TheVariants as access
use Rattle.c_typed.specs.declared.tree.Change.TheVariants as change
use Rattle.c_typed.specs.declared.tree.Conversion.TheVariants as conversion
use Rattle.c_typed.specs.declared.tree.RelOp.TheVariants as relation
use Rattle.c_typed.specs.declared.tree.EqOp.TheVariants as equality
use Rattle.c_typed.specs.declared.tree.Place.{Place}
use Rattle.addr_map.specs.declared.map.Row.{Row}
use Rattle.addr_map.specs.declared.map.Mode.TheVariants.{Spaced}
use Rattle.c_model.specs.Program.{
  Filling,
  Zeros,
  Bytes,
  Head,
  Number,
  Obj,
  Func,
  Str,
  Load,
  Conv,
  Rel,
  Eq,
  Member,
  Bin,
  Assign,
  Update,
  And,
  Comma,
  Call,
  Listed,
  Isolated,
  Expr,
  expr,
  Exprs,
  none,
  more,
  Decl,
  Stmt,
  Value,
  Empty,
  Declare,
  Block,
  If_only,
  Switch,
  While,
  For,
  Goto,
  Continue,
  Break,
  Return,
  Label,
  Case,
  Default,
  Stmts,
  end,
  and_then,
  Function,
  Standing,
  Program,
}
use Rattle.c_model.specs.World.{World, profile_limits}
use Rattle.c_model.specs.Numbering.{frame_number}
use Rattle.c_model.specs.Control.{Todo, Enter, Leave, Unwrite, Begin, ready_work}
use Rattle.c_model.specs.Steps.{Local, Begun, Pick, Control, Ev}
use Rattle.c_model.specs.Runs.{Entry, Outcome, Running, trace_of, start, step, canonical_pick, canonical_after, on_running}
use Rattle.c_model.specs.Findings.{Race, Quarrel, EndQuarrel}
use Rattle.c_model.specs.FirstFinding.{Finding, Pair, first_finding}
use Rattle.c_model.specs.Placement.{IsPlacement}
use Rattle.c_model.specs.Libraries.{library}

abbrev pub int_type : CType
int_type = types.int kind.Int

abbrev pub int_pointer : CType
int_pointer = types.pointer false int_type

abbrev pub int_function : CType
int_function = types.function int_type types.none false

abbrev pub int_decl : Decl
int_decl = record { size = 4; align = 4; constant = false; form = Some (leaf int_type); access = access.Integer kind.Int; ty = int_type }

abbrev pub number : ℕ → Expr
number n = expr (Number (pos n)) int_type 1 none

abbrev pub one : Head → Expr → Expr
one h a = expr h int_type 1 (more a none)

abbrev pub two : Head → Expr → Expr → Expr
two h a b = expr h int_type 1 (more a (more b none))

abbrev pub load : Expr → Expr
load p = one (Load (access.Integer kind.Int)) p

abbrev pub local : Expr
local = expr (Obj (slot.Auto 0 0)) int_pointer 1 none

abbrev pub second_local : Expr
second_local = expr (Obj (slot.Auto 0 1)) int_pointer 1 none

abbrev pub global : Expr
global = expr (Obj (slot.Static 0)) int_pointer 1 none

abbrev pub assign : Bool → Expr → Expr → Expr
assign first p v = two (Assign first (access.Integer kind.Int)) p v

abbrev pub add : Expr → Expr → Expr
add a b = two (Bin op.Add kind.Int) a b

abbrev pub increment : Expr → Expr
increment p = one (Update (change.Integer op.Add kind.Int kind.Int) true) p

abbrev pub call : ℕ → Exprs → Expr
call f es = expr (Call false) int_type 1 (more (expr (Func f) int_function 1 none) es)

abbrev pub statements : List Stmt → Stmts
statements [] = end
statements (s ∷ ss) = and_then s (statements ss)

-- a function `int (void)` with these objects and statements
abbrev pub defined : List Decl → List Stmt → Function
defined ds ss = record { ty = int_function; void = false; library = None; body = Some (Block 0 ds (statements ss)) }

abbrev pub library_function : CType → LibFunc → Function
library_function ty f = record { ty = ty; void = false; library = Some f; body = None }

-- an object that is filled with zeros
abbrev pub zeros : ℕ → List Filling
zeros n = record { offset = 0; content = Zeros n } ∷ []

-- `int i;` at file level
abbrev pub global_int : Standing
global_int = record { name = Static 0; decl = int_decl; literal = false; fillings = zeros 4 }

abbrev pub main_local : ObjName
main_local = Auto (record { 0 = 0 }) 1 0

abbrev pub row_of : ObjName → (base size : ℕ) → Row
row_of x base size = record { name = x; base = base; size = size; align = 4 }

-- the rows of a program with one object, of `main` or at file level
abbrev pub local_rows : List Row
local_rows = row_of main_local 16777232 4 ∷ []

abbrev pub global_rows : List Row
global_rows = row_of (Static 0) 16777232 4 ∷ []

abbrev pub any_type : CType → CType → Bool
any_type a b = true

abbrev pub program_of : List Function → List Standing → Program
program_of fs os = record { functions = fs; main = 0; standing = os }

abbrev pub world_of : Program → List Row → World
world_of p rows = record { program = p; rows = rows; agree = any_type; library = library rows; number = frame_number; limits = profile_limits }

-- after so many canonical picks from the start
abbrev pub canonical_run : Program → List Row → ℕ → Outcome
canonical_run p rows n = on_running (start (world_of p rows) [] []) (canonical_after (world_of p rows) n)

-- the first finding within a budget, on this input, without arguments
abbrev pub audit_on : List ℕ → Program → List Row → ℕ → Finding
audit_on input p rows budget = first_finding (world_of p rows) budget input []

abbrev pub audit : Program → List Row → ℕ → Finding
audit p rows budget = audit_on [] p rows budget

-- so many picks of the canonical order need these rows
abbrev pub NeedsRows : Program → List Row → ℕ → Type 0
NeedsRows p rows n = IsPlacement Spaced (world_of p rows) [] [] n

-- two evaluations of `main`, both on line 1, with their least conflicting items
abbrev pub pair_of : (turn : ℕ) → Place → Place → Item → Item → Pair
pair_of turn u v i j = record { path = []; turn = turn; event = u; line = 1; other = v; other_line = 1; items = Some (i, j) }

-- what a pick is called
pub data Called : Type 0 where
  enter : Called
  leave : Called
  declare : Called
  begin : Called
  settle : Called
  jump : Called
  event : Place → Called

abbrev pub step_called : Todo → Called
step_called (Enter b ds ∷ rest) = enter
step_called (Leave b ds ∷ rest) = leave
step_called (Unwrite d ∷ rest) = declare
step_called (Begin e what ∷ rest) = begin
step_called _ = jump

abbrev pub called : Local → Option Begun → Pick → Called
called f begun (Ev u) = event u
called f None Control = step_called (ready_work f.todo)
called f (Some e) Control = settle

-- the picks of the canonical order, at most so many
abbrev pub picks_from : World → ℕ → Outcome → List Called
picks_from world zero o = []
picks_from world (suc n) (Running st) =
    called st.top st.top.begun (canonical_pick world st.top st.top.begun) ∷ picks_from world n (step world st (canonical_pick world st.top st.top.begun))
picks_from world (suc n) o = []

abbrev pub picks_of : Program → List Row → ℕ → List Called
picks_of p rows n = picks_from (world_of p rows) n (start (world_of p rows) [] [])

-- the trace holds a race of these two events of a turn of `main`, the newer one first (6.5p2)
pub record HoldsRace (world : World) (o : Outcome) (turn : ℕ) (u v : Place) : Type 0 where
  pub newer : Entry
  pub older : Entry
  pub of_main : newer.path ≡ []
  pub of_turn : newer.turn ≡ turn
  pub race : Race world (trace_of o) newer u older v

pub record HoldsQuarrel (world : World) (o : Outcome) (turn : ℕ) (u v : Place) : Type 0 where
  pub newer : Entry
  pub older : Entry
  pub of_main : newer.path ≡ []
  pub of_turn : newer.turn ≡ turn
  pub quarrel : Quarrel world (trace_of o) newer u older v

-- the first of the events ends the run, and the other is due beside it
pub record HoldsEndQuarrel (o : Outcome) (turn : ℕ) (u v : Place) : Type 0 where
  pub entry : Entry
  pub of_main : entry.path ≡ []
  pub of_turn : entry.turn ≡ turn
  pub quarrel : EndQuarrel (trace_of o) entry u v

-- int main(void){return 0;}
abbrev pub return_zero : Program
return_zero = program_of (defined [] (Return (number 0) ∷ []) ∷ []) []

-- int main(void){int i=1;i=i+1;return i;}
abbrev pub add_one : Program
add_one = program_of (defined (int_decl ∷ [])
    (Value (assign true local (number 1)) ∷ Value (assign false local (add (load local) (number 1))) ∷ Return (load local) ∷ []) ∷ []) []

-- int main(void){int i=1;i=i++;return i;}
abbrev pub self_increment : Program
self_increment = program_of (defined (int_decl ∷ [])
    (Value (assign true local (number 1)) ∷ Value (assign false local (increment local)) ∷ Return (load local) ∷ []) ∷ []) []

-- int main(void){return 1/0;}
abbrev pub divide_by_zero : Program
divide_by_zero = program_of (defined [] (Return (two (Bin op.Div kind.Int) (number 1) (number 0)) ∷ []) ∷ []) []

-- int putchar(int);int main(void){return putchar('a')+putchar('b');}
abbrev pub print_both : Program
print_both = program_of (defined [] (Return (add (call 1 (more (number 97) none)) (call 1 (more (number 98) none))) ∷ [])
    ∷ library_function int_function lib.Putchar ∷ []) []

-- int i;int f(void){return i;}int main(void){i=1;return i++ + f();}
abbrev pub increment_and_call : Program
increment_and_call = program_of (defined [] (Value (assign false global (number 1)) ∷ Return (add (increment global) (call 1 none)) ∷ [])
    ∷ defined [] (Return (load global) ∷ []) ∷ []) (global_int ∷ [])

-- int main(void){for(;;);}
abbrev pub loop_forever : Program
loop_forever = program_of (defined [] (For None None None Empty ∷ []) ∷ []) []

-- void exit(int);int quit(void){exit(3);return 0;}int a;int main(void){return a+quit();}
abbrev pub quit_beside : Program
quit_beside = program_of (defined [] (Return (add (load global) (call 1 none)) ∷ [])
    ∷ defined [] (Value (call 2 (more (number 3) none)) ∷ Return (number 0) ∷ [])
    ∷ library_function int_function lib.Exit ∷ []) (global_int ∷ [])

-- int i;int h(int a,int b){return a+b;}int main(void){return h(i++,i);}
abbrev pub pass_both : Program
pass_both = program_of (defined [] (Return (call 1 (more (increment global) (more (load global) none))) ∷ [])
    ∷ defined (int_decl ∷ int_decl ∷ []) (Return (add (load local) (load second_local)) ∷ []) ∷ []) (global_int ∷ [])

-- int main(void){int i=1;return (i++,i)+1;}
abbrev pub comma_between : Program
comma_between = program_of (defined (int_decl ∷ [])
    (Value (assign true local (number 1)) ∷ Return (add (two Comma (increment local) (load local)) (number 1)) ∷ []) ∷ []) []

-- int main(void){int x=0,y=1;x=x++&&y;return x;}, and with another first value
abbrev pub and_beside : ℕ → Program
and_beside first = program_of (defined (int_decl ∷ int_decl ∷ [])
    (Value (assign true local (number first)) ∷ Value (assign true second_local (number 1))
    ∷ Value (assign false local (two And (increment local) (load second_local))) ∷ Return (load local) ∷ []) ∷ []) []

abbrev pub both_rows : List Row
both_rows = row_of main_local 16777232 4 ∷ row_of (Auto (record { 0 = 0 }) 1 1) 16777264 4 ∷ []

-- int main(void){int i=0;int a[2]={i++,i};return a[0];}
abbrev pub array_decl : Decl
array_decl = record {
  size = 8;
  align = 4;
  constant = false;
  form = Some (repeat 2 4 (leaf int_type));
  access = access.Whole 8 4;
  ty =
      types.array false int_type (Some 2);
}

-- the place of a member of `a`
abbrev pub element_place : ℕ → Expr
element_place offset = expr (Member offset) int_pointer 1 (more second_local none)

abbrev pub element : ℕ → Expr → Expr
element offset e = expr (Isolated (assign true (element_place offset) e)) int_type 1 none

abbrev pub list_both : Program
list_both = program_of (defined (int_decl ∷ array_decl ∷ [])
    (Value (assign true local (number 0))
    ∷ Value (expr (Listed (slot.Auto 0 1) []) int_type 1 (more (element 0 (increment local)) (more (element 4 (load local)) none)))
    ∷ Return (load (element_place 0)) ∷ []) ∷ []) []

abbrev pub list_rows : List Row
list_rows = row_of main_local 16777232 4 ∷ row_of (Auto (record { 0 = 0 }) 1 1) 16777264 8 ∷ []

-- int main(void){return E;}
abbrev pub return_of : Expr → Program
return_of e = program_of (defined [] (Return e ∷ []) ∷ []) []

abbrev pub subtract : Expr → Expr → Expr
subtract a b = two (Bin op.Sub kind.Int) a b

-- 2147483647+1
abbrev pub past_the_greatest : Program
past_the_greatest = return_of (add (number 2147483647) (number 1))

-- 1<<31
abbrev pub shift_too_far : Program
shift_too_far = return_of (two (Bin op.Shl kind.Int) (number 1) (number 31))

-- 7/2
abbrev pub divide : Program
divide = return_of (two (Bin op.Div kind.Int) (number 7) (number 2))

-- int main(void){int x;return x;}
abbrev pub unwritten_load : Program
unwritten_load = program_of (defined (int_decl ∷ []) (Declare 0 ∷ Return (load local) ∷ []) ∷ []) []

-- const int c=1;int main(void){*(int*)&c=2;return 0;}
abbrev pub store_to_const : Program
store_to_const = program_of (defined [] (Value (assign false (one (Conv (conversion.Pointer 4)) global) (number 2)) ∷ Return (number 0) ∷ []) ∷ [])
    (record {
      name = Static 0;
      decl = record int_decl { constant = true };
      literal = false;
      fillings =
          record { offset = 0; content = Bytes (1 ∷ 0 ∷ 0 ∷ 0 ∷ []) } ∷ [];
    } ∷ [])

-- int f(void){}int main(void){return f();}
abbrev pub missing_value : Program
missing_value = program_of (defined [] (Return (call 1 none) ∷ []) ∷ defined [] [] ∷ []) []

-- int f(void){}int main(void){f();return 0;}
abbrev pub value_unused : Program
value_unused = program_of (defined [] (Value (expr (Call true) int_type 1 (more (expr (Func 1) int_function 1 none) none)) ∷ Return (number 0) ∷ []) ∷ defined
    [] [] ∷ []) []

-- int getchar(void);int main(void){return getchar()-getchar();}
abbrev pub read_both : Program
read_both = program_of (defined [] (Return (subtract (call 1 none) (call 1 none)) ∷ []) ∷ library_function int_function lib.Getchar ∷ []) []

-- int getchar(void);int main(void){int c=getchar();int d=getchar();return d-c;}
abbrev pub read_in_turn : Program
read_in_turn = program_of (defined (int_decl ∷ int_decl ∷ [])
    (Value (assign true local (call 1 none)) ∷ Value (assign true second_local (call 1 none)) ∷ Return (subtract (load second_local) (load local)) ∷ [])
    ∷ library_function int_function lib.Getchar ∷ []) []

-- void exit(int);int quit(void){exit(3);return 0;}int main(void){int p;p=quit();return p;}
abbrev pub quit_alone : Program
quit_alone = program_of (defined (int_decl ∷ []) (Declare 0 ∷ Value (assign false local (call 1 none)) ∷ Return (load local) ∷ [])
    ∷ defined [] (Value (call 2 (more (number 3) none)) ∷ Return (number 0) ∷ [])
    ∷ library_function int_function lib.Exit ∷ []) []

abbrev pub decrement : Expr → Expr
decrement p = one (Update (change.Integer op.Sub kind.Int kind.Int) true) p

abbrev pub is_equal : Expr → Expr → Expr
is_equal a b = two (Eq equality.Equal) a b

-- int main(void){int i=0;again:i++;if(i<3)goto again;switch(i){case 3:i=7;break;default:i=9;}while(i>5){i--;if(i==6)continue;break;}return i;}
abbrev pub jump_about : Program
jump_about = program_of (defined (int_decl ∷ [])
    (Value (assign true local (number 0))
    ∷ Label 0 (Value (increment local))
    ∷ If_only (two (Rel relation.Less false) (load local) (number 3)) (Goto 0)
    ∷ Switch (load local) (Block 1 [] (statements
    (Case (pos 3) (Value (assign false local (number 7))) ∷ Break ∷ Default (Value (assign false local (number 9))) ∷ [])))
    ∷ While (two (Rel relation.Greater false) (load local) (number 5))
    (Block 2 [] (statements (Value (decrement local) ∷ If_only (is_equal (load local) (number 6)) Continue ∷ Break ∷ [])))
    ∷ Return (load local) ∷ []) ∷ []) []

-- int main(void){goto in;{int k;in:return 0;}}
abbrev pub jump_in : Program
jump_in = program_of (defined [] (Goto 0 ∷ Block 1 (int_decl ∷ []) (statements (Declare 0 ∷ Label 0 (Return (number 0)) ∷ [])) ∷ []) ∷ []) []

abbrev pub inner_rows : List Row
inner_rows = row_of (Auto (record { 0 = 0 }) 2 0) 16777232 4 ∷ []

abbrev pub large_decl : Decl
large_decl = record array_decl { size = 400000000 }

-- int main(void){int a[100000000];return 0;}
abbrev pub large_block : Program
large_block = program_of (defined (large_decl ∷ []) (Declare 0 ∷ Return (number 0) ∷ []) ∷ []) []

-- int a[100000000];int main(void){return 0;}
abbrev pub large_static : Program
large_static = program_of (defined [] (Return (number 0) ∷ []) ∷ []) (record { name = Static 0; decl = large_decl; literal = false; fillings = [] } ∷ [])

abbrev pub discarded_call : ℕ → Exprs → Expr
discarded_call f es = expr (Call true) types.void 1 (more (expr (Func f) int_function 1 none) es)

-- int putchar(int);int main(void){return putchar(353);}
abbrev pub print_low : Program
print_low = program_of (defined [] (Return (call 1 (more (number 353) none)) ∷ []) ∷ library_function int_function lib.Putchar ∷ []) []

abbrev pub char_type : CType
char_type = types.int kind.Char

-- the literal of this number, with its bytes and the zero behind them
abbrev pub literal_text : ℕ → List ℕ → Standing
literal_text k cs = record {
  name = Lit k;
  decl = record {
    size = length cs + 1;
    align = 1;
    constant = false;
    form = Some (repeat (length cs + 1) 1 (leaf char_type));
    access =
        access.Whole (length cs + 1) 1;
    ty = types.array false char_type (Some (length cs + 1));
  };
  literal = true;
  fillings = record { offset = 0; content = Bytes (cs ++ 0 ∷ []) } ∷ [];
}

abbrev pub text_row : Row
text_row = record { name = Lit 0; base = 16777232; size = 4; align = 1 }

-- int printf(const char*,...);int main(void){return printf("%d\n",E);}
abbrev pub print_as_int : Expr → Program
print_as_int e = program_of (defined [] (Return (call 1 (more (expr (Str 0) (types.pointer false char_type) 1 none) (more e none))) ∷ [])
    ∷ library_function int_function lib.Printf ∷ []) (literal_text 0 (37 ∷ 100 ∷ 10 ∷ []) ∷ [])

abbrev pub long_number : ℕ → Expr
long_number n = expr (Number (pos n)) (types.int kind.Long) 1 none

abbrev pub pointer_decl : Decl
pointer_decl = record { size = 8; align = 8; constant = false; form = Some (leaf int_pointer); access = access.Pointer; ty = int_pointer }

-- the place of a pointer, and the pointer
abbrev pub pointer_local : Expr
pointer_local = expr (Obj (slot.Auto 0 0)) (types.pointer false int_pointer) 1 none

abbrev pub local_pointer : Expr
local_pointer = expr (Load access.Pointer) int_pointer 1 (more pointer_local none)

-- p=malloc(4), for a declared p
abbrev pub allocate : Stmt
allocate = Value (expr (Assign true access.Pointer) int_pointer 1 (more pointer_local
    (more (expr (Conv (conversion.Pointer 4)) int_pointer 1
    (more (expr (Call false) (types.pointer false types.void) 1
    (more (expr (Func 1) int_function 1 none) (more (expr (Number (pos 4)) (types.int kind.ULong) 1 none) none))) none)) none)))

-- free(E)
abbrev pub release : Expr → Stmt
release e = Value (discarded_call 2 (more (expr (Conv (conversion.Pointer 1)) (types.pointer false types.void) 1 (more e none)) none))

-- void*malloc(unsigned long);void free(void*);
abbrev pub with_heap : Function → Program
with_heap f = program_of (f ∷ library_function int_function lib.Malloc ∷ library_function int_function lib.Free ∷ []) []

-- int main(void){int*p=malloc(4);*p=7;int i=*p;free(p);return i;}
abbrev pub allocate_once : Program
allocate_once = with_heap (defined (pointer_decl ∷ int_decl ∷ [])
    (allocate ∷ Value (assign false local_pointer (number 7)) ∷ Value (assign true second_local (load local_pointer)) ∷ release local_pointer ∷ Return
    (load second_local) ∷ []))

-- int main(void){int*p=malloc(4);free(p);free(p);return 0;}
abbrev pub release_twice : Program
release_twice = with_heap (defined (pointer_decl ∷ int_decl ∷ []) (allocate ∷ release local_pointer ∷ release local_pointer ∷ Return (number 0) ∷ []))

-- int main(void){int i;free(&i);return 0;}
abbrev pub release_local : Program
release_local = with_heap (defined (int_decl ∷ []) (Declare 0 ∷ release local ∷ Return (number 0) ∷ []))

-- `p`, an int, and what the fourth node of the first full expression allocates
abbrev pub heap_rows : List Row
heap_rows = record { name = main_local; base = 16777232; size = 8; align = 8 } ∷ row_of (Auto (record { 0 = 0 }) 1 1) 16777264 4
    ∷ record { name = Heap (record { 0 = 0 }) 2 3; base = 16777296; size = 4; align = 16 } ∷ []

abbrev pub wide_decl : Decl
wide_decl = record array_decl {
  size = 67108848;
  form = Some (repeat 16777212 4 (leaf int_type));
  access = access.Whole 67108848 4;
  ty =
      types.array false int_type (Some 16777212);
}

-- int main(void){int a[16777212];malloc(N);return 0;}
abbrev pub allocate_beside : ℕ → Program
allocate_beside n = with_heap (defined (wide_decl ∷ [])
    (Declare 0 ∷ Value (discarded_call 1 (more (expr (Number (pos n)) (types.int kind.ULong) 1 none) none)) ∷ Return (number 0) ∷ []))

-- the array alone has a row
abbrev pub wide_rows : List Row
wide_rows = record { name = main_local; base = 16777232; size = 67108848; align = 4 } ∷ []
