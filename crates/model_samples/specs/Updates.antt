-- Increments, decrements and compound assignments (6.5.2.4, 6.5.3.1, 6.5.16.2).
use Rattle.std.specs.Prelude.{◌≡◌, true, false, [], ◌∷◌, Some, pos}
use Rattle.ub_base.specs.declared.clause.Kind.TheVariants.{Val}
use Rattle.ub_base.specs.declared.clause.Clause.TheVariants.{Exceptional, DivideByZero, OutOfBounds, ShiftCount, Indeterminate}
use Rattle.c_types.specs.declared.kind.IntKind.TheVariants as kind
use Rattle.c_types.specs.declared.kind.BinOp.TheVariants as op
use Rattle.c_typed.specs.declared.tree.Change.TheVariants as change
use Rattle.c_typed.specs.Order.{place}
use Rattle.mem_spec.specs.Streams.{silent}
use Rattle.c_model.specs.Program.{Update, Value, Declare, Return}
use Rattle.c_model.specs.FirstFinding.{Clean, Undefined}
use Rattle.model_samples.specs.Build.{int_type, node, constant, int, local, x, get, init, to_kind, increment, decrement, update, found, main, with_x}
use Rattle.model_samples.specs.Accesses.{int_pointer, byte_type, a, with_array}

-- int x=4;return x++; (6.5.2.4p2)
abbrev pub postfix : Type 0
postfix = found (with_x (int 4) (Return (increment x) ∷ [])) ≡ Clean 4 silent 10

-- int x=4;x++;return x;
abbrev pub postfix_stores : Type 0
postfix_stores = found (with_x (int 4) (Value (increment x) ∷ Return (get x) ∷ [])) ≡ Clean 5 silent 13

-- int x=4;return x--;
abbrev pub postfix_down : Type 0
postfix_down = found (with_x (int 4) (Return (decrement x) ∷ [])) ≡ Clean 4 silent 10

-- int x=4;return ++x; (6.5.3.1p2)
abbrev pub prefix : Type 0
prefix = found (with_x (int 4) (Return (update op.Add x (int 1)) ∷ [])) ≡ Clean 5 silent 10

-- int x=10;return x+=3;
abbrev pub adds : Type 0
adds = found (with_x (int 10) (Return (update op.Add x (int 3)) ∷ [])) ≡ Clean 13 silent 10

-- int x=10;return x*=3;
abbrev pub multiplies : Type 0
multiplies = found (with_x (int 10) (Return (update op.Mul x (int 3)) ∷ [])) ≡ Clean 30 silent 10

-- int x=10;return x/=3;
abbrev pub divides : Type 0
divides = found (with_x (int 10) (Return (update op.Div x (int 3)) ∷ [])) ≡ Clean 3 silent 10

-- int x=10;return x<<=2;
abbrev pub shifts : Type 0
shifts = found (with_x (int 10) (Return (update op.Shl x (int 2)) ∷ [])) ≡ Clean 40 silent 10

-- int x=10;return x&=6;
abbrev pub masks : Type 0
masks = found (with_x (int 10) (Return (update op.BitAnd x (int 6)) ∷ [])) ≡ Clean 2 silent 10

-- int x=2147483647;x++; (6.5p5)
abbrev pub past_the_greatest : Type 0
past_the_greatest = found (with_x (int 2147483647) (Value (increment x) ∷ [])) ≡ Undefined Exceptional [] 3 (Some (place 0 Val)) 1 7

-- int x=1;x/=0;
abbrev pub divides_by_zero : Type 0
divides_by_zero = found (with_x (int 1) (Value (update op.Div x (int 0)) ∷ [])) ≡ Undefined DivideByZero [] 3 (Some (place 0 Val)) 1 7

-- int x=1;x<<=32;
abbrev pub shifts_too_far : Type 0
shifts_too_far = found (with_x (int 1) (Value (update op.Shl x (int 32)) ∷ [])) ≡ Undefined ShiftCount [] 3 (Some (place 0 Val)) 1 7

-- unsigned char b=255;b+=1;return b;: worked out in int and converted (6.5.16.2p3)
abbrev pub narrow_wraps : Type 0
narrow_wraps = found (main (byte_type ∷ []) (Value (init (local 0 byte_type) (constant kind.UChar (pos 255)))
    ∷ Value (node (Update (change.Integer op.Add kind.UChar kind.Int) false) byte_type (local 0 byte_type ∷ int 1 ∷ []))
    ∷ Return (to_kind kind.Int (get (local 0 byte_type))) ∷ [])) ≡ Clean 0 silent 14

-- int*p=a;p++;return *p;
abbrev pub pointer_moves : Type 0
pointer_moves = found (with_array (int_pointer ∷ []) (Value (init (local 0 int_pointer) a)
    ∷ Value (node (Update (change.Pointer 4 false) true) int_pointer (local 0 int_pointer ∷ [])) ∷ Return (get (get (local 0 int_pointer))) ∷ []))
    ≡ Clean 5 silent 14

-- int*p=a;return *p++;: the value is that before
abbrev pub pointer_gives : Type 0
pointer_gives = found (with_array (int_pointer ∷ []) (Value (init (local 0 int_pointer) a)
    ∷ Return (get (node (Update (change.Pointer 4 false) true) int_pointer (local 0 int_pointer ∷ []))) ∷ [])) ≡ Clean 4 silent 11

-- int*p=a;p+=3;
abbrev pub pointer_leaves : Type 0
pointer_leaves = found (with_array (int_pointer ∷ []) (Value (init (local 0 int_pointer) a)
    ∷ Value (node (Update (change.Pointer 4 false) false) int_pointer (local 0 int_pointer ∷ int 3 ∷ [])) ∷ []))
    ≡ Undefined OutOfBounds [] 3 (Some (place 0 Val)) 1 7

-- int x;x++;
abbrev pub unwritten : Type 0
unwritten = found (main (int_type ∷ []) (Declare 0 ∷ Value (increment x) ∷ [])) ≡ Undefined Indeterminate [] 2 (Some (place 0 Val)) 1 4
