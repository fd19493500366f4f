-- Programs whose first finding is clean, which have more than one order.
use Rattle.std.specs.Prelude.{true, [], ◌∷◌}
use Rattle.c_model.specs.Program.{Program, none, Value, Return}
use Rattle.c_model.specs.Examples.{int_decl, local, number, add, assign, increment, call, defined, program_of}

-- int f(void){return 2;}int main(void){int x=0;return x++ + f();}
-- the call comes before both halves of the update or behind them
abbrev pub call_beside : Program
call_beside = program_of (defined (int_decl ∷ []) (Value (assign true local (number 0)) ∷ Return (add (increment local) (call 1 none)) ∷ [])
    ∷ defined [] (Return (number 2) ∷ []) ∷ []) []
