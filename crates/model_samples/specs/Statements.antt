-- Statements (6.8). A full expression takes two picks and one for each event, a block one as it is entered and one as it is left.
use Rattle.std.specs.Prelude.{◌≡◌, [], ◌∷◌, Some, None, pos}
use Rattle.ub_base.specs.declared.clause.Kind.TheVariants.{Val}
use Rattle.ub_base.specs.declared.clause.Clause.TheVariants.{Indeterminate}
use Rattle.c_typed.specs.declared.tree.RelOp.TheVariants as relation
use Rattle.c_typed.specs.Order.{place}
use Rattle.mem_spec.specs.Streams.{silent}
use Rattle.c_model.specs.Program.{Value, Empty, Declare, If, If_only, Switch, While, Do, For, Goto, Continue, Break, Return, Label, Case, Default}
use Rattle.c_model.specs.FirstFinding.{Clean, Undefined}
use Rattle.model_samples.specs.Build.{int_type, int, local_of, x, y, get, set, init, less, increment, decrement, block, main_function, sample, found}
use Rattle.model_samples.specs.Build.{main, with_x, frame_object, main_object}

-- ;return 0; (6.8.3p3)
abbrev pub null_statement : Type 0
null_statement = found (main [] (Empty ∷ Return (int 0) ∷ [])) ≡ Clean 0 silent 5

-- int main(void){}: the status is 0 (5.1.2.2.3p1)
abbrev pub falls_off : Type 0
falls_off = found (main [] []) ≡ Clean 0 silent 2

-- 1;return 0;
abbrev pub unused : Type 0
unused = found (main [] (Value (int 1) ∷ Return (int 0) ∷ [])) ≡ Clean 0 silent 6

-- if(1)return 3;else return 4; (6.8.4.1p2)
abbrev pub if_true : Type 0
if_true = found (main [] (If (int 1) (Return (int 3)) (Return (int 4)) ∷ [])) ≡ Clean 3 silent 6

-- if(0)return 3;else return 4;
abbrev pub if_false : Type 0
if_false = found (main [] (If (int 0) (Return (int 3)) (Return (int 4)) ∷ [])) ≡ Clean 4 silent 6

-- if(1)return 3;return 4;
abbrev pub if_only_true : Type 0
if_only_true = found (main [] (If_only (int 1) (Return (int 3)) ∷ Return (int 4) ∷ [])) ≡ Clean 3 silent 6

-- if(0)return 3;return 4;
abbrev pub if_only_false : Type 0
if_only_false = found (main [] (If_only (int 0) (Return (int 3)) ∷ Return (int 4) ∷ [])) ≡ Clean 4 silent 6

-- int x;if(&x)return 1;return 2;
abbrev pub if_of_pointer : Type 0
if_of_pointer = found (main (int_type ∷ []) (If_only x (Return (int 1)) ∷ Return (int 2) ∷ [])) ≡ Clean 1 silent 6

-- switch(2){case 1:return 1;case 2:return 2;default:return 3;} (6.8.4.2p5)
abbrev pub case : Type 0
case = found (main [] (Switch (int 2) (block 1 [] (Case (pos 1) (Return (int 1)) ∷ Case (pos 2) (Return (int 2)) ∷ Default (Return (int 3)) ∷ []))
    ∷ [])) ≡ Clean 2 silent 8

-- switch(5){case 1:return 1;default:return 3;}
abbrev pub default : Type 0
default = found (main [] (Switch (int 5) (block 1 [] (Case (pos 1) (Return (int 1)) ∷ Default (Return (int 3)) ∷ [])) ∷ [])) ≡ Clean 3 silent 8

-- switch(1){default:return 9;case 1:return 1;}
abbrev pub default_first : Type 0
default_first = found (main [] (Switch (int 1) (block 1 [] (Default (Return (int 9)) ∷ Case (pos 1) (Return (int 1)) ∷ [])) ∷ [])) ≡ Clean 1 silent 8

-- switch(1){case 1:;case 2:return 2;}
abbrev pub falls_through : Type 0
falls_through = found (main [] (Switch (int 1) (block 1 [] (Case (pos 1) (Empty) ∷ Case (pos 2) (Return (int 2)) ∷ [])) ∷ [])) ≡ Clean 2 silent 9

-- switch(1){case 1:break;}return 7; (6.8.6.3)
abbrev pub case_break : Type 0
case_break = found (main [] (Switch (int 1) (block 1 [] (Case (pos 1) (Break) ∷ [])) ∷ Return (int 7) ∷ [])) ≡ Clean 7 silent 9

-- switch(1)case 1:return 6;
abbrev pub case_alone : Type 0
case_alone = found (main [] (Switch (int 1) (Case (pos 1) (Return (int 6))) ∷ [])) ≡ Clean 6 silent 6

-- switch(1)do case 1:return 5;while(1);
abbrev pub case_in_loop : Type 0
case_in_loop = found (main [] (Switch (int 1) (Do (Case (pos 1) (Return (int 5))) (int 1)) ∷ [])) ≡ Clean 5 silent 6

-- switch(2){switch(0)case 2:return 1;return 2;default:return 3;}: an inner switch has its own (6.8.4.2p3)
abbrev pub inner_case : Type 0
inner_case = found (main [] (Switch (int 2) (block 1 [] (Switch (int 0) (Case (pos 2) (Return (int 1))) ∷ Return (int 2) ∷ Default (Return (int 3))
    ∷ [])) ∷ [])) ≡ Clean 3 silent 8

-- int x=2;while(x)x--;return x; (6.8.5.1)
abbrev pub while_loop : Type 0
while_loop = found (with_x (int 2) (While (get x) (Value (decrement x)) ∷ Return (get x) ∷ [])) ≡ Clean 0 silent 26

-- int x=2;do x--;while(x);return x; (6.8.5.2)
abbrev pub do_loop : Type 0
do_loop = found (with_x (int 2) (Do (Value (decrement x)) (get x) ∷ Return (get x) ∷ [])) ≡ Clean 0 silent 23

-- int x;for(x=0;x<2;x++);return x; (6.8.5.3)
abbrev pub for_loop : Type 0
for_loop = found (main (int_type ∷ []) (For (Some (set x (int 0))) (Some (less relation.Less (get x) (int 2))) (Some (increment x)) Empty
    ∷ Return (get x) ∷ [])) ≡ Clean 2 silent 31

-- for(;;)return 5;
abbrev pub for_ever : Type 0
for_ever = found (main [] (For None None None (Return (int 5)) ∷ [])) ≡ Clean 5 silent 4

-- for(;0;);return 1;
abbrev pub for_test : Type 0
for_test = found (main [] (For None (Some (int 0)) None Empty ∷ Return (int 1) ∷ [])) ≡ Clean 1 silent 6

-- int x=0;for(;;x++)if(x)return x;
abbrev pub for_step : Type 0
for_step = found (with_x (int 0) (For None None (Some (increment x)) (If_only (get x) (Return (get x))) ∷ [])) ≡ Clean 1 silent 19

-- int x;for(x=3;;)return x;
abbrev pub for_start : Type 0
for_start = found (main (int_type ∷ []) (For (Some (set x (int 3))) None None (Return (get x)) ∷ [])) ≡ Clean 3 silent 9

-- for(int k=1;k;)return k;: a block round the loop (6.8.5p5)
abbrev pub for_declared : Type 0
for_declared = found (sample (main_function [] (block 1 (int_type ∷ [])
    (Value (init (local_of 1 0 int_type) (int 1)) ∷ For None (Some (get (local_of 1 0 int_type))) None (Return (get (local_of 1 0 int_type))) ∷ [])
    ∷ []) ∷ []) [] ((frame_object [] 2 0, int_type) ∷ [])) ≡ Clean 1 silent 14

-- int x;for(x=0;x<2;x++)continue;return x; (6.8.6.2)
abbrev pub for_continue : Type 0
for_continue = found (main (int_type ∷ []) (For (Some (set x (int 0))) (Some (less relation.Less (get x) (int 2))) (Some (increment x)) Continue
    ∷ Return (get x) ∷ [])) ≡ Clean 2 silent 31

-- int x=1;while(x){x=0;continue;}return x;
abbrev pub while_continue : Type 0
while_continue = found (with_x (int 1) (While (get x) (block 1 [] (Value (set x (int 0)) ∷ Continue ∷ [])) ∷ Return (get x) ∷ [])) ≡ Clean 0 silent 22

-- while(1){break;}return 2;
abbrev pub while_break : Type 0
while_break = found (main [] (While (int 1) (block 1 [] (Break ∷ [])) ∷ Return (int 2) ∷ [])) ≡ Clean 2 silent 9

-- goto out;return 1;out:return 2; (6.8.6.1)
abbrev pub goto_forward : Type 0
goto_forward = found (main [] (Goto 0 ∷ Return (int 1) ∷ Label 0 (Return (int 2)) ∷ [])) ≡ Clean 2 silent 5

-- int x=0;again:x++;if(x<2)goto again;return x;
abbrev pub goto_back : Type 0
goto_back = found (with_x (int 0) (Label 0 (Value (increment x)) ∷ If_only (less relation.Less (get x) (int 2)) (Goto 0) ∷ Return (get x) ∷ []))
    ≡ Clean 2 silent 26

-- goto in;while(0)in:return 4;
abbrev pub goto_into_loop : Type 0
goto_into_loop = found (main [] (Goto 0 ∷ While (int 0) (Label 0 (Return (int 4))) ∷ [])) ≡ Clean 4 silent 5

-- goto in;if(0)return 1;else in:return 4;
abbrev pub goto_into_branch : Type 0
goto_into_branch = found (main [] (Goto 0 ∷ If (int 0) (Return (int 1)) (Label 0 (Return (int 4))) ∷ [])) ≡ Clean 4 silent 5

-- goto in;switch(0){case 0:return 1;in:return 4;}
abbrev pub goto_into_switch : Type 0
goto_into_switch = found (main [] (Goto 0 ∷ Switch (int 0) (block 1 [] (Case (pos 0) (Return (int 1)) ∷ Label 0 (Return (int 4)) ∷ [])) ∷ []))
    ≡ Clean 4 silent 7

-- int x=0;again:;int k;if(x)return k;k=1;x=1;goto again;: k is unwritten again (6.2.4p6)
abbrev pub declared_again : Type 0
declared_again = found (main (int_type ∷ int_type ∷ []) (Value (init x (int 0)) ∷ Label 0 Empty ∷ Declare 1 ∷ If_only (get x) (Return (get y))
    ∷ Value (set y (int 1)) ∷ Value (set x (int 1)) ∷ Goto 0 ∷ [])) ≡ Undefined Indeterminate [] 7 (Some (place 0 Val)) 1 26

-- int x=0;do{int k;if(x)return k;k=1;x=1;}while(1);: each round has an object of its own
abbrev pub entered_again : Type 0
entered_again = found (sample (main_function (int_type ∷ []) (Value (init x (int 0))
    ∷ Do (block 1 (int_type ∷ []) (Declare 0 ∷ If_only (get x) (Return (get (local_of 1 0 int_type))) ∷ Value (set (local_of 1 0 int_type) (int 1))
    ∷ Value (set x (int 1)) ∷ [])) (int 1) ∷ []) ∷ []) [] ((main_object 0, int_type) ∷ (frame_object [] 3 0, int_type)
    ∷ (frame_object [] 8 0, int_type) ∷ [])) ≡ Undefined Indeterminate [] 10 (Some (place 0 Val)) 1 28

-- {{return 1;}}: each block is left
abbrev pub return_in_blocks : Type 0
return_in_blocks = found (main [] (block 1 [] (block 2 [] (Return (int 1) ∷ []) ∷ []) ∷ [])) ≡ Clean 1 silent 8

-- return 0;{}: a block that isn't entered isn't left
abbrev pub return_before_block : Type 0
return_before_block = found (main [] (Return (int 0) ∷ block 1 [] [] ∷ [])) ≡ Clean 0 silent 4

-- for(;;)while(1)return 0;: a loop without test takes no pick of its own
abbrev pub test_in_loop : Type 0
test_in_loop = found (main [] (For None None None (For None (Some (int 1)) None (Return (int 0))) ∷ [])) ≡ Clean 0 silent 6

-- for(;;)for(;;)return 0;
abbrev pub loop_in_loop : Type 0
loop_in_loop = found (main [] (For None None None (For None None None (Return (int 0))) ∷ [])) ≡ Clean 0 silent 4
