-- What is made ready begins with a control step, where anything is.
use Rattle.std.proofs.Common.{◌≡◌, ◌⊎◌, inl, inr, [], ◌∷◌, Option, Some, None, refl}
use Rattle.c_model.specs.Program.{Expr, Stmt, Value, Empty, Declare, Block, If, If_only, Switch, Do, For, Goto, Continue, Break}
use Rattle.c_model.specs.Program.{Return, Return_none, Label, Case, Default, end, and_then}
use Rattle.c_model.specs.Control.{Todo, Enter, Leave, Unwrite, Begin, Nothing_to_do, Go_to, Go_out, Go_on, Go_back, To_do, Rest, Round}
use Rattle.c_model.specs.Control.{Again, Test, Break_here, opened, tested, ready_work}

abbrev pub StepFirst : Todo → Type 0
StepFirst (Enter b ds ∷ rest) = Unit {0}
StepFirst (Leave b ds ∷ rest) = Unit {0}
StepFirst (Unwrite d ∷ rest) = Unit {0}
StepFirst (Begin e what ∷ rest) = Unit {0}
StepFirst (Nothing_to_do ∷ rest) = Unit {0}
StepFirst (Go_to k ∷ rest) = Unit {0}
StepFirst (Go_out ∷ rest) = Unit {0}
StepFirst (Go_on ∷ rest) = Unit {0}
StepFirst (Go_back ∷ rest) = Unit {0}
StepFirst todo = ⊥

pub opened_first : (s : Stmt) (rest : Todo) → StepFirst (opened s rest)
opened_first (Value e) rest = tt
opened_first Empty rest = tt
opened_first (Declare d) rest = tt
opened_first (Block b ds ss) rest = tt
opened_first (If e s t) rest = tt
opened_first (If_only e s) rest = tt
opened_first (Switch e s) rest = tt
opened_first (Do s e) rest = opened_first s (Again e s ∷ rest)
opened_first (For (Some e) test step s) rest = tt
opened_first (For None (Some e) step s) rest = tt
opened_first (For None None step s) rest = opened_first s (Round None step s ∷ rest)
opened_first (Goto k) rest = tt
opened_first Continue rest = tt
opened_first Break rest = tt
opened_first (Return e) rest = tt
opened_first Return_none rest = tt
opened_first (Label k s) rest = opened_first s rest
opened_first (Case z s) rest = opened_first s rest
opened_first (Default s) rest = opened_first s rest

tested_first : (test step : Option Expr) (s : Stmt) (rest : Todo) → StepFirst (tested test step s rest)
tested_first None step s rest = opened_first s (Round None step s ∷ rest)
tested_first (Some e) step s rest = tt

pub ready_step : (todo : Todo) → (ready_work todo ≡ []) ⊎ StepFirst (ready_work todo)
ready_step [] = inl refl
ready_step (Enter b ds ∷ rest) = inr tt
ready_step (Leave b ds ∷ rest) = inr tt
ready_step (Unwrite d ∷ rest) = inr tt
ready_step (Begin e what ∷ rest) = inr tt
ready_step (Nothing_to_do ∷ rest) = inr tt
ready_step (Go_to k ∷ rest) = inr tt
ready_step (Go_out ∷ rest) = inr tt
ready_step (Go_on ∷ rest) = inr tt
ready_step (Go_back ∷ rest) = inr tt
ready_step (To_do s ∷ rest) = inr (opened_first s rest)
ready_step (Rest end ∷ rest) = ready_step rest
ready_step (Rest (and_then s ss) ∷ rest) = inr (opened_first s (Rest ss ∷ rest))
ready_step (Round test None s ∷ rest) = inr (tested_first test None s rest)
ready_step (Round test (Some e) s ∷ rest) = inr tt
ready_step (Again e s ∷ rest) = inr tt
ready_step (Test test step s ∷ rest) = inr (tested_first test step s rest)
ready_step (Break_here ∷ rest) = ready_step rest
