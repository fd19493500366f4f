-- The search for the next control step, one piece of work after another.
use Rattle.std.proofs.Common.{◌≡◌, Bool, true, false, List, [], ◌∷◌, map, Option, Some, None, refl, sym, ◌∙◌, ap, subst}
use Rattle.c_model.specs.Program.{Expr, Stmt, Value, Empty, Declare, Block, If, If_only, Switch, Do, For, Goto, Continue, Break, Return, Return_none, Label}
use Rattle.c_model.specs.Program.{Case, Default}
use Rattle.std.specs.Borrow.{Bor}
use Rattle.c_model.specs.Control as todo
use Rattle.c_model.specs.Control.{Todo, opened, tested, ready_work, Again, Round}
use Rattle.run_control.specs.declared.work.Work.{Work}
use Rattle.run_control.specs.declared.work.Step.{Step}
use Rattle.run_control.specs.View.{Meaning, in_turn, stmt_of, todo_of, step_of, ReadyFrom, is_nothing, is_nil, Ends, IsEnd}
use Rattle.run_control.specs.declared.statement.Statement.{Statement}
use Rattle.run_control.specs.declared.work.Work.TheVariants as work

pub taken_one : (m : Meaning) (w : Work) (initial now before : List Work)
    → now ≡ w ∷ before → ready_work (todo_of m now) ≡ ready_work (todo_of m initial)
    → ready_work (todo_of m (w ∷ before)) ≡ ready_work (todo_of m initial)
taken_one m w initial now before e h = ap (λ ws. ready_work (todo_of m ws)) (sym e) ∙ h

pub begins : (m : Meaning) (w : Work) (initial now before after : List Work) (o : Option Step) (s : Step)
    → o ≡ Some s → ReadyFrom m w o before after → now ≡ w ∷ before → ready_work (todo_of m now) ≡ ready_work (todo_of m initial)
    → step_of m s ∷ todo_of m after ≡ ready_work (todo_of m initial)
begins m w initial now before after o s is made e h =
    let P : Option Step → Type 0 = λ x. ReadyFrom m w x before after in subst P is made ∙ taken_one m w initial now before e h

pub goes_on : (m : Meaning) (w : Work) (initial now before after : List Work) (o : Option Step)
    → o ≡ None → ReadyFrom m w o before after → now ≡ w ∷ before → ready_work (todo_of m now) ≡ ready_work (todo_of m initial)
    → ready_work (todo_of m after) ≡ ready_work (todo_of m initial)
goes_on m w initial now before after o is made e h =
    let P : Option Step → Type 0 = λ x. ReadyFrom m w x before after in sym (subst P is made) ∙ taken_one m w initial now before e h

-- nothing was left
pub ends : (m : Meaning) (initial now after : List Work)
    → now ≡ [] → after ≡ [] → ready_work (todo_of m now) ≡ ready_work (todo_of m initial)
    → todo_of m after ≡ ready_work (todo_of m initial)
ends m initial now after e f h =
    ap (todo_of m) f ∙ (ap (λ ws. ready_work (todo_of m ws)) (sym e) ∙ h)

-- each statement begins with a step
pub opened_some : (s : Stmt) (rest : Todo) → is_nothing (opened s rest) ≡ false
opened_some (Value e) rest = refl
opened_some Empty rest = refl
opened_some (Declare d) rest = refl
opened_some (Block b ds ss) rest = refl
opened_some (If e s t) rest = refl
opened_some (If_only e s) rest = refl
opened_some (Switch e s) rest = refl
opened_some (Do s e) rest = opened_some s (Again e s ∷ rest)
opened_some (For (Some e) test step s) rest = refl
opened_some (For None (Some e) step s) rest = refl
opened_some (For None None step s) rest = opened_some s (Round None step s ∷ rest)
opened_some (Goto k) rest = refl
opened_some Continue rest = refl
opened_some Break rest = refl
opened_some (Return e) rest = refl
opened_some Return_none rest = refl
opened_some (Label k s) rest = opened_some s rest
opened_some (Case z s) rest = opened_some s rest
opened_some (Default s) rest = opened_some s rest

pub tested_some : (test step : Option Expr) (s : Stmt) (rest : Todo) → is_nothing (tested test step s rest) ≡ false
tested_some None step s rest = opened_some s (Round None step s ∷ rest)
tested_some (Some e) step s rest = refl

-- the end of a block or `switch` was taken off
pub passes : (m : Meaning) (w : Work) (initial now before : List Work) (ends : Bool)
    → ends ≡ true → IsEnd m w ends before → now ≡ w ∷ before → ready_work (todo_of m now) ≡ ready_work (todo_of m initial)
    → ready_work (todo_of m before) ≡ ready_work (todo_of m initial)
passes m w initial now before ends is made e h =
    sym (subst (λ b. IsEnd m w b before) is made) ∙ taken_one m w initial now before e h

-- and other work is there still
pub stays : (m : Meaning) (w : Work) (initial now before after : List Work)
    → now ≡ w ∷ before → after ≡ w ∷ before → ready_work (todo_of m now) ≡ ready_work (todo_of m initial)
    → ready_work (todo_of m after) ≡ ready_work (todo_of m initial)
stays m w initial now before after e f h = ap (λ ws. ready_work (todo_of m ws)) f ∙ taken_one m w initial now before e h

pub not_over : (m : Meaning) (w : Work) (initial now before : List Work) (ends : Bool)
    → ends ≡ false → IsEnd m w ends before → now ≡ w ∷ before → ready_work (todo_of m now) ≡ ready_work (todo_of m initial)
    → false ≡ is_nothing (ready_work (todo_of m initial))
not_over m w initial now before ends is made e h =
    sym (subst (λ b. IsEnd m w b before) is made) ∙ ap is_nothing (taken_one m w initial now before e h)

pub over : (m : Meaning) (initial now : List Work) → now ≡ [] → ready_work (todo_of m now) ≡ ready_work (todo_of m initial)
    → true ≡ is_nothing (ready_work (todo_of m initial))
over m initial now e h = ap (λ ws. is_nothing (ready_work (todo_of m ws))) (sym e) ∙ ap is_nothing h

rest_ends : (m : Meaning) (ss : List Statement) (rest : Todo) → Ends (is_nil ss) (ready_work (todo.Rest (in_turn (map (stmt_of m) ss)) ∷ rest)) rest
rest_ends m [] rest = refl
rest_ends m (s ∷ ss) rest = opened_some (stmt_of m s) (todo.Rest (in_turn (map (stmt_of m) ss)) ∷ rest)

pub rest_is : (m : Meaning) (w : Work) (ss : Bor (List Statement)) (ends : Bool) (rest : List Work) → w ≡ work.Rest ss → ends ≡ is_nil ss.now
    → IsEnd m w ends rest
rest_is m w ss ends rest e f =
    subst (λ v. IsEnd m v ends rest) (sym e) (subst (λ b. IsEnd m (work.Rest ss) b rest) (sym f) (rest_ends m ss.now (todo_of m rest)))
