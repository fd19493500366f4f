-- What is made ready, and what moves leave, still goes with the blocks that are open.
use Rattle.std.proofs.Common.{ℕ, List, [], ◌∷◌, ◌++◌, Option, Some, None, refl, sym, subst}
use Rattle.c_model.specs.Program.{Expr, Stmt, Value, Empty, Declare, Block, If, If_only, Switch, Do, For, Goto, Continue, Break}
use Rattle.c_model.specs.Program.{Return, Return_none, Label, Case, Default, end, and_then}
use Rattle.c_model.specs.Control.{Todo, Enter, Leave, Unwrite, Begin, Nothing_to_do, Go_to, Go_out, Go_on, Go_back, To_do, Rest, Round}
use Rattle.c_model.specs.Control.{Again, Test, Break_here, opened, tested, ready_work, out_of, on_with, leaves}
use Rattle.c_model.specs.OpenBlocks.{Closes, NoEnters, NoEntersBehind}
use Rattle.c_model.proofs.OpenKeeps.{ready_enters}
use Rattle.frame_laws.specs.Scopes.{Objects, PerhapsFits, Fits}
use Rattle.frame_laws.specs.Todos.{IsInside, EntersFirst, Runs}

module _ (objects : Objects) where
  -- 1. The next control step is made ready.

  opened_runs : (s : Stmt) (rest : Todo) (around last : List ℕ) → IsInside around → Fits objects around s → Runs objects rest around last
      → Runs objects (opened s rest) around last
  opened_runs (Value e) rest around last i f r = (i, (f, tt), r)
  opened_runs Empty rest around last i f r = (i, tt, r)
  opened_runs (Declare d) rest around last i f r = (i, f, r)
  opened_runs (Block b ds ss) rest around last i f r = (i, f.0, (tt, f.1, (refl, f.0, r)))
  opened_runs (If e s t) rest around last i f r = (i, (f.0, (f.1, f.2)), r)
  opened_runs (If_only e s) rest around last i f r = (i, f, r)
  opened_runs (Switch e s) rest around last i f r = (i, f, r)
  opened_runs (Do s e) rest around last i f r = opened_runs s (Again e s ∷ rest) around last i f.1 (i, f, r)
  opened_runs (For (Some e) test step s) rest around last i f r = (i, (f.0, tt), (i, (f.1, f.2, f.3), r))
  opened_runs (For None (Some e) step s) rest around last i f r = (i, (f.1, (f.1, f.2, f.3)), r)
  opened_runs (For None None step s) rest around last i f r = opened_runs s (Round None step s ∷ rest) around last i f.3 (i, (tt, f.2, f.3), r)
  opened_runs (Goto k) rest around last i f r = (i, tt, r)
  opened_runs Continue rest around last i f r = (i, tt, r)
  opened_runs Break rest around last i f r = (i, tt, r)
  opened_runs (Return e) rest around last i f r = (i, (f, tt), r)
  opened_runs Return_none rest around last i f r = (i, tt, r)
  opened_runs (Label k s) rest around last i f r = opened_runs s rest around last i f r
  opened_runs (Case z s) rest around last i f r = opened_runs s rest around last i f r
  opened_runs (Default s) rest around last i f r = opened_runs s rest around last i f r

  tested_runs : (test step : Option Expr) (s : Stmt) (rest : Todo) (around last : List ℕ) → IsInside around
      → PerhapsFits objects around test → PerhapsFits objects around step → Fits objects around s → Runs objects rest around last
      → Runs objects (tested test step s rest) around last
  tested_runs None step s rest around last i t p f r = opened_runs s (Round None step s ∷ rest) around last i f (i, (tt, p, f), r)
  tested_runs (Some e) step s rest around last i t p f r = (i, (t, (t, p, f)), r)

  pub ready_runs : (todo : Todo) (around last : List ℕ) → Runs objects todo around last → Runs objects (ready_work todo) around last
  ready_runs [] around last r = r
  ready_runs (Enter b ds ∷ rest) around last r = r
  ready_runs (Leave b ds ∷ rest) [] last r = absurd r
  ready_runs (Leave b ds ∷ rest) (o ∷ os) last r = r
  ready_runs (Unwrite d ∷ rest) around last r = r
  ready_runs (Begin e what ∷ rest) around last r = r
  ready_runs (Nothing_to_do ∷ rest) around last r = r
  ready_runs (Go_to k ∷ rest) around last r = r
  ready_runs (Go_out ∷ rest) around last r = r
  ready_runs (Go_on ∷ rest) around last r = r
  ready_runs (Go_back ∷ rest) around last r = r
  ready_runs (To_do s ∷ rest) around last r = opened_runs s rest around last r.0 r.1 r.2
  ready_runs (Rest end ∷ rest) around last r = ready_runs rest around last r.2
  ready_runs (Rest (and_then s ss) ∷ rest) around last r = opened_runs s (Rest ss ∷ rest) around last r.0 r.1.0 (r.0, r.1.1, r.2)
  ready_runs (Round test None s ∷ rest) around last r = tested_runs test None s rest around last r.0 r.1.0 tt r.1.2 r.2
  ready_runs (Round test (Some e) s ∷ rest) around last r = (r.0, (r.1.1, tt), (r.0, r.1, r.2))
  ready_runs (Again e s ∷ rest) around last r = (r.0, (r.1.0, r.1), r.2)
  ready_runs (Test test step s ∷ rest) around last r = tested_runs test step s rest around last r.0 r.1.0 r.1.1 r.1.2 r.2
  ready_runs (Break_here ∷ rest) around last r = ready_runs rest around last r.2

  -- 2. Jumps out of loops and out of the function.

  pub out_runs : (todo : Todo) (around last : List ℕ) → NoEnters todo → Runs objects todo around last → Runs objects (out_of todo) around last
  out_runs [] around last n r = r
  out_runs (Enter b ds ∷ rest) around last n r = absurd n
  out_runs (Leave b ds ∷ rest) [] last n r = absurd r
  out_runs (Leave b ds ∷ rest) (o ∷ os) last n r = (r.0, r.1, out_runs rest os last n r.2)
  out_runs (Round test step s ∷ rest) around last n r = r.2
  out_runs (Again e s ∷ rest) around last n r = r.2
  out_runs (Break_here ∷ rest) around last n r = r.2
  out_runs (Unwrite d ∷ rest) around last n r = out_runs rest around last n r.2
  out_runs (Begin e what ∷ rest) around last n r = out_runs rest around last n r.2
  out_runs (Nothing_to_do ∷ rest) around last n r = out_runs rest around last n r.2
  out_runs (Go_to k ∷ rest) around last n r = out_runs rest around last n r.2
  out_runs (Go_out ∷ rest) around last n r = out_runs rest around last n r.2
  out_runs (Go_on ∷ rest) around last n r = out_runs rest around last n r.2
  out_runs (Go_back ∷ rest) around last n r = out_runs rest around last n r.2
  out_runs (To_do s ∷ rest) around last n r = out_runs rest around last n r.2
  out_runs (Rest ss ∷ rest) around last n r = out_runs rest around last n r.2
  out_runs (Test test step s ∷ rest) around last n r = out_runs rest around last n r.2

  pub on_runs : (todo : Todo) (around last : List ℕ) → NoEnters todo → Runs objects todo around last → Runs objects (on_with todo) around last
  on_runs [] around last n r = r
  on_runs (Enter b ds ∷ rest) around last n r = absurd n
  on_runs (Leave b ds ∷ rest) [] last n r = absurd r
  on_runs (Leave b ds ∷ rest) (o ∷ os) last n r = (r.0, r.1, on_runs rest os last n r.2)
  on_runs (Round test step s ∷ rest) around last n r = r
  on_runs (Again e s ∷ rest) around last n r = r
  on_runs (Unwrite d ∷ rest) around last n r = on_runs rest around last n r.2
  on_runs (Begin e what ∷ rest) around last n r = on_runs rest around last n r.2
  on_runs (Nothing_to_do ∷ rest) around last n r = on_runs rest around last n r.2
  on_runs (Go_to k ∷ rest) around last n r = on_runs rest around last n r.2
  on_runs (Go_out ∷ rest) around last n r = on_runs rest around last n r.2
  on_runs (Go_on ∷ rest) around last n r = on_runs rest around last n r.2
  on_runs (Go_back ∷ rest) around last n r = on_runs rest around last n r.2
  on_runs (To_do s ∷ rest) around last n r = on_runs rest around last n r.2
  on_runs (Rest ss ∷ rest) around last n r = on_runs rest around last n r.2
  on_runs (Test test step s ∷ rest) around last n r = on_runs rest around last n r.2
  on_runs (Break_here ∷ rest) around last n r = on_runs rest around last n r.2

  pub leaves_run : (todo : Todo) (around last : List ℕ) → NoEnters todo → Runs objects todo around last → Runs objects (leaves todo) around last
  leaves_run [] around last n r = r
  leaves_run (Enter b ds ∷ rest) around last n r = absurd n
  leaves_run (Leave b ds ∷ rest) [] last n r = absurd r
  leaves_run (Leave b ds ∷ rest) (o ∷ os) last n r = (r.0, r.1, leaves_run rest os last n r.2)
  leaves_run (Unwrite d ∷ rest) around last n r = leaves_run rest around last n r.2
  leaves_run (Begin e what ∷ rest) around last n r = leaves_run rest around last n r.2
  leaves_run (Nothing_to_do ∷ rest) around last n r = leaves_run rest around last n r.2
  leaves_run (Go_to k ∷ rest) around last n r = leaves_run rest around last n r.2
  leaves_run (Go_out ∷ rest) around last n r = leaves_run rest around last n r.2
  leaves_run (Go_on ∷ rest) around last n r = leaves_run rest around last n r.2
  leaves_run (Go_back ∷ rest) around last n r = leaves_run rest around last n r.2
  leaves_run (To_do s ∷ rest) around last n r = leaves_run rest around last n r.2
  leaves_run (Rest ss ∷ rest) around last n r = leaves_run rest around last n r.2
  leaves_run (Round test step s ∷ rest) around last n r = leaves_run rest around last n r.2
  leaves_run (Again e s ∷ rest) around last n r = leaves_run rest around last n r.2
  leaves_run (Test test step s ∷ rest) around last n r = leaves_run rest around last n r.2
  leaves_run (Break_here ∷ rest) around last n r = leaves_run rest around last n r.2

  -- 3. One list behind another, and what a list closes.

  pub append_runs : (ws rest : Todo) (around middle last : List ℕ) → Runs objects ws around middle → Runs objects rest middle last
      → Runs objects (ws ++ rest) around last
  append_runs [] rest around middle last r t = let P : List ℕ → Type 0 = λ xs. Runs objects rest xs last in subst P (sym r) t
  append_runs (Enter b ds ∷ ws) rest around middle last r t = (r.0, r.1, append_runs ws rest (b ∷ around) middle last r.2 t)
  append_runs (Leave b ds ∷ ws) rest [] middle last r t = absurd r
  append_runs (Leave b ds ∷ ws) rest (o ∷ os) middle last r t = (r.0, r.1, append_runs ws rest os middle last r.2 t)
  append_runs (Unwrite d ∷ ws) rest around middle last r t = (r.0, r.1, append_runs ws rest around middle last r.2 t)
  append_runs (Begin e what ∷ ws) rest around middle last r t = (r.0, r.1, append_runs ws rest around middle last r.2 t)
  append_runs (Nothing_to_do ∷ ws) rest around middle last r t = (r.0, r.1, append_runs ws rest around middle last r.2 t)
  append_runs (Go_to k ∷ ws) rest around middle last r t = (r.0, r.1, append_runs ws rest around middle last r.2 t)
  append_runs (Go_out ∷ ws) rest around middle last r t = (r.0, r.1, append_runs ws rest around middle last r.2 t)
  append_runs (Go_on ∷ ws) rest around middle last r t = (r.0, r.1, append_runs ws rest around middle last r.2 t)
  append_runs (Go_back ∷ ws) rest around middle last r t = (r.0, r.1, append_runs ws rest around middle last r.2 t)
  append_runs (To_do s ∷ ws) rest around middle last r t = (r.0, r.1, append_runs ws rest around middle last r.2 t)
  append_runs (Rest ss ∷ ws) rest around middle last r t = (r.0, r.1, append_runs ws rest around middle last r.2 t)
  append_runs (Round test step s ∷ ws) rest around middle last r t = (r.0, r.1, append_runs ws rest around middle last r.2 t)
  append_runs (Again e s ∷ ws) rest around middle last r t = (r.0, r.1, append_runs ws rest around middle last r.2 t)
  append_runs (Test test step s ∷ ws) rest around middle last r t = (r.0, r.1, append_runs ws rest around middle last r.2 t)
  append_runs (Break_here ∷ ws) rest around middle last r t = (r.0, r.1, append_runs ws rest around middle last r.2 t)

  pub runs_close : (todo : Todo) (around : List ℕ) → Runs objects todo around [] → Closes todo around
  runs_close [] around r = r
  runs_close (Enter b ds ∷ rest) around r = runs_close rest (b ∷ around) r.2
  runs_close (Leave b ds ∷ rest) [] r = absurd r
  runs_close (Leave b ds ∷ rest) (o ∷ os) r = (r.0, runs_close rest os r.2)
  runs_close (Unwrite d ∷ rest) around r = runs_close rest around r.2
  runs_close (Begin e what ∷ rest) around r = runs_close rest around r.2
  runs_close (Nothing_to_do ∷ rest) around r = runs_close rest around r.2
  runs_close (Go_to k ∷ rest) around r = runs_close rest around r.2
  runs_close (Go_out ∷ rest) around r = runs_close rest around r.2
  runs_close (Go_on ∷ rest) around r = runs_close rest around r.2
  runs_close (Go_back ∷ rest) around r = runs_close rest around r.2
  runs_close (To_do s ∷ rest) around r = runs_close rest around r.2
  runs_close (Rest ss ∷ rest) around r = runs_close rest around r.2
  runs_close (Round test step s ∷ rest) around r = runs_close rest around r.2
  runs_close (Again e s ∷ rest) around r = runs_close rest around r.2
  runs_close (Test test step s ∷ rest) around r = runs_close rest around r.2
  runs_close (Break_here ∷ rest) around r = runs_close rest around r.2

-- 4. Blocks are still entered in front alone.

pub none_first : (todo : Todo) → NoEnters todo → EntersFirst todo
none_first [] n = tt
none_first (Enter b ds ∷ rest) n = absurd n
none_first (Leave b ds ∷ rest) n = none_first rest n
none_first (Unwrite d ∷ rest) n = n
none_first (Begin e what ∷ rest) n = n
none_first (Nothing_to_do ∷ rest) n = n
none_first (Go_to k ∷ rest) n = n
none_first (Go_out ∷ rest) n = n
none_first (Go_on ∷ rest) n = n
none_first (Go_back ∷ rest) n = n
none_first (To_do s ∷ rest) n = n
none_first (Rest ss ∷ rest) n = n
none_first (Round test step s ∷ rest) n = n
none_first (Again e s ∷ rest) n = n
none_first (Test test step s ∷ rest) n = n
none_first (Break_here ∷ rest) n = n

-- behind the next control step, and in front where it enters a block itself
behind_first : (todo : Todo) → NoEntersBehind todo → EntersFirst todo
behind_first [] n = tt
behind_first (Enter b ds ∷ rest) n = none_first rest n
behind_first (Leave b ds ∷ rest) n = none_first rest n
behind_first (Unwrite d ∷ rest) n = n
behind_first (Begin e what ∷ rest) n = n
behind_first (Nothing_to_do ∷ rest) n = n
behind_first (Go_to k ∷ rest) n = n
behind_first (Go_out ∷ rest) n = n
behind_first (Go_on ∷ rest) n = n
behind_first (Go_back ∷ rest) n = n
behind_first (To_do s ∷ rest) n = n
behind_first (Rest ss ∷ rest) n = n
behind_first (Round test step s ∷ rest) n = n
behind_first (Again e s ∷ rest) n = n
behind_first (Test test step s ∷ rest) n = n
behind_first (Break_here ∷ rest) n = n

pub ready_first : (todo : Todo) → EntersFirst todo → EntersFirst (ready_work todo)
ready_first [] n = tt
ready_first (Enter b ds ∷ rest) n = n
ready_first (Leave b ds ∷ rest) n = n
ready_first (Unwrite d ∷ rest) n = behind_first (ready_work (Unwrite d ∷ rest)) (ready_enters (Unwrite d ∷ rest) n)
ready_first (Begin e what ∷ rest) n = behind_first (ready_work (Begin e what ∷ rest)) (ready_enters (Begin e what ∷ rest) n)
ready_first (Nothing_to_do ∷ rest) n = behind_first (ready_work (Nothing_to_do ∷ rest)) (ready_enters (Nothing_to_do ∷ rest) n)
ready_first (Go_to k ∷ rest) n = behind_first (ready_work (Go_to k ∷ rest)) (ready_enters (Go_to k ∷ rest) n)
ready_first (Go_out ∷ rest) n = behind_first (ready_work (Go_out ∷ rest)) (ready_enters (Go_out ∷ rest) n)
ready_first (Go_on ∷ rest) n = behind_first (ready_work (Go_on ∷ rest)) (ready_enters (Go_on ∷ rest) n)
ready_first (Go_back ∷ rest) n = behind_first (ready_work (Go_back ∷ rest)) (ready_enters (Go_back ∷ rest) n)
ready_first (To_do s ∷ rest) n = behind_first (ready_work (To_do s ∷ rest)) (ready_enters (To_do s ∷ rest) n)
ready_first (Rest ss ∷ rest) n = behind_first (ready_work (Rest ss ∷ rest)) (ready_enters (Rest ss ∷ rest) n)
ready_first (Round test step s ∷ rest) n = behind_first (ready_work (Round test step s ∷ rest)) (ready_enters (Round test step s ∷ rest) n)
ready_first (Again e s ∷ rest) n = behind_first (ready_work (Again e s ∷ rest)) (ready_enters (Again e s ∷ rest) n)
ready_first (Test test step s ∷ rest) n = behind_first (ready_work (Test test step s ∷ rest)) (ready_enters (Test test step s ∷ rest) n)
ready_first (Break_here ∷ rest) n = behind_first (ready_work (Break_here ∷ rest)) (ready_enters (Break_here ∷ rest) n)

pub leaves_enter : (todo : Todo) → NoEnters (leaves todo)
leaves_enter [] = tt
leaves_enter (Enter b ds ∷ rest) = leaves_enter rest
leaves_enter (Leave b ds ∷ rest) = leaves_enter rest
leaves_enter (Unwrite d ∷ rest) = leaves_enter rest
leaves_enter (Begin e what ∷ rest) = leaves_enter rest
leaves_enter (Nothing_to_do ∷ rest) = leaves_enter rest
leaves_enter (Go_to k ∷ rest) = leaves_enter rest
leaves_enter (Go_out ∷ rest) = leaves_enter rest
leaves_enter (Go_on ∷ rest) = leaves_enter rest
leaves_enter (Go_back ∷ rest) = leaves_enter rest
leaves_enter (To_do s ∷ rest) = leaves_enter rest
leaves_enter (Rest ss ∷ rest) = leaves_enter rest
leaves_enter (Round test step s ∷ rest) = leaves_enter rest
leaves_enter (Again e s ∷ rest) = leaves_enter rest
leaves_enter (Test test step s ∷ rest) = leaves_enter rest
leaves_enter (Break_here ∷ rest) = leaves_enter rest

pub out_enters : (todo : Todo) → NoEnters todo → NoEnters (out_of todo)
out_enters [] n = tt
out_enters (Enter b ds ∷ rest) n = absurd n
out_enters (Leave b ds ∷ rest) n = out_enters rest n
out_enters (Round test step s ∷ rest) n = n
out_enters (Again e s ∷ rest) n = n
out_enters (Break_here ∷ rest) n = n
out_enters (Unwrite d ∷ rest) n = out_enters rest n
out_enters (Begin e what ∷ rest) n = out_enters rest n
out_enters (Nothing_to_do ∷ rest) n = out_enters rest n
out_enters (Go_to k ∷ rest) n = out_enters rest n
out_enters (Go_out ∷ rest) n = out_enters rest n
out_enters (Go_on ∷ rest) n = out_enters rest n
out_enters (Go_back ∷ rest) n = out_enters rest n
out_enters (To_do s ∷ rest) n = out_enters rest n
out_enters (Rest ss ∷ rest) n = out_enters rest n
out_enters (Test test step s ∷ rest) n = out_enters rest n

pub on_enters : (todo : Todo) → NoEnters todo → NoEnters (on_with todo)
on_enters [] n = tt
on_enters (Enter b ds ∷ rest) n = absurd n
on_enters (Leave b ds ∷ rest) n = on_enters rest n
on_enters (Round test step s ∷ rest) n = n
on_enters (Again e s ∷ rest) n = n
on_enters (Unwrite d ∷ rest) n = on_enters rest n
on_enters (Begin e what ∷ rest) n = on_enters rest n
on_enters (Nothing_to_do ∷ rest) n = on_enters rest n
on_enters (Go_to k ∷ rest) n = on_enters rest n
on_enters (Go_out ∷ rest) n = on_enters rest n
on_enters (Go_on ∷ rest) n = on_enters rest n
on_enters (Go_back ∷ rest) n = on_enters rest n
on_enters (To_do s ∷ rest) n = on_enters rest n
on_enters (Rest ss ∷ rest) n = on_enters rest n
on_enters (Test test step s ∷ rest) n = on_enters rest n
on_enters (Break_here ∷ rest) n = on_enters rest n

pub append_enters : (ws rest : Todo) → NoEnters ws → NoEnters rest → NoEnters (ws ++ rest)
append_enters [] rest n m = m
append_enters (Enter b ds ∷ ws) rest n m = absurd n
append_enters (Leave b ds ∷ ws) rest n m = append_enters ws rest n m
append_enters (Unwrite d ∷ ws) rest n m = append_enters ws rest n m
append_enters (Begin e what ∷ ws) rest n m = append_enters ws rest n m
append_enters (Nothing_to_do ∷ ws) rest n m = append_enters ws rest n m
append_enters (Go_to k ∷ ws) rest n m = append_enters ws rest n m
append_enters (Go_out ∷ ws) rest n m = append_enters ws rest n m
append_enters (Go_on ∷ ws) rest n m = append_enters ws rest n m
append_enters (Go_back ∷ ws) rest n m = append_enters ws rest n m
append_enters (To_do s ∷ ws) rest n m = append_enters ws rest n m
append_enters (Rest ss ∷ ws) rest n m = append_enters ws rest n m
append_enters (Round test step s ∷ ws) rest n m = append_enters ws rest n m
append_enters (Again e s ∷ ws) rest n m = append_enters ws rest n m
append_enters (Test test step s ∷ ws) rest n m = append_enters ws rest n m
append_enters (Break_here ∷ ws) rest n m = append_enters ws rest n m
