-- Each full expression of what is left to do is one of the function's, or of what was left to do before.
use Rattle.std.proofs.Common.{ℕ, Bool, true, false, List, [], ◌∷◌, ◌++◌, Option, Some, None, ℤ}
use Rattle.c_model.specs.Program.{Expr, Decl, Stmt, Value, Empty, Declare, Block, If, If_only, Switch, Do, For, Goto, Continue, Break, Return, Return_none}
use Rattle.c_model.specs.Program.{Label, Case, Default, Stmts, end, and_then}
use Rattle.c_model.specs.Control.{Use, Unused, To_branch, To_enter, To_select, To_go_round, To_go_again, Result}
use Rattle.c_model.specs.Control.{Todo, Work, Enter, Leave, Unwrite, Begin, Nothing_to_do, Go_to, Go_out, Go_on, Go_back, To_do, Rest, Round, Again, Test}
use Rattle.c_model.specs.Control.{Break_here, opened, tested, ready_work, out_of, on_with, leaves, blocks_round, enter_all, leave_all, unshared, gone_to}
use Rattle.c_model.specs.Control.{moved_in, selected, work_after, Target, to_case, to_default, is_label, is_case, is_default, goes_into_switch, found_here}
use Rattle.c_model.specs.Control.{first_of, and_after, if_goes, find, find_in}
use Rattle.value_facts.specs.Constants.{Perhaps, EachOf, EachIn, EachBehind, EachOfWork, EachLeft}

module _ (P : Expr → Type 0) where
  opens : (s : Stmt) (rest : Todo) → EachOf P s → EachLeft P rest → EachLeft P (opened s rest)
  opens (Value e) rest f r = ((f, tt), r)
  opens Empty rest f r = (tt, r)
  opens (Declare d) rest f r = (tt, r)
  opens (Block b ds ss) rest f r = (tt, (f, (tt, r)))
  opens (If e s t) rest f r = ((f.0, f.1), r)
  opens (If_only e s) rest f r = ((f.0, f.1), r)
  opens (Switch e s) rest f r = ((f.0, f.1), r)
  opens (Do s e) rest f r = opens s (Again e s ∷ rest) f.0 ((f.1, f.0), r)
  opens (For (Some e) test step s) rest f r = ((f.0, tt), (f.1, r))
  opens (For None (Some e) step s) rest f r = ((f.1.0, f.1), r)
  opens (For None None step s) rest f r = opens s (Round None step s ∷ rest) f.1.1.1 (f.1, r)
  opens (Goto k) rest f r = (tt, r)
  opens Continue rest f r = (tt, r)
  opens Break rest f r = (tt, r)
  opens (Return e) rest f r = ((f, tt), r)
  opens Return_none rest f r = (tt, r)
  opens (Label k s) rest f r = opens s rest f r
  opens (Case z s) rest f r = opens s rest f r
  opens (Default s) rest f r = opens s rest f r

  tests : (test step : Option Expr) (s : Stmt) (rest : Todo) → Perhaps P test → Perhaps P step → EachOf P s → EachLeft P rest
      → EachLeft P (tested test step s rest)
  tests None step s rest t p f r = opens s (Round None step s ∷ rest) f ((t, (p, f)), r)
  tests (Some e) step s rest t p f r = ((t, (t, (p, f))), r)

  pub ready_fits : (todo : Todo) → EachLeft P todo → EachLeft P (ready_work todo)
  ready_fits [] h = tt
  ready_fits (To_do s ∷ rest) h = opens s rest h.0 h.1
  ready_fits (Rest end ∷ rest) h = ready_fits rest h.1
  ready_fits (Rest (and_then s ss) ∷ rest) h = opens s (Rest ss ∷ rest) h.0.0 (h.0.1, h.1)
  ready_fits (Round test None s ∷ rest) h = tests test None s rest h.0.0 tt h.0.1.1 h.1
  ready_fits (Round test (Some e) s ∷ rest) h = ((h.0.1.0, tt), (h.0, h.1))
  ready_fits (Again e s ∷ rest) h = ((h.0.0, h.0), h.1)
  ready_fits (Test test step s ∷ rest) h = tests test step s rest h.0.0 h.0.1.0 h.0.1.1 h.1
  ready_fits (Break_here ∷ rest) h = ready_fits rest h.1
  ready_fits (Enter b ds ∷ rest) h = h
  ready_fits (Leave b ds ∷ rest) h = h
  ready_fits (Unwrite d ∷ rest) h = h
  ready_fits (Begin e what ∷ rest) h = h
  ready_fits (Nothing_to_do ∷ rest) h = h
  ready_fits (Go_to k ∷ rest) h = h
  ready_fits (Go_out ∷ rest) h = h
  ready_fits (Go_on ∷ rest) h = h
  ready_fits (Go_back ∷ rest) h = h

  -- what `break`, `continue` and `return` leave
  pub out_fits : (todo : Todo) → EachLeft P todo → EachLeft P (out_of todo)
  out_fits [] h = tt
  out_fits (Round test step s ∷ rest) h = h.1
  out_fits (Again e s ∷ rest) h = h.1
  out_fits (Break_here ∷ rest) h = h.1
  out_fits (Leave b ds ∷ rest) h = (tt, out_fits rest h.1)
  out_fits (Enter b ds ∷ rest) h = out_fits rest h.1
  out_fits (Unwrite d ∷ rest) h = out_fits rest h.1
  out_fits (Begin e what ∷ rest) h = out_fits rest h.1
  out_fits (Nothing_to_do ∷ rest) h = out_fits rest h.1
  out_fits (Go_to k ∷ rest) h = out_fits rest h.1
  out_fits (Go_out ∷ rest) h = out_fits rest h.1
  out_fits (Go_on ∷ rest) h = out_fits rest h.1
  out_fits (Go_back ∷ rest) h = out_fits rest h.1
  out_fits (To_do s ∷ rest) h = out_fits rest h.1
  out_fits (Rest ss ∷ rest) h = out_fits rest h.1
  out_fits (Test test step s ∷ rest) h = out_fits rest h.1

  pub on_fits : (todo : Todo) → EachLeft P todo → EachLeft P (on_with todo)
  on_fits [] h = tt
  on_fits (Round test step s ∷ rest) h = h
  on_fits (Again e s ∷ rest) h = h
  on_fits (Leave b ds ∷ rest) h = (tt, on_fits rest h.1)
  on_fits (Break_here ∷ rest) h = on_fits rest h.1
  on_fits (Enter b ds ∷ rest) h = on_fits rest h.1
  on_fits (Unwrite d ∷ rest) h = on_fits rest h.1
  on_fits (Begin e what ∷ rest) h = on_fits rest h.1
  on_fits (Nothing_to_do ∷ rest) h = on_fits rest h.1
  on_fits (Go_to k ∷ rest) h = on_fits rest h.1
  on_fits (Go_out ∷ rest) h = on_fits rest h.1
  on_fits (Go_on ∷ rest) h = on_fits rest h.1
  on_fits (Go_back ∷ rest) h = on_fits rest h.1
  on_fits (To_do s ∷ rest) h = on_fits rest h.1
  on_fits (Rest ss ∷ rest) h = on_fits rest h.1
  on_fits (Test test step s ∷ rest) h = on_fits rest h.1

  pub leaves_fit : (todo : Todo) → EachLeft P (leaves todo)
  leaves_fit [] = tt
  leaves_fit (Leave b ds ∷ rest) = (tt, leaves_fit rest)
  leaves_fit (Round test step s ∷ rest) = leaves_fit rest
  leaves_fit (Again e s ∷ rest) = leaves_fit rest
  leaves_fit (Break_here ∷ rest) = leaves_fit rest
  leaves_fit (Enter b ds ∷ rest) = leaves_fit rest
  leaves_fit (Unwrite d ∷ rest) = leaves_fit rest
  leaves_fit (Begin e what ∷ rest) = leaves_fit rest
  leaves_fit (Nothing_to_do ∷ rest) = leaves_fit rest
  leaves_fit (Go_to k ∷ rest) = leaves_fit rest
  leaves_fit (Go_out ∷ rest) = leaves_fit rest
  leaves_fit (Go_on ∷ rest) = leaves_fit rest
  leaves_fit (Go_back ∷ rest) = leaves_fit rest
  leaves_fit (To_do s ∷ rest) = leaves_fit rest
  leaves_fit (Rest ss ∷ rest) = leaves_fit rest
  leaves_fit (Test test step s ∷ rest) = leaves_fit rest

  enters_fit : (bs : List (ℕ × List Decl)) (rest : Todo) → EachLeft P rest → EachLeft P (enter_all bs rest)
  enters_fit [] rest h = h
  enters_fit (b ∷ bs) rest h = (tt, enters_fit bs rest h)

  all_left_fit : (bs : List (ℕ × List Decl)) (rest : Todo) → EachLeft P rest → EachLeft P (leave_all bs rest)
  all_left_fit [] rest h = h
  all_left_fit (b ∷ bs) rest h = all_left_fit bs (Leave b.0 b.1 ∷ rest) (tt, h)

  joined_fit : (ws rest : Todo) → EachLeft P ws → EachLeft P rest → EachLeft P (ws ++ rest)
  joined_fit [] rest h k = k
  joined_fit (w ∷ ws) rest h k = (h.0, joined_fit ws rest h.1 k)

  abbrev pub FoundFits : Option Todo → Type 0
  FoundFits None = Unit {0}
  FoundFits (Some ws) = EachLeft P ws

  pub gone_fits : (todo : Todo) (o : Option Todo) → EachLeft P todo → FoundFits o → EachLeft P (gone_to todo o)
  gone_fits todo None h k = h
  gone_fits todo (Some ws) h k =
      all_left_fit (unshared (blocks_round todo []) (blocks_round ws [])) _ (enters_fit (unshared (blocks_round ws []) (blocks_round todo [])) ws k)

  fits_after : (o : Option Todo) (w : Work) → FoundFits o → EachOfWork P w → FoundFits (and_after o w)
  fits_after None w h k = tt
  fits_after (Some ws) w h k = joined_fit ws (w ∷ []) h (k, tt)

  first_fits : (o p : Option Todo) → FoundFits o → FoundFits p → FoundFits (first_of o p)
  first_fits None p h k = k
  first_fits (Some ws) p h k = h

  here_fits : (b : Bool) (s : Stmt) (o : Option Todo) → EachOf P s → FoundFits o → FoundFits (found_here b s o)
  here_fits true s o f h = (f, tt)
  here_fits false s o f h = h

  goes_fits : (b : Bool) (o : Option Todo) → FoundFits o → FoundFits (if_goes b o)
  goes_fits true o h = h
  goes_fits false o h = tt

  mutual
    pub finds_fit : (t : Target) (s : Stmt) → EachOf P s → FoundFits (find t s)
    finds_fit t (Label k s) f = here_fits (is_label t k) s (find t s) f (finds_fit t s f)
    finds_fit t (Case z s) f = here_fits (is_case t z) s (find t s) f (finds_fit t s f)
    finds_fit t (Default s) f = here_fits (is_default t) s (find t s) f (finds_fit t s f)
    finds_fit t (Block b ds ss) f = fits_after (find_in t ss) (Leave b ds) (finds_fit_in t ss f) tt
    finds_fit t (If e s u) f = first_fits (find t s) (find t u) (finds_fit t s f.1.0) (finds_fit t u f.1.1)
    finds_fit t (If_only e s) f = finds_fit t s f.1
    finds_fit t (Switch e s) f = goes_fits (goes_into_switch t) (and_after (find t s) Break_here) (fits_after (find t s) Break_here (finds_fit t s f.1) tt)
    finds_fit t (Do s e) f = fits_after (find t s) (Again e s) (finds_fit t s f.0) (f.1, f.0)
    finds_fit t (For start test step s) f = fits_after (find t s) (Round test step s) (finds_fit t s f.1.1.1) f.1
    finds_fit t (Value e) f = tt
    finds_fit t Empty f = tt
    finds_fit t (Declare d) f = tt
    finds_fit t (Goto k) f = tt
    finds_fit t Continue f = tt
    finds_fit t Break f = tt
    finds_fit t (Return e) f = tt
    finds_fit t Return_none f = tt

    finds_fit_in : (t : Target) (ss : Stmts) → EachIn P ss → FoundFits (find_in t ss)
    finds_fit_in t end f = tt
    finds_fit_in t (and_then s ss) f =
        first_fits (and_after (find t s) (Rest ss)) (find_in t ss) (fits_after (find t s) (Rest ss) (finds_fit t s f.0) f.1) (finds_fit_in t ss f.1)

  moved_fits : (o : Option Todo) (rest : Todo) → FoundFits o → EachLeft P rest → EachLeft P (moved_in o rest)
  moved_fits None rest h k = k
  moved_fits (Some ws) rest h k = enters_fit (blocks_round ws []) (ws ++ rest) (joined_fit ws rest h k)

  selected_fits : (z : ℤ) (s : Stmt) (rest : Todo) → EachOf P s → EachLeft P rest → EachLeft P (selected z s rest)
  selected_fits z s rest f h =
      moved_fits (first_of (find (to_case z) s) (find to_default s)) rest
      (first_fits (find (to_case z) s) (find to_default s) (finds_fit (to_case z) s f) (finds_fit to_default s f)) h

  -- what is left to do behind a full expression
  pub after_fits : (b : Bool) (z : ℤ) (what : Use) (rest : Todo) → EachBehind P what → EachLeft P rest → EachLeft P (work_after b z what rest)
  after_fits true z (To_branch s t) rest u h = (u.0, h)
  after_fits false z (To_branch s t) rest u h = (u.1, h)
  after_fits true z (To_enter s) rest u h = (u, h)
  after_fits false z (To_enter s) rest u h = h
  after_fits true z (To_select s) rest u h = selected_fits z s (Break_here ∷ rest) u (tt, h)
  after_fits false z (To_select s) rest u h = selected_fits z s (Break_here ∷ rest) u (tt, h)
  after_fits true z (To_go_round test step s) rest u h = (u.1.1, (u, h))
  after_fits false z (To_go_round test step s) rest u h = h
  after_fits true z (To_go_again e s) rest u h = (u.1, (u, h))
  after_fits false z (To_go_again e s) rest u h = h
  after_fits true z Result rest u h = leaves_fit rest
  after_fits false z Result rest u h = leaves_fit rest
  after_fits true z Unused rest u h = h
  after_fits false z Unused rest u h = h
