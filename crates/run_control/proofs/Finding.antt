-- What the model finds in a statement is the first of its targets.
use Rattle.std.proofs.Common.{◌≡◌, ℕ, Bool, true, false, not, ◌==◌, ℤ, [], ◌∷◌, ◌++◌, Option, Some, refl, ◌∙◌, ap, if◌then◌else◌}
use Rattle.std.proofs.lemmas.List.{append-nil}
use Rattle.c_model.specs.Program.{Stmt, Value, Empty, Declare, Block, If, If_only, Switch, Do, For, Goto, Continue, Break, Return, Return_none}
use Rattle.c_model.specs.Program.{Label, Case, Default, Stmts, end, and_then}
use Rattle.c_model.specs.Control.{Work, Todo, To_do, Rest, Leave, Round, Again, Break_here, Target, to_label, to_case, to_default, same_int}
use Rattle.c_model.specs.Control.{is_label, is_case, is_default, goes_into_switch, found_here, first_of, and_after, if_goes, find, find_in}
use Rattle.run_control.specs.Targets.{Targets, and_all, if_in, where_goes, targets, all_targets}
use Rattle.run_control.specs.Search.{is_target, looked}

abbrev pub labels_of : Target → Bool
labels_of t = goes_into_switch t

found_if : (b : Bool) (s : Stmt) (later : Option Todo) → found_here b s later ≡ (if b then Some (To_do s ∷ []) else later)
found_if true s later = refl
found_if false s later = refl

at_label : (t : Target) (k : ℕ) (s : Stmt) (ts : Targets) → found_here (is_label t k) s (looked t ts) ≡ looked t (if_in (goes_into_switch t) (to_label k) s ts)
at_label (to_label j) k s ts = found_if (j == k) s (looked (to_label j) ts)
at_label (to_case z) k s ts = refl
at_label to_default k s ts = refl

at_case : (t : Target) (z : ℤ) (s : Stmt) (ts : Targets) → found_here (is_case t z) s (looked t ts)
    ≡ looked t (if_in (not (goes_into_switch t)) (to_case z) s ts)
at_case (to_label j) z s ts = refl
at_case (to_case v) z s ts = found_if (same_int v z) s (looked (to_case v) ts)
at_case to_default z s ts = refl

at_default : (t : Target) (s : Stmt) (ts : Targets) → found_here (is_default t) s (looked t ts) ≡ looked t (if_in (not (goes_into_switch t)) to_default s ts)
at_default (to_label j) s ts = refl
at_default (to_case v) s ts = refl
at_default to_default s ts = refl

after_if : (b : Bool) (ws : Todo) (later : Option Todo) (w : Work) → and_after (if b then Some ws else later) w ≡ (if b then Some (ws
    ++ w ∷ []) else and_after later w)
after_if true ws later w = refl
after_if false ws later w = refl

looked_after : (t : Target) (ts : Targets) (w : Work) → and_after (looked t ts) w ≡ looked t (and_all ts (w ∷ []))
looked_after t [] w = refl
looked_after t (u ∷ us) w =
    after_if (is_target t u.0) u.1 (looked t us) w
    ∙ ap (λ (later : Option Todo). if is_target t u.0 then Some (u.1 ++ w ∷ []) else later) (looked_after t us w)

first_if : (b : Bool) (ws : Todo) (later other : Option Todo) → first_of (if b then Some ws else later) other ≡ (if b then Some ws else first_of later other)
first_if true ws later other = refl
first_if false ws later other = refl

looked_first : (t : Target) (ts us : Targets) → first_of (looked t ts) (looked t us) ≡ looked t (ts ++ us)
looked_first t [] us = refl
looked_first t (x ∷ xs) us =
    first_if (is_target t x.0) x.1 (looked t xs) (looked t us)
    ∙ ap (λ (later : Option Todo). if is_target t x.0 then Some x.1 else later) (looked_first t xs us)

looked_where : (b : Bool) (t : Target) (ts : Targets) → if_goes b (looked t ts) ≡ looked t (where_goes b ts)
looked_where true t ts = refl
looked_where false t ts = refl

mutual
  pub find_is : (t : Target) (s : Stmt) → find t s ≡ looked t (targets (goes_into_switch t) s)
  find_is t (Label k s) = ap (found_here (is_label t k) s) (find_is t s) ∙ at_label t k s (targets (goes_into_switch t) s)
  find_is t (Case z s) = ap (found_here (is_case t z) s) (find_is t s) ∙ at_case t z s (targets (goes_into_switch t) s)
  find_is t (Default s) = ap (found_here (is_default t) s) (find_is t s) ∙ at_default t s (targets (goes_into_switch t) s)
  find_is t (Block b ds ss) = ap (λ o. and_after o (Leave b ds)) (find_in_is t ss) ∙ looked_after t (all_targets (goes_into_switch t) ss) (Leave b ds)
  find_is t (If e s u) =
      ap (λ o. first_of o (find t u)) (find_is t s) ∙ (ap (first_of (looked t (targets (goes_into_switch t) s))) (find_is t u)
      ∙ looked_first t (targets (goes_into_switch t) s) (targets (goes_into_switch t) u))
  find_is t (If_only e s) = find_is t s
  find_is t (Switch e s) =
      ap (λ o. if_goes (goes_into_switch t) (and_after o Break_here)) (find_is t s)
      ∙ (ap (if_goes (goes_into_switch t)) (looked_after t (targets (goes_into_switch t) s) Break_here)
      ∙ looked_where (goes_into_switch t) t (and_all (targets (goes_into_switch t) s) (Break_here ∷ [])))
  find_is t (Do s e) = ap (λ o. and_after o (Again e s)) (find_is t s) ∙ looked_after t (targets (goes_into_switch t) s) (Again e s)
  find_is t (For start test step s) =
      ap (λ o. and_after o (Round test step s)) (find_is t s) ∙ looked_after t (targets (goes_into_switch t) s) (Round test step s)
  find_is t (Value e) = refl
  find_is t Empty = refl
  find_is t (Declare d) = refl
  find_is t (Goto k) = refl
  find_is t Continue = refl
  find_is t Break = refl
  find_is t (Return e) = refl
  find_is t Return_none = refl

  pub find_in_is : (t : Target) (ss : Stmts) → find_in t ss ≡ looked t (all_targets (goes_into_switch t) ss)
  find_in_is t end = refl
  find_in_is t (and_then s ss) =
      ap (λ o. first_of (and_after o (Rest ss)) (find_in t ss)) (find_is t s)
      ∙ (ap (λ o. first_of o (find_in t ss)) (looked_after t (targets (goes_into_switch t) s) (Rest ss))
      ∙ (ap (first_of (looked t (and_all (targets (goes_into_switch t) s) (Rest ss ∷ [])))) (find_in_is t ss)
      ∙ looked_first t (and_all (targets (goes_into_switch t) s) (Rest ss ∷ [])) (all_targets (goes_into_switch t) ss)))

pub and_all_none : (ts : Targets) → and_all ts [] ≡ ts
and_all_none [] = refl
and_all_none (t ∷ ts) = ap (λ w. (t.0, w) ∷ and_all ts []) (append-nil t.1) ∙ ap (λ xs. (t.0, t.1) ∷ xs) (and_all_none ts)
