-- What is said of `int main(void){return 0;}`: every order of it ends alike, and a certificate of it is valid.
use Rattle.std.proofs.Common.{◌≡◌, ◌≢◌, ◌≤◌, ℕ, zero, suc, true≢false, List, [], ◌∷◌, length, Option, Some, None, refl, sym, ap, ◌∙◌, subst, arith}
use Rattle.ub_base.specs.declared.clause.Clause.{Clause}
use Rattle.ub_base.specs.Frames.{path_of}
use Rattle.c_typed.specs.declared.tree.Place.{Place}
use Rattle.mem_spec.specs.Streams.{silent}
use Rattle.c_model.specs.World.{World}
use Rattle.c_model.specs.Steps.{Pick, Control, Ev}
use Rattle.c_model.specs.Runs.{
  Entry,
  State,
  Outcome,
  Refused,
  Raises,
  Running,
  is_running,
  trace_of,
  main_frame,
  nothing_stands,
  start,
  step,
  After,
  here,
  refused,
  last,
  more,
  too_late,
}
use Rattle.c_model.specs.Findings.{Has, first, later, Both, newest, older, Meets, raised, raced}
use Rattle.c_model.specs.Claims.{ComesTo, starts, stops, refuses, GoesWell, EveryOrderAlike}
use Rattle.c_model.specs.Certificates.{Next, Says_clean, IsValid, HasNoPair, clean}
use Rattle.c_model.specs.Examples.{world_of, canonical_run, return_zero}
use Rattle.c_model.proofs.Numbers.{numbered}

abbrev world : World
world = world_of return_zero []

abbrev state_in : Outcome → State → State
state_in (Running st) other = st
state_in o other = other

abbrev blank : State
blank = record { top = main_frame world []; held = []; store = nothing_stands world []; trace = [] }

-- the states before the four picks
abbrev before_enter : State
before_enter = state_in (start world [] []) blank

abbrev before_begin : State
before_begin = state_in (step world before_enter Control) blank

abbrev before_settle : State
before_settle = state_in (step world before_begin Control) blank

abbrev before_leave : State
before_leave = state_in (step world before_settle Control) blank

-- control steps alone
abbrev Placeless : List Entry → Type 0
Placeless [] = Unit {0}
Placeless (e ∷ es) = (e.place ≡ None) × Placeless es

no_place : (o : Option Place) (u : Place) → o ≡ None → o ≡ Some u → ⊥
no_place None u h k = cc (k)
no_place (Some v) u h k = cc (h)

none_has : (trace : List Entry) (e : Entry) (u : Place) → Placeless trace → Has trace e u → ⊥
none_has _ e u p (first _ es _ q) = no_place e.place u p.0 q
none_has _ e u p (later d _ es _ h) = none_has es e u p.1 h

no_both : (trace : List Entry) (d e : Entry) (u v : Place) → Placeless trace → Both trace d u e v → ⊥
no_both _ d e u v p (newest _ _ es _ _ q h s t) = no_place d.place u p.0 q
no_both _ d e u v p (older c _ _ es _ _ b) = no_both es d e u v p.1 b

abbrev IsRaise : Outcome → Type 0
IsRaise (Raises c trace) = Unit {0}
IsRaise o = ⊥

meets_none : (o : Outcome) (c : Clause) → (IsRaise o → ⊥) → Placeless (trace_of o) → Meets world o c → ⊥
meets_none _ c n p (raised _ trace) = n tt
meets_none o _ n p (raced _ d e u v r) = no_both (trace_of o) d e u v p r.both

record Fine (ps : List Pick) (n : ℕ) (o : Outcome) : Type 0 where
  goes : o ≢ Refused → GoesWell world 0 silent o
  bounded : o ≢ Refused → length ps ≤ n
  defined : (c : Clause) → Meets world o c → ⊥

fine_refused : (ps : List Pick) (n : ℕ) → Fine ps n Refused
fine_refused ps n = record { goes = λ k. absurd (k refl); bounded = λ k. absurd (k refl); defined = λ c m. meets_none Refused c (λ x. x) tt m }

fine_later : (p : Pick) (ps : List Pick) (n : ℕ) (o : Outcome) → Fine ps n o → Fine (p ∷ ps) (suc n) o
fine_later p ps n o f = record { goes = f.goes; bounded = λ k. (let h = f.bounded k in omega (arith, h)); defined = f.defined }

same_state : (a b : State) → Running a ≡ Running b → a ≡ b
same_state a b q = ap (λ o. state_in o a) q

from_leave : (ps : List Pick) (o : Outcome) → After world before_leave ps o → Fine ps 1 o
from_leave _ _ (here _) = record {
  goes = λ k. (Control, tt);
  bounded = λ k. omega arith;
  defined = λ c m. meets_none (Running before_leave) c (λ x. x) (refl, (refl, (refl, tt))) m;
}
from_leave _ _ (refused _ p ps n) = fine_refused (p ∷ ps) 1
from_leave _ _ (last _ Control m) = record {
  goes = λ k. (refl, refl);
  bounded = λ k. omega arith;
  defined = λ c m. meets_none (step world before_leave Control) c (λ x. x) (refl, (refl, (refl, (refl, tt)))) m;
}
from_leave _ _ (last _ (Ev u) m) = absurd m
from_leave _ _ (more _ next Control q ps o m e a) = absurd (cc (e))
from_leave _ _ (more _ next (Ev u) q ps o m e a) = absurd m
from_leave _ _ (too_late _ p q ps m e) = fine_refused (p ∷ q ∷ ps) 1

from_settle : (ps : List Pick) (o : Outcome) → After world before_settle ps o → Fine ps 2 o
from_settle _ _ (here _) = record {
  goes = λ k. (Control, refl);
  bounded = λ k. omega arith;
  defined = λ c m. meets_none (Running before_settle) c (λ x. x) (refl, (refl, tt)) m;
}
from_settle _ _ (refused _ p ps n) = fine_refused (p ∷ ps) 2
from_settle _ _ (last _ Control m) = fine_later Control [] 1 _ (from_leave [] _ (here before_leave))
from_settle _ _ (last _ (Ev u) m) = absurd (true≢false (sym m.ready.due))
from_settle _ _ (more _ next Control q ps o m e a) =
    fine_later Control (q ∷ ps) 1 o (from_leave (q ∷ ps) o (subst (λ z. After world z (q ∷ ps) o) (sym (same_state before_leave next e)) a))
from_settle _ _ (more _ next (Ev u) q ps o m e a) = absurd (true≢false (sym m.ready.due))
from_settle _ _ (too_late _ p q ps m e) = fine_refused (p ∷ q ∷ ps) 2

from_begin : (ps : List Pick) (o : Outcome) → After world before_begin ps o → Fine ps 3 o
from_begin _ _ (here _) = record {
  goes = λ k. (Control, tt);
  bounded = λ k. omega arith;
  defined = λ c m. meets_none (Running before_begin) c (λ x. x) (refl, tt) m;
}
from_begin _ _ (refused _ p ps n) = fine_refused (p ∷ ps) 3
from_begin _ _ (last _ Control m) = fine_later Control [] 2 _ (from_settle [] _ (here before_settle))
from_begin _ _ (last _ (Ev u) m) = absurd m
from_begin _ _ (more _ next Control q ps o m e a) =
    fine_later Control (q ∷ ps) 2 o (from_settle (q ∷ ps) o (subst (λ z. After world z (q ∷ ps) o) (sym (same_state before_settle next e)) a))
from_begin _ _ (more _ next (Ev u) q ps o m e a) = absurd m
from_begin _ _ (too_late _ p q ps m e) = fine_refused (p ∷ q ∷ ps) 3

from_enter : (ps : List Pick) (o : Outcome) → After world before_enter ps o → Fine ps 4 o
from_enter _ _ (here _) = record {
  goes = λ k. (Control, tt);
  bounded = λ k. omega arith;
  defined = λ c m. meets_none (Running before_enter) c (λ x. x) tt m;
}
from_enter _ _ (refused _ p ps n) = fine_refused (p ∷ ps) 4
from_enter _ _ (last _ Control m) = fine_later Control [] 3 _ (from_begin [] _ (here before_begin))
from_enter _ _ (last _ (Ev u) m) = absurd m
from_enter _ _ (more _ next Control q ps o m e a) =
    fine_later Control (q ∷ ps) 3 o (from_begin (q ∷ ps) o (subst (λ z. After world z (q ∷ ps) o) (sym (same_state before_begin next e)) a))
from_enter _ _ (more _ next (Ev u) q ps o m e a) = absurd m
from_enter _ _ (too_late _ p q ps m e) = fine_refused (p ∷ q ∷ ps) 4

from_start : (ps : List Pick) (o : Outcome) → ComesTo world [] [] ps o → Fine ps 4 o
from_start ps o (starts st _ _ q a) = from_enter ps o (subst (λ z. After world z ps o) (sym (same_state before_enter st q)) a)
from_start _ o (stops _ q n) = absurd (true≢false (ap is_running q ∙ n))
from_start _ _ (refuses p ps n) = absurd (true≢false n)

pub alike : EveryOrderAlike world [] [] 0 silent 4
alike = record {
  alike = λ ps o a. (from_start ps o a).goes;
  bounded = λ ps o a. (from_start ps o a).bounded;
  defined = λ ps o c a. (from_start ps o a).defined c;
}

abbrev whole : List Entry
whole = trace_of (canonical_run return_zero [] 4)

no_pair : HasNoPair world whole
no_pair = record {
  no_race = λ d e u v r. no_both whole d e u v (refl, (refl, (refl, (refl, tt)))) r.both;
  no_quarrel = λ d e u v r. no_both whole d e u v (refl, (refl, (refl, (refl, tt)))) r.both;
  no_end = λ d u v r. none_has whole d u (refl, (refl, (refl, (refl, tt)))) r.here;
}

listed : (i : ℕ) → i ≤ 0 → world.number (path_of [] i) ≡ i
listed zero l = refl
listed (suc i) l = absurd (omega (arith, l))

pub valid : IsValid world [] [] [] (Next 4 ∷ []) (Says_clean 0 [])
valid = record {
  map = refl;
  numbering = numbered;
  listed = listed;
  shown = clean 0 silent whole
      (starts before_enter _ _ refl (more before_enter before_begin Control _ _ _ tt refl
      (more before_begin before_settle Control _ _ _ tt refl (more before_settle before_leave Control _ _ _ refl refl (last before_leave Control tt)))))
      no_pair;
}
