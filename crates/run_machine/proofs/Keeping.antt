-- What a control step does to the machine, by the calls of which it consists.
use Rattle.std.proofs.Common.{◌≡◌, inl, inr, ℕ, ◌+◌, ◌-◌, ◌≤◌, ◌^◌, min, Bool, true, false, refl, sym, ap, ◌∙◌, subst, arith, List, [], ◌∷◌, ◌++◌, length}
use Rattle.std.proofs.Common.{Option, Some, None, Result, Ok, Err, IfOk, slice_get}
use Rattle.std.proofs.lemmas.Result.{on_ok_weaker}
use Rattle.std.specs.Borrow.{Bor}
use Rattle.std.specs.Prelude.{OnOk}
use Rattle.ub_base.specs.declared.clause.Kind.TheVariants.{Body}
use Rattle.ub_base.specs.declared.names.Event.{Event}
use Rattle.ub_base.specs.declared.names.Item.{Item}
use Rattle.c_typed.specs.declared.tree.Place.{Place}
use Rattle.c_typed.specs.Order.{place}
use Rattle.mem_objects.specs.declared.value.Value.{Value as Kept_value}
use Rattle.mem_objects.specs.Memory.{Kept}
use Rattle.run_control.specs.declared.statement.Switch.{Switch}
use Rattle.run_control.specs.declared.work.Use.{Use}
use Rattle.run_control.specs.declared.work.Use.TheVariants as for_use
use Rattle.run_control.specs.Stacked.{Stacked}
use Rattle.run_layout.specs.declared.steps.Operand.{Operand}
use Rattle.run_state.specs.declared.halt.Halt.{Halt}
use Rattle.run_state.specs.declared.machine.Machine.{Machine}
use Rattle.run_state.specs.declared.machine.Open.{Open}
use Rattle.run_state.specs.declared.machine.Stage.{Stage}
use Rattle.run_state.specs.Operands.{operand_in}
use Rattle.run_answers.specs.declared.pick.Pick.{Pick}
use Rattle.run_answers.specs.declared.pick.Pick.TheVariants as pick
use Rattle.run_answers.specs.Ending.{EndsFrame, GoesBack, NotesIn, NotesWay, depth_without}
use Rattle.run_answers.specs.Keeping.{EndsTop, FillsObjects, GoesFurther, KeepsControl, KeepsFrames, KeepsPick, KeepsStep, ResultAfter, ResultBehind}
use Rattle.run_answers.specs.Keeping.{StaysClosed, StaysSo, begins, ends, machine_with, stays}
use Rattle.run_answers.specs.Picks.{IsOfEvent}
use Rattle.run_answers.specs.Settling.{HasSelected, HasUsed}
use Rattle.run_machine.proofs.Aside.{operand_aside}
use Rattle.run_machine.proofs.Settling.{closed_in}

-- ---- the top frame ends
way_noted : (straight : Bool) (m n : Machine) (u : Place) → NotesWay straight m u n → n ≡ record m { strayed = n.strayed }
way_noted true m n u notes = subst (λ (k : Machine). k ≡ record m { strayed = k.strayed }) (sym notes) refl
way_noted false m n u notes = notes.rest

pub in_noted : (o : Option Stage) (m n : Machine) (u : Place) → NotesIn o m u n → n ≡ record m { strayed = n.strayed }
in_noted None m n u notes = absurd notes
in_noted (Some s) m n u notes = way_noted s.straight m n u notes

-- what an end changes
abbrev ended_with : (old new : Machine) → Open → Machine
ended_with old new onto = record old {
  memory = new.memory;
  below = new.below;
  top = onto;
  work = new.work;
  depth = depth_without old.top.function old.depth;
  strayed = new.strayed;
  values = new.values;
  left = None;
  items = new.items;
  spare = new.spare;
}

module _ (m n : Machine) (g : GoesBack m n) where
  noted : n ≡ record g.middle { strayed = n.strayed }
  noted = in_noted g.middle.top.stage g.middle n (place m.top.node Body) g.noted

  middle_is : g.middle ≡ ended_with m g.middle g.onto
  middle_is = subst (λ (k : Machine). k ≡ ended_with m k g.onto) (sym g.rest) refl

  new_is : n ≡ ended_with m n g.onto
  new_is = subst (λ (k : Machine). k ≡ ended_with m k g.onto) (sym noted) (ap (λ (k : Machine). record k { strayed = n.strayed }) middle_is)

  pub top_ended : EndsTop m n
  top_ended = record {
    onto = g.onto;
    below = g.below ∙ ap (λ (k : Machine). k.below.items ++ g.onto ∷ []) (sym noted);
    rest = new_is;
    values = ap (λ (k : Machine). length k.values.items) noted ∙ g.count;
  }

pub further_ended : (m n : Machine) (r : Result (Option ℕ) Halt) → EndsFrame m n r → GoesFurther m n r
further_ended m n (Ok None) e = inr (top_ended m n e)
further_ended m n (Ok (Some status)) e = tt
further_ended m n (Err halt) e = tt

-- of a machine with other work
worked_ended : (m n : Machine) (w : Stacked) → EndsTop (record m { work = w }) n → EndsTop m n
worked_ended m n w e = record { onto = e.onto; below = e.below; rest = e.rest; values = e.values }

pub further_worked : (m n : Machine) (w : Stacked) (r : Result (Option ℕ) Halt) → GoesFurther (record m { work = w }) n r → GoesFurther m n r
further_worked m n w (Ok None) (inl e) = inl e
further_worked m n w (Ok None) (inr e) = inr (worked_ended m n w e)
further_worked m n w (Ok (Some status)) f = tt
further_worked m n w (Err halt) f = tt

-- ---- the frame stays
none_fewer : (n : ℕ) → n ≤ n
none_fewer n = omega arith

none_later : (n : ℕ) → n ≤ n + 1
none_later n = omega arith

-- nothing but this has changed
pub stays_all : (m n k : Machine) → n ≡ record m { memory = k.memory; work = k.work; items = k.items; spare = k.spare } → StaysSo m n
stays_all m n k is = subst (λ (z : Machine). StaysSo m z) (sym is) (record {
  keeps = record {
    rest = refl;
    turn = none_later m.top.turn;
    begun = λ j b ne at. at;
    values = none_fewer (length m.values.items);
    locals = none_fewer (length m.locals.items);
  };
  stage = refl;
  left = refl;
})

pub stays_worked : (m n : Machine) → n ≡ record m { work = n.work } → StaysSo m n
stays_worked m n is = stays_all m n (record m { work = n.work }) is

pub stays_written : (m n : Machine) → n ≡ record m { memory = n.memory; items = n.items } → StaysSo m n
stays_written m n is = stays_all m n (record m { memory = n.memory; items = n.items }) is

closed_stays : (m n : Machine) → m.top.stage ≡ None → StaysSo m n → StaysClosed m n
closed_stays m n closed s = record {
  keeps = s.keeps;
  stage = s.stage ∙ closed;
  result = subst (λ (o : Option Stage). ResultAfter m o n.left) (sym closed) s.left;
}

pub keeps_so : (m n : Machine) → m.top.stage ≡ None → StaysSo m n → KeepsControl m n (Ok None)
keeps_so m n closed s = stays (closed_stays m n closed s)

-- .. by what was answered
pub keeps_stays : (m n : Machine) (r : Result (Option ℕ) Halt) → m.top.stage ≡ None → OnOk r (StaysSo m n) → KeepsControl m n r
keeps_stays m n (Ok None) closed s = keeps_so m n closed s
keeps_stays m n (Ok (Some status)) closed s = tt
keeps_stays m n (Err halt) closed s = tt

pub keeps_going : (m n : Machine) (r : Result (Option ℕ) Halt) → m.top.stage ≡ None → OnOk r (n ≡ record m { work = n.work }) → KeepsControl m n r
keeps_going m n r closed is = keeps_stays m n r closed (on_ok_weaker r (stays_worked m n) is)

pub keeps_writing : (m n : Machine) (r : Result (Option ℕ) Halt) → m.top.stage ≡ None →
    OnOk r (n ≡ record m { memory = n.memory; items = n.items }) → KeepsControl m n r
keeps_writing m n r closed is = keeps_stays m n r closed (on_ok_weaker r (stays_written m n) is)

pub keeps_nothing : (m : Machine) → m.top.stage ≡ None → KeepsControl m m (Ok None)
keeps_nothing m closed = keeps_so m m closed (stays_worked m m refl)

-- a block is left, and then the frame goes on or ends
left_by : (m n k : Machine) (r : Result (Option ℕ) Halt) → m.top.stage ≡ None →
    GoesFurther (record m { memory = k.memory; items = k.items; spare = k.spare }) n r → KeepsControl m n r
left_by m n k (Ok None) closed (inl e) =
    keeps_so m n closed (stays_all m n (record m { memory = k.memory; work = n.work; items = k.items; spare = k.spare }) e)
left_by m n k (Ok None) closed (inr e) = ends (record { onto = e.onto; below = e.below; rest = e.rest; values = e.values })
left_by m n k (Ok (Some status)) closed f = tt
left_by m n k (Err halt) closed f = tt

pub keeps_left : (m k n : Machine) (r : Result (Option ℕ) Halt) → m.top.stage ≡ None →
    k ≡ record m { memory = k.memory; items = k.items; spare = k.spare } → GoesFurther k n r → KeepsControl m n r
keeps_left m k n r closed is f = left_by m n k r closed (subst (λ (z : Machine). GoesFurther z n r) is f)

-- the step was taken off before
pub keeps_worked : (m n : Machine) (w : Stacked) (r : Result (Option ℕ) Halt) → m.top.stage ≡ None → KeepsControl (record m { work = w }) n r →
    KeepsControl m n r
keeps_worked m n w (Ok None) closed (stays s) =
    stays (record {
      keeps = record { rest = s.keeps.rest; turn = s.keeps.turn; begun = s.keeps.begun; values = s.keeps.values; locals = s.keeps.locals };
      stage = s.stage;
      result = subst (λ (o : Option Stage). ResultAfter m o n.left) (sym closed)
          (subst (λ (o : Option Stage). ResultAfter (record m { work = w }) o n.left) closed s.result);
    })
keeps_worked m n w (Ok None) closed (begins b) =
    begins (record {
      keeps = record { rest = b.keeps.rest; turn = b.keeps.turn; begun = b.keeps.begun; values = b.keeps.values; locals = b.keeps.locals };
      closed = closed;
      number = b.number;
      laid = b.laid;
      at = b.at;
      own = b.own;
      stage = b.stage;
      many = b.many;
      rooms = b.rooms;
      shown = b.shown;
      left = b.left;
    })
keeps_worked m n w (Ok None) closed (ends e) = ends (worked_ended m n w e)
keeps_worked m n w (Ok (Some status)) closed f = tt
keeps_worked m n w (Err halt) closed f = tt

-- ---- a full expression is settled
result_as : (m k : Machine) (o : Operand) (how : Use) (left : Option Kept_value) → operand_in k o ≡ operand_in m o → k.left ≡ m.left →
    ResultBehind k o how left → ResultBehind m o how left
result_as m k o for_use.Unused left gives same r = r ∙ same
result_as m k o (for_use.Branch s t) left gives same r = r ∙ same
result_as m k o (for_use.Enter s) left gives same r = r ∙ same
result_as m k o (for_use.Select s) left gives same r = r ∙ same
result_as m k o (for_use.GoRound s) left gives same r = r ∙ same
result_as m k o (for_use.GoAgain s) left gives same r = r ∙ same
result_as m k o for_use.Result left gives same r = (r.0, r.1, λ g is. r.2 g (gives ∙ is))

settled_by : (m n k : Machine) (stage : Stage) (r : Result (Option ℕ) Halt) → m.top.stage ≡ Some stage →
    ResultBehind (closed_in m) stage.value m.top.how k.left → GoesFurther (record (closed_in m) { work = k.work; left = k.left }) n r → KeepsControl m n r
settled_by m n k stage (Ok None) is result (inl e) =
    stays (record {
      keeps = subst (λ (z : Machine). KeepsFrames m z) (sym e) (record {
        rest = refl;
        turn = none_later m.top.turn;
        begun = λ j b ne at. at;
        values = none_fewer (length m.values.items);
        locals = none_fewer (length m.locals.items);
      });
      stage = ap (λ (z : Machine). z.top.stage) e;
      result = subst (λ (o : Option Stage). ResultAfter m o n.left) (sym is)
          (subst (λ (l : Option Kept_value). ResultBehind m stage.value m.top.how l) (sym (ap (λ (z : Machine). z.left) e))
          (result_as m (closed_in m) stage.value m.top.how k.left (operand_aside m None m.left m.items stage.value) refl result));
    })
settled_by m n k stage (Ok None) is result (inr e) = ends (record { onto = e.onto; below = e.below; rest = e.rest; values = e.values })
settled_by m n k stage (Ok (Some status)) is result f = tt
settled_by m n k stage (Err halt) is result f = tt

pub keeps_used : (m k n : Machine) (stage : Stage) (r : Result (Option ℕ) Halt) → HasUsed (closed_in m) m.top.how stage.value k →
    ResultBehind (closed_in m) stage.value m.top.how k.left → GoesFurther k n r → m.top.stage ≡ Some stage → KeepsControl m n r
keeps_used m k n stage r used result f is = settled_by m n k stage r is result (subst (λ (z : Machine). GoesFurther z n r) used.rest f)

pub keeps_selected : (m k n : Machine) (stage : Stage) (b : Bor Switch) (r : Result (Option ℕ) Halt) → m.top.how ≡ for_use.Select b →
    HasSelected (closed_in m) b.now.number stage.value k → GoesFurther k n r → m.top.stage ≡ Some stage → KeepsControl m n r
keeps_selected m k n stage b r how selects f is =
    let lefts : k.left ≡ m.left = ap (λ (z : Machine). z.left) selects.rest in
    let rest : k ≡ record (closed_in m) { work = k.work; left = k.left } =
    selects.rest ∙ ap (λ (l : Option Kept_value). record (closed_in m) { work = k.work; left = l }) (sym lefts) in
    settled_by m n k stage r is (subst (λ (u : Use). ResultBehind (closed_in m) stage.value u k.left) (sym how) lefts)
    (subst (λ (z : Machine). GoesFurther z n r) rest f)

-- ---- objects are created, and take arguments
pub fills_none : (m : Machine) → FillsObjects m m
fills_none m = record { rest = refl; values = none_fewer (length m.values.items); locals = none_fewer (length m.locals.items) }

pub fills_then : (a b c : Machine) → FillsObjects a b → FillsObjects b c → FillsObjects a c
fills_then a b c first second = record {
  rest = second.rest
      ∙ ap (λ (k : Machine). record k { memory = c.memory; values = c.values; locals = c.locals; items = c.items; spare = c.spare }) first.rest;
  values = (let x = first.values in let y = second.values in omega (arith, x, y));
  locals = (let x = first.locals in let y = second.locals in omega (arith, x, y));
}

pub fills_one : (m n : Machine) → n ≡ record m { memory = n.memory; locals = n.locals; items = n.items; spare = n.spare } →
    length n.locals.items ≡ length m.locals.items → FillsObjects m n
fills_one m n is count = record {
  rest = subst (λ (k : Machine). k ≡ record m { memory = k.memory; values = k.values; locals = k.locals; items = k.items; spare = k.spare }) (sym is) refl;
  values = (let same : length n.values.items ≡ length m.values.items = ap (λ (k : Machine). length k.values.items) is in omega (arith, same));
  locals = omega (arith, count);
}

pub fills_created : (m p : Machine) (memory : Kept) (touched items : List Item) → p ≡ record m { memory = memory; spare = touched; locals = p.locals } →
    length p.locals.items ≡ length m.locals.items → FillsObjects m (record p { items = items })
fills_created m p memory touched items is count =
    fills_one m (record p { items = items })
    (ap (λ (k : Machine). record k { items = items })
    (subst (λ (k : Machine). k ≡ record m { memory = k.memory; locals = k.locals; items = k.items; spare = k.spare }) (sym is) refl)) count

pub fills_argument : (m t p : Machine) (items : List Item) → t ≡ record m { values = t.values } → length t.values.items ≡ length m.values.items →
    p ≡ record t { memory = p.memory; spare = p.spare } → FillsObjects m (record p { items = items })
fills_argument m t p items taken count put =
    let whole : p ≡ record m { memory = p.memory; values = t.values; spare = p.spare } =
    put ∙ ap (λ (k : Machine). record k { memory = p.memory; spare = p.spare }) taken in
    let values : length p.values.items ≡ length t.values.items = ap (λ (k : Machine). length k.values.items) whole in
    let locals : length p.locals.items ≡ length m.locals.items = ap (λ (k : Machine). length k.locals.items) whole in
    record {
      rest = ap (λ (k : Machine). record k { items = items })
          (subst (λ (k : Machine). k ≡ record m { memory = k.memory; values = k.values; locals = k.locals; items = k.items; spare = k.spare })
          (sym whole) refl);
      values = omega (arith, values, count);
      locals = omega (arith, locals);
    }

turn_within : (old turn : ℕ) → turn ≡ min (old + 1) (2 ^ 64 - 1) → turn ≤ old + 1
turn_within old turn is = omega (arith, is)

-- a block is entered
pub stays_entered : (m n : Machine) (number turn : ℕ) → turn ≡ min (m.top.turn + 1) (2 ^ 64 - 1) →
    FillsObjects (record m { entered = number; top = record m.top { turn = turn } }) n → StaysSo m n
stays_entered m n number turn is f =
    let turned : n.top.turn ≡ turn = ap (λ (k : Machine). k.top.turn) f.rest in
    let within = turn_within m.top.turn turn is in
    record {
      keeps = record {
        rest = subst (λ (k : Machine). k ≡ machine_with m k) (sym f.rest) refl;
        turn = omega (arith, turned, within);
        begun = λ j b ne at. ap (λ (k : Machine). slice_get k.begun.items j) f.rest ∙ at;
        values = f.values;
        locals = f.locals;
      };
      stage = ap (λ (k : Machine). k.top.stage) f.rest;
      left = ap (λ (k : Machine). k.left) f.rest;
    }

-- ---- of a pick
pub status_kept : (m n : Machine) (status : Option ℕ) → KeepsControl m n (Ok status) → KeepsPick m n (Ok (pick.Step status))
status_kept m n None k = k
status_kept m n (Some status) k = tt

pub event_kept : (m n : Machine) (event : Event) (r : Result Pick Halt) → IfOk r (IsOfEvent event) → KeepsPick m n r
event_kept m n event (Ok (pick.Step status)) is = absurd is
event_kept m n event (Ok (pick.Starts started)) is = tt
event_kept m n event (Ok (pick.Event taken completed status)) is = tt
event_kept m n event (Err halt) is = tt

-- of a machine that has cleared what it had touched
result_cleared : (m : Machine) (is : List Item) (o : Option Stage) (left : Option Kept_value) → ResultAfter (record m { items = is }) o left →
    ResultAfter m o left
result_cleared m is None left r = r
result_cleared m is (Some s) left r =
    result_as m (record m { items = is }) s.value m.top.how left (operand_aside m m.top.stage m.left is s.value) refl r

step_cleared : (m n : Machine) (is : List Item) → KeepsStep (record m { items = is }) n → KeepsStep m n
step_cleared m n is (stays s) =
    stays (record {
      keeps = record { rest = s.keeps.rest; turn = s.keeps.turn; begun = s.keeps.begun; values = s.keeps.values; locals = s.keeps.locals };
      stage = s.stage;
      result = result_cleared m is m.top.stage n.left s.result;
    })
step_cleared m n is (begins b) =
    begins (record {
      keeps = record { rest = b.keeps.rest; turn = b.keeps.turn; begun = b.keeps.begun; values = b.keeps.values; locals = b.keeps.locals };
      closed = b.closed;
      number = b.number;
      laid = b.laid;
      at = b.at;
      own = b.own;
      stage = b.stage;
      many = b.many;
      rooms = b.rooms;
      shown = b.shown;
      left = b.left;
    })
step_cleared m n is (ends e) = ends (record { onto = e.onto; below = e.below; rest = e.rest; values = e.values })

pick_cleared : (m n : Machine) (is : List Item) (r : Result Pick Halt) → KeepsPick (record m { items = is }) n r → KeepsPick m n r
pick_cleared m n is (Ok (pick.Step None)) k = step_cleared m n is k
pick_cleared m n is (Ok (pick.Step (Some status))) k = tt
pick_cleared m n is (Ok (pick.Starts event)) k = tt
pick_cleared m n is (Ok (pick.Event event completed status)) k = tt
pick_cleared m n is (Err halt) k = tt

pub step_kept : (m k n : Machine) (is : List Item) (r : Result Pick Halt) → k ≡ m → KeepsPick (record k { items = is }) n r → KeepsPick m n r
step_kept m k n is r same kept = pick_cleared m n is r (subst (λ (z : Machine). KeepsPick (record z { items = is }) n r) same kept)
