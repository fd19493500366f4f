-- The case of a `switch` comes next as the definitions say (6.8.4.2p5).
use Rattle.std.proofs.Common.{◌≡◌, ℕ, Bool, true, false, refl, sym, ap, ◌∙◌, subst, List, ◌∷◌, ℤ, Option, Some, slice_get, rules}
use Rattle.std.proofs.lemmas.Option.{same_Some}
use Rattle.std.specs.Borrow.{Bor}
use Rattle.std.specs.Prelude.{OnOk, Result, Ok, Err}
use Rattle.mem_objects.specs.Memory.{Kept}
use Rattle.mem_objects.specs.declared.value.Value.{Value as Kept_value}
use Rattle.c_model.specs.Control as todo
use Rattle.c_model.specs.Control.{Todo, Break_here, moved_in, selected, work_after}
use Rattle.c_model.specs.Program.{Stmt}
use Rattle.c_model.specs.Values.{integer_of, truth}
use Rattle.c_model.specs.World.{World}
use Rattle.c_typed.specs.declared.program.Program.{Program}
use Rattle.run_values.specs.Views.{value_in}
use Rattle.run_control.specs.declared.links.Link.{Link}
use Rattle.run_control.specs.declared.links.Place.{Place}
use Rattle.run_control.specs.declared.statement.Statement.{Statement}
use Rattle.run_control.specs.declared.statement.Statement.TheFolds.{the_lemmas}
use Rattle.run_control.specs.declared.statement.Switch.{Switch}
use Rattle.run_control.specs.declared.work.Use.TheVariants as for_use
use Rattle.run_control.specs.Links.{work_at}
use Rattle.run_control.specs.Stacked.{Stacked}
use Rattle.run_control.specs.Targets.{AllEqual, bodies}
use Rattle.run_control.specs.View.{Meaning, switch_of, todo_of, use_of}
use Rattle.run_statements.specs.Jumping.{HasJumps, IsCase}
use Rattle.run_layout.specs.declared.steps.Operand.{Operand}
use Rattle.run_state.specs.declared.machine.Machine.{Machine}
use Rattle.run_state.specs.Meaning.{StandsCode}
use Rattle.run_state.specs.Operands.{operand_in}
use Rattle.run_answers.specs.Jumps.{HasLabelsOf}
use Rattle.run_answers.specs.Settling.{HasSelected}

-- ---- the code
-- where the `switch` of this number goes in the body of this function
abbrev CasesOf : Machine → Option ℕ → ℕ → ℤ → Option Place → Type 0
CasesOf m function n z target =
    (bs : List (Option (Bor Statement))) (k : ℕ) (body : Bor Statement) → function ≡ Some k → HasJumps m.jumps bs → slice_get bs k ≡ Some (Some body)
    → IsCase m.jumps.links.items body.now n z target

pub cases_in : (m : Machine) (function : Option ℕ) (own n : ℕ) (z : ℤ) (target : Option Place) → function ≡ Some own →
    ((bs : List (Option (Bor Statement))) (body : Bor Statement) → HasJumps m.jumps bs → slice_get bs own ≡ Some (Some body) →
    IsCase m.jumps.links.items body.now n z target) → CasesOf m function n z target
cases_in m function own n z target is case = λ bs k body at has there.
    case bs body has (subst (λ (j : ℕ). slice_get bs j ≡ Some (Some body)) (same_Some k own (sym at ∙ is)) there)

pub selected_so : (m m2 : Machine) (n : ℕ) (o : Operand) (z : ℤ) (target : Option Place) →
    ((h : Kept_value) → operand_in m o ≡ Some h → (k : Kept) → z ≡ integer_of (value_in k h)) →
    CasesOf m m.top.function n z target →
    m2 ≡ record m { work = m2.work } → m2.work.below ≡ m.work.below →
    ((k : Meaning) → todo_of k m2.work.now ≡ moved_in (work_at k m.jumps.links.items target) (Break_here ∷ todo_of k m.work.now)) →
    HasSelected m n o m2
selected_so m m2 n o z target value case rest below now = record {
  rest = rest;
  below = below;
  now = λ h is k bs function body has own there mg equal.
      now mg
      ∙ ap (λ (w : Option Todo). moved_in w (Break_here ∷ todo_of mg m.work.now)) (case bs function body own has there mg equal)
      ∙ ap (λ (y : ℤ). selected y (mg.body n) (Break_here ∷ todo_of mg m.work.now)) (value h is k);
}

pub selected_ok : {A E : Type 0} (r : Result A E) (m : Machine) (w : Stacked) (n : ℕ) (o : Operand) (z : ℤ) (target : Option Place) (links : List Link) →
    links ≡ m.jumps.links.items → ((h : Kept_value) → operand_in m o ≡ Some h → (k : Kept) → z ≡ integer_of (value_in k h)) →
    CasesOf m m.top.function n z target →
    OnOk r (w.below ≡ m.work.below) →
    OnOk r ((k : Meaning) → todo_of k w.now ≡ moved_in (work_at k links target) (Break_here ∷ todo_of k m.work.now)) →
    OnOk r (HasSelected m n o (record m { work = w }))
selected_ok (Err e) m w n o z target links same value case below now = tt
selected_ok (Ok x) m w n o z target links same value case below now =
    selected_so m (record m { work = w }) n o z target value case refl below
    (subst (λ (ls : List Link). (k : Meaning) → todo_of k w.now ≡ moved_in (work_at k ls target) (Break_here ∷ todo_of k m.work.now)) same now)

-- ---- what is left to do is that of the definitions' use
select_work : (b : Bool) (z : ℤ) (s : Stmt) (rest : Todo) → work_after b z (todo.To_select s) rest ≡ selected z s (Break_here ∷ rest)
select_work true z s rest = refl
select_work false z s rest = refl

number_seen : (mg : Meaning) (b : Switch) → (switch_of mg b).number ≡ b.number
number_seen mg b = search (rules, the_lemmas)

pub selected_todo : (world : World) (meaning : Option ℕ → Meaning) (p : Program) (m m2 : Machine) (n : ℕ) (b : Bor Switch) (o : Operand) (h : Kept_value)
    (k : Kept) → StandsCode world p m.image.code.now meaning → HasLabelsOf m.image.code.now m.jumps n → m.top.function ≡ Some n →
    HasSelected m b.now.number o m2 →
    operand_in m o ≡ Some h →
    todo_of (meaning (Some n)) m2.work.now ≡ work_after (truth (value_in k h)) (integer_of (value_in k h)) (use_of (meaning (Some n)) (for_use.Select b))
    (todo_of (meaning (Some n)) m.work.now)
selected_todo world meaning p m m2 n b o h k stands kept own selects gives =
    let mg = meaning (Some n) in
    let z = integer_of (value_in k h) in
    let rest = todo_of mg m.work.now in
    selects.now h gives k kept.bodies n kept.body kept.labels own kept.there mg
    (subst (λ (s : Statement). AllEqual (bodies mg s)) (sym kept.same) (stands.switches n kept.function kept.at))
    ∙ ap (λ (i : ℕ). selected z (mg.body i) (Break_here ∷ rest)) (sym (number_seen mg b.now))
    ∙ sym (select_work (truth (value_in k h)) z (mg.body (switch_of mg b.now).number) rest)
