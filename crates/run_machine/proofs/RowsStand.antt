-- Rows of objects stay, by the calls of which a control step consists.
use Rattle.std.proofs.Common.{◌≡◌, ◌+◌, ◌-◌, ◌^◌, min, ℕ, refl, sym, ap, ◌∙◌, subst, List, length, slice_get, Option, Some, None, Result, Ok, Err}
use Rattle.std.specs.Borrow.{Bor}
use Rattle.c_typed.specs.declared.tree.Place.{Place}
use Rattle.mem_objects.specs.Keeps.{RowsStay}
use Rattle.mem_objects.specs.Memory.{Kept}
use Rattle.c_model.specs.Control.{ready_work}
use Rattle.c_model.specs.Runs.{State}
use Rattle.c_model.specs.World.{World}
use Rattle.run_control.specs.declared.statement.Block.{Block}
use Rattle.run_control.specs.declared.work.Step.{Step}
use Rattle.run_control.specs.declared.work.Step.TheVariants as taking
use Rattle.run_control.specs.declared.work.Work.{Work as Kept_work}
use Rattle.run_control.specs.View.{Meaning, block_of, readied, todo_of}
use Rattle.run_layout.specs.declared.steps.BlockCode.{BlockCode}
use Rattle.run_state.specs.declared.halt.Halt.{Halt}
use Rattle.run_state.specs.declared.halt.Halt.TheVariants as halt
use Rattle.run_state.specs.declared.machine.Machine.{Machine}
use Rattle.run_answers.specs.declared.pick.Pick.{Pick}
use Rattle.run_answers.specs.declared.pick.Pick.TheVariants as pick
use Rattle.run_answers.specs.Answering.{HasTaken}
use Rattle.run_answers.specs.Ending.{EndsFrame, GoesBack, NotesIn}
use Rattle.run_layout.specs.InRange.{part_of}
use Rattle.run_answers.specs.Entering.{CanBear, Enters, EntersWithin, turned}
use Rattle.run_answers.specs.Leaving.{LeavesBlock}
use Rattle.run_answers.specs.Rows.{GrowsByControl, GrowsByStep, KeepsAnswered, KeepsMemory, KeepsRows, KeepsTaken}
use Rattle.run_machine.proofs.Entered.{IsKnown, known}
use Rattle.run_machine.proofs.Entering.{passed_rows}
use Rattle.run_machine.proofs.Keeping.{in_noted}
use Rattle.run_answers.proofs.Staying.{has_taken, with_work}

-- ---- memory, and rows
pub rows_by : (m n : Machine) (a b : Kept) → a ≡ m.memory → n.memory ≡ b → RowsStay a.rows b.rows → KeepsRows m n
rows_by m n a b old new stay =
    subst (λ (k : Kept). RowsStay k.rows n.memory.rows) old (subst (λ (k : Kept). RowsStay a.rows k.rows) (sym new) stay)

pub rows_same : (m n : Machine) → n.memory ≡ m.memory → KeepsRows m n
rows_same m n is = subst (λ (k : Kept). RowsStay m.memory.rows k.rows) (sym is) (λ x r at. at)

pub rows_then : (a b c : Machine) → KeepsRows a b → KeepsRows b c → KeepsRows a c
rows_then a b c first second = λ x r at. second x r (first x r at)

-- whatever is answered
pub rows_answered : {A : Type 0} (m n : Machine) (r : Result A Halt) → KeepsRows m n → KeepsAnswered m n r
rows_answered m n (Ok a) stay = stay
rows_answered m n (Err halt.Unplaced) stay = stay
rows_answered m n (Err (halt.Raised event line clause)) stay = stay
rows_answered m n (Err (halt.Over cause number)) stay = stay
rows_answered m n (Err halt.NoMemory) stay = tt

pub answered_then : {A : Type 0} (a b c : Machine) (r : Result A Halt) → KeepsRows a b → KeepsAnswered b c r → KeepsAnswered a c r
answered_then a b c (Ok x) first second = rows_then a b c first second
answered_then a b c (Err halt.Unplaced) first second = rows_then a b c first second
answered_then a b c (Err (halt.Raised event line clause)) first second = rows_then a b c first second
answered_then a b c (Err (halt.Over cause number)) first second = rows_then a b c first second
answered_then a b c (Err halt.NoMemory) first second = tt

-- of a control step
pub taken_same : {A : Type 0} (m n : Machine) (r : Result A Halt) → KeepsMemory m n r → KeepsTaken m n r
taken_same m n (Ok a) is = rows_same m n is
taken_same m n (Err halt.Unplaced) is = absurd (cc)
taken_same m n (Err (halt.Raised event line clause)) is = absurd (cc)
taken_same m n (Err (halt.Over cause number)) is = absurd (cc)
taken_same m n (Err halt.NoMemory) is = tt

pub taken_then : {A : Type 0} (a b c : Machine) (r : Result A Halt) → KeepsRows a b → KeepsTaken b c r → KeepsTaken a c r
taken_then a b c (Ok x) first second = rows_then a b c first second
taken_then a b c (Err halt.Unplaced) first second = rows_then a b c first second
taken_then a b c (Err (halt.Raised event line clause)) first second = absurd second
taken_then a b c (Err (halt.Over cause number)) first second = rows_then a b c first second
taken_then a b c (Err halt.NoMemory) first second = tt

-- a machine with the same memory before
pub memory_then : {A : Type 0} (a b c : Machine) (r : Result A Halt) → b.memory ≡ a.memory → KeepsMemory b c r → KeepsMemory a c r
memory_then a b c (Ok x) first second = second ∙ first
memory_then a b c (Err h) first second = second

-- ---- a frame ends
pub noted_memory : (m n : Machine) (u : Place) → NotesIn m.top.stage m u n → n.memory ≡ m.memory
noted_memory m n u notes = ap (λ (k : Machine). k.memory) (in_noted m.top.stage m n u notes)

back_memory : (m n : Machine) → GoesBack m n → n.memory ≡ m.memory
back_memory m n g = noted_memory g.middle n _ g.noted ∙ ap (λ (k : Machine). k.memory) g.rest

pub ended_memory : (m n : Machine) (r : Result (Option ℕ) Halt) → EndsFrame m n r → KeepsMemory m n r
ended_memory m n (Ok None) e = back_memory m n e
ended_memory m n (Ok (Some status)) e = e.memory
ended_memory m n (Err h) e = e

-- ---- a block is entered
within_rows : (world : World) (meaning : Option ℕ → Meaning) (m new : Machine) (b : Bor Block) (st : State) (c : BlockCode) (r : Result (Option ℕ) Halt) →
    HasTaken world meaning (taking.Enter b) m st →
    (k : IsKnown world meaning m b.now.number (block_of (meaning m.top.function) b.now).number
    ((meaning m.top.function).decls (block_of (meaning m.top.function) b.now).number) st c) → EntersWithin (turned m b.now.number) new c r →
    KeepsTaken m new r
within_rows world meaning m new b st c (Ok status) h k e = passed_rows world meaning m new b st c h k e.1 (e.2, e.3, e.4)
within_rows world meaning m new b st c (Err halt.Unplaced) h k e = rows_by m new m.memory e.1.middle.memory refl e.1.same e.1.before.kept.rows
within_rows world meaning m new b st c (Err (halt.Over cause number)) h k e = rows_same m new e.3
within_rows world meaning m new b st c (Err halt.NoMemory) h k e = tt
within_rows world meaning m new b st c (Err (halt.Raised event line clause)) h k e = absurd e

-- where the code has the block
there_rows : (m new : Machine) (b : Bor Block) (r : Result (Option ℕ) Halt) (c : BlockCode) →
    slice_get m.image.code.now.tables.blocks.items (min (m.top.blocks + b.now.number) (2 ^ 32 - 1)) ≡ Some c →
    (CanBear (turned m b.now.number) c.first (length (part_of m.image.code.now.tables.objects.items c.objects)) →
    EntersWithin (turned m b.now.number) new c r) → GrowsByStep (taking.Enter b) m new r
there_rows m new b r c at e = λ world meaning st h.
    let k = known world meaning m b st c h at in
    within_rows world meaning m new b st c r h k (e k.bears)

enters_rows : (m new : Machine) (b : Bor Block) (r : Result (Option ℕ) Halt) → Enters m b.now.number new r → GrowsByStep (taking.Enter b) m new r
enters_rows m new b (Ok status) e = there_rows m new b (Ok status) e.0 e.1 e.2
enters_rows m new b (Err halt.Unplaced) e = there_rows m new b (Err halt.Unplaced) e.0 e.1 e.2
enters_rows m new b (Err (halt.Raised event line clause)) e = there_rows m new b (Err (halt.Raised event line clause)) e.0 e.1 e.2
enters_rows m new b (Err (halt.Over cause number)) e = there_rows m new b (Err (halt.Over cause number)) e.0 e.1 e.2
enters_rows m new b (Err halt.NoMemory) e = λ world meaning st h. tt

pub entered_rows : (m new : Machine) (s : Step) (b : Bor Block) (number : ℕ) (r : Result (Option ℕ) Halt) → s ≡ taking.Enter b → number ≡ b.now.number →
    Enters m number new r → GrowsByStep s m new r
entered_rows m new s b number r is same e =
    subst (λ (x : Step). GrowsByStep x m new r) (sym is) (enters_rows m new b r (subst (λ (n : ℕ). Enters m n new r) same e))

-- ---- other steps
pub left_rows : (m k n : Machine) (number : ℕ) (r : Result (Option ℕ) Halt) → LeavesBlock m number k → KeepsMemory k n r → KeepsTaken m n r
left_rows m k n number r left on = taken_then m k n r left.2.kept.rows (taken_same k n r on)

-- the step was taken off before
pub control_rows : (r : Result (Option ℕ) Halt) (o : Option Step) (s : Step) (m : Machine) (below : List (List Kept_work)) (now : List Kept_work)
    (n : Machine) → m.top.stage ≡ None → o ≡ Some s → below ≡ m.work.below →
    ((k : Meaning) → readied k o (todo_of k now) ≡ ready_work (todo_of k m.work.now)) → GrowsByStep s (with_work m below now) n r → GrowsByControl m n r
control_rows r o s m below now n none is same ready grows = λ world meaning st stands goes items.
    taken_then m (with_work m below now) n r (λ x row at. at)
    (grows world meaning st (has_taken o s m below now none is same ready world meaning st stands goes items))

-- ---- of a pick
pub status_rows : (m n : Machine) (status : Option ℕ) → GrowsByControl m n (Ok status) → GrowsByControl m n (Ok (pick.Step status))
status_rows m n status g = λ world meaning st stands goes items. g world meaning st stands goes items

halt_taken : (m n : Machine) (h : Halt) → KeepsTaken {A = Option ℕ} m n (Err h) → KeepsTaken {A = Pick} m n (Err h)
halt_taken m n halt.Unplaced k = k
halt_taken m n (halt.Raised event line clause) k = absurd k
halt_taken m n (halt.Over cause number) k = k
halt_taken m n halt.NoMemory k = tt

pub halt_rows : (m n : Machine) (h : Halt) → GrowsByControl {A = Option ℕ} m n (Err h) → GrowsByControl {A = Pick} m n (Err h)
halt_rows m n h g = λ world meaning st stands goes items. halt_taken m n h (g world meaning st stands goes items)
