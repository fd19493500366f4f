-- What the body of a call of a library function comes to.
use Rattle.std.proofs.Common.{◌≡◌, ◌<◌, ◌^◌, ◌⊎◌, inl, inr, ℕ, suc, List, [], Option, Some, None, Result, Ok, Err, refl, sym, ap, subst, ◌∙◌}
use Rattle.ub_base.specs.declared.names.ObjName.{ObjName}
use Rattle.addr_map.specs.Rows.{row_of}
use Rattle.c_types.specs.declared.library.LibFunc.{LibFunc}
use Rattle.c_typed.specs.declared.program.Program.{Program}
use Rattle.c_typed.specs.declared.tree.Place.{Place}
use Rattle.libc_spec.specs.Library.{heap_name}
use Rattle.mem_laws.specs.MoreRows.{Extends}
use Rattle.c_model.specs.Libraries.{result}
use Rattle.c_model.specs.Runs.{Outcome, Running, State, canonical_pick, step}
use Rattle.c_model.specs.Steps.{Begun, Ev}
use Rattle.c_model.specs.World.{World}
use Rattle.run_layout.specs.declared.steps.Due.{Due}
use Rattle.run_layout.specs.declared.steps.Expression.{Expression as Laid}
use Rattle.run_statements.specs.declared.numbers.Numbers.{Numbers}
use Rattle.run_state.specs.declared.halt.Halt.{Halt}
use Rattle.run_state.specs.declared.halt.Halt.TheVariants as halt
use Rattle.run_state.specs.declared.machine.Machine.{Machine}
use Rattle.run_state.specs.declared.machine.Stage.{Stage}
use Rattle.run_answers.specs.declared.pick.Pick.{Pick}
use Rattle.run_answers.specs.declared.pick.Pick.TheVariants as pick
use Rattle.run_answers.specs.Library.{AnswersCalled, AnswersCalledNext, IsCalledNext, MayCallLibraryNext, untouched}
use Rattle.run_answers.specs.Picks.{event_at}
use Rattle.run_answers.specs.Taking.{after_event, store_after}
use Rattle.code_view.specs.Numbering.{meaning_of}
use Rattle.pick_laws.specs.Going.{LibraryGoesOn}
use Rattle.pick_laws.specs.Picks.{ComesOfLibrary, GoesFrom, GoesOnJoined, LibraryComes}
use Rattle.pick_laws.proofs.Untouched.{going_untouched, steps_within}

module _ (world : World) (p : Program) (numbers : Numbers) (old new : Machine) (st : State) (n : ℕ) (g : GoesFrom world p numbers old st n new)
    (extends : Extends new.memory.rows world.rows) (goes : LibraryGoesOn) (e : Begun) (s : Stage) (laid : Laid) where
  comes_at : (d : Due) (f : LibFunc) (r : Result Pick Halt)
      → AnswersCalled world (meaning_of p numbers old.image.code.now) (untouched old) st e s laid d f r new (step world st (Ev d.place))
      → ComesOfLibrary world p numbers n new f r (step world st (Ev d.place))
  comes_at d f (Ok (pick.Event event completed None)) a =
      let c = a extends in
      let after = after_event world st e d.place (result c.value) c.steps.items (store_after new) in (
        after,
        c.steps.steps,
        c.steps.touched,
        goes world p numbers (untouched old) new st n e s laid d f c.types c.values c.value c.steps.items (going_untouched world p numbers old st n g.going)
            c.takes c.stands c.steps.steps (steps_within world after st (Ev d.place) c.steps.steps) g.few,
      )
  comes_at d f (Ok (pick.Event event completed (Some status))) a = a extends
  comes_at d f (Ok (pick.Starts event)) a = a
  comes_at d f (Ok (pick.Step status)) a = a
  comes_at d f (Err (halt.Raised event line clause)) a = a extends
  comes_at d f (Err (halt.Over cause number)) a = a extends
  comes_at d f (Err halt.Unplaced) a = λ same. a extends (same (heap_name (event_at (untouched old) d.place)))
  comes_at d f (Err halt.NoMemory) a = tt

  comes_called : (u : Place) (r : Result Pick Halt)
      → IsCalledNext world (meaning_of p numbers old.image.code.now) old st e s laid r new (step world st (Ev u)) u
      → (f : LibFunc) × ComesOfLibrary world p numbers n new f r (step world st (Ev u))
  comes_called u r c =
      let a = subst (λ (w : Place). AnswersCalled world (meaning_of p numbers old.image.code.now) (untouched old) st e s laid c.due c.function r new
      (step world st (Ev w))) (sym c.is) c.answers in
      (c.function, subst (λ (w : Place). ComesOfLibrary world p numbers n new c.function r (step world st (Ev w))) c.is (comes_at c.due c.function r a))

  comes_next : (u : Place) (r : Result Pick Halt)
      → AnswersCalledNext world (meaning_of p numbers old.image.code.now) old st e s laid r new (step world st (Ev u)) u
      → (r ≡ Err halt.NoMemory) ⊎ ((f : LibFunc) × ComesOfLibrary world p numbers n new f r (step world st (Ev u)))
  comes_next u (Ok k) a = inr (comes_called u (Ok k) a)
  comes_next u (Err (halt.Raised event line clause)) a = inr (comes_called u (Err (halt.Raised event line clause)) a)
  comes_next u (Err (halt.Over cause number)) a = inr (comes_called u (Err (halt.Over cause number)) a)
  comes_next u (Err halt.Unplaced) a = inr (comes_called u (Err halt.Unplaced) a)
  comes_next u (Err halt.NoMemory) a = inl refl

pub libraries : LibraryGoesOn → LibraryComes
libraries goes world p numbers old new st n e s laid u r answers g extends may is =
    comes_next world p numbers old new st n g extends goes e s laid u r (answers world (meaning_of p numbers old.image.code.now) st e s laid u may is)
