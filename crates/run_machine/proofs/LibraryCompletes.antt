-- What the body of a call of a library function completes, by what is answered to it.
use Rattle.std.proofs.Common.{◌≡◌, sym, ap, ◌∙◌, Some, None, Result, Ok, Err}
use Rattle.c_model.specs.Completions.{completed_by}
use Rattle.c_model.specs.Libraries.{result}
use Rattle.c_model.specs.Program.{tree_of}
use Rattle.c_model.specs.Runs.{Running, State}
use Rattle.c_model.specs.Steps.{Begun, is_done, taken_by, with_given}
use Rattle.run_layout.specs.declared.steps.Due.{Due}
use Rattle.run_state.specs.declared.halt.Halt.{Halt}
use Rattle.run_state.specs.declared.machine.Machine.{Machine}
use Rattle.run_answers.specs.declared.pick.Pick.{Pick}
use Rattle.run_answers.specs.declared.pick.Pick.TheVariants as pick
use Rattle.run_answers.specs.Completing.{CompletesPick}
use Rattle.run_answers.specs.Library.{AnswersLibrary}
use Rattle.run_answers.specs.LibraryCompletes.{CompletesLibrary, LibraryCompletes}
use Rattle.run_answers.specs.Taking.{after_event, store_after}

pub completed_called : LibraryCompletes → (d : Due) (now new : Machine) (r : Result Pick Halt) → AnswersLibrary d now new r → CompletesPick d new r
    → CompletesLibrary d now new r
completed_called completes d now new (Ok (pick.Event event completed None)) answers noted =
    λ world meaning m st e s laid t straight extends later is first begun.
    let c = answers world meaning m st e s laid t extends in
    let next = after_event world st e d.place (result c.value) c.steps.items (store_after new) in
    let ran : Running next ≡ Running later = sym c.steps.steps ∙ is in
    let same : next ≡ later = cc in
    let both : Some (with_given e d.place (result c.value)) ≡ Some first = ap (λ (z : State). z.top.begun) same ∙ begun in
    let it : with_given e d.place (result c.value) ≡ first = cc in
    completes world meaning m new st e s laid d t.call.function c.types c.values c.value c.takes straight completed noted
    ∙ ap (λ (z : Begun). completed_by (tree_of z.root) (taken_by world st.top.scene z) (is_done z) d.place.node) it
    ∙ ap (λ (z : State). completed_by (tree_of first.root) (taken_by world z.top.scene first) (is_done first) d.place.node) same
completed_called completes d now new (Ok (pick.Event event completed (Some status))) answers noted = λ world meaning m st e s laid t straight. tt
completed_called completes d now new (Ok (pick.Starts event)) answers noted = λ world meaning m st e s laid t straight. tt
completed_called completes d now new (Ok (pick.Step ended)) answers noted = λ world meaning m st e s laid t straight. tt
completed_called completes d now new (Err x) answers noted = λ world meaning m st e s laid t straight. tt
