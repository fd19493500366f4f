-- What the telling of a pick leaves.
use Rattle.std.proofs.Common.{sym, subst, List, [], ◌∷◌, ◌++◌, inl, inr}
use Rattle.std.specs.Prelude.{Option, Some, None}
use Rattle.ub_base.specs.declared.names.Event.{Event}
use Rattle.ub_base.specs.declared.names.Item.{Item}
use Rattle.ub_base.specs.Frames.{Row}
use Rattle.run_answers.specs.declared.pick.Pick.{Pick}
use Rattle.run_answers.specs.declared.pick.Pick.TheVariants.{Step, Starts, Event as EventPick}
use Rattle.core_run.specs.declared.watch.Go.{Go}
use Rattle.core_run.specs.declared.watch.Go.TheVariants.{On, Stop}
use Rattle.core_run.specs.declared.watch.Ran.{Ran}
use Rattle.core_run.specs.declared.watch.Ran.TheVariants.{Ended, Raised, Stopped, OutOfSteps, Outside}
use Rattle.core_run.specs.Steps.{IsUnstopped, Grows}
use Rattle.core_run.specs.Calls.{Call, picked, Heard, noted, GoesOn, AnswersEnd, Tells, calls_of, row_by, Started, none, other, start, StartedBy}

pub noted_started : (call : Call) (go : Go) (old : Option Heard) (rows : List Row) → StartedBy old rows → StartedBy (noted call go old) rows
noted_started call go None rows s = tt
noted_started call go (Some hs) rows s = other (call, go) hs rows s

pub same_rows : (calls : List Call) (go : Go) (old new : Option Heard) (rows : List Row) → StartedBy old rows → Tells calls go old new → StartedBy new rows
same_rows [] go old new rows s t = subst (λ z. StartedBy z rows) (sym t.1) s
same_rows (c ∷ cs) go old new rows s (inl w) = subst (λ z. StartedBy z rows) (sym w.1) (noted_started c Stop old rows s)
same_rows (c ∷ cs) go old new rows s (inr w) = same_rows cs go (noted c On old) new rows (noted_started c On old rows s) w

pub noted_row : (e : Event) (items : List Item) (go : Go) (old : Option Heard) (rows : List Row) → StartedBy old rows →
    StartedBy (noted (picked (Some e) items) go old) (rows ++ row_by e ∷ [])
noted_row e items go None rows s = tt
noted_row e items go (Some hs) rows s = start e items go hs rows s

pub one_row : (e : Event) (items : List Item) (go : Go) (old new : Option Heard) (rows : List Row) → StartedBy old rows →
    Tells (picked (Some e) items ∷ []) go old new → StartedBy new (rows ++ row_by e ∷ [])
one_row e items go old new rows s (inl w) = subst (λ z. StartedBy z (rows ++ row_by e ∷ [])) (sym w.1) (noted_row e items Stop old rows s)
one_row e items go old new rows s (inr w) = subst (λ z. StartedBy z (rows ++ row_by e ∷ [])) (sym w.1) (noted_row e items On old rows s)

-- the rows after a pick that was told
pub started_by : (told : Pick) (items : List Item) (go : Go) (old new : Option Heard) (rows grown : List Row) → Grows told rows grown →
    Tells (calls_of told items) go old new → StartedBy old rows → StartedBy new grown
started_by (Step status) items go old new rows grown g t s = subst (StartedBy new) (sym g) (same_rows (calls_of (Step status) items) go old new rows s t)
started_by (Starts e) items go old new rows grown (inl g) t s = subst (StartedBy new) (sym g) (same_rows (calls_of (Starts e) items) go old new rows s t)
started_by (Starts e) items go old new rows grown (inr g) t s = subst (StartedBy new) (sym g) (one_row e items go old new rows s t)
started_by (EventPick e completed status) items go old new rows grown g t s =
    subst (StartedBy new) (sym g) (same_rows (calls_of (EventPick e completed status) items) go old new rows s t)

pub no_rows : (hs : Heard) → Started hs []
no_rows [] = none
no_rows (h ∷ hs) = other h hs [] (no_rows hs)

pub started_first : (heard : Option Heard) → StartedBy heard []
started_first None = tt
started_first (Some hs) = no_rows hs

pub answers_unstopped : (ran : Ran) (heard : Option Heard) → IsUnstopped ran → GoesOn heard → AnswersEnd ran heard
answers_unstopped (Ended status picks) heard u g = g
answers_unstopped (Raised event line clause picks) heard u g = g
answers_unstopped (Stopped picks) heard u g = absurd u
answers_unstopped (OutOfSteps picks) heard u g = g
answers_unstopped (Outside cause number picks) heard u g = g
