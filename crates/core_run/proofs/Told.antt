-- What is told of the picks of a run.
use Rattle.std.proofs.Common.{◌≡◌, ◌+◌, ℕ, suc, refl, ap, ◌∙◌, List, [], ◌∷◌, inl, inr, Option, Some, None}
use Rattle.ub_base.specs.declared.names.Item.{Item}
use Rattle.c_model.specs.Completions.{Completed as Model_completed}
use Rattle.c_model.specs.Runs.{Entry, Outcome, Running, State, canonical_after, canonical_pick, step, trace_of}
use Rattle.c_model.specs.World.{World}
use Rattle.run_answers.specs.declared.pick.Completed.TheVariants as completion
use Rattle.run_answers.specs.declared.pick.Pick.{Pick}
use Rattle.run_answers.specs.declared.pick.Pick.TheVariants as pick
use Rattle.canonical_laws.specs.Completes.{completed_told, completed_with}
use Rattle.canonical_laws.specs.Listed.{TellsEntry, event_told}
use Rattle.core_run.specs.Calls.{Call, Heard, Tells, calls_of, picked}
use Rattle.core_run.specs.ToldPicks.{LastToldBy, TellsPick, Told, ToldBy, ToldIsCanonical, heard_with, none, notes_of, told}
use Rattle.core_run.specs.declared.watch.Go.{Go}
use Rattle.core_run.specs.declared.watch.Go.TheVariants.{On}
use Rattle.core_run.proofs.OneMore.{one_more, plus_one}

-- ---- the calls of a pick
-- they are the pick and what it says that it completes
calls_are : (p : Pick) (items : List Item) → calls_of p items ≡ picked (event_told p) items ∷ notes_of (event_told p) (completed_told p)
calls_are (pick.Step status) items = refl
calls_are (pick.Starts event) items = refl
calls_are (pick.Event event completion.Nothing None) items = refl
calls_are (pick.Event event completion.Node None) items = refl
calls_are (pick.Event event (completion.Operands above) None) items = refl
calls_are (pick.Event event completed (Some status)) items = refl

-- so they tell the newest entry and what it completes
pub pick_tells : (world : World) (st : State) (o : Outcome) (p : Pick) (items : List Item) (e : Entry)
    → step world st (canonical_pick world st.top st.top.begun) ≡ o → trace_of o ≡ e ∷ st.trace → TellsEntry world (event_told p) items e
    → completed_told p ≡ completed_with world e o → TellsPick world st o (calls_of p items)
pick_tells world st o p items e steps newest tells completes = record {
  steps = steps;
  entry = e;
  newest = newest;
  event = event_told p;
  items = items;
  tells = tells;
  by = calls_are p items ∙ ap (λ (c : Model_completed). picked (event_told p) items ∷ notes_of (event_told p) c) completes;
}

-- ---- calls that were heard
-- where the last one was answered by On, each was
each_heard : (calls : List Call) (old new : Heard) → Tells calls On (Some old) (Some new) → new ≡ heard_with calls old
each_heard [] old new t = some_heard new old t.1
  where
    kept : Option Heard → Heard → Heard
    kept None other = other
    kept (Some hs) other = hs

    some_heard : (a b : Heard) → Some a ≡ Some b → a ≡ b
    some_heard a b q = ap (λ (z : Option Heard). kept z a) q
each_heard (c ∷ cs) old new (inl w) = absurd (cc (w.0))
each_heard (c ∷ cs) old new (inr w) = each_heard cs ((c, On) ∷ old) new w

-- they are kept where those before are
still_kept : (calls : List Call) (go : Go) (old : Heard) → Tells calls go (Some old) None → ⊥
still_kept [] go old t = absurd (cc (t.1))
still_kept (c ∷ cs) go old (inl w) = absurd (cc (w.1))
still_kept (c ∷ cs) go old (inr w) = still_kept cs go ((c, On) ∷ old) w

-- ---- one pick more was told
module _ (world : World) (first : State) (n : ℕ) (st : State) (calls : List Call) where
  -- behind which the run goes on
  pub told_on : (before old new : Option Heard) (after : State) → ToldBy world first before old n st → TellsPick world st (Running after) calls
      → Tells calls On old new → ToldBy world first before new (suc n) after
  told_on None old new after k is t = tt
  told_on (Some before) None new after k is t = absurd k
  told_on (Some before) (Some old) None after k is t = absurd (still_kept calls On old t)
  told_on (Some before) (Some old) (Some new) after k is t = told n st after old new calls k is (each_heard calls old new t)

  -- which is the last
  pub told_last : (before old new : Option Heard) (go : Go) (o : Outcome) → ToldBy world first before old n st → TellsPick world st o calls
      → Tells calls go old new → LastToldBy world first before new go (n + 1) o
  told_last None old new go o k is t = tt
  told_last (Some before) None new go o k is t = absurd k
  told_last (Some before) (Some old) None go o k is t = absurd (still_kept calls go old t)
  told_last (Some before) (Some old) (Some new) go o k is t =
      record { earlier = n; all = plus_one n; st = st; until = old; so_far = k; calls = calls; tells = is; last = t }

-- ---- the states on the way
pub told_canonical : ToldIsCanonical
told_canonical world first before n st heard t = from n st heard t
  where
    from : (n : ℕ) (st : State) (heard : Heard) → Told world first before n st heard → canonical_after world n first ≡ Running st
    from _ _ _ none = refl
    from _ _ _ (told k earlier later old new calls t is q) = one_more world k first earlier (from k earlier old t) ∙ is.steps
