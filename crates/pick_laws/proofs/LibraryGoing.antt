-- Behind the body of a call of a library function the machine goes on as before.
use Rattle.std.proofs.Common.{arith, ◌≡◌, ◌≢◌, ◌+◌, ◌<◌, ◌≤◌, ◌^◌, ℕ, suc, Bool, true, false, List, length, reverse, Option, Some, None, slice_get}
use Rattle.std.proofs.Common.{refl, sym, ap, subst, ◌∙◌}
use Rattle.ub_base.specs.declared.clause.Kind.{Kind}
use Rattle.ub_base.specs.declared.clause.Kind.TheVariants.{Body}
use Rattle.ub_base.specs.declared.names.Item.{Item}
use Rattle.c_types.specs.declared.library.LibFunc.{LibFunc}
use Rattle.c_types.specs.Types.{CType}
use Rattle.c_typed.specs.declared.program.Program.{Program}
use Rattle.c_typed.specs.declared.tree.Place.{Place}
use Rattle.libc_spec.specs.Library.{LibValue}
use Rattle.mem_objects.specs.declared.value.Value.{Value as Kept_value}
use Rattle.c_model.specs.Runs.{State}
use Rattle.c_model.specs.Steps.{Begun}
use Rattle.c_model.specs.World.{World}
use Rattle.run_control.specs.View.{Meaning}
use Rattle.run_layout.specs.Choices.{ChoosesAt}
use Rattle.run_layout.specs.declared.nodes.NodeInfo.{NodeInfo}
use Rattle.run_layout.specs.declared.steps.Due.{Due}
use Rattle.run_layout.specs.declared.steps.Expression.{Expression as Laid}
use Rattle.run_layout.specs.declared.steps.Listed.TheVariants as listed
use Rattle.run_statements.specs.declared.numbers.Numbers.{Numbers}
use Rattle.run_state.specs.declared.machine.Machine.{Machine}
use Rattle.run_state.specs.declared.machine.Stage.{Stage}
use Rattle.run_state.specs.declared.watch.Begun.{Begun as Shown}
use Rattle.run_answers.specs.Ending.{NotesWay}
use Rattle.run_answers.specs.Library.{TakesCall}
use Rattle.run_answers.specs.Picks.{at_cursor}
use Rattle.run_answers.specs.Taking.{Decides, DecidesBy}
use Rattle.code_view.specs.Numbering.{meaning_of}
use Rattle.frame_laws.specs.Laws.{StepsOrdered}
use Rattle.frame_laws.specs.Named.{LawfulIsScoped}
use Rattle.frame_laws.specs.Reached.{StepsReached}
use Rattle.run_laws.specs.Going.{IsGoing}
use Rattle.pick_laws.specs.Going.{LibraryGoesOn}
use Rattle.pick_laws.proofs.Events.{Moved, goes_on, kept_open, moved_with}
use Rattle.pick_laws.proofs.Started.{past_is}

-- no choice is made at a body
no_choice : (firsts : List ℕ) (tables : _) (nodes : List NodeInfo) (n : ℕ) (x : NodeInfo) (kind : Kind) (o : Option ℕ) → kind ≡ Body
    → ChoosesAt firsts tables nodes n x kind o → o ≡ None
no_choice firsts tables nodes n x kind o is c = subst (λ (k : Kind). ChoosesAt firsts tables nodes n x k o) is c

none_decided : (o : Option ℕ) (old new : Machine) → o ≡ None → Decides o old new → new ≡ old
none_decided None old new is d = d
none_decided (Some n) old new is d = absurd (cc)

straight_noted : (straight : Bool) (old new : Machine) (u : Place) → straight ≡ true → NotesWay straight old u new → new ≡ old
straight_noted true old new u is n = n
straight_noted false old new u is n = absurd (cc)

module _ (world : World) (meaning : Option ℕ → Meaning) (old new : Machine) (st : State) (e : Begun) (s : Stage) (laid : Laid) (d : Due) (f : LibFunc)
    (ts : List CType) (hs : List Kept_value) (w : LibValue) (straight : s.straight ≡ true) (t : TakesCall world meaning old st e s laid d f ts hs w new) where
  chosen_none : d.choice ≡ None
  chosen_none =
      let it = t.event.lays.each t.event.at (listed.Event d) t.event.first t.event.end t.event.entry in
      no_choice t.event.firsts old.image.code.now.tables t.event.nodes d.place.node it.0 d.place.kind d.choice t.body.kind it.3

  as_done : new ≡ t.called.done
  as_done =
      none_decided d.choice t.called.noted new chosen_none t.called.decides
      ∙ straight_noted s.straight t.called.done t.called.noted d.place straight t.called.notes

  past : (c : ℕ) × (t.called.past ≡ at_cursor old s c)
  past = past_is s.straight old t.called.past s d straight t.called.passes

  done_parts : t.called.done ≡ record (at_cursor old s past.0) {
    memory = t.called.done.memory;
    streams = t.called.done.streams;
    values = t.called.done.values;
    items = t.called.done.items;
  }
  done_parts = t.called.changes.rest ∙ ap (λ (k : Machine). record k {
    memory = t.called.done.memory;
    streams = t.called.done.streams;
    values = t.called.done.values;
    items = t.called.done.items;
  }) past.1

  in_parts : t.called.done ≡ moved_with old s past.0 t.called.done
  in_parts = done_parts ∙ (λ i. record (at_cursor old s past.0) {
    memory = t.called.done.memory;
    streams = t.called.done.streams;
    begun = ap (λ (k : Machine). k.begun) (sym done_parts) i;
    strayed = ap (λ (k : Machine). k.strayed) (sym done_parts) i;
    values = t.called.done.values;
    items = t.called.done.items;
    spare = ap (λ (k : Machine). k.spare) (sym done_parts) i;
  })

  pub call_moves : Moved old s new
  call_moves = record {
    cursor = past.0;
    rest = subst (λ (k : Machine). k ≡ moved_with old s past.0 k) (sym as_done) in_parts;
    begun = λ j b other is. ap (λ (k : Machine). slice_get k.begun.items j) (as_done ∙ done_parts) ∙ is;
    values =
        let count = t.called.changes.count in
        let was : length t.called.past.values.items ≡ length old.values.items = ap (λ (k : Machine). length k.values.items) past.1 in
        let now : length new.values.items ≡ length t.called.done.values.items = ap (λ (k : Machine). length k.values.items) as_done in
        omega (arith, count, was, now);
  }

pub libraries_go : LawfulIsScoped → StepsOrdered → StepsReached → LibraryGoesOn
libraries_go scoped ordered reached world p numbers old new st n e s laid d f ts hs w is going t stands steps within few =
    let opened = kept_open world old (length (reverse old.below.items)) old.top old.top.stage st.top.scene st.top.begun s e t.stage t.stood.begun
    going.frames.0.begun in
    goes_on world p numbers old new st n e s d.place _ is going t.stage t.stood.begun
    (call_moves world (meaning_of p numbers old.image.code.now) old new st e s laid d f ts hs w opened.straight t) stands scoped ordered reached within t.may
    steps
    few
