-- The entry of a pick that raises a clause is that of its event, in the line of the event's node.
use Rattle.std.proofs.Common.{◌≡◌, ◌<◌, ◌^◌, ℕ, suc, true, refl, sym, ap, ◌∙◌, subst, List, [], ◌∷◌, Option, Some, Result, Err}
use Rattle.ub_base.specs.declared.clause.Clause.{Clause}
use Rattle.ub_base.specs.declared.names.Event.{Event}
use Rattle.addr_map.specs.Sound.{AreApart}
use Rattle.c_typed.specs.declared.program.Program.{Program}
use Rattle.c_typed.specs.declared.tree.Place.{Place}
use Rattle.mem_laws.specs.MoreRows.{Extends}
use Rattle.c_model.specs.Program.{Expr}
use Rattle.c_model.specs.Runs.{Entry, Raises, State, canonical_pick, entry_of, line_in, step}
use Rattle.c_model.specs.Steps.{Begun, Control, Ev, Pick as Model_pick, line_at, line_of}
use Rattle.c_model.specs.World.{World}
use Rattle.program_view.proofs.Seen.{expr_at}
use Rattle.run_statements.specs.declared.numbers.Numbers.{Numbers}
use Rattle.run_layout.specs.declared.steps.Due.{Due}
use Rattle.run_state.specs.declared.halt.Halt.{Halt}
use Rattle.run_state.specs.declared.halt.Halt.TheVariants as halt
use Rattle.run_state.specs.declared.machine.Machine.{Machine}
use Rattle.run_answers.proofs.Nodes.{node_is}
use Rattle.run_answers.specs.declared.pick.Pick.{Pick}
use Rattle.run_answers.specs.Raising.{IsRaisedNext, RaisesNext}
use Rattle.run_answers.specs.Rows.{GrowsNext}
use Rattle.code_view.specs.Numbering.{meaning_of}
use Rattle.run_laws.proofs.Given.{entry_is, next_listed, root_is}
use Rattle.control_laws.specs.Asked.{ArgumentsAreAsked}
use Rattle.control_laws.specs.Control.{ControlGoesOn}
use Rattle.canonical_laws.specs.Asked.{EventIsAsked, IsEventNext, MayPickNext, call, initializer, library, plain}
use Rattle.canonical_laws.specs.Along.{IsAlong}
use Rattle.canonical_laws.specs.Listed.{event_of}
use Rattle.canonical_laws.proofs.Steps.{step_raises}
use Rattle.core_run.proofs.Rows.{event_next, may_go_on}

same_entry : (a b : Entry) (before after : List Entry) → a ∷ before ≡ b ∷ after → a ≡ b
same_entry a b before after q = cc (q)

module _ (asked : EventIsAsked) (goes : ControlGoesOn) (asks : ArgumentsAreAsked) (world : World) (p : Program) (numbers : Numbers) (old new : Machine)
    (st : State) (n : ℕ) (a : IsAlong world p numbers old st n) (few : suc n < 2 ^ 32) (extends : Extends old.memory.rows world.rows)
    (apart : AreApart world.rows) (event : Event) (line : ℕ) (clause : Clause) where
  abbrev answer : Result Pick Halt
  answer = Err (halt.Raised event line clause)

  -- it is that of the event, in its line
  pub record IsOfRaise (e : Entry) : Type 0 where
    pub event_is : event_of world e ≡ Some event
    pub line_is : e.line ≡ line

  -- ---- the line of the event's node
  module _ (u : Place) (q : IsEventNext world (meaning_of p numbers old.image.code.now) old st u)
      (r : IsRaisedNext world old st u event line) where
    straight : MayPickNext world (meaning_of p numbers old.image.code.now) old st q.expression q.stage q.laid u → q.stage.straight ≡ true
    straight (plain b may) = may.straight
    straight (initializer b may) = may.straight
    straight (call b may) = may.straight
    straight (library b may) = may.straight

    line_of_node : line_of q.expression.root u.node ≡ line
    line_of_node =
        let meaning = meaning_of p numbers old.image.code.now in
        let on = straight q.may in
        let next = r.next q.stage q.staged on in
        let d = next.0.1.now in
        let at = next_listed world meaning old st q.expression q.stage q.laid q.firsts q.nodes q.open_so on next.0 next.1 in
        let noted = entry_is world meaning old st q.expression q.stage q.laid q.firsts q.nodes q.open_so d at in
        let same : d.place.node ≡ u.node = ap (λ (z : Due). z.place.node) next.2 ∙ ap (λ (z : Place). z.node) r.place in
        let there = node_is q.firsts q.laid.root.now q.nodes d.place.node noted.0 q.open_so.lays.numbered noted.1 in
        let root = root_is world meaning old st q.expression q.stage q.laid q.firsts q.nodes q.open_so in
        ap (λ (k : ℕ). line_of q.expression.root k) (sym same)
        ∙ (ap (λ (z : Expr). line_of z d.place.node) root
        ∙ (ap line_at there
        ∙ (ap (λ (z : Expr). line_at (Some z)) (expr_at noted.0.tree.now)
        ∙ (sym noted.2.line ∙ (ap (λ (z : Due). z.line) next.2 ∙ sym r.line_is)))))

  -- ---- the entry
  by_pick : GrowsNext old new answer → RaisesNext old answer → (q : Model_pick) → canonical_pick world st.top st.top.begun ≡ q → (e : Entry)
      → step world st q ≡ Raises clause (e ∷ st.trace) → IsOfRaise e
  by_pick g raises Control is e so =
      absurd (g.steps world (meaning_of p numbers old.image.code.now) st a.going.stands
      (may_go_on asked goes asks world p numbers old st n a few apart is))
  by_pick g raises (Ev u) is e so =
      let q = event_next asked goes asks world p numbers old st n a few extends u is in
      let r = raises world (meaning_of p numbers old.image.code.now) st u a.going.stands is in
      let same = same_entry e (entry_of world st.top (Ev u) []) st.trace st.trace (step_raises world st (Ev u) clause (e ∷ st.trace) so) in
      subst IsOfRaise (sym same) (record {
        event_is = ap Some (sym r.event_is);
        line_is = ap (λ (b : Option Begun). line_in world b (Some u)) q.begun ∙ line_of_node u q r;
      })

  pub raised_entry : GrowsNext old new answer → RaisesNext old answer → (e : Entry)
      → step world st (canonical_pick world st.top st.top.begun) ≡ Raises clause (e ∷ st.trace) → IsOfRaise e
  raised_entry g raises e so = by_pick g raises (canonical_pick world st.top st.top.begun) refl e so
