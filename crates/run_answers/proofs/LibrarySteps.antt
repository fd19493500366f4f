-- What the body of a call of a library function comes to in the definitions, by what the machine's call did.
use Rattle.std.proofs.Common.{◌≡◌, ℕ, suc, ◌+◌, ◌≤◌, ◌^◌, Bool, true, false, refl, sym, ap, ◌∙◌, subst, arith, List, [], ◌∷◌, map, Option, Some, None, nat_lt}
use Rattle.std.specs.Prelude.{is_some, if◌then◌else◌}
use Rattle.std.proofs.lemmas.Bool.Decides.{nat_tests}
use Rattle.ub_base.specs.declared.clause.Kind.{Kind}
use Rattle.ub_base.specs.declared.clause.Kind.TheVariants.{Body}
use Rattle.ub_base.specs.declared.names.Event.{Event}
use Rattle.ub_base.specs.declared.names.Item.{Item}
use Rattle.ub_base.specs.declared.names.ObjName.{ObjName}
use Rattle.addr_map.specs.declared.map.Row.{Row}
use Rattle.addr_map.specs.Rows.{row_of}
use Rattle.exposure.specs.declared.prov.Prov.{Prov}
use Rattle.exposure.specs.declared.prov.Prov.TheVariants.{Empty, Whole, Either}
use Rattle.c_types.specs.declared.library.LibFunc.{LibFunc}
use Rattle.c_types.specs.Types.{CType}
use Rattle.c_typed.specs.declared.tree.Place.{Place}
use Rattle.mem_laws.specs.MoreRows.{AreIn, Extends}
use Rattle.mem_laws.specs.MoreCalls.{ArgumentsIn}
use Rattle.mem_spec.specs.Script.{Act, Done, Unplaced}
use Rattle.mem_spec.specs.Store.{Store}
use Rattle.mem_spec.specs.Streams.{Io, total}
use Rattle.mem_objects.specs.declared.value.Value.{Value as Kept_value}
use Rattle.mem_objects.specs.Keeps.{RowsStay}
use Rattle.mem_objects.specs.Memory.{Kept, store_of}
use Rattle.mem_objects.specs.Sound.{IsSound}
use Rattle.libc_spec.specs.Library.{LibValue, heap_name, prov_in}
use Rattle.libc_arguments.specs.Answers.{ArgumentsMade}
use Rattle.libc_arguments.specs.Seen.{values_seen}
use Rattle.c_model.specs.Libraries.{passed, result}
use Rattle.c_model.specs.Runs.{Running, State, limit_passed, step}
use Rattle.c_model.specs.Steps.{Begun, Ev, Scene, event_of}
use Rattle.c_model.specs.Values.{Value}
use Rattle.c_model.specs.World.{Limits, World}
use Rattle.library_laws.specs.Called.{called_with}
use Rattle.library_laws.specs.Calls.{CallsMoreRows, ComesToAct, HasLibrary, IsLibraryCall, LibraryCallSteps}
use Rattle.run_control.specs.View.{Meaning}
use Rattle.run_layout.specs.declared.nodes.NodeInfo.{NodeInfo}
use Rattle.run_layout.specs.declared.steps.Due.{Due}
use Rattle.run_layout.specs.declared.steps.Expression.{Expression}
use Rattle.run_layout.specs.declared.steps.Listed.TheVariants as listed
use Rattle.run_layout.specs.declared.tables.Tables.{Tables}
use Rattle.run_layout.specs.declared.whole.Code.{Code}
use Rattle.run_layout.specs.Choices.{ChoosesAt}
use Rattle.run_state.specs.declared.machine.Machine.{Machine}
use Rattle.run_state.specs.declared.machine.Stage.{Stage}
use Rattle.run_state.specs.Stands.{Stands}
use Rattle.run_answers.specs.LibraryCalls.{call_in}
use Rattle.run_answers.specs.Performs.{store_in}
use Rattle.run_answers.proofs.Worlds.{in_rows}
use Rattle.run_answers.specs.Answering.{IsWithin}
use Rattle.run_answers.specs.Ending.{NotesWay}
use Rattle.run_answers.specs.Library.{IsBodyOfCall, LibrarySteps}
use Rattle.run_answers.specs.Picks.{event_at}
use Rattle.run_answers.specs.Taking.{Decides, IsEventOf, IsPast, after_event, staged}
use Rattle.run_answers.proofs.Taken.{event_seen}

-- ---- rows that stay
some_stays : (few more : List Row) → RowsStay few more → (x : ObjName) (o : Option Row) → row_of few x ≡ o → is_some o ≡ true
    → is_some (row_of more x) ≡ true
some_stays few more stay x (Some r) is some = ap is_some (stay x r is)
some_stays few more stay x None is some = absurd (cc)

in_more : (few more : List Row) → RowsStay few more → (p : Prov) → AreIn few p → AreIn more p
in_more few more stay Empty h = tt
in_more few more stay (Whole x) h = some_stays few more stay x (row_of few x) refl h
in_more few more stay (Either id past start) h =
    (some_stays few more stay past (row_of few past) refl h.0, some_stays few more stay start (row_of few start) refl h.1)

-- the pointers among the arguments have rows
pub arguments_in : (m : Kept) (rows : List Row) → IsSound m → RowsStay m.rows rows → (vs : List LibValue) → ArgumentsMade m vs → ArgumentsIn rows vs
arguments_in m rows sound stay [] made = tt
arguments_in m rows sound stay (v ∷ vs) made =
    (in_more m.rows rows stay (prov_in v) (in_rows m (prov_in v) sound made.0), arguments_in m rows sound stay vs made.1)

-- ---- the machine that has passed the event
pub past_staged : (straight : Bool) (old : Machine) (s : Stage) (d : Due) (past : Machine) → IsPast straight old s d past
    → (z : Option Stage) × (past ≡ staged old z)
past_staged true old s d past p = (Some (record s { cursor = suc (s.cursor + p.1.0) }), p.5)
past_staged false old s d past p = (old.top.stage, p)

-- ---- nothing else is done behind the body of a call
-- what a machine has touched, and its store, are the same behind the note of the event, which makes no choice
pub record SameBehind (done new : Machine) : Type 0 where
  pub memory : new.memory ≡ done.memory
  pub streams : new.streams ≡ done.streams
  pub items : new.items ≡ done.items

no_choice : (firsts : List ℕ) (tables : Tables) (nodes : List NodeInfo) (n : ℕ) (x : NodeInfo) (u : Place) (o : Option ℕ) → u.kind ≡ Body
    → ChoosesAt firsts tables nodes n x u.kind o → o ≡ None
no_choice firsts tables nodes n x u o kind chooses = subst (λ (k : Kind). ChoosesAt firsts tables nodes n x k o) kind chooses

noted_same : (straight : Bool) (done noted : Machine) (u : Place) → NotesWay straight done u noted → SameBehind done noted
noted_same true done noted u n = record {
  memory = ap (λ (k : Machine). k.memory) n;
  streams = ap (λ (k : Machine). k.streams) n;
  items = ap (λ (k : Machine). k.items) n;
}
noted_same false done noted u n = record {
  memory = ap (λ (k : Machine). k.memory) n.rest;
  streams = ap (λ (k : Machine). k.streams) n.rest;
  items = ap (λ (k : Machine). k.items) n.rest;
}

-- by the choice that the event makes, which is none
pub same_behind : (straight : Bool) (done noted new : Machine) (u : Place) (o : Option ℕ) → o ≡ None → NotesWay straight done u noted → Decides o noted new
    → SameBehind done new
same_behind straight done noted new u None none notes decides =
    let n = noted_same straight done noted u notes in
    record {
      memory = ap (λ (k : Machine). k.memory) decides ∙ n.memory;
      streams = ap (λ (k : Machine). k.streams) decides ∙ n.streams;
      items = ap (λ (k : Machine). k.items) decides ∙ n.items;
    }
same_behind straight done noted new u (Some k) none notes decides = absurd (cc)

-- ---- what was written is within its limit
rest_none : {A : Type 0} (b : Bool) (x : A) (rest : Option A) → (if b then Some x else rest) ≡ None → (b ≡ false) × (rest ≡ None)
rest_none true x rest h = absurd (cc)
rest_none false x rest h = (refl, h)

not_past : (limit n : ℕ) → limit ≡ 2 ^ 24 → nat_lt limit n ≡ false → n ≤ 2 ^ 24
not_past limit n is h = grind (arith, nat_tests, is, h)

pub output_within : (limits : Limits) (d : ℕ) (s : Store) → limits.output ≡ 2 ^ 24 → limit_passed limits d s ≡ None → total s.output ≤ 2 ^ 24
output_within limits d s is within =
    let depth = rest_none (nat_lt limits.depth d) _ _ within in
    let created = rest_none (nat_lt limits.created s.created) _ _ depth.1 in
    let output = rest_none (nat_lt limits.output (total s.output)) _ _ created.1 in
    not_past limits.output (total s.output) is output.0

-- ---- the call in the world
module _ (rows : CallsMoreRows) (steps : LibraryCallSteps) (world : World) (meaning : Option ℕ → Meaning) (old past done : Machine) (st : State) (e : Begun)
    (u : Place) (g : LibFunc) (ts : List CType) (hs : List Kept_value) (vs : List Value) (stands : Stands world meaning old st)
    (begun : st.top.begun ≡ Some e) (z : Option Stage) (past_is : past ≡ staged old z) (kept : RowsStay old.memory.rows done.memory.rows)
    (extends : Extends done.memory.rows world.rows) (made : ArgumentsMade old.memory (values_seen hs)) (has : HasLibrary world)
    (call : IsLibraryCall world st.top.scene e u g ts vs) (same : values_seen hs ≡ map passed vs) (within : IsWithin world st) where
  abbrev who : Event
  who = event_at past u

  who_is : who ≡ event_of world st.top.scene u
  who_is = event_seen world meaning old past st u stands (ap (λ (k : Machine). k.top.frame) past_is) (ap (λ (k : Machine). k.top.turn) past_is)

  store_is : store_in past ≡ st.store
  store_is = ap store_in past_is ∙ sym stands.memory.store

  module _ (act : Act LibValue) (did : call_in past done g who ts hs ≡ act)
      (placed : act ≡ Unplaced → row_of world.rows (heap_name who) ≡ row_of done.memory.rows (heap_name who)) where
    in_world : called_with world.rows g who ts (values_seen hs) (store_in past) ≡ act
    in_world =
        rows done.memory.rows world.rows g who ts (values_seen hs) (store_in past) extends
        (arguments_in old.memory done.memory.rows stands.memory.sound kept (values_seen hs) made) (λ p. placed (sym did ∙ p)) ∙ did

    of_definitions : called_with world.rows g (event_of world st.top.scene u) ts (map passed vs) st.store ≡ act
    of_definitions = (λ i. called_with world.rows g (sym who_is i) ts (sym same i) (sym store_is i)) ∙ in_world

    pub comes_to : ComesToAct world st e u g act (step world st (Ev u))
    comes_to =
        subst (λ (a : Act LibValue). ComesToAct world st e u g a (step world st (Ev u))) of_definitions
        (steps world st e u g ts vs begun has call within)

-- ---- the body is done
abbrev given_state_at : World → State → Begun → Place → LibValue → List Item → Kept → Io → State
given_state_at world st e u w is m io = after_event world st e u (result w) is (store_of m io)

unplaced_not : (w : LibValue) (is : List Item) (s : Store) → Done w is s ≡ Unplaced → ⊥
unplaced_not w is s e = cc

pub choice_none : (world : World) (code : Code) (f : Scene) (laid : Expression) (e : Begun) (d : Due) → IsEventOf world code f laid e d
    → IsBodyOfCall e d.place → d.choice ≡ None
choice_none world code f laid e d event body =
    let entry = event.lays.each event.at (listed.Event d) event.first event.end event.entry in
    no_choice event.firsts code.tables event.nodes d.place.node entry.0 d.place d.choice body.kind entry.3

pub library_steps : CallsMoreRows → LibraryCallSteps → LibrarySteps
library_steps rows steps world meaning old new st e s laid d g ts hs w vs t has call same within =
    let c = t.called in
    let p = past_staged s.straight old s d c.past c.passes in
    let behind = same_behind s.straight c.done c.noted new d.place d.choice (choice_none world old.image.code.now st.top.scene laid e d t.event t.body) c.notes
    c.decides in
    let memory : c.past.memory ≡ old.memory = ap (λ (k : Machine). k.memory) p.1 in
    let comes = comes_to rows steps world meaning old c.past c.done st e d.place g ts hs vs t.stood.stands t.stood.begun p.0 p.1
    (subst (λ (k : Kept). RowsStay k.rows c.done.memory.rows) memory c.does.kept.rows)
    (subst (λ (k : Kept). Extends k.rows world.rows) behind.memory c.rows)
    (subst (λ (k : Kept). ArgumentsMade k (values_seen hs)) memory c.can.made) has call same within
    (Done w c.done.items (store_in c.done)) c.does.did (λ none. absurd (unplaced_not w c.done.items (store_in c.done) none)) in
    record {
      items = comes.0;
      touched = behind.items ∙ comes.1;
      steps = comes.2 ∙ (λ i. Running (given_state_at world st e d.place w comes.0 (sym behind.memory i) (sym behind.streams i)));
    }
