-- What is chosen in the full expression of the top frame after an event, and what is done of it.
use Rattle.std.proofs.Common.{
  ◌≡◌,
  ◌≢◌,
  ℕ,
  zero,
  suc,
  ◌+◌,
  ◌-◌,
  ◌<◌,
  ◌≤◌,
  Bool,
  true,
  false,
  refl,
  sym,
  ap,
  ◌∙◌,
  subst,
  arith,
  List,
  [],
  ◌∷◌,
  length,
  take,
  drop,
  Option,
  Some,
  None,
  slice_get,
}
use Rattle.std.specs.Prelude.{◌||◌}
use Rattle.std.proofs.lemmas.Option.{same_Some}
use Rattle.ub_base.specs.declared.clause.Kind.{Kind}
use Rattle.ub_base.specs.declared.clause.Kind.TheVariants.{Val, Eff, Body}
use Rattle.c_typed.specs.declared.tree.Place.{Place}
use Rattle.c_typed.specs.Order.{is_due, is_val, same_place}
use Rattle.c_model.specs.Program.{tree_of}
use Rattle.c_model.specs.Steps.{Begun, Scene, taken_by, with_given}
use Rattle.c_model.specs.Values.{Value, truth}
use Rattle.c_model.specs.World.{World}
use Rattle.seq_order.specs.declared.done.Marks.{Marks}
use Rattle.seq_order.specs.Marked.{done_in, taken_in}
use Rattle.run_layout.specs.declared.nodes.NodeInfo.{NodeInfo}
use Rattle.run_layout.specs.declared.steps.Choice.{Choice}
use Rattle.run_layout.specs.declared.steps.Due.{Due}
use Rattle.run_layout.specs.declared.steps.Expression.{Expression}
use Rattle.run_layout.specs.declared.steps.Listed.{Listed}
use Rattle.run_layout.specs.declared.steps.Listed.TheVariants as listed
use Rattle.run_layout.specs.declared.steps.Operand.{Operand}
use Rattle.run_layout.specs.declared.tables.Tables.{Tables}
use Rattle.run_layout.specs.Choices.{ChoosesAt}
use Rattle.run_layout.specs.Chosen.{IsKept}
use Rattle.run_layout.specs.Keeping.{KeepsAtEvent, choice_of, kept_by}
use Rattle.run_layout.specs.OfTrees.{IsListingOf}
use Rattle.run_listing.specs.Along.{IsListed, Next, part_of}
use Rattle.run_listing.specs.Cursor.{StandsBehind, StandsStraight, IsListed as HasListed}
use Rattle.run_state.specs.declared.machine.Machine.{Machine}
use Rattle.run_state.specs.declared.machine.Stage.{Stage}
use Rattle.run_state.specs.declared.watch.Begun.{Begun as Shown}
use Rattle.run_state.specs.Operands.{Gives, RoomGives}
use Rattle.run_state.specs.Stands.{Holds, StandsDone, StandsStrayed}
use Rattle.run_answers.specs.Ending.{NotesWay}
use Rattle.run_answers.specs.Picks.{at_cursor, top_of}
use Rattle.run_answers.specs.Taking.{Decides, IsEventOf, IsPast}
use Rattle.run_answers.proofs.Giving.{done_more}

-- ---- an entry of a listing is one of a part of it
behind_got : {A : Type 0} (k : ℕ) (xs : List A) (i : ℕ) → k ≤ i → slice_get (drop k xs) (i - k) ≡ slice_get xs i
behind_got zero xs i le = ap (slice_get xs) (omega arith)
behind_got (suc k) [] i le = refl
behind_got (suc k) (x ∷ xs) zero le = absurd (omega (arith, le))
behind_got (suc k) (x ∷ xs) (suc i) le =
    let same : suc i - suc k ≡ i - k = omega arith in
    ap (slice_get (drop k xs)) same ∙ behind_got k xs i (omega (arith, le))

front_got : {A : Type 0} (n : ℕ) (xs : List A) (j : ℕ) → j < n → slice_get (take n xs) j ≡ slice_get xs j
front_got zero xs j lt = absurd (omega (arith, lt))
front_got (suc n) [] j lt = refl
front_got (suc n) (x ∷ xs) zero lt = refl
front_got (suc n) (x ∷ xs) (suc j) lt = front_got n xs j (omega (arith, lt))

pub listed_in : (listing : List Listed) (first end i : ℕ) (d : Due) → first ≤ i → i < end → slice_get listing i ≡ Some (listed.Event d) →
    IsListed (part_of listing first end) d
listed_in listing first end i d le lt at =
    (i - first, front_got (end - first) (drop first listing) (i - first) (omega (arith, le, lt)) ∙ behind_got first listing i le ∙ at)

-- ---- the choice that is made at an event is by its value
record MadeBy (tables : Tables) (x : NodeInfo) (kind : Kind) (number : ℕ) : Type 0 where
  value : kind ≡ Val
  choice : Choice
  there : slice_get tables.choices.items number ≡ Some choice
  test : choice.test ≡ x.operand

made_at : (firsts : List ℕ) (tables : Tables) (nodes : List NodeInfo) (n : ℕ) (x : NodeInfo) (kind : Kind) (number : ℕ) →
    ChoosesAt firsts tables nodes n x kind (Some number) → MadeBy tables x kind number
made_at firsts tables nodes n x Val number h = record { value = refl; choice = h.3; there = h.4; test = h.5.test }
made_at firsts tables nodes n x Eff number h = absurd (cc)
made_at firsts tables nodes n x Body number h = absurd (cc)

-- ---- what is chosen then
pub record ChosenThen (world : World) (f : Scene) (e : Begun) (m new : Machine) (b : Shown) : Type 0 where
  pub rest : new ≡ record m { begun = new.begun }
  pub others : (j : ℕ) (z : Shown) → j ≢ length m.below.items → slice_get m.begun.items j ≡ Some z → slice_get new.begun.items j ≡ Some z
  pub choices : List (Option ℕ)
  pub shows : slice_get new.begun.items (length m.below.items) ≡ Some (record b { taken = choices })
  pub kept : IsKept world f e (taken_in choices)

module _ (keeps_at : KeepsAtEvent) (gives : RoomGives) (world : World) (f : Scene) (laid : Expression) (e : Begun) (d : Due) (v : Value) (m new : Machine)
    (b : Shown) (event : IsEventOf world m.image.code.now f laid e d) (entries : List Listed) (lists : IsListingOf entries (tree_of e.root))
    (kept : IsKept world f e (taken_in b.taken))
    (due : is_due (tree_of e.root) (taken_by world f e) d.place ≡ true) (left : e.given d.place ≡ None) (top : top_of m ≡ Some b)
    (value : is_val d.place.kind ≡ true → Holds m.memory m.values.items (m.top.base + d.place.node) v) where
  abbrev tables : Tables
  tables = m.image.code.now.tables

  abbrev after : Begun
  after = with_given e d.place v

  abbrev Then : Type 0
  Then = ChosenThen world f after m new b

  none_made : new ≡ m → IsKept world f after (taken_in b.taken) → Then
  none_made same kept_then = record {
    rest = subst (λ (k : Machine). k ≡ record m { begun = k.begun }) (sym same) refl;
    others = λ j z ne at. ap (λ (k : Machine). slice_get k.begun.items j) same ∙ at;
    choices = b.taken;
    shows = ap (λ (k : Machine). slice_get k.begun.items (length m.below.items)) same ∙ top;
    kept = kept_then;
  }

  -- by what the operand of its test gives
  one_made : (number : ℕ) (c : Choice) → slice_get tables.choices.items number ≡ Some c → Gives m c.test v → Decides (Some number) m new →
      IsKept world f after (kept_by tables (choice_of tables (Some number)) (truth v) (taken_in b.taken)) → Then
  one_made number c at test decides kept_then =
      let has = decides c test.0 at test.1 in
      let taken = has.taken b top in
      let same : taken_in taken.0 ≡ kept_by tables (choice_of tables (Some number)) (truth v) (taken_in b.taken) =
      λ i n. (taken.2 n
      ∙ ap (λ (w : Value). kept_by tables (Some c) (truth w) (taken_in b.taken) n) test.3
      ∙ ap (λ (o : Option Choice). kept_by tables o (truth v) (taken_in b.taken) n) (sym at)) i in
      record {
        rest = has.rest;
        others = has.others;
        choices = taken.0;
        shows = taken.1;
        kept = subst (IsKept world f after) (sym same) kept_then;
      }

  made : (x : NodeInfo) → slice_get event.nodes d.place.node ≡ Some x → (o : Option ℕ) →
      ChoosesAt event.firsts tables event.nodes d.place.node x d.place.kind o → Decides o m new →
      IsKept world f after (kept_by tables (choice_of tables o) (truth v) (taken_in b.taken)) → Then
  made x there None chooses decides kept_then = none_made decides kept_then
  made x there (Some number) chooses decides kept_then =
      let by = made_at event.firsts tables event.nodes d.place.node x d.place.kind number chooses in
      let operand = by.test ∙ (event.lays.numbered.each d.place.node x there).operand in
      one_made number by.choice by.there
      (subst (λ (o : Operand). Gives m o v) (sym operand)
      (gives m event.firsts x.tree.now d.place.node v (event.quiet x there) (value (ap is_val by.value)))) decides kept_then

  pub chosen_then : Decides d.choice m new → Then
  chosen_then decides =
      let entry = event.lays.each event.at (listed.Event d) event.first event.end event.entry in
      made entry.0 entry.1 d.choice entry.3 decides
      (keeps_at world f event.firsts event.nodes tables m.image.code.now.listing.items laid e (taken_in b.taken) event.at d v event.lays event.views
      lists.formed kept
      event.first event.end event.entry due left)

-- ---- what is done of it then
module _ (behind : StandsBehind) (world : World) (old : Machine) (s : Stage) (f : Scene) (e : Begun) (d : Due) (v : Value) (height : ℕ) (shown : Shown)
    (top : top_of old ≡ Some shown) (in_listing : HasListed world f old.image.code.now.listing.items s.first s.end e (taken_in shown.taken))
    (stage : old.top.stage ≡ Some s) where
  abbrev after_it : Begun
  after_it = with_given e d.place v

  -- the cursor has passed the event
  pub record Passed (straight : Bool) (past : Machine) : Type 0 where
    pub cursor : ℕ
    pub is : past ≡ at_cursor old s cursor
    pub stands : straight ≡ true → StandsStraight world f old.image.code.now.listing.items s.first cursor s.end after_it None

  pub passed : (straight : Bool) (past : Machine) → IsPast straight old s d past →
      StandsDone straight world old height s.first s.cursor s.end f e None → Passed straight past
  passed true past p done =
      let same : p.0 ≡ shown = same_Some p.0 shown (sym p.2 ∙ top) in
      record {
        cursor = suc (s.cursor + p.1.0);
        is = p.5;
        stands = λ h. subst (λ (z : Due).
            StandsStraight world f old.image.code.now.listing.items s.first (suc (s.cursor + p.1.0)) s.end (with_given e z.place v) None) p.3
            (behind world f old.image.code.now.listing.items s.first s.cursor s.end e (taken_in shown.taken) p.1 v done in_listing
            (subst (λ (z : Shown). Next (taken_in z.taken) (part_of old.image.code.now.listing.items s.cursor s.end) (Some p.1)) same p.4));
      }
  passed false past p done = record {
    cursor = s.cursor;
    is = p ∙ ap (λ (z : Option Stage). record old { top = record old.top { stage = z } }) stage;
    stands = λ h. absurd (cc);
  }

-- it was noted
pub record NotedThen (e : Begun) (u : Place) (v : Value) (straight : Bool) (height : ℕ) (old noted : Machine) : Type 0 where
  pub rest : noted ≡ record old { strayed = noted.strayed }
  pub others : (j : ℕ) → j ≢ height → slice_get noted.strayed.items j ≡ slice_get old.strayed.items j
  pub strays : straight ≡ false → StandsStrayed noted.strayed.items height (with_given e u v)

pub noted_then : (world : World) (f : Scene) (e : Begun) (u : Place) (v : Value) (straight : Bool) (m old noted : Machine) (first at end : ℕ) →
    NotesWay straight old u noted → StandsDone straight world m (length old.below.items) first at end f e None → m.strayed ≡ old.strayed →
    NotedThen e u v straight (length old.below.items) old noted
noted_then world f e u v true m old noted first at end notes done same = record {
  rest = subst (λ (k : Machine). k ≡ record old { strayed = k.strayed }) (sym notes) refl;
  others = λ j ne. ap (λ (k : Machine). slice_get k.strayed.items j) notes;
  strays = λ h. absurd (cc);
}
noted_then world f e u v false m old noted first at end notes done same =
    let marks : notes.before ≡ done.0 =
    same_Some notes.before done.0
    (sym notes.was ∙ ap (λ z. slice_get z.items (length old.below.items)) (sym same) ∙ done.1) in
    record {
      rest = notes.rest;
      others = notes.others;
      strays = λ h. (
        notes.after,
        notes.is,
        λ w. notes.one w ∙ ap (λ (ms : List Marks). same_place u w || done_in ms w) marks ∙ ap (λ (t : Bool). same_place u w || t) (done.2 w)
            ∙ sym (done_more e u w v),
      );
    }

pub done_then : (world : World) (m : Machine) (straight : Bool) (height first at end : ℕ) (f : Scene) (e : Begun) →
    (straight ≡ true → StandsStraight world f m.image.code.now.listing.items first at end e None) →
    (straight ≡ false → StandsStrayed m.strayed.items height e) → StandsDone straight world m height first at end f e None
done_then world m true height first at end f e along strays = along refl
done_then world m false height first at end f e along strays = strays refl
