-- A race of an order, at the pick of its newer event.
use Rattle.std.proofs.Common.{◌≡◌, ℕ, ◌+◌, ◌<◌, ◌≤◌, Bool, true, false, ◌||◌, if◌then◌else◌, List, [], ◌∷◌, ◌++◌, length}
use Rattle.std.proofs.Common.{map, Option, Some, None, is_some, refl, sym, ap, subst, ◌⊎◌, inl, inr, arith}
use Rattle.std.proofs.lemmas.Bool.Decides.{nat_tests}
use Rattle.std.specs.Prelude.{◌^◌, ◌%◌, ◌==◌, nat_lt, nat_le}
use Rattle.std.specs.List.{list_all}
use Rattle.ub_base.specs.declared.clause.Cause.{Cause}
use Rattle.ub_base.specs.declared.names.Item.{Item}
use Rattle.ub_base.specs.Names.{same_object}
use Rattle.addr_map.specs.declared.map.Row.{Row}
use Rattle.addr_map.specs.Rows.{is_lawful, is_power, first_row}
use Rattle.addr_map.specs.Conflict.{items_conflict, stands_at, is_access, conflicts_with, some_conflict}
use Rattle.c_typed.specs.declared.tree.Place.{Place}
use Rattle.c_typed.specs.Order.{is_body, IsApart}
use Rattle.mem_spec.specs.Store.{Store}
use Rattle.mem_spec.specs.Script.{Act, Done, Raised, Ended, Outside, Unplaced, run}
use Rattle.c_model.specs.Program.{tree_of}
use Rattle.c_model.specs.Values.{Value}
use Rattle.c_model.specs.World.{World, Limits}
use Rattle.c_model.specs.Moves.{Move, Stay, Start, End}
use Rattle.c_model.specs.Steps.{Scene, Local, Begun, Pick, Control, Ev, MayPick, taken_by, at_node, does, move}
use Rattle.c_model.specs.Runs.{Entry, State, Outcome, Refused, Raises, Over, No_row, Ends, Running, trace_of, entry_of, begun_of, back}
use Rattle.c_model.specs.Runs.{moved, acted, step, within, limited, limit_passed, depth_of, enter_passes, After, here, refused, last, more, too_late}
use Rattle.c_model.specs.Runs.{start, started_run, stand, nothing_stands, main_frame, too_many, created_after}
use Rattle.c_model.specs.Findings.{accesses, AreApart, Has, Both, newest, older, first, later}
use Rattle.c_model.specs.ChoiceLaws.{IsNext}
use Rattle.c_model.proofs.Ranks.{or_cases, and_l, and_r}
use Rattle.value_laws.proofs.Orders.{OutcomeFits, step_fits, start_fits}
use Rattle.static_laws.proofs.Scripts.{Anything, Each, ActOk}
use Rattle.static_laws.proofs.Reach.{InReach}
use Rattle.static_laws.proofs.Acts.{AreLow}
use Rattle.static_laws.proofs.Paths.{path_is, both_cases, IsNewest}
use Rattle.static_laws.proofs.Frames.{Falls, of_function, scoped_falls, reach_at, Knows, Told, Sound, Kept, sound_at}
use Rattle.static_laws.proofs.Picks.{event_in, next_is, Inv, OutcomeOk, Sized, stores_in, step_ok}

-- two accesses that conflict, of two lists
pub record Clash (rows : List Row) (P R : Item → Type 0) : Type 0 where
  pub first : Item
  pub second : Item
  pub in_first : P first
  pub in_second : R second
  pub conflict : items_conflict (stands_at rows) first second ≡ true
  pub accesses : (is_access first ≡ true) × (is_access second ≡ true)

module _ (rows : List Row) (P R : Item → Type 0) where
  one_clash : (i : Item) → P i → is_access i ≡ true → (js : List Item) → Each R js → conflicts_with rows i (accesses js) ≡ true → Clash rows P R
  one_clash i p a [] rs h = absurd (cc)
  one_clash i p a (j ∷ js) (r, rs) h = go (is_access j) refl h (one_clash i p a js rs)
    where
      go : (b : Bool) → is_access j ≡ b → conflicts_with rows i (if b then j ∷ accesses js else accesses js) ≡ true
          → (conflicts_with rows i (accesses js) ≡ true → Clash rows P R) → Clash rows P R
      go false e h again = again h
      go true e h again = elim (or_cases (items_conflict (stands_at rows) i j) _ h) [
        | inl k ↦ record { first = i; second = j; in_first = p; in_second = r; conflict = k; accesses = (a, e) }
        | inr k ↦ again k
      ]

  pub some_clash : (is js : List Item) → Each P is → Each R js → some_conflict rows (accesses is) (accesses js) ≡ true → Clash rows P R
  some_clash [] js ps rs h = absurd (cc)
  some_clash (i ∷ is) js (p, ps) rs h = go (is_access i) refl h (some_clash is js ps rs)
    where
      go : (b : Bool) → is_access i ≡ b → some_conflict rows (if b then i ∷ accesses is else accesses is) (accesses js) ≡ true
          → (some_conflict rows (accesses is) (accesses js) ≡ true → Clash rows P R) → Clash rows P R
      go false e h again = again h
      go true e h again = elim (or_cases (conflicts_with rows i (accesses js)) _ h) [
        | inl k ↦ one_clash i p e js rs k
        | inr k ↦ again k
      ]

-- lawful rows end low
pub low_rows : (rows : List Row) → list_all is_lawful rows ≡ true → AreLow rows
low_rows [] h x r e = absurd (cc)
low_rows (s ∷ rows) h x r e = go (same_object s.name x) e (low_rows rows (and_r (is_lawful s) _ h) x r)
  where
    lawful : is_lawful s ≡ true
    lawful = and_l (is_lawful s) _ h

    ends : nat_le (s.base + s.size) (2 ^ 47) ≡ true
    ends = and_r (nat_le 16777216 s.base) _ (and_r ((s.base % s.align) == 0) _ (and_r (is_power s.align) _ (and_r (nat_lt 0 s.size) _ lawful)))

    go : (b : Bool) → (if b then Some s else first_row (λ r. same_object r.name x) rows) ≡ Some r
        → (first_row (λ r. same_object r.name x) rows ≡ Some r → r.base + r.size ≤ 2 ^ 47) → r.base + r.size ≤ 2 ^ 47
    go true e again = (let k : s ≡ r = cc in subst (λ z. z.base + z.size ≤ 2 ^ 47) k (grind (arith, nat_tests, ends)))
    go false e again = again e

module _ (world : World) where
  -- two events of one full expression race, as the first of them is picked behind the other
  pub record RaceAt (f : Scene) (b : Begun) (u v : Place) : Type 0 where
    pub next : IsNext world f b u
    pub given : is_some (b.given v) ≡ true
    pub sound : Sound world f b
    pub apart : IsApart (tree_of b.root) (taken_by world f b) u v
    pub falls : (n : ℕ) × Falls n f.blocks
    pub clash : (sized : Bool) → Knows world sized → Clash world.rows (InReach world.rows (reach_at world sized f u.kind (at_node 0 b.root u.node)))
        (InReach world.rows (reach_at world sized f v.kind (at_node 0 b.root v.node)))

  -- what a pick adds to the trace
  pub data Grown (st : State) (p : Pick) : List Entry → Type 0 where
    nothing : Grown st p []
    entry : (is : List Item) → ((b : Begun) (u : Place) → st.top.begun ≡ Some b → p ≡ Ev u → Told world st.top.scene b.root u is)
        → Grown st p (entry_of world st.top p is ∷ st.trace)

  abbrev GrownBy : State → Pick → Outcome → Type 0
  GrownBy st p o = Grown st p (trace_of o)

  within_grown : (st : State) (p : Pick) (c : Option (Cause × ℕ)) (o : Outcome) → GrownBy st p o → GrownBy st p (within c o)
  within_grown st p None o h = h
  within_grown st p (Some c) o h = nothing

  limited_grown : (st : State) (p : Pick) (limits : Limits) (o : Outcome) → GrownBy st p o → GrownBy st p (limited limits o)
  limited_grown st p limits (Running s) h = within_grown st p (limit_passed limits (depth_of s.top s.held) s.store) (Running s) h
  limited_grown st p limits Refused h = h
  limited_grown st p limits (Raises c trace) h = h
  limited_grown st p limits (Over c n) h = h
  limited_grown st p limits No_row h = h
  limited_grown st p limits (Ends n out trace) h = h

  back_trace : (hs : List (Local × Place)) (v : Value) (s : Store) (trace : List Entry) → trace_of (back world hs v s trace) ≡ trace
  back_trace [] v s trace = refl
  back_trace (h ∷ hs) v s trace = refl

  moved_grown : (st : State) (p : Pick) (m : Move Local) (v : Value) (s : Store) (trace : List Entry) → Grown st p trace
      → GrownBy st p (moved world st p m v s trace)
  moved_grown st p Stay v s trace h = h
  moved_grown st (Ev u) (Start g) v s trace h = h
  moved_grown st Control (Start g) v s trace h = nothing
  moved_grown st p End v s trace h = subst (λ z. Grown st p z) (sym (back_trace st.held v s trace)) h

  abbrev ToldBy : State → Pick → List Item → Type 0
  ToldBy st p is = (b : Begun) (u : Place) → st.top.begun ≡ Some b → p ≡ Ev u → Told world st.top.scene b.root u is

  acted_grown : (st : State) (p : Pick) (a : Act Value)
      → ((b : Begun) (u : Place) → st.top.begun ≡ Some b → p ≡ Ev u → (sized : Bool) → Knows world sized → is_body u.kind ≡ false
      → ActOk (InReach world.rows (reach_at world sized st.top.scene u.kind (at_node 0 b.root u.node))) Anything a)
      → GrownBy st p (acted world st p a)
  acted_grown st p (Done v is s) h =
      limited_grown st p world.limits (moved world st p (move world st.top st.top.begun p) v s (entry_of world st.top p is ∷ st.trace))
      (moved_grown st p (move world st.top st.top.begun p) v s (entry_of world st.top p is ∷ st.trace)
      (entry is (λ b u e q sized knows nb. (h b u e q sized knows nb).0)))
  acted_grown st p (Raised c) h = entry [] (λ b u e q sized knows nb. tt)
  acted_grown st p (Ended n is s) h = entry is (λ b u e q sized knows nb. h b u e q sized knows nb)
  acted_grown st p (Outside c n) h = nothing
  acted_grown st p Unplaced h = within_grown st p _ No_row nothing

  ev_is : (u v : Place) → Ev u ≡ Ev v → u ≡ v
  ev_is u v h = cc

  module _ (lo : AreLow world.rows) where
    pub step_grown : (st : State) (p : Pick) → Inv world lo st → Sized world lo st → GrownBy st p (step world st p)
    step_grown st p inv known =
        within_grown st p (enter_passes world.limits st p) _
        (acted_grown st p (run world.rows (does world st.top st.top.begun p) st.store) by_event)
      where
        by_event : (b : Begun) (u : Place) → st.top.begun ≡ Some b → p ≡ Ev u → (sized : Bool) → Knows world sized → is_body u.kind ≡ false
            → ActOk (InReach world.rows (reach_at world sized st.top.scene u.kind (at_node 0 b.root u.node))) Anything
            (run world.rows (does world st.top st.top.begun p) st.store)
        by_event b u e q sized knows nb =
            subst (λ o. ActOk (InReach world.rows (reach_at world sized st.top.scene u.kind (at_node 0 b.root u.node))) Anything
            (run world.rows (does world st.top o p) st.store)) (sym e)
            (subst (λ z. ActOk (InReach world.rows (reach_at world sized st.top.scene u.kind (at_node 0 b.root u.node))) Anything
            (run world.rows (does world st.top (Some b) z) st.store)) (sym q)
            (event_in world lo sized st.top.scene b (sound_at world st.top.scene st.top.begun b e inv.kept.sound).fixed
            (stores_in world lo st known b e sized knows) u st.store nb))

    pub no_pair : (trace : List Entry) (d e : Entry) (u v : Place) → Both trace d u e v → 0 < length trace
    no_pair _ d e u v (newest _ _ es _ _ p h s t) = omega arith
    no_pair _ d e u v (older c _ _ es _ _ b) = omega arith

    no_event : (trace : List Entry) (e : Entry) (v : Place) → Has trace e v → 0 < length trace
    no_event _ e v (first _ es _ p) = omega arith
    no_event _ e v (later d _ es _ h) = omega arith

    -- the parts of a race that don't depend on the trace
    pub record Races (d : Entry) (u : Place) (e : Entry) (v : Place) : Type 0 where
      pub apart : AreApart d.begun u v
      pub bodiless : (is_body u.kind || is_body v.kind) ≡ false
      pub clash : some_conflict world.rows (accesses d.items) (accesses e.items) ≡ true

    -- the newer event is picked here
    pub record Picked (st : State) (ps : List Pick) (d : Entry) (u v : Place) : Type 0 where
      pub before : List Pick
      pub after : List Pick
      pub split : ps ≡ before ++ Ev u ∷ after
      pub state : State
      pub comes : After world st before (Running state)
      pub begun : Begun
      pub runs : state.top.begun ≡ Some begun
      pub of_frame : d.path ≡ state.top.scene.path
      pub of_turn : d.turn ≡ state.top.scene.turn
      pub race : RaceAt state.top.scene begun u v

    neither_l : (a b : Bool) → (a || b) ≡ false → a ≡ false
    neither_l false b h = refl
    neither_l true b h = h

    neither_r : (a b : Bool) → (a || b) ≡ false → b ≡ false
    neither_r false b h = h
    neither_r true b h = absurd (cc)

    -- at a pick that makes the newer entry
    new_race : (st : State) (u : Place) (is : List Item) → Inv world lo st → (o : Option Begun) → st.top.begun ≡ o → MayPick world st.top o (Ev u)
        → ((b : Begun) (w : Place) → st.top.begun ≡ Some b → Ev u ≡ Ev w → Told world st.top.scene b.root w is) → (e : Entry) (v : Place)
        → Has st.trace e v → st.top.scene.path ≡ e.path → st.top.scene.turn ≡ e.turn → AreApart (begun_of world st.top o) u v
        → (is_body u.kind || is_body v.kind) ≡ false → some_conflict world.rows (accesses is) (accesses e.items) ≡ true
        → (b : Begun) × (st.top.begun ≡ Some b) × RaceAt st.top.scene b u v
    new_race st u is inv None q may told e v h s t ap' bare cl = absurd may
    new_race st u is inv (Some b) q may told e v h s t ap' bare cl =
        let old = inv.kept.here b q e v h s t in (
          b,
          q,
          record {
            next = next_is world lo st.top.scene b u may;
            given = is_given old.1;
            sound = sound_at world st.top.scene st.top.begun b q inv.kept.sound;
            apart = ap';
            falls = scoped_falls st.top inv.kept.scoped;
            clash = λ sized knows. some_clash world.rows (InReach world.rows (reach_at world sized st.top.scene u.kind (at_node 0 b.root u.node)))
                (InReach world.rows (reach_at world sized st.top.scene v.kind (at_node 0 b.root v.node))) is e.items
                (told b u q refl sized knows (neither_l (is_body u.kind) _ bare)) (old.0 sized knows (neither_r (is_body u.kind) _ bare)) cl;
          },
        )
      where
        is_given : (is_some (b.given v) ≡ true) ⊎ (None ≡ Some v) → is_some (b.given v) ≡ true
        is_given (inl g) = g
        is_given (inr g) = absurd (cc)

    -- a pair of the longer trace stood before, or its newer event is picked here
    grown_pair : (st : State) (p : Pick) (rest : List Pick) (trace : List Entry) → Inv world lo st → MayPick world st.top st.top.begun p → Grown st p trace
        → (d e : Entry) (u v : Place) → Both trace d u e v → Races d u e v → Both st.trace d u e v ⊎ Picked st (p ∷ rest) d u v
    grown_pair st p rest _ inv may nothing d e u v b r = absurd (let l = no_pair [] d e u v b in omega (arith, l))
    grown_pair st p rest _ inv may (entry is told) d e u v b r = elim (both_cases (entry_of world st.top p is) st.trace d u e v b) [
      | inr q ↦ inl q
      | inl n ↦ inr (at_pick p may told n)
    ]
      where
        at_pick : (p : Pick) → MayPick world st.top st.top.begun p
            → ((b : Begun) (w : Place) → st.top.begun ≡ Some b → p ≡ Ev w → Told world st.top.scene b.root w is)
            → IsNewest (entry_of world st.top p is) st.trace d u e v → Picked st (p ∷ rest) d u v
        at_pick Control may told n = absurd (let q = n.at in cc (q))
        at_pick (Ev w) may told n =
            let wu : w ≡ u = (let q = n.at in cc (q)) in
            let x = entry_of world st.top (Ev w) is in
            let r2 = subst (λ z. Races z u e v) (sym n.entry) r in
            let r3 = subst (λ z. Races x z e v) (sym wu) r2 in
            let f = new_race st w is inv st.top.begun refl may told e v n.among (path_is st.top.scene.path e.path n.of_frame) n.of_turn r3.apart r3.bodiless
            r3.clash in
            record {
              before = [];
              after = rest;
              split = ap (λ z. Ev z ∷ rest) wu;
              state = st;
              comes = here st;
              begun = f.0;
              runs = f.1;
              of_frame = ap (λ z. z.path) (sym n.entry);
              of_turn = ap (λ z. z.turn) (sym n.entry);
              race = subst (λ z. RaceAt st.top.scene f.0 z v) wu f.2;
            }

    -- an order that goes on from the state behind a pick
    before_it : (st next' : State) (p : Pick) (qs : List Pick) (o : Outcome) → MayPick world st.top st.top.begun p → step world st p ≡ Running next'
        → After world next' qs o → After world st (p ∷ qs) o
    before_it st _ p _ _ may e (here next') = subst (λ z. After world st (p ∷ []) z) e (last st p may)
    before_it st _ p _ _ may e (refused next' q qs h) = more st next' p q qs Refused may e (refused next' q qs h)
    before_it st _ p _ _ may e (last next' q h) = more st next' p q [] (step world next' q) may e (last next' q h)
    before_it st _ p _ _ may e (more next' s2 q r qs o h k rest) = more st next' p q (r ∷ qs) o may e (more next' s2 q r qs o h k rest)
    before_it st _ p _ _ may e (too_late next' q r qs h k) = more st next' p q (r ∷ qs) Refused may e (too_late next' q r qs h k)

    next_inv : (st next' : State) (p : Pick) → Inv world lo st → Sized world lo st → MayPick world st.top st.top.begun p → step world st p ≡ Running next'
        → Inv world lo next'
    next_inv st next' p inv known may e = subst (λ z. OutcomeOk world lo z) e (step_ok world lo st p inv known may)

    next_known : (st next' : State) (p : Pick) → Sized world lo st → step world st p ≡ Running next' → Sized world lo next'
    next_known st next' p known e = λ size ok. subst (OutcomeFits size world) e (step_fits size world ok st (known size ok) p)

    pub races_from : (st : State) (ps : List Pick) (o : Outcome) → Inv world lo st → Sized world lo st → After world st ps o → (d e : Entry) (u v : Place)
        → Both (trace_of o) d u e v → Races d u e v → Both st.trace d u e v ⊎ Picked st ps d u v
    races_from _ _ _ inv known (here st) d e u v b r = inl b
    races_from _ _ _ inv known (refused st p ps h) d e u v b r = absurd (let l = no_pair [] d e u v b in omega (arith, l))
    races_from _ _ _ inv known (last st p may) d e u v b r = grown_pair st p [] _ inv may (step_grown st p inv known) d e u v b r
    races_from _ _ _ inv known (more st next' p q ps o may k rest) d e u v b r =
        elim (races_from next' (q ∷ ps) o (next_inv st next' p inv known may k) (next_known st next' p known k) rest d e u v b r) [
          | inl two ↦ grown_pair st p (q ∷ ps) next'.trace inv may (subst (λ z. Grown st p (trace_of z)) k (step_grown st p inv known)) d e u v two r
          | inr picked ↦ inr (record {
            before = p ∷ picked.before;
            after = picked.after;
            split = ap (λ z. p ∷ z) picked.split;
            state = picked.state;
            comes = before_it st next' p picked.before (Running picked.state) may k picked.comes;
            begun = picked.begun;
            runs = picked.runs;
            of_frame = picked.of_frame;
            of_turn = picked.of_turn;
            race = picked.race;
          })
        ]
    races_from _ _ _ inv known (too_late st p q ps h k) d e u v b r = absurd (let l = no_pair [] d e u v b in omega (arith, l))

    -- the start
    abbrev pub StartOk : Outcome → Type 0
    StartOk (Running st) = (st.trace ≡ []) × Inv world lo st
    StartOk o = trace_of o ≡ []

    start_within : (c : Option (Cause × ℕ)) (o : Outcome) → StartOk o → StartOk (within c o)
    start_within None o h = h
    start_within (Some c) o h = refl

    start_limited : (limits : Limits) (st : State) → StartOk (Running st) → StartOk (limited limits (Running st))
    start_limited limits st h = start_within (limit_passed limits (depth_of st.top st.held) st.store) (Running st) h

    main_kept : (vs : List Value) → Kept world [] (main_frame world vs) None
    main_kept vs = record {
      old = λ e v h s. absurd (nowhere e v h);
      here = λ b r e v h s t. absurd (nowhere e v h);
      above = λ e v h t k un. absurd (nowhere e v h);
      bodies = λ b r e v h k un. absurd (nowhere e v h);
      sound = tt;
      scoped = of_function tt;
    }
      where
        nowhere : (e : Entry) (v : Place) → Has [] e v → ⊥
        nowhere e v h = (let l = no_event [] e v h in omega (arith, l))

    started_ok : (a : Act Value) (vs : List Value) → StartOk (started_run world a vs)
    started_ok (Done v is s) vs = start_limited world.limits (record { top = main_frame world vs; held = []; store = s; trace = [] })
        (refl, record { kept = main_kept vs; held = tt })
    started_ok (Outside c n) vs = refl
    started_ok (Raised c) vs = refl
    started_ok (Ended n is s) vs = refl
    started_ok Unplaced vs = refl

    pub start_ok : (input : List ℕ) (vs : List Value) → StartOk (start world input vs)
    start_ok input vs = start_within (too_many world.limits (created_after 0 (map (λ o. o.decl) world.program.standing))) _
        (started_ok (run world.rows (stand world world.program.standing) (nothing_stands world input)) vs)

    pub start_known : (input : List ℕ) (vs : List Value) (st : State) → start world input vs ≡ Running st → Sized world lo st
    start_known input vs st e = λ size ok. subst (OutcomeFits size world) e (start_fits size world ok input vs)
