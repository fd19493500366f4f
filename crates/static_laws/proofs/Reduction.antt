-- From the race at its pick to the traces of orders, and the cases together.
use Rattle.std.proofs.Common.{◌≡◌, ℕ, Bool, true, false, ◌||◌, List, [], ◌∷◌, length, Option, None, is_some, refl, sym, ap, ◌∙◌, subst}
use Rattle.std.proofs.Common.{◌⊎◌, inl, inr, arith, true≢false}
use Rattle.c_typed.specs.declared.tree.Place.{Place}
use Rattle.c_typed.specs.declared.tree.Typed.{Typed}
use Rattle.c_typed.specs.declared.program.Program.{Program}
use Rattle.c_typed.specs.Decide.{due_in}
use Rattle.c_model.specs.Program.{tree_of}
use Rattle.c_model.specs.Values.{Value}
use Rattle.c_model.specs.World.{World}
use Rattle.c_model.specs.Steps.{Scene, Begun, Pick, at_node, taken_by}
use Rattle.c_model.specs.Runs.{Entry, State, Outcome, Running, trace_of, is_running, start, After}
use Rattle.c_model.specs.Findings.{Race}
use Rattle.c_model.specs.Claims.{ComesTo, starts, stops, refuses}
use Rattle.c_model.proofs.Ranks.{and_l, and_r, or_cases}
use Rattle.static_places.specs.Preorder.{nodes_of}
use Rattle.static_seq.specs.declared.accesses.MemoryAccess.{MemoryAccess}
use Rattle.static_seq.specs.Choices.{in_branches}
use Rattle.static_seq.specs.Parted.{both_read, sequenced, branched, accesses}
use Rattle.program_view.specs.Trees.{expr_of}
use Rattle.static_laws.specs.Apart.{other_objects, other_bytes, apart, apart_from_all, all_apart, never_races}
use Rattle.static_laws.specs.NeverRaces.{AreRows, PickedIn, IsAmong, AccessesAt, AccessesBy, IsUsual, RacesOnlyWithout, ReadsNeverRace, SequencedNeverRace}
use Rattle.static_laws.specs.NeverRaces.{BranchesNeverRace, ObjectsNeverRace, BytesNeverRace, WholesNeverRace, OnlyAccessesRace, NeverRaces}
use Rattle.static_laws.specs.NeverRaces.{SizedRacesOnlyWithout, SizedNeverRaces}
use Rattle.static_laws.proofs.Acts.{AreLow}
use Rattle.static_laws.proofs.Frames.{reach_at, Knows}
use Rattle.static_laws.proofs.Races.{low_rows, RaceAt, races_from, no_pair, StartOk, start_ok, start_known}
use Rattle.static_laws.proofs.Accessed.{access_of}
use Rattle.static_laws.proofs.Cases.{Pair, pair_of, pair_back, some_reach, both_reads, objects_differ, bytes_differ, branches_apart, sequenced_apart}

-- at the pick of the newer event
abbrev pub AtPick : Bool → (Program → ℕ → Typed → Place → Place → Type 0) → Type 0
AtPick sized Holds =
    (world : World) → Knows world sized → AreRows world.rows → (f : Scene) (b : Begun) (u v : Place) → RaceAt world f b u v → (p : Program) (function : ℕ)
    (root : Typed)
    → b.root ≡ expr_of root → IsUsual p function root → Holds p function root u v → ⊥

module _ (world : World) (rows : AreRows world.rows) (input : List ℕ) (vs : List Value) where
  abbrev lo : AreLow world.rows
  lo = low_rows world.rows rows.lawful

  -- the order and the pick
  record Found (ps : List Pick) (d : Entry) (u v : Place) : Type 0 where
    picked : PickedIn world input vs ps d u
    state : State
    race : RaceAt world state.top.scene picked.begun u v

  from_start : (st : State) (ps : List Pick) (o : Outcome) → start world input vs ≡ Running st → After world st ps o → (d e : Entry) (u v : Place)
      → Race world (trace_of o) d u e v → Found ps d u v
  from_start st ps o e after d e2 u v r =
      let ok = subst (StartOk world lo) e (start_ok world lo input vs) in
      elim (races_from world lo st ps o ok.1 (start_known world lo input vs st e) after d e2 u v r.both
      (record { apart = r.apart; bodiless = r.bodiless; clash = r.clash })) [
        | inl two ↦ absurd (let l = no_pair world lo st.trace d e2 u v two in let k = ap length ok.0 in omega (arith, l, k))
        | inr q ↦ record {
          picked = record {
            before = q.before;
            after = q.after;
            split = q.split;
            state = q.state;
            comes = starts st q.before (Running q.state) e q.comes;
            begun = q.begun;
            runs = q.runs;
            of_frame = q.of_frame;
            of_turn = q.of_turn;
          };
          state = q.state;
          race = q.race;
        }
      ]

  no_trace : (o : Outcome) → StartOk world lo o → is_running o ≡ false → trace_of o ≡ []
  no_trace (Running st) h r = absurd (true≢false r)
  no_trace o h r = h

  found : (ps : List Pick) (o : Outcome) → ComesTo world input vs ps o → (d e : Entry) (u v : Place) → Race world (trace_of o) d u e v → Found ps d u v
  found _ _ (starts st ps o e after) d e2 u v r = from_start st ps o e after d e2 u v r
  found _ _ (stops o e h) d e2 u v r =
      absurd (let k = no_trace o (subst (StartOk world lo) e (start_ok world lo input vs)) h in
      let l = no_pair world lo (trace_of o) d e2 u v r.both in
      let m = ap length k in omega (arith, l, m))
  found _ _ (refuses p ps h) d e2 u v r = absurd (let l = no_pair world lo [] d e2 u v r.both in omega (arith, l))

reduced : (Holds : Program → ℕ → Typed → Place → Place → Type 0) → AtPick false Holds → RacesOnlyWithout Holds
reduced Holds h world input vs ps o rows comes d e u v race =
    let x = found world rows input vs ps o comes d e u v race in
    (x.picked, λ p function root is usual holds. h world tt rows x.state.top.scene x.picked.begun u v x.race p function root is usual holds)

reduced_sized : (Holds : Program → ℕ → Typed → Place → Place → Type 0) → AtPick true Holds → SizedRacesOnlyWithout Holds
reduced_sized Holds h world input vs ps o keeps rows comes d e u v race =
    let x = found world rows input vs ps o comes d e u v race in
    (x.picked, λ p function root is usual holds. h world keeps rows x.state.top.scene x.picked.begun u v x.race p function root is usual holds)

-- the cases, of two accesses in either order
module _ (sized : Bool) (world : World) (knows : Knows world sized) (rows : AreRows world.rows) (f : Scene) (b : Begun) (u v : Place)
    (race : RaceAt world f b u v) (p : Program) (function : ℕ) (root : Typed)
    (is : b.root ≡ expr_of root) (usual : IsUsual p function root) where
  -- two accesses at the two places, with the race in their order
  either : (P : MemoryAccess → MemoryAccess → Type 0)
      → ((z w : Place) → Pair world sized f b root z w → (x y : MemoryAccess) → IsAmong (accesses p function root) x → IsAmong (accesses p function root) y
      → x.at.place ≡ z → y.at.place ≡ w → P x y → ⊥)
      → (two : AccessesAt p function root u v) → P two.first two.second → ⊥
  either P g two h = elim two.at [
    | inl q ↦ g u v (pair_of world sized f b root is knows u v race) two.first two.second two.has_first two.has_second q.0 q.1 h
    | inr q ↦ g v u (pair_back world sized f b root is u v
        (pair_of world sized f b root is knows u v race)) two.first two.second two.has_first two.has_second q.0 q.1 h
  ]

  no_reads : AccessesBy (λ r x y. both_read x y) p function root u v → ⊥
  no_reads h =
      either (λ x y. both_read x y ≡ true)
      (λ z w pair x y ix iy ez ew k. both_reads world rows f race.falls.0 race.falls.1 p function sized b root usual.count usual.low z w pair x y ix iy ez ew k)
      h.two h.holds

  no_objects : AccessesBy (λ r x y. other_objects x y) p function root u v → ⊥
  no_objects h =
      either (λ x y. other_objects x y ≡ true)
      (λ z w pair x y ix iy ez ew k. objects_differ world rows f race.falls.0 race.falls.1 p function sized b root usual.count usual.low z w pair x y ix iy ez
      ew k)
      h.two h.holds

  no_bytes : AccessesBy (other_bytes sized) p function root u v → ⊥
  no_bytes h =
      either (λ x y. other_bytes sized root x y ≡ true)
      (λ z w pair x y ix iy ez ew k. bytes_differ world rows f race.falls.0 race.falls.1 p function sized b root usual.count usual.low z w pair x y ix iy ez ew
      k)
      h.two h.holds

  no_sequenced : AccessesBy sequenced p function root u v → ⊥
  no_sequenced h =
      either (λ x y. sequenced root x y ≡ true)
      (λ z w pair x y ix iy ez ew k. sequenced_apart world sized f b root is usual.count z w pair x y ez ew k) h.two h.holds

  no_branched : AccessesBy branched p function root u v → ⊥
  no_branched h =
      either (λ x y. branched root x y ≡ true)
      (λ z w pair x y ix iy ez ew k.
      branches_apart (taken_by world f b) root usual.count usual.branches z w
      (subst (λ t. due_in (taken_by world f b) 0 (tree_of t) z ≡ true) is pair.reached_first.due)
      (subst (λ t. due_in (taken_by world f b) 0 (tree_of t) w ≡ true) is pair.reached_second.due)
      (subst (λ q. in_branches (nodes_of root) 0 z.node q ≡ true) (ap (λ q. q.node) ew)
      (subst (λ q. in_branches (nodes_of root) 0 q y.at.place.node ≡ true) (ap (λ q. q.node) ez) k)))
      h.two h.holds

  -- there are two accesses
  two_accesses : AccessesAt p function root u v
  two_accesses =
      let pair = pair_of world sized f b root is knows u v race in
      let r = some_reach world.rows (reach_at world sized f u.kind (at_node 0 (expr_of root) u.node)) pair.first pair.in_first pair.is_first in
      let s = some_reach world.rows (reach_at world sized f v.kind (at_node 0 (expr_of root) v.node)) pair.second pair.in_second pair.is_second in
      let x = access_of p function world sized f root usual.count usual.low u r.0 r.1 in
      let y = access_of p function world sized f root usual.count usual.low v s.0 s.1 in
      record { first = x.0; second = y.0; has_first = x.1; has_second = y.1; at = inl (x.2, y.2) }

  -- any two that are apart
  apart_two : (x y : MemoryAccess) → (two : AccessesAt p function root u v) → two.first ≡ x → two.second ≡ y → apart sized root x y ≡ true → ⊥
  apart_two x y two ex ey h = by_case (or_cases (both_read x y) _ h)
    where
      holds : (test : Typed → MemoryAccess → MemoryAccess → Bool) → test root x y ≡ true → AccessesBy test p function root u v
      holds test k = record { two = two; holds = subst (λ z. test root z two.second ≡ true) (sym ex) (subst (λ z. test root x z ≡ true) (sym ey) k) }

      by_case : (both_read x y ≡ true) ⊎ ((other_objects x y || (other_bytes sized root x y || (branched root x y || sequenced root x y))) ≡ true) → ⊥
      by_case (inl k) = no_reads (holds (λ r x y. both_read x y) k)
      by_case (inr k) = elim (or_cases (other_objects x y) _ k) [
        | inl j ↦ no_objects (holds (λ r x y. other_objects x y) j)
        | inr j ↦ elim (or_cases (other_bytes sized root x y) _ j) [
          | inl i ↦ no_bytes (holds (other_bytes sized) i)
          | inr i ↦ elim (or_cases (branched root x y) _ i) [
            | inl g ↦ no_branched (holds branched g)
            | inr g ↦ no_sequenced (holds sequenced g)
          ]
        ]
      ]

  swapped : AccessesAt p function root u v → AccessesAt p function root u v
  swapped two = record {
    first = two.second;
    second = two.first;
    has_first = two.has_second;
    has_second = two.has_first;
    at = elim two.at [
      | inl q ↦ inr (q.1, q.0)
      | inr q ↦ inl (q.1, q.0)
    ];
  }

  -- the two places differ
  from_all : (x : MemoryAccess) (bs : List MemoryAccess) (y : MemoryAccess) → IsAmong bs y → apart_from_all sized root x bs ≡ true → apart sized root x y ≡ true
  from_all x [] y m h = absurd m
  from_all x (c ∷ cs) y (inl e) h = subst (λ z. apart sized root x z ≡ true) e (and_l (apart sized root x c) _ h)
  from_all x (c ∷ cs) y (inr m) h = from_all x cs y m (and_r (apart sized root x c) _ h)

  among_all : (as_list : List MemoryAccess) (x y : MemoryAccess) → IsAmong as_list x → IsAmong as_list y → all_apart sized root as_list ≡ true
      → (x ≡ y) ⊎ ((apart sized root x y ≡ true) ⊎ (apart sized root y x ≡ true))
  among_all [] x y mx my h = absurd mx
  among_all (c ∷ cs) x y (inl ex) (inl ey) h = inl (sym ex ∙ ey)
  among_all (c ∷ cs) x y (inl ex) (inr my) h = inr (inl
      (subst (λ z. apart sized root z y ≡ true) ex (from_all c cs y my (and_l (apart_from_all sized root c cs) _ h))))
  among_all (c ∷ cs) x y (inr mx) (inl ey) h = inr (inr
      (subst (λ z. apart sized root z x ≡ true) ey (from_all c cs x mx (and_l (apart_from_all sized root c cs) _ h))))
  among_all (c ∷ cs) x y (inr mx) (inr my) h = among_all cs x y mx my (and_r (apart_from_all sized root c cs) _ h)

  not_one : (x y : MemoryAccess) → x ≡ y → x.at.place ≡ u → y.at.place ≡ v → ⊥
  not_one x y e ex ey =
      let same : u ≡ v = sym ex ∙ (ap (λ z. z.at.place) e ∙ ey) in
      some_none (b.given u) race.next.left (subst (λ z. is_some (b.given z) ≡ true) (sym same) race.given)
    where
      some_none : (o : Option Value) → o ≡ None → is_some o ≡ true → ⊥
      some_none o e h = true≢false (sym (sym (ap (λ z. is_some z) e) ∙ h))

  never : never_races sized p function root ≡ true → ⊥
  unfolding two_accesses swapped
  never h = elim (among_all (accesses p function root) two.first two.second two.has_first two.has_second h) [
    | inl e ↦ elim two.at [
      | inl q ↦ not_one two.first two.second e q.0 q.1
      | inr q ↦ not_one two.second two.first (sym e) q.1 q.0
    ]
    | inr (inl k) ↦ apart_two two.first two.second two refl refl k
    | inr (inr k) ↦ apart_two two.second two.first (swapped two) refl refl k
  ]
    where
      two : AccessesAt p function root u v
      two = two_accesses

pub reads_never : ReadsNeverRace
reads_never = reduced (AccessesBy (λ root a b. both_read a b)) (no_reads false)

pub sequenced_never : SequencedNeverRace
sequenced_never = reduced (AccessesBy sequenced) (no_sequenced false)

pub branches_never : BranchesNeverRace
branches_never = reduced (AccessesBy branched) (no_branched false)

pub objects_never : ObjectsNeverRace
objects_never = reduced (AccessesBy (λ root a b. other_objects a b)) (no_objects false)

pub bytes_never : BytesNeverRace
bytes_never = reduced (AccessesBy (other_bytes false)) (no_bytes false)

pub wholes_never : WholesNeverRace
wholes_never = reduced_sized (AccessesBy (other_bytes true)) (no_bytes true)

pub only_accesses : OnlyAccessesRace
only_accesses = reduced (λ p function root u v. AccessesAt p function root u v → ⊥)
    (λ world knows rows f b u v race p function root is usual h. h (two_accesses false world knows rows f b u v race p function root is usual))

pub never_at_all : NeverRaces
never_at_all = reduced (λ p function root u v. never_races false p function root ≡ true) (never false)

pub never_sized : SizedNeverRaces
never_sized = reduced_sized (λ p function root u v. never_races true p function root ≡ true) (never true)
