-- Of a trace: where the events that are open don't conflict, none in it do; and what ends the run stands beside no other event.
use Rattle.std.proofs.Common.{◌≡◌, ℕ, zero, suc, ◌<◌, Bool, true, false, not, ◌&&◌, nat_lt, if◌then◌else◌, true≢false, List, [], ◌∷◌, ◌++◌, Option, Some}
use Rattle.std.proofs.Common.{None, is_some, refl, sym, ap, ap₂, ◌∙◌, subst, ◌⊎◌, inl, inr, arith}
use Rattle.ub_base.specs.Frames.{Path}
use Rattle.ub_base.specs.declared.clause.Kind.{Kind}
use Rattle.ub_base.specs.declared.clause.Kind.TheVariants.{Body}
use Rattle.ub_base.specs.declared.names.Item.{Item}
use Rattle.ub_base.specs.declared.names.Item.TheVariants.{Ending}
use Rattle.c_typed.specs.declared.tree.Place.{Place}
use Rattle.c_typed.specs.Tree.{Tree, size}
use Rattle.c_typed.specs.Order.{Taken, place, same_place, is_body, events, Before, chain}
use Rattle.c_typed.specs.Decide.{first_place}
use Rattle.mem_spec.specs.Store.{Store}
use Rattle.mem_spec.specs.Script.{Script, Give, Raise, Finish, Exceed, Misplace, Do, Touch, Ask, Get, Put, Bear, Bury, Show, Find, Settle, Take, Print}
use Rattle.mem_spec.specs.Script.{item_of, refuses, answer, left, Done, run}
use Rattle.mem_laws.specs.Frame.{gives as gives_value}
use Rattle.mem_laws.proofs.Scripts.{stepped}
use Rattle.addr_map.specs.Conflict.{some_conflict as conflict}
use Rattle.c_model.specs.Program.{tree_of}
use Rattle.c_model.specs.World.{World}
use Rattle.c_model.specs.Values.{Value}
use Rattle.c_model.specs.Steps.{Scene, Local, Begun, Pick, Ev, taken_by}
use Rattle.c_model.specs.Runs.{Entry, begun_of, depth_of}
use Rattle.c_model.specs.Findings.{same_path, is_under, items_under, items_of, has_ending, Has, first, later, Both, AreApart, is_due_in, Race, Quarrel}
use Rattle.c_model.specs.Findings.{EndQuarrel}
use Rattle.c_model.specs.Machine.{Machine}
use Rattle.c_model.specs.ModelMachine.{nodes, is_control, done_in, ready_in, beside_in}
use Rattle.c_model.specs.ChoiceLaws.{IsClosed, due_now, before_now}
use Rattle.c_model.proofs.Ranks.{lt_lt, rank_in, before_rank}
use Rattle.c_model.proofs.Closed.{found_before}
use Rattle.c_model.proofs.Listed.{same_place_itself}
use Rattle.c_model.proofs.FramesKeep.{next_of, due_lt, ready_b}
use Rattle.machine_laws.specs.Orders as orders
use Rattle.machine_laws.specs.Orders.{Quiet, QuietWith, HeldQuiet, NoneBeside, Alone, AllAlone, then_past}
use Rattle.order_laws.specs.StoreParts.{Part, Seen, Fact}
use Rattle.order_laws.specs.ProgramTells.{told_machine, told_ends}
use Rattle.order_laws.specs.PermittedPicks.{ClosedIn}
use Rattle.order_laws.proofs.ProgramTold.{any_told}
use Rattle.order_laws.proofs.Permitted.{and_l, and_r, and_b, or_cases, not_of, none_is, first_none, first_some, of_due, to_due}
use Rattle.order_laws.proofs.Traces.{pick_place, body_place, path_is, accesses_conflict, has_cases, IsNewest, both_cases, conflict_swap, Event, Held, AllDone}
use Rattle.order_laws.proofs.TraceItems.{left_free}
use Rattle.order_laws.proofs.QuietFrames.{left_pick, ready_begun}
use Rattle.order_laws.proofs.OpenFrames.{Grows, StaysSame, grows_or_not, same_items, Among, among_first, among_later, Paired, paired_first, paired_later}
use Rattle.order_laws.proofs.OpenFrames.{one_frame, waiting, Matches, StoodAt, AllStood, AllSeen, HeldFrame, HeldOk}

-- no event of the trace ends the run
abbrev pub Endless : List Entry → Type 0
Endless [] = Unit {0}
Endless (e ∷ es) = (has_ending e.items ≡ false) × Endless es

ending_joined : (is js : List Item) → has_ending is ≡ false → has_ending js ≡ false → has_ending (is ++ js) ≡ false
ending_joined [] js h k = k
ending_joined (Ending ∷ is) js h k = absurd (cc)
ending_joined (_ ∷ is) js h k = ending_joined is js h k

endless_under : (q : Path) (es : List Entry) → Endless es → has_ending (items_under q es) ≡ false
endless_under q [] h = refl
endless_under q (e ∷ es) (h, hs) = ending_joined (if is_under e.path q then e.items else []) (items_under q es) (go (is_under e.path q))
    (endless_under q es hs)
  where
    go : (b : Bool) → has_ending (if b then e.items else []) ≡ false
    go true = h
    go false = refl

endless_of : (es : List Entry) (e : Entry) (u : Place) → Has es e u → Endless es → has_ending e.items ≡ false
endless_of _ e u (first _ es _ p) (h, hs) = h
endless_of _ e u (later d _ es _ a) (h, hs) = endless_of es e u a hs

pub endless_items : (trace : List Entry) (e : Entry) (u : Place) → Has trace e u → Endless trace → has_ending (items_of trace e u) ≡ false
endless_items trace e u h n = ending_joined e.items _ (endless_of trace e u h n) (go (is_body u.kind))
  where
    go : (b : Bool) → has_ending (if b then items_under ((e.turn, u.node) ∷ e.path) trace else []) ≡ false
    go true = endless_under ((e.turn, u.node) ∷ e.path) trace n
    go false = refl

touch_goes_on : (t : Touch) (is : List Item) → has_ending is ≡ false → has_ending (item_of t ∷ is) ≡ false
touch_goes_on (Ask x) is h = h
touch_goes_on (Get x a n) is h = h
touch_goes_on (Put x a bs) is h = h
touch_goes_on (Bear x size kind declared) is h = h
touch_goes_on (Bury x) is h = h
touch_goes_on (Show x) is h = h
touch_goes_on (Find a) is h = h
touch_goes_on (Settle id x c) is h = h
touch_goes_on Take is h = h
touch_goes_on (Print to bs) is h = h

-- an order's trace in which no two events of a full expression conflict where neither is before the other
abbrev pub ConflictFree : World → List Entry → Type 0
ConflictFree world trace = (d e : Entry) (u v : Place) → Both trace d u e v → AreApart d.begun u v
    → conflict world.rows (items_of trace d u) (items_of trace e v) ≡ false

-- nor does an event end the run beside another
abbrev pub EndsApart : List Entry → Type 0
EndsApart trace = (d : Entry) (u v : Place) → EndQuarrel trace d u v → ⊥

pub endless_apart : (trace : List Entry) → Endless trace → EndsApart trace
endless_apart trace n d u v q = true≢false (sym q.ends ∙ endless_items trace d u q.here n)

module _ (world : World) where
  abbrev M : Machine (Local × ℕ) Pick Value Store Item Part Seen Fact
  M = told_machine world

  abbrev E : Local × ℕ → Pick → Store → Option (orders.Stopped ℕ Store Item)
  E = told_ends world

  -- an act that gives a value doesn't end the run
  pub run_goes_on : {V : Type 0} → (sc : Script V) (s : Store) (v : V) (is : List Item) (s1 : Store) → run world.rows sc s ≡ Done v is s1
      → has_ending is ≡ false
  run_goes_on (Give w) s v is s1 h = (let e : [] ≡ is = cc in subst (λ z. has_ending z ≡ false) e refl)
  run_goes_on (Raise c) s v is s1 h = absurd (cc)
  run_goes_on (Exceed c m) s v is s1 h = absurd (cc)
  run_goes_on Misplace s v is s1 h = absurd (cc)
  run_goes_on (Finish m) s v is s1 h = absurd (cc)
  run_goes_on (Do t k) s v is s1 h =
      let st = stepped (refuses t s) t (item_of t) (run world.rows (k (answer world.rows t s)) (left t s)) (gives_value v) is s1 h in
      subst (λ z. has_ending z ≡ false) (sym st.items) (touch_goes_on t st.rest (run_goes_on (k (answer world.rows t s)) (left t s) v st.rest s1 st.done))

  swap_free : (is js : List Item) → conflict world.rows is js ≡ false → conflict world.rows js is ≡ false
  swap_free is js h = go (conflict world.rows js is) refl
    where
      go : (b : Bool) → conflict world.rows js is ≡ b → conflict world.rows js is ≡ false
      go false e = e
      go true e = absurd (true≢false (sym (conflict_swap world.rows js is e) ∙ h))

  -- an event that is beside one that was done
  pub is_beside : (f : Local) (o : Option Begun) (u v : Place) → ready_in world f.scene o (Ev u) ≡ true → ClosedIn world f o → done_in o (Ev v) ≡ true
      → AreApart (begun_of world f o) u v
      → beside_in world f.scene o (Ev v) (Ev u) ≡ true
  is_beside f None u v r c d a = absurd (cc)
  is_beside f (Some e) u v r c d a =
      let n = next_of world f.scene e u r in
      let dv = (c v (and_l (is_some (e.given v)) _ d)).due in
      both (before_now world f.scene e v u) (before_now world f.scene e u v)
      (λ b. a.not_after (found_before (tree_of e.root) (taken_by world f.scene e) v u (of_due world f.scene e v dv) (of_due world f.scene e u n.due) b))
      (λ b. a.not_before (found_before (tree_of e.root) (taken_by world f.scene e) u v (of_due world f.scene e u n.due) (of_due world f.scene e v dv) b))
    where
      both : (b c : Bool) → (b ≡ true → ⊥) → (c ≡ true → ⊥) → (not b && not c) ≡ true
      both false false h k = refl
      both true c h k = absurd (h refl)
      both false true h k = absurd (k refl)

  -- of events that don't conflict, the items that the trace has of them don't
  module _ (trace : List Entry) (d e : Entry) (u v : Place) (apart : AreApart d.begun u v) where
    with_among : (a : Event) (all es : List Event) → StoodAt world a all → Matches world trace u d a → Among (Matches world trace v e) es
        → AllDone a.frame.0.begun es → QuietWith M E a es
        → conflict world.rows (items_of trace d u) (items_of trace e v) ≡ false
    with_among a all _ st m (among_later x es am) (dn, ds) (q, qs) = with_among a all es st m am ds qs
    with_among a all _ st m (among_first x es n) (dn, ds) (q, qs) =
        let f = a.frame.0 in
        let ru = subst (λ z. ready_in world f.scene f.begun z ≡ true) (sym st.pick ∙ m.pick) st.ready in
        let dv = subst (λ z. done_in f.begun z ≡ true) n.pick dn in
        let be = is_beside f f.begun u v ru st.closed dv (subst (λ z. AreApart z u v) m.stood apart) in
        let be2 = subst (λ z. beside_in world f.scene f.begun z a.pick ≡ true) (sym n.pick)
        (subst (λ z. beside_in world f.scene f.begun (Ev v) z ≡ true) (sym m.pick) be) in
        let fr : conflict world.rows x.items a.items ≡ false = sym (any_told world x.items a.items) ∙ q be2 in
        m.items (items_of trace e v) (swap_free (items_of trace e v) a.items (n.items a.items fr))

    pub quiet_pair : (es : List Event) → Paired (Matches world trace u d) (Matches world trace v e) es → Quiet M E es → AllStood world es
        → conflict world.rows (items_of trace d u) (items_of trace e v) ≡ false
    quiet_pair _ (paired_later a es p) (q, qs) (s, ss) = quiet_pair es p qs ss
    quiet_pair _ (paired_first a es m am) (q, qs) (s, ss) = with_among a es es s m am s.done q

  -- what is said of each body that waits
  abbrev pub AllHeld : (Held → Type 0) → List Held → Type 0
  AllHeld P [] = Unit {0}
  AllHeld P (h ∷ hs) = P h × AllHeld P hs

  pub each_quiet : (hs : List Held) → HeldQuiet M E hs → AllHeld (λ h. Quiet M E (then_past M E h.frame h.pick h.items h.past)) hs
  each_quiet [] q = tt
  each_quiet (h ∷ hs) (q, qs) = (q, each_quiet hs qs)

  pub each_alone : (hs : List Held) → AllAlone M E hs → AllHeld (λ h. Alone M E h.frame h.pick h.past) hs
  each_alone [] a = tt
  each_alone (h ∷ hs) (a, al) = (a, each_alone hs al)

  -- the frame in which a body on the way to the top waits
  pub record WaitsIn (P : Held → Type 0) (trace : List Entry) (d : Entry) (u : Place) : Type 0 where
    pub frame : Local
    pub below : List (Local × Place)
    pub held : Held
    pub way : Path
    pub ok : HeldFrame world trace frame u below held way
    pub said : P held
    pub of_path : frame.scene.path ≡ d.path
    pub of_turn : frame.scene.turn ≡ d.turn

  body_is : (u b : Place) → is_body u.kind ≡ true → b ≡ place b.node Body → b.node ≡ u.node → b ≡ u
  body_is u b k w n = w ∙ (ap (λ z. place z Body) n ∙ sym (body_place u k))

  pub find_held : (P : Held → Type 0) (trace : List Entry) (ms : List (Local × Place)) (hs : List Held) (path : Path) → HeldOk world trace ms hs path
      → AllHeld P hs → (d : Entry) (u : Place) → Grows path d u → WaitsIn P trace d u
  find_held P trace [] [] path ok all d u g = absurd (true≢false (sym g.1 ∙ ap (λ z. is_under z ((d.turn, u.node) ∷ d.path)) ok))
  find_held P trace [] (h ∷ hs) path ok all d u g = absurd ok
  find_held P trace (m ∷ ms) [] path ok all d u g = absurd ok
  find_held P trace (m ∷ ms) (h ∷ hs) path (hf, ok) (p, ps) d u g =
      elim (or_cases (same_path top target) (is_under m.0.scene.path target) (subst (λ z. is_under z target ≡ true) hf.way g.1)) [
        | inl s ↦ here (path_is top target s)
        | inr k ↦ find_held P trace ms hs m.0.scene.path ok ps d u (g.0, k)
      ]
    where
      top : Path
      top = (m.0.scene.turn, m.1.node) ∷ m.0.scene.path

      target : Path
      target = (d.turn, u.node) ∷ d.path

      parts : (a b : ℕ × ℕ) (p q : Path) → a ∷ p ≡ b ∷ q → (a ≡ b) × (p ≡ q)
      parts a b p q e = (cc, cc)

      here : top ≡ target → WaitsIn P trace d u
      here e =
          (let q = parts (m.0.scene.turn, m.1.node) (d.turn, u.node) m.0.scene.path d.path e in
          record {
            frame = m.0;
            below = ms;
            held = h;
            way = path;
            ok = subst (λ z. HeldFrame world trace m.0 z ms h path) (body_is u m.1 g.0 hf.body (ap (λ z. z.1) q.0)) hf;
            said = p;
            of_path = q.1;
            of_turn = ap (λ z. z.0) q.0;
          })

  -- the two of a pair of which one is a body that waits are in its full expression
  waits_pair : (P : Held → Type 0) (trace : List Entry) (ms : List (Local × Place)) (hs : List Held) (path : Path) → HeldOk world trace ms hs path
      → AllHeld P hs → (d e : Entry) (u v : Place) → Both trace d u e v
      → Grows path d u ⊎ Grows path e v
      → (b : Place) × ((b ≡ u) ⊎ (b ≡ v)) × ((w : WaitsIn P trace d b)
      × Paired (Matches world trace u d) (Matches world trace v e) (waiting w.held ∷ w.held.past))
  waits_pair P trace ms hs path ok all d e u v bo (inl g) =
      let w = find_held P trace ms hs path ok all d u g in
      (u, inl refl, (w, w.ok.ok.pairs d e u v bo w.of_path w.of_turn (ready_begun world w.frame.begun w.frame.scene u w.ok.ready)))
  waits_pair P trace ms hs path ok all d e u v bo (inr g) =
      let o = one_frame trace d u e v bo in
      let w = find_held P trace ms hs path ok all e v g in
      let w2 : WaitsIn P trace d v = record {
        frame = w.frame;
        below = w.below;
        held = w.held;
        way = w.way;
        ok = w.ok;
        said = w.said;
        of_path = w.of_path ∙ sym o.0;
        of_turn = w.of_turn ∙ sym o.1;
      } in
      (v, inr refl, (w2, w2.ok.ok.pairs d e u v bo w2.of_path w2.of_turn (ready_begun world w2.frame.begun w2.frame.scene v w2.ok.ready)))

  pub held_pair : (trace : List Entry) (ms : List (Local × Place)) (hs : List Held) (path : Path) → HeldOk world trace ms hs path → HeldQuiet M E hs
      → (d e : Entry) (u v : Place) → Both trace d u e v → AreApart d.begun u v
      → Grows path d u ⊎ Grows path e v → conflict world.rows (items_of trace d u) (items_of trace e v) ≡ false
  held_pair trace ms hs path ok q d e u v bo apart g =
      let w = waits_pair (λ h. Quiet M E (then_past M E h.frame h.pick h.items h.past)) trace ms hs path ok (each_quiet hs q) d e u v bo g in
      let i = w.2.0 in
      quiet_pair trace d e u v apart (waiting i.held ∷ i.held.past) w.2.1
      (subst (λ z. Quiet M E (orders.with_pick (is_control z) (waiting i.held) i.held.past)) i.ok.pick i.said) i.ok.stood

  -- so with one more entry
  pub free_next : (x : Entry) (trace : List Entry) (ms : List (Local × Place)) (hs : List Held) → HeldOk world (x ∷ trace) ms hs x.path → HeldQuiet M E hs
      → ConflictFree world trace
      → ((e : Entry) (u v : Place) → IsNewest x trace x u e v → AreApart x.begun u v
      → conflict world.rows (items_of (x ∷ trace) x u) (items_of (x ∷ trace) e v) ≡ false) → ConflictFree world (x ∷ trace)
  free_next x trace ms hs ok q free fresh d e u v bo apart = go (both_cases x trace d u e v bo)
    where
      old : Both trace d u e v → Grows x.path d u ⊎ StaysSame x.path d u → Grows x.path e v ⊎ StaysSame x.path e v
          → conflict world.rows (items_of (x ∷ trace) d u) (items_of (x ∷ trace) e v) ≡ false
      old b (inl g) k = held_pair (x ∷ trace) ms hs x.path ok q d e u v bo apart (inl g)
      old b (inr n) (inl g) = held_pair (x ∷ trace) ms hs x.path ok q d e u v bo apart (inr g)
      old b (inr n) (inr k) = ap₂ (conflict world.rows) (same_items trace x d u n) (same_items trace x e v k) ∙ free d e u v b apart

      go : IsNewest x trace d u e v ⊎ Both trace d u e v → conflict world.rows (items_of (x ∷ trace) d u) (items_of (x ∷ trace) e v) ≡ false
      go (inr b) = old b (grows_or_not x.path d u) (grows_or_not x.path e v)
      go (inl n) =
          subst (λ z. conflict world.rows (items_of (x ∷ trace) z u) (items_of (x ∷ trace) e v) ≡ false) n.entry
          (fresh e u v (record { entry = refl; at = n.at; among = n.among; of_frame = n.of_frame; of_turn = n.of_turn })
          (subst (λ z. AreApart z.begun u v) (sym n.entry) apart))

  -- of a due event that isn't done one at it or before it is ready
  abbrev Pending : Scene → Begun → Place → Type 0
  Pending f e v =
      due_now world f e v ≡ true → is_some (e.given v) ≡ false
      → (w : Place) × (ready_in world f (Some e) (Ev w) ≡ true) × ((w ≡ v) ⊎ Before (tree_of e.root) (taken_by world f e) w v)

  pending_ready : (f : Scene) (e : Begun) → IsClosed world f e → (n : ℕ) (v : Place) → rank_in 0 0 (tree_of e.root) v < n → Pending f e v
  pending_ready f e closed zero v l d g = absurd (omega (arith, l))
  pending_ready f e closed (suc n) v l d g = go (first_place test (events T 0 root)) refl (λ z k. pending_ready f e closed n z (omega (arith, k, l)))
    where
      root : Tree
      root = tree_of e.root

      T : Taken
      T = taken_by world f e

      test : Place → Bool
      test z = before_now world f e z v && not (is_some (e.given z))

      done_by : (a b : Bool) → a ≡ true → (a && not b) ≡ false → b ≡ true
      done_by true true h k = refl
      done_by true false h k = absurd (cc)
      done_by false b h k = absurd (cc)

      go : (o : Option Place) → first_place test (events T 0 root) ≡ o → ((z : Place) → rank_in 0 0 root z < rank_in 0 0 root v → Pending f e z)
          → (w : Place) × (ready_in world f (Some e) (Ev w) ≡ true) × ((w ≡ v) ⊎ Before root T w v)
      go None h again = (
        v,
        ready_b world f e v (record {
          due = d;
          left = none_is (e.given v) g;
          earlier = λ z dz b. done_by (before_now world f e z v) (is_some (e.given z)) b (first_none test (events T 0 root) z h (of_due world f e z dz));
        }) (λ z zl zg. closed z zg),
        inl refl,
      )
      go (Some z) h again =
          (let s = first_some test (events T 0 root) z h in
          let b = found_before root T z v s.1 (of_due world f e v d) (and_l (before_now world f e z v) _ s.0) in
          let k = before_rank root T z v b in
          let r = again z k (to_due world f e z s.1) (not_of (is_some (e.given z)) (and_r (before_now world f e z v) _ s.0)) in
          (r.0, r.1, inr (joined r.0 r.2 b)))
        where
          joined : (w : Place) → (w ≡ z) ⊎ Before root T w z → Before root T z v → Before root T w v
          joined w (inl q) b = subst (λ y. Before root T y v) (sym q) b
          joined w (inr a) b = chain w z v a b

  none_beside_one : (f : Local) (d : ℕ) (u v : Place) (es : List Event) → Among (λ y. y.pick ≡ Ev v) es → NoneBeside M E (f, d) (Ev u) es
      → beside_in world f.scene f.begun (Ev v) (Ev u) ≡ true → ⊥
  none_beside_one f d u v _ (among_later x es a) (q, qs) b = none_beside_one f d u v es a qs b
  none_beside_one f d u v _ (among_first x es p) (q, qs) b = true≢false (sym (subst (λ z. beside_in world f.scene f.begun z (Ev u) ≡ true) (sym p) b) ∙ q)

  -- nothing that is due is beside an event that stands alone
  pub lone_due : (f : Local) (d : ℕ) (u v : Place) (es : List Event) (o : Option Begun) → f.begun ≡ o → ready_in world f.scene o (Ev u) ≡ true
      → ClosedIn world f o → AllSeen world o es → Alone M E (f, d) (Ev u) es
      → is_due_in (begun_of world f o) v ≡ true → same_place u v ≡ false → AreApart (begun_of world f o) u v → ⊥
  lone_due f d u v es None fb r c seen al due other ap = cc (r)
  lone_due f d u v es (Some e) fb r c seen al due other apart = go (is_some (e.given v)) refl
    where
      dv : due_now world f.scene e v ≡ true
      dv = to_due world f.scene e v due

      in_tree : nat_lt v.node (nodes e) ≡ true
      in_tree = lt_lt v.node (nodes e) (let k = due_lt (taken_by world f.scene e) (tree_of e.root) 0 v dv in omega (arith, k))

      go : (b : Bool) → is_some (e.given v) ≡ b → ⊥
      go true g =
          none_beside_one f d u v es (seen v g) al.none_beside
          (subst (λ z. beside_in world f.scene z (Ev v) (Ev u) ≡ true) (sym fb) (is_beside f (Some e) u v r c (and_b _ _ g in_tree) apart))
      go false g =
          (let p = pending_ready f.scene e c (suc (rank_in 0 0 (tree_of e.root) v)) v (omega arith) dv g in
          let wu = pick_place p.0 u (al.only (Ev p.0) (subst (λ z. ready_in world f.scene z (Ev p.0) ≡ true) (sym fb) p.1)) in
          late p.0 wu p.2)
        where
          late : (w : Place) → w ≡ u → (w ≡ v) ⊎ Before (tree_of e.root) (taken_by world f.scene e) w v → ⊥
          late w wu (inl q) = true≢false (sym (subst (λ z. same_place u z ≡ true) (sym wu ∙ q) (same_place_itself u)) ∙ other)
          late w wu (inr b) = apart.not_before (subst (λ z. Before (tree_of e.root) (taken_by world f.scene e) z v) wu b)

  -- where the run ends inside bodies that wait, no event of a pair with one of them is apart from it, nor is one that is due
  pub among_done : (l : Local) (trace : List Entry) (v : Place) (e : Entry) (es : List Event) → Among (Matches world trace v e) es → AllDone l.begun es
      → done_in l.begun (Ev v) ≡ true
  among_done l trace v e _ (among_first x es m) (dn, ds) = subst (λ z. done_in l.begun z ≡ true) m.pick dn
  among_done l trace v e _ (among_later x es a) (dn, ds) = among_done l trace v e es a ds

  among_pick : (trace : List Entry) (v : Place) (e : Entry) (es : List Event) → Among (Matches world trace v e) es → Among (λ y. y.pick ≡ Ev v) es
  among_pick trace v e _ (among_first x es m) = among_first x es m.pick
  among_pick trace v e _ (among_later x es a) = among_later x es (among_pick trace v e es a)

  both_among : (P Q : Event → Type 0) (es : List Event) → Paired P Q es → Among P es × Among Q es
  both_among P Q _ (paired_first x es p a) = (among_first x es p, among_later x es a)
  both_among P Q _ (paired_later x es p) = (let r = both_among P Q es p in (among_later x es r.0, among_later x es r.1))

  -- an event that stands alone is beside none that was done
  pub lone_pair : (trace : List Entry) (f : Local) (d : ℕ) (u v : Place) (e : Entry) (es : List Event) → ready_in world f.scene f.begun (Ev u) ≡ true
      → ClosedIn world f f.begun → AllDone f.begun es
      → NoneBeside M E (f, d) (Ev u) es → Among (Matches world trace v e) es → AreApart (begun_of world f f.begun) u v → ⊥
  lone_pair trace f d u v e es r c dn none am apart =
      none_beside_one f d u v es (among_pick trace v e es am) none (is_beside f f.begun u v r c (among_done f trace v e es am dn) apart)

  abbrev LoneHeld : Held → Type 0
  LoneHeld h = Alone M E h.frame h.pick h.past

  -- that of a frame below the top, by its own name
  lone_held : (trace : List Entry) (l : Local) (u : Place) (ms : List (Local × Place)) (h : Held) (way : Path) → HeldFrame world trace l u ms h way
      → LoneHeld h → Alone M E (l, depth_of l ms) (Ev u) h.past
  lone_held trace l u ms h way hf al = subst (λ z. Alone M E z (Ev u) h.past) hf.frame (subst (λ z. Alone M E h.frame z h.past) hf.pick al)

  held_stood : (trace : List Entry) (l : Local) (b : Place) (ms : List (Local × Place)) (h : Held) (way : Path) (d : Entry) (u : Place)
      → HeldFrame world trace l b ms h way → Matches world trace u d (waiting h)
      → d.begun ≡ begun_of world l l.begun
  held_stood trace l b ms h way d u hf m = m.stood ∙ ap (λ z. begun_of world z.0 z.0.begun) hf.frame

  pub held_pair_ends : (trace : List Entry) (ms : List (Local × Place)) (hs : List Held) (path : Path) → HeldOk world trace ms hs path → AllAlone M E hs
      → (d e : Entry) (u v : Place) → Both trace d u e v → AreApart d.begun u v
      → Grows path d u ⊎ Grows path e v → ⊥
  held_pair_ends trace ms hs path ok al d e u v bo apart g =
      let w = waits_pair LoneHeld trace ms hs path ok (each_alone hs al) d e u v bo g in
      go w.0 w.1 w.2.0 w.2.1
    where
      again : (b : Place) (i : WaitsIn LoneHeld trace d b) → (b ≡ u) ⊎ (b ≡ v) → Among (Matches world trace u d) i.held.past
          → Among (Matches world trace v e) i.held.past → ⊥
      again b i (inl q) p a = left_pick world i.frame.begun i.frame.scene b i.ok.ready
          (subst (λ z. done_in i.frame.begun (Ev z) ≡ true) (sym q) (among_done i.frame trace u d i.held.past p i.ok.done))
      again b i (inr q) p a = left_pick world i.frame.begun i.frame.scene b i.ok.ready
          (subst (λ z. done_in i.frame.begun (Ev z) ≡ true) (sym q) (among_done i.frame trace v e i.held.past a i.ok.done))

      go : (b : Place) → (b ≡ u) ⊎ (b ≡ v) → (i : WaitsIn LoneHeld trace d b)
          → Paired (Matches world trace u d) (Matches world trace v e) (waiting i.held ∷ i.held.past) → ⊥
      go b q i (paired_later _ _ p) = (let r = both_among _ _ i.held.past p in again b i q r.0 r.1)
      go b q i (paired_first _ _ m am) =
          (let bu = pick_place b u (sym i.ok.pick ∙ m.pick) in
          let l = lone_held trace i.frame b i.below i.held i.way i.ok i.said in
          lone_pair trace i.frame (depth_of i.frame i.below) b v e i.held.past i.ok.ready i.ok.closed i.ok.done l.none_beside am
          (subst (λ z. AreApart (begun_of world i.frame i.frame.begun) z v) (sym bu)
          (subst (λ z. AreApart z u v) (held_stood trace i.frame b i.below i.held i.way d u i.ok m) apart)))

  pub held_due_ends : (trace : List Entry) (ms : List (Local × Place)) (hs : List Held) (path : Path) → HeldOk world trace ms hs path → AllAlone M E hs
      → (d : Entry) (u v : Place) → Has trace d u → Grows path d u
      → is_due_in d.begun v ≡ true → same_place u v ≡ false → AreApart d.begun u v → ⊥
  held_due_ends trace ms hs path ok al d u v hs' g due other apart =
      let i = find_held LoneHeld trace ms hs path ok (each_alone hs al) d u g in
      go i (i.ok.ok.covers d u hs' i.of_path i.of_turn (ready_begun world i.frame.begun i.frame.scene u i.ok.ready))
    where
      go : (i : WaitsIn LoneHeld trace d u) → Among (Matches world trace u d) (waiting i.held ∷ i.held.past) → ⊥
      go i (among_later _ _ a) = left_pick world i.frame.begun i.frame.scene u i.ok.ready (among_done i.frame trace u d i.held.past a i.ok.done)
      go i (among_first _ _ m) =
          (let s = held_stood trace i.frame u i.below i.held i.way d u i.ok m in
          lone_due i.frame (depth_of i.frame i.below) u v i.held.past i.frame.begun refl i.ok.ready i.ok.closed i.ok.seen
          (lone_held trace i.frame u i.below i.held i.way i.ok i.said)
          (subst (λ z. is_due_in z v ≡ true) s due) other (subst (λ z. AreApart z u v) s apart))

  -- where a pick ends the run, alone as the bodies that wait
  module _ (x : Entry) (trace : List Entry) (ms : List (Local × Place)) (hs : List Held) (held : HeldOk world trace ms hs x.path) (all : AllAlone M E hs) where
    pub end_free : ConflictFree world trace → ((e : Entry) (u v : Place) → IsNewest x trace x u e v → AreApart x.begun u v → ⊥) →
        ConflictFree world (x ∷ trace)
    end_free free fresh d e u v bo apart = go (both_cases x trace d u e v bo)
      where
        old : Both trace d u e v → Grows x.path d u ⊎ StaysSame x.path d u → Grows x.path e v ⊎ StaysSame x.path e v
            → conflict world.rows (items_of (x ∷ trace) d u) (items_of (x ∷ trace) e v) ≡ false
        old b (inl g) k = absurd (held_pair_ends trace ms hs x.path held all d e u v b apart (inl g))
        old b (inr n) (inl g) = absurd (held_pair_ends trace ms hs x.path held all d e u v b apart (inr g))
        old b (inr n) (inr k) = ap₂ (conflict world.rows) (same_items trace x d u n) (same_items trace x e v k) ∙ free d e u v b apart

        go : IsNewest x trace d u e v ⊎ Both trace d u e v → conflict world.rows (items_of (x ∷ trace) d u) (items_of (x ∷ trace) e v) ≡ false
        go (inr b) = old b (grows_or_not x.path d u) (grows_or_not x.path e v)
        go (inl n) =
            absurd (fresh e u v (record { entry = refl; at = n.at; among = n.among; of_frame = n.of_frame; of_turn = n.of_turn })
            (subst (λ z. AreApart z.begun u v) (sym n.entry) apart))

    pub end_apart : Endless trace → ((u v : Place) → x.place ≡ Some u → is_due_in x.begun v ≡ true → same_place u v ≡ false → AreApart x.begun u v → ⊥)
        → EndsApart (x ∷ trace)
    end_apart endless fresh d u v q = go (has_cases x trace d u q.here)
      where
        older_end : Has trace d u → Grows x.path d u ⊎ StaysSame x.path d u → ⊥
        older_end h (inl g) = held_due_ends trace ms hs x.path held all d u v h g q.due q.other q.apart
        older_end h (inr n) = true≢false (sym q.ends ∙ (ap has_ending (same_items trace x d u n) ∙ endless_items trace d u h endless))

        go : ((x ≡ d) × (x.place ≡ Some u)) ⊎ Has trace d u → ⊥
        go (inr h) = older_end h (grows_or_not x.path d u)
        go (inl k) = fresh u v k.1 (subst (λ z. is_due_in z.begun v ≡ true) (sym k.0) q.due) q.other (subst (λ z. AreApart z.begun u v) (sym k.0) q.apart)

  -- so there is no race and no quarrel
  own_items : (trace : List Entry) (d e : Entry) (u v : Place) → conflict world.rows (items_of trace d u) (items_of trace e v) ≡ false
      → conflict world.rows d.items e.items ≡ false
  own_items trace d e u v h =
      swap_free e.items d.items (left_free world.rows e.items _ d.items
      (swap_free d.items (items_of trace e v) (left_free world.rows d.items _ (items_of trace e v) h)))

  pub no_race : (trace : List Entry) → ConflictFree world trace → (d e : Entry) (u v : Place) → Race world trace d u e v → ⊥
  no_race trace free d e u v r = true≢false
      (sym (accesses_conflict world.rows d.items e.items r.clash) ∙ own_items trace d e u v (free d e u v r.both r.apart))

  pub no_quarrel : (trace : List Entry) → ConflictFree world trace → (d e : Entry) (u v : Place) → Quarrel world trace d u e v → ⊥
  no_quarrel trace free d e u v q = true≢false (sym q.clash ∙ free d e u v q.both q.apart)
