-- What a trace tells of the frames that are open: the events of the full expressions that have begun, in their order, with all their items.
use Rattle.std.proofs.Common.{◌≡◌, ℕ, suc, ◌<◌, ◌≤◌, Bool, true, false, ◌&&◌, ◌||◌, if◌then◌else◌, List, [], ◌∷◌, ◌++◌, length, Option, Some, None}
use Rattle.std.proofs.Common.{is_some, refl, sym, ap, ◌∙◌, subst, ◌⊎◌, inl, inr, arith}
use Rattle.ub_base.specs.Frames.{Path}
use Rattle.ub_base.specs.declared.clause.Kind.TheVariants.{Body}
use Rattle.ub_base.specs.declared.names.Item.{Item}
use Rattle.addr_map.specs.declared.map.Row.{Row}
use Rattle.addr_map.specs.Conflict.{some_conflict as conflict}
use Rattle.c_typed.specs.declared.tree.Place.{Place}
use Rattle.c_typed.specs.Order.{place, is_body}
use Rattle.c_model.specs.World.{World}
use Rattle.c_model.specs.Steps.{Local, Begun, Ev}
use Rattle.c_model.specs.Runs.{Entry, depth_of, begun_of}
use Rattle.c_model.specs.Findings.{same_path, is_under, items_under, items_of, Has, first, later, Both, newest, older}
use Rattle.c_model.specs.ModelMachine.{done_in, ready_in}
use Rattle.machine_laws.specs.Orders as orders
use Rattle.order_laws.specs.PermittedPicks.{ClosedIn}
use Rattle.order_laws.proofs.Permitted.{or_cases}
use Rattle.order_laws.proofs.Traces.{place_is, body_place, path_is, has_cases, IsNewest, both_cases, given_in, Event, Held, AllDone, Moved}
use Rattle.order_laws.proofs.TraceItems.{Sub, joined_free, left_free, right_free}
use Rattle.order_laws.proofs.QuietFrames.{left_pick, under_tail}

-- paths that one path is under
pub not_under : (p q : Path) → length p < length q → is_under p q ≡ false
not_under [] q l = go (same_path [] q) refl
  where
    go : (b : Bool) → same_path [] q ≡ b → same_path [] q ≡ false
    go false e = e
    go true e = (let k = ap length (path_is [] q e) in absurd (omega (arith, k, l)))
not_under (a ∷ p) q l = go (same_path (a ∷ p) q) refl (not_under p q (omega (arith, l)))
  where
    go : (b : Bool) → same_path (a ∷ p) q ≡ b → is_under p q ≡ false → (b || is_under p q) ≡ false
    go false e again = again
    go true e again = (let k = ap length (path_is (a ∷ p) q e) in absurd (omega (arith, k, l)))

pub under_length : (p q : Path) → is_under p q ≡ true → length q ≤ length p
under_length [] q h = (let k = ap length (path_is [] q h) in omega (arith, k))
under_length (a ∷ p) q h = go (or_cases (same_path (a ∷ p) q) (is_under p q) h) (under_length p q)
  where
    go : (same_path (a ∷ p) q ≡ true) ⊎ (is_under p q ≡ true) → (is_under p q ≡ true → length q ≤ length p) → length q ≤ length (a ∷ p)
    go (inl s) again = (let k = ap length (path_is (a ∷ p) q s) in omega (arith, k))
    go (inr u) again = (let k = again u in omega (arith, k))

pub under_same : (p q r : Path) → is_under p q ≡ true → is_under p r ≡ true → length q ≡ length r → q ≡ r
under_same [] q r h k l = sym (path_is [] q h) ∙ path_is [] r k
under_same (a ∷ p) q r h k l = go (or_cases (same_path (a ∷ p) q) (is_under p q) h) (or_cases (same_path (a ∷ p) r) (is_under p r) k)
    (λ s t. under_same p q r s t l)
  where
    go : (same_path (a ∷ p) q ≡ true) ⊎ (is_under p q ≡ true) → (same_path (a ∷ p) r ≡ true) ⊎ (is_under p r ≡ true)
        → (is_under p q ≡ true → is_under p r ≡ true → q ≡ r) → q ≡ r
    go (inl s) (inl t) again = sym (path_is (a ∷ p) q s) ∙ path_is (a ∷ p) r t
    go (inr s) (inr t) again = again s t
    go (inl s) (inr t) again = (let m = ap length (path_is (a ∷ p) q s) in let n = under_length p r t in absurd (omega (arith, m, n, l)))
    go (inr s) (inl t) again = (let m = ap length (path_is (a ∷ p) r t) in let n = under_length p q s in absurd (omega (arith, m, n, l)))

-- the pick of the entry gives items to the body of this event
abbrev pub Grows : Path → Entry → Place → Type 0
Grows p e u = (is_body u.kind ≡ true) × (is_under p ((e.turn, u.node) ∷ e.path) ≡ true)

abbrev pub StaysSame : Path → Entry → Place → Type 0
StaysSame p e u = (is_body u.kind && is_under p ((e.turn, u.node) ∷ e.path)) ≡ false

pub grows_or_not : (p : Path) (e : Entry) (u : Place) → Grows p e u ⊎ StaysSame p e u
grows_or_not p e u = go (is_body u.kind) (is_under p ((e.turn, u.node) ∷ e.path))
  where
    go : (a b : Bool) → ((a ≡ true) × (b ≡ true)) ⊎ ((a && b) ≡ false)
    go true true = inl (refl, refl)
    go true false = inr refl
    go false b = inr refl

pub same_items : (trace : List Entry) (x e : Entry) (u : Place) → StaysSame x.path e u → items_of (x ∷ trace) e u ≡ items_of trace e u
same_items trace x e u h = go (is_body u.kind) (is_under x.path ((e.turn, u.node) ∷ e.path)) refl h
  where
    q : Path
    q = (e.turn, u.node) ∷ e.path

    go : (a b : Bool) → is_under x.path q ≡ b → (a && b) ≡ false → e.items ++ (if a then items_under q (x ∷ trace) else []) ≡ e.items ++
        (if a then items_under q trace else [])
    go true false k n = ap (λ c. e.items ++ ((if c then x.items else []) ++ items_under q trace)) k
    go true true k n = absurd (cc)
    go false b k n = refl

module _ (rows : List Row) where
  -- a longer trace has at most the items of its entry more
  pub more_items : (trace : List Entry) (x e : Entry) (u : Place) (is : List Item) → Sub rows (items_of trace e u) is
      → Sub rows (items_of (x ∷ trace) e u) (is ++ x.items)
  more_items trace x e u is sub ks h = go (is_body u.kind) (sub ks (left_free rows is x.items ks h))
    where
      q : Path
      q = (e.turn, u.node) ∷ e.path

      new : (b : Bool) → conflict rows (if b then x.items else []) ks ≡ false
      new true = right_free rows is x.items ks h
      new false = refl

      go : (b : Bool) → conflict rows (e.items ++ (if b then items_under q trace else [])) ks ≡ false
          → conflict rows (e.items ++ (if b then items_under q (x ∷ trace) else [])) ks ≡ false
      go false k = k
      go true k =
          joined_free rows e.items _ ks (left_free rows e.items (items_under q trace) ks k)
          (joined_free rows (if is_under x.path q then x.items else []) (items_under q trace) ks (new (is_under x.path q))
          (right_free rows e.items (items_under q trace) ks k))

-- an event of a list, and two of them, the newer one first
pub data Among (P : Event → Type 0) : List Event → Type 0 where
  among_first : (d : Event) (es : List Event) → P d → Among P (d ∷ es)
  among_later : (d : Event) (es : List Event) → Among P es → Among P (d ∷ es)

pub data Paired (P Q : Event → Type 0) : List Event → Type 0 where
  paired_first : (d : Event) (es : List Event) → P d → Among Q es → Paired P Q (d ∷ es)
  paired_later : (d : Event) (es : List Event) → Paired P Q es → Paired P Q (d ∷ es)

-- where the events that are done go from the one to the other
among_map : (P Q : Event → Type 0) (o : Option Begun) (es : List Event) → ((d : Event) → done_in o d.pick ≡ true → P d → Q d) → Among P es → AllDone o es
    → Among Q es
among_map P Q o _ f (among_first x es p) (d, ds) = among_first x es (f x d p)
among_map P Q o _ f (among_later x es a) (d, ds) = among_later x es (among_map P Q o es f a ds)

paired_map : (P Q P' Q' : Event → Type 0) (o : Option Begun) (es : List Event) → ((d : Event) → done_in o d.pick ≡ true → P d → P' d)
    → ((d : Event) → done_in o d.pick ≡ true → Q d → Q' d)
    → Paired P Q es → AllDone o es → Paired P' Q' es
paired_map P Q P' Q' o _ f g (paired_first x es p a) (d, ds) = paired_first x es (f x d p) (among_map Q Q' o es g a ds)
paired_map P Q P' Q' o _ f g (paired_later x es a) (d, ds) = paired_later x es (paired_map P Q P' Q' o es f g a ds)

-- and the waiting body before them
among_held : (P Q : Event → Type 0) (o : Option Begun) (w w' : Event) (es : List Event) → (P w → Q w') → ((d : Event) → done_in o d.pick ≡ true → P d → Q d)
    → AllDone o es → Among P (w ∷ es) → Among Q (w' ∷ es)
among_held P Q o w w' es h f ds (among_first _ _ p) = among_first w' es (h p)
among_held P Q o w w' es h f ds (among_later _ _ a) = among_later w' es (among_map P Q o es f a ds)

paired_held : (P Q P' Q' : Event → Type 0) (o : Option Begun) (w w' : Event) (es : List Event) → (P w → P' w')
    → ((d : Event) → done_in o d.pick ≡ true → P d → P' d) → ((d : Event) → done_in o d.pick ≡ true → Q d → Q' d)
    → AllDone o es → Paired P Q (w ∷ es) → Paired P' Q' (w' ∷ es)
paired_held P Q P' Q' o w w' es h f g ds (paired_first _ _ p a) = paired_first w' es (h p) (among_map Q Q' o es g a ds)
paired_held P Q P' Q' o w w' es h f g ds (paired_later _ _ a) = paired_later w' es (paired_map P Q P' Q' o es f g a ds)

-- both entries of a pair stand in the trace, with one frame and turn
pub newer_of : (trace : List Entry) (d : Entry) (u : Place) (e : Entry) (v : Place) → Both trace d u e v → Has trace d u
newer_of _ d u e v (newest _ _ es _ _ p h s t) = first d es u p
newer_of _ d u e v (older c _ _ es _ _ b) = later c d es u (newer_of es d u e v b)

pub one_frame : (trace : List Entry) (d : Entry) (u : Place) (e : Entry) (v : Place) → Both trace d u e v → (d.path ≡ e.path) × (d.turn ≡ e.turn)
one_frame _ d u e v (newest _ _ es _ _ p h s t) = (path_is d.path e.path s, t)
one_frame _ d u e v (older c _ _ es _ _ b) = one_frame es d u e v b

abbrev pub waiting : Held → Event
waiting h = record { frame = h.frame; pick = h.pick; items = h.items }

module _ (world : World) where
  -- the event of the machine for an entry at this place: it was made in this frame, and has all items that the trace has of it
  pub record Matches (trace : List Entry) (v : Place) (e : Entry) (d : Event) : Type 0 where
    pub pick : d.pick ≡ Ev v
    pub stood : e.begun ≡ begun_of world d.frame.0 d.frame.0.begun
    pub items : Sub world.rows (items_of trace e v) d.items

  -- the events of a frame's full expression stand in the trace with the frame's path and turn, and none has a later turn
  pub record FrameOk (trace : List Entry) (f : Local) (es : List Event) : Type 0 where
    pub covers : (e : Entry) (v : Place) → Has trace e v → f.scene.path ≡ e.path → f.scene.turn ≡ e.turn → is_some f.begun ≡ true →
        Among (Matches trace v e) es
    pub pairs : (d e : Entry) (u v : Place) → Both trace d u e v → f.scene.path ≡ d.path → f.scene.turn ≡ d.turn → is_some f.begun ≡ true
        → Paired (Matches trace u d) (Matches trace v e) es
    pub old : (e : Entry) (v : Place) → Has trace e v → f.scene.path ≡ e.path → e.turn ≤ f.scene.turn

  -- each event was ready in its frame, where all that was done was reached, and the events before it are done
  pub record StoodAt (d : Event) (es : List Event) : Type 0 where
    pub at : Place
    pub pick : d.pick ≡ Ev at
    pub ready : ready_in world d.frame.0.scene d.frame.0.begun (Ev at) ≡ true
    pub closed : ClosedIn world d.frame.0 d.frame.0.begun
    pub done : AllDone d.frame.0.begun es

  abbrev pub AllStood : List Event → Type 0
  AllStood [] = Unit {0}
  AllStood (d ∷ es) = StoodAt d es × AllStood es

  -- what is done is among the events
  abbrev pub AllSeen : Option Begun → List Event → Type 0
  AllSeen o es = (v : Place) → given_in o v ≡ true → Among (λ d. d.pick ≡ Ev v) es

  -- each frame was started by a body that stands in the trace
  pub record Root (trace : List Entry) (path : Path) (turn node : ℕ) : Type 0 where
    pub entry : Entry
    pub among : Has trace entry (place node Body)
    pub of_frame : path ≡ entry.path
    pub of_turn : turn ≡ entry.turn

  abbrev pub RootedAt : List Entry → Path → Type 0
  RootedAt trace [] = Unit {0}
  RootedAt trace (a ∷ path) = Root trace path a.0 a.1 × RootedAt trace path

  pub rooted_on : (trace : List Entry) (x : Entry) (path : Path) → RootedAt trace path → RootedAt (x ∷ trace) path
  rooted_on trace x [] r = tt
  rooted_on trace x (a ∷ path) (r, rs) = (
    record { entry = r.entry; among = later _ _ _ _ r.among; of_frame = r.of_frame; of_turn = r.of_turn },
    rooted_on
        trace x path rs,
  )

  -- of all entries, those of control steps too
  abbrev pub AllRooted : List Entry → List Entry → Type 0
  AllRooted trace [] = Unit {0}
  AllRooted trace (e ∷ es) = RootedAt trace e.path × AllRooted trace es

  abbrev pub Rooted : List Entry → Type 0
  Rooted trace = AllRooted trace trace

  pub rooted_next : (trace : List Entry) (x : Entry) → Rooted trace → RootedAt trace x.path → Rooted (x ∷ trace)
  rooted_next trace x r rx = (rooted_on trace x x.path rx, each trace r)
    where
      each : (es : List Entry) → AllRooted trace es → AllRooted (x ∷ trace) es
      each [] r = tt
      each (e ∷ es) (r, rs) = (rooted_on trace x e.path r, each es rs)

  pub rooted_of : (trace es : List Entry) (e : Entry) (v : Place) → Has es e v → AllRooted trace es → RootedAt trace e.path
  rooted_of trace _ e v (first _ es _ p) (r, rs) = r
  rooted_of trace _ e v (later d _ es _ h) (r, rs) = rooted_of trace es e v h rs

  -- no frame has this path yet, nor one below it
  pub none_under : (trace : List Entry) (q : Path) → (RootedAt trace q → ⊥) → (es : List Entry) → AllRooted trace es → items_under q es ≡ []
  none_under trace q nowhere [] r = refl
  none_under trace q nowhere (e ∷ es) (r, rs) = go (is_under e.path q) refl (none_under trace q nowhere es rs)
    where
      at : (p : Path) → is_under p q ≡ true → RootedAt trace p → ⊥
      at [] h r = nowhere (subst (RootedAt trace) (path_is [] q h) r)
      at (a ∷ p) h r = elim (or_cases (same_path (a ∷ p) q) (is_under p q) h) [
        | inl s ↦ nowhere (subst (RootedAt trace) (path_is (a ∷ p) q s) r)
        | inr u ↦ at p u r.1
      ]

      go : (b : Bool) → is_under e.path q ≡ b → items_under q es ≡ [] → (if b then e.items else []) ++ items_under q es ≡ []
      go false k again = again
      go true k again = absurd (at e.path k r)

  -- a frame below the top, on which the path goes on
  pub record HeldFrame (trace : List Entry) (l : Local) (u : Place) (ms : List (Local × Place)) (h : Held) (path : Path) : Type 0 where
    pub frame : h.frame ≡ (l, depth_of l ms)
    pub pick : h.pick ≡ Ev u
    pub body : u ≡ place u.node Body
    pub way : path ≡ (l.scene.turn, u.node) ∷ l.scene.path
    pub ready : ready_in world l.scene l.begun (Ev u) ≡ true
    pub closed : ClosedIn world l l.begun
    pub done : AllDone l.begun h.past
    pub seen : AllSeen l.begun h.past
    pub stood : AllStood (waiting h ∷ h.past)
    pub root : RootedAt trace l.scene.path
    pub ok : FrameOk trace l (waiting h ∷ h.past)

  abbrev pub HeldOk : List Entry → List (Local × Place) → List Held → Path → Type 0
  HeldOk trace [] [] path = path ≡ []
  HeldOk trace (m ∷ ms) (h ∷ hs) path = HeldFrame trace m.0 m.1 ms h path × HeldOk trace ms hs m.0.scene.path
  HeldOk trace ms hs path = ⊥

  -- an event that keeps its items
  keeps_match : (trace : List Entry) (x e : Entry) (v : Place) (d : Event) → StaysSame x.path e v → Matches trace v e d → Matches (x ∷ trace) v e d
  keeps_match trace x e v d n m = record {
    pick = m.pick;
    stood = m.stood;
    items = subst (λ z. Sub world.rows z d.items) (sym (same_items trace x e v n))
        m.items;
  }

  and_false : (a b : Bool) → b ≡ false → (a && b) ≡ false
  and_false true b h = h
  and_false false b h = refl

  -- an entry of the frame itself gives none of its bodies items
  own_frame : (x e : Entry) (v : Place) → length x.path ≤ length e.path → StaysSame x.path e v
  own_frame x e v l = and_false (is_body v.kind) _ (not_under x.path ((e.turn, v.node) ∷ e.path) (omega (arith, l)))

  -- an entry of a frame above
  pub above : (trace : List Entry) (x : Entry) (l : Local) (u : Place) (h : Held) → h.pick ≡ Ev u → ready_in world l.scene l.begun (Ev u) ≡ true
      → u ≡ place u.node Body
      → is_under x.path ((l.scene.turn, u.node) ∷ l.scene.path) ≡ true → AllDone l.begun h.past
      → (((v : Place) → ready_in world l.scene l.begun (Ev v) ≡ true → done_in l.begun (Ev v) ≡ true → ⊥))
      → FrameOk trace l (waiting h ∷ h.past) → FrameOk (x ∷ trace) l (record { frame = h.frame; pick = h.pick; items = h.items ++ x.items } ∷ h.past)
  above trace x l u h hp rd ub un dn left ok = record {
    covers = λ e v hs s t b. covered e v (has_cases x trace e v hs) s t b;
    pairs = λ d e a v bo s t b. paired d e a v (both_cases x trace d a e v bo) s t b;
    old = λ e v hs s. aged e v (has_cases x trace e v hs) s;
  }
    where
      w : Event
      w = record { frame = h.frame; pick = h.pick; items = h.items ++ x.items }

      not_here : (e : Entry) → x ≡ e → l.scene.path ≡ e.path → ⊥
      not_here e q s =
          (let k = under_length x.path ((l.scene.turn, u.node) ∷ l.scene.path) un in
          let n = ap length (s ∙ ap (λ z. z.path) (sym q)) in
          omega (arith, k, n))

      body_is : (v : Place) → is_body v.kind ≡ true → v.node ≡ u.node → v ≡ u
      body_is v k n = body_place v k ∙ (ap (λ z. place z Body) n ∙ sym ub)

      node_is : (a b : ℕ × ℕ) (p q : Path) → a ∷ p ≡ b ∷ q → a.1 ≡ b.1
      node_is a b p q e = ap (λ z. z.1) (head_is a b p q e)
        where
          head_is : (a b : ℕ × ℕ) (p q : Path) → a ∷ p ≡ b ∷ q → a ≡ b
          head_is a b p q e = cc

      of_past : (e : Entry) (v : Place) → l.scene.path ≡ e.path → l.scene.turn ≡ e.turn → (d : Event) → done_in l.begun d.pick ≡ true → Matches trace v e d
          → Matches (x ∷ trace) v e d
      of_past e v s t d dd m = go (grows_or_not x.path e v)
        where
          go : Grows x.path e v ⊎ StaysSame x.path e v → Matches (x ∷ trace) v e d
          go (inr n) = keeps_match trace x e v d n m
          go (inl g) =
              (let q = under_same x.path ((e.turn, v.node) ∷ e.path) ((l.scene.turn, u.node) ∷ l.scene.path) g.1 un (ap (λ z. suc (length z)) (sym s)) in
              let vu = body_is v g.0 (node_is (e.turn, v.node) (l.scene.turn, u.node) e.path l.scene.path q) in
              absurd (left u rd (subst (λ z. done_in l.begun (Ev z) ≡ true) vu (subst (λ z. done_in l.begun z ≡ true) m.pick dd))))

      of_waiting : (e : Entry) (v : Place) → Matches trace v e (waiting h) → Matches (x ∷ trace) v e w
      of_waiting e v m = record { pick = m.pick; stood = m.stood; items = more_items world.rows trace x e v h.items m.items }

      covered : (e : Entry) (v : Place) → ((x ≡ e) × (x.place ≡ Some v)) ⊎ Has trace e v → l.scene.path ≡ e.path → l.scene.turn ≡ e.turn
          → is_some l.begun ≡ true → Among (Matches (x ∷ trace) v e) (w ∷ h.past)
      covered e v (inl q) s t b = absurd (not_here e q.0 s)
      covered e v (inr hs) s t b = among_held (Matches trace v e) (Matches (x ∷ trace) v e) l.begun (waiting h) w h.past (of_waiting e v) (of_past e v s t)
          dn (ok.covers e v hs s t b)

      paired : (d e : Entry) (a v : Place) → IsNewest x trace d a e v ⊎ Both trace d a e v → l.scene.path ≡ d.path → l.scene.turn ≡ d.turn
          → is_some l.begun ≡ true
          → Paired (Matches (x ∷ trace) a d) (Matches (x ∷ trace) v e) (w ∷ h.past)
      paired d e a v (inl n) s t b = absurd (not_here d n.entry s)
      paired d e a v (inr bo) s t b =
          (let o = one_frame trace d a e v bo in
          paired_held (Matches trace a d) (Matches trace v e) (Matches (x ∷ trace) a d) (Matches (x ∷ trace) v e) l.begun (waiting h) w h.past
          (of_waiting d a) (of_past d a s t)
          (of_past e v (s ∙ o.0) (t ∙ o.1)) dn (ok.pairs d e a v bo s t b))

      aged : (e : Entry) (v : Place) → ((x ≡ e) × (x.place ≡ Some v)) ⊎ Has trace e v → l.scene.path ≡ e.path → e.turn ≤ l.scene.turn
      aged e v (inl q) s = absurd (not_here e q.0 s)
      aged e v (inr hs) s = ok.old e v hs s

  -- the bodies that wait have the entry's items too
  pub held_next : (trace : List Entry) (x : Entry) (ms : List (Local × Place)) (hs : List Held) (path : Path) → is_under x.path path ≡ true
      → HeldOk trace ms hs path → HeldOk (x ∷ trace) ms (orders.added x.items hs) path
  held_next trace x [] [] path un ok = ok
  held_next trace x [] (h ∷ hs) path un ok = absurd ok
  held_next trace x (m ∷ ms) [] path un ok = absurd ok
  held_next trace x (m ∷ ms) (h ∷ hs) path un (hf, ok) =
      let un2 = subst (λ z. is_under x.path z ≡ true) hf.way un in (
        record {
          frame = hf.frame;
          pick = hf.pick;
          body = hf.body;
          way = hf.way;
          ready = hf.ready;
          closed = hf.closed;
          done = hf.done;
          seen = hf.seen;
          stood = (
            record { at = hf.stood.0.at; pick = hf.stood.0.pick; ready = hf.stood.0.ready; closed = hf.stood.0.closed; done = hf.stood.0.done },
            hf.stood.1,
          );
          root = rooted_on trace x m.0.scene.path hf.root;
          ok = above trace x m.0 m.1 h hf.pick hf.ready hf.body un2 hf.done (left_pick world m.0.begun m.0.scene) hf.ok;
        },
        held_next trace x ms hs m.0.scene.path (under_tail world x.path (m.0.scene.turn, m.1.node) m.0.scene.path un2) ok,
      )

  pub after_control : (trace : List Entry) (x : Entry) (f g : Local) (es : List Event) → x.place ≡ None → Moved world f g → FrameOk trace f es
      → FrameOk (x ∷ trace) g []
  after_control trace x f g es bare m ok = record {
    covers = λ e v h s t b. absurd (let a = older_turn e v (has_cases x trace e v h) s in let k = m.fresh b in omega (arith, a, k, t));
    pairs = λ d e u v bo s t b. absurd (let a = older_turn d u (has_cases x trace d u (newer_of (x ∷ trace) d u e v bo)) s in let k = m.fresh b in omega
        (arith, a, k, t));
    old = λ e v h s. (let a = older_turn e v (has_cases x trace e v h) s in let k = m.turn in omega (arith, a, k));
  }
    where
      older_turn : (e : Entry) (v : Place) → ((x ≡ e) × (x.place ≡ Some v)) ⊎ Has trace e v → g.scene.path ≡ e.path → e.turn ≤ f.scene.turn
      older_turn e v (inl q) s = absurd (cc (bare, q.1))
      older_turn e v (inr h) s = ok.old e v h (m.path ∙ s)

  -- after an event of the full expression
  pub after_event : (trace : List Entry) (x : Entry) (f g : Local) (es : List Event) (d : Event) (u : Place) → x.place ≡ Some u → x.path ≡ f.scene.path
      → x.turn ≡ f.scene.turn → g.scene ≡ f.scene
      → is_some f.begun ≡ true → AllDone f.begun es → Matches (x ∷ trace) u x d → FrameOk trace f es → FrameOk (x ∷ trace) g (d ∷ es)
  after_event trace x f g es d u at path turn same bf dn new ok = record {
    covers = λ e v h s t b. covered e v (has_cases x trace e v h) (ap (λ z. z.path) (sym same) ∙ s) (ap (λ z. z.turn) (sym same) ∙ t);
    pairs = λ a e w v bo s t b. paired a e w v (both_cases x trace a w e v bo) (ap (λ z. z.path) (sym same) ∙ s) (ap (λ z. z.turn) (sym same) ∙ t);
    old = λ e v h s. subst (λ z. e.turn ≤ z.turn) (sym same) (aged e v (has_cases x trace e v h) (ap (λ z. z.path) (sym same) ∙ s));
  }
    where
      level : (e : Entry) → f.scene.path ≡ e.path → length x.path ≤ length e.path
      level e s = (let k = ap length (path ∙ s) in omega (arith, k))

      kept : (e : Entry) (v : Place) → f.scene.path ≡ e.path → (c : Event) → done_in f.begun c.pick ≡ true → Matches trace v e c → Matches (x ∷ trace) v e c
      kept e v s c dc m = keeps_match trace x e v c (own_frame x e v (level e s)) m

      this : (e : Entry) (v : Place) → x ≡ e → x.place ≡ Some v → Matches (x ∷ trace) v e d
      this e v q p = subst (λ z. Matches (x ∷ trace) v z d) q (subst (λ z. Matches (x ∷ trace) z x d) (place_is u v (sym at ∙ p)) new)

      covered : (e : Entry) (v : Place) → ((x ≡ e) × (x.place ≡ Some v)) ⊎ Has trace e v → f.scene.path ≡ e.path → f.scene.turn ≡ e.turn
          → Among (Matches (x ∷ trace) v e) (d ∷ es)
      covered e v (inl q) s t = among_first d es (this e v q.0 q.1)
      covered e v (inr h) s t = among_later d es (among_map (Matches trace v e) (Matches (x ∷ trace) v e) f.begun es (kept e v s) (ok.covers e v h s t bf) dn)

      paired : (a e : Entry) (w v : Place) → IsNewest x trace a w e v ⊎ Both trace a w e v → f.scene.path ≡ a.path → f.scene.turn ≡ a.turn
          → Paired (Matches (x ∷ trace) w a) (Matches (x ∷ trace) v e) (d ∷ es)
      paired a e w v (inl n) s t =
          (let se = s ∙ (ap (λ z. z.path) (sym n.entry) ∙ path_is x.path e.path n.of_frame) in
          let te = t ∙ (ap (λ z. z.turn) (sym n.entry) ∙ n.of_turn) in
          paired_first d es (this a w n.entry n.at) (among_map (Matches trace v e) (Matches (x ∷ trace) v e) f.begun es (kept e v se)
          (ok.covers e v n.among se te bf) dn))
      paired a e w v (inr bo) s t =
          (let o = one_frame trace a w e v bo in
          paired_later d es (paired_map (Matches trace w a) (Matches trace v e) (Matches (x ∷ trace) w a) (Matches (x ∷ trace) v e) f.begun es (kept a w s)
          (kept e v (s ∙ o.0)) (ok.pairs a e w v bo s t bf) dn))

      aged : (e : Entry) (v : Place) → ((x ≡ e) × (x.place ≡ Some v)) ⊎ Has trace e v → f.scene.path ≡ e.path → e.turn ≤ f.scene.turn
      aged e v (inl q) s = (let t = ap (λ z. z.turn) q.0 in omega (arith, t, turn))
      aged e v (inr h) s = ok.old e v h s

  -- the body of a frame has given its value
  pub goes_on_as : (trace : List Entry) (l g : Local) (es : List Event) → g.scene ≡ l.scene → is_some l.begun ≡ true → FrameOk trace l es → FrameOk trace g es
  goes_on_as trace l g es same lb ok = record {
    covers = λ e v h s t b. ok.covers e v h (ap (λ z. z.path) (sym same) ∙ s) (ap (λ z. z.turn) (sym same) ∙ t) lb;
    pairs = λ d e u v bo s t b. ok.pairs d e u v bo (ap (λ z. z.path) (sym same) ∙ s) (ap (λ z. z.turn) (sym same) ∙ t) lb;
    old = λ e v h s. subst (λ z. e.turn ≤ z.turn) (sym same) (ok.old e v h (ap (λ z. z.path) (sym same) ∙ s));
  }
