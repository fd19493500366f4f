-- What remains of a run, from a state inside it, and how little its conditions look at items.
use Rattle.std.proofs.Common.{◌≡◌, ℕ, suc, ◌+◌, Bool, true, false, List, [], ◌∷◌, ◌++◌, Option}
use Rattle.c_model.specs.Machine.{Machine, FrameRun as Trace, nil, put, Evaluation as Block, Rest, value, items, its, count, Finishes as Finishes_m}
use Rattle.c_model.specs.Machine.{Free as Free_m}
use Rattle.c_model.specs.MachineLaws.{StoreLaws, FrameLaws, OrderLaws, UpdateLaws}
use Rattle.c_model.proofs.MachineRuns as runs
use Rattle.c_model.proofs.MachineOrders as orders
use Rattle.c_model.proofs.MachineOrders.{same, front, under, both}
use Rattle.machine_laws.specs.Orders.{Stopped, Event as Event_of, Held as Held_of, State as State_of, going, over, ended, added, with_pick}
use Rattle.machine_laws.specs.Orders.{then_past as then_past_m, QuietWith as QuietWith_m, Quiet as Quiet_m, HeldQuiet as HeldQuiet_m}
use Rattle.machine_laws.specs.Orders.{NoneBeside as NoneBeside_m, AllAlone as AllAlone_m}
use Rattle.machine_laws.specs.Cuts.{Cut, stops, inside, cut_picks, Result, gave, said, NoControl as NoControl_m, CutAt as CutAt_m}

-- what is left of the open frames: those that end, the top one first, and the one in which the run ends
pub data Left (P V N I : Type 0) : Type 0 where
  none : Left P V N I
  frame : Rest P V I → Left P V N I → Left P V N I
  cuts : Cut P V N I → Left P V N I

abbrev pub all : {P V N I : Type 0} → Left P V N I → ℕ
all none = 0
all (frame g l) = suc (count g.t) + all l
all (cuts c) = cut_picks c

-- the picks of the first frame of a run that is cut, and the one that they lead to
abbrev pub trace_of : {P V N I : Type 0} → Cut P V N I → Trace P V I
trace_of (stops t q n is) = t
trace_of (inside t q c) = t

abbrev pub pick_of : {P V N I : Type 0} → Cut P V N I → P
pick_of (stops t q n is) = q
pick_of (inside t q c) = q

abbrev pub with_trace : {P V N I : Type 0} → Cut P V N I → Trace P V I → Cut P V N I
with_trace (stops t q n is) r = stops r q n is
with_trace (inside t q c) r = inside r q c

module _ {F P V N S I Part Seen Fact : Type 0} (machine : Machine F P V S I Part Seen Fact) (ends : F → P → S → Option (Stopped N S I)) where
  abbrev pub Event : Type 0
  Event = Event_of F P I

  abbrev pub Held : Type 0
  Held = Held_of F P I

  abbrev pub then_past : F → P → List I → List Event → List Event
  then_past = then_past_m machine ends

  abbrev pub FreePast : List Event → Trace P V I → F → Type 0
  FreePast [] t f = Unit {0}
  FreePast (e ∷ es) t f = Free_m machine e.items e.pick t f × FreePast es t f

  abbrev pub DonePast : List Event → F → Type 0
  DonePast [] f = Unit {0}
  DonePast (e ∷ es) f = (machine.is_done f e.pick ≡ true) × DonePast es f

  -- what the full expression did has no conflicts, in itself and with what is to come
  pub record Past (es : List Event) (t : Trace P V I) (f : F) : Type 0 where
    pub quiet : Quiet_m machine ends es
    pub free : FreePast es t f
    pub done : DonePast es f

  -- the frame below goes on, or the run is over
  abbrev pub below : (List Held → F → List Event → S → Result V N → S → Type 0) → Left P V N I → List Held → V → S → Result V N → S → Type 0
  below later l [] v s o s' = (l ≡ none) × (o ≡ gave v) × (s ≡ s')
  below later l (h ∷ hs) v s o s' = later hs (machine.next h.frame h.pick v) (then_past h.frame h.pick h.items h.past) s o s'

  -- this is left, and goes on without conflicts to that result and store
  abbrev pub Remains : Left P V N I → List Held → F → List Event → S → Result V N → S → Type 0
  Remains none hs f es s o s' = ⊥
  Remains (frame g l) hs f es s o s' =
      Past es g.t f × ((s1 : S) × Finishes_m machine g f s s1 × below (Remains l) l (added (items g.t ++ g.is) hs) g.v s1 o s')
  Remains (cuts c) hs f es s o s' =
      Past es (trace_of c) f × (NoControl_m machine ends (trace_of c) → NoneBeside_m machine ends (runs.after machine (trace_of c) f) (pick_of c) es)
      × ((n : N) × (o ≡ said n) × CutAt_m machine ends c f s n s') × AllAlone_m machine ends hs × HeldQuiet_m machine ends hs

  abbrev pub RemainsAt : State_of F P V N S I → Left P V N I → Result V N → S → Type 0
  RemainsAt (going f es hs s) l o s' = Remains l hs f es s o s'
  RemainsAt (over v s) l o s' = (l ≡ none) × (o ≡ gave v) × (s ≡ s')
  RemainsAt (ended n s) l o s' = (l ≡ none) × (o ≡ said n) × (s ≡ s')

  -- items that have no more conflicts than others
  abbrev pub Sub : List I → List I → Type 0
  Sub is js = (ks : List I) → runs.Apart machine js ks → runs.Apart machine is ks

  pub sub_joined : (a b c d : List I) → Sub a c → Sub b d → Sub (a ++ b) (c ++ d)
  sub_joined a b c d h k = λ ks ap'.
      runs.apart_both machine a b ks (h ks (runs.apart_left machine c d ks ap')) (k ks (runs.apart_right machine c d ks ap'))

  pub sub_left : (a b : List I) → Sub a (a ++ b)
  sub_left a b = λ ks h. runs.apart_left machine a b ks h

  module _ (store_laws : StoreLaws machine) (frame_laws : FrameLaws machine) (order_laws : OrderLaws machine) (update_laws : UpdateLaws machine) where
    abbrev pub Moves : Trace P V I → Trace P V I → Type 0
    Moves = orders.Moves machine store_laws frame_laws order_laws update_laws

    abbrev pub joined : Trace P V I → Trace P V I → Trace P V I
    joined = runs.joined machine

    front_sub : (t r : Trace P V I) (q : P) (b : Block P V I) → Sub (items (put q b (joined t r))) (items (joined t (put q b r)))
    front_sub nil r q b = λ ks h. h
    front_sub (put p u t) r q b = λ ks h.
        let rest = front_sub t r q b ks (runs.apart_right machine (its u) (items (joined t (put q b r))) ks h) in
        let first = runs.apart_left machine (its u) (items (joined t (put q b r))) ks h in
        runs.apart_both machine (its b) (its u ++ items (joined t r)) ks (runs.apart_left machine (its b) (items (joined t r)) ks rest)
        (runs.apart_both machine (its u) (items (joined t r)) ks first (runs.apart_right machine (its b) (items (joined t r)) ks rest))

    -- picks in another order have the same conflicts
    pub moves_sub : (t r : Trace P V I) → Moves t r → Sub (items r) (items t)
    moves_sub t _ (same _) = λ ks h. h
    moves_sub _ _ (front t r q b cq) = front_sub t r q b
    moves_sub _ _ (under p b t r m) = sub_joined (its b) (items r) (its b) (items t) (λ ks h. h) (moves_sub t r m)
    moves_sub t u (both _ r _ m n) = λ ks h. moves_sub r u n ks (moves_sub t r m ks h)

    -- the same events with fewer items
    pub data LessPast : List Event → List Event → Type 0 where
      no_events : LessPast [] []
      less_event : (f : F) (p : P) (is js : List I) (es ds : List Event) → Sub is js → LessPast es ds
          → LessPast (record { frame = f; pick = p; items = is } ∷ es) (record { frame = f; pick = p; items = js } ∷ ds)

    pub data LessHeld : List Held → List Held → Type 0 where
      no_frames : LessHeld [] []
      less_frame : (f : F) (p : P) (is js : List I) (es : List Event) (hs ks : List Held) → Sub is js → LessHeld hs ks
          → LessHeld (record { frame = f; pick = p; items = is; past = es } ∷ hs) (record { frame = f; pick = p; items = js; past = es } ∷ ks)

    pub same_past : (es : List Event) → LessPast es es
    same_past [] = no_events
    same_past (e ∷ es) = less_event e.frame e.pick e.items e.items es es (λ ks h. h) (same_past es)

    less_added : (a : List I) (hs ks : List Held) → LessHeld hs ks → LessHeld (added a hs) (added a ks)
    less_added a _ _ no_frames = no_frames
    less_added a _ _ (less_frame f p is js es hs ks s l) =
        less_frame f p (is ++ a) (js ++ a) es (added a hs) (added a ks) (sub_joined is a js a s (λ ls h. h)) (less_added a hs ks l)

    less_with : (b : Bool) (f : F) (p : P) (is js : List I) (es ds : List Event) → Sub is js → LessPast es ds
        → LessPast (with_pick b (record { frame = f; pick = p; items = is }) es) (with_pick b (record { frame = f; pick = p; items = js }) ds)
    less_with true f p is js es ds s l = no_events
    less_with false f p is js es ds s l = less_event f p is js es ds s l

    abbrev Apart : List I → List I → Type 0
    Apart = runs.Apart machine

    less_apart : (a b c d : List I) → Sub a c → Sub b d → Apart c d → Apart a b
    less_apart a b c d h k ap' =
        h b (runs.apart_sym machine store_laws b c (k c (runs.apart_sym machine store_laws c d ap')))

    less_quiet_with : (f : F) (p : P) (is js : List I) (es ds : List Event) → Sub is js → LessPast es ds
        → QuietWith_m machine ends (record { frame = f; pick = p; items = js }) ds → QuietWith_m machine ends (record { frame = f; pick = p; items = is }) es
    less_quiet_with f p is js _ _ s no_events q = tt
    less_quiet_with f p is js _ _ s (less_event g x a b es ds k l) (q, qs) =
        ((λ be. less_apart a is b js k s (q be)), less_quiet_with f p is js es ds s l qs)

    less_quiet : (es ds : List Event) → LessPast es ds → Quiet_m machine ends ds → Quiet_m machine ends es
    less_quiet _ _ no_events q = tt
    less_quiet _ _ (less_event f p is js es ds s l) (q, qs) = (less_quiet_with f p is js es ds s l q, less_quiet es ds l qs)

    less_free_one : (p : P) (is js : List I) (t : Trace P V I) (f : F) → Sub is js → Free_m machine js p t f → Free_m machine is p t f
    less_free_one p is js nil f s fr = tt
    less_free_one p is js (put q b r) f s fr = λ c. let a = fr c in ((λ be. s (its b) (a.0 be)), less_free_one p is js r (machine.next f q (value b)) s a.1)

    less_free : (es ds : List Event) (t : Trace P V I) (f : F) → LessPast es ds → FreePast ds t f → FreePast es t f
    less_free _ _ t f no_events fr = tt
    less_free _ _ t f (less_event g p is js es ds s l) (fr, frs) = (less_free_one p is js t f s fr, less_free es ds t f l frs)

    less_done : (es ds : List Event) (f : F) → LessPast es ds → DonePast ds f → DonePast es f
    less_done _ _ f no_events d = tt
    less_done _ _ f (less_event g p is js es ds s l) (d, dd) = (d, less_done es ds f l dd)

    less_past : (es ds : List Event) (t : Trace P V I) (f : F) → LessPast es ds → Past ds t f → Past es t f
    less_past es ds t f l p = record { quiet = less_quiet es ds l p.quiet; free = less_free es ds t f l p.free; done = less_done es ds f l p.done }

    less_beside : (es ds : List Event) (f : F) (q : P) → LessPast es ds → NoneBeside_m machine ends f q ds → NoneBeside_m machine ends f q es
    less_beside _ _ f q no_events n = tt
    less_beside _ _ f q (less_event g p is js es ds s l) (n, ns) = (n, less_beside es ds f q l ns)

    less_alone : (hs ks : List Held) → LessHeld hs ks → AllAlone_m machine ends ks → AllAlone_m machine ends hs
    less_alone _ _ no_frames a = tt
    less_alone _ _ (less_frame f p is js es hs ks s l) (a, as') = (a, less_alone hs ks l as')

    pub less_held : (hs ks : List Held) → LessHeld hs ks → HeldQuiet_m machine ends ks → HeldQuiet_m machine ends hs
    less_held _ _ no_frames q = tt
    less_held _ _ (less_frame f p is js es hs ks s l) (q, qs) =
        (less_quiet (then_past f p is es) (then_past f p js es) (less_with (machine.is_control p) f p is js es es s (same_past es)) q, less_held hs ks l qs)

    pub below_less : (l : Left P V N I) (o : Result V N) (s' : S) →
        ((hs ks : List Held) (f : F) (es ds : List Event) (s : S) → LessHeld hs ks → LessPast es ds → Remains l ks f ds s o s' → Remains l hs f es s o s')
        → (v : V) (m : S) (hs ks : List Held) → LessHeld hs ks → below (Remains l) l ks v m o s' → below (Remains l) l hs v m o s'
    below_less l o s' again v m _ _ no_frames b = b
    below_less l o s' again v m _ _ (less_frame f p is js es hs ks s lh) b =
        again hs ks (machine.next f p v) (then_past f p is es) (then_past f p js es) m lh (less_with (machine.is_control p) f p is js es es s (same_past es)) b

    -- what remains does so with fewer items
    pub less_remains : (l : Left P V N I) (hs ks : List Held) (f : F) (es ds : List Event) (s : S) (o : Result V N) (s' : S) → LessHeld hs ks → LessPast es ds
        → Remains l ks f ds s o s' → Remains l hs f es s o s'
    less_remains none hs ks f es ds s o s' lh lp r = r
    less_remains (frame g l) hs ks f es ds s o s' lh lp (p, (m, fin, be)) = (
      less_past es ds g.t f lp p,
      (
        m,
        fin,
        below_less l o s' (λ hs ks f es ds s. less_remains l hs ks f es ds s o s') g.v m
            (added (items g.t ++ g.is) hs) (added (items g.t ++ g.is) ks) (less_added (items g.t ++ g.is) hs ks lh) be,
      ),
    )
    less_remains (cuts c) hs ks f es ds s o s' lh lp (p, aside, at, alone, quiet) = (
      less_past es ds (trace_of c) f lp p,
      (λ n. less_beside es ds (runs.after machine (trace_of c) f) (pick_of c) lp (aside n)),
      at,
      less_alone hs ks lh
          alone,
      less_held hs ks lh quiet,
    )

    pub less_of_added : (a : List I) (hs : List Held) → LessHeld hs (added a hs)
    less_of_added a [] = no_frames
    less_of_added a (h ∷ hs) = less_frame h.frame h.pick h.items (h.items ++ a) h.past hs (added a hs) (sub_left h.items a) (less_of_added a hs)

    -- items that were added in two parts
    pub less_in_parts : (a b c : List I) (hs : List Held) → Sub (a ++ b) c → LessHeld (added b (added a hs)) (added c hs)
    less_in_parts a b c [] s = no_frames
    less_in_parts a b c (h ∷ hs) s =
        less_frame h.frame h.pick ((h.items ++ a) ++ b) (h.items ++ c) h.past (added b (added a hs)) (added c hs) (parts h.items) (less_in_parts a b c hs s)
      where
        parts : (x : List I) → Sub ((x ++ a) ++ b) (x ++ c)
        parts x = λ ks k.
            let first = runs.apart_left machine x c ks k in
            let rest = s ks (runs.apart_right machine x c ks k) in
            runs.apart_both machine (x ++ a) b ks (runs.apart_both machine x a ks first (runs.apart_left machine a b ks rest))
            (runs.apart_right machine a b ks rest)

    below_quiet : (l : Left P V N I) (o : Result V N) (s' : S)
        → ((hs : List Held) (f : F) (es : List Event) (s : S) → Remains l hs f es s o s' → Quiet_m machine ends es × HeldQuiet_m machine ends hs)
        → (v : V) (m : S) (ks : List Held) → below (Remains l) l ks v m o s' → HeldQuiet_m machine ends ks
    below_quiet l o s' again v m [] b = tt
    below_quiet l o s' again v m (h ∷ ks) b = again ks (machine.next h.frame h.pick v) (then_past h.frame h.pick h.items h.past) m b

    -- what happened before has no conflicts
    pub quiet_here : (l : Left P V N I) (hs : List Held) (f : F) (es : List Event) (s : S) (o : Result V N) (s' : S) → Remains l hs f es s o s'
        → Quiet_m machine ends es × HeldQuiet_m machine ends hs
    quiet_here none hs f es s o s' r = absurd r
    quiet_here (frame g l) hs f es s o s' (p, (m, fin, be)) =
        let a = items g.t ++ g.is in
        (p.quiet, less_held hs (added a hs) (less_of_added a hs) (below_quiet l o s' (λ hs f es s. quiet_here l hs f es s o s') g.v m (added a hs) be))
    quiet_here (cuts c) hs f es s o s' (p, aside, at, alone, quiet) = (p.quiet, quiet)

    -- a body that waits alone conflicts with nothing, whatever it does
    pub alone_quiet : (a : List I) (hs : List Held) → AllAlone_m machine ends hs → HeldQuiet_m machine ends hs → HeldQuiet_m machine ends (added a hs)
    alone_quiet a [] al q = tt
    alone_quiet a (h ∷ hs) (al, als) (q, qs) = (one (machine.is_control h.pick) q, alone_quiet a hs als qs)
      where
        none_with : (is : List I) (es : List Event) → NoneBeside_m machine ends h.frame h.pick es
            → QuietWith_m machine ends (record { frame = h.frame; pick = h.pick; items = is }) es
        none_with is [] n = tt
        none_with is (e ∷ es) (n, ns) = ((λ be. absurd (cc (n, be))), none_with is es ns)

        one : (b : Bool) → Quiet_m machine ends (with_pick b (record { frame = h.frame; pick = h.pick; items = h.items }) h.past)
            → Quiet_m machine ends (with_pick b (record { frame = h.frame; pick = h.pick; items = h.items ++ a }) h.past)
        one true q = tt
        one false (q, qs) = (none_with (h.items ++ a) h.past al.none_beside, qs)

    pub alone_added : (a : List I) (hs : List Held) → AllAlone_m machine ends hs → AllAlone_m machine ends (added a hs)
    alone_added a [] al = tt
    alone_added a (h ∷ hs) (al, als) = (al, alone_added a hs als)
