-- An order without conflicts nests into a run, from its end backwards.
use Rattle.std.proofs.Common.{◌≡◌, ℕ, suc, ◌+◌, Bool, true, false, ◌||◌, List, [], ◌∷◌, ◌++◌, Option, refl, sym, ap, ap₂, ◌∙◌, subst, append_assoc, arith}
use Rattle.c_model.specs.Moves.{Start, End}
use Rattle.c_model.specs.Machine.{Machine, FrameRun as Trace, nil, put, Evaluation as Block, act, body, value, items, its, count, picks, Does, after}
use Rattle.c_model.specs.Machine.{Made, Calm, CalmIn, Free, Clear, ClearIn, Good, Apart, clash_one, clash_any}
use Rattle.c_model.specs.MachineLaws.{OrderLaws}
use Rattle.machine_laws.specs.Orders.{Stopped, State as State_of, going, over, ended, added, with_pick, May, stay, enter, leave, stop, Ends, Quiet}
use Rattle.machine_laws.specs.Orders.{QuietWith, HeldQuiet, NoneBeside, Alone, AllAlone}
use Rattle.machine_laws.specs.Cuts.{stops, inside, Result, gave, said, NoControl, NoneAside, Reaches, RunsTo, finishes, is_cut}
use Rattle.machine_laws.specs.QuietOrders.{LooksAt, QuietOrder, is_over, is_ended, goes}
use Rattle.machine_laws.proofs.Remaining as left
use Rattle.machine_laws.proofs.Remaining.{Left, none, frame, cuts, all, trace_of, pick_of}

module _ {F P V N S I Part Seen Fact : Type 0} (machine : Machine F P V S I Part Seen Fact) (ends : F → P → S → Option (Stopped N S I))
    (order_laws : OrderLaws machine) where
  open machine use {ready, may_start, move, next, is_control, beside, is_done}

  abbrev Event : Type 0
  Event = left.Event machine ends

  abbrev Held : Type 0
  Held = left.Held machine ends

  abbrev then_past : F → P → List I → List Event → List Event
  then_past = left.then_past machine ends

  abbrev Past : List Event → Trace P V I → F → Type 0
  Past = left.Past machine ends

  abbrev FreePast : List Event → Trace P V I → F → Type 0
  FreePast = left.FreePast machine ends

  abbrev DonePast : List Event → F → Type 0
  DonePast = left.DonePast machine ends

  abbrev Remains : Left P V N I → List Held → F → List Event → S → Result V N → S → Type 0
  Remains = left.Remains machine ends

  abbrev RemainsAt : State_of F P V N S I → Left P V N I → Result V N → S → Type 0
  RemainsAt = left.RemainsAt machine ends

  -- what the open full expressions did is done
  abbrev DoneHeld : List Held → Type 0
  DoneHeld [] = Unit {0}
  DoneHeld (h ∷ hs) = DonePast h.past h.frame × (ready h.frame h.pick ≡ true) × DoneHeld hs

  abbrev DoneAt : State_of F P V N S I → Type 0
  DoneAt (going f es hs s) = DonePast es f × DoneHeld hs
  DoneAt (over v s) = Unit {0}
  DoneAt (ended n s) = Unit {0}

  still_done : (f : F) (q : P) (v : V) (es : List Event) → ready f q ≡ true → is_control q ≡ false → DonePast es f → DonePast es (next f q v)
  still_done f q v [] r c d = tt
  still_done f q v (e ∷ es) r c (d, ds) = (order_laws.done_stays f e.pick q v d r c, still_done f q v es r c ds)

  then_done : (f : F) (q : P) (v : V) (is : List I) (es : List Event) → ready f q ≡ true → DonePast es f → DonePast (then_past f q is es) (next f q v)
  then_done f q v is es r d = go (is_control q) refl
    where
      go : (b : Bool) → is_control q ≡ b → DonePast (with_pick b (record { frame = f; pick = q; items = is }) es) (next f q v)
      go true c = tt
      go false c = (order_laws.done_next f q v r c, still_done f q v es r c d)

  added_done : (is : List I) (hs : List Held) → DoneHeld hs → DoneHeld (added is hs)
  added_done is [] d = tt
  added_done is (h ∷ hs) (d, r, ds) = (d, r, added_done is hs ds)

  -- a control step is beside nothing
  control_free : (is : List I) (q : P) (t : Trace P V I) (f : F) → is_control q ≡ true → Free machine is q t f
  control_free is q nil f c = tt
  control_free is q (put p b r) f c = λ k. ((λ be. absurd (order_laws.control_beside f q p c be)), control_free is q r (next f p (value b)) c)

  none_free : (q : P) (u : Block P V I) (t : Trace P V I) (f : F) (es : List Event) → is_control q ≡ true → FreePast es (put q u t) f
  none_free q u t f [] c = tt
  none_free q u t f (e ∷ es) c = ((λ k. absurd (cc (c, k))), none_free q u t f es c)

  one_free : (q : P) (u : Block P V I) (t : Trace P V I) (f : F) (es : List Event) → QuietWith machine ends (record { frame = f; pick = q; items = its u }) es
      → FreePast es t (next f q (value u)) → FreePast es (put q u t) f
  one_free q u t f [] w fr = tt
  one_free q u t f (e ∷ es) (w, ws) (fr, frs) = ((λ k. (w, fr)), one_free q u t f es ws frs)

  past_front : (u : Block P V I) (f : F) (es : List Event) (q : P) (t : Trace P V I) → (is_control q ≡ true → Quiet machine ends es) → DonePast es f
      → Past (then_past f q (its u) es) t (next f q (value u)) → Past es (put q u t) f
  past_front u f es q t look d p = go (is_control q) refl p
    where
      go : (b : Bool) → is_control q ≡ b → Past (with_pick b (record { frame = f; pick = q; items = its u }) es) t (next f q (value u)) → Past es (put q u t) f
      go true c p = record { quiet = look c; free = none_free q u t f es c; done = d }
      go false c p = record { quiet = p.quiet.1; free = one_free q u t f es p.quiet.0 p.free.1; done = d }

  own_free : (u : Block P V I) (f : F) (es : List Event) (q : P) (t : Trace P V I) → Past (then_past f q (its u) es) t (next f q (value u))
      → Free machine (its u) q t (next f q (value u))
  own_free u f es q t p = go (is_control q) refl p
    where
      go : (b : Bool) → is_control q ≡ b → Past (with_pick b (record { frame = f; pick = q; items = its u }) es) t (next f q (value u))
          → Free machine (its u) q t (next f q (value u))
      go true c p = control_free (its u) q t (next f q (value u)) c
      go false c p = p.free.0

  added_twice : (a b : List I) (hs : List Held) → added a (added b hs) ≡ added (b ++ a) hs
  added_twice a b [] = refl
  added_twice a b (h ∷ hs) =
      ap₂ (λ is ks. record { frame = h.frame; pick = h.pick; items = is; past = h.past } ∷ ks) (append_assoc h.items b a) (added_twice a b hs)

  alone_of_added : (a : List I) (hs : List Held) → AllAlone machine ends (added a hs) → AllAlone machine ends hs
  alone_of_added a [] al = tt
  alone_of_added a (h ∷ hs) (al, als) = (al, alone_of_added a hs als)

  -- fewer items have fewer conflicts
  or_l : (a b : Bool) → (a || b) ≡ false → a ≡ false
  or_l false b h = refl
  or_l true b h = absurd (cc)

  or_r : (a b : Bool) → (a || b) ≡ false → b ≡ false
  or_r false b h = h
  or_r true b h = absurd (cc)

  or_both : (a b : Bool) → a ≡ false → b ≡ false → (a || b) ≡ false
  or_both false b h k = k
  or_both true b h k = absurd (cc)

  one_fewer : (i : I) (is a : List I) → clash_one machine i (is ++ a) ≡ false → clash_one machine i is ≡ false
  one_fewer i [] a h = refl
  one_fewer i (j ∷ is) a h =
      or_both (machine.clash i j) (clash_one machine i is) (or_l (machine.clash i j) (clash_one machine i (is ++ a)) h)
      (one_fewer i is a (or_r (machine.clash i j) (clash_one machine i (is ++ a)) h))

  fewer : (js is a : List I) → Apart machine js (is ++ a) → Apart machine js is
  fewer [] is a h = refl
  fewer (j ∷ js) is a h =
      or_both (clash_one machine j is) (clash_any machine js is) (one_fewer j is a (or_l (clash_one machine j (is ++ a)) (clash_any machine js (is ++ a)) h))
      (fewer js is a (or_r (clash_one machine j (is ++ a)) (clash_any machine js (is ++ a)) h))

  quiet_fewer : (f : F) (p : P) (is a : List I) (es : List Event) → QuietWith machine ends (record { frame = f; pick = p; items = is ++ a }) es
      → QuietWith machine ends (record { frame = f; pick = p; items = is }) es
  quiet_fewer f p is a [] q = tt
  quiet_fewer f p is a (e ∷ es) (q, qs) = ((λ b. fewer e.items is a (q b)), quiet_fewer f p is a es qs)

  past_fewer : (b : Bool) (f : F) (p : P) (is a : List I) (es : List Event)
      → Quiet machine ends (with_pick b (record { frame = f; pick = p; items = is ++ a }) es)
      → Quiet machine ends (with_pick b (record { frame = f; pick = p; items = is }) es)
  past_fewer true f p is a es q = tt
  past_fewer false f p is a es (q, qs) = (quiet_fewer f p is a es q, qs)

  quiet_of_added : (a : List I) (hs : List Held) → HeldQuiet machine ends (added a hs) → HeldQuiet machine ends hs
  quiet_of_added a [] q = tt
  quiet_of_added a (h ∷ hs) (q, qs) = (past_fewer (is_control h.pick) h.frame h.pick h.items a h.past q, quiet_of_added a hs qs)

  -- an evaluation that can be done in a frame
  record Evaluates (u : Block P V I) (f : F) (q : P) (s s1 : S) : Type 0 where
    is_ready : ready f q ≡ true
    starts : may_start f q ≡ true
    made : Made machine u f q s s1
    calm : CalmIn machine u f q
    clear : ClearIn machine u f q

  good_front : (u : Block P V I) (f : F) (es : List Event) (q : P) (t : Trace P V I) (s s1 s2 : S) → Evaluates u f q s s1
      → Past (then_past f q (its u) es) t (next f q (value u))
      → Good machine t (next f q (value u)) s1 s2 → Good machine (put q u t) f s s2
  good_front u f es q t s s1 s2 v p g = record {
    valid = (v.is_ready, (s1, v.made, g.valid));
    calm = (v.starts, v.calm, g.calm);
    clear = (own_free u f es q t p, v.clear, g.clear);
  }

  -- of a frame that is cut
  aside_front : (u : Block P V I) (f e : F) (es : List Event) (q p : P) (t : Trace P V I)
      → (NoControl machine ends t → NoneBeside machine ends e p (then_past f q (its u) es))
      → NoneAside machine ends e p t → NoneAside machine ends e p (put q u t)
  aside_front u f e es q p t h n = ((λ nc. go (is_control q) refl (h nc)), n)
    where
      go : (b : Bool) → is_control q ≡ b → NoneBeside machine ends e p (with_pick b (record { frame = f; pick = q; items = its u }) es) → beside e q p ≡ false
      go false c k = k.0
      go true c k = not_beside (beside e q p) refl
        where
          not_beside : (b : Bool) → beside e q p ≡ b → beside e q p ≡ false
          not_beside false k = k
          not_beside true k = absurd (order_laws.control_beside e q p c k)

  beside_front : (u : Block P V I) (f e : F) (es : List Event) (q p : P) (t : Trace P V I)
      → (NoControl machine ends t → NoneBeside machine ends e p (then_past f q (its u) es))
      → NoControl machine ends (put q u t) → NoneBeside machine ends e p es
  beside_front u f e es q p t h (c, nc) = go (is_control q) c (h nc)
    where
      go : (b : Bool) → b ≡ false → NoneBeside machine ends e p (with_pick b (record { frame = f; pick = q; items = its u }) es)
          → NoneBeside machine ends e p es
      go false c k = k.1
      go true c k = absurd (cc)

  reaches_front : (u : Block P V I) (f : F) (es : List Event) (q p : P) (t : Trace P V I) (s s1 s2 : S) → Evaluates u f q s s1
      → Past (then_past f q (its u) es) t (next f q (value u))
      → (NoControl machine ends t → NoneBeside machine ends (after machine t (next f q (value u))) p (then_past f q (its u) es))
      → Reaches machine ends t p (next f q (value u)) s1 s2 → Reaches machine ends (put q u t) p f s s2
  reaches_front u f es q p t s s1 s2 v past h r = record {
    good = good_front u f es q t s s1 s2 v past r.good;
    is_ready = r.is_ready;
    may_start = r.may_start;
    only = r.only;
    none_aside = aside_front u f (after machine t (next f q (value u))) es q p t h r.none_aside;
  }

  -- what remains behind an evaluation remains with it in front
  before : (u : Block P V I) (f : F) (es : List Event) (hs : List Held) (q : P) (s s1 : S) (l : Left P V N I) (o : Result V N) (s' : S) → Evaluates u f q s s1
      → (is_control q ≡ true → Quiet machine ends es) → DonePast es f → Remains l (added (its u) hs) (next f q (value u)) (then_past f q (its u) es) s1 o s'
      → (k : Left P V N I) × Remains k hs f es s o s' × (all k ≡ picks u + all l)
  before u f es hs q s s1 none o s' v look d r = absurd r
  before u f es hs q s s1 (frame g l) o s' v look d (p, (s2, fin, be)) = (
    frame (record { t = put q u g.t; l = g.l; v = g.v; is = g.is }) l,
    (
      past_front u f es q g.t look d p,
      (
        s2,
        record {
          before = fin.before;
          good = good_front u f es q g.t s s1 fin.before v p fin.good;
          is_ready = fin.is_ready;
          leaves = fin.leaves;
          done = fin.done;
        },
        subst (λ ks. left.below machine ends (Remains l) l ks g.v s2 o s')
            (added_twice (items g.t ++ g.is) (its u) hs ∙ ap (λ is. added is hs) (sym (append_assoc (its u) (items g.t) g.is))) be,
      ),
    ),
    omega arith,
  )
  before u f es hs q s s1 (cuts (stops t p n is)) o s' v look d (past, aside, (m, on, (s2, r, e, en)), alone, quiet) = (
    cuts (stops (put q u t) p n is),
    (
      past_front u f es q t look d past,
      beside_front u f (after machine t (next f q (value u))) es q p t aside,
      (m, on, (s2, reaches_front u f es q p t s s1 s2 v past aside r, e, en)),
      alone_of_added (its u) hs alone,
      quiet_of_added (its u) hs quiet,
    ),
    omega arith,
  )
  before u f es hs q s s1 (cuts (inside t p c)) o s' v look d (past, aside, (m, on, (s2, r, k)), alone, quiet) = (
    cuts (inside (put q u t) p c),
    (
      past_front u f es q t look d past,
      beside_front u f (after machine t (next f q (value u))) es q p t aside,
      (m, on, (s2, reaches_front u f es q p t s s1 s2 v past aside r, k)),
      alone_of_added (its u) hs alone,
      quiet_of_added (its u) hs quiet,
    ),
    omega arith,
  )

  -- nothing is left before the pick
  past_nil : (f : F) (es : List Event) → Quiet machine ends es → DonePast es f → Past es nil f
  past_nil f es q d = record { quiet = q; free = all_free es; done = d }
    where
      all_free : (es : List Event) → FreePast es nil f
      all_free [] = tt
      all_free (e ∷ es) = (tt, all_free es)

  nil_good : (f : F) (s : S) → Good machine nil f s s
  nil_good f s = record { valid = refl; calm = tt; clear = tt }

  nil_reaches : (f : F) (es : List Event) (q : P) (s : S) → May machine ends f q → Alone machine ends f q es → Reaches machine ends nil q f s s
  nil_reaches f es q s (r, ms) al = record { good = nil_good f s; is_ready = r; may_start = ms; only = al.only; none_aside = tt }

  move_same : (g h : F) → Start g ≡ Start h → g ≡ h
  move_same g h e = cc

  abbrev Result_at : State_of F P V N S I → ℕ → Result V N → S → Type 0
  Result_at a k o s' = (l : Left P V N I) × RemainsAt a l o s' × (all l ≡ k)

  -- behind a body that started
  entered : (f g : F) (es : List Event) (hs : List Held) (s : S) (q : P) (k : ℕ) (o : Result V N) (s' : S) → May machine ends f q → move f q ≡ Start g
      → LooksAt machine ends f es hs s q → DonePast es f → (l : Left P V N I)
      → Remains l (record { frame = f; pick = q; items = []; past = es } ∷ hs) g [] s o s' → all l ≡ k → Result_at (going f es hs s) (suc k) o s'
  entered f g es hs s q k o s' may mv look d none r e = absurd r
  entered f g es hs s q k o s' may mv look d (frame h l) (p, (s1, fin, be)) e =
      let b = before (body h.t h.l h.v h.is) f es hs q s s1 l o s' (record {
        is_ready = may.0;
        starts = may.1;
        made = (g, mv, fin.is_ready, fin.leaves, (fin.before, fin.good.valid, fin.done));
        calm = λ x n. subst (λ y. Calm machine h.t y) (move_same g x (sym mv ∙ n)) fin.good.calm;
        clear = λ x n. subst (λ y. Clear machine h.t y) (move_same g x (sym mv ∙ n)) fin.good.clear;
      }) look.control d be in
      (b.0, b.1, (let c = b.2 in omega (arith, c, e)))
  entered f g es hs s q k o s' may mv look d (cuts c) (p, aside, (n, on, at), (alone, alones), (quiet, quiets)) e = (
    cuts (inside nil q c),
    (
      past_nil f es (go (is_control q) refl quiet) d,
      (λ nc. alone.none_beside),
      (n, on, (s, nil_reaches f es q s may alone, (g, mv, at))),
      alones,
      quiets,
    ),
    omega (arith, e),
  )
    where
      go : (b : Bool) → is_control q ≡ b → Quiet machine ends (with_pick b (record { frame = f; pick = q; items = [] }) es) → Quiet machine ends es
      go true c x = look.control c
      go false c x = x.1

  -- before the pick that ends a frame
  left_frame : (f : F) (es : List Event) (hs : List Held) (s : S) (q : P) (v : V) (is : List I) (s1 : S) (l : Left P V N I) (k : ℕ) (o : Result V N)
      (s' : S) → May machine ends f q
      → move f q ≡ End → Does machine f q s v is s1 → Quiet machine ends es → DonePast es f → left.below machine ends (Remains l) l (added is hs) v s1 o s'
      → all l ≡ k
      → Result_at (going f es hs s) (suc k) o s'
  left_frame f es hs s q v is s1 l k o s' may mv dn quiet d be e = (
    frame (record { t = nil; l = q; v = v; is = is }) l,
    (
      past_nil f es quiet d,
      (s1, record { before = s; good = nil_good f s; is_ready = may.0; leaves = mv; done = dn }, be),
    ),
    omega (arith, e),
  )

  nested : (a : State_of F P V N S I) (k : ℕ) (o : Result V N) (s' : S) → QuietOrder machine ends a k o s' → DoneAt a → Result_at a k o s'
  nested _ _ _ _ (is_over v s) d = (none, (refl, refl, refl), refl)
  nested _ _ _ _ (is_ended n s) d = (none, (refl, refl, refl), refl)
  nested _ _ _ _ (goes f es hs s q _ k o s' may (stay v is s1 mv dn) look later) (d, dh) =
      let r = nested (going (next f q v) (then_past f q is es) (added is hs) s1) k o s' later (then_done f q v is es may.0 d, added_done is hs dh) in
      let b = before (act v is) f es hs q s s1 r.0 o s' (record { is_ready = may.0; starts = may.1; made = (mv, dn); calm = tt; clear = tt }) look.control d
      r.1 in
      (b.0, b.1, (let c = b.2 in let e = r.2 in omega (arith, c, e)))
  nested _ _ _ _ (goes f es hs s q _ k o s' may (enter g mv) look later) (d, dh) =
      let r = nested (going g [] (record { frame = f; pick = q; items = []; past = es } ∷ hs) s) k o s' later (tt, (d, may.0, dh)) in
      entered f g es hs s q k o s' may mv look d r.0 r.1 r.2
  nested _ _ _ _ (goes f es [] s q _ k o s' may (leave v is s1 mv dn) look later) (d, dh) =
      let r = nested (over v s1) k o s' later tt in
      left_frame f es [] s q v is s1 r.0 k o s' may mv dn (look.control (order_laws.leave_control f q may.0 mv)) d r.1 r.2
  nested _ _ _ _ (goes f es (h ∷ hs) s q _ k o s' may (leave v is s1 mv dn) look later) (d, (dp, rd, dh)) =
      let r = nested (going (next h.frame h.pick v) (then_past h.frame h.pick (h.items ++ is) h.past) (added is hs) s1) k o s' later
      (then_done h.frame h.pick v (h.items ++ is) h.past rd dp, added_done is hs dh) in
      left_frame f es (h ∷ hs) s q v is s1 r.0 k o s' may mv dn (look.control (order_laws.leave_control f q may.0 mv)) d r.1 r.2
  nested _ _ _ _ (goes f es hs s q _ k o s' may (stop n is s1 e) look later) (d, dh) =
      let r = nested (ended n s1) k o s' later tt in
      let quiet = look.quiet_end n is s1 e in
      let lone = look.lone_end n is s1 e in (
        cuts (stops nil q n is),
        (
          past_nil f es quiet.0 d,
          (λ nc. lone.0.none_beside),
          (n, r.1.1, (s, nil_reaches f es q s may lone.0, subst (λ z. Ends machine ends f q s n is z) r.1.2 e, refl)),
          lone.1,
          quiet.1,
        ),
        (let a = ap all r.1.0 in let b = r.2 in omega (arith, a, b)),
      )

  runs_of : (f : F) (s : S) (k : ℕ) (o : Result V N) (s' : S) (l : Left P V N I) → Remains l [] f [] s o s' → all l ≡ k → RunsTo machine ends f s k o s'
  runs_of f s k o s' none r e = absurd r
  runs_of f s k o s' (frame g l) (p, (s1, fin, (en, eo, es))) e =
      subst (λ z. RunsTo machine ends f s k z s') (sym eo)
      (subst (λ z. RunsTo machine ends f s z (gave g.v) s') (let a = ap all en in omega (arith, a, e))
      (subst (λ z. RunsTo machine ends f s (suc (count g.t)) (gave g.v) z) es (finishes g s1 fin)))
  runs_of f s k o s' (cuts c) (p, aside, (n, on, at), al, hq) e =
      subst (λ z. RunsTo machine ends f s k z s') (sym on) (subst (λ z. RunsTo machine ends f s z (said n) s') e (is_cut c n s' at))

  pub quiet_order_runs : (f : F) (s : S) (k : ℕ) (o : Result V N) (s' : S) → QuietOrder machine ends (going f [] [] s) k o s' → RunsTo machine ends f s k o s'
  quiet_order_runs f s k o s' q = let r = nested (going f [] [] s) k o s' q (tt, tt) in runs_of f s k o s' r.0 r.1 r.2
