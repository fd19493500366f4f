-- The frames of a program keep the laws of the frame, of the order and of updates.
use Rattle.std.proofs.Common.{
  ◌≡◌,
  ◌≢◌,
  ℕ,
  zero,
  suc,
  ◌+◌,
  ◌<◌,
  ◌≤◌,
  Bool,
  true,
  false,
  not,
  ◌&&◌,
  ◌||◌,
  ◌==◌,
  nat_lt,
  if◌then◌else◌,
  true≢false,
  List,
  Option,
  Some,
  None,
  is_some,
  refl,
  sym,
  ap,
  ap₂,
  ◌∙◌,
  subst,
  ◌⊎◌,
  inl,
  inr,
  arith,
}
use Rattle.std.proofs.lemmas.Bool.Decides.{nat_tests}
use Rattle.std.specs.List.{list_all}
use Rattle.ub_base.specs.declared.clause.Kind.{Kind}
use Rattle.ub_base.specs.declared.clause.Kind.TheVariants.{Val, Eff, Body}
use Rattle.c_typed.specs.declared.tree.Place.{Place}
use Rattle.c_typed.specs.declared.class.Class.{Class}
use Rattle.c_typed.specs.Tree.{Tree, node, Trees, none, more, size, sizes}
use Rattle.c_typed.specs.Order.{Taken, place, same_place, is_val, is_body}
use Rattle.c_typed.specs.Decide.{due_in, due_among}
use Rattle.mem_spec.specs.Script.{run}
use Rattle.c_model.specs.Program.{Head, Call, Isolated, Expr, expr, tree_of, Stmt, Function}
use Rattle.c_model.specs.Values.{Value, later_values}
use Rattle.c_model.specs.World.{World}
use Rattle.c_model.specs.Moves.{Move, Stay, Start, End}
use Rattle.c_model.specs.Steps.{
  Scene,
  Local,
  Begun,
  Pick,
  Control,
  Ev,
  with_given,
  taken_by,
  at_node,
  called_by,
  own_body,
  body_frame,
  start_call,
  started,
  move_of,
  does,
  move,
  next,
}
use Rattle.c_model.specs.Moments.{places_from}
use Rattle.c_model.specs.MachineLaws.{FrameLaws, OrderLaws, UpdateLaws}
use Rattle.c_model.specs.ChoiceLaws.{IsNext, IsReached, due_now, before_now, update_at}
use Rattle.c_model.specs.ModelMachine.{
  StorePart,
  done_by,
  gives,
  start_where,
  every,
  nodes,
  none_open,
  may_start_in,
  is_control,
  opens_in,
  half,
  done_in,
  is_reached,
  ready_in,
  beside_in,
  level_in,
  frame_machine,
}
use Rattle.c_model.proofs.LaterPicks.{reached_next, keeps_ready, not_before, before_stays, choices_kept, none_some, same_place-eq}
use Rattle.c_model.proofs.TwoEvents.{event_same, frames_same, frame_swap}
use Rattle.c_model.proofs.Updates.{before_kept, halves}
use Rattle.c_model.proofs.Halves.{given_at, refl_place, closed_at, effect_next}

eq_of : (a b : ℕ) → (a == b) ≡ true → a ≡ b
eq_of a b h = grind (arith, nat_tests, h)

lt_of : (a b : ℕ) → nat_lt a b ≡ true → a < b
lt_of a b h = grind (arith, nat_tests, h)

lt_lt : (a b : ℕ) → a < b → nat_lt a b ≡ true
lt_lt a b h = grind (arith, nat_tests, h)

same_number : (a b : ℕ) → (a ≡ b) ⊎ (a ≢ b)
same_number a b = grind arith

and_l : (a b : Bool) → (a && b) ≡ true → a ≡ true
and_l true b h = refl
and_l false b h = h

and_r : (a b : Bool) → (a && b) ≡ true → b ≡ true
and_r true b h = h
and_r false b h = absurd (cc)

and_b : (a b : Bool) → a ≡ true → b ≡ true → (a && b) ≡ true
and_b true b h k = k
and_b false b h k = h

pub implied : (a c : Bool) → (not a || c) ≡ true → a ≡ true → c ≡ true
implied true c h k = h
implied false c h k = absurd (true≢false (sym k))

put : (a c : Bool) → (a ≡ true → c ≡ true) → (not a || c) ≡ true
put true c f = f refl
put false c f = refl

or_keep : (a b c : Bool) → (b ≡ true → c ≡ true) → (a || b) ≡ true → (a || c) ≡ true
or_keep true b c f h = refl
or_keep false b c f h = f h

not_of : (b : Bool) → not b ≡ true → b ≡ false
not_of false h = refl
not_of true h = absurd (cc)

to_not : (b : Bool) → b ≡ false → not b ≡ true
to_not false h = refl
to_not true h = absurd (cc)

fewer : (a b : Bool) → (a ≡ true → b ≡ true) → b ≡ false → a ≡ false
fewer false b h k = refl
fewer true b h k = absurd (true≢false (sym (h refl) ∙ k))

pub left_of : (o : Option Value) → not (is_some o) ≡ true → o ≡ None
left_of None h = refl
left_of (Some v) h = absurd (cc)

not_some : (o : Option Value) → o ≡ None → not (is_some o) ≡ true
not_some None h = refl
not_some (Some v) h = absurd (cc)

-- tests over all places of so many nodes
all_get : (p : Place → Bool) (k n : ℕ) → list_all p (places_from k n) ≡ true → (u : Place) → k ≤ u.node → u.node < k + n → p u ≡ true
all_get p k zero h u l r = absurd (omega (arith, l, r))
all_get p k (suc n) h u l r = elim (same_number u.node k) [
  | inl e ↦ by_kind u.kind refl e
  | inr ne ↦ all_get p (suc k) n (and_r (p (place k Body)) _ (and_r (p (place k Eff)) _ (and_r (p (place k Val)) _ h))) u (omega (arith, l, ne))
      (omega (arith, r))
]
  where
    by_kind : (c : Kind) → u.kind ≡ c → u.node ≡ k → p u ≡ true
    by_kind Val ek en = subst (λ z. p z ≡ true) (sym (λ i. record { node = en i; kind = ek i })) (and_l (p (place k Val)) _ h)
    by_kind Eff ek en = subst (λ z. p z ≡ true) (sym (λ i. record { node = en i; kind = ek i })) (and_l (p (place k Eff)) _ (and_r (p (place k Val)) _ h))
    by_kind Body ek en = subst (λ z. p z ≡ true) (sym (λ i. record { node = en i; kind = ek i }))
        (and_l (p (place k Body)) _ (and_r (p (place k Eff)) _ (and_r (p (place k Val)) _ h)))

all_put : (p : Place → Bool) (k n : ℕ) → ((u : Place) → u.node < k + n → p u ≡ true) → list_all p (places_from k n) ≡ true
all_put p k zero h = refl
all_put p k (suc n) h =
    and_b _ _ (h (place k Val) (omega arith))
    (and_b _ _ (h (place k Eff) (omega arith)) (and_b _ _ (h (place k Body) (omega arith)) (all_put p (suc k) n (λ u l. h u (omega (arith, l))))))

pub get : (p : Place → Bool) (n : ℕ) → every p n ≡ true → (u : Place) → u.node < n → p u ≡ true
get p n h u l = all_get p 0 n h u (omega arith) (omega (arith, l))

pub all : (p : Place → Bool) (n : ℕ) → ((u : Place) → u.node < n → p u ≡ true) → every p n ≡ true
all p n h = all_put p 0 n (λ u l. h u (omega (arith, l)))

-- a due event is one of the tree
root_lt : (b x y : Bool) (ts : Trees) (k : ℕ) (u : Place) → (u.node == k) ≡ b → (y ≡ true → u.node < suc k + sizes ts) →
    (if b then x else y) ≡ true → u.node < k + suc (sizes ts)
root_lt true x y ts k u e f h = let q = eq_of u.node k e in omega (arith, q)
root_lt false x y ts k u e f h = let r = f h in omega (arith, r)

among_lt : (b x y : Bool) (t : Tree) (ts : Trees) (m : ℕ) (u : Place) → nat_lt u.node (m + size t) ≡ b → (y ≡ true → u.node < m + size t + sizes ts) →
    (if b then x else y) ≡ true
    → u.node < m + (size t + sizes ts)
among_lt true x y t ts m u e f h = let q = lt_of u.node (m + size t) e in omega (arith, q)
among_lt false x y t ts m u e f h = let r = f h in omega (arith, r)

mutual
  pub due_lt : (taken : Taken) (t : Tree) (k : ℕ) (u : Place) → due_in taken k t u ≡ true → u.node < k + size t
  due_lt taken (node class ts) k u h = root_lt (u.node == k) _ _ ts k u refl (due_among_lt taken ts class (taken k) 0 (suc k) u) h

  due_among_lt : (taken : Taken) (ts : Trees) (class : Class) (c : Option ℕ) (i m : ℕ) (u : Place) → due_among taken class c i m ts u ≡ true →
      u.node < m + sizes ts
  due_among_lt taken none class c i m u h = absurd (true≢false (sym h))
  due_among_lt taken (more t ts) class c i m u h = among_lt (nat_lt u.node (m + size t)) _ _ t ts m u refl
      (due_among_lt taken ts class c (suc i) (m + size t) u) h

given_back : (e : Begun) (u v : Place) (w : Value) → is_some ((with_given e u w).given v) ≡ true → (u ≡ v) ⊎ (is_some (e.given v) ≡ true)
given_back e u v w h = go (same_place u v) refl h
  where
    go : (b : Bool) → same_place u v ≡ b → is_some (if b then Some w else e.given v) ≡ true → (u ≡ v) ⊎ (is_some (e.given v) ≡ true)
    go true q h = inl (same_place-eq u v q)
    go false q h = inr h

given_on : (e : Begun) (u v : Place) (w : Value) → is_some (e.given v) ≡ true → is_some ((with_given e u w).given v) ≡ true
given_on e u v w h = go (same_place u v)
  where
    go : (b : Bool) → is_some (if b then Some w else e.given v) ≡ true
    go true = refl
    go false = h

-- that no update is open
pub none_get : (e : Begun) → none_open e ≡ true → (m : ℕ) → m < nodes e → update_at 0 (tree_of e.root) m ≡ true → is_some (e.given (place m Val)) ≡ true →
    is_some (e.given (place m Eff)) ≡ true
none_get e h m l up g =
    implied (update_at 0 (tree_of e.root) m && is_some (e.given (place m Val))) _
    (get (λ u. not (update_at 0 (tree_of e.root) u.node && is_some (e.given (place u.node Val))) || is_some (e.given (place u.node Eff))) (nodes e) h
    (place m Val) l) (and_b _ _ up g)

pub none_put : (e : Begun) → ((m : ℕ) → m < nodes e → update_at 0 (tree_of e.root) m ≡ true → is_some (e.given (place m Val)) ≡ true →
    is_some (e.given (place m Eff)) ≡ true) → none_open e ≡ true
none_put e h =
    all (λ u. not (update_at 0 (tree_of e.root) u.node && is_some (e.given (place u.node Val))) || is_some (e.given (place u.node Eff))) (nodes e)
    (λ u l. put _ _ (λ a. h u.node l (and_l (update_at 0 (tree_of e.root) u.node) _ a) (and_r (update_at 0 (tree_of e.root) u.node) _ a)))

-- a pick that isn't the value of an update leaves none open
none_next : (e : Begun) (z : Place) (v : Value) → (is_val z.kind && update_at 0 (tree_of e.root) z.node) ≡ false → none_open e ≡ true →
    none_open (with_given e z v) ≡ true
none_next e z v oq h = none_put (with_given e z v) (λ m l up g. elim (given_back e z (place m Val) v g) [
  | inl q ↦ absurd (let isv : is_val z.kind ≡ true = ap (λ y. is_val y.kind) q in
      let isu : update_at 0 (tree_of e.root) z.node ≡ true = ap (λ y. update_at 0 (tree_of e.root) y.node) q ∙ up in
      true≢false (sym (and_b _ _ isv isu) ∙ oq))
  | inr g2 ↦ given_on e z (place m Eff) v (none_get e h m l up g2)
])

-- nor do both halves of one
none_pair : (e : Begun) (z : Place) (v w : Value) → none_open e ≡ true → none_open (with_given (with_given e z v) (place z.node Eff) w) ≡ true
none_pair e z v w h = none_put (with_given (with_given e z v) (place z.node Eff) w)
    (λ m l up g. elim (given_back (with_given e z v) (place z.node Eff) (place m Val) w g) [
      | inl q ↦ absurd (cc (ap (λ y. y.kind) q))
      | inr g1 ↦ elim (given_back e z (place m Val) v g1) [
        | inl q ↦ given_at (with_given e z v) (place z.node Eff) (place m Eff) w (ap (λ y. place y.node Eff) q)
        | inr g2 ↦ given_on (with_given e z v) (place z.node Eff) (place m Eff) w (given_on e z (place m Eff) v (none_get e h m l up g2))
      ]
    ])

same_pick : (p q : Pick) → (p ≡ q) ⊎ (p ≢ q)
same_pick Control Control = inl refl
same_pick Control (Ev v) = inr (λ h. cc)
same_pick (Ev u) Control = inr (λ h. cc)
same_pick (Ev u) (Ev v) = go (same_place u v) refl
  where
    go : (b : Bool) → same_place u v ≡ b → (Ev u ≡ Ev v) ⊎ (Ev u ≢ Ev v)
    go true e = inl (ap Ev (same_place-eq u v e))
    go false e = inr (λ h. let q : u ≡ v = cc in true≢false (sym (subst (λ z. same_place u z ≡ true) q (refl_place u)) ∙ e))

no_test : false ≡ true → ⊥
no_test h = true≢false (sym h)

start_never : (b : Bool) (mv : Move Local) → (mv ≡ End → ⊥) → start_where b mv ≡ End → ⊥
start_never true mv f h = f h
start_never false Stay f h = cc
start_never false (Start g) f h = cc
start_never false End f h = f h

if_never : (b : Bool) (mv : Move Local) → (mv ≡ End → ⊥) → (if b then mv else Stay) ≡ End → ⊥
if_never true mv f h = f h
if_never false mv f h = cc

module _ (world : World) where
  abbrev due : Scene → Begun → Place → Bool
  due = due_now world

  abbrev before : Scene → Begun → Place → Place → Bool
  before = before_now world

  abbrev Next : Scene → Begun → Place → Type 0
  Next = IsNext world

  abbrev Reached : Scene → Begun → Place → Type 0
  Reached = IsReached world

  abbrev reached_b : Scene → Begun → Place → Bool
  reached_b = is_reached world

  abbrev R : Scene → Option Begun → Pick → Type 0
  R sc o p = ready_in world sc o p ≡ true

  abbrev nxt : Local → Option Begun → Pick → Value → Local
  nxt = next world

  pub in_range : (f : Scene) (e : Begun) (u : Place) → due f e u ≡ true → u.node < nodes e
  in_range f e u h = let r = due_lt (taken_by world f e) (tree_of e.root) 0 u h in omega (arith, r)

  pub reached_of : (f : Scene) (e : Begun) (u : Place) → reached_b f e u ≡ true → Reached f e u
  reached_of f e u h = record {
    due = and_l (due f e u) _ h;
    earlier = λ v dv bv.
        implied (due f e v && before f e v u) _ (get (λ v. not (due f e v && before f e v u) || is_some (e.given v)) (nodes e) (and_r (due f e u) _ h) v
        (in_range f e v dv)) (and_b _ _ dv bv);
  }

  pub b_of_reached : (f : Scene) (e : Begun) (u : Place) → Reached f e u → reached_b f e u ≡ true
  b_of_reached f e u r =
      and_b _ _ r.due (all (λ v. not (due f e v && before f e v u) || is_some (e.given v)) (nodes e)
      (λ v l. put _ _ (λ a. r.earlier v (and_l (due f e v) _ a) (and_r (due f e v) _ a))))

  pub next_of : (f : Scene) (e : Begun) (u : Place) → R f (Some e) (Ev u) → Next f e u
  next_of f e u h =
      let a = and_l (reached_b f e u && not (is_some (e.given u))) _ h in
      let r = reached_of f e u (and_l (reached_b f e u) _ a) in
      record { due = r.due; left = left_of (e.given u) (and_r (reached_b f e u) _ a); earlier = r.earlier }

  pub closed_of : (f : Scene) (e : Begun) (u : Place) → R f (Some e) (Ev u) → (v : Place) → v.node < nodes e → is_some (e.given v) ≡ true → Reached f e v
  closed_of f e u h v l g =
      reached_of f e v (implied (is_some (e.given v)) _
      (get (λ v. not (is_some (e.given v)) || reached_b f e v) (nodes e) (and_r (reached_b f e u && not (is_some (e.given u))) _ h) v l) g)

  pub ready_b : (f : Scene) (e : Begun) (u : Place) → Next f e u → ((v : Place) → v.node < nodes e → is_some (e.given v) ≡ true → Reached f e v) →
      R f (Some e) (Ev u)
  ready_b f e u n closed =
      and_b _ _ (and_b _ _ (b_of_reached f e u (record { due = n.due; earlier = n.earlier })) (not_some (e.given u) n.left))
      (all (λ v. not (is_some (e.given v)) || reached_b f e v) (nodes e) (λ v l. put _ _ (λ g. b_of_reached f e v (closed v l g))))

  -- what is done after a ready pick was reached
  after_closed : (f : Scene) (e : Begun) (u : Place) (w : Value) → R f (Some e) (Ev u) →
      (v : Place) → v.node < nodes e → is_some ((with_given e u w).given v) ≡ true → Reached f (with_given e u w) v
  after_closed f e u w h v l g = closed_at world f e u w (next_of f e u h) v (closed_of f e u h v l) g

  control_clash : (f : Scene) (e : Begun) (v : Place) → R f (Some e) Control → R f (Some e) (Ev v) → ⊥
  control_clash f e v h r =
      let n = next_of f e v r in
      none_some (e.given v) n.left (implied (due f e v) _ (get (λ u. not (due f e u) || is_some (e.given u)) (nodes e) h v (in_range f e v n.due)) n.due)

  keeps_in : (f : Local) (o : Option Begun) (x q : Pick) (w : Value) → R f.scene o x → R f.scene o q → x ≢ q → R (nxt f o x w).scene (nxt f o x w).begun q
  keeps_in f None Control Control w rx rq ne = absurd (ne refl)
  keeps_in f None Control (Ev v) w rx rq ne = absurd (no_test rq)
  keeps_in f None (Ev u) q w rx rq ne = absurd (no_test rx)
  keeps_in f (Some e) Control Control w rx rq ne = absurd (ne refl)
  keeps_in f (Some e) Control (Ev v) w rx rq ne = absurd (control_clash f.scene e v rx rq)
  keeps_in f (Some e) (Ev u) Control w rx rq ne = absurd (control_clash f.scene e u rq rx)
  keeps_in f (Some e) (Ev u) (Ev v) w rx rq ne =
      ready_b f.scene (with_given e u w) v (keeps_ready world f.scene e u v w (next_of f.scene e u rx) (next_of f.scene e v rq) (λ q. ne (ap Ev q)))
      (after_closed f.scene e u w rx)

  swaps_in : (f : Local) (o : Option Begun) (x q : Pick) (w v : Value) → R f.scene o x → R f.scene o q → x ≢ q
      → nxt (nxt f o x w) (nxt f o x w).begun q v ≡ nxt (nxt f o q v) (nxt f o q v).begun x w
  swaps_in f None Control Control w v rx rq ne = absurd (ne refl)
  swaps_in f None Control (Ev u) w v rx rq ne = absurd (no_test rq)
  swaps_in f None (Ev u) q w v rx rq ne = absurd (no_test rx)
  swaps_in f (Some e) Control Control w v rx rq ne = absurd (ne refl)
  swaps_in f (Some e) Control (Ev u) w v rx rq ne = absurd (control_clash f.scene e u rx rq)
  swaps_in f (Some e) (Ev u) Control w v rx rq ne = absurd (control_clash f.scene e u rq rx)
  swaps_in f (Some e) (Ev u) (Ev q) w v rx rq ne = frame_swap f e u q w v (λ p. ne (ap Ev p))

  script_in : (f : Local) (o : Option Begun) (x q : Pick) (w : Value) → R f.scene o x → R f.scene o q → x ≢ q
      → does world (nxt f o x w) (nxt f o x w).begun q ≡ does world f o q
  script_in f None Control Control w rx rq ne = absurd (ne refl)
  script_in f None Control (Ev v) w rx rq ne = absurd (no_test rq)
  script_in f None (Ev u) q w rx rq ne = absurd (no_test rx)
  script_in f (Some e) Control Control w rx rq ne = absurd (ne refl)
  script_in f (Some e) Control (Ev v) w rx rq ne = absurd (control_clash f.scene e v rx rq)
  script_in f (Some e) (Ev u) Control w rx rq ne = absurd (control_clash f.scene e u rq rx)
  script_in f (Some e) (Ev u) (Ev v) w rx rq ne = event_same world f.scene e u v w (next_of f.scene e u rx) (next_of f.scene e v rq) (λ q. ne (ap Ev q))

  move_in : (f : Local) (o : Option Begun) (x q : Pick) (w : Value) → R f.scene o x → R f.scene o q → x ≢ q
      → move world (nxt f o x w) (nxt f o x w).begun q ≡ move world f o q
  move_in f None Control Control w rx rq ne = absurd (ne refl)
  move_in f None Control (Ev v) w rx rq ne = absurd (no_test rq)
  move_in f None (Ev u) q w rx rq ne = absurd (no_test rx)
  move_in f (Some e) Control Control w rx rq ne = absurd (ne refl)
  move_in f (Some e) Control (Ev v) w rx rq ne = absurd (control_clash f.scene e v rx rq)
  move_in f (Some e) (Ev u) Control w rx rq ne = absurd (control_clash f.scene e u rq rx)
  move_in f (Some e) (Ev u) (Ev v) w rx rq ne = frames_same world f.scene e u v w (next_of f.scene e u rx) (next_of f.scene e v rq) (λ q. ne (ap Ev q))

  opens_same : (f : Local) (o : Option Begun) (x q : Pick) (w : Value) → R f.scene o x → R f.scene o q → x ≢ q → opens_in (nxt f o x w).begun q ≡ opens_in o q
  opens_same f None Control Control w rx rq ne = absurd (ne refl)
  opens_same f None Control (Ev v) w rx rq ne = absurd (no_test rq)
  opens_same f None (Ev u) q w rx rq ne = absurd (no_test rx)
  opens_same f (Some e) Control Control w rx rq ne = absurd (ne refl)
  opens_same f (Some e) Control (Ev v) w rx rq ne = absurd (control_clash f.scene e v rx rq)
  opens_same f (Some e) (Ev u) Control w rx rq ne = refl
  opens_same f (Some e) (Ev u) (Ev v) w rx rq ne = refl

  -- no event ends its frame
  frame_never : (f : Scene) (k n : ℕ) (vs : List Value) (b : Option Stmt) → body_frame world f k n vs b ≡ End → ⊥
  frame_never f k n vs None h = cc
  frame_never f k n vs (Some s) h = cc

  call_never : (f : Scene) (k : ℕ) (vs : List Value) (c : Option (ℕ × Function)) → start_call world f k vs c ≡ End → ⊥
  call_never f k vs None h = cc
  call_never f k vs (Some c) h = frame_never f k c.0 vs (own_body c.1) h

  started_never : (f : Scene) (k : ℕ) (h : Head) (vs : List Value) → started world f k h vs ≡ End → ⊥
  started_never f k (Call d) vs q = call_never f k (later_values vs) (called_by world vs) q
  started_never f k (Isolated e) vs q = cc
  started_never f k _ vs q = cc

  move_never : (f : Scene) (e : Begun) (u : Place) (o : Option Expr) → move_of world f e u o ≡ End → ⊥
  move_never f e u None q = cc
  move_never f e u (Some (expr h ty line es)) q = if_never (is_body u.kind) _ (started_never f u.node h _) q

  leave_in : (f : Local) (o : Option Begun) (l : Pick) → R f.scene o l
      → start_where (gives (does world f o l)) (move world f o l) ≡ End → is_control l ≡ true
  leave_in f o Control r h = refl
  leave_in f None (Ev u) r h = absurd (no_test r)
  leave_in f (Some e) (Ev u) r h = absurd (start_never (gives (does world f (Some e) (Ev u))) _ (move_never f.scene e u (at_node 0 e.root u.node)) h)

  alone_in : (f : Scene) (o : Option Begun) (c q : Pick) → R f o c → is_control c ≡ true → R f o q → c ≡ q
  alone_in f o (Ev u) q rc k rq = absurd (no_test k)
  alone_in f o Control Control rc k rq = refl
  alone_in f None Control (Ev v) rc k rq = absurd (no_test rq)
  alone_in f (Some e) Control (Ev v) rc k rq = absurd (control_clash f e v rc rq)

  abbrev B : Scene → Option Begun → Pick → Pick → Type 0
  B f o p q = beside_in world f o p q ≡ true

  abbrev L : Scene → Option Begun → Pick → Pick → Type 0
  L f o p q = level_in world f o p q ≡ true

  level_put : (f : Scene) (e : Begun) (u v : Place) → Reached f e u → Reached f e v → before f e u v ≡ false → before f e v u ≡ false →
      L f (Some e) (Ev u) (Ev v)
  level_put f e u v ru rv b c = and_b _ _ (and_b _ _ (b_of_reached f e u ru) (b_of_reached f e v rv)) (and_b _ _ (to_not _ b) (to_not _ c))

  reached_ready : (f : Scene) (e : Begun) (u : Place) → R f (Some e) (Ev u) → Reached f e u
  reached_ready f e u r = let n = next_of f e u r in record { due = n.due; earlier = n.earlier }

  level_ready_in : (f : Scene) (o : Option Begun) (p q : Pick) → R f o p → R f o q → p ≢ q → L f o p q
  level_ready_in f None Control Control rp rq ne = absurd (ne refl)
  level_ready_in f None Control (Ev v) rp rq ne = absurd (no_test rq)
  level_ready_in f None (Ev u) q rp rq ne = absurd (no_test rp)
  level_ready_in f (Some e) Control Control rp rq ne = absurd (ne refl)
  level_ready_in f (Some e) Control (Ev v) rp rq ne = absurd (control_clash f e v rp rq)
  level_ready_in f (Some e) (Ev u) Control rp rq ne = absurd (control_clash f e u rq rp)
  level_ready_in f (Some e) (Ev u) (Ev v) rp rq ne =
      level_put f e u v (reached_ready f e u rp) (reached_ready f e v rq) (not_before world f e u v (next_of f e u rp) (next_of f e v rq))
      (not_before world f e v u (next_of f e v rq) (next_of f e u rp))

  level_next_in : (f : Local) (o : Option Begun) (p q x : Pick) (w : Value) → L f.scene o p q → R f.scene o x → is_control x ≡ false →
      L (nxt f o x w).scene (nxt f o x w).begun p q
  level_next_in f None p q x w l rx cx = absurd (no_test l)
  level_next_in f (Some e) Control q x w l rx cx = absurd (no_test l)
  level_next_in f (Some e) (Ev u) Control x w l rx cx = absurd (no_test l)
  level_next_in f (Some e) (Ev u) (Ev v) Control w l rx cx = absurd (true≢false cx)
  level_next_in f (Some e) (Ev u) (Ev v) (Ev z) w l rx cx =
      let n = next_of f.scene e z rx in
      let both = and_l (reached_b f.scene e u && reached_b f.scene e v) _ l in
      let apart = and_r (reached_b f.scene e u && reached_b f.scene e v) _ l in
      let ru = reached_of f.scene e u (and_l (reached_b f.scene e u) _ both) in
      let rv = reached_of f.scene e v (and_r (reached_b f.scene e u) _ both) in
      let b = not_of _ (and_l (not (before f.scene e u v)) _ apart) in
      let c = not_of _ (and_r (not (before f.scene e u v)) _ apart) in
      level_put f.scene (with_given e z w) u v (reached_next world f.scene e z u w n ru) (reached_next world f.scene e z v w n rv)
      (before_stays world f.scene e z u v w n ru rv b) (before_stays world f.scene e z v u w n rv ru c)

  level_beside_in : (f : Scene) (o : Option Begun) (p q : Pick) → L f o p q → B f o p q
  level_beside_in f None p q l = absurd (no_test l)
  level_beside_in f (Some e) Control q l = absurd (no_test l)
  level_beside_in f (Some e) (Ev u) Control l = absurd (no_test l)
  level_beside_in f (Some e) (Ev u) (Ev v) l = and_r (reached_b f e u && reached_b f e v) _ l

  beside_before_in : (f : Local) (o : Option Begun) (p x q : Pick) (v : Value) → R f.scene o q → R f.scene o x → x ≢ q →
      B (nxt f o q v).scene (nxt f o q v).begun p x → B f.scene o p x
  beside_before_in f None p x (Ev u) v rq rx ne b = absurd (no_test rq)
  beside_before_in f None p (Ev u) Control v rq rx ne b = absurd (no_test rx)
  beside_before_in f None p Control Control v rq rx ne b = absurd (ne refl)
  beside_before_in f (Some e) p Control Control v rq rx ne b = absurd (ne refl)
  beside_before_in f (Some e) p (Ev u) Control v rq rx ne b = absurd (control_clash f.scene e u rq rx)
  beside_before_in f (Some e) p Control (Ev z) v rq rx ne b = absurd (control_clash f.scene e z rx rq)
  beside_before_in f (Some e) Control (Ev u) (Ev z) v rq rx ne b = absurd (no_test b)
  beside_before_in f (Some e) (Ev y) (Ev u) (Ev z) v rq rx ne b =
      let n = next_of f.scene e z rq in
      let k = choices_kept world f.scene e z v n.due n.left in
      let T = taken_by world f.scene e in
      let T' = taken_by world f.scene (with_given e z v) in
      and_b _ _ (to_not _ (fewer _ _ (before_kept T T' k (tree_of e.root) 0 y u) (not_of _ (and_l (not (before f.scene (with_given e z v) y u)) _ b))))
      (to_not _ (fewer _ _ (before_kept T T' k (tree_of e.root) 0 u y) (not_of _ (and_r (not (before f.scene (with_given e z v) y u)) _ b))))

  done_next_in : (f : Local) (o : Option Begun) (p : Pick) (v : Value) → R f.scene o p → is_control p ≡ false → done_in (nxt f o p v).begun p ≡ true
  done_next_in f o Control v r c = absurd (true≢false c)
  done_next_in f None (Ev u) v r c = absurd (no_test r)
  done_next_in f (Some e) (Ev u) v r c = and_b _ _ (given_at e u u v refl) (lt_lt u.node (nodes e) (in_range f.scene e u (next_of f.scene e u r).due))

  done_stays_in : (f : Local) (o : Option Begun) (p x : Pick) (w : Value) → done_in o p ≡ true → R f.scene o x → is_control x ≡ false →
      done_in (nxt f o x w).begun p ≡ true
  done_stays_in f o p Control w d r c = absurd (true≢false c)
  done_stays_in f None p (Ev z) w d r c = absurd (no_test r)
  done_stays_in f (Some e) Control (Ev z) w d r c = refl
  done_stays_in f (Some e) (Ev u) (Ev z) w d r c = and_b _ _ (given_on e z u w (and_l (is_some (e.given u)) _ d)) (and_r (is_some (e.given u)) _ d)

  control_beside_in : (f : Scene) (o : Option Begun) (c q : Pick) → is_control c ≡ true → B f o c q → ⊥
  control_beside_in f o (Ev u) q h b = no_test h
  control_beside_in f None Control q h b = no_test b
  control_beside_in f (Some e) Control q h b = no_test b

  level_done_in : (f : Scene) (o : Option Begun) (p q : Pick) → done_in o p ≡ true → R f o q → is_control q ≡ false → B f o p q → L f o p q
  level_done_in f None p q d r c b = absurd (no_test b)
  level_done_in f (Some e) Control q d r c b = absurd (no_test b)
  level_done_in f (Some e) (Ev u) Control d r c b = absurd (no_test b)
  level_done_in f (Some e) (Ev u) (Ev v) d r c b =
      let ru = closed_of f e v r u (lt_of u.node (nodes e) (and_r (is_some (e.given u)) _ d)) (and_l (is_some (e.given u)) _ d) in
      and_b _ _ (and_b _ _ (b_of_reached f e u ru) (b_of_reached f e v (reached_ready f e v r))) b

  start_next_in : (f : Local) (o : Option Begun) (x q : Pick) (v : Value) → opens_in o q ≡ false → R f.scene o x → R f.scene o q → x ≢ q →
      may_start_in o x ≡ true → may_start_in (nxt f o q v).begun x ≡ true
  start_next_in f None x (Ev u) v oq rx rq ne ok = absurd (no_test rq)
  start_next_in f None (Ev u) Control v oq rx rq ne ok = absurd (no_test rx)
  start_next_in f None Control Control v oq rx rq ne ok = absurd (ne refl)
  start_next_in f (Some e) Control Control v oq rx rq ne ok = absurd (ne refl)
  start_next_in f (Some e) (Ev u) Control v oq rx rq ne ok = absurd (control_clash f.scene e u rq rx)
  start_next_in f (Some e) Control (Ev z) v oq rx rq ne ok = refl
  start_next_in f (Some e) (Ev u) (Ev z) v oq rx rq ne ok = or_keep (not (is_body u.kind)) _ _ (none_next e z v oq) ok

  control_starts_in : (o : Option Begun) (c : Pick) → is_control c ≡ true → may_start_in o c ≡ true
  control_starts_in None c h = refl
  control_starts_in (Some e) Control h = refl
  control_starts_in (Some e) (Ev u) h = absurd (no_test h)

  -- the value of an update
  val_is : (e : Begun) (u : Place) → (is_val u.kind && update_at 0 (tree_of e.root) u.node) ≡ true → u ≡ place u.node Val
  val_is e u h = λ i. record { node = u.node; kind = val_kind u.kind (and_l (is_val u.kind) _ h) i }
    where
      val_kind : (k : Kind) → is_val k ≡ true → k ≡ Val
      val_kind Val h = refl
      val_kind Eff h = absurd (cc)
      val_kind Body h = absurd (cc)

  half_at : (f : Scene) (e : Begun) (m : ℕ) (v : Value) → update_at 0 (tree_of e.root) m ≡ true → R f (Some e) (Ev (place m Val)) →
      R f (Some (with_given e (place m Val) v)) (Ev (place m Eff))
  half_at f e m v up r =
      let n = next_of f e (place m Val) r in
      ready_b f (with_given e (place m Val) v) (place m Eff)
      (effect_next world f e m v up n (closed_of f e (place m Val) r (place m Eff) (in_range f e (place m Val) n.due)))
      (after_closed f e (place m Val) v r)

  half_ready_in : (f : Local) (o : Option Begun) (q : Pick) (v : Value) → R f.scene o q → opens_in o q ≡ true →
      R (nxt f o q v).scene (nxt f o q v).begun (half q)
  half_ready_in f None q v rq oq = absurd (no_test oq)
  half_ready_in f (Some e) Control v rq oq = absurd (no_test oq)
  half_ready_in f (Some e) (Ev u) v rq oq =
      let is = val_is e u oq in
      let at = half_at f.scene e u.node v (and_r (is_val u.kind) _ oq) (subst (λ z. R f.scene (Some e) (Ev z)) is rq) in
      subst (λ z. R f.scene (Some (with_given e z v)) (Ev (place u.node Eff))) (sym is) at

  half_later_in : (f : Scene) (o : Option Begun) (q : Pick) → R f o q → opens_in o q ≡ true → R f o (half q) → ⊥
  half_later_in f None q rq oq rt = no_test oq
  half_later_in f (Some e) Control rq oq rt = no_test oq
  half_later_in f (Some e) (Ev u) rq oq rt =
      let n = next_of f e (place u.node Val) (subst (λ z. R f (Some e) (Ev z)) (val_is e u oq) rq) in
      none_some (e.given (place u.node Val)) n.left
      ((next_of f e (place u.node Eff) rt).earlier (place u.node Val) n.due
      (halves (taken_by world f e) u.node (tree_of e.root) 0 (and_r (is_val u.kind) _ oq)))

  half_event_in : (o : Option Begun) (q : Pick) → opens_in o q ≡ true → is_control (half q) ≡ false
  half_event_in o Control h = absurd (no_opens o h)
    where
      no_opens : (o : Option Begun) → opens_in o Control ≡ true → ⊥
      no_opens None h = no_test h
      no_opens (Some e) h = no_test h
  half_event_in o (Ev u) h = refl

  opens_event_in : (o : Option Begun) (q : Pick) → opens_in o q ≡ true → is_control q ≡ false
  opens_event_in None q h = absurd (no_test h)
  opens_event_in (Some e) Control h = absurd (no_test h)
  opens_event_in (Some e) (Ev u) h = refl

  half_closes_in : (f : Local) (o : Option Begun) (q : Pick) (v : Value) → opens_in o q ≡ true → opens_in (nxt f o q v).begun (half q) ≡ false
  half_closes_in f None q v h = absurd (no_test h)
  half_closes_in f (Some e) Control v h = absurd (no_test h)
  half_closes_in f (Some e) (Ev u) v h = refl

  half_starts_in : (f : Local) (o : Option Begun) (q : Pick) (v : Value) → opens_in o q ≡ true → may_start_in (nxt f o q v).begun (half q) ≡ true
  half_starts_in f None q v h = absurd (no_test h)
  half_starts_in f (Some e) Control v h = absurd (no_test h)
  half_starts_in f (Some e) (Ev u) v h = refl

  half_beside_in : (f : Local) (o : Option Begun) (q : Pick) (v : Value) → opens_in o q ≡ true → B (nxt f o q v).scene (nxt f o q v).begun q (half q) → ⊥
  half_beside_in f None q v h b = no_test h
  half_beside_in f (Some e) Control v h b = no_test h
  half_beside_in f (Some e) (Ev u) v h b =
      let hv = halves (taken_by world f.scene (with_given e u v)) u.node (tree_of e.root) 0 (and_r (is_val u.kind) _ h) in
      let hu = subst (λ z. before f.scene (with_given e u v) z (place u.node Eff) ≡ true) (sym (val_is e u h)) hv in
      true≢false (sym hu ∙ not_of _ (and_l (not (before f.scene (with_given e u v) u (place u.node Eff))) _ b))

  start_pair_in : (f : Local) (o : Option Begun) (x q : Pick) (v w : Value) → R f.scene o x → R f.scene o q → opens_in o q ≡ true → x ≢ q →
      may_start_in o x ≡ true
      → may_start_in (nxt (nxt f o q v) (nxt f o q v).begun (half q) w).begun x ≡ true
  start_pair_in f None x q v w rx rq oq ne ok = absurd (no_test oq)
  start_pair_in f (Some e) x Control v w rx rq oq ne ok = absurd (no_test oq)
  start_pair_in f (Some e) Control (Ev z) v w rx rq oq ne ok = refl
  start_pair_in f (Some e) (Ev u) (Ev z) v w rx rq oq ne ok = or_keep (not (is_body u.kind)) _ _ (none_pair e z v w) ok

  module _ {Part Seen Fact : Type 0} (parts : StorePart Part Seen Fact) where
    pub frame_laws : FrameLaws (frame_machine world parts)
    frame_laws = record {
      keeps = λ f x q w rx rq ne. keeps_in f f.begun x q w rx rq ne;
      swaps = λ f x q w v rx rq ne. swaps_in f f.begun x q w v rx rq ne;
      same_move = λ f x q w rx rq ne. ap₂ (λ s mv. start_where (gives s) mv) (script_in f f.begun x q w rx rq ne) (move_in f f.begun x q w rx rq ne);
      same_does = λ f x q w rx rq ne. ap (λ sc s. done_by (run world.rows sc s)) (script_in f f.begun x q w rx rq ne);
    }

    pub order_laws : OrderLaws (frame_machine world parts)
    order_laws = record {
      same_opens = λ f x q w rx rq ne. opens_same f f.begun x q w rx rq ne;
      leave_control = λ f l r h. leave_in f f.begun l r h;
      same_pick = same_pick;
      alone = λ f c q rc k rq. alone_in f.scene f.begun c q rc k rq;
      level_ready = λ f p q rp rq ne. level_ready_in f.scene f.begun p q rp rq ne;
      level_next = λ f p q x w l rx cx. level_next_in f f.begun p q x w l rx cx;
      level_beside = λ f p q l. level_beside_in f.scene f.begun p q l;
      beside_before = λ f p x q v rq rx ne b. beside_before_in f f.begun p x q v rq rx ne b;
      done_next = λ f p v r c. done_next_in f f.begun p v r c;
      done_stays = λ f p x w d r c. done_stays_in f f.begun p x w d r c;
      control_starts = λ f c r h. control_starts_in f.begun c h;
      control_beside = λ f c q h b. control_beside_in f.scene f.begun c q h b;
      level_done = λ f p q d r c b. level_done_in f.scene f.begun p q d r c b;
      start_next = λ f x q v oq rx rq ne ok. start_next_in f f.begun x q v oq rx rq ne ok;
    }

    pub update_laws : UpdateLaws (frame_machine world parts)
    update_laws = record {
      half_ready = λ f q v rq oq. half_ready_in f f.begun q v rq oq;
      half_later = λ f q rq oq rt. half_later_in f.scene f.begun q rq oq rt;
      half_event = λ f q oq. half_event_in f.begun q oq;
      opens_event = λ f q oq. opens_event_in f.begun q oq;
      half_closes = λ f q v rq oq. half_closes_in f f.begun q v oq;
      half_starts = λ f q v rq oq. half_starts_in f f.begun q v oq;
      half_beside = λ f q v rq oq b. half_beside_in f f.begun q v oq b;
      start_pair = λ f x q v w rx rq oq ne ok. start_pair_in f f.begun x q v w rx rq oq ne ok;
    }
