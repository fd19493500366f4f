-- Entries of a trace, conflicts of lists of items, and what a control step does to its frame.
use Rattle.std.proofs.Common.{◌≡◌, ℕ, suc, ◌<◌, ◌≤◌, Bool, true, false, ◌&&◌, ◌||◌, ◌==◌, if◌then◌else◌, true≢false, List, [], ◌∷◌, length, Option, Some}
use Rattle.std.proofs.Common.{None, is_some, refl, sym, ap, ap₂, ◌∙◌, subst, ◌⊎◌, inl, inr, arith}
use Rattle.std.proofs.lemmas.Bool.Decides.{nat_tests}
use Rattle.ub_base.specs.Frames.{Path}
use Rattle.ub_base.specs.declared.names.Item.{Item}
use Rattle.addr_map.specs.declared.map.Row.{Row}
use Rattle.ub_base.specs.declared.clause.Kind.{Kind}
use Rattle.ub_base.specs.declared.clause.Kind.TheVariants.{Body}
use Rattle.c_typed.specs.declared.tree.Place.{Place}
use Rattle.c_typed.specs.Order.{place, is_body}
use Rattle.c_model.specs.World.{World}
use Rattle.c_model.specs.Values.{Value}
use Rattle.c_model.specs.Control.{Todo, Enter, Leave, Begin, Go_to, Go_out, Go_on, Go_back, ready_work}
use Rattle.c_model.specs.Steps.{Local, Begun, Pick, Control, Ev, control_next, next}
use Rattle.c_model.specs.Runs.{Entry}
use Rattle.addr_map.specs.Conflict.{conflicts_one, stands_at, is_access, conflicts_with as clash_one, some_conflict as conflict}
use Rattle.c_model.specs.Findings.{clash, accesses, same_path, Has, first, later, Both, newest, older}
use Rattle.c_model.specs.ModelMachine.{done_in}
use Rattle.machine_laws.specs.Orders as orders
use Rattle.order_laws.specs.PermittedPicks.{ClosedIn}

-- paths
eq_of : (a b : ℕ) → (a == b) ≡ true → a ≡ b
eq_of a b h = grind (arith, nat_tests, h)

and_l : (a b : Bool) → (a && b) ≡ true → a ≡ true
and_l true b h = refl
and_l false b h = h

and_r : (a b : Bool) → (a && b) ≡ true → b ≡ true
and_r true b h = h
and_r false b h = absurd (cc)

pub path_is : (a b : Path) → same_path a b ≡ true → a ≡ b
path_is [] [] h = refl
path_is (x ∷ f) (y ∷ g) h =
    let k = and_r (x.0 == y.0) _ h in
    let e0 = eq_of x.0 y.0 (and_l (x.0 == y.0) _ h) in
    let e1 = eq_of x.1 y.1 (and_l (x.1 == y.1) _ k) in
    ap₂ (λ s p. s ∷ p) (λ i. (e0 i, e1 i)) (path_is f g (and_r (x.1 == y.1) _ k))
path_is [] (y ∷ g) h = absurd (cc)
path_is (x ∷ f) [] h = absurd (cc)

eq_refl : (a : ℕ) → (a == a) ≡ true
eq_refl a = grind (arith, nat_tests)

both_true : (a b : Bool) → a ≡ true → b ≡ true → (a && b) ≡ true
both_true true b h k = k
both_true false b h k = h

pub path_refl : (a : Path) → same_path a a ≡ true
path_refl [] = refl
path_refl (x ∷ f) = both_true _ _ (eq_refl x.0) (both_true _ _ (eq_refl x.1) (path_refl f))

pub shorter : (a b : Path) → length a < length b → same_path a b ≡ false
shorter a b l = go (same_path a b) refl
  where
    go : (c : Bool) → same_path a b ≡ c → same_path a b ≡ false
    go false e = e
    go true e = (let k = ap length (path_is a b e) in absurd (omega (arith, k, l)))

-- an event of a longer trace
pub has_cases : (x : Entry) (trace : List Entry) (e : Entry) (v : Place) → Has (x ∷ trace) e v → ((x ≡ e) × (x.place ≡ Some v)) ⊎ Has trace e v
has_cases x trace _ v (first _ _ _ p) = inl (refl, p)
has_cases x trace e v (later _ _ _ _ h) = inr h

pub record IsNewest (x : Entry) (trace : List Entry) (d : Entry) (u : Place) (e : Entry) (v : Place) : Type 0 where
  pub entry : x ≡ d
  pub at : x.place ≡ Some u
  pub among : Has trace e v
  pub of_frame : same_path x.path e.path ≡ true
  pub of_turn : x.turn ≡ e.turn

pub both_cases : (x : Entry) (trace : List Entry) (d : Entry) (u : Place) (e : Entry) (v : Place) → Both (x ∷ trace) d u e v
    → IsNewest x trace d u e v ⊎ Both trace d u e v
both_cases x trace _ u e v (newest _ _ _ _ _ p h s t) = inl (record { entry = refl; at = p; among = h; of_frame = s; of_turn = t })
both_cases x trace d u e v (older _ _ _ _ _ _ b) = inr b

-- conflicts of lists and of their parts
or_cases : (a b : Bool) → (a || b) ≡ true → (a ≡ true) ⊎ (b ≡ true)
or_cases true b h = inl refl
or_cases false b h = inr h

or_b : (a b : Bool) → b ≡ true → (a || b) ≡ true
or_b true b h = refl
or_b false b h = h

or_a : (a b : Bool) → a ≡ true → (a || b) ≡ true
or_a true b h = refl
or_a false b h = absurd (cc)

or_swap : (a b : Bool) → (a || b) ≡ true → (b || a) ≡ true
or_swap a b h = go (or_cases a b h)
  where
    go : (a ≡ true) ⊎ (b ≡ true) → (b || a) ≡ true
    go (inl k) = or_b b a k
    go (inr k) = or_a b a k

module _ (rows : List Row) where
  -- among the items of the one list, one that conflicts with the item
  clash_by : (i : Item) (is js : List Item) → clash_one rows i (accesses js) ≡ true → clash_one rows i js ≡ true
  clash_by i is [] h = h
  clash_by i is (j ∷ js) h = go (is_access j) h (clash_by i is js)
    where
      go : (b : Bool) → clash_one rows i (if b then j ∷ accesses js else accesses js) ≡ true
          → (clash_one rows i (accesses js) ≡ true → clash_one rows i js ≡ true) → clash_one rows i (j ∷ js) ≡ true
      go false h again = or_b _ _ (again h)
      go true h again = elim (or_cases (clash rows i j) _ h) [
        | inl k ↦ or_a _ _ k
        | inr k ↦ or_b _ _ (again k)
      ]

  pub accesses_conflict : (is js : List Item) → conflict rows (accesses is) (accesses js) ≡ true → conflict rows is js ≡ true
  accesses_conflict [] js h = absurd (cc)
  accesses_conflict (i ∷ is) js h = go (is_access i) h (accesses_conflict is js)
    where
      go : (b : Bool) → conflict rows (if b then i ∷ accesses is else accesses is) (accesses js) ≡ true
          → (conflict rows (accesses is) (accesses js) ≡ true → conflict rows is js ≡ true)
          → conflict rows (i ∷ is) js ≡ true
      go false h again = or_b _ _ (again h)
      go true h again = elim (or_cases (clash_one rows i (accesses js)) _ h) [
        | inl k ↦ or_a _ _ (clash_by i [] js k)
        | inr k ↦ or_b _ _ (again k)
      ]

  one_swap : (i : Item) (js : List Item) (ks : List Item) → clash_one rows i js ≡ true → conflict rows js (i ∷ ks) ≡ true
  one_swap i [] ks h = absurd (cc)
  one_swap i (j ∷ js) ks h = go (or_cases (clash rows i j) (clash_one rows i js) h) (one_swap i js ks)
    where
      go : (clash rows i j ≡ true) ⊎ (clash_one rows i js ≡ true) → (clash_one rows i js ≡ true → conflict rows js (i ∷ ks) ≡ true)
          → conflict rows (j ∷ js) (i ∷ ks) ≡ true
      go (inl k) again = or_a (clash_one rows j (i ∷ ks)) _ (or_a (clash rows j i) _
          (or_swap (conflicts_one (stands_at rows) i j) (conflicts_one (stands_at rows) j i) k))
      go (inr k) again = or_b _ _ (again k)

  more_right : (js : List Item) (i : Item) (ks : List Item) → conflict rows js ks ≡ true → conflict rows js (i ∷ ks) ≡ true
  more_right [] i ks h = absurd (cc)
  more_right (j ∷ js) i ks h = go (or_cases (clash_one rows j ks) (conflict rows js ks) h) (more_right js i ks)
    where
      go : (clash_one rows j ks ≡ true) ⊎ (conflict rows js ks ≡ true) → (conflict rows js ks ≡ true → conflict rows js (i ∷ ks) ≡ true)
          → conflict rows (j ∷ js) (i ∷ ks) ≡ true
      go (inl k) again = or_a _ _ (or_b _ _ k)
      go (inr k) again = or_b _ _ (again k)

  pub conflict_swap : (is js : List Item) → conflict rows is js ≡ true → conflict rows js is ≡ true
  conflict_swap [] js h = absurd (cc)
  conflict_swap (i ∷ is) js h = go (or_cases (clash_one rows i js) (conflict rows is js) h) (conflict_swap is js)
    where
      go : (clash_one rows i js ≡ true) ⊎ (conflict rows is js ≡ true) → (conflict rows is js ≡ true → conflict rows js is ≡ true)
          → conflict rows js (i ∷ is) ≡ true
      go (inl k) again = one_swap i js is k
      go (inr k) again = more_right js i is (again k)

abbrev pub Event : Type 0
Event = orders.Event (Local × ℕ) Pick Item

abbrev pub Held : Type 0
Held = orders.Held (Local × ℕ) Pick Item

abbrev pub AllDone : Option Begun → List Event → Type 0
AllDone o [] = Unit {0}
AllDone o (d ∷ es) = (done_in o d.pick ≡ true) × AllDone o es

pub place_is : (a b : Place) → Some a ≡ Some b → a ≡ b
place_is a b e = cc

pub pick_place : (a b : Place) → Ev a ≡ Ev b → a ≡ b
pick_place a b e = cc

-- the place of a body
pub body_place : (u : Place) → is_body u.kind ≡ true → u ≡ place u.node Body
body_place u h = λ i. record { node = u.node; kind = kind_is u.kind h i }
  where
    kind_is : (c : Kind) → is_body c ≡ true → c ≡ Body
    kind_is Body h = refl
    kind_is _ h = absurd (cc)

-- in the full expression that has begun the event is done
abbrev pub given_in : Option Begun → Place → Bool
given_in None v = false
given_in (Some e) v = is_some (e.given v)

pub none_begun : (o : Option Begun) → o ≡ None → (v : Place) → given_in o v ≡ true → ⊥
none_begun None e v d = true≢false (sym d)
none_begun (Some b) e v d = cc (e)

module _ (world : World) where
  -- after a control step
  pub record Moved (f g : Local) : Type 0 where
    pub path : f.scene.path ≡ g.scene.path
    pub turn : f.scene.turn ≤ g.scene.turn
    pub fresh : is_some g.begun ≡ true → g.scene.turn ≡ suc f.scene.turn
    pub function : f.function ≡ g.function
    pub closed : ClosedIn world g g.begun
    pub none_done : (v : Place) → given_in g.begun v ≡ true → ⊥

  same_closed : (f g : Local) → f.begun ≡ None → g.begun ≡ f.begun → ClosedIn world g g.begun
  same_closed f g e h = subst (λ o. ClosedIn world g o) (sym (h ∙ e)) tt

  never_begun : {A : Type 0} → (f g : Local) → f.begun ≡ None → g.begun ≡ f.begun → is_some g.begun ≡ true → A
  never_begun f g e h b = absurd (true≢false (sym b ∙ ap is_some (h ∙ e)))

  stays_put : (f g : Local) → f.begun ≡ None → g.begun ≡ f.begun → f.scene.path ≡ g.scene.path → f.scene.turn ≤ g.scene.turn → f.function ≡ g.function
      → Moved f g
  stays_put f g e h p t n = record {
    path = p;
    turn = t;
    fresh = λ b. never_begun f g e h b;
    function = n;
    closed = same_closed f g e h;
    none_done =
        none_begun g.begun (h ∙ e);
  }

  control_moves : (f : Local) (t : Todo) → f.begun ≡ None → Moved f (control_next world f t)
  control_moves f [] e = stays_put f f e refl refl (omega arith) refl
  control_moves f (Enter b ds ∷ rest) e = stays_put f (control_next world f (Enter b ds ∷ rest)) e refl refl (omega arith) refl
  control_moves f (Leave b ds ∷ rest) e = stays_put f (control_next world f (Leave b ds ∷ rest)) e refl refl (omega arith) refl
  control_moves f (Begin x what ∷ rest) e = record {
    path = refl;
    turn = omega arith;
    fresh = λ b. refl;
    function = refl;
    closed = λ v g. absurd (cc (g));
    none_done = λ v d. true≢false (sym d);
  }
  control_moves f (Go_to k ∷ rest) e = stays_put f (control_next world f (Go_to k ∷ rest)) e refl refl (omega arith) refl
  control_moves f (Go_out ∷ rest) e = stays_put f (control_next world f (Go_out ∷ rest)) e refl refl (omega arith) refl
  control_moves f (Go_on ∷ rest) e = stays_put f (control_next world f (Go_on ∷ rest)) e refl refl (omega arith) refl
  control_moves f (Go_back ∷ rest) e = stays_put f (control_next world f (Go_back ∷ rest)) e refl refl (omega arith) refl
  control_moves f (w ∷ rest) e = stays_put f (control_next world f (w ∷ rest)) e refl refl (omega arith) refl

  pub moves : (f : Local) (o : Option Begun) (v : Value) → f.begun ≡ o → Moved f (next world f o Control v)
  moves f None v e = control_moves f (ready_work f.todo) e
  moves f (Some b) v e = record {
    path = refl;
    turn = omega arith;
    fresh = λ h. absurd (cc (h));
    function = refl;
    closed = tt;
    none_done = λ v d. true≢false
        (sym d);
  }
