-- What each state of an order keeps: of each open frame what its trace tells, and what the values of its fixed places are.
use Rattle.std.proofs.Common.{◌≡◌, ℕ, suc, ◌<◌, ◌≤◌, Bool, true, false, ◌==◌, if◌then◌else◌, true≢false, List, [], ◌∷◌, length}
use Rattle.std.proofs.Common.{Option, Some, None, is_some, refl, sym, ap, ◌∙◌, subst, ◌⊎◌, inl, inr, arith}
use Rattle.ub_base.specs.declared.clause.Kind.{Kind}
use Rattle.ub_base.specs.declared.clause.Kind.TheVariants.{Val, Body}
use Rattle.ub_base.specs.declared.names.Item.{Item}
use Rattle.ub_base.specs.declared.names.ObjName.{ObjName}
use Rattle.ub_base.specs.declared.names.ObjName.TheVariants.{Argv}
use Rattle.ub_base.specs.Frames.{Path}
use Rattle.c_typed.specs.declared.tree.Place.{Place}
use Rattle.c_typed.specs.Tree.{is_quiet}
use Rattle.c_typed.specs.Order.{place, same_place, is_body}
use Rattle.c_model.specs.Program.{Head, Listed, Expr, expr, tree_of}
use Rattle.c_model.specs.Values.{Value, truth, integer_of}
use Rattle.c_model.specs.World.{World}
use Rattle.c_model.specs.Control.{Todo, Unused, Begin, Enter, Leave, Unwrite, Nothing_to_do, Go_to, Go_out, Go_on, Go_back, To_do, Rest, Round}
use Rattle.c_model.specs.Control.{Again, Test, Break_here, ready_work, work_after}
use Rattle.c_model.specs.Steps.{Scene, Local, Begun, with_given, at_node, name_of}
use Rattle.c_model.specs.Steps.{turn_of, without_block, control_next, settled}
use Rattle.c_model.specs.Runs.{Entry}
use Rattle.c_model.specs.Findings.{is_under, Has}
use Rattle.c_model.specs.ChoiceLaws.{IsNext, IsClosed}
use Rattle.c_model.proofs.Listed.{same_place_eq, same_place_itself}
use Rattle.c_model.proofs.Halves.{closed_at}
use Rattle.static_laws.specs.NeverRaces.{KeepsSizes}
use Rattle.static_laws.proofs.Scripts.{Each}
use Rattle.static_laws.proofs.Reach.{Site, Reach, reach_by, InReach}
use Rattle.static_laws.proofs.Sites.{first_site, site_of, FixedIn, at}
use Rattle.static_laws.proofs.Paths.{under_refl, under_tail, under_length, under_same, has_cases}
use Rattle.c_model.proofs.Ranks.{eq_of}

-- open blocks have turns from 1 on, which fall towards the outer ones
abbrev pub Falls : ℕ → List (ℕ × ℕ) → Type 0
Falls n [] = Unit {0}
Falls n (b ∷ bs) = (0 < b.1) × ((b.1 < n) × Falls b.1 bs)

falls_more : (m n : ℕ) (bs : List (ℕ × ℕ)) → m ≤ n → Falls m bs → Falls n bs
falls_more m n [] l h = tt
falls_more m n (b ∷ bs) l (p, h) = (let k = h.0 in (p, (omega (arith, k, l), h.1)))

falls_without : (n : ℕ) (bs : List (ℕ × ℕ)) (b : ℕ) → Falls n bs → Falls n (without_block bs b)
falls_without n [] b h = tt
falls_without n (o ∷ os) b (p, h) = go (o.0 == b) (falls_without o.1 os b h.1)
  where
    go : (c : Bool) → Falls o.1 (without_block os b) → Falls n (if c then os else o ∷ without_block os b)
    go true r = (let k = h.0 in falls_more o.1 n os (omega (arith, k)) h.1)
    go false r = (p, (h.0, r))

-- blocks of one turn are one, or none of them is open
pub one_turn : (n : ℕ) (bs : List (ℕ × ℕ)) (a b : ℕ) → Falls n bs → turn_of bs a ≡ turn_of bs b → (a ≡ b) ⊎ (turn_of bs a ≡ 0)
one_turn n [] a b h e = inr refl
one_turn n (o ∷ os) a b (p, h) e = go (o.0 == a) (o.0 == b) refl refl e (one_turn o.1 os a b h.1)
  where
    below : (n : ℕ) (os : List (ℕ × ℕ)) (a : ℕ) → 0 < n → Falls n os → turn_of os a < n
    below n [] a z h = z
    below n (o ∷ os) a z (p, h) = step (o.0 == a) (below o.1 os a p h.1)
      where
        step : (c : Bool) → turn_of os a < o.1 → (if c then o.1 else turn_of os a) < n
        step true k = h.0
        step false k = (let m = h.0 in omega (arith, k, m))

    go : (c d : Bool) → (o.0 == a) ≡ c → (o.0 == b) ≡ d → (if c then o.1 else turn_of os a) ≡ (if d then o.1 else turn_of os b)
        → (turn_of os a ≡ turn_of os b → (a ≡ b) ⊎ (turn_of os a ≡ 0)) → (a ≡ b) ⊎ ((if c then o.1 else turn_of os a) ≡ 0)
    go true true k l e again = inl (sym (eq_of o.0 a k) ∙ eq_of o.0 b l)
    go true false k l e again = (let m = below o.1 os b p h.1 in absurd (omega (arith, e, m)))
    go false true k l e again = (let m = below o.1 os a p h.1 in absurd (omega (arith, e, m)))
    go false false k l e again = again e

-- the frame of a function has blocks of its own; that of a listed initializer enters none
pub data Scoped (f : Local) : Type 0 where
  of_function : Falls (suc f.scene.turn) f.scene.blocks → Scoped f
  of_initializer : (n : ℕ) → Falls n f.scene.blocks → (e : Expr) → f.todo ≡ Begin e Unused ∷ [] → f.begun ≡ None → Scoped f
  of_begun : (n : ℕ) → Falls n f.scene.blocks → f.todo ≡ [] → ((b : Begun) → f.begun ≡ Some b → b.what ≡ Unused) → Scoped f

pub scoped_falls : (f : Local) → Scoped f → (n : ℕ) × Falls n f.scene.blocks
scoped_falls f (of_function h) = (suc f.scene.turn, h)
scoped_falls f (of_initializer n h e t b) = (n, h)
scoped_falls f (of_begun n h t w) = (n, h)

unused_after : (b : Bool) (z : _) (rest : Todo) → work_after b z Unused rest ≡ rest
unused_after true z rest = refl
unused_after false z rest = refl

-- what is done, or waits for its body
abbrev pub IsPicked : Begun → Option Place → Place → Type 0
IsPicked b waits v = (is_some (b.given v) ≡ true) ⊎ (waits ≡ Some v)

module _ (world : World) where
  abbrev pub list_name : Scene → Head → ObjName
  list_name f (Listed slot cs) = name_of world f slot
  list_name f h = Argv

  -- what an event of this kind of a node can touch
  abbrev pub reach_at : Bool → Scene → Kind → Option Expr → Option Reach
  reach_at sized f k None = None
  reach_at sized f k (Some (expr h ty line es)) = reach_by sized h (first_site world f es) (list_name f h) k

  -- sizes are known where the program keeps those of its types
  abbrev pub Knows : Bool → Type 0
  Knows false = Unit {0}
  Knows true = KeepsSizes world

  abbrev pub Told : Scene → Expr → Place → List Item → Type 0
  Told f root v is =
      (sized : Bool) → Knows sized → is_body v.kind ≡ false → Each (InReach world.rows (reach_at sized f v.kind (at_node 0 root v.node))) is

  pub record Sound (f : Scene) (b : Begun) : Type 0 where
    pub closed : IsClosed world f b
    pub fixed : FixedIn world f b.root b.given

  abbrev pub SoundIn : Scene → Option Begun → Type 0
  SoundIn f None = Unit {0}
  SoundIn f (Some b) = Sound f b

  -- what the trace tells of an open frame
  pub record Kept (trace : List Entry) (f : Local) (waits : Option Place) : Type 0 where
    pub old : (e : Entry) (v : Place) → Has trace e v → f.scene.path ≡ e.path → e.turn ≤ f.scene.turn
    pub here : (b : Begun) → f.begun ≡ Some b → (e : Entry) (v : Place) → Has trace e v → f.scene.path ≡ e.path → f.scene.turn ≡ e.turn
        → Told f.scene b.root v e.items × IsPicked b waits v
    pub above : (e : Entry) (v : Place) → Has trace e v → (t k : ℕ) → is_under e.path ((t, k) ∷ f.scene.path) ≡ true → t ≤ f.scene.turn
    pub bodies : (b : Begun) → f.begun ≡ Some b → (e : Entry) (v : Place) → Has trace e v → (k : ℕ)
        → is_under e.path ((f.scene.turn, k) ∷ f.scene.path) ≡ true → IsPicked b waits (place k Body)
    pub sound : SoundIn f.scene f.begun
    pub scoped : Scoped f

  pub record HeldFrame (trace : List Entry) (path : Path) (h : Local × Place) : Type 0 where
    pub kept : Kept trace h.0 (Some h.1)
    pub body : h.1 ≡ place h.1.node Body
    pub way : path ≡ (h.0.scene.turn, h.1.node) ∷ h.0.scene.path
    pub begun : Begun
    pub runs : h.0.begun ≡ Some begun
    pub next : IsNext world h.0.scene begun h.1

  abbrev pub HeldOk : List Entry → Path → List (Local × Place) → Type 0
  HeldOk trace path [] = Unit {0}
  HeldOk trace path (h ∷ hs) = HeldFrame trace path h × HeldOk trace h.0.scene.path hs

  -- a control step leaves the frame in a later turn, or with nothing begun
  pub record Moved (f g : Local) : Type 0 where
    pub path : g.scene.path ≡ f.scene.path
    pub turn : f.scene.turn ≤ g.scene.turn
    pub fresh : (b : Begun) → g.begun ≡ Some b → (f.scene.turn < g.scene.turn) × ((u : Place) → b.given u ≡ None)

  not_none : (f : Local) → f.begun ≡ None → (b : Begun) → f.begun ≡ Some b → ⊥
  not_none f e b h = cc

  pub control_moves : (f : Local) (todo : Todo) → f.begun ≡ None → Moved f (control_next world f todo)
  control_moves f [] n = record { path = refl; turn = omega arith; fresh = λ b h. absurd (not_none f n b h) }
  control_moves f (Enter k ds ∷ rest) n = record { path = refl; turn = omega arith; fresh = λ b h. absurd (not_none f n b h) }
  control_moves f (Leave k ds ∷ rest) n = record { path = refl; turn = omega arith; fresh = λ b h. absurd (not_none f n b h) }
  control_moves f (Begin e what ∷ rest) n =
      record {
        path = refl;
        turn = omega arith;
        fresh = λ b h.
            (omega arith, λ u. (let k : record { root = e; given = λ u. None; what = what } ≡ b = cc in ap (λ z. z.given u) (sym k)));
      }
  control_moves f (Go_to k ∷ rest) n = record { path = refl; turn = omega arith; fresh = λ b h. absurd (not_none f n b h) }
  control_moves f (Go_out ∷ rest) n = record { path = refl; turn = omega arith; fresh = λ b h. absurd (not_none f n b h) }
  control_moves f (Go_on ∷ rest) n = record { path = refl; turn = omega arith; fresh = λ b h. absurd (not_none f n b h) }
  control_moves f (Go_back ∷ rest) n = record { path = refl; turn = omega arith; fresh = λ b h. absurd (not_none f n b h) }
  control_moves f (Unwrite d ∷ rest) n = record { path = refl; turn = omega arith; fresh = λ b h. absurd (not_none f n b h) }
  control_moves f (Nothing_to_do ∷ rest) n = record { path = refl; turn = omega arith; fresh = λ b h. absurd (not_none f n b h) }
  control_moves f (To_do s ∷ rest) n = record { path = refl; turn = omega arith; fresh = λ b h. absurd (not_none f n b h) }
  control_moves f (Rest ss ∷ rest) n = record { path = refl; turn = omega arith; fresh = λ b h. absurd (not_none f n b h) }
  control_moves f (Round test step s ∷ rest) n = record { path = refl; turn = omega arith; fresh = λ b h. absurd (not_none f n b h) }
  control_moves f (Again e s ∷ rest) n = record { path = refl; turn = omega arith; fresh = λ b h. absurd (not_none f n b h) }
  control_moves f (Test test step s ∷ rest) n = record { path = refl; turn = omega arith; fresh = λ b h. absurd (not_none f n b h) }
  control_moves f (Break_here ∷ rest) n = record { path = refl; turn = omega arith; fresh = λ b h. absurd (not_none f n b h) }

  function_next : (f : Local) (todo : Todo) → Falls (suc f.scene.turn) f.scene.blocks → Scoped (control_next world f todo)
  function_next f [] h = of_function h
  function_next f (Enter k ds ∷ rest) h = of_function (omega arith, (omega arith, h))
  function_next f (Leave k ds ∷ rest) h = of_function (falls_without (suc f.scene.turn) f.scene.blocks k h)
  function_next f (Begin e what ∷ rest) h = of_function (falls_more (suc f.scene.turn) (suc (suc f.scene.turn)) f.scene.blocks (omega arith) h)
  function_next f (Go_to k ∷ rest) h = of_function h
  function_next f (Go_out ∷ rest) h = of_function h
  function_next f (Go_on ∷ rest) h = of_function h
  function_next f (Go_back ∷ rest) h = of_function h
  function_next f (Unwrite d ∷ rest) h = of_function h
  function_next f (Nothing_to_do ∷ rest) h = of_function h
  function_next f (To_do s ∷ rest) h = of_function h
  function_next f (Rest ss ∷ rest) h = of_function h
  function_next f (Round test step s ∷ rest) h = of_function h
  function_next f (Again e s ∷ rest) h = of_function h
  function_next f (Test test step s ∷ rest) h = of_function h
  function_next f (Break_here ∷ rest) h = of_function h

  pub scoped_next : (f : Local) → Scoped f → f.begun ≡ None → Scoped (control_next world f (ready_work f.todo))
  scoped_next f (of_function h) n = function_next f (ready_work f.todo) h
  scoped_next f (of_initializer k h e t b) n =
      subst (λ z. Scoped (control_next world f (ready_work z))) (sym t)
      (of_begun k h refl (λ b q. (let m : record { root = e; given = λ u. None; what = Unused } ≡ b = cc in ap (λ z. z.what) (sym m))))
  scoped_next f (of_begun k h t w) n = subst (λ z. Scoped (control_next world f (ready_work z))) (sym t) (of_begun k h t w)

  pub scoped_settled : (f : Local) (b : Begun) (v : Value) → f.begun ≡ Some b → Scoped f → Scoped (settled world f v b.what)
  scoped_settled f b v e (of_function h) = of_function h
  scoped_settled f b v e (of_initializer k h x t n) = absurd (not_none f n b e)
  scoped_settled f b v e (of_begun k h t w) =
      of_begun k h (ap (λ z. work_after (truth v) (integer_of v) z f.todo) (w b e) ∙ (unused_after (truth v) (integer_of v) f.todo ∙ t)) (λ c q. absurd (cc))

  scoped_given : (f : Local) (b c : Begun) → f.begun ≡ Some b → c.what ≡ b.what → Scoped f → Scoped (record f { begun = Some c })
  scoped_given f b c e q (of_function h) = of_function h
  scoped_given f b c e q (of_initializer k h x t n) = absurd (not_none f n b e)
  scoped_given f b c e q (of_begun k h t w) = of_begun k h t (λ d r. (let m : c ≡ d = cc in ap (λ z. z.what) (sym m) ∙ (q ∙ w b e)))

  none_given : (f : Scene) (o : Option Begun) → ((b : Begun) → o ≡ Some b → (u : Place) → b.given u ≡ None) → SoundIn f o
  none_given f None h = tt
  none_given f (Some b) h = record {
    closed = λ v s. absurd (let k = h b refl v in absurd_some (b.given v) k s);
    fixed = λ n e s q k r w g. absurd (let m = h b refl (place n Val) in none_some (b.given (place n Val)) w m g);
  }
    where
      absurd_some : (o : Option Value) → o ≡ None → is_some o ≡ true → ⊥
      absurd_some o e s = true≢false (sym (sym (ap is_some e) ∙ s))

      none_some : (o : Option Value) (w : Value) → o ≡ None → o ≡ Some w → ⊥
      none_some o w e g = cc

  pub kept_control : (trace : List Entry) (x : Entry) (f g : Local) → x.place ≡ None → Moved f g → Scoped g → Kept trace f None → Kept (x ∷ trace) g None
  kept_control trace x f g bare m sc k = record {
    old = λ e v h s. (let a = k.old e v (earlier e v h) (sym m.path ∙ s) in let b = m.turn in omega (arith, a, b));
    here = λ b r e v h s t. absurd (let a = k.old e v (earlier e v h) (sym m.path ∙ s) in let c = (m.fresh b r).0 in omega (arith, a, c, t));
    above = λ e v h t n un. (let a = k.above e v (earlier e v h) t n (along_path e t n un) in let b = m.turn in omega (arith, a, b));
    bodies = λ b r e v h n un. absurd (let a = k.above e v (earlier e v h) g.scene.turn n (along_path e g.scene.turn n un) in let c = (m.fresh b r).0 in
        omega (arith, a, c));
    sound = none_given g.scene g.begun (λ b r. (m.fresh b r).1);
    scoped = sc;
  }
    where
      earlier : (e : Entry) (v : Place) → Has (x ∷ trace) e v → Has trace e v
      earlier e v h = elim (has_cases x trace e v h) [
        | inl q ↦ (let p = q.1 in absurd (cc (bare, p)))
        | inr q ↦ q
      ]

      along_path : (e : Entry) (t n : ℕ) → is_under e.path ((t, n) ∷ g.scene.path) ≡ true → is_under e.path ((t, n) ∷ f.scene.path) ≡ true
      along_path e t n un = subst (λ z. is_under e.path ((t, n) ∷ z) ≡ true) m.path un

  -- the event of an entry that is new
  new_or_old : (x : Entry) (trace : List Entry) (e : Entry) (u v : Place) → x.place ≡ Some u → Has (x ∷ trace) e v → ((x ≡ e) × (u ≡ v)) ⊎ Has trace e v
  new_or_old x trace e u v p h = elim (has_cases x trace e v h) [
    | inl q ↦ inl (q.0, (let a = q.1 in some_place u v (sym p ∙ a)))
    | inr q ↦ inr q
  ]
    where
      some_place : (u v : Place) → Some u ≡ Some v → u ≡ v
      some_place u v h = cc

  -- no frame has a path under one of its own bodies
  not_below : (p : Path) (a : ℕ × ℕ) → is_under p (a ∷ p) ≡ true → ⊥
  not_below p a h = (let l = under_length p (a ∷ p) h in omega (arith, l))

  given_now : (b : Begun) (u : Place) (w : Value) → is_some ((with_given b u w).given u) ≡ true
  given_now b u w = go (same_place u u) (same_place_itself u)
    where
      go : (c : Bool) → c ≡ true → is_some (if c then Some w else b.given u) ≡ true
      go true e = refl
      go false e = absurd (cc)

  given_on : (b : Begun) (u v : Place) (w : Value) → is_some (b.given v) ≡ true → is_some ((with_given b u w).given v) ≡ true
  given_on b u v w h = go (same_place u v)
    where
      go : (c : Bool) → is_some (if c then Some w else b.given v) ≡ true
      go true = refl
      go false = h

  picked_on : (b : Begun) (u v : Place) (w : Value) (waits : Option Place) → (waits ≡ None) ⊎ (waits ≡ Some u) → IsPicked b waits v →
      IsPicked (with_given b u w) None v
  picked_on b u v w waits o (inl h) = inl (given_on b u v w h)
  picked_on b u v w waits (inl n) (inr h) = absurd (cc)
  picked_on b u v w waits (inr s) (inr h) = (let k : u ≡ v = cc in inl (subst (λ z. is_some ((with_given b u w).given z) ≡ true) k (given_now b u w)))

  -- what a value that is given keeps of the fixed places
  abbrev pub IsAtSite : Scene → Expr → Place → Value → Type 0
  IsAtSite f root u w =
      (e : Expr) (s : Site) → u.kind ≡ Val → at_node 0 root u.node ≡ Some e → is_quiet (tree_of e) ≡ false → site_of world f e ≡ Some s → w ≡ at world s

  fixed_given : (f : Scene) (b : Begun) (u : Place) (w : Value) → IsAtSite f b.root u w → FixedIn world f b.root b.given
      → FixedIn world f b.root (with_given b u w).given
  fixed_given f b u w k h = λ n e s q r a y g. go n e s q r a y (same_place u (place n Val)) refl g
    where
      go : (n : ℕ) (e : Expr) (s : Site) → at_node 0 b.root n ≡ Some e → is_quiet (tree_of e) ≡ false → site_of world f e ≡ Some s → (y : Value)
          → (c : Bool) → same_place u (place n Val) ≡ c → (if c then Some w else b.given (place n Val)) ≡ Some y → y ≡ at world s
      go n e s q r a y true m g =
          let p : u ≡ place n Val = same_place_eq u (place n Val) m in
          let wy : w ≡ y = cc in
          sym wy ∙ k e s (ap (λ z. z.kind) p) (ap (λ z. at_node 0 b.root z.node) p ∙ q) r a
      go n e s q r a y false m g = h n e s q r a y g

  sound_given : (f : Scene) (b : Begun) (u : Place) (w : Value) → IsNext world f b u → IsAtSite f b.root u w → Sound f b → Sound f (with_given b u w)
  sound_given f b u w n k h = record {
    closed = λ v s. closed_at world f b u w n v (h.closed v) s;
    fixed = fixed_given f b u w k h.fixed;
  }

  pub sound_at : (f : Scene) (o : Option Begun) (b : Begun) → o ≡ Some b → SoundIn f o → Sound f b
  sound_at f o b e h = subst (SoundIn f) e h

  -- the frame where its full expression has one value more
  abbrev pub with_value : Local → Begun → Place → Value → Local
  with_value f b u w = record f { begun = Some (with_given b u w) }

  some_is : (b c : Begun) → Some b ≡ Some c → b ≡ c
  some_is b c h = cc

  -- behind an event
  pub kept_event : (trace : List Entry) (x : Entry) (f : Local) (b : Begun) (u : Place) (w : Value) → x.place ≡ Some u → f.scene.path ≡ x.path
      → f.scene.turn ≡ x.turn → f.begun ≡ Some b → Told f.scene b.root u x.items → IsNext world f.scene b u → IsAtSite f.scene b.root u w
      → Kept trace f None → Kept (x ∷ trace) (with_value f b u w) None
  kept_event trace x f b u w at path turn bf told n site k = record {
    old = λ e v h s. elim (new_or_old x trace e u v at h) [
      | inl q ↦ (let a = ap (λ z. z.turn) q.0 in omega (arith, a, turn))
      | inr q ↦ k.old e v q s
    ];
    here = λ c r e v h s t. subst (λ z. Told f.scene z.root v e.items × IsPicked z None v) (some_is _ c r) (told_here e v (new_or_old x trace e u v at h) s t);
    above = λ e v h t m un. elim (new_or_old x trace e u v at h) [
      | inl q ↦ absurd (own e t m q.0 un)
      | inr q ↦ k.above e v q t m un
    ];
    bodies = λ c r e v h m un. subst (λ z. IsPicked z None (place m Body)) (some_is _ c r) (elim (new_or_old x trace e u v at h) [
      | inl q ↦ absurd (own e f.scene.turn m q.0 un)
      | inr q ↦ picked_on b u (place m Body) w None (inl refl) (k.bodies b bf e v q m un)
    ]);
    sound = sound_given f.scene b u w n site (sound_at f.scene f.begun b bf k.sound);
    scoped = scoped_given f b (with_given b u w) bf refl k.scoped;
  }
    where
      own : (e : Entry) (t m : ℕ) → x ≡ e → is_under e.path ((t, m) ∷ f.scene.path) ≡ true → ⊥
      own e t m q un = not_below f.scene.path (t, m) (subst (λ z. is_under z ((t, m) ∷ f.scene.path) ≡ true) (sym (path ∙ ap (λ z. z.path) q)) un)

      told_here : (e : Entry) (v : Place) → ((x ≡ e) × (u ≡ v)) ⊎ Has trace e v → f.scene.path ≡ e.path → f.scene.turn ≡ e.turn
          → Told f.scene b.root v e.items × IsPicked (with_given b u w) None v
      told_here e v (inl q) s t = (
        subst (λ z. Told f.scene b.root v z.items) q.0 (subst (λ z. Told f.scene b.root z x.items) q.1 told),
        inl (subst (λ z. is_some ((with_given b u w).given z) ≡ true) q.1 (given_now b u w)),
      )
      told_here e v (inr q) s t = (let r = k.here b bf e v q s t in (r.0, picked_on b u v w None (inl refl) r.1))

  -- the frame waits for a body
  pub kept_waits : (trace : List Entry) (x : Entry) (f : Local) (b : Begun) (u : Place) → x.place ≡ Some u → f.scene.path ≡ x.path
      → f.scene.turn ≡ x.turn → f.begun ≡ Some b → is_body u.kind ≡ true → Kept trace f None → Kept (x ∷ trace) f (Some u)
  kept_waits trace x f b u at path turn bf body k = record {
    old = λ e v h s. elim (new_or_old x trace e u v at h) [
      | inl q ↦ (let a = ap (λ z. z.turn) q.0 in omega (arith, a, turn))
      | inr q ↦ k.old e v q s
    ];
    here = λ c r e v h s t. told_here c r e v (new_or_old x trace e u v at h) s t;
    above = λ e v h t m un. elim (new_or_old x trace e u v at h) [
      | inl q ↦ absurd (own e t m q.0 un)
      | inr q ↦ k.above e v q t m un
    ];
    bodies = λ c r e v h m un. elim (new_or_old x trace e u v at h) [
      | inl q ↦ absurd (own e f.scene.turn m q.0 un)
      | inr q ↦ waits_too c (place m Body) (k.bodies c r e v q m un)
    ];
    sound = k.sound;
    scoped = k.scoped;
  }
    where
      own : (e : Entry) (t m : ℕ) → x ≡ e → is_under e.path ((t, m) ∷ f.scene.path) ≡ true → ⊥
      own e t m q un = not_below f.scene.path (t, m) (subst (λ z. is_under z ((t, m) ∷ f.scene.path) ≡ true) (sym (path ∙ ap (λ z. z.path) q)) un)

      waits_too : (c : Begun) (v : Place) → IsPicked c None v → IsPicked c (Some u) v
      waits_too c v (inl h) = inl h
      waits_too c v (inr h) = absurd (cc)

      told_here : (c : Begun) → f.begun ≡ Some c → (e : Entry) (v : Place) → ((x ≡ e) × (u ≡ v)) ⊎ Has trace e v → f.scene.path ≡ e.path
          → f.scene.turn ≡ e.turn → Told f.scene c.root v e.items × IsPicked c (Some u) v
      told_here c r e v (inl q) s t =
          ((λ sized knows nb. absurd (true≢false (sym (subst (λ z. is_body z.kind ≡ true) q.1 body) ∙ nb))), inr (ap Some q.1))
      told_here c r e v (inr q) s t = (let a = k.here c r e v q s t in (a.0, waits_too c v a.1))

  -- a frame that was started
  pub record IsNew (f g : Local) (node : ℕ) : Type 0 where
    pub path : g.scene.path ≡ (f.scene.turn, node) ∷ f.scene.path
    pub turn : g.scene.turn ≡ 0
    pub none : g.begun ≡ None
    pub scoped : Scoped g

  pub kept_new : (trace : List Entry) (x : Entry) (f g : Local) (b : Begun) (u : Place) → x.place ≡ Some u → f.scene.path ≡ x.path → f.begun ≡ Some b
      → u ≡ place u.node Body → b.given u ≡ None → IsNew f g u.node → Kept trace f None → Kept (x ∷ trace) g None
  kept_new trace x f g b u at path bf body left n k = record {
    old = λ e v h s. absurd (nothing e v h (subst (λ z. is_under z q ≡ true) (sym n.path ∙ s) (under_refl q)));
    here = λ c r e v h s t. absurd (not_none g n.none c r);
    above = λ e v h t m un. absurd (nothing e v h (under_tail e.path (t, m) q (subst (λ z. is_under e.path ((t, m) ∷ z) ≡ true) n.path un)));
    bodies = λ c r e v h m un. absurd (not_none g n.none c r);
    sound = none_given g.scene g.begun (λ c r. absurd (not_none g n.none c r));
    scoped = n.scoped;
  }
    where
      q : Path
      q = (f.scene.turn, u.node) ∷ f.scene.path

      not_given : IsPicked b None (place u.node Body) → ⊥
      not_given (inl h) = absurd_some (b.given u) left (subst (λ z. is_some (b.given z) ≡ true) (sym body) h)
        where
          absurd_some : (o : Option Value) → o ≡ None → is_some o ≡ true → ⊥
          absurd_some o e s = true≢false (sym (sym (ap is_some e) ∙ s))
      not_given (inr h) = cc

      nothing : (e : Entry) (v : Place) → Has (x ∷ trace) e v → is_under e.path q ≡ true → ⊥
      nothing e v h un = elim (new_or_old x trace e u v at h) [
        | inl r ↦ not_below f.scene.path (f.scene.turn, u.node) (subst (λ z. is_under z q ≡ true) (sym (path ∙ ap (λ z. z.path) r.0)) un)
        | inr r ↦ not_given (k.bodies b bf e v r u.node un)
      ]

  -- a frame below, as frames above it go on
  pub kept_below : (trace : List Entry) (x : Entry) (f : Local) (u : Place) → u ≡ place u.node Body →
      is_under x.path ((f.scene.turn, u.node) ∷ f.scene.path) ≡ true
      → Kept trace f (Some u) → Kept (x ∷ trace) f (Some u)
  kept_below trace x f u body way k = record {
    old = λ e v h s. elim (has_cases x trace e v h) [
      | inl q ↦ absurd (longer e q.0 s)
      | inr q ↦ k.old e v q s
    ];
    here = λ c r e v h s t. elim (has_cases x trace e v h) [
      | inl q ↦ absurd (longer e q.0 s)
      | inr q ↦ k.here c r e v q s t
    ];
    above = λ e v h t m un. elim (has_cases x trace e v h) [
      | inl q ↦ (let a = same_body e t m q.0 un in (let b = ap (λ z. z.0) a in omega (arith, b)))
      | inr q ↦ k.above e v q t m un
    ];
    bodies = λ c r e v h m un. elim (has_cases x trace e v h) [
      | inl q ↦ inr (ap Some (body ∙ sym (ap (λ z. place z.1 Body) (same_body e f.scene.turn m q.0 un))))
      | inr q ↦ k.bodies c r e v q m un
    ];
    sound = k.sound;
    scoped = k.scoped;
  }
    where
      longer : (e : Entry) → x ≡ e → f.scene.path ≡ e.path → ⊥
      longer e q s = (let l = under_length x.path ((f.scene.turn, u.node) ∷ f.scene.path) way in let n = ap length (s ∙ ap (λ z. z.path) (sym q)) in
          omega (arith, l, n))

      head_is : (a b : ℕ × ℕ) (p q : Path) → a ∷ p ≡ b ∷ q → a ≡ b
      head_is a b p q e = cc

      same_body : (e : Entry) (t m : ℕ) → x ≡ e → is_under e.path ((t, m) ∷ f.scene.path) ≡ true
          → ◌≡◌ {A = ℕ × ℕ} (t, m) (f.scene.turn, u.node)
      same_body e t m q un =
          head_is (t, m) (f.scene.turn, u.node) f.scene.path f.scene.path
          (under_same x.path ((t, m) ∷ f.scene.path) ((f.scene.turn, u.node) ∷ f.scene.path)
          (subst (λ z. is_under z.path ((t, m) ∷ f.scene.path) ≡ true) (sym q) un) way refl)

  -- and as its body has ended
  pub kept_back : (trace : List Entry) (f : Local) (b : Begun) (u : Place) (w : Value) → f.begun ≡ Some b → u ≡ place u.node Body
      → IsNext world f.scene b u → Kept trace f (Some u) → Kept trace (with_value f b u w) None
  kept_back trace f b u w bf body n k = record {
    old = k.old;
    here = λ c r e v h s t. subst (λ z. Told f.scene z.root v e.items × IsPicked z None v) (some_is _ c r)
        (let a = k.here b bf e v h s t in (a.0, picked_on b u v w (Some u) (inr refl) a.1));
    above = k.above;
    bodies = λ c r e v h m un. subst (λ z. IsPicked z None (place m Body)) (some_is _ c r)
        (picked_on b u (place m Body) w (Some u) (inr refl) (k.bodies b bf e v h m un));
    sound = sound_given f.scene b u w n (λ e s kind q r a. absurd (val_body (sym kind ∙ ap (λ z. z.kind) body))) (sound_at f.scene f.begun b bf k.sound);
    scoped = scoped_given f b (with_given b u w) bf refl k.scoped;
  }
    where
      val_body : Val ≡ Body → ⊥
      val_body e = cc

  pub held_next : (trace : List Entry) (x : Entry) (path : Path) (hs : List (Local × Place)) → is_under x.path path ≡ true → HeldOk trace path hs
      → HeldOk (x ∷ trace) path hs
  held_next trace x path [] un ok = tt
  held_next trace x path (h ∷ hs) un (a, ok) =
      let un2 = subst (λ z. is_under x.path z ≡ true) a.way un in (
        record {
          kept = kept_below trace x h.0 h.1 a.body un2 a.kept;
          body = a.body;
          way = a.way;
          begun = a.begun;
          runs = a.runs;
          next = a.next;
        },
        held_next trace x h.0.scene.path hs (under_tail x.path (h.0.scene.turn, h.1.node) h.0.scene.path un2) ok,
      )
