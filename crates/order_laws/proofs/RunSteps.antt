-- What a pick of the machine is in the model: the same move of frames, and the same act.
use Rattle.std.proofs.Common.{◌≡◌, ℕ, suc, ◌+◌, ◌≤◌, Bool, true, false, ◌||◌, if◌then◌else◌, List, [], ◌∷◌, Option, Some, None, is_some, refl, sym, ap}
use Rattle.std.proofs.Common.{◌∙◌, subst, ◌⊎◌, inl, inr, arith}
use Rattle.std.specs.Prelude.{nat_le}
use Rattle.std.proofs.lemmas.Bool.Decides.{nat_tests}
use Rattle.ub_base.specs.declared.clause.Clause.{Clause}
use Rattle.ub_base.specs.declared.clause.Clause.TheVariants.{InvalidPointer, IncompatibleCall}
use Rattle.ub_base.specs.declared.names.Event.{Event}
use Rattle.ub_base.specs.declared.names.Item.{Item}
use Rattle.c_types.specs.declared.library.LibFunc.{LibFunc}
use Rattle.c_types.specs.Types.{CType}
use Rattle.c_typed.specs.declared.tree.Place.{Place}
use Rattle.c_typed.specs.Order.{is_body}
use Rattle.mem_spec.specs.Store.{Store}
use Rattle.mem_spec.specs.Script.{Script, Give, Raise, Finish, Exceed, Misplace, Do, ◌>>◌, require, Done, run}
use Rattle.c_model.specs.Program.{Head, Call, Isolated, Expr, expr, Exprs, Stmt, Function}
use Rattle.c_model.specs.World.{World}
use Rattle.c_model.specs.Values.{Value, Nothing, later_values}
use Rattle.c_model.specs.Moves.{Move, Stay, Start, End}
use Rattle.c_model.specs.Control.{Todo, Leave, ready_work}
use Rattle.c_model.specs.Steps.{Scene, Local, Begun, Pick, Control, Ev, at_node, event_of, target, first_type, function_type, argument_types, values_of}
use Rattle.c_model.specs.Steps.{own_body, body_frame, start_call, called_by, started, move_of, library_act, call_by, call_through, call_act, event_act}
use Rattle.c_model.specs.Steps.{does, move, control_move, ends_with}
use Rattle.c_model.specs.Machine.{Did, Machine}
use Rattle.c_model.specs.ModelMachine.{done_by, gives, start_where, frame_machine}
use Rattle.machine_laws.specs.Orders.{Stopped}
use Rattle.order_laws.specs.StoreParts.{Part, Seen, Fact, store_parts}
use Rattle.machine_laws.specs.Limits as limits
use Rattle.order_laws.specs.FrameEnds.{weight, frame_ends}
use Rattle.machine_laws.proofs.Depth.{was}
use Rattle.order_laws.proofs.ProgramTold.{done_was}

-- a script that gives a value at once, or raises at once
abbrev pub Plain : Script Value → Type 0
Plain sc = ((v : Value) × (sc ≡ Give v)) ⊎ ((c : Clause) × (sc ≡ Raise c))

require_plain : (b : Bool) (c : Clause) (t : Script Value) → Plain t → Plain (require b c >> t)
require_plain true c t p = p
require_plain false c t p = inr (c, refl)

module _ (world : World) where
  call_plain : (f : Scene) (k : ℕ) (vs : List Value) (who : Event) (ty : CType) (ts : List CType) (ws : List Value) (g : Local) (c : Option (ℕ × Function))
      → start_call world f k vs c ≡ Start g
      → Plain (call_by world who ty ts ws c)
  call_plain f k vs who ty ts ws g None h = absurd (cc)
  call_plain f k vs who ty ts ws g (Some c) h = go c.1.library h
    where
      go : (l : Option LibFunc) → body_frame world f k c.0 vs (if is_some l then None else c.1.body) ≡ Start g
          → Plain (require (is_some c.1.body || is_some l) InvalidPointer >>
          (require (world.agree c.1.ty ty) IncompatibleCall >> library_act world who ts ws l))
      go (Some l) h = absurd (cc)
      go None h =
          require_plain (is_some c.1.body || false) InvalidPointer (require (world.agree c.1.ty ty) IncompatibleCall >> library_act world who ts ws None)
          (require_plain (world.agree c.1.ty ty) IncompatibleCall (library_act world who ts ws None) (inl (Nothing, refl)))

  through_plain : (f : Scene) (k : ℕ) (who : Event) (o : Option CType) (ts : List CType) (vs : List Value) (g : Local)
      → start_call world f k (later_values vs) (called_by world vs) ≡ Start g
      → Plain (call_through world who o ts vs)
  through_plain f k who None ts vs g h = inr (InvalidPointer, refl)
  through_plain f k who (Some ty) ts vs g h = call_plain f k (later_values vs) who ty ts (later_values vs) g (called_by world vs) h

  started_plain : (f : Scene) (k : ℕ) (who : Event) (h : Head) (es : Exprs) (vs : List Value) (g : Local) → started world f k h vs ≡ Start g
      → Plain (call_act world who h es vs)
  started_plain f k who (Call discarded) es vs g e = through_plain f k who (function_type (target (first_type es))) (argument_types es) vs g e
  started_plain f k who (Isolated x) es vs g e = inl (Nothing, refl)
  started_plain f k who _ es vs g e = absurd (cc)

  event_plain : (f : Scene) (e : Begun) (u : Place) (o : Option Expr) (g : Local) → move_of world f e u o ≡ Start g → Plain (event_act world f e u o)
  event_plain f e u None g h = absurd (cc)
  event_plain f e u (Some (expr h ty line es)) g m = go (is_body u.kind) _ m
    where
      go : (b : Bool) (x : Script Value) → (if b then started world f u.node h (values_of world f e.given (suc u.node) es) else Stay) ≡ Start g
          → Plain (if b then call_act world (event_of world f u) h es (values_of world f e.given (suc u.node) es) else x)
      go true x m = started_plain f u.node (event_of world f u) h es (values_of world f e.given (suc u.node) es) g m
      go false x m = absurd (cc)

  control_stays : (t : Todo) (g : Local) → control_move world t ≡ Start g → ⊥
  control_stays (Leave b ds ∷ rest) g h = go (ends_with world (ready_work rest)) h
    where
      go : (b : Bool) → (if b then End else Stay) ≡ Start g → ⊥
      go true h = cc
      go false h = cc
  control_stays [] g h = cc
  control_stays (_ ∷ rest) g h = cc

  settle_stays : (b : Bool) (g : Local) → (if b then End else Stay) ≡ Start g → ⊥
  settle_stays true g h = cc
  settle_stays false g h = cc

  -- where a frame starts, the pick is an event, and its act is plain
  pub start_plain : (f : Local) (o : Option Begun) (p : Pick) (g : Local) → move world f o p ≡ Start g → Plain (does world f o p) × ((u : Place) × (p ≡ Ev u))
  start_plain f None Control g h = absurd (control_stays (ready_work f.todo) g h)
  start_plain f None (Ev u) g h = absurd (cc)
  start_plain f (Some e) Control g h = absurd (settle_stays _ g h)
  start_plain f (Some e) (Ev u) g h = (event_plain f.scene e u (at_node 0 e.root u.node) g h, (u, refl))

  -- the frame that a body starts
  pub record Fresh (f : Local) (u : Place) (g : Local) : Type 0 where
    pub path : g.scene.path ≡ (f.scene.turn, u.node) ∷ f.scene.path
    pub begun : g.begun ≡ None
    pub body : is_body u.kind ≡ true

  start_is : (a b : Local) → Start a ≡ Start b → a ≡ b
  start_is a b e = cc

  frame_fresh : (f : Local) (u : Place) (n : ℕ) (vs : List Value) (g : Local) (b : Option Stmt) → is_body u.kind ≡ true
      → body_frame world f.scene u.node n vs b ≡ Start g → Fresh f u g
  frame_fresh f u n vs g None ub h = absurd (cc)
  frame_fresh f u n vs g (Some s) ub h = subst (Fresh f u) (start_is _ g h) (record { path = refl; begun = refl; body = ub })

  call_fresh : (f : Local) (u : Place) (vs : List Value) (g : Local) (c : Option (ℕ × Function)) → is_body u.kind ≡ true
      → start_call world f.scene u.node vs c ≡ Start g → Fresh f u g
  call_fresh f u vs g None ub h = absurd (cc)
  call_fresh f u vs g (Some c) ub h = frame_fresh f u c.0 vs g (own_body c.1) ub h

  started_fresh : (f : Local) (u : Place) (h : Head) (vs : List Value) (g : Local) → is_body u.kind ≡ true → started world f.scene u.node h vs ≡ Start g
      → Fresh f u g
  started_fresh f u (Call discarded) vs g ub e = call_fresh f u (later_values vs) g (called_by world vs) ub e
  started_fresh f u (Isolated x) vs g ub e = subst (Fresh f u) (start_is _ g e) (record { path = refl; begun = refl; body = ub })
  started_fresh f u _ vs g ub e = absurd (cc)

  event_fresh : (f : Local) (e : Begun) (u : Place) (o : Option Expr) (g : Local) → move_of world f.scene e u o ≡ Start g → Fresh f u g
  event_fresh f e u None g h = absurd (cc)
  event_fresh f e u (Some (expr h ty line es)) g m = go (is_body u.kind) refl m
    where
      go : (b : Bool) → is_body u.kind ≡ b → (if b then started world f.scene u.node h (values_of world f.scene e.given (suc u.node) es) else Stay) ≡ Start
          g → Fresh f u g
      go true ub m = started_fresh f u h (values_of world f.scene e.given (suc u.node) es) g ub m
      go false ub m = absurd (cc)

  pub starts_fresh : (f : Local) (o : Option Begun) (u : Place) (g : Local) → move world f o (Ev u) ≡ Start g → Fresh f u g
  starts_fresh f None u g h = absurd (cc)
  starts_fresh f (Some e) u g h = event_fresh f e u (at_node 0 e.root u.node) g h

  abbrev limit : ℕ
  limit = world.limits.depth

  -- the move of a frame that knows its depth
  abbrev pub lifted : ℕ → Move Local → Move (Local × ℕ)
  lifted d Stay = Stay
  lifted d End = End
  lifted d (Start g) = Start (g, d + weight g)

  abbrev pub Deep : ℕ → Move Local → Type 0
  Deep d (Start g) = d + weight g ≤ limit
  Deep d _ = Unit {0}

  abbrev M : Machine Local Pick Value Store Item Part Seen Fact
  M = frame_machine world (store_parts world.rows)

  abbrev E : Local → Pick → Store → Option (Stopped ℕ Store Item)
  E = frame_ends world

  abbrev move_at : ℕ → Move Local → Move (Local × ℕ)
  move_at = limits.move_at M E weight limit

  abbrev does_at : ℕ → Move Local → Option (Did Value Store Item) → Option (Did Value Store Item)
  does_at = limits.does_at M E weight limit

  fits_is : (d : ℕ) (g : Local) → nat_le (d + weight g) limit ≡ true → d + weight g ≤ limit
  fits_is d g h = grind (arith, nat_tests, h)

  -- what an act that was done tells of its move
  pub record Agrees (d : ℕ) (sc : Script Value) (mv : Move Local) (target : Move (Local × ℕ)) (s : Store) (v : Value) (is : List Item) (s1 : Store) : Type
      0 where
    pub ran : run world.rows sc s ≡ Done v is s1
    pub moved : target ≡ lifted d mv

  stay_where : (b : Bool) → start_where b Stay ≡ Stay
  stay_where true = refl
  stay_where false = refl

  end_where : (b : Bool) → start_where b End ≡ End
  end_where true = refl
  end_where false = refl

  agrees : (d : ℕ) (sc : Script Value) (mv : Move Local) → ((g : Local) → mv ≡ Start g → Plain sc) → (s : Store) (v : Value) (is : List Item) (s1 : Store)
      → does_at d (start_where (gives sc) mv) (done_by (run world.rows sc s)) ≡ Some (record { value = v; items = is; store = s1 })
      → Agrees d sc mv (move_at d (start_where (gives sc) mv)) s v is s1
  agrees d sc Stay p s v is s1 h = record {
    ran = done_was (run world.rows sc s) v is s1 (was M E weight limit d (start_where (gives sc) Stay) (done_by (run world.rows sc s)) _ h);
    moved = ap (move_at d) (stay_where (gives sc));
  }
  agrees d sc End p s v is s1 h = record {
    ran = done_was (run world.rows sc s) v is s1 (was M E weight limit d (start_where (gives sc) End) (done_by (run world.rows sc s)) _ h);
    moved = ap (move_at d) (end_where (gives sc));
  }
  agrees d sc (Start g) p s v is s1 h = go (p g refl)
    where
      fit : (b : Bool) (o : Option (Did Value Store Item)) → limits.some_if M E weight limit b o ≡ Some (record { value = v; items = is; store = s1 })
          → limits.start_if M E weight limit b (g, d + weight g) ≡ Start (g, d + weight g)
      fit true o h = refl
      fit false o h = absurd (cc)

      go : Plain sc → Agrees d sc (Start g) (move_at d (start_where (gives sc) (Start g))) s v is s1
      go (inl (w, e)) = record {
        ran = done_was (run world.rows sc s) v is s1 (was M E weight limit d (start_where (gives sc) (Start g)) (done_by (run world.rows sc s)) _ h);
        moved = ap (λ b. move_at d (start_where b (Start g))) (ap gives e)
            ∙ fit (nat_le (d + weight g) limit) (done_by (run world.rows sc s))
            (ap (λ b. does_at d (start_where b (Start g)) (done_by (run world.rows sc s))) (sym (ap gives e)) ∙ h);
      }
      go (inr (c, e)) = absurd (raised (subst (λ x. does_at d (start_where (gives x) (Start g)) (done_by (run world.rows x s)) ≡ Some
          (record { value = v; items = is; store = s1 })) e h))
        where
          raised : does_at d Stay None ≡ Some (record { value = v; items = is; store = s1 }) → ⊥
          raised h = cc

  -- and what a start tells
  pub record Starts (d : ℕ) (sc : Script Value) (mv : Move Local) (g : Local × ℕ) : Type 0 where
    pub value : Value
    pub script : sc ≡ Give value
    pub moved : mv ≡ Start g.0
    pub depth : g.1 ≡ d + weight g.0
    pub deep : d + weight g.0 ≤ limit

  starts : (d : ℕ) (sc : Script Value) (mv : Move Local) (g : Local × ℕ) → move_at d (start_where (gives sc) mv) ≡ Start g → Starts d sc mv g
  starts d sc Stay g h = absurd (no_start (subst (λ z. move_at d z ≡ Start g) (stay_where (gives sc)) h))
    where
      no_start : move_at d Stay ≡ Start g → ⊥
      no_start h = cc
  starts d sc End g h = absurd (no_start (subst (λ z. move_at d z ≡ Start g) (end_where (gives sc)) h))
    where
      no_start : move_at d End ≡ Start g → ⊥
      no_start h = cc
  starts d (Give v) (Start k) g h = go (nat_le (d + weight k) limit) refl h
    where
      go : (b : Bool) → nat_le (d + weight k) limit ≡ b → limits.start_if M E weight limit b (k, d + weight k) ≡ Start g → Starts d (Give v) (Start k) g
      go true e h =
          let q : (k, d + weight k) ≡ g = same (k, d + weight k) g h in
          subst (λ z. Starts d (Give v) (Start k) z) q (record { value = v; script = refl; moved = refl; depth = refl; deep = fits_is d k e })
        where
          same : (a b : Local × ℕ) → Start a ≡ Start b → a ≡ b
          same a b e = cc
      go false e h = absurd (cc)
  starts d (Raise c) (Start k) g h = absurd (cc)
  starts d (Finish n) (Start k) g h = absurd (cc)
  starts d (Exceed c n) (Start k) g h = absurd (cc)
  starts d Misplace (Start k) g h = absurd (cc)
  starts d (Do t f) (Start k) g h = absurd (cc)

  -- of a pick of a frame at this depth
  pub pick_agrees : (f : Local) (d : ℕ) (p : Pick) (s : Store) (v : Value) (is : List Item) (s1 : Store)
      → (limits.deep M E weight limit).does (f, d) p s ≡ Some (record { value = v; items = is; store = s1 })
      → Agrees d (does world f f.begun p) (move world f f.begun p) ((limits.deep M E weight limit).move (f, d) p) s v is s1
  pick_agrees f d p s v is s1 h =
      agrees d (does world f f.begun p) (move world f f.begun p) (λ g m. (start_plain f f.begun p g m).0) s v is s1 h

  pub pick_starts : (f : Local) (d : ℕ) (p : Pick) (g : Local × ℕ) → (limits.deep M E weight limit).move (f, d) p ≡ Start g
      → Starts d (does world f f.begun p) (move world f f.begun p) g
  pick_starts f d p g h = starts d (does world f f.begun p) (move world f f.begun p) g h
