-- A frame has its result only when just open blocks are left.
use Rattle.std.proofs.Common.{◌≡◌, ◌⊎◌, inl, inr, ℕ, suc, Bool, true, false, List, [], ◌∷◌, Option, Some, None, if◌then◌else◌}
use Rattle.std.proofs.Common.{refl, sym, ap, subst, ◌∙◌, ℤ}
use Rattle.c_typed.specs.declared.tree.Place.{Place}
use Rattle.c_typed.specs.Order.{is_body}
use Rattle.c_model.specs.Control.{Todo, Enter, Leave, Unwrite, Begin, Nothing_to_do, Go_to, Go_out, Go_on, Go_back, To_do, Rest, Round, Again, Test}
use Rattle.c_model.specs.Control.{Break_here, Use, Unused, Result, To_branch, To_enter, To_select, To_go_round, To_go_again, leaves, ready_work, work_after}
use Rattle.c_model.specs.Moves.{Move, Stay, Start}
use Rattle.c_model.specs.Program.{Head, Call, Isolated, Expr, expr, Function, Stmt}
use Rattle.c_model.specs.Steps.{Begun, Control, Ev, Local, Pick, Scene, at_node, body_frame, called_by, control_next}
use Rattle.c_model.specs.Steps.{is_result, move, move_of, next, own_body, root_value, settled, start_call, started, values_of, with_given}
use Rattle.c_model.specs.Values.{Value, integer_of, later_values, truth}
use Rattle.c_model.specs.World.{World}
use Rattle.value_facts.specs.Unresulted.{BusyHasNone, CanonicalUnresulted, GivesNothing, HasReturned, IsUnresulted, JustLeaves, OpenHasNone, OrdersUnresulted}
use Rattle.value_facts.specs.Unresulted.{ResultIsLast, ResultsAreLast, StartsUnresulted, StepsUnresulted}
use Rattle.value_facts.proofs.Steps.{canonical_keeps, has_gone, has_started, moved_keeps, orders_keep}

-- ---- leaves
leaves_just : (todo : Todo) → JustLeaves (leaves todo)
leaves_just [] = tt
leaves_just (Leave b ds ∷ rest) = leaves_just rest
leaves_just (Enter b ds ∷ rest) = leaves_just rest
leaves_just (Unwrite d ∷ rest) = leaves_just rest
leaves_just (Begin e what ∷ rest) = leaves_just rest
leaves_just (Nothing_to_do ∷ rest) = leaves_just rest
leaves_just (Go_to k ∷ rest) = leaves_just rest
leaves_just (Go_out ∷ rest) = leaves_just rest
leaves_just (Go_on ∷ rest) = leaves_just rest
leaves_just (Go_back ∷ rest) = leaves_just rest
leaves_just (To_do s ∷ rest) = leaves_just rest
leaves_just (Rest ss ∷ rest) = leaves_just rest
leaves_just (Round test step s ∷ rest) = leaves_just rest
leaves_just (Again e s ∷ rest) = leaves_just rest
leaves_just (Test test step s ∷ rest) = leaves_just rest
leaves_just (Break_here ∷ rest) = leaves_just rest

-- where just leaves are left, the next control step is one, and leaves are left behind it
left_just : (world : World) (f : Local) (todo : Todo) → JustLeaves todo → (f.todo ≡ todo) → JustLeaves (control_next world f (ready_work todo)).todo
left_just world f [] h e = subst JustLeaves (sym e) tt
left_just world f (Leave b ds ∷ rest) h e = h
left_just world f (Enter b ds ∷ rest) h e = absurd h
left_just world f (Unwrite d ∷ rest) h e = absurd h
left_just world f (Begin g what ∷ rest) h e = absurd h
left_just world f (Nothing_to_do ∷ rest) h e = absurd h
left_just world f (Go_to k ∷ rest) h e = absurd h
left_just world f (Go_out ∷ rest) h e = absurd h
left_just world f (Go_on ∷ rest) h e = absurd h
left_just world f (Go_back ∷ rest) h e = absurd h
left_just world f (To_do s ∷ rest) h e = absurd h
left_just world f (Rest ss ∷ rest) h e = absurd h
left_just world f (Round test step s ∷ rest) h e = absurd h
left_just world f (Again g s ∷ rest) h e = absurd h
left_just world f (Test test step s ∷ rest) h e = absurd h
left_just world f (Break_here ∷ rest) h e = absurd h

left_begun : (world : World) (f : Local) (todo : Todo) → JustLeaves todo → f.begun ≡ None → (control_next world f (ready_work todo)).begun ≡ None
left_begun world f [] h e = e
left_begun world f (Leave b ds ∷ rest) h e = e
left_begun world f (Enter b ds ∷ rest) h e = absurd h
left_begun world f (Unwrite d ∷ rest) h e = absurd h
left_begun world f (Begin g what ∷ rest) h e = absurd h
left_begun world f (Nothing_to_do ∷ rest) h e = absurd h
left_begun world f (Go_to k ∷ rest) h e = absurd h
left_begun world f (Go_out ∷ rest) h e = absurd h
left_begun world f (Go_on ∷ rest) h e = absurd h
left_begun world f (Go_back ∷ rest) h e = absurd h
left_begun world f (To_do s ∷ rest) h e = absurd h
left_begun world f (Rest ss ∷ rest) h e = absurd h
left_begun world f (Round test step s ∷ rest) h e = absurd h
left_begun world f (Again g s ∷ rest) h e = absurd h
left_begun world f (Test test step s ∷ rest) h e = absurd h
left_begun world f (Break_here ∷ rest) h e = absurd h

-- a control step keeps the function and the result of its frame
module _ (world : World) (f : Local) where
  step_function : (todo : Todo) → (control_next world f todo).function ≡ f.function
  step_function [] = refl
  step_function (Enter b ds ∷ rest) = refl
  step_function (Leave b ds ∷ rest) = refl
  step_function (Unwrite d ∷ rest) = refl
  step_function (Begin e what ∷ rest) = refl
  step_function (Nothing_to_do ∷ rest) = refl
  step_function (Go_to k ∷ rest) = refl
  step_function (Go_out ∷ rest) = refl
  step_function (Go_on ∷ rest) = refl
  step_function (Go_back ∷ rest) = refl
  step_function (To_do s ∷ rest) = refl
  step_function (Rest ss ∷ rest) = refl
  step_function (Round test step s ∷ rest) = refl
  step_function (Again e s ∷ rest) = refl
  step_function (Test test step s ∷ rest) = refl
  step_function (Break_here ∷ rest) = refl

  step_result : (todo : Todo) → (control_next world f todo).result ≡ f.result
  step_result [] = refl
  step_result (Enter b ds ∷ rest) = refl
  step_result (Leave b ds ∷ rest) = refl
  step_result (Unwrite d ∷ rest) = refl
  step_result (Begin e what ∷ rest) = refl
  step_result (Nothing_to_do ∷ rest) = refl
  step_result (Go_to k ∷ rest) = refl
  step_result (Go_out ∷ rest) = refl
  step_result (Go_on ∷ rest) = refl
  step_result (Go_back ∷ rest) = refl
  step_result (To_do s ∷ rest) = refl
  step_result (Rest ss ∷ rest) = refl
  step_result (Round test step s ∷ rest) = refl
  step_result (Again e s ∷ rest) = refl
  step_result (Test test step s ∷ rest) = refl
  step_result (Break_here ∷ rest) = refl

no_begun : (e : Begun) → Some e ≡ None → ⊥
no_begun e h = cc (h)

same_begun : (a b : Begun) → Some a ≡ Some b → a ≡ b
same_begun a b h = cc (h)

-- ---- one frame
module _ (world : World) where
  -- whose function this is: of the frame behind the pick, by that of the frame before it
  abbrev Keeps : Local → Local → Option ℕ → Type 0
  Keeps f g n = f.function ≡ n → ResultIsLast f n → (g.function ≡ n) × ResultIsLast g n

  module _ (f : Local) where
    steps_on : (n : Option ℕ) → f.begun ≡ None → Keeps f (control_next world f (ready_work f.todo)) n
    steps_on (Some k) idle e h = (
      step_function world f (ready_work f.todo) ∙ e,
      λ v q. let r = h v (sym (step_result world f (ready_work f.todo)) ∙ q) in record {
        begun = left_begun world f f.todo r.todo r.begun;
        todo = left_just world f f.todo r.todo refl;
      },
    )
    steps_on None idle e h = (step_function world f (ready_work f.todo) ∙ e, by h.todo)
      where
        by : ((f.todo ≡ []) ⊎ ((x : Expr) × (f.todo ≡ Begin x Unused ∷ []))) → GivesNothing (control_next world f (ready_work f.todo))
        by (inl is) = subst (λ w. GivesNothing (control_next world f (ready_work w))) (sym is) h
        by (inr is) =
            subst (λ w. GivesNothing (control_next world f (ready_work w))) (sym is.1) (record {
              result = h.result;
              todo = inl refl;
              begun = λ b q. let same = same_begun (record { root = is.0; given = λ u. None; what = Unused }) b q in ap (λ (z : Begun). z.what) (sym same);
            })

    settles : (b : Begun) (v : Value) (n : Option ℕ) → f.begun ≡ Some b → Keeps f (settled world f v b.what) n
    settles b v None begun e h = (
      e,
      record {
        result = ap (λ (what : Use). if is_result world what then Some v else f.result) (h.begun b begun) ∙ h.result;
        todo = inl_or (h.begun b begun) h.todo;
        begun = λ c q. absurd (cc (q));
      },
    )
      where
        inl_or : b.what ≡ Unused → ((f.todo ≡ []) ⊎ ((x : Expr) × (f.todo ≡ Begin x Unused ∷ [])))
            → (work_after (truth v) (integer_of v) b.what f.todo ≡ [])
            ⊎ ((x : Expr) × (work_after (truth v) (integer_of v) b.what f.todo ≡ Begin x Unused ∷ []))
        inl_or is todo =
            subst (λ (what : Use). (work_after (truth v) (integer_of v) what f.todo ≡ [])
            ⊎ ((x : Expr) × (work_after (truth v) (integer_of v) what f.todo ≡ Begin x Unused ∷ []))) (sym is) (unused (truth v) todo)
          where
            unused : (t : Bool) → ((f.todo ≡ []) ⊎ ((x : Expr) × (f.todo ≡ Begin x Unused ∷ [])))
                → (work_after t (integer_of v) Unused f.todo ≡ []) ⊎ ((x : Expr) × (work_after t (integer_of v) Unused f.todo ≡ Begin x Unused ∷ []))
            unused true todo = todo
            unused false todo = todo
    settles b v (Some n) begun e h = (e, last b.what)
      where
        none_yet : (w : Value) → f.result ≡ Some w → ⊥
        none_yet w q = no_begun b (sym begun ∙ (h w q).begun)

        just : (t : Bool) (z : ℤ) → JustLeaves (work_after t z Result f.todo)
        just true z = leaves_just f.todo
        just false z = leaves_just f.todo

        last : (what : Use) (w : Value) → (settled world f v what).result ≡ Some w → HasReturned (settled world f v what)
        last Result w q = record { begun = refl; todo = just (truth v) (integer_of v) }
        last Unused w q = absurd (none_yet w q)
        last (To_branch s t) w q = absurd (none_yet w q)
        last (To_enter s) w q = absurd (none_yet w q)
        last (To_select s) w q = absurd (none_yet w q)
        last (To_go_round test step s) w q = absurd (none_yet w q)
        last (To_go_again g s) w q = absurd (none_yet w q)

    given_on : (b : Begun) (u : Place) (v : Value) (n : Option ℕ) → f.begun ≡ Some b → Keeps f (record f { begun = Some (with_given b u v) }) n
    given_on b u v None begun e h = (
      e,
      record {
        result = h.result;
        todo = h.todo;
        begun = λ c q. ap (λ (z : Begun). z.what) (sym (same_begun (with_given b u v) c q)) ∙ h.begun b begun;
      },
    )
    given_on b u v (Some n) begun e h = (e, λ w q. absurd (no_begun b (sym begun ∙ (h w q).begun)))

    goes_on : (o : Option Begun) (p : Pick) (v : Value) (n : Option ℕ) → f.begun ≡ o → Keeps f (next world f o p v) n
    goes_on None Control v n e = steps_on n e
    goes_on None (Ev u) v n e = λ q h. (q, h)
    goes_on (Some b) Control v n e = settles b (root_value world f b) n e
    goes_on (Some b) (Ev u) v n e = given_on b u v n e

  -- its own function
  pub frame_on : (f : Local) (p : Pick) (v : Value) → ResultIsLast f f.function
      → ResultIsLast (next world f f.begun p v) (next world f f.begun p v).function
  frame_on f p v h =
      let r = goes_on f f.begun p v f.function refl refl h in
      subst (ResultIsLast (next world f f.begun p v)) (sym r.0) r.1

  -- ---- a frame that is started
  abbrev Starts : Move Local → Type 0
  Starts (Start g) = ResultIsLast g g.function
  Starts m = Unit {0}

  body_starts : (f : Scene) (k n : ℕ) (vs : List Value) (o : Option Stmt) → Starts (body_frame world f k n vs o)
  body_starts f k n vs None = tt
  body_starts f k n vs (Some s) = λ v q. absurd (cc (q))

  call_starts : (f : Scene) (k : ℕ) (vs : List Value) (o : Option (ℕ × Function)) → Starts (start_call world f k vs o)
  call_starts f k vs None = tt
  call_starts f k vs (Some c) = body_starts f k c.0 vs (own_body c.1)

  head_starts : (f : Scene) (k : ℕ) (h : Head) (vs : List Value) → Starts (started world f k h vs)
  head_starts f k (Call d) vs = call_starts f k (later_values vs) (called_by world vs)
  head_starts f k (Isolated e) vs = record { result = refl; todo = inr (e, refl); begun = λ b q. absurd (cc (q)) }
  head_starts f k h vs = tt

  move_starts : (f : Scene) (b : Begun) (u : Place) (o : Option Expr) → Starts (move_of world f b u o)
  move_starts f b u None = tt
  move_starts f b u (Some (expr h ty line es)) = go (is_body u.kind)
    where
      go : (c : Bool) → Starts (if c then started world f u.node h (values_of world f b.given (suc u.node) es) else Stay)
      go true = head_starts f u.node h (values_of world f b.given (suc u.node) es)
      go false = tt

  event_starts : (f : Local) (o : Option Begun) (u : Place) (g : Local) → move world f o (Ev u) ≡ Start g → ResultIsLast g g.function
  event_starts f None u g q = absurd (cc (q))
  event_starts f (Some b) u g q = subst Starts q (move_starts f.scene b u (at_node 0 b.root u.node))

-- ---- runs
pub steps_unresulted : StepsUnresulted
steps_unresulted world st after p h q =
    let g = has_gone world st p after q in
    moved_keeps world st g.value g.store _ IsUnresulted p (move world st.top st.top.begun p)
    (λ m. (frame_on world st.top p g.value h.0, h.1))
    (λ u f is m. (event_starts world st.top st.top.begun u f (subst (λ z. move world st.top st.top.begun z ≡ Start f) is m), (h.0, h.1)))
    (λ m below rest is. let k = subst ResultsAreLast is h.1 in (frame_on world below.0 (Ev below.1) g.value k.0, k.1))
    after g.moved_to

pub starts_unresulted : StartsUnresulted
starts_unresulted world input vs st q =
    subst IsUnresulted (has_started world input vs st q).state ((λ v r. absurd (cc (r))), tt)

pub orders_unresulted : OrdersUnresulted
orders_unresulted world = orders_keep world IsUnresulted (steps_unresulted world)

pub canonical_unresulted : CanonicalUnresulted
canonical_unresulted world = canonical_keeps world IsUnresulted (steps_unresulted world)

none_if : (o : Option Value) → ((v : Value) → o ≡ Some v → ⊥) → o ≡ None
none_if None h = refl
none_if (Some v) h = absurd (h v refl)

last_of : (f : Local) (n : ℕ) → f.function ≡ Some n → ResultIsLast f f.function → ResultIsLast f (Some n)
last_of f n e h = subst (ResultIsLast f) e h

pub open_has_none : OpenHasNone
open_has_none f n b e h begun = none_if f.result (λ v q. no_begun b (sym begun ∙ (last_of f n e h v q).begun))

pub busy_has_none : BusyHasNone
busy_has_none f n e h busy = none_if f.result (λ v q. busy (last_of f n e h v q).todo)
