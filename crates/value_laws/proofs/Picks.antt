-- Each pick keeps that the frames fit, so every order does.
use Rattle.std.proofs.Common.{◌≡◌, ℕ, suc, Bool, true, false, if◌then◌else◌, true≢false, List, [], ◌∷◌, Option, Some, None, is_some}
use Rattle.std.proofs.Common.{refl, sym, ap, ◌∙◌, subst}
use Rattle.std.specs.Prelude.{slice_get, ◌==◌}
use Rattle.ub_base.specs.declared.clause.Kind.TheVariants.{Val}
use Rattle.c_types.specs.Types.{CType}
use Rattle.c_typed.specs.declared.tree.Place.{Place}
use Rattle.c_typed.specs.Order.{place, same_place, is_body}
use Rattle.mem_spec.specs.Script.{Script, Give}
use Rattle.mem_spec.specs.Acts.{create, kill, unwrite}
use Rattle.c_model.specs.Program.{Head, Call, Isolated, Expr, expr, Exprs, Decl, Stmt, Function}
use Rattle.c_model.specs.Values.{Value, Missing, Nothing, later_values, or_nothing, truth, integer_of}
use Rattle.c_model.specs.World.{World}
use Rattle.c_model.specs.Nodes.{act_of, put}
use Rattle.c_model.specs.Moves.{Move, Stay, Start}
use Rattle.c_model.specs.Control.{Todo, Use, Unused, Begin, Enter, Leave, Unwrite, Nothing_to_do, Go_to, Go_out, Go_on, Go_back, To_do, Rest, Round}
use Rattle.c_model.specs.Control.{Again, Test, Break_here, Result, To_branch, To_enter, To_select, To_go_round, To_go_again, to_label}
use Rattle.c_model.specs.Steps.{Scene, Local, Begun, with_given, at_node, event_of, event_act, call_act, operand_values, values_of}
use Rattle.c_model.specs.Steps.{own_kind, first_type, target, own_body, body_frame, start_call, started, called_by, move_of, body_of, found_label, control_act}
use Rattle.c_model.specs.Steps.{control_next, settled, root_value, is_result, result_of, left_by, bear_all, kill_all, pass_all, auto_name}
use Rattle.c_model.specs.Steps.{object_kind, object_at, turn_of}
use Rattle.c_model.proofs.Listed.{same_place_eq}
use Rattle.value_laws.specs.Sizes.{Sizes, HasSize, Keeps, type_of, result_size, StatementFits, Gives, IsPlain, ProgramFits}
use Rattle.value_laws.specs.Wholes.{ValuesFit}
use Rattle.value_laws.proofs.Scripts.{go_on, gives_map}
use Rattle.value_laws.proofs.Acts.{keeps_size, plain_size}
use Rattle.value_laws.proofs.Work.{UseFits, TodoFits, FoundFits, out_fits, on_fits, leaves_fit, gone_fits, finds_fit, after_fits}
use Rattle.value_laws.proofs.Nodes.{itself_there, node_fits, value_size}
use Rattle.value_laws.proofs.Frames.{keeps_itself, keeps_on, function_there, body_there, BegunFits, FrameFits, agreed, some_is}
use Rattle.value_laws.proofs.Frames.{own_value, act_fits, Linked, call_fits}

module _ (size : Sizes) (world : World) where
  abbrev FrameIs : Option ℕ → Local → Type 0
  FrameIs = FrameFits size world

  -- one value more
  given_fits : (b : Begun) (u : Place) (w : Value) → ((e : Expr) → at_node 0 b.root u.node ≡ Some e → HasSize (size (type_of e)) w) → ValuesFit size b
      → ValuesFit size (with_given b u w)
  given_fits b u w k h = λ v e y q g. go v e y q (same_place u v) refl g
    where
      go : (v : Place) (e : Expr) (y : Value) → at_node 0 b.root v.node ≡ Some e → (c : Bool) → same_place u v ≡ c
          → (if c then Some w else b.given v) ≡ Some y → HasSize (size (type_of e)) y
      go v e y q true m g =
          let p : u ≡ v = same_place_eq u v m in
          let wy : w ≡ y = cc in
          subst (HasSize (size (type_of e))) wy (k e (ap (λ z. at_node 0 b.root z.node) p ∙ q))
      go v e y q false m g = h v e y q g

  begun_given : (result : Option ℕ) (b : Begun) (u : Place) (w : Value) → ((e : Expr) → at_node 0 b.root u.node ≡ Some e → HasSize (size (type_of e)) w)
      → BegunFits size world result b → BegunFits size world result (with_given b u w)
  begun_given result b u w k h = record { root = h.root; what = h.what; values = given_fits b u w k h.values }

  pub frame_given : (result : Option ℕ) (f : Local) (b : Begun) (u : Place) (w : Value) → f.begun ≡ Some b
      → ((e : Expr) → at_node 0 b.root u.node ≡ Some e → HasSize (size (type_of e)) w) → FrameIs result f
      → FrameIs result (record f { begun = Some (with_given b u w) })
  frame_given result f b u w e k h = record {
    todo = h.todo;
    begun = λ c r. subst (BegunFits size world result) (some_is size world (with_given b u w) c r) (begun_given result b u w k (h.begun b e));
    gives = h.gives;
    body = h.body;
  }

  -- what a control step gives
  left_plain : (o : Option Function) (m : Bool) → IsPlain (left_by world o m)
  left_plain None m = tt
  left_plain (Some fun) true = tt
  left_plain (Some fun) false = go fun.void
    where
      go : (b : Bool) → IsPlain (if b then Nothing else Missing)
      go true = tt
      go false = tt

  pub result_fits : (result : Option ℕ) (f : Local) → FrameIs result f → HasSize result (result_of world f)
  result_fits result f h = go f.function f.result h.gives
    where
      go : (n : Option ℕ) (o : Option Value) → ((v : Value) → o ≡ Some v → HasSize result v)
          → HasSize result (result_of world (record f { function = n; result = o }))
      go n (Some v) g = g v refl
      go None None g = plain_size result Nothing tt
      go (Some n) None g = plain_size result _ (left_plain (slice_get world.program.functions n) (n == world.program.main))

  module _ (result : Option ℕ) (f : Local) (h : FrameIs result f) where
    abbrev GivesResult : Script Value → Type 0
    GivesResult x = Gives world.rows (HasSize result) x

    kills_fit : (s : Scene) (turn k : ℕ) (ds : List Decl) (rest : Script Value) → GivesResult rest → GivesResult (kill_all world s turn k ds rest)
    kills_fit s turn k [] rest g = g
    kills_fit s turn k (d ∷ ds) rest g =
        go_on world.rows (HasSize result) (kill (auto_name world s turn k)) (λ u. kill_all world s turn (suc k) ds rest)
        (λ u. kills_fit s turn (suc k) ds rest g)

    bears_fit : (s : Scene) (turn k : ℕ) (ds : List Decl) (rest : Script Value) → GivesResult rest → GivesResult (bear_all world s turn k ds rest)
    bears_fit s turn k [] rest g = g
    bears_fit s turn k (d ∷ ds) rest g =
        go_on world.rows (HasSize result) (create world.rows (auto_name world s turn k) d.size d.align (object_kind d.constant) d.form)
        (λ u. bear_all world s turn (suc k) ds rest) (λ u. bears_fit s turn (suc k) ds rest g)

    passes_fit : (s : Scene) (turn k : ℕ) (ds : List Decl) (vs : List Value) → GivesResult (pass_all world s turn k ds vs)
    passes_fit s turn k [] vs = plain_size result Nothing tt
    passes_fit s turn k (d ∷ ds) [] = plain_size result Nothing tt
    passes_fit s turn k (d ∷ ds) (v ∷ vs) =
        go_on world.rows (HasSize result) (put world.rows true d.access d.ty (object_at world s turn k) v) (λ u. pass_all world s turn (suc k) ds vs)
        (λ u. passes_fit s turn (suc k) ds vs)

    pub control_gives : (todo : Todo) → GivesResult (control_act world f todo)
    control_gives [] = plain_size result Nothing tt
    control_gives (Enter b ds ∷ rest) = bears_fit f.scene (suc f.scene.turn) 0 ds _ (passes_fit f.scene (suc f.scene.turn) 0 ds f.arguments)
    control_gives (Leave b ds ∷ rest) = kills_fit f.scene (turn_of f.scene.blocks b) 0 ds (Give (result_of world f)) (result_fits result f h)
    control_gives (Unwrite d ∷ rest) = go_on world.rows (HasSize result) (unwrite world.rows _) (λ u. Give Nothing) (λ u. plain_size result Nothing tt)
    control_gives (Begin e what ∷ rest) = plain_size result Nothing tt
    control_gives (Nothing_to_do ∷ rest) = plain_size result Nothing tt
    control_gives (Go_to k ∷ rest) = plain_size result Nothing tt
    control_gives (Go_out ∷ rest) = plain_size result Nothing tt
    control_gives (Go_on ∷ rest) = plain_size result Nothing tt
    control_gives (Go_back ∷ rest) = plain_size result Nothing tt
    control_gives (To_do s ∷ rest) = plain_size result Nothing tt
    control_gives (Rest ss ∷ rest) = plain_size result Nothing tt
    control_gives (Round test step s ∷ rest) = plain_size result Nothing tt
    control_gives (Again e s ∷ rest) = plain_size result Nothing tt
    control_gives (Test test step s ∷ rest) = plain_size result Nothing tt
    control_gives (Break_here ∷ rest) = plain_size result Nothing tt

    -- and the frame behind it
    label_fits : (k : ℕ) (o : Option Stmt) → ((s : Stmt) → o ≡ Some s → StatementFits size result s) → FoundFits size result (found_label world k o)
    label_fits k None g = tt
    label_fits k (Some s) g = finds_fit size result (to_label k) s (g s refl)

    pub control_fits : (todo : Todo) → TodoFits size result todo → FrameIs result (control_next world f todo)
    control_fits [] t = h
    control_fits (Enter b ds ∷ rest) t = record { todo = t.1; begun = h.begun; gives = h.gives; body = h.body }
    control_fits (Leave b ds ∷ rest) t = record { todo = t.1; begun = h.begun; gives = h.gives; body = h.body }
    control_fits (Begin e what ∷ rest) t = record {
      todo = t.1;
      begun = λ b q. subst (BegunFits size world result) (some_is size world (record { root = e; given = λ u. None; what = what }) b q)
          (record { root = t.0.0; what = t.0.1; values = λ u g v there given. absurd (cc) });
      gives = h.gives;
      body = h.body;
    }
    control_fits (Go_to k ∷ rest) t = record {
      todo = gone_fits size result rest (found_label world k (body_of world f.function)) t.1 (label_fits k (body_of world f.function) h.body);
      begun = h.begun;
      gives = h.gives;
      body = h.body;
    }
    control_fits (Go_out ∷ rest) t = record { todo = out_fits size result rest t.1; begun = h.begun; gives = h.gives; body = h.body }
    control_fits (Go_on ∷ rest) t = record { todo = on_fits size result rest t.1; begun = h.begun; gives = h.gives; body = h.body }
    control_fits (Go_back ∷ rest) t = record { todo = leaves_fit size result rest; begun = h.begun; gives = h.gives; body = h.body }
    control_fits (Unwrite d ∷ rest) t = record { todo = t.1; begun = h.begun; gives = h.gives; body = h.body }
    control_fits (Nothing_to_do ∷ rest) t = record { todo = t.1; begun = h.begun; gives = h.gives; body = h.body }
    control_fits (To_do s ∷ rest) t = record { todo = t.1; begun = h.begun; gives = h.gives; body = h.body }
    control_fits (Rest ss ∷ rest) t = record { todo = t.1; begun = h.begun; gives = h.gives; body = h.body }
    control_fits (Round test step s ∷ rest) t = record { todo = t.1; begun = h.begun; gives = h.gives; body = h.body }
    control_fits (Again e s ∷ rest) t = record { todo = t.1; begun = h.begun; gives = h.gives; body = h.body }
    control_fits (Test test step s ∷ rest) t = record { todo = t.1; begun = h.begun; gives = h.gives; body = h.body }
    control_fits (Break_here ∷ rest) t = record { todo = t.1; begun = h.begun; gives = h.gives; body = h.body }

    -- a full expression settles
    root_size : (b : Begun) → BegunFits size world result b → HasSize (size (type_of b.root)) (root_value world f b)
    root_size b g = value_size world f.scene size b.given b.root 0 (λ v q. g.values (place 0 Val) b.root v (itself_there b.root 0) q)

    pub settled_fits : (b : Begun) → f.begun ≡ Some b → FrameIs result (settled world f (root_value world f b) b.what)
    settled_fits b e = record {
      todo = after_fits size result (truth v) (integer_of v) (size (type_of b.root)) b.what f.todo (h.begun b e).what h.todo;
      begun = λ c q. absurd (cc);
      gives = given_result b.what (h.begun b e).what;
      body = h.body;
    }
      where
        v : Value
        v = root_value world f b

        of_result : (what : Use) → is_result world what ≡ true → UseFits size result (size (type_of b.root)) what → Keeps (size (type_of b.root)) result
        of_result Result q u = u
        of_result Unused q u = absurd (true≢false (sym q))
        of_result (To_branch s t) q u = absurd (true≢false (sym q))
        of_result (To_enter s) q u = absurd (true≢false (sym q))
        of_result (To_select s) q u = absurd (true≢false (sym q))
        of_result (To_go_round test step s) q u = absurd (true≢false (sym q))
        of_result (To_go_again g s) q u = absurd (true≢false (sym q))

        given_result : (what : Use) → UseFits size result (size (type_of b.root)) what → (w : Value)
            → (if is_result world what then Some v else f.result) ≡ Some w → HasSize result w
        given_result what u w q = go (is_result world what) refl q
          where
            go : (c : Bool) → is_result world what ≡ c → (if c then Some v else f.result) ≡ Some w → HasSize result w
            go true r q =
                let same : v ≡ w = cc in
                subst (HasSize result) same (keeps_size (size (type_of b.root)) result v (of_result what r u) (root_size b (h.begun b e)))
            go false r q = h.gives w q

  -- what an event does to the frames
  pub data EventMove (b : Begun) (u : Place) : Move Local → Type 0 where
    stays : EventMove b u Stay
    starts : (g : Local) (result : Option ℕ) → FrameIs result g → ((e : Expr) → at_node 0 b.root u.node ≡ Some e → Keeps result (size (type_of e)))
        → EventMove b u (Start g)

  some_value : (v w : Value) → Some v ≡ Some w → v ≡ w
  some_value v w h = cc

  abbrev pub EventIs : Scene → Begun → Place → Option Expr → Value → Type 0
  EventIs f b u None v = Unit {0}
  EventIs f b u (Some (expr h ty line es)) v =
      HasSize (size ty) v × (is_body u.kind ≡ true → Linked size world h es (values_of world f b.given (suc u.node) es))

  module _ (ok : ProgramFits size world) where
    -- the value of an event
    pub event_gives : (result : Option ℕ) (f : Scene) (b : Begun) → BegunFits size world result b → (u : Place) (o : Option Expr) → at_node 0 b.root u.node ≡ o
        → Gives world.rows (EventIs f b u o) (event_act world f b u o)
    event_gives result f b h u None q = tt
    event_gives result f b h u (Some (expr g ty line es)) q = go (is_body u.kind) refl
      where
        vs : List Value
        vs = values_of world f b.given (suc u.node) es

        Q : Value → Type 0
        Q v = HasSize (size ty) v × (is_body u.kind ≡ true → Linked size world g es vs)

        own : Value
        own = or_nothing (b.given (place u.node (own_kind u.kind)))

        go : (c : Bool) → is_body u.kind ≡ c → Gives world.rows Q (if c then call_act world (event_of world f u) g es vs
            else act_of world.rows (event_of world f u) g (target (first_type es)) u.kind (operand_values world f b.given (suc u.node) g es) own)
        go true e =
            gives_map world.rows (λ v. IsPlain v × Linked size world g es vs) Q (call_act world (event_of world f u) g es vs)
            (λ v p. (plain_size (size ty) v p.0, λ k. p.1)) (call_fits size world ok (event_of world f u) g es vs)
        go false e =
            gives_map world.rows (HasSize (size ty)) Q _ (λ v p. (p, λ k. absurd (true≢false (sym k ∙ e))))
            (act_fits size world f b h.root h.values (event_of world f u) u.node g ty (target (first_type es)) line es u.kind own q
            (own_value size world f b h.values u.node g ty line es q (own_kind u.kind)))

    module _ (result : Option ℕ) (f : Scene) (b : Begun) (h : BegunFits size world result b) (u : Place) where
      frame_of : (g : Head) (ty : CType) (line : ℕ) (es : Exprs) (c : ℕ × Function) → slice_get world.program.functions c.0 ≡ Some c.1
          → Keeps (result_size size c.1.ty) (size ty) → at_node 0 b.root u.node ≡ Some (expr g ty line es) → (vs : List Value) (o : Option Stmt)
          → own_body c.1 ≡ o
          → EventMove b u (body_frame world f u.node c.0 vs o)
      frame_of g ty line es c there keeps q vs None e = stays
      frame_of g ty line es c there keeps q vs (Some s) e = starts _ (result_size size c.1.ty) (record {
        todo = ((ok.functions c.0 c.1 there).body s (defined c.1 s e), tt);
        begun = λ d r. absurd (cc);
        gives = λ v r. absurd (cc);
        body = λ t r. (ok.functions c.0 c.1 there).body t (sym (body_there world c.0 c.1 there) ∙ r);
      }) (λ x r. (let same : expr g ty line es ≡ x = cc in subst (λ z. Keeps (result_size size c.1.ty) (size (type_of z))) same keeps))
        where
          defined : (fun : Function) (s : Stmt) → own_body fun ≡ Some s → fun.body ≡ Some s
          defined fun s e = go (is_some fun.library) e
            where
              go : (c : Bool) → (if c then None else fun.body) ≡ Some s → fun.body ≡ Some s
              go true e = absurd (cc)
              go false e = e

      call_moves : (d : Bool) (ty : CType) (line : ℕ) (es : Exprs) → at_node 0 b.root u.node ≡ Some (expr (Call d) ty line es) → (vs : List Value)
          → Linked size world (Call d) es vs → (o : Option (ℕ × Function)) → called_by world vs ≡ o → EventMove b u
          (start_call world f u.node (later_values vs) o)
      call_moves d ty line es q vs link None e = stays
      call_moves d ty line es q vs link (Some c) e =
          frame_of (Call d) ty line es c (function_there world.program.functions _ c e)
          (keeps_on (result_size size c.1.ty) (result_size size (target (first_type es))) (size ty)
          (agreed size world c.0 c.1 (ok.functions c.0 c.1 (function_there world.program.functions _ c e)) (target (first_type es)) (link c e).0 (link c e).1)
          (node_fits size b.root 0 u.node (expr (Call d) ty line es) h.root q).0.0)
          q (later_values vs) (own_body c.1) refl

      head_moves : (g : Head) (ty : CType) (line : ℕ) (es : Exprs) → at_node 0 b.root u.node ≡ Some (expr g ty line es) → (vs : List Value)
          → Linked size world g es vs → EventMove b u (started world f u.node g vs)
      head_moves (Call d) ty line es q vs link = call_moves d ty line es q vs link (called_by world vs) refl
      head_moves (Isolated e) ty line es q vs link = starts _ (size ty) (record {
        todo = (((node_fits size b.root 0 u.node (expr (Isolated e) ty line es) h.root q).1.0, tt), tt);
        begun = λ d r. absurd (cc);
        gives = λ v r. subst (HasSize (size ty)) (some_value Nothing v r) (plain_size (size ty) Nothing tt);
        body = λ t r. absurd (cc);
      }) (λ x r. (let same : expr (Isolated e) ty line es ≡ x = cc in subst (λ z. Keeps (size ty) (size (type_of z))) same (keeps_itself (size ty))))
      head_moves g ty line es q vs link = stays

      pub event_moves : (o : Option Expr) → at_node 0 b.root u.node ≡ o → (v : Value) → EventIs f b u o v → EventMove b u (move_of world f b u o)
      event_moves None q v k = stays
      event_moves (Some (expr g ty line es)) q v k = go (is_body u.kind) refl
        where
          go : (c : Bool) → is_body u.kind ≡ c → EventMove b u (if c then started world f u.node g (values_of world f b.given (suc u.node) es) else Stay)
          go true e = head_moves g ty line es q (values_of world f b.given (suc u.node) es) (k.1 e)
          go false e = stays

      -- so the value fits its node
      pub event_value : (v : Value) → EventIs f b u (at_node 0 b.root u.node) v → (e : Expr) → at_node 0 b.root u.node ≡ Some e → HasSize (size (type_of e)) v
      event_value v k (expr g ty line es) q = (subst (λ o. EventIs f b u o v) q k).0
