-- What picks do to a frame that holds small values.
use Rattle.std.proofs.Common.{arith, ◌≡◌, ◌≤◌, ℕ, suc, ◌==◌, Bool, true, false, ◌||◌, if◌then◌else◌, List, [], ◌∷◌, Option, Some, None}
use Rattle.std.proofs.Common.{is_some, refl, subst, replicate, slice_get, pos}
use Rattle.std.specs.List.{All}
use Rattle.std.proofs.lemmas.List.Elements.{All-nil, All-head, All-tail, All-replicate}
use Rattle.ub_base.specs.declared.clause.Clause.TheVariants.{InvalidPointer, IncompatibleCall}
use Rattle.ub_base.specs.declared.names.Event.{Event}
use Rattle.ub_base.specs.declared.names.Item.{Item}
use Rattle.ub_base.specs.declared.names.ObjName.{ObjName}
use Rattle.addr_map.specs.Rows.{row_of}
use Rattle.c_types.specs.Shapes.{Form}
use Rattle.c_types.specs.Types.{CType}
use Rattle.c_types.specs.declared.library.LibFunc.{LibFunc}
use Rattle.ub_base.specs.declared.clause.Kind.TheVariants.{Val}
use Rattle.c_typed.specs.declared.tree.Place.{Place}
use Rattle.c_typed.specs.Order.{is_body, place, same_place}
use Rattle.c_typed.specs.Tree.{is_quiet}
use Rattle.mem_spec.specs.declared.kind.ObjKind.{ObjKind}
use Rattle.mem_spec.specs.Acts.{base_in, create, has_place, kill, size_in, unwrite}
use Rattle.mem_spec.specs.Script.{Bear, Done, Give, Misplace, Put, Script, require, run, touch, ◌>>◌}
use Rattle.mem_spec.specs.Store.{Store, fresh}
use Rattle.mem_spec.specs.Streams.{total}
use Rattle.c_model.specs.Control.{Todo, Enter, Leave, Unwrite, Begin, Nothing_to_do, Go_to, Go_out, Go_on, Go_back, To_do, Rest, Round, Again, Test}
use Rattle.c_model.specs.Control.{Break_here, ready_work, to_label}
use Rattle.c_model.specs.Nodes.{act_of, put}
use Rattle.c_model.specs.Program.{Call, Decl, Expr, expr, Exprs, Function, Head, Stmt, tree_of}
use Rattle.c_model.specs.Steps.{Begun, Local, Scene, argument_types, auto_name, bear_all, body_of, call_act, call_by, call_through, called_by}
use Rattle.c_model.specs.Steps.{control_act, control_next, event_act, event_of, first_type, found_label, function_type, is_result, kill_all, left_by}
use Rattle.c_model.specs.Steps.{library_act}
use Rattle.c_model.specs.Steps.{object_at, object_kind, operand_values, own_kind, pass_all, quiet_value, result_of, root_value, settled, target, turn_of}
use Rattle.c_model.specs.Steps.{values_of, with_given}
use Rattle.c_model.specs.Values.{Value, Int, Missing, Nothing, integer_of, later_values, or_nothing, truth}
use Rattle.c_model.specs.World.{World}
use Rattle.value_facts.specs.Constants.{EachLeft, EachOf, IsSmallExpr}
use Rattle.value_facts.specs.Held.{AreBytes, IsBegunOf, IsFrameOf, KeepsSmall}
use Rattle.value_facts.specs.Small.{HasSmallBytes, IsSmall, IsSmallByte}
use Rattle.value_facts.proofs.Accesses.{put_so}
use Rattle.value_facts.proofs.Parts.{when}
use Rattle.value_facts.proofs.Nodes.{IsKept, SmallIf, all_small, given_kept, head_fills, later_kept, nothing_kept, operand_kept, quiet_kept}
use Rattle.value_facts.proofs.Nodes.{values_kept}
use Rattle.value_facts.proofs.Ran.{given, required}
use Rattle.value_facts.proofs.Scripts.{Any, GivesSo, after_so, runs_so, then_so}
use Rattle.value_facts.proofs.Works.{FoundFits, after_fits, finds_fit, gone_fits, leaves_fit, on_fits, out_fits, ready_fits}

same_value : (v w : Value) → Some v ≡ Some w → v ≡ w
same_value v w h = cc (h)

pub same_begun : (b c : Begun) → Some b ≡ Some c → b ≡ c
same_begun b c h = cc (h)

module _ (world : World) where
  pub create_any : (x : ObjName) (n align : ℕ) (kind : ObjKind) (form : Option Form) → GivesSo Any (create world.rows x n align kind form)
  create_any x n align kind form =
      when Any (has_place (row_of world.rows x) n align) (touch (Bear x n kind form) >> Give (base_in (row_of world.rows x))) Misplace (tt, λ a g. tt) tt

module _ (world : World) (keeps : KeepsSmall world) (V : Value → Type 0) (kept : IsKept world V) where
  nothing : V Nothing
  nothing = nothing_kept world keeps.rows V kept

  -- ---- the result of a frame
  left_kept : (o : Option Function) (m : Bool) → V (left_by world o m)
  left_kept None m = nothing
  left_kept (Some fun) true = kept.plain (Int (pos 0)) (omega arith) tt
  left_kept (Some fun) false = go fun.void
    where
      go : (b : Bool) → V (if b then Nothing else Missing)
      go true = nothing
      go false = kept.plain Missing tt tt

  pub result_kept : (f : Local) → IsFrameOf V f → V (result_of world f)
  result_kept f h = go f.function f.result h.result
    where
      go : (n : Option ℕ) (o : Option Value) → ((v : Value) → o ≡ Some v → V v) → V (result_of world (record f { function = n; result = o }))
      go n (Some v) g = g v refl
      go None None g = nothing
      go (Some n) None g = left_kept (slice_get world.program.functions n) (n == world.program.main)

  -- ---- control steps
  bears_so : (f : Scene) (turn k : ℕ) (ds : List Decl) (rest : Script Value) → GivesSo V rest → GivesSo V (bear_all world f turn k ds rest)
  bears_so f turn k [] rest h = h
  bears_so f turn k (d ∷ ds) rest h =
      after_so V (create world.rows (auto_name world f turn k) d.size d.align (object_kind d.constant) d.form) (bear_all world f turn (suc k) ds rest)
      (create_any world (auto_name world f turn k) d.size d.align (object_kind d.constant) d.form) (bears_so f turn (suc k) ds rest h)

  kills_so : (f : Scene) (turn k : ℕ) (ds : List Decl) (rest : Script Value) → GivesSo V rest → GivesSo V (kill_all world f turn k ds rest)
  kills_so f turn k [] rest h = h
  kills_so f turn k (d ∷ ds) rest h =
      after_so V (kill (auto_name world f turn k)) (kill_all world f turn (suc k) ds rest) (tt, λ a g. tt) (kills_so f turn (suc k) ds rest h)

  passes_so : (f : Scene) (turn k : ℕ) (ds : List Decl) (vs : List Value) → All IsSmall vs → GivesSo V (pass_all world f turn k ds vs)
  passes_so f turn k [] vs h = nothing
  passes_so f turn k (d ∷ ds) [] h = nothing
  passes_so f turn k (d ∷ ds) (v ∷ vs) h =
      then_so IsSmall V (put world.rows true d.access d.ty (object_at world f turn k) v) (λ u. pass_all world f turn (suc k) ds vs)
      (put_so world.rows true d.access d.ty (object_at world f turn k) v (All-head IsSmall v vs h))
      (λ u any. passes_so f turn (suc k) ds vs (All-tail IsSmall v vs h))

  unwrites_so : (x : ObjName) → GivesSo Any (unwrite world.rows x)
  unwrites_so x = (
    tt,
    λ life g. when Any (is_some life) (touch (Put x 0 (replicate (size_in (row_of world.rows x)) fresh))) (Give tt)
        (All-replicate IsSmallByte (size_in (row_of world.rows x)) fresh (omega arith), λ a f. tt) tt,
  )

  pub control_so : (f : Local) → IsFrameOf V f → (todo : Todo) → GivesSo V (control_act world f todo)
  control_so f h [] = nothing
  control_so f h (Enter b ds ∷ rest) =
      bears_so f.scene (suc f.scene.turn) 0 ds (pass_all world f.scene (suc f.scene.turn) 0 ds f.arguments)
      (passes_so f.scene (suc f.scene.turn) 0 ds f.arguments (all_small V kept.small f.arguments h.arguments))
  control_so f h (Leave b ds ∷ rest) = kills_so f.scene (turn_of f.scene.blocks b) 0 ds (Give (result_of world f)) (result_kept f h)
  control_so f h (Unwrite d ∷ rest) = after_so V (unwrite world.rows _) (Give Nothing) (unwrites_so _) nothing
  control_so f h (Begin e what ∷ rest) = nothing
  control_so f h (Nothing_to_do ∷ rest) = nothing
  control_so f h (Go_to k ∷ rest) = nothing
  control_so f h (Go_out ∷ rest) = nothing
  control_so f h (Go_on ∷ rest) = nothing
  control_so f h (Go_back ∷ rest) = nothing
  control_so f h (To_do s ∷ rest) = nothing
  control_so f h (Rest ss ∷ rest) = nothing
  control_so f h (Round test step s ∷ rest) = nothing
  control_so f h (Again e s ∷ rest) = nothing
  control_so f h (Test test step s ∷ rest) = nothing
  control_so f h (Break_here ∷ rest) = nothing

  -- ---- the frame behind a control step
  module _ (f : Local) (h : IsFrameOf V f) (body : (s : Stmt) → body_of world f.function ≡ Some s → EachOf IsSmallExpr s) where
    label_small : (k : ℕ) (o : Option Stmt) → ((s : Stmt) → o ≡ Some s → EachOf IsSmallExpr s) → FoundFits IsSmallExpr (found_label world k o)
    label_small k None g = tt
    label_small k (Some s) g = finds_fit IsSmallExpr (to_label k) s (g s refl)

    with_todo : (todo : Todo) → EachLeft IsSmallExpr todo → IsFrameOf V (record f { todo = todo })
    with_todo todo t = record { todo = t; begun = h.begun; arguments = h.arguments; result = h.result }

    behind_kept : (todo : Todo) → EachLeft IsSmallExpr todo → IsFrameOf V (control_next world f todo)
    behind_kept [] t = h
    behind_kept (Enter b ds ∷ rest) t = record { todo = t.1; begun = h.begun; arguments = All-nil V; result = h.result }
    behind_kept (Leave b ds ∷ rest) t = record { todo = t.1; begun = h.begun; arguments = h.arguments; result = h.result }
    behind_kept (Begin e what ∷ rest) t = record {
      todo = t.1;
      begun = λ b q. subst (IsBegunOf V) (same_begun (record { root = e; given = λ u. None; what = what }) b q)
          (record { root = t.0.0; what = t.0.1; given = λ u v g. absurd (cc (g)) });
      arguments = h.arguments;
      result = h.result;
    }
    behind_kept (Go_to k ∷ rest) t =
        with_todo _ (gone_fits IsSmallExpr rest (found_label world k (body_of world f.function)) t.1 (label_small k (body_of world f.function) body))
    behind_kept (Go_out ∷ rest) t = with_todo _ (out_fits IsSmallExpr rest t.1)
    behind_kept (Go_on ∷ rest) t = with_todo _ (on_fits IsSmallExpr rest t.1)
    behind_kept (Go_back ∷ rest) t = with_todo _ (leaves_fit IsSmallExpr rest)
    behind_kept (Unwrite d ∷ rest) t = with_todo rest t.1
    behind_kept (Nothing_to_do ∷ rest) t = with_todo rest t.1
    behind_kept (To_do s ∷ rest) t = with_todo rest t.1
    behind_kept (Rest ss ∷ rest) t = with_todo rest t.1
    behind_kept (Round test step s ∷ rest) t = with_todo rest t.1
    behind_kept (Again e s ∷ rest) t = with_todo rest t.1
    behind_kept (Test test step s ∷ rest) t = with_todo rest t.1
    behind_kept (Break_here ∷ rest) t = with_todo rest t.1

    pub control_kept : IsFrameOf V (control_next world f (ready_work f.todo))
    control_kept = behind_kept (ready_work f.todo) (ready_fits IsSmallExpr f.todo h.todo)

  -- ---- a full expression that has begun
  module _ (f : Local) (h : IsFrameOf V f) (b : Begun) (begun : f.begun ≡ Some b) where
    its : IsBegunOf V b
    its = h.begun b begun

    root_kept : V (root_value world f b)
    root_kept = go (is_quiet (tree_of b.root))
      where
        go : (c : Bool) → V (if c then quiet_value world f.scene b.root else or_nothing (b.given (place 0 Val)))
        go true = quiet_kept world keeps.rows V kept f.scene b.root its.root
        go false = given_kept world keeps.rows V kept b.given its.given (place 0 Val)

    used : (v w : Value) → V v → (c : Bool) → (if c then Some v else f.result) ≡ Some w → V w
    used v w k true q = subst V (same_value v w q) k
    used v w k false q = h.result w q

    -- its value is used
    pub settled_kept : IsFrameOf V (settled world f (root_value world f b) b.what)
    settled_kept =
        let v = root_value world f b in
        record {
          todo = after_fits IsSmallExpr (truth v) (integer_of v) b.what f.todo its.what h.todo;
          begun = λ c q. absurd (cc (q));
          arguments = h.arguments;
          result = λ w q. used v w root_kept (is_result world b.what) q;
        }

    -- a value was given
    one_more : (u : Place) (v : Value) → V v → (w : Place) (x : Value) (c : Bool) → (if c then Some v else b.given w) ≡ Some x → V x
    one_more u v k w x true q = subst V (same_value v x q) k
    one_more u v k w x false q = its.given w x q

    pub given_frame : (u : Place) (v : Value) → V v → IsFrameOf V (record f { begun = Some (with_given b u v) })
    given_frame u v k = record {
      todo = h.todo;
      begun = λ c q. subst (IsBegunOf V) (same_begun (with_given b u v) c q)
          (record { root = its.root; what = its.what; given = λ w x is. one_more u v k w x (same_place u w) is });
      arguments = h.arguments;
      result = h.result;
    }

  -- ---- an event
  module _ (s u : Store) (v : Value) (is : List Item) (bytes : HasSmallBytes s) (input : AreBytes s.input)
      (within : total u.output ≤ world.limits.output) where
    abbrev GivesKept : Type 0
    GivesKept = V v × HasSmallBytes u

    nothing_given : (w : Value) → V w → run world.rows (Give w) s ≡ Done v is u → GivesKept
    nothing_given w h r = let e = given world.rows w v s u is r in (subst V e.0 h, subst HasSmallBytes e.1 bytes)

    library_kept : (who : Event) (ts : List CType) (vs : List Value) (o : Option LibFunc) → All V vs
        → run world.rows (library_act world who ts vs o) s ≡ Done v is u → GivesKept
    library_kept who ts vs None h r = nothing_given Nothing nothing r
    library_kept who ts vs (Some g) h r =
        let given' = keeps.library g who ts vs s u v is (all_small V kept.small vs h) bytes input r within in
        (kept.plain v given'.0 given'.1, given'.2)

    by_kept : (who : Event) (ty : CType) (ts : List CType) (vs : List Value) (o : Option (ℕ × Function)) → All V vs
        → run world.rows (call_by world who ty ts vs o) s ≡ Done v is u → GivesKept
    by_kept who ty ts vs None h r = absurd (cc (r))
    by_kept who ty ts vs (Some c) h r =
        library_kept who ts vs c.1.library h
        (required world.rows (world.agree c.1.ty ty) IncompatibleCall (library_act world who ts vs c.1.library) s u v is
        (required world.rows (is_some c.1.body || is_some c.1.library) InvalidPointer
        (require (world.agree c.1.ty ty) IncompatibleCall >> library_act world who ts vs c.1.library) s u v is r))

    through_kept : (who : Event) (o : Option CType) (ts : List CType) (vs : List Value) → All V vs
        → run world.rows (call_through world who o ts vs) s ≡ Done v is u → GivesKept
    through_kept who None ts vs h r = absurd (cc (r))
    through_kept who (Some ty) ts vs h r = by_kept who ty ts (later_values vs) (called_by world vs) (later_kept V vs h) r

    call_kept : (who : Event) (h : Head) (es : Exprs) (vs : List Value) → All V vs → run world.rows (call_act world who h es vs) s ≡ Done v is u
        → GivesKept
    call_kept who (Call d) es vs a r = through_kept who (function_type (target (first_type es))) (argument_types es) vs a r
    call_kept who h es vs a r = nothing_given Nothing nothing r

    module _ (f : Scene) (b : Begun) (its : IsBegunOf V b) (w : Place) where
      pub event_kept : (o : Option Expr) → SmallIf o → run world.rows (event_act world f b w o) s ≡ Done v is u → GivesKept
      event_kept None h r = nothing_given Nothing nothing r
      event_kept (Some (expr h ty line es)) i r = go (is_body w.kind) refl r
        where
          vs : List Value
          vs = values_of world f b.given (suc w.node) es

          own : Value
          own = or_nothing (b.given (place w.node (own_kind w.kind)))

          who : Event
          who = event_of world f w

          act : Script Value
          act = act_of world.rows who h (target (first_type es)) w.kind (operand_values world f b.given (suc w.node) h es) own

          go : (c : Bool) → is_body w.kind ≡ c → run world.rows (if c then call_act world who h es vs else act) s ≡ Done v is u → GivesKept
          go true e r = call_kept who h es vs (values_kept world keeps.rows V kept f b.given its.given (suc w.node) es i.1) r
          go false e r =
              runs_so V world.rows act s u v is
              (kept.acts who h (target (first_type es)) w.kind (operand_values world f b.given (suc w.node) h es) own e (head_fills h i.0)
              (operand_kept world keeps.rows V kept f b.given its.given (suc w.node) h es i.1)
              (given_kept world keeps.rows V kept b.given its.given (place w.node (own_kind w.kind)))) bytes r
