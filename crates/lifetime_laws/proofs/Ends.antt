-- An act that ends the run does nothing else, where the library's scripts ask for the life of what they access or only end the run.
use Rattle.std.proofs.Common.{◌≡◌, refl, ℕ, suc, Bool, true, false, ◌||◌, if◌then◌else◌, arith, List, [], ◌∷◌, Option, Some, None, is_some, ap, inl, inr}
use Rattle.std.proofs.Common.{sym, ◌∙◌}
use Rattle.std.specs.Prelude.{replicate}
use Rattle.std.proofs.lemmas.Bool.Decides.{nat_tests}
use Rattle.ub_base.specs.declared.clause.Clause.{Clause}
use Rattle.ub_base.specs.declared.clause.Clause.TheVariants.{InvalidPointer, IncompatibleCall}
use Rattle.ub_base.specs.declared.names.Event.{Event}
use Rattle.ub_base.specs.declared.names.ObjName.{ObjName}
use Rattle.ub_base.specs.declared.names.Item.{Item}
use Rattle.ub_base.specs.declared.names.Item.TheVariants.{Alive, Ending}
use Rattle.ub_base.proofs.NameLemmas.{same_object_refl}
use Rattle.addr_map.specs.declared.map.Row.{Row}
use Rattle.addr_map.specs.Rows.{row_of}
use Rattle.c_types.specs.declared.library.LibFunc.{LibFunc}
use Rattle.c_types.specs.Types.{CType}
use Rattle.c_types.specs.Shapes.{Form}
use Rattle.c_typed.specs.declared.tree.Place.{Place}
use Rattle.c_typed.specs.Order.{is_body}
use Rattle.mem_spec.specs.declared.kind.ObjKind.{ObjKind}
use Rattle.mem_spec.specs.Store.{Store, fresh}
use Rattle.mem_spec.specs.Script.{Put, Bear, Script, Give, Misplace, ◌>>◌, require, touch, Finish, Done, Ended, run, Act}
use Rattle.mem_spec.specs.Acts.{create, has_place, base_in, kill, size_in, unwrite}
use Rattle.mem_laws.specs.Frame.{any_of}
use Rattle.c_model.specs.World.{World}
use Rattle.c_model.specs.Values.{Value, Nothing, or_nothing, later_values}
use Rattle.c_model.specs.Program.{Head, Call, Expr, expr, Exprs, Decl, Function}
use Rattle.c_model.specs.Nodes.{put, act_of}
use Rattle.c_model.specs.Control.{Enter, Leave, Unwrite, Todo, ready_work}
use Rattle.c_model.specs.Steps.{Scene, Local, Begun, Pick, Control, Ev, at_node, event_of, auto_name, object_kind, turn_of, target, first_type}
use Rattle.c_model.specs.Steps.{function_type, operand_values, values_of, argument_types, own_kind, library_act, called_by, call_by, call_through}
use Rattle.c_model.specs.Steps.{call_act, event_act, object_at, pass_all, bear_all, kill_all, result_of, control_act, does}
use Rattle.order_laws.specs.StrictItems.{asks, backed}
use Rattle.order_laws.specs.Asking.{Anything, Asked, AskedOrEnds, LibraryAsked}
use Rattle.order_laws.proofs.Asks.{when, never_ends}
use Rattle.order_laws.proofs.ActsAsk.{go_on, put_asks, act_asks}
use Rattle.order_laws.proofs.ProgramAsks.{create_asks}

-- an object that isn't known stays as it is, and one that was asked for may be written
unwrite_asks : (rows : List Row) (x : ObjName) (bs : List Item) → Asked rows (unwrite rows x) bs
unwrite_asks rows x bs = λ life.
    when rows (is_some life) (touch (Put x 0 (replicate (size_in (row_of rows x)) fresh))) (Give tt) (Alive x ∷ bs) Anything
    (ap (λ b. b || any_of (λ j. asks j x) bs) (same_object_refl x), (λ r. tt)) tt

module _ (world : World)
    (library_asks : LibraryAsked world) where
  pass_asks : (f : Scene) (turn k : ℕ) (ds : List Decl) (vs : List Value) (bs : List Item) → Asked world.rows (pass_all world f turn k ds vs) bs
  pass_asks f turn k (d ∷ ds) (v ∷ vs) bs =
      go_on world.rows (put world.rows true d.access d.ty (object_at world f turn k) v) (λ u. pass_all world f turn (suc k) ds vs) bs
      (put_asks world.rows true d.access d.ty (object_at world f turn k) v bs) (λ u cs. pass_asks f turn (suc k) ds vs cs)
  pass_asks f turn k [] vs bs = tt
  pass_asks f turn k (d ∷ ds) [] bs = tt

  bear_asks : (f : Scene) (turn k : ℕ) (ds : List Decl) (rest : Script Value) (bs : List Item) → ((cs : List Item) → Asked world.rows rest cs)
      → Asked world.rows (bear_all world f turn k ds rest) bs
  bear_asks f turn k [] rest bs h = h bs
  bear_asks f turn k (d ∷ ds) rest bs h =
      go_on world.rows (create world.rows (auto_name world f turn k) d.size d.align (object_kind d.constant) d.form)
      (λ u. bear_all world f turn (suc k) ds rest) bs
      (create_asks world.rows (auto_name world f turn k) d.size d.align (object_kind d.constant) d.form bs) (λ u cs. bear_asks f turn (suc k) ds rest cs h)

  kill_asks : (f : Scene) (turn k : ℕ) (ds : List Decl) (rest : Script Value) (bs : List Item) → ((cs : List Item) → Asked world.rows rest cs)
      → Asked world.rows (kill_all world f turn k ds rest) bs
  kill_asks f turn k [] rest bs h = h bs
  kill_asks f turn k (d ∷ ds) rest bs h =
      go_on world.rows (kill (auto_name world f turn k)) (λ u. kill_all world f turn (suc k) ds rest) bs (λ r. tt)
      (λ u cs. kill_asks f turn (suc k) ds rest cs h)

  checked : (b : Bool) (c : Clause) (t : Script Value) (bs : List Item) → AskedOrEnds world.rows t bs → AskedOrEnds world.rows (require b c >> t) bs
  checked true c t bs h = h
  checked false c t bs h = inl tt

  library_act_asks : (who : Event) (ts : List CType) (vs : List Value) (o : Option LibFunc) (bs : List Item)
      → AskedOrEnds world.rows (library_act world who ts vs o) bs
  library_act_asks who ts vs None bs = inl tt
  library_act_asks who ts vs (Some g) bs = library_asks g who ts vs bs

  call_by_asks : (who : Event) (ty : CType) (ts : List CType) (vs : List Value) (o : Option (ℕ × Function)) (bs : List Item)
      → AskedOrEnds world.rows (call_by world who ty ts vs o) bs
  call_by_asks who ty ts vs None bs = inl tt
  call_by_asks who ty ts vs (Some c) bs =
      checked (is_some c.1.body || is_some c.1.library) InvalidPointer
      (require (world.agree c.1.ty ty) IncompatibleCall >> library_act world who ts vs c.1.library) bs
      (checked (world.agree c.1.ty ty) IncompatibleCall (library_act world who ts vs c.1.library) bs (library_act_asks who ts vs c.1.library bs))

  through_asks : (who : Event) (ty : Option CType) (ts : List CType) (vs : List Value) (bs : List Item)
      → AskedOrEnds world.rows (call_through world who ty ts vs) bs
  through_asks who None ts vs bs = inl tt
  through_asks who (Some ty) ts vs bs = call_by_asks who ty ts (later_values vs) (called_by world vs) bs

  call_asks : (who : Event) (h : Head) (es : Exprs) (vs : List Value) (bs : List Item) → AskedOrEnds world.rows (call_act world who h es vs) bs
  call_asks who (Call discarded) es vs bs = through_asks who (function_type (target (first_type es))) (argument_types es) vs bs
  call_asks who _ es vs bs = inl tt

  either_way : (b : Bool) (x y : Script Value) (bs : List Item) → AskedOrEnds world.rows x bs → AskedOrEnds world.rows y bs
      → AskedOrEnds world.rows (if b then x else y) bs
  either_way true x y bs h k = h
  either_way false x y bs h k = k

  event_asks : (f : Scene) (e : Begun) (u : Place) (o : Option Expr) (bs : List Item) → AskedOrEnds world.rows (event_act world f e u o) bs
  event_asks f e u None bs = inl tt
  event_asks f e u (Some (expr h ty line es)) bs =
      either_way (is_body u.kind) (call_act world (event_of world f u) h es (values_of world f e.given (suc u.node) es))
      (act_of world.rows (event_of world f u) h (target (first_type es)) u.kind (operand_values world f e.given (suc u.node) h es)
      (or_nothing (e.given (record u { kind = own_kind u.kind })))) bs
      (call_asks (event_of world f u) h es (values_of world f e.given (suc u.node) es) bs)
      (inl (act_asks world.rows (event_of world f u) h (target (first_type es)) u.kind (operand_values world f e.given (suc u.node) h es)
      (or_nothing (e.given (record u { kind = own_kind u.kind }))) bs))

  control_asks : (f : Local) (t : Todo) (bs : List Item) → Asked world.rows (control_act world f t) bs
  control_asks f (Enter b ds ∷ rest) bs = bear_asks f.scene (suc f.scene.turn) 0 ds (pass_all world f.scene (suc f.scene.turn) 0 ds f.arguments) bs
      (pass_asks f.scene (suc f.scene.turn) 0 ds f.arguments)
  control_asks f (Leave b ds ∷ rest) bs = kill_asks f.scene (turn_of f.scene.blocks b) 0 ds (Give (result_of world f)) bs (λ cs. tt)
  control_asks f (Unwrite d ∷ rest) bs = go_on world.rows (unwrite world.rows _) (λ u. Give Nothing) bs (unwrite_asks world.rows _ bs) (λ u cs. tt)
  control_asks f _ bs = tt

  does_asks : (f : Local) (b : Option Begun) (p : Pick) (bs : List Item) → AskedOrEnds world.rows (does world f b p) bs
  does_asks f None Control bs = inl (control_asks f (ready_work f.todo) bs)
  does_asks f None (Ev u) bs = inl tt
  does_asks f (Some e) Control bs = inl tt
  does_asks f (Some e) (Ev u) bs = event_asks f.scene e u (at_node 0 e.root u.node) bs

  abbrev items_in : List Item → Act Value → List Item
  items_in is (Ended m js t) = js
  items_in is _ = is

  pub ends_with : (f : Local) (b : Option Begun) (p : Pick) (s : Store) (n : ℕ) (is : List Item) (s1 : Store) →
      run world.rows (does world f b p) s ≡ Ended n is s1
      → is ≡ Ending ∷ []
  ends_with f b p s n is s1 h = go (does_asks f b p [])
    where
      go : AskedOrEnds world.rows (does world f b p) [] → is ≡ Ending ∷ []
      go (inl a) = absurd (never_ends world.rows (does world f b p) [] s n is s1 a h)
      go (inr (m, e)) = ap (items_in is) (sym h ∙ ap (λ z. run world.rows z s) e)
