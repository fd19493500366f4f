-- The writes of the control step that enters a block.
use Rattle.std.proofs.Common.{◌≡◌, ℕ, suc, ◌+◌, true, not, List, [], ◌∷◌, length, Option, Some, None, refl, sym, ap, ◌∙◌, subst, arith}
use Rattle.std.specs.Prelude.{◌==◌, slice_get}
use Rattle.ub_base.specs.declared.clause.Clause.TheVariants.{InvalidPointer, OutOfBounds, DeadObject, EffectiveType, OverlappingAssignment}
use Rattle.ub_base.specs.declared.names.Item.{Item}
use Rattle.ub_base.specs.declared.names.Item.TheVariants.{Write, Alive}
use Rattle.ub_base.specs.declared.names.ObjName.{ObjName}
use Rattle.addr_map.specs.declared.map.Row.{Row}
use Rattle.addr_map.specs.Rows.{row_of}
use Rattle.exposure.specs.declared.prov.Prov.TheVariants as prov
use Rattle.c_types.specs.Types.{CType, Params, int}
use Rattle.c_types.specs.Types as types
use Rattle.c_typed.specs.declared.tree.Access.{Access}
use Rattle.c_typed.specs.declared.tree.Access.TheVariants as access
use Rattle.mem_spec.specs.Store.{TaggedByte, Life, is_live}
use Rattle.mem_spec.specs.Agreement.{bytes_of_kind}
use Rattle.mem_spec.specs.Bytes.{number_bytes, pointer_bytes}
use Rattle.mem_spec.specs.Script.{Put, Ask, Bear, Script, Give, Misplace, ◌>>=◌, ◌>>◌, require, touch}
use Rattle.mem_spec.specs.Acts.{Accessed, Seen, whole, scalar, in_row, offset_in, is_aligned, declared_of, suits_store, stored_from, base_in, has_place, create}
use Rattle.mem_spec.specs.Acts.{access as access_act, check_writable, store}
use Rattle.c_model.specs.Program.{Decl}
use Rattle.c_model.specs.Values.{Value, Int, Ptr, Fun, Whole, Missing, Nothing, Pointer, integer_of, pointer_of, function_in, int_bytes}
use Rattle.c_model.specs.World.{World}
use Rattle.c_model.specs.Nodes.{put, put_whole, overlap_inexactly}
use Rattle.c_model.specs.Control.{Todo, Enter, ready_work}
use Rattle.c_model.specs.Steps.{Scene, Local, Control, control_act, bear_all, pass_all, auto_name, object_kind, object_at, does}
use Rattle.c_model.specs.Runs.{Running}
use Rattle.value_laws.specs.Sizes.{Sizes, HasBytes, HasSize, StoreFits}
use Rattle.value_laws.specs.Parameters.{AreTaken, ObjectsFit, LengthFits, WritesObject, ParametersAreStored}
use Rattle.value_laws.proofs.Stores.{Makes, Anything, Made, bind, need, when, run_made, stored_length}
use Rattle.value_laws.proofs.Arguments.{Waits, passed, waiting, idle, comes_waits}

at_base : (o : Option Row) → offset_in o (base_in o) ≡ 0
at_base None = refl
at_base (Some r) = omega arith

-- a store to the whole of an object
module _ (rows : List Row) (P : Item → Type 0) (x : ObjName) (how : Access) (alive : (y : ObjName) → P (Alive y))
    (written : (y : ObjName) (from len : ℕ) → y ≡ x → from ≡ 0 → LengthFits how len → P (Write y from len)) where
  abbrev base : ℕ
  base = base_in (row_of rows x)

  abbrev Found : Accessed → Type 0
  Found at = (at.object ≡ x) × (at.from ≡ 0)

  abbrev aligned_at : ℕ → Option Life → Script Accessed
  aligned_at align life = require (is_aligned align base) InvalidPointer >> Give (record { object = x; from = offset_in (row_of rows x) base; life = life })

  abbrev bounded_at : ℕ → ℕ → Option Life → Script Accessed
  bounded_at len align life = require (in_row (row_of rows x) base len) OutOfBounds >> aligned_at align life

  access_made : (len align : ℕ) → Makes P Found (access_act rows len align base (prov.Whole x))
  access_made len align =
      need P Found (not (base == 0)) InvalidPointer (touch (Ask x) >>= (λ life. require (is_live life) DeadObject >> bounded_at len align life))
      (λ h. (
        alive x,
        λ life. need P Found (is_live life) DeadObject (bounded_at len align life)
            (λ h. need P Found (in_row (row_of rows x) base len) OutOfBounds (aligned_at align life)
            (λ g. need P Found (is_aligned align base) InvalidPointer (Give (record { object = x; from = offset_in (row_of rows x) base; life = life }))
            (λ k. (refl, at_base (row_of rows x))))),
      ))

  store_made : (via : Seen) (align : ℕ) (bs : List TaggedByte) → LengthFits how (length bs) → Makes P Anything
      (store rows true via align base (prov.Whole x) bs)
  store_made via align bs f =
      bind P Found Anything (access_act rows (length bs) align base (prov.Whole x))
      (λ at. require (suits_store via (declared_of at.life) at.from) EffectiveType
      >> (check_writable true at.life >> touch (Put at.object at.from (stored_from (declared_of at.life) via 0 bs))))
      (access_made (length bs) align)
      (λ at g. need P Anything (suits_store via (declared_of at.life) at.from) EffectiveType _
      (λ k. (written at.object at.from _ g.0 g.1 (subst (LengthFits how) (sym (stored_length (declared_of at.life) via 0 bs)) f), λ r. tt)))

module _ (rows : List Row) (P : Item → Type 0) (x : ObjName) (alive : (y : ObjName) → P (Alive y)) where
  abbrev Written : Access → Type 0
  Written how = (y : ObjName) (from len : ℕ) → y ≡ x → from ≡ 0 → LengthFits how len → P (Write y from len)

  abbrev there : Pointer
  there = record { address = base_in (row_of rows x); prov = prov.Whole x }

  whole_made : (n align : ℕ) → Written (access.Whole n align) → (v : Value) → HasBytes n v → Makes P Anything (put_whole rows true n align there v)
  whole_made n align w (Whole bs source) h =
      bind P Anything Anything (store rows true whole align there.address there.prov bs) _ (store_made rows P x (access.Whole n align) alive w whole align bs h)
      (λ u k. need P Anything (not (overlap_inexactly n there.address source)) OverlappingAssignment (Give Nothing) (λ g. tt))
  whole_made n align w (Int z) h = tt
  whole_made n align w (Ptr b p) h = tt
  whole_made n align w (Fun b) h = tt
  whole_made n align w Missing h = tt
  whole_made n align w Nothing h = tt

  put_made : (how : Access) (ty : CType) (v : Value) (o : Option ℕ) → Written how → StoreFits how o → HasSize o v → Makes P Anything
      (put rows true how ty there v)
  put_made (access.Integer k) ty v o w f h =
      bind P Anything Anything (store rows true (scalar (int k)) (bytes_of_kind k) there.address there.prov (int_bytes k (integer_of v))) _
      (store_made rows P x (access.Integer k) alive w (scalar (int k)) (bytes_of_kind k) (int_bytes k (integer_of v)) tt) (λ u g. tt)
  put_made access.Pointer ty v o w f h =
      bind P Anything Anything (store rows true (scalar ty) 8 there.address there.prov (pointer_bytes 8 0 (pointer_of v).prov (pointer_of v).address)) _
      (store_made rows P x access.Pointer alive w (scalar ty) 8 (pointer_bytes 8 0 (pointer_of v).prov (pointer_of v).address) tt) (λ u g. tt)
  put_made access.Function ty v o w f h =
      bind P Anything Anything (store rows true (scalar ty) 8 there.address there.prov (number_bytes 8 (function_in v))) _
      (store_made rows P x access.Function alive w (scalar ty) 8 (number_bytes 8 (function_in v)) tt) (λ u g. tt)
  put_made (access.Whole n align) ty v o w f h = whole_made n align w v (subst (λ z. HasSize z v) f h)

module _ (size : Sizes) (world : World) (f : Scene) (turn : ℕ) (ds : List Decl) where
  abbrev P : Item → Type 0
  P = WritesObject world f turn ds

  passes_made : (k : ℕ) (rest : List Decl) (vs : List Value) (params : Params) →
      ((j : ℕ) (d : Decl) → slice_get rest j ≡ Some d → slice_get ds (k + j) ≡ Some d)
      → ObjectsFit size params rest → AreTaken size params vs → Makes P Anything (pass_all world f turn k rest vs)
  passes_made k [] vs params at o t = tt
  passes_made k (d ∷ rest) [] params at o t = tt
  passes_made k (d ∷ rest) (v ∷ vs) types.none at o t = absurd t
  passes_made k (d ∷ rest) (v ∷ vs) (types.more constant ty params) at o t =
      bind P Anything Anything (put world.rows true d.access d.ty (object_at world f turn k) v) (λ u. pass_all world f turn (suc k) rest vs)
      (put_made world.rows P (auto_name world f turn k) (λ y. tt) d.access d.ty v (size ty) (λ y from len e z l. (k, d, here, e, z, l)) o.0 t.0)
      (λ u h. passes_made (suc k) rest vs params (λ j g q.
      (let e : k + suc j ≡ suc k + j = omega arith in subst (λ z. slice_get ds z ≡ Some g) e (at (suc j) g q))) o.1 t.1)
    where
      here : slice_get ds k ≡ Some d
      here = (let e : k + 0 ≡ k = omega arith in subst (λ z. slice_get ds z ≡ Some d) e (at 0 d refl))

  bears_made : (k : ℕ) (rest : List Decl) (after : Script Value) → Makes P Anything after → Makes P Anything (bear_all world f turn k rest after)
  bears_made k [] after h = h
  bears_made k (d ∷ rest) after h =
      bind P Anything Anything (create world.rows (auto_name world f turn k) d.size d.align (object_kind d.constant) d.form)
      (λ u. bear_all world f turn (suc k) rest after)
      (when P Anything (has_place (row_of world.rows (auto_name world f turn k)) d.size d.align)
      (touch (Bear (auto_name world f turn k) d.size (object_kind d.constant) d.form) >> Give
      (base_in (row_of world.rows (auto_name world f turn k)))) Misplace (tt, λ r. tt) tt)
      (λ u g. bears_made (suc k) rest after h)

  none_fit : (rest : List Decl) → ObjectsFit size types.none rest
  none_fit [] = tt
  none_fit (d ∷ rest) = tt

  entry_made : (params : Params) (vs : List Value) → ObjectsFit size params ds → AreTaken size params vs
      → Makes P Anything (bear_all world f turn 0 ds (pass_all world f turn 0 ds vs))
  entry_made params vs o t = bears_made 0 ds _ (passes_made 0 ds vs params
      (λ j d q. (let e : 0 + j ≡ j = omega arith in subst (λ z. slice_get ds z ≡ Some d) (sym e) q)) o t)

module _ (size : Sizes) (world : World) (f : Local) (number : ℕ) (ds : List Decl) (rest : Todo) (e : ready_work f.todo ≡ Enter number ds ∷ rest) where
  block_is : (n2 : ℕ) (ds2 : List Decl) (rest2 : Todo) → Enter n2 ds2 ∷ rest2 ≡ Enter number ds ∷ rest → ds2 ≡ ds
  block_is n2 ds2 rest2 h = cc

  waits_made : Waits size world f
      → Makes (WritesObject world f.scene (suc f.scene.turn) ds) Anything
      (bear_all world f.scene (suc f.scene.turn) 0 ds (pass_all world f.scene (suc f.scene.turn) 0 ds f.arguments))
  waits_made (passed h) =
      entry_made size world f.scene (suc f.scene.turn) ds types.none f.arguments (none_fit size world f.scene (suc f.scene.turn) ds ds)
      (subst (AreTaken size types.none) (sym h) tt)
  waits_made (waiting params n2 ds2 ss t n a o) =
      let same = block_is n2 ds2 _ (sym (ap ready_work t) ∙ e) in
      entry_made size world f.scene (suc f.scene.turn) ds params f.arguments (subst (ObjectsFit size params) same o) a
  waits_made (idle t n) = absurd (let h = sym (ap ready_work t) ∙ e in cc)

  control_made : Waits size world f → Makes (WritesObject world f.scene (suc f.scene.turn) ds) Anything (does world f None Control)
  control_made w = subst (λ z. Makes (WritesObject world f.scene (suc f.scene.turn) ds) Anything (control_act world f z)) (sym e) (waits_made w)

pub parameters_are_stored : ParametersAreStored
parameters_are_stored size world input vs ok takes ps st comes none number ds rest e v is s done =
    let w = comes_waits size world ok vs takes input ps (Running st) comes in
    let P = WritesObject world st.top.scene (suc st.top.scene.turn) ds in
    subst (λ a. Made P a) done (run_made world.rows P Anything (does world st.top None Control) st.store
    (control_made size world st.top number ds rest e w.top))
