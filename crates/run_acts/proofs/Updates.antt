-- The value of an update: the object's, and what is worked out from it.
use Rattle.std.proofs.Common.{◌≡◌, ℕ, Bool, sym, ap, ◌∙◌, ℤ, pos, ◌+ℤ◌, List, [], ◌++◌}
use Rattle.std.specs.Prelude.{Result, Ok, Err, unsigned_abs}
use Rattle.std.proofs.lemmas.List.{append-nil}
use Rattle.ub_base.specs.declared.clause.Clause.{Clause}
use Rattle.ub_base.specs.declared.names.Event.{Event}
use Rattle.ub_base.specs.declared.names.Item.{Item}
use Rattle.addr_map.specs.declared.map.Row.{Row}
use Rattle.exposure.specs.declared.prov.Prov.{Prov}
use Rattle.c_arith.specs.Operators.{conv}
use Rattle.c_types.specs.declared.kind.BinOp.{BinOp}
use Rattle.c_types.specs.declared.kind.IntKind.{IntKind}
use Rattle.c_types.specs.Types.{CType}
use Rattle.c_typed.specs.declared.tree.Access.TheVariants as access
use Rattle.c_typed.specs.declared.tree.Change.TheVariants as change
use Rattle.mem_spec.specs.Store.{Store}
use Rattle.mem_spec.specs.Script.{Script, Give, Done, Raised, run, ◌>>=◌, ◌>>◌}
use Rattle.mem_spec.specs.Acts.{load_int, shift}
use Rattle.mem_spec.specs.Streams.{Io}
use Rattle.mem_objects.specs.declared.value.Value.{Value as Held}
use Rattle.mem_objects.specs.declared.value.Value.TheVariants as values
use Rattle.mem_objects.specs.Loads.{IfPointer}
use Rattle.mem_objects.specs.Memory.{Kept}
use Rattle.mem_objects.specs.Made.{IsMade}
use Rattle.mem_objects.proofs.AccessLemmas.{done_then, raised_then, raised_first}
use Rattle.c_model.specs.Nodes.{load, operated, outcome, or_zero, changed, check_change, distance, given_back, update_value}
use Rattle.c_model.specs.Values.{Value, Int, Ptr, Pointer, pointer_of, pointer_value}
use Rattle.run_values.specs.Views.{value_in}
use Rattle.run_acts.proofs.Acts.{done_give, raised_give, as_pointer}

-- ---- of an integer
module _ (rows : List Row) (who : Event) (ty : CType) (p : Pointer) (op : BinOp) (kind work : IntKind) (old : Bool) (n : ℤ) (s t : Store) where
  pub integer_given : (z w : ℤ) (items : List Item) → run rows (load_int rows kind p.address p.prov) s ≡ Done z items t
      → Ok w ≡ operated op work (conv work z) n →
      run rows (update_value rows who (change.Integer op kind work) old ty p n) s ≡ Done (given_back old (Int z) (Int (conv kind w))) items t
  integer_given z w items e is =
      let end : run rows (check_change rows (change.Integer op kind work) (Int z) n
      >> Give (given_back old (Int z) (changed (change.Integer op kind work) (Int z) n))) t
      ≡ Done (given_back old (Int z) (Int (conv kind w))) [] t =
      ap (λ (r : Result ℤ Clause). run rows (outcome r >> Give (given_back old (Int z) (Int (conv kind (or_zero r))))) t) (sym is) in
      done_then rows (load rows who (access.Integer kind) ty p)
      (λ (v : Value). check_change rows (change.Integer op kind work) v n >> Give (given_back old v (changed (change.Integer op kind work) v n)))
      s t t (Int z) (given_back old (Int z) (Int (conv kind w))) items []
      (done_give rows (load_int rows kind p.address p.prov) Int s t z items e) end
      ∙ ap (λ (js : List Item). Done (given_back old (Int z) (Int (conv kind w))) js t) (append-nil items)

  pub integer_raised : (z : ℤ) (items : List Item) (c : Clause) → run rows (load_int rows kind p.address p.prov) s ≡ Done z items t →
      Err c ≡ operated op work (conv work z) n →
      run rows (update_value rows who (change.Integer op kind work) old ty p n) s ≡ Raised c
  integer_raised z items c e is =
      let end : run rows (check_change rows (change.Integer op kind work) (Int z) n
      >> Give (given_back old (Int z) (changed (change.Integer op kind work) (Int z) n))) t ≡ Raised c =
      ap (λ (r : Result ℤ Clause). run rows (outcome r >> Give (given_back old (Int z) (Int (conv kind (or_zero r))))) t) (sym is) in
      raised_then rows (load rows who (access.Integer kind) ty p)
      (λ (v : Value). check_change rows (change.Integer op kind work) v n >> Give (given_back old v (changed (change.Integer op kind work) v n)))
      s t (Int z) items c (done_give rows (load_int rows kind p.address p.prov) Int s t z items e) end

  pub integer_unread : (c : Clause) → run rows (load_int rows kind p.address p.prov) s ≡ Raised c →
      run rows (update_value rows who (change.Integer op kind work) old ty p n) s ≡ Raised c
  integer_unread c e =
      raised_first rows (load rows who (access.Integer kind) ty p)
      (λ (v : Value). check_change rows (change.Integer op kind work) v n >> Give (given_back old v (changed (change.Integer op kind work) v n)))
      s c (raised_give rows (load_int rows kind p.address p.prov) Int s c e)

-- ---- of a pointer
module _ (rows : List Row) (who : Event) (ty : CType) (p : Pointer) (size : ℕ) (subtract old : Bool) (n : ℤ) (s t : Store) where
  pub pointer_changed : (q : Pointer) (z : ℤ) (is js : List Item) (u : Store) → run rows (load rows who access.Pointer ty p) s ≡ Done (pointer_value q) is t →
      z ≡ pos q.address +ℤ distance size subtract n →
      run rows (shift rows q.address q.prov (distance size subtract n)) t ≡ Done z js u →
      run rows (update_value rows who (change.Pointer size subtract) old ty p n) s
      ≡ Done (given_back old (pointer_value q) (Ptr (unsigned_abs z) q.prov)) (is ++ js) u
  pointer_changed q z is js u e at f =
      done_then rows (load rows who access.Pointer ty p)
      (λ (v : Value). check_change rows (change.Pointer size subtract) v n >> Give (given_back old v (changed (change.Pointer size subtract) v n)))
      s t u (pointer_value q) (given_back old (pointer_value q) (Ptr (unsigned_abs z) q.prov)) is js e
      (done_give rows (shift rows q.address q.prov (distance size subtract n))
      (λ (w : ℤ). given_back old (pointer_value q) (changed (change.Pointer size subtract) (pointer_value q) n)) t u z js f
      ∙ ap (λ (w : ℤ). Done (given_back old (pointer_value q) (Ptr (unsigned_abs w) q.prov)) js u) (sym at))

  pub pointer_out : (q : Pointer) (is : List Item) (c : Clause) → run rows (load rows who access.Pointer ty p) s ≡ Done (pointer_value q) is t →
      run rows (shift rows q.address q.prov (distance size subtract n)) t ≡ Raised c →
      run rows (update_value rows who (change.Pointer size subtract) old ty p n) s ≡ Raised c
  pointer_out q is c e f =
      raised_then rows (load rows who access.Pointer ty p)
      (λ (v : Value). check_change rows (change.Pointer size subtract) v n >> Give (given_back old v (changed (change.Pointer size subtract) v n)))
      s t (pointer_value q) is c e
      (raised_give rows (shift rows q.address q.prov (distance size subtract n))
      (λ (w : ℤ). given_back old (pointer_value q) (changed (change.Pointer size subtract) (pointer_value q) n)) t c f)

  pub pointer_unread : (c : Clause) → run rows (load rows who access.Pointer ty p) s ≡ Raised c →
      run rows (update_value rows who (change.Pointer size subtract) old ty p n) s ≡ Raised c
  pointer_unread c e =
      raised_first rows (load rows who access.Pointer ty p)
      (λ (v : Value). check_change rows (change.Pointer size subtract) v n >> Give (given_back old v (changed (change.Pointer size subtract) v n)))
      s c e

-- ---- the pointer that a load gives
pub there : (v : Held) (H K : Type 0) (rows : List Row) (f : Script (ℕ × Prov)) (s : Io → Store) (new : Kept) (q : Pointer) (items : List Item) (t : Io → Store)
    → q ≡ pointer_of (value_in new v)
    → IfPointer v (λ a x. H → K → (io : Io) → run rows f (s io) ≡ Done (a, x) items (t io))
    → H → K → (io : Io) → run rows (f >>= (λ x. Give (Ptr x.0 x.1))) (s io) ≡ Done (pointer_value q) items (t io)
there (values.Ptr a x) H K rows f s new q items t is gives h k io =
    done_give rows f as_pointer (s io) (t io) (a, x) items (gives h k io) ∙ ap (λ (r : Pointer). Done (pointer_value r) items (t io)) (sym is)
there (values.Int z) H K rows f s new q items t is gives h k io = absurd gives
there (values.Func a) H K rows f s new q items t is gives h k io = absurd gives
there (values.Block b) H K rows f s new q items t is gives h k io = absurd gives
there values.Missing H K rows f s new q items t is gives h k io = absurd gives
there values.Nothing H K rows f s new q items t is gives h k io = absurd gives

pub made_there : (v : Held) (old new : Kept) (S : Type 0) (q : Pointer) → q ≡ pointer_of (value_in new v) → IfPointer v (λ a x. S → IsMade new x) → S
    → IsMade new q.prov
made_there (values.Ptr a x) old new S q is made s = rw is (made s)
made_there (values.Int z) old new S q is made s = absurd made
made_there (values.Func a) old new S q is made s = absurd made
made_there (values.Block b) old new S q is made s = absurd made
made_there values.Missing old new S q is made s = absurd made
made_there values.Nothing old new S q is made s = absurd made
