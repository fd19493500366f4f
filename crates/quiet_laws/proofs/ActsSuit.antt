-- The items of each act are those of its kind.
use Rattle.std.proofs.Common.{◌≡◌, ℕ, ◌/◌, Bool, true, false, not, ◌||◌, if◌then◌else◌, List, [], ◌∷◌, length, Option, Some, None, refl}
use Rattle.std.specs.Prelude.{◌==◌, ℤ, pos, ◌+ℤ◌, ◌-ℤ◌, unsigned_abs, Result, Ok, Err}
use Rattle.ub_base.specs.declared.clause.Kind.TheVariants.{Val, Eff}
use Rattle.ub_base.specs.declared.clause.Clause.{Clause}
use Rattle.ub_base.specs.declared.clause.Clause.TheVariants.{InvalidPointer, OutOfBounds, DeadObject, StoreToLiteral, StoreToConst, EffectiveType}
use Rattle.ub_base.specs.declared.clause.Clause.TheVariants.{OverlappingAssignment, Indeterminate, TrapRepresentation, PointerAlignment}
use Rattle.ub_base.specs.declared.clause.Clause.TheVariants.{PointerDifference, PointerComparison}
use Rattle.ub_base.specs.declared.names.Event.{Event}
use Rattle.ub_base.specs.declared.names.ObjName.{ObjName}
use Rattle.ub_base.specs.declared.names.Item.{Item}
use Rattle.ub_base.specs.declared.names.Item.TheVariants.{Read, Write, Alive, Expose, Lookup, Narrow}
use Rattle.addr_map.specs.declared.map.Row.{Row}
use Rattle.addr_map.specs.Rows.{row_of}
use Rattle.exposure.specs.declared.prov.Prov.{Prov}
use Rattle.exposure.specs.declared.prov.Prov.TheVariants as prov
use Rattle.exposure.specs.Choice.{chosen}
use Rattle.c_types.specs.declared.kind.IntKind.{IntKind}
use Rattle.c_types.specs.declared.kind.IntKind.TheVariants.{ULong}
use Rattle.c_types.specs.Types.{CType, int}
use Rattle.c_arith.specs.Operators.{negated, conv, bits}
use Rattle.c_typed.specs.declared.class.Class.{Class}
use Rattle.c_typed.specs.declared.class.Class.TheVariants.{Object}
use Rattle.c_typed.specs.Tree.{Trees, first_class, conversion_class, member_class, kinds_of}
use Rattle.c_typed.specs.Decide.{has_kind}
use Rattle.c_typed.specs.declared.tree.Access.{Access}
use Rattle.c_typed.specs.declared.tree.Access.TheVariants as access
use Rattle.c_typed.specs.declared.tree.Change.{Change}
use Rattle.c_typed.specs.declared.tree.Change.TheVariants as change
use Rattle.c_typed.specs.declared.tree.Conversion.{Conversion}
use Rattle.c_typed.specs.declared.tree.Conversion.TheVariants as conversion
use Rattle.c_typed.specs.declared.tree.UnOp.{UnOp}
use Rattle.c_typed.specs.declared.tree.UnOp.TheVariants as unary
use Rattle.c_typed.specs.declared.tree.RelOp.{RelOp}
use Rattle.mem_spec.specs.Store.{TaggedByte, Life, is_live}
use Rattle.mem_spec.specs.Agreement.{bytes_of_kind}
use Rattle.mem_spec.specs.Script.{Ask, Get, Put, Find, Settle, Script, Give, Raise, ◌>>=◌, ◌>>◌, require, touch}
use Rattle.mem_spec.specs.Acts.{Accessed, Seen, scalar, whole, bytes, in_row, offset_in, is_aligned, declared_of, is_literal, is_constant, suits_store}
use Rattle.mem_spec.specs.Acts.{stored_from, object_of, access as access_act, check_writable, store, suits_load, in_bounds, shift}
use Rattle.mem_spec.specs.Acts.{settle_by, all_written, show_each, show_pieces, origins_in, value_of, is_trap, number_of, load_int, load_func, load_ptr}
use Rattle.mem_spec.specs.Acts.{load_block, from_int, some_live, target_lives, candidates, pointer_or_number, pointer_in, retagged, settle_to}
use Rattle.mem_spec.specs.Acts.{settle_common, in_common, less, diff, is_multiple, expose}
use Rattle.mem_spec.specs.Bytes.{number_bytes, pointer_bytes}
use Rattle.c_model.specs.Values.{Value, Int, Ptr, Fun, Missing, Nothing, Pointer, pointer_value, integer_of, pointer_of, function_in, value_at}
use Rattle.c_model.specs.Values.{address_after, truth, int_bytes, part_bytes, moved_source}
use Rattle.c_model.specs.Values as values
use Rattle.c_model.specs.Program.{Filling, Head, head_class}
use Rattle.c_model.specs.Program as head
use Rattle.c_model.specs.Nodes.{bool_value, outcome, int_outcome, load, put_whole, put, overlap_inexactly, convert, unary_value, operated, in_order}
use Rattle.c_model.specs.Nodes.{relational, distance, shifted, difference, is_empty, member, part_pointer, read_part, width_of, part_of, amount, worked}
use Rattle.c_model.specs.Nodes.{changed, check_change, change_access, given_back, update_value, new_value, call_value, content_bytes, fill, act_of}
use Rattle.quiet_trees.specs.Acts.{act_by}
use Rattle.quiet_trees.specs.Acts as act
use Rattle.quiet_trees.specs.Items.{suits}
use Rattle.quiet_laws.specs.QuietEvents.{Suits, head_loads}
use Rattle.quiet_laws.proofs.Suiting.{bind, when, need, needs}

-- the items that are noted
record Noted (p : Item → Bool) : Type 0 where
  shown : (x : ObjName) → p (Expose x) ≡ true
  sought : (a : ℕ) → p (Lookup a) ≡ true
  settled : (d : Event) (x : ObjName) → p (Narrow d x) ≡ true

-- the checks behind the object's life
abbrev aligned_at : List Row → ℕ → ℕ → ObjName → Option Life → Script Accessed
aligned_at rows align a x life = require (is_aligned align a) InvalidPointer >> Give (record { object = x; from = offset_in (row_of rows x) a; life = life })

abbrev bounded_at : List Row → ℕ → ℕ → ℕ → ObjName → Option Life → Script Accessed
bounded_at rows len align a x life = require (in_row (row_of rows x) a len) OutOfBounds >> aligned_at rows align a x life

abbrev asked_at : List Row → ℕ → ℕ → ℕ → ObjName → Script Accessed
asked_at rows len align a x = touch (Ask x) >>= (λ life. require (is_live life) DeadObject >> bounded_at rows len align a x life)

abbrev put_at : Bool → Seen → List TaggedByte → Accessed → Script (Unit {0})
put_at first via bs at = check_writable first at.life >> touch (Put at.object at.from (stored_from (declared_of at.life) via 0 bs))

abbrev int_tail4 : IntKind → List TaggedByte → Script ℤ
int_tail4 kind ds = show_pieces ds >> Give (value_of kind (number_of ds))

abbrev int_tail3 : IntKind → List TaggedByte → Script ℤ
int_tail3 kind ds = require (not (is_trap kind (number_of ds))) TrapRepresentation >> int_tail4 kind ds

abbrev int_tail2 : IntKind → List TaggedByte → Script ℤ
int_tail2 kind ds = require (all_written ds) Indeterminate >> int_tail3 kind ds

abbrev int_tail1 : IntKind → Accessed → List TaggedByte → Script ℤ
int_tail1 kind at ds = require (suits_load (int kind) (declared_of at.life) at.from ds) EffectiveType >> int_tail2 kind ds

abbrev func_tail3 : CType → List TaggedByte → Script ℕ
func_tail3 ty ds = show_pieces ds >> Give (number_of ds)

abbrev func_tail2 : CType → List TaggedByte → Script ℕ
func_tail2 ty ds = require (all_written ds) Indeterminate >> func_tail3 ty ds

abbrev func_tail1 : CType → Accessed → List TaggedByte → Script ℕ
func_tail1 ty at ds = require (suits_load ty (declared_of at.life) at.from ds) EffectiveType >> func_tail2 ty ds

abbrev ptr_tail2 : CType → Event → List TaggedByte → Script (ℕ × Prov)
ptr_tail2 ty who ds = require (all_written ds) Indeterminate >> pointer_or_number who (pointer_in ds) (number_of ds)

abbrev ptr_tail1 : CType → Event → Accessed → List TaggedByte → Script (ℕ × Prov)
ptr_tail1 ty who at ds = require (suits_load ty (declared_of at.life) at.from ds) EffectiveType >> ptr_tail2 ty who ds

abbrev part_shown : IntKind → List TaggedByte → Script Value
part_shown k ds = show_pieces ds >> Give (Int (value_of k (number_of ds)))

module _ (p : Item → Bool) (n : Noted p) (rows : List Row) where
  object_suits : (len a : ℕ) (q : Prov) → Suits p (object_of rows len a q)
  object_suits len a prov.Empty = tt
  object_suits len a (prov.Whole x) = tt
  object_suits len a (prov.Either id past start) =
      when p (in_row (row_of rows past) a len) (touch (Settle id past OutOfBounds) >> Give past)
      (if in_row (row_of rows start) a len then touch (Settle id start OutOfBounds) >> Give start else Raise OutOfBounds) (n.settled id past, (λ r. tt))
      (when p (in_row (row_of rows start) a len) (touch (Settle id start OutOfBounds) >> Give start) (Raise OutOfBounds) (n.settled id start, (λ r. tt)) tt)

  shows_suit : (xs : List ObjName) → Suits p (show_each xs)
  shows_suit [] = tt
  shows_suit (x ∷ xs) = (n.shown x, (λ r. shows_suit xs))

  pieces_suit : (ds : List TaggedByte) → Suits p (show_pieces ds)
  pieces_suit [] = tt
  pieces_suit (d ∷ ds) = bind p (show_each (origins_in d.byte)) (λ u. show_pieces ds) (shows_suit (origins_in d.byte)) (λ u. pieces_suit ds)

  find_suits : (who : Event) (a : ℕ) → Suits p (from_int who a)
  find_suits who a = when p (a == 0) (Give prov.Empty) (touch (Find a) >>= (λ at. Give (chosen at.0 at.1 who))) tt (n.sought a, (λ r. tt))

  settle_suits : (a b : Bool) (id : Event) (past start : ObjName) (c : Clause) → Suits p (settle_by a b id past start c)
  settle_suits true true id past start c = tt
  settle_suits true false id past start c = (n.settled id past, (λ u. tt))
  settle_suits false true id past start c = (n.settled id start, (λ u. tt))
  settle_suits false false id past start c = tt

  settle_to_suits : (q : Prov) (x : ObjName) (c : Clause) → Suits p (settle_to q x c)
  settle_to_suits (prov.Either id past start) x c = (n.settled id x, (λ u. tt))
  settle_to_suits prov.Empty x c = tt
  settle_to_suits (prov.Whole y) x c = tt

  common_suits : (xs : List ObjName) (q r : Prov) (c : Clause) → Suits p (settle_common xs q r c)
  common_suits [] q r c = tt
  common_suits (x ∷ []) q r c = bind p (settle_to q x c) (λ u. settle_to r x c) (settle_to_suits q x c) (λ u. settle_to_suits r x c)
  common_suits (x ∷ y ∷ ys) q r c = tt

  shift_suits : (a : ℕ) (q : Prov) (by : ℤ) → Suits p (shift rows a q by)
  shift_suits a prov.Empty by = tt
  shift_suits a (prov.Whole x) by = need p (in_bounds (row_of rows x) (pos a +ℤ by)) OutOfBounds (Give (pos a +ℤ by)) tt
  shift_suits a (prov.Either id past start) by =
      bind p (settle_by (in_bounds (row_of rows past) (pos a +ℤ by)) (in_bounds (row_of rows start) (pos a +ℤ by)) id past start OutOfBounds)
      (λ u. Give (pos a +ℤ by))
      (settle_suits (in_bounds (row_of rows past) (pos a +ℤ by)) (in_bounds (row_of rows start) (pos a +ℤ by)) id past start OutOfBounds) (λ u. tt)

  convert_suits : (who : Event) (c : Conversion) (v : Value) → Suits p (convert who c v)
  convert_suits who (conversion.Integer k) v = tt
  convert_suits who (conversion.Address k) v =
      bind p (expose (pointer_of v).prov) (λ u. Give (Int (conv k (pos (pointer_of v).address)))) (shows_suit (candidates (pointer_of v).prov)) (λ u. tt)
  convert_suits who conversion.NotNull v = tt
  convert_suits who conversion.Lookup v =
      bind p (from_int who (bits ULong (integer_of v))) (λ q. Give (Ptr (bits ULong (integer_of v)) q)) (find_suits who (bits ULong (integer_of v))) (λ u. tt)
  convert_suits who (conversion.Pointer align) v =
      need p (is_aligned align (pointer_of v).address) PointerAlignment (Give (pointer_value (pointer_of v))) tt
  convert_suits who conversion.Function v = tt

  outcome_suits : (z : Result ℤ Clause) → Suits p (outcome z)
  outcome_suits (Ok z) = tt
  outcome_suits (Err c) = tt

  int_outcome_suits : (z : Result ℤ Clause) → Suits p (int_outcome z)
  int_outcome_suits (Ok z) = tt
  int_outcome_suits (Err c) = tt

  unary_suits : (op : UnOp) (v : Value) → Suits p (unary_value op v)
  unary_suits (unary.Minus k) v = int_outcome_suits (negated k (conv k (integer_of v)))
  unary_suits (unary.Complement k) v = tt
  unary_suits unary.Not v = tt

  less_suits : (q s : Prov) → Suits p (less q s)
  less_suits q s = common_suits (in_common (candidates q) (candidates s)) q s PointerComparison

  diff_suits : (a : ℕ) (q : Prov) (b : ℕ) (s : Prov) (size : ℕ) → Suits p (diff a q b s size)
  diff_suits a q b s size =
      need p (is_multiple size a b) PointerDifference (settle_common (in_common (candidates q) (candidates s)) q s PointerDifference)
      (common_suits (in_common (candidates q) (candidates s)) q s PointerDifference)

  relational_suits : (op : RelOp) (pointers : Bool) (v w : Value) → Suits p (relational op pointers v w)
  relational_suits op true v w =
      bind p (less (pointer_of v).prov (pointer_of w).prov)
      (λ u. Give (bool_value (in_order op (pos (pointer_of v).address) (pos (pointer_of w).address))))
      (less_suits (pointer_of v).prov (pointer_of w).prov) (λ u. tt)
  relational_suits op false v w = tt

  shifted_suits : (q : Pointer) (by : ℤ) → Suits p (shifted rows q by)
  shifted_suits q by = bind p (shift rows q.address q.prov by) (λ z. Give (Ptr (unsigned_abs z) q.prov)) (shift_suits q.address q.prov by) (λ u. tt)

  difference_suits : (size : ℕ) (q s : Pointer) → Suits p (difference size q s)
  difference_suits size q s =
      bind p (diff q.address q.prov s.address s.prov size) (λ u. Give (Int (pos (q.address / size) -ℤ pos (s.address / size))))
      (diff_suits q.address q.prov s.address s.prov size) (λ u. tt)

  member_suits : (offset : ℕ) (q : Pointer) → Suits p (member rows offset q)
  member_suits offset q =
      need p (not ((q.address == 0) || is_empty q.prov)) InvalidPointer (shifted rows q (pos offset)) (shifted_suits q (pos offset))

  part_pointer_suits : (who : Event) (o : Option Prov) (a : ℕ) → Suits p (part_pointer who o a)
  part_pointer_suits who (Some q) a = tt
  part_pointer_suits who None a = bind p (from_int who a) (λ q. Give (Ptr a q)) (find_suits who a) (λ u. tt)

  read_suits : (who : Event) (how : Access) (ds : List TaggedByte) (source : Option ℕ) → Suits p (read_part who how ds source)
  read_suits who (access.Integer k) ds source =
      need p (all_written ds) Indeterminate (require (not (is_trap k (number_of ds))) TrapRepresentation >> part_shown k ds)
      (need p (not (is_trap k (number_of ds))) TrapRepresentation (part_shown k ds)
      (bind p (show_pieces ds) (λ u. Give (Int (value_of k (number_of ds)))) (pieces_suit ds) (λ u. tt)))
  read_suits who access.Pointer ds source =
      need p (all_written ds) Indeterminate (part_pointer who (pointer_in ds) (number_of ds)) (part_pointer_suits who (pointer_in ds) (number_of ds))
  read_suits who access.Function ds source =
      need p (all_written ds) Indeterminate (show_pieces ds >> Give (Fun (number_of ds)))
      (bind p (show_pieces ds) (λ u. Give (Fun (number_of ds))) (pieces_suit ds) (λ u. tt))
  read_suits who (access.Whole size align) ds source = tt

  part_suits : (who : Event) (offset : ℕ) (how : Access) (v : Value) → Suits p (part_of who offset how v)
  part_suits who offset how (values.Whole ds source) = read_suits who how (part_bytes offset (width_of how) ds) (moved_source offset source)
  part_suits who offset how _ = tt

  check_suits : (c : Change) (v : Value) (z : ℤ) → Suits p (check_change rows c v z)
  check_suits (change.Integer op kind work) v z = outcome_suits (worked (change.Integer op kind work) v z)
  check_suits (change.Pointer size subtract) v z = shift_suits (pointer_of v).address (pointer_of v).prov (distance size subtract z)

  module _ (alive : (x : ObjName) → p (Alive x) ≡ true) where
    access_suits : (len align a : ℕ) (q : Prov) → Suits p (access_act rows len align a q)
    access_suits len align a q =
        need p (not (a == 0)) InvalidPointer (object_of rows len a q >>= asked_at rows len align a)
        (bind p (object_of rows len a q) (asked_at rows len align a) (object_suits len a q)
        (λ x. (
          alive x,
          (λ life. need p (is_live life) DeadObject (bounded_at rows len align a x life)
              (need p (in_row (row_of rows x) a len) OutOfBounds (aligned_at rows align a x life)
              (need p (is_aligned align a) InvalidPointer (Give (record { object = x; from = offset_in (row_of rows x) a; life = life })) tt))),
        )))

    writable_suits : (b : Bool) (life : Option Life) → Suits p (check_writable b life)
    writable_suits true life = tt
    writable_suits false life =
        need p (not (is_literal life)) StoreToLiteral (require (not (is_constant life)) StoreToConst) (needs p (not (is_constant life)) StoreToConst)

    live_suits : (xs : List ObjName) → Suits p (some_live xs)
    live_suits [] = tt
    live_suits (x ∷ xs) = (alive x, (λ life. bind p (some_live xs) (λ rest. Give (is_live life || rest)) (live_suits xs) (λ v. tt)))

    target_suits : (q : Prov) → Suits p (target_lives q)
    target_suits prov.Empty = tt
    target_suits (prov.Whole x) = bind p (some_live (candidates (prov.Whole x))) (λ ok. require ok DeadObject) (live_suits (candidates (prov.Whole x)))
        (λ ok. needs p ok DeadObject)
    target_suits (prov.Either d x y) = bind p (some_live (candidates (prov.Either d x y))) (λ ok. require ok DeadObject)
        (live_suits (candidates (prov.Either d x y))) (λ ok. needs p ok DeadObject)

    pointer_suits : (who : Event) (o : Option Prov) (a : ℕ) → Suits p (pointer_or_number who o a)
    pointer_suits who (Some q) a = bind p (target_lives q) (λ u. Give (a, q)) (target_suits q) (λ u. tt)
    pointer_suits who None a = bind p (from_int who a) (λ q. Give (a, q)) (find_suits who a) (λ u. tt)

    -- stores
    module _ (w : (x : ObjName) (a len : ℕ) → p (Write x a len) ≡ true) where
      store_suits : (first : Bool) (via : Seen) (align a : ℕ) (q : Prov) (bs : List TaggedByte) → Suits p (store rows first via align a q bs)
      store_suits first via align a q bs =
          bind p (access_act rows (length bs) align a q)
          (λ at. require (suits_store via (declared_of at.life) at.from) EffectiveType >> put_at first via bs at)
          (access_suits (length bs) align a q)
          (λ at. need p (suits_store via (declared_of at.life) at.from) EffectiveType (put_at first via bs at)
          (bind p (check_writable first at.life) (λ u. touch (Put at.object at.from (stored_from (declared_of at.life) via 0 bs)))
          (writable_suits first at.life)
          (λ u. (w at.object at.from (length (stored_from (declared_of at.life) via 0 bs)), (λ r. tt)))))

      whole_suits : (first : Bool) (size align : ℕ) (q : Pointer) (v : Value) → Suits p (put_whole rows first size align q v)
      whole_suits first size align q (values.Whole bs source) =
          bind p (store rows first whole align q.address q.prov bs)
          (λ u. require (not (overlap_inexactly size q.address source)) OverlappingAssignment >> Give Nothing)
          (store_suits first whole align q.address q.prov bs)
          (λ u. need p (not (overlap_inexactly size q.address source)) OverlappingAssignment (Give Nothing) tt)
      whole_suits first size align q _ = tt

      put_suits : (first : Bool) (how : Access) (ty : CType) (q : Pointer) (v : Value) → Suits p (put rows first how ty q v)
      put_suits first (access.Integer k) ty q v =
          bind p (store rows first (scalar (int k)) (bytes_of_kind k) q.address q.prov (int_bytes k (integer_of v))) (λ u. Give Nothing)
          (store_suits first (scalar (int k)) (bytes_of_kind k) q.address q.prov (int_bytes k (integer_of v))) (λ u. tt)
      put_suits first access.Pointer ty q v =
          bind p (store rows first (scalar ty) 8 q.address q.prov (pointer_bytes 8 0 (pointer_of v).prov (pointer_of v).address)) (λ u. Give Nothing)
          (store_suits first (scalar ty) 8 q.address q.prov (pointer_bytes 8 0 (pointer_of v).prov (pointer_of v).address)) (λ u. tt)
      put_suits first access.Function ty q v =
          bind p (store rows first (scalar ty) 8 q.address q.prov (number_bytes 8 (function_in v))) (λ u. Give Nothing)
          (store_suits first (scalar ty) 8 q.address q.prov (number_bytes 8 (function_in v))) (λ u. tt)
      put_suits first (access.Whole size align) ty q v = whole_suits first size align q v

      fill_suits : (q : Pointer) (cs : List Filling) → Suits p (fill rows q cs)
      fill_suits q [] = tt
      fill_suits q (c ∷ cs) =
          bind p (store rows true bytes 1 (address_after q.address c.offset) q.prov (content_bytes rows c.content)) (λ u. fill rows q cs)
          (store_suits true bytes 1 (address_after q.address c.offset) q.prov (content_bytes rows c.content)) (λ u. fill_suits q cs)

    -- loads
    module _ (r : (x : ObjName) (a len : ℕ) → p (Read x a len) ≡ true) where
      int_suits : (kind : IntKind) (a : ℕ) (q : Prov) → Suits p (load_int rows kind a q)
      int_suits kind a q =
          bind p (access_act rows (bytes_of_kind kind) (bytes_of_kind kind) a q)
          (λ at. touch (Get at.object at.from (bytes_of_kind kind)) >>= int_tail1 kind at) (access_suits (bytes_of_kind kind) (bytes_of_kind kind) a q)
          (λ at. (
            r at.object at.from (bytes_of_kind kind),
            (λ ds. need p (suits_load (int kind) (declared_of at.life) at.from ds) EffectiveType (int_tail2 kind ds)
                (need p (all_written ds) Indeterminate (int_tail3 kind ds)
                (need p (not (is_trap kind (number_of ds))) TrapRepresentation (int_tail4 kind ds)
                (bind p (show_pieces ds) (λ u. Give (value_of kind (number_of ds))) (pieces_suit ds) (λ u. tt))))),
          ))

      func_suits : (ty : CType) (a : ℕ) (q : Prov) → Suits p (load_func rows ty a q)
      func_suits ty a q =
          bind p (access_act rows 8 8 a q) (λ at. touch (Get at.object at.from 8) >>= func_tail1 ty at) (access_suits 8 8 a q)
          (λ at. (
            r at.object at.from 8,
            (λ ds. need p (suits_load ty (declared_of at.life) at.from ds) EffectiveType (func_tail2 ty ds)
                (need p (all_written ds) Indeterminate (func_tail3 ty ds)
                (bind p (show_pieces ds) (λ u. Give (number_of ds)) (pieces_suit ds) (λ u. tt)))),
          ))

      ptr_suits : (ty : CType) (who : Event) (align a : ℕ) (q : Prov) → Suits p (load_ptr rows ty who align a q)
      ptr_suits ty who align a q =
          bind p (access_act rows 8 align a q) (λ at. touch (Get at.object at.from 8) >>= ptr_tail1 ty who at) (access_suits 8 align a q)
          (λ at. (
            r at.object at.from 8,
            (λ ds. need p (suits_load ty (declared_of at.life) at.from ds) EffectiveType (ptr_tail2 ty who ds)
                (need p (all_written ds) Indeterminate (pointer_or_number who (pointer_in ds) (number_of ds))
                (pointer_suits who (pointer_in ds) (number_of ds)))),
          ))

      block_suits : (size align a : ℕ) (q : Prov) → Suits p (load_block rows size align a q)
      block_suits size align a q =
          bind p (access_act rows size align a q) (λ at. touch (Get at.object at.from size) >>= (λ ds. Give (retagged (declared_of at.life) at.from ds)))
          (access_suits size align a q) (λ at. (r at.object at.from size, (λ ds. tt)))

      load_suits : (who : Event) (how : Access) (ty : CType) (q : Pointer) → Suits p (load rows who how ty q)
      load_suits who (access.Integer k) ty q = bind p (load_int rows k q.address q.prov) (λ z. Give (Int z)) (int_suits k q.address q.prov) (λ u. tt)
      load_suits who access.Pointer ty q = bind p (load_ptr rows ty who 8 q.address q.prov) (λ z. Give (Ptr z.0 z.1)) (ptr_suits ty who 8 q.address q.prov)
          (λ u. tt)
      load_suits who access.Function ty q = bind p (load_func rows ty q.address q.prov) (λ z. Give (Fun z)) (func_suits ty q.address q.prov) (λ u. tt)
      load_suits who (access.Whole size align) ty q =
          bind p (load_block rows size align q.address q.prov) (λ ds. Give (values.Whole ds (Some q.address)))
          (block_suits size align q.address q.prov) (λ u. tt)

      update_suits : (who : Event) (c : Change) (old : Bool) (ty : CType) (q : Pointer) (z : ℤ) → Suits p (update_value rows who c old ty q z)
      update_suits who c old ty q z =
          bind p (load rows who (change_access c) ty q) (λ v. check_change rows c v z >> Give (given_back old v (changed c v z)))
          (load_suits who (change_access c) ty q)
          (λ v. bind p (check_change rows c v z) (λ w. Give (given_back old v (changed c v z))) (check_suits c v z) (λ w. tt))

call_suits : (p : Item → Bool) (b : Bool) (v : Value) → Suits p (call_value b v)
call_suits p false Missing = tt
call_suits p true _ = tt
call_suits p false _ = tt

touching_none : Noted (suits act.Nothing)
touching_none = record { shown = λ x. refl; sought = λ a. refl; settled = λ d x. refl }

reading : Noted (suits act.Reads)
reading = record { shown = λ x. refl; sought = λ a. refl; settled = λ d x. refl }

writing : Noted (suits act.Writes)
writing = record { shown = λ x. refl; sought = λ a. refl; settled = λ d x. refl }

-- a conversion, and a member, by the class that it has over its operand
conversion_acts : (rows : List Row) (who : Event) (c : Conversion) (first : Option Class) (v : Value) →
    has_kind (kinds_of (conversion_class c first)) Val ≡ true → Suits (suits (act_by (conversion_class c first) false Val)) (convert who c v)
conversion_acts rows who (conversion.Integer k) first v h = tt
conversion_acts rows who (conversion.Address k) first v h = convert_suits (suits act.Nothing) touching_none rows who (conversion.Address k) v
conversion_acts rows who conversion.NotNull first v h = tt
conversion_acts rows who conversion.Lookup first v h = convert_suits (suits act.Nothing) touching_none rows who conversion.Lookup v
conversion_acts rows who (conversion.Pointer align) first v h = convert_suits (suits act.Nothing) touching_none rows who (conversion.Pointer align) v
conversion_acts rows who conversion.Function first v h = tt

member_acts : (rows : List Row) (offset : ℕ) (first : Option Class) (q : Pointer) → has_kind (kinds_of (member_class first)) Val ≡ true →
    Suits (suits (act_by (member_class first) false Val)) (member rows offset q)
member_acts rows offset None q h = member_suits (suits act.Nothing) touching_none rows offset q
member_acts rows offset (Some Object) q h = absurd (cc)
member_acts rows offset (Some _) q h = member_suits (suits act.Nothing) touching_none rows offset q

pub value_suits : (rows : List Row) (who : Event) (h : Head) (ts : Trees) (ty : CType) (vs : List Value) (own : Value) →
    has_kind (kinds_of (head_class h ts)) Val ≡ true → Suits (suits (act_by (head_class h ts) (head_loads h) Val)) (act_of rows who h ty Val vs own)
value_suits rows who (head.Load how) ts ty vs own k = load_suits (suits act.Reads) reading rows (λ x. refl) (λ x a l. refl) who how ty
    (pointer_of (value_at vs 0))
value_suits rows who (head.Conv c) ts ty vs own k = conversion_acts rows who c (first_class ts) (value_at vs 0) k
value_suits rows who (head.Un op) ts ty vs own k = unary_suits (suits act.Nothing) touching_none rows op (value_at vs 0)
value_suits rows who (head.Bin op kind) ts ty vs own k =
    int_outcome_suits (suits act.Nothing) touching_none rows (operated op kind (integer_of (value_at vs 0)) (integer_of (value_at vs 1)))
value_suits rows who (head.PtrAdd size subtract) ts ty vs own k =
    shifted_suits (suits act.Nothing) touching_none rows (pointer_of (value_at vs 0)) (distance size subtract (integer_of (value_at vs 1)))
value_suits rows who (head.PtrDiff size) ts ty vs own k =
    difference_suits (suits act.Nothing) touching_none rows size (pointer_of (value_at vs 0)) (pointer_of (value_at vs 1))
value_suits rows who (head.Rel op pointers) ts ty vs own k =
    relational_suits (suits act.Nothing) touching_none rows op pointers (value_at vs 0) (value_at vs 1)
value_suits rows who (head.Eq op) ts ty vs own k = tt
value_suits rows who (head.Member offset) ts ty vs own k = member_acts rows offset (first_class ts) (pointer_of (value_at vs 0)) k
value_suits rows who (head.Part offset how) ts ty vs own k = part_suits (suits act.Nothing) touching_none rows who offset how (value_at vs 0)
value_suits rows who (head.Assign first how) ts ty vs own k = tt
value_suits rows who (head.Update c old) ts ty vs own k =
    update_suits (suits act.Reads) reading rows (λ x. refl) (λ x a l. refl) who c old ty (pointer_of (value_at vs 0)) (amount old vs)
value_suits rows who (head.Call discarded) ts ty vs own k = call_suits (suits act.Nothing) discarded own
value_suits rows who _ ts ty vs own k = tt

pub effect_suits : (rows : List Row) (who : Event) (h : Head) (ts : Trees) (ty : CType) (vs : List Value) (own : Value) →
    has_kind (kinds_of (head_class h ts)) Eff ≡ true → Suits (suits (act_by (head_class h ts) (head_loads h) Eff)) (act_of rows who h ty Eff vs own)
effect_suits rows who (head.Assign first how) ts ty vs own k =
    put_suits (suits act.Writes) writing rows (λ x. refl) (λ x a l. refl) first how ty (pointer_of (value_at vs 0)) (value_at vs 1)
effect_suits rows who (head.Update c old) ts ty vs own k =
    put_suits (suits act.Writes) writing rows (λ x. refl) (λ x a l. refl) false (change_access c) ty (pointer_of (value_at vs 0))
    (new_value c old own (amount old vs))
effect_suits rows who (head.Listed slot fillings) ts ty vs own k =
    fill_suits (suits act.Writes) writing rows (λ x. refl) (λ x a l. refl) (pointer_of (value_at vs 0)) fillings
effect_suits rows who _ ts ty vs own k = tt
