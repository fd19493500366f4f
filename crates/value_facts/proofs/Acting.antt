-- What an act gives is small, and leaves small bytes, where it meets such.
use Rattle.std.proofs.Common.{arith, ◌≡◌, ◌/◌, ◌<◌, ◌≤◌, ◌^◌, ℕ, zero, suc, ◌==◌, Bool, true, false, not, ◌&&◌, ◌||◌, if◌then◌else◌}
use Rattle.std.proofs.Common.{List, [], ◌∷◌, length, take, drop, Option, Some, None, refl, ℤ, pos, unsigned_abs, Result, Ok, Err}
use Rattle.std.specs.Prelude.{◌-ℤ◌, ◌+ℤ◌}
use Rattle.std.proofs.lemmas.Int.{ints}
use Rattle.std.proofs.lemmas.List.Elements.{All-take, All-drop}
use Rattle.ub_base.specs.declared.clause.Kind.{Kind}
use Rattle.ub_base.specs.declared.clause.Kind.TheVariants.{Val, Eff, Body}
use Rattle.ub_base.specs.declared.clause.Clause.{Clause}
use Rattle.ub_base.specs.declared.clause.Clause.TheVariants.{Indeterminate, InvalidPointer, OutOfBounds, PointerAlignment, PointerComparison}
use Rattle.ub_base.specs.declared.clause.Clause.TheVariants.{PointerDifference, TrapRepresentation}
use Rattle.ub_base.specs.declared.names.Event.{Event}
use Rattle.ub_base.specs.declared.names.ObjName.{ObjName}
use Rattle.addr_map.specs.declared.map.Row.{Row}
use Rattle.addr_map.specs.Rows.{row_of}
use Rattle.exposure.specs.declared.prov.Prov.{Prov}
use Rattle.exposure.specs.declared.prov.Prov.TheVariants.{Empty, Whole, Either}
use Rattle.c_types.specs.declared.kind.IntKind.{IntKind}
use Rattle.c_types.specs.declared.kind.IntKind.TheVariants.{ULong}
use Rattle.c_types.specs.Types.{CType, int}
use Rattle.c_arith.specs.Operators.{bits, conv, negated}
use Rattle.c_typed.specs.declared.tree.Access.{Access}
use Rattle.c_typed.specs.declared.tree.Access.TheVariants as access
use Rattle.c_typed.specs.declared.tree.Change.{Change}
use Rattle.c_typed.specs.declared.tree.Change.TheVariants as change
use Rattle.c_typed.specs.declared.tree.Conversion.{Conversion}
use Rattle.c_typed.specs.declared.tree.Conversion.TheVariants as conversion
use Rattle.c_typed.specs.declared.tree.EqOp.{EqOp}
use Rattle.c_typed.specs.declared.tree.EqOp.TheVariants as equality
use Rattle.c_typed.specs.declared.tree.RelOp.{RelOp}
use Rattle.c_typed.specs.declared.tree.UnOp.{UnOp}
use Rattle.c_typed.specs.declared.tree.UnOp.TheVariants as unary
use Rattle.c_typed.specs.Order.{is_body}
use Rattle.mem_spec.specs.Acts as acts
use Rattle.mem_spec.specs.Acts.{
  Accessed,
  Seen,
  candidates,
  check_writable,
  declared_of,
  diff,
  expose,
  from_int,
  in_bounds,
  in_common,
  in_row,
  is_constant,
  is_literal,
  less,
  load_block,
  load_func,
  load_int,
  load_ptr,
  number_of,
  object_of,
  pointer_in,
  pointer_or_number,
  retagged,
  settle_by,
  settle_common,
  settle_to,
  shift,
  show_each,
  show_pieces,
  some_live,
  store,
  stored_from,
  target_lives,
}
use Rattle.mem_spec.specs.Agreement.{bytes_of_kind}
use Rattle.mem_spec.specs.Bytes.{low_bits, pointer_bytes}
use Rattle.mem_spec.specs.Script.{Give, ◌>>◌, require}
use Rattle.mem_spec.specs.Store.{TaggedByte}
use Rattle.c_model.specs.Nodes as nodes
use Rattle.c_model.specs.Nodes.{
  act_of,
  amount,
  bool_value,
  call_value,
  changed,
  check_change,
  content_bytes,
  convert,
  difference,
  distance,
  equal,
  fill,
  given_back,
  int_outcome,
  last_value,
  load,
  member,
  new_value,
  part_pointer,
  plain_byte,
  put,
  put_whole,
  read_part,
  relational,
  shifted,
  unary_value,
  update_value,
}
use Rattle.c_model.specs.Program as model
use Rattle.c_model.specs.Program.{Content, Filling, Head}
use Rattle.c_model.specs.Values.{Value, Int, Ptr, Fun, Missing, Nothing, Pointer, address_after, integer_of, part_bytes, pointer_of, pointer_value}
use Rattle.c_model.specs.Values.{unplaced, value_at}
use Rattle.c_model.specs.Values as values
use Rattle.value_facts.specs.Small.{ActsGiveSmall, EndInTime, FillsSmall, IsSmall, IsSmallByte}
use Rattle.value_facts.proofs.Numbers.{bits_below, conv_small, IsSmallResult, complemented_small, negated_small, number_below, operated_small}
use Rattle.value_facts.proofs.Numbers.{power_le, quotient_le, value_of_small}
use Rattle.value_facts.proofs.Scripts.{Any, GivesSo, after_so, runs_so, then_so}
use Rattle.value_facts.proofs.Accesses.{AreSmallBytes, IsFew, fill_so, from_int_so, load_so, number_small, pointer_small, put_so, require_then, show_each_so}
use Rattle.value_facts.proofs.Accesses.{show_pieces_so, store_so}

-- ---- pointers
pub address_small : (v : Value) → IsSmall v → (pointer_of v).address < 2 ^ 64
address_small (Ptr a p) h = h
address_small (Int z) h = omega arith
address_small (Fun a) h = omega arith
address_small (values.Whole bs source) h = omega arith
address_small Missing h = omega arith
address_small Nothing h = omega arith

bounds_few : (rows : List Row) → EndInTime rows → (x : ObjName) (z : ℤ) → in_bounds (row_of rows x) z ≡ true → IsFew z
bounds_few rows ends x z h = go (row_of rows x) refl h
  where
    go : (o : Option Row) → row_of rows x ≡ o → in_bounds o z ≡ true → IsFew z
    go None e h = absurd (cc)
    go (Some r) e h = let l = ends x r e in grind (arith, ints, l, h)

-- what a shift gives is the number that it works out
shift_is : (rows : List Row) → EndInTime rows → (a : ℕ) (p : Prov) (by : ℤ) → GivesSo IsFew (shift rows a p by)
shift_is rows ends a Empty by = tt
shift_is rows ends a (Whole x) by =
    require_then IsFew (in_bounds (row_of rows x) (pos a +ℤ by)) OutOfBounds (Give (pos a +ℤ by)) (λ e. bounds_few rows ends x (pos a +ℤ by) e)
shift_is rows ends a (Either id past start) by =
    go (in_bounds (row_of rows past) (pos a +ℤ by)) (in_bounds (row_of rows start) (pos a +ℤ by)) refl refl
  where
    go : (b c : Bool) → in_bounds (row_of rows past) (pos a +ℤ by) ≡ b → in_bounds (row_of rows start) (pos a +ℤ by) ≡ c
        → GivesSo IsFew (settle_by b c id past start OutOfBounds >> Give (pos a +ℤ by))
    go true true e f = bounds_few rows ends past (pos a +ℤ by) e
    go true false e f = (tt, λ x g. bounds_few rows ends past (pos a +ℤ by) e)
    go false true e f = (tt, λ x g. bounds_few rows ends start (pos a +ℤ by) f)
    go false false e f = tt

shifted_so : (rows : List Row) → EndInTime rows → (p : Pointer) (by : ℤ) → GivesSo IsSmall (shifted rows p by)
shifted_so rows ends p by = then_so IsFew IsSmall (shift rows p.address p.prov by) (λ z. Give (Ptr (unsigned_abs z) p.prov))
    (shift_is rows ends p.address p.prov by) (λ z h. h)

settle_to_so : (p : Prov) (x : ObjName) (c : Clause) → GivesSo Any (settle_to p x c)
settle_to_so Empty x c = tt
settle_to_so (Whole y) x c = tt
settle_to_so (Either id past start) x c = (tt, λ a g. tt)

settle_common_so : (xs : List ObjName) (p q : Prov) (c : Clause) → GivesSo Any (settle_common xs p q c)
settle_common_so [] p q c = tt
settle_common_so (x ∷ []) p q c = after_so Any (settle_to p x c) (settle_to q x c) (settle_to_so p x c) (settle_to_so q x c)
settle_common_so (x ∷ y ∷ ys) p q c = tt

apart_few : (x y : ℕ) → x < 2 ^ 64 → y < 2 ^ 64 → IsFew (pos x -ℤ pos y)
apart_few x y h k = grind (arith, ints, h, k)

divided_few : (size a : ℕ) → a < 2 ^ 64 → a / size < 2 ^ 64
divided_few size a h = let l = quotient_le a size in omega (arith, l, h)

diff_so : (a : ℕ) (p : Prov) (b : ℕ) (q : Prov) (size : ℕ) → GivesSo Any (diff a p b q size)
diff_so a p b q size =
    let common = settle_common (in_common (candidates p) (candidates q)) p q PointerDifference in
    require_then Any (acts.is_multiple size a b) PointerDifference common (λ e.
    settle_common_so (in_common (candidates p) (candidates q)) p q PointerDifference)

difference_so : (size : ℕ) (p q : Pointer) → p.address < 2 ^ 64 → q.address < 2 ^ 64 → GivesSo IsSmall (difference size p q)
difference_so size p q h k =
    after_so IsSmall (diff p.address p.prov q.address q.prov size) (Give (Int (pos (p.address / size) -ℤ pos (q.address / size))))
    (diff_so p.address p.prov q.address q.prov size)
    (apart_few (p.address / size) (q.address / size) (divided_few size p.address h) (divided_few size q.address k))

bool_small : (b : Bool) → IsSmall (bool_value b)
bool_small true = omega arith
bool_small false = omega arith

relational_so : (op : RelOp) (pointers : Bool) (v w : Value) → GivesSo IsSmall (relational op pointers v w)
relational_so op true v w =
    let p = pointer_of v in
    let q = pointer_of w in
    let b = nodes.in_order op (pos p.address) (pos q.address) in
    after_so IsSmall (less p.prov q.prov) (Give (bool_value b))
    (settle_common_so (in_common (candidates p.prov) (candidates q.prov)) p.prov q.prov PointerComparison) (bool_small b)
relational_so op false v w = bool_small (nodes.in_order op (integer_of v) (integer_of w))

member_so : (rows : List Row) → EndInTime rows → (offset : ℕ) (p : Pointer) → GivesSo IsSmall (member rows offset p)
member_so rows ends offset p =
    require_then IsSmall (not ((p.address == 0) || nodes.is_empty p.prov)) InvalidPointer (shifted rows p (pos offset)) (λ e.
    shifted_so rows ends p (pos offset))

-- ---- conversions, operators, parts
convert_so : (who : Event) (c : Conversion) (v : Value) → IsSmall v → GivesSo IsSmall (convert who c v)
convert_so who (conversion.Integer k) v h = conv_small k (integer_of v)
convert_so who (conversion.Address k) v h =
    after_so IsSmall (expose (pointer_of v).prov) (Give (Int (conv k (pos (pointer_of v).address)))) (show_each_so (candidates (pointer_of v).prov))
    (conv_small k (pos (pointer_of v).address))
convert_so who conversion.NotNull v h = bool_small (values.truth v)
convert_so who conversion.Lookup v h =
    let n = bits ULong (integer_of v) in
    then_so Any IsSmall (from_int who n) (λ prov. Give (Ptr n prov)) (from_int_so who n) (λ prov any. bits_below ULong (integer_of v))
convert_so who (conversion.Pointer align) v h =
    require_then IsSmall (acts.is_aligned align (pointer_of v).address) PointerAlignment (Give (pointer_value (pointer_of v))) (λ e. address_small v h)
convert_so who conversion.Function v h = tt

outcome_so : (r : Result ℤ Clause) → IsSmallResult r → GivesSo IsSmall (int_outcome r)
outcome_so (Ok z) h = h
outcome_so (Err c) h = tt

unary_so : (op : UnOp) (v : Value) → GivesSo IsSmall (unary_value op v)
unary_so (unary.Minus k) v = outcome_so (negated k (conv k (integer_of v))) (negated_small k (conv k (integer_of v)))
unary_so (unary.Complement k) v = complemented_small k (conv k (integer_of v))
unary_so unary.Not v = bool_small (not (values.truth v))

equal_small : (op : EqOp) (v w : Value) → IsSmall (equal op v w)
equal_small equality.Equal v w = bool_small (nodes.are_equal v w)
equal_small equality.NotEqual v w = bool_small (not (nodes.are_equal v w))

part_pointer_so : (who : Event) (o : Option Prov) (a : ℕ) → a < 2 ^ 64 → GivesSo IsSmall (part_pointer who o a)
part_pointer_so who (Some p) a h = h
part_pointer_so who None a h = then_so Any IsSmall (from_int who a) (λ p. Give (Ptr a p)) (from_int_so who a) (λ p any. h)

taken_length : {A : Type 0} (n : ℕ) (xs : List A) → length (take n xs) ≤ n
taken_length zero xs = omega arith
taken_length (suc n) [] = omega arith
taken_length (suc n) (x ∷ xs) = let l = taken_length n xs in omega (arith, l)

part_small : (offset len : ℕ) (bs : List TaggedByte) → AreSmallBytes bs → AreSmallBytes (part_bytes offset len bs)
part_small offset len bs h = All-take IsSmallByte len (drop offset bs) (All-drop IsSmallByte offset bs h)

eight_most : (bs : List TaggedByte) → length bs ≤ 8 → AreSmallBytes bs → number_of bs < 2 ^ 64
eight_most bs l h =
    let n = number_below bs h in
    let p = power_le (length bs) 8 l in
    let e : 256 ^ 8 ≡ 2 ^ 64 = refl in
    omega (arith, n, p, e)

module _ (who : Event) (bs : List TaggedByte) (source : Option ℕ) (h : AreSmallBytes bs) where
  part_int_so : (k : IntKind) → length bs ≤ bytes_of_kind k → GivesSo IsSmall (read_part who (access.Integer k) bs source)
  part_int_so k l =
      let given = Give (Int (acts.value_of k (number_of bs))) in
      require_then IsSmall (acts.all_written bs) Indeterminate
      (require (not (acts.is_trap k (number_of bs))) TrapRepresentation >> (show_pieces bs >> given)) (λ e.
      require_then IsSmall (not (acts.is_trap k (number_of bs))) TrapRepresentation (show_pieces bs >> given) (λ f.
      after_so IsSmall (show_pieces bs) given (show_pieces_so bs) (value_of_small k bs l h)))

  read_part_so : (how : Access) → length bs ≤ nodes.width_of how → GivesSo IsSmall (read_part who how bs source)
  read_part_so (access.Integer k) l = part_int_so k l
  read_part_so access.Pointer l =
      require_then IsSmall (acts.all_written bs) Indeterminate (part_pointer who (pointer_in bs) (number_of bs)) (λ e.
      part_pointer_so who (pointer_in bs) (number_of bs) (eight_most bs l h))
  read_part_so access.Function l =
      require_then IsSmall (acts.all_written bs) Indeterminate (show_pieces bs >> Give (Fun (number_of bs))) (λ e.
      after_so IsSmall (show_pieces bs) (Give (Fun (number_of bs))) (show_pieces_so bs) tt)
  read_part_so (access.Whole size align) l = h

part_so : (who : Event) (offset : ℕ) (how : Access) (v : Value) → IsSmall v → GivesSo IsSmall (nodes.part_of who offset how v)
part_so who offset how (values.Whole bs source) h =
    let n = nodes.width_of how in
    read_part_so who (part_bytes offset n bs) (values.moved_source offset source) (part_small offset n bs h) how (taken_length n (drop offset bs))
part_so who offset how (Int z) h = tt
part_so who offset how (Ptr a p) h = tt
part_so who offset how (Fun a) h = tt
part_so who offset how Missing h = tt
part_so who offset how Nothing h = tt

-- ---- updates
back_small : (old : Bool) (v w : Value) → IsSmall v → IsSmall w → IsSmall (given_back old v w)
back_small true v w h k = h
back_small false v w h k = k

pub settled_so : (P : Type 0) (b c : Bool) (id : Event) (past start : ObjName) (k : Clause) (z : ℤ) → (b ≡ true → P) → (c ≡ true → P)
    → GivesSo (λ w. P) (settle_by b c id past start k >> Give z)
settled_so P true true id past start k z h g = h refl
settled_so P true false id past start k z h g = (tt, λ a b. h refl)
settled_so P false true id past start k z h g = (tt, λ a b. g refl)
settled_so P false false id past start k z h g = tt

shift_so : (rows : List Row) → EndInTime rows → (a : ℕ) (p : Prov) (by : ℤ) → GivesSo (λ w. IsFew (pos a +ℤ by)) (shift rows a p by)
shift_so rows ends a Empty by = tt
shift_so rows ends a (Whole x) by =
    require_then (λ w. IsFew (pos a +ℤ by)) (in_bounds (row_of rows x) (pos a +ℤ by)) OutOfBounds (Give (pos a +ℤ by)) (λ e.
    bounds_few rows ends x (pos a +ℤ by) e)
shift_so rows ends a (Either id past start) by =
    settled_so (IsFew (pos a +ℤ by)) (in_bounds (row_of rows past) (pos a +ℤ by)) (in_bounds (row_of rows start) (pos a +ℤ by)) id past start OutOfBounds
    (pos a +ℤ by) (bounds_few rows ends past (pos a +ℤ by)) (bounds_few rows ends start (pos a +ℤ by))

check_so : (rows : List Row) → EndInTime rows → (c : Change) (v : Value) (n : ℤ) → GivesSo (λ z. IsSmall (changed c v n)) (check_change rows c v n)
check_so rows ends (change.Integer op kind work) v n = go (nodes.worked (change.Integer op kind work) v n)
  where
    go : (r : Result ℤ Clause) → GivesSo (λ z. IsSmall (changed (change.Integer op kind work) v n)) (nodes.outcome r)
    go (Ok z) = conv_small kind (nodes.or_zero (nodes.worked (change.Integer op kind work) v n))
    go (Err c) = tt
check_so rows ends (change.Pointer size subtract) v n = shift_so rows ends (pointer_of v).address (pointer_of v).prov (distance size subtract n)

update_so : (rows : List Row) → EndInTime rows → (who : Event) (c : Change) (old : Bool) (ty : CType) (p : Pointer) (n : ℤ)
    → GivesSo IsSmall (update_value rows who c old ty p n)
update_so rows ends who c old ty p n =
    let how = nodes.change_access c in
    then_so IsSmall IsSmall (load rows who how ty p) (λ v. check_change rows c v n >> Give (given_back old v (changed c v n))) (load_so rows who how ty p)
    (λ v h. then_so (λ z. IsSmall (changed c v n)) IsSmall (check_change rows c v n) (λ z. Give (given_back old v (changed c v n)))
    (check_so rows ends c v n) (λ z k. back_small old v (changed c v n) h k))

-- ---- the events of a node
call_so : (discarded : Bool) (v : Value) → IsSmall v → GivesSo IsSmall (call_value discarded v)
call_so false Missing h = tt
call_so true Missing h = tt
call_so false (Int z) h = h
call_so true (Int z) h = h
call_so false (Ptr a p) h = h
call_so true (Ptr a p) h = h
call_so false (Fun a) h = tt
call_so true (Fun a) h = tt
call_so false (values.Whole bs source) h = h
call_so true (values.Whole bs source) h = h
call_so false Nothing h = tt
call_so true Nothing h = tt

last_small : (vs : List Value) → ((i : ℕ) → IsSmall (value_at vs i)) → IsSmall (last_value vs)
last_small [] h = tt
last_small (v ∷ []) h = h 0
last_small (v ∷ w ∷ vs) h = last_small (w ∷ vs) (λ i. h (suc i))

one_of : (b : Bool) (v w : Value) → IsSmall v → IsSmall w → IsSmall (if b then v else w)
one_of true v w h k = h
one_of false v w h k = k

put_any : (rows : List Row) (c : Change) (ty : CType) (p : Pointer) (v : Value) → GivesSo IsSmall (put rows false (nodes.change_access c) ty p v)
put_any rows (change.Integer op kind work) ty p v =
    let bs = values.int_bytes kind (integer_of v) in
    after_so IsSmall (store rows false (acts.scalar (int kind)) (bytes_of_kind kind) p.address p.prov bs) (Give Nothing)
    (store_so rows false (acts.scalar (int kind)) (bytes_of_kind kind) p.address p.prov bs (number_small (bytes_of_kind kind) (low_bits (integer_of v)))) tt
put_any rows (change.Pointer size subtract) ty p v =
    let bs = pointer_bytes 8 0 (pointer_of v).prov (pointer_of v).address in
    after_so IsSmall (store rows false (acts.scalar ty) 8 p.address p.prov bs) (Give Nothing)
    (store_so rows false (acts.scalar ty) 8 p.address p.prov bs (pointer_small 8 0 (pointer_of v).prov (pointer_of v).address)) tt

module _ (rows : List Row) (ends : EndInTime rows) (who : Event) (ty : CType) (vs : List Value) (own : Value) (small : (i : ℕ) → IsSmall (value_at vs i))
    (own_small : IsSmall own) where
  -- its value
  pub value_so : (h : Head) → GivesSo IsSmall (act_of rows who h ty Val vs own)
  value_so (model.Load how) = load_so rows who how ty (pointer_of (value_at vs 0))
  value_so (model.Conv c) = convert_so who c (value_at vs 0) (small 0)
  value_so (model.Un op) = unary_so op (value_at vs 0)
  value_so (model.Bin op kind) =
      outcome_so (nodes.operated op kind (integer_of (value_at vs 0)) (integer_of (value_at vs 1)))
      (operated_small op kind (integer_of (value_at vs 0)) (integer_of (value_at vs 1)))
  value_so (model.PtrAdd size subtract) = shifted_so rows ends (pointer_of (value_at vs 0)) (distance size subtract (integer_of (value_at vs 1)))
  value_so (model.PtrDiff size) =
      difference_so size (pointer_of (value_at vs 0)) (pointer_of (value_at vs 1)) (address_small (value_at vs 0) (small 0))
      (address_small (value_at vs 1) (small 1))
  value_so (model.Rel op pointers) = relational_so op pointers (value_at vs 0) (value_at vs 1)
  value_so (model.Eq op) = equal_small op (value_at vs 0) (value_at vs 1)
  value_so (model.Member offset) = member_so rows ends offset (pointer_of (value_at vs 0))
  value_so (model.Part offset how) = part_so who offset how (value_at vs 0) (small 0)
  value_so (model.Assign first how) = small 1
  value_so (model.Update c old) = update_so rows ends who c old ty (pointer_of (value_at vs 0)) (amount old vs)
  value_so model.And = bool_small (values.truth (value_at vs 0) && values.truth (value_at vs 1))
  value_so model.Or = bool_small (values.truth (value_at vs 0) || values.truth (value_at vs 1))
  value_so model.Cond = one_of (values.truth (value_at vs 0)) (value_at vs 1) (value_at vs 2) (small 1) (small 2)
  value_so model.Comma = last_small vs small
  value_so (model.Call discarded) = call_so discarded own own_small
  value_so _ = tt

  -- its effect
  pub effect_so : (h : Head) → FillsSmall h → GivesSo IsSmall (act_of rows who h ty Eff vs own)
  effect_so (model.Assign first how) f = put_so rows first how ty (pointer_of (value_at vs 0)) (value_at vs 1) (small 1)
  effect_so (model.Update c old) f = put_any rows c ty (pointer_of (value_at vs 0)) (new_value c old own (amount old vs))
  effect_so (model.Listed slot fillings) f = fill_so rows (pointer_of (value_at vs 0)) fillings f
  effect_so _ f = tt

  pub act_so : (h : Head) (kind : Kind) → is_body kind ≡ false → FillsSmall h → GivesSo IsSmall (act_of rows who h ty kind vs own)
  act_so h Val plain f = value_so h
  act_so h Eff plain f = effect_so h f
  act_so h Body plain f = absurd (cc)

pub acts_give_small : ActsGiveSmall
acts_give_small rows who h ty kind vs own s u v is ends plain fills small own_small bytes ran =
    runs_so IsSmall rows (act_of rows who h ty kind vs own) s u v is (act_so rows ends who ty vs own small own_small h kind plain fills) bytes ran
