-- The act of an event gives a value of its node's size, where the operands' values have theirs.
use Rattle.std.proofs.Common.{◌≡◌, ℕ, zero, suc, ◌+◌, ◌≤◌, Bool, true, false, not, ◌&&◌, ◌||◌, if◌then◌else◌, List, [], ◌∷◌, length}
use Rattle.std.proofs.Common.{Option, Some, None, refl, sym, ap, ◌∙◌, subst, arith}
use Rattle.std.specs.Prelude.{◌==◌, ℤ, pos, ◌-ℤ◌, ◌/◌, unsigned_abs, Result, Ok, Err}
use Rattle.ub_base.specs.declared.clause.Kind.{Kind}
use Rattle.ub_base.specs.declared.clause.Kind.TheVariants.{Val, Eff}
use Rattle.ub_base.specs.declared.clause.Clause.{Clause}
use Rattle.ub_base.specs.declared.clause.Clause.TheVariants.{InvalidPointer, Indeterminate, TrapRepresentation, PointerAlignment, OverlappingAssignment}
use Rattle.ub_base.specs.declared.names.Event.{Event}
use Rattle.addr_map.specs.declared.map.Row.{Row}
use Rattle.exposure.specs.declared.prov.Prov.{Prov}
use Rattle.c_types.specs.declared.kind.IntKind.{IntKind}
use Rattle.c_types.specs.declared.kind.IntKind.TheVariants.{ULong}
use Rattle.c_types.specs.Types.{CType, int}
use Rattle.c_types.specs.Shapes.{Form}
use Rattle.c_arith.specs.Operators.{negated, conv, bits}
use Rattle.c_typed.specs.declared.tree.Access.{Access}
use Rattle.c_typed.specs.declared.tree.Access.TheVariants as access
use Rattle.c_typed.specs.declared.tree.Change.{Change}
use Rattle.c_typed.specs.declared.tree.Change.TheVariants as change
use Rattle.c_typed.specs.declared.tree.Conversion.{Conversion}
use Rattle.c_typed.specs.declared.tree.Conversion.TheVariants as conversion
use Rattle.c_typed.specs.declared.tree.UnOp.{UnOp}
use Rattle.c_typed.specs.declared.tree.UnOp.TheVariants as unary
use Rattle.c_typed.specs.declared.tree.RelOp.{RelOp}
use Rattle.c_typed.specs.declared.tree.EqOp.{EqOp}
use Rattle.c_typed.specs.declared.tree.EqOp.TheVariants as equality
use Rattle.mem_spec.specs.Store.{TaggedByte, range_from}
use Rattle.mem_spec.specs.Agreement.{bytes_of_kind}
use Rattle.mem_spec.specs.Script.{Get, Script, Give, ◌>>=◌, ◌>>◌, require, touch}
use Rattle.mem_spec.specs.Acts.{scalar, whole, bytes, is_aligned, declared_of, access as access_act, store, shift, all_written, show_pieces}
use Rattle.mem_spec.specs.Acts.{value_of, is_trap, number_of, load_int, load_func, load_ptr, load_block, from_int, pointer_in, retagged, less, diff, expose}
use Rattle.mem_spec.specs.Bytes.{number_bytes, pointer_bytes}
use Rattle.c_model.specs.Values.{Value, Int, Ptr, Fun, Whole, Missing, Nothing, Pointer, pointer_value, integer_of, pointer_of, function_in, value_at}
use Rattle.c_model.specs.Values.{address_after}
use Rattle.c_model.specs.Values.{truth, int_bytes, part_bytes, moved_source, unplaced}
use Rattle.c_model.specs.Program.{Filling, Head, Load, Conv, Un, Bin, PtrAdd, PtrDiff, Rel, Eq, Member, Part, Assign, Update, And, Or, Cond, Comma, Call}
use Rattle.c_model.specs.Program.{Listed, Exprs}
use Rattle.c_model.specs.Nodes.{bool_value, int_outcome, load, put_whole, put, overlap_inexactly, convert, unary_value, operated, in_order}
use Rattle.c_model.specs.Nodes.{relational, distance, shifted, difference, is_empty, member, part_pointer, read_part, width_of, part_of, amount, equal, changed}
use Rattle.c_model.specs.Nodes.{check_change, change_access, given_back, update_value, new_value, call_value, last_value, content_bytes, fill, act_of}
use Rattle.value_laws.specs.Sizes.{Sizes, HasBytes, HasSize, Keeps, IsUpTo, size_at, last_size, LoadFits, PartFits, NodeFits, Gives, IsPlain}
use Rattle.value_laws.proofs.Scripts.{bind, go_on, gives_map, need}

pub keeps_size : (a b : Option ℕ) (v : Value) → Keeps a b → HasSize a v → HasSize b v
keeps_size a None v k h = tt
keeps_size a (Some n) v k h = subst (λ z. HasSize z v) k h

plain_bytes : (n : ℕ) (v : Value) → IsPlain v → HasBytes n v
plain_bytes n (Whole bs source) p = absurd p
plain_bytes n (Int z) p = tt
plain_bytes n (Ptr a p) q = tt
plain_bytes n (Fun a) p = tt
plain_bytes n Missing p = tt
plain_bytes n Nothing p = tt

pub plain_size : (o : Option ℕ) (v : Value) → IsPlain v → HasSize o v
plain_size None v p = tt
plain_size (Some n) v p = plain_bytes n v p

range_length : (f : ℕ → TaggedByte) (a n : ℕ) → length (range_from f a n) ≡ n
range_length f a zero = refl
range_length f a (suc n) = ap suc (range_length f (suc a) n)

retagged_length : (declared : Option Form) (from : ℕ) (bs : List TaggedByte) → length (retagged declared from bs) ≡ length bs
retagged_length None from bs = refl
retagged_length (Some form) from [] = refl
retagged_length (Some form) from (b ∷ bs) = ap suc (retagged_length (Some form) (suc from) bs)

part_length : (offset n : ℕ) (bs : List TaggedByte) → offset + n ≤ length bs → length (part_bytes offset n bs) ≡ n
part_length zero zero bs h = refl
part_length zero (suc n) [] h = absurd (omega (arith, h))
part_length zero (suc n) (b ∷ bs) h = ap suc (part_length zero n bs (omega (arith, h)))
part_length (suc offset) n [] h = absurd (omega (arith, h))
part_length (suc offset) n (b ∷ bs) h = part_length offset n bs (omega (arith, h))

module _ (rows : List Row) where
  abbrev pub Plain : Script Value → Type 0
  Plain x = Gives rows IsPlain x

  block_gives : (n align a : ℕ) (p : Prov) → Gives rows (λ bs. length bs ≡ n) (load_block rows n align a p)
  block_gives n align a p =
      go_on rows (λ bs. length bs ≡ n) (access_act rows n align a p)
      (λ at. touch (Get at.object at.from n) >>= (λ bs. Give (retagged (declared_of at.life) at.from bs)))
      (λ at. λ s. retagged_length (declared_of at.life) at.from (range_from (s.bytes at.object) at.from n) ∙ range_length (s.bytes at.object) at.from n)

  -- a load gives as many bytes as it reads
  load_gives : (own : Option ℕ) (who : Event) (how : Access) (ty : CType) (p : Pointer) → LoadFits how own → Gives rows (HasSize own) (load rows who how ty p)
  load_gives own who (access.Integer k) ty p f = go_on rows (HasSize own) (load_int rows k p.address p.prov) (λ z. Give (Int z))
      (λ z. plain_size own (Int z) tt)
  load_gives own who access.Pointer ty p f = go_on rows (HasSize own) (load_ptr rows ty who 8 p.address p.prov) (λ q. Give (Ptr q.0 q.1))
      (λ q. plain_size own (Ptr q.0 q.1) tt)
  load_gives own who access.Function ty p f = go_on rows (HasSize own) (load_func rows ty p.address p.prov) (λ n. Give (Fun n)) (λ n. plain_size own (Fun n) tt)
  load_gives own who (access.Whole n align) ty p f =
      bind rows (λ bs. length bs ≡ n) (HasSize own) (load_block rows n align p.address p.prov) (λ bs. Give (Whole bs (Some p.address)))
      (block_gives n align p.address p.prov) (λ bs h. keeps_size (Some n) own (Whole bs (Some p.address)) f h)

  put_whole_plain : (first : Bool) (n align : ℕ) (p : Pointer) (v : Value) → Plain (put_whole rows first n align p v)
  put_whole_plain first n align p (Whole bs source) =
      go_on rows IsPlain (store rows first whole align p.address p.prov bs)
      (λ u. require (not (overlap_inexactly n p.address source)) OverlappingAssignment >> Give Nothing)
      (λ u. need rows IsPlain (not (overlap_inexactly n p.address source)) OverlappingAssignment (Give Nothing) (λ h. tt))
  put_whole_plain first n align p (Int z) = tt
  put_whole_plain first n align p (Ptr a q) = tt
  put_whole_plain first n align p (Fun a) = tt
  put_whole_plain first n align p Missing = tt
  put_whole_plain first n align p Nothing = tt

  pub put_plain : (first : Bool) (how : Access) (ty : CType) (p : Pointer) (v : Value) → Plain (put rows first how ty p v)
  put_plain first (access.Integer k) ty p v =
      go_on rows IsPlain (store rows first (scalar (int k)) (bytes_of_kind k) p.address p.prov (int_bytes k (integer_of v))) (λ u. Give Nothing) (λ u. tt)
  put_plain first access.Pointer ty p v =
      go_on rows IsPlain (store rows first (scalar ty) 8 p.address p.prov (pointer_bytes 8 0 (pointer_of v).prov (pointer_of v).address))
      (λ u. Give Nothing) (λ u. tt)
  put_plain first access.Function ty p v =
      go_on rows IsPlain (store rows first (scalar ty) 8 p.address p.prov (number_bytes 8 (function_in v))) (λ u. Give Nothing) (λ u. tt)
  put_plain first (access.Whole n align) ty p v = put_whole_plain first n align p v

  pub fill_plain : (p : Pointer) (cs : List Filling) → Plain (fill rows p cs)
  fill_plain p [] = tt
  fill_plain p (c ∷ cs) =
      go_on rows IsPlain (store rows true bytes 1 (address_after p.address c.offset) p.prov (content_bytes rows c.content)) (λ u. fill rows p cs)
      (λ u. fill_plain p cs)

  convert_plain : (who : Event) (c : Conversion) (v : Value) → Plain (convert who c v)
  convert_plain who (conversion.Integer k) v = tt
  convert_plain who (conversion.Address k) v =
      go_on rows IsPlain (expose (pointer_of v).prov) (λ u. Give (Int (conv k (pos (pointer_of v).address)))) (λ u. tt)
  convert_plain who conversion.NotNull v = tt
  convert_plain who conversion.Lookup v =
      go_on rows IsPlain (from_int who (bits ULong (integer_of v))) (λ p. Give (Ptr (bits ULong (integer_of v)) p)) (λ u. tt)
  convert_plain who (conversion.Pointer align) v = need rows IsPlain (is_aligned align (pointer_of v).address) PointerAlignment
      (Give (pointer_value (pointer_of v))) (λ h. tt)
  convert_plain who conversion.Function v = tt

  int_plain : (r : Result ℤ Clause) → Plain (int_outcome r)
  int_plain (Ok z) = tt
  int_plain (Err c) = tt

  unary_plain : (op : UnOp) (v : Value) → Plain (unary_value op v)
  unary_plain (unary.Minus k) v = int_plain (negated k (conv k (integer_of v)))
  unary_plain (unary.Complement k) v = tt
  unary_plain unary.Not v = tt

  relational_plain : (op : RelOp) (pointers : Bool) (v w : Value) → Plain (relational op pointers v w)
  relational_plain op true v w =
      go_on rows IsPlain (less (pointer_of v).prov (pointer_of w).prov) (λ u. Give
      (bool_value (in_order op (pos (pointer_of v).address) (pos (pointer_of w).address)))) (λ u. tt)
  relational_plain op false v w = tt

  equal_plain : (op : EqOp) (v w : Value) → IsPlain (equal op v w)
  equal_plain equality.Equal v w = tt
  equal_plain equality.NotEqual v w = tt

  shifted_plain : (p : Pointer) (by : ℤ) → Plain (shifted rows p by)
  shifted_plain p by = go_on rows IsPlain (shift rows p.address p.prov by) (λ z. Give (Ptr (unsigned_abs z) p.prov)) (λ u. tt)

  difference_plain : (n : ℕ) (p q : Pointer) → Plain (difference n p q)
  difference_plain n p q =
      go_on rows IsPlain (diff p.address p.prov q.address q.prov n) (λ u. Give (Int (pos (p.address / n) -ℤ pos (q.address / n)))) (λ u. tt)

  member_plain : (offset : ℕ) (p : Pointer) → Plain (member rows offset p)
  member_plain offset p =
      need rows IsPlain (not ((p.address == 0) || is_empty p.prov)) InvalidPointer (shifted rows p (pos offset)) (λ h. shifted_plain p (pos offset))

  pointer_plain : (who : Event) (o : Option Prov) (a : ℕ) → Plain (part_pointer who o a)
  pointer_plain who (Some p) a = tt
  pointer_plain who None a = go_on rows IsPlain (from_int who a) (λ p. Give (Ptr a p)) (λ u. tt)

  abbrev part_shown : IntKind → List TaggedByte → Script Value
  part_shown k ds = show_pieces ds >> Give (Int (value_of k (number_of ds)))

  abbrev Sized : Option ℕ → Script Value → Type 0
  Sized own x = Gives rows (HasSize own) x

  sized : (own : Option ℕ) (x : Script Value) → Plain x → Sized own x
  sized own x h = gives_map rows IsPlain (HasSize own) x (plain_size own) h

  -- a member of a value
  read_gives : (own : Option ℕ) (who : Event) (offset : ℕ) (how : Access) (ds : List TaggedByte) (source : Option ℕ) (value : Option ℕ)
      → PartFits offset how own value → ((n align : ℕ) → how ≡ access.Whole n align → offset + n ≤ length ds)
      → Sized own (read_part who how (part_bytes offset (width_of how) ds) source)
  read_gives own who offset (access.Integer k) ds source value f l = sized own _ (plain_int (part_bytes offset (bytes_of_kind k) ds))
    where
      plain_int : (ds : List TaggedByte) → Plain (read_part who (access.Integer k) ds source)
      plain_int ds =
          need rows IsPlain (all_written ds) Indeterminate (require (not (is_trap k (number_of ds))) TrapRepresentation >> part_shown k ds)
          (λ h. need rows IsPlain (not (is_trap k (number_of ds))) TrapRepresentation (part_shown k ds)
          (λ g. go_on rows IsPlain (show_pieces ds) (λ u. Give (Int (value_of k (number_of ds)))) (λ u. tt)))
  read_gives own who offset access.Pointer ds source value f l = sized own _ (plain_pointer (part_bytes offset 8 ds))
    where
      plain_pointer : (ds : List TaggedByte) → Plain (read_part who access.Pointer ds source)
      plain_pointer ds = need rows IsPlain (all_written ds) Indeterminate (part_pointer who (pointer_in ds) (number_of ds))
          (λ h. pointer_plain who (pointer_in ds) (number_of ds))
  read_gives own who offset access.Function ds source value f l = sized own _ (plain_function (part_bytes offset 8 ds))
    where
      plain_function : (ds : List TaggedByte) → Plain (read_part who access.Function ds source)
      plain_function ds = need rows IsPlain (all_written ds) Indeterminate (show_pieces ds >> Give (Fun (number_of ds)))
          (λ h. go_on rows IsPlain (show_pieces ds) (λ u. Give (Fun (number_of ds))) (λ u. tt))
  read_gives own who offset (access.Whole n align) ds source value f l =
      keeps_size (Some n) own (Whole (part_bytes offset n ds) source) f.1 (part_length offset n ds (l n align refl))

  up_to : (m : ℕ) (value : Option ℕ) (ds : List TaggedByte) (source : Option ℕ) → IsUpTo m value → HasSize value (Whole ds source) → m ≤ length ds
  up_to m None ds source u h = absurd u
  up_to m (Some n) ds source u h = subst (λ z. m ≤ z) (sym h) u

  part_gives : (own value : Option ℕ) (who : Event) (offset : ℕ) (how : Access) (v : Value) → PartFits offset how own value → HasSize value v
      → Sized own (part_of who offset how v)
  part_gives own value who offset how (Whole ds source) f h =
      read_gives own who offset how ds (moved_source offset source) value f
      (λ n align e. up_to (offset + n) value ds source (subst (λ z. PartFits offset z own value) e f).0 h)
  part_gives own value who offset how (Int z) f h = plain_size own Nothing tt
  part_gives own value who offset how (Ptr a q) f h = plain_size own Nothing tt
  part_gives own value who offset how (Fun a) f h = plain_size own Nothing tt
  part_gives own value who offset how Missing f h = plain_size own Nothing tt
  part_gives own value who offset how Nothing f h = plain_size own Nothing tt

  -- an update works on integers and pointers alone
  change_fits : (c : Change) (own : Option ℕ) → LoadFits (change_access c) own
  change_fits (change.Integer op kind work) own = tt
  change_fits (change.Pointer n subtract) own = tt

  changed_plain : (c : Change) (v : Value) (n : ℤ) → IsPlain (changed c v n)
  changed_plain (change.Integer op kind work) v n = tt
  changed_plain (change.Pointer size subtract) v n = tt

  update_gives : (own : Option ℕ) (who : Event) (c : Change) (old : Bool) (ty : CType) (p : Pointer) (n : ℤ) → Sized own (update_value rows who c old ty p n)
  update_gives own who c old ty p n =
      bind rows (HasSize own) (HasSize own) (load rows who (change_access c) ty p) (λ v. check_change rows c v n >> Give (given_back old v (changed c v n)))
      (load_gives own who (change_access c) ty p (change_fits c own))
      (λ v h. go_on rows (HasSize own) (check_change rows c v n) (λ u. Give (given_back old v (changed c v n))) (λ u. back old v h))
    where
      back : (old : Bool) (v : Value) → HasSize own v → HasSize own (given_back old v (changed c v n))
      back true v h = h
      back false v h = plain_size own (changed c v n) (changed_plain c v n)

  unplaced_size : (own : Option ℕ) (v : Value) → HasSize own v → HasSize own (unplaced v)
  unplaced_size None v h = tt
  unplaced_size (Some n) (Whole bs source) h = h
  unplaced_size (Some n) (Int z) h = tt
  unplaced_size (Some n) (Ptr a q) h = tt
  unplaced_size (Some n) (Fun a) h = tt
  unplaced_size (Some n) Missing h = tt
  unplaced_size (Some n) Nothing h = tt

  call_gives : (own : Option ℕ) (discarded : Bool) (v : Value) → HasSize own v → Sized own (call_value discarded v)
  call_gives own false Missing h = tt
  call_gives own true v h = unplaced_size own v h
  call_gives own false (Whole bs source) h = unplaced_size own (Whole bs source) h
  call_gives own false (Int z) h = unplaced_size own (Int z) h
  call_gives own false (Ptr a q) h = unplaced_size own (Ptr a q) h
  call_gives own false (Fun a) h = unplaced_size own (Fun a) h
  call_gives own false Nothing h = unplaced_size own Nothing h

  module _ (size : Sizes) (es : Exprs) (vs : List Value) (operands : (i : ℕ) → HasSize (size_at size es i) (value_at vs i))
      (last : HasSize (last_size size es) (last_value vs)) where
    chosen : (own : Option ℕ) (b : Bool) (i j : ℕ) → Keeps (size_at size es i) own → Keeps (size_at size es j) own
        → HasSize own (if b then value_at vs i else value_at vs j)
    chosen own true i j f g = keeps_size (size_at size es i) own (value_at vs i) f (operands i)
    chosen own false i j f g = keeps_size (size_at size es j) own (value_at vs j) g (operands j)

    -- what an event gives
    pub act_gives : (who : Event) (h : Head) (ty object : CType) (k : Kind) (own : Value) → NodeFits size h ty es → HasSize (size ty) own
        → Sized (size ty) (act_of rows who h object k vs own)
    act_gives who (Load how) ty object Val own f o = load_gives (size ty) who how object (pointer_of (value_at vs 0)) f
    act_gives who (Conv c) ty object Val own f o = sized (size ty) _ (convert_plain who c (value_at vs 0))
    act_gives who (Un op) ty object Val own f o = sized (size ty) _ (unary_plain op (value_at vs 0))
    act_gives who (Bin op kind) ty object Val own f o =
        sized (size ty) _ (int_plain (operated op kind (integer_of (value_at vs 0)) (integer_of (value_at vs 1))))
    act_gives who (PtrAdd n subtract) ty object Val own f o =
        sized (size ty) _ (shifted_plain (pointer_of (value_at vs 0)) (distance n subtract (integer_of (value_at vs 1))))
    act_gives who (PtrDiff n) ty object Val own f o = sized (size ty) _ (difference_plain n (pointer_of (value_at vs 0)) (pointer_of (value_at vs 1)))
    act_gives who (Rel op pointers) ty object Val own f o = sized (size ty) _ (relational_plain op pointers (value_at vs 0) (value_at vs 1))
    act_gives who (Eq op) ty object Val own f o = plain_size (size ty) (equal op (value_at vs 0) (value_at vs 1))
        (equal_plain op (value_at vs 0) (value_at vs 1))
    act_gives who (Member offset) ty object Val own f o = sized (size ty) _ (member_plain offset (pointer_of (value_at vs 0)))
    act_gives who (Part offset how) ty object Val own f o = part_gives (size ty) (size_at size es 0) who offset how (value_at vs 0) f (operands 0)
    act_gives who (Assign first how) ty object Val own f o = keeps_size (size_at size es 1) (size ty) (value_at vs 1) f.1 (operands 1)
    act_gives who (Assign first how) ty object Eff own f o = sized (size ty) _ (put_plain first how object (pointer_of (value_at vs 0)) (value_at vs 1))
    act_gives who (Update c old) ty object Val own f o = update_gives (size ty) who c old object (pointer_of (value_at vs 0)) (amount old vs)
    act_gives who (Update c old) ty object Eff own f o =
        sized (size ty) _ (put_plain false (change_access c) object (pointer_of (value_at vs 0)) (new_value c old own (amount old vs)))
    act_gives who And ty object Val own f o = plain_size (size ty) (bool_value (truth (value_at vs 0) && truth (value_at vs 1))) tt
    act_gives who Or ty object Val own f o = plain_size (size ty) (bool_value (truth (value_at vs 0) || truth (value_at vs 1))) tt
    act_gives who Cond ty object Val own f o = chosen (size ty) (truth (value_at vs 0)) 1 2 f.0 f.1
    act_gives who Comma ty object Val own f o = keeps_size (last_size size es) (size ty) (last_value vs) f last
    act_gives who (Call discarded) ty object Val own f o = call_gives (size ty) discarded own o
    act_gives who (Listed slot fillings) ty object Eff own f o = sized (size ty) _ (fill_plain (pointer_of (value_at vs 0)) fillings)
    act_gives who _ ty object _ own f o = plain_size (size ty) Nothing tt
