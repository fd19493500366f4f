-- The accesses of an event's act lie in its reach.
use Rattle.std.proofs.Common.{◌≡◌, ℕ, zero, suc, ◌+◌, ◌-◌, ◌/◌, ◌≤◌, Bool, true, false, not, ◌&&◌, ◌||◌, if◌then◌else◌, List, [], ◌∷◌, length, Option}
use Rattle.std.proofs.Common.{Some, None, is_some, refl, sym, ap, subst, inl, inr, arith}
use Rattle.std.proofs.lemmas.Bool.Decides.{nat_tests}
use Rattle.std.specs.Prelude.{◌==◌, ◌^◌, nat_le, ℤ, pos, ◌+ℤ◌, ◌-ℤ◌, unsigned_abs, Result, Ok, Err}
use Rattle.ub_base.specs.declared.clause.Kind.{Kind}
use Rattle.ub_base.specs.declared.clause.Kind.TheVariants.{Val, Eff}
use Rattle.ub_base.specs.declared.clause.Clause.{Clause}
use Rattle.ub_base.specs.declared.clause.Clause.TheVariants.{InvalidPointer, OutOfBounds, DeadObject, EffectiveType, OverlappingAssignment, Indeterminate}
use Rattle.ub_base.specs.declared.clause.Clause.TheVariants.{TrapRepresentation, PointerAlignment, PointerDifference, PointerComparison, StoreToLiteral}
use Rattle.ub_base.specs.declared.clause.Clause.TheVariants.{StoreToConst}
use Rattle.ub_base.specs.declared.names.Event.{Event}
use Rattle.ub_base.specs.declared.names.ObjName.{ObjName}
use Rattle.ub_base.specs.declared.names.Item.{Item}
use Rattle.ub_base.specs.declared.names.Item.TheVariants.{Read, Write, Born, Dies, Alive, Expose, Lookup, Narrow, Input, Output, Ending, Any}
use Rattle.addr_map.specs.declared.map.Row.{Row}
use Rattle.addr_map.specs.Rows.{row_of}
use Rattle.exposure.specs.declared.prov.Prov.{Prov}
use Rattle.exposure.specs.declared.prov.Prov.TheVariants as prov
use Rattle.exposure.specs.Choice.{chosen}
use Rattle.c_types.specs.declared.kind.IntKind.{IntKind}
use Rattle.c_types.specs.declared.kind.IntKind.TheVariants.{ULong}
use Rattle.c_types.specs.Types.{CType, int}
use Rattle.c_types.specs.Shapes.{Form}
use Rattle.c_arith.specs.Operators.{negated, conv, bits}
use Rattle.c_typed.specs.declared.tree.Access.{Access}
use Rattle.c_typed.specs.declared.tree.Access.TheVariants as access
use Rattle.c_typed.specs.declared.tree.Change.{Change}
use Rattle.c_typed.specs.declared.tree.Change.TheVariants as change
use Rattle.c_typed.specs.declared.tree.Conversion.{Conversion}
use Rattle.c_typed.specs.declared.tree.Conversion.TheVariants as conversion
use Rattle.c_typed.specs.declared.tree.UnOp.{UnOp}
use Rattle.c_typed.specs.declared.tree.UnOp.TheVariants as unary
use Rattle.c_typed.specs.declared.tree.RelOp.{RelOp}
use Rattle.mem_spec.specs.Store.{TaggedByte, Life, is_live}
use Rattle.mem_spec.specs.Agreement.{bytes_of_kind}
use Rattle.mem_spec.specs.Script.{Ask, Get, Put, Find, Settle, Script, Give, Raise, ◌>>=◌, ◌>>◌, require, touch}
use Rattle.mem_spec.specs.Acts.{Accessed, Seen, scalar, whole, bytes, in_row, offset_in, is_aligned, declared_of, is_literal, is_constant, suits_load}
use Rattle.mem_spec.specs.Acts.{suits_store, stored_from, check_writable, object_of, in_bounds, access as access_act, store, shift, base_in}
use Rattle.mem_spec.specs.Acts.{settle_by, all_written, show_each, show_pieces, origins_in, value_of, is_trap, number_of, load_int, load_func, load_ptr}
use Rattle.mem_spec.specs.Acts.{load_block, from_int, some_live, target_lives, candidates, pointer_or_number, pointer_in, retagged, settle_to}
use Rattle.mem_spec.specs.Acts.{settle_common, in_common, less, diff, is_multiple, expose}
use Rattle.mem_spec.specs.Bytes.{number_bytes, pointer_bytes, low_bits}
use Rattle.c_model.specs.Values.{Value, Int, Ptr, Fun, Missing, Nothing, Pointer, null, pointer_value, integer_of, pointer_of, function_in, value_at}
use Rattle.c_model.specs.Values.{address_after, truth, int_bytes, part_bytes, moved_source}
use Rattle.c_model.specs.Values as values
use Rattle.c_model.specs.Program.{Filling, Head, Load, Conv, Un, Bin, PtrAdd, PtrDiff, Rel, Eq, Member, Part, Assign, Update, And, Or, Cond, Comma, Call}
use Rattle.c_model.specs.Program.{Listed}
use Rattle.c_model.specs.Nodes.{bool_value, outcome, int_outcome, load, put_whole, put, overlap_inexactly, convert, unary_value, operated, in_order}
use Rattle.c_model.specs.Nodes.{relational, distance, shifted, difference, is_empty, member, part_pointer, read_part, width_of, part_of, amount, worked}
use Rattle.c_model.specs.Nodes.{changed, check_change, change_access, given_back, update_value, new_value, call_value, content_bytes, fill, act_of}
use Rattle.value_laws.specs.Sizes.{HasBytes}
use Rattle.static_laws.proofs.Scripts.{Post, Anything, NoAccess, bind, go_on, weaken, post_map, need, needs, when}
use Rattle.static_laws.proofs.Reach.{Site, Reach, reach, Until, AtSite, Touches, InReach, Points, Found, store_limit, reach_by}

abbrev pub Quiet : {V : Type 0} → Script V → Type 0
Quiet x = Post NoAccess Anything x

-- acts without an access
shows_quiet : (xs : List ObjName) → Quiet (show_each xs)
shows_quiet [] = tt
shows_quiet (x ∷ xs) = (tt, λ r. shows_quiet xs)

pieces_quiet : (ds : List TaggedByte) → Quiet (show_pieces ds)
pieces_quiet [] = tt
pieces_quiet (d ∷ ds) = go_on NoAccess Anything (show_each (origins_in d.byte)) (λ u. show_pieces ds) (shows_quiet (origins_in d.byte)) (λ u. pieces_quiet ds)

find_quiet : (who : Event) (a : ℕ) → Quiet (from_int who a)
find_quiet who a = when NoAccess Anything (a == 0) (Give prov.Empty) (touch (Find a) >>= (λ at. Give (chosen at.0 at.1 who))) tt (tt, λ r. tt)

live_quiet : (xs : List ObjName) → Quiet (some_live xs)
live_quiet [] = tt
live_quiet (x ∷ xs) = (tt, λ life. go_on NoAccess Anything (some_live xs) (λ rest. Give (is_live life || rest)) (live_quiet xs) (λ v. tt))

target_quiet : (p : Prov) → Quiet (target_lives p)
target_quiet prov.Empty = tt
target_quiet (prov.Whole x) = go_on NoAccess Anything (some_live (candidates (prov.Whole x))) (λ ok. require ok DeadObject)
    (live_quiet (candidates (prov.Whole x))) (λ ok. needs NoAccess ok DeadObject)
target_quiet (prov.Either d x y) = go_on NoAccess Anything (some_live (candidates (prov.Either d x y))) (λ ok. require ok DeadObject)
    (live_quiet (candidates (prov.Either d x y))) (λ ok. needs NoAccess ok DeadObject)

pointer_quiet : (who : Event) (o : Option Prov) (a : ℕ) → Quiet (pointer_or_number who o a)
pointer_quiet who (Some p) a = go_on NoAccess Anything (target_lives p) (λ u. Give (a, p)) (target_quiet p) (λ u. tt)
pointer_quiet who None a = go_on NoAccess Anything (from_int who a) (λ p. Give (a, p)) (find_quiet who a) (λ u. tt)

settle_quiet : (a b : Bool) (id : Event) (past start : ObjName) (c : Clause) → Quiet (settle_by a b id past start c)
settle_quiet true true id past start c = tt
settle_quiet true false id past start c = (tt, λ u. tt)
settle_quiet false true id past start c = (tt, λ u. tt)
settle_quiet false false id past start c = tt

settle_to_quiet : (p : Prov) (x : ObjName) (c : Clause) → Quiet (settle_to p x c)
settle_to_quiet (prov.Either id past start) x c = (tt, λ u. tt)
settle_to_quiet prov.Empty x c = tt
settle_to_quiet (prov.Whole y) x c = tt

common_quiet : (xs : List ObjName) (p q : Prov) (c : Clause) → Quiet (settle_common xs p q c)
common_quiet [] p q c = tt
common_quiet (x ∷ []) p q c = go_on NoAccess Anything (settle_to p x c) (λ u. settle_to q x c) (settle_to_quiet p x c) (λ u. settle_to_quiet q x c)
common_quiet (x ∷ y ∷ ys) p q c = tt

shift_quiet : (rows : List Row) (a : ℕ) (p : Prov) (by : ℤ) → Quiet (shift rows a p by)
shift_quiet rows a prov.Empty by = tt
shift_quiet rows a (prov.Whole x) by = need NoAccess Anything (in_bounds (row_of rows x) (pos a +ℤ by)) OutOfBounds (Give (pos a +ℤ by)) (λ h. tt)
shift_quiet rows a (prov.Either id past start) by =
    go_on NoAccess Anything (settle_by (in_bounds (row_of rows past) (pos a +ℤ by)) (in_bounds (row_of rows start) (pos a +ℤ by)) id past start OutOfBounds)
    (λ u. Give (pos a +ℤ by))
    (settle_quiet (in_bounds (row_of rows past) (pos a +ℤ by)) (in_bounds (row_of rows start) (pos a +ℤ by)) id past start OutOfBounds) (λ u. tt)

expose_quiet : (p : Prov) → Quiet (expose p)
expose_quiet p = shows_quiet (candidates p)

convert_quiet : (who : Event) (c : Conversion) (v : Value) → Quiet (convert who c v)
convert_quiet who (conversion.Integer k) v = tt
convert_quiet who (conversion.Address k) v =
    go_on NoAccess Anything (expose (pointer_of v).prov) (λ u. Give (Int (conv k (pos (pointer_of v).address)))) (expose_quiet (pointer_of v).prov) (λ u. tt)
convert_quiet who conversion.NotNull v = tt
convert_quiet who conversion.Lookup v =
    go_on NoAccess Anything (from_int who (bits ULong (integer_of v))) (λ p. Give (Ptr (bits ULong (integer_of v)) p))
    (find_quiet who (bits ULong (integer_of v))) (λ u. tt)
convert_quiet who (conversion.Pointer align) v = need NoAccess Anything (is_aligned align (pointer_of v).address) PointerAlignment
    (Give (pointer_value (pointer_of v))) (λ h. tt)
convert_quiet who conversion.Function v = tt

outcome_quiet : (r : Result ℤ Clause) → Quiet (outcome r)
outcome_quiet (Ok z) = tt
outcome_quiet (Err c) = tt

int_outcome_quiet : (r : Result ℤ Clause) → Quiet (int_outcome r)
int_outcome_quiet (Ok z) = tt
int_outcome_quiet (Err c) = tt

unary_quiet : (op : UnOp) (v : Value) → Quiet (unary_value op v)
unary_quiet (unary.Minus k) v = int_outcome_quiet (negated k (conv k (integer_of v)))
unary_quiet (unary.Complement k) v = tt
unary_quiet unary.Not v = tt

less_quiet : (p q : Prov) → Quiet (less p q)
less_quiet p q = common_quiet (in_common (candidates p) (candidates q)) p q PointerComparison

diff_quiet : (a : ℕ) (p : Prov) (b : ℕ) (q : Prov) (size : ℕ) → Quiet (diff a p b q size)
diff_quiet a p b q size =
    need NoAccess Anything (is_multiple size a b) PointerDifference (settle_common (in_common (candidates p) (candidates q)) p q PointerDifference)
    (λ h. common_quiet (in_common (candidates p) (candidates q)) p q PointerDifference)

relational_quiet : (op : RelOp) (pointers : Bool) (v w : Value) → Quiet (relational op pointers v w)
relational_quiet op true v w =
    go_on NoAccess Anything (less (pointer_of v).prov (pointer_of w).prov) (λ u. Give
    (bool_value (in_order op (pos (pointer_of v).address) (pos (pointer_of w).address))))
    (less_quiet (pointer_of v).prov (pointer_of w).prov) (λ u. tt)
relational_quiet op false v w = tt

shifted_quiet : (rows : List Row) (p : Pointer) (by : ℤ) → Quiet (shifted rows p by)
shifted_quiet rows p by = go_on NoAccess Anything (shift rows p.address p.prov by) (λ z. Give (Ptr (unsigned_abs z) p.prov))
    (shift_quiet rows p.address p.prov by) (λ u. tt)

difference_quiet : (size : ℕ) (p q : Pointer) → Quiet (difference size p q)
difference_quiet size p q =
    go_on NoAccess Anything (diff p.address p.prov q.address q.prov size) (λ u. Give (Int (pos (p.address / size) -ℤ pos (q.address / size))))
    (diff_quiet p.address p.prov q.address q.prov size) (λ u. tt)

member_quiet : (rows : List Row) (offset : ℕ) (p : Pointer) → Quiet (member rows offset p)
member_quiet rows offset p =
    need NoAccess Anything (not ((p.address == 0) || is_empty p.prov)) InvalidPointer (shifted rows p (pos offset)) (λ h. shifted_quiet rows p (pos offset))

part_pointer_quiet : (who : Event) (o : Option Prov) (a : ℕ) → Quiet (part_pointer who o a)
part_pointer_quiet who (Some p) a = tt
part_pointer_quiet who None a = go_on NoAccess Anything (from_int who a) (λ p. Give (Ptr a p)) (find_quiet who a) (λ u. tt)

abbrev part_shown : IntKind → List TaggedByte → Script Value
part_shown k ds = show_pieces ds >> Give (Int (value_of k (number_of ds)))

read_quiet : (who : Event) (how : Access) (ds : List TaggedByte) (source : Option ℕ) → Quiet (read_part who how ds source)
read_quiet who (access.Integer k) ds source =
    need NoAccess Anything (all_written ds) Indeterminate (require (not (is_trap k (number_of ds))) TrapRepresentation >> part_shown k ds)
    (λ h. need NoAccess Anything (not (is_trap k (number_of ds))) TrapRepresentation (part_shown k ds)
    (λ g. go_on NoAccess Anything (show_pieces ds) (λ u. Give (Int (value_of k (number_of ds)))) (pieces_quiet ds) (λ u. tt)))
read_quiet who access.Pointer ds source =
    need NoAccess Anything (all_written ds) Indeterminate (part_pointer who (pointer_in ds) (number_of ds))
    (λ h. part_pointer_quiet who (pointer_in ds) (number_of ds))
read_quiet who access.Function ds source =
    need NoAccess Anything (all_written ds) Indeterminate (show_pieces ds >> Give (Fun (number_of ds)))
    (λ h. go_on NoAccess Anything (show_pieces ds) (λ u. Give (Fun (number_of ds))) (pieces_quiet ds) (λ u. tt))
read_quiet who (access.Whole size align) ds source = tt

part_quiet : (who : Event) (offset : ℕ) (how : Access) (v : Value) → Quiet (part_of who offset how v)
part_quiet who offset how (values.Whole ds source) = read_quiet who how (part_bytes offset (width_of how) ds) (moved_source offset source)
part_quiet who offset how _ = tt

check_quiet : (rows : List Row) (c : Change) (v : Value) (n : ℤ) → Quiet (check_change rows c v n)
check_quiet rows (change.Integer op kind work) v n = outcome_quiet (worked (change.Integer op kind work) v n)
check_quiet rows (change.Pointer size subtract) v n = shift_quiet rows (pointer_of v).address (pointer_of v).prov (distance size subtract n)

call_value_quiet : (b : Bool) (v : Value) → Quiet (call_value b v)
call_value_quiet false Missing = tt
call_value_quiet true _ = tt
call_value_quiet false _ = tt

writable_quiet : (b : Bool) (life : Option Life) → Quiet (check_writable b life)
writable_quiet true life = tt
writable_quiet false life =
    need NoAccess Anything (not (is_literal life)) StoreToLiteral (require (not (is_constant life)) StoreToConst)
    (λ h. needs NoAccess (not (is_constant life)) StoreToConst)

-- what has no access lies in every reach
pub quiet_in : (rows : List Row) (o : Option Reach) (i : Item) → NoAccess i → InReach rows o i
quiet_in rows o (Read x a n) h = absurd h
quiet_in rows o (Write x a n) h = absurd h
quiet_in rows None (Born x) h = tt
quiet_in rows None (Dies x) h = tt
quiet_in rows None (Alive x) h = tt
quiet_in rows None (Expose x) h = tt
quiet_in rows None (Lookup a) h = tt
quiet_in rows None (Narrow e x) h = tt
quiet_in rows None Input h = tt
quiet_in rows None Output h = tt
quiet_in rows None Ending h = tt
quiet_in rows None Any h = tt
quiet_in rows (Some r) (Born x) h = tt
quiet_in rows (Some r) (Dies x) h = tt
quiet_in rows (Some r) (Alive x) h = tt
quiet_in rows (Some r) (Expose x) h = tt
quiet_in rows (Some r) (Lookup a) h = tt
quiet_in rows (Some r) (Narrow e x) h = tt
quiet_in rows (Some r) Input h = tt
quiet_in rows (Some r) Output h = tt
quiet_in rows (Some r) Ending h = tt
quiet_in rows (Some r) Any h = tt

module _ (rows : List Row) where
  abbrev pub Within : {V : Type 0} → Option Reach → Script V → Type 0
  Within o x = Post (InReach rows o) Anything x

  pub unaccessed : {V : Type 0} → (o : Option Reach) (x : Script V) → Quiet x → Within o x
  unaccessed o x h = weaken NoAccess (InReach rows o) Anything x (quiet_in rows o) h

  -- the object of an access
  abbrev Object : Option Site → ObjName → Type 0
  Object None x = Unit {0}
  Object (Some s) x = x ≡ s.0

  abbrev aligned_at : ℕ → ℕ → ObjName → Option Life → Script Accessed
  aligned_at align a x life = require (is_aligned align a) InvalidPointer >> Give (record { object = x; from = offset_in (row_of rows x) a; life = life })

  abbrev bounded_at : ℕ → ℕ → ℕ → ObjName → Option Life → Script Accessed
  bounded_at len align a x life = require (in_row (row_of rows x) a len) OutOfBounds >> aligned_at align a x life

  abbrev asked_at : ℕ → ℕ → ℕ → ObjName → Script Accessed
  asked_at len align a x = touch (Ask x) >>= (λ life. require (is_live life) DeadObject >> bounded_at len align a x life)

  there : (o : Option Row) (a len : ℕ) → in_row o a len ≡ true → is_some o ≡ true
  there None a len h = h
  there (Some r) a len h = refl

  at_offset : (o : Option Row) (offset len : ℕ) → in_row o (base_in o + offset) len ≡ true → offset_in o (base_in o + offset) ≡ offset
  at_offset None offset len h = absurd (cc)
  at_offset (Some r) offset len h = omega arith

  -- behind the question which object it is
  asked_found : (site : Option Site) (len align a : ℕ) (Q : Accessed → Type 0)
      → (x : ObjName) → ((life : Option Life) → in_row (row_of rows x) a len ≡ true →
      Q (record { object = x; from = offset_in (row_of rows x) a; life = life }))
      → Post NoAccess Q (asked_at len align a x)
  asked_found site len align a Q x f = (
    tt,
    λ life. need NoAccess Q (is_live life) DeadObject (bounded_at len align a x life)
        (λ h. need NoAccess Q (in_row (row_of rows x) a len) OutOfBounds (aligned_at align a x life)
        (λ g. need NoAccess Q (is_aligned align a) InvalidPointer (Give (record { object = x; from = offset_in (row_of rows x) a; life = life }))
        (λ k. f life g))),
  )

  object_quiet : (len a : ℕ) (p : Prov) → Quiet (object_of rows len a p)
  object_quiet len a prov.Empty = tt
  object_quiet len a (prov.Whole x) = tt
  object_quiet len a (prov.Either id past start) =
      when NoAccess Anything (in_row (row_of rows past) a len) (touch (Settle id past OutOfBounds) >> Give past)
      (if in_row (row_of rows start) a len then touch (Settle id start OutOfBounds) >> Give start else Raise OutOfBounds) (tt, λ r. tt)
      (when NoAccess Anything (in_row (row_of rows start) a len) (touch (Settle id start OutOfBounds) >> Give start) (Raise OutOfBounds) (tt, λ r. tt) tt)

  -- any access, by what holds of the object that it finds
  access_by : (len align a : ℕ) (Q : Accessed → Type 0) (p : Prov)
      → ((x : ObjName) (life : Option Life) → in_row (row_of rows x) a len ≡ true → Q (record { object = x; from = offset_in (row_of rows x) a; life = life }))
      → Post NoAccess Q (access_act rows len align a p)
  access_by len align a Q p f =
      need NoAccess Q (not (a == 0)) InvalidPointer (object_of rows len a p >>= asked_at len align a)
      (λ h. bind NoAccess Anything Q (object_of rows len a p) (asked_at len align a) (object_quiet len a p)
      (λ x u. asked_found None len align a Q x (f x)))

  access_whole : (len align a : ℕ) (Q : Accessed → Type 0) (x : ObjName)
      → ((life : Option Life) → in_row (row_of rows x) a len ≡ true → Q (record { object = x; from = offset_in (row_of rows x) a; life = life }))
      → Post NoAccess Q (access_act rows len align a (prov.Whole x))
  access_whole len align a Q x f =
      need NoAccess Q (not (a == 0)) InvalidPointer (Give x >>= asked_at len align a) (λ h. asked_found None len align a Q x f)

  pub access_found : (site : Option Site) (len align : ℕ) (p : Pointer) → Points rows site p → Post NoAccess (Found rows site)
      (access_act rows len align p.address p.prov)
  access_found None len align p h = access_by len align p.address (Found rows None) p.prov (λ x life g. (there (row_of rows x) p.address len g, tt))
  access_found (Some s) len align p (inl e) =
      subst (λ z. Post NoAccess (Found rows (Some s)) (access_act rows len align z.address z.prov)) (sym e) tt
  access_found (Some s) len align p (inr e) =
      subst (λ z. Post NoAccess (Found rows (Some s)) (access_act rows len align z.address z.prov)) (sym e)
      (access_whole len align (base_in (row_of rows s.0) + s.1) (Found rows (Some s)) s.0
      (λ life g. (there (row_of rows s.0) _ len g, (refl, at_offset (row_of rows s.0) s.1 len g))))

  -- what was found lies in the reach
  found_in : (site : Option Site) (at : Accessed) (n : ℕ) (limit : Option ℕ) → Found rows site at → ((o : ℕ) → Until limit o (o + n))
      → AtSite site limit at.object at.from n
  found_in None at n limit f k = tt
  found_in (Some s) at n limit f k =
      (f.1.0, (subst (λ z. s.1 ≤ z) (sym f.1.1) (omega arith), subst (λ z. Until limit s.1 (z + n)) (sym f.1.1) (k s.1)))

  -- an access goes on with the bytes of its range
  accessed : {V : Type 0} → (o : Option Reach) (site : Option Site) (len align : ℕ) (p : Pointer) (k : Accessed → Script V) → Points rows site p
      → ((at : Accessed) → Found rows site at → Within o (k at)) → Within o (access_act rows len align p.address p.prov >>= k)
  accessed o site len align p k h g =
      bind (InReach rows o) (Found rows site) Anything (access_act rows len align p.address p.prov) k
      (weaken NoAccess (InReach rows o) (Found rows site) (access_act rows len align p.address p.prov) (quiet_in rows o) (access_found site len align p h)) g

  exactly : (n o : ℕ) → Until (Some n) o (o + n)
  exactly n o = omega arith

  -- loads
  abbrev int_tail : IntKind → Accessed → List TaggedByte → Script ℤ
  int_tail kind at ds =
      require (suits_load (int kind) (declared_of at.life) at.from ds) EffectiveType
      >> (require (all_written ds) Indeterminate
      >> (require (not (is_trap kind (number_of ds))) TrapRepresentation >> (show_pieces ds >> Give (value_of kind (number_of ds)))))

  int_tail_quiet : (kind : IntKind) (at : Accessed) (ds : List TaggedByte) → Quiet (int_tail kind at ds)
  int_tail_quiet kind at ds =
      need NoAccess Anything (suits_load (int kind) (declared_of at.life) at.from ds) EffectiveType _
      (λ h. need NoAccess Anything (all_written ds) Indeterminate _
      (λ g. need NoAccess Anything (not (is_trap kind (number_of ds))) TrapRepresentation _
      (λ f. go_on NoAccess Anything (show_pieces ds) (λ u. Give (value_of kind (number_of ds))) (pieces_quiet ds) (λ u. tt))))

  abbrev func_tail : CType → Accessed → List TaggedByte → Script ℕ
  func_tail ty at ds =
      require (suits_load ty (declared_of at.life) at.from ds) EffectiveType
      >> (require (all_written ds) Indeterminate >> (show_pieces ds >> Give (number_of ds)))

  func_tail_quiet : (ty : CType) (at : Accessed) (ds : List TaggedByte) → Quiet (func_tail ty at ds)
  func_tail_quiet ty at ds =
      need NoAccess Anything (suits_load ty (declared_of at.life) at.from ds) EffectiveType _
      (λ h. need NoAccess Anything (all_written ds) Indeterminate _
      (λ g. go_on NoAccess Anything (show_pieces ds) (λ u. Give (number_of ds)) (pieces_quiet ds) (λ u. tt)))

  abbrev ptr_tail : CType → Event → Accessed → List TaggedByte → Script (ℕ × Prov)
  ptr_tail ty who at ds =
      require (suits_load ty (declared_of at.life) at.from ds) EffectiveType
      >> (require (all_written ds) Indeterminate >> pointer_or_number who (pointer_in ds) (number_of ds))

  ptr_tail_quiet : (ty : CType) (who : Event) (at : Accessed) (ds : List TaggedByte) → Quiet (ptr_tail ty who at ds)
  ptr_tail_quiet ty who at ds =
      need NoAccess Anything (suits_load ty (declared_of at.life) at.from ds) EffectiveType _
      (λ h. need NoAccess Anything (all_written ds) Indeterminate _ (λ g. pointer_quiet who (pointer_in ds) (number_of ds)))

  module _ (site : Option Site) (p : Pointer) (points : Points rows site p) (writes : Bool) where
    -- bytes that are read, and then what has no access
    got : {V : Type 0} → (len align : ℕ) (tail : Accessed → List TaggedByte → Script V) → ((at : Accessed) (ds : List TaggedByte) → Quiet (tail at ds))
        → Within (Some (reach writes site (Some len)))
        (access_act rows len align p.address p.prov >>= (λ at. touch (Get at.object at.from len) >>= tail at))
    got len align tail q =
        let o = Some (reach writes site (Some len)) in
        accessed o site len align p (λ at. touch (Get at.object at.from len) >>= tail at) points
        (λ at f. ((f.0, found_in site at len (Some len) f (exactly len)), λ ds. unaccessed o (tail at ds) (q at ds)))

    load_within : (who : Event) (how : Access) (ty : CType) → Within (Some (reach writes site (Some (width_of how)))) (load rows who how ty p)
    load_within who (access.Integer k) ty =
        go_on (InReach rows (Some (reach writes site (Some (bytes_of_kind k))))) Anything (load_int rows k p.address p.prov) (λ z. Give (Int z))
        (got (bytes_of_kind k) (bytes_of_kind k) (int_tail k) (int_tail_quiet k)) (λ u. tt)
    load_within who access.Pointer ty =
        go_on (InReach rows (Some (reach writes site (Some 8)))) Anything (load_ptr rows ty who 8 p.address p.prov) (λ q. Give (Ptr q.0 q.1))
        (got 8 8 (ptr_tail ty who) (ptr_tail_quiet ty who))
        (λ u. tt)
    load_within who access.Function ty =
        go_on (InReach rows (Some (reach writes site (Some 8)))) Anything (load_func rows ty p.address p.prov) (λ n. Give (Fun n))
        (got 8 8 (func_tail ty) (func_tail_quiet ty)) (λ u. tt)
    load_within who (access.Whole size align) ty =
        go_on (InReach rows (Some (reach writes site (Some size)))) Anything (load_block rows size align p.address p.prov)
        (λ ds. Give (values.Whole ds (Some p.address)))
        (got size align (λ at ds. Give (retagged (declared_of at.life) at.from ds)) (λ at ds. tt)) (λ u. tt)

    update_within : (who : Event) (c : Change) (old : Bool) (ty : CType) (n : ℤ)
        → Within (Some (reach writes site (Some (width_of (change_access c))))) (update_value rows who c old ty p n)
    update_within who c old ty n =
        let o = Some (reach writes site (Some (width_of (change_access c)))) in
        go_on (InReach rows o) Anything (load rows who (change_access c) ty p) (λ v. check_change rows c v n >> Give (given_back old v (changed c v n)))
        (load_within who (change_access c) ty)
        (λ v. unaccessed o (check_change rows c v n >> Give (given_back old v (changed c v n)))
        (go_on NoAccess Anything (check_change rows c v n) (λ w. Give (given_back old v (changed c v n))) (check_quiet rows c v n) (λ w. tt)))

  -- stores
  stored_length : (form : Option Form) (via : Seen) (i : ℕ) (bs : List TaggedByte) → length (stored_from form via i bs) ≡ length bs
  stored_length None via i [] = refl
  stored_length (Some form) via i [] = refl
  stored_length None via i (b ∷ bs) = ap suc (stored_length None via (suc i) bs)
  stored_length (Some form) via i (b ∷ bs) = ap suc (stored_length (Some form) via (suc i) bs)

  abbrev put_at : Bool → Seen → List TaggedByte → Accessed → Script (Unit {0})
  put_at first via bs at = check_writable first at.life >> touch (Put at.object at.from (stored_from (declared_of at.life) via 0 bs))

  -- where it finds the object in the reach
  abbrev Reached : Reach → List TaggedByte → Accessed → Type 0
  Reached r bs at = Touches rows r at.object at.from (length bs)

  put_at_within : (r : Reach) (first : Bool) (via : Seen) (bs : List TaggedByte) (at : Accessed) → r.writes ≡ true → Reached r bs at
      → Within (Some r) (put_at first via bs at)
  put_at_within r first via bs at w f =
      go_on (InReach rows (Some r)) Anything (check_writable first at.life) (λ u. touch (Put at.object at.from (stored_from (declared_of at.life) via 0 bs)))
      (unaccessed (Some r) (check_writable first at.life) (writable_quiet first at.life))
      (λ u. ((w, subst (λ n. Touches rows r at.object at.from n) (sym (stored_length (declared_of at.life) via 0 bs)) f), λ t. tt))

  store_by : (r : Reach) (first : Bool) (via : Seen) (align a : ℕ) (q : Prov) (bs : List TaggedByte) → r.writes ≡ true
      → Post NoAccess (Reached r bs) (access_act rows (length bs) align a q) → Within (Some r) (store rows first via align a q bs)
  store_by r first via align a q bs w h =
      bind (InReach rows (Some r)) (Reached r bs) Anything (access_act rows (length bs) align a q)
      (λ at. require (suits_store via (declared_of at.life) at.from) EffectiveType >> put_at first via bs at)
      (weaken NoAccess (InReach rows (Some r)) (Reached r bs) (access_act rows (length bs) align a q) (quiet_in rows (Some r)) h)
      (λ at f. need (InReach rows (Some r)) Anything (suits_store via (declared_of at.life) at.from) EffectiveType (put_at first via bs at)
      (λ k. put_at_within r first via bs at w f))

  store_points : (site : Option Site) (first : Bool) (via : Seen) (align : ℕ) (p : Pointer) (bs : List TaggedByte) (limit : Option ℕ) → Points rows site p
      → ((o : ℕ) → Until limit o (o + length bs)) → Within (Some (reach true site limit)) (store rows first via align p.address p.prov bs)
  store_points site first via align p bs limit h k =
      let r = reach true site limit in
      store_by r first via align p.address p.prov bs refl
      (post_map NoAccess (Found rows site) (Reached r bs) (access_act rows (length bs) align p.address p.prov)
      (λ at f. (f.0, found_in site at (length bs) limit f k)) (access_found site (length bs) align p h))

  number_length : (n k : ℕ) → length (number_bytes n k) ≡ n
  number_length zero k = refl
  number_length (suc n) k = ap suc (number_length n (k / 256))

  pointer_length : (n i : ℕ) (q : Prov) (k : ℕ) → length (pointer_bytes n i q k) ≡ n
  pointer_length zero i q k = refl
  pointer_length (suc n) i q k = ap suc (pointer_length n (suc i) q (k / 256))

  no_more : (n m : ℕ) → m ≡ n → (o : ℕ) → Until (Some n) o (o + m)
  no_more n m e o = omega (arith, e)

  -- a value that is stored has as many bytes as its type, where sizes are known
  abbrev pub StoredFits : Access → Value → Type 0
  StoredFits (access.Whole size align) v = HasBytes size v
  StoredFits how v = Unit {0}

  whole_limit : (sized : Bool) (size m : ℕ) → (sized ≡ true → m ≡ size) → (o : ℕ) → Until (if sized then Some size else None) o (o + m)
  whole_limit false size m f o = tt
  whole_limit true size m f o = (let e = f refl in omega (arith, e))

  whole_within : (site : Option Site) (sized first : Bool) (size align : ℕ) (p : Pointer) (v : Value) → Points rows site p → (sized ≡ true → HasBytes size v)
      → Within (Some (reach true site (if sized then Some size else None))) (put_whole rows first size align p v)
  whole_within site sized first size align p (values.Whole ds source) h f =
      let o = Some (reach true site (if sized then Some size else None)) in
      go_on (InReach rows o) Anything (store rows first whole align p.address p.prov ds)
      (λ u. require (not (overlap_inexactly size p.address source)) OverlappingAssignment >> Give Nothing)
      (store_points site first whole align p ds (if sized then Some size else None) h (whole_limit sized size (length ds) f))
      (λ u. need (InReach rows o) Anything (not (overlap_inexactly size p.address source)) OverlappingAssignment (Give Nothing) (λ k. tt))
  whole_within site sized first size align p _ h f = tt

  put_within : (site : Option Site) (sized first : Bool) (how : Access) (ty : CType) (p : Pointer) (v : Value) → Points rows site p
      → (sized ≡ true → StoredFits how v) → Within (Some (reach true site (store_limit sized how))) (put rows first how ty p v)
  put_within site sized first (access.Integer k) ty p v h f =
      go_on (InReach rows (Some (reach true site (Some (bytes_of_kind k))))) Anything
      (store rows first (scalar (int k)) (bytes_of_kind k) p.address p.prov (int_bytes k (integer_of v))) (λ u. Give Nothing)
      (store_points site first (scalar (int k)) (bytes_of_kind k) p (int_bytes k (integer_of v)) (Some (bytes_of_kind k)) h
      (no_more (bytes_of_kind k) _ (number_length (bytes_of_kind k) (low_bits (integer_of v))))) (λ u. tt)
  put_within site sized first access.Pointer ty p v h f =
      go_on (InReach rows (Some (reach true site (Some 8)))) Anything
      (store rows first (scalar ty) 8 p.address p.prov (pointer_bytes 8 0 (pointer_of v).prov (pointer_of v).address))
      (λ u. Give Nothing)
      (store_points site first (scalar ty) 8 p (pointer_bytes 8 0 (pointer_of v).prov (pointer_of v).address) (Some 8) h
      (no_more 8 _ (pointer_length 8 0 (pointer_of v).prov (pointer_of v).address))) (λ u. tt)
  put_within site sized first access.Function ty p v h f =
      go_on (InReach rows (Some (reach true site (Some 8)))) Anything (store rows first (scalar ty) 8 p.address p.prov (number_bytes 8 (function_in v)))
      (λ u. Give Nothing)
      (store_points site first (scalar ty) 8 p (number_bytes 8 (function_in v)) (Some 8) h (no_more 8 _ (number_length 8 (function_in v)))) (λ u. tt)
  put_within site sized first (access.Whole size align) ty p v h f = whole_within site sized first size align p v h f

  -- an update stores no structure or union
  change_stored : (c : Change) (v : Value) → StoredFits (change_access c) v
  change_stored (change.Integer op kind work) v = tt
  change_stored (change.Pointer size subtract) v = tt

  abbrev pub StoresFit : Head → List Value → Type 0
  StoresFit (Assign first how) vs = StoredFits how (value_at vs 1)
  StoresFit h vs = Unit {0}

  -- each row ends low
  abbrev pub AreLow : Type 0
  AreLow = (x : ObjName) (r : Row) → row_of rows x ≡ Some r → r.base + r.size ≤ 2 ^ 47

  module _ (low : AreLow) (x : ObjName) where
    abbrev listed_reach : Reach
    listed_reach = reach true (Some (x, 0)) (Some (2 ^ 64 - 1))

    below : (o : Option Row) (a len : ℕ) → ((r : Row) → o ≡ Some r → r.base + r.size ≤ 2 ^ 47) → in_row o a len ≡ true → offset_in o a + len ≤ 2 ^ 64 - 1
    below None a len f h = absurd (cc)
    below (Some r) a len f h = bounded r a len (f r refl) (and_left (nat_le r.base a) _ h) (and_right (nat_le r.base a) _ h)
      where
        and_left : (a b : Bool) → (a && b) ≡ true → a ≡ true
        and_left true b h = refl
        and_left false b h = h

        and_right : (a b : Bool) → (a && b) ≡ true → b ≡ true
        and_right true b h = h
        and_right false b h = absurd (cc)

        bounded : (r : Row) (a len : ℕ) → r.base + r.size ≤ 2 ^ 47 → nat_le r.base a ≡ true → nat_le (a + len) (r.base + r.size) ≡ true
            → a - r.base + len ≤ 2 ^ 64 - 1
        bounded r a len l h k =
            let h2 : r.base ≤ a = grind (arith, nat_tests, h) in
            let k2 : a + len ≤ r.base + r.size = grind (arith, nat_tests, k) in
            omega (arith, l, h2, k2)

    fill_within : (p : Pointer) (cs : List Filling) → p.prov ≡ prov.Whole x → Within (Some listed_reach) (fill rows p cs)
    fill_within p [] e = tt
    fill_within p (c ∷ cs) e =
        let bs = content_bytes rows c.content in
        let a = address_after p.address c.offset in
        go_on (InReach rows (Some listed_reach)) Anything (store rows true bytes 1 a p.prov bs) (λ u. fill rows p cs)
        (store_by listed_reach true bytes 1 a p.prov bs refl
        (subst (λ z. Post NoAccess (Reached listed_reach bs) (access_act rows (length bs) 1 a z)) (sym e)
        (access_whole (length bs) 1 a (Reached listed_reach bs) x
        (λ life h. (there (row_of rows x) a (length bs) h, (refl, (omega arith, below (row_of rows x) a (length bs) (low x) h)))))))
        (λ u. fill_within p cs e)

  -- what the list of a node names
  abbrev pub Names : Head → ObjName → List Value → Type 0
  Names (Listed slot fillings) x vs = (pointer_of (value_at vs 0)).prov ≡ prov.Whole x
  Names h x vs = Unit {0}

  module _ (low : AreLow) (site : Option Site) (sized : Bool) (x : ObjName) where
    pub act_within : (who : Event) (h : Head) (ty : CType) (k : Kind) (vs : List Value) (own : Value) → Points rows site (pointer_of (value_at vs 0))
        → Names h x vs → (sized ≡ true → StoresFit h vs) → Within (reach_by sized h site x k) (act_of rows who h ty k vs own)
    act_within who (Load how) ty Val vs own p n f = load_within site (pointer_of (value_at vs 0)) p false who how ty
    act_within who (Conv c) ty Val vs own p n f = unaccessed None _ (convert_quiet who c (value_at vs 0))
    act_within who (Un op) ty Val vs own p n f = unaccessed None _ (unary_quiet op (value_at vs 0))
    act_within who (Bin op kind) ty Val vs own p n f =
        unaccessed None _ (int_outcome_quiet (operated op kind (integer_of (value_at vs 0)) (integer_of (value_at vs 1))))
    act_within who (PtrAdd size subtract) ty Val vs own p n f =
        unaccessed None _ (shifted_quiet rows (pointer_of (value_at vs 0)) (distance size subtract (integer_of (value_at vs 1))))
    act_within who (PtrDiff size) ty Val vs own p n f =
        unaccessed None _ (difference_quiet size (pointer_of (value_at vs 0)) (pointer_of (value_at vs 1)))
    act_within who (Rel op pointers) ty Val vs own p n f = unaccessed None _ (relational_quiet op pointers (value_at vs 0) (value_at vs 1))
    act_within who (Eq op) ty Val vs own p n f = tt
    act_within who (Member offset) ty Val vs own p n f = unaccessed None _ (member_quiet rows offset (pointer_of (value_at vs 0)))
    act_within who (Part offset how) ty Val vs own p n f = unaccessed None _ (part_quiet who offset how (value_at vs 0))
    act_within who (Assign first how) ty Val vs own p n f = tt
    act_within who (Assign first how) ty Eff vs own p n f = put_within site sized first how ty (pointer_of (value_at vs 0)) (value_at vs 1) p f
    act_within who (Update c old) ty Val vs own p n f = update_within site (pointer_of (value_at vs 0)) p false who c old ty (amount old vs)
    act_within who (Update c old) ty Eff vs own p n f =
        put_within site sized false (change_access c) ty (pointer_of (value_at vs 0)) (new_value c old own (amount old vs)) p
        (λ e. change_stored c (new_value c old own (amount old vs)))
    act_within who And ty Val vs own p n f = tt
    act_within who Or ty Val vs own p n f = tt
    act_within who Cond ty Val vs own p n f = tt
    act_within who Comma ty Val vs own p n f = tt
    act_within who (Call discarded) ty Val vs own p n f = unaccessed None _ (call_value_quiet discarded own)
    act_within who (Listed slot fillings) ty Eff vs own p n f = fill_within low x (pointer_of (value_at vs 0)) fillings n
    act_within who _ ty _ vs own p n f = tt
