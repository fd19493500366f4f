-- What loads give is small, and what stores leave is, where they meet such.
use Rattle.std.proofs.Common.{arith, ◌≡◌, ◌/◌, ◌%◌, ◌<◌, ◌≤◌, ◌^◌, ℕ, zero, suc, ◌==◌, Bool, true, false, not, if◌then◌else◌}
use Rattle.std.proofs.Common.{List, [], ◌∷◌, length, map, Option, Some, None, refl, ℤ, unsigned_abs}
use Rattle.std.specs.List.{All}
use Rattle.std.proofs.lemmas.List.Elements.{All-nil, All-cons, All-head, All-tail}
use Rattle.ub_base.specs.declared.clause.Clause.{Clause}
use Rattle.ub_base.specs.declared.clause.Clause.TheVariants.{DeadObject, EffectiveType, Indeterminate, InvalidPointer, OutOfBounds, OverlappingAssignment}
use Rattle.ub_base.specs.declared.clause.Clause.TheVariants.{StoreToConst, StoreToLiteral, TrapRepresentation}
use Rattle.ub_base.specs.declared.names.Event.{Event}
use Rattle.ub_base.specs.declared.names.ObjName.{ObjName}
use Rattle.addr_map.specs.declared.map.Row.{Row}
use Rattle.addr_map.specs.Rows.{row_of}
use Rattle.exposure.specs.declared.prov.Prov.{Prov}
use Rattle.exposure.specs.declared.prov.Prov.TheVariants.{Empty, Whole, Either}
use Rattle.c_types.specs.declared.kind.IntKind.{IntKind}
use Rattle.c_types.specs.Shapes.{Form}
use Rattle.c_types.specs.Types.{CType, int}
use Rattle.c_typed.specs.declared.tree.Access.{Access}
use Rattle.c_typed.specs.declared.tree.Access.TheVariants as access
use Rattle.mem_spec.specs.Acts as acts
use Rattle.mem_spec.specs.Acts.{
  Accessed,
  Seen,
  candidates,
  check_writable,
  declared_of,
  diff,
  expose,
  from_int,
  in_bounds,
  in_common,
  in_row,
  is_constant,
  is_literal,
  less,
  load_block,
  load_func,
  load_int,
  load_ptr,
  number_of,
  object_of,
  pointer_in,
  pointer_or_number,
  retagged,
  settle_by,
  settle_common,
  settle_to,
  shift,
  show_each,
  show_pieces,
  some_live,
  store,
  stored_from,
  target_lives,
}
use Rattle.mem_spec.specs.Agreement.{bytes_of_kind}
use Rattle.mem_spec.specs.Bytes.{low_bits, number_bytes, pointer_bytes}
use Rattle.exposure.specs.Choice.{chosen}
use Rattle.mem_spec.specs.Script.{Script, Give, Raise, Ask, Find, Get, Put, Settle, ◌>>=◌, ◌>>◌, require, touch}
use Rattle.mem_spec.specs.Store.{Life, TaggedByte, is_live}
use Rattle.c_model.specs.Nodes as nodes
use Rattle.c_model.specs.Nodes.{
  act_of,
  amount,
  bool_value,
  call_value,
  changed,
  check_change,
  content_bytes,
  convert,
  difference,
  distance,
  equal,
  fill,
  given_back,
  int_outcome,
  last_value,
  load,
  member,
  new_value,
  part_pointer,
  plain_byte,
  put,
  put_whole,
  read_part,
  relational,
  shifted,
  unary_value,
  update_value,
}
use Rattle.c_model.specs.Program as model
use Rattle.c_model.specs.Program.{Content, Filling, Head}
use Rattle.c_model.specs.Values.{Value, Int, Ptr, Fun, Missing, Nothing, Pointer, address_after, integer_of, part_bytes, pointer_of, pointer_value}
use Rattle.c_model.specs.Values.{unplaced, value_at}
use Rattle.c_model.specs.Values as values
use Rattle.value_facts.specs.Small.{AreSmallFillings, IsSmall, IsSmallByte, IsSmallContent}
use Rattle.value_facts.proofs.Numbers.{eight_below}
use Rattle.value_facts.proofs.Numbers.{value_of_small}
use Rattle.value_facts.proofs.Scripts.{Any, GivesSo, after_so, require_so, then_so}

-- where this is required
pub require_then : {B : Type 0} (Q : B → Type 0) (b : Bool) (c : Clause) (t : Script B) → (b ≡ true → GivesSo Q t) → GivesSo Q (require b c >> t)
require_then Q true c t h = h refl
require_then Q false c t h = tt

-- ---- accesses
pub object_so : (rows : List Row) (len a : ℕ) (p : Prov) → GivesSo Any (object_of rows len a p)
object_so rows len a Empty = tt
object_so rows len a (Whole x) = tt
object_so rows len a (Either id past start) = go (in_row (row_of rows past) a len) (in_row (row_of rows start) a len)
  where
    go : (b c : Bool) → GivesSo Any (if b then touch (Settle id past OutOfBounds) >> Give past
        else (if c then touch (Settle id start OutOfBounds) >> Give start else Raise OutOfBounds))
    go true c = (tt, λ a g. tt)
    go false true = (tt, λ a g. tt)
    go false false = tt

module _ (rows : List Row) (len align a : ℕ) where
  abbrev pub accessed : ObjName → Option Life → Script Accessed
  accessed x life = Give (record { object = x; from = acts.offset_in (row_of rows x) a; life = life })

  abbrev pub aligned : ObjName → Option Life → Script Accessed
  aligned x life = require (acts.is_aligned align a) InvalidPointer >> accessed x life

  abbrev pub in_object : ObjName → Option Life → Script Accessed
  in_object x life = require (in_row (row_of rows x) a len) OutOfBounds >> aligned x life

  abbrev pub alive : ObjName → Option Life → Script Accessed
  alive x life = require (is_live life) DeadObject >> in_object x life

  abbrev pub seen : Prov → Script Accessed
  seen p = object_of rows len a p >>= (λ x. touch (Ask x) >>= (λ life. alive x life))

  pub alive_so : (x : ObjName) (life : Option Life) → GivesSo Any (alive x life)
  alive_so x life =
      require_then Any (is_live life) DeadObject (in_object x life) (λ e.
      require_then Any (in_row (row_of rows x) a len) OutOfBounds (aligned x life) (λ f.
      require_then Any (acts.is_aligned align a) InvalidPointer (accessed x life) (λ g. tt)))

  pub access_so : (p : Prov) → GivesSo Any (acts.access rows len align a p)
  access_so p =
      require_then Any (not (a == 0)) InvalidPointer (seen p) (λ e.
      then_so Any Any (object_of rows len a p) (λ x. touch (Ask x) >>= (λ life. alive x life)) (object_so rows len a p)
      (λ x any. (tt, λ life g. alive_so x life)))

pub show_each_so : (xs : List ObjName) → GivesSo Any (show_each xs)
show_each_so [] = tt
show_each_so (x ∷ xs) = (tt, λ a g. show_each_so xs)

pub show_pieces_so : (bs : List TaggedByte) → GivesSo Any (show_pieces bs)
show_pieces_so [] = tt
show_pieces_so (b ∷ bs) = after_so Any (show_each (acts.origins_in b.byte)) (show_pieces bs) (show_each_so (acts.origins_in b.byte)) (show_pieces_so bs)

pub from_int_so : (who : Event) (a : ℕ) → GivesSo Any (from_int who a)
from_int_so who a = go (a == 0)
  where
    go : (b : Bool) → GivesSo Any (if b then Give Empty else (touch (Find a) >>= (λ at. Give (chosen at.0 at.1 who))))
    go true = tt
    go false = (tt, λ at g. tt)

pub some_live_so : (xs : List ObjName) → GivesSo Any (some_live xs)
some_live_so [] = tt
some_live_so (x ∷ xs) = (tt, λ life g. then_so Any Any (some_live xs) _ (some_live_so xs) (λ rest any. tt))

pub lives_so : (p : Prov) → GivesSo Any (target_lives p)
lives_so Empty = tt
lives_so (Whole x) = then_so Any Any (some_live (candidates (Whole x))) _ (some_live_so (candidates (Whole x))) (λ ok any. require_so ok DeadObject)
lives_so (Either id x y) =
    then_so Any Any (some_live (candidates (Either id x y))) _ (some_live_so (candidates (Either id x y))) (λ ok any. require_so ok DeadObject)

-- ---- loads
abbrev pub IsFew : ℤ → Type 0
IsFew z = unsigned_abs z < 2 ^ 64

module _ (kind : IntKind) (at : Accessed) (bs : List TaggedByte) where
  abbrev pub shown_int : Script ℤ
  shown_int = show_pieces bs >> Give (acts.value_of kind (number_of bs))

  abbrev pub untrapped_int : Script ℤ
  untrapped_int = require (not (acts.is_trap kind (number_of bs))) TrapRepresentation >> shown_int

  abbrev pub written_int : Script ℤ
  written_int = require (acts.all_written bs) Indeterminate >> untrapped_int

  abbrev pub loaded_int : Script ℤ
  loaded_int = require (acts.suits_load (int kind) (declared_of at.life) at.from bs) EffectiveType >> written_int

  pub untrapped_so : length bs ≤ bytes_of_kind kind → All IsSmallByte bs → GivesSo IsFew untrapped_int
  untrapped_so l h =
      require_then IsFew (not (acts.is_trap kind (number_of bs))) TrapRepresentation shown_int (λ e.
      after_so IsFew (show_pieces bs) (Give (acts.value_of kind (number_of bs))) (show_pieces_so bs) (value_of_small kind bs l h))

  pub written_so : length bs ≤ bytes_of_kind kind → All IsSmallByte bs → GivesSo IsFew written_int
  written_so l h = require_then IsFew (acts.all_written bs) Indeterminate untrapped_int (λ e. untrapped_so l h)

  pub loaded_so : length bs ≤ bytes_of_kind kind → All IsSmallByte bs → GivesSo IsFew loaded_int
  loaded_so l h =
      require_then IsFew (acts.suits_load (int kind) (declared_of at.life) at.from bs) EffectiveType written_int (λ e. written_so l h)

pub at_most : (n k : ℕ) → n ≡ k → n ≤ k
at_most n k h = omega (arith, h)

pub load_int_so : (rows : List Row) (kind : IntKind) (a : ℕ) (p : Prov) → GivesSo IsFew (load_int rows kind a p)
load_int_so rows kind a p =
    let n = bytes_of_kind kind in
    then_so Any IsFew (acts.access rows n n a p) (λ at. touch (Get at.object at.from n) >>= (λ bs. loaded_int kind at bs)) (access_so rows n n a p)
    (λ at any. (tt, λ bs g. loaded_so kind at bs (at_most (length bs) n g.0) g.1))

module _ (ty : CType) (at : Accessed) (bs : List TaggedByte) where
  abbrev pub shown_function : Script ℕ
  shown_function = show_pieces bs >> Give (number_of bs)

  abbrev pub written_function : Script ℕ
  written_function = require (acts.all_written bs) Indeterminate >> shown_function

  abbrev pub loaded_function : Script ℕ
  loaded_function = require (acts.suits_load ty (declared_of at.life) at.from bs) EffectiveType >> written_function

  pub function_so : GivesSo Any loaded_function
  function_so =
      require_then Any (acts.suits_load ty (declared_of at.life) at.from bs) EffectiveType written_function (λ e.
      require_then Any (acts.all_written bs) Indeterminate shown_function (λ f.
      after_so Any (show_pieces bs) (Give (number_of bs)) (show_pieces_so bs) tt))

pub load_func_so : (rows : List Row) (ty : CType) (a : ℕ) (p : Prov) → GivesSo Any (load_func rows ty a p)
load_func_so rows ty a p =
    then_so Any Any (acts.access rows 8 8 a p) (λ at. touch (Get at.object at.from 8) >>= (λ bs. loaded_function ty at bs)) (access_so rows 8 8 a p)
    (λ at any. (tt, λ bs g. function_so ty at bs))

abbrev pub IsFewAt : ℕ × Prov → Type 0
IsFewAt q = q.0 < 2 ^ 64

pub pointer_or_so : (who : Event) (o : Option Prov) (a : ℕ) → a < 2 ^ 64 → GivesSo IsFewAt (pointer_or_number who o a)
pointer_or_so who (Some p) a h = after_so IsFewAt (target_lives p) (Give (a, p)) (lives_so p) h
pointer_or_so who None a h = then_so Any IsFewAt (from_int who a) (λ q. Give (a, q)) (from_int_so who a) (λ q any. h)

module _ (ty : CType) (who : Event) (at : Accessed) (bs : List TaggedByte) where
  abbrev pub written_pointer : Script (ℕ × Prov)
  written_pointer = require (acts.all_written bs) Indeterminate >> pointer_or_number who (pointer_in bs) (number_of bs)

  abbrev pub loaded_pointer : Script (ℕ × Prov)
  loaded_pointer = require (acts.suits_load ty (declared_of at.life) at.from bs) EffectiveType >> written_pointer

  pub loaded_pointer_so : length bs ≡ 8 → All IsSmallByte bs → GivesSo IsFewAt loaded_pointer
  loaded_pointer_so l h =
      require_then IsFewAt (acts.suits_load ty (declared_of at.life) at.from bs) EffectiveType written_pointer (λ e.
      require_then IsFewAt (acts.all_written bs) Indeterminate (pointer_or_number who (pointer_in bs) (number_of bs)) (λ f.
      pointer_or_so who (pointer_in bs) (number_of bs) (eight_below bs l h)))

pub load_ptr_so : (rows : List Row) (ty : CType) (who : Event) (align a : ℕ) (p : Prov) → GivesSo IsFewAt (load_ptr rows ty who align a p)
load_ptr_so rows ty who align a p =
    then_so Any IsFewAt (acts.access rows 8 align a p) (λ at. touch (Get at.object at.from 8) >>= (λ bs. loaded_pointer ty who at bs))
    (access_so rows 8 align a p) (λ at any. (tt, λ bs g. loaded_pointer_so ty who at bs g.0 g.1))

abbrev pub AreSmallBytes : List TaggedByte → Type 0
AreSmallBytes = All IsSmallByte

pub retagged_small : (f : Option Form) (from : ℕ) (bs : List TaggedByte) → AreSmallBytes bs → AreSmallBytes (retagged f from bs)
retagged_small None from bs h = h
retagged_small (Some form) from [] h = All-nil IsSmallByte
retagged_small (Some form) from (b ∷ bs) h =
    All-cons IsSmallByte _ (retagged (Some form) (suc from) bs) (All-head IsSmallByte b bs h)
    (retagged_small (Some form) (suc from) bs (All-tail IsSmallByte b bs h))

pub load_block_so : (rows : List Row) (size align a : ℕ) (p : Prov) → GivesSo AreSmallBytes (load_block rows size align a p)
load_block_so rows size align a p =
    then_so Any AreSmallBytes (acts.access rows size align a p)
    (λ at. touch (Get at.object at.from size) >>= (λ bs. Give (retagged (declared_of at.life) at.from bs))) (access_so rows size align a p)
    (λ at any. (tt, λ bs g. retagged_small (declared_of at.life) at.from bs g.1))

pub load_so : (rows : List Row) (who : Event) (how : Access) (ty : CType) (p : Pointer) → GivesSo IsSmall (load rows who how ty p)
load_so rows who (access.Integer k) ty p =
    then_so IsFew IsSmall (load_int rows k p.address p.prov) (λ z. Give (Int z)) (load_int_so rows k p.address p.prov) (λ z h. h)
load_so rows who access.Pointer ty p =
    then_so IsFewAt IsSmall (load_ptr rows ty who 8 p.address p.prov) (λ q. Give (Ptr q.0 q.1)) (load_ptr_so rows ty who 8 p.address p.prov) (λ q h. h)
load_so rows who access.Function ty p =
    then_so Any IsSmall (load_func rows ty p.address p.prov) (λ n. Give (Fun n)) (load_func_so rows ty p.address p.prov) (λ n h. tt)
load_so rows who (access.Whole size align) ty p =
    then_so AreSmallBytes IsSmall (load_block rows size align p.address p.prov) (λ bs. Give (values.Whole bs (Some p.address)))
    (load_block_so rows size align p.address p.prov) (λ bs h. h)

-- ---- stores
pub stored_small : (declared : Option Form) (via : Seen) (i : ℕ) (bs : List TaggedByte) → AreSmallBytes bs → AreSmallBytes (stored_from declared via i bs)
stored_small None via i [] h = All-nil IsSmallByte
stored_small (Some form) via i [] h = All-nil IsSmallByte
stored_small None via i (b ∷ bs) h =
    All-cons IsSmallByte _ (stored_from None via (suc i) bs) (All-head IsSmallByte b bs h) (stored_small None via (suc i) bs (All-tail IsSmallByte b bs h))
stored_small (Some form) via i (b ∷ bs) h =
    All-cons IsSmallByte _ (stored_from (Some form) via (suc i) bs) (All-head IsSmallByte b bs h)
    (stored_small (Some form) via (suc i) bs (All-tail IsSmallByte b bs h))

pub writable_so : (first : Bool) (life : Option Life) → GivesSo Any (check_writable first life)
writable_so true life = tt
writable_so false life =
    require_then Any (not (is_literal life)) StoreToLiteral (require (not (is_constant life)) StoreToConst)
    (λ e. require_so (not (is_constant life)) StoreToConst)

module _ (first : Bool) (via : Seen) (bs : List TaggedByte) (at : Accessed) where
  abbrev pub put_there : Script (Unit {0})
  put_there = touch (Put at.object at.from (stored_from (declared_of at.life) via 0 bs))

  abbrev pub written_there : Script (Unit {0})
  written_there = check_writable first at.life >> put_there

  abbrev pub stored_there : Script (Unit {0})
  stored_there = require (acts.suits_store via (declared_of at.life) at.from) EffectiveType >> written_there

  pub put_there_so : AreSmallBytes bs → GivesSo Any put_there
  put_there_so h = (stored_small (declared_of at.life) via 0 bs h, λ b g. tt)

  pub stored_so : AreSmallBytes bs → GivesSo Any stored_there
  stored_so h =
      require_then Any (acts.suits_store via (declared_of at.life) at.from) EffectiveType written_there (λ e.
      after_so Any (check_writable first at.life) put_there (writable_so first at.life) (put_there_so h))

pub store_so : (rows : List Row) (first : Bool) (via : Seen) (align a : ℕ) (p : Prov) (bs : List TaggedByte) → AreSmallBytes bs
    → GivesSo Any (store rows first via align a p bs)
store_so rows first via align a p bs h =
    then_so Any Any (acts.access rows (length bs) align a p) (λ at. stored_there first via bs at) (access_so rows (length bs) align a p)
    (λ at any. stored_so first via bs at h)

pub low_byte : (n : ℕ) → n % 256 < 256
low_byte n = omega arith

pub number_small : (k n : ℕ) → AreSmallBytes (number_bytes k n)
number_small zero n = All-nil IsSmallByte
number_small (suc k) n = All-cons IsSmallByte _ (number_bytes k (n / 256)) (low_byte n) (number_small k (n / 256))

pub pointer_small : (k i : ℕ) (p : Prov) (n : ℕ) → AreSmallBytes (pointer_bytes k i p n)
pointer_small zero i p n = All-nil IsSmallByte
pointer_small (suc k) i p n = All-cons IsSmallByte _ (pointer_bytes k (suc i) p (n / 256)) (low_byte n) (pointer_small k (suc i) p (n / 256))

pub put_whole_so : (rows : List Row) (first : Bool) (size align : ℕ) (p : Pointer) (v : Value) → IsSmall v
    → GivesSo IsSmall (put_whole rows first size align p v)
put_whole_so rows first size align p (values.Whole bs source) h =
    let b = not (nodes.overlap_inexactly size p.address source) in
    after_so IsSmall (store rows first acts.whole align p.address p.prov bs) (require b OverlappingAssignment >> Give Nothing)
    (store_so rows first acts.whole align p.address p.prov bs h) (require_then IsSmall b OverlappingAssignment (Give Nothing) (λ e. tt))
put_whole_so rows first size align p (Int z) h = tt
put_whole_so rows first size align p (Ptr a q) h = tt
put_whole_so rows first size align p (Fun a) h = tt
put_whole_so rows first size align p Missing h = tt
put_whole_so rows first size align p Nothing h = tt

pub put_so : (rows : List Row) (first : Bool) (how : Access) (ty : CType) (p : Pointer) (v : Value) → IsSmall v → GivesSo IsSmall (put rows first how ty p v)
put_so rows first (access.Integer k) ty p v h =
    let bs = values.int_bytes k (integer_of v) in
    after_so IsSmall (store rows first (acts.scalar (int k)) (bytes_of_kind k) p.address p.prov bs) (Give Nothing)
    (store_so rows first (acts.scalar (int k)) (bytes_of_kind k) p.address p.prov bs (number_small (bytes_of_kind k) (low_bits (integer_of v)))) tt
put_so rows first access.Pointer ty p v h =
    let bs = pointer_bytes 8 0 (pointer_of v).prov (pointer_of v).address in
    after_so IsSmall (store rows first (acts.scalar ty) 8 p.address p.prov bs) (Give Nothing)
    (store_so rows first (acts.scalar ty) 8 p.address p.prov bs (pointer_small 8 0 (pointer_of v).prov (pointer_of v).address)) tt
put_so rows first access.Function ty p v h =
    let bs = number_bytes 8 (values.function_in v) in
    after_so IsSmall (store rows first (acts.scalar ty) 8 p.address p.prov bs) (Give Nothing)
    (store_so rows first (acts.scalar ty) 8 p.address p.prov bs (number_small 8 (values.function_in v))) tt
put_so rows first (access.Whole size align) ty p v h = put_whole_so rows first size align p v h

-- ---- what lists are filled with
pub plain_small : (ns : List ℕ) → All (λ n. n < 256) ns → AreSmallBytes (map plain_byte ns)
plain_small [] h = All-nil IsSmallByte
plain_small (n ∷ ns) h =
    All-cons IsSmallByte (plain_byte n) (map plain_byte ns) (All-head (λ n. n < 256) n ns h) (plain_small ns (All-tail (λ n. n < 256) n ns h))

pub content_small : (rows : List Row) (c : Content) → IsSmallContent c → AreSmallBytes (content_bytes rows c)
content_small rows (model.Zeros n) h = number_small n 0
content_small rows (model.Bytes ns) h = plain_small ns h
content_small rows (model.Object_at x offset) h = pointer_small 8 0 (Whole x) (address_after (acts.base_in (row_of rows x)) offset)
content_small rows (model.Function_at n) h = number_small 8 (values.function_address n)
content_small rows model.No_object h = pointer_small 8 0 Empty 0

pub fill_so : (rows : List Row) (p : Pointer) (cs : List Filling) → AreSmallFillings cs → GivesSo IsSmall (fill rows p cs)
fill_so rows p [] h = tt
fill_so rows p (c ∷ cs) h =
    after_so IsSmall (store rows true acts.bytes 1 (address_after p.address c.offset) p.prov (content_bytes rows c.content)) (fill rows p cs)
    (store_so rows true acts.bytes 1 (address_after p.address c.offset) p.prov (content_bytes rows c.content)
    (content_small rows c.content (All-head (λ c. IsSmallContent c.content) c cs h))) (fill_so rows p cs (All-tail (λ c. IsSmallContent c.content) c cs h))
