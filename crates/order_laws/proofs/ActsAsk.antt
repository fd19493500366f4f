-- Each script of an event or of a control step asks whether an object lives before it reads or writes it.
use Rattle.std.proofs.Common.{ℕ, ◌/◌, Bool, true, false, not, ◌||◌, List, [], ◌∷◌, Option, Some, None}
use Rattle.std.specs.Prelude.{◌==◌, ℤ, pos, ◌+ℤ◌, ◌-ℤ◌, unsigned_abs, Result, Ok, Err}
use Rattle.ub_base.specs.declared.clause.Kind.{Kind}
use Rattle.ub_base.specs.declared.clause.Kind.TheVariants.{Val, Eff}
use Rattle.ub_base.specs.declared.clause.Clause.{Clause}
use Rattle.ub_base.specs.declared.clause.Clause.TheVariants.{InvalidPointer, OutOfBounds, DeadObject, EffectiveType, OverlappingAssignment, Indeterminate}
use Rattle.ub_base.specs.declared.clause.Clause.TheVariants.{TrapRepresentation, PointerAlignment, PointerDifference, PointerComparison}
use Rattle.ub_base.specs.declared.names.Event.{Event}
use Rattle.ub_base.specs.declared.names.ObjName.{ObjName}
use Rattle.ub_base.specs.declared.names.Item.{Item}
use Rattle.ub_base.specs.declared.names.Item.TheVariants.{Read, Alive, Expose}
use Rattle.addr_map.specs.declared.map.Row.{Row}
use Rattle.addr_map.specs.Rows.{row_of}
use Rattle.exposure.specs.declared.prov.Prov.{Prov}
use Rattle.exposure.specs.declared.prov.Prov.TheVariants as prov
use Rattle.exposure.specs.Choice.{chosen}
use Rattle.c_types.specs.declared.kind.IntKind.{IntKind}
use Rattle.c_types.specs.declared.kind.IntKind.TheVariants.{ULong}
use Rattle.c_types.specs.Types.{CType, int}
use Rattle.c_arith.specs.Operators.{negated, conv, bits}
use Rattle.c_typed.specs.declared.tree.Access.{Access}
use Rattle.c_typed.specs.declared.tree.Access.TheVariants as access
use Rattle.c_typed.specs.declared.tree.Change.{Change}
use Rattle.c_typed.specs.declared.tree.Change.TheVariants as change
use Rattle.c_typed.specs.declared.tree.Conversion.{Conversion}
use Rattle.c_typed.specs.declared.tree.Conversion.TheVariants as conversion
use Rattle.c_typed.specs.declared.tree.UnOp.{UnOp}
use Rattle.c_typed.specs.declared.tree.UnOp.TheVariants as unary
use Rattle.c_typed.specs.declared.tree.RelOp.{RelOp}
use Rattle.mem_spec.specs.Store.{TaggedByte, is_live}
use Rattle.mem_spec.specs.Agreement.{bytes_of_kind}
use Rattle.mem_spec.specs.Script.{Get, Find, Script, Give, ◌>>=◌, ◌>>◌, require, touch}
use Rattle.mem_spec.specs.Acts.{Accessed, scalar, whole, bytes, is_aligned, declared_of, suits_load, in_bounds, access as access_act, store, shift}
use Rattle.mem_spec.specs.Acts.{settle_by, all_written, show_each, show_pieces, origins_in, value_of, is_trap, number_of, load_int, load_func, load_ptr}
use Rattle.mem_spec.specs.Acts.{load_block, from_int, some_live, target_lives, candidates, pointer_or_number, pointer_in, retagged, settle_to}
use Rattle.mem_spec.specs.Acts.{settle_common, in_common, less, diff, is_multiple, expose}
use Rattle.mem_spec.specs.Bytes.{number_bytes, pointer_bytes}
use Rattle.c_model.specs.Values.{Value, Int, Ptr, Fun, Missing, Nothing, Pointer, pointer_value, integer_of, pointer_of, function_in, value_at}
use Rattle.c_model.specs.Values.{address_after, truth, int_bytes, part_bytes, moved_source}
use Rattle.c_model.specs.Values as values
use Rattle.c_model.specs.Program.{Filling, Head, Load, Conv, Un, Bin, PtrAdd, PtrDiff, Rel, Eq, Member, Part, Assign, Update, And, Or, Cond, Comma, Call}
use Rattle.c_model.specs.Program.{Listed}
use Rattle.c_model.specs.Nodes.{bool_value, outcome, int_outcome, load, put_whole, put, overlap_inexactly, convert, unary_value, operated, in_order}
use Rattle.c_model.specs.Nodes.{relational, distance, shifted, difference, is_empty, member, part_pointer, read_part, width_of, part_of, amount, worked}
use Rattle.c_model.specs.Nodes.{changed, check_change, change_access, given_back, update_value, new_value, call_value, content_bytes, fill, act_of}
use Rattle.order_laws.specs.Asking.{Anything, Asked}
use Rattle.order_laws.proofs.Asks.{Known, bind, need, needs, when, access_asks, store_asks}

pub go_on : {A B : Type 0} → (rows : List Row) (x : Script A) (k : A → Script B) (bs : List Item) → Asked rows x bs
    → ((v : A) (cs : List Item) → Asked rows (k v) cs) → Asked rows (x >>= k) bs
go_on rows x k bs h g = bind rows x k bs Anything Anything h (λ v cs m q. g v cs)

shows_asks : (rows : List Row) (xs : List ObjName) (bs : List Item) → Asked rows (show_each xs) bs
shows_asks rows [] bs = tt
shows_asks rows (x ∷ xs) bs = λ r. shows_asks rows xs (Expose x ∷ bs)

pub pieces_asks : (rows : List Row) (ds : List TaggedByte) (bs : List Item) → Asked rows (show_pieces ds) bs
pieces_asks rows [] bs = tt
pieces_asks rows (d ∷ ds) bs = go_on rows (show_each (origins_in d.byte)) (λ u. show_pieces ds) bs (shows_asks rows (origins_in d.byte) bs)
    (λ u cs. pieces_asks rows ds cs)

find_asks : (rows : List Row) (who : Event) (a : ℕ) (bs : List Item) → Asked rows (from_int who a) bs
find_asks rows who a bs = when rows (a == 0) (Give prov.Empty) (touch (Find a) >>= (λ at. Give (chosen at.0 at.1 who))) bs Anything tt (λ r. tt)

live_asks : (rows : List Row) (xs : List ObjName) (bs : List Item) → Asked rows (some_live xs) bs
live_asks rows [] bs = tt
live_asks rows (x ∷ xs) bs = λ life. go_on rows (some_live xs) (λ rest. Give (is_live life || rest)) (Alive x ∷ bs) (live_asks rows xs (Alive x ∷ bs))
    (λ v cs. tt)

target_asks : (rows : List Row) (p : Prov) (bs : List Item) → Asked rows (target_lives p) bs
target_asks rows prov.Empty bs = tt
target_asks rows (prov.Whole x) bs = go_on rows (some_live (candidates (prov.Whole x))) (λ ok. require ok DeadObject) bs
    (live_asks rows (candidates (prov.Whole x)) bs) (λ ok cs. needs rows ok DeadObject cs)
target_asks rows (prov.Either d x y) bs = go_on rows (some_live (candidates (prov.Either d x y))) (λ ok. require ok DeadObject) bs
    (live_asks rows (candidates (prov.Either d x y)) bs) (λ ok cs. needs rows ok DeadObject cs)

pointer_asks : (rows : List Row) (who : Event) (o : Option Prov) (a : ℕ) (bs : List Item) → Asked rows (pointer_or_number who o a) bs
pointer_asks rows who (Some p) a bs = go_on rows (target_lives p) (λ u. Give (a, p)) bs (target_asks rows p bs) (λ u cs. tt)
pointer_asks rows who None a bs = go_on rows (from_int who a) (λ p. Give (a, p)) bs (find_asks rows who a bs) (λ u cs. tt)

pub settle_asks : (rows : List Row) (a b : Bool) (id : Event) (past start : ObjName) (c : Clause) (bs : List Item)
    → Asked rows (settle_by a b id past start c) bs
settle_asks rows true true id past start c bs = tt
settle_asks rows true false id past start c bs = λ u. tt
settle_asks rows false true id past start c bs = λ u. tt
settle_asks rows false false id past start c bs = tt

settle_to_asks : (rows : List Row) (p : Prov) (x : ObjName) (c : Clause) (bs : List Item) → Asked rows (settle_to p x c) bs
settle_to_asks rows (prov.Either id past start) x c bs = λ u. tt
settle_to_asks rows prov.Empty x c bs = tt
settle_to_asks rows (prov.Whole y) x c bs = tt

common_asks : (rows : List Row) (xs : List ObjName) (p q : Prov) (c : Clause) (bs : List Item) → Asked rows (settle_common xs p q c) bs
common_asks rows [] p q c bs = tt
common_asks rows (x ∷ []) p q c bs = go_on rows (settle_to p x c) (λ u. settle_to q x c) bs (settle_to_asks rows p x c bs)
    (λ u cs. settle_to_asks rows q x c cs)
common_asks rows (x ∷ y ∷ ys) p q c bs = tt

shift_asks : (rows : List Row) (a : ℕ) (p : Prov) (by : ℤ) (bs : List Item) → Asked rows (shift rows a p by) bs
shift_asks rows a prov.Empty by bs = tt
shift_asks rows a (prov.Whole x) by bs = need rows (in_bounds (row_of rows x) (pos a +ℤ by)) OutOfBounds (Give (pos a +ℤ by)) bs Anything tt
shift_asks rows a (prov.Either id past start) by bs =
    go_on rows (settle_by (in_bounds (row_of rows past) (pos a +ℤ by)) (in_bounds (row_of rows start) (pos a +ℤ by)) id past start OutOfBounds)
    (λ u. Give (pos a +ℤ by)) bs
    (settle_asks rows (in_bounds (row_of rows past) (pos a +ℤ by)) (in_bounds (row_of rows start) (pos a +ℤ by)) id past start OutOfBounds bs) (λ u cs. tt)

-- loads
abbrev int_tail4 : IntKind → List TaggedByte → Script ℤ
int_tail4 kind ds = show_pieces ds >> Give (value_of kind (number_of ds))

abbrev int_tail3 : IntKind → List TaggedByte → Script ℤ
int_tail3 kind ds = require (not (is_trap kind (number_of ds))) TrapRepresentation >> int_tail4 kind ds

abbrev int_tail2 : IntKind → List TaggedByte → Script ℤ
int_tail2 kind ds = require (all_written ds) Indeterminate >> int_tail3 kind ds

abbrev int_tail1 : IntKind → Accessed → List TaggedByte → Script ℤ
int_tail1 kind at ds = require (suits_load (int kind) (declared_of at.life) at.from ds) EffectiveType >> int_tail2 kind ds

int_asks : (rows : List Row) (kind : IntKind) (a : ℕ) (p : Prov) (bs : List Item) → Asked rows (load_int rows kind a p) bs
int_asks rows kind a p bs =
    bind rows (access_act rows (bytes_of_kind kind) (bytes_of_kind kind) a p)
    (λ at. touch (Get at.object at.from (bytes_of_kind kind)) >>= int_tail1 kind at) bs Known Anything
    (access_asks rows (bytes_of_kind kind) (bytes_of_kind kind) a p bs)
    (λ at cs m k. (
      k,
      (λ ds. need rows (suits_load (int kind) (declared_of at.life) at.from ds) EffectiveType (int_tail2 kind ds)
          (Read at.object at.from (bytes_of_kind kind) ∷ cs) Anything
          (need rows (all_written ds) Indeterminate (int_tail3 kind ds) (Read at.object at.from (bytes_of_kind kind) ∷ cs) Anything
          (need rows (not (is_trap kind (number_of ds))) TrapRepresentation (int_tail4 kind ds) (Read at.object at.from (bytes_of_kind kind) ∷ cs) Anything
          (go_on rows (show_pieces ds) (λ u. Give (value_of kind (number_of ds))) (Read at.object at.from (bytes_of_kind kind) ∷ cs)
          (pieces_asks rows ds (Read at.object at.from (bytes_of_kind kind) ∷ cs)) (λ u es. tt))))),
    ))

abbrev func_tail3 : CType → List TaggedByte → Script ℕ
func_tail3 ty ds = show_pieces ds >> Give (number_of ds)

abbrev func_tail2 : CType → List TaggedByte → Script ℕ
func_tail2 ty ds = require (all_written ds) Indeterminate >> func_tail3 ty ds

abbrev func_tail1 : CType → Accessed → List TaggedByte → Script ℕ
func_tail1 ty at ds = require (suits_load ty (declared_of at.life) at.from ds) EffectiveType >> func_tail2 ty ds

func_asks : (rows : List Row) (ty : CType) (a : ℕ) (p : Prov) (bs : List Item) → Asked rows (load_func rows ty a p) bs
func_asks rows ty a p bs =
    bind rows (access_act rows 8 8 a p) (λ at. touch (Get at.object at.from 8) >>= func_tail1 ty at) bs Known Anything (access_asks rows 8 8 a p bs)
    (λ at cs m k. (
      k,
      (λ ds. need rows (suits_load ty (declared_of at.life) at.from ds) EffectiveType (func_tail2 ty ds) (Read at.object at.from 8 ∷ cs) Anything
          (need rows (all_written ds) Indeterminate (func_tail3 ty ds) (Read at.object at.from 8 ∷ cs) Anything
          (go_on rows (show_pieces ds) (λ u. Give (number_of ds)) (Read at.object at.from 8 ∷ cs) (pieces_asks rows ds (Read at.object at.from 8 ∷ cs))
          (λ u es. tt)))),
    ))

abbrev ptr_tail2 : CType → Event → List TaggedByte → Script (ℕ × Prov)
ptr_tail2 ty who ds = require (all_written ds) Indeterminate >> pointer_or_number who (pointer_in ds) (number_of ds)

abbrev ptr_tail1 : CType → Event → Accessed → List TaggedByte → Script (ℕ × Prov)
ptr_tail1 ty who at ds = require (suits_load ty (declared_of at.life) at.from ds) EffectiveType >> ptr_tail2 ty who ds

ptr_asks : (rows : List Row) (ty : CType) (who : Event) (align a : ℕ) (p : Prov) (bs : List Item) → Asked rows (load_ptr rows ty who align a p) bs
ptr_asks rows ty who align a p bs =
    bind rows (access_act rows 8 align a p) (λ at. touch (Get at.object at.from 8) >>= ptr_tail1 ty who at) bs Known Anything (access_asks rows 8 align a p bs)
    (λ at cs m k. (
      k,
      (λ ds. need rows (suits_load ty (declared_of at.life) at.from ds) EffectiveType (ptr_tail2 ty who ds) (Read at.object at.from 8 ∷ cs) Anything
          (need rows (all_written ds) Indeterminate (pointer_or_number who (pointer_in ds) (number_of ds)) (Read at.object at.from 8 ∷ cs) Anything
          (pointer_asks rows who (pointer_in ds) (number_of ds) (Read at.object at.from 8 ∷ cs)))),
    ))

block_asks : (rows : List Row) (size align a : ℕ) (p : Prov) (bs : List Item) → Asked rows (load_block rows size align a p) bs
block_asks rows size align a p bs =
    bind rows (access_act rows size align a p) (λ at. touch (Get at.object at.from size) >>= (λ ds. Give (retagged (declared_of at.life) at.from ds))) bs
    Known Anything
    (access_asks rows size align a p bs) (λ at cs m k. (k, (λ ds. tt)))

load_asks : (rows : List Row) (who : Event) (how : Access) (ty : CType) (p : Pointer) (bs : List Item) → Asked rows (load rows who how ty p) bs
load_asks rows who (access.Integer k) ty p bs = go_on rows (load_int rows k p.address p.prov) (λ z. Give (Int z)) bs (int_asks rows k p.address p.prov bs)
    (λ u cs. tt)
load_asks rows who access.Pointer ty p bs = go_on rows (load_ptr rows ty who 8 p.address p.prov) (λ q. Give (Ptr q.0 q.1)) bs
    (ptr_asks rows ty who 8 p.address p.prov bs) (λ u cs. tt)
load_asks rows who access.Function ty p bs = go_on rows (load_func rows ty p.address p.prov) (λ n. Give (Fun n)) bs (func_asks rows ty p.address p.prov bs)
    (λ u cs. tt)
load_asks rows who (access.Whole size align) ty p bs =
    go_on rows (load_block rows size align p.address p.prov) (λ ds. Give (values.Whole ds (Some p.address))) bs
    (block_asks rows size align p.address p.prov bs) (λ u cs. tt)

-- stores
whole_asks : (rows : List Row) (first : Bool) (size align : ℕ) (p : Pointer) (v : Value) (bs : List Item) → Asked rows (put_whole rows first size align p v) bs
whole_asks rows first size align p (values.Whole ds source) bs =
    go_on rows (store rows first whole align p.address p.prov ds)
    (λ u. require (not (overlap_inexactly size p.address source)) OverlappingAssignment >> Give Nothing) bs
    (store_asks rows first whole align p.address p.prov ds bs)
    (λ u cs. need rows (not (overlap_inexactly size p.address source)) OverlappingAssignment (Give Nothing) cs Anything tt)
whole_asks rows first size align p _ bs = tt

pub put_asks : (rows : List Row) (first : Bool) (how : Access) (ty : CType) (p : Pointer) (v : Value) (bs : List Item)
    → Asked rows (put rows first how ty p v) bs
put_asks rows first (access.Integer k) ty p v bs =
    go_on rows (store rows first (scalar (int k)) (bytes_of_kind k) p.address p.prov (int_bytes k (integer_of v))) (λ u. Give Nothing) bs
    (store_asks rows first (scalar (int k)) (bytes_of_kind k) p.address p.prov (int_bytes k (integer_of v)) bs) (λ u cs. tt)
put_asks rows first access.Pointer ty p v bs =
    go_on rows (store rows first (scalar ty) 8 p.address p.prov (pointer_bytes 8 0 (pointer_of v).prov (pointer_of v).address)) (λ u. Give Nothing) bs
    (store_asks rows first (scalar ty) 8 p.address p.prov (pointer_bytes 8 0 (pointer_of v).prov (pointer_of v).address) bs) (λ u cs. tt)
put_asks rows first access.Function ty p v bs =
    go_on rows (store rows first (scalar ty) 8 p.address p.prov (number_bytes 8 (function_in v))) (λ u. Give Nothing) bs
    (store_asks rows first (scalar ty) 8 p.address p.prov (number_bytes 8 (function_in v)) bs) (λ u cs. tt)
put_asks rows first (access.Whole size align) ty p v bs = whole_asks rows first size align p v bs

pub fill_asks : (rows : List Row) (p : Pointer) (cs : List Filling) (bs : List Item) → Asked rows (fill rows p cs) bs
fill_asks rows p [] bs = tt
fill_asks rows p (c ∷ cs) bs =
    go_on rows (store rows true bytes 1 (address_after p.address c.offset) p.prov (content_bytes rows c.content)) (λ u. fill rows p cs) bs
    (store_asks rows true bytes 1 (address_after p.address c.offset) p.prov (content_bytes rows c.content) bs) (λ u ds. fill_asks rows p cs ds)

-- the other acts
pub expose_asks : (rows : List Row) (p : Prov) (bs : List Item) → Asked rows (expose p) bs
expose_asks rows p bs = shows_asks rows (candidates p) bs

convert_asks : (rows : List Row) (who : Event) (c : Conversion) (v : Value) (bs : List Item) → Asked rows (convert who c v) bs
convert_asks rows who (conversion.Integer k) v bs = tt
convert_asks rows who (conversion.Address k) v bs =
    go_on rows (expose (pointer_of v).prov) (λ u. Give (Int (conv k (pos (pointer_of v).address)))) bs (expose_asks rows (pointer_of v).prov bs) (λ u cs. tt)
convert_asks rows who conversion.NotNull v bs = tt
convert_asks rows who conversion.Lookup v bs =
    go_on rows (from_int who (bits ULong (integer_of v))) (λ p. Give (Ptr (bits ULong (integer_of v)) p)) bs
    (find_asks rows who (bits ULong (integer_of v)) bs) (λ u cs. tt)
convert_asks rows who (conversion.Pointer align) v bs = need rows (is_aligned align (pointer_of v).address) PointerAlignment
    (Give (pointer_value (pointer_of v))) bs Anything tt
convert_asks rows who conversion.Function v bs = tt

outcome_asks : (rows : List Row) (r : Result ℤ Clause) (bs : List Item) → Asked rows (outcome r) bs
outcome_asks rows (Ok z) bs = tt
outcome_asks rows (Err c) bs = tt

int_outcome_asks : (rows : List Row) (r : Result ℤ Clause) (bs : List Item) → Asked rows (int_outcome r) bs
int_outcome_asks rows (Ok z) bs = tt
int_outcome_asks rows (Err c) bs = tt

unary_asks : (rows : List Row) (op : UnOp) (v : Value) (bs : List Item) → Asked rows (unary_value op v) bs
unary_asks rows (unary.Minus k) v bs = int_outcome_asks rows (negated k (conv k (integer_of v))) bs
unary_asks rows (unary.Complement k) v bs = tt
unary_asks rows unary.Not v bs = tt

less_asks : (rows : List Row) (p q : Prov) (bs : List Item) → Asked rows (less p q) bs
less_asks rows p q bs = common_asks rows (in_common (candidates p) (candidates q)) p q PointerComparison bs

diff_asks : (rows : List Row) (a : ℕ) (p : Prov) (b : ℕ) (q : Prov) (size : ℕ) (bs : List Item) → Asked rows (diff a p b q size) bs
diff_asks rows a p b q size bs =
    need rows (is_multiple size a b) PointerDifference (settle_common (in_common (candidates p) (candidates q)) p q PointerDifference) bs Anything
    (common_asks rows (in_common (candidates p) (candidates q)) p q PointerDifference bs)

relational_asks : (rows : List Row) (op : RelOp) (pointers : Bool) (v w : Value) (bs : List Item) → Asked rows (relational op pointers v w) bs
relational_asks rows op true v w bs =
    go_on rows (less (pointer_of v).prov (pointer_of w).prov) (λ u. Give
    (bool_value (in_order op (pos (pointer_of v).address) (pos (pointer_of w).address)))) bs
    (less_asks rows (pointer_of v).prov (pointer_of w).prov bs) (λ u cs. tt)
relational_asks rows op false v w bs = tt

shifted_asks : (rows : List Row) (p : Pointer) (by : ℤ) (bs : List Item) → Asked rows (shifted rows p by) bs
shifted_asks rows p by bs = go_on rows (shift rows p.address p.prov by) (λ z. Give (Ptr (unsigned_abs z) p.prov)) bs
    (shift_asks rows p.address p.prov by bs) (λ u cs. tt)

difference_asks : (rows : List Row) (size : ℕ) (p q : Pointer) (bs : List Item) → Asked rows (difference size p q) bs
difference_asks rows size p q bs =
    go_on rows (diff p.address p.prov q.address q.prov size) (λ u. Give (Int (pos (p.address / size) -ℤ pos (q.address / size)))) bs
    (diff_asks rows p.address p.prov q.address q.prov size bs) (λ u cs. tt)

member_asks : (rows : List Row) (offset : ℕ) (p : Pointer) (bs : List Item) → Asked rows (member rows offset p) bs
member_asks rows offset p bs =
    need rows (not ((p.address == 0) || is_empty p.prov)) InvalidPointer (shifted rows p (pos offset)) bs Anything (shifted_asks rows p (pos offset) bs)

part_pointer_asks : (rows : List Row) (who : Event) (o : Option Prov) (a : ℕ) (bs : List Item) → Asked rows (part_pointer who o a) bs
part_pointer_asks rows who (Some p) a bs = tt
part_pointer_asks rows who None a bs = go_on rows (from_int who a) (λ p. Give (Ptr a p)) bs (find_asks rows who a bs) (λ u cs. tt)

abbrev part_shown : IntKind → List TaggedByte → Script Value
part_shown k ds = show_pieces ds >> Give (Int (value_of k (number_of ds)))

read_asks : (rows : List Row) (who : Event) (how : Access) (ds : List TaggedByte) (source : Option ℕ) (bs : List Item)
    → Asked rows (read_part who how ds source) bs
read_asks rows who (access.Integer k) ds source bs =
    need rows (all_written ds) Indeterminate (require (not (is_trap k (number_of ds))) TrapRepresentation >> part_shown k ds) bs Anything
    (need rows (not (is_trap k (number_of ds))) TrapRepresentation (part_shown k ds) bs Anything
    (go_on rows (show_pieces ds) (λ u. Give (Int (value_of k (number_of ds)))) bs (pieces_asks rows ds bs) (λ u cs. tt)))
read_asks rows who access.Pointer ds source bs =
    need rows (all_written ds) Indeterminate (part_pointer who (pointer_in ds) (number_of ds)) bs Anything
    (part_pointer_asks rows who (pointer_in ds) (number_of ds) bs)
read_asks rows who access.Function ds source bs =
    need rows (all_written ds) Indeterminate (show_pieces ds >> Give (Fun (number_of ds))) bs Anything
    (go_on rows (show_pieces ds) (λ u. Give (Fun (number_of ds))) bs (pieces_asks rows ds bs) (λ u cs. tt))
read_asks rows who (access.Whole size align) ds source bs = tt

part_asks : (rows : List Row) (who : Event) (offset : ℕ) (how : Access) (v : Value) (bs : List Item) → Asked rows (part_of who offset how v) bs
part_asks rows who offset how (values.Whole ds source) bs = read_asks rows who how (part_bytes offset (width_of how) ds) (moved_source offset source) bs
part_asks rows who offset how _ bs = tt

check_asks : (rows : List Row) (c : Change) (v : Value) (n : ℤ) (bs : List Item) → Asked rows (check_change rows c v n) bs
check_asks rows (change.Integer op kind work) v n bs = outcome_asks rows (worked (change.Integer op kind work) v n) bs
check_asks rows (change.Pointer size subtract) v n bs = shift_asks rows (pointer_of v).address (pointer_of v).prov (distance size subtract n) bs

update_asks : (rows : List Row) (who : Event) (c : Change) (old : Bool) (ty : CType) (p : Pointer) (n : ℤ) (bs : List Item)
    → Asked rows (update_value rows who c old ty p n) bs
update_asks rows who c old ty p n bs =
    go_on rows (load rows who (change_access c) ty p) (λ v. check_change rows c v n >> Give (given_back old v (changed c v n))) bs
    (load_asks rows who (change_access c) ty p bs)
    (λ v cs. go_on rows (check_change rows c v n) (λ w. Give (given_back old v (changed c v n))) cs (check_asks rows c v n cs) (λ w ds. tt))

call_value_asks : (rows : List Row) (b : Bool) (v : Value) (bs : List Item) → Asked rows (call_value b v) bs
call_value_asks rows false Missing bs = tt
call_value_asks rows true _ bs = tt
call_value_asks rows false _ bs = tt

pub act_asks : (rows : List Row) (who : Event) (h : Head) (ty : CType) (k : Kind) (vs : List Value) (own : Value) (bs : List Item)
    → Asked rows (act_of rows who h ty k vs own) bs
act_asks rows who (Load how) ty Val vs own bs = load_asks rows who how ty (pointer_of (value_at vs 0)) bs
act_asks rows who (Conv c) ty Val vs own bs = convert_asks rows who c (value_at vs 0) bs
act_asks rows who (Un op) ty Val vs own bs = unary_asks rows op (value_at vs 0) bs
act_asks rows who (Bin op kind) ty Val vs own bs = int_outcome_asks rows (operated op kind (integer_of (value_at vs 0)) (integer_of (value_at vs 1))) bs
act_asks rows who (PtrAdd size subtract) ty Val vs own bs = shifted_asks rows (pointer_of (value_at vs 0))
    (distance size subtract (integer_of (value_at vs 1))) bs
act_asks rows who (PtrDiff size) ty Val vs own bs = difference_asks rows size (pointer_of (value_at vs 0)) (pointer_of (value_at vs 1)) bs
act_asks rows who (Rel op pointers) ty Val vs own bs = relational_asks rows op pointers (value_at vs 0) (value_at vs 1) bs
act_asks rows who (Eq op) ty Val vs own bs = tt
act_asks rows who (Member offset) ty Val vs own bs = member_asks rows offset (pointer_of (value_at vs 0)) bs
act_asks rows who (Part offset how) ty Val vs own bs = part_asks rows who offset how (value_at vs 0) bs
act_asks rows who (Assign first how) ty Val vs own bs = tt
act_asks rows who (Assign first how) ty Eff vs own bs = put_asks rows first how ty (pointer_of (value_at vs 0)) (value_at vs 1) bs
act_asks rows who (Update c old) ty Val vs own bs = update_asks rows who c old ty (pointer_of (value_at vs 0)) (amount old vs) bs
act_asks rows who (Update c old) ty Eff vs own bs =
    put_asks rows false (change_access c) ty (pointer_of (value_at vs 0)) (new_value c old own (amount old vs)) bs
act_asks rows who And ty Val vs own bs = tt
act_asks rows who Or ty Val vs own bs = tt
act_asks rows who Cond ty Val vs own bs = tt
act_asks rows who Comma ty Val vs own bs = tt
act_asks rows who (Call discarded) ty Val vs own bs = call_value_asks rows discarded own bs
act_asks rows who (Listed slot fillings) ty Eff vs own bs = fill_asks rows (pointer_of (value_at vs 0)) fillings bs
act_asks rows who _ ty _ _ own bs = tt
