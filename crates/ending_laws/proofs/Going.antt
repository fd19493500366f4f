-- No act but that of a body ends the run: what their scripts are made of goes on, or is undefined.
use Rattle.std.proofs.Common.{◌≡◌, ◌==◌, ℕ, suc, Bool, true, false, not, ◌||◌, if◌then◌else◌, List, [], ◌∷◌, length, Option, Some, None, is_some, refl}
use Rattle.std.proofs.Common.{sym}
use Rattle.std.proofs.Common.{subst, true≢false}
use Rattle.std.specs.Prelude.{ℤ, Result, Ok, Err, pos}
use Rattle.ub_base.specs.declared.clause.Kind.{Kind}
use Rattle.ub_base.specs.declared.clause.Kind.TheVariants.{Val, Eff, Body}
use Rattle.ub_base.specs.declared.clause.Cause.{Cause}
use Rattle.ub_base.specs.declared.clause.Clause.{Clause}
use Rattle.ub_base.specs.declared.clause.Clause.TheVariants.{InvalidPointer, OutOfBounds, DeadObject, StoreToLiteral, StoreToConst, EffectiveType}
use Rattle.ub_base.specs.declared.clause.Clause.TheVariants.{OverlappingAssignment, Indeterminate, TrapRepresentation, PointerAlignment, PointerDifference}
use Rattle.ub_base.specs.declared.clause.Clause.TheVariants.{PointerComparison}
use Rattle.ub_base.specs.declared.names.Event.{Event}
use Rattle.ub_base.specs.declared.names.ObjName.{ObjName}
use Rattle.ub_base.specs.declared.names.Item.{Item}
use Rattle.addr_map.specs.declared.map.Row.{Row}
use Rattle.addr_map.specs.Rows.{row_of}
use Rattle.exposure.specs.declared.prov.Prov.{Prov}
use Rattle.exposure.specs.declared.prov.Prov.TheVariants.{Empty, Whole, Either}
use Rattle.c_types.specs.declared.kind.IntKind.{IntKind}
use Rattle.c_types.specs.Types.{CType, int}
use Rattle.c_typed.specs.declared.tree.Access.{Access}
use Rattle.c_typed.specs.declared.tree.Access.TheVariants as access
use Rattle.c_typed.specs.declared.tree.Change.{Change}
use Rattle.c_typed.specs.declared.tree.Change.TheVariants as change
use Rattle.c_typed.specs.declared.tree.Conversion.{Conversion}
use Rattle.c_typed.specs.declared.tree.Conversion.TheVariants as conversion
use Rattle.c_typed.specs.declared.tree.Place.{Place}
use Rattle.c_typed.specs.declared.tree.RelOp.{RelOp}
use Rattle.c_typed.specs.declared.tree.UnOp.{UnOp}
use Rattle.c_typed.specs.declared.tree.UnOp.TheVariants as unary
use Rattle.c_typed.specs.Order.{is_body, place}
use Rattle.mem_spec.specs.Acts.{Seen, scalar, whole, bytes, in_row, is_literal, is_constant}
use Rattle.mem_spec.specs.Acts.{access as access_act, check_writable, create, diff, expose, from_int, in_common, less, load_block}
use Rattle.mem_spec.specs.Acts.{load_func, load_int, load_ptr, object_of, pointer_or_number, settle_by, settle_common, settle_to, shift, show_each, show_pieces}
use Rattle.mem_spec.specs.Acts.{all_written, number_of, pointer_in, some_live, store, target_lives, candidates}
use Rattle.mem_spec.specs.Script.{Act, Answer, Ask, Bear, Bury, Do, Done, Ended, Exceed, Find, Get, Give, Misplace, Outside, Print, Put, Raise, Raised}
use Rattle.mem_spec.specs.Script.{Script, Settle, Show, Take, Touch, Unplaced, answer, item_of, left, refused, refuses, require, run, touched}
use Rattle.mem_spec.specs.Script.{◌>>=◌, ◌>>◌}
use Rattle.mem_spec.specs.Store.{Store, TaggedByte}
use Rattle.c_model.specs.Control.{Todo, Enter, Leave, Unwrite, ready_work}
use Rattle.c_model.specs.Nodes.{act_of, call_value, check_change, convert, difference, fill, int_outcome, load, member, outcome, part_of, part_pointer, put}
use Rattle.c_model.specs.Nodes.{amount, is_empty, bool_value, in_order, change_access, content_bytes, new_value, put_whole, read_part, relational, shifted}
use Rattle.c_model.specs.Nodes.{unary_value, update_value}
use Rattle.c_model.specs.Program.{Decl, Expr, Filling, Head, Load, Conv, Un, Bin, PtrAdd, PtrDiff, Rel, Member, Part, Assign, Update}
use Rattle.c_model.specs.Program.{Call, Listed, expr}
use Rattle.c_model.specs.Steps.{Begun, Control, Ev, Local, Scene, at_node, bear_all, call_act, control_act, event_act, event_of, first_type}
use Rattle.c_model.specs.Steps.{kill_all, operand_values, own_kind, pass_all, target, values_of}
use Rattle.mem_spec.specs.Agreement.{bytes_of_kind}
use Rattle.mem_spec.specs.Bytes.{number_bytes, pointer_bytes}
use Rattle.c_model.specs.Values.{Missing, or_nothing, Nothing, Pointer, Value, address_after, function_in, int_bytes, integer_of, pointer_of, value_at}
use Rattle.c_model.specs.Values as values
use Rattle.c_model.specs.World.{World}
use Rattle.ending_laws.specs.Main.{OnlyBodiesEnd}

-- a script that never ends the run
data GoesOn {V : Type 0} : Script V → Type 0 where
  give : (v : V) → GoesOn (Give v)
  raise : (c : Clause) → GoesOn (Raise c)
  exceed : (c : Cause) (n : ℕ) → GoesOn (Exceed c n)
  misplace : GoesOn Misplace
  does_so : (t : Touch) (k : Answer t → Script V) → ((a : Answer t) → GoesOn (k a)) → GoesOn (Do t k)

-- ---- so it doesn't
abbrev NotEnded : {V : Type 0} → Act V → Type 0
NotEnded (Ended n is s) = ⊥
NotEnded a = Unit {0}

not_touched : {V : Type 0} → (i : Item) (a : Act V) → NotEnded a → NotEnded (touched i a)
not_touched i (Done v is s) h = tt
not_touched i (Raised c) h = tt
not_touched i (Ended n is s) h = h
not_touched i (Outside c n) h = tt
not_touched i Unplaced h = tt

not_refused : (V : Type 0) (t : Touch) → NotEnded (refused {V = V} t)
not_refused V (Ask x) = tt
not_refused V (Get x a n) = tt
not_refused V (Put x a bs) = tt
not_refused V (Bear x size kind declared) = tt
not_refused V (Bury x) = tt
not_refused V (Show x) = tt
not_refused V (Find a) = tt
not_refused V (Settle id x c) = tt
not_refused V Take = tt
not_refused V (Print to bs) = tt

not_either : {V : Type 0} → (b : Bool) (x y : Act V) → NotEnded x → NotEnded y → NotEnded (if b then x else y)
not_either true x y h g = h
not_either false x y h g = g

not_ended : {V : Type 0} → (map : List Row) (x : Script V) (s : Store) → GoesOn x → NotEnded (run map x s)
not_ended map _ s (give v) = tt
not_ended map _ s (raise c) = tt
not_ended map _ s (exceed c n) = tt
not_ended map _ s misplace = tt
not_ended map _ s (does_so t k h) =
    not_either (refuses t s) (refused t) (touched (item_of t) (run map (k (answer map t s)) (left t s))) (not_refused _ t)
    (not_touched (item_of t) (run map (k (answer map t s)) (left t s)) (not_ended map (k (answer map t s)) (left t s) (h (answer map t s))))

-- ---- what scripts are made of
bind : {A B : Type 0} → (x : Script A) (k : A → Script B) → GoesOn x → ((v : A) → GoesOn (k v)) → GoesOn (x >>= k)
bind _ k (give v) g = g v
bind _ k (raise c) g = raise c
bind _ k (exceed c n) g = exceed c n
bind _ k misplace g = misplace
bind _ k (does_so t f h) g = does_so t (λ a. f a >>= k) (λ a. bind (f a) k (h a) g)

either : {V : Type 0} → (b : Bool) (x y : Script V) → GoesOn x → GoesOn y → GoesOn (if b then x else y)
either true x y h g = h
either false x y h g = g

unless : {V : Type 0} → (b : Bool) (x y : Script V) → b ≡ false → GoesOn y → GoesOn (if b then x else y)
unless true x y q h = absurd (true≢false q)
unless false x y q h = h

asked : (b : Bool) (c : Clause) → GoesOn (require b c)
asked true c = give tt
asked false c = raise c

need : {V : Type 0} → (b : Bool) (c : Clause) (t : Script V) → GoesOn t → GoesOn (require b c >> t)
need true c t h = h
need false c t h = raise c

-- ---- accesses
object_goes : (rows : List Row) (len a : ℕ) (p : Prov) → GoesOn (object_of rows len a p)
object_goes rows len a Empty = raise _
object_goes rows len a (Whole x) = give _
object_goes rows len a (Either id past start) =
    either (in_row (row_of rows past) a len) _ _ (does_so _ _ (λ b. give _))
    (either (in_row (row_of rows start) a len) _ _ (does_so _ _ (λ b. give _)) (raise _))

access_goes : (rows : List Row) (len align a : ℕ) (p : Prov) → GoesOn (access_act rows len align a p)
access_goes rows len align a p =
    need (not (a == 0)) InvalidPointer _ (bind (object_of rows len a p) _ (object_goes rows len a p) (λ x. does_so _ _ (λ life.
    need _ DeadObject _ (need _ OutOfBounds _ (need _ InvalidPointer _ (give _))))))

show_goes : (xs : List ObjName) → GoesOn (show_each xs)
show_goes [] = give _
show_goes (x ∷ xs) = does_so _ _ (λ a. show_goes xs)

pieces_go : (bs : List TaggedByte) → GoesOn (show_pieces bs)
pieces_go [] = give _
pieces_go (b ∷ bs) = bind (show_each _) _ (show_goes _) (λ v. pieces_go bs)

live_goes : (xs : List ObjName) → GoesOn (some_live xs)
live_goes [] = give _
live_goes (x ∷ xs) = does_so _ _ (λ life. bind (some_live xs) _ (live_goes xs) (λ rest. give _))

target_goes : (p : Prov) → GoesOn (target_lives p)
target_goes Empty = give _
target_goes (Whole x) = bind (some_live (candidates (Whole x))) _ (live_goes (candidates (Whole x))) (λ ok. asked ok DeadObject)
target_goes (Either id past start) =
    bind (some_live (candidates (Either id past start))) _ (live_goes (candidates (Either id past start))) (λ ok. asked ok DeadObject)

from_goes : (who : Event) (a : ℕ) → GoesOn (from_int who a)
from_goes who a = either (a == 0) _ _ (give _) (does_so _ _ (λ at. give _))

pointer_goes : (who : Event) (o : Option Prov) (a : ℕ) → GoesOn (pointer_or_number who o a)
pointer_goes who (Some prov) a = bind (target_lives prov) _ (target_goes prov) (λ v. give _)
pointer_goes who None a = bind (from_int who a) _ (from_goes who a) (λ prov. give _)

int_goes : (rows : List Row) (k : IntKind) (a : ℕ) (p : Prov) → GoesOn (load_int rows k a p)
int_goes rows k a p =
    bind (access_act rows _ _ a p) _ (access_goes rows _ _ a p) (λ at. does_so _ _ (λ bs.
    need _ EffectiveType _ (need _ Indeterminate _ (need _ TrapRepresentation _ (bind (show_pieces bs) _ (pieces_go bs) (λ v. give _))))))

func_goes : (rows : List Row) (ty : CType) (a : ℕ) (p : Prov) → GoesOn (load_func rows ty a p)
func_goes rows ty a p =
    bind (access_act rows 8 8 a p) _ (access_goes rows 8 8 a p) (λ at. does_so _ _ (λ bs.
    need _ EffectiveType _ (need _ Indeterminate _ (bind (show_pieces bs) _ (pieces_go bs) (λ v. give _)))))

ptr_goes : (rows : List Row) (ty : CType) (who : Event) (align a : ℕ) (p : Prov) → GoesOn (load_ptr rows ty who align a p)
ptr_goes rows ty who align a p =
    bind (access_act rows 8 align a p) _ (access_goes rows 8 align a p) (λ at. does_so _ _ (λ bs.
    need _ EffectiveType _ (need _ Indeterminate _ (pointer_goes who (pointer_in bs) (number_of bs)))))

block_goes : (rows : List Row) (size align a : ℕ) (p : Prov) → GoesOn (load_block rows size align a p)
block_goes rows size align a p = bind (access_act rows size align a p) _ (access_goes rows size align a p) (λ at. does_so _ _ (λ bs. give _))

load_goes : (rows : List Row) (who : Event) (how : Access) (ty : CType) (p : Pointer) → GoesOn (load rows who how ty p)
load_goes rows who (access.Integer k) ty p = bind (load_int rows k p.address p.prov) _ (int_goes rows k p.address p.prov) (λ z. give _)
load_goes rows who access.Pointer ty p = bind (load_ptr rows ty who 8 p.address p.prov) _ (ptr_goes rows ty who 8 p.address p.prov) (λ q. give _)
load_goes rows who access.Function ty p = bind (load_func rows ty p.address p.prov) _ (func_goes rows ty p.address p.prov) (λ n. give _)
load_goes rows who (access.Whole size align) ty p =
    bind (load_block rows size align p.address p.prov) _ (block_goes rows size align p.address p.prov) (λ bs. give _)

writable_goes : (b : Bool) (life : Option _) → GoesOn (check_writable b life)
writable_goes true life = give _
writable_goes false life = need (not (is_literal life)) StoreToLiteral _ (asked (not (is_constant life)) StoreToConst)

store_goes : (rows : List Row) (first : Bool) (via : Seen) (align a : ℕ) (p : Prov) (bs : List TaggedByte) → GoesOn (store rows first via align a p bs)
store_goes rows first via align a p bs =
    bind (access_act rows (length bs) align a p) _ (access_goes rows (length bs) align a p) (λ at.
    need _ EffectiveType _ (bind (check_writable first at.life) _ (writable_goes first at.life) (λ v. does_so _ _ (λ b. give _))))

whole_goes : (rows : List Row) (first : Bool) (size align : ℕ) (p : Pointer) (v : Value) → GoesOn (put_whole rows first size align p v)
whole_goes rows first size align p (values.Whole bs source) =
    bind (store rows first whole align p.address p.prov bs) _ (store_goes rows first whole align p.address p.prov bs)
    (λ u. need _ OverlappingAssignment _ (give _))
whole_goes rows first size align p _ = give _

put_goes : (rows : List Row) (first : Bool) (how : Access) (ty : CType) (p : Pointer) (v : Value) → GoesOn (put rows first how ty p v)
put_goes rows first (access.Integer k) ty p v =
    bind (store rows first (scalar (int k)) (bytes_of_kind k) p.address p.prov (int_bytes k (integer_of v))) (λ u. Give Nothing)
    (store_goes rows first (scalar (int k)) (bytes_of_kind k) p.address p.prov (int_bytes k (integer_of v))) (λ u. give Nothing)
put_goes rows first access.Pointer ty p v =
    bind (store rows first (scalar ty) 8 p.address p.prov (pointer_bytes 8 0 (pointer_of v).prov (pointer_of v).address)) (λ u. Give Nothing)
    (store_goes rows first (scalar ty) 8 p.address p.prov (pointer_bytes 8 0 (pointer_of v).prov (pointer_of v).address)) (λ u. give Nothing)
put_goes rows first access.Function ty p v =
    bind (store rows first (scalar ty) 8 p.address p.prov (number_bytes 8 (function_in v))) (λ u. Give Nothing)
    (store_goes rows first (scalar ty) 8 p.address p.prov (number_bytes 8 (function_in v))) (λ u. give Nothing)
put_goes rows first (access.Whole size align) ty p v = whole_goes rows first size align p v

fill_goes : (rows : List Row) (p : Pointer) (cs : List Filling) → GoesOn (fill rows p cs)
fill_goes rows p [] = give Nothing
fill_goes rows p (c ∷ cs) =
    bind (store rows true bytes 1 (address_after p.address c.offset) p.prov (content_bytes rows c.content)) (λ u. fill rows p cs)
    (store_goes rows true bytes 1 (address_after p.address c.offset) p.prov (content_bytes rows c.content)) (λ u. fill_goes rows p cs)

-- ---- values
outcome_goes : (r : Result ℤ Clause) → GoesOn (outcome r)
outcome_goes (Ok z) = give _
outcome_goes (Err c) = raise _

int_outcome_goes : (r : Result ℤ Clause) → GoesOn (int_outcome r)
int_outcome_goes (Ok z) = give _
int_outcome_goes (Err c) = raise _

convert_goes : (who : Event) (c : Conversion) (v : Value) → GoesOn (convert who c v)
convert_goes who (conversion.Integer k) v = give _
convert_goes who (conversion.Address k) v = bind (expose _) _ (show_goes _) (λ u. give _)
convert_goes who conversion.NotNull v = give _
convert_goes who conversion.Lookup v = bind (from_int who _) _ (from_goes who _) (λ p. give _)
convert_goes who (conversion.Pointer align) v = need _ PointerAlignment _ (give _)
convert_goes who conversion.Function v = give _

unary_goes : (op : UnOp) (v : Value) → GoesOn (unary_value op v)
unary_goes (unary.Minus k) v = int_outcome_goes _
unary_goes (unary.Complement k) v = give _
unary_goes unary.Not v = give _

to_goes : (p : Prov) (x : ObjName) (c : Clause) → GoesOn (settle_to p x c)
to_goes Empty x c = give _
to_goes (Whole y) x c = give _
to_goes (Either id past start) x c = does_so _ _ (λ a. give _)

common_goes : (xs : List ObjName) (p q : Prov) (c : Clause) → GoesOn (settle_common xs p q c)
common_goes [] p q c = raise _
common_goes (x ∷ []) p q c = bind (settle_to p x c) _ (to_goes p x c) (λ u. to_goes q x c)
common_goes (x ∷ y ∷ ys) p q c = give _

by_goes : (a b : Bool) (id : Event) (x y : ObjName) (c : Clause) → GoesOn (settle_by a b id x y c)
by_goes true true id x y c = give _
by_goes true false id x y c = does_so _ _ (λ a. give _)
by_goes false true id x y c = does_so _ _ (λ a. give _)
by_goes false false id x y c = raise _

shift_goes : (rows : List Row) (a : ℕ) (p : Prov) (by : ℤ) → GoesOn (shift rows a p by)
shift_goes rows a Empty by = raise _
shift_goes rows a (Whole x) by = need _ OutOfBounds _ (give _)
shift_goes rows a (Either id past start) by = bind (settle_by _ _ id past start OutOfBounds) _ (by_goes _ _ id past start OutOfBounds) (λ u. give _)

shifted_goes : (rows : List Row) (p : Pointer) (by : ℤ) → GoesOn (shifted rows p by)
shifted_goes rows p by = bind (shift rows p.address p.prov by) _ (shift_goes rows p.address p.prov by) (λ z. give _)

relational_goes : (op : RelOp) (b : Bool) (v w : Value) → GoesOn (relational op b v w)
relational_goes op true v w =
    bind (less (pointer_of v).prov (pointer_of w).prov) _
    (common_goes (in_common (candidates (pointer_of v).prov) (candidates (pointer_of w).prov)) (pointer_of v).prov (pointer_of w).prov PointerComparison)
    (λ u. give (bool_value (in_order op (pos (pointer_of v).address) (pos (pointer_of w).address))))
relational_goes op false v w = give _

difference_goes : (size : ℕ) (p q : Pointer) → GoesOn (difference size p q)
difference_goes size p q =
    bind (diff p.address p.prov q.address q.prov size) _ (need _ PointerDifference _ (common_goes _ p.prov q.prov PointerDifference)) (λ u. give _)

part_pointer_goes : (who : Event) (o : Option Prov) (a : ℕ) → GoesOn (part_pointer who o a)
part_pointer_goes who (Some p) a = give _
part_pointer_goes who None a = bind (from_int who a) _ (from_goes who a) (λ p. give _)

read_goes : (who : Event) (how : Access) (bs : List TaggedByte) (source : Option ℕ) → GoesOn (read_part who how bs source)
read_goes who (access.Integer k) bs source = need _ Indeterminate _ (need _ TrapRepresentation _ (bind (show_pieces bs) _ (pieces_go bs) (λ u. give _)))
read_goes who access.Pointer bs source =
    need (all_written bs) Indeterminate (part_pointer who (pointer_in bs) (number_of bs)) (part_pointer_goes who (pointer_in bs) (number_of bs))
read_goes who access.Function bs source = need _ Indeterminate _ (bind (show_pieces bs) _ (pieces_go bs) (λ u. give _))
read_goes who (access.Whole size align) bs source = give _

part_goes : (who : Event) (offset : ℕ) (how : Access) (v : Value) → GoesOn (part_of who offset how v)
part_goes who offset how (values.Whole bs source) = read_goes who how _ _
part_goes who offset how _ = give _

check_goes : (rows : List Row) (c : Change) (v : Value) (n : ℤ) → GoesOn (check_change rows c v n)
check_goes rows (change.Integer op kind work) v n = outcome_goes _
check_goes rows (change.Pointer size subtract) v n = shift_goes rows _ _ _

update_goes : (rows : List Row) (who : Event) (c : Change) (old : Bool) (ty : CType) (p : Pointer) (n : ℤ) → GoesOn (update_value rows who c old ty p n)
update_goes rows who c old ty p n =
    bind (load rows who _ ty p) _ (load_goes rows who _ ty p) (λ v. bind (check_change rows c v n) _ (check_goes rows c v n) (λ z. give _))

call_goes : (discarded : Bool) (v : Value) → GoesOn (call_value discarded v)
call_goes false Missing = raise _
call_goes true Missing = give _
call_goes false _ = give _
call_goes true _ = give _

member_goes : (rows : List Row) (offset : ℕ) (p : Pointer) → GoesOn (member rows offset p)
member_goes rows offset p =
    need (not ((p.address == 0) || is_empty p.prov)) InvalidPointer (shifted rows p (pos offset)) (shifted_goes rows p (pos offset))

act_goes : (rows : List Row) (who : Event) (h : Head) (ty : CType) (k : Kind) (vs : List Value) (own : Value) → is_body k ≡ false →
    GoesOn (act_of rows who h ty k vs own)
act_goes rows who h ty Body vs own q = absurd (true≢false q)
act_goes rows who (Load how) ty Val vs own q = load_goes rows who how ty (pointer_of (value_at vs 0))
act_goes rows who (Conv c) ty Val vs own q = convert_goes who c _
act_goes rows who (Un op) ty Val vs own q = unary_goes op _
act_goes rows who (Bin op kind) ty Val vs own q = int_outcome_goes _
act_goes rows who (PtrAdd size subtract) ty Val vs own q = shifted_goes rows _ _
act_goes rows who (PtrDiff size) ty Val vs own q = difference_goes size (pointer_of (value_at vs 0)) (pointer_of (value_at vs 1))
act_goes rows who (Rel op pointers) ty Val vs own q = relational_goes op pointers _ _
act_goes rows who (Member offset) ty Val vs own q = member_goes rows offset (pointer_of (value_at vs 0))
act_goes rows who (Part offset how) ty Val vs own q = part_goes who offset how _
act_goes rows who (Assign first how) ty Eff vs own q = put_goes rows first how ty (pointer_of (value_at vs 0)) (value_at vs 1)
act_goes rows who (Update c old) ty Val vs own q = update_goes rows who c old ty _ _
act_goes rows who (Update c old) ty Eff vs own q =
    put_goes rows false (change_access c) ty (pointer_of (value_at vs 0)) (new_value c old own (amount old vs))
act_goes rows who (Call discarded) ty Val vs own q = call_goes discarded own
act_goes rows who (Listed slot fillings) ty Eff vs own q = fill_goes rows _ fillings
act_goes rows who _ ty Val vs own q = give _
act_goes rows who _ ty Eff vs own q = give _

-- ---- picks
module _ (world : World) where
  pass_goes : (f : Scene) (turn k : ℕ) (ds : List Decl) (vs : List Value) → GoesOn (pass_all world f turn k ds vs)
  pass_goes f turn k (d ∷ ds) (v ∷ vs) =
      bind (put world.rows true d.access d.ty _ v) _ (put_goes world.rows true d.access d.ty _ v) (λ u. pass_goes f turn (suc k) ds vs)
  pass_goes f turn k [] vs = give _
  pass_goes f turn k (d ∷ ds) [] = give _

  create_goes : (x : ObjName) (size align : ℕ) (kind : _) (form : _) → GoesOn (create world.rows x size align kind form)
  create_goes x size align kind form = either _ _ _ (does_so _ _ (λ a. give _)) misplace

  bear_goes : (f : Scene) (turn k : ℕ) (ds : List Decl) (rest : Script Value) → GoesOn rest → GoesOn (bear_all world f turn k ds rest)
  bear_goes f turn k [] rest h = h
  bear_goes f turn k (d ∷ ds) rest h = bind (create world.rows _ d.size d.align _ d.form) _ (create_goes _ d.size d.align _ d.form)
      (λ u. bear_goes f turn (suc k) ds rest h)

  kill_goes : (f : Scene) (turn k : ℕ) (ds : List Decl) (rest : Script Value) → GoesOn rest → GoesOn (kill_all world f turn k ds rest)
  kill_goes f turn k [] rest h = h
  kill_goes f turn k (d ∷ ds) rest h = does_so _ _ (λ a. kill_goes f turn (suc k) ds rest h)

  control_goes : (f : Local) (ws : Todo) → GoesOn (control_act world f ws)
  control_goes f [] = give _
  control_goes f (Enter b ds ∷ ws) = bear_goes f.scene (suc f.scene.turn) 0 ds _ (pass_goes f.scene (suc f.scene.turn) 0 ds f.arguments)
  control_goes f (Leave b ds ∷ ws) = kill_goes f.scene _ 0 ds _ (give _)
  control_goes f (Unwrite d ∷ ws) = does_so _ _ (λ life. bind _ _ (either (is_some life) _ _ (does_so _ _ (λ a. give _)) (give _)) (λ u. give _))
  control_goes f (w ∷ ws) = give _

  event_goes : (f : Scene) (e : Begun) (u : Place) (o : Option Expr) → is_body u.kind ≡ false → GoesOn (event_act world f e u o)
  event_goes f e u None q = give _
  event_goes f e u (Some (expr h ty line es)) q =
      let who = event_of world f u in
      let vs = operand_values world f e.given (suc u.node) h es in
      let own = or_nothing (e.given (place u.node (own_kind u.kind))) in
      unless (is_body u.kind) (call_act world who h es (values_of world f e.given (suc u.node) es))
      (act_of world.rows who h (target (first_type es)) u.kind vs own) q
      (act_goes world.rows who h (target (first_type es)) u.kind vs own q)

  kind_is : (k : Kind) → is_body k ≡ true → k ≡ Body
  kind_is Body h = refl
  kind_is Val h = absurd (true≢false (sym h))
  kind_is Eff h = absurd (true≢false (sym h))

  ends : (x : Script Value) (s : Store) (n : ℕ) (is : List Item) (later : Store) → GoesOn x → run world.rows x s ≡ Ended n is later → ⊥
  ends x s n is later h q = subst NotEnded q (not_ended world.rows x s h)

  by_kind : (f : Local) (e : Begun) (u : Place) (s : Store) (n : ℕ) (is : List Item) (later : Store) (b : Bool) → is_body u.kind ≡ b
      → run world.rows (event_act world f.scene e u (at_node 0 e.root u.node)) s ≡ Ended n is later → u.kind ≡ Body
  by_kind f e u s n is later true k q = kind_is u.kind k
  by_kind f e u s n is later false k q = absurd (ends _ s n is later (event_goes f.scene e u (at_node 0 e.root u.node) k) q)

pub only_bodies_end : OnlyBodiesEnd
only_bodies_end world f None Control s n is later q = absurd (ends world _ s n is later (control_goes world f (ready_work f.todo)) q)
only_bodies_end world f None (Ev u) s n is later q = absurd (cc (q))
only_bodies_end world f (Some e) Control s n is later q = absurd (cc (q))
only_bodies_end world f (Some e) (Ev u) s n is later q = (u, refl, by_kind world f e u s n is later (is_body u.kind) refl q)
