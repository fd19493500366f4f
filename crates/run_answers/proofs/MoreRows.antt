-- The acts of nodes under the rows of a memory and under more.
use Rattle.std.proofs.Common.{◌≡◌, ℕ, ◌==◌, Bool, true, false, not, ◌&&◌, ◌||◌, List, [], ◌∷◌, length, Option, Some, None, is_some, if◌then◌else◌, refl}
use Rattle.std.proofs.Common.{ap, ap₂, sym, subst, ◌∙◌, ℤ, pos, ◌+ℤ◌}
use Rattle.std.specs.Prelude.{unsigned_abs, Result, Ok, Err}
use Rattle.ub_base.specs.declared.clause.Clause.{Clause}
use Rattle.ub_base.specs.declared.clause.Clause.TheVariants.{InvalidPointer, OutOfBounds, PointerAlignment, PointerDifference, PointerComparison}
use Rattle.ub_base.specs.declared.clause.Clause.TheVariants.{Indeterminate, TrapRepresentation, OverlappingAssignment, DeadObject, EffectiveType}
use Rattle.ub_base.specs.declared.names.Event.{Event}
use Rattle.ub_base.specs.declared.names.Item.{Item}
use Rattle.ub_base.specs.declared.names.ObjName.{ObjName}
use Rattle.addr_map.specs.declared.map.Row.{Row}
use Rattle.addr_map.specs.Rows.{row_of, covers, past}
use Rattle.exposure.specs.Choice.{chosen}
use Rattle.exposure.specs.declared.prov.Prov.{Prov}
use Rattle.exposure.specs.declared.prov.Prov.TheVariants.{Empty, Whole, Either}
use Rattle.c_arith.specs.Operators.{conv, bits}
use Rattle.c_types.specs.declared.kind.IntKind.TheVariants.{ULong}
use Rattle.c_types.specs.Types.{CType, int}
use Rattle.c_typed.specs.declared.tree.Access.{Access}
use Rattle.c_typed.specs.declared.tree.Access.TheVariants as access
use Rattle.c_typed.specs.declared.tree.Change.{Change}
use Rattle.c_typed.specs.declared.tree.Change.TheVariants as change
use Rattle.c_typed.specs.declared.tree.Conversion.{Conversion}
use Rattle.c_typed.specs.declared.tree.Conversion.TheVariants as conversion
use Rattle.c_typed.specs.declared.tree.RelOp.{RelOp}
use Rattle.c_typed.specs.declared.tree.UnOp.{UnOp}
use Rattle.c_typed.specs.declared.tree.UnOp.TheVariants as unary
use Rattle.mem_spec.specs.Agreement.{bytes_of_kind}
use Rattle.mem_spec.specs.Bytes.{number_bytes, pointer_bytes}
use Rattle.mem_spec.specs.Store.{Store, TaggedByte, Life, is_live, settled, range_from, findable}
use Rattle.mem_spec.specs.Script.{Script, Give, Raise, Finish, Exceed, Misplace, Do, Act, Done, Raised, Ended, Outside, Unplaced, run, require}
use Rattle.mem_spec.specs.Script.{Touch, Ask, Get, Put, Bear, Bury, Show, Find, Settle, Take, Print, item_of, refuses, refused, answer, left, touched, touch}
use Rattle.mem_spec.specs.Script.{◌>>=◌, ◌>>◌}
use Rattle.mem_spec.specs.Acts as acts
use Rattle.mem_spec.specs.Acts.{Accessed, Seen, scalar, whole, bytes, candidates, in_common, settle_common, settle_to, settle_by, show_each}
use Rattle.mem_spec.specs.Acts.{show_pieces, is_aligned}
use Rattle.mem_spec.specs.Acts.{shift, from_int, less, diff, is_multiple, all_written, is_trap, number_of, value_of, pointer_in, in_bounds}
use Rattle.mem_spec.specs.Acts.{some_live, target_lives, pointer_or_number}
use Rattle.c_model.specs.Nodes.{bool_value, call_value, changed, check_change, content_bytes, convert, difference, equal, fill, given_back}
use Rattle.c_model.specs.Nodes.{in_order, int_outcome, is_empty, load, member}
use Rattle.c_model.specs.Nodes.{outcome, overlap_inexactly, part_of, part_pointer, put, put_whole, read_part, relational, shifted, unary_value, update_value}
use Rattle.c_model.specs.Nodes as nodes
use Rattle.c_model.specs.Program.{Filling}
use Rattle.c_model.specs.Values as model
use Rattle.c_model.specs.Values.{Value, Int, Ptr, Fun, Pointer, Nothing, pointer_value, integer_of, pointer_of, function_in, int_bytes, address_after}
use Rattle.libc_arguments.proofs.Scripts.{then as onward, behind, run_then}
use Rattle.mem_laws.specs.MoreRows.{Extends, StandIn, BearsIn, AreIn}
use Rattle.mem_laws.proofs.MoreRows.{run_same, access_same, row_same}
use Rattle.mem_laws.proofs.MoreActs.{bears_accessed, bears_from, bears_shift}
use Rattle.mem_laws.proofs.MoreActs.{read_int, read_func, read_ptr, read_block, write_all, bears_int, bears_func, bears_ptr, bears_write}

-- ---- scripts that create nothing
module _ (rows : List Row) where
  bears_bind : {A B : Type 0} (p : Script A) (k : A → Script B) → BearsIn rows p → ((v : A) → BearsIn rows (k v)) → BearsIn rows (p >>= k)
  bears_bind (Give v) k b h = h v
  bears_bind (Raise c) k b h = tt
  bears_bind (Finish n) k b h = tt
  bears_bind (Exceed c n) k b h = tt
  bears_bind Misplace k b h = tt
  bears_bind (Do (Bear x size kind declared) g) k b h = (b.0, λ r. bears_bind (g r) k (b.1 r) h)
  bears_bind (Do (Ask x) g) k b h = λ r. bears_bind (g r) k (b r) h
  bears_bind (Do (Get x a n) g) k b h = λ r. bears_bind (g r) k (b r) h
  bears_bind (Do (Put x a bs) g) k b h = λ r. bears_bind (g r) k (b r) h
  bears_bind (Do (Bury x) g) k b h = λ r. bears_bind (g r) k (b r) h
  bears_bind (Do (Show x) g) k b h = λ r. bears_bind (g r) k (b r) h
  bears_bind (Do (Find a) g) k b h = λ r. bears_bind (g r) k (b r) h
  bears_bind (Do (Settle id x c) g) k b h = λ r. bears_bind (g r) k (b r) h
  bears_bind (Do Take g) k b h = λ r. bears_bind (g r) k (b r) h
  bears_bind (Do (Print to bs) g) k b h = λ r. bears_bind (g r) k (b r) h

  bears_then : {B : Type 0} (b : Bool) (c : Clause) (p : Script B) → BearsIn rows p → BearsIn rows (require b c >> p)
  bears_then true c p h = h
  bears_then false c p h = tt

  bears_show : (xs : List ObjName) → BearsIn rows (show_each xs)
  bears_show [] = tt
  bears_show (x ∷ xs) = λ r. bears_show xs

  bears_pieces : (bs : List TaggedByte) → BearsIn rows (show_pieces bs)
  bears_pieces [] = tt
  bears_pieces (b ∷ bs) = bears_bind (show_each (acts.origins_in b.byte)) (λ u. show_pieces bs) (bears_show (acts.origins_in b.byte)) (λ u. bears_pieces bs)

  bears_required : (b : Bool) (c : Clause) → BearsIn rows (require b c)
  bears_required true c = tt
  bears_required false c = tt

-- .. and look at no row
module _ (rows : List Row) where
  bears_outcome : (r : Result ℤ Clause) → BearsIn rows (int_outcome r)
  bears_outcome (Ok z) = tt
  bears_outcome (Err c) = tt

  bears_settle : (p : Prov) (x : ObjName) (c : Clause) → BearsIn rows (settle_to p x c)
  bears_settle Empty x c = tt
  bears_settle (Whole y) x c = tt
  bears_settle (Either id past start) x c = λ r. tt

  bears_common : (xs : List ObjName) (p q : Prov) (c : Clause) → BearsIn rows (settle_common xs p q c)
  bears_common [] p q c = tt
  bears_common (x ∷ []) p q c = bears_bind rows (settle_to p x c) (λ u. settle_to q x c) (bears_settle p x c) (λ u. bears_settle q x c)
  bears_common (x ∷ y ∷ ys) p q c = tt

  bears_less : {V : Type 0} (p q : Prov) (v : V) → BearsIn rows (less p q >> Give v)
  bears_less {V} p q v =
      bears_bind rows (less p q) (λ u. Give v) (bears_common (in_common (candidates p) (candidates q)) p q PointerComparison) (λ u. tt)

  bears_diff : {V : Type 0} (a b size : ℕ) (p q : Prov) (v : V) → BearsIn rows (diff a p b q size >> Give v)
  bears_diff {V} a b size p q v =
      bears_bind rows (diff a p b q size) (λ u. Give v)
      (bears_then rows (is_multiple size a b) PointerDifference (settle_common (in_common (candidates p) (candidates q)) p q PointerDifference)
      (bears_common (in_common (candidates p) (candidates q)) p q PointerDifference)) (λ u. tt)

  bears_convert : (who : Event) (c : Conversion) (v : Value) → BearsIn rows (convert who c v)
  bears_convert who (conversion.Integer k) v = tt
  bears_convert who (conversion.Address k) v =
      bears_bind rows (show_each (candidates (pointer_of v).prov)) (λ u. Give (Int (conv k (pos (pointer_of v).address))))
      (bears_show rows (candidates (pointer_of v).prov)) (λ u. tt)
  bears_convert who conversion.NotNull v = tt
  bears_convert who conversion.Lookup v =
      bears_bind rows (from_int who (bits ULong (integer_of v))) (λ prov. Give (Ptr (bits ULong (integer_of v)) prov))
      (bears_from rows who (bits ULong (integer_of v))) (λ prov. tt)
  bears_convert who (conversion.Pointer align) v =
      bears_then rows (is_aligned align (pointer_of v).address) PointerAlignment (Give (pointer_value (pointer_of v))) tt
  bears_convert who conversion.Function v = tt

  bears_unary : (op : UnOp) (v : Value) → BearsIn rows (unary_value op v)
  bears_unary (unary.Minus k) v = bears_outcome (Rattle.c_arith.specs.Operators.negated k (conv k (integer_of v)))
  bears_unary (unary.Complement k) v = tt
  bears_unary unary.Not v = tt

  bears_related : (op : RelOp) (pointers : Bool) (v w : Value) → BearsIn rows (relational op pointers v w)
  bears_related op true v w =
      bears_less (pointer_of v).prov (pointer_of w).prov (bool_value (in_order op (pos (pointer_of v).address) (pos (pointer_of w).address)))
  bears_related op false v w = tt

  bears_part_pointer : (who : Event) (o : Option Prov) (a : ℕ) → BearsIn rows (part_pointer who o a)
  bears_part_pointer who (Some prov) a = tt
  bears_part_pointer who None a = bears_bind rows (from_int who a) (λ prov. Give (Ptr a prov)) (bears_from rows who a) (λ prov. tt)

  bears_shown : (bs : List TaggedByte) (v : Value) → BearsIn rows (show_pieces bs >> Give v)
  bears_shown bs v = bears_bind rows (show_pieces bs) (λ u. Give v) (bears_pieces rows bs) (λ u. tt)

  bears_read : (who : Event) (how : Access) (bs : List TaggedByte) (source : Option ℕ) → BearsIn rows (read_part who how bs source)
  bears_read who (access.Integer k) bs source =
      bears_then rows (all_written bs) Indeterminate
      (require (not (is_trap k (number_of bs))) TrapRepresentation >> (show_pieces bs >> Give (Int (value_of k (number_of bs)))))
      (bears_then rows (not (is_trap k (number_of bs))) TrapRepresentation (show_pieces bs >> Give (Int (value_of k (number_of bs))))
      (bears_shown bs (Int (value_of k (number_of bs)))))
  bears_read who access.Pointer bs source =
      bears_then rows (all_written bs) Indeterminate (part_pointer who (pointer_in bs) (number_of bs))
      (bears_part_pointer who (pointer_in bs) (number_of bs))
  bears_read who access.Function bs source =
      bears_then rows (all_written bs) Indeterminate (show_pieces bs >> Give (Fun (number_of bs))) (bears_shown bs (Fun (number_of bs)))
  bears_read who (access.Whole size align) bs source = tt

  bears_part : (who : Event) (offset : ℕ) (how : Access) (v : Value) → BearsIn rows (part_of who offset how v)
  bears_part who offset how (model.Whole bs source) =
      bears_read who how (model.part_bytes offset (nodes.width_of how) bs) (model.moved_source offset source)
  bears_part who offset how (Int z) = tt
  bears_part who offset how (Ptr a p) = tt
  bears_part who offset how (Fun a) = tt
  bears_part who offset how model.Missing = tt
  bears_part who offset how Nothing = tt

  bears_call : (discarded : Bool) (v : Value) → BearsIn rows (call_value discarded v)
  bears_call true v = tt
  bears_call false model.Missing = tt
  bears_call false (Int z) = tt
  bears_call false (Ptr a p) = tt
  bears_call false (Fun a) = tt
  bears_call false (model.Whole bs source) = tt
  bears_call false Nothing = tt

module _ (few more : List Row) (ext : Extends few more) where
  -- ---- acts that look at rows where pointers point
  abbrev Reaches : Pointer → Type 0
  Reaches p = AreIn few p.prov

  accessed : {B : Type 0} (len align : ℕ) (p : Pointer) (k : Accessed → Script B) → Reaches p
      → acts.access more len align p.address p.prov >>= k ≡ acts.access few len align p.address p.prov >>= k
  accessed {B} len align p k in_few = ap (λ (x : Script Accessed). x >>= k) (access_same few more ext len align p.address p.prov in_few)

  -- a load
  pub same_load : (who : Event) (how : Access) (ty : CType) (p : Pointer) → Reaches p → load more who how ty p ≡ load few who how ty p
  same_load who (access.Integer k) ty p in_few =
      ap (λ (x : Script ℤ). x >>= (λ z. Give (Int z))) (accessed (bytes_of_kind k) (bytes_of_kind k) p (read_int few k) in_few)
  same_load who access.Pointer ty p in_few =
      ap (λ (x : Script (ℕ × Prov)). x >>= (λ q. Give (Ptr q.0 q.1))) (accessed 8 8 p (read_ptr few ty who) in_few)
  same_load who access.Function ty p in_few = ap (λ (x : Script ℕ). x >>= (λ n. Give (Fun n))) (accessed 8 8 p (read_func few ty) in_few)
  same_load who (access.Whole size align) ty p in_few =
      ap (λ (x : Script (List TaggedByte)). x >>= (λ bs. Give (model.Whole bs (Some p.address)))) (accessed size align p (read_block few size) in_few)

  bears_load : (who : Event) (how : Access) (ty : CType) (p : Pointer) → BearsIn few (load few who how ty p)
  bears_load who (access.Integer k) ty p =
      bears_bind few (acts.load_int few k p.address p.prov) (λ z. Give (Int z))
      (bears_accessed few (bytes_of_kind k) (bytes_of_kind k) p.address p.prov (read_int few k) (bears_int few k)) (λ z. tt)
  bears_load who access.Pointer ty p =
      bears_bind few (acts.load_ptr few ty who 8 p.address p.prov) (λ q. Give (Ptr q.0 q.1))
      (bears_accessed few 8 8 p.address p.prov (read_ptr few ty who) (bears_ptr few ty who)) (λ q. tt)
  bears_load who access.Function ty p =
      bears_bind few (acts.load_func few ty p.address p.prov) (λ n. Give (Fun n))
      (bears_accessed few 8 8 p.address p.prov (read_func few ty) (bears_func few ty)) (λ n. tt)
  bears_load who (access.Whole size align) ty p =
      bears_bind few (acts.load_block few size align p.address p.prov) (λ bs. Give (model.Whole bs (Some p.address)))
      (bears_accessed few size align p.address p.prov (read_block few size) (λ at bs. tt)) (λ bs. tt)

  -- a move
  same_row : (x : ObjName) → is_some (row_of few x) ≡ true → row_of more x ≡ row_of few x
  same_row x in_few = row_same few more ext x (row_of few x) refl in_few

  same_shift : (a : ℕ) (p : Prov) (by : ℤ) → AreIn few p → shift more a p by ≡ shift few a p by
  same_shift a Empty by in_few = refl
  same_shift a (Whole x) by in_few =
      ap (λ (row : Option Row). require (in_bounds row (pos a +ℤ by)) OutOfBounds >> Give (pos a +ℤ by)) (same_row x in_few)
  same_shift a (Either id past start) by in_few =
      ap₂ (λ (p q : Option Row). settle_by (in_bounds p (pos a +ℤ by)) (in_bounds q (pos a +ℤ by)) id past start OutOfBounds >> Give (pos a +ℤ by))
      (same_row past in_few.0) (same_row start in_few.1)

  pub same_shifted : (p : Pointer) (by : ℤ) → Reaches p → shifted more p by ≡ shifted few p by
  same_shifted p by in_few = ap (λ (x : Script ℤ). x >>= (λ z. Give (Ptr (unsigned_abs z) p.prov))) (same_shift p.address p.prov by in_few)

  bears_shifted : (p : Pointer) (by : ℤ) → BearsIn few (shifted few p by)
  bears_shifted p by =
      bears_bind few (shift few p.address p.prov by) (λ z. Give (Ptr (unsigned_abs z) p.prov)) (bears_shift few p.address p.prov by) (λ z. tt)

  pub same_member : (offset : ℕ) (p : Pointer) → Reaches p → member more offset p ≡ member few offset p
  same_member offset p in_few =
      ap (λ (x : Script Value). require (not ((p.address == 0) || is_empty p.prov)) InvalidPointer >> x) (same_shifted p (pos offset) in_few)

  bears_member : (offset : ℕ) (p : Pointer) → BearsIn few (member few offset p)
  bears_member offset p =
      bears_then few (not ((p.address == 0) || is_empty p.prov)) InvalidPointer (shifted few p (pos offset)) (bears_shifted p (pos offset))

  -- a store
  stored : (first : Bool) (via : Seen) (align : ℕ) (p : Pointer) (bs : List TaggedByte) → Reaches p
      → acts.store more first via align p.address p.prov bs ≡ acts.store few first via align p.address p.prov bs
  stored first via align p bs in_few = accessed (length bs) align p (write_all few first via bs) in_few

  bears_stored : {B : Type 0} (first : Bool) (via : Seen) (align : ℕ) (p : Pointer) (bs : List TaggedByte) (k : Script B) → BearsIn few k
      → BearsIn few (acts.store few first via align p.address p.prov bs >> k)
  bears_stored {B} first via align p bs k h =
      bears_bind few (acts.store few first via align p.address p.prov bs) (λ u. k)
      (bears_accessed few (length bs) align p.address p.prov (write_all few first via bs) (bears_write few first via bs)) (λ u. h)

  stored_then : {B : Type 0} (first : Bool) (via : Seen) (align : ℕ) (p : Pointer) (bs : List TaggedByte) (k : Script B) → Reaches p
      → acts.store more first via align p.address p.prov bs >> k ≡ acts.store few first via align p.address p.prov bs >> k
  stored_then {B} first via align p bs k in_few = ap (λ (x : Script (Unit {0})). x >> k) (stored first via align p bs in_few)

  same_whole : (first : Bool) (size align : ℕ) (p : Pointer) (v : Value) → Reaches p
      → put_whole more first size align p v ≡ put_whole few first size align p v
  same_whole first size align p (model.Whole bs source) in_few =
      stored_then first whole align p bs (require (not (overlap_inexactly size p.address source)) OverlappingAssignment >> Give Nothing) in_few
  same_whole first size align p (Int z) in_few = refl
  same_whole first size align p (Ptr a q) in_few = refl
  same_whole first size align p (Fun a) in_few = refl
  same_whole first size align p model.Missing in_few = refl
  same_whole first size align p Nothing in_few = refl

  pub same_put : (first : Bool) (how : Access) (ty : CType) (p : Pointer) (v : Value) → Reaches p → put more first how ty p v ≡ put few first how ty p v
  same_put first (access.Integer k) ty p v in_few =
      stored_then first (scalar (int k)) (bytes_of_kind k) p (int_bytes k (integer_of v)) (Give Nothing) in_few
  same_put first access.Pointer ty p v in_few =
      stored_then first (scalar ty) 8 p (pointer_bytes 8 0 (pointer_of v).prov (pointer_of v).address) (Give Nothing) in_few
  same_put first access.Function ty p v in_few = stored_then first (scalar ty) 8 p (number_bytes 8 (function_in v)) (Give Nothing) in_few
  same_put first (access.Whole size align) ty p v in_few = same_whole first size align p v in_few

  -- an initialization, whose bytes are the same
  abbrev pub SameContents : List Filling → Type 0
  SameContents [] = Unit {0}
  SameContents (c ∷ cs) = (content_bytes more c.content ≡ content_bytes few c.content) × SameContents cs

  same_fill : (p : Pointer) (cs : List Filling) → Reaches p → SameContents cs → fill more p cs ≡ fill few p cs
  same_fill p [] in_few same = refl
  same_fill p (c ∷ cs) in_few same =
      ap (λ (bs : List TaggedByte). acts.store more true bytes 1 (address_after p.address c.offset) p.prov bs >> fill more p cs) same.0
      ∙ (stored_then true bytes 1 (record { address = address_after p.address c.offset; prov = p.prov }) (content_bytes few c.content) (fill more p cs) in_few
      ∙ ap (λ (k : Script Value). acts.store few true bytes 1 (address_after p.address c.offset) p.prov (content_bytes few c.content) >> k)
      (same_fill p cs in_few same.1))

  bears_fill : (p : Pointer) (cs : List Filling) → BearsIn few (fill few p cs)
  bears_fill p [] = tt
  bears_fill p (c ∷ cs) =
      bears_stored true bytes 1 (record { address = address_after p.address c.offset; prov = p.prov }) (content_bytes few c.content) (fill few p cs)
      (bears_fill p cs)

  bears_whole : (first : Bool) (size align : ℕ) (p : Pointer) (v : Value) → BearsIn few (put_whole few first size align p v)
  bears_whole first size align p (model.Whole bs source) =
      bears_stored first whole align p bs (require (not (overlap_inexactly size p.address source)) OverlappingAssignment >> Give Nothing)
      (bears_then few (not (overlap_inexactly size p.address source)) OverlappingAssignment (Give Nothing) tt)
  bears_whole first size align p (Int z) = tt
  bears_whole first size align p (Ptr a q) = tt
  bears_whole first size align p (Fun a) = tt
  bears_whole first size align p model.Missing = tt
  bears_whole first size align p Nothing = tt

  bears_put : (first : Bool) (how : Access) (ty : CType) (p : Pointer) (v : Value) → BearsIn few (put few first how ty p v)
  bears_put first (access.Integer k) ty p v = bears_stored first (scalar (int k)) (bytes_of_kind k) p (int_bytes k (integer_of v)) (Give Nothing) tt
  bears_put first access.Pointer ty p v =
      bears_stored first (scalar ty) 8 p (pointer_bytes 8 0 (pointer_of v).prov (pointer_of v).address) (Give Nothing) tt
  bears_put first access.Function ty p v = bears_stored first (scalar ty) 8 p (number_bytes 8 (function_in v)) (Give Nothing) tt
  bears_put first (access.Whole size align) ty p v = bears_whole first size align p v

-- ---- a pointer that is loaded
abbrev pub OriginIn : List Row → Option Prov → Type 0
OriginIn rows None = Unit {0}
OriginIn rows (Some prov) = AreIn rows prov

-- what the pieces of pointers in the store were made from has rows
abbrev pub PiecesIn : List Row → Store → Type 0
PiecesIn rows s = (x : ObjName) (at : ℕ) → OriginIn rows (acts.origin_in (s.bytes x at).byte)

module _ (few : List Row) where
  pub record Known (s : Store) : Type 0 where
    pub stand : StandIn few s
    pub pieces : PiecesIn few s

  -- wherever the script goes on from a store of which this is known, each value that it gives has the property
  abbrev Yields : {V : Type 0} → (V → Type 0) → Script V → Type 0
  Yields P (Give v) = P v
  Yields P (Do t k) = (s : Store) → Known s → Known (left t s) × Yields P (k (answer few t s))
  Yields P _ = Unit {0}

  yields_bind : {A B : Type 0} (P : A → Type 0) (Q : B → Type 0) (p : Script A) (k : A → Script B) → Yields P p → ((v : A) → P v → Yields Q (k v))
      → Yields Q (p >>= k)
  yields_bind P Q (Give v) k y h = h v y
  yields_bind P Q (Raise c) k y h = tt
  yields_bind P Q (Finish n) k y h = tt
  yields_bind P Q (Exceed c n) k y h = tt
  yields_bind P Q Misplace k y h = tt
  yields_bind P Q (Do t g) k y h = λ s known. ((y s known).0, yields_bind P Q (g (answer few t s)) k (y s known).1 h)

  yields_then : {B : Type 0} (Q : B → Type 0) (b : Bool) (c : Clause) (p : Script B) → Yields Q p → Yields Q (require b c >> p)
  yields_then Q true c p y = y
  yields_then Q false c p y = tt

  -- what a run gives
  touched_done : {V : Type 0} (i : Item) (a : Act V) (v : V) (is : List Item) (u : Store) → touched i a ≡ Done v is u
      → (js : List Item) × (a ≡ Done v js u)
  touched_done i (Done w js t) v is u e = (js, cc)
  touched_done i (Raised c) v is u e = absurd (cc)
  touched_done i (Ended n js t) v is u e = absurd (cc)
  touched_done i (Outside c n) v is u e = absurd (cc)
  touched_done i Unplaced v is u e = absurd (cc)

  refused_done : {V : Type 0} (t : Touch) (v : V) (is : List Item) (u : Store) → refused t ≡ Done v is u → ⊥
  refused_done (Settle id x c) v is u e = cc
  refused_done (Ask x) v is u e = cc
  refused_done (Get x a n) v is u e = cc
  refused_done (Put x a bs) v is u e = cc
  refused_done (Bear x n kind declared) v is u e = cc
  refused_done (Bury x) v is u e = cc
  refused_done (Show x) v is u e = cc
  refused_done (Find a) v is u e = cc
  refused_done Take v is u e = cc
  refused_done (Print to bs) v is u e = cc

  went_on : {V : Type 0} (b : Bool) (t : Touch) (a : Act V) (v : V) (is : List Item) (u : Store)
      → (if b then refused t else touched (item_of t) a) ≡ Done v is u → (js : List Item) × (a ≡ Done v js u)
  went_on true t a v is u e = absurd (refused_done t v is u e)
  went_on false t a v is u e = touched_done (item_of t) a v is u e

  yields_run : {V : Type 0} (P : V → Type 0) (p : Script V) (s u : Store) (v : V) (is : List Item) → Yields P p → Known s → run few p s ≡ Done v is u → P v
  yields_run {V} P (Give w) s u v is y known e = subst P (the_value e) y
    where
      the_value : {w : V} → Done w [] s ≡ Done v is u → w ≡ v
      the_value e = cc
  yields_run P (Raise c) s u v is y known e = absurd (cc)
  yields_run P (Finish n) s u v is y known e = absurd (cc)
  yields_run P (Exceed c n) s u v is y known e = absurd (cc)
  yields_run P Misplace s u v is y known e = absurd (cc)
  yields_run P (Do t k) s u v is y known e =
      let next = y s known in
      let rest = went_on (refuses t s) t (run few (k (answer few t s)) (left t s)) v is u e in
      yields_run P (k (answer few t s)) (left t s) u v rest.0 next.1 next.0 rest.1

  -- an access
  settled_known : (s : Store) (id : Event) (x : ObjName) → Known s → Known (settled s id x)
  settled_known s id x known = record { stand = known.stand; pieces = known.pieces }

  abbrev Any : {V : Type 0} → V → Type 0
  Any v = Unit {0}

  yields_object : (len a : ℕ) (prov : Prov) → Yields Any (acts.object_of few len a prov)
  yields_object len a Empty = tt
  yields_object len a (Whole x) = tt
  yields_object len a (Either id past start) = go (acts.in_row (row_of few past) a len) (acts.in_row (row_of few start) a len)
    where
      go : (first second : Bool) → Yields Any (if first then touch (Settle id past OutOfBounds) >> Give past
          else (if second then touch (Settle id start OutOfBounds) >> Give start else Raise OutOfBounds))
      go true second = λ s known. (settled_known s id past known, tt)
      go false true = λ s known. (settled_known s id start known, tt)
      go false false = tt

  yields_checks : (b1 b2 b3 : Bool) (v : Accessed)
      → Yields Any (require b1 DeadObject >> (require b2 OutOfBounds >> (require b3 InvalidPointer >> Give v)))
  yields_checks true true true v = tt
  yields_checks true true false v = tt
  yields_checks true false b3 v = tt
  yields_checks false b2 b3 v = tt

  yields_access : (len align a : ℕ) (prov : Prov) → Yields Any (acts.access few len align a prov)
  yields_access len align a prov =
      yields_then Any (not (a == 0)) InvalidPointer
      (acts.object_of few len a prov >>= (λ x. touch (Ask x) >>= (λ life. require (is_live life) DeadObject
      >> (require (acts.in_row (row_of few x) a len) OutOfBounds
      >> (require (is_aligned align a) InvalidPointer >> Give (record { object = x; from = acts.offset_in (row_of few x) a; life = life }))))))
      (yields_bind Any Any (acts.object_of few len a prov)
      (λ x. touch (Ask x) >>= (λ life. require (is_live life) DeadObject >> (require (acts.in_row (row_of few x) a len) OutOfBounds
      >> (require (is_aligned align a) InvalidPointer >> Give (record { object = x; from = acts.offset_in (row_of few x) a; life = life })))))
      (yields_object len a prov)
      (λ x u s known. (
        known,
        yields_checks (is_live (s.life x)) (acts.in_row (row_of few x) a len) (is_aligned align a)
            (record { object = x; from = acts.offset_in (row_of few x) a; life = s.life x }),
      )))

  -- what a pointer is made from
  abbrev pub Pointed : ℕ × Prov → Type 0
  Pointed q = AreIn few q.1

  abbrev Found : Option ObjName → Type 0
  Found None = Unit {0}
  Found (Some x) = is_some (row_of few x) ≡ true

  found_in : (s : Store) (o : Option ObjName) → Known s → Found (findable s o)
  found_in s None known = tt
  found_in s (Some x) known = go (s.exposed x) (s.life x) refl
    where
      go : (b : Bool) (l : Option Life) → s.life x ≡ l → Found (if b && is_live l then Some x else None)
      go true (Some l) e = live l.live (known.stand x (ap is_some e))
        where
          live : (c : Bool) → is_some (row_of few x) ≡ true → Found (if c then Some x else None)
          live true row = row
          live false row = tt
      go true None e = tt
      go false l e = tt

  chosen_in : (inside past : Option ObjName) (who : Event) → Found inside → Found past → AreIn few (chosen inside past who)
  chosen_in None None who f g = tt
  chosen_in (Some x) None who f g = f
  chosen_in None (Some y) who f g = g
  chosen_in (Some x) (Some y) who f g = (g, f)

  yields_from : (who : Event) (a : ℕ) → Yields (AreIn few) (from_int who a)
  yields_from who a = go (a == 0)
    where
      go : (b : Bool) → Yields (AreIn few) (if b then Give Empty else (touch (Find a) >>= (λ at. Give (chosen at.0 at.1 who))))
      go true = tt
      go false = λ s known.
          (known, chosen_in (findable s (covers few a)) (findable s (past few a)) who (found_in s (covers few a) known) (found_in s (past few a) known))

  yields_live : (xs : List ObjName) → Yields Any (some_live xs)
  yields_live [] = tt
  yields_live (x ∷ xs) = λ s known. (known, yields_bind Any Any (some_live xs) (λ rest. Give (is_live (s.life x) || rest)) (yields_live xs) (λ rest u. tt))

  yields_required : (b : Bool) (c : Clause) → Yields Any (require b c)
  yields_required true c = tt
  yields_required false c = tt

  yields_target : (prov : Prov) → Yields Any (target_lives prov)
  yields_target Empty = tt
  yields_target (Whole x) =
      yields_bind Any Any (some_live (x ∷ [])) (λ ok. require ok DeadObject) (yields_live (x ∷ [])) (λ ok u. yields_required ok DeadObject)
  yields_target (Either id past start) =
      yields_bind Any Any (some_live (past ∷ start ∷ [])) (λ ok. require ok DeadObject) (yields_live (past ∷ start ∷ []))
      (λ ok u. yields_required ok DeadObject)

  yields_pointer : (who : Event) (o : Option Prov) (a : ℕ) → OriginIn few o → Yields Pointed (pointer_or_number who o a)
  yields_pointer who (Some prov) a h = yields_bind Any Pointed (target_lives prov) (λ u. Give (a, prov)) (yields_target prov) (λ u v. h)
  yields_pointer who None a h = yields_bind (AreIn few) Pointed (from_int who a) (λ prov. Give (a, prov)) (yields_from who a) (λ prov in_few. in_few)

  pieces_in : (bs : List TaggedByte) (o : Option Prov) → OriginIn few o → OriginIn few (acts.pointer_if o bs)
  pieces_in bs None h = tt
  pieces_in bs (Some prov) h = go (acts.are_pieces prov 0 bs)
    where
      go : (b : Bool) → OriginIn few (if b then Some prov else None)
      go true = h
      go false = tt

  yields_read : (ty : CType) (who : Event) (at : Accessed) → Yields Pointed (read_ptr few ty who at)
  yields_read ty who at = λ s known.
      let bs = range_from (s.bytes at.object) at.from 8 in (
        known,
        yields_then Pointed (acts.suits_load ty (acts.declared_of at.life) at.from bs) EffectiveType
            (require (all_written bs) Indeterminate >> pointer_or_number who (pointer_in bs) (number_of bs))
            (yields_then Pointed (all_written bs) Indeterminate (pointer_or_number who (pointer_in bs) (number_of bs))
            (yields_pointer who (pointer_in bs) (number_of bs)
            (pieces_in bs (acts.origin_in (s.bytes at.object at.from).byte) (known.pieces at.object at.from)))),
      )

  yields_load : (ty : CType) (who : Event) (align a : ℕ) (prov : Prov) → Yields Pointed (acts.load_ptr few ty who align a prov)
  yields_load ty who align a prov =
      yields_bind Any Pointed (acts.access few 8 align a prov) (read_ptr few ty who) (yields_access 8 align a prov) (λ at u. yields_read ty who at)

  -- a pointer that is loaded was made from what has rows
  pub loaded_in : (ty : CType) (who : Event) (p : Pointer) (s u : Store) (v : Value) (is : List Item) → Known s
      → run few (load few who access.Pointer ty p) s ≡ Done v is u → AreIn few (pointer_of v).prov
  loaded_in ty who p s u v is known e =
      yields_run (λ (w : Value). AreIn few (pointer_of w).prov) (load few who access.Pointer ty p) s u v is
      (yields_bind Pointed (λ (w : Value). AreIn few (pointer_of w).prov) (acts.load_ptr few ty who 8 p.address p.prov) (λ q. Give (Ptr q.0 q.1))
      (yields_load ty who 8 p.address p.prov) (λ q in_few. in_few)) known e

-- ---- an update
then_where : {A B : Type 0} (a : Act A) (k j : A → Store → Act B) → ((v : A) (is : List Item) (u : Store) → a ≡ Done v is u → k v u ≡ j v u)
    → onward a k ≡ onward a j
then_where (Done v is u) k j h = ap (behind is) (h v is u refl)
then_where (Raised c) k j h = refl
then_where (Ended n is u) k j h = refl
then_where (Outside c n) k j h = refl
then_where Unplaced k j h = refl

module _ (few more : List Row) (ext : Extends few more) (s : Store) (known : Known few s) where
  same : {V : Type 0} (p q : Script V) → p ≡ q → BearsIn few q → run more p s ≡ run few q s
  same {V} p q e bears = ap (λ (x : Script V). run more x s) e ∙ run_same few more ext V q s known.stand bears

  pub load_more : (who : Event) (how : Access) (ty : CType) (p : Pointer) → AreIn few p.prov
      → run more (load more who how ty p) s ≡ run few (load few who how ty p) s
  load_more who how ty p in_few = same (load more who how ty p) (load few who how ty p) (same_load few more ext who how ty p in_few)
      (bears_load few more ext who how ty p)

  pub convert_more : (who : Event) (c : Conversion) (v : Value) → run more (convert who c v) s ≡ run few (convert who c v) s
  convert_more who c v = same (convert who c v) (convert who c v) refl (bears_convert few who c v)

  pub unary_more : (op : UnOp) (v : Value) → run more (unary_value op v) s ≡ run few (unary_value op v) s
  unary_more op v = same (unary_value op v) (unary_value op v) refl (bears_unary few op v)

  pub outcome_more : (r : Result ℤ Clause) → run more (int_outcome r) s ≡ run few (int_outcome r) s
  outcome_more r = same (int_outcome r) (int_outcome r) refl (bears_outcome few r)

  pub part_more : (who : Event) (offset : ℕ) (how : Access) (v : Value) → run more (part_of who offset how v) s ≡ run few (part_of who offset how v) s
  part_more who offset how v = same (part_of who offset how v) (part_of who offset how v) refl (bears_part few who offset how v)

  pub call_more : (discarded : Bool) (v : Value) → run more (call_value discarded v) s ≡ run few (call_value discarded v) s
  call_more discarded v = same (call_value discarded v) (call_value discarded v) refl (bears_call few discarded v)

  pub shifted_more : (p : Pointer) (by : ℤ) → AreIn few p.prov → run more (shifted more p by) s ≡ run few (shifted few p by) s
  shifted_more p by in_few = same (shifted more p by) (shifted few p by) (same_shifted few more ext p by in_few) (bears_shifted few more ext p by)

  pub member_more : (offset : ℕ) (p : Pointer) → AreIn few p.prov → run more (member more offset p) s ≡ run few (member few offset p) s
  member_more offset p in_few =
      same (member more offset p) (member few offset p) (same_member few more ext offset p in_few) (bears_member few more ext offset p)

  pub difference_more : (size : ℕ) (p q : Pointer) → run more (difference size p q) s ≡ run few (difference size p q) s
  difference_more size p q =
      same (difference size p q) (difference size p q) refl (bears_diff few p.address q.address size p.prov q.prov _)

  pub relational_more : (op : RelOp) (pointers : Bool) (v w : Value) → run more (relational op pointers v w) s ≡ run few (relational op pointers v w) s
  relational_more op pointers v w = same (relational op pointers v w) (relational op pointers v w) refl (bears_related few op pointers v w)

  pub put_more : (first : Bool) (how : Access) (ty : CType) (p : Pointer) (v : Value) → AreIn few p.prov
      → run more (put more first how ty p v) s ≡ run few (put few first how ty p v) s
  put_more first how ty p v in_few =
      same (put more first how ty p v) (put few first how ty p v) (same_put few more ext first how ty p v in_few) (bears_put few more ext first how ty p v)

  pub fill_more : (p : Pointer) (cs : List Filling) → AreIn few p.prov → SameContents few more ext cs → run more (fill more p cs) s ≡ run few (fill few p cs) s
  fill_more p cs in_few contents = same (fill more p cs) (fill few p cs) (same_fill few more ext p cs in_few contents) (bears_fill few more ext p cs)

  -- pointer arithmetic on any store
  settles : (b1 b2 : Bool) (id : Event) (x y : ObjName) (c : Clause) (by : ℤ) (u : Store)
      → run more (settle_by b1 b2 id x y c >> Give by) u ≡ run few (settle_by b1 b2 id x y c >> Give by) u
  settles true true id x y c by u = refl
  settles true false id x y c by u = refl
  settles false true id x y c by u = refl
  settles false false id x y c by u = refl

  bounded : (b : Bool) (by : ℤ) (u : Store) → run more (require b OutOfBounds >> Give by) u ≡ run few (require b OutOfBounds >> Give by) u
  bounded true by u = refl
  bounded false by u = refl

  moves : (a : ℕ) (p : Prov) (by : ℤ) (u : Store) → AreIn few p → run more (shift more a p by) u ≡ run few (shift few a p by) u
  moves a p by u in_few = ap (λ (x : Script ℤ). run more x u) (same_shift few more ext a p by in_few) ∙ go p
    where
      go : (q : Prov) → run more (shift few a q by) u ≡ run few (shift few a q by) u
      go Empty = refl
      go (Whole x) = bounded (in_bounds (row_of few x) (pos a +ℤ by)) (pos a +ℤ by) u
      go (Either id past start) =
          settles (in_bounds (row_of few past) (pos a +ℤ by)) (in_bounds (row_of few start) (pos a +ℤ by)) id past start OutOfBounds (pos a +ℤ by) u

  checked : (size n : _) (subtract old : Bool) (v : Value) (u : Store) → AreIn few (pointer_of v).prov
      → run more (check_change more (change.Pointer size subtract) v n >> Give (given_back old v (changed (change.Pointer size subtract) v n))) u
      ≡ run few (check_change few (change.Pointer size subtract) v n >> Give (given_back old v (changed (change.Pointer size subtract) v n))) u
  checked size n subtract old v u in_few =
      let w = given_back old v (changed (change.Pointer size subtract) v n) in
      let by = nodes.distance size subtract n in
      run_then more (shift more (pointer_of v).address (pointer_of v).prov by) (λ z. Give w) u
      ∙ ap (λ (a : Act ℤ). onward a (λ z t. Done w [] t)) (moves (pointer_of v).address (pointer_of v).prov by u in_few)
      ∙ sym (run_then few (shift few (pointer_of v).address (pointer_of v).prov by) (λ z. Give w) u)

  bears_worked : (r : Result ℤ Clause) (v : Value) → BearsIn few (outcome r >> Give v)
  bears_worked (Ok z) v = tt
  bears_worked (Err c) v = tt

  pub update_more : (who : Event) (c : Change) (old : Bool) (ty : CType) (p : Pointer) (n : ℤ) → AreIn few p.prov
      → run more (update_value more who c old ty p n) s ≡ run few (update_value few who c old ty p n) s
  update_more who (change.Integer op kind work) old ty p n in_few =
      let c = change.Integer op kind work in
      let k : Value → Script Value = λ v. outcome (nodes.worked c v n) >> Give (given_back old v (changed c v n)) in
      same (load more who (access.Integer kind) ty p >>= k) (load few who (access.Integer kind) ty p >>= k)
      (ap (λ (x : Script Value). x >>= k) (same_load few more ext who (access.Integer kind) ty p in_few))
      (bears_bind few (load few who (access.Integer kind) ty p) k (bears_load few more ext who (access.Integer kind) ty p)
      (λ v. bears_worked (nodes.worked c v n) (given_back old v (changed c v n))))
  update_more who (change.Pointer size subtract) old ty p n in_few =
      let c = change.Pointer size subtract in
      let j : Value → Script Value = λ v. check_change more c v n >> Give (given_back old v (changed c v n)) in
      let k : Value → Script Value = λ v. check_change few c v n >> Give (given_back old v (changed c v n)) in
      run_then more (load more who access.Pointer ty p) j s
      ∙ ap (λ (a : Act Value). onward a (λ v u. run more (j v) u)) (load_more who access.Pointer ty p in_few)
      ∙ then_where (run few (load few who access.Pointer ty p) s) (λ v u. run more (j v) u) (λ v u. run few (k v) u)
      (λ v is u e. checked size n subtract old v u (loaded_in few ty who p s u v is known e))
      ∙ sym (run_then few (load few who access.Pointer ty p) k s)
