-- The effect of an update doesn't end the run: what its script is made of never does.
use Rattle.std.proofs.Common.{◌≡◌, ℕ, suc, Bool, true, false, not, if◌then◌else◌, List, [], ◌∷◌, length, Option, Some, None, refl}
use Rattle.std.specs.Prelude.{◌==◌}
use Rattle.ub_base.specs.declared.clause.Kind.TheVariants.{Eff}
use Rattle.ub_base.specs.declared.clause.Clause.{Clause}
use Rattle.ub_base.specs.declared.clause.Clause.TheVariants.{InvalidPointer, OutOfBounds, DeadObject, StoreToLiteral, StoreToConst, EffectiveType}
use Rattle.ub_base.specs.declared.clause.Clause.TheVariants.{OverlappingAssignment}
use Rattle.ub_base.specs.declared.names.Event.{Event}
use Rattle.ub_base.specs.declared.names.ObjName.{ObjName}
use Rattle.ub_base.specs.declared.names.Item.{Item}
use Rattle.addr_map.specs.declared.map.Row.{Row}
use Rattle.addr_map.specs.Rows.{row_of}
use Rattle.mem_spec.specs.Agreement.{bytes_of_kind}
use Rattle.exposure.specs.declared.prov.Prov.{Prov}
use Rattle.exposure.specs.declared.prov.Prov.TheVariants.{Empty, Whole, Either}
use Rattle.c_types.specs.Types.{CType, int}
use Rattle.c_typed.specs.declared.tree.Access.{Access}
use Rattle.c_typed.specs.declared.tree.Access.TheVariants as access
use Rattle.c_typed.specs.Order.{place}
use Rattle.mem_spec.specs.Store.{Store, TaggedByte, Life, is_live}
use Rattle.mem_spec.specs.Script.{Touch, Ask, Get, Put, Bear, Bury, Show, Find, Settle, Take, Print, item_of, Answer, refuses, refused, answer, left}
use Rattle.mem_spec.specs.Script.{Script, Give, Raise, Finish, Exceed, Misplace, Do, ◌>>=◌, Act, Done, Raised, Ended, Outside, Unplaced, touched, run}
use Rattle.mem_spec.specs.Script.{require, touch, ◌>>◌}
use Rattle.mem_spec.specs.Acts.{Accessed, Seen, scalar, whole, bytes, in_row, offset_in, is_aligned, declared_of, is_literal, is_constant, suits_store}
use Rattle.mem_spec.specs.Acts.{stored_from, object_of, access as access_act, check_writable, store}
use Rattle.mem_spec.specs.Bytes.{number_bytes, pointer_bytes}
use Rattle.c_model.specs.Program.{Filling, Head, Assign, Update, Listed, Expr, expr}
use Rattle.c_model.specs.World.{World}
use Rattle.c_model.specs.Values.{Value, Nothing, Pointer, integer_of, pointer_of, function_in, value_at, address_after, or_nothing, int_bytes}
use Rattle.c_model.specs.Values as values
use Rattle.c_model.specs.Nodes.{put_whole, put, overlap_inexactly, amount, change_access, new_value, content_bytes, fill, act_of}
use Rattle.c_model.specs.Moves.{Stay}
use Rattle.c_model.specs.Steps.{Scene, Local, Begun, Ev, at_node, event_of, target, first_type, operand_values, own_kind, event_act, does, move, move_of}

-- a script that never ends the run
abbrev pub NoEnd : {V : Type 0} → Script V → Type 0
NoEnd (Finish n) = ⊥
NoEnd (Do t k) = (a : Answer t) → NoEnd (k a)
NoEnd _ = Unit {0}

no_end_touched : {V : Type 0} → (i : Item) (a : Act V) (n : ℕ) (is : List Item) (s : Store) → ((k : ℕ) (js : List Item) (t : Store) → a ≡ Ended k js t → ⊥)
    → touched i a ≡ Ended n is s → ⊥
no_end_touched i (Done v js t) n is s h e = cc
no_end_touched i (Raised c) n is s h e = cc
no_end_touched i (Ended k js t) n is s h e = h k js t refl
no_end_touched i (Outside c k) n is s h e = cc
no_end_touched i Unplaced n is s h e = cc

no_end_refused : {V : Type 0} → (t : Touch) (n : ℕ) (is : List Item) (s : Store) → refused {V = V} t ≡ Ended n is s → ⊥
no_end_refused (Settle id x c) n is s e = cc
no_end_refused (Ask x) n is s e = cc
no_end_refused (Get x a k) n is s e = cc
no_end_refused (Put x a bs) n is s e = cc
no_end_refused (Bear x size kind declared) n is s e = cc
no_end_refused (Bury x) n is s e = cc
no_end_refused (Show x) n is s e = cc
no_end_refused (Find a) n is s e = cc
no_end_refused Take n is s e = cc
no_end_refused (Print to bs) n is s e = cc

no_end_if : {V : Type 0} → (b : Bool) (x y : Act V) (n : ℕ) (is : List Item) (s : Store) → (x ≡ Ended n is s → ⊥) → (y ≡ Ended n is s → ⊥)
    → if b then x else y ≡ Ended n is s → ⊥
no_end_if true x y n is s h k e = h e
no_end_if false x y n is s h k e = k e

pub no_end_run : {V : Type 0} → (map : List Row) (x : Script V) (s : Store) → NoEnd x → (n : ℕ) (is : List Item) (s1 : Store) → run map x s ≡ Ended n is s1 → ⊥
no_end_run map (Give v) s h n is s1 e = cc
no_end_run map (Raise c) s h n is s1 e = cc
no_end_run map (Finish k) s h n is s1 e = h
no_end_run map (Exceed c k) s h n is s1 e = cc
no_end_run map Misplace s h n is s1 e = cc
no_end_run map (Do t k) s h n is s1 e =
    no_end_if (refuses t s) (refused t) (touched (item_of t) (run map (k (answer map t s)) (left t s))) n is s1
    (no_end_refused t n is s1)
    (no_end_touched (item_of t) (run map (k (answer map t s)) (left t s)) n is s1 (no_end_run map (k (answer map t s)) (left t s) (h (answer map t s)))) e

bind : {A B : Type 0} → (x : Script A) (k : A → Script B) → NoEnd x → ((v : A) → NoEnd (k v)) → NoEnd (x >>= k)
bind (Give v) k h g = g v
bind (Raise c) k h g = tt
bind (Finish n) k h g = h
bind (Exceed c n) k h g = tt
bind Misplace k h g = tt
bind (Do t f) k h g = λ a. bind (f a) k (h a) g

when : {V : Type 0} → (b : Bool) (x y : Script V) → NoEnd x → NoEnd y → NoEnd (if b then x else y)
when true x y h k = h
when false x y h k = k

need : {V : Type 0} → (b : Bool) (c : Clause) (t : Script V) → NoEnd t → NoEnd (require b c >> t)
need true c t h = h
need false c t h = tt

object_goes_on : (rows : List Row) (len a : ℕ) (p : Prov) → NoEnd (object_of rows len a p)
object_goes_on rows len a Empty = tt
object_goes_on rows len a (Whole x) = tt
object_goes_on rows len a (Either id past start) =
    when (in_row (row_of rows past) a len) (touch (Settle id past OutOfBounds) >> Give past)
    (if in_row (row_of rows start) a len then touch (Settle id start OutOfBounds) >> Give start else Raise OutOfBounds) (λ b. tt)
    (when (in_row (row_of rows start) a len) (touch (Settle id start OutOfBounds) >> Give start) (Raise OutOfBounds) (λ b. tt) tt)

-- the checks behind the object's life
abbrev aligned_at : List Row → ℕ → ℕ → ObjName → Option Life → Script Accessed
aligned_at rows align a x life = require (is_aligned align a) InvalidPointer >> Give (record { object = x; from = offset_in (row_of rows x) a; life = life })

abbrev bounded_at : List Row → ℕ → ℕ → ℕ → ObjName → Option Life → Script Accessed
bounded_at rows len align a x life = require (in_row (row_of rows x) a len) OutOfBounds >> aligned_at rows align a x life

abbrev asked_at : List Row → ℕ → ℕ → ℕ → ObjName → Script Accessed
asked_at rows len align a x = touch (Ask x) >>= (λ life. require (is_live life) DeadObject >> bounded_at rows len align a x life)

access_goes_on : (rows : List Row) (len align a : ℕ) (p : Prov) → NoEnd (access_act rows len align a p)
access_goes_on rows len align a p =
    need (not (a == 0)) InvalidPointer (object_of rows len a p >>= asked_at rows len align a)
    (bind (object_of rows len a p) (asked_at rows len align a) (object_goes_on rows len a p)
    (λ x. λ life. need (is_live life) DeadObject (bounded_at rows len align a x life)
    (need (in_row (row_of rows x) a len) OutOfBounds (aligned_at rows align a x life)
    (need (is_aligned align a) InvalidPointer (Give (record { object = x; from = offset_in (row_of rows x) a; life = life })) tt))))

writable_goes_on : (b : Bool) (life : Option Life) → NoEnd (check_writable b life)
writable_goes_on true life = tt
writable_goes_on false life = need (not (is_literal life)) StoreToLiteral (require (not (is_constant life)) StoreToConst) (last (not (is_constant life)))
  where
    last : (b : Bool) → NoEnd (require b StoreToConst)
    last true = tt
    last false = tt

abbrev put_at : Bool → Seen → List TaggedByte → Accessed → Script (Unit {0})
put_at first via bs at = check_writable first at.life >> touch (Put at.object at.from (stored_from (declared_of at.life) via 0 bs))

store_goes_on : (rows : List Row) (first : Bool) (via : Seen) (align a : ℕ) (p : Prov) (bs : List TaggedByte) → NoEnd (store rows first via align a p bs)
store_goes_on rows first via align a p bs =
    bind (access_act rows (length bs) align a p) (λ at. require (suits_store via (declared_of at.life) at.from) EffectiveType >> put_at first via bs at)
    (access_goes_on rows (length bs) align a p)
    (λ at. need (suits_store via (declared_of at.life) at.from) EffectiveType (put_at first via bs at)
    (bind (check_writable first at.life) (λ u. touch (Put at.object at.from (stored_from (declared_of at.life) via 0 bs))) (writable_goes_on first at.life)
    (λ w. λ b. tt)))

whole_goes_on : (rows : List Row) (first : Bool) (size align : ℕ) (p : Pointer) (v : Value) → NoEnd (put_whole rows first size align p v)
whole_goes_on rows first size align p (values.Whole bs source) =
    bind (store rows first whole align p.address p.prov bs)
    (λ u. require (not (overlap_inexactly size p.address source)) OverlappingAssignment >> Give Nothing)
    (store_goes_on rows first whole align p.address p.prov bs) (λ u. need (not (overlap_inexactly size p.address source)) OverlappingAssignment
    (Give Nothing) tt)
whole_goes_on rows first size align p _ = tt

put_goes_on : (rows : List Row) (first : Bool) (how : Access) (ty : CType) (p : Pointer) (v : Value) → NoEnd (put rows first how ty p v)
put_goes_on rows first (access.Integer k) ty p v =
    bind (store rows first (scalar (int k)) (bytes_of_kind k) p.address p.prov (int_bytes k (integer_of v))) (λ u. Give Nothing)
    (store_goes_on rows first (scalar (int k)) (bytes_of_kind k) p.address p.prov (int_bytes k (integer_of v))) (λ u. tt)
put_goes_on rows first access.Pointer ty p v =
    bind (store rows first (scalar ty) 8 p.address p.prov (pointer_bytes 8 0 (pointer_of v).prov (pointer_of v).address)) (λ u. Give Nothing)
    (store_goes_on rows first (scalar ty) 8 p.address p.prov (pointer_bytes 8 0 (pointer_of v).prov (pointer_of v).address)) (λ u. tt)
put_goes_on rows first access.Function ty p v =
    bind (store rows first (scalar ty) 8 p.address p.prov (number_bytes 8 (function_in v))) (λ u. Give Nothing)
    (store_goes_on rows first (scalar ty) 8 p.address p.prov (number_bytes 8 (function_in v))) (λ u. tt)
put_goes_on rows first (access.Whole size align) ty p v = whole_goes_on rows first size align p v

fill_goes_on : (rows : List Row) (p : Pointer) (cs : List Filling) → NoEnd (fill rows p cs)
fill_goes_on rows p [] = tt
fill_goes_on rows p (c ∷ cs) =
    bind (store rows true bytes 1 (address_after p.address c.offset) p.prov (content_bytes rows c.content)) (λ u. fill rows p cs)
    (store_goes_on rows true bytes 1 (address_after p.address c.offset) p.prov (content_bytes rows c.content)) (λ u. fill_goes_on rows p cs)

effect_goes_on : (rows : List Row) (who : Event) (h : Head) (ty : CType) (vs : List Value) (own : Value) → NoEnd (act_of rows who h ty Eff vs own)
effect_goes_on rows who (Assign first how) ty vs own = put_goes_on rows first how ty (pointer_of (value_at vs 0)) (value_at vs 1)
effect_goes_on rows who (Update c old) ty vs own = put_goes_on rows false (change_access c) ty (pointer_of (value_at vs 0))
    (new_value c old own (amount old vs))
effect_goes_on rows who (Listed slot fillings) ty vs own = fill_goes_on rows (pointer_of (value_at vs 0)) fillings
effect_goes_on rows who _ ty _ own = tt

module _ (world : World) where
  event_goes_on : (f : Scene) (e : Begun) (k : ℕ) (o : Option Expr) → NoEnd (event_act world f e (place k Eff) o)
  event_goes_on f e k None = tt
  event_goes_on f e k (Some (expr h ty line es)) =
      effect_goes_on world.rows (event_of world f (place k Eff)) h (target (first_type es)) (operand_values world f e.given (suc k) h es)
      (or_nothing (e.given (place k (own_kind Eff))))

  pub does_goes_on : (f : Local) (b : Option Begun) (k : ℕ) → NoEnd (does world f b (Ev (place k Eff)))
  does_goes_on f None k = tt
  does_goes_on f (Some e) k = event_goes_on f.scene e k (at_node 0 e.root k)

  move_at : (f : Scene) (e : Begun) (k : ℕ) (o : Option Expr) → move_of world f e (place k Eff) o ≡ Stay
  move_at f e k None = refl
  move_at f e k (Some (expr h ty line es)) = refl

  pub effect_stays : (f : Local) (b : Option Begun) (k : ℕ) → move world f b (Ev (place k Eff)) ≡ Stay
  effect_stays f None k = refl
  effect_stays f (Some e) k = move_at f.scene e k (at_node 0 e.root k)
