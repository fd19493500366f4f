-- Lemmas on bytes that are moved as they stand.
use Rattle.std.proofs.Common.{◌≡◌, ℕ, zero, suc, ◌==◌, Bool, true, false, ◌||◌, cond, List, [], ◌∷◌, ◌++◌, append_assoc, length, refl, ap, ap₂, sym, subst, ◌∙◌}
use Rattle.std.proofs.Common.{Option, Some, None}
use Rattle.std.specs.Prelude.{Ok, Err, not}
use Rattle.std.proofs.lemmas.Bool.{ne_eqb}
use Rattle.ub_base.specs.declared.clause.Clause.{Clause}
use Rattle.ub_base.specs.declared.clause.Clause.TheVariants.{LibraryArgument, DeadObject, StoreToLiteral, StoreToConst, MemcpyOverlap}
use Rattle.ub_base.specs.declared.names.Item.{Item}
use Rattle.ub_base.specs.declared.names.Item.TheVariants.{Alive, Read, Write}
use Rattle.ub_base.specs.declared.names.Event.{Event}
use Rattle.ub_base.specs.declared.names.ObjName.{ObjName}
use Rattle.addr_map.specs.declared.map.Row.{Row}
use Rattle.addr_map.specs.Rows.{row_of}
use Rattle.exposure.specs.declared.prov.Prov.{Prov}
use Rattle.exposure.specs.declared.prov.Prov.TheVariants.{Empty, Whole, Either}
use Rattle.mem_objects.specs.declared.value.Value.TheVariants.{Ptr}
use Rattle.mem_objects.specs.declared.answer.LibAnswer.{LibAnswer}
use Rattle.mem_objects.specs.declared.answer.LibAnswer.TheVariants as answers
use Rattle.mem_objects.specs.declared.answer.MemFault.{MemFault}
use Rattle.mem_objects.specs.declared.answer.MemFault.TheVariants as faults
use Rattle.mem_objects.specs.declared.cell.Cell.{Cell}
use Rattle.mem_spec.specs.Store.{Store, Life, TaggedByte, is_live, range_from, with_bytes}
use Rattle.mem_spec.specs.Script.{Answer, Touch, Ask, Get, Put, Bear, Bury, Show, Find, Settle, Take, Print, item_of, refuses, refused, answer, left, Script}
use Rattle.mem_spec.specs.Script.{Give, Raise, Finish, Exceed, Misplace, Do, require, ◌>>=◌, ◌>>◌, Act, Done, Raised, Ended, Outside, Unplaced, touched, run}
use Rattle.mem_spec.specs.Acts as acts
use Rattle.mem_spec.specs.Acts.{
  Accessed,
  whole,
  in_row,
  offset_in,
  is_literal,
  is_constant,
  declared_of,
  stored_from,
  retagged,
  settle_by,
  the_one_in,
  argument_object,
  argument_in,
  argument,
  check_writable,
}
use Rattle.mem_spec.specs.Streams.{Io}
use Rattle.mem_objects.specs.Held.{held_of}
use Rattle.mem_objects.specs.Memory.{Kept, AreKnown, ObjectsKnown, life_in, store_of}
use Rattle.mem_objects.specs.Stores.{tagged_all}
use Rattle.mem_objects.specs.Tags.{AreTagged}
use Rattle.mem_objects.specs.Loads.{IfRaise}
use Rattle.libc_spec.specs.Library.{LibValue, pointer, pointer_in, argument_at, size_of_value, overlap, check_target, memmove, called}
use Rattle.libc_arguments.specs.declared.arguments.Range.{Range}
use Rattle.libc_arguments.specs.Answers.{Answers, AreWithin, AreTyped, copy_function}
use Rattle.libc_arguments.specs.Parts.{after, CanFollow, Gives, Follows, IsRange, byte_at, bytes_of, accessed_if}
use Rattle.libc_arguments.specs.Writes.{
  within_limits,
  target_checked,
  IsPlace,
  IsKept,
  LiveOn,
  AreEven,
  is_expose,
  has_expose,
  moving,
  moved_items,
  moved,
  write_items,
  ranges_to_copy,
}
use Rattle.libc_arguments.proofs.Parts.{after_bytes, after_append, follow_append}
use Rattle.libc_arguments.proofs.Living.{no_streams}
use Rattle.libc_arguments.proofs.Writing.{place_stays, whole_remainder, not_zero, stored_over}
use Rattle.libc_arguments.proofs.Listing.{quiet_items}
use Rattle.libc_arguments.proofs.Answering.{answers_of}
use Rattle.libc_arguments.proofs.Copying.{moved_bytes, Ranged, ranged_from, ranged_to, ranged_apart, memmove_by, memmove_done, memmove_raises}

-- ---- bytes as they stand
block_loaded : (rows : List Row) (a len : ℕ) (x : ObjName) (s : Store) → (a == 0) ≡ false → is_live (s.life x) ≡ true → in_row (row_of rows x) a len ≡ true →
    run rows (acts.load_block rows len 1 a (Whole x)) s ≡ Done
    (retagged (declared_of (s.life x)) (offset_in (row_of rows x) a) (range_from (s.bytes x) (offset_in (row_of rows x) a) len))
    (Alive x ∷ Read x (offset_in (row_of rows x) a) len ∷ []) s
block_loaded rows a len x s some live inside = rw (some, live, inside, whole_remainder a) refl

abbrev pub standing : Kept → Range → List TaggedByte
standing m r = retagged (declared_of (life_in (held_of m.objects r.object))) r.from (bytes_of m r)

loaded_at : (m : Kept) (io : Io) (a : ℕ) (r : Range) → IsPlace m a r →
    (is : List Item) × (run m.rows (acts.load_block m.rows r.len 1 a (Whole r.object)) (store_of m io) ≡ Done (standing m r) is (store_of m io))
loaded_at m io a r p = (
  Alive r.object ∷ Read r.object (offset_in (row_of m.rows r.object) a) r.len ∷ [],
  block_loaded m.rows a r.len r.object (store_of m io) (ne_eqb a 0 (λ e. not_zero a p.address e)) p.live p.inside
      ∙ ap (λ (from : ℕ). Done (retagged (declared_of (life_in (held_of m.objects r.object))) from (range_from (byte_at m r.object) from r.len))
      (Alive r.object ∷ Read r.object (offset_in (row_of m.rows r.object) a) r.len ∷ []) (store_of m io)) (sym p.from),
)

same_done : {V : Type 0} (v w : V) (is js : List Item) (s u : Store) → Done v is s ≡ Done w js u → (v ≡ w) × (s ≡ u)
same_done v w is js s u e = (cc, cc)

pub copied_same : (m new : Kept) (io : Io) (a : ℕ) (r : Range) (cells : List Cell) (js : List Item) → IsPlace m a r →
    run m.rows (acts.load_block m.rows r.len 1 a (Whole r.object)) (store_of m io) ≡ Done (tagged_all new cells) js (store_of new io) →
    (tagged_all new cells ≡ standing m r) × (store_of new io ≡ store_of m io)
copied_same m new io a r cells js p e =
    let done = loaded_at m io a r p in
    same_done (tagged_all new cells) (standing m r) js done.0 (store_of new io) (store_of m io) (sym e ∙ done.1)

not_raised : {V : Type 0} (act : Act V) (c : Clause) (v : V) (is : List Item) (s : Store) → act ≡ Raised c → act ≡ Done v is s → ⊥
not_raised act c v is s e h = absurd (cc)

-- a load of a place raises nothing
pub copied_raises : (m : Kept) (a : ℕ) (r : Range) (c : Clause) → IsPlace m a r →
    ((io : Io) → run m.rows (acts.load_block m.rows r.len 1 a (Whole r.object)) (store_of m io) ≡ Raised c) → ⊥
copied_raises m a r c p h =
    let done = loaded_at m no_streams a r p in
    not_raised (run m.rows (acts.load_block m.rows r.len 1 a (Whole r.object)) (store_of m no_streams)) c (standing m r) done.0 (store_of m no_streams)
    (h no_streams) done.1

-- ---- a memory that is kept
pub kept_lives : (old new : Kept) → IsKept old new → LiveOn old new
kept_lives old new e x = ap (λ (k : Kept). life_in (held_of k.objects x)) e

pub kept_place : (old new : Kept) (a : ℕ) (r : Range) → IsKept old new → IsPlace old a r → IsPlace new a r
kept_place old new a r e p = place_stays old new a r (kept_lives old new e) (ap (λ (k : Kept). k.rows) e) p

pub kept_known : (old new : Kept) → IsKept old new → AreKnown old → AreKnown new
kept_known old new e h = subst (λ (k : Kept). ObjectsKnown (length k.origins) k.objects) (sym e) h

-- ---- ranges between which bytes move
moving_by : (b : Bool) (r u : Range) (p : Range × Range) → Some p ≡ cond b None (Some (r, u)) → (b ≡ false) × (r ≡ p.0) × (u ≡ p.1)
moving_by true r u p e = absurd (cc)
moving_by false r u p e = (refl, cc, cc)

pub moving_is : (target source : Option Range) (r u : Range) → Some (r, u) ≡ moving target source → ((r.len == 0) ≡ false) × (target ≡ Some r) ×
    (source ≡ Some u)
moving_is None source r u e = absurd (cc)
moving_is (Some t) None r u e = absurd (cc)
moving_is (Some t) (Some s) r u e =
    let k = moving_by (t.len == 0) t s (r, u) e in
    (ap (λ (q : Range). q.len == 0) (sym k.1) ∙ k.0, ap Some k.1, ap Some k.2)

nothing_by : (b : Bool) (p : Range × Range) → None ≡ cond b None (Some p) → b ≡ true
nothing_by true p e = refl
nothing_by false p e = absurd (cc)

pub moved_noted : (target source : Option Range) (r u : Range) (is one js : List Item) (i : Item) → Some (r, u) ≡ moving target source →
    AreEven target source → i ≡ Read u.object u.from u.len → one ≡ is ++ i ∷ [] → js ≡ one ++ write_items (Some r) → js ≡ is ++ moved_items target source
moved_noted target source r u is one js i e even read first second =
    let k = moving_is target source r u e in
    let same : r.len ≡ u.len = subst (λ (o : Option Range). AreEven o (Some u)) k.1 (subst (λ (o : Option Range). AreEven target o) k.2 even) in
    second ∙ ap (λ (ks : List Item). ks ++ write_items (Some r)) (first ∙ ap (λ (j : Item). is ++ j ∷ []) read)
    ∙ append_assoc is (Read u.object u.from u.len ∷ []) (write_items (Some r))
    ∙ ap (λ (b : Bool). is ++ (cond b [] (Read u.object u.from u.len ∷ []) ++ write_items (Some r))) (sym (ap (λ (n : ℕ). n == 0) (sym same) ∙ k.0))
    ∙ ap₂ (λ (o p : Option Range). is ++ moved_items o p) (sym k.1) (sym k.2)

-- as many bytes as come from the one range go to the other
pub moved_even : (target source : Option Range) (r u : Range) (n : ℕ) → Some (r, u) ≡ moving target source → AreEven target source → n ≡ u.len → n ≡ r.len
moved_even target source r u n e even is =
    let k = moving_is target source r u e in
    is ∙ sym (subst (λ (o : Option Range). AreEven o (Some u)) k.1 (subst (λ (o : Option Range). AreEven target o) k.2 even))

-- a load of a place gives no other fault than want of memory
pub copied_fault : (m : Kept) (a : ℕ) (r : Range) (f : MemFault) (c : Clause) → IsPlace m a r → f ≡ faults.Raise c →
    IfRaise f (λ c. (io : Io) → run m.rows (acts.load_block m.rows r.len 1 a (Whole r.object)) (store_of m io) ≡ Raised c) → ⊥
copied_fault m a r f c p e h = copied_raises m a r c p
    (subst (λ (g : MemFault). IfRaise g (λ c. (io : Io) → run m.rows (acts.load_block m.rows r.len 1 a (Whole r.object)) (store_of m io) ≡ Raised c)) e h)

-- ---- items that expose nothing
or_both : (a b : Bool) → a ≡ false → b ≡ false → a || b ≡ false
or_both true b h k = absurd (cc)
or_both false b h k = k

expose_behind : (a b c : Bool) → a || b ≡ false → (b ≡ false → c ≡ false) → a || c ≡ false
expose_behind true b c h f = absurd (cc)
expose_behind false b c h f = f h

expose_append : (is js : List Item) → has_expose is ≡ false → has_expose js ≡ false → has_expose (is ++ js) ≡ false
expose_append [] js h k = k
expose_append (i ∷ is) js h k = expose_behind (is_expose i) (has_expose is) (has_expose (is ++ js)) h (λ none. expose_append is js none k)

-- the bytes were moved
pub move_done : (m mid last new : Kept) (io : Io) (target source : Option Range) (r u : Range) (cells : List Cell) (is one js : List Item) (i : Item) →
    Some (r, u) ≡ moving target source → i ≡ Read u.object u.from u.len → one ≡ is ++ i ∷ [] → js ≡ one ++ write_items (Some r) →
    LiveOn m mid → (CanFollow m.cells js (store_of m io) → store_of mid io ≡ after js (store_of m io)) →
    (has_expose js ≡ false → AreTagged m → AreTagged mid) →
    (AreTagged mid → tagged_all last cells ≡ standing mid u) → (AreTagged mid → store_of last io ≡ store_of mid io) → IsKept mid last →
    store_of new io ≡ stored_over last r whole (tagged_all last cells) (store_of last io) →
    has_expose is ≡ false → AreTagged m → CanFollow m.cells is (store_of m io) → store_of new io ≡ moved m target source (after is (store_of m io))
move_done m mid last new io target source r u cells is one js i e read first second lives settled tags bytes store kept put none typed able =
    let k = moving_is target source r u e in
    let noted : js ≡ is ++ Read u.object u.from u.len ∷ Write r.object r.from r.len ∷ [] =
    second ∙ ap (λ (ks : List Item). ks ++ write_items (Some r)) (first ∙ ap (λ (j : Item). is ++ j ∷ []) read)
    ∙ append_assoc is (Read u.object u.from u.len ∷ []) (write_items (Some r))
    ∙ ap (λ (b : Bool). is ++ Read u.object u.from u.len ∷ cond b [] (Write r.object r.from r.len ∷ [])) k.0 in
    let follow : CanFollow m.cells js (store_of m io) = subst (λ (ks : List Item). CanFollow m.cells ks (store_of m io)) (sym noted)
    (follow_append m.cells is (Read u.object u.from u.len ∷ Write r.object r.from r.len ∷ []) (store_of m io) able (tt, (tt, tt))) in
    let same : store_of mid io ≡ after is (store_of m io) = settled follow ∙ ap (λ (ks : List Item). after ks (store_of m io)) noted ∙ after_append is
    (Read u.object u.from u.len ∷ Write r.object r.from r.len ∷ []) (store_of m io) in
    let quiet : has_expose js ≡ false = ap has_expose noted ∙ expose_append is (Read u.object u.from u.len ∷ Write r.object r.from r.len ∷ []) none refl in
    let now : AreTagged mid = tags quiet typed in
    let from : bytes_of mid u ≡ bytes_of m u = ap (λ (f : ℕ → TaggedByte). range_from f u.from u.len)
    (ap (λ (w : Store). w.bytes u.object) same ∙ after_bytes is (store_of m io) u.object) in
    put
    ∙ ap (λ (w : Store). stored_over last r whole (tagged_all last cells) w) (store now ∙ same)
    ∙ ap (λ (bs : List TaggedByte). stored_over last r whole bs (after is (store_of m io)))
    (bytes now ∙ ap₂ (λ (l : Option Life) (bs : List TaggedByte). retagged (declared_of l) u.from bs) (lives u.object) from)
    ∙ ap (λ (l : Option Life). with_bytes (after is (store_of m io)) r.object r.from (stored_from (declared_of l) whole 0 (standing m u)))
    (kept_lives mid last kept r.object ∙ lives r.object)
    ∙ ap (λ (b : Bool). cond b (after is (store_of m io)) (with_bytes (after is (store_of m io)) r.object r.from (moved_bytes m r u (bytes_of m u)))) (sym k.0)
    ∙ ap₂ (λ (o p : Option Range). moved m o p (after is (store_of m io))) (sym k.1) (sym k.2)

-- ---- scripts that expose nothing
abbrev pub ExposesNone : {V : Type 0} → Script V → Type 0
ExposesNone (Give v) = Unit {0}
ExposesNone (Raise c) = Unit {0}
ExposesNone (Finish n) = Unit {0}
ExposesNone (Exceed c n) = Unit {0}
ExposesNone Misplace = Unit {0}
ExposesNone (Do t g) = (is_expose (item_of t) ≡ false) × ((a : Answer t) → ExposesNone (g a))

abbrev pub ListsNone : {V : Type 0} → Act V → Type 0
ListsNone (Done v is s) = has_expose is ≡ false
ListsNone (Raised c) = Unit {0}
ListsNone (Ended n is s) = has_expose is ≡ false
ListsNone (Outside c n) = Unit {0}
ListsNone Unplaced = Unit {0}

refused_none : (V : Type 0) (t : Touch) → ListsNone (refused {V = V} t)
refused_none V (Settle id x c) = tt
refused_none V (Ask x) = tt
refused_none V (Get x a n) = tt
refused_none V (Put x a bs) = tt
refused_none V (Bear x n kind declared) = tt
refused_none V (Bury x) = tt
refused_none V (Show x) = tt
refused_none V (Find a) = tt
refused_none V Take = tt
refused_none V (Print to bs) = tt

touched_none : {V : Type 0} (i : Item) (act : Act V) → is_expose i ≡ false → ListsNone act → ListsNone (touched i act)
touched_none i (Done v is s) h k = or_both (is_expose i) (has_expose is) h k
touched_none i (Raised c) h k = tt
touched_none i (Ended n is s) h k = or_both (is_expose i) (has_expose is) h k
touched_none i (Outside c n) h k = tt
touched_none i Unplaced h k = tt

step_none : {V : Type 0} (b : Bool) (t : Touch) (act : Act V) → is_expose (item_of t) ≡ false → ListsNone act →
    ListsNone (cond b (refused {V = V} t) (touched (item_of t) act))
step_none {V = V} true t act h k = refused_none V t
step_none false t act h k = touched_none (item_of t) act h k

run_none : {V : Type 0} (rows : List Row) (p : Script V) (s : Store) → ExposesNone p → ListsNone (run rows p s)
run_none rows (Give v) s h = refl
run_none rows (Raise c) s h = tt
run_none rows (Finish n) s h = refl
run_none rows (Exceed c n) s h = tt
run_none rows Misplace s h = tt
run_none rows (Do t g) s h = step_none (refuses t s) t (run rows (g (answer rows t s)) (left t s)) h.0
    (run_none rows (g (answer rows t s)) (left t s) (h.1 (answer rows t s)))

none_then : {A B : Type 0} (p : Script A) (k : A → Script B) → ExposesNone p → ((v : A) → ExposesNone (k v)) → ExposesNone (p >>= k)
none_then (Give v) k h f = f v
none_then (Raise c) k h f = tt
none_then (Finish n) k h f = tt
none_then (Exceed c n) k h f = tt
none_then Misplace k h f = tt
none_then (Do t g) k h f = (h.0, λ a. none_then (g a) k (h.1 a) f)

require_none : (b : Bool) (c : Clause) → ExposesNone (require b c)
require_none true c = tt
require_none false c = tt

settle_none : (a b : Bool) (id : Event) (past start : ObjName) (c : Clause) → ExposesNone (settle_by a b id past start c)
settle_none true true id past start c = tt
settle_none true false id past start c = (refl, λ u. tt)
settle_none false true id past start c = (refl, λ u. tt)
settle_none false false id past start c = tt

object_none : (rows : List Row) (len a : ℕ) (prov : Prov) → ExposesNone (argument_object rows len a prov)
object_none rows len a Empty = tt
object_none rows len a (Whole x) = tt
object_none rows len a (Either id past start) =
    none_then (settle_by (in_row (row_of rows past) a len) (in_row (row_of rows start) a len) id past start LibraryArgument)
    (λ u. Give (the_one_in (in_row (row_of rows past) a len) (in_row (row_of rows start) a len) past start))
    (settle_none (in_row (row_of rows past) a len) (in_row (row_of rows start) a len) id past start LibraryArgument) (λ u. tt)

in_none : (rows : List Row) (len a : ℕ) (x : Option ObjName) → ExposesNone (argument_in rows len a x)
in_none rows len a None = tt
in_none rows len a (Some x) = (
  refl,
  λ life.
      none_then (require (is_live life) DeadObject)
      (λ u. require (in_row (row_of rows x) a len) LibraryArgument >> Give (Some (record { object = x; from = offset_in (row_of rows x) a; life = life })))
      (require_none (is_live life) DeadObject)
      (λ u. none_then (require (in_row (row_of rows x) a len) LibraryArgument)
      (λ w. Give (Some (record { object = x; from = offset_in (row_of rows x) a; life = life })))
      (require_none (in_row (row_of rows x) a len) LibraryArgument) (λ w. tt)),
)

argument_none : (rows : List Row) (len a : ℕ) (prov : Prov) → ExposesNone (argument rows len a prov)
argument_none rows len a prov =
    none_then (require (not (a == 0)) LibraryArgument) (λ u. argument_object rows len a prov >>= (λ x. argument_in rows len a x))
    (require_none (not (a == 0)) LibraryArgument)
    (λ u. none_then (argument_object rows len a prov) (λ x. argument_in rows len a x) (object_none rows len a prov) (λ x. in_none rows len a x))

target_none : (n : ℕ) (target : Option Accessed) → ExposesNone (check_target n target)
target_none zero None = tt
target_none zero (Some at) = tt
target_none (suc n) None = tt
target_none (suc n) (Some at) = none_then (require (not (is_literal at.life)) StoreToLiteral) (λ u. require (not (is_constant at.life)) StoreToConst)
    (require_none (not (is_literal at.life)) StoreToLiteral) (λ u. require_none (not (is_constant at.life)) StoreToConst)

ranges_none : (rows : List Row) (may : Bool) (to : ℕ) (p : Prov) (from : ℕ) (q : Prov) (n : ℕ) → ExposesNone (ranges_to_copy rows may to p from q n)
ranges_none rows may to p from q n =
    none_then (argument rows n to p) (ranged_from rows may n to from q) (argument_none rows n to p)
    (λ target. none_then (argument rows n from q) (ranged_to may n to from target) (argument_none rows n from q)
    (λ source. none_then (check_target n target) (λ u. ranged_apart may n to from target source) (target_none n target)
    (λ u. none_then (require (may || not (overlap n to from)) MemcpyOverlap) (λ w. Give (target, source))
    (require_none (may || not (overlap n to from)) MemcpyOverlap) (λ w. tt))))

listed_none : {V : Type 0} (act : Act V) (v : V) (is : List Item) (s : Store) → act ≡ Done v is s → ListsNone act → has_expose is ≡ false
listed_none {V = V} act v is s e h = subst (λ (act : Act V). ListsNone act) e h

-- ---- memcpy and memmove
pub move_gives : (m new : Kept) (io : Io) (is js : List Item) (may : Bool) (to : ℕ) (p : Prov) (from : ℕ) (q : Prov) (n : ℕ) (r u : Option Range) →
    AreWithin io → IsRange n r → IsRange n u → Ok tt ≡ target_checked m r → AreTagged m →
    Gives true Ranged m io [] is (ranges_to_copy m.rows may to p from q n) (accessed_if m r, accessed_if m u) → js ≡ is ++ moved_items r u →
    (has_expose is ≡ false → AreTagged m → CanFollow m.cells is (store_of m io) → store_of new io ≡ moved m r u (after is (store_of m io))) →
    Answers (answers.Value (Ptr to p)) js (store_of new io) (within_limits (store_of m io) (run m.rows (memmove m.rows may to p from q n) (store_of m io)))
move_gives m new io is js may to p from q n r u within range source able tagged g more store =
    let items : is ≡ g.items = quiet_items Ranged m io [] is (ranges_to_copy m.rows may to p from q n) (accessed_if m r, accessed_if m u) g in
    let none : has_expose is ≡ false = ap has_expose items ∙ listed_none (run m.rows (ranges_to_copy m.rows may to p from q n) (store_of m io))
    (accessed_if m r, accessed_if m u) g.items (after is (store_of m io)) g.done
    (run_none m.rows (ranges_to_copy m.rows may to p from q n) (store_of m io) (ranges_none m.rows may to p from q n)) in
    subst (λ (act : Act LibValue). Answers (answers.Value (Ptr to p)) js (store_of new io) (within_limits (store_of m io) act))
    (sym (memmove_done m io is may to p from q n r u range source able g))
    (answers_of (Ok (Ptr to p)) js (store_of new io) (Done (pointer to p) (g.items ++ moved_items r u) (moved m r u (after is (store_of m io)))) within
    (refl, more ∙ ap (λ (ks : List Item). ks ++ moved_items r u) items, store none tagged (g.able tt)))

pub move_fails : {B : Type 0} (seen : B → Ranged) (m : Kept) (io : Io) (is : List Item) (may : Bool) (to : ℕ) (p : Prov) (from : ℕ) (q : Prov) (n : ℕ)
    (e : LibAnswer) → Follows true seen (Err e) m io [] is (ranges_to_copy m.rows may to p from q n) →
    Answers e is (store_of m io) (within_limits (store_of m io) (run m.rows (memmove m.rows may to p from q n) (store_of m io)))
move_fails seen m io is may to p from q n answers.NoMemory h = tt
move_fails seen m io is may to p from q n (answers.Raise d) h =
    subst (λ (act : Act LibValue). Answers (answers.Raise d) is (store_of m io) (within_limits (store_of m io) act))
    (sym (memmove_raises m io is may to p from q n d h)) refl
move_fails seen m io is may to p from q n e h = absurd h

pub memmove_called : (may : Bool) (rows : List Row) (vs : List LibValue) (who : Event) (to from : ℕ) (p q : Prov) (n : ℕ) (s t : Store) (is : List Item)
    (e : LibAnswer) → pointer to p ≡ pointer_in (argument_at vs 0) → pointer from q ≡ pointer_in (argument_at vs 1) → n ≡ size_of_value (argument_at vs 2) →
    Answers e is t (within_limits s (run rows (memmove rows may to p from q n) s)) → Answers e is t (called rows (copy_function may) vs who s)
memmove_called true rows vs who to from p q n s t is e first second size h =
    memmove_by (λ (act : Act LibValue). Answers e is t (within_limits s act)) true rows vs to from p q n s first second size h
memmove_called false rows vs who to from p q n s t is e first second size h =
    memmove_by (λ (act : Act LibValue). Answers e is t (within_limits s act)) false rows vs to from p q n s first second size h

pub typed_copy : (may : Bool) (m : Kept) → AreTyped (copy_function may) m → AreTagged m
typed_copy true m h = h
typed_copy false m h = h

pub even_ranges : (n : ℕ) (r u : Option Range) → IsRange n r → IsRange n u → AreEven r u
even_ranges n None u h k = tt
even_ranges n (Some r) None h k = tt
even_ranges n (Some r) (Some u) h k = h.0 ∙ sym k.0
