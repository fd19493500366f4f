-- Lemmas on calls that copy bytes.
use Rattle.std.proofs.Common.{
  ◌≡◌,
  ℕ,
  zero,
  suc,
  ◌==◌,
  Bool,
  true,
  false,
  cond,
  List,
  [],
  ◌∷◌,
  ◌++◌,
  length,
  refl,
  ap,
  ap₂,
  sym,
  subst,
  ◌∙◌,
  Option,
  Some,
  None,
}
use Rattle.std.specs.Prelude.{Result, Ok, Err, IsTrue, not, ◌||◌}
use Rattle.std.proofs.lemmas.List.{length-map}
use Rattle.ub_base.specs.declared.clause.Clause.{Clause}
use Rattle.ub_base.specs.declared.clause.Clause.TheVariants.{MemcpyOverlap, StrcpyOverlap}
use Rattle.ub_base.specs.declared.names.Item.{Item}
use Rattle.ub_base.specs.declared.names.Item.TheVariants.{Read, Write}
use Rattle.ub_base.specs.declared.names.ObjName.{ObjName}
use Rattle.ub_base.specs.declared.names.Event.{Event}
use Rattle.addr_map.specs.declared.map.Row.{Row}
use Rattle.exposure.specs.declared.prov.Prov.{Prov}
use Rattle.c_types.specs.Shapes.{Form}
use Rattle.c_types.specs.declared.library.LibFunc.TheVariants.{Strcpy}
use Rattle.mem_objects.specs.declared.value.Value.TheVariants.{Ptr}
use Rattle.mem_objects.specs.declared.answer.LibAnswer.{LibAnswer}
use Rattle.mem_objects.specs.declared.answer.LibAnswer.TheVariants as answers
use Rattle.mem_spec.specs.Store.{Store, TaggedByte, range_from, with_bytes}
use Rattle.mem_spec.specs.Script.{Get, Put, Script, Give, touch, require, ◌>>=◌, ◌>>◌, Act, Done, Raised, run}
use Rattle.mem_spec.specs.Acts.{Accessed, whole, declared_of, stored_from, retagged, argument, check_writable, copy_between}
use Rattle.mem_spec.specs.Streams.{Io}
use Rattle.mem_objects.specs.Held.{held_of}
use Rattle.mem_objects.specs.Memory.{Kept, act_of, life_in, store_of}
use Rattle.libc_spec.specs.Library.{
  LibValue,
  pointer,
  pointer_in,
  address_in,
  prov_in,
  argument_at,
  integer_in,
  size_of_value,
  Text,
  text,
  overlap,
  read_numbers,
  number_of_byte,
  check_target,
  write_numbers,
  memmove,
  strcpy,
  joined,
  called,
}
use Rattle.libc_arguments.specs.declared.arguments.Range.{Range}
use Rattle.libc_arguments.specs.Answers.{Answers, AreWithin, are_sizes, is_size, size_places, copy_function}
use Rattle.libc_arguments.specs.Parts.{
  after,
  CanFollow,
  starts_in_read,
  Gives,
  Follows,
  ReadsAll,
  byte_at,
  bytes_of,
  text_in,
  accessed,
  accessed_if,
  IsRange,
  limited,
}
use Rattle.libc_arguments.specs.Writes.{FillsRange, writable, target_checked, ranges_to_copy, string_to_copy, write_items, overwritten, moved_items, moved}
use Rattle.libc_arguments.proofs.Scripts.{then, run_then, run_same, run_twice}
use Rattle.libc_arguments.proofs.Parts.{after_life, after_bytes, joined_append, then_gives, then_follows, then_raises, raises_then, err_follows, gives_at_once}
use Rattle.libc_arguments.proofs.Reading.{reads_follow}
use Rattle.libc_arguments.proofs.Answering.{answers_of, address_is, one_size}
use Rattle.libc_arguments.proofs.Finishing.{length_of_range}
use Rattle.libc_arguments.proofs.Listing.{next_not_zero}
use Rattle.libc_arguments.proofs.Writing.{did, stored_length, writable_run, target_passes, target_raises, checks_give, write_run, written_behind}

text_length : (m : Kept) (r : Range) → length (bytes_of m r) ≡ r.len
text_length m r = length_of_range (byte_at m r.object) r.from r.len

-- ---- ranges that may overlap
clause_is : (c d : Clause) (r : Result (Unit {0}) Clause) → r ≡ Err c → r ≡ Err d → d ≡ c
clause_is c d r e h = cc

pub overlap_raises : (b : Bool) (c d : Clause) (rows : List Row) (s : Store) (r : Result (Unit {0}) Clause) → r ≡ Err c → r ≡ cond b (Err d) (Ok tt) →
    run rows (require (not b) d) s ≡ Raised c
overlap_raises true c d rows s r e h = ap Raised (clause_is c d r e h)
overlap_raises false c d rows s r e h = absurd (cc)

pub apart_passes : (b : Bool) (d : Clause) (rows : List Row) (s : Store) (r : Result (Unit {0}) Clause) → r ≡ Ok tt → r ≡ cond b (Err d) (Ok tt) →
    run rows (require (not b) d) s ≡ Done tt [] s
apart_passes true d rows s r e h = absurd (cc)
apart_passes false d rows s r e h = refl

-- ---- memcpy and memmove
abbrev pub Ranged : Type 0
Ranged = Option Accessed × Option Accessed

abbrev pub ranged_apart : Bool → ℕ → (to from : ℕ) → Option Accessed → Option Accessed → Script Ranged
ranged_apart may n to from target source = require (may || not (overlap n to from)) MemcpyOverlap >>= (λ w. Give (target, source))

abbrev pub ranged_to : Bool → ℕ → (to from : ℕ) → Option Accessed → Option Accessed → Script Ranged
ranged_to may n to from target source = check_target n target >>= (λ u. ranged_apart may n to from target source)

abbrev pub ranged_from : List Row → Bool → ℕ → (to from : ℕ) → Prov → Option Accessed → Script Ranged
ranged_from rows may n to from q target = argument rows n from q >>= (λ source. ranged_to may n to from target source)

pub no_ranged_target : {B : Type 0} (seen : B → Ranged) (m : Kept) (io : Io) (old mid new : List Item) (may : Bool) (to : ℕ) (p : Prov) (from : ℕ) (q : Prov)
    (n : ℕ) (e : LibAnswer) → Follows true (accessed_if m) (Err e) m io old mid (argument m.rows n to p) →
    Follows true seen (Err e) m io old new (ranges_to_copy m.rows may to p from q n)
no_ranged_target seen m io old mid new may to p from q n e h = err_follows true true (Option Accessed) Ranged (accessed_if m) seen e m io old mid new
    (argument m.rows n to p) (ranged_from m.rows may n to from q) h

pub no_ranged_source : {B : Type 0} (seen : B → Ranged) (m : Kept) (io : Io) (old mid next new : List Item) (may : Bool) (to : ℕ) (p : Prov) (from : ℕ)
    (q : Prov) (n : ℕ) (r : Option Range) (e : LibAnswer) → Gives true (Option Accessed) m io old mid (argument m.rows n to p) (accessed_if m r) →
    Follows true (accessed_if m) (Err e) m io mid next (argument m.rows n from q) →
    Follows true seen (Err e) m io old new (ranges_to_copy m.rows may to p from q n)
no_ranged_source {B = B} seen m io old mid next new may to p from q n r e g h =
    then_follows {C = B} true true (Option Accessed) Ranged seen (Err e) m io old mid new (argument m.rows n to p) (accessed_if m r)
    (ranged_from m.rows may n to from q) g
    (err_follows true true (Option Accessed) Ranged (accessed_if m) seen e m io mid next new (argument m.rows n from q)
    (ranged_to may n to from (accessed_if m r)) h)

-- both ranges were checked
behind_ranged : {B : Type 0} (seen : B → Ranged) (x : Result B LibAnswer) (m : Kept) (io : Io) (old mid new : List Item) (may : Bool) (to : ℕ) (p : Prov)
    (from : ℕ) (q : Prov) (n : ℕ) (r u : Option Range) → Gives true (Option Accessed) m io old mid (argument m.rows n to p) (accessed_if m r) →
    Gives true (Option Accessed) m io mid new (argument m.rows n from q) (accessed_if m u) →
    Follows true seen x m io new new (ranged_to may n to from (accessed_if m r) (accessed_if m u)) →
    Follows true seen x m io old new (ranges_to_copy m.rows may to p from q n)
behind_ranged {B = B} seen x m io old mid new may to p from q n r u g h k =
    then_follows {C = B} true true (Option Accessed) Ranged seen x m io old mid new (argument m.rows n to p) (accessed_if m r)
    (ranged_from m.rows may n to from q) g
    (then_follows {C = B} true true (Option Accessed) Ranged seen x m io mid new new (argument m.rows n from q) (accessed_if m u)
    (ranged_to may n to from (accessed_if m r)) h k)

pub ranged_unwritable : {B : Type 0} (seen : B → Ranged) (m : Kept) (io : Io) (old mid new : List Item) (may : Bool) (to : ℕ) (p : Prov) (from : ℕ) (q : Prov)
    (n : ℕ) (r u : Option Range) (c : Clause) → IsRange n r → Gives true (Option Accessed) m io old mid (argument m.rows n to p) (accessed_if m r) →
    Gives true (Option Accessed) m io mid new (argument m.rows n from q) (accessed_if m u) → Err c ≡ target_checked m r →
    Follows true seen (Err (answers.Raise c)) m io old new (ranges_to_copy m.rows may to p from q n)
ranged_unwritable seen m io old mid new may to p from q n r u c range g h e =
    behind_ranged seen (Err (answers.Raise c)) m io old mid new may to p from q n r u g h
    (raises_then (Unit {0}) Ranged m.rows (after new (store_of m io)) (check_target n (accessed_if m r))
    (λ w. ranged_apart may n to from (accessed_if m r) (accessed_if m u)) c (target_raises m.rows m n r c (after new (store_of m io)) range e))

require_raises : (b : Bool) (c d : Clause) (rows : List Row) (s : Store) (r : Result (Unit {0}) Clause) → r ≡ Err c → r ≡ cond b (Ok tt) (Err d) →
    run rows (require b d) s ≡ Raised c
require_raises true c d rows s r e h = absurd (cc)
require_raises false c d rows s r e h = ap Raised (clause_is c d r e h)

require_passes : (b : Bool) (d : Clause) (rows : List Row) (s : Store) (r : Result (Unit {0}) Clause) → r ≡ Ok tt → r ≡ cond b (Ok tt) (Err d) →
    run rows (require b d) s ≡ Done tt [] s
require_passes true d rows s r e h = refl
require_passes false d rows s r e h = absurd (cc)

pub ranged_overlap : {B : Type 0} (seen : B → Ranged) (m : Kept) (io : Io) (old mid new : List Item) (may : Bool) (to : ℕ) (p : Prov) (from : ℕ) (q : Prov)
    (n : ℕ) (r u : Option Range) (c : Clause) (o : Result (Unit {0}) Clause) → IsRange n r →
    Gives true (Option Accessed) m io old mid (argument m.rows n to p) (accessed_if m r) →
    Gives true (Option Accessed) m io mid new (argument m.rows n from q) (accessed_if m u) → Ok tt ≡ target_checked m r → o ≡ Err c →
    o ≡ cond (may || not (overlap n to from)) (Ok tt) (Err MemcpyOverlap) →
    Follows true seen (Err (answers.Raise c)) m io old new (ranges_to_copy m.rows may to p from q n)
ranged_overlap seen m io old mid new may to p from q n r u c o range g h able is over =
    behind_ranged seen (Err (answers.Raise c)) m io old mid new may to p from q n r u g h
    (then_raises true (Unit {0}) Ranged m io new new (check_target n (accessed_if m r)) tt
    (λ w. ranged_apart may n to from (accessed_if m r) (accessed_if m u)) c
    (checks_give true m io new (check_target n (accessed_if m r)) (target_passes m.rows m n r (after new (store_of m io)) range able))
    (raises_then (Unit {0}) Ranged m.rows (after new (store_of m io)) (require (may || not (overlap n to from)) MemcpyOverlap)
    (λ w. Give (accessed_if m r, accessed_if m u)) c
    (require_raises (may || not (overlap n to from)) c MemcpyOverlap m.rows (after new (store_of m io)) o is over)))

pub ranged_given : {B : Type 0} (seen : B → Ranged) (b : B) (m : Kept) (io : Io) (old mid new : List Item) (may : Bool) (to : ℕ) (p : Prov) (from : ℕ)
    (q : Prov) (n : ℕ) (r u : Option Range) (o : Result (Unit {0}) Clause) → IsRange n r →
    Gives true (Option Accessed) m io old mid (argument m.rows n to p) (accessed_if m r) →
    Gives true (Option Accessed) m io mid new (argument m.rows n from q) (accessed_if m u) → Ok tt ≡ target_checked m r → o ≡ Ok tt →
    o ≡ cond (may || not (overlap n to from)) (Ok tt) (Err MemcpyOverlap) → seen b ≡ (accessed_if m r, accessed_if m u) →
    Gives true Ranged m io old new (ranges_to_copy m.rows may to p from q n) (seen b)
ranged_given seen b m io old mid new may to p from q n r u o range g h able is over same =
    behind_ranged seen (Ok b) m io old mid new may to p from q n r u g h
    (then_gives true true (Unit {0}) Ranged m io new new new (check_target n (accessed_if m r)) tt
    (λ w. ranged_apart may n to from (accessed_if m r) (accessed_if m u)) (seen b)
    (checks_give true m io new (check_target n (accessed_if m r)) (target_passes m.rows m n r (after new (store_of m io)) range able))
    (then_gives true true (Unit {0}) Ranged m io new new new (require (may || not (overlap n to from)) MemcpyOverlap) tt
    (λ w. Give (accessed_if m r, accessed_if m u)) (seen b)
    (checks_give true m io new (require (may || not (overlap n to from)) MemcpyOverlap)
    (require_passes (may || not (overlap n to from)) MemcpyOverlap m.rows (after new (store_of m io)) o is over))
    (subst (λ (c : Ranged). Gives true Ranged m io new new (Give (accessed_if m r, accessed_if m u)) c) (sym same)
    (gives_at_once true Ranged m io new (accessed_if m r, accessed_if m u)))))

-- what holds of the act of these arguments holds of that of a call's
pub memmove_by : (P : Act LibValue → Type 0) (may : Bool) (rows : List Row) (vs : List LibValue) (to from : ℕ) (p q : Prov) (n : ℕ) (s : Store) →
    pointer to p ≡ pointer_in (argument_at vs 0) → pointer from q ≡ pointer_in (argument_at vs 1) → n ≡ size_of_value (argument_at vs 2) →
    P (run rows (memmove rows may to p from q n) s) →
    P (run rows (memmove rows may (address_in (argument_at vs 0)) (prov_in (argument_at vs 0)) (address_in (argument_at vs 1)) (prov_in (argument_at vs 1))
    (size_of_value (argument_at vs 2))) s)
memmove_by P may rows vs to from p q n s first second size h =
    let x = address_is to (address_in (argument_at vs 0)) p (prov_in (argument_at vs 0)) first in
    let y = address_is from (address_in (argument_at vs 1)) q (prov_in (argument_at vs 1)) second in
    subst (λ (k : ℕ). P (run rows (memmove rows may (address_in (argument_at vs 0)) (prov_in (argument_at vs 0)) (address_in (argument_at vs 1))
    (prov_in (argument_at vs 1)) k) s)) size
    (subst (λ (d : ℕ). P (run rows (memmove rows may (address_in (argument_at vs 0)) (prov_in (argument_at vs 0)) d (prov_in (argument_at vs 1)) n) s)) y.0
    (subst (λ (r : Prov). P (run rows (memmove rows may (address_in (argument_at vs 0)) (prov_in (argument_at vs 0)) from r n) s)) y.1
    (subst (λ (d : ℕ). P (run rows (memmove rows may d (prov_in (argument_at vs 0)) from q n) s)) x.0
    (subst (λ (r : Prov). P (run rows (memmove rows may to r from q n) s)) x.1 h))))

memmove_is : (rows : List Row) (may : Bool) (to : ℕ) (p : Prov) (from : ℕ) (q : Prov) (n : ℕ) (s : Store) →
    run rows (ranges_to_copy rows may to p from q n >>= (λ r. copy_between n r.0 r.1 >> Give (pointer to p))) s ≡ run rows (memmove rows may to p from q n) s
memmove_is rows may to p from q n s =
    let move : Ranged → Script LibValue = λ r. copy_between n r.0 r.1 >> Give (pointer to p) in
    run_twice rows (argument rows n to p) (ranged_from rows may n to from q) move s
    ∙ run_same rows (argument rows n to p) (λ target. ranged_from rows may n to from q target >>= move)
    (λ target. argument rows n from q >>= (λ source. check_target n target >>
    (require (may || not (overlap n to from)) MemcpyOverlap >> move (target, source)))) s
    (λ target u. run_twice rows (argument rows n from q) (ranged_to may n to from target) move u
    ∙ run_same rows (argument rows n from q) (λ source. ranged_to may n to from target source >>= move)
    (λ source. check_target n target >> (require (may || not (overlap n to from)) MemcpyOverlap >> move (target, source))) u
    (λ source w. run_twice rows (check_target n target) (λ u. ranged_apart may n to from target source) move w
    ∙ run_same rows (check_target n target) (λ v. ranged_apart may n to from target source >>= move)
    (λ v. require (may || not (overlap n to from)) MemcpyOverlap >> move (target, source)) w
    (λ v x. run_twice rows (require (may || not (overlap n to from)) MemcpyOverlap) (λ w. Give (target, source)) move x)))

retagged_length : (d : Option Form) (from : ℕ) (bs : List TaggedByte) → length (retagged d from bs) ≡ length bs
retagged_length None from bs = refl
retagged_length (Some form) from [] = refl
retagged_length (Some form) from (b ∷ bs) = ap suc (retagged_length (Some form) (suc from) bs)

abbrev pub moved_bytes : Kept → Range → Range → List TaggedByte → List TaggedByte
moved_bytes m r u bs = stored_from (declared_of (life_in (held_of m.objects r.object))) whole 0
    (retagged (declared_of (life_in (held_of m.objects u.object))) u.from bs)

moved_length : (m : Kept) (r u : Range) → length (moved_bytes m r u (bytes_of m u)) ≡ u.len
moved_length m r u =
    stored_length (declared_of (life_in (held_of m.objects r.object))) whole 0
    (retagged (declared_of (life_in (held_of m.objects u.object))) u.from (bytes_of m u))
    ∙ retagged_length (declared_of (life_in (held_of m.objects u.object))) u.from (bytes_of m u) ∙ text_length m u

-- the target may be written to
writable_passes : (b : Bool) (w : Result (Unit {0}) Clause) → b ≡ false → Ok tt ≡ cond b (Ok tt) w → w ≡ Ok tt
writable_passes true w e h = absurd (cc)
writable_passes false w e h = sym h

moves_at : (rows : List Row) (m : Kept) (n : ℕ) (r u : Range) (s : Store) → writable (life_in (held_of m.objects r.object)) ≡ Ok tt →
    run rows (copy_between (suc n) (Some (accessed m r)) (Some (accessed m u))) s
    ≡ did (Read u.object u.from (suc n) ∷ Write r.object r.from (length (moved_bytes m r u (range_from (s.bytes u.object) u.from (suc n)))) ∷ [])
    (with_bytes s r.object r.from (moved_bytes m r u (range_from (s.bytes u.object) u.from (suc n))))
moves_at rows m n r u s ok =
    run_then rows (check_writable false (life_in (held_of m.objects r.object)))
    (λ v. touch (Get u.object u.from (suc n)) >>= (λ bs. touch (Put r.object r.from (moved_bytes m r u bs)))) s
    ∙ ap (λ (act : Act (Unit {0})). then act
    (λ v w. run rows (touch (Get u.object u.from (suc n)) >>= (λ bs. touch (Put r.object r.from (moved_bytes m r u bs)))) w))
    (writable_run rows (life_in (held_of m.objects r.object)) s ∙ ap (λ (o : Result (Unit {0}) Clause). act_of o [] s) ok)

nothing_moved : (m : Kept) (r u : Range) (s : Store) → 0 ≡ r.len → 0 ≡ u.len → did [] s ≡ did (moved_items (Some r) (Some u)) (moved m (Some r) (Some u) s)
nothing_moved m r u s e h =
    ap₂ (λ (k j : ℕ). did (cond (j == 0) [] (Read u.object u.from u.len ∷ []) ++ cond (k == 0) [] (Write r.object r.from r.len ∷ []))
    (cond (k == 0) s (with_bytes s r.object r.from (moved_bytes m r u (bytes_of m u))))) e h

all_moved : (m : Kept) (n : ℕ) (r u : Range) (s : Store) → r.len ≡ suc n → u.len ≡ suc n → s.bytes u.object ≡ byte_at m u.object →
    did (Read u.object u.from (suc n) ∷ Write r.object r.from (length (moved_bytes m r u (range_from (s.bytes u.object) u.from (suc n)))) ∷ [])
    (with_bytes s r.object r.from (moved_bytes m r u (range_from (s.bytes u.object) u.from (suc n))))
    ≡ did (moved_items (Some r) (Some u)) (moved m (Some r) (Some u) s)
all_moved m n r u s to from same =
    let some_to : (r.len == 0) ≡ false = ap (λ (k : ℕ). k == 0) to ∙ next_not_zero n in
    let some_from : (u.len == 0) ≡ false = ap (λ (k : ℕ). k == 0) from ∙ next_not_zero n in
    ap (λ (f : ℕ → TaggedByte). did (Read u.object u.from (suc n) ∷ Write r.object r.from (length (moved_bytes m r u (range_from f u.from (suc n)))) ∷ [])
    (with_bytes s r.object r.from (moved_bytes m r u (range_from f u.from (suc n))))) same
    ∙ ap (λ (k : ℕ). did (Read u.object u.from k ∷ Write r.object r.from (length (moved_bytes m r u (range_from (byte_at m u.object) u.from k))) ∷ [])
    (with_bytes s r.object r.from (moved_bytes m r u (range_from (byte_at m u.object) u.from k)))) (sym from)
    ∙ ap (λ (k : ℕ). did (Read u.object u.from u.len ∷ Write r.object r.from k ∷ []) (with_bytes s r.object r.from (moved_bytes m r u (bytes_of m u))))
    (moved_length m r u ∙ from ∙ sym to)
    ∙ ap₂ (λ (b d : Bool). did (cond b [] (Read u.object u.from u.len ∷ []) ++ cond d [] (Write r.object r.from r.len ∷ []))
    (cond d s (with_bytes s r.object r.from (moved_bytes m r u (bytes_of m u))))) (sym some_from) (sym some_to)

-- the script of a copy between ranges that were checked
pub move_run : (rows : List Row) (m : Kept) (n : ℕ) (r u : Option Range) (s : Store) → IsRange n r → IsRange n u → Ok tt ≡ target_checked m r →
    ((x : ObjName) → s.bytes x ≡ byte_at m x) →
    run rows (copy_between n (accessed_if m r) (accessed_if m u)) s ≡ did (moved_items r u) (moved m r u s)
move_run rows m zero None u s h k able same = refl
move_run rows m zero (Some r) None s h k able same = refl
move_run rows m zero (Some r) (Some u) s h k able same = nothing_moved m r u s (sym h.0) (sym k.0)
move_run rows m (suc n) None u s h k able same = refl
move_run rows m (suc n) (Some r) None s h k able same = refl
move_run rows m (suc n) (Some r) (Some u) s h k able same =
    moves_at rows m n r u s (writable_passes (r.len == 0) (writable (life_in (held_of m.objects r.object))) (ap (λ (k : ℕ). k == 0) h.0 ∙ next_not_zero n)
    able)
    ∙ all_moved m n r u s h.0 k.0 (same u.object)

-- what a call of memcpy or memmove does once its ranges were checked
pub memmove_done : (m : Kept) (io : Io) (is : List Item) (may : Bool) (to : ℕ) (p : Prov) (from : ℕ) (q : Prov) (n : ℕ) (r u : Option Range) → IsRange n r →
    IsRange n u → Ok tt ≡ target_checked m r →
    (g : Gives true Ranged m io [] is (ranges_to_copy m.rows may to p from q n) (accessed_if m r, accessed_if m u)) →
    run m.rows (memmove m.rows may to p from q n) (store_of m io) ≡ Done (pointer to p) (g.items ++ moved_items r u) (moved m r u (after is (store_of m io)))
memmove_done m io is may to p from q n r u range source able g =
    sym (memmove_is m.rows may to p from q n (store_of m io))
    ∙ written_behind true Ranged m io is (moved_items r u) (ranges_to_copy m.rows may to p from q n) (accessed_if m r, accessed_if m u)
    (λ c. copy_between n c.0 c.1) (pointer to p) (moved m r u (after is (store_of m io))) g
    (move_run m.rows m n r u (after is (store_of m io)) range source able (λ x. after_bytes is (store_of m io) x))

-- one whose ranges aren't passes on why
pub memmove_raises : (m : Kept) (io : Io) (is : List Item) (may : Bool) (to : ℕ) (p : Prov) (from : ℕ) (q : Prov) (n : ℕ) (c : Clause) →
    run m.rows (ranges_to_copy m.rows may to p from q n) (store_of m io) ≡ Raised c →
    run m.rows (memmove m.rows may to p from q n) (store_of m io) ≡ Raised c
memmove_raises m io is may to p from q n c h =
    sym (memmove_is m.rows may to p from q n (store_of m io)) ∙ raises_then Ranged LibValue m.rows (store_of m io) (ranges_to_copy m.rows may to p from q n)
    (λ r. copy_between n r.0 r.1 >> Give (pointer to p)) c h

pub copy_size : (may : Bool) (vs : List LibValue) → are_sizes vs (size_places (copy_function may)) ≡ true →
    IsTrue (is_size (integer_in (argument_at vs 2)))
copy_size true vs e = one_size vs 2 e
copy_size false vs e = one_size vs 2 e

-- ---- strcpy
abbrev pub Copied : Type 0
Copied = List ℕ × Option Accessed

abbrev pub copied_apart : ℕ → (to from : ℕ) → Option Accessed → List ℕ → Script Copied
copied_apart n to from target ns = require (not (overlap n to from)) StrcpyOverlap >>= (λ w. Give (ns, target))

abbrev pub copied_to : ℕ → (to from : ℕ) → Option Accessed → List ℕ → Script Copied
copied_to n to from target ns = check_target n target >>= (λ u. copied_apart n to from target ns)

abbrev pub copied_of : (to from : ℕ) → Text → Option Accessed → Script Copied
copied_of to from source target = read_numbers source.bytes >>= (λ ns. copied_to (length source.bytes) to from target ns)

abbrev pub copied_from : List Row → (to : ℕ) → Prov → (from : ℕ) → Text → Script Copied
copied_from rows to p from source = argument rows (length source.bytes) to p >>= (λ target. copied_of to from source target)

strcpy_is : (rows : List Row) (to : ℕ) (p : Prov) (from : ℕ) (q : Prov) (s : Store) →
    run rows (string_to_copy rows to p from q >>= (λ c. write_numbers c.0 c.1 >> Give (pointer to p))) s ≡ run rows (strcpy rows to p from q) s
strcpy_is rows to p from q s =
    let write : Copied → Script LibValue = λ c. write_numbers c.0 c.1 >> Give (pointer to p) in
    run_twice rows (text rows from q) (copied_from rows to p from) write s
    ∙ run_same rows (text rows from q) (λ source. copied_from rows to p from source >>= write)
    (λ source. argument rows (length source.bytes) to p >>=
    (λ target. read_numbers source.bytes >>=
    (λ ns. check_target (length source.bytes) target >> (require (not (overlap (length source.bytes) to from)) StrcpyOverlap >> write (ns, target))))) s
    (λ source u. run_twice rows (argument rows (length source.bytes) to p) (copied_of to from source) write u
    ∙ run_same rows (argument rows (length source.bytes) to p) (λ target. copied_of to from source target >>= write)
    (λ target. read_numbers source.bytes >>=
    (λ ns. check_target (length source.bytes) target >> (require (not (overlap (length source.bytes) to from)) StrcpyOverlap >> write (ns, target)))) u
    (λ target w. run_twice rows (read_numbers source.bytes) (copied_to (length source.bytes) to from target) write w
    ∙ run_same rows (read_numbers source.bytes) (λ ns. copied_to (length source.bytes) to from target ns >>= write)
    (λ ns. check_target (length source.bytes) target >> (require (not (overlap (length source.bytes) to from)) StrcpyOverlap >> write (ns, target))) w
    (λ ns x. run_twice rows (check_target (length source.bytes) target) (λ u. copied_apart (length source.bytes) to from target ns) write x
    ∙ run_same rows (check_target (length source.bytes) target) (λ v. copied_apart (length source.bytes) to from target ns >>= write)
    (λ v. require (not (overlap (length source.bytes) to from)) StrcpyOverlap >> write (ns, target)) x
    (λ v y. run_twice rows (require (not (overlap (length source.bytes) to from)) StrcpyOverlap) (λ w. Give (ns, target)) write y))))

-- the source is no string
pub no_source : {B : Type 0} (seen : B → Copied) (m : Kept) (io : Io) (old mid new : List Item) (to : ℕ) (p : Prov) (from : ℕ) (q : Prov) (e : LibAnswer) →
    Follows false (text_in m) (Err e) m io old mid (text m.rows from q) →
    Follows false seen (Err e) m io old new (string_to_copy m.rows to p from q)
no_source seen m io old mid new to p from q e h = err_follows false false Text Copied (text_in m) seen e m io old mid new (text m.rows from q)
    (copied_from m.rows to p from) h

-- the range of the target isn't there
pub no_copy_target : {B : Type 0} (seen : B → Copied) (m : Kept) (io : Io) (old mid next new : List Item) (to : ℕ) (p : Prov) (from : ℕ) (q : Prov)
    (r : Range) (e : LibAnswer) → Gives false Text m io old mid (text m.rows from q) (text_in m r) →
    Follows true (accessed_if m) (Err e) m io mid next (argument m.rows r.len to p) →
    Follows false seen (Err e) m io old new (string_to_copy m.rows to p from q)
no_copy_target {B = B} seen m io old mid next new to p from q r e g h =
    then_follows {C = B} false true Text Copied seen (Err e) m io old mid new (text m.rows from q) (text_in m r) (copied_from m.rows to p from) g
    (err_follows true true (Option Accessed) Copied (accessed_if m) seen e m io mid next new (argument m.rows (length (bytes_of m r)) to p)
    (copied_of to from (text_in m r))
    (subst (λ (n : ℕ). Follows true (accessed_if m) (Err e) m io mid next (argument m.rows n to p)) (sym (text_length m r)) h))

-- both ranges were checked
behind_ranges : {B : Type 0} (seen : B → Copied) (x : Result B LibAnswer) (m : Kept) (io : Io) (old mid next new : List Item) (to : ℕ) (p : Prov) (from : ℕ)
    (q : Prov) (r : Range) (u : Option Range) → Gives false Text m io old mid (text m.rows from q) (text_in m r) →
    Gives true (Option Accessed) m io mid next (argument m.rows r.len to p) (accessed_if m u) →
    Follows true seen x m io next new (copied_of to from (text_in m r) (accessed_if m u)) →
    Follows false seen x m io old new (string_to_copy m.rows to p from q)
behind_ranges {B = B} seen x m io old mid next new to p from q r u g h k =
    then_follows {C = B} false true Text Copied seen x m io old mid new (text m.rows from q) (text_in m r) (copied_from m.rows to p from) g
    (then_follows {C = B} true true (Option Accessed) Copied seen x m io mid next new (argument m.rows (length (bytes_of m r)) to p) (accessed_if m u)
    (copied_of to from (text_in m r))
    (subst (λ (n : ℕ). Gives true (Option Accessed) m io mid next (argument m.rows n to p) (accessed_if m u)) (sym (text_length m r)) h) k)

-- the source isn't written
pub no_copy_numbers : {A B : Type 0} (items : A → List ℕ) (seen : B → Copied) (m : Kept) (io : Io) (old mid next end new : List Item) (to : ℕ) (p : Prov)
    (from : ℕ) (q : Prov) (r : Range) (u : Option Range) (e : LibAnswer) → Gives false Text m io old mid (text m.rows from q) (text_in m r) →
    Gives true (Option Accessed) m io mid next (argument m.rows r.len to p) (accessed_if m u) → ReadsAll items (Err e) (bytes_of m r) next end →
    Follows false seen (Err e) m io old new (string_to_copy m.rows to p from q)
no_copy_numbers items seen m io old mid next end new to p from q r u e g h k =
    behind_ranges seen (Err e) m io old mid next new to p from q r u g h
    (err_follows true true (List ℕ) Copied items seen e m io next end new (read_numbers (bytes_of m r))
    (copied_to (length (bytes_of m r)) to from (accessed_if m u)) (reads_follow items (Err e) m io next end (bytes_of m r) k))

-- the source was read
behind_copied : {A B : Type 0} (items : A → List ℕ) (v : A) (seen : B → Copied) (x : Result B LibAnswer) (m : Kept) (io : Io)
    (old mid next last new : List Item) (to : ℕ) (p : Prov) (from : ℕ) (q : Prov) (r : Range) (u : Option Range) →
    Gives false Text m io old mid (text m.rows from q) (text_in m r) →
    Gives true (Option Accessed) m io mid next (argument m.rows r.len to p) (accessed_if m u) → ReadsAll items (Ok v) (bytes_of m r) next last →
    Follows true seen x m io last new (copied_to r.len to from (accessed_if m u) (items v)) →
    Follows false seen x m io old new (string_to_copy m.rows to p from q)
behind_copied {B = B} items v seen x m io old mid next last new to p from q r u g h k f =
    behind_ranges seen x m io old mid next new to p from q r u g h
    (then_follows {C = B} true true (List ℕ) Copied seen x m io next last new (read_numbers (bytes_of m r)) (items v)
    (copied_to (length (bytes_of m r)) to from (accessed_if m u)) (reads_follow items (Ok v) m io next last (bytes_of m r) k)
    (subst (λ (n : ℕ). Follows true seen x m io last new (copied_to n to from (accessed_if m u) (items v))) (sym (text_length m r)) f))

-- the target may not be written to
pub copy_unwritable : {A B : Type 0} (items : A → List ℕ) (v : A) (seen : B → Copied) (m : Kept) (io : Io) (old mid next last : List Item) (to : ℕ) (p : Prov)
    (from : ℕ) (q : Prov) (r : Range) (u : Option Range) (c : Clause) → IsRange r.len u → Gives false Text m io old mid (text m.rows from q) (text_in m r) →
    Gives true (Option Accessed) m io mid next (argument m.rows r.len to p) (accessed_if m u) → ReadsAll items (Ok v) (bytes_of m r) next last →
    Err c ≡ target_checked m u → Follows false seen (Err (answers.Raise c)) m io old last (string_to_copy m.rows to p from q)
copy_unwritable items v seen m io old mid next last to p from q r u c range g h k e =
    behind_copied items v seen (Err (answers.Raise c)) m io old mid next last last to p from q r u g h k
    (raises_then (Unit {0}) Copied m.rows (after last (store_of m io)) (check_target r.len (accessed_if m u))
    (λ w. copied_apart r.len to from (accessed_if m u) (items v)) c (target_raises m.rows m r.len u c (after last (store_of m io)) range e))

-- the ranges overlap
pub copy_overlaps : {A B : Type 0} (items : A → List ℕ) (v : A) (seen : B → Copied) (m : Kept) (io : Io) (old mid next last : List Item) (to : ℕ) (p : Prov)
    (from : ℕ) (q : Prov) (r : Range) (u : Option Range) (c : Clause) (o : Result (Unit {0}) Clause) → IsRange r.len u →
    Gives false Text m io old mid (text m.rows from q) (text_in m r) →
    Gives true (Option Accessed) m io mid next (argument m.rows r.len to p) (accessed_if m u) → ReadsAll items (Ok v) (bytes_of m r) next last →
    Ok tt ≡ target_checked m u → o ≡ Err c → o ≡ cond (overlap r.len to from) (Err StrcpyOverlap) (Ok tt) →
    Follows false seen (Err (answers.Raise c)) m io old last (string_to_copy m.rows to p from q)
copy_overlaps items v seen m io old mid next last to p from q r u c o range g h k able is over =
    behind_copied items v seen (Err (answers.Raise c)) m io old mid next last last to p from q r u g h k
    (then_raises true (Unit {0}) Copied m io last last (check_target r.len (accessed_if m u)) tt (λ w. copied_apart r.len to from (accessed_if m u) (items v))
    c
    (checks_give true m io last (check_target r.len (accessed_if m u)) (target_passes m.rows m r.len u (after last (store_of m io)) range able))
    (raises_then (Unit {0}) Copied m.rows (after last (store_of m io)) (require (not (overlap r.len to from)) StrcpyOverlap)
    (λ w. Give (items v, accessed_if m u)) c (overlap_raises (overlap r.len to from) c StrcpyOverlap m.rows (after last (store_of m io)) o is over)))

pub copy_read : {A B : Type 0} (items : A → List ℕ) (v : A) (seen : B → Copied) (b : B) (m : Kept) (io : Io) (old mid next last : List Item) (to : ℕ)
    (p : Prov) (from : ℕ) (q : Prov) (r : Range) (u : Option Range) (o : Result (Unit {0}) Clause) → IsRange r.len u →
    Gives false Text m io old mid (text m.rows from q) (text_in m r) →
    Gives true (Option Accessed) m io mid next (argument m.rows r.len to p) (accessed_if m u) → ReadsAll items (Ok v) (bytes_of m r) next last →
    Ok tt ≡ target_checked m u → o ≡ Ok tt → o ≡ cond (overlap r.len to from) (Err StrcpyOverlap) (Ok tt) → seen b ≡ (items v, accessed_if m u) →
    Gives false Copied m io old last (string_to_copy m.rows to p from q) (seen b)
copy_read items v seen b m io old mid next last to p from q r u o range g h k able is over same =
    behind_copied items v seen (Ok b) m io old mid next last last to p from q r u g h k
    (then_gives true true (Unit {0}) Copied m io last last last (check_target r.len (accessed_if m u)) tt
    (λ w. copied_apart r.len to from (accessed_if m u) (items v)) (seen b)
    (checks_give true m io last (check_target r.len (accessed_if m u)) (target_passes m.rows m r.len u (after last (store_of m io)) range able))
    (then_gives true true (Unit {0}) Copied m io last last last (require (not (overlap r.len to from)) StrcpyOverlap) tt
    (λ w. Give (items v, accessed_if m u)) (seen b)
    (checks_give true m io last (require (not (overlap r.len to from)) StrcpyOverlap)
    (apart_passes (overlap r.len to from) StrcpyOverlap m.rows (after last (store_of m io)) o is over))
    (subst (λ (c : Copied). Gives true Copied m io last last (Give (items v, accessed_if m u)) c) (sym same)
    (gives_at_once true Copied m io last (items v, accessed_if m u)))))

pub copy_fills : {A : Type 0} (items : A → List ℕ) (v : A) (m : Kept) (r : Range) (u : Option Range) (old new : List Item) → IsRange r.len u →
    ReadsAll items (Ok v) (bytes_of m r) old new → FillsRange (length (items v)) u
copy_fills items v m r None old new range h = tt
copy_fills items v m r (Some w) old new range h = ap length h.1 ∙ length-map (bytes_of m r) number_of_byte ∙ text_length m r ∙ sym range.0

-- writes are joined with no read
writes_by : (b : Bool) (r : Range) → starts_in_read (cond b [] (Write r.object r.from r.len ∷ [])) ≡ false
writes_by true r = refl
writes_by false r = refl

pub writes_apart : (target : Option Range) → starts_in_read (write_items target) ≡ false
writes_apart None = refl
writes_apart (Some r) = writes_by _ r

joined_by : (b : Bool) (r : Range) → joined (cond b [] (Write r.object r.from r.len ∷ [])) ≡ cond b [] (Write r.object r.from r.len ∷ [])
joined_by true r = refl
joined_by false r = refl

pub writes_joined : (target : Option Range) → joined (write_items target) ≡ write_items target
writes_joined None = refl
writes_joined (Some r) = joined_by _ r

pub copy_gives : (m new : Kept) (io : Io) (is js : List Item) (to : ℕ) (p : Prov) (from : ℕ) (q : Prov) (ns : List ℕ) (target : Option Range) → AreWithin io →
    FillsRange (length ns) target →
    Gives false Copied m io [] is (string_to_copy m.rows to p from q) (ns, accessed_if m target) → js ≡ is ++ write_items target →
    (CanFollow m.cells is (store_of m io) → store_of new io ≡ overwritten target ns (after is (store_of m io))) →
    Answers (answers.Value (Ptr to p)) js (store_of new io) (limited (store_of m io) (run m.rows (strcpy m.rows to p from q) (store_of m io)))
copy_gives m new io is js to p from q ns target within fills g more store =
    let all : run m.rows (strcpy m.rows to p from q) (store_of m io) ≡ Done (pointer to p) (g.items ++ write_items target)
    (overwritten target ns (after is (store_of m io))) =
    sym (strcpy_is m.rows to p from q (store_of m io))
    ∙ written_behind false Copied m io is (write_items target) (string_to_copy m.rows to p from q) (ns, accessed_if m target) (λ c. write_numbers c.0 c.1)
    (pointer to p) (overwritten target ns (after is (store_of m io))) g
    (write_run m.rows m ns target (after is (store_of m io)) fills (λ x. after_life is (store_of m io) x)) in
    let items : js ≡ joined (g.items ++ write_items target) =
    more ∙ ap (λ (ks : List Item). ks ++ write_items target) g.added ∙ ap (λ (ks : List Item). joined g.items ++ ks) (sym (writes_joined target)) ∙ sym
    (joined_append g.items (write_items target) (writes_apart target)) in
    subst (λ (act : Act LibValue). Answers (answers.Value (Ptr to p)) js (store_of new io) (limited (store_of m io) act)) (sym all)
    (answers_of (Ok (Ptr to p)) js (store_of new io)
    (Done (pointer to p) (joined (g.items ++ write_items target)) (overwritten target ns (after is (store_of m io)))) within
    (refl, items, store (g.able tt)))

pub copy_fails : {B : Type 0} (seen : B → Copied) (m : Kept) (io : Io) (is : List Item) (to : ℕ) (p : Prov) (from : ℕ) (q : Prov) (e : LibAnswer) →
    Follows false seen (Err e) m io [] is (string_to_copy m.rows to p from q) →
    Answers e is (store_of m io) (limited (store_of m io) (run m.rows (strcpy m.rows to p from q) (store_of m io)))
copy_fails seen m io is to p from q answers.NoMemory h = tt
copy_fails seen m io is to p from q (answers.Raise d) h =
    let act : run m.rows (strcpy m.rows to p from q) (store_of m io) ≡ Raised d =
    sym (strcpy_is m.rows to p from q (store_of m io)) ∙ raises_then Copied LibValue m.rows (store_of m io) (string_to_copy m.rows to p from q)
    (λ c. write_numbers c.0 c.1 >> Give (pointer to p)) d h in
    subst (λ (act : Act LibValue). Answers (answers.Raise d) is (store_of m io) (limited (store_of m io) act)) (sym act) refl
copy_fails seen m io is to p from q e h = absurd h

pub strcpy_called : (rows : List Row) (vs : List LibValue) (who : Event) (a b : ℕ) (p q : Prov) (s t : Store) (is : List Item) (e : LibAnswer) →
    pointer a p ≡ pointer_in (argument_at vs 0) → pointer b q ≡ pointer_in (argument_at vs 1) →
    Answers e is t (limited s (run rows (strcpy rows a p b q) s)) → Answers e is t (called rows Strcpy vs who s)
strcpy_called rows vs who a b p q s t is e first second h =
    let x = address_is a (address_in (argument_at vs 0)) p (prov_in (argument_at vs 0)) first in
    let y = address_is b (address_in (argument_at vs 1)) q (prov_in (argument_at vs 1)) second in
    subst (λ (d : ℕ). Answers e is t (limited s
    (run rows (strcpy rows (address_in (argument_at vs 0)) (prov_in (argument_at vs 0)) d (prov_in (argument_at vs 1))) s))) y.0
    (subst (λ (r : Prov). Answers e is t (limited s (run rows (strcpy rows (address_in (argument_at vs 0)) (prov_in (argument_at vs 0)) b r) s))) y.1
    (subst (λ (d : ℕ). Answers e is t (limited s (run rows (strcpy rows d (prov_in (argument_at vs 0)) b q) s))) x.0
    (subst (λ (r : Prov). Answers e is t (limited s (run rows (strcpy rows a r b q) s))) x.1 h)))
