-- Lemmas on calls that write bytes.
use Rattle.std.proofs.Common.{
  ◌≡◌,
  ℕ,
  zero,
  suc,
  ◌%◌,
  ◌≤◌,
  ◌==◌,
  Bool,
  true,
  false,
  cond,
  List,
  [],
  ◌∷◌,
  ◌++◌,
  length,
  map,
  replicate,
  refl,
  ap,
  ap₂,
  sym,
  subst,
  ◌∙◌,
  arith,
  Option,
  Some,
  None,
  ℤ,
}
use Rattle.std.specs.Prelude.{Result, Ok, Err, OnOk, IfErr, not}
use Rattle.std.proofs.lemmas.Bool.{ne_eqb}
use Rattle.std.proofs.lemmas.List.{append-nil, length-map, length-replicate}
use Rattle.ub_base.specs.declared.clause.Clause.{Clause}
use Rattle.ub_base.specs.declared.clause.Clause.TheVariants.{StoreToLiteral, StoreToConst}
use Rattle.ub_base.specs.declared.names.Item.{Item}
use Rattle.ub_base.specs.declared.names.Item.TheVariants.{Alive, Write}
use Rattle.ub_base.specs.declared.names.Event.{Event}
use Rattle.ub_base.specs.declared.names.ObjName.{ObjName}
use Rattle.addr_map.specs.declared.map.Row.{Row}
use Rattle.addr_map.specs.Rows.{row_of}
use Rattle.exposure.specs.declared.prov.Prov.{Prov}
use Rattle.exposure.specs.declared.prov.Prov.TheVariants.{Whole}
use Rattle.c_types.specs.Shapes.{Form}
use Rattle.c_types.specs.declared.library.LibFunc.TheVariants.{Memset}
use Rattle.mem_objects.specs.declared.value.Value.TheVariants.{Ptr}
use Rattle.mem_objects.specs.declared.answer.LibAnswer.{LibAnswer}
use Rattle.mem_objects.specs.declared.answer.LibAnswer.TheVariants as answers
use Rattle.mem_objects.specs.declared.cell.Cell.{Cell}
use Rattle.mem_objects.specs.declared.cell.Via.{Via}
use Rattle.mem_objects.specs.declared.cell.Via.TheVariants as vias
use Rattle.mem_spec.specs.Store.{Store, Life, TaggedByte, is_live, with_bytes}
use Rattle.mem_spec.specs.Script.{Script, Give, require, ◌>>=◌, ◌>>◌, Act, Done, Raised, run}
use Rattle.mem_spec.specs.Acts as acts
use Rattle.mem_spec.specs.Acts.{Accessed, Seen, whole, bytes, in_row, offset_in, is_literal, is_constant, declared_of, stored_from, argument, check_writable}
use Rattle.mem_objects.specs.Cells.{plain_cell}
use Rattle.mem_spec.specs.Streams.{Io}
use Rattle.mem_objects.specs.Held.{held_of}
use Rattle.mem_objects.specs.Memory.{Kept, CellsKnown, HasCell, act_of, life_in, store_of}
use Rattle.mem_objects.specs.Stores.{Sees, tagged_all}
use Rattle.mem_objects.specs.Stores as stores
use Rattle.libc_spec.specs.Library.{
  LibValue,
  pointer,
  pointer_in,
  address_in,
  prov_in,
  integer_in,
  size_of_value,
  argument_at,
  plain,
  low_byte,
  check_target,
  write_numbers,
  memset,
  called,
}
use Rattle.libc_arguments.specs.declared.arguments.Range.{Range}
use Rattle.libc_arguments.specs.Answers.{Answers, AreWithin}
use Rattle.libc_arguments.specs.Parts.{after, CanFollow, Gives, Follows, offset_if, accessed_if, IsRange}
use Rattle.libc_arguments.specs.Writes.{
  IsPlace,
  FillsRange,
  LiveOn,
  SeesBytes,
  writable,
  target_checked,
  target_at,
  without_empty,
  write_items,
  overwritten,
  within_limits,
}
use Rattle.libc_arguments.proofs.Scripts.{then, behind, run_then, behind_done, run_same, run_twice}
use Rattle.libc_arguments.proofs.Parts.{after_life, after_append, follow_append, then_gives, then_raises, raises_then, err_follows, gives_at_once}
use Rattle.libc_arguments.proofs.Checking.{offset_some}
use Rattle.libc_arguments.proofs.Listing.{quiet_items, next_not_zero}
use Rattle.libc_arguments.proofs.Answering.{answers_of, address_is}

-- ---- places
pub place_of_range : (m : Kept) (x : ObjName) (a len from : ℕ) → 1 ≤ a → is_live (life_in (held_of m.objects x)) ≡ true →
    Some from ≡ offset_if (row_of m.rows x) a len → IsPlace m a (record { object = x; from = from; len = len })
place_of_range m x a len from some live place =
    let here = offset_some (in_row (row_of m.rows x) a len) from (offset_in (row_of m.rows x) a) place in
    record { address = some; live = live; inside = here.0; from = here.1 }

-- a place stays one where rows and lives stay
pub place_stays : (old new : Kept) (a : ℕ) (r : Range) → LiveOn old new → new.rows ≡ old.rows → IsPlace old a r → IsPlace new a r
place_stays old new a r lives rows p = record {
  address = p.address;
  live = ap is_live (lives r.object) ∙ p.live;
  inside = ap (λ (rs : List Row). in_row (row_of rs r.object) a r.len) rows ∙ p.inside;
  from = p.from ∙ ap (λ (rs : List Row). offset_in (row_of rs r.object) a) (sym rows);
}

-- ---- the checks of a range that is written to
writable_by : (literal constant : Bool) (rows : List Row) (s : Store) →
    run rows (require (not literal) StoreToLiteral >> require (not constant) StoreToConst) s ≡ act_of
    (cond literal (Err StoreToLiteral) (cond constant (Err StoreToConst) (Ok tt))) [] s
writable_by true constant rows s = refl
writable_by false true rows s = refl
writable_by false false rows s = refl

pub writable_run : (rows : List Row) (life : Option Life) (s : Store) → run rows (check_writable false life) s ≡ act_of (writable life) [] s
writable_run rows life s = writable_by (is_literal life) (is_constant life) rows s

target_run : (rows : List Row) (m : Kept) (n : ℕ) (target : Option Range) (s : Store) → IsRange n target →
    run rows (check_target n (accessed_if m target)) s ≡ act_of (target_checked m target) [] s
target_run rows m zero None s h = refl
target_run rows m zero (Some r) s h = ap (λ (k : ℕ). act_of (cond (k == 0) (Ok tt) (writable (life_in (held_of m.objects r.object)))) [] s) (sym h.0)
target_run rows m (suc n) None s h = refl
target_run rows m (suc n) (Some r) s h =
    writable_run rows (life_in (held_of m.objects r.object)) s
    ∙ ap (λ (b : Bool). act_of (cond b (Ok tt) (writable (life_in (held_of m.objects r.object)))) [] s) (sym (ap (λ (k : ℕ). k == 0) h.0 ∙ next_not_zero n))

-- the range may be written to
pub target_passes : (rows : List Row) (m : Kept) (n : ℕ) (target : Option Range) (s : Store) → IsRange n target → Ok tt ≡ target_checked m target →
    run rows (check_target n (accessed_if m target)) s ≡ Done tt [] s
target_passes rows m n target s h e = target_run rows m n target s h ∙ ap (λ (r : Result (Unit {0}) Clause). act_of r [] s) (sym e)

pub target_raises : (rows : List Row) (m : Kept) (n : ℕ) (target : Option Range) (c : Clause) (s : Store) → IsRange n target →
    Err c ≡ target_checked m target → run rows (check_target n (accessed_if m target)) s ≡ Raised c
target_raises rows m n target c s h e = target_run rows m n target s h ∙ ap (λ (r : Result (Unit {0}) Clause). act_of r [] s) (sym e)

-- a part that only checks
pub checks_give : (q : Bool) (m : Kept) (io : Io) (is : List Item) (p : Script (Unit {0})) →
    run m.rows p (after is (store_of m io)) ≡ Done tt [] (after is (store_of m io)) → Gives q (Unit {0}) m io is is p tt
checks_give true m io is p e = record { items = []; apart = refl; added = sym (append-nil is); done = e; able = λ h. h }
checks_give false m io is p e = record { items = []; apart = refl; added = sym (append-nil is); done = e; able = λ h. h }

pub no_target : (m : Kept) (io : Io) (old mid new : List Item) (n a : ℕ) (p : Prov) (e : LibAnswer) →
    Follows true (accessed_if m) (Err e) m io old mid (argument m.rows n a p) → Follows true (accessed_if m) (Err e) m io old new (target_at m.rows n a p)
no_target m io old mid new n a p e h = err_follows true true (Option Accessed) (Option Accessed) (accessed_if m) (accessed_if m) e m io old mid new
    (argument m.rows n a p) (λ target. check_target n target >> Give target) h

pub target_refused : (m : Kept) (io : Io) (old new : List Item) (n a : ℕ) (p : Prov) (r : Option Range) (c : Clause) → IsRange n r →
    Gives true (Option Accessed) m io old new (argument m.rows n a p) (accessed_if m r) → Err c ≡ target_checked m r →
    run m.rows (target_at m.rows n a p) (after old (store_of m io)) ≡ Raised c
target_refused m io old new n a p r c range g e =
    then_raises true (Option Accessed) (Option Accessed) m io old new (argument m.rows n a p) (accessed_if m r)
    (λ target. check_target n target >> Give target) c g
    (raises_then (Unit {0}) (Option Accessed) m.rows (after new (store_of m io)) (check_target n (accessed_if m r)) (λ u. Give (accessed_if m r)) c
    (target_raises m.rows m n r c (after new (store_of m io)) range e))

pub target_gives : (m : Kept) (io : Io) (old new : List Item) (n a : ℕ) (p : Prov) (r : Option Range) → IsRange n r →
    Gives true (Option Accessed) m io old new (argument m.rows n a p) (accessed_if m r) → Ok tt ≡ target_checked m r →
    Gives true (Option Accessed) m io old new (target_at m.rows n a p) (accessed_if m r)
target_gives m io old new n a p r range g e =
    then_gives true true (Option Accessed) (Option Accessed) m io old new new (argument m.rows n a p) (accessed_if m r)
    (λ target. check_target n target >> Give target) (accessed_if m r) g
    (then_gives true true (Unit {0}) (Option Accessed) m io new new new (check_target n (accessed_if m r)) tt (λ u. Give (accessed_if m r)) (accessed_if m r)
    (checks_give true m io new (check_target n (accessed_if m r)) (target_passes m.rows m n r (after new (store_of m io)) range e))
    (gives_at_once true (Option Accessed) m io new (accessed_if m r)))

-- ---- bytes that are stored
pub stored_length : (d : Option Form) (seen : Seen) (i : ℕ) (bs : List TaggedByte) → length (stored_from d seen i bs) ≡ length bs
stored_length None seen i [] = refl
stored_length (Some form) seen i [] = refl
stored_length None seen i (b ∷ bs) = ap suc (stored_length None seen (suc i) bs)
stored_length (Some form) seen i (b ∷ bs) = ap suc (stored_length (Some form) seen (suc i) bs)

pub whole_remainder : (a : ℕ) → (a % 1 == 0) ≡ true
whole_remainder a = grind arith

-- a store over a place
whole_stored : (rows : List Row) (a : ℕ) (x : ObjName) (s : Store) (bs : List TaggedByte) → (a == 0) ≡ false → is_live (s.life x) ≡ true →
    in_row (row_of rows x) a (length bs) ≡ true →
    run rows (acts.store rows true whole 1 a (Whole x) bs) s ≡ Done tt
    (Alive x ∷ Write x (offset_in (row_of rows x) a) (length (stored_from (declared_of (s.life x)) whole 0 bs)) ∷ [])
    (with_bytes s x (offset_in (row_of rows x) a) (stored_from (declared_of (s.life x)) whole 0 bs))
whole_stored rows a x s bs some live inside = rw (some, live, inside, whole_remainder a) refl

bytes_stored : (rows : List Row) (a : ℕ) (x : ObjName) (s : Store) (bs : List TaggedByte) → (a == 0) ≡ false → is_live (s.life x) ≡ true →
    in_row (row_of rows x) a (length bs) ≡ true →
    run rows (acts.store rows true bytes 1 a (Whole x) bs) s ≡ Done tt
    (Alive x ∷ Write x (offset_in (row_of rows x) a) (length (stored_from (declared_of (s.life x)) bytes 0 bs)) ∷ [])
    (with_bytes s x (offset_in (row_of rows x) a) (stored_from (declared_of (s.life x)) bytes 0 bs))
bytes_stored rows a x s bs some live inside = rw (some, live, inside, whole_remainder a) refl

pub not_zero : (a : ℕ) → 1 ≤ a → a ≡ 0 → ⊥
not_zero a h e = omega arith

-- what a store does to a store that has the range
abbrev pub stored_over : Kept → Range → Seen → List TaggedByte → Store → Store
stored_over m r seen bs s = with_bytes s r.object r.from (stored_from (declared_of (life_in (held_of m.objects r.object))) seen 0 bs)

stored_at : (m : Kept) (io : Io) (a : ℕ) (r : Range) (via : Via) (seen : Seen) (bs : List TaggedByte) → SeesBytes via seen → IsPlace m a r →
    length bs ≡ r.len →
    (is : List Item) × (run m.rows (acts.store m.rows true seen 1 a (Whole r.object) bs) (store_of m io) ≡ Done tt is
    (stored_over m r seen bs (store_of m io)))
stored_at m io a r vias.Whole whole bs sees p len =
    let stored = stored_from (declared_of (life_in (held_of m.objects r.object))) whole 0 bs in (
      Alive r.object ∷ Write r.object (offset_in (row_of m.rows r.object) a)
          (length (stored_from (declared_of (life_in (held_of m.objects r.object))) whole 0 bs)) ∷ [],
      whole_stored m.rows a r.object (store_of m io) bs (ne_eqb a 0 (λ e. not_zero a p.address e)) p.live
          (ap (in_row (row_of m.rows r.object) a) len ∙ p.inside)
          ∙ ap (λ (from : ℕ). Done tt (Alive r.object ∷ Write r.object (offset_in (row_of m.rows r.object) a)
          (length (stored_from (declared_of (life_in (held_of m.objects r.object))) whole 0 bs)) ∷ [])
          (with_bytes (store_of m io) r.object from (stored_from (declared_of (life_in (held_of m.objects r.object))) whole 0 bs))) (sym p.from),
    )
stored_at m io a r vias.Bytes bytes bs sees p len = (
  Alive r.object ∷ Write r.object (offset_in (row_of m.rows r.object) a)
      (length (stored_from (declared_of (life_in (held_of m.objects r.object))) bytes 0 bs)) ∷ [],
  bytes_stored m.rows a r.object (store_of m io) bs (ne_eqb a 0 (λ e. not_zero a p.address e)) p.live (ap (in_row (row_of m.rows r.object) a) len ∙ p.inside)
      ∙ ap (λ (from : ℕ). Done tt (Alive r.object ∷ Write r.object (offset_in (row_of m.rows r.object) a)
      (length (stored_from (declared_of (life_in (held_of m.objects r.object))) bytes 0 bs)) ∷ [])
      (with_bytes (store_of m io) r.object from (stored_from (declared_of (life_in (held_of m.objects r.object))) bytes 0 bs))) (sym p.from),
)
stored_at m io a r via seen bs sees p len = absurd sees

sees_bytes : (m : Kept) (via : Via) (seen : Seen) → SeesBytes via seen → Sees m via seen
sees_bytes m vias.Whole whole h = tt
sees_bytes m vias.Bytes bytes h = tt
sees_bytes m via seen h = absurd h

short_bytes : (via : Via) (seen : Seen) (n : ℕ) → SeesBytes via seen → stores.IsShort via n
short_bytes vias.Whole seen n h = tt
short_bytes vias.Bytes seen n h = tt
short_bytes via seen n h = absurd h

same_store : {V : Type 0} (v w : V) (is js : List Item) (s u : Store) → Done v is s ≡ Done w js u → s ≡ u
same_store v w is js s u e = cc

not_raised : {V : Type 0} (act : Act V) (c : Clause) (v : V) (is : List Item) (s : Store) → act ≡ Raised c → act ≡ Done v is s → ⊥
not_raised act c v is s e h = absurd (cc)

-- the bytes are stored over the place
pub put_done : (m new : Kept) (io : Io) (a : ℕ) (r : Range) (via : Via) (seen : Seen) (cells : List Cell) (js : List Item) (res : Result (Unit {0}) Clause) →
    SeesBytes via seen → IsPlace m a r → length cells ≡ r.len →
    OnOk res (HasCell m (Whole r.object) → stores.IsShort via (length cells) → (see : Seen) → Sees m via see →
    (i : Io) → run m.rows (acts.store m.rows true see 1 a (Whole r.object) (tagged_all m cells)) (store_of m i) ≡ Done tt js (store_of new i)) →
    IfErr res (λ c. (see : Seen) → Sees m via see → (i : Io) → run m.rows (acts.store m.rows true see 1 a (Whole r.object) (tagged_all m cells))
    (store_of m i) ≡ Raised c) →
    store_of new io ≡ stored_over m r seen (tagged_all m cells) (store_of m io)
put_done m new io a r via seen cells js (Ok u) sees p len ok err =
    let done = stored_at m io a r via seen (tagged_all m cells) sees p (length-map cells _ ∙ len) in
    same_store tt tt js done.0 (store_of new io) (stored_over m r seen (tagged_all m cells) (store_of m io))
    (sym (ok tt (short_bytes via seen (length cells) sees) seen (sees_bytes m via seen sees) io) ∙ done.1)
put_done m new io a r via seen cells js (Err c) sees p len ok err =
    let done = stored_at m io a r via seen (tagged_all m cells) sees p (length-map cells _ ∙ len) in
    absurd (not_raised (run m.rows (acts.store m.rows true seen 1 a (Whole r.object) (tagged_all m cells)) (store_of m io)) c tt done.0
    (stored_over m r seen (tagged_all m cells) (store_of m io)) (err seen (sees_bytes m via seen sees) io) done.1)

-- ---- numbers that are stored
plain_tagged : (m : Kept) (ns : List ℕ) → tagged_all m (map plain_cell ns) ≡ map plain ns
plain_tagged m [] = refl
plain_tagged m (n ∷ ns) = ap (λ (bs : List TaggedByte). plain n ∷ bs) (plain_tagged m ns)

pub plain_known : (k : ℕ) (ns : List ℕ) → CellsKnown k (map plain_cell ns)
plain_known k [] = tt
plain_known k (n ∷ ns) = (omega arith, plain_known k ns)

-- a range that isn't empty
kept_by : (b : Bool) (r range : Range) → Some range ≡ cond b None (Some r) → (b ≡ false) × (r ≡ range)
kept_by true r range e = absurd (cc)
kept_by false r range e = (refl, cc)

pub kept_range : (target : Option Range) (range : Range) → Some range ≡ without_empty target → ((range.len == 0) ≡ false) × (target ≡ Some range)
kept_range None range e = absurd (cc)
kept_range (Some r) range e =
    let k = kept_by (r.len == 0) r range e in
    (ap (λ (q : Range). q.len == 0) (sym k.1) ∙ k.0, ap Some k.1)

-- the bytes of such a range are replaced
overwrites : (m : Kept) (r : Range) (cells : List Cell) (ns : List ℕ) (s u w : Store) → (r.len == 0) ≡ false → cells ≡ map plain_cell ns →
    life_in (held_of m.objects r.object) ≡ s.life r.object →
    u ≡ s → w ≡ stored_over m r bytes (tagged_all m cells) u → w ≡ overwritten (Some r) ns s
overwrites m r cells ns s u w some plain_ones life same put =
    put
    ∙ ap (λ (v : Store). stored_over m r bytes (tagged_all m cells) v) same
    ∙ ap (λ (bs : List TaggedByte). stored_over m r bytes bs s) (ap (tagged_all m) plain_ones ∙ plain_tagged m ns)
    ∙ ap (λ (l : Option Life). with_bytes s r.object r.from (stored_from (declared_of l) bytes 0 (map plain ns))) life
    ∙ ap (λ (b : Bool). cond b s (with_bytes s r.object r.from (stored_from (declared_of (s.life r.object)) bytes 0 (map plain ns)))) (sym some)

-- the write settles and exposes nothing
write_noted : (is js : List Item) (r : Range) → (r.len == 0) ≡ false → js ≡ is ++ write_items (Some r) → js ≡ is ++ Write r.object r.from r.len ∷ []
write_noted is js r some e = e ∙ ap (λ (b : Bool). is ++ cond b [] (Write r.object r.from r.len ∷ [])) some

pub overwrite_done : (m mid new : Kept) (io : Io) (target : Option Range) (r : Range) (cells : List Cell) (ns : List ℕ) (is js : List Item) →
    Some r ≡ without_empty target → cells ≡ map plain_cell ns → js ≡ is ++ write_items (Some r) →
    LiveOn m mid → (CanFollow m.cells js (store_of m io) → store_of mid io ≡ after js (store_of m io)) →
    store_of new io ≡ stored_over mid r bytes (tagged_all mid cells) (store_of mid io) →
    CanFollow m.cells is (store_of m io) → store_of new io ≡ overwritten target ns (after is (store_of m io))
overwrite_done m mid new io target r cells ns is js range plain_ones more lives settled put able =
    let k = kept_range target r range in
    let noted : js ≡ is ++ Write r.object r.from r.len ∷ [] = write_noted is js r k.0 more in
    let follow : CanFollow m.cells js (store_of m io) = subst (λ (ks : List Item). CanFollow m.cells ks (store_of m io)) (sym noted)
    (follow_append m.cells is (Write r.object r.from r.len ∷ []) (store_of m io) able (tt, tt)) in
    let same : store_of mid io ≡ after is (store_of m io) = settled follow ∙ ap (λ (ks : List Item). after ks (store_of m io)) noted ∙ after_append is
    (Write r.object r.from r.len ∷ []) (store_of m io) in
    overwrites mid r cells ns (after is (store_of m io)) (store_of mid io) (store_of new io) k.0 plain_ones
    (lives r.object ∙ sym (after_life is (store_of m io) r.object)) same put
    ∙ ap (λ (o : Option Range). overwritten o ns (after is (store_of m io))) (sym k.1)

nothing_by : (b : Bool) (r : Range) (s w : Store) → None ≡ cond b None (Some r) → cond b s w ≡ s
nothing_by true r s w e = refl
nothing_by false r s w e = absurd (cc)

-- ---- the script of a write
-- nothing but items and a store
abbrev pub did : List Item → Store → Act (Unit {0})
did is s = Done tt is s

nothing_written : (r : Range) (ns : List ℕ) (s : Store) → 0 ≡ r.len → did [] s ≡ did (write_items (Some r)) (overwritten (Some r) ns s)
nothing_written r ns s e =
    ap (λ (k : ℕ). did (cond (k == 0) [] (Write r.object r.from r.len ∷ []))
    (cond (k == 0) s (with_bytes s r.object r.from (stored_from (declared_of (s.life r.object)) bytes 0 (map plain ns))))) e

all_written : (m : Kept) (r : Range) (n : ℕ) (ns : List ℕ) (s : Store) → suc (length ns) ≡ r.len → s.life r.object ≡ life_in (held_of m.objects r.object) →
    did (Write r.object r.from (length (stored_from (declared_of (life_in (held_of m.objects r.object))) bytes 0 (map plain (n ∷ ns)))) ∷ [])
    (with_bytes s r.object r.from (stored_from (declared_of (life_in (held_of m.objects r.object))) bytes 0 (map plain (n ∷ ns))))
    ≡ did (write_items (Some r)) (overwritten (Some r) (n ∷ ns) s)
all_written m r n ns s len life =
    let some : (r.len == 0) ≡ false = ap (λ (k : ℕ). k == 0) (sym len) ∙ next_not_zero (length ns) in
    let size : length (stored_from (declared_of (life_in (held_of m.objects r.object))) bytes 0 (map plain (n ∷ ns))) ≡ r.len =
    stored_length (declared_of (life_in (held_of m.objects r.object))) bytes 0 (map plain (n ∷ ns)) ∙ length-map (n ∷ ns) plain ∙ len in
    ap (λ (k : ℕ). did (Write r.object r.from k ∷ [])
    (with_bytes s r.object r.from (stored_from (declared_of (life_in (held_of m.objects r.object))) bytes 0 (map plain (n ∷ ns))))) size
    ∙ ap (λ (l : Option Life). did (Write r.object r.from r.len ∷ [])
    (with_bytes s r.object r.from (stored_from (declared_of l) bytes 0 (map plain (n ∷ ns))))) (sym life)
    ∙ ap (λ (b : Bool). did (cond b [] (Write r.object r.from r.len ∷ []))
    (cond b s (with_bytes s r.object r.from (stored_from (declared_of (s.life r.object)) bytes 0 (map plain (n ∷ ns)))))) (sym some)

pub write_run : (rows : List Row) (m : Kept) (ns : List ℕ) (target : Option Range) (s : Store) → FillsRange (length ns) target →
    ((x : ObjName) → s.life x ≡ life_in (held_of m.objects x)) →
    run rows (write_numbers ns (accessed_if m target)) s ≡ Done tt (write_items target) (overwritten target ns s)
write_run rows m [] None s h lives = refl
write_run rows m (n ∷ ns) None s h lives = refl
write_run rows m [] (Some r) s h lives = nothing_written r [] s h
write_run rows m (n ∷ ns) (Some r) s h lives = all_written m r n ns s h (lives r.object)

-- what a script gives is written, and the value is another
pub written_behind : (q : Bool) (V : Type 0) (m : Kept) (io : Io) (is js : List Item) (p : Script V) (v : V) (k : V → Script (Unit {0})) (w : LibValue)
    (u : Store) (g : Gives q V m io [] is p v) →
    run m.rows (k v) (after is (store_of m io)) ≡ Done tt js u → run m.rows (p >>= (λ v. k v >> Give w)) (store_of m io) ≡ Done w (g.items ++ js) u
written_behind q V m io is js p v k w u g e =
    run_then m.rows p (λ v. k v >> Give w) (store_of m io)
    ∙ ap (λ (act : Act V). then act (λ v u. run m.rows (k v >> Give w) u)) g.done
    ∙ ap (behind g.items)
    (run_then m.rows (k v) (λ u. Give w) (after is (store_of m io))
    ∙ ap (λ (act : Act (Unit {0})). then act (λ v u. run m.rows (Give w) u)) e
    ∙ behind_done js [] w u
    ∙ ap (λ (ks : List Item). Done w ks u) (append-nil js))
    ∙ behind_done g.items js w u

-- ---- memset
memset_is : (rows : List Row) (a : ℕ) (p : Prov) (c : ℤ) (n : ℕ) (s : Store) →
    run rows (target_at rows n a p >>= (λ target. write_numbers (replicate n (low_byte c)) target >> Give (pointer a p))) s ≡ run rows (memset rows a p c n) s
memset_is rows a p c n s =
    run_twice rows (argument rows n a p) (λ target. check_target n target >> Give target)
    (λ target. write_numbers (replicate n (low_byte c)) target >> Give (pointer a p)) s
    ∙ run_same rows (argument rows n a p) (λ target. (check_target n target >> Give target) >>=
    (λ target. write_numbers (replicate n (low_byte c)) target >> Give (pointer a p)))
    (λ target. check_target n target >> (write_numbers (replicate n (low_byte c)) target >> Give (pointer a p))) s
    (λ target u. run_twice rows (check_target n target) (λ v. Give target) (λ target. write_numbers (replicate n (low_byte c)) target >> Give (pointer a p)) u)

same_numbers : (target : Option Range) (k n b d : ℕ) (s : Store) → FillsRange k target → IsRange n target → b ≡ d →
    overwritten target (replicate k b) s ≡ overwritten target (replicate n d) s
same_numbers None k n b d s fills range same = refl
same_numbers (Some r) k n b d s fills range same = ap₂ (λ (i j : ℕ). overwritten (Some r) (replicate i j) s) (fills ∙ range.0) same

fills_all : (n b : ℕ) (target : Option Range) → IsRange n target → FillsRange (length (replicate n b)) target
fills_all n b None h = tt
fills_all n b (Some r) h = length-replicate n b ∙ sym h.0

pub fill_gives : (m new : Kept) (io : Io) (is js : List Item) (a : ℕ) (p : Prov) (c : ℤ) (n k b : ℕ) (target : Option Range) → AreWithin io → b ≡ low_byte c →
    IsRange n target → FillsRange k target →
    Gives true (Option Accessed) m io [] is (target_at m.rows n a p) (accessed_if m target) → js ≡ is ++ write_items target →
    (CanFollow m.cells is (store_of m io) → store_of new io ≡ overwritten target (replicate k b) (after is (store_of m io))) →
    Answers (answers.Value (Ptr a p)) js (store_of new io) (within_limits (store_of m io) (run m.rows (memset m.rows a p c n) (store_of m io)))
fill_gives m new io is js a p c n k b target within byte range fills g more store =
    let all : run m.rows (memset m.rows a p c n) (store_of m io) ≡ Done (pointer a p) (g.items ++ write_items target)
    (overwritten target (replicate n (low_byte c)) (after is (store_of m io))) =
    sym (memset_is m.rows a p c n (store_of m io))
    ∙ written_behind true (Option Accessed) m io is (write_items target) (target_at m.rows n a p) (accessed_if m target)
    (write_numbers (replicate n (low_byte c))) (pointer a p) (overwritten target (replicate n (low_byte c)) (after is (store_of m io))) g
    (write_run m.rows m (replicate n (low_byte c)) target (after is (store_of m io)) (fills_all n (low_byte c) target range)
    (λ x. after_life is (store_of m io) x)) in
    let items : js ≡ g.items ++ write_items target = more ∙ ap (λ (ks : List Item). ks ++ write_items target)
    (quiet_items (Option Accessed) m io [] is (target_at m.rows n a p) (accessed_if m target) g) in
    subst (λ (act : Act LibValue). Answers (answers.Value (Ptr a p)) js (store_of new io) (within_limits (store_of m io) act)) (sym all)
    (answers_of (Ok (Ptr a p)) js (store_of new io)
    (Done (pointer a p) (g.items ++ write_items target) (overwritten target (replicate n (low_byte c)) (after is (store_of m io)))) within
    (refl, items, store (g.able tt) ∙ same_numbers target k n b (low_byte c) (after is (store_of m io)) fills range byte))

pub fill_fails : (m : Kept) (io : Io) (is : List Item) (a : ℕ) (p : Prov) (c : ℤ) (n : ℕ) (e : LibAnswer) →
    Follows true (accessed_if m) (Err e) m io [] is (target_at m.rows n a p) →
    Answers e is (store_of m io) (within_limits (store_of m io) (run m.rows (memset m.rows a p c n) (store_of m io)))
fill_fails m io is a p c n answers.NoMemory h = tt
fill_fails m io is a p c n (answers.Raise d) h =
    let act : run m.rows (memset m.rows a p c n) (store_of m io) ≡ Raised d =
    sym (memset_is m.rows a p c n (store_of m io)) ∙ raises_then (Option Accessed) LibValue m.rows (store_of m io) (target_at m.rows n a p)
    (λ target. write_numbers (replicate n (low_byte c)) target >> Give (pointer a p)) d h in
    subst (λ (act : Act LibValue). Answers (answers.Raise d) is (store_of m io) (within_limits (store_of m io) act)) (sym act) refl
fill_fails m io is a p c n e h = absurd h

pub memset_called : (rows : List Row) (vs : List LibValue) (who : Event) (a : ℕ) (p : Prov) (c : ℤ) (n : ℕ) (s t : Store) (is : List Item) (e : LibAnswer) →
    pointer a p ≡ pointer_in (argument_at vs 0) → c ≡ integer_in (argument_at vs 1) → n ≡ size_of_value (argument_at vs 2) →
    Answers e is t (within_limits s (run rows (memset rows a p c n) s)) → Answers e is t (called rows Memset vs who s)
memset_called rows vs who a p c n s t is e same byte size h =
    let q = address_is a (address_in (argument_at vs 0)) p (prov_in (argument_at vs 0)) same in
    subst (λ (k : ℕ). Answers e is t (within_limits s
    (run rows (memset rows (address_in (argument_at vs 0)) (prov_in (argument_at vs 0)) (integer_in (argument_at vs 1)) k) s))) size
    (subst (λ (d : ℤ). Answers e is t (within_limits s (run rows (memset rows (address_in (argument_at vs 0)) (prov_in (argument_at vs 0)) d n) s))) byte
    (subst (λ (b : ℕ). Answers e is t (within_limits s (run rows (memset rows b (prov_in (argument_at vs 0)) c n) s))) q.0
    (subst (λ (r : Prov). Answers e is t (within_limits s (run rows (memset rows a r c n) s))) q.1 h)))
