-- Lemmas on the checks of pointer arguments and of strings.
use Rattle.std.proofs.Common.{
  ◌≡◌,
  ℕ,
  zero,
  suc,
  ◌+◌,
  ◌-◌,
  ◌<◌,
  ◌≤◌,
  Bool,
  true,
  false,
  cond,
  List,
  [],
  ◌∷◌,
  ◌++◌,
  length,
  length-append,
  append_assoc,
  refl,
  ap,
  sym,
  subst,
  ◌∙◌,
  arith,
  Option,
  Some,
  None,
}
use Rattle.std.specs.Prelude.{Err, not, max}
use Rattle.std.proofs.lemmas.Bool.{ne_eqb}
use Rattle.std.proofs.lemmas.List.{append-nil}
use Rattle.ub_base.specs.declared.clause.Clause.{Clause}
use Rattle.ub_base.specs.declared.clause.Clause.TheVariants.{LibraryArgument, DeadObject}
use Rattle.ub_base.specs.declared.names.Item.{Item}
use Rattle.ub_base.specs.declared.names.Item.TheVariants.{Read, Write, Born, Dies, Alive, Expose, Lookup, Narrow, Input, Output, Ending, Any}
use Rattle.ub_base.specs.declared.names.Event.{Event}
use Rattle.ub_base.specs.declared.names.ObjName.{ObjName}
use Rattle.addr_map.specs.declared.map.Row.{Row}
use Rattle.addr_map.specs.Rows.{row_of, free_of}
use Rattle.ub_base.specs.Names.{same_object}
use Rattle.exposure.specs.declared.prov.Prov.{Prov}
use Rattle.exposure.specs.Cells.{has_cell, is_other}
use Rattle.mem_objects.specs.declared.answer.LibAnswer.{LibAnswer}
use Rattle.mem_spec.specs.Store.{Store, Life, TaggedByte, is_live, range_from}
use Rattle.mem_spec.specs.Script.{Script, require, ◌>>=◌, ◌>>◌, Act, Done, Raised, touched, run}
use Rattle.mem_spec.specs.Acts.{Accessed, in_row, offset_in, size_in, argument_object, argument_in, argument}
use Rattle.mem_spec.specs.Streams.{Io}
use Rattle.mem_objects.specs.Held.{held_of}
use Rattle.mem_objects.specs.Memory.{Kept, life_in, store_of}
use Rattle.libc_spec.specs.Library.{Text, text_at, text_from, text, until_zero, joined, is_zero}
use Rattle.libc_arguments.specs.declared.arguments.Range.{Range}
use Rattle.libc_arguments.specs.Parts.{
  effect,
  after,
  kept_by,
  kept_after,
  CanFollow,
  has_read,
  starts_in_read,
  Gives,
  Follows,
  settled_to,
  offset_if,
  byte_at,
  accessed,
  accessed_if,
  text_in,
  one_more,
  string_size,
}
use Rattle.libc_arguments.proofs.Scripts.{then, behind, run_then, behind_done}
use Rattle.libc_arguments.proofs.Parts.{
  then_gives,
  then_raises,
  fails_then,
  err_follows,
  gives_at_once,
  after_life,
  after_bytes,
  after_append,
  follow_append,
  joined_behind,
  quiet_starts,
  joined_units,
  units,
  found,
  size_or,
  run_until,
}

-- ---- what an ambiguity is settled to
effect_kept : (i : Item) (s : Store) (id : Event) → (effect i s).kept id ≡ kept_by i id (s.kept id)
effect_kept (Read x a n) s id = refl
effect_kept (Write x a n) s id = refl
effect_kept (Born x) s id = refl
effect_kept (Dies x) s id = refl
effect_kept (Alive x) s id = refl
effect_kept (Expose x) s id = refl
effect_kept (Lookup a) s id = refl
effect_kept (Narrow d x) s id = refl
effect_kept Input s id = refl
effect_kept Output s id = refl
effect_kept Ending s id = refl
effect_kept Any s id = refl

pub after_kept : (is : List Item) (s : Store) (id : Event) → (after is s).kept id ≡ kept_after is id (s.kept id)
after_kept [] s id = refl
after_kept (i ∷ is) s id = after_kept is (effect i s) id ∙ ap (kept_after is id) (effect_kept i s id)

-- ---- rows
some_row : (q r : Row) → Some q ≡ Some r → q ≡ r
some_row q r e = cc

row_by : (b : Bool) (q r : Row) (o : Option Row) (n : ℕ) → Some q ≡ cond b (Some r) o →
    (Some q ≡ o → q.base + q.size ≤ n) → q.base + q.size ≤ max (r.base + r.size) n
row_by true q r o n e h =
    let k : q.base + q.size ≡ r.base + r.size = ap (λ (w : Row). w.base + w.size) (some_row q r e) in
    omega arith
row_by false q r o n e h =
    let k : q.base + q.size ≤ n = h e in
    omega arith

-- no row ends behind them all
pub row_ends : (rows : List Row) (x : ObjName) (q : Row) → Some q ≡ row_of rows x → q.base + q.size ≤ free_of rows
row_ends [] x q e = absurd (cc)
row_ends (r ∷ rows) x q e = row_by (same_object r.name x) q r (row_of rows x) (free_of rows) e (λ k. row_ends rows x q k)

-- ---- settling
pub settles_gives : (m : Kept) (io : Io) (old new : List Item) (id : Event) (x : ObjName) → has_cell m.cells id ≡ true →
    is_other ((after old (store_of m io)).kept id) x ≡ false →
    new ≡ old ++ Narrow id x ∷ [] → Gives true (Option ObjName) m io old new (settled_to id x) (Some x)
settles_gives m io old new id x cell other is = record {
  items = Narrow id x ∷ [];
  apart = refl;
  added = is;
  done =
      ap (λ (b : Bool). cond b (Raised LibraryArgument) (Done (Some x) (Narrow id x ∷ []) (effect (Narrow id x) (after old (store_of m io))))) other
      ∙ ap (Done (Some x) (Narrow id x ∷ [])) (sym (after_append old (Narrow id x ∷ []) (store_of m io)) ∙ ap (λ (js : List Item). after js (store_of m io))
      (sym is));
  able = λ h. subst (λ (js : List Item). CanFollow m.cells js (store_of m io)) (sym is)
      (follow_append m.cells old (Narrow id x ∷ []) (store_of m io) h ((cell, other), tt));
}

-- ---- the range in its object
asked_done : (rows : List Row) (a len : ℕ) (x : ObjName) (s : Store) → is_live (s.life x) ≡ true → in_row (row_of rows x) a len ≡ true →
    run rows (argument_in rows len a (Some x)) s ≡ Done (Some (record { object = x; from = offset_in (row_of rows x) a; life = s.life x })) (Alive x ∷ []) s
asked_done rows a len x s live range = rw (live, range) refl

asked_dead : (rows : List Row) (a len : ℕ) (x : ObjName) (s : Store) → is_live (s.life x) ≡ false →
    run rows (argument_in rows len a (Some x)) s ≡ Raised DeadObject
asked_dead rows a len x s live = rw live refl

asked_outside : (rows : List Row) (a len : ℕ) (x : ObjName) (s : Store) → is_live (s.life x) ≡ true → in_row (row_of rows x) a len ≡ false →
    run rows (argument_in rows len a (Some x)) s ≡ Raised LibraryArgument
asked_outside rows a len x s live range = rw (live, range) refl

some_is : (a b : ℕ) → Some a ≡ Some b → a ≡ b
some_is a b h = cc

pub offset_some : (b : Bool) (from offset : ℕ) → Some from ≡ cond b (Some offset) None → (b ≡ true) × (from ≡ offset)
offset_some true from offset e = (refl, some_is from offset e)
offset_some false from offset e = absurd (cc)

offset_none : (b : Bool) (offset : ℕ) → None ≡ cond b (Some offset) None → b ≡ false
offset_none true offset e = absurd (cc)
offset_none false offset e = refl

pub range_gives : (m : Kept) (io : Io) (old new : List Item) (x : ObjName) (a len from : ℕ) → is_live (life_in (held_of m.objects x)) ≡ true →
    Some from ≡ offset_if (row_of m.rows x) a len → new ≡ old ++ Alive x ∷ [] →
    Gives true (Option Accessed) m io old new (argument_in m.rows len a (Some x)) (Some (accessed m (record { object = x; from = from; len = len })))
range_gives m io old new x a len from live place is =
    let life : (after old (store_of m io)).life x ≡ life_in (held_of m.objects x) = after_life old (store_of m io) x in
    let here = offset_some (in_row (row_of m.rows x) a len) from (offset_in (row_of m.rows x) a) place in
    record {
      items = Alive x ∷ [];
      apart = refl;
      added = is;
      done =
          asked_done m.rows a len x (after old (store_of m io)) (ap is_live life ∙ live) here.0
          ∙ ap (λ (l : Option Life). Done (Some (record { object = x; from = offset_in (row_of m.rows x) a; life = l })) (Alive x ∷ [])
          (after old (store_of m io))) life
          ∙ ap (λ (k : ℕ). Done (Some (record { object = x; from = k; life = life_in (held_of m.objects x) })) (Alive x ∷ []) (after old (store_of m io)))
          (sym here.1)
          ∙ ap (Done (Some (accessed m (record { object = x; from = from; len = len }))) (Alive x ∷ []))
          (sym (after_append old (Alive x ∷ []) (store_of m io)) ∙ ap (λ (js : List Item). after js (store_of m io)) (sym is));
      able = λ h. subst (λ (js : List Item). CanFollow m.cells js (store_of m io)) (sym is)
          (follow_append m.cells old (Alive x ∷ []) (store_of m io) h (tt, tt));
    }

pub range_dead : (m : Kept) (io : Io) (old : List Item) (x : ObjName) (a len : ℕ) → is_live (life_in (held_of m.objects x)) ≡ false →
    run m.rows (argument_in m.rows len a (Some x)) (after old (store_of m io)) ≡ Raised DeadObject
range_dead m io old x a len live = asked_dead m.rows a len x (after old (store_of m io)) (ap is_live (after_life old (store_of m io) x) ∙ live)

pub range_outside : (m : Kept) (io : Io) (old : List Item) (x : ObjName) (a len : ℕ) → is_live (life_in (held_of m.objects x)) ≡ true →
    None ≡ offset_if (row_of m.rows x) a len →
    run m.rows (argument_in m.rows len a (Some x)) (after old (store_of m io)) ≡ Raised LibraryArgument
range_outside m io old x a len live place =
    asked_outside m.rows a len x (after old (store_of m io)) (ap is_live (after_life old (store_of m io) x) ∙ live)
    (offset_none (in_row (row_of m.rows x) a len) (offset_in (row_of m.rows x) a) place)

-- ---- an argument
not_zero : (a : ℕ) → 1 ≤ a → a ≡ 0 → ⊥
not_zero a h e = omega arith

argument_is : (rows : List Row) (len a : ℕ) (prov : Prov) → 1 ≤ a → argument rows len a prov ≡ (argument_object rows len a prov >>=
    (λ x. argument_in rows len a x))
argument_is rows len a prov h =
    let some : a ≡ 0 → ⊥ = λ e. not_zero a h e in
    ap (λ (b : Bool). require (not b) LibraryArgument >> (argument_object rows len a prov >>= (λ x. argument_in rows len a x))) (ne_eqb a 0 some)

pub no_object : (m : Kept) (io : Io) (old mid new : List Item) (len a : ℕ) (prov : Prov) (e : LibAnswer) → 1 ≤ a →
    Follows true (λ (x : Option ObjName). x) (Err e) m io old mid (argument_object m.rows len a prov) →
    Follows true (accessed_if m) (Err e) m io old new (argument m.rows len a prov)
no_object m io old mid new len a prov e some h =
    subst (λ (p : Script (Option Accessed)). Follows true (accessed_if m) (Err e) m io old new p) (sym (argument_is m.rows len a prov some))
    (err_follows true true (Option ObjName) (Option Accessed) (λ (x : Option ObjName). x) (accessed_if m) e m io old mid new
    (argument_object m.rows len a prov) (λ x. argument_in m.rows len a x) h)

pub open_object : (m : Kept) (io : Io) (old mid : List Item) (len a : ℕ) (prov : Prov) → 1 ≤ a →
    Gives true (Option ObjName) m io old mid (argument_object m.rows len a prov) None →
    Gives true (Option Accessed) m io old mid (argument m.rows len a prov) None
open_object m io old mid len a prov some g =
    subst (λ (p : Script (Option Accessed)). Gives true (Option Accessed) m io old mid p None) (sym (argument_is m.rows len a prov some))
    (then_gives true true (Option ObjName) (Option Accessed) m io old mid mid (argument_object m.rows len a prov) None
    (λ x. argument_in m.rows len a x) None g (gives_at_once true (Option Accessed) m io mid None))

pub no_range : (m : Kept) (io : Io) (old mid end new : List Item) (len a : ℕ) (prov : Prov) (x : ObjName) (e : LibAnswer) → 1 ≤ a →
    Gives true (Option ObjName) m io old mid (argument_object m.rows len a prov) (Some x) →
    Follows true (λ (r : Range). Some (accessed m r)) (Err e) m io mid end (argument_in m.rows len a (Some x)) →
    Follows true (accessed_if m) (Err e) m io old new (argument m.rows len a prov)
no_range m io old mid end new len a prov x e some g h =
    subst (λ (p : Script (Option Accessed)). Follows true (accessed_if m) (Err e) m io old new p) (sym (argument_is m.rows len a prov some))
    (fails_then (Option ObjName) (Option Accessed) (λ (r : Range). Some (accessed m r)) (accessed_if m) e m io old mid end new
    (argument_object m.rows len a prov) (Some x) (λ x. argument_in m.rows len a x) g h)

pub one_range : (m : Kept) (io : Io) (old mid new : List Item) (len a : ℕ) (prov : Prov) (x : ObjName) (r : Range) → 1 ≤ a →
    Gives true (Option ObjName) m io old mid (argument_object m.rows len a prov) (Some x) →
    Gives true (Option Accessed) m io mid new (argument_in m.rows len a (Some x)) (Some (accessed m r)) →
    Gives true (Option Accessed) m io old new (argument m.rows len a prov) (Some (accessed m r))
one_range m io old mid new len a prov x r some g h =
    subst (λ (p : Script (Option Accessed)). Gives true (Option Accessed) m io old new p (Some (accessed m r))) (sym (argument_is m.rows len a prov some))
    (then_gives true true (Option ObjName) (Option Accessed) m io old mid new (argument_object m.rows len a prov) (Some x) (λ x. argument_in m.rows len a x)
    (Some (accessed m r)) g h)

-- ---- a string argument that isn't one
pub no_argument : (m : Kept) (io : Io) (old mid new : List Item) (a : ℕ) (prov : Prov) (e : LibAnswer) →
    Follows true (accessed_if m) (Err e) m io old mid (argument m.rows 1 a prov) → Follows false (text_in m) (Err e) m io old new (text m.rows a prov)
no_argument m io old mid new a prov e h = err_follows true false (Option Accessed) Text (accessed_if m) (text_in m) e m io old mid new
    (argument m.rows 1 a prov) (text_from m.rows) h

pub open_argument : (m : Kept) (io : Io) (old mid : List Item) (a : ℕ) (prov : Prov) →
    Gives true (Option Accessed) m io old mid (argument m.rows 1 a prov) None →
    run m.rows (text m.rows a prov) (after old (store_of m io)) ≡ Raised LibraryArgument
open_argument m io old mid a prov g = then_raises true (Option Accessed) Text m io old mid (argument m.rows 1 a prov) None
    (text_from m.rows) LibraryArgument g refl

-- more items
pub grows_by : (q : Bool) (A : Type 0) (m : Kept) (io : Io) (old mid new : List Item) (p : Script A) (v : A) (i : Item) → Gives q A m io old mid p v →
    new ≡ mid ++ i ∷ [] → length old < length new
grows_by q A m io old mid new p v i g is =
    let e : length new ≡ length (mid ++ i ∷ []) = ap length is in
    let k : length mid ≡ length (old ++ joined g.items) = ap length g.added in
    omega (arith, length-append mid (i ∷ []), length-append old (joined g.items))

-- ---- strings
one_more_is : (o : Option ℕ) (k : ℕ) → one_more o ≡ Some k → (j : ℕ) × (k ≡ suc j)
one_more_is None k e = absurd (cc)
one_more_is (Some j) k e = (j, cc)

size_by : (b : Bool) (o : Option ℕ) (k : ℕ) → cond b (Some 1) (one_more o) ≡ Some k → (j : ℕ) × (k ≡ suc j)
size_by true o k e = (0, cc)
size_by false o k e = one_more_is o k e

pub size_not_0 : (f : ℕ → TaggedByte) (n a k : ℕ) → string_size f n a ≡ Some k → (j : ℕ) × (k ≡ suc j)
size_not_0 f zero a k e = absurd (cc)
size_not_0 f (suc n) a k e = size_by (is_zero (f a).byte) (string_size f n (suc a)) k e

-- the bytes of a string are read
string_done : (m : Kept) (s : Store) (r : Range) (k : ℕ) → s.bytes r.object ≡ byte_at m r.object →
    string_size (byte_at m r.object) (size_in (row_of m.rows r.object) - r.from) r.from ≡ Some k →
    run m.rows (text_from m.rows (Some (accessed m r))) s ≡ Done (record { at = accessed m r; bytes = range_from (byte_at m r.object) r.from k })
    (units r.object r.from k) s
string_done m s r k same size =
    run_then m.rows (until_zero (size_in (row_of m.rows r.object) - r.from) r.object r.from) (text_at (accessed m r)) s
    ∙ ap (λ (act : Act (Option (List TaggedByte))). then act (λ v u. run m.rows (text_at (accessed m r) v) u))
    (run_until m.rows (size_in (row_of m.rows r.object) - r.from) r.object r.from s
    ∙ ap (λ (f : ℕ → TaggedByte). Done (found f r.from (string_size f (size_in (row_of m.rows r.object) - r.from) r.from))
    (units r.object r.from (size_or (size_in (row_of m.rows r.object) - r.from) (string_size f (size_in (row_of m.rows r.object) - r.from) r.from))) s) same
    ∙ ap (λ (o : Option ℕ). Done (found (byte_at m r.object) r.from o) (units r.object r.from (size_or (size_in (row_of m.rows r.object) - r.from) o)) s) size)
    ∙ behind_done (units r.object r.from k) [] (record { at = accessed m r; bytes = range_from (byte_at m r.object) r.from k }) s
    ∙ ap (λ (is : List Item). Done (record { at = accessed m r; bytes = range_from (byte_at m r.object) r.from k }) is s)
    (append-nil (units r.object r.from k))

behind_raise : {B : Type 0} (is : List Item) (c : Clause) → behind {V = B} is (Raised c) ≡ Raised c
behind_raise [] c = refl
behind_raise {B = B} (i ∷ is) c = ap (touched i) (behind_raise {B = B} is c)

-- there is no zero
pub string_raises : (m : Kept) (io : Io) (old : List Item) (r : Range) →
    string_size (byte_at m r.object) (size_in (row_of m.rows r.object) - r.from) r.from ≡ None →
    run m.rows (text_from m.rows (Some (accessed m r))) (after old (store_of m io)) ≡ Raised LibraryArgument
string_raises m io old r size =
    let s : Store = after old (store_of m io) in
    run_then m.rows (until_zero (size_in (row_of m.rows r.object) - r.from) r.object r.from) (text_at (accessed m r)) s
    ∙ ap (λ (act : Act (Option (List TaggedByte))). then act (λ v u. run m.rows (text_at (accessed m r) v) u))
    (run_until m.rows (size_in (row_of m.rows r.object) - r.from) r.object r.from s
    ∙ ap (λ (f : ℕ → TaggedByte). Done (found f r.from (string_size f (size_in (row_of m.rows r.object) - r.from) r.from))
    (units r.object r.from (size_or (size_in (row_of m.rows r.object) - r.from) (string_size f (size_in (row_of m.rows r.object) - r.from) r.from))) s)
    (after_bytes old (store_of m io) r.object)
    ∙ ap (λ (o : Option ℕ). Done (found (byte_at m r.object) r.from o) (units r.object r.from (size_or (size_in (row_of m.rows r.object) - r.from) o)) s) size)
    ∙ behind_raise (units r.object r.from (size_in (row_of m.rows r.object) - r.from)) LibraryArgument

pub open_string : (m : Kept) (io : Io) (old mid : List Item) (a : ℕ) (prov : Prov) (r : Range) →
    Gives true (Option Accessed) m io old mid (argument m.rows 1 a prov) (Some (accessed m r)) →
    None ≡ string_size (byte_at m r.object) (size_in (row_of m.rows r.object) - r.from) r.from →
    run m.rows (text m.rows a prov) (after old (store_of m io)) ≡ Raised LibraryArgument
open_string m io old mid a prov r g size = then_raises true (Option Accessed) Text m io old mid (argument m.rows 1 a prov) (Some (accessed m r))
    (text_from m.rows) LibraryArgument g (string_raises m io mid r (sym size))

not_empty : (old new is : List Item) → new ≡ old ++ joined is → length old < length new → is ≡ [] → ⊥
not_empty old new is e h n =
    let k : new ≡ old = e ∙ ap (λ (js : List Item). old ++ joined js) n ∙ append-nil old in
    let l : length new ≡ length old = ap length k in
    omega arith

quiet_first : (is js : List Item) → has_read is ≡ false → (is ≡ [] → ⊥) → starts_in_read (is ++ js) ≡ false
quiet_first [] js h n = absurd (n refl)
quiet_first (i ∷ is) js h n = quiet_starts (i ∷ is) h

-- a string argument
pub text_gives : (m : Kept) (io : Io) (old mid new : List Item) (a : ℕ) (prov : Prov) (r t : Range) →
    Gives true (Option Accessed) m io old mid (argument m.rows 1 a prov) (Some (accessed m r)) → length old < length mid →
    Some t.len ≡ string_size (byte_at m r.object) (size_in (row_of m.rows r.object) - r.from) r.from → new ≡ mid ++ Read r.object r.from t.len ∷ [] →
    t ≡ record { object = r.object; from = r.from; len = t.len } →
    Gives false Text m io old new (text m.rows a prov) (text_in m t)
text_gives m io old mid new a prov r t g more size is same =
    let k = size_not_0 (byte_at m r.object) (size_in (row_of m.rows r.object) - r.from) r.from t.len (sym size) in
    let reads : joined (units r.object r.from t.len) ≡ Read r.object r.from t.len ∷ [] =
    ap (λ (n : ℕ). joined (units r.object r.from n)) k.1 ∙ joined_units r.object r.from k.0 ∙ ap (λ (n : ℕ). Read r.object r.from n ∷ []) (sym k.1) in
    let end : after mid (store_of m io) ≡ after new (store_of m io) =
    sym (after_append mid (Read r.object r.from t.len ∷ []) (store_of m io)) ∙ ap (λ (js : List Item). after js (store_of m io)) (sym is) in
    record {
      items = g.items ++ units r.object r.from t.len;
      apart = quiet_first g.items (units r.object r.from t.len) g.apart (not_empty old mid g.items g.added more);
      added = is ∙ ap (λ (js : List Item). js ++ Read r.object r.from t.len ∷ []) g.added ∙ append_assoc old (joined g.items) (Read r.object r.from t.len ∷ [])
          ∙ ap (λ (js : List Item). old ++ (joined g.items ++ js)) (sym reads) ∙ ap (λ (js : List Item). old ++ js)
          (sym (joined_behind g.items (units r.object r.from t.len) g.apart));
      done = run_then m.rows (argument m.rows 1 a prov) (text_from m.rows) (after old (store_of m io))
          ∙ ap (λ (act : Act (Option Accessed)). then act (λ v u. run m.rows (text_from m.rows v) u)) g.done
          ∙ ap (behind g.items) (string_done m (after mid (store_of m io)) r t.len (after_bytes mid (store_of m io) r.object) (sym size))
          ∙ behind_done g.items (units r.object r.from t.len) (record { at = accessed m r; bytes = range_from (byte_at m r.object) r.from t.len })
          (after mid (store_of m io))
          ∙ ap (Done (record { at = accessed m r; bytes = range_from (byte_at m r.object) r.from t.len }) (g.items ++ units r.object r.from t.len)) end
          ∙ ap (λ (q : Range). Done (text_in m q) (g.items ++ units r.object r.from t.len) (after new (store_of m io))) (sym same);
      able = λ h. subst (λ (js : List Item). CanFollow m.cells js (store_of m io)) (sym is)
          (follow_append m.cells mid (Read r.object r.from t.len ∷ []) (store_of m io) (g.able h) (tt, tt));
    }

-- ---- the size of a string, from a later place on
abbrev pub more_by : ℕ → Option ℕ → Option ℕ
more_by d None = None
more_by d (Some n) = Some (d + n)

more_one : (d e : ℕ) (o : Option ℕ) → e ≡ d + 1 → more_by d (one_more o) ≡ more_by e o
more_one d e None h = refl
more_one d e (Some n) h = let k : d + suc n ≡ e + n = omega arith in ap Some k

pub more_none : (o : Option ℕ) → more_by 0 o ≡ o
more_none None = refl
more_none (Some n) = let k : 0 + n ≡ n = omega arith in ap Some k

size_from : (f : ℕ → TaggedByte) (size at : ℕ) → at < size → string_size f (size - at) at ≡ cond (is_zero (f at).byte) (Some 1)
    (one_more (string_size f (size - (at + 1)) (at + 1)))
size_from f size at lt =
    let e : size - at ≡ suc (size - (at + 1)) = omega arith in
    let next : suc at ≡ at + 1 = omega arith in
    ap (λ (n : ℕ). string_size f n at) e ∙ ap (λ (k : ℕ). cond (is_zero (f at).byte) (Some 1) (one_more (string_size f (size - (at + 1)) k))) next

pub size_goes_on : (f : ℕ → TaggedByte) (size from at : ℕ) (whole : Option ℕ) → from ≤ at → at < size → is_zero (f at).byte ≡ false →
    more_by (at - from) (string_size f (size - at) at) ≡ whole →
    more_by (at + 1 - from) (string_size f (size - (at + 1)) (at + 1)) ≡ whole
size_goes_on f size from at whole le lt none h =
    let o = string_size f (size - (at + 1)) (at + 1) in
    let d : at + 1 - from ≡ at - from + 1 = omega arith in
    sym (more_one (at - from) (at + 1 - from) (string_size f (size - (at + 1)) (at + 1)) d)
    ∙ ap (λ (b : Bool). more_by (at - from) (cond b (Some 1) (one_more (string_size f (size - (at + 1)) (at + 1))))) (sym none)
    ∙ ap (more_by (at - from)) (sym (size_from f size at lt))
    ∙ h

pub size_here : (f : ℕ → TaggedByte) (size from at : ℕ) (whole : Option ℕ) → at < size → is_zero (f at).byte ≡ true →
    more_by (at - from) (string_size f (size - at) at) ≡ whole → whole ≡ Some (at - from + 1)
size_here f size from at whole lt here h =
    sym h ∙ ap (more_by (at - from)) (size_from f size at lt) ∙ ap
    (λ (b : Bool). more_by (at - from) (cond b (Some 1) (one_more (string_size f (size - (at + 1)) (at + 1))))) here

pub size_ends : (f : ℕ → TaggedByte) (size from at : ℕ) (whole : Option ℕ) → size ≤ at → more_by (at - from) (string_size f (size - at) at) ≡ whole →
    whole ≡ None
size_ends f size from at whole le h =
    let e : size - at ≡ 0 = omega arith in
    sym h ∙ ap (λ (n : ℕ). more_by (at - from) (string_size f n at)) e
