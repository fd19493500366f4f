-- Lemmas on the end of a call: what its items settle and expose takes effect.
use Rattle.std.proofs.Common.{◌≡◌, ℕ, ◌+◌, ◌<◌, drop, drop-cons, add-one, Bool, true, false, List, [], ◌∷◌, length, refl, ap, sym, subst, ◌∙◌}
use Rattle.std.specs.Prelude.{not, slice_index_or}
use Rattle.std.specs.Bool.{OnTrue, OnFalse}
use Rattle.ub_base.specs.declared.names.Item.{Item}
use Rattle.ub_base.specs.declared.names.Item.TheVariants.{Read, Write, Born, Dies, Alive, Expose, Lookup, Narrow, Input, Output, Ending, Any}
use Rattle.ub_base.specs.declared.names.Event.{Event}
use Rattle.ub_base.specs.declared.names.ObjName.{ObjName}
use Rattle.exposure.specs.declared.prov.Prov.TheVariants.{Whole}
use Rattle.exposure.specs.Cells.{Cells, kept_in, has_cell, is_other, Settles}
use Rattle.mem_spec.specs.Store.{Store, settled, shown}
use Rattle.mem_spec.specs.Script.{Done, run}
use Rattle.mem_spec.specs.Acts.{expose}
use Rattle.mem_spec.specs.Streams.{Io}
use Rattle.mem_objects.specs.Memory.{Kept, AreKnown, ObjectsKnown, store_of}
use Rattle.libc_arguments.specs.Parts.{effect, after, CanDo, CanFollow, IsSettled, AreSettled}

can_do : (cs ds : Cells) (i : Item) (s : Store) → ((e : Event) → has_cell ds e ≡ has_cell cs e) → CanDo cs i s → CanDo ds i s
can_do cs ds (Read x a n) s same h = tt
can_do cs ds (Write x a n) s same h = tt
can_do cs ds (Born x) s same h = tt
can_do cs ds (Dies x) s same h = tt
can_do cs ds (Alive x) s same h = tt
can_do cs ds (Expose x) s same h = tt
can_do cs ds (Lookup a) s same h = tt
can_do cs ds (Narrow id x) s same h = (same id ∙ h.0, h.1)
can_do cs ds Input s same h = tt
can_do cs ds Output s same h = tt
can_do cs ds Ending s same h = tt
can_do cs ds Any s same h = tt

follow_cells : (cs ds : Cells) (is : List Item) (s : Store) → ((e : Event) → has_cell ds e ≡ has_cell cs e) → CanFollow cs is s → CanFollow ds is s
follow_cells cs ds [] s same h = tt
follow_cells cs ds (i ∷ is) s same h = (can_do cs ds i s same h.0, follow_cells cs ds is (effect i s) same h.1)

-- the rest of the items leads to where all lead
pub record SettlesRest (old now : Kept) (all rest : List Item) : Type 0 where
  pub store : (io : Io) → CanFollow old.cells all (store_of old io) → (after rest (store_of now io) ≡ after all (store_of old io)) ×
      CanFollow now.cells rest (store_of now io)
  pub cells : (e : Event) → has_cell now.cells e ≡ has_cell old.cells e
  pub rows : now.rows ≡ old.rows
  pub known : AreKnown old → AreKnown now

pub settles_all : (m : Kept) (is : List Item) → SettlesRest m m is is
settles_all m is = record { store = λ io h. (refl, h); cells = λ e. refl; rows = refl; known = λ h. h }

pub settles_next : (old now new : Kept) (all rest : List Item) (i : Item) → SettlesRest old now all (i ∷ rest) → IsSettled now new i →
    SettlesRest old new all rest
settles_next old now new all rest i r one = record {
  store = λ io h.
      let p : (after (i ∷ rest) (store_of now io) ≡ after all (store_of old io)) × CanFollow now.cells (i ∷ rest) (store_of now io) = r.store io h in
      let q : store_of new io ≡ effect i (store_of now io) = one.store io p.1.0 in (
        ap (after rest) q ∙ p.0,
        subst (λ (s : Store). CanFollow new.cells rest s) (sym q)
            (follow_cells now.cells new.cells rest (effect i (store_of now io)) one.cells p.1.1),
      );
  cells = λ e. one.cells e ∙ r.cells e;
  rows = one.rows ∙ r.rows;
  known = λ h. one.known (r.known h);
}

next_item : (is : List Item) (k : ℕ) (d : Item) → k < length is → drop k is ≡ slice_index_or is k d ∷ drop (k + 1) is
next_item is k d h = rw (add-one, drop-cons is k d)

-- the item at the place
pub settles_on : (old now new : Kept) (all : List Item) (k : ℕ) (d : Item) → k < length all → SettlesRest old now all (drop k all) →
    IsSettled now new (slice_index_or all k d) → SettlesRest old new all (drop (k + 1) all)
settles_on old now new all k d h r one =
    settles_next old now new all (drop (k + 1) all) (slice_index_or all k d)
    (subst (λ (rest : List Item). SettlesRest old now all rest) (next_item all k d h) r) one

pub settles_none : (old now : Kept) (all : List Item) → SettlesRest old now all [] → AreSettled old now all
settles_none old now all r = record { store = λ io h. (r.store io h).0; cells = r.cells; rows = r.rows; known = r.known }

known_rest : (new old : Kept) → record new { cells = [] } ≡ record old { cells = [] } → AreKnown old → AreKnown new
known_rest new old e h = subst (λ (k : Kept). ObjectsKnown (length k.origins) k.objects) (sym e) h

false_not : false ≡ true → ⊥
false_not e = absurd (cc)

narrow_store : (m new : Kept) (id : Event) (x : ObjName) (b : Bool) → b ≡ not (is_other (kept_in m.cells id) x) →
    OnTrue b ((io : Io) → store_of new io ≡ settled (store_of m io) id x) → (io : Io) → is_other (kept_in m.cells id) x ≡ false →
    store_of new io ≡ settled (store_of m io) id x
narrow_store m new id x true e h io other = h io
narrow_store m new id x false e h io other = absurd (false_not (e ∙ ap not other))

narrow_cells : (m new : Kept) (id : Event) (x : ObjName) (b : Bool) → OnTrue b (Settles m.cells new.cells id x) → OnFalse b (new ≡ m) →
    (e : Event) → has_cell new.cells e ≡ has_cell m.cells e
narrow_cells m new id x true h k e = h.cells e
narrow_cells m new id x false h k e = ap (λ (q : Kept). has_cell q.cells e) k

-- an ambiguity is settled
pub narrow_settles : (m new : Kept) (id : Event) (x : ObjName) (b : Bool) → b ≡ not (is_other (kept_in m.cells id) x) →
    OnTrue b (Settles m.cells new.cells id x) → OnFalse b (new ≡ m) →
    (has_cell m.cells id ≡ true → OnTrue b ((io : Io) → store_of new io ≡ settled (store_of m io) id x)) →
    record new { cells = [] } ≡ record m { cells = [] } → IsSettled m new (Narrow id x)
narrow_settles m new id x b e settles same store rest = record {
  store = λ io can. narrow_store m new id x b e (store can.0) io can.1;
  cells = narrow_cells m new id x b settles same;
  rows = ap (λ (k : Kept). k.rows) rest;
  known = known_rest new m rest;
}

done_store : {V : Type 0} (v w : V) (is js : List Item) (s u : Store) → Done v is s ≡ Done w js u → s ≡ u
done_store v w is js s u e = cc

-- an object is exposed
pub expose_settles : (m new : Kept) (x : ObjName) (is : List Item) →
    ((io : Io) → run new.rows (expose (Whole x)) (store_of m io) ≡ Done tt is (store_of new io)) → record new { objects = [] } ≡ record m { objects = [] } →
    (AreKnown m → AreKnown new) → IsSettled m new (Expose x)
expose_settles m new x is e rest known = record {
  store = λ io can. sym (done_store tt tt (Expose x ∷ []) is (shown (store_of m io) x) (store_of new io) (e io));
  cells = λ d. ap (λ (k : Kept). has_cell k.cells d) rest;
  rows = ap (λ (k : Kept). k.rows) rest;
  known = known;
}
