-- What was made stays made, and a sound memory stays sound.
use Rattle.std.proofs.Common.{◌≡◌, ℕ, zero, suc, ◌+◌, ◌≤◌, ◌<◌, ◌/◌, Bool, true, false, cond, refl, sym, ap, ◌∙◌, subst, arith, List, []}
use Rattle.std.proofs.Common.{◌∷◌, ◌++◌, length, Option, Some, None}
use Rattle.std.specs.Prelude.{is_some, option_map, slice_get, slice_index_or, IfSome, IfOk, OnOk, Result, Ok, Err}
use Rattle.std.specs.Bool.{OnTrue, OnFalse}
use Rattle.std.proofs.lemmas.List.{length-append}
use Rattle.ub_base.specs.declared.names.Event.{Event}
use Rattle.ub_base.specs.declared.names.ObjName.{ObjName}
use Rattle.ub_base.specs.Names.{same_object}
use Rattle.ub_base.proofs.NameLemmas.{same_object_is, same_object_refl}
use Rattle.addr_map.specs.declared.map.Mode.{Mode}
use Rattle.addr_map.specs.declared.map.Row.{Row}
use Rattle.addr_map.specs.Rows.{row_of}
use Rattle.exposure.specs.declared.prov.Prov.{Prov}
use Rattle.exposure.specs.declared.prov.Prov.TheVariants.{Empty, Whole, Either}
use Rattle.exposure.specs.Cells.{Cells, has_cell, Settles}
use Rattle.c_types.specs.declared.shape.Shape.{Shape}
use Rattle.mem_spec.specs.declared.kind.ObjKind.{ObjKind}
use Rattle.mem_objects.specs.declared.cell.Cell.{Cell}
use Rattle.mem_objects.specs.declared.cell.Origin.{Origin}
use Rattle.mem_objects.specs.declared.accessed.Accessed.{Accessed as Found}
use Rattle.mem_objects.specs.declared.cell.State.{State}
use Rattle.mem_objects.specs.declared.cell.State.TheVariants as states
use Rattle.mem_objects.specs.Pieces.{piece_cells, plain_cells}
use Rattle.mem_objects.specs.Tags.{CellsTagged}
use Rattle.mem_spec.specs.Acts.{same_prov, origin_in, pointer_if, pointer_in, are_pieces}
use Rattle.mem_objects.specs.Cells.{prov_numbered, byte_in_state, cell_at}
use Rattle.mem_objects.specs.Held.{Held, held_of, changed, uncovered, holding}
use Rattle.mem_objects.specs.Memory.{Kept, empty, life_in, AreKnown, CellsKnown, ObjectsKnown, uncovered_each, newborn, IsBorn}
use Rattle.mem_objects.specs.Made.{IsMade, AreNamed, EachNamed, HasMore, Extends}
use Rattle.mem_objects.specs.Access.{IsReached, bytes_in}
use Rattle.mem_objects.specs.Sound.{AllMade, AreMade, AreRowed, IsSound, ObjectsHaveRows, CandidatesHaveRows}
use Rattle.mem_objects.specs.Keeps.{RowsStay}
use Rattle.mem_spec.specs.Store.{TaggedByte}
use Rattle.mem_objects.proofs.ProvLemmas.{has_number_more, extends_none}
use Rattle.mem_objects.proofs.PieceLemmas.{named_changed, named_uncovered, named_longer}
use Rattle.mem_objects.proofs.StoreLemmas.{part_kept}
use Rattle.mem_objects.proofs.SettleLemmas.{stays_made}
use Rattle.mem_objects.proofs.ActLemmas.{born_known, known_uncovered, objects_more, known_at}
use Rattle.mem_objects.proofs.WriteLemmas.{held_known}

-- what was made stays so
abbrev pub StayMade : Kept → Kept → Type 0
StayMade old new = (p : Prov) → IsMade old p → IsMade new p

-- each ambiguity that has a cell keeps it
abbrev pub StayCells : Kept → Kept → Type 0
StayCells old new = (e : Event) → has_cell old.cells e ≡ true → has_cell new.cells e ≡ true

made_by : (old new : Kept) → Extends old.origins new.origins → StayCells old new →
    ((x : ObjName) → is_some (held_of old.objects x) ≡ true → is_some (held_of new.objects x) ≡ true) → StayMade old new
made_by old new more cells held Empty made = tt
made_by old new more cells held (Whole x) made = held x made
made_by old new more cells held (Either id past start) made = (
  cells id made.0,
  (has_number_more old.origins new.origins (Either id past start) refl more made.1.0, (held past made.1.1.0, held start made.1.1.1)),
)

extends_same : (ps qs : List Prov) → qs ≡ ps → Extends ps qs
extends_same ps qs e = subst (λ (l : List Prov). Extends ps l) (sym e) (extends_none ps)

-- ---- the objects may change, but for their names and numbers
-- the memory has other objects of the same names and numbers, and perhaps other cells
pub record Alters (old new : Kept) (hs : List Held) : Type 0 where
  pub objects : new.objects ≡ hs
  pub rows : new.rows ≡ old.rows
  pub origins : new.origins ≡ old.origins
  pub cells : StayCells old new
  pub held : (x : ObjName) → is_some (held_of hs x) ≡ is_some (held_of old.objects x)
  pub named : EachNamed old.origins old.objects → EachNamed old.origins hs

pub alters_made : (old new : Kept) (hs : List Held) → Alters old new hs → StayMade old new
alters_made old new hs a = made_by old new (extends_same old.origins new.origins a.origins) a.cells
    (λ x h. ap (λ (l : List Held). is_some (held_of l x)) a.objects ∙ a.held x ∙ h)

pub alters_sound : (old new : Kept) (hs : List Held) → Alters old new hs → AreKnown new → IsSound old → IsSound new
alters_sound old new hs a known s = record {
  known = known;
  named = subst (λ (l : List Held). EachNamed new.origins l) (sym a.objects) (subst (λ (ps : List Prov). EachNamed ps hs) (sym a.origins) (a.named s.named));
  made = λ n. subst (λ (ps : List Prov). IsMade new (prov_numbered ps n)) (sym a.origins) (alters_made old new hs a (prov_numbered old.origins n) (s.made n));
  rowed = λ x h. ap (λ (rs : List Row). is_some (row_of rs x)) a.rows
      ∙ s.rowed x (sym (a.held x) ∙ sym (ap (λ (l : List Held). is_some (held_of l x)) a.objects) ∙ h);
}

pub alters_known : (old new : Kept) (hs : List Held) → Alters old new hs → ObjectsKnown (length old.origins) hs → AreKnown new
alters_known old new hs a known =
    subst (λ (l : List Held). ObjectsKnown (length new.origins) l) (sym a.objects)
    (subst (λ (ps : List Prov). ObjectsKnown (length ps) hs) (sym a.origins) known)

some_map : (f : Held → Held) (o : Option Held) → is_some (option_map f o) ≡ is_some o
some_map f None = refl
some_map f (Some h) = refl

pub held_changed : (f : Held → Held) (x : ObjName) (hs : List Held) (y : ObjName) →
    ((h : Held) → (f h).name ≡ h.name) → is_some (held_of (changed f x hs) y) ≡ is_some (held_of hs y)
held_changed f x hs y names = part_kept is_some f hs x y names (some_map f)

pub held_uncovered : (xs : List ObjName) (hs : List Held) (y : ObjName) → is_some (held_of (uncovered_each xs hs) y) ≡ is_some (held_of hs y)
held_uncovered [] hs y = refl
held_uncovered (x ∷ xs) hs y = held_uncovered xs (changed uncovered x hs) y ∙ held_changed uncovered x hs y (λ h. refl)

-- ---- loads
abbrev pub SameCells : Kept → Kept → Type 0
SameCells old new = (e : Event) → has_cell new.cells e ≡ has_cell old.cells e

-- first the objects change, then something is settled
both_alter : (old mid new : Kept) (hs : List Held) → mid ≡ record old { objects = hs } → record new { cells = [] } ≡ record mid { cells = [] } →
    SameCells mid new → ((x : ObjName) → is_some (held_of hs x) ≡ is_some (held_of old.objects x)) →
    (EachNamed old.origins old.objects → EachNamed old.origins hs) → Alters old new hs
both_alter old mid new hs is rest cells held named = record {
  objects = ap (λ (m : Kept). m.objects) rest ∙ ap (λ (m : Kept). m.objects) is;
  rows = ap (λ (m : Kept). m.rows) rest ∙ ap (λ (m : Kept). m.rows) is;
  origins = ap (λ (m : Kept). m.origins) rest ∙ ap (λ (m : Kept). m.origins) is;
  cells = λ e h. cells e ∙ ap (λ (m : Kept). has_cell m.cells e) is ∙ h;
  held = held;
  named = named;
}

shown_alters : (old mid new : Kept) (xs : List ObjName) → mid ≡ record old { objects = uncovered_each xs old.objects } →
    record new { cells = [] } ≡ record mid { cells = [] } → SameCells mid new → Alters old new (uncovered_each xs old.objects)
shown_alters old mid new xs shown rest cells =
    both_alter old mid new (uncovered_each xs old.objects) shown rest cells (held_uncovered xs old.objects) (named_uncovered old.origins xs old.objects)

pub shown_made : (old mid new : Kept) (xs : List ObjName) → mid ≡ record old { objects = uncovered_each xs old.objects } →
    record new { cells = [] } ≡ record mid { cells = [] } → SameCells mid new → StayMade old new
shown_made old mid new xs shown rest cells = alters_made old new (uncovered_each xs old.objects) (shown_alters old mid new xs shown rest cells)

pub shown_sound : (old mid new : Kept) (xs : List ObjName) → mid ≡ record old { objects = uncovered_each xs old.objects } →
    record new { cells = [] } ≡ record mid { cells = [] } → SameCells mid new → IsSound old → IsSound new
shown_sound old mid new xs shown rest cells s =
    let hs = uncovered_each xs old.objects in
    let a = shown_alters old mid new xs shown rest cells in
    alters_sound old new hs a (alters_known old new hs a (known_uncovered (length old.origins) xs old.objects s.known)) s

-- ---- stores
stored_alters : (old acc w new : Kept) (g : Held) (x : ObjName) → acc ≡ old → w ≡ record acc { objects = changed (holding g.cells) x acc.objects } →
    record new { cells = [] } ≡ record w { cells = [] } → SameCells w new → Alters old new (changed (holding g.cells) x old.objects)
stored_alters old acc w new g x same put rest cells =
    let is : w ≡ record old { objects = changed (holding g.cells) x old.objects } =
    put ∙ ap (λ (k : Kept). record k { objects = changed (holding g.cells) x k.objects }) same in
    both_alter old w new (changed (holding g.cells) x old.objects) is rest cells (λ y. held_changed (holding g.cells) x old.objects y (λ h. refl))
    (named_changed old.origins (holding g.cells) x old.objects (λ h. refl) (λ h. refl))

pub stored_made : (old acc w new : Kept) (g : Held) (x : ObjName) → acc ≡ old → w ≡ record acc { objects = changed (holding g.cells) x acc.objects } →
    record new { cells = [] } ≡ record w { cells = [] } → SameCells w new → StayMade old new
stored_made old acc w new g x same put rest cells = alters_made old new (changed (holding g.cells) x old.objects)
    (stored_alters old acc w new g x same put rest cells)

pub stored_sound : (old acc w new : Kept) (g : Held) (x : ObjName) → acc ≡ old → w ≡ record acc { objects = changed (holding g.cells) x acc.objects } →
    record new { cells = [] } ≡ record w { cells = [] } → SameCells w new → AreKnown new → IsSound old → IsSound new
stored_sound old acc w new g x same put rest cells known s = alters_sound old new (changed (holding g.cells) x old.objects)
    (stored_alters old acc w new g x same put rest cells) known s

-- what is settled changes nothing of it
pub settled_sound : (old new : Kept) → record new { cells = [] } ≡ record old { cells = [] } → SameCells old new → IsSound old → IsSound new
settled_sound old new rest cells s = record {
  known = subst (λ (m : Kept). AreKnown m) (sym rest) s.known;
  named = subst (λ (m : Kept). AreNamed m) (sym rest) s.named;
  made = λ n. stays_made old new rest cells (prov_numbered new.origins n)
      (subst (λ (ps : List Prov). IsMade old (prov_numbered ps n)) (sym (ap (λ (m : Kept). m.origins) rest)) (s.made n));
  rowed = subst (λ (m : Kept). AreRowed m) (sym rest) s.rowed;
}

-- ---- what is looked up
pub more_made : (old new : Kept) → HasMore old new → StayMade old new
more_made old new more = made_by old new more.origins more.cells (λ x h. ap (λ (m : Kept). is_some (held_of m.objects x)) more.rest ∙ h)

more_long : (ps qs : List Prov) → Extends ps qs → length ps ≤ length qs
more_long ps qs more =
    let long : length qs ≡ length ps + length more.0 = ap length more.1 ∙ length-append ps more.0 in
    omega (arith, long)

pub more_sound : (old new : Kept) → HasMore old new → (AreMade old → AreMade new) → IsSound old → IsSound new
more_sound old new more each s =
    let objects : new.objects ≡ old.objects = ap (λ (m : Kept). m.objects) more.rest in
    record {
      known = subst (λ (hs : List Held). ObjectsKnown (length new.origins) hs) (sym objects)
          (objects_more (length old.origins) (length new.origins) old.objects (more_long old.origins new.origins more.origins) s.known);
      named = subst (λ (hs : List Held). EachNamed new.origins hs) (sym objects)
          (subst (λ (ps : List Prov). EachNamed ps old.objects) (sym more.origins.1) (named_longer old.origins more.origins.0 old.objects s.named));
      made = each s.made;
      rowed = subst (λ (m : Kept). AreRowed m) (sym more.rest) s.rowed;
    }

nth_each : (ps : List Prov) (p : Prov) (P : Prov → Type 0) → P p → P Empty → ((n : ℕ) → P (slice_index_or ps n Empty)) →
    (n : ℕ) → P (slice_index_or (ps ++ p ∷ []) n Empty)
nth_each [] p P here none each zero = here
nth_each [] p P here none each (suc n) = none
nth_each (q ∷ ps) p P here none each zero = each 0
nth_each (q ∷ ps) p P here none each (suc n) = nth_each ps p P here none (λ k. each (suc k)) n

pub each_last : (m : Kept) (ps : List Prov) (p : Prov) → IsMade m p → AllMade m ps → AllMade m (ps ++ p ∷ [])
each_last m ps p here each zero = each 0
each_last m ps p here each (suc n) = nth_each ps p (λ q. IsMade m q) here (each 0) (λ k. each (suc k)) n

-- ---- pieces
pub origin_made : (m : Kept) (s : State) (c : Cell) → AreMade m → IfSome (origin_in (byte_in_state m.origins s c)) (λ p. IsMade m p)
origin_made m states.Unwritten c made = tt
origin_made m states.Plain c made = tt
origin_made m states.Piece c made = made c.origin.number

some_if : (b : Bool) (m : Kept) (p : Prov) → IsMade m p → IfSome (cond b (Some p) None) (λ q. IsMade m q)
some_if true m p made = made
some_if false m p made = tt

pub pointer_if_made : (m : Kept) (o : Option Prov) (bs : List TaggedByte) → IfSome o (λ p. IsMade m p) → IfSome (pointer_if o bs) (λ p. IsMade m p)
pointer_if_made m None bs made = tt
pointer_if_made m (Some p) bs made = some_if (are_pieces p 0 bs) m p made

pub pointer_made : (m : Kept) (h : Held) (from : ℕ) (o : Option Prov) → o ≡ pointer_in (bytes_in m h from 8) → AreMade m → IfSome o (λ p. IsMade m p)
pointer_made m h from o is made =
    subst (λ (q : Option Prov). IfSome q (λ p. IsMade m p)) (sym is)
    (pointer_if_made m (origin_in (byte_in_state m.origins (cell_at h.cells from).state (cell_at h.cells from))) (bytes_in m h from 8)
    (origin_made m (cell_at h.cells from).state (cell_at h.cells from) made))

pub pointer_value : (old acc looked new : Kept) (f : Found) (pointer : Option Prov) (target : Prov) → acc ≡ old → (r : IsReached old.objects f 8) →
    ((h : Held) → slice_get acc.objects f.object ≡ Some h → pointer ≡ pointer_in (bytes_in acc h f.from 8)) →
    (IfSome pointer (λ p. IsMade acc p) → IsMade looked target) → record new { cells = [] } ≡ record looked { cells = [] } → SameCells looked new →
    IsSound old → IsMade new target
pointer_value old acc looked new f pointer target same r sees value rest cells s =
    let there : slice_get acc.objects f.object ≡ Some r.object = ap (λ (m : Kept). slice_get m.objects f.object) same ∙ r.there in
    let made : AreMade acc = subst (λ (m : Kept). AreMade m) (sym same) s.made in
    stays_made looked new rest cells target (value (pointer_made acc r.object f.from pointer (sees r.object there) made))

pub pointer_kept : (old acc looked new : Kept) → acc ≡ old → HasMore acc looked → record new { cells = [] } ≡ record looked { cells = [] } →
    SameCells looked new → StayMade old new
pointer_kept old acc looked new same more rest cells p made =
    stays_made looked new rest cells p (more_made acc looked more p (subst (λ (m : Kept). IsMade m p) (sym same) made))

-- ---- the number of a provenance is one of the memory
some_within : (ps : List Prov) (n : ℕ) (p : Prov) → same_prov p Empty ≡ false → slice_index_or ps n Empty ≡ p → n < length ps
some_within [] n p some e = absurd (clash (subst (λ (q : Prov). same_prov q Empty ≡ false) (sym e) some))
  where
    clash : same_prov Empty Empty ≡ false → ⊥
    clash h = cc
some_within (q ∷ ps) zero p some e = omega arith
some_within (q ∷ ps) (suc n) p some e = omega (arith, some_within ps n p some e)

number_within : (ps : List Prov) (n : ℕ) (p : Prov) → same_prov p Empty ≡ false → prov_numbered ps n ≡ p → n ≤ length ps
number_within ps zero p some e = omega arith
number_within ps (suc n) p some e = omega (arith, some_within ps n p some e)

pub whole_within : (ps : List Prov) (n : ℕ) (p : Prov) (x : ObjName) → p ≡ Whole x → prov_numbered ps n ≡ p → n ≤ length ps
whole_within ps n p x is e = number_within ps n (Whole x) refl (e ∙ is)

pub pieces_known : (most k index r : ℕ) (o : Origin) → o.number ≤ most → CellsKnown most (piece_cells k index o r)
pieces_known most zero index r o le = tt
pieces_known most (suc k) index r o le = (le, pieces_known most k (suc index) (r / 256) o le)

pub pieces_tagged : (n k index r : ℕ) (o : Origin) → CellsTagged n (piece_cells k index o r)
pieces_tagged n zero index r o = tt
pieces_tagged n (suc k) index r o = (omega arith, pieces_tagged n k (suc index) (r / 256) o)

pub plain_tagged : (n k r : ℕ) → CellsTagged n (plain_cells k r)
plain_tagged n zero r = tt
plain_tagged n (suc k) r = (omega arith, plain_tagged n k (r / 256))

-- ---- more types
pub typed_made : (old new : Kept) → record new { types = [] } ≡ record old { types = [] } → StayMade old new
typed_made old new rest = made_by old new (extends_same old.origins new.origins (ap (λ (m : Kept). m.origins) rest))
    (λ e h. ap (λ (m : Kept). has_cell m.cells e) rest ∙ h) (λ x h. ap (λ (m : Kept). is_some (held_of m.objects x)) rest ∙ h)

pub typed_sound : (old new : Kept) → record new { types = [] } ≡ record old { types = [] } → IsSound old → IsSound new
typed_sound old new rest s = record {
  known = subst (λ (m : Kept). AreKnown m) (sym rest) s.known;
  named = subst (λ (m : Kept). AreNamed m) (sym rest) s.named;
  made = λ n. typed_made old new rest (prov_numbered new.origins n)
      (subst (λ (ps : List Prov). IsMade old (prov_numbered ps n)) (sym (ap (λ (m : Kept). m.origins) rest)) (s.made n));
  rowed = subst (λ (m : Kept). AreRowed m) (sym rest) s.rowed;
}

pub block_made : (old acc mid new : Kept) → acc ≡ old → record mid { types = [] } ≡ record acc { types = [] } →
    record new { cells = [] } ≡ record mid { cells = [] } → SameCells mid new → StayMade old new
block_made old acc mid new same types rest cells p made =
    stays_made mid new rest cells p (typed_made acc mid types p (subst (λ (m : Kept). IsMade m p) (sym same) made))

pub block_sound : (old acc mid new : Kept) → acc ≡ old → record mid { types = [] } ≡ record acc { types = [] } →
    record new { cells = [] } ≡ record mid { cells = [] } → SameCells mid new → IsSound old → IsSound new
block_sound old acc mid new same types rest cells s =
    settled_sound mid new rest cells (typed_sound acc mid types (subst (λ (m : Kept). IsSound m) (sym same) s))

pub block_known : (old acc mid new : Kept) (f : Found) (size : ℕ) (cs : List Cell) → acc ≡ old →
    (r : IsReached old.objects f size) → record mid { types = [] } ≡ record acc { types = [] } → record new { cells = [] } ≡ record mid { cells = [] } →
    (AreKnown acc → (h : Held) → slice_get acc.objects f.object ≡ Some h → CellsKnown (length acc.origins) cs) → AreKnown old →
    CellsKnown (length new.origins) cs
block_known old acc mid new f size cs same r types rest cells known =
    let origins : new.origins ≡ acc.origins = ap (λ (m : Kept). m.origins) rest ∙ ap (λ (m : Kept). m.origins) types in
    let there : slice_get acc.objects f.object ≡ Some r.object = ap (λ (m : Kept). slice_get m.objects f.object) same ∙ r.there in
    subst (λ (ps : List Prov). CellsKnown (length ps) cs) (sym origins) (cells (subst (λ (m : Kept). AreKnown m) (sym same) known) r.object there)

cells_end : (n : ℕ) (cs : List Cell) (c : Cell) → CellsKnown n cs → c.origin.number ≤ n → CellsKnown n (cs ++ c ∷ [])
cells_end n [] c known le = (le, tt)
cells_end n (d ∷ cs) c known le = (known.0, cells_end n cs c known.1 le)

-- one more byte of an object
pub cell_known : (m : Kept) (h : Held) (at place : ℕ) (cs after : List Cell) (c d : Cell) → AreKnown m → slice_get m.objects at ≡ Some h →
    c ≡ cell_at h.cells place → d.origin ≡ c.origin → after ≡ cs ++ d ∷ [] → CellsKnown (length m.origins) cs → CellsKnown (length m.origins) after
cell_known m h at place cs after c d known there is same pushed before =
    let n = length m.origins in
    let le : (cell_at h.cells place).origin.number ≤ n = known_at n h.cells place (held_known n m.objects at h there known) in
    let number : d.origin.number ≡ (cell_at h.cells place).origin.number = ap (λ (o : Origin). o.number) same ∙ ap (λ (k : Cell). k.origin.number) is in
    subst (λ (l : List Cell). CellsKnown n l) (sym pushed) (cells_end n cs d before (omega (arith, le, number)))

-- ---- birth and death
changed_alters : (m : Kept) (f : Held → Held) (x : ObjName) → ((h : Held) → (f h).name ≡ h.name) → ((h : Held) → (f h).origin.number ≡ h.origin.number) →
    Alters m (record m { objects = changed f x m.objects }) (changed f x m.objects)
changed_alters m f x names numbers = record {
  objects = refl;
  rows = refl;
  origins = refl;
  cells = λ e h. h;
  held = λ y. held_changed f x m.objects y names;
  named = named_changed m.origins f x m.objects names numbers;
}

pub changed_made : (m : Kept) (f : Held → Held) (x : ObjName) → ((h : Held) → (f h).name ≡ h.name) → ((h : Held) → (f h).origin.number ≡ h.origin.number) →
    StayMade m (record m { objects = changed f x m.objects })
changed_made m f x names numbers = alters_made m (record m { objects = changed f x m.objects }) (changed f x m.objects) (changed_alters m f x names numbers)

pub changed_sound : (m : Kept) (f : Held → Held) (x : ObjName) → ((h : Held) → (f h).name ≡ h.name) → ((h : Held) → (f h).origin.number ≡ h.origin.number) →
    (ObjectsKnown (length m.origins) m.objects → ObjectsKnown (length m.origins) (changed f x m.objects)) → IsSound m →
    IsSound (record m { objects = changed f x m.objects })
changed_sound m f x names numbers known s =
    alters_sound m (record m { objects = changed f x m.objects }) (changed f x m.objects) (changed_alters m f x names numbers) (known s.known) s

some_split : (b : Bool) (g : Held) (rest more : Option Held) → (is_some rest ≡ true → is_some more ≡ true) → is_some (cond b (Some g) rest) ≡ true →
    is_some (cond b (Some g) more) ≡ true
some_split true g rest more keeps h = refl
some_split false g rest more keeps h = keeps h

held_end : (hs : List Held) (h : Held) (x : ObjName) → is_some (held_of hs x) ≡ true → is_some (held_of (hs ++ h ∷ []) x) ≡ true
held_end [] h x some = absurd (clash some)
  where
    clash : false ≡ true → ⊥
    clash e = cc
held_end (g ∷ hs) h x some = some_split (same_object g.name x) g (held_of hs x) (held_of (hs ++ h ∷ []) x) (held_end hs h x) some

some_either : (b : Bool) (g : Held) (rest : Option Held) → is_some rest ≡ true → is_some (cond b (Some g) rest) ≡ true
some_either true g rest h = refl
some_either false g rest h = h

held_last : (hs : List Held) (h : Held) → is_some (held_of (hs ++ h ∷ []) h.name) ≡ true
held_last [] h = rw (same_object_refl h.name) refl
held_last (g ∷ hs) h = some_either (same_object g.name h.name) g (held_of (hs ++ h ∷ []) h.name) (held_last hs h)

pub born_made : (old new : Kept) (x : ObjName) (base size align : ℕ) (kind : ObjKind) (declared : Option Shape) →
    IsBorn old new x base size align kind declared →
    StayMade old new
born_made old new x base size align kind declared b =
    let one = newborn x base size kind declared b.objects.0 in
    made_by old new (Whole x ∷ [], b.origins) (λ e h. ap (λ (cells : Cells). has_cell cells e) b.cells ∙ h)
    (λ y h. ap (λ (hs : List Held). is_some (held_of hs y)) b.objects.1 ∙ held_end old.objects one y h)

pub born_whole : (old new : Kept) (x : ObjName) (base size align : ℕ) (kind : ObjKind) (declared : Option Shape) →
    IsBorn old new x base size align kind declared → IsMade new (Whole x)
born_whole old new x base size align kind declared b =
    let one = newborn x base size kind declared b.objects.0 in
    ap (λ (hs : List Held). is_some (held_of hs x)) b.objects.1 ∙ held_last old.objects one

some_held : (b : Bool) (h : Held) → is_some (cond b (Some h) None) ≡ true → b ≡ true
some_held true h e = refl
some_held false h e = absurd (cc)

held_first : (b : Bool) (g : Held) (o p : Option Held) (P : Type 0) → (is_some (cond b (Some g) o) ≡ true → P) →
    ((is_some o ≡ true → P) → is_some p ≡ true → P) →
    is_some (cond b (Some g) p) ≡ true → P
held_first true g o p P old next e = old refl
held_first false g o p P old next e = next old e

-- an object is one of these, or the last
held_either : (hs : List Held) (h : Held) (y : ObjName) (P : Type 0) → (is_some (held_of hs y) ≡ true → P) → (same_object h.name y ≡ true → P) →
    is_some (held_of (hs ++ h ∷ []) y) ≡ true → P
held_either [] h y P old here e = here (some_held (same_object h.name y) h e)
held_either (g ∷ hs) h y P old here e =
    held_first (same_object g.name y) g (held_of hs y) (held_of (hs ++ h ∷ []) y) P old (λ o f. held_either hs h y P o here f) e

pub some_row : (o p : Option Row) → ((r : Row) → o ≡ Some r → p ≡ Some r) → is_some o ≡ true → is_some p ≡ true
some_row None p stays e = absurd (cc)
some_row (Some r) p stays e = ap is_some (stays r refl)

born_rowed : (old new : Kept) (x : ObjName) (base size align : ℕ) (kind : ObjKind) (declared : Option Shape) →
    IsBorn old new x base size align kind declared → RowsStay old.rows new.rows → AreRowed old → AreRowed new
born_rowed old new x base size align kind declared b stays rowed y h =
    held_either old.objects (newborn x base size kind declared b.objects.0) y (is_some (row_of new.rows y) ≡ true)
    (λ e. some_row (row_of old.rows y) (row_of new.rows y) (stays y) (rowed y e))
    (λ e. subst (λ (z : ObjName). is_some (row_of new.rows z) ≡ true) (same_object_is x y e) (ap is_some b.row))
    (sym (ap (λ (hs : List Held). is_some (held_of hs y)) b.objects.1) ∙ h)

born_sound : (old new : Kept) (x : ObjName) (base size align : ℕ) (kind : ObjKind) (declared : Option Shape) →
    IsBorn old new x base size align kind declared → AreNamed new → RowsStay old.rows new.rows → IsSound old → IsSound new
born_sound old new x base size align kind declared b named stays s = record {
  known = born_known old new x base size align kind declared b s.known;
  named = named;
  made = subst (λ (ps : List Prov). AllMade new ps) (sym b.origins)
      (each_last new old.origins (Whole x) (born_whole old new x base size align kind declared b)
      (λ n. born_made old new x base size align kind declared b (prov_numbered old.origins n) (s.made n)));
  rowed = born_rowed old new x base size align kind declared b stays s.rowed;
}

pub created_made : {E : Type 0} (r : Result ℕ E) (old new : Kept) (x : ObjName) (size align : ℕ) (kind : ObjKind) (declared : Option Shape) →
    IfOk r (λ base. IsBorn old new x base size align kind declared) → (p : Prov) → IsMade old p → OnOk r (IsMade new p)
created_made (Ok base) old new x size align kind declared b p made = born_made old new x base size align kind declared b p made
created_made (Err e) old new x size align kind declared b p made = tt

pub created_whole : {E : Type 0} (r : Result ℕ E) (old new : Kept) (x : ObjName) (size align : ℕ) (kind : ObjKind) (declared : Option Shape) →
    IfOk r (λ base. IsBorn old new x base size align kind declared) → OnOk r (IsMade new (Whole x))
created_whole (Ok base) old new x size align kind declared b = born_whole old new x base size align kind declared b
created_whole (Err e) old new x size align kind declared b = tt

pub created_sound : {E : Type 0} (r : Result ℕ E) (old new : Kept) (x : ObjName) (size align : ℕ) (kind : ObjKind) (declared : Option Shape) →
    IfOk r (λ base. IsBorn old new x base size align kind declared) → (AreNamed old → OnOk r (AreNamed new)) → OnOk r (RowsStay old.rows new.rows) →
    IsSound old → OnOk r (IsSound new)
created_sound (Ok base) old new x size align kind declared b named stays s = born_sound old new x base size align kind declared b (named s.named) stays s
created_sound (Err e) old new x size align kind declared b named stays s = tt

-- ---- what settles
pub cells_narrowed : (b : Bool) (old new : Cells) (id : Event) (keep : ObjName) → OnTrue b (Settles old new id keep) → OnFalse b (new ≡ old) →
    (e : Event) → has_cell new e ≡ has_cell old e
cells_narrowed true old new id keep s same e = s.cells e
cells_narrowed false old new id keep s same e = ap (λ (cells : Cells). has_cell cells e) same

-- a memory without objects
no_prov : (rows : List Row) (mode : Option Mode) (n : ℕ) → IsMade (empty rows mode) (prov_numbered [] n)
no_prov rows mode zero = tt
no_prov rows mode (suc n) = tt

pub empty_sound : (rows : List Row) (mode : Option Mode) → IsSound (empty rows mode)
empty_sound rows mode = record { known = tt; named = tt; made = no_prov rows mode; rowed = λ x e. absurd (not_there e) }
  where
    not_there : false ≡ true → ⊥
    not_there e = cc

-- ---- what has a row
some_life : (o : Option Held) → is_some (life_in o) ≡ true → is_some o ≡ true
some_life None e = e
some_life (Some h) e = refl

pub objects_have_rows : ObjectsHaveRows
objects_have_rows m io x s e = s.rowed x (some_life (held_of m.objects x) e)

pub candidates_have_rows : CandidatesHaveRows
candidates_have_rows m Empty s made = tt
candidates_have_rows m (Whole x) s made = s.rowed x made
candidates_have_rows m (Either id past start) s made = (s.rowed past made.1.1.0, s.rowed start made.1.1.1)
