-- What calls keep of a memory, and that their values are of it.
use Rattle.std.proofs.Common.{◌≡◌, ℕ, zero, suc, ◌<◌, ◌≤◌, List, [], ◌∷◌, ◌++◌, length, take, drop, get_or, sym, subst, arith, None}
use Rattle.std.specs.Prelude.{Result, Ok, Err, IfOk}
use Rattle.exposure.specs.declared.prov.Prov.{Prov}
use Rattle.mem_objects.specs.declared.answer.MemFault.{MemFault}
use Rattle.mem_objects.specs.declared.cell.Cell.{Cell}
use Rattle.mem_objects.specs.declared.value.Value.{Value as Held}
use Rattle.mem_objects.specs.declared.value.Value.TheVariants as values
use Rattle.mem_objects.specs.Cells.{Loaded, part_of}
use Rattle.mem_objects.specs.Keeps.{Keeps, GoesOn}
use Rattle.mem_objects.specs.Loads.{IfPointer}
use Rattle.mem_objects.specs.Made.{IsMade}
use Rattle.mem_objects.specs.Memory.{Kept, CellsKnown}
use Rattle.mem_objects.specs.Sound.{IsSound}
use Rattle.mem_objects.specs.Tags.{CellsTagged}
use Rattle.c_model.specs.Values.{Pointer, pointer_value, Int}
use Rattle.std.specs.Prelude.{ℤ}
use Rattle.run_values.specs.declared.filling.Filling.{Filling}
use Rattle.run_values.specs.Kept.{IsOf, AreOf}
use Rattle.run_values.specs.Views.{value_in}
use Rattle.run_values.proofs.Fills.{Alike}

-- ---- values
pub int_of : (m : Kept) (z : ℤ) → IsOf m (values.Int z)
int_of m z = record { made = tt; known = tt; tagged = tt }

pub function_of : (m : Kept) (a : ℕ) → IsOf m (values.Func a)
function_of m a = record { made = tt; known = tt; tagged = tt }

pub nothing_of : (m : Kept) → IsOf m values.Nothing
nothing_of m = record { made = tt; known = tt; tagged = tt }

pub pointer_of : (m : Kept) (a : ℕ) (p : Prov) → IsMade m p → IsOf m (values.Ptr a p)
pointer_of m a p made = record { made = made; known = tt; tagged = tt }

pub block_of : (m : Kept) (b : Loaded) → CellsKnown (length m.origins) b.cells → CellsTagged (length m.types) b.cells → IsOf m (values.Block b)
block_of m b known tagged = record { made = tt; known = known; tagged = tagged }

-- a value that is seen as a pointer
pub seen_pointer : (m n : Kept) (v : Held) (p : Pointer) → value_in m v ≡ pointer_value p → IsMade n p.prov → IsOf n v
seen_pointer m n (values.Ptr a q) p e made = pointer_of n a q (subst (λ (r : Prov). IsMade n r) (cc) made)
seen_pointer m n (values.Int z) p e made = absurd (cc)
seen_pointer m n (values.Func a) p e made = absurd (cc)
seen_pointer m n (values.Block b) p e made = absurd (cc)
seen_pointer m n values.Missing p e made = absurd (cc)
seen_pointer m n values.Nothing p e made = absurd (cc)

-- .. as a number
pub seen_number : (m n : Kept) (v : Held) (z : ℤ) → value_in m v ≡ Int z → IsOf n v
seen_number m n (values.Int y) z e = int_of n y
seen_number m n (values.Ptr a q) z e = absurd (cc)
seen_number m n (values.Func a) z e = absurd (cc)
seen_number m n (values.Block b) z e = absurd (cc)
seen_number m n values.Missing z e = absurd (cc)
seen_number m n values.Nothing z e = absurd (cc)

loaded : (m new : Kept) (v : Held) → IfPointer v (λ a p. IsSound m → IsMade new p) → IsSound m → IsOf new v
loaded m new (values.Ptr a p) h sound = pointer_of new a p (h sound)
loaded m new (values.Int z) h sound = absurd h
loaded m new (values.Func a) h sound = absurd h
loaded m new (values.Block b) h sound = absurd h
loaded m new values.Missing h sound = absurd h
loaded m new values.Nothing h sound = absurd h

-- a pointer that was read
pub pointer_loaded : (r : Result Held MemFault) (m new : Kept) → IfOk r (λ v. IfPointer v (λ a p. IsSound m → IsMade new p)) →
    IfOk r (λ v. IsSound m → IsOf new v)
pointer_loaded (Ok v) m new h = loaded m new v h
pointer_loaded (Err e) m new h = tt

-- ---- a part of a structure or union
known_behind : (n i : ℕ) (cs : List Cell) → CellsKnown n cs → CellsKnown n (drop i cs)
known_behind n zero cs h = h
known_behind n (suc i) [] h = tt
known_behind n (suc i) (c ∷ cs) h = known_behind n i cs h.1

known_front : (n i : ℕ) (cs : List Cell) → CellsKnown n cs → CellsKnown n (take i cs)
known_front n zero cs h = tt
known_front n (suc i) [] h = tt
known_front n (suc i) (c ∷ cs) h = (h.0, known_front n i cs h.1)

tagged_behind : (n i : ℕ) (cs : List Cell) → CellsTagged n cs → CellsTagged n (drop i cs)
tagged_behind n zero cs h = h
tagged_behind n (suc i) [] h = tt
tagged_behind n (suc i) (c ∷ cs) h = tagged_behind n i cs h.1

tagged_front : (n i : ℕ) (cs : List Cell) → CellsTagged n cs → CellsTagged n (take i cs)
tagged_front n zero cs h = tt
tagged_front n (suc i) [] h = tt
tagged_front n (suc i) (c ∷ cs) h = (h.0, tagged_front n i cs h.1)

pub part_kept : (m : Kept) (b p : Loaded) (from len : ℕ) → p ≡ part_of b from len → IsOf m (values.Block b) → IsOf m (values.Block p)
part_kept m b p from len e is =
    subst (λ (q : Loaded). IsOf m (values.Block q)) (sym e)
    (block_of m (part_of b from len) (known_front (length m.origins) len (drop from b.cells) (known_behind (length m.origins) from b.cells is.known))
    (tagged_front (length m.types) len (drop from b.cells) (tagged_behind (length m.types) from b.cells is.tagged)))

-- a structure or union that stands nowhere any more
pub unplaced_kept : (m : Kept) (b p : Loaded) → p ≡ record b { source = None } → IsOf m (values.Block b) → IsOf m (values.Block p)
unplaced_kept m b p e is = subst (λ (q : Loaded). IsOf m (values.Block q)) (sym e) (block_of m (record b { source = None }) is.known is.tagged)

-- ---- fillings
pub filling_of : (m : Kept) (fs : List Filling) (i : ℕ) (f : Filling) → AreOf m fs → i < length fs → f ≡ get_or fs i f →
    CellsKnown (length m.origins) f.bytes.cells × CellsTagged (length m.types) f.bytes.cells
filling_of m [] i f are lt is = absurd (omega (arith, lt))
filling_of m (g ∷ fs) zero f are lt is =
    subst (λ (h : Filling). CellsKnown (length m.origins) h.bytes.cells × CellsTagged (length m.types) h.bytes.cells) (sym is) are.0
filling_of m (g ∷ fs) (suc i) f are lt is = filling_of m fs i f are.1 (omega (arith, lt)) is

-- .. in the memory that the stores so far left
pub filling_still : (old now : Kept) (f : Filling) → Alike now old →
    CellsKnown (length old.origins) f.bytes.cells × CellsTagged (length old.types) f.bytes.cells →
    CellsKnown (length now.origins) f.bytes.cells × CellsTagged (length now.types) f.bytes.cells
filling_still old now f alike h =
    subst (λ (k : Kept). CellsKnown (length k.origins) f.bytes.cells × CellsTagged (length k.types) f.bytes.cells) (sym alike) h

-- ---- what a memory keeps
longer : {A : Type 0} (xs ys : List A) → length xs ≤ length (xs ++ ys)
longer [] ys = omega arith
longer (x ∷ xs) ys = omega (arith, longer xs ys)

grown : {A : Type 0} (old new : List A) → GoesOn old new → length old ≤ length new
grown {A = A} old new g = subst (λ (l : List A). length old ≤ length l) (sym g.1) (longer old g.0)

known_more : (n k : ℕ) (cs : List Cell) → n ≤ k → CellsKnown n cs → CellsKnown k cs
known_more n k [] le h = tt
known_more n k (c ∷ cs) le h = (omega (arith, le, h.0), known_more n k cs le h.1)

tagged_more : (n k : ℕ) (cs : List Cell) → n ≤ k → CellsTagged n cs → CellsTagged k cs
tagged_more n k [] le h = tt
tagged_more n k (c ∷ cs) le h = (omega (arith, le, h.0), tagged_more n k cs le h.1)

pub values_stay : (old new : Kept) (v : Held) → Keeps old new → IsOf old v → IsOf new v
values_stay old new (values.Int z) keeps is = int_of new z
values_stay old new (values.Ptr a p) keeps is = pointer_of new a p (keeps.made p is.made)
values_stay old new (values.Func a) keeps is = function_of new a
values_stay old new (values.Block b) keeps is =
    block_of new b (known_more (length old.origins) (length new.origins) b.cells (grown old.origins new.origins keeps.origins) is.known)
    (tagged_more (length old.types) (length new.types) b.cells (grown old.types new.types keeps.types) is.tagged)
values_stay old new values.Missing keeps is = record { made = tt; known = tt; tagged = tt }
values_stay old new values.Nothing keeps is = nothing_of new

pub fillings_stay : (old new : Kept) (fs : List Filling) → Keeps old new → AreOf old fs → AreOf new fs
fillings_stay old new [] keeps are = tt
fillings_stay old new (f ∷ fs) keeps are = (
  (
    known_more (length old.origins) (length new.origins) f.bytes.cells (grown old.origins new.origins keeps.origins) are.0.0,
    tagged_more (length old.types) (length new.types) f.bytes.cells (grown old.types new.types keeps.types) are.0.1,
  ),
  fillings_stay old new fs keeps are.1,
)
