-- The bytes of constants.
use Rattle.std.proofs.Common.{◌≡◌, ℕ, zero, suc, ◌+◌, ◌<◌, List, [], ◌∷◌, ◌++◌, length, map, take, replicate, get_or, slice_get, refl, ap, sym, subst, ◌∙◌}
use Rattle.std.proofs.Common.{arith}
use Rattle.std.proofs.Common.{Some, Option}
use Rattle.ub_base.specs.declared.names.ObjName.{ObjName}
use Rattle.addr_map.specs.declared.map.Row.{Row}
use Rattle.exposure.specs.declared.prov.Prov.TheVariants.{Whole}
use Rattle.mem_spec.specs.Acts.{base_in}
use Rattle.mem_spec.specs.Bytes.{number_bytes, pointer_bytes}
use Rattle.mem_spec.specs.Store.{TaggedByte}
use Rattle.mem_objects.specs.declared.cell.Cell.{Cell}
use Rattle.mem_objects.specs.declared.value.Value.{Value as Held}
use Rattle.mem_objects.specs.declared.value.Value.TheVariants as values
use Rattle.mem_objects.specs.Cells.{plain_cell}
use Rattle.mem_objects.specs.Made.{IsMade, AreNamed}
use Rattle.mem_objects.specs.Memory.{Kept, CellsKnown}
use Rattle.mem_objects.specs.Pieces.{seen, value_bytes}
use Rattle.mem_objects.specs.Tags.{CellsTagged}
use Rattle.c_typed.specs.declared.program.Constant.{Constant}
use Rattle.c_model.specs.Program.{Filling as Filled, Object_at}
use Rattle.c_model.specs.Values.{Pointer, pointer_value, address_after}
use Rattle.c_model.specs.Nodes.{plain_byte, content_bytes}
use Rattle.run_values.specs.declared.places.Places.{Places}
use Rattle.run_values.specs.declared.filling.Filling.{Filling}
use Rattle.run_values.specs.Contents.{StandsAt, CanHold, CanHoldAll, AddsFilling, filled_by}
use Rattle.run_values.specs.Fills.{IsFilling, AreFillings}
use Rattle.run_values.specs.Kept.{IsFillingOf, AreOf, IsOf}
use Rattle.run_values.specs.Views.{value_in}
use Rattle.run_values.proofs.Keeping.{seen_pointer}

-- ---- plain bytes
pub plain_seen : (m : Kept) (ns : List ℕ) → seen m (map plain_cell ns) ≡ map plain_byte ns
plain_seen m [] = refl
plain_seen m (n ∷ ns) = ap (λ (bs : List TaggedByte). plain_byte n ∷ bs) (plain_seen m ns)

pub zeros_seen : (m : Kept) (n : ℕ) → seen m (map plain_cell (replicate n 0)) ≡ number_bytes n 0
zeros_seen m zero = refl
zeros_seen m (suc n) = ap (λ (bs : List TaggedByte). plain_byte 0 ∷ bs) (zeros_seen m n)

plain_known : (k : ℕ) (ns : List ℕ) → CellsKnown k (map plain_cell ns)
plain_known k [] = tt
plain_known k (n ∷ ns) = (omega arith, plain_known k ns)

plain_tagged : (k : ℕ) (ns : List ℕ) → CellsTagged k (map plain_cell ns)
plain_tagged k [] = tt
plain_tagged k (n ∷ ns) = (omega arith, plain_tagged k ns)

pub cells_known : (k : ℕ) (cs : List Cell) (ns : List ℕ) → cs ≡ map plain_cell ns → CellsKnown k cs
cells_known k cs ns e = subst (λ (ds : List Cell). CellsKnown k ds) (sym e) (plain_known k ns)

pub cells_tagged : (k : ℕ) (cs : List Cell) (ns : List ℕ) → cs ≡ map plain_cell ns → CellsTagged k cs
cells_tagged k cs ns e = subst (λ (ds : List Cell). CellsTagged k ds) (sym e) (plain_tagged k ns)

-- ---- addresses
pub seen_bytes : (m : Kept) (v : Held) (p : Pointer) → value_in m v ≡ pointer_value p → value_bytes m 8 v ≡ pointer_bytes 8 0 p.prov p.address
seen_bytes m (values.Ptr a q) p e =
    let there : a ≡ p.address = cc in
    let own : q ≡ p.prov = cc in
    λ i. pointer_bytes 8 0 (own i) (there i)
seen_bytes m (values.Int z) p e = absurd (cc)
seen_bytes m (values.Func a) p e = absurd (cc)
seen_bytes m (values.Block b) p e = absurd (cc)
seen_bytes m values.Missing p e = absurd (cc)
seen_bytes m values.Nothing p e = absurd (cc)

abbrev pub within : ObjName → ℕ → ℕ → Pointer
within x a offset = record { address = address_after a offset; prov = Whole x }

pub placed_bytes : (m : Kept) (v : Held) (p : Pointer) (x : ObjName) (k offset : ℕ) (addresses : List ℕ) → value_in m v ≡ pointer_value p →
    StandsAt m x addresses k → ((a : ℕ) → slice_get addresses k ≡ Some a → p ≡ within x a offset) →
    value_bytes m 8 v ≡ content_bytes m.rows (Object_at x offset)
placed_bytes m v p x k offset addresses e stands at =
    seen_bytes m v p e
    ∙ ap (λ (q : Pointer). pointer_bytes 8 0 q.prov q.address) (at stands.0 stands.1)
    ∙ ap (λ (base : ℕ). pointer_bytes 8 0 (Whole x) (address_after base offset)) (sym stands.2.at)
    ∙ ap (λ (r : Option Row). pointer_bytes 8 0 (Whole x) (address_after (base_in r) offset)) (sym stands.2.named)

pub placed_made : (m : Kept) (v : Held) (p : Pointer) (x : ObjName) (k offset : ℕ) (addresses : List ℕ) → value_in m v ≡ pointer_value p →
    StandsAt m x addresses k → ((a : ℕ) → slice_get addresses k ≡ Some a → p ≡ within x a offset) → IsOf m v
placed_made m v p x k offset addresses e stands at =
    seen_pointer m m v p e (subst (λ (q : Pointer). IsMade m q.prov) (sym (at stands.0 stands.1)) stands.2.made)

-- ---- one after the other
one_more : (i : ℕ) → suc i + 1 ≡ suc (i + 1)
one_more i = omega arith

pub taken_next : (cs : List Constant) (i : ℕ) (c : Constant) → i < length cs → c ≡ get_or cs i c →
    map filled_by (take (i + 1) cs) ≡ map filled_by (take i cs) ++ filled_by c ∷ []
taken_next [] i c lt is = absurd (omega (arith, lt))
taken_next (d ∷ ds) zero c lt is = ap (λ (x : Constant). filled_by x ∷ []) (sym is)
taken_next (d ∷ ds) (suc i) c lt is =
    ap (λ (n : ℕ). map filled_by (take n (d ∷ ds))) (one_more i)
    ∙ ap (λ (xs : List Filled). filled_by d ∷ xs) (taken_next ds i c (omega (arith, lt)) is)

pub can_at : (m : Kept) (places : Places) (cs : List Constant) (i : ℕ) (c : Constant) → CanHoldAll m places cs → i < length cs → c ≡ get_or cs i c →
    CanHold m places c.content
can_at m places [] i c can lt is = absurd (omega (arith, lt))
can_at m places (d ∷ ds) zero c can lt is = subst (λ (x : Constant). CanHold m places x.content) (sym is) can.0
can_at m places (d ∷ ds) (suc i) c can lt is = can_at m places ds i c can.1 (omega (arith, lt)) is

pub fillings_then : (m : Kept) (fs : List Filling) (cs : List Filled) (f : Filling) (c : Filled) → AreFillings m fs cs → IsFilling m f c →
    AreFillings m (fs ++ f ∷ []) (cs ++ c ∷ [])
fillings_then m [] [] f c are is = (is, tt)
fillings_then m (g ∷ fs) [] f c are is = absurd are
fillings_then m [] (d ∷ cs) f c are is = absurd are
fillings_then m (g ∷ fs) (d ∷ cs) f c are is = (are.0, fillings_then m fs cs f c are.1 is)

pub all_of_then : (m : Kept) (fs : List Filling) (f : Filling) → AreOf m fs → IsFillingOf m f → AreOf m (fs ++ f ∷ [])
all_of_then m [] f are is = (is, tt)
all_of_then m (g ∷ fs) f are is = (are.0, all_of_then m fs f are.1 is)

-- the fillings of the constants so far
abbrev pub HoldsSo : Kept → Places → List Constant → List Filling → ℕ → Type 0
HoldsSo m places cs fs i = AreNamed m → CanHoldAll m places cs → AreFillings m fs (map filled_by (take i cs)) × AreOf m fs

pub held_next : (m : Kept) (places : Places) (cs : List Constant) (c : Constant) (old new : List Filling) (i : ℕ) → i < length cs → c ≡ get_or cs i c →
    AddsFilling m places c old new → HoldsSo m places cs old i → HoldsSo m places cs new (i + 1)
held_next m places cs c old new i lt is adds so named can =
    let one = adds.2 named (can_at m places cs i c can lt is) in
    let before = so named can in (
      subst (λ (fs : List Filling). AreFillings m fs (map filled_by (take (i + 1) cs))) (sym adds.1)
          (subst (λ (xs : List Filled). AreFillings m (old ++ adds.0 ∷ []) xs) (sym (taken_next cs i c lt is))
          (fillings_then m old (map filled_by (take i cs)) adds.0 (filled_by c) before.0 one.0)),
      subst (λ (fs : List Filling). AreOf m fs) (sym adds.1) (all_of_then m old adds.0 before.1 one.1),
    )

taken_all : (cs : List Constant) (i : ℕ) → i ≡ length cs → take i cs ≡ cs
taken_all [] i e = rw e refl
taken_all (c ∷ cs) zero e = absurd (omega (arith, e))
taken_all (c ∷ cs) (suc i) e = ap (λ (xs : List Constant). c ∷ xs) (taken_all cs i (omega (arith, e)))

pub held_all : (m : Kept) (places : Places) (cs : List Constant) (fs : List Filling) (i : ℕ) → i ≡ length cs → HoldsSo m places cs fs i → AreNamed m →
    CanHoldAll m places cs → AreFillings m fs (map filled_by cs) × AreOf m fs
held_all m places cs fs i e so named can =
    let last = so named can in
    (subst (λ (xs : List Constant). AreFillings m fs (map filled_by xs)) (taken_all cs i e) last.0, last.1)
