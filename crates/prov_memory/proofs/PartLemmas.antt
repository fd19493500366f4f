-- Members of structure values: the bytes of a slice, and what reading them does.
use Rattle.std.proofs.Common.{◌≡◌, ℕ, zero, suc, ◌+◌, ◌<◌, Bool, true, false, not, ◌&&◌, cond, refl, sym}
use Rattle.std.proofs.Common.{ap, ap₂, ◌∙◌, subst, arith, ℤ, List, [], ◌∷◌, ◌++◌, length, map, Option, Some, None}
use Rattle.std.specs.Prelude.{Result, Ok, Err, IfOk, IfErr, IfSome, OnOk, nat_lt, ◌==◌}
use Rattle.std.specs.Bool.{then_some}
use Rattle.std.proofs.lemmas.List.{append-nil}
use Rattle.ub_base.specs.declared.clause.Clause.{Clause}
use Rattle.ub_base.specs.declared.clause.Clause.TheVariants.{Indeterminate, TrapRepresentation}
use Rattle.ub_base.specs.declared.names.Event.{Event}
use Rattle.ub_base.specs.declared.names.Item.{Item}
use Rattle.ub_base.specs.declared.names.Item.TheVariants.{Expose}
use Rattle.addr_map.specs.declared.map.Row.{Row}
use Rattle.exposure.specs.declared.prov.Prov.{Prov}
use Rattle.c_types.specs.declared.kind.IntKind.{IntKind}
use Rattle.c_types.specs.Types.{CType, type_of}
use Rattle.mem_objects.specs.declared.cell.Cell.{Cell}
use Rattle.mem_spec.specs.Agreement.{number_of_kind}
use Rattle.mem_spec.specs.Store.{Store, TaggedByte, range_from}
use Rattle.mem_spec.specs.Script.{Script, Give, Done, Raised, run, require, ◌>>◌}
use Rattle.mem_spec.specs.Acts.{candidates, all_written, number_of, are_pieces, origin_in, pointer_if, pointer_in, origins_in, show_pieces, value_of, from_int}
use Rattle.mem_spec.specs.Streams.{Io}
use Rattle.mem_objects.specs.Cells.{cell_at, byte_in, tagged_in}
use Rattle.mem_objects.specs.Memory.{Kept, AreKnown, store_of}
use Rattle.mem_objects.specs.Access.{range_in}
use Rattle.mem_objects.specs.Made.{HasMore, IsMade, look_up_items}
use Rattle.mem_objects.specs.Loads.{number_if, number_checked, origins_of}
use Rattle.prov_memory.specs.Parts.{part_int, part_func, part_ptr, pointer_or_found, part_items}
use Rattle.mem_objects.specs.Pieces.{seen}
use Rattle.mem_objects.specs.Sound.{AreMade}
use Rattle.mem_objects.proofs.AccessLemmas.{done_then}
use Rattle.prov_memory.proofs.FindLemmas.{store_more}
use Rattle.prov_memory.proofs.LoadLemmas.{err_of, ok_of}
use Rattle.prov_memory.proofs.ShowLemmas.{showing, shows_then}
use Rattle.mem_objects.proofs.SoundLemmas.{pointer_if_made, origin_made}

-- ---- a slice as a range
range_shift : (f : ℕ → TaggedByte) (a n : ℕ) → range_from f (suc a) n ≡ range_from (λ k. f (suc k)) a n
range_shift f a zero = refl
range_shift f a (suc n) = ap (λ (bs : List TaggedByte). f (suc a) ∷ bs) (range_shift f (suc a) n)

range_all : (ps : List Prov) (ts : List CType) (cs : List Cell) → range_from (λ at. tagged_in ps ts (cell_at cs at)) 0 (length cs) ≡ map (tagged_in ps ts) cs
range_all ps ts [] = refl
range_all ps ts (c ∷ cs) =
    ap (λ (bs : List TaggedByte). tagged_in ps ts c ∷ bs) (range_shift (λ at. tagged_in ps ts (cell_at (c ∷ cs) at)) 0 (length cs) ∙ range_all ps ts cs)

pub range_seen : (m : Kept) (cs : List Cell) → range_in m cs 0 (length cs) ≡ seen m cs
range_seen m cs = range_all m.origins (map type_of m.types) cs

pub range_to : (m : Kept) (cs : List Cell) (n : ℕ) → n ≡ length cs → range_in m cs 0 n ≡ seen m cs
range_to m cs n e = ap (λ (k : ℕ). range_in m cs 0 k) e ∙ range_seen m cs

-- the next byte of a slice
pub next_piece : (m now : Kept) (c d : Cell) (prov : Prov) → now.origins ≡ m.origins → c ≡ d → candidates prov ≡ origins_in (byte_in now.origins c) →
    candidates prov ≡ origins_in (byte_in m.origins d)
next_piece m now c d prov same is named = named ∙ ap₂ (λ (ps : List Prov) (k : Cell). origins_in (byte_in ps k)) same is

-- ---- the act of a number
abbrev pub number_act : {V : Type 0} → Bool → (ℕ → V) → List TaggedByte → Script V
number_act b g bs =
    require (all_written bs) Indeterminate
    >> (require (not (b && nat_lt 1 (number_of bs))) TrapRepresentation >> (show_pieces bs >> Give (g (number_of bs))))

not_err : (n : ℕ) (c : Clause) → ok_of n ≡ err_of c → ⊥
not_err n c e = cc

not_ok : (c : Clause) (n : ℕ) → err_of c ≡ ok_of n → ⊥
not_ok c n e = cc

ok_is : (a b : ℕ) → ok_of a ≡ ok_of b → a ≡ b
ok_is a b e = cc

err_is : (a b : Clause) → err_of b ≡ err_of a → a ≡ b
err_is a b e = cc

number_by : {V : Type 0} (u v : Bool) (rows : List Row) (m : Kept) (b : Bool) (g : ℕ → V) (bs : List TaggedByte) (number : ℕ) (io : Io) → all_written bs ≡ u →
    (b && nat_lt 1 (number_of bs)) ≡ v → Ok number ≡ number_checked b (cond u (Some (number_of bs)) None) →
    run rows (number_act b g bs) (store_of m io) ≡ Done (g number) (map Expose (origins_of bs)) (store_of (showing (origins_of bs) m) io)
number_by false v rows m b g bs number io e f is = absurd (not_err number Indeterminate is)
number_by true true rows m b g bs number io e f is = absurd (not_err number TrapRepresentation (rw f at is))
number_by true false rows m b g bs number io e f is =
    let same : number_of bs ≡ number = sym (ok_is number (number_of bs) (rw f at is)) in
    rw (e, f) (shows_then rows m bs (g (number_of bs)) io ∙ ap (λ (k : ℕ). Done (g k) (map Expose (origins_of bs)) (store_of (showing (origins_of bs) m) io))
    same)

fails_by : {V : Type 0} (u v : Bool) (rows : List Row) (b : Bool) (g : ℕ → V) (bs : List TaggedByte) (c : Clause) (s : Store) → all_written bs ≡ u →
    (b && nat_lt 1 (number_of bs)) ≡ v → Err c ≡ number_checked b (cond u (Some (number_of bs)) None) → run rows (number_act b g bs) s ≡ Raised c
fails_by false v rows b g bs c s e f is = rw e (ap Raised (err_is Indeterminate c is))
fails_by true true rows b g bs c s e f is = rw (e, f) (ap Raised (err_is TrapRepresentation c (rw f at is)))
fails_by true false rows b g bs c s e f is = absurd (not_ok c (number_of bs) (rw f at is))

-- what the steps of a part ensure
abbrev pub Shown : Kept → Kept → List TaggedByte → Type 0
Shown old new bs = new ≡ showing (origins_of bs) old

pub number_done : {V : Type 0} (old new : Kept) (b : Bool) (g : ℕ → V) (bs : List TaggedByte) (number : ℕ) (t items : List Item) → t ≡ [] →
    Ok number ≡ number_checked b (number_if bs) → Shown old new bs → (length t + 16 < 32 → items ≡ t ++ map Expose (origins_of bs)) →
    (io : Io) → run old.rows (number_act b g bs) (store_of old io) ≡ Done (g number) items (store_of new io)
number_done old new b g bs number t items first is shown noted io =
    let room : length t + 16 < 32 = subst (λ (js : List Item). length js + 16 < 32) (sym first) (omega arith) in
    let all : items ≡ map Expose (origins_of bs) = noted room ∙ ap (λ (js : List Item). js ++ map Expose (origins_of bs)) first in
    number_by (all_written bs) (b && nat_lt 1 (number_of bs)) old.rows old b g bs number io refl refl is
    ∙ ap₂ (λ (js : List Item) (k : Kept). Done (g number) js (store_of k io)) (sym all) (sym shown)

pub number_fails : {V : Type 0} (old : Kept) (b : Bool) (g : ℕ → V) (bs : List TaggedByte) (c : Clause) → Err c ≡ number_checked b (number_if bs) →
    (io : Io) → run old.rows (number_act b g bs) (store_of old io) ≡ Raised c
number_fails old b g bs c is io = fails_by (all_written bs) (b && nat_lt 1 (number_of bs)) old.rows b g bs c (store_of old io) refl refl is

-- ---- a pointer to a function
abbrev pub plain_number : ℕ → ℕ
plain_number k = k

pub func_done : (r : Result ℕ Clause) (old new : Kept) (bs cs : List TaggedByte) (t items : List Item) → bs ≡ cs → t ≡ [] →
    IfOk r (λ n. Ok n ≡ number_checked false (number_if bs)) → OnOk r (Shown old new bs) →
    OnOk r (length t + 16 < 32 → items ≡ t ++ map Expose (origins_of bs)) →
    IfOk r (λ n. (io : Io) → run old.rows (part_func cs) (store_of old io) ≡ Done n items (store_of new io))
func_done (Ok n) old new bs cs t items same first is shown noted = λ io.
    ap (λ (l : List TaggedByte). run old.rows (part_func l) (store_of old io)) (sym same) ∙ number_done old new false plain_number bs n t items first is shown
    noted io
func_done (Err c) old new bs cs t items same first is shown noted = tt

pub func_fails : (r : Result ℕ Clause) (old : Kept) (bs cs : List TaggedByte) → bs ≡ cs → IfErr r (λ c. Err c ≡ number_checked false (number_if bs)) →
    IfErr r (λ c. (io : Io) → run old.rows (part_func cs) (store_of old io) ≡ Raised c)
func_fails (Ok n) old bs cs same is = tt
func_fails (Err c) old bs cs same is = λ io.
    ap (λ (l : List TaggedByte). run old.rows (part_func l) (store_of old io)) (sym same) ∙ number_fails old false plain_number bs c is io

-- ---- an integer
pub int_done : (old new : Kept) (kind : IntKind) (b : Bool) (bs cs : List TaggedByte) (number : ℕ) (value : ℤ) (t items : List Item) →
    b ≡ (number_of_kind kind == 1) → bs ≡ cs → value ≡ value_of kind number → t ≡ [] → Ok number ≡ number_checked b (number_if bs) → Shown old new bs →
    (length t + 16 < 32 → items ≡ t ++ map Expose (origins_of bs)) → (io : Io) →
    run old.rows (part_int kind cs) (store_of old io) ≡ Done value items (store_of new io)
int_done old new kind b bs cs number value t items bool same is first checked shown noted io =
    ap₂ (λ (c : Bool) (l : List TaggedByte). run old.rows (number_act c (value_of kind) l) (store_of old io)) (sym bool) (sym same)
    ∙ number_done old new b (value_of kind) bs number t items first checked shown noted io
    ∙ ap (λ (z : ℤ). Done z items (store_of new io)) (sym is)

pub int_fails : (old : Kept) (kind : IntKind) (b : Bool) (bs cs : List TaggedByte) (c : Clause) → b ≡ (number_of_kind kind == 1) → bs ≡ cs →
    Err c ≡ number_checked b (number_if bs) → (io : Io) → run old.rows (part_int kind cs) (store_of old io) ≡ Raised c
int_fails old kind b bs cs c bool same checked io =
    ap₂ (λ (d : Bool) (l : List TaggedByte). run old.rows (number_act d (value_of kind) l) (store_of old io)) (sym bool) (sym same)
    ∙ number_fails old b (value_of kind) bs c checked io

-- ---- a pointer to an object
pub seen_made : (m : Kept) (cs : List Cell) (o : Option Prov) → o ≡ pointer_in (seen m cs) → AreMade m → IfSome o (λ p. IsMade m p)
seen_made m [] o e made = subst (λ (q : Option Prov). IfSome q (λ p. IsMade m p)) (sym e) tt
seen_made m (c ∷ cs) o e made =
    subst (λ (q : Option Prov). IfSome q (λ p. IsMade m p)) (sym e)
    (pointer_if_made m (origin_in (byte_in m.origins c)) (seen m (c ∷ cs)) (origin_made m c.state c made))

none_among : (o : Option Prov) (bs : List TaggedByte) → None ≡ o → None ≡ pointer_if o bs
none_among None bs e = refl
none_among (Some p) bs e = absurd (cc)

pub among_none : (m : Kept) (cs : List Cell) → None ≡ origin_in (byte_in m.origins (cell_at cs 0)) → None ≡ pointer_in (seen m cs)
among_none m [] e = refl
among_none m (c ∷ cs) e = none_among (origin_in (byte_in m.origins c)) (seen m (c ∷ cs)) e

some_split : (b d : Bool) (p : Prov) → b ≡ d → then_some b p ≡ cond d (Some p) None
some_split true true p e = refl
some_split false false p e = refl
some_split true false p e = absurd (cc)
some_split false true p e = absurd (cc)

prov_is : (p q : Prov) → Some p ≡ Some q → p ≡ q
prov_is p q e = cc

some_among : (o : Option Prov) (p : Prov) (b : Bool) (bs : List TaggedByte) → Some p ≡ o → b ≡ are_pieces p 0 bs → then_some b p ≡ pointer_if o bs
some_among None p b bs e is = absurd (cc)
some_among (Some q) p b bs e is = some_split b (are_pieces p 0 bs) p is ∙ ap (λ (r : Prov). cond (are_pieces r 0 bs) (Some r) None) (prov_is p q e)

pub among_some : (m : Kept) (cs : List Cell) (p : Prov) (b : Bool) (n : ℕ) → Some p ≡ origin_in (byte_in m.origins (cell_at cs 0)) → n ≡ length cs →
    b ≡ are_pieces p 0 (range_in m cs 0 n) → then_some b p ≡ pointer_in (seen m cs)
among_some m [] p b n e long is = absurd (cc)
among_some m (c ∷ cs) p b n e long is =
    some_among (origin_in (byte_in m.origins c)) p b (seen m (c ∷ cs)) e (is ∙ ap (are_pieces p 0) (range_to m (c ∷ cs) n long))

written_by : (u : Bool) (rows : List Row) (who : Event) (bs : List TaggedByte) (number : ℕ) (s : Store) → all_written bs ≡ u →
    Ok number ≡ number_checked false (cond u (Some (number_of bs)) None) →
    run rows (part_ptr who bs) s ≡ run rows (pointer_or_found who (pointer_in bs) number) s
written_by false rows who bs number s e is = absurd (not_err number Indeterminate is)
written_by true rows who bs number s e is =
    rw e (ap (λ (k : ℕ). run rows (pointer_or_found who (pointer_in bs) k) s) (sym (ok_is number (number_of bs) is)))

unwritten_by : (u : Bool) (rows : List Row) (who : Event) (bs : List TaggedByte) (c : Clause) (s : Store) → all_written bs ≡ u →
    Err c ≡ number_checked false (cond u (Some (number_of bs)) None) → run rows (part_ptr who bs) s ≡ Raised c
unwritten_by false rows who bs c s e is = rw e (ap Raised (err_is Indeterminate c is))
unwritten_by true rows who bs c s e is = absurd (not_ok c (number_of bs) is)

pub pointer_fails : (old : Kept) (who : Event) (bs cs : List TaggedByte) (c : Clause) → bs ≡ cs → Err c ≡ number_checked false (number_if bs) →
    (io : Io) → run old.rows (part_ptr who cs) (store_of old io) ≡ Raised c
pointer_fails old who bs cs c same is io =
    ap (λ (l : List TaggedByte). run old.rows (part_ptr who l) (store_of old io)) (sym same) ∙ unwritten_by (all_written bs) old.rows who bs c
    (store_of old io) refl is

pub pointer_done : (old new : Kept) (who : Event) (bs cs : List TaggedByte) (number : ℕ) (pointer : Option Prov) (prov : Prov) (t items : List Item) →
    bs ≡ cs → Ok number ≡ number_checked false (number_if bs) → pointer ≡ pointer_in bs →
    ((io : Io) → run old.rows (pointer_or_found who pointer number) (store_of old io) ≡ Done (number, prov) (part_items pointer number) (store_of old io)) →
    t ≡ [] → (length t < 32 → items ≡ t ++ part_items pointer number) → HasMore old new → AreKnown old →
    (io : Io) → run old.rows (part_ptr who cs) (store_of old io) ≡ Done (number, prov) items (store_of new io)
pointer_done old new who bs cs number pointer prov t items same is pieces runs first noted more known io =
    let room : length t < 32 = subst (λ (js : List Item). length js < 32) (sym first) (omega arith) in
    let all : items ≡ part_items pointer number = noted room ∙ ap (λ (js : List Item). js ++ part_items pointer number) first in
    ap (λ (l : List TaggedByte). run old.rows (part_ptr who l) (store_of old io)) (sym same)
    ∙ written_by (all_written bs) old.rows who bs number (store_of old io) refl is
    ∙ ap (λ (o : Option Prov). run old.rows (pointer_or_found who o number) (store_of old io)) (sym pieces)
    ∙ runs io
    ∙ ap₂ (λ (js : List Item) (s : Store). Done (number, prov) js s) (sym all) (sym (store_more old new more known io))

abbrev with_number : ℕ → Prov → Script (ℕ × Prov)
with_number a prov = Give (a, prov)

pub found_number : (rows : List Row) (who : Event) (prov : Prov) (a : ℕ) (s : Store) → run rows (from_int who a) s ≡ Done prov (look_up_items a) s →
    run rows (pointer_or_found who None a) s ≡ Done (a, prov) (look_up_items a) s
found_number rows who prov a s runs =
    done_then rows (from_int who a) (with_number a) s s s prov (a, prov) (look_up_items a) [] runs refl
    ∙ ap (λ (js : List Item). Done (a, prov) js s) (append-nil (look_up_items a))

pub found_all : {E : Type 0} (r : Result Prov E) (rows : List Row) (who : Event) (a : ℕ) (m : Kept) →
    IfOk r (λ prov. (io : Io) → run rows (from_int who a) (store_of m io) ≡ Done prov (look_up_items a) (store_of m io)) →
    IfOk r (λ prov. (io : Io) → run rows (pointer_or_found who None a) (store_of m io) ≡ Done (a, prov) (look_up_items a) (store_of m io))
found_all (Ok prov) rows who a m runs = λ io. found_number rows who prov a (store_of m io) (runs io)
found_all (Err e) rows who a m runs = tt
