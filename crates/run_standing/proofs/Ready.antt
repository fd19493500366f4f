-- Objects that are there to be filled.
use Rattle.std.proofs.Common.{◌≡◌, ℕ, zero, suc, ◌+◌, ◌-◌, ◌*◌, ◌/◌, ◌%◌, ◌<◌, ◌≤◌, ◌^◌, min, Bool, true, false, cond, refl, sym, ap, ◌∙◌, subst, arith, List}
use Rattle.std.proofs.Common.{[], ◌∷◌, ◌++◌, length, map}
use Rattle.std.proofs.Common.{get_or, Option, Some}
use Rattle.std.specs.Prelude.{Result, Ok, Err, replicate}
use Rattle.std.proofs.lemmas.Nat.{div-add-mod'}
use Rattle.std.proofs.lemmas.List.{length-replicate}
use Rattle.ub_base.specs.declared.clause.Clause.{Clause}
use Rattle.ub_base.specs.declared.names.ObjName.{ObjName}
use Rattle.ub_base.specs.Names.{same_object}
use Rattle.addr_map.specs.declared.map.Row.{Row}
use Rattle.addr_map.specs.Rows.{row_of}
use Rattle.addr_map.specs.Sound.{Above}
use Rattle.exposure.specs.declared.prov.Prov.{Prov}
use Rattle.exposure.specs.declared.prov.Prov.TheVariants.{Whole}
use Rattle.mem_spec.specs.Acts.{store, bytes, has_place}
use Rattle.mem_spec.specs.Script.{Done, Raised, run}
use Rattle.mem_spec.specs.Store.{Store, TaggedByte, is_live}
use Rattle.mem_spec.specs.Streams.{Io, silent}
use Rattle.mem_objects.specs.declared.answer.CreateFault.{CreateFault}
use Rattle.mem_objects.specs.declared.answer.CreateFault.TheVariants as faults
use Rattle.mem_objects.specs.declared.cell.Cell.{Cell}
use Rattle.mem_objects.specs.Cells.{plain_cell}
use Rattle.mem_objects.specs.Keeps.{Keeps}
use Rattle.mem_objects.specs.Memory.{Kept, store_of}
use Rattle.mem_objects.specs.Pieces.{seen}
use Rattle.c_model.specs.Program.{Standing, Filling as Filled}
use Rattle.c_model.specs.Values.{address_after}
use Rattle.run_values.specs.declared.filling.Filling.{Filling}
use Rattle.run_values.specs.Contents.{Stands}
use Rattle.run_values.specs.Fills.{AreFillings}
use Rattle.run_standing.specs.Outcomes.{IsFilled, IsReady, LivesStay, lives_of, Waits, WaitAll}
use Rattle.run_standing.specs.Standing.{AllCreated}
use Rattle.run_standing.specs.Starting.{EndsLow, Puts}
use Rattle.run_standing.proofs.Clears.{stored}
use Rattle.run_standing.proofs.Outcomes.{FillingsFit, content_bytes_length, content_length, created_there, row_placed, store_does}
use Rattle.run_standing.proofs.Starting.{row_ends, stands_low}

-- ---- a store of plain bytes
abbrev pub quiet : Io
quiet = record { input = []; position = 0; output = silent }

pub puts_live : (old new : Kept) (x : ObjName) (a : ℕ) (bs : List TaggedByte) → Puts old new x a bs → LivesStay old new
puts_live old new x a bs p y =
    let put = p old.rows (λ z r e. e) quiet in
    let did = stored old.rows a x bs put.0 (store_of old quiet) (store_of new quiet) put.1 in
    ap (λ (s : Store). s.life y) did.left

pub seen_length : (m : Kept) (cells : List Cell) → length (seen m cells) ≡ length cells
seen_length m [] = refl
seen_length m (c ∷ cs) = ap suc (seen_length m cs)

pub put_fits : (m : Kept) (prov : Prov) (x : ObjName) (base at a size : ℕ) (cells : List Cell) (c : Clause) → prov ≡ Whole x → IsReady m x base size →
    a ≡ address_after base at → at + length cells ≤ size →
    ((io : Io) → run m.rows (store m.rows true bytes 1 a prov (seen m cells)) (store_of m io) ≡ Raised c) → ⊥
put_fits m prov x base at a size cells c is ready e fits raised =
    let there : a ≡ address_after ready.row.base at = e ∙ ap (λ (b : ℕ). address_after b at) (sym ready.at) in
    let did = store_does m.rows ready.row x at (seen m cells) (store_of m quiet) ready.named ready.live ready.begins ready.ends
    (omega (arith, fits, ready.sized, seen_length m cells)) in
    let here : run m.rows (store m.rows true bytes 1 a prov (seen m cells)) (store_of m quiet) ≡ Done tt did.0 did.1 =
    ap (λ (b : ℕ). run m.rows (store m.rows true bytes 1 b prov (seen m cells)) (store_of m quiet)) there
    ∙ ap (λ (p : Prov). run m.rows (store m.rows true bytes 1 (address_after ready.row.base at) p (seen m cells)) (store_of m quiet)) is ∙ did.2 in
    let both : Raised c ≡ Done tt did.0 did.1 = sym (raised quiet) ∙ here in
    absurd (cc)

plain_count : (ns : List ℕ) → length (map plain_cell ns) ≡ length ns
plain_count [] = refl
plain_count (n ∷ ns) = ap suc (plain_count ns)

-- ---- what is ready stays so
pub ready_low : (m : Kept) (x : ObjName) (base size : ℕ) → IsReady m x base size → EndsLow m x
ready_low m x base size ready r is = row_ends (row_of m.rows x) ready.row r ready.named ready.ends is

pub ready_still : (old now : Kept) (x : ObjName) (base size : ℕ) → now.rows ≡ old.rows → LivesStay old now → IsReady old x base size → IsReady now x base size
ready_still old now x base size same lives ready = record {
  row = ready.row;
  named = ap (λ (rs : List Row). row_of rs x) same ∙ ready.named;
  at = ready.at;
  begins = ready.begins;
  sized = ready.sized;
  ends = ready.ends;
  live = ap is_live (lives x) ∙ ready.live;
}

pub lives_same : (m : Kept) → LivesStay m m
lives_same m x = refl

pub lives_then : (old now new : Kept) → LivesStay old now → LivesStay now new → LivesStay old new
lives_then old now new first then x = then x ∙ first x

-- a refusal of a call is that of the call in it
refused_still : (old now new : Kept) (fault : CreateFault) → IsFilled now new (Err fault) → IsFilled old new (Err fault)
refused_still old now new faults.NoMemory filled = tt
refused_still old now new faults.Unplaced filled = filled

pub refused_then : (old now new : Kept) (r : Result (Unit {0}) CreateFault) (y fault : CreateFault) → r ≡ Err y → y ≡ fault →
    IsFilled now new (Err fault) → IsFilled old new r
refused_then old now new r y fault e is filled =
    subst (λ (q : Result (Unit {0}) CreateFault). IsFilled old new q) (sym e) (subst (λ (g : CreateFault). IsFilled old new (Err g)) (sym is)
    (refused_still old now new fault filled))

pub filled_then : (old now new : Kept) (r : Result (Unit {0}) CreateFault) → LivesStay old now → IsFilled now new r → IsFilled old new r
filled_then old now new (Ok u) lives filled = lives_then old now new lives filled
filled_then old now new (Err faults.NoMemory) lives filled = tt
filled_then old now new (Err faults.Unplaced) lives filled = filled

-- ---- objects that were created wait to be filled
pub created_wait : (old new : Kept) (os : List Standing) → AllCreated old new os → WaitAll new os
created_wait old new os all =
    (created_there new.rows os (store_of old quiet) (store_of new quiet) (all new.rows (λ x r e. e) quiet)).1

pub waits_still : (old new : Kept) (o : Standing) → Keeps old new → LivesStay old new → Waits old o → Waits new o
waits_still old new o keeps lives waits =
    let row = row_placed (row_of old.rows o.name) o.decl.size o.decl.align waits.placed in
    let stays : row_of new.rows o.name ≡ row_of old.rows o.name = keeps.rows o.name row.0 row.1 ∙ sym row.1 in
    record {
      live = ap is_live (lives o.name) ∙ waits.live;
      placed = ap (λ (q : Option Row). has_place q o.decl.size o.decl.align) stays ∙ waits.placed;
    }

pub wait_still : (old new : Kept) (os : List Standing) → Keeps old new → LivesStay old new → WaitAll old os → WaitAll new os
wait_still old new [] keeps lives wait = tt
wait_still old new (o ∷ os) keeps lives wait = (waits_still old new o keeps lives wait.0, wait_still old new os keeps lives wait.1)

pub wait_first : (m : Kept) (os ps : List Standing) → WaitAll m (os ++ ps) → WaitAll m os
wait_first m [] ps wait = tt
wait_first m (o ∷ os) ps wait = (wait.0, wait_first m os ps wait.1)

pub wait_second : (m : Kept) (os ps : List Standing) → WaitAll m (os ++ ps) → WaitAll m ps
wait_second m [] ps wait = wait
wait_second m (o ∷ os) ps wait = wait_second m os ps wait.1

pub wait_at : (m : Kept) (os : List Standing) (i : ℕ) (o : Standing) → i < length os → o ≡ get_or os i o → WaitAll m os → Waits m o
wait_at m [] i o lt is wait = absurd (omega (arith, lt))
wait_at m (p ∷ os) zero o lt is wait = subst (λ (q : Standing). Waits m q) (sym is) wait.0
wait_at m (p ∷ os) (suc i) o lt is wait = wait_at m os i o (omega (arith, lt)) is wait.1

-- ---- .. where they stand
row_or : (b : Bool) (n : ℕ) (s : Row) (rows : List Row) (x : ObjName) (r : Row) → n ≤ s.base → (row_of rows x ≡ Some r → n ≤ r.base) →
    cond b (Some s) (row_of rows x) ≡ Some r → n ≤ r.base
row_or true n s rows x r first later is =
    let same : s ≡ r = cc in
    subst (λ (q : Row). n ≤ q.base) same first
row_or false n s rows x r first later is = later is

row_above : (n : ℕ) (rows : List Row) (x : ObjName) (r : Row) → Above n rows → row_of rows x ≡ Some r → n ≤ r.base
row_above n [] x r above is = absurd (cc)
row_above n (s ∷ rows) x r above is = row_or (same_object s.name x) n s rows x r above.0 (row_above n rows x r above.1) is

pub ready_from : (m : Kept) (x : ObjName) (base here : ℕ) (o : Standing) → Above 16777216 m.rows → Stands m x base → o.name ≡ x → Waits m o →
    here ≡ address_after base 0 → IsReady m x here o.decl.size
ready_from m x base here o above stands named waits e =
    let row = row_placed (row_of m.rows o.name) o.decl.size o.decl.align waits.placed in
    let own : row_of m.rows x ≡ Some row.0 = ap (λ (y : ObjName). row_of m.rows y) (sym named) ∙ row.1 in
    let low : row.0.base + row.0.size ≤ 2 ^ 47 = stands_low m x base stands row.0 own in
    let both : Some stands.row ≡ Some row.0 = sym stands.named ∙ own in
    let same : stands.row ≡ row.0 = cc in
    let begin : row.0.base ≡ base = ap (λ (r : Row). r.base) (sym same) ∙ stands.at in
    record {
      row = row.0;
      named = own;
      at = omega (arith, begin, e, low);
      begins = omega (arith, row_above 16777216 m.rows x row.0 above own);
      sized = omega (arith, row.2);
      ends = low;
      live = ap (λ (y : ObjName). is_live (lives_of m y)) (sym named) ∙ waits.live;
    }

-- ---- fillings that lie in an object of this size
abbrev pub AllWithin : ℕ → List Filling → Type 0
AllWithin size [] = Unit {0}
AllWithin size (f ∷ fs) = (f.at + length f.bytes.cells ≤ size) × AllWithin size fs

pub within_at : (size : ℕ) (fs : List Filling) (i : ℕ) (f : Filling) → i < length fs → f ≡ get_or fs i f → AllWithin size fs →
    f.at + length f.bytes.cells ≤ size
within_at size [] i f lt is within = absurd (omega (arith, lt))
within_at size (g ∷ fs) zero f lt is within = subst (λ (h : Filling). h.at + length h.bytes.cells ≤ size) (sym is) within.0
within_at size (g ∷ fs) (suc i) f lt is within = within_at size fs i f (omega (arith, lt)) is within.1

pub fillings_within : (m : Kept) (size : ℕ) (fs : List Filling) (cs : List Filled) → AreFillings m fs cs → FillingsFit size cs → AllWithin size fs
fillings_within m size [] [] are fit = tt
fillings_within m size [] (c ∷ cs) are fit = absurd are
fillings_within m size (f ∷ fs) [] are fit = absurd are
fillings_within m size (f ∷ fs) (c ∷ cs) are fit =
    let len : length f.bytes.cells ≡ content_length c.content =
    sym (seen_length m f.bytes.cells) ∙ ap length are.0.bytes ∙ content_bytes_length m.rows c.content in
    (omega (arith, fit.0, are.0.at, len), fillings_within m size fs cs are.1 fit.1)

-- ---- plain bytes that lie in an object
pub plain_fits : (cells : List Cell) (ns : List ℕ) → cells ≡ map plain_cell ns → 0 + length cells ≤ length ns
plain_fits cells ns e = omega (arith, ap length e, plain_count ns)

zeros_count : (n : ℕ) → length (map plain_cell (replicate n 0)) ≡ n
zeros_count n = plain_count (replicate n 0) ∙ length-replicate {A = ℕ} n 0

pub first_fits : (cells : List Cell) (size : ℕ) → cells ≡ map plain_cell (replicate (size % 4096) 0) → 0 + length cells ≤ size
first_fits cells size e =
    let count : length cells ≡ size % 4096 = ap length e ∙ zeros_count (size % 4096) in
    omega (arith, count, div-add-mod' size 4096)

pub page_fits : (cells : List Cell) (size number at : ℕ) → number < size / 4096 →
    at ≡ min (min (number * 4096) (2 ^ 64 - 1) + size % 4096) (2 ^ 64 - 1) → cells ≡ map plain_cell (replicate 4096 0) → at + length cells ≤ size
page_fits cells size number at lt is e =
    let count : length cells ≡ 4096 = ap length e ∙ zeros_count 4096 in
    omega (arith, lt, is, count, div-add-mod' size 4096)
