-- What the objects count that stand before a run, in the store that they are created and filled in.
use Rattle.std.proofs.Common.{◌≡◌, ℕ, Bool, true, false, List, [], ◌∷◌, map, refl, sym, ap, ◌∙◌}
use Rattle.std.specs.Prelude.{if◌then◌else◌, length, not, ◌==◌, Option}
use Rattle.ub_base.specs.declared.clause.Clause.{Clause}
use Rattle.ub_base.specs.declared.clause.Clause.TheVariants.{DeadObject, InvalidPointer, OutOfBounds}
use Rattle.ub_base.specs.declared.names.Item.{Item}
use Rattle.ub_base.specs.declared.names.ObjName.{ObjName}
use Rattle.addr_map.specs.declared.map.Row.{Row}
use Rattle.addr_map.specs.Rows.{row_of}
use Rattle.exposure.specs.declared.prov.Prov.TheVariants.{Whole}
use Rattle.mem_spec.specs.Acts.{Accessed, access, bytes, declared_of, in_row, is_aligned, offset_in, store, stored_from}
use Rattle.mem_spec.specs.Script.{
  Touch,
  Ask,
  Get,
  Put,
  Bear,
  Bury,
  Show,
  Find,
  Settle,
  Take,
  Print,
  item_of,
  Answer,
  Script,
  Give,
  Raise,
  Finish,
  Exceed,
  Misplace,
  Do,
  ◌>>=◌,
  require,
  touch,
  Act,
  Done,
  Raised,
  Ended,
  Outside,
  Unplaced,
  answer,
  left,
  refused,
  refuses,
  run,
  touched,
}
use Rattle.mem_spec.specs.Store.{Life, Store, TaggedByte, is_live}
use Rattle.c_model.specs.Nodes.{fill, content_bytes}
use Rattle.c_model.specs.Program.{Standing, Filling}
use Rattle.c_model.specs.Runs.{created_after}
use Rattle.c_model.specs.Values.{address_after}
use Rattle.run_standing.specs.Standing.{CreatesAll, FillsAll, place_of}
use Rattle.run_standing.specs.Sums.{summed}
use Rattle.run_standing.specs.Viewed.{StartCounts}
use Rattle.run_standing.proofs.Sums.{created_sum, sizes}
use Rattle.run_standing.proofs.Finds.{created_leaves}

-- ---- scripts that create nothing
abbrev NoBirth : Touch → Type 0
NoBirth (Bear x size kind declared) = ⊥
NoBirth _ = Unit {0}

abbrev Creates_none : {V : Type 0} → Script V → Type 0
Creates_none (Give v) = Unit {0}
Creates_none (Raise c) = Unit {0}
Creates_none (Finish n) = Unit {0}
Creates_none (Exceed c n) = Unit {0}
Creates_none Misplace = Unit {0}
Creates_none (Do t k) = NoBirth t × ((a : Answer t) → Creates_none (k a))

none_then : {A B : Type 0} (s : Script A) (k : A → Script B) → Creates_none s → ((a : A) → Creates_none (k a)) → Creates_none (s >>= k)
none_then (Give v) k h g = g v
none_then (Raise c) k h g = tt
none_then (Finish n) k h g = tt
none_then (Exceed c n) k h g = tt
none_then Misplace k h g = tt
none_then (Do t f) k h g = (h.0, λ a. none_then (f a) k (h.1 a) g)

none_required : (b : Bool) (c : Clause) → Creates_none (require b c)
none_required true c = tt
none_required false c = tt

-- ---- they leave the count
left_counts : (t : Touch) (s : Store) → NoBirth t → (left t s).created ≡ s.created
left_counts (Ask x) s h = refl
left_counts (Get x a n) s h = refl
left_counts (Put x a bs) s h = refl
left_counts (Bear x size kind declared) s h = absurd h
left_counts (Bury x) s h = refl
left_counts (Show x) s h = refl
left_counts (Find a) s h = refl
left_counts (Settle id x c) s h = refl
left_counts Take s h = refl
left_counts (Print to bs) s h = refl

never_done : {V : Type 0} (t : Touch) (v : V) (is : List Item) (u : Store) → refused {V = V} t ≡ Done v is u → ⊥
never_done (Ask x) v is u e = cc
never_done (Get x a n) v is u e = cc
never_done (Put x a bs) v is u e = cc
never_done (Bear x size kind declared) v is u e = cc
never_done (Bury x) v is u e = cc
never_done (Show x) v is u e = cc
never_done (Find a) v is u e = cc
never_done (Settle id x c) v is u e = cc
never_done Take v is u e = cc
never_done (Print to bs) v is u e = cc

of_touched : {V : Type 0} (i : Item) (act : Act V) (v : V) (is : List Item) (u : Store) → touched i act ≡ Done v is u →
    (js : List Item) × (act ≡ Done v js u)
of_touched i (Done w js s) v is u e =
    let value : w ≡ v = cc in
    let end : s ≡ u = cc in
    (js, λ j. Done (value j) js (end j))
of_touched i (Raised c) v is u e = absurd (cc)
of_touched i (Ended n js s) v is u e = absurd (cc)
of_touched i (Outside c n) v is u e = absurd (cc)
of_touched i Unplaced v is u e = absurd (cc)

of_touch : {V : Type 0} (b : Bool) (t : Touch) (act : Act V) (v : V) (is : List Item) (u : Store) →
    (if b then refused t else touched (item_of t) act) ≡ Done v is u → (js : List Item) × (act ≡ Done v js u)
of_touch true t act v is u e = absurd (never_done t v is u e)
of_touch false t act v is u e = of_touched (item_of t) act v is u e

run_counts : {V : Type 0} (rows : List Row) (s : Script V) → Creates_none s → (v : V) (is : List Item) (st u : Store) → run rows s st ≡ Done v is u →
    u.created ≡ st.created
run_counts rows (Give w) h v is st u e = let end : st ≡ u = cc in ap (λ (z : Store). z.created) (sym end)
run_counts rows (Raise c) h v is st u e = absurd (cc)
run_counts rows (Finish n) h v is st u e = absurd (cc)
run_counts rows (Exceed c n) h v is st u e = absurd (cc)
run_counts rows Misplace h v is st u e = absurd (cc)
run_counts rows (Do t k) h v is st u e =
    let a = answer rows t st in
    let more = of_touch (refuses t st) t (run rows (k a) (left t st)) v is u e in
    run_counts rows (k a) (h.1 a) v more.0 (left t st) u more.1 ∙ left_counts t st h.0

-- ---- initializations
none_accessed : (rows : List Row) (len align a : ℕ) (x : ObjName) → Creates_none (access rows len align a (Whole x))
none_accessed rows len align a x =
    let g4 : Option Life → Unit {0} → Script Accessed = λ life u. Give (record { object = x; from = offset_in (row_of rows x) a; life = life }) in
    let g3 : Option Life → Unit {0} → Script Accessed = λ life u. require (is_aligned align a) InvalidPointer >>= g4 life in
    let g2 : Option Life → Unit {0} → Script Accessed = λ life u. require (in_row (row_of rows x) a len) OutOfBounds >>= g3 life in
    let g1 : Option Life → Script Accessed = λ life. require (is_live life) DeadObject >>= g2 life in
    let g0 : Unit {0} → Script Accessed = λ u. touch (Ask x) >>= g1 in
    let h1 : (life : Option Life) → Creates_none (g1 life) = λ life.
    none_then (require (is_live life) DeadObject) (g2 life) (none_required (is_live life) DeadObject) (λ u.
    none_then (require (in_row (row_of rows x) a len) OutOfBounds) (g3 life) (none_required (in_row (row_of rows x) a len) OutOfBounds) (λ v.
    none_then (require (is_aligned align a) InvalidPointer) (g4 life) (none_required (is_aligned align a) InvalidPointer) (λ w. tt))) in
    let h0 : (u : Unit {0}) → Creates_none (g0 u) = λ u. (tt, λ life. h1 life) in
    none_then (require (not (a == 0)) InvalidPointer) g0 (none_required (not (a == 0)) InvalidPointer) h0

none_stored : (rows : List Row) (a : ℕ) (x : ObjName) (bs : List TaggedByte) → Creates_none (store rows true bytes 1 a (Whole x) bs)
none_stored rows a x bs =
    let g : Accessed → Script (Unit {0}) = λ at. touch (Put at.object at.from (stored_from (declared_of at.life) bytes 0 bs)) in
    let h : (at : Accessed) → Creates_none (g at) = λ at. (tt, λ u. tt) in
    none_then (access rows (length bs) 1 a (Whole x)) g (none_accessed rows (length bs) 1 a x) h

none_filled : (rows : List Row) (x : ObjName) (fs : List Filling) → Creates_none (fill rows (place_of rows x) fs)
none_filled rows x [] = tt
none_filled rows x (f ∷ fs) =
    let at = address_after (place_of rows x).address f.offset in
    none_then (store rows true bytes 1 at (Whole x) (content_bytes rows f.content)) (λ u. fill rows (place_of rows x) fs)
    (none_stored rows at x (content_bytes rows f.content)) (λ u. none_filled rows x fs)

fills_count : (rows : List Row) (os : List Standing) (t u : Store) → FillsAll rows os t u → u.created ≡ t.created
fills_count rows [] t u e = ap (λ (z : Store). z.created) e
fills_count rows (o ∷ os) t u f =
    fills_count rows os f.0 u f.2 ∙ run_counts rows (fill rows (place_of rows o.name) o.fillings) (none_filled rows o.name o.fillings) _ f.1.0 t f.0 f.1.1

pub start_counts : StartCounts
start_counts rows os s t u creates fills =
    fills_count rows os t u fills ∙ (created_leaves rows os s t creates).0 ∙ sym (created_sum s.created os)
