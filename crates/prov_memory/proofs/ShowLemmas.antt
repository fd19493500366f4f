-- What a load exposes and settles, and its act where it succeeds.
use Rattle.std.proofs.Common.{
  ◌≡◌,
  ℕ,
  zero,
  suc,
  ◌+◌,
  ◌*◌,
  ◌-◌,
  ◌<◌,
  ◌≤◌,
  Bool,
  true,
  false,
  ◌&&◌,
  cond,
  refl,
  sym,
  ap,
  ap₂,
  ◌∙◌,
  subst,
  arith,
  append_assoc,
  length-append,
  ℤ,
  List,
  [],
  ◌∷◌,
  ◌++◌,
  length,
  map,
  slice_get,
  Option,
  Some,
  None,
}
use Rattle.std.specs.Prelude.{Result, Ok, Err, IfOk, OnOk, nat_lt, option_map, ◌==◌}
use Rattle.std.proofs.lemmas.List.{map-append, append-nil}
use Rattle.ub_base.specs.declared.clause.Clause.{Clause}
use Rattle.ub_base.specs.declared.clause.Clause.TheVariants.{EffectiveType, Indeterminate, TrapRepresentation}
use Rattle.ub_base.specs.declared.names.Item.{Item}
use Rattle.ub_base.specs.declared.names.Item.TheVariants.{Alive, Read, Expose}
use Rattle.ub_base.specs.declared.names.ObjName.{ObjName}
use Rattle.ub_base.specs.Names.{same_object}
use Rattle.addr_map.specs.declared.map.Row.{Row}
use Rattle.exposure.specs.declared.prov.Prov.{Prov}
use Rattle.exposure.specs.declared.prov.Prov.TheVariants.{Empty, Whole, Either}
use Rattle.c_types.specs.declared.kind.IntKind.{IntKind}
use Rattle.c_types.specs.Types.{CType, int, type_of}
use Rattle.c_types.specs.Shapes.{form_of}
use Rattle.mem_objects.specs.declared.cell.Cell.{Cell}
use Rattle.mem_objects.specs.declared.accessed.Accessed.{Accessed as Found}
use Rattle.mem_spec.specs.Agreement.{number_of_kind, bytes_of_kind}
use Rattle.mem_spec.specs.Store.{Store, Byte, unwritten, written, Life, TaggedByte, range_from}
use Rattle.mem_spec.specs.Script.{Script, Give, Act, Done, touched, run, ◌>>=◌, ◌>>◌}
use Rattle.mem_spec.specs.Acts.{
  Accessed,
  access,
  candidates,
  show_each,
  show_pieces,
  origins_in,
  all_written,
  number_of,
  suits_load,
  value_of,
  load_int,
  load_func,
}
use Rattle.mem_spec.specs.Streams.{Io}
use Rattle.mem_objects.specs.declared.cell.State.{State}
use Rattle.mem_objects.specs.declared.cell.State.TheVariants as states
use Rattle.mem_objects.specs.Cells.{cell_at, byte_in, byte_in_state, prov_numbered, tagged_in}
use Rattle.mem_objects.specs.Held.{Held, changed, uncovered}
use Rattle.mem_objects.specs.Memory.{Kept, HasCell, store_of, life_in, uncovered_each}
use Rattle.mem_objects.specs.Made.{Settling, CanSettle, after_settling, settling_items}
use Rattle.mem_objects.specs.Access.{CanSettleOf, IsReached, reached, bytes_in, range_in}
use Rattle.mem_objects.specs.Loads.{IsLoaded, number_checked, number_read, origins_of}
use Rattle.mem_objects.proofs.StoreLemmas.{shows_each}
use Rattle.mem_objects.proofs.AccessLemmas.{done_then}
use Rattle.mem_objects.proofs.WriteLemmas.{Makes, cells_settle}
use Rattle.prov_memory.proofs.LoadLemmas.{load_tail, life_at, range_is}

-- ---- what the pieces among the bytes were made from
range_more : (f : ℕ → TaggedByte) (from n : ℕ) → range_from f from (suc n) ≡ range_from f from n ++ f (from + n) ∷ []
range_more f from zero =
    let same : from ≡ from + 0 = omega arith in
    ap (λ (k : ℕ). f k ∷ []) same
range_more f from (suc n) =
    let same : suc from + n ≡ from + suc n = omega arith in
    ap (λ (bs : List TaggedByte). f from ∷ bs) (range_more f (suc from) n ∙ ap (λ (k : ℕ). range_from f (suc from) n ++ f k ∷ []) same)

origins_append : (bs cs : List TaggedByte) → origins_of (bs ++ cs) ≡ origins_of bs ++ origins_of cs
origins_append [] cs = refl
origins_append (b ∷ bs) cs = ap (λ (xs : List ObjName). origins_in b.byte ++ xs) (origins_append bs cs) ∙ sym
    (append_assoc (origins_in b.byte) (origins_of bs) (origins_of cs))

pub origins_next : (f : ℕ → TaggedByte) (from n : ℕ) → origins_of (range_from f from (n + 1)) ≡ origins_of (range_from f from n) ++
    origins_in (f (from + n)).byte
origins_next f from n =
    let count : n + 1 ≡ suc n = omega arith in
    ap (λ (k : ℕ). origins_of (range_from f from k)) count
    ∙ ap origins_of (range_more f from n)
    ∙ origins_append (range_from f from n) (f (from + n) ∷ [])
    ∙ ap (λ (xs : List ObjName). origins_of (range_from f from n) ++ xs) (append-nil (origins_in (f (from + n)).byte))

-- .. one byte before
pub origins_none_before : (f : ℕ → TaggedByte) (from n step at : ℕ) → step < n → at ≡ from + (n - (step + 1))
    → origins_of (range_from f (from + (n - step)) step) ≡ [] → origins_in (f at).byte ≡ []
    → origins_of (range_from f (from + (n - (step + 1))) (step + 1)) ≡ []
origins_none_before f from n step at lt place before here =
    let next : from + (n - step) ≡ suc at = omega arith in
    let rest : origins_of (range_from f (suc at) step) ≡ [] = subst (λ (k : ℕ). origins_of (range_from f k step) ≡ []) next before in
    let count : step + 1 ≡ suc step = omega arith in
    rw (← place, count, here) rest

candidates_few : (p : Prov) → length (candidates p) ≤ 2
candidates_few Empty = omega arith
candidates_few (Whole x) = omega arith
candidates_few (Either id past start) = omega arith

origins_few : (b : Byte) → length (origins_in b) ≤ 2
origins_few unwritten = omega arith
origins_few (written n None) = omega arith
origins_few (written n (Some piece)) = candidates_few piece.0

few_in : (f : ℕ → TaggedByte) (from n : ℕ) → length (origins_of (range_from f from n)) ≤ 2 * n
few_in f from zero = omega arith
few_in f from (suc n) = omega (
  arith,
  length-append (origins_in (f from).byte) (origins_of (range_from f (suc from) n)),
  origins_few (f from).byte,
  few_in f (suc from) n,
)

-- ---- objects become exposed one after the other
uncovered_append : (xs ys : List ObjName) (hs : List Held) → uncovered_each (xs ++ ys) hs ≡ uncovered_each ys (uncovered_each xs hs)
uncovered_append [] ys hs = refl
uncovered_append (x ∷ xs) ys hs = uncovered_append xs ys (changed uncovered x hs)

held_is : (a b : Held) → Some a ≡ Some b → a ≡ b
held_is a b h = cc

bytes_stay : (b : Bool) (h : Held) → (cond b (uncovered h) h).cells ≡ h.cells
bytes_stay true h = refl
bytes_stay false h = refl

-- the object at a place has the same bytes
abbrev pub StaysAt : List Held → ℕ → Held → Type 0
StaysAt hs k h = (g : Held) × (slice_get hs k ≡ Some g) × (g.cells ≡ h.cells)

stays_at : (x : ObjName) (hs : List Held) (k : ℕ) (h : Held) → slice_get hs k ≡ Some h → StaysAt (changed uncovered x hs) k h
stays_at x [] k h e = absurd (cc)
stays_at x (g ∷ hs) zero h e = (
  cond (same_object g.name x) (uncovered g) g,
  refl,
  bytes_stay (same_object g.name x) g ∙ ap (λ (k : Held). k.cells) (held_is g h e),
)
stays_at x (g ∷ hs) (suc k) h e = stays_at x hs k h e

pub stays_each : (xs : List ObjName) (hs : List Held) (k : ℕ) (h : Held) → slice_get hs k ≡ Some h → StaysAt (uncovered_each xs hs) k h
stays_each [] hs k h e = (h, e, refl)
stays_each (x ∷ xs) hs k h e =
    let a = stays_at x hs k h e in
    let b = stays_each xs (changed uncovered x hs) k a.0 a.1 in
    (b.0, b.1, b.2 ∙ a.2)

-- the memory with these objects exposed
abbrev pub showing : List ObjName → Kept → Kept
showing xs m = record m { objects = uncovered_each xs m.objects }

showing_append : (xs ys : List ObjName) (m : Kept) → showing (xs ++ ys) m ≡ showing ys (showing xs m)
showing_append xs ys m = ap (λ (hs : List Held). record m { objects = hs }) (uncovered_append xs ys m.objects)

-- ---- one byte more
pub piece_named : (ps : List Prov) (s : State) (c : Cell) → (p : Prov) × (candidates p ≡ origins_in (byte_in_state ps s c))
piece_named ps states.Unwritten c = (Empty, refl)
piece_named ps states.Plain c = (Empty, refl)
piece_named ps states.Piece c = (prov_numbered ps c.origin.number, refl)

pub piece_seen : (m now : Kept) (h : Held) (at from n : ℕ) (cell : Cell) (prov : Prov) → slice_get m.objects at ≡ Some h →
    now ≡ showing (origins_of (bytes_in m h from n)) m → ((g : Held) → slice_get now.objects at ≡ Some g → cell ≡ cell_at g.cells (from + n)) →
    candidates prov ≡ origins_in (byte_in now.origins cell) → candidates prov ≡ origins_in (byte_in m.origins (cell_at h.cells (from + n)))
piece_seen m now h at from n cell prov e is here named =
    let k = stays_each (origins_of (bytes_in m h from n)) m.objects at h e in
    let found : slice_get now.objects at ≡ Some k.0 = ap (λ (q : Kept). slice_get q.objects at) is ∙ k.1 in
    named
    ∙ ap₂ (λ (ps : List Prov) (c : Cell). origins_in (byte_in ps c)) (ap (λ (q : Kept). q.origins) is)
    (here k.0 found ∙ ap (λ (cs : List Cell). cell_at cs (from + n)) k.2)

pub shown_next : (m now new : Kept) (cs : List Cell) (from n : ℕ) (prov : Prov) → now ≡ showing (origins_of (range_in m cs from n)) m →
    candidates prov ≡ origins_in (byte_in m.origins (cell_at cs (from + n))) → new ≡ showing (candidates prov) now →
    new ≡ showing (origins_of (range_in m cs from (n + 1))) m
shown_next m now new cs from n prov is piece shown =
    let xs = origins_of (range_in m cs from n) in
    let ys = origins_in (byte_in m.origins (cell_at cs (from + n))) in
    shown
    ∙ ap₂ showing piece is
    ∙ sym (showing_append xs ys m)
    ∙ ap (λ (zs : List ObjName). showing zs m) (sym (origins_next (λ k. tagged_in m.origins (map type_of m.types) (cell_at cs k)) from n))

pub noted_next : (m : Kept) (cs : List Cell) (t now new : List Item) (from n : ℕ) (prov : Prov) → n < 8 → length t + 16 < 32 → now ≡ t ++
    map Expose (origins_of (range_in m cs from n)) → candidates prov ≡ origins_in (byte_in m.origins (cell_at cs (from + n))) →
    (length now + 1 < 32 → new ≡ now ++ map Expose (candidates prov)) → new ≡ t ++ map Expose (origins_of (range_in m cs from (n + 1)))
noted_next m cs t now new from n prov lt room is piece noted =
    let f = λ (k : ℕ). tagged_in m.origins (map type_of m.types) (cell_at cs k) in
    let xs = origins_of (range_in m cs from n) in
    let ys = origins_in (byte_in m.origins (cell_at cs (from + n))) in
    let few : length xs ≤ 2 * n = few_in f from n in
    let long : length now ≡ length t + length xs = ap length is ∙ length-append t (map Expose xs) ∙ ap (λ (k : ℕ). length t + k) (mapped xs) in
    noted (omega arith)
    ∙ ap₂ (λ (js : List Item) (zs : List ObjName). js ++ map Expose zs) is piece
    ∙ append_assoc t (map Expose xs) (map Expose ys)
    ∙ ap (λ (js : List Item). t ++ js) (sym (map-append Expose xs ys))
    ∙ ap (λ (zs : List ObjName). t ++ map Expose zs) (sym (origins_next f from n))
  where
    mapped : (xs : List ObjName) → length (map Expose xs) ≡ length xs
    mapped [] = refl
    mapped (x ∷ xs) = ap suc (mapped xs)

-- ---- the act
shows_pieces : (rows : List Row) (m : Kept) (bs : List TaggedByte) (io : Io) →
    run rows (show_pieces bs) (store_of m io) ≡ Done tt (map Expose (origins_of bs)) (store_of (showing (origins_of bs) m) io)
shows_pieces rows m [] io = refl
shows_pieces rows m (b ∷ bs) io =
    let xs = origins_in b.byte in
    let mid = showing xs m in
    done_then rows (show_each xs) (λ (v : Unit {0}). show_pieces bs) (store_of m io) (store_of mid io) (store_of (showing (origins_of bs) mid) io) tt tt
    (map Expose xs) (map Expose (origins_of bs)) (shows_each rows m xs io) (shows_pieces rows mid bs io)
    ∙ ap₂ (λ (js : List Item) (k : Kept). Done tt js (store_of k io)) (sym (map-append Expose xs (origins_of bs))) (sym (showing_append xs (origins_of bs) m))

pub shows_then : {V : Type 0} (rows : List Row) (m : Kept) (bs : List TaggedByte) (w : V) (io : Io) →
    run rows (show_pieces bs >> Give w) (store_of m io) ≡ Done w (map Expose (origins_of bs)) (store_of (showing (origins_of bs) m) io)
shows_then rows m bs w io =
    let end = store_of (showing (origins_of bs) m) io in
    done_then rows (show_pieces bs) (λ (v : Unit {0}). Give w) (store_of m io) end end tt w (map Expose (origins_of bs)) [] (shows_pieces rows m bs io) refl
    ∙ ap (λ (js : List Item). Done w js end) (append-nil (map Expose (origins_of bs)))

abbrev err_of : Clause → Result ℕ Clause
err_of c = Err c

abbrev ok_of : ℕ → Result ℕ Clause
ok_of n = Ok n

not_err : (n : ℕ) (c : Clause) → ok_of n ≡ err_of c → ⊥
not_err n c e = cc

ok_is : (a b : ℕ) → ok_of a ≡ ok_of b → a ≡ b
ok_is a b e = cc

tail_then_by : {V : Type 0} (t u v : Bool) (number : ℕ) (rows : List Row) (ty : CType) (is_bool : Bool) (rest : List TaggedByte → Script V) (n : ℕ)
    (x : ObjName) (from : ℕ) (life : Life) (s : Store) (bs : List TaggedByte) (end : Act V) → range_from (s.bytes x) from n ≡ bs →
    suits_load ty life.declared from bs ≡ t → all_written bs ≡ u → (is_bool && nat_lt 1 (number_of bs)) ≡ v →
    Ok number ≡ cond t (number_checked is_bool (cond u (Some (number_of bs)) None)) (Err EffectiveType) →
    (number_of bs ≡ number → run rows (rest bs) s ≡ end) →
    run rows (load_tail ty is_bool rest n (record { object = x; from = from; life = Some life })) s ≡ touched (Read x from n) end
tail_then_by false u v number rows ty is_bool rest n x from life s bs end g e f h is runs = absurd (not_err number EffectiveType is)
tail_then_by true false v number rows ty is_bool rest n x from life s bs end g e f h is runs = absurd (not_err number Indeterminate is)
tail_then_by true true true number rows ty is_bool rest n x from life s bs end g e f h is runs = absurd (not_err number TrapRepresentation (rw h at is))
tail_then_by true true false number rows ty is_bool rest n x from life s bs end g e f h is runs =
    let same : number_of bs ≡ number = sym (ok_is number (number_of bs) (rw h at is)) in
    rw (g, e, f, h) (ap (touched (Read x from n)) (runs same))

-- what a load reads of a memory
abbrev pub Reads : Kept → Found → CType → Bool → ℕ → ℕ → Type 0
Reads m f ty is_bool n number = (h : Held) → slice_get m.objects f.object ≡ Some h →
    Ok number ≡ number_read ty is_bool (option_map form_of h.declared) f.from (bytes_in m h f.from n)

-- the checks of a load hold, and what follows them runs on
pub tail_then : {V : Type 0} (m : Kept) (f : Found) (ty : CType) (is_bool : Bool) (rest : List TaggedByte → Script V) (n number : ℕ) (end : Act V) (io : Io)
    (r : IsReached m.objects f n) → Reads m f ty is_bool n number →
    (number_of (bytes_in m r.object f.from n) ≡ number → run m.rows (rest (bytes_in m r.object f.from n)) (after_settling f.settles (store_of m io)) ≡ end) →
    run m.rows (load_tail ty is_bool rest n (reached m.objects f)) (after_settling f.settles (store_of m io)) ≡ touched (Read f.name f.from n) end
tail_then m f ty is_bool rest n number end io r reads runs =
    let s = after_settling f.settles (store_of m io) in
    let bs = bytes_in m r.object f.from n in
    ap (λ (o : Option Held). run m.rows (load_tail ty is_bool rest n (record { object = f.name; from = f.from; life = life_in o })) s) r.held
    ∙ tail_then_by (suits_load ty (option_map form_of r.object.declared) f.from bs) (all_written bs) (is_bool && nat_lt 1 (number_of bs)) number m.rows ty
    is_bool rest n f.name f.from (life_at r.object) s bs end (range_is m io f.settles f.name r.object f.from n r.held) refl refl refl
    (reads r.object r.there) runs

-- the items of a load
abbrev pub LoadItems : Found → ℕ → List ObjName → List Item → Type 0
LoadItems f n xs items = items ≡ ((settling_items f.settles ++ Alive f.name ∷ []) ++ Read f.name f.from n ∷ []) ++ map Expose xs

abbrev pub number_tail : {V : Type 0} → CType → Bool → (ℕ → V) → ℕ → Accessed → Script V
number_tail ty is_bool g n = load_tail ty is_bool (λ bs. show_pieces bs >> Give (g (number_of bs))) n

pub number_loaded : {V : Type 0} (m new : Kept) (f : Found) (ty : CType) (is_bool : Bool) (g : ℕ → V) (n align a : ℕ) (prov : Prov) (number : ℕ)
    (items : List Item) → Makes m f n align a prov → (r : IsReached m.objects f n) → CanSettleOf m prov f.settles → Reads m f ty is_bool n number →
    IsLoaded m new (origins_of (bytes_in m r.object f.from n)) f.settles → LoadItems f n (origins_of (bytes_in m r.object f.from n)) items → HasCell m prov →
    (io : Io) → run m.rows (access m.rows n align a prov >>= number_tail ty is_bool g n) (store_of m io) ≡ Done (g number) items (store_of new io)
number_loaded {V} m new f ty is_bool g n align a prov number items makes r can reads loaded noted has io =
    let bs = bytes_in m r.object f.from n in
    let xs = origins_of bs in
    let s = after_settling f.settles (store_of m io) in
    let mid = record m { cells = new.cells } in
    let s_is : store_of mid io ≡ s = loaded.cells (can has) io in
    let new_is : new ≡ showing xs mid = ap (λ (k : Kept). record k { cells = new.cells }) loaded.rest in
    let first = settling_items f.settles ++ Alive f.name ∷ [] in
    let shown : number_of bs ≡ number → run m.rows (show_pieces bs >> Give (g (number_of bs))) s ≡ Done (g number) (map Expose xs) (store_of new io) = λ same.
    ap (λ (q : Store). run m.rows (show_pieces bs >> Give (g (number_of bs))) q) (sym s_is)
    ∙ shows_then m.rows mid bs (g (number_of bs)) io
    ∙ ap₂ (λ (k : ℕ) (q : Kept). Done (g k) (map Expose xs) (store_of q io)) same (sym new_is) in
    done_then m.rows (access m.rows n align a prov) (number_tail ty is_bool g n) (store_of m io) s (store_of new io) (reached m.objects f) (g number) first
    (Read f.name f.from n ∷ map Expose xs) (makes io)
    (tail_then m f ty is_bool (λ bs. show_pieces bs >> Give (g (number_of bs))) n number (Done (g number) (map Expose xs) (store_of new io)) io r reads
    shown)
    ∙ ap (λ (js : List Item). Done (g number) js (store_of new io)) (sym (append_assoc first (Read f.name f.from n ∷ []) (map Expose xs)) ∙ sym noted)

abbrev plain_number : ℕ → ℕ
plain_number k = k

pub func_loaded : (m new : Kept) (f : Found) (ty : CType) (a : ℕ) (prov : Prov) (number : ℕ) (items : List Item) → Makes m f 8 8 a prov →
    (r : IsReached m.objects f 8) → CanSettleOf m prov f.settles → Reads m f ty false 8 number →
    IsLoaded m new (origins_of (bytes_in m r.object f.from 8)) f.settles → LoadItems f 8 (origins_of (bytes_in m r.object f.from 8)) items → HasCell m prov →
    (io : Io) → run m.rows (load_func m.rows ty a prov) (store_of m io) ≡ Done number items (store_of new io)
func_loaded m new f ty a prov number items makes r can reads loaded noted has io =
    number_loaded m new f ty false plain_number 8 8 a prov number items makes r can reads loaded noted has io

abbrev int_of : List Row → IntKind → ℕ → Prov → ℕ → Script ℤ
int_of rows kind a prov n = access rows n n a prov >>= number_tail (int kind) (number_of_kind kind == 1) (value_of kind) n

pub int_loaded : (m new : Kept) (f : Found) (kind : IntKind) (is_bool : Bool) (a n : ℕ) (prov : Prov) (number : ℕ) (value : ℤ) (items : List Item) →
    n ≡ bytes_of_kind kind → is_bool ≡ (number_of_kind kind == 1) → value ≡ value_of kind number → Makes m f n n a prov →
    (r : IsReached m.objects f n) → CanSettleOf m prov f.settles → Reads m f (int kind) is_bool n number →
    IsLoaded m new (origins_of (bytes_in m r.object f.from n)) f.settles → LoadItems f n (origins_of (bytes_in m r.object f.from n)) items → HasCell m prov →
    (io : Io) → run m.rows (load_int m.rows kind a prov) (store_of m io) ≡ Done value items (store_of new io)
int_loaded m new f kind is_bool a n prov number value items size bool is makes r can reads loaded noted has io =
    ap (λ (k : ℕ). run m.rows (int_of m.rows kind a prov k) (store_of m io)) (sym size)
    ∙ number_loaded m new f (int kind) (number_of_kind kind == 1) (value_of kind) n n a prov number items makes r can
    (subst (λ (b : Bool). Reads m f (int kind) b n number) bool reads) loaded noted has io
    ∙ ap (λ (z : ℤ). Done z items (store_of new io)) (sym is)

-- ---- from what the steps of a load ensure
pub loaded_by : (old mid new : Kept) (xs : List ObjName) (settles : Settling) → mid ≡ showing xs old → record new { cells = [] } ≡ record mid { cells = [] } →
    (CanSettle mid.cells settles → (k : Kept) → k.cells ≡ mid.cells → (io : Io) →
    store_of (record k { cells = new.cells }) io ≡ after_settling settles (store_of k io)) → IsLoaded old new xs settles
loaded_by old mid new xs settles is rest store_is = record {
  rest = rest ∙ ap (λ (k : Kept). record k { cells = [] }) is;
  cells = cells_settle old mid new.cells (uncovered_each xs old.objects) settles is store_is;
}

pub load_noted : (t mid new : List Item) (i : Item) (js : List Item) → length t + 17 < 32 → (length t < 32 → mid ≡ t ++ i ∷ []) →
    (length mid + 16 < 32 → new ≡ mid ++ js) → new ≡ (t ++ i ∷ []) ++ js
load_noted t mid new i js room one more =
    let is : mid ≡ t ++ i ∷ [] = one (omega arith) in
    let long : length mid ≡ length t + 1 = ap length is ∙ length-append t (i ∷ []) in
    more (omega arith) ∙ ap (λ (l : List Item). l ++ js) is

pub two_at_most : (o : Settling) (x : ObjName) → length (settling_items o ++ Alive x ∷ []) ≤ 2
two_at_most None x = omega arith
two_at_most (Some p) x = omega arith

abbrev pub Loads : Kept → Kept → Found → ℕ → Type 0
Loads m new f n = (h : Held) → slice_get m.objects f.object ≡ Some h → IsLoaded m new (origins_of (bytes_in m h f.from n)) f.settles

abbrev pub Notes : Kept → Found → ℕ → List Item → List Item → Type 0
Notes m f n t items = (h : Held) → slice_get m.objects f.object ≡ Some h → length t + 17 < 32 → items ≡ (t ++ Read f.name f.from n ∷ []) ++
    map Expose (origins_of (bytes_in m h f.from n))

load_items : (m : Kept) (f : Found) (n : ℕ) (t items : List Item) (r : IsReached m.objects f n) → t ≡ settling_items f.settles ++ Alive f.name ∷ [] →
    Notes m f n t items → LoadItems f n (origins_of (bytes_in m r.object f.from n)) items
load_items m f n t items r first notes =
    let long : length t ≡ length (settling_items f.settles ++ Alive f.name ∷ []) = ap length first in
    let few = two_at_most f.settles f.name in
    notes r.object r.there (omega arith)
    ∙ ap (λ (js : List Item). (js ++ Read f.name f.from n ∷ []) ++ map Expose (origins_of (bytes_in m r.object f.from n))) first

func_all : (m new : Kept) (f : Found) (ty : CType) (a : ℕ) (prov : Prov) (number : ℕ) (t items : List Item) → Makes m f 8 8 a prov → IsReached m.objects f 8 →
    CanSettleOf m prov f.settles → t ≡ settling_items f.settles ++ Alive f.name ∷ [] → Reads m f ty false 8 number → Loads m new f 8 → Notes m f 8 t items →
    HasCell m prov → (io : Io) → run m.rows (load_func m.rows ty a prov) (store_of m io) ≡ Done number items (store_of new io)
func_all m new f ty a prov number t items makes r can first reads loads notes has io =
    func_loaded m new f ty a prov number items makes r can reads (loads r.object r.there) (load_items m f 8 t items r first notes) has io

pub func_exact : (r : Result ℕ Clause) (m acc new : Kept) (f : Found) (ty : CType) (a : ℕ) (prov : Prov) (t items : List Item) → acc ≡ m →
    Makes m f 8 8 a prov → IsReached m.objects f 8 → CanSettleOf m prov f.settles → t ≡ settling_items f.settles ++ Alive f.name ∷ [] →
    IfOk r (λ n. Reads acc f ty false 8 n) → OnOk r (Loads acc new f 8) → OnOk r (Notes acc f 8 t items) →
    IfOk r (λ n. HasCell m prov → (io : Io) → run m.rows (load_func m.rows ty a prov) (store_of m io) ≡ Done n items (store_of new io))
func_exact (Err c) m acc new f ty a prov t items same makes reached_it can first reads loads notes = tt
func_exact (Ok n) m acc new f ty a prov t items same makes reached_it can first reads loads notes =
    func_all m new f ty a prov n t items makes reached_it can first (subst (λ (k : Kept). Reads k f ty false 8 n) same reads)
    (subst (λ (k : Kept). Loads k new f 8) same loads) (subst (λ (k : Kept). Notes k f 8 t items) same notes)

int_all : (m new : Kept) (f : Found) (kind : IntKind) (is_bool : Bool) (a n : ℕ) (prov : Prov) (number : ℕ) (value : ℤ) (t items : List Item) →
    n ≡ bytes_of_kind kind → is_bool ≡ (number_of_kind kind == 1) → value ≡ value_of kind number → Makes m f n n a prov → IsReached m.objects f n →
    CanSettleOf m prov f.settles → t ≡ settling_items f.settles ++ Alive f.name ∷ [] → Reads m f (int kind) is_bool n number → Loads m new f n →
    Notes m f n t items → HasCell m prov → (io : Io) → run m.rows (load_int m.rows kind a prov) (store_of m io) ≡ Done value items (store_of new io)
int_all m new f kind is_bool a n prov number value t items size bool is makes r can first reads loads notes has io =
    int_loaded m new f kind is_bool a n prov number value items size bool is makes r can reads (loads r.object r.there)
    (load_items m f n t items r first notes) has io

pub int_exact : (m acc new : Kept) (f : Found) (given : CType) (kind : IntKind) (is_bool : Bool) (a n : ℕ) (prov : Prov) (number : ℕ) (value : ℤ)
    (t items : List Item) → acc ≡ m → given ≡ int kind → n ≡ bytes_of_kind kind → is_bool ≡ (number_of_kind kind == 1) → value ≡ value_of kind number →
    Makes m f n n a prov → IsReached m.objects f n → CanSettleOf m prov f.settles → t ≡ settling_items f.settles ++ Alive f.name ∷ [] →
    Reads acc f given is_bool n number → Loads acc new f n → Notes acc f n t items → HasCell m prov →
    (io : Io) → run m.rows (load_int m.rows kind a prov) (store_of m io) ≡ Done value items (store_of new io)
int_exact m acc new f given kind is_bool a n prov number value t items same named size bool is makes r can first reads loads notes =
    int_all m new f kind is_bool a n prov number value t items size bool is makes r can first
    (subst (λ (ty : CType). Reads m f ty is_bool n number) named (subst (λ (k : Kept). Reads k f given is_bool n number) same reads))
    (subst (λ (k : Kept). Loads k new f n) same loads) (subst (λ (k : Kept). Notes k f n t items) same notes)

-- ---- what a load or a store leaves as it was
abbrev pub Besides : Kept → Kept → Type 0
Besides old new = record new { objects = []; cells = [] } ≡ record old { objects = []; cells = [] }

pub besides_after : (old acc new : Kept) → acc ≡ old → Besides acc new → Besides old new
besides_after old acc new same rest = rest ∙ ap (λ (k : Kept). record k { objects = []; cells = [] }) same

pub besides_put : (old mid new : Kept) (hs : List Held) → mid ≡ record old { objects = hs } → record new { cells = [] } ≡ record mid { cells = [] } →
    Besides old new
besides_put old mid new hs put rest = ap (λ (k : Kept). record k { objects = [] }) rest ∙ ap (λ (k : Kept). record k { objects = []; cells = [] }) put

pub besides_looked : (old acc looked new : Kept) → acc ≡ old → record looked { cells = []; origins = [] } ≡ record acc { cells = []; origins = [] } →
    record new { cells = [] } ≡ record looked { cells = [] } → record new { origins = []; cells = [] } ≡ record old { origins = []; cells = [] }
besides_looked old acc looked new same more rest =
    ap (λ (k : Kept). record k { origins = [] }) rest ∙ more ∙ ap (λ (k : Kept). record k { origins = []; cells = [] }) same
