-- Objects with static storage that are filled: zeros, and then their constants.
use Rattle.std.proofs.Common.{◌≡◌, ℕ, zero, suc, ◌+◌, ◌<◌, refl, sym, ap, ◌∙◌, subst, arith, List, [], ◌∷◌, ◌++◌, length, map, take, drop, get_or, slice_get}
use Rattle.std.proofs.Common.{Some, true}
use Rattle.std.specs.List.{All}
use Rattle.ub_base.specs.declared.names.Item.{Item}
use Rattle.ub_base.specs.declared.names.ObjName.{ObjName}
use Rattle.ub_base.specs.declared.names.ObjName.TheVariants.{Static, Lit}
use Rattle.addr_map.specs.declared.map.Row.{Row}
use Rattle.addr_map.specs.Rows.{row_of}
use Rattle.exposure.specs.declared.prov.Prov.TheVariants.{Whole}
use Rattle.c_types.specs.declared.tags.Extent.{Extent}
use Rattle.c_types.specs.declared.tags.Tag.{Tag}
use Rattle.c_types.specs.Types.{qualified_of}
use Rattle.c_typed.specs.Lawful.{ContentIsLawful}
use Rattle.c_typed.specs.declared.tree.Target.{Target}
use Rattle.c_typed.specs.declared.tree.Target.TheVariants as targets
use Rattle.c_typed.specs.declared.program.Constant.{Constant}
use Rattle.c_typed.specs.declared.program.Content.{Content as Held}
use Rattle.c_typed.specs.declared.program.Content.TheVariants as contents
use Rattle.c_typed.specs.declared.program.Program.{Program}
use Rattle.c_typed.specs.declared.program.Static.{Static as Object}
use Rattle.mem_spec.specs.Acts.{store, bytes, base_in}
use Rattle.mem_spec.specs.Bytes.{number_bytes}
use Rattle.mem_spec.specs.Script.{Script, Done, run, ◌>>◌}
use Rattle.mem_spec.specs.Store.{TaggedByte}
use Rattle.mem_spec.specs.Streams.{Io}
use Rattle.mem_objects.specs.Keeps.{Keeps, RowsStay}
use Rattle.mem_objects.specs.Made.{AreNamed}
use Rattle.mem_objects.specs.Memory.{Kept, store_of}
use Rattle.mem_objects.specs.Pieces.{seen}
use Rattle.mem_objects.specs.Sound.{IsSound}
use Rattle.mem_objects.proofs.AccessLemmas.{before, after}
use Rattle.c_model.specs.Nodes.{fill, content_bytes}
use Rattle.c_model.specs.Program.{Filling as Filled, Standing, Zeros}
use Rattle.c_model.specs.Values.{Value, Nothing, Pointer as Place, address_after}
use Rattle.run_values.specs.declared.places.Places.{Places}
use Rattle.run_values.specs.declared.filling.Filling.{Filling}
use Rattle.run_values.specs.declared.values.Pointer.{Pointer}
use Rattle.run_values.specs.Contents.{Stands, IsPlaced, CanHold, CanHoldAll, address_of, content_of, filled_by}
use Rattle.run_values.specs.Fills.{AreFillings}
use Rattle.run_standing.specs.Standing.{IsStatic, AreStatics, place_of, AllFilled, StaticFilled, StaticsFilled}
use Rattle.run_objects.specs.Extents.{extent_of}
use Rattle.run_standing.specs.Starting.{Puts, EndsLow}
use Rattle.run_values.specs.Placed.{ArePlaced}
use Rattle.run_values.specs.Views.{pointer_at}
use Rattle.run_values.proofs.Fills.{Alike, before_twice, before_done, filling_at, none_left, first_of}
use Rattle.run_standing.proofs.Filled.{filled_behind, twice}
use Rattle.run_standing.proofs.Stands.{take_next, take_every}
use Rattle.run_values.proofs.Placed.{all_at, can_hold_all, placed_still}
use Rattle.run_standing.proofs.Starting.{stands_low}
use Rattle.run_standing.proofs.Starts.{put_at}
use Rattle.run_values.proofs.Placed.{named_still}

abbrev pub AreStill : Kept → List Filled → Type 0
AreStill m [] = Unit {0}
AreStill m (c ∷ cs) = ((rows : List Row) → RowsStay m.rows rows → content_bytes rows c.content ≡ content_bytes m.rows c.content) × AreStill m cs

target_still : (m : Kept) (places : Places) (target : Target) (offset : ℕ) → IsPlaced m places target → (rows : List Row) → RowsStay m.rows rows →
    content_bytes rows (address_of target offset) ≡ content_bytes m.rows (address_of target offset)
target_still m places (targets.Static k) offset placed rows stay = named_still m (Static k) offset placed.0 placed.2 rows stay
target_still m places (targets.Literal k) offset placed rows stay = named_still m (Lit k) offset placed.0 placed.2 rows stay
target_still m places (targets.Function k) offset placed rows stay = refl

content_still : (m : Kept) (places : Places) (content : Held) → CanHold m places content → (rows : List Row) → RowsStay m.rows rows →
    content_bytes rows (content_of content) ≡ content_bytes m.rows (content_of content)
content_still m places (contents.Zeros n) can rows stay = refl
content_still m places (contents.Bytes bs) can rows stay = refl
content_still m places (contents.Address target offset) can rows stay = target_still m places target offset can rows stay

constants_still : (m : Kept) (places : Places) (cs : List Constant) → CanHoldAll m places cs → AreStill m (map filled_by cs)
constants_still m places [] can = tt
constants_still m places (c ∷ cs) can = (content_still m places c.content can.0, constants_still m places cs can.1)

still_at : (m : Kept) (cs : List Filled) (i : ℕ) (c : Filled) (rest : List Filled) → AreStill m cs → drop i cs ≡ c ∷ rest → (rows : List Row) →
    RowsStay m.rows rows → content_bytes rows c.content ≡ content_bytes m.rows c.content
still_at m [] zero c rest still e rows stay = absurd (cc)
still_at m [] (suc i) c rest still e rows stay = absurd (cc)
still_at m (d ∷ cs) zero c rest still e rows stay =
    let same : d ≡ c = cc in
    subst (λ (x : Filled). content_bytes rows x.content ≡ content_bytes m.rows x.content) same (still.0 rows stay)
still_at m (d ∷ cs) (suc i) c rest still e rows stay = still_at m cs i c rest still.1 e rows stay

-- ---- the stores so far and those that are left, under all rows that stay
abbrev pub at_object : ObjName → ℕ → Place
at_object x a = record { address = a; prov = Whole x }

abbrev pub Reached : Kept → Kept → Place → List Filled → List Filled → Type 0
Reached old now p cs left = (rows : List Row) → RowsStay old.rows rows → (io : Io) →
    (is : List Item) × (run rows (fill rows p cs) (store_of old io) ≡ before is (run rows (fill rows p left) (store_of now io)))

pub reached_none : (m : Kept) (p : Place) (cs : List Filled) → Reached m m p cs cs
reached_none m p cs = λ rows stay io. ([], refl)

pub reached_next : (old now new : Kept) (x : ObjName) (a : ℕ) (cs left rest : List Filled) (c : Filled) (at : ℕ) (bs : List TaggedByte) →
    now.rows ≡ old.rows → left ≡ c ∷ rest → at ≡ c.offset → ((rows : List Row) → RowsStay old.rows rows → content_bytes rows c.content ≡ bs) →
    Puts now new x (address_after a at) bs → Reached old now (at_object x a) cs left → Reached old new (at_object x a) cs rest
reached_next old now new x a cs left rest c at bs same next offset content puts so_far = λ rows stay io.
    let p = at_object x a in
    let put = puts rows (subst (λ (rs : List Row). RowsStay rs rows) (sym same) stay) io in
    let first = so_far rows stay io in
    let s = store_of now io in
    let act = store rows true bytes 1 (address_after a c.offset) (Whole x) (content_bytes rows c.content) in
    let did : run rows act s ≡ Done tt put.0 (store_of new io) =
    ap (λ (n : ℕ). run rows (store rows true bytes 1 (address_after a n) (Whole x) (content_bytes rows c.content)) s) (sym offset)
    ∙ ap (λ (ds : List TaggedByte). run rows (store rows true bytes 1 (address_after a at) (Whole x) ds) s) (content rows stay) ∙ put.1 in (
      first.0 ++ put.0,
      first.1 ∙ ap (before first.0) (first_of rows p left c rest s next ∙ ap (after rows (λ (u : Unit {0}). fill rows p rest)) did)
          ∙ before_twice first.0 put.0 (run rows (fill rows p rest) (store_of new io)),
    )

pub reached_both : (old now new : Kept) (p : Place) (cs ds es : List Filled) → now.rows ≡ old.rows → Reached old now p cs ds → Reached now new p ds es →
    Reached old new p cs es
reached_both old now new p cs ds es same first second = λ rows stay io.
    let one = first rows stay io in
    let two = second rows (subst (λ (rs : List Row). RowsStay rs rows) (sym same) stay) io in (
      one.0 ++ two.0,
      one.1 ∙ ap (before one.0) two.1 ∙ before_twice one.0 two.0 (run rows (fill rows p es) (store_of new io)),
    )

pub filled_next : (old now new : Kept) (x : ObjName) (a : ℕ) (fs : List Filling) (cs : List Filled) (i : ℕ) (f : Filling) → AreFillings old fs cs →
    AreStill old cs → i < length fs → f ≡ get_or fs i f → Alike now old → Puts now new x (address_after a f.at) (seen now f.bytes.cells) →
    Reached old now (at_object x a) cs (drop i cs) → Reached old new (at_object x a) cs (drop (i + 1) cs)
filled_next old now new x a fs cs i f are still lt is alike puts so_far =
    let next = filling_at old fs cs i f are lt is in
    let same : now.rows ≡ old.rows = ap (λ (m : Kept). m.rows) alike in
    let held : seen now f.bytes.cells ≡ seen old f.bytes.cells = ap (λ (m : Kept). seen m f.bytes.cells) alike in
    reached_next old now new x a cs (drop i cs) (drop (i + 1) cs) next.first f.at (seen now f.bytes.cells) same next.rest next.is.at
    (λ rows stay. still_at old cs i next.first (drop (i + 1) cs) still next.rest rows stay ∙ sym next.is.bytes ∙ sym held) puts so_far

-- ---- the object where its row says
further : (a n : ℕ) → address_after a n ≡ address_after (address_after a 0) n
further a n = omega arith

pub fill_there : (rows : List Row) (x : ObjName) (a : ℕ) (cs : List Filled) → fill rows (at_object x a) cs ≡ fill rows (at_object x (address_after a 0)) cs
fill_there rows x a [] = refl
fill_there rows x a (c ∷ cs) =
    let e = further a c.offset in
    let rest = fill_there rows x a cs in
    λ i. store rows true bytes 1 (e i) (Whole x) (content_bytes rows c.content) >> rest i

-- an object that stands is filled at its row
pub stands_filled : (old new : Kept) (x : ObjName) (a b : ℕ) (cs : List Filled) → Stands old x a → b ≡ address_after a 0 →
    Reached old new (at_object x b) cs [] → (rows : List Row) → RowsStay old.rows rows → (io : Io) →
    (is : List Item) × (run rows (fill rows (place_of rows x) cs) (store_of old io) ≡ Done Nothing is (store_of new io))
stands_filled old new x a b cs stands e reached rows stay io =
    let base : base_in (row_of rows x) ≡ a = ap base_in (stay x stands.row stands.named) ∙ stands.at in
    let all = reached rows stay io in
    let s = store_of old io in
    let same : fill rows (place_of rows x) cs ≡ fill rows (at_object x b) cs =
    ap (λ (n : ℕ). fill rows (at_object x n) cs) base ∙ fill_there rows x a cs ∙ ap (λ (n : ℕ). fill rows (at_object x n) cs) (sym e) in
    (all.0, ap (λ (act : Script Value). run rows act s) same ∙ all.1 ∙ before_done all.0 Nothing (store_of new io))

-- ---- an object with static storage
abbrev zeros : ℕ → Filled
zeros n = record { offset = 0; content = Zeros n }

static_reached : (m0 m1 m2 : Kept) (x : ObjName) (a b n i : ℕ) (fs : List Filling) (cs : List Filled) → Alike m1 m0 → b ≡ address_after a 0 →
    Puts m0 m1 x b (number_bytes n 0) → AreFillings m1 fs cs → i ≡ length fs → Reached m1 m2 (at_object x b) cs (drop i cs) →
    Reached m0 m2 (at_object x b) (zeros n ∷ cs) []
static_reached m0 m1 m2 x a b n i fs cs alike e cleared are all puts =
    let same : m1.rows ≡ m0.rows = ap (λ (m : Kept). m.rows) alike in
    let there : b ≡ address_after b 0 = e ∙ sym (twice a) ∙ ap (λ (k : ℕ). address_after k 0) (sym e) in
    let first = reached_next m0 m0 m1 x b (zeros n ∷ cs) (zeros n ∷ cs) cs (zeros n) 0 (number_bytes n 0) refl refl refl (λ rows stay. refl)
    (put_at m0 m1 x b (address_after b 0) (number_bytes n 0) (number_bytes n 0) there refl cleared)
    (reached_none m0 (at_object x b) (zeros n ∷ cs)) in
    reached_both m0 m1 m2 (at_object x b) (zeros n ∷ cs) cs [] same first
    (subst (λ (left : List Filled). Reached m1 m2 (at_object x b) cs left) (none_left m1 fs cs i are all) puts)

static_is : (m0 m2 : Kept) (tags : List Tag) (k : ℕ) (s : Object) (a b n : ℕ) → m2.rows ≡ m0.rows → Stands m0 (Static k) a → b ≡ address_after a 0 →
    n ≡ (extent_of tags (qualified_of s.qual).ty).size → Reached m0 m2 (at_object (Static k) b) (zeros n ∷ map filled_by s.constants) [] →
    StaticFilled m0 m2 tags k s
static_is m0 m2 tags k s a b n same stands e size reached = λ o is rows stay io.
    let cs = map filled_by s.constants in
    let fillings : o.fillings ≡ zeros n ∷ cs = is.fillings ∙ ap (λ (j : ℕ). zeros j ∷ cs) (is.size ∙ sym size) in
    let did = stands_filled m0 m2 (Static k) a b (zeros n ∷ cs) stands e reached rows
    (subst (λ (rs : List Row). RowsStay rs rows) same stay) io in (
      did.0,
      ap (λ (x : ObjName). run rows (fill rows (place_of rows x) o.fillings) (store_of m0 io)) is.name
          ∙ ap (λ (fs : List Filled). run rows (fill rows (place_of rows (Static k)) fs) (store_of m0 io)) fillings ∙ did.1,
    )

pub static_filled : (m0 m1 m2 : Kept) (p : Program) (places : Places) (k j i : ℕ) (s : Object) (e : Extent) (whole : Pointer) (ds : List Constant)
    (fs gs : List Filling) → Alike m1 m0 → Alike m2 m1 → Keeps m0 m1 → IsSound m0 → ArePlaced m0 p places →
    All (λ c. ContentIsLawful p c.content) s.constants → j ≡ k → k < length p.statics → ds ≡ s.constants →
    e ≡ extent_of p.tags (qualified_of s.qual).ty →
    ((a : ℕ) → slice_get places.objects j ≡ Some a → pointer_at whole ≡ record { address = address_after a 0; prov = Whole (Static j) }) →
    ((x : ObjName) → whole.prov ≡ Whole x → EndsLow m0 x → Puts m0 m1 x whole.addr (number_bytes e.size 0)) →
    (AreNamed m1 → CanHoldAll m1 places ds → AreFillings m1 fs (map filled_by ds)) → gs ≡ fs → i ≡ length gs →
    ((x : ObjName) → whole.prov ≡ Whole x → (cs : List Filled) → AreFillings m1 gs cs → AreStill m1 cs →
    Reached m1 m2 (at_object x whole.addr) cs (drop i cs)) → StaticFilled m0 m2 p.tags k s
static_filled m0 m1 m2 p places k j i s e whole ds fs gs one two keeps sound placed lawful number lt same sized there cleared filled held all puts =
    subst (λ (n : ℕ). StaticFilled m0 m2 p.tags n s) number
    (let at = all_at m0 (λ n. Static n) 0 j places.objects j (omega arith) (omega (arith, placed.objects.count, lt, number)) placed.objects.stand in
    let here = there at.0 at.1 in
    let own : whole.prov ≡ Whole (Static j) = ap (λ (q : Place). q.prov) here in
    let address : whole.addr ≡ address_after at.0 0 = ap (λ (q : Place). q.address) here in
    let can = can_hold_all m1 p places s.constants (placed_still m0 m1 p places keeps placed) lawful in
    let cs = map filled_by s.constants in
    let are : AreFillings m1 gs cs = subst (λ (hs : List Filling). AreFillings m1 hs cs) (sym held)
    (subst (λ (xs : List Constant). AreFillings m1 fs (map filled_by xs)) same
    (filled (keeps.sound sound).named (subst (λ (xs : List Constant). CanHoldAll m1 places xs) (sym same) can))) in
    static_is m0 m2 p.tags j s at.0 whole.addr e.size (ap (λ (m : Kept). m.rows) two ∙ ap (λ (m : Kept). m.rows) one) at.2 address
    (ap (λ (x : Extent). x.size) sized)
    (static_reached m0 m1 m2 (Static j) at.0 whole.addr e.size i gs cs one address (cleared (Static j) own (stands_low m0 (Static j) at.0 at.2)) are all
    (puts (Static j) own cs are (constants_still m1 places s.constants can))))

-- ---- one after the other
pub static_at : (tags : List Tag) (k n i : ℕ) (xs : List Object) (os : List Standing) (s : Object) → n ≡ k + i → i < length xs → s ≡ get_or xs i s →
    AreStatics tags k xs os → (o : Standing) × (i < length os) × (o ≡ get_or os i o) × IsStatic tags n s o
static_at tags k n i [] [] s e lt is are = absurd (omega (arith, lt))
static_at tags k n i [] (o ∷ os) s e lt is are = absurd are
static_at tags k n i (x ∷ xs) [] s e lt is are = absurd are
static_at tags k n zero (x ∷ xs) (o ∷ os) s e lt is are =
    let here : k ≡ n = omega (arith, e) in
    (o, omega arith, refl, subst (λ (j : ℕ). IsStatic tags j s o) here (subst (λ (y : Object). IsStatic tags k y o) (sym is) are.0))
static_at tags k n (suc i) (x ∷ xs) (o ∷ os) s e lt is are =
    let there = static_at tags (suc k) n i xs os s (omega (arith, e)) (omega (arith, lt)) is are.1 in
    (there.0, omega (arith, there.1), there.2, there.3)

static_count : (tags : List Tag) (k : ℕ) (xs : List Object) (os : List Standing) → AreStatics tags k xs os → length os ≡ length xs
static_count tags k [] [] are = refl
static_count tags k [] (o ∷ os) are = absurd are
static_count tags k (x ∷ xs) [] are = absurd are
static_count tags k (x ∷ xs) (o ∷ os) are = ap suc (static_count tags (suc k) xs os are.1)

pub none_static_filled : (m : Kept) (os : List Standing) → AllFilled m m (take 0 os)
none_static_filled m [] = λ rows stay io. refl
none_static_filled m (o ∷ os) = λ rows stay io. refl

pub statics_filled : (old now new : Kept) (tags : List Tag) (xs : List Object) (i : ℕ) (s : Object) (os : List Standing) → Keeps now new →
    AreStatics tags 0 xs os → i < length xs → s ≡ get_or xs i s → StaticFilled now new tags i s → AllFilled old now (take i os) →
    AllFilled old new (take (i + 1) os)
statics_filled old now new tags xs i s os keeps are lt is filled all =
    let there = static_at tags 0 i i xs os s (omega arith) lt is are in
    let next : suc i ≡ i + 1 = omega arith in
    subst (λ (ps : List Standing). AllFilled old new ps) (sym (take_next os i there.0 there.1 there.2) ∙ ap (λ (j : ℕ). take j os) next)
    (filled_behind old now new (take i os) there.0 keeps all (filled there.0 there.3))

pub all_statics_filled : (old new : Kept) (tags : List Tag) (xs ys : List Object) (n : ℕ) → n ≡ length xs → xs ≡ ys →
    ((os : List Standing) → AreStatics tags 0 xs os → AllFilled old new (take n os)) → StaticsFilled old new tags ys
all_statics_filled old new tags xs ys n e same all =
    subst (λ (zs : List Object). StaticsFilled old new tags zs) same (λ os are.
    subst (λ (ps : List Standing). AllFilled old new ps) (take_every os n (e ∙ sym (static_count tags 0 xs os are))) (all os are))
