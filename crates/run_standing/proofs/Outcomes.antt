-- What the definitions do before the first pick raises no clause.
use Rattle.std.proofs.Common.{◌≡◌, ℕ, zero, suc, ◌+◌, ◌*◌, ◌<◌, ◌≤◌, ◌^◌, Bool, true, false, cond, refl, sym, ap, ◌∙◌, subst, arith, List, [], ◌∷◌, ◌++◌}
use Rattle.std.proofs.Common.{length, map, slice_get, Option, Some, None}
use Rattle.std.specs.Prelude.{is_some, nat_le, ◌==◌, ◌/◌}
use Rattle.std.specs.List.{All}
use Rattle.std.proofs.lemmas.Bool.Decides.{nat_tests}
use Rattle.std.proofs.lemmas.List.Elements.{All-head, All-tail}
use Rattle.ub_base.specs.declared.names.Item.{Item}
use Rattle.ub_base.specs.declared.names.Item.TheVariants as item
use Rattle.ub_base.specs.declared.names.ObjName.{ObjName}
use Rattle.ub_base.specs.declared.names.ObjName.TheVariants as names
use Rattle.ub_base.specs.Names.{same_object}
use Rattle.ub_base.proofs.NameLemmas.{same_object_refl}
use Rattle.addr_map.specs.declared.map.Row.{Row}
use Rattle.addr_map.specs.Rows.{row_of}
use Rattle.exposure.specs.declared.prov.Prov.{Prov}
use Rattle.exposure.specs.declared.prov.Prov.TheVariants.{Whole, Empty}
use Rattle.c_types.specs.declared.tags.Extent.{Extent}
use Rattle.c_types.specs.Layout.{extent, extents, size_in, size_of}
use Rattle.c_types.specs.Shapes.{Form}
use Rattle.c_types.specs.Types.{qualified_of}
use Rattle.c_typed.specs.Lawful.{There, IsLawful, StaticIsLawful, end_of, length_of}
use Rattle.c_typed.specs.declared.program.Constant.{Constant}
use Rattle.c_typed.specs.declared.program.Content.{Content as Held}
use Rattle.c_typed.specs.declared.program.Content.TheVariants as contents
use Rattle.c_typed.specs.declared.program.Program.{Program}
use Rattle.c_typed.specs.declared.program.Static.{Static}
use Rattle.c_typed.specs.declared.tree.Target.{Target}
use Rattle.c_typed.specs.declared.tree.Target.TheVariants as targets
use Rattle.mem_spec.specs.declared.kind.ObjKind.{ObjKind}
use Rattle.mem_spec.specs.Acts.{store, bytes, has_place, base_in, in_row, create}
use Rattle.mem_spec.specs.Bytes.{number_bytes, pointer_bytes}
use Rattle.mem_spec.specs.Script.{Script, Act, Done, Raised, Ended, Outside, Unplaced, run, touched, ◌>>◌}
use Rattle.mem_spec.specs.Store.{Store, Life, TaggedByte, is_live, born, with_bytes}
use Rattle.mem_objects.proofs.AccessLemmas.{before, after, run_bind}
use Rattle.c_model.specs.Nodes.{fill, content_bytes, plain_byte}
use Rattle.c_model.specs.Program.{Standing, Filling, Content, Zeros, Bytes, Object_at, Function_at, No_object}
use Rattle.c_model.specs.Runs.{stand_each, fill_each}
use Rattle.c_model.specs.Values.{Value, Nothing, Pointer, address_after, function_address}
use Rattle.c_model.specs.World.{World}
use Rattle.run_values.specs.Contents.{address_of, content_of, filled_by}
use Rattle.run_standing.specs.Outcomes.{IsDoneOrUnplaced, AreAddresses, StartIsDefined, IsThere, AreThere}
use Rattle.run_standing.specs.Standing.{CreatesAll, IsStatic, AreStatics, Stand, arguments, takes_arguments, given, kind_of, literals, place_of, pointers, text}
use Rattle.run_standing.specs.Standing.{vector}
use Rattle.run_objects.specs.Extents.{extent_or_byte}
use Rattle.run_standing.proofs.Clears.{does_store, untagged}
use Rattle.run_standing.proofs.Stands.{items_before}

-- ---- how many bytes a content has
abbrev pub content_length : Content → ℕ
content_length (Zeros n) = n
content_length (Bytes ns) = length ns
content_length (Object_at x offset) = 8
content_length (Function_at n) = 8
content_length No_object = 8

number_length : (k n : ℕ) → length (number_bytes k n) ≡ k
number_length zero n = refl
number_length (suc k) n = ap suc (number_length k (n / 256))

pub pointer_length : (k i : ℕ) (p : Prov) (n : ℕ) → length (pointer_bytes k i p n) ≡ k
pointer_length zero i p n = refl
pointer_length (suc k) i p n = ap suc (pointer_length k (suc i) p (n / 256))

plain_length : (ns : List ℕ) → length (map plain_byte ns) ≡ length ns
plain_length [] = refl
plain_length (n ∷ ns) = ap suc (plain_length ns)

pub content_bytes_length : (rows : List Row) (c : Content) → length (content_bytes rows c) ≡ content_length c
content_bytes_length rows (Zeros n) = number_length n 0
content_bytes_length rows (Bytes ns) = plain_length ns
content_bytes_length rows (Object_at x offset) = pointer_length 8 0 (Whole x) (address_after (base_in (row_of rows x)) offset)
content_bytes_length rows (Function_at n) = number_length 8 (function_address n)
content_bytes_length rows No_object = pointer_length 8 0 Empty 0

-- ---- fillings that lie in an object of this size
abbrev pub FillingsFit : ℕ → List Filling → Type 0
FillingsFit size [] = Unit {0}
FillingsFit size (c ∷ cs) = (c.offset + content_length c.content ≤ size) × FillingsFit size cs

abbrev pub AllFit : List Standing → Type 0
AllFit [] = Unit {0}
AllFit (o ∷ os) = FillingsFit o.decl.size o.fillings × AllFit os

all_fit : (os ps : List Standing) → AllFit os → AllFit ps → AllFit (os ++ ps)
all_fit [] ps first then = then
all_fit (o ∷ os) ps first then = (first.0, all_fit os ps first.1 then)

target_length : (target : Target) (offset : ℕ) → content_length (address_of target offset) ≡ 8
target_length (targets.Static k) offset = refl
target_length (targets.Literal k) offset = refl
target_length (targets.Function k) offset = refl

constant_length : (content : Held) → content_length (content_of content) ≡ length_of content
constant_length (contents.Zeros n) = refl
constant_length (contents.Bytes bs) = refl
constant_length (contents.Address target offset) = target_length target offset

pub constants_fit : (size : ℕ) (cs : List Constant) → All (λ c. end_of c ≤ size) cs → FillingsFit size (map filled_by cs)
constants_fit size [] inside = tt
constants_fit size (c ∷ cs) inside =
    let within : end_of c ≤ size = All-head (λ (d : Constant). end_of d ≤ size) c cs inside in
    (omega (arith, within, constant_length c.content), constants_fit size cs (All-tail (λ (d : Constant). end_of d ≤ size) c cs inside))

pub same_size : (o : Option Extent) → There o (λ e. 0 < e.size) → size_in o ≡ (extent_or_byte o).size
same_size None sized = absurd sized
same_size (Some e) sized = refl

-- an object with static storage: the zeros, and its constants
pub static_fits : (p : Program) (k : ℕ) (s : Static) (o : Standing) → StaticIsLawful p s → IsStatic p.tags k s o → FillingsFit o.decl.size o.fillings
static_fits p k s o lawful is =
    let size : size_of p.tags (qualified_of s.qual).ty ≡ o.decl.size =
    same_size (extent (extents p.tags) (qualified_of s.qual).ty) lawful.sized ∙ sym is.size in
    subst (λ (fs : List Filling). FillingsFit o.decl.size fs) (sym is.fillings) (
      omega arith,
      subst (λ (n : ℕ). FillingsFit n (map filled_by s.constants)) size
          (constants_fit (size_of p.tags (qualified_of s.qual).ty) s.constants lawful.fits.inside),
    )

statics_fit : (p : Program) (k : ℕ) (ss : List Static) (os : List Standing) → All (StaticIsLawful p) ss → AreStatics p.tags k ss os → AllFit os
statics_fit p k [] [] lawful are = tt
statics_fit p k [] (o ∷ os) lawful are = absurd are
statics_fit p k (s ∷ ss) [] lawful are = absurd are
statics_fit p k (s ∷ ss) (o ∷ os) lawful are =
    (static_fits p k s o (All-head (StaticIsLawful p) s ss lawful) are.0, statics_fit p (suc k) ss os (All-tail (StaticIsLawful p) s ss lawful) are.1)

text_fits : (x : ObjName) (literal : Bool) (bs : List ℕ) → FillingsFit (length bs) (text x literal bs).fillings
text_fits x literal bs = (omega arith, tt)

literals_fit : (k : ℕ) (texts : List (List ℕ)) → AllFit (literals k texts)
literals_fit k [] = tt
literals_fit k (bs ∷ rest) = (text_fits (names.Lit k) true bs, literals_fit (suc k) rest)

arguments_fit : (k : ℕ) (words : List (List ℕ)) → AllFit (arguments k words)
arguments_fit k [] = tt
arguments_fit k (bs ∷ rest) = (text_fits (names.Arg k) false (bs ++ 0 ∷ []), arguments_fit (suc k) rest)

pointers_fit : (k at size : ℕ) (words : List (List ℕ)) → at + 8 * (length words + 1) ≤ size → FillingsFit size (pointers k at words)
pointers_fit k at size [] le = (omega (arith, le), tt)
pointers_fit k at size (bs ∷ rest) le = (omega (arith, le), pointers_fit (suc k) (at + 8) size rest (omega (arith, le)))

given_fit : (takes : Bool) (words : List (List ℕ)) → AllFit (given takes words)
given_fit false words = tt
given_fit true words =
    all_fit (arguments 0 words) (vector words ∷ []) (arguments_fit 0 words) (pointers_fit 0 0 (8 * (length words + 1)) words (omega arith), tt)

stand_fits : (p : Program) (args : List (List ℕ)) (os : List Standing) → IsLawful p → Stand p args os → AllFit os
stand_fits p args os lawful stand =
    let takes = takes_arguments (slice_get p.functions p.main) in
    let named = stand.statics ++ literals 0 p.literals in
    subst AllFit (sym stand.all) (all_fit named (given takes args)
    (all_fit stand.statics (literals 0 p.literals) (statics_fit p 0 p.statics stand.statics lawful.statics stand.each) (literals_fit 0 p.literals))
    (given_fit takes args))

-- ---- a store in an object that lives
pub store_does : (rows : List Row) (r : Row) (x : ObjName) (offset : ℕ) (bs : List TaggedByte) (s : Store) → row_of rows x ≡ Some r →
    is_live (s.life x) ≡ true → 0 < r.base → r.base + r.size ≤ 2 ^ 47 → offset + length bs ≤ r.size →
    (is : List Item) × (t : Store) × (run rows (store rows true bytes 1 (address_after r.base offset) (Whole x) bs) s ≡ Done tt is t)
    × ((y : ObjName) → t.life y ≡ s.life y)
store_does rows r x offset bs s named live begins ends fits =
    let a = address_after r.base offset in
    let at : a ≡ r.base + offset = omega (arith, ends, fits) in
    let somewhere : (a == 0) ≡ false = grind (arith, nat_tests, at, begins) in
    let low : nat_le r.base a ≡ true = grind (arith, nat_tests, at) in
    let high : nat_le (a + length bs) (r.base + r.size) ≡ true = grind (arith, nat_tests, at, fits) in
    let within : in_row (Some r) a (length bs) ≡ true = rw (low, high) refl in
    let inside : in_row (row_of rows x) a (length bs) ≡ true = ap (λ (o : Option Row). in_row o a (length bs)) named ∙ within in
    let t = with_bytes s x _ (map untagged bs) in
    let did = does_store rows a x bs s t (record { somewhere = somewhere; live = live; inside = inside; left = refl }) in
    (did.0, t, did.1, λ y. refl)

-- ---- .. an initialization of it
pub fill_does : (rows : List Row) (r : Row) (x : ObjName) (cs : List Filling) (s : Store) → row_of rows x ≡ Some r → is_live (s.life x) ≡ true →
    0 < r.base → r.base + r.size ≤ 2 ^ 47 → FillingsFit r.size cs →
    (is : List Item) × (t : Store) × (run rows (fill rows (record { address = r.base; prov = Whole x }) cs) s ≡ Done Nothing is t)
    × ((y : ObjName) → t.life y ≡ s.life y)
fill_does rows r x [] s named live begins ends fit = ([], s, refl, λ y. refl)
fill_does rows r x (c ∷ cs) s named live begins ends fit =
    let p : Pointer = record { address = r.base; prov = Whole x } in
    let bs = content_bytes rows c.content in
    let act = store rows true bytes 1 (address_after r.base c.offset) (Whole x) bs in
    let one = store_does rows r x c.offset bs s named live begins ends (omega (arith, fit.0, content_bytes_length rows c.content)) in
    let more = fill_does rows r x cs one.1 named (ap is_live (one.3 x) ∙ live) begins ends fit.1 in
    let rest = λ (u : Unit {0}). fill rows p cs in
    let first : run rows (fill rows p (c ∷ cs)) s ≡ before one.0 (run rows (fill rows p cs) one.1) =
    run_bind rows act rest s ∙ ap (after rows rest) one.2 in
    let then : before one.0 (run rows (fill rows p cs) one.1) ≡ Done Nothing (one.0 ++ more.0) more.1 =
    ap (before one.0) more.2 ∙ items_before one.0 more.0 Nothing more.1 in
    (one.0 ++ more.0, more.1, first ∙ then, λ y. more.3 y ∙ one.3 y)

-- the row of an object that has its place
pub row_placed : (o : Option Row) (size align : ℕ) → has_place o size align ≡ true → (r : Row) × (o ≡ Some r) × (r.size ≡ size)
row_placed None size align placed = absurd (cc)
row_placed (Some r) size align placed = (r, refl, grind (arith, nat_tests, placed))

pub still_there : (rows : List Row) (life more : ObjName → Option Life) (os : List Standing) → ((y : ObjName) → more y ≡ life y) → AreThere rows life os →
    AreThere rows more os
still_there rows life more [] same there = tt
still_there rows life more (o ∷ os) same there =
    (record { live = ap is_live (same o.name) ∙ there.0.live; placed = there.0.placed }, still_there rows life more os same there.1)

-- ---- items before an act leave it as it is
touched_ends : (i : Item) (a : Act Value) → IsDoneOrUnplaced a → IsDoneOrUnplaced (touched i a)
touched_ends i (Done v is t) ends = tt
touched_ends i (Raised c) ends = absurd ends
touched_ends i (Ended n is t) ends = absurd ends
touched_ends i (Outside c n) ends = absurd ends
touched_ends i Unplaced ends = tt

before_ends : (is : List Item) (a : Act Value) → IsDoneOrUnplaced a → IsDoneOrUnplaced (before is a)
before_ends [] a ends = ends
before_ends (i ∷ is) a ends = touched_ends i (before is a) (before_ends is a ends)

fills_end : (world : World) (os : List Standing) (s : Store) → AreAddresses world.rows → AllFit os → AreThere world.rows s.life os →
    IsDoneOrUnplaced (run world.rows (fill_each world os) s)
fills_end world [] s addresses fit there = tt
fills_end world (o ∷ os) s addresses fit there =
    let row = row_placed (row_of world.rows o.name) o.decl.size o.decl.align there.0.placed in
    let known = addresses o.name row.0 row.1 in
    let did = fill_does world.rows row.0 o.name o.fillings s row.1 there.0.live known.0 known.1
    (subst (λ (n : ℕ). FillingsFit n o.fillings) (sym row.2) fit.0) in
    let act = fill world.rows (place_of world.rows o.name) o.fillings in
    let base : base_in (row_of world.rows o.name) ≡ row.0.base = ap base_in row.1 in
    let filled : run world.rows act s ≡ Done Nothing did.0 did.1 =
    ap (λ (b : ℕ). run world.rows (fill world.rows (record { address = b; prov = Whole o.name }) o.fillings) s) base ∙ did.2 in
    let rest = fills_end world os did.1 addresses fit.1 (still_there world.rows s.life did.1.life os did.3 there.1) in
    subst IsDoneOrUnplaced
    (sym (run_bind world.rows act (λ (v : Value). fill_each world os) s ∙ ap (after world.rows (λ (v : Value). fill_each world os)) filled))
    (before_ends did.0 (run world.rows (fill_each world os) did.1) rest)

-- ---- a creation
abbrev LivesOn : Store → Store → Type 0
LivesOn s t = (y : ObjName) → is_live (s.life y) ≡ true → is_live (t.life y) ≡ true

lives_on : (b : Bool) (l m : Option Life) → is_live m ≡ true → is_live l ≡ true → is_live (cond b l m) ≡ true
lives_on true l m old new = new
lives_on false l m old new = old

born_lives : (s : Store) (x : ObjName) (size : ℕ) (kind : ObjKind) (form : Option Form) → LivesOn s (born s x size kind form)
born_lives s x size kind form y live = lives_on (same_object x y) (Some (record { live = true; kind = kind; declared = form })) (s.life y) live refl

born_live : (s : Store) (x : ObjName) (size : ℕ) (kind : ObjKind) (form : Option Form) → is_live ((born s x size kind form).life x) ≡ true
born_live s x size kind form =
    ap (λ (b : Bool). is_live (cond b (Some (record { live = true; kind = kind; declared = form })) (s.life x))) (same_object_refl x)

live_there : (rows : List Row) (s t : Store) (os : List Standing) → LivesOn s t → AreThere rows s.life os → AreThere rows t.life os
live_there rows s t [] on there = tt
live_there rows s t (o ∷ os) on there =
    (record { live = on o.name there.0.live; placed = there.0.placed }, live_there rows s t os on there.1)

abbrev bears : (has refuses : Bool) → List Row → Standing → Script Value → Store → Act Value
bears false refuses rows o rest s = Unplaced
bears true true rows o rest s = Unplaced
bears true false rows o rest s = touched (item.Born o.name) (run rows rest (born s o.name o.decl.size (kind_of o) o.decl.form))

creates_as : (has refuses : Bool) (rows : List Row) (o : Standing) (rest : Script Value) (s : Store) →
    has_place (row_of rows o.name) o.decl.size o.decl.align ≡ has → is_some (s.life o.name) ≡ refuses →
    run rows (create rows o.name o.decl.size o.decl.align (kind_of o) o.decl.form >> rest) s ≡ bears has refuses rows o rest s
creates_as false refuses rows o rest s h e = rw h refl
creates_as true true rows o rest s h e = rw (h, e) refl
creates_as true false rows o rest s h e = rw (h, e) refl

bears_end : (has refuses : Bool) (rows : List Row) (o : Standing) (rest : Script Value) (s : Store) →
    has_place (row_of rows o.name) o.decl.size o.decl.align ≡ has →
    ((t : Store) → LivesOn s t → IsThere rows t.life o → IsDoneOrUnplaced (run rows rest t)) → IsDoneOrUnplaced (bears has refuses rows o rest s)
bears_end false refuses rows o rest s h ends = tt
bears_end true true rows o rest s h ends = tt
bears_end true false rows o rest s h ends =
    let t = born s o.name o.decl.size (kind_of o) o.decl.form in
    touched_ends (item.Born o.name) (run rows rest t) (ends t (born_lives s o.name o.decl.size (kind_of o) o.decl.form)
    (record { live = born_live s o.name o.decl.size (kind_of o) o.decl.form; placed = h }))

creates_end : (rows : List Row) (o : Standing) (rest : Script Value) (s : Store) →
    ((t : Store) → LivesOn s t → IsThere rows t.life o → IsDoneOrUnplaced (run rows rest t)) →
    IsDoneOrUnplaced (run rows (create rows o.name o.decl.size o.decl.align (kind_of o) o.decl.form >> rest) s)
creates_end rows o rest s ends =
    let has = has_place (row_of rows o.name) o.decl.size o.decl.align in
    let refuses = is_some (s.life o.name) in
    subst IsDoneOrUnplaced (sym (creates_as has refuses rows o rest s refl refl)) (bears_end has refuses rows o rest s refl ends)

there_then : (rows : List Row) (life : ObjName → Option Life) (os ps : List Standing) → AreThere rows life os → AreThere rows life ps →
    AreThere rows life (os ++ ps)
there_then rows life [] ps first then = then
there_then rows life (o ∷ os) ps first then = (first.0, there_then rows life os ps first.1 then)

one_more : (done : List Standing) (o : Standing) (os : List Standing) → (done ++ o ∷ []) ++ os ≡ done ++ o ∷ os
one_more [] o os = refl
one_more (p ∷ done) o os = ap (λ (ps : List Standing). p ∷ ps) (one_more done o os)

nothing_more : (done : List Standing) → done ++ [] ≡ done
nothing_more [] = refl
nothing_more (p ∷ done) = ap (λ (ps : List Standing). p ∷ ps) (nothing_more done)

stands_end : (world : World) (done os all : List Standing) (s : Store) → AreAddresses world.rows → AllFit all → done ++ os ≡ all →
    AreThere world.rows s.life done → IsDoneOrUnplaced (run world.rows (stand_each world os (fill_each world all)) s)
stands_end world done [] all s addresses fit e there =
    fills_end world all s addresses fit (subst (λ (ps : List Standing). AreThere world.rows s.life ps) (sym (nothing_more done) ∙ e) there)
stands_end world done (o ∷ os) all s addresses fit e there =
    creates_end world.rows o (stand_each world os (fill_each world all)) s (λ t on one.
    stands_end world (done ++ o ∷ []) os all t addresses fit (one_more done o os ∙ e)
    (there_then world.rows t.life done (o ∷ []) (live_there world.rows s t done on there) (one, tt)))

pub start_is_defined : StartIsDefined
start_is_defined world p args os s lawful stand addresses =
    stands_end world [] os os s addresses (stand_fits p args os lawful stand) refl tt

-- ---- after creations that gave no clause, the objects are there
abbrev pub bears_one : (has refuses : Bool) → List Row → Standing → Store → Act ℕ
bears_one false refuses rows o s = Unplaced
bears_one true true rows o s = Unplaced
bears_one true false rows o s =
    Done (base_in (row_of rows o.name)) (item.Born o.name ∷ []) (born s o.name o.decl.size (kind_of o) o.decl.form)

pub creates_one : (has refuses : Bool) (rows : List Row) (o : Standing) (s : Store) → has_place (row_of rows o.name) o.decl.size o.decl.align ≡ has →
    is_some (s.life o.name) ≡ refuses →
    run rows (create rows o.name o.decl.size o.decl.align (kind_of o) o.decl.form) s ≡ bears_one has refuses rows o s
creates_one false refuses rows o s h e = rw h refl
creates_one true true rows o s h e = rw (h, e) refl
creates_one true false rows o s h e = rw (h, e) refl

abbrev pub store_in : Act ℕ → Store → Store
store_in (Done v is t) s = t
store_in _ s = s

one_there : (has refuses : Bool) (rows : List Row) (o : Standing) (base : ℕ) (is : List Item) (s t : Store) →
    has_place (row_of rows o.name) o.decl.size o.decl.align ≡ has → bears_one has refuses rows o s ≡ Done base is t →
    LivesOn s t × IsThere rows t.life o
one_there false refuses rows o base is s t h e = absurd (cc)
one_there true true rows o base is s t h e = absurd (cc)
one_there true false rows o base is s t h e =
    let left : born s o.name o.decl.size (kind_of o) o.decl.form ≡ t = ap (λ (d : Act ℕ). store_in d s) e in
    subst (λ (u : Store). LivesOn s u × IsThere rows u.life o) left (
      born_lives s o.name o.decl.size (kind_of o) o.decl.form,
      record { live = born_live s o.name o.decl.size (kind_of o) o.decl.form; placed = h },
    )

pub created_there : (rows : List Row) (os : List Standing) (s t : Store) → CreatesAll rows os s t → LivesOn s t × AreThere rows t.life os
created_there rows [] s t e = (subst (λ (u : Store). LivesOn s u) (sym e) (λ y live. live), tt)
created_there rows (o ∷ os) s t c =
    let did = c.1 in
    let one = one_there (has_place (row_of rows o.name) o.decl.size o.decl.align) (is_some (s.life o.name)) rows o did.0 did.1 s c.0 refl
    (sym (creates_one _ _ rows o s refl refl) ∙ did.2) in
    let more = created_there rows os c.0 t c.2 in (
      λ y live. more.0 y (one.0 y live),
      (record { live = more.0 o.name one.1.live; placed = one.1.placed }, more.1),
    )
