-- Each object that is filled is there, with room for its bytes.
use Rattle.std.proofs.Common.{◌≡◌, ℕ, zero, suc, ◌+◌, ◌*◌, ◌-◌, ◌<◌, ◌≤◌, ◌^◌, min, true, false, refl, sym, ap, ◌∙◌, subst, arith, List, [], ◌∷◌, ◌++◌}
use Rattle.std.proofs.Common.{length, map, get_or, slice_get, Some}
use Rattle.std.specs.Prelude.{Err}
use Rattle.ub_base.specs.declared.names.ObjName.{ObjName}
use Rattle.ub_base.specs.declared.names.ObjName.TheVariants as names
use Rattle.addr_map.specs.Sound.{Above}
use Rattle.exposure.specs.declared.prov.Prov.TheVariants.{Whole}
use Rattle.c_types.specs.declared.tags.Extent.{Extent}
use Rattle.c_types.specs.Layout.{extent, extents, size_of}
use Rattle.c_types.specs.Types.{qualified_of}
use Rattle.c_typed.specs.Lawful.{IsLawful, StaticIsLawful}
use Rattle.c_typed.specs.declared.program.Constant.{Constant}
use Rattle.c_typed.specs.declared.program.Program.{Program}
use Rattle.c_typed.specs.declared.program.Static.{Static as Object}
use Rattle.mem_objects.specs.declared.answer.CreateFault.{CreateFault}
use Rattle.mem_objects.specs.declared.answer.CreateFault.TheVariants as faults
use Rattle.mem_objects.specs.declared.cell.Cell.{Cell}
use Rattle.mem_objects.specs.declared.value.Value.{Value as Held}
use Rattle.mem_objects.specs.Keeps.{Keeps}
use Rattle.mem_objects.specs.Made.{AreNamed, IsMade}
use Rattle.mem_objects.specs.Memory.{Kept}
use Rattle.mem_objects.specs.Pieces.{IsMadeValue, seen, value_bytes}
use Rattle.mem_objects.specs.Sound.{IsSound}
use Rattle.prov_memory.proofs.KeepLemmas.{keeps_then}
use Rattle.c_model.specs.Program.{Standing}
use Rattle.c_model.specs.Values.{address_after, null, pointer_value, Pointer as Place}
use Rattle.run_standing.specs.declared.initial.Argument.{Argument}
use Rattle.run_values.specs.declared.places.Places.{Places}
use Rattle.run_values.specs.declared.filling.Filling.{Filling}
use Rattle.run_values.specs.declared.values.Pointer.{Pointer}
use Rattle.run_values.specs.Contents.{CanHoldAll, filled_by}
use Rattle.run_values.specs.Fills.{AreFillings}
use Rattle.run_standing.specs.Outcomes.{IsFilled, IsReady, LivesStay, WaitAll, Waits}
use Rattle.run_standing.specs.Standing.{AllCreated, AreArguments, AreStatics, arguments, IsStatic, literals, StandsThere, StaticsCreated, text, vector}
use Rattle.run_objects.specs.Extents.{extent_of}
use Rattle.run_values.specs.Placed.{AreAll, ArePlaced}
use Rattle.run_standing.specs.Starting.{AreMadeAll}
use Rattle.run_values.specs.Views.{pointer_at, value_in}
use Rattle.run_standing.proofs.Arguments.{argument_count, at_argument}
use Rattle.run_values.proofs.Fills.{Alike}
use Rattle.run_standing.proofs.Outcomes.{constants_fit, pointer_length, same_size}
use Rattle.run_standing.proofs.Begins.{arguments_still}
use Rattle.run_standing.proofs.Stands.{created_then}
use Rattle.run_standing.proofs.Ready.{AllWithin, created_wait, fillings_within, wait_first, wait_second, wait_still, ready_from, ready_still, seen_length}
use Rattle.run_standing.proofs.Ready.{wait_at, waits_still}
use Rattle.run_values.proofs.Placed.{all_at, can_hold_all, placed_still, stands_still}
use Rattle.run_standing.proofs.Starting.{made_at, made_still}
use Rattle.run_standing.proofs.Statics.{static_at}
use Rattle.run_standing.proofs.Vectors.{value_held}

-- ---- an object with static storage
pub static_ready : (m : Kept) (p : Program) (places : Places) (k j : ℕ) (s : Object) (e : Extent) (whole : Pointer) (o : Standing) →
    ArePlaced m p places → j ≡ k → k < length p.statics → e ≡ extent_of p.tags (qualified_of s.qual).ty →
    ((a : ℕ) → slice_get places.objects j ≡ Some a → pointer_at whole ≡ record { address = address_after a 0; prov = Whole (names.Static j) }) →
    Above 16777216 m.rows → IsStatic p.tags k s o → Waits m o → (whole.prov ≡ Whole (names.Static j)) × IsReady m (names.Static j) whole.addr e.size
static_ready m p places k j s e whole o placed number lt sized there above is waits =
    let at = all_at m (λ n. names.Static n) 0 j places.objects j (omega arith) (omega (arith, placed.objects.count, lt, number)) placed.objects.stand in
    let here = there at.0 at.1 in
    let size : o.decl.size ≡ e.size = is.size ∙ sym (ap (λ (x : Extent). x.size) sized) in
    let name : o.name ≡ names.Static j = is.name ∙ ap (λ (n : ℕ). names.Static n) (sym number) in (
      ap (λ (q : Place). q.prov) here,
      subst (λ (n : ℕ). IsReady m (names.Static j) whole.addr n) size
          (ready_from m (names.Static j) at.0 whole.addr o above at.2 name waits (ap (λ (q : Place). q.address) here)),
    )

pub static_within : (m0 m1 : Kept) (p : Program) (places : Places) (s : Object) (e : Extent) (ds : List Constant) (fs gs : List Filling) → Keeps m0 m1 →
    IsSound m0 → ArePlaced m0 p places → StaticIsLawful p s → ds ≡ s.constants → e ≡ extent_of p.tags (qualified_of s.qual).ty →
    (AreNamed m1 → CanHoldAll m1 places ds → AreFillings m1 fs (map filled_by ds)) → gs ≡ fs → AllWithin e.size gs
static_within m0 m1 p places s e ds fs gs keeps sound placed lawful same sized filled held =
    let cs = map filled_by s.constants in
    let can = can_hold_all m1 p places s.constants (placed_still m0 m1 p places keeps placed) lawful.contents in
    let are : AreFillings m1 gs cs = subst (λ (hs : List Filling). AreFillings m1 hs cs) (sym held)
    (subst (λ (xs : List Constant). AreFillings m1 fs (map filled_by xs)) same
    (filled (keeps.sound sound).named (subst (λ (xs : List Constant). CanHoldAll m1 places xs) (sym same) can))) in
    let size : size_of p.tags (qualified_of s.qual).ty ≡ e.size =
    same_size (extent (extents p.tags) (qualified_of s.qual).ty) lawful.sized ∙ sym (ap (λ (x : Extent). x.size) sized) in
    subst (λ (n : ℕ). AllWithin n gs) size (fillings_within m1 (size_of p.tags (qualified_of s.qual).ty) gs cs are
    (constants_fit (size_of p.tags (qualified_of s.qual).ty) s.constants lawful.fits.inside))

lawful_static : (p : Program) (xs : List Object) (i : ℕ) (s : Object) → xs ≡ p.statics → IsLawful p → i < length xs → s ≡ get_or xs i s → StaticIsLawful p s
lawful_static p xs i s e lawful lt is =
    subst (λ (x : Object). StaticIsLawful p x) (sym (subst (λ (ys : List Object). s ≡ get_or ys i s) e is))
    (lawful.statics i s (subst (λ (ys : List Object). i < length ys) e lt))

-- the one of a number among them
pub static_room : {R : Type 0} (old now : Kept) (p : Program) (places : Places) (xs : List Object) (i : ℕ) (s : Object) (os : List Standing) →
    Keeps old now → LivesStay old now → IsSound old → IsLawful p → ArePlaced old p places → Above 16777216 old.rows → xs ≡ p.statics → i < length xs →
    s ≡ get_or xs i s → AreStatics p.tags 0 p.statics os → WaitAll old os →
    (IsSound now → ArePlaced now p places → StaticIsLawful p s → i < length p.statics → length p.statics < 2 ^ 32 → Above 16777216 now.rows →
    (o : Standing) → IsStatic p.tags i s o → Waits now o → R) → R
static_room old now p places xs i s os keeps lives sound lawful placed above same lt is are wait room =
    let within : i < length p.statics = subst (λ (ys : List Object). i < length ys) same lt in
    let here = static_at p.tags 0 i i p.statics os s (omega arith) within (subst (λ (ys : List Object). s ≡ get_or ys i s) same is) are in
    room (keeps.sound sound) (placed_still old now p places keeps placed) (lawful_static p xs i s same lawful lt is) within lawful.numbered.statics
    (keeps.high above) here.0 here.3 (waits_still old now here.0 keeps lives (wait_at old os i here.0 here.1 here.2 wait))

-- ---- a text
wait_literal : (m : Kept) (k i n : ℕ) (xs : List (List ℕ)) (b : List ℕ) → n ≡ k + i → i < length xs → b ≡ get_or xs i b → WaitAll m (literals k xs) →
    Waits m (text (names.Lit n) true b)
wait_literal m k i n [] b e lt is wait = absurd (omega (arith, lt))
wait_literal m k zero n (x ∷ xs) b e lt is wait =
    let here : k ≡ n = omega (arith, e) in
    subst (λ (j : ℕ). Waits m (text (names.Lit j) true b)) here (subst (λ (c : List ℕ). Waits m (text (names.Lit k) true c)) (sym is) wait.0)
wait_literal m k (suc i) n (x ∷ xs) b e lt is wait = wait_literal m (suc k) i n xs b (omega (arith, e)) (omega (arith, lt)) is wait.1

pub literal_room : {R : Type 0} (old now : Kept) (xs ys : List (List ℕ)) (addresses : List ℕ) (i n : ℕ) (b bs : List ℕ) (p : Pointer) → Keeps old now →
    LivesStay old now → AreAll old (λ k. names.Lit k) addresses (length ys) → xs ≡ ys → n ≡ i → i < length xs → b ≡ get_or xs i b → bs ≡ b →
    ((a : ℕ) → slice_get addresses n ≡ Some a → pointer_at p ≡ record { address = address_after a 0; prov = Whole (names.Lit n) }) →
    Above 16777216 old.rows → WaitAll old (literals 0 ys) → ((x : ObjName) → p.prov ≡ Whole x → IsReady now x p.addr (length bs) → R) → R
literal_room old now xs ys addresses i n b bs p keeps lives are all e lt is same there above wait room =
    let within : i < length ys = omega (arith, lt, ap length all) in
    let stands = all_at old (λ k. names.Lit k) 0 n addresses n (omega arith) (omega (arith, are.count, within, e)) are.stand in
    let at = there stands.0 stands.1 in
    let word : b ≡ get_or ys i b = subst (λ (zs : List (List ℕ)). b ≡ get_or zs i b) all is in
    let waits = wait_literal old 0 i n ys b (omega (arith, e)) within word wait in
    room (names.Lit n) (ap (λ (q : Place). q.prov) at) (subst (λ (k : ℕ). IsReady now (names.Lit n) p.addr k) (ap length (sym same))
    (ready_from now (names.Lit n) stands.0 p.addr (text (names.Lit n) true b) (keeps.high above)
    (stands_still old now (names.Lit n) stands.0 keeps stands.2) refl (waits_still old now (text (names.Lit n) true b) keeps lives waits)
    (ap (λ (q : Place). q.address) at)))

wait_argument : (m : Kept) (k i n : ℕ) (words : List (List ℕ)) (b : List ℕ) → n ≡ k + i → i < length words → b ≡ get_or words i b →
    WaitAll m (arguments k words) → Waits m (text (names.Arg n) false (b ++ 0 ∷ []))
wait_argument m k i n [] b e lt is wait = absurd (omega (arith, lt))
wait_argument m k zero n (w ∷ words) b e lt is wait =
    let here : k ≡ n = omega (arith, e) in
    subst (λ (j : ℕ). Waits m (text (names.Arg j) false (b ++ 0 ∷ []))) here
    (subst (λ (c : List ℕ). Waits m (text (names.Arg k) false (c ++ 0 ∷ []))) (sym is) wait.0)
wait_argument m k (suc i) n (w ∷ words) b e lt is wait = wait_argument m (suc k) i n words b (omega (arith, e)) (omega (arith, lt)) is wait.1

pub argument_room : {R : Type 0} (old now : Kept) (words : List (List ℕ)) (xs : List Argument) (i : ℕ) (a : Argument) (bs : List ℕ) → Keeps old now →
    LivesStay old now → Above 16777216 old.rows → AreArguments old 0 words xs → i < length xs → a ≡ get_or xs i a → bs ≡ a.text →
    WaitAll old (arguments 0 words) → ((x : ObjName) → a.place.prov ≡ Whole x → IsReady now x a.place.addr (length bs) → R) → R
argument_room old now words xs i a bs keeps lives above are lt is same wait room =
    let there = at_argument old 0 i i words xs a (omega arith) lt is are in
    let one = there.3 in
    let waits = wait_argument old 0 i i words there.0 (omega arith) there.1 there.2 wait in
    let o = text (names.Arg i) false (there.0 ++ 0 ∷ []) in
    let held : bs ≡ there.0 ++ 0 ∷ [] = same ∙ one.text in
    room (names.Arg i) (ap (λ (q : Place). q.prov) one.at) (subst (λ (k : ℕ). IsReady now (names.Arg i) a.place.addr k) (ap length (sym held))
    (ready_from now (names.Arg i) one.base a.place.addr o (keeps.high above) (stands_still old now (names.Arg i) one.base keeps one.stands) refl
    (waits_still old now o keeps lives waits) (ap (λ (q : Place). q.address) one.at)))

-- ---- the pointers to the arguments
vector_room : {R : Type 0} (old now : Kept) (p : Pointer) (words : List (List ℕ)) (at : ℕ) (cells : List Cell) → LivesStay old now → Alike now old →
    StandsThere old names.Argv p → Above 16777216 old.rows → Waits old (vector words) → length cells ≡ 8 → at + 8 ≤ 8 * (length words + 1) →
    ((x : ObjName) (size : ℕ) → p.prov ≡ Whole x → IsReady now x p.addr size → at + length cells ≤ size → R) → R
vector_room old now p words at cells lives alike stands above waits len fits room =
    let ready = ready_from old names.Argv stands.0 p.addr (vector words) above stands.2 refl waits (ap (λ (q : Place). q.address) stands.1) in
    room names.Argv (8 * (length words + 1)) (ap (λ (q : Place). q.prov) stands.1)
    (ready_still old now names.Argv p.addr (8 * (length words + 1)) (ap (λ (m : Kept). m.rows) alike) lives ready) (omega (arith, len, fits))

eight : (now : Kept) (v : Held) (p : Place) (cells : List Cell) → IsSound now → value_in now v ≡ pointer_value p → IsMade now p.prov →
    (AreNamed now → IsMadeValue now v → seen now cells ≡ value_bytes now 8 v) → length cells ≡ 8
eight now v p cells sound e made filled =
    sym (seen_length now cells) ∙ ap length (value_held now v p cells sound e made filled) ∙ pointer_length 8 0 p.prov p.address

pub pointer_room : {R : Type 0} (old now : Kept) (p : Pointer) (words : List (List ℕ)) (args : List Argument) (i at : ℕ) (g : Argument) (v : Held)
    (cells : List Cell) → IsSound old → Keeps old now → AreMadeAll old args → i < length args → g ≡ get_or args i g → at ≡ min (8 * i) (2 ^ 64 - 1) →
    value_in now v ≡ pointer_value (pointer_at g.place) → (AreNamed now → IsMadeValue now v → seen now cells ≡ value_bytes now 8 v) →
    LivesStay old now → Alike now old → StandsThere old names.Argv p → Above 16777216 old.rows → AreArguments old 0 words args →
    Waits old (vector words) → ((x : ObjName) (size : ℕ) → p.prov ≡ Whole x → IsReady now x p.addr size → at + length cells ≤ size → R) → R
pointer_room old now p words args i at g v cells sound keeps made lt is offset e filled lives alike stands above are waits room =
    let len = eight now v (pointer_at g.place) cells (keeps.sound sound) e (keeps.made g.place.prov (made_at old args i g lt is made)) filled in
    vector_room old now p words at cells lives alike stands above waits len (omega (arith, offset, lt, argument_count old 0 words args are)) room

pub null_room : {R : Type 0} (old now : Kept) (p q : Pointer) (words : List (List ℕ)) (args : List Argument) (i at : ℕ) (v : Held) (cells : List Cell) →
    IsSound old → Keeps old now → i ≡ length args → at ≡ min (8 * i) (2 ^ 64 - 1) → pointer_at q ≡ null →
    value_in now v ≡ pointer_value (pointer_at q) → (AreNamed now → IsMadeValue now v → seen now cells ≡ value_bytes now 8 v) →
    LivesStay old now → Alike now old → StandsThere old names.Argv p → Above 16777216 old.rows → AreArguments old 0 words args →
    Waits old (vector words) → ((x : ObjName) (size : ℕ) → p.prov ≡ Whole x → IsReady now x p.addr size → at + length cells ≤ size → R) → R
null_room old now p q words args i at v cells sound keeps all offset none e filled lives alike stands above are waits room =
    let len = eight now v null cells (keeps.sound sound) (e ∙ ap pointer_value none) tt filled in
    vector_room old now p words at cells lives alike stands above waits len (omega (arith, offset, all, argument_count old 0 words args are)) room

-- ---- the objects that were created wait to be filled
pub record Waiting (m : Kept) (p : Program) (words : List (List ℕ)) : Type 0 where
  pub statics : List Standing
  pub are : AreStatics p.tags 0 p.statics statics
  pub named : WaitAll m (statics ++ literals 0 p.literals)
  pub strings : WaitAll m (arguments 0 words)
  pub pointers : Waits m (vector words)

pub all_wait : (m0 m1 m2 m3 m4 : Kept) (p : Program) (words : List (List ℕ)) → Keeps m1 m2 → Keeps m2 m3 → Keeps m3 m4 →
    StaticsCreated m0 m1 p.tags p.statics → AllCreated m1 m2 (literals 0 p.literals) → AllCreated m2 m3 (arguments 0 words) →
    AllCreated m3 m4 (vector words ∷ []) → Waiting m4 p words
all_wait m0 m1 m2 m3 m4 p words k2 k3 k4 statics texts strings pointers =
    let first = statics.0 ++ literals 0 p.literals in
    let second = arguments 0 words ++ vector words ∷ [] in
    let created : AllCreated m0 m4 (first ++ second) = created_then m0 m2 m4 first second (keeps_then m2 m3 m4 k3 k4)
    (created_then m0 m1 m2 statics.0 (literals 0 p.literals) k2 statics.2 texts)
    (created_then m2 m3 m4 (arguments 0 words) (vector words ∷ []) k4 strings pointers) in
    let wait = created_wait m0 m4 (first ++ second) created in
    let given = wait_second m4 first second wait in
    record {
      statics = statics.0;
      are = statics.1;
      named = wait_first m4 first second wait;
      strings = wait_first m4 (arguments 0 words) (vector words ∷ []) given;
      pointers = (wait_second m4 (arguments 0 words) (vector words ∷ []) given).0;
    }

-- .. where `main` takes no arguments
pub named_wait : (m0 m1 m2 : Kept) (p : Program) → Keeps m1 m2 → (all : StaticsCreated m0 m1 p.tags p.statics) → AllCreated m1 m2 (literals 0 p.literals) →
    WaitAll m2 (all.0 ++ literals 0 p.literals)
named_wait m0 m1 m2 p keeps all texts =
    created_wait m0 m2 (all.0 ++ literals 0 p.literals) (created_then m0 m1 m2 all.0 (literals 0 p.literals) keeps all.2 texts)

-- ---- so no initialization is refused
pub never : {A : Type 0} (old new : Kept) (fault : CreateFault) → fault ≡ faults.Unplaced → IsFilled old new (Err fault) → A
never old new fault e filled = absurd (subst (λ (g : CreateFault). IsFilled old new (Err g)) e filled)

pub strings_live : (made m4 m5 m6 : Kept) (p : Program) (words : List (List ℕ)) (xs ys : List Argument) → Above 16777216 m5.rows → Keeps made m5 →
    Keeps m4 m5 → LivesStay m4 m5 → Waiting m4 p words → ys ≡ xs → AreArguments made 0 words xs →
    (Above 16777216 m5.rows → (ws : List (List ℕ)) → AreArguments m5 0 ws ys → WaitAll m5 (arguments 0 ws) → LivesStay m5 m6) → LivesStay m5 m6
strings_live made m4 m5 m6 p words xs ys above keeps k5 lives waiting same are room =
    room above words (subst (λ (zs : List Argument). AreArguments m5 0 words zs) (sym same) (arguments_still made m5 0 words xs keeps are))
    (wait_still m4 m5 (arguments 0 words) k5 lives waiting.strings)

pub strings_never : {A : Type 0} (made m4 m5 m6 : Kept) (p : Program) (words : List (List ℕ)) (xs ys : List Argument) (fault : CreateFault) →
    Above 16777216 m5.rows → Keeps made m5 → Keeps m4 m5 → LivesStay m4 m5 → Waiting m4 p words → ys ≡ xs → AreArguments made 0 words xs →
    (Above 16777216 m5.rows → (ws : List (List ℕ)) → AreArguments m5 0 ws ys → WaitAll m5 (arguments 0 ws) → IsFilled m5 m6 (Err fault)) →
    fault ≡ faults.Unplaced → A
strings_never made m4 m5 m6 p words xs ys fault above keeps k5 lives waiting same are room e =
    never m5 m6 fault e (room above words (subst (λ (zs : List Argument). AreArguments m5 0 words zs) (sym same)
    (arguments_still made m5 0 words xs keeps are)) (wait_still m4 m5 (arguments 0 words) k5 lives waiting.strings))

pub pointers_never : {A : Type 0} (made m4 m6 end : Kept) (p : Program) (words : List (List ℕ)) (xs ys : List Argument) (q : Pointer) (fault : CreateFault) →
    IsSound m6 → Above 16777216 m6.rows → Keeps made m4 → Keeps m4 m6 → LivesStay m4 m6 → Waiting m4 p words → ys ≡ xs →
    AreArguments made 0 words xs → AreMadeAll made xs → StandsThere m4 names.Argv q → length words < 2 ^ 32 →
    (IsSound m6 → AreMadeAll m6 ys → StandsThere m6 names.Argv q → Above 16777216 m6.rows → (ws : List (List ℕ)) → AreArguments m6 0 ws ys →
    length ws < 2 ^ 32 → Waits m6 (vector ws) → IsFilled m6 end (Err fault)) →
    fault ≡ faults.Unplaced → A
pointers_never made m4 m6 end p words xs ys q fault sound above k4 k6 lives waiting same are created stands few room e =
    let all = keeps_then made m4 m6 k4 k6 in
    never m6 end fault e (room sound (subst (λ (zs : List Argument). AreMadeAll m6 zs) (sym same) (made_still made m6 xs all created))
    (stands.0, stands.1, stands_still m4 m6 names.Argv stands.0 k6 stands.2) above words
    (subst (λ (zs : List Argument). AreArguments m6 0 words zs) (sym same) (arguments_still made m6 0 words xs all are)) few
    (waits_still m4 m6 (vector words) k6 lives waiting.pointers))
