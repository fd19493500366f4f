-- Objects that stand before a run.
use Rattle.std.proofs.Common.{◌≡◌, ℕ, zero, suc, ◌+◌, ◌<◌, ◌≤◌, ◌^◌, List, [], ◌∷◌, ◌++◌, length, get_or, Option, Some, None, refl, ap, sym, subst, ◌∙◌, arith}
use Rattle.std.specs.Prelude.{Result, Ok, Err, IfOk, OnOk, ℤ}
use Rattle.std.specs.List.{All}
use Rattle.std.proofs.lemmas.List.{length-append}
use Rattle.ub_base.specs.declared.names.ObjName.{ObjName}
use Rattle.ub_base.specs.declared.names.ObjName.TheVariants.{Static, Lit}
use Rattle.addr_map.specs.declared.map.Row.{Row}
use Rattle.addr_map.specs.Rows.{row_at, row_of}
use Rattle.exposure.specs.declared.prov.Prov.TheVariants.{Whole}
use Rattle.c_types.specs.declared.shape.Shape.{Shape}
use Rattle.c_typed.specs.Lawful.{IsLawful, ContentIsLawful}
use Rattle.c_typed.specs.declared.program.Constant.{Constant}
use Rattle.c_typed.specs.declared.program.Content.TheVariants as contents
use Rattle.c_typed.specs.declared.program.Program.{Program}
use Rattle.c_typed.specs.declared.program.Static.{Static as Object}
use Rattle.mem_spec.specs.declared.kind.ObjKind.{ObjKind}
use Rattle.mem_objects.specs.Keeps.{Keeps}
use Rattle.mem_objects.specs.declared.cell.Cell.{Cell}
use Rattle.mem_objects.specs.declared.value.Value.{Value as Held}
use Rattle.mem_objects.specs.declared.value.Value.TheVariants as values
use Rattle.mem_objects.specs.Made.{IsMade, AreNamed}
use Rattle.mem_objects.specs.Memory.{Kept, IsBorn, CellsKnown}
use Rattle.mem_objects.specs.Pieces.{IsMadeValue, IsKnownValue, IsTaggedValue}
use Rattle.mem_objects.specs.Sound.{IsSound}
use Rattle.mem_objects.specs.Tags.{CellsTagged}
use Rattle.prov_memory.proofs.KeepLemmas.{keeps_then}
use Rattle.c_model.specs.Values.{null, pointer_value}
use Rattle.run_standing.specs.declared.initial.Argument.{Argument}
use Rattle.run_values.specs.declared.places.Places.{Places}
use Rattle.run_values.specs.declared.values.Pointer.{Pointer}
use Rattle.run_values.specs.Contents.{Stands, CanHoldAll}
use Rattle.run_values.specs.declared.filling.Filling.{Filling}
use Rattle.run_values.specs.Kept.{IsOf, AreOf}
use Rattle.run_values.specs.Views.{value_in, pointer_at}
use Rattle.run_values.proofs.Keeping.{int_of, seen_pointer}
use Rattle.run_values.specs.Placed.{AllStand, AreAll, ArePlaced}
use Rattle.run_standing.specs.Starting.{AreMadeAll, AddsArgument, EndsLow}
use Rattle.run_values.proofs.Placed.{all_still, are_still, placed_still, can_hold_all}

-- ---- one after the other
pub created_stands : {E : Type 0} (r : Result ℕ E) (old new : Kept) (x : ObjName) (size align : ℕ) (kind : ObjKind) (declared : Option Shape) →
    IfOk r (λ base. IsBorn old new x base size align kind declared) → IfOk r (λ base. base + size ≤ 2 ^ 47) → OnOk r (IsMade new (Whole x)) →
    IfOk r (λ a. Stands new x a)
created_stands (Ok a) old new x size align kind declared born ends made =
    record { row = row_at x a size align; named = born.row; at = refl; ends = ends; made = made }
created_stands (Err e) old new x size align kind declared born ends made = tt

pub row_ends : (o : Option Row) (s r : Row) → o ≡ Some s → s.base + s.size ≤ 2 ^ 47 → o ≡ Some r → r.base + r.size ≤ 2 ^ 47
row_ends None s r e ends is = absurd (cc)
row_ends (Some q) s r e ends is =
    let first : q ≡ s = cc in
    let second : q ≡ r = cc in
    subst (λ (p : Row). p.base + p.size ≤ 2 ^ 47) (sym first ∙ second) ends

pub stands_low : (m : Kept) (x : ObjName) (base : ℕ) → Stands m x base → EndsLow m x
stands_low m x base s r is = row_ends (row_of m.rows x) s.row r s.named s.ends is

all_more : (m : Kept) (name : ℕ → ObjName) (k n : ℕ) (xs : List ℕ) (a : ℕ) → n ≡ k + length xs → AllStand m name k xs → Stands m (name n) a →
    AllStand m name k (xs ++ a ∷ [])
all_more m name k n [] a e all one =
    let here : n ≡ k = omega (arith, e) in
    (subst (λ (j : ℕ). Stands m (name j) a) here one, tt)
all_more m name k n (b ∷ xs) a e all one = (all.0, all_more m name (suc k) n xs a (omega (arith, e)) all.1 one)

pub one_more_stands : (old new : Kept) (name : ℕ → ObjName) (xs after : List ℕ) (i n a : ℕ) → Keeps old new → AreAll old name xs i → n ≡ length xs →
    Stands new (name n) a → after ≡ xs ++ a ∷ [] → AreAll new name after (i + 1)
one_more_stands old new name xs after i n a keeps are e one added = record {
  count = ap length added ∙ omega (arith, length-append xs (a ∷ []), are.count);
  stand = subst (λ (bs : List ℕ). AllStand new name 0 bs) (sym added)
      (all_more new name 0 n xs a (omega (arith, e)) (all_still old new name 0 xs keeps are.stand) one);
}

pub none_stand : (m : Kept) (name : ℕ → ObjName) (xs : List ℕ) → xs ≡ [] → AreAll m name xs 0
none_stand m name xs e = subst (λ (bs : List ℕ). AreAll m name bs 0) (sym e) (record { count = refl; stand = tt })

-- the constants of an object of a lawful program
pub lawful_constants : (p : Program) (i : ℕ) (o : Object) → IsLawful p → i < length p.statics → o ≡ get_or p.statics i o →
    All (λ c. ContentIsLawful p c.content) o.constants
lawful_constants p i o lawful lt is =
    subst (λ (x : Object). All (λ c. ContentIsLawful p c.content) x.constants) (sym is) (lawful.statics i o lt).contents

-- ---- arguments
pub made_still : (old new : Kept) (xs : List Argument) → Keeps old new → AreMadeAll old xs → AreMadeAll new xs
made_still old new [] keeps made = tt
made_still old new (a ∷ xs) keeps made = (keeps.made a.place.prov made.0, made_still old new xs keeps made.1)

made_then : (m : Kept) (xs : List Argument) (a : Argument) → AreMadeAll m xs → IsMade m a.place.prov → AreMadeAll m (xs ++ a ∷ [])
made_then m [] a made one = (one, tt)
made_then m (b ∷ xs) a made one = (made.0, made_then m xs a made.1 one)

pub one_more_made : (old new : Kept) (xs after : List Argument) (place : Pointer) → Keeps old new → AddsArgument place xs after → IsMade new place.prov →
    AreMadeAll old xs → AreMadeAll new after
one_more_made old new xs after place keeps adds one made =
    subst (λ (bs : List Argument). AreMadeAll new bs) (sym adds.1)
    (made_then new xs adds.0 (made_still old new xs keeps made) (subst (λ (q : Pointer). IsMade new q.prov) (sym adds.2) one))

pub made_at : (m : Kept) (xs : List Argument) (i : ℕ) (a : Argument) → i < length xs → a ≡ get_or xs i a → AreMadeAll m xs → IsMade m a.place.prov
made_at m [] i a lt is made = absurd (omega (arith, lt))
made_at m (b ∷ xs) zero a lt is made = subst (λ (x : Argument). IsMade m x.place.prov) (sym is) made.0
made_at m (b ∷ xs) (suc i) a lt is made = made_at m xs i a (omega (arith, lt)) is made.1

-- ---- pointers to them
pub pointing : (old now new : Kept) (args : List Argument) (i : ℕ) (a : Argument) (v : Held) (cells : List Cell) → IsSound old → Keeps old now →
    AreMadeAll old args → i < length args → a ≡ get_or args i a → value_in now v ≡ pointer_value (pointer_at a.place) →
    (AreNamed now → IsMadeValue now v → IsKnownValue now v → CellsKnown (length now.origins) cells) →
    (IsTaggedValue now v → CellsTagged (length now.types) cells) →
    (CellsKnown (length now.origins) cells → CellsTagged (length now.types) cells → Keeps now new) → Keeps old new
pointing old now new args i a v cells sound keeps made lt is e known tagged kept =
    let mine : IsMade now a.place.prov = keeps.made a.place.prov (made_at old args i a lt is made) in
    let there : IsOf now v = seen_pointer now now v (pointer_at a.place) e mine in
    keeps_then old now new keeps (kept (known (keeps.sound sound).named there.made there.known) (tagged there.tagged))

pub pointing_null : (old now new : Kept) (q : Pointer) (v : Held) (cells : List Cell) → IsSound old → Keeps old now → pointer_at q ≡ null →
    value_in now v ≡ pointer_value (pointer_at q) →
    (AreNamed now → IsMadeValue now v → IsKnownValue now v → CellsKnown (length now.origins) cells) →
    (IsTaggedValue now v → CellsTagged (length now.types) cells) →
    (CellsKnown (length now.origins) cells → CellsTagged (length now.types) cells → Keeps now new) → Keeps old new
pointing_null old now new q v cells sound keeps none e known tagged kept =
    let there : IsOf now v = seen_pointer now now v null (e ∙ ap pointer_value none) tt in
    keeps_then old now new keeps (kept (known (keeps.sound sound).named there.made there.known) (tagged there.tagged))

-- ---- fillings
pub static_held : (old now : Kept) (p : Program) (places : Places) (cs ds : List Constant) (fs gs : List Filling) → Keeps old now → IsSound old →
    ArePlaced old p places → All (λ c. ContentIsLawful p c.content) cs → ds ≡ cs → gs ≡ fs →
    (AreNamed now → CanHoldAll now places ds → AreOf now fs) → AreOf now gs
static_held old now p places cs ds fs gs keeps sound placed lawful same filled made =
    subst (λ (xs : List Filling). AreOf now xs) (sym filled) (made (keeps.sound sound).named
    (subst (λ (xs : List Constant). CanHoldAll now places xs) (sym same)
    (can_hold_all now p places cs (placed_still old now p places keeps placed) lawful)))

pub lawful_at : (p : Program) (xs : List Object) (i : ℕ) (o : Object) → xs ≡ p.statics → IsLawful p → i < length xs → o ≡ get_or xs i o →
    All (λ c. ContentIsLawful p c.content) o.constants
lawful_at p xs i o e lawful lt is =
    lawful_constants p i o lawful (subst (λ (ys : List Object). i < length ys) e lt) (subst (λ (ys : List Object). o ≡ get_or ys i o) e is)

-- ---- both kinds of objects
pub placed_both : (one two : Kept) (p : Program) (first second : Places) → Keeps one two →
    AreAll one (λ k. Static k) first.objects (length p.statics) → second.objects ≡ first.objects →
    AreAll two (λ k. Lit k) second.literals (length p.literals) → ArePlaced two p second
placed_both one two p first second keeps objects same literals = record {
  objects = subst (λ (xs : List ℕ). AreAll two (λ k. Static k) xs (length p.statics)) (sym same)
      (are_still one two (λ k. Static k) first.objects (length p.statics) keeps objects);
  literals = literals;
}

pub named_placed : (one two : Kept) (p : Program) (none first second : Places) → none.objects ≡ [] → none.literals ≡ [] → IsLawful p → Keeps one two →
    (none.objects ≡ [] → length p.statics < 2 ^ 32 → AreAll one (λ k. Static k) first.objects (length p.statics)) → first.literals ≡ none.literals →
    (first.literals ≡ [] → length p.literals < 2 ^ 32 → AreAll two (λ k. Lit k) second.literals (length p.literals)) →
    second.objects ≡ first.objects → ArePlaced two p second
named_placed one two p none first second no_objects no_literals lawful keeps objects others literals same =
    placed_both one two p first second keeps (objects no_objects lawful.numbered.statics) same
    (literals (others ∙ no_literals) lawful.numbered.literals)

pub named_filled : (old now new : Kept) (before : Kept) (p : Program) (places : Places) → Keeps old now → Keeps now before → IsSound old → IsLawful p →
    ArePlaced now p places → (IsSound before → IsLawful p → ArePlaced before p places → Keeps before new) → Keeps old new
named_filled old now new before p places keeps more sound lawful placed filled =
    let all = keeps_then old now before keeps more in
    keeps_then old before new all (filled (all.sound sound) lawful (placed_still now before p places more placed))

pub pointed : (old made now new : Kept) (args slice : List Argument) → Keeps old now → Keeps made now → IsSound old → AreMadeAll made args → slice ≡ args →
    (IsSound now → AreMadeAll now slice → Keeps now new) → Keeps old new
pointed old made now new args slice keeps more sound all same pointing =
    keeps_then old now new keeps (pointing (keeps.sound sound) (subst (λ (xs : List Argument). AreMadeAll now xs) (sym same)
    (made_still made now args more all)))

-- ---- the arguments of `main`
pub count_of : (m : Kept) (v : Held) (z : ℤ) → v ≡ values.Int z → IsOf m v
count_of m v z e = subst (λ (w : Held). IsOf m w) (sym e) (int_of m z)

pub vector_of : (old new : Kept) (v : Held) (p : Pointer) → value_in new v ≡ pointer_value (pointer_at p) → IsMade old p.prov → Keeps old new → IsOf new v
vector_of old new v p e made keeps = seen_pointer new new v (pointer_at p) e (keeps.made p.prov made)

pub null_of : (m : Kept) (v : Held) (p : Pointer) → value_in m v ≡ pointer_value (pointer_at p) → pointer_at p ≡ null → IsOf m v
null_of m v p e none = seen_pointer m m v null (e ∙ ap pointer_value none) tt

pub none_made : (m : Kept) (xs : List Argument) → xs ≡ [] → AreMadeAll m xs
none_made m xs e = subst (λ (bs : List Argument). AreMadeAll m bs) (sym e) tt
