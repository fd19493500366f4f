-- The pointers to the arguments of `main` are filled.
use Rattle.std.proofs.Common.{◌≡◌, ℕ, zero, suc, ◌+◌, ◌*◌, ◌-◌, ◌<◌, ◌^◌, min, refl, sym, ap, ◌∙◌, subst, arith, List, [], ◌∷◌, length, drop, get_or, Option}
use Rattle.std.specs.Prelude.{Result, Ok, Err, OnOk}
use Rattle.ub_base.specs.declared.names.ObjName.{ObjName}
use Rattle.ub_base.specs.declared.names.ObjName.TheVariants.{Arg, Argv}
use Rattle.addr_map.specs.declared.map.Row.{Row}
use Rattle.exposure.specs.declared.prov.Prov.TheVariants.{Whole, Empty}
use Rattle.mem_spec.specs.Acts.{base_in}
use Rattle.mem_spec.specs.Bytes.{pointer_bytes}
use Rattle.mem_objects.specs.Keeps.{Keeps, RowsStay}
use Rattle.mem_objects.specs.declared.cell.Cell.{Cell}
use Rattle.mem_objects.specs.declared.value.Value.{Value as Held}
use Rattle.mem_objects.specs.Made.{IsMade, AreNamed}
use Rattle.mem_objects.specs.Memory.{Kept, store_of}
use Rattle.mem_objects.specs.Pieces.{seen, value_bytes, IsMadeValue}
use Rattle.mem_objects.specs.Sound.{IsSound}
use Rattle.c_model.specs.Program.{Filling as Filled, Object_at, No_object}
use Rattle.c_model.specs.Values.{Pointer as Place, null, pointer_value, address_after}
use Rattle.run_standing.specs.declared.initial.Argument.{Argument}
use Rattle.run_values.specs.declared.values.Pointer.{Pointer}
use Rattle.run_values.specs.Kept.{IsOf}
use Rattle.run_standing.specs.Standing.{AreArguments, StandsThere, AllFilled, pointers, vector}
use Rattle.run_standing.specs.Starting.{AreMadeAll, Puts}
use Rattle.run_values.specs.Views.{value_in, pointer_at}
use Rattle.run_standing.proofs.Arguments.{at_argument, argument_count}
use Rattle.run_standing.proofs.Content.{seen_bytes}
use Rattle.run_values.proofs.Fills.{Alike}
use Rattle.run_values.proofs.Keeping.{seen_pointer}
use Rattle.run_standing.proofs.Starting.{made_at}
use Rattle.run_standing.proofs.Statics.{Reached, at_object, reached_next, stands_filled}

abbrev pointer_to : (at n : ℕ) → Filled
pointer_to at n = record { offset = at; content = Object_at (Arg n) 0 }

abbrev null_at : ℕ → Filled
null_at at = record { offset = at; content = No_object }

one_more : (i : ℕ) → suc (i + 1) ≡ suc i + 1
one_more i = omega arith

pointers_next : (k at n o i : ℕ) (words : List (List ℕ)) → i < length words → n ≡ k + i → o ≡ at + 8 * i →
    drop i (pointers k at words) ≡ pointer_to o n ∷ drop (i + 1) (pointers k at words)
pointers_next k at n o i [] lt e f = absurd (omega (arith, lt))
pointers_next k at n o zero (w ∷ words) lt e f =
    let here : k ≡ n = omega (arith, e) in
    let there : at ≡ o = omega (arith, f) in
    λ j. pointer_to (there j) (here j) ∷ pointers (suc k) (at + 8) words
pointers_next k at n o (suc i) (w ∷ words) lt e f =
    pointers_next (suc k) (at + 8) n o i words (omega (arith, lt)) (omega (arith, e)) (omega (arith, f))
    ∙ ap (λ (j : ℕ). pointer_to o n ∷ drop j (pointers k at (w ∷ words))) (one_more i)

pointers_last : (k at o i : ℕ) (words : List (List ℕ)) → i ≡ length words → o ≡ at + 8 * i → drop i (pointers k at words) ≡ null_at o ∷ []
pointers_last k at o zero [] e f =
    let there : at ≡ o = omega (arith, f) in
    λ j. null_at (there j) ∷ []
pointers_last k at o (suc i) [] e f = absurd (omega (arith, e))
pointers_last k at o zero (w ∷ words) e f = absurd (omega (arith, e))
pointers_last k at o (suc i) (w ∷ words) e f = pointers_last (suc k) (at + 8) o i words (omega (arith, e)) (omega (arith, f))

abbrev pub PointedSo : Kept → Kept → ObjName → ℕ → List (List ℕ) → ℕ → Type 0
PointedSo old now x a words i = Reached old now (at_object x a) (pointers 0 0 words) (drop i (pointers 0 0 words))

-- ---- a pointer to an argument
pub value_held : (now : Kept) (v : Held) (p : Place) (cells : List Cell) → IsSound now → value_in now v ≡ pointer_value p → IsMade now p.prov →
    (AreNamed now → IsMadeValue now v → seen now cells ≡ value_bytes now 8 v) → seen now cells ≡ pointer_bytes 8 0 p.prov p.address
value_held now v p cells sound e made filled =
    let known : IsOf now v = seen_pointer now now v p e made in
    filled sound.named known.made ∙ seen_bytes now v p e

pub next_offset : (at i more : ℕ) → at ≡ min (8 * i) (2 ^ 64 - 1) → more ≡ min (at + 8) (2 ^ 64 - 1) → more ≡ min (8 * (i + 1)) (2 ^ 64 - 1)
next_offset at i more e f = omega (arith, e, f)

pub pointed_next : (old now new : Kept) (x : ObjName) (a : ℕ) (words : List (List ℕ)) (args : List Argument) (i at : ℕ) (g : Argument) (v : Held)
    (cells : List Cell) → IsSound old → Keeps old now → AreMadeAll old args → i < length args → g ≡ get_or args i g → at ≡ min (8 * i) (2 ^ 64 - 1) →
    value_in now v ≡ pointer_value (pointer_at g.place) → (AreNamed now → IsMadeValue now v → seen now cells ≡ value_bytes now 8 v) → Alike now old →
    Puts now new x (address_after a at) (seen now cells) → AreArguments old 0 words args → length words < 2 ^ 32 → PointedSo old now x a words i →
    PointedSo old new x a words (i + 1)
pointed_next old now new x a words args i at g v cells sound keeps made lt is offset e filled alike puts are few so_far =
    let there = at_argument old 0 i i words args g (omega arith) lt is are in
    let one = there.3 in
    let held : seen now cells ≡ pointer_bytes 8 0 (Whole (Arg i)) (address_after one.base 0) =
    value_held now v (pointer_at g.place) cells (keeps.sound sound) e (keeps.made g.place.prov (made_at old args i g lt is made)) filled
    ∙ ap (λ (q : Place). pointer_bytes 8 0 q.prov q.address) one.at in
    let exactly : at ≡ 8 * i = omega (arith, offset, there.1, few) in
    reached_next old now new x a (pointers 0 0 words) (drop i (pointers 0 0 words)) (drop (i + 1) (pointers 0 0 words)) (pointer_to (8 * i) i) at
    (seen now cells) (ap (λ (m : Kept). m.rows) alike) (pointers_next 0 0 i (8 * i) i words there.1 (omega arith) (omega arith)) exactly
    (λ rows stay.
    ap (λ (o : Option Row). pointer_bytes 8 0 (Whole (Arg i)) (address_after (base_in o) 0)) (stay (Arg i) one.stands.row one.stands.named)
    ∙ ap (λ (b : ℕ). pointer_bytes 8 0 (Whole (Arg i)) (address_after b 0)) one.stands.at ∙ sym held) puts so_far

-- ---- the null pointer behind them
pub ok_then : {A E : Type 0} (r : Result A E) (P Q : Type 0) → (P → Q) → OnOk r P → OnOk r Q
ok_then (Ok a) P Q f h = f h
ok_then (Err e) P Q f h = tt

pub pointed_all : (old now new : Kept) (p q : Pointer) (words : List (List ℕ)) (args : List Argument) (i at : ℕ) (v : Held) (cells : List Cell) →
    IsSound old → Keeps old now → i ≡ length args → at ≡ min (8 * i) (2 ^ 64 - 1) → pointer_at q ≡ null →
    value_in now v ≡ pointer_value (pointer_at q) → (AreNamed now → IsMadeValue now v → seen now cells ≡ value_bytes now 8 v) → Alike now old →
    Alike new now → ((x : ObjName) → p.prov ≡ Whole x → Puts now new x (address_after p.addr at) (seen now cells)) → StandsThere old Argv p →
    AreArguments old 0 words args → length words < 2 ^ 32 → ((x : ObjName) → p.prov ≡ Whole x → PointedSo old now x p.addr words i) →
    AllFilled old new (vector words ∷ [])
pointed_all old now new p q words args i at v cells sound keeps all offset none e filled alike more puts stands are few so_far = λ rows stay io.
    let own : p.prov ≡ Whole Argv = ap (λ (r : Place). r.prov) stands.1 in
    let address : p.addr ≡ address_after stands.0 0 = ap (λ (r : Place). r.address) stands.1 in
    let held : seen now cells ≡ pointer_bytes 8 0 Empty 0 = value_held now v null cells (keeps.sound sound) (e ∙ ap pointer_value none) tt filled in
    let count : i ≡ length words = all ∙ argument_count old 0 words args are in
    let exactly : at ≡ 8 * i = omega (arith, offset, count, few) in
    let reached : Reached old new (at_object Argv p.addr) (pointers 0 0 words) [] =
    reached_next old now new Argv p.addr (pointers 0 0 words) (drop i (pointers 0 0 words)) [] (null_at (8 * i)) at (seen now cells)
    (ap (λ (m : Kept). m.rows) alike) (pointers_last 0 0 (8 * i) i words count (omega arith)) exactly (λ rs still. sym held) (puts Argv own)
    (so_far Argv own) in
    let same : new.rows ≡ old.rows = ap (λ (m : Kept). m.rows) more ∙ ap (λ (m : Kept). m.rows) alike in (
      store_of new io,
      stands_filled old new Argv stands.0 p.addr (pointers 0 0 words) stands.2 address reached rows
          (subst (λ (rs : List Row). RowsStay rs rows) same stay) io,
      refl,
    )
