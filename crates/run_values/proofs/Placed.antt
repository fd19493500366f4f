-- Objects that stand where they are placed.
use Rattle.std.proofs.Common.{◌≡◌, ℕ, zero, suc, ◌+◌, ◌<◌, List, [], ◌∷◌, length, Option, refl, ap, sym, subst, ◌∙◌, arith}
use Rattle.std.specs.Prelude.{slice_get}
use Rattle.std.specs.List.{All}
use Rattle.std.proofs.lemmas.List.Elements.{All-head, All-tail}
use Rattle.ub_base.specs.declared.names.ObjName.{ObjName}
use Rattle.ub_base.specs.declared.names.ObjName.TheVariants.{Static, Lit}
use Rattle.addr_map.specs.declared.map.Row.{Row}
use Rattle.exposure.specs.declared.prov.Prov.TheVariants.{Whole}
use Rattle.c_typed.specs.Lawful.{There, ContentIsLawful}
use Rattle.c_typed.specs.declared.tree.Target.{Target}
use Rattle.c_typed.specs.declared.tree.Target.TheVariants as targets
use Rattle.c_typed.specs.declared.program.Constant.{Constant}
use Rattle.c_typed.specs.declared.program.Content.{Content}
use Rattle.c_typed.specs.declared.program.Content.TheVariants as contents
use Rattle.c_typed.specs.declared.program.Program.{Program}
use Rattle.mem_objects.specs.Keeps.{Keeps, RowsStay}
use Rattle.mem_objects.specs.Memory.{Kept}
use Rattle.run_values.specs.declared.places.Places.{Places}
use Rattle.run_values.specs.Contents.{Stands, StandsAt, IsPlaced, CanHold}
use Rattle.run_values.specs.Placed.{AllStand, AreAll, ArePlaced, LawfulCanHold}
use Rattle.mem_spec.specs.Acts.{base_in}
use Rattle.mem_spec.specs.Bytes.{pointer_bytes}
use Rattle.c_model.specs.Nodes.{content_bytes}
use Rattle.c_model.specs.Program.{Object_at}
use Rattle.c_model.specs.Values.{address_after}

-- ---- what stands stands on
pub stands_still : (old new : Kept) (x : ObjName) (base : ℕ) → Keeps old new → Stands old x base → Stands new x base
stands_still old new x base keeps s = record { row = s.row; named = keeps.rows x s.row s.named; at = s.at; ends = s.ends; made = keeps.made (Whole x) s.made }

pub all_still : (old new : Kept) (name : ℕ → ObjName) (k : ℕ) (xs : List ℕ) → Keeps old new → AllStand old name k xs → AllStand new name k xs
all_still old new name k [] keeps all = tt
all_still old new name k (a ∷ xs) keeps all = (stands_still old new (name k) a keeps all.0, all_still old new name (suc k) xs keeps all.1)

pub are_still : (old new : Kept) (name : ℕ → ObjName) (xs : List ℕ) (n : ℕ) → Keeps old new → AreAll old name xs n → AreAll new name xs n
are_still old new name xs n keeps are = record { count = are.count; stand = all_still old new name 0 xs keeps are.stand }

pub placed_still : (old new : Kept) (p : Program) (places : Places) → Keeps old new → ArePlaced old p places → ArePlaced new p places
placed_still old new p places keeps placed = record {
  objects = are_still old new (λ k. Static k) places.objects (length p.statics) keeps placed.objects;
  literals = are_still old new (λ k. Lit k) places.literals (length p.literals) keeps placed.literals;
}

-- ---- the one of a number
pub all_at : (m : Kept) (name : ℕ → ObjName) (k n : ℕ) (xs : List ℕ) (i : ℕ) → n ≡ k + i → i < length xs → AllStand m name k xs → StandsAt m (name n) xs i
all_at m name k n [] i e lt all = absurd (omega (arith, lt))
all_at m name k n (a ∷ xs) zero e lt all =
    let here : k ≡ n = omega (arith, e) in
    (a, refl, subst (λ (j : ℕ). Stands m (name j) a) here all.0)
all_at m name k n (a ∷ xs) (suc i) e lt all = all_at m name (suc k) n xs i (omega (arith, e)) (omega (arith, lt)) all.1

there_within : {A : Type 0} (P : A → Type 0) (xs : List A) (k : ℕ) → There (slice_get xs k) P → k < length xs
there_within P [] k h = absurd h
there_within P (x ∷ xs) zero h = omega arith
there_within P (x ∷ xs) (suc k) h =
    let within = there_within P xs k h in
    omega arith

can_name : (m : Kept) (p : Program) (places : Places) (target : Target) (offset : ℕ) → ArePlaced m p places →
    ContentIsLawful p (contents.Address target offset) → IsPlaced m places target
can_name m p places (targets.Static k) offset placed lawful =
    let within = there_within _ p.statics k lawful in
    all_at m (λ j. Static j) 0 k places.objects k (omega arith) (omega (arith, placed.objects.count)) placed.objects.stand
can_name m p places (targets.Literal k) offset placed lawful =
    let within = there_within _ p.literals k lawful in
    all_at m (λ j. Lit j) 0 k places.literals k (omega arith) (omega (arith, placed.literals.count)) placed.literals.stand
can_name m p places (targets.Function k) offset placed lawful = tt

can_hold : (m : Kept) (p : Program) (places : Places) (content : Content) → ArePlaced m p places → ContentIsLawful p content → CanHold m places content
can_hold m p places (contents.Zeros n) placed lawful = tt
can_hold m p places (contents.Bytes bs) placed lawful = tt
can_hold m p places (contents.Address target offset) placed lawful = can_name m p places target offset placed lawful

pub can_hold_all : LawfulCanHold
can_hold_all m p places [] placed lawful = tt
can_hold_all m p places (c ∷ cs) placed lawful =
    let P = λ (d : Constant). ContentIsLawful p d.content in
    (can_hold m p places c.content placed (All-head P c cs lawful), can_hold_all m p places cs placed (All-tail P c cs lawful))

-- ---- contents under rows that stay
pub named_still : (m : Kept) (x : ObjName) (offset base : ℕ) → Stands m x base → (rows : List Row) → RowsStay m.rows rows →
    content_bytes rows (Object_at x offset) ≡ content_bytes m.rows (Object_at x offset)
named_still m x offset base s rows stay =
    ap (λ (o : Option Row). pointer_bytes 8 0 (Whole x) (address_after (base_in o) offset)) (stay x s.row s.named ∙ sym s.named)
