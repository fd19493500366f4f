-- What `main` is given, and the labels that are kept.
use Rattle.std.proofs.Common.{◌≡◌, ℕ, zero, suc, ◌+◌, Bool, true, false, refl, sym, ap, ◌∙◌, subst, pos, List, [], ◌∷◌, length}
use Rattle.std.proofs.Common.{Option, Some, None, slice_get}
use Rattle.std.specs.Borrow.{Bor}
use Rattle.c_typed.specs.declared.program.Program.{Program}
use Rattle.mem_objects.specs.declared.value.Value.{Value as Kept_value}
use Rattle.mem_objects.specs.Keeps.{Keeps, RowsStay}
use Rattle.mem_objects.specs.Memory.{Kept}
use Rattle.c_model.specs.Values.{Int}
use Rattle.c_model.specs.World.{World}
use Rattle.program_view.specs.View.{main_values, passed_to, takes_arguments}
use Rattle.run_values.specs.Views.{value_in}
use Rattle.run_values.proofs.Keeping.{values_stay}
use Rattle.run_standing.proofs.Viewed.{takes_same}
use Rattle.run_control.specs.declared.statement.Statement.{Statement}
use Rattle.run_layout.specs.declared.whole.Code.{Code}
use Rattle.run_layout.specs.declared.steps.FunctionCode.{FunctionCode}
use Rattle.run_statements.specs.declared.jumps.Jumps.{Jumps}
use Rattle.run_statements.specs.Jumping.{HasJumps}
use Rattle.run_state.specs.declared.machine.Machine.{Machine}
use Rattle.run_start.specs.Begins.{HoldsGiven, IsBodyOf, IsGivenIn, KeepsLabels}
use Rattle.run_state.specs.Meaning.{world_with}
use Rattle.run_state.specs.Stands.{AreEach, HoldsAll}

-- ---- what `main` is given
abbrev HoldsPassed : Kept → List Kept_value → (world : World) → List (List ℕ) → Bool → Type 0
HoldsPassed m values world arguments takes = HoldsAll m values 0 (passed_to takes world arguments)

passed : (first m : Kept) (p : Program) (values : List Kept_value) (arguments : List (List ℕ)) (count : ℕ) (world : World) (takes : Bool) →
    takes_arguments p ≡ takes → count ≡ length arguments + 1 → IsGivenIn first p count values → Keeps first m → RowsStay first.rows world.rows →
    HoldsPassed m values world arguments takes
passed first m p values arguments count world false is many given keeps stay = tt
passed first m p values arguments count world true is many given keeps stay =
    let s = given.0 in
    let told = given.4 (takes_same (slice_get p.functions p.main) ∙ is) in
    let at : (n : ℕ) (v : Kept_value) → slice_get (s.count ∷ s.vector ∷ []) n ≡ Some v → slice_get values n ≡ Some v =
    λ n v e. ap (λ (vs : List Kept_value). slice_get vs n) given.1 ∙ e in (
      (
        s.count,
        at 0 s.count refl,
        values_stay first m s.count keeps given.2,
        ap (value_in m) told.0 ∙ ap (λ (n : ℕ). Int (pos n)) many,
      ),
      ((s.vector, at 1 s.vector refl, values_stay first m s.vector keeps given.3, told.1 world.rows stay m), tt),
    )

pub holds_given : (first : Kept) (p : Program) (values : List Kept_value) (arguments : List (List ℕ)) (count : ℕ) (m : Machine) →
    count ≡ length arguments + 1 → IsGivenIn first p count values → Keeps first m.memory → m.values.items ≡ values → HoldsGiven p arguments m
holds_given first p values arguments count m many given keeps same os rows number limits stay =
    let world = world_with p arguments os rows number limits in
    subst (λ (vs : List Kept_value). HoldsAll m.memory vs 0 (main_values p world arguments)) (sym same)
    (passed first m.memory p values arguments count world (takes_arguments p) refl many given keeps (λ x r e. stay x r (keeps.rows x r e)))

-- ---- the labels that are kept
own_body : (x : Option FunctionCode) (b : Option (Bor Statement)) (c : FunctionCode) → x ≡ Some c → IsBodyOf x b →
    (s : Bor Statement) × (b ≡ Some s) × (s.now ≡ c.body)
own_body None b c e h = absurd (cc)
own_body (Some d) None c e h = absurd h
own_body (Some d) (Some s) c e h = let same : d ≡ c = cc in (s, refl, h ∙ ap (λ (f : FunctionCode). f.body) same)

body_there : (cs : List (Option FunctionCode)) (bs : List (Option (Bor Statement))) (n : ℕ) (c : FunctionCode) → AreEach IsBodyOf cs bs →
    slice_get cs n ≡ Some (Some c) → (s : Bor Statement) × (slice_get bs n ≡ Some (Some s)) × (s.now ≡ c.body)
body_there [] [] zero c are at = absurd (cc)
body_there [] [] (suc n) c are at = absurd (cc)
body_there [] (b ∷ bs) n c are at = absurd are
body_there (x ∷ xs) [] n c are at = absurd are
body_there (x ∷ xs) (b ∷ bs) zero c are at =
    let is : x ≡ Some c = cc in
    let it = own_body x b c is are.0 in
    (it.0, ap Some it.1, it.2)
body_there (x ∷ xs) (b ∷ bs) (suc n) c are at = body_there xs bs n c are.1 at

pub labels_kept : (code : Code) (jumps : Jumps) (bodies : List (Option (Bor Statement))) → HasJumps jumps bodies →
    AreEach IsBodyOf code.functions.items bodies → KeepsLabels code jumps
labels_kept code jumps bodies has are =
    record { bodies = bodies; labels = has; each = λ n c at. body_there code.functions.items bodies n c are at }

pub labels_same : (code other : Code) (jumps kept : Jumps) → code ≡ other → jumps ≡ kept → KeepsLabels other kept → KeepsLabels code jumps
labels_same code other jumps kept same is h =
    subst (λ (c : Code). KeepsLabels c jumps) (sym same) (subst (λ (j : Jumps). KeepsLabels other j) (sym is) h)
