-- What a frame leaves is what the definitions leave of it (6.9.1p12).
use Rattle.std.proofs.Common.{◌≡◌, ◌≢◌, ℕ, ◌+◌, ◌==◌, Bool, true, false, refl, sym, ap, ◌∙◌, subst, arith, List, Option, Some, None, slice_get}
use Rattle.std.specs.Prelude.{is_some, if◌then◌else◌, option_map, pos}
use Rattle.std.proofs.lemmas.Bool.{eqb-true}
use Rattle.std.proofs.lemmas.Option.{slice_get-map}
use Rattle.c_types.specs.Types.{CType, void, signature_of}
use Rattle.c_typed.specs.declared.program.Function.{Function}
use Rattle.c_typed.specs.declared.program.Program.{Program}
use Rattle.mem_objects.specs.declared.value.Value.{Value as Kept_value}
use Rattle.mem_objects.specs.declared.value.Value.TheVariants as kept
use Rattle.mem_objects.specs.Memory.{Kept}
use Rattle.c_model.specs.Program as model
use Rattle.c_model.specs.Steps.{Local, left_by, result_of}
use Rattle.c_model.specs.Values.{Value, Int, Missing, Nothing}
use Rattle.c_model.specs.World.{World}
use Rattle.program_view.specs.View.{function_of, is_void}
use Rattle.run_acts.specs.Calls.{left_of}
use Rattle.run_values.specs.Kept.{IsOf}
use Rattle.run_values.specs.Views.{value_in}
use Rattle.run_values.proofs.Keeping.{int_of, nothing_of}
use Rattle.run_state.specs.Meaning.{StandsProgram}
use Rattle.run_state.specs.Stands.{IsResultOf, result_seen}
use Rattle.run_answers.specs.Ending.{IsFunctionIn, LeavesNone, LeavesValue, depth_without}

-- ---- a value that names nothing
abbrev IsPlain : Value → Type 0
IsPlain (Int z) = Unit {0}
IsPlain Missing = Unit {0}
IsPlain Nothing = Unit {0}
IsPlain _ = ⊥

plain_of : (k : Kept) (v : Kept_value) → IsPlain (value_in k v) → IsOf k v
plain_of k (kept.Int z) h = int_of k z
plain_of k (kept.Ptr a p) h = absurd h
plain_of k (kept.Func a) h = absurd h
plain_of k (kept.Block b) h = absurd h
plain_of k kept.Missing h = record { made = tt; known = tt; tagged = tt }
plain_of k kept.Nothing h = nothing_of k

plain_as : (k : Kept) (v : Kept_value) (w : Value) → value_in k v ≡ w → IsPlain w → IsOf k v × (value_in k v ≡ w)
plain_as k v w is plain = (plain_of k v (subst IsPlain (sym is) plain), is)

plain_left : (t : CType) → IsPlain (left_of t)
plain_left void = tt
plain_left t = tt

left_void : (t : CType) → left_of t ≡ (if is_void t then Nothing else Missing)
left_void void = refl
left_void t = refl

-- ---- a function without a result
there : {A : Type 0} (o : Option A) → is_some o ≡ true → (x : A) × (o ≡ Some x)
there None e = absurd (cc)
there (Some x) e = (x, refl)

by_main : (k : Kept) (world : World) (p : Program) (n : ℕ) (g : Function) (v : Kept_value) (main : Bool) → (n == p.main) ≡ main →
    ((n ≡ p.main → ⊥) → main ≡ false → value_in k v ≡ left_of (signature_of g.ty).result) → (n ≡ p.main → value_in k v ≡ Int (pos 0)) →
    IsOf k v × (value_in k v ≡ left_by world (Some (function_of p.tags g)) main)
by_main k world p n g v true is other own = plain_as k v (Int (pos 0)) (own (eqb-true n p.main is)) tt
by_main k world p n g v false is other own =
    let apart : n ≢ p.main = λ e. absurd (differs e) in
    let left = other apart refl in
    let seen = plain_as k v (left_of (signature_of g.ty).result) left (plain_left (signature_of g.ty).result) in
    (seen.0, seen.1 ∙ left_void (signature_of g.ty).result)
  where
    differs : n ≡ p.main → ⊥
    differs e = grind (arith, is, e)

none_left : (k : Kept) (world : World) (p : Program) (n : ℕ) (v : Kept_value) → StandsProgram world p → is_some (slice_get p.functions n) ≡ true →
    LeavesNone p n v → IsOf k v × (value_in k v ≡ left_by world (slice_get world.program.functions n) (n == world.program.main))
none_left k world p n v program known leaves =
    let found = there (slice_get p.functions n) known in
    let g = found.0 in
    let seen : slice_get world.program.functions n ≡ Some (function_of p.tags g) =
    ap (λ (fs : List model.Function). slice_get fs n) program.functions ∙ slice_get-map (function_of p.tags) p.functions n
    ∙ ap (option_map (function_of p.tags)) found.1 in
    let left = by_main k world p n g v (n == p.main) refl (λ ne e. leaves.other g ne found.1 k) (λ e. leaves.main e k) in (
      left.0,
      left.1 ∙ ap (λ (m : ℕ). left_by world (Some (function_of p.tags g)) (n == m)) (sym program.main)
          ∙ ap (λ (o : Option model.Function). left_by world o (n == world.program.main)) (sym seen),
    )

-- ---- any frame
abbrev leaving : Local → Option ℕ → Option Value → Local
leaving f function result = record f { function = function; result = result }

by_result : (k : Kept) (world : World) (p : Program) (f : Local) (o : Option ℕ) (left : Option Kept_value) (v : Kept_value) → StandsProgram world p →
    IsResultOf k left → IsFunctionIn p o → LeavesValue p o left v → IsOf k v × (value_in k v ≡ result_of world (leaving f o (result_seen k o left)))
by_result k world p f None (Some w) v program is known leaves = (subst (IsOf k) (sym leaves) is, ap (value_in k) leaves)
by_result k world p f (Some n) (Some w) v program is known leaves = (subst (IsOf k) (sym leaves) is, ap (value_in k) leaves)
by_result k world p f None None v program is known leaves =
    (subst (IsOf k) (sym leaves) (nothing_of k), ap (value_in k) leaves)
by_result k world p f (Some n) None v program is known leaves = none_left k world p n v program known leaves

pub left_as : (k : Kept) (world : World) (p : Program) (f : Local) (o : Option ℕ) (left : Option Kept_value) (v : Kept_value) → StandsProgram world p →
    o ≡ f.function → f.result ≡ result_seen k o left → IsResultOf k left → IsFunctionIn p o → LeavesValue p o left v →
    IsOf k v × (value_in k v ≡ result_of world f)
left_as k world p f o left v program same result is known leaves =
    let seen = by_result k world p f o left v program is known leaves in (
      seen.0,
      seen.1 ∙ ap (λ (r : Option Value). result_of world (leaving f o r)) (sym result)
          ∙ ap (λ (n : Option ℕ). result_of world (leaving f n f.result)) same,
    )

-- ---- how many frames are open
pub depth_left : (o n : Option ℕ) (depth rest : ℕ) → o ≡ n → depth ≡ (if is_some n then 1 else 0) + rest → depth_without o depth ≡ rest
depth_left o n depth rest same is = ap (λ (x : Option ℕ). depth_without x depth) same ∙ by n is
  where
    by : (n : Option ℕ) → depth ≡ (if is_some n then 1 else 0) + rest → depth_without n depth ≡ rest
    by None e = omega (arith, e)
    by (Some k) e = omega (arith, e)
