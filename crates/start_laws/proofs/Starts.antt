-- The machine of a lawful program before its first pick is going.
use Rattle.std.proofs.Common.{arith, ◌≡◌, ◌≤◌, ◌<◌, ◌∙◌, ◌^◌, ℕ, Bool, true, false, List, [], ◌∷◌, map, reverse, Option, Some, None, nat_lt}
use Rattle.std.proofs.Common.{refl, sym, ap, subst}
use Rattle.std.proofs.lemmas.Bool.Decides.{nat_tests}
use Rattle.std.specs.Prelude.{if◌then◌else◌}
use Rattle.ub_base.specs.declared.clause.Cause.{Cause}
use Rattle.ub_base.specs.declared.clause.Cause.TheVariants as cause
use Rattle.ub_base.specs.Frames.{Path}
use Rattle.addr_map.specs.declared.map.Row.{Row}
use Rattle.c_typed.specs.declared.program.Program.{Program}
use Rattle.mem_spec.specs.Script.{run}
use Rattle.mem_spec.specs.Store.{Store}
use Rattle.mem_spec.specs.Streams.{Io, total}
use Rattle.mem_objects.specs.Keeps.{RowsStay}
use Rattle.mem_objects.specs.Memory.{store_of}
use Rattle.c_model.specs.Program.{Standing}
use Rattle.c_model.specs.Runs.{State, Over, created_after, limit_passed, nothing_stands, stand, started_run, too_many, within}
use Rattle.c_model.specs.Steps.{Local}
use Rattle.c_model.specs.Values.{Value}
use Rattle.c_model.specs.World.{World, Limits}
use Rattle.program_view.specs.View.{main_values, standing_of, world_of}
use Rattle.run_standing.specs.Viewed.{StandsAsViewed, ViewStands}
use Rattle.run_statements.specs.declared.numbers.Numbers.{Numbers}
use Rattle.run_state.specs.declared.machine.Machine.{Machine}
use Rattle.run_state.specs.declared.machine.Open.{Open}
use Rattle.run_state.specs.declared.machine.Stage.{Stage}
use Rattle.run_start.specs.Begins.{IsUnstarted, StartIsWithin, StartsAs}
use Rattle.run_state.specs.Meaning.{StandsProgram, world_with}
use Rattle.value_facts.specs.Limits.{StartsWithin}
use Rattle.frame_laws.specs.Laws.{StartsOrdered}
use Rattle.frame_laws.specs.Named.{LawfulIsScoped, MainIsDefined}
use Rattle.frame_laws.specs.Reached.{StartsReached}
use Rattle.code_view.specs.Laws.{LawfulCodeStands}
use Rattle.code_view.specs.Numbering.{meaning_of}
use Rattle.run_laws.specs.Frames.{IsOneOf, KeepFrames, KeepsBegun, KeepsFrame, Sees, SeesFunction, function_of}
use Rattle.run_laws.specs.Going.{locals_of}
use Rattle.run_laws.specs.SetUp.{IsProfile, IsSetUp}
use Rattle.start_laws.specs.Starts.{IsMadeReady, StartsGoing, StartsOver}

-- ---- the limits
under : (l n : ℕ) → n ≤ l → nat_lt l n ≡ false
under l n le = grind (arith, nat_tests, le)

over : (l n : ℕ) → l < n → nat_lt l n ≡ true
over l n lt = grind (arith, nat_tests, lt)

not_many : (limits : Limits) → IsProfile limits → (n : ℕ) → n ≤ 2 ^ 26 → too_many limits n ≡ None
not_many limits is n few =
    let fits : n ≤ limits.created = subst (λ (k : ℕ). n ≤ k) (sym is.created) few in
    ap (λ (b : Bool). if b then Some (cause.Created, n) else None) (under limits.created n fits)

many : (limits : Limits) → IsProfile limits → (n : ℕ) → 2 ^ 26 < n → too_many limits n ≡ Some (cause.Created, n)
many limits is n more =
    let past : limits.created < n = subst (λ (k : ℕ). k < n) (sym is.created) more in
    ap (λ (b : Bool). if b then Some (cause.Created, n) else None) (over limits.created n past)

none_passed : (limits : Limits) (depth : ℕ) (s : Store) → nat_lt limits.depth depth ≡ false → nat_lt limits.created s.created ≡ false
    → nat_lt limits.output (total s.output) ≡ false → limit_passed limits depth s ≡ None
none_passed limits depth s deep created output =
    let past : Option (Cause × ℕ) = if nat_lt limits.output (total s.output) then Some (cause.Output, total s.output) else None in
    let more : Option (Cause × ℕ) = if nat_lt limits.created s.created then Some (cause.Created, s.created) else past in
    ap (λ (a : Bool). if a then Some (cause.Depth, depth) else more) deep ∙ ap (λ (a : Bool). if a then Some (cause.Created, s.created) else past) created
    ∙ ap (λ (a : Bool). if a then Some (cause.Output, total s.output) else None) output

start_within : (p : Program) (arguments : List (List ℕ)) (input : List ℕ) (m : Machine) (limits : Limits) (count : ℕ) → IsProfile limits
    → IsMadeReady p arguments input m → count ≡ created_after 0 (map (λ o. o.decl) (standing_of p arguments)) → count ≤ 2 ^ 26
    → StartIsWithin limits (standing_of p arguments) m
start_within p arguments input m limits count is ready same few =
    let n = created_after 0 (map (λ (o : Standing). o.decl) (standing_of p arguments)) in
    let fits : n ≤ 2 ^ 26 = subst (λ (k : ℕ). k ≤ 2 ^ 26) same few in
    let bytes : m.memory.created ≤ limits.created =
    subst (λ (k : ℕ). k ≤ limits.created) (sym ready.counts.created) (subst (λ (k : ℕ). n ≤ k) (sym is.created) fits) in
    let one : 1 ≤ limits.depth = subst (λ (k : ℕ). 1 ≤ k) (sym is.depth) (omega arith) in
    record {
      objects = not_many limits is n fits;
      rest = none_passed limits 1 (store_of m.memory m.streams) (under limits.depth 1 one) (under limits.created m.memory.created bytes)
          (subst (λ (io : Io). nat_lt limits.output (total io.output) ≡ false) (sym ready.counts.streams) (under limits.output 0 (omega arith)));
    }

-- ---- the definitions start
-- in the worlds of what stands before the first pick
abbrev StartsIn : Program → List (List ℕ) → List Row → (Path → ℕ) → Limits → Numbers → List ℕ → Machine → List Standing → Type 0
StartsIn p arguments rows number limits numbers input m os =
    StartIsWithin limits os m → StartsAs (world_with p arguments os rows number limits) (meaning_of p numbers m.image.code.now) input
    (main_values p (world_with p arguments os rows number limits) arguments) m

starts_in : LawfulCodeStands → (p : Program) (numbers : Numbers) (arguments : List (List ℕ)) (input : List ℕ) (m : Machine) (rows : List Row)
    (number : Path → ℕ) (limits : Limits) → IsSetUp (world_of p arguments rows number limits) p numbers m.image.code.now m.jumps
    → (ready : IsMadeReady p arguments input m) → RowsStay m.memory.rows rows → number [] ≡ 0
    → StartsIn p arguments rows number limits numbers input m ready.prepared.begins.0
starts_in code p numbers arguments input m rows number limits held ready stay zero bounded =
    let made = ready.prepared in
    let os = made.begins.0 in
    let world = world_with p arguments os rows number limits in
    let program : StandsProgram world p = record { functions = refl; main = refl; agree = refl; library = refl } in
    made.begins.2 rows number limits (meaning_of p numbers m.image.code.now) (main_values p world arguments) stay zero bounded
    (code p numbers m.image.code.now world held.whole.lawful held.code.code_of program) held.code.listed (made.given os rows number limits stay)

starts_as : StandsAsViewed → LawfulCodeStands → (p : Program) (numbers : Numbers) (arguments : List (List ℕ)) (input : List ℕ) (m : Machine) (rows : List Row)
    (number : Path → ℕ) (limits : Limits) → IsSetUp (world_of p arguments rows number limits) p numbers m.image.code.now m.jumps
    → IsMadeReady p arguments input m → RowsStay m.memory.rows rows → number [] ≡ 0 → StartIsWithin limits (standing_of p arguments) m
    → StartsAs (world_of p arguments rows number limits) (meaning_of p numbers m.image.code.now) input
    (main_values p (world_of p arguments rows number limits) arguments) m
starts_as viewed code p numbers arguments input m rows number limits held ready stay zero =
    let os = ready.prepared.begins.0 in
    subst (StartsIn p arguments rows number limits numbers input m) (viewed p arguments os ready.prepared.begins.1)
    (starts_in code p numbers arguments input m rows number limits held ready stay zero)

-- ---- the first frame
sees_main : (p : Program) (m : Machine) → IsUnstarted p m → SeesFunction m m.top p.main
sees_main p m is = record {
  code = is.sees.main;
  at = is.sees.at;
  blocks = is.sees.blocks;
  expressions = is.sees.expressions;
  above = omega (arith, is.sees.above, is.top.locals);
  places = is.places;
  own = subst (λ (s : Option Stage). IsOneOf is.sees.main.expressions s) (sym is.top.stage) tt;
}

first_kept : (world : World) (p : Program) (m : Machine) (f : Local) → IsUnstarted p m → KeepsFrame world m m.top [] f 0
first_kept world p m f is = record {
  begun = subst (λ (s : Option Stage). KeepsBegun world m 0 m.top s f.scene f.begun) (sym is.top.stage) tt;
  sees = subst (λ (g : Option ℕ). Sees m m.top (function_of g [])) (sym is.top.function) (sees_main p m is);
  turn = omega (arith, is.top.turn);
  base = omega (arith, is.top.base);
  lowest = λ none. is.top.base;
}

frames_kept : (world : World) (p : Program) (m : Machine) (st : State) → IsUnstarted p m
    → KeepFrames world m (m.top ∷ reverse m.below.items) (locals_of st) 0
frames_kept world p m st is =
    subst (λ (os : List Open). KeepFrames world m (m.top ∷ reverse os) (locals_of st) 0) (sym is.below) (first_kept world p m st.top is, tt)

-- ---- all together
module _ (viewed : StandsAsViewed) (stands : ViewStands) (code : LawfulCodeStands) (scoped : LawfulIsScoped) (main : MainIsDefined)
    (ordered : StartsOrdered) (reached : StartsReached) (kept : StartsWithin) where
  pub starts_going : StartsGoing
  starts_going p numbers arguments input m rows number limits count held ready stay zero counts few =
      let world = world_of p arguments rows number limits in
      let vs = main_values p world arguments in
      let same = counts (standing_of p arguments) (stands p arguments) in
      let bounded = start_within p arguments input m limits count held.world.limits ready same few in
      let started = starts_as viewed code p numbers arguments input m rows number limits held ready stay zero bounded in
      let st = started.0 in (
        st,
        started.1,
        record {
          program = ready.unstarted.program;
          set_up = held;
          stands = started.2;
          within = kept world input vs st started.1;
          ordered = ordered world input vs st (scoped p world held.whole.lawful refl) (main p world refl refl held.whole.main) started.1;
          reached = reached world input vs st started.1;
          frames = frames_kept world p m st ready.unstarted;
          few = omega arith;
        },
      )

pub starts_over : ViewStands → StartsOver
starts_over stands p arguments input vs rows number limits count is counts more =
    let world = world_of p arguments rows number limits in
    let os = standing_of p arguments in
    let n = created_after 0 (map (λ (o : Standing). o.decl) os) in
    let same : count ≡ n = counts os (stands p arguments) in
    ap (λ (o : Option (Cause × ℕ)). within o (started_run world (run world.rows (stand world os) (nothing_stands world input)) vs))
    (many limits is n (subst (λ (k : ℕ). 2 ^ 26 < k) same more)) ∙ ap (λ (k : ℕ). Over cause.Created k) (sym same)
