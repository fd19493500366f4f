-- A machine before its first pick.
use Rattle.std.proofs.Common.{◌≡◌, ℕ, true, refl, sym, ap, ap₂, ◌∙◌, subst, List, [], ◌∷◌, map, reverse, slice_get, Option, Some, None}
use Rattle.std.specs.Borrow.{Bor}
use Rattle.std.specs.List.{All}
use Rattle.std.specs.Prelude.{is_some}
use Rattle.addr_map.specs.Sound.{Above}
use Rattle.c_types.specs.Types.{type_of}
use Rattle.c_typed.specs.Lawful.{ContentIsLawful}
use Rattle.c_typed.specs.declared.program.Program.{Program}
use Rattle.mem_spec.specs.Script.{Act, Done, run}
use Rattle.mem_spec.specs.Store.{Store}
use Rattle.mem_spec.specs.Streams.{Io, silent}
use Rattle.mem_objects.specs.Keeps.{Keeps, AreBare}
use Rattle.mem_objects.specs.Memory.{Kept, store_of, empty}
use Rattle.mem_objects.specs.Sound.{IsSound}
use Rattle.mem_objects.specs.Tags.{AreTagged}
use Rattle.prov_memory.proofs.KeepLemmas.{keeps_then}
use Rattle.mem_objects.proofs.SoundLemmas.{empty_sound}
use Rattle.c_model.specs.Values.{Value, Nothing}
use Rattle.c_model.specs.World.{World}
use Rattle.c_model.specs.Control.{To_do, ready_work}
use Rattle.c_model.specs.Steps.{body_of}
use Rattle.c_model.specs.Runs.{State, Running, limit_passed, main_frame, nothing_stands, stand, start, started_run, within, work_of}
use Rattle.mem_objects.specs.declared.cell.Via.{Via}
use Rattle.run_values.specs.declared.places.Places.{Places}
use Rattle.run_values.specs.declared.filling.Filling.{Filling}
use Rattle.run_standing.specs.Standing.{StartStands, program_name}
use Rattle.run_values.specs.Placed.{ArePlaced}
use Rattle.run_standing.proofs.Stands.{stands_so}
use Rattle.run_values.proofs.Placed.{can_hold_all, placed_still}
use Rattle.run_control.specs.declared.statement.Statement.{Statement}
use Rattle.run_control.specs.declared.work.Work.TheVariants as work
use Rattle.run_control.specs.Stacked.{Stacked}
use Rattle.run_control.specs.View.{Meaning, stmt_of, todo_of}
use Rattle.run_layout.specs.declared.whole.Code.{Code}
use Rattle.run_layout.specs.declared.steps.FunctionCode.{FunctionCode}
use Rattle.run_state.specs.declared.machine.Machine.{Machine}
use Rattle.run_state.specs.declared.machine.Open.{Open}
use Rattle.run_state.specs.declared.machine.Stage.{Stage}
use Rattle.run_state.specs.Meaning.{world_with, AccessSuits, StandsProgram, StandsCode}
use Rattle.run_state.specs.Stands.{AreBytes, AreEach, HoldsAll, IsResultOf, IsVia, StandFrames, StandsBegun, StandsFrame, StandsTables, frames_of, result_seen}
use Rattle.run_start.specs.Begins.{AreBytesWhere, BeginsAsDefined, IsFirst, IsNamedVia, StartIsWithin, StartsMain}
use Rattle.run_start.proofs.Each.{each_where}
use Rattle.run_start.proofs.Vias.{named_seen}

-- ---- the body of `main` is to be done
pub main_starts : (code : Code) (p : Program) (c : FunctionCode) (b : Bor Statement) (s : Stacked) → slice_get code.functions.items p.main ≡ Some (Some c) →
    b.now ≡ c.body → s.below ≡ [] ∷ [] → s.now ≡ work.ToDo b ∷ [] → StartsMain code p s
main_starts code p c b s at is below now = (c, at, b, is, stacked s (work.ToDo b ∷ []) below now)
  where
    stacked : (t : Stacked) (ws : List _) → t.below ≡ [] ∷ [] → t.now ≡ ws → t ≡ record { below = [] ∷ []; now = ws }
    stacked t ws d e = λ i. record { below = d i; now = e i }

-- ---- what a machine is made of
pub record Parts (old first : Kept) (p : Program) (args : List (List ℕ)) (input : List ℕ) (m : Machine) : Type 0 where
  pub program : m.program.now ≡ p
  pub started : StartStands old first p (program_name ∷ args)
  pub placed : ArePlaced first p m.places
  pub before : Keeps old first
  pub since : Keeps first m.memory
  pub store : (io : Io) → store_of m.memory io ≡ store_of first io
  pub vias : AreEach (IsNamedVia m.memory) m.image.code.now.tables.stores.items m.image.vias.items
  pub fillings : AreEach (AreBytesWhere m.memory m.places) m.image.code.now.tables.constants.items m.image.fillings.items
  pub streams : m.streams ≡ record { input = input; position = 0; output = silent }
  pub below : m.below.items ≡ []
  pub top : IsFirst p m.top
  pub work : StartsMain m.image.code.now p m.work
  pub depth : m.depth ≡ 1
  pub left : m.left ≡ None

-- from those of which it was made
pub assembled_parts : (old first : Kept) (p : Program) (args : List (List ℕ)) (input : List ℕ) (m : Machine) (places : Places) (memory : Kept) (code : Code)
    (vias : List Via) (fillings : List (List Filling)) (top : Open) (does : Stacked) → m.program.now ≡ p → m.places ≡ places → m.memory ≡ memory →
    m.image.code.now ≡ code → m.image.vias.items ≡ vias → m.image.fillings.items ≡ fillings → m.top ≡ top → m.work ≡ does →
    m.streams ≡ record { input = input; position = 0; output = silent } → m.below.items ≡ [] → m.depth ≡ 1 → m.left ≡ None →
    StartStands old first p (program_name ∷ args) → ArePlaced first p places → Keeps old first → Keeps first memory →
    ((io : Io) → store_of memory io ≡ store_of first io) → AreEach (IsNamedVia memory) code.tables.stores.items vias →
    AreEach (AreBytesWhere memory places) code.tables.constants.items fillings → IsFirst p top →
    StartsMain code p does → Parts old first p args input m
assembled_parts old first p args input m places memory code vias fillings top does is_p is_places is_memory is_code is_vias is_fillings is_top is_work
    is_streams is_below is_depth is_left started placed before since stored are_vias are_fillings is_first starts = record {
      program = is_p;
      started = started;
      placed = subst (λ (q : Places). ArePlaced first p q) (sym is_places) placed;
      before = before;
      since = subst (λ (k : Kept). Keeps first k) (sym is_memory) since;
      store = λ io. ap (λ (k : Kept). store_of k io) is_memory ∙ stored io;
      vias = subst (λ (vs : List Via). AreEach (IsNamedVia m.memory) m.image.code.now.tables.stores.items vs) (sym is_vias)
          (subst (λ (k : Code). AreEach (IsNamedVia m.memory) k.tables.stores.items vias) (sym is_code)
          (subst (λ (k : Kept). AreEach (IsNamedVia k) code.tables.stores.items vias) (sym is_memory) are_vias));
      fillings = subst (λ (fs : List (List Filling)). AreEach (AreBytesWhere m.memory m.places) m.image.code.now.tables.constants.items fs) (sym is_fillings)
          (subst (λ (k : Code). AreEach (AreBytesWhere m.memory m.places) k.tables.constants.items fillings) (sym is_code)
          (subst (λ (k : Kept). AreEach (AreBytesWhere k m.places) code.tables.constants.items fillings) (sym is_memory)
          (subst (λ (q : Places). AreEach (AreBytesWhere memory q) code.tables.constants.items fillings) (sym is_places) are_fillings)));
      streams = is_streams;
      below = is_below;
      top = subst (λ (o : Open). IsFirst p o) (sym is_top) is_first;
      work = subst (λ (w : Stacked). StartsMain m.image.code.now p w) (sym is_work) (subst (λ (k : Code). StartsMain k p does) (sym is_code) starts);
      depth = is_depth;
      left = is_left;
    }

-- the rest of it doesn't matter
pub parts_after : (old first : Kept) (p : Program) (args : List (List ℕ)) (input : List ℕ) (m n : Machine) → n ≡ record m { locals = n.locals } →
    Parts old first p args input m → Parts old first p args input n
parts_after old first p args input m n e parts = subst (λ (k : Machine). Parts old first p args input k) (sym e) (record {
  program = parts.program;
  started = parts.started;
  placed = parts.placed;
  before = parts.before;
  since = parts.since;
  store = parts.store;
  vias = parts.vias;
  fillings = parts.fillings;
  streams = parts.streams;
  below = parts.below;
  top = parts.top;
  work = parts.work;
  depth = parts.depth;
  left = parts.left;
})

-- ---- the store of a memory in which nothing was created
nothing_yet : (world : World) (old : Kept) (io : Io) (input : List ℕ) → old ≡ empty old.rows old.mode →
    io ≡ record { input = input; position = 0; output = silent } → store_of old io ≡ nothing_stands world input
nothing_yet world old io input e f = ap₂ store_of e f

-- ---- the definitions start
starts_with : (world : World) (input : List ℕ) (vs : List Value) (m : Machine) (s u : Store) → s ≡ nothing_stands world input →
    StartIsWithin world.limits world.program.standing m → u ≡ store_of m.memory m.streams → (is : List _) →
    run world.rows (stand world world.program.standing) s ≡ Done Nothing is u →
    start world input vs ≡ Running (record { top = main_frame world vs; held = []; store = u; trace = [] })
starts_with world input vs m s u nothing limits same is runs =
    ap (λ (o : Option _). within o (started_run world (run world.rows (stand world world.program.standing) (nothing_stands world input)) vs)) limits.objects
    ∙ ap (λ (t : Store). started_run world (run world.rows (stand world world.program.standing) t) vs) (sym nothing)
    ∙ ap (λ (a : Act Value). started_run world a vs) runs
    ∙ ap (λ (o : Option _). within o (Running (record { top = main_frame world vs; held = []; store = u; trace = [] })))
    (ap (λ (t : Store). limit_passed world.limits 1 t) same ∙ limits.rest)

-- ---- the first frame
none_begun : {A : Type 0} (o : Option A) → o ≡ None → is_some o ≡ true → ⊥
none_begun None n e = cc
none_begun (Some x) n e = cc

first_stands : (world : World) (meaning : Option ℕ → Meaning) (p : Program) (m : Machine) (vs : List Value) (c : FunctionCode) (b : Bor Statement) →
    world.program.main ≡ p.main → world.number [] ≡ 0 → IsFirst p m.top → HoldsAll m.memory m.values.items 0 vs → b.now ≡ c.body →
    body_of world (Some p.main) ≡ Some (stmt_of (meaning (Some p.main)) c.body) →
    StandsFrame world (meaning m.top.function) m 0 m.top (work.ToDo b ∷ []) None (main_frame world vs) None
first_stands world meaning p m vs c b main zero first held is body = record {
  number = first.number ∙ sym zero;
  turn = first.turn;
  function = first.function ∙ ap Some (sym main);
  arguments = subst (λ (n : ℕ). HoldsAll m.memory m.values.items n vs) (sym first.base) held;
  locals = tt;
  result = sym (ap (λ (f : Option ℕ). result_seen m.memory f None) first.function);
  control = record {
    ready = ap ready_work (ap (λ (f : Option ℕ). todo_of (meaning f) (work.ToDo b ∷ [])) first.function
        ∙ ap (λ (s : Statement). To_do (stmt_of (meaning (Some p.main)) s) ∷ []) is
        ∙ sym (ap (work_of world) (ap (λ (n : ℕ). body_of world (Some n)) main ∙ body)));
    behind = λ e. absurd (none_begun (main_frame world vs).begun refl e);
  };
  begun = subst (λ (s : Option Stage). StandsBegun world (meaning m.top.function) m 0 m.top s (main_frame world vs).scene None None) (sym first.stage) refl;
}

-- ---- all together
tables_stand : (first : Kept) (p : Program) (m : Machine) → ArePlaced first p m.places → Keeps first m.memory → m.program.now ≡ p →
    AreEach (IsNamedVia m.memory) m.image.code.now.tables.stores.items m.image.vias.items →
    AreEach (AreBytesWhere m.memory m.places) m.image.code.now.tables.constants.items m.image.fillings.items →
    All (λ s. AccessSuits s.access (type_of s.ty.now)) m.image.code.now.tables.stores.items →
    All (λ cs. All (λ c. ContentIsLawful p c.content) cs.now) m.image.code.now.tables.constants.items → StandsTables m
tables_stand first p m placed since is vias fillings suits lawful =
    let there = placed_still first m.memory p m.places since placed in
    record {
      places = subst (λ (q : Program). ArePlaced m.memory q m.places) (sym is) there;
      vias = each_where (λ s. AccessSuits s.access (type_of s.ty.now)) (IsNamedVia m.memory) (IsVia m.memory) m.image.code.now.tables.stores.items
          m.image.vias.items
          (λ s via suit named. named_seen m.memory s.access (type_of s.ty.now) via suit named) suits vias;
      fillings = each_where (λ cs. All (λ c. ContentIsLawful p c.content) cs.now) (AreBytesWhere m.memory m.places) (AreBytes m.memory)
          m.image.code.now.tables.constants.items m.image.fillings.items (λ cs fs law can. can (can_hold_all m.memory p m.places cs.now there law)) lawful
          fillings;
    }

frames_stand : (world : World) (meaning : Option ℕ → Meaning) (m : Machine) (st : State) (b : Bor Statement) → m.left ≡ None → m.below.items ≡ [] →
    m.work ≡ record { below = [] ∷ []; now = work.ToDo b ∷ [] } → st.held ≡ [] → st.top.scene.path ≡ [] → st.top.scene.home ≡ [] →
    StandsFrame world (meaning m.top.function) m 0 m.top (work.ToDo b ∷ []) None st.top None →
    StandFrames world meaning m m.left (m.top ∷ reverse m.below.items) (m.work.now ∷ m.work.below) (frames_of st)
frames_stand world meaning m st b left below does held path home frame =
    subst (λ (l : Option _). StandFrames world meaning m l (m.top ∷ reverse m.below.items) (m.work.now ∷ m.work.below) (frames_of st)) (sym left)
    (subst (λ (os : List Open). StandFrames world meaning m None (m.top ∷ reverse os) (m.work.now ∷ m.work.below) (frames_of st)) (sym below)
    (subst (λ (w : Stacked). StandFrames world meaning m None (m.top ∷ []) (w.now ∷ w.below) (frames_of st)) (sym does)
    (subst (λ (hs : List _). StandFrames world meaning m None (m.top ∷ []) ((work.ToDo b ∷ []) ∷ [] ∷ []) ((st.top, None) ∷ map (λ h. (h.0, Some h.1)) hs))
    (sym held) (frame, (path, home), refl))))

pub begins : (old first : Kept) (p : Program) (args : List (List ℕ)) (input : List ℕ) (m : Machine) → old ≡ empty old.rows old.mode →
    Above 16777216 old.rows → Parts old first p args input m → BeginsAsDefined p args input m
begins old first p args input m nothing high parts =
    let all = keeps_then old first m.memory parts.before parts.since in
    let os = parts.started.0 in (
      os,
      parts.started.1,
      λ rows number limits meaning vs stay zero within code listed held.
          let world = world_with p args os rows number limits in
          let c = parts.work.0 in
          let b = parts.work.2 in
          let u = store_of m.memory m.streams in
          let steps = parts.started.2 rows (λ x r e. stay x r (parts.since.rows x r e)) m.streams in
          let done = stands_so world os (store_of old m.streams) steps.0 (store_of first m.streams) steps.1 steps.2 in
          let st : State = record { top = main_frame world vs; held = []; store = u; trace = [] } in (
            st,
            starts_with world input vs m (store_of old m.streams) u (nothing_yet world old m.streams input nothing parts.streams) within refl done.0
                (done.1 ∙ ap (λ (t : Store). Done Nothing done.0 t) (sym (parts.store m.streams))),
            record {
              program = subst (λ (q : Program). StandsProgram world q) (sym parts.program)
                  (record { functions = refl; main = refl; agree = refl; library = refl });
              code = subst (λ (q : Program). StandsCode world q m.image.code.now meaning) (sym parts.program) code;
              listed = listed;
              memory = record {
                store = refl;
                sound = all.sound (subst (λ (k : Kept). IsSound k) (sym nothing) (empty_sound old.rows old.mode));
                tagged = all.tagged (subst (λ (k : Kept). AreTagged k) (sym nothing) tt);
                bare = all.bare (subst (λ (k : Kept). AreBare k) (sym nothing) (λ x. tt));
                high = all.high high;
                rows = stay;
              };
              tables = tables_stand first p m parts.placed parts.since parts.program parts.vias parts.fillings code.stores code.constants;
              frames = frames_stand world meaning m st b parts.left parts.below parts.work.4 refl refl refl
                  (first_stands world meaning p m vs c b refl zero parts.top held parts.work.3 (code.body p.main c parts.work.1));
              result = subst (IsResultOf m.memory) (sym parts.left) tt;
              depth = parts.depth;
            },
          ),
    )
