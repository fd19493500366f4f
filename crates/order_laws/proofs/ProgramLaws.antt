-- The laws of a program's frames, and what follows for the orders of its machine.
use Rattle.std.proofs.Common.{◌≡◌, ℕ, ◌^◌, ◌<◌, ◌≤◌, Bool, true, false, ◌&&◌, nat_le, List, [], length, Some, refl, ap, arith}
use Rattle.std.proofs.lemmas.Bool.Decides.{nat_tests}
use Rattle.std.specs.Prelude.{is_some}
use Rattle.ub_base.specs.declared.names.ObjName.{ObjName}
use Rattle.ub_base.specs.declared.names.Item.{Item}
use Rattle.mem_spec.specs.Store.{Store}
use Rattle.mem_spec.specs.Script.{Act, Done, Raised, Ended, Outside, Unplaced, run}
use Rattle.mem_laws.specs.Frame.{gives, finishes, bears}
use Rattle.mem_spec.specs.Streams.{total}
use Rattle.c_model.specs.World.{World}
use Rattle.c_model.specs.Values.{Value}
use Rattle.c_model.specs.Steps.{Local, Pick, does}
use Rattle.c_model.specs.Findings.{clash}
use Rattle.c_model.specs.Machine.{Does}
use Rattle.c_model.specs.MachineLaws.{Keeps}
use Rattle.c_model.specs.ModelMachine.{frame_machine}
use Rattle.c_model.proofs.FramesKeep.{frame_laws, order_laws, update_laws}
use Rattle.machine_laws.specs.Orders as orders
use Rattle.machine_laws.specs.Orders.{going, Order}
use Rattle.machine_laws.specs.Cuts.{Result, RunsTo}
use Rattle.machine_laws.specs.EveryOrder.{EndLaws}
use Rattle.machine_laws.specs.Limits.{store_of, Shrinks}
use Rattle.order_laws.specs.FrameEnds.{weight, ended_by, frame_ends, program_machine, program_ends}
use Rattle.order_laws.specs.StrictItems.{backed}
use Rattle.order_laws.specs.StoreParts.{store_parts}
use Rattle.order_laws.specs.Asking.{LibraryAsked}
use Rattle.order_laws.specs.ProgramTells.{ActsKeepLaws, ProgramOrdersTell, told_machine, told_ends}
use Rattle.machine_laws.proofs.Depth.{was, deep_store, deep_frame, deep_order, deep_update, deep_end}
use Rattle.order_laws.proofs.ProgramAsks.{acts_ask, acts_count}
use Rattle.order_laws.proofs.ProgramEnds.{end_laws}
use Rattle.order_laws.proofs.ProgramTold.{done_was, tells}
use Rattle.order_laws.proofs.StoreKeeps.{store_laws}
use Rattle.machine_laws.proofs.Told.{as_runs, as_order, every_order_tells}
use Rattle.machine_laws.proofs.Within.{stays_within}
use Rattle.order_laws.proofs.RunLimits.{Fits, script_grows}

pub acts_keep : ActsKeepLaws
acts_keep world asked = store_laws world (acts_count world asked)

-- of the machine with the limit on depth
module _ (world : World) (asked : LibraryAsked world) where
  pub keeps : Keeps (program_machine world (store_parts world.rows))
  keeps =
      let parts = store_parts world.rows in
      let stores = acts_keep world asked in
      let m = frame_machine world parts in
      let e = frame_ends world in
      let fl = frame_laws world parts in
      let ol = order_laws world parts in
      let ul = update_laws world parts in
      let el = end_laws world parts in (
        deep_store m e weight world.limits.depth stores fl ol ul el,
        deep_frame m e weight world.limits.depth stores fl ol ul el,
        deep_order m e weight world.limits.depth stores fl ol ul el,
        deep_update m e weight world.limits.depth stores fl ol ul el,
      )

  pub ends_keep : EndLaws (program_machine world (store_parts world.rows)) (program_ends world (store_parts world.rows))
  ends_keep =
      let parts = store_parts world.rows in
      deep_end (frame_machine world parts) (frame_ends world) weight world.limits.depth (acts_keep world asked) (frame_laws world parts)
      (order_laws world parts) (update_laws world parts) (end_laws world parts)

  abbrev lives : ObjName → Store → Bool
  lives x s = is_some (s.life x)

pub orders_tell : ProgramOrdersTell
orders_tell world asked f s k o s' run b ps ord =
    every_order_tells (program_machine world (store_parts world.rows)) (program_ends world (store_parts world.rows)) (clash world.rows) bears
    (lives world asked) backed
    (tells world (acts_ask world asked)) (keeps world asked) (ends_keep world asked) f s k o s' run b ps ord

ended_was : (a : Act Value) (n : ℕ) (is : List Item) (s1 : Store) → ended_by a ≡ Some (record { number = n; items = is; store = s1 }) → a ≡ Ended n is s1
ended_was (Ended m js t) n is s1 h = (let e = same _ _ h in ap (λ d. Ended d.number d.items d.store) e)
  where
    same : (a b : orders.Stopped ℕ Store Item) → Some a ≡ Some b → a ≡ b
    same a b e = cc
ended_was (Done v js t) n is s1 h = absurd (cc)
ended_was (Raised c) n is s1 h = absurd (cc)
ended_was (Outside c m) n is s1 h = absurd (cc)
ended_was Unplaced n is s1 h = absurd (cc)

-- the limits on the store
module _ (world : World) (small : world.limits.created < 2 ^ 62) where
  abbrev within : Store → Bool
  within s = nat_le s.created world.limits.created && nat_le (total s.output) world.limits.output

  le_of : (a b : ℕ) → nat_le a b ≡ true → a ≤ b
  le_of a b h = grind (arith, nat_tests, h)

  to_le : (a b : ℕ) → a ≤ b → nat_le a b ≡ true
  to_le a b h = grind (arith, nat_tests, h)

  and_l : (a b : Bool) → (a && b) ≡ true → a ≡ true
  and_l true b h = refl
  and_l false b h = h

  and_r : (a b : Bool) → (a && b) ≡ true → b ≡ true
  and_r true b h = h
  and_r false b h = absurd (cc)

  and_b : (a b : Bool) → a ≡ true → b ≡ true → (a && b) ≡ true
  and_b true b h k = k
  and_b false b h k = h

  to_fits : (s : Store) → within s ≡ true → Fits world small s
  to_fits s h = record {
    created_at_most = le_of s.created world.limits.created (and_l (nat_le s.created world.limits.created) _ h);
    output_at_most = le_of (total s.output) world.limits.output (and_r (nat_le s.created world.limits.created) _ h);
  }

  of_fits : (s : Store) → Fits world small s → within s ≡ true
  of_fits s w = and_b _ _ (to_le s.created world.limits.created w.created_at_most) (to_le (total s.output) world.limits.output w.output_at_most)

  shrinks : Shrinks (program_machine world (store_parts world.rows)) (program_ends world (store_parts world.rows)) within
  shrinks = record {
    does_less = λ f p s v is s1 d w.
        of_fits s (script_grows world.rows (does world f.0 f.0.begun p) s (gives v) is s1 world.limits.created world.limits.output small
        (ran f p s v is s1 d) (to_fits s1 w));
    ends_less = λ f p s n is s1 e w.
        of_fits s (script_grows world.rows (does world f.0 f.0.begun p) s (finishes n) is s1 world.limits.created world.limits.output small
        (ended_was (run world.rows (does world f.0 f.0.begun p) s) n is s1 e) (to_fits s1 w));
  }
    where
      ran : (f : Local × ℕ) (p : Pick) (s : Store) (v : Value) (is : List Item) (s1 : Store)
          → Does (program_machine world (store_parts world.rows)) f p s v is s1
          → run world.rows (does world f.0 f.0.begun p) s ≡ Done v is s1
      ran f p s v is s1 h =
          let m = frame_machine world (store_parts world.rows) in
          done_was (run world.rows (does world f.0 f.0.begun p) s) v is s1
          (was m (frame_ends world) weight world.limits.depth f.1 (m.move f.0 p) (m.does f.0 p s) (record { value = v; items = is; store = s1 }) h)

  pub stays_fit : LibraryAsked world → (f : Local × ℕ) (s : Store) (k : ℕ) (o : Result Value ℕ) (s' : Store)
      → RunsTo (told_machine world) (told_ends world) f s k o s' → Fits world small s'
      → (b : orders.State (Local × ℕ) Pick Value ℕ Store Item) (ps : List Pick) → Order (told_machine world) (told_ends world) (going f [] [] s) ps b
      → Fits world small (store_of b)
  stays_fit asked f s k o s' rn w b ps ord =
      let m = program_machine world (store_parts world.rows) in
      let e = program_ends world (store_parts world.rows) in
      let t = tells world (acts_ask world asked) in
      let kp = keeps world asked in
      to_fits (store_of b)
      (stays_within m e within shrinks kp.0 kp.1 kp.2 kp.3 (ends_keep world asked) f s k o s'
      (as_runs m e (clash world.rows) bears (lives world asked) backed t f s k o s' rn) (of_fits s' w) b ps
      (as_order m e (clash world.rows) bears (lives world asked) backed t (going f [] [] s) b ps ord))
