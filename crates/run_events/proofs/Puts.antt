-- What the store of a parameter does, under the rows of a world.
use Rattle.std.proofs.Common.{◌≡◌, ◌∙◌, ℕ, ap, List, length, slice_get, Option, Some}
use Rattle.std.specs.Prelude.{Result, Ok, Err, OnOk, IfErr}
use Rattle.ub_base.specs.declared.clause.Clause.{Clause}
use Rattle.ub_base.specs.declared.names.Item.{Item}
use Rattle.addr_map.specs.declared.map.Row.{Row}
use Rattle.c_types.specs.Types.{CType, type_of}
use Rattle.mem_spec.specs.Script.{Done, Raised, run}
use Rattle.mem_spec.specs.Streams.{Io}
use Rattle.mem_objects.specs.declared.cell.Via.{Via}
use Rattle.mem_objects.specs.declared.value.Value.{Value as Kept_value}
use Rattle.mem_objects.specs.Keeps.{Keeps, IsNumbered}
use Rattle.mem_objects.specs.Memory.{Kept, store_of}
use Rattle.mem_objects.specs.Sound.{IsSound}
use Rattle.c_model.specs.Nodes.{put}
use Rattle.c_model.specs.Values.{Nothing}
use Rattle.run_values.specs.declared.values.Pointer.{Pointer}
use Rattle.run_values.specs.Kept.{IsOf}
use Rattle.run_values.specs.Stores.{CanStore, SeesAs}
use Rattle.run_values.specs.Views.{value_in, pointer_at}
use Rattle.run_layout.specs.declared.steps.StoreCode.{StoreCode}
use Rattle.run_state.specs.declared.machine.Machine.{Machine}
use Rattle.run_state.specs.Stands.{IsVia, StandsTables}
use Rattle.run_answers.specs.Acts.{stored_by}
use Rattle.run_answers.specs.Performs.{store_in, CanPut, Puts}
use Rattle.run_answers.proofs.Doing.{cell_of}
use Rattle.run_answers.proofs.MoreRows.{put_more}
use Rattle.run_events.proofs.Stored.{each_at}
use Rattle.run_answers.proofs.Worlds.{in_rows, known_in}

module _ (m : Machine) (number : ℕ) (s : StoreCode) (via : Via) (p : Pointer) (v : Kept_value) (new : Kept)
    (store_there : slice_get m.image.code.now.tables.stores.items number ≡ Some s) (via_there : slice_get m.image.vias.items number ≡ Some via) where
  is_via : StandsTables m → IsVia m.memory s via
  is_via tables = each_at (IsVia m.memory) m.image.code.now.tables.stores.items m.image.vias.items number s via tables.vias store_there via_there

  pub put_keeps : IsSound m.memory → StandsTables m → IsOf m.memory v
      → (IsNumbered (length m.memory.types) via → IsSound m.memory → IsOf m.memory v → Keeps m.memory new) → Keeps m.memory new
  put_keeps sound tables of keeps = keeps (is_via tables).1 sound of

  module _ (rows : List Row) (t : List Item) (can : CanPut rows m p v) where
    script_is : run rows (stored_by rows (slice_get m.image.code.now.tables.stores.items number) (pointer_at p) (value_in m.memory v)) (store_in m)
        ≡ run m.memory.rows (put m.memory.rows s.initializing s.access (type_of s.ty.now) (pointer_at p) (value_in m.memory v)) (store_in m)
    script_is =
        ap (λ (o : Option StoreCode). run rows (stored_by rows o (pointer_at p) (value_in m.memory v)) (store_in m)) store_there
        ∙ put_more m.memory.rows rows can.extends (store_in m) (known_in m.memory m.streams can.sound) s.initializing s.access (type_of s.ty.now)
        (pointer_at p) (value_in m.memory v) (in_rows m.memory p.prov can.sound can.place)

    can_store : CanStore m.memory p v
    can_store = record { cell = cell_of m.memory p.prov can.place; named = can.sound.named; made = can.value.made }

    pub put_does : (r : Result (Unit {0}) Clause)
        → OnOk r (CanStore m.memory p v → (ty : CType) → SeesAs m.memory via s.access ty → (io : Io)
        → run m.memory.rows (put m.memory.rows s.initializing s.access ty (pointer_at p) (value_in m.memory v)) (store_of m.memory io)
        ≡ Done Nothing t (store_of new io))
        → IfErr r (λ c. CanStore m.memory p v → (ty : CType) → SeesAs m.memory via s.access ty → (io : Io)
        → run m.memory.rows (put m.memory.rows s.initializing s.access ty (pointer_at p) (value_in m.memory v)) (store_of m.memory io) ≡ Raised c)
        → Puts rows m (record m { memory = new; spare = t })
        (stored_by rows (slice_get m.image.code.now.tables.stores.items number) (pointer_at p) (value_in m.memory v)) r
    put_does (Ok u) done raised = script_is ∙ done can_store (type_of s.ty.now) (is_via can.tables).0 m.streams
    put_does (Err c) done raised = script_is ∙ raised can_store (type_of s.ty.now) (is_via can.tables).0 m.streams
