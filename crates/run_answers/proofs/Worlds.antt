-- What acts do under the rows of a memory they do under those of a world.
use Rattle.std.proofs.Common.{◌≡◌, ◌∙◌, ℕ, refl, ap, sym, subst, List, [], ◌∷◌, map, Option, Some, None}
use Rattle.std.specs.Borrow.{Bor}
use Rattle.std.specs.Option.{ForSome}
use Rattle.ub_base.specs.declared.names.Event.{Event}
use Rattle.ub_base.specs.declared.names.ObjName.{ObjName}
use Rattle.ub_base.specs.declared.names.ObjName.TheVariants.{Static, Lit}
use Rattle.addr_map.specs.declared.map.Row.{Row}
use Rattle.exposure.specs.declared.prov.Prov.{Prov}
use Rattle.exposure.specs.declared.prov.Prov.TheVariants.{Empty, Whole, Either}
use Rattle.c_types.specs.Types.{type_of}
use Rattle.mem_spec.specs.Acts.{base_in, origin_in}
use Rattle.mem_spec.specs.Bytes.{pointer_bytes}
use Rattle.mem_spec.specs.Script.{run}
use Rattle.mem_spec.specs.Streams.{Io}
use Rattle.mem_laws.specs.MoreRows.{Extends, AreIn}
use Rattle.mem_objects.specs.declared.cell.Cell.{Cell}
use Rattle.mem_objects.specs.declared.cell.State.{State}
use Rattle.mem_objects.specs.declared.cell.State.TheVariants as states
use Rattle.mem_objects.specs.Cells.{byte_in_state, cell_at}
use Rattle.mem_objects.specs.Held.{Held, held_of}
use Rattle.mem_objects.specs.Made.{IsMade}
use Rattle.mem_objects.specs.Memory.{Kept, store_of, tagged_in_object}
use Rattle.mem_objects.specs.Sound.{IsSound}
use Rattle.mem_objects.proofs.SoundLemmas.{objects_have_rows}
use Rattle.c_typed.specs.declared.program.Constant.{Constant}
use Rattle.c_typed.specs.declared.program.Content.{Content}
use Rattle.c_typed.specs.declared.program.Content.TheVariants as content
use Rattle.c_typed.specs.declared.tree.Target.{Target}
use Rattle.c_typed.specs.declared.tree.Target.TheVariants as target
use Rattle.c_model.specs.Nodes.{content_bytes}
use Rattle.c_model.specs.Program.{Object_at}
use Rattle.c_model.specs.Values.{Value, address_after, pointer_of}
use Rattle.run_values.specs.Contents.{address_of, content_of, filled_by, CanHold, CanHoldAll, IsPlaced, StandsAt}
use Rattle.run_layout.specs.declared.steps.Act.{Act}
use Rattle.run_layout.specs.declared.steps.Act.TheVariants as act
use Rattle.run_layout.specs.declared.steps.Operand.{Operand}
use Rattle.run_layout.specs.declared.steps.StoreCode.{StoreCode}
use Rattle.run_state.specs.declared.machine.Machine.{Machine}
use Rattle.run_answers.specs.Acts.{filled_from, given_by, stored_by, value_script, AreGiven, IsGiven}
use Rattle.run_answers.specs.Performs.{store_in}
use Rattle.run_answers.proofs.Doing.{given_value, made_in}
use Rattle.run_answers.proofs.MoreRows.{Known, OriginIn, SameContents, load_more, convert_more, unary_more, outcome_more, part_more, call_more}
use Rattle.run_answers.proofs.MoreRows.{shifted_more, member_more}
use Rattle.run_answers.proofs.MoreRows.{difference_more, relational_more, fill_more, put_more, update_more}

-- ---- what a sound memory knows of its rows
pub in_rows : (m : Kept) (p : Prov) → IsSound m → IsMade m p → AreIn m.rows p
in_rows m Empty sound made = tt
in_rows m (Whole x) sound made = sound.rowed x made
in_rows m (Either id past start) sound made = (sound.rowed past made.1.1.0, sound.rowed start made.1.1.1)

pieces_in_rows : (m : Kept) (sound : IsSound m) (o : Option Held) (at : ℕ) → OriginIn m.rows (origin_in (tagged_in_object m.origins m.types o at).byte)
pieces_in_rows m sound None at = tt
pieces_in_rows m sound (Some h) at = go (cell_at h.cells at) (cell_at h.cells at).state
  where
    go : (c : Cell) (s : State) → OriginIn m.rows (origin_in (byte_in_state m.origins s c))
    go c states.Unwritten = tt
    go c states.Plain = tt
    go c states.Piece = in_rows m _ sound (sound.made c.origin.number)

pub known_in : (m : Kept) (io : Io) → IsSound m → Known m.rows (store_of m io)
known_in m io sound = record {
  stand = λ x h. objects_have_rows m io x sound h;
  pieces = λ x at. pieces_in_rows m sound (held_of m.objects x) at;
}

pub reaches : (m : Machine) (o : Operand) → IsSound m.memory → IsGiven m o → AreIn m.memory.rows (pointer_of (given_by m o)).prov
reaches m o sound g =
    in_rows m.memory (pointer_of (given_by m o)).prov sound
    (subst (λ (v : Value). IsMade m.memory (pointer_of v).prov) (sym (given_value m o g.0 g.1)) (made_in m.memory g.0 g.2.made))

-- ---- acts that give a value
module _ (m : Machine) (rows : List Row) (ext : Extends m.memory.rows rows) (sound : IsSound m.memory) (who : Event) where
  abbrev few : List Row
  few = m.memory.rows

  known : Known few (store_in m)
  known = known_in m.memory m.streams sound

  pub value_same : (a : Act) → AreGiven m who a
      → run rows (value_script rows who (given_by m) a) (store_in m) ≡ run few (value_script few who (given_by m) a) (store_in m)
  value_same (act.Load how ty place) g =
      load_more few rows ext (store_in m) known who how (type_of ty.now) (pointer_of (given_by m place)) (reaches m place sound g)
  value_same (act.Convert c o) g = convert_more few rows ext (store_in m) known who c (given_by m o)
  value_same (act.Unary op o) g = unary_more few rows ext (store_in m) known op (given_by m o)
  value_same (act.Binary op kind a b) g = outcome_more few rows ext (store_in m) known _
  value_same (act.Part offset how o) g = part_more few rows ext (store_in m) known who offset how (given_by m o)
  value_same (act.Same o) g = refl
  value_same (act.Logical either a b) g = refl
  value_same (act.Selected test a b) g = refl
  value_same (act.Change c old ty place o room) g =
      update_more few rows ext (store_in m) known who c old (type_of ty.now) (pointer_of (given_by m place)) _ (reaches m place sound g.0)
  value_same (act.Answer discarded) g = call_more few rows ext (store_in m) known discarded _
  value_same (act.Move size subtract p i) g = shifted_more few rows ext (store_in m) known (pointer_of (given_by m p)) _ (reaches m p sound g.0)
  value_same (act.Distance size a b) g = difference_more few rows ext (store_in m) known size (pointer_of (given_by m a)) (pointer_of (given_by m b))
  value_same (act.Related op pointers a b) g = relational_more few rows ext (store_in m) known op pointers (given_by m a) (given_by m b)
  value_same (act.Equal op a b) g = refl
  value_same (act.Member offset p) g = member_more few rows ext (store_in m) known offset (pointer_of (given_by m p)) (reaches m p sound g)
  value_same (act.Store n place value) g = refl
  value_same (act.Call n) g = refl
  value_same (act.Initialize n) g = refl
  value_same act.Nothing g = refl
  value_same (act.Fill object n) g = refl

-- ---- stores
module _ (m : Machine) (rows : List Row) (ext : Extends m.memory.rows rows) (sound : IsSound m.memory) where
  pub stored_same : (s : Option StoreCode) (place value : Operand) → IsGiven m place
      → run rows (stored_by rows s (pointer_of (given_by m place)) (given_by m value)) (store_in m)
      ≡ run m.memory.rows (stored_by m.memory.rows s (pointer_of (given_by m place)) (given_by m value)) (store_in m)
  stored_same None place value g = refl
  stored_same (Some s) place value g =
      put_more m.memory.rows rows ext (store_in m) (known_in m.memory m.streams sound) s.initializing s.access (type_of s.ty.now)
      (pointer_of (given_by m place)) (given_by m value) (reaches m place sound g)

  placed_bytes : (x : ObjName) (offset : ℕ) (addresses : List ℕ) (k : ℕ) → StandsAt m.memory x addresses k
      → content_bytes rows (Object_at x offset) ≡ content_bytes m.memory.rows (Object_at x offset)
  placed_bytes x offset addresses k at =
      let row = at.2.named in
      ap (λ (o : Option Row). pointer_bytes 8 0 (Whole x) (address_after (base_in o) offset)) (ext.rows x at.2.row row ∙ sym row)

  address_bytes : (t : Target) (offset : ℕ) → IsPlaced m.memory m.places t
      → content_bytes rows (address_of t offset) ≡ content_bytes m.memory.rows (address_of t offset)
  address_bytes (target.Static k) offset at = placed_bytes (Static k) offset m.places.objects k at
  address_bytes (target.Literal k) offset at = placed_bytes (Lit k) offset m.places.literals k at
  address_bytes (target.Function k) offset at = refl

  bytes_same : (c : Content) → CanHold m.memory m.places c → content_bytes rows (content_of c) ≡ content_bytes m.memory.rows (content_of c)
  bytes_same (content.Zeros n) h = refl
  bytes_same (content.Bytes bs) h = refl
  bytes_same (content.Address t offset) h = address_bytes t offset h

  contents_same : (cs : List Constant) → CanHoldAll m.memory m.places cs → SameContents m.memory.rows rows ext (map filled_by cs)
  contents_same [] h = tt
  contents_same (c ∷ cs) h = (bytes_same c.content h.0, contents_same cs h.1)

  pub filled_same : (cs : Option (Bor (List Constant))) (object : Operand) → ForSome cs (λ c. CanHoldAll m.memory m.places c.now) → IsGiven m object
      → run rows (filled_from rows cs (pointer_of (given_by m object))) (store_in m)
      ≡ run m.memory.rows (filled_from m.memory.rows cs (pointer_of (given_by m object))) (store_in m)
  filled_same None object h g = refl
  filled_same (Some cs) object h g =
      fill_more m.memory.rows rows ext (store_in m) (known_in m.memory m.streams sound) (pointer_of (given_by m object)) (map filled_by cs.now)
      (reaches m object sound g) (contents_same cs.now (h cs refl))
