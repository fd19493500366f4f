-- Members of structure values as acts of nodes.
use Rattle.std.proofs.Common.{◌≡◌, ℕ, ◌+◌, ◌%◌, ◌^◌, Bool, true, false, not, ℤ, [], refl, sym, ap, ◌∙◌, List, Option, Some, None, option_map, map, take, drop}
use Rattle.std.specs.Prelude.{Result, Ok, Err, IfOk, IfErr, ◌==◌}
use Rattle.std.proofs.lemmas.List.{take-map, drop-map}
use Rattle.ub_base.specs.declared.clause.Clause.TheVariants.{Indeterminate, TrapRepresentation}
use Rattle.ub_base.specs.declared.names.Event.{Event}
use Rattle.ub_base.specs.declared.names.Item.{Item}
use Rattle.addr_map.specs.declared.map.Row.{Row}
use Rattle.exposure.specs.declared.prov.Prov.{Prov}
use Rattle.c_types.specs.Types.{type_of}
use Rattle.c_types.specs.declared.kind.IntKind.{IntKind}
use Rattle.c_typed.specs.declared.tree.Access.{Access}
use Rattle.c_typed.specs.declared.tree.Access.TheVariants as access
use Rattle.mem_spec.specs.Store.{Store, TaggedByte}
use Rattle.mem_spec.specs.Script.{Script, Give, Raise, Finish, Exceed, Misplace, Do, Done, Raised, run, require, ◌>>=◌, ◌>>◌}
use Rattle.mem_spec.specs.Acts.{all_written, number_of, pointer_in, from_int, is_trap, value_of, show_pieces}
use Rattle.mem_spec.specs.Streams.{Io}
use Rattle.mem_objects.specs.declared.answer.MemFault.{MemFault}
use Rattle.mem_objects.specs.declared.answer.MemFault.TheVariants as faults
use Rattle.mem_objects.specs.declared.cell.Cell.{Cell}
use Rattle.mem_objects.specs.declared.value.Value.{Value as Held}
use Rattle.mem_objects.specs.declared.value.Value.TheVariants as values
use Rattle.mem_objects.specs.Cells.{Loaded, tagged_in}
use Rattle.mem_objects.specs.Loads.{IfPointer, IfRaise}
use Rattle.mem_objects.specs.Memory.{Kept}
use Rattle.prov_memory.specs.Parts.{part_ptr, pointer_or_found}
use Rattle.mem_objects.specs.Pieces.{seen}
use Rattle.c_model.specs.Nodes.{part_of, read_part, part_pointer}
use Rattle.c_model.specs.Values.{Int, Ptr, Fun, Nothing, part_bytes, moved_source}
use Rattle.run_acts.specs.Parts.{integer_part, function_part}
use Rattle.run_values.specs.Views.{value_in}
use Rattle.run_acts.proofs.Acts.{as_pointer, done_give, raised_give}

pub seen_part : (m : Kept) (cs : List Cell) (from len : ℕ) → seen m (take len (drop from cs)) ≡ part_bytes from len (seen m cs)
seen_part m cs from len =
    sym (ap (take len) (drop-map (tagged_in m.origins (map type_of m.types)) from cs)
    ∙ take-map (tagged_in m.origins (map type_of m.types)) len (drop from cs))

-- ---- one script after another after a third
bind_assoc : {A B C : Type 0} (p : Script A) (k : A → Script B) (l : B → Script C) → ((p >>= k) >>= l) ≡ (p >>= (λ (v : A). k v >>= l))
bind_assoc (Give v) k l = refl
bind_assoc (Raise c) k l = refl
bind_assoc (Finish n) k l = refl
bind_assoc (Exceed c n) k l = refl
bind_assoc Misplace k l = refl
bind_assoc (Do t g) k l = λ i. Do t (λ a. bind_assoc (g a) k l i)

shown_give : {A B : Type 0} (bs : List TaggedByte) (v : A) (f : A → B)
    → ((show_pieces bs >> Give v) >>= (λ (w : A). Give (f w))) ≡ (show_pieces bs >> Give (f v))
shown_give {A} {B} bs v f = bind_assoc (show_pieces bs) (λ (u : Unit {0}). Give v) (λ (w : A). Give (f w))

-- ---- a member that is an integer or a function pointer
integer_by : (b1 b2 : Bool) (bs : List TaggedByte) (z : ℤ)
    → ((require b1 Indeterminate >> (require b2 TrapRepresentation >> (show_pieces bs >> Give z))) >>= (λ (w : ℤ). Give (Int w)))
    ≡ (require b1 Indeterminate >> (require b2 TrapRepresentation >> (show_pieces bs >> Give (Int z))))
integer_by true true bs z = shown_give bs z Int
integer_by true false bs z = refl
integer_by false b2 bs z = refl

pub integer_same : (who : Event) (kind : IntKind) (bs : List TaggedByte) (source : Option ℕ)
    → read_part who (access.Integer kind) bs source ≡ integer_part kind bs
integer_same who kind bs source = sym (integer_by (all_written bs) (not (is_trap kind (number_of bs))) bs (value_of kind (number_of bs)))

function_by : (b : Bool) (bs : List TaggedByte) (n : ℕ)
    → ((require b Indeterminate >> (show_pieces bs >> Give n)) >>= (λ (w : ℕ). Give (Fun w))) ≡ (require b Indeterminate >> (show_pieces bs >> Give (Fun n)))
function_by true bs n = shown_give bs n Fun
function_by false bs n = refl

pub function_same : (who : Event) (bs : List TaggedByte) (source : Option ℕ) → read_part who access.Function bs source ≡ function_part bs
function_same who bs source = sym (function_by (all_written bs) bs (number_of bs))

-- ---- of a value that is no structure or union
pub part_none : (m : Kept) (rows : List Row) (who : Event) (offset : ℕ) (how : Access) (v : Held) (s : Store)
    → ((b : Loaded) → v ≡ values.Block b → ⊥) → run rows (part_of who offset how (value_in m v)) s ≡ Done Nothing [] s
part_none m rows who offset how (values.Block b) s other = absurd (other b refl)
part_none m rows who offset how (values.Int z) s other = refl
part_none m rows who offset how (values.Ptr a prov) s other = refl
part_none m rows who offset how (values.Func a) s other = refl
part_none m rows who offset how values.Missing s other = refl
part_none m rows who offset how values.Nothing s other = refl

pub moved_same : (by : ℕ) (o : Option ℕ) → option_map (λ (a : ℕ). (a + by) % 2 ^ 64) o ≡ moved_source by o
moved_same by None = refl
moved_same by (Some a) = refl

-- ---- a member that is a pointer
abbrev with_number : ℕ → Prov → ℕ × Prov
with_number a p = (a, p)

found_part : (zero : Bool) (rows : List Row) (who : Event) (a : ℕ) (s : Store) → (a == 0) ≡ zero →
    run rows ((from_int who a >>= (λ (p : Prov). Give (with_number a p))) >>= (λ q. Give (Ptr q.0 q.1))) s
    ≡ run rows (from_int who a >>= (λ (p : Prov). Give (Ptr a p))) s
found_part true rows who a s e = rw e refl
found_part false rows who a s e = rw e refl

pointed : (o : Option Prov) (rows : List Row) (who : Event) (a : ℕ) (s : Store) →
    run rows (pointer_or_found who o a >>= (λ q. Give (Ptr q.0 q.1))) s ≡ run rows (part_pointer who o a) s
pointed (Some p) rows who a s = refl
pointed None rows who a s = found_part (a == 0) rows who a s refl

written_part : (all : Bool) (o : Option Prov) (rows : List Row) (who : Event) (a : ℕ) (s : Store) →
    run rows ((require all Indeterminate >> pointer_or_found who o a) >>= (λ q. Give (Ptr q.0 q.1))) s
    ≡ run rows (require all Indeterminate >> part_pointer who o a) s
written_part true o rows who a s = pointed o rows who a s
written_part false o rows who a s = refl

-- what reading such a member ensures
abbrev pub ReadsPointer : Result Held MemFault → (K : Type 0) → List Row → Script (ℕ × Prov) → (Io → Store) → List Item → (Io → Store) → Type 0
ReadsPointer r K rows p s items t = IfOk r (λ v. IfPointer v (λ a q. K → (io : Io) → run rows p (s io) ≡ Done (a, q) items (t io)))

module _ (K : Type 0) (rows : List Row) (who : Event) (source : Option ℕ) (s : Io → Store) where
  pub pointer_read : (r : Result Held MemFault) (bs cs : List TaggedByte) (new : Kept) (items : List Item) (t : Io → Store) → bs ≡ cs →
      ReadsPointer r K rows (part_ptr who bs) s items t →
      IfOk r (λ v. K → (io : Io) → run rows (read_part who access.Pointer cs source) (s io) ≡ Done (value_in new v) items (t io))
  pointer_read (Err e) bs cs new items t is gives = tt
  pointer_read (Ok (values.Ptr a q)) bs cs new items t is gives = λ k io.
      sym (written_part (all_written cs) (pointer_in cs) rows who (number_of cs) (s io))
      ∙ done_give rows (part_ptr who cs) as_pointer (s io) (t io) (a, q) items
      (ap (λ (xs : List TaggedByte). run rows (part_ptr who xs) (s io)) (sym is) ∙ gives k io)
  pointer_read (Ok (values.Int z)) bs cs new items t is gives = absurd gives
  pointer_read (Ok (values.Func a)) bs cs new items t is gives = absurd gives
  pointer_read (Ok (values.Block b)) bs cs new items t is gives = absurd gives
  pointer_read (Ok values.Missing) bs cs new items t is gives = absurd gives
  pointer_read (Ok values.Nothing) bs cs new items t is gives = absurd gives

  pub pointer_unread : (r : Result Held MemFault) (bs cs : List TaggedByte) → bs ≡ cs →
      IfErr r (λ e. IfRaise e (λ c. (io : Io) → run rows (part_ptr who bs) (s io) ≡ Raised c)) →
      IfErr r (λ e. IfRaise e (λ c. (io : Io) → run rows (read_part who access.Pointer cs source) (s io) ≡ Raised c))
  pointer_unread (Ok v) bs cs is raises = tt
  pointer_unread (Err faults.NoMemory) bs cs is raises = tt
  pointer_unread (Err (faults.Raise c)) bs cs is raises = λ io.
      sym (written_part (all_written cs) (pointer_in cs) rows who (number_of cs) (s io))
      ∙ raised_give rows (part_ptr who cs) as_pointer (s io) c
      (ap (λ (xs : List TaggedByte). run rows (part_ptr who xs) (s io)) (sym is) ∙ raises io)
