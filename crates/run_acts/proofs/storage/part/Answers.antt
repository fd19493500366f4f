use Rattle.std.proofs.Common.{◌∙◌, sym, ap, ap₂, ℕ, List, Option, []}
use Rattle.ub_base.specs.declared.names.Item.{Item}
use Rattle.mem_spec.specs.Script.{Done}
use Rattle.mem_spec.specs.Store.{TaggedByte}
use Rattle.mem_objects.specs.Cells.{Loaded, part_of}
use Rattle.mem_objects.specs.Memory.{AreKnown, store_of}
use Rattle.mem_objects.specs.Pieces.{seen}
use Rattle.mem_spec.specs.Agreement.{bytes_of_kind}
use Rattle.mem_spec.specs.Script.{Script, run}
use Rattle.c_model.specs.Values.{Value, Whole, Nothing, part_bytes, moved_source}
use Rattle.run_acts.proofs.Parts.{seen_part, moved_same, pointer_read, pointer_unread, integer_same, function_same, part_none}
use Rattle.run_values.proofs.Results.{given_then}
use Rattle.run_acts.proofs.Stores.{faults_then}
use Rattle.std.proofs.Common.{subst}
use Rattle.mem_objects.specs.declared.value.Value.{Value as Held}
use Rattle.run_values.specs.Kept.{IsOf}
use Rattle.run_values.proofs.Keeping.{nothing_of, pointer_loaded, part_kept}
use Rattle.prov_memory.proofs.KeepLemmas.{keeps_none}
use Rattle.run_acts.proofs.storage.part.Goals as goal

pub returns-in-Pointer-clause-exact : goal.returns-in-Pointer-clause-exact
returns-in-Pointer-clause-exact c =
    let m = c.args.m.now in
    let new = c.part_ptr.new.self in
    let b = c.in-Block.block in
    rw (c.in-Pointer.is, c.in-Block.is) (pointer_read (AreKnown m) m.rows c.args.who (moved_source c.args.offset b.source) (store_of m) c.part_ptr.result
    (seen m (part_of b c.args.offset 8).cells) (part_bytes c.args.offset 8 (seen m b.cells)) new c.part_ptr.new.t (store_of new)
    (seen_part m b.cells c.args.offset 8) c.part_ptr.ensures.exact)

pub returns-in-Pointer-clause-raises : goal.returns-in-Pointer-clause-raises
returns-in-Pointer-clause-raises c =
    let m = c.args.m.now in
    let b = c.in-Block.block in
    rw (c.in-Pointer.is, c.in-Block.is) (pointer_unread (AreKnown m) m.rows c.args.who (moved_source c.args.offset b.source) (store_of m) c.part_ptr.result
    (seen m (part_of b c.args.offset 8).cells) (part_bytes c.args.offset 8 (seen m b.cells)) (seen_part m b.cells c.args.offset 8)
    c.part_ptr.ensures.raises)

pub returns-in_ok-part-in-Whole-clause-exact : goal.returns-in_ok-part-in-Whole-clause-exact
returns-in_ok-part-in-Whole-clause-exact c =
    let m = c.args.m.now in
    let b = c.in-Block.block in
    let n = c.in-Whole.size in
    let is = c.in_ok-part-in-Whole.ensures in
    rw (c.in-Whole.is, c.in-Block.is, c.clear.ensures) (λ known io.
    ap₂ (λ (bs : List TaggedByte) (s : Option ℕ). Done (Whole bs s) [] (store_of m io))
    (sym (ap (λ (l : Loaded). seen m l.cells) is ∙ seen_part m b.cells c.args.offset n))
    (sym (ap (λ (l : Loaded). l.source) is ∙ moved_same c.args.offset b.source)))

pub returns-in-Integer-clause-exact : goal.returns-in-Integer-clause-exact
returns-in-Integer-clause-exact c =
    let m = c.args.m.now in
    let b = c.in-Block.block in
    let k = c.in-Integer.kind in
    rw (c.in-Integer.is, c.in-Block.is) (given_then c.part_integer.result _ _ (λ v did known io.
    ap (λ (x : Script Value). run m.rows x (store_of m io))
    (integer_same c.args.who k (part_bytes c.args.offset (bytes_of_kind k) (seen m b.cells)) (moved_source c.args.offset b.source)) ∙ did io)
    c.part_integer.ensures.exact)

pub returns-in-Integer-clause-raises : goal.returns-in-Integer-clause-raises
returns-in-Integer-clause-raises c =
    let m = c.args.m.now in
    let b = c.in-Block.block in
    let k = c.in-Integer.kind in
    rw (c.in-Integer.is, c.in-Block.is) (faults_then c.part_integer.result _ _ (λ e did io.
    ap (λ (x : Script Value). run m.rows x (store_of m io))
    (integer_same c.args.who k (part_bytes c.args.offset (bytes_of_kind k) (seen m b.cells)) (moved_source c.args.offset b.source)) ∙ did io)
    c.part_integer.ensures.raises)

pub returns-in-Function-clause-exact : goal.returns-in-Function-clause-exact
returns-in-Function-clause-exact c =
    let m = c.args.m.now in
    let b = c.in-Block.block in
    rw (c.in-Function.is, c.in-Block.is) (given_then c.part_function.result _ _ (λ v did known io.
    ap (λ (x : Script Value). run m.rows x (store_of m io))
    (function_same c.args.who (part_bytes c.args.offset 8 (seen m b.cells)) (moved_source c.args.offset b.source)) ∙ did io)
    c.part_function.ensures.exact)

pub returns-in-Function-clause-raises : goal.returns-in-Function-clause-raises
returns-in-Function-clause-raises c =
    let m = c.args.m.now in
    let b = c.in-Block.block in
    rw (c.in-Function.is, c.in-Block.is) (faults_then c.part_function.result _ _ (λ e did io.
    ap (λ (x : Script Value). run m.rows x (store_of m io))
    (function_same c.args.who (part_bytes c.args.offset 8 (seen m b.cells)) (moved_source c.args.offset b.source)) ∙ did io)
    c.part_function.ensures.raises)

pub returns-in_default-clause-exact : goal.returns-in_default-clause-exact
returns-in_default-clause-exact c = λ known io.
    let m = c.args.m.now in
    part_none m m.rows c.args.who c.args.offset c.args.access c.args.whole.now (store_of m io) c.in_default.not-Block
    ∙ ap (λ (is : List Item). Done Nothing is (store_of m io)) (sym c.clear.ensures)

pub returns-in_default-clause-made : goal.returns-in_default-clause-made
returns-in_default-clause-made c = λ sound is. nothing_of c.args.m.now

pub returns-in-Pointer-clause-made : goal.returns-in-Pointer-clause-made
returns-in-Pointer-clause-made c =
    given_then c.part_ptr.result _ _ (λ v did sound is. did sound)
    (pointer_loaded c.part_ptr.result c.args.m.now c.part_ptr.new.self c.part_ptr.ensures.value)

pub returns-in-Integer-clause-made : goal.returns-in-Integer-clause-made
returns-in-Integer-clause-made c = given_then c.part_integer.result _ _ (λ v did sound is. did) c.part_integer.ensures.made

pub returns-in-Function-clause-made : goal.returns-in-Function-clause-made
returns-in-Function-clause-made c = given_then c.part_function.result _ _ (λ v did sound is. did) c.part_function.ensures.made

pub returns-in_ok-part-in-Whole-clause-made : goal.returns-in_ok-part-in-Whole-clause-made
returns-in_ok-part-in-Whole-clause-made c = λ sound is.
    part_kept c.args.m.now c.in-Block.block c.in_ok-part-in-Whole.part c.args.offset c.in-Whole.size c.in_ok-part-in-Whole.ensures
    (subst (λ (v : Held). IsOf c.args.m.now v) c.in-Block.is is)

pub returns-in_default-clause-kept : goal.returns-in_default-clause-kept
returns-in_default-clause-kept c = keeps_none c.args.m.now

pub returns-in_ok-part-in-Whole-clause-kept : goal.returns-in_ok-part-in-Whole-clause-kept
returns-in_ok-part-in-Whole-clause-kept c = keeps_none c.args.m.now

pub returns-in_err-part-in-Whole-clause-kept : goal.returns-in_err-part-in-Whole-clause-kept
returns-in_err-part-in-Whole-clause-kept c = keeps_none c.args.m.now
