use Rattle.std.proofs.Common.{Bool, IsTrue, map, ◌++◌, ◌≡◌, List}
use Rattle.std.proofs.lemmas.Result.{IfOk-weaker}
use Rattle.c_typed.specs.declared.program.Constant.{Constant}
use Rattle.c_typed.specs.Lawful.{PartsFit, given_parts}
use Rattle.lawful_trees.specs.Parts.{range_of}
use Rattle.lawful_trees.proofs.Listed.{ranges_given}
use Rattle.lawful_trees.proofs.initial.list_fits.Goals as goal

pub returns : goal.returns
returns c =
    let P : Bool → Type 0 = λ b. IsTrue b → (constants : List Constant) → c.add_listed.new.ranges.items ≡ map range_of constants →
    PartsFit c.args.size constants in
    let Q : Bool → Type 0 = λ b. IsTrue b → PartsFit c.args.size (given_parts c.args.tags.now c.args.bytes.now c.args.operands.now) in
    IfOk-weaker c.ranges_fit.result P Q
    (λ b fit h. fit h (given_parts c.args.tags.now c.args.bytes.now c.args.operands.now)
    (ranges_given c.args.tags.now c.args.bytes.now c.args.operands.now c.in_ok-ranges.ranges.items c.add_listed.new.ranges.items c.in_ok-ranges.ensures
    c.in_ok-add_listed.ensures))
    c.ranges_fit.ensures
