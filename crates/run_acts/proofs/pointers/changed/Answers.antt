use Rattle.std.proofs.Common.{◌≡◌, to_z, of_z, rules}
use Rattle.std.specs.Int.{w128}
use Rattle.std.proofs.lemmas.Int.{to_z-of_z}
use Rattle.c_types.specs.Types.{type_of}
use Rattle.run_values.proofs.Results.{given_then}
use Rattle.run_acts.proofs.Stores.{faults_then}
use Rattle.run_acts.proofs.pointers.changed.Goals as goal

pub returns-in-Integer-clause-exact : goal.returns-in-Integer-clause-exact
returns-in-Integer-clause-exact c =
    let number : to_z w128 (of_z w128 c.args.operand) ≡ c.args.operand = to_z-of_z w128 c.args.operand (search rules) in
    let did = rw number at c.changed_integer.ensures.exact in
    rw c.in-Integer.is (given_then c.changed_integer.result _ _ (λ both did can near old io. did can.cell c.args.who (type_of c.args.ty.now) old io) did)

pub returns-in-Integer-clause-raises : goal.returns-in-Integer-clause-raises
returns-in-Integer-clause-raises c =
    let number : to_z w128 (of_z w128 c.args.operand) ≡ c.args.operand = to_z-of_z w128 c.args.operand (search rules) in
    let did = rw number at c.changed_integer.ensures.raises in
    rw c.in-Integer.is (faults_then c.changed_integer.result _ _ (λ k did can near old io. did can.cell c.args.who (type_of c.args.ty.now) old io) did)

pub returns-in-Integer-clause-after : goal.returns-in-Integer-clause-after
returns-in-Integer-clause-after c =
    let number : to_z w128 (of_z w128 c.args.operand) ≡ c.args.operand = to_z-of_z w128 c.args.operand (search rules) in
    let did = rw number at c.changed_integer.ensures.after in
    rw c.in-Integer.is (given_then c.changed_integer.result _ _ (λ both did can near io. did) did)

pub returns-in-Pointer-clause-exact : goal.returns-in-Pointer-clause-exact
returns-in-Pointer-clause-exact c =
    let number : to_z w128 (of_z w128 c.args.operand) ≡ c.args.operand = to_z-of_z w128 c.args.operand (search rules) in
    let did = rw number at c.changed_pointer.ensures.exact in
    rw c.in-Pointer.is did

pub returns-in-Pointer-clause-raises : goal.returns-in-Pointer-clause-raises
returns-in-Pointer-clause-raises c =
    let number : to_z w128 (of_z w128 c.args.operand) ≡ c.args.operand = to_z-of_z w128 c.args.operand (search rules) in
    let did = rw number at c.changed_pointer.ensures.raises in
    rw c.in-Pointer.is did

pub returns-in-Pointer-clause-after : goal.returns-in-Pointer-clause-after
returns-in-Pointer-clause-after c =
    let number : to_z w128 (of_z w128 c.args.operand) ≡ c.args.operand = to_z-of_z w128 c.args.operand (search rules) in
    let did = rw number at c.changed_pointer.ensures.after in
    rw c.in-Pointer.is did

pub returns-in-Integer-clause-made : goal.returns-in-Integer-clause-made
returns-in-Integer-clause-made c = given_then c.changed_integer.result _ _ (λ both did sound. did) c.changed_integer.ensures.made
