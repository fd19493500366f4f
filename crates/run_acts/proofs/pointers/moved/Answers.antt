use Rattle.std.proofs.Common.{◌≡◌, ◌∙◌, to_z, of_z, rules}
use Rattle.std.specs.Int.{w128}
use Rattle.std.proofs.lemmas.Int.{to_z-of_z}
use Rattle.c_model.specs.Nodes.{distance}
use Rattle.run_acts.proofs.pointers.moved.Goals as goal

pub returns-clause-exact : goal.returns-clause-exact
returns-clause-exact c = λ near made io.
    let number : to_z w128 (of_z w128 c.args.index) ≡ c.args.index = to_z-of_z w128 c.args.index (search rules) in
    let wide : to_z w128 (of_z w128 c.distance_of.result) ≡ c.distance_of.result = to_z-of_z w128 c.distance_of.result (search rules) in
    let far = rw number at c.distance_of.ensures in
    let by : to_z w128 (of_z w128 c.distance_of.result) ≡ distance c.args.size c.args.subtract c.args.index = wide ∙ far near in
    rw by at (c.shifted.ensures.exact made io)
