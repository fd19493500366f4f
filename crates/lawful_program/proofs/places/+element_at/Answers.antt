use Rattle.std.proofs.Common.{◌≡◌, Some, rules}
use Rattle.c_types.specs.Types.{type_of, qualified_of, array}
use Rattle.c_types.specs.declared.ty.Ty as TheTy
use Rattle.lawful_program.proofs.Seen.{some_inside}
use Rattle.lawful_program.proofs.places.+element_at.Goals as goal

pub returns-in-Some : goal.returns-in-Some
returns-in-Some t c =
    let is : type_of c.args.ty.now ≡ array (qualified_of c.get-element.result.now).constant (qualified_of c.get-element.result.now).ty
    (Some c.in-Array-default-Some.count) = search (rules, TheTy.the_lemmas) in
    some_inside c.args.program.now (type_of c.args.ty.now) c.get-element.result.now c.in-Array-default-Some.count _ c.args.at is
    c.in-Array-default-Some.count-is
    c.in-Some.further (λ i. type_of i.ty.now) (λ i. i.at) c.element_at.result c.in-Some.ensures c.element_at.ensures
