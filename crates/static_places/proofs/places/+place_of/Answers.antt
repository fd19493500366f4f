use Rattle.std.proofs.Common.{Some, None, sym, ap, ◌∙◌}
use Rattle.static_places.specs.Fixed.{fixed_place, moved, indexed}
use Rattle.static_places.proofs.Shows.{of_member, of_sum}
use Rattle.static_places.proofs.places.+place_of.Goals as goal

pub returns-in-Some : goal.returns-in-Some
returns-in-Some t c =
    c.moved.ensures ∙ (ap (moved c.in-Member.offset) c.place_of.ensures
    ∙ sym (of_member c.args.p.now c.args.function c.args.tree.now c.in-Member.offset (Some c.in-Some.pointer.now) c.in-Member.is c.in-Some.ensures.value))

pub returns-in-None : goal.returns-in-None
returns-in-None t c = sym (of_member c.args.p.now c.args.function c.args.tree.now c.in-Member.offset None c.in-Member.is c.in-None.ensures.value)

pub returns-in-Some-get : goal.returns-in-Some-get
returns-in-Some-get t c =
    let size = c.in-PtrAdd.size in
    let subtract = c.in-PtrAdd.subtract in
    c.indexed.ensures
    ∙ (ap (λ z. indexed c.args.p.now c.args.function size subtract z c.index_of.result) c.place_of-place.ensures
    ∙ (ap (indexed c.args.p.now c.args.function size subtract (fixed_place c.args.p.now c.args.function c.in-Some-get.pointer.now)) c.index_of.ensures
    ∙ sym (of_sum c.args.p.now c.args.function c.args.tree.now size subtract (Some c.in-Some-get.pointer.now) c.in-PtrAdd.is c.in-Some-get.ensures.value)))

pub returns-in-None-get : goal.returns-in-None-get
returns-in-None-get t c =
    sym (of_sum c.args.p.now c.args.function c.args.tree.now c.in-PtrAdd.size c.in-PtrAdd.subtract None c.in-PtrAdd.is c.in-None-get.ensures.value)
