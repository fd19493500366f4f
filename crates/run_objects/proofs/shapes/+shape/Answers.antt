use Rattle.std.proofs.Common.{ℕ, ◌+◌, ◌<◌, ◌*◌, ◌∙◌, refl, sym, subst, arith}
use Rattle.std.proofs.lemmas.Result.{IfOk-weaker}
use Rattle.c_types.specs.Shapes.{form_of}
use Rattle.c_types.specs.Types.{type_of}
use Rattle.program_view.specs.Objects.{forms_by}
use Rattle.run_objects.specs.Opened.{weight_with, weight_by, open_work}
use Rattle.run_objects.proofs.Placing.{begins, ends, pops, smaller, goes_on, within, falls, part_placed, part_roomy, part_less, nothing_placed, single_falls}
use Rattle.run_objects.proofs.Placing.{tag_placed, tag_less, tag_roomy, at_number, kind_is, whole_is}
use Rattle.run_objects.proofs.shapes.+shape.Goals as goal

pub parts_within-loop-current-init : goal.parts_within-loop-current-init
parts_within-loop-current-init t c =
    begins c.args.tags.now c.args.depth c.args.tag c.new-parts.result c.new-opened.result c.enter.new.opened c.law_extents.ensures c.new-parts.ensures
    c.new-opened.ensures c.in_ok-enter.ensures

pub parts_within-place_member-requires : goal.parts_within-place_member-requires
parts_within-place_member-requires t c =
    let p = pops c.args.tags.now c.loop-current.opened c.pop.new.self c.in-Some.current _ c.in-Some.ensures c.loop-current.invariant.1.0
    c.loop-current.invariant.1.1 in
    (subst (λ (n : ℕ). 2 * open_work c.args.tags.now c.in-Some.current < n) c.decreases p.0, p.1)

pub parts_within-loop-current-smaller : goal.parts_within-loop-current-smaller
parts_within-loop-current-smaller t c =
    smaller c.args.tags.now c.loop-current.opened c.pop.new.self c.place_member.new.opened c.in-Some.current c.in-Some.ensures
    c.in_ok-place_member.ensures.less

pub parts_within-loop-current-preserved : goal.parts_within-loop-current-preserved
parts_within-loop-current-preserved t c =
    goes_on c.args.tags.now c.loop-current.opened c.pop.new.self c.place_member.new.opened c.in-Some.current c.loop-current.parts c.place_member.new.parts _ _
    c.in-Some.ensures c.in_ok-place_member.ensures.placed c.in_ok-place_member.ensures.roomy c.in_ok-place_member.ensures.less c.loop-current.invariant

pub place_member-overflow_add-offset : goal.place_member-overflow_add-offset
place_member-overflow_add-offset t c =
    let there = at_number c.as_slice.result.now c.in-Some.content.now.members c.args.current.next c.in-Some-get.member.now
    c.as_slice.ensures c.in-Some-get.ensures.lookup.0 c.in-Some-get.ensures.lookup.1 in
    let room = within c.args.tags.now c.args.current c.in-Some.content.now c.in-Some-get.member.now c.in-Some.ensures there c.offset_of.result
    c.law_extents.ensures c.requires.own c.offset_of.ensures in
    omega (arith, room)

pub shape_within-single_shape-requires : goal.shape_within-single_shape-requires
shape_within-single_shape-requires t c = (
  subst (λ (n : ℕ). 2 * weight_with (weight_by c.args.depth c.args.tags.now) (type_of c.single_of.result.now) + 2 < n) c.decreases
      (single_falls (weight_by c.args.depth c.args.tags.now) (type_of c.args.ty.now) (type_of c.single_of.result.now) c.single_of.ensures),
  tt,
)

pub shape_within-returns : goal.shape_within-returns
shape_within-returns t c =
    IfOk-weaker c.single_shape.result (λ _. _) (λ _. _)
    (λ s e. whole_is (forms_by c.args.depth c.args.tags.now) c.args.tags.now (type_of c.args.ty.now) (type_of c.single_of.result.now)
    (form_of s) c.single_of.ensures e)
    c.single_shape.ensures

pub parts_within-returns : goal.parts_within-returns
parts_within-returns t c =
    ends c.args.tags.now c.loop-current.opened c.loop-current.parts (forms_by c.args.depth c.args.tags.now c.args.tag) c.in_default.ensures.0
    c.loop-current.invariant.0

pub place_member-single_shape-requires : goal.place_member-single_shape-requires
place_member-single_shape-requires t c =
    let there = at_number c.as_slice.result.now c.in-Some.content.now.members c.args.current.next c.in-Some-get.member.now
    c.as_slice.ensures c.in-Some-get.ensures.lookup.0 c.in-Some-get.ensures.lookup.1 in (
      subst (λ (n : ℕ). 2 * weight_with (weight_by c.args.current.depth c.args.tags.now) (type_of c.single_of-ty.result.now) + 2 < n) c.decreases
          (falls c.args.tags.now c.args.current c.in-Some.content.now c.in-Some-get.member.now c.in-Some.ensures there (type_of c.single_of-ty.result.now)
          c.single_of-ty.ensures),
      tt,
    )

pub place_member-returns-in-Some-tag_in-clause-placed : goal.place_member-returns-in-Some-tag_in-clause-placed
place_member-returns-in-Some-tag_in-clause-placed t c =
    let there = at_number c.as_slice.result.now c.in-Some.content.now.members c.args.current.next c.in-Some-get.member.now
    c.as_slice.ensures c.in-Some-get.ensures.lookup.0 c.in-Some-get.ensures.lookup.1 in
    IfOk-weaker c.enter.result (λ _. _) (λ _. _)
    (λ _ e. tag_placed c.args.tags.now c.args.current c.in-Some.content.now c.in-Some-get.member.now c.in-Some.ensures there (type_of c.single_of-ty.result.now)
    c.in-Some-tag_in.tag c.offset_of.result (c.args.current.offset + c.offset_of.result) c.single_of-ty.ensures
    (kind_is (type_of c.single_of-ty.result.now) c.in-Some-tag_in.tag c.tag_in.result c.tag_in.ensures c.in-Some-tag_in.is) c.offset_of.ensures refl
    c.args.parts.now c.args.opened.now c.push.new.self c.enter.new.opened c.in_ok-push.ensures.ok e) c.enter.ensures

pub place_member-returns-in-Some-tag_in-clause-roomy : goal.place_member-returns-in-Some-tag_in-clause-roomy
place_member-returns-in-Some-tag_in-clause-roomy t c =
    let there = at_number c.as_slice.result.now c.in-Some.content.now.members c.args.current.next c.in-Some-get.member.now
    c.as_slice.ensures c.in-Some-get.ensures.lookup.0 c.in-Some-get.ensures.lookup.1 in
    IfOk-weaker c.enter.result (λ _. _) (λ _. _)
    (λ _ e. tag_roomy c.args.tags.now c.args.current c.in-Some.content.now c.in-Some-get.member.now c.in-Some.ensures there (type_of c.single_of-ty.result.now)
    c.in-Some-tag_in.tag c.offset_of.result (c.args.current.offset + c.offset_of.result) c.single_of-ty.ensures
    (kind_is (type_of c.single_of-ty.result.now) c.in-Some-tag_in.tag c.tag_in.result c.tag_in.ensures c.in-Some-tag_in.is) c.offset_of.ensures refl
    c.args.opened.now c.push.new.self c.enter.new.opened c.law_extents.ensures c.requires.own c.requires.others c.in_ok-push.ensures.ok e) c.enter.ensures

pub place_member-returns-in-Some-tag_in-clause-less : goal.place_member-returns-in-Some-tag_in-clause-less
place_member-returns-in-Some-tag_in-clause-less t c =
    let there = at_number c.as_slice.result.now c.in-Some.content.now.members c.args.current.next c.in-Some-get.member.now
    c.as_slice.ensures c.in-Some-get.ensures.lookup.0 c.in-Some-get.ensures.lookup.1 in
    IfOk-weaker c.enter.result (λ _. _) (λ _. _)
    (λ _ e. tag_less c.args.tags.now c.args.current c.in-Some.content.now c.in-Some-get.member.now c.in-Some.ensures there (type_of c.single_of-ty.result.now)
    c.in-Some-tag_in.tag c.offset_of.result (c.args.current.offset + c.offset_of.result) c.single_of-ty.ensures
    (kind_is (type_of c.single_of-ty.result.now) c.in-Some-tag_in.tag c.tag_in.result c.tag_in.ensures c.in-Some-tag_in.is) c.offset_of.ensures refl
    c.args.opened.now c.push.new.self c.enter.new.opened c.in_ok-push.ensures.ok e) c.enter.ensures

pub place_member-returns-then-not-is_placed-clause-placed : goal.place_member-returns-then-not-is_placed-clause-placed
place_member-returns-then-not-is_placed-clause-placed t c =
    let there = at_number c.as_slice.result.now c.in-Some.content.now.members c.args.current.next c.in-Some-get.member.now
    c.as_slice.ensures c.in-Some-get.ensures.lookup.0 c.in-Some-get.ensures.lookup.1 in
    nothing_placed c.args.tags.now c.args.current c.in-Some.content.now c.in-Some-get.member.now c.in-Some.ensures there (type_of c.single_of-ty.result.now)
    c.args.parts.now c.args.opened.now c.push.new.self c.single_of-ty.ensures (sym c.tag_in.ensures ∙ c.in_default-tag_in.is)
    (sym c.is_placed.ensures ∙ c.if-not-is_placed.true) c.in_ok-push.ensures.ok

pub place_member-returns-then-not-is_placed-clause-roomy : goal.place_member-returns-then-not-is_placed-clause-roomy
place_member-returns-then-not-is_placed-clause-roomy t c =
    let there = at_number c.as_slice.result.now c.in-Some.content.now.members c.args.current.next c.in-Some-get.member.now
    c.as_slice.ensures c.in-Some-get.ensures.lookup.0 c.in-Some-get.ensures.lookup.1 in
    part_roomy c.args.tags.now c.args.current c.in-Some.content.now c.in-Some-get.member.now c.in-Some.ensures there c.args.opened.now
    c.push.new.self c.requires.own c.requires.others c.in_ok-push.ensures.ok

pub place_member-returns-then-not-is_placed-clause-less : goal.place_member-returns-then-not-is_placed-clause-less
place_member-returns-then-not-is_placed-clause-less t c =
    let there = at_number c.as_slice.result.now c.in-Some.content.now.members c.args.current.next c.in-Some-get.member.now
    c.as_slice.ensures c.in-Some-get.ensures.lookup.0 c.in-Some-get.ensures.lookup.1 in
    part_less c.args.tags.now c.args.current c.in-Some.content.now c.in-Some-get.member.now c.in-Some.ensures there c.args.opened.now
    c.push.new.self c.in_ok-push.ensures.ok

pub place_member-returns-clause-roomy : goal.place_member-returns-clause-roomy
place_member-returns-clause-roomy t c =
    let there = at_number c.as_slice.result.now c.in-Some.content.now.members c.args.current.next c.in-Some-get.member.now
    c.as_slice.ensures c.in-Some-get.ensures.lookup.0 c.in-Some-get.ensures.lookup.1 in
    part_roomy c.args.tags.now c.args.current c.in-Some.content.now c.in-Some-get.member.now c.in-Some.ensures there c.args.opened.now
    c.push.new.self c.requires.own c.requires.others c.in_ok-push.ensures.ok

pub place_member-returns-clause-less : goal.place_member-returns-clause-less
place_member-returns-clause-less t c =
    let there = at_number c.as_slice.result.now c.in-Some.content.now.members c.args.current.next c.in-Some-get.member.now
    c.as_slice.ensures c.in-Some-get.ensures.lookup.0 c.in-Some-get.ensures.lookup.1 in
    part_less c.args.tags.now c.args.current c.in-Some.content.now c.in-Some-get.member.now c.in-Some.ensures there c.args.opened.now
    c.push.new.self c.in_ok-push.ensures.ok

pub place_member-returns-clause-placed : goal.place_member-returns-clause-placed
place_member-returns-clause-placed t c =
    let there = at_number c.as_slice.result.now c.in-Some.content.now.members c.args.current.next c.in-Some-get.member.now
    c.as_slice.ensures c.in-Some-get.ensures.lookup.0 c.in-Some-get.ensures.lookup.1 in
    part_placed c.args.tags.now c.args.current c.in-Some.content.now c.in-Some-get.member.now c.in-Some.ensures there (type_of c.single_of-ty.result.now)
    c.offset_of.result (c.args.current.offset + c.offset_of.result) c.in_ok-part.part c.args.parts.now c.push-2.new.self c.args.opened.now c.push.new.self
    c.single_of-ty.ensures (sym c.is_placed.ensures ∙ c.if-not-is_placed.false) c.offset_of.ensures refl c.in_ok-part.ensures c.in_ok-push-2.ensures.ok
    c.in_ok-push.ensures.ok
