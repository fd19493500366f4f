use Rattle.std.proofs.Common.{subst, sym, List, rules, to_z, of_z}
use Rattle.std.specs.Int.{w128}
use Rattle.std.proofs.lemmas.Int.{to_z-of_z}
use Rattle.std.proofs.Common.{ap, Err, ◌≡◌, ◌+◌, inl, inr, ◌∙◌, ◌∷◌, map, length, string_bytes, arith}
use Rattle.run_standing.specs.Standing.{program_name}
use Rattle.run_standing.proofs.Begins.{with_arguments, without_arguments, strings_filled, vector_filled}
use Rattle.run_standing.proofs.Stands.{vector_created, mapped_length}
use Rattle.prov_memory.proofs.KeepLemmas.{keeps_then}
use Rattle.run_values.specs.declared.places.Places.{Places}
use Rattle.run_standing.specs.declared.initial.Argument.{Argument}
use Rattle.run_values.specs.Placed.{ArePlaced}
use Rattle.run_standing.specs.Starting.{AreMadeAll}
use Rattle.run_standing.proofs.Starting.{made_still, named_placed, named_filled, pointed, count_of, vector_of, null_of}
use Rattle.run_values.proofs.Placed.{placed_still}
use Rattle.std.proofs.lemmas.Result.{err_from_is_err_and}
use Rattle.run_standing.proofs.Given.{given_so, none_given}
use Rattle.run_standing.proofs.NoPlace.{argument_behind, fault_of, literal_behind, vector_behind}
use Rattle.run_standing.proofs.Ready.{lives_then}
use Rattle.run_standing.proofs.Rooms.{all_wait, named_wait, never, pointers_never, strings_live, strings_never}
use Rattle.run_standing.proofs.initial.begin.Goals as goal

pub returns-in_err-create_literals-clause-kept : goal.returns-in_err-create_literals-clause-kept
returns-in_err-create_literals-clause-kept c = λ sound lawful.
    keeps_then c.args.m.now c.create_statics.new.m c.create_literals.new.m c.create_statics.ensures.kept c.create_literals.ensures.kept

pub returns-in_err-arguments-clause-kept : goal.returns-in_err-arguments-clause-kept
returns-in_err-arguments-clause-kept c = λ sound lawful.
    let named = keeps_then c.args.m.now c.create_statics.new.m c.create_literals.new.m c.create_statics.ensures.kept c.create_literals.ensures.kept in
    keeps_then c.args.m.now c.create_literals.new.m c.create_arguments.new.m named c.create_arguments.ensures.kept

pub returns-in_err-vector-clause-kept : goal.returns-in_err-vector-clause-kept
returns-in_err-vector-clause-kept c = λ sound lawful.
    let named = keeps_then c.args.m.now c.create_statics.new.m c.create_literals.new.m c.create_statics.ensures.kept c.create_literals.ensures.kept in
    let more = keeps_then c.create_literals.new.m c.create_arguments.new.m c.create_vector.new.m c.create_arguments.ensures.kept
    c.create_vector.ensures.kept in
    keeps_then c.args.m.now c.create_literals.new.m c.create_vector.new.m named more

pub returns-in_err-fill_named-clause-kept : goal.returns-in_err-fill_named-clause-kept
returns-in_err-fill_named-clause-kept c = λ sound lawful.
    let named = keeps_then c.args.m.now c.create_statics.new.m c.create_literals.new.m c.create_statics.ensures.kept c.create_literals.ensures.kept in
    let placed = named_placed c.create_statics.new.m c.create_literals.new.m c.args.p.now c.new-places.result c.create_statics.new.places
    c.create_literals.new.places c.new-places.ensures.objects c.new-places.ensures.literals lawful c.create_literals.ensures.kept
    c.in_ok-create_statics.ensures.placed c.create_statics.ensures.rest c.in_ok-create_literals.ensures.placed c.create_literals.ensures.rest in
    let more = keeps_then c.create_literals.new.m c.create_arguments.new.m c.create_vector.new.m c.create_arguments.ensures.kept
    c.create_vector.ensures.kept in
    let filled = named_filled c.args.m.now c.create_literals.new.m c.fill_named.new.m c.create_vector.new.m c.args.p.now c.create_literals.new.places
    named more sound lawful placed c.fill_named.ensures.kept in
    filled

pub returns-in_err-fill_arguments-clause-kept : goal.returns-in_err-fill_arguments-clause-kept
returns-in_err-fill_arguments-clause-kept c = λ sound lawful.
    let named = keeps_then c.args.m.now c.create_statics.new.m c.create_literals.new.m c.create_statics.ensures.kept c.create_literals.ensures.kept in
    let placed = named_placed c.create_statics.new.m c.create_literals.new.m c.args.p.now c.new-places.result c.create_statics.new.places
    c.create_literals.new.places c.new-places.ensures.objects c.new-places.ensures.literals lawful c.create_literals.ensures.kept
    c.in_ok-create_statics.ensures.placed c.create_statics.ensures.rest c.in_ok-create_literals.ensures.placed c.create_literals.ensures.rest in
    let more = keeps_then c.create_literals.new.m c.create_arguments.new.m c.create_vector.new.m c.create_arguments.ensures.kept
    c.create_vector.ensures.kept in
    let filled = named_filled c.args.m.now c.create_literals.new.m c.fill_named.new.m c.create_vector.new.m c.args.p.now c.create_literals.new.places
    named more sound lawful placed c.fill_named.ensures.kept in
    keeps_then c.args.m.now c.fill_named.new.m c.fill_arguments.new.m filled c.fill_arguments.ensures.kept

pub returns-in_err-point-clause-kept : goal.returns-in_err-point-clause-kept
returns-in_err-point-clause-kept c = λ sound lawful.
    let named = keeps_then c.args.m.now c.create_statics.new.m c.create_literals.new.m c.create_statics.ensures.kept c.create_literals.ensures.kept in
    let placed = named_placed c.create_statics.new.m c.create_literals.new.m c.args.p.now c.new-places.result c.create_statics.new.places
    c.create_literals.new.places c.new-places.ensures.objects c.new-places.ensures.literals lawful c.create_literals.ensures.kept
    c.in_ok-create_statics.ensures.placed c.create_statics.ensures.rest c.in_ok-create_literals.ensures.placed c.create_literals.ensures.rest in
    let more = keeps_then c.create_literals.new.m c.create_arguments.new.m c.create_vector.new.m c.create_arguments.ensures.kept
    c.create_vector.ensures.kept in
    let filled = named_filled c.args.m.now c.create_literals.new.m c.fill_named.new.m c.create_vector.new.m c.args.p.now c.create_literals.new.places
    named more sound lawful placed c.fill_named.ensures.kept in
    let texts = keeps_then c.args.m.now c.fill_named.new.m c.fill_arguments.new.m filled c.fill_arguments.ensures.kept in
    let all = keeps_then c.args.m.now c.create_literals.new.m c.create_vector.new.m named more in
    let behind = c.fill_named.ensures.kept (all.sound sound) lawful
    (placed_still c.create_literals.new.m c.create_vector.new.m c.args.p.now c.create_literals.new.places more placed) in
    let rest = keeps_then c.create_vector.new.m c.fill_named.new.m c.fill_arguments.new.m behind c.fill_arguments.ensures.kept in
    let since = keeps_then c.create_arguments.new.m c.create_vector.new.m c.fill_arguments.new.m c.create_vector.ensures.kept rest in
    pointed c.args.m.now c.create_arguments.new.m c.fill_arguments.new.m c.point.new.m c.in_ok-arguments.arguments
    c.as_slice-then-takes_arguments.result.now texts since sound c.in_ok-arguments.ensures.made c.as_slice-then-takes_arguments.ensures
    c.point.ensures.kept

pub returns-then-takes_arguments-clause-kept : goal.returns-then-takes_arguments-clause-kept
returns-then-takes_arguments-clause-kept c = λ sound lawful.
    let named = keeps_then c.args.m.now c.create_statics.new.m c.create_literals.new.m c.create_statics.ensures.kept c.create_literals.ensures.kept in
    let placed = named_placed c.create_statics.new.m c.create_literals.new.m c.args.p.now c.new-places.result c.create_statics.new.places
    c.create_literals.new.places c.new-places.ensures.objects c.new-places.ensures.literals lawful c.create_literals.ensures.kept
    c.in_ok-create_statics.ensures.placed c.create_statics.ensures.rest c.in_ok-create_literals.ensures.placed c.create_literals.ensures.rest in
    let more = keeps_then c.create_literals.new.m c.create_arguments.new.m c.create_vector.new.m c.create_arguments.ensures.kept
    c.create_vector.ensures.kept in
    let filled = named_filled c.args.m.now c.create_literals.new.m c.fill_named.new.m c.create_vector.new.m c.args.p.now c.create_literals.new.places
    named more sound lawful placed c.fill_named.ensures.kept in
    let texts = keeps_then c.args.m.now c.fill_named.new.m c.fill_arguments.new.m filled c.fill_arguments.ensures.kept in
    let all = keeps_then c.args.m.now c.create_literals.new.m c.create_vector.new.m named more in
    let behind = c.fill_named.ensures.kept (all.sound sound) lawful
    (placed_still c.create_literals.new.m c.create_vector.new.m c.args.p.now c.create_literals.new.places more placed) in
    let rest = keeps_then c.create_vector.new.m c.fill_named.new.m c.fill_arguments.new.m behind c.fill_arguments.ensures.kept in
    let since = keeps_then c.create_arguments.new.m c.create_vector.new.m c.fill_arguments.new.m c.create_vector.ensures.kept rest in
    pointed c.args.m.now c.create_arguments.new.m c.fill_arguments.new.m c.point.new.m c.in_ok-arguments.arguments
    c.as_slice-then-takes_arguments.result.now texts since sound c.in_ok-arguments.ensures.made c.as_slice-then-takes_arguments.ensures
    c.point.ensures.kept

pub returns-then-takes_arguments-clause-placed : goal.returns-then-takes_arguments-clause-placed
returns-then-takes_arguments-clause-placed c = λ sound lawful.
    let named = keeps_then c.args.m.now c.create_statics.new.m c.create_literals.new.m c.create_statics.ensures.kept c.create_literals.ensures.kept in
    let placed = named_placed c.create_statics.new.m c.create_literals.new.m c.args.p.now c.new-places.result c.create_statics.new.places
    c.create_literals.new.places c.new-places.ensures.objects c.new-places.ensures.literals lawful c.create_literals.ensures.kept
    c.in_ok-create_statics.ensures.placed c.create_statics.ensures.rest c.in_ok-create_literals.ensures.placed c.create_literals.ensures.rest in
    let more = keeps_then c.create_literals.new.m c.create_arguments.new.m c.create_vector.new.m c.create_arguments.ensures.kept
    c.create_vector.ensures.kept in
    let filled = named_filled c.args.m.now c.create_literals.new.m c.fill_named.new.m c.create_vector.new.m c.args.p.now c.create_literals.new.places
    named more sound lawful placed c.fill_named.ensures.kept in
    let texts = keeps_then c.args.m.now c.fill_named.new.m c.fill_arguments.new.m filled c.fill_arguments.ensures.kept in
    let all = keeps_then c.args.m.now c.create_literals.new.m c.create_vector.new.m named more in
    let behind = c.fill_named.ensures.kept (all.sound sound) lawful
    (placed_still c.create_literals.new.m c.create_vector.new.m c.args.p.now c.create_literals.new.places more placed) in
    let rest = keeps_then c.create_vector.new.m c.fill_named.new.m c.fill_arguments.new.m behind c.fill_arguments.ensures.kept in
    let since = keeps_then c.create_arguments.new.m c.create_vector.new.m c.fill_arguments.new.m c.create_vector.ensures.kept rest in
    let last = c.point.ensures.kept (texts.sound sound) (subst (λ (xs : List Argument). AreMadeAll c.fill_arguments.new.m xs)
    (sym c.as_slice-then-takes_arguments.ensures)
    (made_still c.create_arguments.new.m c.fill_arguments.new.m c.in_ok-arguments.arguments since c.in_ok-arguments.ensures.made)) in
    let still = placed_still c.create_literals.new.m c.point.new.m c.args.p.now c.create_literals.new.places
    (keeps_then c.create_literals.new.m c.create_vector.new.m c.point.new.m more
    (keeps_then c.create_vector.new.m c.fill_arguments.new.m c.point.new.m rest last)) placed in
    subst (λ (places : Places). ArePlaced c.point.new.m c.args.p.now places) (sym c.standing.ensures.places) still

pub returns-then-takes_arguments-clause-made : goal.returns-then-takes_arguments-clause-made
returns-then-takes_arguments-clause-made c = λ sound lawful.
    let named = keeps_then c.args.m.now c.create_statics.new.m c.create_literals.new.m c.create_statics.ensures.kept c.create_literals.ensures.kept in
    let placed = named_placed c.create_statics.new.m c.create_literals.new.m c.args.p.now c.new-places.result c.create_statics.new.places
    c.create_literals.new.places c.new-places.ensures.objects c.new-places.ensures.literals lawful c.create_literals.ensures.kept
    c.in_ok-create_statics.ensures.placed c.create_statics.ensures.rest c.in_ok-create_literals.ensures.placed c.create_literals.ensures.rest in
    let more = keeps_then c.create_literals.new.m c.create_arguments.new.m c.create_vector.new.m c.create_arguments.ensures.kept
    c.create_vector.ensures.kept in
    let filled = named_filled c.args.m.now c.create_literals.new.m c.fill_named.new.m c.create_vector.new.m c.args.p.now c.create_literals.new.places
    named more sound lawful placed c.fill_named.ensures.kept in
    let texts = keeps_then c.args.m.now c.fill_named.new.m c.fill_arguments.new.m filled c.fill_arguments.ensures.kept in
    let all = keeps_then c.args.m.now c.create_literals.new.m c.create_vector.new.m named more in
    let behind = c.fill_named.ensures.kept (all.sound sound) lawful
    (placed_still c.create_literals.new.m c.create_vector.new.m c.args.p.now c.create_literals.new.places more placed) in
    let rest = keeps_then c.create_vector.new.m c.fill_named.new.m c.fill_arguments.new.m behind c.fill_arguments.ensures.kept in
    let since = keeps_then c.create_arguments.new.m c.create_vector.new.m c.fill_arguments.new.m c.create_vector.ensures.kept rest in
    let last = c.point.ensures.kept (texts.sound sound) (subst (λ (xs : List Argument). AreMadeAll c.fill_arguments.new.m xs)
    (sym c.as_slice-then-takes_arguments.ensures)
    (made_still c.create_arguments.new.m c.fill_arguments.new.m c.in_ok-arguments.arguments since c.in_ok-arguments.ensures.made)) in
    let end = keeps_then c.create_vector.new.m c.fill_arguments.new.m c.point.new.m rest last in (
      count_of c.point.new.m c.standing.result.count _ c.standing.ensures.count,
      vector_of c.create_vector.new.m c.point.new.m c.standing.result.vector c.in_ok-vector.vector (c.standing.ensures.vector c.point.new.m)
          c.in_ok-vector.ensures.made end,
    )

pub returns-then-takes_arguments-clause-given : goal.returns-then-takes_arguments-clause-given
returns-then-takes_arguments-clause-given c = λ sound lawful.
    let named = keeps_then c.args.m.now c.create_statics.new.m c.create_literals.new.m c.create_statics.ensures.kept c.create_literals.ensures.kept in
    let placed = named_placed c.create_statics.new.m c.create_literals.new.m c.args.p.now c.new-places.result c.create_statics.new.places
    c.create_literals.new.places c.new-places.ensures.objects c.new-places.ensures.literals lawful c.create_literals.ensures.kept
    c.in_ok-create_statics.ensures.placed c.create_statics.ensures.rest c.in_ok-create_literals.ensures.placed c.create_literals.ensures.rest in
    let more = keeps_then c.create_literals.new.m c.create_arguments.new.m c.create_vector.new.m c.create_arguments.ensures.kept
    c.create_vector.ensures.kept in
    let filled = named_filled c.args.m.now c.create_literals.new.m c.fill_named.new.m c.create_vector.new.m c.args.p.now c.create_literals.new.places
    named more sound lawful placed c.fill_named.ensures.kept in
    let texts = keeps_then c.args.m.now c.fill_named.new.m c.fill_arguments.new.m filled c.fill_arguments.ensures.kept in
    let all = keeps_then c.args.m.now c.create_literals.new.m c.create_vector.new.m named more in
    let behind = c.fill_named.ensures.kept (all.sound sound) lawful
    (placed_still c.create_literals.new.m c.create_vector.new.m c.args.p.now c.create_literals.new.places more placed) in
    let rest = keeps_then c.create_vector.new.m c.fill_named.new.m c.fill_arguments.new.m behind c.fill_arguments.ensures.kept in
    let since = keeps_then c.create_arguments.new.m c.create_vector.new.m c.fill_arguments.new.m c.create_vector.ensures.kept rest in
    let last = c.point.ensures.kept (texts.sound sound) (subst (λ (xs : List Argument). AreMadeAll c.fill_arguments.new.m xs)
    (sym c.as_slice-then-takes_arguments.ensures)
    (made_still c.create_arguments.new.m c.fill_arguments.new.m c.in_ok-arguments.arguments since c.in_ok-arguments.ensures.made)) in
    let end = keeps_then c.create_vector.new.m c.fill_arguments.new.m c.point.new.m rest last in
    let value : to_z w128 (of_z w128 c.string_count.result) ≡ c.string_count.result = to_z-of_z w128 c.string_count.result (search rules) in
    given_so c.create_vector.new.m c.point.new.m c.args.p.now (length c.args.args.now + 1) c.standing.result c.in_ok-vector.vector
    (to_z w128 (of_z w128 c.string_count.result)) c.standing.ensures.count (value ∙ c.string_count.ensures) c.standing.ensures.vector
    c.in_ok-vector.ensures.stands end

pub returns-in_err-fill_named-2-clause-kept : goal.returns-in_err-fill_named-2-clause-kept
returns-in_err-fill_named-2-clause-kept c = λ sound lawful.
    let named = keeps_then c.args.m.now c.create_statics.new.m c.create_literals.new.m c.create_statics.ensures.kept c.create_literals.ensures.kept in
    let placed = named_placed c.create_statics.new.m c.create_literals.new.m c.args.p.now c.new-places.result c.create_statics.new.places
    c.create_literals.new.places c.new-places.ensures.objects c.new-places.ensures.literals lawful c.create_literals.ensures.kept
    c.in_ok-create_statics.ensures.placed c.create_statics.ensures.rest c.in_ok-create_literals.ensures.placed c.create_literals.ensures.rest in
    let filled = c.fill_named-2.ensures.kept (named.sound sound) lawful placed in
    keeps_then c.args.m.now c.create_literals.new.m c.fill_named-2.new.m named filled

pub returns-clause-kept : goal.returns-clause-kept
returns-clause-kept c = λ sound lawful.
    let named = keeps_then c.args.m.now c.create_statics.new.m c.create_literals.new.m c.create_statics.ensures.kept c.create_literals.ensures.kept in
    let placed = named_placed c.create_statics.new.m c.create_literals.new.m c.args.p.now c.new-places.result c.create_statics.new.places
    c.create_literals.new.places c.new-places.ensures.objects c.new-places.ensures.literals lawful c.create_literals.ensures.kept
    c.in_ok-create_statics.ensures.placed c.create_statics.ensures.rest c.in_ok-create_literals.ensures.placed c.create_literals.ensures.rest in
    let filled = c.fill_named-2.ensures.kept (named.sound sound) lawful placed in
    keeps_then c.args.m.now c.create_literals.new.m c.fill_named-2.new.m named filled

pub returns-clause-placed : goal.returns-clause-placed
returns-clause-placed c = λ sound lawful.
    let named = keeps_then c.args.m.now c.create_statics.new.m c.create_literals.new.m c.create_statics.ensures.kept c.create_literals.ensures.kept in
    let placed = named_placed c.create_statics.new.m c.create_literals.new.m c.args.p.now c.new-places.result c.create_statics.new.places
    c.create_literals.new.places c.new-places.ensures.objects c.new-places.ensures.literals lawful c.create_literals.ensures.kept
    c.in_ok-create_statics.ensures.placed c.create_statics.ensures.rest c.in_ok-create_literals.ensures.placed c.create_literals.ensures.rest in
    let filled = c.fill_named-2.ensures.kept (named.sound sound) lawful placed in
    let still = placed_still c.create_literals.new.m c.fill_named-2.new.m c.args.p.now c.create_literals.new.places filled placed in
    subst (λ (places : Places). ArePlaced c.fill_named-2.new.m c.args.p.now places) (sym c.standing-2.ensures.places) still

pub returns-clause-given : goal.returns-clause-given
returns-clause-given c = λ sound lawful.
    none_given c.fill_named-2.new.m c.args.p.now (length c.args.args.now + 1) c.standing-2.result (sym c.takes_arguments.ensures ∙ c.if-takes_arguments.false)

pub returns-clause-made : goal.returns-clause-made
returns-clause-made c = λ sound lawful. (
  count_of c.fill_named-2.new.m c.standing-2.result.count _ c.standing-2.ensures.count,
  null_of c.fill_named-2.new.m c.standing-2.result.vector c.null.result (c.standing-2.ensures.vector c.fill_named-2.new.m) c.null.ensures,
)

pub returns-then-takes_arguments-clause-stands : goal.returns-then-takes_arguments-clause-stands
returns-then-takes_arguments-clause-stands c = λ sound lawful few.
    let named = keeps_then c.args.m.now c.create_statics.new.m c.create_literals.new.m c.create_statics.ensures.kept c.create_literals.ensures.kept in
    let placed = named_placed c.create_statics.new.m c.create_literals.new.m c.args.p.now c.new-places.result c.create_statics.new.places
    c.create_literals.new.places c.new-places.ensures.objects c.new-places.ensures.literals lawful c.create_literals.ensures.kept
    c.in_ok-create_statics.ensures.placed c.create_statics.ensures.rest c.in_ok-create_literals.ensures.placed c.create_literals.ensures.rest in
    let more = keeps_then c.create_literals.new.m c.create_arguments.new.m c.create_vector.new.m c.create_arguments.ensures.kept
    c.create_vector.ensures.kept in
    let filled = named_filled c.args.m.now c.create_literals.new.m c.fill_named.new.m c.create_vector.new.m c.args.p.now c.create_literals.new.places
    named more sound lawful placed c.fill_named.ensures.kept in
    let texts = keeps_then c.args.m.now c.fill_named.new.m c.fill_arguments.new.m filled c.fill_arguments.ensures.kept in
    let all = keeps_then c.args.m.now c.create_literals.new.m c.create_vector.new.m named more in
    let behind = c.fill_named.ensures.kept (all.sound sound) lawful
    (placed_still c.create_literals.new.m c.create_vector.new.m c.args.p.now c.create_literals.new.places more placed) in
    let rest = keeps_then c.create_vector.new.m c.fill_named.new.m c.fill_arguments.new.m behind c.fill_arguments.ensures.kept in
    let since = keeps_then c.create_arguments.new.m c.create_vector.new.m c.fill_arguments.new.m c.create_vector.ensures.kept rest in
    let last = c.point.ensures.kept (texts.sound sound) (subst (λ (xs : List Argument). AreMadeAll c.fill_arguments.new.m xs)
    (sym c.as_slice-then-takes_arguments.ensures)
    (made_still c.create_arguments.new.m c.fill_arguments.new.m c.in_ok-arguments.arguments since c.in_ok-arguments.ensures.made)) in
    let one = c.create_statics.ensures.kept.sound sound in
    let two = c.create_literals.ensures.kept.sound one in
    let three = c.create_arguments.ensures.kept.sound two in
    let words = program_name ∷ map string_bytes c.args.args.now in
    let there = c.in_ok-arguments.ensures.there few in
    with_arguments c.args.m.now c.create_statics.new.m c.create_literals.new.m c.create_arguments.new.m c.create_vector.new.m c.fill_named.new.m
    c.fill_arguments.new.m c.point.new.m c.args.p.now words c.create_literals.ensures.kept c.create_arguments.ensures.kept c.create_vector.ensures.kept
    behind c.fill_arguments.ensures.kept last
    (sym c.takes_arguments.ensures ∙ c.if-takes_arguments.true)
    (c.in_ok-create_statics.ensures.exact sound c.new-places.ensures.objects lawful.numbered.statics)
    (c.in_ok-create_literals.ensures.exact one (c.create_statics.ensures.rest ∙ c.new-places.ensures.literals) lawful.numbered.literals)
    (c.in_ok-arguments.ensures.exact two few)
    (vector_created c.create_arguments.new.m c.create_vector.new.m words (length c.args.args.now)
    (omega (arith, mapped_length string_bytes c.args.args.now)) c.create_vector.ensures.kept (c.in_ok-vector.ensures.exact three.known (omega (arith, few))))
    (c.in_ok-fill_named.ensures.exact (all.sound sound) lawful
    (placed_still c.create_literals.new.m c.create_vector.new.m c.args.p.now c.create_literals.new.places more placed))
    (strings_filled c.create_arguments.new.m c.fill_named.new.m c.fill_arguments.new.m words c.in_ok-arguments.arguments c.as_slice.result.now
    (keeps_then c.create_arguments.new.m c.create_vector.new.m c.fill_named.new.m c.create_vector.ensures.kept behind) c.as_slice.ensures there
    c.in_ok-fill_arguments.ensures.exact)
    (vector_filled c.create_arguments.new.m c.create_vector.new.m c.fill_arguments.new.m c.point.new.m words c.in_ok-arguments.arguments
    c.as_slice-then-takes_arguments.result.now c.in_ok-vector.vector c.create_vector.ensures.kept rest (texts.sound sound)
    c.as_slice-then-takes_arguments.ensures there c.in_ok-arguments.ensures.made c.in_ok-vector.ensures.stands
    (omega (arith, few, mapped_length string_bytes c.args.args.now)) c.in_ok-point.ensures.exact)

pub returns-clause-stands : goal.returns-clause-stands
returns-clause-stands c = λ sound lawful few.
    let named = keeps_then c.args.m.now c.create_statics.new.m c.create_literals.new.m c.create_statics.ensures.kept c.create_literals.ensures.kept in
    let placed = named_placed c.create_statics.new.m c.create_literals.new.m c.args.p.now c.new-places.result c.create_statics.new.places
    c.create_literals.new.places c.new-places.ensures.objects c.new-places.ensures.literals lawful c.create_literals.ensures.kept
    c.in_ok-create_statics.ensures.placed c.create_statics.ensures.rest c.in_ok-create_literals.ensures.placed c.create_literals.ensures.rest in
    let filled = c.fill_named-2.ensures.kept (named.sound sound) lawful placed in
    let one = c.create_statics.ensures.kept.sound sound in
    without_arguments c.args.m.now c.create_statics.new.m c.create_literals.new.m c.fill_named-2.new.m c.args.p.now
    (program_name ∷ map string_bytes c.args.args.now) c.create_literals.ensures.kept filled
    (sym c.takes_arguments.ensures ∙ c.if-takes_arguments.false)
    (c.in_ok-create_statics.ensures.exact sound c.new-places.ensures.objects lawful.numbered.statics)
    (c.in_ok-create_literals.ensures.exact one (c.create_statics.ensures.rest ∙ c.new-places.ensures.literals) lawful.numbered.literals)
    (c.in_ok-fill_named-2.ensures.exact (named.sound sound) lawful placed)

pub returns-in_err-create_statics-clause-unplaced : goal.returns-in_err-create_statics-clause-unplaced
returns-in_err-create_statics-clause-unplaced c = λ e sound lawful above few.
    let p = err_from_is_err_and c.from_residual.result c.from_residual.ensures.1 in
    let fault = fault_of _ p.0 c.in_err-create_statics.field-0.0 p.1 p.2 e in
    inl (c.in_err-create_statics.ensures.unplaced (ap Err fault) sound c.new-places.ensures.objects lawful.numbered.statics)

pub returns-in_err-create_literals-clause-unplaced : goal.returns-in_err-create_literals-clause-unplaced
returns-in_err-create_literals-clause-unplaced c = λ e sound lawful above few.
    let p = err_from_is_err_and c.from_residual-in_err-create_literals.result c.from_residual-in_err-create_literals.ensures.1 in
    let fault = fault_of _ p.0 c.in_err-create_literals.field-0.0 p.1 p.2 e in
    let one = c.create_statics.ensures.kept.sound sound in
    let statics = c.in_ok-create_statics.ensures.exact sound c.new-places.ensures.objects lawful.numbered.statics in
    inr (inl (literal_behind c.args.m.now c.create_statics.new.m c.create_literals.new.m c.args.p.now c.create_literals.ensures.kept statics
    (c.in_err-create_literals.ensures.unplaced (ap Err fault) one (c.create_statics.ensures.rest ∙ c.new-places.ensures.literals)
    lawful.numbered.literals)))

pub returns-in_err-arguments-clause-unplaced : goal.returns-in_err-arguments-clause-unplaced
returns-in_err-arguments-clause-unplaced c = λ e sound lawful above few.
    let p = err_from_is_err_and c.from_residual-in_err-arguments.result c.from_residual-in_err-arguments.ensures.1 in
    let fault = fault_of _ p.0 c.in_err-arguments.field-0.0 p.1 p.2 e in
    let one = c.create_statics.ensures.kept.sound sound in
    let two = c.create_literals.ensures.kept.sound one in
    let statics = c.in_ok-create_statics.ensures.exact sound c.new-places.ensures.objects lawful.numbered.statics in
    let texts = c.in_ok-create_literals.ensures.exact one (c.create_statics.ensures.rest ∙ c.new-places.ensures.literals) lawful.numbered.literals in
    inr (inr (
      sym c.takes_arguments.ensures ∙ c.if-takes_arguments.true,
      inl (argument_behind c.args.m.now c.create_statics.new.m c.create_literals.new.m c.create_arguments.new.m c.args.p.now
          (program_name ∷ map string_bytes c.args.args.now) c.create_literals.ensures.kept c.create_arguments.ensures.kept statics texts
          (c.in_err-arguments.ensures.unplaced (ap Err fault) two few)),
    ))

pub returns-in_err-vector-clause-unplaced : goal.returns-in_err-vector-clause-unplaced
returns-in_err-vector-clause-unplaced c = λ e sound lawful above few.
    let p = err_from_is_err_and c.from_residual-in_err-vector.result c.from_residual-in_err-vector.ensures.1 in
    let fault = fault_of _ p.0 c.in_err-vector.field-0.0 p.1 p.2 e in
    let count : length c.args.args.now + 1 ≡ length (program_name ∷ map string_bytes c.args.args.now) =
    omega (arith, mapped_length string_bytes c.args.args.now) in
    let one = c.create_statics.ensures.kept.sound sound in
    let two = c.create_literals.ensures.kept.sound one in
    let statics = c.in_ok-create_statics.ensures.exact sound c.new-places.ensures.objects lawful.numbered.statics in
    let texts = c.in_ok-create_literals.ensures.exact one (c.create_statics.ensures.rest ∙ c.new-places.ensures.literals) lawful.numbered.literals in
    inr (inr (
      sym c.takes_arguments.ensures ∙ c.if-takes_arguments.true,
      inr (vector_behind c.args.m.now c.create_statics.new.m c.create_literals.new.m c.create_arguments.new.m c.create_vector.new.m c.args.p.now
          (program_name ∷ map string_bytes c.args.args.now) (length c.args.args.now + 1) c.create_literals.ensures.kept c.create_arguments.ensures.kept
          statics texts (c.in_ok-arguments.ensures.exact two few) (c.in_err-vector.ensures.same (ap Err fault)) count
          (c.in_err-vector.ensures.unplaced (ap Err fault) (omega (arith, few)))),
    ))

pub returns-in_err-fill_named-clause-unplaced : goal.returns-in_err-fill_named-clause-unplaced
returns-in_err-fill_named-clause-unplaced c = λ e sound lawful above few.
    let p = err_from_is_err_and c.from_residual-in_err-fill_named.result c.from_residual-in_err-fill_named.ensures.1 in
    let fault = fault_of _ p.0 c.in_err-fill_named.field-0.0 p.1 p.2 e in
    let named = keeps_then c.args.m.now c.create_statics.new.m c.create_literals.new.m c.create_statics.ensures.kept c.create_literals.ensures.kept in
    let placed = named_placed c.create_statics.new.m c.create_literals.new.m c.args.p.now c.new-places.result c.create_statics.new.places
    c.create_literals.new.places c.new-places.ensures.objects c.new-places.ensures.literals lawful c.create_literals.ensures.kept
    c.in_ok-create_statics.ensures.placed c.create_statics.ensures.rest c.in_ok-create_literals.ensures.placed c.create_literals.ensures.rest in
    let more = keeps_then c.create_literals.new.m c.create_arguments.new.m c.create_vector.new.m c.create_arguments.ensures.kept
    c.create_vector.ensures.kept in
    let all = keeps_then c.args.m.now c.create_literals.new.m c.create_vector.new.m named more in
    let there = placed_still c.create_literals.new.m c.create_vector.new.m c.args.p.now c.create_literals.new.places more placed in
    let one = c.create_statics.ensures.kept.sound sound in
    let two = c.create_literals.ensures.kept.sound one in
    let three = c.create_arguments.ensures.kept.sound two in
    let words = program_name ∷ map string_bytes c.args.args.now in
    let waiting = all_wait c.args.m.now c.create_statics.new.m c.create_literals.new.m c.create_arguments.new.m c.create_vector.new.m c.args.p.now words
    c.create_literals.ensures.kept c.create_arguments.ensures.kept c.create_vector.ensures.kept
    (c.in_ok-create_statics.ensures.exact sound c.new-places.ensures.objects lawful.numbered.statics)
    (c.in_ok-create_literals.ensures.exact one (c.create_statics.ensures.rest ∙ c.new-places.ensures.literals) lawful.numbered.literals)
    (c.in_ok-arguments.ensures.exact two few)
    (vector_created c.create_arguments.new.m c.create_vector.new.m words (length c.args.args.now)
    (omega (arith, mapped_length string_bytes c.args.args.now)) c.create_vector.ensures.kept (c.in_ok-vector.ensures.exact three.known (omega (arith, few))))
    in
    never c.create_vector.new.m c.fill_named.new.m _ fault
    (c.in_err-fill_named.ensures.room (all.sound sound) lawful there (all.high above) waiting.statics waiting.are waiting.named)

pub returns-in_err-fill_arguments-clause-unplaced : goal.returns-in_err-fill_arguments-clause-unplaced
returns-in_err-fill_arguments-clause-unplaced c = λ e sound lawful above few.
    let p = err_from_is_err_and c.from_residual-in_err-fill_arguments.result c.from_residual-in_err-fill_arguments.ensures.1 in
    let fault = fault_of _ p.0 c.in_err-fill_arguments.field-0.0 p.1 p.2 e in
    let named = keeps_then c.args.m.now c.create_statics.new.m c.create_literals.new.m c.create_statics.ensures.kept c.create_literals.ensures.kept in
    let placed = named_placed c.create_statics.new.m c.create_literals.new.m c.args.p.now c.new-places.result c.create_statics.new.places
    c.create_literals.new.places c.new-places.ensures.objects c.new-places.ensures.literals lawful c.create_literals.ensures.kept
    c.in_ok-create_statics.ensures.placed c.create_statics.ensures.rest c.in_ok-create_literals.ensures.placed c.create_literals.ensures.rest in
    let more = keeps_then c.create_literals.new.m c.create_arguments.new.m c.create_vector.new.m c.create_arguments.ensures.kept
    c.create_vector.ensures.kept in
    let all = keeps_then c.args.m.now c.create_literals.new.m c.create_vector.new.m named more in
    let there = placed_still c.create_literals.new.m c.create_vector.new.m c.args.p.now c.create_literals.new.places more placed in
    let one = c.create_statics.ensures.kept.sound sound in
    let two = c.create_literals.ensures.kept.sound one in
    let three = c.create_arguments.ensures.kept.sound two in
    let words = program_name ∷ map string_bytes c.args.args.now in
    let waiting = all_wait c.args.m.now c.create_statics.new.m c.create_literals.new.m c.create_arguments.new.m c.create_vector.new.m c.args.p.now words
    c.create_literals.ensures.kept c.create_arguments.ensures.kept c.create_vector.ensures.kept
    (c.in_ok-create_statics.ensures.exact sound c.new-places.ensures.objects lawful.numbered.statics)
    (c.in_ok-create_literals.ensures.exact one (c.create_statics.ensures.rest ∙ c.new-places.ensures.literals) lawful.numbered.literals)
    (c.in_ok-arguments.ensures.exact two few)
    (vector_created c.create_arguments.new.m c.create_vector.new.m words (length c.args.args.now)
    (omega (arith, mapped_length string_bytes c.args.args.now)) c.create_vector.ensures.kept (c.in_ok-vector.ensures.exact three.known (omega (arith, few))))
    in
    let behind = c.fill_named.ensures.kept (all.sound sound) lawful there in
    let lives = c.in_ok-fill_named.ensures.room (all.sound sound) lawful there (all.high above) waiting.statics waiting.are waiting.named in
    let since = keeps_then c.create_arguments.new.m c.create_vector.new.m c.fill_named.new.m c.create_vector.ensures.kept behind in
    let strings = c.in_ok-arguments.ensures.there few in
    strings_never c.create_arguments.new.m c.create_vector.new.m c.fill_named.new.m c.fill_arguments.new.m c.args.p.now words
    c.in_ok-arguments.arguments c.as_slice.result.now _ (behind.high (all.high above)) since behind lives waiting c.as_slice.ensures strings
    c.in_err-fill_arguments.ensures.room fault

pub returns-in_err-point-clause-unplaced : goal.returns-in_err-point-clause-unplaced
returns-in_err-point-clause-unplaced c = λ e sound lawful above few.
    let p = err_from_is_err_and c.from_residual-in_err-point.result c.from_residual-in_err-point.ensures.1 in
    let fault = fault_of _ p.0 c.in_err-point.field-0.0 p.1 p.2 e in
    let named = keeps_then c.args.m.now c.create_statics.new.m c.create_literals.new.m c.create_statics.ensures.kept c.create_literals.ensures.kept in
    let placed = named_placed c.create_statics.new.m c.create_literals.new.m c.args.p.now c.new-places.result c.create_statics.new.places
    c.create_literals.new.places c.new-places.ensures.objects c.new-places.ensures.literals lawful c.create_literals.ensures.kept
    c.in_ok-create_statics.ensures.placed c.create_statics.ensures.rest c.in_ok-create_literals.ensures.placed c.create_literals.ensures.rest in
    let more = keeps_then c.create_literals.new.m c.create_arguments.new.m c.create_vector.new.m c.create_arguments.ensures.kept
    c.create_vector.ensures.kept in
    let all = keeps_then c.args.m.now c.create_literals.new.m c.create_vector.new.m named more in
    let there = placed_still c.create_literals.new.m c.create_vector.new.m c.args.p.now c.create_literals.new.places more placed in
    let one = c.create_statics.ensures.kept.sound sound in
    let two = c.create_literals.ensures.kept.sound one in
    let three = c.create_arguments.ensures.kept.sound two in
    let words = program_name ∷ map string_bytes c.args.args.now in
    let waiting = all_wait c.args.m.now c.create_statics.new.m c.create_literals.new.m c.create_arguments.new.m c.create_vector.new.m c.args.p.now words
    c.create_literals.ensures.kept c.create_arguments.ensures.kept c.create_vector.ensures.kept
    (c.in_ok-create_statics.ensures.exact sound c.new-places.ensures.objects lawful.numbered.statics)
    (c.in_ok-create_literals.ensures.exact one (c.create_statics.ensures.rest ∙ c.new-places.ensures.literals) lawful.numbered.literals)
    (c.in_ok-arguments.ensures.exact two few)
    (vector_created c.create_arguments.new.m c.create_vector.new.m words (length c.args.args.now)
    (omega (arith, mapped_length string_bytes c.args.args.now)) c.create_vector.ensures.kept (c.in_ok-vector.ensures.exact three.known (omega (arith, few))))
    in
    let behind = c.fill_named.ensures.kept (all.sound sound) lawful there in
    let lives = c.in_ok-fill_named.ensures.room (all.sound sound) lawful there (all.high above) waiting.statics waiting.are waiting.named in
    let since = keeps_then c.create_arguments.new.m c.create_vector.new.m c.fill_named.new.m c.create_vector.ensures.kept behind in
    let strings = c.in_ok-arguments.ensures.there few in
    let rest = keeps_then c.create_vector.new.m c.fill_named.new.m c.fill_arguments.new.m behind c.fill_arguments.ensures.kept in
    let last = keeps_then c.args.m.now c.create_vector.new.m c.fill_arguments.new.m all rest in
    let on = lives_then c.create_vector.new.m c.fill_named.new.m c.fill_arguments.new.m lives
    (strings_live c.create_arguments.new.m c.create_vector.new.m c.fill_named.new.m c.fill_arguments.new.m c.args.p.now words
    c.in_ok-arguments.arguments c.as_slice.result.now (behind.high (all.high above)) since behind lives waiting c.as_slice.ensures strings
    c.in_ok-fill_arguments.ensures.room) in
    pointers_never c.create_arguments.new.m c.create_vector.new.m c.fill_arguments.new.m c.point.new.m c.args.p.now words
    c.in_ok-arguments.arguments c.as_slice-then-takes_arguments.result.now c.in_ok-vector.vector _ (last.sound sound) (last.high above)
    c.create_vector.ensures.kept rest on waiting c.as_slice-then-takes_arguments.ensures strings c.in_ok-arguments.ensures.made
    c.in_ok-vector.ensures.stands (omega (arith, few, mapped_length string_bytes c.args.args.now)) c.in_err-point.ensures.room fault

pub returns-in_err-fill_named-2-clause-unplaced : goal.returns-in_err-fill_named-2-clause-unplaced
returns-in_err-fill_named-2-clause-unplaced c = λ e sound lawful above few.
    let p = err_from_is_err_and c.from_residual-in_err-fill_named-2.result c.from_residual-in_err-fill_named-2.ensures.1 in
    let fault = fault_of _ p.0 c.in_err-fill_named-2.field-0.0 p.1 p.2 e in
    let named = keeps_then c.args.m.now c.create_statics.new.m c.create_literals.new.m c.create_statics.ensures.kept c.create_literals.ensures.kept in
    let placed = named_placed c.create_statics.new.m c.create_literals.new.m c.args.p.now c.new-places.result c.create_statics.new.places
    c.create_literals.new.places c.new-places.ensures.objects c.new-places.ensures.literals lawful c.create_literals.ensures.kept
    c.in_ok-create_statics.ensures.placed c.create_statics.ensures.rest c.in_ok-create_literals.ensures.placed c.create_literals.ensures.rest in
    let one = c.create_statics.ensures.kept.sound sound in
    let statics = c.in_ok-create_statics.ensures.exact sound c.new-places.ensures.objects lawful.numbered.statics in
    let wait = named_wait c.args.m.now c.create_statics.new.m c.create_literals.new.m c.args.p.now c.create_literals.ensures.kept statics
    (c.in_ok-create_literals.ensures.exact one (c.create_statics.ensures.rest ∙ c.new-places.ensures.literals) lawful.numbered.literals) in
    never c.create_literals.new.m c.fill_named-2.new.m _ fault
    (c.in_err-fill_named-2.ensures.room (named.sound sound) lawful placed (named.high above) statics.0 statics.1 wait)
