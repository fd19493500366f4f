use Rattle.std.proofs.Common.{List, ap, arith, get_or, length, map, refl, string_bytes, subst, suc, sym, take, ℕ, ◌+◌, ◌∙◌, ◌∷◌, ◌≡◌, Err}
use Rattle.prov_memory.proofs.KeepLemmas.{keeps_then}
use Rattle.run_standing.specs.Standing.{AreArguments, program_name}
use Rattle.run_standing.proofs.Arguments.{argument_more, argument_words, none_are}
use Rattle.run_standing.proofs.Starting.{none_made}
use Rattle.run_standing.proofs.Stands.{none_created, arguments_more, arguments_next, arguments_all, mapped_at, mapped_length}
use Rattle.run_standing.proofs.NoPlace.{fault_of, first_argument, some_argument}
use Rattle.std.proofs.lemmas.Result.{err_from_is_err_and}
use Rattle.run_standing.proofs.initial.create_arguments.Goals as goal

pub loop-arg-init : goal.loop-arg-init
loop-arg-init c =
    let none = ap length c.new-all.ensures in
    record {
      keeps = c.create_argument.ensures.kept;
      made = c.in_ok-create_argument.ensures.made (none_made c.args.m.now c.new-all.result c.new-all.ensures);
      count = c.in_ok-create_argument.ensures.count ∙ ap (λ (n : ℕ). n + 1) none;
      created = λ sound few.
          arguments_more c.args.m.now c.args.m.now c.create_argument.new.m (program_name ∷ map string_bytes c.args.args.now) 0 (length c.new-all.result) 1
          program_name c.create_argument.ensures.kept (none_created c.args.m.now) none refl (omega arith) refl
          (c.in_ok-create_argument.ensures.exact sound.known (omega (arith, none)));
      there = λ few.
          argument_more c.args.m.now c.create_argument.new.m (program_name ∷ map string_bytes c.args.args.now) 0 1 program_name c.new-all.result
          c.create_argument.new.all c.create_argument.ensures.kept refl (omega arith) refl
          (none_are c.args.m.now (program_name ∷ map string_bytes c.args.args.now) c.new-all.result c.new-all.ensures)
          (c.in_ok-create_argument.ensures.there (omega (arith, none)));
    }

pub loop-arg-preserved : goal.loop-arg-preserved
loop-arg-preserved c =
    let inv = c.loop-arg.invariant in
    record {
      keeps = keeps_then c.args.m.now c.loop-arg.m c.create_argument-in-loop-arg.new.m inv.keeps c.create_argument-in-loop-arg.ensures.kept;
      made = c.in_ok-create_argument-2.ensures.made inv.made;
      count = c.in_ok-create_argument-2.ensures.count ∙ ap (λ (n : ℕ). n + 1) inv.count;
      created = λ sound few.
          let next : c.loop-arg.arg-index + 1 ≡ suc c.loop-arg.arg-index = omega arith in
          let within = c.loop-arg-test.true in
          arguments_next c.args.m.now c.loop-arg.m c.create_argument-in-loop-arg.new.m c.args.args.now c.loop-arg.arg-index (length c.loop-arg.all)
          c.arg-item.result c.as_bytes.result.now c.create_argument-in-loop-arg.ensures.kept (inv.created sound few) inv.count within c.arg-item.is
          c.as_bytes.ensures.value
          (c.in_ok-create_argument-2.ensures.exact (inv.keeps.sound sound).known (omega (arith, few, inv.count, within)));
      there = λ few.
          let words = program_name ∷ map string_bytes c.args.args.now in
          let next : c.loop-arg.arg-index + 1 ≡ suc c.loop-arg.arg-index = omega arith in
          let more : c.loop-arg.arg-index + 1 + 1 ≡ suc (suc c.loop-arg.arg-index) = omega arith in
          let within = c.loop-arg-test.true in
          let word : c.as_bytes.result.now ≡ get_or words (suc c.loop-arg.arg-index) c.as_bytes.result.now =
          subst (λ (b : List ℕ). b ≡ get_or words (suc c.loop-arg.arg-index) b) (sym c.as_bytes.ensures.value)
          (mapped_at string_bytes c.args.args.now c.loop-arg.arg-index c.arg-item.result within c.arg-item.is) in
          argument_more c.loop-arg.m c.create_argument-in-loop-arg.new.m words (suc c.loop-arg.arg-index) (c.loop-arg.arg-index + 1 + 1)
          c.as_bytes.result.now c.loop-arg.all c.create_argument-in-loop-arg.new.all c.create_argument-in-loop-arg.ensures.kept more
          (omega (arith, within, mapped_length string_bytes c.args.args.now)) word
          (subst (λ (n : ℕ). AreArguments c.loop-arg.m 0 (take n words) c.loop-arg.all) next (inv.there few))
          (c.in_ok-create_argument-2.ensures.there (omega (arith, few, inv.count, within)));
    }

pub returns-clause-exact : goal.returns-clause-exact
returns-clause-exact c = λ sound few.
    arguments_all c.args.m.now c.loop-arg.m (program_name ∷ map string_bytes c.args.args.now) (c.loop-arg.arg-index + 1)
    (omega (arith, mapped_length string_bytes c.args.args.now)) (c.loop-arg.invariant.created sound few)

pub returns-clause-kept : goal.returns-clause-kept
returns-clause-kept c = c.loop-arg.invariant.keeps

pub returns-clause-made : goal.returns-clause-made
returns-clause-made c = c.loop-arg.invariant.made

pub returns-in_err-create_argument-2-clause-kept : goal.returns-in_err-create_argument-2-clause-kept
returns-in_err-create_argument-2-clause-kept c =
    keeps_then c.args.m.now c.loop-arg.m c.create_argument-in-loop-arg.new.m c.loop-arg.invariant.keeps c.create_argument-in-loop-arg.ensures.kept

pub returns-clause-there : goal.returns-clause-there
returns-clause-there c = λ few.
    argument_words c.loop-arg.m (program_name ∷ map string_bytes c.args.args.now) (c.loop-arg.arg-index + 1) c.loop-arg.all
    (omega (arith, mapped_length string_bytes c.args.args.now)) (c.loop-arg.invariant.there few)

pub returns-in_err-create_argument-clause-unplaced : goal.returns-in_err-create_argument-clause-unplaced
returns-in_err-create_argument-clause-unplaced c = λ e sound few.
    let none : length c.new-all.result ≡ 0 = ap length c.new-all.ensures in
    let p = err_from_is_err_and c.from_residual.result c.from_residual.ensures.1 in
    let fault = ap Err (fault_of _ p.0 _ p.1 p.2 e) in
    first_argument c.args.m.now c.create_argument.new.m (map string_bytes c.args.args.now) (length c.new-all.result) none
    (c.in_err-create_argument.ensures.same fault) (c.in_err-create_argument.ensures.unplaced fault (omega (arith, none)))

pub returns-in_err-create_argument-2-clause-unplaced : goal.returns-in_err-create_argument-2-clause-unplaced
returns-in_err-create_argument-2-clause-unplaced c = λ e sound few.
    let inv = c.loop-arg.invariant in
    let p = err_from_is_err_and c.from_residual-in_err-create_argument-2.result c.from_residual-in_err-create_argument-2.ensures.1 in
    let fault = ap Err (fault_of _ p.0 _ p.1 p.2 e) in
    some_argument c.args.m.now c.loop-arg.m c.create_argument-in-loop-arg.new.m c.args.args.now c.loop-arg.arg-index (length c.loop-arg.all) c.arg-item.result
    c.as_bytes.result.now
    inv.count c.loop-arg-test.true c.arg-item.is c.as_bytes.ensures.value (inv.created sound few) (c.in_err-create_argument-2.ensures.same fault)
    (c.in_err-create_argument-2.ensures.unplaced fault (omega (arith, few, inv.count, c.loop-arg-test.true)))
