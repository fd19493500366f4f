use Rattle.std.proofs.Common.{◌≡◌, ◌≤◌, ◌-◌, ◌∷◌, ◌∙◌, suc, length, drop, [], List, Vec, Global, ℕ, ap, arith, refl, sym, subst}
use Rattle.std.proofs.lemmas.Result.{err_from_is_err_and}
use Rattle.mem_objects.specs.declared.value.Value.{Value}
use Rattle.libc_spec.specs.Print.{text_of}
use Rattle.libc_arguments.specs.Seen.{values_seen}
use Rattle.libc_arguments.specs.Answers.{HaveCells}
use Rattle.libc_print.specs.Seen.{left, typed}
use Rattle.libc_print.proofs.Stepping.{none_left, fits_turn}
use Rattle.libc_print.proofs.Running.{leads_begins, leads_turn, leads_fails, leads_done}
use Rattle.libc_print.proofs.printf.text_of.Goals as goal

pub loop-turn-init : goal.loop-turn-init
loop-turn-init c = record {
  fits = search arith;
  values = refl;
  leads = λ io cells. leads_begins c.args.m.now io (length c.args.format.now) c.args.t.now c.new-out.result.items c.args.format.now
      (drop c.args.first (typed c.args.values.now c.args.types.now)) c.new-out.ensures.items refl;
}

pub returns-in_default : goal.returns-in_default
returns-in_default c = λ io cells.
    let e : c.loop-turn.rest.now ≡ [] = none_left c.loop-turn.rest.now c.in_default.ensures.cases in
    leads_done c.args.m.now io (length c.args.format.now) c.loop-turn._turn (length c.args.format.now - length c.loop-turn.rest.now)
    (text_of (suc (length c.args.format.now)) c.args.m.now.rows 0 c.args.format.now (drop c.args.first (typed c.args.values.now c.args.types.now)))
    c.args.t.now
    c.loop-turn.t c.loop-turn.out.items c.loop-turn.rest.now (left c.loop-turn.args) (search (arith, c.loop-turn.auto)) e
    (c.loop-turn.invariant.leads io cells)

pub returns-in_err-len : goal.returns-in_err-len
returns-in_err-len c =
    let d : c.loop-turn.rest.now ≡ c.in-Some.byte.now ∷ c.in-Some.cs.now = c.in-Some.ensures.cases.0 in
    let p = err_from_is_err_and c.from_residual.result c.from_residual.ensures.1 in
    rw (p.1, p.2) (λ io cells.
    leads_fails (λ (v : Vec ℕ Global). v.items) c.args.m.now io (length c.args.format.now) c.loop-turn._turn
    (length c.args.format.now - length c.loop-turn.rest.now) c.in-Some.byte.now c.in_err-len.field-0.0
    (text_of (suc (length c.args.format.now)) c.args.m.now.rows 0 c.args.format.now (drop c.args.first (typed c.args.values.now c.args.types.now)))
    c.args.t.now
    c.loop-turn.t c.put_next.new.t c.loop-turn.out.items c.put_next.new.out.items c.loop-turn.rest.now c.in-Some.cs.now
    (left c.loop-turn.args) (left c.put_next.new.args) c.loop-turn-test.true refl d (c.loop-turn.invariant.leads io cells)
    (c.in_err-len.ensures.exact io (subst (λ (vs : List Value). HaveCells c.args.m.now (values_seen vs)) (sym c.loop-turn.invariant.values) cells)))

pub loop-turn-preserved : goal.loop-turn-preserved
loop-turn-preserved c =
    let d : c.loop-turn.rest.now ≡ c.in-Some.byte.now ∷ c.in-Some.cs.now = c.in-Some.ensures.cases.0 in
    let b : c.behind-rest.result.now ≡ drop c.in_ok-len.len c.in-Some.cs.now = c.behind-rest.ensures in
    let small : c.in_ok-len.len ≤ length c.in-Some.cs.now = c.in_ok-len.ensures.len in
    record {
      fits = fits_turn (length c.args.format.now) c.loop-turn._turn c.in_ok-len.len c.loop-turn.rest.now c.in-Some.cs.now c.behind-rest.result.now
          c.in-Some.byte.now c.loop-turn.invariant.fits d b;
      values = ap (λ r. r.now) c.in_ok-len.ensures.values ∙ c.loop-turn.invariant.values;
      leads = λ io cells. leads_turn c.args.m.now io (length c.args.format.now) c.loop-turn._turn (length c.args.format.now - length c.loop-turn.rest.now)
          c.in-Some.byte.now c.in_ok-len.len
          (text_of (suc (length c.args.format.now)) c.args.m.now.rows 0 c.args.format.now (drop c.args.first (typed c.args.values.now c.args.types.now)))
          c.args.t.now
          c.loop-turn.t c.put_next.new.t c.loop-turn.out.items c.put_next.new.out.items c.loop-turn.rest.now c.in-Some.cs.now c.behind-rest.result.now
          (left c.loop-turn.args) (left c.put_next.new.args) c.loop-turn-test.true c.loop-turn.invariant.fits small refl d b
          (c.loop-turn.invariant.leads io cells)
          (c.in_ok-len.ensures.exact io (subst (λ (vs : List Value). HaveCells c.args.m.now (values_seen vs)) (sym c.loop-turn.invariant.values) cells));
    }

pub returns : goal.returns
returns c = λ io cells.
    let z : length c.loop-turn.rest.now ≡ 0 = search (arith, c.loop-turn.invariant.fits, c.loop-turn-test.false) in
    let e : c.loop-turn.rest.now ≡ [] = none_left c.loop-turn.rest.now z in
    leads_done c.args.m.now io (length c.args.format.now) c.loop-turn._turn (length c.args.format.now - length c.loop-turn.rest.now)
    (text_of (suc (length c.args.format.now)) c.args.m.now.rows 0 c.args.format.now (drop c.args.first (typed c.args.values.now c.args.types.now)))
    c.args.t.now
    c.loop-turn.t c.loop-turn.out.items c.loop-turn.rest.now (left c.loop-turn.args) (search (arith, c.loop-turn.invariant.fits)) e
    (c.loop-turn.invariant.leads io cells)
