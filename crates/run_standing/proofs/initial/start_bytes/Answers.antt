use Rattle.std.proofs.Common.{ℕ, ◌+◌, ◌^◌, ◌∷◌, ◌∙◌, ap, arith, map, min, string_bytes, sym}
use Rattle.run_standing.specs.Standing.{program_name}
use Rattle.run_standing.specs.Sums.{argument_sizes, summed}
use Rattle.run_standing.proofs.Stands.{mapped_length}
use Rattle.run_standing.proofs.Sums.{given_sum, named_sum}
use Rattle.run_standing.proofs.initial.start_bytes.Goals as goal

pub returns : goal.returns
returns c = record {
  exact = λ few os stand.
      named_sum c.args.p.now (program_name ∷ map string_bytes c.args.args.now) os c.static_bytes.result c.literal_bytes-named.result stand
      (sym c.takes_arguments.ensures ∙ c.if-takes_arguments.false) c.static_bytes.ensures c.literal_bytes-named.ensures;
}

pub returns-then-takes_arguments : goal.returns-then-takes_arguments
returns-then-takes_arguments c =
    let words = map string_bytes c.args.args.now in
    let named = c.literal_bytes-named.result in
    let strings = c.argument_bytes-strings.result in
    let name = c.total.ensures ∙ ap (λ (k : ℕ). min (named + k) (2 ^ 62)) c.counted.ensures in
    record {
      exact = λ few os stand.
          given_sum c.args.p.now words os c.static_bytes.result named strings c.vector_size.result c.total-then-takes_arguments.result stand
          (sym c.takes_arguments.ensures ∙ c.if-takes_arguments.true) c.static_bytes.ensures c.literal_bytes-named.ensures
          (c.argument_bytes-strings.ensures ∙ ap (λ (n : ℕ). summed n (argument_sizes words)) name)
          (omega (arith, c.vector_size.ensures (omega (arith, few)), mapped_length string_bytes c.args.args.now))
          (c.total-then-takes_arguments.ensures ∙ ap (λ (k : ℕ). min (strings + k) (2 ^ 62)) c.counted-then-takes_arguments.ensures);
    }
