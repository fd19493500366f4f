use Rattle.std.proofs.Common.{◌≡◌, ◌∙◌, true, false, sym, rules, arith}
use denote.Enum.Bare.{same_true, true_same}
use Rattle.ub_base.specs.contracts.clause.Kind.{the_type}
use Rattle.ub_base.specs.declared.clause.Kind.TheVariants.{Body}
use Rattle.conflict_detector.proofs.detector.Detector.recording.Goals as goal

pub returns-then-not-inside : goal.returns-then-not-inside
returns-then-not-inside c = record {
  decided = (
    omega (arith, c.if-self-eq0.false),
    same_true the_type (search rules) c.args.event.kind Body (sym c.eq-body.ensures ∙ c.if-body.true),
    c.is_quiet.ensures c.if-not-is_quiet.false,
  );
}

pub returns-then-not-some_noted : goal.returns-then-not-some_noted
returns-then-not-some_noted c = record {
  decided = (
    omega (arith, c.if-self-eq0.false),
    (λ e. absurd (let q : true ≡ false = sym (c.eq-body.ensures ∙ true_same the_type c.args.event.kind Body e) ∙ c.if-not-body.true in cc)),
    c.some_noted.ensures.none c.if-not-some_noted.true,
    c.is_quiet.ensures c.if-not-is_quiet.false,
  );
}
