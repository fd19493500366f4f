use Rattle.std.proofs.Common.{◌∷◌, [], ◌∙◌, ap, arith, Some, None}
use Rattle.std.proofs.lemmas.Slice.Eq.{strip_prefix_is}
use Rattle.std.proofs.lemmas.Bool.Decides.{Decides-eqb}
use Rattle.c_names.proofs.Cuts.{
  BeginsWithNoStep-from_slash,
  BeginsWithNoStep-from_colon,
  BeginsWithNoStep-from_turn,
  BeginsWithNoStep-from_node,
  step_text-from,
}
use Rattle.c_names.proofs.ways.first_step.Goals as goal

pub returns-in_default : goal.returns-in_default
returns-in_default c = BeginsWithNoStep-from_slash c.args.text.now (strip_prefix_is Decides-eqb c.args.text.now (47 ∷ []) None c.in_default.ensures.cases)

pub returns-in_default-cut : goal.returns-in_default-cut
returns-in_default-cut c =
    BeginsWithNoStep-from_colon c.args.text.now c.until_slash.result.0.now c.until_slash.result.1.now
    (strip_prefix_is Decides-eqb c.args.text.now (47 ∷ []) (Some c.in-Some.rest) c.in-Some.ensures.cases ∙ ap (λ t. 47 ∷ t) c.until_slash.ensures.whole)
    c.until_slash.ensures.front c.until_slash.ensures.rest c.in_default-cut.ensures

pub returns-in_default-number : goal.returns-in_default-number
returns-in_default-number c =
    BeginsWithNoStep-from_turn c.args.text.now c.until_slash.result.0.now c.until_slash.result.1.now
    (strip_prefix_is Decides-eqb c.args.text.now (47 ∷ []) (Some c.in-Some.rest) c.in-Some.ensures.cases ∙ ap (λ t. 47 ∷ t) c.until_slash.ensures.whole)
    c.until_slash.ensures.front c.until_slash.ensures.rest
    c.in-Some-cut.turn.now c.in-Some-cut.node.now c.in-Some-cut.ensures.0 c.in-Some-cut.ensures.1 c.in_default-number.ensures

pub returns-in_default-small_number : goal.returns-in_default-small_number
returns-in_default-small_number c =
    BeginsWithNoStep-from_node c.args.text.now c.until_slash.result.0.now c.until_slash.result.1.now
    (strip_prefix_is Decides-eqb c.args.text.now (47 ∷ []) (Some c.in-Some.rest) c.in-Some.ensures.cases ∙ ap (λ t. 47 ∷ t) c.until_slash.ensures.whole)
    c.until_slash.ensures.front c.until_slash.ensures.rest
    c.in-Some-cut.turn.now c.in-Some-cut.node.now c.in-Some-cut.ensures.0 c.in-Some-cut.ensures.1 c.in_default-small_number.ensures

pub returns : goal.returns
returns c = (
  step_text-from c.args.text.now c.until_slash.result.0.now c.until_slash.result.1.now
      (strip_prefix_is Decides-eqb c.args.text.now (47 ∷ []) (Some c.in-Some.rest) c.in-Some.ensures.cases ∙ ap (λ t. 47 ∷ t) c.until_slash.ensures.whole)
      c.until_slash.ensures.front c.until_slash.ensures.rest
      c.in-Some-cut.turn.now c.in-Some-cut.node.now (c.in-Some-number.turn, c.in-Some-small_number.node)
      c.in-Some-cut.ensures.0 c.in-Some-number.ensures c.in-Some-small_number.ensures,
  (omega arith, omega arith),
  c.until_slash.ensures.rest,
)
