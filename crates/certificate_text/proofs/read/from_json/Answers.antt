-- The answer to the text's value.
use Rattle.serde_json.specs.View.{view}
use Rattle.certificate_text.proofs.Answered.{answer_states, answer_has_form, answer_refuses}
use Rattle.certificate_text.proofs.read.from_json.Goals as goal

pub returns-clause-states : goal.returns-clause-states
returns-clause-states c = answer_states c.args.text.now (view c.in_ok-value.value) c.read_value.result c.in_ok-value.ensures.value c.read_value.ensures

pub returns-clause-form : goal.returns-clause-form
returns-clause-form c = answer_has_form (view c.in_ok-value.value) c.read_value.result c.read_value.ensures

pub returns-clause-refused : goal.returns-clause-refused
returns-clause-refused c = answer_refuses c.args.text.now (view c.in_ok-value.value) c.read_value.result c.in_ok-value.ensures.value c.read_value.ensures
