-- The items of the value's array are those of its data.
use Rattle.serde_json.specs.View.{view}
use Rattle.certificate_text.proofs.Steps.{list_of_values}
use Rattle.certificate_text.proofs.values.items.Goals as goal

pub returns : goal.returns
returns c = rw c.as_slice.ensures.value (list_of_values c.in_ok-as_array.field-0.now.items (view c.args.value.now) c.in_ok-as_array.ensures)
