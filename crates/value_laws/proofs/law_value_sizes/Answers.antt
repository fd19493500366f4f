use Rattle.value_laws.proofs.Stores.{values_have_sizes, wholes_are_stored}
use Rattle.value_laws.proofs.ParameterStores.{parameters_are_stored}
use Rattle.value_laws.proofs.ArgumentSizes.{arguments_have_sizes}
use Rattle.value_laws.proofs.law_value_sizes.Goals as goal

pub returns : goal.returns
returns c = record { values = values_have_sizes; stores = wholes_are_stored; parameters = parameters_are_stored; arguments = arguments_have_sizes }
