use Rattle.std.proofs.Common.{ap, ◌∙◌, true}
use Rattle.std.specs.Prelude.{nat_eq}
use Rattle.std.specs.Map.{keys_of}
use Rattle.indexmap.specs.IndexMap.{keys, get}
use Rattle.type_scope.specs.declared.task.Label.{Label}
use Rattle.type_scope.proofs.Labels.{place_is, one_more_symbol, defined_row}
use Rattle.type_scope.proofs.task.Task.with_label.Goals as goal

pub returns-clause-place : goal.returns-clause-place
returns-clause-place c = c.in_ok-place.ensures.index ∙ place_is c.args.symbol (keys (c.args.self.now).labels)

pub returns-clause-symbols : goal.returns-clause-symbols
returns-clause-symbols c =
    let v : Label = record { line = c.args.line; defined = true } in
    ap keys_of c.in_ok-place.ensures.entries ∙ one_more_symbol c.args.symbol v (c.args.self.now).labels.entries

pub returns-clause-defined : goal.returns-clause-defined
returns-clause-defined c s =
    defined_row c.args.symbol s c.args.line (get nat_eq c.insert_full.new.self s) (get nat_eq (c.args.self.now).labels s)
    (c.in_ok-place.ensures.updates.0 s)
