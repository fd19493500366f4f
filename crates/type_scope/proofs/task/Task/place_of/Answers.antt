use Rattle.std.proofs.Common.{ap, ◌∙◌, sym, false}
use Rattle.std.specs.Prelude.{nat_eq}
use Rattle.std.specs.Map.{keys_of}
use Rattle.indexmap.specs.IndexMap.{keys, get}
use Rattle.type_scope.specs.declared.task.Label.{Label}
use Rattle.type_scope.proofs.Labels.{place_found, one_found, place_is, one_more_symbol, named_row, none_of}
use Rattle.type_scope.proofs.task.Task.place_of.Goals as goal

pub returns-in-Some-clause-place : goal.returns-in-Some-clause-place
returns-in-Some-clause-place c = place_found c.args.symbol c.in-Some.place (keys (c.args.self.now).labels) (sym c.in-Some.is ∙ c.get_index_of.ensures.index)

pub returns-in-Some-clause-symbols : goal.returns-in-Some-clause-symbols
returns-in-Some-clause-symbols c = one_found c.args.symbol c.in-Some.place (keys (c.args.self.now).labels) (sym c.in-Some.is ∙ c.get_index_of.ensures.index)

pub returns-clause-place : goal.returns-clause-place
returns-clause-place c = c.in_ok-place.ensures.index ∙ place_is c.args.symbol (keys (c.args.self.now).labels)

pub returns-clause-symbols : goal.returns-clause-symbols
returns-clause-symbols c =
    let v : Label = record { line = c.args.line; defined = false } in
    ap keys_of c.in_ok-place.ensures.entries ∙ one_more_symbol c.args.symbol v (c.args.self.now).labels.entries

pub returns-clause-defined : goal.returns-clause-defined
returns-clause-defined c s =
    named_row c.args.symbol s c.args.line (get nat_eq (c.args.self.now).labels) (get nat_eq c.insert_full.new.self s) (c.in_ok-place.ensures.updates.0 s)
    (none_of (get nat_eq (c.args.self.now).labels c.args.symbol) (sym c.in_default.ensures.found))
