use Rattle.std.proofs.Common.{List, subst}
use Rattle.addr_map.specs.declared.map.Row.{Row}
use Rattle.addr_map.specs.Sound.{IsMap}
use Rattle.core_run.proofs.canonical.keep_rules.Goals as goal

pub returns : goal.returns
returns c = subst (λ (rows : List Row). IsMap rows) c.map.ensures c.law_rows.ensures
