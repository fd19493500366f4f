use Rattle.code_view.proofs.Named.{open_placed, open_known, open_named, open_root_named}
use Rattle.code_view.proofs.law_named.Goals as goal

pub returns-clause-placed : goal.returns-clause-placed
returns-clause-placed c = open_placed

pub returns-clause-known : goal.returns-clause-known
returns-clause-known c = open_known

pub returns-clause-nodes : goal.returns-clause-nodes
returns-clause-nodes c = open_named

pub returns-clause-root : goal.returns-clause-root
returns-clause-root c = open_root_named
