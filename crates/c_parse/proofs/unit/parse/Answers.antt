use Rattle.std.proofs.Common.{arith}
use Rattle.c_parse.proofs.Faults.{syntax_is_not_memory}
use Rattle.parse_complete.proofs.Units.{trees_are_unique, refused_is_unspelled}
use Rattle.parse_sound.proofs.Units.{trees_spell}
use Rattle.parse_names.proofs.Units.{trees_name}
use Rattle.c_parse.proofs.unit.parse.Goals as goal

pub returns-clause-spells : goal.returns-clause-spells
returns-clause-spells c = trees_spell c.args.tokens.now c.in_ok-tree.field-0 c.in_ok-tree.ensures.ok

pub returns-clause-unique : goal.returns-clause-unique
returns-clause-unique c = λ other spelled.
    trees_are_unique c.args.tokens.now other c.in_ok-tree.field-0 spelled (trees_spell c.args.tokens.now c.in_ok-tree.field-0 c.in_ok-tree.ensures.ok)

pub returns-clause-names : goal.returns-clause-names
returns-clause-names c = trees_name c.args.tokens.now c.in_ok-tree.field-0 c.in_ok-tree.ensures.ok

pub returns-in_err-tree-clause-refused : goal.returns-in_err-tree-clause-refused
returns-in_err-tree-clause-refused c = λ at is u spelled.
    refused_is_unspelled c.args.tokens.now u
    (c.in_err-tree.ensures.err (syntax_is_not_memory c.in_err-tree.field-0.0 at (grind (arith, c.from_residual-in_err-tree.ensures, is)))) spelled
