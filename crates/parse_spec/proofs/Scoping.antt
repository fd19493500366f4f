-- A scope that ends leaves the declarations that stood before it.
use Rattle.parse_spec.specs.ScopeLaws.{ScopesEnd}
use Rattle.parse_spec.specs.Statements.{statement}
use Rattle.parse_spec.proofs.Adding.{scoped_ends}
use Rattle.parse_spec.proofs.AddingRules.{expr_adds, declarator_adds, specs_adds}
use Rattle.parse_spec.proofs.AddingUnits.{declaration_adds, statement_adds, unit_adds}

pub scopes_end : ScopesEnd
scopes_end = record {
  expressions = expr_adds;
  declarators = declarator_adds;
  specifiers = specs_adds;
  declaration = declaration_adds;
  statements = statement_adds;
  units = unit_adds;
  blocks = λ depth i j a h. scoped_ends (statement depth) (statement_adds depth) i j a h;
}
