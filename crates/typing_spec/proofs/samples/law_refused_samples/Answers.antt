use Rattle.typing_spec.proofs.Read.{refused_declarations, refused_initializers, refused_statements, refused_expressions}
use Rattle.typing_spec.proofs.samples.law_refused_samples.Goals as goal

pub returns-clause-refused_declarations : goal.returns-clause-refused_declarations
returns-clause-refused_declarations c = refused_declarations

pub returns-clause-refused_initializers : goal.returns-clause-refused_initializers
returns-clause-refused_initializers c = refused_initializers

pub returns-clause-refused_statements : goal.returns-clause-refused_statements
returns-clause-refused_statements c = refused_statements

pub returns-clause-refused_expressions : goal.returns-clause-refused_expressions
returns-clause-refused_expressions c = refused_expressions
