-- The sentences are read by computing the function.
use Rattle.std.proofs.Common.{refl}
use denote.Hole.Carrier.{hidden}
use Rattle.c_ast.specs.declared.declaration.Base.TheBlock.{hidden-the_row-Declarator-2}
use Rattle.c_ast.specs.Input.{kind, next, is_typedef, declared}
use Rattle.parse_spec.specs.Steps.{
  left,
  same_mark,
  same_word,
  sees,
  sees_word,
  after,
  after_word,
  expect,
  expect_word,
  identifier,
  maybe_identifier,
  strings_from,
  strings,
  words_from,
}
use Rattle.parse_spec.specs.Expressions.{
  name_expr,
  string_expr,
  tight,
  inside,
  primary,
  arguments_from,
  argument_list,
  arguments,
  subscript,
  post,
  posts_from,
  posts,
  type_name,
  casted,
  size,
  alignment,
  chained,
  bracketed,
  operated,
  prefix,
  choice,
  assigned,
  joined,
  step,
  climb,
  climbed,
  operators,
  commas_from,
  commas,
  whole,
  level,
}
use Rattle.parse_spec.specs.Specifiers.{
  message,
  assertion as member_assertion,
  names_from,
  member_names,
  one_member,
  members_from,
  tagged,
  enumerator_value,
  one_enumerator,
  enumerators_from,
  enumerated,
  specifier_base,
  specifiers,
}
use Rattle.parse_spec.specs.Declarators.{
  one_parameter,
  parameters_from,
  parameters,
  array_suffix,
  function_suffix,
  one_suffix,
  suffixes_from,
  suffixes,
  nested,
  innermost,
  pointed,
  one_declarator,
}
use Rattle.parse_spec.specs.Nested.{expr}
use Rattle.parse_spec.specs.Initializers.{
  one_designator,
  designators_from,
  designation,
  entries_from as init_entries_from,
  initializer_at,
  one_initializer,
  initializer,
}
use Rattle.parse_spec.specs.Declarations.{
  assertion,
  declaration_specs,
  named_declarator,
  maybe_init,
  part_of,
  parts_from,
  more_parts,
  maybe_parts,
  declaration,
}
use Rattle.parse_spec.specs.Statements.{
  in_parentheses,
  maybe_expr,
  for_init,
  simple_stmt,
  plain_stmt,
  case_value,
  else_part,
  if_stmt,
  switch_stmt,
  while_stmt,
  do_stmt,
  for_stmt,
  label_stmt,
  case_stmt,
  default_stmt,
  one_entry,
  entries_from as block_entries_from,
  entries,
  block,
  one_stmt,
  statement,
  body,
}
use Rattle.parse_spec.specs.Units.{
  declared_as as unit_declared_as,
  declared as unit_declared,
  unit_entry,
  entries_from as unit_entries_from,
  whole_unit,
  tree_of,
}
use Rattle.parse_spec.specs.Sentences.{ReadSentences}

pub read : ReadSentences
unfolding hidden-the_row-Declarator-2 hidden kind next is_typedef declared left same_mark same_word sees sees_word after after_word expect expect_word
    identifier maybe_identifier strings_from strings words_from name_expr string_expr tight inside primary arguments_from argument_list arguments subscript
    post
    posts_from posts type_name casted size alignment chained bracketed operated prefix choice assigned joined step climb climbed operators commas_from commas
    whole level message member_assertion names_from member_names one_member members_from tagged enumerator_value one_enumerator enumerators_from enumerated
    specifier_base specifiers one_parameter parameters_from parameters array_suffix function_suffix one_suffix suffixes_from suffixes nested innermost pointed
    one_declarator expr one_designator designators_from designation init_entries_from initializer_at one_initializer initializer assertion declaration_specs
    named_declarator maybe_init part_of parts_from more_parts maybe_parts declaration in_parentheses maybe_expr for_init simple_stmt plain_stmt case_value
    else_part if_stmt switch_stmt while_stmt do_stmt for_stmt label_stmt case_stmt default_stmt one_entry block_entries_from entries block one_stmt statement
    body unit_declared_as unit_declared unit_entry unit_entries_from whole_unit tree_of
read = record {
  empty_file = refl;
  lone_semicolon = refl;
  no_parenthesis = refl;
  subtraction = refl;
  precedence = refl;
  assigned_sum = refl;
  product = refl;
  cast = refl;
  dangling_else = refl;
  designators = refl;
  hidden = refl;
  restored = refl;
}
