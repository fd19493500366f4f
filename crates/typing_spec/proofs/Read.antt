-- The samples hold by computation.
use Rattle.std.proofs.Common.{refl}
use Rattle.typing_spec.proofs.Computing.{computing}
use Rattle.typing_spec.specs.Wholes.{Reached, Stored, Unreached}
use Rattle.typing_spec.specs.Trees.{Statements}
use Rattle.typing_spec.specs.Trees.{Pointers}
use Rattle.typing_spec.specs.Trees.{Integers}
use Rattle.typing_spec.specs.Refused.{RefusedExpressions}
use Rattle.typing_spec.specs.Refused.{RefusedStatements}
use Rattle.typing_spec.specs.Refused.{RefusedInitializers}
use Rattle.typing_spec.specs.Refused.{RefusedDeclarations}
use Rattle.typing_spec.specs.Initialized.{Lists}
use Rattle.typing_spec.specs.Initialized.{Scalars}
use Rattle.typing_spec.specs.Declarations.{Linkage}
use Rattle.typing_spec.specs.Declarations.{Specifiers}
use Rattle.typing_spec.specs.Declarations.{Declarators}

pub declarators : Declarators
unfolding computing
declarators = record {
  pointers = refl;
  array_of_pointers = refl;
  pointer_to_array = refl;
  arrays = refl;
  pointer_to_function = refl;
  pointers_to_functions = refl;
  function_of_function = refl;
  variadic = refl;
  no_parameters = refl;
  adjusted = refl;
  adjusted_at_once = refl;
  const_object = refl;
  const_elements = refl;
  const_parameter = refl;
  restricted = refl;
}

pub specifiers : Specifiers
unfolding computing
specifiers = record {
  integers = refl;
  further_integers = refl;
  typedef_names = refl;
  typedef_again = refl;
  hidden_typedef = refl;
  structure = refl;
  padding = refl;
  union_size = refl;
  itself = refl;
  completed_later = refl;
  inner_tag = refl;
  tag_alone = refl;
  tag_named = refl;
  tag_in_a_size = refl;
  enumerators = refl;
  enumerator_in_a_size = refl;
  enumerator_behind_itself = refl;
  sizes = refl;
  array_operand = refl;
  assertion = refl;
  unnamed_const = refl;
}

pub linkage : Linkage
unfolding computing
linkage = record {
  one_object = refl;
  in_a_block = refl;
  two_objects = refl;
  tentative = refl;
  in_file_scope = refl;
  composite = refl;
  by_initializer = refl;
  completed = refl;
  without_linkage = refl;
  one_element = refl;
  by_definition = refl;
  literals = refl;
  own_parameters = refl;
  later_type = refl;
  unused = refl;
  of_main = refl;
  library = refl;
}

pub scalars : Scalars
unfolding computing
scalars = record {
  number = refl;
  negative = refl;
  long_number = refl;
  truth = refl;
  narrowed = refl;
  character = refl;
  in_braces = refl;
  computed = refl;
  chosen = refl;
  joined = refl;
  enumerator = refl;
  null = refl;
  function_address = refl;
  literal_address = refl;
  own_address = refl;
  element_address = refl;
  static_in_a_block = refl;
}

pub lists : Lists
unfolding computing
lists = record {
  array_list = refl;
  partly = refl;
  nested = refl;
  left_out = refl;
  left_out_inside = refl;
  structures = refl;
  element = refl;
  goes_back = refl;
  goes_on = refl;
  members = refl;
  behind_braces = refl;
  unnamed = refl;
  first_member = refl;
  named_member = refl;
  behind_a_union = refl;
  string = refl;
  string_without_zero = refl;
  string_in_braces = refl;
  strings = refl;
  string_as_member = refl;
  characters = refl;
  zeros = refl;
  union_zeros = refl;
  padding_unwritten = refl;
  automatic_string = refl;
}

pub refused_declarations : RefusedDeclarations
unfolding computing
refused_declarations = record {
  linkage_twice = refl;
  static_behind = refl;
  enumerations = refl;
  other_type = refl;
  completed_type = refl;
  other_function = refl;
  object_and_function = refl;
  internal_array = refl;
  size_in_a_block = refl;
  undefined = refl;
  function_undefined = refl;
  twice = refl;
  function_twice = refl;
  library_defined = refl;
  library_type = refl;
  no_main = refl;
  void_main = refl;
  two_in_a_scope = refl;
  parameter_again = refl;
  typedef_changed = refl;
  nothing_declared = refl;
  two_classes = refl;
  file_register = refl;
  parameter_class = refl;
  static_function = refl;
  words = refl;
  restrict_alone = refl;
  no_function = refl;
  inline_tag = refl;
  inline_parameter = refl;
  inline_main = refl;
  void_beside = refl;
  void_beside_others = refl;
  void_named = refl;
  no_elements = refl;
  incomplete_elements = refl;
  array_returned = refl;
  object_incomplete = refl;
  void_object = refl;
  content_twice = refl;
  other_kind = refl;
  member_twice = refl;
  member_incomplete = refl;
  enumeration_incomplete = refl;
  enumerator_again = refl;
  other_parameters = refl;
  parameter_unnamed = refl;
  assertion_false = refl;
}

pub refused_initializers : RefusedInitializers
unfolding computing
refused_initializers = record {
  full = refl;
  string_long = refl;
  behind_the_end = refl;
  no_such_member = refl;
  array_without_braces = refl;
  double_braces = refl;
  not_constant = refl;
  overflow = refl;
  extern_in_a_block = refl;
  pointer_from_integer = refl;
  twice_given = refl;
  part_and_list = refl;
  part_and_row = refl;
  part_and_string = refl;
  part_and_string_member = refl;
  string_and_part = refl;
  two_union_members = refl;
  two_parts_of_unions = refl;
  part_of_value = refl;
}

pub refused_statements : RefusedStatements
unfolding computing
refused_statements = record {
  break_outside = refl;
  continue_in_switch = refl;
  case_outside = refl;
  default_outside = refl;
  case_twice = refl;
  case_twice_converted = refl;
  default_twice = refl;
  label_missing = refl;
  label_twice = refl;
  label_of_another = refl;
  test_of_void = refl;
  switch_on_a_pointer = refl;
  value_returned = refl;
  nothing_returned = refl;
  static_in_for = refl;
  name_behind_its_block = refl;
  name_behind_its_loop = refl;
}

pub refused_expressions : RefusedExpressions
unfolding computing
refused_expressions = record {
  undeclared = refl;
  pointer_multiplied = refl;
  pointers_added = refl;
  integer_less_pointer = refl;
  shifted_pointer = refl;
  compared_with_integer = refl;
  equal_to_integer = refl;
  unlike_pointers = refl;
  constant_assigned = refl;
  constant_incremented = refl;
  assigned_pointer = refl;
  address_of_value = refl;
  star_on_integer = refl;
  complement_of_pointer = refl;
  called_integer = refl;
  few_arguments = refl;
  subscript_of_integers = refl;
  member_of_integer = refl;
  size_of_function = refl;
  array_cast = refl;
  function_as_integer = refl;
  character_too_wide = refl;
  constant_too_wide = refl;
}

pub integers : Integers
unfolding computing
integers = record {
  decimal = refl;
  character = refl;
  object = refl;
  negated = refl;
  complement = refl;
  inverted = refl;
  same = refl;
  times = refl;
  quotient = refl;
  remainder = refl;
  plus = refl;
  minus = refl;
  left = refl;
  right = refl;
  bits_and = refl;
  bits_differ = refl;
  bits_or = refl;
  less = refl;
  at_least = refl;
  greater = refl;
  at_most = refl;
  equal = refl;
  different = refl;
  both = refl;
  either = refl;
  chosen = refl;
  sequence = refl;
  converted = refl;
  balanced = refl;
  size = refl;
  size_of_type = refl;
  alignment = refl;
  assigned = refl;
  compound = refl;
  incremented = refl;
  decremented_first = refl;
  call = refl;
}

pub pointers : Pointers
unfolding computing
pointers = record {
  pointed = refl;
  address = refl;
  element = refl;
  element_other_way = refl;
  moved_back = refl;
  difference = refl;
  less = refl;
  null = refl;
  not_null = refl;
  stepped = refl;
  moved = refl;
  assigned = refl;
  as_integer = refl;
  as_truth = refl;
  from_integer = refl;
  as_characters = refl;
  literal = refl;
  chosen = refl;
}

pub statements : Statements
unfolding computing
statements = record {
  empty = refl;
  null_statement = refl;
  full_expression = refl;
  inner_block = refl;
  branch = refl;
  branches = refl;
  while_loops = refl;
  do_loops = refl;
  for_without = refl;
  for_with = refl;
  for_declares = refl;
  returning = refl;
  jumps = refl;
  selected = refl;
  declared = refl;
  initialized = refl;
  listed = refl;
  not_declared = refl;
  parameters_first = refl;
  numbered = refl;
}

pub reached : Reached
unfolding computing
reached = record {
  member = refl;
  first_member = refl;
  behind_pointer = refl;
  of_target = refl;
  of_address = refl;
  element = refl;
  first_element = refl;
  of_element = refl;
  address = refl;
  assigned = refl;
  changed = refl;
  stepped = refl;
  of_assigned = refl;
  of_chosen = refl;
  of_result = refl;
  argument = refl;
  size = refl;
  difference = refl;
  nested = refl;
  unnamed = refl;
  of_union = refl;
  of_const = refl;
  of_array_member = refl;
}

pub stored : Stored
unfolding computing
stored = record {
  returned = refl;
  assigned = refl;
  initialized = refl;
  listed = refl;
  member_address = refl;
}

pub unreached : Unreached
unfolding computing
unreached = record {
  no_such_member = refl;
  no_such_behind_pointer = refl;
  dot_of_pointer = refl;
  arrow_of_structure = refl;
  array_of_value = refl;
  part_assigned = refl;
  integer_assigned = refl;
  tested = refl;
  added = refl;
  as_argument = refl;
  as_result = refl;
  const_member = refl;
  const_inside = refl;
  of_incomplete = refl;
  other_structure = refl;
}
