-- All that the samples compute with.
use denote.Hole.Carrier.{hidden, roll}
use Rattle.c_ast.specs.declared.declaration.Enumerator as enumerator
use Rattle.c_ast.specs.declared.declaration.Base.TheBlock as tree_base
use Rattle.c_ast.specs.declared.declaration.Init.TheBlock as tree_init
use Rattle.c_ast.specs.declared.statement.Entry.TheBlock as tree_entry
use Rattle.c_ast.specs.Input as tree_input
use Rattle.c_ast.specs.Nest as tree_nest
use Rattle.parse_spec.specs.Declarations as parse_declarations
use Rattle.parse_spec.specs.Declarators as parse_declarators
use Rattle.parse_spec.specs.Expressions as parse_expressions
use Rattle.parse_spec.specs.Initializers as parse_initializers
use Rattle.parse_spec.specs.Nested as parse_nested
use Rattle.parse_spec.specs.Specifiers as parse_specifiers
use Rattle.parse_spec.specs.Statements as parse_statements
use Rattle.parse_spec.specs.Steps as parse_steps
use Rattle.parse_spec.specs.Units as parse_units
use Rattle.type_assignments.specs.Assignments as operate_assignments
use Rattle.type_conversions.specs.Assigned as operate_assigned
use Rattle.type_conversions.specs.Casts as operate_casts
use Rattle.type_calls.specs.Calls as operate_calls
use Rattle.type_calls.specs.Choices as operate_choices
use Rattle.type_constants.specs.Constants as operate_constants
use Rattle.type_operands.specs.Conversions as operate_conversions
use Rattle.type_operators.specs.Members as operate_members
use Rattle.type_operators.specs.Operators as operate_operators
use Rattle.typing_env.specs.Env as env
use Rattle.typing_spec.specs.Expressions as typing_expressions
use Rattle.typing_spec.specs.Externals as typing_externals
use Rattle.typing_spec.specs.Initializers as typing_initializers
use Rattle.typing_env.specs.Names as typing_names
use Rattle.typing_spec.specs.Statements as typing_statements
use Rattle.typing_spec.specs.Units as typing_units
use Rattle.typing_words.specs.Words as typing_words

unfoldable pub computing : Unit {0}
unfolding hidden roll enumerator.roll-Enumerator tree_base.hidden-the_row-Declarator-2 tree_base.hidden-the_row-Declarator-5
    tree_base.hidden-the_row-Enumerator-1 tree_base.hidden-the_row-Expr-3 tree_base.hidden-the_row-Expr-6 tree_base.hidden-the_row-MemberEntry-0
    tree_base.hidden-the_row-Param-4 tree_base.hidden-the_row-TypeName-7 tree_init.hidden-the_row-InitEntry-0 tree_entry.hidden-the_row-Entry-0
    tree_entry.hidden-the_row-Stmt-1 tree_input.kind tree_input.next tree_input.is_typedef tree_input.declared tree_input.back_to tree_nest.greatest
    parse_declarations.assertion parse_declarations.declaration_specs parse_declarations.named_declarator parse_declarations.maybe_init
    parse_declarations.part_of parse_declarations.parts_from parse_declarations.more_parts parse_declarations.maybe_parts
    parse_declarations.declaration parse_declarators.one_parameter parse_declarators.parameters_from parse_declarators.parameters
    parse_declarators.array_suffix parse_declarators.function_suffix parse_declarators.one_suffix parse_declarators.suffixes_from
    parse_declarators.suffixes parse_declarators.nested parse_declarators.innermost parse_declarators.pointed parse_declarators.one_declarator
    parse_expressions.name_expr parse_expressions.string_expr parse_expressions.tight parse_expressions.inside parse_expressions.primary
    parse_expressions.arguments_from parse_expressions.argument_list parse_expressions.arguments parse_expressions.subscript parse_expressions.post
    parse_expressions.posts_from parse_expressions.posts parse_expressions.type_name parse_expressions.casted parse_expressions.size
    parse_expressions.alignment parse_expressions.chained parse_expressions.bracketed parse_expressions.operated parse_expressions.prefix
    parse_expressions.choice parse_expressions.assigned parse_expressions.joined parse_expressions.step parse_expressions.climb
    parse_expressions.climbed parse_expressions.operators parse_expressions.commas_from parse_expressions.commas parse_expressions.whole
    parse_expressions.level parse_initializers.one_designator parse_initializers.designators_from parse_initializers.designation
    parse_initializers.entries_from parse_initializers.initializer_at parse_initializers.one_initializer parse_initializers.initializer
    parse_nested.expr parse_nested.declarator parse_nested.specs parse_specifiers.message parse_specifiers.assertion parse_specifiers.names_from
    parse_specifiers.member_names parse_specifiers.one_member parse_specifiers.members_from parse_specifiers.tagged parse_specifiers.enumerator_value
    parse_specifiers.one_enumerator parse_specifiers.enumerators_from parse_specifiers.enumerated parse_specifiers.specifier_base
    parse_specifiers.specifiers parse_statements.in_parentheses parse_statements.maybe_expr parse_statements.for_init parse_statements.simple_stmt
    parse_statements.plain_stmt parse_statements.case_value parse_statements.else_part parse_statements.if_stmt parse_statements.switch_stmt
    parse_statements.while_stmt parse_statements.do_stmt parse_statements.for_stmt parse_statements.label_stmt parse_statements.case_stmt
    parse_statements.default_stmt parse_statements.one_entry parse_statements.entries_from parse_statements.entries parse_statements.block
    parse_statements.one_stmt parse_statements.statement parse_statements.body parse_steps.left parse_steps.same_mark parse_steps.same_word
    parse_steps.sees parse_steps.sees_word parse_steps.after parse_steps.after_word parse_steps.expect parse_steps.expect_word parse_steps.identifier
    parse_steps.maybe_identifier parse_steps.strings_from parse_steps.strings parse_steps.words_from parse_units.declared_as parse_units.declared
    parse_units.unit_entry parse_units.entries_from parse_units.whole_unit parse_units.tree_of operate_assigned.as_if_assigned
    operate_assigned.default_promoted operate_assignments.modifiable operate_assignments.working_kind operate_assignments.right_operand
    operate_assignments.integer_compound operate_assignments.pointer_change operate_assignments.pointer_compound operate_assignments.compound
    operate_assignments.change_by_one operate_assignments.stepped operate_assignments.incremented operate_assignments.stored
    operate_assignments.assigned operate_calls.called operate_choices.chosen_pointer operate_choices.chosen_integer operate_choices.chosen_values
    operate_choices.chosen operate_choices.last operate_constants.integer_constant operate_conversions.value operate_conversions.to_kind
    operate_conversions.promoted operate_conversions.usual_kind operate_conversions.balanced operate_conversions.conversion_to
    operate_conversions.discarded operate_conversions.converted_on operate_members.member_of operate_members.member_place operate_members.part_behind
    operate_members.member_part operate_members.member_of_pointer operate_operators.arithmetic operate_operators.multiplied operate_operators.shifted
    operate_operators.plus operate_operators.of_promoted operate_casts.truth operate_operators.inverted operate_conversions.step
    operate_operators.moved operate_operators.added operate_operators.difference operate_operators.subtracted operate_operators.indexed
    operate_operators.compared operate_operators.joined operate_operators.dereferenced operate_operators.equated operate_casts.scalar_cast
    operate_casts.void_cast env.symbol_of env.line_of env.spelling typing_expressions.literal_at
    typing_expressions.made typing_expressions.named_as typing_expressions.named typing_expressions.number typing_expressions.character
    typing_expressions.strings typing_expressions.made_modifying typing_expressions.measured typing_expressions.measured_operand
    typing_expressions.asserted typing_expressions.specified_as typing_expressions.by_keywords typing_expressions.by_typedef typing_expressions.lone
    typing_expressions.enumerated typing_expressions.derived_type typing_expressions.expression typing_expressions.operand typing_expressions.operands
    typing_expressions.constant_in typing_expressions.type_name typing_expressions.specified typing_expressions.tagged typing_expressions.members
    typing_expressions.member typing_expressions.fields typing_expressions.enumeration_by typing_expressions.enumerators
    typing_expressions.enumerator_behind typing_expressions.value_given typing_expressions.derivations typing_expressions.inner
    typing_expressions.count typing_expressions.parameters typing_expressions.declared typing_expressions.constant typing_expressions.assertion
    typing_externals.tentative typing_externals.defined typing_externals.file_object typing_externals.file_function typing_externals.file_identifier
    typing_externals.file_declarator typing_externals.file_declarators typing_externals.file_declaration typing_externals.body_of
    typing_externals.function_definition typing_externals.external typing_externals.externals typing_initializers.designated_by
    typing_initializers.designated typing_initializers.fixed_value typing_initializers.given_value typing_initializers.text_given
    typing_initializers.part_at typing_initializers.added typing_initializers.settled typing_initializers.value_at typing_initializers.expressed_at
    typing_initializers.text_at typing_initializers.string_at typing_initializers.begun typing_initializers.listed typing_initializers.entry
    typing_initializers.whole_value typing_initializers.whole_text typing_initializers.whole_list typing_initializers.given_to
    typing_initializers.initialized typing_initializers.automatic typing_names.scoped typing_names.in_prototype typing_names.with_prototype
    typing_names.meaning_of typing_names.meaning_here typing_names.declare typing_names.declare_typedef typing_names.redeclared
    typing_names.entity_of_object typing_names.declare_object typing_names.define_object typing_names.complete_object typing_names.give_initial
    typing_names.entity_of_function typing_names.declare_function typing_statements.begin_block typing_statements.end_block
    typing_statements.automatic_with typing_statements.automatic_object typing_statements.static_with typing_statements.static_object
    typing_statements.block_function typing_statements.extern_object typing_statements.block_identifier typing_statements.typedef_name
    typing_statements.block_declarator typing_statements.block_declarators typing_statements.specifiers typing_statements.block_declaration
    typing_statements.loop_declarators typing_statements.loop_declaration typing_statements.unused typing_statements.unused_part
    typing_statements.tested typing_statements.tested_part typing_statements.selecting typing_statements.returned typing_statements.label
    typing_statements.define_label typing_statements.case_label typing_statements.default_label typing_statements.in_loop typing_statements.in_switch
    typing_statements.loop_begun typing_statements.loop_ended typing_statements.statement_of typing_statements.one typing_statements.otherwise
    typing_statements.items_of typing_statements.item typing_statements.body_items typing_units.program_of typing_units.known_of typing_units.typed_of
    typing_words.is_word typing_words.declare_parameter typing_words.parameter typing_words.new_tag typing_words.declare_tag typing_words.tag_or_new
    typing_words.reference typing_words.open_tag typing_words.close_tag typing_words.named_member typing_words.unnamed_member
    typing_words.enumeration_seen typing_words.enumeration_reference typing_words.name_enumeration typing_words.open_enumeration
    typing_words.close_enumeration
computing = tt
