use Rattle.std.proofs.Common.{sym, ap, ◌∙◌}
use Rattle.c_grammar.specs.Grammar.{name_of}
use Rattle.type_declarators.proofs.Declared.{name_pointer, name_array, name_function}
use Rattle.type_declarators.proofs.declarator.+name_of.Goals as goal

pub returns-in-Pointer : goal.returns-in-Pointer
returns-in-Pointer t c = c.name_of.ensures ∙ ap name_of c.get.ensures ∙ sym (name_pointer _ _ _ c.in-Pointer.is)

pub returns-in-Array : goal.returns-in-Array
returns-in-Array t c = c.name_of-in-Array.ensures ∙ ap name_of c.get-in-Array.ensures ∙ sym (name_array _ _ _ c.in-Array.is)

pub returns-in-Function : goal.returns-in-Function
returns-in-Function t c = c.name_of-in-Function.ensures ∙ ap name_of c.get-in-Function.ensures ∙ sym (name_function _ _ _ _ c.in-Function.is)
