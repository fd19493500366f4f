-- The samples, part by part.
use Rattle.std.proofs.Common.{refl, ap, ap₂, ◌∙◌, ◌≡◌, ℕ, Bool, true, false, List, [], ◌∷◌, Some, map, pos, rules}
use Rattle.std.specs.Prelude.{take}
use Rattle.c_types.specs.declared.kind.IntKind.TheVariants as kind
use Rattle.c_types.specs.declared.ty.Ty.{Ty}
use Rattle.c_types.specs.declared.ty.Ty.TheVariants as ty
use Rattle.c_types.specs.declared.ty.Ty.TheFolds as folds
use Rattle.c_types.specs.Types as types
use Rattle.c_types.specs.Types.{CType, Qualified, Signature, type_of, qualified_of, signature_of}
use Rattle.c_typed.specs.declared.tree.Access.TheVariants as access
use Rattle.c_typed.specs.declared.tree.Node.TheOpen as shape
use Rattle.c_typed.specs.declared.tree.Node.TheVariants as node
use Rattle.c_typed.specs.declared.tree.Slot.TheVariants as slot
use Rattle.c_typed.specs.declared.tree.RelOp.TheVariants as relation
use Rattle.c_typed.specs.declared.statement.Entry.{Entry}
use Rattle.c_model.specs.Program as model
use Rattle.c_model.specs.Program.{Expr, expr, none, more, Stmt, Decl, Standing}
use Rattle.c_model.specs.Examples as seen
use Rattle.program_view.specs.Trees.{expr_of}
use Rattle.program_view.specs.Objects.{decl_of, static_by, statics_from}
use Rattle.program_view.specs.Statements.{entry_of}
use Rattle.program_view.specs.Build.{int_ty, plain, pointer_ty, int_void, tree, number, object, get, load, assign, is_equal}
use Rattle.program_view.specs.Build.{returning, says, defined}
use Rattle.program_view.specs.View.{function_of}
use Rattle.program_view.specs.Samples.{local, inner, inner_seen, loop_inside, loop_entries, loop_inside_seen, loop_seen, LoopIsSeen, switch_inside}
use Rattle.program_view.specs.Samples.{switch_entries, switch_inside_seen, switch_seen, SwitchIsSeen, jump_inside, jump_entries, jump_inside_seen}
use Rattle.program_view.specs.Samples.{jump_seen, JumpIsSeen, pair_tags, pair_ty, pair_type, pair_function, pair_function_type, pair_decl}
use Rattle.program_view.specs.Samples.{pair_function_seen, pair_local, pair_value, called, pair_entries, pair_local_seen, pair_value_seen}
use Rattle.program_view.specs.Samples.{called_seen, pair_seen, StructureIsSeen, char_ty, array_ty, text_constants, array_constants, pointer_constants}
use Rattle.program_view.specs.Samples.{given_statics, pointed_value, pointed_seen, statics_seen, StaticsAreSeen, main_function, text_pointer}
use Rattle.program_view.specs.Samples.{vector_type, main_seen, ArgumentsAreSeen}
use Rattle.program_view.proofs.Building.{
  int_is,
  plain_is,
  pointer_is,
  tree_is,
  number_is,
  object_is,
  one,
  two,
  get_is,
  load_is,
  assign_is,
  increment_is,
  compared_is,
  equal_is,
  cons,
  decls,
  block_is,
  value_is,
  returning_is,
  only_if_is,
  while_is,
  switch_is,
  case_is,
  default_is,
  label_is,
  says_is,
  initializer_is,
  function_is,
  program_is,
}
use Rattle.program_view.proofs.Equations.{stmt-goto, stmt-continue, stmt-break, entry-declare}

abbrev int_type : CType
int_type = types.int kind.Int

abbrev int_signature : Signature
int_signature = record { result = int_type; params = types.none; variadic = false }

int_void_is : signature_of int_void ≡ int_signature
int_void_is = search (rules, folds.the_lemmas)

qualified_as : (t : Ty) (c : CType) → type_of t ≡ c → qualified_of (plain t) ≡ record { constant = false; ty = c }
qualified_as t c h = plain_is t ∙ ap (λ (y : CType). record { constant = false; ty = y }) h

one_int : decls [] (plain int_ty ∷ []) ≡ seen.int_decl ∷ []
one_int = ap (λ (q : Qualified). decl_of [] q ∷ []) (qualified_as int_ty int_type int_is)

local_is : expr_of local ≡ seen.local
local_is = object_is (slot.Auto 0 0) int_ty int_type int_is

inner_is : expr_of inner ≡ inner_seen
inner_is = object_is (slot.Auto 1 0) int_ty int_type int_is

local_load : expr_of (load local) ≡ seen.load seen.local
local_load = load_is local seen.local local_is

local_assign : (first : Bool) (n : ℕ) → expr_of (assign first local (number n)) ≡ seen.assign first seen.local (seen.number n)
local_assign first n = assign_is first local (number n) seen.local (seen.number n) local_is (number_is n)

-- a program that is `main` alone, without objects outside it
main_alone : (es : List Entry) (ss : List Stmt) → map (entry_of []) es ≡ ss
    → map (function_of []) (defined int_void (plain int_ty ∷ []) es ∷ []) ≡ seen.defined (seen.int_decl ∷ []) ss ∷ []
main_alone es ss h = ap (λ f. f ∷ []) (function_is [] int_void (plain int_ty ∷ []) es int_signature (seen.int_decl ∷ []) ss int_void_is one_int h)

-- `while`, `continue`, `break`

local_equals : (n : ℕ) → expr_of (is_equal (load local) (number n)) ≡ seen.is_equal (seen.load seen.local) (seen.number n)
local_equals n = equal_is (load local) (number n) (seen.load seen.local) (seen.number n) local_load (number_is n)

loop_inside_is : map (entry_of []) loop_inside ≡ loop_inside_seen
loop_inside_is =
    cons _ _ _ _ (says_is [] _ _ (value_is [] _ _ (increment_is local seen.local local_is)))
    (cons _ _ _ _ (says_is [] _ _ (only_if_is [] _ _ _ _ (local_equals 3) (stmt-continue [])))
    (cons _ _ _ _ (says_is [] _ _ (only_if_is [] _ _ _ _ (local_equals 5) (stmt-break []))) refl))

loop_is : map (entry_of []) loop_entries ≡ loop_seen
loop_is =
    cons _ _ _ _ (initializer_is [] _ _ (local_assign true 0))
    (cons _ _ _ _ (says_is [] _ _ (while_is [] _ _ _ _
    (compared_is relation.Less (load local) (number 9) (seen.load seen.local) (seen.number 9) local_load (number_is 9))
    (block_is [] 1 [] loop_inside [] loop_inside_seen refl loop_inside_is)))
    (cons _ _ _ _ (says_is [] _ _ (returning_is [] _ _ local_load)) refl))

pub loop_is_seen : LoopIsSeen
loop_is_seen = program_is [] int_void (plain int_ty ∷ []) loop_entries [] [] [] [] int_signature (seen.defined (seen.int_decl ∷ []) loop_seen ∷ []) []
    int_void_is (main_alone loop_entries loop_seen loop_is) refl

-- `switch`

switch_inside_is : map (entry_of []) switch_inside ≡ switch_inside_seen
switch_inside_is =
    cons _ _ _ _ (says_is [] _ _ (case_is [] (pos 1) _ _ (value_is [] _ _ (local_assign false 2))))
    (cons _ _ _ _ (says_is [] _ _ (case_is [] (pos 2) _ _ (value_is [] _ _ (local_assign false 3))))
    (cons _ _ _ _ (says_is [] _ _ (stmt-break []))
    (cons _ _ _ _ (says_is [] _ _ (default_is [] _ _ (value_is [] _ _ (local_assign false 4)))) refl)))

switch_is_seen_in : map (entry_of []) switch_entries ≡ switch_seen
switch_is_seen_in =
    cons _ _ _ _ (initializer_is [] _ _ (local_assign true 1))
    (cons _ _ _ _ (says_is [] _ _ (switch_is [] _ _ _ _ local_load (block_is [] 1 [] switch_inside [] switch_inside_seen refl switch_inside_is)))
    (cons _ _ _ _ (says_is [] _ _ (returning_is [] _ _ local_load)) refl))

pub switch_is_seen : SwitchIsSeen
switch_is_seen = program_is [] int_void (plain int_ty ∷ []) switch_entries [] [] [] [] int_signature
    (seen.defined (seen.int_decl ∷ []) switch_seen ∷ []) [] int_void_is (main_alone switch_entries switch_seen switch_is_seen_in) refl

-- `goto` into a block

jump_inside_is : map (entry_of []) jump_inside ≡ jump_inside_seen
jump_inside_is =
    cons _ _ _ _ (entry-declare [] 0)
    (cons _ _ _ _ (says_is [] _ _ (label_is [] 0 _ _ (value_is [] _ _
    (assign_is false inner (number 5) inner_seen (seen.number 5) inner_is (number_is 5)))))
    (cons _ _ _ _ (says_is [] _ _ (returning_is [] _ _ (load_is inner inner_seen inner_is))) refl))

jump_is : map (entry_of []) jump_entries ≡ jump_seen
jump_is =
    cons _ _ _ _ (says_is [] _ _ (stmt-goto [] 0))
    (cons _ _ _ _ (says_is [] _ _ (block_is [] 1 (plain int_ty ∷ []) jump_inside (seen.int_decl ∷ []) jump_inside_seen one_int jump_inside_is)) refl)

pub jump_is_seen : JumpIsSeen
jump_is_seen = program_is [] int_void [] jump_entries [] [] [] [] int_signature (seen.defined [] jump_seen ∷ []) [] int_void_is
    (ap (λ f. f ∷ []) (function_is [] int_void [] jump_entries int_signature [] jump_seen int_void_is refl jump_is)) refl

-- a structure that is passed and returned

pair_is : type_of pair_ty ≡ pair_type
pair_is = search (rules, folds.the_lemmas)

abbrev pair_signature : Signature
pair_signature = record { result = pair_type; params = types.more false pair_type types.none; variadic = false }

pair_function_is : signature_of pair_function ≡ pair_signature
pair_function_is = search (rules, folds.the_lemmas)

pair_pointer_is : type_of (ty.Function pair_function) ≡ pair_function_type
pair_pointer_is = search (rules, folds.the_lemmas)

laid_out_is : decl_of pair_tags (record { constant = false; ty = pair_type }) ≡ pair_decl
laid_out_is = search (rules, folds.the_lemmas)

pair_decls : decls pair_tags (plain pair_ty ∷ []) ≡ pair_decl ∷ []
pair_decls = ap (λ (q : Qualified). decl_of pair_tags q ∷ []) (qualified_as pair_ty pair_type pair_is) ∙ ap (λ d. d ∷ []) laid_out_is

pair_local_is : expr_of pair_local ≡ pair_local_seen
pair_local_is = object_is (slot.Auto 0 0) pair_ty pair_type pair_is

pair_value_is : expr_of pair_value ≡ pair_value_seen
pair_value_is = get_is (access.Whole 8 4) pair_ty pair_local pair_type pair_local_seen pair_is pair_local_is

called_is : expr_of called ≡ called_seen
called_is =
    let f = tree (node.Func 1) (pointer_ty (ty.Function pair_function)) [] in
    let f_seen = expr (model.Func 1) (types.pointer false pair_function_type) 1 none in
    tree_is (node.Call false) (shape.Call false) pair_ty (f ∷ pair_value ∷ []) pair_type (more f_seen (more pair_value_seen none)) (node.rolls-Call false)
    pair_is (two f pair_value f_seen pair_value_seen
    (tree_is (node.Func 1) (shape.Func 1) (pointer_ty (ty.Function pair_function)) [] (types.pointer false pair_function_type) none (node.rolls-Func 1)
    (pointer_is (ty.Function pair_function) ∙ ap (types.pointer false) pair_pointer_is) refl) pair_value_is)

pair_entries_are : map (entry_of pair_tags) pair_entries ≡ pair_seen
pair_entries_are =
    let place = tree (node.Member 4) (pointer_ty int_ty) (pair_local ∷ []) in
    let place_seen = expr (model.Member 4) seen.int_pointer 1 (more pair_local_seen none) in
    cons _ _ _ _ (entry-declare pair_tags 0)
    (cons _ _ _ _ (says_is pair_tags _ _ (value_is pair_tags _ _ (assign_is false place (number 3) place_seen (seen.number 3)
    (tree_is (node.Member 4) (shape.Member 4) (pointer_ty int_ty) (pair_local ∷ []) seen.int_pointer (more pair_local_seen none) (node.rolls-Member 4)
    (pointer_is int_ty ∙ ap (types.pointer false) int_is) (one pair_local pair_local_seen pair_local_is)) (number_is 3))))
    (cons _ _ _ _ (says_is pair_tags _ _ (returning_is pair_tags _ _
    (tree_is (node.Part 4 (access.Integer kind.Int)) (shape.Part 4 (access.Integer kind.Int)) int_ty (called ∷ []) int_type (more called_seen none)
    (node.rolls-Part 4 (access.Integer kind.Int)) int_is (one called called_seen called_is)))) refl))

pub structure_is_seen : StructureIsSeen
structure_is_seen = program_is pair_tags int_void (plain pair_ty ∷ []) pair_entries
    (defined pair_function (plain pair_ty ∷ []) (says (returning pair_value) ∷ []) ∷ []) [] [] [] int_signature
    (seen.defined (pair_decl ∷ []) pair_seen ∷ pair_function_seen ∷ []) [] int_void_is
    (cons _ _ _ _ (function_is pair_tags int_void (plain pair_ty ∷ []) pair_entries int_signature (pair_decl ∷ []) pair_seen int_void_is pair_decls
    pair_entries_are)
    (cons _ _ _ _ (function_is pair_tags pair_function (plain pair_ty ∷ []) (says (returning pair_value) ∷ []) pair_signature (pair_decl ∷ [])
    (model.Return pair_value_seen ∷ []) pair_function_is pair_decls
    (cons _ _ _ _ (says_is pair_tags _ _ (returning_is pair_tags _ _ pair_value_is)) refl)) refl)) refl

-- objects with static storage, with addresses and a string

char_is : type_of char_ty ≡ types.int kind.Char
char_is = search (rules, folds.the_lemmas)

array_is : type_of array_ty ≡ types.array false int_type (Some 2)
array_is = search (rules, folds.the_lemmas)

int_pointer_is : type_of (pointer_ty int_ty) ≡ seen.int_pointer
int_pointer_is = pointer_is int_ty ∙ ap (types.pointer false) int_is

text_pointer_is : type_of (pointer_ty char_ty) ≡ text_pointer
text_pointer_is = pointer_is char_ty ∙ ap (types.pointer false) char_is

abbrev three_statics : List Standing
three_statics = take 3 statics_seen

nothing_more : statics_from [] 3 [] ≡ []
nothing_more = refl

given_are : statics_from [] 0 given_statics ≡ three_statics
given_are =
    cons _ _ _ _ (ap (λ (q : Qualified). static_by [] 0 q text_constants) (qualified_as (pointer_ty char_ty) text_pointer text_pointer_is))
    (cons _ _ _ _ (ap (λ (q : Qualified). static_by [] 1 q array_constants) (qualified_as array_ty (types.array false int_type (Some 2)) array_is))
    (cons _ _ _ _ (ap (λ (q : Qualified). static_by [] 2 q pointer_constants) (qualified_as (pointer_ty int_ty) seen.int_pointer int_pointer_is))
    nothing_more))

pointed_is : expr_of pointed_value ≡ pointed_seen
pointed_is =
    let place = object (slot.Static 2) (pointer_ty int_ty) in
    let place_seen = expr (model.Obj (slot.Static 2)) (types.pointer false seen.int_pointer) 1 none in
    load_is (get access.Pointer (pointer_ty int_ty) place) (expr (model.Load access.Pointer) seen.int_pointer 1 (more place_seen none))
    (get_is access.Pointer (pointer_ty int_ty) place seen.int_pointer place_seen int_pointer_is
    (object_is (slot.Static 2) (pointer_ty int_ty) seen.int_pointer int_pointer_is))

pub statics_are_seen : StaticsAreSeen
statics_are_seen = program_is [] int_void [] (says (returning pointed_value) ∷ []) [] given_statics ((104 ∷ 105 ∷ 0 ∷ []) ∷ []) [] int_signature
    (seen.defined [] (model.Return pointed_seen ∷ []) ∷ []) three_statics int_void_is
    (ap (λ f. f ∷ []) (function_is [] int_void [] (says (returning pointed_value) ∷ []) int_signature [] (model.Return pointed_seen ∷ []) int_void_is refl
    (cons _ _ _ _ (says_is [] _ _ (returning_is [] _ _ pointed_is)) refl))) given_are

-- the arguments of `main`

abbrev main_signature : Signature
main_signature = record { result = int_type; params = types.more false int_type (types.more false vector_type types.none); variadic = false }

main_function_is : signature_of main_function ≡ main_signature
main_function_is = search (rules, folds.the_lemmas)

abbrev vector_decl : Decl
vector_decl = decl_of [] (record { constant = false; ty = vector_type })

main_decls : decls [] (plain int_ty ∷ plain (pointer_ty (pointer_ty char_ty)) ∷ []) ≡ seen.int_decl ∷ vector_decl ∷ []
main_decls = ap₂ (λ (q r : Qualified). decl_of [] q ∷ decl_of [] r ∷ []) (qualified_as int_ty int_type int_is)
    (qualified_as (pointer_ty (pointer_ty char_ty)) vector_type (pointer_is (pointer_ty char_ty) ∙ ap (types.pointer false) text_pointer_is))

pub arguments_are_seen : ArgumentsAreSeen
arguments_are_seen = program_is [] main_function (plain int_ty ∷ plain (pointer_ty (pointer_ty char_ty)) ∷ []) (says (returning (load local)) ∷ []) [] [] []
    ((120 ∷ []) ∷ []) main_signature (main_seen ∷ []) [] main_function_is
    (ap (λ f. f ∷ []) (function_is [] main_function (plain int_ty ∷ plain (pointer_ty (pointer_ty char_ty)) ∷ []) (says (returning (load local)) ∷ [])
    main_signature (seen.int_decl ∷ vector_decl ∷ []) (model.Return (seen.load seen.local) ∷ []) main_function_is main_decls
    (cons _ _ _ _ (says_is [] _ _ (returning_is [] _ _ local_load)) refl))) refl
