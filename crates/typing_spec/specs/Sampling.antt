-- What is said of small texts: whether they have a program, and what it declares, gives and does. Each is read from its bytes, by the
-- lexer's function, the parser's and the definition of typing.
use Rattle.std.specs.Prelude.{ℕ, Bool, false, not, ◌&&◌, pos, codes, List, [], ◌∷◌, ◌++◌, map, Option, Some, None, is_some}
use Rattle.parse_spec.specs.Units.{tree_of}
use Rattle.c_types.specs.declared.kind.IntKind.TheVariants.{Int}
use Rattle.c_types.specs.Types.{CType, Params, none as no_parameter, more as parameter_then, int, pointer, array}
use Rattle.c_typed.specs.declared.tree.Node.TheOpen as shape
use Rattle.c_typed.specs.declared.tree.Slot.TheVariants as slot
use Rattle.c_typed.specs.declared.tree.Access.TheVariants as access
use Rattle.c_typed.specs.declared.program.Content.TheVariants as content
use Rattle.c_typed.specs.declared.program.Constant.{Constant}
use Rattle.c_typed.specs.Sites.{Head}
use Rattle.type_operands.specs.Terms.{Term, term, none, terms_from}
use Rattle.typing_env.specs.Seen.{SeenStatic, SeenFunction, SeenMember, SeenTag, Statement, Entries}
use Rattle.typing_env.specs.Seen.{compound, section, initializes, returns, statement, declares}
use Rattle.typing_env.specs.Env.{Object, Routine, if_found}
use Rattle.typing_spec.specs.Units.{tokens_of, known_in, program_in}

-- 1. What is found.

-- whether the text has a tree
abbrev pub is_spelled : List ℕ → Bool
is_spelled text = is_some (if_found (tokens_of text) tree_of)

-- whether it has a program
abbrev pub is_typed : List ℕ → Bool
is_typed text = is_some (program_in text)

-- whether it keeps the constraints up to its end
abbrev pub is_known : List ℕ → Bool
is_known text = is_some (known_in text)

-- it has a tree, and no program; or breaks a constraint before its end
abbrev pub has_no_program : List ℕ → Bool
has_no_program text = is_spelled text && not (is_typed text)

abbrev pub is_broken : List ℕ → Bool
is_broken text = is_spelled text && not (is_known text)

-- the types of the objects with static storage, in the order in which they are declared
abbrev pub type_of_object : Object → CType
type_of_object o = (o.qual).ty

abbrev pub types_in : List ℕ → Option (List CType)
types_in text = if_found (known_in text) (λ env. Some (map type_of_object env.objects))

-- what the first of them is given
abbrev pub given_to_first : List Object → Option (List Constant)
given_to_first [] = None
given_to_first (o ∷ os) = o.initial

abbrev pub given_in : List ℕ → Option (List Constant)
given_in text = if_found (known_in text) (λ env. given_to_first env.objects)

abbrev pub tags_in : List ℕ → Option (List SeenTag)
tags_in text = if_found (known_in text) (λ env. Some env.tags)

abbrev pub statics_in : List ℕ → Option (List SeenStatic)
statics_in text = if_found (program_in text) (λ p. Some p.statics)

abbrev pub literals_in : List ℕ → Option (List (List ℕ))
literals_in text = if_found (program_in text) (λ p. Some p.literals)

abbrev pub function_body : SeenFunction → Option Statement
function_body f = f.body

abbrev pub bodies_in : List ℕ → Option (List (Option Statement))
bodies_in text = if_found (program_in text) (λ p. Some (map function_body p.functions))

-- the bytes of the first list in the body of the first function
abbrev pub list_bytes : Term → Option (List Constant)
list_bytes (term (shape.List object bytes) own ty line operands) = Some bytes
list_bytes _ = None

abbrev pub first_list : Entries → Option (List Constant)
first_list (initializes t rest) = list_bytes t
first_list (declares decl rest) = first_list rest
first_list _ = None

abbrev pub body_list : Option Statement → Option (List Constant)
body_list (Some (compound (section number objects entries))) = first_list entries
body_list _ = None

abbrev pub main_list : List SeenFunction → Option (List Constant)
main_list [] = None
main_list (f ∷ fs) = body_list f.body

abbrev pub listed_in : List ℕ → Option (List Constant)
listed_in text = if_found (program_in text) (λ p. main_list p.functions)

-- the body of the function that is declared first
abbrev pub first_body : List Routine → Option (Option Statement)
first_body [] = None
first_body (r ∷ rs) = Some r.body

abbrev pub body_in : List ℕ → Option (Option Statement)
body_in text = if_found (known_in text) (λ env. first_body env.functions)

-- a function that returns this expression
abbrev pub definition : List ℕ → List ℕ
definition e = codes "int f(int a,int b,int*p,int*q){return " ++ e ++ codes ";}"

abbrev pub is_refused : List ℕ → Bool
is_refused e = is_broken (definition e)

abbrev pub first_returned : Entries → Option Term
first_returned (statement (returns t) rest) = t
first_returned _ = None

abbrev pub returned_by : Option Statement → Option Term
returned_by (Some (compound (section number objects entries))) = first_returned entries
returned_by _ = None

-- the tree of the expression that it returns
abbrev pub returned : List ℕ → Option Term
returned e = if_found (body_in (definition e)) returned_by

-- 2. What stands there.

abbrev pub bytes_at : ℕ → List ℕ → Constant
bytes_at at bytes = record { at = at; content = content.Bytes bytes }

abbrev pub zeros_at : ℕ → ℕ → Constant
zeros_at at n = record { at = at; content = content.Zeros n }

abbrev pub ints : ℕ → CType
ints n = array false (int Int) (Some n)

abbrev pub to_int : CType
to_int = pointer false (int Int)

abbrev pub parameters : List CType → Params
parameters [] = no_parameter
parameters (t ∷ ts) = parameter_then false t (parameters ts)

abbrev pub member : List ℕ → (constant : Bool) → CType → SeenMember
member name constant t = record { name = name; qual = record { constant = constant; ty = t } }

-- a node on line 1
abbrev pub node : Head → CType → List Term → Term
node head ty operands = term head none ty 1 (terms_from operands)

abbrev pub number : ℕ → Term
number n = node (shape.Const (pos n)) (int Int) []

-- an object of the body's block, and its value
abbrev pub at : ℕ → CType → Term
at n t = node (shape.Obj (slot.Auto 0 n)) (pointer false t) []

abbrev pub get : ℕ → Term
get n = node (shape.Load (access.Integer Int)) (int Int) (at n (int Int) ∷ [])

abbrev pub get_pointer : ℕ → Term
get_pointer n = node (shape.Load access.Pointer) to_int (at n to_int ∷ [])
