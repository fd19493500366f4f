-- The objects of a typed program as the model declares them, and those that stand before the first pick (5.1.2p1, 6.2.4, 6.4.5p6).
use Rattle.std.specs.Prelude.{ℕ, zero, suc, ◌+◌, ◌*◌, ◌==◌, Bool, true, false, if◌then◌else◌, Option, Some, None}
use Rattle.std.specs.Prelude.{List, [], ◌∷◌, ◌++◌, length, map, slice_get}
use Rattle.ub_base.specs.declared.names.ObjName.TheVariants as object
use Rattle.c_types.specs.declared.kind.IntKind.TheVariants as kind
use Rattle.c_types.specs.declared.tags.Extent.{Extent}
use Rattle.c_types.specs.declared.tags.Member.{Member}
use Rattle.c_types.specs.declared.tags.Tag.{Tag}
use Rattle.c_types.specs.Types.{CType, void, int, enumeration, pointer, array, struct, union, function, Qualified, qualified_of}
use Rattle.c_types.specs.Layout.{extent, extents, size_of, member_offset, type_of_member}
use Rattle.c_types.specs.Shapes.{Form, Forms, leaf, repeat, parts, none, place}
use Rattle.c_typed.specs.declared.tree.Access.{Access}
use Rattle.c_typed.specs.declared.tree.Access.TheVariants as access
use Rattle.c_typed.specs.declared.program.Constant.{Constant}
use Rattle.c_typed.specs.declared.program.Static.{Static}
use Rattle.c_model.specs.Program as model
use Rattle.c_model.specs.Program.{Decl, Filling, Standing}
use Rattle.program_view.specs.Trees.{filling_of}

-- the form of an array; one of one element is its element (own)
abbrev pub repeated : ℕ → ℕ → Form → Form
repeated count step part = if count == 1 then part else repeat count step part

-- a form at an offset, before others; parts of a part stand among those round it (own)
abbrev mutual
  pub placed : ℕ → Form → Forms → Forms
  placed at (leaf ty) rest = place at (leaf ty) rest
  placed at (repeat count step part) rest = place at (repeat count step part) rest
  placed at (parts ps) rest = moved at ps rest

  pub moved : ℕ → Forms → Forms → Forms
  moved at none rest = rest
  moved at (place offset part ps) rest = place (at + offset) part (moved at ps rest)

-- the form of a type: its scalars by their places (6.2.5p20, 6.7.2.1), by the parts of each tag
abbrev pub form_with : (ℕ → Forms) → List Tag → CType → Form
form_with of_tag tags void = parts none
form_with of_tag tags (int kind) = leaf (int kind)
form_with of_tag tags (enumeration tag) = leaf (enumeration tag)
form_with of_tag tags (pointer constant ty) = leaf (pointer constant ty)
form_with of_tag tags (array constant ty None) = repeated 0 (size_of tags ty) (form_with of_tag tags ty)
form_with of_tag tags (array constant ty (Some count)) = repeated count (size_of tags ty) (form_with of_tag tags ty)
form_with of_tag tags (struct tag) = parts (of_tag tag)
form_with of_tag tags (union tag) = parts (of_tag tag)
form_with of_tag tags (function result params variadic) = parts none

-- the parts of the members from a number on
abbrev pub member_forms : (ℕ → Forms) → List Tag → ℕ → ℕ → List Member → Forms
member_forms of_tag tags tag i [] = none
member_forms of_tag tags tag i (m ∷ ms) =
    placed (member_offset tags tag i) (form_with of_tag tags (type_of_member m)) (member_forms of_tag tags tag (i + 1) ms)

abbrev pub tag_forms : (ℕ → Forms) → List Tag → ℕ → Option Tag → Forms
tag_forms of_tag tags tag None = none
tag_forms of_tag tags tag (Some t) = member_forms of_tag tags tag 0 t.members

-- those of a tag with fewer than so many tags one inside the other
abbrev pub forms_by : ℕ → List Tag → ℕ → Forms
forms_by zero tags tag = none
forms_by (suc n) tags tag = tag_forms (forms_by n tags) tags tag (slice_get tags tag)

abbrev pub form_of_type : List Tag → CType → Form
form_of_type tags ty = form_with (forms_by (length tags) tags) tags ty

-- the extent of an object; one byte where the type isn't complete, which is of no lawful program (own)
abbrev pub extent_or_byte : Option Extent → Extent
extent_or_byte None = record { size = 1; align = 1 }
extent_or_byte (Some e) = e

abbrev pub object_extent : List Tag → CType → Extent
object_extent tags ty = extent_or_byte (extent (extents tags) ty)

-- the form of an object, where its type is complete
abbrev pub form_where : Option Extent → Form → Option Form
form_where None form = None
form_where (Some e) form = Some form

abbrev pub pointer_access : CType → Access
pointer_access (function result params variadic) = access.Function
pointer_access ty = access.Pointer

-- how an object of a type is stored to whole
abbrev pub access_of : List Tag → CType → Access
access_of tags (int kind) = access.Integer kind
access_of tags (enumeration tag) = access.Integer kind.Int
access_of tags (pointer constant ty) = pointer_access ty
access_of tags ty = access.Whole (object_extent tags ty).size (object_extent tags ty).align

-- whether an object is defined const: an array where its elements are (6.7.3p9)
abbrev pub is_constant : Bool → CType → Bool
is_constant true ty = true
is_constant false (array constant element count) = is_constant constant element
is_constant false ty = false

abbrev pub decl_of : List Tag → Qualified → Decl
decl_of tags q = record {
  size = (object_extent tags q.ty).size;
  align = (object_extent tags q.ty).align;
  constant = is_constant q.constant q.ty;
  form = form_where (extent (extents tags) q.ty) (form_of_type tags q.ty);
  access = access_of tags q.ty;
  ty = q.ty;
}

-- an array of count elements of this size and alignment
abbrev pub array_decl : ℕ → ℕ → CType → Decl
array_decl count size ty = record {
  size = count * size;
  align = size;
  constant = false;
  form = Some (repeat count size (leaf ty));
  access = access.Whole (count * size) size;
  ty = array false ty (Some count);
}

abbrev pub text_decl : ℕ → Decl
text_decl count = array_decl count 1 (int kind.Char)

abbrev pub filling : ℕ → model.Content → Filling
filling offset content = record { offset = offset; content = content }

-- an object with static storage: zeros, and then its constants (6.7.9p10, 6.7.9p21)
abbrev pub static_by : List Tag → ℕ → Qualified → List Constant → Standing
static_by tags number q constants = record {
  name = object.Static number;
  decl = decl_of tags q;
  literal = false;
  fillings = filling 0 (model.Zeros (object_extent tags q.ty).size) ∷ map filling_of constants;
}

abbrev pub static_of : List Tag → ℕ → Static → Standing
static_of tags number s = static_by tags number (qualified_of s.qual) s.constants

abbrev pub statics_from : List Tag → ℕ → List Static → List Standing
statics_from tags number [] = []
statics_from tags number (s ∷ ss) = static_of tags number s ∷ statics_from tags (suc number) ss

-- the literal of this number, whose last byte is its closing zero (6.4.5p6)
abbrev pub literal_of : ℕ → List ℕ → Standing
literal_of number bytes = record {
  name = object.Lit number;
  decl = text_decl (length bytes);
  literal = true;
  fillings = filling 0 (model.Bytes bytes) ∷ [];
}

abbrev pub literals_from : ℕ → List (List ℕ) → List Standing
literals_from number [] = []
literals_from number (bytes ∷ rest) = literal_of number bytes ∷ literals_from (suc number) rest

-- a string that `main` is given (5.1.2.2.1p2)
abbrev pub argument_of : ℕ → List ℕ → Standing
argument_of number bytes = record {
  name = object.Arg number;
  decl = text_decl (length bytes + 1);
  literal = false;
  fillings = filling 0 (model.Bytes (bytes ++ 0 ∷ [])) ∷ [];
}

abbrev pub arguments_from : ℕ → List (List ℕ) → List Standing
arguments_from number [] = []
arguments_from number (bytes ∷ rest) = argument_of number bytes ∷ arguments_from (suc number) rest

-- pointers to the strings, and a null pointer behind them
abbrev pub pointers_from : ℕ → List (List ℕ) → List Filling
pointers_from number [] = filling (8 * number) model.No_object ∷ []
pointers_from number (bytes ∷ rest) = filling (8 * number) (model.Object_at (object.Arg number) 0) ∷ pointers_from (suc number) rest

abbrev pub text_pointer : CType
text_pointer = pointer false (int kind.Char)

-- the array that the second parameter of `main` points into
abbrev pub vector_of : List (List ℕ) → Standing
vector_of strings = record {
  name = object.Argv;
  decl = array_decl (length strings + 1) 8 text_pointer;
  literal = false;
  fillings = pointers_from 0 strings;
}

-- the name of the program, which stands before the arguments (own)
abbrev pub program_name : List ℕ
program_name = 112 ∷ 114 ∷ 111 ∷ 103 ∷ []

-- what stands for the arguments of `main`, where it has parameters
abbrev pub given_to_main : Bool → List (List ℕ) → List Standing
given_to_main true arguments = arguments_from 0 (program_name ∷ arguments) ++ vector_of (program_name ∷ arguments) ∷ []
given_to_main false arguments = []
