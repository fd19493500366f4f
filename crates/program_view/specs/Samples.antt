-- Small typed programs, and the model's program that each is seen as.
use Rattle.std.specs.Prelude.{◌≡◌, ℕ, true, false, List, [], ◌∷◌, Some, None, pos}
use Rattle.ub_base.specs.declared.names.ObjName.TheVariants as object_name
use Rattle.c_types.specs.declared.kind.IntKind.TheVariants as kind
use Rattle.c_types.specs.declared.tags.Tag.{Tag}
use Rattle.c_types.specs.declared.tags.TagKind.TheVariants.{Struct}
use Rattle.c_types.specs.declared.ty.Ty.{Ty}
use Rattle.c_types.specs.declared.ty.Ty.TheVariants as ty
use Rattle.c_types.specs.declared.ty.FuncTy.{FuncTy}
use Rattle.c_types.specs.Types as types
use Rattle.c_types.specs.Types.{CType}
use Rattle.c_types.specs.Shapes as shapes
use Rattle.c_types.specs.Shapes.{leaf, repeat}
use Rattle.c_typed.specs.declared.tree.Typed.{Typed}
use Rattle.c_typed.specs.declared.tree.Node.TheVariants as node
use Rattle.c_typed.specs.declared.tree.Slot.TheVariants as slot
use Rattle.c_typed.specs.declared.tree.Access.TheVariants as access
use Rattle.c_typed.specs.declared.tree.Target.TheVariants as target
use Rattle.c_typed.specs.declared.tree.RelOp.TheVariants as relation
use Rattle.c_typed.specs.declared.statement.Body.TheVariants as body
use Rattle.c_typed.specs.declared.statement.Entry.{Entry}
use Rattle.c_typed.specs.declared.statement.Entry.TheVariants as entry
use Rattle.c_typed.specs.declared.program.Content.TheVariants as content
use Rattle.c_typed.specs.declared.program.Constant.{Constant}
use Rattle.c_typed.specs.declared.program.Static.{Static}
use Rattle.c_model.specs.Program as model
use Rattle.c_model.specs.Program.{Decl, Expr, expr, none, more, Filling, Standing, Stmt}
use Rattle.c_model.specs.Examples as seen
use Rattle.program_view.specs.Build.{int_ty, plain, pointer_ty, taking, int_void, tree, number, object, get, load, assign, increment, compared}
use Rattle.program_view.specs.Build.{is_equal, value, only_if, returning, says, block, defined, program_of}
use Rattle.program_view.specs.View.{model_of}

-- the first object of the body block of a function, and of block 1
abbrev pub local : Typed
local = object (slot.Auto 0 0) int_ty

abbrev pub inner : Typed
inner = object (slot.Auto 1 0) int_ty

abbrev pub inner_seen : Expr
inner_seen = expr (model.Obj (slot.Auto 1 0)) seen.int_pointer 1 none

-- int main(void){int i=0;while(i<9){i++;if(i==3)continue;if(i==5)break;}return i;}

abbrev pub loop_inside : List Entry
loop_inside =
    says (value (increment local)) ∷ says (only_if (is_equal (load local) (number 3)) body.Continue)
    ∷ says (only_if (is_equal (load local) (number 5)) body.Break) ∷ []

abbrev pub loop_entries : List Entry
loop_entries =
    entry.Initializer (assign true local (number 0))
    ∷ says (body.While (compared relation.Less (load local) (number 9)) (body.Block (block 1 [] loop_inside)))
    ∷ says (returning (load local)) ∷ []

abbrev pub loop_inside_seen : List Stmt
loop_inside_seen =
    model.Value (seen.increment seen.local) ∷ model.If_only (seen.is_equal (seen.load seen.local) (seen.number 3)) model.Continue
    ∷ model.If_only (seen.is_equal (seen.load seen.local) (seen.number 5)) model.Break ∷ []

abbrev pub loop_seen : List Stmt
loop_seen =
    model.Value (seen.assign true seen.local (seen.number 0))
    ∷ model.While (seen.two (model.Rel relation.Less false) (seen.load seen.local) (seen.number 9))
    (model.Block 1 [] (seen.statements loop_inside_seen))
    ∷ model.Return (seen.load seen.local) ∷ []

abbrev pub LoopIsSeen : Type 0
LoopIsSeen = model_of (program_of [] (defined int_void (plain int_ty ∷ []) loop_entries ∷ []) [] []) []
    ≡ seen.program_of (seen.defined (seen.int_decl ∷ []) loop_seen ∷ []) []

-- int main(void){int a=1;switch(a){case 1:a=2;case 2:a=3;break;default:a=4;}return a;}

abbrev pub switch_inside : List Entry
switch_inside =
    says (body.Case (pos 1) (value (assign false local (number 2)))) ∷ says (body.Case (pos 2) (value (assign false local (number 3))))
    ∷ says body.Break ∷ says (body.Default (value (assign false local (number 4)))) ∷ []

abbrev pub switch_entries : List Entry
switch_entries =
    entry.Initializer (assign true local (number 1)) ∷ says (body.Switch (load local) (body.Block (block 1 [] switch_inside)))
    ∷ says (returning (load local)) ∷ []

abbrev pub switch_inside_seen : List Stmt
switch_inside_seen =
    model.Case (pos 1) (model.Value (seen.assign false seen.local (seen.number 2)))
    ∷ model.Case (pos 2) (model.Value (seen.assign false seen.local (seen.number 3)))
    ∷ model.Break ∷ model.Default (model.Value (seen.assign false seen.local (seen.number 4))) ∷ []

abbrev pub switch_seen : List Stmt
switch_seen =
    model.Value (seen.assign true seen.local (seen.number 1))
    ∷ model.Switch (seen.load seen.local) (model.Block 1 [] (seen.statements switch_inside_seen)) ∷ model.Return (seen.load seen.local) ∷ []

abbrev pub SwitchIsSeen : Type 0
SwitchIsSeen = model_of (program_of [] (defined int_void (plain int_ty ∷ []) switch_entries ∷ []) [] []) []
    ≡ seen.program_of (seen.defined (seen.int_decl ∷ []) switch_seen ∷ []) []

-- int main(void){goto in;{int k;in:k=5;return k;}}

abbrev pub jump_inside : List Entry
jump_inside = entry.Declare 0 ∷ says (body.Label 0 (value (assign false inner (number 5)))) ∷ says (returning (load inner)) ∷ []

abbrev pub jump_entries : List Entry
jump_entries = says (body.Goto 0) ∷ says (body.Block (block 1 (plain int_ty ∷ []) jump_inside)) ∷ []

abbrev pub jump_inside_seen : List Stmt
jump_inside_seen =
    model.Declare 0 ∷ model.Label 0 (model.Value (seen.assign false inner_seen (seen.number 5))) ∷ model.Return (seen.load inner_seen) ∷ []

abbrev pub jump_seen : List Stmt
jump_seen = model.Goto 0 ∷ model.Block 1 (seen.int_decl ∷ []) (seen.statements jump_inside_seen) ∷ []

abbrev pub JumpIsSeen : Type 0
JumpIsSeen = model_of (program_of [] (defined int_void [] jump_entries ∷ []) [] []) [] ≡ seen.program_of (seen.defined [] jump_seen ∷ []) []

-- struct S{int a;int b;};int main(void){struct S s;s.b=3;return f(s).b;}struct S f(struct S s){return s;}, with f declared before

abbrev pub pair_tags : List Tag
pair_tags = record { kind = Struct; members = record { name = 97 ∷ []; qual = plain int_ty } ∷ record { name = 98 ∷ []; qual = plain int_ty } ∷ [] } ∷ []

abbrev pub pair_ty : Ty
pair_ty = ty.Struct 0

abbrev pub pair_type : CType
pair_type = types.struct 0

abbrev pub pair_function : FuncTy
pair_function = taking (plain pair_ty ∷ []) pair_ty

abbrev pub pair_function_type : CType
pair_function_type = types.function pair_type (types.more false pair_type types.none) false

abbrev pub pair_decl : Decl
pair_decl = record {
  size = 8;
  align = 4;
  constant = false;
  form = Some (shapes.parts (shapes.place 0 (leaf seen.int_type) (shapes.place 4 (leaf seen.int_type) shapes.none)));
  access = access.Whole 8 4;
  ty = pair_type;
}

abbrev pub pair_local : Typed
pair_local = object (slot.Auto 0 0) pair_ty

abbrev pub pair_value : Typed
pair_value = get (access.Whole 8 4) pair_ty pair_local

abbrev pub called : Typed
called = tree (node.Call false) pair_ty (tree (node.Func 1) (pointer_ty (ty.Function pair_function)) [] ∷ pair_value ∷ [])

abbrev pub pair_entries : List Entry
pair_entries =
    entry.Declare 0 ∷ says (value (assign false (tree (node.Member 4) (pointer_ty int_ty) (pair_local ∷ [])) (number 3)))
    ∷ says (returning (tree (node.Part 4 (access.Integer kind.Int)) int_ty (called ∷ []))) ∷ []

abbrev pub pair_local_seen : Expr
pair_local_seen = expr (model.Obj (slot.Auto 0 0)) (types.pointer false pair_type) 1 none

abbrev pub pair_value_seen : Expr
pair_value_seen = expr (model.Load (access.Whole 8 4)) pair_type 1 (more pair_local_seen none)

abbrev pub called_seen : Expr
called_seen = expr (model.Call false) pair_type 1 (more (expr (model.Func 1) (types.pointer false pair_function_type) 1 none) (more pair_value_seen none))

abbrev pub pair_seen : List Stmt
pair_seen =
    model.Declare 0 ∷ model.Value (seen.assign false (expr (model.Member 4) seen.int_pointer 1 (more pair_local_seen none)) (seen.number 3))
    ∷ model.Return (seen.one (model.Part 4 (access.Integer kind.Int)) called_seen) ∷ []

abbrev pub pair_function_seen : model.Function
pair_function_seen = record {
  ty = pair_function_type;
  void = false;
  library = None;
  body = Some (model.Block 0 (pair_decl ∷ []) (seen.statements (model.Return pair_value_seen ∷ [])));
}

abbrev pub StructureIsSeen : Type 0
StructureIsSeen = model_of (program_of pair_tags (defined int_void (plain pair_ty ∷ []) pair_entries
    ∷ defined pair_function (plain pair_ty ∷ []) (says (returning pair_value) ∷ []) ∷ []) [] []) []
    ≡ seen.program_of (seen.defined (pair_decl ∷ []) pair_seen ∷ pair_function_seen ∷ []) []

-- char*s="hi";int a[2]={5};int*p=&a[1];int main(void){return *p;}

abbrev pub char_ty : Ty
char_ty = ty.Int kind.Char

abbrev pub array_ty : Ty
array_ty = ty.Array (plain int_ty) (Some 2)

abbrev pub text_constants : List Constant
text_constants = record { at = 0; content = content.Address (target.Literal 0) 0 } ∷ []

abbrev pub array_constants : List Constant
array_constants = record { at = 0; content = content.Bytes (5 ∷ 0 ∷ 0 ∷ 0 ∷ []) } ∷ []

abbrev pub pointer_constants : List Constant
pointer_constants = record { at = 0; content = content.Address (target.Static 1) 4 } ∷ []

abbrev pub given_statics : List Static
given_statics =
    record { qual = plain (pointer_ty char_ty); constants = text_constants } ∷ record { qual = plain array_ty; constants = array_constants }
    ∷ record { qual = plain (pointer_ty int_ty); constants = pointer_constants } ∷ []

abbrev pub pointed_value : Typed
pointed_value = load (get access.Pointer (pointer_ty int_ty) (object (slot.Static 2) (pointer_ty int_ty)))

abbrev pub pointed_seen : Expr
pointed_seen =
    seen.load (expr (model.Load access.Pointer) seen.int_pointer 1
    (more (expr (model.Obj (slot.Static 2)) (types.pointer false seen.int_pointer) 1 none) none))

abbrev pub filled : ℕ → model.Content → List Filling
filled size given = record { offset = 0; content = model.Zeros size } ∷ record { offset = 0; content = given } ∷ []

abbrev pub text_pointer_decl : Decl
text_pointer_decl = record seen.pointer_decl { form = Some (leaf (types.pointer false seen.char_type)); ty = types.pointer false seen.char_type }

abbrev pub statics_seen : List Standing
statics_seen =
    record {
      name = object_name.Static 0;
      decl = text_pointer_decl;
      literal = false;
      fillings = filled 8 (model.Object_at (object_name.Lit 0) 0);
    }
    ∷ record { name = object_name.Static 1; decl = seen.array_decl; literal = false; fillings = filled 8 (model.Bytes (5 ∷ 0 ∷ 0 ∷ 0 ∷ [])) }
    ∷ record {
      name = object_name.Static 2;
      decl = seen.pointer_decl;
      literal = false;
      fillings = filled 8 (model.Object_at (object_name.Static 1) 4);
    } ∷ seen.literal_text 0 (104 ∷ 105 ∷ []) ∷ []

abbrev pub StaticsAreSeen : Type 0
StaticsAreSeen = model_of (program_of [] (defined int_void [] (says (returning pointed_value) ∷ []) ∷ []) given_statics ((104 ∷ 105 ∷ 0 ∷ []) ∷ [])) []
    ≡ seen.program_of (seen.defined [] (model.Return pointed_seen ∷ []) ∷ []) statics_seen

-- int main(int c,char**v){return c;}, run with the argument "x"

abbrev pub main_function : FuncTy
main_function = taking (plain int_ty ∷ plain (pointer_ty (pointer_ty char_ty)) ∷ []) int_ty

abbrev pub text_pointer : CType
text_pointer = types.pointer false seen.char_type

abbrev pub vector_type : CType
vector_type = types.pointer false text_pointer

abbrev pub text_standing : ℕ → List ℕ → Standing
text_standing k cs = record (seen.literal_text 0 cs) { name = object_name.Arg k; literal = false }

abbrev pub points_to : ℕ → model.Content → Filling
points_to at given = record { offset = at; content = given }

abbrev pub vector_standing : Standing
vector_standing = record {
  name = object_name.Argv;
  decl = record {
    size = 24;
    align = 8;
    constant = false;
    form = Some (repeat 3 8 (leaf text_pointer));
    access = access.Whole 24 8;
    ty = types.array false text_pointer (Some 3);
  };
  literal = false;
  fillings = points_to 0 (model.Object_at (object_name.Arg 0) 0) ∷ points_to 8 (model.Object_at (object_name.Arg 1) 0) ∷ points_to 16 model.No_object ∷ [];
}

abbrev pub main_seen : model.Function
main_seen = record {
  ty = types.function seen.int_type (types.more false seen.int_type (types.more false vector_type types.none)) false;
  void = false;
  library = None;
  body = Some (model.Block 0 (seen.int_decl
      ∷ record seen.pointer_decl { form = Some (leaf vector_type); ty = vector_type } ∷ []) (seen.statements (model.Return (seen.load seen.local) ∷ [])));
}

abbrev pub ArgumentsAreSeen : Type 0
ArgumentsAreSeen =
    model_of (program_of [] (defined main_function (plain int_ty ∷ plain (pointer_ty (pointer_ty char_ty)) ∷ []) (says (returning (load local)) ∷ []) ∷ [])
    [] []) ((120 ∷ []) ∷ [])
    ≡ seen.program_of (main_seen ∷ []) (text_standing 0 (112 ∷ 114 ∷ 111 ∷ 103 ∷ []) ∷ text_standing 1 (120 ∷ []) ∷ vector_standing ∷ [])
