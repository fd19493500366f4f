-- What stands before a run is what program_view says.
use Rattle.std.proofs.Common.{arith, ◌≡◌, ℕ, zero, suc, ◌+◌, ◌*◌, Bool, true, false, List, [], ◌∷◌, ◌++◌, length, map, Option, Some, None, slice_get}
use Rattle.std.proofs.Common.{refl, sym, ap, ap₂, ◌∙◌, append_assoc}
use Rattle.std.specs.Prelude.{◌||◌}
use Rattle.std.proofs.lemmas.List.{length-append}
use Rattle.ub_base.specs.declared.names.ObjName.{ObjName}
use Rattle.ub_base.specs.declared.names.ObjName.TheVariants as names
use Rattle.c_types.specs.declared.kind.IntKind.TheVariants.{Char}
use Rattle.c_types.specs.declared.tags.Tag.{Tag}
use Rattle.c_types.specs.Shapes.{leaf, repeat}
use Rattle.c_types.specs.Types.{CType, void, int, enumeration, pointer, array, struct, union, function, Params, none, more, qualified_of, signature_of}
use Rattle.c_typed.specs.declared.tree.Access.TheVariants as access
use Rattle.c_typed.specs.declared.tree.Target.TheVariants as targets
use Rattle.c_typed.specs.declared.program.Constant.{Constant}
use Rattle.c_typed.specs.declared.program.Content.{Content as Held}
use Rattle.c_typed.specs.declared.program.Content.TheVariants as contents
use Rattle.c_typed.specs.declared.program.Function.{Function}
use Rattle.c_typed.specs.declared.program.Program.{Program}
use Rattle.c_typed.specs.declared.program.Static.{Static}
use Rattle.c_model.specs.Program.{Standing, Filling, Zeros, Bytes, Object_at, No_object}
use Rattle.program_view.specs.Trees as trees
use Rattle.program_view.specs.Objects as view
use Rattle.program_view.specs.View.{standing_of, has_parameters_in}
use Rattle.program_view.specs.View as whole
use Rattle.run_values.specs.Contents.{content_of, filled_by}
use Rattle.run_standing.specs.Standing.{IsStatic, AreStatics, Stand, arguments, given, has_parameters, literals, pointers, program_name, takes_arguments, text}
use Rattle.run_standing.specs.Standing.{vector}
use Rattle.run_objects.specs.Extents.{has_constant_elements}
use Rattle.run_standing.specs.Viewed.{StandsAsViewed, ViewStands}

-- ---- objects with static storage
constant_is : (c : Bool) (ty : CType) → (c || has_constant_elements ty) ≡ view.is_constant c ty
constant_is true ty = refl
constant_is false void = refl
constant_is false (int kind) = refl
constant_is false (enumeration tag) = refl
constant_is false (pointer c ty) = refl
constant_is false (array c ty count) = constant_is c ty
constant_is false (struct tag) = refl
constant_is false (union tag) = refl
constant_is false (function r ps v) = refl

content_is : (c : Held) → content_of c ≡ trees.content_of c
content_is (contents.Zeros n) = refl
content_is (contents.Bytes bs) = refl
content_is (contents.Address (targets.Static k) offset) = refl
content_is (contents.Address (targets.Literal k) offset) = refl
content_is (contents.Address (targets.Function k) offset) = refl

fillings_are : (cs : List Constant) → map filled_by cs ≡ map trees.filling_of cs
fillings_are [] = refl
fillings_are (c ∷ cs) =
    let here = content_is c.content in
    let rest = fillings_are cs in
    λ i. record { offset = c.at; content = here i } ∷ rest i

static_is : (tags : List Tag) (k : ℕ) (s : Static) (o : Standing) → IsStatic tags k s o → o ≡ view.static_of tags k s
static_is tags k s o h =
    let q = qualified_of s.qual in
    let constant : o.decl.constant ≡ view.is_constant q.constant q.ty = h.constant ∙ constant_is q.constant q.ty in
    let rest = fillings_are s.constants in
    let fills : o.fillings ≡ view.filling 0 (Zeros (view.object_extent tags q.ty).size) ∷ map trees.filling_of s.constants =
    h.fillings ∙ (λ i. record { offset = 0; content = Zeros (h.size i) } ∷ rest i) in
    λ i. record {
      name = h.name i;
      decl = record { size = h.size i; align = h.align i; constant = constant i; form = h.form i; access = h.access i; ty = h.ty i };
      literal = h.literal i;
      fillings = fills i;
    }

statics_are : (tags : List Tag) (k : ℕ) (ss : List Static) (os : List Standing) → AreStatics tags k ss os → os ≡ view.statics_from tags k ss
statics_are tags k [] [] are = refl
statics_are tags k [] (o ∷ os) are = absurd are
statics_are tags k (s ∷ ss) [] are = absurd are
statics_are tags k (s ∷ ss) (o ∷ os) are =
    ap₂ (λ (x : Standing) (xs : List Standing). x ∷ xs) (static_is tags k s o are.0) (statics_are tags (suc k) ss os are.1)

static_there : (tags : List Tag) (k : ℕ) (s : Static) → IsStatic tags k s (view.static_of tags k s)
static_there tags k s =
    let q = qualified_of s.qual in
    let rest = fillings_are s.constants in
    record {
      name = refl;
      size = refl;
      align = refl;
      constant = sym (constant_is q.constant q.ty);
      form = refl;
      access = refl;
      ty = refl;
      literal = refl;
      fillings = ap (λ (fs : List Filling). record { offset = 0; content = Zeros (view.object_extent tags q.ty).size } ∷ fs) (sym rest);
    }

statics_there : (tags : List Tag) (k : ℕ) (ss : List Static) → AreStatics tags k ss (view.statics_from tags k ss)
statics_there tags k [] = tt
statics_there tags k (s ∷ ss) = (static_there tags k s, statics_there tags (suc k) ss)

-- ---- arrays of characters
abbrev text_as : ObjName → Bool → ℕ → List ℕ → Standing
text_as x literal n bs = record { name = x; decl = view.text_decl n; literal = literal; fillings = view.filling 0 (Bytes bs) ∷ [] }

text_is : (x : ObjName) (literal : Bool) (bs : List ℕ) → text x literal bs ≡ text_as x literal (length bs) bs
text_is x literal bs =
    let e : length bs ≡ length bs * 1 = omega arith in
    λ i. record {
      name = x;
      decl = record {
        size = e i;
        align = 1;
        constant = false;
        form = Some (repeat (length bs) 1 (leaf (int Char)));
        access = access.Whole (e i) 1;
        ty = array false (int Char) (Some (length bs));
      };
      literal = literal;
      fillings = view.filling 0 (Bytes bs) ∷ [];
    }

literals_are : (k : ℕ) (texts : List (List ℕ)) → literals k texts ≡ view.literals_from k texts
literals_are k [] = refl
literals_are k (bs ∷ rest) = ap₂ (λ (x : Standing) (xs : List Standing). x ∷ xs) (text_is (names.Lit k) true bs) (literals_are (suc k) rest)

arguments_are : (k : ℕ) (words : List (List ℕ)) → arguments k words ≡ view.arguments_from k words
arguments_are k [] = refl
arguments_are k (bs ∷ rest) =
    let all = bs ++ 0 ∷ [] in
    let one : text (names.Arg k) false all ≡ view.argument_of k bs =
    text_is (names.Arg k) false all ∙ ap (λ (n : ℕ). text_as (names.Arg k) false n all) (length-append bs (0 ∷ [])) in
    ap₂ (λ (x : Standing) (xs : List Standing). x ∷ xs) one (arguments_are (suc k) rest)

-- ---- the array of pointers
pointers_are : (k at : ℕ) (words : List (List ℕ)) → at ≡ 8 * k → pointers k at words ≡ view.pointers_from k words
pointers_are k at [] e = ap (λ (n : ℕ). view.filling n No_object ∷ []) e
pointers_are k at (bs ∷ rest) e =
    let next : at + 8 ≡ 8 * suc k = omega (arith, e) in
    ap₂ (λ (n : ℕ) (fs : List Filling). view.filling n (Object_at (names.Arg k) 0) ∷ fs) e (pointers_are (suc k) (at + 8) rest next)

vector_is : (words : List (List ℕ)) → vector words ≡ view.vector_of words
vector_is words =
    let n : ℕ = length words + 1 in
    let e : 8 * (length words + 1) ≡ (length words + 1) * 8 = omega arith in
    let fills = pointers_are 0 0 words refl in
    λ i. record {
      name = names.Argv;
      decl = record {
        size = e i;
        align = 8;
        constant = false;
        form = Some (repeat n 8 (leaf (pointer false (int Char))));
        access = access.Whole (e i) 8;
        ty = array false (pointer false (int Char)) (Some n);
      };
      literal = false;
      fillings = fills i;
    }

given_are : (takes : Bool) (words : List (List ℕ)) → given takes (program_name ∷ words) ≡ view.given_to_main takes words
given_are false words = refl
given_are true words =
    ap₂ (λ (xs : List Standing) (x : Standing). xs ++ x ∷ []) (arguments_are 0 (program_name ∷ words)) (vector_is (program_name ∷ words))

-- ---- whether `main` takes them
params_same : (ps : Params) → has_parameters ps ≡ whole.has_parameters ps
params_same none = refl
params_same (more c ty ps) = refl

pub takes_same : (o : Option Function) → takes_arguments o ≡ has_parameters_in o
takes_same None = refl
takes_same (Some f) = params_same (signature_of f.ty).params

-- ---- all together
rest_is : (p : Program) (words : List (List ℕ)) →
    view.statics_from p.tags 0 p.statics ++ literals 0 p.literals ++ given (takes_arguments (slice_get p.functions p.main)) (program_name ∷ words)
    ≡ standing_of p words
rest_is p words =
    let first = view.statics_from p.tags 0 p.statics in
    let takes = takes_arguments (slice_get p.functions p.main) in
    append_assoc first (literals 0 p.literals) (given takes (program_name ∷ words))
    ∙ ap₂ (λ (xs ys : List Standing). first ++ (xs ++ ys)) (literals_are 0 p.literals)
    (given_are takes words ∙ ap (λ (b : Bool). view.given_to_main b words) (takes_same (slice_get p.functions p.main)))

pub as_viewed : StandsAsViewed
as_viewed p words os stand =
    let takes = takes_arguments (slice_get p.functions p.main) in
    stand.all
    ∙ ap (λ (xs : List Standing). xs ++ literals 0 p.literals ++ given takes (program_name ∷ words))
    (statics_are p.tags 0 p.statics stand.statics stand.each)
    ∙ rest_is p words

pub view_stands : ViewStands
view_stands p words = record {
  statics = view.statics_from p.tags 0 p.statics;
  each = statics_there p.tags 0 p.statics;
  all = sym (rest_is p words);
}
