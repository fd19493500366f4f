-- What is known beforehand in the full expressions of a lawful program.
use Rattle.std.proofs.Common.{arith, ◌≡◌, ◌+◌, ◌<◌, ◌≤◌, ◌⊎◌, inl, inr, ℕ, suc, ◌==◌, Bool, true, false, not, ◌&&◌, if◌then◌else◌, List, [], ◌∷◌, map}
use Rattle.std.proofs.Common.{Option, Some, None, ℤ, refl, sym, ap, subst, ◌∙◌}
use Rattle.std.specs.List.{All}
use Rattle.std.specs.Prelude.{unsigned_abs}
use Rattle.std.proofs.lemmas.Bool.Decides.{nat_tests}
use Rattle.std.proofs.lemmas.List.Elements.{All-weaker}
use Rattle.addr_map.specs.Rows.{row_of}
use Rattle.exposure.specs.declared.prov.Prov.{Prov}
use Rattle.exposure.specs.declared.prov.Prov.TheVariants.{Whole}
use Rattle.c_arith.specs.Operators.{conv}
use Rattle.c_types.specs.declared.kind.IntKind.{IntKind}
use Rattle.c_types.specs.Types.{CType, void, int, enumeration, pointer, array, struct, union, function}
use Rattle.c_types.specs.declared.tags.Tag.{Tag}
use Rattle.c_typed.specs.declared.class.Class.{Class}
use Rattle.c_typed.specs.declared.class.Class.TheVariants as class
use Rattle.c_typed.specs.declared.program.Function.{Function}
use Rattle.c_typed.specs.declared.program.Program.{Program}
use Rattle.c_typed.specs.declared.tree.Conversion.TheVariants as conversion
use Rattle.c_typed.specs.declared.tree.Node.{Node, fold-Node, fold-roll-Node, map-Node, out-Node, roll-out-Node}
use Rattle.c_typed.specs.declared.tree.Node.TheOpen as shape
use Rattle.c_typed.specs.declared.tree.Node.TheOpen.{Node-F}
use Rattle.c_typed.specs.declared.tree.Slot.{Slot}
use Rattle.c_typed.specs.declared.tree.Slot.TheVariants as slot
use Rattle.c_typed.specs.declared.tree.Typed.{Typed, out-Typed, fold_out-Typed}
use Rattle.c_typed.specs.Lawful.{There, IsPointer, IsInteger, IsConstant, PointsTo, FunctionIs, MemberOf, SiteIsLawful}
use Rattle.c_typed.specs.Sites.{Site, Blocks, all_sites, seen, sites, type_at}
use Rattle.c_typed.specs.Tree as order
use Rattle.c_typed.specs.Tree.{is_quiet, is_quiet_class, member_class, class_over, class_of, size, sizes, trees_of}
use Rattle.elaborate.specs.Expressions.{full_trees}
use Rattle.mem_spec.specs.Acts.{base_in}
use Rattle.c_model.specs.Program as model
use Rattle.c_model.specs.Program.{Expr, expr, Exprs, tree_of}
use Rattle.c_model.specs.Steps as steps
use Rattle.c_model.specs.Steps.{Scene, quiet_value, moved_place, name_of, pointer_to}
use Rattle.c_model.specs.Values.{Value, Int, Ptr, address_after, integer_of, truth}
use Rattle.c_model.specs.World.{World}
use Rattle.program_view.specs.Trees.{expr_of, exprs_of, is_pointer, constant_head}
use Rattle.program_view.proofs.Seen.{node_in, operands_in, own_type, head_in, expr_at, by_size, same_tree}
use Rattle.run_layout.specs.declared.steps.Operand.{Operand}
use Rattle.run_layout.specs.declared.steps.Operand.TheVariants as operand
use Rattle.run_layout.specs.AtOnce.{is_known, truth_of}
use Rattle.run_layout.specs.Branches.{IsChoiceOf, is_choice}
use Rattle.run_layout.specs.Chosen.{IsKnown, Views, ViewAll}
use Rattle.run_layout.specs.Resolved.{NodeResolved, node_resolved, tree_resolved, resolved, converted, member_of, constant_of, null_of, object_of}
use Rattle.code_view.specs.Known.{IsLawfulTree, TreesAreLawful, IsPlaced, NamedIsPlaced, CodeIsKnown}
use Rattle.code_view.proofs.Viewed.{all_both}
use Rattle.code_view.proofs.Own.{all_own}
use Rattle.code_view.proofs.Whole.{both_give}
use Rattle.code_view.proofs.Each.{each_laid}
use Rattle.code_view.proofs.Parts.{type_in, site_in, parts}

-- ---- where a tree's value comes from, by its node
abbrev node_fold : List ℕ → Node → NodeResolved
node_fold firsts = fold-Node NodeResolved (ℕ → Operand) (node_resolved firsts) tree_resolved

abbrev open_node : List ℕ → Node-F Node Typed → NodeResolved
open_node firsts d = node_resolved firsts (map-Node Node Typed NodeResolved (ℕ → Operand) (node_fold firsts) (resolved firsts) d)

resolved_at : (firsts : List ℕ) (t : Typed) (n : ℕ) →
    resolved firsts t n ≡ open_node firsts (node_in t) (own_type t) (map (resolved firsts) (operands_in t)) n
resolved_at firsts t n =
    let u = (out-Typed t).node in
    let os = map (resolved firsts) (operands_in t) in
    ap (λ (f : ℕ → Operand). f n) (fold_out-Typed NodeResolved (ℕ → Operand) (node_resolved firsts) tree_resolved t)
    ∙ (ap (λ z. node_fold firsts z (own_type t) os n) (sym (roll-out-Node u))
    ∙ ap (λ (g : NodeResolved). g (own_type t) os n) (fold-roll-Node NodeResolved (ℕ → Operand) (node_resolved firsts) tree_resolved (out-Node u)))

-- ---- types
points_pointer : (own object : CType) → PointsTo own object → IsPointer own
points_pointer (pointer c t) object h = tt
points_pointer void object h = absurd h
points_pointer (int k) object h = absurd h
points_pointer (enumeration tag) object h = absurd h
points_pointer (array q t count) object h = absurd h
points_pointer (struct tag) object h = absurd h
points_pointer (union tag) object h = absurd h
points_pointer (function r ps v) object h = absurd h

pub there_pointer : {A : Type 0} (own : CType) (object : A → CType) (o : Option A) → There o (λ x. PointsTo own (object x)) → IsPointer own
there_pointer own object None h = absurd h
there_pointer own object (Some x) h = points_pointer own (object x) h

pub function_pointer : (o : Option Function) (own : CType) → FunctionIs o own → IsPointer own
function_pointer None own h = absurd h
function_pointer (Some f) (pointer c t) h = tt
function_pointer (Some f) void h = absurd h
function_pointer (Some f) (int k) h = absurd h
function_pointer (Some f) (enumeration tag) h = absurd h
function_pointer (Some f) (array q t count) h = absurd h
function_pointer (Some f) (struct tag) h = absurd h
function_pointer (Some f) (union tag) h = absurd h
function_pointer (Some f) (function r ps v) h = absurd h

pub member_pointer : (tags : List Tag) (offset : ℕ) (own whole : CType) → MemberOf tags offset own whole → IsPointer own
member_pointer tags offset (pointer c t) whole h = tt
member_pointer tags offset void whole h = absurd h
member_pointer tags offset (int k) whole h = absurd h
member_pointer tags offset (enumeration tag) whole h = absurd h
member_pointer tags offset (array q t count) whole h = absurd h
member_pointer tags offset (struct tag) whole h = absurd h
member_pointer tags offset (union tag) whole h = absurd h
member_pointer tags offset (function r ps v) whole h = absurd h

-- a pointer is no integer
pub no_integer : (ty : CType) → IsPointer ty → IsInteger ty → ⊥
no_integer (pointer c t) h k = cc
no_integer void h k = h
no_integer (int kind) h k = h
no_integer (enumeration tag) h k = h
no_integer (array q t count) h k = h
no_integer (struct tag) h k = h
no_integer (union tag) h k = h
no_integer (function r ps v) h k = h

-- ---- what is known of a value
not_null : (a : ℕ) → 0 < a → true ≡ not (a == 0)
not_null a h = grind (arith, nat_tests, h)

-- a pointer that isn't null
abbrev IsAway : CType → Value → Type 0
IsAway ty v = IsPointer ty × (a : ℕ) × (prov : Prov) × (v ≡ Ptr a prov) × (0 < a)

-- into an object
abbrev IsPlace : CType → Operand → Value → Type 0
IsPlace ty (operand.Local number offset) v = IsAway ty v
IsPlace ty (operand.Static number offset) v = IsAway ty v
IsPlace ty _ v = ⊥

-- an address that is no place of an object with members
abbrev is_fixed : Operand → Bool
is_fixed (operand.Address a) = true
is_fixed (operand.Function a) = true
is_fixed (operand.Literal number offset) = true
is_fixed _ = false

-- an integer, or such an address
abbrev IsNumber : Operand → Value → Type 0
IsNumber o v = (z : ℤ) × (o ≡ operand.Integer z) × (v ≡ Int z)

abbrev IsFixed : CType → Operand → Value → Type 0
IsFixed ty o v = IsPointer ty × (is_fixed o ≡ true) × (truth_of o ≡ truth v)

-- by the class of the node
abbrev KnownBy : Class → CType → Operand → Value → Type 0
KnownBy class.Object ty o v = IsPlace ty o v
KnownBy class.Constant ty o v = IsNumber o v ⊎ IsFixed ty o v
KnownBy _ ty o v = is_known o ≡ false

away_true : (ty : CType) (v : Value) → IsAway ty v → true ≡ truth v
away_true ty v h = not_null h.1 h.4 ∙ ap truth (sym h.3)

place_known : (ty : CType) (o : Operand) (v : Value) → IsPlace ty o v → (is_known o ≡ true) × (truth_of o ≡ truth v)
place_known ty (operand.Local number offset) v h = (refl, away_true ty v h)
place_known ty (operand.Static number offset) v h = (refl, away_true ty v h)
place_known ty (operand.Integer z) v h = absurd h
place_known ty (operand.Address a) v h = absurd h
place_known ty (operand.Function a) v h = absurd h
place_known ty (operand.Literal number offset) v h = absurd h
place_known ty (operand.Done n) v h = absurd h

place_pointer : (ty : CType) (o : Operand) (v : Value) → IsPlace ty o v → IsPointer ty
place_pointer ty (operand.Local number offset) v h = h.0
place_pointer ty (operand.Static number offset) v h = h.0
place_pointer ty (operand.Integer z) v h = absurd h
place_pointer ty (operand.Address a) v h = absurd h
place_pointer ty (operand.Function a) v h = absurd h
place_pointer ty (operand.Literal number offset) v h = absurd h
place_pointer ty (operand.Done n) v h = absurd h

fixed_known : (o : Operand) → is_fixed o ≡ true → is_known o ≡ true
fixed_known (operand.Address a) h = refl
fixed_known (operand.Function a) h = refl
fixed_known (operand.Literal number offset) h = refl
fixed_known (operand.Integer z) h = refl
fixed_known (operand.Local number offset) h = refl
fixed_known (operand.Static number offset) h = refl
fixed_known (operand.Done n) h = absurd (cc)

number_known : (o : Operand) (v : Value) → IsNumber o v → (is_known o ≡ true) × (truth_of o ≡ truth v)
number_known o v h = (ap is_known h.1, ap truth_of h.1 ∙ sym (ap truth h.2))

constant_known : (ty : CType) (o : Operand) (v : Value) → IsNumber o v ⊎ IsFixed ty o v → (is_known o ≡ true) × (truth_of o ≡ truth v)
constant_known ty o v h = elim h [ inl n ↦ number_known o v n | inr k ↦ (fixed_known o k.1, k.2) ]

quiet_known : (c : Class) (ty : CType) (o : Operand) (v : Value) → KnownBy c ty o v → is_quiet_class c ≡ true → truth_of o ≡ truth v
quiet_known class.Object ty o v h q = (place_known ty o v h).1
quiet_known class.Constant ty o v h q = (constant_known ty o v h).1
quiet_known class.Plain ty o v h q = absurd (cc)
quiet_known class.Store ty o v h q = absurd (cc)
quiet_known class.Update ty o v h q = absurd (cc)
quiet_known class.Choice ty o v h q = absurd (cc)
quiet_known class.Comma ty o v h q = absurd (cc)
quiet_known class.Call ty o v h q = absurd (cc)
quiet_known class.Isolated ty o v h q = absurd (cc)

class_known : (c : Class) (ty : CType) (o : Operand) (v : Value) → KnownBy c ty o v → is_known o ≡ is_quiet_class c
class_known class.Object ty o v h = (place_known ty o v h).0
class_known class.Constant ty o v h = (constant_known ty o v h).0
class_known class.Plain ty o v h = h
class_known class.Store ty o v h = h
class_known class.Update ty o v h = h
class_known class.Choice ty o v h = h
class_known class.Comma ty o v h = h
class_known class.Call ty o v h = h
class_known class.Isolated ty o v h = h

-- ---- members and conversions
done_converted : (kind : IntKind) (n : ℕ) (o : Operand) → is_known o ≡ false → is_known (converted kind n o) ≡ false
done_converted kind n (operand.Done k) h = refl
done_converted kind n (operand.Integer z) h = absurd (cc)
done_converted kind n (operand.Address a) h = refl
done_converted kind n (operand.Function a) h = refl
done_converted kind n (operand.Local number offset) h = refl
done_converted kind n (operand.Static number offset) h = refl
done_converted kind n (operand.Literal number offset) h = refl

done_member : (offset n : ℕ) (o : Operand) → is_known o ≡ false → is_known (member_of offset n o) ≡ false
done_member offset n (operand.Done k) h = refl
done_member offset n (operand.Integer z) h = refl
done_member offset n (operand.Address a) h = refl
done_member offset n (operand.Function a) h = refl
done_member offset n (operand.Literal number by) h = refl
done_member offset n (operand.Local number by) h = absurd (cc)
done_member offset n (operand.Static number by) h = absurd (cc)

fixed_member : (offset n : ℕ) (o : Operand) → is_fixed o ≡ true → is_known (member_of offset n o) ≡ false
fixed_member offset n (operand.Address a) h = refl
fixed_member offset n (operand.Function a) h = refl
fixed_member offset n (operand.Literal number by) h = refl
fixed_member offset n (operand.Integer z) h = refl
fixed_member offset n (operand.Done k) h = refl
fixed_member offset n (operand.Local number by) h = absurd (cc)
fixed_member offset n (operand.Static number by) h = absurd (cc)

-- an address so many bytes on isn't null
further : (a n : ℕ) → 0 < a → 0 < address_after a n
further a n h = omega (arith, h)

module _ (p : Program) (blocks : Blocks) (world : World) (f : Scene) (firsts : List ℕ) where
  away_on : (offset : ℕ) (own ty : CType) (v : Value) → IsPointer own → IsAway ty v → IsAway own (moved_place world offset v)
  away_on offset own ty v is h = (is, address_after h.1 offset, h.2, ap (moved_place world offset) h.3, further h.1 offset h.4)

  place_on : (offset n : ℕ) (own ty : CType) (o : Operand) (v : Value) → IsPointer own → IsPlace ty o v
      → IsPlace own (member_of offset n o) (moved_place world offset v)
  place_on offset n own ty (operand.Local number by) v is h = away_on offset own ty v is h
  place_on offset n own ty (operand.Static number by) v is h = away_on offset own ty v is h
  place_on offset n own ty (operand.Integer z) v is h = absurd h
  place_on offset n own ty (operand.Address a) v is h = absurd h
  place_on offset n own ty (operand.Function a) v is h = absurd h
  place_on offset n own ty (operand.Literal number by) v is h = absurd h
  place_on offset n own ty (operand.Done k) v is h = absurd h

  constant_member : (offset n : ℕ) (ty : CType) (o : Operand) (v : Value) → IsNumber o v ⊎ IsFixed ty o v → is_known (member_of offset n o) ≡ false
  constant_member offset n ty o v h =
      elim h [ inl z ↦ ap (λ (x : Operand). is_known (member_of offset n x)) z.1 | inr k ↦ fixed_member offset n o k.1 ]

  member_known : (offset n : ℕ) (own ty : CType) (c : Class) (o : Operand) (v : Value) → KnownBy c ty o v → IsPointer own
      → KnownBy (member_class (Some c)) own (member_of offset n o) (moved_place world offset v)
  member_known offset n own ty class.Object o v h is = place_on offset n own ty o v is h
  member_known offset n own ty class.Constant o v h is = constant_member offset n ty o v h
  member_known offset n own ty class.Plain o v h is = done_member offset n o h
  member_known offset n own ty class.Store o v h is = done_member offset n o h
  member_known offset n own ty class.Update o v h is = done_member offset n o h
  member_known offset n own ty class.Choice o v h is = done_member offset n o h
  member_known offset n own ty class.Comma o v h is = done_member offset n o h
  member_known offset n own ty class.Call o v h is = done_member offset n o h
  member_known offset n own ty class.Isolated o v h is = done_member offset n o h

  number_converted : (kind : IntKind) (n : ℕ) (o : Operand) (v : Value) → IsNumber o v → IsNumber (converted kind n o) (Int (conv kind (integer_of v)))
  number_converted kind n o v h = (conv kind h.0, ap (converted kind n) h.1, ap (λ w. Int (conv kind (integer_of w))) h.2)

  constant_converted : (kind : IntKind) (n : ℕ) (own ty : CType) (o : Operand) (v : Value) → IsInteger ty → IsNumber o v ⊎ IsFixed ty o v
      → IsNumber (converted kind n o) (Int (conv kind (integer_of v))) ⊎ IsFixed own (converted kind n o) (Int (conv kind (integer_of v)))
  constant_converted kind n own ty o v is h =
      elim h [ inl z ↦ inl (number_converted kind n o v z) | inr k ↦ absurd (no_integer ty k.0 is) ]

  converted_known : (kind : IntKind) (n : ℕ) (own ty : CType) (c : Class) (o : Operand) (v : Value) → KnownBy c ty o v → IsInteger ty
      → KnownBy (class_over (Some c)) own (converted kind n o) (Int (conv kind (integer_of v)))
  converted_known kind n own ty class.Object o v h is = absurd (no_integer ty (place_pointer ty o v h) is)
  converted_known kind n own ty class.Constant o v h is = constant_converted kind n own ty o v is h
  converted_known kind n own ty class.Plain o v h is = done_converted kind n o h
  converted_known kind n own ty class.Store o v h is = done_converted kind n o h
  converted_known kind n own ty class.Update o v h is = done_converted kind n o h
  converted_known kind n own ty class.Choice o v h is = done_converted kind n o h
  converted_known kind n own ty class.Comma o v h is = done_converted kind n o h
  converted_known kind n own ty class.Call o v h is = done_converted kind n o h
  converted_known kind n own ty class.Isolated o v h is = done_converted kind n o h

  -- ---- constants and objects
  null_known : (c : Bool) (t : CType) → IsFixed (pointer c t) (null_of t) (steps.null_of t)
  null_known c (function result params variadic) = (tt, refl, refl)
  null_known c _ = (tt, refl, refl)

  abbrev ConstantIs : CType → ℤ → Type 0
  ConstantIs ty z = (line : ℕ) (es : Exprs) → KnownBy (class_of (tree_of (expr (constant_head z ty) ty line es))) ty (constant_of ty z)
      (quiet_value world f (expr (constant_head z ty) ty line es))

  number_is : (ty : CType) (z : ℤ) → IsConstant ty z → ConstantIs ty z
  number_is (pointer c t) z h = subst (ConstantIs (pointer c t)) (sym h) (λ line es. inr (null_known c t))
  number_is _ z h = λ line es. inl (z, refl, refl)

  away : (ty : CType) (s : Slot) → IsPointer ty → IsPlaced world (name_of world f s) → IsAway ty (pointer_to world (name_of world f s))
  away ty s is h = (is, base_in (row_of world.rows (name_of world f s)), Whole (name_of world f s), refl, h)

  object_known : (ty : CType) (s : Slot) → IsPointer ty → IsPlaced world (name_of world f s)
      → IsPlace ty (object_of firsts s) (pointer_to world (name_of world f s))
  object_known ty (slot.Static k) is h = away ty (slot.Static k) is h
  object_known ty (slot.Auto block decl) is h = away ty (slot.Auto block decl) is h

  -- ---- a node over its operands
  abbrev Fine : Site → Type 0
  Fine s = SiteIsLawful p blocks s × NamedIsPlaced world f s.head

  abbrev KnownAt : Typed → Type 0
  KnownAt t = (n : ℕ) → KnownBy (class_of (tree_of (expr_of t))) (type_at t) (resolved firsts t n) (quiet_value world f (expr_of t))

  abbrev FirstKnown : List Typed → Type 0
  FirstKnown [] = Unit {0}
  FirstKnown (t ∷ ts) = KnownAt t

  known_opened : (d : Node-F Node Typed) (ty : CType) (line : ℕ) (ts : List Typed) (n : ℕ) → Fine (site_in d ty ts) → FirstKnown ts
      → KnownBy (class_of (tree_of (expr (head_in d ty) ty line (exprs_of ts)))) ty (open_node firsts d ty (map (resolved firsts) ts) n)
      (quiet_value world f (expr (head_in d ty) ty line (exprs_of ts)))
  known_opened (shape.Const z) ty line [] n fine first = number_is ty z fine.0.types line (exprs_of [])
  known_opened (shape.Const z) ty line (t ∷ ts) n fine first = absurd (fine.0.types)
  known_opened (shape.Obj s) ty line [] n fine first = object_known ty s (there_pointer ty _ _ fine.0.types) fine.1
  known_opened (shape.Obj s) ty line (t ∷ ts) n fine first = absurd (fine.0.types)
  known_opened (shape.Func k) ty line [] n fine first = inr (function_pointer _ ty fine.0.types, refl, refl)
  known_opened (shape.Func k) ty line (t ∷ ts) n fine first = absurd (fine.0.types)
  known_opened (shape.Str k) ty line [] n fine first = inr (there_pointer ty _ _ fine.0.types, refl, not_null _ fine.1)
  known_opened (shape.Str k) ty line (t ∷ ts) n fine first = absurd (fine.0.types)
  known_opened (shape.Member offset) ty line [] n fine first = refl
  known_opened (shape.Member offset) ty line (t ∷ []) n fine first =
      member_known offset n ty (type_at t) (class_of (tree_of (expr_of t))) (resolved firsts t n) (quiet_value world f (expr_of t)) (first n)
      (member_pointer p.tags offset ty (type_at t) fine.0.types)
  known_opened (shape.Member offset) ty line (t ∷ u ∷ ts) n fine first = absurd (fine.0.types)
  known_opened (shape.Conv (conversion.Integer kind)) ty line [] n fine first = refl
  known_opened (shape.Conv (conversion.Integer kind)) ty line (t ∷ []) n fine first =
      converted_known kind n ty (type_at t) (class_of (tree_of (expr_of t))) (resolved firsts t n) (quiet_value world f (expr_of t)) (first n) fine.0.types.0.0
  known_opened (shape.Conv (conversion.Integer kind)) ty line (t ∷ u ∷ ts) n fine first = absurd (fine.0.types)
  known_opened _ ty line ts n fine first = refl

  -- ---- all trees
  abbrev Knows : Typed → Type 0
  Knows t = All Fine (sites t) → KnownAt t

  first_known : (ts : List Typed) → ((u : Typed) → size (order.tree_of u) ≤ sizes (trees_of ts) → Knows u) → All Fine (all_sites (map seen ts))
      → FirstKnown ts
  first_known [] ih all = tt
  first_known (t ∷ ts) ih all = ih t (omega arith) (all_both Fine (sites t) (all_sites (map seen ts)) all).0

  abbrev KnownAs : CType → Operand → Expr → Type 0
  KnownAs ty o e = KnownBy (class_of (tree_of e)) ty o (quiet_value world f e)

  knows : (t : Typed) → Knows t
  knows = by_size Knows (λ t ih all n.
      let s = parts Fine t all in
      let there = known_opened (node_in t) (own_type t) (out-Typed t).line (operands_in t) n s.0 (first_known (operands_in t) ih s.1) in
      subst (λ (e : Expr). KnownAs (type_at t) (resolved firsts t n) e) (sym (expr_at t))
      (subst (λ (o : Operand). KnownAs (type_at t) o (expr (head_in (node_in t) (own_type t)) (own_type t) (out-Typed t).line (exprs_of (operands_in t))))
      (sym (resolved_at firsts t n))
      (subst (λ (ty : CType). KnownAs ty (open_node firsts (node_in t) (own_type t) (map (resolved firsts) (operands_in t)) n)
      (expr (head_in (node_in t) (own_type t)) (own_type t) (out-Typed t).line (exprs_of (operands_in t)))) (sym (type_in t)) there)))

  -- ---- and as run_code takes them
  known_here : (t : Typed) (k : ℕ) → All Fine (sites t) → IsKnown world f firsts k t (expr_of t)
  known_here t k all =
      let c = class_of (tree_of (expr_of t)) in
      let h = knows t all k in
      record {
        known = class_known c (type_at t) (resolved firsts t k) (quiet_value world f (expr_of t)) h;
        alike = λ q. quiet_known c (type_at t) (resolved firsts t k) (quiet_value world f (expr_of t)) h q;
      }

  choice_in : (d : Node-F Node Typed) (ty : CType) → IsChoiceOf d (head_in d ty)
  choice_in (shape.Const z) ty = go (is_pointer ty && (unsigned_abs z == 0))
    where
      go : (b : Bool) → is_choice (if b then model.Null else model.Number z) ≡ false
      go true = refl
      go false = refl
  choice_in _ ty = refl

  abbrev Viewed : Typed → Type 0
  Viewed t = All Fine (sites t) → (k : ℕ) → Views world f firsts k t (expr_of t)

  all_viewed : (ts : List Typed) → ((u : Typed) → size (order.tree_of u) ≤ sizes (trees_of ts) → Viewed u) → All Fine (all_sites (map seen ts)) → (m : ℕ)
      → ViewAll world f firsts m ts (exprs_of ts)
  all_viewed [] ih all m = tt
  all_viewed (t ∷ ts) ih all m =
      let s = all_both Fine (sites t) (all_sites (map seen ts)) all in
      (ih t (omega arith) s.0 m, all_viewed ts (λ u le. ih u (omega (arith, le))) s.1 (m + size (tree_of (expr_of t))))

  viewed : (t : Typed) → Viewed t
  viewed = by_size Viewed (λ t ih all k.
      let e = expr (head_in (node_in t) (own_type t)) (own_type t) (out-Typed t).line (exprs_of (operands_in t)) in
      subst (Views world f firsts k t) (sym (expr_at t)) (
        subst (IsKnown world f firsts k t) (expr_at t) (known_here t k all),
        choice_in (node_in t) (own_type t),
        sym (ap size (same_tree t)) ∙ ap (λ x. size (tree_of x)) (expr_at t),
        all_viewed (operands_in t) ih (parts Fine t all).1 (suc k),
      ))

-- ---- the full expressions of a lawful program
pub own_lawful : (p : Program) (t : Typed) → IsLawfulTree p t → All (IsLawfulTree p) (full_trees t)
own_lawful p t h =
    All-weaker (λ u. All (SiteIsLawful p h.0) (sites u)) (IsLawfulTree p) (λ u k. (h.0, k)) (full_trees t) (all_own (SiteIsLawful p h.0) t h.1)

pub trees_lawful : TreesAreLawful
trees_lawful p code n laid lawful order at = each_laid p (IsLawfulTree p) (own_lawful p) (λ s e l. (e.blocks, l.nodes)) code n laid lawful order at

pub code_known : CodeIsKnown
code_known p code world f firsts n laid lawful order at placed =
    let t = laid.root.now in
    let h = trees_lawful p code n laid lawful order at in
    viewed p h.0 world f firsts t
    (both_give (SiteIsLawful p h.0) (λ s. NamedIsPlaced world f s.head) (Fine p h.0 world f firsts) (λ s l m. (l, m)) (sites t) h.1 placed) 0
