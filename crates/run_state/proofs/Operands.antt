-- What the operands of full expressions give.
use Rattle.std.proofs.Common.{◌≡◌, ℕ, ◌+◌, ◌-◌, ◌≤◌, ◌<◌, ◌^◌, Bool, true, false, ◌==◌, ◌||◌, if◌then◌else◌, min, refl, sym, ap, ◌∙◌, subst, arith}
use Rattle.std.proofs.Common.{List, [], ◌∷◌, map, slice_get, Option, Some, None, ℤ}
use Rattle.std.specs.Prelude.{option_map, ◌&&◌, unsigned_abs}
use Rattle.std.proofs.lemmas.Bool.Decides.{nat_tests}
use Rattle.ub_base.specs.declared.names.ObjName.{ObjName}
use Rattle.ub_base.specs.declared.names.ObjName.TheVariants as object
use Rattle.addr_map.specs.declared.map.Row.{Row}
use Rattle.addr_map.specs.Rows.{row_of}
use Rattle.exposure.specs.declared.prov.Prov.TheVariants.{Empty, Whole}
use Rattle.c_types.specs.Types.{CType, pointer, function}
use Rattle.c_arith.specs.Operators.{conv}
use Rattle.c_typed.specs.declared.class.Class.{Class}
use Rattle.c_typed.specs.declared.class.Class.TheVariants as class
use Rattle.c_typed.specs.declared.tree.Conversion.{Conversion}
use Rattle.c_typed.specs.declared.tree.Conversion.TheVariants as conversion
use Rattle.c_typed.specs.declared.tree.Node.{Node, fold-Node, fold-roll-Node, map-Node, out-Node, roll-out-Node}
use Rattle.c_typed.specs.declared.tree.Node.TheOpen as shape
use Rattle.c_typed.specs.declared.tree.Node.TheOpen.{Node-F}
use Rattle.c_typed.specs.declared.tree.Slot.{Slot}
use Rattle.c_typed.specs.declared.tree.Slot.TheVariants as slot
use Rattle.c_typed.specs.declared.tree.Typed.{Typed, out-Typed, fold_out-Typed}
use Rattle.c_typed.specs.Tree.{is_quiet, is_quiet_class, size, sizes, trees_of}
use Rattle.c_typed.specs.Tree as order
use Rattle.mem_spec.specs.Acts.{base_in}
use Rattle.mem_objects.specs.declared.value.Value.{Value as Kept_value}
use Rattle.mem_objects.specs.declared.value.Value.TheVariants as kept
use Rattle.mem_objects.specs.Made.{IsMade}
use Rattle.c_model.specs.Program as model
use Rattle.c_model.specs.Program.{Expr, expr, Exprs, tree_of, head_class}
use Rattle.c_model.specs.Steps.{Scene, quiet_value, moved_place, turn_of, auto_name, name_of, pointer_to, null_of}
use Rattle.c_model.specs.Values.{Value, Int, Ptr, address_after, integer_of}
use Rattle.c_model.specs.World.{World}
use Rattle.program_view.specs.Trees.{expr_of, exprs_of, is_pointer, constant_head}
use Rattle.program_view.proofs.Seen.{node_in, operands_in, own_type, head_in, expr_at, by_size}
use Rattle.run_values.specs.Contents.{StandsAt}
use Rattle.run_values.specs.Kept.{IsOf}
use Rattle.run_values.specs.Views.{value_in}
use Rattle.run_values.proofs.Placed.{all_at}
use Rattle.run_layout.specs.declared.steps.BlockCode.{BlockCode}
use Rattle.run_layout.specs.declared.steps.Operand.{Operand}
use Rattle.run_layout.specs.declared.steps.Operand.TheVariants as operand
use Rattle.run_layout.specs.Resolved.{NodeResolved, node_resolved, tree_resolved, resolved, first_resolved, converted, member_of, constant_of, local_number}
use Rattle.run_layout.specs.Resolved.{object_of}
use Rattle.run_state.specs.declared.machine.Local.{Local}
use Rattle.run_state.specs.declared.machine.Machine.{Machine}
use Rattle.run_state.specs.Stands.{StandsLocal, StandLocals}
use Rattle.run_state.specs.Operands.{pointer_into, into_local, operand_in, Gives, StandsObjects, is_open, IsThere, is_integer, IsNamed, QuietGives, RoomGives}

-- ---- where a tree's value comes from, by its node
abbrev node_fold : List ℕ → Node → NodeResolved
node_fold firsts = fold-Node NodeResolved (ℕ → Operand) (node_resolved firsts) tree_resolved

abbrev open_node : List ℕ → Node-F Node Typed → NodeResolved
open_node firsts d = node_resolved firsts (map-Node Node Typed NodeResolved (ℕ → Operand) (node_fold firsts) (resolved firsts) d)

resolved_at : (firsts : List ℕ) (t : Typed) (n : ℕ) →
    resolved firsts t n ≡ open_node firsts (node_in t) (own_type t) (map (resolved firsts) (operands_in t)) n
resolved_at firsts t n =
    let u = (out-Typed t).node in
    let os = map (resolved firsts) (operands_in t) in
    ap (λ (f : ℕ → Operand). f n) (fold_out-Typed NodeResolved (ℕ → Operand) (node_resolved firsts) tree_resolved t)
    ∙ (ap (λ z. node_fold firsts z (own_type t) os n) (sym (roll-out-Node u))
    ∙ ap (λ (g : NodeResolved). g (own_type t) os n) (fold-roll-Node NodeResolved (ℕ → Operand) (node_resolved firsts) tree_resolved (out-Node u)))

-- ---- addresses
min_low : (a n : ℕ) → a ≤ n → min a n ≡ a
min_low a n h = omega (arith, h)

after_none : (a : ℕ) → a < 2 ^ 64 → address_after a 0 ≡ a
after_none a h = omega (arith, h)

after_both : (a n k : ℕ) → address_after (address_after a n) k ≡ address_after a (min (n + k) (2 ^ 64 - 1))
after_both a n k = omega arith

same : (a b : ℕ) → (a == b) ≡ true → a ≡ b
same a b h = grind (arith, nat_tests, h)

-- ---- what was made
pointer_of : (m : Machine) (x : ObjName) (offset a : ℕ) → IsMade m.memory (Whole x) → IsOf m.memory (pointer_into x offset a)
pointer_of m x offset a made = record { made = made; known = tt; tagged = tt }

-- ---- the objects of open blocks
module _ (world : World) (m : Machine) (f : Scene) (block k : ℕ) (code : BlockCode)
    (at : slice_get m.image.code.now.tables.blocks.items (m.top.blocks + block) ≡ Some code) (less : k < code.objects.count) where
  abbrev Here : ℕ → Type 0
  Here turn = StandsLocal world m (m.top.locals + (code.first + k)) f turn k

  local_there : (bs : List (ℕ × ℕ)) → StandLocals world m m.top f bs → is_open bs block ≡ true → Here (turn_of bs block)
  local_there [] all h = absurd (cc)
  local_there (b ∷ bs) all h = go (b.0 == block) refl h (λ g. local_there bs all.1 g)
    where
      own : (c : BlockCode) → slice_get m.image.code.now.tables.blocks.items (m.top.blocks + b.0) ≡ Some c → b.0 ≡ block → code ≡ c
      own c there e =
          let both : Some code ≡ Some c = sym at ∙ (ap (λ (j : ℕ). slice_get m.image.code.now.tables.blocks.items (m.top.blocks + j)) (sym e) ∙ there) in
          cc

      first : b.0 ≡ block → Here b.1
      first e =
          let c = all.0.0 in
          let is = own c all.0.1 e in
          let less' : k < c.objects.count = subst (λ (z : BlockCode). k < z.objects.count) is less in
          subst (λ (z : BlockCode). StandsLocal world m (m.top.locals + (z.first + k)) f b.1 k) (sym is) (all.0.2 k less')

      go : (c : Bool) → (b.0 == block) ≡ c → (c || is_open bs block) ≡ true → (is_open bs block ≡ true → Here (turn_of bs block))
          → Here (if c then b.1 else turn_of bs block)
      go true e h next = first (same b.0 block e)
      go false e h next = next h

-- ---- the places of objects
-- a pointer into an object, as it is resolved and as the definitions have it
abbrev Points : Machine → Operand → Value → Type 0
Points m (operand.Local number offset) v =
    (x : Local) × (slice_get m.locals.items (m.top.locals + number) ≡ Some x) × IsMade m.memory (Whole x.name) ×
    (v ≡ Ptr (address_after x.addr offset) (Whole x.name))
Points m (operand.Static number offset) v =
    (a : ℕ) × (slice_get m.places.objects number ≡ Some a) × IsMade m.memory (Whole (object.Static number))
    × (v ≡ Ptr (address_after a offset) (Whole (object.Static number)))
Points m _ v = ⊥

points_give : (m : Machine) (o : Operand) (v : Value) → Points m o v → Gives m o v
points_give m (operand.Local number offset) v p =
    let x = p.0 in
    (into_local offset x, ap (option_map (into_local offset)) p.1, pointer_of m x.name offset x.addr p.2, sym p.3)
points_give m (operand.Static number offset) v p = (
  pointer_into (object.Static number) offset p.0,
  ap (option_map (pointer_into (object.Static number) offset)) p.1,
  pointer_of m (object.Static number) offset p.0 p.2,
  sym p.3,
)
points_give m (operand.Integer z) v p = absurd p
points_give m (operand.Address a) v p = absurd p
points_give m (operand.Function a) v p = absurd p
points_give m (operand.Literal number offset) v p = absurd p
points_give m (operand.Done n) v p = absurd p

module _ (world : World) where
  moved_on : (x : ObjName) (a offset by : ℕ) (v : Value) → v ≡ Ptr (address_after a offset) (Whole x)
      → moved_place world by v ≡ Ptr (address_after a (min (offset + by) (2 ^ 64 - 1))) (Whole x)
  moved_on x a offset by v e = ap (moved_place world by) e ∙ ap (λ b. Ptr b (Whole x)) (after_both a offset by)

  points_on : (m : Machine) (by n : ℕ) (o : Operand) (v : Value) → Points m o v → Points m (member_of by n o) (moved_place world by v)
  points_on m by n (operand.Local number offset) v p = (p.0, p.1, p.2, moved_on p.0.name p.0.addr offset by v p.3)
  points_on m by n (operand.Static number offset) v p = (p.0, p.1, p.2, moved_on (object.Static number) p.0 offset by v p.3)
  points_on m by n (operand.Integer z) v p = absurd p
  points_on m by n (operand.Address a) v p = absurd p
  points_on m by n (operand.Function a) v p = absurd p
  points_on m by n (operand.Literal number offset) v p = absurd p
  points_on m by n (operand.Done k) v p = absurd p

-- ---- what is known beforehand
module _ (world : World) (m : Machine) (f : Scene) (firsts : List ℕ) (stands : StandsObjects world m f) where
  -- an object's row begins at an address
  low : (x : ObjName) → base_in (row_of world.rows x) < 2 ^ 64
  low x = go (row_of world.rows x) refl
    where
      go : (o : Option Row) → row_of world.rows x ≡ o → base_in o < 2 ^ 64
      go None e = omega arith
      go (Some r) e = stands.addresses x r e

  placed : (x : ObjName) (addresses : List ℕ) (k : ℕ) → StandsAt m.memory x addresses k
      → (a : ℕ) × (slice_get addresses k ≡ Some a) × IsMade m.memory (Whole x) ×
      (Ptr (base_in (row_of world.rows x)) (Whole x) ≡ Ptr (address_after a 0) (Whole x))
  placed x addresses k there =
      let a = there.0 in
      let s = there.2 in
      let row : row_of world.rows x ≡ Some s.row = stands.rows x s.row s.named in
      let base : base_in (row_of world.rows x) ≡ a = ap base_in row ∙ s.at in
      let same_address : a ≡ address_after a 0 = sym (after_none a (subst (λ (n : ℕ). n < 2 ^ 64) base (low x))) in
      (a, there.1, s.made, ap (λ b. Ptr b (Whole x)) (base ∙ same_address))

  object_points : (s : Slot) → IsThere m firsts f.blocks s → Points m (object_of firsts s) (pointer_to world (name_of world f s))
  object_points (slot.Static k) there =
      placed (object.Static k) m.places.objects k
      (all_at m.memory (λ j. object.Static j) 0 k m.places.objects k (omega arith) (omega (arith, stands.places.objects.count, there))
      stands.places.objects.stand)
  object_points (slot.Auto block decl) there =
      let code = there.0 in
      let x = auto_name world f (turn_of f.blocks block) decl in
      let here = local_there world m f block decl code there.1 there.3 f.blocks stands.locals there.5 in
      let number : local_number (slice_get firsts block) decl ≡ code.first + decl =
      ap (λ o. local_number o decl) there.2 ∙ min_low (code.first + decl) (2 ^ 32 - 1) (omega (arith, there.4)) in (
        record { addr = base_in (row_of world.rows x); name = x },
        ap (λ (j : ℕ). slice_get m.locals.items (m.top.locals + j)) number ∙ here.0,
        here.1,
        ap (λ b. Ptr b (Whole x)) (sym (after_none _ (low x))),
      )

  -- integers
  abbrev IntegerAt : Expr → Operand → Type 0
  IntegerAt e o = is_integer e ≡ true → (z : ℤ) × (o ≡ operand.Integer z) × (quiet_value world f e ≡ Int z)

  abbrev Integers : Typed → Type 0
  Integers t = (n : ℕ) → IntegerAt (expr_of t) (resolved firsts t n)

  constant_integer : (z : ℤ) (ty : CType) (line : ℕ) (es : Exprs) → IntegerAt (expr (constant_head z ty) ty line es) (constant_of ty z)
  constant_integer z (pointer c t) line es = go (unsigned_abs z == 0)
    where
      go : (b : Bool) → is_integer (expr (if true && b then model.Null else model.Number z) (pointer c t) line es) ≡ true
          → (w : ℤ) × (constant_of (pointer c t) z ≡ operand.Integer w)
          × (quiet_value world f (expr (if true && b then model.Null else model.Number z) (pointer c t) line es) ≡ Int w)
      go true h = absurd (cc)
      go false h = absurd (cc)
  constant_integer z _ line es = λ h. (z, refl, refl)

  integer_opened : (d : Node-F Node Typed) (ty : CType) (line : ℕ) (ts : List Typed) (n : ℕ) →
      ((u : Typed) → size (order.tree_of u) ≤ sizes (trees_of ts) → Integers u) →
      IntegerAt (expr (head_in d ty) ty line (exprs_of ts)) (open_node firsts d ty (map (resolved firsts) ts) n)
  integer_opened (shape.Const z) ty line ts n ih h = constant_integer z ty line (exprs_of ts) h
  integer_opened (shape.Conv (conversion.Integer k)) ty line [] n ih h = absurd (cc)
  integer_opened (shape.Conv (conversion.Integer k)) ty line (t ∷ ts) n ih h =
      let r = ih t (omega arith) n h in
      (conv k r.0, ap (converted k n) r.1, ap (λ v. Int (conv k (integer_of v))) r.2)
  integer_opened _ ty line ts n ih h = absurd (cc)

  integers : (t : Typed) → Integers t
  integers = by_size Integers (λ t ih n.
      subst (λ (e : Expr). IntegerAt e (resolved firsts t n)) (sym (expr_at t))
      (subst (λ (o : Operand). IntegerAt (expr (head_in (node_in t) (own_type t)) (own_type t) (out-Typed t).line (exprs_of (operands_in t))) o)
      (sym (resolved_at firsts t n)) (integer_opened (node_in t) (own_type t) (out-Typed t).line (operands_in t) n ih)))

  -- objects and their members
  abbrev ObjectAt : Expr → Operand → Type 0
  ObjectAt e o = order.class_of (tree_of e) ≡ class.Object → IsNamed m firsts f.blocks e → Points m o (quiet_value world f e)

  abbrev Objects : Typed → Type 0
  Objects t = (n : ℕ) → ObjectAt (expr_of t) (resolved firsts t n)

  member_over : (c : Class) → order.member_class (Some c) ≡ class.Object → c ≡ class.Object
  member_over class.Object h = refl
  member_over _ h = absurd (cc)

  not_converted : (c : Conversion) (o : Option Class) → order.conversion_class c o ≡ class.Object → ⊥
  not_converted (conversion.Integer k) None h = cc
  not_converted (conversion.Integer k) (Some c) h = go (is_quiet_class c) h
    where
      go : (b : Bool) → (if b then class.Constant else class.Plain) ≡ class.Object → ⊥
      go true h = cc
      go false h = cc
  not_converted _ o h = cc

  constant_class : (z : ℤ) (ty : CType) (ts : order.Trees) → head_class (constant_head z ty) ts ≡ class.Constant
  constant_class z ty ts = go (is_pointer ty && (unsigned_abs z == 0))
    where
      go : (b : Bool) → head_class (if b then model.Null else model.Number z) ts ≡ class.Constant
      go true = refl
      go false = refl

  object_opened : (d : Node-F Node Typed) (ty : CType) (line : ℕ) (ts : List Typed) (n : ℕ) →
      ((u : Typed) → size (order.tree_of u) ≤ sizes (trees_of ts) → Objects u) →
      ObjectAt (expr (head_in d ty) ty line (exprs_of ts)) (open_node firsts d ty (map (resolved firsts) ts) n)
  object_opened (shape.Obj s) ty line ts n ih c named = object_points s named
  object_opened (shape.Member offset) ty line [] n ih c named = absurd (cc)
  object_opened (shape.Member offset) ty line (t ∷ ts) n ih c named =
      points_on world m offset n (resolved firsts t n) (quiet_value world f (expr_of t))
      (ih t (omega arith) n (member_over (order.class_of (tree_of (expr_of t))) c) named)
  object_opened (shape.Conv k) ty line ts n ih c named = absurd (not_converted k (order.first_class (model.trees_of (exprs_of ts))) c)
  object_opened (shape.Const z) ty line ts n ih c named = absurd (let e = constant_class z ty (model.trees_of (exprs_of ts)) in cc)
  object_opened _ ty line ts n ih c named = absurd (cc)

  objects : (t : Typed) → Objects t
  objects = by_size Objects (λ t ih n.
      subst (λ (e : Expr). ObjectAt e (resolved firsts t n)) (sym (expr_at t))
      (subst (λ (o : Operand). ObjectAt (expr (head_in (node_in t) (own_type t)) (own_type t) (out-Typed t).line (exprs_of (operands_in t))) o)
      (sym (resolved_at firsts t n)) (object_opened (node_in t) (own_type t) (out-Typed t).line (operands_in t) n ih)))

  -- all of them
  abbrev QuietAt : Expr → Operand → Type 0
  QuietAt e o = is_quiet (tree_of e) ≡ true → IsNamed m firsts f.blocks e → Gives m o (quiet_value world f e)

  plain : (h : Kept_value) (o : Operand) → IsOf m.memory h → operand_in m o ≡ Some h → Gives m o (value_in m.memory h)
  plain h o of there = (h, there, of, refl)

  null_gives : (t : CType) → Gives m (Rattle.run_layout.specs.Resolved.null_of t) (null_of t)
  null_gives (function result params variadic) = (kept.Func 0, refl, record { made = tt; known = tt; tagged = tt }, refl)
  null_gives _ = (kept.Ptr 0 Empty, refl, record { made = tt; known = tt; tagged = tt }, refl)

  constant_gives : (z : ℤ) (ty : CType) (line : ℕ) (es : Exprs) → QuietAt (expr (constant_head z ty) ty line es) (constant_of ty z)
  constant_gives z (pointer c t) line es = go (unsigned_abs z == 0)
    where
      go : (b : Bool) → is_quiet (tree_of (expr (if true && b then model.Null else model.Number z) (pointer c t) line es)) ≡ true
          → IsNamed m firsts f.blocks (expr (if true && b then model.Null else model.Number z) (pointer c t) line es)
          → Gives m (constant_of (pointer c t) z) (quiet_value world f (expr (if true && b then model.Null else model.Number z) (pointer c t) line es))
      go true q named = null_gives t
      go false q named = absurd (cc)
  constant_gives z _ line es = λ q named. (kept.Int z, refl, record { made = tt; known = tt; tagged = tt }, refl)

  member_object : (o : Option Class) → is_quiet_class (order.member_class o) ≡ true → order.member_class o ≡ class.Object
  member_object None q = absurd (cc)
  member_object (Some class.Object) q = refl
  member_object (Some _) q = absurd (cc)

  quiet_opened : (d : Node-F Node Typed) (ty : CType) (line : ℕ) (ts : List Typed) (n : ℕ) →
      QuietAt (expr (head_in d ty) ty line (exprs_of ts)) (open_node firsts d ty (map (resolved firsts) ts) n)
  quiet_opened (shape.Const z) ty line ts n q named = constant_gives z ty line (exprs_of ts) q named
  quiet_opened (shape.Obj s) ty line ts n q named = points_give m (object_of firsts s) _ (object_points s named)
  quiet_opened (shape.Func k) ty line ts n q named = (kept.Func _, refl, record { made = tt; known = tt; tagged = tt }, refl)
  quiet_opened (shape.Str k) ty line ts n q named =
      let p = placed (object.Lit k) m.places.literals k
      (all_at m.memory (λ j. object.Lit j) 0 k m.places.literals k (omega arith) (omega (arith, stands.places.literals.count, named))
      stands.places.literals.stand) in
      (pointer_into (object.Lit k) 0 p.0, ap (option_map (pointer_into (object.Lit k) 0)) p.1, pointer_of m (object.Lit k) 0 p.0 p.2, sym p.3)
  quiet_opened (shape.Member offset) ty line ts n q named =
      points_give m (open_node firsts (shape.Member offset) ty (map (resolved firsts) ts) n) _
      (object_opened (shape.Member offset) ty line ts n (λ u le. objects u) (member_object (order.first_class (model.trees_of (exprs_of ts))) q) named)
  quiet_opened (shape.Conv (conversion.Integer k)) ty line ts n q named =
      let r = integer_opened (shape.Conv (conversion.Integer k)) ty line ts n (λ u le. integers u) named in
      (kept.Int r.0, ap (operand_in m) r.1, record { made = tt; known = tt; tagged = tt }, sym r.2)
  quiet_opened _ ty line ts n q named = absurd (cc)

  pub quiet : (t : Typed) (n : ℕ) → QuietAt (expr_of t) (resolved firsts t n)
  quiet t n =
      subst (λ (e : Expr). QuietAt e (resolved firsts t n)) (sym (expr_at t))
      (subst (λ (o : Operand). QuietAt (expr (head_in (node_in t) (own_type t)) (own_type t) (out-Typed t).line (exprs_of (operands_in t))) o)
      (sym (resolved_at firsts t n)) (quiet_opened (node_in t) (own_type t) (out-Typed t).line (operands_in t) n))

pub quiet_gives : QuietGives
quiet_gives world m f firsts t n stands q named = quiet world m f firsts stands t n q named

-- ---- what isn't known beforehand
abbrev is_number : Operand → Bool
is_number (operand.Integer z) = true
is_number _ = false

abbrev is_place : Operand → Bool
is_place (operand.Local number offset) = true
is_place (operand.Static number offset) = true
is_place _ = false

converted_number : (k : _) (n : ℕ) (o : Operand) → is_number (converted k n o) ≡ true → is_number o ≡ true
converted_number k n (operand.Integer z) h = refl
converted_number k n _ h = absurd (cc)

converted_place : (k : _) (n : ℕ) (o : Operand) → is_place (converted k n o) ≡ true → ⊥
converted_place k n (operand.Integer z) h = cc
converted_place k n _ h = cc

converted_room : (k : _) (n : ℕ) (o : Operand) → (is_number o ≡ true → ⊥) → converted k n o ≡ operand.Done n
converted_room k n (operand.Integer z) h = absurd (h refl)
converted_room k n _ h = refl

member_number : (by n : ℕ) (o : Operand) → is_number (member_of by n o) ≡ true → ⊥
member_number by n (operand.Local number offset) h = cc
member_number by n (operand.Static number offset) h = cc
member_number by n _ h = cc

member_place : (by n : ℕ) (o : Operand) → is_place (member_of by n o) ≡ true → is_place o ≡ true
member_place by n (operand.Local number offset) h = refl
member_place by n (operand.Static number offset) h = refl
member_place by n _ h = absurd (cc)

member_room : (by n : ℕ) (o : Operand) → (is_place o ≡ true → ⊥) → member_of by n o ≡ operand.Done n
member_room by n (operand.Local number offset) h = absurd (h refl)
member_room by n (operand.Static number offset) h = absurd (h refl)
member_room by n _ h = refl

null_place : (t : CType) → is_place (Rattle.run_layout.specs.Resolved.null_of t) ≡ true → ⊥
null_place (function result params variadic) h = cc
null_place _ h = cc

constant_place : (ty : CType) (z : ℤ) → is_place (constant_of ty z) ≡ true → ⊥
constant_place (pointer c t) z h = null_place t h
constant_place _ z h = cc

object_number : (firsts : List ℕ) (s : Slot) → is_number (object_of firsts s) ≡ true → ⊥
object_number firsts (slot.Static k) h = cc
object_number firsts (slot.Auto block decl) h = cc

fixed_class : (z : ℤ) (ty : CType) (ts : order.Trees) → head_class (constant_head z ty) ts ≡ class.Constant
fixed_class z ty ts = go (is_pointer ty && (unsigned_abs z == 0))
  where
    go : (b : Bool) → head_class (if b then model.Null else model.Number z) ts ≡ class.Constant
    go true = refl
    go false = refl

module _ (firsts : List ℕ) where
  abbrev NumberAt : Expr → Operand → Type 0
  NumberAt e o = is_number o ≡ true → is_quiet (tree_of e) ≡ true

  abbrev Numbers : Typed → Type 0
  Numbers t = (n : ℕ) → NumberAt (expr_of t) (resolved firsts t n)

  number_opened : (d : Node-F Node Typed) (ty : CType) (line : ℕ) (ts : List Typed) (n : ℕ) →
      ((u : Typed) → size (order.tree_of u) ≤ sizes (trees_of ts) → Numbers u) →
      NumberAt (expr (head_in d ty) ty line (exprs_of ts)) (open_node firsts d ty (map (resolved firsts) ts) n)
  number_opened (shape.Const z) ty line ts n ih h = ap is_quiet_class (fixed_class z ty (model.trees_of (exprs_of ts)))
  number_opened (shape.Conv (conversion.Integer k)) ty line [] n ih h = absurd (cc)
  number_opened (shape.Conv (conversion.Integer k)) ty line (t ∷ ts) n ih h =
      ap (λ b. is_quiet_class (if b then class.Constant else class.Plain)) (ih t (omega arith) n (converted_number k n (resolved firsts t n) h))
  number_opened (shape.Obj s) ty line ts n ih h = absurd (object_number firsts s h)
  number_opened (shape.Member offset) ty line ts n ih h = absurd (member_number offset n (first_resolved (map (resolved firsts) ts) n) h)
  number_opened _ ty line ts n ih h = absurd (cc)

  numbers : (t : Typed) → Numbers t
  numbers = by_size Numbers (λ t ih n.
      subst (λ (e : Expr). NumberAt e (resolved firsts t n)) (sym (expr_at t))
      (subst (λ (o : Operand). NumberAt (expr (head_in (node_in t) (own_type t)) (own_type t) (out-Typed t).line (exprs_of (operands_in t))) o)
      (sym (resolved_at firsts t n)) (number_opened (node_in t) (own_type t) (out-Typed t).line (operands_in t) n ih)))

  abbrev PlaceAt : Expr → Operand → Type 0
  PlaceAt e o = is_place o ≡ true → order.class_of (tree_of e) ≡ class.Object

  abbrev Places : Typed → Type 0
  Places t = (n : ℕ) → PlaceAt (expr_of t) (resolved firsts t n)

  place_opened : (d : Node-F Node Typed) (ty : CType) (line : ℕ) (ts : List Typed) (n : ℕ) →
      ((u : Typed) → size (order.tree_of u) ≤ sizes (trees_of ts) → Places u) →
      PlaceAt (expr (head_in d ty) ty line (exprs_of ts)) (open_node firsts d ty (map (resolved firsts) ts) n)
  place_opened (shape.Obj s) ty line ts n ih h = refl
  place_opened (shape.Member offset) ty line [] n ih h = absurd (cc)
  place_opened (shape.Member offset) ty line (t ∷ ts) n ih h =
      ap (λ c. order.member_class (Some c)) (ih t (omega arith) n (member_place offset n (resolved firsts t n) h))
  place_opened (shape.Const z) ty line ts n ih h = absurd (constant_place ty z h)
  place_opened (shape.Conv (conversion.Integer k)) ty line ts n ih h = absurd (converted_place k n (first_resolved (map (resolved firsts) ts) n) h)
  place_opened _ ty line ts n ih h = absurd (cc)

  places : (t : Typed) → Places t
  places = by_size Places (λ t ih n.
      subst (λ (e : Expr). PlaceAt e (resolved firsts t n)) (sym (expr_at t))
      (subst (λ (o : Operand). PlaceAt (expr (head_in (node_in t) (own_type t)) (own_type t) (out-Typed t).line (exprs_of (operands_in t))) o)
      (sym (resolved_at firsts t n)) (place_opened (node_in t) (own_type t) (out-Typed t).line (operands_in t) n ih)))

  -- each node that isn't known beforehand has its room
  room_opened : (d : Node-F Node Typed) (ty : CType) (line : ℕ) (ts : List Typed) (n : ℕ) →
      is_quiet (tree_of (expr (head_in d ty) ty line (exprs_of ts))) ≡ false → open_node firsts d ty (map (resolved firsts) ts) n ≡ operand.Done n
  room_opened (shape.Const z) ty line ts n q = absurd (let e = ap is_quiet_class (fixed_class z ty (model.trees_of (exprs_of ts))) in cc)
  room_opened (shape.Obj s) ty line ts n q = absurd (cc)
  room_opened (shape.Func k) ty line ts n q = absurd (cc)
  room_opened (shape.Str k) ty line ts n q = absurd (cc)
  room_opened (shape.Member offset) ty line [] n q = refl
  room_opened (shape.Member offset) ty line (t ∷ ts) n q =
      member_room offset n (resolved firsts t n)
      (λ h. let e = ap (λ c. is_quiet_class (order.member_class (Some c))) (places t n h) in cc)
  room_opened (shape.Conv (conversion.Integer k)) ty line [] n q = refl
  room_opened (shape.Conv (conversion.Integer k)) ty line (t ∷ ts) n q =
      converted_room k n (resolved firsts t n)
      (λ h. let e = ap (λ b. is_quiet_class (if b then class.Constant else class.Plain)) (numbers t n h) in cc)
  room_opened _ ty line ts n q = refl

  pub room : (t : Typed) (n : ℕ) → is_quiet (tree_of (expr_of t)) ≡ false → resolved firsts t n ≡ operand.Done n
  room t n q =
      resolved_at firsts t n
      ∙ room_opened (node_in t) (own_type t) (out-Typed t).line (operands_in t) n (sym (ap (λ e. is_quiet (tree_of e)) (expr_at t)) ∙ q)

pub room_gives : RoomGives
room_gives m firsts t n v q holds = subst (λ (o : Operand). Gives m o v) (sym (room firsts t n q)) holds
