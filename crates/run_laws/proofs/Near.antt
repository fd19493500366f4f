-- A node of a lawful program moves a pointer by fewer than 2^127 bytes.
use Rattle.std.proofs.Common.{arith, ◌≡◌, ◌+◌, ◌*◌, ◌<◌, ◌≤◌, ◌^◌, ℕ, zero, suc, ◌==◌, Bool, true, false, ◌&&◌, if◌then◌else◌}
use Rattle.std.proofs.Common.{List, [], ◌∷◌, map, length, Option, Some, None, slice_get, ℤ, refl, sym, ap, subst, unsigned_abs}
use Rattle.std.specs.Prelude.{nat_le}
use Rattle.std.specs.List.{All}
use Rattle.std.proofs.lemmas.Bool.Decides.{nat_tests}
use Rattle.ub_base.specs.declared.clause.Kind.TheVariants.{Val}
use Rattle.ub_base.specs.declared.names.ObjName.{ObjName}
use Rattle.ub_base.specs.declared.names.ObjName.TheVariants as object
use Rattle.addr_map.specs.declared.map.Row.{Row}
use Rattle.addr_map.specs.Rows.{row_of}
use Rattle.c_types.specs.declared.kind.IntKind.{IntKind}
use Rattle.c_types.specs.declared.kind.IntKind.TheVariants.{Bool as Boolean, Char, SChar, UChar, Short, UShort, Int as Int_kind, UInt, Long, ULong, LLong}
use Rattle.c_types.specs.declared.kind.IntKind.TheVariants.{ULLong}
use Rattle.c_types.specs.declared.tags.Extent.{Extent}
use Rattle.c_types.specs.declared.tags.Member.{Member}
use Rattle.c_types.specs.declared.tags.Tag.{Tag}
use Rattle.c_types.specs.Layout.{Known, bytes, extent, extents, extent_of_tag, repeated, limited, and_then, padded, if_any, members_extent, no_members}
use Rattle.c_types.specs.Layout.{known_by}
use Rattle.c_types.specs.Types.{CType, void, int, enumeration, pointer, array, struct, union, function}
use Rattle.c_arith.proofs.Bounds.{held_small}
use Rattle.c_typed.specs.declared.program.Program.{Program}
use Rattle.c_typed.specs.declared.tree.Change.TheVariants as change
use Rattle.c_typed.specs.declared.tree.Conversion.TheVariants as conversion
use Rattle.c_typed.specs.declared.tree.Node.{Node}
use Rattle.c_typed.specs.declared.tree.Node.TheOpen as shape
use Rattle.c_typed.specs.declared.tree.Node.TheOpen.{Node-F}
use Rattle.c_typed.specs.declared.tree.Place.{Place}
use Rattle.c_typed.specs.declared.tree.Typed.{Typed, out-Typed}
use Rattle.c_typed.specs.Lawful.{There, IsConstant, StepsOver, SiteIsLawful, TypesAre, UpdateTypes}
use Rattle.c_typed.specs.Order.{place}
use Rattle.c_typed.specs.Sites.{Blocks, Site, all_sites, seen, sites, type_seen}
use Rattle.c_typed.specs.Tree as order
use Rattle.c_typed.specs.Tree.{is_quiet, size, sizes, trees_of}
use Rattle.mem_spec.specs.Acts.{base_in}
use Rattle.c_model.specs.Nodes.{amount}
use Rattle.c_model.specs.Program as model
use Rattle.c_model.specs.Program.{Expr, expr, Exprs, none, more, Head, tree_of}
use Rattle.c_model.specs.Steps.{Scene, first_quiet, moved_place, name_of, null_of, quiet_value, target, values_of}
use Rattle.c_model.specs.Values.{Value, Int, Ptr, Fun, Whole, Missing, Nothing, integer_of, or_nothing, value_at}
use Rattle.c_model.specs.World.{World}
use Rattle.program_view.specs.Trees.{constant_head, expr_of, exprs_of, is_pointer}
use Rattle.program_view.proofs.Seen.{node_in, operands_in, own_type, head_in, expr_at, by_size}
use Rattle.run_acts.specs.Updates.{IsNear}
use Rattle.run_layout.specs.declared.nodes.NodeInfo.{NodeInfo}
use Rattle.run_layout.specs.Numbered.{AreNodes}
use Rattle.run_answers.specs.Nodes.{head_of, IsNearBy}
use Rattle.run_laws.proofs.Sites.{all_both, in_nodes, parts, site_in}
use Rattle.run_laws.specs.Given.{MovesAreNear}
use Rattle.code_view.specs.Known.{IsLawfulTree}
use Rattle.value_facts.specs.Small.{AreSmall, EndInTime, IsSmall}
use Rattle.value_facts.proofs.Numbers.{conv_small}

pub integer_small : (v : Value) → IsSmall v → unsigned_abs (integer_of v) < 2 ^ 64
integer_small (Int z) h = h
integer_small (Ptr a prov) h = omega arith
integer_small (Fun a) h = omega arith
integer_small (Whole bs source) h = omega arith
integer_small Missing h = omega arith
integer_small Nothing h = omega arith

-- ---- sizes
limited_small : (x e : Extent) → limited x ≡ Some e → e.size ≤ 2 ^ 40
limited_small x e h = go (nat_le x.size (2 ^ 40)) refl h
  where
    go : (b : Bool) → nat_le x.size (2 ^ 40) ≡ b → (if b then Some x else None) ≡ Some e → e.size ≤ 2 ^ 40
    go true l h = let is : x ≡ e = cc in subst (λ (z : Extent). z.size ≤ 2 ^ 40) is (grind (arith, nat_tests, l))
    go false l h = absurd (cc)

repeated_small : (count : ℕ) (o : Option Extent) (e : Extent) → repeated count o ≡ Some e → e.size ≤ 2 ^ 40
repeated_small count None e h = absurd (cc)
repeated_small count (Some x) e h = limited_small _ e h

padded_small : (o : Option Extent) (e : Extent) → and_then o padded ≡ Some e → e.size ≤ 2 ^ 40
padded_small None e h = absurd (cc)
padded_small (Some x) e h = limited_small _ e h

any_small : (ms : List Member) (o : Option Extent) (e : Extent) → if_any ms (and_then o padded) ≡ Some e → e.size ≤ 2 ^ 40
any_small [] o e h = absurd (cc)
any_small (m ∷ ms) o e h = padded_small o e h

tag_small : (known : Known) (o : Option Tag) (e : Extent) → extent_of_tag known o ≡ Some e → e.size ≤ 2 ^ 40
tag_small known None e h = absurd (cc)
tag_small known (Some tag) e h = any_small tag.members (members_extent tag.kind known (Some no_members) tag.members) e h

known_small : (n : ℕ) (tags : List Tag) (tag : ℕ) (e : Extent) → known_by n tags tag ≡ Some e → e.size ≤ 2 ^ 40
known_small zero tags tag e h = absurd (cc)
known_small (suc n) tags tag e h = tag_small (known_by n tags) (slice_get tags tag) e h

kind_bytes : (kind : IntKind) → bytes kind ≤ 8
kind_bytes Boolean = omega arith
kind_bytes Char = omega arith
kind_bytes SChar = omega arith
kind_bytes UChar = omega arith
kind_bytes Short = omega arith
kind_bytes UShort = omega arith
kind_bytes Int_kind = omega arith
kind_bytes UInt = omega arith
kind_bytes Long = omega arith
kind_bytes ULong = omega arith
kind_bytes LLong = omega arith
kind_bytes ULLong = omega arith

some_size : (n : ℕ) (x e : Extent) → Some x ≡ Some e → x.size ≤ 8 → e.size ≤ 2 ^ 40
some_size n x e h l =
    let is : x ≡ e = cc in
    let same : x.size ≡ e.size = ap (λ (z : Extent). z.size) is in
    omega (arith, l, same)

extent_small : (tags : List Tag) (t : CType) (e : Extent) → extent (extents tags) t ≡ Some e → e.size ≤ 2 ^ 40
extent_small tags void e h = absurd (cc)
extent_small tags (int kind) e h = some_size 0 _ e h (kind_bytes kind)
extent_small tags (enumeration tag) e h = some_size 0 _ e h (kind_bytes Int_kind)
extent_small tags (pointer c t) e h = some_size 0 _ e h (omega arith)
extent_small tags (array c t None) e h = absurd (cc)
extent_small tags (array c t (Some count)) e h = repeated_small count (extent (extents tags) t) e h
extent_small tags (struct tag) e h = known_small (length tags) tags tag e h
extent_small tags (union tag) e h = known_small (length tags) tags tag e h
extent_small tags (function r ps v) e h = absurd (cc)

there_small : (o : Option Extent) (n : ℕ) → ((e : Extent) → o ≡ Some e → e.size ≤ 2 ^ 40) → There o (λ e. (0 < e.size) × (e.size ≡ n)) → n ≤ 2 ^ 40
there_small None n small h = absurd h
there_small (Some e) n small h = let l = small e refl in let is = h.1 in omega (arith, l, is)

steps_small : (tags : List Tag) (t : CType) (n : ℕ) → StepsOver tags t n → n ≤ 2 ^ 40
steps_small tags (pointer c t) n h = there_small (extent (extents tags) t) n (extent_small tags t) h
steps_small tags void n h = absurd h
steps_small tags (int kind) n h = absurd h
steps_small tags (enumeration tag) n h = absurd h
steps_small tags (array c t count) n h = absurd h
steps_small tags (struct tag) n h = absurd h
steps_small tags (union tag) n h = absurd h
steps_small tags (function r ps v) n h = absurd h

product_small : (a b : ℕ) → a ≤ 2 ^ 40 → b ≤ 2 ^ 64 → a * b ≤ 2 ^ 104
product_small a b h k = grind (arith, h, k)

near_small : (n : ℕ) (z : ℤ) → n ≤ 2 ^ 40 → unsigned_abs z < 2 ^ 64 → IsNear n z
near_small n z h k = let p = product_small n (unsigned_abs z) h (omega (arith, k)) in omega (arith, p)

-- ---- what is known beforehand
constant_small : (ty : CType) (z : ℤ) → IsConstant ty z → unsigned_abs z < 2 ^ 64
constant_small (int kind) z h = held_small kind z h
constant_small (enumeration tag) z h = held_small Int_kind z h
constant_small (pointer c t) z h = subst (λ (w : ℤ). unsigned_abs w < 2 ^ 64) (sym h) (omega arith)
constant_small void z h = absurd h
constant_small (array c t count) z h = absurd h
constant_small (struct tag) z h = absurd h
constant_small (union tag) z h = absurd h
constant_small (function r ps v) z h = absurd h

null_small : (ty : CType) → IsSmall (null_of ty)
null_small (function r ps v) = tt
null_small void = omega arith
null_small (int kind) = omega arith
null_small (enumeration tag) = omega arith
null_small (pointer c t) = omega arith
null_small (array c t count) = omega arith
null_small (struct tag) = omega arith
null_small (union tag) = omega arith

moved_small : (world : World) (offset : ℕ) (v : Value) → IsSmall v → IsSmall (moved_place world offset v)
moved_small world offset (Ptr a p) h = omega arith
moved_small world offset (Int z) h = h
moved_small world offset (Fun a) h = h
moved_small world offset (Whole bs source) h = h
moved_small world offset Missing h = h
moved_small world offset Nothing h = h

pub base_small : (rows : List Row) → EndInTime rows → (x : ObjName) → base_in (row_of rows x) < 2 ^ 64
base_small rows ends x = go (row_of rows x) refl
  where
    go : (o : Option Row) → row_of rows x ≡ o → base_in o < 2 ^ 64
    go None e = omega arith
    go (Some r) e = let l = ends x r e in omega (arith, l)

abbrev types_in : List Typed → List CType
types_in ts = map type_seen (map seen ts)

module _ (p : Program) (around : Blocks) (world : World) (f : Scene) (ends : EndInTime world.rows) where
  abbrev Fine : Site → Type 0
  Fine = SiteIsLawful p around

  abbrev Quiet : Typed → Type 0
  Quiet t = All Fine (sites t) → IsSmall (quiet_value world f (expr_of t))

  first_small : (ts : List Typed) → ((u : Typed) → size (order.tree_of u) ≤ sizes (trees_of ts) → Quiet u) → All Fine (all_sites (map seen ts))
      → IsSmall (first_quiet world f (exprs_of ts))
  first_small [] ih all = tt
  first_small (t ∷ ts) ih all = ih t (omega arith) (all_both Fine (sites t) (all_sites (map seen ts)) all).0

  number_small : (z : ℤ) (ty : CType) (line : ℕ) (es : Exprs) → unsigned_abs z < 2 ^ 64 → IsSmall (quiet_value world f (expr (constant_head z ty) ty line es))
  number_small z ty line es h = go (is_pointer ty && (unsigned_abs z == 0))
    where
      go : (b : Bool) → IsSmall (quiet_value world f (expr (if b then model.Null else model.Number z) ty line es))
      go true = null_small (target ty)
      go false = h

  value_small : (d : Node-F Node Typed) (ty : CType) (line : ℕ) (ts : List Typed) → Fine (site_in d ty ts) → IsSmall (first_quiet world f (exprs_of ts))
      → IsSmall (quiet_value world f (expr (head_in d ty) ty line (exprs_of ts)))
  value_small (shape.Const z) ty line [] fine first = number_small z ty line (exprs_of []) (constant_small ty z fine.types)
  value_small (shape.Const z) ty line (t ∷ ts) fine first = absurd (fine.types)
  value_small (shape.Obj s) ty line ts fine first = base_small world.rows ends (name_of world f s)
  value_small (shape.Str k) ty line ts fine first = base_small world.rows ends (object.Lit k)
  value_small (shape.Member offset) ty line ts fine first = moved_small world offset (first_quiet world f (exprs_of ts)) first
  value_small (shape.Conv (conversion.Integer kind)) ty line ts fine first = conv_small kind (integer_of (first_quiet world f (exprs_of ts)))
  value_small _ ty line ts fine first = tt

  quiet_small : (t : Typed) → Quiet t
  quiet_small = by_size Quiet (λ t ih all.
      let s = parts Fine t all in
      subst (λ (z : Expr). IsSmall (quiet_value world f z)) (sym (expr_at t))
      (value_small (node_in t) (own_type t) (out-Typed t).line (operands_in t) s.0 (first_small (operands_in t) ih s.1)))

  -- ---- the values of operands
  pub given_small : (given : Place → Option Value) → AreSmall given → (u : Place) → IsSmall (or_nothing (given u))
  given_small given small u = go (given u) refl
    where
      go : (o : Option Value) → given u ≡ o → IsSmall (or_nothing o)
      go None e = tt
      go (Some v) e = small u v e

  pub values_small : (given : Place → Option Value) → AreSmall given → (ts : List Typed) → All Fine (all_sites (map seen ts)) → (k i : ℕ)
      → IsSmall (value_at (values_of world f given k (exprs_of ts)) i)
  values_small given small [] all k i = tt
  values_small given small (t ∷ ts) all k zero = go (is_quiet (tree_of (expr_of t)))
    where
      go : (b : Bool) → IsSmall (if b then quiet_value world f (expr_of t) else or_nothing (given (place k Val)))
      go true = quiet_small t (all_both Fine (sites t) (all_sites (map seen ts)) all).0
      go false = given_small given small (place k Val)
  values_small given small (t ∷ ts) all k (suc i) =
      values_small given small ts (all_both Fine (sites t) (all_sites (map seen ts)) all).1 (k + size (tree_of (expr_of t))) i

  -- ---- each node
  move_two : (n : ℕ) (subtract : Bool) (own s index : CType) → TypesAre p around (shape.PtrAdd n subtract) own (s ∷ index ∷ []) → n ≤ 2 ^ 40
  move_two n subtract own (pointer c s) index h = steps_small p.tags (pointer c s) n h.0
  move_two n subtract own void index h = absurd h
  move_two n subtract own (int kind) index h = absurd h
  move_two n subtract own (enumeration tag) index h = absurd h
  move_two n subtract own (array c s count) index h = absurd h
  move_two n subtract own (struct tag) index h = absurd h
  move_two n subtract own (union tag) index h = absurd h
  move_two n subtract own (function r ps v) index h = absurd h

  none_one : (n : ℕ) (subtract : Bool) (own s : CType) → TypesAre p around (shape.PtrAdd n subtract) own (s ∷ []) → ⊥
  none_one n subtract own (pointer c s) h = h
  none_one n subtract own void h = h
  none_one n subtract own (int kind) h = h
  none_one n subtract own (enumeration tag) h = h
  none_one n subtract own (array c s count) h = h
  none_one n subtract own (struct tag) h = h
  none_one n subtract own (union tag) h = h
  none_one n subtract own (function r ps v) h = h

  none_three : (n : ℕ) (subtract : Bool) (own s index x : CType) (xs : List CType)
      → TypesAre p around (shape.PtrAdd n subtract) own (s ∷ index ∷ x ∷ xs) → ⊥
  none_three n subtract own (pointer c s) index x xs h = h
  none_three n subtract own void index x xs h = h
  none_three n subtract own (int kind) index x xs h = h
  none_three n subtract own (enumeration tag) index x xs h = h
  none_three n subtract own (array c s count) index x xs h = h
  none_three n subtract own (struct tag) index x xs h = h
  none_three n subtract own (union tag) index x xs h = h
  none_three n subtract own (function r ps v) index x xs h = h

  move_steps : (n : ℕ) (subtract : Bool) (own : CType) (ss : List CType) → TypesAre p around (shape.PtrAdd n subtract) own ss → n ≤ 2 ^ 40
  move_steps n subtract own [] h = absurd h
  move_steps n subtract own (s ∷ []) h = absurd (none_one n subtract own s h)
  move_steps n subtract own (s ∷ index ∷ []) h = move_two n subtract own s index h
  move_steps n subtract own (s ∷ index ∷ x ∷ xs) h = absurd (none_three n subtract own s index x xs h)

  change_steps : (n : ℕ) (subtract : Bool) (t : CType) (rest : List CType) → UpdateTypes p.tags (change.Pointer n subtract) t rest → n ≤ 2 ^ 40
  change_steps n subtract t [] h = steps_small p.tags t n h
  change_steps n subtract t (index ∷ []) h = steps_small p.tags t n h.0
  change_steps n subtract t (index ∷ x ∷ xs) h = absurd h

  update_steps : (n : ℕ) (subtract old : Bool) (own : CType) (ss : List CType) → TypesAre p around (shape.Update (change.Pointer n subtract) old) own ss
      → n ≤ 2 ^ 40
  update_steps n subtract old own [] h = absurd h
  update_steps n subtract old own (pointer c t ∷ rest) h = change_steps n subtract t rest h.2
  update_steps n subtract old own (void ∷ rest) h = absurd h
  update_steps n subtract old own (int kind ∷ rest) h = absurd h
  update_steps n subtract old own (enumeration tag ∷ rest) h = absurd h
  update_steps n subtract old own (array c t count ∷ rest) h = absurd h
  update_steps n subtract old own (struct tag ∷ rest) h = absurd h
  update_steps n subtract old own (union tag ∷ rest) h = absurd h
  update_steps n subtract old own (function r ps v ∷ rest) h = absurd h

  amount_small : (old : Bool) (vs : List Value) → ((i : ℕ) → IsSmall (value_at vs i)) → unsigned_abs (amount old vs) < 2 ^ 64
  amount_small true vs small = omega arith
  amount_small false vs small = integer_small (value_at vs 1) (small 1)

  near_node : (d : Node-F Node Typed) (ty : CType) (ts : List Typed) (vs : List Value) → Fine (site_in d ty ts)
      → ((i : ℕ) → IsSmall (value_at vs i)) → IsNearBy (head_in d ty) vs
  near_node (shape.PtrAdd n subtract) ty ts vs fine small =
      near_small n (integer_of (value_at vs 1)) (move_steps n subtract ty (types_in ts) fine.types) (integer_small (value_at vs 1) (small 1))
  near_node (shape.Update (change.Integer op kind work) old) ty ts vs fine small = tt
  near_node (shape.Update (change.Pointer n subtract) old) ty ts vs fine small =
      near_small n (amount old vs) (update_steps n subtract old ty (types_in ts) fine.types) (amount_small old vs small)
  near_node (shape.Const z) ty ts vs fine small = go (is_pointer ty && (unsigned_abs z == 0))
    where
      go : (b : Bool) → IsNearBy (if b then model.Null else model.Number z) vs
      go true = tt
      go false = tt
  near_node _ ty ts vs fine small = tt

-- the values of the operands of a node of a lawful tree are small
pub operands_small : (p : Program) (world : World) (f : Scene) (given : Place → Option Value) (firsts : List ℕ) (root : Typed) (nodes : List NodeInfo)
    (i k : ℕ) (x : NodeInfo) → IsLawfulTree p root → AreNodes firsts root nodes → slice_get nodes i ≡ Some x → EndInTime world.rows → AreSmall given
    → (j : ℕ) → IsSmall (value_at (values_of world f given k (exprs_of (operands_in x.tree.now))) j)
operands_small p world f given firsts root nodes i k x lawful are at ends small j =
    let Q = SiteIsLawful p lawful.0 in
    let t = x.tree.now in
    values_small p lawful.0 world f ends given small (operands_in t) (parts Q t (in_nodes Q firsts root nodes i x are lawful.1 at)).1 k j

pub moves_are_near : MovesAreNear
moves_are_near p world f given firsts root nodes i k x lawful are at ends small =
    let Q = SiteIsLawful p lawful.0 in
    let t = x.tree.now in
    let s = parts Q t (in_nodes Q firsts root nodes i x are lawful.1 at) in
    let vs = values_of world f given k (exprs_of (operands_in t)) in
    subst (λ (z : Expr). IsNearBy (head_of z) vs) (sym (expr_at t))
    (near_node p lawful.0 world f ends (node_in t) (own_type t) (operands_in t) vs s.0 (values_small p lawful.0 world f ends given small (operands_in t) s.1 k))
