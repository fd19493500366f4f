-- What a full expression of a lawful program names is there, where the blocks of its automatic objects are open.
use Rattle.std.proofs.Common.{arith, ◌≡◌, ◌+◌, ◌<◌, ◌≤◌, ℕ, zero, suc, ◌==◌, ◌||◌, Bool, true, false, if◌then◌else◌, List, [], ◌∷◌, ◌++◌, map, length}
use Rattle.std.proofs.Common.{Option, Some, None, slice_get, ℤ, refl, sym, ap, subst, ◌∙◌}
use Rattle.std.specs.List.{All}
use Rattle.std.specs.Prelude.{IsSome, is_some, ◌&&◌, unsigned_abs}
use Rattle.std.proofs.lemmas.Bool.Decides.{nat_tests}
use Rattle.std.proofs.lemmas.List.{length-map}
use Rattle.std.proofs.lemmas.List.Elements.{All-nil, All-cons, All-head}
use Rattle.ub_base.specs.declared.names.ObjName.{ObjName}
use Rattle.ub_base.specs.declared.names.ObjName.TheVariants as object
use Rattle.ub_base.specs.Names.{same_object}
use Rattle.addr_map.specs.declared.map.Row.{Row}
use Rattle.addr_map.specs.Rows.{row_of}
use Rattle.addr_map.specs.Sound.{Above}
use Rattle.exposure.specs.declared.prov.Prov.TheVariants.{Whole}
use Rattle.c_types.specs.Types.{CType, pointer}
use Rattle.c_typed.specs.declared.class.Class.{Class}
use Rattle.c_typed.specs.declared.class.Class.TheVariants as class
use Rattle.c_typed.specs.declared.program.Static.{Static}
use Rattle.c_typed.specs.declared.tree.Conversion.TheVariants as conversion
use Rattle.c_typed.specs.declared.tree.Node.{Node, fold-Node}
use Rattle.c_typed.specs.declared.tree.Node.TheOpen as shape
use Rattle.c_typed.specs.declared.tree.Node.TheOpen.{Node-F}
use Rattle.c_typed.specs.declared.tree.Slot.{Slot}
use Rattle.c_typed.specs.declared.tree.Slot.TheVariants as slot
use Rattle.c_typed.specs.declared.tree.Typed.{Typed, out-Typed, fold_out-Typed}
use Rattle.c_typed.specs.Lawful.{IsInteger, IsConstant, CountIs, SiteIsLawful, NamesThere, object_at, object_of_static}
use Rattle.c_typed.specs.Sites.{Head, Site, Blocks, Seen, SeenNode, seen_node, seen_tree, type_seen, all_sites, seen, sites, type_at}
use Rattle.c_typed.specs.Tree as order
use Rattle.c_typed.specs.Tree.{is_quiet, is_quiet_class, member_class, class_of, size, sizes, trees_of}
use Rattle.mem_spec.specs.Acts.{base_in}
use Rattle.mem_spec.specs.Store.{Store}
use Rattle.mem_objects.specs.Keeps.{RowsStay}
use Rattle.mem_objects.specs.Made.{IsMade}
use Rattle.mem_objects.specs.Memory.{Kept}
use Rattle.mem_objects.specs.Sound.{IsSound}
use Rattle.c_model.specs.Program as model
use Rattle.c_model.specs.Program.{Expr, expr, Exprs, tree_of}
use Rattle.c_model.specs.Steps.{Scene, auto_name, name_of, turn_of}
use Rattle.c_model.specs.World.{World}
use Rattle.program_view.specs.Trees.{expr_of, exprs_of, constant_head, is_pointer}
use Rattle.program_view.proofs.Seen.{node_in, operands_in, own_type, head_in, expr_at, by_size}
use Rattle.run_values.specs.Contents.{StandsAt}
use Rattle.run_values.proofs.Placed.{all_at}
use Rattle.run_layout.specs.declared.steps.BlockCode.{BlockCode}
use Rattle.run_layout.specs.EventActs.{head_at}
use Rattle.run_state.specs.declared.machine.Machine.{Machine}
use Rattle.run_state.specs.Operands.{StandsObjects, is_open, IsThere, is_integer, IsNamed}
use Rattle.run_state.specs.Stands.{StandsMemory, StandLocals}
use Rattle.code_view.specs.Known.{IsPlaced, NamedIsPlaced}
use Rattle.code_view.specs.Named.{SlotIsOpen, NamedIsOpen, ListIsThere, NodeIsNamed, OpenIsPlaced, OpenIsKnown, OpenIsNamed, OpenRootIsNamed}
use Rattle.code_view.proofs.Viewed.{all_both}
use Rattle.code_view.proofs.Whole.{both_give}
use Rattle.code_view.proofs.Known.{trees_lawful, code_known, no_integer, there_pointer, function_pointer, member_pointer}
use Rattle.code_view.proofs.Parts.{type_in, site_in, parts, in_nodes}

-- ---- an object that was created stands
row_above : (n : ℕ) (rows : List Row) (x : ObjName) (r : Row) → Above n rows → row_of rows x ≡ Some r → n ≤ r.base
row_above n [] x r h e = absurd (cc)
row_above n (s ∷ rows) x r h e = go (same_object s.name x) e (row_above n rows x r h.1)
  where
    go : (b : Bool) → (if b then Some s else row_of rows x) ≡ Some r → (row_of rows x ≡ Some r → n ≤ r.base) → n ≤ r.base
    go true e rest = let is : s ≡ r = cc in subst (λ (z : Row). n ≤ z.base) is h.0
    go false e rest = rest e

module _ (world : World) (m : Kept) (high : Above 16777216 m.rows) (stay : RowsStay m.rows world.rows) where
  row_placed : (x : ObjName) (r : Row) → row_of m.rows x ≡ Some r → IsPlaced world x
  row_placed x r e =
      let low = row_above 16777216 m.rows x r high e in
      let base : base_in (row_of world.rows x) ≡ r.base = ap base_in (stay x r e) in
      omega (arith, low, base)

  some_placed : (x : ObjName) → is_some (row_of m.rows x) ≡ true → IsPlaced world x
  some_placed x h = go (row_of m.rows x) refl h
    where
      go : (o : Option Row) → row_of m.rows x ≡ o → is_some o ≡ true → IsPlaced world x
      go None e h = absurd (cc)
      go (Some r) e h = row_placed x r e

  made_placed : (x : ObjName) → IsSound m → IsMade m (Whole x) → IsPlaced world x
  made_placed x sound made = some_placed x (sound.rowed x made)

  at_placed : (x : ObjName) (addresses : List ℕ) (k : ℕ) → StandsAt m x addresses k → IsPlaced world x
  at_placed x addresses k there = row_placed x there.2.row there.2.named

same : (a b : ℕ) → (a == b) ≡ true → a ≡ b
same a b h = grind (arith, nat_tests, h)

-- the objects of a block that is open were made
module _ (world : World) (m : Machine) (f : Scene) (block k : ℕ) (code : BlockCode)
    (at : slice_get m.image.code.now.tables.blocks.items (m.top.blocks + block) ≡ Some code) (less : k < code.objects.count) where
  abbrev MadeAt : ℕ → Type 0
  MadeAt turn = IsMade m.memory (Whole (auto_name world f turn k))

  local_made : (bs : List (ℕ × ℕ)) → StandLocals world m m.top f bs → is_open bs block ≡ true → MadeAt (turn_of bs block)
  local_made [] all h = absurd (cc)
  local_made (b ∷ bs) all h = go (b.0 == block) refl h (λ g. local_made bs all.1 g)
    where
      own : (c : BlockCode) → slice_get m.image.code.now.tables.blocks.items (m.top.blocks + b.0) ≡ Some c → b.0 ≡ block → code ≡ c
      own c there e =
          let both : Some code ≡ Some c = sym at ∙ (ap (λ (j : ℕ). slice_get m.image.code.now.tables.blocks.items (m.top.blocks + j)) (sym e) ∙ there) in
          cc

      first : b.0 ≡ block → MadeAt b.1
      first e =
          let c = all.0.0 in
          let is = own c all.0.1 e in
          let less' : k < c.objects.count = subst (λ (z : BlockCode). k < z.objects.count) is less in
          (all.0.2 k less').1

      go : (c : Bool) → (b.0 == block) ≡ c → (c || is_open bs block) ≡ true → (is_open bs block ≡ true → MadeAt (turn_of bs block))
          → MadeAt (if c then b.1 else turn_of bs block)
      go true e h next = first (same b.0 block e)
      go false e h next = next h

static_within : (xs : List Static) (k : ℕ) → IsSome (object_of_static (slice_get xs k)) → k < length xs
static_within [] k h = absurd (cc)
static_within (x ∷ xs) zero h = omega arith
static_within (x ∷ xs) (suc k) h = let l = static_within xs k h in omega (arith, l)

over_quiet : (b : Bool) → is_quiet_class (if b then class.Constant else class.Plain) ≡ true → b ≡ true
over_quiet true h = refl
over_quiet false h = absurd (cc)

member_quiet : (c : Class) → is_quiet_class (member_class (Some c)) ≡ true → is_quiet_class c ≡ true
member_quiet class.Object h = refl
member_quiet class.Constant h = refl
member_quiet class.Plain h = absurd (cc)
member_quiet class.Store h = absurd (cc)
member_quiet class.Update h = absurd (cc)
member_quiet class.Choice h = absurd (cc)
member_quiet class.Comma h = absurd (cc)
member_quiet class.Call h = absurd (cc)
member_quiet class.Isolated h = absurd (cc)

module _ (around : Blocks) (m : Machine) (firsts : List ℕ) (open_blocks : List (ℕ × ℕ)) where
  abbrev Fine : Site → Type 0
  Fine s = SiteIsLawful m.program.now around s × NamedIsOpen m firsts open_blocks s.head

  slot_there : (s : Slot) → IsSome (object_at m.program.now around s) → SlotIsOpen m firsts open_blocks s → IsThere m firsts open_blocks s
  slot_there (slot.Static k) there is = static_within m.program.now.statics k there
  slot_there (slot.Auto block decl) there is = is

  -- ---- objects stand
  slot_placed : (world : World) (f : Scene) (s : Store) → StandsMemory world m.memory m.streams s → StandsObjects world m f → f.blocks ≡ open_blocks
      → (x : Slot) → IsThere m firsts open_blocks x → IsPlaced world (name_of world f x)
  slot_placed world f s memory objects same_blocks (slot.Static k) there =
      let count = objects.places.objects.count in
      at_placed world m.memory memory.high memory.rows (object.Static k) m.places.objects k
      (all_at m.memory (λ j. object.Static j) 0 k m.places.objects k (omega arith) (omega (arith, count, there)) objects.places.objects.stand)
  slot_placed world f s memory objects same_blocks (slot.Auto block decl) there =
      made_placed world m.memory memory.high memory.rows (auto_name world f (turn_of f.blocks block) decl) memory.sound
      (local_made world m f block decl there.0 there.1 there.3 f.blocks objects.locals (ap (λ bs. is_open bs block) same_blocks ∙ there.5))

  head_placed : (world : World) (f : Scene) (s : Store) → StandsMemory world m.memory m.streams s → StandsObjects world m f → f.blocks ≡ open_blocks
      → (x : Site) → Fine x → NamedIsPlaced world f x.head
  head_placed world f s memory objects same_blocks x fine = by_head x.head fine.0.names fine.1
    where
      by_head : (h : Head) → NamesThere m.program.now around h → NamedIsOpen m firsts open_blocks h → NamedIsPlaced world f h
      by_head (shape.Obj named) there is = slot_placed world f s memory objects same_blocks named (slot_there named there is)
      by_head (shape.Str k) there is =
          let count = objects.places.literals.count in
          at_placed world m.memory memory.high memory.rows (object.Lit k) m.places.literals k
          (all_at m.memory (λ j. object.Lit j) 0 k m.places.literals k (omega arith) (omega (arith, count, there)) objects.places.literals.stand)
      by_head _ there is = tt

  -- ---- what is known beforehand is named
  abbrev IntegerAt : CType → Expr → Type 0
  IntegerAt ty e = is_quiet (tree_of e) ≡ true → IsInteger ty → is_integer e ≡ true

  abbrev NamedAt : Expr → Type 0
  NamedAt e = is_quiet (tree_of e) ≡ true → IsNamed m firsts open_blocks e

  abbrev Both : Typed → Type 0
  Both t = NamedAt (expr_of t) × IntegerAt (type_at t) (expr_of t)

  abbrev FirstBoth : List Typed → Type 0
  FirstBoth [] = Unit {0}
  FirstBoth (t ∷ ts) = Both t

  constant_integer : (z : ℤ) (ty : CType) (line : ℕ) (es : Exprs) → IntegerAt ty (expr (constant_head z ty) ty line es)
  constant_integer z (pointer c t) line es = λ q is. absurd (no_integer (pointer c t) tt is)
  constant_integer z _ line es = λ q is. refl

  integer_opened : (d : Node-F Node Typed) (ty : CType) (line : ℕ) (ts : List Typed) → Fine (site_in d ty ts) → FirstBoth ts
      → IntegerAt ty (expr (head_in d ty) ty line (exprs_of ts))
  integer_opened (shape.Const z) ty line ts fine first q is = constant_integer z ty line (exprs_of ts) q is
  integer_opened (shape.Obj s) ty line [] fine first q is = absurd (no_integer ty (there_pointer ty _ _ fine.0.types) is)
  integer_opened (shape.Obj s) ty line (t ∷ ts) fine first q is = absurd (fine.0.types)
  integer_opened (shape.Func k) ty line [] fine first q is = absurd (no_integer ty (function_pointer _ ty fine.0.types) is)
  integer_opened (shape.Func k) ty line (t ∷ ts) fine first q is = absurd (fine.0.types)
  integer_opened (shape.Str k) ty line [] fine first q is = absurd (no_integer ty (there_pointer ty _ _ fine.0.types) is)
  integer_opened (shape.Str k) ty line (t ∷ ts) fine first q is = absurd (fine.0.types)
  integer_opened (shape.Member offset) ty line [] fine first q is = absurd (cc)
  integer_opened (shape.Member offset) ty line (t ∷ []) fine first q is =
      absurd (no_integer ty (member_pointer m.program.now.tags offset ty (type_at t) fine.0.types) is)
  integer_opened (shape.Member offset) ty line (t ∷ u ∷ ts) fine first q is = absurd (fine.0.types)
  integer_opened (shape.Conv (conversion.Integer kind)) ty line [] fine first q is = absurd (cc)
  integer_opened (shape.Conv (conversion.Integer kind)) ty line (t ∷ []) fine first q is =
      first.1 (over_quiet (is_quiet_class (class_of (tree_of (expr_of t)))) q) fine.0.types.0.0
  integer_opened (shape.Conv (conversion.Integer kind)) ty line (t ∷ u ∷ ts) fine first q is = absurd (fine.0.types)
  integer_opened _ ty line ts fine first q is = absurd (cc)

  constant_named : (z : ℤ) (ty : CType) (line : ℕ) (es : Exprs) → IsConstant ty z → IsNamed m firsts open_blocks (expr (constant_head z ty) ty line es)
  constant_named z (pointer c t) line es h =
      subst (λ (w : ℤ). IsNamed m firsts open_blocks (expr (constant_head w (pointer c t)) (pointer c t) line es)) (sym h) tt
  constant_named z _ line es h = refl

  named_opened : (d : Node-F Node Typed) (ty : CType) (line : ℕ) (ts : List Typed) → Fine (site_in d ty ts) → FirstBoth ts
      → NamedAt (expr (head_in d ty) ty line (exprs_of ts))
  named_opened (shape.Const z) ty line [] fine first q = constant_named z ty line (exprs_of []) fine.0.types
  named_opened (shape.Const z) ty line (t ∷ ts) fine first q = absurd (fine.0.types)
  named_opened (shape.Obj s) ty line ts fine first q = slot_there s fine.0.names fine.1
  named_opened (shape.Func k) ty line ts fine first q = tt
  named_opened (shape.Str k) ty line ts fine first q = fine.0.names
  named_opened (shape.Member offset) ty line [] fine first q = tt
  named_opened (shape.Member offset) ty line (t ∷ ts) fine first q = first.0 (member_quiet (class_of (tree_of (expr_of t))) q)
  named_opened (shape.Conv (conversion.Integer kind)) ty line [] fine first q = absurd (cc)
  named_opened (shape.Conv (conversion.Integer kind)) ty line (t ∷ []) fine first q =
      first.1 (over_quiet (is_quiet_class (class_of (tree_of (expr_of t)))) q) fine.0.types.0.0
  named_opened (shape.Conv (conversion.Integer kind)) ty line (t ∷ u ∷ ts) fine first q = absurd (fine.0.types)
  named_opened _ ty line ts fine first q = absurd (cc)

  abbrev Names : Typed → Type 0
  Names t = All Fine (sites t) → Both t

  first_named : (ts : List Typed) → ((u : Typed) → size (order.tree_of u) ≤ sizes (trees_of ts) → Names u) → All Fine (all_sites (map seen ts))
      → FirstBoth ts
  first_named [] ih all = tt
  first_named (t ∷ ts) ih all = ih t (omega arith) (all_both Fine (sites t) (all_sites (map seen ts)) all).0

  names : (t : Typed) → Names t
  names = by_size Names (λ t ih all.
      let s = parts Fine t all in
      let first = first_named (operands_in t) ih s.1 in
      let line = (out-Typed t).line in (
        subst NamedAt (sym (expr_at t)) (named_opened (node_in t) (own_type t) line (operands_in t) s.0 first),
        subst (IntegerAt (type_at t)) (sym (expr_at t))
            (subst (λ ty. IntegerAt ty (expr (head_in (node_in t) (own_type t)) (own_type t) line (exprs_of (operands_in t)))) (sym (type_in t))
            (integer_opened (node_in t) (own_type t) line (operands_in t) s.0 first)),
      ))

  -- ---- each node
  all_named : (ts : List Typed) → All Fine (all_sites (map seen ts)) → All (λ o. NamedAt (expr_of o)) ts
  all_named [] all = All-nil (λ o. NamedAt (expr_of o))
  all_named (t ∷ ts) all =
      let s = all_both Fine (sites t) (all_sites (map seen ts)) all in
      All-cons (λ o. NamedAt (expr_of o)) t ts (names t s.0).0 (all_named ts s.1)

  list_opened : (d : Node-F Node Typed) (ty : CType) (line : ℕ) (ts : List Typed) → Fine (site_in d ty ts)
      → ListIsThere m firsts open_blocks (expr (head_in d ty) ty line (exprs_of ts))
  list_opened (shape.List named bytes) ty line ts fine = slot_there named fine.0.names fine.1
  list_opened (shape.Const z) ty line ts fine = go (is_pointer ty && (unsigned_abs z == 0))
    where
      go : (b : Bool) → ListIsThere m firsts open_blocks
          (expr (if b then model.Null else model.Number z) ty line (exprs_of ts))
      go true = tt
      go false = tt
  list_opened _ ty line ts fine = tt

  abbrev site_by : Typed → SeenNode → Site
  site_by t n = record { head = n.head; ty = own_type t; operands = map type_seen (map seen (operands_in t)) }

  count_in : (t : Typed) → All Fine (sites t) → CountIs (head_at (out-Typed t).node) (length (out-Typed t).children)
  count_in t all =
      let ts = (out-Typed t).children in
      let n = fold-Node SeenNode Seen seen_node seen_tree (out-Typed t).node in
      let there : All Fine (site_by t n ∷ (n.inner ++ all_sites (map seen ts))) =
      subst (λ (s : Seen). All Fine s.sites) (fold_out-Typed SeenNode Seen seen_node seen_tree t) all in
      subst (CountIs (head_at (out-Typed t).node)) (length-map (map seen ts) type_seen ∙ length-map ts seen)
      (All-head Fine (site_by t n) (n.inner ++ all_sites (map seen ts)) there).0.operands

  node_named : (t : Typed) → All Fine (sites t) → NodeIsNamed m firsts open_blocks t
  node_named t all =
      let s = parts Fine t all in
      record {
        counts = count_in t all;
        operands = all_named (operands_in t) s.1;
        list = subst (ListIsThere m firsts open_blocks) (sym (expr_at t)) (list_opened (node_in t) (own_type t) (out-Typed t).line (operands_in t) s.0);
      }

pub open_placed : OpenIsPlaced
open_placed world m f s firsts n laid lawful order at memory objects is =
    let t = laid.root.now in
    let p = m.program.now in
    let h = trees_lawful p m.image.code.now n laid lawful order at in
    both_give (SiteIsLawful p h.0) (λ x. NamedIsOpen m firsts f.blocks x.head) (λ x. NamedIsPlaced world f x.head)
    (λ x l o. head_placed h.0 m firsts f.blocks world f s memory objects refl x (l, o)) (sites t) h.1 is

pub open_known : OpenIsKnown
open_known world m f s firsts n laid lawful order at memory objects is =
    code_known m.program.now m.image.code.now world f firsts n laid lawful order at (open_placed world m f s firsts n laid lawful order at memory objects is)

pub open_named : OpenIsNamed
open_named m firsts open_blocks nodes n laid i x lawful order at are is node_at =
    let t = laid.root.now in
    let p = m.program.now in
    let h = trees_lawful p m.image.code.now n laid lawful order at in
    let fine =
    both_give (SiteIsLawful p h.0) (λ y. NamedIsOpen m firsts open_blocks y.head) (Fine h.0 m firsts open_blocks) (λ y l o. (l, o)) (sites t) h.1 is in
    node_named h.0 m firsts open_blocks x.tree.now (in_nodes (Fine h.0 m firsts open_blocks) firsts t nodes i x are fine node_at)

pub open_root_named : OpenRootIsNamed
open_root_named m firsts open_blocks n laid lawful order at is quiet =
    let t = laid.root.now in
    let p = m.program.now in
    let h = trees_lawful p m.image.code.now n laid lawful order at in
    let fine =
    both_give (SiteIsLawful p h.0) (λ y. NamedIsOpen m firsts open_blocks y.head) (Fine h.0 m firsts open_blocks) (λ y l o. (l, o)) (sites t) h.1 is in
    (names h.0 m firsts open_blocks t fine).0 quiet
