-- The blocks of a lawful program as the code has them.
use Rattle.std.proofs.Common.{
  rules,
  arith,
  ◌≡◌,
  ℕ,
  zero,
  suc,
  ◌+◌,
  ◌^◌,
  ◌<◌,
  ◌≤◌,
  Bool,
  true,
  false,
  List,
  [],
  ◌∷◌,
  length,
  map,
  take,
  drop,
  Option,
  Some,
  None,
}
use Rattle.std.proofs.Common.{slice_get, min, max, refl, sym, ap, ap₂, subst, ◌∙◌}
use Rattle.std.specs.Prelude.{◌||◌}
use Rattle.std.proofs.lemmas.List.{length-drop, length-map, length-take}
use Rattle.std.proofs.lemmas.Option.{slice_get_within}
use Rattle.c_types.specs.declared.tags.Extent.{Extent}
use Rattle.c_types.specs.declared.tags.Tag.{Tag}
use Rattle.c_types.specs.Layout.{extent, extents}
use Rattle.c_types.specs.Types.{CType, void, int, enumeration, pointer, array, struct, union, function, Qualified}
use Rattle.c_typed.specs.declared.tree.Access.TheVariants as access
use Rattle.c_typed.specs.declared.program.Function.{Function}
use Rattle.c_typed.specs.declared.program.Program.{Program}
use Rattle.c_typed.specs.declared.statement.Block.{Block}
use Rattle.c_typed.specs.declared.statement.Body.{Body}
use Rattle.c_typed.specs.declared.tree.Typed.{Typed}
use Rattle.c_types.specs.declared.ty.FuncTy.{out-FuncTy}
use Rattle.elaborate.specs.Expressions.{block_trees, own_trees}
use Rattle.c_typed.specs.declared.statement.Body.TheFolds as typed
use Rattle.c_typed.specs.declared.statement.Body.TheVariants as body
use Rattle.c_typed.specs.Sites.{BlockRow, summary}
use Rattle.c_model.specs.Program.{Decl}
use Rattle.c_model.specs.Runs.{created_after}
use Rattle.program_view.specs.Objects as view
use Rattle.program_view.specs.Objects.{decl_of}
use Rattle.run_objects.specs.Extents.{extent_of, extent_or_byte, has_constant_elements}
use Rattle.run_layout.specs.declared.expressions.Laid.{Laid}
use Rattle.run_layout.specs.declared.steps.BlockCode.{BlockCode}
use Rattle.run_layout.specs.declared.steps.FunctionCode.{FunctionCode}
use Rattle.run_layout.specs.declared.steps.ObjectCode.{ObjectCode}
use Rattle.run_layout.specs.declared.steps.Range.{Range}
use Rattle.run_layout.specs.declared.tables.Tables.{Tables}
use Rattle.run_layout.specs.Blocks.{AreBlocksFrom, AreObjectsFrom, IsBlockAt, IsBlockOf, IsObjectAt, IsObjectOf}
use Rattle.run_layout.specs.Blocks.{access_by, counted_by, firsts_from, objects_in, pointer_access, rows_of, rows_of_block}
use Rattle.run_layout.specs.Functions.{HasBlocks, laid_in}
use Rattle.run_layout.specs.Initializers.{HaveNumbers}
use Rattle.run_layout.proofs.Followed.{initializers_numbered, initializers_within}
use Rattle.run_layout.proofs.InTurn.{expression_at}
use Rattle.run_layout.specs.InRange.{IsBlock, part_of}
use Rattle.code_view.specs.Blocks.{BlocksStandInCode, ExpressionsStandInCode, OpenBlocksAreThere}
use Rattle.code_view.specs.Blocks.{HasBlockAt, Made, StandsBlock, StandsObject, made_by, made_of, taken_at}
use Rattle.code_view.specs.Numbering.{body_decls, decls_in, function_decls, row_decls}
use Rattle.code_view.proofs.Whole.{body_there, each_at}

same_some : {A : Type 0} (o : Option A) (x y : A) → o ≡ Some x → o ≡ Some y → x ≡ y
same_some o x y e f = cc

-- the blocks of a body that is a block
of_block : (b : Block) → rows_of (body.Block b) ≡ rows_of_block b
of_block b = search (rules, typed.the_lemmas)

-- ---- an object
extent_as : (o : Option Extent) → extent_or_byte o ≡ view.extent_or_byte o
extent_as None = refl
extent_as (Some e) = refl

extent_same : (tags : List Tag) (ty : CType) → extent_of tags ty ≡ view.object_extent tags ty
extent_same tags ty = extent_as (extent (extents tags) ty)

constant_same : (c : Bool) (ty : CType) → (c || has_constant_elements ty) ≡ view.is_constant c ty
constant_same true ty = refl
constant_same false void = refl
constant_same false (int kind) = refl
constant_same false (enumeration tag) = refl
constant_same false (pointer c ty) = refl
constant_same false (array c ty count) = constant_same c ty
constant_same false (struct tag) = refl
constant_same false (union tag) = refl
constant_same false (function r ps v) = refl

pointer_same : (ty : CType) → pointer_access ty ≡ view.pointer_access ty
pointer_same void = refl
pointer_same (int kind) = refl
pointer_same (enumeration tag) = refl
pointer_same (pointer c ty) = refl
pointer_same (array c ty count) = refl
pointer_same (struct tag) = refl
pointer_same (union tag) = refl
pointer_same (function r ps v) = refl

whole_same : (tags : List Tag) (ty : CType) → access.Whole (extent_of tags ty).size (extent_of tags ty).align
    ≡ access.Whole (view.object_extent tags ty).size (view.object_extent tags ty).align
whole_same tags ty = ap (λ (e : Extent). access.Whole e.size e.align) (extent_same tags ty)

access_same : (tags : List Tag) (ty : CType) → access_by tags ty ≡ view.access_of tags ty
access_same tags void = whole_same tags void
access_same tags (int kind) = refl
access_same tags (enumeration tag) = refl
access_same tags (pointer c ty) = pointer_same ty
access_same tags (array c ty count) = whole_same tags (array c ty count)
access_same tags (struct tag) = whole_same tags (struct tag)
access_same tags (union tag) = whole_same tags (union tag)
access_same tags (function r ps v) = whole_same tags (function r ps v)

object_stands : (tags : List Tag) (tables : Tables) (q : Qualified) (o : ObjectCode) → IsObjectOf tags tables.stores.items q o →
    StandsObject tables (decl_of tags q) o
object_stands tags tables q o h =
    let extent = extent_same tags q.ty in record {
      made = same_made (made_of o) (made_by (decl_of tags q)) (h.size ∙ ap (λ (e : Extent). e.size) extent) (h.align ∙ ap (λ (e : Extent). e.align) extent)
          (h.constant ∙ constant_same q.constant q.ty) h.form;
      by = h.by;
      at = h.at;
      access = h.access ∙ access_same tags q.ty;
      initializing = h.initializing;
      ty = h.ty;
    }
  where
    same_made : (a b : Made) → a.size ≡ b.size → a.align ≡ b.align → a.constant ≡ b.constant → a.form ≡ b.form → a ≡ b
    same_made a b e f g h = λ i. record { size = e i; align = f i; constant = g i; form = h i }

-- ---- the objects of a block
objects_at : (tags : List Tag) (t : Tables) (at k : ℕ) (qs : List Qualified) (q : Qualified) → AreObjectsFrom tags t at qs → slice_get qs k ≡ Some q →
    IsObjectAt tags t (at + k) q
objects_at tags t at zero [] q h e = absurd (cc)
objects_at tags t at (suc k) [] q h e = absurd (cc)
objects_at tags t at zero (x ∷ xs) q h e =
    let is : x ≡ q = cc in
    let same : at ≡ at + zero = omega arith in
    subst (IsObjectAt tags t (at + zero)) is (subst (λ n. IsObjectAt tags t n x) same h.0)
objects_at tags t at (suc k) (x ∷ xs) q h e =
    let same : suc at + k ≡ at + suc k = omega arith in
    subst (λ n. IsObjectAt tags t n q) same (objects_at tags t (suc at) k xs q h.1 e)

declared_at : (tags : List Tag) (qs : List Qualified) (k : ℕ) (d : Decl) → slice_get (map (decl_of tags) qs) k ≡ Some d →
    (q : Qualified) × (slice_get qs k ≡ Some q) × (decl_of tags q ≡ d)
declared_at tags [] zero d e = absurd (cc)
declared_at tags [] (suc k) d e = absurd (cc)
declared_at tags (q ∷ qs) zero d e = (q, refl, cc)
declared_at tags (q ∷ qs) (suc k) d e = declared_at tags qs k d e

counted_same : (tags : List Tag) (n : ℕ) (qs : List Qualified) → counted_by tags n qs ≡ created_after n (map (decl_of tags) qs)
counted_same tags n [] = refl
counted_same tags n (q ∷ qs) =
    ap (λ (e : Extent). counted_by tags (min (n + max e.size 16) (2 ^ 62)) qs) (extent_same tags q.ty)
    ∙ counted_same tags (min (n + max (view.object_extent tags q.ty).size 16) (2 ^ 62)) qs

none_there : {A : Type 0} (k : ℕ) → slice_get {X = A} [] k ≡ None
none_there zero = refl
none_there (suc k) = refl

get_take : {A : Type 0} (xs : List A) (n k : ℕ) → k < n → slice_get (take n xs) k ≡ slice_get xs k
get_take xs zero k l = absurd (omega (arith, l))
get_take [] (suc n) k l = refl
get_take (x ∷ xs) (suc n) zero l = refl
get_take (x ∷ xs) (suc n) (suc k) l = get_take xs n k (omega (arith, l))

get_drop : {A : Type 0} (xs : List A) (n k : ℕ) → slice_get (drop n xs) k ≡ slice_get xs (n + k)
get_drop xs zero k = let same : k ≡ 0 + k = omega arith in ap (slice_get xs) same
get_drop [] (suc n) k = none_there k ∙ sym (none_there (suc n + k))
get_drop (x ∷ xs) (suc n) k =
    let next : suc (n + k) ≡ suc n + k = omega arith in
    get_drop xs n k ∙ ap (slice_get (x ∷ xs)) next

there_some : {A : Type 0} (xs : List A) (k : ℕ) → k < length xs → (x : A) × (slice_get xs k ≡ Some x)
there_some [] k l = absurd (omega (arith, l))
there_some (x ∷ xs) zero l = (x, refl)
there_some (x ∷ xs) (suc k) l = there_some xs k (omega (arith, l))

-- lists whose elements are alike one by one
all_alike : {A B C : Type 0} (f : A → C) (g : B → C) (xs : List A) (ys : List B) → length xs ≡ length ys →
    ((k : ℕ) (y : B) → slice_get ys k ≡ Some y → (x : A) × (slice_get xs k ≡ Some x) × (f x ≡ g y)) → map f xs ≡ map g ys
all_alike f g [] [] l h = refl
all_alike f g [] (y ∷ ys) l h = absurd (omega (arith, l))
all_alike f g (x ∷ xs) [] l h = absurd (omega (arith, l))
all_alike f g (x ∷ xs) (y ∷ ys) l h =
    let first = h 0 y refl in
    let same : first.0 ≡ x = same_some (Some x) first.0 x first.1 refl in
    ap₂ (λ z zs. z ∷ zs) (ap f (sym same) ∙ first.2) (all_alike f g xs ys (omega (arith, l)) (λ k z e. h (suc k) z e))

part_length : {A : Type 0} (table : List A) (r : Range) → r.first + r.count ≤ length table → length (part_of table r) ≡ r.count
part_length table r l =
    let rest = length-drop r.first table in
    let taken = length-take r.count (drop r.first table) in
    omega (arith, l, rest, taken)

block_stands : (tags : List Tag) (t : Tables) (before taken : ℕ) (qs : List Qualified) (b : BlockCode) → b.objects.first + b.objects.count ≤
    length t.objects.items → IsBlockOf tags t before taken qs b → StandsBlock t (map (decl_of tags) qs) b
block_stands tags t before taken qs b range h =
    let count : b.objects.count ≡ length (map (decl_of tags) qs) = h.count ∙ sym (length-map qs (decl_of tags)) in
    let part = part_of t.objects.items b.objects in
    let each : (k : ℕ) (d : Decl) → slice_get (map (decl_of tags) qs) k ≡ Some d → (o : ObjectCode) × (slice_get part k ≡ Some o) × StandsObject t d o =
    λ k d e.
    let q = declared_at tags qs k d e in
    let o = objects_at tags t b.objects.first k qs q.0 h.objects q.1 in
    let less = slice_get_within qs k q.0 q.1 in (
      o.0,
      get_take (drop b.objects.first t.objects.items) b.objects.count k (omega (arith, less, h.count)) ∙ (get_drop t.objects.items b.objects.first k ∙ o.1),
      subst (λ (z : Decl). StandsObject t z o.0) q.2 (object_stands tags t q.0 o.0 o.2),
    ) in
    record {
      count = count;
      made = all_alike made_of made_by part (map (decl_of tags) qs) (part_length t.objects.items b.objects range ∙ count)
          (λ k d e. let o = each k d e in (o.0, o.1, o.2.made));
      objects = each;
      few = omega (arith, h.first, h.count, h.few);
      created = h.created ∙ counted_same tags 0 qs;
    }

-- ---- the blocks of a function
-- the block of this number, of blocks that stand from one on; so many objects are before them
record BlockHere (tags : List Tag) (t : Tables) (at before taken k : ℕ) (rows : List BlockRow) (qs : List Qualified) : Type 0 where
  pub first : ℕ
  pub here : IsBlockAt tags t (at + k) first taken qs
  pub from : before ≤ first
  pub numbered : slice_get (firsts_from before rows) k ≡ Some first
  pub within : first + length qs ≤ before + objects_in rows
  pub behind : (j : ℕ) (b : BlockCode) → j < k → slice_get t.blocks.items (at + j) ≡ Some b → b.first + b.objects.count ≤ first

-- behind the first none takes arguments
none_taken : (k : ℕ) → taken_at 0 k ≡ 0
none_taken zero = refl
none_taken (suc k) = refl

behind_next : (tags : List Tag) (t : Tables) (at before taken k first : ℕ) (qs : List Qualified) → IsBlockAt tags t at before taken qs →
    before + length qs ≤ first →
    ((i : ℕ) (c : BlockCode) → i < k → slice_get t.blocks.items (suc at + i) ≡ Some c → c.first + c.objects.count ≤ first) →
    (j : ℕ) (b : BlockCode) → j < suc k → slice_get t.blocks.items (at + j) ≡ Some b → b.first + b.objects.count ≤ first
behind_next tags t at before taken k first qs h from rest zero b l g =
    let place : at + 0 ≡ at = omega arith in
    let same : h.0 ≡ b = same_some (slice_get t.blocks.items at) h.0 b h.1 (ap (slice_get t.blocks.items) (sym place) ∙ g) in
    let number : b.first ≡ before = ap (λ (z : BlockCode). z.first) (sym same) ∙ h.2.first in
    let count : b.objects.count ≡ length qs = ap (λ (z : BlockCode). z.objects.count) (sym same) ∙ h.2.count in
    omega (arith, number, count, from)
behind_next tags t at before taken k first qs h from rest (suc i) b l g =
    let place : suc at + i ≡ at + suc i = omega arith in
    rest i b (omega (arith, l)) (ap (slice_get t.blocks.items) place ∙ g)

blocks_at : (tags : List Tag) (t : Tables) (at before taken k : ℕ) (rows : List BlockRow) (r : BlockRow) → AreBlocksFrom tags t at before taken rows →
    slice_get rows k ≡ Some r → BlockHere tags t at before (taken_at taken k) k rows r.objects
blocks_at tags t at before taken zero [] r h e = absurd (cc)
blocks_at tags t at before taken (suc k) [] r h e = absurd (cc)
blocks_at tags t at before taken zero (x ∷ xs) r h e =
    let is : x ≡ r = same_some (Some x) x r refl e in
    let same : at ≡ at + 0 = omega arith in
    let it : BlockHere tags t at before taken 0 (x ∷ xs) x.objects = record {
      first = before;
      here = subst (λ n. IsBlockAt tags t n before taken x.objects) same h.0;
      from = omega arith;
      numbered = refl;
      within = omega arith;
      behind = λ j b l g. absurd (omega (arith, l));
    } in
    subst (λ (z : BlockRow). BlockHere tags t at before taken 0 (x ∷ xs) z.objects) is it
blocks_at tags t at before taken (suc k) (x ∷ xs) r h e =
    let same : suc at + k ≡ at + suc k = omega arith in
    let it = blocks_at tags t (suc at) (before + length x.objects) 0 k xs r h.1 e in record {
      first = it.first;
      here = subst (λ n. IsBlockAt tags t n it.first 0 r.objects) same
          (subst (λ n. IsBlockAt tags t (suc at + k) it.first n r.objects) (none_taken k) it.here);
      from = omega (arith, it.from);
      numbered = it.numbered;
      within = omega (arith, it.within);
      behind = behind_next tags t at before taken k it.first x.objects h.0 it.from it.behind;
    }

has_block : (tags : List Tag) (t : Tables) (taken k : ℕ) (rows : List BlockRow) (c : FunctionCode) (r : BlockRow) → HasBlocks tags taken rows t c →
    slice_get rows k ≡ Some r → HasBlockAt t c (firsts_from 0 rows) taken (map (decl_of tags) r.objects) k
has_block tags t taken k rows c r h e =
    let it = blocks_at tags t c.blocks 0 taken k rows r h.blocks e in
    let b = it.here.0 in
    let told = it.here.2 in
    let range : b.objects.first + b.objects.count ≤ length t.objects.items =
    each_at (IsBlock (length t.objects.items)) t.blocks.items (c.blocks + k) b it.here.1 t.objects_there in
    record {
      block = b;
      at = it.here.1;
      number = it.here.3;
      first = it.numbered ∙ ap Some (sym told.first);
      stands = block_stands tags t it.first (taken_at taken k) r.objects b range told;
      arguments = told.arguments;
      within = omega (arith, told.first, told.count, it.within, h.objects);
      behind = λ j z l g. let le = it.behind j z l g in omega (arith, le, told.first);
    }

of_function : (p : Program) (n : ℕ) (f : Function) (x : Body) → slice_get p.functions n ≡ Some f → f.body ≡ Some x →
    decls_in p (Some n) ≡ (λ k. row_decls p.tags (slice_get (summary x).blocks k))
of_function p n f x at is = ap (λ o k. function_decls p.tags o k) at ∙ ap (λ o k. body_decls p.tags o k) is

pub blocks_stand : BlocksStandInCode
blocks_stand p code have n f b c at is there k less =
    let whole = of_block b in
    let row = there_some (rows_of_block b) k less in
    let decls : decls_in p (Some n) k ≡ map (decl_of p.tags) row.0.objects =
    ap (λ (g : ℕ → List Decl). g k) (of_function p n f (body.Block b) at (body_there f.body b is))
    ∙ ap (row_decls p.tags) (ap (λ (rs : List BlockRow). slice_get rs k) whole ∙ row.1) in
    subst (λ (ds : List Decl). HasBlockAt code.tables c (firsts_from 0 (rows_of_block b)) (length (out-FuncTy f.ty).params) ds k) (sym decls)
    (has_block p.tags code.tables (length (out-FuncTy f.ty).params) k (rows_of_block b) c row.0 (have n f b c at is there) row.1)

pub blocks_there : OpenBlocksAreThere
blocks_there m c firsts parameters ds k d open_blocks same has less is = (
  has.block,
  ap (λ n. slice_get m.image.code.now.tables.blocks.items (n + k)) same ∙ has.at,
  has.first,
  omega (arith, less, has.stands.count),
  omega (arith, less, has.stands.count, has.stands.few),
  is,
)

-- ---- full expressions
pub expressions_stand : ExpressionsStandInCode
expressions_stand p code have n f b c at is there k t found =
    let firsts = firsts_from 0 (rows_of_block b) in
    let has = have n f b c at is there in
    let it = expression_at firsts code.tables (laid_in code) c.expressions.first k (block_trees b) t has.each found in
    let numbers : HaveNumbers (suc (c.expressions.first + k)) (own_trees t) it.3.0 =
    subst (λ (u : Typed). HaveNumbers (suc (c.expressions.first + k)) (own_trees u) it.3.0) it.2 it.3.2 in
    record {
      laid = it.0;
      at = it.1;
      root = it.2;
      nodes = it.3.0;
      lays = it.3.1;
      initializers = initializers_numbered b code c.expressions k t it.3.0 has found numbers;
      within = initializers_within b code c.expressions k t it.3.0 has found numbers;
    }
