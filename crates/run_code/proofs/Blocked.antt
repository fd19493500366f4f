-- The blocks of functions, with their objects.
use Rattle.std.proofs.Common.{rules, arith, ◌≡◌, ◌≤◌, ◌<◌, ℕ, suc, ◌+◌, ◌^◌, min, max, true, option_map, List, [], ◌∷◌, ◌++◌, length}
use Rattle.std.proofs.Common.{map, drop, get_or}
use Rattle.std.proofs.Common.{Option, Some, Result, Ok, Err, OnOk, slice_get, refl, sym, ap, subst, ◌∙◌}
use Rattle.std.proofs.lemmas.List.{append-nil, append_assoc, drop_more, drop_all, length-append, length-map}
use Rattle.c_types.specs.declared.tags.Tag.{Tag}
use Rattle.c_types.specs.declared.ty.Qual.{Qual}
use Rattle.c_types.specs.declared.ty.Ty.TheFolds as types
use Rattle.c_types.specs.Shapes.{Form, form_of}
use Rattle.c_types.specs.Types.{Qualified, qualified_of, type_of}
use Rattle.c_typed.specs.declared.tree.Typed.{Typed}
use Rattle.c_typed.specs.declared.statement.Body.{Body}
use Rattle.c_typed.specs.declared.statement.Body.TheFolds as typed
use Rattle.c_typed.specs.declared.statement.Body.TheVariants as body
use Rattle.c_typed.specs.declared.statement.Block.{Block, out-Block, fold_out-Block}
use Rattle.c_typed.specs.declared.statement.Entry.{Entry, fold-Entry}
use Rattle.c_typed.specs.declared.statement.ForStart.{ForStart}
use Rattle.c_typed.specs.Sites.{BlockRow, Summary, summary_step, entry_summary, start_summary, block_summary, entries_summary, declared_in}
use Rattle.run_objects.specs.Extents.{extent_of, is_constant, HasForm}
use Rattle.run_layout.specs.declared.draft.FunctionDraft.{FunctionDraft}
use Rattle.run_layout.specs.declared.steps.BlockCode.{BlockCode}
use Rattle.run_layout.specs.declared.steps.FunctionCode.{FunctionCode}
use Rattle.run_layout.specs.declared.steps.ObjectCode.{ObjectCode}
use Rattle.run_layout.specs.declared.steps.Range.{Range}
use Rattle.run_layout.specs.declared.steps.StoreCode.{StoreCode}
use Rattle.run_layout.specs.declared.tables.Tables.{Tables}
use Rattle.run_layout.specs.EventActs.{AreGrown}
use Rattle.run_layout.specs.Blocks.{
  AddsBlocks,
  AddsObject,
  AddsObjects,
  AreBlocksFrom,
  AreObjectsFrom,
  IsBlockAt,
  IsObjectOf,
  access_by,
  counted_by,
  entry_rows,
  firsts_from,
  objects_in,
  rows_of,
  rows_of_block,
  start_rows,
}
use Rattle.run_layout.specs.Functions.{HasBlocks}
use Rattle.run_layout.proofs.Grown.{grown_both, nothing_grown}

-- ---- what stands in the tables stands there as more is added
object_later : (tags : List Tag) (old new : Tables) (q : Qualified) (o : ObjectCode) → AreGrown old new → IsObjectOf tags old.stores.items q o →
    IsObjectOf tags new.stores.items q o
object_later tags old new q o g h = record {
  size = h.size;
  align = h.align;
  constant = h.constant;
  form = h.form;
  by = h.by;
  at = g.stores o.store h.by h.at;
  access = h.access;
  initializing = h.initializing;
  ty = h.ty;
}

pub objects_later : (tags : List Tag) (old new : Tables) (at : ℕ) (qs : List Qualified) → AreGrown old new → AreObjectsFrom tags old at qs →
    AreObjectsFrom tags new at qs
objects_later tags old new at [] g h = tt
objects_later tags old new at (q ∷ qs) g h =
    ((h.0.0, g.each_object at h.0.0 h.0.1, object_later tags old new q h.0.0 g h.0.2), objects_later tags old new (suc at) qs g h.1)

block_later : (tags : List Tag) (old new : Tables) (at before taken : ℕ) (qs : List Qualified) → AreGrown old new →
    IsBlockAt tags old at before taken qs → IsBlockAt tags new at before taken qs
block_later tags old new at before taken qs g h = (
  h.0,
  g.blocks at h.0 h.1,
  record {
    objects = objects_later tags old new h.0.objects.first qs g h.2.objects;
    count = h.2.count;
    first = h.2.first;
    few = h.2.few;
    arguments = h.2.arguments;
    created = h.2.created;
  },
  h.3,
)

pub blocks_later : (tags : List Tag) (old new : Tables) (at before taken : ℕ) (rows : List BlockRow) → AreGrown old new →
    AreBlocksFrom tags old at before taken rows → AreBlocksFrom tags new at before taken rows
blocks_later tags old new at before taken [] g h = tt
blocks_later tags old new at before taken (r ∷ rs) g h = (
  block_later tags old new at before taken r.objects g h.0,
  blocks_later tags old new (suc at) (before + length r.objects) 0 rs g h.1,
)

pub has_later : (tags : List Tag) (old new : Tables) (taken : ℕ) (rows : List BlockRow) (c : FunctionCode) → AreGrown old new →
    HasBlocks tags taken rows old c → HasBlocks tags taken rows new c
has_later tags old new taken rows c g h =
    record { blocks = blocks_later tags old new c.blocks 0 taken rows g h.blocks; objects = h.objects; few = h.few }

-- ---- blocks in turn
moved : (tags : List Tag) (t : Tables) (rows : List BlockRow) (at at2 before before2 : ℕ) → at ≡ at2 → before ≡ before2 →
    AreBlocksFrom tags t at before 0 rows → AreBlocksFrom tags t at2 before2 0 rows
moved tags t rows at at2 before before2 e f h =
    subst (λ n. AreBlocksFrom tags t n before2 0 rows) e (subst (λ n. AreBlocksFrom tags t at n 0 rows) f h)

blocks_both : (tags : List Tag) (t : Tables) (at before : ℕ) (xs ys : List BlockRow) → AreBlocksFrom tags t at before 0 xs →
    AreBlocksFrom tags t (at + length xs) (before + objects_in xs) 0 ys → AreBlocksFrom tags t at before 0 (xs ++ ys)
blocks_both tags t at before [] ys h k = moved tags t ys (at + 0) at (before + 0) before (omega arith) (omega arith) k
blocks_both tags t at before (x ∷ xs) ys h k = (
  h.0,
  blocks_both tags t (suc at) (before + length x.objects) xs ys h.1
      (moved tags t ys (at + length (x ∷ xs)) (suc at + length xs) (before + (length x.objects + objects_in xs))
      (before + length x.objects + objects_in xs) (omega arith) (omega arith) k),
)

objects_both : (xs ys : List BlockRow) → objects_in (xs ++ ys) ≡ objects_in xs + objects_in ys
objects_both [] ys = omega arith
objects_both (x ∷ xs) ys = omega (arith, objects_both xs ys)

firsts_both : (n : ℕ) (xs ys : List BlockRow) → firsts_from n (xs ++ ys) ≡ firsts_from n xs ++ firsts_from (n + objects_in xs) ys
firsts_both n [] ys = ap (λ m. firsts_from m ys) (omega arith)
firsts_both n (x ∷ xs) ys =
    ap (λ ns. n ∷ ns) (firsts_both (n + length x.objects) xs ys
    ∙ ap (λ m. firsts_from (n + length x.objects) xs ++ firsts_from m ys) (omega arith))

joined : (xs ys zs before mid after : List ℕ) → mid ≡ before ++ xs → after ≡ mid ++ ys → zs ≡ xs ++ ys → after ≡ before ++ zs
joined xs ys zs before mid after e f g =
    f ∙ (ap (λ ns. ns ++ ys) e ∙ (append_assoc before xs ys ∙ ap (λ ns. before ++ ns) (sym g)))

module _ (tags : List Tag) where
  pub adds_none : (t : Tables) (d : FunctionDraft) → AddsBlocks tags 0 [] t d t d
  adds_none t d = record {
    grown = nothing_grown t;
    blocks = tt;
    many = omega arith;
    count = omega arith;
    firsts = sym (append-nil d.objects.first.items);
  }

  pub adds_both : (xs ys : List BlockRow) (a b c : Tables) (l m n : FunctionDraft) → AddsBlocks tags 0 xs a l b m → AddsBlocks tags 0 ys b m c n →
      AddsBlocks tags 0 (xs ++ ys) a l c n
  adds_both xs ys a b c l m n p q =
      let sum = objects_both xs ys in
      let next : firsts_from m.count ys ≡ firsts_from (l.count + objects_in xs) ys = ap (λ k. firsts_from k ys) p.count in record {
        grown = grown_both a b c p.grown q.grown;
        blocks = blocks_both tags c (length a.blocks.items) l.count xs ys (blocks_later tags b c (length a.blocks.items) l.count 0 xs q.grown p.blocks)
            (moved tags c ys (length b.blocks.items) (length a.blocks.items + length xs) m.count (l.count + objects_in xs) p.many p.count q.blocks);
        many = omega (arith, p.many, q.many, length-append xs ys);
        count = omega (arith, p.count, q.count, sum);
        firsts = joined (firsts_from l.count xs) (firsts_from m.count ys) (firsts_from l.count (xs ++ ys)) l.objects.first.items m.objects.first.items
            n.objects.first.items p.firsts q.firsts (firsts_both l.count xs ys ∙ ap (λ ns. firsts_from l.count xs ++ ns) (sym next));
      }

  pub adds_head : (taken : ℕ) (r : BlockRow) (rs : List BlockRow) (a b c : Tables) (l m n : FunctionDraft) → AddsBlocks tags taken (r ∷ []) a l b m →
      AddsBlocks tags 0 rs b m c n → AddsBlocks tags taken (r ∷ rs) a l c n
  adds_head taken r rs a b c l m n p q =
      let next : m.count ≡ l.count + length r.objects = omega (arith, p.count) in record {
        grown = grown_both a b c p.grown q.grown;
        blocks = (
          block_later tags b c (length a.blocks.items) l.count taken r.objects q.grown p.blocks.0,
          moved tags c rs (length b.blocks.items) (suc (length a.blocks.items)) m.count (l.count + length r.objects) (omega (arith, p.many)) next q.blocks,
        );
        many = omega (arith, p.many, q.many);
        count = omega (arith, p.count, q.count);
        firsts = joined (l.count ∷ []) (firsts_from m.count rs) (firsts_from l.count (r ∷ rs)) l.objects.first.items m.objects.first.items
            n.objects.first.items p.firsts q.firsts (ap (λ k. l.count ∷ firsts_from k rs) (sym next));
      }

  pub adds_same : (taken : ℕ) (rows all : List BlockRow) (a b : Tables) (l m : FunctionDraft) → all ≡ rows → AddsBlocks tags taken rows a l b m →
      AddsBlocks tags taken all a l b m
  adds_same taken rows all a b l m e h = subst (λ rs. AddsBlocks tags taken rs a l b m) (sym e) h

-- ---- the blocks of each form of statement
blocks_as : (s t : Summary) → s ≡ t → s.blocks ≡ t.blocks
blocks_as s t e = ap (λ (z : Summary). z.blocks) e

pub of_block : (x : Body) (b : Block) → x ≡ body.Block b → rows_of x ≡ rows_of_block b
of_block x b e =
    let whole : rows_of (body.Block b) ≡ rows_of_block b = search (rules, typed.the_lemmas) in
    ap rows_of e ∙ whole

pub of_if : (x : Body) (t : Typed) (y z : Body) (o : Option Body) → x ≡ body.If t y o → o ≡ Some z → rows_of x ≡ rows_of y ++ rows_of z
of_if x t y z o e f =
    let whole : rows_of (body.If t y (Some z)) ≡ rows_of y ++ rows_of z = search (rules, typed.the_lemmas) in
    ap rows_of (e ∙ ap (body.If t y) f) ∙ whole

pub of_for : (x : Body) (s : ForStart) (test step : Option Typed) (y : Body) → x ≡ body.For s test step y → rows_of x ≡ start_rows s ++ rows_of y
of_for x s test step y e =
    let whole : rows_of (body.For s test step y) ≡ start_rows s ++ rows_of y = search (rules, typed.the_lemmas) in
    ap rows_of e ∙ whole

-- those of a block, and of its entries from one on
abbrev entry_seen : Entry → Summary × List ℕ
entry_seen = fold-Entry Summary (Summary × List ℕ) Summary Summary summary_step entry_summary start_summary block_summary

abbrev pub rows_in : List Entry → List BlockRow
rows_in es = (entries_summary (map entry_seen es)).blocks

abbrev pub row_of : Block → BlockRow
row_of b = record {
  number = (out-Block b).number;
  objects = map qualified_of (out-Block b).objects;
  declares = declared_in (map entry_seen (out-Block b).entries);
}

pub whole_block : (b : Block) (entries : List Entry) → entries ≡ (out-Block b).entries → rows_of_block b ≡ row_of b ∷ rows_in entries
whole_block b entries e =
    blocks_as _ _ (fold_out-Block Summary (Summary × List ℕ) Summary Summary summary_step entry_summary start_summary block_summary b)
    ∙ ap (λ es. row_of b ∷ rows_in es) (sym e)

pub next_entry : (items : List Entry) (i : ℕ) (x : Entry) → i < length items → x ≡ get_or items i x →
    rows_in (drop i items) ≡ entry_rows x ++ rows_in (drop (i + 1) items)
next_entry items i x l e = ap rows_in (drop_more items i x l ∙ ap (λ (z : Entry). z ∷ drop (i + 1) items) (sym e))

pub no_entry : (items : List Entry) (i : ℕ) → length items ≤ i → rows_in (drop i items) ≡ []
no_entry items i end = ap rows_in (drop_all i items end)

-- ---- a function
few_objects : (tags : List Tag) (t : Tables) (at before taken : ℕ) (r : BlockRow) (rs : List BlockRow) → AreBlocksFrom tags t at before taken (r ∷ rs)
    → before + objects_in (r ∷ rs) < 2 ^ 32
few_objects tags t at before taken r [] h = omega (arith, h.0.2.few)
few_objects tags t at before taken r (s ∷ rs) h = omega (arith, few_objects tags t (suc at) (before + length r.objects) 0 s rs h.1)

pub function_blocks : (tags : List Tag) (taken : ℕ) (b : Block) (a t u : Tables) (f g : FunctionDraft) (c : FunctionCode) → f.count ≡ 0
    → c.blocks ≡ length a.blocks.items → c.objects ≡ g.count → AreGrown t u → AddsBlocks tags taken (rows_of_block b) a f t g
    → HasBlocks tags taken (rows_of_block b) u c
function_blocks tags taken b a t u f g c none at objects grown h =
    let rows = rows_of_block b in
    let from : AreBlocksFrom tags t (length a.blocks.items) 0 taken rows =
    subst (λ k. AreBlocksFrom tags t (length a.blocks.items) k taken rows) none h.blocks in
    let count : g.count ≡ objects_in rows = omega (arith, none, h.count) in
    let whole : rows ≡ row_of b ∷ rows_in (out-Block b).entries = whole_block b (out-Block b).entries refl in
    let few : 0 + objects_in rows < 2 ^ 32 =
    subst (λ rs. 0 + objects_in rs < 2 ^ 32) (sym whole)
    (few_objects tags t (length a.blocks.items) 0 taken (row_of b) (rows_in (out-Block b).entries)
    (subst (AreBlocksFrom tags t (length a.blocks.items) 0 taken) whole from)) in record {
      blocks = subst (λ k. AreBlocksFrom tags u k 0 taken rows) (sym at) (blocks_later tags t u (length a.blocks.items) 0 taken rows grown from);
      objects = objects ∙ count;
      few = omega (arith, few);
    }

-- so the objects of its blocks have numbers from these on
pub function_firsts : (tags : List Tag) (taken : ℕ) (rows : List BlockRow) (a t : Tables) (f g : FunctionDraft) → f.count ≡ 0 → f.objects.first.items ≡ []
    → AddsBlocks tags taken rows a f t g → g.objects.first.items ≡ firsts_from 0 rows
function_firsts tags taken rows a t f g none start h = h.firsts ∙ (ap (λ ns. ns ++ firsts_from f.count rows) start ∙ ap (λ n. firsts_from n rows) none)

-- ---- one object more
pub qual_type : (q : Qual) → type_of q.ty ≡ (qualified_of q).ty
qual_type q = search (rules, types.the_lemmas)

pub qual_form : (tags : List Tag) (q : Qual) (form : Option Form) → HasForm tags (type_of q.ty) form → HasForm tags (qualified_of q).ty form
qual_form tags q form h = subst (λ ty. HasForm tags ty form) (qual_type q) h

pub object_added : (tags : List Tag) (q : Qualified) (old mid new : Tables) (o : ObjectCode) (by : StoreCode) →
    new.objects.items ≡ mid.objects.items ++ o ∷ [] → mid.objects.items ≡ old.objects.items → new.stores.items ≡ mid.stores.items →
    slice_get mid.stores.items o.store ≡ Some by → o.size ≡ (extent_of tags q.ty).size → o.align ≡ (extent_of tags q.ty).align →
    o.constant ≡ is_constant q → HasForm tags q.ty (option_map (λ s. form_of s.value) o.shape) → by.access ≡ access_by tags q.ty →
    by.initializing ≡ true → type_of by.ty.now ≡ q.ty → AddsObject tags q old new
object_added tags q old mid new o by all before stores at size align constant form access initializing ty = record {
  object = o;
  all = all ∙ ap (λ os. os ++ o ∷ []) before;
  is = record {
    size = size;
    align = align;
    constant = constant;
    form = form;
    by = by;
    at = ap (λ (xs : List StoreCode). slice_get xs o.store) stores ∙ at;
    access = access;
    initializing = initializing;
    ty = ty;
  };
}

last_there : {A : Type 0} (xs : List A) (x : A) → slice_get (xs ++ x ∷ []) (length xs) ≡ Some x
last_there [] x = refl
last_there (y ∷ ys) x = last_there ys x

pub next_object : (tags : List Tag) (old now new : Tables) (first i : ℕ) (q : Qualified) (qs : List Qualified) → AddsObject tags q old now →
    length old.objects.items ≡ first + i → AreGrown now new → AreObjectsFrom tags new (first + (i + 1)) qs → AreObjectsFrom tags new (first + i) (q ∷ qs)
next_object tags old now new first i q qs a at g rest =
    let there : slice_get now.objects.items (first + i) ≡ Some a.object =
    ap (λ xs. slice_get xs (first + i)) a.all ∙ (ap (slice_get (old.objects.items ++ a.object ∷ [])) (sym at) ∙ last_there old.objects.items a.object) in
    let next : first + (i + 1) ≡ suc (first + i) = omega arith in (
      (a.object, g.each_object (first + i) a.object there, object_later tags now new q a.object g a.is),
      subst (λ n. AreObjectsFrom tags new n qs) next rest,
    )

pub longer_by_one : (tags : List Tag) (q : Qualified) (old now : Tables) (first i : ℕ) → AddsObject tags q old now → length old.objects.items ≡ first + i →
    length now.objects.items ≡ first + (i + 1)
longer_by_one tags q old now first i a at = omega (arith, at, ap length a.all ∙ length-append old.objects.items (a.object ∷ []))

pub next_qual : (items : List Qual) (i : ℕ) (x : Qual) → i < length items → x ≡ get_or items i x →
    map qualified_of (drop i items) ≡ qualified_of x ∷ map qualified_of (drop (i + 1) items)
next_qual items i x l e = ap (map qualified_of) (drop_more items i x l ∙ ap (λ (z : Qual). z ∷ drop (i + 1) items) (sym e))

pub next_counted : (tags : List Tag) (items : List Qual) (i n one more all : ℕ) (x : Qual) → i < length items → x ≡ get_or items i x →
    one ≡ max (extent_of tags (qualified_of x).ty).size 16 → more ≡ min (n + one) (2 ^ 62) → counted_by tags n (map qualified_of (drop i items)) ≡ all →
    counted_by tags more (map qualified_of (drop (i + 1) items)) ≡ all
next_counted tags items i n one more all x l e is sum h =
    ap (λ k. counted_by tags k (map qualified_of (drop (i + 1) items))) (sum ∙ ap (λ k. min (n + k) (2 ^ 62)) is)
    ∙ (sym (ap (counted_by tags n) (next_qual items i x l e)) ∙ h)

-- all of them
pub all_objects : (tags : List Tag) (old now : Tables) (b : Block) (items : List Qual) (first i bytes : ℕ) (range : Range) → items ≡ (out-Block b).objects →
    i ≤ length items → length items ≤ i → first ≡ length old.objects.items → AreGrown old now → length now.objects.items ≡ first + i →
    counted_by tags bytes (map qualified_of (drop i items)) ≡ counted_by tags 0 (map qualified_of items) →
    ((new : Tables) → AreGrown now new → AreObjectsFrom tags new (first + i) (map qualified_of (drop i items)) →
    AreObjectsFrom tags new first (map qualified_of items)) →
    range.first ≡ first → range.first + range.count ≡ length now.objects.items → length now.objects.items < 2 ^ 32 →
    AddsObjects tags (map qualified_of (out-Block b).objects) old now range bytes
all_objects tags old now b items first i bytes range is low high start g many counted objects at whole few =
    let none : drop i items ≡ [] = drop_all i items high in
    let count : length (map qualified_of items) ≡ length items = length-map items qualified_of in
    let from : AreObjectsFrom tags now first (map qualified_of items) =
    objects now (nothing_grown now) (subst (λ qs. AreObjectsFrom tags now (first + i) (map qualified_of qs)) (sym none) tt) in
    let all : AddsObjects tags (map qualified_of items) old now range bytes = record {
      grown = g;
      objects = subst (λ n. AreObjectsFrom tags now n (map qualified_of items)) (sym at) from;
      many = omega (arith, many, start, low, high, count);
      few = few;
      count = omega (arith, many, at, whole, low, high, count);
      counted = ap (λ qs. counted_by tags bytes (map qualified_of qs)) (sym none) ∙ counted;
    } in
    subst (λ qs. AddsObjects tags (map qualified_of qs) old now range bytes) is all

-- ---- one block more
one_block : (tags : List Tag) (taken : ℕ) (row : BlockRow) (old mid new : Tables) (range : Range) (bytes : ℕ) (before after : FunctionDraft) →
    AddsObjects tags row.objects old mid range bytes → mid.blocks.items ≡ old.blocks.items → AreGrown mid new →
    after.count ≡ before.count + range.count → after.count < 2 ^ 32 → after.objects.first.items ≡ before.objects.first.items ++ before.count ∷ [] →
    new.blocks.items ≡ mid.blocks.items ++ (record { objects = range; first = before.count; arguments = taken; created = bytes }) ∷ [] →
    length mid.blocks.items < 2 ^ 32 → AddsBlocks tags taken (row ∷ []) old before new after
one_block tags taken row old mid new range bytes before after a blocks g sum small firsts added few =
    let block : BlockCode = record { objects = range; first = before.count; arguments = taken; created = bytes } in
    let there : slice_get new.blocks.items (length old.blocks.items) ≡ Some block =
    ap (λ bs. slice_get new.blocks.items (length bs)) (sym blocks)
    ∙ (ap (λ bs. slice_get bs (length mid.blocks.items)) added ∙ last_there mid.blocks.items block) in
    let same : length mid.blocks.items ≡ length old.blocks.items = ap length blocks in
    let longer : length new.blocks.items ≡ length mid.blocks.items + 1 = ap length added ∙ length-append mid.blocks.items (block ∷ []) in record {
      grown = grown_both old mid new a.grown g;
      blocks = (
        (
          block,
          there,
          record {
            objects = objects_later tags mid new range.first row.objects g a.objects;
            count = a.count;
            first = refl;
            few = omega (arith, sum, a.count, small);
            arguments = refl;
            created = a.counted;
          },
          omega (arith, few, same),
        ),
        tt,
      );
      many = omega (arith, same, longer);
      count = omega (arith, sum, a.count);
      firsts = firsts;
    }

pub block_added : {E : Type 0} (r : Result (Unit {0}) E) (tags : List Tag) (taken : ℕ) (row : BlockRow) (qs : List Qualified) (old mid new : Tables)
    (range : Range) (bytes : ℕ) (now before after : FunctionDraft) → now ≡ before → row.objects ≡ qs → AddsObjects tags qs old mid range bytes →
    mid.blocks.items ≡ old.blocks.items → AreGrown mid new → after.count ≡ now.count + range.count → after.count < 2 ^ 32 →
    after.objects.first.items ≡ now.objects.first.items ++ now.count ∷ [] →
    OnOk r (new.blocks.items ≡ mid.blocks.items ++ (record { objects = range; first = now.count; arguments = taken; created = bytes }) ∷ []) →
    OnOk r (length mid.blocks.items < 2 ^ 32) → OnOk r (AddsBlocks tags taken (row ∷ []) old before new after)
block_added r tags taken row qs old mid new range bytes now before after same is a blocks g sum small firsts added few =
    subst (λ d. OnOk r (AddsBlocks tags taken (row ∷ []) old d new after)) same
    (on_both r _ _ _
    (one_block tags taken row old mid new range bytes now after (subst (λ z. AddsObjects tags z old mid range bytes) (sym is) a) blocks g sum small firsts)
    added few)
  where
    on_both : {A B : Type 0} (r : Result A B) (P Q R : Type 0) → (P → Q → R) → OnOk r P → OnOk r Q → OnOk r R
    on_both (Ok x) P Q R f p q = f p q
    on_both (Err e) P Q R f p q = tt
