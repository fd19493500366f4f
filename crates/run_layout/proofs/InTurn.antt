-- The full expressions of functions, which are laid out in turn.
use Rattle.std.proofs.Common.{arith, ◌≡◌, ◌≤◌, ◌+◌, ℕ, zero, suc, List, [], ◌∷◌, ◌++◌, length, map, take, Option, Some, None, slice_get}
use Rattle.std.proofs.Common.{inl, inr, refl, sym, ap, subst, ◌∙◌, length-append}
use Rattle.std.proofs.lemmas.List.{map-append, take_all}
use Rattle.std.proofs.lemmas.Option.{slice_get_within}
use Rattle.c_typed.specs.declared.tree.Typed.{Typed}
use Rattle.c_typed.specs.declared.statement.Block.{Block}
use Rattle.c_typed.specs.declared.program.Function.{Function}
use Rattle.elaborate.specs.Expressions.{block_trees, own_trees}
use Rattle.run_layout.specs.declared.expressions.Laid.{Laid}
use Rattle.run_layout.specs.declared.nodes.NodeInfo.{NodeInfo}
use Rattle.run_layout.specs.declared.steps.Expression.{Expression}
use Rattle.run_layout.specs.declared.steps.FunctionCode.{FunctionCode}
use Rattle.run_layout.specs.declared.steps.Listed.{Listed}
use Rattle.run_layout.specs.declared.steps.Range.{Range}
use Rattle.run_layout.specs.declared.tables.Tables.{Tables}
use Rattle.run_layout.specs.Blocks.{firsts_from, rows_of_block}
use Rattle.run_layout.specs.AtOnce.{chosen_of, Lists}
use Rattle.run_layout.specs.EventActs.{AreEntries, AreGrown}
use Rattle.run_layout.specs.Functions.{OfEach, IsLaidAt, IsLaidOutFrom, AreLaidFrom, HasExpressions, IsMore, AddsExpression, AddsExpressions}
use Rattle.run_layout.specs.Initializers.{HaveNumbers}
use Rattle.run_layout.specs.LaidOut.{LaidOutBy}
use Rattle.run_layout.specs.Numbered.{AreNodes}
use Rattle.run_layout.specs.Resolved.{resolved}
use Rattle.run_layout.specs.Rooms.{IsRoomedBy}
use Rattle.run_layout.specs.Roots.{block_in}
use Rattle.run_layout.proofs.Collected.{same_some, slice_get-seam}
use Rattle.run_layout.proofs.Grown.{front_of, in_both, laid_later, one_laid}

-- ---- what holds of each function
only_one : {A : Type 0} (x y : A) (j : ℕ) → slice_get (x ∷ []) j ≡ Some y → (j ≡ 0) × (x ≡ y)
only_one x y zero h = (refl, same_some (Some x) x y refl h)
only_one x y (suc j) h = absurd (let l = slice_get_within (x ∷ []) (suc j) y h in omega (arith, l))

pub each_none : (Holds : Function → Block → FunctionCode → Type 0) (fs : List Function) (cs : List (Option FunctionCode)) → cs ≡ [] → OfEach Holds fs cs
each_none Holds fs cs e n f b c at is code = absurd (let l = slice_get_within cs n (Some c) code in omega (arith, l, ap length e))

pub each_later : (Old New : Function → Block → FunctionCode → Type 0) (fs : List Function) (cs : List (Option FunctionCode)) →
    ((f : Function) (b : Block) (c : FunctionCode) → Old f b c → New f b c) → OfEach Old fs cs → OfEach New fs cs
each_later Old New fs cs k h n f b c at is code = k f b c (h n f b c at is code)

-- one function more, where it holds of that too
pub each_pushed : (Holds : Function → Block → FunctionCode → Type 0) (fs : List Function) (cs ds : List (Option FunctionCode)) (code : Option FunctionCode)
    (i : ℕ) (f : Function) → ds ≡ cs ++ code ∷ [] → length cs ≡ i → slice_get fs i ≡ Some f → OfEach Holds fs cs →
    ((b : Block) (c : FunctionCode) → block_in f.body ≡ Some b → code ≡ Some c → Holds f b c) → OfEach Holds fs ds
each_pushed Holds fs cs ds code i f e count here h one n g b c at is found =
    elim (in_both cs (code ∷ []) n (Some c) (ap (λ xs. slice_get xs n) (sym e) ∙ found)) [
      | inl k ↦ h n g b c at is k
      | inr k ↦
          let last = only_one code (Some c) k.0 k.1 in
          let number : n ≡ i = omega (arith, last.0, k.2, count) in
          let same : f ≡ g = same_some (slice_get fs i) f g here (ap (slice_get fs) (sym number) ∙ at) in
          subst (λ (z : Function). Holds z b c) same (one b c (ap (λ (z : Function). block_in z.body) same ∙ is) last.1)
    ]

pub each_given : (Holds : Function → Block → FunctionCode → Type 0) (f : Function) (code : Option FunctionCode) (x : Block) (y : FunctionCode) →
    block_in f.body ≡ Some x → code ≡ Some y → Holds f x y → (b : Block) (c : FunctionCode) → block_in f.body ≡ Some b → code ≡ Some c → Holds f b c
each_given Holds f code x y e k h b c is there =
    subst (λ z. Holds f z c) (same_some (block_in f.body) x b e is) (subst (Holds f x) (same_some code y c k there) h)

pub each_absent : (Holds : Function → Block → FunctionCode → Type 0) (f : Function) (code : Option FunctionCode) → code ≡ None → (b : Block)
    (c : FunctionCode) → block_in f.body ≡ Some b → code ≡ Some c → Holds f b c
each_absent Holds f code e b c is there = absurd (cc)

-- ---- what is laid out stays
pub no_more : (a b : Laid) → b.entries.items ≡ a.entries.items → b.all.items ≡ a.all.items → IsMore a b
no_more a b e f = record {
  entries = λ n x h. ap (λ xs. slice_get xs n) e ∙ h;
  all = λ n x h. ap (λ xs. slice_get xs n) f ∙ h;
}

pub more_both : (a b c : Laid) → IsMore a b → IsMore b c → IsMore a c
more_both a b c g h = record {
  entries = λ n x k. h.entries n x (g.entries n x k);
  all = λ n x k. h.all n x (g.all n x k);
}

are_laid_later : (firsts : List ℕ) (old new : Tables) (a b : Laid) (at : ℕ) (ts : List Typed) → AreGrown old new → IsMore a b →
    AreLaidFrom firsts old a at ts → AreLaidFrom firsts new b at ts
are_laid_later firsts old new a b at [] g m h = tt
are_laid_later firsts old new a b at (t ∷ ts) g m h =
    let e = h.0 in (
      (e.0, m.all at e.0 e.1, e.2, (e.3.0, laid_later firsts e.3.0 old new a.entries.items b.entries.items e.0 g m.entries e.3.1, e.3.2)),
      are_laid_later firsts old new a b (suc at) ts g m h.1,
    )

pub expressions_later : (c : Block) (old new : Tables) (a b : Laid) (range : Range) → AreGrown old new → IsMore a b → HasExpressions c old a range →
    HasExpressions c new b range
expressions_later c old new a b range g m h = record {
  each = are_laid_later (firsts_from 0 (rows_of_block c)) old new a b range.first (block_trees c) g m h.each;
  count = h.count;
}

-- ---- full expressions one behind the other
pub expression_added : (firsts : List ℕ) (t : Typed) (tables : Tables) (old new : Laid) (longer more : List Listed) (nodes : List NodeInfo) (e : Expression) →
    longer ≡ old.entries.items ++ more → new.entries.items ≡ longer → new.all.items ≡ old.all.items ++ e ∷ [] → e.root.now ≡ t →
    AreNodes firsts t nodes → IsRoomedBy nodes e.rooms → AreEntries firsts tables nodes more → Lists tables.chosen.items e.chosen (chosen_of firsts t 0) →
    e.value ≡ resolved firsts t 0 → e.first ≡ length old.entries.items → e.end ≡ length longer →
    HaveNumbers (suc (length old.all.items)) (own_trees t) nodes → AddsExpression firsts t tables old new
expression_added firsts t tables old new longer more nodes e l same all root n w a k v f end numbers =
    let laid : LaidOutBy firsts nodes tables longer e =
    one_laid tables old.entries.items longer more firsts nodes e l (subst (λ u. AreNodes firsts u nodes) (sym root) n) w a
    (subst (λ u. Lists tables.chosen.items e.chosen (chosen_of firsts u 0)) (sym root) k) (v ∙ ap (λ u. resolved firsts u 0) (sym root)) f end in record {
      expression = e;
      all = all;
      entries = front_of old.entries.items new.entries.items more (same ∙ l);
      root = root;
      laid = (
        nodes,
        subst (λ es. LaidOutBy firsts nodes tables es e) (sym same) laid,
        subst (λ u. HaveNumbers (suc (length old.all.items)) (own_trees u) nodes) (sym root) numbers,
      );
    }

laid_behind : (firsts : List ℕ) (tables : Tables) (laid : Laid) (at : ℕ) (ts : List Typed) (t : Typed) → AreLaidFrom firsts tables laid at ts →
    IsLaidAt firsts tables laid (at + length ts) t → AreLaidFrom firsts tables laid at (ts ++ t ∷ [])
laid_behind firsts tables laid at [] t h k =
    let same : at + 0 ≡ at = omega arith in
    (subst (λ n. IsLaidAt firsts tables laid n t) same k, tt)
laid_behind firsts tables laid at (x ∷ ts) t h k =
    let same : at + length (x ∷ ts) ≡ suc at + length ts = omega arith in
    (h.0, laid_behind firsts tables laid (suc at) ts t h.1 (subst (λ n. IsLaidAt firsts tables laid n t) same k))

pub none_added : (firsts : List ℕ) (tables : Tables) (laid : Laid) → AddsExpressions firsts [] tables laid laid
none_added firsts tables laid = record { more = no_more laid laid refl refl; each = tt; count = omega arith }

pub next_added : (firsts all : List ℕ) (ts us : List Typed) (t : Typed) (old new : Tables) (start mid end : Laid) → us ≡ ts ++ t ∷ [] → AreGrown old new →
    all ≡ firsts → AddsExpressions firsts ts old start mid → AddsExpression all t new mid end → AddsExpressions firsts us new start end
next_added firsts all ts us t old new start mid end e g same h given =
    let a : AddsExpression firsts t new mid end = subst (λ ns. AddsExpression ns t new mid end) same given in
    let more : IsMore mid end = record { entries = a.entries; all = front_of mid.all.items end.all.items (a.expression ∷ []) a.all } in
    let at : slice_get end.all.items (length start.all.items + length ts) ≡ Some a.expression =
    ap (λ es. slice_get es (length start.all.items + length ts)) a.all
    ∙ (ap (slice_get (mid.all.items ++ a.expression ∷ [])) (sym h.count) ∙ slice_get-seam mid.all.items a.expression []) in
    let added : AddsExpressions firsts (ts ++ t ∷ []) new start end = record {
      more = more_both start mid end h.more more;
      each = laid_behind firsts new end (length start.all.items) ts t
          (are_laid_later firsts old new mid end (length start.all.items) ts g more h.each)
          (a.expression, at, a.root, subst (λ n. IsLaidOutFrom firsts new end.entries.items n a.expression) h.count a.laid);
      count = omega (arith, h.count, ap length a.all ∙ length-append mid.all.items (a.expression ∷ []), length-append ts (t ∷ []));
    } in
    subst (λ xs. AddsExpressions firsts xs new start end) (sym e) added

pub next_taken : {A B : Type 0} (f : A → B) (items : List A) (i : ℕ) (x : A) → take (i + 1) items ≡ take i items ++ x ∷ [] →
    map f (take (i + 1) items) ≡ map f (take i items) ++ f x ∷ []
next_taken f items i x e = ap (map f) e ∙ map-append f (take i items) (x ∷ [])

pub all_added : {A : Type 0} (f : A → Typed) (firsts : List ℕ) (items : List A) (i : ℕ) (ts : List Typed) (tables : Tables) (start end : Laid) →
    length items ≤ i → map f items ≡ ts → AddsExpressions firsts (map f (take i items)) tables start end → AddsExpressions firsts ts tables start end
all_added f firsts items i ts tables start end l e h =
    subst (λ xs. AddsExpressions firsts xs tables start end) (ap (map f) (take_all i items l) ∙ e) h

-- the one of this number among them
pub expression_at : (firsts : List ℕ) (tables : Tables) (laid : Laid) (at k : ℕ) (ts : List Typed) (t : Typed) → AreLaidFrom firsts tables laid at ts →
    slice_get ts k ≡ Some t → IsLaidAt firsts tables laid (at + k) t
expression_at firsts tables laid at zero [] t h e = absurd (cc)
expression_at firsts tables laid at (suc k) [] t h e = absurd (cc)
expression_at firsts tables laid at zero (x ∷ ts) t h e =
    let is : x ≡ t = same_some (Some x) x t refl e in
    let same : at ≡ at + 0 = omega arith in
    subst (IsLaidAt firsts tables laid (at + 0)) is (subst (λ n. IsLaidAt firsts tables laid n x) same h.0)
expression_at firsts tables laid at (suc k) (x ∷ ts) t h e =
    let same : suc at + k ≡ at + suc k = omega arith in
    subst (λ n. IsLaidAt firsts tables laid n t) same (expression_at firsts tables laid (suc at) k ts t h.1 e)

-- those of a function
pub function_laid : (b : Block) (firsts : List ℕ) (ts : List Typed) (tables : Tables) (start end : Laid) (range : Range) →
    firsts ≡ firsts_from 0 (rows_of_block b) → ts ≡ block_trees b → range.first ≡ length start.all.items → range.count ≡ length ts →
    AddsExpressions firsts ts tables start end → HasExpressions b tables end range
function_laid b firsts ts tables start end range numbered trees first count h =
    let each : AreLaidFrom firsts tables end range.first ts = subst (λ n. AreLaidFrom firsts tables end n ts) (sym first) h.each in record {
      each = subst (λ ns. AreLaidFrom ns tables end range.first (block_trees b)) numbered (subst (AreLaidFrom firsts tables end range.first) trees each);
      count = count ∙ ap length trees;
    }
