-- What the numbers in the code of a lawful program stand for.
use Rattle.std.proofs.Common.{rules, arith, ◌≡◌, ℕ, zero, suc, ◌+◌, true, List, [], ◌∷◌, map, flat_map, Option, Some, None, slice_get}
use Rattle.std.proofs.Common.{refl, sym, ap, subst, ◌∙◌}
use Rattle.std.specs.Borrow.{Bor}
use Rattle.std.specs.List.{All}
use Rattle.std.specs.Option.{option_map}
use Rattle.std.proofs.lemmas.List.Elements.{All-nil, All-cons, All-head, All-tail, All-append, All-weaker}
use Rattle.std.proofs.lemmas.Option.{slice_get-map}
use Rattle.c_types.specs.declared.tags.Tag.{Tag}
use Rattle.c_types.specs.Types.{CType, void, int, enumeration, pointer, array, struct, union, function, Signature, signature_of, type_of}
use Rattle.c_typed.specs.declared.tree.Access.{Access}
use Rattle.c_typed.specs.declared.tree.Access.TheVariants as access
use Rattle.c_typed.specs.declared.tree.Typed.{Typed}
use Rattle.c_typed.specs.declared.statement.Body.{Body, out-Body, roll-Body, roll-out-Body}
use Rattle.c_typed.specs.declared.statement.Body.TheFolds as folds
use Rattle.c_typed.specs.declared.statement.Body.TheOpen as form
use Rattle.c_typed.specs.declared.statement.Body.TheOpen.{Body-F}
use Rattle.c_typed.specs.declared.statement.Body.TheVariants as body
use Rattle.c_typed.specs.declared.statement.Block.{Block}
use Rattle.c_typed.specs.declared.statement.Entry.{Entry}
use Rattle.c_typed.specs.declared.statement.ForStart.{ForStart}
use Rattle.c_typed.specs.declared.program.Function.{Function}
use Rattle.c_typed.specs.declared.program.Program.{Program}
use Rattle.c_typed.specs.Lawful.{Where, IsPointer, FunctionIsLawful, BodyIsLawful, ExpressionIsLawful, SiteIsLawful, NumberedFrom}
use Rattle.c_typed.specs.Sites.{Expression, BlockRow, no_block, sites, expressions, summary}
use Rattle.elaborate.specs.Expressions.{body_trees, block_trees}
use Rattle.c_model.specs.Program as model
use Rattle.c_model.specs.Program.{Decl, Stmt}
use Rattle.c_model.specs.World.{World}
use Rattle.c_model.specs.Steps.{body_of}
use Rattle.program_view.specs.Trees.{expr_of, is_pointer}
use Rattle.program_view.specs.Statements.{definition}
use Rattle.program_view.specs.View.{function_of}
use Rattle.program_view.proofs.Equations.{stmt-block, definition-block}
use Rattle.run_statements.specs.declared.numbers.Numbers.{Numbers}
use Rattle.run_statements.specs.Bodies.{Stands, IsStatement}
use Rattle.run_layout.specs.declared.steps.Expression.{Expression as Laid}
use Rattle.run_layout.specs.declared.steps.FunctionCode.{FunctionCode}
use Rattle.run_layout.specs.declared.whole.Code.{Code}
use Rattle.run_layout.specs.Fitting.{AccessFits, SiteFits, TreeFits, StoreFits}
use Rattle.run_layout.specs.Roots.{as_block, block_in, trees_in, code_trees}
use Rattle.run_code.specs.Statements.{IsCodeOf, AreCodeOf, IsNumberedBy}
use Rattle.run_state.specs.Meaning.{AccessSuits}
use Rattle.code_view.specs.Numbering.{RowHas, root_by, row_decls, body_decls, function_decls, decls_in, switch_by, meaning_of}
use Rattle.code_view.specs.Laws.{RootsStand, BodiesStand, SwitchesStand, TreesFit, ConstantsAreLawful, LawfulCodeStands}
use Rattle.code_view.proofs.Viewed.{body_seen}
use Rattle.code_view.proofs.Full.{body_full}
use Rattle.code_view.proofs.Own.{all_own}
use Rattle.code_view.proofs.Listed.{HeadLists, lists_lawful}
use Rattle.code_view.proofs.Sited.{head_fits}

-- a number stands for the full expression that has it
same_place : (rs : List (Bor Typed)) (es : List Laid) (n : ℕ) (r : Bor Typed) → slice_get rs n ≡ Some r → map (λ x. x.now) rs ≡ map (λ e. e.root.now) es
    → root_by (slice_get es n) ≡ expr_of r.now
same_place [] es zero r at h = absurd (cc)
same_place [] es (suc n) r at h = absurd (cc)
same_place (x ∷ rs) [] n r at h = absurd (cc)
same_place (x ∷ rs) (e ∷ es) zero r at h =
    let is : x ≡ r = cc in
    let same : x.now ≡ e.root.now = cc in
    ap expr_of (sym same) ∙ ap (λ (z : Bor Typed). expr_of z.now) is
same_place (x ∷ rs) (e ∷ es) (suc n) r at h = same_place rs es n r at (cc)

numbers_stand : (p : Program) (numbers : Numbers) (c : Code) (f : Option ℕ) → map (λ x. x.now) numbers.roots.items ≡ map (λ e. e.root.now) c.expressions.items
    → Stands (meaning_of p numbers c f) expr_of numbers
numbers_stand p numbers c f h = record {
  root = λ n r at. same_place numbers.roots.items c.expressions.items n r at h;
  body = λ n b at. ap (switch_by (decls_in p f)) at;
}

-- the function that has the code of this number, and its block
code_at : (numbers : Numbers) (fs : List Function) (cs : List (Option FunctionCode)) (n : ℕ) (c : FunctionCode) → AreCodeOf numbers fs cs
    → slice_get cs n ≡ Some (Some c) → (f : Function) × (slice_get fs n ≡ Some f) × IsCodeOf numbers (block_in f.body) (Some c)
code_at numbers [] [] zero c h at = absurd (cc)
code_at numbers [] [] (suc n) c h at = absurd (cc)
code_at numbers [] (d ∷ cs) n c h at = absurd h
code_at numbers (f ∷ fs) [] n c h at = absurd h
code_at numbers (f ∷ fs) (d ∷ cs) zero c h at = let is : d ≡ Some c = cc in (f, refl, subst (IsCodeOf numbers (block_in f.body)) is h.0)
code_at numbers (f ∷ fs) (d ∷ cs) (suc n) c h at = code_at numbers fs cs n c h.1 at

block_there : (numbers : Numbers) (o : Option Block) (c : FunctionCode) → IsCodeOf numbers o (Some c)
    → (b : Block) × (o ≡ Some b) × IsStatement numbers (body.Block b) c.body
block_there numbers None c h = absurd h
block_there numbers (Some b) c h = (b, refl, h)

form_of : (z : Body-F Body Entry ForStart Block) (b : Block) → as_block z ≡ Some b → z ≡ form.Block b
form_of (form.Block y) b e = let same : y ≡ b = cc in ap form.Block same
form_of _ b e = absurd (cc)

pub body_there : (o : Option Body) (b : Block) → block_in o ≡ Some b → o ≡ Some (body.Block b)
body_there None b e = absurd (cc)
body_there (Some x) b e = ap Some (sym (roll-out-Body x) ∙ (ap roll-Body (form_of (out-Body x) b e) ∙ body.rolls-Block b))

pub function_body : (world : World) (n : ℕ) (f : model.Function) → slice_get world.program.functions n ≡ Some f → body_of world (Some n) ≡ f.body
function_body world n f e = rw e

-- blocks that are numbered from one on have the objects of their rows
rows_have : (tags : List Tag) (all rows : List BlockRow) (k : ℕ) → NumberedFrom k rows → ((i : ℕ) → slice_get all (k + i) ≡ slice_get rows i)
    → All (RowHas tags (λ n. row_decls tags (slice_get all n))) rows
rows_have tags all [] k h at = All-nil (RowHas tags (λ n. row_decls tags (slice_get all n)))
rows_have tags all (b ∷ bs) k h at =
    let P = RowHas tags (λ n. row_decls tags (slice_get all n)) in
    let here : slice_get all b.number ≡ Some b = ap (slice_get all) (let n = h.0 in omega (arith, n)) ∙ at 0 in
    All-cons P b bs (ap (row_decls tags) here) (rows_have tags all bs (1 + k) h.1 (λ i. ap (slice_get all) (omega arith) ∙ at (suc i)))

pub where_some : {A : Type 0} (P : A → Type 0) (o : Option A) (x : A) → o ≡ Some x → Where P o → P x
where_some P o x e h = let k : Where P (Some x) = subst (Where P) e h in k

-- the code of a function, and the block that it is of
abbrev Found : Program → Numbers → ℕ → FunctionCode → Type 0
Found p numbers n fc =
    (f : Function) × (slice_get p.functions n ≡ Some f) × (b : Block) × (f.body ≡ Some (body.Block b)) × IsStatement numbers (body.Block b) fc.body

found : (p : Program) (numbers : Numbers) (c : Code) → IsNumberedBy numbers p.functions c → (n : ℕ) (fc : FunctionCode)
    → slice_get c.functions.items n ≡ Some (Some fc) → Found p numbers n fc
found p numbers c laid n fc at =
    let f = code_at numbers p.functions c.functions.items n fc laid.1 at in
    let b = block_there numbers (block_in f.0.body) fc f.2 in
    (f.0, f.1, b.0, body_there f.0.body b.0 b.1, b.2)

pub each_at : {A : Type 0} (P : A → Type 0) (xs : List A) (n : ℕ) (x : A) → slice_get xs n ≡ Some x → All P xs → P x
each_at P [] zero x at h = absurd (cc)
each_at P [] (suc n) x at h = absurd (cc)
each_at P (y ∷ ys) zero x at h = let is : y ≡ x = cc in subst P is (All-head P y ys h)
each_at P (y ∷ ys) (suc n) x at h = each_at P ys n x at (All-tail P y ys h)

pub roots_stand : RootsStand
roots_stand p numbers code f n e at = ap root_by at

pub switches_stand : SwitchesStand
switches_stand p numbers c laid n fc at =
    let it = found p numbers c laid n fc at in
    (it.4 (meaning_of p numbers c (Some n)) expr_of (numbers_stand p numbers c (Some n) laid.0)).1

-- the objects of the blocks of a lawful function are those of its rows
objects_have : (p : Program) (n : ℕ) (f : Function) (x : Body) → slice_get p.functions n ≡ Some f → f.body ≡ Some x → FunctionIsLawful p f
    → All (RowHas p.tags (decls_in p (Some n))) (summary x).blocks
objects_have p n f x at is lawful =
    let rows = (summary x).blocks in
    let objects : decls_in p (Some n) ≡ (λ k. row_decls p.tags (slice_get rows k)) =
    ap (λ o k. function_decls p.tags o k) at ∙ ap (λ o k. body_decls p.tags o k) is in
    let law : BodyIsLawful p (signature_of f.ty) x = where_some (BodyIsLawful p (signature_of f.ty)) f.body x is lawful.body in
    subst (λ (d : ℕ → List Decl). All (RowHas p.tags d) rows) (sym objects)
    (rows_have p.tags rows rows 0 law.statements.numbered (λ i. ap (slice_get rows) (omega arith)))

pub bodies_stand : BodiesStand
bodies_stand p numbers c world lawful laid stands n fc at =
    let it = found p numbers c laid n fc at in
    let x : Body = body.Block it.2 in
    let have = objects_have p n it.0 x it.1 it.3 (each_at (FunctionIsLawful p) p.functions n it.0 it.1 lawful.functions) in
    let told = it.4 (meaning_of p numbers c (Some n)) expr_of (numbers_stand p numbers c (Some n) laid.0) in
    let there : slice_get world.program.functions n ≡ Some (function_of p.tags it.0) =
    ap (λ fs. slice_get fs n) stands.functions ∙ (slice_get-map (function_of p.tags) p.functions n ∙ ap (option_map (function_of p.tags)) it.1) in
    function_body world n (function_of p.tags it.0) there
    ∙ (ap (definition p.tags) it.3
    ∙ (definition-block p.tags it.2
    ∙ ap Some (sym (stmt-block p.tags it.2) ∙ (body_seen p.tags (decls_in p (Some n)) x have ∙ sym told.0))))

pub both_give : {A : Type 0} (P Q R : A → Type 0) → ((x : A) → P x → Q x → R x) → (xs : List A) → All P xs → All Q xs → All R xs
both_give P Q R f [] h k = All-nil R
both_give P Q R f (x ∷ xs) h k = All-cons R x xs (f x (All-head P x xs h) (All-head Q x xs k)) (both_give P Q R f xs (All-tail P x xs h) (All-tail Q x xs k))

expression_fits : (p : Program) (f : Signature) (e : Expression) → ExpressionIsLawful p f e → TreeFits p e.tree
expression_fits p f e h =
    both_give (SiteIsLawful p e.blocks) (λ s. HeadLists p s.head) (SiteFits p) (λ s l m. head_fits p e.blocks s.head s.ty s.operands l.types m) (sites e.tree)
    h.nodes (lists_lawful p f e h)

-- the trees of a body
body_fits : (p : Program) (f : Signature) (x : Body) → BodyIsLawful p f x → All (TreeFits p) (body_trees x)
body_fits p f x h =
    body_full (TreeFits p) (all_own (SiteFits p)) x no_block
    (All-weaker (ExpressionIsLawful p f) (λ e. TreeFits p e.tree) (expression_fits p f) (expressions x) h.full)

pub block_form : (b : Block) → body_trees (body.Block b) ≡ block_trees b
block_form b = search (rules, folds.the_lemmas)

function_fits : (p : Program) (f : Function) (o : Option Block) → block_in f.body ≡ o → FunctionIsLawful p f → All (TreeFits p) (trees_in o)
function_fits p f None is h = All-nil (TreeFits p)
function_fits p f (Some b) is h =
    let there : f.body ≡ Some (body.Block b) = body_there f.body b is in
    subst (All (TreeFits p)) (block_form b)
    (body_fits p (signature_of f.ty) (body.Block b) (where_some (BodyIsLawful p (signature_of f.ty)) f.body (body.Block b) there h.body))

functions_fit : (p : Program) (fs : List Function) → All (FunctionIsLawful p) fs → All (TreeFits p) (flat_map code_trees fs)
functions_fit p [] h = All-nil (TreeFits p)
functions_fit p (f ∷ fs) h =
    All-append (TreeFits p) (code_trees f) (flat_map code_trees fs)
    (function_fits p f (block_in f.body) refl (All-head (FunctionIsLawful p) f fs h))
    (functions_fit p fs (All-tail (FunctionIsLawful p) f fs h))

seen_pointer : (ty : CType) → IsPointer ty → is_pointer ty ≡ true
seen_pointer (pointer c t) h = refl
seen_pointer void h = absurd h
seen_pointer (int k) h = absurd h
seen_pointer (enumeration tag) h = absurd h
seen_pointer (array q t count) h = absurd h
seen_pointer (struct tag) h = absurd h
seen_pointer (union tag) h = absurd h
seen_pointer (function r ps v) h = absurd h

suits : (a : Access) (ty : CType) → AccessFits a ty → AccessSuits a ty
suits access.Pointer ty h = seen_pointer ty h
suits access.Function ty h = seen_pointer ty h
suits (access.Integer kind) ty h = tt
suits (access.Whole size align) ty h = tt

pub trees_fit : TreesFit
trees_fit p lawful = functions_fit p p.functions lawful.functions

pub constants_lawful : ConstantsAreLawful
constants_lawful p numbers c lawful laid = (laid.fit (trees_fit p lawful)).constants

pub code_stands : LawfulCodeStands
code_stands p numbers c world lawful laid stands =
    let fit = laid.fit (trees_fit p lawful) in
    record {
      root = roots_stand p numbers c;
      body = bodies_stand p numbers c world lawful laid.numbered stands;
      switches = switches_stand p numbers c laid.numbered;
      stores = All-weaker StoreFits (λ s. AccessSuits s.access (type_of s.ty.now)) (λ s. suits s.access (type_of s.ty.now)) c.tables.stores.items fit.stores;
      constants = fit.constants;
    }
