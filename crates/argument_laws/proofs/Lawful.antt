-- Each call of a lawful program passes as many arguments as its function type has parameters.
use Rattle.std.proofs.Common.{◌≡◌, ℕ, zero, suc, ◌≤◌, Bool, true, false, ◌&&◌, ◌==◌, if◌then◌else◌, List, [], ◌∷◌, ◌++◌, map, length, Option, Some, None}
use Rattle.std.proofs.Common.{refl, sym, ap, ◌∙◌, subst, arith, true≢false}
use Rattle.std.specs.Prelude.{unsigned_abs}
use Rattle.std.specs.List.{All}
use Rattle.std.proofs.lemmas.List.{length-append}
use Rattle.std.proofs.lemmas.List.Elements.{All-nil, All-cons, All-head, All-tail}
use Rattle.c_types.specs.Types.{CType, void, int, enumeration, pointer, array, struct, union, function, Params, Signature}
use Rattle.c_types.specs.Types as types
use Rattle.c_types.specs.declared.tags.Tag.{Tag}
use Rattle.c_typed.specs.declared.tree.Node.{Node, fold-Node, fold-roll-Node, map-Node, out-Node, roll-out-Node}
use Rattle.c_typed.specs.declared.tree.Node.TheOpen as shape
use Rattle.c_typed.specs.declared.tree.Node.TheOpen.{Node-F}
use Rattle.c_typed.specs.declared.tree.Typed.{Typed, out-Typed, fold_out-Typed}
use Rattle.c_typed.specs.declared.program.Program.{Program}
use Rattle.c_typed.specs.Sites.{Site, Seen, SeenNode, seen_node, seen_tree, seen, sites, all_sites, type_seen, type_at, Blocks}
use Rattle.c_typed.specs.Lawful.{Passed, CallTypes, TypesAre, SiteIsLawful}
use Rattle.c_model.specs.Program as model
use Rattle.c_model.specs.Program.{Expr, Stmt, Value, Empty, Declare, Block, If, If_only, Switch, Do, For, Goto, Continue, Break, Return, Return_none, Label}
use Rattle.c_model.specs.Program.{Case, Default, Stmts, end, and_then, more}
use Rattle.c_model.specs.Steps.{target, first_type}
use Rattle.value_laws.specs.Sizes.{type_of}
use Rattle.value_facts.specs.Constants.{EachIn, EachOf, Perhaps}
use Rattle.program_view.specs.Trees.{is_pointer, expr_of, exprs_of}
use Rattle.program_view.proofs.Seen.{node_in, operands_in, own_type, head_in, expr_at}
use Rattle.static_laws.specs.LawfulSizes.{IsOf, PerhapsOf, IsMadeOf, AreMadeOf}
use Rattle.argument_laws.proofs.Counts.{AreAsMany, CallCounts, HeadCounts, ExprCounts, ExprsCount, InnerCounts}

-- ---- what a tree shows
abbrev node_fold : Node → SeenNode
node_fold = fold-Node SeenNode Seen seen_node seen_tree

abbrev seen_in : Node-F Node Typed → SeenNode
seen_in d = seen_node (map-Node Node Typed SeenNode Seen node_fold seen d)

abbrev kinds : List Typed → List CType
kinds ts = map type_seen (map seen ts)

abbrev own_site : Typed → Site
own_site t = record { head = (seen_in (node_in t)).head; ty = own_type t; operands = kinds (operands_in t) }

abbrev below : Typed → List Site
below t = (seen_in (node_in t)).inner ++ all_sites (map seen (operands_in t))

seen_at : (t : Typed) → seen t ≡ record { ty = own_type t; sites = own_site t ∷ below t }
seen_at t =
    let n = (out-Typed t).node in
    fold_out-Typed SeenNode Seen seen_node seen_tree t
    ∙ (ap (shown t) (ap node_fold (sym (roll-out-Node n))) ∙ ap (shown t) (fold-roll-Node SeenNode Seen seen_node seen_tree (out-Node n)))
  where
    shown : Typed → SeenNode → Seen
    shown t s = record {
      ty = own_type t;
      sites = record { head = s.head; ty = own_type t; operands = kinds (operands_in t) } ∷ s.inner ++ all_sites (map seen (operands_in t));
    }

sites_at : (t : Typed) → sites t ≡ own_site t ∷ below t
sites_at t = ap (λ s. s.sites) (seen_at t)

type_is : (t : Typed) → type_of (expr_of t) ≡ type_at t
type_is t = ap type_of (expr_at t) ∙ sym (ap type_seen (seen_at t))

first_is : (e : Expr) (es : model.Exprs) → first_type (more e es) ≡ type_of e
first_is (model.expr h ty line es) rest = refl

-- ---- one call
passed_count : (tags : List Tag) (params : Params) (cs : List Typed) → Passed tags params false (kinds cs) → AreAsMany params (exprs_of cs)
passed_count tags types.none [] h = tt
passed_count tags types.none (c ∷ cs) h = absurd (true≢false (sym h.0))
passed_count tags (types.more constant ty params) [] h = absurd h
passed_count tags (types.more constant ty params) (c ∷ cs) h = passed_count tags params cs h.1

called_counts : (tags : List Tag) (own f : CType) (cs : List Typed) → CallTypes tags own f (kinds cs) → CallCounts (target f) (exprs_of cs)
called_counts tags own (pointer c (function result params false)) cs h = passed_count tags params cs h.2
called_counts tags own (pointer c (function result params true)) cs h = tt
called_counts tags own (pointer c void) cs h = absurd h
called_counts tags own (pointer c (int k)) cs h = absurd h
called_counts tags own (pointer c (enumeration tag)) cs h = absurd h
called_counts tags own (pointer c (pointer d t)) cs h = absurd h
called_counts tags own (pointer c (array q t count)) cs h = absurd h
called_counts tags own (pointer c (struct tag)) cs h = absurd h
called_counts tags own (pointer c (union tag)) cs h = absurd h
called_counts tags own void cs h = absurd h
called_counts tags own (int k) cs h = absurd h
called_counts tags own (enumeration tag) cs h = absurd h
called_counts tags own (array q t count) cs h = absurd h
called_counts tags own (struct tag) cs h = absurd h
called_counts tags own (union tag) cs h = absurd h
called_counts tags own (function r ps v) cs h = absurd h

calls_count : (d : Bool) (own : CType) (cs : List Typed) (p : Program) (blocks : Blocks) → TypesAre p blocks (shape.Call d) own (kinds cs)
    → HeadCounts (model.Call d) (exprs_of cs)
calls_count d own [] p blocks h = absurd h
calls_count d own (c ∷ cs) p blocks h =
    subst (λ z. CallCounts (target z) (exprs_of cs)) (sym (first_is (expr_of c) (exprs_of cs) ∙ type_is c)) (called_counts p.tags own (type_at c) cs h)

-- ---- each node
head_counts : (d : Node-F Node Typed) (own : CType) (cs : List Typed) (p : Program) (blocks : Blocks) → TypesAre p blocks (seen_in d).head own (kinds cs)
    → HeadCounts (head_in d own) (exprs_of cs)
head_counts (shape.Call d) own cs p blocks h = calls_count d own cs p blocks h
head_counts (shape.Const z) own cs p blocks h = go (is_pointer own && (unsigned_abs z == 0))
  where
    go : (b : Bool) → HeadCounts (if b then model.Null else model.Number z) (exprs_of cs)
    go true = tt
    go false = tt
head_counts _ own cs p blocks h = tt

-- the tree that a node holds itself
inner_counts : (d : Node-F Node Typed) (own : CType) (Q : List Site → Type 0) → ((t : Typed) → Q (sites t) → ExprCounts (expr_of t))
    → Q (seen_in d).inner → InnerCounts (head_in d own)
inner_counts (shape.Isolated tree) own Q f q = f tree q
inner_counts (shape.Const z) own Q f q = go (is_pointer own && (unsigned_abs z == 0))
  where
    go : (b : Bool) → InnerCounts (if b then model.Null else model.Number z)
    go true = tt
    go false = tt
inner_counts _ own Q f q = tt

-- ---- the parts of a list
all_left : {A : Type 0} → (P : A → Type 0) (xs ys : List A) → All P (xs ++ ys) → All P xs
all_left P [] ys h = All-nil P
all_left P (x ∷ xs) ys h = All-cons P x xs (All-head P x (xs ++ ys) h) (all_left P xs ys (All-tail P x (xs ++ ys) h))

all_right : {A : Type 0} → (P : A → Type 0) (xs ys : List A) → All P (xs ++ ys) → All P ys
all_right P [] ys h = h
all_right P (x ∷ xs) ys h = all_right P xs ys (All-tail P x (xs ++ ys) h)

module _ (p : Program) (blocks : Blocks) where
  abbrev AreLawful : List Site → Type 0
  AreLawful ss = All (SiteIsLawful p blocks) ss

  -- so many nodes, all lawful
  abbrev Few : ℕ → List Site → Type 0
  Few n ss = (length ss ≤ n) × AreLawful ss

  trees_count : (n : ℕ) → ((t : Typed) → Few n (sites t) → ExprCounts (expr_of t)) → (ts : List Typed) → Few n (all_sites (map seen ts))
      → ExprsCount (exprs_of ts)
  trees_count n f [] h = tt
  trees_count n f (c ∷ cs) (l, h) =
      let rest = all_sites (map seen cs) in
      let m = length-append (sites c) rest in (
        f c (omega (arith, l, m), all_left (SiteIsLawful p blocks) (sites c) rest h),
        trees_count n f cs (omega (arith, l, m), all_right (SiteIsLawful p blocks) (sites c) rest h),
      )

  pub tree_counts : (n : ℕ) (t : Typed) → Few n (sites t) → ExprCounts (expr_of t)
  tree_counts zero t (l, h) = absurd (let e = ap length (sites_at t) in omega (arith, e, l))
  tree_counts (suc n) t (l, h) =
      let inner = (seen_in (node_in t)).inner in
      let rest = all_sites (map seen (operands_in t)) in
      let m = length-append inner rest in
      let e = ap length (sites_at t) in
      let k = subst AreLawful (sites_at t) h in
      let behind = All-tail (SiteIsLawful p blocks) (own_site t) (inner ++ rest) k in
      subst ExprCounts (sym (expr_at t)) (
        head_counts (node_in t) (own_type t) (operands_in t) p blocks (All-head (SiteIsLawful p blocks) (own_site t) (inner ++ rest) k).types,
        (
          inner_counts (node_in t) (own_type t) (Few n) (tree_counts n) (omega (arith, l, m, e), all_left (SiteIsLawful p blocks) inner rest behind),
          trees_count n (tree_counts n) (operands_in t) (omega (arith, l, m, e), all_right (SiteIsLawful p blocks) inner rest behind),
        ),
      )

-- ---- statements that are made of lawful full expressions
module _ (p : Program) (f : Signature) where
  of_counts : (e : Expr) → IsOf p f e → ExprCounts e
  of_counts e h = subst ExprCounts (sym h.is)
      (tree_counts p h.expression.blocks (length (sites h.expression.tree)) h.expression.tree (omega arith, h.lawful.nodes))

  perhaps_counts : (o : Option Expr) → PerhapsOf p f o → Perhaps ExprCounts o
  perhaps_counts None h = tt
  perhaps_counts (Some e) h = of_counts e h

  mutual
    pub made_counts : (s : Stmt) → IsMadeOf p f s → EachOf ExprCounts s
    made_counts (Value e) h = of_counts e h
    made_counts (Block number decls ss) h = all_made_count ss h
    made_counts (If e s t) h = (of_counts e h.0, (made_counts s h.1.0, made_counts t h.1.1))
    made_counts (If_only e s) h = (of_counts e h.0, made_counts s h.1)
    made_counts (Switch e s) h = (of_counts e h.0, made_counts s h.1)
    made_counts (Do s e) h = (made_counts s h.0, of_counts e h.1)
    made_counts (For start test step s) h =
        (perhaps_counts start h.0, (perhaps_counts test h.1.0, (perhaps_counts step h.1.1.0, made_counts s h.1.1.1)))
    made_counts (Return e) h = of_counts e h.of
    made_counts (Label k s) h = made_counts s h
    made_counts (Case z s) h = made_counts s h
    made_counts (Default s) h = made_counts s h
    made_counts Empty h = tt
    made_counts (Declare d) h = tt
    made_counts (Goto k) h = tt
    made_counts Continue h = tt
    made_counts Break h = tt
    made_counts Return_none h = tt

    all_made_count : (ss : Stmts) → AreMadeOf p f ss → EachIn ExprCounts ss
    all_made_count end h = tt
    all_made_count (and_then s ss) h = (made_counts s h.0, all_made_count ss h.1)
