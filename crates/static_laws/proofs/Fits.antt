-- Full expressions that are lawful fit the sizes of their types.
use Rattle.std.proofs.Common.{◌≡◌, ℕ, zero, suc, ◌+◌, ◌<◌, ◌≤◌, Bool, true, false, ◌&&◌, ◌==◌, if◌then◌else◌, List, [], ◌∷◌, ◌++◌, map, length, Option, Some}
use Rattle.std.proofs.Common.{None}
use Rattle.std.proofs.Common.{refl, sym, ap, ◌∙◌, subst, inl, inr, arith, true≢false}
use Rattle.std.specs.Prelude.{unsigned_abs}
use Rattle.std.specs.List.{All}
use Rattle.std.proofs.lemmas.List.{length-append}
use Rattle.std.proofs.lemmas.List.Elements.{All-nil, All-cons, All-head, All-tail}
use Rattle.c_types.specs.Types.{CType, void, int, enumeration, pointer, array, struct, union, function, Params, Signature}
use Rattle.c_types.specs.Types as types
use Rattle.c_types.specs.Layout.{extent, extents, size_of}
use Rattle.c_types.specs.Layout as layout
use Rattle.c_types.specs.declared.tags.Extent.{Extent}
use Rattle.c_types.specs.declared.tags.Tag.{Tag}
use Rattle.c_typed.specs.declared.tree.Access.{Access}
use Rattle.c_typed.specs.declared.tree.Access.TheVariants as access
use Rattle.c_typed.specs.declared.tree.Node.{Node, fold-Node, fold-roll-Node, map-Node, out-Node, roll-out-Node}
use Rattle.c_typed.specs.declared.tree.Node.TheOpen as shape
use Rattle.c_typed.specs.declared.tree.Node.TheOpen.{Node-F}
use Rattle.c_typed.specs.declared.tree.Typed.{Typed, out-Typed, fold_out-Typed}
use Rattle.c_typed.specs.declared.program.Program.{Program}
use Rattle.c_typed.specs.Sites.{Site, Seen, SeenNode, seen_node, seen_tree, seen, sites, all_sites, type_seen, type_at, Blocks}
use Rattle.c_typed.specs.Lawful.{There, AccessIs, FirstOf, Gives, LiesIn, ValueIs, LastIs, Passed, CallTypes, TypesAre, SiteIsLawful}
use Rattle.c_typed.specs.Lawful.{UseFits}
use Rattle.c_model.specs.Program as model
use Rattle.c_model.specs.Program.{Expr, expr, Exprs, none, more, Function, Decl, Stmt, Value, Empty, Declare, Block, If, If_only, Switch, Do, For, Goto}
use Rattle.c_model.specs.Program.{Continue, Break, Return, Return_none, Label, Case, Default, Stmts, end, and_then}
use Rattle.c_model.specs.World.{World}
use Rattle.c_model.specs.Steps.{target, first_type}
use Rattle.value_laws.specs.Sizes.{StatementsFit, FunctionFits, StatementFits, Sizes, Keeps, IsUpTo, type_of, size_at, last_size, result_size, LoadFits}
use Rattle.value_laws.specs.Sizes.{PartFits, StoreFits, NodeFits, ExprFits, ExprsFit, PerhapsFits}
use Rattle.value_laws.specs.Sizes.{InnerFits, ArgumentsFit, ArePassed}
use Rattle.value_laws.specs.Layouts.{size_in, laid_out}
use Rattle.value_laws.proofs.Frames.{keeps_itself}
use Rattle.value_laws.proofs.Layouts.{call_keeps}
use Rattle.program_view.specs.Trees.{is_pointer, expr_of, exprs_of}
use Rattle.static_laws.specs.LawfulSizes.{LawfulExpressionsFit, LawfulResultsFit, LawfulProgramsFit, IsOf, IsReturnedOf, PerhapsOf, IsMadeOf, AreMadeOf}
use Rattle.program_view.specs.View.{type_by}
use Rattle.static_laws.specs.LawfulSizes.{ObjectsAre, BeginsWith, IsFunctionOf, IsProgramOf, LawfulParametersFit}
use Rattle.value_laws.specs.Parameters.{parameters, ObjectsFit, BodyTakes, Passes, FunctionTakes}
use Rattle.program_view.proofs.Seen.{node_in, operands_in, own_type, head_in, expr_at}

-- what a tree shows
abbrev node_fold : Node → SeenNode
node_fold = fold-Node SeenNode Seen seen_node seen_tree

abbrev seen_in : Node-F Node Typed → SeenNode
seen_in d = seen_node (map-Node Node Typed SeenNode Seen node_fold seen d)

abbrev kinds : List Typed → List CType
kinds ts = map type_seen (map seen ts)

abbrev own_site : Typed → Site
own_site t = record { head = (seen_in (node_in t)).head; ty = own_type t; operands = kinds (operands_in t) }

abbrev below : Typed → List Site
below t = (seen_in (node_in t)).inner ++ all_sites (map seen (operands_in t))

seen_at : (t : Typed) → seen t ≡ record { ty = own_type t; sites = own_site t ∷ below t }
seen_at t =
    let n = (out-Typed t).node in
    fold_out-Typed SeenNode Seen seen_node seen_tree t
    ∙ (ap (shown t) (ap node_fold (sym (roll-out-Node n))) ∙ ap (shown t) (fold-roll-Node SeenNode Seen seen_node seen_tree (out-Node n)))
  where
    shown : Typed → SeenNode → Seen
    shown t s = record {
      ty = own_type t;
      sites = record { head = s.head; ty = own_type t; operands = kinds (operands_in t) } ∷ s.inner ++ all_sites (map seen (operands_in t));
    }

sites_at : (t : Typed) → sites t ≡ own_site t ∷ below t
sites_at t = ap (λ s. s.sites) (seen_at t)

type_is : (t : Typed) → type_of (expr_of t) ≡ type_at t
type_is t = ap type_of (expr_at t) ∙ sym (ap type_seen (seen_at t))

module _ (tags : List Tag) where
  abbrev sizes_of : Sizes
  sizes_of = laid_out tags

  -- a pointer to the first element of an array has the size of any
  first_size : (own : CType) (c : Bool) (t : CType) → FirstOf own c t → sizes_of own ≡ Some 8
  first_size own c (array q t count) (inl e) = ap sizes_of e
  first_size own c (array q t count) (inr h) = first_size own q t h
  first_size own c void e = ap sizes_of e
  first_size own c (int k) e = ap sizes_of e
  first_size own c (enumeration tag) e = ap sizes_of e
  first_size own c (pointer d t) e = ap sizes_of e
  first_size own c (struct tag) e = ap sizes_of e
  first_size own c (union tag) e = ap sizes_of e
  first_size own c (function r ps v) e = ap sizes_of e

  -- what a value gives has its size
  gives_size : (own t : CType) → Gives own t → sizes_of own ≡ sizes_of t
  gives_size own (pointer c t) h = first_size own c t h
  gives_size own void e = ap sizes_of e
  gives_size own (int k) e = ap sizes_of e
  gives_size own (enumeration tag) e = ap sizes_of e
  gives_size own (array q t count) e = ap sizes_of e
  gives_size own (struct tag) e = ap sizes_of e
  gives_size own (union tag) e = ap sizes_of e
  gives_size own (function r ps v) e = ap sizes_of e

  same_keeps : (a b : Option ℕ) → b ≡ a → Keeps a b
  same_keeps a b e = subst (Keeps a) (sym e) (keeps_itself a)

  value_keeps : (own t : CType) → ValueIs own t → Keeps (sizes_of t) (sizes_of own)
  value_keeps void t h = tt
  value_keeps (int k) t h = same_keeps (sizes_of t) (sizes_of (int k)) (gives_size (int k) t h)
  value_keeps (enumeration tag) t h = same_keeps (sizes_of t) (sizes_of (enumeration tag)) (gives_size (enumeration tag) t h)
  value_keeps (pointer c u) t h = same_keeps (sizes_of t) (sizes_of (pointer c u)) (gives_size (pointer c u) t h)
  value_keeps (array q u count) t h = same_keeps (sizes_of t) (sizes_of (array q u count)) (gives_size (array q u count) t h)
  value_keeps (struct tag) t h = same_keeps (sizes_of t) (sizes_of (struct tag)) (gives_size (struct tag) t h)
  value_keeps (union tag) t h = same_keeps (sizes_of t) (sizes_of (union tag)) (gives_size (union tag) t h)
  value_keeps (function r ps v) t h = same_keeps (sizes_of t) (sizes_of (function r ps v)) (gives_size (function r ps v) t h)

  -- a whole access is of a structure or union with an extent
  abbrev IsSizedBy : ℕ → Option ℕ → Type 0
  IsSizedBy n o = (o ≡ Some n) × (0 < n)

  extent_size : (o : Option Extent) (n align : ℕ) → There o (λ e. (0 < e.size) × (access.Whole n align ≡ access.Whole e.size e.align)) → IsSizedBy n (size_in o)
  extent_size None n align h = absurd h
  extent_size (Some e) n align h =
      (let same : n ≡ e.size = whole_is n e.size align e.align h.1 in (ap Some (sym same), (let p = h.0 in omega (arith, p, same))))
    where
      whole_is : (n m a b : ℕ) → access.Whole n a ≡ access.Whole m b → n ≡ m
      whole_is n m a b e = cc

  no_integer : (n align : ℕ) (k : _) → access.Whole n align ≡ access.Integer k → ⊥
  no_integer n align k e = cc

  no_pointer : (n align : ℕ) → access.Whole n align ≡ access.Pointer → ⊥
  no_pointer n align e = cc

  no_function : (n align : ℕ) → access.Whole n align ≡ access.Function → ⊥
  no_function n align e = cc

  access_size : (t : CType) (n align : ℕ) → AccessIs tags t (access.Whole n align) → IsSizedBy n (sizes_of t)
  access_size (struct tag) n align h = extent_size (extent (extents tags) (struct tag)) n align h
  access_size (union tag) n align h = extent_size (extent (extents tags) (union tag)) n align h
  access_size (int k) n align h = absurd (no_integer n align k h)
  access_size (enumeration tag) n align h = absurd (no_integer n align _ h)
  access_size (pointer c (function r ps v)) n align h = absurd (no_function n align h)
  access_size (pointer c void) n align h = absurd (no_pointer n align h)
  access_size (pointer c (int k)) n align h = absurd (no_pointer n align h)
  access_size (pointer c (enumeration tag)) n align h = absurd (no_pointer n align h)
  access_size (pointer c (pointer d t)) n align h = absurd (no_pointer n align h)
  access_size (pointer c (array q t count)) n align h = absurd (no_pointer n align h)
  access_size (pointer c (struct tag)) n align h = absurd (no_pointer n align h)
  access_size (pointer c (union tag)) n align h = absurd (no_pointer n align h)
  access_size void n align h = absurd h
  access_size (array q t count) n align h = absurd h
  access_size (function r ps v) n align h = absurd h

  load_fits : (a : Access) (own t : CType) → Gives own t → AccessIs tags t a → LoadFits a (sizes_of own)
  load_fits (access.Whole n align) own t g h = same_keeps (Some n) (sizes_of own) (gives_size own t g ∙ (access_size t n align h).0)
  load_fits (access.Integer k) own t g h = tt
  load_fits access.Pointer own t g h = tt
  load_fits access.Function own t g h = tt

  store_fits : (a : Access) (t : CType) → AccessIs tags t a → StoreFits a (sizes_of t)
  store_fits (access.Whole n align) t h = (access_size t n align h).0
  store_fits (access.Integer k) t h = tt
  store_fits access.Pointer t h = tt
  store_fits access.Function t h = tt

  part_fits : (offset : ℕ) (a : Access) (own t : CType) → LiesIn tags offset own t → AccessIs tags own a → PartFits offset a (sizes_of own) (sizes_of t)
  part_fits offset (access.Whole n align) own t l h =
      let s = access_size own n align h in
      (lies (extent (extents tags) own) (extent (extents tags) t) n s.0 s.1 l.1, same_keeps (Some n) (sizes_of own) s.0)
    where
      some_is : (n m : ℕ) → Some n ≡ Some m → n ≡ m
      some_is n m e = cc

      lies : (o q : Option Extent) (n : ℕ) → size_in o ≡ Some n → 0 < n → offset + layout.size_in o ≤ layout.size_in q → IsUpTo (offset + n) (size_in q)
      lies None q n e p k = absurd (cc)
      lies (Some x) None n e p k = (let same = some_is x.size n e in absurd (omega (arith, same, p, k)))
      lies (Some x) (Some y) n e p k = (let same = some_is x.size n e in omega (arith, same, k))
  part_fits offset (access.Integer k) own t l h = tt
  part_fits offset access.Pointer own t l h = tt
  part_fits offset access.Function own t l h = tt

  -- operands of these types
  abbrev HaveTypes : List Typed → List CType → Type 0
  HaveTypes cs ts = kinds cs ≡ ts

  operand_size : (c : Typed) (t : CType) → type_at c ≡ t → sizes_of (type_of (expr_of c)) ≡ sizes_of t
  operand_size c t e = ap sizes_of (type_is c ∙ e)

  first_is : (e : Expr) (es : Exprs) → first_type (more e es) ≡ type_of e
  first_is (expr h ty line es) rest = refl

  head_type : (t u : CType) (ts us : List CType) → t ∷ ts ≡ u ∷ us → (t ≡ u) × (ts ≡ us)
  head_type t u ts us e = ((let k : t ≡ u = cc in k), (let k : ts ≡ us = cc in k))

  -- of a node by the shapes that have a condition
  loads_fit : (a : Access) (own : CType) (ts : List CType) (p : Program) (blocks : Blocks) → p.tags ≡ tags → TypesAre p blocks (shape.Load a) own ts
      → LoadFits a (sizes_of own)
  loads_fit a own [] p blocks e h = absurd h
  loads_fit a own (pointer c t ∷ []) p blocks e h = load_fits a own t h.0 (subst (λ z. AccessIs z t a) e h.1)
  loads_fit a own (pointer c t ∷ u ∷ us) p blocks e h = absurd h
  loads_fit a own (void ∷ us) p blocks e h = absurd h
  loads_fit a own (int k ∷ us) p blocks e h = absurd h
  loads_fit a own (enumeration tag ∷ us) p blocks e h = absurd h
  loads_fit a own (array q t count ∷ us) p blocks e h = absurd h
  loads_fit a own (struct tag ∷ us) p blocks e h = absurd h
  loads_fit a own (union tag ∷ us) p blocks e h = absurd h
  loads_fit a own (function r ps v ∷ us) p blocks e h = absurd h

  parts_fit : (offset : ℕ) (a : Access) (own : CType) (cs : List Typed) (p : Program) (blocks : Blocks) → p.tags ≡ tags
      → TypesAre p blocks (shape.Part offset a) own (kinds cs) → PartFits offset a (sizes_of own) (size_at sizes_of (exprs_of cs) 0)
  parts_fit offset a own [] p blocks e h = absurd h
  parts_fit offset a own (c ∷ []) p blocks e h =
      subst (PartFits offset a (sizes_of own)) (sym (operand_size c (type_at c) refl))
      (part_fits offset a own (type_at c) (subst (λ z. LiesIn z offset own (type_at c)) e h.1) (subst (λ z. AccessIs z own a) e h.2))
  parts_fit offset a own (c ∷ d ∷ cs) p blocks e h = absurd h

  abbrev StoresBy : Access → CType → Option ℕ → Type 0
  StoresBy a own value = StoreFits a value × Keeps value (sizes_of own)

  assigned : (initializing : Bool) (a : Access) (own place value : CType) (p : Program) (blocks : Blocks) → p.tags ≡ tags
      → TypesAre p blocks (shape.Assign initializing a) own (place ∷ value ∷ []) → StoresBy a own (sizes_of value)
  assigned initializing a own (pointer c t) value p blocks e h =
      subst (λ z. StoresBy a own (sizes_of z)) (sym h.1)
      (store_fits a t (subst (λ z. AccessIs z t a) e h.2), same_keeps (sizes_of t) (sizes_of own) (gives_size own t h.0))
  assigned initializing a own void value p blocks e h = absurd h
  assigned initializing a own (int k) value p blocks e h = absurd h
  assigned initializing a own (enumeration tag) value p blocks e h = absurd h
  assigned initializing a own (array q t count) value p blocks e h = absurd h
  assigned initializing a own (struct tag) value p blocks e h = absurd h
  assigned initializing a own (union tag) value p blocks e h = absurd h
  assigned initializing a own (function r ps v) value p blocks e h = absurd h

  no_assign : (initializing : Bool) (a : Access) (own place : CType) (rest : List CType) (p : Program) (blocks : Blocks)
      → (length rest ≡ 1 → ⊥) → TypesAre p blocks (shape.Assign initializing a) own (place ∷ rest) → ⊥
  no_assign initializing a own (pointer c t) [] p blocks n h = h
  no_assign initializing a own (pointer c t) (u ∷ []) p blocks n h = n refl
  no_assign initializing a own (pointer c t) (u ∷ v ∷ us) p blocks n h = h
  no_assign initializing a own void rest p blocks n h = h
  no_assign initializing a own (int k) rest p blocks n h = h
  no_assign initializing a own (enumeration tag) rest p blocks n h = h
  no_assign initializing a own (array q t count) rest p blocks n h = h
  no_assign initializing a own (struct tag) rest p blocks n h = h
  no_assign initializing a own (union tag) rest p blocks n h = h
  no_assign initializing a own (function r ps v) rest p blocks n h = h

  assigns_fit : (initializing : Bool) (a : Access) (own : CType) (cs : List Typed) (p : Program) (blocks : Blocks) → p.tags ≡ tags
      → TypesAre p blocks (shape.Assign initializing a) own (kinds cs) → StoresBy a own (size_at sizes_of (exprs_of cs) 1)
  assigns_fit initializing a own [] p blocks e h = absurd h
  assigns_fit initializing a own (c ∷ []) p blocks e h = absurd (no_assign initializing a own (type_at c) [] p blocks (λ n. absurd (omega (arith, n))) h)
  assigns_fit initializing a own (c ∷ d ∷ []) p blocks e h =
      subst (StoresBy a own) (sym (operand_size d (type_at d) refl)) (assigned initializing a own (type_at c) (type_at d) p blocks e h)
  assigns_fit initializing a own (c ∷ d ∷ f ∷ cs) p blocks e h =
      absurd (no_assign initializing a own (type_at c) (type_at d ∷ type_at f ∷ kinds cs) p blocks (λ n. absurd (omega (arith, n))) h)

  choices_fit : (own : CType) (cs : List Typed) (p : Program) (blocks : Blocks) → TypesAre p blocks shape.Cond own (kinds cs)
      → Keeps (size_at sizes_of (exprs_of cs) 1) (sizes_of own) × Keeps (size_at sizes_of (exprs_of cs) 2) (sizes_of own)
  choices_fit own [] p blocks h = absurd h
  choices_fit own (c ∷ []) p blocks h = absurd h
  choices_fit own (c ∷ d ∷ []) p blocks h = absurd h
  choices_fit own (c ∷ d ∷ f ∷ []) p blocks h = (
    subst (λ z. Keeps z (sizes_of own)) (sym (operand_size d (type_at d) refl)) (value_keeps own (type_at d) h.1),
    subst (λ z. Keeps z (sizes_of own)) (sym (operand_size f (type_at f) refl)) (value_keeps own (type_at f) h.2),
  )
  choices_fit own (c ∷ d ∷ f ∷ g ∷ cs) p blocks h = absurd h

  last_fits : (own : CType) (cs : List Typed) → LastIs own (kinds cs) → Keeps (last_size sizes_of (exprs_of cs)) (sizes_of own)
  last_fits own [] h = absurd h
  last_fits own (c ∷ []) h = subst (λ z. Keeps z (sizes_of own)) (sym (operand_size c (type_at c) refl)) (value_keeps own (type_at c) h)
  last_fits own (c ∷ d ∷ cs) h = last_fits own (d ∷ cs) h

  arguments_fit : (params : Params) (cs : List Typed) → Passed tags params false (kinds cs) → ArePassed sizes_of params (exprs_of cs)
  arguments_fit types.none [] h = tt
  arguments_fit types.none (c ∷ cs) h = absurd (true≢false (sym h.0))
  arguments_fit (types.more constant ty params) [] h = tt
  arguments_fit (types.more constant ty params) (c ∷ cs) h = (
    same_keeps (sizes_of (type_of (expr_of c))) (sizes_of ty) (sym (operand_size c ty h.0)),
    arguments_fit params cs h.1,
  )

  abbrev CallBy : CType → CType → Exprs → Type 0
  CallBy own f es = Keeps (result_size sizes_of (target f)) (sizes_of own) × ArgumentsFit sizes_of (target f) es

  called_fits : (own f : CType) (cs : List Typed) → CallTypes tags own f (kinds cs) → CallBy own f (exprs_of cs)
  called_fits own (pointer c (function result params false)) cs h =
      (same_keeps (sizes_of result) (sizes_of own) (gives_size own result h.0), arguments_fit params cs h.2)
  called_fits own (pointer c (function result params true)) cs h = (same_keeps (sizes_of result) (sizes_of own) (gives_size own result h.0), tt)
  called_fits own (pointer c void) cs h = absurd h
  called_fits own (pointer c (int k)) cs h = absurd h
  called_fits own (pointer c (enumeration tag)) cs h = absurd h
  called_fits own (pointer c (pointer d t)) cs h = absurd h
  called_fits own (pointer c (array q t count)) cs h = absurd h
  called_fits own (pointer c (struct tag)) cs h = absurd h
  called_fits own (pointer c (union tag)) cs h = absurd h
  called_fits own void cs h = absurd h
  called_fits own (int k) cs h = absurd h
  called_fits own (enumeration tag) cs h = absurd h
  called_fits own (array q t count) cs h = absurd h
  called_fits own (struct tag) cs h = absurd h
  called_fits own (union tag) cs h = absurd h
  called_fits own (function r ps v) cs h = absurd h

  calls_fit : (d : Bool) (own : CType) (cs : List Typed) (p : Program) (blocks : Blocks) → p.tags ≡ tags → TypesAre p blocks (shape.Call d) own (kinds cs)
      → NodeFits sizes_of (model.Call d) own (exprs_of cs)
  calls_fit d own [] p blocks e h = absurd h
  calls_fit d own (c ∷ cs) p blocks e h =
      subst (λ z. CallBy own z (exprs_of cs)) (sym (first_is (expr_of c) (exprs_of cs) ∙ type_is c))
      (called_fits own (type_at c) cs (subst (λ z. CallTypes z own (type_at c) (kinds cs)) e h))

  -- each node
  head_fits : (d : Node-F Node Typed) (own : CType) (cs : List Typed) (p : Program) (blocks : Blocks) → p.tags ≡ tags
      → TypesAre p blocks (seen_in d).head own (kinds cs) → NodeFits sizes_of (head_in d own) own (exprs_of cs)
  head_fits (shape.Load a) own cs p blocks e h = loads_fit a own (kinds cs) p blocks e h
  head_fits (shape.Part offset a) own cs p blocks e h = parts_fit offset a own cs p blocks e h
  head_fits (shape.Assign initializing a) own cs p blocks e h = assigns_fit initializing a own cs p blocks e h
  head_fits shape.Cond own cs p blocks e h = choices_fit own cs p blocks h
  head_fits shape.Comma own cs p blocks e h = last_fits own cs h
  head_fits (shape.Call d) own cs p blocks e h = calls_fit d own cs p blocks e h
  head_fits (shape.Const z) own cs p blocks e h = go (is_pointer own && (unsigned_abs z == 0))
    where
      go : (b : Bool) → NodeFits sizes_of (if b then model.Null else model.Number z) own (exprs_of cs)
      go true = tt
      go false = tt
  head_fits _ own cs p blocks e h = tt

  -- the tree that a node holds itself
  inner_fits : (d : Node-F Node Typed) (own : CType) (Q : List Site → Type 0)
      → ((t : Typed) → Q (sites t) → ExprFits sizes_of (expr_of t)) → Q (seen_in d).inner → InnerFits sizes_of (head_in d own)
  inner_fits (shape.Isolated tree) own Q f q = f tree q
  inner_fits (shape.Const z) own Q f q = go (is_pointer own && (unsigned_abs z == 0))
    where
      go : (b : Bool) → InnerFits sizes_of (if b then model.Null else model.Number z)
      go true = tt
      go false = tt
  inner_fits _ own Q f q = tt

-- the parts of a list
all_left : {A : Type 0} → (P : A → Type 0) (xs ys : List A) → All P (xs ++ ys) → All P xs
all_left P [] ys h = All-nil P
all_left P (x ∷ xs) ys h = All-cons P x xs (All-head P x (xs ++ ys) h) (all_left P xs ys (All-tail P x (xs ++ ys) h))

all_right : {A : Type 0} → (P : A → Type 0) (xs ys : List A) → All P (xs ++ ys) → All P ys
all_right P [] ys h = h
all_right P (x ∷ xs) ys h = all_right P xs ys (All-tail P x (xs ++ ys) h)

module _ (p : Program) (blocks : Blocks) where
  abbrev AreLawful : List Site → Type 0
  AreLawful ss = All (SiteIsLawful p blocks) ss

  -- so many nodes, all lawful
  abbrev Few : ℕ → List Site → Type 0
  Few n ss = (length ss ≤ n) × AreLawful ss

  trees_fit : (n : ℕ) → ((t : Typed) → Few n (sites t) → ExprFits (laid_out p.tags) (expr_of t)) → (ts : List Typed)
      → Few n (all_sites (map seen ts)) → ExprsFit (laid_out p.tags) (exprs_of ts)
  trees_fit n f [] h = tt
  trees_fit n f (c ∷ cs) (l, h) =
      let rest = all_sites (map seen cs) in
      let m = length-append (sites c) rest in (
        f c (omega (arith, l, m), all_left (SiteIsLawful p blocks) (sites c) rest h),
        trees_fit n f cs (omega (arith, l, m), all_right (SiteIsLawful p blocks) (sites c) rest h),
      )

  tree_fits : (n : ℕ) (t : Typed) → Few n (sites t) → ExprFits (laid_out p.tags) (expr_of t)
  tree_fits zero t (l, h) = absurd (let e = ap length (sites_at t) in omega (arith, e, l))
  tree_fits (suc n) t (l, h) =
      let inner = (seen_in (node_in t)).inner in
      let rest = all_sites (map seen (operands_in t)) in
      let m = length-append inner rest in
      let e = ap length (sites_at t) in
      let k = subst AreLawful (sites_at t) h in
      subst (ExprFits (laid_out p.tags)) (sym (expr_at t)) (
        head_fits p.tags (node_in t) (own_type t) (operands_in t) p blocks refl (All-head (SiteIsLawful p blocks) (own_site t) (inner ++ rest) k).types,
        (
          inner_fits p.tags (node_in t) (own_type t) (Few n) (tree_fits n)
              (omega (arith, l, m, e), all_left (SiteIsLawful p blocks) inner rest (All-tail (SiteIsLawful p blocks) (own_site t) (inner ++ rest) k)),
          trees_fit n (tree_fits n) (operands_in t) (
            omega (arith, l, m, e),
            all_right (SiteIsLawful p blocks) inner rest
                (All-tail (SiteIsLawful p blocks) (own_site t) (inner ++ rest) k),
          ),
        ),
      )

pub expressions_fit : LawfulExpressionsFit
expressions_fit p f e h = tree_fits p e.blocks (length (sites e.tree)) e.tree (omega arith, h.nodes)

pub results_fit : LawfulResultsFit
results_fit p f e h use_is =
    let fits = subst (λ z. UseFits p f z (type_at e.tree)) use_is h.fits in
    same_keeps p.tags (laid_out p.tags (type_of (expr_of e.tree))) (laid_out p.tags f.result) (sym (operand_size p.tags e.tree f.result fits.0))

-- what is made of lawful full expressions
module _ (p : Program) (f : Signature) where
  abbrev sizes : Sizes
  sizes = laid_out p.tags

  of_fits : (e : Expr) → IsOf p f e → ExprFits sizes e
  of_fits e h = subst (ExprFits sizes) (sym h.is) (expressions_fit p f h.expression h.lawful)

  returned_fits : (e : Expr) → IsReturnedOf p f e → ExprFits sizes e × Keeps (sizes (type_of e)) (sizes f.result)
  returned_fits e h = (
    of_fits e h.of,
    subst (λ z. Keeps (sizes (type_of z)) (sizes f.result)) (sym h.of.is) (results_fit p f h.of.expression h.of.lawful h.returns),
  )

  perhaps_fits : (o : Option Expr) → PerhapsOf p f o → PerhapsFits sizes o
  perhaps_fits None h = tt
  perhaps_fits (Some e) h = of_fits e h

  mutual
    made_fits : (s : Stmt) → IsMadeOf p f s → StatementFits sizes (sizes f.result) s
    made_fits (Value e) h = of_fits e h
    made_fits (Block number decls ss) h = all_made_fit ss h
    made_fits (If e s t) h = (of_fits e h.0, (made_fits s h.1.0, made_fits t h.1.1))
    made_fits (If_only e s) h = (of_fits e h.0, made_fits s h.1)
    made_fits (Switch e s) h = (of_fits e h.0, made_fits s h.1)
    made_fits (Do s e) h = (made_fits s h.0, of_fits e h.1)
    made_fits (For start test step s) h =
        (perhaps_fits start h.0, (perhaps_fits test h.1.0, (perhaps_fits step h.1.1.0, made_fits s h.1.1.1)))
    made_fits (Return e) h = returned_fits e h
    made_fits (Label k s) h = made_fits s h
    made_fits (Case z s) h = made_fits s h
    made_fits (Default s) h = made_fits s h
    made_fits Empty h = tt
    made_fits (Declare d) h = tt
    made_fits (Goto k) h = tt
    made_fits Continue h = tt
    made_fits Break h = tt
    made_fits Return_none h = tt

    all_made_fit : (ss : Stmts) → AreMadeOf p f ss → StatementsFit sizes (sizes f.result) ss
    all_made_fit end h = tt
    all_made_fit (and_then s ss) h = (made_fits s h.0, all_made_fit ss h.1)

function_fits : (p : Program) (world : World) → IsProgramOf p world → (number : ℕ) (fun : Function) → IsFunctionOf p fun
    → FunctionFits (laid_out p.tags) world number fun
function_fits p world h number fun g = record {
  body = λ s e. subst (λ t. StatementFits (laid_out p.tags) (result_size (laid_out p.tags) t) s) (sym g.ty) (made_fits p g.signature s (g.body s e).made);
  agrees = λ result params variadic e.
      let by : Signature = record { result = result; params = params; variadic = variadic } in
      let same = subst (λ t. world.agree t (type_by by) ≡ true) g.ty e in
      subst (λ t. Keeps (result_size (laid_out p.tags) t) (laid_out p.tags result)) (sym g.ty)
      (call_keeps p.tags (type_by g.signature) (type_by by) g.usual (h.agree g.signature by same)).gives;
}

objects_fit : (tags : List Tag) (params : Params) (ds : List Decl) → ObjectsAre tags params ds → ObjectsFit (laid_out tags) params ds
objects_fit tags params [] h = tt
objects_fit tags types.none (d ∷ ds) h = tt
objects_fit tags (types.more constant ty params) (d ∷ ds) h = (store_fits tags d.access ty h.0, objects_fit tags params ds h.1)

body_takes : (tags : List Tag) (params : Params) (s : Stmt) → BeginsWith tags params s → BodyTakes (laid_out tags) params s
body_takes tags params (Block number decls ss) h = objects_fit tags params decls h
body_takes tags params s h = absurd h

function_takes : (p : Program) (world : World) → IsProgramOf p world → (fun : Function) (s : Stmt) → IsFunctionOf p fun → fun.body ≡ Some s
    → FunctionTakes (laid_out p.tags) world fun s
function_takes p world h fun s g e = record {
  objects = subst (λ t. BodyTakes (laid_out p.tags) (parameters t) s) (sym g.ty) (body_takes p.tags g.signature.params s (g.body s e).begins);
  agrees = λ result params variadic a.
      let by : Signature = record { result = result; params = params; variadic = variadic } in
      let same = subst (λ t. world.agree t (type_by by) ≡ true) g.ty a in
      subst (λ t. Passes (laid_out p.tags) (type_by by) t) (sym g.ty)
      ((call_keeps p.tags (type_by g.signature) (type_by by) g.usual (h.agree g.signature by same)).takes (g.body s e).fixed);
}

pub parameters_fit : LawfulParametersFit
parameters_fit p world vs h main = record {
  functions = λ number fun s e b. function_takes p world h fun s (h.functions number fun e) b;
  main = main;
}

pub programs_fit : LawfulProgramsFit
programs_fit p world h = record { functions = λ number fun e. function_fits p world h number fun (h.functions number fun e); library = h.library }
