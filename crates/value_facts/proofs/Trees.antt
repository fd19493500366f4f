-- Lawful trees are seen as expressions with small constants.
use Rattle.std.proofs.Common.{arith, ◌<◌, ◌^◌, ℕ, suc, Bool, true, false, ◌&&◌, ◌==◌, if◌then◌else◌, List, [], ◌∷◌, ◌++◌, map, ℤ, sym, subst}
use Rattle.std.specs.Prelude.{unsigned_abs}
use Rattle.std.specs.List.{All}
use Rattle.std.proofs.lemmas.List.Elements.{All-nil, All-cons, All-head, All-tail, All-append, All-map}
use Rattle.c_arith.proofs.Bounds.{held_small}
use Rattle.c_types.specs.declared.kind.IntKind.TheVariants.{Int}
use Rattle.c_types.specs.declared.tags.Tag.{Tag}
use Rattle.c_types.specs.Types.{CType, void, int, enumeration, pointer, array, struct, union, function, qualified_of, type_of}
use Rattle.c_typed.specs.declared.program.Constant.{Constant}
use Rattle.c_typed.specs.declared.program.Program.{Program}
use Rattle.c_typed.specs.declared.program.Static.{Static}
use Rattle.c_typed.specs.declared.tree.Node.{Node, fold-Node, fold-roll-Node, map-Node, roll-Node}
use Rattle.c_typed.specs.declared.tree.Node.TheFolds.{ind-Typed}
use Rattle.c_typed.specs.declared.tree.Node.TheOpen as shape
use Rattle.c_typed.specs.declared.tree.Node.TheOpen.{Node-F, Typed-F}
use Rattle.c_typed.specs.declared.tree.Typed.{Typed, fold-roll-Typed, map-Typed, roll-Typed}
use Rattle.c_typed.specs.Lawful.{IsConstant, SiteIsLawful, TypesAre}
use Rattle.c_typed.specs.Sites.{Blocks, Head, Site, Seen, SeenNode, all_sites, seen, seen_node, seen_tree, sites}
use Rattle.c_model.specs.Program as model
use Rattle.c_model.specs.Program.{Expr, Filling, Standing}
use Rattle.program_view.specs.Objects.{argument_of, arguments_from, filling, given_to_main, literal_of, literals_from, object_extent, pointers_from}
use Rattle.program_view.specs.Objects.{program_name}
use Rattle.program_view.specs.Objects.{static_of, statics_from, vector_of}
use Rattle.program_view.specs.Trees.{constant_head, expr_of, exprs_from, filling_of, is_pointer, node_head, typed_expr}
use Rattle.program_view.specs.View.{takes_arguments}
use Rattle.value_facts.specs.Constants.{AreSmallExprs, IsSmallExpr, IsSmallHead}
use Rattle.value_facts.specs.Held.{AreBytes}
use Rattle.value_facts.specs.Small.{AreSmallFillings, IsSmallContent}
use Rattle.value_facts.specs.Trees.{AreSmallConstants, LawfulTreesAreSmall, ListsBytes, StandingIsSmall}

-- ---- sites
-- the number and the constants of a node
abbrev IsSmallNode : Head → Type 0
IsSmallNode (shape.Const z) = unsigned_abs z < 2 ^ 64
IsSmallNode (shape.List slot bytes) = AreSmallConstants bytes
IsSmallNode _ = Unit {0}

abbrev IsSmallSite : Site → Type 0
IsSmallSite s = IsSmallNode s.head

pub all_both : {X : Type 0} (P : X → Type 0) (xs ys : List X) → All P (xs ++ ys) → All P xs × All P ys
all_both P [] ys h = (All-nil P, h)
all_both P (x ∷ xs) ys h =
    let rest = all_both P xs ys (All-tail P x (xs ++ ys) h) in
    (All-cons P x xs (All-head P x (xs ++ ys) h) rest.0, rest.1)

fillings_small : (cs : List Constant) → AreSmallConstants cs → AreSmallFillings (map filling_of cs)
fillings_small cs h = All-map (λ (c : Filling). IsSmallContent c.content) filling_of cs h

-- ---- one layer
abbrev Making : Type 0
Making = CType → model.Head

abbrev head_made : Node → Making
head_made = fold-Node Making Expr node_head typed_expr

abbrev node_seen : Node → SeenNode
node_seen = fold-Node SeenNode Seen seen_node seen_tree

abbrev NodeIsSmall : Node → Type 0
NodeIsSmall n = (ty : CType) → IsSmallNode (node_seen n).head → All IsSmallSite (node_seen n).inner → IsSmallHead (head_made n ty)

abbrev TreeIsSmall : Typed → Type 0
TreeIsSmall t = All IsSmallSite (sites t) → IsSmallExpr (expr_of t)

abbrev NodeAt : Node-F Node Typed → Type 0
NodeAt z = (ty : CType) → IsSmallNode (seen_node (map-Node Node Typed SeenNode Seen node_seen seen z)).head
    → All IsSmallSite (seen_node (map-Node Node Typed SeenNode Seen node_seen seen z)).inner
    → IsSmallHead (node_head (map-Node Node Typed Making Expr head_made expr_of z) ty)

abbrev TreeAt : Typed-F Node Typed → Type 0
TreeAt z = All IsSmallSite (seen_tree (map-Typed Node Typed SeenNode Seen node_seen seen z)).sites
    → IsSmallExpr (typed_expr (map-Typed Node Typed Making Expr head_made expr_of z))

rolled_node : (z : Node-F Node Typed) → NodeAt z → NodeIsSmall (roll-Node z)
rolled_node z h = λ ty own inner.
    let e = fold-roll-Node SeenNode Seen seen_node seen_tree z in
    subst (λ (g : Making). IsSmallHead (g ty)) (sym (fold-roll-Node Making Expr node_head typed_expr z))
    (h ty (subst (λ (n : SeenNode). IsSmallNode n.head) e own) (subst (λ (n : SeenNode). All IsSmallSite n.inner) e inner))

rolled_tree : (z : Typed-F Node Typed) → TreeAt z → TreeIsSmall (roll-Typed z)
rolled_tree z h = λ all.
    subst IsSmallExpr (sym (fold-roll-Typed Making Expr node_head typed_expr z))
    (h (subst (λ (s : Seen). All IsSmallSite s.sites) (fold-roll-Typed SeenNode Seen seen_node seen_tree z) all))

abbrev SmallNode : Type 0
SmallNode = (n : Node) × NodeIsSmall n

abbrev SmallTree : Type 0
SmallTree = (t : Typed) × TreeIsSmall t

constant_made : (z : ℤ) (ty : CType) → unsigned_abs z < 2 ^ 64 → IsSmallHead (constant_head z ty)
constant_made z ty h = go (is_pointer ty && (unsigned_abs z == 0))
  where
    go : (b : Bool) → IsSmallHead (if b then model.Null else model.Number z)
    go true = tt
    go false = h

at_node : (y : Node-F SmallNode SmallTree) → NodeAt (map-Node SmallNode SmallTree Node Typed (λ e. e.0) (λ e. e.0) y)
at_node (shape.Const z) = λ ty own inner. constant_made z ty own
at_node (shape.List slot bytes) = λ ty own inner. fillings_small bytes own
at_node (shape.Isolated t) = λ ty own inner. t.1 inner
at_node _ = λ ty own inner. tt

operands_small : (ts : List SmallTree) → All IsSmallSite (all_sites (map seen (map (λ (e : SmallTree). e.0) ts)))
    → AreSmallExprs (exprs_from (map expr_of (map (λ (e : SmallTree). e.0) ts)))
operands_small [] h = tt
operands_small (t ∷ ts) h =
    let each = all_both IsSmallSite (sites t.0) (all_sites (map seen (map (λ (e : SmallTree). e.0) ts))) h in
    (t.1 each.0, operands_small ts each.1)

at_tree : (y : Typed-F SmallNode SmallTree) → TreeAt (map-Typed SmallNode SmallTree Node Typed (λ e. e.0) (λ e. e.0) y)
at_tree y = λ all.
    let n = node_seen y.node.0 in
    let rest = all_sites (map seen (map (λ (e : SmallTree). e.0) y.children)) in
    let behind = all_both IsSmallSite n.inner rest (All-tail IsSmallSite _ (n.inner ++ rest) all) in
    (y.node.1 (type_of y.ty) (All-head IsSmallSite _ (n.inner ++ rest) all) behind.0, operands_small y.children behind.1)

trees_small : (t : Typed) → TreeIsSmall t
trees_small = ind-Typed NodeIsSmall TreeIsSmall
    (λ x y is. rolled_node x (subst NodeAt is (at_node y)))
    (λ x y is. rolled_tree x (subst TreeAt is (at_tree y)))

-- ---- lawful sites
constant_small : (ty : CType) (z : ℤ) → IsConstant ty z → unsigned_abs z < 2 ^ 64
constant_small (int kind) z h = held_small kind z h
constant_small (enumeration tag) z h = held_small Int z h
constant_small (pointer c t) z h = subst (λ (w : ℤ). unsigned_abs w < 2 ^ 64) (sym h) (omega arith)
constant_small void z h = absurd h
constant_small (array c t count) z h = absurd h
constant_small (struct tag) z h = absurd h
constant_small (union tag) z h = absurd h
constant_small (function r ps v) z h = absurd h

number_small : (p : Program) (blocks : Blocks) (z : ℤ) (own : CType) (operands : List CType) → TypesAre p blocks (shape.Const z) own operands
    → unsigned_abs z < 2 ^ 64
number_small p blocks z own [] h = constant_small own z h
number_small p blocks z own (t ∷ ts) h = absurd h

site_small : (p : Program) (blocks : Blocks) (h : Head) (own : CType) (operands : List CType) → TypesAre p blocks h own operands → ListsBytes h → IsSmallNode h
site_small p blocks (shape.Const z) own operands types lists = number_small p blocks z own operands types
site_small p blocks (shape.List slot bytes) own operands types lists = lists
site_small p blocks _ own operands types lists = tt

sites_small : (p : Program) (blocks : Blocks) (ss : List Site) → All (SiteIsLawful p blocks) ss → All (λ s. ListsBytes s.head) ss → All IsSmallSite ss
sites_small p blocks [] h l = All-nil IsSmallSite
sites_small p blocks (s ∷ ss) h l =
    All-cons IsSmallSite s ss
    (site_small p blocks s.head s.ty s.operands (All-head (SiteIsLawful p blocks) s ss h).types (All-head (λ (s : Site). ListsBytes s.head) s ss l))
    (sites_small p blocks ss (All-tail (SiteIsLawful p blocks) s ss h) (All-tail (λ (s : Site). ListsBytes s.head) s ss l))

pub lawful_trees_small : LawfulTreesAreSmall
lawful_trees_small p blocks t h l = trees_small t (sites_small p blocks (sites t) h l)

-- ---- what stands before the first pick
abbrev FillsSmall : Standing → Type 0
FillsSmall o = AreSmallFillings o.fillings

abbrev IsSmallFilling : Filling → Type 0
IsSmallFilling c = IsSmallContent c.content

one_filling : (c : Filling) → IsSmallFilling c → AreSmallFillings (c ∷ [])
one_filling c h = All-cons IsSmallFilling c [] h (All-nil IsSmallFilling)

statics_small : (tags : List Tag) (n : ℕ) (ss : List Static) → All (λ s. AreSmallConstants s.constants) ss → All FillsSmall (statics_from tags n ss)
statics_small tags n [] h = All-nil FillsSmall
statics_small tags n (s ∷ ss) h =
    All-cons FillsSmall (static_of tags n s) (statics_from tags (suc n) ss)
    (All-cons IsSmallFilling (filling 0 (model.Zeros (object_extent tags (qualified_of s.qual).ty).size)) (map filling_of s.constants) tt
    (fillings_small s.constants (All-head (λ (s : Static). AreSmallConstants s.constants) s ss h)))
    (statics_small tags (suc n) ss (All-tail (λ (s : Static). AreSmallConstants s.constants) s ss h))

literals_small : (n : ℕ) (ls : List (List ℕ)) → All AreBytes ls → All FillsSmall (literals_from n ls)
literals_small n [] h = All-nil FillsSmall
literals_small n (l ∷ ls) h =
    All-cons FillsSmall (literal_of n l) (literals_from (suc n) ls) (one_filling (filling 0 (model.Bytes l)) (All-head AreBytes l ls h))
    (literals_small (suc n) ls (All-tail AreBytes l ls h))

with_zero : (l : List ℕ) → AreBytes l → AreBytes (l ++ 0 ∷ [])
with_zero l h = All-append (λ n. n < 256) l (0 ∷ []) h (All-cons (λ n. n < 256) 0 [] (omega arith) (All-nil (λ n. n < 256)))

strings_small : (n : ℕ) (ls : List (List ℕ)) → All AreBytes ls → All FillsSmall (arguments_from n ls)
strings_small n [] h = All-nil FillsSmall
strings_small n (l ∷ ls) h =
    All-cons FillsSmall (argument_of n l) (arguments_from (suc n) ls)
    (one_filling (filling 0 (model.Bytes (l ++ 0 ∷ []))) (with_zero l (All-head AreBytes l ls h))) (strings_small (suc n) ls (All-tail AreBytes l ls h))

pointers_small : (n : ℕ) (ls : List (List ℕ)) → AreSmallFillings (pointers_from n ls)
pointers_small n [] = one_filling _ tt
pointers_small n (l ∷ ls) = All-cons IsSmallFilling _ (pointers_from (suc n) ls) tt (pointers_small (suc n) ls)

name_bytes : AreBytes program_name
name_bytes =
    let P : ℕ → Type 0 = λ n. n < 256 in
    All-cons P 112 (114 ∷ 111 ∷ 103 ∷ []) (omega arith)
    (All-cons P 114 (111 ∷ 103 ∷ []) (omega arith) (All-cons P 111 (103 ∷ []) (omega arith) (All-cons P 103 [] (omega arith) (All-nil P))))

main_small : (b : Bool) (ls : List (List ℕ)) → All AreBytes ls → All FillsSmall (given_to_main b ls)
main_small false ls h = All-nil FillsSmall
main_small true ls h =
    All-append FillsSmall (arguments_from 0 (program_name ∷ ls)) (vector_of (program_name ∷ ls) ∷ [])
    (strings_small 0 (program_name ∷ ls) (All-cons AreBytes program_name ls name_bytes h))
    (All-cons FillsSmall (vector_of (program_name ∷ ls)) [] (pointers_small 0 (program_name ∷ ls)) (All-nil FillsSmall))

pub standing_is_small : StandingIsSmall
standing_is_small p arguments h =
    All-append FillsSmall (statics_from p.tags 0 p.statics) (literals_from 0 p.literals ++ given_to_main (takes_arguments p) arguments)
    (statics_small p.tags 0 p.statics h.statics)
    (All-append FillsSmall (literals_from 0 p.literals) (given_to_main (takes_arguments p) arguments) (literals_small 0 p.literals h.literals)
    (main_small (takes_arguments p) arguments h.strings))
