-- The nodes of a lawful program have the operands that their operators take.
use Rattle.std.proofs.Common.{arith, ◌≡◌, ℕ, Bool, true, false, ◌&&◌, List, [], ◌∷◌, ◌++◌, map, flat_map, length, Option, Some, None, if◌then◌else◌}
use Rattle.std.proofs.Common.{refl, sym, ap, subst, ◌∙◌}
use Rattle.std.specs.List.{All}
use Rattle.std.proofs.lemmas.List.{length-map}
use Rattle.std.proofs.lemmas.List.Elements.{All-nil, All-head, All-tail, All-append, All-weaker}
use Rattle.c_types.specs.Types.{signature_of, Signature, type_of}
use Rattle.c_typed.specs.declared.class.Class.{Class}
use Rattle.c_typed.specs.declared.class.Class.TheVariants.{Object, Constant, Plain, Store, Update, Choice, Comma, Call, Isolated}
use Rattle.c_typed.specs.declared.tree.Conversion.{Conversion}
use Rattle.c_typed.specs.declared.tree.Conversion.TheVariants as conversion
use Rattle.c_typed.specs.declared.tree.Node.{Node, fold-Node, fold-roll-Node, map-Node, roll-Node}
use Rattle.c_typed.specs.declared.tree.Node.TheFolds.{ind-Typed}
use Rattle.c_typed.specs.declared.tree.Node.TheOpen as shape
use Rattle.c_typed.specs.declared.tree.Node.TheOpen.{Node-F, Typed-F}
use Rattle.c_typed.specs.declared.tree.Typed.{Typed, fold-roll-Typed, map-Typed, roll-Typed}
use Rattle.c_typed.specs.declared.statement.Body.{Body}
use Rattle.c_typed.specs.declared.program.Function.{Function}
use Rattle.c_typed.specs.declared.program.Program.{Program}
use Rattle.c_typed.specs.Lawful.{CountIs, SiteIsLawful, ExpressionIsLawful, BodyIsLawful, FunctionIsLawful, Where}
use Rattle.c_typed.specs.Sites.{Site, Seen, SeenNode, head_of, seen_node, seen_tree, type_seen, all_sites, seen, sites, expressions, no_block}
use Rattle.c_typed.specs.Tree.{Tree, Trees, none, more, class_of, is_quiet, is_quiet_class, conversion_class, member_class, trees_from, node_class}
use Rattle.c_typed.specs.Tree.{typed_tree, tree_of}
use Rattle.elaborate.specs.Expressions.{body_trees, defined_trees, function_trees}
use Rattle.elaborate.specs.Formed.{takes, is_formed, are_formed, EachFormed}
use Rattle.code_view.specs.Laws.{TreesAreFormed}
use Rattle.code_view.proofs.Viewed.{all_both}
use Rattle.code_view.proofs.Full.{body_full}
use Rattle.code_view.proofs.Own.{all_own}

-- a node has as many operands as its operator takes
abbrev Counts : Site → Type 0
Counts s = CountIs s.head (length s.operands)

abbrev Kind : Type 0
Kind = Trees → Class

abbrev node_seen : Node → SeenNode
node_seen = fold-Node SeenNode Seen seen_node seen_tree

abbrev node_kind : Node → Kind
node_kind = fold-Node Kind Tree node_class typed_tree

-- a node without operands, whatever its class
without : (c : Class) (ts : List Tree) → length ts ≡ 0 → takes c (trees_from ts) ≡ true
without Object [] h = refl
without Constant [] h = refl
without Plain [] h = refl
without Store [] h = refl
without Update [] h = refl
without Choice [] h = refl
without Comma [] h = refl
without Call [] h = refl
without Isolated [] h = refl
without c (t ∷ ts) h = absurd (omega (arith, h))

of_constant : (b : Bool) (t : Tree) → is_quiet t ≡ b → takes (if b then Constant else Plain) (more t none) ≡ true
of_constant true t h = ap (λ z. z && true) h
of_constant false t h = refl

of_member : (c : Class) (t : Tree) → class_of t ≡ c → takes (member_class (Some c)) (more t none) ≡ true
of_member Object t h = ap (λ z. is_quiet_class z && true) h
of_member Constant t h = refl
of_member Plain t h = refl
of_member Store t h = refl
of_member Update t h = refl
of_member Choice t h = refl
of_member Comma t h = refl
of_member Call t h = refl
of_member Isolated t h = refl

member_takes : (offset : ℕ) (ts : List Tree) → length ts ≡ 1 → takes (node_class (shape.Member offset) (trees_from ts)) (trees_from ts) ≡ true
member_takes offset [] h = absurd (omega (arith, h))
member_takes offset (t ∷ []) h = of_member (class_of t) t refl
member_takes offset (t ∷ u ∷ us) h = absurd (omega (arith, h))

two_choose : (ts : List Tree) → length ts ≡ 2 → takes Choice (trees_from ts) ≡ true
two_choose [] h = refl
two_choose (a ∷ []) h = refl
two_choose (a ∷ b ∷ []) h = refl
two_choose (a ∷ b ∷ c ∷ ts) h = absurd (omega (arith, h))

three_choose : (ts : List Tree) → length ts ≡ 3 → takes Choice (trees_from ts) ≡ true
three_choose [] h = refl
three_choose (a ∷ []) h = refl
three_choose (a ∷ b ∷ []) h = refl
three_choose (a ∷ b ∷ c ∷ []) h = refl
three_choose (a ∷ b ∷ c ∷ d ∷ ts) h = absurd (omega (arith, h))

-- one layer
abbrev NodeAt : Node-F Node Typed → Type 0
NodeAt z = (ts : List Tree) → CountIs (head_of (map-Node Node Typed SeenNode Seen node_seen seen z)) (length ts)
    → takes (node_class (map-Node Node Typed Kind Tree node_kind tree_of z) (trees_from ts)) (trees_from ts) ≡ true

at_node : (z : Node-F Node Typed) → NodeAt z
at_node (shape.Const z) ts h = without Constant ts h
at_node (shape.Obj slot) ts h = without Object ts h
at_node (shape.Func k) ts h = without Constant ts h
at_node (shape.Str k) ts h = without Constant ts h
at_node (shape.Conv c) [] h = absurd (omega (arith, h))
at_node (shape.Conv c) (t ∷ ts) h = converted c t ts h
  where
    converted : (c : Conversion) (t : Tree) (ts : List Tree) → length (t ∷ ts) ≡ 1
        → takes (conversion_class c (Some (class_of t))) (more t (trees_from ts)) ≡ true
    converted c t (u ∷ us) h = absurd (omega (arith, h))
    converted (conversion.Integer kind) t [] h = of_constant (is_quiet t) t refl
    converted (conversion.Address kind) t [] h = refl
    converted conversion.NotNull t [] h = refl
    converted conversion.Lookup t [] h = refl
    converted (conversion.Pointer align) t [] h = refl
    converted conversion.Function t [] h = refl
at_node (shape.Member offset) ts h = member_takes offset ts h
at_node shape.And ts h = two_choose ts h
at_node shape.Or ts h = two_choose ts h
at_node shape.Cond ts h = three_choose ts h
at_node (shape.Isolated tree) ts h = without Isolated ts h
at_node _ ts h = refl

abbrev NodeFormed : Node → Type 0
NodeFormed n = (ts : List Tree) → CountIs (node_seen n).head (length ts) → takes (node_kind n (trees_from ts)) (trees_from ts) ≡ true

rolled_node : (z : Node-F Node Typed) → NodeFormed (roll-Node z)
rolled_node z ts h =
    ap (λ (k : Kind). takes (k (trees_from ts)) (trees_from ts)) (fold-roll-Node Kind Tree node_class typed_tree z)
    ∙ at_node z ts (subst (λ (n : SeenNode). CountIs n.head (length ts)) (fold-roll-Node SeenNode Seen seen_node seen_tree z) h)

abbrev Each : Typed → Type 0
Each t = All Counts (sites t)

abbrev TreeFormed : Typed → Type 0
TreeFormed t = Each t → is_formed (tree_of t) ≡ true

abbrev TreeAt : Typed-F Node Typed → Type 0
TreeAt z = All Counts (seen_tree (map-Typed Node Typed SeenNode Seen node_seen seen z)).sites
    → is_formed (typed_tree (map-Typed Node Typed Kind Tree node_kind tree_of z)) ≡ true

rolled_tree : (z : Typed-F Node Typed) → TreeAt z → TreeFormed (roll-Typed z)
rolled_tree z h a =
    ap is_formed (fold-roll-Typed Kind Tree node_class typed_tree z)
    ∙ h (subst (λ (s : Seen). All Counts s.sites) (fold-roll-Typed SeenNode Seen seen_node seen_tree z) a)

abbrev FormedNode : Type 0
FormedNode = (n : Node) × NodeFormed n

abbrev FormedTree : Type 0
FormedTree = (t : Typed) × TreeFormed t

both_true : (a b : Bool) → a ≡ true → b ≡ true → (a && b) ≡ true
both_true a b h k = ap (λ z. z && b) h ∙ k

operands_formed : (cs : List FormedTree) → All Counts (all_sites (map seen (map (λ e. e.0) cs)))
    → are_formed (trees_from (map tree_of (map (λ e. e.0) cs))) ≡ true
operands_formed [] h = refl
operands_formed (c ∷ cs) h =
    let s = all_both Counts (sites c.0) (all_sites (map seen (map (λ e. e.0) cs))) h in
    both_true (is_formed (tree_of c.0)) (are_formed (trees_from (map tree_of (map (λ e. e.0) cs)))) (c.1 s.0) (operands_formed cs s.1)

at_tree : (y : Typed-F FormedNode FormedTree) → TreeAt (map-Typed FormedNode FormedTree Node Typed (λ e. e.0) (λ e. e.0) y)
at_tree y h =
    let kids = map (λ (e : FormedTree). e.0) y.children in
    let ts = map tree_of kids in
    let root : Site = record { head = (node_seen y.node.0).head; ty = type_of y.ty; operands = map type_seen (map seen kids) } in
    let rest = (node_seen y.node.0).inner ++ all_sites (map seen kids) in
    let s = all_both Counts (node_seen y.node.0).inner (all_sites (map seen kids)) (All-tail Counts root rest h) in
    let count : length (map type_seen (map seen kids)) ≡ length ts =
    length-map (map seen kids) type_seen ∙ (length-map kids seen ∙ sym (length-map kids tree_of)) in
    both_true (takes (node_kind y.node.0 (trees_from ts)) (trees_from ts)) (are_formed (trees_from ts))
    (y.node.1 ts (subst (CountIs (node_seen y.node.0).head) count (All-head Counts root rest h)))
    (operands_formed y.children s.1)

tree_formed : (t : Typed) → TreeFormed t
tree_formed = ind-Typed NodeFormed TreeFormed
    (λ x y is. rolled_node x)
    (λ x y is. rolled_tree x (subst TreeAt is (at_tree y)))

each_formed : (ts : List Typed) → All Each ts → EachFormed (map tree_of ts)
each_formed [] h = tt
each_formed (t ∷ ts) h = (tree_formed t (All-head Each t ts h), each_formed ts (All-tail Each t ts h))

body_counts : (p : Program) (f : Signature) (x : Body) → BodyIsLawful p f x → All Each (body_trees x)
body_counts p f x h =
    body_full Each (all_own Counts) x no_block
    (All-weaker (ExpressionIsLawful p f) (λ e. Each e.tree) (λ e k. All-weaker (SiteIsLawful p e.blocks) Counts (λ s l. l.operands) (sites e.tree) k.nodes)
    (expressions x) h.full)

option_counts : (p : Program) (f : Signature) (o : Option Body) → Where (BodyIsLawful p f) o → All Each (defined_trees o)
option_counts p f None h = All-nil Each
option_counts p f (Some x) h = body_counts p f x h

functions_count : (p : Program) (fs : List Function) → All (FunctionIsLawful p) fs → All Each (flat_map function_trees fs)
functions_count p [] h = All-nil Each
functions_count p (f ∷ fs) h =
    All-append Each (function_trees f) (flat_map function_trees fs)
    (option_counts p (signature_of f.ty) f.body (All-head (FunctionIsLawful p) f fs h).body)
    (functions_count p fs (All-tail (FunctionIsLawful p) f fs h))

pub trees_formed : TreesAreFormed
trees_formed p lawful = each_formed (flat_map function_trees p.functions) (functions_count p p.functions lawful.functions)
