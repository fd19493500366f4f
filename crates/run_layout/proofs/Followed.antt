-- In the full expressions of a function each is followed by the own trees of its isolated initializers, in turn.
use Rattle.std.proofs.Common.{arith, rules, ◌≡◌, ◌+◌, ◌<◌, ◌≤◌, ℕ, zero, suc, List, [], ◌∷◌, ◌++◌, length, map, flat_map, Option, Some, None, slice_get}
use Rattle.std.proofs.Common.{refl, sym, ap, subst, ◌∙◌, append_assoc, append-nil}
use Rattle.std.proofs.lemmas.Option.{slice_get_within}
use Rattle.c_typed.specs.declared.tree.Node.{Node, para-Node, para-roll-Node, map-Node, roll-Node}
use Rattle.c_typed.specs.declared.tree.Node.TheFolds.{ind-Typed}
use Rattle.c_typed.specs.declared.tree.Node.TheOpen as shape
use Rattle.c_typed.specs.declared.tree.Node.TheOpen.{Node-F, Typed-F}
use Rattle.c_typed.specs.declared.tree.Typed.{Typed, para-roll-Typed, map-Typed, roll-Typed}
use Rattle.c_typed.specs.declared.statement.Body.{Body, fold-roll-Body, map-Body, roll-Body}
use Rattle.c_typed.specs.declared.statement.Body.TheFolds.{ind-Body}
use Rattle.c_typed.specs.declared.statement.Body.TheOpen as form
use Rattle.c_typed.specs.declared.statement.Body.TheOpen.{Body-F, ForStart-F, Block-F, Entry-F}
use Rattle.c_typed.specs.declared.statement.Body.TheVariants as body
use Rattle.c_typed.specs.declared.statement.Block.{Block, fold-roll-Block, map-Block, roll-Block}
use Rattle.c_typed.specs.declared.statement.Entry.{Entry, fold-roll-Entry, map-Entry, roll-Entry}
use Rattle.c_typed.specs.declared.statement.ForStart.{ForStart, fold-roll-ForStart, map-ForStart, roll-ForStart}
use Rattle.elaborate.specs.Expressions.{node_own, typed_own, own_trees, full_trees, option_trees, body_trees, entry_trees, start_trees, block_trees}
use Rattle.elaborate.specs.Expressions as trees
use Rattle.run_layout.specs.declared.nodes.NodeInfo.{NodeInfo}
use Rattle.run_layout.specs.declared.steps.Range.{Range}
use Rattle.run_layout.specs.declared.whole.Code.{Code}
use Rattle.run_layout.specs.Blocks.{firsts_from, rows_of_block}
use Rattle.run_layout.specs.Functions.{IsLaidAt, HasExpressions, laid_in}
use Rattle.run_layout.specs.Initializers.{IsIsolated, HasTree, HaveNumbers, NumberInitializers, NumberWithin}
use Rattle.run_layout.proofs.Collected.{same_some, slice_get-front}
use Rattle.run_layout.proofs.InTurn.{expression_at}
use Rattle.c_typed.specs.declared.statement.Body.TheFolds as typed

abbrev T : Type 0
T = List Typed

-- the full expressions of a block that is a body
pub body_of_block : (x : Block) → body_trees (body.Block x) ≡ block_trees x
body_of_block x = search (rules, typed.the_lemmas)

-- a list begins with these
abbrev BeginsWith : T → T → Type 0
BeginsWith xs ts = (rest : T) × (ts ≡ xs ++ rest)

abbrev pub AreFollowed : T → Type 0
AreFollowed [] = Unit {0}
AreFollowed (t ∷ ts) = BeginsWith (own_trees t) ts × AreFollowed ts

join : (xs ys : T) → AreFollowed xs → AreFollowed ys → AreFollowed (xs ++ ys)
join [] ys h k = k
join (x ∷ xs) ys h k = ((h.0.0 ++ ys, ap (λ z. z ++ ys) h.0.1 ∙ append_assoc (own_trees x) h.0.0 ys), join xs ys h.1 k)

-- ---- trees
abbrev own_node : Node → T
own_node = para-Node T T node_own typed_own

abbrev NodeFollowed : Node → Type 0
NodeFollowed n = AreFollowed (own_node n)

abbrev TreeFollowed : Typed → Type 0
TreeFollowed t = AreFollowed (own_trees t)

abbrev NodeAt : Node-F Node Typed → Type 0
NodeAt z = AreFollowed (node_own (map-Node Node Typed (Node × T) (Typed × T) (λ n. (n, own_node n)) (λ t. (t, own_trees t)) z))

abbrev TreeAt : Typed-F Node Typed → Type 0
TreeAt z = AreFollowed (typed_own (map-Typed Node Typed (Node × T) (Typed × T) (λ n. (n, own_node n)) (λ t. (t, own_trees t)) z))

rolled_node : (z : Node-F Node Typed) → NodeAt z → NodeFollowed (roll-Node z)
rolled_node z h = subst AreFollowed (sym (para-roll-Node T T node_own typed_own z)) h

rolled_tree : (z : Typed-F Node Typed) → TreeAt z → TreeFollowed (roll-Typed z)
rolled_tree z h = subst AreFollowed (sym (para-roll-Typed T T node_own typed_own z)) h

abbrev OwnNode : Type 0
OwnNode = (n : Node) × NodeFollowed n

abbrev OwnTree : Type 0
OwnTree = (t : Typed) × TreeFollowed t

full : (t : Typed) → TreeFollowed t → AreFollowed (full_trees t)
full t h = (([], sym (append-nil (own_trees t))), h)

at_node : (y : Node-F OwnNode OwnTree) → NodeAt (map-Node OwnNode OwnTree Node Typed (λ e. e.0) (λ e. e.0) y)
at_node (shape.Isolated t) = full t.0 t.1
at_node _ = tt

of_operands : (cs : List OwnTree) → AreFollowed (flat_map (λ (child : Typed × T). child.1) (map (λ t. (t, own_trees t)) (map (λ e. e.0) cs)))
of_operands [] = tt
of_operands (c ∷ cs) =
    join (own_trees c.0) (flat_map (λ (child : Typed × T). child.1) (map (λ t. (t, own_trees t)) (map (λ e. e.0) cs))) c.1 (of_operands cs)

at_tree : (y : Typed-F OwnNode OwnTree) → TreeAt (map-Typed OwnNode OwnTree Node Typed (λ e. e.0) (λ e. e.0) y)
at_tree y =
    join (own_node y.node.0) (flat_map (λ (child : Typed × T). child.1) (map (λ t. (t, own_trees t)) (map (λ (e : OwnTree). e.0) y.children)))
    y.node.1 (of_operands y.children)

tree_followed : (t : Typed) → TreeFollowed t
tree_followed = ind-Typed NodeFollowed TreeFollowed
    (λ x y is. rolled_node x (subst NodeAt is (at_node y)))
    (λ x y is. rolled_tree x (subst TreeAt is (at_tree y)))

full_followed : (t : Typed) → AreFollowed (full_trees t)
full_followed t = full t (tree_followed t)

perhaps_followed : (o : Option Typed) → AreFollowed (option_trees o)
perhaps_followed None = tt
perhaps_followed (Some t) = full_followed t

-- ---- statements
abbrev BodyFollowed : Body → Type 0
BodyFollowed b = AreFollowed (body_trees b)

abbrev EntryFollowed : Entry → Type 0
EntryFollowed e = AreFollowed (entry_trees e)

abbrev StartFollowed : ForStart → Type 0
StartFollowed s = AreFollowed (start_trees s)

abbrev BlockFollowed : Block → Type 0
BlockFollowed b = AreFollowed (block_trees b)

abbrev BodyAt : Body-F Body Entry ForStart Block → Type 0
BodyAt z = AreFollowed (trees.body_step (map-Body Body Entry ForStart Block T T T T body_trees entry_trees start_trees block_trees z))

abbrev EntryAt : Entry-F Body Entry ForStart Block → Type 0
EntryAt z = AreFollowed (trees.entry_step (map-Entry Body Entry ForStart Block T T T T body_trees entry_trees start_trees block_trees z))

abbrev StartAt : ForStart-F Body Entry ForStart Block → Type 0
StartAt z = AreFollowed (trees.start_step (map-ForStart Body Entry ForStart Block T T T T body_trees entry_trees start_trees block_trees z))

abbrev BlockAt : Block-F Body Entry ForStart Block → Type 0
BlockAt z = AreFollowed (trees.block_step (map-Block Body Entry ForStart Block T T T T body_trees entry_trees start_trees block_trees z))

rolled_body : (z : Body-F Body Entry ForStart Block) → BodyAt z → BodyFollowed (roll-Body z)
rolled_body z h = subst AreFollowed (sym (fold-roll-Body T T T T trees.body_step trees.entry_step trees.start_step trees.block_step z)) h

rolled_entry : (z : Entry-F Body Entry ForStart Block) → EntryAt z → EntryFollowed (roll-Entry z)
rolled_entry z h = subst AreFollowed (sym (fold-roll-Entry T T T T trees.body_step trees.entry_step trees.start_step trees.block_step z)) h

rolled_start : (z : ForStart-F Body Entry ForStart Block) → StartAt z → StartFollowed (roll-ForStart z)
rolled_start z h = subst AreFollowed (sym (fold-roll-ForStart T T T T trees.body_step trees.entry_step trees.start_step trees.block_step z)) h

rolled_block : (z : Block-F Body Entry ForStart Block) → BlockAt z → BlockFollowed (roll-Block z)
rolled_block z h = subst AreFollowed (sym (fold-roll-Block T T T T trees.body_step trees.entry_step trees.start_step trees.block_step z)) h

-- the parts, each followed so
abbrev PartBody : Type 0
PartBody = (b : Body) × BodyFollowed b

abbrev PartEntry : Type 0
PartEntry = (e : Entry) × EntryFollowed e

abbrev PartStart : Type 0
PartStart = (s : ForStart) × StartFollowed s

abbrev PartBlock : Type 0
PartBlock = (b : Block) × BlockFollowed b

at_body : (y : Body-F PartBody PartEntry PartStart PartBlock)
    → BodyAt (map-Body PartBody PartEntry PartStart PartBlock Body Entry ForStart Block (λ e. e.0) (λ e. e.0) (λ e. e.0) (λ e. e.0) y)
at_body (form.Simple t) = perhaps_followed t
at_body (form.Block b) = b.1
at_body (form.If t b None) = join (full_trees t) (body_trees b.0 ++ []) (full_followed t) (join (body_trees b.0) [] b.1 tt)
at_body (form.If t b (Some c)) =
    join (full_trees t) (body_trees b.0 ++ body_trees c.0) (full_followed t) (join (body_trees b.0) (body_trees c.0) b.1 c.1)
at_body (form.Switch t b) = join (full_trees t) (body_trees b.0) (full_followed t) b.1
at_body (form.While t b) = join (full_trees t) (body_trees b.0) (full_followed t) b.1
at_body (form.Do b t) = join (body_trees b.0) (full_trees t) b.1 (full_followed t)
at_body (form.For start test step b) =
    join (start_trees start.0) (option_trees test ++ (option_trees step ++ body_trees b.0)) start.1
    (join (option_trees test) (option_trees step ++ body_trees b.0) (perhaps_followed test)
    (join (option_trees step) (body_trees b.0) (perhaps_followed step) b.1))
at_body (form.Goto k) = tt
at_body form.Continue = tt
at_body form.Break = tt
at_body (form.Return t) = perhaps_followed t
at_body (form.Label k b) = b.1
at_body (form.Case z b) = b.1
at_body (form.Default b) = b.1

at_entry : (y : Entry-F PartBody PartEntry PartStart PartBlock)
    → EntryAt (map-Entry PartBody PartEntry PartStart PartBlock Body Entry ForStart Block (λ e. e.0) (λ e. e.0) (λ e. e.0) (λ e. e.0) y)
at_entry (form.Statement b) = b.1
at_entry (form.Initializer t) = full_followed t
at_entry (form.Declare d) = tt

at_start : (y : ForStart-F PartBody PartEntry PartStart PartBlock)
    → StartAt (map-ForStart PartBody PartEntry PartStart PartBlock Body Entry ForStart Block (λ e. e.0) (λ e. e.0) (λ e. e.0) (λ e. e.0) y)
at_start form.Empty = tt
at_start (form.Value t) = full_followed t
at_start (form.Declared b) = b.1

of_entries : (es : List PartEntry) → AreFollowed (flat_map (λ ts. ts) (map entry_trees (map (λ e. e.0) es)))
of_entries [] = tt
of_entries (e ∷ es) = join (entry_trees e.0) (flat_map (λ ts. ts) (map entry_trees (map (λ x. x.0) es))) e.1 (of_entries es)

at_block : (y : Block-F PartBody PartEntry PartStart PartBlock)
    → BlockAt (map-Block PartBody PartEntry PartStart PartBlock Body Entry ForStart Block (λ e. e.0) (λ e. e.0) (λ e. e.0) (λ e. e.0) y)
at_block y = of_entries y.entries

body_followed : (b : Body) → BodyFollowed b
body_followed = ind-Body BodyFollowed EntryFollowed StartFollowed BlockFollowed
    (λ x y is. rolled_body x (subst BodyAt is (at_body y)))
    (λ x y is. rolled_entry x (subst EntryAt is (at_entry y)))
    (λ x y is. rolled_start x (subst StartAt is (at_start y)))
    (λ x y is. rolled_block x (subst BlockAt is (at_block y)))

pub block_followed : (b : Block) → AreFollowed (block_trees b)
block_followed b = subst AreFollowed (body_of_block b) (body_followed (body.Block b))

-- ---- by number
begins_at : (xs ts : T) (j : ℕ) (u : Typed) → BeginsWith xs ts → slice_get xs j ≡ Some u → slice_get ts j ≡ Some u
begins_at xs ts j u b h = ap (λ z. slice_get z j) b.1 ∙ slice_get-front xs b.0 j u h

pub followed_at : (ts : T) (k j : ℕ) (t u : Typed) → AreFollowed ts → slice_get ts k ≡ Some t → slice_get (own_trees t) j ≡ Some u
    → slice_get ts (suc (k + j)) ≡ Some u
followed_at [] zero j t u f h own = absurd (cc)
followed_at [] (suc k) j t u f h own = absurd (cc)
followed_at (x ∷ ts) zero j t u f h own =
    let same : x ≡ t = same_some (Some x) x t refl h in
    let here : 0 + j ≡ j = omega arith in
    ap (slice_get ts) here ∙ begins_at (own_trees x) ts j u f.0 (ap (λ z. slice_get (own_trees z) j) same ∙ own)
followed_at (x ∷ ts) (suc k) j t u f h own =
    let here : suc k + j ≡ suc (k + j) = omega arith in ap (slice_get ts) here ∙ followed_at ts k j t u f.1 h own

-- ---- so each isolated initializer of a function's full expression has the number of its own tree
module _ (b : Block) (code : Code) (range : Range) (k : ℕ) (t : Typed) (nodes : List NodeInfo) (has : HasExpressions b code.tables (laid_in code) range)
    (at : slice_get (block_trees b) k ≡ Some t) (numbers : HaveNumbers (suc (range.first + k)) (own_trees t) nodes) where
  -- where that is
  record Found (number : ℕ) (tree : Typed) : Type 0 where
    place : ℕ
    there : slice_get (block_trees b) place ≡ Some tree
    is : number ≡ range.first + place

  found : (n : ℕ) (x : NodeInfo) (tree : Typed) → slice_get nodes n ≡ Some x → IsIsolated x tree → Found x.initializer tree
  found n x tree here isolated =
      let h = numbers n x tree here isolated in record {
        place = suc (k + h.0);
        there = followed_at (block_trees b) k h.0 t tree (block_followed b) at h.1;
        is = omega (arith, h.2);
      }

  pub initializers_numbered : NumberInitializers code nodes
  initializers_numbered n x tree here isolated =
      let f = found n x tree here isolated in
      let e = expression_at (firsts_from 0 (rows_of_block b)) code.tables (laid_in code) range.first f.place (block_trees b) tree has.each f.there in
      (e.0, ap (λ (i : ℕ). slice_get code.expressions.items i) f.is ∙ e.1, e.2)

  pub initializers_within : NumberWithin range nodes
  initializers_within n x tree here isolated =
      let f = found n x tree here isolated in
      let less : f.place < length (block_trees b) = slice_get_within (block_trees b) f.place tree f.there in
      (omega (arith, f.is), omega (arith, f.is, less, has.count))
