-- The full expressions of a body, and the own trees of their listed initializers, fit where its nodes are lawful.
use Rattle.std.proofs.Common.{List, [], ◌∷◌, ◌++◌, map, flat_map, Option, Some, None, sym, subst}
use Rattle.std.specs.List.{All}
use Rattle.std.proofs.lemmas.List.Elements.{All-nil, All-head, All-append}
use Rattle.c_typed.specs.declared.tree.Typed.{Typed}
use Rattle.c_typed.specs.declared.statement.Body.{Body, fold-Body, fold-roll-Body, map-Body, roll-Body}
use Rattle.c_typed.specs.declared.statement.Body.TheFolds.{ind-Body}
use Rattle.c_typed.specs.declared.statement.Body.TheOpen as form
use Rattle.c_typed.specs.declared.statement.Body.TheOpen.{Body-F, ForStart-F, Block-F, Entry-F}
use Rattle.c_typed.specs.declared.statement.Block.{Block, fold-Block, fold-roll-Block, map-Block, roll-Block}
use Rattle.c_typed.specs.declared.statement.Entry.{Entry, fold-Entry, fold-roll-Entry, map-Entry, roll-Entry}
use Rattle.c_typed.specs.declared.statement.ForStart.{ForStart, fold-ForStart, fold-roll-ForStart, map-ForStart, roll-ForStart}
use Rattle.c_types.specs.Types.{qualified_of}
use Rattle.c_typed.specs.Sites.{Expression, Use, unused, tested, selects, returned, initializes, Blocks, Found, one, both, otherwise, Opened}
use Rattle.c_typed.specs.Sites.{found_body, found_entry, found_start, found_entries, found_block}
use Rattle.c_typed.specs.Sites as found
use Rattle.elaborate.specs.Expressions.{body_trees, entry_trees, start_trees, block_trees, full_trees, option_trees}
use Rattle.elaborate.specs.Expressions as trees
use Rattle.code_view.proofs.Viewed.{all_both}

abbrev pub in_body : Body → Found
in_body = fold-Body Found Found Opened Opened found_body found_entry found_start found_block

abbrev in_entry : Entry → Found
in_entry = fold-Entry Found Found Opened Opened found_body found_entry found_start found_block

abbrev in_start : ForStart → Opened
in_start = fold-ForStart Found Found Opened Opened found_body found_entry found_start found_block

abbrev in_block : Block → Opened
in_block = fold-Block Found Found Opened Opened found_body found_entry found_start found_block

abbrev T : Type 0
T = List Typed

-- what holds of the trees of the full expressions, holds of all that are laid out, where it goes on to the own trees
module _ (P : Typed → Type 0) (own : (t : Typed) → P t → All P (full_trees t)) where
  abbrev Each : List Expression → Type 0
  Each = All (λ e. P e.tree)

  abbrev BodyFull : Body → Type 0
  BodyFull b = (blocks : Blocks) → Each (in_body b blocks) → All P (body_trees b)

  abbrev EntryFull : Entry → Type 0
  EntryFull e = (blocks : Blocks) → Each (in_entry e blocks) → All P (entry_trees e)

  abbrev StartFull : ForStart → Type 0
  StartFull s = (blocks : Blocks) → Each ((in_start s).found blocks) → All P (start_trees s)

  abbrev BlockFull : Block → Type 0
  BlockFull b = (blocks : Blocks) → Each ((in_block b).found blocks) → All P (block_trees b)

  split : (a b : Found) (blocks : Blocks) → Each (both a b blocks) → Each (a blocks) × Each (b blocks)
  split a b blocks h = all_both (λ e. P e.tree) (a blocks) (b blocks) h

  of_one : (u : Use) (t : Typed) (blocks : Blocks) → Each (one u t blocks) → All P (full_trees t)
  of_one u t blocks h = own t (All-head (λ e. P e.tree) (record { tree = t; for_use = u; blocks = blocks }) [] h)

  of_perhaps : (u : Use) (o : Option Typed) (blocks : Blocks) → Each (found.perhaps u o blocks) → All P (option_trees o)
  of_perhaps u None blocks h = All-nil P
  of_perhaps u (Some t) blocks h = of_one u t blocks h

  join : (xs ys : T) → All P xs → All P ys → All P (xs ++ ys)
  join xs ys h k = All-append P xs ys h k

  -- one layer
  abbrev BodyAt : Body-F Body Entry ForStart Block → Type 0
  BodyAt z = (blocks : Blocks)
      → Each (found_body (map-Body Body Entry ForStart Block Found Found Opened Opened in_body in_entry in_start in_block z) blocks)
      → All P (trees.body_step (map-Body Body Entry ForStart Block T T T T body_trees entry_trees start_trees block_trees z))

  abbrev EntryAt : Entry-F Body Entry ForStart Block → Type 0
  EntryAt z = (blocks : Blocks)
      → Each (found_entry (map-Entry Body Entry ForStart Block Found Found Opened Opened in_body in_entry in_start in_block z) blocks)
      → All P (trees.entry_step (map-Entry Body Entry ForStart Block T T T T body_trees entry_trees start_trees block_trees z))

  abbrev StartAt : ForStart-F Body Entry ForStart Block → Type 0
  StartAt z = (blocks : Blocks)
      → Each ((found_start (map-ForStart Body Entry ForStart Block Found Found Opened Opened in_body in_entry in_start in_block z)).found blocks)
      → All P (trees.start_step (map-ForStart Body Entry ForStart Block T T T T body_trees entry_trees start_trees block_trees z))

  abbrev BlockAt : Block-F Body Entry ForStart Block → Type 0
  BlockAt z = (blocks : Blocks)
      → Each ((found_block (map-Block Body Entry ForStart Block Found Found Opened Opened in_body in_entry in_start in_block z)).found blocks)
      → All P (trees.block_step (map-Block Body Entry ForStart Block T T T T body_trees entry_trees start_trees block_trees z))

  rolled_body : (z : Body-F Body Entry ForStart Block) → BodyAt z → BodyFull (roll-Body z)
  rolled_body z h = λ blocks a.
      subst (All P) (sym (fold-roll-Body T T T T trees.body_step trees.entry_step trees.start_step trees.block_step z))
      (h blocks (subst (λ (g : Found). Each (g blocks)) (fold-roll-Body Found Found Opened Opened found_body found_entry found_start found_block z) a))

  rolled_entry : (z : Entry-F Body Entry ForStart Block) → EntryAt z → EntryFull (roll-Entry z)
  rolled_entry z h = λ blocks a.
      subst (All P) (sym (fold-roll-Entry T T T T trees.body_step trees.entry_step trees.start_step trees.block_step z))
      (h blocks (subst (λ (g : Found). Each (g blocks)) (fold-roll-Entry Found Found Opened Opened found_body found_entry found_start found_block z) a))

  rolled_start : (z : ForStart-F Body Entry ForStart Block) → StartAt z → StartFull (roll-ForStart z)
  rolled_start z h = λ blocks a.
      subst (All P) (sym (fold-roll-ForStart T T T T trees.body_step trees.entry_step trees.start_step trees.block_step z))
      (h blocks (subst (λ (g : Opened). Each (g.found blocks))
      (fold-roll-ForStart Found Found Opened Opened found_body found_entry found_start found_block z) a))

  rolled_block : (z : Block-F Body Entry ForStart Block) → BlockAt z → BlockFull (roll-Block z)
  rolled_block z h = λ blocks a.
      subst (All P) (sym (fold-roll-Block T T T T trees.body_step trees.entry_step trees.start_step trees.block_step z))
      (h blocks (subst (λ (g : Opened). Each (g.found blocks))
      (fold-roll-Block Found Found Opened Opened found_body found_entry found_start found_block z) a))

  -- the parts, each with what holds of it
  abbrev FullBody : Type 0
  FullBody = (b : Body) × BodyFull b

  abbrev FullEntry : Type 0
  FullEntry = (e : Entry) × EntryFull e

  abbrev FullStart : Type 0
  FullStart = (s : ForStart) × StartFull s

  abbrev FullBlock : Type 0
  FullBlock = (b : Block) × BlockFull b

  at_body : (y : Body-F FullBody FullEntry FullStart FullBlock)
      → BodyAt (map-Body FullBody FullEntry FullStart FullBlock Body Entry ForStart Block (λ e. e.0) (λ e. e.0) (λ e. e.0) (λ e. e.0) y)
  at_body (form.Simple t) = λ blocks a. of_perhaps unused t blocks a
  at_body (form.Block b) = λ blocks a. b.1 blocks a
  at_body (form.If t b None) = λ blocks a.
      let s = split (one tested t) (both (in_body b.0) (λ z. [])) blocks a in
      let r = split (in_body b.0) (λ z. []) blocks s.1 in
      join (full_trees t) (body_trees b.0 ++ []) (of_one tested t blocks s.0) (join (body_trees b.0) [] (b.1 blocks r.0) (All-nil P))
  at_body (form.If t b (Some c)) = λ blocks a.
      let s = split (one tested t) (both (in_body b.0) (in_body c.0)) blocks a in
      let r = split (in_body b.0) (in_body c.0) blocks s.1 in
      join (full_trees t) (body_trees b.0 ++ body_trees c.0) (of_one tested t blocks s.0)
      (join (body_trees b.0) (body_trees c.0) (b.1 blocks r.0) (c.1 blocks r.1))
  at_body (form.Switch t b) = λ blocks a.
      let s = split (one selects t) (in_body b.0) blocks a in
      join (full_trees t) (body_trees b.0) (of_one selects t blocks s.0) (b.1 blocks s.1)
  at_body (form.While t b) = λ blocks a.
      let s = split (one tested t) (in_body b.0) blocks a in
      join (full_trees t) (body_trees b.0) (of_one tested t blocks s.0) (b.1 blocks s.1)
  at_body (form.Do b t) = λ blocks a.
      let s = split (in_body b.0) (one tested t) blocks a in
      join (body_trees b.0) (full_trees t) (b.1 blocks s.0) (of_one tested t blocks s.1)
  at_body (form.For start test step b) = λ blocks a.
      let around = (in_start start.0).around in
      let s = split (in_start start.0).found (λ z. both (found.perhaps tested test) (both (found.perhaps unused step) (in_body b.0)) (around z)) blocks a in
      let r = split (found.perhaps tested test) (both (found.perhaps unused step) (in_body b.0)) (around blocks) s.1 in
      let q = split (found.perhaps unused step) (in_body b.0) (around blocks) r.1 in
      join (start_trees start.0) (option_trees test ++ (option_trees step ++ body_trees b.0)) (start.1 blocks s.0)
      (join (option_trees test) (option_trees step ++ body_trees b.0) (of_perhaps tested test (around blocks) r.0)
      (join (option_trees step) (body_trees b.0) (of_perhaps unused step (around blocks) q.0) (b.1 (around blocks) q.1)))
  at_body (form.Goto k) = λ blocks a. All-nil P
  at_body form.Continue = λ blocks a. All-nil P
  at_body form.Break = λ blocks a. All-nil P
  at_body (form.Return t) = λ blocks a. of_perhaps returned t blocks a
  at_body (form.Label k b) = λ blocks a. b.1 blocks a
  at_body (form.Case z b) = λ blocks a. b.1 blocks a
  at_body (form.Default b) = λ blocks a. b.1 blocks a

  at_entry : (y : Entry-F FullBody FullEntry FullStart FullBlock)
      → EntryAt (map-Entry FullBody FullEntry FullStart FullBlock Body Entry ForStart Block (λ e. e.0) (λ e. e.0) (λ e. e.0) (λ e. e.0) y)
  at_entry (form.Statement b) = λ blocks a. b.1 blocks a
  at_entry (form.Initializer t) = λ blocks a. of_one initializes t blocks a
  at_entry (form.Declare d) = λ blocks a. All-nil P

  at_start : (y : ForStart-F FullBody FullEntry FullStart FullBlock)
      → StartAt (map-ForStart FullBody FullEntry FullStart FullBlock Body Entry ForStart Block (λ e. e.0) (λ e. e.0) (λ e. e.0) (λ e. e.0) y)
  at_start form.Empty = λ blocks a. All-nil P
  at_start (form.Value t) = λ blocks a. of_one unused t blocks a
  at_start (form.Declared b) = λ blocks a. b.1 blocks a

  entries_full : (es : List FullEntry) (blocks : Blocks) → Each (found_entries (map in_entry (map (λ e. e.0) es)) blocks)
      → All P (flat_map (λ ts. ts) (map entry_trees (map (λ e. e.0) es)))
  entries_full [] blocks a = All-nil P
  entries_full (e ∷ es) blocks a =
      let s = split (in_entry e.0) (found_entries (map in_entry (map (λ x. x.0) es))) blocks a in
      join (entry_trees e.0) (flat_map (λ ts. ts) (map entry_trees (map (λ x. x.0) es))) (e.1 blocks s.0) (entries_full es blocks s.1)

  at_block : (y : Block-F FullBody FullEntry FullStart FullBlock)
      → BlockAt (map-Block FullBody FullEntry FullStart FullBlock Body Entry ForStart Block (λ e. e.0) (λ e. e.0) (λ e. e.0) (λ e. e.0) y)
  at_block y = λ blocks a. entries_full y.entries (found.inside y.number (map qualified_of y.objects) blocks) a

  pub body_full : (b : Body) → BodyFull b
  body_full = ind-Body BodyFull EntryFull StartFull BlockFull
      (λ x y is. rolled_body x (subst BodyAt is (at_body y)))
      (λ x y is. rolled_entry x (subst EntryAt is (at_entry y)))
      (λ x y is. rolled_start x (subst StartAt is (at_start y)))
      (λ x y is. rolled_block x (subst BlockAt is (at_block y)))
