-- The statements that a body is seen as have small constants, where its full expressions have.
use Rattle.std.proofs.Common.{◌≡◌, List, [], ◌∷◌, ◌++◌, map, Option, Some, None, sym, subst}
use Rattle.std.specs.List.{All}
use Rattle.std.proofs.lemmas.List.Elements.{All-head}
use Rattle.c_types.specs.declared.tags.Tag.{Tag}
use Rattle.c_types.specs.Types.{qualified_of}
use Rattle.c_typed.specs.declared.statement.Body.{Body, fold-Body, fold-roll-Body, map-Body, out-Body, roll-Body, roll-out-Body}
use Rattle.c_typed.specs.declared.statement.Body.TheFolds.{ind-Body}
use Rattle.c_typed.specs.declared.statement.Body.TheOpen as form
use Rattle.c_typed.specs.declared.statement.Body.TheOpen.{Body-F, ForStart-F, Block-F, Entry-F}
use Rattle.c_typed.specs.declared.statement.Block.{Block, fold-Block, fold-roll-Block, map-Block, roll-Block}
use Rattle.c_typed.specs.declared.statement.Entry.{Entry, fold-Entry, fold-roll-Entry, map-Entry, roll-Entry}
use Rattle.c_typed.specs.declared.statement.ForStart.{ForStart, fold-ForStart, fold-roll-ForStart, map-ForStart, roll-ForStart}
use Rattle.c_typed.specs.declared.tree.Typed.{Typed}
use Rattle.c_typed.specs.Sites.{Blocks, Expression, Found, Opened, Use, both, expressions, found_block, found_body, found_entries, found_entry, found_start}
use Rattle.c_typed.specs.Sites.{initializes}
use Rattle.c_typed.specs.Sites.{inside, no_block, one, returned, selects, tested, unused}
use Rattle.c_typed.specs.Sites as found
use Rattle.c_model.specs.Program as model
use Rattle.c_model.specs.Program.{Expr, Stmt}
use Rattle.program_view.specs.Trees.{expr_of}
use Rattle.program_view.specs.Statements as view
use Rattle.program_view.specs.Statements.{Inner, Loop, as_block, defined, definition, entry_of, in_turn, inner_of, loop_of, stmt_of}
use Rattle.value_facts.specs.Constants.{EachIn, EachOf, IsSmallExpr, Perhaps}
use Rattle.value_facts.proofs.Trees.{all_both}

-- 1. What a typed statement holds.

abbrev in_body : Body → Found
in_body = fold-Body Found Found Opened Opened found_body found_entry found_start found_block

abbrev in_entry : Entry → Found
in_entry = fold-Entry Found Found Opened Opened found_body found_entry found_start found_block

abbrev in_start : ForStart → Opened
in_start = fold-ForStart Found Found Opened Opened found_body found_entry found_start found_block

abbrev in_block : Block → Opened
in_block = fold-Block Found Found Opened Opened found_body found_entry found_start found_block

module _ (tags : List Tag) (Q : Expression → Type 0) (good : (e : Expression) → Q e → IsSmallExpr (expr_of e.tree)) where
  abbrev AllGood : List Expression → Type 0
  AllGood = All Q

  abbrev Small : Stmt → Type 0
  Small = EachOf IsSmallExpr

  abbrev PerhapsSmall : Option Expr → Type 0
  PerhapsSmall = Perhaps IsSmallExpr

  abbrev BodySmall : Body → Type 0
  BodySmall b = (blocks : Blocks) → AllGood (in_body b blocks) → Small (stmt_of tags b)

  abbrev EntrySmall : Entry → Type 0
  EntrySmall e = (blocks : Blocks) → AllGood (in_entry e blocks) → Small (entry_of tags e)

  -- whatever follows what a `for` begins with
  abbrev LoopIsSmall : Loop → Type 0
  LoopIsSmall l = (test step : Option Expr) (s : Stmt) → PerhapsSmall test → PerhapsSmall step → Small s → Small (l test step s)

  abbrev StartSmall : ForStart → Type 0
  StartSmall s = (blocks : Blocks) → AllGood ((in_start s).found blocks) → LoopIsSmall (loop_of tags s)

  abbrev InnerIsSmall : Inner → Type 0
  InnerIsSmall i = EachIn IsSmallExpr (in_turn i.statements)

  abbrev BlockSmall : Block → Type 0
  BlockSmall b = (blocks : Blocks) → AllGood ((in_block b).found blocks) → InnerIsSmall (inner_of tags b)

  split : (a b : Found) (blocks : Blocks) → AllGood (both a b blocks) → AllGood (a blocks) × AllGood (b blocks)
  split a b blocks h = all_both Q (a blocks) (b blocks) h

  of_one : (u : Use) (t : Typed) (blocks : Blocks) → AllGood (one u t blocks) → IsSmallExpr (expr_of t)
  of_one u t blocks h = good (record { tree = t; for_use = u; blocks = blocks }) (All-head Q _ [] h)

  of_perhaps : (u : Use) (o : Option Typed) (blocks : Blocks) → AllGood (found.perhaps u o blocks) → PerhapsSmall (view.perhaps o)
  of_perhaps u None blocks h = tt
  of_perhaps u (Some t) blocks h = of_one u t blocks h

  append_small : (ss : List Stmt) (s : Stmt) → EachIn IsSmallExpr (in_turn ss) → Small s → EachIn IsSmallExpr (in_turn (ss ++ s ∷ []))
  append_small [] s h k = (k, tt)
  append_small (x ∷ ss) s h k = (h.0, append_small ss s h.1 k)

  -- 2. One layer.

  abbrev found_at : Body-F Body Entry ForStart Block → Found
  found_at z = found_body (map-Body Body Entry ForStart Block Found Found Opened Opened in_body in_entry in_start in_block z)

  abbrev seen_at : Body-F Body Entry ForStart Block → Stmt
  seen_at z = view.body_step (map-Body Body Entry ForStart Block Stmt Stmt Loop Inner (stmt_of tags) (entry_of tags) (loop_of tags) (inner_of tags) z)

  abbrev BodyAt : Body-F Body Entry ForStart Block → Type 0
  BodyAt z = (blocks : Blocks) → AllGood (found_at z blocks) → Small (seen_at z)

  abbrev entry_found : Entry-F Body Entry ForStart Block → Found
  entry_found z = found_entry (map-Entry Body Entry ForStart Block Found Found Opened Opened in_body in_entry in_start in_block z)

  abbrev entry_seen : Entry-F Body Entry ForStart Block → Stmt
  entry_seen z = view.entry_step (map-Entry Body Entry ForStart Block Stmt Stmt Loop Inner (stmt_of tags) (entry_of tags) (loop_of tags) (inner_of tags) z)

  abbrev EntryAt : Entry-F Body Entry ForStart Block → Type 0
  EntryAt z = (blocks : Blocks) → AllGood (entry_found z blocks) → Small (entry_seen z)

  abbrev start_found : ForStart-F Body Entry ForStart Block → Opened
  start_found z = found_start (map-ForStart Body Entry ForStart Block Found Found Opened Opened in_body in_entry in_start in_block z)

  abbrev start_seen : ForStart-F Body Entry ForStart Block → Loop
  start_seen z = view.start_step (map-ForStart Body Entry ForStart Block Stmt Stmt Loop Inner (stmt_of tags) (entry_of tags) (loop_of tags) (inner_of tags) z)

  abbrev StartAt : ForStart-F Body Entry ForStart Block → Type 0
  StartAt z = (blocks : Blocks) → AllGood ((start_found z).found blocks) → LoopIsSmall (start_seen z)

  abbrev block_found : Block-F Body Entry ForStart Block → Opened
  block_found z = found_block (map-Block Body Entry ForStart Block Found Found Opened Opened in_body in_entry in_start in_block z)

  abbrev block_seen : Block-F Body Entry ForStart Block → Inner
  block_seen z =
      view.block_step tags (map-Block Body Entry ForStart Block Stmt Stmt Loop Inner (stmt_of tags) (entry_of tags) (loop_of tags) (inner_of tags) z)

  abbrev BlockAt : Block-F Body Entry ForStart Block → Type 0
  BlockAt z = (blocks : Blocks) → AllGood ((block_found z).found blocks) → InnerIsSmall (block_seen z)

  rolled_body : (z : Body-F Body Entry ForStart Block) → BodyAt z → BodySmall (roll-Body z)
  rolled_body z h = λ blocks a.
      subst Small (sym (fold-roll-Body Stmt Stmt Loop Inner view.body_step view.entry_step view.start_step (view.block_step tags) z))
      (h blocks (subst (λ (g : Found). AllGood (g blocks)) (fold-roll-Body Found Found Opened Opened found_body found_entry found_start found_block z) a))

  rolled_entry : (z : Entry-F Body Entry ForStart Block) → EntryAt z → EntrySmall (roll-Entry z)
  rolled_entry z h = λ blocks a.
      subst Small (sym (fold-roll-Entry Stmt Stmt Loop Inner view.body_step view.entry_step view.start_step (view.block_step tags) z))
      (h blocks (subst (λ (g : Found). AllGood (g blocks)) (fold-roll-Entry Found Found Opened Opened found_body found_entry found_start found_block z) a))

  rolled_start : (z : ForStart-F Body Entry ForStart Block) → StartAt z → StartSmall (roll-ForStart z)
  rolled_start z h = λ blocks a.
      subst LoopIsSmall (sym (fold-roll-ForStart Stmt Stmt Loop Inner view.body_step view.entry_step view.start_step (view.block_step tags) z))
      (h blocks
      (subst (λ (g : Opened). AllGood (g.found blocks)) (fold-roll-ForStart Found Found Opened Opened found_body found_entry found_start found_block z) a))

  rolled_block : (z : Block-F Body Entry ForStart Block) → BlockAt z → BlockSmall (roll-Block z)
  rolled_block z h = λ blocks a.
      subst InnerIsSmall (sym (fold-roll-Block Stmt Stmt Loop Inner view.body_step view.entry_step view.start_step (view.block_step tags) z))
      (h blocks
      (subst (λ (g : Opened). AllGood (g.found blocks)) (fold-roll-Block Found Found Opened Opened found_body found_entry found_start found_block z) a))

  -- the parts, each with what holds of it
  abbrev SmallBody : Type 0
  SmallBody = (b : Body) × BodySmall b

  abbrev SmallEntry : Type 0
  SmallEntry = (e : Entry) × EntrySmall e

  abbrev SmallStart : Type 0
  SmallStart = (s : ForStart) × StartSmall s

  abbrev SmallBlock : Type 0
  SmallBlock = (b : Block) × BlockSmall b

  at_body : (y : Body-F SmallBody SmallEntry SmallStart SmallBlock)
      → BodyAt (map-Body SmallBody SmallEntry SmallStart SmallBlock Body Entry ForStart Block (λ e. e.0) (λ e. e.0) (λ e. e.0) (λ e. e.0) y)
  at_body (form.Simple None) = λ blocks a. tt
  at_body (form.Simple (Some t)) = λ blocks a. of_one unused t blocks a
  at_body (form.Block b) = λ blocks a. b.1 blocks a
  at_body (form.If t b None) = λ blocks a.
      let s = split (one tested t) (both (in_body b.0) (λ z. [])) blocks a in
      (of_one tested t blocks s.0, b.1 blocks (split (in_body b.0) (λ z. []) blocks s.1).0)
  at_body (form.If t b (Some c)) = λ blocks a.
      let s = split (one tested t) (both (in_body b.0) (in_body c.0)) blocks a in
      let q = split (in_body b.0) (in_body c.0) blocks s.1 in
      (of_one tested t blocks s.0, (b.1 blocks q.0, c.1 blocks q.1))
  at_body (form.Switch t b) = λ blocks a.
      let s = split (one selects t) (in_body b.0) blocks a in
      (of_one selects t blocks s.0, b.1 blocks s.1)
  at_body (form.While t b) = λ blocks a.
      let s = split (one tested t) (in_body b.0) blocks a in
      (tt, (of_one tested t blocks s.0, (tt, b.1 blocks s.1)))
  at_body (form.Do b t) = λ blocks a.
      let s = split (in_body b.0) (one tested t) blocks a in
      (b.1 blocks s.0, of_one tested t blocks s.1)
  at_body (form.For start test step b) = λ blocks a.
      let opens = (in_start start.0).around in
      let s = split (in_start start.0).found (λ z. both (found.perhaps tested test) (both (found.perhaps unused step) (in_body b.0)) (opens z)) blocks a in
      let u = split (found.perhaps tested test) (both (found.perhaps unused step) (in_body b.0)) (opens blocks) s.1 in
      let q = split (found.perhaps unused step) (in_body b.0) (opens blocks) u.1 in
      start.1 blocks s.0 (view.perhaps test) (view.perhaps step) (stmt_of tags b.0) (of_perhaps tested test (opens blocks) u.0)
      (of_perhaps unused step (opens blocks) q.0) (b.1 (opens blocks) q.1)
  at_body (form.Goto k) = λ blocks a. tt
  at_body form.Continue = λ blocks a. tt
  at_body form.Break = λ blocks a. tt
  at_body (form.Return None) = λ blocks a. tt
  at_body (form.Return (Some t)) = λ blocks a. of_one returned t blocks a
  at_body (form.Label k b) = λ blocks a. b.1 blocks a
  at_body (form.Case z b) = λ blocks a. b.1 blocks a
  at_body (form.Default b) = λ blocks a. b.1 blocks a

  at_entry : (y : Entry-F SmallBody SmallEntry SmallStart SmallBlock)
      → EntryAt (map-Entry SmallBody SmallEntry SmallStart SmallBlock Body Entry ForStart Block (λ e. e.0) (λ e. e.0) (λ e. e.0) (λ e. e.0) y)
  at_entry (form.Statement b) = λ blocks a. b.1 blocks a
  at_entry (form.Initializer t) = λ blocks a. of_one initializes t blocks a
  at_entry (form.Declare n) = λ blocks a. tt

  at_start : (y : ForStart-F SmallBody SmallEntry SmallStart SmallBlock)
      → StartAt (map-ForStart SmallBody SmallEntry SmallStart SmallBlock Body Entry ForStart Block (λ e. e.0) (λ e. e.0) (λ e. e.0) (λ e. e.0) y)
  at_start form.Empty = λ blocks a test step s h k l. (tt, (h, (k, l)))
  at_start (form.Value t) = λ blocks a test step s h k l. (of_one unused t blocks a, (h, (k, l)))
  at_start (form.Declared b) = λ blocks a test step s h k l.
      append_small (inner_of tags b.0).statements (model.For None test step s) (b.1 blocks a) (tt, (h, (k, l)))

  entries_small : (es : List SmallEntry) (blocks : Blocks) → AllGood (found_entries (map in_entry (map (λ (e : SmallEntry). e.0) es)) blocks)
      → EachIn IsSmallExpr (in_turn (map (entry_of tags) (map (λ (e : SmallEntry). e.0) es)))
  entries_small [] blocks a = tt
  entries_small (e ∷ es) blocks a =
      let s = split (in_entry e.0) (found_entries (map in_entry (map (λ (x : SmallEntry). x.0) es))) blocks a in
      (e.1 blocks s.0, entries_small es blocks s.1)

  at_block : (y : Block-F SmallBody SmallEntry SmallStart SmallBlock)
      → BlockAt (map-Block SmallBody SmallEntry SmallStart SmallBlock Body Entry ForStart Block (λ e. e.0) (λ e. e.0) (λ e. e.0) (λ e. e.0) y)
  at_block y = λ blocks a. entries_small y.entries (inside y.number (map qualified_of y.objects) blocks) a

  pub body_small : (b : Body) → BodySmall b
  body_small = ind-Body BodySmall EntrySmall StartSmall BlockSmall
      (λ x y is. rolled_body x (subst BodyAt is (at_body y)))
      (λ x y is. rolled_entry x (subst EntryAt is (at_entry y)))
      (λ x y is. rolled_start x (subst StartAt is (at_start y)))
      (λ x y is. rolled_block x (subst BlockAt is (at_block y)))

  -- 3. A function's definition.

  seen_is : (k : Block) → stmt_of tags (roll-Body (form.Block k)) ≡ as_block (inner_of tags k)
  seen_is k = fold-roll-Body Stmt Stmt Loop Inner view.body_step view.entry_step view.start_step (view.block_step tags) (form.Block k)

  layer_small : (d : Body-F Body Entry ForStart Block) (s : Stmt) → AllGood (expressions (roll-Body d)) → defined tags d ≡ Some s → Small s
  layer_small (form.Block k) s h e =
      let same : as_block (inner_of tags k) ≡ s = cc (e) in
      subst Small same (subst Small (seen_is k) (body_small (roll-Body (form.Block k)) no_block h))
  layer_small (form.Simple t) s h e = absurd (cc (e))
  layer_small (form.If t a b) s h e = absurd (cc (e))
  layer_small (form.Switch t a) s h e = absurd (cc (e))
  layer_small (form.While t a) s h e = absurd (cc (e))
  layer_small (form.Do a t) s h e = absurd (cc (e))
  layer_small (form.For start test step a) s h e = absurd (cc (e))
  layer_small (form.Goto n) s h e = absurd (cc (e))
  layer_small form.Continue s h e = absurd (cc (e))
  layer_small form.Break s h e = absurd (cc (e))
  layer_small (form.Return t) s h e = absurd (cc (e))
  layer_small (form.Label n a) s h e = absurd (cc (e))
  layer_small (form.Case z a) s h e = absurd (cc (e))
  layer_small (form.Default a) s h e = absurd (cc (e))

  pub definition_small : (b : Body) (s : Stmt) → AllGood (expressions b) → definition tags (Some b) ≡ Some s → Small s
  definition_small b s h e = layer_small (out-Body b) s (subst (λ (c : Body). AllGood (expressions c)) (sym (roll-out-Body b)) h) e
