-- The statements that a lawful body is seen as are made of its full expressions.
use Rattle.std.proofs.Common.{List, [], ◌∷◌, ◌++◌, map, Option, Some, None, refl, sym, subst}
use Rattle.std.specs.List.{All}
use Rattle.std.proofs.lemmas.List.Elements.{All-nil, All-cons, All-head, All-tail}
use Rattle.c_types.specs.Types.{Signature, qualified_of}
use Rattle.c_typed.specs.declared.tree.Typed.{Typed}
use Rattle.c_typed.specs.declared.statement.Body.{Body, fold-Body, fold-roll-Body, map-Body, roll-Body}
use Rattle.c_typed.specs.declared.statement.Body.TheFolds.{ind-Body}
use Rattle.c_typed.specs.declared.statement.Body.TheOpen as form
use Rattle.c_typed.specs.declared.statement.Body.TheOpen.{Body-F, ForStart-F, Block-F, Entry-F}
use Rattle.c_typed.specs.declared.statement.Block.{Block, fold-Block, fold-roll-Block, map-Block, roll-Block}
use Rattle.c_typed.specs.declared.statement.Entry.{Entry, fold-Entry, fold-roll-Entry, map-Entry, roll-Entry}
use Rattle.c_typed.specs.declared.statement.ForStart.{ForStart, fold-ForStart, fold-roll-ForStart, map-ForStart, roll-ForStart}
use Rattle.c_typed.specs.declared.program.Program.{Program}
use Rattle.c_typed.specs.Sites.{Expression, Use, unused, tested, selects, returned, initializes, Blocks, Found, one, both, otherwise, Opened}
use Rattle.c_typed.specs.Sites.{found_body, found_entry, found_start, found_entries, found_block}
use Rattle.c_typed.specs.Sites as found
use Rattle.c_typed.specs.Lawful.{ExpressionIsLawful}
use Rattle.c_model.specs.Program as model
use Rattle.c_model.specs.Program.{Expr, Stmt}
use Rattle.program_view.specs.Trees.{expr_of}
use Rattle.program_view.specs.Statements as view
use Rattle.program_view.specs.Statements.{Inner, Loop, in_turn, stmt_of, inner_of, entry_of, loop_of}
use Rattle.static_laws.specs.LawfulSizes.{IsOf, IsReturnedOf, PerhapsOf, IsMadeOf, AreMadeOf}

abbrev pub in_body : Body → Found
in_body = fold-Body Found Found Opened Opened found_body found_entry found_start found_block

abbrev in_entry : Entry → Found
in_entry = fold-Entry Found Found Opened Opened found_body found_entry found_start found_block

abbrev in_start : ForStart → Opened
in_start = fold-ForStart Found Found Opened Opened found_body found_entry found_start found_block

abbrev in_block : Block → Opened
in_block = fold-Block Found Found Opened Opened found_body found_entry found_start found_block

all_both : {X : Type 0} (P : X → Type 0) (xs ys : List X) → All P (xs ++ ys) → All P xs × All P ys
all_both P [] ys h = (All-nil P, h)
all_both P (x ∷ xs) ys h =
    let rest = all_both P xs ys (All-tail P x (xs ++ ys) h) in
    (All-cons P x xs (All-head P x (xs ++ ys) h) rest.0, rest.1)

module _ (p : Program) (f : Signature) where
  abbrev AllLawful : List Expression → Type 0
  AllLawful = All (ExpressionIsLawful p f)

  abbrev BodyMade : Body → Type 0
  BodyMade b = (blocks : Blocks) → AllLawful (in_body b blocks) → IsMadeOf p f (stmt_of p.tags b)

  abbrev EntryMade : Entry → Type 0
  EntryMade e = (blocks : Blocks) → AllLawful (in_entry e blocks) → IsMadeOf p f (entry_of p.tags e)

  -- whatever follows what a `for` begins with
  abbrev MakesLoop : Loop → Type 0
  MakesLoop l = (test step : Option Expr) (s : Stmt) → PerhapsOf p f test → PerhapsOf p f step → IsMadeOf p f s → IsMadeOf p f (l test step s)

  abbrev StartMade : ForStart → Type 0
  StartMade s = (blocks : Blocks) → AllLawful ((in_start s).found blocks) → MakesLoop (loop_of p.tags s)

  abbrev BlockMade : Block → Type 0
  BlockMade b = (blocks : Blocks) → AllLawful ((in_block b).found blocks) → AreMadeOf p f (in_turn (inner_of p.tags b).statements)

  split : (a b : Found) (blocks : Blocks) → AllLawful (both a b blocks) → AllLawful (a blocks) × AllLawful (b blocks)
  split a b blocks h = all_both (ExpressionIsLawful p f) (a blocks) (b blocks) h

  of_one : (u : Use) (t : Typed) (blocks : Blocks) → AllLawful (one u t blocks) → IsOf p f (expr_of t)
  of_one u t blocks h = record {
    expression = record { tree = t; for_use = u; blocks = blocks };
    lawful = All-head (ExpressionIsLawful p f) (record { tree = t; for_use = u; blocks = blocks }) [] h;
    is = refl;
  }

  of_returned : (t : Typed) (blocks : Blocks) → AllLawful (one returned t blocks) → IsReturnedOf p f (expr_of t)
  unfolding of_one
  of_returned t blocks h = record { of = of_one returned t blocks h; returns = refl }

  of_perhaps : (u : Use) (o : Option Typed) (blocks : Blocks) → AllLawful (found.perhaps u o blocks) → PerhapsOf p f (view.perhaps o)
  of_perhaps u None blocks h = tt
  of_perhaps u (Some t) blocks h = of_one u t blocks h

  append_made : (ss : List Stmt) (s : Stmt) → AreMadeOf p f (in_turn ss) → IsMadeOf p f s → AreMadeOf p f (in_turn (ss ++ s ∷ []))
  append_made [] s h k = (k, tt)
  append_made (x ∷ ss) s h k = (h.0, append_made ss s h.1 k)

  -- one layer
  abbrev BodyAt : Body-F Body Entry ForStart Block → Type 0
  BodyAt z = (blocks : Blocks)
      → AllLawful (found_body (map-Body Body Entry ForStart Block Found Found Opened Opened in_body in_entry in_start in_block z) blocks)
      → IsMadeOf p f (view.body_step (map-Body Body Entry ForStart Block Stmt Stmt Loop Inner (stmt_of p.tags) (entry_of p.tags) (loop_of p.tags)
      (inner_of p.tags) z))

  abbrev EntryAt : Entry-F Body Entry ForStart Block → Type 0
  EntryAt z = (blocks : Blocks)
      → AllLawful (found_entry (map-Entry Body Entry ForStart Block Found Found Opened Opened in_body in_entry in_start in_block z) blocks)
      → IsMadeOf p f (view.entry_step (map-Entry Body Entry ForStart Block Stmt Stmt Loop Inner (stmt_of p.tags) (entry_of p.tags) (loop_of p.tags)
      (inner_of p.tags) z))

  abbrev StartAt : ForStart-F Body Entry ForStart Block → Type 0
  StartAt z = (blocks : Blocks)
      → AllLawful ((found_start (map-ForStart Body Entry ForStart Block Found Found Opened Opened in_body in_entry in_start in_block z)).found blocks)
      → MakesLoop (view.start_step (map-ForStart Body Entry ForStart Block Stmt Stmt Loop Inner (stmt_of p.tags) (entry_of p.tags) (loop_of p.tags)
      (inner_of p.tags) z))

  abbrev BlockAt : Block-F Body Entry ForStart Block → Type 0
  BlockAt z = (blocks : Blocks)
      → AllLawful ((found_block (map-Block Body Entry ForStart Block Found Found Opened Opened in_body in_entry in_start in_block z)).found blocks)
      → AreMadeOf p f (in_turn (view.block_step p.tags (map-Block Body Entry ForStart Block Stmt Stmt Loop Inner (stmt_of p.tags) (entry_of p.tags)
      (loop_of p.tags) (inner_of p.tags) z)).statements)

  rolled_body : (z : Body-F Body Entry ForStart Block) → BodyAt z → BodyMade (roll-Body z)
  rolled_body z h = λ blocks a.
      subst (IsMadeOf p f) (sym (fold-roll-Body Stmt Stmt Loop Inner view.body_step view.entry_step view.start_step (view.block_step p.tags) z))
      (h blocks (subst (λ (g : Found). AllLawful (g blocks)) (fold-roll-Body Found Found Opened Opened found_body found_entry found_start found_block z) a))

  rolled_entry : (z : Entry-F Body Entry ForStart Block) → EntryAt z → EntryMade (roll-Entry z)
  rolled_entry z h = λ blocks a.
      subst (IsMadeOf p f) (sym (fold-roll-Entry Stmt Stmt Loop Inner view.body_step view.entry_step view.start_step (view.block_step p.tags) z))
      (h blocks (subst (λ (g : Found). AllLawful (g blocks)) (fold-roll-Entry Found Found Opened Opened found_body found_entry found_start found_block z) a))

  rolled_start : (z : ForStart-F Body Entry ForStart Block) → StartAt z → StartMade (roll-ForStart z)
  rolled_start z h = λ blocks a.
      subst MakesLoop (sym (fold-roll-ForStart Stmt Stmt Loop Inner view.body_step view.entry_step view.start_step (view.block_step p.tags) z))
      (h blocks (subst (λ (g : Opened). AllLawful (g.found blocks))
      (fold-roll-ForStart Found Found Opened Opened found_body found_entry found_start found_block z) a))

  rolled_block : (z : Block-F Body Entry ForStart Block) → BlockAt z → BlockMade (roll-Block z)
  rolled_block z h = λ blocks a.
      subst (λ (g : Inner). AreMadeOf p f (in_turn g.statements))
      (sym (fold-roll-Block Stmt Stmt Loop Inner view.body_step view.entry_step view.start_step (view.block_step p.tags) z))
      (h blocks (subst (λ (g : Opened). AllLawful (g.found blocks))
      (fold-roll-Block Found Found Opened Opened found_body found_entry found_start found_block z) a))

  -- the parts, each with what holds of it
  abbrev MadeBody : Type 0
  MadeBody = (b : Body) × BodyMade b

  abbrev MadeEntry : Type 0
  MadeEntry = (e : Entry) × EntryMade e

  abbrev MadeStart : Type 0
  MadeStart = (s : ForStart) × StartMade s

  abbrev MadeBlock : Type 0
  MadeBlock = (b : Block) × BlockMade b

  at_body : (y : Body-F MadeBody MadeEntry MadeStart MadeBlock)
      → BodyAt (map-Body MadeBody MadeEntry MadeStart MadeBlock Body Entry ForStart Block (λ e. e.0) (λ e. e.0) (λ e. e.0) (λ e. e.0) y)
  at_body (form.Simple None) = λ blocks a. tt
  at_body (form.Simple (Some t)) = λ blocks a. of_one unused t blocks a
  at_body (form.Block b) = λ blocks a. b.1 blocks a
  at_body (form.If t b None) = λ blocks a.
      let s = split (one tested t) (both (in_body b.0) (λ z. [])) blocks a in
      (of_one tested t blocks s.0, b.1 blocks (split (in_body b.0) (λ z. []) blocks s.1).0)
  at_body (form.If t b (Some c)) = λ blocks a.
      let s = split (one tested t) (both (in_body b.0) (in_body c.0)) blocks a in
      let r = split (in_body b.0) (in_body c.0) blocks s.1 in
      (of_one tested t blocks s.0, (b.1 blocks r.0, c.1 blocks r.1))
  at_body (form.Switch t b) = λ blocks a.
      let s = split (one selects t) (in_body b.0) blocks a in
      (of_one selects t blocks s.0, b.1 blocks s.1)
  at_body (form.While t b) = λ blocks a.
      let s = split (one tested t) (in_body b.0) blocks a in
      (tt, (of_one tested t blocks s.0, (tt, b.1 blocks s.1)))
  at_body (form.Do b t) = λ blocks a.
      let s = split (in_body b.0) (one tested t) blocks a in
      (b.1 blocks s.0, of_one tested t blocks s.1)
  at_body (form.For start test step b) = λ blocks a.
      let around = (in_start start.0).around in
      let s = split (in_start start.0).found (λ z. both (found.perhaps tested test) (both (found.perhaps unused step) (in_body b.0)) (around z)) blocks a in
      let r = split (found.perhaps tested test) (both (found.perhaps unused step) (in_body b.0)) (around blocks) s.1 in
      let q = split (found.perhaps unused step) (in_body b.0) (around blocks) r.1 in
      start.1 blocks s.0 (view.perhaps test) (view.perhaps step) (stmt_of p.tags b.0) (of_perhaps tested test (around blocks) r.0)
      (of_perhaps unused step (around blocks) q.0) (b.1 (around blocks) q.1)
  at_body (form.Goto k) = λ blocks a. tt
  at_body form.Continue = λ blocks a. tt
  at_body form.Break = λ blocks a. tt
  at_body (form.Return None) = λ blocks a. tt
  at_body (form.Return (Some t)) = λ blocks a. of_returned t blocks a
  at_body (form.Label k b) = λ blocks a. b.1 blocks a
  at_body (form.Case z b) = λ blocks a. b.1 blocks a
  at_body (form.Default b) = λ blocks a. b.1 blocks a

  at_entry : (y : Entry-F MadeBody MadeEntry MadeStart MadeBlock)
      → EntryAt (map-Entry MadeBody MadeEntry MadeStart MadeBlock Body Entry ForStart Block (λ e. e.0) (λ e. e.0) (λ e. e.0) (λ e. e.0) y)
  at_entry (form.Statement b) = λ blocks a. b.1 blocks a
  at_entry (form.Initializer t) = λ blocks a. of_one initializes t blocks a
  at_entry (form.Declare d) = λ blocks a. tt

  at_start : (y : ForStart-F MadeBody MadeEntry MadeStart MadeBlock)
      → StartAt (map-ForStart MadeBody MadeEntry MadeStart MadeBlock Body Entry ForStart Block (λ e. e.0) (λ e. e.0) (λ e. e.0) (λ e. e.0) y)
  at_start form.Empty = λ blocks a test step s h k l. (tt, (h, (k, l)))
  at_start (form.Value t) = λ blocks a test step s h k l. (of_one unused t blocks a, (h, (k, l)))
  at_start (form.Declared b) = λ blocks a test step s h k l.
      append_made (inner_of p.tags b.0).statements (model.For None test step s) (b.1 blocks a) (tt, (h, (k, l)))

  entries_made : (es : List MadeEntry) (blocks : Blocks) → AllLawful (found_entries (map in_entry (map (λ e. e.0) es)) blocks)
      → AreMadeOf p f (in_turn (map (entry_of p.tags) (map (λ e. e.0) es)))
  entries_made [] blocks a = tt
  entries_made (e ∷ es) blocks a =
      let s = split (in_entry e.0) (found_entries (map in_entry (map (λ x. x.0) es))) blocks a in
      (e.1 blocks s.0, entries_made es blocks s.1)

  at_block : (y : Block-F MadeBody MadeEntry MadeStart MadeBlock)
      → BlockAt (map-Block MadeBody MadeEntry MadeStart MadeBlock Body Entry ForStart Block (λ e. e.0) (λ e. e.0) (λ e. e.0) (λ e. e.0) y)
  at_block y = λ blocks a. entries_made y.entries (found.inside y.number (map qualified_of y.objects) blocks) a

  pub body_made : (b : Body) → BodyMade b
  body_made = ind-Body BodyMade EntryMade StartMade BlockMade
      (λ x y is. rolled_body x (subst BodyAt is (at_body y)))
      (λ x y is. rolled_entry x (subst EntryAt is (at_entry y)))
      (λ x y is. rolled_start x (subst StartAt is (at_start y)))
      (λ x y is. rolled_block x (subst BlockAt is (at_block y)))
