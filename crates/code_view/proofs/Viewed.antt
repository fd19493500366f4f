-- The statement of a typed body is the one that its tree of control stands for, where the objects of each block are those of its number.
use Rattle.std.proofs.Common.{◌≡◌, ℕ, List, [], ◌∷◌, ◌++◌, map, Option, Some, None, refl, sym, ap, subst, ◌∙◌}
use Rattle.std.specs.List.{All}
use Rattle.std.proofs.lemmas.List.Elements.{All-nil, All-cons, All-head, All-tail}
use Rattle.c_types.specs.declared.tags.Tag.{Tag}
use Rattle.c_types.specs.declared.ty.Qual.{Qual}
use Rattle.c_types.specs.Types.{qualified_of}
use Rattle.c_typed.specs.declared.tree.Typed.{Typed}
use Rattle.c_typed.specs.declared.statement.Body.{Body, fold-roll-Body, map-Body, roll-Body}
use Rattle.c_typed.specs.declared.statement.Body.TheFolds.{ind-Body}
use Rattle.c_typed.specs.declared.statement.Body.TheOpen as form
use Rattle.c_typed.specs.declared.statement.Body.TheOpen.{Body-F, ForStart-F, Block-F, Entry-F}
use Rattle.c_typed.specs.declared.statement.Block.{Block, fold-Block, fold-roll-Block, map-Block, roll-Block}
use Rattle.c_typed.specs.declared.statement.Entry.{Entry, fold-Entry, fold-roll-Entry, map-Entry, roll-Entry}
use Rattle.c_typed.specs.declared.statement.ForStart.{ForStart, fold-ForStart, fold-roll-ForStart, map-ForStart, roll-ForStart}
use Rattle.c_typed.specs.Sites.{BlockRow, Summary, summary, summary_step, entry_summary, start_summary, block_summary, entries_summary, declared_in}
use Rattle.c_model.specs.Program as model
use Rattle.c_model.specs.Program.{Expr, Decl, Stmt}
use Rattle.program_view.specs.Trees.{expr_of}
use Rattle.program_view.specs.Objects.{decl_of}
use Rattle.program_view.specs.Statements as view
use Rattle.program_view.specs.Statements.{Inner, Loop, stmt_of, inner_of, entry_of, loop_of}
use Rattle.run_control.specs.View.{in_turn}
use Rattle.run_statements.specs.Bodies as code
use Rattle.code_view.specs.Numbering.{RowHas}

-- what an entry of a block holds, and the objects that it declares without initializer
abbrev Noted : Type 0
Noted = Summary × List ℕ

abbrev sum_entry : Entry → Noted
sum_entry = fold-Entry Summary Noted Summary Summary summary_step entry_summary start_summary block_summary

abbrev sum_start : ForStart → Summary
sum_start = fold-ForStart Summary Noted Summary Summary summary_step entry_summary start_summary block_summary

abbrev sum_block : Block → Summary
sum_block = fold-Block Summary Noted Summary Summary summary_step entry_summary start_summary block_summary

pub all_both : {X : Type 0} (P : X → Type 0) (xs ys : List X) → All P (xs ++ ys) → All P xs × All P ys
all_both P [] ys h = (All-nil P, h)
all_both P (x ∷ xs) ys h =
    let rest = all_both P xs ys (All-tail P x (xs ++ ys) h) in
    (All-cons P x xs (All-head P x (xs ++ ys) h) rest.0, rest.1)

same_turn : (ss : List Stmt) → view.in_turn ss ≡ in_turn ss
same_turn [] = refl
same_turn (s ∷ ss) = ap (model.and_then s) (same_turn ss)

seen_perhaps : (o : Option Typed) → view.perhaps o ≡ code.seen_if expr_of o
seen_perhaps None = refl
seen_perhaps (Some t) = refl

seen_objects : (tags : List Tag) (os : List Qual) → map (decl_of tags) (map qualified_of os) ≡ map (λ q. decl_of tags (qualified_of q)) os
seen_objects tags [] = refl
seen_objects tags (o ∷ os) = ap (λ z. decl_of tags (qualified_of o) ∷ z) (seen_objects tags os)

module _ (tags : List Tag) (decls : ℕ → List Decl) where
  abbrev Have : List BlockRow → Type 0
  Have = All (RowHas tags decls)

  -- the same block seen both ways
  abbrev SameInner : Inner → code.Inner → Type 0
  SameInner a b = (a.number ≡ b.number) × (a.decls ≡ decls b.number) × (a.statements ≡ b.statements)

  -- and the same first part of a `for`
  abbrev SameLoop : Loop → code.Loop → Type 0
  SameLoop f g = (test step : Option Expr) (s : Stmt) → f test step s ≡ g test step s

  abbrev code_body : Body → Stmt
  code_body = code.body_of expr_of decls

  abbrev code_entry : Entry → Stmt
  code_entry = code.entry_of expr_of decls

  abbrev code_start : ForStart → code.Loop
  code_start = code.loop_of expr_of decls

  abbrev code_block : Block → code.Inner
  code_block = code.inner_of expr_of decls

  abbrev BodySeen : Body → Type 0
  BodySeen b = Have (summary b).blocks → stmt_of tags b ≡ code_body b

  abbrev EntrySeen : Entry → Type 0
  EntrySeen e = Have (sum_entry e).0.blocks → entry_of tags e ≡ code_entry e

  abbrev StartSeen : ForStart → Type 0
  StartSeen s = Have (sum_start s).blocks → SameLoop (loop_of tags s) (code_start s)

  abbrev BlockSeen : Block → Type 0
  BlockSeen b = Have (sum_block b).blocks → SameInner (inner_of tags b) (code_block b)

  split : (xs ys : List BlockRow) → Have (xs ++ ys) → Have xs × Have ys
  split xs ys h = all_both (RowHas tags decls) xs ys h

  same_block : (a : Inner) (b : code.Inner) → SameInner a b → view.as_block a ≡ code.as_block expr_of decls b
  same_block a b h =
      ap (λ n. model.Block n a.decls (view.in_turn a.statements)) h.0
      ∙ (ap (λ ds. model.Block b.number ds (view.in_turn a.statements)) h.1
      ∙ (ap (model.Block b.number (decls b.number)) (same_turn a.statements)
      ∙ ap (λ ss. model.Block b.number (decls b.number) (in_turn ss)) h.2))

  -- one layer
  abbrev BodyAt : Body-F Body Entry ForStart Block → Type 0
  BodyAt z = Have (summary_step (map-Body Body Entry ForStart Block Summary Noted Summary Summary summary sum_entry sum_start sum_block z)).blocks
      → view.body_step (map-Body Body Entry ForStart Block Stmt Stmt Loop Inner (stmt_of tags) (entry_of tags) (loop_of tags) (inner_of tags) z)
      ≡ code.body_step expr_of decls (map-Body Body Entry ForStart Block Stmt Stmt code.Loop code.Inner code_body code_entry code_start code_block z)

  abbrev EntryAt : Entry-F Body Entry ForStart Block → Type 0
  EntryAt z = Have (entry_summary (map-Entry Body Entry ForStart Block Summary Noted Summary Summary summary sum_entry sum_start sum_block z)).0.blocks
      → view.entry_step (map-Entry Body Entry ForStart Block Stmt Stmt Loop Inner (stmt_of tags) (entry_of tags) (loop_of tags) (inner_of tags) z)
      ≡ code.entry_step expr_of decls (map-Entry Body Entry ForStart Block Stmt Stmt code.Loop code.Inner code_body code_entry code_start code_block z)

  abbrev StartAt : ForStart-F Body Entry ForStart Block → Type 0
  StartAt z = Have (start_summary (map-ForStart Body Entry ForStart Block Summary Noted Summary Summary summary sum_entry sum_start sum_block z)).blocks
      → SameLoop (view.start_step (map-ForStart Body Entry ForStart Block Stmt Stmt Loop Inner (stmt_of tags) (entry_of tags) (loop_of tags) (inner_of tags) z))
      (code.start_step expr_of decls (map-ForStart Body Entry ForStart Block Stmt Stmt code.Loop code.Inner code_body code_entry code_start code_block z))

  abbrev BlockAt : Block-F Body Entry ForStart Block → Type 0
  BlockAt z = Have (block_summary (map-Block Body Entry ForStart Block Summary Noted Summary Summary summary sum_entry sum_start sum_block z)).blocks
      → SameInner
      (view.block_step tags (map-Block Body Entry ForStart Block Stmt Stmt Loop Inner (stmt_of tags) (entry_of tags) (loop_of tags) (inner_of tags) z))
      (code.block_step expr_of decls (map-Block Body Entry ForStart Block Stmt Stmt code.Loop code.Inner code_body code_entry code_start code_block z))

  rolled_body : (z : Body-F Body Entry ForStart Block) → BodyAt z → BodySeen (roll-Body z)
  rolled_body z h = λ a.
      fold-roll-Body Stmt Stmt Loop Inner view.body_step view.entry_step view.start_step (view.block_step tags) z
      ∙ (h (subst (λ (s : Summary). Have s.blocks)
      (fold-roll-Body Summary Noted Summary Summary summary_step entry_summary start_summary block_summary z) a)
      ∙ sym (fold-roll-Body Stmt Stmt code.Loop code.Inner (code.body_step expr_of decls) (code.entry_step expr_of decls) (code.start_step expr_of decls)
      (code.block_step expr_of decls) z))

  rolled_entry : (z : Entry-F Body Entry ForStart Block) → EntryAt z → EntrySeen (roll-Entry z)
  rolled_entry z h = λ a.
      fold-roll-Entry Stmt Stmt Loop Inner view.body_step view.entry_step view.start_step (view.block_step tags) z
      ∙ (h (subst (λ (s : Noted). Have s.0.blocks)
      (fold-roll-Entry Summary Noted Summary Summary summary_step entry_summary start_summary block_summary z) a)
      ∙ sym (fold-roll-Entry Stmt Stmt code.Loop code.Inner (code.body_step expr_of decls) (code.entry_step expr_of decls) (code.start_step expr_of decls)
      (code.block_step expr_of decls) z))

  rolled_start : (z : ForStart-F Body Entry ForStart Block) → StartAt z → StartSeen (roll-ForStart z)
  rolled_start z h = λ a test step s.
      ap (λ (g : Loop). g test step s) (fold-roll-ForStart Stmt Stmt Loop Inner view.body_step view.entry_step view.start_step (view.block_step tags) z)
      ∙ (h (subst (λ (y : Summary). Have y.blocks)
      (fold-roll-ForStart Summary Noted Summary Summary summary_step entry_summary start_summary block_summary z) a) test step s
      ∙ sym (ap (λ (g : code.Loop). g test step s) (fold-roll-ForStart Stmt Stmt code.Loop code.Inner (code.body_step expr_of decls)
      (code.entry_step expr_of decls) (code.start_step expr_of decls) (code.block_step expr_of decls) z)))

  rolled_block : (z : Block-F Body Entry ForStart Block) → BlockAt z → BlockSeen (roll-Block z)
  rolled_block z h = λ a.
      subst (λ (g : Inner). SameInner g (code_block (roll-Block z)))
      (sym (fold-roll-Block Stmt Stmt Loop Inner view.body_step view.entry_step view.start_step (view.block_step tags) z))
      (subst (SameInner (view.block_step tags (map-Block Body Entry ForStart Block Stmt Stmt Loop Inner (stmt_of tags) (entry_of tags) (loop_of tags)
      (inner_of tags) z)))
      (sym (fold-roll-Block Stmt Stmt code.Loop code.Inner (code.body_step expr_of decls) (code.entry_step expr_of decls) (code.start_step expr_of decls)
      (code.block_step expr_of decls) z))
      (h (subst (λ (y : Summary). Have y.blocks)
      (fold-roll-Block Summary Noted Summary Summary summary_step entry_summary start_summary block_summary z) a)))

  -- the parts, each with what holds of it
  abbrev SeenBody : Type 0
  SeenBody = (b : Body) × BodySeen b

  abbrev SeenEntry : Type 0
  SeenEntry = (e : Entry) × EntrySeen e

  abbrev SeenStart : Type 0
  SeenStart = (s : ForStart) × StartSeen s

  abbrev SeenBlock : Type 0
  SeenBlock = (b : Block) × BlockSeen b

  at_body : (y : Body-F SeenBody SeenEntry SeenStart SeenBlock)
      → BodyAt (map-Body SeenBody SeenEntry SeenStart SeenBlock Body Entry ForStart Block (λ e. e.0) (λ e. e.0) (λ e. e.0) (λ e. e.0) y)
  at_body (form.Simple None) = λ a. refl
  at_body (form.Simple (Some t)) = λ a. refl
  at_body (form.Block b) = λ a. same_block (inner_of tags b.0) (code_block b.0) (b.1 a)
  at_body (form.If t b None) = λ a. ap (model.If_only (expr_of t)) (b.1 a)
  at_body (form.If t b (Some c)) = λ a.
      let s = split (summary b.0).blocks (summary c.0).blocks a in
      ap (λ z. model.If (expr_of t) z (stmt_of tags c.0)) (b.1 s.0) ∙ ap (model.If (expr_of t) (code_body b.0)) (c.1 s.1)
  at_body (form.Switch t b) = λ a. ap (model.Switch (expr_of t)) (b.1 a)
  at_body (form.While t b) = λ a. ap (model.While (expr_of t)) (b.1 a)
  at_body (form.Do b t) = λ a. ap (λ z. model.Do z (expr_of t)) (b.1 a)
  at_body (form.For start test step b) = λ a.
      let s = split (sum_start start.0).blocks (summary b.0).blocks a in
      start.1 s.0 (view.perhaps test) (view.perhaps step) (stmt_of tags b.0)
      ∙ (ap (λ z. code_start start.0 z (view.perhaps step) (stmt_of tags b.0)) (seen_perhaps test)
      ∙ (ap (λ z. code_start start.0 (code.seen_if expr_of test) z (stmt_of tags b.0)) (seen_perhaps step)
      ∙ ap (code_start start.0 (code.seen_if expr_of test) (code.seen_if expr_of step)) (b.1 s.1)))
  at_body (form.Goto k) = λ a. refl
  at_body form.Continue = λ a. refl
  at_body form.Break = λ a. refl
  at_body (form.Return None) = λ a. refl
  at_body (form.Return (Some t)) = λ a. refl
  at_body (form.Label k b) = λ a. ap (model.Label k) (b.1 a)
  at_body (form.Case z b) = λ a. ap (model.Case z) (b.1 a)
  at_body (form.Default b) = λ a. ap model.Default (b.1 a)

  at_entry : (y : Entry-F SeenBody SeenEntry SeenStart SeenBlock)
      → EntryAt (map-Entry SeenBody SeenEntry SeenStart SeenBlock Body Entry ForStart Block (λ e. e.0) (λ e. e.0) (λ e. e.0) (λ e. e.0) y)
  at_entry (form.Statement b) = λ a. b.1 a
  at_entry (form.Initializer t) = λ a. refl
  at_entry (form.Declare d) = λ a. refl

  at_start : (y : ForStart-F SeenBody SeenEntry SeenStart SeenBlock)
      → StartAt (map-ForStart SeenBody SeenEntry SeenStart SeenBlock Body Entry ForStart Block (λ e. e.0) (λ e. e.0) (λ e. e.0) (λ e. e.0) y)
  at_start form.Empty = λ a test step s. refl
  at_start (form.Value t) = λ a test step s. refl
  at_start (form.Declared b) = λ a test step s.
      let h = b.1 a in
      same_block (record (inner_of tags b.0) { statements = (inner_of tags b.0).statements ++ model.For None test step s ∷ [] })
      (record { number = (code_block b.0).number; statements = (code_block b.0).statements ++ model.For None test step s ∷ [] })
      (h.0, h.1, ap (λ ss. ss ++ model.For None test step s ∷ []) h.2)

  entries_seen : (es : List SeenEntry) → Have (entries_summary (map sum_entry (map (λ e. e.0) es))).blocks
      → map (entry_of tags) (map (λ e. e.0) es) ≡ map code_entry (map (λ e. e.0) es)
  entries_seen [] a = refl
  entries_seen (e ∷ es) a =
      let s = split (sum_entry e.0).0.blocks (entries_summary (map sum_entry (map (λ x. x.0) es))).blocks a in
      ap (λ z. z ∷ map (entry_of tags) (map (λ x. x.0) es)) (e.1 s.0) ∙ ap (λ zs. code_entry e.0 ∷ zs) (entries_seen es s.1)

  at_block : (y : Block-F SeenBody SeenEntry SeenStart SeenBlock)
      → BlockAt (map-Block SeenBody SeenEntry SeenStart SeenBlock Body Entry ForStart Block (λ e. e.0) (λ e. e.0) (λ e. e.0) (λ e. e.0) y)
  at_block y = λ a.
      let inner = (entries_summary (map sum_entry (map (λ e. e.0) y.entries))).blocks in
      let row : BlockRow = record {
        number = y.number;
        objects = map qualified_of y.objects;
        declares = declared_in (map sum_entry (map (λ e. e.0) y.entries));
      } in
      let objects = sym (seen_objects tags y.objects) ∙ sym (All-head (RowHas tags decls) row inner a) in
      (refl, objects, entries_seen y.entries (All-tail (RowHas tags decls) row inner a))

  pub body_seen : (b : Body) → BodySeen b
  body_seen = ind-Body BodySeen EntrySeen StartSeen BlockSeen
      (λ x y is. rolled_body x (subst BodyAt is (at_body y)))
      (λ x y is. rolled_entry x (subst EntryAt is (at_entry y)))
      (λ x y is. rolled_start x (subst StartAt is (at_start y)))
      (λ x y is. rolled_block x (subst BlockAt is (at_block y)))
