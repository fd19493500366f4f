-- The statement of a typed body holds its blocks, labels and jumps.
use Rattle.std.proofs.Common.{◌≡◌, ℕ, ◌+◌, ℤ, List, [], ◌∷◌, ◌++◌, map, Option, Some, None}
use Rattle.std.proofs.Common.{refl, sym, ap, ap₂, ◌∙◌, subst, append_assoc, append-nil, arith}
use Rattle.std.proofs.lemmas.List.{map-append}
use Rattle.c_types.specs.declared.tags.Tag.{Tag}
use Rattle.c_types.specs.declared.ty.Qual.{Qual}
use Rattle.c_types.specs.Types.{qualified_of}
use Rattle.c_typed.specs.declared.statement.Body.{Body, fold-roll-Body, map-Body, roll-Body}
use Rattle.c_typed.specs.declared.statement.Body.TheFolds.{ind-Body}
use Rattle.c_typed.specs.declared.statement.Body.TheOpen as form
use Rattle.c_typed.specs.declared.statement.Body.TheOpen.{Body-F, ForStart-F, Block-F, Entry-F}
use Rattle.c_typed.specs.declared.statement.Block.{Block, fold-Block, fold-roll-Block, map-Block, roll-Block}
use Rattle.c_typed.specs.declared.statement.Entry.{Entry, fold-Entry, fold-roll-Entry, map-Entry, roll-Entry}
use Rattle.c_typed.specs.declared.statement.ForStart.{ForStart, fold-ForStart, fold-roll-ForStart, map-ForStart, roll-ForStart}
use Rattle.c_typed.specs.Sites.{SwitchRow, Summary, summary, summary_step, entry_summary, start_summary, block_summary, entries_summary, declared_in}
use Rattle.c_typed.specs.Sites as typed
use Rattle.c_model.specs.Program as model
use Rattle.c_model.specs.Program.{Decl, Expr, Stmt}
use Rattle.program_view.specs.Objects.{decl_of}
use Rattle.program_view.specs.Statements as view
use Rattle.program_view.specs.Statements.{Inner, Loop, in_turn, as_block, stmt_of, inner_of, entry_of, loop_of}
use Rattle.program_view.specs.Text.{Text, no_text, and, with_block, switched, looped, text_of, text_of_all, block_by, text_by, TextIsKept}

abbrev Row : Type 0
Row = ℕ × List Decl

abbrev made : List Row → List SwitchRow → List ℤ → ℕ → List ℕ → List ℕ → ℕ → ℕ → Text
made b s c d l j k n = record { blocks = b; switches = s; cases = c; defaults = d; labels = l; jumps = j; breaks = k; continues = n }

same_text : (a b : Text) → a.blocks ≡ b.blocks → a.switches ≡ b.switches → a.cases ≡ b.cases → a.defaults ≡ b.defaults → a.labels ≡ b.labels
    → a.jumps ≡ b.jumps → a.breaks ≡ b.breaks → a.continues ≡ b.continues → a ≡ b
same_text a b f g h i j k l m =
    ap (λ x. made x a.switches a.cases a.defaults a.labels a.jumps a.breaks a.continues) f
    ∙ (ap (λ x. made b.blocks x a.cases a.defaults a.labels a.jumps a.breaks a.continues) g
    ∙ (ap (λ x. made b.blocks b.switches x a.defaults a.labels a.jumps a.breaks a.continues) h
    ∙ (ap (λ x. made b.blocks b.switches b.cases x a.labels a.jumps a.breaks a.continues) i
    ∙ (ap (λ x. made b.blocks b.switches b.cases b.defaults x a.jumps a.breaks a.continues) j
    ∙ (ap (λ x. made b.blocks b.switches b.cases b.defaults b.labels x a.breaks a.continues) k
    ∙ (ap (λ x. made b.blocks b.switches b.cases b.defaults b.labels b.jumps x a.continues) l
    ∙ ap (λ x. made b.blocks b.switches b.cases b.defaults b.labels b.jumps b.breaks x) m))))))

and_three : (a b c : Text) → and (and a b) c ≡ and a (and b c)
and_three a b c =
    same_text (and (and a b) c) (and a (and b c)) (append_assoc a.blocks b.blocks c.blocks) (append_assoc a.switches b.switches c.switches)
    (append_assoc a.cases b.cases c.cases) (omega arith) (append_assoc a.labels b.labels c.labels) (append_assoc a.jumps b.jumps c.jumps) (omega arith)
    (omega arith)

and_none : (a : Text) → and a no_text ≡ a
and_none a =
    same_text (and a no_text) a (append-nil a.blocks) (append-nil a.switches) (append-nil a.cases) (omega arith) (append-nil a.labels)
    (append-nil a.jumps) (omega arith) (omega arith)

none_and : (a : Text) → a ≡ and no_text a
none_and a = same_text a (and no_text a) refl refl refl (omega arith) refl refl (omega arith) (omega arith)

all_more : (ss : List Stmt) (s : Stmt) → text_of_all (in_turn (ss ++ s ∷ [])) ≡ and (text_of_all (in_turn ss)) (text_of s)
all_more [] s = and_none (text_of s) ∙ none_and (text_of s)
all_more (x ∷ ss) s = ap (and (text_of x)) (all_more ss s) ∙ sym (and_three (text_of x) (text_of_all (in_turn ss)) (text_of s))

-- a block with a statement more
block_more : (i : Inner) (s : Stmt)
    → text_of (as_block (record i { statements = i.statements ++ s ∷ [] })) ≡ and (text_of (as_block i)) (text_of s)
block_more i s = ap (with_block i.number i.decls) (all_more i.statements s)

module _ (tags : List Tag) where
  by_and : (a b : Summary) → text_by tags (typed.and a b) ≡ and (text_by tags a) (text_by tags b)
  by_and a b =
      ap (λ x. made x (a.switches ++ b.switches) (a.cases ++ b.cases) (a.defaults + b.defaults) (a.labels ++ b.labels) (a.jumps ++ b.jumps)
      (a.breaks + b.breaks) (a.continues + b.continues)) (map-append (block_by tags) a.blocks b.blocks)

  objects_by : (qs : List Qual) → map (λ q. decl_of tags (qualified_of q)) qs ≡ map (decl_of tags) (map qualified_of qs)
  objects_by [] = refl
  objects_by (q ∷ qs) = ap (λ ds. decl_of tags (qualified_of q) ∷ ds) (objects_by qs)

  abbrev in_entry : Entry → Summary × List ℕ
  in_entry = fold-Entry Summary (Summary × List ℕ) Summary Summary summary_step entry_summary start_summary block_summary

  abbrev in_start : ForStart → Summary
  in_start = fold-ForStart Summary (Summary × List ℕ) Summary Summary summary_step entry_summary start_summary block_summary

  abbrev in_block : Block → Summary
  in_block = fold-Block Summary (Summary × List ℕ) Summary Summary summary_step entry_summary start_summary block_summary

  abbrev BodyKept : Body → Type 0
  BodyKept b = text_of (stmt_of tags b) ≡ text_by tags (summary b)

  abbrev EntryKept : Entry → Type 0
  EntryKept e = text_of (entry_of tags e) ≡ text_by tags (in_entry e).0

  abbrev LoopKept : Loop → Summary → Type 0
  LoopKept l first = (test step : Option Expr) (s : Stmt) → text_of (l test step s) ≡ and (text_by tags first) (looped (text_of s))

  abbrev StartKept : ForStart → Type 0
  StartKept s = LoopKept (loop_of tags s) (in_start s)

  abbrev BlockKept : Block → Type 0
  BlockKept b = text_of (as_block (inner_of tags b)) ≡ text_by tags (in_block b)

  -- one layer
  abbrev body_seen : Body-F Body Entry ForStart Block → Stmt
  body_seen z = view.body_step (map-Body Body Entry ForStart Block Stmt Stmt Loop Inner (stmt_of tags) (entry_of tags) (loop_of tags) (inner_of tags) z)

  abbrev body_held : Body-F Body Entry ForStart Block → Summary
  body_held z = summary_step (map-Body Body Entry ForStart Block Summary (Summary × List ℕ) Summary Summary summary in_entry in_start in_block z)

  abbrev entry_seen : Entry-F Body Entry ForStart Block → Stmt
  entry_seen z = view.entry_step (map-Entry Body Entry ForStart Block Stmt Stmt Loop Inner (stmt_of tags) (entry_of tags) (loop_of tags) (inner_of tags) z)

  abbrev entry_held : Entry-F Body Entry ForStart Block → Summary × List ℕ
  entry_held z = entry_summary (map-Entry Body Entry ForStart Block Summary (Summary × List ℕ) Summary Summary summary in_entry in_start in_block z)

  abbrev start_seen : ForStart-F Body Entry ForStart Block → Loop
  start_seen z =
      view.start_step (map-ForStart Body Entry ForStart Block Stmt Stmt Loop Inner (stmt_of tags) (entry_of tags) (loop_of tags) (inner_of tags) z)

  abbrev start_held : ForStart-F Body Entry ForStart Block → Summary
  start_held z =
      start_summary (map-ForStart Body Entry ForStart Block Summary (Summary × List ℕ) Summary Summary summary in_entry in_start in_block z)

  abbrev block_seen : Block-F Body Entry ForStart Block → Inner
  block_seen z =
      view.block_step tags (map-Block Body Entry ForStart Block Stmt Stmt Loop Inner (stmt_of tags) (entry_of tags) (loop_of tags) (inner_of tags) z)

  abbrev block_held : Block-F Body Entry ForStart Block → Summary
  block_held z =
      block_summary (map-Block Body Entry ForStart Block Summary (Summary × List ℕ) Summary Summary summary in_entry in_start in_block z)

  abbrev BodyAt : Body-F Body Entry ForStart Block → Type 0
  BodyAt z = text_of (body_seen z) ≡ text_by tags (body_held z)

  abbrev EntryAt : Entry-F Body Entry ForStart Block → Type 0
  EntryAt z = text_of (entry_seen z) ≡ text_by tags (entry_held z).0

  abbrev StartAt : ForStart-F Body Entry ForStart Block → Type 0
  StartAt z = LoopKept (start_seen z) (start_held z)

  abbrev BlockAt : Block-F Body Entry ForStart Block → Type 0
  BlockAt z = text_of (as_block (block_seen z)) ≡ text_by tags (block_held z)

  rolled_body : (z : Body-F Body Entry ForStart Block) → BodyAt z → BodyKept (roll-Body z)
  rolled_body z h =
      ap text_of (fold-roll-Body Stmt Stmt Loop Inner view.body_step view.entry_step view.start_step (view.block_step tags) z)
      ∙ (h ∙ sym (ap (text_by tags) (fold-roll-Body Summary (Summary × List ℕ) Summary Summary summary_step entry_summary start_summary block_summary z)))

  rolled_entry : (z : Entry-F Body Entry ForStart Block) → EntryAt z → EntryKept (roll-Entry z)
  rolled_entry z h =
      ap text_of (fold-roll-Entry Stmt Stmt Loop Inner view.body_step view.entry_step view.start_step (view.block_step tags) z)
      ∙ (h ∙ sym (ap (λ (s : Summary × List ℕ). text_by tags s.0)
      (fold-roll-Entry Summary (Summary × List ℕ) Summary Summary summary_step entry_summary start_summary block_summary z)))

  rolled_start : (z : ForStart-F Body Entry ForStart Block) → StartAt z → StartKept (roll-ForStart z)
  rolled_start z h =
      subst (λ (l : Loop). LoopKept l (in_start (roll-ForStart z)))
      (sym (fold-roll-ForStart Stmt Stmt Loop Inner view.body_step view.entry_step view.start_step (view.block_step tags) z))
      (subst (LoopKept (start_seen z))
      (sym (fold-roll-ForStart Summary (Summary × List ℕ) Summary Summary summary_step entry_summary start_summary block_summary z)) h)

  rolled_block : (z : Block-F Body Entry ForStart Block) → BlockAt z → BlockKept (roll-Block z)
  rolled_block z h =
      ap (λ i. text_of (as_block i)) (fold-roll-Block Stmt Stmt Loop Inner view.body_step view.entry_step view.start_step (view.block_step tags) z)
      ∙ (h ∙ sym (ap (text_by tags) (fold-roll-Block Summary (Summary × List ℕ) Summary Summary summary_step entry_summary start_summary block_summary z)))

  -- the parts, each with what holds of it
  abbrev KeptBody : Type 0
  KeptBody = (b : Body) × BodyKept b

  abbrev KeptEntry : Type 0
  KeptEntry = (e : Entry) × EntryKept e

  abbrev KeptStart : Type 0
  KeptStart = (s : ForStart) × StartKept s

  abbrev KeptBlock : Type 0
  KeptBlock = (b : Block) × BlockKept b

  at_body : (y : Body-F KeptBody KeptEntry KeptStart KeptBlock)
      → BodyAt (map-Body KeptBody KeptEntry KeptStart KeptBlock Body Entry ForStart Block (λ e. e.0) (λ e. e.0) (λ e. e.0) (λ e. e.0) y)
  at_body (form.Simple None) = refl
  at_body (form.Simple (Some t)) = refl
  at_body (form.Block b) = b.1
  at_body (form.If t b None) = b.1
  at_body (form.If t b (Some c)) = ap₂ and b.1 c.1 ∙ sym (by_and (summary b.0) (summary c.0))
  at_body (form.Switch t b) = ap switched b.1
  at_body (form.While t b) = ap looped b.1
  at_body (form.Do b t) = ap looped b.1
  at_body (form.For start test step b) =
      start.1 (view.perhaps test) (view.perhaps step) (stmt_of tags b.0)
      ∙ (ap (λ x. and (text_by tags (in_start start.0)) (looped x)) b.1 ∙ sym (by_and (in_start start.0) (typed.looped (summary b.0))))
  at_body (form.Goto k) = refl
  at_body form.Continue = refl
  at_body form.Break = refl
  at_body (form.Return None) = refl
  at_body (form.Return (Some t)) = refl
  at_body (form.Label k b) = ap (λ (x : Text). record x { labels = k ∷ x.labels }) b.1
  at_body (form.Case z b) = ap (λ (x : Text). record x { cases = z ∷ x.cases }) b.1
  at_body (form.Default b) = ap (λ (x : Text). record x { defaults = 1 + x.defaults }) b.1

  at_entry : (y : Entry-F KeptBody KeptEntry KeptStart KeptBlock)
      → EntryAt (map-Entry KeptBody KeptEntry KeptStart KeptBlock Body Entry ForStart Block (λ e. e.0) (λ e. e.0) (λ e. e.0) (λ e. e.0) y)
  at_entry (form.Statement b) = b.1
  at_entry (form.Initializer t) = refl
  at_entry (form.Declare d) = refl

  at_start : (y : ForStart-F KeptBody KeptEntry KeptStart KeptBlock)
      → StartAt (map-ForStart KeptBody KeptEntry KeptStart KeptBlock Body Entry ForStart Block (λ e. e.0) (λ e. e.0) (λ e. e.0) (λ e. e.0) y)
  at_start form.Empty = λ test step s. none_and (looped (text_of s))
  at_start (form.Value t) = λ test step s. none_and (looped (text_of s))
  at_start (form.Declared b) = λ test step s.
      block_more (inner_of tags b.0) (model.For None test step s) ∙ ap (λ x. and x (looped (text_of s))) b.1

  entries_kept : (es : List KeptEntry) → text_of_all (in_turn (map (entry_of tags) (map (λ e. e.0) es)))
      ≡ text_by tags (entries_summary (map in_entry (map (λ e. e.0) es)))
  entries_kept [] = refl
  entries_kept (e ∷ es) =
      ap₂ and e.1 (entries_kept es) ∙ sym (by_and (in_entry e.0).0 (entries_summary (map in_entry (map (λ x. x.0) es))))

  at_block : (y : Block-F KeptBody KeptEntry KeptStart KeptBlock)
      → BlockAt (map-Block KeptBody KeptEntry KeptStart KeptBlock Body Entry ForStart Block (λ e. e.0) (λ e. e.0) (λ e. e.0) (λ e. e.0) y)
  at_block y = ap₂ (with_block y.number) (objects_by y.objects) (entries_kept y.entries)

  pub body_kept : (b : Body) → BodyKept b
  body_kept = ind-Body BodyKept EntryKept StartKept BlockKept
      (λ x y is. rolled_body x (subst BodyAt is (at_body y)))
      (λ x y is. rolled_entry x (subst EntryAt is (at_entry y)))
      (λ x y is. rolled_start x (subst StartAt is (at_start y)))
      (λ x y is. rolled_block x (subst BlockAt is (at_block y)))

pub text_is_kept : TextIsKept
text_is_kept tags b = body_kept tags b
