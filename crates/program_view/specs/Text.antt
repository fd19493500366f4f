-- What a statement of the model holds, in the order of the text: its blocks with their objects, its `switch` statements, labels and jumps.
use Rattle.std.specs.Prelude.{◌≡◌, ℕ, ◌+◌, ℤ, List, [], ◌∷◌, ◌++◌, map}
use Rattle.c_types.specs.declared.tags.Tag.{Tag}
use Rattle.c_typed.specs.declared.statement.Body.{Body}
use Rattle.c_typed.specs.Sites.{BlockRow, SwitchRow, Summary, summary}
use Rattle.c_model.specs.Program.{Decl, Stmt, Value, Empty, Declare, Block, If, If_only, Switch, Do, For, Goto, Continue, Break, Return, Return_none}
use Rattle.c_model.specs.Program.{Label, Case, Default, Stmts, end, and_then}
use Rattle.program_view.specs.Objects.{decl_of}
use Rattle.program_view.specs.Statements.{stmt_of}

-- the labels of the `switch` round it, and the jumps out of the loop or `switch` round it, stand beside those of the whole function
pub record Text : Type 0 where
  pub blocks : List (ℕ × List Decl)
  pub switches : List SwitchRow
  pub cases : List ℤ
  pub defaults : ℕ
  pub labels : List ℕ
  pub jumps : List ℕ
  pub breaks : ℕ
  pub continues : ℕ

abbrev pub no_text : Text
no_text = record { blocks = []; switches = []; cases = []; defaults = 0; labels = []; jumps = []; breaks = 0; continues = 0 }

abbrev pub and : Text → Text → Text
and a b = record {
  blocks = a.blocks ++ b.blocks;
  switches = a.switches ++ b.switches;
  cases = a.cases ++ b.cases;
  defaults = a.defaults + b.defaults;
  labels = a.labels ++ b.labels;
  jumps = a.jumps ++ b.jumps;
  breaks = a.breaks + b.breaks;
  continues = a.continues + b.continues;
}

abbrev pub with_block : ℕ → List Decl → Text → Text
with_block number decls t = record t { blocks = (number, decls) ∷ t.blocks }

-- a `switch` takes the case labels and the breaks inside it (6.8.4.2p4, 6.8.6.3p2)
abbrev pub switched : Text → Text
switched t = record t { switches = record { cases = t.cases; defaults = t.defaults } ∷ t.switches; cases = []; defaults = 0; breaks = 0 }

-- a loop takes the breaks and continues inside it (6.8.6.2p2, 6.8.6.3p2)
abbrev pub looped : Text → Text
looped t = record t { breaks = 0; continues = 0 }

abbrev mutual
  pub text_of : Stmt → Text
  text_of (Value e) = no_text
  text_of Empty = no_text
  text_of (Declare d) = no_text
  text_of (Block number decls ss) = with_block number decls (text_of_all ss)
  text_of (If e s t) = and (text_of s) (text_of t)
  text_of (If_only e s) = text_of s
  text_of (Switch e s) = switched (text_of s)
  text_of (Do s e) = looped (text_of s)
  text_of (For start test step s) = looped (text_of s)
  text_of (Goto k) = record no_text { jumps = k ∷ [] }
  text_of Continue = record no_text { continues = 1 }
  text_of Break = record no_text { breaks = 1 }
  text_of (Return e) = no_text
  text_of Return_none = no_text
  text_of (Label k s) = record (text_of s) { labels = k ∷ (text_of s).labels }
  text_of (Case z s) = record (text_of s) { cases = z ∷ (text_of s).cases }
  text_of (Default s) = record (text_of s) { defaults = 1 + (text_of s).defaults }

  pub text_of_all : Stmts → Text
  text_of_all end = no_text
  text_of_all (and_then s ss) = and (text_of s) (text_of_all ss)

abbrev pub block_by : List Tag → BlockRow → ℕ × List Decl
block_by tags r = (r.number, map (decl_of tags) r.objects)

-- the same of a typed statement
abbrev pub text_by : List Tag → Summary → Text
text_by tags s = record {
  blocks = map (block_by tags) s.blocks;
  switches = s.switches;
  cases = s.cases;
  defaults = s.defaults;
  labels = s.labels;
  jumps = s.jumps;
  breaks = s.breaks;
  continues = s.continues;
}

-- So what is lawful of a typed body is so of its statement: blocks are numbered from 0 on in the order of the text, labels are distinct, each `goto`
-- has its label, and each `switch` distinct cases (6.8.1p3, 6.8.4.2p3, 6.8.6.1p1).
abbrev pub TextIsKept : Type 0
TextIsKept = (tags : List Tag) (b : Body) → text_of (stmt_of tags b) ≡ text_by tags (summary b)
