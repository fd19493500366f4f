-- What the numbers in the code of a typed program stand for.
use Rattle.std.specs.Prelude.{◌≡◌, ℕ, pos, List, [], map, Option, Some, None, slice_get}
use Rattle.std.specs.Borrow.{Bor}
use Rattle.c_types.specs.declared.tags.Tag.{Tag}
use Rattle.c_types.specs.Types.{void}
use Rattle.c_typed.specs.declared.statement.Body.{Body}
use Rattle.c_typed.specs.declared.program.Function.{Function}
use Rattle.c_typed.specs.declared.program.Program.{Program}
use Rattle.c_typed.specs.Sites.{BlockRow, summary}
use Rattle.c_model.specs.Program as model
use Rattle.c_model.specs.Program.{Expr, expr, none, Decl, Stmt}
use Rattle.program_view.specs.Trees.{expr_of}
use Rattle.program_view.specs.Objects.{decl_of}
use Rattle.run_control.specs.View.{Meaning}
use Rattle.run_statements.specs.declared.numbers.Numbers.{Numbers}
use Rattle.run_statements.specs.Bodies.{body_of}
use Rattle.run_layout.specs.declared.steps.Expression.{Expression}
use Rattle.run_layout.specs.declared.whole.Code.{Code}

-- a number stands for the objects of its block
abbrev pub RowHas : List Tag → (ℕ → List Decl) → BlockRow → Type 0
RowHas tags decls b = decls b.number ≡ map (decl_of tags) b.objects

-- a number that no full expression has stands for 0 (own)
abbrev pub root_by : Option Expression → Expr
root_by None = expr (model.Number (pos 0)) void 0 none
root_by (Some e) = expr_of e.root.now

-- one that no block has stands for no objects (own)
abbrev pub row_decls : List Tag → Option BlockRow → List Decl
row_decls tags None = []
row_decls tags (Some b) = map (decl_of tags) b.objects

-- the objects of the blocks of a body, which have their numbers in the order of the text
abbrev pub body_decls : List Tag → Option Body → ℕ → List Decl
body_decls tags None n = []
body_decls tags (Some b) n = row_decls tags (slice_get (summary b).blocks n)

abbrev pub function_decls : List Tag → Option Function → ℕ → List Decl
function_decls tags None n = []
function_decls tags (Some f) n = body_decls tags f.body n

abbrev pub decls_in : Program → Option ℕ → ℕ → List Decl
decls_in p None n = []
decls_in p (Some f) n = function_decls p.tags (slice_get p.functions f) n

-- and one that no `switch` has for nothing (own)
abbrev pub switch_by : (ℕ → List Decl) → Option (Bor Body) → Stmt
switch_by decls None = model.Empty
switch_by decls (Some b) = body_of expr_of decls b.now

-- in a function, or in an isolated initializer
abbrev pub meaning_of : Program → Numbers → Code → Option ℕ → Meaning
meaning_of p numbers code f = record {
  root = λ n. root_by (slice_get code.expressions.items n);
  decls = decls_in p f;
  body = λ n. switch_by (decls_in p f) (slice_get numbers.switches.items n);
}
