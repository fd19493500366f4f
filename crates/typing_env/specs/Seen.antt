-- What a typed program shows, and what a definition of typing gives: trees, statements, functions, static objects and tags as plain
-- data. The bytes of an object are seen in order, however they were cut.
use Rattle.std.specs.Prelude.{ℕ, ◌+◌, ◌==◌, if◌then◌else◌, nat_le, ℤ, List, [], ◌∷◌, ◌++◌, map, Option, Some, None}
use Rattle.c_types.specs.Types.{Qualified, Signature, qualified_of, signature_of}
use Rattle.c_types.specs.declared.library.LibFunc.{LibFunc}
use Rattle.c_types.specs.declared.tags.TagKind.{TagKind}
use Rattle.c_types.specs.declared.tags.Member.{Member}
use Rattle.c_types.specs.declared.tags.Tag.{Tag}
use Rattle.c_typed.specs.declared.tree.Typed.{Typed}
use Rattle.c_typed.specs.declared.tree.Node.TheOpen as shape
use Rattle.c_typed.specs.declared.statement.Body.{Body, fold-Body}
use Rattle.c_typed.specs.declared.statement.Body.TheOpen as form
use Rattle.c_typed.specs.declared.statement.Body.TheOpen.{Body-F, ForStart-F, Block-F, Entry-F}
use Rattle.c_typed.specs.declared.program.Content.{Content}
use Rattle.c_typed.specs.declared.program.Content.TheVariants as content
use Rattle.c_typed.specs.declared.program.Constant.{Constant}
use Rattle.c_typed.specs.declared.program.Static.{Static}
use Rattle.c_typed.specs.declared.program.Function.{Function}
use Rattle.c_typed.specs.declared.program.Program.{Program}
use Rattle.c_typed.specs.Sites.{Head}
use Rattle.c_typed.specs.Lawful.{length_of}
use Rattle.type_operands.specs.Terms.{Term, Terms, term, none, more, term_of}

-- 1. Bytes, in order (own).

-- a constant stands before those that begin behind it
abbrev pub placed : Constant → List Constant → List Constant
placed c [] = c ∷ []
placed c (d ∷ ds) = if nat_le c.at d.at then c ∷ d ∷ ds else d ∷ placed c ds

abbrev pub in_order : List Constant → List Constant
in_order [] = []
in_order (c ∷ cs) = placed c (in_order cs)

-- two of one sort are one
abbrev pub joined_content : Content → Content → Option Content
joined_content (content.Zeros m) (content.Zeros n) = Some (content.Zeros (m + n))
joined_content (content.Bytes a) (content.Bytes b) = Some (content.Bytes (a ++ b))
joined_content _ _ = None

abbrev pub where_next : Constant → Constant → Option Content → Option Content
where_next c d joined = if c.at + length_of c.content == d.at then joined else None

abbrev pub join_as : Constant → Constant → List Constant → Option Content → List Constant
join_as c d ds None = c ∷ d ∷ ds
join_as c d ds (Some both) = record { at = c.at; content = both } ∷ ds

-- a constant in front of others that are in order
abbrev pub join_before : Constant → List Constant → List Constant
join_before c [] = c ∷ []
join_before c (d ∷ ds) = join_as c d ds (where_next c d (joined_content c.content d.content))

abbrev pub joined : List Constant → List Constant
joined [] = []
joined (c ∷ cs) = join_before c (joined cs)

-- the constants of an object in order, each as long as it can be
abbrev pub ordered : List Constant → List Constant
ordered cs = joined (in_order cs)

-- 2. Trees.

abbrev pub ordered_head : Head → Head
ordered_head (shape.List object bytes) = shape.List object (ordered bytes)
ordered_head head = head

abbrev mutual
  pub ordered_term : Term → Term
  ordered_term (term head own ty line operands) = term (ordered_head head) (ordered_terms own) ty line (ordered_terms operands)

  pub ordered_terms : Terms → Terms
  ordered_terms none = none
  ordered_terms (more t ts) = more (ordered_term t) (ordered_terms ts)

abbrev pub seen_tree : Typed → Term
seen_tree t = ordered_term (term_of t)

abbrev pub seen_option : Option Typed → Option Term
seen_option None = None
seen_option (Some t) = Some (seen_tree t)

-- 3. Statements (6.8), with the numbers of blocks and labels.

mutual
  pub data Statement : Type 0 where
    expressed : Option Term → Statement
    compound : Section → Statement
    chooses : Term → Statement → Otherwise → Statement
    switches : Term → Statement → Statement
    while_loop : Term → Statement → Statement
    do_loop : Statement → Term → Statement
    for_loop : Start → (test step : Option Term) → Statement → Statement
    goes_to : (label : ℕ) → Statement
    continues : Statement
    breaks : Statement
    returns : Option Term → Statement
    labelled : (label : ℕ) → Statement → Statement
    case_of : ℤ → Statement → Statement
    by_default : Statement → Statement

  pub data Otherwise : Type 0 where
    nothing : Otherwise
    else_does : Statement → Otherwise

  pub data Start : Type 0 where
    no_start : Start
    start_value : Term → Start
    start_block : Section → Start

  -- a block: its number in the function, its objects, and its items
  pub data Section : Type 0 where
    section : (number : ℕ) → (objects : List Qualified) → Entries → Section

  pub data Entries : Type 0 where
    end : Entries
    statement : Statement → Entries → Entries
    initializes : Term → Entries → Entries
    declares : (decl : ℕ) → Entries → Entries

abbrev pub otherwise_of : Option Statement → Otherwise
otherwise_of None = nothing
otherwise_of (Some s) = else_does s

abbrev pub body_step : Body-F Statement (Entries → Entries) Start Section → Statement
body_step (form.Simple tree) = expressed (seen_option tree)
body_step (form.Block block) = compound block
body_step (form.If test first second) = chooses (seen_tree test) first (otherwise_of second)
body_step (form.Switch test body) = switches (seen_tree test) body
body_step (form.While test body) = while_loop (seen_tree test) body
body_step (form.Do body test) = do_loop body (seen_tree test)
body_step (form.For start test step body) = for_loop start (seen_option test) (seen_option step) body
body_step (form.Goto label) = goes_to label
body_step form.Continue = continues
body_step form.Break = breaks
body_step (form.Return tree) = returns (seen_option tree)
body_step (form.Label label body) = labelled label body
body_step (form.Case value body) = case_of value body
body_step (form.Default body) = by_default body

abbrev pub entry_step : Entry-F Statement (Entries → Entries) Start Section → Entries → Entries
entry_step (form.Statement body) es = statement body es
entry_step (form.Initializer tree) es = initializes (seen_tree tree) es
entry_step (form.Declare decl) es = declares decl es

abbrev pub start_step : ForStart-F Statement (Entries → Entries) Start Section → Start
start_step form.Empty = no_start
start_step (form.Value tree) = start_value (seen_tree tree)
start_step (form.Declared block) = start_block block

abbrev pub entries_from : List (Entries → Entries) → Entries
entries_from [] = end
entries_from (e ∷ es) = e (entries_from es)

abbrev pub block_step : Block-F Statement (Entries → Entries) Start Section → Section
block_step b = section b.number (map qualified_of b.objects) (entries_from b.entries)

abbrev pub statement_of : Body → Statement
statement_of = fold-Body Statement (Entries → Entries) Start Section body_step entry_step start_step block_step

-- 4. The program.

pub record SeenFunction : Type 0 where
  pub signature : Signature
  pub library : Option LibFunc
  pub body : Option Statement

pub record SeenStatic : Type 0 where
  pub object : Qualified
  pub constants : List Constant

pub record SeenMember : Type 0 where
  pub name : List ℕ
  pub qual : Qualified

pub record SeenTag : Type 0 where
  pub kind : TagKind
  pub members : List SeenMember

pub record SeenProgram : Type 0 where
  pub functions : List SeenFunction
  pub statics : List SeenStatic
  pub literals : List (List ℕ)
  pub tags : List SeenTag
  pub main : ℕ

abbrev pub seen_body : Option Body → Option Statement
seen_body None = None
seen_body (Some b) = Some (statement_of b)

abbrev pub function_seen : Function → SeenFunction
function_seen f = record { signature = signature_of f.ty; library = f.library; body = seen_body f.body }

abbrev pub static_seen : Static → SeenStatic
static_seen s = record { object = qualified_of s.qual; constants = ordered s.constants }

abbrev pub member_seen : Member → SeenMember
member_seen m = record { name = m.name; qual = qualified_of m.qual }

abbrev pub tag_seen : Tag → SeenTag
tag_seen t = record { kind = t.kind; members = map member_seen t.members }

abbrev pub program_seen : Program → SeenProgram
program_seen p = record {
  functions = map function_seen p.functions;
  statics = map static_seen p.statics;
  literals = p.literals;
  tags = map tag_seen p.tags;
  main = p.main;
}
