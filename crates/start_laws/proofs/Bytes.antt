-- The constants and the literals of a lawful program are bytes.
use Rattle.std.proofs.Common.{List, Option, Some, None}
use Rattle.std.specs.List.{All}
use Rattle.std.proofs.lemmas.List.Elements.{All-weaker}
use Rattle.c_types.specs.Types.{Signature, signature_of}
use Rattle.c_typed.specs.declared.program.Constant.{Constant}
use Rattle.c_typed.specs.declared.program.Content.{Content}
use Rattle.c_typed.specs.declared.program.Content.TheVariants as contents
use Rattle.c_typed.specs.declared.program.Program.{Program}
use Rattle.c_typed.specs.declared.statement.Body.{Body}
use Rattle.c_typed.specs.declared.tree.Node.TheOpen as shape
use Rattle.c_typed.specs.declared.tree.Target.TheVariants as targets
use Rattle.c_typed.specs.Lawful.{BodyIsLawful, ContentIsLawful, ExpressionIsLawful, FunctionIsLawful, StaticIsLawful, Where}
use Rattle.c_typed.specs.Sites.{Expression, Head, expressions, sites}
use Rattle.program_view.specs.Trees.{content_of}
use Rattle.value_facts.specs.Small.{IsSmallContent}
use Rattle.value_facts.specs.Trees.{AreSmallConstants, ListsBytes, ListsBytesIn}
use Rattle.run_layout.specs.Fitting.{AreLawful}
use Rattle.code_view.proofs.Listed.{HeadLists, lists_lawful}
use Rattle.start_laws.specs.Bytes.{LawfulHasBytes}

content_small : (p : Program) (c : Content) → ContentIsLawful p c → IsSmallContent (content_of c)
content_small p (contents.Zeros count) h = tt
content_small p (contents.Bytes bs) h = h
content_small p (contents.Address (targets.Static number) offset) h = tt
content_small p (contents.Address (targets.Literal number) offset) h = tt
content_small p (contents.Address (targets.Function number) offset) h = tt

constants_small : (p : Program) (cs : List Constant) → AreLawful p cs → AreSmallConstants cs
constants_small p =
    All-weaker (λ (c : Constant). ContentIsLawful p c.content) (λ c. IsSmallContent (content_of c.content)) (λ c. content_small p c.content)

head_small : (p : Program) (h : Head) → HeadLists p h → ListsBytes h
head_small p (shape.List slot bytes) h = constants_small p bytes h
head_small p _ h = tt

expression_small : (p : Program) (f : Signature) (e : Expression) → ExpressionIsLawful p f e → ListsBytesIn e
expression_small p f e h =
    All-weaker (λ s. HeadLists p s.head) (λ s. ListsBytes s.head) (λ s. head_small p s.head) (sites e.tree) (lists_lawful p f e h)

body_small : (p : Program) (f : Signature) (o : Option Body) → Where (BodyIsLawful p f) o → Where (λ b. All ListsBytesIn (expressions b)) o
body_small p f None h = tt
body_small p f (Some b) h = All-weaker (ExpressionIsLawful p f) ListsBytesIn (expression_small p f) (expressions b) h.full

pub lawful_has_bytes : LawfulHasBytes
lawful_has_bytes p arguments lawful strings = record {
  functions = All-weaker (FunctionIsLawful p) (λ f. Where (λ b. All ListsBytesIn (expressions b)) f.body)
      (λ f h. body_small p (signature_of f.ty) f.body h.body) p.functions lawful.functions;
  statics = All-weaker (StaticIsLawful p) (λ s. AreSmallConstants s.constants) (λ s h. constants_small p s.constants h.contents) p.statics lawful.statics;
  literals = lawful.bytes;
  strings = strings;
}
