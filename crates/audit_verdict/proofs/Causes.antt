-- Why an answer to a text comes.
use Rattle.std.proofs.Common.{
  ◌≡◌,
  ◌⊎◌,
  ℕ,
  ◌≤◌,
  ◌<◌,
  List,
  length,
  Option,
  Some,
  None,
  Result,
  Ok,
  Err,
  refl,
  sym,
  subst,
  ◌∙◌,
  inl,
  inr,
}
use Rattle.std.proofs.lemmas.Bool.{cases_lt}
use Rattle.c_ast.specs.Nest.{nest_of}
use Rattle.c_ast.specs.declared.statement.Unit.{Unit as SyntaxTree}
use Rattle.c_grammar.specs.Grammar.{SpellsUnit}
use Rattle.c_lex.specs.TokenText.{TokenText}
use Rattle.c_lex.specs.Tokens.{lexed}
use Rattle.c_lex.specs.declared.token.LexFault.{LexFault}
use Rattle.c_lex.specs.declared.token.LexFault.TheVariants as LexFault
use Rattle.c_parse.specs.declared.error.ParseFault.{ParseFault}
use Rattle.c_parse.specs.declared.error.ParseFault.TheVariants as ParseFault
use Rattle.first_form.specs.Form.{IsFirstForm}
use Rattle.first_form.specs.declared.fault.FormFault.{FormFault}
use Rattle.first_form.specs.declared.fault.FormFault.TheVariants as FormFault
use Rattle.first_form.specs.declared.tree.ReturnUnit.{ReturnUnit}
use Rattle.command.specs.declared.request.SelfRequest.{SelfRequest}
use Rattle.audit_generator.specs.Text.{text as generated_text}
use Rattle.audit_verdict.specs.Answer.{HasNoTree, Refuses, lex_refusal}
use Rattle.audit_verdict.specs.Cause.{GeneratedCause, SelfCause, summary_of}
use Rattle.audit_verdict.specs.declared.answer.Answer.{Answer}
use Rattle.audit_verdict.specs.declared.answer.Refusal.{Refusal}
use Rattle.audit_verdict.specs.declared.answer.Refusal.TheVariants as Refusal

form_is_not_memory : FormFault.NotFirstForm ≡ FormFault.NoMemory → ⊥
form_is_not_memory e = cc

-- a text that is refused for its form has none
pub no_form : (text : List ℕ) (fault : FormFault) → fault ≡ FormFault.NotFirstForm
    → ((unit : ReturnUnit) → IsFirstForm text unit → fault ≡ FormFault.NoMemory) → (unit : ReturnUnit) → IsFirstForm text unit → ⊥
no_form text fault is only unit form = form_is_not_memory (sym is ∙ only unit form)

no_memory_refuses_nothing : (refusal : Refusal) → Some refusal ≡ None → ⊥
no_memory_refuses_nothing refusal e = cc

same_refusal : (a b : Refusal) → Some a ≡ Some b → a ≡ b
same_refusal a b e = cc

stray_is_not_memory : (at : ℕ) → LexFault.Stray at ≡ LexFault.NoMemory → ⊥
stray_is_not_memory at e = cc

open_literal_is_not_memory : (at : ℕ) → LexFault.OpenLiteral at ≡ LexFault.NoMemory → ⊥
open_literal_is_not_memory at e = cc

bad_number_is_not_memory : (at : ℕ) → LexFault.BadNumber at ≡ LexFault.NoMemory → ⊥
bad_number_is_not_memory at e = cc

-- a text without tokens is refused for its first piece that is none
pub lex_refuses : (text : List ℕ) (fault : LexFault) (refusal : Refusal) → Some refusal ≡ lex_refusal fault
    → ((fault ≡ LexFault.NoMemory → ⊥) → lexed text ≡ Err fault) → Refuses text refusal
lex_refuses text (LexFault.Stray at) refusal is why =
    subst (Refuses text) (sym (same_refusal refusal (Refusal.Stray at) is)) (why (stray_is_not_memory at))
lex_refuses text (LexFault.OpenLiteral at) refusal is why =
    subst (Refuses text) (sym (same_refusal refusal (Refusal.OpenLiteral at) is)) (why (open_literal_is_not_memory at))
lex_refuses text (LexFault.BadNumber at) refusal is why =
    subst (Refuses text) (sym (same_refusal refusal (Refusal.BadNumber at) is)) (why (bad_number_is_not_memory at))
lex_refuses text LexFault.NoMemory refusal is why = absurd (no_memory_refuses_nothing refusal is)

-- the parser says where the tokens nest too deep
abbrev pub SaysDeep : Result SyntaxTree ParseFault → ℕ → Type 0
SaysDeep parsed count = 2000 < count → (parsed ≡ Err (ParseFault.TooDeep count)) ⊎ (parsed ≡ Err ParseFault.NoMemory)

syntax_is_not_deep : (at count : ℕ) → ◌≡◌ {A = Result SyntaxTree ParseFault} (Err (ParseFault.Syntax at)) (Err (ParseFault.TooDeep count)) → ⊥
syntax_is_not_deep at count e = cc

syntax_is_not_memory : (at : ℕ) → ◌≡◌ {A = Result SyntaxTree ParseFault} (Err (ParseFault.Syntax at)) (Err ParseFault.NoMemory) → ⊥
syntax_is_not_memory at e = cc

flat_or_beyond : (count : ℕ) → (2000 < count → ⊥) → (2000 < count) ⊎ (count ≤ 2000) → count ≤ 2000
flat_or_beyond count flat (inl beyond) = absurd (flat beyond)
flat_or_beyond count flat (inr within) = within

neither : {A B : Type 0} → (A → ⊥) → (B → ⊥) → A ⊎ B → ⊥
neither a b (inl x) = a x
neither a b (inr y) = b y

refused_is_flat : (at count : ℕ) → SaysDeep (Err (ParseFault.Syntax at)) count → count ≤ 2000
refused_is_flat at count deep =
    flat_or_beyond count (λ beyond. neither (syntax_is_not_deep at count) (syntax_is_not_memory at) (deep beyond)) (cases_lt 2000 count)

pub has_no_tree : (tokens : TokenText) (parsed : Result SyntaxTree ParseFault) (at : ℕ) → lexed tokens.source ≡ Ok tokens.list
    → parsed ≡ Err (ParseFault.Syntax at) → SaysDeep parsed (nest_of tokens.list)
    → ((n : ℕ) → parsed ≡ Err (ParseFault.Syntax n) → (unit : SyntaxTree) → SpellsUnit unit tokens → ⊥) → HasNoTree tokens.source
has_no_tree tokens parsed at are is deep none =
    (tokens, (refl, are, refused_is_flat at _ (subst (λ r. SaysDeep r (nest_of tokens.list)) is deep)), none at is)

-- what is said of a generated text is said of its request
pub generated_self : (request : SelfRequest) (source slice : List ℕ) (size : ℕ) (answer : Answer) → size ≡ length source → slice ≡ source
    → source ≡ generated_text request.seed request.lines
    → GeneratedCause (record { seed = request.seed; lines = request.lines; size = size }) slice answer → SelfCause request answer
generated_self request source slice size answer sizes same is why =
    let sized = subst (λ n. GeneratedCause (record { seed = request.seed; lines = request.lines; size = n }) slice answer) sizes why in
    let whole = subst (λ t. GeneratedCause (summary_of request source) t answer) same sized in
    subst (λ s. GeneratedCause (summary_of request s) s answer) is whole
