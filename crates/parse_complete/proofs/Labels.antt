-- What statements and declarations begin with, and which of them are labels.
use Rattle.std.proofs.Common.{◌≡◌, ◌≢◌, ◌≤◌, Bool, true, false, not, ◌&&◌, List, [], ◌∷◌, Option, Some, None, refl, sym, ap, ◌∙◌, arith}
use Rattle.c_lex.specs.declared.token.TokenKind.{TokenKind}
use Rattle.c_lex.specs.declared.token.TokenKind.TheVariants as token
use Rattle.c_lex.specs.declared.token.Word.{Word as AWord}
use Rattle.c_lex.specs.declared.token.Word.TheVariants as w
use Rattle.c_lex.specs.declared.token.Mark.TheVariants as m
use Rattle.c_ast.specs.declared.declaration.Base.{Base}
use Rattle.c_ast.specs.declared.declaration.Base.TheBlock.{Plain, Typedef, Tagged', Enumerated', Name}
use Rattle.c_ast.specs.declared.declaration.Declaration.{Declaration}
use Rattle.c_ast.specs.declared.declaration.Part.{Part}
use Rattle.c_ast.specs.declared.expression.Expr.{Expr}
use Rattle.c_ast.specs.declared.statement.Entry.TheBlock as stmt
use Rattle.c_ast.specs.declared.statement.Stmt.{Stmt}
use Rattle.c_ast.specs.Input.{Input, kind, next, is_typedef}
use Rattle.c_grammar.specs.Grammar.{Specifiers, BaseRule, IsExpr, DeclarationRule, StmtRule}
use Rattle.c_grammar.specs.Rules.{◌⨾◌, Words, is_declaration_word, has_type_word, declares_typedef}
use Rattle.parse_spec.specs.Steps.{same_mark, same_word, is_mark, is_word, sees, sees_word}
use Rattle.parse_spec.specs.Places.{begins_by, begins_declaration, is_label_by, is_label}
use Rattle.parse_spec.specs.Expressions.{made}
use Rattle.parse_sound.proofs.Declarations.{PartsEnd}
use Rattle.parse_complete.proofs.Declarators.{named_no_colon}
use Rattle.parse_complete.proofs.Firsts.{opens, opens_expr, opens_no_declaration, no_opening, no_opening_word}
use Rattle.parse_complete.proofs.Initializers.{turns_read, begins_expr}
use Rattle.parse_complete.proofs.Specifiers.{specs_begin}
use Rattle.parse_complete.proofs.Steps.{sees_by, sees_word_by, sees_not, sees_word_not, no_case, second_is}
use Rattle.parse_complete.proofs.Tables.{grip, grip_is}

-- ---- labels

colon_of : (k k2 : Option TokenKind) → is_label_by k k2 ≡ true → k2 ≡ Some (token.Punct m.Colon)
colon_of (Some token.Name) (Some (token.Punct m.Colon)) e = refl
colon_of _ _ e = absurd (cc)

name_of_label : (k k2 : Option TokenKind) → is_label_by k k2 ≡ true → k ≡ Some token.Name
name_of_label (Some token.Name) k2 e = refl
name_of_label _ k2 e = absurd (cc)

no_colon_no_label : (i : Input) → kind (next i) ≢ Some (token.Punct m.Colon) → is_label i ≡ false
no_colon_no_label i h = no_case (is_label i) (λ e. h (colon_of (kind i) (kind (next i)) e))

pub no_name_no_label : (i : Input) (k : Option TokenKind) → kind i ≡ k → is_label_by k (kind (next i)) ≡ false → is_label i ≡ false
no_name_no_label i k is h = ap (λ x. is_label_by x (kind (next i))) is ∙ h

-- an expression that a semicolon follows begins with no label
expr_label : (e : Expr) (s t : Input) → IsExpr 0 e s t → grip t ≤ 0 → is_label s ≡ true → kind t ≡ Some (token.Punct m.Colon)
expr_label e s t h stop label =
    let is = name_of_label (kind s) (kind (next s)) label in
    let colon = colon_of (kind s) (kind (next s)) label in
    let known : is_typedef s ≡ false = name_known s (begins_expr e 0 (omega arith) s t h stop) is in
    let named : IsExpr 0 (made s.at (Name s.at)) s (next s) = (0, (omega arith, (refl, (known, (refl, (is, refl)))))) in
    let one = turns_read (made s.at (Name s.at)) 0 (omega arith) s (next s) named (omega (arith, grip_is (next s) m.Colon colon)) in
    let two = turns_read e 0 (omega arith) s t h stop in
    ap kind (second_is e (made s.at (Name s.at)) t (next s) (sym two ∙ one)) ∙ colon
  where
    name_known : (i : Input) → opens_expr i ≡ true → kind i ≡ Some token.Name → is_typedef i ≡ false
    name_known i begins is = no_case (is_typedef i)
        (λ e. let g : opens true (Some token.Name) ≡ true = sym (ap (λ b. opens b (kind i)) e ∙ ap (opens true) is) ∙ begins in cc)

pub expr_no_label : (e : Expr) (s t : Input) → IsExpr 0 e s t → kind t ≡ Some (token.Punct m.Semicolon) → is_label s ≡ false
expr_no_label e s t h is = no_case (is_label s) (λ label.
    let colon = expr_label e s t h (omega (arith, grip_is t m.Semicolon is)) label in
    absurd (let wrong = sym is ∙ colon in cc))

-- ..nor does a declaration
between_no_label : (b : Base) (before behind : List AWord) (s x : Input) → b ≢ Plain →
    (Words is_declaration_word before ⨾ BaseRule b (has_type_word before) ⨾ Words is_declaration_word behind) s x
    → kind x ≢ Some (token.Punct m.Colon) → is_label s ≡ false
between_no_label b (a ∷ rest) behind s x ne h colon = no_name_no_label s _ h.1.0.1.0.1.0 refl
between_no_label Plain [] behind s x ne h colon = absurd (ne refl)
between_no_label (Tagged' union tag all) [] behind s x ne h colon = no_name_no_label s _ (ap kind (sym h.1.0) ∙ h.1.1.1.0.1.0.0) refl
between_no_label (Enumerated' tag all) [] behind s x ne h colon = no_name_no_label s _ (ap kind (sym h.1.0) ∙ h.1.1.1.0.1.0.0) refl
between_no_label (Typedef n) [] [] s x ne h colon =
    let after : x ≡ next s = h.1.1.1.1 ∙ (h.1.1.1.0.1.1.1 ∙ ap next h.1.0) in
    no_colon_no_label s (λ is. colon (ap kind after ∙ is))
between_no_label (Typedef n) [] (a ∷ rest) s x ne h colon =
    let after : h.1.1.0 ≡ next s = h.1.1.1.0.1.1.1 ∙ ap next h.1.0 in
    no_colon_no_label s (λ is. absurd (let wrong = sym (h.1.1.1.1.1.0.1.0) ∙ (ap kind after ∙ is) in cc))

specs_no_label : (b : Base) (words : List AWord) (s x : Input) → Specifiers is_declaration_word b (BaseRule b) words s x →
    kind x ≢ Some (token.Punct m.Colon) → is_label s ≡ false
specs_no_label Plain [] s x h colon = absurd h
specs_no_label Plain (a ∷ rest) s x h colon = no_name_no_label s _ h.1.0.1.0.1.0 refl
specs_no_label (Typedef n) words s x h colon = between_no_label (Typedef n) h.0 h.1.0 s x (λ e. absurd (cc)) h.1.1.1 colon
specs_no_label (Tagged' union tag all) words s x h colon = between_no_label (Tagged' union tag all) h.0 h.1.0 s x (λ e. absurd (cc)) h.1.1.1 colon
specs_no_label (Enumerated' tag all) words s x h colon = between_no_label (Enumerated' tag all) h.0 h.1.0 s x (λ e. absurd (cc)) h.1.1.1 colon

parts_no_colon : (typedef : Bool) (all : List Part) (s t : Input) → PartsEnd typedef all s t → kind s ≢ Some (token.Punct m.Colon)
parts_no_colon typedef [] s t h is = absurd (let wrong = sym (ap kind (sym h.1.0) ∙ h.1.1.0) ∙ is in cc)
parts_no_colon typedef (p ∷ rest) s t h is = named_no_colon p.declarator 0 s h.1.0.1.0.0 h.1.0.1.0.1.0 is

pub declaration_no_label : (d : Declaration) (s t : Input) → DeclarationRule d s t → is_label s ≡ false
declaration_no_label d s t (x, (h, g)) = specs_no_label d.specs.base d.specs.words s x h (parts_no_colon (declares_typedef d.specs.words) d.parts x t g)

pub declaration_begins : (d : Declaration) (s t : Input) → DeclarationRule d s t → begins_declaration s ≡ true
declaration_begins d s t h = specs_begin is_declaration_word d.specs.base d.specs.words s h.0 h.1.0

-- ---- what begins a statement

-- neither a declaration nor an assertion nor the end of a block
pub record Starts (s : Input) : Type 0 where
  pub declaration : (begins_declaration s && not (is_label s)) ≡ false
  pub assertion : sees_word w.StaticAssert s ≡ false
  pub brace : sees m.CloseBrace s ≡ false

and_left : (a b : Bool) → a ≡ false → (a && b) ≡ false
and_left false b h = refl
and_left true b h = absurd (cc)

and_not : (a b : Bool) → b ≡ true → (a && not b) ≡ false
and_not a false h = absurd (cc)
and_not false true h = refl
and_not true true h = refl

starts_by : (s : Input) (k : Option TokenKind) → kind s ≡ k → ((typedef : Bool) → begins_by is_declaration_word typedef k ≡ false) →
    is_word w.StaticAssert k ≡ false
    → is_mark m.CloseBrace k ≡ false → Starts s
starts_by s k is never word mark = record {
  declaration = and_left (begins_declaration s) _ (ap (begins_by is_declaration_word (is_typedef s)) is ∙ never (is_typedef s));
  assertion = sees_word_by w.StaticAssert s k is word;
  brace = sees_by m.CloseBrace s k is mark;
}

expr_starts : (s : Input) → opens_expr s ≡ true → Starts s
expr_starts s h = record {
  declaration = and_left (begins_declaration s) _ (opens_no_declaration (is_typedef s) (kind s) h);
  assertion = sees_word_not w.StaticAssert s (no_opening_word w.StaticAssert s refl h);
  brace = sees_not m.CloseBrace s (no_opening m.CloseBrace s refl h);
}

label_starts : (s : Input) → kind s ≡ Some token.Name → is_label s ≡ true → Starts s
unfolding same_mark same_word
label_starts s is label = record {
  declaration = and_not (begins_declaration s) (is_label s) label;
  assertion = sees_word_by w.StaticAssert s _ is refl;
  brace = sees_by m.CloseBrace s _ is refl;
}

pub label_at : (s x : Input) → kind s ≡ Some token.Name → x ≡ next s → kind x ≡ Some (token.Punct m.Colon) → is_label s ≡ true
label_at s x is same colon = ap (λ k. is_label_by k (kind (next s))) is ∙ ap (is_label_by (Some token.Name)) (ap kind (sym same) ∙ colon)

pub stmt_starts : (a : Stmt) (s t : Input) → StmtRule a s t → Starts s
unfolding same_mark same_word
stmt_starts (stmt.Simple None) s t h = starts_by s _ (ap kind (sym h.1.0) ∙ h.1.1.0) (λ _. refl) refl refl
stmt_starts (stmt.Simple (Some e)) s t h = expr_starts s (begins_expr e 0 (omega arith) s h.0 h.1.0 (omega (arith, grip_is h.0 m.Semicolon h.1.1.0)))
stmt_starts (stmt.Block' p entries) s t h = starts_by s _ h.1.0.0 (λ _. refl) refl refl
stmt_starts (stmt.If' e p body other) s t h = starts_by s _ h.1.0.1.0.0 (λ _. refl) refl refl
stmt_starts (stmt.Switch' e p body) s t h = starts_by s _ h.1.0.1.0.0 (λ _. refl) refl refl
stmt_starts (stmt.While' e p body) s t h = starts_by s _ h.1.0.1.0.0 (λ _. refl) refl refl
stmt_starts (stmt.Do' p body e) s t h = starts_by s _ h.1.0.1.0.0 (λ _. refl) refl refl
stmt_starts (stmt.For' i test step p body) s t h = starts_by s _ h.1.0.1.0.0 (λ _. refl) refl refl
stmt_starts (stmt.Goto n) s t h = starts_by s _ h.1.0.0 (λ _. refl) refl refl
stmt_starts (stmt.Continue n) s t h = starts_by s _ h.1.0.1.0 (λ _. refl) refl refl
stmt_starts (stmt.Break n) s t h = starts_by s _ h.1.0.1.0 (λ _. refl) refl refl
stmt_starts (stmt.Return n e) s t h = starts_by s _ h.1.0.1.0 (λ _. refl) refl refl
stmt_starts (stmt.Label' n p body) s t h = label_starts s h.1.0.1.0 (label_at s h.0 h.1.0.1.0 h.1.0.1.1 h.1.1.1.0.0)
stmt_starts (stmt.Case' n e p body) s t h = starts_by s _ h.1.0.1.0 (λ _. refl) refl refl
stmt_starts (stmt.Default' n p body) s t h = starts_by s _ h.1.0.1.0 (λ _. refl) refl refl
