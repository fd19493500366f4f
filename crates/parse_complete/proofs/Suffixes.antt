-- Arrays, functions and their parameters that are spelled are read.
use Rattle.std.proofs.Common.{
  ◌≡◌,
  ◌≢◌,
  ℕ,
  zero,
  suc,
  ◌<◌,
  ◌≤◌,
  Bool,
  true,
  false,
  if◌then◌else◌,
  length,
  take,
  drop,
  List,
  [],
  ◌∷◌,
  ◌++◌,
  Option,
  Some,
  None,
  refl,
  sym,
  ap,
  ◌∙◌,
  subst,
  arith,
  append_assoc,
}
use Rattle.std.proofs.Math.Seq.{take-append_seam}
use mathlib.Core.Former.{this, arity}
use Rattle.sqlite_items.specs.formers.items.Items.{the_former}
use Rattle.c_lex.specs.declared.token.TokenKind.{TokenKind}
use Rattle.c_lex.specs.declared.token.TokenKind.TheVariants as token
use Rattle.c_lex.specs.declared.token.Word.{Word as AWord}
use Rattle.c_lex.specs.declared.token.Mark.TheVariants as m
use Rattle.c_ast.specs.declared.declaration.Base.{Base}
use Rattle.c_ast.specs.declared.declaration.Base.TheBlock.{
  Ident,
  Row_of-Param,
  end_of-Param,
  more_of-Param,
  end_of-Declarator,
  more_of-Declarator,
  Declarator-Array-1-Some',
  end_of-Expr,
  more_of-Expr,
}
use Rattle.c_ast.specs.declared.declaration.Declarator.{Declarator}
use Rattle.c_ast.specs.declared.declaration.Param.{Param}
use Rattle.c_ast.specs.declared.expression.ExprNode.{ExprNode}
use Rattle.c_ast.specs.Input.{Input, kind, next, is_typedef, declared}
use Rattle.c_grammar.specs.Grammar.{
  Mode,
  Named,
  Abstract,
  Either,
  HasName,
  DeclaratorOperand,
  DeclaratorRule,
  Specifiers,
  BaseRule,
  Parameters,
  MoreParameters,
  name_of,
  is_own_name as is_own_row,
}
use Rattle.c_grammar.specs.Rules.{Declares, is_declaration_word}
use Rattle.parse_spec.specs.Scopes.{Adds}
use Rattle.parse_spec.specs.Steps.{left, turns, same_mark, declare, without_prototype, parameters_left}
use Rattle.parse_spec.specs.Nested.{expr, declarator, specs}
use Rattle.parse_spec.specs.Places.{opens_parameters, opens_by, opens_suffix, begins_by}
use Rattle.parse_spec.specs.Expressions.{made}
use Rattle.parse_spec.specs.Declarators.{is_own_name, one_parameter, parameters_from, parameters, array_suffix, function_suffix, one_suffix}
use Rattle.parse_spec.proofs.AddingRules.{parameters_adds, expr_adds, declarator_adds, specs_adds}
use Rattle.parse_sound.proofs.Holding.{sees_of}
use Rattle.parse_complete.proofs.Declarators.{
  stops,
  ends_specs,
  IsDeclared,
  Found,
  found_posts,
  suffix_step,
  operand_posts,
  empty_bracket,
  empty_paren,
  declarator_read,
  declarator_less,
  declarator_ends,
}
use Rattle.parse_complete.proofs.Firsts.{expr_opens, no_opening}
use Rattle.parse_complete.proofs.Keeps.{left_kept, parameters_keep, declares_keeps, size_keeps, prototype_keeps}
use Rattle.parse_complete.proofs.Parens.{IsRead, operand_expr}
use Rattle.parse_complete.proofs.Specifiers.{declaration_tags, IsSpecified, specifiers_less, specs_begin}
use Rattle.parse_complete.proofs.Steps.{mark_takes, expect_of, eat_yes, eat_no, sees_by, sees_not}
use Rattle.parse_complete.proofs.Tables.{grip, grip_is}
use Rattle.parse_complete.proofs.Trees.{pointer, array, array_of, function, params, specs_with, array_is, array_of_is, function_is}

pub kind_kept : (s : Input) (p : List (ℕ × Bool)) → kind (record s { prototype = p }) ≡ kind s
unfolding kind
kind_kept s p = refl

kind_with : (s : Input) (a b : List (ℕ × Bool)) → kind (record s { names = a; prototype = b }) ≡ kind s
unfolding kind
kind_with s a b = refl

-- ---- arrays

pub array_found : (e : Declarator) → IsDeclared e → (mode : Mode) → Found (array e) mode 0
unfolding one_suffix array_suffix
array_found e c mode = found_posts (array e) mode 0 (λ _. tt) (λ may s t (x, (h, (y, (before, (z, (none, behind)))))) d le i f t2 go.
    let here : opens_suffix (kind x) ≡ true = rw before.0 refl in
    let p = mark_takes m.OpenBracket x y before in
    let q = mark_takes m.CloseBracket z t behind in
    let close : kind y ≡ Some (token.Punct m.CloseBracket) = ap kind (sym none) ∙ behind.0 in
    let less : left t < left x = subst (λ u. left u < left x) (sym behind.1) (omega (arith, p, q, ap left none, ap left behind.1)) in
    let read : one_suffix (expr d) (declarator d) (specs d) e x ≡ Some (array e, t) =
    rw (
      sees_of m.OpenBracket x before.0,
      eat_yes m.OpenBracket x before.0,
      ← before.1,
      sees_of m.CloseBracket y close,
      eat_yes m.CloseBracket y close,
      ← none,
      ← behind.1,
      array_is e,
    ) refl in
    operand_posts e c mode s x h d le (λ name same. empty_bracket d mode s name (ap kind (sym same) ∙ before.0)) f t2
    (suffix_step d e x (array e) t f t2 here read less go))

pub array_of_found : (e : Declarator) (j : ℕ) (a : ExprNode) → IsDeclared e → IsRead a → (mode : Mode) → Found (array_of e j a) mode 0
unfolding one_suffix array_suffix
array_of_found e j a c c2 mode = found_posts (array_of e j a) mode 0 (λ _. tt)
    (λ may s t (x, (h, (y, (before, (z, ((q, (g, kept)), behind)))))) d le i f t2 go.
    let here : opens_suffix (kind x) ≡ true = rw before.0 refl in
    let inside = without_prototype y in
    let p0 = declarator_less mode 1 e s x h in
    let p = mark_takes m.OpenBracket x y before in
    let at_end : kind q ≡ Some (token.Punct m.CloseBracket) = sym (ap kind kept ∙ kind_kept q y.prototype) ∙ behind.0 in
    let stop : grip q ≤ 0 = omega (arith, grip_is q m.CloseBracket at_end) in
    let low : left inside < d = omega (arith, left_kept y [], p, p0, le) in
    let inner = operand_expr a c2 j 1 (omega arith) inside q g (omega (arith, stop)) (omega (arith, stop)) d low in
    let none = sees_not m.CloseBracket y (λ is. no_opening m.CloseBracket inside refl (expr_opens d 1 inside (made j a, q) inner) (kind_kept y [] ∙ is)) in
    let r = (size_keeps (Declarator-Array-1-Some' tt (more_of-Expr j a end_of-Expr))).keeps y z (q, (g, kept)) in
    let u = mark_takes m.CloseBracket z t behind in
    let read : one_suffix (expr d) (declarator d) (specs d) e x ≡ Some (array_of e j a, t) =
    rw (
      sees_of m.OpenBracket x before.0,
      eat_yes m.OpenBracket x before.0,
      ← before.1,
      none,
      eat_no m.CloseBracket y none,
      inner,
      ← kept,
      expect_of m.CloseBracket z behind.0,
      ← behind.1,
      array_of_is e j a,
    ) refl in
    operand_posts e c mode s x h d le (λ name same. empty_bracket d mode s name (ap kind (sym same) ∙ before.0)) f t2
    (suffix_step d e x (array_of e j a) t f t2 here read (omega arith) go))

-- ---- parameters

kind_of_declared : (n : ℕ) (typedef : Bool) (s : Input) → kind (declared n typedef s) ≡ kind s
unfolding kind declared
kind_of_declared n typedef s = refl

pub kind_declares : (typedef : Bool) (n : Option ℕ) (s t : Input) → Declares typedef n s t → (kind t ≡ kind s) × (declare typedef n s ≡ t)
kind_declares typedef None s t h = (ap kind h, sym h)
kind_declares typedef (Some n) s t h = (ap kind h ∙ kind_of_declared n typedef s, sym h)

abbrev pub AreParams : {n : _} → Row_of-Param n → Type 0
AreParams end_of-Param = Unit {0}
AreParams (more_of-Param words b e rest) = IsSpecified b words × (IsDeclared e × AreParams rest)

abbrev param : List AWord → Base → Declarator → Param
param words b e = record { specs = specs_with words b; declarator = e }

-- what comes after a parameter is a comma or the closing parenthesis
after_parameter : {n : _} (rest : Row_of-Param n) (ellipsis : Bool) (s q : Input) → MoreParameters rest ellipsis s q → kind q ≡ Some (token.Punct m.CloseParen)
    → (stops (kind s) ≡ true) × (ends_specs (kind s) ≡ true)
after_parameter end_of-Param true s q h last = (rw h.1.0.0 refl, rw h.1.0.0 refl)
after_parameter end_of-Param false s q h last = let x = ap kind (sym h) ∙ last in (rw x refl, rw x refl)
after_parameter (more_of-Param words b e rest) ellipsis s q h last = (rw h.1.0.0 refl, rw h.1.0.0 refl)

begins_no_ellipsis : (typedef : Bool) (k : Option TokenKind) → begins_by is_declaration_word typedef k ≡ true → k ≢ Some (token.Punct m.Ellipsis)
begins_no_ellipsis typedef k h is = let g = rw is at h in cc

begins_no_paren : (typedef : Bool) (k : Option TokenKind) → begins_by is_declaration_word typedef k ≡ true → k ≢ Some (token.Punct m.CloseParen)
begins_no_paren typedef k h is = let g = rw is at h in cc

one_read : (words : List AWord) (b : Base) (e : Declarator) → IsSpecified b words → IsDeclared e →
    (s x y z : Input) → Specifiers is_declaration_word b (BaseRule b) words s x
    → DeclaratorOperand Either 0 e (DeclaratorRule e Either) x y → Declares false (name_of e) y z → (stops (kind z) ≡ true) × (ends_specs (kind z) ≡ true)
    → (d : ℕ) → left s < d → one_parameter (expr d) (declarator d) (specs d) s ≡ Some (param words b e, z)
unfolding one_parameter
one_read words b e cs cd s x y z h g named after d le =
    let n = kind_declares false (name_of e) y z named in
    let stop : stops (kind y) ≡ true = subst (λ k. stops k ≡ true) n.0 after.0 in
    let free : ends_specs (kind y) ≡ true = subst (λ k. ends_specs k ≡ true) n.0 after.1 in
    let p = specifiers_less is_declaration_word b words s x h in
    let head = cs is_declaration_word declaration_tags s x h (declarator_ends e Either 0 x y g free) d le in
    let name = declarator_read e cd Either x y g stop d (omega arith) in
    rw (head, name, n.1) refl

params_found : {n : _} (words : List AWord) (b : Base) (e : Declarator) (rest : Row_of-Param n) (ellipsis : Bool) → IsSpecified b words → IsDeclared e →
    AreParams rest
    → (s x y z q : Input) → Specifiers is_declaration_word b (BaseRule b) words s x → DeclaratorOperand Either 0 e (DeclaratorRule e Either) x y
    → Declares false (name_of e) y z → MoreParameters rest ellipsis z q → kind q ≡ Some (token.Punct m.CloseParen)
    → (d : ℕ) → left s < d → (n : ℕ) → left s < n → (found : List Param)
    → parameters_from (expr d) (declarator d) (specs d) n found s ≡ Some ((found ++ param words b e ∷ params rest, ellipsis), q)
unfolding parameters_from same_mark
params_found words b e rest ellipsis cs cd cr s x y z q h g named u last d le zero lt found = absurd (omega arith)
params_found words b e end_of-Param true cs cd cr s x y z q h g named u last d le (suc n) lt found =
    let one = one_read words b e cs cd s x y z h g named (after_parameter end_of-Param true z q u last) d le in
    let comma = u.1.0 in
    let dots = u.1.1 in
    rw (one, sees_of m.Comma z comma.0, eat_yes m.Comma z comma.0, ← comma.1, sees_of m.Ellipsis u.0 dots.0, eat_yes m.Ellipsis u.0 dots.0, dots.1) refl
params_found words b e end_of-Param false cs cd cr s x y z q h g named u last d le (suc n) lt found =
    let one = one_read words b e cs cd s x y z h g named (after_parameter end_of-Param false z q u last) d le in
    let none = sees_by m.Comma z _ (ap kind (sym u) ∙ last) refl in
    rw (one, none, eat_no m.Comma z none, u) refl
params_found words b e (more_of-Param words2 b2 e2 rest) ellipsis cs cd cr s x y z q h g named u last d le (suc n) lt found =
    let after = after_parameter (more_of-Param words2 b2 e2 rest) ellipsis z q u last in
    let x0 = u.0 in
    let comma = u.1.0 in
    let x1 = u.1.1.0 in
    let h2 = u.1.1.1.0 in
    let one = one_read words b e cs cd s x y z h g named after d le in
    let p = specifiers_less is_declaration_word b words s x h in
    let p2 = declarator_less Either 0 e x y g in
    let p3 = (declares_keeps false (name_of e)).keeps y z named in
    let r = mark_takes m.Comma z x0 comma in
    let none = sees_not m.Ellipsis x0 (begins_no_ellipsis (is_typedef x0) (kind x0) (specs_begin is_declaration_word b2 words2 x0 x1 h2)) in
    let more = params_found words2 b2 e2 rest ellipsis cr.0 cr.1.0 cr.1.1 x0 x1 u.1.1.1.1.0 u.1.1.1.1.1.1.0 q h2 u.1.1.1.1.1.0 u.1.1.1.1.1.1.1.0
    u.1.1.1.1.1.1.1.1 last d (omega arith) n (omega arith) (found ++ param words b e ∷ []) in
    rw (one, sees_of m.Comma z comma.0, eat_yes m.Comma z comma.0, ← comma.1, none, eat_no m.Ellipsis x0 none, more)
    (ap (λ l. Some ((l, ellipsis), q)) (append_assoc found (param words b e ∷ []) (param words2 b2 e2 ∷ params rest)))

parameters_read : {n : _} (row : Row_of-Param n) (ellipsis : Bool) → AreParams row → (s q : Input) → Parameters row ellipsis s q →
    kind q ≡ Some (token.Punct m.CloseParen)
    → (d : ℕ) → left s < d → parameters (expr d) (declarator d) (specs d) s ≡ Some ((params row, ellipsis), q)
unfolding parameters
parameters_read end_of-Param true cs s q h last d le = absurd h
parameters_read end_of-Param false cs s q h last d le = let here = ap kind (sym h) ∙ last in rw (sees_of m.CloseParen s here, h) refl
parameters_read (more_of-Param words b e rest) ellipsis cs s q (x, (h, (y, (g, (z, (named, u)))))) last d le =
    let more = params_found words b e rest ellipsis cs.0 cs.1.0 cs.1.1 s x y z q h g named u last d le (turns s) (omega arith) [] in
    let none = sees_not m.CloseParen s (begins_no_paren (is_typedef s) (kind s) (specs_begin is_declaration_word b words s x h)) in
    rw (none, more) refl

-- ---- functions

begins_opens : (typedef : Bool) (k : Option TokenKind) → begins_by is_declaration_word typedef k ≡ true → opens_by typedef k ≡ true
begins_opens typedef (Some (token.Punct m.CloseParen)) h = refl
begins_opens typedef _ h = h

paren_opens : (typedef : Bool) (k : Option TokenKind) → k ≡ Some (token.Punct m.CloseParen) → opens_by typedef k ≡ true
paren_opens typedef k is = rw is refl

row_opens : {n : _} (row : Row_of-Param n) (ellipsis : Bool) (y q : Input) → Parameters row ellipsis (without_prototype y) q →
    kind q ≡ Some (token.Punct m.CloseParen)
    → opens_by (is_typedef y) (kind y) ≡ true
unfolding kind is_typedef
row_opens end_of-Param true y q h last = absurd h
row_opens end_of-Param false y q h last = paren_opens (is_typedef y) (kind y) (sym (kind_kept y []) ∙ ap kind (sym h) ∙ last)
row_opens (more_of-Param words b e rest) ellipsis y q h last =
    let g : begins_by is_declaration_word (is_typedef y) (kind y) ≡ true =
    specs_begin is_declaration_word b words (without_prototype y) h.0 h.1.0 in
    begins_opens (is_typedef y) (kind y) g

parameters_open : {n : _} (row : Row_of-Param n) (ellipsis : Bool) (mode : Mode) (s y q : Input) → HasName mode None → y ≡ next s →
    Parameters row ellipsis (without_prototype y) q
    → kind q ≡ Some (token.Punct m.CloseParen) → opens_parameters mode s ≡ true
parameters_open row ellipsis Named s y q name e h last = absurd name
parameters_open row ellipsis Abstract s y q name e h last = ap (λ u. opens_by (is_typedef u) (kind u)) (sym e) ∙ row_opens row ellipsis y q h last
parameters_open row ellipsis Either s y q name e h last = ap (λ u. opens_by (is_typedef u) (kind u)) (sym e) ∙ row_opens row ellipsis y q h last

own_same : (e : Declarator) → is_own_row (more_of-Declarator e end_of-Declarator) ≡ is_own_name e
own_same (Ident None) = refl
own_same (Ident (Some n)) = refl
own_same (pointer words e) = refl
own_same (array e) = refl
own_same (array_of e j a) = refl
own_same (function e n row ellipsis) = refl

-- the scope of the parameters ends, and they are kept
left_is : (own own2 : Bool) (y q : Input) → own ≡ own2 → Adds (without_prototype y) q
    → parameters_left own2 y q ≡ record q { names = y.names; prototype = if own then drop (length y.names) q.names else y.prototype }
left_is own own2 y q same g =
    ap (λ c. parameters_left c y q) (sym same)
    ∙ ap (λ n. record q { names = n; prototype = if own then drop (length y.names) q.names else y.prototype })
    (ap (take (length y.names)) g.names ∙ take-append_seam y.names g.more)

pub function_found : (e : Declarator) (n : List (Unit {0})) (row : Row_of-Param (arity (the_former (this {0})) n)) (ellipsis : Bool) → IsDeclared e →
    AreParams row
    → (mode : Mode) → Found (function e n row ellipsis) mode 0
unfolding one_suffix function_suffix same_mark
function_found e n row ellipsis c cs mode = found_posts (function e n row ellipsis) mode 0 (λ _. tt)
    (λ may s t (x, (h, (y, (before, (z, ((q, (g, kept)), behind)))))) d le i f t2 go.
    let here : opens_suffix (kind x) ≡ true = rw before.0 refl in
    let inside = without_prototype y in
    let p0 = declarator_less mode 1 e s x h in
    let p = mark_takes m.OpenParen x y before in
    let low : left inside < d = omega (arith, left_kept y [], p, p0, le) in
    let last : kind q ≡ Some (token.Punct m.CloseParen) = sym (ap kind kept ∙ kind_with q _ _) ∙ behind.0 in
    let inner = parameters_read row ellipsis cs inside q g last d low in
    let adds = (parameters_adds (expr d) (declarator d) (specs d) (expr_adds d) (declarator_adds d) (specs_adds d)).adds inside q (params row, ellipsis) inner
    in
    let over : parameters_left (is_own_name e) y q ≡ z = left_is _ _ y q (own_same e) adds ∙ sym kept in
    let r = (prototype_keeps _ (Parameters row ellipsis) (parameters_keep row ellipsis)).keeps y z (q, (g, kept)) in
    let u = mark_takes m.CloseParen z t behind in
    let no_bracket = sees_by m.OpenBracket x _ before.0 refl in
    let read : one_suffix (expr d) (declarator d) (specs d) e x ≡ Some (function e n row ellipsis, t) =
    rw (no_bracket, eat_no m.OpenBracket x no_bracket, ← before.1, inner, over, expect_of m.CloseParen z behind.0, ← behind.1, function_is e n row ellipsis)
    refl in
    operand_posts e c mode s x h d le (λ name same. empty_paren d mode s name (ap kind (sym same) ∙ before.0)
    (parameters_open row ellipsis mode s y q name (before.1 ∙ ap next same) g last)) f t2
    (suffix_step d e x (function e n row ellipsis) t f t2 here read (omega arith) go))
