-- Initializers that are spelled are read.
use Rattle.std.proofs.Common.{
  ◌≡◌,
  ◌≢◌,
  ℕ,
  zero,
  suc,
  ◌<◌,
  ◌≤◌,
  true,
  false,
  inl,
  inr,
  List,
  [],
  ◌∷◌,
  ◌++◌,
  Some,
  refl,
  sym,
  ap,
  ◌∙◌,
  subst,
  arith,
  append_assoc,
}
use mathlib.Core.Former.{this, arity}
use Rattle.sqlite_items.specs.formers.items.Items.{the_former}
use Rattle.c_lex.specs.declared.token.TokenKind.TheVariants as token
use Rattle.c_lex.specs.declared.token.Mark.TheVariants as m
use Rattle.c_ast.specs.declared.declaration.Designator.{Designator}
use Rattle.c_ast.specs.declared.declaration.Designator.TheVariants.{Member, Element}
use Rattle.c_ast.specs.declared.declaration.Init.{Init, roll-Init, roll-out-Init}
use Rattle.c_ast.specs.declared.declaration.Init.TheBlock.{
  Single,
  Braced',
  Row_of-InitEntry,
  end_of-InitEntry,
  more_of-InitEntry,
  items-the_row-InitEntry,
  items_shown-the_row-InitEntry-0,
  shown-the_row-InitEntry-0,
}
use Rattle.c_ast.specs.declared.declaration.Init.TheVariants as init
use Rattle.c_ast.specs.declared.declaration.InitEntry.{InitEntry}
use Rattle.c_ast.specs.declared.expression.Expr.{Expr}
use Rattle.c_ast.specs.Input.{Input, kind, is_typedef}
use Rattle.c_grammar.specs.Operators as op
use Rattle.c_grammar.specs.Grammar.{IsExpr, DesignatorRule, DesignatorList, Designation, InitRule, InitEntries, MoreInits}
use Rattle.c_grammar.specs.Rules.{◌⨾◌, Mark}
use Rattle.parse_spec.specs.Steps.{left, turns, same_mark}
use Rattle.parse_spec.specs.Nested.{expr}
use Rattle.parse_spec.specs.Places.{opens_designator}
use Rattle.parse_spec.specs.Initializers.{one_designator, designators_from, designation, entry_of, entries_from, initializer_at, one_initializer, initializer}
use Rattle.parse_sound.proofs.Holding.{sees_of}
use Rattle.parse_complete.proofs.Firsts.{expr_opens, opens_expr, opens_no_designator, no_opening}
use Rattle.parse_complete.proofs.Keeps.{identifier_keeps}
use Rattle.parse_complete.proofs.Members.{EndsEnumerator, ListEnd, list_ends, ends_tight}
use Rattle.parse_complete.proofs.Nested.{expr_read}
use Rattle.parse_complete.proofs.Steps.{mark_takes, expect_of, eat_yes, eat_no, sees_by, sees_not}
use Rattle.parse_complete.proofs.Tables.{grip, grip_is}
use Rattle.parse_complete.proofs.Takes.{expr_keeps, designation_keeps, init_keeps}
use Rattle.parse_complete.proofs.Words.{identifier_read}

-- an expression at the turns that the parser gives it
pub turns_read : (e : Expr) (l : ℕ) → l ≤ 13 → (s t : Input) → IsExpr l e s t → grip t ≤ l → expr (turns s) l s ≡ Some (e, t)
turns_read e l high s t h stop = expr_read e l high s t h stop (turns s) (omega arith)

pub begins_expr : (e : Expr) (l : ℕ) → l ≤ 13 → (s t : Input) → IsExpr l e s t → grip t ≤ l → opens_expr s ≡ true
begins_expr e l high s t h stop = expr_opens (turns s) l s (e, t) (turns_read e l high s t h stop)

-- ---- designators

designator_read : (d : Designator) (s t : Input) → DesignatorRule d s t → one_designator s ≡ Some (d, t)
unfolding one_designator same_mark
designator_read (Member n) s t (x, (mark, name)) =
    rw (sees_of m.Dot s mark.0, eat_yes m.Dot s mark.0, ← mark.1, identifier_read n x t name) refl
designator_read (Element e) s t (x, (before, (y, (h, behind)))) =
    let none = sees_by m.Dot s _ before.0 refl in
    let inner = turns_read e 2 (omega arith) x y h (omega (arith, grip_is y m.CloseBracket behind.0)) in
    rw (none, eat_no m.Dot s none, expect_of m.OpenBracket s before.0, ← before.1, inner, expect_of m.CloseBracket y behind.0, behind.1) refl

designator_opens : (d : Designator) (s t : Input) → DesignatorRule d s t → opens_designator (kind s) ≡ true
designator_opens (Member n) s t h = rw h.1.0.0 refl
designator_opens (Element e) s t h = rw h.1.0.0 refl

designator_less : (d : Designator) (s t : Input) → DesignatorRule d s t → left t < left s
designator_less (Member n) s t (x, (mark, name)) = omega (arith, mark_takes m.Dot s x mark, (identifier_keeps n).keeps x t name)
designator_less (Element e) s t (x, (before, (y, (h, behind)))) =
    omega (arith, mark_takes m.OpenBracket s x before, (expr_keeps op.conditional e).keeps x y h, mark_takes m.CloseBracket y t behind)

designators_found : (d : Designator) (rest : List Designator) (s x q t : Input) → DesignatorRule d s x → DesignatorList rest x q → Mark m.Equal q t
    → (n : ℕ) → left s < n → (found : List Designator) → designators_from n found s ≡ Some (found ++ d ∷ rest, t)
unfolding designators_from
designators_found d rest s x q t h g equal zero lt found = absurd (omega (arith, lt))
designators_found d [] s x q t h g equal (suc n) lt found =
    let here : kind x ≡ Some (token.Punct m.Equal) = ap kind (sym g) ∙ equal.0 in
    let stop : opens_designator (kind x) ≡ false = rw here refl in
    rw (designator_read d s x h, stop, expect_of m.Equal x here, ← g, equal.1) refl
designators_found d (d2 ∷ rest) s x q t h g equal (suc n) lt found =
    let p = designator_less d s x h in
    let more = designators_found d2 rest x g.0 q t g.1.0 g.1.1 equal n (omega arith) (found ++ d ∷ []) in
    rw (designator_read d s x h, designator_opens d2 x g.0 g.1.0, more) (ap (λ l. Some (l, t)) (append_assoc found (d ∷ []) (d2 ∷ rest)))

-- no designator comes where the initializer begins
designation_read : (all : List Designator) (s t : Input) → Designation all s t → opens_designator (kind t) ≡ false → designation s ≡ Some (all, t)
unfolding designation
designation_read [] s t h stop =
    let here : opens_designator (kind s) ≡ false = ap (λ x. opens_designator (kind x)) (sym h) ∙ stop in
    rw (here, h) refl
designation_read (d ∷ rest) s t (q, ((x, (h, g)), equal)) stop =
    rw (designator_opens d s x h, designators_found d rest s x q t h g equal (turns s) (omega arith) []) refl

-- ---- initializers

abbrev inits : {n : _} → Row_of-InitEntry n → List InitEntry
inits {n} row = items-the_row-InitEntry n row

braced_is : (at : ℕ) (n : List (Unit {0})) (row : Row_of-InitEntry (arity (the_former (this {0})) n)) → init.Braced at (inits row) ≡ Braced' at n row
braced_is at n row = ap (init.Braced at) (sym (items_shown-the_row-InitEntry-0 n row)) ∙ (sym (init.rolls-Braced at (shown-the_row-InitEntry-0 n row))
    ∙ (ap roll-Init (sym (init.outs-Braced' at n row)) ∙ roll-out-Init (Braced' at n row)))

init_no_designator : (a : Init) (s t : Input) → InitRule a s t → grip t ≤ 1 → opens_designator (kind s) ≡ false
init_no_designator (Single e) s t h stop = opens_no_designator (is_typedef s) (kind s) (begins_expr e 1 (omega arith) s t h stop)
init_no_designator (Braced' at n row) s t h stop = rw h.1.0.1.0 refl

abbrev IsInit : Init → Type 0
IsInit a = (s t : Input) → InitRule a s t → grip t ≤ 1 → (d : ℕ) → left s < d → initializer d s ≡ Some (a, t)

abbrev AreInits : {n : _} → Row_of-InitEntry n → Type 0
AreInits end_of-InitEntry = Unit {0}
AreInits (more_of-InitEntry designators a rest) = IsInit a × AreInits rest

after_init : {n : _} (rest : Row_of-InitEntry n) (s q t : Input) → MoreInits rest s q → ListEnd q t → EndsEnumerator s
after_init end_of-InitEntry s q t h end = subst EndsEnumerator h (list_ends q t end)
after_init (more_of-InitEntry designators a rest) s q t h end = inl h.1.0.0

no_brace : (designators : List Designator) (a : Init) (s x t : Input) → Designation designators s x → InitRule a x t → grip t ≤ 1 →
    kind s ≢ Some (token.Punct m.CloseBrace)
no_brace [] (Single e) s x t h g stop is = absurd (no_opening m.CloseBrace x refl (begins_expr e 1 (omega (arith, stop)) x t g stop) (ap kind h ∙ is))
no_brace [] (Braced' at n row) s x t h g stop is = absurd (let e = sym (ap kind h ∙ is) ∙ g.1.0.1.0 in cc)
no_brace (d ∷ rest) a s x t h g stop is = absurd (let e = designator_opens d s h.1.0.0 h.1.0.1.0 in let f = rw is at e in cc)

last_init : (d n : ℕ) (found : List InitEntry) (designators : List Designator) (a : Init) (s y x t : Input) → designation s ≡ Some (designators, y)
    → initializer d y ≡ Some (a, x) → ListEnd x t → entries_from (initializer d) (suc n) found s ≡ Some (found ++ entry_of designators a ∷ [], t)
unfolding entries_from same_mark
last_init d n found designators a s y x t head one (z, (inl same, close)) =
    let here = ap kind (sym same) ∙ close.0 in
    let none = sees_by m.Comma x _ here refl in
    rw (head, one, none, eat_no m.Comma x none, expect_of m.CloseBrace x here, ← same, close.1) refl
last_init d n found designators a s y x t head one (z, (inr comma, close)) =
    rw (head, one, sees_of m.Comma x comma.0, eat_yes m.Comma x comma.0, ← comma.1, sees_of m.CloseBrace z close.0, eat_yes m.CloseBrace z close.0, close.1)
    refl

inits_found : {n : _} (designators : List Designator) (a : Init) (rest : Row_of-InitEntry n) → IsInit a → AreInits rest →
    (s y x q t : Input) → Designation designators s y
    → InitRule a y x → MoreInits rest x q → ListEnd q t → (d : ℕ) → left s < d → (n : ℕ) → left s < n → (found : List InitEntry)
    → entries_from (initializer d) n found s ≡ Some (found ++ entry_of designators a ∷ inits rest, t)
unfolding entries_from
inits_found designators a rest c cs s y x q t h k g end d le zero lt found = absurd (omega arith)
inits_found designators a end_of-InitEntry c cs s y x q t h k g end d le (suc n) lt found =
    let stop = ends_tight x (after_init end_of-InitEntry x q t g end) in
    let p = (designation_keeps designators).keeps s y h in
    let head = designation_read designators s y h (init_no_designator a y x k stop) in
    last_init d n found designators a s y x t head (c y x k stop d (omega arith)) (subst (λ u. ListEnd u t) g end)
inits_found designators a (more_of-InitEntry designators2 a2 rest) c cs s y x q t h k g end d le (suc n) lt found =
    let stop = ends_tight x (after_init (more_of-InitEntry designators2 a2 rest) x q t g end) in
    let comma = g.1.0 in
    let y2 = g.1.1.0 in
    let x2 = g.1.1.1.1.0 in
    let stop2 = ends_tight x2 (after_init rest x2 q t g.1.1.1.1.1.1 end) in
    let p = (designation_keeps designators).keeps s y h in
    let p2 = (init_keeps a).keeps y x k in
    let r = mark_takes m.Comma x g.0 comma in
    let head = designation_read designators s y h (init_no_designator a y x k stop) in
    let one = c y x k stop d (omega arith) in
    let none = sees_not m.CloseBrace g.0 (no_brace designators2 a2 g.0 y2 x2 g.1.1.1.0 g.1.1.1.1.1.0 stop2) in
    let more = inits_found designators2 a2 rest cs.0 cs.1 g.0 y2 x2 q t g.1.1.1.0 g.1.1.1.1.1.0 g.1.1.1.1.1.1 end d (omega arith) n (omega arith)
    (found ++ entry_of designators a ∷ []) in
    rw (head, one, sees_of m.Comma x comma.0, eat_yes m.Comma x comma.0, ← comma.1, none, eat_no m.CloseBrace g.0 none, more)
    (ap (λ l. Some (l, t)) (append_assoc found (entry_of designators a ∷ []) (entry_of designators2 a2 ∷ inits rest)))

inits_read : {n : _} (row : Row_of-InitEntry n) → AreInits row → (s t : Input) → (InitEntries row ⨾ ListEnd) s t → (d : ℕ) → left s < d
    → entries_from (initializer d) (turns s) [] s ≡ Some (inits row, t)
inits_read end_of-InitEntry cs s t h d le = absurd h.1.0
inits_read (more_of-InitEntry designators a rest) cs s t (q, ((y, (h, (x, (k, g)))), end)) d le =
    inits_found designators a rest cs.0 cs.1 s y x q t h k g end d le (turns s) (omega arith) []

single_found : (e : Expr) → IsInit (Single e)
unfolding initializer one_initializer initializer_at
single_found e s t h stop zero le = absurd (omega (arith, le))
single_found e s t h stop (suc d) le =
    let none = sees_not m.OpenBrace s (no_opening m.OpenBrace s refl (begins_expr e 1 (omega arith) s t h stop)) in
    rw (none, eat_no m.OpenBrace s none, turns_read e 1 (omega arith) s t h stop) refl

braced_found : (at : ℕ) (n : List (Unit {0})) (row : Row_of-InitEntry (arity (the_former (this {0})) n)) → AreInits row → IsInit (Braced' at n row)
unfolding initializer one_initializer initializer_at
braced_found at n row cs s t h stop zero le = absurd (omega (arith, le))
braced_found at n row cs s t (x, ((number, brace), all)) stop (suc d) le =
    let p = mark_takes m.OpenBrace s x brace in
    let more = inits_read row cs x t all d (omega arith) in
    rw (sees_of m.OpenBrace s brace.0, eat_yes m.OpenBrace s brace.0, ← brace.1, more, number, braced_is s.at n row) refl

mutual
  pub init_found : (a : Init) → IsInit a
  init_found (Single e) = single_found e
  init_found (Braced' at n row) = braced_found at n row (all_inits row)

  all_inits : {n : _} (row : Row_of-InitEntry n) → AreInits row
  all_inits end_of-InitEntry = tt
  all_inits (more_of-InitEntry designators a rest) = (init_found a, all_inits rest)
