-- Translation units that are spelled are read.
use Rattle.std.proofs.Common.{
  ◌≡◌,
  ◌≢◌,
  ℕ,
  zero,
  suc,
  ◌<◌,
  ◌≤◌,
  Bool,
  true,
  false,
  inl,
  inr,
  List,
  [],
  ◌∷◌,
  ◌++◌,
  Option,
  Some,
  None,
  refl,
  sym,
  ap,
  ◌∙◌,
  subst,
  arith,
  append_assoc,
  append-nil,
}
use Rattle.c_lex.specs.declared.token.TokenKind.{TokenKind}
use Rattle.c_lex.specs.declared.token.TokenKind.TheVariants as token
use Rattle.c_lex.specs.declared.token.Word.TheVariants as w
use Rattle.c_lex.specs.declared.token.Mark.TheVariants as m
use Rattle.c_ast.specs.declared.declaration.Declarator.{Declarator}
use Rattle.c_ast.specs.declared.declaration.Init.{Init}
use Rattle.c_ast.specs.declared.declaration.Part.{Part}
use Rattle.c_ast.specs.declared.declaration.Specs.{Specs}
use Rattle.c_ast.specs.declared.expression.Expr.{Expr}
use Rattle.c_ast.specs.declared.statement.Entry.{Entry}
use Rattle.c_ast.specs.declared.statement.UnitEntry.{UnitEntry}
use Rattle.c_ast.specs.declared.statement.UnitEntry.TheVariants as unit
use Rattle.c_ast.specs.Input.{Input, kind, next, is_typedef, start_of}
use Rattle.c_grammar.specs.Grammar.{Named, MaybeInit, DeclarationSpecifiers, EntryRule, Body, UnitEntryRule, UnitEntries, name_of}
use Rattle.c_grammar.specs.Rules.{Mark, Declares, InPrototype, is_declaration_word, declares_typedef}
use Rattle.parse_spec.specs.Places.{begins_by}
use Rattle.parse_spec.specs.Scopes.{Adds}
use Rattle.parse_spec.specs.Statements.{body}
use Rattle.parse_spec.specs.Steps.{left, turns, same_mark, sees, scoped_in, with_parameters, without_prototype}
use Rattle.parse_spec.specs.Units.{function_body, declared_as, declared, unit_entry, unit_of, is_end, entries_from, whole_unit, read_of, tree_of}
use Rattle.parse_sound.proofs.Declarations.{PartsEnd}
use Rattle.parse_sound.proofs.Holding.{sees_of, sees_word_of, closed_is}
use Rattle.parse_sound.proofs.Rows.{NamedRule, Every}
use Rattle.parse_sound.proofs.Slides.{Kept, keeping, mark_slides}
use Rattle.parse_spec.proofs.AddingUnits.{body_adds}
use Rattle.parse_complete.specs.CompleteLaws.{TreesAreRead, TreesAreUnique, RefusedIsUnspelled}
use Rattle.parse_complete.proofs.Declarations.{EndsPart, assertion_read, specs_read, named_read, more_parts_read, first_stops, after_part}
use Rattle.parse_complete.proofs.Declarators.{ends_specs, named_no_stop, named_ends, declarator_less}
use Rattle.parse_complete.proofs.Keeps.{Keeps, nothing_keeps, then_keeps, declares_keeps, left_back, left_kept}
use Rattle.parse_complete.proofs.Slides.{assertion_slides, parts_end_slides, declaration_specs_slide}
use Rattle.parse_complete.proofs.Specifiers.{specs_begin}
use Rattle.parse_complete.proofs.Statements.{AllEntries, entry_found, entries_read, brace_inside}
use Rattle.parse_complete.proofs.Steps.{some_is, mark_takes, eat_yes, eat_no, sees_by, sees_not, sees_word_not}
use Rattle.parse_complete.proofs.Suffixes.{kind_kept}
use Rattle.parse_complete.proofs.Takes.{takes_keep, entry_takes, declaration_takes, assertion_takes, declaration_specs_keep}

-- ---- function bodies

body_every : (all : List Entry) (s t : Input) → Body all s t → Every EntryRule all s t
body_every [] s t h = h
body_every (a ∷ rest) s t (x, (h, more)) = (x, (h, body_every rest x t more))

all_found : (all : List Entry) → AllEntries all
all_found [] = tt
all_found (a ∷ rest) = (entry_found a, all_found rest)

with_adds : (i j : Input) → Adds (with_parameters i) j → Adds i j
with_adds i j g = record { tokens = g.tokens; more = i.prototype ++ g.more; names = g.names ∙ append_assoc i.names i.prototype g.more }

body_read : (all : List Entry) (s x t : Input) → InPrototype (Body all) s x → Mark m.CloseBrace x t → function_body s ≡ Some (all, t)
unfolding body
body_read all s x t (q, (h, out)) behind =
    let close = brace_inside s q x t out behind in
    let start = with_parameters s in
    let inner : body start ≡ Some (all, next q) =
    entries_read all (all_found all) start q (next q) (body_every all start q h) close.0 (turns start) (omega arith) in
    let adds = with_adds s (next q) (body_adds.adds start (next q) all inner) in
    ap (scoped_in s) inner ∙ ap (λ u. Some (all, u)) (closed_is s (next q) adds ∙ sym close.1)

-- ---- external declarations

-- it is read whatever parameters were kept before
abbrev IsUnitEntry : UnitEntry → Type 0
IsUnitEntry a = (s t : Input) → UnitEntryRule a s t → (p : Kept) → (q : Kept) × (unit_entry (keeping s p) ≡ Some (a, keeping t q))

empty_found : IsUnitEntry unit.Empty
unfolding unit_entry
empty_found s t h p =
    let more = (mark_slides m.Semicolon).slides s t h p in
    (more.0, rw (sees_of m.Semicolon (keeping s p) more.1.0, eat_yes m.Semicolon (keeping s p) more.1.0, ← more.1.1) refl)

assertion_found : (e : Expr) (n : ℕ) → IsUnitEntry (unit.Assertion e n)
unfolding unit_entry same_mark
assertion_found e n s t h p =
    let more = (assertion_slides e n).slides s t h p in
    let is = more.1.1.0.0 in
    let none = sees_by m.Semicolon (keeping s p) _ is refl in (
      more.0,
      rw (
        none,
        eat_no m.Semicolon (keeping s p) none,
        sees_word_of w.StaticAssert (keeping s p) is,
        assertion_read e n (keeping s p) (keeping t more.0) more.1,
      ) refl,
    )

specs_no_semicolon : (typedef : Bool) (k : Option TokenKind) → begins_by is_declaration_word typedef k ≡ true → k ≢ Some (token.Punct m.Semicolon)
specs_no_semicolon typedef k h is = let g = rw is at h in cc

specs_no_assert : (typedef : Bool) (k : Option TokenKind) → begins_by is_declaration_word typedef k ≡ true → k ≢ Some (token.Keyword w.StaticAssert)
specs_no_assert typedef k h is = let g = rw is at h in cc

-- what begins with specifiers is a declaration or a function definition
declared_at : (all : Specs) (s x : Input) → DeclarationSpecifiers all s x → unit_entry s ≡ declared s
unfolding unit_entry
declared_at all s x h =
    let begins = specs_begin is_declaration_word all.base all.words s x h in
    let none = sees_not m.Semicolon s (specs_no_semicolon (is_typedef s) (kind s) begins) in
    let never = sees_word_not w.StaticAssert s (specs_no_assert (is_typedef s) (kind s) begins) in
    rw (none, eat_no m.Semicolon s none, never) refl

named_no_semicolon : (d : Declarator) (s x : Input) → NamedRule d s x → sees m.Semicolon s ≡ false
named_no_semicolon d s x h = sees_not m.Semicolon s (λ is. absurd (let e = named_no_stop d 0 s x h in let f = rw is at e in cc))

-- the specifiers, and what goes on from them with no parameters kept
declared_from : (all : Specs) (s x : Input) → DeclarationSpecifiers all s x → ends_specs (kind x) ≡ true → sees m.Semicolon x ≡ false →
    unit_entry s ≡ declared_as all x
unfolding declared
declared_from all s x h ends none = declared_at all s x h ∙ rw (specs_read all s x h ends, none, eat_no m.Semicolon x none) refl

kept_semicolon : (i : Input) → sees m.Semicolon (without_prototype i) ≡ false → sees m.Semicolon i ≡ false
unfolding sees kind
kept_semicolon i none = none

function_read : (all : Specs) (d : Declarator) (entries : List Entry) (s x y z u v t : Input) → DeclarationSpecifiers all s x →
    NamedRule d (without_prototype x) y
    → Declares (declares_typedef all.words) (name_of d) y z → Mark m.OpenBrace z u → InPrototype (Body entries) u v → Mark m.CloseBrace v t
    → unit_entry s ≡ Some (unit.Function all d entries, t)
unfolding declared_as
function_read all d entries s x y z u v t h g n brace inner close =
    let ends : ends_specs (kind x) ≡ true = ap ends_specs (sym (kind_kept x [])) ∙ named_ends d 0 (without_prototype x) y g in
    let none : sees m.Semicolon x ≡ false = kept_semicolon x (named_no_semicolon d (without_prototype x) y g) in
    declared_from all s x h ends none
    ∙ rw (
      named_read (declares_typedef all.words) d (without_prototype x) y z g n (rw brace.0 refl),
      sees_of m.OpenBrace z brace.0,
      eat_yes m.OpenBrace z brace.0,
      ← brace.1,
      body_read entries u v t inner close,
    ) refl

function_found : (all : Specs) (d : Declarator) (entries : List Entry) → IsUnitEntry (unit.Function all d entries)
function_found all d entries s t (x, (h, (x2, (fresh, (y, (g, (z, (n, (u, (brace, (v, (inner, close)))))))))))) p =
    let more = (declaration_specs_slide all).slides s x h p in
    (t.prototype, function_read all d entries (keeping s p) (keeping x more.0) y z u v t more.1 (subst (λ i. NamedRule d i y) fresh g) n brace inner close)

part_no_brace : (a : Option Init) (s t : Input) → MaybeInit a s t → EndsPart t → sees m.OpenBrace s ≡ false
unfolding same_mark
part_no_brace None s t h (inl is) = sees_by m.OpenBrace s _ (ap kind (sym h) ∙ is) refl
part_no_brace None s t h (inr is) = sees_by m.OpenBrace s _ (ap kind (sym h) ∙ is) refl
part_no_brace (Some a) s t h end = sees_by m.OpenBrace s _ h.1.0.0 refl

parts_read : (all : Specs) (p : Part) (rest : List Part) (s x t : Input) → DeclarationSpecifiers all s x →
    PartsEnd (declares_typedef all.words) (p ∷ rest) (without_prototype x) t
    → unit_entry s ≡ Some (unit.Declaration (record { specs = all; parts = p ∷ rest }), t)
unfolding declared_as sees kind
parts_read all p rest s x t h (q, ((y, ((y0, (g, (z, (n, a)))), more)), end)) =
    let typedef = declares_typedef all.words in
    let ends : ends_specs (kind x) ≡ true = named_ends p.declarator 0 (without_prototype x) y0 g in
    let none : sees m.Semicolon x ≡ false = named_no_semicolon p.declarator (without_prototype x) y0 g in
    let no_brace = part_no_brace p.init z y a (after_part typedef rest y q t more end) in
    declared_from all s x h ends none
    ∙ rw (
      named_read typedef p.declarator (without_prototype x) y0 z g n (first_stops typedef p rest z y q t a more end),
      no_brace,
      eat_no m.OpenBrace z no_brace,
      more_parts_read typedef p rest z y q t a more end,
    ) refl

none_read : (all : Specs) (s x t : Input) → DeclarationSpecifiers all s x → Mark m.Semicolon x t →
    unit_entry s ≡ Some (unit.Declaration (record { specs = all; parts = [] }), t)
unfolding declared
none_read all s x t h end =
    declared_at all s x h ∙ rw (specs_read all s x h (rw end.0 refl), sees_of m.Semicolon x end.0, eat_yes m.Semicolon x end.0, ← end.1) refl

declaration_found : (all : Specs) (parts : List Part) → IsUnitEntry (unit.Declaration (record { specs = all; parts = parts }))
declaration_found all [] s t (x, (h, (x2, (same, end)))) p =
    let more = (declaration_specs_slide all).slides s x h p in
    let last = (mark_slides m.Semicolon).slides x t (subst (λ i. Mark m.Semicolon i t) same end) more.0 in
    (last.0, none_read all (keeping s p) (keeping x more.0) (keeping t last.0) more.1 last.1)
declaration_found all (a ∷ rest) s t (x, (h, g)) p =
    let more = (declaration_specs_slide all).slides s x h p in
    let last = (parts_end_slides (declares_typedef all.words) (a ∷ rest)).slides x t g [] in
    (last.0, parts_read all a rest (keeping s p) (keeping x more.0) (keeping t last.0) more.1 last.1)

entry_read : (a : UnitEntry) → IsUnitEntry a
entry_read (unit.Function all d entries) = function_found all d entries
entry_read (unit.Declaration d) = declaration_found d.specs d.parts
entry_read (unit.Assertion e n) = assertion_found e n
entry_read unit.Empty = empty_found

-- ---- each of them takes a token

body_keeps : (all : List Entry) → Keeps (Body all)
body_keeps [] = nothing_keeps
body_keeps (a ∷ rest) = then_keeps _ _ (takes_keep _ (entry_takes a)) (body_keeps rest)

left_with : (s : Input) → left (with_parameters s) ≡ left s
unfolding left
left_with s = refl

in_prototype_keeps : (all : List Entry) (s t : Input) → InPrototype (Body all) s t → left t ≤ left s
in_prototype_keeps all s t (q, (h, out)) = omega (arith, (body_keeps all).keeps (with_parameters s) q h, left_with s, ap left out, left_back s q)

entry_less : (a : UnitEntry) (s t : Input) → UnitEntryRule a s t → left t < left s
entry_less (unit.Function all d entries) s t (x, (h, (x2, (fresh, (y, (g, (z, (n, (u, (brace, (v, (inner, close)))))))))))) =
    omega (
      arith,
      (declaration_specs_keep all).keeps s x h,
      ap left fresh,
      left_kept x [],
      declarator_less Named 0 d x2 y g,
      (declares_keeps (declares_typedef all.words) (name_of d)).keeps y z n,
      mark_takes m.OpenBrace z u brace,
      in_prototype_keeps entries u v inner,
      mark_takes m.CloseBrace v t close,
    )
entry_less (unit.Declaration d) s t h = (declaration_takes d).takes s t h
entry_less (unit.Assertion e n) s t h = (assertion_takes e n).takes s t h
entry_less unit.Empty s t h = mark_takes m.Semicolon s t h

specs_no_end : (typedef : Bool) (k : Option TokenKind) → begins_by is_declaration_word typedef k ≡ true → is_end k ≡ false
specs_no_end typedef None h = absurd (cc)
specs_no_end typedef (Some found) h = refl

entry_no_end : (a : UnitEntry) (s t : Input) → UnitEntryRule a s t → is_end (kind s) ≡ false
entry_no_end (unit.Function all d entries) s t h = specs_no_end (is_typedef s) (kind s) (specs_begin is_declaration_word all.base all.words s h.0 h.1.0)
entry_no_end (unit.Declaration d) s t h = specs_no_end (is_typedef s) (kind s) (specs_begin is_declaration_word d.specs.base d.specs.words s h.0 h.1.0)
entry_no_end (unit.Assertion e n) s t h = rw h.1.0.0 refl
entry_no_end unit.Empty s t h = rw h.0 refl

-- ---- whole units

units_found : (all : List UnitEntry) (s t : Input) → UnitEntries all s t → kind t ≡ None → (p : Kept) (n : ℕ) → left s < n → (found : List UnitEntry)
    → (q : Kept) × (entries_from n found (keeping s p) ≡ Some (unit_of (found ++ all), keeping t q))
unfolding entries_from
units_found all s t h end p zero lt found = absurd (omega (arith, lt))
units_found [] s t h end p (suc n) lt found =
    let here : is_end (kind (keeping s p)) ≡ true = ap is_end (kind_kept s p ∙ ap kind (sym h) ∙ end) in
    (p, rw (here, h) (ap (λ l. Some (unit_of l, keeping s p)) (sym (append-nil found))))
units_found (a ∷ rest) s t h end p (suc n) lt found =
    let one = entry_read a s h.0 h.1.0 p in
    let less = entry_less a s h.0 h.1.0 in
    let here : is_end (kind (keeping s p)) ≡ false = ap is_end (kind_kept s p) ∙ entry_no_end a s h.0 h.1.0 in
    let more = units_found rest h.0 t h.1.1 end one.0 n (omega (arith, less, lt)) (found ++ a ∷ []) in
    (more.0, rw (here, one.1, more.1) (ap (λ l. Some (unit_of l, keeping t more.0)) (append_assoc found (a ∷ []) rest)))

pub trees_are_read : TreesAreRead
unfolding tree_of whole_unit
trees_are_read tokens u (t, (h, end)) =
    let start = start_of tokens in
    let all = units_found u.entries start t h end [] (turns start) (omega arith) [] in
    ap read_of all.1

pub trees_are_unique : TreesAreUnique
trees_are_unique tokens u v h g = some_is (sym (trees_are_read tokens u h) ∙ trees_are_read tokens v g)

pub refused_is_unspelled : RefusedIsUnspelled
refused_is_unspelled tokens u none h = let wrong = sym none ∙ trees_are_read tokens u h in cc
