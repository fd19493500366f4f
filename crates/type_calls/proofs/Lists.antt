-- Operands one after another: what is made of those so far, and what is left, is what is made of all.
use Rattle.std.proofs.Common.{◌≡◌, ℕ, Bool, List, [], ◌∷◌, ◌++◌, length, map, Option, Some, None, refl, sym, ap, ◌∙◌, arith}
use Rattle.type_operands.specs.Layouts.{Layouts}
use Rattle.c_types.specs.declared.ty.Ty.{Ty}
use Rattle.c_types.specs.declared.ty.Qual.{Qual}
use Rattle.c_types.specs.Types.{Params, type_of, params_of, qualified_of}
use Rattle.c_typed.specs.declared.tree.Typed.{Typed}
use Rattle.type_operands.specs.declared.operand.Operand.{Operand}
use Rattle.type_reasons.specs.declared.refused.Refused.{Refused}
use Rattle.type_reasons.specs.declared.refused.Refused.TheVariants.{Constraint, NoMemory}
use Rattle.type_operands.specs.Terms.{Term, Terms, none, more, term_of, terms_of, before, Expression, expression_of, Fails, ◌>>=◌}
use Rattle.type_operands.specs.Conversions.{discarded}
use Rattle.type_calls.specs.Calls.{argument, arguments, rest}
use Rattle.type_calls.specs.Choices.{Last, Sequence, after, last, last_of, in_sequence, comma, sequenced, without_values}

abbrev pub joined : List Typed → Option Terms → Option Terms
joined [] x = x
joined (t ∷ ts) x = before (Some (term_of t)) (joined ts x)

joined_more : (cs : List Typed) (t : Typed) (x : Option Terms) → joined (cs ++ t ∷ []) x ≡ joined cs (before (Some (term_of t)) x)
joined_more [] t x = refl
joined_more (c ∷ cs) t x = ap (before (Some (term_of c))) (joined_more cs t x)

joined_all : (cs : List Typed) → joined cs (Some none) ≡ Some (terms_of cs)
joined_all [] = refl
joined_all (c ∷ cs) = ap (before (Some (term_of c))) (joined_all cs)

joined_nothing : (cs : List Typed) → joined cs None ≡ None
joined_nothing [] = refl
joined_nothing (c ∷ cs) = ap (before (Some (term_of c))) (joined_nothing cs)

before_nothing : (x : Option Terms) → before None x ≡ None
before_nothing (Some ts) = refl
before_nothing None = refl

pub nothing_left : {X : Type 0} (xs : List X) → length xs ≡ 0 → xs ≡ []
nothing_left [] h = refl
nothing_left (x ∷ xs) h = absurd (omega arith)

-- a step of a walk over operands, where f makes a tree of the next one and g makes trees of those behind it
pub stepped : (cs : List Typed) (t : Typed) (found : Option Term) (left all : Option Terms) → joined cs (before found left) ≡ all → found ≡ Some (term_of t) →
    joined (cs ++ t ∷ []) left ≡ all
stepped cs t found left all h e = joined_more cs t left ∙ (ap (λ z. joined cs (before z left)) (sym e) ∙ h)

pub refused : (cs : List Typed) (e : Refused) (found : Option Term) (left all : Option Terms) → joined cs (before found left) ≡ all → Fails e found →
    Fails e all
refused cs NoMemory found left all h f = tt
refused cs (Constraint r) found left all h f =
    sym h ∙ (ap (λ z. joined cs (before z left)) f ∙ (ap (joined cs) (before_nothing left) ∙ joined_nothing cs))

pub finished : (cs : List Typed) (left all : Option Terms) → joined cs left ≡ all → left ≡ Some none → all ≡ Some (terms_of cs)
finished cs left all h e = sym h ∙ (ap (joined cs) e ∙ joined_all cs)

pub unfinished : (cs : List Typed) (left all : Option Terms) → joined cs left ≡ all → left ≡ None → all ≡ None
unfinished cs left all h e = sym h ∙ (ap (joined cs) e ∙ joined_nothing cs)

-- operands without values
pub next_discarded : (tags : Layouts) (cs : List Typed) (os : List Operand) (o : Operand) (left : List Operand) (all : Option Terms) →
    joined cs (without_values tags (map expression_of os)) ≡ all → os ≡ o ∷ left →
    joined cs (before (discarded tags (expression_of o)) (without_values tags (map expression_of left))) ≡ all
next_discarded tags cs os o left all h e = ap (λ z. joined cs (without_values tags (map expression_of z))) (sym e) ∙ h

pub none_discarded : (tags : Layouts) (cs : List Typed) (os : List Operand) (all : Option Terms) →
    joined cs (without_values tags (map expression_of os)) ≡ all → os ≡ [] → all ≡ Some (terms_of cs)
none_discarded tags cs os all h e = finished cs (without_values tags (map expression_of os)) all h (ap (λ z. without_values tags (map expression_of z)) e)

-- arguments
pub next_argument : (tags : Layouts) (v : Bool) (ps : Params) (cs : List Typed) (os : List Operand) (o : Operand) (left : List Operand) (all : Option Terms) →
    joined cs (arguments tags v ps (map expression_of os)) ≡ all → os ≡ o ∷ left →
    joined cs (before (argument tags v ps (expression_of o)) (arguments tags v (rest ps) (map expression_of left))) ≡ all
next_argument tags v ps cs os o left all h e = ap (λ z. joined cs (arguments tags v ps (map expression_of z))) (sym e) ∙ h

pub no_argument : (tags : Layouts) (v : Bool) (ps : Params) (cs : List Typed) (os : List Operand) (all : Option Terms) →
    joined cs (arguments tags v ps (map expression_of os)) ≡ all → os ≡ [] → joined cs (arguments tags v ps []) ≡ all
no_argument tags v ps cs os all h e = ap (λ z. joined cs (arguments tags v ps (map expression_of z))) (sym e) ∙ h

-- the last operand of a comma
abbrev pub ended : Terms → Term → Terms
ended none t = more t none
ended (more s ss) t = more s (ended ss t)

abbrev pub closed : Option Terms → Option Last → Option Sequence
closed (Some ts) (Some l) = Some (record { operands = ended ts l.term; ty = l.ty })
closed _ _ = None

closed_nothing : (x : Option Terms) → closed x None ≡ None
closed_nothing None = refl
closed_nothing (Some ts) = refl

closed_more : (t : Option Term) (x : Option Terms) (l : Option Last) → after t (closed x l) ≡ closed (before t x) l
closed_more None None l = refl
closed_more None (Some ts) None = refl
closed_more None (Some ts) (Some l) = refl
closed_more (Some t) None l = refl
closed_more (Some t) (Some ts) None = refl
closed_more (Some t) (Some ts) (Some l) = refl

one_alone : (tags : Layouts) (e : Expression) (l : Option Last) → last tags e ≡ l → in_sequence tags (e ∷ []) ≡ closed (Some none) l
one_alone tags e None h = grind (arith, h)
one_alone tags e (Some l) h = grind (arith, h)

sequence_of : (tags : Layouts) (es : List Expression) (e : Expression) → in_sequence tags (es ++ e ∷ []) ≡ closed (without_values tags es) (last tags e)
sequence_of tags [] e = one_alone tags e (last tags e) refl
sequence_of tags (x ∷ []) e = ap (after (discarded tags x)) (sequence_of tags [] e) ∙ closed_more (discarded tags x) (without_values tags []) (last tags e)
sequence_of tags (x ∷ y ∷ ys) e = ap (after (discarded tags x)) (sequence_of tags (y ∷ ys) e) ∙ closed_more (discarded tags x) (without_values tags (y ∷ ys))
    (last tags e)

expressions : (os : List Operand) (o : Operand) → map expression_of (os ++ o ∷ []) ≡ map expression_of os ++ expression_of o ∷ []
expressions [] o = refl
expressions (p ∷ os) o = ap (λ z. expression_of p ∷ z) (expressions os o)

pub in_two : (tags : Layouts) (all os : List Operand) (o : Operand) → all ≡ os ++ o ∷ [] →
    in_sequence tags (map expression_of all) ≡ closed (without_values tags (map expression_of os)) (last tags (expression_of o))
in_two tags all os o e = ap (λ z. in_sequence tags (map expression_of z)) e ∙
    (ap (in_sequence tags) (expressions os o) ∙ sequence_of tags (map expression_of os) (expression_of o))

ended_terms : (cs : List Typed) (t : Typed) → ended (terms_of cs) (term_of t) ≡ terms_of (cs ++ t ∷ [])
ended_terms [] t = refl
ended_terms (c ∷ cs) t = ap (more (term_of c)) (ended_terms cs t)

pub without_refused : (tags : Layouts) (all os : List Operand) (o : Operand) (e : Refused) → all ≡ os ++ o ∷ [] →
    Fails e (without_values tags (map expression_of os)) → Fails e (in_sequence tags (map expression_of all))
without_refused tags all os o NoMemory h f = tt
without_refused tags all os o (Constraint r) h f = in_two tags all os o h ∙ ap (λ z. closed z (last tags (expression_of o))) f

pub last_refused : (tags : Layouts) (all os : List Operand) (o : Operand) (e : Refused) → all ≡ os ++ o ∷ [] → Fails e (last tags (expression_of o)) →
    Fails e (in_sequence tags (map expression_of all))
last_refused tags all os o NoMemory h f = tt
last_refused tags all os o (Constraint r) h f =
    in_two tags all os o h ∙ (ap (closed (without_values tags (map expression_of os))) f ∙ closed_nothing (without_values tags (map expression_of os)))

pub both_found : (tags : Layouts) (all os : List Operand) (o : Operand) (cs : List Typed) (t : Typed) (ty : Ty) → all ≡ os ++ o ∷ [] →
    without_values tags (map expression_of os) ≡ Some (terms_of cs) → last tags (expression_of o) ≡ Some (last_of (t, ty)) →
    in_sequence tags (map expression_of all) ≡ Some (record { operands = terms_of (cs ++ t ∷ []); ty = type_of ty })
both_found tags all os o cs t ty h f l =
    in_two tags all os o h ∙ (ap (λ z. closed z (last tags (expression_of o))) f ∙
    (ap (closed (Some (terms_of cs))) l ∙ (let P : Terms → Option Sequence = λ z.
    Some (record { operands = z; ty = type_of ty }) in ap P (ended_terms cs t))))

pub started : (was cs : List Typed) (d : Typed) (x : Option Terms) → cs ≡ was ++ d ∷ [] → was ≡ [] → joined cs x ≡ before (Some (term_of d)) x
started was cs d x e h = ap (λ z. joined z x) (e ∙ ap (λ z. z ++ d ∷ []) h)

pub begun : (cs : List Typed) (x : Option Terms) → cs ≡ [] → joined cs x ≡ x
begun cs x h = ap (λ z. joined z x) h

pub argument_taken : (tags : Layouts) (v : Bool) (ps qs : Params) (cs ds : List Typed) (t : Typed) (os : List Operand) (o : Operand) (left : List Operand)
    (all : Option Terms) → joined cs (arguments tags v ps (map expression_of os)) ≡ all → os ≡ o ∷ left →
    argument tags v ps (expression_of o) ≡ Some (term_of t) → ds ≡ cs ++ t ∷ [] → qs ≡ rest ps → joined ds (arguments tags v qs (map expression_of left)) ≡ all
argument_taken tags v ps qs cs ds t os o left all h e f d q =
    ap (λ z. joined z (arguments tags v qs (map expression_of left))) d
    ∙ (ap (λ z. joined (cs ++ t ∷ []) (arguments tags v z (map expression_of left))) q
    ∙ stepped cs t (argument tags v ps (expression_of o)) (arguments tags v (rest ps) (map expression_of left)) all
    (next_argument tags v ps cs os o left all h e) f)

pub argument_refused : (tags : Layouts) (v : Bool) (ps : Params) (cs : List Typed) (os : List Operand) (o : Operand) (left : List Operand)
    (all found : Option Terms) (e : Refused) → joined cs (arguments tags v ps (map expression_of os)) ≡ all → os ≡ o ∷ left → all ≡ found →
    Fails e (argument tags v ps (expression_of o)) → Fails e found
argument_refused tags v ps cs os o left all found e h s a f =
    refused cs e (argument tags v ps (expression_of o)) (arguments tags v (rest ps) (map expression_of left)) found
    (next_argument tags v ps cs os o left all h s ∙ a) f

pub value_dropped : (tags : Layouts) (cs ds : List Typed) (t : Typed) (os : List Operand) (o : Operand) (left : List Operand) (all : Option Terms) →
    joined cs (without_values tags (map expression_of os)) ≡ all → os ≡ o ∷ left → discarded tags (expression_of o) ≡ Some (term_of t) → ds ≡ cs ++ t ∷ [] →
    joined ds (without_values tags (map expression_of left)) ≡ all
value_dropped tags cs ds t os o left all h e f d =
    ap (λ z. joined z (without_values tags (map expression_of left))) d
    ∙ stepped cs t (discarded tags (expression_of o)) (without_values tags (map expression_of left)) all (next_discarded tags cs os o left all h e) f

pub drop_refused : (tags : Layouts) (cs : List Typed) (os : List Operand) (o : Operand) (left : List Operand) (all found : Option Terms) (e : Refused) →
    joined cs (without_values tags (map expression_of os)) ≡ all → os ≡ o ∷ left → all ≡ found → Fails e (discarded tags (expression_of o)) → Fails e found
drop_refused tags cs os o left all found e h s a f =
    refused cs e (discarded tags (expression_of o)) (without_values tags (map expression_of left)) found (next_discarded tags cs os o left all h s ∙ a) f

pub values_dropped : (tags : Layouts) (cs : List Typed) (os : List Operand) (all found : Option Terms) →
    joined cs (without_values tags (map expression_of os)) ≡ all → length os ≡ 0 → all ≡ found → found ≡ Some (terms_of cs)
values_dropped tags cs os all found h n a = sym a ∙ none_discarded tags cs os all h (nothing_left os n)

ended_arguments : (tags : Layouts) (v : Bool) (left : List Qual) (cs : List Typed) (os : List Operand) (all found : Option Terms) →
    joined cs (arguments tags v (params_of (map qualified_of left)) (map expression_of os)) ≡ all → length os ≡ 0 → all ≡ found →
    joined cs (arguments tags v (params_of (map qualified_of left)) []) ≡ found
ended_arguments tags v left cs os all found h n a = no_argument tags v (params_of (map qualified_of left)) cs os all h (nothing_left os n) ∙ a

pub arguments_missing : (tags : Layouts) (v : Bool) (left : List Qual) (cs : List Typed) (os : List Operand) (all found : Option Terms) (p : Qual)
    (further : List Qual) → joined cs (arguments tags v (params_of (map qualified_of left)) (map expression_of os)) ≡ all → length os ≡ 0 → all ≡ found →
    left ≡ p ∷ further → found ≡ None
arguments_missing tags v left cs os all found p further h n a e =
    unfinished cs (arguments tags v (params_of (map qualified_of left)) []) found (ended_arguments tags v left cs os all found h n a)
    (ap (λ z. arguments tags v (params_of (map qualified_of z)) []) e)

pub arguments_taken : (tags : Layouts) (v : Bool) (left : List Qual) (cs : List Typed) (os : List Operand) (all found : Option Terms) →
    joined cs (arguments tags v (params_of (map qualified_of left)) (map expression_of os)) ≡ all → length os ≡ 0 → all ≡ found → length left ≡ 0 →
    found ≡ Some (terms_of cs)
arguments_taken tags v [] cs os all found h n a e =
    finished cs (arguments tags v (params_of (map qualified_of [])) []) found (ended_arguments tags v [] cs os all found h n a) refl
arguments_taken tags v (p ∷ left) cs os all found h n a e = absurd (omega arith)

through : (x : Option Sequence) (k : Sequence → Option Expression) (e : Refused) → Fails e x → Fails e (x >>= k)
through x k NoMemory f = tt
through x k (Constraint r) f = ap (λ z. z >>= k) f

pub front_refused : (tags : Layouts) (all os : List Operand) (o : Operand) (line : ℕ) (e : Refused) → all ≡ os ++ o ∷ [] →
    Fails e (without_values tags (map expression_of os)) → Fails e (sequenced tags (map expression_of all) line)
front_refused tags all os o line e h f =
    through (in_sequence tags (map expression_of all)) (λ s. Some (comma s.ty line s.operands)) e (without_refused tags all os o e h f)

pub end_refused : (tags : Layouts) (all os : List Operand) (o : Operand) (line : ℕ) (e : Refused) → all ≡ os ++ o ∷ [] →
    Fails e (last tags (expression_of o)) → Fails e (sequenced tags (map expression_of all) line)
end_refused tags all os o line e h f =
    through (in_sequence tags (map expression_of all)) (λ s. Some (comma s.ty line s.operands)) e (last_refused tags all os o e h f)

pub sequence_found : (tags : Layouts) (all os : List Operand) (o : Operand) (line : ℕ) (cs ds : List Typed) (t : Typed) (ty : Ty) → all ≡ os ++ o ∷ [] →
    without_values tags (map expression_of os) ≡ Some (terms_of cs) → last tags (expression_of o) ≡ Some (last_of (t, ty)) → ds ≡ cs ++ t ∷ [] →
    sequenced tags (map expression_of all) line ≡ Some (comma (type_of ty) line (terms_of ds))
sequence_found tags all os o line cs ds t ty h f l d =
    ap (λ z. z >>= λ s. Some (comma s.ty line s.operands)) (both_found tags all os o cs t ty h f l)
    ∙ ap (λ z. Some (comma (type_of ty) line (terms_of z))) (sym d)
