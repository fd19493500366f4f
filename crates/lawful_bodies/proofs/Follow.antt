-- How what one part of a function's statements adds is joined to what the next one adds.
use Rattle.std.proofs.Common.{
  ◌≡◌,
  ◌≢◌,
  ◌<◌,
  ◌^◌,
  false,
  ℕ,
  ◌+◌,
  List,
  [],
  ◌∷◌,
  ◌++◌,
  length,
  refl,
  sym,
  ap,
  ◌∙◌,
  subst,
  arith,
  append_assoc,
  append-nil,
  length-append,
  ℤ,
}
use Rattle.std.specs.List.{All, AllPairs, Contains}
use Rattle.std.proofs.lemmas.List.Elements.{All-append, All-nil, All-cons}
use Rattle.c_types.specs.declared.tags.Tag.{Tag}
use Rattle.c_typed.specs.Sites.{Summary, BlockRow, and, looped, nothing}
use Rattle.c_typed.specs.Lawful.{NumberedFrom, BlockIsLawful, SwitchIsLawful, StatementsAreLawful}
use Rattle.lawful_bodies.specs.declared.found.Found.{Found}
use Rattle.lawful_bodies.specs.declared.found.Inside.{Inside}
use Rattle.lawful_bodies.specs.Statements.{Follows, count_of}

numbered_append : (n : ℕ) (xs ys : List BlockRow) → NumberedFrom n xs → NumberedFrom (n + length xs) ys → NumberedFrom n (xs ++ ys)
numbered_append n [] ys p q =
    let e : n + 0 ≡ n = omega arith in
    subst (λ (k : ℕ). NumberedFrom k ys) e q
numbered_append n (x ∷ xs) ys p q =
    let e : n + length (x ∷ xs) ≡ (1 + n) + length xs = omega arith in
    (p.0, numbered_append (1 + n) xs ys p.1 (subst (λ (k : ℕ). NumberedFrom k ys) e q))

joined : {X : Type 0} (a b c s u : List X) → b ≡ a ++ s → c ≡ b ++ u → c ≡ a ++ (s ++ u)
joined a b c s u p q = q ∙ (ap (λ (z : List _). z ++ u) p ∙ append_assoc a s u)

added : (a b c s u : ℕ) → b ≡ a + s → c ≡ b + u → c ≡ a + (s + u)
added a b c s u p q = omega arith

none_of_both : (s u : ℕ) → s ≡ 0 → u ≡ 0 → s + u ≡ 0
none_of_both s u p q = omega arith

-- one part, and the next
pub compose : (tags : List Tag) (inside : Inside) (a b c : Found) (s u : Summary) → Follows tags inside a s b → Follows tags inside b u c →
    Follows tags inside a (and s u) c
compose tags inside a b c s u p q = record {
  numbered = numbered_append a.next s.blocks u.blocks p.numbered (subst (λ (k : ℕ). NumberedFrom k u.blocks) p.next q.numbered);
  next = added a.next b.next c.next (length s.blocks) (length u.blocks) p.next q.next ∙ ap (λ (k : ℕ). a.next + k) (sym (length-append s.blocks u.blocks));
  blocks = All-append (BlockIsLawful tags) s.blocks u.blocks p.blocks q.blocks;
  switches = All-append SwitchIsLawful s.switches u.switches p.switches q.switches;
  labels = joined a.labels b.labels c.labels s.labels u.labels p.labels q.labels;
  jumps = joined a.jumps b.jumps c.jumps s.jumps u.jumps p.jumps q.jumps;
  cases = joined a.cases b.cases c.cases s.cases u.cases p.cases q.cases;
  defaults = added (count_of a.has_default) (count_of b.has_default) (count_of c.has_default) s.defaults u.defaults p.defaults q.defaults;
  breaks = λ e. none_of_both s.breaks u.breaks (p.breaks e) (q.breaks e);
  continues = λ e. none_of_both s.continues u.continues (p.continues e) (q.continues e);
}

-- a loop takes the jumps out of its body
pub loop : (tags : List Tag) (inside within : Inside) (a b : Found) (s : Summary) → Follows tags within a s b → Follows tags inside a (looped s) b
loop tags inside within a b s p = record {
  numbered = p.numbered;
  next = p.next;
  blocks = p.blocks;
  switches = p.switches;
  labels = p.labels;
  jumps = p.jumps;
  cases = p.cases;
  defaults = p.defaults;
  breaks = λ _. refl;
  continues = λ _. refl;
}

behind : {X : Type 0} (a b : List X) (x : X) (s : List X) → b ≡ (a ++ x ∷ []) ++ s → b ≡ a ++ (x ∷ s)
behind a b x s p = p ∙ append_assoc a (x ∷ []) s

pub labelled : (tags : List Tag) (inside : Inside) (a m b : Found) (s : Summary) (label : ℕ) → m ≡ record a { labels = a.labels ++ label ∷ [] } →
    Follows tags inside m s b → Follows tags inside a (record s { labels = label ∷ s.labels }) b
labelled tags inside a m b s label e q =
    let p = subst (λ (z : Found). Follows tags inside z s b) e q in
    record {
      numbered = p.numbered;
      next = p.next;
      blocks = p.blocks;
      switches = p.switches;
      labels = behind a.labels b.labels label s.labels p.labels;
      jumps = p.jumps;
      cases = p.cases;
      defaults = p.defaults;
      breaks = p.breaks;
      continues = p.continues;
    }

pub cased : (tags : List Tag) (inside : Inside) (a m b : Found) (s : Summary) (value : ℤ) → m ≡ record a { cases = a.cases ++ value ∷ [] } →
    Follows tags inside m s b → Follows tags inside a (record s { cases = value ∷ s.cases }) b
cased tags inside a m b s value e q =
    let p = subst (λ (z : Found). Follows tags inside z s b) e q in
    record {
      numbered = p.numbered;
      next = p.next;
      blocks = p.blocks;
      switches = p.switches;
      labels = p.labels;
      jumps = p.jumps;
      cases = behind a.cases b.cases value s.cases p.cases;
      defaults = p.defaults;
      breaks = p.breaks;
      continues = p.continues;
    }

-- what holds nothing changes nothing
pub still : (tags : List Tag) (inside : Inside) (a : Found) → Follows tags inside a nothing a
still tags inside a = record {
  numbered = tt;
  next = omega arith;
  blocks = All-nil (BlockIsLawful tags);
  switches = All-nil SwitchIsLawful;
  labels = sym (append-nil a.labels);
  jumps = sym (append-nil a.jumps);
  cases = sym (append-nil a.cases);
  defaults = omega arith;
  breaks = λ _. refl;
  continues = λ _. refl;
}

-- a block, and what is in it
pub block : (tags : List Tag) (inside : Inside) (a m b : Found) (s : Summary) (row : BlockRow) → row.number ≡ a.next → m ≡ record a { next = a.next + 1 } →
    BlockIsLawful tags row → Follows tags inside m s b → Follows tags inside a (record s { blocks = row ∷ s.blocks }) b
block tags inside a m b s row n e h q =
    let p = subst (λ (z : Found). Follows tags inside z s b) e q in
    let up : a.next + 1 ≡ 1 + a.next = omega arith in
    let far : b.next ≡ a.next + 1 + length s.blocks = p.next in
    record {
      numbered = (n, subst (λ (k : ℕ). NumberedFrom k s.blocks) up p.numbered);
      next = omega arith;
      blocks = All-cons (BlockIsLawful tags) row s.blocks h p.blocks;
      switches = p.switches;
      labels = p.labels;
      jumps = p.jumps;
      cases = p.cases;
      defaults = p.defaults;
      breaks = p.breaks;
      continues = p.continues;
    }

-- all statements of a function
pub statements : (tags : List Tag) (inside : Inside) (a b : Found) (s : Summary) → Follows tags inside a s b →
    a.next ≡ 0 → a.labels ≡ [] → a.jumps ≡ [] → a.cases ≡ [] → a.has_default ≡ false → inside.breaks ≡ false → inside.continues ≡ false →
    b.cases ≡ [] → b.has_default ≡ false → AllPairs ◌≢◌ b.labels → All (Contains b.labels) b.jumps → b.next < 2 ^ 32 → StatementsAreLawful tags s
statements tags inside a b s p next labels jumps cases default breaks continues no_case no_default distinct defined few =
    let named : b.labels ≡ s.labels = p.labels ∙ ap (λ (z : List ℕ). z ++ s.labels) labels in
    let jumped : b.jumps ≡ s.jumps = p.jumps ∙ ap (λ (z : List ℕ). z ++ s.jumps) jumps in
    let cased : b.cases ≡ s.cases = p.cases ∙ ap (λ (z : List ℤ). z ++ s.cases) cases in
    let none : count_of b.has_default ≡ 0 = ap count_of no_default in
    let first : count_of a.has_default ≡ 0 = ap count_of default in
    let many : b.next ≡ a.next + length s.blocks = p.next in
    let defaults : count_of b.has_default ≡ count_of a.has_default + s.defaults = p.defaults in
    record {
      numbered = subst (λ (k : ℕ). NumberedFrom k s.blocks) next p.numbered;
      blocks = p.blocks;
      few_blocks = omega arith;
      switches = p.switches;
      no_case = sym cased ∙ no_case;
      no_default = omega arith;
      no_break = p.breaks breaks;
      no_continue = p.continues continues;
      distinct = subst (AllPairs ◌≢◌) named distinct;
      defined = subst (λ (z : List ℕ). All (Contains z) s.jumps) named (subst (All (Contains b.labels)) jumped defined);
    }
