-- The listing of a tree's term is the tree's events in post-order.
use Rattle.std.proofs.Common.{
  ◌≡◌,
  ℕ,
  suc,
  ◌+◌,
  Bool,
  true,
  false,
  not,
  ◌&&◌,
  ◌||◌,
  ◌==◌,
  if◌then◌else◌,
  List,
  [],
  ◌∷◌,
  ◌++◌,
  Option,
  Some,
  None,
  refl,
  sym,
  ap,
  ◌∙◌,
  true≢false,
  append_assoc,
  append-nil,
  arith,
}
use Rattle.std.proofs.lemmas.Bool.Decides.{nat_tests}
use Rattle.ub_base.specs.declared.clause.Kind.TheVariants.{Val, Eff, Body}
use Rattle.c_typed.specs.declared.tree.Place.{Place}
use Rattle.c_typed.specs.declared.class.Class.{Class}
use Rattle.c_typed.specs.declared.class.Class.TheVariants.{Object, Constant, Plain, Store, Update, Choice, Comma, Call, Isolated}
use Rattle.c_typed.specs.Tree.{Tree, node, Trees, none, more, size, is_quiet}
use Rattle.c_typed.specs.Order.{Taken, place, is_choice, is_number, goes, events, operand_events, is_last}
use Rattle.core_ir.specs.Term.{listing, listings, continued, terms_from}
use Rattle.elaborate.specs.Terms.{term_for, terms_for, choice_of, comma_of, head_of, rest_of}
use Rattle.elaborate.specs.Formed.{is_formed, are_formed, all_quiet, after}

pub and_l : (a b : Bool) → (a && b) ≡ true → a ≡ true
and_l true b h = refl
and_l false b h = h

pub and_r : (a b : Bool) → (a && b) ≡ true → b ≡ true
and_r true b h = h
and_r false b h = absurd (true≢false (sym h))

pub all_go : (class : Class) (choice : Option ℕ) (i : ℕ) → is_choice class ≡ false → goes class choice i ≡ true
all_go class choice i h = ap (λ b. not b || ((i == 0) || is_number choice i)) h

taken_if : (b : Bool) (xs : List Place) → b ≡ true → (if b then xs else []) ≡ xs
taken_if true xs h = refl
taken_if false xs h = absurd (true≢false (sym h))

-- what is quiet has no events

quiet_if : (b : Bool) (xs : List Place) → xs ≡ [] → (if b then xs else []) ≡ []
quiet_if true xs h = h
quiet_if false xs h = refl

mutual
  pub silent : (taken : Taken) (t : Tree) (k : ℕ) → is_formed t ≡ true → is_quiet t ≡ true → events taken k t ≡ []
  silent taken (node Object ts) k h q = append-nil (operand_events taken Object (taken k) 0 (suc k) ts) ∙ silent_all taken ts Object (taken k) 0 (suc k)
      (and_r (all_quiet ts) _ h) (and_l (all_quiet ts) _ h)
  silent taken (node Constant ts) k h q = append-nil (operand_events taken Constant (taken k) 0 (suc k) ts) ∙ silent_all taken ts Constant (taken k) 0 (suc k)
      (and_r (all_quiet ts) _ h) (and_l (all_quiet ts) _ h)
  silent taken (node _ ts) k h q = absurd (true≢false (sym q))

  pub silent_all : (taken : Taken) (ts : Trees) (class : Class) (choice : Option ℕ) (i m : ℕ) → are_formed ts ≡ true → all_quiet ts ≡ true →
      operand_events taken class choice i m ts ≡ []
  silent_all taken none class choice i m h q = refl
  silent_all taken (more t ts) class choice i m h q =
      ap (λ z. z ++ operand_events taken class choice (suc i) (m + size t) ts)
      (quiet_if (goes class choice i) (events taken m t) (silent taken t m (and_l (is_formed t) _ h) (and_l (is_quiet t) _ q)))
      ∙ silent_all taken ts class choice (suc i) (m + size t) (and_r (is_formed t) _ h) (and_r (is_quiet t) _ q)

-- a choice's operands

continued_none : (choice : Option ℕ) → continued choice [] [] ≡ []
continued_none choice = step (is_number choice 1) (is_number choice 2) []
  where
    step : (a b : Bool) (xs : List Place) → (if a then xs else (if b then xs else xs)) ≡ xs
    step true b xs = refl
    step false true xs = refl
    step false false xs = refl

continued_two : (choice : Option ℕ) (xs : List Place) → continued choice xs [] ≡ (if is_number choice 1 then xs else []) ++ []
continued_two choice xs = step (is_number choice 1) (is_number choice 2)
  where
    step : (a b : Bool) → (if a then xs else (if b then [] else [])) ≡ (if a then xs else []) ++ []
    step true b = sym (append-nil xs)
    step false true = refl
    step false false = refl

one_two : (j : ℕ) → (j == 1) ≡ true → (j == 2) ≡ false
one_two j h = grind (arith, nat_tests, h)

continued_three : (choice : Option ℕ) (xs ys : List Place) → continued choice xs ys ≡ (if is_number choice 1 then xs else []) ++
    ((if is_number choice 2 then ys else []) ++ [])
continued_three None xs ys = refl
continued_three (Some j) xs ys = step (j == 1) (j == 2) (one_two j)
  where
    step : (a b : Bool) → (a ≡ true → b ≡ false) → (if a then xs else (if b then ys else [])) ≡ (if a then xs else []) ++ ((if b then ys else []) ++ [])
    step true true f = absurd (true≢false (f refl))
    step true false f = sym (append-nil xs)
    step false true f = sym (append-nil ys)
    step false false f = refl

mutual
  pub listed : (taken : Taken) (t : Tree) (k : ℕ) → is_formed t ≡ true → listing taken (term_for k t) ≡ events taken k t
  listed taken (node Object ts) k h = sym (silent taken (node Object ts) k h refl)
  listed taken (node Constant ts) k h = sym (silent taken (node Constant ts) k h refl)
  listed taken (node Plain ts) k h = ap (λ z. z ++ place k Val ∷ []) (listed_all taken ts Plain (taken k) 0 (suc k) refl h)
  listed taken (node Store ts) k h = ap (λ z. z ++ place k Val ∷ place k Eff ∷ []) (listed_all taken ts Store (taken k) 0 (suc k) refl h)
  listed taken (node Update ts) k h = ap (λ z. z ++ place k Val ∷ place k Eff ∷ []) (listed_all taken ts Update (taken k) 0 (suc k) refl h)
  listed taken (node Choice ts) k h = ap (λ z. z ++ place k Val ∷ [])
      (listed_choice taken ts k (suc k) (and_l (is_last (after (after (after ts)))) _ h) (and_r (is_last (after (after (after ts)))) _ h))
  listed taken (node Comma ts) k h = listed_comma taken ts (taken k) k 0 (suc k) h
  listed taken (node Call ts) k h =
      append_assoc (listings taken (terms_from (terms_for (suc k) ts))) (place k Body ∷ []) (place k Val ∷ [])
      ∙ ap (λ z. z ++ place k Body ∷ place k Val ∷ []) (listed_all taken ts Call (taken k) 0 (suc k) refl h)
  listed taken (node Isolated none) k h = refl
  listed taken (node Isolated (more t ts)) k h = absurd (true≢false (sym h))

  pub listed_all : (taken : Taken) (ts : Trees) (class : Class) (choice : Option ℕ) (i m : ℕ) → is_choice class ≡ false → are_formed ts ≡ true →
      listings taken (terms_from (terms_for m ts)) ≡ operand_events taken class choice i m ts
  listed_all taken none class choice i m c h = refl
  listed_all taken (more t ts) class choice i m c h =
      ap (λ z. z ++ listings taken (terms_from (terms_for (m + size t) ts)))
      (listed taken t m (and_l (is_formed t) _ h) ∙ sym (taken_if (goes class choice i) (events taken m t) (all_go class choice i c)))
      ∙ ap (λ z. (if goes class choice i then events taken m t else []) ++ z)
      (listed_all taken ts class choice (suc i) (m + size t) c (and_r (is_formed t) _ h))

  pub listed_comma : (taken : Taken) (ts : Trees) (choice : Option ℕ) (k i m : ℕ) → are_formed ts ≡ true →
      listing taken (comma_of k (terms_for m ts)) ≡ operand_events taken Comma choice i m ts ++ place k Val ∷ []
  listed_comma taken none choice k i m h = refl
  listed_comma taken (more t none) choice k i m h = ap (λ z. z ++ place k Val ∷ [])
      (listed taken t m (and_l (is_formed t) _ h) ∙ sym (append-nil (events taken m t)))
  listed_comma taken (more t (more u us)) choice k i m h =
      ap (λ z. z ++ listing taken (comma_of k (terms_for (m + size t) (more u us)))) (listed taken t m (and_l (is_formed t) _ h))
      ∙ (ap (λ z. events taken m t ++ z) (listed_comma taken (more u us) choice k (suc i) (m + size t) (and_r (is_formed t) _ h))
      ∙ sym (append_assoc (events taken m t) (operand_events taken Comma choice (suc i) (m + size t) (more u us)) (place k Val ∷ [])))

  -- the operands after the first of a choice
  pub listed_next : (taken : Taken) (ts : Trees) (k m : ℕ) → is_last (after (after ts)) ≡ true → are_formed ts ≡ true
      → continued (taken k) (listing taken (head_of k (terms_for m ts))) (listing taken (head_of k (rest_of (terms_for m ts)))) ≡ operand_events taken Choice
      (taken k) 1 m ts
  listed_next taken none k m s h = continued_none (taken k)
  listed_next taken (more b none) k m s h = ap (λ z. continued (taken k) z []) (listed taken b m (and_l (is_formed b) _ h)) ∙ continued_two (taken k)
      (events taken m b)
  listed_next taken (more b (more d none)) k m s h =
      let hb = and_l (is_formed b) _ h in
      let hd = and_l (is_formed d) _ (and_r (is_formed b) _ h) in
      ap (λ z. continued (taken k) z (listing taken (term_for (m + size b) d))) (listed taken b m hb)
      ∙ (ap (λ z. continued (taken k) (events taken m b) z) (listed taken d (m + size b) hd)
      ∙ continued_three (taken k) (events taken m b) (events taken (m + size b) d))
  listed_next taken (more b (more d (more e es))) k m s h = absurd (true≢false (sym s))

  pub listed_choice : (taken : Taken) (ts : Trees) (k m : ℕ) → is_last (after (after (after ts))) ≡ true → are_formed ts ≡ true →
      listing taken (choice_of k (terms_for m ts)) ≡ operand_events taken Choice (taken k) 0 m ts
  listed_choice taken none k m s h = continued_none (taken k)
  listed_choice taken (more a ts) k m s h =
      ap (λ z. z ++ continued (taken k) (listing taken (head_of k (terms_for (m + size a) ts)))
      (listing taken (head_of k (rest_of (terms_for (m + size a) ts))))) (listed taken a m (and_l (is_formed a) _ h))
      ∙ ap (λ z. events taken m a ++ z) (listed_next taken ts k (m + size a) s (and_r (is_formed a) _ h))
