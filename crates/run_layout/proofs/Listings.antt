-- What is laid out of a term lists the events of the term.
use Rattle.std.proofs.Common.{◌≡◌, ℕ, refl, sym, ◌∙◌, ap, List, [], ◌∷◌, ◌++◌, append_assoc, length}
use Rattle.std.specs.Prelude.{Bool, true, false, ◌&&◌, ◌==◌, nat_lt, if◌then◌else◌, Option, Some, None}
use Rattle.std.proofs.lemmas.Bool.{true≢false, eqb-true}
use Rattle.std.proofs.lemmas.List.{append-nil}
use Rattle.ub_base.specs.declared.clause.Kind.TheVariants.{Body}
use Rattle.c_typed.specs.declared.tree.Place.{Place}
use Rattle.c_typed.specs.Order.{Taken, place, is_number}
use Rattle.core_ir.specs.Term.{Term, Terms, none, more, pure, act, unseq, weak, strong, choose, atomic, indet, invoke, continued, listing, listings}
use Rattle.run_layout.specs.Listings.{Entry, event, continuation, flat, all_flat, passed, within}

skipped : (taken : Taken) (xs es : List Entry) → passed taken (length xs) (xs ++ es) ≡ passed taken 0 es
skipped taken [] es = refl
skipped taken (x ∷ xs) es = skipped taken xs es

within_if : (b : Bool) (p : Place) (xs ys : List Place) → (if b then p ∷ (xs ++ ys) else (xs ++ ys)) ≡ (if b then p ∷ xs else xs) ++ ys
within_if true p xs ys = refl
within_if false p xs ys = refl

within_append : (n : ℕ) (xs ys : List Place) → within n (xs ++ ys) ≡ within n xs ++ within n ys
within_append n [] ys = refl
within_append n (p ∷ xs) ys =
    ap (λ z. if nat_lt p.node n then p ∷ z else z) (within_append n xs ys) ∙ within_if (nat_lt p.node n) p (within n xs) (within n ys)

one_if : (b : Bool) (taken : Taken) (p : Place) (es : List Entry)
    → passed taken 0 ((if b then event p ∷ [] else []) ++ es) ≡ (if b then p ∷ [] else []) ++ passed taken 0 es
one_if true taken p es = refl
one_if false taken p es = refl

chosen_if : (b : Bool) (taken : Taken) (xs es : List Entry) (ps : List Place) → passed taken 0 (xs ++ es) ≡ ps ++ passed taken 0 es
    → passed taken (if b then 0 else length xs) (xs ++ es) ≡ (if b then ps else []) ++ passed taken 0 es
chosen_if true taken xs es ps h = h
chosen_if false taken xs es ps h = skipped taken xs es

-- no node chooses two operands
not_two : (j : ℕ) (b : Bool) → (j == 1) ≡ b → (b && (j == 2)) ≡ false
not_two j true e = ap (λ z. z == 2) (eqb-true j 1 e)
not_two j false e = refl

one_chosen : (choice : Option ℕ) → (is_number choice 1 && is_number choice 2) ≡ false
one_chosen None = refl
one_chosen (Some j) = not_two j (j == 1) refl

both_if : (n : ℕ) (b c : Bool) (first second : List Place) → (b && c) ≡ false
    → (if b then within n first else []) ++ (if c then within n second else []) ≡ within n (if b then first else (if c then second else []))
both_if n true true first second h = absurd (true≢false h)
both_if n true false first second h = append-nil (within n first)
both_if n false true first second h = refl
both_if n false false first second h = refl

-- the events of a continuation that is taken, of the first, of the second, or of none
both : (n : ℕ) (choice : Option ℕ) (first second : List Place)
    → (if is_number choice 1 then within n first else []) ++ (if is_number choice 2 then within n second else []) ≡ within n (continued choice first second)
both n choice first second = both_if n (is_number choice 1) (is_number choice 2) first second (one_chosen choice)

-- two parts, one after the other
two : (count : ℕ) (taken : Taken) (a b : List Entry) (xs ys : List Place)
    → ((es : List Entry) → passed taken 0 (a ++ es) ≡ within count xs ++ passed taken 0 es)
    → ((es : List Entry) → passed taken 0 (b ++ es) ≡ within count ys ++ passed taken 0 es)
    → (es : List Entry) → passed taken 0 ((a ++ b) ++ es) ≡ within count (xs ++ ys) ++ passed taken 0 es
two count taken a b xs ys p q es =
    ap (passed taken 0) (append_assoc a b es)
    ∙ p (b ++ es)
    ∙ ap (λ z. within count xs ++ z) (q es)
    ∙ sym (append_assoc (within count xs) (within count ys) (passed taken 0 es))
    ∙ ap (λ z. z ++ passed taken 0 es) (sym (within_append count xs ys))

mutual
  pub listed : (count : ℕ) (taken : Taken) (t : Term) (es : List Entry) → passed taken 0 (flat count t ++ es) ≡ within count (listing taken t) ++
      passed taken 0 es
  listed count taken (pure n) es = refl
  listed count taken (act n k) es = one_if (nat_lt n count) taken (place n k) es
  listed count taken (unseq ts) es = all_listed count taken ts es
  listed count taken (weak a b) es = two count taken (flat count a) (flat count b) (listing taken a) (listing taken b) (listed count taken a)
      (listed count taken b) es
  listed count taken (strong a b) es = two count taken (flat count a) (flat count b) (listing taken a) (listing taken b) (listed count taken a)
      (listed count taken b) es
  listed count taken (choose n test first second) es =
      let c1 : List Entry = continuation n 1 (flat count first) in
      let c2 : List Entry = continuation n 2 (flat count second) in
      let l1 : List Place = if is_number (taken n) 1 then within count (listing taken first) else [] in
      let l2 : List Place = if is_number (taken n) 2 then within count (listing taken second) else [] in
      let rest : List Place = passed taken 0 es in
      ap (passed taken 0) (append_assoc (flat count test) (c1 ++ c2) es)
      ∙ ap (λ z. passed taken 0 (flat count test ++ z)) (append_assoc c1 c2 es)
      ∙ listed count taken test (c1 ++ (c2 ++ es))
      ∙ ap (λ z. within count (listing taken test) ++ z)
      (chosen_if (is_number (taken n) 1) taken (flat count first) (c2 ++ es) (within count (listing taken first)) (listed count taken first (c2 ++ es))
      ∙ ap (λ z. l1 ++ z) (chosen_if (is_number (taken n) 2) taken (flat count second) es (within count (listing taken second)) (listed count taken second es))
      ∙ sym (append_assoc l1 l2 rest)
      ∙ ap (λ z. z ++ rest) (both count (taken n) (listing taken first) (listing taken second)))
      ∙ sym (append_assoc (within count (listing taken test)) (within count (continued (taken n) (listing taken first) (listing taken second))) rest)
      ∙ ap (λ z. z ++ rest) (sym (within_append count (listing taken test) (continued (taken n) (listing taken first) (listing taken second))))
  listed count taken (atomic a) es = listed count taken a es
  listed count taken (indet a) es = listed count taken a es
  listed count taken (invoke n) es = one_if (nat_lt n count) taken (place n Body) es

  all_listed : (count : ℕ) (taken : Taken) (ts : Terms) (es : List Entry)
      → passed taken 0 (all_flat count ts ++ es) ≡ within count (listings taken ts) ++ passed taken 0 es
  all_listed count taken none es = refl
  all_listed count taken (more t ts) es =
      ap (passed taken 0) (append_assoc (flat count t) (all_flat count ts) es)
      ∙ listed count taken t (all_flat count ts ++ es)
      ∙ ap (λ z. within count (listing taken t) ++ z) (all_listed count taken ts es)
      ∙ sym (append_assoc (within count (listing taken t)) (within count (listings taken ts)) (passed taken 0 es))
      ∙ ap (λ z. z ++ passed taken 0 es) (sym (within_append count (listing taken t) (listings taken ts)))
