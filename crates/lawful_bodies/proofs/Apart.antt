-- A set grows by each element of a list that has none twice.
use Rattle.std.proofs.Common.{
  arith,
  ◌≡◌,
  ◌⊎◌,
  inl,
  inr,
  ◌≢◌,
  ℕ,
  ◌+◌,
  ◌<◌,
  Bool,
  true,
  false,
  cond,
  List,
  [],
  ◌∷◌,
  ◌++◌,
  length,
  get_or,
  take,
  refl,
  sym,
  ap,
  ◌∙◌,
  subst,
}
use Rattle.std.specs.List.{All, AllPairs, Contains}
use Rattle.std.specs.BTreeMap.{is_at}
use Rattle.std.specs.Ordering.{nat_cmp}
use Rattle.std.proofs.lemmas.Bool.Decides.{nat_tests}
use Rattle.std.specs.BTreeSet.{BTreeSet, contains, Updates}
use Rattle.std.specs.declared.cmp.Ordering.{Ordering}
use Rattle.std.proofs.lemmas.Bool.{false≢true}
use Rattle.std.proofs.lemmas.List.{take_more}
use Rattle.std.proofs.lemmas.List.Elements.{All-push, Contains-push, Contains-append_left}
use Rattle.std.proofs.lemmas.List.Quantifiers.{all_pairs_push}

module _ {K : Type 0} (R : K → K → Ordering) where
  abbrev pub Seen : BTreeSet K → List K → Type 0
  Seen set xs = AllPairs ◌≢◌ xs × All (λ x. contains R set x ≡ true) xs

  kept : (b s : Bool) → s ≡ true → cond b true s ≡ true
  kept true s h = refl
  kept false s h = h

  pub push : (xs : List K) (x : K) (old new : BTreeSet K) → contains R old x ≡ false → Updates R old new x true → Seen old xs → Seen new (xs ++ x ∷ [])
  push xs x old new fresh u h =
      let apart : (k : ℕ) (d : K) → k < length xs → get_or xs k d ≢ x =
      λ k d l e. false≢true (sym fresh ∙ (ap (contains R old) (sym e) ∙ h.1 k d l)) in (
        all_pairs_push ◌≢◌ xs x h.0 apart,
        All-push (λ y. contains R new y ≡ true) xs x (λ k d l. u.0 (get_or xs k d) ∙ kept _ _ (h.1 k d l)) u.1,
      )

  pub more : (xs : List K) (i : ℕ) (x : K) (old new : BTreeSet K) → i < length xs → x ≡ get_or xs i x → contains R old x ≡ false → Updates R old new x true →
      Seen old (take i xs) → Seen new (take (i + 1) xs)
  more xs i x old new l e fresh u h =
      let t : take (i + 1) xs ≡ take i xs ++ x ∷ [] =
      take_more xs i x l ∙ ap (λ (y : K). take i xs ++ y ∷ []) (sym e) in
      subst (Seen new) (sym t) (push (take i xs) x old new fresh u h)

-- a set of numbers has no other than those put into it
came : (b s : Bool) → cond b true s ≡ true → (b ≡ true) ⊎ (s ≡ true)
came true s h = inl refl
came false s h = inr h

same_number : (x n : ℕ) → is_at (nat_cmp x) n ≡ true → x ≡ n
same_number x n e = grind (arith, nat_tests, e)

pub known_more : (xs : List ℕ) (i x : ℕ) (old new : BTreeSet ℕ) → i < length xs → x ≡ get_or xs i 0 → Updates nat_cmp old new x true →
    ((n : ℕ) → contains nat_cmp old n ≡ true → Contains (take i xs) n) → (n : ℕ) → contains nat_cmp new n ≡ true → Contains (take (i + 1) xs) n
known_more xs i x old new l e u h n c =
    let t : take (i + 1) xs ≡ take i xs ++ x ∷ [] =
    take_more xs i 0 l ∙ ap (λ (y : ℕ). take i xs ++ y ∷ []) (sym e) in
    subst (λ (ys : List ℕ). Contains ys n) (sym t)
    (elim (came (is_at (nat_cmp x) n) (contains nat_cmp old n) (sym (u.0 n) ∙ c)) as (λ z. Contains (take i xs ++ x ∷ []) n) [
      | inl a ↦ subst (λ (y : ℕ). Contains (take i xs ++ x ∷ []) y) (same_number x n a) (Contains-push (take i xs) x)
      | inr b ↦ Contains-append_left (take i xs) (x ∷ []) n (h n b)
    ])
