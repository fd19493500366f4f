-- Ranges each of which begins where all before it end, or later.
use Rattle.std.proofs.Common.{
  ◌≡◌,
  ℕ,
  suc,
  ◌+◌,
  ◌<◌,
  ◌≤◌,
  max,
  List,
  [],
  ◌∷◌,
  length,
  get_or,
  drop,
  drop-cons,
  add-one,
  map,
  All,
  AllPairs,
  IsPermutation,
  sym,
  ap,
  subst,
  ◌∙◌,
  arith,
  inl,
  inr,
}
use Rattle.std.proofs.lemmas.List.{length-map, get_or-map, drop_all}
use Rattle.std.proofs.lemmas.List.Kept.{AllPairs-cons}
use Rattle.std.proofs.lemmas.List.Elements.{All-nil, All-cons}
use Rattle.c_typed.specs.declared.program.Constant.{Constant}
use Rattle.c_typed.specs.Lawful.{end_of, Apart, PartsFit}
use Rattle.lawful_trees.specs.Parts.{range_of, AreApart, FollowFrom}
use Rattle.lawful_trees.proofs.Permuted.{permuted}

-- none begins before
pub begin_late : (end : ℕ) (rs : List (ℕ × ℕ)) → FollowFrom end rs → All (λ (r : ℕ × ℕ). end ≤ r.0) rs
begin_late end [] f = All-nil (λ (r : ℕ × ℕ). end ≤ r.0)
begin_late end (r ∷ rs) f =
    let later = begin_late (max end r.1) rs f.1 in
    All-cons (λ (q : ℕ × ℕ). end ≤ q.0) r rs f.0 (λ k d within. let here : max end r.1 ≤ (get_or rs k d).0 = later k d within in omega arith)

pub apart : (end : ℕ) (rs : List (ℕ × ℕ)) → FollowFrom end rs → AllPairs AreApart rs
apart end [] f = λ i j d lt within. absurd (omega arith)
apart end (r ∷ rs) f =
    let later = begin_late (max end r.1) rs f.1 in
    AllPairs-cons AreApart r rs (λ k d within. let here : max end r.1 ≤ (get_or rs k d).0 = later k d within in inl (omega arith)) (apart (max end r.1) rs f.1)

turned : (a b : ℕ × ℕ) → AreApart a b → AreApart b a
turned a b (inl h) = inr h
turned a b (inr h) = inl h

-- one of them less
pub next : (end i : ℕ) (rs : List (ℕ × ℕ)) (r : ℕ × ℕ) → i < length rs → r ≡ get_or rs i r → end ≤ r.0 → FollowFrom (max end r.1) (drop (i + 1) rs) →
    FollowFrom end (drop i rs)
next end i rs r lt is late rest =
    let here : drop i rs ≡ r ∷ drop (i + 1) rs = drop-cons rs i r lt ∙
    (ap (λ (x : ℕ × ℕ). x ∷ drop (suc i) rs) (sym is) ∙ ap (λ (k : ℕ). r ∷ drop k rs) (sym (add-one i))) in
    subst (FollowFrom end) (sym here) (late, rest)

inside_each : (size : ℕ) (cs : List Constant) → All (λ (r : ℕ × ℕ). r.1 ≤ size) (map range_of cs) → All (λ c. end_of c ≤ size) cs
inside_each size cs h i d lt =
    let long = length-map cs range_of in
    let here : (get_or (map range_of cs) i (range_of d)).1 ≤ size = h i (range_of d) (omega arith) in
    subst (λ (r : ℕ × ℕ). r.1 ≤ size) (get_or-map range_of cs i d (range_of d) lt) here

apart_each : (cs : List Constant) → AllPairs AreApart (map range_of cs) → AllPairs Apart cs
apart_each cs h i j d lt within =
    let long = length-map cs range_of in
    let here : AreApart (get_or (map range_of cs) i (range_of d)) (get_or (map range_of cs) j (range_of d)) = h i j (range_of d) lt (omega arith) in
    subst (λ (r : ℕ × ℕ). AreApart (range_of (get_or cs i d)) r) (get_or-map range_of cs j d (range_of d) within)
    (subst (λ (r : ℕ × ℕ). AreApart r (get_or (map range_of cs) j (range_of d))) (get_or-map range_of cs i d (range_of d) (omega arith)) here)

pub fit : (size : ℕ) (cs : List Constant) (rs ss : List (ℕ × ℕ)) → rs ≡ map range_of cs → All (λ (r : ℕ × ℕ). r.1 ≤ size) rs → IsPermutation rs ss →
    AllPairs AreApart ss → PartsFit size cs
fit size cs rs ss made below sorted follows =
    record {
      inside = inside_each size cs (subst (All (λ (r : ℕ × ℕ). r.1 ≤ size)) made below);
      apart = apart_each cs (subst (AllPairs AreApart) made (permuted AreApart turned rs ss sorted follows));
    }

-- none is left
pub over : (end i : ℕ) (rs : List (ℕ × ℕ)) → length rs ≤ i → FollowFrom end (drop i rs)
over end i rs le = subst (FollowFrom end) (sym (drop_all i rs le)) tt
