-- A tag gets its members: what is known of the others stays, and of this one just its extent is known besides.
use Rattle.std.proofs.Common.{◌≡◌, ◌≢◌, ℕ, zero, suc, ◌+◌, ◌≤◌, List, [], ◌∷◌, length, Option, Some, None, refl, sym, ap, subst, ◌∙◌, ◌⊎◌, inl, inr, arith}
use Rattle.std.specs.Prelude.{slice_get}
use Rattle.std.proofs.lemmas.Bool.Decides.{eqb_tells}
use Rattle.c_types.specs.declared.tags.Member.{Member}
use Rattle.c_types.specs.declared.tags.Tag.{Tag}
use Rattle.c_types.specs.declared.tags.Extent.{Extent}
use Rattle.c_types.specs.Layout.{Known, tag_extent, extent_of_tag, known_by, completed}
use Rattle.c_types.specs.Table.{counted, completions}
use Rattle.c_types.proofs.Extents.{OptBelow, Below, both, tag_grows, option_grows, no_extent}

pub get-completed_same : (tags : List Tag) (i : ℕ) (ms : List Member) (t : Tag) → slice_get tags i ≡ Some t →
    slice_get (completed tags i ms) i ≡ Some (record t { members = ms })
get-completed_same [] i ms t h = absurd (cc)
get-completed_same (u ∷ us) zero ms t h = let e : u ≡ t = cc in let f : Tag → Option Tag = λ x. Some (record x { members = ms }) in ap f e
get-completed_same (u ∷ us) (suc i) ms t h = get-completed_same us i ms t h

pub get-completed_other : (tags : List Tag) (i : ℕ) (ms : List Member) (tag : ℕ) → tag ≢ i → slice_get (completed tags i ms) tag ≡ slice_get tags tag
get-completed_other [] i ms tag h = refl
get-completed_other (u ∷ us) zero ms zero h = absurd (h refl)
get-completed_other (u ∷ us) zero ms (suc tag) h = refl
get-completed_other (u ∷ us) (suc i) ms zero h = refl
get-completed_other (u ∷ us) (suc i) ms (suc tag) h = get-completed_other us i ms tag (λ e. h (ap suc e))

pub completions-completed : (tags : List Tag) (i : ℕ) (m : Member) (ms : List Member) (t : Tag) → slice_get tags i ≡ Some t → t.members ≡ [] →
    completions (completed tags i (m ∷ ms)) ≡ completions tags + 1
completions-completed [] i m ms t h e = absurd (cc)
completions-completed (u ∷ us) zero m ms t h e =
    let same : u ≡ t = cc in
    let none : counted u.members ≡ 0 = ap (λ x. counted x.members) same ∙ ap counted e in
    omega (arith, none)
completions-completed (u ∷ us) (suc i) m ms t h e = omega (arith, completions-completed us i m ms t h e)

pub length-completed : (tags : List Tag) (i : ℕ) (ms : List Member) → length (completed tags i ms) ≡ length tags
length-completed [] i ms = refl
length-completed (u ∷ us) zero ms = refl
length-completed (u ∷ us) (suc i) ms = ap suc (length-completed us i ms)

same_or_not : (tag i : ℕ) → (tag ≡ i) ⊎ (tag ≢ i)
same_or_not tag i = elim (eqb_tells tag i) [ inl p ↦ inl p.1 | inr p ↦ inr p.1 ]

pub record Completes (tags : List Tag) (i : ℕ) (ms : List Member) (t : Tag) (k m : Known) : Type 0 where
  pub settled : (n : ℕ) → completions tags ≤ n → (tag : ℕ) → known_by n tags tag ≡ k tag
  pub filled : (tag : ℕ) (u : Tag) → slice_get tags tag ≡ Some u → k tag ≡ None → u.members ≡ []
  pub there : slice_get tags i ≡ Some t
  pub fresh : k i ≡ None
  pub here : m i ≡ tag_extent k (record t { members = ms })
  pub others : (tag : ℕ) → tag ≢ i → m tag ≡ k tag

module _ (tags : List Tag) (i : ℕ) (ms : List Member) (t : Tag) (k m : Known) (c : Completes tags i ms t k m) where
  given : Tag
  given = record t { members = ms }

  by_cases : (P : ℕ → Type 0) → P i → ((tag : ℕ) → tag ≢ i → P tag) → (tag : ℕ) → P tag
  by_cases P h o tag = elim (same_or_not tag i) [ inl e ↦ subst P (sym e) h | inr n ↦ o tag n ]

  grown : Below k m
  grown = by_cases (λ tag. OptBelow (k tag) (m tag)) (λ e h. let f = c.fresh in absurd (cc)) (λ tag n e h. c.others tag n ∙ h)

  fixed_before : (tag : ℕ) → extent_of_tag k (slice_get tags tag) ≡ k tag
  fixed_before tag =
      (λ j. extent_of_tag (λ u. sym (c.settled (completions tags) (omega arith) u) j) (slice_get tags tag))
      ∙ c.settled (suc (completions tags)) (omega arith) tag

  here_only : (o : Option Extent) → m i ≡ o → OptBelow (tag_extent m given) (m i)
  unfolding given
  here_only None h e f =
      let back : Below m k = by_cases (λ tag. OptBelow (m tag) (k tag)) (λ d g. absurd (cc)) (λ tag n d g. sym (c.others tag n) ∙ g) in
      c.here ∙ tag_grows m k back (record t { members = ms }) e f
  here_only (Some d) h e f =
      let up : tag_extent m (record t { members = ms }) ≡ Some d = tag_grows k m grown (record t { members = ms }) d (sym c.here ∙ h) in
      h ∙ (sym up ∙ f)

  fixed_here : tag_extent m given ≡ m i
  unfolding given
  fixed_here = both (tag_extent m (record t { members = ms })) (m i) (here_only (m i) refl)
      (λ e h. tag_grows k m grown (record t { members = ms }) e (sym c.here ∙ h))

  other_only : (tag : ℕ) → tag ≢ i → (u : Tag) → slice_get tags tag ≡ Some u → (o : Option Extent) → k tag ≡ o → OptBelow (tag_extent m u) (k tag)
  other_only tag n u g None h e f = let none = no_extent m u (c.filled tag u g h) in absurd (cc)
  other_only tag n u g (Some d) h e f =
      let before : tag_extent k u ≡ Some d = ap (extent_of_tag k) (sym g) ∙ (fixed_before tag ∙ h) in
      h ∙ (sym (tag_grows k m grown u d before) ∙ f)

  fixed_other : (tag : ℕ) → tag ≢ i → (o : Option Tag) → slice_get tags tag ≡ o → extent_of_tag m o ≡ m tag
  fixed_other tag n None g = ap (extent_of_tag k) (sym g) ∙ (fixed_before tag ∙ sym (c.others tag n))
  fixed_other tag n (Some u) g =
      both (tag_extent m u) (k tag) (other_only tag n u g (k tag) refl)
      (λ e h. tag_grows k m grown u e (ap (extent_of_tag k) (sym g) ∙ (fixed_before tag ∙ h)))
      ∙ sym (c.others tag n)

  fixed : (tag : ℕ) → extent_of_tag m (slice_get (completed tags i ms) tag) ≡ m tag
  unfolding given
  fixed = by_cases (λ tag. extent_of_tag m (slice_get (completed tags i ms) tag) ≡ m tag)
      (ap (extent_of_tag m) (get-completed_same tags i ms t c.there) ∙ fixed_here)
      (λ tag n. ap (extent_of_tag m) (get-completed_other tags i ms tag n) ∙ fixed_other tag n (slice_get tags tag) refl)

  pub upper : (n : ℕ) → Below (known_by n (completed tags i ms)) m
  upper zero tag e h = absurd (cc)
  upper (suc n) tag e h = sym (fixed tag) ∙ option_grows (known_by n (completed tags i ms)) m (upper n) (slice_get (completed tags i ms) tag) e h

  kept : (n : ℕ) → Below (known_by n tags) (known_by n (completed tags i ms))
  kept zero tag = λ e h. absurd (cc)
  kept (suc n) tag = by_cases (λ u. OptBelow (known_by (suc n) tags u) (known_by (suc n) (completed tags i ms) u))
      (λ e h. let none = no_extent (known_by n tags) t (c.filled i t c.there c.fresh) in
      let was : tag_extent (known_by n tags) t ≡ Some e = ap (extent_of_tag (known_by n tags)) (sym c.there) ∙ h in absurd (cc))
      (λ u o e h. ap (extent_of_tag (known_by n (completed tags i ms))) (get-completed_other tags i ms u o)
      ∙ option_grows (known_by n tags) (known_by n (completed tags i ms)) (kept n) (slice_get tags u) e h)
      tag

  lower : (n : ℕ) → completions tags ≤ n → Below m (known_by (suc n) (completed tags i ms))
  lower n le = by_cases (λ u. OptBelow (m u) (known_by (suc n) (completed tags i ms) u))
      (λ e h. ap (extent_of_tag (known_by n (completed tags i ms))) (get-completed_same tags i ms t c.there)
      ∙ tag_grows k (known_by n (completed tags i ms)) (λ u d g. kept n u d (c.settled n le u ∙ g)) (record t { members = ms }) e (sym c.here ∙ h))
      (λ u o e h. kept (suc n) u e (c.settled (suc n) (omega arith) u ∙ (sym (c.others u o) ∙ h)))

  pub settles : (n : ℕ) → completions tags + 1 ≤ n → (tag : ℕ) → known_by n (completed tags i ms) tag ≡ m tag
  settles zero le tag = absurd (omega arith)
  settles (suc n) le tag =
      both (known_by (suc n) (completed tags i ms) tag) (m tag) (upper (suc n) tag) (lower n (omega arith) tag)
