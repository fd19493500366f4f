-- A frame's set has nothing that wasn't touched.
use Rattle.std.proofs.Common.{◌≡◌, ◌⊎◌, inl, inr, ⊎_elim, ℕ, suc, ◌<◌, ◌+◌, true, ◌||◌, List, length, ap, sym, ◌∙◌, arith}
use Rattle.std.specs.Prelude.{slice_get, slice_index_or}
use Rattle.std.proofs.lemmas.Option.{slice_get-get_or}
use Rattle.ub_base.specs.declared.names.Item.{Item}
use Rattle.footprint.specs.declared.foot.Foot.{Foot}
use Rattle.footprint.specs.Holds.{holds, stands_for}
use Rattle.evaluation_log.specs.Touched.{some_stands, touched}
use Rattle.evaluation_log.proofs.KeptLemmas.{or_split, or_left, or_right}

touched_next : (items : List Item) (at : ℕ) (i : Item) → (touched items 0 at i || some_stands (slice_get items at) i) ≡ touched items 0 (at + 1) i
touched_next items at i =
    let n : suc at ≡ at + 1 = omega arith in
    let k : at ≡ 0 + at = omega arith in
    ap (λ m. touched items 0 at i || some_stands (slice_get items m) i) k ∙ ap (λ m. touched items 0 m i) n

pub only_next : (items : List Item) (at : ℕ) (d : Item) (first f g : Foot) → at < length items →
    ((i : Item) → holds g i ≡ true → (holds f i || stands_for (slice_index_or items at d) i) ≡ true) →
    ((i : Item) → holds f i ≡ true → (holds first i ≡ true) ⊎ (touched items 0 at i ≡ true)) →
    (i : Item) → holds g i ≡ true → (holds first i ≡ true) ⊎ (touched items 0 (at + 1) i ≡ true)
only_next items at d first f g less one before i h =
    ⊎_elim
    (λ old. ⊎_elim inl (λ t. inr (sym (touched_next items at i) ∙ or_left (touched items 0 at i) (some_stands (slice_get items at) i) t)) (before i old))
    (λ new. inr (sym (touched_next items at i) ∙ or_right (touched items 0 at i) (some_stands (slice_get items at) i)
    (ap (λ o. some_stands o i) (slice_get-get_or items at d less) ∙ new)))
    (or_split (holds f i) (stands_for (slice_index_or items at d) i) (one i h))

pub only_all : (items : List Item) (at : ℕ) (first f : Foot) → at ≡ length items →
    ((i : Item) → holds f i ≡ true → (holds first i ≡ true) ⊎ (touched items 0 at i ≡ true)) →
    (i : Item) → holds f i ≡ true → (holds first i ≡ true) ⊎ (touched items 0 (length items) i ≡ true)
only_all items at first f e all i h = ⊎_elim inl (λ t. inr (ap (λ n. touched items 0 n i) (sym e) ∙ t)) (all i h)
