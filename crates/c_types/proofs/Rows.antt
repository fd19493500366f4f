-- One member after another.
use Rattle.std.proofs.Common.{◌≡◌, ℕ, ◌+◌, ◌<◌, suc, List, [], ◌∷◌, length, get_or, drop, drop-cons, add-one, Some, None, refl, sym, ap, ◌∙◌}
use Rattle.c_types.specs.declared.tags.TagKind.{TagKind}
use Rattle.c_types.specs.declared.tags.Member.{Member}
use Rattle.c_types.specs.declared.tags.Extent.{Extent}
use Rattle.c_types.specs.Layout.{Known, extent, placed, members_extent, type_of_member}

-- the member at a place goes behind those before it
pub next_member :
    (kind : TagKind) (known : Known) (before : Extent) (ms : List Member) (i : ℕ) (m : Member) → i < length ms → m ≡ get_or ms i m →
    members_extent kind known (Some before) (drop i ms) ≡ members_extent kind known (placed kind before (extent known (type_of_member m))) (drop (i + 1) ms)
next_member kind known before ms i m h e =
    ap (members_extent kind known (Some before)) (drop-cons ms i m h)
    ∙ (ap (λ x. members_extent kind known (Some before) (x ∷ drop (suc i) ms)) (sym e)
    ∙ ap (λ k. members_extent kind known (placed kind before (extent known (type_of_member m))) (drop k ms)) (sym (add-one i)))

pub none_stays : (kind : TagKind) (known : Known) (ms : List Member) → members_extent kind known None ms ≡ None
none_stays kind known [] = refl
none_stays kind known (m ∷ ms) = none_stays kind known ms

pub next_fails :
    (kind : TagKind) (known : Known) (before : Extent) (ms : List Member) (i : ℕ) (m : Member) → i < length ms → m ≡ get_or ms i m →
    placed kind before (extent known (type_of_member m)) ≡ None → members_extent kind known (Some before) (drop i ms) ≡ None
next_fails kind known before ms i m h e f =
    next_member kind known before ms i m h e ∙ (ap (λ o. members_extent kind known o (drop (i + 1) ms)) f ∙ none_stays kind known (drop (i + 1) ms))

pub next_goes :
    (kind : TagKind) (known : Known) (before : Extent) (ms : List Member) (i : ℕ) (m : Member) (after : Extent) → i < length ms → m ≡ get_or ms i m →
    placed kind before (extent known (type_of_member m)) ≡ Some after →
    members_extent kind known (Some after) (drop (i + 1) ms) ≡ members_extent kind known (Some before) (drop i ms)
next_goes kind known before ms i m after h e f =
    ap (λ o. members_extent kind known o (drop (i + 1) ms)) (sym f) ∙ sym (next_member kind known before ms i m h e)
