-- What comes after an event stays in a set that no rule leaves, so that an event outside isn't sequenced after it.
use Rattle.std.proofs.Common.{◌≡◌, ℕ, Bool, true, false, not, ◌&&◌, ◌||◌, ◌==◌, List, [], ◌∷◌, refl, sym, ◌∙◌, subst, ◌⊎◌, inl, inr, true≢false, arith}
use Rattle.std.proofs.lemmas.Bool.Decides.{nat_tests}
use Rattle.std.specs.List.{list_all}
use Rattle.ub_base.specs.declared.clause.Kind.{Kind}
use Rattle.ub_base.specs.declared.clause.Kind.TheVariants.{Val, Eff, Body}
use Rattle.ub_base.specs.Names.{same_kind}
use Rattle.c_typed.specs.declared.tree.Place.{Place}
use Rattle.c_typed.specs.Tree.{Tree}
use Rattle.c_typed.specs.Order.{Taken, same_place, events, has, comes, Before, rule, chain, IsApart}

eq_of : (a b : ℕ) → (a == b) ≡ true → a ≡ b
eq_of a b h = grind (arith, nat_tests, h)

kind_eq : (k l : Kind) → same_kind k l ≡ true → k ≡ l
kind_eq Val Val h = refl
kind_eq Eff Eff h = refl
kind_eq Body Body h = refl
kind_eq Val Eff h = absurd (cc)
kind_eq Val Body h = absurd (cc)
kind_eq Eff Val h = absurd (cc)
kind_eq Eff Body h = absurd (cc)
kind_eq Body Val h = absurd (cc)
kind_eq Body Eff h = absurd (cc)

and_l : (a b : Bool) → (a && b) ≡ true → a ≡ true
and_l true b h = refl
and_l false b h = h

and_r : (a b : Bool) → (a && b) ≡ true → b ≡ true
and_r true b h = h
and_r false b h = absurd (cc)

or_cases : (a b : Bool) → (a || b) ≡ true → (a ≡ true) ⊎ (b ≡ true)
or_cases true b h = inl refl
or_cases false b h = inr h

place_eq : (u v : Place) → same_place u v ≡ true → u ≡ v
place_eq u v h =
    let n = eq_of u.node v.node (and_l (u.node == v.node) (same_kind u.kind v.kind) h) in
    let k = kind_eq u.kind v.kind (and_r (u.node == v.node) (same_kind u.kind v.kind) h) in
    λ i. record { node = n i; kind = k i }

-- what holds of all events of a list holds of each
all_has : (p : Place → Bool) (us : List Place) (u : Place) → has us u ≡ true → list_all p us ≡ true → p u ≡ true
all_has p [] u h a = absurd (true≢false (sym h))
all_has p (v ∷ us) u h a = elim (or_cases (same_place u v) (has us u) h) [
  | inl e ↦ subst (λ w. p w ≡ true) (sym (place_eq u v e)) (and_l (p v) (list_all p us) a)
  | inr b ↦ all_has p us u b (and_r (p v) (list_all p us) a)
]

-- no rule leads from an event of the set out of it
abbrev pub is_closed : Tree → Taken → (Place → Bool) → Bool
is_closed root taken set =
    list_all (λ a. list_all (λ b. not (set a && comes taken 0 root a b) || set b) (events taken 0 root)) (events taken 0 root)

out_of : (a b c : Bool) → (not (a && b) || c) ≡ true → a ≡ true → b ≡ true → c ≡ true
out_of true true c h p q = h
out_of true false c h p q = absurd (true≢false (sym q))
out_of false b c h p q = absurd (true≢false (sym p))

pub stays : (root : Tree) (taken : Taken) (set : Place → Bool) → is_closed root taken set ≡ true → (u v : Place) → Before root taken u v → set u ≡ true →
    set v ≡ true
stays root taken set closed _ _ (rule u v du dv c) su =
    let all_v = all_has (λ a. list_all (λ b. not (set a && comes taken 0 root a b) || set b) (events taken 0 root)) (events taken 0 root) u du closed in
    out_of (set u) (comes taken 0 root u v) (set v) (all_has (λ b. not (set u && comes taken 0 root u b) || set b) (events taken 0 root) v dv all_v) su c
stays root taken set closed _ _ (chain u v w a b) su = stays root taken set closed v w b (stays root taken set closed u v a su)

-- two events are apart where each stands in a closed set without the other
pub apart_by : (root : Tree) (taken : Taken) (from_u from_v : Place → Bool) (u v : Place) → is_closed root taken from_u ≡ true →
    is_closed root taken from_v ≡ true
    → from_u u ≡ true → from_u v ≡ false → from_v v ≡ true → from_v u ≡ false → IsApart root taken u v
apart_by root taken from_u from_v u v cu cv uu uv vv vu = record {
  not_before = λ b. true≢false (sym (stays root taken from_u cu u v b uu) ∙ uv);
  not_after = λ b. true≢false (sym (stays root taken from_v cv v u b vv) ∙ vu);
}
