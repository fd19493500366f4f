-- What frames keep of what they touched.
use Rattle.std.proofs.Common.{◌≡◌, ◌⊎◌, inl, inr, ⊎_elim, Bool, true, false, ◌&&◌, ◌||◌, not, refl, ap, ◌∙◌}
use Rattle.ub_base.specs.declared.names.ObjName.{ObjName}
use Rattle.ub_base.specs.declared.names.Item.{Item}
use Rattle.ub_base.specs.declared.names.Item.TheVariants.{Born, Dies}
use Rattle.ub_base.proofs.NameLemmas.{same_object_refl}
use Rattle.footprint.specs.declared.foot.Foot.{Foot}
use Rattle.footprint.specs.Holds.{holds, stands_for, is_forgotten}
use Rattle.evaluation_log.specs.Bodies.{IsLost, Keeps}

pub itself : (f : Foot) → Keeps f f
itself f i h = inl h

-- births and deaths stay
birth_stays : (f : Foot) (x : ObjName) → (holds f (Born x) ≡ true) ⊎ IsLost f (Born x) → holds f (Born x) ≡ true
birth_stays f x h = ⊎_elim (λ held. held) (λ lost. absurd (let e : false ≡ true = lost.1 in cc)) h

death_stays : (f : Foot) (x : ObjName) → (holds f (Dies x) ≡ true) ⊎ IsLost f (Dies x) → holds f (Dies x) ≡ true
death_stays f x h = ⊎_elim (λ held. held) (λ lost. absurd (let e : false ≡ true = lost.1 in cc)) h

pub lost_after : (f g : Foot) → Keeps f g → (i : Item) → IsLost f i → IsLost g i
lost_after f g k i lost = (lost.0, lost.1, birth_stays g lost.0 (k (Born lost.0) lost.2), death_stays g lost.0 (k (Dies lost.0) lost.3))

pub after : (f g h : Foot) → Keeps f g → Keeps g h → Keeps f h
after f g h first second i held = ⊎_elim (second i) (λ lost. inr (lost_after g h second i lost)) (first i held)

or_first : (p q : Bool) → p ≡ true → (p || q) ≡ true
or_first p q h = ap (λ r. r || q) h

pub added : (f g : Foot) (item : Item) → ((i : Item) → holds g i ≡ (holds f i || stands_for item i)) → Keeps f g
added f g item is i h = inl (is i ∙ or_first _ _ h)

and_both : (p q : Bool) → p ≡ true → q ≡ true → (p && q) ≡ true
and_both p q h k = (λ i. h i && k i)

forgotten_by : (b : Bool) (f g : Foot) (x : ObjName) (i : Item) → is_forgotten x i ≡ b → ((j : Item) → holds g j ≡ (holds f j && not (is_forgotten x j))) →
    holds f (Born x) ≡ true → holds f (Dies x) ≡ true → holds f i ≡ true → (holds g i ≡ true) ⊎ IsLost g i
forgotten_by true f g x i e is born dead h = inr (x, e, is (Born x) ∙ and_both _ _ born refl, is (Dies x) ∙ and_both _ _ dead refl)
forgotten_by false f g x i e is born dead h = inl (is i ∙ and_both _ _ h (ap not e))

pub forgotten : (f g : Foot) (x : ObjName) → ((j : Item) → holds g j ≡ (holds f j && not (is_forgotten x j))) → holds f (Born x) ≡ true →
    holds f (Dies x) ≡ true → Keeps f g
forgotten f g x is born dead i h = forgotten_by (is_forgotten x i) f g x i refl is born dead h

or_second : (p q : Bool) → q ≡ true → (p || q) ≡ true
or_second true q h = refl
or_second false q h = h

pub died : (f g : Foot) (x : ObjName) → ((i : Item) → holds g i ≡ (holds f i || stands_for (Dies x) i)) → holds g (Dies x) ≡ true
died f g x is = is (Dies x) ∙ or_second (holds f (Dies x)) _ (same_object_refl x)
