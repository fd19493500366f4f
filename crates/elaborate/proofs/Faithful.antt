-- The term of a tree is faithful to it.
use Rattle.std.proofs.Common.{◌≡◌, true, List, [], ◌∷◌, map, sym, ap, subst, ◌∙◌}
use Rattle.c_typed.specs.declared.tree.Place.{Place}
use Rattle.c_typed.specs.Tree.{Tree}
use Rattle.c_typed.specs.Order.{Taken, place, has, events, is_due, Before}
use Rattle.c_typed.specs.Order as order
use Rattle.core_ir.specs.Term.{terms_from, listing, Ordered, rule, chain}
use Rattle.core_ir.specs.Faithful.{IsStrict, IsFaithful, AreFaithful}
use Rattle.elaborate.specs.Terms.{term_for}
use Rattle.elaborate.specs.Formed.{is_formed, EachFormed}
use Rattle.elaborate.proofs.Listed.{listed}
use Rattle.elaborate.proofs.Nothing.{sound}
use Rattle.elaborate.proofs.Once.{unique, unique_once, effect_next, Unique}
use Rattle.elaborate.proofs.Sequenced.{steps}

has_listed : (root : Tree) (taken : Taken) (u : Place) → is_formed root ≡ true → has (events taken 0 root) u ≡ true →
    has (listing taken (term_for 0 root)) u ≡ true
has_listed root taken u f h = ap (λ z. has z u) (listed taken root 0 f) ∙ h

ordered : (root : Tree) (taken : Taken) (u v : Place) → is_formed root ≡ true → Before root taken u v → Ordered (term_for 0 root) taken u v
ordered root taken _ _ f (order.rule u v du dv h) = rule u v (has_listed root taken u f du) (has_listed root taken v f dv) (steps taken root 0 u v f du dv h)
ordered root taken _ _ f (order.chain u v w a b) = chain u v w (ordered root taken u v f a) (ordered root taken v w f b)

strict : (root : Tree) → is_formed root ≡ true → IsStrict root (term_for 0 root)
strict root f = record {
  due = λ taken u. (λ h. ap (λ z. has z u) (sym (listed taken root 0 f)) ∙ h, λ h. has_listed root taken u f h);
  once = λ taken us vs v e. unique_once us vs v (subst Unique (sym (listed taken root 0 f) ∙ e) (unique taken root 0));
  effects = λ taken us vs n e. effect_next taken root us vs n (sym (listed taken root 0 f) ∙ e);
  sequenced = λ taken u v h. ordered root taken u v f h;
}

nothing_more : (root : Tree) (taken : Taken) (u v : Place) → is_formed root ≡ true → Ordered (term_for 0 root) taken u v → Before root taken u v
nothing_more root taken _ _ f (rule u v du dv h) =
    (sound taken (λ a b. Before root taken a b) (λ a b c p q. order.chain a b c p q) root 0 u v f (λ a b da db p. order.rule a b da db p) h).2
nothing_more root taken _ _ f (chain u v w a b) = order.chain u v w (nothing_more root taken u v f a) (nothing_more root taken v w f b)

pub faithful : (root : Tree) → is_formed root ≡ true → IsFaithful root (term_for 0 root)
faithful root f = record { strict = strict root f; nothing_more = λ taken u v h. nothing_more root taken u v f h; canonical = λ taken. listed taken root 0 f }

pub all_faithful : (ts : List Tree) → EachFormed ts → AreFaithful ts (terms_from (map (term_for 0) ts))
all_faithful [] f = tt
all_faithful (t ∷ ts) f = (faithful t f.0, all_faithful ts f.1)
