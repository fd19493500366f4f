-- The items that a trace has of an event stand with the questions whether their objects live, where those of its entries do.
use Rattle.std.proofs.Common.{◌≡◌, ◌⊎◌, inl, inr, ⊎_elim, Bool, true, false, if◌then◌else◌, List, [], ◌∷◌, ◌++◌, sym, ap, subst, ◌∙◌, append_assoc, refl}
use Rattle.std.specs.Prelude.{ℕ}
use Rattle.ub_base.specs.Frames.{Path}
use Rattle.ub_base.specs.declared.names.Item.{Item}
use Rattle.ub_base.specs.declared.names.Item.TheVariants.{Alive, Read, Write}
use Rattle.c_typed.specs.declared.tree.Place.{Place}
use Rattle.c_typed.specs.Order.{is_body}
use Rattle.c_model.specs.Findings.{is_under, items_of, items_under}
use Rattle.c_model.specs.Keys.{all_by_bytes, by_bytes}
use Rattle.c_model.specs.Moments.{is_of, items_by}
use Rattle.c_model.specs.Runs.{Entry}
use Rattle.finding_laws.specs.Footprints.{IsAmong}
use Rattle.finding_laws.specs.Forgotten.{AllAsked, AreAsked}
use Rattle.finding_laws.proofs.Bytes.{left_of, one_of, right_of}

-- ---- lists
none_asked : AreAsked []
none_asked = record { reads = λ x a n h. absurd h; writes = λ x a n h. absurd h }

by_parts : (is js : List Item) → all_by_bytes (is ++ js) ≡ all_by_bytes is ++ all_by_bytes js
by_parts [] js = refl
by_parts (i ∷ is) js = ap (λ (l : List Item). by_bytes i ++ l) (by_parts is js) ∙ sym (append_assoc (by_bytes i) (all_by_bytes is) (all_by_bytes js))

module _ (is js : List Item) where
  split : (i : Item) → IsAmong (all_by_bytes (is ++ js)) i → IsAmong (all_by_bytes is) i ⊎ IsAmong (all_by_bytes js) i
  split i h = one_of (all_by_bytes is) (all_by_bytes js) i (subst (λ (l : List Item). IsAmong l i) (by_parts is js) h)

  join : (i : Item) → IsAmong (all_by_bytes is) i ⊎ IsAmong (all_by_bytes js) i → IsAmong (all_by_bytes (is ++ js)) i
  join i h =
      subst (λ (l : List Item). IsAmong l i) (sym (by_parts is js))
      (⊎_elim (λ a. left_of (all_by_bytes is) (all_by_bytes js) i a) (λ b. right_of (all_by_bytes is) (all_by_bytes js) i b) h)

  both_asked : AreAsked is → AreAsked js → AreAsked (is ++ js)
  both_asked a b = record {
    reads = λ x p n h. join (Alive x) (⊎_elim (λ l. inl (a.reads x p n l)) (λ r. inr (b.reads x p n r)) (split (Read x p n) h));
    writes = λ x p n h. join (Alive x) (⊎_elim (λ l. inl (a.writes x p n l)) (λ r. inr (b.writes x p n r)) (split (Write x p n) h));
  }

if_asked : (b : Bool) (is js : List Item) → AreAsked is → AreAsked js → AreAsked (if b then is else js)
if_asked true is js a b = a
if_asked false is js a b = b

-- ---- traces
under_asked : (q : Path) (trace : List Entry) → AllAsked trace → AreAsked (items_under q trace)
under_asked q [] all = none_asked
under_asked q (x ∷ xs) (own, rest) =
    both_asked (if is_under x.path q then x.items else []) (items_under q xs) (if_asked (is_under x.path q) x.items [] own none_asked) (under_asked q xs rest)

pub by_asked : (trace es : List Entry) (path : Path) (turn : ℕ) (w : Place) → AllAsked trace → AllAsked es → AreAsked (items_by trace es path turn w)
by_asked trace [] path turn w all rest = none_asked
by_asked trace (x ∷ xs) path turn w all (own, rest) =
    if_asked (is_of path turn w x) (items_of trace x w) (items_by trace xs path turn w)
    (both_asked x.items (if is_body w.kind then items_under ((x.turn, w.node) ∷ x.path) trace else []) own
    (if_asked (is_body w.kind) (items_under ((x.turn, w.node) ∷ x.path) trace) [] (under_asked ((x.turn, w.node) ∷ x.path) trace all) none_asked))
    (by_asked trace xs path turn w all rest)
