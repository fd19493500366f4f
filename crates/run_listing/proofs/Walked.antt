-- A walk along entries: what is left of them lists what all of them do.
use Rattle.std.proofs.Common.{arith, ◌≡◌, ◌+◌, min, ℕ, zero, suc, Bool, true, false, ◌||◌, if◌then◌else◌, List, [], ◌∷◌, length}
use Rattle.std.proofs.Common.{drop, Some, slice_get, refl, sym, ap, subst, ◌∙◌}
use Rattle.std.proofs.lemmas.List.{take_rest, drop_min, drop-map, drop-drop}
use Rattle.c_typed.specs.declared.tree.Place.{Place}
use Rattle.c_typed.specs.Order.{Taken, same_place, has, is_number}
use Rattle.c_model.proofs.Listed.{same_place_eq, same_place_itself}
use Rattle.run_layout.specs.declared.steps.Due.{Due}
use Rattle.run_layout.specs.declared.steps.Listed.{Listed}
use Rattle.run_layout.specs.declared.steps.Listed.TheVariants as listed
use Rattle.run_layout.specs.Listings.{Entry, entry_of, entries_of, passed}
use Rattle.run_listing.specs.Along.{part_of, events_of}
use Rattle.run_listing.proofs.Lists.{opened}

-- from an entry on it lists what all do
abbrev pub Left : Taken → List Listed → (at : ℕ) → Type 0
Left taken entries at = events_of taken (drop at entries) ≡ events_of taken entries

pub event_at : (taken : Taken) (entries : List Listed) (at : ℕ) (due : Due) → slice_get entries at ≡ Some (listed.Event due) → Left taken entries at
    → events_of taken entries ≡ due.place ∷ events_of taken (drop (suc at) entries)
event_at taken entries at due h left = sym left ∙ ap (events_of taken) (opened entries at (listed.Event due) h)

-- entries that are passed over
passed_over : (taken : Taken) (n : ℕ) (es : List Entry) → passed taken n es ≡ passed taken 0 (drop n es)
passed_over taken zero es = refl
passed_over taken (suc n) [] = refl
passed_over taken (suc n) (e ∷ es) = passed_over taken n es

-- behind the entry of an operand, and so many more
behind : (taken : Taken) (entries : List Listed) (at node index count skip : ℕ) → slice_get entries at ≡ Some (listed.Operand node index count)
    → skip ≡ (if is_number (taken node) index then 0 else count) → events_of taken (drop at entries) ≡ events_of taken (drop (suc at + skip) entries)
behind taken entries at node index count skip h e =
    ap (events_of taken) (opened entries at (listed.Operand node index count) h)
    ∙ ap (λ n. passed taken n (entries_of (drop (suc at) entries))) (sym e)
    ∙ passed_over taken skip (entries_of (drop (suc at) entries))
    ∙ ap (passed taken 0) (drop-map entry_of skip (drop (suc at) entries) ∙ ap entries_of (drop-drop skip (suc at) entries))

pub operand_at : (taken : Taken) (entries : List Listed) (at node index count skip next : ℕ)
    → slice_get entries at ≡ Some (listed.Operand node index count) → skip ≡ (if is_number (taken node) index then 0 else count)
    → next ≡ min (at + 1 + skip) (length entries) → Left taken entries at → Left taken entries next
operand_at taken entries at node index count skip next h e n left =
    ap (events_of taken) (ap (λ m. drop m entries) n ∙ drop_min (at + 1 + skip) entries ∙ ap (λ m. drop m entries) (more at skip))
    ∙ sym (behind taken entries at node index count skip h e)
    ∙ left
  where
    more : (at skip : ℕ) → at + 1 + skip ≡ suc at + skip
    more at skip = omega (arith)

both : (x y : Bool) → (x ≡ true → y ≡ true) → (y ≡ true → x ≡ true) → x ≡ y
both true true f g = refl
both true false f g = sym (f refl)
both false true f g = g refl
both false false f g = refl

same_either : (u v : Place) → same_place u v ≡ same_place v u
same_either u v =
    both (same_place u v) (same_place v u) (λ h. subst (λ z. same_place z u ≡ true) (same_place_eq u v h) (same_place_itself u))
    (λ h. subst (λ z. same_place z v ≡ true) (same_place_eq v u h) (same_place_itself v))

or_first : (a b c : Bool) → (a || b) || c ≡ b || (a || c)
or_first true true c = refl
or_first true false c = refl
or_first false b c = refl

-- what is done, and what is left to be passed
abbrev pub Passes : (Place → Bool) → List Place → (Place → Bool) → Type 0
Passes done left all = (p : Place) → done p || has left p ≡ all p

pub pass_on : (done more all : Place → Bool) (left rest : List Place) (p : Place) → left ≡ p ∷ rest
    → ((q : Place) → more q ≡ same_place p q || done q) → Passes done left all → Passes more rest all
pass_on done more all left rest p e m h q =
    ap (λ b. b || has rest q) (m q)
    ∙ or_first (same_place p q) (done q) (has rest q)
    ∙ ap (λ b. done q || (b || has rest q)) (same_either p q)
    ∙ ap (λ ps. done q || has ps q) (sym e)
    ∙ h q

pub pass_all : (done all : Place → Bool) (left : List Place) → left ≡ [] → Passes done left all → (p : Place) → done p ≡ all p
pass_all done all left e h p = sym (or_false (done p)) ∙ ap (λ ps. done p || has ps p) (sym e) ∙ h p
  where
    or_false : (b : Bool) → b || false ≡ b
    or_false true = refl
    or_false false = refl

-- what stands behind an entry, up to the end
pub behind_one : (xs es : List Listed) (at : ℕ) → es ≡ part_of xs (at + 1) (length xs) → es ≡ drop (suc at) xs
behind_one xs es at e = e ∙ take_rest xs (at + 1) ∙ ap (λ n. drop n xs) (one_more at)
  where
    one_more : (n : ℕ) → n + 1 ≡ suc n
    one_more n = omega (arith)
