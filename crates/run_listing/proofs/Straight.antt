-- Where a listing parts.
use Rattle.std.proofs.Common.{◌≡◌, ℕ, zero, suc, ◌<◌, Bool, true, false, ◌||◌, nat_lt, if◌then◌else◌, List, [], ◌∷◌, ◌++◌, append_assoc, refl, sym, ap, subst}
use Rattle.std.proofs.Common.{◌∙◌, inl, inr, true≢false, arith}
use Rattle.c_typed.specs.declared.tree.Place.{Place}
use Rattle.c_typed.specs.Tree.{Tree, size}
use Rattle.c_typed.specs.Order.{Taken, same_place, events, has}
use Rattle.core_ir.specs.Term.{Term, listing}
use Rattle.elaborate.specs.Terms.{term_for}
use Rattle.elaborate.specs.Formed.{TermsAreFaithful}
use Rattle.elaborate.proofs.Once.{Unique}
use Rattle.c_model.proofs.Ranks.{lt_lt, events_in}
use Rattle.c_model.proofs.Decided.{or_a, or_b, has_or}
use Rattle.c_model.proofs.Listed.{listed_once, same_place_eq, same_place_itself}
use Rattle.listing_laws.proofs.Chosen.{cut}
use Rattle.run_layout.specs.declared.steps.Due.{Due}
use Rattle.run_layout.specs.declared.steps.Listed.{Listed}
use Rattle.run_layout.specs.declared.steps.Listed.TheVariants as listed
use Rattle.run_layout.specs.Listings.{Entry, event, entry_of, entries_of, flat, passed, within}
use Rattle.run_listing.specs.Along.{events_of, IsListed}
use Rattle.run_layout.specs.OfTrees.{IsListingOf}
use Rattle.run_listing.specs.Straight.{ListsTree, HasEntries, PartsAtEvent, PartsAlike, PartsFurther}
use Rattle.run_listing.proofs.Once.{places, unique_places}
use Rattle.run_listing.proofs.Reached.{StandsOnce, stands_once, parts, up_to, further, passed_has}

-- what the listing of a term lists
abbrev pub ListsTerm : Type 0
ListsTerm = (count : ℕ) (taken : Taken) (t : Term) → passed taken 0 (flat count t) ≡ within count (listing taken t)

has_at : (us vs : List Place) (v : Place) → has (us ++ v ∷ vs) v ≡ true
has_at us vs v = has_or us (v ∷ vs) v ∙ or_b (has us v) _ (or_a _ _ (same_place_itself v))

has_left : (us vs : List Place) (v : Place) → has us v ≡ true → has (us ++ vs) v ≡ true
has_left us vs v h = has_or us vs v ∙ or_a _ _ h

all_within : (count : ℕ) (us : List Place) → ((w : Place) → has us w ≡ true → w.node < count) → within count us ≡ us
all_within count [] f = refl
all_within count (u ∷ us) f =
    first (nat_lt u.node count) (lt_lt u.node count (f u (or_a _ _ (same_place_itself u))))
    ∙ ap (λ z. u ∷ z) (all_within count us (λ w h. f w (or_b (same_place w u) _ h)))
  where
    first : (b : Bool) → b ≡ true → (if b then u ∷ within count us else within count us) ≡ u ∷ within count us
    first true e = refl
    first false e = absurd (true≢false (sym e))

pub entries_append : (xs ys : List Listed) → entries_of (xs ++ ys) ≡ entries_of xs ++ entries_of ys
entries_append [] ys = refl
entries_append (x ∷ xs) ys = ap (λ z. entry_of x ∷ z) (entries_append xs ys)

-- ---- entries that list a tree, each once
pub record Lists (es : List Entry) (tree : Tree) : Type 0 where
  pub all : (taken : Taken) → passed taken 0 es ≡ events taken 0 tree
  pub once : Unique (places es)

pub lists_tree : ListsTerm → TermsAreFaithful → (entries : List Listed) (tree : Tree) → IsListingOf entries tree → Lists (entries_of entries) tree
lists_tree law faithful entries tree l = record {
  all = λ taken. ap (passed taken 0) l.laid ∙ law (size tree) taken (term_for 0 tree)
      ∙ ap (within (size tree)) ((faithful tree l.formed).canonical taken)
      ∙ all_within (size tree) (events taken 0 tree) (λ w h. let r = (events_in taken tree 0 w h).1 in omega (arith, r));
  once = subst (λ es. Unique (places es)) (sym l.laid) (unique_places (size tree) tree);
}

module _ (tree : Tree) (xs ys : List Entry) (v : Place) (l : Lists (xs ++ event v ∷ ys) tree) where
  once_here : StandsOnce xs ys v
  once_here = stands_once xs ys v l.once

  -- what is due is listed on either side
  sides : (taken : Taken) → has (events taken 0 tree) v ≡ true → events taken 0 tree ≡ passed taken 0 xs ++ v ∷ passed taken 0 ys
  sides taken h = sym (l.all taken) ∙ parts taken xs ys v once_here (ap (λ us. has us v) (l.all taken) ∙ h)

  up_here : (taken : Taken) → has (events taken 0 tree) v ≡ true → passed taken 0 (xs ++ event v ∷ []) ≡ passed taken 0 xs ++ v ∷ []
  up_here taken h = up_to taken xs ys v once_here (ap (λ us. has us v) (l.all taken) ∙ h)

  -- and where it is listed so, these are the sides
  sides_are : (taken : Taken) (us vs : List Place) → events taken 0 tree ≡ us ++ v ∷ vs → (passed taken 0 xs ≡ us) × (passed taken 0 ys ≡ vs)
  sides_are taken us vs e =
      let s = sides taken (ap (λ z. has z v) e ∙ has_at us vs v) in
      cut (passed taken 0 xs) (passed taken 0 ys) us vs v (sym s ∙ e) (listed_once tree taken (passed taken 0 xs) (passed taken 0 ys) v s)
      (listed_once tree taken us vs v e)

-- ---- a listing whose first part ends at an event
module _ (law : ListsTerm) (faithful : TermsAreFaithful) where
  pub lists_all : ListsTree
  lists_all entries tree l taken = (lists_tree law faithful entries tree l).all taken

  as_entries : (before behind : List Listed) (tree : Tree) → IsListingOf (before ++ behind) tree → Lists (entries_of before ++ entries_of behind) tree
  as_entries before behind tree l = subst (λ es. Lists es tree) (entries_append before behind) (lists_tree law faithful (before ++ behind) tree l)

  at_event : (es behind : List Listed) (d : Due) (tree : Tree) → IsListingOf ((es ++ listed.Event d ∷ []) ++ behind) tree →
      Lists (entries_of es ++ event d.place ∷ entries_of behind) tree
  at_event es behind d tree l =
      subst (λ z. Lists z tree)
      (ap (λ z. z ++ entries_of behind) (entries_append es (listed.Event d ∷ [])) ∙ append_assoc (entries_of es) (event d.place ∷ []) (entries_of behind))
      (as_entries (es ++ listed.Event d ∷ []) behind tree l)

  -- of the last event of the first part
  module _ (es behind : List Listed) (d : Due) (tree : Tree) (l : IsListingOf ((es ++ listed.Event d ∷ []) ++ behind) tree) (taken : Taken)
      (h : has (events_of taken (es ++ listed.Event d ∷ [])) d.place ≡ true) where
    last_due : has (events taken 0 tree) d.place ≡ true
    last_due =
        let stands = at_event es behind d tree l in
        ap (λ z. has z d.place) (sym (stands.all taken))
        ∙ further taken (entries_of es) (entries_of behind) d.place
        (ap (λ z. has (passed taken 0 z) d.place) (sym (entries_append es (listed.Event d ∷ []))) ∙ h)

    whole_event : events_of taken (es ++ listed.Event d ∷ []) ++ events_of taken behind ≡ events taken 0 tree
    whole_event =
        let stands = at_event es behind d tree l in
        ap (λ z. passed taken 0 z ++ events_of taken behind) (entries_append es (listed.Event d ∷ []))
        ∙ ap (λ z. z ++ events_of taken behind) (up_here tree (entries_of es) (entries_of behind) d.place stands taken last_due)
        ∙ append_assoc (passed taken 0 (entries_of es)) (d.place ∷ []) (events_of taken behind)
        ∙ sym (sides tree (entries_of es) (entries_of behind) d.place stands taken last_due)

  pub parts_at_event : PartsAtEvent
  parts_at_event before behind tree l taken (inl e) =
      subst (λ (z : List Listed). events_of taken z ++ events_of taken behind ≡ events_of taken (z ++ behind)) (sym e) refl
      ∙ lists_all (before ++ behind) tree l taken
  parts_at_event before behind tree l taken (inr (es, d, e, h)) =
      subst (λ (z : List Listed). IsListingOf (z ++ behind) tree → has (events_of taken z) d.place ≡ true →
      events_of taken z ++ events_of taken behind ≡ events taken 0 tree) (sym e) (λ k g. whole_event es behind d tree k taken g) l h

  alike_event : (es behind : List Listed) (d : Due) (tree : Tree) → IsListingOf ((es ++ listed.Event d ∷ []) ++ behind) tree → (taken other : Taken) →
      has (events_of taken (es ++ listed.Event d ∷ [])) d.place ≡ true → events other 0 tree ≡ events taken 0 tree →
      (events_of other (es ++ listed.Event d ∷ []) ≡ events_of taken (es ++ listed.Event d ∷ [])) × (events_of other behind ≡ events_of taken behind)
  alike_event es behind d tree l taken other h same =
      let xs = entries_of es in
      let ys = entries_of behind in
      let v = d.place in
      let stands = at_event es behind d tree l in
      let due = last_due es behind d tree l taken h in
      let due_too : has (events other 0 tree) v ≡ true = ap (λ z. has z v) same ∙ due in
      let s = sides_are tree xs ys v stands other (passed taken 0 xs) (passed taken 0 ys) (same ∙ sides tree xs ys v stands taken due) in (
        ap (passed other 0) (entries_append es (listed.Event d ∷ []))
            ∙ up_here tree xs ys v stands other due_too
            ∙ ap (λ z. z ++ v ∷ []) s.0
            ∙ sym (up_here tree xs ys v stands taken due)
            ∙ ap (passed taken 0) (sym (entries_append es (listed.Event d ∷ []))),
        s.1,
      )

  pub parts_alike : PartsAlike
  parts_alike before behind tree l taken other (inl e) same = (
    subst (λ (z : List Listed). events_of other z ≡ events_of taken z) (sym e) refl,
    (let k = subst (λ (z : List Listed). IsListingOf (z ++ behind) tree) e l in
        lists_all behind tree k other ∙ same ∙ sym (lists_all behind tree k taken)),
  )
  parts_alike before behind tree l taken other (inr (es, d, e, h)) same =
      subst (λ (z : List Listed). IsListingOf (z ++ behind) tree → has (events_of taken z) d.place ≡ true →
      (events_of other z ≡ events_of taken z) × (events_of other behind ≡ events_of taken behind)) (sym e)
      (λ k g. alike_event es behind d tree k taken other g same) l h

  -- up to an event behind the first part
  onto : (before between : List Listed) (d : Due) → entries_of (before ++ (between ++ listed.Event d ∷ [])) ≡
      (entries_of before ++ entries_of between) ++ event d.place ∷ []
  onto before between d =
      entries_append before (between ++ listed.Event d ∷ [])
      ∙ ap (λ z. entries_of before ++ z) (entries_append between (listed.Event d ∷ []))
      ∙ sym (append_assoc (entries_of before) (entries_of between) (event d.place ∷ []))

  across : (before between behind : List Listed) (d : Due) → entries_of (before ++ (between ++ listed.Event d ∷ behind)) ≡
      (entries_of before ++ entries_of between) ++ event d.place ∷ entries_of behind
  across before between behind d =
      entries_append before (between ++ listed.Event d ∷ behind)
      ∙ ap (λ z. entries_of before ++ z) (entries_append between (listed.Event d ∷ behind))
      ∙ sym (append_assoc (entries_of before) (entries_of between) (event d.place ∷ entries_of behind))

  pub parts_further : PartsFurther
  parts_further before between behind d tree l taken us next is =
      let xs : List Entry = entries_of before ++ entries_of between in
      let ys : List Entry = entries_of behind in
      let v = d.place in
      let stands : Lists (xs ++ event v ∷ ys) tree =
      subst (λ z. Lists z tree) (across before between behind d) (lists_tree law faithful (before ++ (between ++ listed.Event d ∷ behind)) tree l) in
      let s = sides_are tree xs ys v stands taken us next is in
      let up : events_of taken (before ++ (between ++ listed.Event d ∷ [])) ≡ us ++ v ∷ [] =
      ap (passed taken 0) (onto before between d)
      ∙ up_here tree xs ys v stands taken (ap (λ z. has z v) is ∙ has_at us next v)
      ∙ ap (λ z. z ++ v ∷ []) s.0 in (
        up,
        s.1,
        inr (
          before ++ between,
          d,
          sym (append_assoc before between (listed.Event d ∷ [])),
          ap (λ z. has z v) up ∙ has_at us [] v,
        ),
      )

-- ---- entries of what is listed
abbrev Entry_for : List Listed → Place → Type 0
Entry_for es u = (d : Due) × IsListed es d × (d.place ≡ u)

entry_behind : (e : Listed) (es : List Listed) (u : Place) → Entry_for es u → Entry_for (e ∷ es) u
entry_behind e es u r = (r.0, (suc r.1.0, r.1.1), r.2)

entry_here : (b : Bool) (d : Due) (es : List Listed) (u : Place) → same_place u d.place ≡ b → (has (places (entries_of es)) u ≡ true → Entry_for es u)
    → (b || has (places (entries_of es)) u) ≡ true → Entry_for (listed.Event d ∷ es) u
entry_here true d es u e f h = (d, (zero, refl), sym (same_place_eq u d.place e))
entry_here false d es u e f h = entry_behind (listed.Event d) es u (f h)

entry_for : (es : List Listed) (u : Place) → has (places (entries_of es)) u ≡ true → Entry_for es u
entry_for [] u h = absurd (true≢false (sym h))
entry_for (listed.Event d ∷ es) u h = entry_here (same_place u d.place) d es u refl (entry_for es u) h
entry_for (listed.Operand n i c ∷ es) u h = entry_behind (listed.Operand n i c) es u (entry_for es u h)

pub has_entries : ListsTerm → TermsAreFaithful → HasEntries
has_entries law faithful entries tree l taken u h =
    let stands = lists_tree law faithful entries tree l in
    entry_for entries u (passed_has taken 0 (entries_of entries) u (ap (λ us. has us u) (stands.all taken) ∙ h))
