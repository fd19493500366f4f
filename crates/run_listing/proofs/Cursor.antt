-- How the cursor stands as a run goes along.
use Rattle.std.proofs.Common.{◌≡◌, ℕ, zero, suc, ◌+◌, ◌-◌, ◌<◌, ◌≤◌, min, Bool, true, false, ◌||◌, List, [], ◌∷◌, ◌++◌, append_assoc, length, length-take, take}
use Rattle.std.proofs.Common.{drop, drop-drop, Option, Some, None, slice_get, is_none, refl, sym, ap, subst, ◌∙◌, inl, arith}
use Rattle.std.specs.Borrow.{Bor}
use Rattle.std.proofs.Math.Seq.{take-add}
use Rattle.std.proofs.lemmas.Option.{slice_get_within}
use Rattle.c_typed.specs.declared.tree.Place.{Place}
use Rattle.c_typed.specs.Order.{Taken, has}
use Rattle.c_typed.specs.Decide.{canonical, is_permitted}
use Rattle.c_model.specs.Program.{tree_of}
use Rattle.c_model.specs.World.{World}
use Rattle.c_model.specs.Steps.{Scene, Begun, taken_by, is_done, with_given}
use Rattle.c_model.specs.Runs.{chosen_pick}
use Rattle.elaborate.specs.Formed.{TermsAreFaithful}
use Rattle.listing_laws.specs.Along.{StandsAlong, first_of}
use Rattle.listing_laws.proofs.Agreeing.{lists_alike, permits_alike, takes_alike, decides_permitted}
use Rattle.listing_laws.proofs.Going.{takes_first, settles_at_end, goes_further, starts_along, ends_along, begins_along}
use Rattle.run_layout.specs.declared.steps.Due.{Due}
use Rattle.run_layout.specs.declared.steps.Listed.{Listed}
use Rattle.run_layout.specs.declared.steps.Listed.TheVariants as listed
use Rattle.run_listing.specs.Along.{part_of, events_of, Next}
use Rattle.run_layout.specs.OfTrees.{IsListingOf}
use Rattle.run_listing.specs.Straight.{EndAtEvent}
use Rattle.run_listing.specs.Cursor.{
  StandsStraight,
  placed,
  IsListed,
  NextIsCanonical,
  PassedIsDone,
  PermitsPicks,
  StandsAtBegin,
  StandsBehind,
  StandsAtStart,
  StandsAtEnd,
  TakesByDone,
  PermitsByDone,
}
use Rattle.run_listing.proofs.Straight.{ListsTerm, lists_all, parts_alike, parts_further}

-- ---- parts of a listing
pub two_parts : (xs : List Listed) (first cursor end : ℕ) → first ≤ cursor → cursor ≤ end →
    part_of xs first end ≡ part_of xs first cursor ++ part_of xs cursor end
two_parts xs first cursor end h g =
    let whole : end - first ≡ (cursor - first) + (end - cursor) = omega (arith, h, g) in
    let up : first + (cursor - first) ≡ cursor = omega (arith, h) in
    ap (λ n. take n (drop first xs)) whole
    ∙ take-add (cursor - first) (end - cursor) (drop first xs)
    ∙ ap (λ z. part_of xs first cursor ++ take (end - cursor) z) (drop-drop (cursor - first) first xs ∙ ap (λ n. drop n xs) up)

last_of : (xs ys : List Listed) (i : ℕ) (x : Listed) → length xs ≡ suc i → slice_get (xs ++ ys) i ≡ Some x → xs ≡ take i xs ++ x ∷ []
last_of [] ys i x h g = absurd (let z : 0 ≡ suc i = h in omega (arith, z))
last_of (a ∷ []) ys zero x h g = ap (λ z. z ∷ []) (let e : a ≡ x = cc in e)
last_of (a ∷ []) ys (suc i) x h g = absurd (omega (arith, h))
last_of (a ∷ (b ∷ xs)) ys zero x h g = absurd (omega (arith, h))
last_of (a ∷ (b ∷ xs)) ys (suc i) x h g = ap (λ z. a ∷ z) (last_of (b ∷ xs) ys i x (omega (arith, h)) g)

-- an event in the part from the cursor on
module _ (xs : List Listed) (first cursor end i : ℕ) (x : Listed) (low : first ≤ cursor) (high : cursor ≤ end)
    (at : slice_get (part_of xs cursor end) i ≡ Some x) where
  abbrev onward : ℕ
  onward = suc (cursor + i)

  abbrev between : List Listed
  between = take i (part_of xs cursor onward)

  so_far : i < length (part_of xs cursor end)
  so_far = slice_get_within (part_of xs cursor end) i x at

  counts : length (part_of xs cursor end) ≡ min (end - cursor) (length (drop cursor xs))
  counts = length-take (end - cursor) (drop cursor xs)

  pub inside : onward ≤ end
  inside = omega (arith, so_far, counts)

  beyond : cursor ≤ onward
  beyond = omega arith

  counts_up : length (part_of xs cursor onward) ≡ suc i
  counts_up = let n : length (part_of xs cursor onward) ≡ min (onward - cursor) (length (drop cursor xs)) = length-take (onward - cursor) (drop cursor xs) in
      omega (arith, n, so_far, counts)

  pub ends : part_of xs cursor onward ≡ between ++ x ∷ []
  ends = last_of (part_of xs cursor onward) (part_of xs onward end) i x counts_up
      (ap (λ z. slice_get z i) (sym (two_parts xs cursor onward end beyond inside)) ∙ at)

  pub up_to : part_of xs first onward ≡ part_of xs first cursor ++ (between ++ x ∷ [])
  up_to = two_parts xs first cursor onward low beyond ∙ ap (λ z. part_of xs first cursor ++ z) ends

  pub in_all : part_of xs first end ≡ part_of xs first cursor ++ (between ++ x ∷ part_of xs onward end)
  in_all =
      two_parts xs first cursor end low high
      ∙ ap (λ z. part_of xs first cursor ++ z)
      (two_parts xs cursor onward end beyond inside ∙ ap (λ z. z ++ part_of xs onward end) ends ∙ append_assoc between (x ∷ []) (part_of xs onward end))

first_next : (taken : Taken) (es : List Listed) (found : Option (ℕ × Bor Due)) → Next taken es found → first_of (events_of taken es) ≡ placed found
first_next taken es None next = ap first_of next
first_next taken es (Some f) next = ap first_of next.1

or_false : (b : Bool) → (b || false) ≡ b
or_false true = refl
or_false false = refl

module _ (law : ListsTerm) (faithful : TermsAreFaithful) where
  -- by the choices that the machine keeps the same is passed, and the same is ahead
  as_kept : (world : World) (f : Scene) (xs : List Listed) (first cursor end : ℕ) (e : Begun) (waiting : Option Place) (taken : Taken)
      → StandsStraight world f xs first cursor end e waiting → IsListed world f xs first end e taken
      → (events_of taken (part_of xs first cursor) ≡ events_of (taken_by world f e) (part_of xs first cursor)) ×
      (events_of taken (part_of xs cursor end) ≡ events_of (taken_by world f e) (part_of xs cursor end))
  as_kept world f xs first cursor end e waiting taken s l =
      parts_alike law faithful (part_of xs first cursor) (part_of xs cursor end) (tree_of e.root)
      (subst (λ z. IsListingOf z (tree_of e.root)) (two_parts xs first cursor end s.order.0 s.order.1) l.0)
      (taken_by world f e) taken s.behind (lists_alike (tree_of e.root) (taken_by world f e) taken l.1)

  pub next_is_canonical : NextIsCanonical
  next_is_canonical world f xs first cursor end e taken found s l next =
      let same : first_of (events_of (taken_by world f.scene e) (part_of xs cursor end)) ≡ placed found =
      ap first_of (sym (as_kept world f.scene xs first cursor end e None taken s l).1) ∙ first_next taken (part_of xs cursor end) found next in (
        takes_first world f e _ _ s.along ∙ ap (chosen_pick world) same,
        settles_at_end world f e _ _ s.along ∙ ap is_none same,
      )

  pub passed_is_done : PassedIsDone
  passed_is_done world f xs first cursor end e taken u s l =
      ap (λ us. has us u) (as_kept world f xs first cursor end e None taken s l).0 ∙ s.along.done u ∙ or_false (is_done e u)

  pub permits_picks : PermitsPicks
  permits_picks world f xs first cursor end e taken u s l =
      let T = taken_by world f.scene e in
      let tree = tree_of e.root in
      let done : has (events_of taken (part_of xs first cursor)) ≡ is_done e =
      (λ i w. passed_is_done world f.scene xs first cursor end e taken w s l i) in
      let same : is_permitted tree taken (has (events_of taken (part_of xs first cursor))) u ≡ is_permitted tree T (is_done e) u =
      ap (λ d. is_permitted tree taken d u) done ∙ permits_alike tree T taken (is_done e) u l.1 in
      let d = decides_permitted tree T (is_done e) u in
      (λ h. d.0 (sym same ∙ h), λ h. same ∙ d.1 h)

  pub stands_at_begin : StandsAtBegin
  stands_at_begin world f xs first end e h l none =
      let T = taken_by world f e in
      let empty : part_of xs first first ≡ [] = ap (λ n. take n (drop first xs)) (let z : first - first ≡ 0 = omega arith in z) in
      record {
        order = (omega arith, h);
        behind = inl empty;
        along = subst (λ us. StandsAlong world f e None us (events_of T (part_of xs first end))) (sym (ap (events_of T) empty))
            (subst (λ us. StandsAlong world f e None [] us) (sym (lists_all law faithful (part_of xs first end) (tree_of e.root) l T))
            (begins_along world f e none));
      }

  -- what comes first, by the definitions' choices
  ahead_is : (world : World) (f : Scene) (xs : List Listed) (first cursor end : ℕ) (e : Begun) (taken : Taken) (next : ℕ × Bor Due)
      → StandsStraight world f xs first cursor end e None → IsListed world f xs first end e taken → Next taken (part_of xs cursor end) (Some next)
      → events_of (taken_by world f e) (part_of xs cursor end) ≡ next.1.now.place ∷ events_of taken (drop (suc next.0) (part_of xs cursor end))
  ahead_is world f xs first cursor end e taken next s l n = sym (as_kept world f xs first cursor end e None taken s l).1 ∙ n.1

  -- behind the next event, with what is passed and ahead then
  behind_next : (world : World) (f : Scene) (xs : List Listed) (first cursor end i : ℕ) (d : Due) (e later : Begun) (waiting : Option Place)
      → first ≤ cursor → cursor ≤ end → slice_get (part_of xs cursor end) i ≡ Some (listed.Event d)
      → IsListingOf (part_of xs first end) (tree_of later.root)
      → (passed next : List Place) → StandsAlong world f later waiting (passed ++ d.place ∷ []) next
      → StandsStraight world f xs first (suc (cursor + i)) end later waiting
  behind_next world f xs first cursor end i d e later waiting low high at l passed next a =
      let T = taken_by world f later in
      let x = listed.Event d in
      let b = between xs first cursor end i x low high at in
      let r = parts_further law faithful (part_of xs first cursor) b (part_of xs (suc (cursor + i)) end) d (tree_of later.root)
      (subst (λ z. IsListingOf z (tree_of later.root)) (in_all xs first cursor end i x low high at) l)
      T passed next (sym a.listed ∙ append_assoc passed (d.place ∷ []) next) in
      let up = up_to xs first cursor end i x low high at in
      record {
        order = (omega (arith, low), inside xs first cursor end i x low high at);
        behind = subst (EndAtEvent T) (sym up) r.2;
        along = subst (λ us. StandsAlong world f later waiting us (events_of T (part_of xs (suc (cursor + i)) end))) (sym (ap (events_of T) up ∙ r.0))
            (subst (λ us. StandsAlong world f later waiting (passed ++ d.place ∷ []) us) (sym r.1) a);
      }

  pub stands_behind : StandsBehind
  stands_behind world f xs first cursor end e taken next v s l n =
      let T = taken_by world f e in
      let u = next.1.now.place in
      let passed = events_of T (part_of xs first cursor) in
      let a = subst (λ us. StandsAlong world f e None passed us) (ahead_is world f xs first cursor end e taken next s l n) s.along in
      let g = goes_further world f e passed (events_of taken (drop (suc next.0) (part_of xs cursor end))) u v a in
      behind_next world f xs first cursor end next.0 next.1.now e (with_given e u v) None s.order.0 s.order.1 n.0 l.0 passed g.0 g.1

  pub stands_at_start : StandsAtStart
  stands_at_start world f xs first cursor end e taken next s l n =
      let T = taken_by world f e in
      let u = next.1.now.place in
      let passed = events_of T (part_of xs first cursor) in
      let ahead = events_of taken (drop (suc next.0) (part_of xs cursor end)) in
      let a = subst (λ us. StandsAlong world f e None passed us) (ahead_is world f xs first cursor end e taken next s l n) s.along in
      behind_next world f xs first cursor end next.0 next.1.now e e (Some u) s.order.0 s.order.1 n.0 l.0 passed ahead
      (starts_along world f e passed ahead u a)

  pub stands_at_end : StandsAtEnd
  stands_at_end world f xs first cursor end e u v body s =
      let r = ends_along world f e _ _ u v body s.along in
      let later = with_given e u v in
      record {
        order = s.order;
        behind = subst (λ t. EndAtEvent t (part_of xs first cursor)) (sym r.1) s.behind;
        along = subst (λ t. StandsAlong world f later None (events_of t (part_of xs first cursor)) (events_of t (part_of xs cursor end))) (sym r.1) r.0;
      }

-- ---- off the straight way
pub takes_by_done : TakesByDone
takes_by_done world f e taken done agree h =
    let same : done ≡ is_done e = (λ i u. h u i) in
    sym (ap (λ d. chosen_pick world (canonical (tree_of e.root) taken d)) same
    ∙ ap (chosen_pick world) (takes_alike (tree_of e.root) (taken_by world f.scene e) taken (is_done e) agree))

pub permits_by_done : PermitsByDone
permits_by_done world f e taken done u agree h =
    let same : done ≡ is_done e = (λ i v. h v i) in
    let by : is_permitted (tree_of e.root) taken done u ≡ is_permitted (tree_of e.root) (taken_by world f.scene e) (is_done e) u =
    ap (λ d. is_permitted (tree_of e.root) taken d u) same ∙ permits_alike (tree_of e.root) (taken_by world f.scene e) taken (is_done e) u agree in
    let d = decides_permitted (tree_of e.root) (taken_by world f.scene e) (is_done e) u in
    (λ g. d.0 (sym by ∙ g), λ g. by ∙ d.1 g)
