-- Each evaluation below a node that doesn't come before its value stays listed, as the log goes on.
use Rattle.std.proofs.Common.{◌≡◌, ◌⊎◌, inl, inr, ⊎_elim, ℕ, zero, suc, ◌≤◌, ◌<◌, ◌+◌, ◌-◌, ◌^◌, min, ◌==◌, Bool, true, false, List, [], ◌∷◌, ◌++◌, length}
use Rattle.std.proofs.Common.{take, refl}
use Rattle.std.proofs.Common.{sym, ap, ◌∙◌, arith, Option, Some, None, subst, if◌then◌else◌}
use Rattle.std.specs.Prelude.{slice_get, is_some}
use Rattle.std.proofs.lemmas.Bool.Decides.{nat_tests}
use Rattle.std.proofs.lemmas.List.{length_push}
use Rattle.std.proofs.lemmas.Option.{slice_get_cases, slice_get_past, slice_get_within, same_Some}
use Rattle.ub_base.specs.declared.clause.Kind.TheVariants.{Val, Eff, Body}
use Rattle.ub_base.specs.declared.names.Item.{Item}
use Rattle.addr_map.specs.declared.map.Row.{Row}
use Rattle.c_typed.specs.declared.tree.Place.{Place}
use Rattle.c_typed.specs.declared.class.Class.{Class}
use Rattle.c_typed.specs.declared.class.Class.TheVariants as class
use Rattle.c_typed.specs.Tree.{Tree, Trees, node, none, size, is_quiet}
use Rattle.ub_base.proofs.Tests.{or_cases}
use Rattle.c_typed.specs.Order.{Taken, place, goes, is_number}
use Rattle.c_typed.specs.Decide.{to_val, due_in, is_before, lifts}
use Rattle.evaluation_log.specs.declared.log.Logged.{Logged}
use Rattle.evaluation_log.specs.declared.log.Segment.{Segment}
use Rattle.evaluation_log.specs.declared.level.Level.{Level}
use Rattle.evaluation_log.specs.declared.rules.Rule.{Rule}
use Rattle.evaluation_log.specs.declared.rules.Rule.TheVariants as rules
use Rattle.evaluation_log.specs.declared.sought.Sought.TheVariants.{Any}
use Rattle.evaluation_log.specs.Touched.{event_has, start_of}
use Rattle.evaluation_log.specs.Clashes.{NoClash, AreSorted}
use Rattle.evaluation_log.specs.Kept.{Cut, cut_of, AllBelow, base_of, first_segment}
use Rattle.evaluation_log.specs.Loose.{loose_of, loose_has, loose_from, event_of, NoLoose, Thins, first_loose}
use Rattle.evaluation_log.specs.Sides.{Side, sides_from}
use Rattle.evaluation_log.specs.Ways.{node_of}
use Rattle.evaluation_log.proofs.KeptLemmas.{before_or_past}
use Rattle.evaluation_log.proofs.WholeLemmas.{get_left, get_seam, starts_past, not_none}
use Rattle.run_evaluations.specs.Scopes.{Scope, IsBelow, ComesTo, IsRuled, IsOperandOf, part_of, place_of, last_number}
use Rattle.run_evaluations.specs.Listed.{IsOpenIn, IsListed, AllListed, AnyEvent, NotLastEffect, AreOperands, is_node, stays_from, Stays}
use Rattle.run_evaluations.proofs.PartLemmas.{own_comes, before_own, below_up, comes_up, lift_up, side_at, side_part, side_due, is_last_at, last_at, last_high}
use Rattle.run_evaluations.proofs.PartLemmas.{first_at, first_number}

below_or_at : (k n : ℕ) → k < suc n → (k < n) ⊎ (k ≡ n)
below_or_at k n less = grind arith

pub node_within : (ss : List Segment) (g m : ℕ) → node_of (slice_get ss g) ≡ Some m → g < length ss
node_within ss g m h =
    ⊎_elim (λ less. less) (λ past. not_none (node_of (slice_get ss g)) m _ (ap node_of (slice_get_past ss g past)) h) (before_or_past g (length ss))

pub node_there : (ss : List Segment) (g : ℕ) → g < length ss → (m : ℕ) × (node_of (slice_get ss g) ≡ Some m)
node_there ss g less =
    ⊎_elim (λ one. (_, ap node_of one.2)) (λ past. absurd (let e = past.0 in omega (arith, e, less))) (slice_get_cases ss g).1

place_within : (es : List Logged) (k : ℕ) (u : Place) → place_of (slice_get es k) ≡ Some u → k < length es
place_within es k u h =
    ⊎_elim (λ less. less) (λ past. not_none (place_of (slice_get es k)) u _ (ap place_of (slice_get_past es k past)) h) (before_or_past k (length es))

-- ---- which frame a segment is of
pub level_within : (ls : List Level) (d : ℕ) (c : Cut) → cut_of (slice_get ls d) ≡ Some c → d < length ls
level_within ls d c h =
    ⊎_elim (λ less. less) (λ past. not_none (cut_of (slice_get ls d)) c _ (ap cut_of (slice_get_past ls d past)) h) (before_or_past d (length ls))

pub top_cut : (o : Option Level) (c : Cut) → cut_of o ≡ Some c → first_segment o ≡ c.segments
top_cut None c h = absurd (cc)
top_cut (Some l) c h = ap (λ (x : Cut). x.segments) (same_Some _ c h)

pub cut_there : (o : Option Level) (l : Level) → o ≡ Some l → (c : Cut) × (cut_of o ≡ Some c)
cut_there None l h = absurd (cc)
cut_there (Some x) l h = (_, refl)

-- a segment behind the base of the top frame is of that frame
pub top_only : (ls : List Level) (d g : ℕ) → base_of ls ≤ g → IsOpenIn ls d g → d ≡ length ls - 1
top_only ls d g base opens =
    let w = level_within ls d opens.cut opens.there in
    ⊎_elim
    (λ less.
    ⊎_elim
    (λ one. let c = cut_there (slice_get ls (length ls - 1)) one.0 one.2 in
    absurd (let h = opens.high (length ls - 1) c.0 less c.1 in let e = top_cut (slice_get ls (length ls - 1)) c.0 c.1 in omega (arith, h, e, base)))
    (λ past. absurd (let e = past.0 in omega (arith, e, w)))
    (slice_get_cases ls (length ls - 1)).1)
    (λ past. omega (arith, past, w))
    (before_or_past d (length ls - 1))

open_up : (ls : List Level) (d at g : ℕ) → AllBelow ls at → at ≤ g → IsOpenIn ls d at → IsOpenIn ls d g
open_up ls d at g below le opens =
    let l = opens.low in
    record {
      cut = opens.cut;
      there = opens.there;
      low = omega (arith, l, le);
      high = λ n c more h. absurd (let a = opens.high n c more h in let b = below n c h in omega (arith, a, b));
    }

-- ---- the segment of an event
pub locate : (ss : List Segment) (es : List Logged) (n at k : ℕ) → start_of ss es at ≤ k → k < start_of ss es (at + n) →
    (g : ℕ) × (at ≤ g) × (g < at + n) × (start_of ss es g ≤ k) × (k < start_of ss es (suc g))
locate ss es zero at k from to = absurd (let e = ap (start_of ss es) (none_more at) in omega (arith, e, from, to))
  where
    none_more : (a : ℕ) → a + 0 ≡ a
    none_more a = omega arith
locate ss es (suc n) at k from to =
    ⊎_elim
    (λ less. let r = locate ss es n at k from less in let w = r.2 in (r.0, r.1, omega (arith, w), r.3, r.4))
    (λ past. (at + n, omega arith, omega arith, past, next past))
    (before_or_past k (start_of ss es (at + n)))
  where
    next : start_of ss es (at + n) ≤ k → k < start_of ss es (suc (at + n))
    next past = let e = ap (start_of ss es) (same at n) in omega (arith, e, to)
      where
        same : (a b : ℕ) → a + suc b ≡ suc (a + b)
        same a b = omega arith

module _ (segments : List Segment) (events : List Logged) (loose : List ℕ) (levels : List Level) (scopes : ℕ → Scope) where
  -- ---- nothing has changed but sets and bodies
  pub all_by : (ts : List Segment) (fs : List Logged) (ls : List ℕ) (ms : List Level) (asked : ℕ → Place → Type 0) →
      AllListed segments events loose levels scopes asked → ls ≡ loose →
      ((g m : ℕ) → node_of (slice_get ts g) ≡ Some m → node_of (slice_get segments g) ≡ Some m) →
      ((g : ℕ) → start_of ts fs g ≡ start_of segments events g) → ((g : ℕ) → loose_of ts loose g ≡ loose_of segments loose g) →
      ((k : ℕ) (u : Place) → place_of (slice_get fs k) ≡ Some u → place_of (slice_get events k) ≡ Some u) →
      ((d g m : ℕ) → node_of (slice_get ts g) ≡ Some m → IsOpenIn ms d g → IsOpenIn levels d g) → AllListed ts fs ls ms scopes asked
  all_by ts fs ls ms asked all same nodes starts lows places frames =
      subst (λ (xs : List ℕ). AllListed ts fs xs ms scopes asked) (sym same)
      (λ d g k m u opens at from to there.
      let a = starts g in
      let b = starts (suc g) in
      let r = all d g k m u (frames d g m at opens) (nodes g m at) (omega (arith, a, from)) (omega (arith, b, to)) (places k u there) in (
        r.0,
        λ ask. ⊎_elim inl
            (λ l. let p = lows g in let q = lows (suc g) in let x = l.1 in let y = l.2 in inr (l.0, omega (arith, p, x), omega (arith, q, y), l.3))
            (r.1 ask),
      ))

  -- ---- an event that is logged
  pub all_logged : (ts : List Segment) (last n : ℕ) (e : Logged) → AllListed segments events loose levels scopes AnyEvent → AreSorted segments events 0 →
      length ts ≡ suc last → last ≤ length segments → length segments ≤ suc last →
      ((g : ℕ) → g ≤ last → start_of ts (events ++ (e ∷ [])) g ≡ start_of segments events g) →
      ((g : ℕ) → g ≤ last → loose_of ts loose g ≡ loose_of segments loose g) →
      ((g m : ℕ) → node_of (slice_get ts g) ≡ Some m → g < length segments → node_of (slice_get segments g) ≡ Some m) →
      node_of (slice_get ts last) ≡ Some n → e.node ≡ n → ((d : ℕ) → IsOpenIn levels d last → IsBelow (scopes d) n (place e.node e.kind)) →
      AllListed ts (events ++ (e ∷ [])) loose levels scopes (NotLastEffect (events ++ (e ∷ [])))
  all_logged ts last n e all sorted count low high starts lows nodes own same new d g k m u opens at from to there =
      let w = node_within ts g m at in
      let size = length_push events e in
      let a = starts g (omega (arith, w, count)) in
      let lg = lows g (omega (arith, w, count)) in
      let top = (sorted (suc g) (omega arith)).1 in
      let old : k < length events → g < length segments → k < start_of segments events (suc g) → loose_of ts loose (suc g) ≡ loose_of segments loose (suc g) →
      IsBelow (scopes d) m u × (NotLastEffect (events ++ (e ∷ [])) k u → ComesTo (scopes d) m u ⊎ IsListed ts loose g k) =
      λ less there_is under lh.
      let r = all d g k m u opens (nodes g m at there_is) (omega (arith, a, from)) under (sym (ap place_of (get_left events (e ∷ []) k less)) ∙ there) in
      (r.0, λ ask. ⊎_elim inl (λ l. let x = l.1 in let y = l.2 in inr (l.0, omega (arith, lg, x), omega (arith, lh, y), l.3)) (r.1 tt)) in
      ⊎_elim
      (λ before.
      let b = starts (suc g) before in
      let under : k < start_of segments events (suc g) = omega (arith, b, to) in
      old (omega (arith, under, top)) (omega (arith, before, low)) under (lows (suc g) before))
      (λ past.
      let g_is : g ≡ last = omega (arith, past, w, count) in
      let end = starts_past ts (events ++ (e ∷ [])) (suc g) (omega (arith, count, past)) in
      ⊎_elim
      (λ less.
      let there_is : g < length segments =
      ⊎_elim (λ y. y) (λ none_there. absurd (let z = starts_past segments events g none_there in omega (arith, z, a, from, less)))
      (before_or_past g (length segments)) in
      let z = starts_past segments events (suc g) (omega (arith, g_is, high)) in
      old less there_is (omega (arith, z, less))
      (ap (first_loose loose) (slice_get_past ts (suc g) (omega (arith, count, past)))
      ∙ sym (ap (first_loose loose) (slice_get_past segments (suc g) (omega (arith, g_is, high))))))
      (λ new_one.
      let k_is : k ≡ length events = omega (arith, new_one, end, to, size) in
      let u_is : place e.node e.kind ≡ u =
      same_Some (place e.node e.kind) u (sym (ap place_of (ap (slice_get (events ++ (e ∷ []))) k_is ∙ get_seam events e)) ∙ there) in
      let m_is : n ≡ m = same_Some n m (sym own ∙ sym (ap (λ x. node_of (slice_get ts x)) g_is) ∙ at) in
      let b = subst (λ x. IsBelow (scopes d) x u) m_is (subst (λ (x : Place). IsBelow (scopes d) n x) u_is
      (new d (subst (λ x. IsOpenIn levels d x) g_is opens))) in
      (b, λ ask. inl (own_comes (scopes d) m u (sym (ap (λ (x : Place). x.node) u_is) ∙ same ∙ m_is) (ask (omega (arith, k_is, size))))))
      (before_or_past k (length events)))
      (before_or_past g last)

  -- ---- an event that is listed
  pub all_listed : (ts : List Segment) (last : ℕ) → AllListed segments events loose levels scopes (NotLastEffect events) → AreSorted segments events 0 →
      start_of segments events last < start_of segments events (suc last) → length segments ≡ suc last →
      ((g : ℕ) → loose_of segments loose g ≤ length loose) →
      ((g m : ℕ) → node_of (slice_get ts g) ≡ Some m → node_of (slice_get segments g) ≡ Some m) →
      ((g : ℕ) → start_of ts events g ≡ start_of segments events g) →
      ((g : ℕ) → g ≤ last → loose_of ts (loose ++ ((length events - 1) ∷ [])) g ≡ loose_of segments loose g) → length ts ≡ suc last →
      AllListed ts events (loose ++ ((length events - 1) ∷ [])) levels scopes AnyEvent
  all_listed ts last all sorted filled n tops nodes starts lows count d g k m u opens at from to there =
      let ms = loose ++ ((length events - 1) ∷ []) in
      let size = length_push loose (length events - 1) in
      let w = node_within ts g m at in
      let a = starts g in
      let b = starts (suc g) in
      let lg = lows g (omega (arith, w, count)) in
      let v = place_within events k u there in
      let end = starts_past segments events (suc last) (omega (arith, n)) in
      let r = all d g k m u opens (nodes g m at) (omega (arith, a, from)) (omega (arith, b, to)) there in
      let t = tops (suc g) in
      let after : (i : ℕ) → i < loose_of segments loose (suc g) → i < loose_of ts ms (suc g) =
      λ i less. ⊎_elim (λ before. let q = lows (suc g) before in omega (arith, q, less))
      (λ past. let q = ap (first_loose ms) (slice_get_past ts (suc g) (omega (arith, count, past))) in omega (arith, q, size, t, less))
      (before_or_past g last) in (
        r.0,
        λ ask. ⊎_elim
            (λ earlier. ⊎_elim inl
            (λ l. let x = l.1 in let y = l.2 in inr (
              l.0,
              omega (arith, lg, x),
              after l.0 y,
              get_left loose ((length events - 1) ∷ []) l.0 (omega (arith, y, t)) ∙ l.3,
            ))
            (r.1 (λ e. absurd (omega (arith, e, earlier)))))
            (λ newest.
            let k_is : length events - 1 ≡ k = omega (arith, newest, v) in
            let g_is : g ≡ last =
            ⊎_elim (λ before. absurd (let s = rises (suc g) last before in omega (arith, s, filled, end, b, to, newest)))
            (λ past. omega (arith, past, w, count))
            (before_or_past g last) in
            let q = ap (first_loose ms) (slice_get_past ts (suc g) (omega (arith, count, g_is))) in
            let z = tops g in
            inr (length loose, omega (arith, lg, z), omega (arith, q, size), get_seam loose (length events - 1) ∙ ap Some k_is))
            (before_or_past k (length events - 1)),
      )
    where
      rises : (g h : ℕ) → g ≤ h → start_of segments events g ≤ start_of segments events h
      rises g h le = go (h - g) g h (omega (arith, le))
        where
          the_sum : (g h : ℕ) → h ≡ g + 0 → g ≡ h
          the_sum g h e = omega (arith, e)

          go : (n g h : ℕ) → h ≡ g + n → start_of segments events g ≤ start_of segments events h
          go zero g h e = let q = ap (start_of segments events) (the_sum g h e) in omega (arith, q)
          go (suc n) g h e = let r = go n (suc g) h (omega (arith, e)) in let s = (sorted g (omega arith)).0 in omega (arith, r, s)

  -- ---- segments that are made one
  pub all_joined : (ds : List Segment) (after : List ℕ) (at n stays : ℕ) (asked : ℕ → Place → Type 0) → AllListed segments events loose levels scopes asked →
      at < length segments → length ds ≡ suc at → ((g : ℕ) → g ≤ at → start_of ds events g ≡ start_of segments events g) →
      ((g : ℕ) → g ≤ at → loose_of ds after g ≡ loose_of segments loose g) →
      ((g : ℕ) → g < at → node_of (slice_get ds g) ≡ node_of (slice_get segments g)) → node_of (slice_get ds at) ≡ Some n →
      Thins (loose_of segments loose at) loose after → ((g h : ℕ) → g ≤ h → loose_of segments loose g ≤ loose_of segments loose h) →
      Stays stays (loose_of segments loose at) loose after → AllBelow levels at →
      ((d g m : ℕ) (u : Place) → IsOpenIn levels d at → at ≤ g → node_of (slice_get segments g) ≡ Some m → IsBelow (scopes d) m u →
      IsBelow (scopes d) n u × (ComesTo (scopes d) m u → ComesTo (scopes d) n u) ×
      ((i : ℕ) → loose_of segments loose g ≤ i → i < loose_of segments loose (suc g) → i < stays → ComesTo (scopes d) n u)) →
      AllListed ds events after levels scopes asked
  all_joined ds after at n stays asked all within count starts lows nodes own thin rise left below up d g k m u opens there from to event =
      let w = node_within ds g m there in
      let a = starts g (omega (arith, w, count)) in
      let lg = lows g (omega (arith, w, count)) in
      ⊎_elim
      (λ less.
      let b = starts (suc g) less in
      let lh = lows (suc g) less in
      let r = all d g k m u opens (sym (nodes g less) ∙ there) (omega (arith, a, from)) (omega (arith, b, to)) event in
      let h = rise (suc g) at less in (
        r.0,
        λ ask. ⊎_elim inl
            (λ l. let x = l.1 in let y = l.2 in
            inr (l.0, omega (arith, lg, x), omega (arith, lh, y), thin.before l.0 (omega (arith, y, h)) ∙ l.3))
            (r.1 ask),
      ))
      (λ past.
      let g_is : g ≡ at = omega (arith, past, w, count) in
      let m_is : n ≡ m = same_Some n m (sym own ∙ sym (ap (λ x. node_of (slice_get ds x)) g_is) ∙ there) in
      let v = place_within events k u event in
      let begin : start_of segments events at ≤ k = (let e = ap (start_of segments events) g_is in omega (arith, a, from, e)) in
      let count_is : at + (length segments - at) ≡ length segments = omega (arith, within) in
      let end = ap (start_of segments events) count_is ∙ starts_past segments events (length segments) (omega arith) in
      let p = locate segments events (length segments - at) at k begin (omega (arith, end, v)) in
      let here = p.2 in
      let q = node_there segments p.0 (omega (arith, here, count_is)) in
      let top = subst (λ x. IsOpenIn levels d x) g_is opens in
      let r = all d p.0 k q.0 u (open_up levels d at p.0 below p.1 top) q.1 p.3 p.4 event in
      let s = up d p.0 q.0 u top p.1 q.1 r.0 in (
        subst (λ x. IsBelow (scopes d) x u) m_is s.0,
        λ ask. ⊎_elim
            (λ comes. inl (subst (λ x. ComesTo (scopes d) x u) m_is (s.1 comes)))
            (λ l. ⊎_elim
            (λ gone. inl (subst (λ x. ComesTo (scopes d) x u) m_is (s.2 l.0 l.1 l.2 gone)))
            (λ stays_there. let y = rise at p.0 p.1 in let x = l.1 in let f = left l.0 k (omega (arith, x, y)) stays_there l.3 in
            let low = f.1 in
            let e = lows at (omega arith) in
            let z = ap (λ x. loose_of ds after x) g_is in
            let fin = ap (first_loose after) (slice_get_past ds (suc g) (omega (arith, count, g_is))) in
            let in_it = slice_get_within after f.0 k f.2 in
            inr (f.0, omega (arith, low, e, z), omega (arith, fin, in_it), f.2))
            (before_or_past l.0 stays))
            (r.1 ask),
      ))
      (before_or_past g at)

  -- ---- a node that is complete
  pub listed_apart : (n : ℕ) → AllListed segments events loose levels scopes (NotLastEffect events) →
      IsOpenIn levels (length levels - 1) (length segments - 1) → node_of (slice_get segments (length segments - 1)) ≡ Some n →
      ((u : Place) → place_of (slice_get events (length events - 1)) ≡ Some u → u.node ≡ n) →
      ((ts : Trees) → part_of (scopes (length levels - 1)) n ≡ Some (node class.Isolated ts) → ts ≡ none) →
      (k i : ℕ) (e d : Logged) (u v : Place) → start_of segments events (length segments - 1) ≤ k → slice_get events k ≡ Some e →
      place_of (Some e) ≡ Some v → e.node ≡ n → start_of segments events (length segments - 1) ≤ i → slice_get events i ≡ Some d →
      place_of (Some d) ≡ Some u → n < d.node → is_before (scopes (length levels - 1)).taken 0 (scopes (length levels - 1)).tree u v ≡ false →
      IsListed segments loose (length segments - 1) i
  listed_apart n all opens at last alone k i e d u v from_e here v_is own from_i there u_is behind not_before =
      let s = scopes (length levels - 1) in
      let w = node_within segments (length segments - 1) n at in
      let end = starts_past segments events (suc (length segments - 1)) (omega (arith, w)) in
      let y = slice_get_within events i d there in
      let x = slice_get_within events k e here in
      let node_is : u.node ≡ d.node = sym (ap (λ (q : Place). q.node) (same_Some _ u u_is)) in
      let own_is : v.node ≡ n = sym (ap (λ (q : Place). q.node) (same_Some _ v v_is)) ∙ own in
      let r = all (length levels - 1) (length segments - 1) i n u opens at from_i (omega (arith, end, y)) (ap place_of there ∙ u_is) in
      let t = all (length levels - 1) (length segments - 1) k n v opens at from_e (omega (arith, end, x)) (ap place_of here ∙ v_is) in
      ⊎_elim
      (λ comes. absurd (let b = before_own s n u v r.0 t.0 (omega (arith, behind, node_is)) own_is alone comes in
      let z : false ≡ true = sym not_before ∙ b in cc))
      (λ l. l)
      (r.1 (λ one. absurd (let z = last u (ap (λ q. place_of (slice_get events q)) (omega (arith, one)) ∙ ap place_of there ∙ u_is) in
      omega (arith, z, node_is, behind))))

-- ---- what a rule takes from the list
number_same : (x y : ℕ) → (x == y) ≡ true → x ≡ y
number_same x y h = grind (arith, nat_tests)

one_number : (o : Option ℕ) (i j : ℕ) → is_number o i ≡ true → is_number o j ≡ true → i ≡ j
one_number None i j p q = absurd (cc)
one_number (Some x) i j p q = sym (number_same x i p) ∙ number_same x j q

pub goes_parts : (o : Option ℕ) (i : ℕ) → goes class.Choice o i ≡ true → (i ≡ 0) ⊎ (is_number o i ≡ true)
goes_parts o i p = ⊎_elim (λ e. inl (number_same i 0 e)) inr (or_cases (i == 0) (is_number o i) p)

-- of a choice, what the last operand doesn't hold is in the first
pub goes_first : (o : Option ℕ) (i j : ℕ) → goes class.Choice o i ≡ true → goes class.Choice o j ≡ true → (j ≡ 0 → ⊥) → (i ≡ j → ⊥) → i ≡ 0
goes_first o i j p q far apart =
    ⊎_elim (λ z. z)
    (λ a. ⊎_elim (λ z. absurd (far z)) (λ b. absurd (apart (one_number o i j a b))) (goes_parts o j q))
    (goes_parts o i p)

module _ (s : Scope) (n : ℕ) (c : Class) (ts : Trees) (rule : Rule) (chosen : Bool) (ruled : IsRuled s n c ts rule chosen) (small : n + 1 < 2 ^ 32)
    (segments : List Segment) (loose : List ℕ) (levels : List Level) (operands : AreOperands segments levels s n c ts) (at : ℕ)
    (base : base_of levels ≤ at) (within : at < length segments)
    (behind : (g m : ℕ) → at ≤ g → node_of (slice_get segments g) ≡ Some m → n < m)
    (rise : (g h : ℕ) → g ≤ h → loose_of segments loose g ≤ loose_of segments loose h) where
  module _ (g m : ℕ) (u : Place) (le : at ≤ g) (there : node_of (slice_get segments g) ≡ Some m) (below : IsBelow s m u) where
    one : (i : ℕ) × IsOperandOf s n c ts i m
    one = operands.operand g m (omega (arith, base, le)) there (behind g m le there)

    at_side : IsBelow s one.1.side.number u
    at_side = subst (λ x. IsBelow s x u) (sym one.1.number) below

    pub rule_below : IsBelow s n u
    rule_below = below_up s n c ts ruled.there one.0 one.1.side one.1.there one.1.goes u at_side

    pub rule_comes : ComesTo s m u → ComesTo s n u
    rule_comes comes =
        comes_up s n c ts ruled.there one.0 one.1.side one.1.there one.1.goes u at_side one.1.loud (subst (λ x. ComesTo s x u) (sym one.1.number) comes)

    lifted : lifts c (s.taken n) one.0 (is_last_at ts one.0) Val ≡ true → ComesTo s n u
    lifted up = lift_up s n c ts ruled.there one.0 one.1.side one.1.there one.1.goes u at_side up

    call_lifted : c ≡ class.Call → ComesTo s n u
    call_lifted is = lifted (ap (λ z. lifts z (s.taken n) one.0 (is_last_at ts one.0) Val) is)

    alone_comes : one.1.side.tree ≡ node class.Isolated none → ComesTo s n u
    alone_comes is = rule_comes (subst (λ x. ComesTo s x u) one.1.number (own_comes s one.1.side.number u here kind))
      where
        due : due_in s.taken one.1.side.number one.1.side.tree u ≡ true
        due = side_due s n c ts ruled.there one.0 one.1.side one.1.there one.1.goes u at_side

        here : u.node ≡ one.1.side.number
        here = go (u.node == one.1.side.number) refl (ap (λ z. due_in s.taken one.1.side.number z u) (sym is) ∙ due)
          where
            go : (b : Bool) → (u.node == one.1.side.number) ≡ b → due_in s.taken one.1.side.number (node class.Isolated none) u ≡ true →
                u.node ≡ one.1.side.number
            go true e h = grind (arith, nat_tests)
            go false e h = absurd (cc)

        kind : u.kind ≡ Eff → ⊥
        kind e = no (u.node == one.1.side.number) refl (ap (λ z. due_in s.taken one.1.side.number z u) (sym is) ∙ due)
          where
            no : (b : Bool) → (u.node == one.1.side.number) ≡ b → due_in s.taken one.1.side.number (node class.Isolated none) u ≡ true → ⊥
            no true q h = absurd (cc)
            no false q h = absurd (cc)

    abbrev last : ℕ
    last = length segments - 1

    first_lifted : c ≡ class.Choice → is_some (s.taken n) ≡ true → one.0 ≡ 0 → ComesTo s n u
    first_lifted is some zeroth =
        lifted (ap (λ z. lifts z (s.taken n) one.0 (is_last_at ts one.0) Val) is
        ∙ (ap (λ z. lifts class.Choice (s.taken n) z (is_last_at ts one.0) Val) zeroth ∙ up (s.taken n) (is_last_at ts one.0) some))
      where
        up : (o : Option ℕ) (b : Bool) → is_some o ≡ true → lifts class.Choice o 0 b Val ≡ true
        up None b h = absurd (cc)
        up (Some x) b h = refl

    -- the last segment's node, which is an operand too
    last_within : last < length segments
    last_within = omega (arith, within)

    end : (m : ℕ) × (node_of (slice_get segments last) ≡ Some m)
    end = node_there segments last last_within

    abbrev final : ℕ
    final = end.0

    final_there : node_of (slice_get segments last) ≡ Some final
    final_there = end.1

    low_last : at ≤ last
    low_last = omega (arith, within)

    two : (i : ℕ) × IsOperandOf s n c ts i final
    two = operands.operand last final (omega (arith, base, low_last)) final_there (behind last final low_last final_there)

    before_last : g < last → m < final
    before_last less = operands.rise g last m final (omega (arith, base, le)) less there final_there (behind g m le there)

    up_to_last : m ≤ final
    up_to_last =
        let w = node_within segments g m there in
        ⊎_elim (λ less. let b = before_last less in omega (arith, b))
        (λ past. let e = same_Some m final (sym there ∙ ap (λ x. node_of (slice_get segments x)) (omega (arith, past, w)) ∙ final_there) in omega (arith, e))
        (before_or_past g last)

    stays_last : (i : ℕ) → loose_of segments loose g ≤ i → i < loose_of segments loose last → g < last
    stays_last i from gone =
        ⊎_elim (λ less. less) (λ past. absurd (let r = rise last g past in omega (arith, r, from, gone))) (before_or_past g last)

    not_before : (i : ℕ) → loose_of segments loose g ≤ i → i < loose_of segments loose at → ComesTo s n u
    not_before i from gone = absurd (let r = rise at g le in omega (arith, r, from, gone))

    same_index : (i j : ℕ) (a b : Side) → i ≡ j → slice_get (sides_from (suc n) ts) i ≡ Some a → slice_get (sides_from (suc n) ts) j ≡ Some b →
        a.number ≡ b.number
    same_index i j a b e h k = ap (λ (q : Side). q.number) (same_Some a b (sym h ∙ ap (slice_get (sides_from (suc n) ts)) e ∙ k))

    choice_gone : c ≡ class.Choice → is_some (s.taken n) ≡ true → (b : Bool) → (final == min (n + 1) (2 ^ 32 - 1)) ≡ b → (i : ℕ) →
        loose_of segments loose g ≤ i → i < (if b then length loose else loose_of segments loose last) → ComesTo s n u
    choice_gone is some true e i from gone =
        let f : final ≡ suc n = first_one final n e small in
        let a = behind g m le there in
        let b = up_to_last in
        first_lifted is some (first_at (suc n) ts one.0 one.1.side one.1.there (one.1.number ∙ omega (arith, f, a, b)))
      where
        first_one : (f n : ℕ) → (f == min (n + 1) (2 ^ 32 - 1)) ≡ true → n + 1 < 2 ^ 32 → f ≡ suc n
        first_one f n e small = grind (arith, nat_tests)
    choice_gone is some false e i from gone =
        let less = before_last (stays_last i from gone) in
        first_lifted is some (goes_first (s.taken n) one.0 two.0
        (ap (λ z. goes z (s.taken n) one.0) (sym is) ∙ one.1.goes)
        (ap (λ z. goes z (s.taken n) two.0) (sym is) ∙ two.1.goes)
        (λ zeroth. other_one final n e small (sym two.1.number ∙
        first_number (suc n) ts two.1.side (ap (slice_get (sides_from (suc n) ts)) (sym zeroth) ∙ two.1.there)))
        (λ equal. let q = sym one.1.number ∙ same_index one.0 two.0 one.1.side two.1.side equal one.1.there two.1.there ∙ two.1.number in
        omega (arith, q, less)))
      where
        other_one : (f n : ℕ) → (f == min (n + 1) (2 ^ 32 - 1)) ≡ false → n + 1 < 2 ^ 32 → f ≡ suc n → ⊥
        other_one f n e small h = grind (arith, nat_tests)

    later_lifted : c ≡ class.Comma → is_last_at ts one.0 ≡ false → ComesTo s n u
    later_lifted is other =
        lifted (ap (λ z. lifts z (s.taken n) one.0 (is_last_at ts one.0) Val) is ∙ ap (λ z. lifts class.Comma (s.taken n) one.0 z Val) other)

    comma_gone : c ≡ class.Comma → (number : ℕ) → number ≡ last_number (suc n) ts n → (b : Bool) → (final == number) ≡ b → (i : ℕ) →
        loose_of segments loose g ≤ i → i < (if b then loose_of segments loose last else length loose) → ComesTo s n u
    comma_gone is number e b t i from gone = go (is_last_at ts one.0) refl
      where
        equal_is : (x y : ℕ) → (x == y) ≡ true → x ≡ y
        equal_is x y h = grind (arith, nat_tests)

        equal_not : (x y : ℕ) → (x == y) ≡ false → x ≡ y → ⊥
        equal_not x y h q = grind (arith, nat_tests)

        clash_of : (b : Bool) → (final == number) ≡ b → i < (if b then loose_of segments loose last else length loose) → m ≡ number → ⊥
        clash_of true t gone q = let less = before_last (stays_last i from gone) in let f = equal_is final number t in omega (arith, less, f, q)
        clash_of false t gone q =
            let h = last_high (suc n) ts two.0 n two.1.side two.1.there in
            let z = two.1.number in
            let a = up_to_last in
            equal_not final number t (omega (arith, h, z, a, e, q))

        go : (l : Bool) → is_last_at ts one.0 ≡ l → ComesTo s n u
        go false other = later_lifted is other
        go true own = absurd (clash_of b t gone (sym one.1.number ∙ last_at (suc n) ts one.0 n one.1.side one.1.there own ∙ sym e))

    -- what doesn't stay listed comes before the node's value
    pub rule_gone : (i : ℕ) → loose_of segments loose g ≤ i →
        i < stays_from rule chosen n (node_of (slice_get segments last)) (loose_of segments loose at) (loose_of segments loose last) (length loose) →
        ComesTo s n u
    rule_gone i from gone = by_rule rule refl gone
      where
        stays_by : (r : Rule) (b : Bool) (o : Option ℕ) → ℕ
        stays_by r b o = stays_from r b n o (loose_of segments loose at) (loose_of segments loose last) (length loose)

        by_choice : rule ≡ rules.Choice → (b : Bool) → chosen ≡ b → i < stays_by rules.Choice b (node_of (slice_get segments last)) → ComesTo s n u
        by_choice e false f h = not_before i from h
        by_choice e true f h =
            choice_gone (ruled.choice e).0 (sym (ruled.choice e).1 ∙ f) (final == min (n + 1) (2 ^ 32 - 1)) refl i from
            (let q = ap (stays_by rules.Choice true) final_there in omega (arith, q, h))

        by_rule : (r : Rule) → rule ≡ r → i < stays_by r chosen (node_of (slice_get segments last)) → ComesTo s n u
        by_rule rules.Open e h = not_before i from h
        by_rule rules.Closed e h = ⊎_elim call_lifted (λ all. alone_comes (all one.0 one.1.side one.1.there)) (ruled.closed e)
        by_rule rules.Choice e h = by_choice e chosen refl h
        by_rule (rules.Comma number) e h =
            comma_gone (ruled.comma number e).0 number (ruled.comma number e).1 (final == number) refl i from
            (let q = ap (stays_by (rules.Comma number) chosen) final_there in omega (arith, q, h))
