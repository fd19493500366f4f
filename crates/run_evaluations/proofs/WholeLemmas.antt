-- What is kept of the open full expressions stays right, as the run goes on.
use Rattle.std.proofs.Common.{◌≡◌, ◌≢◌, ◌⊎◌, inl, inr, ⊎_elim, ℕ, suc, ◌≤◌, ◌<◌, ◌+◌, ◌-◌, Bool, true, false, List, [], ◌∷◌, ◌++◌, length, take, refl, sym, ap}
use Rattle.std.proofs.Common.{◌∙◌, arith, Option, Some, None, subst}
use Rattle.std.specs.Prelude.{Box, slice_get}
use Rattle.std.specs.Global.{Global}
use Rattle.std.proofs.lemmas.List.{length_push}
use Rattle.std.proofs.lemmas.Option.{slice_get_past, slice_get_within}
use Rattle.ub_base.specs.declared.names.Item.{Item}
use Rattle.footprint.specs.declared.foot.Foot.{Foot}
use Rattle.evaluation_log.specs.declared.log.Logged.{Logged}
use Rattle.evaluation_log.specs.declared.log.Segment.{Segment}
use Rattle.evaluation_log.specs.declared.level.Level.{Level}
use Rattle.evaluation_log.specs.Kept.{marks, foot_of, harmless_of, Cut, cut_of, AreLike, IsJoined, Spreads, AllBelow, span_of, is_large, KeepsFeet, IsAdded}
use Rattle.evaluation_log.specs.Kept.{base_of, first_segment, IsOperand}
use Rattle.run_evaluations.specs.Kept.{IsKept, IsSameOpen, IsSameLog, IsSameRest, IsTaken, IsFirst, IsLogged, IsTold, NoneOfOperands}
use Rattle.evaluation_log.specs.Clashes.{NoneBetween}
use Rattle.evaluation_log.specs.declared.sought.Sought.TheVariants.{Any}
use Rattle.addr_map.specs.declared.map.Row.{Row}
use Rattle.run_evaluations.specs.declared.open.Evaluations.{Evaluations}
use Rattle.evaluation_log.proofs.KeptLemmas.{before_or_past, items_past, gathers_by}
use Rattle.evaluation_log.proofs.WholeLemmas.{get_left, get_seam, starts_past, larges_past, not_none, there_is, whole_by, whole_levels, cut_some, inside}
use Rattle.evaluation_log.proofs.WholeLemmas.{mark_at, at_level, base_below, kept_joined, whole_logged, whole_cut, whole_given, whole_moved, length_alike}

like_same : (o p : Option Segment) → p ≡ o → AreLike o p
like_same o p e = record { begins = ap marks e; harm = ap harmless_of e; foot = ap foot_of e }

pub kept_open : (a b : Evaluations) → IsSameOpen a b → IsKept a → IsKept b
kept_open a b same w =
    whole_moved a.segments.items b.segments.items a.events.items b.events.items a.items.items b.items.items a.large.items b.large.items b.levels.items
    b.levels.items
    same.segments same.events same.items same.large refl
    (whole_levels a.segments.items a.events.items a.items.items a.large.items a.levels.items w b.levels.items (λ d c h. sym (same.cuts d) ∙ h))

-- other sets are kept
pub kept_feet : (a b : Evaluations) (at : ℕ) → IsSameLog a b → KeepsFeet a.segments.items b.segments.items a.events.items a.items.items at → IsKept a →
    IsKept b
kept_feet a b at same feet w =
    whole_moved b.segments.items b.segments.items a.events.items b.events.items a.items.items b.items.items a.large.items b.large.items a.levels.items
    b.levels.items
    refl same.events same.items same.large same.levels
    (whole_by a.segments.items a.events.items a.items.items a.large.items a.levels.items w b.segments.items
    (length_alike b.segments.items a.segments.items same.alike) same.alike (λ g h. sym (same.harm g) ∙ h)
    (λ g f h. ⊎_elim (λ old. w.kept.gathered g (omega arith) f old) (λ new. new.1 g (omega (arith, new.0))) (feet g f h)))

pub kept_made_one : (a b d : Evaluations) (at : ℕ) → IsSameLog a b → ((g : ℕ) → g ≢ at → slice_get b.segments.items g ≡ slice_get a.segments.items g) →
    IsSameRest b d → IsJoined b.segments.items d.segments.items at → AllBelow a.levels.items at → at < length a.segments.items →
    ((f : Box Foot Global) → foot_of (slice_get d.segments.items at) ≡ Some f → Spreads a.segments.items a.events.items a.items.items at f.value) →
    IsKept a → IsKept d
kept_made_one a b d at same others rest joined below within feet w =
    whole_moved d.segments.items d.segments.items a.events.items d.events.items a.items.items d.items.items a.large.items d.large.items a.levels.items
    d.levels.items
    refl (rest.events ∙ same.events) (rest.items ∙ same.items) (rest.large ∙ same.large) (rest.levels ∙ same.levels)
    (kept_joined a.segments.items a.events.items a.items.items a.large.items a.levels.items w b.segments.items d.segments.items at below within same.alike
    same.harm
    others joined feet)

pub kept_at_top : (a b d : Evaluations) (e : Logged) (added : List Item) (last : ℕ) → IsSameRest a b → IsAdded a.segments.items b.segments.items added →
    IsLogged b d e added → length a.segments.items ≡ suc last → AllBelow a.levels.items last → IsKept a → IsKept d
kept_at_top a b d e added last rest more logged n below w =
    let ss = a.segments.items in
    let s = inside ss a.events.items a.items.items a.large.items a.levels.items w last (omega (arith, n)) in
    let m = more.last last s.0 (sym n) s.1 in
    whole_moved b.segments.items d.segments.items (a.events.items ++ (e ∷ [])) d.events.items (a.items.items ++ added) d.items.items a.large.items
    d.large.items
    a.levels.items d.levels.items logged.segments
    (logged.events ∙ ap (λ (xs : List Logged). xs ++ (e ∷ [])) rest.events)
    (logged.items ∙ ap (λ (xs : List Item). xs ++ added) rest.items) (logged.large ∙ rest.large) (logged.levels ∙ rest.levels)
    (whole_logged ss a.events.items a.items.items a.large.items a.levels.items w b.segments.items last e added (more.count ∙ n) (omega (arith, n))
    (omega (arith, n))
    (λ g less. like_same (slice_get ss g) (slice_get b.segments.items g) (more.others g (omega (arith, n, less))))
    (ap marks m.1 ∙ (λ i. Some (m.2.first i, m.2.items i, m.2.large i)) ∙ sym (ap marks s.1) ∙
    mark_at ss a.events.items a.items.items a.large.items a.levels.items w last s.0 s.1)
    (logged.from ∙ ap length rest.items) (logged.to ∙ ap (λ (xs : List Item). length xs + length added) rest.items) logged.foot logged.small
    (λ h. let r = m.2.harm (sym (ap harmless_of m.1) ∙ h) in (r.1, λ k x of. ap harmless_of s.1 ∙ r.0))
    (λ f h. let r = m.2.foot f (sym (ap foot_of m.1) ∙ h) in
    (λ k x of j has. r.2 j (w.kept.gathered last (omega arith) r.0 (ap foot_of s.1 ∙ r.1) k x of j has), r.3))
    below)

pub kept_first : (a b d : Evaluations) (s : Segment) (e : Logged) (added : List Item) → IsSameRest a b → IsFirst a b s added → IsLogged b d e added →
    IsKept a → IsKept d
kept_first a b d s e added rest new logged w =
    let ss = a.segments.items in
    let last = length ss in
    let m = get_seam ss s in
    whole_moved (ss ++ (s ∷ [])) d.segments.items (a.events.items ++ (e ∷ [])) d.events.items (a.items.items ++ added) d.items.items a.large.items
    d.large.items
    a.levels.items d.levels.items (logged.segments ∙ new.pushed)
    (logged.events ∙ ap (λ (xs : List Logged). xs ++ (e ∷ [])) rest.events)
    (logged.items ∙ ap (λ (xs : List Item). xs ++ added) rest.items) (logged.large ∙ rest.large) (logged.levels ∙ rest.levels)
    (whole_logged ss a.events.items a.items.items a.large.items a.levels.items w (ss ++ (s ∷ [])) last e added
    (let n = length_push ss s in omega (arith, n)) (omega arith) (omega arith)
    (λ g less. like_same (slice_get ss g) (slice_get (ss ++ (s ∷ [])) g) (get_left ss (s ∷ []) g less))
    (ap marks m ∙ (λ i. Some (
      (new.first ∙ sym (starts_past ss a.events.items last (omega arith))) i,
      (new.items ∙ sym (items_past ss a.items.items last (omega arith))) i,
      (new.large ∙ sym (larges_past ss a.large.items last (omega arith))) i,
    )))
    (logged.from ∙ ap length rest.items) (logged.to ∙ ap (λ (xs : List Item). length xs + length added) rest.items) logged.foot logged.small
    (λ h. (
      new.harm (sym (ap harmless_of m) ∙ h),
      λ k x of.
          let t = there_is ss a.events.items a.items.items a.large.items a.levels.items w last k x of in
          absurd (let v = slice_get_within ss last t.0 t.1 in omega (arith, v)),
    ))
    (λ f h. not_none (foot_of (slice_get (ss ++ (s ∷ [])) last)) f _ (ap foot_of m ∙ new.foot) h)
    (λ n c h. (w.cuts n c h).0))

pub kept_cut : (a b : Evaluations) (c : Cut) → cut_of (slice_get a.levels.items (length a.levels.items - 1)) ≡ Some c →
    b.segments.items ≡ take c.segments a.segments.items → b.events.items ≡ take c.events a.events.items → b.items.items ≡ take c.items a.items.items →
    b.large.items ≡ take c.large a.large.items → b.levels.items ≡ a.levels.items → IsKept a → IsKept b
kept_cut a b c top s e i g l w =
    let t = at_level a.segments.items a.events.items a.items.items a.large.items a.levels.items w
    (slice_get a.levels.items (length a.levels.items - 1)) c top in
    let same : c.segments ≡ base_of a.levels.items = (cut_some a.segments.items a.events.items a.items.items a.large.items a.levels.items w
    (slice_get a.levels.items (length a.levels.items - 1)) t.0 c t.1 top).0 ∙ ap first_segment (sym t.1) in
    whole_moved (take c.segments a.segments.items) b.segments.items (take c.events a.events.items) b.events.items (take c.items a.items.items) b.items.items
    (take c.large a.large.items) b.large.items a.levels.items b.levels.items s e i g l
    (whole_cut a.segments.items a.events.items a.items.items a.large.items a.levels.items w c (length a.levels.items - 1) top
    (λ d x h. let r = base_below a.segments.items a.events.items a.items.items a.large.items a.levels.items w d x h in omega (arith, r, same)))

true_or_false : (b : Bool) → (b ≡ true) ⊎ (b ≡ false)
true_or_false true = inl refl
true_or_false false = inr refl

-- the last event is listed or not, the last segment is opened, and the body is put
module _ (a b d f : Evaluations) (large : Bool) (listed : large ≡ true → base_of a.levels.items < length a.segments.items)
    (s1 : b.segments.items ≡ a.segments.items) (e1 : b.events.items ≡ a.events.items) (i1 : b.items.items ≡ a.items.items)
    (l1 : b.levels.items ≡ a.levels.items) (no : large ≡ false → b.large.items ≡ a.large.items)
    (yes : large ≡ true → b.large.items ≡ a.large.items ++ ((length a.events.items - 1) ∷ []))
    (rest : IsSameRest b d) (n2 : length d.segments.items ≡ length b.segments.items)
    (alike : (g : ℕ) → marks (slice_get d.segments.items g) ≡ marks (slice_get b.segments.items g))
    (others : (g : ℕ) → g < length b.segments.items - 1 → slice_get d.segments.items g ≡ slice_get b.segments.items g)
    (harm : harmless_of (slice_get d.segments.items (length b.segments.items - 1)) ≡ false)
    (foot : foot_of (slice_get d.segments.items (length b.segments.items - 1)) ≡ None)
    (s3 : f.segments.items ≡ d.segments.items) (i3 : f.items.items ≡ d.items.items) (g3 : f.large.items ≡ d.large.items)
    (l3 : f.levels.items ≡ d.levels.items) (n3 : length f.events.items ≡ length d.events.items)
    (spans : (k : ℕ) → span_of (slice_get f.events.items k) ≡ span_of (slice_get d.events.items k))
    (others3 : (k : ℕ) → suc k < length d.events.items → slice_get f.events.items k ≡ slice_get d.events.items k)
    (large3 : (k : ℕ) → suc k ≡ length d.events.items → is_large (slice_get f.events.items k) ≡ large) (w : IsKept a) where
  same_events : d.events.items ≡ a.events.items
  same_events = rest.events ∙ e1

  is_big : is_large (slice_get f.events.items (length a.events.items - 1)) ≡ true → f.large.items ≡ a.large.items ++ ((length a.events.items - 1) ∷ [])
  is_big h =
      let m = ap length same_events in
      ⊎_elim
      (λ before. g3 ∙ rest.large ∙ yes (sym (large3 (length a.events.items - 1) (omega (arith, m, before))) ∙ h))
      (λ past. absurd (let e : false ≡ true = sym (ap is_large (slice_get_past f.events.items (length a.events.items - 1) (omega (arith, m, n3, past)))) ∙
      h in cc))
      (before_or_past (length a.events.items - 1) (length a.events.items))

  is_grown : (f.large.items ≡ a.large.items) ⊎ ((f.large.items ≡ a.large.items ++ ((length a.events.items - 1) ∷ [])) ×
      (length a.segments.items - 1 < length a.segments.items) × AllBelow a.levels.items (length a.segments.items - 1))
  is_grown =
      ⊎_elim
      (λ big. let l = listed big in
      inr (
        g3 ∙ rest.large ∙ yes big,
        omega (arith, l),
        (λ n c h. let r = base_below a.segments.items a.events.items a.items.items a.large.items a.levels.items w n c h in omega (arith, r, l)),
      ))
      (λ small. inl (g3 ∙ rest.large ∙ no small))
      (true_or_false large)

  pub kept_given : IsKept f
  kept_given =
      whole_moved d.segments.items f.segments.items f.events.items f.events.items a.items.items f.items.items f.large.items f.large.items
      a.levels.items f.levels.items s3 refl (i3 ∙ rest.items ∙ i1) refl (l3 ∙ rest.levels ∙ l1)
      (whole_given a.segments.items a.events.items a.items.items a.large.items a.levels.items w f.events.items (n3 ∙ ap length same_events)
      (λ k. spans k ∙ ap (λ (xs : List Logged). span_of (slice_get xs k)) same_events)
      d.segments.items f.large.items (length a.segments.items - 1) (length a.events.items - 1) refl refl (n2 ∙ ap length s1)
      (λ g. alike g ∙ ap (λ (xs : List Segment). marks (slice_get xs g)) s1)
      (λ g less. like_same (slice_get a.segments.items g) (slice_get d.segments.items g)
      (others g (let e = ap length s1 in omega (arith, e, less)) ∙ ap (λ (xs : List Segment). slice_get xs g) s1))
      (ap (λ (xs : List Segment). harmless_of (slice_get d.segments.items (length xs - 1))) (sym s1) ∙ harm)
      (ap (λ (xs : List Segment). foot_of (slice_get d.segments.items (length xs - 1))) (sym s1) ∙ foot)
      (λ k less. others3 k (let e = ap length same_events in omega (arith, e, less)) ∙ ap (λ (xs : List Logged). slice_get xs k) same_events)
      is_big is_grown)

-- several operands, between which no conflict was found
pub kept_several : (a b t d : Evaluations) (at : ℕ) → IsSameLog a b → KeepsFeet a.segments.items b.segments.items a.events.items a.items.items at →
    IsTaken b t at → IsSameRest t d → IsJoined t.segments.items d.segments.items at → AllBelow a.levels.items at → at < length a.segments.items →
    ((f : Box Foot Global) → foot_of (slice_get d.segments.items at) ≡ Some f → Spreads a.segments.items a.events.items a.items.items at f.value) →
    IsKept a → IsKept d
kept_several a b t d at same keeps taken rest joined below within feet w =
    kept_made_one b t d at taken.same taken.others rest joined (subst (λ (ls : List Level). AllBelow ls at) (sym same.levels) below)
    (let n = length_alike b.segments.items a.segments.items same.alike in omega (arith, n, within))
    (λ f h g le. gathers_by a.segments.items b.segments.items a.events.items b.events.items a.items.items b.items.items g f.value
    (λ k. sym (same.alike k)) (sym same.events) (sym same.items) (feet f h g le))
    (kept_feet a b at same keeps w)

-- only what is kept of loose events has changed
pub kept_like : (a b : Evaluations) → IsSameRest a b → ((g : ℕ) → AreLike (slice_get a.segments.items g) (slice_get b.segments.items g)) → IsKept a → IsKept b
kept_like a b rest like w =
    whole_moved b.segments.items b.segments.items a.events.items b.events.items a.items.items b.items.items a.large.items b.large.items a.levels.items
    b.levels.items
    refl rest.events rest.items rest.large rest.levels
    (whole_by a.segments.items a.events.items a.items.items a.large.items a.levels.items w b.segments.items
    (length_alike b.segments.items a.segments.items (λ g. (like g).begins)) (λ g. (like g).begins) (λ g h. sym (like g).harm ∙ h)
    (λ g f h. w.kept.gathered g (omega arith) f (sym (like g).foot ∙ h)))

-- of the operands of a node, if none of those behind a place clash
pub of_operands : (rows : List Row) (o : Evaluations) (node at : ℕ) →
    ((g : ℕ) → IsOperand o.segments.items o.levels.items node g → at ≤ g) → NoneBetween Any rows o.segments.items o.events.items o.items.items at →
    NoneOfOperands rows o node
of_operands rows o node at least none g h of with_it differ = none g h (least g of) (least h with_it) differ

-- an event that was told
pub told_by : (a b d : Evaluations) (e : Logged) (added : List Item) → IsSameRest a b → IsLogged b d e added → IsTold a d e added
told_by a b d e added rest logged = record {
  events = logged.events ∙ ap (λ (xs : List Logged). xs ++ (e ∷ [])) rest.events;
  items = logged.items ∙ ap (λ (xs : List Item). xs ++ added) rest.items;
  levels = logged.levels ∙ rest.levels;
  from = logged.from ∙ ap length rest.items;
  to = logged.to ∙ ap (λ (xs : List Item). length xs + length added) rest.items;
  foot = logged.foot;
}

pub told_after : (a b d : Evaluations) (e : Logged) (added : List Item) → IsSameRest a b → IsTold b d e added → IsTold a d e added
told_after a b d e added rest told = record {
  events = told.events ∙ ap (λ (xs : List Logged). xs ++ (e ∷ [])) rest.events;
  items = told.items ∙ ap (λ (xs : List Item). xs ++ added) rest.items;
  levels = told.levels ∙ rest.levels;
  from = told.from ∙ ap length rest.items;
  to = told.to ∙ ap (λ (xs : List Item). length xs + length added) rest.items;
  foot = told.foot;
}
