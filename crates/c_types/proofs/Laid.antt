-- The rows keep the extents of their tags as tags are declared and completed.
use Rattle.std.proofs.Common.{
  ◌≡◌,
  ◌≢◌,
  ℕ,
  zero,
  suc,
  ◌<◌,
  List,
  [],
  ◌∷◌,
  ◌++◌,
  length,
  Option,
  Some,
  None,
  IfSome,
  refl,
  sym,
  ap,
  subst,
  ◌∙◌,
  inl,
  inr,
  arith,
  get_or,
  set,
  map,
}
use Rattle.std.specs.Prelude.{true, false, slice_get, is_some}
use Rattle.std.proofs.lemmas.List.{map-append, length-map}
use Rattle.std.proofs.lemmas.Bool.Decides.{eqb_tells}
use Rattle.std.proofs.lemmas.List.Elements.{All-append, All-set}
use Rattle.c_types.specs.declared.tags.TagKind.{TagKind}
use Rattle.c_types.specs.declared.tags.Member.{Member}
use Rattle.c_types.specs.declared.tags.Tag.{Tag}
use Rattle.c_types.specs.declared.tags.Row.{Row}
use Rattle.c_types.specs.declared.tags.Extent.{Extent}
use Rattle.c_types.specs.Types.{CType}
use Rattle.c_types.specs.Layout.{extent, tag_extent, offset_of, offset_in, known_by, extents, completed, IsSound}
use Rattle.c_types.specs.Table.{completions, look, extent_in, tag_of, IsSoundRow, IsLaid, IsSettled}
use Rattle.c_types.proofs.Extents.{known_by-more, completions-more, completions-le}
use Rattle.c_types.proofs.Completed.{Completes, settles, upper, get-completed_other, completions-completed}

pub extents-look : (rows : List Row) → IsLaid rows → (tag : ℕ) → extents (map tag_of rows) tag ≡ look rows tag
extents-look rows laid tag = laid.settled (length (map tag_of rows)) (completions-le (map tag_of rows)) tag

pub extent-look : (rows : List Row) → IsLaid rows → (t : CType) → extent (extents (map tag_of rows)) t ≡ extent (look rows) t
extent-look rows laid t = λ j. extent (λ u. extents-look rows laid u j) t

pub offset_of-look : (rows : List Row) → IsLaid rows → (t : Tag) (member : ℕ) → offset_of (extents (map tag_of rows)) t member ≡ offset_of (look rows) t member
offset_of-look rows laid t member = λ j. offset_of (λ u. extents-look rows laid u j) t member

look-more : (rows : List Row) (r : Row) → r.extent ≡ None → (tag : ℕ) → look (rows ++ r ∷ []) tag ≡ look rows tag
look-more [] r h zero = h
look-more [] r h (suc tag) = refl
look-more (u ∷ us) r h zero = refl
look-more (u ∷ us) r h (suc tag) = look-more us r h tag

filled-more : (rows : List Row) (r : Row) → r.tag.members ≡ [] →
    ((tag : ℕ) (t : Tag) → slice_get (map tag_of rows) tag ≡ Some t → look rows tag ≡ None → t.members ≡ []) →
    (tag : ℕ) (t : Tag) → slice_get (map tag_of (rows ++ r ∷ [])) tag ≡ Some t → look (rows ++ r ∷ []) tag ≡ None → t.members ≡ []
filled-more [] r e f zero t g h = let same : r.tag ≡ t = cc in ap (λ x. x.members) (sym same) ∙ e
filled-more [] r e f (suc tag) t g h = absurd (cc)
filled-more (u ∷ us) r e f zero t g h = f zero t g h
filled-more (u ∷ us) r e f (suc tag) t g h = filled-more us r e (λ x v. f (suc x) v) tag t g h

one_sound : (kind : TagKind) (k : ℕ) (d : Row) → k < 1 → IsSoundRow (get_or ((record { tag = record { kind = kind; members = [] }; extent = None }) ∷ []) k d)
one_sound kind zero d h = tt
one_sound kind (suc k) d h = absurd (omega arith)

-- a tag more, which has no members yet
pub laid-more : (rows : List Row) (kind : TagKind) → IsLaid rows → IsLaid (rows ++ (record { tag = record { kind = kind; members = [] }; extent = None }) ∷ [])
laid-more rows kind laid =
    let r : Row = record { tag = record { kind = kind; members = [] }; extent = None } in
    let seen : map tag_of (rows ++ r ∷ []) ≡ map tag_of rows ++ r.tag ∷ [] = map-append tag_of rows (r ∷ []) in
    record {
      sound = All-append IsSoundRow rows (r ∷ []) laid.sound (one_sound kind);
      settled = λ n le tag.
          ap (λ ts. known_by n ts tag) seen
          ∙ (known_by-more n (map tag_of rows) r.tag refl tag
          ∙ (laid.settled n (let same = ap completions seen in let more = completions-more (map tag_of rows) r.tag refl in omega arith) tag
          ∙ sym (look-more rows r refl tag)));
      filled = filled-more rows r refl laid.filled;
    }

look-set_same : (rows : List Row) (i : ℕ) (r : Row) → i < length rows → look (set rows i r) i ≡ r.extent
look-set_same [] i r h = absurd (omega arith)
look-set_same (u ∷ us) zero r h = refl
look-set_same (u ∷ us) (suc i) r h = look-set_same us i r (omega arith)

look-set_other : (rows : List Row) (i : ℕ) (r : Row) (tag : ℕ) → tag ≢ i → look (set rows i r) tag ≡ look rows tag
look-set_other [] i r tag h = refl
look-set_other (u ∷ us) zero r zero h = absurd (h refl)
look-set_other (u ∷ us) zero r (suc tag) h = refl
look-set_other (u ∷ us) (suc i) r zero h = refl
look-set_other (u ∷ us) (suc i) r (suc tag) h = look-set_other us i r tag (λ e. h (ap suc e))

-- the rows show the tags, this one with its members
pub map-set_completed :
    (rows : List Row) (i : ℕ) (kind : TagKind) (ms : List Member) (e : Option Extent) →
    IfSome (slice_get (map tag_of rows) i) (λ t. kind ≡ t.kind) →
    map tag_of (set rows i (record { tag = record { kind = kind; members = ms }; extent = e })) ≡ completed (map tag_of rows) i ms
map-set_completed [] i kind ms e h = refl
map-set_completed (u ∷ us) zero kind ms e h = let f : TagKind → List Tag = λ x. (record { kind = x; members = ms }) ∷ map tag_of us in ap f h
map-set_completed (u ∷ us) (suc i) kind ms e h = ap (λ ts. u.tag ∷ ts) (map-set_completed us i kind ms e h)

pub there : (ts : List Tag) (i : ℕ) → i < length ts → (t : Tag) × (slice_get ts i ≡ Some t)
there [] i h = absurd (omega arith)
there (t ∷ ts) zero h = (t, refl)
there (t ∷ ts) (suc i) h = there ts i (omega arith)

at_kind : (o : Option Tag) (kind : TagKind) (t : Tag) → IfSome o (λ u. kind ≡ u.kind) → o ≡ Some t → kind ≡ t.kind
at_kind None kind t h e = absurd (cc)
at_kind (Some u) kind t h e = let same : u ≡ t = cc in h ∙ ap (λ x. x.kind) same

-- what stands before a completion
pub record Fresh (rows : List Row) (i : ℕ) (kind : TagKind) : Type 0 where
  pub laid : IsLaid rows
  pub within : i < length (map tag_of rows)
  pub kind_is : IfSome (slice_get (map tag_of rows) i) (λ t. kind ≡ t.kind)
  pub fresh : extents (map tag_of rows) i ≡ None

module _ (rows : List Row) (i : ℕ) (kind : TagKind) (ms : List Member) (c : Fresh rows i kind) (t : Tag) (at : slice_get (map tag_of rows) i ≡ Some t) where
  kind_of_it : kind ≡ t.kind
  kind_of_it = at_kind (slice_get (map tag_of rows) i) kind t c.kind_is at

  known_then : tag_extent (look rows) (record { kind = kind; members = ms }) ≡ tag_extent (look rows) (record t { members = ms })
  known_then = let f : TagKind → Option Extent = λ x. tag_extent (look rows) (record { kind = x; members = ms }) in ap f kind_of_it

  unknown : look rows i ≡ None
  unknown = sym (extents-look rows c.laid i) ∙ c.fresh

  -- it stays incomplete
  stays : tag_extent (look rows) (record { kind = kind; members = ms }) ≡ None → Completes (map tag_of rows) i ms t (look rows) (look rows)
  stays h = record {
    settled = c.laid.settled;
    filled = c.laid.filled;
    there = at;
    fresh = unknown;
    here = unknown ∙ (sym h ∙ known_then);
    others = λ tag n. refl;
  }

  pub stays_incomplete : tag_extent (look rows) (record { kind = kind; members = ms }) ≡ None →
      (n : ℕ) (o : Option Extent) → known_by n (completed (map tag_of rows) i ms) i ≡ o → o ≡ None
  stays_incomplete h n None e = refl
  stays_incomplete h n (Some d) e = let f = upper (map tag_of rows) i ms t (look rows) (look rows) (stays h) n i d e in let g = unknown in absurd (cc)

module _ (rows : List Row) (i : ℕ) (kind : TagKind) (ms : List Member) (c : Fresh rows i kind) (t : Tag) (at : slice_get (map tag_of rows) i ≡ Some t)
    (e : Extent)
    (short : i < length rows) (known : tag_extent (look rows) (record { kind = kind; members = ms }) ≡ Some e) where
  row : Row
  row = record { tag = record { kind = kind; members = ms }; extent = Some e }

  grows : Completes (map tag_of rows) i ms t (look rows) (look (set rows i row))
  unfolding row
  grows = record {
    settled = c.laid.settled;
    filled = c.laid.filled;
    there = at;
    fresh = sym (extents-look rows c.laid i) ∙ c.fresh;
    here = look-set_same rows i (record { tag = record { kind = kind; members = ms }; extent = Some e }) short ∙
        (sym known ∙ known_then rows i kind ms c t at);
    others = look-set_other rows i (record { tag = record { kind = kind; members = ms }; extent = Some e });
  }

filled_by :
    (rows : List Row) (i : ℕ) (kind : TagKind) (ms : List Member) (e : Extent) → i < length rows → IsLaid rows →
    map tag_of (set rows i (record { tag = record { kind = kind; members = ms }; extent = Some e })) ≡ completed (map tag_of rows) i ms →
    (tag : ℕ) (t : Tag) → slice_get (map tag_of (set rows i (record { tag = record { kind = kind; members = ms }; extent = Some e }))) tag ≡ Some t →
    look (set rows i (record { tag = record { kind = kind; members = ms }; extent = Some e })) tag ≡ None → t.members ≡ []
filled_by rows i kind ms e short laid seen tag t g h =
    let r : Row = record { tag = record { kind = kind; members = ms }; extent = Some e } in
    elim (eqb_tells tag i) [
      | inl p ↦ (let here = look-set_same rows i r short in let at : look (set rows i r) i ≡ None = subst (λ u. look (set rows i r) u ≡ None) p.1 h in absurd
          (cc))
      | inr p ↦ laid.filled tag t (sym (get-completed_other (map tag_of rows) i ms tag p.1) ∙ (ap (λ ts. slice_get ts tag) (sym seen) ∙ g))
          (sym (look-set_other rows i r tag p.1) ∙ h)
    ]

-- it is complete now
pub completes_laid :
    (rows : List Row) (i : ℕ) (kind : TagKind) (ms : List Member) (c : Fresh rows i kind) (e : Extent) →
    tag_extent (look rows) (record { kind = kind; members = ms }) ≡ Some e → IsSound e →
    IsLaid (set rows i (record { tag = record { kind = kind; members = ms }; extent = Some e }))
unfolding row
completes_laid rows i kind [] c e known sound = absurd (cc)
completes_laid rows i kind (m ∷ ms) c e known sound =
    let short : i < length rows = let seen = length-map rows tag_of in let w = c.within in omega arith in
    let found = there (map tag_of rows) i c.within in
    let r : Row = record { tag = record { kind = kind; members = m ∷ ms }; extent = Some e } in
    let seen : map tag_of (set rows i r) ≡ completed (map tag_of rows) i (m ∷ ms) = map-set_completed rows i kind (m ∷ ms) (Some e) c.kind_is in
    let step = grows rows i kind (m ∷ ms) c found.0 found.1 e short known in
    let none : found.0.members ≡ [] = c.laid.filled i found.0 found.1 (sym (extents-look rows c.laid i) ∙ c.fresh) in
    let one = completions-completed (map tag_of rows) i m ms found.0 found.1 none in
    let same = ap completions seen in
    record {
      sound = All-set IsSoundRow rows i r sound c.laid.sound;
      settled = λ n le tag.
          ap (λ ts. known_by n ts tag) seen
          ∙ settles (map tag_of rows) i (m ∷ ms) found.0 (look rows) (look (set rows i r)) step n (omega arith) tag;
      filled = filled_by rows i kind (m ∷ ms) e short c.laid seen;
    }

pub completed_extent :
    (rows : List Row) (i : ℕ) (kind : TagKind) (ms : List Member) (c : Fresh rows i kind) (e : Extent) →
    tag_extent (look rows) (record { kind = kind; members = ms }) ≡ Some e → IsSound e →
    extents (completed (map tag_of rows) i ms) i ≡ Some e
completed_extent rows i kind ms c e known sound =
    let r : Row = record { tag = record { kind = kind; members = ms }; extent = Some e } in
    let short : i < length rows = let seen = length-map rows tag_of in let w = c.within in omega arith in
    let seen : map tag_of (set rows i r) ≡ completed (map tag_of rows) i ms = map-set_completed rows i kind ms (Some e) c.kind_is in
    ap (λ ts. extents ts i) (sym seen)
    ∙ (extents-look (set rows i r) (completes_laid rows i kind ms c e known sound) i
    ∙ look-set_same rows i r short)

pub incomplete_extent :
    (rows : List Row) (i : ℕ) (kind : TagKind) (ms : List Member) (c : Fresh rows i kind) →
    tag_extent (look rows) (record { kind = kind; members = ms }) ≡ None → extents (completed (map tag_of rows) i ms) i ≡ None
incomplete_extent rows i kind ms c known =
    let found = there (map tag_of rows) i c.within in
    stays_incomplete rows i kind ms c found.0 found.1 known (length (completed (map tag_of rows) i ms)) (extents (completed (map tag_of rows) i ms) i) refl

-- the same of what the caller sees

pub fresh_at :
    (rows : List Row) (now : List Tag) (i : ℕ) (kind : TagKind) → map tag_of rows ≡ now → IsLaid rows → i < length now →
    IfSome (slice_get now i) (λ t. kind ≡ t.kind) → extents now i ≡ None → Fresh rows i kind
fresh_at rows now i kind seen laid within kind_is fresh = record {
  laid = laid;
  within = subst (λ ts. i < length ts) (sym seen) within;
  kind_is = subst (λ ts. IfSome (slice_get ts i) (λ t. kind ≡ t.kind)) (sym seen) kind_is;
  fresh = subst (λ ts. extents ts i ≡ None) (sym seen) fresh;
}

pub known_at :
    (rows here : List Row) (kind : TagKind) (ms : List Member) (r o : Option Extent) → here ≡ rows →
    r ≡ tag_extent (look here) (record { kind = kind; members = ms }) → r ≡ o →
    tag_extent (look rows) (record { kind = kind; members = ms }) ≡ o
known_at rows here kind ms r o same is at = subst (λ x. tag_extent (look x) (record { kind = kind; members = ms }) ≡ o) same (sym is ∙ at)

pub seen_incomplete :
    (rows : List Row) (now : List Tag) (i : ℕ) (kind : TagKind) (ms : List Member) → map tag_of rows ≡ now → Fresh rows i kind →
    tag_extent (look rows) (record { kind = kind; members = ms }) ≡ None → false ≡ is_some (extents (completed now i ms) i)
seen_incomplete rows now i kind ms seen c known =
    subst (λ ts. false ≡ is_some (extents (completed ts i ms) i)) seen (sym (ap is_some (incomplete_extent rows i kind ms c known)))

pub seen_complete :
    (rows : List Row) (now : List Tag) (i : ℕ) (kind : TagKind) (ms : List Member) (e : Extent) → map tag_of rows ≡ now → Fresh rows i kind →
    tag_extent (look rows) (record { kind = kind; members = ms }) ≡ Some e → IsSound e → true ≡ is_some (extents (completed now i ms) i)
seen_complete rows now i kind ms e seen c known sound =
    subst (λ ts. true ≡ is_some (extents (completed ts i ms) i)) seen (sym (ap is_some (completed_extent rows i kind ms c e known sound)))

pub seen_done :
    (rows : List Row) (now : List Tag) (i : ℕ) (kind : TagKind) (ms : List Member) (e : Extent) → map tag_of rows ≡ now → Fresh rows i kind →
    map tag_of (set rows i (record { tag = record { kind = kind; members = ms }; extent = Some e })) ≡ completed now i ms
seen_done rows now i kind ms e seen c = map-set_completed rows i kind ms (Some e) c.kind_is ∙ ap (λ ts. completed ts i ms) seen

-- a row by its number
pub row_extent : (rows : List Row) (now : List Tag) (i : ℕ) (r : Row) → map tag_of rows ≡ now → IsLaid rows → Some r ≡ slice_get rows i →
    r.extent ≡ extents now i
row_extent rows now i r seen laid at =
    subst (λ ts. r.extent ≡ extents ts i) seen (ap extent_in at ∙ sym (extents-look rows laid i))

row_tag : (rows : List Row) (i : ℕ) (r : Row) → Some r ≡ slice_get rows i → slice_get (map tag_of rows) i ≡ Some r.tag
row_tag [] i r at = absurd (cc)
row_tag (u ∷ us) zero r at = let same : r ≡ u = cc in let f : Row → Option Tag = λ x. Some x.tag in sym (ap f same)
row_tag (u ∷ us) (suc i) r at = row_tag us i r at

pub row_offset :
    (rows : List Row) (now : List Tag) (i member : ℕ) (r : Row) → map tag_of rows ≡ now → IsLaid rows → Some r ≡ slice_get rows i →
    offset_of (look rows) r.tag member ≡ offset_in (extents now) (slice_get now i) member
row_offset rows now i member r seen laid at =
    subst (λ ts. offset_of (look rows) r.tag member ≡ offset_in (extents ts) (slice_get ts i) member) seen
    (sym (offset_of-look rows laid r.tag member) ∙ ap (λ o. offset_in (extents (map tag_of rows)) o member) (sym (row_tag rows i r at)))

pub settled_rows : (rows : List Row) (now : List Tag) → map tag_of rows ≡ now → IsLaid rows → IsSettled now
settled_rows rows now seen laid = subst IsSettled seen (record {
  known = λ tag. extents-look rows laid tag ∙ sym
      (laid.settled (suc (length (map tag_of rows))) (let le = completions-le (map tag_of rows) in omega arith) tag);
  filled = λ tag t g h. laid.filled tag t g (sym (extents-look rows laid tag) ∙ h);
})
