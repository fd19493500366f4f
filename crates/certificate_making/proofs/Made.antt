-- The parts of the certificate, with the frames by their new numbers.
use Rattle.std.proofs.Common.{
  ◌≡◌,
  ◌∙◌,
  ℕ,
  suc,
  ◌-◌,
  ◌<◌,
  ◌≤◌,
  min,
  List,
  [],
  ◌∷◌,
  ◌++◌,
  map,
  Bool,
  length,
  get_or,
  slice_get,
  All,
  Option,
  Some,
  None,
  refl,
  ap,
  sym,
  subst,
  arith,
}
use Rattle.std.specs.List.{AllByRecursion}
use Rattle.std.proofs.lemmas.List.Elements.{All-from_get_or, All-get_or, All-map, All-weaker, recursion_from_All}
use Rattle.std.proofs.lemmas.Option.{get_or_from_slice_get}
use Rattle.ub_base.specs.Frames.{IsFrameList, path_of}
use Rattle.ub_base.specs.Frames as frames
use Rattle.ub_base.specs.declared.names.Event.{Event}
use Rattle.ub_base.specs.declared.names.ObjName.{ObjName}
use Rattle.ub_base.specs.declared.names.ObjName.TheVariants.{Static, Lit, Argv, Arg, Auto, Heap}
use Rattle.addr_map.specs.declared.map.Row.{Row}
use Rattle.certificate.specs.Form.{HasForm, IsClaimOf, IsEventOf, IsFrameRow, IsNameOf, IsPairOf, IsRowOf, SuitsClaim}
use Rattle.certificate.specs.declared.cert.Claim.{Claim}
use Rattle.certificate.specs.declared.cert.Claim.TheVariants.{Clean, Undefined, OrderDependent, OutOfSteps, Outside}
use Rattle.certificate.specs.declared.cert.Segment.{Segment}
use Rattle.certificate.specs.declared.cert.Version.TheVariants.{Two}
use Rattle.certificate_making.specs.Making.{IsOfRun, Needed, SameClaim, SameEvent, SamePair, canonical_order, unframed, unframed_name, whole}
use Rattle.certificate_making.specs.Marking.{claim_frames, kept_marks, name_frames, named_frames, pair_frames, row_frames}
use Rattle.certificate_making.specs.Numbering.{
  IsNumbered,
  frame_at,
  moved,
  number,
  renamed_claim,
  renamed_event,
  renamed_name,
  renamed_pair,
  renamed_row,
}
use Rattle.certificate_making.proofs.Kept.{kept_needed, named_paths, slice_get_some}

-- ---- all but the numbers of frames stays

name_same : (ns : List ℕ) (n : ℕ) (name : ObjName) → unframed_name (renamed_name ns n name) ≡ unframed_name name
name_same ns n (Static k) = refl
name_same ns n (Lit k) = refl
name_same ns n Argv = refl
name_same ns n (Arg k) = refl
name_same ns n (Auto frame turn decl) = refl
name_same ns n (Heap frame turn node) = refl

pub rows_same : (ns : List ℕ) (n : ℕ) (rows : List Row) → map unframed (map (renamed_row ns n) rows) ≡ map unframed rows
rows_same ns n [] = refl
rows_same ns n (row ∷ rows) =
    ap (λ name. record row { name = name } ∷ map unframed (map (renamed_row ns n) rows)) (name_same ns n row.name)
    ∙ ap (λ rest. unframed row ∷ rest) (rows_same ns n rows)

event_same : (ns : List ℕ) (n : ℕ) (event : Event) → SameEvent event (renamed_event ns n event)
event_same ns n event = record { turn = refl; node = refl; kind = refl }

-- ---- the frames that are named then

name_frames_same : (ns : List ℕ) (n : ℕ) (name : ObjName) → name_frames (renamed_name ns n name) ≡ map (number ns n) (name_frames name)
name_frames_same ns n (Static k) = refl
name_frames_same ns n (Lit k) = refl
name_frames_same ns n Argv = refl
name_frames_same ns n (Arg k) = refl
name_frames_same ns n (Auto frame turn decl) = refl
name_frames_same ns n (Heap frame turn node) = refl

map_append : (f : ℕ → ℕ) (xs ys : List ℕ) → map f (xs ++ ys) ≡ map f xs ++ map f ys
map_append f [] ys = refl
map_append f (x ∷ xs) ys = ap (λ zs. f x ∷ zs) (map_append f xs ys)

row_frames_same : (ns : List ℕ) (n : ℕ) (rows : List Row) → row_frames (map (renamed_row ns n) rows) ≡ map (number ns n) (row_frames rows)
row_frames_same ns n [] = refl
row_frames_same ns n (row ∷ rows) =
    ap (λ xs. xs ++ row_frames (map (renamed_row ns n) rows)) (name_frames_same ns n row.name)
    ∙ (ap (λ ys. map (number ns n) (name_frames row.name) ++ ys) (row_frames_same ns n rows)
    ∙ sym (map_append (number ns n) (name_frames row.name) (row_frames rows)))

pair_frames_same : (ns : List ℕ) (n : ℕ) (pair : Option (Event × Event)) → pair_frames (renamed_pair ns n pair) ≡ map (number ns n) (pair_frames pair)
pair_frames_same ns n None = refl
pair_frames_same ns n (Some pair) = refl

claim_frames_same : (ns : List ℕ) (n : ℕ) (claim : Claim) → claim_frames (renamed_claim ns n claim) ≡ map (number ns n) (claim_frames claim)
claim_frames_same ns n (Clean status output) = refl
claim_frames_same ns n (Undefined clause pair) = pair_frames_same ns n pair
claim_frames_same ns n (OrderDependent event against) = refl
claim_frames_same ns n OutOfSteps = refl
claim_frames_same ns n (Outside cause limit) = refl

frames_same : (ns : List ℕ) (n : ℕ) (rows : List Row) (claim : Claim)
    → named_frames (map (renamed_row ns n) rows) (renamed_claim ns n claim) ≡ map (number ns n) (named_frames rows claim)
frames_same ns n rows claim =
    ap (λ xs. xs ++ claim_frames (renamed_claim ns n claim)) (row_frames_same ns n rows)
    ∙ (ap (λ ys. map (number ns n) (row_frames rows) ++ ys) (claim_frames_same ns n claim)
    ∙ sym (map_append (number ns n) (row_frames rows) (claim_frames claim)))

min_left : (a b : ℕ) → a ≤ b → min a b ≡ a
min_left a b h = omega arith

numbers_same : (ns : List ℕ) (n : ℕ) → ((i : ℕ) → get_or ns i 0 ≤ n) → (fs : List ℕ) → map (number ns n) fs ≡ map (λ f. get_or ns f 0) fs
numbers_same ns n within [] = refl
numbers_same ns n within (f ∷ fs) =
    ap (λ m. m ∷ map (number ns n) fs) (min_left (get_or ns f 0) n (within f)) ∙ ap (λ ms. get_or ns f 0 ∷ ms) (numbers_same ns n within fs)

named_now : (ns : List ℕ) (n : ℕ) → ((i : ℕ) → get_or ns i 0 ≤ n) → (rows : List Row) (claim : Claim)
    → named_frames (map (renamed_row ns n) rows) (renamed_claim ns n claim) ≡ map (λ f. get_or ns f 0) (named_frames rows claim)
named_now ns n within rows claim = frames_same ns n rows claim ∙ numbers_same ns n within (named_frames rows claim)

pub paths_made : (all : List frames.Row) → IsFrameList all → (rows : List Row) (claim : Claim) → IsOfRun all rows claim → (kept : List frames.Row)
    → IsFrameList kept → (ns : List ℕ) → IsNumbered all (kept_marks all (named_frames rows claim)) (length all) kept ns
    → map (path_of kept) (named_frames (map (renamed_row ns (length kept)) rows) (renamed_claim ns (length kept) claim))
    ≡ map (path_of all) (named_frames rows claim)
paths_made all h rows claim of kept k ns is =
    let fs = named_frames rows claim in
    let within : AllByRecursion (λ f. f ≤ length all) fs = recursion_from_All (λ f. f ≤ length all) fs of.started in
    ap (map (path_of kept)) (named_now ns (length kept) is.within rows claim) ∙ named_paths all h fs within kept k ns is

pub needed_made : (all : List frames.Row) → IsFrameList all → (rows : List Row) (claim : Claim) → IsOfRun all rows claim → (kept : List frames.Row)
    → (ns : List ℕ) → IsNumbered all (kept_marks all (named_frames rows claim)) (length all) kept ns → (i : ℕ) → i < length kept
    → Needed kept (named_frames (map (renamed_row ns (length kept)) rows) (renamed_claim ns (length kept) claim)) (suc i)
needed_made all h rows claim of kept ns is i less =
    let fs = named_frames rows claim in
    let within : AllByRecursion (λ f. f ≤ length all) fs = recursion_from_All (λ f. f ≤ length all) fs of.started in
    subst (λ gs. Needed kept gs (suc i)) (sym (named_now ns (length kept) is.within rows claim)) (kept_needed all h fs within kept ns is i less)

-- ---- the form

kept_row : (all : List frames.Row) (marks : List Bool) (kept : List frames.Row) (ns : List ℕ) → IsNumbered all marks (length all) kept ns
    → All IsFrameRow all → (i : ℕ) → i < length kept → IsFrameRow (get_or kept i (frame_at 0, 0, 0))
kept_row all marks kept ns is fine i less =
    let o = is.only i less in
    let found = slice_get_some all o.at o.within in
    let row = found.0 in
    let there = is.there o.at row o.within o.marked found.1 in
    let place : get_or ns (suc o.at) 0 - 1 ≡ i = omega (arith, o.is) in
    let at : slice_get kept i ≡ Some (moved ns row) = subst (λ j. slice_get kept j ≡ Some (moved ns row)) place there.1 in
    let was : IsFrameRow row = subst IsFrameRow (get_or_from_slice_get all o.at row row found.1) (All-get_or IsFrameRow all o.at row o.within fine) in
    subst IsFrameRow (sym (get_or_from_slice_get kept i (moved ns row) (frame_at 0, 0, 0) at)) (record { turn = was.turn; node = was.node })

min_right : (a b : ℕ) → min a b ≤ b
min_right a b = omega arith

name_form : (ns : List ℕ) (n m : ℕ) (name : ObjName) → IsNameOf m name → IsNameOf n (renamed_name ns n name)
name_form ns n m (Static k) h = h
name_form ns n m (Lit k) h = h
name_form ns n m Argv h = h
name_form ns n m (Arg k) h = h
name_form ns n m (Auto frame turn decl) h = (min_right (get_or ns frame.0 0) n, h.1, h.2)
name_form ns n m (Heap frame turn node) h = (min_right (get_or ns frame.0 0) n, h.1, h.2)

row_form : (ns : List ℕ) (n m : ℕ) (row : Row) → IsRowOf m row → IsRowOf n (renamed_row ns n row)
row_form ns n m row h = record { name = name_form ns n m row.name h.name; base = h.base; size = h.size; align = h.align }

event_form : (ns : List ℕ) (n m : ℕ) (event : Event) → IsEventOf m event → IsEventOf n (renamed_event ns n event)
event_form ns n m event h = record { frame = min_right (get_or ns event.frame.0 0) n; turn = h.turn; node = h.node }

pair_form : (ns : List ℕ) (n m : ℕ) (pair : Option (Event × Event)) → IsPairOf m pair → IsPairOf n (renamed_pair ns n pair)
pair_form ns n m None h = tt
pair_form ns n m (Some pair) h = (event_form ns n m pair.0 h.0, event_form ns n m pair.1 h.1)

claim_form : (ns : List ℕ) (n m : ℕ) (claim : Claim) → IsClaimOf m claim → IsClaimOf n (renamed_claim ns n claim)
claim_form ns n m (Clean status output) h = h
claim_form ns n m (Undefined clause pair) h = pair_form ns n m pair h
claim_form ns n m (OrderDependent event against) h = (event_form ns n m event h.0, event_form ns n m against h.1)
claim_form ns n m OutOfSteps h = h
claim_form ns n m (Outside cause limit) h = h

suits_form : (ns : List ℕ) (n : ℕ) (claim : Claim) (order : List Segment) → SuitsClaim claim order → SuitsClaim (renamed_claim ns n claim) order
suits_form ns n (Clean status output) order h = h
suits_form ns n (Undefined clause pair) order h = h
suits_form ns n (OrderDependent event against) order h = h
suits_form ns n OutOfSteps order h = h
suits_form ns n (Outside cause limit) order h = h

length_map : (f : Row → Row) (rows : List Row) → length (map f rows) ≡ length rows
length_map f [] = refl
length_map f (row ∷ rows) = ap suc (length_map f rows)

pub form_made : (all : List frames.Row) (marks : List Bool) (rows : List Row) (picks : ℕ) (claim : Claim) → HasForm Two (whole all rows picks claim)
    → (kept : List frames.Row) → IsFrameList kept → (ns : List ℕ) → IsNumbered all marks (length all) kept ns
    → HasForm Two (whole kept (map (renamed_row ns (length kept)) rows) picks (renamed_claim ns (length kept) claim))
form_made all marks rows picks claim form kept k ns is =
    let few = is.few in
    let was = form.frames.few in
    record {
      frames = record {
        few = omega arith;
        sound = k;
        numbers = All-from_get_or IsFrameRow kept (frame_at 0, 0, 0) (kept_row all marks kept ns is form.frames.numbers);
      };
      map = All-map (IsRowOf (length kept)) (renamed_row ns (length kept)) rows
          (All-weaker (IsRowOf (length all)) (λ row. IsRowOf (length kept) (renamed_row ns (length kept) row))
          (row_form ns (length kept) (length all)) rows form.map);
      few = omega (arith, form.few, length_map (renamed_row ns (length kept)) rows);
      segments = form.segments;
      picks = form.picks;
      order = suits_form ns (length kept) claim (canonical_order picks) form.order;
      claim = claim_form ns (length kept) (length all) claim form.claim;
    }

-- ---- all of it

-- what an audit's certificate is made of
pub record Built (all : List frames.Row) (rows : List Row) (claim : Claim) (kept : List frames.Row) (new_rows : List Row) (new_claim : Claim) : Type 0 where
  pub numbers : List ℕ
  pub sound : IsFrameList all
  pub kept_sound : IsFrameList kept
  pub numbered : IsNumbered all (kept_marks all (named_frames rows claim)) (length all) kept numbers
  pub rows_now : new_rows ≡ map (renamed_row numbers (length kept)) rows
  pub claim_now : new_claim ≡ renamed_claim numbers (length kept) claim

pub built : (all : List frames.Row) (rows given : List Row) (claim : Claim) (marks : List Bool) (kept : List frames.Row) (numbers : List ℕ) (count : ℕ)
    (new_rows : List Row) (new_claim : Claim) → IsFrameList all → IsFrameList kept → given ≡ rows → marks ≡ kept_marks all (named_frames given claim)
    → IsNumbered all marks (length all) kept numbers → count ≡ length kept → new_rows ≡ map (renamed_row numbers count) given
    → new_claim ≡ renamed_claim numbers count claim → Built all rows claim kept new_rows new_claim
built all rows given claim marks kept numbers count new_rows new_claim sound kept_sound same marked is counted rows_is claim_is = record {
  numbers = numbers;
  sound = sound;
  kept_sound = kept_sound;
  numbered = subst (λ m. IsNumbered all m (length all) kept numbers) (marked ∙ ap (λ rs. kept_marks all (named_frames rs claim)) same) is;
  rows_now = rows_is ∙ (ap (λ n. map (renamed_row numbers n) given) counted ∙ ap (map (renamed_row numbers (length kept))) same);
  claim_now = claim_is ∙ ap (λ n. renamed_claim numbers n claim) counted;
}

pub built_rows : (rows given new_rows : List Row) (numbers : List ℕ) (count : ℕ) → given ≡ rows → new_rows ≡ map (renamed_row numbers count) given
    → map unframed new_rows ≡ map unframed rows
built_rows rows given new_rows numbers count same is = ap (map unframed) is ∙ (rows_same numbers count given ∙ ap (map unframed) same)

pub built_paths : (all : List frames.Row) (rows : List Row) (claim : Claim) (kept : List frames.Row) (new_rows : List Row) (new_claim : Claim)
    → Built all rows claim kept new_rows new_claim → IsOfRun all rows claim
    → map (path_of kept) (named_frames new_rows new_claim) ≡ map (path_of all) (named_frames rows claim)
built_paths all rows claim kept new_rows new_claim b of =
    ap (λ rs. map (path_of kept) (named_frames rs new_claim)) b.rows_now
    ∙ (ap (λ cl. map (path_of kept) (named_frames (map (renamed_row b.numbers (length kept)) rows) cl)) b.claim_now
    ∙ paths_made all b.sound rows claim of kept b.kept_sound b.numbers b.numbered)

pub built_needed : (all : List frames.Row) (rows : List Row) (claim : Claim) (kept : List frames.Row) (new_rows : List Row) (new_claim : Claim)
    → Built all rows claim kept new_rows new_claim → IsOfRun all rows claim → (i : ℕ) → i < length kept
    → Needed kept (named_frames new_rows new_claim) (suc i)
built_needed all rows claim kept new_rows new_claim b of i less =
    subst (λ rs. Needed kept (named_frames rs new_claim) (suc i)) (sym b.rows_now)
    (subst (λ cl. Needed kept (named_frames (map (renamed_row b.numbers (length kept)) rows) cl) (suc i)) (sym b.claim_now)
    (needed_made all b.sound rows claim of kept b.numbers b.numbered i less))

pub built_form : (all : List frames.Row) (rows : List Row) (picks : ℕ) (claim : Claim) (kept : List frames.Row) (new_rows : List Row) (new_claim : Claim)
    (order : List Segment) → Built all rows claim kept new_rows new_claim → order ≡ canonical_order picks → HasForm Two (whole all rows picks claim)
    → HasForm Two (record { frames = kept; map = new_rows; order = order; claim = new_claim })
built_form all rows picks claim kept new_rows new_claim order b ordered form =
    subst (λ o. HasForm Two (record { frames = kept; map = new_rows; order = o; claim = new_claim })) (sym ordered)
    (subst (λ rs. HasForm Two (whole kept rs picks new_claim)) (sym b.rows_now)
    (subst (λ cl. HasForm Two (whole kept (map (renamed_row b.numbers (length kept)) rows) picks cl)) (sym b.claim_now)
    (form_made all (kept_marks all (named_frames rows claim)) rows picks claim form kept b.kept_sound b.numbers b.numbered)))
