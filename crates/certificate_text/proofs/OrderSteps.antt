-- A loop over the order of a certificate, a stretch at a time.
use Rattle.std.proofs.Common.{
  ◌≡◌,
  ℕ,
  ◌+◌,
  ◌<◌,
  ◌≤◌,
  Bool,
  true,
  false,
  cond,
  nat_le,
  List,
  [],
  ◌∷◌,
  ◌++◌,
  length,
  map,
  drop,
  get_or,
  Option,
  Some,
  None,
  option_map,
  refl,
  sym,
  ap,
  ◌∙◌,
  arith,
  append_assoc,
  append-nil,
}
use Rattle.std.proofs.lemmas.Bool.Decides.{nat_tests}
use Rattle.serde_json.specs.Data.{Data}
use Rattle.serde_json.specs.View.{view}
use Rattle.serde_json.specs.declared.value.Value.{Value}
use Rattle.certificate.specs.declared.cert.Segment.{Segment}
use Rattle.certificate.specs.Form.{picks_of, total_picks}
use Rattle.certificate_text.specs.Reading.{◌>>=◌, kept, segment_in, segments_in, short_segments}
use Rattle.certificate_text.proofs.Steps.{at_view}

-- stretches, and those that follow
abbrev pub behind : List Segment → Option (List Segment) → Option (List Segment)
behind order more = option_map (λ rest. order ++ rest) more

pub total_picks-append : (xs ys : List Segment) → total_picks (xs ++ ys) ≡ total_picks xs + total_picks ys
total_picks-append [] ys = omega arith
total_picks-append (x ∷ xs) ys = let rest = total_picks-append xs ys in omega arith

behind_one : (order : List Segment) (segment : Segment) (rest : Option (List Segment))
    → behind order (rest >>= λ more. Some (segment ∷ more)) ≡ behind (order ++ segment ∷ []) rest
behind_one order segment None = refl
behind_one order segment (Some more) = ap Some (sym (append_assoc order (segment ∷ []) more))

pub segments_next : (d : Data) (ds : List Data) (order : List Segment) (segment : Segment) → segment_in d ≡ Some segment
    → behind order (segments_in (d ∷ ds)) ≡ behind (order ++ segment ∷ []) (segments_in ds)
segments_next d ds order segment is = rw is (behind_one order segment (segments_in ds))

short_none : (b : Bool) (order : List Segment) → b ≡ false → cond b (Some order) None ≡ None
short_none true order h = absurd (cc)
short_none false order h = refl

-- an order whose front has too many picks has too many
pub too_many : (most : ℕ) (order : List Segment) (rest : Option (List Segment)) → most < total_picks order
    → (behind order rest >>= kept (λ all. nat_le (total_picks all) most)) ≡ None
too_many most order None many = refl
too_many most order (Some more) many =
    let all = total_picks-append order more in
    let over : most < total_picks (order ++ more) = omega arith in
    short_none (nat_le (total_picks (order ++ more)) most) (order ++ more) (grind (arith, nat_tests, over))

-- a stretch was added
pub segment_added : (xs : List Value) (i : ℕ) (x : Value) (order new : List Segment) (segment : Segment)
    → segments_in (map view xs) ≡ behind order (segments_in (map view (drop i xs))) → i < length xs → x ≡ get_or xs i x
    → segment_in (view x) ≡ Some segment → new ≡ order ++ segment ∷ [] → segments_in (map view xs) ≡ behind new (segments_in (map view (drop (i + 1) xs)))
segment_added xs i x order new segment all within is found added =
    all ∙ at_view (λ ds. behind order (segments_in ds)) xs i x within is
    ∙ segments_next (view x) (map view (drop (i + 1) xs)) order segment found
    ∙ ap (λ o. behind o (segments_in (map view (drop (i + 1) xs)))) (sym added)

-- with this stretch there are too many picks
pub segment_too_many : (most : ℕ) (xs : List Value) (i : ℕ) (x : Value) (order : List Segment) (segment : Segment)
    → segments_in (map view xs) ≡ behind order (segments_in (map view (drop i xs))) → i < length xs → x ≡ get_or xs i x
    → segment_in (view x) ≡ Some segment → most < total_picks order + picks_of segment → short_segments most (map view xs) ≡ None
segment_too_many most xs i x order segment all within is found many =
    let sum = total_picks-append order (segment ∷ []) in
    let over : most < total_picks (order ++ segment ∷ []) = omega (arith, sum, many) in
    ap (λ r. r >>= kept (λ o. nat_le (total_picks o) most)) (segment_added xs i x order (order ++ segment ∷ []) segment all within is found refl)
    ∙ too_many most (order ++ segment ∷ []) (segments_in (map view (drop (i + 1) xs))) over

pub total_of_push : (order new : List Segment) (segment : Segment) → new ≡ order ++ segment ∷ [] → total_picks new ≡ total_picks order + picks_of segment
total_of_push order new segment added =
    let sum = total_picks-append order (segment ∷ []) in
    let same = ap total_picks added in
    omega (arith, sum, same)
