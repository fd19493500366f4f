-- Loops over the map of a certificate: the rows of a run, and the entries.
use Rattle.std.proofs.Common.{
  ◌≡◌,
  ℕ,
  zero,
  suc,
  ◌+◌,
  ◌<◌,
  Bool,
  true,
  false,
  cond,
  List,
  [],
  ◌∷◌,
  ◌++◌,
  length,
  map,
  drop,
  get_or,
  Option,
  Some,
  None,
  option_map,
  refl,
  sym,
  ap,
  ◌∙◌,
  arith,
  append_assoc,
  length-append,
  append-nil,
}
use Rattle.std.proofs.lemmas.Bool.Decides.{nat_tests}
use Rattle.serde_json.specs.Data.{Data}
use Rattle.serde_json.specs.View.{view}
use Rattle.serde_json.specs.declared.value.Value.{Value}
use Rattle.addr_map.specs.declared.map.Row.{Row}
use Rattle.certificate_text.specs.declared.row.Stride.{Stride}
use Rattle.certificate.specs.declared.cert.Version.{Version}
use Rattle.certificate.specs.declared.cert.Version.TheVariants.{One, Two}
use Rattle.certificate_text.specs.Reading.{◌>>=◌, kept, row_at, run_rows, entry_in, rows_in, map_in, has_few_rows, Adds, IsTooMuch}
use Rattle.certificate_text.proofs.Steps.{at_view}

-- rows, and those that follow
abbrev pub behind : List Row → Option (List Row) → Option (List Row)
behind rows more = option_map (λ rest. rows ++ rest) more

behind_one : (taken : List Row) (row : Row) (rest : Option (List Row)) → behind taken (rest >>= λ rows. Some (row ∷ rows)) ≡ behind (taken ++ row ∷ []) rest
behind_one taken row None = refl
behind_one taken row (Some rows) = ap Some (sym (append_assoc taken (row ∷ []) rows))

len_by : (n : ℕ) (found : Option Row) (more : Option (List Row)) (rows : List Row) → (found >>= λ row. more >>= λ rest. Some (row ∷ rest)) ≡ Some rows
    → ((rest : List Row) → more ≡ Some rest → length rest ≡ n) → length rows ≡ suc n
len_by n None more rows is len = absurd (cc)
len_by n (Some row) None rows is len = absurd (cc)
len_by n (Some row) (Some rest) rows is len =
    let same : row ∷ rest ≡ rows = cc in
    let count = len rest refl in
    ap length (sym same) ∙ ap suc count

-- a run has so many rows
pub length-run_rows : (first : Row) (stride : Stride) (at n : ℕ) (rows : List Row) → run_rows first stride at n ≡ Some rows → length rows ≡ n
length-run_rows first stride at zero rows is = let same : [] ≡ rows = cc in ap length (sym same)
length-run_rows first stride at (suc n) rows is =
    len_by n (row_at first stride at) (run_rows first stride (at + 1) n) rows is (λ rest h. length-run_rows first stride (at + 1) n rest h)

too_long : (old : List Row) (n : ℕ) (made : Option (List Row)) → ((rows : List Row) → made ≡ Some rows → length rows ≡ n) → 4194304 < length old + n →
    IsTooMuch Two old made
too_long old n None len many = tt
too_long old n (Some rows) len many =
    let count = len rows refl in
    let all = length-append old rows in
    let over : 4194304 < length (old ++ rows) = omega arith in
    grind (arith, nat_tests, over)

-- ---- entries

behind_more : (rows more : List Row) (rest : Option (List Row)) → behind rows (rest >>= λ later. Some (more ++ later)) ≡ behind (rows ++ more) rest
behind_more rows more None = refl
behind_more rows more (Some later) = ap Some (sym (append_assoc rows more later))

pub rows_next : (version : Version) (count : ℕ) (d : Data) (ds : List Data) (rows more : List Row) → entry_in version count d ≡ Some more
    → behind rows (rows_in version count (d ∷ ds)) ≡ behind (rows ++ more) (rows_in version count ds)
rows_next version count d ds rows more is = rw is (behind_more rows more (rows_in version count ds))

few_append : (version : Version) (xs ys : List Row) → has_few_rows version xs ≡ false → has_few_rows version (xs ++ ys) ≡ false
few_append One xs ys h = absurd (cc)
few_append Two xs ys h = let all = length-append xs ys in grind (arith, nat_tests, all, h)

few_none : (b : Bool) (rows : List Row) → b ≡ false → cond b (Some rows) None ≡ None
few_none true rows h = absurd (cc)
few_none false rows h = refl

too_much_by : (version : Version) (rows : List Row) (found : Option (List Row)) (more : Option (List Row)) → IsTooMuch version rows found
    → (behind rows (found >>= λ entry. more >>= λ rest. Some (entry ++ rest)) >>= kept (has_few_rows version)) ≡ None
too_much_by version rows None more much = refl
too_much_by version rows (Some entry) None much = refl
too_much_by version rows (Some entry) (Some rest) much =
    few_none _ _ (ap (has_few_rows version) (sym (append_assoc rows entry rest)) ∙ few_append version (rows ++ entry) rest much)

pub rows_too_much : (version : Version) (count : ℕ) (d : Data) (ds : List Data) (rows : List Row) → IsTooMuch version rows (entry_in version count d)
    → (behind rows (rows_in version count (d ∷ ds)) >>= kept (has_few_rows version)) ≡ None
rows_too_much version count d ds rows much = too_much_by version rows (entry_in version count d) (rows_in version count ds) much

-- an entry was added
pub entry_added : (version : Version) (count : ℕ) (xs : List Value) (i : ℕ) (x : Value) (rows new : List Row)
    → rows_in version count (map view xs) ≡ behind rows (rows_in version count (map view (drop i xs))) → i < length xs → x ≡ get_or xs i x
    → Adds rows new (entry_in version count (view x)) → rows_in version count (map view xs) ≡ behind new (rows_in version count (map view (drop (i + 1) xs)))
entry_added version count xs i x rows new all within is added =
    all ∙ at_view (λ ds. behind rows (rows_in version count ds)) xs i x within is
    ∙ rows_next version count (view x) (map view (drop (i + 1) xs)) rows added.0 added.1
    ∙ ap (λ r. behind r (rows_in version count (map view (drop (i + 1) xs)))) (sym added.2)

-- an entry is none, or too much
pub entry_refused : (version : Version) (count : ℕ) (xs : List Value) (i : ℕ) (x : Value) (rows : List Row)
    → rows_in version count (map view xs) ≡ behind rows (rows_in version count (map view (drop i xs))) → i < length xs → x ≡ get_or xs i x
    → IsTooMuch version rows (entry_in version count (view x)) → map_in version count (map view xs) ≡ None
entry_refused version count xs i x rows all within is much =
    ap (λ r. r >>= kept (has_few_rows version)) (all ∙ at_view (λ ds. behind rows (rows_in version count ds)) xs i x within is)
    ∙ rows_too_much version count (view x) (map view (drop (i + 1) xs)) rows much
