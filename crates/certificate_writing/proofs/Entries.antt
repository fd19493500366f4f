-- Lists of values, and that no value of a certificate has a float.
use Rattle.std.proofs.Common.{
  Vec,
  Global,
  ◌≡◌,
  ◌⊎◌,
  ◌||◌,
  ℕ,
  zero,
  suc,
  max,
  ◌<◌,
  ◌≤◌,
  Bool,
  false,
  List,
  [],
  ◌∷◌,
  ◌++◌,
  length,
  map,
  take,
  drop,
  get_or,
  Some,
  None,
  refl,
  sym,
  ap,
  subst,
  ◌∙◌,
  arith,
  inl,
  inr,
  append_assoc,
  append-nil,
}
use Rattle.std.proofs.lemmas.List.{map-append}
use Rattle.std.proofs.Math.Seq.{take-suc}
use Rattle.serde_json.specs.Data.{Data, depth, items_depth, members_depth}
use Rattle.serde_json.specs.Read.{read, max_depth}
use Rattle.serde_json.specs.View.{view, items_of}
use Rattle.serde_json.specs.Written.{has_float, items_have_float, members_have_float, compact_text}
use Rattle.serde_json.specs.declared.value.Value.{Value, Array}
use Rattle.serde_json.proofs.Views.{view-Array}
use Rattle.ub_base.specs.Frames as frames
use Rattle.ub_base.specs.declared.names.ObjName.{ObjName}
use Rattle.ub_base.specs.declared.names.ObjName.TheVariants.{Static, Lit, Argv, Arg, Auto, Heap}
use Rattle.addr_map.specs.declared.map.Row.{Row}
use Rattle.certificate.specs.declared.cert.Cert.{Cert}
use Rattle.certificate.specs.declared.cert.Claim.{Claim}
use Rattle.certificate.specs.declared.cert.Claim.TheVariants.{Clean, Undefined, OrderDependent, OutOfSteps, Outside}
use Rattle.certificate.specs.declared.cert.Segment.{Segment}
use Rattle.certificate.specs.declared.cert.Segment.TheVariants.{Canonical, Pick}
use Rattle.certificate_text.specs.declared.row.Run.{Run}
use Rattle.certificate_writing.specs.Members.{common, with_claim}
use Rattle.certificate_writing.specs.Writing.{IsAlone, IsRun, IsTextOf, Packs, frame_entry, list, members, row_entry, run_entry, segment_entry, value_of}
use Rattle.serde_json.proofs.OnLiterals.{serde_json_on_literals}

take_all : {A : Type 0} (xs : List A) (n : ℕ) → length xs ≤ n → take n xs ≡ xs
take_all [] zero le = refl
take_all [] (suc n) le = refl
take_all (x ∷ xs) zero le = absurd (omega arith)
take_all (x ∷ xs) (suc n) le = ap (λ ys. x ∷ ys) (take_all xs n (omega arith))

-- one more item
pub grown : {A : Type 0} (f : A → Data) (xs : List A) (at n : ℕ) (x : A) (items new : List Value) (value : Value) → map view items ≡ map f (take at xs)
    → at < length xs → suc at ≡ n → x ≡ get_or xs at x → view value ≡ f x → new ≡ items ++ value ∷ [] → map view new ≡ map f (take n xs)
grown f xs at n x items new value so_far lt next is made pushed =
    subst (λ m. map view new ≡ map f (take m xs)) next
    (ap (map view) pushed ∙ map-append view items (value ∷ []) ∙ ap (λ ds. ds ++ view value ∷ []) so_far
    ∙ ap (λ d. map f (take at xs) ++ d ∷ []) (made ∙ ap f is) ∙ sym (map-append f (take at xs) (get_or xs at x ∷ [])) ∙ ap (map f) (sym (take-suc xs at x lt)))

-- ---- the map

-- an entry before those of the rows that are left
pub packs_one : (rows rest : List Row) (all : List Row) (before : List Data) (entry : Data) → IsAlone rows rest entry ⊎ IsRun rows rest entry
    → ((entries : List Data) → Packs rows entries → Packs all (before ++ entries)) → (entries : List Data) → Packs rest entries
    → Packs all ((before ++ entry ∷ []) ++ entries)
packs_one rows rest all before entry one so_far entries more =
    subst (Packs all) (sym (append_assoc before (entry ∷ []) entries)) (so_far (entry ∷ entries) (rest, one, more))

pub packs_grown : (rows rest all : List Row) (items new : List Value) (value : Value) → IsAlone rows rest (view value) ⊎ IsRun rows rest (view value)
    → new ≡ items ++ value ∷ [] → ((entries : List Data) → Packs rows entries → Packs all (map view items ++ entries))
    → (entries : List Data) → Packs rest entries → Packs all (map view new ++ entries)
packs_grown rows rest all items new value one pushed so_far entries more =
    subst (λ ds. Packs all (ds ++ entries)) (sym (ap (map view) pushed ∙ map-append view items (value ∷ [])))
    (packs_one rows rest all (map view items) (view value) one so_far entries more)

pub none_left : {A : Type 0} (xs : List A) → length xs ≤ 0 → xs ≡ []
none_left [] le = refl
none_left (x ∷ xs) le = absurd (omega arith)

pub packs_all : (all rest : List Row) (items : List Data) → rest ≡ [] → ((entries : List Data) → Packs rest entries → Packs all (items ++ entries)) →
    Packs all items
packs_all all rest items none so_far = subst (Packs all) (append-nil items) (so_far [] none)

-- ---- no floats

neither : (a b : Bool) → a ≡ false → b ≡ false → a || b ≡ false
neither a b p q = rw (p, q) refl

words_plain : (name : ObjName) (base size align : ℕ) → has_float (row_entry (record { name = name; base = base; size = size; align = align })) ≡ false
words_plain (Static k) base size align = refl
words_plain (Lit k) base size align = refl
words_plain Argv base size align = refl
words_plain (Arg k) base size align = refl
words_plain (Auto frame turn k) base size align = refl
words_plain (Heap frame turn k) base size align = refl

row_plain : (row : Row) → has_float (row_entry row) ≡ false
row_plain row = words_plain row.name row.base row.size row.align

run_plain : (run : Run) → has_float (run_entry run) ≡ false
run_plain run = rw (row_plain run.first) refl

entry_plain : (rows rest : List Row) (entry : Data) → IsAlone rows rest entry ⊎ IsRun rows rest entry → has_float entry ≡ false
entry_plain rows rest entry (inl alone) = ap has_float alone.written ∙ row_plain alone.first
entry_plain rows rest entry (inr run) = ap has_float run.written ∙ run_plain run.run

entries_plain : (rows : List Row) (entries : List Data) → Packs rows entries → items_have_float (items_of entries) ≡ false
entries_plain rows [] packs = refl
entries_plain rows (entry ∷ entries) packs = neither _ _ (entry_plain rows packs.0 entry packs.1) (entries_plain packs.0 entries packs.2)

frames_plain : (rows : List frames.Row) → items_have_float (items_of (map frame_entry rows)) ≡ false
frames_plain [] = refl
frames_plain (row ∷ rows) = frames_plain rows

segments_plain : (order : List Segment) → items_have_float (items_of (map segment_entry order)) ≡ false
segments_plain [] = refl
segments_plain (Canonical count ∷ order) = segments_plain order
segments_plain (Pick node kind ∷ order) = segments_plain order

members_plain : (claim : Claim) (frames map order : Data) → has_float frames ≡ false → has_float map ≡ false → has_float order ≡ false
    → members_have_float (members claim frames map order) ≡ false
members_plain (Clean status output) frames map order f m o = rw (f, m, o) refl
members_plain (Undefined clause None) frames map order f m o = rw (f, m, o) refl
members_plain (Undefined clause (Some pair)) frames map order f m o = rw (f, m, o) refl
members_plain (OrderDependent event against) frames map order f m o = rw (f, m, o) refl
members_plain OutOfSteps frames map order f m o = rw (f, m, o) refl
members_plain (Outside cause limit) frames map order f m o = rw (f, m, o) refl

pub value_plain : (c : Cert) (entries : List Data) → Packs c.map entries → has_float (value_of c entries) ≡ false
value_plain c entries packs =
    members_plain c.claim (list (map frame_entry c.frames)) (list entries) (list (map segment_entry c.order)) (frames_plain c.frames)
    (entries_plain c.map entries packs) (segments_plain c.order)

-- ---- how deep a value nests

at_most : (a b n : ℕ) → a ≤ n → b ≤ n → max a b ≤ n
at_most a b n p q = omega arith

words_depth : (name : ObjName) (base size align : ℕ) → depth (row_entry (record { name = name; base = base; size = size; align = align })) ≡ 1
words_depth (Static k) base size align = refl
words_depth (Lit k) base size align = refl
words_depth Argv base size align = refl
words_depth (Arg k) base size align = refl
words_depth (Auto frame turn k) base size align = refl
words_depth (Heap frame turn k) base size align = refl

row_depth : (row : Row) → depth (row_entry row) ≡ 1
row_depth row = words_depth row.name row.base row.size row.align

run_depth : (run : Run) → depth (run_entry run) ≡ 2
run_depth run = rw (row_depth run.first) refl

entry_depth : (rows rest : List Row) (entry : Data) → IsAlone rows rest entry ⊎ IsRun rows rest entry → depth entry ≤ 2
entry_depth rows rest entry (inl alone) = let is = ap depth alone.written ∙ row_depth alone.first in omega arith
entry_depth rows rest entry (inr run) = let is = ap depth run.written ∙ run_depth run.run in omega arith

entries_depth : (rows : List Row) (entries : List Data) → Packs rows entries → items_depth (items_of entries) ≤ 2
entries_depth rows [] packs = omega arith
entries_depth rows (entry ∷ entries) packs = at_most _ _ 2 (entry_depth rows packs.0 entry packs.1) (entries_depth packs.0 entries packs.2)

frames_depth : (rows : List frames.Row) → items_depth (items_of (map frame_entry rows)) ≤ 1
frames_depth [] = omega arith
frames_depth (row ∷ rows) = at_most 1 _ 1 (omega arith) (frames_depth rows)

segments_depth : (order : List Segment) → items_depth (items_of (map segment_entry order)) ≤ 1
segments_depth [] = omega arith
segments_depth (Canonical count ∷ order) = at_most 0 _ 1 (omega arith) (segments_depth order)
segments_depth (Pick node kind ∷ order) = at_most 1 _ 1 (omega arith) (segments_depth order)

members_within : (claim : Claim) (frames map order : Data) → depth frames ≤ 3 → depth map ≤ 3 → depth order ≤ 3
    → members_depth (members claim frames map order) ≤ 3
members_within (Clean status output) frames map order f m o = at_most _ _ 3 f (at_most _ _ 3 m (at_most _ _ 3 o (omega arith)))
members_within (Undefined clause None) frames map order f m o = at_most 0 _ 3 (omega arith) (at_most _ _ 3 f (at_most _ _ 3 m (at_most _ _ 3 o (omega arith))))
members_within (Undefined clause (Some pair)) frames map order f m o =
    at_most 0 _ 3 (omega arith) (at_most _ _ 3 f (at_most _ _ 3 m (at_most _ _ 3 o (omega arith))))
members_within (OrderDependent event against) frames map order f m o = at_most _ _ 3 f (at_most _ _ 3 m (at_most _ _ 3 o (omega arith)))
members_within OutOfSteps frames map order f m o = at_most _ _ 3 f (at_most _ _ 3 m (at_most _ _ 3 o (omega arith)))
members_within (Outside cause limit) frames map order f m o =
    at_most 0 _ 3 (omega arith) (at_most _ _ 3 f (at_most _ _ 3 m (at_most 0 _ 3 (omega arith) (at_most _ _ 3 o (omega arith)))))

pub value_depth : (c : Cert) (entries : List Data) → Packs c.map entries → depth (value_of c entries) ≤ max_depth
value_depth c entries packs =
    let f = frames_depth c.frames in
    let m = entries_depth c.map entries packs in
    let o = segments_depth c.order in
    let all = members_within c.claim (list (map frame_entry c.frames)) (list entries) (list (map segment_entry c.order)) (omega arith) (omega arith)
    (omega arith) in
    omega arith

-- ---- the members in order

-- ---- lists of values and the text

-- the value of a list that is done
pub array_of : {A : Type 0} (f : A → Data) (xs : List A) (at : ℕ) (v : Vec Value Global) → map view v.items ≡ map f (take at xs) → length xs ≤ at
    → view (Array v) ≡ list (map f xs)
array_of f xs at v so_far done = view-Array v ∙ ap list (so_far ∙ ap (map f) (take_all xs at done))

pub text_of : (c : Cert) (d : Data) (entries : List Data) (bytes text : List ℕ) → Packs c.map entries → d ≡ value_of c entries → bytes ≡ text
    → (has_float d ≡ false → text ≡ compact_text d) → (depth d ≤ max_depth → read text ≡ Some d) → IsTextOf c bytes
text_of c d entries bytes text packs is same written reads =
    let plain : has_float d ≡ false = ap has_float is ∙ value_plain c entries packs in
    let shallow : depth d ≤ max_depth = subst (λ e. depth e ≤ max_depth) (sym is) (value_depth c entries packs) in
    record {
      entries = entries;
      packs = packs;
      compact = same ∙ written plain ∙ ap compact_text is;
      reads = ap read same ∙ reads shallow ∙ ap Some is;
    }
