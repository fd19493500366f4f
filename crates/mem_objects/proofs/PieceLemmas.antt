-- The bytes of values as cells.
use Rattle.std.proofs.Common.{
  ◌≡◌,
  ℕ,
  zero,
  suc,
  ◌+◌,
  ◌-◌,
  ◌/◌,
  ◌%◌,
  ◌<◌,
  ◌≤◌,
  Bool,
  true,
  false,
  cond,
  refl,
  sym,
  ap,
  ◌∙◌,
  subst,
  arith,
  append_assoc,
  List,
  [],
  ◌∷◌,
  ◌++◌,
  length,
  take,
  set,
  map,
  Option,
  Some,
  None,
}
use Rattle.std.proofs.lemmas.List.{length-set, take_more_set}
use Rattle.ub_base.specs.declared.names.ObjName.{ObjName}
use Rattle.ub_base.specs.Names.{same_object}
use Rattle.ub_base.proofs.NameLemmas.{same_object_is}
use Rattle.exposure.specs.declared.prov.Prov.{Prov}
use Rattle.exposure.specs.declared.prov.Prov.TheVariants.{Empty, Whole}
use Rattle.c_types.specs.Types.{CType}
use Rattle.mem_objects.specs.declared.cell.Cell.{Cell}
use Rattle.mem_objects.specs.declared.cell.Origin.{Origin}
use Rattle.mem_spec.specs.Store.{TaggedByte, written}
use Rattle.mem_objects.specs.Cells.{plain_cell, piece_cell, tagged_in, prov_numbered}
use Rattle.mem_spec.specs.Acts.{same_prov}
use Rattle.mem_objects.specs.Held.{Held, held_of, changed, uncovered}
use Rattle.mem_objects.specs.Memory.{uncovered_each, CellsKnown}
use Rattle.mem_objects.specs.Made.{EachNamed}
use Rattle.mem_objects.proofs.ProvLemmas.{number_stays, prov_last}
use Rattle.mem_spec.specs.Bytes.{number_bytes, pointer_bytes}
use Rattle.mem_objects.specs.Pieces.{plain_cells, piece_cells}

pub seen_pieces : (ps : List Prov) (ts : List CType) (k i : ℕ) (o : Origin) (n : ℕ) →
    map (tagged_in ps ts) (piece_cells k i o n) ≡ pointer_bytes k i (prov_numbered ps o.number) n
seen_pieces ps ts zero i o n = refl
seen_pieces ps ts (suc k) i o n = ap (λ (bs : List TaggedByte). record { byte = written (n % 256) (Some (prov_numbered ps o.number, i)); tag = None } ∷ bs)
    (seen_pieces ps ts k (suc i) o (n / 256))

pub seen_plain : (ps : List Prov) (ts : List CType) (k n : ℕ) → map (tagged_in ps ts) (plain_cells k n) ≡ number_bytes k n
seen_plain ps ts zero n = refl
seen_plain ps ts (suc k) n = ap (λ (bs : List TaggedByte). record { byte = written (n % 256) None; tag = None } ∷ bs) (seen_plain ps ts k (n / 256))

-- ---- one cell more
piece_step : (n i : ℕ) (o : Origin) (r : ℕ) → i < n → piece_cells (n - i) i o r ≡ piece_cell (r % 256) o i ∷ piece_cells (n - (i + 1)) (i + 1) o (r / 256)
piece_step n i o r lt =
    let e : n - i ≡ suc (n - (i + 1)) = omega arith in
    let f : suc i ≡ i + 1 = omega arith in
    ap (λ (k : ℕ). piece_cells k i o r) e ∙ ap (λ (j : ℕ). piece_cell (r % 256) o i ∷ piece_cells (n - (i + 1)) j o (r / 256)) f

pub piece_pushed : (cs ds whole : List Cell) (n i : ℕ) (o : Origin) (r : ℕ) (c : Cell) → i < n → cs ++ piece_cells (n - i) i o r ≡ whole → ds ≡ cs ++ c ∷ [] →
    c ≡ piece_cell (r % 256) o i → ds ++ piece_cells (n - (i + 1)) (i + 1) o (r / 256) ≡ whole
piece_pushed cs ds whole n i o r c lt before is one =
    let rest = piece_cells (n - (i + 1)) (i + 1) o (r / 256) in
    ap (λ (l : List Cell). l ++ rest) is
    ∙ append_assoc cs (c ∷ []) rest
    ∙ ap (λ (d : Cell). cs ++ (d ∷ rest)) one
    ∙ ap (λ (l : List Cell). cs ++ l) (sym (piece_step n i o r lt))
    ∙ before

plain_step : (n i r : ℕ) → i < n → plain_cells (n - i) r ≡ plain_cell (r % 256) ∷ plain_cells (n - (i + 1)) (r / 256)
plain_step n i r lt =
    let e : n - i ≡ suc (n - (i + 1)) = omega arith in
    ap (λ (k : ℕ). plain_cells k r) e

pub plain_pushed : (cs ds whole : List Cell) (n i r : ℕ) (c : Cell) → i < n → cs ++ plain_cells (n - i) r ≡ whole → ds ≡ cs ++ c ∷ [] →
    c ≡ plain_cell (r % 256) → ds ++ plain_cells (n - (i + 1)) (r / 256) ≡ whole
plain_pushed cs ds whole n i r c lt before is one =
    let rest = plain_cells (n - (i + 1)) (r / 256) in
    ap (λ (l : List Cell). l ++ rest) is
    ∙ append_assoc cs (c ∷ []) rest
    ∙ ap (λ (d : Cell). cs ++ (d ∷ rest)) one
    ∙ ap (λ (l : List Cell). cs ++ l) (sym (plain_step n i r lt))
    ∙ before

none_left : (cs : List Cell) → cs ++ [] ≡ cs
none_left [] = refl
none_left (c ∷ cs) = ap (λ (l : List Cell). c ∷ l) (none_left cs)

-- the same in an array
pub plain_put : (cs whole : List Cell) (n i r : ℕ) (c : Cell) → i < n → length cs ≡ n → take i cs ++ plain_cells (n - i) r ≡ whole →
    c ≡ plain_cell (r % 256) → (length (set cs i c) ≡ n) × (take (i + 1) (set cs i c) ++ plain_cells (n - (i + 1)) (r / 256) ≡ whole)
plain_put cs whole n i r c lt len before one =
    let room : i < length cs = omega arith in
    (length-set cs i c ∙ len, plain_pushed (take i cs) (take (i + 1) (set cs i c)) whole n i r c lt before (take_more_set cs i c room) one)

pub piece_put : (cs whole : List Cell) (n i : ℕ) (o : Origin) (r : ℕ) (c : Cell) → i < n → length cs ≡ n → take i cs ++ piece_cells (n - i) i o r ≡ whole →
    c ≡ piece_cell (r % 256) o i → (length (set cs i c) ≡ n) × (take (i + 1) (set cs i c) ++ piece_cells (n - (i + 1)) (i + 1) o (r / 256) ≡ whole)
piece_put cs whole n i o r c lt len before one =
    let room : i < length cs = omega arith in
    (length-set cs i c ∙ len, piece_pushed (take i cs) (take (i + 1) (set cs i c)) whole n i o r c lt before (take_more_set cs i c room) one)

-- the first bytes of a number
pub plain_take : (k n r : ℕ) → k ≤ n → take k (plain_cells n r) ≡ plain_cells k r
plain_take zero n r le = refl
plain_take (suc k) zero r le = absurd (omega arith)
plain_take (suc k) (suc n) r le = ap (λ (cs : List Cell). plain_cell (r % 256) ∷ cs) (plain_take k n (r / 256) (omega arith))

pub plain_length : (k r : ℕ) → length (plain_cells k r) ≡ k
plain_length zero r = refl
plain_length (suc k) r = ap suc (plain_length k (r / 256))

pub plain_known : (most k r : ℕ) → CellsKnown most (plain_cells k r)
plain_known most zero r = tt
plain_known most (suc k) r = (omega arith, plain_known most k (r / 256))

-- ---- the number of an object
held_is : (a b : Held) → Some a ≡ Some b → a ≡ b
held_is a b h = cc

named_split : (b : Bool) (ps : List Prov) (h g : Held) (x : ObjName) (rest : Option Held) → same_object h.name x ≡ b → cond b (Some h) rest ≡ Some g →
    prov_numbered ps h.origin.number ≡ Whole h.name → (rest ≡ Some g → prov_numbered ps g.origin.number ≡ Whole x) → prov_numbered ps g.origin.number ≡ Whole x
named_split true ps h g x rest same e here there =
    ap (λ (k : Held). prov_numbered ps k.origin.number) (sym (held_is h g e)) ∙ here ∙ ap Whole (same_object_is h.name x same)
named_split false ps h g x rest same e here there = there e

abbrev nothing_held : Option Held
nothing_held = None

no_held : (g : Held) → nothing_held ≡ Some g → ⊥
no_held g h = cc

pub named_held : (ps : List Prov) (hs : List Held) (x : ObjName) (g : Held) → EachNamed ps hs → held_of hs x ≡ Some g →
    prov_numbered ps g.origin.number ≡ Whole x
named_held ps [] x g named e = absurd (no_held g e)
named_held ps (h ∷ hs) x g named e = named_split (same_object h.name x) ps h g x (held_of hs x) refl e named.0 (named_held ps hs x g named.1)

name_split : (b : Bool) (ps : List Prov) (f : Held → Held) (h : Held) → ((g : Held) → (f g).name ≡ g.name) →
    ((g : Held) → (f g).origin.number ≡ g.origin.number) → prov_numbered ps h.origin.number ≡ Whole h.name →
    prov_numbered ps (cond b (f h) h).origin.number ≡ Whole (cond b (f h) h).name
name_split true ps f h names numbers e = ap (λ (n : ℕ). prov_numbered ps n) (numbers h) ∙ e ∙ ap Whole (sym (names h))
name_split false ps f h names numbers e = e

-- a change that keeps names and numbers
pub named_changed : (ps : List Prov) (f : Held → Held) (x : ObjName) (hs : List Held) → ((g : Held) → (f g).name ≡ g.name) →
    ((g : Held) → (f g).origin.number ≡ g.origin.number) → EachNamed ps hs → EachNamed ps (changed f x hs)
named_changed ps f x [] names numbers named = tt
named_changed ps f x (h ∷ hs) names numbers named =
    (name_split (same_object h.name x) ps f h names numbers named.0, named_changed ps f x hs names numbers named.1)

pub named_uncovered : (ps : List Prov) (xs : List ObjName) (hs : List Held) → EachNamed ps hs → EachNamed ps (uncovered_each xs hs)
named_uncovered ps [] hs named = named
named_uncovered ps (x ∷ xs) hs named = named_uncovered ps xs (changed uncovered x hs) (named_changed ps uncovered x hs (λ h. refl) (λ h. refl) named)

whole_some : (x : ObjName) → same_prov (Whole x) Empty ≡ false
whole_some x = refl

pub named_longer : (ps more : List Prov) (hs : List Held) → EachNamed ps hs → EachNamed (ps ++ more) hs
named_longer ps more [] named = tt
named_longer ps more (h ∷ hs) named = (number_stays ps more h.origin.number (Whole h.name) (whole_some h.name) named.0, named_longer ps more hs named.1)

named_end : (ps : List Prov) (hs : List Held) (h : Held) → prov_numbered ps h.origin.number ≡ Whole h.name → EachNamed ps hs → EachNamed ps (hs ++ h ∷ [])
named_end ps [] h e named = (e, tt)
named_end ps (g ∷ hs) h e named = (named.0, named_end ps hs h e named.1)

-- a new object with the next number
pub named_born : (ps qs : List Prov) (hs gs : List Held) (h : Held) → qs ≡ ps ++ Whole h.name ∷ [] → gs ≡ hs ++ h ∷ [] → h.origin.number ≡ length ps + 1 →
    EachNamed ps hs → EachNamed qs gs
named_born ps qs hs gs h e f at named =
    subst (λ (l : List Prov). EachNamed l gs) (sym e)
    (subst (λ (l : List Held). EachNamed (ps ++ Whole h.name ∷ []) l) (sym f)
    (named_end (ps ++ Whole h.name ∷ []) hs h (prov_last ps (Whole h.name) h.origin.number at) (named_longer ps (Whole h.name ∷ []) hs named)))
