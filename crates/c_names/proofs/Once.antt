-- A text names at most one thing.
use Rattle.std.proofs.Common.{
  ◌≡◌,
  ◌≤◌,
  ◌<◌,
  ◌^◌,
  ◌+◌,
  ◌-◌,
  ◌&&◌,
  Bool,
  true,
  false,
  true≢false,
  eqb,
  get_or,
  ℕ,
  zero,
  suc,
  List,
  [],
  ◌∷◌,
  ◌++◌,
  length,
  slice_get,
  Some,
  None,
  Option,
  refl,
  sym,
  ◌∙◌,
  ap,
  subst,
  arith,
  decimal,
  codes,
  Contains,
  append_assoc,
}
use Rattle.std.proofs.lemmas.Fmt.{decimal_injective}
use Rattle.std.proofs.lemmas.Bool.Decides.{nat_tests}
use Rattle.ub_base.specs.declared.clause.Kind.{Kind}
use Rattle.ub_base.specs.declared.clause.Kind.TheVariants.{Val, Eff, Body}
use Rattle.ub_base.specs.declared.names.Event.{Event}
use Rattle.ub_base.specs.declared.names.ObjName.{ObjName}
use Rattle.ub_base.specs.declared.names.ObjName.TheVariants.{Static, Lit, Argv, Arg, Auto, Heap}
use Rattle.ub_base.specs.Frames.{Path, Row, IsFrameList, HasFrame, path_of}
use Rattle.ub_base.proofs.Paths.{path_of-row}
use Rattle.c_names.specs.Names.{
  EventName,
  ObjectName,
  StaticName,
  LitName,
  ArgvName,
  ArgName,
  AutoName,
  HeapName,
  IsStep,
  HasSteps,
  IsFrame,
  IsPlace,
  IsEvent,
  IsObject,
  event_name,
  object_name,
}
use Rattle.c_names.specs.Texts.{
  step_text,
  frame_text,
  kind_text,
  numbers_text,
  event_name_text,
  object_name_text,
  IsNoEventText,
  IsNoObjectText,
  TextsNameOneThing,
  NumbersNameOneFrame,
}
use Rattle.c_names.specs.Parts.{Lacks, AtByte, event_of, IsNoEventOf, IsNoPlaceOf, IsNoPlaceText, IsNoFrameText, IsNoKind, IsNoNumber, BeginsWithNoNumber}
use Rattle.c_names.proofs.Cuts.{Lacks-from, Contains-at, cut_once, number_once}
use Rattle.c_names.proofs.PathTexts.{path_once, frame_lacks}

heads : List ℕ → List ℕ → Bool
heads a b = eqb (get_or a 0 0) (get_or b 0 0) && eqb (get_or a 3 0) (get_or b 3 0)

heads_same : (a : List ℕ) → heads a a ≡ true
unfolding heads
heads_same a = grind (arith, nat_tests)

-- texts that differ in their first or fourth byte
pub differ : (a b : List ℕ) → (eqb (get_or a 0 0) (get_or b 0 0) && eqb (get_or a 3 0) (get_or b 3 0)) ≡ false → a ≡ b → ⊥
unfolding heads
differ a b f e = true≢false (sym (heads_same a) ∙ ap (heads a) e ∙ f)

pub kind_once : (j k : Kind) → kind_text j ≡ kind_text k → j ≡ k
kind_once Val Val e = refl
kind_once Eff Eff e = refl
kind_once Body Body e = refl
kind_once _ _ e = absurd (differ _ _ refl e)

-- an event's text, space by space
pub event_parts : (f : List ℕ) (t n : ℕ) (k : Kind) → event_of f t n k ≡ f ++ 32 ∷ (decimal t ++ 32 ∷ (decimal n ++ 32 ∷ kind_text k))
event_parts f t n k = ap (λ r. f ++ 32 ∷ r) (append_assoc (decimal t) (32 ∷ decimal n) (32 ∷ kind_text k))

pub record SameEvent (f g : List ℕ) (t u n m : ℕ) (j k : Kind) : Type 0 where
  pub frame : f ≡ g
  pub turn : t ≡ u
  pub node : n ≡ m
  pub kind : j ≡ k

pub event_once : (f g : List ℕ) (t u n m : ℕ) (j k : Kind) → Lacks 32 f → Lacks 32 g → t < 2 ^ 64 → u < 2 ^ 64 → n < 2 ^ 32 → m < 2 ^ 32 →
    event_of f t n j ≡ event_of g u m k → SameEvent f g t u n m j k
event_once f g t u n m j k lf lg a b c d e =
    let frames = cut_once 32 f g _ _ lf lg (sym (event_parts f t n j) ∙ e ∙ event_parts g u m k) in
    let turns = number_once t u _ _ a b frames.1 in
    let nodes = number_once n m _ _ (omega arith) (omega arith) turns.1 in
    record { frame = frames.0; turn = turns.0; node = nodes.0; kind = kind_once j k nodes.1 }

pub record SamePlace (f g : List ℕ) (t u n m : ℕ) : Type 0 where
  pub frame : f ≡ g
  pub turn : t ≡ u
  pub number : n ≡ m

pub place_once : (f g : List ℕ) (t u n m : ℕ) → Lacks 32 f → Lacks 32 g → t < 2 ^ 64 → u < 2 ^ 64 → n < 2 ^ 32 → m < 2 ^ 32 → f ++ numbers_text t n ≡ g ++
    numbers_text u m → SamePlace f g t u n m
place_once f g t u n m lf lg a b c d e =
    let frames = cut_once 32 f g _ _ lf lg e in
    let turns = number_once t u _ _ a b frames.1 in
    record { frame = frames.0; turn = turns.0; number = decimal_injective n m (omega arith) (omega arith) turns.1 }

events_once : (d e : EventName) → IsEvent d → IsEvent e → event_name_text d ≡ event_name_text e → d ≡ e
events_once d e h k is =
    let same = event_once (frame_text d.frame) (frame_text e.frame) d.turn e.turn d.node e.node d.kind e.kind (frame_lacks d.frame h.frame.steps)
    (frame_lacks e.frame k.frame.steps) h.turn_fits k.turn_fits h.number_fits k.number_fits is in
    let frames : d.frame ≡ e.frame = path_once d.frame e.frame h.frame.steps k.frame.steps same.frame in
    λ i. record { frame = frames i; turn = same.turn i; node = same.node i; kind = same.kind i }

placed_once : (f g : Path) (t u n m : ℕ) → IsPlace f t n → IsPlace g u m → frame_text f ++ numbers_text t n ≡ frame_text g ++ numbers_text u m → (f ≡ g) ×
    (t ≡ u) × (n ≡ m)
placed_once f g t u n m h k is =
    let same = place_once (frame_text f) (frame_text g) t u n m (frame_lacks f h.frame.steps) (frame_lacks g k.frame.steps) h.turn_fits k.turn_fits
    h.number_fits k.number_fits is in
    (path_once f g h.frame.steps k.frame.steps same.frame, same.turn, same.number)

small_once : (m n : ℕ) → m < 2 ^ 32 → n < 2 ^ 32 → decimal m ≡ decimal n → m ≡ n
small_once m n h k e = decimal_injective m n (omega arith) (omega arith) e

objects_once : (o p : ObjectName) → IsObject o → IsObject p → object_name_text o ≡ object_name_text p → o ≡ p
objects_once (StaticName k) (StaticName l) h g e = ap StaticName (small_once k l h g (cc))
objects_once (LitName k) (LitName l) h g e = ap LitName (small_once k l h g (cc))
objects_once ArgvName ArgvName h g e = refl
objects_once (ArgName k) (ArgName l) h g e = ap ArgName (small_once k l h g (cc))
objects_once (AutoName f t k) (AutoName f' u l) h g e =
    let same = placed_once f f' t u k l h g (cc) in
    λ i. AutoName (same.0 i) (same.1 i) (same.2 i)
objects_once (HeapName f t k) (HeapName f' u l) h g e =
    let same = placed_once f f' t u k l h g (cc) in
    λ i. HeapName (same.0 i) (same.1 i) (same.2 i)
objects_once _ _ h g e = absurd (differ _ _ refl e)

-- the first byte of a frame's text
begins : (p : Path) → (rest : List ℕ) × (frame_text p ≡ 109 ∷ rest)
begins [] = (codes "ain", refl)
begins (s ∷ p) = let r = begins p in (r.0 ++ step_text s, ap (λ t. t ++ step_text s) r.1)

no_object : (o : ObjectName) (rest : List ℕ) → 109 ∷ rest ≡ object_name_text o → ⊥
no_object (StaticName k) rest e = differ (109 ∷ rest) (object_name_text (StaticName k)) refl e
no_object (LitName k) rest e = differ (109 ∷ rest) (object_name_text (LitName k)) refl e
no_object ArgvName rest e = differ (109 ∷ rest) (object_name_text ArgvName) refl e
no_object (ArgName k) rest e = differ (109 ∷ rest) (object_name_text (ArgName k)) refl e
no_object (AutoName f t k) rest e = differ (109 ∷ rest) (object_name_text (AutoName f t k)) refl e
no_object (HeapName f t k) rest e = differ (109 ∷ rest) (object_name_text (HeapName f t k)) refl e

pub texts_name_one_thing : TextsNameOneThing
texts_name_one_thing = record {
  events = events_once;
  objects = objects_once;
  apart = λ e o h k is. let r = begins e.frame in no_object o _
      (ap (λ t. t ++ (numbers_text e.turn e.node ++ (codes " " ++ kind_text e.kind))) (sym r.1) ∙ is);
}

slice_get-some : {X : Type 0} (xs : List X) (i : ℕ) → i < length xs → (x : X) × (slice_get xs i ≡ Some x)
slice_get-some [] i h = absurd (omega arith)
slice_get-some (x ∷ xs) zero h = (x, refl)
slice_get-some (x ∷ xs) (suc i) h = slice_get-some xs i (omega arith)

row_path : (rows : List Row) → IsFrameList rows → (i : ℕ) (row : Row) → slice_get rows i ≡ Some row →
    path_of rows (suc i) ≡ (row.1, row.2) ∷ path_of rows row.0.0
row_path rows h i row e = path_of-row rows h (suc i) row (omega arith) (ap (slice_get rows) (pred i) ∙ e)
  where
    pred : (n : ℕ) → suc n - 1 ≡ n
    pred n = omega arith

path_parts : (s t : ℕ × ℕ) (p q : Path) → s ∷ p ≡ t ∷ q → (s ≡ t) × (p ≡ q)
path_parts s t p q e = ((cc), (cc))

-- over one list, frames with one path are one; by the number of the larger
pub frame_once : (rows : List Row) → IsFrameList rows → (bound f g : ℕ) → f ≤ bound → f ≤ length rows → g ≤ length rows → path_of rows f ≡ path_of rows g →
    f ≡ g
frame_once rows h bound zero zero b hf hg e = refl
frame_once rows h bound zero (suc j) b hf hg e =
    let r = slice_get-some rows j (omega arith) in
    let p = row_path rows h j r.0 r.1 in
    let q : [] ≡ (r.0.1, r.0.2) ∷ path_of rows r.0.0.0 = e ∙ p in
    absurd (cc)
frame_once rows h bound (suc i) zero b hf hg e =
    let r = slice_get-some rows i (omega arith) in
    let p = row_path rows h i r.0 r.1 in
    let q : [] ≡ (r.0.1, r.0.2) ∷ path_of rows r.0.0.0 = sym e ∙ p in
    absurd (cc)
frame_once rows h zero (suc i) (suc j) b hf hg e = absurd (omega arith)
frame_once rows h (suc bound) (suc i) (suc j) b hf hg e =
    let r = slice_get-some rows i (omega arith) in
    let s = slice_get-some rows j (omega arith) in
    let paths : (r.0.1, r.0.2) ∷ path_of rows r.0.0.0 ≡ (s.0.1, s.0.2) ∷ path_of rows s.0.0.0 =
    sym (row_path rows h i r.0 r.1) ∙ e ∙ row_path rows h j s.0 s.1 in
    let parts = path_parts _ _ _ _ paths in
    let parents : r.0.0.0 ≡ s.0.0.0 = frame_once rows h bound r.0.0.0 s.0.0.0 (omega (arith, h.earlier i r.0 r.1)) (omega (arith, h.earlier i r.0 r.1))
    (omega (arith, h.earlier j s.0 s.1)) parts.1 in
    let same : r.0 ≡ s.0 = λ i. (record { 0 = parents i }, (parts.0 i).0, (parts.0 i).1) in
    ap suc (h.distinct i j s.0 (r.1 ∙ ap Some same) s.1)

event_numbers : (rows : List Row) (d e : Event) → IsFrameList rows → d.frame.0 ≤ length rows → e.frame.0 ≤ length rows →
    event_name rows d ≡ event_name rows e → d ≡ e
event_numbers rows d e h a b is =
    let frames : d.frame.0 ≡ e.frame.0 = frame_once rows h d.frame.0 d.frame.0 e.frame.0 (omega arith) a b (ap (λ (x : EventName). x.frame) is) in
    λ i. record { frame = record { 0 = frames i }; turn = (is i).turn; node = (is i).node; kind = (is i).kind }

object_numbers : (rows : List Row) (o p : ObjName) → IsFrameList rows → HasFrame rows o → HasFrame rows p → object_name rows o ≡ object_name rows p → o ≡ p
object_numbers rows (Static k) (Static l) h a b is = ap Static (cc)
object_numbers rows (Lit k) (Lit l) h a b is = ap Lit (cc)
object_numbers rows Argv Argv h a b is = refl
object_numbers rows (Arg k) (Arg l) h a b is = ap Arg (cc)
object_numbers rows (Auto f t k) (Auto g u l) h a b is =
    let paths : path_of rows f.0 ≡ path_of rows g.0 = cc in
    let frames : f.0 ≡ g.0 = frame_once rows h f.0 f.0 g.0 (omega arith) a b paths in
    let turns : t ≡ u = cc in
    let numbers : k ≡ l = cc in
    λ i. Auto (record { 0 = frames i }) (turns i) (numbers i)
object_numbers rows (Heap f t k) (Heap g u l) h a b is =
    let paths : path_of rows f.0 ≡ path_of rows g.0 = cc in
    let frames : f.0 ≡ g.0 = frame_once rows h f.0 f.0 g.0 (omega arith) a b paths in
    let turns : t ≡ u = cc in
    let numbers : k ≡ l = cc in
    λ i. Heap (record { 0 = frames i }) (turns i) (numbers i)
object_numbers rows _ _ h a b is = absurd (cc)

pub numbers_name_one_frame : NumbersNameOneFrame
numbers_name_one_frame = record { events = event_numbers; objects = object_numbers }
