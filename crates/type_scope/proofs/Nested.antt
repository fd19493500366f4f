-- Declarations of inner scopes stand behind those of outer ones.
use Rattle.std.proofs.Common.{◌≡◌, ℕ, zero, suc, ◌≤◌, ◌<◌, Bool, true, false, if◌then◌else◌, nat_lt, List, [], ◌∷◌, ◌++◌, map, refl, sym, ap, ◌∙◌, subst, arith}
use Rattle.std.proofs.Common.{inl, inr}
use Rattle.std.specs.Prelude.{◌-◌, ◌==◌, Option, Some, None, Result, Ok, Err, OnOk, OnErr}
use Rattle.std.proofs.lemmas.Bool.{eq-eqb, ne_eqb, cases_lt}
use Rattle.std.proofs.lemmas.List.{append_cancel_left}
use borrow.Author.Tests.{lt-ltb, le-ltb}
use Rattle.type_name_space.specs.Scopes.{Declared, kept, left, put_at, changed, changed_in, visible, IsFront}
use Rattle.typing_env.specs.Names.{declared_from}
use Rattle.type_scope.specs.InScope.{InScope, AreNested, left_scope, with_prototype}
use Rattle.type_scope.specs.declared.rows.Meaning.{Meaning}
use Rattle.type_scope.specs.declared.rows.TagMeaning.{TagMeaning}

pub bounds : {M : Type 0} (low high : ℕ) (ds : List (Declared M)) → AreNested low high ds → low ≤ high
bounds low high [] h = h
bounds low high (d ∷ ds) h = let below = bounds d.depth high ds h.1 in let first = h.0 in omega arith

-- a further scope begins
pub wider : {M : Type 0} (low high more : ℕ) (ds : List (Declared M)) → high ≤ more → AreNested low high ds → AreNested low more ds
wider low high more [] le h = omega arith
wider low high more (d ∷ ds) le h = (h.0, wider d.depth high more ds le h.1)

-- declarations of the innermost scope stand behind the others
abbrev pub AreAt : {M : Type 0} → ℕ → List (Declared M) → Type 0
AreAt depth [] = Unit {0}
AreAt depth (d ∷ ds) = (d.depth ≡ depth) × AreAt depth ds

all_at : {M : Type 0} (low high : ℕ) (ds : List (Declared M)) → low ≤ high → AreAt high ds → AreNested low high ds
all_at low high [] le h = le
all_at low high (d ∷ ds) le h =
    let same = h.0 in (omega arith, all_at d.depth high ds (omega arith) h.1)

pub behind : {M : Type 0} (low high : ℕ) (ds es : List (Declared M)) → AreNested low high ds → AreAt high es → AreNested low high (ds ++ es)
behind low high [] es h at = all_at low high es h at
behind low high (d ∷ ds) es h at = (h.0, behind d.depth high ds es h.1 at)

pub put_are : {M : Type 0} (depth : ℕ) (ds : List (Declared M)) → AreAt depth (map (put_at depth) ds)
put_are depth [] = tt
put_are depth (d ∷ ds) = (refl, put_are depth ds)

-- the first of them
pub front : {M : Type 0} (low high : ℕ) (ds es : List (Declared M)) → AreNested low high (ds ++ es) → AreNested low high ds
front low high [] es h = bounds low high es h
front low high (d ∷ ds) es h = (h.0, front d.depth high ds es h.1)

pub is_front : {M : Type 0} (low high : ℕ) (ds all : List (Declared M)) → IsFront ds all → AreNested low high all → AreNested low high ds
is_front {M} low high ds all f h = front low high ds f.0 (subst (λ (xs : List (Declared M)). AreNested low high xs) f.1 h)

-- another meaning changes no depth
one_renamed : {M : Type 0} (t : Bool) (low high : ℕ) (meaning : M) (d : Declared M) (ds : List (Declared M)) → AreNested low high (d ∷ ds)
    → AreNested low high ((if t then record d { meaning = meaning } else d) ∷ ds)
one_renamed true low high meaning d ds h = h
one_renamed false low high meaning d ds h = h

renamed : {M : Type 0} (low high symbol : ℕ) (meaning : M) (d : Declared M) (ds rest : List (Declared M)) (inner : Option (Declared M))
    → AreNested low high (d ∷ ds) → AreNested d.depth high rest → AreNested low high (changed_in symbol meaning d ds rest inner)
renamed low high symbol meaning d ds rest (Some x) h r = (h.0, r)
renamed low high symbol meaning d ds rest None h r = one_renamed (d.symbol == symbol) low high meaning d ds h

pub change : {M : Type 0} (low high symbol : ℕ) (meaning : M) (ds : List (Declared M)) → AreNested low high ds → AreNested low high (changed symbol meaning ds)
change low high symbol meaning [] h = h
change low high symbol meaning (d ∷ ds) h =
    renamed low high symbol meaning d ds (changed symbol meaning ds) (visible symbol ds) h (change d.depth high symbol meaning ds h.1)

-- what is of an outer scope is left
kept_whole : {M : Type 0} (depth : ℕ) (e : Declared M) (ds : List (Declared M)) → nat_lt e.depth depth ≡ true → kept depth e ds ≡ e ∷ ds
kept_whole depth e [] h = ap (λ t. if t then e ∷ [] else []) h
kept_whole depth e (d ∷ ds) h = refl

-- where all are of the innermost scope, none is left
pub none_left : {M : Type 0} (low high : ℕ) (ds : List (Declared M)) → high ≤ low → AreNested low high ds → left high ds ≡ []
none_left low high [] le h = refl
none_left low high (d ∷ ds) le h =
    let first = h.0 in
    ap (kept high d) (none_left d.depth high ds (omega arith) h.1)
    ∙ ap (λ t. if t then d ∷ [] else []) (le-ltb d.depth high (omega arith))

-- .. and all are its declarations
all_here : {M : Type 0} (low high : ℕ) (ds : List (Declared M)) → high ≤ low → AreNested low high ds → declared_from high ds ≡ ds
all_here low high [] le h = refl
all_here {M} low high (d ∷ ds) le h =
    let first = h.0 in
    let last = bounds d.depth high ds h.1 in
    let same : d.depth ≡ high = omega arith in
    ap (λ t. if t then d ∷ declared_from high ds else declared_from high ds) (eq-eqb d.depth high same)
    ∙ ap (λ (xs : List (Declared M)). d ∷ xs) (all_here d.depth high ds (omega arith) h.1)

other_depth : (m n : ℕ) → m < n → (m == n) ≡ false
other_depth m n less = ne_eqb m n (λ (e : m ≡ n). absurd (omega arith))

-- a list of declarations is what is left and what the innermost scope declares
pub parted : {M : Type 0} (low high : ℕ) (ds : List (Declared M)) → AreNested low high ds → ds ≡ left high ds ++ declared_from high ds
parted low high [] h = refl
parted {M} low high (d ∷ ds) h = elim (cases_lt d.depth high) [
  | inl less ↦
      ap (λ (xs : List (Declared M)). d ∷ xs) (parted d.depth high ds h.1)
      ∙ sym (ap (λ (xs : List (Declared M)). xs ++ declared_from high (d ∷ ds)) (kept_whole high d (left high ds) (lt-ltb d.depth high less))
      ∙ ap (λ t. d ∷ (left high ds ++ (if t then d ∷ declared_from high ds else declared_from high ds))) (other_depth d.depth high less))
  | inr more ↦
      sym (ap (λ (xs : List (Declared M)). xs ++ declared_from high (d ∷ ds)) (none_left high high (d ∷ ds) (omega arith) (more, h.1))
      ∙ all_here high high (d ∷ ds) (omega arith) (more, h.1))
]

-- what is left is of outer scopes
pub outer : {M : Type 0} (low high : ℕ) (ds : List (Declared M)) → low < high → AreNested low high ds → AreNested low (high - 1) (left high ds)
outer low high [] le h = omega arith
outer {M} low high (d ∷ ds) le h = elim (cases_lt d.depth high) [
  | inl less ↦
      subst (λ (xs : List (Declared M)). AreNested low (high - 1) xs) (sym (kept_whole high d (left high ds) (lt-ltb d.depth high less)))
      (h.0, outer d.depth high ds less h.1)
  | inr more ↦
      (let few : low ≤ high - 1 = omega arith in
      subst (λ (xs : List (Declared M)). AreNested low (high - 1) xs) (sym (none_left high high (d ∷ ds) (omega arith) (more, h.1))) few)
]

-- where the innermost scope ends
pub leaves : {M : Type 0} (depth : ℕ) (ds : List (Declared M)) → AreNested 0 depth ds → AreNested 0 (depth - 1) (left depth ds)
leaves {M} zero ds h = subst (λ (xs : List (Declared M)). AreNested 0 0 xs) (sym (none_left 0 0 ds (omega arith) h)) (omega arith)
leaves (suc n) ds h = outer 0 (suc n) ds (omega arith) h

-- .. and before it has a number less
pub leaves_inside : {M : Type 0} (depth : ℕ) (ds : List (Declared M)) → AreNested 0 depth ds → AreNested 0 depth (left depth ds)
leaves_inside depth ds h = wider 0 (depth - 1) depth (left depth ds) (omega arith) (leaves depth ds h)

-- one declaration more in the innermost scope
pub one_more : {M : Type 0} (depth symbol : ℕ) (meaning : M) (ds : List (Declared M)) → AreNested 0 depth ds
    → AreNested 0 depth (ds ++ record { symbol = symbol; depth = depth; meaning = meaning } ∷ [])
one_more {M} depth symbol meaning ds h =
    let d : Declared M = record { symbol = symbol; depth = depth; meaning = meaning } in behind 0 depth ds (d ∷ []) h (refl, tt)

-- what is lifted is what the innermost scope declares
pub lifted_are : {M : Type 0} (depth : ℕ) (ds rest : List (Declared M)) → AreNested 0 depth ds → ds ≡ left depth ds ++ rest → rest ≡ declared_from depth ds
lifted_are depth ds rest h e = append_cancel_left (left depth ds) rest (declared_from depth ds) (sym e ∙ parted 0 depth ds h)

-- where they are lifted, all or only some of them
pub lifting : {M A E : Type 0} (depth : ℕ) (was now : List (Declared M)) (r : Result A E) → AreNested 0 depth was → OnOk r (now ≡ left depth was)
    → OnErr r (IsFront now was × (left depth now ≡ left depth was)) → AreNested 0 depth now
lifting {M} depth was now (Ok a) h ok err = subst (λ (ds : List (Declared M)). AreNested 0 depth ds) (sym ok) (leaves_inside depth was h)
lifting depth was now (Err e) h ok err = is_front 0 depth now was err.0 h

-- those that are declared again, all or only some of them
pub lowering : {M A E : Type 0} (depth : ℕ) (was now more : List (Declared M)) (r : Result A E) → AreNested 0 depth was
    → OnOk r (now ≡ was ++ map (put_at depth) more) → OnErr r (IsFront was now × IsFront now (was ++ map (put_at depth) more)) → AreNested 0 depth now
lowering {M} depth was now more (Ok a) h ok err =
    subst (λ (ds : List (Declared M)). AreNested 0 depth ds) (sym ok) (behind 0 depth was (map (put_at depth) more) h (put_are depth more))
lowering depth was now more (Err e) h ok err =
    is_front 0 depth now (was ++ map (put_at depth) more) err.1 (behind 0 depth was (map (put_at depth) more) h (put_are depth more))

-- what is left is of outer scopes
pub left_outside : {M : Type 0} (depth less : ℕ) (was now : List (Declared M)) → less ≡ depth - 1 → now ≡ left depth was → AreNested 0 depth was
    → AreNested 0 less now
left_outside {M} depth less was now e is h =
    subst (λ (n : ℕ). AreNested 0 n now) (sym e) (subst (λ (ds : List (Declared M)). AreNested 0 (depth - 1) ds) (sym is) (leaves depth was h))

-- what was lifted is what the innermost scope declared
pub kept_are : {M : Type 0} (depth : ℕ) (was now more : List (Declared M)) → AreNested 0 depth was → now ≡ left depth was → was ≡ now ++ more
    → more ≡ declared_from depth was
kept_are {M} depth was now more h is e =
    lifted_are depth was more h (e ∙ ap (λ (ds : List (Declared M)). ds ++ more) is)

-- the innermost scope ends, and its declarations are kept
pub left_kept : (s : InScope) (ordinary kept_ordinary : List (Declared Meaning)) (tags kept_tags : List (Declared TagMeaning)) (depth : ℕ)
    → ordinary ≡ left s.depth s.ordinary → tags ≡ left s.depth s.tags → depth ≡ s.depth - 1
    → kept_ordinary ≡ declared_from s.depth s.ordinary → kept_tags ≡ declared_from s.depth s.tags
    → record { ordinary = ordinary; tags = tags; depth = depth; kept_ordinary = kept_ordinary; kept_tags = kept_tags } ≡ left_scope (with_prototype s)
left_kept s ordinary kept_ordinary tags kept_tags depth a b d e f = λ i. record (left_scope (with_prototype s)) {
  ordinary = a i;
  tags = b i;
  depth = d i;
  kept_ordinary = e i;
  kept_tags = f i;
}
