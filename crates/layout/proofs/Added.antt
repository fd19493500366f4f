-- The scalars of a part that begins at an offset, one part after the other.
use Rattle.std.proofs.Common.{
  ◌≡◌,
  ℕ,
  suc,
  ◌+◌,
  ◌-◌,
  ◌*◌,
  ◌^◌,
  ◌<◌,
  min,
  List,
  [],
  ◌∷◌,
  ◌++◌,
  length,
  get_or,
  drop,
  drop-cons,
  add-one,
  map,
  refl,
  sym,
  ap,
  ◌∙◌,
  append_assoc,
  zero-add,
  arith,
  rules,
}
use Rattle.c_types.specs.Shapes.{Form, form_of, forms_of, put_of}
use Rattle.c_types.specs.Leaves.{Scalar, shifted, repeated_scalars, leaves, all_leaves}
use Rattle.c_types.specs.declared.shape.Placed.{Placed, the_lemmas}
use Rattle.layout.specs.declared.leaves.Leaf.{Leaf}
use Rattle.layout.specs.Listed.{scalar_of, capped}

cap_twice : (o y at : ℕ) (xs : List Scalar) → at ≡ min (o + y) (2 ^ 64 - 1) → map capped (shifted at xs) ≡ map capped (shifted o (shifted y xs))
cap_twice o y at [] h = refl
cap_twice o y at (x ∷ xs) h =
    let same : min (at + x.offset) (2 ^ 64 - 1) ≡ min (o + (y + x.offset)) (2 ^ 64 - 1) = omega arith in
    let f : ℕ → List Scalar → List Scalar = λ n ys. (record { offset = n; ty = x.ty }) ∷ ys in
    ap (λ (n : ℕ). f n (map capped (shifted at xs))) same ∙ ap (f (min (o + (y + x.offset)) (2 ^ 64 - 1))) (cap_twice o y at xs h)

cap_append : (o : ℕ) (xs ys : List Scalar) → map capped (shifted o (xs ++ ys)) ≡ map capped (shifted o xs) ++ map capped (shifted o ys)
cap_append o [] ys = refl
cap_append o (x ∷ xs) ys =
    let f : List Scalar → List Scalar = λ zs. (record { offset = min (o + x.offset) (2 ^ 64 - 1); ty = x.ty }) ∷ zs in
    ap f (cap_append o xs ys)

pub part_repeated :
    (old now new : List Scalar) (o i step at : ℕ) (xs : List Scalar) → at ≡ min (o + min (i * step) (2 ^ 64 - 1)) (2 ^ 64 - 1) →
    now ≡ old ++ map capped (shifted o (repeated_scalars i step xs)) → new ≡ now ++ map capped (shifted at xs) →
    new ≡ old ++ map capped (shifted o (repeated_scalars (i + 1) step xs))
part_repeated old now new o i step at xs h before is =
    let once : List Scalar = map capped (shifted o (repeated_scalars i step xs)) in
    let capped_at : at ≡ min (o + i * step) (2 ^ 64 - 1) = omega arith in
    is
    ∙ (ap (λ (ys : List Scalar). ys ++ map capped (shifted at xs)) before
    ∙ (append_assoc old once (map capped (shifted at xs))
    ∙ (ap (λ (ys : List Scalar). old ++ (once ++ ys)) (cap_twice o (i * step) at xs capped_at)
    ∙ (ap (λ (ys : List Scalar). old ++ ys) (sym (cap_append o (repeated_scalars i step xs) (shifted (i * step) xs)))
    ∙ ap (λ (k : ℕ). old ++ map capped (shifted o (repeated_scalars k step xs))) (sym (add-one i))))))

put_offset : (p : Placed) → (put_of p).offset ≡ p.offset
put_offset p = search (rules, the_lemmas)

put_part : (p : Placed) → (put_of p).part ≡ form_of p.part
put_part p = search (rules, the_lemmas)

next_part : (ps : List Placed) (i : ℕ) (p : Placed) → i < length ps → p ≡ get_or ps i p →
    all_leaves (forms_of (map put_of (drop i ps))) ≡ shifted p.offset (leaves (form_of p.part)) ++ all_leaves (forms_of (map put_of (drop (i + 1) ps)))
next_part ps i p h e =
    let rest : List Scalar = all_leaves (forms_of (map put_of (drop (suc i) ps))) in
    ap (λ (qs : List Placed). all_leaves (forms_of (map put_of qs))) (drop-cons ps i p h)
    ∙ (ap (λ (q : Placed). shifted (put_of q).offset (leaves (put_of q).part) ++ rest) (sym e)
    ∙ (ap (λ (n : ℕ). shifted n (leaves (put_of p).part) ++ rest) (put_offset p)
    ∙ (ap (λ (f : Form). shifted p.offset (leaves f) ++ rest) (put_part p)
    ∙ ap (λ (k : ℕ). shifted p.offset (leaves (form_of p.part)) ++ all_leaves (forms_of (map put_of (drop k ps)))) (sym (add-one i)))))

pub part_placed :
    (ps : List Placed) (i : ℕ) (p : Placed) (o at : ℕ) (now new total : List Scalar) → i < length ps → p ≡ get_or ps i p →
    at ≡ min (o + p.offset) (2 ^ 64 - 1) →
    new ≡ now ++ map capped (shifted at (leaves (form_of p.part))) →
    now ++ map capped (shifted o (all_leaves (forms_of (map put_of (drop i ps))))) ≡ total →
    new ++ map capped (shifted o (all_leaves (forms_of (map put_of (drop (i + 1) ps))))) ≡ total
part_placed ps i p o at now new total h e sum is before =
    let rest : List Scalar = all_leaves (forms_of (map put_of (drop (i + 1) ps))) in
    let own : List Scalar = leaves (form_of p.part) in
    ap (λ (ys : List Scalar). ys ++ map capped (shifted o rest)) is
    ∙ (append_assoc now (map capped (shifted at own)) (map capped (shifted o rest))
    ∙ (ap (λ (ys : List Scalar). now ++ (ys ++ map capped (shifted o rest))) (cap_twice o p.offset at own sum)
    ∙ (ap (λ (ys : List Scalar). now ++ ys) (sym (cap_append o (shifted p.offset own) rest))
    ∙ (ap (λ (ys : List Scalar). now ++ map capped (shifted o ys)) (sym (next_part ps i p h e))
    ∙ before))))

pub shifted_none : (xs : List Scalar) → shifted 0 xs ≡ xs
shifted_none [] = refl
shifted_none (x ∷ xs) =
    let f : ℕ → List Scalar → List Scalar = λ n ys. (record { offset = n; ty = x.ty }) ∷ ys in
    ap (λ (n : ℕ). f n (shifted 0 xs)) (zero-add x.offset) ∙ ap (f x.offset) (shifted_none xs)

pub from_start :
    (new old : List Leaf) (xs ys : List Scalar) → old ≡ [] → map scalar_of new ≡ map scalar_of old ++ map capped (shifted 0 xs) → xs ≡ ys →
    map capped ys ≡ ys → map scalar_of new ≡ ys
from_start new old xs ys none is seen exact =
    is
    ∙ (ap (λ (ls : List Leaf). map scalar_of ls ++ map capped (shifted 0 xs)) none
    ∙ (ap (map capped) (shifted_none xs)
    ∙ (ap (map capped) seen ∙ exact)))
