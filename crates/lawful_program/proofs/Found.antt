-- Which addresses suit a scalar of a type.
use Rattle.std.proofs.Common.{
  ◌≡◌,
  ◌≢◌,
  ℕ,
  zero,
  suc,
  ◌+◌,
  ◌-◌,
  ◌*◌,
  ◌/◌,
  ◌%◌,
  ◌<◌,
  ◌≤◌,
  List,
  [],
  ◌∷◌,
  ◌++◌,
  length,
  get_or,
  Option,
  Some,
  None,
  refl,
  sym,
  ap,
  subst,
  ◌∙◌,
  arith,
  inl,
  inr,
}
use Rattle.std.specs.Prelude.{slice_get}
use Rattle.std.proofs.lemmas.Bool.{cases_lt}
use Rattle.std.proofs.lemmas.Nat.{div-add-mod'}
use Rattle.c_types.specs.declared.tags.Member.{Member}
use Rattle.c_types.specs.declared.tags.Tag.{Tag}
use Rattle.c_types.specs.Types.{CType, Qualified}
use Rattle.c_types.specs.Layout.{size_of, member_offset, type_of_member}
use Rattle.c_types.specs.Leaves.{Scalar, shifted, repeated_scalars, scalars_with, member_scalars, tag_scalars, scalars_by}
use Rattle.c_typed.specs.declared.tree.Target.{Target}
use Rattle.c_typed.specs.declared.program.Program.{Program}
use Rattle.c_typed.specs.Lawful.{SuitsSome}
use Rattle.lawful_program.specs.Places.{scalars_within, elements_within}

module _ (p : Program) (target : Target) (offset : ℕ) where
  pub suits_left : (at : ℕ) (xs ys : List Scalar) → SuitsSome p target offset at xs → SuitsSome p target offset at (xs ++ ys)
  suits_left at [] ys h = absurd h
  suits_left at (x ∷ xs) ys (inl here) = inl here
  suits_left at (x ∷ xs) ys (inr later) = inr (suits_left at xs ys later)

  pub suits_right : (at : ℕ) (xs ys : List Scalar) → SuitsSome p target offset at ys → SuitsSome p target offset at (xs ++ ys)
  suits_right at [] ys h = h
  suits_right at (x ∷ xs) ys h = inr (suits_right at xs ys h)

  pub suits_shifted : (o at : ℕ) (xs : List Scalar) → o ≤ at → SuitsSome p target offset (at - o) xs → SuitsSome p target offset at (shifted o xs)
  suits_shifted o at [] le h = absurd h
  suits_shifted o at (x ∷ xs) le (inl here) = let is : x.offset ≡ at - o = here.0 in inl (omega arith, here.1)
  suits_shifted o at (x ∷ xs) le (inr later) = inr (suits_shifted o at xs le later)

  -- one that the element suits which holds the offset
  pub suits_repeated : (n s q r at : ℕ) (xs : List Scalar) → q * s + r ≡ at → q < n → SuitsSome p target offset r xs →
      SuitsSome p target offset at (repeated_scalars n s xs)
  suits_repeated zero s q r at xs e lt h = absurd (omega arith)
  suits_repeated (suc n) s q r at xs e lt h =
      elim (cases_lt q n) [
        | inl under ↦ suits_left at (repeated_scalars n s xs) (shifted (n * s) xs) (suits_repeated n s q r at xs e under h)
        | inr over ↦
            (let same : q ≡ n = omega arith in
            let there : n * s + r ≡ at = subst (λ k. k * s + r ≡ at) same e in
            let rest : r ≡ at - n * s = omega (arith, there) in
            let below : n * s ≤ at = omega (arith, there) in
            suits_right at (repeated_scalars n s xs) (shifted (n * s) xs)
            (suits_shifted (n * s) at xs below (subst (λ k. SuitsSome p target offset k xs) rest h)))
      ]

  -- one that a member suits, which stands there
  pub suits_member : (at : ℕ) (of_tag : ℕ → List Scalar) (tag k i : ℕ) (ms : List Member) (m : Member) → i < length ms → m ≡ get_or ms i m →
      SuitsSome p target offset at (shifted (member_offset p.tags tag (k + i)) (scalars_with of_tag p.tags (type_of_member m))) →
      SuitsSome p target offset at (member_scalars of_tag p.tags tag k ms)
  suits_member at of_tag tag k i [] m lt is h = absurd (omega arith)
  suits_member at of_tag tag k zero (x ∷ ms) m lt is h =
      let first : k + zero ≡ k = omega arith in
      suits_left at (shifted (member_offset p.tags tag k) (scalars_with of_tag p.tags (type_of_member x))) (member_scalars of_tag p.tags tag (k + 1) ms)
      (subst (λ y. SuitsSome p target offset at (shifted (member_offset p.tags tag k) (scalars_with of_tag p.tags (type_of_member y)))) is
      (subst (λ n. SuitsSome p target offset at (shifted (member_offset p.tags tag n) (scalars_with of_tag p.tags (type_of_member m)))) first h))
  suits_member at of_tag tag k (suc i) (x ∷ ms) m lt is h =
      let next : k + suc i ≡ (k + 1) + i = omega arith in
      suits_right at (shifted (member_offset p.tags tag k) (scalars_with of_tag p.tags (type_of_member x))) (member_scalars of_tag p.tags tag (k + 1) ms)
      (suits_member at of_tag tag (k + 1) i ms m (omega arith) is
      (subst (λ n. SuitsSome p target offset at (shifted (member_offset p.tags tag n) (scalars_with of_tag p.tags (type_of_member m)))) next h))

-- the element that holds the offset decides of an array
pub element : (p : Program) (q : Qualified) (count at : ℕ) → at / size_of p.tags q.ty < count → (depth : ℕ) (target : Target) (offset : ℕ) →
    SuitsSome p target offset (at % size_of p.tags q.ty) (scalars_within depth p.tags q.ty) →
    SuitsSome p target offset at (elements_within depth p.tags q count)
element p q count at there depth target offset h =
    let step = size_of p.tags q.ty in
    suits_repeated p target offset count step (at / step) (at % step) at (scalars_within depth p.tags q.ty) (div-add-mod' at step) there h

-- one that suits a member of a tag
pub of_tag_member : (p : Program) (target : Target) (offset at depth tag : ℕ) (t : Tag) (i stands : ℕ) (m : Member) → depth ≢ 0 →
    slice_get p.tags tag ≡ Some t →
    i < length t.members → m ≡ get_or t.members i m → stands ≡ member_offset p.tags tag i →
    SuitsSome p target offset at (shifted stands (scalars_within (depth - 1) p.tags (type_of_member m))) →
    SuitsSome p target offset at (scalars_by depth p.tags tag)
of_tag_member p target offset at zero tag t i stands m some is lt one there h = absurd (some refl)
of_tag_member p target offset at (suc n) tag t i stands m some is lt one there h =
    let same : suc n - 1 ≡ n = omega arith in
    let from : 0 + i ≡ i = omega arith in
    subst (λ (o : Option Tag). SuitsSome p target offset at (tag_scalars (scalars_by n p.tags) p.tags tag o)) (sym is)
    (suits_member p target offset at (scalars_by n p.tags) tag 0 i t.members m lt one
    (subst (λ (k : ℕ). SuitsSome p target offset at (shifted (member_offset p.tags tag k) (scalars_within n p.tags (type_of_member m)))) (sym from)
    (subst (λ (o : ℕ). SuitsSome p target offset at (shifted o (scalars_within n p.tags (type_of_member m)))) there
    (subst (λ (k : ℕ). SuitsSome p target offset at (shifted stands (scalars_within k p.tags (type_of_member m)))) same h))))
