-- Types as the code has them, and what begins at an offset of them.
use Rattle.std.proofs.Common.{◌≡◌, ℕ, ◌-◌, ◌/◌, ◌%◌, ◌<◌, ◌≤◌, length, All, Option, Some, None, IfSome, IfNone, sym, ap, subst, ◌∙◌, arith, rules, inl, inr}
use Rattle.c_types.specs.declared.ty.Qual.{Qual}
use Rattle.c_types.specs.declared.ty.Qual as TheQual
use Rattle.c_types.specs.declared.tags.Member.{Member}
use Rattle.c_types.specs.declared.tags.Extent.{Extent}
use Rattle.c_types.specs.Types.{CType, void, int, enumeration, pointer, array, struct, union, function, type_of, qualified_of}
use Rattle.c_types.specs.Layout.{extent, extents, size_of, type_of_member}
use Rattle.c_types.specs.Leaves.{shifted, scalars, scalars_by}
use Rattle.c_types.specs.Table.{IsSettled}
use Rattle.layout.proofs.Scalars.{type_of_member-seen}
use Rattle.c_typed.specs.declared.tree.Target.{Target}
use Rattle.c_typed.specs.declared.program.Content.TheVariants as content
use Rattle.c_typed.specs.declared.program.Constant.{Constant}
use Rattle.c_typed.specs.declared.program.Program.{Program}
use Rattle.c_typed.specs.Lawful.{IsScalar, SuitsType, SuitsSome, ContentSuits}
use Rattle.lawful_program.specs.Places.{scalars_within, elements_within, LooksOn, LooksOnElement, IsOfTag}
use Rattle.lawful_program.proofs.Found.{element, suits_shifted}

pub qualified_of-seen : (q : Qual) → (qualified_of q).ty ≡ type_of q.ty
qualified_of-seen q = search (rules, TheQual.the_lemmas)

pub element_there : (p : Program) (q : Qual) (count at step : ℕ) → step ≡ size_of p.tags (type_of q.ty) → at / step < count →
    LooksOnElement p (qualified_of q) count at (at % step)
element_there p q count at step is there depth target offset h =
    let same : step ≡ size_of p.tags (qualified_of q).ty = is ∙ ap (size_of p.tags) (sym (qualified_of-seen q)) in
    element p (qualified_of q) count at (subst (λ (n : ℕ). at / n < count) same there) depth target offset
    (subst (λ (n : ℕ). SuitsSome p target offset (at % n) (scalars_within depth p.tags (qualified_of q).ty)) same h)

-- an array whose count is known by two names
module _ (p : Program) (t : CType) (q : Qual) (count known at : ℕ) (is : t ≡ array (qualified_of q).constant (qualified_of q).ty (Some count))
    (same : known ≡ count) where
  looks_on_array : (further : ℕ) → LooksOnElement p (qualified_of q) known at further → LooksOn p t at (type_of q.ty) further
  looks_on_array further on depth target offset h =
      subst (λ (u : CType). SuitsSome p target offset at (scalars_within depth p.tags u)) (sym is)
      (subst (λ (n : ℕ). SuitsSome p target offset at (elements_within depth p.tags (qualified_of q) n)) same
      (on depth target offset (subst (λ (u : CType). SuitsSome p target offset further (scalars_within depth p.tags u)) (sym (qualified_of-seen q)) h)))

  pub some_inside : {X : Type 0} (further : ℕ) (type_in : X → CType) (at_in : X → ℕ) (o : Option X) → LooksOnElement p (qualified_of q) known at further →
      IfSome o (λ x. LooksOn p (type_of q.ty) further (type_in x) (at_in x)) → IfSome o (λ x. LooksOn p t at (type_in x) (at_in x))
  some_inside further type_in at_in None on h = h
  some_inside further type_in at_in (Some x) on h = λ depth target offset k. looks_on_array further on depth target offset (h depth target offset k)

-- a scalar begins at 0 alone
pub lone : (p : Program) (target : Target) (offset at : ℕ) (t : CType) → IsScalar t → at ≡ 0 → SuitsType p t target offset → (depth : ℕ) →
    SuitsSome p target offset at (scalars_within depth p.tags t)
lone p target offset at (int kind) s is h depth = inl (sym is, h)
lone p target offset at (enumeration tag) s is h depth = inl (sym is, h)
lone p target offset at (pointer c t) s is h depth = inl (sym is, h)
lone p target offset at void s is h depth = absurd s
lone p target offset at (array c t n) s is h depth = absurd s
lone p target offset at (struct tag) s is h depth = absurd s
lone p target offset at (union tag) s is h depth = absurd s
lone p target offset at (function r ps v) s is h depth = absurd s

pub tagged : (p : Program) (target : Target) (offset at depth : ℕ) (t : CType) (tag : ℕ) → IsOfTag t tag →
    SuitsSome p target offset at (scalars_by depth p.tags tag) →
    SuitsSome p target offset at (scalars_within depth p.tags t)
tagged p target offset at depth t tag (inl e) h = subst (λ (u : CType). SuitsSome p target offset at (scalars_within depth p.tags u)) (sym e) h
tagged p target offset at depth t tag (inr e) h = subst (λ (u : CType). SuitsSome p target offset at (scalars_within depth p.tags u)) (sym e) h

pub member_inside : (p : Program) (target : Target) (offset at depth stands : ℕ) (m : Member) → stands ≤ at →
    SuitsSome p target offset (at - stands) (scalars_within depth p.tags (type_of m.qual.ty)) →
    SuitsSome p target offset at (shifted stands (scalars_within depth p.tags (type_of_member m)))
member_inside p target offset at depth stands m le h =
    suits_shifted p target offset stands at (scalars_within depth p.tags (type_of_member m)) le
    (subst (λ (u : CType). SuitsSome p target offset (at - stands) (scalars_within depth p.tags u)) (sym (type_of_member-seen m)) h)

-- where an address stands in a type
pub aligned : (p : Program) (k : Constant) (target : Target) (offset depth : ℕ) (t : CType) → depth ≡ length p.tags →
    k.content ≡ content.Address target offset →
    SuitsSome p target offset k.at (scalars_within depth p.tags t) → ContentSuits p (scalars p.tags t) k.at k.content
aligned p k target offset depth t all is h =
    subst (ContentSuits p (scalars p.tags t) k.at) (sym is) (subst (λ (n : ℕ). SuitsSome p target offset k.at (scalars_within n p.tags t)) all h)
