-- The scalars of one part more.
use Rattle.std.proofs.Common.{◌≡◌, ℕ, List, [], ◌∷◌, ◌++◌, map, sym, ap, ◌∙◌, append_assoc, append-nil, rules}
use Rattle.c_types.specs.Types.{type_of}
use Rattle.c_types.specs.Layout.{type_of_member}
use Rattle.c_types.specs.Shapes.{form_of, forms_of, put_of}
use Rattle.c_types.specs.declared.shape.Shape.{Shape}
use Rattle.c_types.specs.declared.ty.Qual as qual
use Rattle.c_types.specs.Leaves.{shifted, leaves, all_leaves}
use Rattle.c_types.specs.declared.tags.Member.{Member}
use Rattle.c_types.specs.declared.shape.Placed.{Placed, roll-Placed, the_lemmas}

pub all_leaves-more : (ps : List Placed) (p : Placed) → all_leaves (forms_of (map put_of (ps ++ p ∷ []))) ≡ all_leaves (forms_of (map put_of ps)) ++
    shifted (put_of p).offset (leaves (put_of p).part)
all_leaves-more [] p = append-nil (shifted (put_of p).offset (leaves (put_of p).part))
all_leaves-more (q ∷ qs) p =
    ap (λ ls. shifted (put_of q).offset (leaves (put_of q).part) ++ ls) (all_leaves-more qs p)
    ∙ sym (append_assoc (shifted (put_of q).offset (leaves (put_of q).part)) (all_leaves (forms_of (map put_of qs)))
    (shifted (put_of p).offset (leaves (put_of p).part)))

pub put_of-roll : (o : ℕ) (s : Shape) → put_of (roll-Placed (record { offset = o; part = s })) ≡ record { offset = o; part = form_of s }
put_of-roll o s = search (rules, the_lemmas)

pub type_of_member-seen : (m : Member) → type_of_member m ≡ type_of m.qual.ty
type_of_member-seen m = search (rules, qual.the_lemmas)
