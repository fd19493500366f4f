-- The types of operands.
use Rattle.std.proofs.Common.{◌≡◌, List, [], ◌∷◌, ◌++◌, map, sym, ap, subst, ◌∙◌}
use Rattle.std.proofs.lemmas.List.{map-append}
use Rattle.c_types.specs.Types.{CType, type_of}
use Rattle.c_typed.specs.declared.tree.Typed.{Typed, out-Typed, fold_out-Typed}
use Rattle.c_typed.specs.Lawful.{ValueIs, LastIs}
use Rattle.c_typed.specs.Sites.{Seen, SeenNode, seen, seen_node, seen_tree, type_seen, type_at}
use Rattle.lawful_trees.specs.Views.{types_of}

pub type_at-root : (t : Typed) → type_at t ≡ type_of (out-Typed t).ty
type_at-root t = ap type_seen (fold_out-Typed SeenNode Seen seen_node seen_tree t)

types_of-append : (ts us : List Typed) → types_of (ts ++ us) ≡ types_of ts ++ types_of us
types_of-append ts us = ap (map type_seen) (map-append seen ts us) ∙ map-append type_seen (map seen ts) (map seen us)

LastIs-end : (own t : CType) (ts : List CType) → ValueIs own t → LastIs own (ts ++ t ∷ [])
LastIs-end own t [] e = e
LastIs-end own t (a ∷ []) e = e
LastIs-end own t (a ∷ b ∷ ts) e = LastIs-end own t (b ∷ ts) e

pub LastIs-last : (own : CType) (front : List Typed) (last : Typed) (all : List Typed) → all ≡ front ++ last ∷ [] →
    ValueIs own (type_of (out-Typed last).ty) → LastIs own (types_of all)
LastIs-last own front last all e is =
    let P : List CType → Type 0 = LastIs own in
    let Q : CType → Type 0 = ValueIs own in
    subst P (sym (ap types_of e ∙ types_of-append front (last ∷ []))) (LastIs-end own (type_at last) (types_of front) (subst Q (sym (type_at-root last)) is))
