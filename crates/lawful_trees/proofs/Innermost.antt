-- The innermost block round a place.
use Rattle.std.proofs.Common.{◌≡◌, ℕ, ◌==◌, IsTrue, List, [], ◌∷◌, ◌++◌, Option, Some, sym, ap, ◌∙◌, subst}
use Rattle.c_typed.specs.declared.tree.Slot.{Slot}
use Rattle.c_typed.specs.declared.tree.Slot.TheVariants as slots
use Rattle.c_typed.specs.Lawful.{IsOwn}
use Rattle.c_typed.specs.Sites.{Blocks, no_block}
use Rattle.lawful_trees.specs.declared.place.Around.{Around}
use Rattle.lawful_trees.specs.Places.{blocks_of, blocks_of-last}

abbrev innermost_of : Blocks → Option ℕ
innermost_of blocks = blocks.innermost

innermost-last : (around front : List Around) (a : Around) → around ≡ front ++ a ∷ [] → (blocks_of no_block around).innermost ≡ Some a.number
innermost-last around front a e = ap (λ (l : List Around). innermost_of (blocks_of no_block l)) e ∙ ap innermost_of (blocks_of-last no_block front a)

pub own : (around front : List Around) (a : Around) (slot : Slot) (block decl : ℕ) → around ≡ front ++ a ∷ [] → slot ≡ slots.Auto block decl → block ≡ a.number
    → IsOwn (blocks_of no_block around) slot
own around front a slot block decl e is h =
    let P : Slot → Type 0 = IsOwn (blocks_of no_block around) in
    subst P (sym is) (innermost-last around front a e ∙ ap (λ (n : ℕ). Some n) (sym h))
