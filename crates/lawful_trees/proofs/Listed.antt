-- The ranges of the parts that a list gives, and stores that initialize.
use Rattle.std.proofs.Common.{◌≡◌, ℕ, Bool, true, IsTrue, List, [], ◌∷◌, ◌++◌, map, refl, sym, ap, ◌∙◌, subst}
use Rattle.std.proofs.lemmas.List.{map-append}
use Rattle.c_types.specs.declared.tags.Tag.{Tag}
use Rattle.c_typed.specs.declared.program.Constant.{Constant}
use Rattle.c_typed.specs.declared.program.Program.{Program}
use Rattle.c_typed.specs.declared.tree.Access.{Access}
use Rattle.c_typed.specs.declared.tree.Node.{out-Node, out-roll-Node}
use Rattle.c_typed.specs.declared.tree.Node.TheOpen as shape
use Rattle.c_typed.specs.declared.tree.Node.TheVariants as nodes
use Rattle.c_typed.specs.declared.tree.Slot.{Slot}
use Rattle.c_typed.specs.declared.tree.Typed.{Typed, out-Typed}
use Rattle.c_typed.specs.Lawful.{Root, root_of, operands_of, given_parts, listed_span, zeros_in, StoresPart, Initializes}
use Rattle.c_typed.specs.Sites.{Blocks}
use Rattle.lawful_trees.specs.Parts.{range_of, listed_range}

ranges_listed : (tags : List Tag) (ts : List Typed) → map (listed_range tags) ts ≡ map range_of (map (λ t. zeros_in (listed_span tags (root_of t))) ts)
ranges_listed tags [] = refl
ranges_listed tags (t ∷ ts) = ap (λ (rs : List (ℕ × ℕ)). listed_range tags t ∷ rs) (ranges_listed tags ts)

pub ranges_given : (tags : List Tag) (bytes : List Constant) (ts : List Typed) (first all : List (ℕ × ℕ)) → first ≡ map range_of bytes
    → all ≡ first ++ map (listed_range tags) ts → all ≡ map range_of (given_parts tags bytes ts)
ranges_given tags bytes ts first all e h =
    h ∙ (ap (λ (rs : List (ℕ × ℕ)). rs ++ map (listed_range tags) ts) e
    ∙ (ap (λ (rs : List (ℕ × ℕ)). map range_of bytes ++ rs) (ranges_listed tags ts)
    ∙ sym (map-append range_of bytes (map (λ t. zeros_in (listed_span tags (root_of t))) ts))))

pub root_of-Assign : (t : Typed) (i : Bool) (a : Access) → (out-Typed t).node ≡ nodes.Assign i a → root_of t ≡ shape.Assign i a
root_of-Assign t i a e = ap out-Node (e ∙ sym (nodes.rolls-Assign i a)) ∙ out-roll-Node (shape.Assign i a)

pub stores : (slot : Slot) (t : Typed) (i : Bool) (a : Access) (ts : List Typed) → (out-Typed t).node ≡ nodes.Assign i a → IsTrue i → ts ≡ operands_of t
    → ((access : Access) → StoresPart slot (shape.Assign true access) ts) → StoresPart slot (root_of t) (operands_of t)
stores slot t i a ts e h k p =
    let P : Root → Type 0 = λ r. StoresPart slot r (operands_of t) in
    let Q : List Typed → Type 0 = StoresPart slot (shape.Assign true a) in
    subst P (sym (root_of-Assign t true a (e ∙ ap (λ (b : Bool). nodes.Assign b a) h))) (subst Q k (p a))

pub initializes : (q : Program) (blocks : Blocks) (t : Typed) (i : Bool) (a : Access) (ts : List Typed) → (out-Typed t).node ≡ nodes.Assign i a → IsTrue i
    → ts ≡ operands_of t → ((access : Access) → Initializes q blocks (shape.Assign true access) ts) → Initializes q blocks (root_of t) (operands_of t)
initializes q blocks t i a ts e h k p =
    let P : Root → Type 0 = λ r. Initializes q blocks r (operands_of t) in
    let Q : List Typed → Type 0 = Initializes q blocks (shape.Assign true a) in
    subst P (sym (root_of-Assign t true a (e ∙ ap (λ (b : Bool). nodes.Assign b a) h))) (subst Q k (p a))
