-- The operands of a node, one by one.
use Rattle.std.proofs.Common.{◌≡◌, ◌+◌, ℕ, List, [], ◌∷◌, ◌++◌, append_assoc, Some, slice_get, sym, ap, subst, ◌∙◌}
use Rattle.c_typed.specs.declared.tree.Typed.{Typed}
use Rattle.c_typed.specs.Tree.{tree_of, size}
use Rattle.run_layout.specs.declared.nodes.NodeInfo.{NodeInfo}
use Rattle.run_layout.specs.declared.steps.Operand.{Operand}
use Rattle.run_layout.specs.Resolved.{resolved, operands_from}
use Rattle.run_layout.specs.Numbered.{AreNoted, AreBelow}

same_info : (nodes : List NodeInfo) (n : ℕ) (x y : NodeInfo) → slice_get nodes n ≡ Some x → slice_get nodes n ≡ Some y → x ≡ y
same_info nodes n x y e f = cc

-- what is noted of an operand
abbrev pub Walks : List ℕ → List NodeInfo → (parent at : ℕ) → List Typed → List Operand → List Operand → Type 0
Walks firsts nodes parent at left so_far all = (so_far ++ operands_from firsts at left ≡ all) × AreBelow nodes parent at left

pub one_walked : (firsts : List ℕ) (nodes : List NodeInfo) (parent at : ℕ) (left rest : List Typed) (child : Typed) (so_far more all : List Operand)
    (x : NodeInfo) → left ≡ child ∷ rest
    → AreNoted firsts nodes → slice_get nodes at ≡ Some x → more ≡ so_far ++ x.operand ∷ [] → Walks firsts nodes parent at left so_far all →
    Walks firsts nodes parent x.next rest more all
one_walked firsts nodes parent at left rest child so_far more all x e noted h m w =
    let below : AreBelow nodes parent at (child ∷ rest) = subst (AreBelow nodes parent at) e w.1 in
    let tree : x.tree.now ≡ child = ap (λ y. y.tree.now) (same_info nodes at x below.0.0 h below.0.1) ∙ below.0.2 in
    let own = noted at x h in
    let operand : x.operand ≡ resolved firsts child at = own.operand ∙ ap (λ t. resolved firsts t at) tree in
    let next : x.next ≡ at + size (tree_of child) = own.next ∙ ap (λ t. at + size (tree_of t)) tree in (
      ap (λ z. z ++ operands_from firsts x.next rest) m
          ∙ append_assoc so_far (x.operand ∷ []) (operands_from firsts x.next rest)
          ∙ ap (λ o. so_far ++ (o ∷ operands_from firsts x.next rest)) operand
          ∙ ap (λ n. so_far ++ (resolved firsts child at ∷ operands_from firsts n rest)) next
          ∙ ap (λ ts. so_far ++ operands_from firsts at ts) (sym e)
          ∙ w.0,
      subst (λ n. AreBelow nodes parent n rest) (sym next) below.1,
    )
