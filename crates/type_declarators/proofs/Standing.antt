-- Keywords beside other specifiers.
use Rattle.std.proofs.Common.{◌≡◌, Bool, true, sym, ap, ◌∙◌, subst}
use Rattle.std.specs.Prelude.{not, ◌&&◌, if◌then◌else◌, Option, Some, None, Result}
use Rattle.c_types.specs.Types.{Qualified}
use Rattle.typing_words.specs.Words.{Words, with_qualifiers, may_be_restricted, const_type}
use Rattle.type_scope.specs.declared.fault.TypeFault.{TypeFault}
use Rattle.type_declarators.specs.Finds.{Finds}
use Rattle.type_declarators.specs.Keywords.{IsSaid}
use Rattle.type_declarators.specs.Parts.{qualified_so}
use Rattle.type_declarators.specs.declared.words.Words as held

pub finds_same : {A B : Type 0} (view : A → B) (o p : Option B) (r : Result A TypeFault) → o ≡ p → Finds view p r → Finds view o r
finds_same {A} {B} view o p r e f = let P : Option B → Type 0 = λ x. Finds view x r in subst P (sym e) f

said_so : (h : held.Words) (ws : Words) (q : Qualified) → IsSaid h ws → with_qualifiers ws q ≡ qualified_so h.restricted h.constant q
said_so h ws q s =
    ap (λ b. if b && not (may_be_restricted q.ty) then None else if ws.constant then const_type q else Some q) (sym s.restricted)
    ∙ ap (λ b. if h.restricted && not (may_be_restricted q.ty) then None else if b then const_type q else Some q) (sym s.constant)

stand_by : (b : Bool) (h : held.Words) (ws : Words) (q : Qualified) → IsSaid h ws → b ≡ true
    → (if b then with_qualifiers ws q else None) ≡ qualified_so h.restricted h.constant q
stand_by b h ws q s e = ap (λ x. if x then with_qualifiers ws q else None) e ∙ said_so h ws q s
