-- How what a node is worth comes from what its operands are.
use Rattle.std.proofs.Common.{
  ◌≡◌,
  ℕ,
  zero,
  suc,
  ◌+◌,
  ◌<◌,
  Bool,
  true,
  false,
  if◌then◌else◌,
  List,
  [],
  ◌∷◌,
  length,
  get_or,
  Option,
  Some,
  None,
  refl,
  sym,
  ap,
  ◌∙◌,
  arith,
}
use Rattle.std.specs.Prelude.{IfSome}
use Rattle.c_typed.specs.declared.tree.Typed.{Typed, out-Typed, fold_out-Typed}
use Rattle.type_constants.specs.declared.constant.Folded.{Folded}
use Rattle.type_constants.specs.declared.constant.Folded.TheVariants.{Unknown}
use Rattle.type_operands.specs.Terms.{Term, Terms, Seen, term, none, more, term_of, terms_of, seen_node, node_step, tree_step}
use Rattle.type_reasons.specs.Places.{Places}
use Rattle.type_constants.specs.Constants.{parts, worth, never_constant, is_comma, of_comma, of_operands, of_node}

abbrev mutual
  pub nodes : Term → ℕ
  nodes (term head own ty line operands) = 1 + all_nodes operands

  pub all_nodes : Terms → ℕ
  all_nodes none = 0
  all_nodes (more t ts) = 1 + nodes t + all_nodes ts

pub child_below : (xs : List Typed) (i : ℕ) (x : Typed) → i < length xs → x ≡ get_or xs i x → nodes (term_of x) < all_nodes (terms_of xs)
child_below [] i x h e = absurd (omega arith)
child_below (y ∷ ys) zero x h e = let f = ap (λ z. nodes (term_of z)) e in omega arith
child_below (y ∷ ys) (suc i) x h e = let f = child_below ys i x (omega arith) e in omega arith

with_one : (o : Option Places) (P R : Places → Type 0) → IfSome o P → ((at : Places) → P at → R at) → IfSome o R
with_one None P R p f = tt
with_one (Some at) P R p f = f at p

worth_at : (at : Places) (t : Typed) → worth at (term_of t) ≡ of_node (seen_node (out-Typed t).node).head (parts at (terms_of (out-Typed t).children))
worth_at at t = ap (worth at) (fold_out-Typed Seen Term node_step tree_step t)

second : (n k : Bool) (a b c : Folded) → n ≡ false → k ≡ true → (if n then a else if k then b else c) ≡ b
second false true a b c h k = refl
second false false a b c h k = absurd (cc)
second true k a b c h e = absurd (cc)

third : (n k : Bool) (a b c : Folded) → n ≡ false → k ≡ false → (if n then a else if k then b else c) ≡ c
third false false a b c h k = refl
third false true a b c h k = absurd (cc)
third true k a b c h e = absurd (cc)

pub comma_answers : (o : Option Places) (t : Typed) (ks : List Typed) (r : Folded) → ks ≡ (out-Typed t).children →
    never_constant (seen_node (out-Typed t).node).head ≡ false → is_comma (seen_node (out-Typed t).node).head ≡ true →
    IfSome o (λ at. r ≡ of_comma (parts at (terms_of ks))) → IfSome o (λ at. r ≡ worth at (term_of t))
comma_answers o t ks r e n k s =
    with_one o (λ at. r ≡ of_comma (parts at (terms_of ks))) (λ at. r ≡ worth at (term_of t)) s
    (λ at h. h ∙ (ap (λ z. of_comma (parts at (terms_of z))) e
    ∙ (sym (second (never_constant (seen_node (out-Typed t).node).head) (is_comma (seen_node (out-Typed t).node).head) Unknown
    (of_comma (parts at (terms_of (out-Typed t).children))) (of_operands (seen_node (out-Typed t).node).head (parts at (terms_of (out-Typed t).children))) n
    k)
    ∙ sym (worth_at at t))))

pub operand_answers : (o : Option Places) (t : Typed) (ks : List Typed) (r : Folded) → ks ≡ (out-Typed t).children →
    never_constant (seen_node (out-Typed t).node).head ≡ false → is_comma (seen_node (out-Typed t).node).head ≡ false →
    IfSome o (λ at. r ≡ of_operands (seen_node (out-Typed t).node).head (parts at (terms_of ks))) → IfSome o (λ at. r ≡ worth at (term_of t))
operand_answers o t ks r e n k s =
    with_one o (λ at. r ≡ of_operands (seen_node (out-Typed t).node).head (parts at (terms_of ks))) (λ at. r ≡ worth at (term_of t)) s
    (λ at h. h ∙ (ap (λ z. of_operands (seen_node (out-Typed t).node).head (parts at (terms_of z))) e
    ∙ (sym (third (never_constant (seen_node (out-Typed t).node).head) (is_comma (seen_node (out-Typed t).node).head) Unknown
    (of_comma (parts at (terms_of (out-Typed t).children))) (of_operands (seen_node (out-Typed t).node).head (parts at (terms_of (out-Typed t).children))) n
    k)
    ∙ sym (worth_at at t))))
