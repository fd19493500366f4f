-- The rule of a node that is examined is its own.
use Rattle.std.proofs.Common.{◌≡◌, ◌<◌, ◌^◌, ℕ, Bor, Bool, true, List, ap, sym, subst, ◌∙◌}
use Rattle.std.specs.Prelude.{is_some}
use Rattle.c_typed.specs.declared.tree.Typed.{Typed}
use Rattle.c_typed.specs.declared.class.Class.{Class}
use Rattle.c_typed.specs.Tree.{Tree, Trees, tree_of, size}
use Rattle.c_typed.specs.Order.{Taken}
use Rattle.seq_order.specs.Marked.{taken_in}
use Rattle.evaluation_log.specs.declared.rules.Rule.{Rule}
use Rattle.evaluation_log.specs.declared.rules.Rules.{Rules}
use Rattle.evaluation_log.specs.Ruled.{rules_of}
use Rattle.evaluation_log.specs.Ways.{rule_in}
use Rattle.run_evaluations.specs.First.{SequencesNone}
use Rattle.run_evaluations.specs.Fitting.{has_lists_alone}
use Rattle.run_evaluations.specs.Scopes.{IsRuled, ListsAreAlone, Scope}
use Rattle.run_evaluations.specs.Shows.{FitsRules}
use Rattle.run_evaluations.specs.Told.{Opened}
use Rattle.run_evaluations.proofs.FitLemmas.{rules_fit}
use Rattle.run_state.specs.declared.watch.Begun.{Begun}
use Rattle.conflict_detector.specs.declared.examined.Expressions.{Expressions}
use Rattle.conflict_detector.specs.Examined.{HasRules}
use Rattle.conflict_detector.specs.Shown.{IsShown}
use Rattle.conflict_detector.specs.Telling.{TellsAt}

-- what holds of the rules of a full expression
pub record Fits (s : Scope) (rules : Rules) : Type 0 where
  pub fits : FitsRules s rules
  pub lists : ListsAreAlone s
  pub free : (n : ℕ) → SequencesNone s n (rule_in rules n)

fits_scope : (s : Scope) (root : Typed) (rules : Rules) → s.tree ≡ tree_of root → rules.list.items ≡ rules_of root 0 → size (tree_of root) < 2 ^ 32 →
    has_lists_alone root ≡ true → Fits s rules
fits_scope s root rules e known small alone =
    let h = rules_fit root rules s.taken known small alone in
    subst (λ (z : Tree). Fits (record { tree = z; taken = s.taken }) rules) (sym e) (record { fits = h.0; lists = h.1; free = h.2 })

pub fits_shown : (roots : List (Bor Typed)) (b : Begun) (t : Opened) (rules : Rules) → IsShown roots b t → rules.list.items ≡ rules_of b.root.now 0 →
    Fits t.scope rules
fits_shown roots b t rules s known = fits_scope t.scope b.root.now rules s.tree known s.small s.lists

pub lists_shown : (roots : List (Bor Typed)) (b : Begun) (t : Opened) (x : Expressions) → IsShown roots b t → HasRules x b.tree b.root.now →
    ListsAreAlone t.scope
lists_shown roots b t x s h = (fits_shown roots b t h.0.rules s h.2).lists

-- a rule with another word for whether a further operand is chosen
rechosen : (s : Scope) (n : ℕ) (own : Class) (ts : Trees) (rule : Rule) (a b : Bool) → a ≡ b → IsRuled s n own ts rule a → IsRuled s n own ts rule b
rechosen s n own ts rule a b e h = subst (λ (z : Bool). IsRuled s n own ts rule z) e h

pub ruled_shown : (roots : List (Bor Typed)) (b : Begun) (t : Opened) (x : Expressions) (n : ℕ) (own : TellsAt t n) (rule : Rule) (chosen : Bool) →
    IsShown roots b t → (h : HasRules x b.tree b.root.now) → rule ≡ rule_in h.0.rules n → chosen ≡ is_some (taken_in b.taken n) →
    IsRuled t.scope n own.class own.operands rule chosen
ruled_shown roots b t x n own rule chosen s h same is =
    let f = (fits_shown roots b t h.0.rules s h.2).fits.ruled n own.class own.operands own.there in
    subst (λ (z : Rule). IsRuled t.scope n own.class own.operands z chosen) (sym same)
    (rechosen t.scope n own.class own.operands (rule_in h.0.rules n) (is_some (t.scope.taken n)) chosen
    (ap (λ (g : Taken). is_some (g n)) s.taken ∙ sym is) f)

pub free_shown : (roots : List (Bor Typed)) (b : Begun) (t : Opened) (x : Expressions) (n : ℕ) (rule : Rule) →
    IsShown roots b t → (h : HasRules x b.tree b.root.now) → rule ≡ rule_in h.0.rules n → SequencesNone t.scope n rule
free_shown roots b t x n rule s h same =
    subst (λ (z : Rule). SequencesNone t.scope n z) (sym same) ((fits_shown roots b t h.0.rules s h.2).free n)
