-- The full expressions that are laid out, in turn.
use Rattle.std.proofs.Common.{rules, ◌≡◌, ◌≤◌, ℕ, length, drop, List, [], ◌∷◌, ◌++◌, map, flat_map, Option, Some, None}
use Rattle.std.proofs.Common.{refl, sym, ap, subst, ◌∙◌, append_assoc, append-nil}
use Rattle.std.proofs.lemmas.List.{drop_all}
use Rattle.c_typed.specs.declared.tree.Typed.{Typed}
use Rattle.c_typed.specs.declared.statement.Body.{Body, out-Body, out-roll-Body, roll-Body, roll-out-Body}
use Rattle.c_typed.specs.declared.statement.Body.TheOpen as form
use Rattle.c_typed.specs.declared.statement.Body.TheOpen.{Body-F}
use Rattle.c_typed.specs.declared.statement.Body.TheVariants as body
use Rattle.c_typed.specs.declared.statement.Block.{Block}
use Rattle.c_typed.specs.declared.statement.Entry.{Entry}
use Rattle.c_typed.specs.declared.statement.ForStart.{ForStart}
use Rattle.c_typed.specs.declared.program.Function.{Function}
use Rattle.elaborate.specs.Expressions.{block_trees, body_trees, defined_trees, function_trees}
use Rattle.run_statements.specs.declared.numbers.Numbers.{Numbers}
use Rattle.run_statements.specs.Bodies.{Grows, IsStatement}
use Rattle.run_statements.proofs.Forms.{statement_later}
use Rattle.run_layout.specs.declared.steps.Expression.{Expression}
use Rattle.run_layout.specs.declared.steps.FunctionCode.{FunctionCode}
use Rattle.run_layout.proofs.Followed.{body_of_block}
use Rattle.run_layout.specs.Roots.{roots_in, as_block, block_in, trees_in, code_trees, IsInBlock, AreInBlocks}
use Rattle.run_code.specs.Statements.{IsCodeOf, AreCodeOf}

-- a function that is defined by this block
out_block : (x : Block) → as_block (out-Body (body.Block x)) ≡ Some x
out_block x = ap (λ z. as_block (out-Body z)) (sym (body.rolls-Block x)) ∙ ap as_block (out-roll-Body (form.Block x))

pub block_of : (f : Function) (b : Body) (x : Block) → f.body ≡ Some b → b ≡ body.Block x → block_in f.body ≡ Some x
block_of f b x e is = ap block_in e ∙ (ap (λ z. as_block (out-Body z)) is ∙ out_block x)

-- where a list of things with trees was gone through up to one
next_trees : {A : Type 0} → (f : A → List Typed) (old new all : List Typed) (x : A) (rest items : List A) (ts : List Typed) → items ≡ x ∷ rest
    → old ++ flat_map f items ≡ all → f x ≡ ts → new ≡ old ++ ts → new ++ flat_map f rest ≡ all
next_trees f old new all x rest items ts is h e k = ap (λ z. z ++ flat_map f rest) k
    ∙ (append_assoc old ts (flat_map f rest)
    ∙ (ap (λ z. old ++ (z ++ flat_map f rest)) (sym e)
    ∙ (ap (λ z. old ++ flat_map f z) (sym is) ∙ h)))

pub next_mapped : {A B : Type 0} → (f : A → B) (old new all : List B) (x : A) (rest items : List A) → items ≡ x ∷ rest → old ++ map f items ≡ all
    → new ≡ old ++ f x ∷ [] → new ++ map f rest ≡ all
next_mapped f old new all x rest items is h e =
    ap (λ z. z ++ map f rest) e ∙ (append_assoc old (f x ∷ []) (map f rest) ∙ (ap (λ z. old ++ map f z) (sym is) ∙ h))

-- where none is left
pub no_trees : {A : Type 0} → (f : A → List Typed) (old all : List Typed) (items : List A) (i : ℕ) → length items ≤ i
    → old ++ flat_map f (drop i items) ≡ all → old ≡ all
no_trees f old all items i end h = sym (append-nil old) ∙ (sym (ap (λ z. old ++ flat_map f z) (drop_all i items end)) ∙ h)

other_form : (z : Body-F Body Entry ForStart Block) → ((x : Block) → z ≡ form.Block x → ⊥) → as_block z ≡ None
other_form (form.Block x) f = absurd (f x refl)
other_form _ f = refl

pub no_block : (o : Option Body) (b : Body) → o ≡ Some b → ((x : Block) → b ≡ body.Block x → ⊥) → block_in o ≡ None
no_block o b e f = ap block_in e ∙ other_form (out-Body b) (λ x is. f x (sym (roll-out-Body b) ∙ (ap roll-Body is ∙ body.rolls-Block x)))

is_code_later : (a b : Numbers) (o : Option Block) (c : Option FunctionCode) → Grows a b → IsCodeOf a o c → IsCodeOf b o c
is_code_later a b None None g h = tt
is_code_later a b None (Some c) g h = absurd h
is_code_later a b (Some x) None g h = absurd h
is_code_later a b (Some x) (Some c) g h = statement_later a b (body.Block x) c.body g h

code_later : (a b : Numbers) (fs : List Function) (cs : List (Option FunctionCode)) → Grows a b → AreCodeOf a fs cs → AreCodeOf b fs cs
code_later a b [] [] g h = tt
code_later a b [] (c ∷ cs) g h = absurd h
code_later a b (f ∷ fs) [] g h = absurd h
code_later a b (f ∷ fs) (c ∷ cs) g h = (is_code_later a b (block_in f.body) c g h.0, code_later a b fs cs g h.1)

code_more : (a : Numbers) (fs : List Function) (cs : List (Option FunctionCode)) (f : Function) (c : Option FunctionCode) → AreCodeOf a fs cs
    → IsCodeOf a (block_in f.body) c → AreCodeOf a (fs ++ f ∷ []) (cs ++ c ∷ [])
code_more a [] [] f c h k = (k, tt)
code_more a [] (d ∷ ds) f c h k = absurd h
code_more a (g ∷ gs) [] f c h k = absurd h
code_more a (g ∷ gs) (d ∷ ds) f c h k = (h.0, code_more a gs ds f c h.1 k)

-- what is laid out so far, with the functions so far and those that are left
abbrev pub LaidSoFar : Numbers → List Expression → (before left : List Function) → List (Option FunctionCode) → (all : List Typed) → Type 0
LaidSoFar ns es before left cs all =
    (roots_in es ++ flat_map code_trees left ≡ all) × (map (λ t. t.now) ns.roots.items ≡ roots_in es) × AreCodeOf ns before cs

pub laid_block : (a b : Numbers) (old new : List Expression) (f : Function) (x : Block) (c : FunctionCode) (oc : Option FunctionCode)
    (rest left before after : List Function) (cs more : List (Option FunctionCode)) (all : List Typed) → left ≡ f ∷ rest → after ≡ before ++ f ∷ []
    → more ≡ cs ++ oc ∷ [] → oc ≡ Some c → block_in f.body ≡ Some x → roots_in new ≡ roots_in old ++ block_trees x
    → map (λ t. t.now) b.roots.items ≡ map (λ t. t.now) a.roots.items ++ block_trees x → Grows a b → IsStatement b (body.Block x) c.body
    → LaidSoFar a old before left cs all → LaidSoFar b new after rest more all
laid_block a b old new f x c oc rest left before after cs more all is was gained code by order numbers g s h = (
  next_trees code_trees (roots_in old) (roots_in new) all f rest left (block_trees x) is h.0 (ap trees_in by) order,
  numbers ∙ (ap (λ z. z ++ block_trees x) h.1 ∙ sym order),
  subst (λ fs. AreCodeOf b fs more) (sym was) (subst (AreCodeOf b (before ++ f ∷ [])) (sym gained)
      (code_more b before cs f oc (code_later a b before cs g h.2) (subst (λ o. IsCodeOf b o oc) (sym by) (subst (IsCodeOf b (Some x)) (sym code) s)))),
)

pub laid_none : (a b : Numbers) (old new : List Expression) (f : Function) (oc : Option FunctionCode) (rest left before after : List Function)
    (cs more : List (Option FunctionCode)) (all : List Typed) → left ≡ f ∷ rest → after ≡ before ++ f ∷ [] → more ≡ cs ++ oc ∷ [] → oc ≡ None
    → block_in f.body ≡ None → new ≡ old → b ≡ a → LaidSoFar a old before left cs all → LaidSoFar b new after rest more all
laid_none a b old new f oc rest left before after cs more all is was gained code by same n h = (
  next_trees code_trees (roots_in old) (roots_in new) all f rest left [] is h.0 (ap trees_in by) (ap roots_in same ∙ sym (append-nil (roots_in old))),
  ap (λ z. map (λ t. t.now) z.roots.items) n ∙ (h.1 ∙ ap roots_in (sym same)),
  subst (λ z. AreCodeOf z after more) (sym n) (subst (λ fs. AreCodeOf a fs more) (sym was) (subst (AreCodeOf a (before ++ f ∷ [])) (sym gained)
      (code_more a before cs f oc h.2 (subst (λ o. IsCodeOf a o oc) (sym by) (subst (IsCodeOf a None) (sym code) tt))))),
)

form_of : (z : Body-F Body Entry ForStart Block) (x : Block) → as_block z ≡ Some x → z ≡ form.Block x
form_of (form.Block y) x e = let same : y ≡ x = cc in ap form.Block same
form_of _ x e = absurd (cc)

-- the full expressions of a function that is defined by a block, or is not defined
trees_same : (o : Option Body) → IsInBlock o → defined_trees o ≡ trees_in (block_in o)
trees_same None h = refl
trees_same (Some b) h =
    ap body_trees (sym (roll-out-Body b) ∙ (ap roll-Body (form_of (out-Body b) h.0 h.1) ∙ body.rolls-Block h.0))
    ∙ (body_of_block h.0 ∙ sym (ap trees_in h.1))

pub all_same : (fs : List Function) → AreInBlocks fs → flat_map function_trees fs ≡ flat_map code_trees fs
all_same [] h = refl
all_same (f ∷ fs) h = ap (λ z. z ++ flat_map function_trees fs) (trees_same f.body h.0) ∙ ap (λ z. code_trees f ++ z) (all_same fs h.1)
