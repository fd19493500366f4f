-- The rules and lines of a tree are those of its root and of its operands.
use Rattle.std.proofs.Common.{◌≡◌, ℕ, zero, suc, ◌≤◌, ◌<◌, ◌+◌, ◌-◌, ◌^◌, min, List, [], ◌∷◌, ◌++◌, length, map, drop, set, get_or}
use Rattle.std.proofs.Common.{Result, Ok, Err, refl, sym, ap, ◌∙◌, append_assoc, arith}
use Rattle.std.specs.Prelude.{slice_get}
use Rattle.c_typed.specs.declared.tree.Node.{Node, fold-Node}
use Rattle.c_typed.specs.declared.tree.Typed.{Typed, out-Typed, fold_out-Typed}
use Rattle.evaluation_log.specs.declared.rules.Rule.{Rule}
use Rattle.evaluation_log.specs.declared.rules.Rule.TheVariants.{Open}
use Rattle.evaluation_log.specs.Ruled.{NodeRule, TreeRules, node_rule, tree_rules, rules_of, rules_among, last_among}
use Rattle.evaluation_log.specs.Ruled.{joined, no_line, tree_lines, lines_of, line_or, sought_line}

abbrev pub own_rule : Node → NodeRule
own_rule = fold-Node NodeRule TreeRules node_rule tree_rules

pub rules_here : (t : Typed) (k : ℕ) → rules_of t k ≡
    own_rule (out-Typed t).node (min (last_among (map rules_of (out-Typed t).children) (suc k) k) (2 ^ 32 - 1)) ∷
    rules_among (map rules_of (out-Typed t).children) (suc k)
rules_here t k = ap (λ (g : TreeRules). g k) (fold_out-Typed NodeRule TreeRules node_rule tree_rules t)

length-join : (xs ys : List Rule) → length (xs ++ ys) ≡ length xs + length ys
length-join [] ys = omega arith
length-join (x ∷ xs) ys = let r = length-join xs ys in omega (arith, r)

-- the place of the root is taken before its operands are added
pub begun : (t : Typed) (items : List Typed) (old new : List Rule) → items ≡ (out-Typed t).children → new ≡ old ++ Open ∷ [] →
    (new ++ rules_among (map rules_of items) (length new)
    ≡ old ++ (Open ∷ rules_among (map rules_of (out-Typed t).children) (suc (length old)))) ×
    (last_among (map rules_of items) (length new) (length old) ≡ last_among (map rules_of (out-Typed t).children) (suc (length old)) (length old))
begun t items old new k p =
    let n : length new ≡ suc (length old) = ap length p ∙ (length-join old (Open ∷ []) ∙ omega arith) in (
      ap (λ z. z ++ rules_among (map rules_of items) (length new)) p
          ∙ (append_assoc old (Open ∷ []) (rules_among (map rules_of items) (length new))
          ∙ (ap (λ z. old ++ (Open ∷ rules_among (map rules_of items) z)) n
          ∙ ap (λ z. old ++ (Open ∷ rules_among (map rules_of z) (suc (length old)))) k)),
      ap (λ z. last_among (map rules_of items) z (length old)) n ∙ ap (λ z. last_among (map rules_of z) (suc (length old)) (length old)) k,
    )

next : (i : ℕ) → suc (i + 1) ≡ suc i + 1
next i = omega arith

dropped : (ts : List Typed) (i : ℕ) (x : Typed) → i < length ts → x ≡ get_or ts i x → drop i ts ≡ x ∷ drop (i + 1) ts
dropped [] i x h e = absurd (omega (arith, h))
dropped (t ∷ ts) zero x h e = ap (λ z. z ∷ ts) (sym e)
dropped (t ∷ ts) (suc i) x h e =
    dropped ts i x (omega (arith, h)) e ∙ ap (λ z. x ∷ drop z (t ∷ ts)) (next i)

pub last_step : (ts : List Typed) (i last : ℕ) (x : Typed) (old new : List Rule) → i < length ts → x ≡ get_or ts i x → new ≡ old ++ rules_of x (length old) →
    last_among (map rules_of (drop i ts)) (length old) last ≡ last_among (map rules_of (drop (i + 1) ts)) (length new) (length old)
last_step ts i last x old new h e p =
    let n : length new ≡ length old + length (rules_of x (length old)) = ap length p ∙ length-join old (rules_of x (length old)) in
    ap (λ z. last_among (map rules_of z) (length old) last) (dropped ts i x h e)
    ∙ ap (λ z. last_among (map rules_of (drop (i + 1) ts)) z (length old)) (sym n)

with_none : (xs : List Rule) → xs ++ [] ≡ xs
with_none [] = refl
with_none (x ∷ xs) = ap (λ z. x ∷ z) (with_none xs)

set_behind : (old rest : List Rule) (x y : Rule) → set (old ++ (x ∷ rest)) (length old) y ≡ old ++ (y ∷ rest)
set_behind [] rest x y = refl
set_behind (o ∷ old) rest x y = ap (λ z. o ∷ z) (set_behind old rest x y)

pub past : (ts : List Typed) (i : ℕ) → length ts ≤ i → drop i ts ≡ []
past [] zero h = refl
past [] (suc i) h = refl
past (t ∷ ts) zero h = absurd (omega (arith, h))
past (t ∷ ts) (suc i) h = past ts i (omega (arith, h))

-- at last the root gets its own rule
pub ended : (t : Typed) (old now new : List Rule) (last : ℕ) →
    now ++ rules_among [] (length now) ≡ old ++ (Open ∷ rules_among (map rules_of (out-Typed t).children) (suc (length old))) →
    last ≡ last_among (map rules_of (out-Typed t).children) (suc (length old)) (length old) →
    new ≡ set now (length old) (own_rule (out-Typed t).node (min last (2 ^ 32 - 1))) → new ≡ old ++ rules_of t (length old)
ended t old now new last h l s =
    let rest = rules_among (map rules_of (out-Typed t).children) (suc (length old)) in
    let own = own_rule (out-Typed t).node (min last (2 ^ 32 - 1)) in
    s ∙ (ap (λ z. set z (length old) own) (sym (with_none now) ∙ h)
    ∙ (set_behind old rest Open own
    ∙ (ap (λ z. old ++ (own_rule (out-Typed t).node (min z (2 ^ 32 - 1)) ∷ rest)) l ∙ ap (λ z. old ++ z) (sym (rules_here t (length old))))))

-- ---- lines
pub lines_here : (t : Typed) → lines_of t ≡ (out-Typed t).line ∷ joined (map lines_of (out-Typed t).children)
lines_here t = fold_out-Typed (Unit {0}) (List ℕ) no_line tree_lines t

-- what is sought in a list, or behind it
abbrev pub and_then : Result ℕ ℕ → List ℕ → Result ℕ ℕ
and_then (Ok l) ls = Ok l
and_then (Err n) ls = sought_line n ls

sought-append : (xs ys : List ℕ) (n : ℕ) → sought_line n (xs ++ ys) ≡ and_then (sought_line n xs) ys
sought-append [] ys n = refl
sought-append (x ∷ xs) ys zero = refl
sought-append (x ∷ xs) ys (suc n) = sought-append xs ys n

pub sought-root : (t : Typed) (n : ℕ) → n ≡ 0 → sought_line n (lines_of t) ≡ Ok (out-Typed t).line
sought-root t n e = ap (λ z. sought_line z (lines_of t)) e ∙ ap (sought_line 0) (lines_here t)

pub sought-below : (t : Typed) (n : ℕ) (items : List Typed) → 0 < n → items ≡ (out-Typed t).children →
    sought_line (n - 1) (joined (map lines_of items)) ≡ sought_line n (lines_of t)
sought-below t zero items h e = absurd (omega (arith, h))
sought-below t (suc n) items h e =
    ap (λ z. sought_line z (joined (map lines_of items))) (omega arith)
    ∙ (ap (λ z. sought_line n (joined (map lines_of z))) e ∙ sym (ap (sought_line (suc n)) (lines_here t)))

-- a step of the loop over operands
pub sought-step : (ts : List Typed) (i n : ℕ) (x : Typed) (r : Result ℕ ℕ) → i < length ts → x ≡ get_or ts i x → r ≡ sought_line n (lines_of x) →
    sought_line n (joined (map lines_of (drop i ts))) ≡ and_then r (joined (map lines_of (drop (i + 1) ts)))
sought-step ts i n x r h e q =
    ap (λ z. sought_line n (joined (map lines_of z))) (dropped ts i x h e)
    ∙ (sought-append (lines_of x) (joined (map lines_of (drop (i + 1) ts))) n ∙ ap (λ z. and_then z (joined (map lines_of (drop (i + 1) ts)))) (sym q))

-- what a search answers
abbrev pub line_from : ℕ → Result ℕ ℕ → ℕ
line_from line (Ok l) = l
line_from line (Err n) = line

pub sought-get : (ls : List ℕ) (line n : ℕ) → line_from line (sought_line n ls) ≡ line_or line (slice_get ls n)
sought-get [] line zero = refl
sought-get [] line (suc n) = refl
sought-get (l ∷ ls) line zero = refl
sought-get (l ∷ ls) line (suc n) = sought-get ls line n
