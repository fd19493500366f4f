-- Paths through links.
use Rattle.std.proofs.Common.{◌≡◌, ℕ, suc, ◌+◌, ◌-◌, ◌<◌, ◌≤◌, min, List, [], ◌∷◌, ◌++◌, length, reverse, refl, sym, ◌∙◌, ap, arith, get_or, take, drop}
use Rattle.std.proofs.lemmas.List.{reverse-append, append_assoc, length-append, length-reverse, length-take, append-nil}
use Rattle.std.proofs.Math.Seq.{split_at}
use Rattle.run_control.specs.declared.links.Link.{Link}
use Rattle.run_control.specs.declared.work.Work.{Work}
use Rattle.run_control.specs.Links.{path}

-- newer links change no path
pub path_older : (new old : List Link) (n : ℕ) → n ≤ length old → path (new ++ old) n ≡ path old n
path_older [] old n h = refl
path_older (l ∷ ls) old n h =
    let i : path (ls ++ old) n ≡ path old n = path_older ls old n h in
    let len : length (ls ++ old) ≡ length ls + length old = length-append ls old in grind (arith, i, len)

pub path_beyond : (ls : List Link) (n : ℕ) → length ls < n → path ls n ≡ []
path_beyond [] n h = refl
path_beyond (l ∷ ls) n h = let i : length ls < n → path ls n ≡ [] = path_beyond ls n in grind (arith, i)

pub path_zero : (ls : List Link) → path ls 0 ≡ []
path_zero [] = refl
path_zero (l ∷ ls) = let i : path ls 0 ≡ [] = path_zero ls in grind (arith, i)

-- the links from the newest on, round one of them
pub rev : (xs : List Link) (i : ℕ) (l : Link) → i < length xs → l ≡ get_or xs i l
    → reverse xs ≡ reverse (drop (suc i) xs) ++ (l ∷ reverse (take i xs))
rev xs i l h e =
    let cut : xs ≡ take i xs ++ l ∷ drop (suc i) xs = split_at xs i l h ∙ ap (λ x. take i xs ++ x ∷ drop (suc i) xs) (sym e) in
    ap reverse cut ∙ (reverse-append (take i xs) (l ∷ drop (suc i) xs)
    ∙ (ap (λ ys. ys ++ reverse (take i xs)) (reverse-append (l ∷ []) (drop (suc i) xs))
    ∙ append_assoc (reverse (drop (suc i) xs)) (l ∷ []) (reverse (take i xs))))

pub before : (xs : List Link) (i : ℕ) → i < length xs → length (reverse (take i xs)) ≡ i
before xs i h = let len : length (take i xs) ≡ min i (length xs) = length-take i xs in length-reverse (take i xs) ∙ omega (arith, len, h)

pub first : (l : Link) (ls : List Link) (i : ℕ) → length ls ≡ i → path (l ∷ ls) (suc i) ≡ l.work ∷ path ls l.outer
first l ls i e = grind (arith, e)

pub at_link : (xs : List Link) (i : ℕ) (l : Link) → i < length xs → l ≡ get_or xs i l
    → path (reverse xs) (suc i) ≡ l.work ∷ path (reverse (take i xs)) l.outer
at_link xs i l h e =
    let len : length (reverse (take i xs)) ≡ i = before xs i h in
    ap (λ ls. path ls (suc i)) (rev xs i l h e)
    ∙ (path_older (reverse (drop (suc i) xs)) (l ∷ reverse (take i xs)) (suc i) (omega (arith, len)) ∙ first l (reverse (take i xs)) i len)

-- a link leads on to an older one
pub leads : (xs : List Link) (i : ℕ) (l : Link) → i < length xs → l ≡ get_or xs i l → l.outer ≤ i
    → path (reverse xs) (suc i) ≡ l.work ∷ path (reverse xs) l.outer
leads xs i l h e o =
    let len : length (reverse (take i xs)) ≡ i = before xs i h in
    at_link xs i l h e ∙ ap (λ ws. l.work ∷ ws)
    (sym (ap (λ ls. path ls l.outer) (rev xs i l h e) ∙ (path_older (reverse (drop (suc i) xs)) (l ∷ reverse (take i xs)) l.outer (omega (arith, len, o))
    ∙ path_older (l ∷ []) (reverse (take i xs)) l.outer (omega (arith, len, o)))))

-- and to none that isn't older
pub leads_nowhere : (xs : List Link) (i : ℕ) (l : Link) → i < length xs → l ≡ get_or xs i l → suc i ≤ l.outer
    → path (reverse xs) (suc i) ≡ l.work ∷ []
leads_nowhere xs i l h e o =
    let len : length (reverse (take i xs)) ≡ i = before xs i h in
    at_link xs i l h e ∙ ap (λ ws. l.work ∷ ws) (path_beyond (reverse (take i xs)) l.outer (omega (arith, len, o)))

-- one more link on the way, where `found` was gathered before
pub step_on : (xs : List Link) (found found' all : List Work) (at : ℕ) (l : Link) → 0 < at → at - 1 < length xs → l ≡ get_or xs (at - 1) l → l.outer < at
    → found' ≡ found ++ l.work ∷ [] → found ++ path (reverse xs) at ≡ all → found' ++ path (reverse xs) l.outer ≡ all
step_on xs found found' all at l p h e o f i =
    let is : suc (at - 1) ≡ at = omega (arith, p) in
    let on : path (reverse xs) at ≡ l.work ∷ path (reverse xs) l.outer = ap (path (reverse xs)) (sym is) ∙ leads xs (at - 1) l h e (omega (arith, o)) in
    ap (λ ws. ws ++ path (reverse xs) l.outer) f ∙ (append_assoc found (l.work ∷ []) (path (reverse xs) l.outer) ∙ (ap (λ ws. found ++ ws) (sym on) ∙ i))

pub step_off : (xs : List Link) (found found' all : List Work) (at : ℕ) (l : Link) → 0 < at → at - 1 < length xs → l ≡ get_or xs (at - 1) l → at ≤ l.outer
    → found' ≡ found ++ l.work ∷ [] → found ++ path (reverse xs) at ≡ all → found' ≡ all
step_off xs found found' all at l p h e o f i =
    let is : suc (at - 1) ≡ at = omega (arith, p) in
    let on : path (reverse xs) at ≡ l.work ∷ [] = ap (path (reverse xs)) (sym is) ∙ leads_nowhere xs (at - 1) l h e (omega (arith, o)) in
    f ∙ (ap (λ ws. found ++ ws) (sym on) ∙ i)

pub past : (xs : List Link) (found all : List Work) (at : ℕ) → 0 < at → length xs ≤ at - 1 → found ++ path (reverse xs) at ≡ all → found ≡ all
past xs found all at p h i =
    let len : length (reverse xs) ≡ length xs = length-reverse xs in
    sym (append-nil found) ∙ (ap (λ ws. found ++ ws) (sym (path_beyond (reverse xs) at (omega (arith, p, h, len)))) ∙ i)

pub at_none : (xs : List Link) (found all : List Work) (at : ℕ) → at ≤ 0 → found ++ path (reverse xs) at ≡ all → found ≡ all
at_none xs found all at p i =
    let is : at ≡ 0 = omega (arith, p) in
    sym (append-nil found) ∙ (ap (λ ws. found ++ ws) (sym (ap (path (reverse xs)) is ∙ path_zero (reverse xs))) ∙ i)
