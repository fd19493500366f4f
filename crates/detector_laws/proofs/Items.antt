-- The items that a trace has of an event stay as an entry is added that isn't of the event, nor of a frame that it started.
use Rattle.std.proofs.Common.{◌≡◌, ◌≢◌, ℕ, Bool, true, false, ◌&&◌, ◌==◌, if◌then◌else◌, List, [], ◌∷◌, ◌++◌, length}
use Rattle.std.proofs.Common.{Some, refl, sym, ap, subst, ◌∙◌, true≢false, arith}
use Rattle.std.proofs.lemmas.Bool.Decides.{nat_tests}
use Rattle.ub_base.specs.Frames.{Path}
use Rattle.ub_base.specs.declared.clause.Kind.{Kind}
use Rattle.ub_base.specs.declared.clause.Kind.TheVariants.{Val, Eff, Body}
use Rattle.ub_base.specs.declared.names.Item.{Item}
use Rattle.c_typed.specs.declared.tree.Place.{Place}
use Rattle.c_typed.specs.Order.{is_body, place, same_place}
use Rattle.c_model.specs.Findings.{is_under, items_of, items_under, same_path}
use Rattle.c_model.specs.Moments.{is_of, items_by}
use Rattle.c_model.specs.Runs.{Entry}
use Rattle.detector_laws.proofs.Paths.{and_l, and_r, node_of_head, not_same, not_true, not_under, path_is, under_length, under_same}

eq_of : (a b : ℕ) → (a == b) ≡ true → a ≡ b
eq_of a b h = grind (arith, nat_tests, h)

passed_over : (b : Bool) (xs ys : List Item) → b ≡ false → (if b then xs else ys) ≡ ys
passed_over false xs ys h = refl
passed_over true xs ys h = absurd (true≢false h)

-- the entry gives the event of this place no items
abbrev pub GivesNone : Entry → Path → ℕ → Place → Type 0
GivesNone x path turn w = (is_body w.kind && is_under x.path ((turn, w.node) ∷ path)) ≡ false

same_items : (trace : List Entry) (x e : Entry) (w : Place) → GivesNone x e.path e.turn w → items_of (x ∷ trace) e w ≡ items_of trace e w
same_items trace x e w h = go (is_body w.kind) (is_under x.path q) refl h
  where
    q : Path
    q = (e.turn, w.node) ∷ e.path

    go : (a b : Bool) → is_under x.path q ≡ b → (a && b) ≡ false →
        e.items ++ (if a then items_under q (x ∷ trace) else []) ≡ e.items ++ (if a then items_under q trace else [])
    go true false k n = ap (λ c. e.items ++ ((if c then x.items else []) ++ items_under q trace)) k
    go true true k n = absurd (true≢false n)
    go false b k n = refl

-- of each part of the trace
items_on : (trace : List Entry) (x : Entry) (path : Path) (turn : ℕ) (w : Place) → GivesNone x path turn w → (es : List Entry) →
    items_by (x ∷ trace) es path turn w ≡ items_by trace es path turn w
items_on trace x path turn w none [] = refl
items_on trace x path turn w none (e ∷ es) = go (is_of path turn w e) refl (items_on trace x path turn w none es)
  where
    own : is_of path turn w e ≡ true → items_of (x ∷ trace) e w ≡ items_of trace e w
    own h =
        let p = path_is e.path path (and_l (same_path e.path path) _ h) in
        let t = eq_of e.turn turn (and_l (e.turn == turn) _ (and_r (same_path e.path path) _ h)) in
        same_items trace x e w
        (subst (λ z. (is_body w.kind && is_under x.path ((e.turn, w.node) ∷ z)) ≡ false) (sym p)
        (subst (λ z. (is_body w.kind && is_under x.path ((z, w.node) ∷ path)) ≡ false) (sym t) none))

    go : (b : Bool) → is_of path turn w e ≡ b → items_by (x ∷ trace) es path turn w ≡ items_by trace es path turn w →
        (if b then items_of (x ∷ trace) e w else items_by (x ∷ trace) es path turn w) ≡ (if b then items_of trace e w else items_by trace es path turn w)
    go true h again = own h
    go false h again = again

pub items_stay : (trace : List Entry) (x : Entry) (path : Path) (turn : ℕ) (w : Place) → is_of path turn w x ≡ false → GivesNone x path turn w →
    items_by (x ∷ trace) (x ∷ trace) path turn w ≡ items_by trace trace path turn w
items_stay trace x path turn w other none =
    passed_over (is_of path turn w x) (items_of (x ∷ trace) x w) (items_by (x ∷ trace) trace path turn w) other ∙ items_on trace x path turn w none trace

-- ---- an entry of the frame itself
and_false : (a b : Bool) → b ≡ false → (a && b) ≡ false
and_false true b h = h
and_false false b h = refl

first_false : (a b : Bool) → a ≡ false → (a && b) ≡ false
first_false false b h = refl
first_false true b h = absurd (true≢false h)

last_false : (a b c : Bool) → c ≡ false → (a && (b && c)) ≡ false
last_false a b c h = and_false a (b && c) (and_false b c h)

pub none_of_own : (x : Entry) (path : Path) (turn : ℕ) (w : Place) → x.path ≡ path → GivesNone x path turn w
none_of_own x path turn w p =
    and_false (is_body w.kind) _ (not_under x.path ((turn, w.node) ∷ path) (let k = ap length p in omega (arith, k)))

-- of another event
pub stay_of_other : (trace : List Entry) (x : Entry) (path : Path) (turn : ℕ) (u w : Place) → x.path ≡ path → x.place ≡ Some u → same_place w u ≡ false →
    items_by (x ∷ trace) (x ∷ trace) path turn w ≡ items_by trace trace path turn w
stay_of_other trace x path turn u w p at other =
    items_stay trace x path turn w
    (ap (λ o. is_of path turn w (record x { place = o })) at ∙ last_false (same_path x.path path) (x.turn == turn) (same_place w u) other)
    (none_of_own x path turn w p)

-- ---- an entry of a frame above
body_is : (w : Place) → is_body w.kind ≡ true → w ≡ place w.node Body
body_is w h = λ i. record { node = w.node; kind = kind_is w.kind h i }
  where
    kind_is : (c : Kind) → is_body c ≡ true → c ≡ Body
    kind_is Body h = refl
    kind_is Val h = absurd (true≢false (sym h))
    kind_is Eff h = absurd (true≢false (sym h))

pub none_of_above : (x : Entry) (path : Path) (turn m : ℕ) (w : Place) → is_under x.path ((turn, m) ∷ path) ≡ true → w ≢ place m Body →
    GivesNone x path turn w
none_of_above x path turn m w under other =
    not_true (is_body w.kind && is_under x.path ((turn, w.node) ∷ path))
    (λ h. let b = and_l (is_body w.kind) _ h in
    let g = and_r (is_body w.kind) _ h in
    let n = node_of_head (turn, w.node) (turn, m) path path (under_same x.path ((turn, w.node) ∷ path) ((turn, m) ∷ path) g under refl) in
    other (body_is w b ∙ ap (λ z. place z Body) n))

pub stay_of_above : (trace : List Entry) (x : Entry) (path : Path) (turn m : ℕ) (w : Place) → is_under x.path ((turn, m) ∷ path) ≡ true → w ≢ place m Body →
    items_by (x ∷ trace) (x ∷ trace) path turn w ≡ items_by trace trace path turn w
stay_of_above trace x path turn m w under other =
    items_stay trace x path turn w
    (first_false (same_path x.path path) _
    (not_same path x.path (let k = under_length x.path ((turn, m) ∷ path) under in omega (arith, k))))
    (none_of_above x path turn m w under other)

-- ---- the newest entry itself
same_itself : (n : ℕ) → (n == n) ≡ true
same_itself n = grind (arith, nat_tests)
