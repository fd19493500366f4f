-- A full expression begins: what that does to the machine.
use Rattle.std.proofs.Common.{◌≡◌, ◌≢◌, ℕ, ◌+◌, ◌-◌, ◌≤◌, ◌^◌, min, refl, sym, ap, ◌∙◌, subst, arith, List, [], length, Option, Some, None, Ok, slice_get}
use Rattle.seq_order.specs.Marked.{taken_in}
use Rattle.run_control.specs.declared.work.Use.{Use}
use Rattle.run_layout.specs.declared.steps.Expression.{Expression}
use Rattle.run_layout.specs.declared.whole.Code.{Code}
use Rattle.run_layout.specs.Chosen.{with_chosen}
use Rattle.run_layout.specs.InRange.{part_of}
use Rattle.run_state.specs.declared.machine.Machine.{Machine}
use Rattle.run_state.specs.declared.machine.Open.{Open}
use Rattle.run_state.specs.declared.watch.Begun.{Begun as Shown}
use Rattle.run_answers.specs.Choices.{HasChosen}
use Rattle.run_answers.specs.Beginning.{HasShown, IsAmong}
use Rattle.run_answers.specs.Keeping.{KeepsControl, KeepsFrames, begins, machine_with}
use Rattle.run_answers.specs.Picks.{top_of}
use Rattle.run_answers.proofs.Beginning.{begun_open, shown_in}

-- by the calls that it consists of: room is made for its values, it is shown, and the first operands are chosen
module _ (m g s n : Machine) (turn number size : ℕ) (how : Use) (laid : Expression) (cs : List (ℕ × ℕ)) (closed : m.top.stage ≡ None)
    (at : slice_get m.image.code.now.expressions.items number ≡ Some laid) (own : IsAmong m.top.expressions number)
    (chosen : cs ≡ part_of m.image.code.now.tables.chosen.items laid.chosen)
    (turned : turn ≡ min (m.top.turn + 1) (2 ^ 64 - 1)) (grown : g ≡ record m { top = begun_open m.top turn number how laid; values = g.values })
    (needs : size ≡ min (m.top.base + laid.rooms) (2 ^ 64 - 1)) (enough : size ≤ length g.values.items)
    (fewest : length m.values.items ≤ length g.values.items) (shown : HasShown g number laid.root s) (made : HasChosen s cs n) where
  abbrev opened : Open
  opened = begun_open m.top turn number how laid

  shape : s ≡ record m { top = opened; values = g.values; begun = s.begun }
  shape = shown.rest ∙ ap (λ (x : Machine). record x { begun = s.begun }) grown

  whole : n ≡ record m { top = opened; values = g.values; begun = n.begun }
  whole = made.rest ∙ ap (λ (x : Machine). record x { begun = n.begun }) shape

  count : length n.values.items ≡ length g.values.items
  count = ap (λ (x : Machine). length x.values.items) whole

  under : length g.below.items ≡ length m.below.items
  under = ap (λ (x : Machine). length x.below.items) grown

  below : length s.below.items ≡ length m.below.items
  below = ap (λ (x : Machine). length x.below.items) shape

  height : length n.below.items ≡ length m.below.items
  height = ap (λ (x : Machine). length x.below.items) whole

  began : g.begun.items ≡ m.begun.items
  began = ap (λ (x : Machine). x.begun.items) grown

  top : g.top ≡ n.top
  top = ap (λ (x : Machine). x.top) grown ∙ sym (ap (λ (x : Machine). x.top) whole)

  others : (j : ℕ) (b : Shown) → j ≢ length m.below.items → slice_get m.begun.items j ≡ Some b → slice_get n.begun.items j ≡ Some b
  others j b ne is =
      made.others j b (λ e. ne (e ∙ below))
      (shown.others j b (λ e. ne (e ∙ under)) (ap (λ (v : List Shown). slice_get v j) began ∙ is))

  turn_next : n.top.turn ≤ m.top.turn + 1
  turn_next = (let new : n.top.turn ≡ turn = ap (λ (x : Machine). x.top.turn) whole in omega (arith, new, turned))

  objects : length m.locals.items ≤ length n.locals.items
  objects = (let same : length n.locals.items ≡ length m.locals.items = ap (λ (x : Machine). length x.locals.items) whole in omega (arith, same))

  keeps : KeepsFrames m n
  keeps = record {
    rest = subst (λ (x : Machine). x ≡ machine_with m x) (sym whole) refl;
    turn = turn_next;
    begun = others;
    values = omega (arith, fewest, count);
    locals = objects;
  }

  there : n.top.base + laid.rooms ≤ length n.values.items
  there =
      (let base : n.top.base ≡ m.top.base = ap (λ (x : Machine). x.top.base) whole in
      omega (arith, base, needs, enough, count, n.values.ok.0, n.values.ok.1, n.values.small))

  abbrev IsShown : Type 0
  IsShown = (choices : List (Option ℕ))
      × (top_of n ≡ Some (record { frame = n.top.frame; turn = n.top.turn; tree = number; root = laid.root; taken = choices }))
      × ((k : ℕ) → taken_in choices k ≡ with_chosen (part_of n.image.code.now.tables.chosen.items laid.chosen) (taken_in []) k)

  is_shown : length m.below.items ≤ length m.begun.items → IsShown
  is_shown le =
      let more : length g.below.items ≤ length g.begun.items =
      subst (λ (k : ℕ). k ≤ length g.begun.items) (sym under) (subst (λ (v : List Shown). length m.below.items ≤ length v) (sym began) le) in
      let taken = made.taken (shown_in number laid g.top [])
      (subst (λ (k : ℕ). slice_get s.begun.items k ≡ Some (shown_in number laid g.top [])) (under ∙ sym below) (shown.shown more)) in (
        taken.0,
        subst (λ (k : ℕ). slice_get n.begun.items k ≡ Some (shown_in number laid n.top taken.0)) (below ∙ sym height)
            (taken.1 ∙ ap (λ (o : Open). Some (shown_in number laid o taken.0)) top),
        λ k. taken.2 k
            ∙ ap (λ (xs : List (ℕ × ℕ)). with_chosen xs (taken_in []) k)
            (chosen ∙ ap (λ (c : Code). part_of c.tables.chosen.items laid.chosen) (sym (ap (λ (x : Machine). x.image.code.now) whole))),
      )

  pub begins_so : KeepsControl m n (Ok None)
  begins_so = begins (record {
    keeps = keeps;
    closed = closed;
    number = number;
    laid = laid;
    at = at;
    own = own;
    stage = ap (λ (x : Machine). x.top.stage) whole;
    many = ap (λ (x : Machine). x.top.rooms) whole;
    rooms = there;
    shown = is_shown;
    left = ap (λ (x : Machine). x.left) whole;
  })
