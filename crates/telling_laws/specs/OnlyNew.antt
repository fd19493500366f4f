-- Where nothing conflicts of what had shown before an event, only what newly shows with it counts (own; 6.5p2 for races).
use Rattle.std.specs.Prelude.{◌≡◌, Bool, true, false, List, []}
use Rattle.addr_map.specs.declared.map.Row.{Row}
use Rattle.c_typed.specs.declared.tree.Place.{Place}
use Rattle.c_typed.specs.Order.{Taken, has}
use Rattle.c_model.specs.Moments.{Open, has_shown}
use Rattle.c_model.specs.FirstFinding.{quarrels, races}
use Rattle.elaborate.specs.Formed.{is_formed}
use Rattle.finding_laws.specs.FirstPairs.{IsDue, IsFirstPair, NoPair, precedes}
use Rattle.run_evaluations.specs.Scopes.{Scope}
use Rattle.run_evaluations.specs.Told.{Grows}
use Rattle.telling_laws.specs.Newly.{IsTaken, ShowNewly, completed_with, with_it}

-- the full expression as c_model looks for findings in it, before the event and behind it; the items of what was done before are those that it had
pub record AreAround (s : Scope) (old : Taken) (passed : List Place) (u : Place) (before behind : Open) : Type 0 where
  pub grows : Grows old s.taken
  pub tree_before : before.tree ≡ s.tree
  pub taken_before : before.taken ≡ old
  pub shows_before : before.shows ≡ has_shown s.tree old (has passed)
  pub tree : behind.tree ≡ s.tree
  pub taken : behind.taken ≡ s.taken
  pub shows : behind.shows ≡ has_shown s.tree s.taken (has (with_it passed u))
  pub items : (w : Place) → has passed w ≡ true → behind.items w ≡ before.items w

-- the pair newly shows
abbrev pub IsNew : Scope → List Place → Place → Place → Place → Type 0
IsNew s passed u x y = ShowNewly s u.node (completed_with s passed u) x y

-- ---- among some pairs
-- of those two due events, the first of which comes first, pass the test, and no lesser pair does
pub record IsFirstAmong (o : Open) (Pairs : Place → Place → Type 0) (test : Place → Place → Bool) (u v : Place) : Type 0 where
  pub first : IsDue o u
  pub second : IsDue o v
  pub order : precedes u v ≡ true
  pub pair : Pairs u v
  pub passes : test u v ≡ true
  pub least : (x y : Place) → IsDue o x → IsDue o y → precedes x y ≡ true → Pairs x y → test x y ≡ true →
      (precedes x u ≡ false) × (x ≡ u → precedes y v ≡ false)

-- none of them passes it
abbrev pub NoneAmong : Open → (Place → Place → Type 0) → (Place → Place → Bool) → Type 0
NoneAmong o Pairs test = (x y : Place) → IsDue o x → IsDue o y → precedes x y ≡ true → Pairs x y → test x y ≡ false

-- ---- where nothing passed before the event
-- what passes with it is new, so the first one of all is the first one of these, and where none of these passes none does
abbrev pub OnlyNewPass : (test : Open → Place → Place → Bool) → Type 0
OnlyNewPass test = (s : Scope) (old : Taken) (passed : List Place) (u : Place) (ahead next : List Place) (before behind : Open) →
    IsTaken s old passed u ahead next → AreAround s old passed u before behind → NoPair before (test before) →
    ((x y : Place) → IsFirstAmong behind (IsNew s passed u) (test behind) x y → IsFirstPair behind (test behind) x y) ×
    (NoneAmong behind (IsNew s passed u) (test behind) → NoPair behind (test behind))

abbrev pub OnlyNewRace : Type 0
OnlyNewRace = (rows : List Row) → OnlyNewPass (races rows)

abbrev pub OnlyNewQuarrel : Type 0
OnlyNewQuarrel = (rows : List Row) → OnlyNewPass (quarrels rows)

-- ---- as a full expression begins nothing conflicts
abbrev pub NothingPasses : (test : Open → Place → Place → Bool) → Type 0
NothingPasses test = (s : Scope) (o : Open) → is_formed s.tree ≡ true → o.tree ≡ s.tree → o.taken ≡ s.taken →
    o.shows ≡ has_shown s.tree s.taken (has []) → NoPair o (test o)

abbrev pub NothingAtFirst : Type 0
NothingAtFirst = (rows : List Row) → NothingPasses (races rows) × NothingPasses (quarrels rows)
