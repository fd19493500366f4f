-- The full expression in which two evaluations stand, and that a conflict of two that are due is passed over by none.
use Rattle.std.proofs.Common.{◌≡◌, ◌<◌, ◌^◌, ◌||◌, ℕ, Bor, Bool, true, false, List, length, get_or, Option, option_map, Some, None, refl, ap, sym, subst, ◌∙◌}
use Rattle.std.proofs.Common.{if◌then◌else◌}
use Rattle.std.specs.Prelude.{slice_get}
use Rattle.std.proofs.lemmas.Option.{slice_get-map, slice_get_read, same_Some}
use Rattle.ub_base.specs.declared.names.Event.{Event}
use Rattle.c_typed.specs.declared.tree.Place.{Place}
use Rattle.c_typed.specs.declared.tree.Typed.{Typed}
use Rattle.c_typed.specs.Tree.{Tree, tree_of, size}
use Rattle.c_typed.specs.Order.{Taken, is_body}
use Rattle.c_typed.specs.Decide.{due_in, is_before}
use Rattle.elaborate.specs.Roots.{tree_at, trees_at}
use Rattle.seq_order.specs.declared.relations.Relation.TheVariants.{Sequenced, Unsequenced, Indeterminate}
use Rattle.seq_order.specs.Marked.{taken_in}
use Rattle.seq_order.specs.Relations.{relation_in}
use Rattle.evaluation_log.specs.declared.found.Found.{Found}
use Rattle.evaluation_log.specs.FoundItems.{counts_before, first_found}
use Rattle.ub_base.specs.Frames.{Row as FrameRow}
use Rattle.run_state.specs.declared.watch.Begun.{Begun}
use Rattle.run_evaluations.specs.Told.{Opened}
use Rattle.conflict_detector.specs.Apart.{place_of, IsApart, AreApart, FoundApart, Suits}
use Rattle.conflict_detector.specs.Shown.{IsShown, IsDuePair}

pub found_at : (roots : List (Bor Typed)) (n : ℕ) (root : Bor Typed) (taken : Taken) (race : Bool) (event against : Event) → n < length roots →
    root ≡ get_or roots n root
    → IsApart taken (tree_at root) race (place_of event) (place_of against) → AreApart (trees_at roots) race event against
found_at roots n root taken race event against h e a = ∣ record {
  number = n;
  root = tree_at root;
  taken = taken;
  there = slice_get-map tree_at roots n ∙ ap (option_map tree_at) (slice_get_read roots (length roots) n root refl h e);
  apart = a;
} ∣₁

suits_by : (race x y z : Bool) → x ≡ false → y ≡ false → (race ≡ true → z ≡ false) →
    Suits race (if x || y then Sequenced else (if z then Indeterminate else Unsequenced))
suits_by race true y z h g free = absurd (cc)
suits_by race false true z h g free = absurd (cc)
suits_by race false false false h g free = tt
suits_by false false false true h g free = refl
suits_by true false false true h g free = absurd (let e = free refl in cc)

pub suits_pair : (race : Bool) (taken : Taken) (tree : Tree) (u v : Place) → is_before taken 0 tree u v ≡ false → is_before taken 0 tree v u ≡ false →
    (race ≡ true → (is_body u.kind || is_body v.kind) ≡ false) → Suits race (relation_in taken tree u v)
suits_pair race taken tree u v h g free = suits_by race (is_before taken 0 tree u v) (is_before taken 0 tree v u) (is_body u.kind || is_body v.kind) h g free

-- what a conflict of two that are due asks in the full expression that the view shows
pub record Stands (taken : Taken) (tree : Tree) (race : Bool) (u v : Place) : Type 0 where
  pub small : size tree < 2 ^ 32
  pub one : due_in taken 0 tree u ≡ true
  pub other : due_in taken 0 tree v ≡ true
  pub suits : Suits race (relation_in taken tree u v)

stands_in : (t : Opened) (f : Found) (u v : Place) (taken : Taken) (tree : Tree) → t.scope.taken ≡ taken → t.scope.tree ≡ tree → size tree < 2 ^ 32 →
    (p : IsDuePair t f) → p.one ≡ u → p.other ≡ v → Stands taken tree f.race u v
stands_in t f u v taken tree same_taken same_tree small p e g =
    subst (λ (z : Taken). Stands z tree f.race u v) same_taken
    (subst (λ (z : Tree). Stands t.scope.taken z f.race u v) same_tree
    (subst (λ (z : Place). Stands t.scope.taken t.scope.tree f.race z v) e
    (subst (λ (z : Place). Stands t.scope.taken t.scope.tree f.race p.one z) g (record {
      small = subst (λ (z : Tree). size z < 2 ^ 32) (sym same_tree) small;
      one = p.one_due;
      other = p.other_due;
      suits = suits_pair f.race t.scope.taken t.scope.tree p.one p.other p.apart.before p.apart.behind p.bodiless;
    }))))

-- in the full expression of its number
pub stands_at : (roots : List (Bor Typed)) (b : Begun) (t : Opened) (f : Found) (n : ℕ) (root : Bor Typed) (taken : List (Option ℕ)) → n ≡ b.tree →
    taken ≡ b.taken → slice_get roots n ≡ Some root → IsShown roots b t → IsDuePair t f →
    Stands (taken_in taken) (tree_of root.now) f.race (place_of f.event) (place_of f.against)
stands_at roots b t f n root taken same_n same_taken there s p =
    let same_bor = same_Some s.numbered.0 root (sym s.numbered.1 ∙ (ap (slice_get roots) (sym same_n) ∙ there)) in
    let typed : b.root.now ≡ root.now = sym s.numbered.2 ∙ ap (λ (z : Bor Typed). z.now) same_bor in
    stands_in t f (place_of f.event) (place_of f.against) (taken_in taken) (tree_of root.now)
    (s.taken ∙ ap taken_in (sym same_taken)) (s.tree ∙ ap tree_of typed)
    (subst (λ (z : Typed). size (tree_of z) < 2 ^ 32) typed s.small) p (sym (ap place_of p.event)) (sym (ap place_of p.against))

-- of two that stand as they ask the one that counts does
pub first_apart : (trees : List Tree) (rows : List FrameRow) (a b r : Option Found) → r ≡ first_found rows a b → FoundApart trees a → FoundApart trees b →
    FoundApart trees r
first_apart trees rows a b r e h g = subst (λ (z : Option Found). FoundApart trees z) (sym e) (of_two a b h g)
  where
    either : (c : Bool) (f k : Found) → FoundApart trees (Some f) → FoundApart trees (Some k) → FoundApart trees (if c then Some k else Some f)
    either true f k h g = g
    either false f k h g = h

    of_two : (a b : Option Found) → FoundApart trees a → FoundApart trees b → FoundApart trees (first_found rows a b)
    of_two None b h g = g
    of_two (Some f) None h g = h
    of_two (Some f) (Some k) h g = either (counts_before rows k f) f k h g
