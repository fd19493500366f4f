-- Sets that grow towards the union of two.
use Rattle.std.proofs.Common.{◌≡◌, Bool, true, false, cond, ◌||◌, refl, sym, ap, ◌∙◌}
use Rattle.std.specs.BTreeMap.{BTreeMap, IsOrdered}
use Rattle.ub_base.specs.NameOrders.{object_cmp}
use Rattle.ub_base.specs.declared.names.ObjName.{ObjName}
use Rattle.footprint.specs.declared.state.State.{State}
use Rattle.footprint.specs.Between.{AreBetween}
use Rattle.footprint.specs.States.{state_in, either, listed}
use Rattle.footprint.proofs.SetLemmas.{or_assoc, either_assoc, listed_all}

pub or_same : (a : Bool) → (a || a) ≡ a
or_same true = refl
or_same false = refl

-- what was held is held after one step more
pub grown_or : (o n new b : Bool) → new ≡ (n || b) → (o || n) ≡ n → (o || new) ≡ new
grown_or o n new b is h = ap (λ z. o || z) is ∙ sym (or_assoc o n b) ∙ ap (λ z. z || b) h ∙ sym is

or_true : (o : Bool) → (o || true) ≡ true
or_true true = refl
or_true false = refl

grown_by : (b o n : Bool) → (o || n) ≡ n → (o || cond b true n) ≡ cond b true n
grown_by true o n h = or_true o
grown_by false o n h = h

pub grown_key : (b o n new : Bool) → new ≡ cond b true n → (o || n) ≡ n → (o || new) ≡ new
grown_key b o n new is h = ap (λ z. o || z) is ∙ grown_by b o n h ∙ sym is

-- ---- states
pub either_same : (s : State) → either s s ≡ s
either_same s = λ i. record {
  born = or_same s.born i;
  dies = or_same s.dies i;
  alive = or_same s.alive i;
  expose = or_same s.expose i;
}

pub grown_state : (o n new s : State) → new ≡ either n s → either o n ≡ n → either o new ≡ new
grown_state o n new s is h = ap (either o) is ∙ sym (either_assoc o n s) ∙ ap (λ z. either z s) h ∙ sym is

states_between : (o m n rest : State) → either o n ≡ n → either n rest ≡ either o m → AreBetween o m n
states_between o m n rest grown whole =
    (grown, ap (either n) (sym whole) ∙ sym (either_assoc n n rest) ∙ ap (λ z. either z rest) (either_same n) ∙ whole)

pub listed_between : (more : BTreeMap ObjName State) (x : ObjName) (o n rest : State) → IsOrdered object_cmp more → either o n ≡ n →
    either n rest ≡ either o (listed more.entries x) → AreBetween o (state_in more x) n
listed_between more x o n rest ordered grown whole =
    states_between o (state_in more x) n rest grown (whole ∙ ap (either o) (listed_all more x ordered))
