use Rattle.std.proofs.Common.{ℕ, zero, suc, Bool, ◌||◌, List, [], ◌∷◌, None, refl, true≢false}
use Rattle.ub_base.specs.declared.clause.Kind.TheVariants.{Val, Eff, Body}
use Rattle.c_typed.specs.declared.tree.Place.{Place}
use Rattle.c_typed.specs.Order.{place, same_place}
use Rattle.c_model.specs.Runs.{Entry, trace_of}
use Rattle.c_model.specs.Findings.{first, later, newest, older, raised, raced}
use Rattle.c_model.specs.Examples.{world_of, canonical_run, local_rows, global_rows, self_increment, print_both, increment_and_call, quit_beside, HoldsRace}
use Rattle.c_model.proofs.Reach.{apart_by}
use Rattle.c_model.proofs.law_example_traces.Goals as goal

nothing : Entry
nothing = record { path = []; turn = 0; place = None; begun = None; line = 0; items = [] }

abbrev nth : ℕ → List Entry → Entry
nth n [] = record { path = []; turn = 0; place = None; begun = None; line = 0; items = [] }
nth zero (e ∷ es) = e
nth (suc n) (e ∷ es) = nth n es

-- an event and what comes after it
abbrev one_of : Place → Place → Bool
one_of u p = same_place u p

abbrev or_of : Place → Place → Place → Bool
or_of u v p = same_place u p || same_place v p

abbrev or_three : Place → Place → Place → Place → Bool
or_three u v w p = same_place u p || (same_place v p || same_place w p)

abbrev self : List Entry
self = trace_of (canonical_run self_increment local_rows 10)

race : HoldsRace (world_of self_increment local_rows) (canonical_run self_increment local_rows 10) 3 (place 0 Eff) (place 2 Eff)
race = record {
  newer = nth 0 self;
  older = nth 2 self;
  of_main = refl;
  of_turn = refl;
  race = record {
    both = newest (nth 0 self) (nth 2 self) _ (place 0 Eff) (place 2 Eff) refl
        (later _ (nth 2 self) _ (place 2 Eff) (first (nth 2 self) _ (place 2 Eff) refl)) refl refl;
    apart = apart_by _ _ (one_of (place 0 Eff)) (one_of (place 2 Eff)) (place 0 Eff) (place 2 Eff) refl refl refl refl refl refl;
    bodiless = refl;
    clash = refl;
  };
}

pub returns-clause-self_increment : goal.returns-clause-self_increment
returns-clause-self_increment c = race

pub returns-clause-meets : goal.returns-clause-meets
returns-clause-meets c = raced (canonical_run self_increment local_rows 10) race.newer race.older (place 0 Eff) (place 2 Eff) race.race

abbrev prints : List Entry
prints = trace_of (canonical_run print_both [] 6)

pub returns-clause-print_both : goal.returns-clause-print_both
returns-clause-print_both c = record {
  newer = nth 1 prints;
  older = nth 3 prints;
  of_main = refl;
  of_turn = refl;
  quarrel = record {
    both = older _ (nth 1 prints) (nth 3 prints) _ (place 4 Body) (place 1 Body)
        (newest (nth 1 prints) (nth 3 prints) _ (place 4 Body) (place 1 Body) refl
        (later _ (nth 3 prints) _ (place 1 Body) (first (nth 3 prints) _ (place 1 Body) refl)) refl refl);
    apart = apart_by _ _ (or_three (place 4 Body) (place 4 Val) (place 0 Val)) (or_three (place 1 Body) (place 1 Val) (place 0 Val)) (place 4 Body)
        (place 1 Body) refl refl refl refl refl refl;
    clash = refl;
    no_race = λ r. true≢false r.bodiless;
  };
}

abbrev calls : List Entry
calls = trace_of (canonical_run increment_and_call global_rows 15)

pub returns-clause-increment_and_call : goal.returns-clause-increment_and_call
returns-clause-increment_and_call c = record {
  newer = nth 6 calls;
  older = nth 7 calls;
  of_main = refl;
  of_turn = refl;
  quarrel = record {
    both = older _ (nth 6 calls) (nth 7 calls) _ (place 3 Body) (place 1 Eff)
        (older _ (nth 6 calls) (nth 7 calls) _ (place 3 Body) (place 1 Eff)
        (older _ (nth 6 calls) (nth 7 calls) _ (place 3 Body) (place 1 Eff)
        (older _ (nth 6 calls) (nth 7 calls) _ (place 3 Body) (place 1 Eff)
        (older _ (nth 6 calls) (nth 7 calls) _ (place 3 Body) (place 1 Eff)
        (older _ (nth 6 calls) (nth 7 calls) _ (place 3 Body) (place 1 Eff)
        (newest (nth 6 calls) (nth 7 calls) _ (place 3 Body) (place 1 Eff) refl (first (nth 7 calls) _ (place 1 Eff) refl) refl refl))))));
    apart = apart_by _ _ (or_three (place 3 Body) (place 3 Val) (place 0 Val)) (one_of (place 1 Eff)) (place 3 Body)
        (place 1 Eff) refl refl refl refl refl refl;
    clash = refl;
    no_race = λ r. true≢false r.bodiless;
  };
}

abbrev quits : List Entry
quits = trace_of (canonical_run quit_beside global_rows 7)

pub returns-clause-quit_beside : goal.returns-clause-quit_beside
returns-clause-quit_beside c = record {
  entry = nth 3 quits;
  of_main = refl;
  of_turn = refl;
  quarrel = record {
    here = later _ (nth 3 quits) _ (place 3 Body)
        (later _ (nth 3 quits) _ (place 3 Body) (later _ (nth 3 quits) _ (place 3 Body) (first (nth 3 quits) _ (place 3 Body) refl)));
    ends = refl;
    due = refl;
    other = refl;
    apart = apart_by _ _ (or_three (place 3 Body) (place 3 Val) (place 0 Val)) (or_of (place 1 Val) (place 0 Val)) (place 3 Body)
        (place 1 Val) refl refl refl refl refl refl;
  };
}

pub returns-clause-divide_by_zero : goal.returns-clause-divide_by_zero
returns-clause-divide_by_zero c = raised _ _
