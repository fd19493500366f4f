-- The lives of a block's objects end, one after the other.
use Rattle.std.proofs.Common.{◌≡◌, ℕ, suc, ◌+◌, ◌-◌, ◌^◌, min, refl, sym, ap, ◌∙◌, subst, append_assoc, List, [], ◌∷◌, ◌++◌, Some, slice_get}
use Rattle.ub_base.specs.declared.names.Item.{Item}
use Rattle.ub_base.specs.declared.names.Item.TheVariants.{Dies}
use Rattle.ub_base.specs.declared.names.ObjName.{ObjName}
use Rattle.mem_spec.specs.Acts.{kill}
use Rattle.mem_spec.specs.Script.{Act, Done, run}
use Rattle.mem_spec.specs.Store.{Store, buried}
use Rattle.mem_spec.specs.Streams.{Io}
use Rattle.mem_objects.specs.Keeps.{Keeps}
use Rattle.mem_objects.specs.Memory.{Kept, store_of}
use Rattle.prov_memory.proofs.KeepLemmas.{keeps_none, keeps_then}
use Rattle.run_state.specs.declared.machine.Local.{Local}
use Rattle.run_state.specs.declared.machine.Machine.{Machine}
use Rattle.run_answers.specs.Leaving.{HaveDied, buried_first, deaths, name_at, name_in}

-- what an act touched, and the store that it left
abbrev touched_by : {V : Type 0} → Act V → List Item
touched_by (Done v is s) = is
touched_by a = []

abbrev left_by : {V : Type 0} → Store → Act V → Store
left_by t (Done v is s) = s
left_by t a = t

-- at first nothing has died
pub nothing_more : (is : List Item) → is ≡ is ++ []
nothing_more [] = refl
nothing_more (i ∷ is) = ap (λ (js : List Item). i ∷ js) (nothing_more is)

pub none_died : (m : Machine) (first : ℕ) → HaveDied m first 0 m
none_died m first = record {
  rest = refl;
  kept = keeps_none m.memory;
  objects = refl;
  items = nothing_more m.items;
  store = λ io. refl;
}

-- and then one more
pub one_more : (old mid : Machine) (first n at : ℕ) (k : Kept) (t items : List Item) (x : ObjName) → HaveDied old first n mid →
    at ≡ min (first + n) (2 ^ 32 - 1) →
    (l : Local) × (slice_get mid.locals.items (min (mid.top.locals + at) (2 ^ 64 - 1)) ≡ Some l) × (l.name ≡ x) →
    Keeps mid.memory k → record k { objects = [] } ≡ record mid.memory { objects = [] } →
    ((io : Io) → run k.rows (kill x) (store_of mid.memory io) ≡ Done tt t (store_of k io)) → items ≡ mid.items ++ t →
    HaveDied old first (suc n) (record mid { memory = k; items = items; spare = t })
one_more old mid first n at k t items x d is there keeps rest exact joined =
    let name = name_at old first in
    let same : name n ≡ x =
    ap (λ (m : Machine). name_in (slice_get m.locals.items (min (m.top.locals + min (first + n) (2 ^ 32 - 1)) (2 ^ 64 - 1)))) (sym d.rest)
    ∙ ap (λ (i : ℕ). name_in (slice_get mid.locals.items (min (mid.top.locals + i) (2 ^ 64 - 1)))) (sym is) ∙ ap name_in there.1 ∙ there.2 in
    let died : t ≡ Dies x ∷ [] = sym (ap touched_by (exact mid.streams)) in
    record {
      rest = ap (λ (m : Machine). record m { memory = k; items = items; spare = t }) d.rest;
      kept = keeps_then old.memory mid.memory k d.kept keeps;
      objects = rest ∙ d.objects;
      items = joined ∙ ap (λ (is : List Item). is ++ t) d.items ∙ ap (λ (is : List Item). (old.items ++ deaths name n) ++ is) died
          ∙ ap (λ (y : ObjName). (old.items ++ deaths name n) ++ (Dies y ∷ [])) (sym same) ∙ simp append_assoc;
      store = λ io. sym (ap (left_by (store_of k io)) (exact io))
          ∙ ap (λ (s : Store). buried s x) (d.store io)
          ∙ ap (λ (y : ObjName). buried (buried_first name n (store_of old.memory io)) y) (sym same);
    }

pub as_many : (old new : Machine) (first n count : ℕ) → n ≡ count → HaveDied old first n new → HaveDied old first count new
as_many old new first n count is d = subst (λ (k : ℕ). HaveDied old first k new) is d
