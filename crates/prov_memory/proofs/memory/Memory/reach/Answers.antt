use Rattle.std.proofs.Common.{◌≡◌, ◌∙◌, refl, ap, sym, subst, Option, Some, None, [], ◌∷◌}
use Rattle.std.specs.Prelude.{slice_get}
use Rattle.std.proofs.lemmas.Result.{err_from_is_err_and}
use Rattle.addr_map.specs.Rows.{row_of}
use Rattle.ub_base.specs.declared.names.Item.TheVariants.{Alive}
use Rattle.mem_spec.specs.Store.{is_live}
use Rattle.mem_spec.specs.Script.{Done}
use Rattle.mem_objects.specs.Held.{Held, held_of}
use Rattle.mem_objects.specs.Memory.{Kept, HaveRows, IsRowOf, life_in}
use Rattle.prov_memory.specs.contracts.memory.Memory.{the_view}
use Rattle.mem_objects.proofs.ActLemmas.{row_found}
use Rattle.mem_objects.proofs.AccessLemmas.{dead_raises, checks, falls, named_is}
use Rattle.prov_memory.proofs.memory.Memory.reach.Goals as goal

pub returns-in_default-clause-raises : goal.returns-in_default-clause-raises
returns-in_default-clause-raises c = λ s e.
    let m = c.args.self.now in
    dead_raises m.rows c.args.len c.args.align c.args.addr c.args.name s
    (ap is_live e ∙ ap (λ (o : Option Held). is_live (life_in o)) c.in_default.ensures.object)

pub returns-in_default-get-clause-raises : goal.returns-in_default-get-clause-raises
returns-in_default-get-clause-raises c = λ s e.
    let m = c.args.self.now in
    let is : the_view c.self.inside ≡ m = c.self.view_is ∙ c.find.ensures.same in
    let none : held_of m.objects c.args.name ≡ None = c.in-Some.ensures.object ∙ ap (λ (k : Kept). slice_get k.objects c.in-Some.at)
    (sym is) ∙ sym c.in_default-get.ensures.object in
    dead_raises m.rows c.args.len c.args.align c.args.addr c.args.name s (ap is_live e ∙ ap (λ (o : Option Held). is_live (life_in o)) none)

pub returns-in_err-from-clause-raises : goal.returns-in_err-from-clause-raises
returns-in_err-from-clause-raises c =
    let p = err_from_is_err_and c.from_residual.result c.from_residual.ensures.1 in
    rw (p.1, p.2) (λ s e.
    let m = c.args.self.now in
    let is : the_view c.self.inside ≡ m = c.self.view_is ∙ c.find.ensures.same in
    let have : HaveRows m.rows m.objects = subst (λ (k : Kept). HaveRows k.rows k.objects) is c.self.invariant in
    let held : held_of m.objects c.args.name ≡ Some c.in-Some-get.object.now =
    c.in-Some.ensures.object ∙ ap (λ (k : Kept). slice_get k.objects c.in-Some.at) (sym is) ∙ sym c.in-Some-get.ensures.object in
    let row : IsRowOf (row_of m.rows c.args.name) c.in-Some-get.object.now = row_found m.rows m.objects c.args.name c.in-Some-get.object.now have held in
    checks m.rows c.in-Some-get.object.now c.args.len c.args.align c.args.addr c.args.name s _ row (e ∙ ap life_in held) c.in_err-from.ensures)

pub returns-clause-found : goal.returns-clause-found
returns-clause-found c =
    let m = c.args.self.now in
    let is : the_view c.self.inside ≡ m = c.self.view_is ∙ c.find.ensures.same in
    let there : slice_get m.objects c.in-Some.at ≡ Some c.in-Some-get.object.now =
    ap (λ (k : Kept). slice_get k.objects c.in-Some.at) (sym is) ∙ sym c.in-Some-get.ensures.object in
    let parts = falls c.in-Some-get.object.now c.args.len c.args.align c.args.addr c.in_ok-from.from c.in_ok-from.ensures in
    record {
      reached = record {
        object = c.in-Some-get.object.now;
        there = there;
        held = c.in-Some.ensures.object ∙ there;
        name = named_is m.objects c.in-Some.at c.args.name c.in-Some-get.object.now c.in-Some.ensures.some there;
        live = parts.0;
        range = parts.1;
        fits = c.in-Some-get.ensures.fit;
      };
      name_is = refl;
      settles_is = refl;
    }

pub returns-clause-exact : goal.returns-clause-exact
returns-clause-exact c = λ s e.
    let m = c.args.self.now in
    let is : the_view c.self.inside ≡ m = c.self.view_is ∙ c.find.ensures.same in
    let have : HaveRows m.rows m.objects = subst (λ (k : Kept). HaveRows k.rows k.objects) is c.self.invariant in
    let held : held_of m.objects c.args.name ≡ Some c.in-Some-get.object.now =
    c.in-Some.ensures.object ∙ ap (λ (k : Kept). slice_get k.objects c.in-Some.at) (sym is) ∙ sym c.in-Some-get.ensures.object in
    let row : IsRowOf (row_of m.rows c.args.name) c.in-Some-get.object.now = row_found m.rows m.objects c.args.name c.in-Some-get.object.now have held in
    checks m.rows c.in-Some-get.object.now c.args.len c.args.align c.args.addr c.args.name s _ row (e ∙ ap life_in held) c.in_ok-from.ensures
    ∙ ap (λ (o : Option Held). Done (record { object = c.args.name; from = c.in_ok-from.from; life = life_in o }) (Alive c.args.name ∷ []) s) (sym held)
