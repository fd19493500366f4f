-- Cells in a map against cells in a list.
use Rattle.std.specs.Bool.{MatchBool, ⊤}
use Rattle.std.proofs.Common.{subst, ◌≡◌, Bool, true, false, cond, not, ◌&&◌, ◌||◌, refl, sym, ap, ◌∙◌, [], ◌∷◌}
use Rattle.std.specs.Prelude.{Option, Some, None, is_some, Result, Ok, Err, OnOk, OnErr}
use Rattle.std.specs.Map.{lookup}
use Rattle.std.specs.BTreeMap.{is_at}
use Rattle.ub_base.specs.declared.names.Event.{Event}
use Rattle.ub_base.specs.declared.names.ObjName.{ObjName}
use Rattle.ub_base.specs.Names.{same_event, same_object}
use Rattle.ub_base.specs.NameOrders.{event_cmp}
use Rattle.ub_base.proofs.NameLemmas.{same_event_is, same_object_refl, same_object_is, tie_event}
use Rattle.exposure.specs.Cells.{Cells, kept_in, has_cell, is_other, MakesCell, Settles}

-- the cell that a look-up finds
abbrev pub kept_of : Option (Option ObjName) → Option ObjName
kept_of None = None
kept_of (Some k) = k

abbrev pub cell_of : Cells → Event → Option (Option ObjName)
cell_of cs id = lookup (is_at (event_cmp id)) cs

kept_split : (b : Bool) (k : Option ObjName) (rest : Option (Option ObjName)) (x : Option ObjName) → kept_of rest ≡ x →
    kept_of (cond b (Some k) rest) ≡ cond b k x
kept_split true k rest x h = refl
kept_split false k rest x h = h

pub kept_in_is : (cs : Cells) (id : Event) → kept_in cs id ≡ kept_of (cell_of cs id)
kept_in_is [] id = refl
kept_in_is (c ∷ cs) id = rw tie_event (sym (kept_split (same_event id c.0) c.1 (cell_of cs id) (kept_in cs id) (sym (kept_in_is cs id))))

has_split : (b : Bool) (k : Option ObjName) (rest : Option (Option ObjName)) (x : Bool) → is_some rest ≡ x → is_some (cond b (Some k) rest) ≡ cond b true x
has_split true k rest x h = refl
has_split false k rest x h = h

pub has_cell_is : (cs : Cells) (id : Event) → has_cell cs id ≡ is_some (cell_of cs id)
has_cell_is [] id = refl
has_cell_is (c ∷ cs) id = rw tie_event (sym (has_split (same_event id c.0) c.1 (cell_of cs id) (has_cell cs id) (sym (has_cell_is cs id))))

-- what an insertion gives at each event
abbrev pub Puts : Cells → Cells → Event → Option ObjName → Type 0
Puts old new id k = (e : Event) → cell_of new e ≡ cond (is_at (event_cmp id) e) (Some k) (cell_of old e)

make_kept : (b : Bool) (old : Option (Option ObjName)) → (b ≡ true → old ≡ None) → kept_of (cond b (Some None) old) ≡ kept_of old
make_kept true old h = rw (h refl)
make_kept false old h = refl

make_cells : (b : Bool) (old : Option (Option ObjName)) (k : Option ObjName) → is_some (cond b (Some k) old) ≡ b || is_some old
make_cells true old k = refl
make_cells false old k = refl

none_there : (cs : Cells) (id e : Event) → cell_of cs id ≡ None → same_event id e ≡ true → cell_of cs e ≡ None
none_there cs id e h same = subst (λ (x : Event). cell_of cs x ≡ None) (same_event_is id e same) h

pub makes : (old new : Cells) (id : Event) → cell_of old id ≡ None → Puts old new id None → MakesCell old new id
makes old new id absent puts = record {
  kept = λ e. rw (kept_in_is new e, kept_in_is old e, puts e, tie_event) (make_kept (same_event id e) (cell_of old e) (none_there old id e absent));
  cells = λ e. rw (has_cell_is new e, has_cell_is old e, puts e, tie_event) (make_cells (same_event id e) (cell_of old e) None);
}

already : (b : Bool) (x : Bool) → (b ≡ true → x ≡ true) → x ≡ b || x
already true x h = h refl
already false x h = refl

cell_there : (cs : Cells) (id e : Event) → is_some (cell_of cs id) ≡ true → same_event id e ≡ true → has_cell cs e ≡ true
cell_there cs id e h same = subst (λ (x : Event). has_cell cs x ≡ true) (same_event_is id e same) (has_cell_is cs id ∙ h)

pub makes_none : (cs : Cells) (id : Event) → is_some (cell_of cs id) ≡ true → MakesCell cs cs id
makes_none cs id h = record {
  kept = λ e. refl;
  cells = λ e. already (same_event id e) (has_cell cs e) (cell_there cs id e h);
}

settle_kept : (b : Bool) (x : ObjName) (old : Option (Option ObjName)) → kept_of (cond b (Some (Some x)) old) ≡ cond (b && true) (Some x) (kept_of old)
settle_kept true x old = refl
settle_kept false x old = refl

settle_cells : (b : Bool) (x : ObjName) (old : Option (Option ObjName)) → (b ≡ true → is_some old ≡ true) → is_some (cond b (Some (Some x)) old) ≡ is_some old
settle_cells true x old h = sym (h refl)
settle_cells false x old h = refl

some_there : (cs : Cells) (id e : Event) → is_some (cell_of cs id) ≡ true → same_event id e ≡ true → is_some (cell_of cs e) ≡ true
some_there cs id e h same = subst (λ (x : Event). is_some (cell_of cs x) ≡ true) (same_event_is id e same) h

pub settles : (old new : Cells) (id : Event) (x : ObjName) → is_some (cell_of old id) ≡ true → Puts old new id (Some x) → Settles old new id x
settles old new id x h puts = record {
  kept = λ e. rw (kept_in_is new e, kept_in_is old e, puts e, tie_event, has_cell_is old id, h) (settle_kept (same_event id e) x (cell_of old e));
  cells = λ e. rw (has_cell_is new e, has_cell_is old e, puts e, tie_event) (settle_cells (same_event id e) x (cell_of old e) (some_there old id e h));
}

uncelled : (b : Bool) (x k : Option ObjName) → k ≡ cond (b && false) x k
uncelled true x k = refl
uncelled false x k = refl

-- without a cell nothing is kept
pub settles_none : (cs : Cells) (id : Event) (x : ObjName) → cell_of cs id ≡ None → Settles cs cs id x
settles_none cs id x h = record {
  kept = λ e. rw (has_cell_is cs id, h) (uncelled (same_event id e) (Some x) (kept_in cs e));
  cells = λ e. refl;
}

again : (b c : Bool) (x : ObjName) (k : Option ObjName) → (b ≡ true → k ≡ Some x) → k ≡ cond (b && c) (Some x) k
again true true x k h = h refl
again true false x k h = refl
again false c x k h = refl

kept_there : (cs : Cells) (id e : Event) (x : ObjName) → kept_in cs id ≡ Some x → same_event id e ≡ true → kept_in cs e ≡ Some x
kept_there cs id e x h same = subst (λ (y : Event). kept_in cs y ≡ Some x) (same_event_is id e same) h

-- it was settled to that object before
pub settles_again : (cs : Cells) (id : Event) (x y : ObjName) → cell_of cs id ≡ Some (Some y) → same_object y x ≡ true → Settles cs cs id x
settles_again cs id x y h same =
    let kept : kept_in cs id ≡ Some x = kept_in_is cs id ∙ ap kept_of h ∙ ap Some (same_object_is y x same) in
    record {
      kept = λ e. again (same_event id e) (has_cell cs id) x (kept_in cs e) (kept_there cs id e x kept);
      cells = λ e. refl;
    }

pub none_from : (o : Option (Option ObjName)) → is_some o ≡ false → o ≡ None
none_from None h = refl
none_from (Some k) h = absurd (cc)

same_by_true : (x y : ObjName) → x ≡ y → true ≡ same_object x y
same_by_true x y e = sym (subst (λ (z : ObjName). same_object x z ≡ true) e (same_object_refl x))

same_by_false : (t : Bool) (x y : ObjName) → same_object x y ≡ t → (x ≡ y → false ≡ true) → false ≡ t
same_by_false true x y h right = right (same_object_is x y h)
same_by_false false x y h right = refl

-- the answer of `==`
pub same_by : (b : Bool) (x y : ObjName) → (b ≡ true → x ≡ y) → (x ≡ y → b ≡ true) → b ≡ same_object x y
same_by true x y left right = same_by_true x y (left refl)
same_by false x y left right = same_by_false (same_object x y) x y refl right

pub settles_if : (b : Bool) (cs : Cells) (id : Event) (x y : ObjName) → cell_of cs id ≡ Some (Some y) → b ≡ same_object y x →
    MatchBool b (Settles cs cs id x) ⊤
settles_if true cs id x y h same = settles_again cs id x y h (sym same)
settles_if false cs id x y h same = tt

not_not : (b : Bool) → b ≡ not (not b)
not_not true = refl
not_not false = refl

pub answer_if : (b : Bool) (cs : Cells) (id : Event) (x y : ObjName) → cell_of cs id ≡ Some (Some y) → b ≡ same_object y x →
    b ≡ not (is_other (kept_in cs id) x)
answer_if b cs id x y h same = rw (kept_in_is cs id, h) (same ∙ not_not (same_object y x))

-- an insertion that can't be refused
pub ok_of : {T E : Type 0} (r : Result T E) (P Q : Type 0) → OnOk r P → OnErr r Q → (Q → ⊥) → P
ok_of (Ok v) P Q h e never = h
ok_of (Err w) P Q h e never = absurd (never e)

pub some_not_none : (o : Option (Option ObjName)) (k : Option ObjName) → o ≡ Some k → o ≡ None → ⊥
some_not_none o k h e = cc
