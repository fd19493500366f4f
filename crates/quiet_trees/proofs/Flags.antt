-- What a summary says of one event, and of two.
use Rattle.std.proofs.Common.{◌≡◌, ℕ, ◌<◌, Bool, true, false, ◌&&◌, ◌||◌, ◌==◌, Option, Some, None, refl, sym, ap, ◌∙◌, ◌⊎◌, inl, inr, arith}
use Rattle.ub_base.proofs.Tests.{and_left, and_right, and_both, or_cases, or_right, neither_left, neither_right, number_is, less_test}
use Rattle.ub_base.specs.Names.{same_kind}
use Rattle.ub_base.specs.declared.clause.Kind.{Kind}
use Rattle.ub_base.specs.declared.clause.Kind.TheVariants.{Val, Eff, Body}
use Rattle.c_typed.specs.declared.class.Class.{Class}
use Rattle.c_typed.specs.declared.class.Class.TheVariants.{Object, Constant, Plain, Store, Update, Choice, Comma, Call, Isolated}
use Rattle.c_typed.specs.Tree.{Tree, Trees, none, more, kinds_of, is_quiet_class}
use Rattle.c_typed.specs.Order.{goes, across, is_number, is_val, own_rule}
use Rattle.c_typed.specs.Decide.{has_kind, lifts}
use Rattle.quiet_trees.specs.Loads.{LoadsList, first, rest}
use Rattle.quiet_trees.specs.Acts.{Act, Nothing, Reads, Writes, All, act_by, may_clash}
use Rattle.quiet_trees.specs.declared.summary.Summary.{Summary}
use Rattle.quiet_trees.specs.Summaries.{meet, is_open, own_clash, loose_by, joined, topped, summary_of, summaries_of}

pub by_test : {C : Type 0} (b : Bool) → (b ≡ true → C) → (b ≡ false → C) → C
by_test true f g = f refl
by_test false f g = g refl

pub clear : (b : Bool) → b ≡ true → b ≡ false → ⊥
clear b h g = cc

pub rest_false : (a b : Bool) → a ≡ true → (a && b) ≡ false → b ≡ false
rest_false true b h g = g
rest_false false b h g = absurd (cc)

two_left : (a b c d : Bool) → (a && b) ≡ true → ((a || c) && (b || d)) ≡ true
two_left true true c d h = refl
two_left true false c d h = absurd (cc)
two_left false b c d h = absurd (cc)

two_right : (a b c d : Bool) → (c && d) ≡ true → ((a || c) && (b || d)) ≡ true
two_right a b true true h = and_both _ _ (or_right a true refl) (or_right b true refl)
two_right a b true false h = absurd (cc)
two_right a b false d h = absurd (cc)

or_here : (a b : Bool) → a ≡ true → (a || b) ≡ true
or_here true b h = refl
or_here false b h = absurd (cc)

-- the summary speaks of an event that does so
abbrev pub covers : Act → Summary → Bool
covers Nothing s = s.some
covers Reads s = s.some && s.touches
covers Writes s = s.some && (s.touches && s.writes)
covers All s = s.some && s.body

pub some_of : (a : Act) (s : Summary) → covers a s ≡ true → s.some ≡ true
some_of Nothing s h = h
some_of Reads s h = and_left _ _ h
some_of Writes s h = and_left _ _ h
some_of All s h = and_left _ _ h

pub cover_left : (a : Act) (class : Class) (s t : Summary) → covers a s ≡ true → covers a (joined class s t) ≡ true
cover_left Nothing class s t h = or_here _ _ h
cover_left Reads class s t h = two_left s.some s.touches t.some t.touches h
cover_left Writes class s t h =
    and_both _ _ (or_here s.some t.some (and_left s.some _ h)) (two_left s.touches s.writes t.touches t.writes (and_right s.some _ h))
cover_left All class s t h = two_left s.some s.body t.some t.body h

pub cover_right : (a : Act) (class : Class) (s t : Summary) → covers a t ≡ true → covers a (joined class s t) ≡ true
cover_right Nothing class s t h = or_right s.some t.some h
cover_right Reads class s t h = two_right s.some s.touches t.some t.touches h
cover_right Writes class s t h =
    and_both _ _ (or_right s.some t.some (and_left t.some _ h)) (two_right s.touches s.writes t.touches t.writes (and_right t.some _ h))
cover_right All class s t h = two_right s.some s.body t.some t.body h

pub top_covers : (a : Act) (class : Class) (l : Bool) (s : Summary) → covers a s ≡ true → covers a (topped class l s) ≡ true
top_covers Nothing class l s h = or_here _ _ h
top_covers Reads class l s h = two_left s.some s.touches _ _ h
top_covers Writes class l s h = and_both _ _ (or_here s.some _ (and_left s.some _ h)) (two_left s.touches s.writes _ _ (and_right s.some _ h))
top_covers All class l s h = two_left s.some s.body _ _ h

pub own_covers : (class : Class) (l : Bool) (kind : Kind) (s : Summary) → has_kind (kinds_of class) kind ≡ true →
    covers (act_by class l kind) (topped class l s) ≡ true
own_covers Plain true Val s h = and_both _ _ (or_right s.some true refl) (or_right s.touches true refl)
own_covers Plain false Val s h = or_right s.some true refl
own_covers Store l Val s h = or_right s.some true refl
own_covers Store l Eff s h = and_both _ _ (or_right s.some true refl) (and_both _ _ (or_right s.touches true refl) (or_right s.writes true refl))
own_covers Update l Val s h = and_both _ _ (or_right s.some true refl) (or_right s.touches true refl)
own_covers Update l Eff s h = and_both _ _ (or_right s.some true refl) (and_both _ _ (or_right s.touches true refl) (or_right s.writes true refl))
own_covers Choice l Val s h = or_right s.some true refl
own_covers Comma l Val s h = or_right s.some true refl
own_covers Call l Val s h = or_right s.some true refl
own_covers Call l Body s h = and_both _ _ (or_right s.some true refl) (or_right s.body true refl)
own_covers Isolated l Val s h = or_right s.some true refl
own_covers Isolated l Body s h = and_both _ _ (or_right s.some true refl) (or_right s.body true refl)
own_covers _ l _ s h = absurd (cc)

pub keeps_cover : (ts : Trees) (fs : LoadsList) (a : Act) (class : Class) (s : Summary) → covers a s ≡ true → covers a (summaries_of class s ts fs) ≡ true
keeps_cover none fs a class s h = h
keeps_cover (more t ts) fs a class s h =
    keeps_cover ts (rest fs) a class (joined class s (summary_of t (first fs))) (cover_left a class s (summary_of t (first fs)) h)

pub keeps_loose : (ts : Trees) (fs : LoadsList) (class : Class) (s : Summary) → s.loose ≡ true → (summaries_of class s ts fs).loose ≡ true
keeps_loose none fs class s h = h
keeps_loose (more t ts) fs class s h = keeps_loose ts (rest fs) class (joined class s (summary_of t (first fs))) (or_here s.loose _ h)

pub clear_before : (ts : Trees) (fs : LoadsList) (class : Class) (s : Summary) → (summaries_of class s ts fs).clash ≡ false → s.clash ≡ false
clear_before none fs class s h = h
clear_before (more t ts) fs class s h = neither_left s.clash _ (clear_before ts (rest fs) class (joined class s (summary_of t (first fs))) h)

pub clear_first : (t : Tree) (ts : Trees) (fs : LoadsList) (class : Class) (s : Summary) → (summaries_of class s (more t ts) fs).clash ≡ false →
    ((summary_of t (first fs)).clash || (is_open class && meet s (summary_of t (first fs)))) ≡ false
clear_first t ts fs class s h = neither_right s.clash _ (clear_before ts (rest fs) class (joined class s (summary_of t (first fs))) h)

-- an event of the one and one of the other may conflict only where the two summaries meet
pub meets : (a b : Act) (s t : Summary) → covers a s ≡ true → covers b t ≡ true → meet s t ≡ false → may_clash a b ≡ false
meets All b s t h g m = absurd (clear _ (and_both s.body t.some (and_right s.some s.body h) (some_of b t g)) (neither_left _ _ m))
meets Nothing All s t h g m =
    absurd (clear _ (and_both s.some t.body (some_of Nothing s h) (and_right t.some t.body g)) (neither_left _ _ (neither_right (s.body && t.some) _ m)))
meets Reads All s t h g m =
    absurd (clear _ (and_both s.some t.body (some_of Reads s h) (and_right t.some t.body g)) (neither_left _ _ (neither_right (s.body && t.some) _ m)))
meets Writes All s t h g m =
    absurd (clear _ (and_both s.some t.body (some_of Writes s h) (and_right t.some t.body g)) (neither_left _ _ (neither_right (s.body && t.some) _ m)))
meets Writes Reads s t h g m =
    absurd (clear _ (and_both s.writes t.touches (and_right s.touches s.writes (and_right s.some _ h)) (and_right t.some t.touches g))
    (neither_left _ _ (neither_right (s.some && t.body) _ (neither_right (s.body && t.some) _ m))))
meets Writes Writes s t h g m =
    absurd (clear _ (and_both s.writes t.touches (and_right s.touches s.writes (and_right s.some _ h)) (and_left t.touches t.writes (and_right t.some _ g)))
    (neither_left _ _ (neither_right (s.some && t.body) _ (neither_right (s.body && t.some) _ m))))
meets Reads Writes s t h g m =
    absurd (clear _ (and_both s.touches t.writes (and_right s.some s.touches h) (and_right t.touches t.writes (and_right t.some _ g)))
    (neither_right (s.writes && t.touches) _ (neither_right (s.some && t.body) _ (neither_right (s.body && t.some) _ m))))
meets Nothing Nothing s t h g m = refl
meets Nothing Reads s t h g m = refl
meets Nothing Writes s t h g m = refl
meets Reads Nothing s t h g m = refl
meets Reads Reads s t h g m = refl
meets Writes Nothing s t h g m = refl

pub clash_symmetric : (a b : Act) → may_clash a b ≡ may_clash b a
clash_symmetric All All = refl
clash_symmetric All Nothing = refl
clash_symmetric All Reads = refl
clash_symmetric All Writes = refl
clash_symmetric Nothing All = refl
clash_symmetric Nothing Nothing = refl
clash_symmetric Nothing Reads = refl
clash_symmetric Nothing Writes = refl
clash_symmetric Reads All = refl
clash_symmetric Reads Nothing = refl
clash_symmetric Reads Reads = refl
clash_symmetric Reads Writes = refl
clash_symmetric Writes All = refl
clash_symmetric Writes Nothing = refl
clash_symmetric Writes Reads = refl
clash_symmetric Writes Writes = refl

pub both_are : (a b x y : Act) → a ≡ x → b ≡ y → may_clash x y ≡ false → may_clash a b ≡ false
both_are a b x y p q h = ap (λ z. may_clash z b) p ∙ (ap (λ z. may_clash x z) q ∙ h)

-- ---- the classes of nodes

abbrev pub is_all : Act → Bool
is_all All = true
is_all _ = false

abbrev pub is_call : Class → Bool
is_call Call = true
is_call _ = false

pub quiet_kind : (class : Class) (kind : Kind) → is_quiet_class class ≡ true → has_kind (kinds_of class) kind ≡ true → ⊥
quiet_kind Object kind q h = absurd (cc)
quiet_kind Constant kind q h = absurd (cc)
quiet_kind _ kind q h = absurd (cc)

pub quiet_below : (class : Class) (l : Bool) (s : Summary) → is_quiet_class class ≡ true → own_clash class l s ≡ false → s.some ≡ true → ⊥
quiet_below Object l s q c h = clear s.some h c
quiet_below Constant l s q c h = clear s.some h c
quiet_below _ l s q c h = absurd (cc)

body_first : (class : Class) → own_rule class Body Val ≡ true
body_first Update = refl
body_first _ = refl

no_effect : (class : Class) → has_kind (kinds_of class) Eff ≡ true → has_kind (kinds_of class) Body ≡ true → ⊥
no_effect Store h g = absurd (cc)
no_effect Update h g = absurd (cc)
no_effect _ h g = absurd (cc)

pub own_loose : (class : Class) (l : Bool) (kind : Kind) (s : Summary) → has_kind (kinds_of class) kind ≡ true →
    (is_val kind || own_rule class kind Val) ≡ false →
    (is_all (act_by class l kind) ≡ false) × ((topped class l s).loose ≡ true)
own_loose Store l Eff s h g = (refl, refl)
own_loose Update l Eff s h g = (refl, refl)
own_loose _ l Val s h g = absurd (cc)
own_loose _ l Eff s h g = absurd (cc)
own_loose class l Body s h g = absurd (clear _ (body_first class) g)

pub top_loose : (class : Class) (s : Summary) → is_call class ≡ false → s.loose ≡ true → loose_by class s.loose ≡ true
top_loose Call s c h = absurd (cc)
top_loose Store s c h = refl
top_loose Update s c h = refl
top_loose _ s c h = h

pub call_lifts : (class : Class) (choice : Option ℕ) (i : ℕ) (last : Bool) → is_call class ≡ true →
    (lifts class choice i last Val ≡ true) × (lifts class choice i last Body ≡ true)
call_lifts Call choice i last h = (refl, refl)
call_lifts _ choice i last h = absurd (cc)

not_all : (a : Act) → is_all a ≡ false → may_clash a Nothing ≡ false
not_all All h = absurd (cc)
not_all Nothing h = refl
not_all Reads h = refl
not_all Writes h = refl

pub own_free : (class : Class) (l : Bool) (kind : Kind) (a : Act) (s : Summary) → has_kind (kinds_of class) kind ≡ true → (kind ≡ Body → ⊥) →
    own_clash class l s ≡ false → is_all a ≡ false → s.loose ≡ true → may_clash a (act_by class l kind) ≡ false
own_free Plain true Val a s h n c f d = absurd (clear s.loose d c)
own_free Plain false Val a s h n c f d = not_all a f
own_free Store l Val a s h n c f d = not_all a f
own_free Store l Eff a s h n c f d = absurd (clear s.loose d c)
own_free Update l Val a s h n c f d = absurd (clear s.loose d c)
own_free Update l Eff a s h n c f d = absurd (clear s.loose d c)
own_free Choice l Val a s h n c f d = not_all a f
own_free Comma l Val a s h n c f d = not_all a f
own_free Call l Val a s h n c f d = not_all a f
own_free Call l Body a s h n c f d = absurd (n refl)
own_free Isolated l Val a s h n c f d = not_all a f
own_free Isolated l Body a s h n c f d = absurd (n refl)
own_free _ l _ a s h n c f d = absurd (cc)

pub body_case : (class : Class) (l : Bool) (s : Summary) → has_kind (kinds_of class) Body ≡ true → own_clash class l s ≡ false →
    (is_call class ≡ true) ⊎ (s.some ≡ false)
body_case Call l s h c = inl refl
body_case Isolated l s h c = inr c
body_case _ l s h c = absurd (cc)

-- two events of one node
pub own_pair : (class : Class) (f : Bool) (k l : Kind) → has_kind (kinds_of class) k ≡ true → has_kind (kinds_of class) l ≡ true → same_kind k l ≡ false →
    own_rule class k l ≡ false → own_rule class l k ≡ false → may_clash (act_by class f k) (act_by class f l) ≡ false
own_pair Store f Val Eff h g n b c = refl
own_pair Store f Eff Val h g n b c = refl
own_pair _ f Val Val h g n b c = absurd (cc)
own_pair _ f Val Eff h g n b c = absurd (cc)
own_pair class f Val Body h g n b c = absurd (clear _ (body_first class) c)
own_pair _ f Eff Val h g n b c = absurd (cc)
own_pair _ f Eff Eff h g n b c = absurd (cc)
own_pair class f Eff Body h g n b c = absurd (no_effect class h g)
own_pair class f Body Val h g n b c = absurd (clear _ (body_first class) b)
own_pair class f Body Eff h g n b c = absurd (no_effect class g h)
own_pair _ f Body Body h g n b c = absurd (cc)

same_number : (choice : Option ℕ) (i j : ℕ) → is_number choice i ≡ true → is_number choice j ≡ true → i ≡ j
same_number None i j h g = absurd (cc)
same_number (Some n) i j h g = sym (number_is n i h) ∙ number_is n j g

choice_across : (choice : Option ℕ) (i j : ℕ) → ((i == 0) || is_number choice i) ≡ true → ((j == 0) || is_number choice j) ≡ true → i < j →
    ((i == 0) && is_number choice j) ≡ true
choice_across choice i j h g l = elim (or_cases (j == 0) (is_number choice j) g) [
  | inl z ↦ absurd (let e = number_is j 0 z in omega (arith, e, l))
  | inr y ↦ elim (or_cases (i == 0) (is_number choice i) h) [
    | inl x ↦ and_both (i == 0) (is_number choice j) x y
    | inr x ↦ absurd (let e = same_number choice i j x y in omega (arith, e, l))
  ]
]

-- operands of `&&`, `||`, `?:` and the comma are sequenced, where they are evaluated
pub across_later : (class : Class) (choice : Option ℕ) (i j : ℕ) → is_open class ≡ false → goes class choice i ≡ true → goes class choice j ≡ true →
    i < j → across class choice i j ≡ true
across_later Comma choice i j o h g l = less_test i j l
across_later Choice choice i j o h g l = choice_across choice i j h g l
across_later _ choice i j o h g l = absurd (cc)
