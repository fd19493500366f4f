-- Texts that fall apart at their spaces, and those that don't.
use Rattle.std.proofs.Common.{◌≡◌, ◌≤◌, ◌<◌, ◌^◌, ◌+◌, ℕ, List, [], ◌∷◌, ◌++◌, refl, sym, ◌∙◌, ap, subst, arith, decimal, codes, Contains}
use Rattle.ub_base.specs.declared.clause.Kind.{Kind}
use Rattle.ub_base.specs.Frames.{Path}
use Rattle.c_names.specs.Names.{HasSteps, IsFrame, IsPlace, EventName, IsEvent}
use Rattle.c_names.specs.Texts.{frame_text, kind_text, numbers_text, event_name_text, IsNoEventText}
use Rattle.c_names.specs.Parts.{
  Lacks,
  event_of,
  FallsIntoEvent,
  FallsIntoPlace,
  IsNoEventOf,
  IsNoPlaceOf,
  IsNoPlaceText,
  IsNoFrameText,
  IsNoKind,
  IsNoNumber,
  BeginsWithNoNumber,
}
use Rattle.c_names.proofs.Cuts.{Lacks-from, Contains-at, cut_once, number_once}
use Rattle.c_names.proofs.PathTexts.{frame_lacks}
use Rattle.c_names.proofs.Once.{event_parts, event_once, place_once}

pub IsNoEventOf-from_cut : (text : List ℕ) → (Contains text 32 → ⊥) → IsNoEventOf text
IsNoEventOf-from_cut text none f t n k lf a b e = none (subst (λ x. Contains x 32) (sym (event_parts f t n k) ∙ e) (Contains-at 32 f _))

module _ (text frame rest : List ℕ) (is : text ≡ frame ++ 32 ∷ rest) (lacks : Contains frame 32 → ⊥) where
  rest_of_event : (f : List ℕ) (t n : ℕ) (k : Kind) → Lacks 32 f → event_of f t n k ≡ text → decimal t ++ 32 ∷ (decimal n ++ 32 ∷ kind_text k) ≡ rest
  rest_of_event f t n k lf e = (cut_once 32 f frame _ rest lf (Lacks-from 32 frame lacks) (sym (event_parts f t n k) ∙ e ∙ is)).1

  pub IsNoEventOf-from_turn : BeginsWithNoNumber (2 ^ 64) rest → IsNoEventOf text
  IsNoEventOf-from_turn none f t n k lf a b e = none t _ a (rest_of_event f t n k lf e)

  after_turn : (turn : ℕ) (more : List ℕ) → turn < 2 ^ 64 → decimal turn ++ 32 ∷ more ≡ rest → (f : List ℕ) (t n : ℕ) (k : Kind) → Lacks 32 f → t < 2 ^ 64 →
      event_of f t n k ≡ text
      → decimal n ++ 32 ∷ kind_text k ≡ more
  after_turn turn more fits first f t n k lf a e = (number_once t turn _ more a fits (rest_of_event f t n k lf e ∙ sym first)).1

  pub IsNoEventOf-from_node : (turn : ℕ) (more : List ℕ) → turn < 2 ^ 64 → decimal turn ++ 32 ∷ more ≡ rest → BeginsWithNoNumber (2 ^ 32) more →
      IsNoEventOf text
  IsNoEventOf-from_node turn more fits first none f t n k lf a b e = none n _ b (after_turn turn more fits first f t n k lf a e)

  pub IsNoEventOf-from_kind : (turn node : ℕ) (more word : List ℕ) → turn < 2 ^ 64 → node < 2 ^ 32 → decimal turn ++ 32 ∷ more ≡ rest → decimal node ++
      32 ∷ word ≡ more → IsNoKind word → IsNoEventOf text
  IsNoEventOf-from_kind turn node more word fits small first second none f t n k lf a b e =
      none k (number_once n node (kind_text k) word (omega arith) (omega arith) (after_turn turn more fits first f t n k lf a e ∙ sym second)).1

  pub event_from : (turn node : ℕ) (kind : Kind) (more word : List ℕ) → turn < 2 ^ 64 → node < 2 ^ 32 → decimal turn ++ 32 ∷ more ≡ rest → decimal node ++
      32 ∷ word ≡ more → kind_text kind ≡ word
      → FallsIntoEvent text frame turn node kind
  event_from turn node kind more word fits small first second third = record {
    whole = event_parts frame turn node kind
        ∙ ap (λ w. frame ++ 32 ∷ (decimal turn ++ 32 ∷ (decimal node ++ 32 ∷ w))) third
        ∙ ap (λ m. frame ++ 32 ∷ (decimal turn ++ 32 ∷ m)) second
        ∙ ap (λ r. frame ++ 32 ∷ r) first
        ∙ sym is;
    lacks = Lacks-from 32 frame lacks;
    turn_fits = fits;
    node_fits = small;
  }

  rest_of_place : (f : List ℕ) (t n : ℕ) → Lacks 32 f → f ++ numbers_text t n ≡ text → decimal t ++ 32 ∷ decimal n ≡ rest
  rest_of_place f t n lf e = (cut_once 32 f frame _ rest lf (Lacks-from 32 frame lacks) (e ∙ is)).1

  pub IsNoPlaceOf-from_turn : BeginsWithNoNumber (2 ^ 64) rest → IsNoPlaceOf text
  IsNoPlaceOf-from_turn none f t n lf a b e = none t _ a (rest_of_place f t n lf e)

  pub IsNoPlaceOf-from_number : (turn : ℕ) (more : List ℕ) → turn < 2 ^ 64 → decimal turn ++ 32 ∷ more ≡ rest → IsNoNumber (2 ^ 32) more → IsNoPlaceOf text
  IsNoPlaceOf-from_number turn more fits first none f t n lf a b e = none n b (number_once t turn _ more a fits (rest_of_place f t n lf e ∙ sym first)).1

  pub place_from : (turn number : ℕ) (more : List ℕ) → turn < 2 ^ 64 → number < 2 ^ 32 → decimal turn ++ 32 ∷ more ≡ rest → decimal number ≡ more →
      FallsIntoPlace text frame turn number
  place_from turn number more fits small first second = record {
    whole = ap (λ m. frame ++ 32 ∷ (decimal turn ++ 32 ∷ m)) second ∙ ap (λ r. frame ++ 32 ∷ r) first ∙ sym is;
    lacks = Lacks-from 32 frame lacks;
    turn_fits = fits;
    number_fits = small;
  }

pub IsNoPlaceOf-from_cut : (text : List ℕ) → (Contains text 32 → ⊥) → IsNoPlaceOf text
IsNoPlaceOf-from_cut text none f t n lf a b e = none (subst (λ x. Contains x 32) e (Contains-at 32 f _))

-- the frame of a text that falls apart so has to be a frame's
pub IsNoEventText-from_words : (text : List ℕ) → IsNoEventOf text → IsNoEventText text
IsNoEventText-from_words text none e h is = none (frame_text e.frame) e.turn e.node e.kind (frame_lacks e.frame h.frame.steps) h.turn_fits h.number_fits is

pub IsNoEventText-from_frame : (text frame : List ℕ) (turn node : ℕ) (kind : Kind) → FallsIntoEvent text frame turn node kind → IsNoFrameText frame →
    IsNoEventText text
IsNoEventText-from_frame text frame turn node kind words none e h is =
    none e.frame h.frame (event_once (frame_text e.frame) frame e.turn turn e.node node e.kind kind (frame_lacks e.frame h.frame.steps) words.lacks
    h.turn_fits words.turn_fits h.number_fits words.node_fits (is ∙ sym words.whole)).frame

pub event_text-from : (text frame : List ℕ) (path : Path) (turn node : ℕ) (kind : Kind) → FallsIntoEvent text frame turn node kind → frame_text path ≡ frame →
    event_of (frame_text path) turn node kind ≡ text
event_text-from text frame path turn node kind words is = ap (λ f. event_of f turn node kind) is ∙ words.whole

pub IsNoPlaceText-from_words : (text : List ℕ) → IsNoPlaceOf text → IsNoPlaceText text
IsNoPlaceText-from_words text none f t n h is = none (frame_text f) t n (frame_lacks f h.frame.steps) h.turn_fits h.number_fits is

pub IsNoPlaceText-from_frame : (text frame : List ℕ) (turn number : ℕ) → FallsIntoPlace text frame turn number → IsNoFrameText frame → IsNoPlaceText text
IsNoPlaceText-from_frame text frame turn number words none f t n h is =
    none f h.frame (place_once (frame_text f) frame t turn n number (frame_lacks f h.frame.steps) words.lacks h.turn_fits words.turn_fits h.number_fits
    words.number_fits (is ∙ sym words.whole)).frame

pub place_text-from : (text frame : List ℕ) (path : Path) (turn number : ℕ) → FallsIntoPlace text frame turn number → frame_text path ≡ frame →
    frame_text path ++ numbers_text turn number ≡ text
place_text-from text frame path turn number words is = ap (λ f. f ++ numbers_text turn number) is ∙ words.whole
