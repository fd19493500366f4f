-- A value, and what was read behind it.
use Rattle.std.specs.Prelude.{Result, Ok, Err}
use Rattle.c_lex.specs.declared.token.Mark.{Mark as AMark}
use Rattle.parse_spec.specs.Steps.{Parser, ◌>>◌, pure, expect}
use Rattle.parse_cursor.specs.declared.refusal.Refusal.{Refusal}

abbrev pub paired : {A B : Type 0} → A → Result B Refusal → Result (A × B) Refusal
paired a (Ok b) = Ok (a, b)
paired a (Err e) = Err e

abbrev pub held : {A : Type 0} → A → Result (Unit {0}) Refusal → Result A Refusal
held a (Ok u) = Ok a
held a (Err e) = Err e

-- the punctuator, and the value that was read before it
abbrev pub followed : {A : Type 0} → AMark → A → Parser A
followed end a = expect end >> pure a
