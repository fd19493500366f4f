use Rattle.std.proofs.Common.{◌≡◌, ◌-◌, ◌+◌, ◌++◌, [], ◌∷◌, true, false, sym, ap, subst, ◌∙◌, arith}
use Rattle.c_ast.specs.Input.{kind, next}
use Rattle.c_grammar.specs.Rules.{Words}
use Rattle.parse_cursor.specs.Places.{allowed_in}
use Rattle.parse_spec.specs.Steps.{words, words_from}
use Rattle.parse_cursor.proofs.Runs.{one_more_word, next_word, no_word, other_word, words_stop, words_more, words_out}
use Rattle.parse_cursor.proofs.Turns.{one_more, no_more}
use Rattle.parse_cursor.proofs.tokens.specifier_words.Goals as goal

pub loop-turn-preserved : goal.loop-turn-preserved
loop-turn-preserved c =
    let allowed : (allowed_in c.args.place) c.in-Some.word ≡ true = grind (arith, c.is_specifier_word.ensures, c.if-not-is_specifier_word.false) in
    let is = next_word (kind c.loop-turn.tokens) c.in-Some.word (sym c.in-Some.ensures) in
    record {
      run = subst (λ words. Words (allowed_in c.args.place) words c.args.tokens.now c.take.new.self) (sym c.in_ok-push-in-Some.ensures.ok)
          (one_more_word (allowed_in c.args.place) c.loop-turn.found c.in-Some.word c.args.tokens.now c.loop-turn.tokens c.take.new.self
          c.loop-turn.invariant.run allowed
          (is, c.take.ensures));
      read = subst (λ found. words (allowed_in c.args.place) c.args.tokens.now ≡ words_from (allowed_in c.args.place)
          (c.turns-turn-end.result - (c.loop-turn._turn + 1)) found c.take.new.self)
          (sym c.in_ok-push-in-Some.ensures.ok)
          (one_more (λ n. words_from (allowed_in c.args.place) n c.loop-turn.found c.loop-turn.tokens) _ c.loop-turn._turn c.loop-turn-test.true
          c.loop-turn.invariant.read
          ∙ words_more (allowed_in c.args.place) _ c.loop-turn.found c.in-Some.word c.loop-turn.tokens is allowed
          ∙ ap (words_from (allowed_in c.args.place) (c.turns-turn-end.result - (c.loop-turn._turn + 1)) (c.loop-turn.found ++ c.in-Some.word ∷ []))
          (sym c.take.ensures));
    }

pub returns-then-not-is_specifier_word-clause-reads : goal.returns-then-not-is_specifier_word-clause-reads
returns-then-not-is_specifier_word-clause-reads c =
    let other : (allowed_in c.args.place) c.in-Some.word ≡ false = grind (arith, c.is_specifier_word.ensures, c.if-not-is_specifier_word.true) in
    one_more (λ n. words_from (allowed_in c.args.place) n c.loop-turn.found c.loop-turn.tokens) _ c.loop-turn._turn c.loop-turn-test.true
    c.loop-turn.invariant.read
    ∙ words_stop (allowed_in c.args.place) _ c.loop-turn.found c.loop-turn.tokens
    (other_word (allowed_in c.args.place) (kind c.loop-turn.tokens) c.in-Some.word (sym c.in-Some.ensures) other)

pub returns-in-None-clause-reads : goal.returns-in-None-clause-reads
returns-in-None-clause-reads c =
    one_more (λ n. words_from (allowed_in c.args.place) n c.loop-turn.found c.loop-turn.tokens) _ c.loop-turn._turn c.loop-turn-test.true
    c.loop-turn.invariant.read
    ∙ words_stop (allowed_in c.args.place) _ c.loop-turn.found c.loop-turn.tokens
    (no_word (allowed_in c.args.place) (kind c.loop-turn.tokens) (sym c.in-None.ensures))

pub returns-clause-reads : goal.returns-clause-reads
returns-clause-reads c = λ _.
    no_more (λ n. words_from (allowed_in c.args.place) n c.loop-turn.found c.loop-turn.tokens) _ c.loop-turn._turn c.loop-turn-test.false
    c.loop-turn.invariant.read
    ∙ words_out (allowed_in c.args.place) c.loop-turn.found c.loop-turn.tokens
