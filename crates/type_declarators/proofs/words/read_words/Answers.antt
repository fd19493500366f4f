use Rattle.std.proofs.Common.{sym, subst}
use Rattle.typing_words.specs.Words.{said}
use Rattle.type_declarators.specs.Keywords.{Says}
use Rattle.type_declarators.specs.declared.words.Words.{Words}
use Rattle.type_declarators.proofs.Keywords.{says_of}
use Rattle.type_declarators.proofs.words.read_words.Goals as goal

pub returns : goal.returns
returns c =
    let P : Words → Type 0 = λ h. Says h (said c.args.words.now) in
    subst P (sym c.all_words.ensures) (says_of c.args.words.now)
