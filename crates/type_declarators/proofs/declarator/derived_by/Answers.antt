use Rattle.std.proofs.Common.{map, ap, sym, subst}
use Rattle.c_types.specs.Types.{qualified_of}
use Rattle.typing_env.specs.Seen.{tag_seen}
use Rattle.typing_words.specs.Words.{Derivation, derived_by}
use Rattle.type_declarators.specs.Finds.{Finds}
use Rattle.type_declarators.specs.Parts.{part_seen}
use Rattle.type_declarators.proofs.declarator.derived_by.Goals as goal

pub returns-in-Pointer : goal.returns-in-Pointer
returns-in-Pointer c fits =
    let tags = map tag_seen (c.args.state.now).tags in
    let P : Derivation → Type 0 = λ d. Finds qualified_of (derived_by tags (qualified_of c.args.qual) d) c.pointer.result in
    subst P (sym (ap part_seen c.in-Pointer.is)) (c.pointer.ensures tags)
