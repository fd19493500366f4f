use Rattle.std.proofs.Common.{ap, sym, map}
use Rattle.typing_env.specs.Seen.{member_seen}
use Rattle.typing_words.specs.Tags.{some_const, constants}
use Rattle.type_declarators.proofs.NamesAdded.{nothing_named}
use Rattle.type_declarators.proofs.tag.MemberList.new.Goals as goal

pub returns-clause-named : goal.returns-clause-named
returns-clause-named c t tags = nothing_named t tags _ c.new.ensures c.new-2.ensures.empty c.new-3.ensures.items

pub returns-clause-constant : goal.returns-clause-constant
returns-clause-constant c tags now keeps = sym (ap (λ ms. some_const (constants now) (map member_seen ms)) c.new.ensures)
