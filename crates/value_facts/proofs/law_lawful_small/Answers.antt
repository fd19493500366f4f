use Rattle.value_facts.proofs.Programs.{lawful_programs_small, lawful_worlds_keep, main_is_placed}
use Rattle.value_facts.proofs.Trees.{lawful_trees_small, standing_is_small}
use Rattle.value_facts.proofs.law_lawful_small.Goals as goal

pub returns : goal.returns
returns c = record {
  trees = lawful_trees_small;
  standing = standing_is_small;
  programs = lawful_programs_small;
  worlds = lawful_worlds_keep;
  main = main_is_placed;
}
