use Rattle.argument_laws.proofs.Laws.{Laws, arguments_are_taken, arguments_are_there, canonical_keeps_arguments, laws_of, orders_keep_arguments}
use Rattle.argument_laws.proofs.Laws.{starts_with_arguments, steps_keep_arguments}
use Rattle.argument_laws.proofs.law_arguments.Goals as goal

pub returns : goal.returns
returns c =
    let laws : Laws = laws_of c.law_view.ensures.text c.law_scoped.ensures.scoped c.law_scoped.ensures.main c.law_whole_programs.ensures.made
    c.law_lawful_sizes.ensures.programs c.law_lawful_sizes.ensures.parameters c.law_sizes_are_kept.ensures.library in
    record {
      starts = starts_with_arguments;
      keeps = steps_keep_arguments;
      orders = orders_keep_arguments;
      canonical = canonical_keeps_arguments;
      count = arguments_are_there laws;
      taken = arguments_are_taken laws;
    }
