-- Lemmas on calls of fprintf.
use Rattle.mem_objects.specs.declared.answer.LibAnswer.TheVariants as answers
use Rattle.mem_spec.specs.declared.stream.Stream.TheVariants as streams
