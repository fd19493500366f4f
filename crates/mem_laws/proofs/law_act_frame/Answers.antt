use Rattle.mem_laws.proofs.Scripts.{script_same, script_changes}
use Rattle.mem_laws.proofs.law_act_frame.Goals as goal

pub returns-clause-frame : goal.returns-clause-frame
returns-clause-frame g c = λ map act s u s1 e is j h d fr. script_same map _ act s u s1 e is j h d fr

pub returns-clause-changes : goal.returns-clause-changes
returns-clause-changes g c = λ map act s s1 e is h. script_changes map _ act s s1 e is h
