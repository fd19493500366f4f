use Rattle.run_values.proofs.Results.{given_then}
use Rattle.run_acts.proofs.Stores.{faults_then, loaded_by}
use Rattle.run_acts.proofs.storage.load.Goals as goal

pub returns-in-Integer-clause-made : goal.returns-in-Integer-clause-made
returns-in-Integer-clause-made c = given_then c.load_integer.result _ _ (λ v did sound tagged. did) c.load_integer.ensures.made

pub returns-in-Pointer-clause-made : goal.returns-in-Pointer-clause-made
returns-in-Pointer-clause-made c = given_then c.load_pointer.result _ _ (λ v did sound tagged. did sound) c.load_pointer.ensures.made

pub returns-in-Function-clause-made : goal.returns-in-Function-clause-made
returns-in-Function-clause-made c = given_then c.load_function.result _ _ (λ v did sound tagged. did) c.load_function.ensures.made

pub returns-in-Integer-clause-exact : goal.returns-in-Integer-clause-exact
returns-in-Integer-clause-exact c = given_then c.load_integer.result _ _
    (λ v did cell known tagged io. loaded_by _ _ _ _ _ _ _ _ c.in-Integer.is (did cell io)) c.load_integer.ensures.exact

pub returns-in-Pointer-clause-exact : goal.returns-in-Pointer-clause-exact
returns-in-Pointer-clause-exact c = given_then c.load_pointer.result _ _
    (λ v did cell known tagged io. loaded_by _ _ _ _ _ _ _ _ c.in-Pointer.is (did cell known io)) c.load_pointer.ensures.exact

pub returns-in-Function-clause-exact : goal.returns-in-Function-clause-exact
returns-in-Function-clause-exact c = given_then c.load_function.result _ _
    (λ v did cell known tagged io. loaded_by _ _ _ _ _ _ _ _ c.in-Function.is (did cell io)) c.load_function.ensures.exact

pub returns-in-Whole-clause-exact : goal.returns-in-Whole-clause-exact
returns-in-Whole-clause-exact c = given_then c.load_whole.result _ _
    (λ v did cell known tagged io. loaded_by _ _ _ _ _ _ _ _ c.in-Whole.is (did cell tagged io)) c.load_whole.ensures.exact

pub returns-in-Pointer-clause-raises : goal.returns-in-Pointer-clause-raises
returns-in-Pointer-clause-raises c = faults_then c.load_pointer.result _ _
    (λ clause did io. loaded_by _ _ _ _ _ _ _ _ c.in-Pointer.is (did io)) c.load_pointer.ensures.raises

pub returns-in-Function-clause-raises : goal.returns-in-Function-clause-raises
returns-in-Function-clause-raises c = faults_then c.load_function.result _ _
    (λ clause did io. loaded_by _ _ _ _ _ _ _ _ c.in-Function.is (did io)) c.load_function.ensures.raises
