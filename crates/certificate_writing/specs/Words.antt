-- The words of a certificate's text (own).
use Rattle.std.specs.Prelude.{ℕ, List, codes}
use Rattle.ub_base.specs.declared.clause.Kind.{Kind}
use Rattle.ub_base.specs.declared.clause.Kind.TheVariants.{Val, Eff, Body}
use Rattle.ub_base.specs.declared.clause.Cause.{Cause}
use Rattle.ub_base.specs.declared.clause.Cause.TheVariants.{Output, Created, Depth, Conversion, Directive}

abbrev pub kind_text : Kind → List ℕ
kind_text Val = codes "val"
kind_text Eff = codes "eff"
kind_text Body = codes "body"

abbrev pub cause_text : Cause → List ℕ
cause_text Output = codes "output"
cause_text Created = codes "created"
cause_text Depth = codes "depth"
cause_text Conversion = codes "conversion"
cause_text Directive = codes "directive"
