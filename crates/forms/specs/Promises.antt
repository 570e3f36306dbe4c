-- Promises.antt - all that a conversion promises: its answer and the target afterwards, for every input. The journal is only read.
-- Laws: proofs/FormLaws.antt (convert_unique).
-- Source: [K8], [01 How much each promise says].
use Rattle.std.specs.Prelude.{ℕ, ◌≡◌, List}
use Rattle.forms.specs.declared.Form.{Form}
use Rattle.forms.specs.declared.FormAnswer.{FormAnswer}
use Rattle.forms.specs.Forms.{convert}

-- a conversion of the journal j, which is of the form from  [K8]
pub record ConvertPromise (from : Form) (j t t' : List ℕ) (a : FormAnswer) : Type 0 where
  pub target : t' ≡ (convert from j t).target
  pub answer : a ≡ (convert from j t).a
