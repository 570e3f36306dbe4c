use Rattle.std.proofs.Common.{◌∙◌}
use Rattle.decode.proofs.AgreementLaws.{of_word_as_kind_of}
use Rattle.decode.proofs.kind_of.Goals as goal

pub returns : goal.returns
returns c = c.of_word.ensures ∙ of_word_as_kind_of c.before.args.op
