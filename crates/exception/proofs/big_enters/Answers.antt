use Rattle.exception.proofs.EnterLaws.{big_enters_inside, big_enters_outside, big_enters_other}
use Rattle.exception.proofs.big_enters.Goals as goal

pub returns-then-inside : goal.returns-then-inside
returns-then-inside c = search big_enters_inside

pub returns-then-judged : goal.returns-then-judged
returns-then-judged c = search big_enters_outside

pub returns : goal.returns
returns c = search big_enters_other
