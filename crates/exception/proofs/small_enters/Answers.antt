use Rattle.exception.proofs.EnterLaws.{other_enters, small_enters_inside, small_enters_outside}
use Rattle.exception.proofs.small_enters.Goals as goal

pub returns-then-inside : goal.returns-then-inside
returns-then-inside c = search small_enters_inside

pub returns-then-judged : goal.returns-then-judged
returns-then-judged c = search small_enters_outside

pub returns : goal.returns
returns c = search other_enters
