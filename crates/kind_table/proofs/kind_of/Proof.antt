use mathlib.Core.Path.{ap, ◌∙◌}
use Prim.Native.Nat.{ℕ, ◌%◌}
use borrow.Author.Rules.{rules}
use Rattle.kind_table.specs.Ways.{told, kind_by_table}
use Rattle.kind_table.proofs.TableLaws.{table_as_kind_of}
use Rattle.kind_table.proofs.kind_of.Statement.{statement}
use Rattle.kind_table.proofs.kind_of.Tie as tie

returns : tie.Need-returns
unfolding kind_by_table
returns c =
    let op = c.before.before.args.op in
    c.told.ensures ∙ ap (λ (e : ℕ). told e (op % 65536)) c.before.entry.ensures ∙ table_as_kind_of op

pub kind_of_spec : {M : Type 1} → statement M
kind_of_spec = tie.close (tie.spec (λ c κs. search rules) (λ c κs. search rules) returns)
