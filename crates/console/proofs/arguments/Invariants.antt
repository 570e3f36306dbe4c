use Rattle.std.proofs.Common.{◌≡◌, ◌≤◌, length, vec_len, All}
use Rattle.console.proofs.arguments.Given as goal

abbrev pub invariant-loop-i : goal.invariant-loop-i
invariant-loop-i g l = (length l.text ≡ 4096) × All (λ text. vec_len text ≤ 4096) l.all.items
