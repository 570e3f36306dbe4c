use mathlib.Core.Path.{refl}
use borrow.Author.Rules.{rules}
use Rattle.bits.specs.Bits.{all_below}
use Rattle.kind_table.specs.Ways.{way_at}
use Rattle.kind_table.proofs.WayLaws.{way_arm, way_last}
use Rattle.kind_table.proofs.ways.by_way.Statement.{statement}
use Rattle.kind_table.proofs.ways.by_way.Tie as tie

pub by_way_spec : {M : Type 1} → statement M
unfolding way_at all_below
by_way_spec =
    tie.close (tie.spec
    (λ c κs. search rules) (λ c κs. search rules) (λ c κs. search rules) (λ c κs. search rules) (λ c κs. search rules) (λ c κs. search rules)
    (λ c κs. search rules) (λ c κs. search rules) (λ c κs. search rules) (λ c κs. search rules) (λ c κs. search rules) (λ c κs. search rules)
    (λ c κs. search rules) (λ c κs. search rules) (λ c κs. search rules) (λ c κs. search rules) (λ c κs. search rules) (λ c κs. refl)
    (λ c κs. refl) (λ c κs. search rules) (λ c κs. search rules) (λ c κs. search rules) (λ c κs. search rules) (λ c κs. search rules)
    (λ c κs. search rules) (λ c κs. search rules) (λ c κs. search rules) (λ c κs. search rules) (λ c κs. search rules) (λ c κs. search rules)
    (λ c κs. search rules) (λ c κs. search rules) (λ c κs. search rules) (λ c κs. search rules) (λ c κs. search rules) (λ c κs. search rules)
    (λ c κs. search rules) (λ c κs. search rules) (λ c κs. search rules) (λ c κs. search rules) (λ c κs. refl) (λ c κs. search rules)
    (λ c κs. search rules) (λ c κs. search rules) (λ c κs. search rules) (λ c κs. search rules) (λ c κs. search rules) (λ c κs. search rules)
    (λ c κs. search rules) (λ c κs. search rules) (λ c κs. search rules) (λ c κs. search rules) (λ c κs. search rules) (λ c κs. search rules)
    (λ c κs. search rules) (λ c κs. search rules) (λ c κs. search rules) (λ c κs. search rules) (λ c κs. search rules) (λ c κs. search rules)
    (λ c κs. search rules) (λ c κs. search rules) (λ c κs. search rules) (λ c κs. search rules) (λ c κs. search rules) (λ c κs. search rules)
    (λ c κs. search rules) (λ c. search way_arm) (λ c. search way_arm) (λ c. search way_arm) (λ c. search way_arm) (λ c. search way_arm)
    (λ c. search way_arm) (λ c. search way_arm) (λ c. search way_arm) (λ c. search way_arm) (λ c. search way_arm) (λ c. search way_arm)
    (λ c. search way_arm) (λ c. search way_arm) (λ c. search way_arm) (λ c. search way_arm) (λ c. search way_arm) (λ c. search way_arm)
    (λ c. search way_arm) (λ c. search way_arm) (λ c. search way_arm) (λ c. search way_arm) (λ c. search way_arm) (λ c. search way_arm)
    (λ c. search way_arm) (λ c. search way_arm) (λ c. search way_arm) (λ c. search way_arm) (λ c. search way_arm) (λ c. search way_arm)
    (λ c. search way_arm) (λ c. search way_arm) (λ c. search way_arm) (λ c. search way_arm) (λ c. search way_arm) (λ c. search way_arm)
    (λ c. search way_arm) (λ c. search way_arm) (λ c. search way_arm) (λ c. search way_arm) (λ c. search way_arm) (λ c. search way_arm)
    (λ c. search way_arm) (λ c. search way_arm) (λ c. search way_arm) (λ c. search way_arm) (λ c. search way_arm) (λ c. search way_arm)
    (λ c. search way_arm) (λ c. search way_arm) (λ c. search way_arm) (λ c. search way_arm) (λ c. search way_arm) (λ c. search way_arm)
    (λ c. search way_arm) (λ c. search way_arm) (λ c. search way_arm) (λ c. search way_arm) (λ c. search way_arm) (λ c. search way_arm)
    (λ c. search way_arm) (λ c. search way_arm) (λ c. search way_arm) (λ c. search way_arm) (λ c. search way_arm) (λ c. search way_arm)
    (λ c. search way_arm) (λ c. search (way_last, c.before.in_default.in_default-own.rest)))
