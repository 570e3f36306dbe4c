-- Reach.antt - how far the parts that are lent for user state go. No public promise speaks of it: lent shows seen-by of bus.
-- Laws: proofs/ReachLaws.antt.
-- Source: [K7], [K10], [ours].
use Rattle.std.specs.Prelude.{ℕ, ltb}
use Rattle.bits.specs.Bits.{pick}

-- an address, or the length where that is less  [ours]
unfoldable pub up_to : ℕ → ℕ → ℕ
up_to a len = pick (ltb a len) a len
