-- Held.antt - room made in a run whose journal is turned: journal and answer are make-room's, and what is known of the journal goes on.
-- Met by: src/lib.rt.  Laws: proofs/HeldLaws.antt, proofs/KeepLaws.antt; WrapLaws of the crate starts.
-- Source: [K5], [ours].
use Rattle.std.specs.Prelude.{ℕ, ◌+◌, ◌-◌, ◌≤◌, ◌<◌, ◌≡◌, List, length}
use Rattle.std.proofs.Math.Seq.{slice}
use Rattle.numbers.specs.Number.{written}
use Rattle.turned.specs.Turned.{turned}
use Rattle.oldest.specs.Room.{make_room}
use Rattle.starts.specs.Starts.{Indexed, Known}
use Rattle.held.specs.declared.Held.{Held}

-- The turned part, the first h bytes, lies below the mark; or nothing is turned. So a record written at the mark is not turned. [ours]
pub record Turn (b h mark : ℕ) : Type 0 where
  pub low : b ≤ h
  pub plain : mark < h → b ≡ 0

-- The oldest c bytes of the journal j are gone, and the rest is moved down: it is turned by b, and stands in p. [ours]
pub record CutOff (j : List ℕ) (c mark h : ℕ) (p : List ℕ) (b : ℕ) : Type 0 where
  pub journal : turned b h p ≡ written j 0 (slice c mark j)
  pub turn : Turn b h (mark - c)

-- Journal and answer are make-room's, and something was dropped; the list goes on. The sum of base and mark stays. [K5], [ours]
pub record DropIs (len : ℕ) (j : List ℕ) (mark h base : ℕ) (p near : List ℕ) (r : Held) : Type 0 where
  pub journal : turned r.b h p ≡ (make_room len j mark).j
  pub answer : (make_room len j mark).a ≡ record { number = 0; mark = r.mark; moved = r.mark; dropped = r.dropped }
  pub inside : r.mark ≤ mark
  pub turn : Turn r.b h r.mark
  pub sum : r.base + r.mark ≡ base + mark
  pub order : r.i ≤ length near
  pub index : Indexed len (turned r.b h p) r.mark near r.i (length near) r.base

-- The same, and posts go on too. [K5], [ours]
pub record HeldIs (len : ℕ) (j : List ℕ) (mark h base : ℕ) (p posts near : List ℕ) (r : Held) : Type 0 where
  pub journal : turned r.b h p ≡ (make_room len j mark).j
  pub answer : (make_room len j mark).a ≡ record { number = 0; mark = r.mark; moved = r.mark; dropped = r.dropped }
  pub inside : r.mark ≤ mark
  pub turn : Turn r.b h r.mark
  pub sum : r.base + r.mark ≡ base + mark
  pub known : Known len (turned r.b h p) r.mark posts near r.i r.base
