-- Full.antt - room for one more record in a run on a full journal: there, or made; and what the run knows of the journal then.
-- Not part of any promise: a run keeps it for itself.
-- Met by: src/lib.rt.  Laws: proofs/MadeLaws.antt.  Source: [K5], [ours].
use Rattle.std.specs.Prelude.{ℕ, ◌+◌, ◌≤◌, ◌≡◌, List, length}
use Rattle.record.specs.Limits.{longest_record}
use Rattle.turned.specs.Turned.{turned}
use Rattle.oldest.specs.Room.{make_room}
use Rattle.starts.specs.Starts.{Known}
use Rattle.held.specs.Held.{Turn}
use Rattle.full.specs.declared.Made.{Made}

-- Journal and answer are make-room's for the journal j, whose length the journal p has too; what is known goes on. [K5], [ours]
pub record MadeIs (len : ℕ) (j : List ℕ) (mark h base : ℕ) (p posts near : List ℕ) (r : Made) : Type 0 where
  pub journal : turned r.b h p ≡ (make_room len j mark).j
  pub answer : (make_room len j mark).a ≡ record { number = 0; mark = r.mark; moved = r.moved; dropped = r.dropped }
  pub inside : r.mark + longest_record ≤ length j
  pub turn : Turn r.b h r.mark
  pub sum : r.base + r.mark ≡ base + mark
  pub weighs : base + r.dropped ≤ r.base
  pub known : Known len (turned r.b h p) r.mark posts near r.i r.base
