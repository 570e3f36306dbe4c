-- The four parts one after the other, the second of them empty where the log is; what is kept of the log is what differs.
use Prim.Native.Nat.{ℕ, ◌+◌, ◌≤◌}
use mathlib.Core.Path.{◌≡◌}
use mathlib.Core.List.{List}
use native.Mathlib.Omega.{arith}
use lib.ListN.{length}
use Rattle.record.specs.Change.{Ascending, diffs, restore, kept, changes, record_of, step_record}
use Rattle.record.proofs.ChangeLaws.{slots_room, bytes_room, count_room, count_room_2, recorded, none_put, kept_end}
use Rattle.record.proofs.KeptLaws.{kept_of_log}
use Rattle.record.proofs.put_record.Goals as goal

-- the memory's changes as the code finds them and as the contract says them
same : (m log : List ℕ) (n : ℕ) → Ascending 0 (length m) (changes log n) → kept m (changes log n) ≡ diffs 0 (restore (changes log n) m) m
same m log n order = kept_of_log m (changes log n) order

fits : (os ns m log j : List ℕ) (n mark : ℕ) → Ascending 0 (length m) (changes log n) → mark + length (step_record os ns (restore (changes log n) m) m) ≤ length j
    → mark + length (record_of (diffs 0 os ns) (kept m (changes log n))) ≤ length j
fits os ns m log j n mark order room = rw (same m log n order) room

-- ---- where the log is empty
pub put_slots-s-requires : goal.put_slots-s-requires
put_slots-s-requires c =
    let a = c.args in
    let fit = fits a.old.now a.new.now a.memory.now a.log.now a.journal.now a.n a.mark c.requires.n_in_bounds.2 c.requires.memory_in_bounds in
    slots_room a.journal.now _ _ _ fit

pub put_small-c-requires : goal.put_small-c-requires
put_small-c-requires c =
    let a = c.args in
    let fit = fits a.old.now a.new.now a.memory.now a.log.now a.journal.now a.n a.mark c.requires.n_in_bounds.2 c.requires.memory_in_bounds in
    let s = c.put_slots-s in
    let none = none_put s.new.journal s.result.at _ (kept_end a.memory.now a.log.now 0 a.n (omega arith)) in
    (omega (arith, s.ensures.few), count_room _ _ _ _ fit _ _ s.ensures.put _ _ none)

pub put_small-requires : goal.put_small-requires
put_small-requires c =
    let a = c.args in
    let fit = fits a.old.now a.new.now a.memory.now a.log.now a.journal.now a.n a.mark c.requires.n_in_bounds.2 c.requires.memory_in_bounds in
    let s = c.put_slots-s in
    let none = none_put s.new.journal s.result.at _ (kept_end a.memory.now a.log.now 0 a.n (omega arith)) in
    let h = c.put_small-c.ensures in
    (omega arith, count_room_2 _ _ _ _ fit _ _ s.ensures.put _ _ none _ _ h.next h.bytes)

pub returns-then-n-eq0 : goal.returns-then-n-eq0
returns-then-n-eq0 c =
    let a = c.args in
    let fit = fits a.old.now a.new.now a.memory.now a.log.now a.journal.now a.n a.mark c.requires.n_in_bounds.2 c.requires.memory_in_bounds in
    let s = c.put_slots-s in
    let none = none_put s.new.journal s.result.at _ (kept_end a.memory.now a.log.now 0 a.n (omega arith)) in
    let h = c.put_small-c.ensures in
    let k = c.put_small.ensures in
    let e = same a.memory.now a.log.now a.n c.requires.n_in_bounds.2 in
    record { next = rw (← e) (recorded _ _ _ _ fit _ _ s.ensures.put _ _ none _ _ h.next h.bytes _ _ k.next k.bytes).0; bytes = rw (← e) (recorded _ _ _ _ fit _ _ s.ensures.put _ _ none _ _ h.next h.bytes _ _ k.next k.bytes).1 }

-- ---- where it is not
pub put_slots-s-requires-2 : goal.put_slots-s-requires-2
put_slots-s-requires-2 c =
    let a = c.args in
    let fit = fits a.old.now a.new.now a.memory.now a.log.now a.journal.now a.n a.mark c.requires.n_in_bounds.2 c.requires.memory_in_bounds in
    slots_room a.journal.now _ _ _ fit

pub put_bytes-b-requires-clause-n_in_bounds_2 : goal.put_bytes-b-requires-clause-n_in_bounds_2
put_bytes-b-requires-clause-n_in_bounds_2 c =
    let a = c.args in
    let fit = fits a.old.now a.new.now a.memory.now a.log.now a.journal.now a.n a.mark c.requires.n_in_bounds.2 c.requires.memory_in_bounds in
    bytes_room _ _ _ _ fit _ _ c.put_slots-s-2.ensures.put

pub put_small-c-requires-2 : goal.put_small-c-requires-2
put_small-c-requires-2 c =
    let a = c.args in
    let fit = fits a.old.now a.new.now a.memory.now a.log.now a.journal.now a.n a.mark c.requires.n_in_bounds.2 c.requires.memory_in_bounds in
    let s = c.put_slots-s-2 in
    (omega (arith, s.ensures.few), count_room _ _ _ _ fit _ _ s.ensures.put _ _ c.put_bytes-b.ensures)

pub put_number-requires : goal.put_number-requires
put_number-requires c =
    let a = c.args in
    let fit = fits a.old.now a.new.now a.memory.now a.log.now a.journal.now a.n a.mark c.requires.n_in_bounds.2 c.requires.memory_in_bounds in
    let h = c.put_small-c-2.ensures in
    count_room_2 _ _ _ _ fit _ _ c.put_slots-s-2.ensures.put _ _ c.put_bytes-b.ensures _ _ h.next h.bytes

pub returns : goal.returns
returns c =
    let a = c.args in
    let fit = fits a.old.now a.new.now a.memory.now a.log.now a.journal.now a.n a.mark c.requires.n_in_bounds.2 c.requires.memory_in_bounds in
    let s = c.put_slots-s-2 in
    let b = c.put_bytes-b in
    let h = c.put_small-c-2.ensures in
    let k = c.put_number.ensures in
    let e = same a.memory.now a.log.now a.n c.requires.n_in_bounds.2 in
    record { next = rw (← e) (recorded _ _ _ _ fit _ _ s.ensures.put _ _ b.ensures _ _ h.next h.bytes _ _ k.next k.bytes).0; bytes = rw (← e) (recorded _ _ _ _ fit _ _ s.ensures.put _ _ b.ensures _ _ h.next h.bytes _ _ k.next k.bytes).1 }
