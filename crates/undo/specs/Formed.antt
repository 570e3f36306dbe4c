-- Formed.antt - what a well-formed record is, clause by clause, with no word of how one is read.
-- Laws: proofs/FormedLaws.antt: well-formed of Undo.antt finds a record exactly where there is such a one, and there is at most one.
-- Uses: record.  Source: [01 The journal].
use Rattle.std.specs.Prelude.{ℕ, ◌^◌, ◌≤◌, ◌<◌, ◌≡◌, true, List, [], ◌∷◌, ◌++◌, length, get_or, take}
use Rattle.record.specs.Limits.{slot_limit, byte_limit, valid_value}
use Rattle.record.specs.Change.{Change, record_of}

-- P of each change. [ours]
abbrev pub Every : (Change → Type 0) → List Change → Type 0
Every P [] = Unit {0}
Every P (c ∷ cs) = P c × Every P cs

-- Each place is above the one before it. [01 The journal]
abbrev pub InOrder : List Change → Type 0
InOrder [] = Unit {0}
InOrder (c ∷ []) = Unit {0}
InOrder (c ∷ d ∷ cs) = (c.place < d.place) × InOrder (d ∷ cs)

-- At the mark ends a well-formed record for these slots and this memory: it starts at start, ss are its slots' changes, bs its bytes'.
-- [01 The journal]
pub record Formed (slots memory journal : List ℕ) (mark start : ℕ) (ss bs : List Change) : Type 0 where
  -- The mark is a place of the journal or its end.
  pub in_journal : mark ≤ length journal
  -- All of it stands in the journal, none of it before place 0: below the mark are the bytes below start and then the whole record.
  -- Its numbers are the shortest: record_of writes each by number_bytes (number_bytes_size and first_not_zero of numbers say so of it).
  pub whole : take mark journal ≡ take start journal ++ record_of ss bs
  -- It has no more than 20 slots and 70 bytes.
  pub slot_count : length ss ≤ slot_limit
  pub byte_count : length bs ≤ byte_limit
  -- Slots and addresses rise, so none is there twice.
  pub slot_order : InOrder ss
  pub byte_order : InOrder bs
  -- There are such slots.
  pub slot_numbers : Every (λ c. c.place < slot_limit) ss
  -- Each old slot value is one of a valid state, as ValidSlots of record says it.
  pub slot_values : Every (λ c. (valid_value c.place c.old ≡ true) × (c.old < 2 ^ 32)) ss
  -- There are such places of memory.
  pub addresses : Every (λ c. c.place < length memory) bs
  -- Each old byte is a byte.
  pub byte_values : Every (λ c. c.old < 256) bs
  -- No slot and no place of memory holds its old value already.
  pub slots_differ : Every (λ c. c.old ≡ get_or slots c.place 0 → ⊥) ss
  pub bytes_differ : Every (λ c. c.old ≡ get_or memory c.place 0 → ⊥) bs
