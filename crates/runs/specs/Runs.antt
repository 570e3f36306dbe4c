-- Runs.antt - changed bytes at neighbouring addresses joined into runs; the bytes of runs, and the reading of them from the end.
-- Met by: src/read.rt, src/put.rt.  Laws: proofs/RunLaws.antt, proofs/ReadRunLaws.antt.
-- Uses: undo, record, numbers, bits.  Source: [K8].
use Rattle.std.specs.Prelude.{ℕ, zero, suc, ◌+◌, ◌-◌, List, [], ◌∷◌, ◌++◌, ◌&&◌, length, eqb, ltb, leb}
use Rattle.bits.specs.Bits.{pick}
use Rattle.numbers.specs.Number.{Got, got, bad, number_bytes, read_number}
use Rattle.record.specs.Change.{Change}
use Rattle.undo.specs.Undo.{Parsed, parsed, broken}

-- ---- written

-- A run: the old bytes of neighbouring addresses, in address order, and the first of the addresses. [K8]
pub record Stretch : Type 0 where
  pub first : ℕ
  pub olds : List ℕ

-- A change put before runs: it joins the first of them if it stands at the address before it. [K8]
abbrev pub joined : Change → List Stretch → List Stretch
joined c [] = record { first = c.place; olds = c.old ∷ [] } ∷ []
joined c (r ∷ rs) =
    pick
    (eqb (suc c.place) r.first)
    (record { first = c.place; olds = c.old ∷ r.olds } ∷ rs)
    (record { first = c.place; olds = c.old ∷ [] } ∷ r ∷ rs)

-- The runs of ascending changes, each as long as possible. [K8]
abbrev pub runs : List Change → List Stretch
runs [] = []
runs (c ∷ cs) = joined c (runs cs)

-- The bytes of several numbers. [K8]
abbrev pub numbers_bytes : List ℕ → List ℕ
numbers_bytes [] = []
numbers_bytes (v ∷ vs) = number_bytes v ++ numbers_bytes vs

-- The bytes of a run: the old bytes, the first address, the length. [K8]
abbrev pub run_bytes : Stretch → List ℕ
run_bytes r = numbers_bytes r.olds ++ number_bytes r.first ++ number_bytes (length r.olds)

-- The bytes of several runs. [K8]
abbrev pub runs_bytes : List Stretch → List ℕ
runs_bytes [] = []
runs_bytes (r ∷ rs) = run_bytes r ++ runs_bytes rs

-- ---- read

-- An old byte, put before those read so far, and then the rest. [K8]
abbrev pub old_then : (List ℕ → List Change → Parsed) → ℕ → List Change → Got → Parsed
old_then rest place acc bad = broken
old_then rest place acc (got o s) = pick (ltb o 256) (rest s (record { place = place; old = o } ∷ acc)) broken

-- The n old bytes that end what is read, of addresses from a on, the last first, put before acc. [K8]
abbrev pub read_olds : ℕ → ℕ → List ℕ → List Change → Parsed
read_olds zero a s acc = parsed acc s
read_olds (suc n) a s acc = old_then (read_olds n a) (a + n) acc (read_number s)

-- The rest, after a run that was read. [ours]
abbrev pub run_then : (List ℕ → List Change → Parsed) → Parsed → Parsed
run_then rest broken = broken
run_then rest (parsed acc s) = rest s acc

-- The first address of a run of n bytes, which must end before lim, then its old bytes, then the rest. [K8]
abbrev pub first_then : (ℕ → ℕ → List ℕ → List Change → Parsed) → ℕ → ℕ → ℕ → List Change → Got → Parsed
first_then rest lim room n acc bad = broken
first_then rest lim room n acc (got a s) =
    pick (ltb (a + n) lim) (run_then (rest a room) (read_olds n a s acc)) broken

-- The length of a run, not 0 and not above room, and then its first address. [K8]
abbrev pub length_then : (ℕ → ℕ → List ℕ → List Change → Parsed) → ℕ → ℕ → List Change → Got → Parsed
length_then rest lim room acc bad = broken
length_then rest lim room acc (got n s) =
    pick (ltb 0 n && leb n room) (first_then rest lim (room - n) n acc (read_number s)) broken

-- The n runs that end what is read, the last first, each before lim with a gap, of at most room bytes, put before acc. [K8]
abbrev pub read_runs : ℕ → ℕ → ℕ → List ℕ → List Change → Parsed
read_runs zero lim room s acc = parsed acc s
read_runs (suc n) lim room s acc = length_then (read_runs n) lim room acc (read_number s)
