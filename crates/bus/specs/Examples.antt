-- Examples.antt - window and ROM at their edges, as data: what may be touched, beside what is meant. Memory has 16 bytes, the ROM has 4;
-- 1 is yes, 0 is no.
-- Held by: examples_hold, rom_examples_hold of proofs/ExampleLaws.antt.  Source: [K7], [K10].
use Rattle.std.specs.Prelude.{ℕ, Bool, true, false, List, [], ◌∷◌, map}
use Rattle.bits.specs.Bits.{bit}
use Rattle.bus.specs.Bus.{View, seen_by}

-- sixteen bytes  [ours]
abbrev sixteen : List ℕ
sixteen = 0 ∷ 1 ∷ 2 ∷ 3 ∷ 4 ∷ 5 ∷ 6 ∷ 7 ∷ 8 ∷ 9 ∷ 10 ∷ 11 ∷ 12 ∷ 13 ∷ 14 ∷ 15 ∷ []

-- a state's view of them, through a window from lo to below hi, with no ROM  [ours]
abbrev through : Bool → ℕ → ℕ → View
through sup lo hi = seen_by sup (record { window = record { lo = lo; hi = hi }; rom = [] }) sixteen

-- the same with a ROM of four bytes  [ours]
abbrev past : Bool → ℕ → ℕ → View
past sup lo hi = seen_by sup (record { window = record { lo = lo; hi = hi }; rom = 0x20 ∷ 0x21 ∷ 0x22 ∷ 0x23 ∷ [] }) sixteen

-- which of some bytes may be touched  [ours]
abbrev bytes_at : View → List ℕ → List ℕ
bytes_at v places = map (λ (a : ℕ). bit (v.byte_ok a)) places

-- which of some can be written  [ours]
abbrev bytes_free : View → List ℕ → List ℕ
bytes_free v places = map (λ (a : ℕ). bit (v.byte_free a)) places

-- which of some words  [ours]
abbrev words_at : View → List ℕ → List ℕ
words_at v places = map (λ (a : ℕ). bit (v.word_ok a)) places

-- from 4 to below 8; from 5 to below 9, where the words at 4 and 8 are cut; past the end of memory; nothing; supervisor state; what is found
-- there, and 0 elsewhere  [K7]
abbrev pub window_examples : List (List ℕ × List ℕ)
window_examples =
    (bytes_at (through false 4 8) (3 ∷ 4 ∷ 7 ∷ 8 ∷ []), 0 ∷ 1 ∷ 1 ∷ 0 ∷ []) ∷
    (words_at (through false 4 8) (2 ∷ 4 ∷ 6 ∷ 8 ∷ []), 0 ∷ 1 ∷ 1 ∷ 0 ∷ []) ∷
    (bytes_at (through false 5 9) (4 ∷ 5 ∷ 8 ∷ 9 ∷ []), 0 ∷ 1 ∷ 1 ∷ 0 ∷ []) ∷
    (words_at (through false 5 9) (4 ∷ 6 ∷ 8 ∷ []), 0 ∷ 1 ∷ 0 ∷ []) ∷
    (words_at (through false 4 7) (4 ∷ 6 ∷ []), 1 ∷ 0 ∷ []) ∷
    (bytes_at (through false 12 20) (15 ∷ 16 ∷ []), 1 ∷ 0 ∷ []) ∷
    (bytes_at (through false 6 6) (5 ∷ 6 ∷ 7 ∷ []), 0 ∷ 0 ∷ 0 ∷ []) ∷
    (bytes_at (through true 4 8) (0 ∷ 8 ∷ 15 ∷ 16 ∷ []), 1 ∷ 1 ∷ 1 ∷ 0 ∷ []) ∷
    (words_at (through true 5 5) (4 ∷ 14 ∷ 15 ∷ []), 1 ∷ 1 ∷ 0 ∷ []) ∷
    ((through false 4 8).byte 7 ∷ (through false 4 8).byte 8 ∷ (through false 4 8).word 6 ∷ (through true 4 8).word 8 ∷ [], 7 ∷ 0 ∷ 0x607 ∷ 0x809 ∷ []) ∷
    []

-- which words of some can be written  [ours]
abbrev words_free : View → List ℕ → List ℕ
words_free v places = map (λ (a : ℕ). bit (v.word_free a)) places

-- the ROM's ends in supervisor state; what is found there; what can be written: none of it; the word at its last byte; a window that ends in it, one
-- that begins in it, which cuts the word at $F00000, one that ends where it begins; no ROM  [K10]
abbrev pub rom_examples : List (List ℕ × List ℕ)
rom_examples =
    (bytes_at (past true 0 0) (15 ∷ 16 ∷ 0xEFFFFF ∷ 0xF00000 ∷ 0xF00003 ∷ 0xF00004 ∷ []), 1 ∷ 0 ∷ 0 ∷ 1 ∷ 1 ∷ 0 ∷ []) ∷
    (words_at (past true 0 0) (14 ∷ 0xEFFFFE ∷ 0xF00000 ∷ 0xF00002 ∷ 0xF00003 ∷ 0xF00004 ∷ []), 1 ∷ 0 ∷ 1 ∷ 1 ∷ 0 ∷ 0 ∷ []) ∷
    ((past true 0 0).byte 0xF00003 ∷ (past true 0 0).byte 0xF00004 ∷ (past true 0 0).word 0xF00002 ∷ (past true 0 0).word 14 ∷ [], 0x23 ∷ 0 ∷ 0x2223 ∷ 0xE0F ∷ []) ∷
    (bytes_free (past true 0 0) (15 ∷ 16 ∷ 0xF00000 ∷ 0xF00003 ∷ []), 1 ∷ 0 ∷ 0 ∷ 0 ∷ []) ∷
    (words_free (past true 0 0) (14 ∷ 0xF00000 ∷ 0xF00002 ∷ []), 1 ∷ 0 ∷ 0 ∷ []) ∷
    (bytes_at (past false 4 0xF00002) (3 ∷ 4 ∷ 15 ∷ 16 ∷ 0xF00001 ∷ 0xF00002 ∷ []), 0 ∷ 1 ∷ 1 ∷ 0 ∷ 1 ∷ 0 ∷ []) ∷
    (words_at (past false 0xF00001 0xF00004) (14 ∷ 0xF00000 ∷ 0xF00002 ∷ []), 0 ∷ 0 ∷ 1 ∷ []) ∷
    (bytes_at (past false 0 0xF00000) (15 ∷ 0xF00000 ∷ []), 1 ∷ 0 ∷ []) ∷
    (bytes_free (past false 4 0xF00004) (3 ∷ 4 ∷ 0xF00000 ∷ []), 0 ∷ 1 ∷ 0 ∷ []) ∷
    ((past false 0 0xF00002).word 0xF00000 ∷ (past false 0 0xF00002).word 0xF00002 ∷ (past false 0 0xF00001).word 0xF00000 ∷ [], 0x2021 ∷ 0 ∷ 0 ∷ []) ∷
    (bytes_at (through true 0 0) (15 ∷ 0xF00000 ∷ []), 1 ∷ 0 ∷ []) ∷
    []
