-- BlockLaws.antt - slots to block and back; the loops that read and write a block.
-- * slots_of_block: the slots in the block of any slots are these. block_of_slots: the block of the slots in any bytes is these bytes.
-- * slots_in_block, block_of_slots_in: the same for twenty slots and for eighty bytes.
-- * length_of_slots, length_of_block: their lengths. words_of_slots, bytes_of_block: slots of bytes have 32 bits, and the block of such is bytes.
--   So the blocks of 80 bytes and the twenty slots of 32 bits stand for each other, one for one.
-- * filled, read_whole, written_one: what the loops of slots_in and put_block have done after a turn, and after the last.
-- Source: [K1].
use Prim.Native.Nat.{ℕ, zero, suc, ◌+◌, ◌*◌, ◌/◌, ◌%◌, ◌^◌, ◌≤◌, ◌<◌}
use mathlib.Core.Path.{◌≡◌, refl, sym, ap, ◌∙◌}
use mathlib.Core.List.{List, [], ◌∷◌, ◌++◌}
use native.Mathlib.Numerals.{add-one}
use native.Mathlib.Omega.{arith}
use lib.ListN.{length, get_or, set, take, drop, replicate}
use borrow.Rule.Slice.PartMut.{put_mid}
use Rattle.std.specs.Int.{w32, to_be_bytes}
use Rattle.std.proofs.lemmas.Slice.{take-put_mid}
use Rattle.record.specs.Limits.{Each, ValidBytes, slot_limit}
use Rattle.block.specs.Block.{block_length, slot_of, slot_bytes, slot_at, slots_from, slots_in, block_of}

-- bytes, counted from i
abbrev pub Bytes : ℕ → List ℕ → Type 0
Bytes i b = Each (λ k v. v < 256) i b

-- ---- four bytes at a time
-- four places on
abbrev on : ℕ → ℕ
on i = suc (suc (suc (suc i)))

pub data Four : List ℕ → Type 0 where
  four : (a b c d : ℕ) (l : List ℕ) → Four (a ∷ b ∷ c ∷ d ∷ l)

as_four : (n : ℕ) (b : List ℕ) → length b ≡ 4 * suc n → Four b
as_four n [] e = absurd (omega arith)
as_four n (a ∷ []) e = absurd (omega arith)
as_four n (a ∷ b ∷ []) e = absurd (omega arith)
as_four n (a ∷ b ∷ c ∷ []) e = absurd (omega arith)
as_four n (a ∷ b ∷ c ∷ d ∷ l) e = four a b c d l

-- ---- lengths
pub length_of_slots : (n : ℕ) (b : List ℕ) → length (slots_from n b) ≡ n
unfolding slots_from
length_of_slots zero b = refl
length_of_slots (suc n) b = ap suc (length_of_slots n (drop 4 b))

pub length_of_block : (s : List ℕ) → length (block_of s) ≡ 4 * length s
unfolding block_of
length_of_block [] = refl
length_of_block (v ∷ s) = let h = length_of_block s in omega arith

-- ---- there and back
pub slots_of_block : (s : List ℕ) → slots_from (length s) (block_of s) ≡ s
unfolding slots_from block_of
slots_of_block [] = refl
slots_of_block (v ∷ s) =
    let q : slot_of (v / 0x1000000) (v / 0x10000 % 0x100) (v / 0x100 % 0x100) (v % 0x100) ≡ v = omega arith in
    λ j. q j ∷ slots_of_block s j

pub block_of_slots : (n i : ℕ) (b : List ℕ) → length b ≡ 4 * n → Bytes i b → block_of (slots_from n b) ≡ b
unfolding slots_from block_of
block_of_slots zero i [] e h = refl
block_of_slots zero i (x ∷ b) e h = absurd (omega arith)
block_of_slots (suc n) i b e h = go b (as_four n b e) e h (block_of_slots n (on i))
  where
    go : (b : List ℕ) → Four b → length b ≡ 4 * suc n → Bytes i b
        → ((l : List ℕ) → length l ≡ 4 * n → Bytes (on i) l → block_of (slots_from n l) ≡ l)
        → block_of (slots_from (suc n) b) ≡ b
    go _ (four a b c d l) e h rest =
        let v = slot_of a b c d in
        let p : v / 0x1000000 ≡ a = omega (arith, h.0, h.1.0, h.1.1.0, h.1.1.1.0) in
        let q : v / 0x10000 % 0x100 ≡ b = omega (arith, h.0, h.1.0, h.1.1.0, h.1.1.1.0) in
        let r : v / 0x100 % 0x100 ≡ c = omega (arith, h.0, h.1.0, h.1.1.0, h.1.1.1.0) in
        let s : v % 0x100 ≡ d = omega (arith, h.0, h.1.0, h.1.1.0, h.1.1.1.0) in
        let t = rest l (omega arith) h.1.1.1.1 in
        λ j. p j ∷ q j ∷ r j ∷ s j ∷ t j

-- a block of twenty slots holds them
pub slots_in_block : (s : List ℕ) → length s ≡ slot_limit → slots_in (block_of s) ≡ s
slots_in_block s e = ap (λ (n : ℕ). slots_from n (block_of s)) (sym e) ∙ slots_of_block s

-- eighty bytes are the block of the slots that they hold
pub block_of_slots_in : (b : List ℕ) → length b ≡ block_length → ValidBytes b → block_of (slots_in b) ≡ b
block_of_slots_in b e h = block_of_slots slot_limit 0 b e h

-- ---- slots of 32 bits, and bytes
pub words_of_slots : (n i k : ℕ) (b : List ℕ) → length b ≡ 4 * n → Bytes i b → Each (λ k v. v < 2 ^ 32) k (slots_from n b)
unfolding slots_from
words_of_slots zero i k b e h = tt
words_of_slots (suc n) i k b e h = go b (as_four n b e) e h (words_of_slots n (on i) (suc k))
  where
    go : (b : List ℕ) → Four b → length b ≡ 4 * suc n → Bytes i b
        → ((l : List ℕ) → length l ≡ 4 * n → Bytes (on i) l → Each (λ k v. v < 2 ^ 32) (suc k) (slots_from n l))
        → Each (λ k v. v < 2 ^ 32) k (slots_from (suc n) b)
    go _ (four a b c d l) e h rest = (omega (arith, h.0, h.1.0, h.1.1.0, h.1.1.1.0), rest l (omega arith) h.1.1.1.1)

pub bytes_of_block : (i k : ℕ) (s : List ℕ) → Each (λ k v. v < 2 ^ 32) k s → Bytes i (block_of s)
unfolding block_of
bytes_of_block i k [] h = tt
bytes_of_block i k (v ∷ s) h = (omega (arith, h.0), (omega arith, (omega arith, (omega arith, bytes_of_block (on i) (suc k) s h.1))))

-- ---- slots_in: the array after i turns
abbrev pub filled : List ℕ → ℕ → List ℕ
filled b zero = replicate slot_limit 0
filled b (suc i) = set (filled b i) i (slot_at b (4 * i))

-- slot_at, its places by suc
abbrev slot_here : ℕ → List ℕ → ℕ
slot_here at b = slot_of (get_or b at 0) (get_or b (suc at) 0) (get_or b (suc (suc at)) 0) (get_or b (suc (suc (suc at))) 0)

-- the n slots from a place on
abbrev slots_at : ℕ → ℕ → List ℕ → List ℕ
slots_at zero at b = []
slots_at (suc n) at b = slot_here at b ∷ slots_at n (on at) b

slots_on : (n at a b c d : ℕ) (l : List ℕ) → slots_at n (on at) (a ∷ b ∷ c ∷ d ∷ l) ≡ slots_at n at l
slots_on zero at a b c d l = refl
slots_on (suc n) at a b c d l =
    ap (λ (s : List ℕ). slot_here at l ∷ s) (slots_on n (on at) a b c d l)

slots_from_start : (n : ℕ) (b : List ℕ) → length b ≡ 4 * n → slots_at n 0 b ≡ slots_from n b
unfolding slots_from
slots_from_start zero b e = refl
slots_from_start (suc n) b e = go b (as_four n b e) e (slots_from_start n)
  where
    go : (b : List ℕ) → Four b → length b ≡ 4 * suc n → ((l : List ℕ) → length l ≡ 4 * n → slots_at n 0 l ≡ slots_from n l)
        → slots_at (suc n) 0 b ≡ slots_from (suc n) b
    go _ (four a b c d l) e rest = ap (λ (s : List ℕ). slot_of a b c d ∷ s) (slots_on n 0 a b c d l ∙ rest l (omega arith))

pub read_whole : (b : List ℕ) → length b ≡ block_length → filled b slot_limit ≡ slots_in b
read_whole b e = slots_from_start slot_limit b e

-- ---- put_block: the block after i turns begins with the first i slots
block_of_take : (s : List ℕ) (i : ℕ) → i < length s → block_of (take (suc i) s) ≡ block_of (take i s) ++ slot_bytes (get_or s i 0)
unfolding block_of
block_of_take [] i h = absurd (omega arith)
block_of_take (v ∷ s) zero h = refl
block_of_take (v ∷ s) (suc i) h = ap (λ (l : List ℕ). slot_bytes v ++ l) (block_of_take s i (omega arith))

-- the bytes that the library gives for a number of 32 bits
bytes_of_slot : (v : ℕ) → v < 2 ^ 32 → to_be_bytes w32 v ≡ slot_bytes v
bytes_of_slot v h = let top : v / 0x1000000 % 0x100 ≡ v / 0x1000000 = omega arith in rw top

-- one turn
pub written_one : (b s l : List ℕ) (i k : ℕ) → length b ≡ 4 * length s → i < length s → get_or s i 0 < 2 ^ 32 → l ≡ to_be_bytes w32 (get_or s i 0)
    → take (4 * i) b ≡ block_of (take i s) → take (4 * (i + 1)) (put_mid (4 * i) k b l) ≡ block_of (take (i + 1) s)
written_one b s l i k e h small told q =
    let v = slot_bytes (get_or s i 0) in
    let is : l ≡ v = told ∙ bytes_of_slot (get_or s i 0) small in
    let before : 4 * i ≤ length b = omega (arith, e, h) in
    let up : 4 * (i + 1) ≡ 4 * i + length l = omega (arith, ap length is) in
    take-put_mid (4 * i) k b l (4 * (i + 1)) up before
    ∙ ap (λ (y : List ℕ). take (4 * i) b ++ y) is
    ∙ ap (λ (y : List ℕ). y ++ v) q
    ∙ sym (block_of_take s i h)
    ∙ ap (λ (k : ℕ). block_of (take k s)) (sym (add-one i))
