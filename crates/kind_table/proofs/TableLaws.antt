-- TableLaws.antt - the table's rule holds at all of its 1,024 entries, by one computed test; the table and the chain agree on all 65,536 words.
-- States: table_rule, table_tells, table_as_kind_of, table_as_chain.
-- Uses: bits, decode, Table, Ways.  Source: [K9].
use mathlib.Core.Path.{◌≡◌, refl, sym, ◌∙◌}
use mathlib.Core.Bool.{Bool, true, ◌&&◌}
use mathlib.Core.List.{List}
use Prim.Native.Nat.{ℕ, zero, suc, ◌+◌, ◌*◌, ◌-◌, ◌/◌, ◌%◌, ◌<◌}
use native.Mathlib.Omega.{arith}
use lib.Dec.{eqb, ltb}
use borrow.Author.Tests.{eqb-true}
use Rattle.bits.specs.Bits.{pick, all_below}
use Rattle.bits.proofs.BitsLaws.{and_left, and_right, at_below}
use Rattle.decode.specs.Rows.{Row, rows, kind_of}
use Rattle.decode.specs.Chain.{fit, single, four_e, of_word}
use Rattle.decode.proofs.RowsLaws.{select, first_low, rows_at, kind_of_word, kind_of_when_by_rows}
use Rattle.decode.proofs.AgreementLaws.{of_word_as_kind_of}
use Rattle.kind_table.specs.Table.{decide, entries, entry_at}
use Rattle.kind_table.specs.Ways.{Way, way_at, told, kind_by_table, named, rule_at}

-- ---- one computed test

-- the rule by the rows that are left
unfoldable rule_on : List Row → ℕ
rule_on ws = pick (all_below (λ e. eqb (first_low ws e) (first_low ws 0)) 64) (first_low ws 0) decide

-- an entry n, by its way w, tells of each of the 64 words of upper ten bits h what these rows say, and names what they name
unfoldable right_on : List Row → Way → ℕ → ℕ → Bool
right_on ws w n h = all_below (λ e. eqb (pick (ltb n decide) n (w (h * 64 + e))) (first_low ws e)) 64 && eqb (named n) (rule_on ws)

-- rows, entry and way are found once for each h
unfoldable right : ℕ → Bool
right h =
    let ws : List Row = rows_at h in
    let n : ℕ = entry_at h in
    let w : Way = way_at (n - decide) in right_on ws w n h

-- all 1,024 entries, 64 words each
all_right : all_below right 1024 ≡ true
unfolding right right_on rule_on all_below entry_at entries rows select first_low way_at fit single four_e
all_right = refl

-- ---- what it says

-- the entry of h tells of each of its 64 words what the rows say
abbrev tells : ℕ → ℕ → Bool
tells h e = eqb (told (entry_at h) (h * 64 + e)) (first_low (rows_at h) e)

right_at : (h : ℕ) → h < 1024 → (all_below (tells h) 64 && eqb (named (entry_at h)) (rule_on (rows_at h))) ≡ true
unfolding right right_on told
right_at h p = at_below right 1024 all_right h p

told_by_rows : (h e : ℕ) → h < 1024 → e < 64 → told (entry_at h) (h * 64 + e) ≡ first_low (rows_at h) e
told_by_rows h e p q =
    eqb-true (told (entry_at h) (h * 64 + e)) (first_low (rows_at h) e)
    (at_below (tells h) 64 (and_left (all_below (tells h) 64) (eqb (named (entry_at h)) (rule_on (rows_at h))) (right_at h p)) e q)

-- an entry tells the kind of each of its 64 words
pub table_tells : (h e : ℕ) → h < 1024 → e < 64 → told (entry_at h) (h * 64 + e) ≡ kind_of (h * 64 + e)
table_tells h e p q = told_by_rows h e p q ∙ sym (kind_of_word h e p q)

all_below_same : (t u : ℕ → Bool) (n : ℕ) → ((i : ℕ) → i < n → t i ≡ u i) → all_below t n ≡ all_below u n
unfolding all_below
all_below_same t u zero s = refl
all_below_same t u (suc n) s = rw (s n (omega arith), all_below_same t u n (λ i l. s i (omega arith)))

rule_same : (f g : ℕ → ℕ) (a b : ℕ) → a ≡ b → ((i : ℕ) → i < 64 → f i ≡ g i)
    → pick (all_below (λ e. eqb (f e) a) 64) a decide ≡ pick (all_below (λ e. eqb (g e) b) 64) b decide
rule_same f g a b p s = rw (p, all_below_same (λ e. eqb (f e) b) (λ e. eqb (g e) b) 64 (λ i l. rw (s i l)))

-- an entry names the kind of all its 64 words, or that the low six bits decide
pub table_rule : (h : ℕ) → h < 1024 → named (entry_at h) ≡ rule_at h
unfolding rule_on rule_at
table_rule h p =
    let z : h * 64 + 0 ≡ h * 64 = omega arith in
    eqb-true (named (entry_at h)) (rule_on (rows_at h))
    (and_right (all_below (tells h) 64) (eqb (named (entry_at h)) (rule_on (rows_at h))) (right_at h p))
    ∙ sym (rule_same (λ e. kind_of (h * 64 + e)) (first_low (rows_at h)) (kind_of (h * 64)) (first_low (rows_at h) 0)
    (rw z at (kind_of_word h 0 p (omega arith))) (λ e l. kind_of_word h e p l))

-- ---- both agree on every word
pub table_as_kind_of : (op : ℕ) → kind_by_table op ≡ kind_of op
unfolding kind_by_table
table_as_kind_of =
    kind_of_when_by_rows (λ w. told (entry_at (w / 64)) w)
    (λ h e p q. let z : (h * 64 + e) / 64 ≡ h = omega arith in rw z (told_by_rows h e p q))

pub table_as_chain : (op : ℕ) → kind_by_table op ≡ of_word (op % 65536)
table_as_chain op = table_as_kind_of op ∙ sym (of_word_as_kind_of op)
