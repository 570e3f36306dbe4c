-- Ways.antt - the ways in which the low six bits decide, and the kind of an operation word by the table; the rule that the table keeps.
-- Laws: proofs/TableLaws.antt. No call's promise speaks of them: what the words mean is in decode's Rows, with which they agree on every word.
-- Uses: bits, decode, Table.  Source: [K9].
use Rattle.std.specs.Prelude.{Bool, ◌||◌, [], ◌∷◌, ℕ, ◌+◌, ◌*◌, ◌-◌, ◌/◌, ◌%◌, ◌^◌, eqb, ltb, get_or}
use Rattle.bits.specs.Bits.{pick, all_below}
use Rattle.decode.specs.Kinds as k
use Rattle.decode.specs.Rows.{kind_of}
use Rattle.decode.specs.Chain.{every, data_any, data_not_immediate, data_alterable, memory_alterable, control}
use Rattle.decode.specs.Chain.{control_alterable_or_predecrement, control_or_postincrement, data_register, address_register, immediate_mode}
use Rattle.decode.specs.Chain.{register_or_predecrement, fit, four_e}
use Rattle.kind_table.specs.Table.{decide, entry_at}

-- a way: the kind of a word by its low six bits [K9]
abbrev pub Way : Type 0
Way = ℕ → ℕ

-- one class; where it does not allow the low six bits, the word is Illegal [ours]
abbrev pub only : ℕ → ℕ → Way
only class kind op = fit class op kind k.Illegal

-- two classes [ours]
abbrev pub either : ℕ → ℕ → ℕ → ℕ → Way
either class kind second other op = fit class op kind (only second other op)

-- three classes, in one way alone: line 12, bits 8 to 6 are 101 [003 B EXG AND]
abbrev pub exchanges : Way
exchanges op = fit data_register op k.ExgData (either address_register k.ExgAddress memory_alterable k.AndToMemory op)

-- a class allows all of modes 0 and 2 to 6 [ours]
abbrev pub plain_modes : ℕ → Bool
plain_modes class = all_below (λ e. eqb (e / 8) 1 || (eqb (e / 8) 7 || eqb (class / 2 ^ e % 2) 1)) 64

-- the ways by their numbers, in the order in which the table has them first; the last one past the list. 17, 18 and 40 have An's class
-- before the other, since the code asks them by mode [003 B]
unfoldable pub way_at : ℕ → Way
way_at n =
    get_or
    (either data_alterable k.OrI immediate_mode k.OrIToCcr  -- 0
    ∷ either data_alterable k.OrI immediate_mode k.OrIToSr  -- 1
    ∷ only data_alterable k.OrI  -- 2
    ∷ either data_any k.BitDynamic address_register k.MovePToRegister  -- 3
    ∷ either data_alterable k.BitDynamic address_register k.MovePToRegister  -- 4
    ∷ either data_alterable k.BitDynamic address_register k.MovePToMemory  -- 5
    ∷ either data_alterable k.AndI immediate_mode k.AndIToCcr  -- 6
    ∷ either data_alterable k.AndI immediate_mode k.AndIToSr  -- 7
    ∷ only data_alterable k.AndI  -- 8
    ∷ only data_alterable k.SubI  -- 9
    ∷ only data_alterable k.AddI  -- 10
    ∷ only data_not_immediate k.BitStatic  -- 11
    ∷ only data_alterable k.BitStatic  -- 12
    ∷ either data_alterable k.EorI immediate_mode k.EorIToCcr  -- 13
    ∷ either data_alterable k.EorI immediate_mode k.EorIToSr  -- 14
    ∷ only data_alterable k.EorI  -- 15
    ∷ only data_alterable k.CmpI  -- 16
    ∷ either address_register k.Illegal every k.Move  -- 17
    ∷ either address_register k.Move every k.Move  -- 18
    ∷ only every k.MoveA  -- 19
    ∷ only data_alterable k.NegX  -- 20
    ∷ only data_alterable k.MoveFromSr  -- 21
    ∷ only data_any k.Chk  -- 22
    ∷ only control k.Lea  -- 23
    ∷ only data_alterable k.Clr  -- 24
    ∷ only data_alterable k.Neg  -- 25
    ∷ only data_any k.MoveToCcr  -- 26
    ∷ only data_alterable k.Not  -- 27
    ∷ only data_any k.MoveToSr  -- 28
    ∷ only data_alterable k.Nbcd  -- 29
    ∷ either data_register k.Swap control k.Pea  -- 30
    ∷ either data_register k.Ext control_alterable_or_predecrement k.MoveMToMemory  -- 31
    ∷ only data_alterable k.Tst  -- 32
    ∷ only data_alterable k.Tas  -- 33
    ∷ only control_or_postincrement k.MoveMToRegisters  -- 34
    ∷ four_e  -- 35
    ∷ only control k.Jsr  -- 36
    ∷ only control k.Jmp  -- 37
    ∷ only data_alterable k.AddQ  -- 38
    ∷ either data_alterable k.AddQ address_register k.AddQA  -- 39
    ∷ either address_register k.DBcc data_alterable k.Scc  -- 40
    ∷ only data_alterable k.SubQ  -- 41
    ∷ either data_alterable k.SubQ address_register k.SubQA  -- 42
    ∷ only data_any k.OrToRegister  -- 43
    ∷ only data_any k.DivU  -- 44
    ∷ either register_or_predecrement k.Sbcd memory_alterable k.OrToMemory  -- 45
    ∷ only memory_alterable k.OrToMemory  -- 46
    ∷ only data_any k.DivS  -- 47
    ∷ only data_any k.SubToRegister  -- 48
    ∷ only every k.SubToRegister  -- 49
    ∷ only every k.SubA  -- 50
    ∷ either register_or_predecrement k.SubX memory_alterable k.SubToMemory  -- 51
    ∷ only data_any k.Cmp  -- 52
    ∷ only every k.Cmp  -- 53
    ∷ only every k.CmpA  -- 54
    ∷ either data_alterable k.Eor address_register k.CmpM  -- 55
    ∷ only data_any k.AndToRegister  -- 56
    ∷ only data_any k.MulU  -- 57
    ∷ either register_or_predecrement k.Abcd memory_alterable k.AndToMemory  -- 58
    ∷ exchanges  -- 59
    ∷ either address_register k.ExgBoth memory_alterable k.AndToMemory  -- 60
    ∷ only data_any k.MulS  -- 61
    ∷ only data_any k.AddToRegister  -- 62
    ∷ only every k.AddToRegister  -- 63
    ∷ only every k.AddA  -- 64
    ∷ either register_or_predecrement k.AddX memory_alterable k.AddToMemory  -- 65
    ∷ [])
    n
    (only memory_alterable k.ShiftMemory)  -- 66

-- the kind that an entry tells of a word [K9]
unfoldable pub told : ℕ → Way
told e op = pick (ltb e decide) e (way_at (e - decide) op)

-- the kind of the operation word in op's low sixteen bits, by the table [K9]
unfoldable pub kind_by_table : ℕ → ℕ
kind_by_table op = told (entry_at (op % 65536 / 64)) (op % 65536)

-- ---- the rule

-- what an entry names: a kind, or that the low six bits decide [K9]
abbrev pub named : ℕ → ℕ
named e = pick (ltb e decide) e decide

-- the kind that all 64 words of upper ten bits h have, or that the low six bits decide [K9]
unfoldable pub rule_at : ℕ → ℕ
rule_at h = pick (all_below (λ e. eqb (kind_of (h * 64 + e)) (kind_of (h * 64))) 64) (kind_of (h * 64)) decide
