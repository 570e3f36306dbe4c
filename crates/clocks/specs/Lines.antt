-- Lines.antt - the lines of Appendix D by kind of instruction: each kind, as `decode` calls it, with its line's rule and times, in the kinds' order.
-- Held by: lines_whole of proofs/PrintedLaws.antt, so nobody has to count places. Those that always take an exception have no line: 0.
-- Laws: proofs/LargestLaws.antt.  Source: [003 D-2] to [003 D-13], [K2].
use Rattle.std.specs.Prelude.{ℕ, List, [], ◌∷◌, get_or}
use Rattle.bus.specs.declared.Flow.{Flow}
use Rattle.bus.specs.Bus.{View}
use Rattle.decode.specs.Kinds as k
use Rattle.clocks.specs.Clocks.{sized, addressed, narrow, paired, peripheral, moved, located, jumped, stored, loaded, signed, unsigned}
use Rattle.clocks.specs.Clocks.{shifted, bit_clocks, branched, counted, conditional}

-- a line: its rule, as Clocks.antt defines it, and its times  [003 D]
pub data Line : Type 0 where
  Alone : ℕ → Line
  Sized Addressed Paired : ℕ → ℕ → ℕ → ℕ → Line
  Narrow Peripheral Stored Loaded Shifted : ℕ → ℕ → Line
  Moved : Line
  Located Jumped Signed Unsigned Bits : ℕ → Line
  Branched Counted Conditional : ℕ → ℕ → ℕ → Line

-- what a line gives for registers, view, operation word and flow  [003 D]
unfoldable pub time : Line → List ℕ → View → ℕ → Flow → ℕ
time (Alone a) r v op f = a
time (Sized a b c d) r v op f = sized a b c d op
time (Addressed a b c d) r v op f = addressed a b c d op
time (Paired a b c d) r v op f = paired a b c d op
time (Narrow a c) r v op f = narrow a c op
time (Peripheral a b) r v op f = peripheral a b op
time (Stored a b) r v op f = stored a b v op f
time (Loaded a b) r v op f = loaded a b v op f
time (Shifted a b) r v op f = shifted a b r op
time Moved r v op f = moved op
time (Located a) r v op f = located a op
time (Jumped a) r v op f = jumped a op
time (Signed a) r v op f = signed a r v op f
time (Unsigned a) r v op f = unsigned a r v op f
time (Bits a) r v op f = bit_clocks a op
time (Branched a b c) r v op f = branched a b c op f
time (Counted a b c) r v op f = counted a b c r op f
time (Conditional a b c) r v op f = conditional a b c op f

-- each kind and its line  [003 D]
abbrev pub lines : List (ℕ × Line)
lines =
    (k.Illegal, Alone 0)  -- an exception always
    ∷ (k.LineA, Alone 0)  -- an exception always
    ∷ (k.LineF, Alone 0)  -- an exception always
    ∷ (k.Move, Moved)  -- [003 D-2] [003 D-3]
    ∷ (k.MoveA, Moved)  -- [003 D-2] [003 D-3]
    ∷ (k.MoveQ, Alone 4)  -- [003 D-5]
    ∷ (k.MoveMToMemory, Stored 4 8)  -- [003 D-10]
    ∷ (k.MoveMToRegisters, Loaded 4 8)  -- [003 D-10]
    ∷ (k.MovePToRegister, Peripheral 16 24)  -- [003 D-13]
    ∷ (k.MovePToMemory, Peripheral 16 24)  -- [003 D-13]
    ∷ (k.Lea, Located 0)  -- [003 D-10]
    ∷ (k.Pea, Located 8)  -- [003 D-10]
    ∷ (k.ExgData, Alone 6)  -- [003 D-12]
    ∷ (k.ExgAddress, Alone 6)  -- [003 D-12]
    ∷ (k.ExgBoth, Alone 6)  -- [003 D-12]
    ∷ (k.Swap, Alone 4)  -- [003 D-12]
    ∷ (k.Link, Alone 16)  -- [003 D-12]
    ∷ (k.Unlk, Alone 12)  -- [003 D-12]
    ∷ (k.AddToRegister, Sized 4 8 4 6)  -- [003 D-4]
    ∷ (k.AddToMemory, Sized 8 12 8 12)  -- [003 D-4]
    ∷ (k.AddA, Addressed 8 8 8 6)  -- [003 D-4]
    ∷ (k.AddI, Sized 8 16 12 20)  -- [003 D-5]
    ∷ (k.AddQ, Sized 4 8 8 12)  -- [003 D-5]
    ∷ (k.AddQA, Alone 8)  -- [003 D-5]
    ∷ (k.AddX, Paired 4 8 18 30)  -- [003 D-11]
    ∷ (k.SubToRegister, Sized 4 8 4 6)  -- [003 D-4]
    ∷ (k.SubToMemory, Sized 8 12 8 12)  -- [003 D-4]
    ∷ (k.SubA, Addressed 8 8 8 6)  -- [003 D-4]
    ∷ (k.SubI, Sized 8 16 12 20)  -- [003 D-5]
    ∷ (k.SubQ, Sized 4 8 8 12)  -- [003 D-5]
    ∷ (k.SubQA, Alone 8)  -- [003 D-5]
    ∷ (k.SubX, Paired 4 8 18 30)  -- [003 D-11]
    ∷ (k.Neg, Sized 4 6 8 12)  -- [003 D-6]
    ∷ (k.NegX, Sized 4 6 8 12)  -- [003 D-6]
    ∷ (k.Clr, Sized 4 6 8 12)  -- [003 D-6]
    ∷ (k.Cmp, Sized 4 6 4 6)  -- [003 D-4]
    ∷ (k.CmpA, Addressed 6 6 6 6)  -- [003 D-4]
    ∷ (k.CmpI, Sized 8 14 8 12)  -- [003 D-5]
    ∷ (k.CmpM, Paired 12 20 12 20)  -- [003 D-11]
    ∷ (k.MulS, Signed 38)  -- [003 D-4]
    ∷ (k.MulU, Unsigned 38)  -- [003 D-4]
    ∷ (k.DivS, Narrow 158 158)  -- [003 D-4]
    ∷ (k.DivU, Narrow 140 140)  -- [003 D-4]
    ∷ (k.Ext, Alone 4)  -- [003 D-12]
    ∷ (k.Tas, Narrow 4 10)  -- [003 D-6]
    ∷ (k.Tst, Sized 4 4 4 4)  -- [003 D-6]
    ∷ (k.AndToRegister, Sized 4 8 4 6)  -- [003 D-4]
    ∷ (k.AndToMemory, Sized 8 12 8 12)  -- [003 D-4]
    ∷ (k.AndI, Sized 8 16 12 20)  -- [003 D-5]
    ∷ (k.OrToRegister, Sized 4 8 4 6)  -- [003 D-4]
    ∷ (k.OrToMemory, Sized 8 12 8 12)  -- [003 D-4]
    ∷ (k.OrI, Sized 8 16 12 20)  -- [003 D-5]
    ∷ (k.Eor, Sized 4 8 8 12)  -- [003 D-4]
    ∷ (k.EorI, Sized 8 16 12 20)  -- [003 D-5]
    ∷ (k.Not, Sized 4 6 8 12)  -- [003 D-6]
    ∷ (k.ShiftRegister, Shifted 6 8)  -- [003 D-7]
    ∷ (k.ShiftMemory, Narrow 8 8)  -- [003 D-7]
    ∷ (k.BitDynamic, Bits 0)  -- [003 D-8]
    ∷ (k.BitStatic, Bits 4)  -- [003 D-8]
    ∷ (k.Abcd, Paired 6 6 18 18)  -- [003 D-11]
    ∷ (k.Sbcd, Paired 6 6 18 18)  -- [003 D-11]
    ∷ (k.Nbcd, Narrow 6 8)  -- [003 D-6]
    ∷ (k.Bcc, Branched 10 8 12)  -- [003 D-9]
    ∷ (k.Bra, Branched 10 8 12)  -- [003 D-9]
    ∷ (k.Bsr, Alone 18)  -- [003 D-9]
    ∷ (k.DBcc, Counted 12 10 14)  -- [003 D-9]
    ∷ (k.Scc, Conditional 4 6 8)  -- [003 D-6]
    ∷ (k.Jmp, Jumped 0)  -- [003 D-10]
    ∷ (k.Jsr, Jumped 8)  -- [003 D-10]
    ∷ (k.Nop, Alone 4)  -- [003 D-12]
    ∷ (k.Rtr, Alone 20)  -- [003 D-12]
    ∷ (k.Rts, Alone 16)  -- [003 D-12]
    ∷ (k.AndIToCcr, Alone 20)  -- [003 D-12]
    ∷ (k.AndIToSr, Alone 20)  -- [003 D-12]
    ∷ (k.EorIToCcr, Alone 20)  -- [003 D-12]
    ∷ (k.EorIToSr, Alone 20)  -- [003 D-12]
    ∷ (k.OrIToCcr, Alone 20)  -- [003 D-12]
    ∷ (k.OrIToSr, Alone 20)  -- [003 D-12]
    ∷ (k.MoveFromSr, Narrow 6 8)  -- [003 D-12]
    ∷ (k.MoveToCcr, Narrow 12 12)  -- [003 D-12]
    ∷ (k.MoveToSr, Narrow 12 12)  -- [003 D-12]
    ∷ (k.MoveToUsp, Alone 4)  -- [003 D-12]
    ∷ (k.MoveFromUsp, Alone 4)  -- [003 D-12]
    ∷ (k.Reset, Alone 132)  -- [003 D-12]
    ∷ (k.Rte, Alone 20)  -- [003 D-12]
    ∷ (k.Stop, Alone 4)  -- [003 D-12]
    ∷ (k.Trap, Alone 0)  -- an exception always
    ∷ (k.TrapV, Alone 4)  -- [003 D-12]
    ∷ []

-- the last kind  [003 D-12]
abbrev pub last_line : ℕ × Line
last_line = (k.Chk, Narrow 10 10)

-- the clocks of an instruction of kind j that takes no exception  [003 D] [K2]
unfoldable pub clocks : ℕ → List ℕ → View → ℕ → Flow → ℕ
clocks j r v op f = time (get_or lines j last_line).1 r v op f
