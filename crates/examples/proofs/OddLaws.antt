-- OddLaws.antt - every row of specs/OddRows.antt holds, by computing.
-- odd_rows_hold.
-- Uses: step and all below it.
use mathlib.Core.Path.{◌≡◌, refl}
use mathlib.Core.List.{map}
use Rattle.bits.specs.Bits as Bits
use Rattle.flags.specs.Flags as Flags
use Rattle.bus.specs.Bus as Bus
use Rattle.operand.specs.Operands as Operands
use Rattle.plan.specs.Plans as Plans
use Rattle.decode.specs.Rows as Rows
use Rattle.control.specs.Control as Control
use Rattle.system.specs.System as System
use Rattle.bank.specs.Bank as Bank
use Rattle.frames.specs.Frames as Frames
use Rattle.exception.specs.Exceptions as Exceptions
use Rattle.execute.specs.Dispatch as Dispatch
use Rattle.step.specs.Steps as Steps
use Rattle.examples.specs.Paper.{everything}
use Rattle.examples.specs.OddRows.{OddRow, odd_rows}

pub odd_rows_hold : map (λ (e : OddRow). Steps.one_step (everything e.memory) e.slots e.memory e.level e.vector) odd_rows
    ≡ map (λ (e : OddRow). e.left) odd_rows
unfolding Bits.iter Bits.by_size Bits.sign_byte Bits.sign_word
    Flags.flags Flags.condition_by Flags.condition
    Bus.all_of Bus.seen_by Bus.read_byte Bus.read_word Bus.read_long Bus.read_sized Bus.room Bus.next_word Bus.next_long Bus.put_word Bus.put_long
    Bus.put_sized
    Operands.get Operands.put Operands.increment Operands.indirect Operands.postincrement Operands.special Operands.locate Operands.load
    Operands.put_low Operands.source
    Plans.jump Plans.push
    Rows.rows Rows.fits Rows.first Rows.kind_in Rows.kind_of Rows.privileged
    Control.displacement Control.jump_when Control.branch_plan Control.branch_subroutine Control.counted Control.decrement_branch
    Control.jump_plan Control.jump_subroutine Control.return_restore Control.return_subroutine
    System.return_exception
    Bank.bank Bank.usp_after Bank.ssp_after Bank.sr_after Bank.mode_after Bank.settle
    Exceptions.handler Exceptions.can_enter Exceptions.enter Exceptions.small_room Frames.small_frame Exceptions.small_ready Exceptions.exception
    Exceptions.big_room Frames.fault_access Frames.fault_rest Frames.big_frame Exceptions.big_ready Exceptions.fault_taken Exceptions.fault
    Dispatch.refused_kind Dispatch.control_kind Dispatch.system_kind Dispatch.dispatch Dispatch.as_user Dispatch.execute
    Steps.checked Steps.attempt Steps.commit Steps.trap_of Steps.take_trap Steps.traced Steps.both Steps.carry_out Steps.conclude Steps.instruction
    Steps.interrupt Steps.one_step
odd_rows_hold = refl
