-- WindowLaws.antt - every row of specs/WindowRows.antt and specs/RomRows.antt holds, by computing.
-- window_rows_hold. A fetch that fails gives the operation word 0, ORI.B #,D0: `Integer` is there for it.
-- Uses: step and all below it.
use mathlib.Core.Path.{◌≡◌, refl}
use mathlib.Core.List.{map}
use Rattle.bits.specs.Bits as Bits
use Rattle.flags.specs.Flags as Flags
use Rattle.bus.specs.Bus as Bus
use Rattle.operand.specs.Operands as Operands
use Rattle.plan.specs.Plans as Plans
use Rattle.alu.specs.Alu as Alu
use Rattle.decode.specs.Rows as Rows
use Rattle.movement.specs.Movement as Movement
use Rattle.control.specs.Control as Control
use Rattle.integer.specs.Integer as Integer
use Rattle.movem.specs.Movem as Movem
use Rattle.bank.specs.Bank as Bank
use Rattle.frames.specs.Frames as Frames
use Rattle.exception.specs.Exceptions as Exceptions
use Rattle.execute.specs.Dispatch as Dispatch
use Rattle.step.specs.Steps as Steps
use Rattle.examples.specs.WindowRows.{WindowRow, window_rows}
use Rattle.examples.specs.RomRows.{rom_rows_and}

pub window_rows_hold : map (λ (e : WindowRow). Steps.one_step e.board e.slots e.memory e.level e.vector) (rom_rows_and window_rows)
    ≡ map (λ (e : WindowRow). e.left) (rom_rows_and window_rows)
unfolding Bits.iter Bits.by_size Bits.sign_byte Bits.sign_word
    Flags.flags
    Bus.all_of Bus.seen_by Bus.read_byte Bus.read_word Bus.read_long Bus.read_sized Bus.room Bus.next_word Bus.next_long Bus.put_word Bus.put_long
    Bus.put_sized
    Operands.get Operands.put Operands.increment Operands.indirect Operands.postincrement Operands.predecrement Operands.immediate Operands.special
    Operands.locate Operands.load Operands.put_low Operands.source Operands.target Operands.modify
    Plans.jump Plans.finish Plans.push
    Alu.concluded Alu.moved
    Rows.rows Rows.fits Rows.first Rows.kind_in Rows.kind_of Rows.privileged
    Movement.move_size Movement.move_operands Movement.move_data Movement.push_address
    Control.jump_plan Control.return_subroutine
    Integer.binary Integer.replaced Integer.onto Integer.immediate_to
    Movem.next_spot Movem.movem_to_memory Movem.room_way Movem.room_one Movem.block_room
    Bank.bank Bank.usp_after Bank.ssp_after Bank.sr_after Bank.mode_after Bank.settle
    Exceptions.handler Exceptions.can_enter Exceptions.enter Exceptions.small_room Frames.small_frame Exceptions.small_ready Exceptions.exception
    Exceptions.big_room Frames.fault_access Frames.fault_rest Frames.big_frame Exceptions.big_ready Exceptions.fault_taken Exceptions.fault
    Dispatch.refused_kind Dispatch.movement_kind Dispatch.logical_kind Dispatch.control_kind Dispatch.system_kind Dispatch.dispatch
    Dispatch.as_user Dispatch.execute
    Steps.checked Steps.attempt Steps.commit Steps.trap_of Steps.take_trap Steps.traced Steps.both Steps.carry_out Steps.conclude Steps.instruction
    Steps.interrupt Steps.one_step
window_rows_hold = refl
