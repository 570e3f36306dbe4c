-- PaperLaws.antt - every example of 01 that is marked P holds: one statement, by computing.
-- Speaks of: specs/Paper.antt.
-- Uses: numbers, record, decimal, multiply_divide, step.
use mathlib.Core.Path.{refl}
use Rattle.bits.specs.Bits as Bits
use Rattle.flags.specs.Flags as Flags
use Rattle.bus.specs.Bus as Bus
use Rattle.operand.specs.Operands as Operands
use Rattle.plan.specs.Plans as Plans
use Rattle.alu.specs.Alu as Alu
use Rattle.decimal.specs.Decimal as Decimal
use Rattle.multiply_divide.specs.MultiplyDivide as MultiplyDivide
use Rattle.decode.specs.Rows as Rows
use Rattle.movement.specs.Movement as Movement
use Rattle.control.specs.Control as Control
use Rattle.system.specs.System as System
use Rattle.record.specs.Change as Change
use Rattle.record.specs.Limits as Limits
use Rattle.numbers.specs.Number as Number
use Rattle.bank.specs.Bank as Bank
use Rattle.frames.specs.Frames as Frames
use Rattle.exception.specs.Exceptions as Exceptions
use Rattle.execute.specs.Dispatch as Dispatch
use Rattle.step.specs.Steps as Steps
use Rattle.examples.specs.Paper.{Hold, examples}

pub examples_hold : Hold examples
unfolding Bits.iter Bits.by_size Bits.sign_byte Bits.sign_word
    Flags.flags Flags.condition_by Flags.condition
    Bus.all_of Bus.seen_by Bus.read_byte Bus.read_word Bus.read_long Bus.read_sized Bus.room Bus.next_word Bus.next_long Bus.put_word Bus.put_long
    Bus.put_sized
    Operands.get Operands.put Operands.increment Operands.indirect Operands.postincrement Operands.predecrement Operands.displaced
    Operands.index_value Operands.with_index Operands.indexed Operands.absolute_word Operands.absolute_long Operands.pc_displaced
    Operands.pc_indexed Operands.immediate Operands.special Operands.locate Operands.load Operands.put_low Operands.source Operands.target
    Operands.modify
    Plans.jump Plans.finish Plans.push Plans.quick
    Alu.sum Alu.difference Alu.concluded Alu.continued Alu.compare Alu.moved Alu.bit_number Alu.bit_changed Alu.bit_operation Alu.tas Alu.check
    Decimal.decimal_result Decimal.decimal_add Decimal.decimal_subtract
    MultiplyDivide.signed_long MultiplyDivide.signed_word MultiplyDivide.low_long MultiplyDivide.outside_word MultiplyDivide.product_result MultiplyDivide.multiply_signed MultiplyDivide.zero_divide
    MultiplyDivide.quotient_result MultiplyDivide.divide_signed MultiplyDivide.divide_unsigned
    Rows.rows Rows.fits Rows.first Rows.kind_in Rows.kind_of Rows.privileged
    Movement.move_size Movement.move_operands Movement.move_data Movement.move_address Movement.move_quick Movement.load_address
    Movement.push_address Movement.exchange Movement.swap Movement.link Movement.unlink Movement.every_other_word Movement.every_other
    Movement.movep_to_register Movement.movep_to_memory
    Control.displacement Control.jump_when Control.branch_plan Control.branch_subroutine Control.counted Control.decrement_branch
    Control.set_condition Control.jump_plan Control.jump_subroutine Control.return_restore Control.return_subroutine
    System.logic System.immediate_to_ccr_plan System.immediate_to_sr_plan System.move_from_sr System.move_to_ccr System.move_to_sr
    System.return_exception System.stop_plan System.trap_overflow_plan System.check_bounds
    Change.record_of
    Limits.valid_value
    Number.number_bytes Number.back Number.read_number
    Bank.bank Bank.usp_after Bank.ssp_after Bank.sr_after Bank.mode_after Bank.settle
    Exceptions.handler Exceptions.can_enter Exceptions.enter Exceptions.small_room Frames.small_frame Exceptions.small_ready Exceptions.exception
    Exceptions.big_room Frames.fault_access Exceptions.big_ready
    Frames.fault_rest Frames.big_frame Exceptions.fault_taken Exceptions.fault
    Dispatch.refused_kind Dispatch.movement_kind Dispatch.integer_kind Dispatch.logical_kind Dispatch.control_kind Dispatch.system_kind
    Dispatch.dispatch Dispatch.as_user Dispatch.execute
    Steps.checked Steps.attempt Steps.commit Steps.trap_of Steps.take_trap Steps.traced Steps.both Steps.carry_out Steps.conclude Steps.instruction
    Steps.interrupt Steps.one_step
examples_hold =
    (refl, (refl, (refl, (refl, (refl, (refl, ((refl, refl), ((refl, refl), ((refl, refl), (refl, (refl, (refl, (refl, (refl, ((refl, refl), tt)))))))))))))))
