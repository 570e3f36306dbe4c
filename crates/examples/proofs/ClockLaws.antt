-- ClockLaws.antt - every row of specs/ClockRows.antt holds, by computing; so the largest value of a step is reached.
-- clock_rows_hold.
-- Uses: step and all below it.
use mathlib.Core.Path.{◌≡◌, refl}
use mathlib.Core.List.{map}
use lib.Count as Count
use Rattle.bits.specs.Bits as Bits
use Rattle.flags.specs.Flags as Flags
use Rattle.bus.specs.Bus as Bus
use Rattle.operand.specs.Operands as Operands
use Rattle.plan.specs.Plans as Plans
use Rattle.alu.specs.Alu as Alu
use Rattle.multiply_divide.specs.MultiplyDivide as MultiplyDivide
use Rattle.shift.specs.Shift as Shift
use Rattle.decode.specs.Rows as Rows
use Rattle.movement.specs.Movement as Movement
use Rattle.control.specs.Control as Control
use Rattle.system.specs.System as System
use Rattle.integer.specs.Integer as Integer
use Rattle.bitwise.specs.Bitwise as Bitwise
use Rattle.movem.specs.Movem as Movem
use Rattle.bank.specs.Bank as Bank
use Rattle.frames.specs.Frames as Frames
use Rattle.exception.specs.Exceptions as Exceptions
use Rattle.execute.specs.Dispatch as Dispatch
use Rattle.clocks.specs.Clocks as Clocks
use Rattle.clocks.specs.Lines as Lines
use Rattle.step.specs.Steps as Steps
use Rattle.examples.specs.Paper.{everything}
use Rattle.examples.specs.ClockRows.{Row, memory_of, clock_rows}

pub clock_rows_hold : map (λ (e : Row). Steps.step_clocks (everything (memory_of e.words)) e.slots (memory_of e.words) e.level 24) clock_rows
    ≡ map (λ (e : Row). e.clocks) clock_rows
unfolding Count.ones_in Bits.iter Bits.by_size Bits.sign_byte Bits.sign_word
    Flags.flags Flags.condition_by Flags.condition
    Bus.all_of Bus.seen_by Bus.read_byte Bus.read_word Bus.read_long Bus.read_sized Bus.room Bus.next_word Bus.next_long Bus.put_word Bus.put_long Bus.put_sized
    Operands.get Operands.put Operands.increment Operands.indirect Operands.postincrement Operands.predecrement Operands.displaced
    Operands.index_value Operands.with_index Operands.indexed Operands.absolute_word Operands.absolute_long Operands.pc_displaced Operands.pc_indexed Operands.immediate Operands.special Operands.locate Operands.load Operands.put_low Operands.source Operands.target Operands.modify
    Plans.jump Plans.finish Plans.push Plans.quick
    Alu.sum Alu.difference Alu.concluded Alu.continued Alu.compare Alu.moved Alu.bit_number Alu.bit_changed Alu.bit_operation Alu.tas Alu.check
    MultiplyDivide.signed_long MultiplyDivide.signed_word MultiplyDivide.low_long MultiplyDivide.outside_word MultiplyDivide.product_result
    MultiplyDivide.multiply_signed MultiplyDivide.zero_divide MultiplyDivide.quotient_result MultiplyDivide.divide_signed MultiplyDivide.divide_unsigned
    Shift.by_kind Shift.one_left Shift.one_right Shift.one_place Shift.shift
    Rows.rows Rows.fits Rows.first Rows.kind_in Rows.kind_of Rows.privileged
    Movement.move_size Movement.move_operands Movement.move_data Movement.move_address Movement.move_quick Movement.load_address Movement.push_address Movement.exchange Movement.swap Movement.link Movement.unlink Movement.every_other_word Movement.every_other Movement.movep_to_register Movement.movep_to_memory
    Control.displacement Control.jump_when Control.branch_plan Control.branch_subroutine Control.counted Control.decrement_branch Control.set_condition Control.jump_plan Control.jump_subroutine Control.return_restore Control.return_subroutine
    System.logic System.immediate_to_ccr_plan System.immediate_to_sr_plan System.move_from_sr System.move_to_ccr System.move_to_sr
    System.return_exception System.stop_plan System.trap_overflow_plan System.check_bounds
    Integer.binary Integer.address_sum Integer.continuing Integer.unary_result Integer.product_by Integer.quotient_by Integer.only_flags
    Integer.into_register Integer.taken Integer.replaced Integer.onto Integer.immediate_to Integer.compare_immediate Integer.quick_sum
    Integer.to_address Integer.compare_address Integer.paired Integer.compare_memory Integer.alone Integer.test Integer.divide
    Bitwise.shift_count Bitwise.shift_place Bitwise.bit_size Bitwise.bit_place Bitwise.bit_static
    Movem.next_spot Movem.load_one Movem.movem_to_registers Movem.movem_down Movem.movem_to_memory Movem.room_way Movem.room_one Movem.block_room Movem.mirrored Movem.put_way Movem.stored Movem.byte_of Movem.part_of Movem.put_part Movem.put_one Movem.block_put
    Bank.bank Bank.usp_after Bank.ssp_after Bank.sr_after Bank.mode_after Bank.settle
    Exceptions.handler Exceptions.can_enter Exceptions.enter Exceptions.small_room Frames.small_frame Exceptions.small_ready Exceptions.exception
    Exceptions.big_room Frames.fault_access Exceptions.big_ready
    Frames.fault_rest Frames.big_frame Exceptions.fault_taken Exceptions.fault
    Dispatch.refused_kind Dispatch.movement_kind Dispatch.integer_kind Dispatch.logical_kind Dispatch.control_kind Dispatch.system_kind
    Dispatch.dispatch Dispatch.as_user Dispatch.execute Dispatch.user_clocks Dispatch.own_clocks
    Clocks.place Clocks.operand_clocks Clocks.direct Clocks.general Clocks.sized Clocks.addressed Clocks.narrow Clocks.paired Clocks.peripheral
    Clocks.moved Clocks.located Clocks.jumped Clocks.listed Clocks.stored Clocks.loaded Clocks.factor Clocks.unsigned Clocks.signed
    Clocks.shifted Clocks.bit_clocks Clocks.branched Clocks.counted_by Clocks.counted Clocks.conditional Clocks.exception_clocks
    Lines.time Lines.clocks
    Steps.checked Steps.attempt Steps.commit Steps.trap_of Steps.take_trap Steps.traced Steps.both Steps.carry_out Steps.conclude
    Steps.instruction Steps.interrupt Steps.one_step Steps.trap_clocks Steps.trace_clocks Steps.ended_clocks Steps.concluded_clocks
    Steps.instruction_clocks Steps.interrupt_clocks Steps.step_clocks
clock_rows_hold = refl
