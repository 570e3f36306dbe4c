use Prim.Native.Nat.{◌-◌, ◌<◌, ◌^◌}
use native.Mathlib.Omega.{arith}
use Rattle.bus.specs.Bus.{board_of}
use Rattle.taken.proofs.TakenLaws.{valid_lent}
use Rattle.full.proofs.FullLaws.{Going, going_start, going_again, going_room, going_step, going_post, going_dropped, going_sum}
use Rattle.full.proofs.FullLaws.{going_one, going_less}
use Rattle.full.proofs.FullLaws.{Gives, going_spent, going_halted, going_stopped, going_there, at_reason, either_of}
use borrow.Author.Rules.{rules}
use Rattle.full.proofs.running_known.Statement.{statement}
use Rattle.full.proofs.running_known.Tie as tie
use Rattle.calls.specs.declared.Manner.TheVariants.{Dropping}
use Rattle.calls.specs.Calls.{running}

abbrev invariant_loop : tie.invariant-loop-win
invariant_loop slots₀ win memory₀ rom budget stop journal₀ mark done clocks log₀ h spread posts₀ near₀ size long len n₀ c₀ m₀ b₀ i₀ base₀ moved₀ dropped₀ slots memory journal log posts near n c m b i base moved dropped =
    Going (board_of win rom) budget stop (running Dropping (board_of win rom) (budget - done) done clocks 0 0 stop slots₀ memory₀ journal₀ mark) h mark
    memory₀ journal₀ log₀ posts₀ near₀ slots memory journal log posts near n c m b i base moved dropped

abbrev decreases_loop : tie.decreases-loop-win
decreases_loop slots₀ win memory₀ rom budget stop journal₀ mark done clocks log₀ h spread posts₀ near₀ size long len n₀ c₀ m₀ b₀ i₀ base₀ moved₀ dropped₀ slots memory journal log posts near n c m b i base moved dropped = budget - n

loop_holds : tie.Need-loop-win-init invariant_loop decreases_loop
loop_holds c =
    let t = c.before.twenty-size.ensures in
    let z = c.before.before.before.before.before.before.before.before in
    let p = z.requires.0 in
    let q = z.requires.1.0 in
    let k = z.requires.1.1 in
    going_start _ _ _ _ _ _ _ _ _ _ _ _ _ (valid_lent _ _ t.0 t.1 c.bytes-long.ensures.1 p.0 p.3) p.1 p.2 p.4 q.0 q.1 q.2 k.0 k.4

-- a journal has fewer than 2 to the 63rd bytes
small : (z : tie.Start invariant_loop decreases_loop) → z.args.mark < 2 ^ 63
small z = omega (arith, z.requires.0.1, z.well_formed.1.1.1.1.1.0.1)

room_known_requires : tie.Need-room_known-r-requires invariant_loop decreases_loop
room_known_requires c κs =
    let l = c.before.before.before.before.before.before.before.before.before.before in
    let z = c.before.before.before.before.before.before.before.before.before.before.before.before.before.before.before.before.before.before.before in
    let k = z.requires.1.1 in
    going_room l.loop-win.invariant _ k.1 k.2 k.3 (small z)

add_note_post : tie.Need-overflow_add-r invariant_loop decreases_loop
add_note_post c =
    let j = c.before.before.before.before.before in
    let l = c.before.before.before.before.before.before.before.before.before.before.before.before.before.before.before.before.before in
    let z = c.before.before.before.before.before.before.before.before.before.before.before.before.before.before.before.before.before.before.before.before.before.before.before.before.before.before in
    record { fits = going_post l.loop-win.invariant _ _ _ j.before.room_known-r.ensures j.journal-1.given (small z) }

note_post_requires : tie.Need-note_post-requires invariant_loop decreases_loop
note_post_requires c κs =
    let l = c.before.before.before.before.before.before.before.before.before.before.before.before.before.before.before.before.before in
    let k = c.before.before.before.before.before.before.before.before.before.before.before.before.before.before.before.before.before.before.before.before.before.before.before.before.before.before.requires.1.1 in
    (k.1, omega (arith, l.loop-win.invariant.same_posts, k.2))

step_taken_requires : tie.Need-step_taken-a-requires invariant_loop decreases_loop
step_taken_requires c κs =
    let j = c.before.before.before.before.before.before.before.before.before.before.before.before in
    let l = c.before.before.before.before.before.before.before.before.before.before.before.before.before.before.before.before.before.before.before.before.before.before.before.before in
    going_step l.loop-win.invariant _ _ _ j.before.room_known-r.ensures j.journal-1.given

add_n : tie.Need-overflow_add-n invariant_loop decreases_loop
add_n c = let d = c.before.before.before.before.before.before.before.before.before.before.before.before.before.before.before.before.before.before.before.before.before.before.before.before.before.before.before.before.before.before in record { fits = going_one d.before.loop-win.invariant d.if-spent.false-raw }

loop_less : tie.Need-loop-win-smaller invariant_loop decreases_loop
loop_less c = let d = c.before.before.before.before.before.before.before.before.before.before.before.before.before.before.before.before.before.before.before.before.before.before.before.before.before.before.before.before.before.before.before.before in going_less d.before.loop-win.invariant d.if-spent.false-raw

add_c : tie.Need-overflow_add-c invariant_loop decreases_loop
add_c c =
    let t = c.before.before.before.before.before.before.before in
    let j = c.before.before.before.before.before.before.before.before.before.before.before.before.before.before.before.before.before.before.before.before in
    let d = c.before.before.before.before.before.before.before.before.before.before.before.before.before.before.before.before.before.before.before.before.before.before.before.before.before.before.before.before.before.before.before in
    record { fits = going_sum d.before.loop-win.invariant _ _ _ j.before.room_known-r.ensures j.journal-1.given d.if-spent.false-raw _ t.step_taken-a.ensures.1.1.1.0 }

add_dropped : tie.Need-overflow_add-dropped invariant_loop decreases_loop
add_dropped c =
    let j = c.before.before.before.before.before.before.before.before.before.before.before.before.before.before.before.before.before.before.before.before.before in
    let l = c.before.before.before.before.before.before.before.before.before.before.before.before.before.before.before.before.before.before.before.before.before.before.before.before.before.before.before.before.before.before.before.before.before in
    let z = c.before.before.before.before.before.before.before.before.before.before.before.before.before.before.before.before.before.before.before.before.before.before.before.before.before.before.before.before.before.before.before.before.before.before.before.before.before.before.before.before.before.before in
    record { fits = going_dropped l.loop-win.invariant _ _ _ j.before.room_known-r.ensures j.journal-1.given (small z) }

loop_again : tie.Need-loop-win-preserved invariant_loop decreases_loop
loop_again c =
    let e = c.before.before.before.before.before.before.before.before.step_taken-a.ensures in
    let o = c.before.before.before.before.before.before.before.before.before.before.before.before.before.before.before in
    let n = c.before.before.before.before.before.before.before.before.before.before.before.before.before.before.before.before.before.before.before in
    let j = n.before.before in
    going_again c.loop-win.invariant _ _ _ j.before.room_known-r.ensures j.journal-1.given c.if-spent.false-raw c.if-halted.false-raw c.if-stopped.false-raw c.if-there.false-raw
    _ _ _ _ _ e.0 e.1.0 e.1.1.0 e.1.1.1.0 _ c.add_moved-moved.ensures _ _ o.note_post.ensures n.near-1.given e.1.1.1.1.same_log

turn_back_requires : tie.Need-turn_back-requires invariant_loop decreases_loop
turn_back_requires c κs = let g = c.before.before.loop-win.invariant in (g.turn.low, g.top)

-- the reason that ended the loop
reached : (d : tie.Joined-spent invariant_loop decreases_loop) → Gives d.before.loop-win.invariant d.if-spent.reason
reached d =
    let g = d.before.loop-win.invariant in
    either_of d.if-spent.branch-raw
    (λ x. at_reason g 1 _ x.reason-is (going_spent g x.if-spent.true-raw))
    (λ y. either_of y
    (λ x. at_reason g 2 _ x.reason-is (going_halted g x.if-spent.false-raw x.if-halted.true-raw))
    (λ y. either_of y
    (λ x. at_reason g 3 _ x.reason-is (going_stopped g x.if-spent.false-raw x.if-halted.false-raw x.if-stopped.true-raw))
    (λ x. at_reason g 5 _ x.reason-is (going_there g x.if-spent.false-raw x.if-halted.false-raw x.if-stopped.false-raw x.if-there.true-raw))))

returns : tie.Need-returns invariant_loop decreases_loop
returns c = reached c.before.before.before.before _ c.before.before.turn_back.ensures

pub running_known_spec : {M : Type 1} → statement M
running_known_spec =
    tie.close
    (tie.spec
    invariant_loop
    decreases_loop
    (λ c κs. search rules)
    (λ c κs. search rules)
    loop_holds
    (λ c. search rules)
    (λ c. search rules)
    (λ c. search rules)
    room_known_requires
    add_note_post
    note_post_requires
    step_taken_requires
    add_n
    add_c
    (λ c κs. search rules)
    add_dropped
    loop_less
    loop_again
    turn_back_requires
    (λ c. search rules)
    (λ c. search rules)
    (λ c. search rules)
    (λ c. search rules)
    (λ c. search rules)
    returns)
