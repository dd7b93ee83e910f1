-- The walk's end decides how the loop begins; the rule and the links of the walk follow.
use Rattle.std.proofs.Common.{◌≤◌, ◌∙◌, length, length-drop, arith}
use Rattle.witness.proofs.Parts.{lent_rest, put_rest, put_long}
use Rattle.witness.specs.Laws.Underway.{few_words, halted_small, halted_known, halted_asked, begun_room, underway_start, underway_small, underway_known, underway_asked, underway_room, underway_less, underway_next, underway_ends}
use Rattle.witness.proofs.write_loop.Goals as goal

pub write_link-at-requires-clause-room : goal.write_link-at-requires-clause-room
write_link-at-requires-clause-room c =
    let words = c.write_start-at.new.words in
    let at = c.write_start-at.result in
    rw (lent_rest words at) (omega (arith, length-drop at words, c.requires.room, begun_room c.requires.halted c.walk_end-start.ensures c.write_start-at.ensures))

pub write_link-at-requires-clause-known : goal.write_link-at-requires-clause-known
write_link-at-requires-clause-known c = halted_known c.requires.halted

pub write_link-at-requires-clause-asked : goal.write_link-at-requires-clause-asked
write_link-at-requires-clause-asked c = halted_asked c.requires.halted

pub overflow_add-at : goal.overflow_add-at
overflow_add-at c =
    let H = c.requires.halted in
    omega (arith, begun_room H c.walk_end-start.ensures c.write_start-at.ensures, halted_small H, few_words H (halted_asked H) c.write_link-at.ensures)

pub loop-v-init : goal.loop-v-init
loop-v-init c =
    let H = c.requires.halted in
    let o = c.write_start-at.ensures in
    let words = c.write_start-at.new.words in
    let at = c.write_start-at.result in
    let inside : at ≤ length words = omega (arith, c.requires.room, begun_room H c.walk_end-start.ensures o) in (
      put_long words c.write_link-at.new.words at inside c.write_link-at.auto.words ∙ c.write_start-at.auto.words,
      rw (put_rest words c.write_link-at.new.words at inside)
          (underway_start H c.walk_end-start.ensures o _ _ (omega (arith, c.requires.room)) (rw (lent_rest words at) at c.write_link-at.ensures)),
    )

pub offset_bounds-standing-v : goal.offset_bounds-standing-v
offset_bounds-standing-v c = omega (arith, underway_small c.requires.halted c.loop-v.invariant.1)

pub bounds-standing-v : goal.bounds-standing-v
bounds-standing-v c = underway_small c.requires.halted c.loop-v.invariant.1

pub offset_bounds-standing-v-in-loop-v : goal.offset_bounds-standing-v-in-loop-v
offset_bounds-standing-v-in-loop-v c = omega (arith, underway_small c.requires.halted c.loop-v.invariant.1)

pub bounds-standing-v-in-loop-v : goal.bounds-standing-v-in-loop-v
bounds-standing-v-in-loop-v c = underway_small c.requires.halted c.loop-v.invariant.1

pub offset_bounds-words-at-in-loop-v : goal.offset_bounds-words-at-in-loop-v
offset_bounds-words-at-in-loop-v c = omega (arith, underway_room c.requires.halted c.loop-v.invariant.1 c.loop-v-test.true, halted_small c.requires.halted)

pub slice_bounds-write_link-count-in-loop-v : goal.slice_bounds-write_link-count-in-loop-v
slice_bounds-write_link-count-in-loop-v c = omega (arith, c.requires.room, c.loop-v.invariant.0, underway_room c.requires.halted c.loop-v.invariant.1 c.loop-v-test.true)

pub slice_bounds-write_link-start-in-loop-v : goal.slice_bounds-write_link-start-in-loop-v
slice_bounds-write_link-start-in-loop-v c = omega (arith, c.requires.room, c.loop-v.invariant.0, underway_room c.requires.halted c.loop-v.invariant.1 c.loop-v-test.true)

pub write_link-at-requires-in-loop-v-clause-room : goal.write_link-at-requires-in-loop-v-clause-room
write_link-at-requires-in-loop-v-clause-room c =
    rw (lent_rest c.loop-v.words c.loop-v.at)
    (omega (arith, length-drop c.loop-v.at c.loop-v.words, c.requires.room, c.loop-v.invariant.0, underway_room c.requires.halted c.loop-v.invariant.1 c.loop-v-test.true))

pub write_link-at-requires-in-loop-v-clause-known : goal.write_link-at-requires-in-loop-v-clause-known
write_link-at-requires-in-loop-v-clause-known c = underway_known c.requires.halted c.loop-v.invariant.1

pub write_link-at-requires-in-loop-v-clause-asked : goal.write_link-at-requires-in-loop-v-clause-asked
write_link-at-requires-in-loop-v-clause-asked c = underway_asked c.requires.halted c.loop-v.invariant.1

pub overflow_add-at-in-loop-v : goal.overflow_add-at-in-loop-v
overflow_add-at-in-loop-v c =
    let H = c.requires.halted in
    let U = c.loop-v.invariant.1 in
    omega (arith, underway_room H U c.loop-v-test.true, halted_small H, few_words H (underway_asked H U) c.write_link-at-in-loop-v.ensures)

pub loop-v-smaller : goal.loop-v-smaller
loop-v-smaller c = underway_less c.requires.halted c.loop-v.invariant.1 c.loop-v-test.true

pub loop-v-preserved : goal.loop-v-preserved
loop-v-preserved c =
    let H = c.requires.halted in
    let U = c.loop-v.invariant.1 in
    let words = c.loop-v.words in
    let at = c.loop-v.at in
    let inside : at ≤ length words = omega (arith, c.requires.room, c.loop-v.invariant.0, underway_room H U c.loop-v-test.true) in (
      put_long words c.write_link-at-in-loop-v.new.words at inside c.write_link-at-in-loop-v.auto.words ∙ c.loop-v.invariant.0,
      rw (put_rest words c.write_link-at-in-loop-v.new.words at inside)
          (underway_next H U c.loop-v-test.true _ _ (omega (arith, c.requires.room, c.loop-v.invariant.0)) (rw (lent_rest words at) at c.write_link-at-in-loop-v.ensures)),
    )

pub returns : goal.returns
returns c = underway_ends c.requires.halted c.loop-v.invariant.1 c.loop-v-test.false c.requires.room
