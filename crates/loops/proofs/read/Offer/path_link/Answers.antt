-- The words after the head name the path's wires.
use Rattle.std.proofs.Common.{arith, ◌≡◌, ◌+◌, ◌-◌, subst, drop, length-drop}
use Rattle.loops.specs.Reads.{FollowGiven}
use Rattle.loops.specs.Laws.Follow.{follow_part, path_stuck, path_quick, path_good}
use Rattle.loops.proofs.read.Offer.path_link.Goals as goal

pub returns-in_err-path : goal.returns-in_err-path
returns-in_err-path c =
    let s = c.args.self.sheet.bytes.now in
    let along = drop (c.args.at + 3) c.args.self.words.now in
    let e : c.args.at + 3 + c.args.count - (c.args.at + 3) ≡ c.args.count = omega arith in
    let f = follow_part s along c.args.start c.args.count (omega (arith, c.requires.within, length-drop (c.args.at + 3) c.args.self.words.now)) c.follow.result (rw e at c.follow.ensures) in
    rw c.from_residual.ensures (path_stuck s _ c.args.self.words.now _ _ _ c.requires (subst (FollowGiven s along c.args.start c.args.count) c.in_err-path.was f))

pub returns-then-path-self : goal.returns-then-path-self
returns-then-path-self c =
    let s = c.args.self.sheet.bytes.now in
    let along = drop (c.args.at + 3) c.args.self.words.now in
    let e : c.args.at + 3 + c.args.count - (c.args.at + 3) ≡ c.args.count = omega arith in
    let f = follow_part s along c.args.start c.args.count (omega (arith, c.requires.within, length-drop (c.args.at + 3) c.args.self.words.now)) c.follow.result (rw e at c.follow.ensures) in
    path_quick s _ c.args.self.words.now _ _ _ c.requires _ _ _ (subst (FollowGiven s along c.args.start c.args.count) c.in_ok-path.was f) (omega (arith, c.if-path-self.true))

pub returns : goal.returns
returns c =
    let s = c.args.self.sheet.bytes.now in
    let along = drop (c.args.at + 3) c.args.self.words.now in
    let e : c.args.at + 3 + c.args.count - (c.args.at + 3) ≡ c.args.count = omega arith in
    let f = follow_part s along c.args.start c.args.count (omega (arith, c.requires.within, length-drop (c.args.at + 3) c.args.self.words.now)) c.follow.result (rw e at c.follow.ensures) in
    path_good s _ c.args.self.words.now _ _ _ c.requires _ _ _ (subst (FollowGiven s along c.args.start c.args.count) c.in_ok-path.was f) (omega (arith, c.if-path-self.false))
