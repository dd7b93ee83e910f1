use Rattle.std.proofs.Common.{set, length, length-set, refl, arith}
use Rattle.witness.proofs.Parts.{put_copy}
use Rattle.witness.proofs.link.write_path.Goals as goal

pub returns : goal.returns
returns c =
    let ws = c.trace-wires.result.now in
    record {
      wires = ws;
      traced = c.trace-wires.ensures;
      words_are = put_copy (set (set (set c.args.words.now 0 2) 1 c.args.a) 2 (length ws)) _ ws 3 _ c.copy_from_slice.ensures.after (omega arith) (simp length-set (omega (arith, c.requires.4, c.requires.0.n_is, c.trace-wires.ensures.short)));
      count = refl;
    }
