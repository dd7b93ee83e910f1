-- The rule tells the kind; whatever it was asked for by is what was written.
use Rattle.sheet.specs.Core.{core_of}
use Rattle.sheet.specs.Laws.Formed.{formed_core}
use Rattle.witness.specs.Laws.Link.{path_a, path_b, path_small, upper_written, wire_written, ceiling_written, path_written}
use Rattle.witness.proofs.link.write_link.Goals as goal

pub returns-in-Limit : goal.returns-in-Limit
returns-in-Limit c = λ k d. upper_written (core_of c.args.sheet.bytes.now) (formed_core c.args.sheet.bytes.now c.requires.known.sound.formed) _ _ _ _ k c.args.words.now _ _ c.write_pair.ensures.1 d c.in-Limit.is c.write_pair.ensures.0

pub write_path-requires : goal.write_path-requires
write_path-requires c =
    let t = c.requires.known.tabled c.in-Path.is in
    let d = c.requires.asked in (
      t,
      path_a c.args.sheet.bytes.now _ t _ c.args.rule _ c.args.b d.0 d.1 c.in-Path.is,
      path_b c.args.sheet.bytes.now _ t _ c.args.rule c.args.a _ d.0 d.1 c.in-Path.is,
      path_small c.args.sheet.bytes.now _ t _ c.args.rule c.args.a c.args.b d.0 d.1 c.in-Path.is,
      c.requires.room,
    )

pub returns-in-Path : goal.returns-in-Path
returns-in-Path c = λ k d. path_written c.args.sheet.bytes.now _ (c.requires.known.tabled c.in-Path.is) _ _ _ _ k d c.in-Path.is c.args.words.now _ _ c.write_path.ensures

pub returns-in-Wire : goal.returns-in-Wire
returns-in-Wire c = λ k d. wire_written (core_of c.args.sheet.bytes.now) (formed_core c.args.sheet.bytes.now c.requires.known.sound.formed) _ _ _ _ k c.args.words.now _ _ c.write_pair-in-Wire.ensures.1 _ d c.in-Wire.is c.write_pair-in-Wire.ensures.0

pub returns-in-Ceiling : goal.returns-in-Ceiling
returns-in-Ceiling c = λ k d. ceiling_written (core_of c.args.sheet.bytes.now) (formed_core c.args.sheet.bytes.now c.requires.known.sound.formed) _ _ _ _ k c.args.words.now _ _ c.write_pair-in-Ceiling.ensures.1 _ d c.in-Ceiling.is c.write_pair-in-Ceiling.ensures.0
