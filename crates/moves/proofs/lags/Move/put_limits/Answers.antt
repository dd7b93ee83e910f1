-- Each turn puts both limits of one more block.
use Rattle.std.proofs.Common.{sym, ap, ◌∙◌, ℕ, ◌+◌, ◌*◌}
use Rattle.sheet.specs.declared.block.Limit.TheVariants.{Lower, Upper}
use Rattle.moves.specs.Laws.Writing.{puts_none, limits_turn, bits_is, limit_is}
use Rattle.moves.proofs.lags.Move.put_limits.Goals as goal

pub loop-b-init : goal.loop-b-init
loop-b-init c = sym (puts_none _ _ _ ∙ puts_none _ _ _)

pub loop-b-preserved : goal.loop-b-preserved
loop-b-preserved c =
    let s = c.args.self.asked.sheet.bytes.now in
    let is = limit_is s c.args.self.asked.sheet.formed c.loop-b.b c.block-block.result c.block-block.ensures in
    limits_turn s _ c.loop-b.b _ _ _ _ _ _ _ _ c.loop-b.invariant (ap (λ (k : ℕ). k + 8 * c.loop-b.b) c.limits_from-low.ensures.0) (ap (λ (k : ℕ). k + 8 * c.loop-b.b) c.limits_from-high.ensures.0)
    (bits_is _ _ _ _ (is Lower _ c.limit-lower.ensures) c.lag_at-lag.ensures.is) (bits_is _ _ _ _ (is Upper _ c.limit-upper.ensures) c.lag_at-lag.ensures.is) c.put_lag.ensures c.put_lag-in-loop-b.ensures
