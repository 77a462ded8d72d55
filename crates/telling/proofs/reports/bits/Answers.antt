-- A NaN's bits are those of the quiet one.
use Rattle.std.proofs.Common.{◌∙◌}
use Rattle.telling.proofs.Laws.Reports.{bits-are}
use Rattle.telling.proofs.reports.bits.Goals as goal

pub returns : goal.returns
returns c = c.f64_to_bits_with_nan.ensures ∙ bits-are c.args.x
