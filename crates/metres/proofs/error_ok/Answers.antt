-- `metres::error_ok` meets its contract.
use Rattle.std.proofs.Common.{not, ◌&&◌, ◌∙◌}
use lib.Ieee.{lt}
use Rattle.exact.specs.Laws.Tests.{zero-of-bits}
use Rattle.metres.proofs.Laws.Frame.{error-test}
use Rattle.metres.proofs.error_ok.Goals as goal

pub returns : goal.returns
returns c = let x = c.args.x in (λ i. c.is_finite.ensures i && not (lt x (zero-of-bits i))) ∙ error-test x c.requires
