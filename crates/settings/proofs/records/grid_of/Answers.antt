-- One number.
use Rattle.settings.specs.Records.{grid_of}
use Rattle.settings.proofs.records.grid_of.Goals as goal

pub returns : goal.returns
unfolding grid_of
returns c = c.number.ensures.0
