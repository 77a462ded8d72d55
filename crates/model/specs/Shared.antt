-- The test that cells with an id share it exactly if cells with an id join them.
use Rattle.std.specs.Prelude.{ℕ, Bool, eqb}
use Rattle.model.specs.Lists.{all, keys}
use Rattle.model.specs.Cells.{Cell}
use Rattle.model.specs.Groups.{Ids}
use Rattle.model.specs.Consistent.{joined_in, agree}

module _ (touch : Cell → Cell → Bool) where
  abbrev pub shared_in : Ids → Bool
  shared_in ids = all (λ (p : Cell × ℕ). all (λ (q : Cell × ℕ). agree (eqb p.1 q.1) (joined_in touch (keys ids) p.0 q.0)) ids) ids
