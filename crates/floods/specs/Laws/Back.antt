-- What is told of a flood tells which answer it was.
use Rattle.std.specs.Prelude.{◌≡◌, Bool, Result, Ok, Err}
use Rattle.std.proofs.Math.Path.{refl, ap}
use Rattle.refusal.specs.declared.Refusal.{Refusal}
use Rattle.told.specs.Told.{Told}
use Rattle.told.specs.Laws.Back.{told_back, told-back}
use Rattle.floods.specs.declared.Visited.{Visited}
use Rattle.floods.specs.declared.Flooded.{Flooded}
use Rattle.floods.specs.Told.{flooding_told}

-- A flood by whether its seed was found and what it visited.
abbrev flood_of : Result (Bool × Visited) Refusal → Result Flooded Refusal
flood_of (Ok l) = Ok (record { found = l.0; visited = l.1 })
flood_of (Err r) = Err r

pub flooding_back : Told (Bool × Visited) → Result Flooded Refusal
flooding_back t = flood_of (told_back t)

-- It comes back to the answer.
pub flooding-back : (a : Result Flooded Refusal) → flooding_back (flooding_told a) ≡ a
unfolding flooding_back
flooding-back (Ok l) = refl
flooding-back (Err r) = ap flood_of (told-back (Err r))
