-- What is told of a list tells which answer it was.
use Rattle.std.specs.Prelude.{ℕ, ◌≡◌, Bool, Result, Ok, Err}
use Rattle.std.proofs.Math.Path.{refl, ap}
use Rattle.refusal.specs.declared.Refusal.{Refusal}
use Rattle.told.specs.Told.{Told}
use Rattle.told.specs.Laws.Back.{told_back, told-back}
use Rattle.lists.specs.declared.Listed.{Listed}
use Rattle.lists.specs.Told.{listing_told}

-- A list by whether it was found and how many it holds.
abbrev list_of : Result (Bool × ℕ) Refusal → Result Listed Refusal
list_of (Ok l) = Ok (record { found = l.0; count = l.1 })
list_of (Err r) = Err r

pub listing_back : Told (Bool × ℕ) → Result Listed Refusal
listing_back t = list_of (told_back t)

-- It comes back to the answer.
pub listing-back : (a : Result Listed Refusal) → listing_back (listing_told a) ≡ a
unfolding listing_back
listing-back (Ok l) = refl
listing-back (Err r) = ap list_of (told-back (Err r))
