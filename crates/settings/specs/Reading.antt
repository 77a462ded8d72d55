-- What a reader answers for a grid: the last record of the grid holds, and a fault shows nothing for any grid.
use Rattle.std.specs.Prelude.{Ok, Err, Some, None}
use Rattle.settings.specs.Answers.{Reading}
use Rattle.settings.specs.declared.kinds.ReadError.TheVariants as reading_error
use Rattle.std.specs.Prelude.{ℕ, Bool, cond, List, [], ◌∷◌, length, take, ltb, eqb}
use Rattle.settings.specs.Records.{grid_of, settings_of}
use Rattle.settings.specs.Parsing.{Records, whole, faulty, records_of}

-- The last record of a grid, and `held` where there is none.
unfoldable pub last_of : ℕ → List ℕ → List (List ℕ) → List ℕ
last_of g held [] = held
last_of g held (r ∷ rs) = last_of g (cond (eqb (grid_of r) g) r held) rs

-- What a reader says of the record that holds; none has no bytes.
abbrev pub shown : List ℕ → Reading
shown r = cond (ltb (length r) 12) (Ok None) (Ok (Some (settings_of r)))

-- What a reader says for a grid of bytes, with the record `held` in front of them.
abbrev pub tell_with : ℕ → List ℕ → Records → Reading
tell_with g held (whole rs) = shown (last_of g held rs)
tell_with g held (faulty f p) = Err (reading_error.Faulty f p)

-- What a reader says for a grid of bytes.
abbrev pub tell : ℕ → Records → Reading
tell g m = tell_with g [] m

-- What a reader of version 2 or of version 1 says for a grid of the first n bytes of s; a length above the slice's comes first.
unfoldable pub read_of : Bool → List ℕ → ℕ → ℕ → Reading
read_of two s n g = cond (ltb (length s) n) (Err reading_error.Overlong) (tell g (records_of two (take n s)))
