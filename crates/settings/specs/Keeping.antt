-- Keeping each grid's last record: what is answered, and the slice and the scratch after it.
use Rattle.std.specs.Prelude.{Ok, Err}
use Rattle.settings.specs.Answers.{Keeping}
use Rattle.settings.specs.declared.kinds.ReadError.TheVariants as reading_error
use Rattle.std.specs.Prelude.{ℕ, ◌-◌, Bool, true, false, cond, ◌||◌, List, [], ◌∷◌, ◌++◌, length, take, drop, replicate, ltb, eqb}
use Rattle.settings.specs.Records.{grid_of}
use Rattle.settings.specs.Parsing.{Records, whole, faulty, records_of}

-- Some of the records is of a grid.
unfoldable pub has : ℕ → List (List ℕ) → Bool
has g [] = false
has g (r ∷ rs) = eqb (grid_of r) g || has g rs

-- The records that are the last of their grid, in the order they stood.
unfoldable pub keep_last : List (List ℕ) → List (List ℕ)
keep_last [] = []
keep_last (r ∷ rs) = let kept = keep_last rs in cond (has (grid_of r) rs) kept (r ∷ kept)

-- The bytes of records, one behind the other.
unfoldable pub joined : List (List ℕ) → List ℕ
joined [] = []
joined (r ∷ rs) = r ++ joined rs

-- Bytes at the front of s, zeros behind them up to the length n, and the rest as it was.
abbrev pub filled : List ℕ → List ℕ → ℕ → List ℕ
filled b s n = b ++ (replicate (n - length b) 0 ++ drop n s)

-- The last records are kept: their length, the slice, and the scratch t, which is zeros.
abbrev pub kept_of : List (List ℕ) → List ℕ → ℕ → List ℕ → ℕ × List ℕ × List ℕ
kept_of rs s n t = let b = joined (keep_last rs) in (length b, filled b s n, replicate (length t) 0)

-- A fault is told and nothing written; else the last records are kept.
abbrev pub keep_whole : List ℕ → ℕ → List ℕ → Records → Keeping × List ℕ × List ℕ
keep_whole s n t (faulty f p) = (Err (reading_error.Faulty f p), s, t)
keep_whole s n t (whole rs) = let k = kept_of rs s n t in (Ok k.0, k.1, k.2)

-- The same of the first n bytes of s, as a reader of version 2 reads them; a length above the slice's comes first.
unfoldable pub keep_of : List ℕ → ℕ → List ℕ → Keeping × List ℕ × List ℕ
keep_of s n t = cond (ltb (length s) n) (Err reading_error.Overlong, s, t) (keep_whole s n t (records_of true (take n s)))
