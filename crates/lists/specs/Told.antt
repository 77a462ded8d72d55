-- What a list tells, and the answers of lists and of a path.
use Rattle.std.specs.Prelude.{ℕ, Bool, true, false, List, length, Result, Ok, Err}
use Rattle.std.proofs.Math.Option.{Option, none, some}
use Rattle.model.specs.Lists.{gather}
use Rattle.model.specs.Cells.{Cell}
use Rattle.model.specs.Questions.{Listed}
use Rattle.neighbourhood.specs.Answers.{answer_words}
use Rattle.refusal.specs.declared.Refusal.{Refusal}
use Rattle.refusal.specs.Forms.{form, no_path}
use Rattle.told.specs.Told.{Told, done, refused, failed, fitted}
use Rattle.lists.specs.declared.Listed.{Listed as Given}

-- A list: 0, whether what was asked for was found, and how many the list holds; 8 and the words needed; or the refusal.
abbrev pub listing_told : Result Given Refusal → Told (Bool × ℕ)
listing_told (Ok l) = done (l.found, l.count)
listing_told (Err r) = failed (form r)

-- A list answer: found or not, how many the list holds, and its words.
abbrev pub listed : Bool → ℕ → List ℕ → List ℕ → Told (Bool × ℕ) × List ℕ
listed found count words answer = fitted (found, count) words answer

-- A list of numbers, one word each.
abbrev pub listed_numbers : Listed ℕ → List ℕ → Told (Bool × ℕ) × List ℕ
listed_numbers l answer = listed l.found (length l.list) l.list answer

-- A list of cells, four words each: grid, x, y, z.
abbrev pub listed_cells : Listed Cell → List ℕ → Told (Bool × ℕ) × List ℕ
listed_cells l answer = listed l.found (length l.list) (gather answer_words l.list) answer

-- A list that is there whatever it holds.
abbrev pub there : {A : Type 0} → List A → Listed A
there l = record { found = true; list = l }

-- 12 where there is no path; else how many cells it has, and their words.
abbrev pub path_from : Option (List Cell) → List ℕ → Told (Bool × ℕ) × List ℕ
path_from none answer = (refused no_path, answer)
path_from (some p) answer = listed_cells (there p) answer

-- Whether there is a path.
abbrev pub is_shown : Option (List Cell) → Bool
is_shown none = false
is_shown (some p) = true
