-- Tables of two rows, worked out.
use Rattle.std.specs.Prelude.{ℕ, ◌≡◌, refl, true, false, List, [], ◌∷◌, ltb, eqb}
use Rattle.model.specs.Lists.{keys, put, drop_key}
use Rattle.std.specs.Prelude.{Ok, Err}
use Rattle.table.specs.Rows.{table_of, image_of, is_table_of, table1, image1, is_table1, is_table4, place_of}

-- Two rows of width 2, with space for a third.
abbrev words : List ℕ
words = 5 ∷ 50 ∷ 7 ∷ 70 ∷ 0 ∷ 0 ∷ []

-- They are a table.
pub words-table : is_table1 2 2 words ≡ true
unfolding is_table_of table_of
words-table = refl

-- They are no table of one row, as words behind the row are not zero.
pub words-behind : is_table1 2 1 words ≡ false
unfolding is_table_of table_of
words-behind = refl

-- They are no table of four rows, as these do not fit.
pub words-short : is_table1 2 4 words ≡ false
unfolding is_table_of table_of
words-short = refl

-- The rows as a table.
pub words-rows : table1 2 2 words ≡ (5, 50 ∷ []) ∷ (7, 70 ∷ []) ∷ []
unfolding table_of
words-rows = refl

-- 6 goes in before 7.
pub six-missing : place_of ltb (keys (table1 2 2 words)) 6 ≡ Err 1
unfolding table_of
six-missing = refl

-- 7 stands in row 1.
pub seven-found : place_of ltb (keys (table1 2 2 words)) 7 ≡ Ok 1
unfolding table_of
seven-found = refl

-- After a put of 6 there are three rows.
pub six-put : image1 6 (put ltb 6 (60 ∷ []) (table1 2 2 words)) ≡ 5 ∷ 50 ∷ 6 ∷ 60 ∷ 7 ∷ 70 ∷ []
unfolding table_of image_of
six-put = refl

-- After 5 is taken out there is one row.
pub five-out : image1 6 (drop_key eqb 5 (table1 2 2 words)) ≡ 7 ∷ 70 ∷ 0 ∷ 0 ∷ 0 ∷ 0 ∷ []
unfolding table_of image_of
five-out = refl

-- Two cells of one grid, with a word each.
abbrev cells : List ℕ
cells = 1 ∷ 2 ∷ 3 ∷ 4 ∷ 9 ∷ 1 ∷ 2 ∷ 4 ∷ 0 ∷ 8 ∷ []

-- They are a table.
pub cells-table : is_table4 5 2 cells ≡ true
unfolding is_table_of table_of
cells-table = refl

-- A row of three words has no cell.
pub cells-narrow : is_table4 3 0 [] ≡ false
unfolding is_table_of
cells-narrow = refl
