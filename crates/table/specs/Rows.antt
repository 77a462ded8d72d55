-- Tables in a list of words: rows of one width, one after the other, and how a row is read as a key with what it stands for.
use Rattle.std.specs.Prelude.{ℕ, zero, suc, ◌+◌, ◌-◌, ◌*◌, Bool, cond, ◌&&◌, ◌||◌, List, [], ◌∷◌, ◌++◌, length, take, drop, get_or, replicate, eqb, ltb, leb, Result, Ok, Err, is_ok}
use Rattle.model.specs.Lists.{all, has, is_ascending, each, gather, keys}
use Rattle.component.specs.Order.{same, below}
use Rattle.component.specs.declared.Cell.{Cell}

-- A kind of key: how many words it has, how it is read from a row and written, its equality and its order.
pub record Kind (K : Type 0) : Type 0 where
  pub size : ℕ
  pub read : List ℕ → K
  pub write : K → List ℕ
  pub equal : K → K → Bool
  pub less : K → K → Bool

-- The cell whose words stand at a place.
abbrev pub cell_at : List ℕ → ℕ → Cell
cell_at s at = record { grid = get_or s at 0; z = get_or s (at + 1) 0; y = get_or s (at + 2) 0; x = get_or s (at + 3) 0 }

-- The words of a cell.
abbrev pub cell_words : Cell → List ℕ
cell_words c = c.grid ∷ c.z ∷ c.y ∷ c.x ∷ []

-- The key is word 0 of a row.
abbrev pub number : Kind ℕ
number = record { size = 1; read = λ r. get_or r 0 0; write = λ k. k ∷ []; equal = eqb; less = ltb }

-- The key is the cell of words 0 to 3 of a row.
abbrev pub cell : Kind Cell
cell = record { size = 4; read = λ r. cell_at r 0; write = cell_words; equal = same; less = below }

-- The first n rows of width w.
abbrev pub rows_of : ℕ → ℕ → List ℕ → List (List ℕ)
rows_of w zero s = []
rows_of w (suc n) s = take w s ∷ rows_of w n (drop w s)

-- Whether all words are zero.
abbrev pub are_zero : List ℕ → Bool
are_zero = all (eqb 0)

module _ {K : Type 0} (kind : Kind K) where
  -- A row as its key and the words behind it.
  abbrev pub entry_of : List ℕ → K × List ℕ
  entry_of r = (kind.read r, drop kind.size r)

  -- The row of a key and the words behind it.
  abbrev pub row_of : K × List ℕ → List ℕ
  row_of p = kind.write p.0 ++ p.1

  -- The first n rows of width w as a table.
  unfoldable pub table_of : ℕ → ℕ → List ℕ → List (K × List ℕ)
  table_of w n s = each entry_of (rows_of w n s)

  -- The words of a table: its rows one after the other, and zeros up to len words.
  unfoldable pub image_of : ℕ → List (K × List ℕ) → List ℕ
  image_of len t = gather row_of t ++ replicate (len - length (gather row_of t)) 0

  -- What is stored of a table: the number of its rows, and its words.
  abbrev pub stored_of : ℕ → List (K × List ℕ) → ℕ × List ℕ
  stored_of len t = (length t, image_of len t)

  -- Whether every row of a table has w words.
  abbrev pub are_wide : ℕ → List (K × List ℕ) → Bool
  are_wide w = all (λ (p : K × List ℕ). eqb (kind.size + length p.1) w)

  -- Whether the words are those of a table: n rows that hold a key and fit, their keys strictly ascending, zeros behind them.
  unfoldable pub is_table_of : ℕ → ℕ → List ℕ → Bool
  is_table_of w n s =
      leb kind.size w
      && (leb (w * n) (length s) && (is_ascending kind.less (keys (table_of w n s)) && are_zero (drop (w * n) s)))

  -- Whether a row of the key k can be put: there is space for one more row, or the key is there.
  unfoldable pub has_room_of : ℕ → ℕ → List ℕ → K → Bool
  has_room_of w n s k = leb (w * suc n) (length s) || has kind.equal (keys (table_of w n s)) k

-- A place one row further on.
abbrev pub further : Result ℕ ℕ → Result ℕ ℕ
further (Ok i) = Ok (suc i)
further (Err i) = Err (suc i)

-- Whether a place is that of a row.
abbrev pub is_found : Result ℕ ℕ → Bool
is_found = is_ok

-- The number of a place.
abbrev pub placed : Result ℕ ℕ → ℕ
placed (Ok i) = i
placed (Err i) = i

-- How many keys stand before the first that is not below a key.
abbrev pub rank : {K : Type 0} → (K → K → Bool) → K → List K → ℕ
rank lt key [] = zero
rank lt key (x ∷ l) = cond (lt x key) (suc (rank lt key l)) zero

-- Where a key stands in an ascending list of keys, or where it would go in.
abbrev pub place_of : {K : Type 0} → (K → K → Bool) → List K → K → Result ℕ ℕ
place_of lt [] k = Err zero
place_of lt (a ∷ l) k = cond (lt k a) (Err zero) (cond (lt a k) (further (place_of lt l k)) (Ok zero))

-- The key of one word of a row.
abbrev pub key1 : List ℕ → ℕ
key1 r = (entry_of number r).0

-- The words of a row behind a key of one word.
abbrev pub rest1 : List ℕ → List ℕ
rest1 r = (entry_of number r).1

-- The first n rows of width w as a table by a key of one word.
abbrev pub table1 : ℕ → ℕ → List ℕ → List (ℕ × List ℕ)
table1 = table_of number

-- The words of a table by a key of one word.
abbrev pub image1 : ℕ → List (ℕ × List ℕ) → List ℕ
image1 = image_of number

-- What is stored of a table by a key of one word.
abbrev pub stored1 : ℕ → List (ℕ × List ℕ) → ℕ × List ℕ
stored1 = stored_of number

-- Whether the words are those of a table by a key of one word.
abbrev pub is_table1 : ℕ → ℕ → List ℕ → Bool
is_table1 = is_table_of number

-- Whether a row of a key of one word can be put.
abbrev pub has_room1 : ℕ → ℕ → List ℕ → ℕ → Bool
has_room1 = has_room_of number

-- The key of four words of a row.
abbrev pub key4 : List ℕ → Cell
key4 r = (entry_of cell r).0

-- The words of a row behind a key of four words.
abbrev pub rest4 : List ℕ → List ℕ
rest4 r = (entry_of cell r).1

-- The first n rows of width w as a table by a key of four words.
abbrev pub table4 : ℕ → ℕ → List ℕ → List (Cell × List ℕ)
table4 = table_of cell

-- The words of a table by a key of four words.
abbrev pub image4 : ℕ → List (Cell × List ℕ) → List ℕ
image4 = image_of cell

-- What is stored of a table by a key of four words.
abbrev pub stored4 : ℕ → List (Cell × List ℕ) → ℕ × List ℕ
stored4 = stored_of cell

-- Whether the words are those of a table by a key of four words.
abbrev pub is_table4 : ℕ → ℕ → List ℕ → Bool
is_table4 = is_table_of cell

-- Whether a row of a key of four words can be put.
abbrev pub has_room4 : ℕ → ℕ → List ℕ → Cell → Bool
has_room4 = has_room_of cell
