-- The lines that the script program writes, as bytes.
use Rattle.std.specs.Prelude.{ℕ, zero, suc, ◌+◌, ◌-◌, ◌*◌, ◌/◌, ◌%◌, cond, List, [], ◌∷◌, ◌++◌, length, drop, ltb}
use Prim.Native.String.{String}
use Prim.Native.Char.{code}

-- The bytes of a text.
abbrev pub text : String → List ℕ
text String.[] = []
text (String.◌∷◌ c s) = code c ∷ text s

-- The shortest decimal digits of n, at most k of them.
unfoldable pub digits : ℕ → ℕ → List ℕ
digits zero n = []
digits (suc k) n = let front = digits k (n / 10) in cond (ltb n 10) [] front ++ ((48 + n % 10) ∷ [])

-- The shortest decimal digits of n.
unfoldable pub decimal : ℕ → List ℕ
decimal n = digits (suc n) n

-- The number that decimal digits spell behind a number a.
unfoldable pub spelled : ℕ → List ℕ → ℕ
spelled a [] = a
spelled a (d ∷ ds) = spelled (10 * a + (d - 48)) ds

-- The number that a word of 64 bits stands for by two's complement, with `-` before a negative one.
unfoldable pub signed : ℕ → List ℕ
signed w = cond (ltb w 9223372036854775808) (decimal w) (text "-" ++ decimal (18446744073709551616 - w))

-- A mark, a grid and three coordinates, with a space before each number.
unfoldable pub cell_text : List ℕ → ℕ → ℕ → ℕ → ℕ → List ℕ
cell_text mark g x y z = mark ++ (text " " ++ decimal g) ++ (text " " ++ signed x) ++ (text " " ++ signed y) ++ (text " " ++ signed z)

-- `batch N code C`
unfoldable pub batch_line : ℕ → ℕ → List ℕ
batch_line n c = text "batch " ++ decimal n ++ text " code " ++ decimal c ++ text "\n"

-- `+ g x y z`
unfoldable pub entered_line : ℕ → ℕ → ℕ → ℕ → List ℕ
entered_line g x y z = cell_text (text "+") g x y z ++ text "\n"

-- `- g x y z`
unfoldable pub left_line : ℕ → ℕ → ℕ → ℕ → List ℕ
left_line g x y z = cell_text (text "-") g x y z ++ text "\n"

-- `= g x y z id`
unfoldable pub cell_line : ℕ → ℕ → ℕ → ℕ → ℕ → List ℕ
cell_line g x y z i = cell_text (text "=") g x y z ++ (text " " ++ decimal i) ++ text "\n"

-- `bad record at N`
unfoldable pub wrong_line : ℕ → List ℕ
wrong_line n = text "bad record at " ++ decimal n ++ text "\n"

-- `open batch`
unfoldable pub open_line : List ℕ
open_line = text "open batch\n"

-- `end`
unfoldable pub end_line : List ℕ
end_line = text "end\n"

-- A line is written at the start of s and the rest is as it was, with the line's length; s below 128 bytes is left as it is, with 0.
unfoldable pub line_of : List ℕ → List ℕ → ℕ × List ℕ
line_of line s = cond (ltb (length s) 128) (0, s) (length line, line ++ drop (length line) s)
