-- The records of a script: a mark, `YR`, `YM` or `YU`, and numbers behind it, the lowest byte first.
use Rattle.std.specs.Prelude.{ℕ, ◌+◌, Bool, cond, not, List, length, get_or, ltb, leb, eqb}
use Rattle.little_endian.specs.Bytes.{number_at}
use Rattle.script.specs.declared.kinds.Moved.{Moved}
use Rattle.script.specs.declared.kinds.Step.{Step}
use Rattle.script.specs.declared.kinds.Step.TheVariants.{Remove, Move, Run, Bad, More, Done}

-- A coordinate of 32 bits in two's complement as a word of 64.
abbrev pub widened : ℕ → ℕ
widened n = cond (ltb n 2147483648) n (n + 18446744069414584320)

-- The length of a record by the second byte of its mark, `R`, `M` or `U`; 0 for any other byte.
abbrev pub length_of : ℕ → ℕ
length_of m = cond (eqb m 82) 10 (cond (eqb m 77) 30 (cond (eqb m 85) 2 0))

-- What a record of a move says.
unfoldable pub moved_of : List ℕ → Moved
moved_of s =
    record {
      entity = number_at s 2 8;
      grid = number_at s 10 8;
      x = widened (number_at s 18 4);
      y = widened (number_at s 22 4);
      z = widened (number_at s 26 4);
    }

-- What a whole record with the mark's second byte m says.
unfoldable pub record_of : ℕ → List ℕ → Step
record_of m s = cond (eqb m 82) (Remove (number_at s 2 8)) (cond (eqb m 77) (Move (moved_of s)) Run)

-- A record that is cut short is bad where no more bytes come.
abbrev pub cut : Bool → Step
cut last = cond last Bad More

-- Where no bytes are left and no more come, the script is done.
abbrev pub ended : Bool → Step
ended last = cond last Done More

-- What stands at the start of the bytes s: nothing, a first byte that is no `Y`, a lone `Y`, a wrong mark, a whole record, or one cut short.
unfoldable pub step_of : List ℕ → Bool → Step
step_of s last =
    cond (eqb (length s) 0) (ended last)
    (cond (not (eqb (get_or s 0 0) 89)) Bad
    (cond (eqb (length s) 1) (cut last)
    (cond (eqb (length_of (get_or s 1 0)) 0) Bad
    (cond (leb (length_of (get_or s 1 0)) (length s)) (record_of (get_or s 1 0) s)
    (cut last)))))

-- How many bytes the record of a step takes.
abbrev pub step_len : Step → ℕ
step_len (Remove e) = 10
step_len (Move m) = 30
step_len Run = 2
step_len Bad = 0
step_len More = 0
step_len Done = 0
