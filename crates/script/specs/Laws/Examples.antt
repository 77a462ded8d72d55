-- The worked example of document 01, and numbers at the ends of their ranges.
use Rattle.std.specs.Prelude.{ℕ, zero, suc, ◌≡◌, refl, true, false, List, [], ◌∷◌, ◌++◌, drop}
use Rattle.little_endian.specs.Bytes.{little}
use Rattle.script.specs.declared.kinds.Step.{Step}
use Rattle.script.specs.declared.kinds.Step.TheVariants.{Remove, Move, Run, Bad, More, Done}
use Rattle.script.specs.Records.{widened, moved_of, record_of, step_of, step_len}
use Rattle.script.specs.Lines.{text, digits, decimal, signed, cell_text, batch_line, entered_line, left_line, cell_line, wrong_line, open_line, end_line}

-- The next k steps of bytes that end.
unfoldable pub steps : ℕ → List ℕ → List Step
steps zero s = []
steps (suc k) s = let f = step_of s true in f ∷ steps k (drop (step_len f) s)

-- Move 10 to grid 1 (0,0,0), move 11 to (1,0,0), update, remove 11, update.
abbrev pub script : List ℕ
script =
    text "YM"
    ++ (10 ∷ 0 ∷ 0 ∷ 0 ∷ 0 ∷ 0 ∷ 0 ∷ 0 ∷ 1 ∷ 0 ∷ 0 ∷ 0 ∷ 0 ∷ 0 ∷ 0 ∷ 0 ∷ 0 ∷ 0 ∷ 0 ∷ 0 ∷ 0 ∷ 0 ∷ 0 ∷ 0 ∷ 0 ∷ 0 ∷ 0 ∷ 0 ∷ [])
    ++ text "YM"
    ++ (11 ∷ 0 ∷ 0 ∷ 0 ∷ 0 ∷ 0 ∷ 0 ∷ 0 ∷ 1 ∷ 0 ∷ 0 ∷ 0 ∷ 0 ∷ 0 ∷ 0 ∷ 0 ∷ 1 ∷ 0 ∷ 0 ∷ 0 ∷ 0 ∷ 0 ∷ 0 ∷ 0 ∷ 0 ∷ 0 ∷ 0 ∷ 0 ∷ [])
    ++ text "YU"
    ++ text "YR"
    ++ (11 ∷ 0 ∷ 0 ∷ 0 ∷ 0 ∷ 0 ∷ 0 ∷ 0 ∷ [])
    ++ text "YU"

-- Its bytes are these steps.
pub script-steps : steps 6 script
    ≡ Move (record { entity = 10; grid = 1; x = 0; y = 0; z = 0 })
    ∷ Move (record { entity = 11; grid = 1; x = 1; y = 0; z = 0 })
    ∷ Run
    ∷ Remove 11
    ∷ Run
    ∷ Done
    ∷ []
unfolding steps step_of record_of moved_of little
script-steps = refl

-- Its answer is these lines.
pub script-lines : batch_line 1 0 ++ entered_line 1 0 0 0 ++ entered_line 1 1 0 0 ++ cell_line 1 0 0 0 0 ++ cell_line 1 1 0 0 0
    ++ batch_line 2 0 ++ left_line 1 1 0 0 ++ cell_line 1 0 0 0 0 ++ end_line
    ≡ text "batch 1 code 0\n+ 1 0 0 0\n+ 1 1 0 0\n= 1 0 0 0 0\n= 1 1 0 0 0\nbatch 2 code 0\n- 1 1 0 0\n= 1 0 0 0 0\nend\n"
unfolding batch_line entered_line left_line cell_line end_line cell_text signed decimal digits
script-lines = refl

-- A script that ends in its first record stops there, and one that goes on waits.
pub lone-last : step_of (text "Y") true ≡ Bad
unfolding step_of
lone-last = refl

pub lone-more : step_of (text "Y") false ≡ More
unfolding step_of
lone-more = refl

pub cut-last : step_of (text "YR1234567") true ≡ Bad
unfolding step_of
cut-last = refl

pub cut-more : step_of (text "YR1234567") false ≡ More
unfolding step_of
cut-more = refl

pub wrong-mark : step_of (text "YX") false ≡ Bad
unfolding step_of
wrong-mark = refl

pub wrong_first : step_of (text "R") false ≡ Bad
unfolding step_of
wrong_first = refl

pub none_yet : step_of [] false ≡ More
unfolding step_of
none_yet = refl

-- The coordinates -1 and -2147483648 of 32 bits.
pub widened-one : signed (widened 4294967295) ≡ text "-1"
unfolding signed decimal digits
widened-one = refl

pub widened-least : signed (widened 2147483648) ≡ text "-2147483648"
unfolding signed decimal digits
widened-least = refl

-- A line with numbers at the ends of their ranges.
pub longest : cell_line 18446744073709551615 18446744073709551615 9223372036854775808 9223372036854775807 0
    ≡ text "= 18446744073709551615 -1 -9223372036854775808 9223372036854775807 0\n"
unfolding cell_line cell_text signed decimal digits
longest = refl

pub wrong-record : wrong_line 92 ≡ text "bad record at 92\n"
unfolding wrong_line decimal digits
wrong-record = refl

pub open-batch : open_line ≡ text "open batch\n"
unfolding open_line
open-batch = refl
