-- Bytes put at the start are a line.
use Prim.Native.Nat.{ℕ, ◌≤◌, ◌<◌}
use mathlib.Core.Path.{◌≡◌, ap, ◌∙◌}
use mathlib.Core.List.{List, ◌++◌}
use native.Mathlib.Nat.{zero-add}
use borrow.Author.Tests.{lt-ltb, le-ltb}
use lib.ListN.{length, drop}
use Rattle.little_endian.specs.Bytes.{put}
use Rattle.script.specs.Lines.{line_of}

-- What is put at the start is a line.
pub start : (s line : List ℕ) {p : ℕ × List ℕ} → 128 ≤ length s → p ≡ put s 0 line → p ≡ line_of line s
unfolding put line_of
start s line h e = e ∙ (simp (le-ltb (length s) 128 h) (ap (λ (k : ℕ). (k, line ++ drop k s)) (zero-add (length line))))

-- A slice that is too short is left as it is.
pub short : (s line : List ℕ) → length s < 128 → (0, s) ≡ line_of line s
unfolding line_of
short s line h = simp (lt-ltb (length s) 128 h)
