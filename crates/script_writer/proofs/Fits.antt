-- A line lies within the buffer it is written to.
use Prim.Native.Nat.{ℕ, ◌≤◌}
use mathlib.Core.Path.{◌≡◌, ap}
use mathlib.Core.Bool.{Bool, true, false, cond}
use mathlib.Core.List.{List, ◌++◌}
use native.Mathlib.Omega.{arith}
use lib.ListN.{length, drop, length-append}
use lib.Dec.{ltb}
use Rattle.script.specs.Lines.{line_of}

-- A line fits where it was written.
pub line-fits : (line s : List ℕ) {r : ℕ} {t : List ℕ} → (r, t) ≡ line_of line s → length t ≡ length s → r ≤ length s
unfolding line_of
line-fits line s {r} {t} e h = go (ltb (length s) 128) e
  where
    go : (b : Bool) → ◌≡◌ {A = ℕ × List ℕ} (r, t) (cond b (0, s) (length line, line ++ drop (length line) s)) → r ≤ length s
    go true e = let p : r ≡ 0 = ap (λ (q : ℕ × List ℕ). q.0) e in omega arith
    go false e =
        let p : r ≡ length line = ap (λ (q : ℕ × List ℕ). q.0) e in
        let l : length t ≡ length (line ++ drop (length line) s) = ap (λ (q : ℕ × List ℕ). length q.1) e in
        omega (arith, length-append line (drop (length line) s))
