-- The words of a row are copied over those of another.
use Prim.Native.Nat.{ℕ, suc, ◌+◌, ◌-◌, ◌*◌, ◌≤◌, ◌<◌}
use native.Mathlib.Omega.{arith}
use mathlib.Core.Path.{◌≡◌, ap, ◌∙◌}
use mathlib.Core.List.{List, [], ◌∷◌, ◌++◌, append_assoc}
use lib.ListN.{length, get_or, take, drop}
use Rattle.std.proofs.lemmas.List.{drop_more}
use Rattle.layout.specs.Widths.{id_width}
use Rattle.table.specs.Moves.{over}
use Rattle.std.proofs.Math.Seq.{paste}
use Rattle.partition.proofs.copy_row.Goals as goal

-- One word of a row, and those behind it.
word : (w : List ℕ) (m s t : ℕ) → s < length w → s + 1 ≡ t → take (suc m) (drop s w) ≡ get_or w s 0 ∷ take m (drop t w)
word w m s t h e = ap (take (suc m)) (drop_more w s 0 h) ∙ ap (λ (k : ℕ). get_or w s 0 ∷ take m (drop k w)) e

-- The five words of a row.
words : (w : List ℕ) (s : ℕ) → s + 5 ≤ length w → take 5 (drop s w) ≡ get_or w s 0 ∷ get_or w (s + 1) 0 ∷ get_or w (s + 2) 0 ∷ get_or w (s + 3) 0 ∷ get_or w (s + 4) 0 ∷ []
words w s h =
    word w 4 s (s + 1) (omega arith) (omega arith)
    ∙ ap (λ (l : List ℕ). get_or w s 0 ∷ l)
    (word w 3 (s + 1) (s + 2) (omega arith) (omega arith)
    ∙ ap (λ (l : List ℕ). get_or w (s + 1) 0 ∷ l)
    (word w 2 (s + 2) (s + 3) (omega arith) (omega arith)
    ∙ ap (λ (l : List ℕ). get_or w (s + 2) 0 ∷ l)
    (word w 1 (s + 3) (s + 4) (omega arith) (omega arith)
    ∙ ap (λ (l : List ℕ). get_or w (s + 3) 0 ∷ l) (word w 0 (s + 4) (s + 5) (omega arith) (omega arith)))))

pub returns : goal.returns
unfolding over
returns c =
    let w = c.args.ids.now in
    let s = id_width * c.args.i in
    let t = id_width * c.args.j in
    let e : s + 5 - s ≡ 5 = omega arith in
    c.copy_within.ensures.after
    ∙ ap (paste w t (drop s w)) e
    ∙ append_assoc (take t w) (take 5 (drop s w)) (drop (t + 5) w)
    ∙ ap (λ (r : List ℕ). take t w ++ (r ++ drop (t + 5) w)) (words w s c.requires.1)
