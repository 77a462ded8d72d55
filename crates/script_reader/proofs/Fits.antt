-- A record lies within the bytes it is read from.
use Rattle.std.proofs.Common.{◌≡◌, ℕ, ◌≤◌, Bool, true, false, cond, not, eqb, leb, List, length, get_or, sym, refl, subst, zero-le, arith, leb-true}
use borrow.Author.Tests.{eqb-false}
use Rattle.little_endian.specs.Bytes.{number_at}
use Rattle.script.specs.declared.kinds.Moved.{Moved}
use Rattle.script.specs.declared.kinds.Step.{Step}
use Rattle.script.specs.declared.kinds.Step.TheVariants.{Remove, Move, Run, Bad}
use Rattle.script.specs.Records.{length_of, moved_of, record_of, cut, ended, step_of, step_len}

-- A whole record fits.
whole : (a b : Bool) (k e : ℕ) (m : Moved) (n : ℕ) → 2 ≤ n → leb (cond a 10 (cond b 30 k)) n ≡ true → step_len (cond a (Remove e) (cond b (Move m) Run)) ≤ n
whole true b k e m n h l = leb-true 10 n l
whole false true k e m n h l = leb-true 30 n l
whole false false k e m n h l = h

-- Of the ways in which a step is found, only a whole record takes bytes.
found : (a b c d f last : Bool) (r : Step) (n : ℕ) → (a ≡ false → c ≡ false → f ≡ true → step_len r ≤ n) → step_len (cond a (ended last) (cond b Bad (cond c (cut last) (cond d Bad (cond f r (cut last)))))) ≤ n
found true b c d f true r n h = zero-le
found true b c d f false r n h = zero-le
found false true c d f last r n h = zero-le
found false false true d f true r n h = zero-le
found false false true d f false r n h = zero-le
found false false false true f last r n h = zero-le
found false false false false true last r n h = h refl refl refl
found false false false false false true r n h = zero-le
found false false false false false false r n h = zero-le

-- A step fits the bytes it is read from.
step_fits : (s : List ℕ) (last : Bool) → step_len (step_of s last) ≤ length s
unfolding step_of record_of
step_fits s last =
    let n = length s in
    let m = get_or s 1 0 in
    found (eqb n 0) (not (eqb (get_or s 0 0) 89)) (eqb n 1) (eqb (length_of m) 0) (leb (length_of m) n) last (record_of m s) n
    (λ none one l. whole (eqb m 82) (eqb m 77) (cond (eqb m 85) 2 0) (number_at s 2 8) (moved_of s) n (omega (arith, eqb-false n 0 none, eqb-false n 1 one)) l)

-- So does one that equals it.
pub taken-fits : (s : List ℕ) (last : Bool) {r : Step} → r ≡ step_of s last → step_len r ≤ length s
taken-fits s last e = subst (λ (q : Step). step_len q ≤ length s) (sym e) (step_fits s last)
