-- Each turn puts the lowest byte of what is left.
use Rattle.little_endian.specs.Laws.Putting.{all}
use Rattle.little_endian.specs.Laws.Numbers.{bytes-length, byte_next}
use Rattle.little_endian.specs.Bytes.{bytes}
use lib.Seq.{paste-suc}
use lib.ListN.{set, length-set}
use native.Mathlib.Omega.{arith}
use native.Mathlib.Numerals.{add-one}
use mathlib.Core.Path.{◌≡◌, refl, sym, ◌∙◌}
use Prim.Native.Nat.{◌+◌, ◌<◌}
use Rattle.little_endian.proofs.put_number.Goals as goal

pub loop-i-preserved : goal.loop-i-preserved
loop-i-preserved c =
    let a = c.args in
    let b = bytes a.k a.n in
    let h : c.loop-i.i < a.k = omega arith in
    let f = byte_next a.k a.n c.loop-i.i c.loop-i.left h c.loop-i.invariant.3 in
    let w = bytes-length a.k a.n in (
      omega arith,
      simp length-set c.loop-i.invariant.1,
      (λ j. set (c.loop-i.invariant.2 j) (a.at + c.loop-i.i) (sym f.0 j)) ∙ (rw add-one (paste-suc a.out.now a.at b c.loop-i.i 0 (omega arith) (omega arith))),
      f.1,
    )

pub returns : goal.returns
returns c =
    let a = c.args in
    let b = bytes a.k a.n in
    let e : c.loop-i.i ≡ a.k = omega arith in
    ((λ j. (a.at + a.k, (rw e at c.loop-i.invariant.2) j)) ∙ all a.out.now a.at b a.k (sym (bytes-length a.k a.n)), refl)
