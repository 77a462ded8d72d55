-- Each part is put behind what is there.
use mathlib.Core.List.{◌∷◌, ◌++◌}
use Rattle.settings.proofs.Signed.{asked}
use Rattle.settings.specs.Records.{bits_of, head_of, axes_of, record_of}
use Rattle.little_endian.specs.Laws.Putting.{then}
use Rattle.little_endian.specs.Bytes.{bytes, put}
use mathlib.Core.Path.{◌∙◌}
use native.Mathlib.Omega.{arith}
use borrow.Author.Rules.{rules}
use Rattle.settings.proofs.records.put_record.Goals as goal

pub returns : goal.returns
unfolding record_of bytes
returns c =
    let o = c.args.out.now in
    let a = c.args.s in
    let h = c.requires in
    let ez = asked bits_of a.z c.bits-z.ensures (search rules) in
    let ey = asked bits_of a.y c.bits-y.ensures (search rules) in
    let ex = asked bits_of a.x c.bits-x.ensures (search rules) in
    let p = then o c.args.at _ _ (omega arith) c.put_head-a.ensures.0 c.put_byte-b.ensures.0 in
    let q = then o c.args.at _ _ (omega arith) p c.put_byte-c.ensures.0 in
    let r = then o c.args.at _ _ (omega arith) q c.put_axes.ensures.0 in
    r ∙ (λ j. put o c.args.at (head_of c.args.grid ++ (a.edge ∷ a.kind ∷ axes_of (ex j) (ey j) (ez j))))
