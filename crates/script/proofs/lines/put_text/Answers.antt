-- The bytes are put between what is in front of them and what is behind.
use Rattle.std.proofs.Common.{◌+◌, ◌-◌, length, refl, ◌∙◌, arith}
use Rattle.std.proofs.lemmas.Slice.{put_mid-paste}
use Rattle.little_endian.specs.Laws.Putting.{all}
use Rattle.script.proofs.lines.put_text.Goals as goal

pub returns : goal.returns
returns c =
    let s = c.args.out.now in
    let b = c.args.bytes.now in
    let at = c.args.at in
    let p = put_mid-paste at (at + length b - at) s c.copy_from_slice.new.self b (length b) c.copy_from_slice.ensures.after (omega arith) refl in
    ((λ j. (at + length b, p j)) ∙ all s at b (length b) refl, refl)
