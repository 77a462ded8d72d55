-- Each coordinate goes by its bits, and reads back as the number.
use Rattle.std.proofs.Common.{rules, to_z-of_z, w32, ap, ◌∙◌}
use Rattle.std.specs.Float.{binary64}
use Rattle.std.specs.Float.Ieee.{of_int}
use Rattle.settings_frame.specs.Frames.{frame_of}
use Rattle.settings_frame.proofs.frame_of.Goals as goal

pub returns : goal.returns
unfolding frame_of
returns c =
    let s = c.args.s in
    let x = c.from.ensures ∙ ap (of_int binary64) (to_z-of_z {w = w32} {z = s.x} (search rules)) in
    let y = c.from-2.ensures ∙ ap (of_int binary64) (to_z-of_z {w = w32} {z = s.y} (search rules)) in
    let z = c.from-3.ensures ∙ ap (of_int binary64) (to_z-of_z {w = w32} {z = s.z} (search rules)) in
    λ i. record { x = x i; y = y i; z = z i; edge = c.from-4.ensures i }
