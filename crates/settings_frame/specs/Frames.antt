-- The frame that settings make.
use Rattle.std.specs.Prelude.{pos}
use Rattle.std.specs.Float.{binary64}
use Rattle.std.specs.Float.Ieee.{of_int}
use Rattle.metres.specs.declared.Frame.{Frame}
use Rattle.settings.specs.declared.kinds.Settings.{Settings}

-- The edge and the origin, as floats of whole metres.
unfoldable pub frame_of : Settings → Frame
frame_of s = record { x = of_int binary64 s.x; y = of_int binary64 s.y; z = of_int binary64 s.z; edge = of_int binary64 (pos s.edge) }
