-- Which settings may be: the edge, the touching kind, the origin.
use Rattle.std.specs.Prelude.{Ok, Err}
use Rattle.settings.specs.Answers.{Check}
use Rattle.std.specs.Prelude.{ℕ, Bool, cond, not, ◌&&◌, ◌||◌, eqb, ℤ, pos, negsuc}
use Rattle.std.specs.Int.Signed.{le_z}
use Rattle.settings.specs.declared.kinds.Settings.{Settings}
use Rattle.settings.specs.declared.kinds.Fault.TheVariants.{BadEdge, BadKind, BadOrigin}

-- An edge is 1, 2, 4, 8, 16, 32 or 64 metres.
abbrev pub edge_ok : ℕ → Bool
edge_ok e = eqb e 1 || (eqb e 2 || (eqb e 4 || (eqb e 8 || (eqb e 16 || (eqb e 32 || eqb e 64)))))

-- A touching kind is 6, 18 or 26.
abbrev pub kind_ok : ℕ → Bool
kind_ok k = eqb k 6 || (eqb k 18 || eqb k 26)

-- An origin coordinate is within 1,048,576 of zero.
abbrev pub axis_ok : ℤ → Bool
axis_ok n = le_z (negsuc 1048575) n && le_z n (pos 1048576)

-- Each origin coordinate is within 1,048,576 of zero.
abbrev pub origin_ok : Settings → Bool
origin_ok s = axis_ok s.x && (axis_ok s.y && axis_ok s.z)

-- What is wrong with settings: edge, kind, origin, in that order.
unfoldable pub good_of : Settings → Check
good_of s =
    cond (not (edge_ok s.edge)) (Err BadEdge)
    (cond (not (kind_ok s.kind)) (Err BadKind)
    (cond (not (origin_ok s)) (Err BadOrigin)
    (Ok tt)))
