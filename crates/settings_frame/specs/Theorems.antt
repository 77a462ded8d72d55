-- Settings with nothing wrong make a valid frame: no report in it is refused by 11. Their kind of touching is one that a fresh state
-- takes: it is not refused by 13.
use Rattle.std.specs.Prelude.{ℕ, ◌≡◌, refl, Bool, true, ◌&&◌, List, Ok, Some}
use Rattle.component.specs.Laws.Tests.{both}
use Rattle.metres.specs.Place.{frame_ok}
use Rattle.model.specs.Cells.{is_kind}
use Rattle.settings.specs.declared.kinds.Settings.{Settings}
use Rattle.settings.specs.Settings.{kind_ok, axis_ok, good_of}
use Rattle.settings.specs.Reading.{read_of}
use Rattle.settings.proofs.Laws.Settings.{good-parts}
use Rattle.settings.proofs.Theorems.Reading.{found-good}
use Rattle.settings_frame.specs.Frames.{frame_of}
use Rattle.settings_frame.specs.Laws.Whole.{origin-whole, edge-whole}

pub good-frame : (a : Settings) → good_of a ≡ Ok tt → frame_ok (frame_of a) ≡ true
unfolding frame_ok frame_of
good-frame a e =
    let p = good-parts a e in
    let o = both (axis_ok a.x) (axis_ok a.y && axis_ok a.z) p.2 in
    let q = both (axis_ok a.y) (axis_ok a.z) o.1 in
    λ i. edge-whole a.edge p.0 i && (origin-whole a.x o.0 i && (origin-whole a.y q.0 i && origin-whole a.z q.1 i))

-- So does what a reader found.
pub found-frame : (two : Bool) (s : List ℕ) (n g : ℕ) (a : Settings) → read_of two s n g ≡ Ok (Some a) → frame_ok (frame_of a) ≡ true
found-frame two s n g a e = good-frame a (found-good two s n g a e)

-- The settings' kinds are the model's.
pub kinds-same : (k : ℕ) → kind_ok k ≡ is_kind k
kinds-same k = refl

pub good-kind : (a : Settings) → good_of a ≡ Ok tt → is_kind a.kind ≡ true
good-kind a e = (good-parts a e).1

-- So is the kind of what a reader found.
pub found-kind : (two : Bool) (s : List ℕ) (n g : ℕ) (a : Settings) → read_of two s n g ≡ Ok (Some a) → is_kind a.kind ≡ true
found-kind two s n g a e = good-kind a (found-good two s n g a e)
