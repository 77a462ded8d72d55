-- Worked examples: records of grid 3, and what each reader says.
use Rattle.std.specs.Prelude.{Ok, Err, Some}
use Rattle.settings.specs.declared.kinds.ReadError.TheVariants as reading_error
use Rattle.settings.specs.declared.kinds.WriteError.TheVariants as writing_error
use Rattle.std.specs.Prelude.{ℕ, ◌≡◌, refl, true, false, List, [], ◌∷◌, ◌++◌, pos, negsuc}
use Rattle.little_endian.specs.Bytes.{little, bytes}
use Rattle.settings.specs.declared.kinds.Settings.{Settings}
use Rattle.settings.specs.declared.kinds.Fault.TheVariants.{NewerRecord, BadMark, CutEnd, BadEdge, BadKind, BadOrigin}
use Rattle.settings.specs.Settings.{good_of}
use Rattle.settings.specs.Records.{bits_of, size_of, grid_of, axis_of, settings_of, record_of, check_of}
use Rattle.settings.specs.Parsing.{parse}
use Rattle.settings.specs.Reading.{last_of, read_of}
use Rattle.settings.specs.Writing.{write_of}
use Rattle.settings.specs.Keeping.{has, keep_last, joined, keep_of}

-- A record of version 1 of grid 3.
abbrev one : ℕ → ℕ → List ℕ
one edge kind = 89 ∷ 49 ∷ 3 ∷ 0 ∷ 0 ∷ 0 ∷ 0 ∷ 0 ∷ 0 ∷ 0 ∷ edge ∷ kind ∷ []

-- A record of version 2 of grid 3, with an origin at -5, 0, 1.
abbrev two : ℕ → ℕ → List ℕ
two edge kind = 89 ∷ 50 ∷ 3 ∷ 0 ∷ 0 ∷ 0 ∷ 0 ∷ 0 ∷ 0 ∷ 0 ∷ edge ∷ kind ∷ 251 ∷ 255 ∷ 255 ∷ 255 ∷ 0 ∷ 0 ∷ 0 ∷ 0 ∷ 1 ∷ 0 ∷ 0 ∷ 0 ∷ []

-- The same with an origin at 0, 0, 1048577.
abbrev far : ℕ → ℕ → List ℕ
far edge kind = 89 ∷ 50 ∷ 3 ∷ 0 ∷ 0 ∷ 0 ∷ 0 ∷ 0 ∷ 0 ∷ 0 ∷ edge ∷ kind ∷ 0 ∷ 0 ∷ 0 ∷ 0 ∷ 0 ∷ 0 ∷ 0 ∷ 0 ∷ 1 ∷ 0 ∷ 16 ∷ 0 ∷ []

-- What the first of these says.
abbrev at_zero : ℕ → ℕ → Settings
at_zero edge kind = record { edge = edge; kind = kind; x = pos 0; y = pos 0; z = pos 0 }

-- What the second says.
abbrev moved : ℕ → ℕ → Settings
moved edge kind = record { edge = edge; kind = kind; x = negsuc 4; y = pos 0; z = pos 1 }

pub old-in-old : read_of false (one 4 18) 12 3 ≡ Ok (Some (at_zero 4 18))
unfolding read_of parse check_of good_of settings_of axis_of grid_of size_of last_of little
old-in-old = refl

pub old-in-new : read_of true (one 4 18) 12 3 ≡ Ok (Some (at_zero 4 18))
unfolding read_of parse check_of good_of settings_of axis_of grid_of size_of last_of little
old-in-new = refl

-- The last record of a grid holds.
pub last-holds : read_of true (one 4 18 ++ two 8 26) 36 3 ≡ Ok (Some (moved 8 26))
unfolding read_of parse check_of good_of settings_of axis_of grid_of size_of last_of little
last-holds = refl

-- A reader of version 1 says where the first newer record is, also for a grid that it could show.
pub newer-in-old : read_of false (one 4 18 ++ two 8 26) 36 3 ≡ Err (reading_error.Faulty NewerRecord 12)
unfolding read_of parse check_of good_of settings_of axis_of grid_of size_of last_of little
newer-in-old = refl

-- A cut record of version 2 is a newer record to it, and a cut end to a reader of version 2.
pub cut-newer-in-old : read_of false (one 4 18 ++ two 8 26) 35 3 ≡ Err (reading_error.Faulty NewerRecord 12)
unfolding read_of parse check_of good_of settings_of axis_of grid_of size_of last_of little
cut-newer-in-old = refl

pub cut-in-new : read_of true (one 4 18 ++ two 8 26) 35 3 ≡ Err (reading_error.Faulty CutEnd 12)
unfolding read_of parse check_of good_of settings_of axis_of grid_of size_of last_of little
cut-in-new = refl

-- A lone last byte is a cut end, whatever it is.
pub lone : read_of true (one 4 18 ++ (7 ∷ [])) 13 3 ≡ Err (reading_error.Faulty CutEnd 12)
unfolding read_of parse check_of good_of settings_of axis_of grid_of size_of last_of little
lone = refl

-- Edge before kind.
pub edge-first : read_of true (one 3 7) 12 3 ≡ Err (reading_error.Faulty BadEdge 0)
unfolding read_of parse check_of good_of settings_of axis_of grid_of size_of last_of little
edge-first = refl

-- Settings are written as these bytes.
pub written : record_of 3 (moved 8 26) ≡ two 8 26
unfolding record_of bits_of bytes
written = refl

pub kept : keep_of (one 4 18 ++ (two 8 26 ++ (9 ∷ 9 ∷ []))) 36 (7 ∷ []) ≡ (Ok 24, two 8 26 ++ (0 ∷ 0 ∷ 0 ∷ 0 ∷ 0 ∷ 0 ∷ 0 ∷ 0 ∷ 0 ∷ 0 ∷ 0 ∷ 0 ∷ 9 ∷ 9 ∷ []), 0 ∷ [])
unfolding keep_of parse check_of good_of settings_of axis_of grid_of size_of keep_last has joined little
kept = refl

-- Kind behind edge, origin behind kind.
pub kind-next : read_of true (one 4 7) 12 3 ≡ Err (reading_error.Faulty BadKind 0)
unfolding read_of parse check_of good_of settings_of axis_of grid_of size_of last_of little
kind-next = refl

pub origin-last : read_of true (far 4 26) 24 3 ≡ Err (reading_error.Faulty BadOrigin 0)
unfolding read_of parse check_of good_of settings_of axis_of grid_of size_of last_of little
origin-last = refl

pub kind-before-origin : read_of true (far 4 7) 24 3 ≡ Err (reading_error.Faulty BadKind 0)
unfolding read_of parse check_of good_of settings_of axis_of grid_of size_of last_of little
kind-before-origin = refl

-- The first faulty record decides.
pub first-of-two : read_of true (one 4 7 ++ one 3 6) 24 3 ≡ Err (reading_error.Faulty BadKind 0)
unfolding read_of parse check_of good_of settings_of axis_of grid_of size_of last_of little
first-of-two = refl

pub wrong-mark : read_of true (one 4 18 ++ (89 ∷ 51 ∷ [])) 14 3 ≡ Err (reading_error.Faulty BadMark 12)
unfolding read_of parse check_of good_of settings_of axis_of grid_of size_of last_of little
wrong-mark = refl

-- A length above the slice's.
pub overlong : read_of true (one 4 18) 13 3 ≡ Err reading_error.Overlong
unfolding read_of parse check_of good_of settings_of axis_of grid_of size_of last_of little
overlong = refl

-- No room, with the length needed; what is there stays.
pub no_room : write_of (one 4 18) 12 3 (moved 8 26) ≡ (Err (writing_error.NoRoom 36), one 4 18)
unfolding write_of good_of
no_room = refl

-- A record of version 1 that is kept stays one.
pub old-kept : keep_of (two 8 26 ++ one 4 18) 36 [] ≡ (Ok 12, one 4 18 ++ (0 ∷ 0 ∷ 0 ∷ 0 ∷ 0 ∷ 0 ∷ 0 ∷ 0 ∷ 0 ∷ 0 ∷ 0 ∷ 0 ∷ 0 ∷ 0 ∷ 0 ∷ 0 ∷ 0 ∷ 0 ∷ 0 ∷ 0 ∷ 0 ∷ 0 ∷ 0 ∷ 0 ∷ []), [])
unfolding keep_of parse check_of good_of settings_of axis_of grid_of size_of keep_last has joined little
old-kept = refl
