-- What the calls for C give back and leave in the slices lent to them: document 01's number, and the words that tell what stands beside
-- it. A slice for these words that is too short for the call gives 1, and nothing is written.
use Rattle.std.specs.Prelude.{ℕ, Bool, cond, List, [], ◌∷◌, ◌++◌, ltb, ℤ, length, drop}
use Rattle.std.proofs.Math.Option.{Option, none, some}
use Rattle.component.specs.declared.CellCoord.{CellCoord}
use Rattle.component.specs.declared.CellId.{CellId}
use Rattle.component.specs.Stored.{biased, signed_word}
use Rattle.refusal.specs.Forms.{Refused}
use Rattle.told.specs.Told.{Beside, values, needed, place, Told}
use Rattle.lookups.specs.declared.Shown.{Shown}
use Rattle.floods.specs.declared.Visited.{Visited}

-- A coordinate as an answer has it: a word of two's complement.
abbrev pub axis_word : ℤ → ℕ
axis_word n = signed_word (biased n)

-- The words of three coordinates, and then others.
abbrev pub axis_words : CellCoord → List ℕ → List ℕ
axis_words p rest = axis_word p.x ∷ axis_word p.y ∷ axis_word p.z ∷ rest

-- 1 for yes and 0 for no.
abbrev pub bit : Bool → ℕ
bit b = cond b 1 0

-- A place, the same for every call: 0 as nothing is found, the thing that is meant, its axis.
abbrev pub place_words : ℕ → ℕ → List ℕ
place_words at axis = 0 ∷ at ∷ axis ∷ []

-- What stands beside a number: the words of the values; how many words are needed, in the form of a place; or the place.
abbrev pub beside_words : {B : Type 0} → (B → List ℕ) → Beside B → List ℕ
beside_words words (values v) = words v
beside_words words (needed k) = place_words k 0
beside_words words (place at axis) = place_words at axis

-- The number, and the words of what stands beside it.
abbrev pub numbered : {B : Type 0} → (B → List ℕ) → Told B → ℕ × List ℕ
numbered words t = (t.number, beside_words words t.beside)

-- The number of a refusal, and its place; all 0 where nothing is refused.
abbrev pub refusal_told : Refused → ℕ × List ℕ
refusal_told r = (r.number, place_words r.at r.axis)

-- What touching means: 1, as every state has a kind, and it.
abbrev pub kind_words : ℕ → List ℕ
kind_words kind = 1 ∷ kind ∷ []

-- Where an entity stands: found, grid, x, y, z.
abbrev pub where_words : Option CellId → List ℕ
where_words (some c) = 1 ∷ c.grid ∷ axis_words c.coord []
where_words none = 0 ∷ 0 ∷ 0 ∷ 0 ∷ 0 ∷ []

-- The id or the neighbour count of a cell: found, and it.
abbrev pub number_words : Option ℕ → List ℕ
number_words (some m) = 1 ∷ m ∷ []
number_words none = 0 ∷ 0 ∷ []

-- A group: found, grid, cell count, entity count, low x, y, z, high x, y, z.
abbrev pub group_words : Option Shown → List ℕ
group_words (some s) = 1 ∷ s.grid ∷ s.count ∷ s.entities ∷ axis_words s.low (axis_words s.high [])
group_words none = 0 ∷ 0 ∷ 0 ∷ 0 ∷ 0 ∷ 0 ∷ 0 ∷ 0 ∷ 0 ∷ 0 ∷ []

-- A list: found, how many it holds.
abbrev pub listing_words : Bool × ℕ → List ℕ
listing_words (found, k) = bit found ∷ k ∷ []

-- A flood: found, the number of its cells, whether that was all.
abbrev pub flooding_words : Bool × Visited → List ℕ
flooding_words (found, v) = bit found ∷ v.number ∷ bit v.was_all ∷ []

-- The words stand at the front of a slice, and the rest is as it was.
unfoldable pub fronted : List ℕ → List ℕ → List ℕ
fronted words told = words ++ drop (length words) told

-- The number of an answer, and the slice with what is told.
abbrev pub telling : ℕ × List ℕ → List ℕ → ℕ × List ℕ
telling a told = (a.0, fronted a.1 told)

-- The same; 1 and the slice as found where it has not the words that may be told.
unfoldable pub tells : ℕ → ℕ × List ℕ → List ℕ → ℕ × List ℕ
tells most a told = cond (ltb (length told) most) (1, told) (telling a told)

-- The same of an answer that also fills a slice, which then is as found too.
unfoldable pub tells_filled : {A : Type 0} → ℕ → (A → ℕ × List ℕ) → A × List ℕ → List ℕ → List ℕ → (ℕ × List ℕ) × List ℕ
tells_filled most words a told answer = cond (ltb (length told) most) ((1, told), answer) (telling (words a.0) told, a.1)
