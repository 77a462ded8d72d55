-- The words of a state that is long enough, cut into its tables.
use Rattle.std.specs.Prelude.{ℕ, ◌+◌, ◌≤◌, ◌≡◌, true, List, length, take, drop}
use Rattle.std.proofs.Common.{arith, sym, ap, ◌∙◌, length-take-le, take-add, drop_at, leb-true}
use Rattle.std.proofs.Math.Seq.{slice, length-slice}
use Rattle.layout.specs.Widths.{header_len}
use Rattle.layout.specs.State.{entities_len, cells_len, net_len, ids_len, groups_len, entities_from, cells_from, occupied_from, emptied_from, ids_from, groups_from, state_len, entity_words, cell_words, occupied_words, emptied_words, id_words, group_words}
use Rattle.layout.specs.Points.{long_enough}
use Rattle.layout.proofs.Laws.Lengths.{header-end, entities-end, cells-end, occupied-end, emptied-end, ids-end, groups-end}

-- A part by its length is the part by its end.
pub part_of : (w : List ℕ) (f n t : ℕ) → f + n ≡ t → f ≤ length w → take n (drop f w) ≡ slice f t w
part_of w f n t e h =
    sym (drop_at (take f w) (take n (drop f w)) f (length-take-le f w h))
    ∙ ap (drop f) (sym (take-add f n w))
    ∙ ap (λ (m : ℕ). slice f m w) e

module _ (w : List ℕ) (long : long_enough w ≡ true) where
  -- Words that are long enough hold a whole state.
  pub whole : state_len ≤ length w
  whole = leb-true state_len (length w) long

  -- The header is within them.
  pub header-fits : header_len ≤ length w
  header-fits = omega (arith, whole, header-end, entities-end, cells-end, occupied-end, emptied-end, ids-end, groups-end)

  -- Each table has the length between its ends.
  pub entities-long : length (entity_words w) ≡ entities_len
  entities-long =
      let e = length-slice entities_from cells_from w (omega (arith, whole, cells-end, occupied-end, emptied-end, ids-end, groups-end)) in
      e ∙ omega (arith, entities-end)

  pub cells-long : length (cell_words w) ≡ cells_len
  cells-long =
      let e = length-slice cells_from occupied_from w (omega (arith, whole, occupied-end, emptied-end, ids-end, groups-end)) in
      e ∙ omega (arith, cells-end)

  pub occupied-long : length (occupied_words w) ≡ net_len
  occupied-long =
      let e = length-slice occupied_from emptied_from w (omega (arith, whole, emptied-end, ids-end, groups-end)) in
      e ∙ omega (arith, occupied-end)

  pub emptied-long : length (emptied_words w) ≡ net_len
  emptied-long =
      let e = length-slice emptied_from ids_from w (omega (arith, whole, ids-end, groups-end)) in
      e ∙ omega (arith, emptied-end)

  pub ids-long : length (id_words w) ≡ ids_len
  ids-long =
      let e = length-slice ids_from groups_from w (omega (arith, whole, groups-end)) in
      e ∙ omega (arith, ids-end)

  pub groups-long : length (group_words w) ≡ groups_len
  groups-long =
      let e = length-slice groups_from state_len w whole in
      e ∙ omega (arith, groups-end)
