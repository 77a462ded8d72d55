-- A consistent state is read from its image.
use Rattle.std.specs.Prelude.{ℕ, ◌≡◌, List, [], ◌++◌, T, length}
use Rattle.std.proofs.Common.{sym, ap, ◌∙◌, append-nil}
use Rattle.model.specs.Update.{State}
use Rattle.model.specs.Consistent.{consistent}
use Rattle.layout.specs.Rows.{entities_in, cells_in, net_in, ids_in, groups_in}
use Rattle.layout.specs.State.{entities_len, cells_len, net_len, ids_len, groups_len, state_len, encode, decode, entity_words, cell_words, occupied_words, emptied_words, id_words, group_words, entity_count, cell_count, occupied_count, emptied_count, id_count, group_count}
use Rattle.layout.proofs.Laws.Images.{entities-laws, cells-laws, net-laws, ids-laws, groups-laws}
use Rattle.layout.specs.Facts.{Fits, BeginsWith}
use Rattle.layout.proofs.Laws.Fitting.{consistent-fits}
use Rattle.layout.proofs.Laws.Standing.{image-stands, encode-length}

-- Words that begin with the image of a state that fits stand for that state.
pub decode-stands : (s : State) (w : List ℕ) → Fits s → BeginsWith s w → decode w ≡ s
unfolding decode
decode-stands s w fits st =
    let entities : entities_in (entity_count w) (entity_words w) ≡ s.occupancy.entities =
    (λ i. entities_in (st.entity-count i) (st.entity-words i)) ∙ entities-laws.read entities_len s.occupancy.entities (λ a m. tt) in
    let masks : cells_in (cell_count w) (cell_words w) ≡ s.occupancy.masks =
    (λ i. cells_in (st.cell-count i) (st.cell-words i)) ∙ cells-laws.read cells_len s.occupancy.masks (λ a m. tt) in
    let occupied : net_in (occupied_count w) (occupied_words w) ≡ s.occupancy.newly_occupied =
    (λ i. net_in (st.occupied-count i) (st.occupied-words i)) ∙ net-laws.read net_len s.occupancy.newly_occupied (λ a m. tt) in
    let emptied : net_in (emptied_count w) (emptied_words w) ≡ s.occupancy.newly_emptied =
    (λ i. net_in (st.emptied-count i) (st.emptied-words i)) ∙ net-laws.read net_len s.occupancy.newly_emptied (λ a m. tt) in
    let ids : ids_in (id_count w) (id_words w) ≡ s.groups.ids =
    (λ i. ids_in (st.id-count i) (st.id-words i)) ∙ ids-laws.read ids_len s.groups.ids (λ a m. tt) in
    let groups : groups_in (group_count w) (group_words w) ≡ s.records =
    (λ i. groups_in (st.group-count i) (st.group-words i)) ∙ groups-laws.read groups_len s.records (λ a m. tt) in
    λ i. record {
      kind = st.kind-is i;
      occupancy = record { entities = entities i; masks = masks i; newly_occupied = occupied i; newly_emptied = emptied i };
      groups = record { ids = ids i; next = st.next-id i };
      records = groups i;
    }

module _ (s : State) (t : T (consistent s)) where
  -- The words that begin with the image of a consistent state stand for that state.
  pub decode-longer : (rest : List ℕ) → decode (encode s ++ rest) ≡ s
  decode-longer rest = decode-stands s (encode s ++ rest) (consistent-fits s t) (image-stands s (consistent-fits s t) rest)

  -- So does the image itself.
  pub decode-encode : decode (encode s) ≡ s
  decode-encode = ap decode (sym (append-nil (encode s))) ∙ decode-longer []

  -- It has the length of a state.
  pub consistent-length : length (encode s) ≡ state_len
  consistent-length = encode-length s (consistent-fits s t)
