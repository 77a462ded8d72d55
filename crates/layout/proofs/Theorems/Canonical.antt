-- Words are consistent exactly if they begin with the image of a consistent state, and that state is what they stand for.
use Rattle.std.specs.Prelude.{ℕ, ◌+◌, ◌-◌, ◌*◌, ◌≤◌, ◌≡◌, true, ◌&&◌, ◌↔◌, T, leb, length, take, drop, replicate}
use Rattle.std.proofs.Common.{arith, ◌∙◌, subst, take-append-drop, leb-true, le-leb}
use Rattle.std.proofs.Math.Path.{sym, ap}
use mathlib.Core.List.{List, ◌∷◌, ◌++◌, Memᴰ as Mem}
use Rattle.std.proofs.Math.Seq.{slice, length-slice}
use Rattle.component.specs.Laws.Tests.{both}
use Rattle.model.specs.Update.{State, most_entities, most_cells}
use Rattle.model.specs.Consistent.{consistent}
use Rattle.model.proofs.Laws.Tests.{T_true, true_of}
use Rattle.table.specs.Rows.{are_zero}
use Rattle.table.specs.Laws.Images.{zeros-are}
use Rattle.layout.specs.Widths.{header_len, spare, entity_width, cell_width, net_width, id_width, group_width}
use Rattle.layout.specs.Rows.{entities_image, cells_image, net_image, ids_image, groups_image, entities_in, cells_in, net_in, ids_in, groups_in}
use Rattle.layout.specs.State.{entities_len, cells_len, net_len, ids_len, groups_len, entities_from, cells_from, occupied_from, emptied_from, ids_from, groups_from, state_len, header, encode, decode, spare_words, entity_words, cell_words, occupied_words, emptied_words, id_words, group_words, entity_count, cell_count, occupied_count, emptied_count, id_count, group_count, next_id, kind_of}
use Rattle.layout.specs.Points.{tidy, long_enough, consistent_words}
use Rattle.layout.specs.Facts.{TableLaws, Fits, BeginsWith, Orderly}
use Rattle.layout.proofs.Laws.Images.{entities-laws, cells-laws, net-laws, ids-laws, groups-laws}
use Rattle.layout.proofs.Laws.Lengths.{header-end, entities-end, cells-end, occupied-end, emptied-end, ids-end, groups-end, entities-room, cells-room, net-room, ids-room, groups-room}
use Rattle.layout.proofs.Laws.Parts.{seven-parts, take_more, first-words}
use Rattle.layout.proofs.Laws.Fitting.{consistent-fits}
use Rattle.layout.proofs.Laws.Standing.{image-stands}
use Rattle.layout.proofs.Theorems.DecodeEncode.{decode-longer}
use Rattle.layout.proofs.Laws.Orderly.{orderly-out, orderly-in}

module _ {A : Type 0} {wide : ℕ} {image : ℕ → List A → List ℕ} {reads : ℕ → List ℕ → List A} {Good : A → Type 0} {Fair : ℕ → List ℕ → Type 0}
    (laws : TableLaws wide image reads Good Fair) where
  -- The image of a table of few rows is tidy.
  image-tidy : (most len : ℕ) (t : List A) → ((a : A) → Mem a t → Good a) → length t ≤ most → tidy wide most (length t) (image len t) ≡ true
  image-tidy most len t g h = λ i. le-leb (length t) most h i && laws.zeros len t g i

  -- Tidy words of a length are the image of what is read from them.
  tidy-image : (most len n : ℕ) (s : List ℕ) → length s ≡ len → (n ≤ most → wide * n ≤ len) → tidy wide most n s ≡ true → Fair n s → image len (reads n s) ≡ s
  tidy-image most len n s e room t f =
      let p = both (leb n most) (are_zero (drop (wide * n) s)) t in
      let h : wide * n ≤ length s = subst (λ m. wide * n ≤ m) (sym e) (room (leb-true n most p.0)) in
      ap (λ (m : ℕ). image m (reads n s)) (sym e) ∙ laws.written n s h p.1 f

-- A part that is there has the length between its ends.
part_length : (w : List ℕ) (f len t : ℕ) → f + len ≡ t → t ≤ length w → length (slice f t w) ≡ len
part_length w f len t e h = length-slice f t w h ∙ omega arith

module _ (w : List ℕ) (long : state_len ≤ length w) where
  groups-fit : groups_from ≤ length w
  groups-fit = omega (arith, long, groups-end)

  ids-fit : ids_from ≤ length w
  ids-fit = omega (arith, groups-fit, ids-end)

  emptied-fit : emptied_from ≤ length w
  emptied-fit = omega (arith, ids-fit, emptied-end)

  occupied-fit : occupied_from ≤ length w
  occupied-fit = omega (arith, emptied-fit, occupied-end)

  cells_fit : cells_from ≤ length w
  cells_fit = omega (arith, occupied-fit, cells-end)

  entities-fit : entities_from ≤ length w
  entities-fit = omega (arith, cells_fit, entities-end)

  -- The words of a state are its header and its tables.
  words-parts : take state_len w ≡ take entities_from w ++ (entity_words w ++ (cell_words w ++ (occupied_words w ++ (emptied_words w ++ (id_words w ++ group_words w)))))
  words-parts =
      take_more w groups_from state_len (omega (arith, groups-end))
      ∙ ap (λ (l : List ℕ). l ++ group_words w)
      (take_more w ids_from groups_from (omega (arith, ids-end))
      ∙ ap (λ (l : List ℕ). l ++ id_words w)
      (take_more w emptied_from ids_from (omega (arith, emptied-end))
      ∙ ap (λ (l : List ℕ). l ++ emptied_words w)
      (take_more w occupied_from emptied_from (omega (arith, occupied-end))
      ∙ ap (λ (l : List ℕ). l ++ occupied_words w)
      (take_more w cells_from occupied_from (omega (arith, cells-end))
      ∙ ap (λ (l : List ℕ). l ++ cell_words w) (take_more w entities_from cells_from (omega (arith, entities-end)))))))
      ∙ seven-parts (take entities_from w) (entity_words w) (cell_words w) (occupied_words w) (emptied_words w) (id_words w) (group_words w)

  module _ (o : Orderly w) where
    -- The spare words are zeros.
    spare-is : spare_words w ≡ replicate (header_len - spare) 0
    spare-is =
        zeros-are (spare_words w) (T_true o.spare-zero)
        ∙ ap (λ (n : ℕ). replicate n 0) (part_length w spare (header_len - spare) entities_from header-end entities-fit)

    -- The header is that of the state.
    header_is : take entities_from w ≡ header (decode w)
    unfolding decode
    header_is =
        let room : spare ≤ entities_from = omega (arith, header-end) in
        take_more w spare entities_from room
        ∙ ap (λ (l : List ℕ). l ++ spare_words w) (first-words w (omega (arith, entities-fit, room)))
        ∙ (λ i.
        sym (entities-laws.counted (entity_count w) (entity_words w)) i
        ∷ sym (cells-laws.counted (cell_count w) (cell_words w)) i
        ∷ sym (net-laws.counted (occupied_count w) (occupied_words w)) i
        ∷ sym (net-laws.counted (emptied_count w) (emptied_words w)) i
        ∷ sym (ids-laws.counted (id_count w) (id_words w)) i
        ∷ sym (groups-laws.counted (group_count w) (group_words w)) i
        ∷ next_id w ∷ kind_of w ∷ spare-is i)

    -- The words of a consistent state are its image.
    words-image : take state_len w ≡ encode (decode w)
    unfolding encode decode
    words-image =
        let entities : entities_image entities_len (entities_in (entity_count w) (entity_words w)) ≡ entity_words w =
        tidy-image entities-laws most_entities entities_len (entity_count w) (entity_words w)
        (part_length w entities_from entities_len cells_from entities-end cells_fit) (entities-room (entity_count w)) o.entity-rows tt in
        let cells : cells_image cells_len (cells_in (cell_count w) (cell_words w)) ≡ cell_words w =
        tidy-image cells-laws most_cells cells_len (cell_count w) (cell_words w)
        (part_length w cells_from cells_len occupied_from cells-end occupied-fit) (cells-room (cell_count w)) o.cell-rows tt in
        let occupied : net_image net_len (net_in (occupied_count w) (occupied_words w)) ≡ occupied_words w =
        tidy-image net-laws most_cells net_len (occupied_count w) (occupied_words w)
        (part_length w occupied_from net_len emptied_from occupied-end emptied-fit) (net-room (occupied_count w)) o.occupied-rows tt in
        let emptied : net_image net_len (net_in (emptied_count w) (emptied_words w)) ≡ emptied_words w =
        tidy-image net-laws most_cells net_len (emptied_count w) (emptied_words w)
        (part_length w emptied_from net_len ids_from emptied-end ids-fit) (net-room (emptied_count w)) o.emptied-rows tt in
        let ids : ids_image ids_len (ids_in (id_count w) (id_words w)) ≡ id_words w =
        tidy-image ids-laws most_cells ids_len (id_count w) (id_words w)
        (part_length w ids_from ids_len groups_from ids-end groups-fit) (ids-room (id_count w)) o.id-rows tt in
        let groups : groups_image groups_len (groups_in (group_count w) (group_words w)) ≡ group_words w =
        tidy-image groups-laws most_cells groups_len (group_count w) (group_words w)
        (part_length w groups_from groups_len state_len groups-end long) (groups-room (group_count w)) o.group-rows tt in
        words-parts
        ∙ (λ i. header_is i
        ++ (sym entities i ++ (sym cells i ++ (sym occupied i ++ (sym emptied i ++ (sym ids i ++ sym groups i))))))

-- Consistent words that are long enough stand for a consistent state and begin with its image.
pub consistent-image : (w : List ℕ) → consistent_words w ≡ true → long_enough w ≡ true → T (consistent (decode w)) × (take state_len w ≡ encode (decode w))
consistent-image w e l =
    let o = orderly-out w e in
    (T_true o.yard, words-image w (leb-true state_len (length w) l) o)

-- Words that begin with the image of a consistent state are consistent.
pub image-consistent : (s : State) (rest : List ℕ) → T (consistent s) → consistent_words (encode s ++ rest) ≡ true
image-consistent s rest t =
    let w : List ℕ = encode s ++ rest in
    let f : Fits s = consistent-fits s t in
    let st : BeginsWith s w = image-stands s f rest in
    orderly-in w (record {
      spare-zero = st.spare-zero;
      entity-rows = (λ i. tidy entity_width most_entities (st.entity-count i) (st.entity-words i)) ∙ image-tidy entities-laws most_entities entities_len s.occupancy.entities (λ a m. tt) f.entities;
      cell-few = ap (λ (n : ℕ). leb n most_cells) st.cell-count ∙ le-leb (length s.occupancy.masks) most_cells f.cells;
      cell-rows = (λ i. tidy cell_width most_cells (st.cell-count i) (st.cell-words i)) ∙ image-tidy cells-laws most_cells cells_len s.occupancy.masks (λ a m. tt) f.cells;
      id-rows = (λ i. tidy id_width most_cells (st.id-count i) (st.id-words i)) ∙ image-tidy ids-laws most_cells ids_len s.groups.ids (λ a m. tt) f.ids;
      group-rows = (λ i. tidy group_width most_cells (st.group-count i) (st.group-words i)) ∙ image-tidy groups-laws most_cells groups_len s.records (λ a m. tt) f.groups;
      occupied-rows = (λ i. tidy net_width most_cells (st.occupied-count i) (st.occupied-words i)) ∙ image-tidy net-laws most_cells net_len s.occupancy.newly_occupied (λ a m. tt) f.newly-occupied;
      emptied-rows = (λ i. tidy net_width most_cells (st.emptied-count i) (st.emptied-words i)) ∙ image-tidy net-laws most_cells net_len s.occupancy.newly_emptied (λ a m. tt) f.newly-emptied;
      yard = ap consistent (decode-longer s t rest) ∙ true_of (consistent s) t;
    })

-- Words that begin with an image are that image and what follows it.
begins : (w : List ℕ) (s : State) → take state_len w ≡ encode s → w ≡ encode s ++ drop state_len w
begins w s e = sym (take-append-drop state_len w) ∙ ap (λ (l : List ℕ). l ++ drop state_len w) e

-- The state whose image words begin with is the one that they stand for.
pub image-unique : (w : List ℕ) (s : State) → T (consistent s) → take state_len w ≡ encode s → s ≡ decode w
image-unique w s t e = sym (ap decode (begins w s e) ∙ decode-longer s t (drop state_len w))

-- Words that are long enough are consistent exactly if they begin with the image of a consistent state.
pub canonical : (w : List ℕ) → long_enough w ≡ true → (consistent_words w ≡ true) ↔ ((s : State) × T (consistent s) × (take state_len w ≡ encode s))
canonical w l = (
  λ e. let r = consistent-image w e l in (decode w, r.0, r.1),
  λ r. ap consistent_words (begins w r.0 r.2) ∙ image-consistent r.0 (drop state_len w) r.1,
)
