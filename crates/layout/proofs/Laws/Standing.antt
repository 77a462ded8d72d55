-- Where the tables of a state stand in its image.
use Rattle.std.specs.Prelude.{ℕ, ◌+◌, ◌-◌, ◌≡◌, refl, true, List, [], ◌∷◌, ◌++◌, length, replicate}
use Rattle.std.proofs.Common.{arith, sym, ap, ◌∙◌, subst, append_assoc, length-append, length-drop}
use Rattle.std.proofs.Math.Seq.{slice}
use Rattle.model.specs.Update.{State}
use Rattle.table.specs.Rows.{are_zero}
use Rattle.layout.specs.Widths.{header_len, spare}
use Rattle.layout.specs.Rows.{entities_image, cells_image, net_image, ids_image, groups_image}
use Rattle.layout.specs.State.{entities_len, cells_len, net_len, ids_len, groups_len, entities_from, cells_from, occupied_from, emptied_from, ids_from, groups_from, state_len, header, encode}
use Rattle.layout.proofs.Laws.Images.{entities-laws, cells-laws, net-laws, ids-laws, groups-laws}
use Rattle.layout.proofs.Laws.Lengths.{header-end, entities-end, cells-end, occupied-end, emptied-end, ids-end, groups-end, entities-room, cells-room, net-room, ids-room, groups-room}
use Rattle.layout.specs.Facts.{From, Fits, BeginsWith}
use Rattle.layout.proofs.Laws.Parts.{part-first, part-is, part-next}

-- Behind the header's words with a name stand zeros, up to the entities.
spare-behind : (a b c d e f g h : ℕ) (r : List ℕ) → are_zero (slice spare entities_from ((a ∷ b ∷ c ∷ d ∷ e ∷ f ∷ g ∷ h ∷ replicate (header_len - spare) 0) ++ r)) ≡ true
unfolding entities_from
spare-behind a b c d e f g h r = refl

-- Seven parts and a rest, one after the other.
regroup : (h a b c d e g r : List ℕ) → (h ++ (a ++ (b ++ (c ++ (d ++ (e ++ g)))))) ++ r ≡ h ++ (a ++ (b ++ (c ++ (d ++ (e ++ (g ++ r))))))
regroup h a b c d e g r = simp append_assoc

module _ (s : State) (fits : Fits s) where
  abbrev ents : List ℕ
  ents = entities_image entities_len s.occupancy.entities

  abbrev cels : List ℕ
  cels = cells_image cells_len s.occupancy.masks

  abbrev occs : List ℕ
  occs = net_image net_len s.occupancy.newly_occupied

  abbrev emps : List ℕ
  emps = net_image net_len s.occupancy.newly_emptied

  abbrev idss : List ℕ
  idss = ids_image ids_len s.groups.ids

  abbrev grps : List ℕ
  grps = groups_image groups_len s.records

  entities-long : length ents ≡ entities_len
  entities-long = entities-laws.long entities_len s.occupancy.entities (λ a m. tt) (entities-room (length s.occupancy.entities) fits.entities)

  cells-long : length cels ≡ cells_len
  cells-long = cells-laws.long cells_len s.occupancy.masks (λ a m. tt) (cells-room (length s.occupancy.masks) fits.cells)

  occupied-long : length occs ≡ net_len
  occupied-long = net-laws.long net_len s.occupancy.newly_occupied (λ a m. tt) (net-room (length s.occupancy.newly_occupied) fits.newly-occupied)

  emptied-long : length emps ≡ net_len
  emptied-long = net-laws.long net_len s.occupancy.newly_emptied (λ a m. tt) (net-room (length s.occupancy.newly_emptied) fits.newly-emptied)

  ids-long : length idss ≡ ids_len
  ids-long = ids-laws.long ids_len s.groups.ids (λ a m. tt) (ids-room (length s.groups.ids) fits.ids)

  groups-long : length grps ≡ groups_len
  groups-long = groups-laws.long groups_len s.records (λ a m. tt) (groups-room (length s.records) fits.groups)

  -- The image, its parts one after the other, and what follows it.
  image-parts : (r : List ℕ) → encode s ++ r ≡ header s ++ (ents ++ (cels ++ (occs ++ (emps ++ (idss ++ (grps ++ r))))))
  unfolding encode
  image-parts r = regroup (header s) ents cels occs emps idss grps r

  module _ (r : List ℕ) where
    abbrev whole : List ℕ
    whole = header s ++ (ents ++ (cels ++ (occs ++ (emps ++ (idss ++ (grps ++ r))))))

    from-entities : From whole entities_from (ents ++ (cels ++ (occs ++ (emps ++ (idss ++ (grps ++ r))))))
    from-entities = part-first (header s) (ents ++ (cels ++ (occs ++ (emps ++ (idss ++ (grps ++ r)))))) entities_from header-end

    at_cells : entities_from + length ents ≡ cells_from
    at_cells = ap (λ (n : ℕ). entities_from + n) entities-long ∙ entities-end

    from-cells : From whole cells_from (cels ++ (occs ++ (emps ++ (idss ++ (grps ++ r)))))
    from-cells = part-next cells_from ents (cels ++ (occs ++ (emps ++ (idss ++ (grps ++ r))))) from-entities at_cells

    at-occupied : cells_from + length cels ≡ occupied_from
    at-occupied = ap (λ (n : ℕ). cells_from + n) cells-long ∙ cells-end

    from-occupied : From whole occupied_from (occs ++ (emps ++ (idss ++ (grps ++ r))))
    from-occupied = part-next occupied_from cels (occs ++ (emps ++ (idss ++ (grps ++ r)))) from-cells at-occupied

    at-emptied : occupied_from + length occs ≡ emptied_from
    at-emptied = ap (λ (n : ℕ). occupied_from + n) occupied-long ∙ occupied-end

    from-emptied : From whole emptied_from (emps ++ (idss ++ (grps ++ r)))
    from-emptied = part-next emptied_from occs (emps ++ (idss ++ (grps ++ r))) from-occupied at-emptied

    at-ids : emptied_from + length emps ≡ ids_from
    at-ids = ap (λ (n : ℕ). emptied_from + n) emptied-long ∙ emptied-end

    from-ids : From whole ids_from (idss ++ (grps ++ r))
    from-ids = part-next ids_from emps (idss ++ (grps ++ r)) from-emptied at-ids

    at-groups : ids_from + length idss ≡ groups_from
    at-groups = ap (λ (n : ℕ). ids_from + n) ids-long ∙ ids-end

    from-groups : From whole groups_from (grps ++ r)
    from-groups = part-next groups_from idss (grps ++ r) from-ids at-groups

    at-end : groups_from + length grps ≡ state_len
    at-end = ap (λ (n : ℕ). groups_from + n) groups-long ∙ groups-end

    from_end : From whole state_len r
    from_end = part-next state_len grps r from-groups at-end

    whole-stands : BeginsWith s whole
    whole-stands =
        record {
          entity-count = refl;
          cell-count = refl;
          occupied-count = refl;
          emptied-count = refl;
          id-count = refl;
          group-count = refl;
          next-id = refl;
          kind-is = refl;
          spare-zero =
              spare-behind (length s.occupancy.entities) (length s.occupancy.masks) (length s.occupancy.newly_occupied) (length s.occupancy.newly_emptied)
              (length s.groups.ids) (length s.records) s.groups.next s.kind (ents ++ (cels ++ (occs ++ (emps ++ (idss ++ (grps ++ r))))));
          entity-words = part-is cells_from ents (cels ++ (occs ++ (emps ++ (idss ++ (grps ++ r))))) from-entities at_cells;
          cell-words = part-is occupied_from cels (occs ++ (emps ++ (idss ++ (grps ++ r)))) from-cells at-occupied;
          occupied-words = part-is emptied_from occs (emps ++ (idss ++ (grps ++ r))) from-occupied at-emptied;
          emptied-words = part-is ids_from emps (idss ++ (grps ++ r)) from-emptied at-ids;
          id-words = part-is groups_from idss (grps ++ r) from-ids at-groups;
          group-words = part-is state_len grps r from-groups at-end;
        }

    -- Words that begin with the image of a state.
    pub image-stands : BeginsWith s (encode s ++ r)
    image-stands = subst (BeginsWith s) (sym (image-parts r)) whole-stands

  -- The image of a state has as many words as the state.
  pub encode-length : length (encode s) ≡ state_len
  encode-length =
      let f = from_end [] in
      omega (arith, f.fits, ap length f.rest, length-drop state_len (whole []), ap length (image-parts []), length-append (encode s) [])
