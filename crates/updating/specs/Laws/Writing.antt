-- The parts that are written are those of the state after an accepted batch.
use Rattle.std.specs.Prelude.{ℕ, ◌-◌, ◌≤◌, ◌≡◌, length, take}
use Rattle.std.proofs.Math.Path.{ap}
use Rattle.std.proofs.Common.{◌∙◌, subst}
use mathlib.Core.List.{List, ◌∷◌, ◌++◌}
use Rattle.std.proofs.Math.ListN.{drop, replicate}
use Rattle.model.specs.Cells.{touch_at}
use Rattle.model.specs.Occupancy.{Occupancy, Batch, play_batch}
use Rattle.model.specs.Groups.{Groups, regroup, records}
use Rattle.model.specs.Update.{State, touch_of, accepted_by, accepted}
use Rattle.layout.specs.Widths.{header_len, spare}
use Rattle.layout.specs.Rows.{entities_image, cells_image, net_image, ids_image, groups_image}
use Rattle.layout.proofs.Laws.Parts.{seven-parts}
use Rattle.layout.specs.State.{entities_len, cells_len, net_len, ids_len, groups_len, state_len, header, encode, decode, kind_of}
use Rattle.layout.specs.Facts.{Fits}
use Rattle.map.specs.declared.Counts.{Counts}
use Rattle.writing.specs.Parts.{front_words, Begun}
use Rattle.regrouping.specs.declared.Made.{Made}
use Rattle.regrouping.specs.Regrouping.{Regrouped}
use Rattle.updating.specs.Laws.Known.{entities-long, cells-long, opened-long, emptied-long, ids-long, groups-long, ok-fits}
use Rattle.updating.specs.Laws.Longer.{entities-extend, cells-extend, net-extend, ids-extend, groups-extend, front}
use Rattle.updating.specs.Steps.{Finishes, head_words}
use Rattle.updating.specs.Laws.Steps.{after-ok}

-- All parts are written: the words of the state after an accepted batch.
module _ {w ents cells crowd occ emp : List ℕ} {n : Counts} {b : Batch} (f : Finishes w ents cells crowd occ emp n b) where
  abbrev p : Occupancy
  p = play_batch (touch_of (decode w)) b (decode w).occupancy

  abbrev g : Groups
  g = regroup (touch_of (decode w)) p.newly_occupied p.newly_emptied (decode w).groups

  abbrev a : State
  a = accepted (decode w) b

  fits : Fits a
  unfolding accepted_by
  fits = ok-fits a f.known.kind-known (after-ok f)

  module _ (ids groups : List ℕ) (r : Made) (kind : ℕ) (is : kind ≡ kind_of w) (regrouped : Regrouped ids groups r (regroup (touch_at kind) p.newly_occupied p.newly_emptied (decode w).groups) p.entities)
      (he : entities_len ≤ length ents) (hc : cells_len ≤ length cells) (ho : net_len ≤ length occ) (hm : net_len ≤ length emp) (hi : ids_len ≤ length ids) (hg : groups_len ≤ length groups) where
    kind-same : kind ≡ (decode w).kind
    kind-same = is ∙ f.known.stands.kind-is

    x : Regrouped ids groups r g p.entities
    x = subst (λ (j : ℕ). Regrouped ids groups r (regroup (touch_at j) p.newly_occupied p.newly_emptied (decode w).groups) p.entities) kind-same regrouped

    ents-part : take entities_len ents ≡ entities_image entities_len a.occupancy.entities
    unfolding accepted_by
    ents-part = front entities-extend p.entities entities_len (entities-long a fits) ents f.ready.held.entities-is he

    cells-part : take cells_len cells ≡ cells_image cells_len a.occupancy.masks
    unfolding accepted_by
    cells-part = front cells-extend p.masks cells_len (cells-long a fits) cells f.ready.held.stored.masks hc

    opened-part : take net_len occ ≡ net_image net_len a.occupancy.newly_occupied
    unfolding accepted_by
    opened-part = front net-extend p.newly_occupied net_len (opened-long a fits) occ f.ready.held.stored.opened ho

    emptied-part : take net_len emp ≡ net_image net_len a.occupancy.newly_emptied
    unfolding accepted_by
    emptied-part = front net-extend p.newly_emptied net_len (emptied-long a fits) emp f.ready.held.stored.emptied hm

    ids-part : take ids_len ids ≡ ids_image ids_len a.groups.ids
    unfolding accepted_by
    ids-part = front ids-extend g.ids ids_len (ids-long a fits) ids x.ids-held.rows.image hi

    groups-part : take groups_len groups ≡ groups_image groups_len a.records
    unfolding accepted_by
    groups-part = front groups-extend (records p.entities g.ids) groups_len (groups-long a fits) groups x.groups-held.image hg

    -- The header of the counts is that of the state.
    head-part : head_words n r kind ≡ header a
    unfolding accepted_by
    head-part =
        λ i. f.ready.held.entities-count i ∷ f.ready.held.stored.cells_count i ∷ f.ready.held.stored.occupied-count i ∷ f.ready.held.stored.emptied-count i
        ∷ x.ids-held.rows.count i ∷ x.groups-held.count i ∷ x.ids-held.is-next i ∷ kind-same i ∷ replicate (header_len - spare) 0

    -- They begin with the image of the state.
    pub finish-written : (head z : List ℕ) → head ≡ head_words n r kind
        → Begun w z ((front_words head ents cells occ emp ++ take ids_len ids) ++ take groups_len groups) state_len → z ≡ encode a ++ drop state_len w
    unfolding front_words encode
    finish-written head z e s =
        s.is
        ∙ ap (λ (l : List ℕ). l ++ drop state_len w)
        ((λ i. (((((((e ∙ head-part) i) ++ ents-part i) ++ cells-part i) ++ opened-part i) ++ emptied-part i) ++ ids-part i) ++ groups-part i)
        ∙ seven-parts (header a) (entities_image entities_len a.occupancy.entities) (cells_image cells_len a.occupancy.masks) (net_image net_len a.occupancy.newly_occupied) (net_image net_len a.occupancy.newly_emptied) (ids_image ids_len a.groups.ids) (groups_image groups_len a.records))
