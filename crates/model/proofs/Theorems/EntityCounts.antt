-- Each group counts the entities in its cells, and together the groups count every entity once.
use Rattle.std.specs.Prelude.{ℕ, ◌+◌, ◌≡◌, refl, Bool, T, eqb, ltb, length}
use Rattle.std.proofs.Common.{arith, sym, ◌∙◌, ap₂, subst, eqb→eq}
use Rattle.std.proofs.Math.Path.{ap}
use mathlib.Core.List.{List, [], ◌∷◌, Memᴰ as Mem}
use Rattle.std.proofs.Math.Option.{some}
use Rattle.model.specs.Facts.{Asc, At, Ok}
use Rattle.model.specs.Lists.{has, gather, each, ascending, run, keys, values, get}
use Rattle.model.specs.Cells.{Cell, same, touch26}
use Rattle.model.specs.Occupancy.{Event, Batch, remove, move_to, events, start_batch}
use Rattle.model.specs.Groups.{Ids, Group, members, standing_at, group_of, record_of, records}
use Rattle.model.specs.Update.{State, accepted_by, update_by}
use Rattle.model.specs.Questions.{id_of, group_by}
use Rattle.model.specs.Consistent.{consistent_by}
use Rattle.model.specs.Runs.{ReachedBy, start, next}
use Rattle.model.specs.Counted.{total, entities_counted, placed, placed_by}
use Rattle.model.proofs.Laws.Tests.{same_test, eqb_of}
use Rattle.model.proofs.Laws.Orders.{numbers, cells}
use Rattle.model.proofs.Laws.Members.{keep-none, each_append, has_of, of-has}
use Rattle.model.proofs.Laws.Sorted.{asc-once, ascending-asc, ascending-in}
use Rattle.model.proofs.Laws.Tables.{asc-mem-at, at_mem, at_once, key-at, keys-put, keys-drop, keys_length, asc-fair}
use Rattle.model.proofs.Laws.Values.{value_in}
use Rattle.model.proofs.Laws.Touching.{Touching, touching-26}
use Rattle.model.proofs.Laws.Fine.{members-in, members-out}
use Rattle.model.proofs.Laws.Records.{shown_of, members-cons, records-get, records-keys}
use Rattle.model.proofs.Laws.Occupied.{occupied-in}
use Rattle.model.proofs.Laws.Accepted.{update-accepted}
use Rattle.model.proofs.Laws.Consistency.{ok_out, ids-asc}
use Rattle.model.proofs.Laws.Ends.{stands, plays-stands}
use Rattle.model.proofs.Laws.Totals.{total-append, parted}
use Rattle.model.proofs.Theorems.StaysConsistent.{consistent-reached}

module _ (entities : List (ℕ × Cell)) where
  abbrev number_of : ℕ × Group → ℕ
  number_of p = p.1.entities

  -- The record of a group counts the entities in its cells; of no cell none is counted.
  counted-one : (g : ℕ) (l : List Cell) → total (each number_of (record_of entities g l)) ≡ standing_at entities l
  counted-one g [] = sym (ap length (keep-none (λ (p : ℕ × Cell). has same [] p.1) entities (λ p m. tt)))
  counted-one g (c ∷ cs) = omega arith

  -- The records of some groups count the entities in the cells of each.
  counted-all : (ids : Ids) (l : List ℕ) → total (each number_of (gather (λ g. record_of entities g (members ids g)) l)) ≡ total (each (λ g. standing_at entities (members ids g)) l)
  counted-all ids [] = refl
  counted-all ids (g ∷ l) =
      ap total (each_append number_of (record_of entities g (members ids g)) (gather (λ g. record_of entities g (members ids g)) l))
      ∙ total-append (each number_of (record_of entities g (members ids g))) (each number_of (gather (λ g. record_of entities g (members ids g)) l))
      ∙ ap₂ (λ a b. a + b) (counted-one g (members ids g)) (counted-all ids l)

module _ (touch : Cell → Cell → Bool) (laws : Touching touch) (s : State) (t : T (consistent_by touch s)) where
  ok : Ok touch s
  ok = ok_out touch laws.flip s t

  abbrev ids : Ids
  ids = s.groups.ids

  -- The record of a group has the number of the entities that stand in its cells.
  pub entities-exact : (a : Cell) (g : ℕ) → id_of s a ≡ some g → (k : Group) × (group_by s g ≡ some k) × (k.entities ≡ standing_at s.occupancy.entities (members ids g))
  entities-exact a g e =
      let m = members-cons ids (value_in (at_mem cells ids (record { is = e }))) in (
        group_of s.occupancy.entities m.0 m.1,
        ap (λ (l : List (ℕ × Group)). get eqb l g) ok.records-are ∙ records-get s.occupancy.entities ids g ∙ ap (shown_of s.occupancy.entities) m.2,
        ap (standing_at s.occupancy.entities) (sym m.2),
      )

  -- So a record with another number makes a state inconsistent.
  pub number-checked : (g : ℕ) (k : Group) → Mem (g, k) s.records → k.entities ≡ standing_at s.occupancy.entities (members ids g)
  number-checked g k m = go (members ids g) shown
    where
      shown : shown_of s.occupancy.entities (members ids g) ≡ some k
      shown =
          sym (records-get s.occupancy.entities ids g)
          ∙ (asc-mem-at numbers (records s.occupancy.entities ids) (subst (Asc ltb) (sym (records-keys s.occupancy.entities ids)) (ascending-asc numbers (values ids)))
          (subst (λ l. Mem (g, k) l) ok.records-are m)).is

      go : (l : List Cell) → shown_of s.occupancy.entities l ≡ some k → k.entities ≡ standing_at s.occupancy.entities l
      go [] e = let z : ◌≡◌ {A = ℕ} 0 1 = cc in absurd (omega arith)
      go (c ∷ cs) e = ap (λ (r : Group). r.entities) (let f : group_of s.occupancy.entities c cs ≡ k = cc in sym f)

  -- Each entity stands in a cell of exactly one group.
  one-group : (p : ℕ × Cell) → Mem p s.occupancy.entities → (g : ℕ) × Mem g (ascending ltb (values ids)) × ((h : ℕ) → Mem h (ascending ltb (values ids)) → has same (members ids h) p.1 ≡ eqb h g)
  one-group p m = (
    at.0,
    ascending-in numbers (values ids) (value_in (at_mem cells ids at.1)),
    λ h k. same_test (has same (members ids h) p.1) (eqb h at.0)
        (λ u. eqb_of h at.0 (at_once (members-out ids h fair (of-has cells (members ids h) u)) at.1))
        (λ u. has_of cells (members-in ids (subst (λ x. At same ids p.1 x) (sym (eqb→eq h at.0 u)) at.1))),
  )
    where
      fair : (q : Cell × ℕ) → Mem q ids → At same ids q.0 q.1
      fair = asc-fair cells ids (ids-asc touch s ok)

      at : (g : ℕ) × At same ids p.1 g
      at = key-at cells ids (subst (λ l. Mem p.1 l) (sym ok.id-cells) (occupied-in touch s.occupancy ok.sound (value_in m)))

  -- Together the groups count every entity once.
  pub entities-sum : entities_counted s ≡ length s.occupancy.entities
  entities-sum =
      ap (λ l. total (each (λ (p : ℕ × Group). p.1.entities) l)) ok.records-are
      ∙ counted-all s.occupancy.entities ids (ascending ltb (values ids))
      ∙ parted (λ g (p : ℕ × Cell). has same (members ids g) p.1) (ascending ltb (values ids)) (asc-once numbers (ascending-asc numbers (values ids))) s.occupancy.entities one-group

-- The keys after an event.
placed-keys : (t : List (ℕ × Cell)) (ev : Event) → keys (stands t ev) ≡ placed (keys t) ev
placed-keys t (remove e) = keys-drop eqb e t
placed-keys t (move_to e c) = keys-put numbers t e c

-- The keys after events.
placed-all : (t : List (ℕ × Cell)) (es : List Event) → keys (run stands t es) ≡ run placed (keys t) es
placed-all t [] = refl
placed-all t (ev ∷ es) = placed-all (stands t ev) es ∙ ap (λ l. run placed l es) (placed-keys t ev)

module _ (touch : Cell → Cell → Bool) (laws : Touching touch) where
  -- The entities after an accepted batch are those placed and not since removed after its events.
  pub entities-after : (s : State) → T (consistent_by touch s) → (b : Batch) → (update_by touch s b).0 ≡ 0 → keys (update_by touch s b).1.occupancy.entities ≡ run placed (keys s.occupancy.entities) (events b)
  unfolding accepted_by
  entities-after s t b e =
      ap (λ (u : State). keys u.occupancy.entities) (update-accepted touch s b e).1
      ∙ ap keys (plays-stands touch (start_batch s.occupancy) (events b) (ok_out touch laws.flip s t).sound.asc)
      ∙ placed-all s.occupancy.entities (events b)

  -- The entities of a state are those that its history has placed and not since removed.
  pub entities-placed : {s : State} (r : ReachedBy touch s) → keys s.occupancy.entities ≡ placed_by touch r
  entities-placed (start first kind) = refl
  entities-placed (next {s} b r e) = entities-after s (consistent-reached touch laws r) b e ∙ ap (λ l. run placed l (events b)) (entities-placed r)

  -- After every history the sum over all groups is the number of entities placed and not since removed.
  pub entities-history : {s : State} (r : ReachedBy touch s) → entities_counted s ≡ length (placed_by touch r)
  entities-history {s} r = entities-sum touch laws s (consistent-reached touch laws r) ∙ sym (keys_length s.occupancy.entities) ∙ ap length (entities-placed r)

-- For all 26.
pub entities-26 : {s : State} (r : ReachedBy touch26 s) → entities_counted s ≡ length (placed_by touch26 r)
entities-26 = entities-history touch26 touching-26
