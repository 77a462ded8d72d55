-- The eight tests of consistency say exactly what a record of facts says.
use Rattle.std.specs.Prelude.{ℕ, ◌≡◌, refl, Bool, ◌&&◌, not, T, eqb, leb, ltb, length}
use Rattle.std.proofs.Common.{sym, ◌∙◌, subst, eqb→eq, leb→le, le→leb, ltb→lt, lt→ltb}
use mathlib.Core.List.Memᴰ.{not-nil as mem-nil}
use mathlib.Core.List.{[], Memᴰ as Mem}
use Rattle.std.proofs.Math.Dec.{eqb_refl}
use Rattle.model.specs.Lists.{all, has, equal, is_ascending, keys, values}
use Rattle.model.specs.Cells.{Cell, same, below, cell_in_range}
use Rattle.model.specs.Masks.{mask_of, masked}
use Rattle.model.specs.Occupancy.{Occupancy, occupied}
use Rattle.model.specs.Paths.{stop, step}
use Rattle.model.specs.Groups.{Ids, Groups, Group, Corner, records}
use Rattle.model.specs.Update.{State, most_entities, most_cells}
use Rattle.model.specs.Consistent.{within_number, standing, cells_exact, masks_exact, ids_shared, same_corner, same_record, records_exact, ids_below_next, coordinates_in_range, nets_in_order, consistent_by}
use Rattle.model.proofs.Laws.Tests.{and-fst, and-snd, and_both}
use Rattle.model.proofs.Laws.Orders.{cells}
use Rattle.model.proofs.Laws.Members.{all-in, all-out, has_of, of-has, hasnt-of, of-hasnt, equal-in, equal-out, each-out}
use Rattle.model.proofs.Laws.Sorted.{is_ascending-in, is_ascending-out, ascending-asc}
use Rattle.model.proofs.Laws.Tables.{at_mem, at_key, key-at, asc-fair, at_once}
use Rattle.model.proofs.Laws.Values.{value_in}
use Rattle.model.proofs.Laws.Walks.{wider}
use Rattle.model.proofs.Laws.Shared.{shared-in, shared-out}
use Rattle.model.proofs.Laws.Masks.{rows-of-keys}
use Rattle.model.specs.Facts.{Asc, At, Shared, Ok}
use Rattle.model.proofs.Laws.Fine.{Fine, along}
use Rattle.model.proofs.Laws.Steady.{Steady}

-- Corners and records that pass the test are equal.
corner-eq : (p q : Corner) → T (same_corner p q) → p ≡ q
corner-eq p q t =
    let x : p.x ≡ q.x = eqb→eq _ _ (and-fst (eqb p.x q.x) _ t) in
    let r : T (eqb p.y q.y && eqb p.z q.z) = and-snd (eqb p.x q.x) _ t in
    let y : p.y ≡ q.y = eqb→eq _ _ (and-fst (eqb p.y q.y) _ r) in
    let z : p.z ≡ q.z = eqb→eq _ _ (and-snd (eqb p.y q.y) _ r) in
    λ i. record { x = x i; y = y i; z = z i }

corner-self : (p : Corner) → T (same_corner p p)
corner-self p = and_both (eqb p.x p.x) _ (eqb_refl p.x) (and_both (eqb p.y p.y) _ (eqb_refl p.y) (eqb_refl p.z))

pub record-eq : (p q : ℕ × Group) → T (same_record p q) → p ≡ q
record-eq p q t = λ i. (id i, record { grid = grid i; count = count i; entities = entities i; low = low i; high = high i })
  where
    t1 : T (eqb p.1.grid q.1.grid && (eqb p.1.count q.1.count && (eqb p.1.entities q.1.entities && (same_corner p.1.low q.1.low && same_corner p.1.high q.1.high))))
    t1 = and-snd (eqb p.0 q.0) _ t

    t2 : T (eqb p.1.count q.1.count && (eqb p.1.entities q.1.entities && (same_corner p.1.low q.1.low && same_corner p.1.high q.1.high)))
    t2 = and-snd (eqb p.1.grid q.1.grid) _ t1

    t3 : T (eqb p.1.entities q.1.entities && (same_corner p.1.low q.1.low && same_corner p.1.high q.1.high))
    t3 = and-snd (eqb p.1.count q.1.count) _ t2

    t4 : T (same_corner p.1.low q.1.low && same_corner p.1.high q.1.high)
    t4 = and-snd (eqb p.1.entities q.1.entities) _ t3

    id : p.0 ≡ q.0
    id = eqb→eq _ _ (and-fst (eqb p.0 q.0) _ t)

    grid : p.1.grid ≡ q.1.grid
    grid = eqb→eq _ _ (and-fst (eqb p.1.grid q.1.grid) _ t1)

    count : p.1.count ≡ q.1.count
    count = eqb→eq _ _ (and-fst (eqb p.1.count q.1.count) _ t2)

    entities : p.1.entities ≡ q.1.entities
    entities = eqb→eq _ _ (and-fst (eqb p.1.entities q.1.entities) _ t3)

    low : p.1.low ≡ q.1.low
    low = corner-eq _ _ (and-fst (same_corner p.1.low q.1.low) _ t4)

    high : p.1.high ≡ q.1.high
    high = corner-eq _ _ (and-snd (same_corner p.1.low q.1.low) _ t4)

pub record-self : (p : ℕ × Group) → T (same_record p p)
record-self p =
    and_both (eqb p.0 p.0) _ (eqb_refl p.0)
    (and_both (eqb p.1.grid p.1.grid) _ (eqb_refl p.1.grid)
    (and_both (eqb p.1.count p.1.count) _ (eqb_refl p.1.count)
    (and_both (eqb p.1.entities p.1.entities) _ (eqb_refl p.1.entities)
    (and_both (same_corner p.1.low p.1.low) _ (corner-self p.1.low) (corner-self p.1.high)))))

-- The two parts of a conjunction.
both : (a b : Bool) → T (a && b) → T a × T b
both a b t = (and-fst a b t, and-snd a b t)

module _ (touch : Cell → Cell → Bool) where
  module _ (flip : (a b : Cell) → T (touch a b) → T (touch b a)) (s : State) where
    abbrev o : Occupancy
    o = s.occupancy

    -- Points 2 to 8 from the first to the last, each with what follows it.
    abbrev from8 : Bool
    from8 = nets_in_order s

    abbrev from7 : Bool
    from7 = coordinates_in_range s && from8

    abbrev from6 : Bool
    from6 = ids_below_next s && from7

    abbrev from5 : Bool
    from5 = records_exact s && from6

    abbrev from4 : Bool
    from4 = ids_shared touch s && from5

    abbrev from3 : Bool
    from3 = masks_exact touch s && from4

    abbrev from2 : Bool
    from2 = cells_exact s && from3

    -- The parts of points 1, 2, 7 and 8.
    abbrev ents-asc : Bool
    ents-asc = is_ascending ltb (keys o.entities)

    abbrev ents-few : Bool
    ents-few = leb (length o.entities) most_entities

    abbrev cells-few : Bool
    cells-few = leb (length (occupied o)) most_cells

    abbrev ids-stand : Bool
    ids-stand = equal same (keys s.groups.ids) (standing s)

    abbrev cells-stand : Bool
    cells-stand = equal same (occupied o) (standing s)

    abbrev range-e : Bool
    range-e = all cell_in_range (values o.entities)

    abbrev range-o : Bool
    range-o = all cell_in_range o.newly_occupied

    abbrev range-m : Bool
    range-m = all cell_in_range o.newly_emptied

    abbrev asc-o : Bool
    asc-o = is_ascending below o.newly_occupied

    abbrev asc-m : Bool
    asc-m = is_ascending below o.newly_emptied

    abbrev few-o : Bool
    few-o = leb (length o.newly_occupied) most_cells

    abbrev few-m : Bool
    few-m = leb (length o.newly_emptied) most_cells

    abbrev in-o : Bool
    in-o = all (has same (occupied o)) o.newly_occupied

    abbrev out-m : Bool
    out-m = all (λ c. not (has same (occupied o) c)) o.newly_emptied

    -- A consistent state is Ok.
    pub ok_out : T (consistent_by touch s) → Ok touch s
    ok_out t =
        let p1 : T (within_number s) × T from2 = both (within_number s) from2 t in
        let p2 : T (cells_exact s) × T from3 = both (cells_exact s) from3 p1.1 in
        let p3 : T (masks_exact touch s) × T from4 = both (masks_exact touch s) from4 p2.1 in
        let p4 : T (ids_shared touch s) × T from5 = both (ids_shared touch s) from5 p3.1 in
        let p5 : T (records_exact s) × T from6 = both (records_exact s) from6 p4.1 in
        let p6 : T (ids_below_next s) × T from7 = both (ids_below_next s) from7 p5.1 in
        let p7 : T (coordinates_in_range s) × T from8 = both (coordinates_in_range s) from8 p6.1 in
        let n1 : T ents-asc × T (ents-few && cells-few) = both ents-asc (ents-few && cells-few) p1.0 in
        let n2 : T ents-few × T cells-few = both ents-few cells-few n1.1 in
        let c1 : T ids-stand × T cells-stand = both ids-stand cells-stand p2.0 in
        let r1 : T range-e × T (range-o && range-m) = both range-e (range-o && range-m) p7.0 in
        let r2 : T range-o × T range-m = both range-o range-m r1.1 in
        let m1 : T asc-o × T (asc-m && (few-o && (few-m && (in-o && out-m)))) = both asc-o (asc-m && (few-o && (few-m && (in-o && out-m)))) p7.1 in
        let m2 : T asc-m × T (few-o && (few-m && (in-o && out-m))) = both asc-m (few-o && (few-m && (in-o && out-m))) m1.1 in
        let m3 : T few-o × T (few-m && (in-o && out-m)) = both few-o (few-m && (in-o && out-m)) m2.1 in
        let m4 : T few-m × T (in-o && out-m) = both few-m (in-o && out-m) m3.1 in
        let m5 : T in-o × T out-m = both in-o out-m m4.1 in
        let here : occupied o ≡ standing s = equal-out same cells.same-eq (occupied o) (standing s) c1.1 in
        record {
          sound = record {
            asc = is_ascending-out (keys o.entities) n1.0;
            cells = here;
            exact = rows-of-keys (mask_of touch (occupied o)) o.masks (λ p m. eqb→eq p.1 (mask_of touch (occupied o) p.0) (all-out (λ (p : Cell × ℕ). eqb p.1 (mask_of touch (occupied o) p.0)) o.masks p3.0 m));
          };
          few-entities = leb→le (length o.entities) most_entities n2.0;
          few-cells = leb→le (length (occupied o)) most_cells n2.1;
          id-cells = equal-out same cells.same-eq (keys s.groups.ids) (standing s) c1.0 ∙ sym here;
          shared = shared-out touch flip s.groups.ids p4.0;
          records-are = equal-out same_record record-eq s.records (records s.occupancy.entities s.groups.ids) p5.0;
          under = λ g m. ltb→lt g s.groups.next (all-out (λ g. ltb g s.groups.next) (values s.groups.ids) p6.0 m);
          range-entities = λ c m. all-out cell_in_range (values o.entities) r1.0 m;
          range-occupied = λ c m. all-out cell_in_range o.newly_occupied r2.0 m;
          range-emptied = λ c m. all-out cell_in_range o.newly_emptied r2.1 m;
          asc-occupied = is_ascending-out o.newly_occupied m1.0;
          asc-emptied = is_ascending-out o.newly_emptied m2.0;
          few-occupied = leb→le (length o.newly_occupied) most_cells m3.0;
          few-emptied = leb→le (length o.newly_emptied) most_cells m4.0;
          in-occupied = λ c m. of-has cells (occupied o) (all-out (has same (occupied o)) o.newly_occupied m5.0 m);
          not-emptied = λ c m. of-hasnt cells (occupied o) (all-out (λ c. not (has same (occupied o) c)) o.newly_emptied m5.1 m);
        }

    -- Each row of the masked cells passes the test.
    exact-row : {p : Cell × ℕ} → Mem p (masked touch (occupied o)) → T (eqb p.1 (mask_of touch (occupied o) p.0))
    exact-row {p} m =
        let r = each-out (λ c. (c, mask_of touch (occupied o) c)) (occupied o) m in
        subst (λ (q : Cell × ℕ). T (eqb q.1 (mask_of touch (occupied o) q.0))) (sym r.2) (eqb_refl (mask_of touch (occupied o) r.0))

    -- A state that is Ok is consistent.
    pub ok_in : Ok touch s → T (consistent_by touch s)
    ok_in k =
        and_both (within_number s) from2
        (and_both ents-asc (ents-few && cells-few) (is_ascending-in k.sound.asc)
        (and_both ents-few cells-few (le→leb (length o.entities) most_entities k.few-entities) (le→leb (length (occupied o)) most_cells k.few-cells)))
        (and_both (cells_exact s) from3
        (and_both ids-stand cells-stand (equal-in same cells.same_self (k.id-cells ∙ k.sound.cells)) (equal-in same cells.same_self k.sound.cells))
        (and_both (masks_exact touch s) from4
        (all-in (λ (p : Cell × ℕ). eqb p.1 (mask_of touch (occupied o) p.0)) o.masks (λ p m. exact-row (subst (λ t. Mem p t) k.sound.exact m)))
        (and_both (ids_shared touch s) from5 (shared-in touch flip s.groups.ids k.shared)
        (and_both (records_exact s) from6 (equal-in same_record record-self k.records-are)
        (and_both (ids_below_next s) from7 (all-in (λ g. ltb g s.groups.next) (values s.groups.ids) (λ g m. lt→ltb g s.groups.next (k.under g m)))
        (and_both (coordinates_in_range s) from8
        (and_both range-e (range-o && range-m) (all-in cell_in_range (values o.entities) k.range-entities)
        (and_both range-o range-m (all-in cell_in_range o.newly_occupied k.range-occupied) (all-in cell_in_range o.newly_emptied k.range-emptied)))
        (and_both asc-o (asc-m && (few-o && (few-m && (in-o && out-m)))) (is_ascending-in k.asc-occupied)
        (and_both asc-m (few-o && (few-m && (in-o && out-m))) (is_ascending-in k.asc-emptied)
        (and_both few-o (few-m && (in-o && out-m)) (le→leb (length o.newly_occupied) most_cells k.few-occupied)
        (and_both few-m (in-o && out-m) (le→leb (length o.newly_emptied) most_cells k.few-emptied)
        (and_both in-o out-m (all-in (has same (occupied o)) o.newly_occupied (λ c m. has_of cells (k.in-occupied c m)))
        (all-in (λ c. not (has same (occupied o) c)) o.newly_emptied (λ c m. hasnt-of cells c (occupied o) (k.not-emptied c m))))))))))))))

  -- The invariant of groups, from a state that is Ok, and back.
  module _ (s : State) (k : Ok touch s) where
    abbrev ids : Ids
    ids = s.groups.ids

    pub ids-asc : Asc below (keys ids)
    ids-asc = subst (Asc below) (sym (k.id-cells ∙ k.sound.cells)) (ascending-asc cells (values s.occupancy.entities))

    pub fine_of : Fine touch [] s.groups
    fine_of =
        record {
          fair = asc-fair cells ids ids-asc;
          under = λ {a} {g} p. k.under g (value_in (at_mem cells ids p));
          edge = λ {a} {b} {g} {h} p q t. (k.shared (a, g) (b, h) (at_mem cells ids p) (at_mem cells ids q)).1 (step (at_key cells ids p) t (stop (at_key cells ids q) refl));
          joined = λ {a} {b} {g} p q n. wider touch (λ x m. key-at cells ids m) ((k.shared (a, g) (b, g) (at_mem cells ids p) (at_mem cells ids q)).0 refl);
        }

    pub steady-of : Steady touch s
    steady-of = record { sound = k.sound; fine = fine_of; id_cells = k.id-cells; shown = k.records-are }

  pub shared_of : (g : Groups) → Fine touch [] g → Shared touch g.ids
  shared_of g f p q m k =
      let a = f.fair p m in let b = f.fair q k in (
        λ e. wider touch (λ x d. at_key cells g.ids d.1) (f.joined a (subst (λ h. At same g.ids q.0 h) (sym e) b) (λ n. mem-nil n)),
        λ w. at_once (along f a (wider touch (λ x d. key-at cells g.ids d) w)) b,
      )
