-- Isolation: two runs that agree batch by batch on one grid's enter and leave events show the same of that grid, the ids up to a
-- renaming that keeps their order.
use Rattle.std.specs.Prelude.{ℕ, suc, ◌≡◌, refl, Bool, true, false, cond, T, eqb, length}
use Rattle.std.proofs.Common.{sym, ◌∙◌, ap, subst, ⊎_elim, eqb→eq}
use mathlib.Core.List.Memᴰ.{cases_cons as mem-cons}
use mathlib.Core.List.Memᴰ.{not-nil as mem-nil}
use mathlib.Core.List.{List, [], ◌∷◌, Memᴰ as Mem}
use Rattle.std.proofs.Math.Option.{some}
use Rattle.model.specs.Facts.{At}
use Rattle.model.specs.Lists.{keep, has, run, keys, get, only, change}
use Rattle.component.specs.Around.{place, around}
use Rattle.component.specs.Laws.Neighbours.{around-index}
use Rattle.model.specs.Cells.{Cell, same, Offsets, all26, holds_opposites, touch_by}
use Rattle.model.specs.Occupancy.{Occupancy, Batch, occupied, play_batch}
use Rattle.model.specs.Flood.{flood}
use Rattle.model.specs.Groups.{Ids, members, standing_at, corner_at, lower, higher}
use Rattle.model.specs.Update.{State, accepted_by, update_by}
use Rattle.model.specs.Questions.{where_is, entities_in, id_of, nearby_by, ones_of, neighbour_count, cube}
use Rattle.model.specs.Runs.{on_grid, passages_on, AlikeBy, start, next, renamed, SameOn}
use Rattle.model.proofs.Laws.Orders.{numbers, cells}
use Rattle.model.proofs.Laws.Members.{keep-in, keep_out, keep-ext, each_in, key-out, of-has}
use Rattle.model.proofs.Laws.Tables.{at_mem, asc-mem-at, get-only-yes, keys-only}
use Rattle.model.proofs.Laws.Touching.{Touching, touching-by}
use Rattle.model.proofs.Laws.Records.{shown_of, records-get}
use Rattle.model.proofs.Laws.Rename.{Sim, members-ren}
use Rattle.model.proofs.Laws.View.{keep-sub, members-on, view, path-on}
use Rattle.model.proofs.Laws.Lock.{has_on}
use Rattle.model.proofs.Laws.Apart.{regroups-agree}
use Rattle.model.proofs.Laws.OnGrid.{viewed, stays_on, batches-agree}
use Rattle.model.proofs.Laws.FloodOn.{flood-on}
use Rattle.model.proofs.Laws.Accepted.{update-accepted}
use Rattle.model.proofs.Laws.Steady.{Steady, fresh-steady, accepted-steady, ids-asc, opened-asc, opened-free}

-- What two runs that agree on the grid keep: the same stands on the grid, and the ids there differ by a renaming in order.
record Agree (touch : Cell → Cell → Bool) (grid : ℕ) (s t : State) : Type 1 where
  left : Steady touch s
  right : Steady touch t
  views : viewed grid s.occupancy ≡ viewed grid t.occupancy
  sim : Sim (view (on_grid grid) s.groups) (view (on_grid grid) t.groups)

-- Of cells of the grid only the entities of the grid are counted.
shown-on : (grid : ℕ) (l m : List (ℕ × Cell)) (cs : List Cell) → ((c : Cell) → Mem c cs → T (on_grid grid c)) →
    keep (λ (p : ℕ × Cell). on_grid grid p.1) l ≡ keep (λ (p : ℕ × Cell). on_grid grid p.1) m → shown_of l cs ≡ shown_of m cs
shown-on grid l m [] on e = refl
shown-on grid l m (c ∷ cs) on e =
    let counted : standing_at l (c ∷ cs) ≡ standing_at m (c ∷ cs) = seen l ∙ ap (λ k. standing_at k (c ∷ cs)) e ∙ sym (seen m) in
    λ i. some (record { grid = c.grid; count = suc (length cs); entities = counted i; low = run lower (corner_at c) cs; high = run higher (corner_at c) cs })
  where
    seen : (k : List (ℕ × Cell)) → standing_at k (c ∷ cs) ≡ standing_at (keep (λ (p : ℕ × Cell). on_grid grid p.1) k) (c ∷ cs)
    seen k = sym (ap length (keep-sub (λ (p : ℕ × Cell). has same (c ∷ cs) p.1) (λ (p : ℕ × Cell). on_grid grid p.1) k (λ q j t. on q.1 (of-has cells (c ∷ cs) t))))

module _ (touch : Cell → Cell → Bool) (laws : Touching touch) (grid : ℕ) where
  -- Two accepted batches that agree on the grid.
  accepted-agree : (s t : State) (b d : Batch) → Agree touch grid s t → passages_on touch grid s b ≡ passages_on touch grid t d → Agree touch grid (accepted_by touch s b) (accepted_by touch t d)
  unfolding accepted_by
  accepted-agree s t b d a e =
      record {
        left = accepted-steady touch laws s a.left b;
        right = accepted-steady touch laws t a.right d;
        views = views';
        sim =
            regroups-agree touch laws.flip (on_grid grid) (stays_on laws grid)
            (play_batch touch b s.occupancy).newly_occupied (play_batch touch b s.occupancy).newly_emptied
            (play_batch touch d t.occupancy).newly_occupied (play_batch touch d t.occupancy).newly_emptied
            s.groups t.groups a.sim a.left.fine a.right.fine
            (ids-asc touch s a.left) (ids-asc touch t a.right)
            (opened-asc touch laws s a.left b) (opened-asc touch laws t a.right d)
            (opened-free touch laws s a.left b) (opened-free touch laws t a.right d)
            (ap (λ (o : Occupancy). o.newly_occupied) views') (ap (λ (o : Occupancy). o.newly_emptied) views');
      }
    where
      views' : viewed grid (play_batch touch b s.occupancy) ≡ viewed grid (play_batch touch d t.occupancy)
      views' = batches-agree touch laws grid b d s.occupancy t.occupancy a.left.sound a.right.sound a.views e

  -- Runs that are alike agree.
  agree : {s t : State} → AlikeBy touch grid s t → Agree touch grid s t
  agree (start first first' kind kind') =
      record {
        left = fresh-steady touch first kind;
        right = fresh-steady touch first' kind';
        views = refl;
        sim = record { f = λ g. g; L = λ g. ⊥; same = refl; uses = λ q m. mem-nil m; low = λ g l. absurd l; low' = λ g l. absurd l; mono = λ g h l k. absurd l };
      }
  agree (next {s} {t} b d r e f h) =
      subst (λ x. Agree touch grid x (update_by touch t d).1) (sym (update-accepted touch s b e).1)
      (subst (λ x. Agree touch grid (accepted_by touch s b) x) (sym (update-accepted touch t d f).1) (accepted-agree s t b d (agree r) h))

  -- A group with a cell on the grid is on the grid.
  group-on : (s : State) → Steady touch s → {a : Cell} {g : ℕ} → At same s.groups.ids a g → T (on_grid grid a) → (q : Cell × ℕ) → Mem q s.groups.ids → T (eqb g q.1) → T (on_grid grid q.0)
  group-on s ok p u q m e =
      path-on touch (on_grid grid) (stays_on laws grid)
      (ok.fine.joined p (subst (λ h. At same s.groups.ids q.0 h) (sym (eqb→eq _ q.1 e)) (ok.fine.fair q m)) (λ k. mem-nil k)) u

  module _ {s t : State} (r : Agree touch grid s t) where
    -- An id on the grid is in use.
    live : (a : Cell) (g : ℕ) → T (on_grid grid a) → id_of s a ≡ some g → Mem (a, g) (only (on_grid grid) s.groups.ids)
    live a g u p = keep-in (λ (q : Cell × ℕ). on_grid grid q.0) (at_mem cells s.groups.ids (record { is = p })) u

    -- A group on the grid has the same members in both.
    members-same : (a : Cell) (g : ℕ) → T (on_grid grid a) → id_of s a ≡ some g → members t.groups.ids (r.sim.f g) ≡ members s.groups.ids g
    members-same a g u p =
        sym (members-on (on_grid grid) t.groups.ids (r.sim.f g) (group-on t r.right there u))
        ∙ ap (λ i. members i (r.sim.f g)) r.sim.same
        ∙ members-ren r.sim.f r.sim.L r.sim.mono (only (on_grid grid) s.groups.ids) r.sim.uses g (r.sim.uses (a, g) (live a g u p))
        ∙ members-on (on_grid grid) s.groups.ids g (group-on s r.left (record { is = p }) u)
      where
        there : At same t.groups.ids a (r.sim.f g)
        there =
            r.right.fine.fair (a, r.sim.f g)
            (keep_out (λ (q : Cell × ℕ). on_grid grid q.0) t.groups.ids
            (subst (λ i. Mem (a, r.sim.f g) i) (sym r.sim.same) (each_in (λ (q : Cell × ℕ). (q.0, r.sim.f q.1)) (live a g u p)))).0

    -- A group on the grid shows the same in both.
    shown-same : (a : Cell) (g : ℕ) → T (on_grid grid a) → id_of s a ≡ some g → shown_of t.occupancy.entities (members t.groups.ids (r.sim.f g)) ≡ shown_of s.occupancy.entities (members s.groups.ids g)
    shown-same a g u p =
        ap (shown_of t.occupancy.entities) (members-same a g u p)
        ∙ shown-on grid t.occupancy.entities s.occupancy.entities (members s.groups.ids g)
        (λ c m. let q = key-out (keep (λ (x : Cell × ℕ). eqb g x.1) s.groups.ids) m in
        let k = keep_out (λ (x : Cell × ℕ). eqb g x.1) s.groups.ids q.1 in
        subst (λ x. T (on_grid grid x)) (sym q.2) (group-on s r.left (record { is = p }) u q.0 k.0 k.1))
        (sym (ap (λ (o : Occupancy). o.entities) r.views))

    -- Runs that agree show the same of the grid.
    same-on : SameOn touch grid s t
    same-on =
        record {
          entities = ap (λ (o : Occupancy). o.entities) r.views;
          masks = ap (λ (o : Occupancy). o.masks) r.views;
          newly_occupied = ap (λ (o : Occupancy). o.newly_occupied) r.views;
          newly_emptied = ap (λ (o : Occupancy). o.newly_emptied) r.views;
          floods = λ seed u depth budget.
              flood-on touch laws grid s.occupancy r.left.sound seed u depth budget
              ∙ ap (λ o. flood touch o seed depth budget) r.views
              ∙ sym (flood-on touch laws grid t.occupancy r.right.sound seed u depth budget);
          name = r.sim.f;
          ids = r.sim.same;
          in_order = λ a b g h u v p q. r.sim.mono g h (r.sim.uses (a, g) (live a g u p)) (r.sim.uses (b, h) (live b h v q));
          groups = λ a g u p.
              ap (λ l. get eqb l (r.sim.f g)) r.right.shown ∙ records-get t.occupancy.entities t.groups.ids (r.sim.f g)
              ∙ shown-same a g u p
              ∙ sym (ap (λ l. get eqb l g) r.left.shown ∙ records-get s.occupancy.entities s.groups.ids g);
        }

  -- Runs that are alike on a grid show the same of it.
  pub isolation : {s t : State} → AlikeBy touch grid s t → SameOn touch grid s t
  isolation r = same-on (agree r)

  -- An entity that stands on the grid in one run stands there in the other.
  pub where_is-same : {s t : State} → AlikeBy touch grid s t → (e : ℕ) (c : Cell) → T (on_grid grid c) → where_is s e ≡ some c → where_is s e ≡ where_is t e
  where_is-same {s} {t} r e c u p =
      p ∙ sym (asc-mem-at numbers t.occupancy.entities (agree r).right.sound.asc
      (keep_out (λ (q : ℕ × Cell). on_grid grid q.1) t.occupancy.entities
      (subst (λ l. Mem (e, c) l) (isolation r).entities (keep-in (λ (q : ℕ × Cell). on_grid grid q.1) (at_mem numbers s.occupancy.entities (record { is = p })) u))).0).is

-- The lookup in a renamed table.
get-renamed : (f : ℕ → ℕ) (ids : Ids) (c : Cell) → get same (change (λ d g. f g) ids) c ≡ renamed f (get same ids c)
get-renamed f [] c = refl
get-renamed f (p ∷ ids) c = go (same c p.0) (get-renamed f ids c)
  where
    go : (b : Bool) → get same (change (λ d g. f g) ids) c ≡ renamed f (get same ids c) → cond b (some (f p.1)) (get same (change (λ d g. f g) ids) c) ≡ renamed f (cond b (some p.1) (get same ids c))
    go true e = refl
    go false e = e

-- What is asked of a cell of the grid.
module _ (touch : Cell → Cell → Bool) (grid : ℕ) {s t : State} (r : SameOn touch grid s t) (c : Cell) (u : T (on_grid grid c)) where
  -- Whether the cell is occupied.
  pub occupied-same : has same (occupied s.occupancy) c ≡ has same (occupied t.occupancy) c
  occupied-same = seen s ∙ ap (λ l. has same (keys l) c) r.masks ∙ sym (seen t)
    where
      seen : (x : State) → has same (occupied x.occupancy) c ≡ has same (keys (only (on_grid grid) x.occupancy.masks)) c
      seen x = has_on (on_grid grid) (occupied x.occupancy) c u ∙ ap (λ l. has same l c) (sym (keys-only (on_grid grid) x.occupancy.masks))

  -- Its entities.
  pub entities_in-same : entities_in s c ≡ entities_in t c
  entities_in-same = let e = seen s ∙ ap (λ l. keys (keep (λ (p : ℕ × Cell). same c p.1) l)) r.entities ∙ sym (seen t) in λ i. record { found = occupied-same i; list = e i }
    where
      seen : (x : State) → keys (keep (λ (p : ℕ × Cell). same c p.1) x.occupancy.entities) ≡ keys (keep (λ (p : ℕ × Cell). same c p.1) (keep (λ (p : ℕ × Cell). on_grid grid p.1) x.occupancy.entities))
      seen x = sym (ap keys (keep-sub (λ (p : ℕ × Cell). same c p.1) (λ (p : ℕ × Cell). on_grid grid p.1) x.occupancy.entities (λ q m t. subst (λ d. T (on_grid grid d)) (cells.same-eq c q.1 t) u)))

  -- The cell and the occupied cells that touch it.
  pub nearby-same : Touching touch → nearby_by touch s c ≡ nearby_by touch t c
  nearby-same laws = let e = seen s ∙ ap (λ l. keep (touch c) (keys l)) r.masks ∙ sym (seen t) in λ i. record { found = occupied-same i; list = cond (occupied-same i) (c ∷ e i) [] }
    where
      seen : (x : State) → keep (touch c) (occupied x.occupancy) ≡ keep (touch c) (keys (only (on_grid grid) x.occupancy.masks))
      seen x = sym (ap (keep (touch c)) (keys-only (on_grid grid) x.occupancy.masks) ∙ keep-sub (touch c) (on_grid grid) (occupied x.occupancy) (λ d m t. stays_on laws grid c d t u))

  -- Its neighbour count.
  pub neighbour_count-same : neighbour_count s c ≡ neighbour_count t c
  neighbour_count-same =
      ap ones_of (sym (get-only-yes cells (on_grid grid) s.occupancy.masks c u) ∙ ap (λ l. get same l c) r.masks ∙ get-only-yes cells (on_grid grid) t.occupancy.masks c u)

  -- Its id, renamed.
  pub id_of-same : id_of t c ≡ renamed r.name (id_of s c)
  id_of-same =
      sym (get-only-yes cells (on_grid grid) t.groups.ids c u) ∙ ap (λ i. get same i c) r.ids
      ∙ get-renamed r.name (only (on_grid grid) s.groups.ids) c ∙ ap (renamed r.name) (get-only-yes cells (on_grid grid) s.groups.ids c u)

-- The occupied ones of some cells of the grid, such as a cube's.
pub occupied-ones : (touch : Cell → Cell → Bool) (grid : ℕ) {s t : State} → SameOn touch grid s t → (l : List Cell) → ((c : Cell) → Mem c l → T (on_grid grid c)) → keep (has same (occupied s.occupancy)) l ≡ keep (has same (occupied t.occupancy)) l
occupied-ones touch grid {s} {t} r l f = keep-ext (has same (occupied s.occupancy)) (has same (occupied t.occupancy)) l (λ c m. occupied-same touch grid r c (f c m))

-- A neighbour of a cell of the grid, to any radius, is of the grid.
around-on : (grid r : ℕ) (c : Cell) → T (on_grid grid c) → (d : Cell) → Mem d (around r c) → T (on_grid grid d)
around-on grid r c u d m = let k = around-index r c d m in subst (λ x. T (on_grid grid x)) k.1.1 (unfold place in u)

-- Every cube about a cell of the grid.
pub cube-same : (touch : Cell → Cell → Bool) (grid : ℕ) {s t : State} → SameOn touch grid s t → (c : Cell) → T (on_grid grid c) → (r : ℕ) → cube s c r ≡ cube t c r
cube-same touch grid {s} {t} same-on c u r =
    let e = occupied-ones touch grid same-on (c ∷ around r c) (λ d m. ⊎_elim (λ f. subst (λ x. T (on_grid grid x)) (sym f) u) (λ k. around-on grid r c u d k) (mem-cons m)) in
    λ i. record { found = occupied-same touch grid same-on c u i; list = e i }

-- For every set of offsets that holds the opposite of each of its members.
pub isolation-by : (offsets : Offsets) → T (holds_opposites offsets) → (grid : ℕ) {s t : State} → AlikeBy (touch_by offsets) grid s t → SameOn (touch_by offsets) grid s t
isolation-by offsets ok = isolation (touch_by offsets) (touching-by offsets ok)

-- For all 26.
pub isolation-26 : (grid : ℕ) {s t : State} → AlikeBy (touch_by all26) grid s t → SameOn (touch_by all26) grid s t
isolation-26 = isolation-by all26 tt
