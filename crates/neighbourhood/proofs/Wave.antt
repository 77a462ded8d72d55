-- A turn of the flood of rows is a turn of the search among the cells of the unmarked rows.
use Prim.Native.Nat.{ℕ, zero, suc, ◌+◌, ◌≤◌, ◌<◌}
use native.Mathlib.Nat.{not-suc-le-zero, mul-le-mul_left}
use native.Mathlib.Omega.{arith}
use mathlib.Core.Path.{◌≡◌, refl, sym, ◌∙◌, ap, subst}
use mathlib.Core.Logic.{⊎_elim}
use mathlib.Core.Bool.{true, cond, ◌&&◌, not}
use mathlib.Core.List.Memᴰ.{append_cases}
use mathlib.Core.List.Memᴰ.{append_right}
use mathlib.Core.List.Memᴰ.{cast as mem-cast}
use mathlib.Core.List.Memᴰ.{eq_of_singleton as mem-one}
use mathlib.Core.List.Memᴰ.{head}
use mathlib.Core.List.Memᴰ.{not-nil as mem-nil}
use mathlib.Core.List.{List, [], ◌∷◌, ◌++◌, append_assoc, Memᴰ as Mem}
use lib.Dec.{T_not, not_T, eqb, eqb→eq}
use lib.ListN.{length, take, drop, get_or, set, length-set, length-append}
use lib.Seq.{length-take-le, get_or-take, drop-set-lt, drop-drop, get_or-set_same, get_or-set_other}
use Rattle.model.specs.Lists.{keep, has, each, keys, count}
use Rattle.model.specs.Cells.{Cell, same, touch_at}
use Rattle.model.specs.Masks.{bit, leads_to}
use Rattle.model.specs.Groups.{reach, part}
use Rattle.model.proofs.Laws.Tests.{and-fst, and-snd, and_both, same_test, cond_yes, cond_no, eqb_of}
use Rattle.model.proofs.Laws.Orders.{cells, numbers, same_of, differ}
use Rattle.model.proofs.Laws.Members.{keep-in, keep_out, keep-length, each_in, each-out, each_append, each-length, count-length, has_of, hasnt-of, mem-or, Once, once-nil, once-cons, once-keep, once-append, once-shorter}
use Rattle.model.proofs.Laws.Reaching.{flood-part}
use Rattle.model.specs.Places.{offset_at}
use Rattle.table.specs.Rows.{table4}
use Rattle.layout.specs.Widths.{cell_width}
use Rattle.neighbourhood.specs.Rows.{row_cell, row_mask, row_near, row_for, onward}
use Rattle.neighbourhood.specs.Fronts.{Front, front, is_open, pushed}
use Rattle.neighbourhood.specs.Standing.{Cells, open_cells, flood_from, Floodable, Flooded}
use Rattle.neighbourhood.proofs.Laws.Lines.{get_d-mem}
use Rattle.neighbourhood.proofs.Laws.Reads.{row-once, row-bit, row-lead, onward-under, onward-once}
use Rattle.neighbourhood.proofs.Laws.Unmarked.{counted, onward-touch, touch-onward, onward-back, open-less, open-touching, open-once, open_in}
use Rattle.neighbourhood.proofs.Laws.Pushes.{fresh, Pushed, pushed-all}
use Rattle.neighbourhood.proofs.Spreading.{Spread, spread-start, spread-step, spread-flat, spread-levels, queue-more, mem-some}

-- The rows that are queued.
abbrev pub queued : Front → List ℕ
queued f = take f.end f.queue

-- The cells that are reached from a queue among those of `rest`.
abbrev pub seek : ℕ → List Cell → List Cell → List Cell
seek kind queue rest = reach (touch_at kind) (length queue + length rest) queue rest

-- How far a flood is: of the rows that are queued the first h are done. The marks and the queue were these once the seed was queued.
pub record Wave (kind : ℕ) (words : List ℕ) (n seed label step : ℕ) (marks₁ queue₁ : List ℕ) (h : ℕ) (f : Front) : Type 0 where
  pub done : List ℕ
  pub waiting : List ℕ
  pub number : length done ≡ h
  pub rows : queued f ≡ done ++ waiting
  pub fits : f.end ≤ length f.queue
  pub under : (j : ℕ) → Mem j (done ++ waiting) → j < n
  pub once : Once (done ++ waiting)
  pub walk : each (row_cell words) done ++ seek kind (each (row_cell words) waiting) (open_cells words n f.marks) ≡ part (touch_at kind) (row_cell words seed) (open_cells words n marks₁)
  pub spread : Spread (onward words n) seed label step (λ j. get_or marks₁ j 0) done waiting (λ j. get_or f.marks j 0)
  pub behind : drop f.end f.queue ≡ drop f.end queue₁
  pub beyond : drop n f.marks ≡ drop n marks₁
  pub marks_kept : length f.marks ≡ length marks₁
  pub queue_kept : length f.queue ≡ length queue₁

seek-nil : (kind : ℕ) (rest : List Cell) → seek kind [] rest ≡ []
seek-nil kind rest = go (0 + length rest)
  where
    go : (n : ℕ) → reach (touch_at kind) n [] rest ≡ []
    go zero = refl
    go (suc n) = refl

seek-next : (kind : ℕ) (c : Cell) (queue rest : List Cell) → seek kind (c ∷ queue) rest ≡ c ∷ seek kind (queue ++ keep (touch_at kind c) rest) (keep (λ d. not (touch_at kind c d)) rest)
seek-next kind c queue rest =
    let e : length (c ∷ queue) + length rest ≡ suc (length (queue ++ keep (touch_at kind c) rest) + length (keep (λ d. not (touch_at kind c d)) rest)) =
    omega (arith, length-append queue (keep (touch_at kind c) rest), keep-length (touch_at kind c) rest) in
    λ i. reach (touch_at kind) (e i) (c ∷ queue) rest

first-set : (queue : List ℕ) (i : ℕ) → 0 < length queue → take 1 (set queue 0 i) ≡ i ∷ []
first-set [] i h = absurd (not-suc-le-zero h)
first-set (x ∷ queue) i h = refl

-- What stands behind some members.
get_d-behind : (l : List ℕ) (x : ℕ) (r : List ℕ) → get_or (l ++ (x ∷ r)) (length l) 0 ≡ x
get_d-behind [] x r = refl
get_d-behind (y ∷ l) x r = get_d-behind l x r

module _ (words : List ℕ) (n seed label step : ℕ) (marks queue : List ℕ) (a : Floodable words n seed label step marks queue) where
  abbrev kind : ℕ
  kind = a.kind

  abbrev k : Cells kind words n a.table
  k = a.cells

  abbrev cells_of : List ℕ → List Cell
  cells_of l = each (row_cell words) l

  abbrev marks₁ : List ℕ
  marks₁ = set marks seed label

  abbrev queue₁ : List ℕ
  queue₁ = set queue 0 seed

  -- The mark of another row than the seed.
  other : (j : ℕ) → (j ≡ seed → ⊥) → get_or marks₁ j 0 ≡ get_or marks j 0
  other j f = get_or-set_other marks seed j label 0 f

  seed-mark : get_or marks₁ seed 0 ≡ label
  seed-mark = get_or-set_same marks seed label 0 (omega (arith, a.seeded, a.marks_fit))

  -- The flood over the unmarked cells is the part of the seed among those that are unmarked then.
  flood-is : part (touch_at kind) (row_cell words seed) (open_cells words n marks₁) ≡ flood_from kind (open_cells words n marks) (row_cell words seed)
  flood-is =
      sym (flood-part (touch_at kind) (open_cells words n marks) (open-once words n a.table k marks) (row_cell words seed) (open_in words n marks seed a.seeded a.unmarked)
      ∙ ap (part (touch_at kind) (row_cell words seed)) (open-less words n a.table k (same (row_cell words seed)) marks marks₁ less))
    where
      less : (j : ℕ) → j < n → is_open marks₁ j ≡ (is_open marks j && not (same (row_cell words seed) (row_cell words j)))
      less j h =
          same_test (is_open marks₁ j) (is_open marks j && not (same (row_cell words seed) (row_cell words j)))
          (λ t. let f : j ≡ seed → ⊥ = (λ e. a.labelled (sym seed-mark ∙ ap (λ v. get_or marks₁ v 0) (sym e) ∙ eqb→eq (get_or marks₁ j 0) 0 t)) in
          and_both (is_open marks j) _ (eqb_of (get_or marks j 0) 0 (sym (other j f) ∙ eqb→eq (get_or marks₁ j 0) 0 t))
          (differ cells (λ e. f (sym (row-once words n a.table k seed j a.seeded h e)))))
          (λ t. eqb_of (get_or marks₁ j 0) 0 (other j (λ e. T_not (same (row_cell words seed) (row_cell words j)) (and-snd (is_open marks j) _ t) (same_of cells (ap (row_cell words) (sym e))))
          ∙ eqb→eq (get_or marks j 0) 0 (and-fst (is_open marks j) _ t)))

  -- The seed is marked and queued.
  pub wave-start : Wave kind words n seed label step marks₁ queue₁ 0 (front 1 marks₁ queue₁)
  wave-start =
      record {
        done = [];
        waiting = seed ∷ [];
        number = refl;
        rows = first-set queue seed (omega (arith, a.seeded, a.queue_fits));
        fits = omega (arith, a.seeded, a.queue_fits, length-set queue 0 seed);
        under = λ j m. subst (λ i. i < n) (sym (mem-one m)) a.seeded;
        once = once-cons mem-nil once-nil;
        walk = let e : length (row_cell words seed ∷ []) + length (open_cells words n marks₁) ≡ suc (length (open_cells words n marks₁)) = omega arith in
            λ i. reach (touch_at kind) (e i) (row_cell words seed ∷ []) (open_cells words n marks₁);
        spread = spread-start (onward words n) seed label step (λ j. get_or marks₁ j 0) seed-mark;
        behind = refl;
        beyond = refl;
        marks_kept = refl;
        queue_kept = refl;
      }

  module _ (h : ℕ) (f : Front) (w : Wave kind words n seed label step marks₁ queue₁ h f) where
    abbrev Q : List ℕ
    Q = w.done ++ w.waiting

    abbrev m : ℕ → ℕ
    m j = get_or f.marks j 0

    long : length Q ≡ f.end
    long = ap length (sym w.rows) ∙ length-take-le f.end f.queue w.fits

    -- At most n rows are queued.
    pub wave-few : f.end ≤ n
    wave-few = omega (arith, long, count-length 0 n, once-shorter w.once (count 0 n) (λ j l. counted n j (w.under j l)))

    -- Every row has a mark.
    pub wave-fits : n ≤ length f.marks
    wave-fits = omega (arith, a.marks_fit, w.marks_kept, length-set marks seed label)

    -- Every row can be queued.
    pub wave-room : n ≤ length f.queue
    wave-room = omega (arith, a.queue_fits, w.queue_kept, length-set queue 0 seed)

    -- Once all queued rows are done, the flood is.
    module _ (b : f.end ≤ h) where
      none-waits : w.waiting ≡ []
      none-waits = go w.waiting (length-append w.done w.waiting)
        where
          go : (l : List ℕ) → length (w.done ++ w.waiting) ≡ length w.done + length l → l ≡ []
          go [] e = refl
          go (x ∷ l) e = absurd (omega (arith, e, long, w.number))

      all_done : Spread (onward words n) seed label step (λ j. get_or marks₁ j 0) w.done [] m
      all_done = subst (λ l. Spread (onward words n) seed label step (λ j. get_or marks₁ j 0) w.done l m) none-waits w.spread

      F : cells_of Q ≡ flood_from kind (open_cells words n marks) (row_cell words seed)
      F =
          each_append (row_cell words) w.done w.waiting
          ∙ ap (λ l. cells_of w.done ++ l) (ap cells_of none-waits ∙ sym (seek-nil kind (open_cells words n f.marks)) ∙ ap (λ l. seek kind (cells_of l) (open_cells words n f.marks)) (sym none-waits))
          ∙ w.walk
          ∙ flood-is

      all : cells_of (queued f) ≡ flood_from kind (open_cells words n marks) (row_cell words seed)
      all = ap cells_of w.rows ∙ F

      size : f.end ≡ length (flood_from kind (open_cells words n marks) (row_cell words seed))
      size = sym long ∙ sym (each-length (row_cell words) Q) ∙ ap length F

      flat : step ≡ 0 → (j : ℕ) → j < n → m j ≡ cond (has same (flood_from kind (open_cells words n marks) (row_cell words seed)) (row_cell words j)) label (get_or marks j 0)
      flat z j u =
          ⊎_elim
          (λ l. spread-flat (onward words n) seed label step (λ j. get_or marks₁ j 0) z w.done w.waiting m w.spread j l
          ∙ sym (cond_yes (has same (flood_from kind (open_cells words n marks) (row_cell words seed)) (row_cell words j)) label (get_or marks j 0)
          (has_of cells (subst (λ q. Mem (row_cell words j) q) F (each_in (row_cell words) l)))))
          (λ l. w.spread.kept j l ∙ other j (λ e. l (mem-cast e w.spread.seeded))
          ∙ sym (cond_no (has same (flood_from kind (open_cells words n marks) (row_cell words seed)) (row_cell words j)) label (get_or marks j 0)
          (hasnt-of cells (row_cell words j) (flood_from kind (open_cells words n marks) (row_cell words seed))
          (λ q. let r = each-out (row_cell words) Q (subst (λ c. Mem (row_cell words j) c) (sym F) q) in
          l (mem-cast (row-once words n a.table k j r.0 u (w.under r.0 r.1) r.2) r.1)))))
          (mem-or numbers j Q)

      pub wave-end : Flooded kind words n seed label step marks queue f.end f.marks f.queue
      wave-end =
          record {
            number = size;
            few = wave-few;
            order = all;
            rows = λ j g. subst (λ v. v < n) (get_or-take f.end f.queue j 0 g)
                (w.under (get_or (queued f) j 0) (subst (λ l. Mem (get_or (queued f) j 0) l) w.rows (get_d-mem (queued f) j 0 (omega (arith, long, ap length w.rows)))));
            behind = w.behind ∙ drop-set-lt f.end queue 0 seed some;
            reached = flat;
            levels = λ el es z.
                spread-levels words n seed (λ j. get_or marks₁ j 0) w.done f.marks
                (subst (λ v. Spread (onward words n) seed v 1 (λ j. get_or marks₁ j 0) w.done [] m) el (subst (λ v. Spread (onward words n) seed label v (λ j. get_or marks₁ j 0) w.done [] m) es all_done))
                (onward-back words n a.table k) (λ i j u l. onward-under words n a.table k i u j l)
                (subst (λ q. (j : ℕ) → Mem j (w.done ++ q) → j < n) none-waits w.under)
                (omega (arith, wave-few, long, ap (λ q. length (w.done ++ q)) none-waits))
                (λ j u g. other j g ∙ z j u);
            beyond = w.beyond ∙ drop-set-lt n marks seed label a.seeded;
            marks_kept = w.marks_kept ∙ length-set marks seed label;
            queue_kept = w.queue_kept ∙ length-set queue 0 seed;
          }
        where
          some : 0 < f.end
          some = omega (arith, long, mem-some Q w.spread.seeded)

    module _ (b : h < f.end) (i : ℕ) (is : i ≡ get_or f.queue h 0) where
      -- The row to be done waits first.
      next : (W : List ℕ) × (w.waiting ≡ i ∷ W)
      next = go w.waiting refl
        where
          go : (l : List ℕ) → w.waiting ≡ l → (W : List ℕ) × (w.waiting ≡ i ∷ W)
          go [] e = absurd (omega (arith, b, long, w.number, length-append w.done w.waiting, ap length e))
          go (x ∷ W) e =
              let at : i ≡ x =
              is ∙ sym (get_or-take f.end f.queue h 0 b)
              ∙ (λ d. get_or ((w.rows ∙ ap (λ l. w.done ++ l) e) d) (sym w.number d) 0)
              ∙ get_d-behind w.done x W in
              (W, e ∙ ap (λ v. v ∷ W) (sym at))

      abbrev W : List ℕ
      W = next.0

      abbrev c : Cell
      c = row_cell words i

      abbrev L : List ℕ
      L = onward words n i

      i-in : Mem i Q
      i-in = append_right w.done (subst (λ l. Mem i l) (sym next.1) (head refl))

      -- It is there.
      pub wave-row : i < n
      wave-row = w.under i i-in

      -- The mark of the rows that it leads to is a word.
      pub wave-small : m i + step < 18446744073709551616
      wave-small = omega (arith, w.spread.low i i-in, mul-le-mul_left step (subst (λ v. v ≤ n) (sym long) wave-few), a.small)

      abbrev R : List ℕ
      R = fresh f L

      R-open : (j : ℕ) → Mem j R → m j ≡ 0
      R-open j r = eqb→eq (m j) 0 (keep_out (is_open f.marks) L r).1

      R-under : (j : ℕ) → Mem j R → j < n
      R-under j r = onward-under words n a.table k i wave-row j (keep_out (is_open f.marks) L r).0

      more-once : Once (Q ++ R)
      more-once =
          once-append Q R w.once (once-keep (is_open f.marks) L (onward-once words n a.table k i wave-row))
          (λ j q r. let z = R-open j r in let g = w.spread.high j q in a.labelled (omega arith))

      more-few : f.end + length R ≤ n
      more-few =
          omega (
            arith,
            long,
            length-append Q R,
            count-length 0 n,
            once-shorter more-once (count 0 n) (λ j q. counted n j (⊎_elim (w.under j) (R-under j) (append_cases Q q))),
          )

      abbrev g : Front
      g = pushed (m i + step) f L

      pushes : Pushed (m i + step) n f R g
      pushes =
          pushed-all (m i + step) n L f (onward-once words n a.table k i wave-row) (onward-under words n a.table k i wave-row) wave-fits (omega (arith, more-few, wave-room))

      -- The queue has space for the list.
      pub wave-space : g.end ≤ length f.queue
      wave-space = omega (arith, pushes.end, more-few, wave-room)

      -- The rows of the list are there.
      pub wave-there : (j : ℕ) → j < 26 → bit (row_mask words i) j ≡ true → row_for words n (row_near words i j) < n
      wave-there = row-lead words n a.table k i wave-row

      -- The mask is exact.
      pub wave-exact : (j : ℕ) → j < 26 → bit (row_mask words i) j ≡ leads_to (touch_at kind) (keys (table4 cell_width n words)) (row_cell words i) (offset_at j)
      wave-exact = row-bit words n a.table k i wave-row

      abbrev m' : ℕ → ℕ
      m' j = get_or g.marks j 0

      R-marked : (j : ℕ) → Mem j R → m' j ≡ m i + step
      R-marked j r = pushes.marked j ∙ cond_yes (has eqb R j) (m i + step) (m j) (has_of numbers r)

      old : (j : ℕ) → (Mem j R → ⊥) → m' j ≡ m j
      old j r = pushes.marked j ∙ cond_no (has eqb R j) (m i + step) (m j) (hasnt-of numbers j R r)

      all-in : (j : ℕ) → Mem j L → m j ≡ 0 → Mem j R
      all-in j l z = keep-in (is_open f.marks) l (eqb_of (m j) 0 z)

      less : (j : ℕ) → j < n → is_open g.marks j ≡ (is_open f.marks j && not (touch_at kind c (row_cell words j)))
      less j u =
          same_test (is_open g.marks j) (is_open f.marks j && not (touch_at kind c (row_cell words j)))
          (λ t. let z : m' j ≡ 0 = eqb→eq (m' j) 0 t in
          ⊎_elim (λ r. absurd (let e = R-marked j r in let v = w.spread.high i i-in in a.labelled (omega arith)))
          (λ r. let y : m j ≡ 0 = sym (old j r) ∙ z in
          and_both (is_open f.marks j) _ (eqb_of (m j) 0 y) (not_T (touch_at kind c (row_cell words j)) (λ v. r (all-in j (touch-onward words n a.table k i j wave-row u v) y))))
          (mem-or numbers j R))
          (λ t. eqb_of (m' j) 0
          (old j (λ r. T_not (touch_at kind c (row_cell words j)) (and-snd (is_open f.marks j) _ t) (onward-touch words n a.table k i j wave-row (keep_out (is_open f.marks) L r).0))
          ∙ eqb→eq (m j) 0 (and-fst (is_open f.marks j) _ t)))

      turn : seek kind (c ∷ cells_of W) (open_cells words n f.marks) ≡ c ∷ seek kind (cells_of (W ++ R)) (open_cells words n g.marks)
      turn =
          seek-next kind c (cells_of W) (open_cells words n f.marks)
          ∙ (λ d. c ∷ seek kind ((ap (λ l. cells_of W ++ l) (open-touching words n a.table k i wave-row f.marks) ∙ sym (each_append (row_cell words) W R)) d)
          (open-less words n a.table k (touch_at kind c) f.marks g.marks less d))

      more : (w.done ++ (i ∷ [])) ++ (W ++ R) ≡ Q ++ R
      more = queue-more w.done W R i ∙ ap (λ l. (w.done ++ l) ++ R) (sym next.1)

      -- The row is done.
      pub wave-step : Wave kind words n seed label step marks₁ queue₁ (h + 1) g
      wave-step =
          record {
            done = w.done ++ (i ∷ []);
            waiting = W ++ R;
            number = omega (arith, length-append w.done (i ∷ []), w.number);
            rows = pushes.queued ∙ ap (λ l. l ++ R) w.rows ∙ sym more;
            fits = omega (arith, wave-space, pushes.queue_kept);
            under = λ j q. ⊎_elim (w.under j) (R-under j) (append_cases Q (subst (λ l. Mem j l) more q));
            once = subst Once (sym more) more-once;
            walk =
                ap (λ l. l ++ seek kind (cells_of (W ++ R)) (open_cells words n g.marks)) (each_append (row_cell words) w.done (i ∷ []))
                ∙ append_assoc (cells_of w.done) (c ∷ []) (seek kind (cells_of (W ++ R)) (open_cells words n g.marks))
                ∙ ap (λ l. cells_of w.done ++ l) (sym turn ∙ ap (λ l. seek kind (cells_of l) (open_cells words n f.marks)) (sym next.1))
                ∙ w.walk;
            spread =
                spread-step (onward words n) seed label step (λ j. get_or marks₁ j 0) w.done W R i m m' a.labelled
                (subst (λ l. Spread (onward words n) seed label step (λ j. get_or marks₁ j 0) w.done l m) next.1 w.spread)
                (λ j r. ((keep_out (is_open f.marks) L r).0, R-open j r, R-marked j r)) old all-in;
            behind = pushes.behind ∙ deeper;
            beyond = pushes.beyond ∙ w.beyond;
            marks_kept = pushes.marks_kept ∙ w.marks_kept;
            queue_kept = pushes.queue_kept ∙ w.queue_kept;
          }
        where
          deeper : drop g.end f.queue ≡ drop g.end queue₁
          deeper =
              ap (λ v. drop v f.queue) pushes.end
              ∙ sym (drop-drop (length R) f.end f.queue)
              ∙ ap (drop (length R)) w.behind
              ∙ drop-drop (length R) f.end queue₁
              ∙ ap (λ v. drop v queue₁) (sym pushes.end)
