-- The rows that a flood queues, and its answer by them.
use Rattle.std.specs.Prelude.{ℕ, ◌*◌, ◌≤◌, ◌<◌, min, ◌≡◌, true, false, List, [], length, take, get_or, replicate}
use Rattle.std.proofs.Common.{arith, sym, ◌∙◌, ⊎_elim, length-take, take_all}
use Rattle.std.proofs.Math.Path.{ap}
use Rattle.std.proofs.Math.Dec.{leb}
use Rattle.std.proofs.lemmas.List.{length-replicate, get_or-replicate}
use Rattle.component.specs.Laws.Tests.{le-or-lt}
use Rattle.model.specs.Lists.{has, keys, gather}
use Rattle.model.specs.Cells.{Cell, same, touch_at}
use Rattle.model.specs.Flood.{Flood, Depth, flood_cells, whole_flood, flood}
use Rattle.model.proofs.Laws.Tests.{T_false}
use Rattle.model.proofs.Laws.Orders.{cells}
use Rattle.model.proofs.Laws.Members.{of-hasnt}
use Rattle.model.proofs.Laws.Floods.{whole-none, whole-visit}
use Rattle.model.proofs.Theorems.FloodExact.{flood-nothing}
use Rattle.model.specs.Update.{most_cells}
use Rattle.layout.specs.Widths.{answer_width}
use Rattle.layout.specs.Rows.{cells_in}
use Rattle.neighbourhood.specs.Rows.{row_cell}
use Rattle.neighbourhood.specs.Standing.{Cells, open_cells, Floodable, Flooded}
use Rattle.neighbourhood.specs.Answers.{answer_words, filled, Queued, cells_of_rows}
use Rattle.neighbourhood.proofs.Laws.Filling.{words_long, rows_long, rows-front}
use Rattle.neighbourhood.proofs.Laws.Reads.{row-once}
use Rattle.neighbourhood.proofs.Laws.Unmarked.{open-once, open_in, open-out}
use Rattle.told.specs.Told.{done, too_long}
use Rattle.told.specs.Laws.Fitting.{fitted-long, fitted-fits, fitted_none}
use Rattle.lists.specs.Parts.{having}
use Rattle.floods.specs.Told.{visited, flooded}
use Rattle.floods.specs.Parts.{FloodAsked, Visits}

-- The first of a list, with no more than there are.
take-least : {A : Type 0} (a : ℕ) (l : List A) → take (min a (length l)) l ≡ take a l
take-least a l =
    ⊎_elim (λ h. let e : min a (length l) ≡ a = omega arith in ap (λ (m : ℕ). take m l) e)
    (λ h. let e : min a (length l) ≡ length l = omega arith in ap (λ (m : ℕ). take m l) e ∙ take_all (length l) l (omega arith) ∙ sym (take_all a l (omega arith))) (le-or-lt a (length l))

-- From an unoccupied seed there is no flood, and that is all of it.
pub flooded-none : (kind : ℕ) (t : List (Cell × ℕ)) (c : Cell) (depth : Depth) (budget : ℕ) (answer : List ℕ) → has same (keys t) c ≡ false
    → (done (false, record { number = 0; was_all = true }), answer) ≡ flooded (has same (keys t) c) (flood (touch_at kind) (having t).occupancy c depth budget) answer
flooded-none kind t c depth budget answer e =
    let z : record { cells = []; number = 0; was_all = true } ≡ flood (touch_at kind) (having t).occupancy c depth budget =
    sym (flood-nothing (touch_at kind) (having t).occupancy c depth budget (of-hasnt cells (keys t) (T_false e))) in
    fitted_none (false, record { number = 0; was_all = true }) answer
    ∙ (λ i. flooded (sym e i) (z i) answer)

-- A flood can be asked with rows that are all zero.
pub flood-asked : {kind : ℕ} (words : List ℕ) (n seed m : ℕ) → Cells kind words n (cells_in n words) → seed < n → n ≤ most_cells → n ≤ m → FloodAsked words n seed (replicate m 0) (replicate m 0)
flood-asked {kind} words n seed m k h f g =
    record {
      kind = kind;
      cells = k;
      seeded = h;
      few = f;
      clear = λ j l. get_or-replicate m j 0 0 (omega arith);
      marks_fit = omega (arith, length-replicate {A = ℕ} m 0);
      queue_fits = omega (arith, length-replicate {A = ℕ} m 0);
    }

module _ {kind : ℕ} (words : List ℕ) (n : ℕ) (t : List (Cell × ℕ)) (k : Cells kind words n t) (seed : ℕ) (h : seed < n) (marks : List ℕ) where
  abbrev free : List Cell
  free = open_cells words n marks

  -- A flood from a marked row visits nothing.
  pub visits-none : (queue : List ℕ) → (get_or marks seed 0 ≡ 0 → ⊥) → Visits words n queue 0 (whole_flood (touch_at kind) (open_cells words n marks) (row_cell words seed))
  visits-none queue f =
      record {
        rows = record { fits = k.fits; few = omega arith; there = λ j l. absurd (omega arith) };
        few = omega arith;
        order =
            sym (whole-none (touch_at kind) free (row_cell words seed)
            (λ m. let r = open-out words n marks m in f (ap (λ (j : ℕ). get_or marks j 0) (row-once words n t k seed r.0 h r.1 r.3) ∙ r.2)));
      }

  -- A flood can begin from another.
  pub floodable : get_or marks seed 0 ≡ 0 → n ≤ length marks → (queue : List ℕ) → n ≤ length queue → Floodable words n seed 1 0 marks queue
  floodable z f queue g =
      record {
        kind = kind;
        table = t;
        cells = k;
        seeded = h;
        unmarked = z;
        labelled = λ e. omega arith;
        small = omega arith;
        marks_fit = f;
        queue_fits = g;
      }

  -- It visits what the unmarked rows have.
  pub visits-open : get_or marks seed 0 ≡ 0 → (queue : List ℕ) (r : ℕ) (marks' queue' : List ℕ) → Flooded kind words n seed 1 0 marks queue r marks' queue' → n ≤ length queue
      → Visits words n queue' r (whole_flood (touch_at kind) (open_cells words n marks) (row_cell words seed))
  visits-open z queue r marks' queue' d g =
      record {
        rows = record { fits = k.fits; few = omega (arith, d.few, d.queue_kept); there = d.rows };
        few = d.few;
        order = d.order ∙ sym (whole-visit (touch_at kind) free (open-once words n t k marks) (row_cell words seed) (open_in words n marks seed h z));
      }

module _ (kind : ℕ) (words : List ℕ) (n : ℕ) (t : List (Cell × ℕ)) (c : Cell) (depth : Depth) (budget : ℕ) (queue : List ℕ) (r : ℕ)
    (v : Visits words n queue r (whole_flood (touch_at kind) (flood_cells depth c (keys t)) c)) (number : ℕ) (en : number ≡ min budget r) where
  abbrev all : List Cell
  all = whole_flood (touch_at kind) (flood_cells depth c (keys t)) c

  long : r ≡ length all
  long = sym (rows_long words queue r v.rows.few) ∙ ap length v.order

  -- The first of the rows are there too.
  pub visits-rows : Queued words n queue number
  visits-rows = record { fits = v.rows.fits; few = omega (arith, en, v.rows.few); there = λ j l. v.rows.there j (omega (arith, en)) }

  cells_are : cells_of_rows words queue number ≡ take budget all
  cells_are =
      rows-front words queue r v.rows.few number (omega (arith, en))
      ∙ ap (take number) v.order
      ∙ ap (λ (m : ℕ). take m all) (en ∙ ap (min budget) long)
      ∙ take-least budget all

  number_is : number ≡ length (take budget all)
  number_is = en ∙ ap (min budget) long ∙ sym (length-take budget all)

  abbrev asked : Flood
  asked = flood (touch_at kind) (having t).occupancy c depth budget

  size : length (gather answer_words (take budget all)) ≡ answer_width * number
  size = words_long (take budget all) ∙ ap (λ (m : ℕ). answer_width * m) (sym number_is)

  -- Too long for its slice.
  pub flooded-long : (answer : List ℕ) → length answer < answer_width * number → (too_long (answer_width * number), answer) ≡ flooded true asked answer
  flooded-long answer g =
      ap (λ (m : ℕ). (too_long m, answer)) (sym size)
      ∙ fitted-long (true, visited asked) (gather answer_words (take budget all)) answer (omega (arith, size))

  -- Written.
  pub flooded-fits : (answer answer' : List ℕ) → answer_width * number ≤ length answer → answer' ≡ filled answer (cells_of_rows words queue number)
      → (done (true, record { number = number; was_all = leb r budget }), answer') ≡ flooded true asked answer
  unfolding filled
  flooded-fits answer answer' g f =
      (λ i. (done (true, record { number = number_is i; was_all = leb (long i) budget }), (f ∙ ap (filled answer) cells_are) i))
      ∙ fitted-fits (true, visited asked) (gather answer_words (take budget all)) answer (omega (arith, size))
