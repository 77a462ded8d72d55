-- What is put in a batch is read back as the move that the event makes, and number 4 never refuses it.
use Rattle.std.specs.Prelude.{ℕ, ◌+◌, ◌≡◌, Bool, true, false, not, cond, List, ◌++◌, T, leb, length, Result}
use Rattle.std.proofs.Common.{sym, ap, ◌∙◌, leb-true}
use Rattle.std.proofs.Math.Seq.{take-append_seam, drop-append_seam}
use Rattle.std.specs.Float.{binary64}
use Rattle.std.specs.Float.Ieee.{fits}
use Rattle.component.specs.Coord.{coord_in_range}
use Rattle.refusal.specs.declared.Refusal.{Refusal}
use Rattle.refusal.specs.Forms.{Refused, none, too_short, outcome}
use Rattle.refusal.proofs.Theorems.{outcome-one}
use Rattle.model.specs.Lists.{all, each, gather}
use Rattle.model.specs.Update.{out_of_range}
use Rattle.table.specs.Moves.{over}
use Rattle.batch.specs.Words.{move_at, moves_in, batch_of}
use Rattle.metres.specs.declared.Frame.{Frame}
use Rattle.metres.specs.declared.Report.{Report}
use Rattle.metres.specs.declared.Placing.{Placing}
use Rattle.metres.specs.Answer.{answer, Event}
use Rattle.metres.proofs.Theorems.Events.{event-sound}
use Rattle.layout.specs.Widths.{move_width}
use Rattle.moves.specs.Words.{move_words, moved, move_of}
use Rattle.moves.specs.Laws.Words.{move-there, moves-back, moves-in}

-- Any two answers that the promise of `put_move` allows are equal.
pub put-unique : (s : List ℕ) (at : ℕ) (e : Placing) (p q : Result (Unit {0}) Refusal × List ℕ) → (outcome p.0, p.1) ≡ moved s at e → (outcome q.0, q.1) ≡ moved s at e → p ≡ q
put-unique s at e p q h k =
    let t : ◌≡◌ {A = Refused × List ℕ} (outcome p.0, p.1) (outcome q.0, q.1) = h ∙ sym k in
    λ i. (outcome-one p.0 q.0 (λ j. (t j).0) i, (t i).1)

-- What `event_of` answers is in range.
pub event-in-range : (f : Frame) (r : Report) (entity grid : ℕ) (e : Placing) → T (fits binary64 f.edge) → answer f r entity grid ≡ Event e → coord_in_range e.cell.coord ≡ true
event-in-range f r entity grid e t h = (event-sound f t entity grid r e h).within

-- Every event of a list has its cell in range.
abbrev pub all_in : List Placing → Bool
all_in es = all (λ (e : Placing). coord_in_range e.cell.coord) es

-- Where a move was put, it is read back: the event's entity goes to the event's cell.
pub put-reads-back : (s : List ℕ) (at : ℕ) (e : Placing) → leb (at + move_width) (length s) ≡ true → coord_in_range e.cell.coord ≡ true → move_at (moved s at e).1 at ≡ move_of e
unfolding moved
put-reads-back s at e h k =
    ap (λ (t : Bool). move_at (cond {A = Refused × List ℕ} t (none, over s at (move_words e)) (too_short, s)).1 at) h
    ∙ move-there s at e (leb-true (at + move_width) (length s) h) k

-- A batch of removals and of the moves of events is read back as these.
pub batch-reads-back : (removals : List ℕ) (es : List Placing) → all_in es ≡ true
    → batch_of (removals ++ gather move_words es) (length removals) (length es) ≡ record { removals = removals; moves = each move_of es }
unfolding batch_of
batch-reads-back removals es h =
    let g = gather move_words es in
    λ i. record { removals = take-append_seam removals g i; moves = (ap (moves_in (length es)) (drop-append_seam removals g) ∙ moves-back es h) i }

-- Number 4 does not refuse it.
pub never-out-of-range : (removals : List ℕ) (es : List Placing) → all_in es ≡ true → out_of_range (batch_of (removals ++ gather move_words es) (length removals) (length es)) ≡ false
never-out-of-range removals es h = ap out_of_range (batch-reads-back removals es h) ∙ ap not (moves-in es h)
