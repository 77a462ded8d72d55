-- What is left of the events decides for all.
use native.Mathlib.Omega.{arith}
use Prim.Native.Nat.{◌+◌}
use mathlib.Core.Path.{◌≡◌, refl, sym, ap}
use Rattle.model.specs.Occupancy.{events}
use Rattle.refusal.specs.Forms.{Refused}
use Rattle.std.proofs.lemmas.Result.{err_from_is_err_and}
use Rattle.refusal.proofs.Theorems.{form-refuses}
use Rattle.batch.specs.Words.{batch_of}
use Rattle.map.specs.Laws.Kept.{kept-same, kept-both}
use Rattle.map.proofs.Moving.{same-held}
use Rattle.batch_events.specs.Events.{event_at}
use Rattle.batch_events.specs.Playing.{judged}
use Rattle.batch_events.specs.Laws.Events.{events_left, events-start, events-step, events-end, events-fit}
use Rattle.batch_events.specs.Laws.Going.{going_start, going-at, going-kind, going-stop, going_next, going_end, outcome-kind}
use Rattle.batch_events.proofs.play_batch.Goals as goal

pub loop-i-init : goal.loop-i-init
loop-i-init c =
    let a = c.args in
    let b = a.batch.now in
    (kept-same a.tables.now, λ was o r. going_start r (events (batch_of b a.removals a.moves)) (events_left b a.removals a.moves 0) (events-start b a.removals a.moves))

pub play_event-requires : goal.play_event-requires
play_event-requires c =
    let a = c.args in
    let p = c.requires in
    let l = c.loop-i in
    let g = l.invariant.1 p.0 p.1 p.2 in
    (p.0, g.at, g.ready, events-fit a.batch.now a.removals a.moves p.3 p.4 l.i c.loop-i-test.true)

pub returns-in_err-judge-clause-ends : goal.returns-in_err-judge-clause-ends
returns-in_err-judge-clause-ends c =
    let a = c.args in
    let b = a.batch.now in
    let l = c.loop-i in
    let k = c.play_event.ensures in
    let e = c.in_err-judge.field-0.0 in
    let p = err_from_is_err_and c.from_residual.result c.from_residual.ensures.1 in
    λ was o r.
    let g = going-at (events-step b a.removals a.moves (omega (arith, c.requires.3)) l.i c.loop-i-test.true) (l.invariant.1 was o r) in
    rw (p.1, p.2) (outcome-kind k.kept.kind (going-stop (event_at b a.removals l.i) (events_left b a.removals a.moves (l.i + 1)) g (same-held (sym k.kept.kind) refl (k.held g.at g.ready.held)) c.in_err-judge.ensures (form-refuses e)))

pub loop-i-preserved : goal.loop-i-preserved
loop-i-preserved c =
    let a = c.args in
    let b = a.batch.now in
    let l = c.loop-i in
    let k = c.play_event.ensures in
    let q = k.kept in
    let z : judged c.play_event.new.tables.counts ≡ 0 = ap (λ (x : Refused). x.number) (sym c.in_ok-judge.ensures) in (
      kept-both q l.invariant.0,
      λ was o r.
          let g = going-at (events-step b a.removals a.moves (omega (arith, c.requires.3)) l.i c.loop-i-test.true) (l.invariant.1 was o r) in
          going-kind q.kind
          (going_next (event_at b a.removals l.i) (events_left b a.removals a.moves (l.i + 1)) g (same-held (sym q.kind) refl (k.held g.at g.ready.held))
          q.entities-long q.cells-long q.crowd-long q.occupied-long q.emptied-long z),
    )

pub returns-clause-ends : goal.returns-clause-ends
returns-clause-ends c =
    let a = c.args in
    let b = a.batch.now in
    let l = c.loop-i in
    λ was o r. going_end (events_left b a.removals a.moves l.i) (events-end b a.removals a.moves (omega (arith, c.requires.3)) l.i c.loop-i-test.false) (l.invariant.1 was o r)
