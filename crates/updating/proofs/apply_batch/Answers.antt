-- The length of zeros.
use Prim.Native.Nat.{ℕ}
use native.Mathlib.Omega.{arith}
use mathlib.Core.Path.{◌≡◌, refl, sym, ◌∙◌}
use mathlib.Core.List.{List}
use lib.ListN.{length, replicate, length-replicate}
use Rattle.std.proofs.lemmas.Result.{err_from_is_err_and}
use Rattle.model.specs.Occupancy.{occupied, start_batch}
use Rattle.layout.specs.State.{decode, next_id, kind_of}
use Rattle.refusal.proofs.Theorems.{form-refuses}
use Rattle.batch.specs.Words.{batch_of}
use Rattle.map.specs.declared.Counts.{Counts}
use Rattle.batch_events.specs.Playing.{Ready}
use Rattle.batch_events.specs.Laws.Going.{outcome-kind}
use Rattle.updating.specs.Known.{Known}
use Rattle.updating.specs.Steps.{entity_space, cell_space, crowd_space, net_space, Opened}
use Rattle.updating.specs.Laws.Steps.{zeros-blank, entities-spare, cells-spare, net-spare, map-ready}
use Rattle.updating.specs.Laws.Answers.{early-ranged, broken-answer, can-finish, done-answer}
use Rattle.updating.proofs.apply_batch.Goals as goal

zeros : (n : ℕ) → length (replicate {A = ℕ} n 0) ≡ n
zeros n = length-replicate {A = ℕ} n 0

-- A map that is opened in zeros is ready.
ready : {w ents cells crowd : List ℕ} {n : Counts} → Known w → Opened w ents cells crowd n
    → length ents ≡ length (replicate {A = ℕ} entity_space 0) → length cells ≡ length (replicate {A = ℕ} cell_space 0) → length crowd ≡ length (replicate {A = ℕ} crowd_space 0)
    → Ready (kind_of w) ents cells crowd (replicate net_space 0) (replicate net_space 0) n (occupied (decode w).occupancy) (start_batch (decode w).occupancy)
ready {w} {ents} {cells} {crowd} {n} k o a b d =
    map-ready w k ents cells crowd (replicate net_space 0) (replicate net_space 0) n o (a ∙ zeros entity_space) (b ∙ zeros cell_space) (d ∙ zeros crowd_space)
    (zeros-blank net_space) (zeros net_space) (zeros-blank net_space) (zeros net_space)

pub open_map-counts-requires : goal.open_map-counts-requires
open_map-counts-requires c =
    (c.requires.0, zeros-blank entity_space, omega (arith, entities-spare, zeros entity_space), zeros-blank cell_space, omega (arith, cells-spare, zeros cell_space), zeros-blank crowd_space, omega (arith, zeros crowd_space))

pub play_batch-requires : goal.play_batch-requires
play_batch-requires c =
    let a = c.args in let w = a.state.now in let q = c.open_map-counts in
    let d = ready c.requires.0 q.ensures q.auto.ents q.auto.cells q.auto.crowd in
    (occupied (decode w).occupancy, start_batch (decode w).occupancy, d, c.requires.1, early-ranged (next_id w) a.batch.now a.removals a.moves c.requires.2)

pub returns-in_err-play_batch : goal.returns-in_err-play_batch
returns-in_err-play_batch c =
    let a = c.args in let w = a.state.now in let q = c.open_map-counts in
    let d = ready c.requires.0 q.ensures q.auto.ents q.auto.cells q.auto.crowd in
    let e = c.in_err-play_batch.field-0.0 in
    let p = err_from_is_err_and c.from_residual.result c.from_residual.ensures.1 in
    let x = outcome-kind (sym c.in_err-play_batch.ensures.kept.kind) (c.in_err-play_batch.ensures.ends (occupied (decode w).occupancy) (start_batch (decode w).occupancy) d) in
    rw (p.1, p.2) (broken-answer w c.requires.0 (batch_of a.batch.now a.removals a.moves) c.requires.2 x.number (form-refuses e))

pub finish-requires : goal.finish-requires
finish-requires c =
    let a = c.args in let w = a.state.now in let q = c.open_map-counts in
    let d = ready c.requires.0 q.ensures q.auto.ents q.auto.cells q.auto.crowd in
    let m = batch_of a.batch.now a.removals a.moves in
    let k = c.in_ok-play_batch.ensures.kept in
    let x = outcome-kind (sym k.kind) (c.in_ok-play_batch.ensures.ends (occupied (decode w).occupancy) (start_batch (decode w).occupancy) d) in (
      m,
      can-finish w c.requires.0 m c.requires.2 x.number refl (x.ready refl),
      omega (arith, entities-spare, k.entities-long, q.auto.ents, zeros entity_space),
      omega (arith, cells-spare, k.cells-long, q.auto.cells, zeros cell_space),
      omega (arith, net-spare, k.occupied-long, zeros net_space),
      omega (arith, net-spare, k.emptied-long, zeros net_space),
      k.kind,
    )

pub returns : goal.returns
returns c =
    let a = c.args in let w = a.state.now in let q = c.open_map-counts in
    let d = ready c.requires.0 q.ensures q.auto.ents q.auto.cells q.auto.crowd in
    let m = batch_of a.batch.now a.removals a.moves in
    let k = c.in_ok-play_batch.ensures.kept in
    let x = outcome-kind (sym k.kind) (c.in_ok-play_batch.ensures.ends (occupied (decode w).occupancy) (start_batch (decode w).occupancy) d) in
    done-answer w c.requires.0 m c.requires.2 x.number refl (c.finish.ensures m (can-finish w c.requires.0 m c.requires.2 x.number refl (x.ready refl)))
